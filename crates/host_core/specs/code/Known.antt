-- What is known of the volume, until it changes.
use Rattle.std.specs.Prelude.{◌≡◌, ℕ, ◌==◌, ◌&&◌, true, List, [], ◌∷◌, Option, None, Some, IfSome, if◌then◌else◌}
use Rattle.blk_base.specs.Members.{In}
use Rattle.tree_model.specs.declared.call.Call.{Call}
use Rattle.volume_steps.specs.Now.{VolumeNow}
use Rattle.minix_host.specs.Calls.{refusal, needed, would_change}
use Rattle.host_core.specs.Entries.{call_in}
use Rattle.host_core.specs.at_once.code.Waiting.{waits_below}
use Rattle.host_core.specs.declared.known.Known.{Known}
use Rattle.host_core.specs.declared.known.KnownCall.{KnownCall}
use Rattle.host_core.specs.declared.known.ZonesToCome.{ZonesToCome}

-- nothing refuses the call, it would change the tree or a page, and it takes so many zones
pub record TakesZones (v : VolumeNow) (c : Call) (zones : ℕ) : Type 0 where
  pub refused : refusal v c ≡ None
  pub changes : would_change v c ≡ true
  pub takes : zones ≡ needed v c

-- so many zones wait for transactions before that one, where this is known
abbrev pub AreToCome : VolumeNow → Option ZonesToCome → Type 0
AreToCome v known = IfSome known (λ z. z.zones ≡ waits_below v z.before)

-- how many zones the call at this place of this thread takes, by the first that is noted for it
abbrev pub zones_known : ℕ → ℕ → List KnownCall → Option ℕ
zones_known thread place [] = None
zones_known thread place (k ∷ ks) = if k.thread == thread && k.place == place then Some k.zones else zones_known thread place ks

-- All that is known is so, for the callers' programs.
pub record IsKnown (programs : List (List Call)) (v : VolumeNow) (k : Known) : Type 0 where
  pub calls : (x : KnownCall) → In x k.calls.items → TakesZones v (call_in programs x.thread x.place) x.zones
  pub to_come : AreToCome v k.to_come

-- So is what is known of this call, at its place in the program of its thread.
pub record IsKnownOf (thread place : ℕ) (c : Call) (v : VolumeNow) (k : Known) : Type 0 where
  pub call : (zones : ℕ) → zones_known thread place k.calls.items ≡ Some zones → TakesZones v c zones
  pub to_come : AreToCome v k.to_come

-- What is known stays so where the volume and that become these.
abbrev pub StaysKnown : VolumeNow → VolumeNow → Known → Known → Type 0
StaysKnown v w k l = (programs : List (List Call)) → IsKnown programs v k → IsKnown programs w l

-- It stays so in a step of this call.
abbrev pub StaysKnownBy : ℕ → ℕ → Call → VolumeNow → VolumeNow → Known → Known → Type 0
StaysKnownBy thread place c v w k l = (programs : List (List Call)) → call_in programs thread place ≡ c → IsKnown programs v k → IsKnown programs w l
