-- What is known of the volume stays so.
use Rattle.std.proofs.Common.{◌≡◌, ℕ, ◌==◌, ◌&&◌, Bool, true, false, List, [], ◌∷◌, map, Option, Some, None, if◌then◌else◌, unwrap_or, slice_get, refl, sym, ap, subst, ◌∙◌, ◌⊎◌, inl, inr}
use Rattle.std.proofs.lemmas.Bool.{false≢true, and_parts, eqb-true}
use Rattle.std.proofs.lemmas.Option.{none-some}
use Rattle.blk_base.specs.Members.{In}
use Rattle.blk_base.specs.laws.Members.{slice_get-map_some}
use Rattle.tree_model.specs.declared.call.Call.{Call}
use Rattle.tree_model.specs.declared.call.Call.TheVariants as calls
use Rattle.flush_actor.specs.Kinds.{is_begun, is_reading}
use Rattle.volume_steps.specs.Now.{VolumeNow, Change}
use Rattle.volume_steps.specs.Calls.{called}
use Rattle.minix_host.specs.Calls.{kind_of, refusal, would_change}
use Rattle.journal_ring.specs.running.Plan.{Writers}
use Rattle.tree_model.specs.declared.call.Reply.{Reply}
use Rattle.host_machine.specs.State.{Answered}
use Rattle.host_core.specs.at_once.Steps.{CallParts, steps_plainly}
use Rattle.host_core.specs.Entries.{call_in}
use Rattle.host_core.specs.code.Fields.{program_of}
use Rattle.host_core.specs.code.Known.{zones_known, TakesZones, AreToCome, IsKnown, IsKnownOf, StaysKnown}
use Rattle.host_core.specs.code.Progress.{Went, Over, Opened, begins_at, starts, went_plainly}
use Rattle.host_core.specs.declared.known.Known.{Known}
use Rattle.host_core.specs.declared.known.KnownCall.{KnownCall}
use Rattle.host_core.specs.declared.thread.Thread.{Thread}
use Rattle.host_core.proofs.AtOnceLemmas.Finds.{reading_keeps}

-- what is found for a call is noted of it
pub noted_there : (thread place zones : ℕ) (xs : List KnownCall) → zones_known thread place xs ≡ Some zones → In (record { thread = thread; place = place; zones = zones }) xs
noted_there thread place zones [] e = absurd (none-some zones e)
noted_there thread place zones (x ∷ xs) e = by (noted_there thread place zones xs) (x.thread == thread && x.place == place) refl
  where
    found : Bool → Option ℕ
    found b = if b then Some x.zones else zones_known thread place xs

    at : ℕ → ℕ → ℕ → KnownCall
    at t n z = record { thread = t; place = n; zones = z }

    by : (zones_known thread place xs ≡ Some zones → In (at thread place zones) xs) → (b : Bool) → (x.thread == thread && x.place == place) ≡ b → In (at thread place zones) (x ∷ xs)
    by rest false other = inr (rest (sym (ap found other) ∙ e))
    by rest true same =
        let parts = and_parts (x.thread == thread) (x.place == place) same in
        inl (ap (λ t. at t x.place x.zones) (eqb-true x.thread thread parts.0) ∙ ap (λ n. at thread n x.zones) (eqb-true x.place place parts.1) ∙ ap (at thread place) (ap (λ (o : Option ℕ). unwrap_or o 0) (sym (ap found same) ∙ e)))

pub nothing_known : (programs : List (List Call)) (v : VolumeNow) (k : Known) → k.calls.items ≡ [] → k.to_come ≡ None → IsKnown programs v k
nothing_known programs v k calls to_come = record {
  calls = λ x i. absurd (subst (In x) calls i);
  to_come = subst (AreToCome v) (sym to_come) tt;
}

-- a call that its thread's program has at this place
pub call_is : (ts : List Thread) (at : ℕ) (th : Thread) (c : Call) → slice_get ts at ≡ Some th → slice_get th.program.items th.ended ≡ Some c → call_in (map program_of ts) at th.ended ≡ c
call_is ts at th c there call =
    ap (λ (o : Option (List Call)). unwrap_or (slice_get (unwrap_or o []) th.ended) calls.Sync) (slice_get-map_some program_of ts at th there)
    ∙ ap (λ o. unwrap_or o calls.Sync) call

pub known_of : (programs : List (List Call)) (thread place : ℕ) (c : Call) (v : VolumeNow) (k : Known) → call_in programs thread place ≡ c → IsKnown programs v k → IsKnownOf thread place c v k
known_of programs thread place c v k e h = record {
  call = λ zones found. subst (λ x. TakesZones v x zones) e (h.calls (record { thread = thread; place = place; zones = zones }) (noted_there thread place zones k.calls.items found));
  to_come = h.to_come;
}

-- the volume and what is known of it stay
pub same_known : (v w : VolumeNow) (k l : Known) → w ≡ v → l ≡ k → StaysKnown v w k l
same_known v w k l volume known programs h = subst (λ x. IsKnown programs x l) (sym volume) (subst (IsKnown programs v) (sym known) h)

-- a call that reads was done
pub read_known : (v w : VolumeNow) (k l : Known) (n tx : ℕ) (c : Call) → w ≡ (called v n tx c).change.volume → is_reading (kind_of c) ≡ true → l ≡ k → StaysKnown v w k l
read_known v w k l n tx c volume reads same = same_known v w k l (volume ∙ ap (λ (x : Change). x.volume) (reading_keeps v n tx c reads)) same

-- a call that would change something begins nothing
pub changing_is_plain : (v : VolumeNow) (c : Call) → would_change v c ≡ true → is_begun (kind_of c) ≡ false
unfolding would_change
changing_is_plain v (calls.Fsync path) e = absurd (false≢true e)
changing_is_plain v (calls.Fdatasync path) e = absurd (false≢true e)
changing_is_plain v (calls.Fbarrier path) e = absurd (false≢true e)
changing_is_plain v (calls.Fdatabarrier path) e = absurd (false≢true e)
changing_is_plain v calls.Sync e = absurd (false≢true e)
changing_is_plain v (calls.Mkdir path) e = refl
changing_is_plain v (calls.Rmdir path) e = refl
changing_is_plain v (calls.Create path) e = refl
changing_is_plain v (calls.Unlink path) e = refl
changing_is_plain v (calls.Link path other) e = refl
changing_is_plain v (calls.Rename path other) e = refl
changing_is_plain v (calls.Write path off len value) e = refl
changing_is_plain v (calls.Bytes path off bytes) e = refl
changing_is_plain v (calls.Truncate path size) e = refl
changing_is_plain v (calls.Read path off len) e = refl
changing_is_plain v (calls.List path) e = refl
changing_is_plain v (calls.Stat path) e = refl

-- a call that had to wait is noted
pub noted_known : (thread place zones : ℕ) (c : Call) (v w : VolumeNow) (k l : Known) → TakesZones v c zones → w ≡ v
    → ((x : KnownCall) → In x l.calls.items → In x k.calls.items ⊎ ((let y : KnownCall = record { thread = thread; place = place; zones = zones } in y) ≡ x)) → l.to_come ≡ k.to_come
    → (programs : List (List Call)) → call_in programs thread place ≡ c → IsKnown programs w k → IsKnown programs w l
noted_known thread place zones c v w k l takes volume calls to_come programs own h = record {
  calls = λ x i. by x (calls x i);
  to_come = subst (AreToCome w) (sym to_come) h.to_come;
}
  where
    new : KnownCall
    new = record { thread = thread; place = place; zones = zones }

    by : (x : KnownCall) → In x k.calls.items ⊎ (new ≡ x) → TakesZones w (call_in programs x.thread x.place) x.zones
    by x (inl i) = h.calls x i
    by x (inr same) = subst (λ (y : KnownCall). TakesZones w (call_in programs y.thread y.place) y.zones) same (subst (λ u. TakesZones u (call_in programs thread place) zones) (sym volume) (subst (λ d. TakesZones v d zones) (sym own) takes))

-- ---- the first step of a call that nothing refuses and that begins nothing

pub started : (w : Writers) (zmap most : ℕ) (p : CallParts) (n : ℕ) (c : Call) → refusal p.volume c ≡ None → is_begun (kind_of c) ≡ false → starts w zmap most p n c ≡ went_plainly (steps_plainly w zmap most p n c)
started w zmap most p n c none plain = ap asked none ∙ ap begins plain
  where
    begins : Bool → Went
    begins b = if b then record { parts = p; progress = Opened (begins_at p n c) } else went_plainly (steps_plainly w zmap most p n c)

    asked : Option Reply → Went
    asked o = elim o as (λ _. Went) [ Some reply ↦ record { parts = p; progress = Over (Answered reply) } | None ↦ begins (is_begun (kind_of c)) ]
