-- Volumes in use keep what the host is promised.
use Rattle.std.specs.Prelude.{◌≡◌, ℕ, ◌+◌, true, false, length, nat_lt, Some, None, Ok, Err, refl}
use Rattle.std.proofs.Common.{sym, ap, ◌∙◌, arith}
use Rattle.std.proofs.lemmas.Option.{none-some, same_Some}
use Rattle.tree_model.specs.declared.call.Call.{Call}
use Rattle.tree_model.specs.declared.call.Reply.{Reply}
use Rattle.tree_model.specs.Calls.{Row, outcome}
use Rattle.volume_steps.proofs.TakeSteps.{none_born}
use Rattle.minix_tables.specs.zones.Zones.{state_of}
use Rattle.minix_tables.specs.declared.zones.zone_state.ZoneState.TheVariants as states
use Rattle.volume_steps.specs.Calls.{after_release}
use Rattle.volume_steps.specs.Now.{VolumeNow, tree_of_now, room_of}
use Rattle.volume_steps.proofs.Release.{release_plain}
use Rattle.volume_steps.proofs.TakeZones.{zone_range}
use Rattle.flush_actor.specs.Kinds.{is_begun}
use Rattle.host_machine.specs.laws.Contract.{Contract, Tells}
use Rattle.host_machine.specs.runs.Runs.{HasBlocks}
use Rattle.minix_layout.specs.declared.division.Geometry.{Geometry}
use Rattle.minix_host.specs.ByteCalls.{ByteCall}
use Rattle.minix_host.specs.Calls.{refused_by, refusal, needed, would_change, kind_of, done_as}
use Rattle.minix_host.specs.Numbers.{next_birth, number_in}
use Rattle.minix_host.specs.PlainTrees.{PlainTree, tree_after_call, call_writes, call_alters}
use Rattle.minix_host.specs.Sessions.{Opening, over, Stands}
use Rattle.minix_host.specs.Volumes.{is_metadata, zone_of, zones_of}
use Rattle.minix_host.specs.laws.Numbers.{born_before, born_before_next}
use Rattle.minix_host.proofs.SameRows.{refused_same}
use Rattle.minix_host.proofs.Standing.{stands_for}
use Rattle.minix_host.proofs.Telling.{stands_after, tells_host}
use Rattle.minix_host.proofs.TreeSteps.{tree_laws, refused_same_tree, refused_writes, quiet_same, quiet_writes, stays_unaltered, begun_quiet}
use Rattle.minix_host.proofs.Waiting.{waits_is, waits_on, holder_state}

-- ---- refusals

refused_row : (r : Row) (why : Reply) → refused_by r ≡ Some why → r ≡ Err why
refused_row (Err one) why e = ap Err (same_Some one why e)
refused_row (Ok d) why e = absurd (none-some why e)

module _ (s : Opening) (v : VolumeNow) (t : PlainTree) (h : Stands s v t) (c : Call) (why : Reply) (refused : refusal v c ≡ Some why) where
  -- the tree refuses it too, whatever its number
  refused_next : outcome (room_of s.geometry) t.tree (next_birth t.tree) c ≡ Err why
  unfolding refusal
  refused_next =
      ap (λ tree. outcome (room_of s.geometry) tree (next_birth tree) c) (sym h.tree)
      ∙ (ap (λ g. outcome (room_of g) (tree_of_now v) (next_birth (tree_of_now v)) c) (sym h.geometry)
      ∙ refused_row (outcome (room_of v.geometry) (tree_of_now v) (next_birth (tree_of_now v)) c) why refused)

  stays : (n : ℕ) → tree_after_call (room_of s.geometry) t n c ≡ t
  stays n =
      refused_same_tree (room_of s.geometry) t n c why
      (refused_same t.tree t.plain.rooted.in_order (next_birth t.tree) (number_in t.tree n) (none_born t.tree (next_birth t.tree) (born_before_next t.tree))
      (none_born t.tree (number_in t.tree n) (born_before t.tree n)) (room_of s.geometry) c why refused_next)

  refused_all : (n : ℕ) → (tree_after_call (room_of s.geometry) t n c ≡ t) × ((f i : ℕ) → call_writes (room_of s.geometry) t c f i ≡ false) × ((f : ℕ) → call_alters (room_of s.geometry) t n c f ≡ false)
  refused_all n = (stays n, refused_writes (room_of s.geometry) t 0 c why refused_next, stays_unaltered (room_of s.geometry) t n c (stays n))

module _ (s : Opening) where
  -- a call that the volume does not refuse, and that finds the zones that it needs
  applied : (v : VolumeNow) (t : PlainTree) (n r : ℕ) (c : ByteCall) → Stands s v t → refusal v c.call ≡ None → (would_change v c.call ≡ true → nat_lt (length (zones_of v).free) (needed v c.call) ≡ false) →
      Stands s (done_as v (s.first + n) r c.call).volume (tree_after_call (room_of s.geometry) t (s.first + n) c.call) × Tells (over s) t n r c v (done_as v (s.first + n) r c.call).volume (done_as v (s.first + n) r c.call).touched
  unfolding done_as
  applied v t n r c h none enough = (stands_after s v t h n r c none enough, tells_host s v t h n r c none enough)

  begun_all : (t : PlainTree) (n : ℕ) (c : Call) → is_begun (kind_of c) ≡ true →
      (tree_after_call (room_of s.geometry) t n c ≡ t) × ((f i : ℕ) → call_writes (room_of s.geometry) t c f i ≡ false) × ((f : ℕ) → call_alters (room_of s.geometry) t n c f ≡ false)
  begun_all t n c begun =
      let quiet = begun_quiet c begun in
      let same = quiet_same (room_of s.geometry) t n c quiet in
      (same, quiet_writes (room_of s.geometry) t n c quiet, stays_unaltered (room_of s.geometry) t n c same)

  released_stands : (v : VolumeNow) (t : PlainTree) (k : ℕ) → Stands s v t → Stands s (after_release v k) t
  released_stands v t k h = record { plain = release_plain v k h.plain; geometry = h.geometry; tree = h.tree; root = record { placed = h.root.placed; stands = h.root.stands; zone_is = h.root.zone_is }; bytes = h.bytes }

  pub promises : Contract (over s) (Stands s)
  unfolding is_metadata zone_of
  promises = record {
    trees = tree_laws s;
    plain = λ v t h. stands_for s v t h;
    applied = λ v t n r c h none begun enough. applied v t n r c h none enough;
    refused = λ v t n c why h refused. refused_all s v t h c.call why refused (s.first + n);
    begun = λ t n c begun. begun_all t (s.first + n) c.call begun;
    released = released_stands;
    same_bytes = λ v k. refl;
    same_metadata = λ v k. refl;
    same_zones = λ v k. refl;
    waits_on = waits_on;
  }

  pub blocks_are_whole : HasBlocks (over s) (Stands s)
  blocks_are_whole = record {
    whole = λ v t b h. (h.plain.in_use.volume.0.whole b, h.bytes b);
    waiting = λ v t b k h waits.
        let state = holder_state (state_of v.zones b) k (sym (waits_is v b) ∙ waits) in
        let high = (zone_range v h.plain.in_use b (states.Quarantined k) state).1 in
        let same = ap (λ (g : Geometry). g.zones) h.geometry in
        omega arith;
  }
