-- From what a call does where nothing refuses it to the call.
use Rattle.std.specs.Prelude.{◌≡◌, ◌≤◌, ◌-◌, ℕ, true, [], Ok, Err, refl}
use Rattle.std.proofs.Common.{ap, subst, inl, arith}
use Rattle.std.proofs.lemmas.Bool.{false≢true}
use Rattle.tree_model.specs.declared.call.Call.{Call}
use Rattle.tree_model.specs.declared.call.Call.TheVariants as calls
use Rattle.tree_model.specs.Calls.{Done, Row, leaves_tree, outcome, needs, tree_after, tree_from, used_zones}
use Rattle.volume_steps.specs.Now.{VolumeNow, tree_of_now, room_of, unchanged}
use Rattle.volume_steps.specs.Calls.{called, called_by, changed}
use Rattle.volume_steps.specs.Plain.{IsInUse, IsPlainNow}
use Rattle.volume_steps.specs.laws.Steady.{IsSteady}
use Rattle.volume_steps.proofs.Taking.{frees}
use Rattle.volume_steps.proofs.Listed.{none_told}
use Rattle.volume_steps.proofs.Grows.{takes_none, grown_steady}
use Rattle.volume_steps.proofs.CallPaths.{done_row}
use Rattle.volume_steps.proofs.CallEnds.{IsDone}
use Rattle.volume_steps.proofs.Marked.{marks_same, numbers_same}

-- a call that leaves the tree as it is
pub quiet_changed : (v : VolumeNow) (n tx : ℕ) (c : Call) → leaves_tree c ≡ true → changed v n tx c ≡ unchanged v
unfolding changed
quiet_changed v n tx (calls.Read path off len) quiet = refl
quiet_changed v n tx (calls.List path) quiet = refl
quiet_changed v n tx (calls.Stat path) quiet = refl
quiet_changed v n tx (calls.Fsync path) quiet = refl
quiet_changed v n tx (calls.Fdatasync path) quiet = refl
quiet_changed v n tx (calls.Fbarrier path) quiet = refl
quiet_changed v n tx (calls.Fdatabarrier path) quiet = refl
quiet_changed v n tx calls.Sync quiet = refl
quiet_changed v n tx (calls.Rename path other) quiet = absurd (false≢true quiet)
quiet_changed v n tx (calls.Mkdir path) quiet = absurd (false≢true quiet)
quiet_changed v n tx (calls.Rmdir path) quiet = absurd (false≢true quiet)
quiet_changed v n tx (calls.Create path) quiet = absurd (false≢true quiet)
quiet_changed v n tx (calls.Unlink path) quiet = absurd (false≢true quiet)
quiet_changed v n tx (calls.Link path other) quiet = absurd (false≢true quiet)
quiet_changed v n tx (calls.Truncate path size) quiet = absurd (false≢true quiet)
quiet_changed v n tx (calls.Write path off len value) quiet = absurd (false≢true quiet)
quiet_changed v n tx (calls.Bytes path off bytes) quiet = absurd (false≢true quiet)

-- nothing changes
pub unchanged_steady : (tx : ℕ) (v : VolumeNow) → IsInUse v → IsSteady tx v (unchanged v) (λ birth index. ⊥)
unchanged_steady tx v h = grown_steady tx v v.contents v.zones [] [] [] h h.volume
    (record {
      kept = λ a p at. record { placed = p; stands = at; kind = refl; zones = λ x some. refl };
      had = λ a q x at some. inl (record { placed = q; stands = at; kind = refl; zone_is = refl });
      bytes = λ b none. refl;
      meta = λ b i. absurd i;
      told = λ zone i. absurd i;
      mapped = λ zone i. absurd i;
    })
    (takes_none v.zones) h.counted (none_told v.geometry v.contents v.contents (unchanged v).touched refl refl)
    (marks_same v.geometry h.sound v.contents v.contents v.zones h.volume.0.whole h.volume.0.size (λ b low high. refl) (numbers_same v.contents.nodes v.contents.nodes refl))

-- what is needed
pub needs_are : (v : VolumeNow) (n : ℕ) (c : Call) (d : Done) → outcome (room_of v.geometry) (tree_of_now v) n c ≡ Ok d → needs (tree_of_now v) n c ≡ used_zones d.tree - used_zones (tree_of_now v)
unfolding needs
needs_are v n c d h = ap (λ r. elim r as (λ _. ℕ) [ Err reply ↦ 0 | Ok d ↦ used_zones d.tree - used_zones (tree_of_now v) ]) (done_row (room_of v.geometry) (tree_of_now v) n c d h).0

-- A call that is refused changes nothing, and else does what was said.
pub called_done : (tx : ℕ) (v : VolumeNow) (n : ℕ) (c : Call) → IsPlainNow v → needs (tree_of_now v) n c ≤ frees v.zones →
    ((d : Done) → outcome (room_of v.geometry) (tree_of_now v) n c ≡ Ok d → used_zones d.tree - used_zones (tree_of_now v) ≤ frees v.zones → IsDone tx v (changed v n tx c) d.tree) →
    IsDone tx v (called v n tx c).change (tree_after (room_of v.geometry) (tree_of_now v) n c)
unfolding called tree_after
called_done tx v n c h enough done = by (outcome (room_of v.geometry) (tree_of_now v) n c) refl
  where
    by : (r : Row) → outcome (room_of v.geometry) (tree_of_now v) n c ≡ r → IsDone tx v (called_by v n tx c r).change (tree_from (tree_of_now v) r)
    by (Err why) e = record { steady = unchanged_steady tx v h.in_use; tree_is = refl; plain = h; waiting = (omega arith); one_way = inl refl }
    by (Ok d) e = done d e (subst (λ k. k ≤ frees v.zones) (needs_are v n c d e) enough)
