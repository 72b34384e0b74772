-- What is asked of a call is the tree model's answer for every number above all births.
use Rattle.std.specs.Prelude.{◌≡◌, ℕ, Ok, Err, refl}
use Rattle.std.proofs.Common.{ap}
use Rattle.tree_model.specs.declared.call.Call.{Call}
use Rattle.tree_model.specs.Calls.{Row, outcome, needs}
use Rattle.tree_model.specs.Plain.{AreBornBefore}
use Rattle.volume_steps.proofs.TakeSteps.{none_born}
use Rattle.volume_steps.specs.Now.{VolumeNow, tree_of_now, room_of}
use Rattle.volume_steps.specs.Plain.{IsPlainNow}
use Rattle.minix_host.specs.Calls.{refused_by, refusal, needed}
use Rattle.minix_host.specs.Numbers.{next_birth}
use Rattle.minix_host.specs.laws.Numbers.{born_before_next}
use Rattle.minix_host.proofs.SameRows.{AreLike, outcome_like, needs_same}

like_refused : (v : VolumeNow) (r s : Row) → AreLike (tree_of_now v) r s → refused_by r ≡ refused_by s
like_refused v (Err why) (Err other) h = ap (λ x. refused_by (Err x)) h
like_refused v (Ok d) (Ok e) h = refl
like_refused v (Err why) (Ok e) h = absurd h
like_refused v (Ok d) (Err other) h = absurd h

module _ (v : VolumeNow) (n : ℕ) (c : Call) (h : IsPlainNow v) (born : AreBornBefore n (tree_of_now v)) where
  abbrev next : ℕ
  next = next_birth (tree_of_now v)

  pub refusal_is : refusal v c ≡ refused_by (outcome (room_of v.geometry) (tree_of_now v) n c)
  unfolding refusal
  refusal_is =
      like_refused v (outcome (room_of v.geometry) (tree_of_now v) next c) (outcome (room_of v.geometry) (tree_of_now v) n c)
      (outcome_like (tree_of_now v) h.plain.rooted.in_order next n (none_born (tree_of_now v) next (born_before_next (tree_of_now v))) (none_born (tree_of_now v) n born) (room_of v.geometry) c)

  pub needed_is : needed v c ≡ needs (tree_of_now v) n c
  unfolding needed
  needed_is = needs_same (tree_of_now v) h.plain.rooted.in_order next n (none_born (tree_of_now v) next (born_before_next (tree_of_now v))) (none_born (tree_of_now v) n born) c
