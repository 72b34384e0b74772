-- What refuses a call on a volume, and what it is answered, is of the tree.
use Rattle.std.proofs.Common.{◌≡◌, ℕ, true, Some, Ok, Err, sym, ap, ◌∙◌}
use Rattle.std.proofs.lemmas.Option.{none-some, same_Some}
use Rattle.tree_model.specs.declared.call.Call.{Call}
use Rattle.tree_model.specs.declared.call.Reply.{Reply}
use Rattle.tree_model.specs.Calls.{Row, outcome}
use Rattle.volume_steps.specs.Now.{VolumeNow, tree_of_now, room_of}
use Rattle.volume_steps.specs.Calls.{called, called_by}
use Rattle.minix_host.specs.Calls.{refused_by, refusal}
use Rattle.minix_host.specs.Numbers.{next_birth}
use Rattle.host_core.specs.at_once.Replies.{is_of_tree}
use Rattle.host_core.proofs.AtOnceLemmas.Rows.{Tells, outcome_tells}

refused_tells : (r : Row) (reply : Reply) → Tells r → refused_by r ≡ Some reply → is_of_tree reply ≡ true
refused_tells (Err why) reply h e = ap is_of_tree (sym (same_Some why reply e)) ∙ h.holds
refused_tells (Ok d) reply h e = absurd (none-some reply e)

pub refusal_is_of_tree : (v : VolumeNow) (c : Call) (reply : Reply) → refusal v c ≡ Some reply → is_of_tree reply ≡ true
unfolding refusal
refusal_is_of_tree v c reply e =
    let next = next_birth (tree_of_now v) in
    refused_tells (outcome (room_of v.geometry) (tree_of_now v) next c) reply (outcome_tells (room_of v.geometry) (tree_of_now v) next c) e

pub answer_is_of_tree : (v : VolumeNow) (n tx : ℕ) (c : Call) → is_of_tree (called v n tx c).reply ≡ true
unfolding called
answer_is_of_tree v n tx c = by (outcome (room_of v.geometry) (tree_of_now v) n c) (outcome_tells (room_of v.geometry) (tree_of_now v) n c)
  where
    by : (r : Row) → Tells r → is_of_tree (called_by v n tx c r).reply ≡ true
    by (Err why) h = h.holds
    by (Ok d) h = h.holds
