-- The calls that write and cut files, by cases.
use Rattle.std.specs.Prelude.{◌≡◌, ◌≤◌, ℕ, true, replicate, Ok, refl, ◌&&◌}
use Rattle.std.proofs.Common.{sym, ap, subst}
use Rattle.std.proofs.lemmas.Bool.{false≢true}
use Rattle.std.proofs.lemmas.List.{length-replicate}
use Rattle.tree_model.specs.declared.call.Call.{Call}
use Rattle.tree_model.specs.declared.call.Call.TheVariants as calls
use Rattle.tree_model.specs.Calls.{Done, outcome, row, needs}
use Rattle.tree_model.specs.Histories.{leads_to, is_touched}
use Rattle.volume_steps.specs.Calls.{called, changed}
use Rattle.volume_steps.specs.Now.{VolumeNow, tree_of_now, room_of}
use Rattle.volume_steps.specs.Plain.{IsPlainNow, is_of_bytes}
use Rattle.volume_steps.proofs.FileCalls.{IsFileCall, called_is, write_call, truncate_call}
use Rattle.volume_steps.proofs.Taking.{frees}

-- What is had of each.
pub file_call_is : (tx : ℕ) (v : VolumeNow) → IsPlainNow v → (n : ℕ) (c : Call) (d : Done) → is_of_bytes c ≡ true → outcome (room_of v.geometry) (tree_of_now v) n c ≡ Ok d → needs (tree_of_now v) n c ≤ frees v.zones →
    IsFileCall tx v n c (called v n tx c).change
unfolding changed row
file_call_is tx v plain n c d is done enough = subst (IsFileCall tx v n c) (sym (called_is tx v n c d done)) (by c is done enough)
  where
    by : (c : Call) → is_of_bytes c ≡ true → outcome (room_of v.geometry) (tree_of_now v) n c ≡ Ok d → needs (tree_of_now v) n c ≤ frees v.zones → IsFileCall tx v n c (changed v n tx c)
    by (calls.Write path off len value) is done enough = write_call tx v plain n (calls.Write path off len value) path off (replicate len value) d done refl enough
        (λ birth index. ap (λ k. leads_to (tree_of_now v) path birth && is_touched off k index) (sym (length-replicate len value)))
    by (calls.Bytes path off bytes) is done enough = write_call tx v plain n (calls.Bytes path off bytes) path off bytes d done refl enough (λ birth index. refl)
    by (calls.Truncate path size) is done enough = truncate_call tx v plain n path size d done
    by other is done enough = absurd (false≢true is)
