-- A reply of the tree ends a call as its answer.
use Rattle.std.proofs.Common.{◌≡◌, true, refl}
use Rattle.std.proofs.lemmas.Bool.{false≢true}
use Rattle.tree_model.specs.declared.call.Reply.{Reply}
use Rattle.tree_model.specs.declared.call.Reply.TheVariants as replies
use Rattle.host_machine.specs.State.{Answered}
use Rattle.host_core.specs.at_once.Replies.{is_of_tree}
use Rattle.host_core.specs.Entries.{ending_of}

pub tree_ending : (r : Reply) → is_of_tree r ≡ true → ending_of r ≡ Answered r
tree_ending replies.Ok e = refl
tree_ending (replies.Bytes bytes) e = refl
tree_ending (replies.Names names) e = refl
tree_ending (replies.Stat dir size links) e = refl
tree_ending replies.NotFound e = refl
tree_ending replies.Exists e = refl
tree_ending replies.NotDir e = refl
tree_ending replies.IsDir e = refl
tree_ending replies.NotEmpty e = refl
tree_ending replies.NameTooLong e = refl
tree_ending replies.TooManyLinks e = refl
tree_ending replies.TooBig e = refl
tree_ending replies.NoSpace e = refl
tree_ending replies.NoInode e = refl
tree_ending replies.BadPath e = refl
tree_ending replies.Invalid e = refl
tree_ending (replies.ReadOnly id) e = absurd (false≢true e)
tree_ending replies.Down e = absurd (false≢true e)
tree_ending replies.SessionFull e = absurd (false≢true e)
