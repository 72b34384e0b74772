-- Which replies are those of the tree of calls.
use Rattle.std.specs.Prelude.{Bool, true, false}
use Rattle.tree_model.specs.declared.call.Reply.{Reply}
use Rattle.tree_model.specs.declared.call.Reply.TheVariants as replies

-- all but those that stand for the end of a session's device or of its requests
abbrev pub is_of_tree : Reply → Bool
is_of_tree (replies.ReadOnly id) = false
is_of_tree replies.Down = false
is_of_tree replies.SessionFull = false
is_of_tree other = true
