-- Replies that take memory.
use Rattle.std.specs.Prelude.{Bool, true, false}
use Rattle.tree_model.specs.declared.call.Reply.{Reply}
use Rattle.tree_model.specs.declared.call.Reply.TheVariants as replies

-- bytes that were read, or names
abbrev pub has_list : Reply → Bool
has_list (replies.Bytes bytes) = true
has_list (replies.Names names) = true
has_list other = false
