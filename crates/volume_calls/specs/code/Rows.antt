-- What rows say, as the code tells it.
use Rattle.std.specs.Prelude.{◌≡◌, false, Result, Ok, Err}
use Rattle.tree_model.specs.declared.call.Reply.{Reply}
use Rattle.tree_model.specs.Calls.{Row}

-- the same refusal, or none; a call that takes no inode is done
abbrev pub Agrees : Result (Unit {0}) Reply → Row → Type 0
Agrees (Err reply) (Err why) = reply ≡ why
Agrees (Ok done) (Ok d) = d.takes_inode ≡ false
Agrees result row = ⊥
