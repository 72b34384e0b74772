-- What a row says, told by what the call takes.
use Rattle.std.specs.Prelude.{◌≡◌, ◌-◌, Result, Ok, Err}
use Rattle.tree_model.specs.declared.call.Reply.{Reply}
use Rattle.tree_model.specs.Calls.{Tree, Row, used_zones}
use Rattle.volume_calls.specs.declared.takes.Wants.{Wants}

-- the same refusal; or whether the call takes an inode, and how many zones its tree uses more
abbrev pub IsAsked : Tree → Result Wants Reply → Row → Type 0
IsAsked tree (Err reply) (Err why) = reply ≡ why
IsAsked tree (Ok wants) (Ok d) = (wants.inode ≡ d.takes_inode) × (wants.zones ≡ used_zones d.tree - used_zones tree)
IsAsked tree result row = ⊥
