-- Several commands merged into one, which has their parts in order.
use Rattle.std.specs.Prelude.{◌≡◌, ℕ, ◌+◌, ◌<◌, ◌≤◌, true, List, [], ◌∷◌, ◌++◌, length, Option, Some, None, is_some, slice_get, if◌then◌else◌}
use Rattle.std.specs.List.{list_any}
use Rattle.blk_base.specs.Members.{In}
use Rattle.order_model.specs.declared.part.Part.{Part}
use Rattle.order_model.specs.declared.command.Command.{Command}
use Rattle.order_model.specs.declared.command.Priority.TheVariants.{Simple, Ordered}
use Rattle.order_model.specs.Received.{all_parts}

-- all commands of the groups, in order
abbrev pub ungrouped : List (List Command) → List Command
ungrouped [] = []
ungrouped (g ∷ gs) = g ++ ungrouped gs

-- the flush of the first command: in a group, a flush is alone
abbrev pub first_flush : List Command → Option ℕ
first_flush [] = None
first_flush (c ∷ cs) = c.flush

-- a command with all parts of the group, ORDERED and a barrier where one of the group is
abbrev pub merged : List Command → Command
merged g = record {
  parts = all_parts g;
  priority = (if list_any (λ (c : Command). c.barrier) g then Ordered else Simple);
  barrier = list_any (λ (c : Command). c.barrier) g;
  flush = first_flush g;
}

-- commands that may be merged
pub record IsGroup (g : List Command) : Type 0 where
  pub some : 0 < length g
  -- a flush is alone
  pub alone : (c : Command) → In c g → is_some c.flush ≡ true → length g ≡ 1
  -- the last one alone may be a barrier
  pub last : (n : ℕ) (c : Command) → slice_get g n ≡ Some c → c.barrier ≡ true → n + 1 ≡ length g
  -- no block stands in two of them
  pub apart : (m n : ℕ) (c d : Command) (p q : Part) → m < n → slice_get g m ≡ Some c → slice_get g n ≡ Some d → In p c.parts → In q d.parts → p.block ≡ q.block → ⊥
  -- together they have at most 16 parts
  pub small : length (all_parts g) ≤ 16
