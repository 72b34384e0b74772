-- How much calls add to a transaction.
use Rattle.std.specs.Prelude.{ℕ, ◌≤◌, List, length}
use Rattle.blk_base.specs.Members.{In}
use Rattle.tree_model.specs.declared.call.Call.{Call}
use Rattle.line_grammar.specs.calls.WellFormed.{IsWellFormed}

-- There are at most so many different numbers in a list, however often each stands there.
pub record HasFew (xs : List ℕ) (most : ℕ) : Type 0 where
  pub among : List ℕ
  pub few : length among ≤ most
  pub all : (x : ℕ) → In x xs → In x among

-- each call of these programs is one that a line can say
abbrev pub HaveLines : List (List Call) → Type 0
HaveLines programs = (program : List Call) (c : Call) → In program programs → In c program → IsWellFormed c
