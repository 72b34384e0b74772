-- The rule of a queue: what was sent is what was taken and then what the queue holds. At most one pass may put, and it
-- has the list of what was sent; at most one may take, and it has the list of what was taken.
use Rattle.std.specs.Prelude.{◌≡◌, ℕ, Bool, true, false, List, [], ◌++◌}
use mathlib.Core.Option.{some}
use lib.ListN.{get_elem?}
use Rattle.schedulers.specs.declared.dispatch.rule.PassView.{PassView}

module _ {T : Type 0} where
  -- whether a pass may put and may take, and what it knows was sent and was taken
  abbrev pub pass_view : Bool → Bool → List T → List T → PassView T
  pass_view puts takes sent taken = record { puts = puts; takes = takes; sent = sent; taken = taken }

  -- the pass of the end at which items are put
  abbrev pub producing : List T → PassView T
  producing sent = pass_view true false sent []

  -- the pass of the end at which items are taken
  abbrev pub consuming : List T → PassView T
  consuming taken = pass_view false true [] taken

  -- a pass that is both: the first of a queue, and the one that is left at its end
  abbrev pub whole : List T → List T → PassView T
  whole sent taken = pass_view true true sent taken

  -- a pass that was taken into another one
  abbrev pub spent : PassView T
  spent = pass_view false false [] []

  -- the pass of this number may put only as the producer, and then knows what was sent; the same for taking
  abbrev pub Knows : ℕ → ℕ → List T → List T → ℕ → PassView T → Type 0
  Knows producer consumer sent taken number v = (v.puts ≡ true → (number ≡ producer) × (v.sent ≡ sent)) × (v.takes ≡ true → (number ≡ consumer) × (v.taken ≡ taken))

  -- items are what the queue holds, and views what its passes know, by their numbers
  abbrev pub InOrder : List T → List (PassView T) → Type 0
  InOrder items views = (producer : ℕ) × (consumer : ℕ) × (sent : List T) × (taken : List T) × (sent ≡ taken ++ items)
      × ((number : ℕ) (v : PassView T) → get_elem? views number ≡ some v → Knows producer consumer sent taken number v)
