-- The entries of a history number its calls, and its trees are those of the tree model.
use Rattle.std.specs.Prelude.{◌≡◌, ℕ, zero, suc, ◌+◌, Bool, true, false, if◌then◌else◌, List, map, Option, Some, None, slice_get, option_map, refl}
use Rattle.std.proofs.Common.{sym, ap, subst, ◌∙◌, arith}
use Rattle.std.proofs.lemmas.Option.{slice_get-map}
use Rattle.minix_layout.specs.declared.division.Geometry.{Geometry}
use Rattle.tree_model.specs.declared.call.Call.{Call}
use Rattle.tree_model.specs.declared.call.Reply.{Reply}
use Rattle.tree_model.specs.declared.call.Room.{Room}
use Rattle.tree_model.specs.Calls.{Tree, tree_after as tree_after_one}
use Rattle.tree_model.specs.Histories.{tree_after_entry, tree_after_entries}
use Rattle.tree_model.specs.Plain.{AreBornBefore}
use Rattle.tree_model.proofs.PlainTrees.{call_born}
use Rattle.volume_model.specs.laws.Trees.{In-at}
use Rattle.volume_steps.specs.Now.{room_of}
use Rattle.host_machine.specs.State.{Entry}
use Rattle.host_machine.specs.Views.{is_answered, acted, tree_after}
use Rattle.minix_host.specs.Numbers.{next_birth, number_in}
use Rattle.minix_host.specs.PlainTrees.{PlainTree, tree_after_call}
use Rattle.minix_host.specs.Runs.{acting}
use Rattle.minix_host.specs.Sessions.{model_from}
use Rattle.minix_host.specs.laws.Numbers.{max_of_less, next_least}
use Rattle.minix_host.proofs.TreeSteps.{after_is}

-- a number above all births is the call's own
pub number_kept : (t : PlainTree) (n : ℕ) → AreBornBefore n t.tree → number_in t.tree n ≡ n
number_kept t n born = max_of_less n (next_birth t.tree) (next_least t.tree n (λ e i. born e.0 e.1 (In-at t.tree e.0 e.1 t.plain.rooted.in_order i)))

later : (tree : Tree) (n : ℕ) → AreBornBefore n tree → AreBornBefore (n + 1) tree
later tree n born birth node at = (let low = born birth node at in omega arith)

module _ {C : Type 0} (call_of : C → Call) (g : Geometry) (opened : PlainTree) (first : ℕ) (begun : AreBornBefore (first + 1) opened.tree) where
  abbrev room : Room
  room = room_of g

  -- ---- one entry

  entry_born : (t : PlainTree) (n : ℕ) (e : Entry C Reply) → AreBornBefore (first + n) t.tree → AreBornBefore (first + n + 1) (acted (model_from call_of g opened first) t n e).tree
  entry_born t n e born = by (is_answered e.what)
    where
      called : AreBornBefore (first + n + 1) (tree_after_call room t (first + n) (call_of e.call)).tree
      called =
          subst (AreBornBefore (first + n + 1)) (sym (after_is room t (first + n) (call_of e.call) ∙ ap (λ k. tree_after_one room t.tree k (call_of e.call)) (number_kept t (first + n) born)))
          (call_born room t.tree (first + n) (call_of e.call) t.plain born)

      by : (b : Bool) → AreBornBefore (first + n + 1) (if b then tree_after_call room t (first + n) (call_of e.call) else t).tree
      by true = called
      by false = later t.tree (first + n) born

  entry_tree : (t : PlainTree) (n : ℕ) (e : Entry C Reply) → AreBornBefore (first + n) t.tree → (acted (model_from call_of g opened first) t n e).tree ≡ tree_after_entry room t.tree (first + n) (Some (acting call_of e))
  entry_tree t n e born = by (is_answered e.what)
    where
      by : (a : Bool) → (if a then tree_after_call room t (first + n) (call_of e.call) else t).tree ≡ tree_after_entry room t.tree (first + n) (Some (if a then Some (call_of e.call) else None))
      by false = refl
      by true = after_is room t (first + n) (call_of e.call) ∙ ap (λ k. tree_after_one room t.tree k (call_of e.call)) (number_kept t (first + n) born)

  -- ---- all entries

  module _ (es : List (Entry C Reply)) where
    abbrev At : ℕ → PlainTree
    At n = tree_after (model_from call_of g opened first) es n

    born_by : (o : Option (Entry C Reply)) (n : ℕ) → AreBornBefore (first + suc n) (At n).tree → AreBornBefore (first + suc n + 1) (elim o as (λ _. PlainTree) [ None ↦ At n | Some e ↦ acted (model_from call_of g opened first) (At n) (suc n) e ]).tree
    born_by None n born = (λ birth node at. let low = born birth node at in omega arith)
    born_by (Some e) n born = entry_born (At n) (suc n) e born

    -- each node was born by an entry up to the last one, or is of the tree that was opened
    pub all_born : (n : ℕ) → AreBornBefore (first + suc n) (At n).tree
    all_born zero = begun
    all_born (suc n) = let next : first + suc n + 1 ≡ first + suc (suc n) = omega arith in subst (λ k. AreBornBefore k (At (suc n)).tree) next (born_by (slice_get es n) n (all_born n))

    -- so the next entry's number is that of its call
    pub numbers_kept : (n : ℕ) → number_in (At n).tree (first + (n + 1)) ≡ first + (n + 1)
    numbers_kept n = let next : first + suc n ≡ first + (n + 1) = omega arith in number_kept (At n) (first + (n + 1)) (subst (λ k. AreBornBefore k (At n).tree) next (all_born n))

    step_tree : (o : Option (Entry C Reply)) (n : ℕ) → AreBornBefore (first + suc n) (At n).tree →
        (elim o as (λ _. PlainTree) [ None ↦ At n | Some e ↦ acted (model_from call_of g opened first) (At n) (suc n) e ]).tree ≡ tree_after_entry room (At n).tree (first + suc n) (option_map (acting call_of) o)
    step_tree None n born = refl
    step_tree (Some e) n born = entry_tree (At n) (suc n) e born

    -- and the trees are those of the tree model
    pub trees_are : (n : ℕ) → (At n).tree ≡ tree_after_entries room opened.tree first (map (acting call_of) es) n
    unfolding tree_after_entries
    trees_are zero = refl
    trees_are (suc n) =
        step_tree (slice_get es n) n (all_born n)
        ∙ (ap (tree_after_entry room (At n).tree (first + suc n)) (sym (slice_get-map (acting call_of) es n))
        ∙ ap (λ tree. tree_after_entry room tree (first + suc n) (slice_get (map (acting call_of) es) n)) (trees_are n))
