-- No page is there without the records up to its own.
use Rattle.std.specs.Prelude.{◌≡◌, ◌⊎◌, ℕ, ◌<◌, ◌≤◌, ◌+◌, true, false, List, Some, is_some}
use Rattle.std.proofs.Common.{sym, ap, ◌∙◌, inl, inr, arith}
use Rattle.std.proofs.lemmas.Bool.{false≢true}
use Rattle.tree_model.specs.Histories.{block_at}
use Rattle.application_trees.specs.Outcomes.{Outcome, IsShown, IsGone, Holds}
use Rattle.application_trees.specs.Pairs.{Pair, IsPair, ArePairs, TellsLater}

module _ (o : Outcome) (Later : ℕ → Type 0) (log file : ℕ) where
  record_shown : (x : Pair) → IsPair o Later log file x → Later x.answered → block_at o.tree (o.alike.to log) x.place ≡ Some x.body
  record_shown x is later =
      elim (is.barred later x.place is.entry is.low is.wrote) [
        | inl y ↦ y.shown ∙ is.stays y.version y.later
        | inr y ↦ absurd (let behind = y.later in false≢true (sym y.unmapped ∙ ap is_some (is.stays y.entry (omega (arith, behind)))))
      ]

  pub pairs_kept : (n : ℕ) (pair : ℕ → Pair) → ArePairs o Later log file n pair → TellsLater o Later file → (m : ℕ) → m < n → block_at o.tree (o.alike.to file) (pair m).page ≡ Some (pair m).bytes →
      (k : ℕ) → k ≤ m → block_at o.tree (o.alike.to log) (pair k).place ≡ Some (pair k).body
  pairs_kept n pair are tells m low shown k le =
      let last = tells.shown (pair m).page (pair m).answered (pair m).bytes shown (are.each m low).some (are.each m low).newer in
      record_shown (pair k) (are.each k (omega (arith, le, low))) (tells.earlier (pair k).answered (pair m).answered (are.rising k m le low) last)
