-- What the laws ask of histories holds of calls on real trees; and each file has a place.
use Rattle.std.specs.Prelude.{◌≡◌, ℕ, ◌+◌, ◌-◌, false, List, refl}
use Rattle.std.proofs.Common.{sym, ap, subst, ◌∙◌, arith}
use Rattle.tree_model.specs.declared.call.Room.{Room}
use Rattle.tree_model.specs.Histories.{maps_block, tree_after_entries, writes_among, changed_after}
use Rattle.tree_model.specs.Rooted.{IsRooted}
use Rattle.tree_model.specs.Calls.{Tree}
use Rattle.tree_model.specs.Plain.{IsPlain, AreBornBefore}
use Rattle.tree_model.proofs.PlainTrees.{history_rooted}
use Rattle.tree_model.proofs.Histories.{history_mapped, history_written, unchanged_between}
use Rattle.crash_laws.specs.History.{HasTrees}
use Rattle.crash_laws.specs.LegalHistory.{Event, done_by, tree_up_to}
use Rattle.crash_laws.specs.TreeHistory.{AreCuts, history_of}
use Rattle.crash_laws.specs.Volumes.{WalkEnd}

-- each tree of a session hangs together
pub tree_rooted : (room : Room) (opened : Tree) (first : ℕ) → IsPlain opened → AreBornBefore (first + 1) opened → (events : List Event) (n : ℕ) → IsRooted (tree_up_to room opened first events n)
tree_rooted room opened first plain born events n = history_rooted room opened first (done_by events) plain born n

module _ (room : Room) (opened : Tree) (first : ℕ) (plain : IsPlain opened) (born : AreBornBefore (first + 1) opened) (events : List Event) (cut : ℕ → ℕ) (place : ℕ → WalkEnd → ℕ → ℕ → ℕ) (cuts : AreCuts cut) where
  rooted : (k : ℕ) → IsRooted (tree_after_entries room opened first (done_by events) k)
  rooted k = history_rooted room opened first (done_by events) plain born k

  -- the numbers of the tree model
  at : (n : ℕ) → first + n - first ≡ n
  at n = omega arith

  next : (n : ℕ) → first + n + 1 - first ≡ n + 1
  next n = omega arith

  nothing_written : (birth index : ℕ) → writes_among room opened first (done_by events) 0 birth index ≡ false
  unfolding writes_among
  nothing_written birth index = refl

  pub real_trees : HasTrees (history_of room opened first events cut place)
  real_trees = record {
    unwritten = nothing_written;
    mapped = λ f i n none there.
        ap (λ k. writes_among room opened first (done_by events) k f i) (sym (next n))
        ∙ history_mapped room opened first (done_by events) rooted (first + n) f i
        (ap (λ k. maps_block (tree_after_entries room opened first (done_by events) k) f i) (at n) ∙ none)
        (ap (λ k. maps_block (tree_after_entries room opened first (done_by events) k) f i) (next n) ∙ there);
    written = λ f i n wrote.
        ap (λ k. maps_block (tree_after_entries room opened first (done_by events) k) f i) (sym (at n))
        ∙ history_written room opened first (done_by events) rooted (first + n) f i (ap (λ k. writes_among room opened first (done_by events) k f i) (at n) ∙ wrote);
    first = cuts.first;
    cuts = cuts.rise;
    same = λ k f i m unchanged lo hi.
        let rise = cuts.rise k in
        let e : k + 1 - 1 ≡ k = omega arith in
        let before : first + m - 1 - first ≡ m - 1 = omega arith in
        ap (λ n. maps_block (tree_after_entries room opened first (done_by events) n) f i) (sym (at m))
        ∙ unchanged_between room opened first (done_by events) (first + cut k) (cut (k + 1) - cut k) f i (first + m)
        (subst (λ j. changed_after room opened first (done_by events) (first + cut j) (cut (k + 1) - cut j) f ≡ false) e unchanged) (omega arith) (omega arith)
        ∙ ap (λ n. maps_block (tree_after_entries room opened first (done_by events) n) f i) before;
  }
