-- A history of calls that goes on says the same of its old entries.
use Rattle.std.specs.Prelude.{◌≡◌, ℕ, zero, suc, ◌+◌, ◌-◌, ◌≤◌, ◌||◌, List, [], ◌∷◌, ◌++◌, length, not, unwrap_or, refl}
use Rattle.std.specs.List.{slice_get}
use Rattle.std.proofs.Common.{sym, ap, subst, ◌∙◌, arith, append_assoc, append-nil}
use Rattle.blk_base.specs.laws.Members.{slice_get-append_left}
use Rattle.order_model.specs.declared.note.Note.TheVariants.{Page}
use Rattle.tree_model.specs.declared.call.Room.{Room}
use Rattle.tree_model.specs.Calls.{Tree}
use Rattle.tree_model.specs.Maps.{at_number}
use Rattle.tree_model.specs.Histories.{Entry, tree_after_entry, entry_writes, tree_after_entries, writes_among, maps_block, block_at, same_file, changed, changed_after}
use Rattle.crash_laws.specs.laws.Extending.{Extends}
use Rattle.crash_laws.specs.LegalHistory.{Event, done_at, done_from, done_by}
use Rattle.crash_laws.specs.Session.{Session, HasNote, IsSubmitted, Submitted}
use Rattle.crash_laws.specs.TreeHistory.{AreCuts, history_of}
use Rattle.crash_laws.specs.Volumes.{WalkEnd}

-- ---- the calls that are done

pub done_from-append : (before xs ys : List Event) → done_from before (xs ++ ys) ≡ done_from before xs ++ done_from (before ++ xs) ys
done_from-append before [] ys = ap (λ b. done_from b ys) (sym (append-nil before))
done_from-append before (x ∷ xs) ys =
    ap (λ es. done_at before x ∷ es) (done_from-append (before ++ x ∷ []) xs ys ∙ ap (λ b. done_from (before ++ x ∷ []) xs ++ done_from b ys) (append_assoc before (x ∷ []) xs))

pub length-done_from : (before xs : List Event) → length (done_from before xs) ≡ length xs
length-done_from before [] = refl
length-done_from before (x ∷ xs) = ap suc (length-done_from (before ++ x ∷ []) xs)

-- ---- the trees

module _ (room : Room) (opened : Tree) (first : ℕ) (entries more : List Entry) where
  pub same_tree : (k : ℕ) → k ≤ length entries → tree_after_entries room opened first (entries ++ more) k ≡ tree_after_entries room opened first entries k
  unfolding tree_after_entries
  same_tree zero le = refl
  same_tree (suc k) le =
      ap (λ e. tree_after_entry room (tree_after_entries room opened first (entries ++ more) k) (first + suc k) e) (slice_get-append_left entries more k (omega arith))
      ∙ ap (λ t. tree_after_entry room t (first + suc k) (slice_get entries k)) (same_tree k (omega arith))

  pub same_writes : (k f i : ℕ) → k ≤ length entries → writes_among room opened first (entries ++ more) k f i ≡ writes_among room opened first entries k f i
  unfolding writes_among
  same_writes zero f i le = refl
  same_writes (suc k) f i le =
      ap (λ e. entry_writes room (tree_after_entries room opened first (entries ++ more) k) (first + suc k) e f i) (slice_get-append_left entries more k (omega arith))
      ∙ ap (λ t. entry_writes room t (first + suc k) (slice_get entries k) f i) (same_tree k (omega arith))

  same_changed : (n f : ℕ) → n ≤ first + length entries → changed room opened first (entries ++ more) n f ≡ changed room opened first entries n f
  same_changed n f le =
      ap (λ t. not (same_file (at_number t f) (at_number (tree_after_entries room opened first (entries ++ more) (n - first)) f))) (same_tree (n - 1 - first) (omega arith))
      ∙ ap (λ t. not (same_file (at_number (tree_after_entries room opened first entries (n - 1 - first)) f) (at_number t f))) (same_tree (n - first) (omega arith))

  same_changed_after : (n d f : ℕ) → n + d ≤ first + length entries → changed_after room opened first (entries ++ more) n d f ≡ changed_after room opened first entries n d f
  same_changed_after n zero f le = refl
  same_changed_after n (suc d) f le =
      ap (λ b. b || changed_after room opened first (entries ++ more) n d f) (same_changed (n + suc d) f (omega arith))
      ∙ ap (λ b. changed room opened first entries (n + suc d) f || b) (same_changed_after n d f (omega arith))

-- ---- the history

-- With more events, and cuts that are told anew but for submitted transactions, the old entries stay as they are.
pub events_extend : (room : Room) (opened : Tree) (first : ℕ) (events more : List Event) (cut new_cut : ℕ → ℕ) (place : ℕ → WalkEnd → ℕ → ℕ → ℕ) (s : Session) → AreCuts cut
    → ((j k : ℕ) → IsSubmitted s k → j ≤ k → new_cut j ≡ cut j) → ((k : ℕ) → IsSubmitted s k → cut k ≤ length events)
    → ((o f i v : ℕ) → HasNote s o (Page f i v) → v ≤ length events)
    → Extends (history_of room opened first events cut place) (history_of room opened first (events ++ more) new_cut place) s (length events)
events_extend room opened first events more cut new_cut place s cuts same within versions = record {
  cuts = λ k sub. same k k sub (omega arith);
  within = within;
  versions = versions;
  maps = λ n f i le. ap (λ t. maps_block t f i) (tree n le);
  writes = λ n f i le. ap (λ es. writes_among room opened first es n f i) done ∙ same_writes room opened first (done_by events) (done_from events more) n f i (size n le);
  content = λ f i v le. ap (λ t. unwrap_or (block_at t f i) []) (tree v le);
  changes = λ k c f commit.
      let sub : IsSubmitted s k = Submitted c commit in
      let e = same k k sub (omega arith) in
      let d = same (k - 1) k sub (omega arith) in
      let up = within k sub in
      let long = length-done_from [] events in
      let rise = cuts_up k in
      ap (λ a. changed_after room opened first (done_by (events ++ more)) (first + a) (new_cut k - a) f) d
      ∙ ap (λ b. changed_after room opened first (done_by (events ++ more)) (first + cut (k - 1)) (b - cut (k - 1)) f) e
      ∙ ap (λ es. changed_after room opened first es (first + cut (k - 1)) (cut k - cut (k - 1)) f) done
      ∙ same_changed_after room opened first (done_by events) (done_from events more) (first + cut (k - 1)) (cut k - cut (k - 1)) f (omega arith);
  place = λ a n f i le. refl;
}
  where
    done : done_by (events ++ more) ≡ done_by events ++ done_from events more
    done = done_from-append [] events more

    size : (n : ℕ) → n ≤ length events → n ≤ length (done_by events)
    size n le = let long = length-done_from [] events in omega arith

    tree : (n : ℕ) → n ≤ length events → tree_after_entries room opened first (done_by (events ++ more)) n ≡ tree_after_entries room opened first (done_by events) n
    tree n le = ap (λ es. tree_after_entries room opened first es n) done ∙ same_tree room opened first (done_by events) (done_from events more) n (size n le)

    cuts_up : (k : ℕ) → cut (k - 1) ≤ cut k
    cuts_up zero = omega arith
    cuts_up (suc k) = let up = cuts.rise k in let e : suc k - 1 ≡ k = omega arith in let f : k + 1 ≡ suc k = omega arith in subst (λ j. cut j ≤ cut (suc k)) (sym e) (subst (λ j. cut k ≤ cut j) f up)
