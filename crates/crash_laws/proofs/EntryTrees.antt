-- What each event does to the tree.
use Rattle.std.specs.Prelude.{◌≡◌, ℕ, zero, suc, ◌+◌, ◌-◌, Bool, true, false, List, [], ◌∷◌, ◌++◌, take, Some, None, if◌then◌else◌, refl}
use Rattle.std.specs.List.{slice_get}
use Rattle.std.proofs.Common.{sym, ap, ◌∙◌, arith, append_assoc, append-nil}
use Rattle.std.proofs.lemmas.Option.{none-some, same_Some}
use Rattle.tree_model.specs.declared.call.Call.{Call}
use Rattle.tree_model.specs.declared.call.Reply.{Reply}
use Rattle.tree_model.specs.declared.call.Room.{Room}
use Rattle.tree_model.specs.Calls.{Tree, tree_after}
use Rattle.tree_model.specs.Histories.{Entry, tree_after_entry, tree_after_entries}
use Rattle.crash_laws.specs.LegalHistory.{Event, Begin, End, has_begun, is_turned_away, done_at, done_from, done_by, tree_up_to}

-- the call that is done at an event
done_listed : (before events : List Event) (i : ℕ) (e : Event) → slice_get events i ≡ Some e → slice_get (done_from before events) i ≡ Some (done_at (before ++ take i events) e)
done_listed before [] i e there = absurd (none-some e there)
done_listed before (x ∷ events) zero e there =
    ap (λ y. Some (done_at before y)) (same_Some x e there) ∙ ap (λ b. Some (done_at b e)) (sym (append-nil before))
done_listed before (x ∷ events) (suc i) e there =
    done_listed (before ++ x ∷ []) events i e there ∙ ap (λ b. Some (done_at b e)) (append_assoc before (x ∷ []) (take i events))

next_tree : (room : Room) (opened : Tree) (first : ℕ) (entries : List Entry) (i : ℕ) → tree_after_entries room opened first entries (suc i) ≡ tree_after_entry room (tree_after_entries room opened first entries i) (first + suc i) (slice_get entries i)
unfolding tree_after_entries
next_tree room opened first entries i = refl

-- the tree after an event, by the call that is done there
pub tree_at_event : (room : Room) (opened : Tree) (first : ℕ) (events : List Event) (i : ℕ) (e : Event) → slice_get events i ≡ Some e
    → tree_up_to room opened first events (i + 1) ≡ tree_after_entry room (tree_up_to room opened first events i) (first + (i + 1)) (Some (done_at (take i events) e))
tree_at_event room opened first events i e there =
    let next : i + 1 ≡ suc i = omega arith in
    let number : first + suc i ≡ first + (i + 1) = omega arith in
    ap (λ k. tree_after_entries room opened first (done_by events) k) next
    ∙ next_tree room opened first (done_by events) i
    ∙ ap (λ o. tree_after_entry room (tree_after_entries room opened first (done_by events) i) (first + suc i) o) (done_listed [] events i e there)
    ∙ ap (λ n. tree_after_entry room (tree_after_entries room opened first (done_by events) i) n (Some (done_at (take i events) e))) number

-- A call that ends at once and is not turned away changes the tree by what the call does.
pub done_changes : (room : Room) (opened : Tree) (first : ℕ) (events : List Event) (i t : ℕ) (c : Call) (r : Reply) → slice_get events i ≡ Some (End t c r) → has_begun t false (take i events) ≡ false → is_turned_away r ≡ false
    → tree_up_to room opened first events (i + 1) ≡ tree_after room (tree_up_to room opened first events i) (first + (i + 1)) c
done_changes room opened first events i t c r there free given =
    tree_at_event room opened first events i (End t c r) there
    ∙ ap (λ o. tree_after_entry room (tree_up_to room opened first events i) (first + (i + 1)) (Some o))
    (ap (λ b. if b then None else if is_turned_away r then None else Some c) free ∙ ap (λ b. if b then None else Some c) given)

pub turned_away_stays : (room : Room) (opened : Tree) (first : ℕ) (events : List Event) (i t : ℕ) (c : Call) (r : Reply) → slice_get events i ≡ Some (End t c r) → is_turned_away r ≡ true → tree_up_to room opened first events (i + 1) ≡ tree_up_to room opened first events i
turned_away_stays room opened first events i t c r there away =
    tree_at_event room opened first events i (End t c r) there
    ∙ ap (λ o. tree_after_entry room (tree_up_to room opened first events i) (first + (i + 1)) (Some o)) (by (has_begun t false (take i events)))
  where
    by : (b : Bool) → (if b then None else if is_turned_away r then None else Some c) ≡ None
    by true = refl
    by false = ap (λ x. if x then None else Some c) away

pub begun_stays : (room : Room) (opened : Tree) (first : ℕ) (events : List Event) (i t : ℕ) (c : Call) (r : Reply) → slice_get events i ≡ Some (End t c r) → has_begun t false (take i events) ≡ true → tree_up_to room opened first events (i + 1) ≡ tree_up_to room opened first events i
begun_stays room opened first events i t c r there begun =
    tree_at_event room opened first events i (End t c r) there
    ∙ ap (λ o. tree_after_entry room (tree_up_to room opened first events i) (first + (i + 1)) (Some o)) (ap (λ b. if b then None else if is_turned_away r then None else Some c) begun)

pub begin_stays : (room : Room) (opened : Tree) (first : ℕ) (events : List Event) (i t : ℕ) (c : Call) → slice_get events i ≡ Some (Begin t c) → tree_up_to room opened first events (i + 1) ≡ tree_up_to room opened first events i
begin_stays room opened first events i t c there = tree_at_event room opened first events i (Begin t c) there
