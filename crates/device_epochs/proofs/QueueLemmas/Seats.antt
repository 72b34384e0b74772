-- The commands in their slots.
use Rattle.std.proofs.Common.{◌≡◌, ℕ, zero, suc, ◌+◌, ◌<◌, ◌≤◌, cond, eqb, ltb, List, [], ◌∷◌, ◌++◌, length, get_or, set, map, count_by, All, refl, sym, ap, ◌∙◌, arith, inl, inr, get_or-set_other}
use Rattle.std.specs.List.{remove}
use Rattle.std.proofs.lemmas.Bool.{ne_eqb, eq-eqb, lt-ltb, le-ltb, cases_lt, cases_eq, cases_order, cond_both}
use Rattle.std.proofs.lemmas.List.Sums.{sum_by_push, sum_by-remove, sum_by-cons, get_or-le-sum_by}
use Rattle.order_model.specs.declared.command.Command.{Command}
use Rattle.order_model.specs.Single.{blank_command}
use Rattle.device_epochs.specs.declared.queue.queue.Seat.{Seat}
use Rattle.device_epochs.specs.queue.code.Seats.{seated, EachOnce}

-- ---- lists

pub map-remove : {X Y : Type 0} (f : X → Y) (xs : List X) (i : ℕ) → map f (remove xs i) ≡ remove (map f xs) i
map-remove f [] zero = refl
map-remove f [] (suc i) = refl
map-remove f (x ∷ xs) zero = refl
map-remove f (x ∷ xs) (suc i) = ap (λ l. f x ∷ l) (map-remove f xs i)

-- ---- slots

abbrev seats_at : ℕ → List Seat → ℕ
seats_at slot seats = count_by (λ (s : Seat). eqb s.slot slot) seats

seated-once : (seats : List Seat) (s : Seat) (slot : ℕ) → s.slot ≡ slot → seats_at slot (s ∷ seats) ≡ 0 → ⊥
seated-once seats s slot same none =
    let parts = sum_by-cons (λ (t : Seat). cond (eqb t.slot slot) 1 0) s seats in
    let one = ap {B = ℕ} (λ b. cond b 1 0) (eq-eqb s.slot slot same) in
    let sum = sym parts ∙ none in
    omega arith

-- a write to a slot of no seat
pub seated-set : (slots : List Command) (seats : List Seat) (slot : ℕ) (c : Command) → seats_at slot seats ≡ 0 → seated (set slots slot c) seats ≡ seated slots seats
seated-set slots [] slot c none = refl
seated-set slots (s ∷ seats) slot c none =
    let parts = sum_by-cons (λ (s : Seat). cond (eqb s.slot slot) 1 0) s seats in
    elim (cases_eq s.slot slot) [
      | inl same ↦ absurd (seated-once seats s slot same none)
      | inr differs ↦
          (let zero = ap {B = ℕ} (λ b. cond b 1 0) (ne_eqb s.slot slot differs) in
          let sum = sym parts ∙ none in
          let other = get_or-set_other slots slot s.slot c blank_command differs in
          let rest = seated-set slots seats slot c (omega arith) in
          (λ i. record { number = s.number; command = other i } ∷ rest i))
    ]

-- ---- each slot stands once

abbrev free_at : ℕ → List ℕ → ℕ
free_at slot free = count_by (λ (f : ℕ). eqb f slot) free

abbrev one_below : ℕ → ℕ → ℕ
one_below slot depth = cond (ltb slot depth) 1 0

within-from_count : (slot depth n : ℕ) → 1 ≤ n → n ≤ one_below slot depth → slot < depth
within-from_count slot depth n some most =
    elim (cases_lt slot depth) [
      | inl lt ↦ lt
      | inr ge ↦ absurd (let none = le-ltb slot depth ge in let most' = rw none at most in omega arith)
    ]

one_below-le : (slot depth : ℕ) → one_below slot depth ≤ 1
one_below-le slot depth = cond_both (ltb slot depth) 1 0 (λ n. n ≤ 1) (λ e. omega arith) (λ e. omega arith)

one_below-suc : (slot depth : ℕ) → one_below slot (depth + 1) ≡ one_below slot depth + cond (eqb depth slot) 1 0
one_below-suc slot depth =
    elim (cases_order slot depth) [
      | inl same ↦
          (let a = lt-ltb slot (depth + 1) (omega arith) in
          let b = le-ltb slot depth (omega arith) in
          let e = eq-eqb depth slot (omega arith) in
          rw (a, b, e))
      | inr other ↦ elim other [
        | inl below ↦
            (let a = lt-ltb slot (depth + 1) (omega arith) in
            let b = lt-ltb slot depth below in
            let e = ne_eqb depth slot (omega arith) in
            rw (a, b, e))
        | inr above ↦
            (let a = le-ltb slot (depth + 1) (omega arith) in
            let b = le-ltb slot depth (omega arith) in
            let e = ne_eqb depth slot (omega arith) in
            rw (a, b, e))
      ]
    ]

-- a seat counts at its slot
seat-counts : (seats : List Seat) (i : ℕ) (d : Seat) → i < length seats → 1 ≤ seats_at (get_or seats i d).slot seats
seat-counts seats i d lt =
    let slot = (get_or seats i d).slot in
    let here = get_or-le-sum_by (λ (s : Seat). cond (eqb s.slot slot) 1 0) seats i d lt in
    rw (eq-eqb slot slot refl) at here

pub EachOnce-more : (depth : ℕ) (free new : List ℕ) → EachOnce depth [] free → new ≡ free ++ depth ∷ [] → EachOnce (depth + 1) [] new
EachOnce-more depth free new each pushed = record {
  once = λ slot.
      let before = each.once slot in
      let more = sum_by_push (λ (f : ℕ). cond (eqb f slot) 1 0) free depth in
      let step = one_below-suc slot depth in
      rw pushed (omega arith);
}

pub seats-within : (depth : ℕ) (seats : List Seat) (free : List ℕ) → EachOnce depth seats free → All (λ (s : Seat). s.slot < depth) seats
seats-within depth seats free each = λ i d lt.
    let slot = (get_or seats i d).slot in
    let here = seat-counts seats i d lt in
    let once = each.once slot in
    within-from_count slot depth (seats_at slot seats) here (omega arith)

-- the last of the free slots
pub last-within : (depth slot : ℕ) (seats : List Seat) (free : List ℕ) → EachOnce depth seats (free ++ slot ∷ []) → slot < depth
last-within depth slot seats free each =
    let more = sum_by_push (λ (f : ℕ). cond (eqb f slot) 1 0) free slot in
    let more' = rw (eq-eqb slot slot refl) at more in
    let once = each.once slot in
    within-from_count slot depth (free_at slot (free ++ slot ∷ [])) (omega arith) (omega arith)

pub last-not_seated : (depth slot : ℕ) (seats : List Seat) (free : List ℕ) → EachOnce depth seats (free ++ slot ∷ []) → seats_at slot seats ≡ 0
last-not_seated depth slot seats free each =
    let more = sum_by_push (λ (f : ℕ). cond (eqb f slot) 1 0) free slot in
    let more' = rw (eq-eqb slot slot refl) at more in
    let once = each.once slot in
    let most = one_below-le slot depth in
    omega arith

-- a command arrives in the last of the free slots
pub EachOnce-arrive : (depth number slot : ℕ) (seats : List Seat) (free : List ℕ) → EachOnce depth seats (free ++ slot ∷ [])
    → EachOnce depth (seats ++ record { number = number; slot = slot } ∷ []) free
EachOnce-arrive depth number slot seats free each = record {
  once = λ k.
      let before = each.once k in
      let less = sum_by_push (λ (f : ℕ). cond (eqb f k) 1 0) free slot in
      let more = sum_by_push (λ (s : Seat). cond (eqb s.slot k) 1 0) seats (record { number = number; slot = slot }) in
      omega arith;
}

-- the command of the seat at i leaves
pub EachOnce-leave : (depth i : ℕ) (d : Seat) (seats : List Seat) (free : List ℕ) → EachOnce depth seats free → i < length seats
    → EachOnce depth (remove seats i) (free ++ (get_or seats i d).slot ∷ [])
EachOnce-leave depth i d seats free each lt = record {
  once = λ k.
      let before = each.once k in
      let more = sum_by_push (λ (f : ℕ). cond (eqb f k) 1 0) free (get_or seats i d).slot in
      let less = sum_by-remove (λ (s : Seat). cond (eqb s.slot k) 1 0) seats i d lt in
      omega arith;
}
