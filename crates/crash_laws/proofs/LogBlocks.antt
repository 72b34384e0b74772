-- Laws of lists in which the transactions never fall, and of the list of log blocks.
use Rattle.std.specs.Prelude.{◌≡◌, ℕ, zero, suc, ◌+◌, ◌-◌, ◌<◌, ◌≤◌, ◌==◌, ⊤, Bool, true, false, not, List, [], ◌∷◌, ◌++◌, length, Option, Some, None, slice_get, nat_lt, refl}
use Rattle.std.specs.Option.{option_and_then}
use Rattle.std.specs.List.{filter}
use Rattle.std.proofs.Common.{sym, ap, subst, ◌∙◌, inl, inr, ⊎_elim, arith, append_assoc, append-nil, lt-ltb, le-ltb, eq-eqb, ne_eqb, eqb-true}
use Rattle.std.proofs.lemmas.Bool.{cases_Bool, cases_lt}
use Rattle.std.proofs.lemmas.Option.{none-some, same_Some}
use Rattle.blk_base.specs.Members.{In, IsAscending}
use Rattle.blk_base.specs.laws.Members.{In-append_cases, In-filter, slice_get-append_left, slice_get-append_right, slice_get-length}
use Rattle.order_model.specs.declared.note.Note.{Note}
use Rattle.crash_laws.specs.Session.{LogBlock, with_log_block, log_blocks_from, log_blocks_below, log_blocks_of, log_transaction}

-- ---- filters

pub filter_same : {X : Type 0} (p q : X → Bool) (xs : List X) → ((x : X) → In x xs → p x ≡ q x) → filter p xs ≡ filter q xs
filter_same p q [] h = refl
filter_same p q (x ∷ xs) h =
    let rest = filter_same p q xs (λ y i. h y (inr i)) in
    elim (cases_Bool (q x)) [
      | inl t ↦ rw (h x (inl refl), t) (ap (λ ys. x ∷ ys) rest)
      | inr f ↦ rw (h x (inl refl), f) rest
    ]

pub filter_none : {X : Type 0} (p : X → Bool) (xs : List X) → ((x : X) → In x xs → p x ≡ false) → filter p xs ≡ []
filter_none p [] h = refl
filter_none p (x ∷ xs) h = rw (h x (inl refl)) (filter_none p xs (λ y i. h y (inr i)))

-- ---- lists in which the transactions never fall

abbrev pub IsRising : List LogBlock → Type 0
IsRising [] = ⊤
IsRising (e ∷ es) = ((x : LogBlock) → In x es → e.transaction ≤ x.transaction) × IsRising es

none_below : (k : ℕ) (es : List LogBlock) → ((x : LogBlock) → In x es → k ≤ x.transaction) → log_blocks_below k es ≡ []
none_below k es h = filter_none (λ (e : LogBlock). nat_lt e.transaction k) es (λ x i. le-ltb x.transaction k (h x i))

next_test : (k t : ℕ) → k ≤ t → nat_lt t (k + 1) ≡ (t == k)
next_test k t le =
    ⊎_elim
    (λ above. le-ltb t (k + 1) (omega arith) ∙ sym (ne_eqb t k (λ e. omega arith)))
    (λ same. lt-ltb t (k + 1) (omega arith) ∙ sym (eq-eqb t k (omega arith)))
    (cases_lt k t)

pub below-next : (k : ℕ) (es : List LogBlock) → IsRising es → log_blocks_below (k + 1) es ≡ log_blocks_below k es ++ log_blocks_of k es
below-next k [] r = refl
below-next k (e ∷ es) r =
    ⊎_elim
    (λ lt.
    let now : nat_lt e.transaction (k + 1) ≡ true = lt-ltb e.transaction (k + 1) (omega arith) in
    let old : nat_lt e.transaction k ≡ true = lt-ltb e.transaction k lt in
    let other : (e.transaction == k) ≡ false = ne_eqb e.transaction k (λ q. omega arith) in
    rw (now, old, other) (ap (λ xs. e ∷ xs) (below-next k es r.1)))
    (λ le.
    let all : (x : LogBlock) → In x (e ∷ es) → k ≤ x.transaction = λ x i. at_least x i le in
    filter_same (λ (x : LogBlock). nat_lt x.transaction (k + 1)) (λ (x : LogBlock). x.transaction == k) (e ∷ es) (λ x i. next_test k x.transaction (all x i))
    ∙ ap (λ xs. xs ++ log_blocks_of k (e ∷ es)) (sym (none_below k (e ∷ es) all)))
    (cases_lt e.transaction k)
  where
    at_least : (x : LogBlock) → In x (e ∷ es) → k ≤ e.transaction → k ≤ x.transaction
    at_least x (inl q) le = subst (λ (y : LogBlock). k ≤ y.transaction) q le
    at_least x (inr i) le = let more = r.0 x i in omega arith

pub below-split : (k : ℕ) (es : List LogBlock) → IsRising es → es ≡ log_blocks_below k es ++ filter (λ (e : LogBlock). not (nat_lt e.transaction k)) es
below-split k [] r = refl
below-split k (e ∷ es) r =
    ⊎_elim
    (λ lt.
    let old : nat_lt e.transaction k ≡ true = lt-ltb e.transaction k lt in
    rw old (ap (λ xs. e ∷ xs) (below-split k es r.1)))
    (λ le.
    let all : (x : LogBlock) → In x (e ∷ es) → k ≤ x.transaction = λ x i. at_least x i le in
    sym (all_stay (e ∷ es) all) ∙ ap (λ xs. xs ++ filter (λ (x : LogBlock). not (nat_lt x.transaction k)) (e ∷ es)) (sym (none_below k (e ∷ es) all)))
    (cases_lt e.transaction k)
  where
    at_least : (x : LogBlock) → In x (e ∷ es) → k ≤ e.transaction → k ≤ x.transaction
    at_least x (inl q) le = subst (λ (y : LogBlock). k ≤ y.transaction) q le
    at_least x (inr i) le = let more = r.0 x i in omega arith

    all_stay : (xs : List LogBlock) → ((x : LogBlock) → In x xs → k ≤ x.transaction) → filter (λ (x : LogBlock). not (nat_lt x.transaction k)) xs ≡ xs
    all_stay [] h = refl
    all_stay (x ∷ xs) h =
        let t : not (nat_lt x.transaction k) ≡ true = ap not (le-ltb x.transaction k (h x (inl refl))) in
        rw t (ap (λ ys. x ∷ ys) (all_stay xs (λ y i. h y (inr i))))

-- the log blocks of n transactions from `first` on, one transaction after the other
abbrev pub log_blocks_between : List LogBlock → ℕ → ℕ → List LogBlock
log_blocks_between es first zero = []
log_blocks_between es first (suc n) = log_blocks_between es first n ++ log_blocks_of (first + n) es

pub below-between : (es : List LogBlock) (first n : ℕ) → IsRising es → log_blocks_below (first + n) es ≡ log_blocks_below first es ++ log_blocks_between es first n
below-between es first zero r =
    let e : first + zero ≡ first = omega arith in
    ap (λ k. log_blocks_below k es) e ∙ sym (append-nil (log_blocks_below first es))
below-between es first (suc n) r =
    let e : first + suc n ≡ first + n + 1 = omega arith in
    ap (λ k. log_blocks_below k es) e
    ∙ below-next (first + n) es r
    ∙ ap (λ xs. xs ++ log_blocks_of (first + n) es) (below-between es first n r)
    ∙ append_assoc (log_blocks_below first es) (log_blocks_between es first n) (log_blocks_of (first + n) es)

pub In-between : (es : List LogBlock) (first n : ℕ) (e : LogBlock) → In e (log_blocks_between es first n) → In e es × (first ≤ e.transaction) × (e.transaction < first + n)
In-between es first zero e i = absurd i
In-between es first (suc n) e i =
    ⊎_elim
    (λ l. let r = In-between es first n e l in let lt = r.2 in (r.0, r.1, omega arith))
    (λ l. let f = In-filter (λ (x : LogBlock). x.transaction == first + n) es e l in let q = eqb-true e.transaction (first + n) f.1 in (f.0, omega arith, omega arith))
    (In-append_cases (log_blocks_between es first n) (log_blocks_of (first + n) es) e i)

-- where they stand in the list
pub between-at : (es : List LogBlock) (first n t : ℕ) (e : LogBlock) → IsRising es → slice_get (log_blocks_between es first n) t ≡ Some e → slice_get es (length (log_blocks_below first es) + t) ≡ Some e
between-at es first n t e r h =
    let a = log_blocks_below first es in
    let b = log_blocks_between es first n in
    let c = filter (λ (x : LogBlock). not (nat_lt x.transaction (first + n))) es in
    let whole : es ≡ a ++ (b ++ c) = below-split (first + n) es r ∙ ap (λ xs. xs ++ c) (below-between es first n r) ∙ append_assoc a b c in
    let lt = slice_get-length b t e h in
    let back : length a + t - length a ≡ t = omega arith in
    ap (λ xs. slice_get xs (length a + t)) whole
    ∙ slice_get-append_right a (b ++ c) (length a + t) (omega arith)
    ∙ ap (slice_get (b ++ c)) back
    ∙ slice_get-append_left b c t lt
    ∙ h

-- ---- the log blocks of a list of notes

-- the entry at place i + d of these notes
abbrev IsNumbered : ℕ → List Note → LogBlock → Type 0
IsNumbered i ns e = (d : ℕ) × (e.id ≡ i + d) × (option_and_then log_transaction (slice_get ns d) ≡ Some e.transaction)

entered : (i : ℕ) (n : Note) (ns : List Note) (e : LogBlock) (o : Option ℕ) → log_transaction n ≡ o → (In e (log_blocks_from (i + 1) ns) → IsNumbered (i + 1) ns e)
    → In e (with_log_block o i (log_blocks_from (i + 1) ns)) → IsNumbered i (n ∷ ns) e
entered i n ns e None q later l = let r = later l in let at = r.1 in (suc r.0, omega arith, r.2)
entered i n ns e (Some k) q later (inl same) =
    let at = ap (λ (x : LogBlock). x.id) same in (0, omega arith, q ∙ ap (λ (x : LogBlock). Some x.transaction) same)
entered i n ns e (Some k) q later (inr l) = let r = later l in let at = r.1 in (suc r.0, omega arith, r.2)

pub In-log_blocks : (i : ℕ) (ns : List Note) (e : LogBlock) → In e (log_blocks_from i ns) → IsNumbered i ns e
In-log_blocks i [] e h = absurd h
In-log_blocks i (n ∷ ns) e h = entered i n ns e (log_transaction n) refl (λ l. In-log_blocks (i + 1) ns e l) h

log_block_ascends : (i : ℕ) (ns : List Note) (o : Option ℕ) → IsAscending (λ (e : LogBlock). e.id) (log_blocks_from (i + 1) ns) → IsAscending (λ (e : LogBlock). e.id) (with_log_block o i (log_blocks_from (i + 1) ns))
log_block_ascends i ns None a = a
log_block_ascends i ns (Some k) a =
    (λ y l. let r = In-log_blocks (i + 1) ns y l in let at = r.1 in omega arith, a)

pub log_blocks_ascend : (i : ℕ) (ns : List Note) → IsAscending (λ (e : LogBlock). e.id) (log_blocks_from i ns)
log_blocks_ascend i [] = tt
log_blocks_ascend i (n ∷ ns) = log_block_ascends i ns (log_transaction n) (log_blocks_ascend (i + 1) ns)

-- where ids rise, and transactions do not fall with them
pub rising_by_ids : (es : List LogBlock) → IsAscending (λ (e : LogBlock). e.id) es → ((x y : LogBlock) → In x es → In y es → x.id < y.id → x.transaction ≤ y.transaction) → IsRising es
rising_by_ids [] a h = tt
rising_by_ids (e ∷ es) a h =
    (λ x i. h e x (inl refl) (inr i) (a.0 x i), rising_by_ids es a.1 (λ x y i j lt. h x y (inr i) (inr j) lt))

-- each log block is among them
entered_by : (o : Option ℕ) (i k : ℕ) (es : List LogBlock) → o ≡ Some k → In (record { id = i; transaction = k }) (with_log_block o i es)
entered_by None i k es e = absurd (none-some k e)
entered_by (Some l) i k es e = inl (ap (λ t. record { id = i; transaction = t }) (same_Some l k e))

still_entered : (o : Option ℕ) (i : ℕ) (es : List LogBlock) (x : LogBlock) → In x es → In x (with_log_block o i es)
still_entered None i es x h = h
still_entered (Some l) i es x h = inr h

pub log_is_log_block : (i : ℕ) (ns : List Note) (d k : ℕ) → option_and_then log_transaction (slice_get ns d) ≡ Some k → In (record { id = i + d; transaction = k }) (log_blocks_from i ns)
log_is_log_block i [] d k e = absurd (none-some k e)
log_is_log_block i (n ∷ ns) zero k e =
    let at : i ≡ i + zero = omega arith in
    subst (λ j. In (record { id = j; transaction = k }) (log_blocks_from i (n ∷ ns))) at (entered_by (log_transaction n) i k (log_blocks_from (i + 1) ns) e)
log_is_log_block i (n ∷ ns) (suc d) k e =
    let at : i + 1 + d ≡ i + suc d = omega arith in
    still_entered (log_transaction n) i (log_blocks_from (i + 1) ns) (record { id = i + suc d; transaction = k })
    (subst (λ j. In (record { id = j; transaction = k }) (log_blocks_from (i + 1) ns)) at (log_is_log_block (i + 1) ns d k e))
