-- Places in lists that rise by a key.
use Rattle.std.proofs.Common.{◌≡◌, ℕ, zero, suc, ◌+◌, ◌<◌, ◌≤◌, ◌==◌, ◌⊎◌, Bool, true, false, not, nat_lt, if◌then◌else◌, List, [], ◌∷◌, length, get_or, Some, Result, Ok, Err, set, refl, sym, ap, subst, ◌∙◌, inl, inr, ⊎_elim, arith, tests, eqb-true, eq-eqb, Less, Greater}
use Rattle.std.specs.List.{slice_get, insert, remove}
use Rattle.std.specs.List.Sorted.{IsBinarySearchResult, IsSearchInRange}
use Rattle.std.specs.Ordering.{nat_cmp, ordering_index, MatchOrdering}
use Rattle.std.specs.Prelude.{◌≢◌}
use Rattle.std.proofs.lemmas.Bool.{cases_eq, false≢true, ne_eqb, ltb-true, ltb-false, lt-ltb, le-ltb}
use Rattle.std.proofs.lemmas.Option.{slice_get-get_or, same_Some, none-some}
use Rattle.std.specs.Cmp.{ranks}
use Rattle.blk_base.specs.Members.{In, IsAscending}
use Rattle.blk_base.specs.laws.Members.{filter_all, remove-ascending, slice_get-In, slice_get-in_range, slice_get-length, IsAscending-places}
use Rattle.number_sets.specs.Keyed.{put_by, drop_by}

module _ {X : Type 0} (key : X → ℕ) where
  -- an element with this key stands at this place
  pub record KeyStandsAt (xs : List X) (n at : ℕ) : Type 0 where
    pub within : at < length xs
    pub here : X
    pub read : slice_get xs at ≡ Some here
    pub same : key here ≡ n
    pub put : (q : X) → key q ≡ n → put_by key xs q ≡ set xs at q
    pub dropped : drop_by key xs n ≡ remove xs at

  -- no element has this key, and one with it would stand at this place
  pub record KeyBelongsAt (xs : List X) (n at : ℕ) : Type 0 where
    pub within : at ≤ length xs
    pub none : (x : X) → In x xs → key x ≢ n
    pub put : (q : X) → key q ≡ n → put_by key xs q ≡ insert xs at q
    pub dropped : drop_by key xs n ≡ xs

  abbrev pub IsKeyPlace : List X → ℕ → Result ℕ ℕ → Type 0
  IsKeyPlace xs n (Ok at) = KeyStandsAt xs n at
  IsKeyPlace xs n (Err at) = KeyBelongsAt xs n at

  put_there : (xs : List X) (at : ℕ) (x q : X) → IsAscending key xs → slice_get xs at ≡ Some x → key q ≡ key x → put_by key xs q ≡ set xs at q
  put_there [] at x q a e k = absurd (none-some x e)
  put_there (y ∷ ys) zero x q a e k =
      let same : (key y == key q) ≡ true = eq-eqb (key y) (key q) (ap key (same_Some y x e) ∙ sym k) in
      rw same refl
  put_there (y ∷ ys) (suc at) x q a e k =
      let less = a.0 x (slice_get-In ys at x e) in
      let ne : (key y == key q) ≡ false = ne_eqb (key y) (key q) (λ d. omega (arith, less, k, d)) in
      let no : nat_lt (key q) (key y) ≡ false = le-ltb (key q) (key y) (omega (arith, less, k)) in
      rw ne (rw no (ap (λ zs. y ∷ zs) (put_there ys at x q a.1 e k)))

  -- all before the place have lower keys, and all from it on have higher ones
  record Parts (xs : List X) (n at : ℕ) : Type 0 where
    lower : (k : ℕ) (x : X) → slice_get xs k ≡ Some x → k < at → key x < n
    higher : (k : ℕ) (x : X) → slice_get xs k ≡ Some x → at ≤ k → n < key x

  after_front : (y : X) (ys : List X) (n at : ℕ) → Parts (y ∷ ys) n (suc at) → Parts ys n at
  after_front y ys n at p = record { lower = λ k x e lt. p.lower (suc k) x e (omega (arith, lt)); higher = λ k x e le. p.higher (suc k) x e (omega (arith, le)) }

  put_between : (xs : List X) (n at : ℕ) (q : X) → at ≤ length xs → Parts xs n at → key q ≡ n → put_by key xs q ≡ insert xs at q
  put_between [] n at q within p k = let none : at ≡ 0 = omega (arith, within) in rw none refl
  put_between (y ∷ ys) n zero q within p k =
      let high = p.higher 0 y refl (omega arith) in
      let ne : (key y == key q) ≡ false = ne_eqb (key y) (key q) (λ d. omega (arith, high, d, k)) in
      let yes : nat_lt (key q) (key y) ≡ true = lt-ltb (key q) (key y) (omega (arith, high, k)) in
      rw ne (rw yes refl)
  put_between (y ∷ ys) n (suc at) q within p k =
      let low = p.lower 0 y refl (omega arith) in
      let ne : (key y == key q) ≡ false = ne_eqb (key y) (key q) (λ d. omega (arith, low, d, k)) in
      let no : nat_lt (key q) (key y) ≡ false = le-ltb (key q) (key y) (omega (arith, low, k)) in
      rw ne (rw no (ap (λ zs. y ∷ zs) (put_between ys n at q (omega (arith, within)) (after_front y ys n at p) k)))

  none_has : (xs : List X) (n at : ℕ) → Parts xs n at → (x : X) → In x xs → key x ≢ n
  none_has [] n at p x i = absurd i
  none_has (y ∷ ys) n zero p x (inl e) = let high = p.higher 0 y refl (omega arith) in λ d. let k = ap key e in omega (arith, high, d, k)
  none_has (y ∷ ys) n (suc at) p x (inl e) = let low = p.lower 0 y refl (omega arith) in λ d. let k = ap key e in omega (arith, low, d, k)
  none_has (y ∷ ys) n zero p x (inr i) = none_has ys n zero (record { lower = λ k x e lt. absurd (omega (arith, lt)); higher = λ k x e le. p.higher (suc k) x e (omega arith) }) x i
  none_has (y ∷ ys) n (suc at) p x (inr i) = none_has ys n at (after_front y ys n at p) x i

  stands_at : (xs : List X) (n at : ℕ) (x : X) → IsAscending key xs → at < length xs → slice_get xs at ≡ Some x → key x ≡ n → KeyStandsAt xs n at
  stands_at xs n at x a inside e k = record {
    within = inside;
    here = x;
    read = e;
    same = k;
    put = λ q d. put_there xs at x q a e (d ∙ sym k);
    dropped = ap (drop_by key xs) (sym k) ∙ sym (remove-ascending key xs at x a e);
  }

  belongs_at : (xs : List X) (n at : ℕ) → at ≤ length xs → Parts xs n at → KeyBelongsAt xs n at
  belongs_at xs n at inside p = record {
    within = inside;
    none = none_has xs n at p;
    put = λ q k. put_between xs n at q inside p k;
    dropped = filter_all (λ x. not (key x == n)) xs (λ x i. ap not (ne_eqb (key x) n (none_has xs n at p x i)));
  }

  rises : (xs : List X) → IsAscending key xs → (i j : ℕ) (d : X) → i ≤ j → j < length xs → key (get_or xs i d) ≤ key (get_or xs j d)
  rises xs a i j d le lt =
      ⊎_elim
      (λ e. subst (λ n. key (get_or xs i d) ≤ key (get_or xs n d)) e (omega arith))
      (λ ne. let less = IsAscending-places key xs i j (get_or xs i d) (get_or xs j d) a (omega (arith, le, ne)) (slice_get-get_or xs i d (omega (arith, le, lt))) (slice_get-get_or xs j d lt) in omega (arith, less))
      (cases_eq i j)

  ordered : (n a b : ℕ) → a ≤ b → ordering_index (nat_cmp a n) ≤ ordering_index (nat_cmp b n)
  ordered n a b le = grind (arith, tests)

  -- what a binary search for a key answers
  pub found_key : (xs : List X) (n : ℕ) (r : Result ℕ ℕ) → IsAscending key xs → IsSearchInRange r (length xs) → IsBinarySearchResult (λ x. nat_cmp (key x) n) xs r → IsKeyPlace xs n r
  found_key xs n (Ok at) a inside h =
      let there = slice_get-in_range xs at inside in
      let x = there.0 in
      let same : get_or xs at x ≡ x = same_Some (get_or xs at x) x (sym (slice_get-get_or xs at x inside) ∙ there.1) in
      let k : key (get_or xs at x) ≡ n = subst (λ o. MatchOrdering o (key (get_or xs at x) < n) (key (get_or xs at x) ≡ n) (n < key (get_or xs at x))) (h x) (ranks (key (get_or xs at x)) n) in
      stands_at xs n at x a inside there.1 (ap key (sym same) ∙ k)
  found_key xs n (Err at) a inside h =
      let parted = h (λ i j d le lt. ordered n (key (get_or xs i d)) (key (get_or xs j d)) (rises xs a i j d le lt)) in
      belongs_at xs n at inside (record { lower = λ k x e lt. low parted.0 k x e lt; higher = λ k x e le. high parted.1 k x e le })
    where
      read : (k : ℕ) (x : X) → slice_get xs k ≡ Some x → k < length xs → get_or xs k x ≡ x
      read k x e lt = same_Some (get_or xs k x) x (sym (slice_get-get_or xs k x lt) ∙ e)

      low : ((k : ℕ) (d : X) → 0 ≤ k → k < at → nat_cmp (key (get_or xs k d)) n ≡ Less) → (k : ℕ) (x : X) → slice_get xs k ≡ Some x → k < at → key x < n
      low p k x e lt =
          let y = get_or xs k x in
          subst (λ z. key z < n) (read k x e (omega (arith, lt, inside)))
          (subst (λ o. MatchOrdering o (key y < n) (key y ≡ n) (n < key y)) (p k x (omega arith) lt) (ranks (key y) n))

      high : ((k : ℕ) (d : X) → at ≤ k → k < length xs → nat_cmp (key (get_or xs k d)) n ≡ Greater) → (k : ℕ) (x : X) → slice_get xs k ≡ Some x → at ≤ k → n < key x
      high p k x e le =
          let y = get_or xs k x in
          let lt : k < length xs = slice_get-length xs k x e in
          subst (λ z. n < key z) (read k x e lt)
          (subst (λ o. MatchOrdering o (key y < n) (key y ≡ n) (n < key y)) (p k x le lt) (ranks (key y) n))

  -- ---- what a put leaves

  pub In-put_by : (xs : List X) (q y : X) → In y (put_by key xs q) → (q ≡ y) ⊎ In y xs
  In-put_by [] q y i = ⊎_elim (λ e. inl e) (λ n. absurd n) i
  In-put_by (x ∷ xs) q y i = first (In-put_by xs q y) (key x == key q) i
    where
      second : (In y (put_by key xs q) → (q ≡ y) ⊎ In y xs) → (t : Bool) → In y (if t then q ∷ x ∷ xs else x ∷ put_by key xs q) → (q ≡ y) ⊎ In y (x ∷ xs)
      second rest true = ⊎_elim (λ e. inl e) (λ j. inr j)
      second rest false = ⊎_elim (λ e. inr (inl e)) (λ j. ⊎_elim (λ e. inl e) (λ k. inr (inr k)) (rest j))

      first : (In y (put_by key xs q) → (q ≡ y) ⊎ In y xs) → (t : Bool) → In y (if t then q ∷ xs else if nat_lt (key q) (key x) then q ∷ x ∷ xs else x ∷ put_by key xs q) → (q ≡ y) ⊎ In y (x ∷ xs)
      first rest true j = ⊎_elim (λ e. inl e) (λ k. inr (inr k)) j
      first rest false j = second rest (nat_lt (key q) (key x)) j

  pub ascending-put_by : (xs : List X) (q : X) → IsAscending key xs → IsAscending key (put_by key xs q)
  ascending-put_by [] q a = (λ y i. absurd i, tt)
  ascending-put_by (x ∷ xs) q a = first (ascending-put_by xs q a.1) (key x == key q) refl
    where
      second : IsAscending key (put_by key xs q) → (t : Bool) → key x ≢ key q → nat_lt (key q) (key x) ≡ t → IsAscending key (if t then q ∷ x ∷ xs else x ∷ put_by key xs q)
      second rest true ne lt =
          let less = ltb-true (key q) (key x) lt in
          (λ y i. ⊎_elim (λ e. let k = ap key e in omega (arith, less, k)) (λ j. let more = a.0 y j in omega (arith, less, more)) i, a)
      second rest false ne ge =
          let le = ltb-false (key q) (key x) ge in
          (λ y i. ⊎_elim (λ e. let k = ap key e in omega (arith, le, k, ne)) (λ j. a.0 y j) (In-put_by xs q y i), rest)

      first : IsAscending key (put_by key xs q) → (t : Bool) → (key x == key q) ≡ t → IsAscending key (if t then q ∷ xs else if nat_lt (key q) (key x) then q ∷ x ∷ xs else x ∷ put_by key xs q)
      first rest true e = let k = eqb-true (key x) (key q) e in (λ y i. let more = a.0 y i in omega (arith, k, more), a.1)
      first rest false e = second rest (nat_lt (key q) (key x)) (λ k. false≢true (sym e ∙ eq-eqb (key x) (key q) k)) refl

  -- the put element is there, and so are those of other keys
  pub put_by-self : (xs : List X) (q : X) → In q (put_by key xs q)
  put_by-self [] q = inl refl
  put_by-self (x ∷ xs) q = first (put_by-self xs q) (key x == key q)
    where
      second : In q (put_by key xs q) → (t : Bool) → In q (if t then q ∷ x ∷ xs else x ∷ put_by key xs q)
      second rest true = inl refl
      second rest false = inr rest

      first : In q (put_by key xs q) → (t : Bool) → In q (if t then q ∷ xs else if nat_lt (key q) (key x) then q ∷ x ∷ xs else x ∷ put_by key xs q)
      first rest true = inl refl
      first rest false = second rest (nat_lt (key q) (key x))

  pub put_by-In : (xs : List X) (q y : X) → In y xs → key y ≢ key q → In y (put_by key xs q)
  put_by-In [] q y i ne = absurd i
  put_by-In (x ∷ xs) q y i ne = first (λ j. put_by-In xs q y j ne) (key x == key q) refl
    where
      second : (In y xs → In y (put_by key xs q)) → (t : Bool) → In y (if t then q ∷ x ∷ xs else x ∷ put_by key xs q)
      second rest true = inr i
      second rest false = ⊎_elim (λ e. inl e) (λ j. inr (rest j)) i

      first : (In y xs → In y (put_by key xs q)) → (t : Bool) → (key x == key q) ≡ t → In y (if t then q ∷ xs else if nat_lt (key q) (key x) then q ∷ x ∷ xs else x ∷ put_by key xs q)
      first rest true e = ⊎_elim (λ d. absurd (ne (sym (ap key d) ∙ eqb-true (key x) (key q) e))) (λ j. inr j) i
      first rest false e = second rest (nat_lt (key q) (key x))

  -- ---- how many elements there can be

  pub put_by-longer : (xs : List X) (q : X) → length (put_by key xs q) ≤ length xs + 1
  put_by-longer [] q = omega arith
  put_by-longer (x ∷ xs) q = first (put_by-longer xs q) (key x == key q)
    where
      second : length (put_by key xs q) ≤ length xs + 1 → (t : Bool) → length (if t then q ∷ x ∷ xs else x ∷ put_by key xs q) ≤ length (x ∷ xs) + 1
      second rest true = omega arith
      second rest false = omega (arith, rest)

      first : length (put_by key xs q) ≤ length xs + 1 → (t : Bool) → length (if t then q ∷ xs else if nat_lt (key q) (key x) then q ∷ x ∷ xs else x ∷ put_by key xs q) ≤ length (x ∷ xs) + 1
      first rest true = omega arith
      first rest false = second rest (nat_lt (key q) (key x))

  from_low : (xs : List X) (low n : ℕ) → IsAscending key xs → ((x : X) → In x xs → (low ≤ key x) × (key x < n)) → (length xs + low ≤ n) ⊎ (xs ≡ [])
  from_low [] low n a h = inr refl
  from_low (x ∷ xs) low n a h =
      let here = h x (inl refl) in
      let more = here.0 in
      let less = here.1 in
      ⊎_elim
      (λ rest. inl (omega (arith, rest, more, less)))
      (λ none. let one = ap length none in inl (omega (arith, one, more, less)))
      (from_low xs (suc (key x)) n a.1 (λ y i. let up = a.0 y i in (omega (arith, up), (h y (inr i)).1)))

  -- with keys below n there are at most n
  pub ascending-few : (xs : List X) (n : ℕ) → IsAscending key xs → ((x : X) → In x xs → key x < n) → length xs ≤ n
  ascending-few xs n a h =
      ⊎_elim
      (λ t. omega (arith, t))
      (λ none. let size = ap length none in omega (arith, size))
      (from_low xs 0 n a (λ x i. (omega arith, h x i)))
