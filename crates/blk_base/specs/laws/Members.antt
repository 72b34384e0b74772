-- What filters, maps and edits do to membership, and the element at a place.
use Rattle.std.specs.Prelude.{◌≡◌, ◌≢◌, ℕ, zero, suc, ◌-◌, ◌<◌, ◌≤◌, Bool, true, false, not, ◌==◌, List, [], ◌∷◌, ◌++◌, ◌⊎◌, Some, None, length, map, slice_get, take, replicate, refl}
use Rattle.std.specs.List.{All, filter, list_any, list_all, remove}
use Rattle.std.proofs.Common.{set, sym, ap, subst, ◌∙◌, inl, inr, ⊎_elim, arith}
use Rattle.std.proofs.lemmas.Bool.{cases_Bool, false≢true, or_left, or_right, or_cases, and_from, and_parts, or_parts, ne_eqb, eq-eqb}
use Rattle.std.proofs.lemmas.List.Elements.{All-head, All-tail, All-cons, All-nil}
use Rattle.std.proofs.lemmas.Option.{none-some, same_Some}
pub use Rattle.std.proofs.lemmas.Option.{slice_get-map}
use Rattle.blk_base.specs.Members.{In, IsAscending}

-- ---- one more element, and two lists

pub In-push : {X : Type 0} (xs : List X) (y : X) → In y (xs ++ y ∷ [])
In-push [] y = inl refl
In-push (x ∷ xs) y = inr (In-push xs y)

pub In-append_left : {X : Type 0} (xs ys : List X) (x : X) → In x xs → In x (xs ++ ys)
In-append_left [] ys x h = absurd h
In-append_left (z ∷ zs) ys x (inl e) = inl e
In-append_left (z ∷ zs) ys x (inr h) = inr (In-append_left zs ys x h)

pub In-append_right : {X : Type 0} (xs ys : List X) (x : X) → In x ys → In x (xs ++ ys)
In-append_right [] ys x h = h
In-append_right (z ∷ zs) ys x h = inr (In-append_right zs ys x h)

pub In-append_cases : {X : Type 0} (xs ys : List X) (x : X) → In x (xs ++ ys) → In x xs ⊎ In x ys
In-append_cases [] ys x h = inr h
In-append_cases (z ∷ zs) ys x (inl e) = inl (inl e)
In-append_cases (z ∷ zs) ys x (inr h) = ⊎_elim (λ l. inl (inr l)) inr (In-append_cases zs ys x h)

pub In-push_left : {X : Type 0} (xs : List X) (y x : X) → In x xs → In x (xs ++ y ∷ [])
In-push_left xs y x h = In-append_left xs (y ∷ []) x h

pub In-push_cases : {X : Type 0} (xs : List X) (y x : X) → In x (xs ++ y ∷ []) → In x xs ⊎ (y ≡ x)
In-push_cases xs y x h =
    ⊎_elim inl (λ r. ⊎_elim inr (λ n. absurd n) r) (In-append_cases xs (y ∷ []) x h)

-- ---- filters and maps

pub In-filter : {X : Type 0} (p : X → Bool) (xs : List X) (x : X) → In x (filter p xs) → In x xs × (p x ≡ true)
In-filter p [] x h = absurd h
In-filter p (y ∷ ys) x h =
    elim (cases_Bool (p y)) [
      | inl t ↦
          ⊎_elim
          (λ e. (inl e, subst (λ z. p z ≡ true) e t))
          (λ r. let i = In-filter p ys x r in (inr i.0, i.1))
          (rw t at h)
      | inr f ↦ let i = In-filter p ys x (rw f at h) in (inr i.0, i.1)
    ]

pub filter-In : {X : Type 0} (p : X → Bool) (xs : List X) (x : X) → In x xs → p x ≡ true → In x (filter p xs)
filter-In p [] x h t = absurd h
filter-In p (y ∷ ys) x (inl e) t = rw (subst (λ z. p z ≡ true) (sym e) t) (inl e)
filter-In p (y ∷ ys) x (inr h) t =
    elim (cases_Bool (p y)) [
      | inl u ↦ rw u (inr (filter-In p ys x h t))
      | inr f ↦ rw f (filter-In p ys x h t)
    ]

-- a filter that all elements pass
pub filter_all : {X : Type 0} (p : X → Bool) (xs : List X) → ((x : X) → In x xs → p x ≡ true) → filter p xs ≡ xs
filter_all p [] h = refl
filter_all p (y ∷ ys) h =
    rw (h y (inl refl)) (ap (λ zs. y ∷ zs) (filter_all p ys (λ x i. h x (inr i))))

pub In-map : {X Y : Type 0} (f : X → Y) (xs : List X) (y : Y) → In y (map f xs) → (x : X) × In x xs × (f x ≡ y)
In-map f [] y h = absurd h
In-map f (z ∷ zs) y (inl e) = (z, inl refl, e)
In-map f (z ∷ zs) y (inr h) = let i = In-map f zs y h in (i.0, inr i.1, i.2)

pub map-In : {X Y : Type 0} (f : X → Y) (xs : List X) (x : X) → In x xs → In (f x) (map f xs)
map-In f [] x h = absurd h
map-In f (z ∷ zs) x (inl e) = inl (ap f e)
map-In f (z ∷ zs) x (inr h) = inr (map-In f zs x h)

-- ---- tests of some or of all elements

pub In-list_any : {X : Type 0} (p : X → Bool) (xs : List X) → list_any p xs ≡ true → (x : X) × In x xs × (p x ≡ true)
In-list_any p [] h = absurd (false≢true h)
In-list_any p (y ∷ ys) h =
    ⊎_elim
    (λ t. (y, inl refl, t))
    (λ r. let i = In-list_any p ys r in (i.0, inr i.1, i.2))
    (or_cases (p y) (list_any p ys) h)

pub list_any-In : {X : Type 0} (p : X → Bool) (xs : List X) (x : X) → In x xs → p x ≡ true → list_any p xs ≡ true
list_any-In p [] x h t = absurd h
list_any-In p (y ∷ ys) x (inl e) t = or_left (p y) (list_any p ys) (subst (λ z. p z ≡ true) (sym e) t)
list_any-In p (y ∷ ys) x (inr h) t = or_right (p y) (list_any p ys) (list_any-In p ys x h t)

pub none-list_any : {X : Type 0} (p : X → Bool) (xs : List X) (x : X) → list_any p xs ≡ false → In x xs → p x ≡ false
none-list_any p [] x f h = absurd h
none-list_any p (y ∷ ys) x f (inl e) = subst (λ z. p z ≡ false) e (or_parts (p y) (list_any p ys) f).0
none-list_any p (y ∷ ys) x f (inr h) = none-list_any p ys x (or_parts (p y) (list_any p ys) f).1 h

pub list_any-none : {X : Type 0} (p : X → Bool) (xs : List X) → ((x : X) → In x xs → p x ≡ false) → list_any p xs ≡ false
list_any-none p [] h = refl
list_any-none p (y ∷ ys) h = rw (h y (inl refl)) (list_any-none p ys (λ x i. h x (inr i)))

pub all-list_all : {X : Type 0} (p : X → Bool) (xs : List X) (x : X) → list_all p xs ≡ true → In x xs → p x ≡ true
all-list_all p [] x t h = absurd h
all-list_all p (y ∷ ys) x t (inl e) = subst (λ z. p z ≡ true) e (and_parts (p y) (list_all p ys) t).0
all-list_all p (y ∷ ys) x t (inr h) = all-list_all p ys x (and_parts (p y) (list_all p ys) t).1 h

pub list_all-In : {X : Type 0} (p : X → Bool) (xs : List X) → ((x : X) → In x xs → p x ≡ true) → list_all p xs ≡ true
list_all-In p [] h = refl
list_all-In p (y ∷ ys) h =
    and_from (p y) (list_all p ys) (h y (inl refl)) (list_all-In p ys (λ x i. h x (inr i)))

-- std's `All`, by membership
pub All-In : {X : Type 0} (P : X → Type 0) (xs : List X) (x : X) → All P xs → In x xs → P x
All-In P [] x a h = absurd h
All-In P (y ∷ ys) x a (inl e) = subst P e (All-head P y ys a)
All-In P (y ∷ ys) x a (inr h) = All-In P ys x (All-tail P y ys a) h

pub In-All : {X : Type 0} (P : X → Type 0) (xs : List X) → ((x : X) → In x xs → P x) → All P xs
In-All P [] h = All-nil P
In-All P (y ∷ ys) h = All-cons P y ys (h y (inl refl)) (In-All P ys (λ x i. h x (inr i)))

-- ---- the element at a place

pub slice_get-in_range : {X : Type 0} (xs : List X) (i : ℕ) → i < length xs → (x : X) × (slice_get xs i ≡ Some x)
slice_get-in_range [] i h = absurd (omega arith)
slice_get-in_range (y ∷ ys) zero h = (y, refl)
slice_get-in_range (y ∷ ys) (suc i) h = slice_get-in_range ys i (omega arith)

pub slice_get-out : {X : Type 0} (xs : List X) (i : ℕ) → length xs ≤ i → slice_get xs i ≡ None
slice_get-out [] i h = refl
slice_get-out (y ∷ ys) zero h = absurd (omega arith)
slice_get-out (y ∷ ys) (suc i) h = slice_get-out ys i (omega arith)

pub slice_get-length : {X : Type 0} (xs : List X) (i : ℕ) (x : X) → slice_get xs i ≡ Some x → i < length xs
slice_get-length [] i x e = absurd (none-some x e)
slice_get-length (y ∷ ys) zero x e = omega arith
slice_get-length (y ∷ ys) (suc i) x e = let h = slice_get-length ys i x e in omega (arith, h)

-- two lists with the same element at each place
pub same_by_slice_get : {X : Type 0} (xs ys : List X) → length xs ≡ length ys → ((i : ℕ) → i < length xs → slice_get xs i ≡ slice_get ys i) → xs ≡ ys
same_by_slice_get [] [] n h = refl
same_by_slice_get [] (y ∷ ys) n h = absurd (omega arith)
same_by_slice_get (x ∷ xs) [] n h = absurd (omega arith)
same_by_slice_get (x ∷ xs) (y ∷ ys) n h =
    let first : x ≡ y = same_Some x y (h 0 (omega arith)) in
    let rest : xs ≡ ys = same_by_slice_get xs ys (omega arith) (λ i lt. h (suc i) (omega arith)) in
    cc

pub slice_get-In : {X : Type 0} (xs : List X) (i : ℕ) (x : X) → slice_get xs i ≡ Some x → In x xs
slice_get-In [] i x e = absurd (none-some x e)
slice_get-In (y ∷ ys) zero x e = inl (same_Some y x e)
slice_get-In (y ∷ ys) (suc i) x e = inr (slice_get-In ys i x e)

pub In-slice_get : {X : Type 0} (xs : List X) (x : X) → In x xs → (i : ℕ) × (i < length xs) × (slice_get xs i ≡ Some x)
In-slice_get [] x h = absurd h
In-slice_get (y ∷ ys) x (inl e) = (0, omega arith, ap Some e)
In-slice_get (y ∷ ys) x (inr h) =
    let p = In-slice_get ys x h in (suc p.0, omega (arith, p.1), p.2)

pub slice_get-append_left : {X : Type 0} (xs ys : List X) (i : ℕ) → i < length xs → slice_get (xs ++ ys) i ≡ slice_get xs i
slice_get-append_left [] ys i h = absurd (omega arith)
slice_get-append_left (x ∷ xs) ys zero h = refl
slice_get-append_left (x ∷ xs) ys (suc i) h = slice_get-append_left xs ys i (omega arith)

pub slice_get-append_right : {X : Type 0} (xs ys : List X) (i : ℕ) → length xs ≤ i → slice_get (xs ++ ys) i ≡ slice_get ys (i - length xs)
slice_get-append_right [] ys i h = let e : i - 0 ≡ i = omega arith in rw e refl
slice_get-append_right (x ∷ xs) ys zero h = absurd (omega arith)
slice_get-append_right (x ∷ xs) ys (suc i) h =
    let e : suc i - suc (length xs) ≡ i - length xs = omega arith in
    rw e (slice_get-append_right xs ys i (omega arith))

pub slice_get-push : {X : Type 0} (xs : List X) (y : X) → slice_get (xs ++ y ∷ []) (length xs) ≡ Some y
slice_get-push [] y = refl
slice_get-push (x ∷ xs) y = slice_get-push xs y

pub slice_get-push_left : {X : Type 0} (xs : List X) (y : X) (i : ℕ) → i < length xs → slice_get (xs ++ y ∷ []) i ≡ slice_get xs i
slice_get-push_left xs y i h = slice_get-append_left xs (y ∷ []) i h

pub slice_get-push_cases : {X : Type 0} (xs : List X) (y : X) (i : ℕ) (x : X) → slice_get (xs ++ y ∷ []) i ≡ Some x → (slice_get xs i ≡ Some x) ⊎ ((i ≡ length xs) × (y ≡ x))
slice_get-push_cases [] y zero x e = inr (refl, same_Some y x e)
slice_get-push_cases [] y (suc i) x e = absurd (none-some x e)
slice_get-push_cases (z ∷ zs) y zero x e = inl e
slice_get-push_cases (z ∷ zs) y (suc i) x e =
    ⊎_elim inl (λ r. inr (ap suc r.0, r.1)) (slice_get-push_cases zs y i x e)

pub slice_get-set_same : {X : Type 0} (xs : List X) (i : ℕ) (x : X) → i < length xs → slice_get (set xs i x) i ≡ Some x
slice_get-set_same [] i x h = absurd (omega arith)
slice_get-set_same (y ∷ ys) zero x h = refl
slice_get-set_same (y ∷ ys) (suc i) x h = slice_get-set_same ys i x (omega arith)

pub slice_get-set_other : {X : Type 0} (xs : List X) (i j : ℕ) (x : X) → j ≢ i → slice_get (set xs i x) j ≡ slice_get xs j
slice_get-set_other [] i j x n = refl
slice_get-set_other (y ∷ ys) zero zero x n = absurd (n refl)
slice_get-set_other (y ∷ ys) zero (suc j) x n = refl
slice_get-set_other (y ∷ ys) (suc i) zero x n = refl
slice_get-set_other (y ∷ ys) (suc i) (suc j) x n = slice_get-set_other ys i j x (λ e. n (ap suc e))

-- a write of what stands there already
pub set-slice_get : {X : Type 0} (xs : List X) (i : ℕ) (x : X) → slice_get xs i ≡ Some x → set xs i x ≡ xs
set-slice_get [] i x e = refl
set-slice_get (y ∷ ys) zero x e = ap (λ z. z ∷ ys) (sym (same_Some y x e))
set-slice_get (y ∷ ys) (suc i) x e = ap (λ zs. y ∷ zs) (set-slice_get ys i x e)

pub slice_get-take : {X : Type 0} (n : ℕ) (xs : List X) (i : ℕ) → i < n → slice_get (take n xs) i ≡ slice_get xs i
slice_get-take zero xs i h = absurd (omega arith)
slice_get-take (suc n) [] i h = refl
slice_get-take (suc n) (x ∷ xs) zero h = refl
slice_get-take (suc n) (x ∷ xs) (suc i) h = slice_get-take n xs i (omega arith)

pub slice_get-take_out : {X : Type 0} (n : ℕ) (xs : List X) (i : ℕ) → n ≤ i → slice_get (take n xs) i ≡ None
slice_get-take_out zero xs i h = refl
slice_get-take_out (suc n) [] i h = refl
slice_get-take_out (suc n) (x ∷ xs) zero h = absurd (omega arith)
slice_get-take_out (suc n) (x ∷ xs) (suc i) h = slice_get-take_out n xs i (omega arith)

pub slice_get-map_some : {X Y : Type 0} (f : X → Y) (xs : List X) (i : ℕ) (x : X) → slice_get xs i ≡ Some x → slice_get (map f xs) i ≡ Some (f x)
slice_get-map_some f [] i x e = absurd (none-some x e)
slice_get-map_some f (y ∷ ys) zero x e = ap Some (ap f (same_Some y x e))
slice_get-map_some f (y ∷ ys) (suc i) x e = slice_get-map_some f ys i x e

pub map_some-slice_get : {X Y : Type 0} (f : X → Y) (xs : List X) (i : ℕ) (y : Y) → slice_get (map f xs) i ≡ Some y → (x : X) × (slice_get xs i ≡ Some x) × (f x ≡ y)
map_some-slice_get f [] i y e = absurd (none-some y e)
map_some-slice_get f (x ∷ xs) zero y e = (x, refl, same_Some (f x) y e)
map_some-slice_get f (x ∷ xs) (suc i) y e = map_some-slice_get f xs i y e

pub slice_get-replicate : {X : Type 0} (n i : ℕ) (x : X) → i < n → slice_get (replicate n x) i ≡ Some x
slice_get-replicate zero i x h = absurd (omega arith)
slice_get-replicate (suc n) zero x h = refl
slice_get-replicate (suc n) (suc i) x h = slice_get-replicate n i x (omega arith)

pub In-replicate : {X : Type 0} (n : ℕ) (x y : X) → In y (replicate n x) → x ≡ y
In-replicate zero x y h = absurd h
In-replicate (suc n) x y (inl e) = e
In-replicate (suc n) x y (inr h) = In-replicate n x y h

-- ---- removal and writes

pub In-remove : {X : Type 0} (xs : List X) (i : ℕ) (x : X) → In x (remove xs i) → In x xs
In-remove [] zero x h = absurd h
In-remove [] (suc i) x h = absurd h
In-remove (y ∷ ys) zero x h = inr h
In-remove (y ∷ ys) (suc i) x (inl e) = inl e
In-remove (y ∷ ys) (suc i) x (inr h) = inr (In-remove ys i x h)

pub slice_get-remove_below : {X : Type 0} (xs : List X) (i j : ℕ) → j < i → slice_get (remove xs i) j ≡ slice_get xs j
slice_get-remove_below [] zero j h = refl
slice_get-remove_below [] (suc i) j h = refl
slice_get-remove_below (y ∷ ys) zero j h = absurd (omega arith)
slice_get-remove_below (y ∷ ys) (suc i) zero h = refl
slice_get-remove_below (y ∷ ys) (suc i) (suc j) h = slice_get-remove_below ys i j (omega arith)

pub slice_get-remove_above : {X : Type 0} (xs : List X) (i j : ℕ) → i ≤ j → i < length xs → slice_get (remove xs i) j ≡ slice_get xs (suc j)
slice_get-remove_above [] i j h n = absurd (omega arith)
slice_get-remove_above (y ∷ ys) zero j h n = refl
slice_get-remove_above (y ∷ ys) (suc i) zero h n = absurd (omega arith)
slice_get-remove_above (y ∷ ys) (suc i) (suc j) h n = slice_get-remove_above ys i j (omega arith) (omega arith)

pub In-set_cases : {X : Type 0} (xs : List X) (i : ℕ) (y x : X) → In x (set xs i y) → In x xs ⊎ (y ≡ x)
In-set_cases [] i y x h = absurd h
In-set_cases (z ∷ zs) zero y x (inl e) = inr e
In-set_cases (z ∷ zs) zero y x (inr h) = inl (inr h)
In-set_cases (z ∷ zs) (suc i) y x (inl e) = inl (inl e)
In-set_cases (z ∷ zs) (suc i) y x (inr h) = ⊎_elim (λ l. inl (inr l)) inr (In-set_cases zs i y x h)

pub In-take : {X : Type 0} (n : ℕ) (xs : List X) (x : X) → In x (take n xs) → In x xs
In-take zero xs x h = absurd h
In-take (suc n) [] x h = absurd h
In-take (suc n) (y ∷ ys) x (inl e) = inl e
In-take (suc n) (y ∷ ys) x (inr h) = inr (In-take n ys x h)

-- what holds of each element holds after a push, a write, a removal, and at either of two lists
pub each_push : {X : Type 0} (P : X → Type 0) (xs : List X) (y : X) → ((x : X) → In x xs → P x) → P y → (x : X) → In x (xs ++ y ∷ []) → P x
each_push P xs y h p x i = ⊎_elim (h x) (λ e. subst P e p) (In-push_cases xs y x i)

pub each_set : {X : Type 0} (P : X → Type 0) (xs : List X) (i : ℕ) (y : X) → ((x : X) → In x xs → P x) → P y → (x : X) → In x (set xs i y) → P x
each_set P xs i y h p x k = ⊎_elim (h x) (λ e. subst P e p) (In-set_cases xs i y x k)

-- ---- lists in the order of a key

pub IsAscending-filter : {X : Type 0} (key : X → ℕ) (p : X → Bool) (xs : List X) → IsAscending key xs → IsAscending key (filter p xs)
IsAscending-filter key p [] a = tt
IsAscending-filter key p (x ∷ xs) a =
    elim (cases_Bool (p x)) [
      | inl t ↦
          rw t ((λ y i. a.0 y (In-filter p xs y i).0, IsAscending-filter key p xs a.1))
      | inr f ↦ rw f (IsAscending-filter key p xs a.1)
    ]

-- a push of an element whose key is above the others
pub IsAscending-push : {X : Type 0} (key : X → ℕ) (xs : List X) (y : X) → IsAscending key xs → ((x : X) → In x xs → key x < key y) → IsAscending key (xs ++ y ∷ [])
IsAscending-push key [] y a h = (λ x i. absurd i, tt)
IsAscending-push key (x ∷ xs) y a h = (
  λ z i. ⊎_elim (λ l. a.0 z l) (λ e. subst (λ w. key x < key w) e (h x (inl refl))) (In-push_cases xs y z i),
  IsAscending-push key xs y a.1 (λ z i. h z (inr i)),
)

pub IsAscending-remove : {X : Type 0} (key : X → ℕ) (xs : List X) (i : ℕ) → IsAscending key xs → IsAscending key (remove xs i)
IsAscending-remove key [] zero a = tt
IsAscending-remove key [] (suc i) a = tt
IsAscending-remove key (x ∷ xs) zero a = a.1
IsAscending-remove key (x ∷ xs) (suc i) a =
    (λ y h. a.0 y (In-remove xs i y h), IsAscending-remove key xs i a.1)

-- a lower place has a lower key
pub IsAscending-places : {X : Type 0} (key : X → ℕ) (xs : List X) (i j : ℕ) (x y : X) → IsAscending key xs → i < j → slice_get xs i ≡ Some x → slice_get xs j ≡ Some y → key x < key y
IsAscending-places key [] i j x y a lt e f = absurd (none-some x e)
IsAscending-places key (z ∷ zs) i zero x y a lt e f = absurd (omega arith)
IsAscending-places key (z ∷ zs) zero (suc j) x y a lt e f =
    subst (λ w. key w < key y) (same_Some z x e) (a.0 y (slice_get-In zs j y f))
IsAscending-places key (z ∷ zs) (suc i) (suc j) x y a lt e f =
    IsAscending-places key zs i j x y a.1 (omega arith) e f

-- a key stands once
pub IsAscending-same : {X : Type 0} (key : X → ℕ) (xs : List X) (x y : X) → IsAscending key xs → In x xs → In y xs → key x ≡ key y → x ≡ y
IsAscending-same key [] x y a h i e = absurd h
IsAscending-same key (z ∷ zs) x y a (inl p) (inl q) e = sym p ∙ q
IsAscending-same key (z ∷ zs) x y a (inl p) (inr i) e =
    let lt = a.0 y i in let k = ap key p in absurd (omega (arith, lt, k, e))
IsAscending-same key (z ∷ zs) x y a (inr h) (inl q) e =
    let lt = a.0 x h in let k = ap key q in absurd (omega (arith, lt, k, e))
IsAscending-same key (z ∷ zs) x y a (inr h) (inr i) e = IsAscending-same key zs x y a.1 h i e

-- a removal is a filter of the other keys
pub remove-ascending : {X : Type 0} (key : X → ℕ) (xs : List X) (i : ℕ) (y : X) → IsAscending key xs → slice_get xs i ≡ Some y → remove xs i ≡ filter (λ x. not (key x == key y)) xs
remove-ascending key [] i y a e = absurd (none-some y e)
remove-ascending key (z ∷ zs) zero y a e =
    let same : (key z == key y) ≡ true = eq-eqb (key z) (key y) (ap key (same_Some z y e)) in
    let kept : filter (λ x. not (key x == key y)) zs ≡ zs =
    filter_all (λ x. not (key x == key y)) zs
    (λ x h. ap not (ne_eqb (key x) (key y) (λ q. let lt = a.0 x h in let k = ap key (same_Some z y e) in omega (arith, lt, k, q)))) in
    rw same (sym kept)
remove-ascending key (z ∷ zs) (suc i) y a e =
    let other : (key z == key y) ≡ false =
    ne_eqb (key z) (key y) (λ q. let lt = a.0 y (slice_get-In zs i y e) in omega (arith, lt, q)) in
    rw other (ap (λ ws. z ∷ ws) (remove-ascending key zs i y a.1 e))
