-- Pages whose bodies stand apart, where a page comes, changes or goes.
use Rattle.std.proofs.Common.{◌≡◌, ◌≢◌, ℕ, zero, suc, ◌+◌, ◌≤◌, Bool, true, false, cond, List, [], ◌∷◌, map, count_by, slice_set, Option, Some, None, refl, sym, ap, subst, ◌∙◌, ⊎_elim, arith}
use Rattle.std.specs.Prelude.{is_some, IsSome, slice_index_or}
use Rattle.std.specs.Option.{option_map}
use Rattle.std.proofs.lemmas.Bool.{cases_eq, false≢true}
use Rattle.std.proofs.lemmas.Option.{none-some, same_Some}
use Rattle.std.proofs.lemmas.List.Sums.{sum_by-cons}
use Rattle.slab.specs.Slab.{Slab, get, slab_len, with_value, Updates}
use Rattle.slab.proofs.SlabLemmas.{Updates-with_value}
use Rattle.page_cache.specs.declared.cached_page.CachedPage.{CachedPage}
use Rattle.page_cache.specs.declared.cached_page.PageState.{PageState}
use Rattle.page_cache.specs.declared.page_body.PageBody.{PageBody}
use Rattle.page_cache.specs.declared.page_body.PageBody.TheVariants.{Full, Slot}
use Rattle.page_cache.specs.declared.page_store.PageHead.{PageHead}
use Rattle.page_cache.specs.Pages.{marked}
use Rattle.page_cache.specs.code.Store.{body_or_none, body_of, with_body, page_of, stored, slot_in, slot_of, has_slot, IsThere, IsKept, IsReleased, AreStored}

-- ---- slots that are alike but for one

abbrev one : {T : Type 0} → (T → Bool) → T → ℕ
one p x = cond (p x) 1 0

module _ {T : Type 0} (p : Option T → Bool) (none : p None ≡ false) where
  same_count : (xs ys : List (Option T)) → ((i : ℕ) → slice_index_or xs i None ≡ slice_index_or ys i None) → count_by p xs ≡ count_by p ys
  same_count [] [] same = refl
  same_count [] (y ∷ ys) same =
      let rest = same_count [] ys (λ i. same (suc i)) in
      let first = sum_by-cons (one p) y ys in
      let here : one p y ≡ 0 = ap (one p) (sym (same 0)) ∙ ap (λ (t : Bool). cond t 1 0) none in
      omega arith
  same_count (x ∷ xs) [] same =
      let rest = same_count xs [] (λ i. same (suc i)) in
      let first = sum_by-cons (one p) x xs in
      let here : one p x ≡ 0 = ap (one p) (same 0) ∙ ap (λ (t : Bool). cond t 1 0) none in
      omega arith
  same_count (x ∷ xs) (y ∷ ys) same =
      let rest = same_count xs ys (λ i. same (suc i)) in
      let first = sum_by-cons (one p) x xs in
      let other = sum_by-cons (one p) y ys in
      let here : one p x ≡ one p y = ap (one p) (same 0) in
      omega arith

  abbrev tail : List (Option T) → List (Option T)
  tail [] = []
  tail (x ∷ xs) = xs

  get-tail : (xs : List (Option T)) (i : ℕ) → slice_index_or (tail xs) i None ≡ slice_index_or xs (suc i) None
  get-tail [] i = refl
  get-tail (x ∷ xs) i = refl

  count-tail : (xs : List (Option T)) → count_by p xs ≡ one p (slice_index_or xs 0 None) + count_by p (tail xs)
  count-tail [] = sym (ap (λ (t : Bool). cond t 1 0 + 0) none)
  count-tail (x ∷ xs) = sum_by-cons (one p) x xs

  pub changed_count : (k : ℕ) (xs ys : List (Option T)) → ((i : ℕ) → i ≢ k → slice_index_or ys i None ≡ slice_index_or xs i None)
      → count_by p ys + one p (slice_index_or xs k None) ≡ count_by p xs + one p (slice_index_or ys k None)
  changed_count zero xs ys others =
      let a = count-tail xs in
      let b = count-tail ys in
      let rest = same_count (tail ys) (tail xs) (λ i. get-tail ys i ∙ others (suc i) (λ e. omega arith) ∙ sym (get-tail xs i)) in
      omega arith
  changed_count (suc k) xs ys others =
      let a = count-tail xs in
      let b = count-tail ys in
      let here : one p (slice_index_or ys 0 None) ≡ one p (slice_index_or xs 0 None) = ap (one p) (others 0 (λ e. omega arith)) in
      let rest = changed_count k (tail xs) (tail ys) (λ i apart. get-tail ys i ∙ others (suc i) (λ e. apart (omega arith)) ∙ sym (get-tail xs i)) in
      let x = ap (one p) (get-tail xs k) in
      let y = ap (one p) (get-tail ys k) in
      omega arith

-- ---- the pages as they are seen

pub get_stored : (B : Slab (List ℕ)) (slots : List (Option PageHead)) (i : ℕ) → slice_index_or (map (option_map (page_of B)) slots) i None ≡ option_map (page_of B) (slice_index_or slots i None)
get_stored B [] i = refl
get_stored B (x ∷ xs) zero = refl
get_stored B (x ∷ xs) (suc i) = get_stored B xs i

pub len_stored : (B : Slab (List ℕ)) (slots : List (Option PageHead)) → count_by is_some (map (option_map (page_of B)) slots) ≡ count_by is_some slots
len_stored B [] = refl
len_stored B (None ∷ xs) =
    let page : Option CachedPage = None in
    let head : Option PageHead = None in
    let a = sum_by-cons (one is_some) page (map (option_map (page_of B)) xs) in
    let b = sum_by-cons (one is_some) head xs in
    let rest = len_stored B xs in
    omega arith
len_stored B (Some x ∷ xs) =
    let a = sum_by-cons (one is_some) (Some (page_of B x)) (map (option_map (page_of B)) xs) in
    let b = sum_by-cons (one is_some) (Some x) xs in
    let rest = len_stored B xs in
    omega arith

pub len_set : (slots : List (Option PageHead)) (k : ℕ) (x : PageHead) → IsSome (slice_index_or slots k None) → count_by is_some (slice_set slots k (Some x)) ≡ count_by is_some slots
len_set [] k x h = absurd (false≢true h)
len_set (None ∷ slots) zero x h = absurd (false≢true h)
len_set (Some y ∷ slots) zero x h = refl
len_set (None ∷ slots) (suc k) x h = len_set slots k x h
len_set (Some y ∷ slots) (suc k) x h =
    sum_by-cons (one is_some) (Some y) (slice_set slots k (Some x)) ∙ ap (λ n. 1 + n) (len_set slots k x h) ∙ sym (sum_by-cons (one is_some) (Some y) slots)

pub as_many : (B C : Slab (List ℕ)) (slots : List (Option PageHead)) (k : ℕ) (x : PageHead) → IsSome (slice_index_or slots k None)
    → count_by is_some (map (option_map (page_of C)) (slice_set slots k (Some x))) ≡ count_by is_some (map (option_map (page_of B)) slots)
as_many B C slots k x h = len_stored C (slice_set slots k (Some x)) ∙ len_set slots k x h ∙ sym (len_stored B slots)

some_head : (B : Slab (List ℕ)) (o : Option PageHead) → IsSome (option_map (page_of B) o) → IsSome o
some_head B None e = e
some_head B (Some x) e = refl

pub has_head : (B : Slab (List ℕ)) (H : Slab PageHead) (room i : ℕ) → IsSome (get (stored B H room) i) → IsSome (get H i)
has_head B H room i some = some_head B (get H i) (subst IsSome (get_stored B H.slots i) some)

same_body : (B C : Slab (List ℕ)) (b : PageBody) → ((k : ℕ) → slot_in b ≡ Some k → get C k ≡ get B k) → body_of C b ≡ body_of B b
same_body B C (Full v) same = refl
same_body B C (Slot k) same = ap body_or_none (same k refl)

same_page : (B C : Slab (List ℕ)) (o : Option PageHead) → ((k : ℕ) → slot_of o ≡ Some k → get C k ≡ get B k) → option_map (page_of C) o ≡ option_map (page_of B) o
same_page B C None same = refl
same_page B C (Some h) same = ap (λ b. Some (with_body h b)) (same_body B C h.body same)

-- ---- how many bodies have slots

slot_some : (x : Option PageHead) → one has_slot x ≤ one is_some x
slot_some None = omega arith
slot_some (Some h) = by (is_some (slot_in h.body))
  where
    by : (t : Bool) → cond t 1 0 ≤ 1
    by true = omega arith
    by false = omega arith

few_slots : (xs : List (Option PageHead)) → count_by has_slot xs ≤ count_by is_some xs
few_slots [] = omega arith
few_slots (x ∷ xs) =
    let a = sum_by-cons (one has_slot) x xs in
    let b = sum_by-cons (one is_some) x xs in
    let rest = few_slots xs in
    let here = slot_some x in
    omega arith

-- fewer than there are heads, and one fewer still where a head has none
fewer : (k : ℕ) (xs : List (Option PageHead)) → count_by has_slot xs + one is_some (slice_index_or xs k None) ≤ count_by is_some xs + one has_slot (slice_index_or xs k None)
fewer k [] = omega arith
fewer zero (x ∷ xs) =
    let a = sum_by-cons (one has_slot) x xs in
    let b = sum_by-cons (one is_some) x xs in
    let rest = few_slots xs in
    omega arith
fewer (suc k) (x ∷ xs) =
    let a = sum_by-cons (one has_slot) x xs in
    let b = sum_by-cons (one is_some) x xs in
    let rest = fewer k xs in
    let here = slot_some x in
    omega arith

-- ---- slots

pub is_there : (B : Slab (List ℕ)) (f : Option ℕ) → ((k : ℕ) → f ≡ Some k → IsSome (get B k)) → IsThere B f
is_there B None all = tt
is_there B (Some k) all = all k refl

there_is : (B : Slab (List ℕ)) (f : Option ℕ) (k : ℕ) → IsThere B f → f ≡ Some k → IsSome (get B k)
there_is B None k there e = absurd (none-some k e)
there_is B (Some j) k there e = subst (λ i. IsSome (get B i)) (same_Some j k e) there

no_some : (B : Slab (List ℕ)) (k : ℕ) (P : Type 0) → get B k ≡ None → IsSome (get B k) → P
no_some B k P none some = absurd (false≢true (subst IsSome none some))

-- a body came
came_kept : (B C : Slab (List ℕ)) (f : Option ℕ) (k : ℕ) → IsKept B C f → IsSome (get B k) → get C k ≡ get B k
came_kept B C None k h some = ap (λ (s : Slab (List ℕ)). get s k) h
came_kept B C (Some j) k h some = h.2.others k (λ e. no_some B j ⊥ h.0 (subst (λ i. IsSome (get B i)) e some))

came_new : (B C : Slab (List ℕ)) (f : Option ℕ) (k : ℕ) → IsKept B C f → f ≡ Some k → IsSome (get C k)
came_new B C None k h e = absurd (none-some k e)
came_new B C (Some j) k h e = subst (λ i. IsSome (get C i)) (same_Some j k e) (subst IsSome (sym h.2.changed) refl)

came_fresh : (B C : Slab (List ℕ)) (f : Option ℕ) (k : ℕ) → IsKept B C f → f ≡ Some k → get B k ≡ None
came_fresh B C None k h e = absurd (none-some k e)
came_fresh B C (Some j) k h e = ap (get B) (sym (same_Some j k e)) ∙ h.0

came_len : (B C : Slab (List ℕ)) (f : Option ℕ) → IsKept B C f → slab_len C ≡ slab_len B + one is_some f
came_len B C None h = let e = ap slab_len h in omega arith
came_len B C (Some j) h = let e = h.3 in omega arith

-- a body went
went_kept : (B C : Slab (List ℕ)) (f : Option ℕ) (k : ℕ) → IsReleased B C f → f ≢ Some k → get C k ≡ get B k
went_kept B C None k h apart = ap (λ (s : Slab (List ℕ)). get s k) h
went_kept B C (Some j) k h apart = h.0.others k (λ e. apart (ap Some (sym e)))

went_from : (B C : Slab (List ℕ)) (f : Option ℕ) (k : ℕ) → IsReleased B C f → IsSome (get B k) → get C k ≡ None → f ≡ Some k
went_from B C None k h some none = no_some C k _ none (subst IsSome (ap (λ (s : Slab (List ℕ)). get s k) (sym h)) some)
went_from B C (Some j) k h some none =
    ⊎_elim
    (λ e. ap Some (sym e))
    (λ apart. no_some B k _ (sym (h.0.others k apart) ∙ none) some)
    (cases_eq k j)

went_len : (B C : Slab (List ℕ)) (f : Option ℕ) → IsReleased B C f → slab_len C + one is_some f ≡ slab_len B
went_len B C None h = let e = ap slab_len h in omega arith
went_len B C (Some j) h = let e = h.1 in omega arith

-- ---- the fields where one head changes

-- what the slots of the old and of the new head have to do with the bodies
pub record IsSwap (B C : Slab (List ℕ)) (f g : Option ℕ) : Type 0 where
  pub kept : (k : ℕ) → f ≢ Some k → IsSome (get B k) → get C k ≡ get B k
  pub new : (k : ℕ) → g ≡ Some k → IsSome (get C k)
  pub fresh : (k : ℕ) → g ≡ Some k → IsSome (get B k) → f ≡ Some k
  pub len : slab_len C + one is_some f ≡ slab_len B + one is_some g

pub swap_in : (B C : Slab (List ℕ)) (g : Option ℕ) → IsKept B C g → IsSwap B C None g
swap_in B C g h = record {
  kept = λ k apart. came_kept B C g k h;
  new = λ k. came_new B C g k h;
  fresh = λ k e some. no_some B k _ (came_fresh B C g k h e) some;
  len = let n = came_len B C g h in omega arith;
}

pub swap_out : (B C : Slab (List ℕ)) (f : Option ℕ) → IsReleased B C f → IsSwap B C f None
swap_out B C f h = record {
  kept = λ k apart some. went_kept B C f k h apart;
  new = λ k e. absurd (none-some k e);
  fresh = λ k e some. absurd (none-some k e);
  len = let n = went_len B C f h in omega arith;
}

pub swap_both : (B M C : Slab (List ℕ)) (f g : Option ℕ) → IsReleased B M f → IsKept M C g → IsSwap B C f g
swap_both B M C f g h l = record {
  kept = λ k apart some. let old = went_kept B M f k h apart in came_kept M C g k l (subst IsSome (sym old) some) ∙ old;
  new = λ k. came_new M C g k l;
  fresh = λ k e some. went_from B M f k h some (came_fresh M C g k l e);
  len = let n = went_len B M f h in let m = came_len M C g l in omega arith;
}

module _ (B C : Slab (List ℕ)) (H G : Slab PageHead) (room key : ℕ) (h : AreStored B H room) (u : (i : ℕ) → i ≢ key → get G i ≡ get H i)
    (w : IsSwap B C (slot_of (get H key)) (slot_of (get G key))) (heads : G.capacity ≡ H.capacity) (bodies : C.capacity ≡ B.capacity) (few : slab_len G ≤ room) where
  from : (i k : ℕ) → i ≢ key → slot_of (get G i) ≡ Some k → slot_of (get H i) ≡ Some k
  from i k ne e = sym (ap slot_of (u i ne)) ∙ e

  live : (i k : ℕ) → i ≢ key → slot_of (get H i) ≡ Some k → get C k ≡ get B k
  live i k ne e = w.kept k (λ d. ne (h.apart i key k e d)) (there_is B _ k (h.there i) e)

  at_key : (i k : ℕ) → i ≡ key → slot_of (get G i) ≡ Some k → slot_of (get G key) ≡ Some k
  at_key i k same e = ap (λ j. slot_of (get G j)) (sym same) ∙ e

  there : (i : ℕ) → IsThere C (slot_of (get G i))
  there i =
      is_there C (slot_of (get G i))
      (λ k e.
      ⊎_elim
      (λ same. w.new k (at_key i k same e))
      (λ ne. let f = from i k ne e in subst IsSome (sym (live i k ne f)) (there_is B _ k (h.there i) f))
      (cases_eq i key))

  -- the new head's slot is no other head's
  alone : (j k : ℕ) → j ≢ key → slot_of (get G key) ≡ Some k → slot_of (get G j) ≡ Some k → ⊥
  alone j k ne e d = let f = from j k ne d in ne (h.apart j key k f (w.fresh k e (there_is B _ k (h.there j) f)))

  apart : (i j k : ℕ) → slot_of (get G i) ≡ Some k → slot_of (get G j) ≡ Some k → i ≡ j
  apart i j k e d =
      ⊎_elim
      (λ same.
      ⊎_elim
      (λ other. same ∙ sym other)
      (λ ne. absurd (alone j k ne (at_key i k same e) d))
      (cases_eq j key))
      (λ ne.
      ⊎_elim
      (λ other. absurd (alone i k ne (at_key j k other d) e))
      (λ unlike. h.apart i j k (from i k ne e) (from j k unlike d))
      (cases_eq j key))
      (cases_eq i key)

  pub swapped : AreStored C G room
  swapped =
      let size = changed_count has_slot refl key H.slots G.slots u in
      let len = w.len in
      let old = h.count in
      let a = h.enough_heads in
      let b = h.enough_bodies in
      record { there = there; apart = apart; count = omega arith; most = few; enough_heads = omega arith; enough_bodies = omega arith }

  -- and what is seen of it
  pub swapped_page : (q : Option CachedPage) → option_map (page_of C) (get G key) ≡ q → Updates (stored B H room) (stored C G room) key q
  swapped_page q e = record {
    changed = get_stored C G.slots key ∙ e;
    others = λ i ne.
        get_stored C G.slots i ∙ ap (option_map (page_of C)) (u i ne)
        ∙ same_page B C (get H i) (λ k f. live i k ne f) ∙ sym (get_stored B H.slots i);
  }

-- ---- the steps of the code

module _ (B C : Slab (List ℕ)) (H G : Slab PageHead) (room key : ℕ) (h : AreStored B H room) (bodies : C.capacity ≡ B.capacity) (heads : G.capacity ≡ H.capacity) where
  step : (o p : Option PageHead) (q : Option CachedPage) → get H key ≡ o → Updates H G key p → IsSwap B C (slot_of o) (slot_of p) → slab_len G ≤ room → option_map (page_of C) p ≡ q
      → AreStored C G room × Updates (stored B H room) (stored C G room) key q
  step o p q was u w few e =
      let swap : IsSwap B C (slot_of (get H key)) (slot_of (get G key)) =
      subst (λ x. IsSwap B C (slot_of x) (slot_of (get G key))) (sym was) (subst (λ y. IsSwap B C (slot_of o) (slot_of y)) (sym u.changed) w) in (
        swapped B C H G room key h u.others swap heads bodies few,
        swapped_page B C H G room key h u.others swap heads bodies few q (ap (option_map (page_of C)) u.changed ∙ e),
      )

  pub inserted : (x : PageHead) (q : CachedPage) → get H key ≡ None → IsKept B C (slot_in x.body) → Updates H G key (Some x) → slab_len G ≡ slab_len H + 1 → slab_len (stored B H room) + 1 ≤ room → page_of C x ≡ q
      → AreStored C G room × Updates (stored B H room) (stored C G room) key (Some q)
  inserted x q was kept u len free e =
      let seen = len_stored B H.slots in
      step None (Some x) (Some q) was u (swap_in B C (slot_in x.body) kept) (omega arith) (ap Some e)

  pub removed : (x : PageHead) → get H key ≡ Some x → IsReleased B C (slot_in x.body) → Updates H G key None → slab_len G + 1 ≡ slab_len H
      → AreStored C G room × Updates (stored B H room) (stored C G room) key None
  removed x was released u len =
      let most = h.most in
      step (Some x) None None was u (swap_out B C (slot_in x.body) released) (omega arith) refl

  pub replaced : (M : Slab (List ℕ)) (x y : PageHead) (q : CachedPage) → get H key ≡ Some x → IsReleased B M (slot_in x.body) → IsKept M C (slot_in y.body) → Updates H G key (Some y) → slab_len G ≡ slab_len H → page_of C y ≡ q
      → AreStored C G room × Updates (stored B H room) (stored C G room) key (Some q)
  replaced M x y q was released kept u len e =
      let most = h.most in
      step (Some x) (Some y) (Some q) was u (swap_both B M C (slot_in x.body) (slot_in y.body) released kept) (omega arith) (ap Some e)

-- no more bodies than heads
pub few_bodies : (B : Slab (List ℕ)) (H : Slab PageHead) (room : ℕ) → AreStored B H room → slab_len B ≤ slab_len H
few_bodies B H room h = let few = few_slots H.slots in let old = h.count in omega arith

-- room for a body
pub room_in : (B : Slab (List ℕ)) (H : Slab PageHead) (room : ℕ) → AreStored B H room → slab_len (stored B H room) + 1 ≤ room → slab_len B + 1 ≤ B.capacity
room_in B H room h free =
    let seen = len_stored B H.slots in
    let few = few_slots H.slots in
    let old = h.count in
    let enough = h.enough_bodies in
    omega arith

-- also where one went before
pub room_again : (B M : Slab (List ℕ)) (H : Slab PageHead) (room key : ℕ) (x : PageHead) → AreStored B H room → get H key ≡ Some x → IsReleased B M (slot_in x.body) → M.capacity ≡ B.capacity → slab_len M + 1 ≤ M.capacity
room_again B M H room key x h was released capacity =
    let few = fewer key H.slots in
    let head : one is_some (get H key) ≡ 1 = ap (one is_some) was in
    let slot : one has_slot (get H key) ≡ one is_some (slot_in x.body) = ap (one has_slot) was in
    let less = went_len B M (slot_in x.body) released in
    let old = h.count in
    let most = h.most in
    let enough = h.enough_bodies in
    omega arith

-- a page of what its head says and of its body
pub page_made : (C : Slab (List ℕ)) (q : CachedPage) (x : PageHead) (first b : PageBody) → x ≡ record { birth = q.birth; index = q.index; block = q.block; version = q.version; state = q.state; body = first } → body_of C b ≡ q.body → with_body x (body_of C b) ≡ q
page_made C q x first b e d =
    ap (λ y. with_body y (body_of C b)) e
    ∙ ap (λ bytes. let page : CachedPage = record { birth = q.birth; index = q.index; block = q.block; body = bytes; version = q.version; state = q.state } in page) d

-- from what was seen before
pub seen_from : (s v t : Slab CachedPage) (key : ℕ) (q : Option CachedPage) → s ≡ v → Updates s t key q → Updates v t key q
seen_from s v t key q e u = subst (λ x. Updates x t key q) e u

-- more room
pub grown : (B : Slab (List ℕ)) (H : Slab PageHead) (room bodies heads wanted : ℕ) → AreStored B H room → slab_len H ≤ wanted → wanted ≤ heads → wanted ≤ bodies
    → AreStored (record B { capacity = bodies }) (record H { capacity = heads }) wanted
grown B H room bodies heads wanted h few a b =
    record {
      there = λ i. is_there (record B { capacity = bodies }) (slot_of (get H i)) (λ k. there_is B (slot_of (get H i)) k (h.there i));
      apart = h.apart;
      count = h.count;
      most = few;
      enough_heads = a;
      enough_bodies = b;
    }

-- a page has another state
pub remarked : (B : Slab (List ℕ)) (H : Slab PageHead) (room key : ℕ) (x : PageHead) (s : PageState) (h : AreStored B H room) → get H key ≡ Some x → let y : PageHead = record x { state = s } in
    AreStored B (with_value H key y) room × Updates (stored B H room) (stored B (with_value H key y) room) key (option_map (λ p. marked p s) (get (stored B H room) key))
remarked B H room key x s h was =
    let y : PageHead = record x { state = s } in
    let u = Updates-with_value H key y (subst IsSome (sym was) refl) in
    let same : slot_of (get (with_value H key y) key) ≡ slot_of (get H key) = ap slot_of u.changed ∙ sym (ap slot_of was) in
    let swap : IsSwap B B (slot_of (get H key)) (slot_of (get (with_value H key y) key)) =
    record {
      kept = λ k apart some. refl;
      new = λ k e. there_is B (slot_of (get H key)) k (h.there key) (sym same ∙ e);
      fresh = λ k e some. sym same ∙ e;
      len = ap (λ f. slab_len B + one is_some f) (sym same);
    } in
    let few : slab_len (with_value H key y) ≤ room = let n = len_set H.slots key y (subst IsSome (sym was) refl) in let m = h.most in omega arith in (
      swapped B B H (with_value H key y) room key h u.others swap refl refl few,
      swapped_page B B H (with_value H key y) room key h u.others swap refl refl few
          (option_map (λ p. marked p s) (get (stored B H room) key))
          (ap (option_map (page_of B)) u.changed ∙ sym (ap (option_map (λ p. marked p s)) (get_stored B H.slots key ∙ ap (option_map (page_of B)) was))),
    )
