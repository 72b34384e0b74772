-- Pages in frames, where a page comes, changes or goes.
use Rattle.std.proofs.Common.{◌≡◌, ◌≢◌, ℕ, zero, suc, ◌+◌, ◌<◌, ◌≤◌, ◌⊎◌, true, false, List, [], ◌∷◌, length, map, slice_set, Option, Some, None, refl, sym, ap, subst, ◌∙◌, inl, inr, ⊎_elim, arith}
use Rattle.std.specs.Prelude.{⊤, IsSome, slice_index_or}
use Rattle.std.specs.List.{insert, remove, slice_get}
use Rattle.std.specs.Option.{option_map}
use Rattle.std.proofs.lemmas.Bool.{cases_eq, false≢true}
use Rattle.std.proofs.Math.Path.{ap₂}
use Rattle.std.proofs.lemmas.Option.{none-some, same_Some, slice_get-get_or}
use Rattle.std.proofs.lemmas.List.{length-map}
use Rattle.std.proofs.lemmas.List.Edits.{length-insert, length-remove}
use Rattle.slab.specs.Slab.{Slab, get, slab_len, Updates}
use Rattle.blk_base.specs.Members.{In}
use Rattle.blk_base.specs.laws.Members.{map-In, slice_get-In, slice_get-map_some, filter_all, In-remove}
use Rattle.page_cache.specs.declared.cached_page.CachedPage.{CachedPage}
use Rattle.page_cache.specs.declared.cached_page.PageState.{PageState}
use Rattle.page_cache.specs.Pages.{IsRising, key_of, page_at, put_page, drop_page, marked, mark_page}
use Rattle.page_cache.specs.code.Keys as keyed
use Rattle.page_cache.specs.code.Frames.{page_or_none, page_in, pages_in, AreFrames}
use Rattle.page_cache.specs.laws.Maps.{page_at-key}
use Rattle.page_cache.specs.laws.Order.{not_same, put-rising, drop-rising}
use Rattle.page_cache.proofs.Keyed.{keys_rising}
use Rattle.page_cache.proofs.Places.{found_there, found_nowhere, put_there_by, put_between_by}

-- no frame has two places
abbrev pub AreApart : List ℕ → Type 0
AreApart [] = ⊤
AreApart (k ∷ ks) = (In k ks → ⊥) × AreApart ks

-- two pages of one key do not stand in order
pub apart : (s : Slab CachedPage) (ks : List ℕ) → IsRising (pages_in s ks) → AreApart ks
apart s [] r = tt
apart s (k ∷ ks) r =
    (λ i. not_same (page_in s k) (page_in s k) (r.0 (page_in s k) (map-In (page_in s) ks k i)) (refl, refl), apart s ks r.1)

same_pages : (s t : Slab CachedPage) (ks : List ℕ) → ((k : ℕ) → In k ks → get t k ≡ get s k) → pages_in t ks ≡ pages_in s ks
same_pages s t [] same = refl
same_pages s t (k ∷ ks) same =
    ap (λ o. page_or_none o ∷ pages_in t ks) (same k (inl refl)) ∙ ap (λ ps. page_in s k ∷ ps) (same_pages s t ks (λ j i. same j (inr i)))

other : (k j : ℕ) (ks : List ℕ) → (In k ks → ⊥) → In j ks → j ≢ k
other k j ks out i e = out (subst (λ x. In x ks) e i)

-- a page changes in its frame
pub pages_set : (s t : Slab CachedPage) (ks : List ℕ) (at k : ℕ) (q : CachedPage) → Updates s t k (Some q) → AreApart ks → slice_get ks at ≡ Some k → pages_in t ks ≡ slice_set (pages_in s ks) at q
pages_set s t [] at k q u r e = absurd (none-some k e)
pages_set s t (x ∷ ks) zero k q u r e =
    let same = same_Some x k e in
    ap (λ j. page_in t j ∷ pages_in t ks) same ∙ ap (λ o. page_or_none o ∷ pages_in t ks) u.changed
    ∙ ap (λ ps. q ∷ ps) (same_pages s t ks (λ j i. u.others j (other k j ks (subst (λ y. In y ks → ⊥) same r.0) i)))
pages_set s t (x ∷ ks) (suc at) k q u r e =
    ap (λ o. page_or_none o ∷ pages_in t ks) (u.others x (λ same. r.0 (subst (λ y. In y ks) (sym same) (slice_get-In ks at k e))))
    ∙ ap (λ ps. page_in s x ∷ ps) (pages_set s t ks at k q u r.1 e)

-- a page comes into a frame that no place names
pub pages_insert : (s t : Slab CachedPage) (ks : List ℕ) (at k : ℕ) (q : CachedPage) → Updates s t k (Some q) → (In k ks → ⊥) → pages_in t (insert ks at k) ≡ insert (pages_in s ks) at q
pages_insert s t ks zero k q u out =
    ap (λ o. page_or_none o ∷ pages_in t ks) u.changed ∙ ap (λ ps. q ∷ ps) (same_pages s t ks (λ j i. u.others j (other k j ks out i)))
pages_insert s t [] (suc at) k q u out = ap (λ o. page_or_none o ∷ []) u.changed
pages_insert s t (x ∷ ks) (suc at) k q u out =
    ap (λ o. page_or_none o ∷ pages_in t (insert ks at k)) (u.others x (other k x (x ∷ ks) out (inl refl)))
    ∙ ap (λ ps. page_in s x ∷ ps) (pages_insert s t ks at k q u (λ i. out (inr i)))

-- a page goes from its frame
pub pages_remove : (s t : Slab CachedPage) (ks : List ℕ) (at k : ℕ) → Updates s t k None → AreApart ks → slice_get ks at ≡ Some k → pages_in t (remove ks at) ≡ remove (pages_in s ks) at
pages_remove s t [] at k u r e = absurd (none-some k e)
pages_remove s t (x ∷ ks) zero k u r e =
    same_pages s t ks (λ j i. u.others j (other k j ks (subst (λ y. In y ks → ⊥) (same_Some x k e) r.0) i))
pages_remove s t (x ∷ ks) (suc at) k u r e =
    ap (λ o. page_or_none o ∷ pages_in t (remove ks at)) (u.others x (λ same. r.0 (subst (λ y. In y ks) (sym same) (slice_get-In ks at k e))))
    ∙ ap (λ ps. page_in s x ∷ ps) (pages_remove s t ks at k u r.1 e)

-- ---- each place has a page

In-insert : (ks : List ℕ) (at k j : ℕ) → In j (insert ks at k) → (k ≡ j) ⊎ In j ks
In-insert ks zero k j (inl e) = inl e
In-insert ks zero k j (inr i) = inr i
In-insert [] (suc at) k j (inl e) = inl e
In-insert [] (suc at) k j (inr i) = absurd i
In-insert (x ∷ ks) (suc at) k j (inl e) = inr (inl e)
In-insert (x ∷ ks) (suc at) k j (inr i) = ⊎_elim inl (λ h. inr (inr h)) (In-insert ks at k j i)

In-removed : (ks : List ℕ) (at k j : ℕ) → AreApart ks → slice_get ks at ≡ Some k → In j (remove ks at) → j ≢ k
In-removed [] at k j r e i = absurd (none-some k e)
In-removed (x ∷ ks) zero k j r e i = other k j ks (subst (λ y. In y ks → ⊥) (same_Some x k e) r.0) i
In-removed (x ∷ ks) (suc at) k j r e (inl same) = λ d. r.0 (subst (λ y. In y ks) (sym (same ∙ d)) (slice_get-In ks at k e))
In-removed (x ∷ ks) (suc at) k j r e (inr i) = In-removed ks at k j r.1 e i

filled_by : (s t : Slab CachedPage) (k j : ℕ) (q : CachedPage) → Updates s t k (Some q) → (j ≢ k → IsSome (get s j)) → IsSome (get t j)
filled_by s t k j q u old =
    ⊎_elim
    (λ same. subst IsSome (sym (ap (get t) same ∙ u.changed)) refl)
    (λ apart. subst IsSome (sym (u.others j apart)) (old apart))
    (cases_eq j k)

pub filled_set : (s t : Slab CachedPage) (ks : List ℕ) (k : ℕ) (q : CachedPage) → Updates s t k (Some q) → ((j : ℕ) → In j ks → IsSome (get s j)) → (j : ℕ) → In j ks → IsSome (get t j)
filled_set s t ks k q u old j i = filled_by s t k j q u (λ _. old j i)

pub filled_insert : (s t : Slab CachedPage) (ks : List ℕ) (at k : ℕ) (q : CachedPage) → Updates s t k (Some q) → ((j : ℕ) → In j ks → IsSome (get s j)) → (j : ℕ) → In j (insert ks at k) → IsSome (get t j)
filled_insert s t ks at k q u old j i = filled_by s t k j q u (λ apart. ⊎_elim (λ e. absurd (apart (sym e))) (old j) (In-insert ks at k j i))

pub filled_remove : (s t : Slab CachedPage) (ks : List ℕ) (at k : ℕ) → Updates s t k None → AreApart ks → slice_get ks at ≡ Some k → ((j : ℕ) → In j ks → IsSome (get s j)) → (j : ℕ) → In j (remove ks at) → IsSome (get t j)
filled_remove s t ks at k u r e old j i = subst IsSome (sym (u.others j (In-removed ks at k j r e i))) (old j (In-remove ks at j i))

-- a frame without a page has no place
pub free_apart : (s : Slab CachedPage) (ks : List ℕ) (k : ℕ) → ((j : ℕ) → In j ks → IsSome (get s j)) → get s k ≡ None → In k ks → ⊥
free_apart s ks k filled none i = false≢true (subst IsSome none (filled k i))

-- ---- their keys

pub keys_set : (ps : List CachedPage) (at : ℕ) (x q : CachedPage) → slice_get ps at ≡ Some x → key_of q ≡ key_of x → map key_of (slice_set ps at q) ≡ map key_of ps
keys_set [] at x q e same = refl
keys_set (p ∷ ps) zero x q e same = ap (λ k. k ∷ map key_of ps) (same ∙ sym (ap key_of (same_Some p x e)))
keys_set (p ∷ ps) (suc at) x q e same = ap (λ ks. key_of p ∷ ks) (keys_set ps at x q e same)

pub keys_insert : (ps : List CachedPage) (at : ℕ) (q : CachedPage) → map key_of (insert ps at q) ≡ insert (map key_of ps) at (key_of q)
keys_insert ps zero q = refl
keys_insert [] (suc at) q = refl
keys_insert (p ∷ ps) (suc at) q = ap (λ ks. key_of p ∷ ks) (keys_insert ps at q)

pub keys_remove : (ps : List CachedPage) (at : ℕ) → map key_of (remove ps at) ≡ remove (map key_of ps) at
keys_remove [] zero = refl
keys_remove [] (suc at) = refl
keys_remove (p ∷ ps) zero = refl
keys_remove (p ∷ ps) (suc at) = ap (λ ks. key_of p ∷ ks) (keys_remove ps at)

pub count_places : (s : Slab CachedPage) (ks : List ℕ) (keys : List (ℕ × ℕ)) → keys ≡ map key_of (pages_in s ks) → length keys ≡ length ks
count_places s ks keys e = ap (λ (xs : List (ℕ × ℕ)). length xs) e ∙ length-map (pages_in s ks) key_of ∙ length-map ks (page_in s)

-- ---- the fields at each step of the code

read_place : (ks : List ℕ) (at k : ℕ) → at < length ks → k ≡ slice_index_or ks at k → slice_get ks at ≡ Some k
read_place ks at k inside read = slice_get-get_or ks at k inside ∙ ap Some (sym read)

module _ (s : Slab CachedPage) (ks : List ℕ) (pc : ℕ) (keys : List (ℕ × ℕ)) (kc room : ℕ) (h : AreFrames s ks pc keys kc room) where
  abbrev held : List CachedPage
  held = pages_in s ks

  pub rising_keys : keyed.IsRisingKeys keys
  rising_keys =
      subst keyed.IsRisingKeys
      (ap (λ ps. map key_of ps) (filter_all (λ (p : CachedPage). true) held (λ x i. refl)) ∙ sym h.keyed)
      (keys_rising (λ (state : PageState). true) held h.rising)

  -- a place among the keys is one among the frames
  pub within : (at : ℕ) → at < length keys → at < length ks
  within at low = let same = count_places s ks keys h.keyed in omega arith

  pub within_or_end : (at : ℕ) → at ≤ length keys → at ≤ length ks
  within_or_end at low = let same = count_places s ks keys h.keyed in omega arith

  -- a frame that a place names has a page
  pub has_page : (at k : ℕ) → at < length ks → k ≡ slice_index_or ks at k → IsSome (get s k)
  has_page at k inside read = h.filled k (slice_get-In ks at k (read_place ks at k inside read))

  frame_page : (k : ℕ) → IsSome (get s k) → get s k ≡ Some (page_in s k)
  frame_page k some = by (get s k) some
    where
      by : (o : Option CachedPage) → IsSome o → o ≡ Some (page_or_none o)
      by None none = absurd (false≢true none)
      by (Some p) some = refl

  -- what is found
  pub found : (f i at k : ℕ) → keyed.stands keys f i ≡ true → at ≡ keyed.place_of keys f i → at < length ks → k ≡ slice_index_or ks at k → get s k ≡ page_at held f i
  found f i at k stands place inside read =
      let e = read_place ks at k inside read in
      frame_page k (h.filled k (slice_get-In ks at k e))
      ∙ sym (slice_get-map_some (page_in s) ks at k e)
      ∙ ap (slice_get held) (place ∙ ap (λ xs. keyed.place_of xs f i) h.keyed)
      ∙ (found_there held f i h.rising (sym (ap (λ xs. keyed.stands xs f i) h.keyed) ∙ stands)).0

  pub not_found : (f i : ℕ) → keyed.stands keys f i ≡ false → (page_at held f i ≡ None) × (drop_page held f i ≡ held)
  not_found f i stands = found_nowhere held f i h.rising (sym (ap (λ xs. keyed.stands xs f i) h.keyed) ∙ stands)

  -- a page changes in its frame
  pub frames_set : (t : Slab CachedPage) (f i at k : ℕ) (q : CachedPage) → keyed.stands keys f i ≡ true → at ≡ keyed.place_of keys f i → at < length ks → k ≡ slice_index_or ks at k
      → Updates s t k (Some q) → slab_len t ≡ slab_len s → t.capacity ≡ s.capacity → q.birth ≡ f → q.index ≡ i → AreFrames t ks pc keys kc room × (pages_in t ks ≡ put_page held q)
  frames_set t f i at k q stands place inside read u count capacity qf qi =
      let e = read_place ks at k inside read in
      let some = h.filled k (slice_get-In ks at k e) in
      let there = sym (ap (λ xs. keyed.stands xs f i) h.keyed) ∙ stands in
      let at_place = place ∙ ap (λ xs. keyed.place_of xs f i) h.keyed in
      let pages = pages_set s t ks at k q u (apart s ks h.rising) e in
      let put : pages_in t ks ≡ put_page held q = pages ∙ ap (λ n. slice_set held n q) at_place ∙ sym (put_there_by held f i q h.rising there qf qi) in
      let key = page_at-key held f i (page_in s k) (sym (found f i at k stands place inside read) ∙ frame_page k some) in
      let same_key : key_of q ≡ key_of (page_in s k) = ap₂ (λ a b. (a, b)) (qf ∙ sym key.0) (qi ∙ sym key.1) in (
        record {
          filled = filled_set s t ks k q u h.filled;
          count = count ∙ h.count;
          rising = subst IsRising (sym put) (put-rising held q h.rising);
          keyed = h.keyed ∙ sym (ap (λ ps. map key_of ps) pages ∙ keys_set held at (page_in s k) q (slice_get-map_some (page_in s) ks at k e) same_key);
          most = h.most;
          enough_frames = subst (λ n. room ≤ n) (sym capacity) h.enough_frames;
          enough_places = h.enough_places;
          enough_keys = h.enough_keys;
        },
        put,
      )

  pub frames_mark : (t : Slab CachedPage) (f i at k : ℕ) (state : PageState) → keyed.stands keys f i ≡ true → at ≡ keyed.place_of keys f i → at < length ks → k ≡ slice_index_or ks at k
      → Updates s t k (option_map (λ p. marked p state) (get s k)) → slab_len t ≡ slab_len s → t.capacity ≡ s.capacity → AreFrames t ks pc keys kc room × (pages_in t ks ≡ mark_page held f i state)
  frames_mark t f i at k state stands place inside read u count capacity =
      let page = frame_page k (has_page at k inside read) in
      let there : page_at held f i ≡ Some (page_in s k) = sym (found f i at k stands place inside read) ∙ page in
      let key = page_at-key held f i (page_in s k) there in
      let written = subst (λ o. Updates s t k (option_map (λ p. marked p state) o)) page u in
      let done = frames_set t f i at k (marked (page_in s k) state) stands place inside read written count capacity key.0 key.1 in (
        done.0,
        done.1 ∙ sym (ap (λ (o : Option CachedPage). elim o as (λ _. List CachedPage) [ None ↦ held | Some p ↦ put_page held (marked p state) ]) there),
      )

  -- a page comes into a frame that was free
  pub frames_insert : (t : Slab CachedPage) (places : List ℕ) (pd : ℕ) (new_keys : List (ℕ × ℕ)) (kd f i at k : ℕ) (q : CachedPage) → keyed.stands keys f i ≡ false → at ≡ keyed.place_of keys f i → at ≤ length keys → length ks < room
      → get s k ≡ None → Updates s t k (Some q) → slab_len t ≡ slab_len s + 1 → t.capacity ≡ s.capacity → q.birth ≡ f → q.index ≡ i
      → places ≡ insert ks at k → new_keys ≡ insert keys at (f, i) → pd ≡ pc → kd ≡ kc → AreFrames t places pd new_keys kd room × (pages_in t places ≡ put_page held q)
  frames_insert t places pd new_keys kd f i at k q stands place low free none u count capacity qf qi places_are keys_are more_places more_keys =
      let nowhere = sym (ap (λ xs. keyed.stands xs f i) h.keyed) ∙ stands in
      let at_place = place ∙ ap (λ xs. keyed.place_of xs f i) h.keyed in
      let pages = ap (pages_in t) places_are ∙ pages_insert s t ks at k q u (free_apart s ks k h.filled none) in
      let put : pages_in t places ≡ put_page held q = pages ∙ ap (λ n. insert held n q) at_place ∙ sym (put_between_by held f i q h.rising nowhere qf qi) in
      let long = ap (λ (xs : List ℕ). length xs) places_are ∙ length-insert ks at k (within_or_end at low) in
      let before = h.count in
      let frames = h.enough_frames in
      let old_places = h.enough_places in
      let old_keys = h.enough_keys in (
        record {
          filled = λ j l. filled_insert s t ks at k q u h.filled j (subst (λ xs. In j xs) places_are l);
          count = omega arith;
          rising = subst IsRising (sym put) (put-rising held q h.rising);
          keyed = keys_are ∙ ap (λ xs. insert xs at (f, i)) h.keyed ∙ sym (ap (λ ps. map key_of ps) pages ∙ keys_insert held at q ∙ ap (λ n. insert (map key_of held) at n) (ap₂ (λ a b. (a, b)) qf qi));
          most = omega arith;
          enough_frames = omega arith;
          enough_places = omega arith;
          enough_keys = omega arith;
        },
        put,
      )

  -- a page goes, and its frame is free
  pub frames_remove : (t : Slab CachedPage) (places : List ℕ) (pd : ℕ) (new_keys : List (ℕ × ℕ)) (kd f i at k : ℕ) → keyed.stands keys f i ≡ true → at ≡ keyed.place_of keys f i → at < length ks → k ≡ slice_index_or ks at k
      → Updates s t k None → slab_len t + 1 ≡ slab_len s → t.capacity ≡ s.capacity
      → places ≡ remove ks at → new_keys ≡ remove keys at → pd ≡ pc → kd ≡ kc → AreFrames t places pd new_keys kd room × (pages_in t places ≡ drop_page held f i)
  frames_remove t places pd new_keys kd f i at k stands place inside read u count capacity places_are keys_are same_places same_keys =
      let e = read_place ks at k inside read in
      let there = sym (ap (λ xs. keyed.stands xs f i) h.keyed) ∙ stands in
      let at_place = place ∙ ap (λ xs. keyed.place_of xs f i) h.keyed in
      let pages = ap (pages_in t) places_are ∙ pages_remove s t ks at k u (apart s ks h.rising) e in
      let dropped : pages_in t places ≡ drop_page held f i = pages ∙ ap (remove held) at_place ∙ sym (found_there held f i h.rising there).1 in
      let long = ap (λ (xs : List ℕ). length xs) places_are in
      let less = length-remove ks at inside in
      let before = h.count in
      let most = h.most in
      let frames = h.enough_frames in
      let old_places = h.enough_places in
      let old_keys = h.enough_keys in (
        record {
          filled = λ j l. filled_remove s t ks at k u (apart s ks h.rising) e h.filled j (subst (λ xs. In j xs) places_are l);
          count = omega arith;
          rising = subst IsRising (sym dropped) (drop-rising held f i h.rising);
          keyed = keys_are ∙ ap (λ xs. remove xs at) h.keyed ∙ sym (ap (λ ps. map key_of ps) pages ∙ keys_remove held at);
          most = omega arith;
          enough_frames = omega arith;
          enough_places = omega arith;
          enough_keys = omega arith;
        },
        dropped,
      )
