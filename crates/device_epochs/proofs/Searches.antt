-- What the searches in the cache's list find.
use Rattle.std.specs.Prelude.{◌≡◌, ◌≢◌, ℕ, zero, suc, ◌+◌, ◌<◌, ◌≤◌, ◌==◌, Bool, true, false, nat_le, List, [], ◌∷◌, length, filter, map, drop, Some, None, slice_get, refl}
use Rattle.std.specs.List.Sorted.{IsNonDecreasingBy, IsPartitionPoint}
use Rattle.std.proofs.Common.{sym, ap, subst, ◌∙◌, inl, inr, arith, get_or, set, leb-true, leb-false}
use Rattle.std.proofs.lemmas.Bool.{cases_eq, eq-eqb, ne_eqb, both_ways, false_from_ne_true}
use Rattle.std.proofs.lemmas.Option.{none-some, same_Some, slice_get-get_or, get_or_from_slice_get}
use Rattle.blk_base.specs.Members.{In}
use Rattle.blk_base.specs.laws.Members.{list_any-In, slice_get-In, slice_get-out, slice_get-length}
use Rattle.order_model.specs.declared.part.Part.{Part}
use Rattle.device_epochs.specs.declared.cache.Entry.{Entry}
use Rattle.device_epochs.specs.Cache.{same_place, put_entry, entries, oldest}
use Rattle.device_epochs.specs.laws.CacheLaws.{same_place_parts, same_place_from, renewed, put_entry_found, In-put_entry, AreUnique-put_entry, AreSorted-put_entry}
use Rattle.device_epochs.specs.queue.laws.QueueLaws.{length-filter-le}
use Rattle.device_epochs.specs.laws.Valid.{AreUnique, AreSorted}
use Rattle.device_epochs.specs.code.Helpers.{IsPlain, EndsAt, IsPlaceOf}

-- ---- the order of the list

-- a filter that no element passes
pub filter_none : {X : Type 0} (p : X → Bool) (xs : List X) → ((x : X) → In x xs → p x ≡ false) → filter p xs ≡ []
filter_none p [] h = refl
filter_none p (x ∷ xs) h = rw (h x (inl refl)) (filter_none p xs (λ y i. h y (inr i)))

pub epochs_rise : (c : List Entry) (i j : ℕ) (f g : Entry) → AreSorted c → i ≤ j → slice_get c i ≡ Some f → slice_get c j ≡ Some g → f.epoch ≤ g.epoch
epochs_rise [] i j f g s le e h = absurd (none-some f e)
epochs_rise (x ∷ xs) zero zero f g s le e h =
    let same : f.epoch ≡ g.epoch = ap (λ (y : Entry). y.epoch) (sym (same_Some x f e) ∙ same_Some x g h) in omega arith
epochs_rise (x ∷ xs) zero (suc j) f g s le e h =
    let same : x.epoch ≡ f.epoch = ap (λ (y : Entry). y.epoch) (same_Some x f e) in
    let rise = s.0 g (slice_get-In xs j g h) in
    omega arith
epochs_rise (x ∷ xs) (suc i) zero f g s le e h = absurd (omega arith)
epochs_rise (x ∷ xs) (suc i) (suc j) f g s le e h = epochs_rise xs i j f g s.1 (omega arith) e h

pub epochs_rise_by : (c : List Entry) → AreSorted c → IsNonDecreasingBy (λ (e : Entry). e.epoch) c
epochs_rise_by c s i j d le lt =
    epochs_rise c i j (get_or c i d) (get_or c j d) s le (slice_get-get_or c i d (omega arith)) (slice_get-get_or c j d lt)

-- ---- the oldest entries

abbrev of_epoch : ℕ → Entry → Bool
of_epoch n f = f.epoch == n

-- how many entries are of epoch n, where none is of an earlier one
count_front : (c : List Entry) (n k : ℕ) → ((f : Entry) → In f c → n ≤ f.epoch)
    → ((i : ℕ) (f : Entry) → i < k → slice_get c i ≡ Some f → f.epoch ≤ n)
    → ((i : ℕ) (f : Entry) → k ≤ i → slice_get c i ≡ Some f → n < f.epoch)
    → k ≤ length c → k ≡ length (filter (of_epoch n) c)
count_front [] n k h b a le = omega arith
count_front (x ∷ xs) n zero h b a le =
    let lt = a 0 x (omega arith) refl in
    let rest = count_front xs n 0 (λ f i. h f (inr i)) (λ i f l e. absurd (omega arith)) (λ i f l e. a (suc i) f (omega arith) e) (omega arith) in
    rw (ne_eqb x.epoch n (λ q. omega arith)) rest
count_front (x ∷ xs) n (suc k) h b a le =
    let ge = h x (inl refl) in
    let under = b 0 x (omega arith) refl in
    let rest = count_front xs n k (λ f i. h f (inr i)) (λ i f l e. b (suc i) f (omega arith) e) (λ i f l e. a (suc i) f (omega arith) e) (omega arith) in
    rw (eq-eqb x.epoch n (omega arith)) (ap suc rest)

first_is_least : (x : Entry) (xs : List Entry) → AreSorted (x ∷ xs) → (f : Entry) → In f (x ∷ xs) → x.epoch ≤ f.epoch
first_is_least x xs s f (inl e) = let same : x.epoch ≡ f.epoch = ap (λ (y : Entry). y.epoch) e in omega arith
first_is_least x xs s f (inr i) = s.0 f i

pub oldest_count : (c : List Entry) (first : Entry) (k : ℕ) → AreSorted c → slice_get c 0 ≡ Some first
    → ((i : ℕ) (f : Entry) → i < k → slice_get c i ≡ Some f → f.epoch ≤ first.epoch)
    → ((i : ℕ) (f : Entry) → k ≤ i → slice_get c i ≡ Some f → first.epoch < f.epoch)
    → k ≤ length c → k ≡ length (oldest c)
oldest_count [] first k s e b a le = absurd (none-some first e)
oldest_count (x ∷ xs) first k s e b a le =
    let same : x.epoch ≡ first.epoch = ap (λ (y : Entry). y.epoch) (same_Some x first e) in
    count_front (x ∷ xs) x.epoch k (first_is_least x xs s)
    (λ i f l h. let r = b i f l h in omega arith)
    (λ i f l h. let r = a i f l h in omega arith) le

-- what the search for the end of the oldest epoch finds
pub partition_count : (c : List Entry) (first : Entry) (k : ℕ) → AreSorted c → slice_get c 0 ≡ Some first
    → IsPartitionPoint (λ (f : Entry). nat_le f.epoch first.epoch ≡ true) (λ f. nat_le f.epoch first.epoch ≡ false) c k
    → k ≤ length c → k ≡ length (oldest c)
partition_count c first k s e p le =
    oldest_count c first k s e
    (λ i f lt at.
    let here = subst (λ (g : Entry). nat_le g.epoch first.epoch ≡ true) (get_or_from_slice_get c i f f at) (p.0 i f (omega arith) lt) in
    leb-true f.epoch first.epoch here)
    (λ i f low at.
    let here = subst (λ (g : Entry). nat_le g.epoch first.epoch ≡ false) (get_or_from_slice_get c i f f at) (p.1 i f low (slice_get-length c i f at)) in
    leb-false f.epoch first.epoch here)
    le

front_pick : (c : List Entry) (n i : ℕ) (e : Entry) → AreSorted c → ((f : Entry) → In f c → n ≤ f.epoch) → slice_get c i ≡ Some e → e.epoch ≡ n → slice_get (filter (of_epoch n) c) i ≡ Some e
front_pick [] n i e s h at same = absurd (none-some e at)
front_pick (x ∷ xs) n zero e s h at same =
    let first : x.epoch ≡ n = ap (λ (y : Entry). y.epoch) (same_Some x e at) ∙ same in
    rw (eq-eqb x.epoch n first) at
front_pick (x ∷ xs) n (suc i) e s h at same =
    let ge = h x (inl refl) in
    let under = s.0 e (slice_get-In xs i e at) in
    rw (eq-eqb x.epoch n (omega arith)) (front_pick xs n i e s.1 (λ f k. h f (inr k)) at same)

front_past : (c : List Entry) (n i : ℕ) (e : Entry) → AreSorted c → ((f : Entry) → In f c → n ≤ f.epoch) → slice_get c i ≡ Some e → e.epoch ≢ n → slice_get (filter (of_epoch n) c) i ≡ None
front_past [] n i e s h at other = absurd (none-some e at)
front_past (x ∷ xs) n zero e s h at other =
    let same : x.epoch ≡ e.epoch = ap (λ (y : Entry). y.epoch) (same_Some x e at) in
    let ge = h x (inl refl) in
    let ne : x.epoch ≢ n = λ q. other (sym same ∙ q) in
    let rest = filter_none (of_epoch n) xs (λ f k. ne_eqb f.epoch n (λ q. let le = s.0 f k in ne (omega arith))) in
    rw (ne_eqb x.epoch n ne, rest) refl
front_past (x ∷ xs) n (suc i) e s h at other =
    elim (cases_eq x.epoch n) [
      | inl q ↦ rw (eq-eqb x.epoch n q) (front_past xs n i e s.1 (λ f k. h f (inr k)) at other)
      | inr ne ↦
          let ge = h x (inl refl) in
          let rest = filter_none (of_epoch n) xs (λ f k. ne_eqb f.epoch n (λ q. let le = s.0 f k in ne (omega arith))) in
          rw (ne_eqb x.epoch n ne, rest) refl
    ]

pub oldest_pick : (c : List Entry) (first e : Entry) (i : ℕ) → AreSorted c → slice_get c 0 ≡ Some first → slice_get c i ≡ Some e → e.epoch ≡ first.epoch → slice_get (oldest c) i ≡ Some e
oldest_pick [] first e i s zeroth at same = absurd (none-some first zeroth)
oldest_pick (x ∷ xs) first e i s zeroth at same =
    front_pick (x ∷ xs) x.epoch i e s (first_is_least x xs s) at (same ∙ ap (λ (y : Entry). y.epoch) (sym (same_Some x first zeroth)))

pub oldest_past : (c : List Entry) (first e : Entry) (i : ℕ) → AreSorted c → slice_get c 0 ≡ Some first → slice_get c i ≡ Some e → e.epoch ≢ first.epoch → slice_get (oldest c) i ≡ None
oldest_past [] first e i s zeroth at other = absurd (none-some first zeroth)
oldest_past (x ∷ xs) first e i s zeroth at other =
    front_past (x ∷ xs) x.epoch i e s (first_is_least x xs s) at
    (λ q. other (q ∙ ap (λ (y : Entry). y.epoch) (same_Some x first zeroth)))

length-oldest : (c : List Entry) → length (oldest c) ≤ length c
length-oldest [] = omega arith
length-oldest (x ∷ xs) = length-filter-le (of_epoch x.epoch) (x ∷ xs)

pub oldest_out : (c : List Entry) (i : ℕ) → length c ≤ i → slice_get (oldest c) i ≡ None
oldest_out c i le = let few = length-oldest c in slice_get-out (oldest c) i (omega arith)

-- ---- the parts of a command, one after the other

pub drop_at : {X : Type 0} (xs : List X) (i : ℕ) (x : X) → slice_get xs i ≡ Some x → drop i xs ≡ x ∷ drop (i + 1) xs
drop_at [] i x e = absurd (none-some x e)
drop_at (y ∷ ys) zero x e = ap (λ z. z ∷ ys) (same_Some y x e)
drop_at (y ∷ ys) (suc i) x e =
    let next : suc i + 1 ≡ suc (i + 1) = omega arith in
    rw next (drop_at ys i x e)

pub entries_next : (epoch place i : ℕ) (ps : List Part) (p : Part) → slice_get ps i ≡ Some p
    → entries epoch place (drop i ps) ≡ record { epoch = epoch; block = p.block; part = place } ∷ entries epoch (place + 1) (drop (i + 1) ps)
entries_next epoch place i ps p e = ap (entries epoch place) (drop_at ps i p e)

-- ---- an entry goes in

renewed_others : (e x : Entry) (xs : List Entry) → same_place e x ≡ true → ((f : Entry) → In f xs → same_place x f ≡ false) → map (renewed e) xs ≡ xs
renewed_others e x [] t n = refl
renewed_others e x (y ∷ ys) t n =
    let p = same_place_parts e x t in
    let other : same_place e y ≡ false =
    false_from_ne_true (same_place e y)
    (λ s. let q = same_place_parts e y s in both_ways (same_place x y) (n y (inl refl)) (same_place_from x y (sym p.0 ∙ q.0) (sym p.1 ∙ q.1))) in
    let here : renewed e y ≡ y = rw other refl in
    let rest = renewed_others e x ys t (λ f i. n f (inr i)) in
    cc

renewed_at : (e : Entry) (c : List Entry) (i : ℕ) (x : Entry) → AreUnique c → slice_get c i ≡ Some x → same_place e x ≡ true → set c i e ≡ map (renewed e) c
renewed_at e [] i x u at t = absurd (none-some x at)
renewed_at e (y ∷ ys) zero x u at t =
    let same : y ≡ x = same_Some y x at in
    let here : same_place e y ≡ true = subst (λ z. same_place e z ≡ true) (sym same) t in
    let now : renewed e y ≡ e = rw here refl in
    let rest = renewed_others e y ys here u.0 in
    cc
renewed_at e (y ∷ ys) (suc i) x u at t =
    let apart = u.0 x (slice_get-In ys i x at) in
    let p = same_place_parts e x t in
    let other : same_place e y ≡ false =
    false_from_ne_true (same_place e y)
    (λ s. let q = same_place_parts e y s in both_ways (same_place y x) apart (same_place_from y x (sym q.0 ∙ p.0) (sym q.1 ∙ p.1))) in
    let here : renewed e y ≡ y = rw other refl in
    let rest = renewed_at e ys i x u.1 at t in
    cc

-- a write at the place of its epoch and block
pub put_at_place : (e : Entry) (c : List Entry) (i : ℕ) → IsPlain c → IsPlaceOf e c i → set c i e ≡ put_entry e c
put_at_place e c i p h =
    renewed_at e c i h.found p.unique h.there h.same
    ∙ sym (put_entry_found e c (list_any-In (same_place e) c h.found (slice_get-In c i h.found h.there) h.same))

pub IsPlain-put_entry : (e : Entry) (c : List Entry) → IsPlain c → EndsAt e.epoch c → IsPlain (put_entry e c)
IsPlain-put_entry e c p l = record { unique = AreUnique-put_entry e c p.unique; sorted = AreSorted-put_entry e c p.sorted l.within }

pub EndsAt-put_entry : (e : Entry) (c : List Entry) (n : ℕ) → EndsAt n c → e.epoch ≡ n → EndsAt n (put_entry e c)
EndsAt-put_entry e c n l q =
    record {
      within = λ f i.
          elim (In-put_entry e c f i) [
            | inl same ↦ let s : f.epoch ≡ e.epoch = ap (λ (y : Entry). y.epoch) same in omega arith
            | inr old ↦ l.within f old.0
          ];
    }
