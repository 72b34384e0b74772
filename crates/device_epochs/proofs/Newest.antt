-- The keys of the cache's entries: what each step keeps of them, and what a search by a key finds.
use Rattle.std.specs.Prelude.{◌≡◌, ◌≢◌, ◌⊎◌, ℕ, zero, suc, ◌+◌, ◌-◌, ◌<◌, ◌≤◌, ◌==◌, nat_lt, Bool, true, false, List, [], ◌∷◌, ◌++◌, length, Option, Some, None, OnSome, slice_get, refl}
use Rattle.std.specs.List.{list_any, remove}
use Rattle.std.specs.List.Sorted.{IsNonDecreasingBy, IsPartitionPoint, IsPartitionedBy}
use Rattle.std.proofs.lemmas.List.Sorted.{IsPartitionedBy-ltb}
use Rattle.std.proofs.Common.{sym, ap, subst, ◌∙◌, inl, inr, arith, set, get_or, ltb-true, ltb-false}
use Rattle.std.proofs.lemmas.Bool.{cases_eq, cases_lt, eq-eqb, eqb-true, ne_eqb, both_ways, false_from_ne_true}
use Rattle.std.proofs.lemmas.Option.{none-some, same_Some, slice_get-get_or, get_or_from_slice_get}
use Rattle.std.proofs.lemmas.List.{length-set, length_push}
use Rattle.std.proofs.lemmas.List.Edits.{length-remove}
use Rattle.blk_base.specs.Members.{In}
use Rattle.blk_base.specs.laws.Members.{In-slice_get, list_any-none, slice_get-In, slice_get-length, slice_get-in_range, slice_get-append_left, slice_get-push, slice_get-push_cases, slice_get-set_same, slice_get-set_other, slice_get-remove_below, slice_get-remove_above}
use Rattle.device_epochs.specs.declared.cache.Entry.{Entry}
use Rattle.device_epochs.specs.Cache.{same_place}
use Rattle.device_epochs.specs.laws.CacheLaws.{same_place_parts, same_place_from}
use Rattle.device_epochs.specs.laws.Valid.{AreUnique}
use Rattle.device_epochs.specs.code.Helpers.{IsPlain, EndsAt, IsPlaceOf}
use Rattle.device_epochs.specs.code.Newest.{last_place, newest_place, IsRising, AreKeys}
use Rattle.device_epochs.proofs.Searches.{epochs_rise}

-- ---- the newest entry of a block

-- the entry at place i is of this block, and none behind it is
pub record IsNewest (block : ℕ) (c : List Entry) (i : ℕ) : Type 0 where
  pub found : Entry
  pub there : slice_get c i ≡ Some found
  pub same : found.block ≡ block
  pub last : (j : ℕ) (f : Entry) → i < j → slice_get c j ≡ Some f → f.block ≢ block

last_none : (o : Option ℕ) (head : Bool) → last_place o head ≡ None → (o ≡ None) × (head ≡ false)
last_none (Some i) head e = absurd (none-some (suc i) (sym e))
last_none None true e = absurd (none-some 0 (sym e))
last_none None false e = (refl, refl)

last_some : (o : Option ℕ) (head : Bool) (i : ℕ) → last_place o head ≡ Some i → ((j : ℕ) × (o ≡ Some j) × (i ≡ suc j)) ⊎ ((o ≡ None) × (head ≡ true) × (i ≡ 0))
last_some (Some j) head i e = inl (j, refl, sym (same_Some (suc j) i e))
last_some None true i e = inr (refl, refl, sym (same_Some 0 i e))
last_some None false i e = absurd (none-some i e)

behind_head : {X : Type 0} (x : X) (xs : List X) (j : ℕ) (f : X) → 0 < j → slice_get (x ∷ xs) j ≡ Some f → slice_get xs (j - 1) ≡ Some f
behind_head x xs zero f lt at = absurd (omega arith)
behind_head x xs (suc j) f lt at = let e : suc j - 1 ≡ j = omega arith in rw e at

-- a block that has no newest entry has none
pub none_of : (c : List Entry) (block : ℕ) → newest_place c block ≡ None → (f : Entry) → In f c → f.block ≢ block
none_of [] block e f h = absurd h
none_of (x ∷ xs) block e f (inl q) =
    λ s.
    let p = last_none (newest_place xs block) (x.block == block) e in
    both_ways (x.block == block) p.1 (eq-eqb x.block block (ap (λ (y : Entry). y.block) q ∙ s))
none_of (x ∷ xs) block e f (inr i) =
    none_of xs block (last_none (newest_place xs block) (x.block == block) e).0 f i

pub newest_at : (c : List Entry) (block i : ℕ) → newest_place c block ≡ Some i → IsNewest block c i
newest_at [] block i e = absurd (none-some i e)
newest_at (x ∷ xs) block i e =
    elim (last_some (newest_place xs block) (x.block == block) i e) [
      | inl p ↦
          let n = newest_at xs block p.0 p.1 in
          let at = p.2 in
          record {
            found = n.found;
            there = rw at n.there;
            same = n.same;
            last = λ j f lt here. n.last (j - 1) f (omega arith) (behind_head x xs j f (omega arith) here);
          }
      | inr p ↦
          let at = p.2 in
          record {
            found = x;
            there = rw at refl;
            same = eqb-true x.block block p.1;
            last = λ j f lt here. none_of xs block p.0 f (slice_get-In xs (j - 1) f (behind_head x xs j f (omega arith) here));
          }
    ]

pub no_newest : (c : List Entry) (block : ℕ) → ((f : Entry) → In f c → f.block ≢ block) → newest_place c block ≡ None
no_newest [] block h = refl
no_newest (x ∷ xs) block h = rw (no_newest xs block (λ f i. h f (inr i)), ne_eqb x.block block (h x (inl refl))) refl

pub is_newest : (c : List Entry) (block i : ℕ) → IsNewest block c i → newest_place c block ≡ Some i
is_newest [] block i n = absurd (none-some n.found n.there)
is_newest (x ∷ xs) block zero n =
    let same : x.block ≡ block = ap (λ (y : Entry). y.block) (same_Some x n.found n.there) ∙ n.same in
    let none = no_newest xs block (λ f i. let at = In-slice_get xs f i in n.last (suc at.0) f (omega arith) at.2) in
    rw (none, eq-eqb x.block block same) refl
is_newest (x ∷ xs) block (suc i) n =
    let rest = is_newest xs block i (record { found = n.found; there = n.there; same = n.same; last = λ j f lt at. n.last (suc j) f (omega arith) at }) in
    rw rest refl

pub newest_lt : (c : List Entry) (block i : ℕ) → newest_place c block ≡ Some i → i < length c
newest_lt c block i e = let n = newest_at c block i e in slice_get-length c i n.found n.there

-- an entry of the same block in the place of another one changes no place
newest-set : (c : List Entry) (i block : ℕ) (e f : Entry) → slice_get c i ≡ Some f → f.block ≡ e.block → newest_place (set c i e) block ≡ newest_place c block
newest-set [] i block e f at same = absurd (none-some f at)
newest-set (x ∷ xs) zero block e f at same =
    let q : e.block ≡ x.block = sym (ap (λ (y : Entry). y.block) (same_Some x f at) ∙ same) in
    ap (λ (b : ℕ). last_place (newest_place xs block) (b == block)) q
newest-set (x ∷ xs) (suc i) block e f at same =
    ap (λ o. last_place o (x.block == block)) (newest-set xs i block e f at same)

-- ---- the search by a key

rising_by : (keys : List ℕ) → IsRising keys → IsNonDecreasingBy (λ (k : ℕ). k) keys
rising_by keys r i j d le lt =
    elim (cases_eq i j) [
      | inl q ↦ let same = ap (λ n. get_or keys n d) q in omega arith
      | inr n ↦
          let h = r i j (get_or keys i d) (get_or keys j d) (omega arith) (slice_get-get_or keys i d (omega arith)) (slice_get-get_or keys j d lt) in
          omega arith
    ]

pub keys_split : (keys : List ℕ) (key : ℕ) → IsRising keys → IsPartitionedBy (λ (k : ℕ). nat_lt k key) keys
keys_split keys key r = IsPartitionedBy-ltb (λ (k : ℕ). k) keys key (rising_by keys r)

-- keys before place i are below this key, and those from i on are not
pub record SplitsAt (keys : List ℕ) (key i : ℕ) : Type 0 where
  pub before : (j k : ℕ) → j < i → slice_get keys j ≡ Some k → k < key
  pub behind : (j k : ℕ) → i ≤ j → slice_get keys j ≡ Some k → key ≤ k

pub splits_at : (keys : List ℕ) (key i : ℕ) → i ≤ length keys → IsPartitionPoint (λ (k : ℕ). nat_lt k key ≡ true) (λ k. nat_lt k key ≡ false) keys i → SplitsAt keys key i
splits_at keys key i le p =
    record {
      before = λ j k lt at. ltb-true k key (subst (λ (g : ℕ). nat_lt g key ≡ true) (get_or_from_slice_get keys j k k at) (p.0 j k (omega arith) lt));
      behind = λ j k ge at. ltb-false k key (subst (λ (g : ℕ). nat_lt g key ≡ false) (get_or_from_slice_get keys j k k at) (p.1 j k ge (slice_get-length keys j k at)));
    }

-- where a block has an entry, the search for its key ends at the newest one
pub newest_found : (appended block key i place : ℕ) (c : List Entry) (keys newest_keys : List ℕ) → AreKeys appended c keys newest_keys
    → slice_get newest_keys block ≡ Some key → SplitsAt keys key i → newest_place c block ≡ Some place → place ≡ i
newest_found appended block key i place c keys newest_keys h at s e =
    let n = newest_at c block place e in
    let len = slice_get-length c place n.found n.there in
    let same = h.same in
    let here : slice_get keys place ≡ Some key = sym (h.named block place e) ∙ at in
    elim (cases_lt place i) [
      | inl lt ↦ let low = s.before place key lt here in absurd (omega arith)
      | inr ge ↦
          elim (cases_eq place i) [
            | inl q ↦ q
            | inr ne ↦
                let k = slice_get-in_range keys i (omega arith) in
                let high = s.behind i k.0 (omega arith) k.1 in
                let low = h.rising i place k.0 key (omega arith) k.1 here in
                absurd (omega arith)
          ]
    ]

-- the entry at the place that the search finds is of the block
pub found_newest : (appended block key i : ℕ) (f : Entry) (c : List Entry) (keys newest_keys : List ℕ) → AreKeys appended c keys newest_keys
    → slice_get newest_keys block ≡ Some key → SplitsAt keys key i → slice_get c i ≡ Some f → f.block ≡ block → newest_place c block ≡ Some i
found_newest appended block key i f c keys newest_keys h at s there same = by (newest_place c block) refl
  where
    by : (o : Option ℕ) → newest_place c block ≡ o → newest_place c block ≡ Some i
    by None e = absurd (none_of c block e f (slice_get-In c i f there) same)
    by (Some place) e = e ∙ ap Some (newest_found appended block key i place c keys newest_keys h at s e)

-- the entry at a place is the only one there
pub other_block : (c : List Entry) (i block : ℕ) (e : Entry) → slice_get c i ≡ Some e → e.block ≢ block → (f : Entry) → slice_get c i ≡ Some f → f.block ≢ block
other_block c i block e at ne f there = subst (λ (x : Entry). x.block ≢ block) (same_Some e f (sym at ∙ there)) ne

-- no entry of the block stands at the place that the search finds
pub none_newest : (appended block key i : ℕ) (c : List Entry) (keys newest_keys : List ℕ) → AreKeys appended c keys newest_keys
    → slice_get newest_keys block ≡ Some key → SplitsAt keys key i → ((f : Entry) → slice_get c i ≡ Some f → f.block ≢ block) → newest_place c block ≡ None
none_newest appended block key i c keys newest_keys h at s other = by (newest_place c block) refl
  where
    by : (o : Option ℕ) → newest_place c block ≡ o → newest_place c block ≡ None
    by None e = e
    by (Some place) e =
        let n = newest_at c block place e in
        let q = newest_found appended block key i place c keys newest_keys h at s e in
        absurd (other n.found (subst (λ m. slice_get c m ≡ Some n.found) q n.there) n.same)

-- ---- the entry of an epoch and block

-- behind all entries of earlier epochs, the newest entry of the block is that of the epoch, or none is
pub place_of_newest : (e f : Entry) (c : List Entry) (i : ℕ) → newest_place c e.block ≡ Some i → slice_get c i ≡ Some f → f.epoch ≡ e.epoch → IsPlaceOf e c i
place_of_newest e f c i n at same =
    let p = newest_at c e.block i n in
    let q : p.found ≡ f = same_Some p.found f (sym p.there ∙ at) in
    record { found = f; there = at; same = same_place_from e f (sym same) (sym p.same ∙ ap (λ (x : Entry). x.block) q) }

pub no_place : (e : Entry) (c : List Entry) → newest_place c e.block ≡ None → list_any (same_place e) c ≡ false
no_place e c n =
    list_any-none (same_place e) c
    (λ g i. false_from_ne_true (same_place e g) (λ t. none_of c e.block n g i (sym (same_place_parts e g t).1)))

pub earlier_place : (e f : Entry) (c : List Entry) (i : ℕ) → IsPlain c → EndsAt e.epoch c → newest_place c e.block ≡ Some i → slice_get c i ≡ Some f → f.epoch ≢ e.epoch → list_any (same_place e) c ≡ false
earlier_place e f c i plain last n at ne =
    let p = newest_at c e.block i n in
    let le = last.within f (slice_get-In c i f at) in
    list_any-none (same_place e) c
    (λ g h.
    let there = In-slice_get c g h in
    false_from_ne_true (same_place e g) (λ t.
    let q = same_place_parts e g t in
    elim (cases_lt i there.0) [
      | inl behind ↦ p.last there.0 g behind there.2 (sym q.1)
      | inr before ↦
          let rise = epochs_rise c there.0 i g f plain.sorted before there.2 at in
          let epoch = q.0 in
          ne (omega arith)
    ]))

-- ---- what the steps keep

pub keys_replaced : (e f : Entry) (appended i : ℕ) (c : List Entry) (keys newest_keys : List ℕ) → AreKeys appended c keys newest_keys
    → slice_get c i ≡ Some f → f.block ≡ e.block → AreKeys appended (set c i e) keys newest_keys
keys_replaced e f appended i c keys newest_keys k at same =
    record {
      same = k.same ∙ sym (length-set c i e);
      rising = k.rising;
      below = k.below;
      named = λ block place n. k.named block place (sym (newest-set c i block e f at same) ∙ n);
    }

pub keys_appended : (e : Entry) (appended : ℕ) (c : List Entry) (keys newest_keys : List ℕ) → AreKeys appended c keys newest_keys
    → e.block < length newest_keys → AreKeys (appended + 1) (c ++ e ∷ []) (keys ++ appended ∷ []) (set newest_keys e.block appended)
keys_appended e appended c keys newest_keys k lt =
    record {
      same = length_push keys appended ∙ ap (λ n. n + 1) k.same ∙ sym (length_push c e);
      rising = λ i j a b l at bt.
          elim (slice_get-push_cases keys appended j b bt) [
            | inl there ↦
                let inside = slice_get-length keys j b there in
                k.rising i j a b l (sym (slice_get-append_left keys (appended ∷ []) i (omega arith)) ∙ at) there
            | inr p ↦
                let r = p.1 in
                let s = p.0 in
                let low = k.below i a (sym (slice_get-append_left keys (appended ∷ []) i (omega arith)) ∙ at) in
                omega arith
          ];
      below = λ i key at.
          elim (slice_get-push_cases keys appended i key at) [
            | inl a ↦ let b = k.below i key a in omega arith
            | inr p ↦ let r = p.1 in omega arith
          ];
      named = λ block place n. appended_names block place (newest_at (c ++ e ∷ []) block place n);
    }
  where
    appended_names : (block place : ℕ) → IsNewest block (c ++ e ∷ []) place → slice_get (set newest_keys e.block appended) block ≡ slice_get (keys ++ appended ∷ []) place
    appended_names block place n =
        let same = k.same in
        elim (slice_get-push_cases c e place n.found n.there) [
          | inl there ↦
              let within = slice_get-length c place n.found there in
              let other : block ≢ e.block = λ q. n.last (length c) e within (slice_get-push c e) (sym q) in
              let old = is_newest c block place (record { found = n.found; there = there; same = n.same; last = λ j f lt at. n.last j f lt (slice_get-append_left c (e ∷ []) j (slice_get-length c j f at) ∙ at) }) in
              slice_get-set_other newest_keys e.block block appended other
              ∙ k.named block place old
              ∙ sym (slice_get-append_left keys (appended ∷ []) place (omega arith))
          | inr p ↦
              let b : e.block ≡ block = ap (λ (x : Entry). x.block) p.1 ∙ n.same in
              let end : length keys ≡ place = same ∙ sym p.0 in
              ap (slice_get (set newest_keys e.block appended)) (sym b)
              ∙ slice_get-set_same newest_keys e.block appended lt
              ∙ sym (subst (λ m. slice_get (keys ++ appended ∷ []) m ≡ Some appended) end (slice_get-push keys appended))
        ]

-- the place in the whole list of what stands at j without the one at i
removed_from : {X : Type 0} (xs : List X) (i j : ℕ) (x : X) → i < length xs → slice_get (remove xs i) j ≡ Some x
    → (m : ℕ) × (slice_get xs m ≡ Some x) × ((j < i) × (m ≡ j) ⊎ (i ≤ j) × (m ≡ suc j))
removed_from xs i j x lt at =
    elim (cases_lt j i) [
      | inl l ↦ (j, sym (slice_get-remove_below xs i j l) ∙ at, inl (l, refl))
      | inr g ↦ (suc j, sym (slice_get-remove_above xs i j g lt) ∙ at, inr (g, refl))
    ]

rise_on : (i a b m n : ℕ) → a < b → ((a < i) × (m ≡ a) ⊎ (i ≤ a) × (m ≡ suc a)) → ((b < i) × (n ≡ b) ⊎ (i ≤ b) × (n ≡ suc b)) → m < n
rise_on i a b m n l (inl u) (inl v) = let u1 = u.1 in let v1 = v.1 in omega arith
rise_on i a b m n l (inl u) (inr v) = let u1 = u.1 in let v1 = v.1 in omega arith
rise_on i a b m n l (inr u) (inl v) = let u0 = u.0 in let v0 = v.0 in absurd (omega arith)
rise_on i a b m n l (inr u) (inr v) = let u1 = u.1 in let v1 = v.1 in omega arith

-- no entry of the block of the one at i stands before it
abbrev pub IsFirstOfBlock : List Entry → ℕ → Type 0
IsFirstOfBlock c i = (m : ℕ) (f e : Entry) → m < i → slice_get c m ≡ Some f → slice_get c i ≡ Some e → f.block ≢ e.block

-- what is the newest without the first one of a block is so in the whole list
newest_in_whole : (c : List Entry) (i j m block : ℕ) → i < length c → IsFirstOfBlock c i → (n : IsNewest block (remove c i) j) → slice_get c m ≡ Some n.found
    → ((j < i) × (m ≡ j) ⊎ (i ≤ j) × (m ≡ suc j)) → IsNewest block c m
newest_in_whole c i j m block lt first n at where_m =
    record {
      found = n.found;
      there = at;
      same = n.same;
      last = λ k f l there.
          elim (cases_eq k i) [
            | inl q ↦ λ s. first m n.found f (omega arith) at (subst (λ a. slice_get c a ≡ Some f) q there) (n.same ∙ sym s)
            | inr ne ↦
                elim (cases_lt k i) [
                  | inl low ↦ n.last k f (left_of k l low where_m) (slice_get-remove_below c i k low ∙ there)
                  | inr high ↦
                      let back : suc (k - 1) ≡ k = omega arith in
                      n.last (k - 1) f (right_of k l ne high where_m) (slice_get-remove_above c i (k - 1) (omega arith) lt ∙ subst (λ a. slice_get c a ≡ Some f) (sym back) there)
                ]
          ];
    }
  where
    left_of : (k : ℕ) → m < k → k < i → ((j < i) × (m ≡ j) ⊎ (i ≤ j) × (m ≡ suc j)) → j < k
    left_of k l low (inl u) = let e = u.1 in omega arith
    left_of k l low (inr u) = let e = u.1 in omega arith

    right_of : (k : ℕ) → m < k → k ≢ i → i ≤ k → ((j < i) × (m ≡ j) ⊎ (i ≤ j) × (m ≡ suc j)) → j < k - 1
    right_of k l ne high (inl u) = let e = u.1 in let f = u.0 in omega arith
    right_of k l ne high (inr u) = let e = u.1 in omega arith

pub keys_removed : (appended i : ℕ) (c : List Entry) (keys newest_keys : List ℕ) → AreKeys appended c keys newest_keys
    → i < length c → IsFirstOfBlock c i → AreKeys appended (remove c i) (remove keys i) newest_keys
keys_removed appended i c keys newest_keys k lt first =
    let lk : i < length keys = let same = k.same in omega arith in
    record {
      same = let a = length-remove c i lt in let b = length-remove keys i lk in let same = k.same in omega arith;
      rising = λ a b x y l at bt.
          let p = removed_from keys i a x lk at in
          let q = removed_from keys i b y lk bt in
          k.rising p.0 q.0 x y (rise_on i a b p.0 q.0 l p.2 q.2) p.1 q.1;
      below = λ a x at. let p = removed_from keys i a x lk at in k.below p.0 x p.1;
      named = λ block place e.
          let n = newest_at (remove c i) block place e in
          let p = removed_from c i place n.found lt n.there in
          k.named block p.0 (is_newest c block p.0 (newest_in_whole c i place p.0 block lt first n p.1 p.2))
          ∙ elim p.2 [
            | inl u ↦ ap (slice_get keys) u.1 ∙ sym (slice_get-remove_below keys i place u.0)
            | inr u ↦ ap (slice_get keys) u.1 ∙ sym (slice_get-remove_above keys i place u.0 lk)
          ];
    }

-- ---- an entry of the oldest epoch

apart_at : (c : List Entry) (i j : ℕ) (f g : Entry) → AreUnique c → i < j → slice_get c i ≡ Some f → slice_get c j ≡ Some g → same_place f g ≡ false
apart_at [] i j f g u lt at there = absurd (none-some f at)
apart_at (x ∷ xs) i zero f g u lt at there = absurd (omega arith)
apart_at (x ∷ xs) zero (suc j) f g u lt at there = subst (λ y. same_place y g ≡ false) (same_Some x f at) (u.0 g (slice_get-In xs j g there))
apart_at (x ∷ xs) (suc i) (suc j) f g u lt at there = apart_at xs i j f g u.1 (omega arith) at there

-- an entry of the epoch of the first one is the first of its block
pub oldest_is_first : (c : List Entry) (i : ℕ) (first e : Entry) → IsPlain c → slice_get c 0 ≡ Some first → slice_get c i ≡ Some e → e.epoch ≡ first.epoch → IsFirstOfBlock c i
oldest_is_first c i first e plain zeroth at same m f g lt there here block =
    let eg : e ≡ g = same_Some e g (sym at ∙ here) in
    let up = epochs_rise c 0 m first f plain.sorted (omega arith) zeroth there in
    let to = epochs_rise c m i f e plain.sorted (omega arith) there at in
    let epoch : f.epoch ≡ g.epoch = let q = ap (λ (x : Entry). x.epoch) eg in omega arith in
    both_ways (same_place f g) (apart_at c m i f g plain.unique lt there here) (same_place_from f g epoch block)

-- what stands in a list after one left
pub taken_rest : {X : Type 0} (xs : List X) (i : ℕ) (rest : List X) (r : Option X) → i < length xs
    → ((d : X) → r ≡ Some (get_or xs i d)) → OnSome r (rest ≡ remove xs i) → rest ≡ remove xs i
taken_rest xs i rest r lt found items = let p = slice_get-in_range xs i lt in rw (found p.0) at items
