-- Laws of the table of revokes, as a map that is filled in the order of the log.
use Rattle.std.specs.Prelude.{◌≡◌, ◌≢◌, ℕ, cond, ◌+◌, ◌<◌, ◌==◌, ◌||◌, Bool, true, false, if◌then◌else◌, List, [], ◌∷◌, ◌++◌, length, map, take, get_or, Option, Some, None, refl}
use Rattle.std.specs.Ordering.{nat_cmp, is_eq, match_ordering}
use Rattle.std.specs.declared.cmp.Ordering.{Ordering}
use Rattle.std.proofs.Common.{Less, Equal, Greater, sym, ap, ◌∙◌, subst, inl, inr, arith}
use Rattle.std.proofs.lemmas.Bool.{cases_Bool, eqb-true, eqb-false, false_from_ne_true}
use Rattle.std.proofs.lemmas.List.{take_more, map-append, length-map, length-take-le}
use Rattle.journal_replay.specs.declared.home.LogTransaction.{LogTransaction}
use Rattle.log_model.specs.Marks.{Transaction}
use Rattle.journal_replay.specs.Revokes.{is_revoked, later, last_revoke, place_of, with_place}
use Rattle.journal_replay.specs.code.Scans.{transaction_of}

-- ---- maps by number

number_here : (k : ℕ) → is_eq (nat_cmp k k) ≡ true
number_here k = grind arith

number_same : (j k : ℕ) → is_eq (nat_cmp j k) ≡ true → j ≡ k
number_same j k h = grind arith

there_by : (e : ℕ × ℕ) (es : List (ℕ × ℕ)) (k x : ℕ) (o : Ordering) → nat_cmp k e.0 ≡ o → place_of (with_place es k x) k ≡ Some x
    → place_of (match_ordering o ((k, x) ∷ e ∷ es) ((e.0, x) ∷ es) (e ∷ with_place es k x)) k ≡ Some x
there_by e es k x Less q h = rw (number_here k)
there_by e es k x Equal q h = rw q
there_by e es k x Greater q h = rw q h

place-there : (es : List (ℕ × ℕ)) (k x : ℕ) → place_of (with_place es k x) k ≡ Some x
place-there [] k x = rw (number_here k)
place-there (e ∷ es) k x = there_by e es k x (nat_cmp k e.0) refl (place-there es k x)

apart_by : (e : ℕ × ℕ) (es : List (ℕ × ℕ)) (k x j : ℕ) → is_eq (nat_cmp j k) ≡ false → (o : Ordering) → nat_cmp k e.0 ≡ o → place_of (with_place es k x) j ≡ place_of es j
    → place_of (match_ordering o ((k, x) ∷ e ∷ es) ((e.0, x) ∷ es) (e ∷ with_place es k x)) j ≡ place_of (e ∷ es) j
apart_by e es k x j f Less q h = rw f
apart_by e es k x j f Equal q h =
    let g : is_eq (nat_cmp j e.0) ≡ false = subst (λ z. is_eq (nat_cmp j z) ≡ false) (number_same k e.0 (ap is_eq q)) f in rw g
apart_by e es k x j f Greater q h = ap (cond (is_eq (nat_cmp j e.0)) (Some e.1)) h

apart_from : (es : List (ℕ × ℕ)) (k x j : ℕ) → is_eq (nat_cmp j k) ≡ false → place_of (with_place es k x) j ≡ place_of es j
apart_from [] k x j f = rw f
apart_from (e ∷ es) k x j f = apart_by e es k x j f (nat_cmp k e.0) refl (apart_from es k x j f)

place-apart : (es : List (ℕ × ℕ)) (k x j : ℕ) → j ≢ k → place_of (with_place es k x) j ≡ place_of es j
place-apart es k x j apart = apart_from es k x j (false_from_ne_true (is_eq (nat_cmp j k)) (λ t. apart (number_same j k t)))

-- one entry more
pub at_more : (es : List (ℕ × ℕ)) (k x b : ℕ) → place_of (with_place es k x) b ≡ (if k == b then Some x else place_of es b)
at_more es k x b =
    elim (cases_Bool (k == b)) [
      | inl same ↦ rw same (subst (λ (c : ℕ). place_of (with_place es k x) c ≡ Some x) (eqb-true k b same) (place-there es k x))
      | inr other ↦ rw other (place-apart es k x b (λ e. eqb-false k b other (sym e)))
    ]

or_none : (x : Bool) → (x || false) ≡ (false || x)
or_none true = refl
or_none false = refl

or_more : (x y z : Bool) → (x || (y || z)) ≡ ((x || y) || z)
or_more true y z = refl
or_more false y z = refl

revoked_more : (xs : List ℕ) (x b : ℕ) → is_revoked (xs ++ x ∷ []) b ≡ (is_revoked xs b || (x == b))
revoked_more [] x b = or_none (x == b)
revoked_more (y ∷ ys) x b = ap (λ (r : Bool). (y == b) || r) (revoked_more ys x b) ∙ or_more (y == b) (is_revoked ys b) (x == b)

by_tests : (old new : Bool) (x : ℕ) (o : Option ℕ) → (if new then Some x else (if old then Some x else o)) ≡ (if old || new then Some x else o)
by_tests true true x o = refl
by_tests true false x o = refl
by_tests false true x o = refl
by_tests false false x o = refl

-- one block more of a transaction
pub table_more : (es old : List (ℕ × ℕ)) (blocks : List ℕ) (i x b d : ℕ) → i < length blocks
    → place_of es b ≡ (if is_revoked (take i blocks) b then Some x else place_of old b)
    → place_of (with_place es (get_or blocks i d) x) b ≡ (if is_revoked (take (i + 1) blocks) b then Some x else place_of old b)
table_more es old blocks i x b d lt e =
    let k = get_or blocks i d in
    at_more es k x b
    ∙ (ap (λ (o : Option ℕ). if k == b then Some x else o) e
    ∙ (by_tests (is_revoked (take i blocks) b) (k == b) x (place_of old b)
    ∙ ap (λ (r : Bool). if r then Some x else place_of old b) (sym (ap (λ ks. is_revoked ks b) (take_more blocks i d lt) ∙ revoked_more (take i blocks) k b))))

later_first : (o p : Option ℕ) (stop : Bool) (k : ℕ) → later (if stop then Some k else o) p ≡ (if stop then Some k else later o p)
later_first o p true k = refl
later_first o p false k = refl

-- one transaction more
pub revoke_more : (i n : ℕ) (ts : List Transaction) (t : Transaction) (b : ℕ) → n ≡ i + length ts → last_revoke i (ts ++ t ∷ []) b ≡ (if is_revoked t.revokes b then Some n else last_revoke i ts b)
revoke_more i n [] t b e = let same : i ≡ n = omega arith in ap (λ (k : ℕ). if is_revoked t.revokes b then Some k else None) same
revoke_more i n (u ∷ us) t b e =
    ap (λ (o : Option ℕ). later o (if is_revoked u.revokes b then Some i else None)) (revoke_more (i + 1) n us t b (omega arith))
    ∙ later_first (last_revoke (i + 1) us b) (if is_revoked u.revokes b then Some i else None) (is_revoked t.revokes b) n

pub log_more : (log : List LogTransaction) (i : ℕ) (d : LogTransaction) (b : ℕ) → i < length log
    → last_revoke 0 (map transaction_of (take (i + 1) log)) b ≡ (if is_revoked (get_or log i d).revokes.items b then Some i else last_revoke 0 (map transaction_of (take i log)) b)
log_more log i d b lt =
    let front = map transaction_of (take i log) in
    let size = length-map (take i log) transaction_of in
    let count = length-take-le i log (omega arith) in
    ap (λ us. last_revoke 0 (map transaction_of us) b) (take_more log i d lt)
    ∙ (ap (λ us. last_revoke 0 us b) (map-append transaction_of (take i log) (get_or log i d ∷ []))
    ∙ revoke_more 0 i front (transaction_of (get_or log i d)) b (omega arith))
