-- That marks say the sentence of the format.
use Rattle.std.specs.Prelude.{◌≡◌, ◌≢◌, ℕ, ◌==◌, Bool, true, false, List, [], ◌∷◌, ◌++◌, Option, Some, None, if◌then◌else◌, refl}
use Rattle.std.specs.List.{list_any}
use Rattle.std.proofs.Common.{sym, ap, subst, ◌∙◌, inl, inr, eqb-true, eq-eqb, ne_eqb}
use Rattle.std.proofs.lemmas.Bool.{cases_Bool, or_right, false≢true}
use Rattle.std.proofs.lemmas.List.{append-nil}
use Rattle.blk_base.specs.Members.{In}
use Rattle.blk_base.specs.laws.Members.{list_any-In, list_any-none}
use Rattle.log_model.specs.Marks.{Mark, Keep, Clear, Set, followed, Logged, Transaction, bodies_mark, transaction_mark, mark_in, marked_body}
use Rattle.log_model.specs.LastLogged.{is_cancelled, bodies_of, uncancelled, last_of, SaysNothing, IsLastBody, IsLastLogged, IsRevokedLast}
use Rattle.log_model.proofs.Marks.{same_Set, keep≢set, clear≢set, keep≢clear, keep-followed, followed-keep, mark_in-append, transaction_mark-clear, bodies≢clear}

-- ---- by places
no_body-keep : (ls : List Logged) (b : ℕ) → ((l : Logged) → In l ls → l.block ≢ b) → bodies_mark ls b ≡ Keep
no_body-keep [] b h = refl
no_body-keep (l ∷ ls) b h =
    ap (λ t. followed (if t then Set l.body else Keep) (bodies_mark ls b)) (ne_eqb l.block b (h l (inl refl)))
    ∙ ap (followed Keep) (no_body-keep ls b (λ m i. h m (inr i)))

bodies_mark-append : (xs ys : List Logged) (b : ℕ) → bodies_mark (xs ++ ys) b ≡ followed (bodies_mark xs b) (bodies_mark ys b)
bodies_mark-append [] ys b = sym (keep-followed (bodies_mark ys b))
bodies_mark-append (l ∷ xs) ys b =
    ap (followed (if l.block == b then Set l.body else Keep)) (bodies_mark-append xs ys b)
    ∙ assoc (if l.block == b then Set l.body else Keep) (bodies_mark xs b) (bodies_mark ys b)
  where
    assoc : (l m n : Mark) → followed l (followed m n) ≡ followed (followed l m) n
    assoc l m Keep = refl
    assoc l m Clear = refl
    assoc l m (Set x) = refl

last_body-mark : (ls : List Logged) (b : ℕ) (x : List ℕ) → IsLastBody ls b x → bodies_mark ls b ≡ Set x
last_body-mark ls b x h =
    ap (λ l. bodies_mark l b) h.here
    ∙ bodies_mark-append h.before (record { block = b; body = x } ∷ h.after) b
    ∙ ap (λ m. followed (bodies_mark h.before b) (followed (if b == b then Set x else Keep) m)) (no_body-keep h.after b h.none)
    ∙ ap (λ t. followed (bodies_mark h.before b) (if t then Set x else Keep)) (eq-eqb b b refl)

unrevoked : (t : Transaction) (b : ℕ) → (In b t.revokes → ⊥) → list_any (λ r. r == b) t.revokes ≡ false
unrevoked t b h = list_any-none (λ r. r == b) t.revokes (λ r i. ne_eqb r b (λ e. h (subst (λ k. In k t.revokes) e i)))

silent : (t : Transaction) (b : ℕ) → ((l : Logged) → In l t.bodies → l.block ≢ b) → (In b t.revokes → ⊥) → transaction_mark t b ≡ Keep
silent t b none kept =
    ap (λ u. followed (bodies_mark t.bodies b) (if u then Clear else Keep)) (unrevoked t b kept) ∙ no_body-keep t.bodies b none

pub silent-keep : (txs : List Transaction) (b : ℕ) → SaysNothing txs b → mark_in txs b ≡ Keep
silent-keep [] b h = refl
silent-keep (t ∷ ts) b h =
    let here = h t (inl refl) in
    ap (λ m. followed m (mark_in ts b)) (silent t b here.0 here.1) ∙ ap (followed Keep) (silent-keep ts b (λ u i. h u (inr i)))

-- the printed sentence gives the mark
pub last_logged-mark : (txs : List Transaction) (b : ℕ) (x : List ℕ) → IsLastLogged txs b x → mark_in txs b ≡ Set x
last_logged-mark txs b x h =
    ap (λ ts. mark_in ts b) h.here
    ∙ mark_in-append h.before (h.transaction ∷ h.after) b
    ∙ ap (λ m. followed (mark_in h.before b) (followed (transaction_mark h.transaction b) m)) (silent-keep h.after b h.none)
    ∙ ap (λ u. followed (mark_in h.before b) (followed (bodies_mark h.transaction.bodies b) (if u then Clear else Keep))) (unrevoked h.transaction b h.kept)
    ∙ ap (followed (mark_in h.before b)) (last_body-mark h.transaction.bodies b x h.last)

-- ---- and back

first_keep : (u : Bool) (y : List ℕ) → (if u then Set y else Keep) ≡ Keep → u ≡ false
first_keep true y e = absurd (keep≢set y (sym e))
first_keep false y e = refl

first_set : (u : Bool) (y x : List ℕ) → (if u then Set y else Keep) ≡ Set x → (u ≡ true) × (y ≡ x)
first_set true y x e = (refl, same_Set y x e)
first_set false y x e = absurd (keep≢set x e)

not_cancelled : (u : Bool) (m : Mark) (x : List ℕ) → followed m (if u then Clear else Keep) ≡ Set x → (u ≡ false) × (m ≡ Set x)
not_cancelled true m x e = absurd (clear≢set x e)
not_cancelled false m x e = (refl, e)

keeps : (u : Bool) (m : Mark) → followed m (if u then Clear else Keep) ≡ Keep → (u ≡ false) × (m ≡ Keep)
keeps true m e = absurd (let f : ⊥ = clear_keep e in f)
  where
    clear_keep : Clear ≡ Keep → ⊥
    clear_keep w = cc
keeps false m e = (refl, e)

keep-no_body : (ls : List Logged) (b : ℕ) → bodies_mark ls b ≡ Keep → (l : Logged) → In l ls → l.block ≢ b
keep-no_body [] b k l i = absurd i
keep-no_body (m ∷ ls) b k l (inl e) =
    let parts = followed-keep (if m.block == b then Set m.body else Keep) (bodies_mark ls b) k in
    let other = first_keep (m.block == b) m.body parts.0 in
    λ same. false≢true (sym other ∙ eq-eqb m.block b (ap (λ (y : Logged). y.block) e ∙ same))
keep-no_body (m ∷ ls) b k l (inr i) =
    keep-no_body ls b (followed-keep (if m.block == b then Set m.body else Keep) (bodies_mark ls b) k).1 l i

mark-last_body : (ls : List Logged) (b : ℕ) (x : List ℕ) → bodies_mark ls b ≡ Set x → IsLastBody ls b x
mark-last_body [] b x h = absurd (keep≢set x h)
mark-last_body (l ∷ ls) b x h = by (bodies_mark ls b) refl (λ y e. mark-last_body ls b y e) h
  where
    by : (m : Mark) → bodies_mark ls b ≡ m → ((y : List ℕ) → bodies_mark ls b ≡ Set y → IsLastBody ls b y) → followed (if l.block == b then Set l.body else Keep) m ≡ Set x → IsLastBody (l ∷ ls) b x
    by Keep e again k =
        let here = first_set (l.block == b) l.body x k in
        let block = eqb-true l.block b here.0 in
        record { before = []; after = ls; here = ap (λ y. y ∷ ls) (same_logged l b x block here.1); none = keep-no_body ls b e }
      where
        same_logged : (l : Logged) (b : ℕ) (x : List ℕ) → l.block ≡ b → l.body ≡ x → l ≡ record { block = b; body = x }
        same_logged l b x p q = ap (λ c. record { block = c; body = l.body }) p ∙ ap (λ y. record { block = b; body = y }) q
    by Clear e again k = absurd (clear≢set x k)
    by (Set y) e again k =
        let r = again x (e ∙ k) in
        record { before = l ∷ r.before; after = r.after; here = ap (λ zs. l ∷ zs) r.here; none = r.none }

silent_back : (t : Transaction) (b : ℕ) → transaction_mark t b ≡ Keep → ((l : Logged) → In l t.bodies → l.block ≢ b) × (In b t.revokes → ⊥)
silent_back t b k =
    let parts = keeps (list_any (λ r. r == b) t.revokes) (bodies_mark t.bodies b) k in
    (keep-no_body t.bodies b parts.1, λ i. false≢true (sym parts.0 ∙ list_any-In (λ r. r == b) t.revokes b i (eq-eqb b b refl)))

pub keep-silent : (txs : List Transaction) (b : ℕ) → mark_in txs b ≡ Keep → SaysNothing txs b
keep-silent [] b k t i = absurd i
keep-silent (u ∷ ts) b k t (inl e) = subst (λ (v : Transaction). ((l : Logged) → In l v.bodies → l.block ≢ b) × (In b v.revokes → ⊥)) e (silent_back u b (followed-keep (transaction_mark u b) (mark_in ts b) k).0)
keep-silent (u ∷ ts) b k t (inr i) = keep-silent ts b (followed-keep (transaction_mark u b) (mark_in ts b) k).1 t i

-- and the mark gives the sentence
pub mark-last_logged : (txs : List Transaction) (b : ℕ) (x : List ℕ) → mark_in txs b ≡ Set x → IsLastLogged txs b x
mark-last_logged [] b x h = absurd (keep≢set x h)
mark-last_logged (t ∷ ts) b x h = by (mark_in ts b) refl (λ e. mark-last_logged ts b x e) h
  where
    by : (m : Mark) → mark_in ts b ≡ m → (mark_in ts b ≡ Set x → IsLastLogged ts b x) → followed (transaction_mark t b) m ≡ Set x → IsLastLogged (t ∷ ts) b x
    by Keep e again k =
        let parts = not_cancelled (list_any (λ r. r == b) t.revokes) (bodies_mark t.bodies b) x k in
        record {
          before = [];
          transaction = t;
          after = ts;
          here = refl;
          last = mark-last_body t.bodies b x parts.1;
          kept = λ i. false≢true (sym parts.0 ∙ list_any-In (λ r. r == b) t.revokes b i (eq-eqb b b refl));
          none = keep-silent ts b e;
        }
    by Clear e again k = absurd (clear≢set x k)
    by (Set y) e again k =
        let r = again (e ∙ k) in
        record { before = t ∷ r.before; transaction = r.transaction; after = r.after; here = ap (λ us. t ∷ us) r.here; last = r.last; kept = r.kept; none = r.none }

revoked_here : (t : Transaction) (b : ℕ) → In b t.revokes → transaction_mark t b ≡ Clear
revoked_here t b i =
    ap (λ u. followed (bodies_mark t.bodies b) (if u then Clear else Keep)) (list_any-In (λ r. r == b) t.revokes b i (eq-eqb b b refl))

-- a revoke with no body behind it gives the mark
pub revoked_last-mark : (txs : List Transaction) (b : ℕ) → IsRevokedLast txs b → mark_in txs b ≡ Clear
revoked_last-mark txs b h =
    ap (λ ts. mark_in ts b) h.here
    ∙ mark_in-append h.before (h.transaction ∷ h.after) b
    ∙ ap (λ m. followed (mark_in h.before b) (followed (transaction_mark h.transaction b) m)) (silent-keep h.after b h.none)
    ∙ ap (followed (mark_in h.before b)) (revoked_here h.transaction b h.revoked)

-- and the mark gives the revoke
pub mark-revoked_last : (txs : List Transaction) (b : ℕ) → mark_in txs b ≡ Clear → IsRevokedLast txs b
mark-revoked_last [] b h = absurd (keep≢clear h)
mark-revoked_last (t ∷ ts) b h = by (mark_in ts b) refl (λ e. mark-revoked_last ts b e) h
  where
    by : (m : Mark) → mark_in ts b ≡ m → (mark_in ts b ≡ Clear → IsRevokedLast ts b) → followed (transaction_mark t b) m ≡ Clear → IsRevokedLast (t ∷ ts) b
    by Keep e again k =
        record { before = []; transaction = t; after = ts; here = refl; revoked = transaction_mark-clear t b k; none = keep-silent ts b e }
    by Clear e again k =
        let r = again e in
        record { before = t ∷ r.before; transaction = r.transaction; after = r.after; here = ap (λ us. t ∷ us) r.here; revoked = r.revoked; none = r.none }
    by (Set y) e again k = absurd (clear≢set y (sym k))

-- ---- as a list

last_of-cons : (x : List ℕ) (xs : List (List ℕ)) (m : Mark) → (m ≡ Clear → ⊥) → marked_body m ≡ last_of xs → marked_body (followed (Set x) m) ≡ last_of (x ∷ xs)
last_of-cons x xs Keep c e = rw (sym e) refl
last_of-cons x xs Clear c e = absurd (c refl)
last_of-cons x xs (Set y) c e = rw (sym e) refl

-- the mark of bodies is the last of them
bodies_mark-last : (ls : List Logged) (b : ℕ) → marked_body (bodies_mark ls b) ≡ last_of (bodies_of ls b)
bodies_mark-last [] b = refl
bodies_mark-last (l ∷ ls) b =
    elim (cases_Bool (l.block == b)) [
      | inl same ↦ rw same (last_of-cons l.body (bodies_of ls b) (bodies_mark ls b) (bodies≢clear ls b) (bodies_mark-last ls b))
      | inr other ↦ rw other (ap marked_body (keep-followed (bodies_mark ls b)) ∙ bodies_mark-last ls b)
    ]

pub last_of-append : (xs ys : List (List ℕ)) (y : List ℕ) → last_of ys ≡ Some y → last_of (xs ++ ys) ≡ Some y
last_of-append [] ys y e = e
last_of-append (x ∷ xs) ys y e = rw (last_of-append xs ys y e) refl

some_last : (o : Option (List ℕ)) (x : List ℕ) → elim o as (λ _. Option (List ℕ)) [ None ↦ Some x | Some y ↦ Some y ] ≡ None → ⊥
some_last None x e = cc
some_last (Some y) x e = cc

last_of-some : (x : List ℕ) (xs : List (List ℕ)) → last_of (x ∷ xs) ≡ None → ⊥
last_of-some x xs e = some_last (last_of xs) x e

pub append-none : (xs ys : List (List ℕ)) → last_of ys ≡ None → xs ++ ys ≡ xs
append-none xs [] e = append-nil xs
append-none xs (y ∷ ys) e = absurd (last_of-some y ys e)

-- a transaction's mark is Clear only where it revokes the block, and where it revokes it
transaction-revoked : (t : Transaction) (b : ℕ) → list_any (λ r. r == b) t.revokes ≡ true → transaction_mark t b ≡ Clear
transaction-revoked t b r = rw r refl

transaction-plain : (t : Transaction) (b : ℕ) → list_any (λ r. r == b) t.revokes ≡ false → transaction_mark t b ≡ bodies_mark t.bodies b
transaction-plain t b r = rw r refl

clear_later : (m n : Mark) → (m ≡ Clear → ⊥) → followed m n ≡ Clear → n ≡ Clear
clear_later m Keep c e = absurd (c e)
clear_later m Clear c e = refl
clear_later m (Set x) c e = absurd (cc)

later-clear : (ts : List Transaction) (b : ℕ) → mark_in ts b ≡ Clear → is_cancelled ts b ≡ true
later-clear [] b e = absurd (cc)
later-clear (t ∷ ts) b e =
    elim (cases_Bool (list_any (λ r. r == b) t.revokes)) [
      | inl r ↦ rw r refl
      | inr n ↦
          rw n (later-clear ts b (clear_later (transaction_mark t b) (mark_in ts b) (λ q. bodies≢clear t.bodies b (sym (transaction-plain t b n) ∙ q)) e))
    ]

later-keep : (ts : List Transaction) (b : ℕ) → mark_in ts b ≡ Keep → is_cancelled ts b ≡ false
later-keep [] b e = refl
later-keep (t ∷ ts) b e =
    let parts = followed-keep (transaction_mark t b) (mark_in ts b) e in
    elim (cases_Bool (list_any (λ r. r == b) t.revokes)) [
      | inl r ↦ absurd (keep≢clear (sym parts.0 ∙ transaction-revoked t b r))
      | inr n ↦ rw n (later-keep ts b parts.1)
    ]

printed_by : (t : Transaction) (ts : List Transaction) (b : ℕ) (m : Mark) → mark_in ts b ≡ m → marked_body m ≡ last_of (uncancelled ts b) → marked_body (followed (transaction_mark t b) m) ≡ last_of (uncancelled (t ∷ ts) b)
printed_by t ts b (Set x) e ih = sym (last_of-append (if is_cancelled (t ∷ ts) b then [] else bodies_of t.bodies b) (uncancelled ts b) x (sym ih))
printed_by t ts b Clear e ih =
    let cancelled : is_cancelled (t ∷ ts) b ≡ true = or_right (list_any (λ r. r == b) t.revokes) (is_cancelled ts b) (later-clear ts b e) in
    rw cancelled ih
printed_by t ts b Keep e ih =
    let none = append-none (if is_cancelled (t ∷ ts) b then [] else bodies_of t.bodies b) (uncancelled ts b) (sym ih) in
    let later = later-keep ts b e in
    elim (cases_Bool (list_any (λ r. r == b) t.revokes)) [
      | inl r ↦ ap marked_body (transaction-revoked t b r) ∙ rw (none, r) refl
      | inr n ↦ ap marked_body (transaction-plain t b n) ∙ (bodies_mark-last t.bodies b ∙ rw (none, n, later) refl)
    ]

-- The mark of a log has the last logged body of the block that no revoke of its own or of a later transaction cancels.
pub mark-printed : (ts : List Transaction) (b : ℕ) → marked_body (mark_in ts b) ≡ last_of (uncancelled ts b)
mark-printed [] b = refl
mark-printed (t ∷ ts) b = printed_by t ts b (mark_in ts b) refl (mark-printed ts b)
