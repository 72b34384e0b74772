-- Laws of the bodies that are to be sent home.
use Rattle.std.proofs.Common.{sym, ap, subst, ◌∙◌, inl, inr, ⊎_elim, arith, eq-eqb, eqb-true, ne_eqb, lt-ltb, le-ltb}
use Rattle.std.proofs.lemmas.Bool.{cases_Bool, cases_lt, cond-true, cond-false}
use Rattle.std.specs.Prelude.{◌≡◌, ◌≢◌, ℕ, ◌<◌, ◌==◌, ◌⊎◌, Bool, true, false, not, List, [], ◌∷◌, nat_lt, if◌then◌else◌, refl}
use Rattle.blk_base.specs.Members.{In}
use Rattle.blk_base.specs.laws.Members.{In-filter, filter-In, In-list_any, IsAscending-filter}
use Rattle.log_model.proofs.Marks.{same_Set, keep≢set, clear≢set}
use Rattle.log_model.specs.Marks.{Mark, Keep, Clear, Set, followed, Logged, Transaction, bodies_mark, transaction_mark}
use Rattle.number_sets.specs.Sets.{has}
use Rattle.journal_ring.specs.LogRing.{put_home, put_homes}
use Rattle.journal_ring.specs.laws.Homes.{unrevoked, commit_homes, IsRisingHomes, IsApart}

-- ---- one body

put_same : (l h : Logged) (hs : List Logged) → h.block ≡ l.block → put_home (h ∷ hs) l ≡ l ∷ hs
put_same l h hs e = cond-true (h.block == l.block) (l ∷ hs) (if nat_lt l.block h.block then l ∷ h ∷ hs else h ∷ put_home hs l) (eq-eqb h.block l.block e)

put_apart : (l h : Logged) (hs : List Logged) → h.block ≢ l.block → put_home (h ∷ hs) l ≡ (if nat_lt l.block h.block then l ∷ h ∷ hs else h ∷ put_home hs l)
put_apart l h hs ne = cond-false (h.block == l.block) (l ∷ hs) (if nat_lt l.block h.block then l ∷ h ∷ hs else h ∷ put_home hs l) (ne_eqb h.block l.block ne)

put_above : (l h : Logged) (hs : List Logged) → l.block < h.block → put_home (h ∷ hs) l ≡ l ∷ h ∷ hs
put_above l h hs lt = put_apart l h hs (λ e. omega arith) ∙ cond-true (nat_lt l.block h.block) (l ∷ h ∷ hs) (h ∷ put_home hs l) (lt-ltb l.block h.block lt)

put_below : (l h : Logged) (hs : List Logged) → h.block < l.block → put_home (h ∷ hs) l ≡ h ∷ put_home hs l
put_below l h hs lt = put_apart l h hs (λ e. omega arith) ∙ cond-false (nat_lt l.block h.block) (l ∷ h ∷ hs) (h ∷ put_home hs l) (le-ltb l.block h.block (omega arith))

-- below, at, or above
order_cases : (a b : ℕ) → (a < b) ⊎ ((a ≡ b) ⊎ (b < a))
order_cases a b = ⊎_elim (λ lt. inl lt) (λ le. inr (⊎_elim (λ lt. inr lt) (λ ge. inl (omega arith)) (cases_lt b a))) (cases_lt a b)

further : (l h : Logged) (hs : List Logged) (y : Logged) → (l ≡ y) ⊎ (In y hs × (y.block ≢ l.block)) → (l ≡ y) ⊎ (In y (h ∷ hs) × (y.block ≢ l.block))
further l h hs y (inl e) = inl e
further l h hs y (inr k) = inr (inr k.0, k.1)

pub In-put_home : (l : Logged) (hs : List Logged) (y : Logged) → IsRisingHomes hs → In y (put_home hs l) → (l ≡ y) ⊎ (In y hs × (y.block ≢ l.block))
In-put_home l [] y a (inl e) = inl e
In-put_home l [] y a (inr i) = absurd i
In-put_home l (h ∷ hs) y a i =
    ⊎_elim
    (λ lt. below lt (subst (In y) (put_below l h hs lt) i) (In-put_home l hs y a.1))
    (λ r.
    ⊎_elim
    (λ e. same e (subst (In y) (put_same l h hs e) i))
    (λ lt. above lt (subst (In y) (put_above l h hs lt) i))
    r)
    (order_cases h.block l.block)
  where
    below : h.block < l.block → In y (h ∷ put_home hs l) → (In y (put_home hs l) → (l ≡ y) ⊎ (In y hs × (y.block ≢ l.block))) → (l ≡ y) ⊎ (In y (h ∷ hs) × (y.block ≢ l.block))
    below lt (inl e) rest = let q = ap (λ (z : Logged). z.block) e in inr (inl e, λ p. omega arith)
    below lt (inr j) rest = further l h hs y (rest j)

    same : h.block ≡ l.block → In y (l ∷ hs) → (l ≡ y) ⊎ (In y (h ∷ hs) × (y.block ≢ l.block))
    same e (inl q) = inl q
    same e (inr j) = let up = a.0 y j in inr (inr j, λ p. omega arith)

    above : l.block < h.block → In y (l ∷ h ∷ hs) → (l ≡ y) ⊎ (In y (h ∷ hs) × (y.block ≢ l.block))
    above lt (inl q) = inl q
    above lt (inr (inl q)) = let w = ap (λ (z : Logged). z.block) q in inr (inl q, λ p. omega arith)
    above lt (inr (inr j)) = let up = a.0 y j in inr (inr j, λ p. omega arith)

pub put_home-ascends : (l : Logged) (hs : List Logged) → IsRisingHomes hs → IsRisingHomes (put_home hs l)
put_home-ascends l [] a = (λ y i. absurd i, tt)
put_home-ascends l (h ∷ hs) a =
    ⊎_elim
    (λ lt. subst IsRisingHomes (sym (put_below l h hs lt)) (λ y i. below lt y (In-put_home l hs y a.1 i), put_home-ascends l hs a.1))
    (λ r.
    ⊎_elim
    (λ e. subst IsRisingHomes (sym (put_same l h hs e)) (λ y i. let up = a.0 y i in omega arith, a.1))
    (λ lt. subst IsRisingHomes (sym (put_above l h hs lt)) (λ y i. above lt y i, a))
    r)
    (order_cases h.block l.block)
  where
    below : h.block < l.block → (y : Logged) → (l ≡ y) ⊎ (In y hs × (y.block ≢ l.block)) → h.block < y.block
    below lt y (inl e) = subst (λ (z : Logged). h.block < z.block) e lt
    below lt y (inr j) = a.0 y j.0

    above : l.block < h.block → (y : Logged) → In y (h ∷ hs) → l.block < y.block
    above lt y (inl e) = subst (λ (z : Logged). l.block < z.block) e lt
    above lt y (inr i) = let up = a.0 y i in omega arith

pub put_home-self : (l : Logged) (hs : List Logged) → In l (put_home hs l)
put_home-self l [] = inl refl
put_home-self l (h ∷ hs) =
    ⊎_elim
    (λ lt. subst (In l) (sym (put_below l h hs lt)) (inr (put_home-self l hs)))
    (λ r. ⊎_elim (λ e. subst (In l) (sym (put_same l h hs e)) (inl refl)) (λ lt. subst (In l) (sym (put_above l h hs lt)) (inl refl)) r)
    (order_cases h.block l.block)

pub put_home-In : (l : Logged) (hs : List Logged) (y : Logged) → In y hs → y.block ≢ l.block → In y (put_home hs l)
put_home-In l [] y i ne = absurd i
put_home-In l (h ∷ hs) y i ne =
    ⊎_elim
    (λ lt. subst (In y) (sym (put_below l h hs lt)) (below i (λ j. put_home-In l hs y j ne)))
    (λ r. ⊎_elim (λ e. subst (In y) (sym (put_same l h hs e)) (inr (same e i))) (λ lt. subst (In y) (sym (put_above l h hs lt)) (inr i)) r)
    (order_cases h.block l.block)
  where
    below : In y (h ∷ hs) → (In y hs → In y (put_home hs l)) → In y (h ∷ put_home hs l)
    below (inl e) rest = inl e
    below (inr j) rest = inr (rest j)

    same : h.block ≡ l.block → In y (h ∷ hs) → In y hs
    same e (inl q) = absurd (ne (sym (ap (λ (z : Logged). z.block) q) ∙ e))
    same e (inr j) = j

-- ---- bodies of a transaction

mark_same : (l : Logged) (b : ℕ) → l.block ≡ b → (if l.block == b then Set l.body else Keep) ≡ Set l.body
mark_same l b e = cond-true (l.block == b) (Set l.body) Keep (eq-eqb l.block b e)

mark_other : (l : Logged) (b : ℕ) → l.block ≢ b → (if l.block == b then Set l.body else Keep) ≡ Keep
mark_other l b ne = cond-false (l.block == b) (Set l.body) Keep (ne_eqb l.block b ne)

pub put_homes-ascends : (ls hs : List Logged) → IsRisingHomes hs → IsRisingHomes (put_homes hs ls)
put_homes-ascends [] hs a = a
put_homes-ascends (l ∷ ls) hs a = put_homes-ascends ls (put_home hs l) (put_home-ascends l hs a)

pub In-put_homes : (ls hs : List Logged) (y : Logged) → IsRisingHomes hs → In y (put_homes hs ls) → (bodies_mark ls y.block ≡ Set y.body) ⊎ (In y hs × (bodies_mark ls y.block ≡ Keep))
In-put_homes [] hs y a i = inr (i, refl)
In-put_homes (l ∷ ls) hs y a i =
    ⊎_elim
    (λ set. inl (ap (followed (if l.block == y.block then Set l.body else Keep)) set))
    (λ r.
    ⊎_elim
    (λ e. inl (ap (followed (if l.block == y.block then Set l.body else Keep)) r.1 ∙ mark_same l y.block (ap (λ (z : Logged). z.block) e) ∙ ap (λ (z : Logged). Set z.body) e))
    (λ o. inr (o.0, ap (followed (if l.block == y.block then Set l.body else Keep)) r.1 ∙ mark_other l y.block (λ q. o.1 (sym q))))
    (In-put_home l hs y a r.0))
    (In-put_homes ls (put_home hs l) y (put_home-ascends l hs a) i)

pub put_homes-kept : (ls hs : List Logged) (y : Logged) → In y hs → bodies_mark ls y.block ≡ Keep → In y (put_homes hs ls)
put_homes-kept [] hs y i k = i
put_homes-kept (l ∷ ls) hs y i k =
    let both = parts (if l.block == y.block then Set l.body else Keep) (bodies_mark ls y.block) k in
    put_homes-kept ls (put_home hs l) y (put_home-In l hs y i (λ e. keep≢set l.body (sym both.0 ∙ mark_same l y.block (sym e)))) both.1
  where
    parts : (m n : Mark) → followed m n ≡ Keep → (m ≡ Keep) × (n ≡ Keep)
    parts m Keep h = (h, refl)
    parts m Clear h = absurd (let k : ⊥ = cc in k)
    parts m (Set x) h = absurd (let k : ⊥ = cc in k)

pub put_homes-body : (ls hs : List Logged) (b : ℕ) (x : List ℕ) → bodies_mark ls b ≡ Set x → In (record { block = b; body = x }) (put_homes hs ls)
put_homes-body [] hs b x k = absurd (keep≢set x k)
put_homes-body (l ∷ ls) hs b x k = by (bodies_mark ls b) refl k (put_homes-body ls (put_home hs l) b) (λ i. put_homes-kept ls (put_home hs l) (record { block = b; body = x }) i)
  where
    here : (t : Bool) → (l.block == b) ≡ t → (if t then Set l.body else Keep) ≡ Set x → l ≡ record { block = b; body = x }
    here true t e = let q = eqb-true l.block b t in let r = same_Set l.body x e in ap (λ n. record { block = n; body = l.body }) q ∙ ap (λ y. record { block = b; body = y }) r
    here false t e = absurd (keep≢set x e)

    by : (m : Mark) → bodies_mark ls b ≡ m → followed (if l.block == b then Set l.body else Keep) m ≡ Set x
        → ((y : List ℕ) → bodies_mark ls b ≡ Set y → In (record { block = b; body = y }) (put_homes (put_home hs l) ls))
        → (In (record { block = b; body = x }) (put_home hs l) → bodies_mark ls b ≡ Keep → In (record { block = b; body = x }) (put_homes (put_home hs l) ls))
        → In (record { block = b; body = x }) (put_homes (put_home hs l) ls)
    by (Set y) e h rest kept = subst (λ z. In (record { block = b; body = z }) (put_homes (put_home hs l) ls)) (same_Set y x h) (rest y e)
    by Clear e h rest kept = absurd (clear≢set x h)
    by Keep e h rest kept = kept (subst (λ (z : Logged). In z (put_home hs l)) (here (l.block == b) refl h) (put_home-self l hs)) e

-- ---- a transaction

pub bodies_mark-In : (ls : List Logged) (b : ℕ) (x : List ℕ) → bodies_mark ls b ≡ Set x → (l : Logged) × In l ls × (l.block ≡ b)
bodies_mark-In [] b x k = absurd (keep≢set x k)
bodies_mark-In (l ∷ ls) b x k = by (bodies_mark ls b) refl k (bodies_mark-In ls b)
  where
    here : (t : Bool) → (l.block == b) ≡ t → (if t then Set l.body else Keep) ≡ Set x → l.block ≡ b
    here true t e = eqb-true l.block b t
    here false t e = absurd (keep≢set x e)

    by : (m : Mark) → bodies_mark ls b ≡ m → followed (if l.block == b then Set l.body else Keep) m ≡ Set x → ((y : List ℕ) → bodies_mark ls b ≡ Set y → (o : Logged) × In o ls × (o.block ≡ b)) → (o : Logged) × In o (l ∷ ls) × (o.block ≡ b)
    by (Set y) e h rest = let r = rest y e in (r.0, inr r.1, r.2)
    by Clear e h rest = absurd (clear≢set x h)
    by Keep e h rest = (l, inl refl, here (l.block == b) refl h)

not_revoked : (t : Transaction) (b : ℕ) (x : List ℕ) → IsApart t → bodies_mark t.bodies b ≡ Set x → has t.revokes b ≡ false
not_revoked t b x apart set =
    ⊎_elim
    (λ yes.
    let r = In-list_any (λ r. r == b) t.revokes yes in
    let l = bodies_mark-In t.bodies b x set in
    absurd (apart l.0 l.1 (subst (λ c. In c t.revokes) (eqb-true r.0 b r.2 ∙ sym l.2) r.1)))
    (λ no. no)
    (cases_Bool (has t.revokes b))

-- what a transaction says of a block, by its revokes
mark_by : (t : Transaction) (b : ℕ) (u : Bool) → has t.revokes b ≡ u → transaction_mark t b ≡ followed (bodies_mark t.bodies b) (if u then Clear else Keep)
mark_by t b u e = ap (λ v. followed (bodies_mark t.bodies b) (if v then Clear else Keep)) e

pub In-commit_homes : (t : Transaction) (hs : List Logged) (y : Logged) → IsApart t → IsRisingHomes hs → In y (commit_homes t hs) → (transaction_mark t y.block ≡ Set y.body) ⊎ (In y hs × (transaction_mark t y.block ≡ Keep))
In-commit_homes t hs y apart a i =
    ⊎_elim
    (λ set. inl (mark_by t y.block false (not_revoked t y.block y.body apart set) ∙ set))
    (λ r.
    let f = In-filter (λ (l : Logged). not (has t.revokes l.block)) hs y r.0 in
    inr (f.0, mark_by t y.block false (kept (has t.revokes y.block) f.1) ∙ r.1))
    (In-put_homes t.bodies (unrevoked t.revokes hs) y (IsAscending-filter (λ (l : Logged). l.block) (λ (l : Logged). not (has t.revokes l.block)) hs a) i)
  where
    kept : (u : Bool) → not u ≡ true → u ≡ false
    kept false e = refl
    kept true e = sym e

pub commit_homes-ascends : (t : Transaction) (hs : List Logged) → IsRisingHomes hs → IsRisingHomes (commit_homes t hs)
commit_homes-ascends t hs a = put_homes-ascends t.bodies (unrevoked t.revokes hs) (IsAscending-filter (λ (l : Logged). l.block) (λ (l : Logged). not (has t.revokes l.block)) hs a)

pub commit_homes-body : (t : Transaction) (hs : List Logged) (b : ℕ) (x : List ℕ) → transaction_mark t b ≡ Set x → In (record { block = b; body = x }) (commit_homes t hs)
commit_homes-body t hs b x set = put_homes-body t.bodies (unrevoked t.revokes hs) b x (by (has t.revokes b) set)
  where
    by : (u : Bool) → followed (bodies_mark t.bodies b) (if u then Clear else Keep) ≡ Set x → bodies_mark t.bodies b ≡ Set x
    by true e = absurd (clear≢set x e)
    by false e = e

pub commit_homes-kept : (t : Transaction) (hs : List Logged) (y : Logged) → In y hs → transaction_mark t y.block ≡ Keep → In y (commit_homes t hs)
commit_homes-kept t hs y i k =
    let both = by (has t.revokes y.block) refl k in
    put_homes-kept t.bodies (unrevoked t.revokes hs) y (filter-In (λ (l : Logged). not (has t.revokes l.block)) hs y i (ap not both.0)) both.1
  where
    by : (u : Bool) → has t.revokes y.block ≡ u → followed (bodies_mark t.bodies y.block) (if u then Clear else Keep) ≡ Keep → (has t.revokes y.block ≡ false) × (bodies_mark t.bodies y.block ≡ Keep)
    by true q e = absurd (let k : ⊥ = cc in k)
    by false q e = (q, e)
