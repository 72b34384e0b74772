-- What waits to be sent home, after a list of transactions.
use Rattle.std.proofs.Common.{◌≡◌, ℕ, ◌≤◌, ◌⊎◌, List, [], ◌∷◌, Some, None, refl, sym, ap, subst, ◌∙◌, inl, inr, ⊎_elim, arith}
use Rattle.std.specs.Prelude.{◌≢◌}
use Rattle.std.proofs.lemmas.Option.{none-some, same_Some}
use Rattle.blk_base.specs.Members.{In}
use Rattle.log_model.proofs.Marks.{same_Set, keep≢set, clear≢set}
use Rattle.log_model.specs.Marks.{Mark, Keep, Clear, Set, followed, Logged, Transaction, transaction_mark, mark_in}
use Rattle.journal_ring.specs.Commits.{all_committed}
use Rattle.journal_ring.specs.Journal.{first_home}
use Rattle.journal_ring.specs.LogRing.{LogRing, commit_bodies, home_sent}
use Rattle.journal_ring.specs.laws.Committed.{In-commit_homes, commit_homes-ascends, commit_homes-body, commit_homes-kept}
use Rattle.journal_ring.specs.laws.Homes.{IsRisingHomes, IsApart}

pub In-all_committed : (ts : List Transaction) (r : LogRing) (l : Logged) → ((t : Transaction) → In t ts → IsApart t) → IsRisingHomes r.homes → In l (all_committed r ts).homes
    → (mark_in ts l.block ≡ Set l.body) ⊎ (In l r.homes × (mark_in ts l.block ≡ Keep))
In-all_committed [] r l apart a i = inr (i, refl)
In-all_committed (t ∷ ts) r l apart a i =
    ⊎_elim
    (λ set. inl (ap (followed (transaction_mark t l.block)) set))
    (λ k.
    ⊎_elim
    (λ set. inl (ap (followed (transaction_mark t l.block)) k.1 ∙ set))
    (λ was. inr (was.0, ap (followed (transaction_mark t l.block)) k.1 ∙ was.1))
    (In-commit_homes t r.homes l (apart t (inl refl)) a k.0))
    (In-all_committed ts (commit_bodies t.revokes t.bodies r) l (λ u j. apart u (inr j)) (commit_homes-ascends t r.homes a) i)

pub all_committed-kept : (ts : List Transaction) (r : LogRing) (l : Logged) → In l r.homes → mark_in ts l.block ≡ Keep → In l (all_committed r ts).homes
all_committed-kept [] r l i k = i
all_committed-kept (t ∷ ts) r l i k =
    let both = parts (transaction_mark t l.block) (mark_in ts l.block) k in
    all_committed-kept ts (commit_bodies t.revokes t.bodies r) l (commit_homes-kept t r.homes l i both.0) both.1
  where
    parts : (m n : Mark) → followed m n ≡ Keep → (m ≡ Keep) × (n ≡ Keep)
    parts m Keep h = (h, refl)
    parts m Clear h = absurd (let k : ⊥ = cc in k)
    parts m (Set x) h = absurd (let k : ⊥ = cc in k)

pub all_committed-body : (ts : List Transaction) (r : LogRing) (b : ℕ) (x : List ℕ) → mark_in ts b ≡ Set x → In (record { block = b; body = x }) (all_committed r ts).homes
all_committed-body [] r b x k = absurd (keep≢set x k)
all_committed-body (t ∷ ts) r b x k =
    by (mark_in ts b) refl k (all_committed-body ts (commit_bodies t.revokes t.bodies r) b)
    (λ i e. all_committed-kept ts (commit_bodies t.revokes t.bodies r) (record { block = b; body = x }) i e)
  where
    by : (m : Mark) → mark_in ts b ≡ m → followed (transaction_mark t b) m ≡ Set x
        → ((y : List ℕ) → mark_in ts b ≡ Set y → In (record { block = b; body = y }) (all_committed (commit_bodies t.revokes t.bodies r) ts).homes)
        → (In (record { block = b; body = x }) (commit_bodies t.revokes t.bodies r).homes → mark_in ts b ≡ Keep → In (record { block = b; body = x }) (all_committed (commit_bodies t.revokes t.bodies r) ts).homes)
        → In (record { block = b; body = x }) (all_committed (commit_bodies t.revokes t.bodies r) ts).homes
    by (Set y) e h rest kept = subst (λ z. In (record { block = b; body = z }) (all_committed (commit_bodies t.revokes t.bodies r) ts).homes) (same_Set y x h) (rest y e)
    by Clear e h rest kept = absurd (clear≢set x h)
    by Keep e h rest kept = kept (commit_homes-body t r.homes b x h) e

-- ---- one after the other goes home

pub first_is_lowest : (r : LogRing) (hs : List Logged) (l : Logged) → IsRisingHomes hs → first_home (record r { homes = hs }) ≡ Some l → In l hs × ((h : Logged) → In h hs → l.block ≤ h.block)
first_is_lowest r [] l a e = absurd (none-some l e)
first_is_lowest r (x ∷ xs) l a e =
    let same = same_Some x l e in
    let block = ap (λ (z : Logged). z.block) same in
    (inl same, λ h i. ⊎_elim (λ d. let q = ap (λ (z : Logged). z.block) d in omega (arith, block, q)) (λ j. let less = a.0 h j in omega (arith, less, block)) i)

pub none_first : (r : LogRing) (hs : List Logged) → first_home (record r { homes = hs }) ≡ None → hs ≡ []
none_first r [] e = refl
none_first r (x ∷ xs) e = absurd (none-some x (sym e))

pub first_none : (r : LogRing) (hs : List Logged) → hs ≡ [] → first_home (record r { homes = hs }) ≡ None
first_none r hs e = ap (λ (l : List Logged). first_home (record r { homes = l })) e

pub In-home_sent : (r : LogRing) (hs : List Logged) (l h : Logged) → IsRisingHomes hs → first_home (record r { homes = hs }) ≡ Some l → In h (home_sent (record r { homes = hs })).homes → In h hs × (h.block ≢ l.block)
In-home_sent r [] l h a e i = absurd i
In-home_sent r (x ∷ xs) l h a e i =
    let block = ap (λ (z : Logged). z.block) (same_Some x l e) in
    let less = a.0 h i in
    (inr i, λ q. omega (arith, block, less, q))

pub home_sent-In : (r : LogRing) (hs : List Logged) (l h : Logged) → first_home (record r { homes = hs }) ≡ Some l → In h hs × (h.block ≢ l.block) → In h (home_sent (record r { homes = hs })).homes
home_sent-In r [] l h e i = absurd i.0
home_sent-In r (x ∷ xs) l h e i = ⊎_elim (λ d. absurd (i.1 (ap (λ (z : Logged). z.block) (sym d ∙ same_Some x l e)))) (λ j. j) i.0
