-- Laws of marks and of ranges of transactions.
use Rattle.std.specs.Prelude.{◌≡◌, ◌≢◌, ℕ, zero, suc, ◌+◌, ◌<◌, ◌≤◌, ◌==◌, Bool, true, false, List, [], ◌∷◌, ◌++◌, ◌⊎◌, Some, None, if◌then◌else◌, refl}
use Rattle.std.specs.List.{list_any}
use Rattle.std.proofs.Common.{sym, ap, subst, ◌∙◌, inl, inr, ⊎_elim, arith, append_assoc, append-nil}
use Rattle.std.proofs.lemmas.Bool.{eqb-true}
use Rattle.std.proofs.lemmas.Option.{same_Some}
use Rattle.blk_base.specs.Members.{In}
use Rattle.blk_base.specs.laws.Members.{In-append_cases, In-list_any}
use Rattle.log_model.specs.Marks.{Mark, Keep, Clear, Set, followed, Logged, Transaction, bodies_mark, transaction_mark, mark_in, marked_body, body_after, replayed, transactions_from}

-- ---- marks

pub keep-followed : (n : Mark) → followed Keep n ≡ n
keep-followed Keep = refl
keep-followed Clear = refl
keep-followed (Set x) = refl

pub followed_assoc : (l m n : Mark) → followed (followed l m) n ≡ followed l (followed m n)
followed_assoc l m Keep = refl
followed_assoc l m Clear = refl
followed_assoc l m (Set x) = refl

pub same_Set : (x y : List ℕ) → Set x ≡ Set y → x ≡ y
same_Set x y h = cc

pub keep≢set : (x : List ℕ) → Keep ≡ Set x → ⊥
keep≢set x h = cc

pub keep≢clear : ◌≡◌ {A = Mark} Keep Clear → ⊥
keep≢clear h = cc

pub clear≢set : (x : List ℕ) → Clear ≡ Set x → ⊥
clear≢set x h = cc

pub followed-keep : (m n : Mark) → followed m n ≡ Keep → (m ≡ Keep) × (n ≡ Keep)
followed-keep m Keep h = (h, refl)
followed-keep m Clear h = absurd (let k : ⊥ = cc in k)
followed-keep m (Set x) h = absurd (let k : ⊥ = cc in k)

pub followed-clear : (m n : Mark) → followed m n ≡ Clear → (m ≡ Clear) ⊎ (n ≡ Clear)
followed-clear m Keep h = inl h
followed-clear m Clear h = inr refl
followed-clear m (Set x) h = absurd (let k : ⊥ = cc in k)

-- ---- one transaction

pub bodies≢clear : (ls : List Logged) (b : ℕ) → bodies_mark ls b ≡ Clear → ⊥
bodies≢clear [] b h = let k : ⊥ = cc in k
bodies≢clear (l ∷ ls) b h =
    ⊎_elim (first (l.block == b)) (bodies≢clear ls b)
    (followed-clear (if l.block == b then Set l.body else Keep) (bodies_mark ls b) h)
  where
    first : (t : Bool) → (if t then Set l.body else Keep) ≡ Clear → ⊥
    first true e = let k : ⊥ = cc in k
    first false e = let k : ⊥ = cc in k

revoked : (t : Bool) (m : Mark) → (m ≡ Clear → ⊥) → followed m (if t then Clear else Keep) ≡ Clear → t ≡ true
revoked true m n h = refl
revoked false m n h = absurd (n h)

-- it cancels only where it revokes
pub transaction_mark-clear : (t : Transaction) (b : ℕ) → transaction_mark t b ≡ Clear → In b t.revokes
transaction_mark-clear t b h =
    let any = revoked (list_any (λ r. r == b) t.revokes) (bodies_mark t.bodies b) (bodies≢clear t.bodies b) h in
    let one = In-list_any (λ r. r == b) t.revokes any in
    subst (λ r. In r t.revokes) (eqb-true one.0 b one.2) one.1

-- ---- transactions one after the other

pub mark_in-append : (xs ys : List Transaction) (b : ℕ) → mark_in (xs ++ ys) b ≡ followed (mark_in xs b) (mark_in ys b)
mark_in-append [] ys b = sym (keep-followed (mark_in ys b))
mark_in-append (t ∷ xs) ys b =
    ap (followed (transaction_mark t b)) (mark_in-append xs ys b) ∙ sym (followed_assoc (transaction_mark t b) (mark_in xs b) (mark_in ys b))

pub mark_in-clear : (txs : List Transaction) (b : ℕ) → mark_in txs b ≡ Clear → (t : Transaction) × In t txs × In b t.revokes
mark_in-clear [] b h = absurd (let k : ⊥ = cc in k)
mark_in-clear (t ∷ ts) b h =
    ⊎_elim
    (λ here. (t, inl refl, transaction_mark-clear t b here))
    (λ rest. let i = mark_in-clear ts b rest in (i.0, inr i.1, i.2))
    (followed-clear (transaction_mark t b) (mark_in ts b) h)

-- ---- ranges by number

pub transactions_from-split : (tx : ℕ → Transaction) (first n m : ℕ) → transactions_from tx first (n + m) ≡ transactions_from tx first n ++ transactions_from tx (first + n) m
transactions_from-split tx first n zero =
    let e : n + zero ≡ n = omega arith in
    ap (transactions_from tx first) e ∙ sym (append-nil (transactions_from tx first n))
transactions_from-split tx first n (suc m) =
    let e : n + suc m ≡ suc (n + m) = omega arith in
    let f : first + (n + m) ≡ first + n + m = omega arith in
    ap (transactions_from tx first) e
    ∙ ap (λ xs. xs ++ tx (first + (n + m)) ∷ []) (transactions_from-split tx first n m)
    ∙ append_assoc (transactions_from tx first n) (transactions_from tx (first + n) m) (tx (first + (n + m)) ∷ [])
    ∙ ap (λ k. transactions_from tx first n ++ (transactions_from tx (first + n) m ++ tx k ∷ [])) f

pub In-transactions_from : (tx : ℕ → Transaction) (first n : ℕ) (t : Transaction) → In t (transactions_from tx first n) → (k : ℕ) × (first ≤ k) × (k < first + n) × (tx k ≡ t)
In-transactions_from tx first zero t h = absurd h
In-transactions_from tx first (suc n) t h =
    ⊎_elim
    (λ l. let i = In-transactions_from tx first n t l in let lt = i.2 in (i.0, i.1, omega arith, i.3))
    (λ r. ⊎_elim (λ e. (first + n, omega arith, omega arith, e)) (λ no. absurd no) r)
    (In-append_cases (transactions_from tx first n) (tx (first + n) ∷ []) t h)

-- what transactions 1 to n + m say is what those to n say, and then those behind
pub mark-split : (tx : ℕ → Transaction) (n m b : ℕ) → mark_in (transactions_from tx 1 (n + m)) b ≡ followed (mark_in (transactions_from tx 1 n) b) (mark_in (transactions_from tx (1 + n) m) b)
mark-split tx n m b =
    ap (λ txs. mark_in txs b) (transactions_from-split tx 1 n m) ∙ mark_in-append (transactions_from tx 1 n) (transactions_from tx (1 + n) m) b

-- a block of which a range says nothing, none of its beginnings says anything of
pub mark-keep_before : (tx : ℕ → Transaction) (first n m b : ℕ) → mark_in (transactions_from tx first (n + m)) b ≡ Keep → mark_in (transactions_from tx first n) b ≡ Keep
mark-keep_before tx first n m b h =
    (followed-keep (mark_in (transactions_from tx first n) b) (mark_in (transactions_from tx (first + n) m) b)
    (sym (ap (λ txs. mark_in txs b) (transactions_from-split tx first n m) ∙ mark_in-append (transactions_from tx first n) (transactions_from tx (first + n) m) b) ∙ h)).0

-- a revoke by a transaction of the range
pub mark-clear : (tx : ℕ → Transaction) (first n b : ℕ) → mark_in (transactions_from tx first n) b ≡ Clear → (k : ℕ) × (first ≤ k) × (k < first + n) × In b (tx k).revokes
mark-clear tx first n b h =
    let t = mark_in-clear (transactions_from tx first n) b h in
    let k = In-transactions_from tx first n t.0 t.1 in
    (k.0, k.1, k.2, subst (λ (u : Transaction). In b u.revokes) (sym k.3) t.2)

-- ---- images

-- marks of which the later one cancels nothing may be put onto an image one after the other
body_after-followed : (m n : Mark) (old : List ℕ) → n ≢ Clear → body_after (followed m n) old ≡ body_after n (body_after m old)
body_after-followed m Keep old other = refl
body_after-followed m Clear old other = absurd (other refl)
body_after-followed m (Set x) old other = refl

pub replayed-append : (xs ys : List Transaction) (disk : ℕ → List ℕ) (b : ℕ) → mark_in ys b ≢ Clear → replayed (xs ++ ys) disk b ≡ replayed ys (replayed xs disk) b
replayed-append xs ys disk b other =
    ap (λ m. body_after m (disk b)) (mark_in-append xs ys b) ∙ body_after-followed (mark_in xs b) (mark_in ys b) (disk b) other

-- a body that was put in place already may be put there again
body_after-again : (m : Mark) (old now : List ℕ) → (now ≡ old) ⊎ (now ≡ body_after m old) → body_after m now ≡ body_after m old
body_after-again Keep old now (inl e) = e
body_after-again Keep old now (inr e) = e
body_after-again Clear old now (inl e) = e
body_after-again Clear old now (inr e) = e
body_after-again (Set x) old now h = refl

pub replayed-again : (txs : List Transaction) (disk now : ℕ → List ℕ) (b : ℕ) → (now b ≡ disk b) ⊎ (now b ≡ replayed txs disk b) → replayed txs now b ≡ replayed txs disk b
replayed-again txs disk now b h = body_after-again (mark_in txs b) (disk b) (now b) h

-- a block that no transaction has a body of stays as it is
body_after-none : (m : Mark) (old : List ℕ) → marked_body m ≡ None → body_after m old ≡ old
body_after-none Keep old e = refl
body_after-none Clear old e = refl
body_after-none (Set x) old e = absurd (let k : ⊥ = cc in k)

pub replayed-unmarked : (txs : List Transaction) (disk : ℕ → List ℕ) (b : ℕ) → marked_body (mark_in txs b) ≡ None → replayed txs disk b ≡ disk b
replayed-unmarked txs disk b e = body_after-none (mark_in txs b) (disk b) e

body_after-some : (m : Mark) (x old : List ℕ) → marked_body m ≡ Some x → body_after m old ≡ x
body_after-some Keep x old e = absurd (let k : ⊥ = cc in k)
body_after-some Clear x old e = absurd (let k : ⊥ = cc in k)
body_after-some (Set y) x old e = same_Some y x e

pub replayed-marked : (txs : List Transaction) (disk : ℕ → List ℕ) (b : ℕ) (x : List ℕ) → marked_body (mark_in txs b) ≡ Some x → replayed txs disk b ≡ x
replayed-marked txs disk b x e = body_after-some (mark_in txs b) x (disk b) e
