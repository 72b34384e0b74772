-- Laws of the table of revokes: a replay by it has what the marks say.
use Rattle.std.specs.Prelude.{◌≡◌, ℕ, ◌+◌, ◌≤◌, Bool, true, false, ◌||◌, if◌then◌else◌, List, [], ◌∷◌, ◌++◌, Option, Some, None, refl}
use Rattle.std.proofs.Common.{sym, ap, ◌∙◌, arith}
use Rattle.std.proofs.lemmas.Bool.{le-leb, lt-leb}
use Rattle.log_model.specs.Marks.{Transaction, mark_in, marked_body}
use Rattle.log_model.specs.LastLogged.{is_cancelled, bodies_of, uncancelled, last_of}
use Rattle.log_model.proofs.LastLogged.{mark-printed, append-none, last_of-append}
use Rattle.journal_replay.specs.Revokes.{is_revoked, later, last_revoke, cancels, or_else, replayed_by}

none_some : (k : ℕ) → ◌≡◌ {A = Option ℕ} None (Some k) → ⊥
none_some k e = cc

same_entry : (j k : ℕ) → ◌≡◌ {A = Option ℕ} (Some j) (Some k) → j ≡ k
same_entry j k e = cc

-- an entry is no earlier place
entry_first : (i : ℕ) (revoked : Bool) (k : ℕ) → (if revoked then Some i else None) ≡ Some k → i ≤ k
entry_first i true k e = let q = same_entry i k e in omega (arith, q)
entry_first i false k e = absurd (none_some k e)

entry_by : (i k : ℕ) (o : Option ℕ) (revoked : Bool) → ((j : ℕ) → o ≡ Some j → i + 1 ≤ j) → later o (if revoked then Some i else None) ≡ Some k → i ≤ k
entry_by i k None revoked ih e = entry_first i revoked k e
entry_by i k (Some j) revoked ih e = let q = same_entry j k e in let le = ih j refl in omega (arith, q, le)

pub entry_later : (i : ℕ) (ts : List Transaction) (b k : ℕ) → last_revoke i ts b ≡ Some k → i ≤ k
entry_later i [] b k e = absurd (none_some k e)
entry_later i (t ∷ ts) b k e = entry_by i k (last_revoke (i + 1) ts b) (is_revoked t.revokes b) (λ j f. entry_later (i + 1) ts b j f) e

-- the table of all transactions says of later places what that of the later ones says
cancels_by : (i j : ℕ) (o : Option ℕ) (revoked : Bool) → i + 1 ≤ j → cancels (later o (if revoked then Some i else None)) j ≡ cancels o j
cancels_by i j (Some k) revoked le = refl
cancels_by i j None true le = lt-leb j i (omega arith)
cancels_by i j None false le = refl

-- and it says what is cancelled
is_by : (i : ℕ) (o : Option ℕ) (revoked later_on : Bool) → ((j : ℕ) → o ≡ Some j → i + 1 ≤ j) → cancels o (i + 1) ≡ later_on → cancels (later o (if revoked then Some i else None)) i ≡ (revoked || later_on)
is_by i (Some k) true later_on ih e = let le = ih k refl in le-leb i k (omega arith)
is_by i (Some k) false later_on ih e = let le = ih k refl in le-leb i k (omega arith) ∙ (sym (le-leb (i + 1) k le) ∙ e)
is_by i None true later_on ih e = le-leb i i (omega arith)
is_by i None false later_on ih e = e

pub cancels-is : (i : ℕ) (ts : List Transaction) (b : ℕ) → cancels (last_revoke i ts b) i ≡ is_cancelled ts b
cancels-is i [] b = refl
cancels-is i (t ∷ ts) b = is_by i (last_revoke (i + 1) ts b) (is_revoked t.revokes b) (is_cancelled ts b) (λ j f. entry_later (i + 1) ts b j f) (cancels-is (i + 1) ts b)

or_none : (o : Option (List ℕ)) → or_else o None ≡ o
or_none None = refl
or_none (Some x) = refl

last_append : (x : List ℕ) (xs ys : List (List ℕ)) (h : Option (List ℕ)) → last_of ys ≡ None → or_else (last_of (x ∷ xs)) h ≡ or_else (last_of (x ∷ (xs ++ ys))) h
last_append x xs ys h e = ap (λ zs. or_else (last_of (x ∷ zs)) h) (sym (append-none xs ys e))

or_by : (x : List ℕ) (xs ys : List (List ℕ)) (h : Option (List ℕ)) (o : Option (List ℕ)) → last_of ys ≡ o → or_else o (or_else (last_of (x ∷ xs)) h) ≡ or_else (last_of (x ∷ (xs ++ ys))) h
or_by x xs ys h None e = last_append x xs ys h e
or_by x xs ys h (Some y) e = ap (λ (o : Option (List ℕ)). or_else o h) (sym (last_of-append (x ∷ xs) ys y e))

or_else-append : (xs ys : List (List ℕ)) (h : Option (List ℕ)) → or_else (last_of ys) (or_else (last_of xs) h) ≡ or_else (last_of (xs ++ ys)) h
or_else-append [] ys h = refl
or_else-append (x ∷ xs) ys h = or_by x xs ys h (last_of ys) refl

front_by : (stop : Bool) (xs ys : List (List ℕ)) (h : Option (List ℕ)) → or_else (last_of ys) (if stop then h else or_else (last_of xs) h) ≡ or_else (last_of ((if stop then [] else xs) ++ ys)) h
front_by true xs ys h = refl
front_by false xs ys h = or_else-append xs ys h

replayed-by : (r : Option ℕ) (i : ℕ) (ts : List Transaction) (b : ℕ) (h : Option (List ℕ)) → ((j : ℕ) → i ≤ j → cancels r j ≡ cancels (last_revoke i ts b) j) → replayed_by r i ts b h ≡ or_else (last_of (uncancelled ts b)) h
replayed-by r i [] b h same = refl
replayed-by r i (t ∷ ts) b h same =
    let here = same i (omega arith) ∙ cancels-is i (t ∷ ts) b in
    replayed-by r (i + 1) ts b (if cancels r i then h else or_else (last_of (bodies_of t.bodies b)) h)
    (λ j le. same j (omega arith) ∙ cancels_by i j (last_revoke (i + 1) ts b) (is_revoked t.revokes b) le)
    ∙ (ap (λ (stop : Bool). or_else (last_of (uncancelled ts b)) (if stop then h else or_else (last_of (bodies_of t.bodies b)) h)) here
    ∙ front_by (is_cancelled (t ∷ ts) b) (bodies_of t.bodies b) (uncancelled ts b) h)

-- A replay by the table has for each block what the marks say.
pub replayed-is : (ts : List Transaction) (b : ℕ) → replayed_by (last_revoke 0 ts b) 0 ts b None ≡ marked_body (mark_in ts b)
replayed-is ts b = replayed-by (last_revoke 0 ts b) 0 ts b None (λ j le. refl) ∙ (or_none (last_of (uncancelled ts b)) ∙ sym (mark-printed ts b))
