-- Commit blocks among notes, and the last put.
use Rattle.std.specs.Prelude.{◌≡◌, ◌⊎◌, ℕ, zero, suc, ◌+◌, ◌<◌, ◌≤◌, ◌==◌, ◌&&◌, nat_lt, Bool, true, false, List, [], ◌∷◌, Option, Some, None, slice_get, refl, if◌then◌else◌}
use Rattle.std.proofs.Common.{sym, ap, subst, ◌∙◌, inl, inr, ⊎_elim, arith}
use Rattle.std.proofs.lemmas.Bool.{or_cases, or_right, and_parts, false≢true, eq-eqb, eqb-true, lt-ltb, ltb-true}
use Rattle.std.proofs.lemmas.Option.{none-some, same_Some}
use Rattle.order_model.specs.declared.note.Note.TheVariants as notes
use Rattle.order_model.specs.declared.note.Note.{Note}
use Rattle.flush_actor.specs.Part.{is_flush_note, last_put}
use Rattle.flush_actor.specs.Steps.{commits_before}

-- ---- commit blocks among notes

abbrev number_of : Note → ℕ
number_of (notes.Commit k) = k
number_of other = 0

-- one commit block is that of one transaction
pub same_number : (k j : ℕ) → notes.Commit k ≡ notes.Commit j → k ≡ j
same_number k j e = ap number_of e

further_before : (k f i : ℕ) (n : Note) (ns : List Note) → commits_before k f (i + 1) ns ≡ true → commits_before k f i (n ∷ ns) ≡ true
further_before k f i (notes.Commit t) ns e = or_right (t == k && nat_lt i f) _ e
further_before k f i (notes.Page g j c) ns e = e
further_before k f i notes.Super ns e = e
further_before k f i (notes.Revoke t) ns e = e
further_before k f i (notes.Descriptor t) ns e = e
further_before k f i (notes.Body t b) ns e = e
further_before k f i (notes.Home b) ns e = e
further_before k f i notes.Flush ns e = e
further_before k f i notes.Raw ns e = e

-- a commit block that stands before request f
pub commit_before : (k f i c : ℕ) (ns : List Note) → slice_get ns c ≡ Some (notes.Commit k) → i + c < f → commits_before k f i ns ≡ true
commit_before k f i c [] e low = absurd (none-some (notes.Commit k) e)
commit_before k f i zero (n ∷ ns) e low = subst (λ n. commits_before k f i (n ∷ ns) ≡ true) (sym (same_Some n (notes.Commit k) e)) (rw (eq-eqb k k refl, lt-ltb i f (omega (arith, low))) refl)
commit_before k f i (suc c) (n ∷ ns) e low = further_before k f i n ns (commit_before k f (i + 1) c ns e (omega (arith, low)))

-- where it stands
abbrev StandsBefore : ℕ → ℕ → ℕ → List Note → Type 0
StandsBefore k f i ns = (c : ℕ) × (slice_get ns c ≡ Some (notes.Commit k)) × (i + c < f)

one_further : (k f i : ℕ) (n : Note) (ns : List Note) → StandsBefore k f (i + 1) ns → StandsBefore k f i (n ∷ ns)
one_further k f i n ns r = (suc r.0, r.1, let low = r.2 in omega (arith, low))

pub before_commit : (k f i : ℕ) (ns : List Note) → commits_before k f i ns ≡ true → StandsBefore k f i ns
before_commit k f i [] e = absurd (false≢true e)
before_commit k f i (notes.Commit t ∷ ns) e =
    ⊎_elim
    (λ here. let both = and_parts (t == k) (nat_lt i f) here in let low = ltb-true i f both.1 in (0, ap (λ t. Some (notes.Commit t)) (eqb-true t k both.0), omega (arith, low)))
    (λ later. one_further k f i (notes.Commit t) ns (before_commit k f (i + 1) ns later))
    (or_cases (t == k && nat_lt i f) (commits_before k f (i + 1) ns) e)
before_commit k f i (notes.Page g j c ∷ ns) e = one_further k f i _ ns (before_commit k f (i + 1) ns e)
before_commit k f i (notes.Super ∷ ns) e = one_further k f i _ ns (before_commit k f (i + 1) ns e)
before_commit k f i (notes.Revoke t ∷ ns) e = one_further k f i _ ns (before_commit k f (i + 1) ns e)
before_commit k f i (notes.Descriptor t ∷ ns) e = one_further k f i _ ns (before_commit k f (i + 1) ns e)
before_commit k f i (notes.Body t b ∷ ns) e = one_further k f i _ ns (before_commit k f (i + 1) ns e)
before_commit k f i (notes.Home b ∷ ns) e = one_further k f i _ ns (before_commit k f (i + 1) ns e)
before_commit k f i (notes.Flush ∷ ns) e = one_further k f i _ ns (before_commit k f (i + 1) ns e)
before_commit k f i (notes.Raw ∷ ns) e = one_further k f i _ ns (before_commit k f (i + 1) ns e)

-- ---- the last put

-- a put at place id, where the first note is that of request i
abbrev IsPutFrom : ℕ → List Note → ℕ → Type 0
IsPutFrom i ns id = (c : ℕ) × (n : Note) × (i + c ≡ id) × (slice_get ns c ≡ Some n) × (is_flush_note n ≡ false)

last_from : (i id : ℕ) (ns : List Note) (last : Option ℕ) → last_put i ns last ≡ Some id → (last ≡ Some id) ⊎ IsPutFrom i ns id
last_from i id [] last e = inl e
last_from i id (n ∷ ns) last e = by (is_flush_note n) refl (last_from (i + 1) id ns (if is_flush_note n then last else Some i) e)
  where
    by : (t : Bool) → is_flush_note n ≡ t → ((if t then last else Some i) ≡ Some id) ⊎ IsPutFrom (i + 1) ns id → (last ≡ Some id) ⊎ IsPutFrom i (n ∷ ns) id
    by t is (inr p) = inr (suc p.0, p.1, let at = p.2 in omega (arith, at), p.3, p.4)
    by true is (inl same) = inl same
    by false is (inl same) = inr (0, n, let at : i ≡ id = same_Some i id same in omega (arith, at), refl, is)

pub last_is : (ns : List Note) (id : ℕ) → last_put 0 ns None ≡ Some id → (n : Note) × (slice_get ns id ≡ Some n) × (is_flush_note n ≡ false)
last_is ns id e = ⊎_elim (λ none. absurd (none-some id none)) (λ p. (p.1, subst (λ c. slice_get ns c ≡ Some p.1) (let at = p.2 in let same : p.0 ≡ id = omega (arith, at) in same) p.3, p.4)) (last_from 0 id ns None e)

later_last : (i j : ℕ) (ns : List Note) → j ≤ i → (id : ℕ) × (last_put i ns (Some j) ≡ Some id) × (j ≤ id)
later_last i j [] low = (j, refl, omega arith)
later_last i j (n ∷ ns) low = by (is_flush_note n) (later_last (i + 1) j ns (omega (arith, low))) (later_last (i + 1) i ns (omega arith))
  where
    by : (t : Bool) → (id : ℕ) × (last_put (i + 1) ns (Some j) ≡ Some id) × (j ≤ id) → (id : ℕ) × (last_put (i + 1) ns (Some i) ≡ Some id) × (i ≤ id) → (id : ℕ) × (last_put (i + 1) ns (if t then Some j else Some i) ≡ Some id) × (j ≤ id)
    by true kept now = kept
    by false kept now = (now.0, now.1, let high = now.2 in omega (arith, low, high))

-- the last put is at or behind each put
pub last_behind : (i c : ℕ) (n : Note) (ns : List Note) (last : Option ℕ) → slice_get ns c ≡ Some n → is_flush_note n ≡ false → (id : ℕ) × (last_put i ns last ≡ Some id) × (i + c ≤ id)
last_behind i c n [] last e put = absurd (none-some n e)
last_behind i zero n (m ∷ ns) last e put =
    let r = later_last (i + 1) i ns (omega arith) in
    let is : is_flush_note m ≡ false = ap is_flush_note (same_Some m n e) ∙ put in
    (r.0, ap (λ t. last_put (i + 1) ns (if t then last else Some i)) is ∙ r.1, let high = r.2 in omega (arith, high))
last_behind i (suc c) n (m ∷ ns) last e put =
    let r = last_behind (i + 1) c n ns (if is_flush_note m then last else Some i) e put in
    (r.0, r.1, let high = r.2 in omega (arith, high))
