-- Which transactions have their commit block, once one more is known.
use Rattle.std.proofs.Common.{◌≡◌, ℕ, ◌+◌, ◌≤◌, ◌==◌, ◌&&◌, ◌||◌, ◌⊎◌, Bool, true, false, nat_lt, if◌then◌else◌, List, [], ◌∷◌, length, refl, sym, ap, ◌∙◌, inl, inr, arith, eq-eqb, eqb-true}
use Rattle.std.specs.Prelude.{◌≢◌}
use Rattle.std.proofs.Math.Bool.{or-false}
use Rattle.std.proofs.lemmas.Bool.{false≢true, ne_eqb, ltb-true, lt-ltb}
use Rattle.blk_base.specs.Members.{In}
use Rattle.blk_base.specs.laws.Members.{In-list_any, list_any-In, none-list_any}
use Rattle.flush_actor.specs.conflicts.Commits.{has_commit, is_committed, with_commit}
use Rattle.flush_actor.specs.declared.conflicts.commits.CommitBlock.{CommitBlock}
use Rattle.number_sets.specs.Keyed.{put_by}
use Rattle.number_sets.specs.laws.Keyed.{In-put_by, put_by-longer}

abbrev pub key_of : CommitBlock → ℕ
key_of c = c.transaction

abbrev pub commit_of : ℕ → ℕ → CommitBlock
commit_of k id = record { transaction = k; id = id }

or_swap : (a b : Bool) → (a || b) ≡ (b || a)
or_swap true true = refl
or_swap true false = refl
or_swap false true = refl
or_swap false false = refl

or_regroup : (a b c : Bool) → (a || (b || c)) ≡ ((a || b) || c)
or_regroup true b c = refl
or_regroup false b c = refl

committed_put : (cs : List CommitBlock) (k id n j : ℕ) → ((c : CommitBlock) → In c cs → c.transaction ≢ k)
    → is_committed n j (put_by key_of cs (commit_of k id)) ≡ (is_committed n j cs || (k == j && nat_lt id n))
committed_put [] k id n j none = or-false (k == j && nat_lt id n)
committed_put (c ∷ cs) k id n j none = rw (ne_eqb c.transaction k (none c (inl refl))) (by (nat_lt k c.transaction) (committed_put cs k id n j (λ d i. none d (inr i))))
  where
    by : (t : Bool) → is_committed n j (put_by key_of cs (commit_of k id)) ≡ (is_committed n j cs || (k == j && nat_lt id n))
        → is_committed n j (if t then commit_of k id ∷ c ∷ cs else c ∷ put_by key_of cs (commit_of k id)) ≡ (is_committed n j (c ∷ cs) || (k == j && nat_lt id n))
    by true rest = or_swap (k == j && nat_lt id n) (is_committed n j (c ∷ cs))
    by false rest = ap (λ t. (c.transaction == j && nat_lt c.id n) || t) rest ∙ or_regroup (c.transaction == j && nat_lt c.id n) (is_committed n j cs) (k == j && nat_lt id n)

and_parts : (a b : Bool) → (a && b) ≡ true → (a ≡ true) × (b ≡ true)
and_parts true true e = (refl, refl)
and_parts true false e = absurd (false≢true e)
and_parts false b e = absurd (false≢true e)

-- one more commit block is known, behind all others: a transaction has it if it had none
pub committed_more : (cs : List CommitBlock) (k id n j : ℕ) → ((c : CommitBlock) → In c cs → c.id ≤ id)
    → is_committed n j (with_commit k id cs) ≡ (is_committed n j cs || (k == j && nat_lt id n))
committed_more cs k id n j early = by (has_commit k cs) refl
  where
    old : (t : Bool) → (k == j && nat_lt id n) ≡ t → has_commit k cs ≡ true → is_committed n j cs ≡ (is_committed n j cs || t)
    old false e has = sym (or-false (is_committed n j cs))
    old true e has =
        let both = and_parts (k == j) (nat_lt id n) e in
        let c = In-list_any (λ (c : CommitBlock). c.transaction == k) cs has in
        let same : c.0.transaction ≡ j = eqb-true c.0.transaction k c.2 ∙ eqb-true k j both.0 in
        let less = ltb-true id n both.1 in
        let le = early c.0 c.1 in
        let there : is_committed n j cs ≡ true = list_any-In (λ (d : CommitBlock). d.transaction == j && nat_lt d.id n) cs c.0 c.1
        (rw (eq-eqb c.0.transaction j same) (lt-ltb c.0.id n (omega (arith, less, le)))) in
        there ∙ sym (ap (λ t. t || true) there)

    absent : has_commit k cs ≡ false → (c : CommitBlock) → In c cs → c.transaction ≢ k
    absent e c i d = false≢true (sym (none-list_any (λ (c : CommitBlock). c.transaction == k) cs c e i) ∙ eq-eqb c.transaction k d)

    by : (t : Bool) → has_commit k cs ≡ t → is_committed n j (if t then cs else put_by key_of cs (commit_of k id)) ≡ (is_committed n j cs || (k == j && nat_lt id n))
    by true e = old (k == j && nat_lt id n) refl e
    by false e = committed_put cs k id n j (absent e)

pub In-with_commit : (cs : List CommitBlock) (k id : ℕ) (c : CommitBlock) → In c (with_commit k id cs) → (commit_of k id ≡ c) ⊎ In c cs
In-with_commit cs k id c = by (has_commit k cs)
  where
    by : (t : Bool) → In c (if t then cs else put_by key_of cs (commit_of k id)) → (commit_of k id ≡ c) ⊎ In c cs
    by true i = inr i
    by false i = In-put_by key_of cs (commit_of k id) c i

pub with_commit-longer : (cs : List CommitBlock) (k id : ℕ) → length (with_commit k id cs) ≤ length cs + 1
with_commit-longer cs k id = by (has_commit k cs)
  where
    by : (t : Bool) → length (if t then cs else put_by key_of cs (commit_of k id)) ≤ length cs + 1
    by true = omega arith
    by false = put_by-longer key_of cs (commit_of k id)
