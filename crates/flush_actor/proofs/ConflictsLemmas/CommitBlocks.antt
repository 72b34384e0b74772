-- Commit blocks of transactions, at each step of the code.
use Rattle.std.proofs.Common.{◌≡◌, ℕ, ◌<◌, ◌==◌, ◌&&◌, Bool, true, false, nat_lt, List, [], ◌∷◌, length, Some, Ok, Err, Result, refl, sym, ap, subst, ◌∙◌, inl, inr, arith, eq-eqb, if◌then◌else◌}
use Rattle.std.specs.List.{slice_get, insert}
use Rattle.std.specs.Prelude.{◌≢◌, is_ok}
use Rattle.std.proofs.Math.Bool.{or-false}
use Rattle.std.proofs.lemmas.Bool.{ne_eqb}
use Rattle.std.proofs.lemmas.Option.{same_Some}
use Rattle.blk_base.specs.Members.{In, IsAscending}
use Rattle.blk_base.specs.laws.Members.{slice_get-In, list_any-In, list_any-none}
use Rattle.flush_actor.specs.conflicts.Commits.{has_commit, is_committed, with_commit}
use Rattle.flush_actor.specs.conflicts.code.Table.{IsCommitTable}
use Rattle.flush_actor.specs.conflicts.laws.CommitBlocks.{key_of, with_commit-longer}
use Rattle.flush_actor.specs.declared.conflicts.commits.CommitBlock.{CommitBlock}
use Rattle.number_sets.specs.Keyed.{put_by}
use Rattle.number_sets.specs.laws.Keyed.{IsKeyPlace, KeyStandsAt, KeyBelongsAt, ascending-put_by}

pub commit_there : (cs : List CommitBlock) (k : ℕ) (r : Result ℕ ℕ) → IsKeyPlace key_of cs k r → is_ok r ≡ has_commit k cs
commit_there cs k (Ok at) p = sym (list_any-In (λ (c : CommitBlock). c.transaction == k) cs p.here (slice_get-In cs at p.here p.read) (eq-eqb p.here.transaction k p.same))
commit_there cs k (Err at) p = sym (list_any-none (λ (c : CommitBlock). c.transaction == k) cs (λ c i. ne_eqb c.transaction k (p.none c i)))

-- the one that stands there tells
pub committed_there : (cs : List CommitBlock) (k id : ℕ) (x : CommitBlock) → IsAscending key_of cs → In x cs → x.transaction ≡ k → is_committed id k cs ≡ nat_lt x.id id
committed_there [] k id x a i e = absurd i
committed_there (c ∷ cs) k id x a (inl same) e =
    let here : (c.transaction == k) ≡ true = eq-eqb c.transaction k (ap key_of same ∙ e) in
    let none : is_committed id k cs ≡ false = list_any-none (λ (d : CommitBlock). d.transaction == k && nat_lt d.id id) cs
    (λ d i. let less = a.0 d i in let is = ap key_of same in rw (ne_eqb d.transaction k (λ q. omega (arith, less, is, e, q))) refl) in
    rw here (rw none (or-false (nat_lt c.id id) ∙ ap (λ (d : CommitBlock). nat_lt d.id id) same))
committed_there (c ∷ cs) k id x a (inr i) e =
    let less = a.0 x i in
    rw (ne_eqb c.transaction k (λ q. omega (arith, less, e, q))) (committed_there cs k id x a.1 i e)

pub committed_none : (cs : List CommitBlock) (k id : ℕ) → ((c : CommitBlock) → In c cs → c.transaction ≢ k) → is_committed id k cs ≡ false
committed_none cs k id n = list_any-none (λ (c : CommitBlock). c.transaction == k && nat_lt c.id id) cs (λ c i. rw (ne_eqb c.transaction k (n c i)) refl)

pub found_before : (cs : List CommitBlock) (k id at : ℕ) (x : CommitBlock) → IsAscending key_of cs → KeyStandsAt key_of cs k at → slice_get cs at ≡ Some x → nat_lt x.id id ≡ is_committed id k cs
found_before cs k id at x a p e = sym (committed_there cs k id x a (slice_get-In cs at x e) (ap key_of (same_Some x p.here (sym e ∙ p.read)) ∙ p.same))

-- a commit block comes in where none is known
pub commit_new : (cs : List CommitBlock) (k id at : ℕ) → KeyBelongsAt key_of cs k at → with_commit k id cs ≡ insert cs at (record { transaction = k; id = id })
commit_new cs k id at p = rw (sym (commit_there cs k (Err at) p)) (p.put (record { transaction = k; id = id }) refl)

pub commit_old : (cs : List CommitBlock) (k id at : ℕ) → KeyStandsAt key_of cs k at → with_commit k id cs ≡ cs
commit_old cs k id at p = rw (sym (commit_there cs k (Ok at) p)) refl

pub commits_rise : (cs : List CommitBlock) (k id : ℕ) → IsAscending key_of cs → IsAscending key_of (with_commit k id cs)
commits_rise cs k id a = by (has_commit k cs)
  where
    by : (t : Bool) → IsAscending key_of (if t then cs else put_by key_of cs (record { transaction = k; id = id }))
    by true = a
    by false = ascending-put_by key_of cs (record { transaction = k; id = id }) a

pub table_noted : (room : ℕ) (cs new : List CommitBlock) (n k id : ℕ) → IsCommitTable room cs n → length cs < room → new ≡ with_commit k id cs → IsCommitTable room new n
table_noted room cs new n k id t less e =
    let more = with_commit-longer cs k id in
    let size = ap length e in
    record { rising = subst (IsAscending key_of) (sym e) (commits_rise cs k id t.rising); few = omega (arith, less, more, size); reserved = t.reserved }
