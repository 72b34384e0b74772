-- What is kept of the notes, when one more comes.
use Rattle.std.proofs.Common.{◌≡◌, ℕ, ◌+◌, ◌<◌, ◌≤◌, ◌==◌, ◌&&◌, ◌||◌, Bool, true, false, nat_lt, if◌then◌else◌, List, [], ◌∷◌, ◌++◌, length, length-append, Option, Some, None, IfSome, refl, sym, ap, subst, ◌∙◌, ⊎_elim, arith, tests}
use Rattle.std.proofs.Math.Bool.{or-false}
use Rattle.std.proofs.lemmas.Option.{none-some, same_Some}
use Rattle.order_model.specs.declared.note.Note.TheVariants as notes
use Rattle.order_model.specs.declared.note.Note.{Note}
use Rattle.order_model.specs.declared.request.Request.{Request}
use Rattle.blk_base.specs.Members.{In}
use Rattle.flush_actor.specs.conflicts.Commits.{CommitTable, is_committed, with_commits}
use Rattle.flush_actor.specs.declared.conflicts.commits.CommitBlock.{CommitBlock}
use Rattle.flush_actor.specs.conflicts.laws.CommitBlocks.{committed_more, In-with_commit, with_commit-longer}
use Rattle.flush_actor.specs.Part.{is_flush_note, flush_above, last_put}
use Rattle.flush_actor.specs.Steps.{commits_before}
use Rattle.flush_actor.specs.code.Fields.{IsSubmission}
use Rattle.flush_actor.specs.code.Summary.{is_above, flush_with, put_with, commits_with}

or_regroup : (a b c : Bool) → (a || (b || c)) ≡ ((a || b) || c)
or_regroup true b c = refl
or_regroup false b c = refl

-- ---- one note more

above-push : (id i p : ℕ) (ns : List Note) (n : Note) → p ≡ i + length ns → flush_above id i (ns ++ n ∷ []) ≡ (flush_above id i ns || (is_flush_note n && nat_lt id p))
above-push id i p [] n e =
    let same : i ≡ p = omega (arith, e) in
    or-false (is_flush_note n && nat_lt id i) ∙ ap (λ q. is_flush_note n && nat_lt id q) same
above-push id i p (m ∷ ns) n e =
    ap (λ t. (is_flush_note m && nat_lt id i) || t) (above-push id (i + 1) p ns n (omega (arith, e)))
    ∙ or_regroup (is_flush_note m && nat_lt id i) (flush_above id (i + 1) ns) (is_flush_note n && nat_lt id p)

put-push : (i p : ℕ) (ns : List Note) (n : Note) (last : Option ℕ) → p ≡ i + length ns → last_put i (ns ++ n ∷ []) last ≡ put_with (last_put i ns last) n p
put-push i p [] n last e = let same : i ≡ p = omega (arith, e) in ap (put_with last n) same
put-push i p (m ∷ ns) n last e = put-push (i + 1) p ns n (if is_flush_note m then last else Some i) (omega (arith, e))

-- request i, with this note, is the commit block of transaction k, before request id
abbrev is_commit : ℕ → ℕ → ℕ → Note → Bool
is_commit k id i (notes.Commit t) = t == k && nat_lt i id
is_commit k id i other = false

commits-cons : (k id i : ℕ) (n : Note) (ns : List Note) → commits_before k id i (n ∷ ns) ≡ (is_commit k id i n || commits_before k id (i + 1) ns)
commits-cons k id i (notes.Commit t) ns = refl
commits-cons k id i (notes.Page f j c) ns = refl
commits-cons k id i notes.Super ns = refl
commits-cons k id i (notes.Revoke t) ns = refl
commits-cons k id i (notes.Descriptor t) ns = refl
commits-cons k id i (notes.Body t b) ns = refl
commits-cons k id i (notes.Home b) ns = refl
commits-cons k id i notes.Flush ns = refl
commits-cons k id i notes.Raw ns = refl

commits-push : (k id i p : ℕ) (ns : List Note) (n : Note) → p ≡ i + length ns → commits_before k id i (ns ++ n ∷ []) ≡ (commits_before k id i ns || is_commit k id p n)
commits-push k id i p [] n e =
    let same : i ≡ p = omega (arith, e) in
    commits-cons k id i n [] ∙ or-false (is_commit k id i n) ∙ ap (λ q. is_commit k id q n) same
commits-push k id i p (m ∷ ns) n e =
    commits-cons k id i m (ns ++ n ∷ [])
    ∙ ap (λ t. is_commit k id i m || t) (commits-push k id (i + 1) p ns n (omega (arith, e)))
    ∙ or_regroup (is_commit k id i m) (commits_before k id (i + 1) ns) (is_commit k id p n)
    ∙ ap (λ t. t || is_commit k id p n) (sym (commits-cons k id i m ns))

-- ---- what is kept

-- a number that is greater than the last one
above_more : (last : Option ℕ) (id n : ℕ) → ((m : ℕ) → last ≡ Some m → m < n) → nat_lt id n ≡ (is_above id last || nat_lt id n)
above_more None id n h = refl
above_more (Some m) id n h = let less = h m refl in grind (arith, tests)

flush_kept : (last : Option ℕ) (ns : List Note) (n : Note) (id : ℕ) → is_above id last ≡ flush_above id 0 ns → ((m : ℕ) → last ≡ Some m → m < length ns)
    → is_above id (flush_with last n (length ns)) ≡ flush_above id 0 (ns ++ n ∷ [])
flush_kept last ns n id e h = by (is_flush_note n) refl ∙ sym (above-push id 0 (length ns) ns n (omega arith))
  where
    by : (t : Bool) → is_flush_note n ≡ t → is_above id (if t then Some (length ns) else last) ≡ (flush_above id 0 ns || (t && nat_lt id (length ns)))
    by true is = above_more last id (length ns) h ∙ ap (λ t. t || nat_lt id (length ns)) e
    by false is = e ∙ sym (or-false (flush_above id 0 ns))

flush_early : (last : Option ℕ) (n : Note) (size : ℕ) → ((m : ℕ) → last ≡ Some m → m < size) → (m : ℕ) → flush_with last n size ≡ Some m → m < size + 1
flush_early last n size h m = by (is_flush_note n)
  where
    by : (t : Bool) → (if t then Some size else last) ≡ Some m → m < size + 1
    by true e = let same = same_Some size m e in omega (arith, same)
    by false e = let less = h m e in omega (arith, less)

commits_kept : (cs : List CommitBlock) (ns : List Note) (n : Note) (k id : ℕ) → is_committed id k cs ≡ commits_before k id 0 ns → ((c : CommitBlock) → In c cs → c.id < length ns)
    → is_committed id k (commits_with cs n (length ns)) ≡ commits_before k id 0 (ns ++ n ∷ [])
commits_kept cs ns n k id e h = by n ∙ sym (commits-push k id 0 (length ns) ns n (omega arith))
  where
    other : is_committed id k cs ≡ (commits_before k id 0 ns || false)
    other = e ∙ sym (or-false (commits_before k id 0 ns))

    by : (n : Note) → is_committed id k (commits_with cs n (length ns)) ≡ (commits_before k id 0 ns || is_commit k id (length ns) n)
    by (notes.Commit t) = committed_more cs t (length ns) id k (λ c i. let less = h c i in omega (arith, less)) ∙ ap (λ u. u || (t == k && nat_lt (length ns) id)) e
    by (notes.Page f j c) = other
    by notes.Super = other
    by (notes.Revoke t) = other
    by (notes.Descriptor t) = other
    by (notes.Body t b) = other
    by (notes.Home b) = other
    by notes.Flush = other
    by notes.Raw = other

abbrev Within : List CommitBlock → ℕ → Type 0
Within cs size = ((c : CommitBlock) → In c cs → c.id < size) × (length cs ≤ size)

commits_early : (cs : List CommitBlock) (n : Note) (size : ℕ) → Within cs size → Within (commits_with cs n size) (size + 1)
commits_early cs n size h = by n
  where
    other : Within cs (size + 1)
    other = (λ c i. let less = h.0 c i in omega (arith, less), let few = h.1 in omega (arith, few))

    by : (n : Note) → Within (commits_with cs n size) (size + 1)
    by (notes.Commit t) = (
      λ c i. ⊎_elim (λ e. let same = ap (λ (d : CommitBlock). d.id) e in omega (arith, same)) (λ j. other.0 c j) (In-with_commit cs t size c i),
      let few = h.1 in let more = with_commit-longer cs t size in omega (arith, few, more),
    )
    by (notes.Page f j c) = other
    by notes.Super = other
    by (notes.Revoke t) = other
    by (notes.Descriptor t) = other
    by (notes.Body t b) = other
    by (notes.Home b) = other
    by notes.Flush = other
    by notes.Raw = other

pub submission_more : (limit : ℕ) (old new : List Request) (ns : List Note) (n : Note) (capacity : ℕ) (flush put : Option ℕ) (commits : CommitTable)
    → IsSubmission limit old ns capacity flush put commits → length old < limit → length new ≡ length old + 1
    → IsSubmission limit new (ns ++ n ∷ []) capacity (flush_with flush n (length ns)) (put_with put n (length ns)) (with_commits commits (commits_with commits.commits n (length ns)))
submission_more limit old new ns n capacity flush put commits s less one =
    let paired = s.paired in
    let size : length (ns ++ n ∷ []) ≡ length ns + 1 = simp (length-append) refl in
    let early = commits_early commits.commits n (length ns) (s.commits_within, s.commits_few) in
    record {
      paired = omega (arith, paired, size, one);
      few = omega (arith, paired, size, less);
      short = s.short;
      reserved = s.reserved;
      flushes = λ id. flush_kept flush ns n id (s.flushes id) s.flush_within;
      flush_within = λ id e. let l = flush_early flush n (length ns) s.flush_within id e in omega (arith, l, size);
      put_is = ap (λ p. put_with p n (length ns)) s.put_is ∙ sym (put-push 0 (length ns) ns n None (omega arith));
      committed = λ k id. commits_kept commits.commits ns n k id (s.committed k id) s.commits_within;
      commits_within = λ c i. let l = early.0 c i in omega (arith, l, size);
      commits_few = let l = early.1 in omega (arith, l, size);
      room = s.room;
    }

pub submission_same : (limit : ℕ) (rs : List Request) (ns more : List Note) (capacity room : ℕ) (flush put last before : Option ℕ) (commits new : CommitTable)
    → more ≡ ns → room ≡ capacity → last ≡ flush → before ≡ put → new ≡ commits
    → IsSubmission limit rs ns capacity flush put commits → IsSubmission limit rs more room last before new
submission_same limit rs ns more capacity room flush put last before commits new a b c d e s =
    subst (λ x. IsSubmission limit rs x room last before new) (sym a)
    (subst (λ x. IsSubmission limit rs ns x last before new) (sym b)
    (subst (λ x. IsSubmission limit rs ns capacity x before new) (sym c)
    (subst (λ x. IsSubmission limit rs ns capacity flush x new) (sym d)
    (subst (λ x. IsSubmission limit rs ns capacity flush put x) (sym e) s))))

-- ---- the last put

last-within : (i bound : ℕ) (ns : List Note) (last : Option ℕ) → i + length ns ≤ bound → ((id : ℕ) → last ≡ Some id → id < bound)
    → (id : ℕ) → last_put i ns last ≡ Some id → id < bound
last-within i bound [] last most h id e = h id e
last-within i bound (n ∷ ns) last most h id e = last-within (i + 1) bound ns _ (omega (arith, most)) (next (is_flush_note n)) id e
  where
    next : (t : Bool) (id : ℕ) → (if t then last else Some i) ≡ Some id → id < bound
    next true id e = h id e
    next false id e = (let same : i ≡ id = same_Some i id e in omega (arith, most, same))

pub last_put-within : (ns : List Note) (id : ℕ) → last_put 0 ns None ≡ Some id → id < length ns
last_put-within ns id e = last-within 0 (length ns) ns None (omega arith) (λ i none. absurd (none-some i none)) id e

pub last_of : (o : Option ℕ) (ns : List Note) (n : ℕ) → o ≡ last_put 0 ns None → length ns ≡ n → IfSome o (λ id. id < n)
last_of None ns n e size = tt
last_of (Some id) ns n e size = let less = last_put-within ns id (sym e) in omega (arith, less, size)
