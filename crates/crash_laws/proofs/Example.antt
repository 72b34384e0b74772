-- What each request of a session of a dozen owes to the order rules.
use Rattle.std.specs.Prelude.{◌≡◌, ◌≢◌, ℕ, zero, suc, ◌+◌, ◌<◌, ◌≤◌, ◌==◌, Bool, true, false, List, [], ◌∷◌, Some, slice_get, if◌then◌else◌, refl}
use Rattle.std.proofs.Common.{sym, ap, subst, ◌∙◌, inl, inr, ⊎_elim, arith, eqb-true}
use Rattle.std.proofs.lemmas.Option.{none-some, same_Some}
use Rattle.blk_base.specs.Members.{In}
use Rattle.blk_base.specs.laws.Members.{slice_get-length}
use Rattle.order_model.specs.declared.note.Note.{Note}
use Rattle.order_model.specs.declared.note.Note.TheVariants.{Super, Commit, Home}
use Rattle.order_model.specs.OrderClosed.{IsPutOf, IsPutWith}
use Rattle.volume_ops.specs.Volume.{disk_of}
use Rattle.log_model.specs.Log.{Commits}
use Rattle.log_model.specs.Marks.{Keep, Set, followed, mark_in, transactions_from}
use Rattle.log_model.proofs.Marks.{keep≢set, mark_in-append}
use Rattle.crash_laws.specs.laws.Clauses.{OrderClause}
use Rattle.crash_laws.specs.Rules.{OrderRules, BaseImage}
use Rattle.crash_laws.specs.Session.{Session, IsLog, LogBlock, IsSuperOf}
use Rattle.crash_laws.specs.laws.Submitting.{IsCommitted}
use Rattle.crash_laws.specs.laws.Example.{header, program, logged, with_first, page_written, first_super, first_descriptor, first_body, first_commit, home_written, second_super, page_overwritten, second_descriptor, second_body, second_commit, flushed}
use Rattle.crash_laws.proofs.Ordering.{same_block}
use Rattle.crash_laws.proofs.RequestClauses.{page_request_clause, flush_request_clause, home_request_clause, super_request_clause, part_request_clause, commit_request_clause}
use Rattle.crash_laws.proofs.RingSteps.{log_listed}
use Rattle.crash_laws.proofs.Start.{rules_at_start}

-- ---- the base image

no_commit_header : (p seq : ℕ) → 1 ≤ p → p < 4 → header (disk_of (with_first 0).base (4 + p)) ≢ Commits seq
no_commit_header zero seq lo hi = absurd (omega arith)
no_commit_header (suc zero) seq lo hi = λ e. let f : ⊥ = cc in f
no_commit_header (suc (suc zero)) seq lo hi = λ e. let f : ⊥ = cc in f
no_commit_header (suc (suc (suc zero))) seq lo hi = λ e. let f : ⊥ = cc in f
no_commit_header (suc (suc (suc (suc p)))) seq lo hi = absurd (omega arith)

base_image : BaseImage (with_first 0)
base_image = record {
  start = refl;
  reserved = λ b i. ⊎_elim (λ e. omega arith) (λ none. absurd none) i;
  freeable = λ b i. absurd i;
  plain = λ p seq place since. no_commit_header p seq place.0 place.1;
}

pub at_start : OrderRules program (with_first 0)
at_start = rules_at_start program (with_first 0) refl refl (omega arith) (omega arith, omega arith) base_image (λ b i. inl i)

-- ---- what lists have

-- the transactions whose commit blocks are among notes
abbrev commit_numbers : List Note → List ℕ
commit_numbers [] = []
commit_numbers (Commit k ∷ ns) = k ∷ commit_numbers ns
commit_numbers (n ∷ ns) = commit_numbers ns

same_commit : (k l : ℕ) → Commit k ≡ Commit l → k ≡ l
same_commit k l e = cc

pub commit_listed : (ns : List Note) (k i : ℕ) → slice_get ns i ≡ Some (Commit k) → In k (commit_numbers ns)
commit_listed [] k i e = absurd (none-some (Commit k) e)
commit_listed (Commit l ∷ ns) k zero e = inl (same_commit l k (same_Some (Commit l) (Commit k) e))
commit_listed (Commit l ∷ ns) k (suc i) e = inr (commit_listed ns k i e)
commit_listed (n ∷ ns) k zero e = absurd (let f : ⊥ = cc in f)
commit_listed (n ∷ ns) k (suc i) e = commit_listed ns k i e

-- block 1 alone is logged
one_block : (here : Bool) (b : ℕ) (x y : List ℕ) → (1 == b) ≡ here → (if here then Set y else Keep) ≡ Set x → (b ≡ 1) × (y ≡ x)
one_block true b x y e m = let q = eqb-true 1 b e in (omega arith, cc)
one_block false b x y e m = absurd (keep≢set x m)

pub first_mark : (b : ℕ) (x : List ℕ) → mark_in (transactions_from logged 1 1) b ≡ Set x → (b ≡ 1) × ((7 ∷ []) ≡ x)
first_mark b x m = one_block (1 == b) b x (7 ∷ []) refl m

second_mark : (b : ℕ) (x : List ℕ) → mark_in (transactions_from logged 1 2) b ≡ Set x → b ≡ 1
second_mark b x m = by (1 == b) refl m
  where
    by : (here : Bool) → (1 == b) ≡ here → followed (if here then Set (7 ∷ []) else Keep) (followed (if here then Set (8 ∷ []) else Keep) Keep) ≡ Set x → b ≡ 1
    by true e k = let q = eqb-true 1 b e in omega arith
    by false e k = absurd (keep≢set x k)

-- the page's block is never logged
pub page_unlogged : (k : ℕ) (x : List ℕ) → mark_in (transactions_from logged 1 k) 2 ≡ Set x → ⊥
page_unlogged zero x e = keep≢set x e
page_unlogged (suc k) x e = page_unlogged k x (sym (mark_in-append (transactions_from logged 1 k) (logged (1 + k) ∷ []) 2) ∙ e)

no_first : (n : ℕ) → commit_numbers (with_first n).notes ≡ [] → IsCommitted (with_first n) 1 → ⊥
no_first n none c = subst (In 1) none (commit_listed (with_first n).notes 1 c.0 c.1)

no_second : (n : ℕ) → commit_numbers (with_first n).notes ≡ 1 ∷ [] → IsCommitted (with_first n) 2 → ⊥
no_second n one c = ⊎_elim (λ e. omega arith) (λ none. none) (subst (In 2) one (commit_listed (with_first n).notes 2 c.0 c.1))

pub id_of : (j k i l : ℕ) → ◌≡◌ {A = LogBlock} (record { id = j; transaction = k }) (record { id = i; transaction = l }) → j ≡ i
id_of j k i l same = ap (λ (e : LogBlock). e.id) same

number_of : (j k i l : ℕ) → ◌≡◌ {A = LogBlock} (record { id = j; transaction = k }) (record { id = i; transaction = l }) → k ≡ l
number_of j k i l same = ap (λ (e : LogBlock). e.transaction) same

pub elsewhere : (s : Session) (j k i l b c d : ℕ) → ◌≡◌ {A = LogBlock} (record { id = j; transaction = k }) (record { id = i; transaction = l }) → IsPutOf s.requests j c → Some d ≡ Some b → IsPutOf s.requests i b → c ≡ d
elsewhere s j k i l b c d same there block put =
    same_block s.requests i c b (subst (λ x. IsPutOf s.requests x c) (id_of j k i l same) there) put ∙ sym (same_Some d b block)

-- ---- the clauses of order

pub one : OrderClause program page_written
one = page_request_clause program page_written 5 0 2 (record {
  note = refl;
  zone = 2;
  block = refl;
  low = omega arith;
  free = λ i. ⊎_elim (λ e. omega arith) (λ none. none) i;
  unlogged = λ k x set c. absurd (page_unlogged k x set);
  freed = λ i. absurd i;
})

pub two : OrderClause program first_super
two = super_request_clause program first_super (record {
  note = refl;
  block = refl;
  ordered = refl;
  clause = record {
    freed = 0;
    fields = refl;
    last = no_first 1 refl;
    committed = λ pos. absurd (omega arith);
    barrier = λ pos. refl;
    homes = λ b x set. absurd (keep≢set x set);
  };
})

pub three : OrderClause program first_descriptor
three = part_request_clause program first_descriptor 1 (
  record {
    note = refl;
    ordered = refl;
    numbered = omega arith;
    unfinished = no_first 2 refl;
    behind = λ more. absurd (omega arith);
    head = (omega arith, omega arith);
    block = refl;
    again = λ l i b block log put. absurd (log_listed (with_first 2) l i log);
    header = (record { block = 1; escaped = false } ∷ [], refl);
  },
  λ l e. let f : ⊥ = cc in f,
)

pub four : OrderClause program first_body
four = part_request_clause program first_body 1 (
  record {
    note = refl;
    ordered = refl;
    numbered = omega arith;
    unfinished = no_first 3 refl;
    behind = λ more. absurd (omega arith);
    head = (omega arith, omega arith);
    block = refl;
    again = λ l i b block log put.
        ⊎_elim
        (λ e. let same = elsewhere (with_first 3) 2 1 i l b 5 6 e refl block put in absurd (omega arith))
        (λ none. absurd none)
        (log_listed (with_first 3) l i log);
    header = refl;
  },
  λ l e. let f : ⊥ = cc in f,
)

pub five : OrderClause program first_commit
five = commit_request_clause program first_commit 1 (record {
  note = refl;
  log = record {
    note = refl;
    ordered = refl;
    numbered = omega arith;
    unfinished = no_first 4 refl;
    behind = λ more. absurd (omega arith);
    head = (omega arith, omega arith);
    block = refl;
    again = λ l i b block log put.
        ⊎_elim
        (λ e. let same = elsewhere (with_first 4) 2 1 i l b 5 7 e refl block put in absurd (omega arith))
        (λ more. ⊎_elim (λ e. let same = elsewhere (with_first 4) 3 1 i l b 6 7 e refl block put in absurd (omega arith)) (λ none. absurd none) more)
        (log_listed (with_first 4) l i log);
    header = refl;
  };
  barrier = refl;
  closed = λ i log.
      ⊎_elim
      (λ e. let at = id_of 2 1 i 1 e in (3, omega arith, refl))
      (λ more. ⊎_elim (λ e. let at = id_of 3 1 i 1 e in (3, omega arith, refl)) (λ none. absurd none) more)
      (log_listed (with_first 4) 1 i log);
  spells = λ txs. refl;
  first = λ e. (1, record { note = refl; fields = refl });
  tail = λ i freed e h. let lt : i < 4 = slice_get-length (with_first 4).notes i Super h.note in (3, omega arith, refl);
  bodies = λ b x set. let m = (first_mark b x set).0 in omega arith;
  revokes = λ b i reserved. i;
  logged = λ b read. inl (inl read);
})

pub six : OrderClause program home_written
six = home_request_clause program home_written 1 (record {
  note = refl;
  block = refl;
  ordered = refl;
  newest = 1;
  committed = (4, refl);
  no_more = no_second 5 refl;
  body = 7 ∷ [];
  carried = refl;
  mark = refl;
})

pub seven : OrderClause program second_super
seven = super_request_clause program second_super (record {
  note = refl;
  block = refl;
  ordered = refl;
  clause = record {
    freed = 1;
    fields = refl;
    last = no_second 6 refl;
    committed = λ pos. (4, refl);
    barrier = λ pos. refl;
    homes = λ b x set.
        let m = first_mark b x set in
        record {
          home = 5;
          note = subst (λ c. slice_get (with_first 6).notes 5 ≡ Some (Home c)) (sym m.0) refl;
          body = subst (IsPutWith (with_first 6).requests 5) m.1 refl;
          closed = (5, omega arith, refl);
          since = 1;
          committed = (4, refl, omega arith);
          within = omega arith;
          stays = λ j lo hi. let e : 1 ≡ j = omega arith in subst (λ k. mark_in (transactions_from logged 1 k) b ≡ Set x) e set;
        };
  };
})

pub eight : OrderClause program page_overwritten
eight = page_request_clause program page_overwritten 5 0 3 (record {
  note = refl;
  zone = 2;
  block = refl;
  low = omega arith;
  free = λ i. ⊎_elim (λ e. omega arith) (λ none. none) i;
  unlogged = λ k x set c. absurd (page_unlogged k x set);
  freed = λ i. absurd i;
})

-- what the second superblock freed
freed_first : (n j i l : ℕ) → IsSuperOf (with_first n) 6 1 → j < 6 → ◌≡◌ {A = LogBlock} (record { id = j; transaction = 1 }) (record { id = i; transaction = l })
    → (x freed : ℕ) × IsSuperOf (with_first n) x freed × (i < x) × (l ≤ freed)
freed_first n j i l super lt e =
    let at = id_of j 1 i l e in
    let number = number_of j 1 i l e in
    (6, 1, super, omega arith, omega arith)

pub nine : OrderClause program second_descriptor
nine = part_request_clause program second_descriptor 2 (
  record {
    note = refl;
    ordered = refl;
    numbered = omega arith;
    unfinished = no_second 8 refl;
    behind = λ more. (4, refl);
    head = (omega arith, omega arith);
    block = refl;
    again = λ l i b block log put.
        let super : IsSuperOf (with_first 8) 6 1 = record { note = refl; fields = refl } in
        ⊎_elim (λ e. freed_first 8 2 i l super (omega arith) e)
        (λ m. ⊎_elim (λ e. freed_first 8 3 i l super (omega arith) e)
        (λ o. ⊎_elim (λ e. freed_first 8 4 i l super (omega arith) e) (λ none. absurd none) o) m)
        (log_listed (with_first 8) l i log);
    header = (record { block = 1; escaped = false } ∷ [], refl);
  },
  λ l e. let f : ⊥ = cc in f,
)

pub ten : OrderClause program second_body
ten = part_request_clause program second_body 2 (
  record {
    note = refl;
    ordered = refl;
    numbered = omega arith;
    unfinished = no_second 9 refl;
    behind = λ more. (4, refl);
    head = (omega arith, omega arith);
    block = refl;
    again = λ l i b block log put.
        let super : IsSuperOf (with_first 9) 6 1 = record { note = refl; fields = refl } in
        ⊎_elim (λ e. freed_first 9 2 i l super (omega arith) e)
        (λ m. ⊎_elim (λ e. freed_first 9 3 i l super (omega arith) e)
        (λ o. ⊎_elim (λ e. freed_first 9 4 i l super (omega arith) e)
        (λ q. ⊎_elim (λ e. let same = elsewhere (with_first 9) 8 2 i l b 5 6 e refl block put in absurd (omega arith)) (λ none. absurd none) q) o) m)
        (log_listed (with_first 9) l i log);
    header = refl;
  },
  λ l e. let f : ⊥ = cc in f,
)

-- each log block of both transactions stands before the second body's end
before_ten : (i : ℕ) → IsLog (with_first 10) 2 i → i ≤ 9
before_ten i log =
    ⊎_elim (λ e. let at = id_of 2 1 i 2 e in omega arith)
    (λ m. ⊎_elim (λ e. let at = id_of 3 1 i 2 e in omega arith)
    (λ o. ⊎_elim (λ e. let at = id_of 4 1 i 2 e in omega arith)
    (λ q. ⊎_elim (λ e. let at = id_of 8 2 i 2 e in omega arith)
    (λ r. ⊎_elim (λ e. let at = id_of 9 2 i 2 e in omega arith) (λ none. absurd none) r) q) o) m)
    (log_listed (with_first 10) 2 i log)

pub eleven : OrderClause program second_commit
eleven = commit_request_clause program second_commit 2 (record {
  note = refl;
  log = record {
    note = refl;
    ordered = refl;
    numbered = omega arith;
    unfinished = no_second 10 refl;
    behind = λ more. (4, refl);
    head = (omega arith, omega arith);
    block = refl;
    again = λ l i b block log put.
        let super : IsSuperOf (with_first 10) 6 1 = record { note = refl; fields = refl } in
        ⊎_elim (λ e. freed_first 10 2 i l super (omega arith) e)
        (λ m. ⊎_elim (λ e. freed_first 10 3 i l super (omega arith) e)
        (λ o. ⊎_elim (λ e. freed_first 10 4 i l super (omega arith) e)
        (λ q. ⊎_elim (λ e. let same = elsewhere (with_first 10) 8 2 i l b 5 7 e refl block put in absurd (omega arith))
        (λ r. ⊎_elim (λ e. let same = elsewhere (with_first 10) 9 2 i l b 6 7 e refl block put in absurd (omega arith)) (λ none. absurd none) r) q) o) m)
        (log_listed (with_first 10) l i log);
    header = refl;
  };
  barrier = refl;
  closed = λ i log. let at = before_ten i log in (9, at, refl);
  spells = λ txs. refl;
  first = λ e. absurd (omega arith);
  tail = λ i freed e h. let lt : i < 10 = slice_get-length (with_first 10).notes i Super h.note in (9, omega arith, refl);
  bodies = λ b x set. let m = second_mark b x set in omega arith;
  revokes = λ b i reserved. i;
  logged = λ b read. inl (inl read);
})

pub twelve : OrderClause program flushed
twelve = flush_request_clause program flushed (record { note = refl; block = refl })
