-- The commit block, the Home requests of a checkpoint and the superblock of a new tail.
use Rattle.std.proofs.Common.{sym, ap, subst, ◌∙◌, inl, inr, ⊎_elim, arith, append-nil, lt-ltb}
use Rattle.std.proofs.lemmas.Bool.{cases_lt}
use Rattle.std.proofs.lemmas.Option.{none-some, same_Some}
use Rattle.std.specs.Option.{option_and_then, unwrap_or}
use Rattle.std.specs.Prelude.{◌≡◌, ℕ, ◌+◌, ◌≤◌, ◌⊎◌, Bool, true, List, [], ◌∷◌, ◌++◌, length, Option, Some, slice_get, nat_lt, IsTrue, ◌||◌, refl}
use Rattle.blk_base.specs.Members.{In}
use Rattle.blk_base.specs.laws.Members.{slice_get-length, slice_get-In, filter_all}
use Rattle.order_model.specs.OrderClosed.{is_flush, kind_body}
use Rattle.order_model.specs.declared.note.Note.TheVariants.{Page, Super, Commit, Home, Flush, Raw}
use Rattle.order_model.specs.declared.note.Note.{Note}
use Rattle.order_model.specs.declared.request.Kind.TheVariants.{Put}
use Rattle.order_model.specs.declared.request.Request.{Request}
use Rattle.log_model.proofs.Marks.{mark-split, keep≢set, clear≢set}
use Rattle.log_model.proofs.Ring.{places_on-place}
use Rattle.log_model.specs.Log.{Spells}
use Rattle.log_model.specs.Marks.{Logged, Transaction, Mark, Keep, Clear, Set, followed, transaction_mark, mark_in, transactions_from}
use Rattle.log_model.specs.Ring.{places_on}
use Rattle.crash_laws.proofs.Growing.{note_old, note_new, note_cases, log_within, log_cases, fence_new, request_new}
use Rattle.crash_laws.proofs.LogBlocks.{In-log_blocks}
use Rattle.crash_laws.proofs.LogSteps.{mark_old, below_submitted}
use Rattle.crash_laws.specs.laws.Clauses.{CommitClause, IsHomeSent}
use Rattle.crash_laws.specs.Ordering.{IsClosedOff}
use Rattle.crash_laws.specs.laws.RingFacts.{IsAtHome}
use Rattle.crash_laws.specs.Rules.{CommitOrder, LogLayout, CheckpointOrder, HasHeader}
use Rattle.crash_laws.specs.Session.{Session, HasNote, log_transaction, IsLog, IsCommit, LogBlock, with_log_block, log_blocks, log_blocks_of, log_blocks_below, bodies_of, sequence_of, first_place, IsSuperOf}
use Rattle.crash_laws.specs.laws.Submitting.{Submitting, after, new_place, IsCommitted}
use Rattle.journal_ring.specs.LogRing.{LogRing, all_home}
use Rattle.journal_ring.specs.running.Plan.{Planned}
use Rattle.host_machine.proofs.RunsLemmas.GrowingFacts.{number_submitted, entries_grown, bodies_grown, places_step, homes_step, at_home_old, numbers_step}
use Rattle.host_machine.proofs.RunsLemmas.PlaceLaws.{next_place_is_freed}
use Rattle.journal_ring.specs.laws.Committed.{In-commit_homes, commit_homes-ascends, commit_homes-body, commit_homes-kept}
use Rattle.host_machine.proofs.RunsLemmas.RingSteps.{sending, RingClause}
use Rattle.journal_ring.specs.laws.Homes.{IsApart, commit_homes}
use Rattle.host_machine.specs.runs.laws.RingFacts.{AreCommitted, PlaceFacts, HomeFacts, places_of, count, if_log, log_bytes, StartsWithSuper, PlanFacts}

-- ---- the commit block

module _ (s : Session) (counted : length s.notes ≡ length s.requests) (q : Planned) (transactions : ℕ → Transaction) (same : (k i : ℕ) → IsCommit s k i → transactions k ≡ s.transactions k) (N : ℕ) (order : CommitOrder s) (layout : LogLayout s) (checkpoints : CheckpointOrder s) (numbers : AreCommitted s N (N + 1)) (ring : LogRing) (places : PlaceFacts s ring 1)
    (t : Transaction) (start : ℕ) (rest : List Planned) (plan : PlanFacts s (N + 1) t start rest) (last : plan.before ≡ []) (commit : plan.commit ≡ q) (told : transactions (N + 1) ≡ t) where
  abbrev p : Submitting
  p = sending s counted q transactions same

  note : q.note ≡ Commit (N + 1)
  note = ap (λ (x : Planned). x.note) (sym commit) ∙ plan.last_note

  not_other : (n : Note) → (Commit (N + 1) ≡ n → ⊥) → q.note ≡ n → ⊥
  not_other n other e = other (sym note ∙ e)

  its_tx : (k : ℕ) → log_transaction q.note ≡ Some k → k ≡ N + 1
  its_tx k l = sym (same_Some (N + 1) k (sym (ap log_transaction note) ∙ l))

  its_number : (k : ℕ) → q.note ≡ Commit k → k ≡ N + 1
  its_number k e = its_tx k (ap log_transaction e)

  block : q.block ≡ s.journal + places_on s.ring (length (log_blocks s)) s.head
  block =
      let none : length (log_blocks s) + 0 ≡ length (log_blocks s) = omega arith in
      ap (λ (x : Planned). x.block) (sym commit)
      ∙ plan.last_block
      ∙ ap (λ xs. s.journal + places_on s.ring (length (log_blocks s) + count xs) s.head) last
      ∙ ap (λ n. s.journal + places_on s.ring n s.head) none

  barrier : IsTrue (q.barrier || is_flush (Put q.block q.body))
  barrier = subst (λ b. IsTrue (b || is_flush (Put q.block q.body))) (sym (ap (λ (x : Planned). x.barrier) (sym commit) ∙ plan.last_barrier)) refl

  commit_clause : CommitClause s p.request p.note
  commit_clause = record {
    numbered = λ k l. let e = its_tx k l in omega arith;
    unfinished = λ k l c. let e = its_tx k l in let le = numbers.only k c.0 c.1 in omega arith;
    behind = λ k l pos. let e = its_tx (k + 1) l in numbers.there k pos (omega arith);
    barrier = λ k e. barrier;
    closed = λ k i e h.
        let log = subst (λ j. IsLog s j i) (its_number k e) h in
        ⊎_elim
        (λ c. (c.fence, c.logs i log, c.is_fence))
        (λ n. absurd (n.1 i log))
        (plan.closed last);
  }

  spelled : Spells s.format (sequence_of s (N + 1)) (bodies_of (after p) (log_blocks_of (N + 1) (log_blocks (after p)))) t
  spelled =
      subst (λ xs. Spells s.format (sequence_of s (N + 1)) xs t)
      (ap (λ xs. bodies_of s (log_blocks_of (N + 1) (log_blocks s)) ++ (log_bytes xs ++ plan.commit.body ∷ [])) last
      ∙ ap (λ (x : Planned). bodies_of s (log_blocks_of (N + 1) (log_blocks s)) ++ x.body ∷ []) commit
      ∙ ap (λ (o : Option ℕ). bodies_of s (log_blocks_of (N + 1) (log_blocks s)) ++ if_log o q.body) (sym (ap log_transaction note))
      ∙ sym (bodies_grown p (N + 1) (inr (ap log_transaction note))))
      plan.spells

  header : HasHeader s.sequence q.note (s.format.header q.body)
  header = subst (λ n. HasHeader s.sequence n (s.format.header q.body)) (sym note) (subst (λ (x : Planned). HasHeader s.sequence (Commit (N + 1)) (s.format.header x.body)) commit plan.last_header)

  closed_super : (i freed : ℕ) → freed + 1 ≡ N + 1 → IsSuperOf s i freed → IsClosedOff s.requests i
  closed_super i freed e h =
      ⊎_elim
      (λ pos. (i, omega arith, checkpoints.barrier i freed h pos))
      (λ z.
      ⊎_elim
      (λ c. let one : N + 1 ≡ 1 = omega arith in (c.fence, c.supers one i h.note, c.is_fence))
      (λ n. let more = n.0 in absurd (omega arith))
      (plan.closed last))
      (cases_lt 0 freed)

  pub commit_ring_clause : RingClause p
  commit_ring_clause = record {
    fits = record {
      home = λ b e. absurd (not_other (Home b) (λ x. cc) e);
      super = λ e. absurd (not_other Super (λ x. cc) e);
      log = λ k l. (places_on s.ring (length (log_blocks s)) s.head, places_on-place s.ring (length (log_blocks s)) s.head layout.head, ap Some block);
      page = λ f i v e. absurd (not_other (Page f i v) (λ x. cc) e);
      flush = λ e. absurd (not_other Flush (λ x. cc) e);
      raw = λ e. not_other Raw (λ x. cc) e;
      ordered = λ e. refl;
    };
    commits = commit_clause;
    log = record {
      place = λ k l. ap Some block;
      again = λ k j i b l e h put. next_place_is_freed s ring 1 k i b layout places (omega arith) h put (sym (same_Some q.block b e) ∙ block);
      header = header;
      spells = λ k e.
          subst (λ j. Spells s.format (sequence_of s j) (bodies_of (after p) (log_blocks_of j (log_blocks (after p)))) (transactions j)) (sym (its_number k e))
          (subst (Spells s.format (sequence_of s (N + 1)) (bodies_of (after p) (log_blocks_of (N + 1) (log_blocks (after p))))) (sym told) spelled);
    };
    checkpoints = record {
      super = λ e. absurd (not_other Super (λ x. cc) e);
      first = λ e.
          let one : N + 1 ≡ 1 = sym (its_number 1 e) in
          ⊎_elim (λ x. x) (λ no. absurd (subst StartsWithSuper last no)) (plan.first one);
      before = λ i freed e h. closed_super i freed (its_number (freed + 1) e) h;
    };
    home = λ b e. absurd (not_other (Home b) (λ x. cc) e);
  }

  pub commit_numbers : AreCommitted (after p) (N + 1) (N + 1)
  commit_numbers = record {
    there = λ k lo hi.
        ⊎_elim
        (λ le. let c = numbers.there k lo (omega arith) in (c.0, note_old p c.0 (Commit k) c.1))
        (λ ge. let e : N + 1 ≡ k = omega arith in (new_place p, subst (HasNote (after p) (new_place p)) (note ∙ ap Commit e) (note_new p)))
        (cases_lt k (N + 1));
    only = λ k c h. ⊎_elim (λ o. let le = numbers.only k c o in omega arith) (λ n. let e = its_number k n.1 in omega arith) (note_cases p c (Commit k) h);
    logs = λ k i h. ⊎_elim (λ o. numbers.logs k i o) (λ n. let e = its_tx k n.1 in omega arith) (log_cases p k i h);
    within = omega arith;
  }

  pub commit_places : PlaceFacts (after p) ring 0
  commit_places =
      let e : 1 ≡ places_of q.note + 0 = (let o = ap (λ (o : Option ℕ). length (with_log_block o 0 [])) (ap log_transaction note) in omega arith) in
      places_step p order commit_clause checkpoints ring 1 0 places e

  -- the new mark
  mark_now : (b : ℕ) → mark_in (transactions_from transactions 1 (N + 1)) b ≡ followed (mark_in (transactions_from s.transactions 1 N) b) (transaction_mark t b)
  mark_now b =
      let q : 1 + N + 0 ≡ N + 1 = omega arith in
      mark-split transactions N 1 b
      ∙ ap (λ m. followed m (transaction_mark (transactions (1 + N + 0)) b)) (mark_old p order commit_clause checkpoints N b (number_submitted s N (N + 1) numbers))
      ∙ ap (λ n. followed (mark_in (transactions_from s.transactions 1 N) b) (transaction_mark (transactions n) b)) q
      ∙ ap (λ u. followed (mark_in (transactions_from s.transactions 1 N) b) (transaction_mark u b)) told

  pub commit_home_facts : (homes : List Logged) → IsApart t → HomeFacts s N homes → HomeFacts (after p) (N + 1) (commit_homes t homes)
  commit_home_facts homes apart old = record {
    rising = commit_homes-ascends t homes old.rising;
    newest = λ l i.
        mark_now l.block
        ∙ ⊎_elim
        (λ set. ap (followed (mark_in (transactions_from s.transactions 1 N) l.block)) set)
        (λ r. ap (followed (mark_in (transactions_from s.transactions 1 N) l.block)) r.1 ∙ old.newest l r.0)
        (In-commit_homes t homes l apart old.rising i);
    pending = λ b x set. pending b x set (transaction_mark t b) refl (sym (mark_now b) ∙ set) (old.pending b x);
    closed = λ none i b h.
        let within = slice_get-length (s.notes ++ q.note ∷ []) i (Home b) h in
        ⊎_elim
        (λ o. let lt = slice_get-length s.notes i (Home b) o in (new_place p, omega arith, fence_new p barrier))
        (λ n. let at = n.0 in (new_place p, omega arith, fence_new p barrier))
        (note_cases p i (Home b) h);
  }
    where
      pending : (b : ℕ) (x : List ℕ) → mark_in (transactions_from transactions 1 (N + 1)) b ≡ Set x → (m : Mark) → transaction_mark t b ≡ m → followed (mark_in (transactions_from s.transactions 1 N) b) (transaction_mark t b) ≡ Set x
          → (mark_in (transactions_from s.transactions 1 N) b ≡ Set x → In (record { block = b; body = x }) homes ⊎ IsAtHome s b x N) → In (record { block = b; body = x }) (commit_homes t homes) ⊎ IsAtHome (after p) b x (N + 1)
      pending b x set (Set y) e h before = inl (commit_homes-body t homes b x (e ∙ sym (ap (followed (mark_in (transactions_from s.transactions 1 N) b)) e) ∙ h))
      pending b x set Clear e h before = absurd (clear≢set x (sym (ap (followed (mark_in (transactions_from s.transactions 1 N) b)) e) ∙ h))
      pending b x set Keep e h before =
          ⊎_elim
          (λ i. inl (commit_homes-kept t homes (record { block = b; body = x }) i e))
          (λ d.
          let old_done = at_home_old p order commit_clause checkpoints N (N + 1) b x numbers d in
          let hi = d.within in
          inr (record {
            home = old_done.home;
            note = old_done.note;
            body = old_done.body;
            since = old_done.since;
            committed = old_done.committed;
            within = omega arith;
            stays = λ j lo up.
                ⊎_elim
                (λ le. old_done.stays j lo (omega arith))
                (λ ge. let e : j ≡ N + 1 = omega arith in ap (λ n. mark_in (transactions_from transactions 1 n) b) e ∙ set)
                (cases_lt j (N + 1));
          }))
          (before (sym (ap (followed (mark_in (transactions_from s.transactions 1 N) b)) e) ∙ h))

-- ---- a body goes home

abbrev pub home_request : Logged → Bool → Planned
home_request l barrier = record { note = Home l.block; block = l.block; body = l.body; barrier = barrier }

module _ (s : Session) (counted : length s.notes ≡ length s.requests) (l : Logged) (ls : List Logged) (barrier : Bool) (transactions : ℕ → Transaction) (same : (k i : ℕ) → IsCommit s k i → transactions k ≡ s.transactions k) (N : ℕ) (order : CommitOrder s) (checkpoints : CheckpointOrder s) (numbers : AreCommitted s N N) (facts : HomeFacts s N (l ∷ ls)) where
  abbrev ph : Submitting
  ph = sending s counted (home_request l barrier) transactions same

  first_set : mark_in (transactions_from s.transactions 1 N) l.block ≡ Set l.body
  first_set = facts.newest l (inl refl)

  last_committed : IsCommitted s N
  last_committed =
      ⊎_elim
      (λ pos. numbers.there N pos (omega arith))
      (λ z. let e : N ≡ 0 = omega arith in absurd (keep≢set l.body (ap (λ n. mark_in (transactions_from s.transactions 1 n) l.block) (sym e) ∙ first_set)))
      (cases_lt 0 N)

  home_commit_clause : CommitClause s ph.request ph.note
  home_commit_clause = record {
    numbered = λ k e. absurd (none-some k e);
    unfinished = λ k e c. none-some k e;
    behind = λ k e pos. absurd (none-some (k + 1) e);
    barrier = λ k e. absurd (let c : ⊥ = cc in c);
    closed = λ k i e h. absurd (let c : ⊥ = cc in c);
  }

  pub home_ring_clause : RingClause ph
  home_ring_clause = record {
    fits = record {
      home = λ b e. ap Some (same_block b e);
      super = λ e. absurd (let c : ⊥ = cc in c);
      log = λ k e. absurd (none-some k e);
      page = λ f i v e. absurd (let c : ⊥ = cc in c);
      flush = λ e. absurd (let c : ⊥ = cc in c);
      raw = λ e. cc;
      ordered = λ e. refl;
    };
    commits = home_commit_clause;
    log = record {
      place = λ k e. absurd (none-some k e);
      again = λ k j i b e f h put. absurd (none-some j e);
      header = tt;
      spells = λ k e. absurd (let c : ⊥ = cc in c);
    };
    checkpoints = record {
      super = λ e. absurd (let c : ⊥ = cc in c);
      first = λ e. absurd (let c : ⊥ = cc in c);
      before = λ i freed e h. absurd (let c : ⊥ = cc in c);
    };
    home = λ b e. (N, last_committed, λ c. let le = numbers.only (N + 1) c.0 c.1 in omega arith, l.body, refl, ap (mark_in (transactions_from s.transactions 1 N)) (sym (same_block b e)) ∙ first_set);
  }
    where
      same_block : (b : ℕ) → Home l.block ≡ Home b → l.block ≡ b
      same_block b e = cc

  pub home_numbers : AreCommitted (after ph) N N
  home_numbers = numbers_step ph order home_commit_clause checkpoints N N (λ k e. cc) (λ k e. absurd (none-some k e)) numbers

  pub home_places : (ring : LogRing) → PlaceFacts s ring 0 → PlaceFacts (after ph) ring 0
  home_places ring old = places_step ph order home_commit_clause checkpoints ring 0 0 old refl

  mark_same : (j b : ℕ) → j ≤ N → mark_in (transactions_from transactions 1 j) b ≡ mark_in (transactions_from s.transactions 1 j) b
  mark_same j b le = mark_old ph order home_commit_clause checkpoints j b (below_submitted ph order home_commit_clause checkpoints j N (number_submitted s N N numbers) le)

  sent_home : IsAtHome (after ph) l.block l.body N
  sent_home = record {
    home = new_place ph;
    note = note_new ph;
    body = ap (option_and_then (λ (r : Request). kind_body r.kind)) (request_new ph);
    since = N;
    committed = (last_committed.0, note_old ph last_committed.0 (Commit N) last_committed.1, slice_get-length s.notes last_committed.0 (Commit N) last_committed.1);
    within = omega arith;
    stays = λ j lo hi. let e : j ≡ N = omega arith in ap (λ n. mark_in (transactions_from transactions 1 n) l.block) e ∙ mark_same N l.block (omega arith) ∙ first_set;
  }

  -- the last one is a barrier
  pub home_facts_step : (ls ≡ [] → barrier ≡ true) → HomeFacts (after ph) N ls
  home_facts_step last = record {
    rising = facts.rising.1;
    newest = λ m i. mark_same N m.block (omega arith) ∙ facts.newest m (inr i);
    pending = λ b x set.
        ⊎_elim
        (λ i. here b x i)
        (λ d. inr (at_home_old ph order home_commit_clause checkpoints N N b x numbers d))
        (facts.pending b x (sym (mark_same N b (omega arith)) ∙ set));
    closed = λ none i b h.
        let fence = fence_new ph (subst (λ t. IsTrue (t || is_flush (Put l.block l.body))) (sym (last none)) refl) in
        ⊎_elim
        (λ o. let lt = slice_get-length s.notes i (Home b) o in (new_place ph, omega arith, fence))
        (λ n. let at = n.0 in (new_place ph, omega arith, fence))
        (note_cases ph i (Home b) h);
  }
    where
      here : (b : ℕ) (x : List ℕ) → In (record { block = b; body = x }) (l ∷ ls) → In (record { block = b; body = x }) ls ⊎ IsAtHome (after ph) b x N
      here b x (inl e) = inr (subst (λ (m : Logged). IsAtHome (after ph) m.block m.body N) e sent_home)
      here b x (inr i) = inl i

-- ---- the superblock of a new tail

abbrev pub super_request : ℕ → List ℕ → Planned
super_request journal body = record { note = Super; block = journal; body = body; barrier = true }

module _ (s : Session) (counted : length s.notes ≡ length s.requests) (body : List ℕ) (transactions : ℕ → Transaction) (same : (k i : ℕ) → IsCommit s k i → transactions k ≡ s.transactions k) (N : ℕ) (order : CommitOrder s) (checkpoints : CheckpointOrder s) (numbers : AreCommitted s N N) (ring : LogRing) (places : PlaceFacts s ring 0) (facts : HomeFacts s N [])
    (fields : s.format.tail body ≡ record { sequence = s.sequence + N; start = ring.head }) where
  abbrev ps : Submitting
  ps = sending s counted (super_request s.journal body) transactions same

  -- all log blocks are of transactions up to N, so the next one goes to the place of the new tail
  all_below : log_blocks_below (N + 1) (log_blocks s) ≡ log_blocks s
  all_below =
      filter_all (λ (e : LogBlock). nat_lt e.transaction (N + 1)) (log_blocks s)
      (λ e i.
      let d = In-log_blocks 0 s.notes e i in
      let le = numbers.logs e.transaction d.0 d.2 in
      lt-ltb e.transaction (N + 1) (omega arith))

  start : ring.head ≡ first_place s (N + 1)
  start =
      let none : length (log_blocks s) + 0 ≡ length (log_blocks s) = omega arith in
      places.head ∙ ap (λ n. places_on s.ring n s.head) none ∙ ap (λ (es : List LogBlock). places_on s.ring (length es) s.head) (sym all_below)

  tail_now : s.format.tail body ≡ record { sequence = s.sequence + N; start = first_place s (N + 1) }
  tail_now = fields ∙ ap (λ n. record { sequence = s.sequence + N; start = n }) start

  super_commit_clause : CommitClause s ps.request ps.note
  super_commit_clause = record {
    numbered = λ k e. absurd (none-some k e);
    unfinished = λ k e c. none-some k e;
    behind = λ k e pos. absurd (none-some (k + 1) e);
    barrier = λ k e. absurd (let c : ⊥ = cc in c);
    closed = λ k i e h. absurd (let c : ⊥ = cc in c);
  }

  home_sent_before : (b : ℕ) (x : List ℕ) → mark_in (transactions_from s.transactions 1 N) b ≡ Set x → IsHomeSent s b x N
  home_sent_before b x set =
      ⊎_elim
      (λ i. absurd i)
      (λ d. record { home = d.home; note = d.note; body = d.body; closed = facts.closed refl d.home b d.note; since = d.since; committed = d.committed; within = d.within; stays = d.stays })
      (facts.pending b x set)

  pub super_ring_clause : RingClause ps
  super_ring_clause = record {
    fits = record {
      home = λ b e. absurd (let c : ⊥ = cc in c);
      super = λ e. refl;
      log = λ k e. absurd (none-some k e);
      page = λ f i v e. absurd (let c : ⊥ = cc in c);
      flush = λ e. absurd (let c : ⊥ = cc in c);
      raw = λ e. cc;
      ordered = λ e. refl;
    };
    commits = super_commit_clause;
    log = record {
      place = λ k e. absurd (none-some k e);
      again = λ k j i b e f h put. absurd (none-some j e);
      header = tt;
      spells = λ k e. absurd (let c : ⊥ = cc in c);
    };
    checkpoints = record {
      super = λ e. record {
        freed = N;
        fields = tail_now;
        last = λ c. let le = numbers.only (N + 1) c.0 c.1 in omega arith;
        committed = λ pos. numbers.there N pos (omega arith);
        barrier = λ pos. refl;
        homes = home_sent_before;
      };
      first = λ e. absurd (let c : ⊥ = cc in c);
      before = λ i freed e h. absurd (let c : ⊥ = cc in c);
    };
    home = λ b e. absurd (let c : ⊥ = cc in c);
  }

  pub super_numbers : AreCommitted (after ps) N N
  super_numbers = numbers_step ps order super_commit_clause checkpoints N N (λ k e. cc) (λ k e. absurd (none-some k e)) numbers

  pub super_homes : HomeFacts (after ps) N []
  super_homes = homes_step ps order super_commit_clause checkpoints N N [] numbers (λ b e. cc) facts

  same_entries : log_blocks (after ps) ≡ log_blocks s
  same_entries = entries_grown ps ∙ append-nil (log_blocks s)

  pub super_is_tail : IsSuperOf (after ps) (new_place ps) N
  super_is_tail = record {
    note = note_new ps;
    fields =
        ap s.format.tail (ap (λ o. unwrap_or (option_and_then (λ (r : Request). kind_body r.kind) o) []) (request_new ps))
        ∙ tail_now
        ∙ ap (λ (es : List LogBlock). record { sequence = s.sequence + N; start = places_on s.ring (length (log_blocks_below (N + 1) es)) s.head }) (sym same_entries);
  }

  -- all places are free
  pub super_places : PlaceFacts (after ps) (all_home ring) 0
  super_places = record {
    places = places.places;
    head = places.head ∙ ap (λ (es : List LogBlock). places_on s.ring (length es + 0) s.head) (sym same_entries);
    room = omega arith;
    within = omega arith;
    freed = λ n e h.
        let i = slice_get-In (log_blocks s) n e (ap (λ xs. slice_get xs n) (sym same_entries) ∙ h) in
        let d = In-log_blocks 0 s.notes e i in
        let at = d.1 in
        let lt = log_within ps e.transaction d.0 d.2 in
        let le = numbers.logs e.transaction d.0 d.2 in
        inr (new_place ps, N, super_is_tail, omega arith, le);
  }
