-- The requests of a plan, of a checkpoint, and its superblock: what each owes of the order rules, and what
-- becomes of the facts.
use Rattle.std.proofs.Common.{sym, ap, subst, ◌∙◌, inl, inr, ⊎_elim, arith, append_assoc, length-append, le-ltb}
use Rattle.std.proofs.lemmas.Option.{none-some, same_Some}
use Rattle.std.specs.Option.{option_and_then, unwrap_or}
use Rattle.std.specs.Prelude.{◌≡◌, ℕ, ◌+◌, ◌≤◌, ◌⊎◌, true, List, [], ◌∷◌, ◌++◌, length, Option, Some, None, nat_lt, IsTrue, ◌||◌, refl}
use Rattle.blk_base.specs.laws.Members.{slice_get-length}
use Rattle.order_model.specs.OrderClosed.{is_flush, kind_body}
use Rattle.order_model.specs.declared.note.Note.TheVariants.{Page, Super, Commit, Home, Flush, Raw}
use Rattle.order_model.specs.declared.note.Note.{Note}
use Rattle.order_model.specs.declared.request.Kind.TheVariants.{Put}
use Rattle.order_model.specs.declared.request.Request.{Request}
use Rattle.log_model.proofs.Marks.{keep≢set}
use Rattle.log_model.proofs.Ring.{places_on-place}
use Rattle.log_model.specs.Log.{Spells}
use Rattle.log_model.specs.Marks.{Logged, Transaction, Set, mark_in, transactions_from}
use Rattle.log_model.specs.Ring.{places_on}
use Rattle.crash_laws.proofs.CommitSteps.{commit_order_step}
use Rattle.crash_laws.proofs.Growing.{note_new, note_cases, log_within, log_cases, fence_new, request_new}
use Rattle.crash_laws.proofs.LogBlocks.{filter_none, In-log_blocks}
use Rattle.crash_laws.proofs.LogSteps.{super_old}
use Rattle.crash_laws.specs.laws.Clauses.{CommitClause, FitsClause, LogClause, SuperClause, CheckpointClause}
use Rattle.crash_laws.specs.Rules.{CommitOrder, LogLayout, CheckpointOrder, HasHeader}
use Rattle.crash_laws.specs.Session.{Session, HasNote, log_transaction, IsCommit, LogBlock, with_log_block, log_blocks, log_blocks_of, log_blocks_below, bodies_of, sequence_of, IsSuperOf}
use Rattle.crash_laws.specs.laws.Submitting.{Submitting, after, new_place, IsCommitted}
use Rattle.journal_ring.specs.LogRing.{LogRing}
use Rattle.journal_ring.specs.running.Plan.{Planned}
use Rattle.host_machine.proofs.RunsLemmas.GrowingFacts.{count_grown, bodies_grown, places_step, homes_step, numbers_step}
use Rattle.host_machine.proofs.RunsLemmas.PlaceLaws.{next_place_is_freed}
use Rattle.host_machine.specs.runs.laws.RingFacts.{AreCommitted, PlaceFacts, HomeFacts, request_of, places_of, IsFirstSuper, IsNextLog, ArePlanned, count, if_log, log_bytes, EndsFenced, StartsWithSuper, IsClosed, PlanFacts}

-- a planned put goes out
abbrev pub sending : (s : Session) → length s.notes ≡ length s.requests → Planned → (transactions : ℕ → Transaction) → ((k i : ℕ) → IsCommit s k i → transactions k ≡ s.transactions k) → Submitting
sending s counted q transactions same = record { session = s; counted = counted; request = request_of q (length s.requests); note = q.note; transactions = transactions; same = same }

-- What a request owes of the order rules, but for what pages and images owe.
pub record RingClause (p : Submitting) : Type 0 where
  pub fits : FitsClause p.session p.request p.note
  pub commits : CommitClause p.session p.request p.note
  pub log : LogClause p
  pub checkpoints : CheckpointClause p.session p.request p.note
  pub home : (b : ℕ) → p.note ≡ Home b → (k : ℕ) × IsCommitted p.session k × (IsCommitted p.session (k + 1) → ⊥) × (x : List ℕ) × (kind_body p.request.kind ≡ Some x) × (mark_in (transactions_from p.session.transactions 1 k) b ≡ Set x)

-- with no log block of transaction 1 there is none at all below it
no_entry_below : (s : Session) → CommitOrder s → log_blocks_below 1 (log_blocks s) ≡ []
no_entry_below s order =
    filter_none (λ (e : LogBlock). nat_lt e.transaction 1) (log_blocks s)
    (λ e i.
    let d = In-log_blocks 0 s.notes e i in
    le-ltb e.transaction 1 (order.numbered e.transaction d.0 d.2))

-- ---- a request of the plan before the commit block

module _ (s : Session) (counted : length s.notes ≡ length s.requests) (q : Planned) (bs : List Planned) (transactions : ℕ → Transaction) (same : (k i : ℕ) → IsCommit s k i → transactions k ≡ s.transactions k) (N : ℕ) (order : CommitOrder s) (layout : LogLayout s) (checkpoints : CheckpointOrder s) (numbers : AreCommitted s N (N + 1)) (ring : LogRing) (more : ℕ) (places : PlaceFacts s ring more) where
  abbrev p : Submitting
  p = sending s counted q transactions same

  module _ (planned : IsFirstSuper s (N + 1) q ⊎ IsNextLog s (N + 1) (length (log_blocks s)) q) (some : places_of q.note ≤ more) where
    not_other : (n : Note) → log_transaction n ≡ None → (n ≡ Super → ⊥) → q.note ≡ n → ⊥
    not_other n none no_super e =
        ⊎_elim
        (λ f. no_super (sym e ∙ f.0))
        (λ l. none-some (N + 1) (sym (ap log_transaction e ∙ none) ∙ l.0))
        planned

    not_commit : (k : ℕ) → q.note ≡ Commit k → ⊥
    not_commit k e = ⊎_elim (λ f. super_commit k (sym f.0 ∙ e)) (λ l. l.1 k e) planned
      where
        super_commit : (k : ℕ) → Super ≡ Commit k → ⊥
        super_commit k e = cc

    no_log : q.note ≡ Super → (k : ℕ) → log_transaction q.note ≡ Some k → ⊥
    no_log e k l = none-some k (sym (ap log_transaction e) ∙ l)

    its_tx : (k : ℕ) → log_transaction q.note ≡ Some k → k ≡ N + 1
    its_tx k l = ⊎_elim (λ f. absurd (no_log f.0 k l)) (λ n. same_Some k (N + 1) (sym l ∙ n.0)) planned

    its_place : (k : ℕ) → log_transaction q.note ≡ Some k → q.block ≡ s.journal + places_on s.ring (length (log_blocks s)) s.head
    its_place k l = ⊎_elim (λ f. absurd (no_log f.0 k l)) (λ n. n.2) planned

    one_place : (k : ℕ) → log_transaction q.note ≡ Some k → 1 ≤ more
    one_place k l = let e : places_of q.note ≡ 1 = ap (λ (o : Option ℕ). length (with_log_block o 0 [])) l in omega arith

    fits_clause : FitsClause s p.request p.note
    fits_clause = record {
      home = λ b e. absurd (not_other (Home b) refl (λ x. cc) e);
      super = λ e. ⊎_elim (λ f. ap Some f.1) (λ n. absurd (no_log e (N + 1) n.0)) planned;
      log = λ k l. (places_on s.ring (length (log_blocks s)) s.head, places_on-place s.ring (length (log_blocks s)) s.head layout.head, ap Some (its_place k l));
      page = λ f i v e. absurd (not_other (Page f i v) refl (λ x. cc) e);
      flush = λ e. absurd (not_other Flush refl (λ x. cc) e);
      raw = λ e. not_other Raw refl (λ x. cc) e;
      ordered = λ e. refl;
    }

    commit_clause : CommitClause s p.request p.note
    commit_clause = record {
      numbered = λ k l. let e = its_tx k l in omega arith;
      unfinished = λ k l c. let e = its_tx k l in let le = numbers.only k c.0 c.1 in omega arith;
      behind = λ k l pos. let e = its_tx (k + 1) l in numbers.there k pos (omega arith);
      barrier = λ k e. absurd (not_commit k e);
      closed = λ k i e h. absurd (not_commit k e);
    }

    header_of : IsFirstSuper s (N + 1) q ⊎ IsNextLog s (N + 1) (length (log_blocks s)) q → HasHeader s.sequence q.note (s.format.header q.body)
    header_of (inl f) = subst (λ n. HasHeader s.sequence n (s.format.header q.body)) (sym f.0) tt
    header_of (inr n) = n.3

    log_clause : LogClause p
    log_clause = record {
      place = λ k l. ap Some (its_place k l);
      again = λ k j i b l e h put.
          next_place_is_freed s ring more k i b layout places (one_place j l) h put
          (sym (same_Some q.block b e) ∙ its_place j l);
      header = header_of planned;
      spells = λ k e. absurd (not_commit k e);
    }

    super_clause : q.note ≡ Super → SuperClause s p.request
    super_clause e =
        ⊎_elim
        (λ f.
        let none : N ≡ 0 = (let one = f.3 in omega arith) in
        let zero_more : s.sequence ≡ s.sequence + 0 = omega arith in
        record {
          freed = 0;
          fields = f.2 ∙ ap (λ n. record { sequence = n; start = s.head }) zero_more ∙ ap (λ (es : List LogBlock). record { sequence = s.sequence + 0; start = places_on s.ring (length es) s.head }) (sym (no_entry_below s order));
          last = λ c. let le = numbers.only 1 c.0 c.1 in omega arith;
          committed = λ pos. absurd (omega arith);
          barrier = λ pos. absurd (omega arith);
          homes = λ b x set. absurd (keep≢set x set);
        })
        (λ n. absurd (no_log e (N + 1) n.0))
        planned

    -- It owes nothing more.
    pub planned_clause : RingClause p
    planned_clause = record {
      fits = fits_clause;
      commits = commit_clause;
      log = log_clause;
      checkpoints = record {
        super = super_clause;
        first = λ e. absurd (not_commit 1 e);
        before = λ i freed e h. absurd (not_commit (freed + 1) e);
      };
      home = λ b e. absurd (not_other (Home b) refl (λ x. cc) e);
    }

    pub planned_numbers : AreCommitted (after p) N (N + 1)
    planned_numbers = numbers_step p order commit_clause checkpoints N (N + 1) not_commit (λ k l. let e = its_tx k l in omega arith) numbers

    pub planned_homes : (homes : List Logged) → HomeFacts s N homes → HomeFacts (after p) N homes
    planned_homes homes old = homes_step p order commit_clause checkpoints N (N + 1) homes numbers (λ b e. not_other (Home b) refl (λ x. cc) e) old

    pub planned_places : (left : ℕ) → more ≡ places_of q.note + left → PlaceFacts (after p) ring left
    planned_places left e = places_step p order commit_clause checkpoints ring more left places e

  -- the plan goes on
  module _ (t : Transaction) (start : ℕ) (rest left : List Planned) (plan : PlanFacts s (N + 1) t start rest) (next : plan.before ≡ q ∷ bs) (some : more ≡ count (q ∷ bs) + 1) where
    pub next_planned : IsFirstSuper s (N + 1) q ⊎ IsNextLog s (N + 1) (length (log_blocks s)) q
    next_planned = (subst (ArePlanned s (N + 1) (length (log_blocks s))) next plan.planned).0

    pub is_some : places_of q.note ≤ more
    is_some = omega arith

    log_or_not : (log_transaction q.note ≡ None) ⊎ (log_transaction q.note ≡ Some (N + 1))
    log_or_not = ⊎_elim (λ f. inl (ap log_transaction f.0)) (λ n. inr n.0) next_planned

    pub next_clause : RingClause p
    next_clause = planned_clause next_planned is_some

    -- where it is the last one it is a barrier, and all is closed off
    closes : bs ≡ [] → IsClosed (after p) (N + 1) start
    closes e =
        let barrier : q.barrier ≡ true = subst EndsFenced (next ∙ ap (λ xs. q ∷ xs) e) plan.fenced in
        let begun = plan.begun in
        record {
          fence = new_place p;
          is_fence = fence_new p (subst (λ b. IsTrue (b || is_flush (Put q.block q.body))) (sym barrier) refl);
          begun = begun;
          logs = λ i h. ⊎_elim (λ o. let lt = log_within p (N + 1) i o in omega arith) (λ n. let at = n.0 in omega arith) (log_cases p (N + 1) i h);
          supers = λ one i h. ⊎_elim (λ o. let lt = slice_get-length s.notes i Super o in omega arith) (λ n. let at = n.0 in omega arith) (note_cases p i Super h);
        }

    first_super : (N + 1 ≡ 1) → ((i : ℕ) × IsSuperOf s i 0) ⊎ StartsWithSuper (q ∷ bs) → (i : ℕ) × IsSuperOf (after p) i 0
    first_super one (inl x) = (x.0, super_old p order (next_clause).commits checkpoints x.0 0 x.1)
    first_super one (inr e) =
        let c = next_clause.checkpoints.super e in
        ⊎_elim
        (λ f.
        let zero_more : s.sequence ≡ s.sequence + 0 = omega arith in (
          new_place p,
          record {
            note = subst (HasNote (after p) (new_place p)) e (note_new p);
            fields =
                ap s.format.tail (ap (λ o. unwrap_or (option_and_then (λ (r : Request). kind_body r.kind) o) []) (request_new p))
                ∙ f.2
                ∙ ap (λ n. record { sequence = n; start = s.head }) zero_more
                ∙ ap (λ (es : List LogBlock). record { sequence = s.sequence + 0; start = places_on s.ring (length es) s.head }) (sym (no_entry_below (after p) (commit_order_step p order next_clause.commits)));
          },
        ))
        (λ n. absurd (none-some (N + 1) (sym (ap log_transaction e) ∙ n.0)))
        next_planned

    pub plan_goes_on : left ≡ bs ++ plan.commit ∷ [] → PlanFacts (after p) (N + 1) t start left
    plan_goes_on whole =
        let grown = count_grown p in
        let n_bs : length (log_blocks (after p)) + count bs ≡ length (log_blocks s) + count (q ∷ bs) = omega arith in
        let begun = plan.begun in
        let longer = length-append s.notes (q.note ∷ []) in
        record {
          before = bs;
          commit = plan.commit;
          whole = whole;
          planned = subst (λ n. ArePlanned s (N + 1) n bs) (sym grown) (subst (ArePlanned s (N + 1) (length (log_blocks s))) next plan.planned).1;
          last_note = plan.last_note;
          last_block = plan.last_block ∙ ap (λ xs. s.journal + places_on s.ring (length (log_blocks s) + count xs) s.head) next ∙ ap (λ n. s.journal + places_on s.ring n s.head) (sym n_bs);
          last_barrier = plan.last_barrier;
          last_header = plan.last_header;
          fenced = rest_fenced bs (subst EndsFenced next plan.fenced);
          closed = λ e. inl (closes e);
          begun = omega arith;
          first = λ one. inl (first_super one (subst (λ xs. ((i : ℕ) × IsSuperOf s i 0) ⊎ StartsWithSuper xs) next (plan.first one)));
          spells =
              subst (λ xs. Spells s.format (sequence_of s (N + 1)) xs t)
              (ap (λ xs. bodies_of s (log_blocks_of (N + 1) (log_blocks s)) ++ (log_bytes xs ++ plan.commit.body ∷ [])) next
              ∙ ap (λ xs. bodies_of s (log_blocks_of (N + 1) (log_blocks s)) ++ xs) (append_assoc (if_log (log_transaction q.note) q.body) (log_bytes bs) (plan.commit.body ∷ []))
              ∙ sym (append_assoc (bodies_of s (log_blocks_of (N + 1) (log_blocks s))) (if_log (log_transaction q.note) q.body) (log_bytes bs ++ plan.commit.body ∷ []))
              ∙ ap (λ xs. xs ++ (log_bytes bs ++ plan.commit.body ∷ [])) (sym (bodies_grown p (N + 1) log_or_not)))
              plan.spells;
        }
      where
        rest_fenced : (xs : List Planned) → EndsFenced (q ∷ xs) → EndsFenced xs
        rest_fenced [] e = tt
        rest_fenced (x ∷ xs) e = e
