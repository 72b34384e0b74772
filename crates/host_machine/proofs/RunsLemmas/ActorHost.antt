-- The whole steps of the commit actor, the write-back and the flush actor keep the order rules, the facts of images
-- and of the ring, and those of all begun calls.
use Rattle.std.proofs.Common.{sym, ap, subst, ◌∙◌, arith, length-append}
use Rattle.std.proofs.lemmas.Bool.{false≢true}
use Rattle.std.proofs.lemmas.Option.{same_Some}
use Rattle.std.specs.List.{find, filter}
use Rattle.std.specs.Prelude.{◌≡◌, ℕ, ◌+◌, ◌-◌, ◌<◌, ◌&&◌, Bool, true, false, not, List, [], ◌∷◌, ◌++◌, length, Option, Some, None, is_none, slice_get, slice_index_or, nat_lt, IsTrue, refl, if◌then◌else◌}
use Rattle.blk_base.specs.Members.{In}
use Rattle.blk_base.specs.laws.Members.{In-filter, slice_get-In, slice_get-in_range}
use Rattle.order_model.specs.declared.completion.Completion.{Completion}
use Rattle.order_model.specs.declared.note.Note.TheVariants as notes
use Rattle.order_model.specs.declared.note.Note.{Note}
use Rattle.order_model.specs.declared.request.Kind.TheVariants as puts
use Rattle.order_model.specs.declared.request.Request.{Request}
use Rattle.order_model.specs.declared.turn.Turn.TheVariants as turns
use Rattle.log_model.specs.Marks.{Logged, Transaction}
use Rattle.page_cache.specs.Pages.{is_unsent, is_dirty, page_at}
use Rattle.page_cache.specs.declared.cached_page.CachedPage.{CachedPage}
use Rattle.page_cache.specs.declared.cached_page.PageState.TheVariants.{Loose, Firm}
use Rattle.page_cache.specs.laws.Order.{keyed}
use Rattle.crash_laws.proofs.Growing.{note_new}
use Rattle.crash_laws.specs.Session.{HasNote, IsCommit}
use Rattle.crash_laws.specs.laws.Submitting.{after}
use Rattle.host_machine.proofs.ActorSteps.{all_firm, rephased}
use Rattle.host_machine.proofs.Entries.{trees_noted}
use Rattle.host_machine.proofs.PlanSteps.{commit_keeps}
use Rattle.host_machine.proofs.Sends.{plainly}
use Rattle.host_machine.proofs.Steps.{first_page-In}
use Rattle.host_machine.specs.laws.Choices.{either}
use Rattle.host_machine.specs.Host.{Turned, submits, build_plan, checkpoint, close_step, plan_sent, in_phase, commit_step, writeback, flush_step, take_step, send_page, send_planned, committed}
use Rattle.number_sets.specs.Sets.{has}
use Rattle.flush_actor.specs.conflicts.Conflicts.{least}
use Rattle.journal_ring.specs.LogRing.{ring_free}
use Rattle.journal_ring.specs.running.Running.{log_needs}
use Rattle.journal_ring.specs.running.Plan.{Planned}
use Rattle.host_machine.specs.State.{Begun, Thread, Host}
use Rattle.commit_actor.specs.Journal.{Plan, Phase, Idle, Closing, Committing, is_submitted}
use Rattle.flush_actor.specs.Kinds.{is_data}
use Rattle.flush_actor.specs.Part.{is_flush_note, is_over, at_limit}
use Rattle.flush_actor.specs.Steps.{flush_due}
use Rattle.flush_actor.specs.Waits.{need_commit}
use Rattle.flush_actor.specs.declared.call_kind.CallKind.{CallKind}
use Rattle.flush_actor.specs.declared.call_kind.CallKind.TheVariants.{FileSync, WholeSync}
use Rattle.flush_actor.specs.declared.wait.Wait.{Wait}
use Rattle.host_machine.specs.Views.{transaction_of}
use Rattle.host_machine.specs.laws.Contract.{Over, Contract, noted_history, InPlan, InPhase, session}
use Rattle.host_machine.specs.laws.PlanNotes.{is_plan_note, IsRestOf}
use Rattle.host_machine.proofs.RunsLemmas.BuildHost.{transaction_now, same_history, build_keeps}
use Rattle.host_machine.proofs.RunsLemmas.CallHost.{all_kept, all_pushed, all_sent, all_close, all_need, call_told, In_wait}
use Rattle.host_machine.proofs.RunsLemmas.CheckpointSteps.{home_request, super_request}
use Rattle.host_machine.proofs.RunsLemmas.FlushFacts.{other_pushed, flush_pushed, waits_mapped, is_whole_sync, commit_opens_none, commit_needed}
use Rattle.host_machine.proofs.RunsLemmas.RulesHost.{planned_keeps, committed_keeps, home_keeps, super_keeps, page_keeps, flush_keeps, flush_request}
use Rattle.host_machine.specs.runs.laws.CallFacts.{AllCalls, wait_of, CallFacts}
use Rattle.host_machine.specs.runs.laws.Kept.{HasRules, KeepsRules, Calls, Flushes}
use Rattle.host_machine.specs.runs.laws.RingFacts.{RingInPhase, request_of}
use Rattle.host_machine.specs.runs.laws.Written.{IsWord, AreWritten, IsWritable}

module _ {A T V C R : Type 0} {o : Over A T V C R} {Stands : V → T → Type 0} (contract : Contract o Stands) where
  -- another phase with the same facts
  other_phase : {s : Host V C R} {txs : List Transaction} {N : ℕ} (next : Phase) → InPhase o Stands s.history s.cuts (session o Stands txs s) s.journal.running.number N next → RingInPhase (session o Stands txs s) s.journal.ring N next
      → KeepsRules contract s txs N → KeepsRules contract (record s { journal = record s.journal { phase = next } }) txs N
  other_phase next images ring kept = record {
    rules = kept.rules;
    images = (rephased contract next images kept.images.0, kept.images.1);
    ring = record { homes = kept.ring.homes; in_phase = ring };
  }

  module _ (s : Host V C R) (txs : List Transaction) (N : ℕ) (kept : KeepsRules contract s txs N) (calls : Calls contract txs N s) (flushes : Flushes contract txs N s) where
    stays : HasRules contract s
    stays = (txs, N, kept, calls, flushes)

    -- a page goes out, and any other request
    page_out : (p : CachedPage) (ordered barrier : Bool) → page_at s.pages p.birth p.index ≡ Some p → HasRules contract (send_page o.model o.setup s p ordered barrier)
    page_out p ordered barrier here = (
      txs,
      N,
      page_keeps contract s txs N kept p ordered barrier here,
      all_sent (plainly (session o Stands txs s) kept.images.0.counted (record { id = length s.journal.flush.requests; kind = puts.Put p.block p.body; ordered = ordered; barrier = barrier }) (notes.Page p.birth p.index p.version))
          kept.images.0.mapped p here refl (if ordered then Firm else Loose) (is_firm ordered) calls,
      other_pushed flushes (notes.Page p.birth p.index p.version) refl,
    )
      where
        is_firm : (b : Bool) → is_unsent (if b then Firm else Loose) ≡ false → IsTrue b
        is_firm true e = refl
        is_firm false e = sym e

    pushed : (q : Request) (n : Note) → Calls contract txs N s → AllCalls (noted_history o Stands s.history s.cuts) (after (plainly (session o Stands txs s) kept.images.0.counted q n)) s.pages (length s.history) s.journal.running.number s.threads s.journal.flush.waits
    pushed q n c = all_pushed (plainly (session o Stands txs s) kept.images.0.counted q n) c

    submits_rules : (full : Bool) (out : Host V C R) → HasRules contract out → HasRules contract (submits o.model o.setup full s out).host
    submits_rules full out next =
        either (λ (x : Turned V C R). HasRules contract x.host) (at_limit s.journal.flush) _ _ (λ e. stays)
        (λ e. either (λ (x : Turned V C R). HasRules contract x.host) full _ _ (λ e. stays) (λ e. next))

    -- ---- the write-back and the flush actor

    pub writeback_rules : (full : Bool) (pick : ℕ) → HasRules contract (writeback o.model o.setup full s pick).host
    writeback_rules full pick =
        either (λ (x : Turned V C R). HasRules contract x.host) (is_over s.journal.flush) _ _ (λ e. stays) (λ e. by (slice_get (filter (λ (p : CachedPage). is_dirty p.state) s.pages) pick) refl)
      where
        by : (x : Option CachedPage) → slice_get (filter (λ (p : CachedPage). is_dirty p.state) s.pages) pick ≡ x → HasRules contract (elim x as (λ _. Turned V C R) [
          | None ↦ record { host = s; turn = turns.Idle }
          | Some p ↦ submits o.model o.setup full s (send_page o.model o.setup s p (not (is_submitted s.journal (slice_index_or s.owners p.block 0))) false)
        ]).host
        by None e = stays
        by (Some p) e =
            let here = keyed s.pages kept.images.0.rising p (In-filter (λ (p : CachedPage). is_dirty p.state) s.pages p (slice_get-In (filter (λ (p : CachedPage). is_dirty p.state) s.pages) pick p e)).0 in
            submits_rules full _ (page_out p (not (is_submitted s.journal (slice_index_or s.owners p.block 0))) false here)

    pub take_step_rules : (next : Option Completion) → HasRules contract (take_step o.model o.setup s next).host
    take_step_rules None = stays
    take_step_rules (Some c) = (txs, N, record { rules = kept.rules; images = kept.images; ring = kept.ring }, calls, flushes)

    pub flush_step_rules : (full : Bool) (next : Option Completion) → HasRules contract (flush_step o.model o.setup full s next).host
    flush_step_rules full next =
        either (λ (x : Turned V C R). HasRules contract x.host) (flush_due s.journal.flush) _ _
        (λ e. submits_rules full _ (txs, N, flush_keeps contract s txs N kept, pushed (flush_request contract s txs N kept) notes.Flush calls, flush_pushed flushes s.journal.flush refl refl e))
        (λ e. take_step_rules next)

    -- ---- the commit actor

    -- what the journal's format, and the numbers of this state, are asked for
    pub record Formats : Type 0 where
      pub written : AreWritten o.format o.setup.writers
      pub writable : IsWritable (transaction_now contract s txs N kept)
      pub next : IsWord (o.setup.sequence + (N + 1 - 1))
      pub running : IsWord (o.setup.sequence + (s.journal.running.number - 1))
      pub first : IsWord s.journal.ring.places.first
      pub head : IsWord s.journal.ring.head

    module _ (formats : Formats) where
      -- the plan is built: the cuts are noted, and transactions told anew
      built : (at : s.journal.phase ≡ Closing) (sent : (f i : ℕ) (p : CachedPage) → In f s.journal.running.changed → page_at s.pages f i ≡ Some p → p.state ≡ Firm) (room : nat_lt (ring_free s.journal.ring) (log_needs o.setup.writers s.journal.running) ≡ false)
          → Calls contract (txs ++ transaction_now contract s txs N kept ∷ []) N (build_plan o.model o.setup s)
      built at sent room =
          let trees = trees_noted o.model contract.trees o.place s.history s.cuts kept.images.0.rise in
          let closed = all_close trees kept.images.0.numbers calls in
          subst (λ h. AllCalls h (record (session o Stands txs s) { transactions = transaction_of (txs ++ transaction_now contract s txs N kept ∷ []) }) s.pages (length s.history) (s.journal.running.number + 1) s.threads s.journal.flush.waits)
          (same_history contract s txs N kept at sent room formats.written formats.writable formats.next formats.first)
          (all_kept (λ b w f. call_told (transaction_of (txs ++ transaction_now contract s txs N kept ∷ [])) f) closed)

      -- the commit block: calls that wait for it come to need it
      committed_calls : (p : Plan) (first : Planned) → s.journal.phase ≡ Committing p → p.rest ≡ first ∷ []
          → Calls contract txs (N + 1) (committed o.model o.setup (send_planned o.model o.setup s first) (s.journal.running.number - 1) (length s.journal.flush.requests) p)
      committed_calls p first at left =
          let plan : InPlan o Stands s.history s.cuts (session o Stands txs s) s.journal.running.number N p = subst (InPhase o Stands s.history s.cuts (session o Stands txs s) s.journal.running.number N) at kept.images.0.in_phase in
          let note : first.note ≡ notes.Commit (s.journal.running.number - 1) = subst (IsRestOf (s.journal.running.number - 1)) left plan.rest in
          let sub = plainly (session o Stands txs s) kept.images.0.counted (request_of first (length s.journal.flush.requests)) first.note in
          let trees = trees_noted o.model contract.trees o.place s.history s.cuts kept.images.0.rise in
          let numbers = (commit_keeps contract s txs N kept.images first p (length s.journal.flush.requests) plan.on_way note).0.numbers in
          let commit : IsCommit (after sub) (s.journal.running.number - 1) (length s.journal.flush.requests) = subst (HasNote (after sub) (length s.journal.flush.requests)) note (subst (λ i. HasNote (after sub) i first.note) kept.images.0.counted (note_new sub)) in
          all_need (s.journal.running.number - 1) (length s.journal.flush.requests) trees numbers commit (all_pushed sub calls)

      not_flush : (p : Plan) (first q : Planned) (qs : List Planned) → s.journal.phase ≡ Committing p → p.rest ≡ first ∷ q ∷ qs → is_flush_note first.note ≡ false
      not_flush p first q qs at left =
          let plan : InPlan o Stands s.history s.cuts (session o Stands txs s) s.journal.running.number N p = subst (InPhase o Stands s.history s.cuts (session o Stands txs s) s.journal.running.number N) at kept.images.0.in_phase in
          let note = subst (IsRestOf (s.journal.running.number - 1)) left plan.rest in
          of_plan first.note note.0
        where
          of_plan : (n : Note) → is_plan_note n ≡ true → is_flush_note n ≡ false
          of_plan notes.Super e = refl
          of_plan (notes.Revoke k) e = refl
          of_plan (notes.Descriptor k) e = refl
          of_plan (notes.Body k b) e = refl
          of_plan other e = absurd (false≢true e)

      -- no sync call knew its need before its commit block
      committed_flushes : (p : Plan) (first : Planned) → s.journal.phase ≡ Committing p → p.rest ≡ first ∷ []
          → Flushes contract txs (N + 1) (committed o.model o.setup (send_planned o.model o.setup s first) (s.journal.running.number - 1) (length s.journal.flush.requests) p)
      committed_flushes p first at left =
          let plan : InPlan o Stands s.history s.cuts (session o Stands txs s) s.journal.running.number N p = subst (InPhase o Stands s.history s.cuts (session o Stands txs s) s.journal.running.number N) at kept.images.0.in_phase in
          let note : first.note ≡ notes.Commit (s.journal.running.number - 1) = subst (IsRestOf (s.journal.running.number - 1)) left plan.rest in
          let pushed_flushes = other_pushed flushes first.note (ap is_flush_note note) in
          let longer = length-append s.journal.flush.notes (first.note ∷ []) in
          let same = kept.images.0.counted in
          let on = plan.on_way in
          waits_mapped pushed_flushes (need_commit (s.journal.running.number - 1) (length s.journal.flush.requests))
          (λ w i. commit_opens_none (s.journal.flush.notes ++ first.note ∷ []) (s.journal.running.number - 1) (length s.journal.flush.requests) w (λ sync target. unknown (s.journal.running.number - 1) (omega arith) w i sync target))
          (λ w i id e. commit_needed (s.journal.flush.notes ++ first.note ∷ []) (s.journal.running.number - 1) (length s.journal.flush.requests) w (omega arith) (λ j q. pushed_flushes.needed w i j q) id e)
        where
          whole_kind : (k : CallKind) → is_whole_sync k ≡ true → is_data k ≡ false
          whole_kind FileSync e = refl
          whole_kind WholeSync e = refl
          whole_kind other e = absurd (false≢true e)

          unknown : (k : ℕ) → N < k → (w : Wait) → In w s.journal.flush.waits → is_whole_sync w.kind ≡ true → w.target ≡ Some k → w.need ≡ None
          unknown k above w i sync target =
              let t = In_wait s.journal.flush.waits w i in
              let lt = t.1 in
              let same = calls.counted in
              let th = slice_get-in_range s.threads t.0 (omega arith) in
              of_thread t.0 th.0 th.1 th.0.begun refl t.2
            where
              none_of : (b : Begun) → CallFacts (noted_history o Stands s.history s.cuts) (session o Stands txs s) s.pages (length s.history) s.journal.running.number b w → (x : Option ℕ) → w.need ≡ x → w.need ≡ None
              none_of b facts None e = e
              none_of b facts (Some id) e =
                  let c = facts.cause id e (ap is_data (sym facts.kind) ∙ whole_kind w.kind sync) in
                  let le = kept.images.0.numbers.no_more c.T c.c c.commit in
                  let same = same_Some c.T k (sym c.target ∙ target) in
                  absurd (omega arith)

              of_thread : (n : ℕ) (th : Thread C) → slice_get s.threads n ≡ Some th → (x : Option Begun) → th.begun ≡ x → wait_of s.journal.flush.waits n ≡ w → w.need ≡ None
              of_thread n th here None e at = sym (ap (λ (v : Wait). v.need) at) ∙ ap (λ (v : Wait). v.need) (calls.idle n th here e)
              of_thread n th here (Some b) e at = none_of b (subst (CallFacts (noted_history o Stands s.history s.cuts) (session o Stands txs s) s.pages (length s.history) s.journal.running.number b) at (calls.each n th b here e)) w.need refl

      checkpoint_rules : s.journal.phase ≡ Closing → (homes : List Logged) → s.journal.ring.homes ≡ homes → HasRules contract (checkpoint o.model o.setup s homes)
      checkpoint_rules at [] e =
          (txs, N, super_keeps contract s txs N kept at e (formats.written.super (o.setup.sequence + (s.journal.running.number - 1)) s.journal.ring.head formats.running formats.head), pushed (request_of (super_request o.setup.journal (o.setup.writers.super (o.setup.sequence + (s.journal.running.number - 1)) s.journal.ring.head)) (length s.journal.flush.requests)) notes.Super calls, other_pushed flushes notes.Super refl)
      checkpoint_rules at (b ∷ bs) e = (txs, N, home_keeps contract s txs N kept b bs at e, pushed (request_of (home_request b (elim bs as (λ _. Bool) [ [] ↦ true | x ∷ xs ↦ false ])) (length s.journal.flush.requests)) (notes.Home b.block) calls, other_pushed flushes (notes.Home b.block) refl)

      close_rules : (full : Bool) → s.journal.phase ≡ Closing → HasRules contract (close_step o.model o.setup full s).host
      close_rules full at = by (find (λ p. is_unsent p.state && has s.journal.running.changed p.birth) s.pages) refl
        where
          by : (x : Option CachedPage) → find (λ p. is_unsent p.state && has s.journal.running.changed p.birth) s.pages ≡ x → HasRules contract (elim x as (λ _. Turned V C R) [
            | Some p ↦ submits o.model o.setup full s (send_page o.model o.setup s p true false)
            | None ↦
                if nat_lt (ring_free s.journal.ring) (log_needs o.setup.writers s.journal.running) then submits o.model o.setup full s (checkpoint o.model o.setup s s.journal.ring.homes)
                else record { host = build_plan o.model o.setup s; turn = turns.Did }
          ]).host
          by (Some p) e = submits_rules full _ (page_out p true false (keyed s.pages kept.images.0.rising p (first_page-In (λ p. is_unsent p.state && has s.journal.running.changed p.birth) s.pages p e)))
          by None e =
              either (λ (x : Turned V C R). HasRules contract x.host) (nat_lt (ring_free s.journal.ring) (log_needs o.setup.writers s.journal.running)) _ _
              (λ d. submits_rules full _ (checkpoint_rules at s.journal.ring.homes refl))
              (λ d. (txs ++ transaction_now contract s txs N kept ∷ [], N, build_keeps contract s txs N kept at (all_firm s.journal.running.changed kept.images.0.sent e) d formats.written formats.writable formats.next formats.first, built at (all_firm s.journal.running.changed kept.images.0.sent e) d, flushes))

      plan_sent_rules : (p : Plan) (first : Planned) (rest : List Planned) → s.journal.phase ≡ Committing p → p.rest ≡ first ∷ rest → HasRules contract (plan_sent o.model o.setup s p first rest)
      plan_sent_rules p first [] at e = (txs, N + 1, committed_keeps contract s txs N kept p first at e, committed_calls p first at e, committed_flushes p first at e)
      plan_sent_rules p first (q ∷ qs) at e = (txs, N, planned_keeps contract s txs N kept p first q qs at e, pushed (request_of first (length s.journal.flush.requests)) first.note calls, other_pushed flushes first.note (not_flush p first q qs at e))

      in_phase_rules : (full : Bool) (phase : Phase) → s.journal.phase ≡ phase → InPhase o Stands s.history s.cuts (session o Stands txs s) s.journal.running.number N phase → RingInPhase (session o Stands txs s) s.journal.ring N phase → HasRules contract (in_phase o.model o.setup full s phase).host
      in_phase_rules full Idle at x y =
          either (λ (x : Turned V C R). HasRules contract x.host) (s.journal.running.wanted && is_none (least s.journal.flush.conflicts)) _ _
          (λ e. (txs, N, other_phase Closing x y kept, calls, flushes))
          (λ e. stays)
      in_phase_rules full Closing at x y = close_rules full at
      in_phase_rules full (Committing p) at x y = by p.rest refl
        where
          by : (rest : List Planned) → p.rest ≡ rest → HasRules contract (elim rest as (λ _. Turned V C R) [ [] ↦ record { host = s; turn = turns.Idle } | first ∷ rest ↦ submits o.model o.setup full s (plan_sent o.model o.setup s p first rest) ]).host
          by [] e = stays
          by (first ∷ rest) e = submits_rules full _ (plan_sent_rules p first rest at e)

      -- one step of the commit actor
      pub commit_step_rules : (full : Bool) → HasRules contract (commit_step o.model o.setup full s).host
      commit_step_rules full =
          either (λ (x : Turned V C R). HasRules contract x.host) (is_over s.journal.flush) _ _ (λ e. stays) (λ e. in_phase_rules full s.journal.phase refl kept.images.0.in_phase kept.ring.in_phase)
