-- The steps of the commit actor, the write-back and the flush actor keep the facts of images.
use Rattle.std.proofs.Common.{sym, ap, subst, ◌∙◌, inl, inr, ⊎_elim, arith, length-append}
use Rattle.std.proofs.lemmas.Bool.{cases_Bool, false≢true, and_from}
use Rattle.std.specs.List.{find, filter}
use Rattle.std.specs.Prelude.{◌≡◌, ℕ, ◌+◌, ◌-◌, ◌≤◌, ◌⊎◌, Bool, true, false, ◌&&◌, ◌||◌, not, List, [], ◌∷◌, ◌++◌, length, Option, Some, None, is_none, nat_lt, slice_get, slice_index_or, refl, if◌then◌else◌}
use Rattle.blk_base.specs.Members.{In}
use Rattle.blk_base.specs.laws.Members.{In-filter, slice_get-In}
use Rattle.order_model.specs.OrderClosed.{IsFence}
use Rattle.order_model.specs.declared.completion.Completion.{Completion}
use Rattle.order_model.specs.declared.note.Note.TheVariants as notes
use Rattle.order_model.specs.declared.note.Note.{Note}
use Rattle.order_model.specs.declared.request.Kind.TheVariants as puts
use Rattle.order_model.specs.declared.request.Request.{Request}
use Rattle.order_model.specs.declared.turn.Turn.TheVariants as turns
use Rattle.log_model.specs.Marks.{Transaction, Logged}
use Rattle.page_cache.specs.Pages.{is_unsent, is_dirty, page_at}
use Rattle.page_cache.specs.declared.cached_page.CachedPage.{CachedPage}
use Rattle.page_cache.specs.declared.cached_page.PageState.TheVariants.{Clean, Dirty, Loose, Firm}
use Rattle.page_cache.specs.declared.cached_page.PageState.{PageState}
use Rattle.page_cache.specs.laws.Maps.{page_at-key}
use Rattle.page_cache.specs.laws.Order.{keyed}
use Rattle.crash_laws.proofs.Growing.{fence_old, fence_new}
use Rattle.crash_laws.specs.Rules.{CommitOrder}
use Rattle.crash_laws.specs.Session.{Session}
use Rattle.host_machine.proofs.Commits.{way_pushed}
use Rattle.number_sets.specs.laws.Members.{In-has}
use Rattle.host_machine.proofs.PlanSteps.{closing_transaction, plan_keeps, commit_keeps}
use Rattle.host_machine.proofs.RequestSteps.{send_keeps, request_keeps}
use Rattle.host_machine.proofs.RuleSteps.{send_both}
use Rattle.host_machine.proofs.Sends.{plainly}
use Rattle.host_machine.proofs.Steps.{first_page-In, none_first}
use Rattle.host_machine.specs.laws.Choices.{either}
use Rattle.host_machine.specs.Host.{Turned, submits, build_plan, checkpoint, close_step, plan_sent, in_phase, commit_step, writeback, flush_step, take_step, send_page}
use Rattle.number_sets.specs.Sets.{has}
use Rattle.flush_actor.specs.conflicts.Conflicts.{least}
use Rattle.journal_ring.specs.LogRing.{ring_free}
use Rattle.journal_ring.specs.running.Running.{log_needs}
use Rattle.journal_ring.specs.running.Plan.{Planned}
use Rattle.host_machine.specs.State.{Entry, Host}
use Rattle.commit_actor.specs.Journal.{Plan, Phase, Idle, Closing, Committing, is_submitted}
use Rattle.flush_actor.specs.Part.{is_over, at_limit}
use Rattle.flush_actor.specs.Steps.{flush_due}
use Rattle.host_machine.specs.laws.Contract.{Over, Contract, ImagesFacts, InPhase, session, KeepsImages}
use Rattle.host_machine.specs.laws.Facts.{PagesSent}
use Rattle.host_machine.specs.laws.PlanNotes.{is_plan_note, IsRestOf, BarrierAhead}
use Rattle.host_machine.specs.laws.Rules.{Keeps}

plan_note≢commit : (n : Note) → is_plan_note n ≡ true → (k : ℕ) → n ≡ notes.Commit k → ⊥
plan_note≢commit n t k e = false≢true (sym (ap is_plan_note e) ∙ t)

plan_note≢page : (n : Note) → is_plan_note n ≡ true → (f i w : ℕ) → n ≡ notes.Page f i w → ⊥
plan_note≢page n t f i w e = false≢true (sym (ap is_plan_note e) ∙ t)

-- an unsent page is neither Clean nor Firm
firm_or_clean : (st : PageState) → is_unsent st ≡ false → (st ≡ Clean → ⊥) → st ≡ Firm
firm_or_clean Clean e n = absurd (n refl)
firm_or_clean Dirty e n = absurd (false≢true (sym e))
firm_or_clean Loose e n = absurd (false≢true (sym e))
firm_or_clean Firm e n = refl

-- where no page of the changed files waits to be sent, each of them is firm
pub all_firm : {s : Session} {pages : List CachedPage} (changed : List ℕ) → PagesSent s pages → find (λ p. is_unsent p.state && has changed p.birth) pages ≡ None
    → (f i : ℕ) (p : CachedPage) → In f changed → page_at pages f i ≡ Some p → p.state ≡ Firm
all_firm {pages = pages} changed sent none f i p listed here =
    firm_or_clean p.state
    (⊎_elim
    (λ t.
    absurd (false≢true (sym (none_first (λ p. is_unsent p.state && has changed p.birth) pages none f i p here)
    ∙ and_from (is_unsent p.state) (has changed p.birth) t (In-has changed p.birth (subst (λ g. In g changed) (sym (page_at-key pages f i p here).0) listed)))))
    (λ f. f)
    (cases_Bool (is_unsent p.state)))
    (sent.not_clean f i p here)

module _ {A T V C R : Type 0} {o : Over A T V C R} {Stands : V → T → Type 0} (contract : Contract o Stands) where
  -- another phase with the same facts
  pub rephased : {es : List (Entry C R)} {cuts : List ℕ} {s : Session} {r : ℕ} {touched revoked changed : List ℕ} {phase : Phase} {v : V} {pages : List CachedPage} {N : ℕ} (next : Phase)
      → InPhase o Stands es cuts s r N next → ImagesFacts o Stands es cuts s r touched revoked changed phase v pages N → ImagesFacts o Stands es cuts s r touched revoked changed next v pages N
  rephased next in_phase was = record {
    counted = was.counted;
    closed = was.closed;
    rise = was.rise;
    stands = was.stands;
    numbers = was.numbers;
    present = was.present;
    bodies = was.bodies;
    plan_revokes = was.plan_revokes;
    alike = was.alike;
    places = was.places;
    mapped = was.mapped;
    rising = was.rising;
    sent = was.sent;
    zones = was.zones;
    opened = was.opened;
    altered = was.altered;
    in_phase = in_phase;
  }

  -- the facts hold, with some transactions told and some submitted
  abbrev pub HasImages : Host V C R → Type 0
  HasImages s = (txs : List Transaction) × (N : ℕ) × KeepsImages o Stands s txs N

  module _ (s : Host V C R) (txs : List Transaction) (N : ℕ) (facts : KeepsImages o Stands s txs N) where
    submits_keeps : (full : Bool) (out : Host V C R) → HasImages out → HasImages (submits o.model o.setup full s out).host
    submits_keeps full out kept =
        either (λ (x : Turned V C R). HasImages x.host) (at_limit s.journal.flush) _ _ (λ e. (txs, N, facts))
        (λ e. either (λ (x : Turned V C R). HasImages x.host) full _ _ (λ e. (txs, N, facts)) (λ e. kept))

    -- ---- the write-back

    -- with the rules
    pub writeback_keeps_rules : Keeps o Stands s txs N → (full : Bool) (pick : ℕ) → Keeps o Stands (writeback o.model o.setup full s pick).host txs N
    writeback_keeps_rules both full pick =
        either (λ (x : Turned V C R). Keeps o Stands x.host txs N) (is_over s.journal.flush) _ _ (λ e. both) (λ e. by (slice_get (filter (λ (p : CachedPage). is_dirty p.state) s.pages) pick) refl)
      where
        by : (x : Option CachedPage) → slice_get (filter (λ (p : CachedPage). is_dirty p.state) s.pages) pick ≡ x → Keeps o Stands (elim x as (λ _. Turned V C R) [
          | None ↦ record { host = s; turn = turns.Idle }
          | Some p ↦ submits o.model o.setup full s (send_page o.model o.setup s p (not (is_submitted s.journal (slice_index_or s.owners p.block 0))) false)
        ]).host txs N
        by None e = both
        by (Some p) e =
            let here = keyed s.pages facts.0.rising p (In-filter (λ (p : CachedPage). is_dirty p.state) s.pages p (slice_get-In (filter (λ (p : CachedPage). is_dirty p.state) s.pages) pick p e)).0 in
            either (λ (x : Turned V C R). Keeps o Stands x.host txs N) (at_limit s.journal.flush) _ _ (λ e. both)
            (λ e. either (λ (x : Turned V C R). Keeps o Stands x.host txs N) full _ _ (λ e. both) (λ e. send_both contract s txs N both p (not (is_submitted s.journal (slice_index_or s.owners p.block 0))) false here))

    -- ---- the flush actor

    pub take_step_keeps : (next : Option Completion) → HasImages (take_step o.model o.setup s next).host
    take_step_keeps None = (txs, N, facts)
    take_step_keeps (Some c) = (txs, N, facts)

    pub flush_step_keeps : (full : Bool) (next : Option Completion) → HasImages (flush_step o.model o.setup full s next).host
    flush_step_keeps full next =
        either (λ (x : Turned V C R). HasImages x.host) (flush_due s.journal.flush) _ _
        (λ e. submits_keeps full _ (
          txs,
          N,
          (request_keeps contract s txs N facts (record { id = length s.journal.flush.requests; kind = puts.Flush; ordered = true; barrier = true }) notes.Flush (λ k e. let z : ⊥ = cc in z) (λ f i w e. let z : ⊥ = cc in z), facts.1),
        ))
        (λ e. take_step_keeps next)

    -- ---- the commit actor

    module _ (order : CommitOrder (session o Stands txs s)) where
      checkpoint_keeps : (homes : List Logged) → HasImages (checkpoint o.model o.setup s homes)
      checkpoint_keeps [] = (
        txs,
        N,
        (
          request_keeps contract s txs N facts (record { id = length s.journal.flush.requests; kind = puts.Put o.setup.journal (o.setup.writers.super (o.setup.sequence + (s.journal.running.number - 1)) s.journal.ring.head); ordered = true; barrier = true }) notes.Super
              (λ k e. let z : ⊥ = cc in z) (λ f i w e. let z : ⊥ = cc in z),
          facts.1,
        ),
      )
      checkpoint_keeps (h ∷ hs) = (
        txs,
        N,
        (
          request_keeps contract s txs N facts (record { id = length s.journal.flush.requests; kind = puts.Put h.block h.body; ordered = true; barrier = elim hs as (λ _. Bool) [ [] ↦ true | x ∷ xs ↦ false ] }) (notes.Home h.block)
              (λ k e. let z : ⊥ = cc in z) (λ f i w e. let z : ⊥ = cc in z),
          facts.1,
        ),
      )

      close_keeps : (full : Bool) → N + 1 ≡ s.journal.running.number → HasImages (close_step o.model o.setup full s).host
      close_keeps full all_closed = by (find (λ p. is_unsent p.state && has s.journal.running.changed p.birth) s.pages) refl
        where
          by : (x : Option CachedPage) → find (λ p. is_unsent p.state && has s.journal.running.changed p.birth) s.pages ≡ x → HasImages (elim x as (λ _. Turned V C R) [
            | Some p ↦ submits o.model o.setup full s (send_page o.model o.setup s p true false)
            | None ↦
                if nat_lt (ring_free s.journal.ring) (log_needs o.setup.writers s.journal.running) then submits o.model o.setup full s (checkpoint o.model o.setup s s.journal.ring.homes)
                else record { host = build_plan o.model o.setup s; turn = turns.Did }
          ]).host
          by (Some p) e = submits_keeps full _ (txs, N, send_keeps contract s txs N facts p true false (keyed s.pages facts.0.rising p (first_page-In (λ p. is_unsent p.state && has s.journal.running.changed p.birth) s.pages p e)))
          by None e =
              either (λ (x : Turned V C R). HasImages x.host) (nat_lt (ring_free s.journal.ring) (log_needs o.setup.writers s.journal.running)) _ _
              (λ d. submits_keeps full _ (checkpoint_keeps s.journal.ring.homes))
              (λ d. (txs ++ closing_transaction contract s txs N facts ∷ [], N, plan_keeps contract s txs N facts order all_closed (all_firm s.journal.running.changed facts.0.sent e)))

      plan_sent_keeps : (p : Plan) (first : Planned) (rest : List Planned) → p.rest ≡ first ∷ rest → InPhase o Stands s.history s.cuts (session o Stands txs s) s.journal.running.number N (Committing p)
          → HasImages (plan_sent o.model o.setup s p first rest)
      plan_sent_keeps p first [] e plan = (txs, N + 1, commit_keeps contract s txs N facts first p (length s.journal.flush.requests) plan.on_way (subst (IsRestOf (s.journal.running.number - 1)) e plan.rest))
      plan_sent_keeps p first (q ∷ qs) e plan =
          let note = subst (IsRestOf (s.journal.running.number - 1)) e plan.rest in (
            txs,
            N,
            (
              rephased (Committing (record p { rest = q ∷ qs }))
                  (record {
                    on_way = plan.on_way;
                    rest = note.1;
                    listed = plan.listed;
                    from = plan.from;
                    within = let l = length-append s.journal.flush.notes (first.note ∷ []) in let le = plan.within in omega arith;
                    owed = way_pushed facts.0.counted request first.note (s.journal.running.number - 1) plan.from
                        (λ f i w z d b maps calm back. absurd (plan_note≢page first.note note.0 f i w d)) (λ f i w z y d b set. plan_note≢page first.note note.0 f i w d) plan.owed;
                    barred = λ f i l maps.
                        ⊎_elim
                        (λ ahead. barred (subst BarrierAhead e ahead))
                        (λ b. inr (b.0, b.1, fence_old s.journal.flush.requests request b.0 b.2))
                        (plan.barred f i l maps);
                  })
                  (request_keeps contract s txs N facts request first.note (plan_note≢commit first.note note.0) (plan_note≢page first.note note.0)),
              facts.1,
            ),
          )
        where
          request : Request
          request = record { id = length s.journal.flush.requests; kind = puts.Put first.block first.body; ordered = true; barrier = first.barrier }

          barred : BarrierAhead (first ∷ q ∷ qs) → BarrierAhead (q ∷ qs) ⊎ ((b : ℕ) × (plan.from ≤ b) × IsFence (s.journal.flush.requests ++ request ∷ []) b)
          barred (inr ahead) = inl ahead
          barred (inl here) = inr (length s.journal.flush.notes, plan.within, fence_new (plainly (session o Stands txs s) facts.0.counted request first.note) (ap (λ t. t || false) here))

      in_phase_keeps : (full : Bool) (phase : Phase) → InPhase o Stands s.history s.cuts (session o Stands txs s) s.journal.running.number N phase → HasImages (in_phase o.model o.setup full s phase).host
      in_phase_keeps full Idle x =
          either (λ (x : Turned V C R). HasImages x.host) (s.journal.running.wanted && is_none (least s.journal.flush.conflicts)) _ _
          (λ e. (txs, N, (rephased Closing x facts.0, facts.1)))
          (λ e. (txs, N, facts))
      in_phase_keeps full Closing x = close_keeps full x
      in_phase_keeps full (Committing p) x = by p.rest refl
        where
          by : (rest : List Planned) → p.rest ≡ rest → HasImages (elim rest as (λ _. Turned V C R) [ [] ↦ record { host = s; turn = turns.Idle } | first ∷ rest ↦ submits o.model o.setup full s (plan_sent o.model o.setup s p first rest) ]).host
          by [] e = absurd (subst (IsRestOf (s.journal.running.number - 1)) e x.rest)
          by (first ∷ rest) e = submits_keeps full _ (plan_sent_keeps p first rest e x)

      pub commit_step_keeps : (full : Bool) → HasImages (commit_step o.model o.setup full s).host
      commit_step_keeps full =
          either (λ (x : Turned V C R). HasImages x.host) (is_over s.journal.flush) _ _ (λ e. (txs, N, facts)) (λ e. in_phase_keeps full s.journal.phase facts.0.in_phase)
