-- Images and ring together: each request that the host submits keeps all order rules, and the facts.
use Rattle.std.proofs.Common.{sym, ap, subst, ◌∙◌, inl, inr, ⊎_elim, arith, length-append}
use Rattle.std.proofs.lemmas.Bool.{false≢true}
use Rattle.std.proofs.lemmas.Option.{none-some}
use Rattle.std.specs.Option.{unwrap_or}
use Rattle.std.specs.Prelude.{◌≡◌, ℕ, ◌+◌, ◌-◌, ◌≤◌, ◌⊎◌, Bool, true, false, List, [], ◌∷◌, ◌++◌, length, Some, None, ◌||◌, refl}
use Rattle.order_model.specs.OrderClosed.{IsFence, kind_body}
use Rattle.order_model.specs.declared.note.Note.TheVariants as notes
use Rattle.order_model.specs.declared.note.Note.{Note}
use Rattle.order_model.specs.declared.request.Kind.TheVariants as puts
use Rattle.order_model.specs.declared.request.Request.{Request}
use Rattle.log_model.specs.Marks.{Logged, Transaction}
use Rattle.volume_ops.specs.Reads.{Reads}
use Rattle.page_cache.specs.Pages.{page_at}
use Rattle.page_cache.specs.declared.cached_page.CachedPage.{CachedPage}
use Rattle.crash_laws.proofs.Growing.{fence_old, fence_new}
use Rattle.crash_laws.proofs.ImageSteps.{page_order_step, data_before_commit_step}
use Rattle.crash_laws.proofs.OrderSteps.{order_rules_step}
use Rattle.crash_laws.specs.laws.Clauses.{FitsClause, ImageClause, OrderClause}
use Rattle.crash_laws.specs.History.{History}
use Rattle.crash_laws.specs.laws.PageClauses.{PageClause}
use Rattle.crash_laws.specs.Rules.{HasHeader}
use Rattle.crash_laws.specs.Session.{Session, log_transaction}
use Rattle.crash_laws.specs.laws.Submitting.{Submitting, after}
use Rattle.host_machine.proofs.ActorSteps.{rephased}
use Rattle.host_machine.proofs.Commits.{commit_owes, commit_owes_images, other_owes, other_owes_images, way_pushed}
use Rattle.host_machine.proofs.PlanSteps.{commit_keeps}
use Rattle.host_machine.proofs.RequestSteps.{send_keeps, request_keeps, page_owes_pages, page_owes_image, page_fits}
use Rattle.host_machine.proofs.Sends.{plainly}
use Rattle.host_machine.specs.Host.{send_planned, committed, checkpoint, send_page, with_flush}
use Rattle.journal_ring.specs.LogRing.{home_sent, all_home}
use Rattle.journal_ring.specs.running.Plan.{Planned}
use Rattle.host_machine.specs.State.{Host}
use Rattle.commit_actor.specs.Journal.{Plan, Phase, Closing, Committing}
use Rattle.flush_actor.specs.Part.{submit}
use Rattle.host_machine.specs.laws.Contract.{Over, Contract, noted_history, InPlan, InPhase, session}
use Rattle.host_machine.specs.laws.PlanNotes.{is_plan_note, IsRestOf, BarrierAhead}
use Rattle.host_machine.specs.laws.Rules.{AllRules}
use Rattle.host_machine.proofs.RunsLemmas.CheckpointSteps.{home_request, super_request}
use Rattle.host_machine.proofs.RunsLemmas.RingHost.{plan_request, plan_commit, home_goes, super_goes, other_kept}
use Rattle.host_machine.proofs.RunsLemmas.RingSteps.{RingClause}
use Rattle.host_machine.specs.runs.laws.Kept.{KeepsRules}
use Rattle.host_machine.specs.runs.laws.RingFacts.{request_of, RingKept}

pub all_rules_step : {A : Type 0} {program : Reads A} {h : History A} (p : Submitting) → AllRules program h p.session → RingClause p → ImageClause program p → PageClause program h p → AllRules program h (after p)
all_rules_step {program = program} {h = h} p old ring images pages =
    let clause : OrderClause program p = record { fits = ring.fits; commits = ring.commits; log = ring.log; checkpoints = ring.checkpoints; images = images } in
    record {
      order = order_rules_step program p old.order clause;
      pages = page_order_step program h p old.order.commits ring.commits old.pages pages;
      committed = data_before_commit_step program h p old.order.commits ring.commits old.committed pages;
    }

-- a request that is no log block, no superblock and no home
pub plain_clause : (p : Submitting) → FitsClause p.session p.request p.note → log_transaction p.note ≡ None → (p.note ≡ notes.Super → ⊥) → ((b : ℕ) → p.note ≡ notes.Home b → ⊥) → HasHeader p.session.sequence p.note (p.session.format.header (unwrap_or (kind_body p.request.kind) [])) → RingClause p
plain_clause p fits no_log no_super no_home header = record {
  fits = fits;
  commits = record {
    numbered = λ k e. absurd (none-some k (sym no_log ∙ e));
    unfinished = λ k e c. none-some k (sym no_log ∙ e);
    behind = λ k e pos. absurd (none-some (k + 1) (sym no_log ∙ e));
    barrier = λ k e. absurd (none-some k (sym no_log ∙ ap log_transaction e));
    closed = λ k i e h. absurd (none-some k (sym no_log ∙ ap log_transaction e));
  };
  log = record {
    place = λ k e. absurd (none-some k (sym no_log ∙ e));
    again = λ k j i b e f h put. absurd (none-some j (sym no_log ∙ e));
    header = header;
    spells = λ k e. absurd (none-some k (sym no_log ∙ ap log_transaction e));
  };
  checkpoints = record {
    super = λ e. absurd (no_super e);
    first = λ e. absurd (none-some 1 (sym no_log ∙ ap log_transaction e));
    before = λ i freed e h. absurd (none-some (freed + 1) (sym no_log ∙ ap log_transaction e));
  };
  home = λ b e. absurd (no_home b e);
}

module _ {A T V C R : Type 0} {o : Over A T V C R} {Stands : V → T → Type 0} (contract : Contract o Stands) where
  module _ (s : Host V C R) (txs : List Transaction) (N : ℕ) (kept : KeepsRules contract s txs N) where
    abbrev sess : Session
    sess = session o Stands txs s

    abbrev h : History A
    h = noted_history o Stands s.history s.cuts

    abbrev counted : length sess.notes ≡ length sess.requests
    counted = kept.images.0.counted

    abbrev sub : Planned → Submitting
    sub q = plainly sess counted (request_of q (length s.journal.flush.requests)) q.note

    ring_as : (phase : Phase) → s.journal.phase ≡ phase → RingKept sess s.journal.ring N phase
    ring_as phase e = subst (RingKept sess s.journal.ring N) e kept.ring

    -- ---- a request of the plan

    note_no : (n m : Note) → is_plan_note n ≡ true → is_plan_note m ≡ false → n ≡ m → ⊥
    note_no n m of_plan other e = false≢true (sym other ∙ sym (ap is_plan_note e) ∙ of_plan)

    pub planned_keeps : (p : Plan) (first q : Planned) (qs : List Planned) → s.journal.phase ≡ Committing p → p.rest ≡ first ∷ q ∷ qs
        → KeepsRules contract (send_planned o.model o.setup (record s { journal = record s.journal { phase = Committing (record p { rest = q ∷ qs }) } }) first) txs N
    planned_keeps p first q qs at left =
        let plan : InPlan o Stands s.history s.cuts sess s.journal.running.number N p = subst (InPhase o Stands s.history s.cuts sess s.journal.running.number N) at kept.images.0.in_phase in
        let note = subst (IsRestOf (s.journal.running.number - 1)) left plan.rest in
        let no_page : (f i v : ℕ) → first.note ≡ notes.Page f i v → ⊥ = λ f i v e. note_no first.note (notes.Page f i v) note.0 refl e in
        let no_commit : (k : ℕ) → first.note ≡ notes.Commit k → ⊥ = λ k e. note_no first.note (notes.Commit k) note.0 refl e in
        let no_home : (b : ℕ) → first.note ≡ notes.Home b → ⊥ = λ b e. note_no first.note (notes.Home b) note.0 refl e in
        let step = plan_request sess counted N kept.rules.order.commits kept.rules.order.log kept.rules.order.checkpoints s.journal.ring p first (q ∷ qs) left q qs refl (ring_as (Committing p) at) in
        record {
          rules = all_rules_step (sub first) kept.rules step.clause
              (other_owes_images counted (request_of first (length s.journal.flush.requests)) first.note no_page no_commit no_home)
              (other_owes counted (request_of first (length s.journal.flush.requests)) first.note no_page no_commit);
          images = (
            rephased contract (Committing (record p { rest = q ∷ qs }))
                (record {
                  on_way = plan.on_way;
                  rest = note.1;
                  listed = plan.listed;
                  from = plan.from;
                  within = let l = length-append s.journal.flush.notes (first.note ∷ []) in let le = plan.within in omega arith;
                  owed = way_pushed counted (request_of first (length s.journal.flush.requests)) first.note (s.journal.running.number - 1) plan.from
                      (λ f i w z e b maps calm back. absurd (no_page f i w e)) (λ f i w z y e b set. no_page f i w e) plan.owed;
                  barred = λ f i l maps.
                      ⊎_elim
                      (λ ahead. barred plan.from plan.within (subst BarrierAhead left ahead))
                      (λ b. inr (b.0, b.1, fence_old s.journal.flush.requests (request_of first (length s.journal.flush.requests)) b.0 b.2))
                      (plan.barred f i l maps);
                })
                (request_keeps contract s txs N kept.images (request_of first (length s.journal.flush.requests)) first.note no_commit no_page),
            kept.images.1,
          );
          ring = step.kept;
        }
      where
        barred : (from : ℕ) → from ≤ length s.journal.flush.notes → BarrierAhead (first ∷ q ∷ qs) → BarrierAhead (q ∷ qs) ⊎ ((b : ℕ) × (from ≤ b) × IsFence (s.journal.flush.requests ++ request_of first (length s.journal.flush.requests) ∷ []) b)
        barred from le (inr ahead) = inl ahead
        barred from le (inl here) = inr (length s.journal.flush.notes, le, fence_new (sub first) (ap (λ t. t || false) here))

    -- ---- the commit block

    pub committed_keeps : (p : Plan) (first : Planned) → s.journal.phase ≡ Committing p → p.rest ≡ first ∷ []
        → KeepsRules contract (committed o.model o.setup (send_planned o.model o.setup s first) (s.journal.running.number - 1) (length s.journal.flush.requests) p) txs (N + 1)
    committed_keeps p first at left =
        let plan : InPlan o Stands s.history s.cuts sess s.journal.running.number N p = subst (InPhase o Stands s.history s.cuts sess s.journal.running.number N) at kept.images.0.in_phase in
        let note : first.note ≡ notes.Commit (s.journal.running.number - 1) = subst (IsRestOf (s.journal.running.number - 1)) left plan.rest in
        let step = plan_commit sess counted N kept.rules.order.commits kept.rules.order.log kept.rules.order.checkpoints s.journal.ring p first [] left refl (ring_as (Committing p) at) in
        let q = request_of first (length s.journal.flush.requests) in
        let fence : (f i : ℕ) → h.changes (s.journal.running.number - 1) f ≡ true → h.maps (h.cut (s.journal.running.number - 1)) f i ≡ true → (b : ℕ) × (plan.from ≤ b) × IsFence s.journal.flush.requests b = λ f i ch maps. ⊎_elim (λ ahead. absurd (subst BarrierAhead left ahead)) (λ b. b) (plan.barred f i (plan.listed f ch) maps) in
        record {
          rules = all_rules_step (sub first) kept.rules step.clause
              (subst (λ n. ImageClause o.program (plainly sess counted q n)) (sym note) (commit_owes_images counted q (s.journal.running.number - 1) plan.from plan.owed fence))
              (subst (λ n. PageClause o.program h (plainly sess counted q n)) (sym note) (commit_owes counted q (s.journal.running.number - 1) plan.from plan.owed fence));
          images = commit_keeps contract s txs N kept.images first p (length s.journal.flush.requests) plan.on_way note;
          ring = step.kept;
        }

    -- ---- the checkpoint

    home_images : (p : Submitting) (b : ℕ) → p.note ≡ notes.Home b → RingClause p → ImageClause o.program p
    home_images p b note clause = record {
      bodies = λ k c x e set. absurd (let z : ⊥ = no_commit k (sym note ∙ e) in z);
      revokes = λ k c e j r. no_commit k (sym note ∙ e);
      logged = λ k c e read. absurd (no_commit k (sym note ∙ e));
      home = clause.home;
      page = λ f i v z k x e put set c. absurd (no_page f i v (sym note ∙ e));
      freed = λ f i v z e put old. absurd (no_page f i v (sym note ∙ e));
    }
      where
        no_commit : (k : ℕ) → notes.Home b ≡ notes.Commit k → ⊥
        no_commit k e = cc

        no_page : (f i v : ℕ) → notes.Home b ≡ notes.Page f i v → ⊥
        no_page f i v e = cc

    pub home_keeps : (b : Logged) (bs : List Logged) → s.journal.phase ≡ Closing → s.journal.ring.homes ≡ b ∷ bs → KeepsRules contract (checkpoint o.model o.setup s (b ∷ bs)) txs N
    home_keeps b bs at homes =
        let barrier = elim bs as (λ _. Bool) [ [] ↦ true | x ∷ xs ↦ false ] in
        let q = home_request b barrier in
        let step = home_goes sess counted N kept.rules.order.commits kept.rules.order.log kept.rules.order.checkpoints s.journal.ring b bs barrier homes (λ e. ap (λ xs. elim xs as (λ _. Bool) [ [] ↦ true | x ∷ xs ↦ false ]) e) (ring_as Closing at) in
        record {
          rules = all_rules_step (sub q) kept.rules step.clause (home_images (sub q) b.block refl step.clause)
              (other_owes counted (request_of q (length s.journal.flush.requests)) (notes.Home b.block) (λ f i v e. let z : ⊥ = cc in z) (λ k e. let z : ⊥ = cc in z));
          images = (request_keeps contract s txs N kept.images (request_of q (length s.journal.flush.requests)) (notes.Home b.block) (λ k e. let z : ⊥ = cc in z) (λ f i w e. let z : ⊥ = cc in z), kept.images.1);
          ring = subst (RingKept (after (sub q)) (home_sent s.journal.ring) N) (sym at) step.kept;
        }

    -- where the writer of superblocks is read back
    pub super_keeps : s.journal.phase ≡ Closing → s.journal.ring.homes ≡ []
        → o.format.tail (o.setup.writers.super (o.setup.sequence + (s.journal.running.number - 1)) s.journal.ring.head) ≡ record { sequence = o.setup.sequence + (s.journal.running.number - 1); start = s.journal.ring.head }
        → KeepsRules contract (checkpoint o.model o.setup s []) txs N
    super_keeps at homes read =
        let body = o.setup.writers.super (o.setup.sequence + (s.journal.running.number - 1)) s.journal.ring.head in
        let q = super_request o.setup.journal body in
        let closed : N + 1 ≡ s.journal.running.number = subst (InPhase o Stands s.history s.cuts sess s.journal.running.number N) at kept.images.0.in_phase in
        let same : o.setup.sequence + (s.journal.running.number - 1) ≡ o.setup.sequence + N = omega arith in
        let fields = read ∙ ap (λ n. record { sequence = n; start = s.journal.ring.head }) same in
        let step = super_goes sess counted N kept.rules.order.commits kept.rules.order.log kept.rules.order.checkpoints s.journal.ring body homes fields (ring_as Closing at) in
        record {
          rules = all_rules_step (sub q) kept.rules step.clause
              (other_owes_images counted (request_of q (length s.journal.flush.requests)) notes.Super (λ f i v e. let z : ⊥ = cc in z) (λ k e. let z : ⊥ = cc in z) (λ b e. let z : ⊥ = cc in z))
              (other_owes counted (request_of q (length s.journal.flush.requests)) notes.Super (λ f i v e. let z : ⊥ = cc in z) (λ k e. let z : ⊥ = cc in z));
          images = (request_keeps contract s txs N kept.images (request_of q (length s.journal.flush.requests)) notes.Super (λ k e. let z : ⊥ = cc in z) (λ f i w e. let z : ⊥ = cc in z), kept.images.1);
          ring = subst (RingKept (after (sub q)) (all_home s.journal.ring) N) (sym at) step.kept;
        }

    -- ---- a page, and a flush

    pub page_keeps : (p : CachedPage) (ordered barrier : Bool) → page_at s.pages p.birth p.index ≡ Some p → KeepsRules contract (send_page o.model o.setup s p ordered barrier) txs N
    page_keeps p ordered barrier here =
        let q : Request = record { id = length s.journal.flush.requests; kind = puts.Put p.block p.body; ordered = ordered; barrier = barrier } in
        let page = plainly sess counted q (notes.Page p.birth p.index p.version) in
        let clause = plain_clause page (page_fits contract refl refl kept.images.0 q p.birth p.index p here refl refl) refl (λ e. let z : ⊥ = cc in z) (λ b e. let z : ⊥ = cc in z) tt in
        record {
          rules = all_rules_step page kept.rules clause (page_owes_image contract refl refl kept.images.0 q p.birth p.index p here refl refl) (page_owes_pages contract refl refl kept.images.0 q p.birth p.index p here refl refl);
          images = send_keeps contract s txs N kept.images p ordered barrier here;
          ring = other_kept page N kept.rules.order.commits clause.commits kept.rules.order.checkpoints s.journal.ring refl (λ e. let z : ⊥ = cc in z) (λ b e. let z : ⊥ = cc in z) s.journal.phase kept.ring (λ k pos. refl);
        }

    abbrev pub flush_request : Request
    flush_request = record { id = length s.journal.flush.requests; kind = puts.Flush; ordered = true; barrier = true }

    pub flush_keeps : KeepsRules contract (with_flush o.model o.setup s (submit flush_request notes.Flush s.journal.flush)) txs N
    flush_keeps =
        let flush = plainly sess counted flush_request notes.Flush in
        let clause = plain_clause flush
        (record {
          home = λ b e. absurd (let z : ⊥ = cc in z);
          super = λ e. absurd (let z : ⊥ = cc in z);
          log = λ k e. absurd (none-some k e);
          page = λ f i v e. absurd (let z : ⊥ = cc in z);
          flush = λ e. refl;
          raw = λ e. cc;
          ordered = λ e. refl;
        }) refl (λ e. let z : ⊥ = cc in z) (λ b e. let z : ⊥ = cc in z) tt in
        record {
          rules = all_rules_step flush kept.rules clause
              (other_owes_images counted flush_request notes.Flush (λ f i v e. let z : ⊥ = cc in z) (λ k e. let z : ⊥ = cc in z) (λ b e. let z : ⊥ = cc in z))
              (other_owes counted flush_request notes.Flush (λ f i v e. let z : ⊥ = cc in z) (λ k e. let z : ⊥ = cc in z));
          images = (request_keeps contract s txs N kept.images flush_request notes.Flush (λ k e. let z : ⊥ = cc in z) (λ f i w e. let z : ⊥ = cc in z), kept.images.1);
          ring = other_kept flush N kept.rules.order.commits clause.commits kept.rules.order.checkpoints s.journal.ring refl (λ e. let z : ⊥ = cc in z) (λ b e. let z : ⊥ = cc in z) s.journal.phase kept.ring (λ k pos. refl);
        }
