-- One request more: what becomes of the facts of ring, checkpoint and plan, whatever the request is.
use Rattle.std.proofs.Common.{sym, ap, subst, ◌∙◌, inl, inr, ⊎_elim, arith, append-nil, length-append, eq-eqb}
use Rattle.std.proofs.lemmas.Bool.{cases_lt, cond-true}
use Rattle.std.proofs.lemmas.List.Elements.{filter-append}
use Rattle.std.proofs.lemmas.Option.{none-some, same_Some}
use Rattle.std.specs.Option.{option_and_then, unwrap_or}
use Rattle.std.specs.Prelude.{◌≡◌, ◌≢◌, ℕ, ◌+◌, ◌<◌, ◌≤◌, ◌==◌, ◌⊎◌, List, [], ◌∷◌, ◌++◌, length, Option, Some, None, slice_get, refl}
use Rattle.blk_base.specs.Members.{In}
use Rattle.blk_base.specs.laws.Members.{In-filter, slice_get-push_cases}
use Rattle.order_model.specs.OrderClosed.{kind_body}
use Rattle.order_model.specs.declared.note.Note.TheVariants.{Super, Commit, Home}
use Rattle.order_model.specs.declared.request.Request.{Request}
use Rattle.log_model.specs.Log.{Spells}
use Rattle.log_model.specs.Marks.{Logged, Transaction, mark_in, transactions_from}
use Rattle.log_model.specs.Ring.{places_on}
use Rattle.crash_laws.proofs.Growing.{note_old, note_cases, log_within, log_cases, commit_before_old, request_new, request_old, fence_old, body_old}
use Rattle.crash_laws.proofs.LogBlocks.{In-log_blocks}
use Rattle.crash_laws.proofs.LogSteps.{log_blocks-push, super_old, mark_old, below_submitted}
use Rattle.crash_laws.specs.laws.Clauses.{CommitClause}
use Rattle.crash_laws.specs.laws.RingFacts.{IsAtHome}
use Rattle.crash_laws.specs.Rules.{CommitOrder, CheckpointOrder}
use Rattle.crash_laws.specs.Session.{Session, log_transaction, IsSubmitted, Before, Submitted, body_at, LogBlock, with_log_block, log_blocks, log_blocks_of, bodies_of, sequence_of}
use Rattle.crash_laws.specs.laws.Submitting.{Submitting, after, new_place}
use Rattle.journal_ring.specs.LogRing.{LogRing}
use Rattle.journal_ring.specs.running.Plan.{Planned}
use Rattle.host_machine.specs.runs.laws.RingFacts.{AreCommitted, PlaceFacts, HomeFacts, places_of, if_log, count, log_bytes, ArePlanned, IsClosed, PlanFacts}

-- ---- numbers

pub number_submitted : (s : Session) (N M : ℕ) → AreCommitted s N M → IsSubmitted s N
number_submitted s N M numbers =
    ⊎_elim
    (λ pos. let c = numbers.there N pos (omega arith) in Submitted c.0 c.1)
    (λ z. Before (omega arith))
    (cases_lt 0 N)

one_more : (o : Option ℕ) (i : ℕ) → length (with_log_block o i []) ≡ length (with_log_block o 0 [])
one_more None i = refl
one_more (Some k) i = refl

module _ (p : Submitting) where
  pub entries_grown : log_blocks (after p) ≡ log_blocks p.session ++ with_log_block (log_transaction p.note) (new_place p) []
  entries_grown =
      let e : 0 + length p.session.notes ≡ new_place p = omega arith in
      log_blocks-push 0 p.session.notes p.note ∙ ap (λ j. log_blocks p.session ++ with_log_block (log_transaction p.note) j []) e

  pub count_grown : length (log_blocks (after p)) ≡ length (log_blocks p.session) + places_of p.note
  count_grown =
      ap length entries_grown ∙ length-append (log_blocks p.session) (with_log_block (log_transaction p.note) (new_place p) []) ∙ ap (λ n. length (log_blocks p.session) + n) (one_more (log_transaction p.note) (new_place p))

  entry_grown_cases : (n : ℕ) (e : LogBlock) → slice_get (log_blocks (after p)) n ≡ Some e → (slice_get (log_blocks p.session) n ≡ Some e) ⊎ ((n ≡ length (log_blocks p.session)) × (log_transaction p.note ≡ Some e.transaction))
  entry_grown_cases n e h = by (log_transaction p.note) refl (sym (ap (λ xs. slice_get xs n) entries_grown) ∙ h)
    where
      by : (o : Option ℕ) → log_transaction p.note ≡ o → slice_get (log_blocks p.session ++ with_log_block o (new_place p) []) n ≡ Some e → (slice_get (log_blocks p.session) n ≡ Some e) ⊎ ((n ≡ length (log_blocks p.session)) × (log_transaction p.note ≡ Some e.transaction))
      by None q k = inl (sym (ap (λ xs. slice_get xs n) (append-nil (log_blocks p.session))) ∙ k)
      by (Some t) q k =
          ⊎_elim (λ o. inl o) (λ r. inr (r.0, q ∙ ap (λ (x : LogBlock). Some x.transaction) r.1))
          (slice_get-push_cases (log_blocks p.session) (record { id = new_place p; transaction = t }) n e k)

  -- ---- bodies of log blocks

  body_stays : (i : ℕ) → i < new_place p → body_at (after p) i ≡ body_at p.session i
  body_stays i lt = ap (λ o. unwrap_or (option_and_then (λ (r : Request). kind_body r.kind) o) []) (request_old p i lt)

  new_body : body_at (after p) (new_place p) ≡ unwrap_or (kind_body p.request.kind) []
  new_body = ap (λ o. unwrap_or (option_and_then (λ (r : Request). kind_body r.kind) o) []) (request_new p)

  entry_within : (e : LogBlock) → In e (log_blocks p.session) → e.id < new_place p
  entry_within e i =
      let d = In-log_blocks 0 p.session.notes e i in
      let at = d.1 in
      let lt = log_within p e.transaction d.0 d.2 in
      omega arith

  bodies_stay : (es : List LogBlock) → ((e : LogBlock) → In e es → e.id < new_place p) → bodies_of (after p) es ≡ bodies_of p.session es
  bodies_stay [] h = refl
  bodies_stay (e ∷ es) h =
      ap (λ x. x ∷ bodies_of (after p) es) (body_stays e.id (h e (inl refl))) ∙ ap (λ xs. body_at p.session e.id ∷ xs) (bodies_stay es (λ x i. h x (inr i)))

  bodies-append : (s : Session) (xs ys : List LogBlock) → bodies_of s (xs ++ ys) ≡ bodies_of s xs ++ bodies_of s ys
  bodies-append s [] ys = refl
  bodies-append s (x ∷ xs) ys = ap (λ zs. body_at s x.id ∷ zs) (bodies-append s xs ys)

  -- the log blocks of k, where the new request is one of them or none of all
  pub bodies_grown : (k : ℕ) → (log_transaction p.note ≡ None) ⊎ (log_transaction p.note ≡ Some k)
      → bodies_of (after p) (log_blocks_of k (log_blocks (after p))) ≡ bodies_of p.session (log_blocks_of k (log_blocks p.session)) ++ if_log (log_transaction p.note) (unwrap_or (kind_body p.request.kind) [])
  bodies_grown k c =
      ap (λ es. bodies_of (after p) (log_blocks_of k es)) entries_grown
      ∙ ap (bodies_of (after p)) (filter-append (λ (e : LogBlock). e.transaction == k) (log_blocks p.session) (with_log_block (log_transaction p.note) (new_place p) []))
      ∙ bodies-append (after p) (log_blocks_of k (log_blocks p.session)) (log_blocks_of k (with_log_block (log_transaction p.note) (new_place p) []))
      ∙ ap (λ bs. bs ++ bodies_of (after p) (log_blocks_of k (with_log_block (log_transaction p.note) (new_place p) [])))
      (bodies_stay (log_blocks_of k (log_blocks p.session)) (λ e i. entry_within e (In-filter (λ (x : LogBlock). x.transaction == k) (log_blocks p.session) e i).0))
      ∙ ap (λ bs. bodies_of p.session (log_blocks_of k (log_blocks p.session)) ++ bs) (one (log_transaction p.note) c)
    where
      one : (o : Option ℕ) → (o ≡ None) ⊎ (o ≡ Some k) → bodies_of (after p) (log_blocks_of k (with_log_block o (new_place p) [])) ≡ if_log o (unwrap_or (kind_body p.request.kind) [])
      one None c = refl
      one (Some j) (inl e) = absurd (none-some j (sym e))
      one (Some j) (inr e) =
          let test = eq-eqb j k (same_Some j k e) in
          ap (bodies_of (after p)) (cond-true (j == k) (record { id = new_place p; transaction = j } ∷ []) [] test) ∙ ap (λ x. x ∷ []) new_body

  -- ---- facts

  module _ (order : CommitOrder p.session) (clause : CommitClause p.session p.request p.note) (checkpoints : CheckpointOrder p.session) where
    -- places
    pub places_step : (ring : LogRing) (more left : ℕ) → PlaceFacts p.session ring more → more ≡ places_of p.note + left → PlaceFacts (after p) ring left
    places_step ring more left old e =
        let grown = count_grown in
        let total : length (log_blocks p.session) + more ≡ length (log_blocks (after p)) + left = omega arith in
        let hi = old.within in
        record {
          places = old.places;
          head = old.head ∙ ap (λ n. places_on p.session.ring n p.session.head) total;
          room = old.room;
          within = omega arith;
          freed = λ n x h.
              ⊎_elim
              (λ o.
              ⊎_elim
              (λ used. inl (omega arith))
              (λ f. inr (f.0, f.1, super_old p order clause checkpoints f.0 f.1 f.2, f.3, f.4))
              (old.freed n x o))
              (λ m. let at = m.0 in inl (omega arith))
              (entry_grown_cases n x h);
        }

    mark_stays : (N M j b : ℕ) → AreCommitted p.session N M → j ≤ N → mark_in (transactions_from p.transactions 1 j) b ≡ mark_in (transactions_from p.session.transactions 1 j) b
    mark_stays N M j b numbers le = mark_old p order clause checkpoints j b (below_submitted p order clause checkpoints j N (number_submitted p.session N M numbers) le)

    pub at_home_old : (N M b : ℕ) (x : List ℕ) → AreCommitted p.session N M → IsAtHome p.session b x N → IsAtHome (after p) b x N
    at_home_old N M b x numbers d = record {
      home = d.home;
      note = note_old p d.home (Home b) d.note;
      body = body_old p.session.requests p.request d.home x d.body;
      since = d.since;
      committed = commit_before_old p d.since d.home d.committed;
      within = d.within;
      stays = λ j lo hi. mark_stays N M j b numbers hi ∙ d.stays j lo hi;
    }

    -- homes, where the request is neither a Home nor a commit block
    pub homes_step : (N M : ℕ) (homes : List Logged) → AreCommitted p.session N M → ((b : ℕ) → p.note ≡ Home b → ⊥) → HomeFacts p.session N homes → HomeFacts (after p) N homes
    homes_step N M homes numbers no_home old = record {
      rising = old.rising;
      newest = λ l i. mark_stays N M N l.block numbers (omega arith) ∙ old.newest l i;
      pending = λ b x set. ⊎_elim (λ i. inl i) (λ d. inr (at_home_old N M b x numbers d)) (old.pending b x (sym (mark_stays N M N b numbers (omega arith)) ∙ set));
      closed = λ none i b h.
          ⊎_elim
          (λ o. let c = old.closed none i b o in (c.0, c.1, fence_old p.session.requests p.request c.0 c.2))
          (λ n. absurd (no_home b n.1))
          (note_cases p i (Home b) h);
    }

    -- numbers, where it is no commit block
    pub numbers_step : (N M : ℕ) → ((k : ℕ) → p.note ≡ Commit k → ⊥) → ((k : ℕ) → log_transaction p.note ≡ Some k → k ≤ M) → AreCommitted p.session N M → AreCommitted (after p) N M
    numbers_step N M no_commit new old = record {
      there = λ k lo hi. let c = old.there k lo hi in (c.0, note_old p c.0 (Commit k) c.1);
      only = λ k c h. ⊎_elim (λ o. old.only k c o) (λ n. absurd (no_commit k n.1)) (note_cases p c (Commit k) h);
      logs = λ k i h. ⊎_elim (λ o. old.logs k i o) (λ n. new k n.1) (log_cases p k i h);
      within = old.within;
    }

    -- a plan, where the request is none of its own
    pub plan_stays : (k start : ℕ) (t : Transaction) (rest : List Planned) → log_transaction p.note ≡ None → p.note ≢ Super → PlanFacts p.session k t start rest → PlanFacts (after p) k t start rest
    plan_stays k start t rest none no_super old =
        let same : length (log_blocks (after p)) ≡ length (log_blocks p.session) = count_grown ∙ ap (λ (o : Option ℕ). length (log_blocks p.session) + length (with_log_block o 0 [])) none ∙ plus_none (length (log_blocks p.session)) in
        let begun = old.begun in
        let longer = length-append p.session.notes (p.note ∷ []) in
        record {
          before = old.before;
          commit = old.commit;
          whole = old.whole;
          planned = subst (λ n. ArePlanned p.session k n old.before) (sym same) old.planned;
          last_note = old.last_note;
          last_block = subst (λ n. old.commit.block ≡ p.session.journal + places_on p.session.ring (n + count old.before) p.session.head) (sym same) old.last_block;
          last_barrier = old.last_barrier;
          last_header = old.last_header;
          fenced = old.fenced;
          closed = λ e. ⊎_elim (λ c. inl (closed_old c)) (λ n. inr (n.0, λ i h. ⊎_elim (λ o. n.1 i o) (λ l. absurd (none-some k (sym none ∙ l.1))) (log_cases p k i h), n.2)) (old.closed e);
          begun = omega arith;
          first = λ e. ⊎_elim (λ x. inl (x.0, super_old p order clause checkpoints x.0 0 x.1)) (λ q. inr q) (old.first e);
          spells =
              subst (λ bs. Spells p.session.format (sequence_of p.session k) (bs ++ (log_bytes old.before ++ old.commit.body ∷ [])) t)
              (sym (bodies_grown k (inl none) ∙ ap (λ (o : Option ℕ). bodies_of p.session (log_blocks_of k (log_blocks p.session)) ++ if_log o (unwrap_or (kind_body p.request.kind) [])) none ∙ append-nil (bodies_of p.session (log_blocks_of k (log_blocks p.session)))))
              old.spells;
        }
      where
        plus_none : (n : ℕ) → n + 0 ≡ n
        plus_none n = omega arith

        closed_old : IsClosed p.session k start → IsClosed (after p) k start
        closed_old c = record {
          fence = c.fence;
          is_fence = fence_old p.session.requests p.request c.fence c.is_fence;
          begun = c.begun;
          logs = λ i h. ⊎_elim (λ o. c.logs i o) (λ l. absurd (none-some k (sym none ∙ l.1))) (log_cases p k i h);
          supers = λ e i h. ⊎_elim (λ o. c.supers e i o) (λ l. absurd (no_super l.1)) (note_cases p i Super h);
        }
