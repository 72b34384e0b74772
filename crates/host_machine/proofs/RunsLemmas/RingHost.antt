-- The facts of ring, checkpoint and plan, over the host's state: each step of the commit actor keeps them and owes
-- nothing more of the order rules than what images and pages owe.
use Rattle.std.proofs.Common.{sym, ap, subst, ◌∙◌, inl, inr, ⊎_elim, arith}
use Rattle.std.proofs.lemmas.Bool.{false≢true}
use Rattle.std.proofs.lemmas.Option.{none-some}
use Rattle.std.specs.Prelude.{◌≡◌, ◌≢◌, ℕ, ◌+◌, ◌-◌, ◌≤◌, Bool, true, List, [], ◌∷◌, ◌++◌, length, Option, None, refl}
use Rattle.order_model.specs.declared.note.Note.TheVariants.{Super, Commit, Home}
use Rattle.log_model.specs.Marks.{Logged, Transaction, mark_in, transactions_from}
use Rattle.crash_laws.proofs.LogSteps.{same_transactions}
use Rattle.crash_laws.specs.laws.Clauses.{CommitClause}
use Rattle.crash_laws.specs.Rules.{CommitOrder, LogLayout, CheckpointOrder}
use Rattle.crash_laws.specs.Session.{Session, log_transaction, with_log_block, IsSuperOf}
use Rattle.crash_laws.specs.laws.Submitting.{Submitting, after}
use Rattle.journal_ring.specs.LogRing.{LogRing, ring_free, place_blocks, commit_bodies, home_sent, all_home}
use Rattle.journal_ring.specs.running.Running.{log_blocks_for}
use Rattle.journal_ring.specs.running.Plan.{Writers, Planned, plan_of}
use Rattle.commit_actor.specs.Journal.{Plan, Phase, Idle, Closing, Committing}
use Rattle.host_machine.proofs.RunsLemmas.BuildSteps.{built_plan, built_places}
use Rattle.host_machine.proofs.RunsLemmas.CheckpointSteps.{commit_ring_clause, commit_numbers, commit_places, commit_home_facts, home_request, home_ring_clause, home_numbers, home_places, home_facts_step, super_request, super_ring_clause, super_numbers, super_homes, super_places}
use Rattle.host_machine.proofs.RunsLemmas.GrowingFacts.{places_step, homes_step, numbers_step, plan_stays}
use Rattle.host_machine.proofs.RunsLemmas.RingSteps.{sending, RingClause, next_clause, planned_numbers, planned_homes, planned_places, plan_goes_on, next_planned, is_some}
use Rattle.journal_ring.specs.laws.Homes.{IsApart}
use Rattle.host_machine.specs.runs.laws.RingFacts.{transaction_of_plan, IsOnWay, IsAtRest, RingInPhase, RingKept, AreCommitted, PlaceFacts, HomeFacts, places_of, count, PlanFacts}
use Rattle.host_machine.specs.runs.laws.Written.{IsWord, AreWritten, IsWritable}

count-append : (xs ys : List Planned) → count (xs ++ ys) ≡ count xs + count ys
count-append [] ys = omega arith
count-append (x ∷ xs) ys = let e = count-append xs ys in omega arith

-- the commit block is one log block more
pub count_left : {s : Session} {k start : ℕ} {t : Transaction} {rest : List Planned} → (plan : PlanFacts s k t start rest) → count rest ≡ count plan.before + 1
count_left plan =
    let e = ap count plan.whole ∙ count-append plan.before (plan.commit ∷ []) in
    let c : places_of plan.commit.note ≡ 1 = ap (λ n. length (with_log_block (log_transaction n) 0 [])) plan.last_note in
    omega arith

-- what a step gives: the clause of its request, and the facts behind it
pub record RingStep (p : Submitting) (ring : LogRing) (N : ℕ) (phase : Phase) : Type 0 where
  pub clause : RingClause p
  pub kept : RingKept (after p) ring N phase

module _ (s : Session) (counted : length s.notes ≡ length s.requests) (N : ℕ) (order : CommitOrder s) (layout : LogLayout s) (checkpoints : CheckpointOrder s) (ring : LogRing) where
  abbrev sent : Planned → Submitting
  sent q = sending s counted q s.transactions (λ k i h. refl)

  -- ---- the next request of the plan

  module _ (p : Plan) (first : Planned) (rest : List Planned) (whole : p.rest ≡ first ∷ rest) where
    more_left : (q : Planned) (qs : List Planned) → rest ≡ q ∷ qs → IsOnWay s ring N p → (x : List Planned) → HomeFacts s N ring.homes → (w : IsOnWay s ring N p) → w.plan.before ≡ x → first ∷ q ∷ qs ≡ x ++ w.plan.commit ∷ []
        → RingStep (sent first) ring N (Committing (record p { rest = q ∷ qs }))
    more_left q qs r0 w0 [] homes w e eq = absurd (let c : ⊥ = two eq in c)
      where
        two : {c : Planned} → first ∷ q ∷ qs ≡ c ∷ [] → ⊥
        two e = cc
    more_left q qs r0 w0 (x ∷ bs) homes w e eq =
        let same : x ≡ first = head_of eq in
        let left : q ∷ qs ≡ bs ++ w.plan.commit ∷ [] = tail_of eq in
        let next : w.plan.before ≡ first ∷ bs = e ∙ ap (λ y. y ∷ bs) same in
        let some : count p.rest ≡ count (first ∷ bs) + 1 = count_left w.plan ∙ ap (λ ys. count ys + 1) next in
        let fewer : count p.rest ≡ places_of first.note + count (q ∷ qs) = ap count whole ∙ ap (λ ys. places_of first.note + count ys) r0 in
        let planned = next_planned s counted first bs s.transactions (λ k i h. refl) N order layout checkpoints w.numbers ring (count p.rest) w.places (transaction_of_plan p) w.start p.rest (q ∷ qs) w.plan next some in
        let enough = is_some s counted first bs s.transactions (λ k i h. refl) N order layout checkpoints w.numbers ring (count p.rest) w.places (transaction_of_plan p) w.start p.rest (q ∷ qs) w.plan next some in
        record {
          clause = next_clause s counted first bs s.transactions (λ k i h. refl) N order layout checkpoints w.numbers ring (count p.rest) w.places (transaction_of_plan p) w.start p.rest (q ∷ qs) w.plan next some;
          kept = record {
            homes = planned_homes s counted first bs s.transactions (λ k i h. refl) N order layout checkpoints w.numbers ring (count p.rest) w.places planned enough ring.homes homes;
            in_phase = record {
              start = w.start;
              numbers = planned_numbers s counted first bs s.transactions (λ k i h. refl) N order layout checkpoints w.numbers ring (count p.rest) w.places planned enough;
              plan = plan_goes_on s counted first bs s.transactions (λ k i h. refl) N order layout checkpoints w.numbers ring (count p.rest) w.places (transaction_of_plan p) w.start p.rest (q ∷ qs) w.plan next some left;
              places = planned_places s counted first bs s.transactions (λ k i h. refl) N order layout checkpoints w.numbers ring (count p.rest) w.places planned enough (count (q ∷ qs)) fewer;
              apart = w.apart;
              told = w.told;
              started = w.started;
            };
          };
        }
      where
        head_of : {y z : Planned} {ys zs : List Planned} → y ∷ ys ≡ z ∷ zs → z ≡ y
        head_of e = cc

        tail_of : {y z : Planned} {ys zs : List Planned} → y ∷ ys ≡ z ∷ zs → ys ≡ zs
        tail_of e = cc

    pub plan_request : (q : Planned) (qs : List Planned) → rest ≡ q ∷ qs → RingKept s ring N (Committing p) → RingStep (sent first) ring N (Committing (record p { rest = q ∷ qs }))
    plan_request q qs e kept =
        more_left q qs e kept.in_phase kept.in_phase.plan.before kept.homes kept.in_phase refl (ap (λ xs. first ∷ xs) (sym e) ∙ sym whole ∙ kept.in_phase.plan.whole)

    -- the last one is the commit block
    last_left : (x : List Planned) → HomeFacts s N ring.homes → (w : IsOnWay s ring N p) → w.plan.before ≡ x → first ∷ [] ≡ x ++ w.plan.commit ∷ [] → RingStep (sent first) (commit_bodies p.revokes p.bodies ring) (N + 1) Idle
    last_left (x ∷ bs) homes w e eq = absurd (none bs w.plan.commit (tail_of eq))
      where
        tail_of : {y z : Planned} {ys zs : List Planned} → y ∷ ys ≡ z ∷ zs → ys ≡ zs
        tail_of e = cc

        none : (bs : List Planned) (c : Planned) → [] ≡ bs ++ c ∷ [] → ⊥
        none [] c e = cc
        none (b ∷ bs) c e = cc
    last_left [] homes w e eq =
        let same : w.plan.commit ≡ first = head_of eq in
        let one : count p.rest ≡ 1 = count_left w.plan ∙ ap (λ ys. count ys + 1) e in
        let places : PlaceFacts s ring 1 = subst (PlaceFacts s ring) one w.places in
        let started = w.started in
        let after_commit = commit_places s counted first s.transactions (λ k i h. refl) N order layout checkpoints w.numbers ring places (transaction_of_plan p) w.start p.rest w.plan e same w.told in
        record {
          clause = commit_ring_clause s counted first s.transactions (λ k i h. refl) N order layout checkpoints w.numbers ring places (transaction_of_plan p) w.start p.rest w.plan e same w.told;
          kept = record {
            homes = commit_home_facts s counted first s.transactions (λ k i h. refl) N order layout checkpoints w.numbers ring places (transaction_of_plan p) w.start p.rest w.plan e same w.told ring.homes w.apart homes;
            in_phase = record {
              numbers = commit_numbers s counted first s.transactions (λ k i h. refl) N order layout checkpoints w.numbers ring places (transaction_of_plan p) w.start p.rest w.plan e same w.told;
              places = record { places = after_commit.places; head = after_commit.head; room = after_commit.room; within = after_commit.within; freed = after_commit.freed };
              started = (λ t. omega arith, λ t. absurd (false≢true (sym t ∙ started)));
            };
          };
        }
      where
        head_of : {y z : Planned} {ys zs : List Planned} → y ∷ ys ≡ z ∷ zs → z ≡ y
        head_of e = cc

    pub plan_commit : rest ≡ [] → RingKept s ring N (Committing p) → RingStep (sent first) (commit_bodies p.revokes p.bodies ring) (N + 1) Idle
    plan_commit e kept = last_left kept.in_phase.plan.before kept.homes kept.in_phase refl (ap (λ xs. first ∷ xs) (sym e) ∙ sym whole ∙ kept.in_phase.plan.whole)

  -- ---- the checkpoint

  pub home_goes : (h : Logged) (hs : List Logged) (barrier : Bool) → ring.homes ≡ h ∷ hs → (hs ≡ [] → barrier ≡ true) → RingKept s ring N Closing → RingStep (sent (home_request h barrier)) (home_sent ring) N Closing
  home_goes h hs barrier e last kept =
      let homes = subst (HomeFacts s N) e kept.homes in
      let rest = kept.in_phase in
      let places = home_places s counted h hs barrier s.transactions (λ k i g. refl) N order checkpoints rest.numbers homes ring rest.places in
      let step = home_facts_step s counted h hs barrier s.transactions (λ k i g. refl) N order checkpoints rest.numbers homes last in
      record {
        clause = home_ring_clause s counted h hs barrier s.transactions (λ k i g. refl) N order checkpoints rest.numbers homes;
        kept = record {
          homes = subst (λ xs. HomeFacts (after (sent (home_request h barrier))) N (elim xs as (λ _. List Logged) [ [] ↦ [] | y ∷ ys ↦ ys ])) (sym e) step;
          in_phase = record {
            numbers = home_numbers s counted h hs barrier s.transactions (λ k i g. refl) N order checkpoints rest.numbers homes;
            places = record { places = places.places; head = places.head; room = places.room; within = places.within; freed = places.freed };
            started = rest.started;
          };
        };
      }

  pub super_goes : (body : List ℕ) → ring.homes ≡ [] → s.format.tail body ≡ record { sequence = s.sequence + N; start = ring.head } → RingKept s ring N Closing → RingStep (sent (super_request s.journal body)) (all_home ring) N Closing
  super_goes body e fields kept =
      let homes = subst (HomeFacts s N) e kept.homes in
      let rest = kept.in_phase in
      record {
        clause = super_ring_clause s counted body s.transactions (λ k i g. refl) N order checkpoints rest.numbers ring rest.places homes fields;
        kept = record {
          homes = subst (HomeFacts (after (sent (super_request s.journal body))) N) (sym e) (super_homes s counted body s.transactions (λ k i g. refl) N order checkpoints rest.numbers ring rest.places homes fields);
          in_phase = record {
            numbers = super_numbers s counted body s.transactions (λ k i g. refl) N order checkpoints rest.numbers ring rest.places homes fields;
            places = super_places s counted body s.transactions (λ k i g. refl) N order checkpoints rest.numbers ring rest.places homes fields;
            started = rest.started;
          };
        };
      }

-- ---- a page or a flush goes out

module _ (p : Submitting) (N : ℕ) (order : CommitOrder p.session) (clause : CommitClause p.session p.request p.note) (checkpoints : CheckpointOrder p.session) (ring : LogRing)
    (no_log : log_transaction p.note ≡ None) (no_super : p.note ≢ Super) (no_home : (b : ℕ) → p.note ≡ Home b → ⊥) where
  no_commit : (k : ℕ) → p.note ≡ Commit k → ⊥
  no_commit k e = none-some k (sym no_log ∙ ap log_transaction e)

  other_places : (more : ℕ) → PlaceFacts p.session ring more → PlaceFacts (after p) ring more
  other_places more old =
      let none : places_of p.note ≡ 0 = ap (λ (o : Option ℕ). length (with_log_block o 0 [])) no_log in
      places_step p order clause checkpoints ring more more old (omega arith)

  other_numbers : (M : ℕ) → AreCommitted p.session N M → AreCommitted (after p) N M
  other_numbers M old = numbers_step p order clause checkpoints N M no_commit (λ k e. absurd (none-some k (sym no_log ∙ e))) old

  at_rest : IsAtRest p.session ring N → IsAtRest (after p) ring N
  at_rest old = record { numbers = other_numbers N old.numbers; places = other_places 0 old.places; started = old.started }

  pub other_kept : (phase : Phase) → RingKept p.session ring N phase → ((k : ℕ) → 1 ≤ k → p.transactions k ≡ p.session.transactions k) → RingKept (after p) ring N phase
  other_kept phase old same = by phase old.homes old.in_phase
    where
      by : (phase : Phase) → HomeFacts p.session N ring.homes → RingInPhase p.session ring N phase → RingKept (after p) ring N phase
      by Idle homes x = record { homes = homes_step p order clause checkpoints N N ring.homes x.numbers no_home homes; in_phase = at_rest x }
      by Closing homes x = record { homes = homes_step p order clause checkpoints N N ring.homes x.numbers no_home homes; in_phase = at_rest x }
      by (Committing plan) homes x = record {
        homes = homes_step p order clause checkpoints N (N + 1) ring.homes x.numbers no_home homes;
        in_phase = record {
          start = x.start;
          numbers = other_numbers (N + 1) x.numbers;
          plan = plan_stays p order clause checkpoints (N + 1) x.start (transaction_of_plan plan) plan.rest no_log no_super x.plan;
          places = other_places (count plan.rest) x.places;
          apart = x.apart;
          told = same (N + 1) (omega arith) ∙ x.told;
          started = x.started;
        };
      }

-- ---- the plan is built

-- the facts are told anew, where only a transaction is that is not submitted
module _ (s : Session) (N : ℕ) (order : CommitOrder s) (transactions : ℕ → Transaction) (same : (k : ℕ) → 1 ≤ k → k ≤ N → transactions k ≡ s.transactions k) where
  abbrev told_anew : Session
  told_anew = record s { transactions = transactions }

  super_told : (i freed : ℕ) → IsSuperOf s i freed → IsSuperOf told_anew i freed
  super_told i freed h = record { note = h.note; fields = h.fields }

  mark_told : (j b : ℕ) → j ≤ N → mark_in (transactions_from transactions 1 j) b ≡ mark_in (transactions_from s.transactions 1 j) b
  mark_told j b le = ap (λ txs. mark_in txs b) (same_transactions transactions s.transactions 1 j (λ k lo hi. same k lo (omega arith)))

  numbers_told : (M : ℕ) → AreCommitted s N M → AreCommitted told_anew N M
  numbers_told M old = record { there = old.there; only = old.only; logs = old.logs; within = old.within }

  places_told : (ring : LogRing) (more : ℕ) → PlaceFacts s ring more → PlaceFacts told_anew ring more
  places_told ring more old = record {
    places = old.places;
    head = old.head;
    room = old.room;
    within = old.within;
    freed = λ n e h. ⊎_elim (λ u. inl u) (λ f. inr (f.0, f.1, super_told f.0 f.1 f.2, f.3, f.4)) (old.freed n e h);
  }

  homes_told : (homes : List Logged) → HomeFacts s N homes → HomeFacts told_anew N homes
  homes_told homes old = record {
    rising = old.rising;
    newest = λ l i. mark_told N l.block (omega arith) ∙ old.newest l i;
    pending = λ b x set.
        ⊎_elim (λ i. inl i)
        (λ d. inr (record { home = d.home; note = d.note; body = d.body; since = d.since; committed = d.committed; within = d.within; stays = λ j lo hi. mark_told j b hi ∙ d.stays j lo hi }))
        (old.pending b x (sym (mark_told N b (omega arith)) ∙ set));
    closed = old.closed;
  }

  plan_told : (k start : ℕ) (t : Transaction) (rest : List Planned) → PlanFacts s k t start rest → PlanFacts told_anew k t start rest
  plan_told k start t rest old = record {
    before = old.before;
    commit = old.commit;
    whole = old.whole;
    planned = old.planned;
    last_note = old.last_note;
    last_block = old.last_block;
    last_barrier = old.last_barrier;
    last_header = old.last_header;
    fenced = old.fenced;
    closed = λ e. ⊎_elim (λ c. inl (record { fence = c.fence; is_fence = c.is_fence; begun = c.begun; logs = c.logs; supers = c.supers })) (λ n. inr n) (old.closed e);
    begun = old.begun;
    first = λ e. ⊎_elim (λ x. inl (x.0, super_told x.0 0 x.1)) (λ q. inr q) (old.first e);
    spells = old.spells;
  }

  pub plan_is_built : (w : Writers) (p : Plan) (ring : LogRing) → AreWritten s.format w → IsWritable (transaction_of_plan p) → IsApart (transaction_of_plan p) → IsWord (s.sequence + (N + 1 - 1)) → IsWord s.head → transactions (N + 1) ≡ transaction_of_plan p
      → log_blocks_for w (length p.bodies) (length p.revokes) ≤ ring_free ring
      → p.rest ≡ plan_of w s.journal ring.places ring.head ring.started (N + 1) (s.sequence + (N + 1 - 1)) p.bodies p.revokes
      → RingKept s ring N Closing → RingKept told_anew (record (place_blocks (log_blocks_for w (length p.bodies) (length p.revokes)) ring) { started = true }) N (Committing p)
  plan_is_built w p ring written writable apart fits head_fits told room is_plan kept =
      let rest = kept.in_phase in
      let plan = built_plan w s N (transaction_of_plan p) ring order rest.numbers rest.places written writable fits head_fits rest.started.0 rest.started.1 in
      let places = built_places w s N (transaction_of_plan p) ring order rest.numbers rest.places written writable fits head_fits rest.started.0 rest.started.1 room in
      let old = rest.numbers in
      let more : AreCommitted s N (N + 1) = record { there = old.there; only = old.only; logs = λ k i h. (let le = old.logs k i h in omega arith); within = omega arith } in
      let told_plan = plan_told (N + 1) (length s.notes) (transaction_of_plan p) _ plan in
      record {
        homes = homes_told ring.homes kept.homes;
        in_phase = record {
          start = length s.notes;
          numbers = numbers_told (N + 1) more;
          plan = record {
            before = told_plan.before;
            commit = told_plan.commit;
            whole = is_plan ∙ told_plan.whole;
            planned = told_plan.planned;
            last_note = told_plan.last_note;
            last_block = told_plan.last_block;
            last_barrier = told_plan.last_barrier;
            last_header = told_plan.last_header;
            fenced = told_plan.fenced;
            closed = told_plan.closed;
            begun = told_plan.begun;
            first = told_plan.first;
            spells = told_plan.spells;
          };
          places = places_told (record (place_blocks (log_blocks_for w (length p.bodies) (length p.revokes)) ring) { started = true }) (count p.rest) (subst (PlaceFacts s (record (place_blocks (log_blocks_for w (length p.bodies) (length p.revokes)) ring) { started = true })) (sym (ap count is_plan ∙ count-append _ _)) places);
          apart = apart;
          told = told;
          started = refl;
        };
      }
