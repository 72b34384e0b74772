-- The plan and the commit block keep the facts of images.
use Rattle.std.proofs.Common.{sym, ap, subst, ◌∙◌, inl, inr, arith, length-append}
use Rattle.std.proofs.lemmas.Bool.{cases_lt, false≢true}
use Rattle.std.specs.Prelude.{◌≡◌, ℕ, ◌+◌, ◌-◌, ◌<◌, ◌≤◌, ◌⊎◌, true, false, List, [], ◌∷◌, ◌++◌, length, Some, slice_index_or, refl}
use Rattle.blk_base.specs.Members.{In}
use Rattle.order_model.specs.declared.note.Note.TheVariants as notes
use Rattle.order_model.specs.declared.request.Kind.TheVariants as puts
use Rattle.order_model.specs.declared.request.Request.{Request}
use Rattle.log_model.specs.Marks.{Transaction}
use Rattle.volume_ops.specs.Reads.{answer}
use Rattle.page_cache.specs.Pages.{page_at}
use Rattle.page_cache.specs.declared.cached_page.CachedPage.{CachedPage}
use Rattle.page_cache.specs.declared.cached_page.PageState.TheVariants.{Firm}
use Rattle.crash_laws.specs.History.{History}
use Rattle.crash_laws.specs.Rules.{CommitOrder}
use Rattle.crash_laws.specs.Session.{image_of}
use Rattle.crash_laws.specs.laws.Submitting.{Submitting, after}
use Rattle.host_machine.proofs.Entries.{trees_noted, cut_noted, history_noted, index_push, index_push_left}
use Rattle.host_machine.proofs.Machine.{plain_at}
use Rattle.host_machine.proofs.PlanNotes.{plan-rest, plan-barrier}
use Rattle.host_machine.proofs.Plans.{walk_before, walk_of_image, bodies_in, on_its_way, numbers_closed, present_closed, bodies_closed, plan_revokes_closed, places_closed, opened_closed, sent_told, history_told}
use Rattle.host_machine.proofs.Sends.{plainly, page≢commit, numbers_committed, history_committed, opened_committed, sent_pushed}
use Rattle.host_machine.specs.Host.{build_plan, committed, send_planned}
use Rattle.journal_ring.specs.running.Plan.{Planned, plan_of}
use Rattle.host_machine.specs.State.{Host}
use Rattle.commit_actor.specs.Journal.{Plan}
use Rattle.host_machine.specs.Views.{cut_of, some_in, alters_at, tree_after, transaction_of, waits_for}
use Rattle.host_machine.specs.laws.Contract.{IsAlike, Over, view_of, Contract, noted_history, ImagesFacts, session, KeepsImages}
use Rattle.host_machine.specs.laws.Facts.{View, Numbers, Present, Bodies, KeepsPlaces, PagesMapped, ZoneHistory, OpenedZones, Altered, OnItsWay}
use Rattle.host_machine.specs.laws.PlanNotes.{IsRestOf, BarrierAhead}

module _ {A T V C R : Type 0} {o : Over A T V C R} {Stands : V → T → Type 0} (contract : Contract o Stands) (s : Host V C R) (txs : List Transaction) (N : ℕ) (facts : KeepsImages o Stands s txs N) where
  abbrev now : ℕ
  now = length s.history

  abbrev r : ℕ
  r = s.journal.running.number

  -- ---- the plan

  -- the running transaction, with the bodies that its blocks have now
  abbrev pub closing_transaction : Transaction
  closing_transaction = record { bodies = bodies_in (o.model.bytes s.volume) s.journal.running.touched; revokes = s.journal.running.revoked }

  module _ (order : CommitOrder (session o Stands txs s)) (all_closed : N + 1 ≡ r)
      (all_sent : (f i : ℕ) (p : CachedPage) → In f s.journal.running.changed → page_at s.pages f i ≡ Some p → p.state ≡ Firm) where
    -- with the cut noted
    abbrev before : History A
    before = noted_history o Stands s.history s.cuts

    abbrev after_plan : History A
    after_plan = noted_history o Stands s.history (s.cuts ++ now ∷ [])

    same_history : before ≡ after_plan
    same_history = history_noted o.model o.place s.history s.cuts

    same_transactions_told : (k : ℕ) → 1 ≤ k → k < r → transaction_of (txs ++ closing_transaction ∷ []) k ≡ transaction_of txs k
    same_transactions_told k lo hi = let e = facts.1 in index_push_left txs closing_transaction (k - 1) (record { bodies = []; revokes = [] }) (omega arith)

    new_transaction : transaction_of (txs ++ closing_transaction ∷ []) r ≡ closing_transaction
    new_transaction =
        let e : r - 1 ≡ length txs = let l = facts.1 in omega arith in
        ap (λ k. slice_index_or (txs ++ closing_transaction ∷ []) k (record { bodies = []; revokes = [] })) e ∙ index_push txs closing_transaction (record { bodies = []; revokes = [] })

    abbrev transactions : ℕ → Transaction
    transactions = transaction_of (txs ++ closing_transaction ∷ [])

    -- The plan is built, and the next transaction runs.
    pub plan_keeps : KeepsImages o Stands (build_plan o.model o.setup s) (txs ++ closing_transaction ∷ []) N
    plan_keeps =
        let f = facts.0 in
        let trees = trees_noted o.model contract.trees o.place s.history s.cuts f.rise in
        let plain = plain_at contract s.history s.cuts (session o Stands txs s) s.volume now refl refl f.stands in (
          record {
            counted = f.counted;
            closed = let l = length-append s.cuts (now ∷ []) in let c = f.closed in omega arith;
            rise = λ k. let a = cut_noted s.cuts now k in let b = cut_noted s.cuts now (k + 1) in let up = f.rise k in omega arith;
            stands = f.stands;
            numbers = subst (λ h. Numbers h (record (session o Stands txs s) { transactions = transactions }) now (r + 1) N) same_history (numbers_closed trees order f.numbers plain f.present f.bodies f.zones transactions same_transactions_told new_transaction all_closed);
            present = present_closed trees order f.numbers plain f.present f.bodies f.zones transactions same_transactions_told new_transaction all_closed;
            bodies = bodies_closed trees order f.numbers plain f.present f.bodies f.zones transactions same_transactions_told new_transaction all_closed;
            plan_revokes = plan_revokes_closed trees order f.numbers plain f.present f.bodies f.zones transactions same_transactions_told new_transaction all_closed;
            alike = λ k lt. alike k lt (cases_lt k r);
            places = subst (λ h. KeepsPlaces o.program h (record (session o Stands txs s) { transactions = transactions }) now (r + 1) (view_of o s.volume)) same_history
                (places_closed trees order f.numbers plain f.present f.bodies f.zones transactions same_transactions_told new_transaction all_closed f.places);
            mapped = subst (λ h. PagesMapped h now (view_of o s.volume) s.pages) same_history f.mapped;
            rising = f.rising;
            sent = sent_told transactions f.sent;
            zones = subst (λ h. ZoneHistory h (record (session o Stands txs s) { transactions = transactions }) now N (view_of o s.volume)) same_history (history_told transactions f.zones);
            opened = subst (λ h. OpenedZones o.program h (record (session o Stands txs s) { transactions = transactions }) now (r + 1) N (view_of o s.volume) []) same_history
                (opened_closed trees order f.numbers plain f.present f.bodies f.zones transactions same_transactions_told new_transaction all_closed f.opened);
            altered = subst (λ h. Altered h (record (session o Stands txs s) { transactions = transactions }) (r + 1) (view_of o s.volume) [] []) same_history
                (record { listed = λ g ch. absurd (false≢true (sym (none_yet g) ∙ ch)); not_empty = λ g i z l. absurd l });
            in_phase = record {
              on_way = let e : N + 2 ≡ r + 1 = omega arith in e;
              rest = subst (λ k. IsRestOf k (planned s.journal.running.touched)) (sym last)
                  (plan-rest o.setup.writers o.setup.journal s.journal.ring.places s.journal.ring.head s.journal.ring.started r (o.setup.sequence + (r - 1)) closing_transaction.bodies s.journal.running.revoked);
              listed = λ g ch. f.altered.listed g (ap (λ k. before.changes k g) (sym last) ∙ ap (λ (h : History A). h.changes (r + 1 - 1) g) same_history ∙ ch);
              from = length s.journal.flush.notes;
              within = omega arith;
              owed = subst (λ h. OnItsWay o.program h (record (session o Stands txs s) { transactions = transactions }) (r + 1 - 1) (length s.journal.flush.notes)) same_history
                  (subst (λ k. OnItsWay o.program before (record (session o Stands txs s) { transactions = transactions }) k (length s.journal.flush.notes)) (sym last)
                  (on_its_way trees order f.numbers plain f.present f.bodies f.zones transactions same_transactions_told new_transaction all_closed f.mapped f.sent f.altered f.opened all_sent));
              barred = λ g i l maps.
                  let cut : after_plan.cut (r + 1 - 1) ≡ now = ap after_plan.cut last ∙ cut_noted s.cuts now r ∙ f.numbers.running r (omega arith) in
                  let z = plain.there g i (ap (λ n. before.maps n g i) (sym cut) ∙ maps) in
                  let b = f.altered.not_empty g i z.0 l z.1 in
                  inl (barred s.journal.running.touched b.0 b.1);
            };
          },
          let l = length-append txs (closing_transaction ∷ []) in let c = facts.1 in omega arith,
        )
      where
        last : r + 1 - 1 ≡ r
        last = omega arith

        alike : (k : ℕ) → k < r + 1 → (k < r) ⊎ (r ≤ k) → IsAlike o Stands (answer (image_of (record (session o Stands txs s) { transactions = transactions }) k) o.program) (tree_after o.model s.history (cut_of (s.cuts ++ now ∷ []) now k))
        alike k lt (inl below) =
            let x = facts.0.alike k below in
            let f = facts.0 in
            let trees = trees_noted o.model contract.trees o.place s.history s.cuts f.rise in
            let plain = plain_at contract s.history s.cuts (session o Stands txs s) s.volume now refl refl f.stands in (
              x.0,
              subst (λ n. Stands x.0 (tree_after o.model s.history n)) (sym (cut_noted s.cuts now k)) x.1,
              x.2 ∙ sym (walk_before trees order f.numbers plain f.present f.bodies f.zones transactions same_transactions_told new_transaction all_closed k below),
            )
        alike k lt (inr above) =
            let e : r ≡ k = omega arith in
            let f = facts.0 in
            let trees = trees_noted o.model contract.trees o.place s.history s.cuts f.rise in
            let plain = plain_at contract s.history s.cuts (session o Stands txs s) s.volume now refl refl f.stands in
            subst (λ n. IsAlike o Stands (answer (image_of (record (session o Stands txs s) { transactions = transactions }) n) o.program) (tree_after o.model s.history (cut_of (s.cuts ++ now ∷ []) now n))) e (
              s.volume,
              subst (λ n. Stands s.volume (tree_after o.model s.history n)) (sym (cut_noted s.cuts now r ∙ f.numbers.running r (omega arith))) f.stands,
              sym (walk_of_image trees order f.numbers plain f.present f.bodies f.zones transactions same_transactions_told new_transaction all_closed),
            )

        planned : List ℕ → List Planned
        planned blocks = plan_of o.setup.writers o.setup.journal s.journal.ring.places s.journal.ring.head s.journal.ring.started r (o.setup.sequence + (r - 1)) (bodies_in (o.model.bytes s.volume) blocks) s.journal.running.revoked

        barred : (blocks : List ℕ) (b : ℕ) → In b blocks → BarrierAhead (planned blocks)
        barred [] b i = absurd i
        barred (x ∷ xs) b i =
            plan-barrier o.setup.writers o.setup.journal s.journal.ring.places s.journal.ring.head s.journal.ring.started r (o.setup.sequence + (r - 1)) (record { block = x; body = o.model.bytes s.volume x }) (bodies_in (o.model.bytes s.volume) xs) s.journal.running.revoked

        none_yet : (g : ℕ) → before.changes (r + 1) g ≡ false
        none_yet g =
            let a : cut_of s.cuts now (r + 1) ≡ now = facts.0.numbers.running (r + 1) (omega arith) in
            let b : cut_of s.cuts now r ≡ now = facts.0.numbers.running r (omega arith) in
            ap (λ k. some_in (λ n. alters_at o.model s.history n g) (cut_of s.cuts now k) (cut_of s.cuts now (r + 1) - cut_of s.cuts now k)) last
            ∙ ap (some_in (λ n. alters_at o.model s.history n g) (cut_of s.cuts now r)) (let d : cut_of s.cuts now (r + 1) - cut_of s.cuts now r ≡ 0 = omega arith in d)

  -- ---- the commit block

  -- The last request of a plan is the commit block; the zones that waited for it are free.
  pub commit_keeps : (first : Planned) (p : Plan) (id : ℕ) → N + 2 ≡ r → first.note ≡ notes.Commit (r - 1)
      → KeepsImages o Stands (committed o.model o.setup (send_planned o.model o.setup s first) (r - 1) id p) txs (N + 1)
  commit_keeps first p id on_way note = (
    record {
      counted = length-append s.journal.flush.notes (first.note ∷ []) ∙ ap (λ l. l + 1) f.counted ∙ sym (length-append s.journal.flush.requests (request ∷ []));
      closed = f.closed;
      rise = f.rise;
      stands = contract.released s.volume (tree_after o.model s.history now) k f.stands;
      numbers = numbers_committed sub on_way note_next f.numbers;
      present = subst (λ x. Present (after sub) r x s.journal.running.touched) same_view (record { present = f.present.present });
      bodies = subst (λ x. Bodies (after sub) r x s.journal.running.touched s.journal.running.revoked) same_view
          (record {
            on_metadata = f.bodies.on_metadata;
            bodies_on = f.bodies.bodies_on;
            waits = λ b i. contract.waits_on s.volume k r b (omega arith) (f.bodies.waits b i);
            own = f.bodies.own;
          });
      plan_revokes = record { waits = λ b more i. absurd (omega arith) };
      alike = f.alike;
      places = subst (λ x. KeepsPlaces o.program before (after sub) now r x) same_view (record { kept = f.places.kept });
      mapped = subst (λ x. PagesMapped before now x s.pages) same_view
          (record {
            cached = λ g i q e. let c = f.mapped.cached g i q e in record { birth = c.birth; index = c.index; zone = c.zone; body = c.body; version = c.version; written = c.written };
            all = f.mapped.all;
          });
      rising = f.rising;
      sent = sent_pushed sub (λ g i w e. page≢commit g i w (N + 1) (sym e ∙ note_next)) f.sent;
      zones = subst (λ x. ZoneHistory before (after sub) now (N + 1) x) same_view
          (history_committed sub {v = view_of o s.volume} {w = released} note_next (λ g i. refl) (λ z j lt e. contract.waits_on s.volume k j z (omega arith) e) f.zones);
      opened = subst (λ x. OpenedZones o.program before (after sub) now r (N + 1) x s.journal.running.revoked) same_view
          (opened_committed sub {v = view_of o s.volume} {w = released} note_next (λ g i. refl) (λ b. refl) (λ z j lt e. contract.waits_on s.volume k j z (omega arith) e) (λ j. refl) f.opened);
      altered = subst (λ x. Altered before (after sub) r x s.journal.running.touched s.journal.running.changed) same_view (record { listed = f.altered.listed; not_empty = f.altered.not_empty });
      in_phase = let e : N + 1 + 1 ≡ r = omega arith in e;
    },
    facts.1,
  )
    where
      f : ImagesFacts o Stands s.history s.cuts (session o Stands txs s) r s.journal.running.touched s.journal.running.revoked s.journal.running.changed s.journal.phase s.volume s.pages N
      f = facts.0

      k : ℕ
      k = r - 1

      before : History A
      before = noted_history o Stands s.history s.cuts

      request : Request
      request = record { id = length s.journal.flush.requests; kind = puts.Put first.block first.body; ordered = true; barrier = first.barrier }

      sub : Submitting
      sub = plainly (session o Stands txs s) facts.0.counted request first.note

      note_next : first.note ≡ notes.Commit (N + 1)
      note_next = note ∙ ap notes.Commit (let e : r - 1 ≡ N + 1 = omega arith in e)

      released : View
      released = record (view_of o s.volume) { quarantine = waits_for (o.model.zones (o.model.release s.volume k)).waiting }

      same_view : released ≡ view_of o (o.model.release s.volume k)
      same_view =
          ap (λ x. record released { bytes = x }) (sym (contract.same_bytes s.volume k))
          ∙ ap (λ x. record { bytes = o.model.bytes (o.model.release s.volume k); metadata = x; zone = o.model.zone s.volume; quarantine = released.quarantine }) (sym (contract.same_metadata s.volume k))
          ∙ ap (λ x. record { bytes = o.model.bytes (o.model.release s.volume k); metadata = o.model.metadata (o.model.release s.volume k); zone = x; quarantine = released.quarantine }) (sym (contract.same_zones s.volume k))
