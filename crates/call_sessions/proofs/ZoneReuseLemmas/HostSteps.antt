-- Each step of the host keeps what it knows of freed zones, of owners and of the submitted list.
use Rattle.std.proofs.Common.{sym, ap, subst, ◌∙◌, inl, inr, ⊎_elim, arith}
use Rattle.std.proofs.lemmas.Bool.{cases_Bool, cases_lt, false≢true}
use Rattle.std.proofs.lemmas.Option.{none-some, same_Some}
use Rattle.std.specs.List.{find, filter}
use Rattle.std.specs.Prelude.{◌≡◌, ℕ, suc, ◌+◌, ◌-◌, ◌≤◌, ◌⊎◌, ◌&&◌, Bool, true, false, not, List, [], ◌∷◌, ◌++◌, length, Option, Some, None, is_none, nat_lt, slice_get, slice_index_or, refl, if◌then◌else◌}
use Rattle.blk_base.specs.Members.{In}
use Rattle.blk_base.specs.laws.Members.{In-filter, slice_get-In}
use Rattle.order_model.specs.declared.completion.Completion.{Completion}
use Rattle.order_model.specs.declared.note.Note.TheVariants as notes
use Rattle.order_model.specs.declared.note.Note.{Note}
use Rattle.order_model.specs.declared.request.Kind.TheVariants as puts
use Rattle.order_model.specs.declared.request.Request.{Request}
use Rattle.order_model.specs.declared.turn.Turn.TheVariants as turns
use Rattle.log_model.specs.Marks.{Logged, Transaction}
use Rattle.number_sets.specs.Sets.{has}
use Rattle.number_sets.specs.laws.Members.{In_or_not}
use Rattle.page_cache.specs.Pages.{is_unsent, is_dirty, page_at}
use Rattle.page_cache.specs.declared.cached_page.CachedPage.{CachedPage}
use Rattle.page_cache.specs.laws.Order.{keyed}
use Rattle.crash_laws.specs.History.{History, last_write}
use Rattle.crash_laws.proofs.Histories.{mapped_was_written}
use Rattle.crash_laws.specs.laws.Submitting.{Submitting}
use Rattle.flush_actor.specs.Kinds.{is_begun, is_data}
use Rattle.flush_actor.specs.Part.{is_over, at_limit}
use Rattle.flush_actor.specs.conflicts.Conflicts.{least}
use Rattle.journal_ring.specs.LogRing.{ring_free}
use Rattle.journal_ring.specs.running.Plan.{Planned}
use Rattle.journal_ring.specs.running.Running.{log_needs}
use Rattle.commit_actor.specs.Journal.{Plan, Phase, Idle, Closing, Committing, is_submitted}
use Rattle.host_machine.proofs.Entries.{entry_noted, trees_noted, tree_new, history_noted, length_new}
use Rattle.host_machine.proofs.Machine.{plain_at}
use Rattle.host_machine.proofs.ReuseSteps.{send_reuses, send_orderless}
use Rattle.host_machine.proofs.Sends.{plainly}
use Rattle.host_machine.proofs.Steps.{unsent_on-cached, first_page-In, enough}
use Rattle.host_machine.specs.Host.{Stepped, Turned, end_with, send_page, build_plan, checkpoint, plan_sent, close_step, in_phase, submits, commit_step, writeback, flush_step, unsent_on, hindrance, taken_zones, advance}
use Rattle.host_machine.specs.Model.{FileBlock, Applied}
use Rattle.host_machine.specs.State.{Ending, Answered, SessionFull, Begins, Ends, Begun, Entry, Host}
use Rattle.host_machine.specs.Views.{tree_after, transaction_of, waits_for}
use Rattle.host_machine.specs.laws.Choices.{either}
use Rattle.host_machine.specs.laws.Contract.{Over, Contract, Tells, StandsFor, noted_history, InPhase, session, KeepsImages, view_of}
use Rattle.host_machine.specs.laws.Facts.{Numbers}
use Rattle.host_machine.specs.laws.PlanNotes.{is_plan_note, IsRestOf}
use Rattle.host_machine.specs.laws.Reuse.{FreedWait}
use Rattle.host_machine.specs.runs.Runs.{Event, Call, Commit, WriteBack, FlushStep, TakeStep, stepped}
use Rattle.host_machine.specs.runs.laws.Kept.{IsSound}
use Rattle.host_machine.proofs.RunsLemmas.Walks.{BegunEnds, FreshEnds, caller_walk, flush_walk, take_walk}
use Rattle.call_sessions.specs.zone_reuse.Freeing.{IsGivenUp}
use Rattle.call_sessions.proofs.ZoneReuseLemmas.Owners.{IsFresh, taken_long, taken_apart, taken_here}
use Rattle.call_sessions.proofs.ZoneReuseLemmas.ZoneFacts.{ZoneFacts, reuses_told, orderless_told, freed_pushed, other_pushed, commit_pushed, entry_pushed}

module _ {A T V C R : Type 0} {o : Over A T V C R} {Stands : V → T → Type 0} (contract : Contract o Stands) (frees : ℕ → ℕ → Bool) where
  -- what a host keeps; the transactions that are told do not matter
  abbrev pub Zones : Host V C R → Type 0
  Zones s = ZoneFacts (noted_history o Stands s.history s.cuts) (session o Stands [] s) (length s.history) (view_of o s.volume) s.owners frees

  module _ (empty : (f i : ℕ) → o.model.maps o.model.root f i ≡ false) (s : Host V C R) (txs : List Transaction) (N : ℕ) (facts : KeepsImages o Stands s txs N) (zones : Zones s) where
    abbrev h : History A
    h = noted_history o Stands s.history s.cuts

    abbrev r : ℕ
    r = s.journal.running.number

    -- whatever the transactions, the numbers are the same
    numbers : Numbers h (session o Stands [] s) (length s.history) r N
    numbers =
        let n = facts.0.numbers in
        record { closed = n.closed; committed = n.committed; no_more = n.no_more; cuts = n.cuts; running = n.running; versions = n.versions }

    -- what an entry's end owes: a zone that it frees is given up between the two volumes
    abbrev pub Told : Host V C R → Type 0
    Told x = (z : ℕ) → length x.history ≡ length s.history + 1 → frees (length s.history + 1) z ≡ true → IsGivenUp o s.volume x.volume z

    abbrev pub Owes : Host V C R → Type 0
    Owes x = IsSound contract x → Told x → Zones x

    -- ---- requests

    abbrev sub : Request → Note → Submitting
    sub q n = plainly (session o Stands [] s) facts.0.counted q n

    waiting : FreedWait h (session o Stands txs s) (length s.history) N (view_of o s.volume) frees
    waiting = record {
      waits = λ e z fr le.
          let x = zones.freed e z fr le in
          (x.0, x.1, ⊎_elim (λ c. inl c) (λ q. ⊎_elim (λ lt. inr (lt, q)) (λ ge. inl (facts.0.numbers.committed x.0 x.1.numbered ge)) (cases_lt N x.0)) x.2);
    }

    -- a page goes out, orderless only where the owner of its zone is submitted
    page_out : (p : CachedPage) (ordered barrier : Bool) → page_at s.pages p.birth p.index ≡ Some p → (ordered ≡ false → is_submitted s.journal (slice_index_or s.owners p.block 0) ≡ true) → Zones (send_page o.model o.setup s p ordered barrier)
    page_out p ordered barrier here owner = record {
      freed = freed_pushed (sub (record { id = length s.journal.flush.requests; kind = puts.Put p.block p.body; ordered = ordered; barrier = barrier }) (notes.Page p.birth p.index p.version)) zones;
      owned = zones.owned;
      room = zones.room;
      reuses = reuses_told (transaction_of []) (send_reuses contract s txs N facts p ordered barrier here waiting (reuses_told (transaction_of txs) zones.reuses));
      orderless = orderless_told (transaction_of []) (send_orderless contract s txs N facts p ordered barrier here owner zones.owned (orderless_told (transaction_of txs) zones.orderless));
    }

    -- any other request
    other_out : (q : Request) (n : Note) → ((f i w : ℕ) → n ≡ notes.Page f i w → ⊥) → ZoneFacts h (record (session o Stands [] s) { requests = s.journal.flush.requests ++ q ∷ []; notes = s.journal.flush.notes ++ n ∷ [] }) (length s.history) (view_of o s.volume) s.owners frees
    other_out q n other = other_pushed (sub q n) zones other

    -- ---- entries

    not_given_up : (v : V) (z : ℕ) → IsGivenUp o v v z → ⊥
    not_given_up v z (inl x) = x.1 x.0
    not_given_up v z (inr x) = none-some x.1.0 (sym x.0 ∙ x.1.1)

    positive : 1 ≤ r
    positive = let c = facts.0.closed in omega arith

    -- an entry that leaves the volume
    quiet : (e : Entry C R) → Stands s.volume (tree_after o.model (s.history ++ e ∷ []) (length (s.history ++ e ∷ [])))
        → ((z : ℕ) → length (s.history ++ e ∷ []) ≡ length s.history + 1 → frees (length s.history + 1) z ≡ true → IsGivenUp o s.volume s.volume z)
        → ZoneFacts (noted_history o Stands (s.history ++ e ∷ []) s.cuts) (session o Stands [] s) (length (s.history ++ e ∷ [])) (view_of o s.volume) s.owners frees
    quiet e stands told =
        let long = length_new o.model s.history e in
        let plain = plain_at contract (s.history ++ e ∷ []) s.cuts (session o Stands [] s) s.volume (length s.history + 1) refl refl (subst (λ n. Stands s.volume (tree_after o.model (s.history ++ e ∷ []) n)) long stands) in
        subst (λ n. ZoneFacts (noted_history o Stands (s.history ++ e ∷ []) s.cuts) (session o Stands [] s) n (view_of o s.volume) s.owners frees) (sym long)
        (entry_pushed (entry_noted o.model s.history e o.place s.cuts r facts.0.closed facts.0.numbers.cuts) numbers positive plain.mapped
        (λ f i z there. inl (there, refl)) (λ z k q. q) (λ z fr. absurd (not_given_up s.volume z (told z long fr))) refl zones)

    -- ---- a plain call that is done

    module _ (t : ℕ) (c : C) (accepted : o.model.reply s.volume c ≡ None) (plain : is_begun (o.model.kind c) ≡ false) (free : hindrance o.model o.setup s c ≡ None) where
      abbrev applied : Applied V R
      applied = o.model.apply s.volume (length s.history + 1) r c

      abbrev before : T
      before = tree_after o.model s.history (length s.history)

      abbrev entry : Entry C R
      entry = record { thread = t; call = c; what = Ends (Answered applied.reply) }

      done : Stands applied.volume (o.model.call before (length s.history + 1) c) × Tells o before (length s.history + 1) r c s.volume applied.volume applied.touched
      done = contract.applied s.volume before (length s.history + 1) r c facts.0.stands accepted plain (enough o.model o.setup s c free)

      old_plain : StandsFor o s.volume before
      old_plain = contract.plain s.volume before facts.0.stands

      new_plain : StandsFor o applied.volume (o.model.call before (length s.history + 1) c)
      new_plain = contract.plain applied.volume (o.model.call before (length s.history + 1) c) done.0

      tree_now : tree_after o.model (s.history ++ entry ∷ []) (length s.history + 1) ≡ o.model.call before (length s.history + 1) c
      tree_now = let next : length s.history + 1 ≡ suc (length s.history) = omega arith in
          ap (tree_after o.model (s.history ++ entry ∷ [])) next ∙ tree_new o.model s.history entry ∙ ap (λ n. o.model.call before n c) (sym next)

      -- a zone that is freed waits for the running transaction
      freed_waits : (z : ℕ) → In z applied.touched.freed → waits_for (o.model.zones applied.volume).waiting z ≡ Some r
      freed_waits z i = (done.1.freed z i).1

      given_up_waits : (z : ℕ) → IsGivenUp o s.volume applied.volume z → waits_for (o.model.zones applied.volume).waiting z ≡ Some r
      given_up_waits z (inl (inl meta, gone)) =
          ⊎_elim
          (λ still. absurd (gone (inl still)))
          (λ none. freed_waits z (done.1.revoked z (done.1.gone z meta none)).1)
          (cases_Bool (o.model.metadata applied.volume z))
      given_up_waits z (inl (inr (f, i, there), gone)) = by (o.model.zone applied.volume f i) refl
        where
          by : (x : Option ℕ) → o.model.zone applied.volume f i ≡ x → waits_for (o.model.zones applied.volume).waiting z ≡ Some r
          by None e = freed_waits z (done.1.all_dropped f i z there e).0
          by (Some y) e = absurd (gone (inr (f, i, e ∙ ap Some (done.1.same_zone f i z y there e))))
      given_up_waits z (inr (none, (k, waits))) =
          ⊎_elim
          (λ i. freed_waits z i)
          (λ other. absurd (none-some k (sym none ∙ sym (done.1.not_freed z other) ∙ waits)))
          (In_or_not applied.touched.freed z)

      waits_on : (z k : ℕ) → waits_for (o.model.zones s.volume).waiting z ≡ Some k → waits_for (o.model.zones applied.volume).waiting z ≡ Some k
      waits_on z k q =
          ⊎_elim
          (λ i. absurd (none-some k (sym (done.1.freed z i).0 ∙ q)))
          (λ other. done.1.not_freed z other ∙ q)
          (In_or_not applied.touched.freed z)

      abbrev next : List ℕ
      next = taken_zones o.model o.setup r s.pages s.owners applied.touched.pages

      -- a block that is mapped was written, since the tree that was opened has none
      written_before : (f i : ℕ) → o.model.maps before f i ≡ true → 1 ≤ last_write (noted_history o Stands s.history s.cuts) f i (length s.history)
      written_before f i maps =
          let was = mapped_was_written (trees_noted o.model contract.trees o.place s.history s.cuts facts.0.rise) f i (length s.history) maps in
          ⊎_elim (λ pos. pos)
          (λ none. let q : last_write (noted_history o Stands s.history s.cuts) f i (length s.history) ≡ 0 = omega arith in absurd (false≢true (sym (empty f i) ∙ subst (λ n. o.model.maps (tree_after o.model s.history n) f i ≡ true) q was.there)))
          (cases_lt 0 (last_write (noted_history o Stands s.history s.cuts) f i (length s.history)))

      owner_kept : (f i z : ℕ) → o.model.zone applied.volume f i ≡ Some z → (x : Option ℕ) → o.model.zone s.volume f i ≡ x
          → ((o.model.zone s.volume f i ≡ Some z) × (slice_index_or next z 0 ≡ slice_index_or s.owners z 0)) ⊎ ((o.model.maps before f i ≡ false) × (slice_index_or next z 0 ≡ r))
      owner_kept f i z there (Some y) e =
          let same = done.1.same_zone f i y z e there in
          inl (e ∙ ap Some (sym same), taken_apart o.model o.setup r s.pages s.owners applied.touched.pages z (λ w j fresh block. other w j fresh block))
        where
          other : (w : FileBlock) → In w applied.touched.pages → IsFresh s.pages w → w.block ≡ z → ⊥
          other w j fresh block =
              let one = new_plain.one_page f i w.birth w.index z there ((done.1.written w j).1 ∙ ap Some block) in
              let here = ap (λ g. o.model.zone s.volume g w.index) (sym one.0) ∙ ap (o.model.zone s.volume f) (sym one.1) ∙ e in
              let p = facts.0.mapped.all w.birth w.index y here (written_before w.birth w.index (old_plain.mapped w.birth w.index y here)) in
              none-some p.0 (sym fresh ∙ p.1)
      owner_kept f i z there None e =
          let unmapped : o.model.maps before f i ≡ false = ⊎_elim (λ maps. let y = old_plain.there f i maps in absurd (none-some y.0 (sym e ∙ y.1))) (λ n. n) (cases_Bool (o.model.maps before f i)) in
          let wrote = contract.trees.mapped before (length s.history + 1) c f i unmapped (new_plain.mapped f i z there) in
          let w = done.1.all_written f i wrote in
          let goes = (done.1.written w.0 w.1).1 in
          let block : w.0.block ≡ z = same_Some w.0.block z (sym goes ∙ ap (λ g. o.model.zone applied.volume g w.0.index) w.2 ∙ ap (o.model.zone applied.volume f) w.3 ∙ there) in
          let low = new_plain.page_low f i z there in
          let room = zones.room in
          inr (unmapped, subst (λ y. slice_index_or next y 0 ≡ r) block (taken_here o.model o.setup r s.pages s.owners applied.touched.pages w.0 w.1 (fresh w.0 w.2 w.3 (page_at s.pages w.0.birth w.0.index) refl) (omega arith)))
        where
          fresh : (w : FileBlock) → w.birth ≡ f → w.index ≡ i → (p : Option CachedPage) → page_at s.pages w.birth w.index ≡ p → IsFresh s.pages w
          fresh w b x None q = q
          fresh w b x (Some p) q =
              absurd (none-some p.block (sym e ∙ ap (λ g. o.model.zone s.volume g i) (sym b) ∙ ap (o.model.zone s.volume w.birth) (sym x) ∙ (facts.0.mapped.cached w.birth w.index p q).zone))

      acted : ((z : ℕ) → length (s.history ++ entry ∷ []) ≡ length s.history + 1 → frees (length s.history + 1) z ≡ true → IsGivenUp o s.volume applied.volume z)
          → ZoneFacts (noted_history o Stands (s.history ++ entry ∷ []) s.cuts) (session o Stands [] s) (length (s.history ++ entry ∷ [])) (view_of o applied.volume) next frees
      acted told =
          let long = length_new o.model s.history entry in
          subst (λ n. ZoneFacts (noted_history o Stands (s.history ++ entry ∷ []) s.cuts) (session o Stands [] s) n (view_of o applied.volume) next frees) (sym long)
          (entry_pushed (entry_noted o.model s.history entry o.place s.cuts r facts.0.closed facts.0.numbers.cuts) numbers positive
          (λ f i z there. ap (λ u. o.model.maps u f i) tree_now ∙ new_plain.mapped f i z there)
          (λ f i z there. owner_kept f i z there (o.model.zone s.volume f i) refl) waits_on (λ z fr. given_up_waits z (told z long fr))
          (taken_long o.model o.setup r s.pages s.owners applied.touched.pages) zones)

    -- ---- a caller's step

    abbrev After : Stepped V C R → Type 0
    After x = Owes x.host

    ends : (t : ℕ) (c : C) (rest : List C) (e : Ending R) → After (end_with o.model o.setup s t c rest e)
    ends t c rest e sound told = quiet (record { thread = t; call = c; what = Ends e }) sound.rules.2.images.0.stands told

    begun_ends : (full : Bool) (t : ℕ) (c : C) (rest : List C) (b : Begun) → BegunEnds o.model o.setup full s t c rest b After
    begun_ends full t c rest b = record {
      done = ends t c rest (Answered o.model.ok);
      full_up = λ e. ends t c rest SessionFull;
      rests = λ why sound told. zones;
      waits = λ w why sound told. zones;
      wants = λ w why sound told. zones;
      sends = λ next is few free sound told. page_out next.0 true (is_data b.kind && is_none (unsent_on s.pages next.1)) (unsent_on-cached s.pages b.list next is) (λ e. absurd (false≢true (sym e)));
    }

    fresh_ends : (t : ℕ) (c : C) (rest : List C) → FreshEnds o.model o.setup s t c rest After
    fresh_ends t c rest = record {
      refused = λ why e. ends t c rest (Answered why);
      begins = λ accepted kind sound told. quiet (record { thread = t; call = c; what = Begins }) sound.rules.2.images.0.stands told;
      full_up = λ why e limit. ends t c rest SessionFull;
      rests = λ why sound told. zones;
      wants = λ why sound told. zones;
      acts = λ accepted kind free sound told. acted t c accepted kind free told;
    }

    caller_zones : (full : Bool) (t : ℕ) → After (advance o.model o.setup full s t)
    caller_zones full t =
        caller_walk o.model o.setup full s t After (λ sound told. zones)
        (λ th c rest at is. record {
          stopped = λ e stop. ends t c rest e;
          goes_on = λ b going begun. begun_ends full t c rest b;
          starts = λ going begun. fresh_ends t c rest;
        })

    -- ---- the write-back and the flush actor

    submits_zones : (full : Bool) (out : Host V C R) → Zones out → Zones (submits o.model o.setup full s out).host
    submits_zones full out next =
        either (λ (x : Turned V C R). Zones x.host) (at_limit s.journal.flush) _ _ (λ e. zones)
        (λ e. either (λ (x : Turned V C R). Zones x.host) full _ _ (λ e. zones) (λ e. next))

    writeback_zones : (full : Bool) (pick : ℕ) → Zones (writeback o.model o.setup full s pick).host
    writeback_zones full pick =
        either (λ (x : Turned V C R). Zones x.host) (is_over s.journal.flush) _ _ (λ e. zones) (λ e. by (slice_get (filter (λ (p : CachedPage). is_dirty p.state) s.pages) pick) refl)
      where
        negated : (b : Bool) → not b ≡ false → b ≡ true
        negated true e = refl
        negated false e = sym e

        by : (x : Option CachedPage) → slice_get (filter (λ (p : CachedPage). is_dirty p.state) s.pages) pick ≡ x → Zones (elim x as (λ _. Turned V C R) [
          | None ↦ record { host = s; turn = turns.Idle }
          | Some p ↦ submits o.model o.setup full s (send_page o.model o.setup s p (not (is_submitted s.journal (slice_index_or s.owners p.block 0))) false)
        ]).host
        by None e = zones
        by (Some p) e =
            let here = keyed s.pages facts.0.rising p (In-filter (λ (p : CachedPage). is_dirty p.state) s.pages p (slice_get-In (filter (λ (p : CachedPage). is_dirty p.state) s.pages) pick p e)).0 in
            submits_zones full _ (page_out p (not (is_submitted s.journal (slice_index_or s.owners p.block 0))) false here (negated (is_submitted s.journal (slice_index_or s.owners p.block 0))))

    flush_zones : (full : Bool) (next : Option Completion) → Zones (flush_step o.model o.setup full s next).host
    flush_zones full next =
        flush_walk o.model o.setup full s Zones zones
        (λ few free. other_out (record { id = length s.journal.flush.requests; kind = puts.Flush; ordered = true; barrier = true }) notes.Flush (λ f i w e. let z : ⊥ = cc in z))
        (λ c. zones) next

    -- ---- the commit actor

    checkpoint_zones : (homes : List Logged) → Zones (checkpoint o.model o.setup s homes)
    checkpoint_zones [] =
        other_out (record { id = length s.journal.flush.requests; kind = puts.Put o.setup.journal (o.setup.writers.super (o.setup.sequence + (r - 1)) s.journal.ring.head); ordered = true; barrier = true }) notes.Super (λ f i w e. let z : ⊥ = cc in z)
    checkpoint_zones (b ∷ bs) =
        other_out (record { id = length s.journal.flush.requests; kind = puts.Put b.block b.body; ordered = true; barrier = elim bs as (λ _. Bool) [ [] ↦ true | x ∷ xs ↦ false ] }) (notes.Home b.block) (λ f i w e. let z : ⊥ = cc in z)

    -- the history has the cut already
    built_zones : Zones (build_plan o.model o.setup s)
    built_zones =
        subst (λ x. ZoneFacts x (session o Stands [] s) (length s.history) (view_of o s.volume) s.owners frees) (history_noted o.model o.place s.history s.cuts) zones

    close_zones : (full : Bool) → Zones (close_step o.model o.setup full s).host
    close_zones full = by (find (λ p. is_unsent p.state && has s.journal.running.changed p.birth) s.pages) refl
      where
        by : (x : Option CachedPage) → find (λ p. is_unsent p.state && has s.journal.running.changed p.birth) s.pages ≡ x → Zones (elim x as (λ _. Turned V C R) [
          | Some p ↦ submits o.model o.setup full s (send_page o.model o.setup s p true false)
          | None ↦
              if nat_lt (ring_free s.journal.ring) (log_needs o.setup.writers s.journal.running) then submits o.model o.setup full s (checkpoint o.model o.setup s s.journal.ring.homes)
              else record { host = build_plan o.model o.setup s; turn = turns.Did }
        ]).host
        by (Some p) e =
            submits_zones full _
            (page_out p true false (keyed s.pages facts.0.rising p (first_page-In (λ p. is_unsent p.state && has s.journal.running.changed p.birth) s.pages p e)) (λ e. absurd (false≢true (sym e))))
        by None e =
            either (λ (x : Turned V C R). Zones x.host) (nat_lt (ring_free s.journal.ring) (log_needs o.setup.writers s.journal.running)) _ _
            (λ d. submits_zones full _ (checkpoint_zones s.journal.ring.homes))
            (λ d. built_zones)

    no_page : (n : Note) → is_plan_note n ≡ true → (f i w : ℕ) → n ≡ notes.Page f i w → ⊥
    no_page n t f i w e = false≢true (sym (ap is_plan_note e) ∙ t)

    -- a request of the plan; the last is the commit block, and the zones that wait for it are free then
    sent_zones : (p : Plan) (first : Planned) (rest : List Planned) → N + 2 ≡ r → IsRestOf (r - 1) (first ∷ rest) → Zones (plan_sent o.model o.setup s p first rest)
    sent_zones p first [] on_way note =
        commit_pushed (sub (record { id = length s.journal.flush.requests; kind = puts.Put first.block first.body; ordered = true; barrier = first.barrier }) first.note) zones
        (λ f i w e. let z : ⊥ = differs f i w (sym note ∙ e) in z) (r - 1) note
        (λ j some lt. facts.0.numbers.committed j some (omega arith))
        (λ f i z there. ap (λ zone. zone f i) (sym (contract.same_zones s.volume (r - 1))) ∙ there)
        (λ j z lt q. contract.waits_on s.volume (r - 1) j z lt q)
      where
        differs : (f i w : ℕ) → notes.Commit (r - 1) ≡ notes.Page f i w → ⊥
        differs f i w e = cc
    sent_zones p first (q ∷ qs) on_way note =
        other_out (record { id = length s.journal.flush.requests; kind = puts.Put first.block first.body; ordered = true; barrier = first.barrier }) first.note (no_page first.note note.0)

    phase_zones : (full : Bool) (phase : Phase) → InPhase o Stands s.history s.cuts (session o Stands txs s) r N phase → Zones (in_phase o.model o.setup full s phase).host
    phase_zones full Idle x =
        either (λ (x : Turned V C R). Zones x.host) (s.journal.running.wanted && is_none (least s.journal.flush.conflicts)) _ _ (λ e. zones) (λ e. zones)
    phase_zones full Closing x = close_zones full
    phase_zones full (Committing p) x = by p.rest refl
      where
        by : (rest : List Planned) → p.rest ≡ rest → Zones (elim rest as (λ _. Turned V C R) [ [] ↦ record { host = s; turn = turns.Idle } | first ∷ rest ↦ submits o.model o.setup full s (plan_sent o.model o.setup s p first rest) ]).host
        by [] e = zones
        by (first ∷ rest) e = submits_zones full _ (sent_zones p first rest x.on_way (subst (IsRestOf (r - 1)) e x.rest))

    commit_zones : (full : Bool) → Zones (commit_step o.model o.setup full s).host
    commit_zones full = either (λ (x : Turned V C R). Zones x.host) (is_over s.journal.flush) _ _ (λ e. zones) (λ e. phase_zones full s.journal.phase facts.0.in_phase)

    -- any step
    pub step_zones : (e : Event) → Owes (stepped o s e)
    step_zones (Call full t) = caller_zones full t
    step_zones (Commit full) = λ sound told. commit_zones full
    step_zones (WriteBack full pick) = λ sound told. writeback_zones full pick
    step_zones (FlushStep full next) = λ sound told. flush_zones full next
    step_zones (TakeStep next) = λ sound told. take_walk o.model o.setup true s Zones zones (λ c. zones) next
