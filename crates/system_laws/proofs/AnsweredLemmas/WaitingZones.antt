-- Which transactions zones wait for, along runs: the running one, or the one before it, whose log blocks are being sent.
use Rattle.std.specs.List.{find, range_with_len, list_any}
use Rattle.std.specs.Option.{option_map}
use Rattle.std.specs.Prelude.{◌≡◌, ◌≢◌, ◌⊎◌, ℕ, ◌+◌, ◌-◌, ◌≤◌, ◌==◌, ◌&&◌, Bool, true, false, nat_lt, is_none, List, [], ◌∷◌, length, map, Option, Some, None, refl, if◌then◌else◌}
use Rattle.std.proofs.Common.{sym, ap, ◌∙◌, inl, inr, ⊎_elim, arith}
use Rattle.std.proofs.lemmas.Bool.{eq-eqb, ne_eqb, eqb-false}
use Rattle.std.proofs.lemmas.Option.{none-some, same_Some}
use Rattle.blk_base.specs.Members.{In}
use Rattle.log_model.specs.Marks.{Logged}
use Rattle.log_model.specs.Ring.{Ring}
use Rattle.number_sets.specs.Sets.{has}
use Rattle.number_sets.specs.laws.Members.{In_or_not}
use Rattle.order_model.specs.declared.turn.Turn.TheVariants as turns
use Rattle.page_cache.specs.Pages.{is_unsent}
use Rattle.page_cache.specs.declared.cached_page.CachedPage.{CachedPage}
use Rattle.flush_actor.specs.Kinds.{is_begun}
use Rattle.flush_actor.specs.Part.{is_over}
use Rattle.flush_actor.specs.conflicts.Conflicts.{least}
use Rattle.journal_ring.specs.LogRing.{LogRing, ring_free}
use Rattle.journal_ring.specs.running.Plan.{Planned}
use Rattle.journal_ring.specs.running.Running.{fresh, log_needs}
use Rattle.commit_actor.specs.Journal.{Plan, Phase, Idle, Closing, Committing}
use Rattle.minix_layout.specs.declared.division.Geometry.{Geometry}
use Rattle.minix_tables.specs.declared.zones.zone_state.ZoneState.{ZoneState}
use Rattle.minix_tables.specs.declared.zones.zone_state.ZoneState.TheVariants as states
use Rattle.minix_tables.specs.zones.Zones.{state_of, let_go, mark, made}
use Rattle.minix_tables.specs.zones.laws.States.{state_released}
use Rattle.tree_model.specs.declared.call.Reply.{Reply}
use Rattle.volume_steps.specs.Calls.{after_release}
use Rattle.volume_steps.specs.Now.{VolumeNow}
use Rattle.host_machine.specs.Host.{Stepped, Turned, submits, send_page, build_plan, checkpoint, close_step, plan_sent, in_phase, commit_step, hindrance, change, end_with, advance}
use Rattle.host_machine.specs.Model.{Freed}
use Rattle.host_machine.specs.State.{Answered, Begun, Host}
use Rattle.host_machine.specs.Views.{tree_after, waits_for}
use Rattle.host_machine.specs.laws.Choices.{either}
use Rattle.host_machine.specs.runs.Runs.{Event, Call, Commit, WriteBack, FlushStep, TakeStep, stepped, steps}
use Rattle.host_machine.specs.runs.laws.Written.{AreWritten}
use Rattle.host_machine.proofs.RunsLemmas.Walks.{BegunEnds, FreshEnds, caller_walk, submits_walk, writeback_walk, flush_walk, take_walk}
use Rattle.host_machine.proofs.Steps.{enough}
use Rattle.minix_host.specs.ByteCalls.{ByteCall}
use Rattle.minix_host.specs.Calls.{refusal, kind_of}
use Rattle.minix_host.specs.Runs.{opened_host}
use Rattle.minix_host.specs.Sessions.{Opening, over}
use Rattle.minix_host.specs.Volumes.{waiting_from, zones_of}
use Rattle.minix_host.proofs.Promises.{promises}
use Rattle.minix_host.proofs.Waiting.{waits_state}
use Rattle.system_laws.proofs.TransactionSizeLemmas.Hosts.{IsKept, step_kept}
use Rattle.system_laws.proofs.TransactionSizeLemmas.Sets.{HasRoom}

-- ---- releases

-- what waits behind a release of transaction j waited before it, and for another one
left_state : (j k : ℕ) (o : Option ZoneState) → option_map (let_go j) o ≡ Some (states.Quarantined k) → (o ≡ Some (states.Quarantined k)) × (k ≢ j)
left_state j k None e = absurd (none-some (states.Quarantined k) e)
left_state j k (Some states.Free) e = absurd (cc e)
left_state j k (Some states.Used) e = absurd (cc e)
left_state j k (Some (states.Quarantined freed_by)) e = by (freed_by == j) refl e
  where
    by : (t : Bool) → (freed_by == j) ≡ t → ◌≡◌ {A = Option ZoneState} (Some (if t then states.Free else states.Quarantined freed_by)) (Some (states.Quarantined k)) → ◌≡◌ {A = Option ZoneState} (Some (states.Quarantined freed_by)) (Some (states.Quarantined k)) × (k ≢ j)
    by true is e = absurd (cc e)
    by false is e = (e, λ same. let one : freed_by ≡ k = cc e in eqb-false freed_by j is (one ∙ same))

pub left_waiting : (v : VolumeNow) (j k zone : ℕ) → waits_for (zones_of (after_release v j)).waiting zone ≡ Some k → (waits_for (zones_of v).waiting zone ≡ Some k) × (k ≢ j)
left_waiting v j k zone e =
    let left = left_state j k (state_of v.zones zone) (sym (state_released v.zones zone j) ∙ (waits_state (after_release v j) zone k).0 e) in
    ((waits_state v zone k).1 left.0, left.1)

-- ---- each zone is listed once

waiting_above : (first : ℕ) (zs : List ZoneState) (z : Freed) → In z (waiting_from first zs) → first ≤ z.zone
waiting_above first [] z i = absurd i
waiting_above first (states.Free ∷ more) z i = (let le = waiting_above (first + 1) more z i in omega (arith, le))
waiting_above first (states.Used ∷ more) z i = (let le = waiting_above (first + 1) more z i in omega (arith, le))
waiting_above first (states.Quarantined freed_by ∷ more) z (inl e) = (let same : first ≡ z.zone = ap (λ (z : Freed). z.zone) e in omega (arith, same))
waiting_above first (states.Quarantined freed_by ∷ more) z (inr i) = (let le = waiting_above (first + 1) more z i in omega (arith, le))

listed_from : (first : ℕ) (zs : List ZoneState) (z : Freed) → In z (waiting_from first zs) → waits_for (waiting_from first zs) z.zone ≡ Some z.transaction
listed_from first [] z i = absurd i
listed_from first (states.Free ∷ more) z i = listed_from (first + 1) more z i
listed_from first (states.Used ∷ more) z i = listed_from (first + 1) more z i
listed_from first (states.Quarantined freed_by ∷ more) z (inl e) =
    ap (λ (t : Bool). if t then Some freed_by else waits_for (waiting_from (first + 1) more) z.zone) (eq-eqb first z.zone (ap (λ (z : Freed). z.zone) e))
    ∙ ap (λ (z : Freed). Some z.transaction) e
listed_from first (states.Quarantined freed_by ∷ more) z (inr i) =
    let le = waiting_above (first + 1) more z i in
    ap (λ (t : Bool). if t then Some freed_by else waits_for (waiting_from (first + 1) more) z.zone) (ne_eqb first z.zone (λ same. let no : first + 1 ≤ first = omega (arith, le, same) in omega (arith, no)))
    ∙ listed_from (first + 1) more z i

-- a zone that is listed waits for the transaction with which it is listed
pub listed_waits : (v : VolumeNow) (z : Freed) → In z (zones_of v).waiting → waits_for (zones_of v).waiting z.zone ≡ Some z.transaction
unfolding zones_of
listed_waits v z i = listed_from v.zones.first v.zones.states z i

-- ---- new volumes

none_marked : (used : List ℕ) (first : ℕ) (zones : List ℕ) → waiting_from first (map (mark used) zones) ≡ []
none_marked used first [] = refl
none_marked used first (zone ∷ zones) = by (list_any (λ u. u == zone) used) (none_marked used (first + 1) zones)
  where
    by : (t : Bool) → waiting_from (first + 1) (map (mark used) zones) ≡ [] → waiting_from first ((if t then states.Used else states.Free) ∷ map (mark used) zones) ≡ []
    by true rest = rest
    by false rest = rest

-- where no zone was freed, none waits
pub made_waits : (v : VolumeNow) (g : Geometry) (used : List ℕ) → v.zones ≡ made g used → (zones_of v).waiting ≡ []
unfolding zones_of
made_waits v g used is = rw is (none_marked used g.first (range_with_len g.first (g.zones - g.first)))

-- ---- along runs

module _ (s : Opening) (log : Ring) where
  abbrev H : Type 0
  H = Host VolumeNow ByteCall Reply

  pub record ZonesWait (h : H) : Type 0 where
    -- a zone waits for the running transaction, or for the one before it, whose log blocks are being sent
    pub waits : (z k : ℕ) → waits_for (zones_of h.volume).waiting z ≡ Some k → (k ≡ h.journal.running.number) ⊎ ((k + 1 ≡ h.journal.running.number) × ((p : Plan) × (h.journal.phase ≡ Committing p)))

  -- it does at first, where none waits
  pub opened_wait : (v : VolumeNow) (ring : LogRing) (limit : ℕ) (programs : List (List ByteCall)) → (zones_of v).waiting ≡ [] → ZonesWait (opened_host s v ring limit programs)
  opened_wait v ring limit programs none = record { waits = λ z k e. absurd (none-some k (ap (λ (ws : List Freed). waits_for ws z) (sym none) ∙ e)) }

  -- outside of Committing each zone that waits does so for the running transaction
  pub all_running : (h : H) → ZonesWait h → ((p : Plan) → h.journal.phase ≡ Committing p → ⊥) → (z : Freed) → In z (zones_of h.volume).waiting → z.transaction ≡ h.journal.running.number
  all_running h kept apart z i = ⊎_elim (λ same. same) (λ before. absurd (apart before.1.0 before.1.1)) (kept.waits z.zone z.transaction (listed_waits h.volume z i))

  idle_apart : (p : Plan) → Idle ≡ Committing p → ⊥
  idle_apart p e = cc e

  closing_apart : (p : Plan) → Closing ≡ Committing p → ⊥
  closing_apart p e = cc e

  module _ (h : H) (kept : ZonesWait h) where
    -- ---- the commit actor

    closes : h.journal.phase ≡ Idle → ZonesWait (record h { journal = record h.journal { phase = Closing } })
    closes is = record { waits = λ z k e. ⊎_elim (λ same. inl same) (λ before. absurd (idle_apart before.1.0 (sym is ∙ before.1.1))) (kept.waits z k e) }

    builds : h.journal.phase ≡ Closing → ZonesWait (build_plan (over s).model (over s).setup h)
    builds is = record { waits = λ z k e. ⊎_elim (λ same. inr (ap (λ n. n + 1) same, (_, refl))) (λ before. absurd (closing_apart before.1.0 (sym is ∙ before.1.1))) (kept.waits z k e) }

    checkpointed : (homes : List Logged) → ZonesWait (checkpoint (over s).model (over s).setup h homes)
    checkpointed [] = record { waits = kept.waits }
    checkpointed (x ∷ xs) = record { waits = kept.waits }

    sends : (p : Plan) (first : Planned) (rest : List Planned) → ZonesWait (plan_sent (over s).model (over s).setup h p first rest)
    sends p first [] = record {
      waits = λ z k e.
          let left = left_waiting h.volume (h.journal.running.number - 1) k z e in
          ⊎_elim (λ same. inl same) (λ before. absurd (left.1 (let next = before.0 in omega (arith, next)))) (kept.waits z k left.0);
    }
    sends p first (q ∷ qs) = record { waits = λ z k e. ⊎_elim (λ same. inl same) (λ before. inr (before.0, (_, refl))) (kept.waits z k e) }

    module _ (full : Bool) where
      abbrev Turns : Turned VolumeNow ByteCall Reply → Type 0
      Turns x = ZonesWait x.host

      submitted : (out : H) → ZonesWait out → Turns (submits (over s).model (over s).setup full h out)
      submitted out next = submits_walk (over s).model (over s).setup full h ZonesWait kept out (λ limit free. next)

      close_wait : h.journal.phase ≡ Closing → Turns (close_step (over s).model (over s).setup full h)
      close_wait is = by (find (λ p. is_unsent p.state && has h.journal.running.changed p.birth) h.pages)
        where
          by : (x : Option CachedPage) → Turns (elim x as (λ _. Turned VolumeNow ByteCall Reply) [
            | Some p ↦ submits (over s).model (over s).setup full h (send_page (over s).model (over s).setup h p true false)
            | None ↦
                if nat_lt (ring_free h.journal.ring) (log_needs s.writers h.journal.running) then submits (over s).model (over s).setup full h (checkpoint (over s).model (over s).setup h h.journal.ring.homes)
                else record { host = build_plan (over s).model (over s).setup h; turn = turns.Did }
          ])
          by (Some p) = submitted _ (record { waits = kept.waits })
          by None = either Turns (nat_lt (ring_free h.journal.ring) (log_needs s.writers h.journal.running)) _ _ (λ e. submitted _ (checkpointed h.journal.ring.homes)) (λ e. builds is)

      phase_wait : (phase : Phase) → h.journal.phase ≡ phase → Turns (in_phase (over s).model (over s).setup full h phase)
      phase_wait Idle is = either Turns (h.journal.running.wanted && is_none (least h.journal.flush.conflicts)) _ _ (λ e. closes is) (λ e. kept)
      phase_wait Closing is = close_wait is
      phase_wait (Committing p) is = by p.rest
        where
          by : (x : List Planned) → Turns (elim x as (λ _. Turned VolumeNow ByteCall Reply) [ [] ↦ record { host = h; turn = turns.Idle } | first ∷ rest ↦ submits (over s).model (over s).setup full h (plan_sent (over s).model (over s).setup h p first rest) ])
          by [] = kept
          by (first ∷ rest) = submitted _ (sends p first rest)

      pub commit_wait : Turns (commit_step (over s).model (over s).setup full h)
      commit_wait = either Turns (is_over h.journal.flush) _ _ (λ e. kept) (λ e. phase_wait h.journal.phase refl)

    -- ---- callers

    abbrev After : Stepped VolumeNow ByteCall Reply → Type 0
    After x = ZonesWait x.host

    module _ (sound : IsKept s log h) (t : ℕ) (c : ByteCall) (rest : List ByteCall) where
      begun_ends : (full : Bool) (b : Begun) → BegunEnds (over s).model (over s).setup full h t c rest b After
      begun_ends full b = record {
        done = record { waits = kept.waits };
        full_up = λ e. record { waits = kept.waits };
        rests = λ why. kept;
        waits = λ w why. record { waits = kept.waits };
        wants = λ w why. record { waits = kept.waits };
        sends = λ next is_next free empty. record { waits = kept.waits };
      }

      -- what a call frees waits for the running transaction
      acted : refusal h.volume c.call ≡ None → is_begun (kind_of c.call) ≡ false → hindrance (over s).model (over s).setup h c ≡ None →
          After (end_with (over s).model (over s).setup (change (over s).model (over s).setup h c ((over s).model.apply h.volume (length h.history + 1) h.journal.running.number c)) t c rest
          (Answered ((over s).model.apply h.volume (length h.history + 1) h.journal.running.number c).reply))
      acted accepted begun free =
          let all = (promises s).applied h.volume (tree_after (over s).model h.history (length h.history)) (length h.history + 1) h.journal.running.number c sound.sound.rules.2.images.0.stands accepted begun
          (enough (over s).model (over s).setup h c free) in
          record {
            waits = λ z k e. ⊎_elim
                (λ i. inl (same_Some k h.journal.running.number (sym e ∙ (all.1.freed z i).1)))
                (λ out. kept.waits z k (sym (all.1.not_freed z out) ∙ e))
                (In_or_not ((over s).model.apply h.volume (length h.history + 1) h.journal.running.number c).touched.freed z);
          }

      fresh_ends : FreshEnds (over s).model (over s).setup h t c rest After
      fresh_ends = record {
        refused = λ why e. record { waits = kept.waits };
        begins = λ accepted kind. record { waits = kept.waits };
        full_up = λ why e limit. record { waits = kept.waits };
        rests = λ why. kept;
        wants = λ why. record { waits = kept.waits };
        acts = acted;
      }

    caller_wait : IsKept s log h → (full : Bool) (t : ℕ) → After (advance (over s).model (over s).setup full h t)
    caller_wait sound full t = caller_walk (over s).model (over s).setup full h t After kept (λ th c rest at is. record {
      stopped = λ e stop. record { waits = kept.waits };
      goes_on = λ b going begun. begun_ends sound t c rest full b;
      starts = λ going begun. fresh_ends sound t c rest;
    })

  pub step_wait : (h : H) → IsKept s log h → ZonesWait h → (e : Event) → ZonesWait (stepped (over s) h e)
  step_wait h sound kept (Call full t) = caller_wait h kept sound full t
  step_wait h sound kept (Commit full) = commit_wait h kept full
  step_wait h sound kept (WriteBack full pick) = writeback_walk (over s).model (over s).setup full h ZonesWait kept (λ p ordered limit free. record { waits = kept.waits }) pick
  step_wait h sound kept (FlushStep full next) = flush_walk (over s).model (over s).setup full h ZonesWait kept (λ limit free. record { waits = kept.waits }) (λ c. record { waits = kept.waits }) next
  step_wait h sound kept (TakeStep next) = take_walk (over s).model (over s).setup false h ZonesWait kept (λ c. record { waits = kept.waits }) next

  module _ (room : HasRoom s.writers) (first : (k : ℕ) → log_needs s.writers (fresh k) ≤ s.quota) (written : AreWritten s.format s.writers) where
    -- so it is along whole runs
    pub steps_wait : (h : H) → IsKept s log h → ZonesWait h → (events : List Event) → ZonesWait (steps (over s) h events)
    steps_wait h sound kept [] = kept
    steps_wait h sound kept (e ∷ events) = steps_wait (stepped (over s) h e) (step_kept s log room first written h e sound) (step_wait h sound kept e) events
