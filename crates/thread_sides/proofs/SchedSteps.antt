-- What each step does to the scheduler's side.
use Rattle.std.proofs.Common.{◌≡◌, ℕ, Bool, true, false, List, [], ◌∷◌, ◌++◌, length, map, set, replicate, Option, Some, None, refl, sym, ap, subst, ◌∙◌, arith, if◌then◌else◌}
use Rattle.std.specs.Option.{option_to_list}
use Rattle.std.proofs.lemmas.List.{append-nil, length-append, length-set, length-replicate}
use Rattle.order_model.specs.declared.command.Command.{Command}
use Rattle.order_model.specs.declared.request.Request.{Request}
use Rattle.schedulers.specs.reassign.Scheduler.{SchedSteps, IsNewScheduler, IsScheduler, Sends}
use Rattle.thread_sides.specs.Admitted.{AreFlagged, may_accept}
use Rattle.thread_sides.proofs.Admitting.{acceptable, flagged_more}
use Rattle.thread_sides.specs.declared.events.SchedEvent.{SchedEvent}
use Rattle.thread_sides.specs.declared.events.SchedEvent.TheVariants as noted
use Rattle.thread_sides.specs.SchedReplay as replays
use Rattle.thread_sides.specs.SchedReplay.{SchedNow, SchedSideNow, IsSchedReplay, Takes, with_requests, accepts, stepped, steps, sent_from, opened_side}
use Rattle.thread_sides.proofs.SchedEvents.{more_sent, same_accepts, more_taken, one_accept, steps_more}

ids_more : (rs : List Request) (r : Request) → map (λ (q : Request). q.id) (rs ++ r ∷ []) ≡ map (λ (q : Request). q.id) rs ++ r.id ∷ []
ids_more [] r = refl
ids_more (q ∷ rs) r = ap (λ l. q.id ∷ l) (ids_more rs r)

module _ {K : Type 0} (k : SchedSteps K) (valid : K → Type 0) (is : IsScheduler k valid) (first : K) (old : SchedSideNow K) (inv : IsSchedReplay k first old) where
  abbrev at : SchedNow K
  at = old.now

  abbrev Side : SchedNow K → List SchedEvent → List Command → List Request → Type 0
  Side now events sent taken = IsSchedReplay k first (record { now = now; events = events; sent = sent; taken = taken })

  abbrev opened : SchedNow K
  opened = opened_side k first

  -- ---- accept

  taken_replay : (r : Request) → stepped k at (Takes r) ≡ steps k opened (with_requests (old.events ++ noted.Accept ∷ []) (old.taken ++ r ∷ []))
  taken_replay r =
      ap (λ (x : SchedNow K). stepped k x (Takes r)) inv.replay ∙ sym (steps_more k opened (with_requests old.events old.taken) (Takes r))
      ∙ ap (steps k opened) (sym (more_taken old.events old.taken r inv.counted))

  taken_count : (r : Request) → accepts (old.events ++ noted.Accept ∷ []) ≡ length (old.taken ++ r ∷ [])
  taken_count r = one_accept old.events ∙ (let n = inv.counted in let m = length-append old.taken (r ∷ []) in omega (arith, n, m))

  taken_all : at.unfit ≡ None → old.taken ≡ (k.seen at.sched).accepted
  taken_all none = inv.accepted ∙ ap (λ o. (k.seen at.sched).accepted ++ option_to_list o) none ∙ append-nil (k.seen at.sched).accepted

  pub accepted : (r : Request) (new : K) (flags : List Bool) (events : List SchedEvent) (taken : List Request) → at.unfit ≡ None → valid at.sched → k.can_accept at.sched ≡ true → may_accept at.flags (length (k.seen at.sched).accepted) r ≡ true
      → new ≡ k.accepted at.sched r → flags ≡ set at.flags r.id true → events ≡ old.events ++ noted.Accept ∷ [] → taken ≡ old.taken ++ r ∷ [] → Side (record { sched = new; flags = flags; kept = at.kept; unfit = at.unfit }) events old.sent taken
  accepted r new flags events taken none ok can may new_is flags_are events_are taken_is =
      let step = (is.accepts at.sched r ok (acceptable (k.seen at.sched) at.flags r inv.flagged inv.limit_is may) can).1 in
      let there = k.accepted at.sched r in
      subst (λ (x : SchedSideNow K). IsSchedReplay k first x)
      (λ i. record { now = record { sched = sym new_is i; flags = sym flags_are i; kept = at.kept; unfit = at.unfit }; events = sym events_are i; sent = old.sent; taken = sym taken_is i })
      (record {
        replay = sym (ap (λ (b : Bool). if b then record at { sched = there; flags = set at.flags r.id true } else record at { unfit = Some r }) may) ∙ taken_replay r;
        counted = taken_count r;
        accepted =
            ap (λ l. l ++ r ∷ []) (taken_all none) ∙ sym step.accepted ∙ sym (append-nil (k.seen there).accepted)
            ∙ ap (λ o. (k.seen there).accepted ++ option_to_list o) (sym none);
        sent = step.sent_out ∙ inv.sent;
        limit_is = length-set at.flags r.id true ∙ inv.limit_is ∙ sym step.limit;
        flagged = subst (AreFlagged (set at.flags r.id true)) (sym (ap (map (λ (q : Request). q.id)) step.accepted ∙ ids_more (k.seen at.sched).accepted r))
            (flagged_more (map (λ (q : Request). q.id) (k.seen at.sched).accepted) at.flags r.id inv.flagged);
      })

  pub put_aside : (r : Request) (events : List SchedEvent) (taken : List Request) → at.unfit ≡ None → may_accept at.flags (length (k.seen at.sched).accepted) r ≡ false
      → events ≡ old.events ++ noted.Accept ∷ [] → taken ≡ old.taken ++ r ∷ [] → Side (record { sched = at.sched; flags = at.flags; kept = at.kept; unfit = Some r }) events old.sent taken
  put_aside r events taken none may events_are taken_is =
      subst (λ (x : SchedSideNow K). IsSchedReplay k first x)
      (λ i. record { now = record { sched = at.sched; flags = at.flags; kept = at.kept; unfit = Some r }; events = sym events_are i; sent = old.sent; taken = sym taken_is i })
      (record {
        replay = sym (ap (λ (b : Bool). if b then record at { sched = k.accepted at.sched r; flags = set at.flags r.id true } else record at { unfit = Some r }) may) ∙ taken_replay r;
        counted = taken_count r;
        accepted = ap (λ l. l ++ r ∷ []) (taken_all none);
        sent = inv.sent;
        limit_is = inv.limit_is;
        flagged = inv.flagged;
      })

  -- ---- dispatch

  sent_replay : (pick : ℕ) (full : Bool) → sent_from k at pick full at.kept ≡ steps k opened (with_requests (old.events ++ noted.Dispatch pick full ∷ []) old.taken)
  sent_replay pick full =
      ap (λ (x : SchedNow K). stepped k x (replays.Sends pick full)) inv.replay ∙ sym (steps_more k opened (with_requests old.events old.taken) (replays.Sends pick full))
      ∙ ap (steps k opened) (sym (more_sent old.events pick full old.taken))

  -- the command that was kept went
  pub kept_went : (c : Command) (pick : ℕ) (kept : Option Command) (events : List SchedEvent) (sent : List Command) → at.kept ≡ Some c → kept ≡ None
      → events ≡ old.events ++ noted.Dispatch pick false ∷ [] → sent ≡ old.sent ++ c ∷ [] → Side (record { sched = at.sched; flags = at.flags; kept = kept; unfit = at.unfit }) events sent old.taken
  kept_went c pick kept events sent was kept_is events_are sent_is =
      subst (λ (x : SchedSideNow K). IsSchedReplay k first x)
      (λ i. record { now = record { sched = at.sched; flags = at.flags; kept = sym kept_is i; unfit = at.unfit }; events = sym events_are i; sent = sym sent_is i; taken = old.taken })
      (record {
        replay = sym (ap (sent_from k at pick false) was) ∙ sent_replay pick false;
        counted = same_accepts old.events pick false ∙ inv.counted;
        accepted = inv.accepted;
        sent = inv.sent ∙ ap (λ o. old.sent ++ option_to_list o) was ∙ sym (append-nil (old.sent ++ c ∷ []));
        limit_is = inv.limit_is;
        flagged = inv.flagged;
      })

  -- that of the pick went, or is kept
  module _ (c : Command) (pick : ℕ) (new : K) (ok : valid at.sched) (was : at.kept ≡ None) (new_is : new ≡ k.dispatched at.sched pick) (command : Some c ≡ k.command at.sched pick) where
    abbrev there : K
    there = k.dispatched at.sched pick

    step : Sends (k.seen at.sched) (k.command at.sched pick) (k.seen there)
    step = (is.dispatches at.sched pick ok).1

    out : (k.seen there).sent_out ≡ old.sent ++ c ∷ []
    out =
        step.sent_out ∙ ap (λ l. l ++ option_to_list (k.command at.sched pick)) (inv.sent ∙ ap (λ o. old.sent ++ option_to_list o) was ∙ append-nil old.sent)
        ∙ ap (λ o. old.sent ++ option_to_list o) (sym command)

    pub picked_went : (kept : Option Command) (events : List SchedEvent) (sent : List Command) → kept ≡ None → events ≡ old.events ++ noted.Dispatch pick false ∷ [] → sent ≡ old.sent ++ c ∷ []
        → Side (record { sched = new; flags = at.flags; kept = kept; unfit = at.unfit }) events sent old.taken
    picked_went kept events sent kept_is events_are sent_is =
        subst (λ (x : SchedSideNow K). IsSchedReplay k first x)
        (λ i. record { now = record { sched = sym new_is i; flags = at.flags; kept = sym kept_is i; unfit = at.unfit }; events = sym events_are i; sent = sym sent_is i; taken = old.taken })
        (record {
          replay = sym (ap (sent_from k at pick false) was) ∙ sent_replay pick false;
          counted = same_accepts old.events pick false ∙ inv.counted;
          accepted = inv.accepted ∙ ap (λ l. l ++ option_to_list at.unfit) (sym step.accepted);
          sent = out ∙ sym (append-nil (old.sent ++ c ∷ []));
          limit_is = inv.limit_is ∙ sym step.limit;
          flagged = subst (λ l. AreFlagged at.flags (map (λ (q : Request). q.id) l)) (sym step.accepted) inv.flagged;
        })

    pub picked_kept : (back : Command) (events : List SchedEvent) (sent : List Command) → back ≡ c → events ≡ old.events ++ noted.Dispatch pick true ∷ [] → sent ≡ old.sent
        → Side (record { sched = new; flags = at.flags; kept = Some back; unfit = at.unfit }) events sent old.taken
    picked_kept back events sent same events_are sent_is =
        subst (λ (x : SchedSideNow K). IsSchedReplay k first x)
        (λ i. record { now = record { sched = sym new_is i; flags = at.flags; kept = (sym command ∙ ap Some (sym same)) i; unfit = at.unfit }; events = sym events_are i; sent = sym sent_is i; taken = old.taken })
        (record {
          replay = sym (ap (sent_from k at pick true) was) ∙ sent_replay pick true;
          counted = same_accepts old.events pick true ∙ inv.counted;
          accepted = inv.accepted ∙ ap (λ l. l ++ option_to_list at.unfit) (sym step.accepted);
          sent = out ∙ ap (λ o. old.sent ++ option_to_list o) command;
          limit_is = inv.limit_is ∙ sym step.limit;
          flagged = subst (λ l. AreFlagged at.flags (map (λ (q : Request). q.id) l)) (sym step.accepted) inv.flagged;
        })

-- ---- opening

-- a new scheduler is that of a side with no events
pub opens : {K : Type 0} (k : SchedSteps K) (limit capacity : ℕ) (first sched : K) (flags : List Bool) (sent : List Command) (taken : List Request) → sched ≡ first → IsNewScheduler limit capacity (k.seen sched) → flags ≡ replicate limit false → sent ≡ [] → taken ≡ []
    → IsSchedReplay k first (record { now = record { sched = sched; flags = flags; kept = None; unfit = None }; events = []; sent = sent; taken = taken })
opens {K} k limit capacity first sched flags sent taken same new flags_are sent_is taken_is =
    let there : flags ≡ replicate (k.seen first).limit false = flags_are ∙ ap (λ (n : ℕ). replicate n false) (sym new.requests ∙ ap (λ (x : K). (k.seen x).limit) same) in
    record {
      replay = λ i. record { sched = same i; flags = there i; kept = None; unfit = None };
      counted = sym (ap length taken_is);
      accepted = taken_is ∙ ap (λ (l : List Request). l ++ []) (sym new.accepted);
      sent = new.sent_out ∙ ap (λ (l : List Command). l ++ []) (sym sent_is);
      limit_is = ap length flags_are ∙ length-replicate limit false ∙ sym new.requests;
      flagged = subst (λ (l : List Request). AreFlagged flags (map (λ (q : Request). q.id) l)) (sym new.accepted) (λ id here. absurd here);
    }
