-- What each step does to the device's side.
use Rattle.std.proofs.Common.{◌≡◌, Bool, true, false, List, [], ◌∷◌, ◌++◌, length, replicate, Option, Some, None, refl, sym, ap, subst, ◌∙◌, arith, if◌then◌else◌}
use Rattle.std.specs.Option.{option_to_list}
use Rattle.std.proofs.lemmas.List.{append-nil, length-append, length-replicate}
use Rattle.std.proofs.lemmas.Option.{none-some}
use Rattle.order_model.specs.declared.command.Command.{Command}
use Rattle.order_model.specs.declared.completion.Completion.{Completion}
use Rattle.order_model.specs.Device.{Seen, IsReceivable, IsUntouched}
use Rattle.order_model.specs.Machine.{Machine}
use Rattle.order_model.specs.Steps.{IsMadeAs, Receives, KeepsGiven, Answers}
use Rattle.order_model.specs.Received.{all_ids}
use Rattle.thread_sides.specs.Admitted.{AreCounted, may_take, flags_behind}
use Rattle.thread_sides.proofs.Admitting.{counted_more, same_length, receivable, none_came}
use Rattle.thread_sides.specs.declared.events.DeviceEvent.{DeviceEvent}
use Rattle.thread_sides.specs.declared.events.DeviceEvent.TheVariants as noted
use Rattle.thread_sides.specs.DeviceReplay.{DeviceNow, DeviceSideNow, IsDeviceReplay, DeviceStep, Takes, Sends, with_commands, receives, stepped, steps, sent_from, opened_side}
use Rattle.thread_sides.proofs.DeviceEvents.{more_events, same_receives, more_taken, one_receive, steps_more}

module _ {S : Type 0} (m : Machine S) (first : S) (old : DeviceSideNow S) (inv : IsDeviceReplay m first old) where
  abbrev at : DeviceNow S
  at = old.now

  abbrev d : Seen
  d = m.seen old.now.dev

  abbrev Side : DeviceNow S → List DeviceEvent → List Completion → List Command → Type 0
  Side now events sent taken = IsDeviceReplay m first (record { now = now; events = events; sent = sent; taken = taken })

  abbrev opened : DeviceNow S
  opened = opened_side m first

  -- ---- the device is the same one

  still_made : (e : Seen) → e.base ≡ d.base → e.limit ≡ d.limit → e.depth ≡ d.depth → e.cut_at ≡ d.cut_at → e.fail_at ≡ d.fail_at → IsMadeAs (m.seen first) e
  still_made e base limit depth cut fail = record {
    base = base ∙ inv.made.base;
    limit = limit ∙ inv.made.limit;
    depth = depth ∙ inv.made.depth;
    cut_at = cut ∙ inv.made.cut_at;
    fail_at = fail ∙ inv.made.fail_at;
  }

  -- ---- receive

  pub may_receive : (c : Command) → at.unfit ≡ None → may_take at.flags (length d.surface) c ≡ true → IsReceivable d c
  may_receive c none may = receivable d at.flags c (inv.ids none) (inv.limit_is none) may

  taken_replay : (c : Command) → stepped m at (Takes c) ≡ steps m opened (with_commands (old.events ++ noted.Receive ∷ []) (old.taken ++ c ∷ []))
  taken_replay c =
      ap (λ (x : DeviceNow S). stepped m x (Takes c)) inv.replay ∙ sym (steps_more m opened (with_commands old.events old.taken) (Takes c))
      ∙ ap (steps m opened) (sym (more_taken old.events old.taken c inv.counted))

  taken_count : (c : Command) → receives (old.events ++ noted.Receive ∷ []) ≡ length (old.taken ++ c ∷ [])
  taken_count c = one_receive old.events ∙ (let n = inv.counted in let k = length-append old.taken (c ∷ []) in omega (arith, n, k))

  taken_all : at.unfit ≡ None → old.taken ≡ d.took
  taken_all none = inv.received ∙ ap (λ o. d.took ++ option_to_list o) none ∙ append-nil d.took

  pub received : (c : Command) (new : S) (flags : List Bool) (events : List DeviceEvent) (taken : List Command) → at.unfit ≡ None → may_take at.flags (length d.surface) c ≡ true → Receives d c (m.seen (m.received at.dev c))
      → new ≡ m.received at.dev c → flags ≡ flags_behind at.flags c → events ≡ old.events ++ noted.Receive ∷ [] → taken ≡ old.taken ++ c ∷ [] → Side (record { dev = new; flags = flags; kept = at.kept; unfit = at.unfit }) events old.sent taken
  received c new flags events taken none may step new_is flags_are events_are taken_is =
      let there = m.received at.dev c in
      let took : (m.seen there).took ≡ d.took ++ c ∷ [] = ap (λ (x : Seen). x.took) step in
      subst (λ (x : DeviceSideNow S). IsDeviceReplay m first x)
      (λ i. record { now = record { dev = sym new_is i; flags = sym flags_are i; kept = at.kept; unfit = at.unfit }; events = sym events_are i; sent = old.sent; taken = sym taken_is i })
      (record {
        replay = sym (ap (λ (b : Bool). if b then record at { dev = there; flags = flags_behind at.flags c } else record at { unfit = Some c; flags = [] }) may) ∙ taken_replay c;
        counted = taken_count c;
        received = ap (λ l. l ++ c ∷ []) (taken_all none) ∙ sym took ∙ sym (append-nil (m.seen there).took) ∙ ap (λ o. (m.seen there).took ++ option_to_list o) (sym none);
        sent = ap (λ (x : Seen). x.sent) step ∙ inv.sent;
        made = still_made (m.seen there) (ap (λ (x : Seen). x.base) step) (ap (λ (x : Seen). x.limit) step) (ap (λ (x : Seen). x.depth) step) (ap (λ (x : Seen). x.cut_at) step) (ap (λ (x : Seen). x.fail_at) step);
        limit_is = λ e. same_length at.flags (length d.surface) c may ∙ inv.limit_is e ∙ sym (ap (λ (x : Seen). x.limit) step);
        ids = λ e. subst (λ l. AreCounted (flags_behind at.flags c) (all_ids l)) (sym took) (counted_more at.flags (length d.surface) c may d.took (inv.ids e));
      })

  pub put_aside : (c : Command) (flags : List Bool) (events : List DeviceEvent) (taken : List Command) → at.unfit ≡ None → may_take at.flags (length d.surface) c ≡ false
      → flags ≡ [] → events ≡ old.events ++ noted.Receive ∷ [] → taken ≡ old.taken ++ c ∷ [] → Side (record { dev = at.dev; flags = flags; kept = at.kept; unfit = Some c }) events old.sent taken
  put_aside c flags events taken none may flags_are events_are taken_is =
      subst (λ (x : DeviceSideNow S). IsDeviceReplay m first x)
      (λ i. record { now = record { dev = at.dev; flags = sym flags_are i; kept = at.kept; unfit = Some c }; events = sym events_are i; sent = old.sent; taken = sym taken_is i })
      (record {
        replay = sym (ap (λ (b : Bool). if b then record at { dev = m.received at.dev c; flags = flags_behind at.flags c } else record at { unfit = Some c; flags = [] }) may) ∙ taken_replay c;
        counted = taken_count c;
        received = ap (λ l. l ++ c ∷ []) (taken_all none);
        sent = inv.sent;
        made = inv.made;
        limit_is = λ e. absurd (none-some c (sym e));
        ids = λ e. absurd (none-some c (sym e));
      })

  -- ---- steps that take no command

  replay_by : (x : DeviceEvent) (e : DeviceStep) → ((l : List Command) → with_commands (x ∷ []) l ≡ e ∷ []) → stepped m at e ≡ steps m opened (with_commands (old.events ++ x ∷ []) old.taken)
  replay_by x e named =
      ap (λ (y : DeviceNow S). stepped m y e) inv.replay ∙ sym (steps_more m opened (with_commands old.events old.taken) e)
      ∙ ap (steps m opened) (sym (more_events old.events x e old.taken named))

  -- a step of the device alone
  pub went_on : (x : DeviceEvent) (e : DeviceStep) (to new : S) (events : List DeviceEvent) → ((l : List Command) → with_commands (x ∷ []) l ≡ e ∷ []) → receives (x ∷ []) ≡ 0 → stepped m at e ≡ record at { dev = to } → KeepsGiven d (m.seen to)
      → new ≡ to → events ≡ old.events ++ x ∷ [] → Side (record { dev = new; flags = at.flags; kept = at.kept; unfit = at.unfit }) events old.sent old.taken
  went_on x e to new events named none step given new_is events_are =
      subst (λ (y : DeviceSideNow S). IsDeviceReplay m first y)
      (λ i. record { now = record { dev = sym new_is i; flags = at.flags; kept = at.kept; unfit = at.unfit }; events = sym events_are i; sent = old.sent; taken = old.taken })
      (record {
        replay = sym step ∙ replay_by x e named;
        counted = same_receives old.events x none ∙ inv.counted;
        received = inv.received ∙ ap (λ l. l ++ option_to_list at.unfit) (sym given.took);
        sent = given.sent ∙ inv.sent;
        made = still_made (m.seen to) given.base given.limit given.depth given.cut_at given.fail_at;
        limit_is = λ n. inv.limit_is n ∙ sym given.limit;
        ids = λ n. subst (λ l. AreCounted at.flags (all_ids l)) (sym given.took) (inv.ids n);
      })

  -- ---- answers

  -- the completion that was kept went
  pub kept_went : (c : Completion) (events : List DeviceEvent) (sent : List Completion) → at.kept ≡ Some c → events ≡ old.events ++ noted.Answer false ∷ [] → sent ≡ old.sent ++ c ∷ []
      → Side (record { dev = at.dev; flags = at.flags; kept = None; unfit = at.unfit }) events sent old.taken
  kept_went c events sent was events_are sent_is =
      subst (λ (x : DeviceSideNow S). IsDeviceReplay m first x)
      (λ i. record { now = record { dev = at.dev; flags = at.flags; kept = None; unfit = at.unfit }; events = sym events_are i; sent = sym sent_is i; taken = old.taken })
      (record {
        replay = sym (ap (sent_from m at false) was) ∙ replay_by (noted.Answer false) (Sends false) (λ l. refl);
        counted = same_receives old.events (noted.Answer false) refl ∙ inv.counted;
        received = inv.received;
        sent = inv.sent ∙ ap (λ o. old.sent ++ option_to_list o) was ∙ sym (append-nil (old.sent ++ c ∷ []));
        made = inv.made;
        limit_is = inv.limit_is;
        ids = inv.ids;
      })

  module _ (c : Completion) (new : S) (was : at.kept ≡ None) (new_is : new ≡ m.answered at.dev) (next : Some c ≡ m.next_answer at.dev) (step : Answers d (m.next_answer at.dev) (m.seen (m.answered at.dev))) where
    abbrev to : S
    to = m.answered at.dev

    out : (m.seen to).sent ≡ old.sent ++ c ∷ []
    out =
        step.sent ∙ ap (λ l. l ++ option_to_list (m.next_answer at.dev)) (inv.sent ∙ ap (λ o. old.sent ++ option_to_list o) was ∙ append-nil old.sent)
        ∙ ap (λ o. old.sent ++ option_to_list o) (sym next)

    took : (m.seen to).took ≡ d.took
    took = ap (λ (x : Seen). x.took) step.rest

    made : IsMadeAs (m.seen first) (m.seen to)
    made = still_made (m.seen to) (ap (λ (x : Seen). x.base) step.rest) (ap (λ (x : Seen). x.limit) step.rest) (ap (λ (x : Seen). x.depth) step.rest) (ap (λ (x : Seen). x.cut_at) step.rest) (ap (λ (x : Seen). x.fail_at) step.rest)

    pub answer_went : (kept : Option Completion) (events : List DeviceEvent) (sent : List Completion) → kept ≡ None → events ≡ old.events ++ noted.Answer false ∷ [] → sent ≡ old.sent ++ c ∷ []
        → Side (record { dev = new; flags = at.flags; kept = kept; unfit = at.unfit }) events sent old.taken
    answer_went kept events sent kept_is events_are sent_is =
        subst (λ (x : DeviceSideNow S). IsDeviceReplay m first x)
        (λ i. record { now = record { dev = sym new_is i; flags = at.flags; kept = sym kept_is i; unfit = at.unfit }; events = sym events_are i; sent = sym sent_is i; taken = old.taken })
        (record {
          replay = sym (ap (sent_from m at false) was) ∙ replay_by (noted.Answer false) (Sends false) (λ l. refl);
          counted = same_receives old.events (noted.Answer false) refl ∙ inv.counted;
          received = inv.received ∙ ap (λ l. l ++ option_to_list at.unfit) (sym took);
          sent = out ∙ sym (append-nil (old.sent ++ c ∷ []));
          made = made;
          limit_is = λ n. inv.limit_is n ∙ sym (ap (λ (x : Seen). x.limit) step.rest);
          ids = λ n. subst (λ l. AreCounted at.flags (all_ids l)) (sym took) (inv.ids n);
        })

    pub answer_kept : (back : Completion) (events : List DeviceEvent) (sent : List Completion) → back ≡ c → events ≡ old.events ++ noted.Answer true ∷ [] → sent ≡ old.sent
        → Side (record { dev = new; flags = at.flags; kept = Some back; unfit = at.unfit }) events sent old.taken
    answer_kept back events sent same events_are sent_is =
        subst (λ (x : DeviceSideNow S). IsDeviceReplay m first x)
        (λ i. record { now = record { dev = sym new_is i; flags = at.flags; kept = (sym next ∙ ap Some (sym same)) i; unfit = at.unfit }; events = sym events_are i; sent = sym sent_is i; taken = old.taken })
        (record {
          replay = sym (ap (sent_from m at true) was) ∙ replay_by (noted.Answer true) (Sends true) (λ l. refl);
          counted = same_receives old.events (noted.Answer true) refl ∙ inv.counted;
          received = inv.received ∙ ap (λ l. l ++ option_to_list at.unfit) (sym took);
          sent = out ∙ ap (λ o. old.sent ++ option_to_list o) next;
          made = made;
          limit_is = λ n. inv.limit_is n ∙ sym (ap (λ (x : Seen). x.limit) step.rest);
          ids = λ n. subst (λ l. AreCounted at.flags (all_ids l)) (sym took) (inv.ids n);
        })

-- ---- opening

-- a device of which nothing was asked is that of a side with no events
pub opens : {S : Type 0} (m : Machine S) (first dev : S) (flags : List Bool) (sent : List Completion) (taken : List Command) → dev ≡ first → IsUntouched (m.seen dev) → flags ≡ replicate (m.seen dev).limit false → sent ≡ [] → taken ≡ []
    → IsDeviceReplay m first (record { now = record { dev = dev; flags = flags; kept = None; unfit = None }; events = []; sent = sent; taken = taken })
opens {S} m first dev flags sent taken same new flags_are sent_is taken_is =
    let there : flags ≡ replicate (m.seen first).limit false = flags_are ∙ ap (λ (x : S). replicate (m.seen x).limit false) same in
    record {
      replay = λ i. record { dev = same i; flags = there i; kept = None; unfit = None };
      counted = sym (ap length taken_is);
      received = taken_is ∙ ap (λ (l : List Command). l ++ []) (sym new.took);
      sent = new.sent ∙ ap (λ (l : List Completion). l ++ []) (sym sent_is);
      made = subst (λ (x : S). IsMadeAs (m.seen first) (m.seen x)) (sym same) (record { base = refl; limit = refl; depth = refl; cut_at = refl; fail_at = refl });
      limit_is = λ none. ap length flags_are ∙ length-replicate (m.seen dev).limit false;
      ids = λ none. subst (λ (l : List Command). AreCounted flags (all_ids l)) (sym new.took) (subst (λ (l : List Bool). AreCounted l []) (sym flags_are) (none_came (m.seen dev).limit));
    }
