-- What every run of a script on the plain scheduler and the model device keeps, whatever its events are.
use Rattle.std.proofs.Common.{◌≡◌, ℕ, zero, suc, ◌≤◌, List, [], ◌∷◌, ◌++◌, length, sym, ap, subst, ◌∙◌, ⊎_elim}
use Rattle.std.specs.Option.{option_to_list}
use Rattle.std.proofs.lemmas.Bool.{cases_lt}
use Rattle.order_model.specs.declared.request.Request.{Request}
use Rattle.order_model.specs.Device.{Seen}
use Rattle.order_model.specs.Steps.{KeepsGiven}
use Rattle.order_model.specs.Carrying.{SchedSeen}
use Rattle.schedulers.specs.reassign.Sched.{SchedState, seen_of, sched_steps}
use Rattle.schedulers.specs.reassign.laws.Valid as scheduler
use Rattle.schedulers.specs.reassign.laws.OrderLaws.{carries}
use Rattle.schedulers.specs.reassign.laws.SchedulerLaws.{keeps}
use Rattle.device_epochs.specs.Device.{DeviceState, transferable, transferred, persistable, persisted, seen}
use Rattle.device_epochs.specs.laws.Valid as device
use Rattle.device_epochs.specs.laws.EpochOrder.{surface_law}
use Rattle.device_epochs.specs.laws.MemberLaws.{receives, transfers, persists}
use Rattle.device_epochs.specs.laws.StepLaws.{no_transfer, no_persist}
use Rattle.script_grammar.specs.declared.script.EventLine.{EventLine}
use Rattle.script_grammar.specs.declared.script.EventWord.{EventWord}
use Rattle.script_grammar.specs.declared.script.EventWord.TheVariants.{One}
use Rattle.script_grammar.specs.declared.script.CoreEvent.{CoreEvent}
use Rattle.script_grammar.specs.declared.script.CoreEvent.TheVariants.{Submit, Accept, Dispatch, Receive, Transfer, Persist}
use Rattle.stack_core.specs.declared.request_path.RequestPath.{RequestPath}
use Rattle.stack_core.specs.declared.request_path.RequestPath.TheVariants.{Direct, Scheduled}
use Rattle.stack_core.specs.RequestPath.{AreRequests, PathFits, given, stepped}
use Rattle.stack_core.specs.Core.{RunState, on_device, before_device, happens, happens_line, times, run_lines, epoch_machine}
use Rattle.stack_core.specs.Handing.{Handing}
use Rattle.stack_core.proofs.Paths.{stepped-path, path-handed, received_handed}

-- scheduler and device are in states that they can be in, and hold together with the path between host and device
pub record IsReached (base : List (List ℕ)) (rs : List Request) (r : RunState SchedState DeviceState) : Type 0 where
  pub sched : scheduler.IsValid r.sched
  pub dev : device.IsValid r.dev
  pub over : r.dev.base ≡ base
  pub path : PathFits r.path (seen_of r.sched) rs (seen r.dev)

-- what no step of the device changes is all that the path speaks of
path-given : (f : RequestPath) (p : SchedSeen) (rs : List Request) (old new : Seen) → KeepsGiven old new → PathFits f p rs old → PathFits f p rs new
path-given (Direct next) p rs old new g v = record {
  within = v.within;
  took = g.took ∙ v.took;
  fitting = subst (λ (b : List (List ℕ)). AreRequests (length b) rs) (sym g.base) v.fitting;
  limit = subst (λ n. length rs ≤ n) (sym g.limit) v.limit;
}
path-given (Scheduled s) p rs old new g v = record {
  within = v.within;
  submitted = v.submitted;
  sent = v.sent ∙ ap (λ t. t ++ s.dispatched ++ option_to_list s.kept) (sym g.took);
  may_accept = v.may_accept;
  fitting = subst (λ (b : List (List ℕ)). AreRequests (length b) rs) (sym g.base) v.fitting;
  limit = subst (λ n. length rs ≤ n) (sym g.limit) v.limit;
}

module _ (base : List (List ℕ)) (rs : List Request) where
  stepped-reached : (r : RunState SchedState DeviceState) (e : CoreEvent) → IsReached base rs r → IsReached base rs (on_device (stepped sched_steps rs (before_device r) e) r.dev)
  stepped-reached r e v =
      let b = stepped-path sched_steps scheduler.IsValid rs (before_device r) e (seen r.dev) keeps v.sched v.path in
      record { sched = b.keeps; dev = v.dev; over = v.over; path = b.path }

  received-reached : (r : RunState SchedState DeviceState) → IsReached base rs r → IsReached base rs (happens sched_steps epoch_machine rs r Receive)
  received-reached r v =
      let old : Handing RequestPath DeviceState = record { before = r.path; dev = r.dev } in
      let h = path-handed epoch_machine device.IsValid receives rs (seen_of r.sched) old v.dev v.path (carries r.sched v.sched) (surface_law r.dev v.dev).blocks in
      subst (IsReached base rs) (received_handed epoch_machine r.sched old (given rs r.path))
      (record { sched = v.sched; dev = h.keeps; over = h.base ∙ v.over; path = h.path })

  transferred-reached : (r : RunState SchedState DeviceState) (pick : ℕ) → IsReached base rs r → IsReached base rs (record r { dev = transferred r.dev pick })
  transferred-reached r pick v =
      ⊎_elim
      (λ lt.
      let t = transfers r.dev pick v.dev lt in
      record { sched = v.sched; dev = t.0; over = t.1.given.base ∙ v.over; path = path-given r.path (seen_of r.sched) rs (seen r.dev) (seen (transferred r.dev pick)) t.1.given v.path })
      (λ le. subst (λ (d : DeviceState). IsReached base rs (record r { dev = d })) (sym (no_transfer r.dev pick le)) v)
      (cases_lt pick (length (transferable r.dev)))

  persisted-reached : (r : RunState SchedState DeviceState) (pick : ℕ) → IsReached base rs r → IsReached base rs (record r { dev = persisted r.dev pick })
  persisted-reached r pick v =
      ⊎_elim
      (λ lt.
      let t = persists r.dev pick v.dev lt in
      record { sched = v.sched; dev = t.0; over = t.1.given.base ∙ v.over; path = path-given r.path (seen_of r.sched) rs (seen r.dev) (seen (persisted r.dev pick)) t.1.given v.path })
      (λ le. subst (λ (d : DeviceState). IsReached base rs (record r { dev = d })) (sym (no_persist r.dev pick le)) v)
      (cases_lt pick (length (persistable r.dev)))

  pub happens-reached : (r : RunState SchedState DeviceState) (e : CoreEvent) → IsReached base rs r → IsReached base rs (happens sched_steps epoch_machine rs r e)
  happens-reached r Submit v = stepped-reached r Submit v
  happens-reached r Accept v = stepped-reached r Accept v
  happens-reached r (Dispatch pick) v = stepped-reached r (Dispatch pick) v
  happens-reached r Receive v = received-reached r v
  happens-reached r (Transfer pick) v = transferred-reached r pick v
  happens-reached r (Persist pick) v = persisted-reached r pick v

  times-reached : (n : ℕ) (f : RunState SchedState DeviceState → RunState SchedState DeviceState) → ((r : RunState SchedState DeviceState) → IsReached base rs r → IsReached base rs (f r))
      → (r : RunState SchedState DeviceState) → IsReached base rs r → IsReached base rs (times n f r)
  times-reached zero f h r v = v
  times-reached (suc n) f h r v = times-reached n f h (f r) (h r v)

  line-reached : (r : RunState SchedState DeviceState) (count : ℕ) (w : EventWord) → IsReached base rs r → IsReached base rs (happens_line sched_steps epoch_machine rs r (record { what = w; count = count }))
  line-reached r count (One e) v = times-reached count (λ s. happens sched_steps epoch_machine rs s e) (λ s. happens-reached s e) r v

  pub run-reached : (r : RunState SchedState DeviceState) (ls : List EventLine) → IsReached base rs r → IsReached base rs (run_lines sched_steps epoch_machine rs r ls)
  unfolding run_lines
  run-reached r [] v = v
  run-reached r (l ∷ ls) v = run-reached (happens_line sched_steps epoch_machine rs r l) ls (line-reached r l.count l.what v)
