-- What events leave is order-closed.
use Rattle.std.proofs.Common.{◌≡◌, ℕ, List, take, Option, refl, sym, subst, arith}
use Rattle.blk_base.specs.Image.{zeros}
use Rattle.order_model.specs.declared.request.Request.{Request}
use Rattle.order_model.specs.OrderClosed.{IsOrderClosed}
use Rattle.order_model.specs.Device.{origin_ids}
use Rattle.order_model.proofs.OrderToTheMedium.{order_closed}
use Rattle.schedulers.specs.declared.reassign.scheduler.TheConstants.{CAPACITY}
use Rattle.schedulers.specs.reassign.Sched.{SchedState, sched_steps, opened}
use Rattle.schedulers.specs.reassign.laws.Valid as scheduler
use Rattle.schedulers.specs.reassign.laws.DispatchedLaws as new_scheduler
use Rattle.schedulers.specs.reassign.laws.SchedulerLaws.{keeps}
use Rattle.device_epochs.specs.Device.{DeviceState, seen}
use Rattle.device_epochs.specs.laws.EpochOrder.{surface_law, epoch_order_law}
use Rattle.device_epochs.specs.laws.ReachableLaws as new_device
use Rattle.script_grammar.specs.declared.script.Script.{Script}
use Rattle.script_grammar.specs.declared.script.EventLine.{EventLine}
use Rattle.script_grammar.specs.Grammar.{blocks_of}
use Rattle.stack_core.specs.RequestPath.{opened_path, scheduled_count, submitted_count, carried}
use Rattle.stack_core.specs.Core.{RunState, run_lines, ended, epoch_machine, setup_for, opened_for}
use Rattle.stack_core.proofs.Opening.{path-opened}
use Rattle.stack_core.proofs.Paths.{path-carried}
use Rattle.exact_order.specs.Left.{end_under, IsLeft, IsPlain}
use Rattle.exact_order.proofs.Prefix.{closed_for_all}
use Rattle.exact_order.proofs.Reached.{IsReached, run-reached}

-- the plain scheduler and the model device as a script begins
abbrev pub opened_run : Script → RunState SchedState DeviceState
opened_run s = record { path = opened_path s; sched = opened (scheduled_count s) CAPACITY; dev = opened_for s }

pub opened-reached : (s : Script) → IsPlain s → IsReached (zeros (blocks_of s)) s.puts (opened_run s)
opened-reached s p = record {
  sched = new_scheduler.opened-valid (scheduled_count s) CAPACITY;
  dev = new_device.opened-valid (zeros (blocks_of s)) (setup_for s) (let some = p.runnable.some_depth in omega arith);
  over = refl;
  path = path-opened s (seen (opened_for s)) p.runnable refl refl (omega arith);
}

-- where the run of its requests under these events ends
abbrev pub run_under : Script → List EventLine → RunState SchedState DeviceState
run_under s events = run_lines sched_steps epoch_machine s.puts (opened_run s) events

pub end-is : (s : Script) (events : List EventLine) → IsPlain s → end_under s events ≡ ended sched_steps epoch_machine (run_under s events)
end-is s events p = rw (p.flash, p.elevator) refl

pub reached-closed : (base : List (List ℕ)) (rs : List Request) (r : RunState SchedState DeviceState) → IsReached base rs r → IsOrderClosed base rs r.dev.surface (origin_ids r.dev.took r.dev.origins)
reached-closed base rs r v =
    let c = path-carried sched_steps scheduler.IsValid rs r.path r.sched (seen r.dev) keeps v.sched v.path in
    let n = submitted_count r.path in
    let closed = order_closed (take n rs) (carried sched_steps rs r.path r.sched) (seen r.dev)
    (record { ids = c.ids; fits = c.fits; carries = c.carries; surface = surface_law r.dev v.dev }) (epoch_order_law r.dev v.dev) in
    subst (λ b. IsOrderClosed b rs r.dev.surface (origin_ids r.dev.took r.dev.origins)) v.over (closed_for_all (n, refl) closed)

pub left-closed : (s : Script) → IsPlain s → (image : List (List ℕ)) (origins : List (Option ℕ)) → IsLeft s image origins → IsOrderClosed (zeros (blocks_of s)) s.puts image origins
left-closed s p image origins l =
    let base = zeros (blocks_of s) in
    let end = end-is s l.events p in
    let closed = reached-closed base s.puts (run_under s l.events) (run-reached base s.puts (opened_run s) l.events (opened-reached s p)) in
    let seen_closed : IsOrderClosed base s.puts (end_under s l.events).dev.surface (origin_ids (end_under s l.events).dev.took (end_under s l.events).dev.origins) =
    subst (λ e. IsOrderClosed base s.puts e.dev.surface (origin_ids e.dev.took e.dev.origins)) (sym end) closed in
    subst (λ i. IsOrderClosed base s.puts i origins) l.holds
    (subst (λ o. IsOrderClosed base s.puts (end_under s l.events).dev.surface o) l.written seen_closed)
