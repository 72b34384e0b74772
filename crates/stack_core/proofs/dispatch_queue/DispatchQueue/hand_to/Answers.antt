-- The device may take what is first.
use Rattle.std.proofs.Common.{◌≡◌, Some, drop, slice_get, ap, sym, ◌∙◌}
use Rattle.std.specs.Option.{option_copied}
use Rattle.stack_core.specs.Dispatching.{DispatchState}
use Rattle.stack_core.proofs.Dispatches.{first_is}
use Rattle.stack_core.proofs.dispatch_queue.DispatchQueue.hand_to.Goals as goal

pub take_in-requires-clause-command : goal.take_in-requires-clause-command
take_in-requires-clause-command g c =
    let waiting = c.args.self.now.dispatched in
    let command = c.in-Some.command.now in
    let first : Some command ≡ slice_get waiting 0 = sym (ap option_copied c.in-Some.is) ∙ c.first.ensures ∙ ap (λ (d : DispatchState). slice_get d.dispatched 0) c.self.view_is in
    c.requires command (drop 1 waiting) (first_is waiting command first)
