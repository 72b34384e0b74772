-- A path hands over what its part does.
use Rattle.std.proofs.Common.{◌+◌, List, ap, ◌∙◌}
use Rattle.std.specs.Option.{option_map}
use Rattle.order_model.specs.declared.command.Command.{Command}
use Rattle.order_model.specs.Single.{command_for}
use Rattle.stack_core.specs.declared.request_path.RequestPath.{RequestPath}
use Rattle.stack_core.specs.declared.request_path.RequestPath.TheVariants.{Direct, Scheduled}
use Rattle.stack_core.specs.BlockLayer.{QueuesState, given_first}
use Rattle.stack_core.specs.RequestPath.{given}
use Rattle.stack_core.proofs.request_path.RequestPath.hand_to.Goals as goal

pub hand_to-requires : goal.hand_to-requires
hand_to-requires g c = λ request at.
    let next = c.in-Direct.direct in
    c.requires (command_for request) (Direct (next + 1)) (ap (given c.args.requests.now) c.in-Direct.is ∙ ap (option_map {U = Command × RequestPath} (λ r. (command_for r, Direct (next + 1)))) at)

pub hand_to-requires-in-Scheduled : goal.hand_to-requires-in-Scheduled
hand_to-requires-in-Scheduled g c = λ command others waits.
    let s = c.in-Scheduled.queues in
    c.requires command (Scheduled (record s { dispatched = others }))
    (ap (given c.args.requests.now) c.in-Scheduled.is ∙ ap (λ (l : List Command). option_map {U = Command × RequestPath} (λ (x : Command × QueuesState). (x.0, Scheduled x.1)) (given_first s l)) waits)
