use Rattle.std.proofs.Common.{◌≤◌, not, ap, sym, ◌∙◌, arith, rules}
use Rattle.std.proofs.lemmas.Bool.{or_left, or_right}
use Rattle.flog_device.specs.code.Helpers.{starts_with_flush}
use Rattle.flog_device.proofs.Pages.{all-fit}
use Rattle.flog_device.proofs.choice.all_fit.Goals as goal

pub returns-then-programmed : goal.returns-then-programmed
returns-then-programmed c =
    let le : 16 ≤ c.args.free = search (rules, arith) in
    λ t. all-fit c.args.free c.args.programmed c.args.queue.now c.requires le (or_left c.args.programmed (not (starts_with_flush c.args.queue.now)) t)

pub returns-else-programmed : goal.returns-else-programmed
returns-else-programmed c =
    let le : 16 ≤ c.args.free = search (rules, arith) in
    λ t. all-fit c.args.free c.args.programmed c.args.queue.now c.requires le
    (or_right c.args.programmed (not (starts_with_flush c.args.queue.now)) (ap not (sym c.starts_with_flush.ensures) ∙ t))
