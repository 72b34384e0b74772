use Rattle.std.proofs.Common.{length, ap, arith}
use Rattle.flog_device.proofs.Kept.{open-le}
use Rattle.flog_device.proofs.page_log.PageLog.count_writes.Goals as goal

pub overflow_add-result : goal.overflow_add-result
overflow_add-result c =
    let count = c.self.invariant.unprogrammed in
    let le = open-le 0 c.self.inside.pages.items in
    let small = c.self.inside.pages.small in
    let ok = c.self.inside.pages.ok in
    omega (arith, count, le, small, ok)

pub returns-then-can_fold-clause-few : goal.returns-then-can_fold-clause-few
returns-then-can_fold-clause-few c =
    let count = c.self.invariant.unprogrammed in
    let le = open-le 0 c.self.inside.pages.items in
    let view = ap (λ l. length l.items) c.self.view_is in
    omega (arith, count, le, view)

pub returns-else-can_fold-clause-few : goal.returns-else-can_fold-clause-few
returns-else-can_fold-clause-few c =
    let count = c.self.invariant.unprogrammed in
    let le = open-le 0 c.self.inside.pages.items in
    let view = ap (λ l. length l.items) c.self.view_is in
    omega (arith, count, le, view)
