use Rattle.std.specs.List.{All}
use Rattle.std.proofs.Common.{length, take, sym, ap, subst, ◌∙◌, arith, rules}
use Rattle.flog_device.specs.Log.{prefix, places, programmed_at}
use Rattle.flog_device.specs.Device.{programs}
use Rattle.flog_device.specs.code.Logged.{IsIn, AreLast}
use Rattle.flog_device.proofs.Kept.{in-programmed, prefix-grows, take-kept}
use Rattle.flog_device.proofs.page_log.PageLog.program.Goals as goal

pub overflow_sub-self : goal.overflow_sub-self
overflow_sub-self c =
    let count = c.self.invariant.unprogrammed in
    let less = c.count_unprogrammed.ensures in
    omega (arith, count, less)

pub keep-self-inside-requires-clause-kept : goal.keep-self-inside-requires-clause-kept
keep-self-inside-requires-clause-kept c =
    let grows = prefix-grows c.args.at c.self.inside.pages.items in
    let kept = c.self.invariant.kept in
    let new = ap (λ l. length (prefix l)) c.program.ensures.items in
    omega (arith, grows, kept, new)

pub keep-self-inside-requires-clause-pages : goal.keep-self-inside-requires-clause-pages
keep-self-inside-requires-clause-pages c =
    let area = length c.self.inside.last.items in
    let all : All (IsIn area) c.self.inside.pages.items = subst (λ l. All (IsIn l.area) l.items) (sym c.self.view_is) c.requires.pages in
    subst (All (IsIn area)) (sym c.program.ensures.items) (in-programmed area c.args.at c.self.inside.pages.items all)

pub keep-self-inside-requires-clause-last : goal.keep-self-inside-requires-clause-last
keep-self-inside-requires-clause-last c =
    let h = c.self.invariant in
    let same = ap (take c.self.inside.kept) c.program.ensures.items ∙ ap (λ n. take n (programmed_at c.args.at c.self.inside.pages.items)) h.kept ∙ take-kept c.args.at c.self.inside.pages.items in
    subst (λ l. AreLast c.self.inside.last.items (places l)) (sym same) h.last

pub invariant_of-self : goal.invariant_of-self
invariant_of-self c =
    let count = c.self.invariant.unprogrammed in
    let less = c.count_unprogrammed.ensures in
    let new = ap (λ l. length (programs 0 l)) c.program.ensures.items in
    record { kept = search rules; unprogrammed = omega (arith, count, less, new); last = search rules }
