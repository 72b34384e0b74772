use Rattle.std.proofs.Common.{◌==◌, sym, ap, ◌∙◌}
use Rattle.flog_device.specs.Device.{all_programmed}
use Rattle.flog_device.proofs.Kept.{all-none_open}
use Rattle.flog_device.proofs.page_log.PageLog.all_programmed.Goals as goal

pub returns : goal.returns
returns c =
    ap (λ n. n == 0) c.self.invariant.unprogrammed
    ∙ sym (all-none_open 0 c.self.inside.pages.items)
    ∙ ap (λ l. all_programmed l.items) c.self.view_is
