use Rattle.std.proofs.Common.{length, sym, ap, ◌∙◌}
use Rattle.flog_device.specs.Log.{prefix, places}
use Rattle.flog_device.specs.Device.{FlogState, surface}
use Rattle.flog_device.specs.laws.LogFacts.{length-laid}
use Rattle.flog_device.specs.code.Fields.{state_of}
use Rattle.flog_device.proofs.device.FlogDeviceOrderedDev.blocks.Goals as goal

pub returns-clause-count : goal.returns-clause-count
returns-clause-count c =
    let s = state_of c.self.inside in
    c.len.ensures ∙ sym (length-laid s.took (places (prefix s.log)) s.data_area) ∙ ap (λ (t : FlogState). length (surface t)) c.self.view_is
