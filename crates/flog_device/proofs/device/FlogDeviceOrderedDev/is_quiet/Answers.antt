use Rattle.std.proofs.Common.{◌≡◌, false, true, length, subst, arith, rules, IsTrue, not}
use Rattle.std.proofs.lemmas.Bool.{both_ways}
use Rattle.order_model.specs.Device.{IsQuiet}
use Rattle.flog_device.specs.Device.{FlogState, all_programmed, seen}
use Rattle.flog_device.specs.code.Fields.{state_of}
use Rattle.flog_device.proofs.Moves.{quiet_when, not_quiet}
use Rattle.flog_device.proofs.device.FlogDeviceOrderedDev.is_quiet.Goals as goal
use Rattle.flog_device.proofs.device.FlogDeviceOrderedDev.is_quiet.Goals.{then-self-via-then-self, then-self-via-else-self+then-not-is_empty, then-self-via-else-self+else-not-is_empty+then-not-all_programmed}

pub returns-then-self : goal.returns-then-self
returns-then-self c =
    subst (λ (s : FlogState). (IsTrue false → IsQuiet (seen s)) × (IsQuiet (seen s) → IsTrue false)) c.self.view_is
    (not_quiet (state_of c.self.inside) c.self.invariant.valid
    (λ e.
    elim c.then-self.branch [
      | then-self-via-then-self w ↦ both_ways c.self.inside.failed e.2 (search rules)
      | then-self-via-else-self+then-not-is_empty w ↦ let q = e.0 in search (rules, arith)
      | then-self-via-else-self+else-not-is_empty+then-not-all_programmed w ↦ let q = e.1 in search (rules, arith)
    ]))

pub returns : goal.returns
returns c =
    let fine : c.self.inside.failed ≡ false = search rules in
    let queue : length c.self.inside.queue.waiting ≡ 0 = search rules in
    let programmed : all_programmed c.self.inside.log.items ≡ true = search rules in
    subst (λ (s : FlogState). (IsTrue (not c.holds_flush.result) → IsQuiet (seen s)) × (IsQuiet (seen s) → IsTrue (not c.holds_flush.result))) c.self.view_is
    (quiet_when (state_of c.self.inside) c.self.invariant.valid fine queue programmed c.holds_flush.result c.holds_flush.ensures)
