use Rattle.std.proofs.Common.{◌≡◌, ◌+◌, ◌<◌, ◌≤◌, List, ℕ, length, ap, sym, subst, ◌∙◌}
use Rattle.order_model.specs.Machine.{Machine, machine_of}
use Rattle.journal_blocks.specs.Log.{body_at}
use Rattle.journal_replay.specs.Driving.{all_choices}
use Rattle.call_sessions.specs.power_cuts.recovery.Attempts.{choices_of}
use Rattle.call_sessions.specs.power_cuts.recovery.code.Left.{IsLeft}
use Rattle.call_sessions.proofs.PowerCutsLemmas.RecoveryLemmas.Attempted.{quiet_new, attempt_from, told_from}
use Rattle.call_sessions.proofs.PowerCutsLemmas.RecoveryLemmas.Kept.{left_by}
use Rattle.call_sessions.proofs.power_cuts.recovery.attempts.recover_line.Goals as goal

pub recover-requires-clause-quiet : goal.recover-requires-clause-quiet
recover-requires-clause-quiet g c = let d = g.M.Dev.OrderedDev in quiet_new (d.seen (d.state c.in_ok-device.device)) c.in_ok-device.ensures.is_fresh.untouched.took

pub recover-requires-clause-fresh : goal.recover-requires-clause-fresh
recover-requires-clause-fresh g c = c.in_ok-device.ensures.is_fresh.untouched.took

pub recover-requires-clause-on : goal.recover-requires-clause-on
recover-requires-clause-on g c = c.in_ok-device.ensures.on

pub recover-requires-clause-room : goal.recover-requires-clause-room
recover-requires-clause-room g c =
    let d = g.M.Dev.OrderedDev in
    let fresh = c.in_ok-device.ensures.is_fresh in
    subst (λ (i : List (List ℕ)). length i + 2 ≤ (d.seen (d.state c.in_ok-device.device)).limit) (sym fresh.surface) fresh.room

pub recover-requires-clause-within : goal.recover-requires-clause-within
recover-requires-clause-within g c = subst (λ (i : List (List ℕ)). c.args.base < length i) (sym c.in_ok-device.ensures.is_fresh.surface) c.requires.within

pub returns-clause-attempt : goal.returns-clause-attempt
returns-clause-attempt g c =
    let d = g.M.Dev.OrderedDev in
    let m : Machine d.State = machine_of d in
    let last = d.state c.recover.new.dev in
    let new = c.in_ok-device.ensures in
    let did = c.in-Ok.ensures in
    let cut = c.cut-image.ensures in (
      last,
      attempt_from m c.args.base c.args.image (choices_of c.args.line.now) (all_choices c.deref.result.now) (d.state (g.M.Maker.fresh_dev (g.M.Maker.setup c.args.maker.now) c.args.image)) (d.state c.in_ok-device.device) last
          new.state new.is_fresh.surface (ap all_choices c.deref.ensures.value ∙ c.in_ok-steps.ensures) c.requires.fine did.run did.empty,
      told_from c.cut-image.result.trace.steps c.cut-image.result.origins (d.seen last) cut.trace.steps cut.origins,
      cut.image,
    )

pub returns-clause-left : goal.returns-clause-left
returns-clause-left g c =
    let d = g.M.Dev.OrderedDev in
    let base = c.args.base in
    let over = (d.seen (d.state c.in_ok-device.device)).surface in
    let left = (d.seen (d.state c.recover.new.dev)).surface in
    let same = c.in_ok-device.ensures.is_fresh.surface in
    let did = c.in-Ok.ensures in
    subst (λ (i : List (List ℕ)). IsLeft base c.args.image i) (sym c.cut-image.ensures.image)
    (subst (λ (i : List (List ℕ)). IsLeft base i left) same
    (left_by base over left
    (subst (λ (i : List (List ℕ)). base < length i) (sym same) c.requires.within)
    (subst (λ (i : List (List ℕ)). length (body_at i base) ≡ 1024) (sym same) c.check_size.ensures)
    did.fine did.attempt did.between))
