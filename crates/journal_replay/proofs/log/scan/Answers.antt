use Rattle.std.proofs.Common.{◌∙◌, Err, ap}
use Rattle.order_model.specs.Machine.{Machine, machine_of}
use Rattle.journal_blocks.specs.Log.{body_at}
use Rattle.journal_blocks.specs.laws.Supers.{read_parts}
use Rattle.journal_replay.specs.laws.Recoveries.{start_within}
use Rattle.journal_replay.specs.laws.Reads.{asked_failed, asked_refused}
use Rattle.journal_replay.proofs.log.scan.Goals as goal

pub read_log-requires-clause-start : goal.read_log-requires-clause-start
read_log-requires-clause-start g c =
    let d = g.D.OrderedDev in
    let image = (d.seen (d.state c.args.dev.now)).surface in
    let parts = read_parts (body_at image c.args.base) c.args.s.now c.requires.read in
    start_within c.args.s.now parts.5 c.if-s-eq0.false

pub returns-in-Err-ReadFault-clause-asked : goal.returns-in-Err-ReadFault-clause-asked
returns-in-Err-ReadFault-clause-asked g c first before =
    let d = g.D.OrderedDev in
    let m : Machine d.State = machine_of d in
    asked_failed m c.read_log.result first (d.state c.read_log.new.dev) (c.in-Err-ReadFault.is ∙ ap Err c.in-Err-ReadFault.field-0-is) (c.read_log.ensures.asked first before)

pub returns-in-Err-NoMemory-clause-asked : goal.returns-in-Err-NoMemory-clause-asked
returns-in-Err-NoMemory-clause-asked g c first before =
    let d = g.D.OrderedDev in
    let m : Machine d.State = machine_of d in
    asked_refused m c.read_log.result first (d.state c.read_log.new.dev) (c.in-Err-NoMemory.is ∙ ap Err c.in-Err-NoMemory.field-0-is) (c.read_log.ensures.asked first before)
