-- How many commands, parts, completions, pages and steps there are at most, by the ids that may be taken.
use Rattle.std.specs.Prelude.{◌+◌, ◌*◌, ◌<◌, ◌≤◌, length}
use Rattle.std.proofs.Common.{ap, arith, length-append}
use Rattle.std.proofs.lemmas.List.{length-map}
use Rattle.blk_base.specs.Members.{In}
use Rattle.order_model.specs.declared.command.Command.{Command}
use Rattle.order_model.specs.Received.{all_parts, ids_of, all_ids, completions_of, failures_of}
use Rattle.order_model.specs.Device.{IsReceivable}
use Rattle.device_epochs.specs.queue.Queue.{Waiting}
use Rattle.device_epochs.specs.queue.laws.QueueLaws.{all_parts-le_ids, parts-le_ids, some_ids, took-le_ids, sum_by-without}
use Rattle.device_epochs.specs.queue.laws.CompletionLaws.{length-completions, length-failures}
use Rattle.flog_device.specs.Log.{places, place_of}
use Rattle.flog_device.specs.Device.{FlogState, transferable, seen}
use Rattle.flog_device.specs.laws.Valid.{work, work_left, part_of, moved_part, given, IsValid}
use Rattle.flog_device.specs.laws.StateLaws.{numbered, waits}
use Rattle.flog_device.specs.laws.StepLaws.{untold, transferable-In, transferable-waits}

pub took-le : (s : FlogState) → IsValid s → length s.took ≤ s.limit
took-le s v = let n = took-le_ids s.took v.commands.whole in let few = v.commands.few in omega arith

pub all_parts-le : (s : FlogState) → IsValid s → length (all_parts s.took) ≤ s.limit
all_parts-le s v = let n = all_parts-le_ids s.took in let few = v.commands.few in omega arith

-- there is room for a command that may be given
pub receivable-fits : (s : FlogState) (c : Command) → IsValid s → IsReceivable (seen s) c → (length s.took < s.limit) × (length (all_parts s.took) + length c.parts ≤ s.limit)
receivable-fits s c v r =
    let few = r.few in
    let n = length-append (all_ids s.took) (ids_of c) in
    let took = took-le_ids s.took v.commands.whole in
    let parts = all_parts-le_ids s.took in
    let some = some_ids c r.whole in
    let more = parts-le_ids c in
    (omega arith, omega arith)

-- ---- pages

-- each part that was moved has one place of the log
pub pages-le : (s : FlogState) → IsValid s → s.folded + length s.log ≤ s.limit
pages-le s v =
    let same = ap length v.log.parts in
    let all = length-map (given v.gone s.log) part_of in
    let moved = length-map s.moved moved_part in
    let both = length-append v.gone (places s.log) in
    let log = length-map s.log place_of in
    let gone = v.counted in
    let few = v.counts.moved in
    let parts = all_parts-le s v in
    omega (arith, same, all, moved, both, log, gone, few, parts)

-- ---- steps and epochs

pub steps-le : (s : FlogState) → IsValid s → work_left s + s.steps ≤ 3 * s.limit
steps-le s v = let a = took-le s v in let b = all_parts-le s v in let c = v.counts.steps in omega (arith, a, b, c)

-- while something can be transferred, there is a step left
pub steps-lt : (s : FlogState) (w : Waiting) → IsValid s → In w (transferable s) → s.steps < 3 * s.limit
steps-lt s w v h =
    let n = steps-le s v in
    let m = sum_by-without work s.queue.next s.queue.waiting w (numbered s v) (transferable-waits s w h) in
    omega (arith, n, m)

pub epoch-le : (s : FlogState) → IsValid s → s.epoch ≤ 3 * s.limit
epoch-le s v = let n = steps-le s v in let m = v.counts.epochs in omega (arith, n, m)

-- ---- a command that is transferred fits among what was moved and what completed

pub moved-fits : (s : FlogState) (w : Waiting) → IsValid s → In w (transferable s) → length s.moved + length w.command.parts ≤ s.limit
moved-fits s w v h =
    let n = all_parts-le s v in
    let m = sum_by-without (λ (x : Waiting). length x.command.parts) s.queue.next v.pending w v.queue.numbered (waits s v w (transferable-waits s w h)) in
    let k = v.counts.moved in
    omega arith

ids-fit : (s : FlogState) (w : Waiting) → IsValid s → In w (transferable s) → length s.sent + length s.waiting + length (ids_of w.command) ≤ s.limit
ids-fit s w v h =
    let m = sum_by-without (λ (x : Waiting). length (ids_of x.command)) s.queue.next s.queue.waiting w (numbered s v) (transferable-waits s w h) in
    let few = v.commands.few in
    let all = rw (untold s v (transferable-In s w h).0) at v.counts.completions in
    omega arith

pub completions-fit : (s : FlogState) (w : Waiting) → IsValid s → In w (transferable s) → length s.sent + length s.waiting + length (completions_of w.command) ≤ s.limit
completions-fit s w v h = let n = ids-fit s w v h in let k = length-completions w.command in omega arith

pub failures-fit : (s : FlogState) (w : Waiting) → IsValid s → In w (transferable s) → length s.sent + length s.waiting + length (failures_of w.command) ≤ s.limit
failures-fit s w v h = let n = ids-fit s w v h in let k = length-failures w.command in omega arith
