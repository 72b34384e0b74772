use Rattle.std.proofs.Common.{◌≡◌, ◌∙◌, sym, ap, subst, ⊎_elim}
use Rattle.std.proofs.lemmas.Bool.{cases_lt}
use Rattle.order_model.specs.Machine.{machine_of}
use Rattle.journal_replay.specs.declared.choice.Choice.{Choice}
use Rattle.journal_replay.specs.Driving.{chosen}
use Rattle.journal_replay.specs.code.Runs.{StepKeeps}
use Rattle.journal_replay.proofs.Steps.{transferred_keeps, persisted_keeps}
use Rattle.journal_replay.proofs.drive.step.Goals as goal

pub returns-in-Transfer-clause-on : goal.returns-in-Transfer-clause-on
returns-in-Transfer-clause-on g c on =
    let t = g.D.OrderedDev in
    let s = t.state c.args.dev.now in
    subst t.stays_on (sym c.transfer.ensures.state) (g.met.D.OrderedDev.stays s c.in-Transfer.pick on).0

pub returns-in-Persist-clause-on : goal.returns-in-Persist-clause-on
returns-in-Persist-clause-on g c on =
    let t = g.D.OrderedDev in
    let s = t.state c.args.dev.now in
    subst t.stays_on (sym c.persist.ensures.state) (g.met.D.OrderedDev.stays s c.in-Persist.pick on).1

pub returns-then-can_transfer-gt0-clause-on : goal.returns-then-can_transfer-gt0-clause-on
returns-then-can_transfer-gt0-clause-on g c on =
    let t = g.D.OrderedDev in
    let s = t.state c.args.dev.now in
    subst t.stays_on (sym c.transfer-then-can_transfer-gt0.ensures.state) (g.met.D.OrderedDev.stays s 0 on).0

pub returns-else-can_transfer-gt0-clause-on : goal.returns-else-can_transfer-gt0-clause-on
returns-else-can_transfer-gt0-clause-on g c on =
    let t = g.D.OrderedDev in
    let s = t.state c.args.dev.now in
    subst t.stays_on (sym c.persist-else-can_transfer-gt0.ensures.state) (g.met.D.OrderedDev.stays s 0 on).1

pub returns-in-Transfer-clause-sound : goal.returns-in-Transfer-clause-sound
returns-in-Transfer-clause-sound g c sound =
    let t = g.D.OrderedDev in
    let laws = g.met.D.OrderedDev in
    let s = t.state c.args.dev.now in
    subst (λ (x : t.State). t.sound x × ((t.seen x).faults ≡ (t.seen s).faults)) (sym c.transfer.ensures.state) ((laws.stays_sound s c.in-Transfer.pick sound).0, (laws.no_fault s c.in-Transfer.pick c.requires.valid sound).0)

pub returns-in-Persist-clause-sound : goal.returns-in-Persist-clause-sound
returns-in-Persist-clause-sound g c sound =
    let t = g.D.OrderedDev in
    let laws = g.met.D.OrderedDev in
    let s = t.state c.args.dev.now in
    subst (λ (x : t.State). t.sound x × ((t.seen x).faults ≡ (t.seen s).faults)) (sym c.persist.ensures.state) ((laws.stays_sound s c.in-Persist.pick sound).1, ⊎_elim (λ lt. (laws.persists s c.in-Persist.pick c.requires.valid lt).1.faults) (λ le. ap (λ (x : t.State). (t.seen x).faults) (laws.no_persist s c.in-Persist.pick le)) (cases_lt c.in-Persist.pick (t.can_persist s)))

pub returns-then-can_transfer-gt0-clause-sound : goal.returns-then-can_transfer-gt0-clause-sound
returns-then-can_transfer-gt0-clause-sound g c sound =
    let t = g.D.OrderedDev in
    let laws = g.met.D.OrderedDev in
    let s = t.state c.args.dev.now in
    subst (λ (x : t.State). t.sound x × ((t.seen x).faults ≡ (t.seen s).faults)) (sym c.transfer-then-can_transfer-gt0.ensures.state) ((laws.stays_sound s 0 sound).0, (laws.no_fault s 0 c.requires.valid sound).0)

pub returns-else-can_transfer-gt0-clause-sound : goal.returns-else-can_transfer-gt0-clause-sound
returns-else-can_transfer-gt0-clause-sound g c sound =
    let t = g.D.OrderedDev in
    let laws = g.met.D.OrderedDev in
    let s = t.state c.args.dev.now in
    subst (λ (x : t.State). t.sound x × ((t.seen x).faults ≡ (t.seen s).faults)) (sym c.persist-else-can_transfer-gt0.ensures.state) ((laws.stays_sound s 0 sound).1, ⊎_elim (λ lt. (laws.persists s 0 c.requires.valid lt).1.faults) (λ le. ap (λ (x : t.State). (t.seen x).faults) (laws.no_persist s 0 le)) (cases_lt 0 (t.can_persist s)))

pub returns-in-Transfer-clause-chosen : goal.returns-in-Transfer-clause-chosen
returns-in-Transfer-clause-chosen g c =
    let t = g.D.OrderedDev in
    c.transfer.ensures.state ∙ ap (λ (x : Choice). chosen (machine_of t) x (t.state c.args.dev.now)) (sym c.in-Transfer.is)

pub returns-in-Transfer-clause-valid : goal.returns-in-Transfer-clause-valid
returns-in-Transfer-clause-valid g c =
    let t = g.D.OrderedDev in
    let laws = g.met.D.OrderedDev in
    let s = t.state c.args.dev.now in
    subst t.valid (sym c.transfer.ensures.state) (transferred_keeps t.seen t.valid s (t.transferred s c.in-Transfer.pick) c.requires.valid (t.can_transfer s) c.in-Transfer.pick (laws.no_transfer s c.in-Transfer.pick) (laws.monotone s c.in-Transfer.pick c.requires.valid).0 (laws.transfers s c.in-Transfer.pick c.requires.valid)).0

pub returns-in-Transfer-clause-kept : goal.returns-in-Transfer-clause-kept
returns-in-Transfer-clause-kept g c =
    let t = g.D.OrderedDev in
    let laws = g.met.D.OrderedDev in
    let s = t.state c.args.dev.now in
    subst (λ (x : t.State). StepKeeps (t.seen s) (t.seen x)) (sym c.transfer.ensures.state) (transferred_keeps t.seen t.valid s (t.transferred s c.in-Transfer.pick) c.requires.valid (t.can_transfer s) c.in-Transfer.pick (laws.no_transfer s c.in-Transfer.pick) (laws.monotone s c.in-Transfer.pick c.requires.valid).0 (laws.transfers s c.in-Transfer.pick c.requires.valid)).1

pub returns-in-Persist-clause-chosen : goal.returns-in-Persist-clause-chosen
returns-in-Persist-clause-chosen g c =
    let t = g.D.OrderedDev in
    c.persist.ensures.state ∙ ap (λ (x : Choice). chosen (machine_of t) x (t.state c.args.dev.now)) (sym c.in-Persist.is)

pub returns-in-Persist-clause-valid : goal.returns-in-Persist-clause-valid
returns-in-Persist-clause-valid g c =
    let t = g.D.OrderedDev in
    let laws = g.met.D.OrderedDev in
    let s = t.state c.args.dev.now in
    subst t.valid (sym c.persist.ensures.state) (persisted_keeps t.seen t.valid s (t.persisted s c.in-Persist.pick) c.requires.valid (t.can_persist s) c.in-Persist.pick (laws.no_persist s c.in-Persist.pick) (laws.monotone s c.in-Persist.pick c.requires.valid).1 (laws.persists s c.in-Persist.pick c.requires.valid)).0

pub returns-in-Persist-clause-kept : goal.returns-in-Persist-clause-kept
returns-in-Persist-clause-kept g c =
    let t = g.D.OrderedDev in
    let laws = g.met.D.OrderedDev in
    let s = t.state c.args.dev.now in
    subst (λ (x : t.State). StepKeeps (t.seen s) (t.seen x)) (sym c.persist.ensures.state) (persisted_keeps t.seen t.valid s (t.persisted s c.in-Persist.pick) c.requires.valid (t.can_persist s) c.in-Persist.pick (laws.no_persist s c.in-Persist.pick) (laws.monotone s c.in-Persist.pick c.requires.valid).1 (laws.persists s c.in-Persist.pick c.requires.valid)).1

pub returns-then-can_transfer-gt0-clause-valid : goal.returns-then-can_transfer-gt0-clause-valid
returns-then-can_transfer-gt0-clause-valid g c =
    let t = g.D.OrderedDev in
    let laws = g.met.D.OrderedDev in
    let s = t.state c.args.dev.now in
    subst t.valid (sym c.transfer-then-can_transfer-gt0.ensures.state) (transferred_keeps t.seen t.valid s (t.transferred s 0) c.requires.valid (t.can_transfer s) 0 (laws.no_transfer s 0) (laws.monotone s 0 c.requires.valid).0 (laws.transfers s 0 c.requires.valid)).0

pub returns-then-can_transfer-gt0-clause-kept : goal.returns-then-can_transfer-gt0-clause-kept
returns-then-can_transfer-gt0-clause-kept g c =
    let t = g.D.OrderedDev in
    let laws = g.met.D.OrderedDev in
    let s = t.state c.args.dev.now in
    subst (λ (x : t.State). StepKeeps (t.seen s) (t.seen x)) (sym c.transfer-then-can_transfer-gt0.ensures.state) (transferred_keeps t.seen t.valid s (t.transferred s 0) c.requires.valid (t.can_transfer s) 0 (laws.no_transfer s 0) (laws.monotone s 0 c.requires.valid).0 (laws.transfers s 0 c.requires.valid)).1

pub returns-else-can_transfer-gt0-clause-valid : goal.returns-else-can_transfer-gt0-clause-valid
returns-else-can_transfer-gt0-clause-valid g c =
    let t = g.D.OrderedDev in
    let laws = g.met.D.OrderedDev in
    let s = t.state c.args.dev.now in
    subst t.valid (sym c.persist-else-can_transfer-gt0.ensures.state) (persisted_keeps t.seen t.valid s (t.persisted s 0) c.requires.valid (t.can_persist s) 0 (laws.no_persist s 0) (laws.monotone s 0 c.requires.valid).1 (laws.persists s 0 c.requires.valid)).0

pub returns-else-can_transfer-gt0-clause-kept : goal.returns-else-can_transfer-gt0-clause-kept
returns-else-can_transfer-gt0-clause-kept g c =
    let t = g.D.OrderedDev in
    let laws = g.met.D.OrderedDev in
    let s = t.state c.args.dev.now in
    subst (λ (x : t.State). StepKeeps (t.seen s) (t.seen x)) (sym c.persist-else-can_transfer-gt0.ensures.state) (persisted_keeps t.seen t.valid s (t.persisted s 0) c.requires.valid (t.can_persist s) 0 (laws.no_persist s 0) (laws.monotone s 0 c.requires.valid).1 (laws.persists s 0 c.requires.valid)).1
