-- What a device was made with stays along a run, on any device.
use Rattle.std.proofs.Common.{Option, refl, ap, ◌∙◌}
use Rattle.order_model.specs.declared.command.Command.{Command}
use Rattle.order_model.specs.declared.completion.Completion.{Completion}
use Rattle.order_model.specs.Device.{Seen}
use Rattle.order_model.specs.Machine.{Machine}
use Rattle.order_model.specs.Steps.{IsMadeAs, KeepsGiven, Receives, Answers}
use Rattle.session_core.specs.run.machine.Fits.{IsDevice}

pub made_as_itself : (s : Seen) → IsMadeAs s s
made_as_itself s = record { base = refl; limit = refl; depth = refl; cut_at = refl; fail_at = refl }

given_as : (first old new : Seen) → KeepsGiven old new → IsMadeAs first old → IsMadeAs first new
given_as first old new g v = record {
  base = g.base ∙ v.base;
  limit = g.limit ∙ v.limit;
  depth = g.depth ∙ v.depth;
  cut_at = g.cut_at ∙ v.cut_at;
  fail_at = g.fail_at ∙ v.fail_at;
}

received_as : (first old new : Seen) (c : Command) → Receives old c new → IsMadeAs first old → IsMadeAs first new
received_as first old new c r v = record {
  base = ap (λ (x : Seen). x.base) r ∙ v.base;
  limit = ap (λ (x : Seen). x.limit) r ∙ v.limit;
  depth = ap (λ (x : Seen). x.depth) r ∙ v.depth;
  cut_at = ap (λ (x : Seen). x.cut_at) r ∙ v.cut_at;
  fail_at = ap (λ (x : Seen). x.fail_at) r ∙ v.fail_at;
}

answered_as : (first old new : Seen) (answer : Option Completion) → Answers old answer new → IsMadeAs first old → IsMadeAs first new
answered_as first old new answer a v = record {
  base = ap (λ (x : Seen). x.base) a.rest ∙ v.base;
  limit = ap (λ (x : Seen). x.limit) a.rest ∙ v.limit;
  depth = ap (λ (x : Seen). x.depth) a.rest ∙ v.depth;
  cut_at = ap (λ (x : Seen). x.cut_at) a.rest ∙ v.cut_at;
  fail_at = ap (λ (x : Seen). x.fail_at) a.rest ∙ v.fail_at;
}

module _ {S : Type 0} (m : Machine S) (valid : S → Type 0) (first : Seen) where
  -- a state of the device that was made as the first one
  abbrev pub IsSame : S → Type 0
  IsSame s = valid s × IsMadeAs first (m.seen s)

  pub same_device : IsDevice m valid → IsDevice m IsSame
  same_device device = record {
    receives = λ s c v can room.
        let step = device.receives s c v.0 can room in
        ((step.0, received_as first (m.seen s) (m.seen (m.received s c)) c step.1 v.1), step.1);
    transfers = λ s pick v lt.
        let step = device.transfers s pick v.0 lt in
        ((step.0, given_as first (m.seen s) (m.seen (m.transferred s pick)) step.1.given v.1), step.1);
    persists = λ s pick v lt.
        let step = device.persists s pick v.0 lt in
        ((step.0, given_as first (m.seen s) (m.seen (m.persisted s pick)) step.1.given v.1), step.1);
    no_transfer = device.no_transfer;
    no_persist = device.no_persist;
    answers = λ s v.
        let step = device.answers s v.0 in
        ((step.0, answered_as first (m.seen s) (m.seen (m.answered s)) (m.next_answer s) step.1 v.1), step.1);
    surface = λ s v. device.surface s v.0;
  }
