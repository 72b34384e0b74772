use Rattle.crash_laws.proofs.Epochs.{epoch-fenced, fenced-epoch}
use Rattle.crash_laws.proofs.laws.order.barriers_divide_epochs.Goals as goal

pub returns : goal.returns
returns c = record {
  counted = fenced-epoch;
  fenced = epoch-fenced;
}
