use Rattle.store_core.proofs.HeldStores.{held-first, held-answered}
use Rattle.store_core.proofs.laws.held_puts_were_answered.Goals as goal

pub returns : goal.returns
returns c = record {
  first = λ x end r well is full. held-first x well end r is full;
  answered = λ x end r well is full. held-answered x well end r is full;
}
