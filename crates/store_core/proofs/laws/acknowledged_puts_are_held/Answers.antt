use Rattle.store_core.proofs.Acknowledged.{acknowledged-few}
use Rattle.store_core.proofs.HeldStores.{acknowledged-held}
use Rattle.store_core.proofs.laws.acknowledged_puts_are_held.Goals as goal

pub returns : goal.returns
returns c = record {
  each = λ x end r well is full. acknowledged-held x well end r is full;
  count = λ x end r well is full. acknowledged-few x well end r is full;
}
