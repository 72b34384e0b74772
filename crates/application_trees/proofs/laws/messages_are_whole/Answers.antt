use Rattle.application_trees.proofs.Spools.{there_is_whole, moved_whole}
use Rattle.application_trees.proofs.laws.messages_are_whole.Goals as goal

pub returns : goal.returns
returns c = record {
  whole = λ room T trees o same h path other fresh names new b p g x none holds there. there_is_whole room T trees o same h path other fresh names new b p g x none holds there;
  there = λ room T trees o same h path other fresh names new b p g x past holds. moved_whole room T trees o same h path other fresh names new b p g x past holds;
}
