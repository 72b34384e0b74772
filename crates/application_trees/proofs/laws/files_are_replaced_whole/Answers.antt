use Rattle.application_trees.proofs.Kept.{old_or_new, same_bytes}
use Rattle.application_trees.proofs.Moves.{replacing}
use Rattle.application_trees.proofs.laws.files_are_replaced_whole.Goals as goal

pub returns : goal.returns
returns c = record {
  whole = λ room T trees o same h path other fresh names old a before new b p after x made held barred.
      old_or_new o h names p old a before new b after (replacing room T trees path other fresh names old a before new b p after x o same made) (λ up. held) barred;
  read = same_bytes;
}
