-- Paths that move.
use Rattle.tree_model.proofs.NamesMove.{rename_stays, rename_moves, rename_leaves, rename_others}
use Rattle.tree_model.proofs.name_laws.paths_move_along.Goals as goal

pub returns : goal.returns
returns c = record { stays = rename_stays; moved = rename_moves; gone = rename_leaves; others = rename_others }
