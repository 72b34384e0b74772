use Rattle.std.proofs.Common.{sym}
use Rattle.tree_model.specs.Calls.{meets_file, moves_directory}
use Rattle.volume_calls.specs.code.Renames.{move_from}
use Rattle.volume_calls.proofs.Renamed.{and_if}
use Rattle.volume_calls.proofs.renames.Moved.replaces_file.Goals as goal

pub returns : goal.returns
returns c = λ blocks. and_if (meets_file (move_from blocks c.args.self.now)) (moves_directory (move_from blocks c.args.self.now)) c.moves_directory.result
    (sym (c.if-not-meets_file.ensures blocks)) (c.moves_directory.ensures blocks)
