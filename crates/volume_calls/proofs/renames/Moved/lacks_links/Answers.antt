use Rattle.std.proofs.Common.{sym, ◌==◌}
use Rattle.tree_model.specs.Calls.{changes_parent, moves_directory, most_links}
use Rattle.volume_calls.specs.code.Renames.{move_from}
use Rattle.volume_calls.proofs.Renamed.{lacks_if, lacks_later}
use Rattle.volume_calls.proofs.renames.Moved.lacks_links.Goals as goal

pub returns-then-not-changes_parent : goal.returns-then-not-changes_parent
returns-then-not-changes_parent c = λ blocks. lacks_later (moves_directory (move_from blocks c.args.self.now)) (changes_parent (move_from blocks c.args.self.now)) (c.args.self.now.to.placed.now.inode.links == most_links)
    (sym (c.if-not-moves_directory.ensures blocks)) (sym (c.if-not-changes_parent.ensures blocks))

pub returns : goal.returns
returns c = λ blocks. lacks_if (moves_directory (move_from blocks c.args.self.now)) (changes_parent (move_from blocks c.args.self.now)) (c.args.self.now.to.placed.now.inode.links == most_links)
    (sym (c.if-not-moves_directory.ensures blocks)) (sym (c.if-not-changes_parent.ensures blocks))
