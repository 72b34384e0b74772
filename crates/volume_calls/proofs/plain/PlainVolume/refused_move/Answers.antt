use Rattle.std.proofs.Common.{sym, ap, ◌∙◌, ◌==◌, ◌&&◌}
use Rattle.tree_model.specs.Calls.{Move, changes_parent, moves_directory, most_links}
use Rattle.volume_steps.specs.Now.{tree_of_now}
use Rattle.volume_calls.specs.code.Renames.{found_from, move_from}
use Rattle.volume_calls.proofs.Renamed.{agrees_full, agrees_free, none_there}
use Rattle.volume_calls.proofs.plain.PlainVolume.refused_move.Goals as goal

pub returns-then-is_full : goal.returns-then-is_full
returns-then-is_full c =
    let blocks = c.args.self.now.contents.blocks in
    let m : Move = move_from blocks c.args.moved.now in
    agrees_full (tree_of_now c.args.self.now) m (sym (c.if-meets_directory.ensures blocks)) (sym (c.if-replaces_file.ensures blocks))
    (sym (c.if-lacks_links.ensures blocks ∙ ap (λ k. moves_directory m && (changes_parent m && (k == most_links))) c.requires.links))
    (none_there (found_from blocks) c.args.moved.now.target (sym c.if-is_some.ensures)) (sym (c.if-is_full.ensures blocks))

pub returns : goal.returns
returns c =
    let blocks = c.args.self.now.contents.blocks in
    let m : Move = move_from blocks c.args.moved.now in
    agrees_free (tree_of_now c.args.self.now) m (sym (c.if-meets_directory.ensures blocks)) (sym (c.if-replaces_file.ensures blocks))
    (sym (c.if-lacks_links.ensures blocks ∙ ap (λ k. moves_directory m && (changes_parent m && (k == most_links))) c.requires.links))
    (none_there (found_from blocks) c.args.moved.now.target (sym c.if-is_some.ensures)) (sym (c.if-is_full.ensures blocks))
