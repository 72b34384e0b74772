use Rattle.std.proofs.Common.{get_or, sym, ◌∙◌}
use Rattle.page_cache.proofs.OfFiles.{other_file, same_file, files_pass, files_hit, no_file_left}
use Rattle.page_cache.proofs.keys.first_of.Goals as goal

pub returns-in-Some : goal.returns-in-Some
returns-in-Some c =
    let hit = same_file _ (get_or c.args.births.now c.loop-at.at 0) c.in-Some.key (sym c.next_in.ensures ∙ c.in-Some.is) in
    sym (files_hit c.args.keys.now.items c.args.births.now c.loop-at.at c.in-Some.key c.requires.births c.loop-at-test.true hit.0 hit.1) ∙ c.loop-at.invariant

pub loop-at-preserved : goal.loop-at-preserved
loop-at-preserved c =
    files_pass c.args.keys.now.items c.args.births.now c.loop-at.at c.requires.keys c.loop-at-test.true
    (other_file _ (get_or c.args.births.now c.loop-at.at 0) (sym c.next_in.ensures ∙ c.in_default.is))
    ∙ c.loop-at.invariant

pub returns : goal.returns
returns c = sym (no_file_left c.args.keys.now.items c.args.births.now c.loop-at.at c.loop-at-test.false) ∙ c.loop-at.invariant
