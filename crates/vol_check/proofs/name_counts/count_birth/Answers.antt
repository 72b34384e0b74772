use Rattle.std.proofs.Common.{◌+◌, get_or, sym, ap, ◌∙◌, arith}
use Rattle.std.specs.Prelude.{min}
use Rattle.std.specs.Option.{option_copied}
use Rattle.tree_model.specs.Maps.{at_number}
use Rattle.vol_check.specs.code.Births.{tree_in}
use Rattle.vol_check.specs.code.Names.{most}
use Rattle.vol_check.proofs.Counts.{named_by_directory, named_by_none}
use Rattle.vol_check.proofs.name_counts.count_birth.Goals as goal

pub returns-in-Some-clause-counts : goal.returns-in-Some-clause-counts
returns-in-Some-clause-counts c other inside =
    let v = c.args.volume.now in
    let node = at_number (tree_in v.geometry v.blocks) c.args.birth in
    let named = named_by_directory node c.in-Some.directory.now other (sym c.directory.ensures ∙ ap option_copied c.in-Some.is) in
    c.count_names.ensures.counts other inside ∙ ap (λ n. min (get_or c.args.counts.now.items other 0 + n) most) (sym named)

pub returns-in-None-clause-counts : goal.returns-in-None-clause-counts
returns-in-None-clause-counts c other inside =
    let v = c.args.volume.now in
    let node = at_number (tree_in v.geometry v.blocks) c.args.birth in
    let none = named_by_none node other (sym c.directory.ensures ∙ ap option_copied c.in-None.is) in
    ap (λ n. min n most) (omega (arith, none))
