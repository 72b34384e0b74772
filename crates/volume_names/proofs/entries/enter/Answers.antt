use Rattle.std.proofs.Common.{ap, ◌∙◌, sym}
use Rattle.std.specs.Option.{option_copied_mut}
use Rattle.volume_model.specs.declared.placed.Placed.{Placed}
use Rattle.volume_model.specs.declared.placed.Part.TheVariants as parts
use Rattle.volume_names.proofs.Entered.{entered_ok, entered_err}
use Rattle.volume_names.proofs.entries.enter.Goals as goal

pub returns-in-Directory-clause-nodes : goal.returns-in-Directory-clause-nodes
returns-in-Directory-clause-nodes c =
    let p : Placed = c.in-Some.placed.now in
    entered_ok c.args.nodes.now.entries _ c.args.parent p c.in-Directory.directory c.add_name.new.directory (sym c.get_mut.ensures.value ∙ ap option_copied_mut c.in-Some.is) c.in-Directory.is
    (c.get_mut.follows.holds (record { number = p.number; inode = p.inode; part = parts.Directory c.add_name.new.directory })).0 c.get_mut.ensures.ordered c.add_name.result c.args.slot c.args.birth c.add_name.ensures.ok

pub returns-in-Directory-clause-err : goal.returns-in-Directory-clause-err
returns-in-Directory-clause-err c =
    let p : Placed = c.in-Some.placed.now in
    entered_err c.args.nodes.now.entries _ c.args.parent p c.in-Directory.directory c.add_name.new.directory (sym c.get_mut.ensures.value ∙ ap option_copied_mut c.in-Some.is) c.in-Directory.is
    (c.get_mut.follows.holds (record { number = p.number; inode = p.inode; part = parts.Directory c.add_name.new.directory })).0 c.add_name.result c.add_name.ensures.err
