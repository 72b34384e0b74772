use Rattle.std.proofs.Common.{ap, ◌∙◌, sym}
use Rattle.std.specs.Option.{option_copied_mut}
use Rattle.volume_model.specs.declared.placed.Placed.{Placed}
use Rattle.volume_model.specs.declared.placed.Part.TheVariants as parts
use Rattle.volume_model.specs.declared.placed.DirectoryPart.{DirectoryPart}
use Rattle.volume_names.proofs.RenamesLemmas.NamesPut.{name_ok, name_err}
use Rattle.volume_names.proofs.renames.entries.put_name.Goals as goal

pub returns-in-Directory-clause-nodes : goal.returns-in-Directory-clause-nodes
returns-in-Directory-clause-nodes c =
    let p : Placed = c.in-Some.placed.now in
    let d : DirectoryPart = c.in-Directory.directory in
    name_ok c.args.nodes.now.entries _ c.args.n p d (sym c.get_mut.ensures.value ∙ ap option_copied_mut c.in-Some.is) c.in-Directory.is c.put.new.self
    (c.get_mut.follows.holds (record { number = p.number; inode = p.inode; part = parts.Directory (record { parent = d.parent; width = d.width; names = c.put.new.self; slots = d.slots }) })).0 c.get_mut.ensures.ordered c.put.result c.args.name
    c.args.birth c.put.ensures.put

pub returns-in-Directory-clause-err : goal.returns-in-Directory-clause-err
returns-in-Directory-clause-err c =
    let p : Placed = c.in-Some.placed.now in
    let d : DirectoryPart = c.in-Directory.directory in
    name_err c.args.nodes.now.entries _ c.args.n p d (sym c.get_mut.ensures.value ∙ ap option_copied_mut c.in-Some.is) c.in-Directory.is c.put.new.self
    (c.get_mut.follows.holds (record { number = p.number; inode = p.inode; part = parts.Directory (record { parent = d.parent; width = d.width; names = c.put.new.self; slots = d.slots }) })).0 c.put.result c.put.ensures.kept
