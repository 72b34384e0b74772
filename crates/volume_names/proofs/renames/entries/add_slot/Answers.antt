use Rattle.std.proofs.Common.{ap, ◌∙◌, sym}
use Rattle.std.specs.Option.{option_copied_mut}
use Rattle.volume_model.specs.declared.placed.Placed.{Placed}
use Rattle.volume_model.specs.declared.placed.Part.TheVariants as parts
use Rattle.volume_model.specs.declared.placed.DirectoryPart.{DirectoryPart}
use Rattle.volume_names.specs.renames.code.Parts.{slot_put_in}
use Rattle.volume_names.proofs.RenamesLemmas.NamesPut.{part_is_put}
use Rattle.volume_names.proofs.renames.entries.add_slot.Goals as goal

pub returns-clause-nodes : goal.returns-clause-nodes
returns-clause-nodes c =
    let p : Placed = c.in-Some.placed.now in
    let d : DirectoryPart = c.in-Directory.directory in
    let e : DirectoryPart = c.fill_slot.new.directory in
    part_is_put c.args.nodes.now.entries _ c.args.n p d (sym c.get_mut.ensures.value ∙ ap option_copied_mut c.in-Some.is) c.in-Directory.is c.get_mut.ensures.ordered (λ d. slot_put_in d c.args.slot) e
    (c.get_mut.follows.holds (record { number = p.number; inode = p.inode; part = parts.Directory e })).0 c.fill_slot.ensures.directory
