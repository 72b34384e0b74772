use Rattle.std.proofs.Common.{ap, ◌∙◌, refl, sym}
use Rattle.std.specs.Option.{option_copied_mut}
use Rattle.volume_model.specs.declared.placed.Placed.{Placed}
use Rattle.volume_model.specs.declared.placed.Part.TheVariants as parts
use Rattle.volume_model.specs.declared.placed.DirectoryPart.{DirectoryPart}
use Rattle.volume_names.specs.renames.code.Parts.{turned}
use Rattle.volume_names.proofs.RenamesLemmas.NamesPut.{part_is_put}
use Rattle.volume_names.proofs.renames.slots.turn.Goals as goal

pub returns-in-Directory : goal.returns-in-Directory
returns-in-Directory c =
    let p : Placed = c.in-Some.placed.now in
    let d : DirectoryPart = c.in-Directory.directory in
    part_is_put c.args.nodes.now.entries _ c.args.n p d (sym c.get_mut.ensures.value ∙ ap option_copied_mut c.in-Some.is) c.in-Directory.is c.get_mut.ensures.ordered (λ d. turned d c.args.parent) (turned d c.args.parent)
    (c.get_mut.follows.holds (record { number = p.number; inode = p.inode; part = parts.Directory (turned d c.args.parent) })).0 refl
