use Rattle.std.proofs.Common.{◌≡◌, ◌∙◌, subst}
use Rattle.minix_tables.specs.directories.Slots.{place_of}
use Rattle.minix_tables.specs.directories.Told.{AreTold, told}
use Rattle.minix_tables.specs.directories.laws.Told.{told_place}
use Rattle.minix_tables.proofs.directories.slots.Slots.find.Goals as goal

pub returns-in-Some : goal.returns-in-Some
returns-in-Some c =
    let slots = c.self.inside.items.items in
    let told_so = subst (AreTold slots) c.in-Some.is c.self.invariant.1 in
    subst (λ xs. c.get.result ≡ place_of xs c.args.name.now) c.self.view_is (c.get.ensures ∙ told_place slots (told c.in-Some.index) c.args.name.now told_so)
