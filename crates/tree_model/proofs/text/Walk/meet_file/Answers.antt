use Rattle.std.proofs.Common.{refl}
use Rattle.std.specs.Ordering.{nat_cmp}
use Rattle.std.specs.String.{string_bytes}
use Rattle.tree_model.proofs.Entries.{seen_by-insert_entry}
use Rattle.tree_model.proofs.text.Walk.meet_file.Goals as goal

pub returns : goal.returns
returns c =
    rw (c.remove.ensures.entries, c.in_ok-insert.ensures.entries, seen_by-insert_entry nat_cmp string_bytes c.self.inside.firsts.entries c.place.inside.birth c.place.inside.path, ← c.self.view_is, ← c.place.view_is) refl
