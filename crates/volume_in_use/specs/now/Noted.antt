-- What was touched, with the room for more notes.
use Rattle.std.specs.Prelude.{ℕ, ◌-◌, [], ◌∷◌, ◌++◌}
use Rattle.volume_model.specs.Touched.{Page, Touched}
use Rattle.volume_steps.specs.Now.{untouched}

-- `spare` is how many notes more have room
pub record Noted : Type 0 where
  pub spare : ℕ
  pub touched : Touched

-- nothing was touched, and there is room for so many notes
abbrev pub nothing : ℕ → Noted
nothing room = record { spare = room; touched = untouched }

-- one note more, which takes room for one
abbrev pub with_block : Noted → ℕ → Noted
with_block n block = record { spare = n.spare - 1; touched = record n.touched { blocks = n.touched.blocks ++ block ∷ [] } }

abbrev pub with_freed : Noted → ℕ → Noted
with_freed n zone = record { spare = n.spare - 1; touched = record n.touched { freed = n.touched.freed ++ zone ∷ [] } }

abbrev pub with_revoked : Noted → ℕ → Noted
with_revoked n zone = record { spare = n.spare - 1; touched = record n.touched { revoked = n.touched.revoked ++ zone ∷ [] } }

abbrev pub with_page : Noted → Page → Noted
with_page n page = record { spare = n.spare - 1; touched = record n.touched { pages = n.touched.pages ++ page ∷ [] } }

abbrev pub with_dropped : Noted → Page → Noted
with_dropped n page = record { spare = n.spare - 1; touched = record n.touched { dropped = n.touched.dropped ++ page ∷ [] } }

abbrev pub with_node : Noted → ℕ → Noted
with_node n birth = record { spare = n.spare - 1; touched = record n.touched { nodes = n.touched.nodes ++ birth ∷ [] } }
