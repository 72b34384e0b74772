-- Maps that mark what is in use.
use Rattle.std.specs.Prelude.{◌≡◌, ℕ, ◌<◌, ◌≤◌, ◌↔◌, true, Some}
use Rattle.minix_layout.specs.declared.division.Geometry.{Geometry}
use Rattle.minix_layout.specs.Bits.{inode_bit, zone_bit, has_bit}
use Rattle.minix_tables.specs.declared.zones.zone_state.ZoneState.TheVariants as states
use Rattle.minix_tables.specs.zones.Zones.{Zones, state_of}
use Rattle.volume_model.specs.Touched.{Contents}
use Rattle.volume_steps.specs.UsedInodes.{IsInodeUsed}

-- the bit of each inode is set just where a node has it, that of each zone of data just where it is in use
pub record IsMarked (g : Geometry) (c : Contents) (zones : Zones) : Type 0 where
  pub inodes : (number : ℕ) → 1 ≤ number → number ≤ g.inodes → (has_bit c.blocks (inode_bit g number) ≡ true) ↔ IsInodeUsed c.nodes number
  pub zones_used : (zone : ℕ) → g.first ≤ zone → zone < g.zones → (has_bit c.blocks (zone_bit g zone) ≡ true) ↔ (state_of zones zone ≡ Some states.Used)
