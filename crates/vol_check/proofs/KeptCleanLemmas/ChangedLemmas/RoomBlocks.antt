-- The blocks of a directory that gets a block more.
use Rattle.std.specs.Prelude.{◌≡◌, ◌≢◌, ◌⊎◌, ◌<◌, ◌≤◌, ℕ, true, List, ◌++◌, map, length, Some, refl}
use Rattle.std.proofs.Common.{ap, ◌∙◌, inl, inr, ⊎_elim}
use Rattle.blk_base.specs.laws.Members.{In-append_cases}
use Rattle.byte_fields.specs.Fields.{zeros}
use Rattle.byte_fields.specs.laws.ReadLaws.{length-zeros}
use Rattle.minix_layout.specs.declared.division.Geometry.{Geometry}
use Rattle.minix_layout.specs.declared.inode.Inode.{Inode}
use Rattle.tree_model.specs.Maps.{at_number}
use Rattle.tree_model.specs.laws.MapsLaws.{at_put_number, at_put_number_apart}
use Rattle.volume_model.specs.declared.placed.DirectoryPart.{DirectoryPart}
use Rattle.volume_model.specs.declared.placed.Placed.{Placed}
use Rattle.volume_model.specs.declared.placed.Part.TheVariants as parts
use Rattle.volume_model.specs.Edits.{touched_by_all}
use Rattle.volume_model.specs.MapBlock.{OpenInode, own_of, all_edits}
use Rattle.volume_model.specs.Moves.{IsVolume, opened, back_told, directory_mapped}
use Rattle.volume_model.specs.Touched.{Contents}
use Rattle.volume_model.specs.Volume.{Place, block, zone_in}
use Rattle.volume_model.specs.Ways.{way}
use Rattle.volume_model.specs.laws.ZoneMoves.{MayMove, may_change, same_zone}
use Rattle.volume_model.specs.laws.NodeMoves.{same_zone as node_zone}
use Rattle.volume_steps.proofs.Bits.{kept_zone}
use Rattle.volume_steps.specs.Now.{VolumeNow, Change}
use Rattle.volume_steps.specs.Plain.{IsInUse}
use Rattle.volume_steps.specs.Steps.{map_directory_block}
use Rattle.volume_steps.specs.Zones.{TakenFor, take_zones, zone_bit}
use Rattle.volume_steps.proofs.Taking.{frees}
use Rattle.volume_steps.proofs.TakeZones.{marks_change_none}
use Rattle.volume_steps.proofs.Rooms as room
use Rattle.vol_check.proofs.KeptCleanLemmas.ChangedLemmas.MapRaises as raises
use Rattle.vol_check.proofs.KeptCleanLemmas.ChangedLemmas.MapBlocks.{IsRaised}

module _ (v : VolumeNow) (h : IsInUse v) (n : ℕ) (p : Placed) (d : DirectoryPart) (at : at_number v.contents.nodes n ≡ Some p) (is : p.part ≡ parts.Directory d)
    (index : ℕ) (high : index < 262663) (hole : zone_in v.contents.blocks p.inode (block index) ≡ 0)
    (enough : length (take_zones (λ x. zone_in v.contents.blocks p.inode x) index v.zones).numbers ≤ frees v.zones) where
  abbrev g : Geometry
  g = v.geometry

  abbrev t : TakenFor
  t = take_zones (λ x. zone_in v.contents.blocks p.inode x) index v.zones

  abbrev c : Contents
  c = room.c v h n p at d is index high hole enough

  abbrev volume : IsVolume g c
  volume = room.volume v h n p at d is index high hole enough

  abbrev u : OpenInode
  u = room.u v h n p at d is index high hole enough

  abbrev q : Placed
  q = record { number = p.number; inode = u.inode; part = parts.Directory d }

  abbrev w : Contents
  w = directory_mapped g c n p d t.taken (zeros 1024) index

  abbrev mapped : Change
  mapped = map_directory_block v n p d index

  abbrev Z : ℕ → Type 0
  Z = room.Z v h n p at d is index high hole enough

  abbrev may : MayMove g h.sound c.blocks c.nodes n p volume.0 at u (parts.Directory d) Z
  may = room.may v h n p at d is index high hole enough

  mine : (x : Place) → zone_in w.blocks u.inode x ≡ own_of u x
  mine = same_zone g h.sound c.blocks c.nodes n p volume.0 at u (parts.Directory d) Z may

  abbrev on_way : List ℕ
  on_way = touched_by_all g (all_edits g t.taken (zeros 1024) (opened c p) (way index))

  pub room_raised : IsRaised v n p mapped
  room_raised = record {
    placed = q;
    stands = at_put_number v.contents.nodes n q;
    size = ap (λ (i : Inode). i.size) (room.outcome v h n p at d is index high hole enough).fields;
    rises = raises.rises v h n p at (zeros 1024) (length-zeros 1024) index high enough w q.part mine;
    geometry = refl;
    told = λ b i. elim (In-append_cases (touched_by_all g (map (zone_bit g true) t.numbers)) (on_way ++ back_told g p u.inode) b i) [
      | inl j ↦ raises.bits v h n p at (zeros 1024) (length-zeros 1024) index high enough w q.part mine b j
      | inr more ↦ ⊎_elim (raises.filled v h n p at (zeros 1024) (length-zeros 1024) index high enough w q.part mine b) (raises.in_table v h n p at (zeros 1024) (length-zeros 1024) index high enough w q.part mine b) (In-append_cases on_way (back_told g p u.inode) b more)
    ];
  }

  pub room_others : (a : ℕ) → a ≢ n → at_number mapped.volume.contents.nodes a ≡ at_number v.contents.nodes a
  room_others a apart = at_put_number_apart v.contents.nodes n q a apart

  -- each other node keeps its zones
  pub room_theirs : (a : ℕ) (r : Placed) → at_number v.contents.nodes a ≡ Some r → a ≢ n → (y : Place) → zone_in mapped.volume.contents.blocks r.inode y ≡ zone_in v.contents.blocks r.inode y
  room_theirs a r found apart y =
      node_zone g c.blocks w.blocks c.nodes n p q (λ z. Z z ⊎ ⊥) volume.0 (may_change g h.sound c.blocks c.nodes n p volume.0 at u (parts.Directory d) Z may) a r found apart y
      ∙ kept_zone g v.contents h.volume c.blocks (marks_change_none v h n p at index enough) a r found y
