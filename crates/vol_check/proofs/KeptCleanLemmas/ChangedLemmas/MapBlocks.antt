-- The blocks of a file's block that is mapped.
use Rattle.std.specs.Prelude.{◌≡◌, ◌<◌, ◌≤◌, ◌==◌, not, ℕ, true, List, ◌++◌, map, filter, length, Some, refl}
use Rattle.std.proofs.Common.{ap, ◌∙◌, inl, inr}
use Rattle.blk_base.specs.Members.{In}
use Rattle.blk_base.specs.laws.Members.{In-append_cases, In-filter}
use Rattle.minix_layout.specs.declared.division.Geometry.{Geometry}
use Rattle.minix_layout.specs.declared.inode.Inode.{Inode}
use Rattle.tree_model.specs.Maps.{at_number}
use Rattle.tree_model.specs.laws.MapsLaws.{at_put_number}
use Rattle.volume_ops.specs.declared.found.Mapped.{Mapped}
use Rattle.volume_model.specs.declared.placed.Placed.{Placed}
use Rattle.volume_model.specs.declared.placed.Part.TheVariants as parts
use Rattle.volume_model.specs.Edits.{touched_by_all}
use Rattle.volume_model.specs.MapBlock.{OpenInode, own_of, all_edits}
use Rattle.volume_model.specs.Moves.{IsVolume, AreFree, opened, back_told, file_mapped, with_mapped}
use Rattle.volume_model.specs.Touched.{Contents}
use Rattle.volume_model.specs.Volume.{Place, block, zone_in}
use Rattle.volume_model.specs.Ways.{way}
use Rattle.volume_model.specs.laws.MapTells.{mine as mine_mapped}
use Rattle.volume_steps.specs.Now.{VolumeNow, Change, unchanged, followed_by}
use Rattle.volume_steps.specs.Plain.{IsInUse}
use Rattle.volume_steps.specs.Steps.{map_file_block}
use Rattle.volume_steps.specs.Zones.{TakenFor, take_zones, zone_bit}
use Rattle.volume_steps.proofs.Taking.{frees}
use Rattle.vol_check.proofs.KeptCleanLemmas.ChangedLemmas.MapRaises as raises
use Rattle.vol_check.proofs.KeptCleanLemmas.ChangedLemmas.Rising.{Rises, Told, rises_then, told_first, told_later}

-- ---- a node that only gets zones

pub record IsRaised (v : VolumeNow) (n : ℕ) (p : Placed) (c : Change) : Type 0 where
  pub placed : Placed
  pub stands : at_number c.volume.contents.nodes n ≡ Some placed
  pub size : placed.inode.size ≡ p.inode.size
  pub rises : Rises v c.volume p placed
  pub geometry : c.volume.geometry ≡ v.geometry
  pub told : (b : ℕ) → In b c.touched.blocks → Told v c.volume p placed b

pub raised_none : (v : VolumeNow) (n : ℕ) (p : Placed) → at_number v.contents.nodes n ≡ Some p → IsRaised v n p (unchanged v)
raised_none v n p at = record {
  placed = p;
  stands = at;
  size = refl;
  rises = record { number = refl; kept = λ y some. refl; taken = λ y none some. absurd (some none); free = λ z state. state; used = λ z state. state };
  geometry = refl;
  told = λ b i. absurd i;
}

pub raised_then : (v : VolumeNow) (n : ℕ) (p : Placed) (c : Change) (next : VolumeNow → Change) → (one : IsRaised v n p c) → IsRaised c.volume n one.placed (next c.volume) → IsRaised v n p (followed_by c next)
raised_then v n p c next one two = record {
  placed = two.placed;
  stands = two.stands;
  size = two.size ∙ one.size;
  rises = rises_then v c.volume (next c.volume).volume p one.placed two.placed one.rises two.rises;
  geometry = two.geometry ∙ one.geometry;
  told = λ b i. elim (In-append_cases c.touched.blocks (next c.volume).touched.blocks b i) [
    | inl j ↦ told_first v c.volume (next c.volume).volume p one.placed two.placed two.rises b (one.told b j)
    | inr j ↦ told_later v c.volume (next c.volume).volume p one.placed two.placed one.geometry one.rises b (two.told b j)
  ];
}

-- ---- a block is mapped

module _ (v : VolumeNow) (h : IsInUse v) (n : ℕ) (p : Placed) (zones : List Mapped) (at : at_number v.contents.nodes n ≡ Some p) (is : p.part ≡ parts.File zones)
    (content : List ℕ) (size : length content ≡ 1024) (index : ℕ) (high : index < 262663) (hole : zone_in v.contents.blocks p.inode (block index) ≡ 0)
    (enough : length (take_zones (λ x. zone_in v.contents.blocks p.inode x) index v.zones).numbers ≤ frees v.zones) where
  abbrev g : Geometry
  g = v.geometry

  abbrev t : TakenFor
  t = take_zones (λ x. zone_in v.contents.blocks p.inode x) index v.zones

  abbrev c : Contents
  c = raises.c v h n p at content size index high enough

  abbrev volume : IsVolume g c
  volume = raises.volume v h n p at content size index high enough

  abbrev free : AreFree g c.blocks c.nodes p.inode t.taken (way index)
  free = raises.free v h n p at content size index high enough

  gap : zone_in c.blocks p.inode (block index) ≡ 0
  gap = raises.own_kept v h n p at content size index high enough (block index) ∙ hole

  abbrev u : OpenInode
  u = raises.u v h n p at content size index high enough

  abbrev q : Placed
  q = record { number = p.number; inode = u.inode; part = parts.File (with_mapped zones index t.taken.data_zone) }

  abbrev w : Contents
  w = file_mapped g c n p zones t.taken content index

  abbrev mapped : Change
  mapped = map_file_block v n p zones content index

  mine : (x : Place) → zone_in w.blocks u.inode x ≡ own_of u x
  mine = mine_mapped g h.sound c.blocks c.nodes n p volume.0 at t.taken content size index high free zones is gap

  abbrev on_way : List ℕ
  on_way = touched_by_all g (all_edits g t.taken content (opened c p) (way index))

  pub map_raised : IsRaised v n p mapped
  map_raised = record {
    placed = q;
    stands = at_put_number v.contents.nodes n q;
    size = ap (λ (i : Inode). i.size) (raises.outcome v h n p at content size index high enough).fields;
    rises = raises.rises v h n p at content size index high enough w q.part mine;
    geometry = refl;
    told = λ b i. elim (In-append_cases (touched_by_all g (map (zone_bit g true) t.numbers)) (filter (λ b. not (b == t.taken.data_zone)) on_way ++ back_told g p u.inode) b i) [
      | inl j ↦ raises.bits v h n p at content size index high enough w q.part mine b j
      | inr more ↦ elim (In-append_cases (filter (λ b. not (b == t.taken.data_zone)) on_way) (back_told g p u.inode) b more) [
        | inl j ↦ raises.filled v h n p at content size index high enough w q.part mine b (In-filter (λ b. not (b == t.taken.data_zone)) on_way b j).0
        | inr j ↦ raises.in_table v h n p at content size index high enough w q.part mine b j
      ]
    ];
  }
