-- The laws of moves, on volumes as a whole.
use Rattle.std.proofs.Common.{◌≡◌, ℕ, ◌<◌, ◌+◌, nat_eq, List, length, filter, Some, subst, ◌∙◌}
use Rattle.minix_layout.specs.declared.division.Geometry.{Geometry}
use Rattle.minix_layout.specs.Geometry.{IsSound}
use Rattle.tree_model.specs.Maps.{at_number}
use Rattle.volume_ops.specs.declared.found.Mapped.{Mapped}
use Rattle.volume_model.specs.declared.placed.Placed.{Placed}
use Rattle.volume_model.specs.declared.placed.Part.TheVariants as parts
use Rattle.volume_model.specs.declared.placed.DirectoryPart.{DirectoryPart}
use Rattle.volume_model.specs.Volume.{block, zone_in, IsPart}
use Rattle.volume_model.specs.Ways.{way}
use Rattle.volume_model.specs.MapBlock.{TakenZones}
use Rattle.volume_model.specs.Cut.{IsKeep}
use Rattle.volume_model.specs.Counts.{keeps_below, zones_of_file, indices_of}
use Rattle.volume_model.specs.Touched.{Contents, Tells}
use Rattle.volume_model.specs.Moves.{IsVolume, AreFree, with_mapped, file_mapped, directory_mapped, file_mapped_touches, file_cut, file_cut_touches}
use Rattle.volume_model.specs.laws.Counts.{IsIndexed, count_map, keep_below}
use Rattle.volume_model.specs.laws.Indexed.{file_indexed}
use Rattle.volume_model.specs.laws.Mapped.{zones_mapped}
use Rattle.volume_model.specs.laws.ZoneMoves.{grown, MapWrites, may_map, map_file, map_directory, map_just, moved_just, mapped_file_stands, mapped_directory_stands, cut_file_stands, cut_file_just}
use Rattle.volume_model.specs.laws.MapTells.{map_tells}
use Rattle.volume_model.specs.laws.CutTells.{cut_tells_all}

module _ (g : Geometry) (v : Contents) (n : ℕ) (p : Placed) where
  pub mapped_file : (zones : List Mapped) (t : TakenZones) (content : List ℕ) (index : ℕ) → IsSound g → IsVolume g v → at_number v.nodes n ≡ Some p → p.part ≡ parts.File zones →
      length content ≡ 1024 → index < 262663 → zone_in v.blocks p.inode (block index) ≡ 0 → AreFree g v.blocks v.nodes p.inode t (way index) → IsVolume g (file_mapped g v n p zones t content index)
  mapped_file zones t content index sound h at is size high hole free = (
    mapped_file_stands g sound v.blocks v.nodes n p h.0 at t content size index high free zones is hole,
    moved_just g sound v.blocks v.nodes n p h.0 at (grown g sound v.blocks v.nodes n p h.0 at t content size index high free) (parts.File (with_mapped zones index t.data_zone))
        (MapWrites g sound v.blocks v.nodes n p h.0 at t content size index high free)
        (may_map g sound v.blocks v.nodes n p h.0 at t content size index high free (parts.File (with_mapped zones index t.data_zone))
        (map_file g sound v.blocks v.nodes n p h.0 at t content size index high free zones hole (subst (IsPart g v.blocks p.inode) is (h.0.each n p at).part))
        (λ e same. absurd (cc same)))
        h.1 (map_just g sound v.blocks v.nodes n p h.0 at t content size index high free (h.1 n p at)),
  )

  pub mapped_directory : (d : DirectoryPart) (t : TakenZones) (content : List ℕ) (index : ℕ) → IsSound g → IsVolume g v → at_number v.nodes n ≡ Some p → p.part ≡ parts.Directory d →
      length content ≡ 1024 → index < 262663 → AreFree g v.blocks v.nodes p.inode t (way index) → IsVolume g (directory_mapped g v n p d t content index)
  mapped_directory d t content index sound h at is size high free = (
    mapped_directory_stands g sound v.blocks v.nodes n p h.0 at t content size index high free d is,
    moved_just g sound v.blocks v.nodes n p h.0 at (grown g sound v.blocks v.nodes n p h.0 at t content size index high free) (parts.Directory d)
        (MapWrites g sound v.blocks v.nodes n p h.0 at t content size index high free)
        (may_map g sound v.blocks v.nodes n p h.0 at t content size index high free (parts.Directory d)
        (map_directory g sound v.blocks v.nodes n p h.0 at t content size index high free d (subst (IsPart g v.blocks p.inode) is (h.0.each n p at).part))
        (λ e same. h.0.names n p e at (is ∙ same)))
        h.1 (map_just g sound v.blocks v.nodes n p h.0 at t content size index high free (h.1 n p at)),
  )

  pub mapped_told : (zones : List Mapped) (t : TakenZones) (content : List ℕ) (index : ℕ) → IsSound g → IsVolume g v → at_number v.nodes n ≡ Some p → p.part ≡ parts.File zones →
      length content ≡ 1024 → index < 262663 → zone_in v.blocks p.inode (block index) ≡ 0 → AreFree g v.blocks v.nodes p.inode t (way index) →
      Tells g v (file_mapped g v n p zones t content index) (file_mapped_touches g v n p t content index) (λ birth at. (birth ≡ n) × (at ≡ index))
  mapped_told zones t content index sound h at is size high hole free =
      map_tells g sound v.blocks v.nodes n p h.0 at t content size index high free zones is hole

  indexed : (zones : List Mapped) → IsVolume g v → at_number v.nodes n ≡ Some p → p.part ≡ parts.File zones → IsIndexed (λ x. zone_in v.blocks p.inode x) (indices_of zones)
  indexed zones h at is = file_indexed g v.blocks v.nodes n p zones h.0 at is (h.1 n p at)

  pub mapped_counted : (zones : List Mapped) (index zone : ℕ) → IsVolume g v → at_number v.nodes n ≡ Some p → p.part ≡ parts.File zones → index < 262663 → zone_in v.blocks p.inode (block index) ≡ 0 →
      zones_of_file (indices_of (with_mapped zones index zone)) ≡ zones_of_file (indices_of zones) + length (filter (λ x. nat_eq (zone_in v.blocks p.inode x) 0) (way index))
  mapped_counted zones index zone h at is high hole = zones_mapped index zone zones ∙ count_map (λ x. zone_in v.blocks p.inode x) (indices_of zones) (indexed zones h at is) index high hole

  keep : (zones : List Mapped) (from : ℕ) → IsVolume g v → at_number v.nodes n ≡ Some p → p.part ≡ parts.File zones → IsKeep (λ x. zone_in v.blocks p.inode x) from (keeps_below (indices_of zones) from)
  keep zones from h at is = keep_below (λ x. zone_in v.blocks p.inode x) (indices_of zones) (indexed zones h at is) from

  pub cut_file : (zones : List Mapped) (from : ℕ) → IsSound g → IsVolume g v → at_number v.nodes n ≡ Some p → p.part ≡ parts.File zones → IsVolume g (file_cut g v n p zones (keeps_below (indices_of zones) from) from)
  cut_file zones from sound h at is = (
    cut_file_stands g sound v.blocks v.nodes n p h.0 at from (keeps_below (indices_of zones) from) (keep zones from h at is) (h.1 n p at) zones is,
    cut_file_just g sound v.blocks v.nodes n p h.0 at from (keeps_below (indices_of zones) from) (keep zones from h at is) (h.1 n p at) zones is h.1,
  )

  pub cut_told : (zones : List Mapped) (from : ℕ) → IsSound g → IsVolume g v → at_number v.nodes n ≡ Some p → p.part ≡ parts.File zones →
      Tells g v (file_cut g v n p zones (keeps_below (indices_of zones) from) from) (file_cut_touches g v n p zones (keeps_below (indices_of zones) from) from) (λ birth index. ⊥)
  cut_told zones from sound h at is =
      cut_tells_all g sound v.blocks v.nodes n p h.0 at from (keeps_below (indices_of zones) from) (keep zones from h at is) (h.1 n p at) zones is
