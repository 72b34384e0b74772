-- The volume of the widened image of a clean volume is clean.
use Rattle.std.specs.Prelude.{◌≡◌, ◌≢◌, ℕ, ◌≤◌, List, [], ◌∷◌, take, Ok}
use Rattle.std.proofs.Common.{sym, ap, subst, ◌∙◌, ⊎_elim, arith}
use Rattle.std.proofs.lemmas.Bool.{cases_eq}
use Rattle.minix_layout.specs.declared.division.Geometry.{Geometry}
use Rattle.minix_layout.specs.Geometry.{IsSound}
use Rattle.minix_layout.specs.Widths.{IsWidth, of_14, of_30}
use Rattle.minix_layout.specs.Super.{super_of}
use Rattle.tree_model.specs.declared.node.Node.{Node}
use Rattle.volume_ops.specs.laws.ReadsLaws.{same_Ok}
use Rattle.volume_ops.specs.Volume.{VolumeState, disk_of, walked, put_nodes, tree_found}
use Rattle.volume_ops.specs.Walk.{Walked}
use Rattle.volume_ops.specs.VolumeTrees.{IsVolumeTree}
use Rattle.volume_ops.proofs.TreeUnique.{walked_tree}
use Rattle.volume_model.specs.Edits.{edited_all}
use Rattle.mount_make.specs.Images.{recovered_image, mounted}
use Rattle.vol_check.specs.Clean.{IsClean}
use Rattle.widening.specs.Directories.{directories, free_zones, all_edits}
use Rattle.widening.specs.Widened.{wide, magic_edit, widened, by_mount}
use Rattle.widening.specs.WideTrees.{IsWidening}
use Rattle.widening.proofs.Fitting.{wide_sound}
use Rattle.widening.proofs.RoomSteps.{wide_already}
use Rattle.widening.proofs.Remounting.{IsMounted, mounted_parts, recovered_is, super_stays, divided_parts}
use Rattle.widening.proofs.WidenedImages.{some_zones, volume_sound, take_all}
use Rattle.widening.proofs.WidenedTrees.{widened_parts, mounted_wide, as_it_was}
use Rattle.system_laws.proofs.WidenedLemmas.WideClean.{wide_clean}

low_width : (width : ℕ) → IsWidth width → width ≤ 30
low_width width of_14 = omega arith
low_width width of_30 = omega arith

wide_same : (g : Geometry) → g.width ≡ 30 → g ≡ wide g
wide_same g e = ap (λ (n : ℕ). let h : Geometry = record { inodes = g.inodes; zones = g.zones; imap = g.imap; zmap = g.zmap; first = g.first; width = n } in h) e

module _ (blocks image : List (List ℕ)) (v : VolumeState) (h : IsWidening blocks image v) where
  abbrev g : Geometry
  g = v.geometry

  abbrev w : Geometry
  w = wide v.geometry

  abbrev start : List (List ℕ)
  start = recovered_image blocks

  parts : IsMounted blocks v
  parts = mounted_parts blocks v h.mounts

  volume_is : v.blocks ≡ take g.zones start
  volume_is = parts.volume ∙ ap (take g.zones) (sym (recovered_is blocks v parts))

  -- the division of a volume of bytes is sound
  sound : IsSound g
  sound =
      let start_is = recovered_is blocks v parts in
      let old = divided_parts blocks g parts.divides in
      let same : disk_of start 1 ≡ disk_of blocks 1 = ap (λ i. disk_of i 1) start_is ∙ super_stays g.zones blocks (some_zones (disk_of blocks 1) g old.1) parts.fine in
      volume_sound start v.blocks g (ap super_of same ∙ old.1) volume_is h.volume.bytes

  widened_is : widened v start ≡ Ok image
  widened_is = sym (ap (by_mount start) h.mounts) ∙ h.widens

  -- ---- names of 14 bytes

  module _ (narrow : v.geometry.width ≢ 30) where
    abbrev all : Walked
    all = parts.walks.0

    walk : walked g v.blocks ≡ Ok all
    walk = parts.walks.1

    abbrev tree : List (ℕ × Node)
    tree = put_nodes v.blocks all.nodes []

    stands : IsVolumeTree g v.blocks tree
    stands = walked_tree g v.blocks tree sound.some_inode (ap (tree_found v.blocks) walk)

    written_clean : IsClean g v.blocks → IsClean w (take g.zones image)
    written_clean clean =
        let both = widened_parts v start image all narrow walk widened_is in
        let writes = magic_edit ∷ all_edits w v.blocks (directories tree) (free_zones g v.blocks all.zones) in
        let after : edited_all w v.blocks writes ≡ take g.zones image = ap (λ b. edited_all w b writes) volume_is ∙ (sym (take_all w g.zones writes start) ∙ ap (take g.zones) both.1) in
        subst (λ b. IsClean w b) after (wide_clean g v.blocks tree all stands walk sound (wide_sound g sound) h.volume (low_width g.width sound.width) both.0 clean)

    narrow_clean : (u : VolumeState) → IsClean g v.blocks → mounted image ≡ Ok u → IsClean u.geometry u.blocks
    narrow_clean u clean is =
        let t : VolumeState = record { geometry = w; blocks = take g.zones image } in
        let same : t ≡ u = same_Ok t u (sym (mounted_wide blocks image v h.mounts h.widens narrow sound h.volume all walk h.journal) ∙ is) in
        subst (λ (x : VolumeState). IsClean x.geometry x.blocks) same (written_clean clean)

  -- ---- names of 30 bytes

  stays : v.geometry.width ≡ 30 → start ≡ image
  stays already = same_Ok start image (sym (wide_already v start already) ∙ widened_is)

  pub mounted_clean : (u : VolumeState) → IsClean v.geometry v.blocks → mounted image ≡ Ok u → IsClean u.geometry u.blocks
  mounted_clean u clean is =
      ⊎_elim
      (λ already. subst (λ (x : VolumeState). IsClean x.geometry x.blocks) (same_Ok v u (sym (as_it_was blocks image v h already) ∙ is)) clean)
      (λ narrow. narrow_clean narrow u clean is)
      (cases_eq v.geometry.width 30)

  pub volume_clean : IsClean v.geometry v.blocks → IsClean (wide v.geometry) (take v.geometry.zones image)
  volume_clean clean =
      ⊎_elim
      (λ already.
      subst (λ x. IsClean x (take v.geometry.zones image)) (wide_same v.geometry already)
      (subst (λ b. IsClean v.geometry b) (volume_is ∙ ap (take v.geometry.zones) (stays already)) clean))
      (λ narrow. written_clean narrow clean)
      (cases_eq v.geometry.width 30)
