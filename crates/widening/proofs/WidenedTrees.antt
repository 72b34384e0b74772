-- Widened images are mounted, with the same tree but for widths and slots; other blocks stay.
use Rattle.std.specs.Prelude.{◌≡◌, ◌≢◌, ℕ, ◌<◌, ◌≤◌, nat_lt, Bool, true, false, if◌then◌else◌, List, [], ◌∷◌, length, take, Result, Ok, Err, refl}
use Rattle.std.proofs.Common.{sym, ap, subst, ◌∙◌, ⊎_elim, arith}
use Rattle.std.proofs.lemmas.Bool.{cases_eq, ne_eqb, ltb-false}
use Rattle.std.proofs.lemmas.List.{get_or-take}
use Rattle.blk_base.specs.Block.{filled}
use Rattle.minix_layout.specs.declared.division.Geometry.{Geometry}
use Rattle.minix_layout.specs.Geometry.{IsSound}
use Rattle.minix_layout.specs.Widths.{IsWidth, of_14, of_30}
use Rattle.minix_layout.specs.Super.{super_of}
use Rattle.tree_model.specs.declared.node.Node.{Node}
use Rattle.tree_model.specs.declared.node.Directory.{Directory}
use Rattle.volume_ops.specs.laws.ReadsLaws.{err-ok, same_Ok}
use Rattle.volume_ops.specs.Volume.{VolumeState, disk_of, walked, put_nodes, tree_found, tree_of}
use Rattle.volume_ops.specs.Walk.{Walked}
use Rattle.volume_ops.specs.VolumeTrees.{IsVolumeTree}
use Rattle.volume_ops.proofs.TreeUnique.{walked_tree, tree_walked}
use Rattle.volume_ops.proofs.WalkTests.{faultless_walked}
use Rattle.volume_model.specs.ImageNodes.{IsImage}
use Rattle.volume_model.specs.Edits.{edited, edited_all}
use Rattle.volume_model.specs.laws.Edits.{edited_here}
use Rattle.mount_make.specs.Images.{divided, recovered_from, recovered_image, volume_in, mounted}
use Rattle.widening.specs.declared.fault.WidenFault.{WidenFault}
use Rattle.widening.specs.declared.fault.WidenFault.TheVariants as faults
use Rattle.widening.specs.Changed.{IsWritten}
use Rattle.widening.specs.Directories.{directories, free_zones, all_edits, has_no_room}
use Rattle.widening.specs.Widened.{wide, magic_edit, by_walk, widened, by_mount, widened_image}
use Rattle.widening.specs.WideTrees.{wide_tree, IsWidening}
use Rattle.widening.proofs.Fitting.{wide_sound}
use Rattle.widening.proofs.RoomSteps.{wide_already as already}
use Rattle.widening.proofs.Remounting.{IsMounted, mounted_parts, recovered_is, mounts, journal_calm, length-recovered_from, super_stays, divided_parts, divided_from}
use Rattle.widening.proofs.Rewriting.{rewriting, super_left, others_stay, written_within}
use Rattle.widening.proofs.WideFields.{wide_volume_tree}
use Rattle.widening.proofs.WidenedImages.{wide_super, some_zones, volume_sound, take_all, length-edited_all}

low_width : (width : ℕ) → IsWidth width → width ≤ 30
low_width width of_14 = omega arith
low_width width of_30 = omega arith

room_of : (g : Geometry) (blocks image wide_image : List (List ℕ)) (es : List (ℕ × Directory)) (free : List ℕ) (none : Bool) → has_no_room g blocks es free ≡ none →
    ◌≡◌ {A = Result (List (List ℕ)) WidenFault} (if none then Err faults.NoRoom else Ok (edited_all g image (magic_edit ∷ all_edits g blocks es free))) (Ok wide_image) →
    (has_no_room g blocks es free ≡ false) × (edited_all g image (magic_edit ∷ all_edits g blocks es free) ≡ wide_image)
room_of g blocks image wide_image es free true is e = absurd (err-ok faults.NoRoom wide_image e)
room_of g blocks image wide_image es free false is e = (is, same_Ok _ wide_image e)

-- what a widened image is, where names had 14 bytes
pub widened_parts : (v : VolumeState) (image wide_image : List (List ℕ)) (all : Walked) → v.geometry.width ≢ 30 → walked v.geometry v.blocks ≡ Ok all → widened v image ≡ Ok wide_image →
    (has_no_room (wide v.geometry) v.blocks (directories (put_nodes v.blocks all.nodes [])) (free_zones v.geometry v.blocks all.zones) ≡ false) ×
    (edited_all (wide v.geometry) image (magic_edit ∷ all_edits (wide v.geometry) v.blocks (directories (put_nodes v.blocks all.nodes [])) (free_zones v.geometry v.blocks all.zones)) ≡ wide_image)
unfolding widened
widened_parts v image wide_image all narrow walk e =
    let es = directories (put_nodes v.blocks all.nodes []) in
    let free = free_zones v.geometry v.blocks all.zones in
    room_of (wide v.geometry) v.blocks image wide_image es free (has_no_room (wide v.geometry) v.blocks es free) refl
    (sym (ap (λ b. if b then Ok image else by_walk v.geometry v.blocks image (walked v.geometry v.blocks)) (ne_eqb v.geometry.width 30 narrow) ∙ ap (by_walk v.geometry v.blocks image) walk) ∙ e)

-- ---- an image of names of 30 bytes

wide_same : (g : Geometry) → g.width ≡ 30 → g ≡ wide g
wide_same g e = ap (λ (n : ℕ). let h : Geometry = record { inodes = g.inodes; zones = g.zones; imap = g.imap; zmap = g.zmap; first = g.first; width = n } in h) e

same_volume : (blocks : List (List ℕ)) (v : VolumeState) → mounted blocks ≡ Ok v → IsSound v.geometry → length (disk_of blocks v.geometry.zones) ≡ 1024 →
    (divided (recovered_image blocks) ≡ Ok v.geometry) × (mounted (recovered_image blocks) ≡ Ok v)
same_volume blocks v is sound whole =
    let p = mounted_parts blocks v is in
    let g = v.geometry in
    let start_is = recovered_is blocks v p in
    let long : length (recovered_image blocks) ≡ length blocks = ap length start_is ∙ length-recovered_from g.zones blocks in
    let low : 1 < g.zones = (let a = sound.some_zone in let b = sound.tables_below in omega (arith, a, b)) in
    let old = divided_parts blocks g p.divides in
    let same : disk_of (recovered_image blocks) 1 ≡ disk_of blocks 1 = ap (λ i. disk_of i 1) start_is ∙ super_stays g.zones blocks low p.fine in
    let divides = divided_from (recovered_image blocks) g (ap (λ n. nat_lt n 2) long ∙ old.0) (ap super_of same ∙ old.1) (ap (λ n. nat_lt n g.zones) long ∙ old.2) in
    let journal = journal_calm g.zones blocks (recovered_image blocks) whole p.fine long (ap (λ i. disk_of i g.zones) start_is) in
    let volume : v.blocks ≡ volume_in g (recovered_image blocks) = p.volume ∙ (ap (take g.zones) (sym start_is) ∙ ap (take g.zones) (sym journal.1)) in (
      divides,
      mounts (recovered_image blocks) g p.walks.0 divides journal.0 (ap (walked g) (sym volume) ∙ p.walks.1)
          ∙ ap (λ (b : List (List ℕ)). let u : VolumeState = record { geometry = g; blocks = b } in Ok u) (sym volume),
    )

-- the division of a volume of bytes is sound
image_sound : (blocks : List (List ℕ)) (v : VolumeState) → mounted blocks ≡ Ok v → IsImage v.geometry v.blocks → IsSound v.geometry
image_sound blocks v is full =
    let p = mounted_parts blocks v is in
    let g = v.geometry in
    let start_is = recovered_is blocks v p in
    let old = divided_parts blocks g p.divides in
    let same : disk_of (recovered_image blocks) 1 ≡ disk_of blocks 1 = ap (λ i. disk_of i 1) start_is ∙ super_stays g.zones blocks (some_zones (disk_of blocks 1) g old.1) p.fine in
    volume_sound (recovered_image blocks) v.blocks g (ap super_of same ∙ old.1) (p.volume ∙ ap (take g.zones) (sym start_is)) full.bytes

-- ---- one of names of 14 bytes

module _ (blocks image : List (List ℕ)) (v : VolumeState) (is : mounted blocks ≡ Ok v) (e : widened_image blocks ≡ Ok image) (narrow : v.geometry.width ≢ 30) (sound : IsSound v.geometry)
    (full : IsImage v.geometry v.blocks) where
  parts : IsMounted blocks v
  parts = mounted_parts blocks v is

  abbrev g : Geometry
  g = v.geometry

  abbrev w : Geometry
  w = wide v.geometry

  abbrev start : List (List ℕ)
  start = recovered_image blocks

  widened_is : widened v start ≡ Ok image
  widened_is = sym (ap (by_mount start) is) ∙ e

  module _ (all : Walked) (walk : walked v.geometry v.blocks ≡ Ok all) where
    abbrev tree : List (ℕ × Node)
    tree = put_nodes v.blocks all.nodes []

    abbrev free : List ℕ
    free = free_zones v.geometry v.blocks all.zones

    tree_is : tree_of g v.blocks ≡ Ok tree
    tree_is = ap (tree_found v.blocks) walk

    stands : IsVolumeTree g v.blocks tree
    stands = walked_tree g v.blocks tree sound.some_inode tree_is

    both : (has_no_room w v.blocks (directories tree) free ≡ false) × (edited_all w start (magic_edit ∷ all_edits w v.blocks (directories tree) free) ≡ image)
    both = widened_parts v start image all narrow walk widened_is

    -- ---- other blocks

    pub bytes_stay : (b : ℕ) → (IsWritten g v.blocks tree free b → ⊥) → disk_of image b ≡ disk_of start b
    bytes_stay b none =
        ap (λ i. disk_of i b) (sym both.1) ∙ others_stay g v.blocks tree all stands walk sound (wide_sound g sound) full (low_width g.width sound.width) both.0 start b none

    pub none_past : (b : ℕ) → g.zones ≤ b → IsWritten g v.blocks tree free b → ⊥
    none_past b past written = let low = written_within g v.blocks tree all stands walk sound (wide_sound g sound) full (low_width g.width sound.width) b written in omega (arith, past, low)

    pub length_stays : length image ≡ length start
    length_stays = ap length (sym both.1) ∙ length-edited_all w (magic_edit ∷ all_edits w v.blocks (directories tree) free) start

    -- ---- how it is divided

    zones_low : 1 < g.zones
    zones_low = let a = sound.some_zone in let b = sound.tables_below in omega (arith, a, b)

    start_is : start ≡ recovered_from g.zones blocks
    start_is = recovered_is blocks v parts

    start_long : length start ≡ length blocks
    start_long = ap length start_is ∙ length-recovered_from g.zones blocks

    volume_is : v.blocks ≡ take g.zones start
    volume_is = parts.volume ∙ ap (take g.zones) (sym start_is)

    start_whole : length (disk_of start 1) ≡ 1024
    start_whole = ap length (sym (get_or-take g.zones start 1 (filled 0) zones_low) ∙ ap (λ i. disk_of i 1) (sym volume_is)) ∙ full.whole 1

    super_there : super_of (disk_of image 1) ≡ Ok w
    super_there =
        let old = divided_parts blocks g parts.divides in
        let inside : 1 < length start = (let two = ltb-false (length blocks) 2 old.0 in let long = start_long in omega (arith, two, long)) in
        let same : disk_of start 1 ≡ disk_of blocks 1 = ap (λ i. disk_of i 1) start_is ∙ super_stays g.zones blocks zones_low parts.fine in
        ap (λ i. super_of (disk_of i 1)) (sym both.1)
        ∙ (ap super_of (super_left g v.blocks tree all stands walk sound (wide_sound g sound) full (low_width g.width sound.width) both.0 (edited w start magic_edit))
        ∙ (ap super_of (edited_here w start magic_edit inside)
        ∙ wide_super (disk_of start 1) g start_whole (ap super_of same ∙ old.1)))

    pub divides : divided image ≡ Ok w
    divides =
        let old = divided_parts blocks g parts.divides in
        let long : length image ≡ length blocks = length_stays ∙ start_long in
        divided_from image w (ap (λ n. nat_lt n 2) long ∙ old.0) super_there (ap (λ n. nat_lt n g.zones) long ∙ old.2)

    -- ---- its tree

    abbrev volume : List (List ℕ)
    volume = take g.zones image

    volume_after : edited_all w v.blocks (magic_edit ∷ all_edits w v.blocks (directories tree) free) ≡ volume
    volume_after =
        ap (λ b. edited_all w b (magic_edit ∷ all_edits w v.blocks (directories tree) free)) volume_is
        ∙ (sym (take_all w g.zones (magic_edit ∷ all_edits w v.blocks (directories tree) free) start) ∙ ap (take g.zones) both.1)

    pub wide_stands : IsVolumeTree w volume (wide_tree tree)
    wide_stands =
        subst (λ b. IsVolumeTree w b (wide_tree tree)) volume_after
        (wide_volume_tree g v.blocks _ tree _ stands (rewriting g v.blocks tree all stands walk sound (wide_sound g sound) full (low_width g.width sound.width) both.0) sound.some_inode (low_width g.width sound.width))

    pub tree_after : tree_of w volume ≡ Ok (wide_tree tree)
    tree_after = tree_walked w volume (wide_tree tree) sound.some_inode wide_stands

    -- ---- and it is mounted

    module _ (whole : length (disk_of blocks v.geometry.zones) ≡ 1024) where
      calm : (same : recovered_from g.zones image ≡ image) → volume_in w image ≡ volume
      calm same = ap (take g.zones) same

      pub mounted_wide : mounted image ≡ Ok (record { geometry = w; blocks = volume })
      mounted_wide =
          let journal = journal_calm g.zones blocks image whole parts.fine (length_stays ∙ start_long)
          (bytes_stay g.zones (none_past g.zones (omega arith)) ∙ ap (λ i. disk_of i g.zones) start_is) in
          let same = calm journal.1 in
          let found = faultless_walked w volume sound.some_inode wide_stands.faultless in
          mounts image w found.0 divides journal.0 (ap (walked w) same ∙ found.1)
          ∙ ap (λ (b : List (List ℕ)). let u : VolumeState = record { geometry = w; blocks = b } in Ok u) same

-- ---- images of either width

module _ (blocks image : List (List ℕ)) (v : VolumeState) (h : IsWidening blocks image v) where
  found : IsMounted blocks v
  found = mounted_parts blocks v h.mounts

  sound : IsSound v.geometry
  sound = image_sound blocks v h.mounts h.volume

  stays : v.geometry.width ≡ 30 → recovered_image blocks ≡ image
  stays wide_already = same_Ok (recovered_image blocks) image (sym (ap (by_mount (recovered_image blocks)) h.mounts ∙ already v (recovered_image blocks) wide_already) ∙ h.widens)

  pub wide_divided : divided image ≡ Ok (wide v.geometry)
  wide_divided =
      ⊎_elim
      (λ e. ap divided (sym (stays e)) ∙ ((same_volume blocks v h.mounts sound h.journal).0 ∙ ap Ok (wide_same v.geometry e)))
      (λ narrow. divides blocks image v h.mounts h.widens narrow sound h.volume found.walks.0 found.walks.1)
      (cases_eq v.geometry.width 30)

  pub as_it_was : v.geometry.width ≡ 30 → mounted image ≡ Ok v
  as_it_was e = ap mounted (sym (stays e)) ∙ (same_volume blocks v h.mounts sound h.journal).1

  pub wide_mounted : (w : VolumeState) × (mounted image ≡ Ok w) × (w.geometry ≡ wide v.geometry)
  wide_mounted =
      ⊎_elim
      (λ e. (v, as_it_was e, wide_same v.geometry e))
      (λ narrow. (record { geometry = wide v.geometry; blocks = take v.geometry.zones image }, mounted_wide blocks image v h.mounts h.widens narrow sound h.volume found.walks.0 found.walks.1 h.journal, refl))
      (cases_eq v.geometry.width 30)

  pub wide_tree_of : (u : VolumeState) (tree : List (ℕ × Node)) → v.geometry.width ≢ 30 → mounted image ≡ Ok u → tree_of v.geometry v.blocks ≡ Ok tree → tree_of u.geometry u.blocks ≡ Ok (wide_tree tree)
  wide_tree_of u tree narrow is tree_is =
      let all = found.walks.0 in
      let t : VolumeState = record { geometry = wide v.geometry; blocks = take v.geometry.zones image } in
      let same : t ≡ u = same_Ok t u (sym (mounted_wide blocks image v h.mounts h.widens narrow sound h.volume all found.walks.1 h.journal) ∙ is) in
      let trees : put_nodes v.blocks all.nodes [] ≡ tree = same_Ok (put_nodes v.blocks all.nodes []) tree (sym (ap (tree_found v.blocks) found.walks.1) ∙ tree_is) in
      subst (λ (x : VolumeState). tree_of x.geometry x.blocks ≡ Ok (wide_tree tree)) same
      (tree_after blocks image v h.mounts h.widens narrow sound h.volume all found.walks.1 ∙ ap (λ t. Ok (wide_tree t)) trees)

  pub same_length : length image ≡ length (recovered_image blocks)
  same_length =
      ⊎_elim (λ e. ap length (sym (stays e))) (λ narrow. length_stays blocks image v h.mounts h.widens narrow sound h.volume found.walks.0 found.walks.1) (cases_eq v.geometry.width 30)

  pub same_bytes : (all : Walked) (b : ℕ) → walked v.geometry v.blocks ≡ Ok all →
      (IsWritten v.geometry v.blocks (put_nodes v.blocks all.nodes []) (free_zones v.geometry v.blocks all.zones) b → ⊥) → disk_of image b ≡ disk_of (recovered_image blocks) b
  same_bytes all b walk none =
      ⊎_elim (λ e. ap (λ i. disk_of i b) (sym (stays e))) (λ narrow. bytes_stay blocks image v h.mounts h.widens narrow sound h.volume all walk b none) (cases_eq v.geometry.width 30)

  pub same_behind : (b : ℕ) → v.geometry.zones ≤ b → disk_of image b ≡ disk_of (recovered_image blocks) b
  same_behind b past =
      ⊎_elim
      (λ e. ap (λ i. disk_of i b) (sym (stays e)))
      (λ narrow.
      bytes_stay blocks image v h.mounts h.widens narrow sound h.volume found.walks.0 found.walks.1 b (none_past blocks image v h.mounts h.widens narrow sound h.volume found.walks.0 found.walks.1 b past))
      (cases_eq v.geometry.width 30)
