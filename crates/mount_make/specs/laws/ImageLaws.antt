-- The tree of an image: from both sides, by its metadata, and its faults.
use Rattle.std.specs.Prelude.{◌≡◌, ℕ, ◌≢◌, ◌<◌, ◌≤◌, ◌==◌, ◌↔◌, Bool, true, false, not, nat_lt, if◌then◌else◌, List, [], take, length, slice_get, Option, Some, None, Result, Ok, Err, refl}
use Rattle.std.proofs.Common.{sym, ap, subst, ◌∙◌, ⊎_elim, arith}
use Rattle.std.proofs.lemmas.Bool.{cases_lt, and_parts, ltb-true}
use Rattle.std.proofs.lemmas.List.{get_or-take, get_or_past, length-take}
use Rattle.blk_base.specs.Block.{filled}
use Rattle.minix_layout.specs.declared.division.Geometry.{Geometry}
use Rattle.minix_layout.specs.declared.fault.LayoutFault.{LayoutFault}
use Rattle.minix_layout.specs.declared.fault.LayoutFault.TheVariants.{BadMagic, BadGeometry}
use Rattle.minix_layout.specs.Geometry.{is_consistent}
use Rattle.minix_layout.specs.Super.{is_magic, super_of, magic_of, is_divided, geometry_of}
use Rattle.byte_fields.specs.Fields.{number_at}
use Rattle.byte_fields.specs.Fields.Order.{little}
use Rattle.tree_model.specs.declared.node.Node.{Node}
use Rattle.tree_model.specs.Maps.{at_number}
use Rattle.tree_model.specs.Trees.{AreAlike}
use Rattle.volume_ops.specs.laws.ReadsLaws.{err-ok, same_Ok}
use Rattle.volume_ops.specs.Walk.{Walked}
use Rattle.volume_ops.specs.Zones.{Fault}
use Rattle.volume_ops.specs.Volume.{disk_of, walked, put_nodes, tree_found, tree_of}
use Rattle.volume_ops.specs.laws.Alike.{SameMetadataAtOrNone}
use Rattle.volume_ops.specs.Defects.{IsDefect}
use Rattle.volume_ops.specs.FirstFault.{IsFirstFault}
use Rattle.volume_ops.specs.Metadata.{of_volume, AgreeOnMetadata}
use Rattle.volume_ops.specs.VolumeTrees.{IsVolumeTree}
use Rattle.volume_ops.proofs.FirstUnique.{first_told}
use Rattle.volume_ops.proofs.WalkTests.{walked_first}
use Rattle.volume_ops.proofs.TreeUnique.{walked_tree, tree_walked, one_tree}
use Rattle.volume_ops.proofs.SameWalks.{same_trees}
use Rattle.mount_make.specs.declared.fault.ImageFault.{ImageFault}
use Rattle.mount_make.specs.declared.fault.ImageFault.TheVariants as image
use Rattle.std.specs.Option.{option_map}
use Rattle.blk_base.specs.laws.Members.{slice_get-in_range, slice_get-out}
use Rattle.log_model.specs.Marks.{mark_in, body_after}
use Rattle.journal_blocks.specs.declared.super_block.JournalSuper.{JournalSuper}
use Rattle.journal_blocks.specs.declared.fault.JournalFault.{JournalFault}
use Rattle.journal_blocks.specs.Super.{super_of as journal_super, is_journal}
use Rattle.journal_blocks.specs.Log.{Reading, log_of}
use Rattle.journal_replay.specs.Recovered.{by_super as recovery_by, emptied, recovered, fault_by, journal_fault}
use Rattle.journal_replay.specs.laws.Attempts.{same_log, body_at-some}
use Rattle.mount_make.specs.Images.{FaultPlace, image_fault, has_journal, as_told, fault_in_journal, recovered_from, volume_in, whole_volume, by_super, divided, by_walk, by_journal, by_geometry, mounted, tree_after, image_tree}
use Rattle.mount_make.specs.ImageTrees.{IsImageTree, in_volume, behind, in_journal, AgreeOnImage}
use Rattle.mount_make.specs.laws.Recovering.{recovered_as, by_start, emptied-at}

-- ---- an image that is divided has an inode

whole_is : (blocks : List (List ℕ)) (h g : Geometry) → whole_volume blocks h ≡ Ok g → h ≡ g
whole_is blocks h g e = by (nat_lt (length blocks) h.zones) e
  where
    by : (short : Bool) → ◌≡◌ {A = Result Geometry FaultPlace} (if short then Err (image.BadGeometry, length blocks) else Ok h) (Ok g) → h ≡ g
    by true e = absurd (err-ok _ g e)
    by false e = same_Ok h g e

super_by : (blocks : List (List ℕ)) (g : Geometry) (r : Result Geometry LayoutFault) → by_super blocks r ≡ Ok g → r ≡ Ok g
super_by blocks g (Ok h) e = ap Ok (whole_is blocks h g e)
super_by blocks g (Err fault) e = absurd (err-ok _ g e)

divided_super : (blocks : List (List ℕ)) (g : Geometry) → divided blocks ≡ Ok g → (nat_lt (length blocks) 2 ≡ false) × (by_super blocks (super_of (disk_of blocks 1)) ≡ Ok g)
unfolding divided
divided_super blocks g e = by (nat_lt (length blocks) 2) refl e
  where
    by : (short : Bool) → nat_lt (length blocks) 2 ≡ short → ◌≡◌ {A = Result Geometry FaultPlace} (if short then Err (image.BadGeometry, length blocks) else by_super blocks (super_of (disk_of blocks 1))) (Ok g) →
        (nat_lt (length blocks) 2 ≡ false) × (by_super blocks (super_of (disk_of blocks 1)) ≡ Ok g)
    by true is e = absurd (err-ok _ g e)
    by false is e = (is, e)

some_inode_by : (b : List ℕ) (g : Geometry) (magic fine : Bool) → is_divided b ≡ fine →
    ◌≡◌ {A = Result Geometry LayoutFault} (if not magic then Err BadMagic else if not fine then Err BadGeometry else Ok (geometry_of b)) (Ok g) → 0 < g.inodes
some_inode_by b g false fine is e = absurd (err-ok _ g e)
some_inode_by b g true false is e = absurd (err-ok _ g e)
some_inode_by b g true true is e =
    let good = (and_parts (number_at little 2 10 b == 0) (is_consistent (geometry_of b)) is).1 in
    let some = (and_parts (nat_lt 0 (geometry_of b).inodes) _ good).0 in
    subst (λ (g : Geometry). 0 < g.inodes) (same_Ok (geometry_of b) g e) (ltb-true 0 (geometry_of b).inodes some)

some_inode_of : (b : List ℕ) (g : Geometry) → super_of b ≡ Ok g → 0 < g.inodes
unfolding super_of
some_inode_of b g e = some_inode_by b g (is_magic (magic_of b)) (is_divided b) refl e

pub some_inode : (blocks : List (List ℕ)) (g : Geometry) → divided blocks ≡ Ok g → 0 < g.inodes
some_inode blocks g e = some_inode_of (disk_of blocks 1) g (super_by blocks g (super_of (disk_of blocks 1)) (divided_super blocks g e).1)

-- ---- the tree of an image is that of its volume

abbrev tree_by : Geometry → List (List ℕ) → Result Walked Fault → Result (List (ℕ × Node)) FaultPlace
tree_by g volume r = tree_after (by_walk g volume r)

-- a tree, or a fault of the walk as one of its image
abbrev told_tree : Result (List (ℕ × Node)) Fault → Result (List (ℕ × Node)) FaultPlace
told_tree r = elim r as (λ _. Result (List (ℕ × Node)) FaultPlace) [ Ok tree ↦ Ok tree | Err fault ↦ Err (image_fault fault.0, fault.1) ]

tree_there : (g : Geometry) (volume : List (List ℕ)) (tree : List (ℕ × Node)) (r : Result Walked Fault) → walked g volume ≡ r → tree_by g volume r ≡ Ok tree → tree_of g volume ≡ Ok tree
tree_there g volume tree (Ok all) is e =
    let found : tree_of g volume ≡ Ok (put_nodes volume all.nodes []) = ap (tree_found volume) is in
    found ∙ ap Ok (same_Ok (put_nodes volume all.nodes []) tree (sym (ap told_tree found) ∙ e))
tree_there g volume tree (Err fault) is e = absurd (err-ok _ tree e)

tree_back : (g : Geometry) (volume : List (List ℕ)) (tree : List (ℕ × Node)) (r : Result Walked Fault) → walked g volume ≡ r → tree_of g volume ≡ Ok tree → tree_by g volume r ≡ Ok tree
tree_back g volume tree (Ok all) is e = ap told_tree e
tree_back g volume tree (Err fault) is e = absurd (err-ok fault tree (sym (ap (tree_found volume) is) ∙ e))

image_with : (blocks : List (List ℕ)) (tree : List (ℕ × Node)) (g : Geometry) (o : Option FaultPlace) → fault_in_journal g.zones blocks ≡ o → tree_after (by_journal g blocks o) ≡ Ok tree →
    (fault_in_journal g.zones blocks ≡ None) × (tree_of g (volume_in g blocks) ≡ Ok tree)
image_with blocks tree g None is e = (is, tree_there g (volume_in g blocks) tree (walked g (volume_in g blocks)) refl e)
image_with blocks tree g (Some told) is e = absurd (err-ok _ tree e)

image_by : (blocks : List (List ℕ)) (tree : List (ℕ × Node)) (r : Result Geometry FaultPlace) → divided blocks ≡ r → tree_after (by_geometry blocks r) ≡ Ok tree →
    (g : Geometry) × (divided blocks ≡ Ok g) × (fault_in_journal g.zones blocks ≡ None) × (tree_of g (volume_in g blocks) ≡ Ok tree)
image_by blocks tree (Ok g) is e = let x = image_with blocks tree g (fault_in_journal g.zones blocks) refl e in (g, is, x.0, x.1)
image_by blocks tree (Err told) is e = absurd (err-ok _ tree e)

image_of : (blocks : List (List ℕ)) (tree : List (ℕ × Node)) (g : Geometry) → divided blocks ≡ Ok g → fault_in_journal g.zones blocks ≡ None → tree_of g (volume_in g blocks) ≡ Ok tree → image_tree blocks ≡ Ok tree
image_of blocks tree g is fine e =
    ap (λ r. tree_after (by_geometry blocks r)) is ∙ (ap (λ o. tree_after (by_journal g blocks o)) fine ∙ tree_back g (volume_in g blocks) tree (walked g (volume_in g blocks)) refl e)

-- the tree of an image, both ways
pub image_has_tree : (blocks : List (List ℕ)) (tree : List (ℕ × Node)) → (image_tree blocks ≡ Ok tree) ↔ IsImageTree blocks tree
image_has_tree blocks tree = (
  λ e.
      let x = image_by blocks tree (divided blocks) refl e in
      record { geometry = x.0; is_divided = x.1; journal = x.2; tree_is = walked_tree x.0 (volume_in x.0 blocks) tree (some_inode blocks x.0 x.1) x.3 },
  λ h. image_of blocks tree h.geometry h.is_divided h.journal (tree_walked h.geometry (volume_in h.geometry blocks) tree (some_inode blocks h.geometry h.is_divided) h.tree_is),
)

pub one_image_tree : (blocks : List (List ℕ)) (tree other : List (ℕ × Node)) → IsImageTree blocks tree → IsImageTree blocks other → tree ≡ other
one_image_tree blocks tree other h k =
    let same : h.geometry ≡ k.geometry = same_Ok h.geometry k.geometry (sym h.is_divided ∙ k.is_divided) in
    one_tree k.geometry (volume_in k.geometry blocks) tree other (subst (λ g. IsVolumeTree g (volume_in g blocks) tree) same h.tree_is) k.tree_is

-- ---- images with the same metadata

block_below : (blocks : List (List ℕ)) (n b : ℕ) → b < n → disk_of (take n blocks) b ≡ disk_of blocks b
block_below blocks n b low = get_or-take n blocks b (filled 0) low

block_past : (blocks : List (List ℕ)) (n b : ℕ) → n ≤ b → disk_of (take n blocks) b ≡ filled 0
block_past blocks n b high = get_or_past (take n blocks) b (filled 0) (let few = length-take n blocks in omega arith)

-- blocks of lists of one length
get_from : (xs ys : List (List ℕ)) (b : ℕ) → length xs ≡ length ys → disk_of xs b ≡ disk_of ys b → slice_get xs b ≡ slice_get ys b
get_from xs ys b size e =
    ⊎_elim
    (λ low.
    let x = slice_get-in_range xs b low in
    let y = slice_get-in_range ys b (omega (arith, size, low)) in
    x.1 ∙ (ap Some (sym (body_at-some xs b x.0 x.1) ∙ (e ∙ body_at-some ys b y.0 y.1)) ∙ sym y.1))
    (λ high. slice_get-out xs b high ∙ sym (slice_get-out ys b (omega (arith, size, high))))
    (cases_lt b (length xs))

-- two images of one length whose journals have the same bytes
module _ (base : ℕ) (blocks other : List (List ℕ)) (size : length other ≡ length blocks) (first : disk_of other base ≡ disk_of blocks base)
    (journal : has_journal base blocks ≡ true → (b : ℕ) → base ≤ b → disk_of other b ≡ disk_of blocks b) where
  same_found : has_journal base other ≡ has_journal base blocks
  same_found = rw (size, first) refl

  module _ (found : has_journal base blocks ≡ true) where
    same_read : (s : JournalSuper) → log_of base s other ≡ log_of base s blocks
    same_read s = same_log base s other blocks (λ b high. get_from other blocks b size (journal found b high))

    same_fault_by : (r : Result JournalSuper JournalFault) → fault_by base other r ≡ fault_by base blocks r
    same_fault_by (Err fault) = refl
    same_fault_by (Ok s) = rw (size, same_read s) refl

    same_journal_fault : journal_fault base other ≡ journal_fault base blocks
    unfolding journal_fault
    same_journal_fault = ap (λ (b : List ℕ). fault_by base other (journal_super b)) first ∙ same_fault_by (journal_super (disk_of blocks base))

    -- a block before the journal that is the same is recovered to the same
    module _ (b : ℕ) (low : b < base) (same : disk_of other b ≡ disk_of blocks b) where
      emptied_same : (s : JournalSuper) → disk_of (emptied base s other) b ≡ disk_of (emptied base s blocks) b
      emptied_same s =
          let within = ltb-true base (length blocks) (and_parts (nat_lt base (length blocks)) (is_journal (disk_of blocks base)) found).0 in
          let differ : b ≢ base = λ e. omega (arith, low, e) in
          let x = slice_get-in_range blocks b (omega (arith, low, within)) in
          let y : slice_get other b ≡ Some x.0 = get_from other blocks b size same ∙ x.1 in
          let marks = ap (λ (r : Reading). body_after (mark_in r.done b) x.0) (same_read s) in
          body_at-some (emptied base s other) b _ (emptied-at base other s b x.0 differ y) ∙ (marks ∙ sym (body_at-some (emptied base s blocks) b _ (emptied-at base blocks s b x.0 differ x.1)))

      start_same : (s : JournalSuper) (none : Bool) → disk_of (by_start base other s none) b ≡ disk_of (by_start base blocks s none) b
      start_same s true = same
      start_same s false = emptied_same s

      super_same : (r : Result JournalSuper JournalFault) → disk_of (recovery_by base other r) b ≡ disk_of (recovery_by base blocks r) b
      super_same (Err fault) = same
      super_same (Ok s) = start_same s (s.start == 0)

      recovered_same : disk_of (recovered base other) b ≡ disk_of (recovered base blocks) b
      recovered_same =
          let r = journal_super (disk_of blocks base) in
          ap (λ (i : List (List ℕ)). disk_of i b) (recovered_as base other r (ap journal_super first)) ∙ (super_same r ∙ sym (ap (λ (i : List (List ℕ)). disk_of i b) (recovered_as base blocks r refl)))

  same_faults_by : (found : Bool) → has_journal base blocks ≡ found → (if found then option_map as_told (journal_fault base other) else None) ≡ (if found then option_map as_told (journal_fault base blocks) else None)
  same_faults_by true is = ap (option_map as_told) (same_journal_fault is)
  same_faults_by false is = refl

  same_faults : fault_in_journal base other ≡ fault_in_journal base blocks
  same_faults = ap (λ (found : Bool). if found then option_map as_told (journal_fault base other) else None) same_found ∙ same_faults_by (has_journal base blocks) refl

  same_block_by : (b : ℕ) → b < base → disk_of other b ≡ disk_of blocks b → (found : Bool) → has_journal base blocks ≡ found →
      disk_of (if found then recovered base other else other) b ≡ disk_of (if found then recovered base blocks else blocks) b
  same_block_by b low same true is = recovered_same is b low same
  same_block_by b low same false is = same

  same_block : (b : ℕ) → b < base → disk_of other b ≡ disk_of blocks b → disk_of (recovered_from base other) b ≡ disk_of (recovered_from base blocks) b
  same_block b low same = ap (λ (found : Bool). disk_of (if found then recovered base other else other) b) same_found ∙ same_block_by b low same (has_journal base blocks) refl

module _ (g : Geometry) (blocks other : List (List ℕ)) (size : length other ≡ length blocks) (same : AgreeOnImage g blocks other) (is : divided blocks ≡ Ok g) where
  first : disk_of other g.zones ≡ disk_of blocks g.zones
  first = same g.zones (behind refl)

  journal : has_journal g.zones blocks ≡ true → (b : ℕ) → g.zones ≤ b → disk_of other b ≡ disk_of blocks b
  journal found b high = same b (in_journal found high)

  same_volume : AgreeOnMetadata g (volume_in g blocks) (volume_in g other)
  same_volume b m =
      ⊎_elim
      (λ low. block_below (recovered_from g.zones other) g.zones b low ∙ (same_block g.zones blocks other size first journal b low (same b (in_volume m)) ∙ sym (block_below (recovered_from g.zones blocks) g.zones b low)))
      (λ high. block_past (recovered_from g.zones other) g.zones b high ∙ sym (block_past (recovered_from g.zones blocks) g.zones b high))
      (cases_lt b g.zones)

  same_super : disk_of other 1 ≡ disk_of blocks 1
  same_super = same 1 (in_volume (of_volume (omega arith) (omega arith)))

  same_whole : whole_volume other g ≡ whole_volume blocks g
  same_whole = rw size refl

  same_by : (r : Result Geometry LayoutFault) → by_super blocks r ≡ Ok g → by_super other r ≡ Ok g
  same_by (Ok h) e =
      let one : h ≡ g = whole_is blocks h g e in
      subst (λ h. whole_volume blocks h ≡ Ok g → whole_volume other h ≡ Ok g) (sym one) (λ e. same_whole ∙ e) e
  same_by (Err fault) e = absurd (err-ok _ g e)

  same_divided : divided other ≡ Ok g
  unfolding divided
  same_divided =
      let d = divided_super blocks g is in
      let long : nat_lt (length other) 2 ≡ false = subst (λ n. nat_lt n 2 ≡ false) (sym size) d.0 in
      rw (long, same_super) (same_by (super_of (disk_of blocks 1)) d.1)

  -- they have trees that are alike
  pub same_image_trees : (tree : List (ℕ × Node)) → image_tree blocks ≡ Ok tree →
      (changed : List (ℕ × Node)) × (image_tree other ≡ Ok changed) × AreAlike tree changed × ((birth : ℕ) → SameMetadataAtOrNone (at_number tree birth) (at_number changed birth))
  same_image_trees tree e =
      let x = image_by blocks tree (divided blocks) refl e in
      let one : x.0 ≡ g = same_Ok x.0 g (sym x.1 ∙ is) in
      let here : tree_of g (volume_in g blocks) ≡ Ok tree = subst (λ g. tree_of g (volume_in g blocks) ≡ Ok tree) one x.3 in
      let fine : fault_in_journal g.zones blocks ≡ None = subst (λ (h : Geometry). fault_in_journal h.zones blocks ≡ None) one x.2 in
      let y = same_trees g (volume_in g blocks) (volume_in g other) tree (some_inode blocks g is) same_volume here in
      (y.0, image_of other y.0 g same_divided (same_faults g.zones blocks other size first journal ∙ fine) y.1, y.2, y.3)

-- ---- faults of the walk

walk_fault_by : (g : Geometry) (volume : List (List ℕ)) (fault : ImageFault) (block : ℕ) (r : Result Walked Fault) → walked g volume ≡ r → by_walk g volume r ≡ Err (fault, block) →
    (kind : LayoutFault) × (image_fault kind ≡ fault) × (walked g volume ≡ Err (kind, block))
walk_fault_by g volume fault block (Ok all) is e = absurd (err-ok (fault, block) _ (sym e))
walk_fault_by g volume fault block (Err told) is e =
    let same : ◌≡◌ {A = FaultPlace} (image_fault told.0, told.1) (fault, block) = cc in
    (told.0, ap (λ (t : FaultPlace). t.0) same, is ∙ ap (λ block. Err (told.0, block)) (ap (λ (t : FaultPlace). t.1) same))

-- a fault that is told behind the superblock and the journal is the first of the volume, and a defect
pub image_first : (blocks : List (List ℕ)) (g : Geometry) (fault : ImageFault) (block : ℕ) → divided blocks ≡ Ok g → fault_in_journal g.zones blocks ≡ None → mounted blocks ≡ Err (fault, block) →
    (kind : LayoutFault) × (image_fault kind ≡ fault) × IsDefect g (volume_in g blocks) kind block × IsFirstFault g (volume_in g blocks) kind block
image_first blocks g fault block is fine e =
    let here = ap (by_geometry blocks) is ∙ ap (by_journal g blocks) fine in
    let x = walk_fault_by g (volume_in g blocks) fault block (walked g (volume_in g blocks)) refl (sym here ∙ e) in
    let y = walked_first g (volume_in g blocks) x.0 block (some_inode blocks g is) x.2 in
    (x.0, x.1, y.1, y.0)

-- and the first is told
pub image_told : (blocks : List (List ℕ)) (g : Geometry) (kind : LayoutFault) (block : ℕ) → divided blocks ≡ Ok g → fault_in_journal g.zones blocks ≡ None → IsFirstFault g (volume_in g blocks) kind block →
    mounted blocks ≡ Err (image_fault kind, block)
image_told blocks g kind block is fine first =
    ap (by_geometry blocks) is ∙ (ap (by_journal g blocks) fine ∙ ap (by_walk g (volume_in g blocks)) (first_told g (volume_in g blocks) (some_inode blocks g is) kind block first))

-- a fault of the journal is told before it
pub journal_told : (blocks : List (List ℕ)) (g : Geometry) (fault : ImageFault) (block : ℕ) → divided blocks ≡ Ok g → fault_in_journal g.zones blocks ≡ Some (fault, block) → mounted blocks ≡ Err (fault, block)
journal_told blocks g fault block is e = ap (by_geometry blocks) is ∙ ap (by_journal g blocks) e
