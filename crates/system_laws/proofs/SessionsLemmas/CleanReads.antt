-- A program that reads of a clean volume what says that it is clean: what the walk reads, the blocks before the zones, and
-- the first zone of each directory. Another disk of which it gives the same is clean too.
use Rattle.std.specs.Prelude.{◌≡◌, ℕ, ◌<◌, ◌≤◌, ◌⊎◌, Bool, true, false, ◌&&◌, List, [], ◌∷◌, ◌++◌, map, slice_index, refl}
use Rattle.std.specs.List.{filter, range_with_len}
use Rattle.std.proofs.Common.{sym, ap, subst, ◌∙◌, inl, inr, ⊎_elim, arith}
use Rattle.std.proofs.lemmas.Bool.{and_parts, cases_eq, false≢true}
use Rattle.std.proofs.lemmas.List.FromFn.{get_or-map-range_with_len}
use Rattle.blk_base.specs.Block.{filled}
use Rattle.blk_base.specs.Members.{In}
use Rattle.blk_base.specs.laws.Members.{In-append_cases, In-filter, filter-In, In-map, map-In}
use Rattle.minix_tables.specs.inodes.laws.MapLaws.{zone_at-direct}
use Rattle.minix_layout.specs.declared.division.Geometry.{Geometry}
use Rattle.minix_layout.specs.declared.inode.Inode.{Inode}
use Rattle.minix_layout.specs.Geometry.{IsSound}
use Rattle.minix_layout.specs.Bits.{bit_of, has_bit, inode_bit}
use Rattle.volume_ops.specs.Faultless.{IsDirectory, IsReached}
use Rattle.volume_ops.specs.Places.{table_block, inode_in_block, is_directory}
use Rattle.volume_ops.specs.Reads.{Reads, Ret, Read, answer, blocks_read, and_then}
use Rattle.volume_ops.specs.Volume.{disk_of, walked}
use Rattle.volume_ops.specs.VolumeFields.{inode_at}
use Rattle.volume_ops.specs.Walk.{walk_volume}
use Rattle.volume_ops.specs.ZonePlaces as walk
use Rattle.volume_ops.specs.laws.ReadsLaws.{answer-and_then, blocks_read-and_then}
use Rattle.volume_model.specs.Touched.{of_directory}
use Rattle.volume_model.proofs.Nodes.{reached_node, directory_at, zone_is, faultless}
use Rattle.volume_steps.specs.Now.{VolumeNow}
use Rattle.volume_steps.specs.Plain.{IsPlainNow}
use Rattle.volume_steps.proofs.CutStep.{in_range}
use Rattle.volume_steps.proofs.GoneFiles.{in_from}
use Rattle.crash_laws.specs.Volumes.{WalkEnd}
use Rattle.minix_host.specs.Volumes.{is_metadata}
use Rattle.minix_host.proofs.Metadata.{meta_tested, walk_meta}
use Rattle.minix_host.proofs.Standing.{low_meta}
use Rattle.vol_check.specs.Clean.{IsClean}
use Rattle.vol_check.proofs.SameClean.{first_zone_of, table_low, same_clean}

-- ---- a list of blocks

abbrev pub read_all : {A : Type 0} → List ℕ → (List (List ℕ) → Reads A) → Reads A
read_all [] next = next []
read_all (b ∷ bs) next = Read b (λ body. read_all bs (λ bodies. next (body ∷ bodies)))

module _ {A : Type 0} (disk : ℕ → List ℕ) where
  answer_all : (bs : List ℕ) (next : List (List ℕ) → Reads A) → answer disk (read_all bs next) ≡ answer disk (next (map disk bs))
  answer_all [] next = refl
  answer_all (b ∷ bs) next = answer_all bs (λ bodies. next (disk b ∷ bodies))

  reads_all : (bs : List ℕ) (next : List (List ℕ) → Reads A) → blocks_read disk (read_all bs next) ≡ bs ++ blocks_read disk (next (map disk bs))
  reads_all [] next = refl
  reads_all (b ∷ bs) next = ap (λ rest. b ∷ rest) (reads_all bs (λ bodies. next (disk b ∷ bodies)))

-- ---- the program

-- the inode is marked, and is a directory
abbrev is_marked_directory : Geometry → List (List ℕ) → ℕ → Bool
is_marked_directory g low inode = has_bit low (inode_bit g inode) && is_directory (inode_at g low inode).mode

-- the first zones of the directories, by the blocks before the zones
abbrev first_zones : Geometry → List (List ℕ) → List ℕ
first_zones g low = map (λ inode. slice_index (inode_at g low inode).zones 0) (filter (is_marked_directory g low) (range_with_len 1 g.inodes))

-- how the walk ends, the blocks before the zones, and the first zones of the directories
abbrev pub CleanEnd : Type 0
CleanEnd = WalkEnd × List (List ℕ) × List (List ℕ)

abbrev directories_read : Geometry → WalkEnd → List (List ℕ) → Reads CleanEnd
directories_read g end low = read_all (first_zones g low) (λ firsts. Ret (end, low, firsts))

abbrev tables_read : Geometry → WalkEnd → Reads CleanEnd
tables_read g end = read_all (range_with_len 0 g.first) (directories_read g end)

abbrev pub clean_program : Geometry → Reads CleanEnd
clean_program g = and_then (walk_volume g) (tables_read g)

-- the blocks of a disk before the zones
abbrev low_of : Geometry → (ℕ → List ℕ) → List (List ℕ)
low_of g disk = map disk (range_with_len 0 g.first)

module _ (g : Geometry) (disk : ℕ → List ℕ) where
  abbrev end : WalkEnd
  end = answer disk (walk_volume g)

  abbrev low : List (List ℕ)
  low = low_of g disk

  pub answer_is : answer disk (clean_program g) ≡ (end, low, map disk (first_zones g low))
  answer_is =
      answer-and_then disk (walk_volume g) (tables_read g)
      ∙ (answer_all disk (range_with_len 0 g.first) (directories_read g end)
      ∙ answer_all disk (first_zones g low) (λ firsts. Ret (end, low, firsts)))

  reads_are : blocks_read disk (clean_program g) ≡ blocks_read disk (walk_volume g) ++ (range_with_len 0 g.first ++ (first_zones g low ++ []))
  reads_are =
      blocks_read-and_then disk (walk_volume g) (tables_read g)
      ∙ ap (λ rest. blocks_read disk (walk_volume g) ++ rest)
      (reads_all disk (range_with_len 0 g.first) (directories_read g end)
      ∙ ap (λ rest. range_with_len 0 g.first ++ rest) (reads_all disk (first_zones g low) (λ firsts. Ret (end, low, firsts))))

  -- each block that it reads is read by the walk, or lies before the zones, or is such a first zone
  read_by : (b : ℕ) → In b (blocks_read disk (clean_program g)) → In b (blocks_read disk (walk_volume g)) ⊎ (b < g.first) ⊎ In b (first_zones g low)
  read_by b i =
      ⊎_elim
      inl
      (λ rest.
      ⊎_elim
      (λ before. inr (inl (let high = (in_range 0 g.first b before).1 in omega (arith, high))))
      (λ last. ⊎_elim (λ first. inr (inr first)) (λ none. absurd none) (In-append_cases (first_zones g low) [] b last))
      (In-append_cases (range_with_len 0 g.first) (first_zones g low ++ []) b rest))
      (In-append_cases (blocks_read disk (walk_volume g)) (range_with_len 0 g.first ++ (first_zones g low ++ [])) b (subst (λ bs. In b bs) reads_are i))

  low_at : (b : ℕ) → b < g.first → disk_of low b ≡ disk b
  low_at b less = get_or-map-range_with_len disk 0 g.first b b (filled 0) less (omega arith)

-- ---- what it reads of a clean volume

head_same : {X : Type 0} (x y : X) (xs ys : List X) → x ∷ xs ≡ y ∷ ys → x ≡ y
head_same x y xs ys e = cc

tail_same : {X : Type 0} (x y : X) (xs ys : List X) → x ∷ xs ≡ y ∷ ys → xs ≡ ys
tail_same x y xs ys e = cc

both_true : (a b : Bool) → a ≡ true → b ≡ true → (a && b) ≡ true
both_true true b e d = d
both_true false b e d = absurd (false≢true e)

same_mapped : {X : Type 0} (f h : ℕ → X) (bs : List ℕ) → map f bs ≡ map h bs → (b : ℕ) → In b bs → f b ≡ h b
same_mapped f h [] e b i = absurd i
same_mapped f h (a ∷ bs) e b (inl is) = subst (λ b. f b ≡ h b) is (head_same (f a) (h a) (map f bs) (map h bs) e)
same_mapped f h (a ∷ bs) e b (inr i) = same_mapped f h bs (tail_same (f a) (h a) (map f bs) (map h bs) e) b i

module _ (v : VolumeNow) (h : IsPlainNow v) (clean : IsClean v.geometry v.contents.blocks) where
  abbrev g : Geometry
  g = v.geometry

  abbrev blocks : List (List ℕ)
  blocks = v.contents.blocks

  abbrev tables : List (List ℕ)
  tables = low_of g (disk_of blocks)

  sound : IsSound g
  sound = h.in_use.sound

  bit_there : (inode : ℕ) → inode ≤ g.inodes → has_bit tables (inode_bit g inode) ≡ has_bit blocks (inode_bit g inode)
  bit_there inode high =
      let bits = sound.inode_bits in
      let below = sound.tables_below in
      ap (λ body. bit_of body (inode_bit g inode).at) (low_at g (disk_of blocks) (inode_bit g inode).block (omega (arith, high, bits, below)))

  inode_there : (inode : ℕ) → inode ≤ g.inodes → inode_at g tables inode ≡ inode_at g blocks inode
  inode_there inode high = ap (inode_in_block inode) (low_at g (disk_of blocks) (table_block g inode) (let low = table_low g sound.some_inode inode high in let below = sound.tables_below in omega (arith, low, below)))

  first_there : (inode : ℕ) → inode ≤ g.inodes → slice_index (inode_at g tables inode).zones 0 ≡ first_zone_of g blocks inode
  first_there inode high = ap (λ (i : Inode). slice_index i.zones 0) (inode_there inode high) ∙ sym (zone_at-direct _ (inode_at g blocks inode).zones 0 (omega arith))

  -- a directory that names lead to is marked
  marked_there : (inode : ℕ) → 1 ≤ inode → inode ≤ g.inodes → IsReached g blocks inode → IsDirectory g blocks inode → is_marked_directory g tables inode ≡ true
  marked_there inode some high led directory =
      both_true (has_bit tables (inode_bit g inode)) (is_directory (inode_at g tables inode).mode) (bit_there inode high ∙ (clean.inode_bits inode some high).1 led)
      (ap (λ (i : Inode). is_directory i.mode) (inode_there inode high) ∙ directory)

  zone_meta : (inode b : ℕ) → IsReached g blocks inode → IsDirectory g blocks inode → first_zone_of g blocks inode ≡ b → is_metadata v b ≡ true
  zone_meta inode b led directory is =
      ⊎_elim
      (λ none. low_meta v h b (let below = sound.tables_below in omega (arith, none, below)))
      (λ some.
      let x = reached_node g v.contents h.plain led in
      let d = directory_at g v.contents h.plain x directory in
      meta_tested v h b (of_directory x.birth x.node d.0 0 x.stands d.1 (sym (zone_is g v.contents h.plain x (walk.block 0)) ∙ is) some))
      (cases_eq b 0)

  first_meta : (b : ℕ) → In b (first_zones g tables) → is_metadata v b ≡ true
  first_meta b i =
      let x = In-map (λ inode. slice_index (inode_at g tables inode).zones 0) (filter (is_marked_directory g tables) (range_with_len 1 g.inodes)) b i in
      let y = In-filter (is_marked_directory g tables) (range_with_len 1 g.inodes) x.0 x.1 in
      let range = in_range 1 g.inodes x.0 y.0 in
      let low = range.0 in
      let past = range.1 in
      let high : x.0 ≤ g.inodes = omega (arith, past) in
      let both = and_parts (has_bit tables (inode_bit g x.0)) (is_directory (inode_at g tables x.0).mode) y.1 in
      let led = (clean.inode_bits x.0 low high).0 (sym (bit_there x.0 high) ∙ both.0) in
      let directory : IsDirectory g blocks x.0 = ap (λ (i : Inode). is_directory i.mode) (sym (inode_there x.0 high)) ∙ both.1 in
      zone_meta x.0 b led directory (sym (first_there x.0 high) ∙ x.2)

  pub reads_meta : (b : ℕ) → In b (blocks_read (disk_of blocks) (clean_program g)) → is_metadata v b ≡ true
  reads_meta b i = ⊎_elim (walk_meta v h b) (⊎_elim (low_meta v h b) (first_meta b)) (read_by g (disk_of blocks) b i)

  -- ---- another disk of which it gives the same

  module _ (other : List (List ℕ)) (same : answer (disk_of blocks) (clean_program g) ≡ answer (disk_of other) (clean_program g)) where
    parts : ◌≡◌ {A = CleanEnd}
        (answer (disk_of blocks) (walk_volume g), tables, map (disk_of blocks) (first_zones g tables))
        (answer (disk_of other) (walk_volume g), low_of g (disk_of other), map (disk_of other) (first_zones g (low_of g (disk_of other))))
    parts = sym (answer_is g (disk_of blocks)) ∙ (same ∙ answer_is g (disk_of other))

    same_walk : walked g other ≡ walked g blocks
    unfolding walked
    same_walk = sym (ap (λ (e : CleanEnd). e.0) parts)

    same_tables : low_of g (disk_of other) ≡ tables
    same_tables = sym (ap (λ (e : CleanEnd). e.1) parts)

    table_same : (b : ℕ) → b < g.first → disk_of other b ≡ disk_of blocks b
    table_same b less = same_mapped (disk_of other) (disk_of blocks) (range_with_len 0 g.first) same_tables b (in_from 0 g.first b (omega arith) (omega (arith, less)))

    same_firsts : map (disk_of other) (first_zones g tables) ≡ map (disk_of blocks) (first_zones g tables)
    same_firsts = ap (λ low. map (disk_of other) (first_zones g low)) (sym same_tables) ∙ sym (ap (λ (e : CleanEnd). e.2) parts)

    first_same : (inode : ℕ) → 1 ≤ inode → inode ≤ g.inodes → IsReached g blocks inode → IsDirectory g blocks inode →
        disk_of other (first_zone_of g blocks inode) ≡ disk_of blocks (first_zone_of g blocks inode)
    first_same inode some high led directory =
        let there = filter-In (is_marked_directory g tables) (range_with_len 1 g.inodes) inode (in_from 1 g.inodes inode some (omega (arith, high))) (marked_there inode some high led directory) in
        let listed = map-In (λ inode. slice_index (inode_at g tables inode).zones 0) (filter (is_marked_directory g tables) (range_with_len 1 g.inodes)) inode there in
        same_mapped (disk_of other) (disk_of blocks) (first_zones g tables) same_firsts (first_zone_of g blocks inode) (subst (λ z. In z (first_zones g tables)) (first_there inode high) listed)

    pub other_clean : IsClean g other
    other_clean = same_clean g sound blocks other (faultless g v.contents h.plain) same_walk
        (λ b low high. table_same b (let below = sound.tables_below in omega (arith, high, below)))
        (λ inode some high led directory has. first_same inode some high led directory) clean
