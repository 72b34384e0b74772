-- Whether a volume is clean is said by its walk, by the blocks before its zones, and by the first zone of each directory.
use Rattle.std.specs.Prelude.{◌≡◌, ◌≢◌, ℕ, ◌+◌, ◌/◌, ◌<◌, ◌≤◌, zero, suc, true, cond, is_some, List, [], ◌∷◌, Option, Some, None, Ok, option_map, unwrap_or, refl}
use Rattle.std.specs.List.{sum_by}
use Rattle.std.proofs.Common.{sym, ap, subst, ◌∙◌, ⊎_elim, arith}
use Rattle.std.proofs.lemmas.Bool.{false≢true, cases_eq, eq-eqb}
use Rattle.std.proofs.lemmas.Grind.{div_ceil_times}
use Rattle.std.proofs.lemmas.List.Sums.{sum_by-cons}
use Rattle.std.proofs.lemmas.Option.{none-some, same_Some}
use Rattle.minix_layout.specs.Widths.{slot_size, slots_a_block}
use Rattle.minix_layout.specs.declared.division.Geometry.{Geometry}
use Rattle.minix_layout.specs.declared.inode.Inode.{Inode}
use Rattle.minix_layout.specs.declared.bits.BitPlace.{BitPlace}
use Rattle.minix_layout.specs.Geometry.{IsSound}
use Rattle.minix_layout.specs.Bits.{bit_of, has_bit, inode_bit, zone_bit}
use Rattle.minix_tables.specs.inodes.laws.MapLaws.{zone_at-direct}
use Rattle.tree_model.specs.declared.node.Node.{Node}
use Rattle.tree_model.specs.declared.node.Node.TheVariants as nodes
use Rattle.tree_model.specs.declared.node.Directory.{Directory}
use Rattle.tree_model.specs.declared.node.File.{File}
use Rattle.tree_model.specs.Maps.{at_number}
use Rattle.tree_model.specs.Plain.{names_in_node, names_to}
use Rattle.tree_model.specs.Trees.{is_directory, directory_links}
use Rattle.volume_ops.specs.declared.found.Found.{Found}
use Rattle.volume_ops.specs.declared.found.Found.TheVariants as found
use Rattle.volume_ops.specs.declared.found.FoundNode.{FoundNode}
use Rattle.volume_ops.specs.Places.{table_block, inode_in_block, birth_of, inode_of_birth}
use Rattle.volume_ops.specs.Volume.{disk_of, walked, node_of, put_nodes, tree_found}
use Rattle.volume_ops.specs.VolumeFields.{inode_at, zone_behind, slot_behind}
use Rattle.volume_ops.specs.VolumeTrees.{IsVolumeTree}
use Rattle.volume_ops.specs.Walk.{Walked}
use Rattle.volume_ops.specs.Faultless.{IsUsed, IsFaultless, IsReached, IsDirectory}
use Rattle.volume_ops.specs.Metadata.{table_end}
use Rattle.volume_ops.proofs.TreeUnique.{walked_tree}
use Rattle.volume_ops.proofs.WalkTests.{faultless_walked, walked_used}
use Rattle.vol_check.specs.Clean.{IsClean}
use Rattle.vol_check.specs.CleanTrees.{AgreesWith}
use Rattle.vol_check.specs.code.Births.{last_at}
use Rattle.vol_check.specs.code.Names.{names_by, names_below}
use Rattle.vol_check.proofs.CleanTrees.{clean_by_tree}
use Rattle.vol_check.proofs.NameSums.{names_are_below}
use Rattle.vol_check.proofs.Reached.{birth_reached, birth_within, reached_some, reached_within}
use Rattle.vol_check.proofs.Tables.{last_stands}

sum_same : {X : Type 0} (f h : X → ℕ) → ((x : X) → f x ≡ h x) → (xs : List X) → sum_by f xs ≡ sum_by h xs
sum_same f h same [] = refl
sum_same f h same (x ∷ xs) =
    let here = same x in
    let rest = sum_same f h same xs in
    let one = sum_by-cons f x xs in
    let two = sum_by-cons h x xs in
    omega (arith, here, rest, one, two)

-- the first zone of a directory
abbrev pub first_zone_of : Geometry → List (List ℕ) → ℕ → ℕ
first_zone_of g blocks inode = zone_behind blocks (inode_at g blocks inode) 0

-- the block of the table that has an inode lies before the end of the table
pub table_low : (g : Geometry) → 0 < g.inodes → (inode : ℕ) → inode ≤ g.inodes → table_block g inode < table_end g
table_low g some inode low = let ceil = div_ceil_times g.inodes 32 (omega arith) in omega (arith, low, some, ceil.0)

module _ (g : Geometry) (sound : IsSound g) (blocks other : List (List ℕ)) (faultless : IsFaultless g blocks) (walk : walked g other ≡ walked g blocks)
    (tables : (b : ℕ) → 1 ≤ b → b < table_end g → disk_of other b ≡ disk_of blocks b)
    (firsts : (inode : ℕ) → 1 ≤ inode → inode ≤ g.inodes → IsReached g blocks inode → IsDirectory g blocks inode → first_zone_of g blocks inode ≢ 0 → disk_of other (first_zone_of g blocks inode) ≡ disk_of blocks (first_zone_of g blocks inode)) where
  some : 0 < g.inodes
  some = sound.some_inode

  met : (all : Walked) × (walked g blocks ≡ Ok all)
  met = faultless_walked g blocks some faultless

  met_there : walked g other ≡ Ok met.0
  met_there = walk ∙ met.1

  abbrev was : List (ℕ × Node)
  was = put_nodes blocks met.0.nodes []

  abbrev now : List (ℕ × Node)
  now = put_nodes other met.0.nodes []

  was_stands : IsVolumeTree g blocks was
  was_stands = walked_tree g blocks was some (ap (tree_found blocks) met.1)

  now_stands : IsVolumeTree g other now
  now_stands = walked_tree g other now some (ap (tree_found other) met_there)

  -- ---- both trees are of the same nodes

  abbrev node_at : ℕ → Option FoundNode
  node_at birth = last_at met.0.nodes birth None

  was_at : (birth : ℕ) → option_map (λ n. node_of blocks n.found) (node_at birth) ≡ at_number was birth
  was_at birth = last_stands blocks met.0.nodes [] birth None refl

  now_at : (birth : ℕ) → option_map (λ n. node_of other n.found) (node_at birth) ≡ at_number now birth
  now_at birth = last_stands other met.0.nodes [] birth None refl

  -- what is said of a node but for the bytes of its file
  same_by : {Y : Type 0} (f : Option Node → Y) → ((x : Found) → f (Some (node_of blocks x)) ≡ f (Some (node_of other x))) → (birth : ℕ) → f (at_number was birth) ≡ f (at_number now birth)
  same_by f same birth = ap f (sym (was_at birth)) ∙ (by (node_at birth) ∙ ap f (now_at birth))
    where
      by : (o : Option FoundNode) → f (option_map (λ n. node_of blocks n.found) o) ≡ f (option_map (λ n. node_of other n.found) o)
      by None = refl
      by (Some n) = same n.found

  same_directory : (birth : ℕ) → is_directory (at_number was birth) ≡ is_directory (at_number now birth)
  same_directory = same_by is_directory by
    where
      by : (x : Found) → is_directory (Some (node_of blocks x)) ≡ is_directory (Some (node_of other x))
      by (found.Directory d) = refl
      by (found.File f) = refl
      by (found.Other mode) = refl

  same_names : (c birth : ℕ) → names_by was birth c ≡ names_by now birth c
  same_names c = same_by (λ o. unwrap_or (option_map (names_in_node c) o) 0) by
    where
      by : (x : Found) → names_in_node c (node_of blocks x) ≡ names_in_node c (node_of other x)
      by (found.Directory d) = refl
      by (found.File f) = refl
      by (found.Other mode) = refl

  abbrev directory_in : Option Node → Option Directory
  directory_in (Some (nodes.Directory d)) = Some d
  directory_in o = None

  abbrev links_of : Option Node → Option ℕ
  links_of (Some (nodes.File f)) = Some f.links
  links_of o = None

  abbrev mode_of : Option Node → Option ℕ
  mode_of (Some (nodes.Other mode)) = Some mode
  mode_of o = None

  same_directory_in : (birth : ℕ) → directory_in (at_number was birth) ≡ directory_in (at_number now birth)
  same_directory_in = same_by directory_in by
    where
      by : (x : Found) → directory_in (Some (node_of blocks x)) ≡ directory_in (Some (node_of other x))
      by (found.Directory d) = refl
      by (found.File f) = refl
      by (found.Other mode) = refl

  same_links_of : (birth : ℕ) → links_of (at_number was birth) ≡ links_of (at_number now birth)
  same_links_of = same_by links_of by
    where
      by : (x : Found) → links_of (Some (node_of blocks x)) ≡ links_of (Some (node_of other x))
      by (found.Directory d) = refl
      by (found.File f) = refl
      by (found.Other mode) = refl

  same_mode_of : (birth : ℕ) → mode_of (at_number was birth) ≡ mode_of (at_number now birth)
  same_mode_of = same_by mode_of by
    where
      by : (x : Found) → mode_of (Some (node_of blocks x)) ≡ mode_of (Some (node_of other x))
      by (found.Directory d) = refl
      by (found.File f) = refl
      by (found.Other mode) = refl

  directory_back : (o : Option Node) (d : Directory) → directory_in o ≡ Some d → o ≡ Some (nodes.Directory d)
  directory_back (Some (nodes.Directory e)) d is = ap (λ d. Some (nodes.Directory d)) (same_Some e d is)
  directory_back (Some (nodes.File f)) d is = absurd (none-some d is)
  directory_back (Some (nodes.Other mode)) d is = absurd (none-some d is)
  directory_back None d is = absurd (none-some d is)

  file_back : (o : Option Node) (links : ℕ) → links_of o ≡ Some links → (f : File) × (o ≡ Some (nodes.File f)) × (f.links ≡ links)
  file_back (Some (nodes.File f)) links is = (f, refl, same_Some f.links links is)
  file_back (Some (nodes.Directory d)) links is = absurd (none-some links is)
  file_back (Some (nodes.Other mode)) links is = absurd (none-some links is)
  file_back None links is = absurd (none-some links is)

  other_back : (o : Option Node) (mode : ℕ) → mode_of o ≡ Some mode → o ≡ Some (nodes.Other mode)
  other_back (Some (nodes.Other m)) mode is = ap (λ m. Some (nodes.Other m)) (same_Some m mode is)
  other_back (Some (nodes.Directory d)) mode is = absurd (none-some mode is)
  other_back (Some (nodes.File f)) mode is = absurd (none-some mode is)
  other_back None mode is = absurd (none-some mode is)

  names_same : (c : ℕ) → names_to was c ≡ names_to now c
  names_same c =
      sym (names_are_below (g.inodes + 1) was c was_stands.rooted.in_order (λ birth node at. let low = birth_within g blocks was was_stands some birth node at in omega (arith, low)))
      ∙ (below (g.inodes + 1)
      ∙ names_are_below (g.inodes + 1) now c now_stands.rooted.in_order (λ birth node at. let low = birth_within g other now now_stands some birth node at in omega (arith, low)))
    where
      below : (n : ℕ) → names_below was n c ≡ names_below now n c
      below zero = refl
      below (suc n) = let rest = below n in let here = same_names c n in omega (arith, rest, here)

  links_same : (d : Directory) → directory_links was d ≡ directory_links now d
  links_same d = ap (λ n. 2 + n) (sum_same (λ e. cond (is_directory (at_number was e.1)) 1 0) (λ e. cond (is_directory (at_number now e.1)) 1 0) (λ e. ap (λ b. cond b 1 0) (same_directory e.1)) d.names)

  -- ---- the same bytes

  inode_same : (inode : ℕ) → inode ≤ g.inodes → inode_at g other inode ≡ inode_at g blocks inode
  inode_same inode low = ap (inode_in_block inode) (tables (table_block g inode) (omega arith) (table_low g some inode low))

  bit_same : (p : BitPlace) → 2 ≤ p.block → p.block < 2 + g.imap + g.zmap → has_bit other p ≡ has_bit blocks p
  bit_same p low high = ap (λ body. bit_of body p.at) (tables p.block (omega (arith, low)) (omega (arith, high)))

  inode_bit_same : (inode : ℕ) → inode ≤ g.inodes → has_bit other (inode_bit g inode) ≡ has_bit blocks (inode_bit g inode)
  inode_bit_same inode low = let bits = sound.inode_bits in bit_same (inode_bit g inode) (omega arith) (omega (arith, low, bits))

  zone_bit_same : (zone : ℕ) → g.first ≤ zone → zone < g.zones → has_bit other (zone_bit g zone) ≡ has_bit blocks (zone_bit g zone)
  zone_bit_same zone low high = let bits = sound.zone_bits in bit_same (zone_bit g zone) (omega arith) (omega (arith, low, high, bits))

  used_was : (zone : ℕ) → IsUsed g other zone → IsUsed g blocks zone
  used_was zone used = (walked_used g blocks met.0 some met.1 zone).0 ((walked_used g other met.0 some met_there zone).1 used)

  used_now : (zone : ℕ) → IsUsed g blocks zone → IsUsed g other zone
  used_now zone used = (walked_used g other met.0 some met_there zone).0 ((walked_used g blocks met.0 some met.1 zone).1 used)

  -- a slot of the first block of a directory
  module _ (inode k : ℕ) (led : IsReached g blocks inode) (directory : IsDirectory g blocks inode) (few : k < 32) (low : inode ≤ g.inodes) where
    abbrev i : Inode
    i = inode_at g blocks inode

    abbrev zone : ℕ
    zone = zone_behind blocks i (k / slots_a_block g.width)

    first : k / slots_a_block g.width ≡ 0
    first = grind (arith, few)

    zone_same : zone_behind other i (k / slots_a_block g.width) ≡ zone
    zone_same = ap (zone_behind other i) first ∙ (zone_at-direct _ i.zones 0 (omega arith) ∙ (sym (zone_at-direct _ i.zones 0 (omega arith)) ∙ ap (zone_behind blocks i) (sym first)))

    hole : zone ≡ 0 → slot_behind g other i k ≡ slot_behind g blocks i k
    hole none =
        let there : zone_behind other i (k / slots_a_block g.width) ≡ 0 = zone_same ∙ none in
        rw (eq-eqb (zone_behind other i (k / slots_a_block g.width)) 0 there, eq-eqb zone 0 none) refl

    mapped : (zone ≡ 0 → ⊥) → slot_behind g other i k ≡ slot_behind g blocks i k
    mapped has =
        let at : zone ≡ first_zone_of g blocks inode = ap (zone_behind blocks i) first in
        let body = ap (disk_of other) at ∙ (firsts inode (let some = reached_some g blocks led in omega (arith, some)) low led directory (λ none. has (at ∙ none)) ∙ ap (disk_of blocks) (sym at)) in
        rw (zone_same, body) refl

    slot_same : slot_behind g other (inode_at g other inode) k ≡ slot_behind g blocks (inode_at g blocks inode) k
    slot_same = ap (λ i. slot_behind g other i k) (inode_same inode low) ∙ ⊎_elim hole mapped (cases_eq zone 0)

  -- ---- clean stays clean

  pub same_clean : IsClean g blocks → IsClean g other
  same_clean clean = (clean_by_tree g other now some now_stands).1 (record {
    inode_bits = λ inode low high.
        let bit = agrees.inode_bits inode low high in
        let same = inode_bit_same inode high in (
          λ t. node_now (birth_of inode) (bit.0 (sym same ∙ t)),
          λ node. same ∙ bit.1 (node_was (birth_of inode) node),
        );
    used_zones = λ zone low high used. zone_bit_same zone low high ∙ agrees.used_zones zone low high (used_was zone used);
    unused_zones = λ zone low high none no.
        zone_bit_same zone low high
        ∙ agrees.unused_zones zone low high (λ used. none (used_now zone used)) (λ other. no (other.0, other.1, other_back (at_number now other.0) other.1 (sym (same_mode_of other.0) ∙ ap mode_of other.2)));
    directories = λ birth d at.
        let there = directory_back (at_number was birth) d (same_directory_in birth ∙ ap directory_in at) in
        ap (λ (i : Inode). i.links) (inode_same (inode_of_birth birth) (within birth (nodes.Directory d) there)) ∙ (agrees.directories birth d there ∙ links_same d);
    files = λ birth f at.
        let there = file_back (at_number was birth) f.links (same_links_of birth ∙ ap links_of at) in
        sym there.2 ∙ (agrees.files birth there.0 there.1 ∙ names_same birth);
    others = λ birth mode at.
        let there = other_back (at_number was birth) mode (same_mode_of birth ∙ ap mode_of at) in
        ap (λ (i : Inode). i.links) (inode_same (inode_of_birth birth) (within birth (nodes.Other mode) there)) ∙ (agrees.others birth mode there ∙ names_same birth);
    dots = λ birth d at.
        let there = directory_back (at_number was birth) d (same_directory_in birth ∙ ap directory_in at) in
        let inode = inode_of_birth birth in
        let low = within birth (nodes.Directory d) there in
        let led = birth_reached g blocks was was_stands birth (nodes.Directory d) there in
        let kind = (was_stands.fields.each birth (nodes.Directory d) there).kind in
        let lead = agrees.dots birth d there in
        record {
          two = subst (λ (i : Inode). 2 ≤ i.size / slot_size g.width) (sym (inode_same inode low)) lead.two;
          here = slot_same inode 0 led kind (omega arith) low ∙ lead.here;
          above = slot_same inode 1 led kind (omega arith) low ∙ lead.above;
        };
  })
    where
      agrees : AgreesWith g blocks was
      agrees = (clean_by_tree g blocks was some was_stands).0 clean

      within : (birth : ℕ) (node : Node) → at_number was birth ≡ Some node → inode_of_birth birth ≤ g.inodes
      within birth node at = reached_within g blocks faultless some (birth_reached g blocks was was_stands birth node at)

      there_by : (o : Option Node) → is_some o ≡ true → (node : Node) × (o ≡ Some node)
      there_by (Some node) t = (node, refl)
      there_by None t = absurd (false≢true t)

      node_now : (birth : ℕ) → ((node : Node) × (at_number was birth ≡ Some node)) → (node : Node) × (at_number now birth ≡ Some node)
      node_now birth node = there_by (at_number now birth) (sym (same_by is_some (λ x. refl) birth) ∙ ap is_some node.1)

      node_was : (birth : ℕ) → ((node : Node) × (at_number now birth ≡ Some node)) → (node : Node) × (at_number was birth ≡ Some node)
      node_was birth node = there_by (at_number was birth) (same_by is_some (λ x. refl) birth ∙ ap is_some node.1)
