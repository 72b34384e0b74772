-- What the nodes of a plain volume that changes say of its blocks: what names lead to, and that it has no fault.
use Rattle.std.specs.Prelude.{◌≡◌, ℕ, ◌/◌, ◌%◌, ◌<◌, ◌≤◌, true, List, [], ◌∷◌, length, Option, Some, Ok, refl, ◌⊎◌}
use Rattle.std.specs.List.{slice_get}
use Rattle.std.specs.BTreeMap.{is_at}
use Rattle.std.specs.Ordering.{nat_cmp}
use Rattle.std.proofs.Common.{sym, ap, subst, ◌∙◌, inl, inr, arith}
use Rattle.std.proofs.lemmas.Bool.{cases_Bool, eqb-true, ne_eqb}
use Rattle.std.proofs.lemmas.Option.{none-some, same_Some}
use Rattle.blk_base.specs.laws.Members.{slice_get-in_range}
use Rattle.minix_layout.specs.laws.Places.{form_is, bytes_of_slots, bytes_few, whole_slots}
use Rattle.minix_layout.specs.Widths.{slot_size, slots_a_block}
use Rattle.minix_layout.specs.declared.division.Geometry.{Geometry}
use Rattle.minix_layout.specs.declared.inode.Inode.{Inode}
use Rattle.minix_layout.specs.declared.slot.Slot.{Slot}
use Rattle.tree_model.specs.declared.node.Node.{Node}
use Rattle.tree_model.specs.declared.node.Node.TheVariants as nodes
use Rattle.tree_model.specs.declared.node.Directory.{Directory}
use Rattle.tree_model.specs.Maps.{at_number, at_name}
use Rattle.tree_model.specs.Rooted.{HasEntry}
use Rattle.volume_ops.specs.laws.ReadsLaws.{same_Ok}
use Rattle.volume_ops.specs.declared.found.Mapped.{Mapped}
use Rattle.volume_ops.specs.Places.{largest_size, is_directory, is_file}
use Rattle.volume_ops.specs.VolumeFields.{inode_at, slot_behind}
use Rattle.volume_ops.specs.ZonePlaces.{ZonePlace, zone_in as zone_walked}
use Rattle.volume_ops.specs.Faultless.{IsDirectory, IsFile, HasZones, zone_at_place, slots_of, IsEntryAt, NamesAt, IsReached, at_root, by_name, IsFaultless}
use Rattle.volume_model.specs.declared.placed.Placed.{Placed}
use Rattle.volume_model.specs.declared.placed.Part.{Part}
use Rattle.volume_model.specs.declared.placed.Part.TheVariants as parts
use Rattle.volume_model.specs.declared.placed.DirectoryPart.{DirectoryPart}
use Rattle.volume_model.specs.Volume.{zone_in, IsDirectoryPart, IsFilePart, IsPart, IsStored, HasNumber}
use Rattle.volume_model.specs.Touched.{Contents}
use Rattle.volume_model.specs.Trees.{directory_from, node_from, node_now, tree_now}
use Rattle.volume_model.specs.Plain.{IsPlainContents}
use Rattle.volume_model.specs.laws.Trees.{seen_by, seen_at}
use Rattle.volume_model.proofs.Places.{from_walk, one_from_walk, zone_from_walk}

-- ---- parts of nodes

pub no_directory_file : (mode : ℕ) → is_directory mode ≡ true → is_file mode ≡ true → ⊥
no_directory_file mode d f = let four = eqb-true (mode / 4096) 4 d in let eight = eqb-true (mode / 4096) 8 f in omega arith

-- an inode of a directory has the part of one
pub as_directory : (g : Geometry) (blocks : List (List ℕ)) (i : Inode) (part : Part) → IsPart g blocks i part → is_directory i.mode ≡ true → (d : DirectoryPart) × (part ≡ parts.Directory d) × IsDirectoryPart g blocks i d
as_directory g blocks i (parts.Directory d) h kind = (d, refl, h)
as_directory g blocks i (parts.File zones) h kind = absurd (no_directory_file i.mode kind h.kind)

pub as_file : (g : Geometry) (blocks : List (List ℕ)) (i : Inode) (part : Part) → IsPart g blocks i part → is_file i.mode ≡ true → (zones : List Mapped) × (part ≡ parts.File zones) × IsFilePart blocks i zones
as_file g blocks i (parts.Directory d) h kind = absurd (no_directory_file i.mode h.kind kind)
as_file g blocks i (parts.File zones) h kind = (zones, refl, h)

-- a node is a directory or a file
pub kind_of : (g : Geometry) (blocks : List (List ℕ)) (i : Inode) (part : Part) → IsPart g blocks i part → (is_directory i.mode ≡ true) ⊎ (is_file i.mode ≡ true)
kind_of g blocks i (parts.Directory d) h = inl h.kind
kind_of g blocks i (parts.File zones) h = inr h.kind

abbrev part_directory : Part → DirectoryPart → DirectoryPart
part_directory (parts.Directory d) e = d
part_directory (parts.File zones) e = e

pub same_directory : (d e : DirectoryPart) → parts.Directory d ≡ parts.Directory e → d ≡ e
same_directory d e same = ap (λ part. part_directory part d) same

-- slots are read as they stand
pub slot_read : (g : Geometry) (blocks : List (List ℕ)) (i : Inode) (d : DirectoryPart) → IsDirectoryPart g blocks i d → (k : ℕ) (s : Option Slot) → slice_get d.slots k ≡ Some s → slot_behind g blocks i k ≡ Ok s
slot_read g blocks i d part k s at = let x = part.slots k s at in rw (ne_eqb _ _ x.mapped) x.stands

pub entry_got : (g : Geometry) (blocks : List (List ℕ)) (i : Inode) (d : DirectoryPart) → IsDirectoryPart g blocks i d → (place : ℕ) (slot : Slot) → IsEntryAt g blocks i place slot → slice_get d.slots place ≡ Some (Some slot)
entry_got g blocks i d part place slot e =
    let many : i.size / slot_size g.width ≡ length d.slots = ap (λ n. n / slot_size g.width) part.size ∙ bytes_of_slots (slot_size g.width) (slots_a_block g.width) (form_is g.width) (length d.slots) in
    let low : place < length d.slots = (let below = e.below in omega arith) in
    let x = slice_get-in_range d.slots place low in
    x.1 ∙ ap Some (same_Ok x.0 (Some slot) (sym (slot_read g blocks i d part place x.0 x.1) ∙ e.stands))

-- ---- the tree of a volume at a birth

pub tree_at : (blocks : List (List ℕ)) (placed : List (ℕ × Placed)) (b : ℕ) (p : Placed) → at_number placed b ≡ Some p → at_number (tree_now blocks placed) b ≡ Some (node_now blocks p)
unfolding tree_now
tree_at blocks placed b p at = seen_at (node_now blocks) placed b p at

seen_back : {X Y : Type 0} (f : X → Y) (es : List (ℕ × X)) (k : ℕ) (y : Y) → at_number (seen_by f es) k ≡ Some y → (x : X) × (at_number es k ≡ Some x) × (f x ≡ y)
seen_back f [] k y h = absurd (none-some y h)
seen_back f (e ∷ es) k y h =
    elim (cases_Bool (is_at (nat_cmp k) e.0)) [
      | inl t ↦ (e.1, rw t refl, same_Some (f e.1) y (rw t at h))
      | inr u ↦ (let x = seen_back f es k y (rw u at h) in (x.0, rw u x.1, x.2))
    ]

pub tree_back : (blocks : List (List ℕ)) (placed : List (ℕ × Placed)) (b : ℕ) (n : Node) → at_number (tree_now blocks placed) b ≡ Some n → (p : Placed) × (at_number placed b ≡ Some p) × (node_now blocks p ≡ n)
unfolding tree_now
tree_back blocks placed b n at = seen_back (node_now blocks) placed b n at

pub tree_directory : (blocks : List (List ℕ)) (placed : List (ℕ × Placed)) (b : ℕ) (p : Placed) (d : DirectoryPart) → at_number placed b ≡ Some p → p.part ≡ parts.Directory d →
    at_number (tree_now blocks placed) b ≡ Some (nodes.Directory (directory_from d))
tree_directory blocks placed b p d at is = tree_at blocks placed b p at ∙ ap (λ part. Some (node_from blocks p.inode part)) is

abbrev directory_of : Node → Directory → Directory
directory_of (nodes.Directory d) e = d
directory_of (nodes.File f) e = e
directory_of (nodes.Other mode) e = e

from_directory : (blocks : List (List ℕ)) (i : Inode) (part : Part) (d : Directory) → node_from blocks i part ≡ nodes.Directory d → (e : DirectoryPart) × (part ≡ parts.Directory e) × (directory_from e ≡ d)
from_directory blocks i (parts.Directory e) d is = (e, refl, ap (λ n. directory_of n d) is)
from_directory blocks i (parts.File zones) d is = absurd (let e : node_from blocks i (parts.File zones) ≡ nodes.Directory d = is in cc)

-- a directory of the tree
pub record Placing (blocks : List (List ℕ)) (placed : List (ℕ × Placed)) (b : ℕ) (d : Directory) : Type 0 where
  pub node : Placed
  pub stands : at_number placed b ≡ Some node
  pub part : DirectoryPart
  pub part_is : node.part ≡ parts.Directory part
  pub same : directory_from part ≡ d

pub placing : (blocks : List (List ℕ)) (placed : List (ℕ × Placed)) (b : ℕ) (d : Directory) → at_number (tree_now blocks placed) b ≡ Some (nodes.Directory d) → Placing blocks placed b d
placing blocks placed b d at =
    let x = tree_back blocks placed b (nodes.Directory d) at in
    let e = from_directory blocks x.0.inode x.0.part d x.2 in
    record { node = x.0; stands = x.1; part = e.0; part_is = e.1; same = e.2 }

-- ---- what names lead to

-- a node whose inode has this number
pub record HasNode (placed : List (ℕ × Placed)) (number : ℕ) : Type 0 where
  pub birth : ℕ
  pub node : Placed
  pub stands : at_number placed birth ≡ Some node
  pub number_is : node.number ≡ number

-- a slot of a directory, its name and the node that it leads to
pub record NamesNode (placed : List (ℕ × Placed)) (p : Placed) (place : ℕ) (slot : Slot) : Type 0 where
  pub part : DirectoryPart
  pub part_is : p.part ≡ parts.Directory part
  pub got : slice_get part.slots place ≡ Some (Some slot)
  pub birth : ℕ
  pub named : at_name part.names slot.name ≡ Some birth
  pub leads : HasNumber placed birth slot.inode

module _ (g : Geometry) (v : Contents) (h : IsPlainContents g v) where
  pub stored : (b : ℕ) (p : Placed) → at_number v.nodes b ≡ Some p → IsStored g v.blocks p
  stored b p at = h.volume.0.each b p at

  pub inode_is : {n : ℕ} (x : HasNode v.nodes n) → inode_at g v.blocks n ≡ x.node.inode
  inode_is {n} x = ap (inode_at g v.blocks) (sym x.number_is) ∙ (stored x.birth x.node x.stands).inode

  pub directory_at : {n : ℕ} (x : HasNode v.nodes n) → IsDirectory g v.blocks n → (d : DirectoryPart) × (x.node.part ≡ parts.Directory d) × IsDirectoryPart g v.blocks x.node.inode d
  directory_at {n} x kind =
      as_directory g v.blocks x.node.inode x.node.part (stored x.birth x.node x.stands).part (subst (λ (i : Inode). is_directory i.mode ≡ true) (inode_is x) kind)

  pub file_at : {n : ℕ} (x : HasNode v.nodes n) → IsFile g v.blocks n → (zones : List Mapped) × (x.node.part ≡ parts.File zones) × IsFilePart v.blocks x.node.inode zones
  file_at {n} x kind =
      as_file g v.blocks x.node.inode x.node.part (stored x.birth x.node x.stands).part (subst (λ (i : Inode). is_file i.mode ≡ true) (inode_is x) kind)

  pub names_node : {n : ℕ} (x : HasNode v.nodes n) (place : ℕ) (slot : Slot) → NamesAt g v.blocks n place slot → NamesNode v.nodes x.node place slot
  names_node {n} x place slot m =
      let d = directory_at x m.directory in
      let entry : IsEntryAt g v.blocks x.node.inode place slot = subst (λ i. IsEntryAt g v.blocks i place slot) (inode_is x) m.entry in
      let got = entry_got g v.blocks x.node.inode d.0 d.2 place slot entry in
      let full = (h.volume.0.names x.birth x.node d.0 x.stands d.1).full place slot got entry.no_dot in
      record { part = d.0; part_is = d.1; got = got; birth = full.0; named = full.1; leads = full.2 }

  -- the tree gives the name
  pub gives : {n : ℕ} (x : HasNode v.nodes n) (place : ℕ) (slot : Slot) (y : NamesNode v.nodes x.node place slot) → HasEntry (tree_now v.blocks v.nodes) x.birth slot.name y.birth
  gives {n} x place slot y = record { directory = directory_from y.part; stands = tree_directory v.blocks v.nodes x.birth x.node y.part x.stands y.part_is; named = y.named }

  abbrev pub root_placing : Placing v.blocks v.nodes 0 h.rooted.root.0
  root_placing = placing v.blocks v.nodes 0 h.rooted.root.0 h.rooted.root.1

  abbrev pub root_node : HasNode v.nodes 1
  root_node = let x = root_placing in record { birth = 0; node = x.node; stands = x.stands; number_is = h.root_number x.node x.stands }

  abbrev pub led_node : {placed : Placed} {place : ℕ} {slot : Slot} → NamesNode v.nodes placed place slot → HasNode v.nodes slot.inode
  led_node {placed} {place} {slot} y = record { birth = y.birth; node = y.leads.0; stands = y.leads.1; number_is = y.leads.2 }

  pub reached_node : {n : ℕ} → IsReached g v.blocks n → HasNode v.nodes n
  reached_node at_root = root_node
  reached_node (by_name {inode} {place} {slot} r m) = led_node (names_node (reached_node r) place slot m)

  -- two nodes of one number are one
  pub same_birth : {m n : ℕ} (x : HasNode v.nodes m) (y : HasNode v.nodes n) → m ≡ n → x.birth ≡ y.birth
  same_birth x y e = h.volume.0.numbers x.birth y.birth x.node y.node x.stands y.stands (x.number_is ∙ (e ∙ sym y.number_is))

  pub same_placed : (a b : ℕ) (p q : Placed) → at_number v.nodes a ≡ Some p → at_number v.nodes b ≡ Some q → a ≡ b → p ≡ q
  same_placed a b p q at to e = same_Some p q (sym at ∙ (ap (at_number v.nodes) e ∙ to))

  -- ---- no fault

  pub zone_is : {n : ℕ} (x : HasNode v.nodes n) (place : ZonePlace) → zone_at_place g v.blocks n place ≡ zone_in v.blocks x.node.inode (from_walk place)
  zone_is x place = ap (λ i. zone_walked v.blocks i place) (inode_is x) ∙ zone_from_walk v.blocks x.node.inode h.volume.0.whole place

  size_fits : {n : ℕ} (x : HasNode v.nodes n) → HasZones g v.blocks n → (inode_at g v.blocks n).size ≤ largest_size
  size_fits x (inl kind) =
      let d = directory_at x kind in
      let few = bytes_few (slot_size g.width) (slots_a_block g.width) (form_is g.width) (length d.0.slots) (h.slot_zones x.birth x.node d.0 x.stands d.1).few in
      let size = d.2.size in
      let there : (inode_at g v.blocks _).size ≡ x.node.inode.size = ap (λ (i : Inode). i.size) (inode_is x) in
      omega arith
  size_fits x (inr kind) =
      let f = file_at x kind in
      subst (λ (i : Inode). i.size ≤ largest_size) (sym (inode_is x)) (h.sizes x.birth x.node f.0 x.stands f.1)

  slots_are_whole : {n : ℕ} (x : HasNode v.nodes n) → IsDirectory g v.blocks n → (inode_at g v.blocks n).size % slot_size g.width ≡ 0
  slots_are_whole x kind =
      let size = (directory_at x kind).2.size in
      subst (λ (i : Inode). i.size % slot_size g.width ≡ 0) (sym (inode_is x)) (ap (λ n. n % slot_size g.width) size ∙ whole_slots (slot_size g.width) (slots_a_block g.width) (form_is g.width) _)

  slot_is_read : {n : ℕ} (x : HasNode v.nodes n) → IsDirectory g v.blocks n → (place : ℕ) → place < slots_of g v.blocks n → (slot : Option Slot) × (slot_behind g v.blocks (inode_at g v.blocks n) place ≡ Ok slot)
  slot_is_read {n} x kind place low =
      let d = directory_at x kind in
      let below : place < x.node.inode.size / slot_size g.width = subst (λ (i : Inode). place < i.size / slot_size g.width) (inode_is x) low in
      let many : x.node.inode.size / slot_size g.width ≡ length d.0.slots = ap (λ n. n / slot_size g.width) d.2.size ∙ bytes_of_slots (slot_size g.width) (slots_a_block g.width) (form_is g.width) (length d.0.slots) in
      let y = slice_get-in_range d.0.slots place (omega arith) in
      (y.0, ap (λ i. slot_behind g v.blocks i place) (inode_is x) ∙ slot_read g v.blocks x.node.inode d.0 d.2 place y.0 y.1)

  -- a node that two slots name by one name has them in one place
  one_slot : {m n : ℕ} (x : HasNode v.nodes m) (y : HasNode v.nodes n) (place other : ℕ) (slot more : Slot) (a : NamesNode v.nodes x.node place slot) (b : NamesNode v.nodes y.node other more) →
      x.birth ≡ y.birth → slot.name ≡ more.name → place ≡ other
  one_slot x y place other slot more a b same name =
      let node = same_placed x.birth y.birth x.node y.node x.stands y.stands same in
      let part : b.part ≡ a.part = same_directory b.part a.part (sym b.part_is ∙ (ap (λ (p : Placed). p.part) (sym node) ∙ a.part_is)) in
      (h.volume.0.names x.birth x.node a.part x.stands a.part_is).once place other slot more a.got (subst (λ (d : DirectoryPart). slice_get d.slots other ≡ Some (Some more)) part b.got) name

  one_directory : {m n : ℕ} (x : HasNode v.nodes m) (y : HasNode v.nodes n) (place other : ℕ) (slot more : Slot) → NamesNode v.nodes x.node place slot → NamesNode v.nodes y.node other more →
      slot.inode ≡ more.inode → IsDirectory g v.blocks slot.inode → (m ≡ n) × (place ≡ other)
  one_directory x y place other slot more a b same kind =
      let d = directory_at (led_node a) kind in
      let births : b.birth ≡ a.birth = sym (same_birth (led_node a) (led_node b) same) in
      let names = h.rooted.one_name x.birth y.birth slot.name more.name a.birth (directory_from d.0) (gives x place slot a)
      (subst (HasEntry (tree_now v.blocks v.nodes) y.birth more.name) births (gives y other more b))
      (tree_directory v.blocks v.nodes a.birth a.leads.0 d.0 a.leads.1 d.1) in
      let node = same_placed x.birth y.birth x.node y.node x.stands y.stands names.0 in (
        sym x.number_is ∙ (ap (λ (p : Placed). p.number) node ∙ y.number_is),
        one_slot x y place other slot more a b names.0 names.1,
      )

  pub faultless : IsFaultless g v.blocks
  faultless = record {
    root = λ r.
        let x = root_placing in
        subst (λ (i : Inode). is_directory i.mode ≡ true) (sym (inode_is root_node)) (subst (IsPart g v.blocks x.node.inode) x.part_is (stored 0 x.node x.stands).part).kind;
    size = λ n r kind. size_fits (reached_node r) kind;
    whole_slots = λ n r kind. slots_are_whole (reached_node r) kind;
    zone_within = λ n place r kind some.
        let x = reached_node r in
        let e = zone_is x place in
        subst (λ z. (g.first ≤ z) × (z < g.zones)) (sym e) ((stored x.birth x.node x.stands).zones (from_walk place) (λ none. some (e ∙ none)));
    zone_once = λ n m place other r q kind more some same.
        let x = reached_node r in
        let y = reached_node q in
        let one = h.volume.0.zones x.birth y.birth x.node y.node (from_walk place) (from_walk other) x.stands y.stands (sym (zone_is x place) ∙ (same ∙ zone_is y other)) (λ none. some (zone_is x place ∙ none)) in
        let node = same_placed x.birth y.birth x.node y.node x.stands y.stands one.0 in
        (sym x.number_is ∙ (ap (λ (p : Placed). p.number) node ∙ y.number_is), one_from_walk place other one.1);
    slot_read = λ n place r kind low. slot_is_read (reached_node r) kind place low;
    inode_within = λ n place slot r m.
        let x = led_node (names_node (reached_node r) place slot m) in
        subst (λ k. k ≤ g.inodes) x.number_is (stored x.birth x.node x.stands).within;
    name_once = λ n place other slot more r m k same.
        let x = reached_node r in
        one_slot x x place other slot more (names_node x place slot m) (names_node x other more k) refl same;
    directory_once = λ n other place at slot more r q m k same kind.
        let x = reached_node r in
        let y = reached_node q in
        one_directory x y place at slot more (names_node x place slot m) (names_node y at more k) same kind;
    root_unnamed = λ n place slot r m e.
        let x = reached_node r in
        let y = names_node x place slot m in
        h.rooted.no_root x.birth slot.name y.birth (gives x place slot y) (same_birth (led_node y) root_node e);
  }

  pub some_inodes : 0 < g.inodes
  some_inodes = let x = root_node in let is = x.number_is in let within = (stored x.birth x.node x.stands).within in omega arith
