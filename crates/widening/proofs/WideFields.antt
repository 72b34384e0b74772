-- The tree of a widened volume by its fields: what each node says then, and that the volume has no fault.
use Rattle.std.specs.Prelude.{◌≡◌, ◌≢◌, ℕ, zero, suc, ◌+◌, ◌*◌, ◌/◌, ◌%◌, ◌<◌, ◌≤◌, true, false, List, codes, length, Option, Some, Ok, refl}
use Rattle.std.specs.List.{slice_get}
use Rattle.std.proofs.Common.{sym, ap, subst, ◌∙◌, inl, inr, arith}
use Rattle.std.proofs.lemmas.Bool.{cases_eq, eq-eqb, ne_eqb, true≢false}
use Rattle.std.proofs.lemmas.List.{length-map}
use Rattle.std.proofs.lemmas.Option.{same_Some}
use Rattle.blk_base.specs.laws.Members.{slice_get-in_range, slice_get-In, In-slice_get, slice_get-map_some, map_some-slice_get}
use Rattle.minix_layout.specs.declared.division.Geometry.{Geometry}
use Rattle.minix_layout.specs.declared.inode.Inode.{Inode}
use Rattle.minix_layout.specs.declared.slot.Slot.{Slot}
use Rattle.tree_model.specs.declared.node.Node.{Node}
use Rattle.tree_model.specs.declared.node.Node.TheVariants as nodes
use Rattle.tree_model.specs.declared.node.Directory.{Directory}
use Rattle.tree_model.specs.declared.node.File.{File}
use Rattle.tree_model.specs.Maps.{at_number, at_name}
use Rattle.tree_model.specs.laws.MapsLaws.{at_name-In}
use Rattle.tree_model.specs.Paths.{is_dot}
use Rattle.tree_model.specs.Rooted.{HasEntry}
use Rattle.tree_model.proofs.Lookups.{In-at_name}
use Rattle.volume_ops.specs.laws.ReadsLaws.{same_Ok}
use Rattle.volume_ops.specs.Places.{largest_size, is_directory, is_file, birth_of, inode_of_birth}
use Rattle.volume_ops.specs.Volume.{disk_of}
use Rattle.volume_ops.specs.VolumeFields.{inode_at, block_behind, slot_behind, HasName, IsNodeOf, IsBelow, IsTreeOf}
use Rattle.volume_ops.specs.ZonePlaces.{ZonePlace, block, zone_in}
use Rattle.volume_ops.specs.Faultless.{IsDirectory, HasZones, zone_at_place, IsEntryAt, NamesAt, IsReached, at_root, by_name, IsFaultless}
use Rattle.volume_ops.specs.VolumeTrees.{IsVolumeTree}
use Rattle.volume_ops.proofs.BlockPlaces.{led_reached}
use Rattle.volume_model.specs.Volume.{IsWhole}
use Rattle.volume_model.proofs.Nodes.{no_directory_file}
use Rattle.widening.specs.Directories.{slot_named, wide_slots}
use Rattle.widening.specs.Widened.{wide}
use Rattle.widening.specs.WideTrees.{wide_directory, wide_node, wide_tree}
use Rattle.widening.proofs.PlacesKept.{place_kept}
use Rattle.widening.proofs.WideTreeMaps.{wide_at, narrow_at, narrow_directory, narrow_file, wide_entry, narrow_entry, one_name_place, wide_rooted}

-- ---- slots of names

-- a slot of a directory behind `.` and `..`
record Named (d : Directory) (place : ℕ) (slot : Slot) : Type 0 where
  pub index : ℕ
  pub entry : List ℕ × ℕ
  pub place_is : place ≡ 2 + index
  pub got : slice_get d.names index ≡ Some entry
  pub slot_is : slot_named entry ≡ slot

named_by : (n : ℕ) (d : Directory) (place : ℕ) (s slot : Slot) → slice_get (wide_slots n d) place ≡ Some s → s ≡ slot → is_dot slot.name ≡ false → Named d place slot
named_by n d zero s slot got same no_dot =
    let e : codes "." ≡ slot.name = ap (λ (s : Slot). s.name) (same_Some (record { inode = n; name = codes "." }) s got ∙ same) in
    absurd (let t : true ≡ false = ap is_dot e ∙ no_dot in true≢false t)
named_by n d (suc zero) s slot got same no_dot =
    let e : codes ".." ≡ slot.name = ap (λ (s : Slot). s.name) (same_Some (record { inode = inode_of_birth d.parent; name = codes ".." }) s got ∙ same) in
    absurd (let t : true ≡ false = ap is_dot e ∙ no_dot in true≢false t)
named_by n d (suc (suc k)) s slot got same no_dot =
    let x = map_some-slice_get slot_named d.names k s got in
    record { index = k; entry = x.0; place_is = omega arith; got = x.1; slot_is = x.2 ∙ same }

pub length-wide_slots : (n : ℕ) (d : Directory) → length (wide_slots n d) ≡ length d.names + 2
length-wide_slots n d = let same = length-map d.names slot_named in omega (arith, same)

-- ---- what was written

module _ (g : Geometry) (blocks after : List (List ℕ)) (tree : List (ℕ × Node)) (Gets : ℕ → ℕ → Type 0) where
  -- A directory stands anew in its inode: its slots can be read, and its zones are some that it gets, each once.
  pub record IsRewritten (birth : ℕ) (d : Directory) (i : Inode) : Type 0 where
    pub mode : i.mode ≡ (inode_at g blocks (inode_of_birth birth)).mode
    pub few : length d.names + 2 ≤ 16608
    pub size : i.size ≡ 32 * (length d.names + 2)
    pub read : (k : ℕ) (s : Slot) → slice_get (wide_slots (inode_of_birth birth) d) k ≡ Some s → slot_behind (wide g) after i k ≡ Ok (Some s)
    pub gets : (x : ZonePlace) → zone_in after i x ≢ 0 → Gets birth (zone_in after i x)
    pub once : (x y : ZonePlace) → zone_in after i x ≢ 0 → zone_in after i x ≡ zone_in after i y → x ≡ y

  -- Directories are written anew, in zones that no file has; files and others stay.
  pub record IsRewriting : Type 0 where
    pub whole : IsWhole blocks
    pub after_whole : IsWhole after
    pub directory : (birth : ℕ) (d : Directory) → at_number tree birth ≡ Some (nodes.Directory d) → IsRewritten birth d (inode_at g after (inode_of_birth birth))
    pub file : (birth : ℕ) (f : File) → at_number tree birth ≡ Some (nodes.File f) → inode_at g after (inode_of_birth birth) ≡ inode_at g blocks (inode_of_birth birth)
    pub bodies : (birth : ℕ) (f : File) → at_number tree birth ≡ Some (nodes.File f) → (x : ZonePlace) → zone_at_place g blocks (inode_of_birth birth) x ≢ 0 →
        disk_of after (zone_at_place g blocks (inode_of_birth birth) x) ≡ disk_of blocks (zone_at_place g blocks (inode_of_birth birth) x)
    pub other : (birth mode : ℕ) → at_number tree birth ≡ Some (nodes.Other mode) → inode_at g after (inode_of_birth birth) ≡ inode_at g blocks (inode_of_birth birth)
    pub within : (birth zone : ℕ) → Gets birth zone → (g.first ≤ zone) × (zone < g.zones)
    pub apart : (a b zone : ℕ) → Gets a zone → Gets b zone → a ≡ b
    pub free : (a b zone : ℕ) (f : File) (x : ZonePlace) → Gets a zone → at_number tree b ≡ Some (nodes.File f) → zone_at_place g blocks (inode_of_birth b) x ≡ zone → ⊥

  module _ (h : IsVolumeTree g blocks tree) (k : IsRewriting) (some_inode : 0 < g.inodes) (narrow : g.width ≤ 30) where
    abbrev w : Geometry
    w = wide g

    abbrev inode_now : ℕ → Inode
    inode_now birth = inode_at g after (inode_of_birth birth)

    -- ---- the old tree

    old_reached : (birth : ℕ) (node : Node) → at_number tree birth ≡ Some node → IsReached g blocks (inode_of_birth birth)
    old_reached birth node at = (led_reached g blocks tree h (h.rooted.led_to birth node at)).0

    back : (birth : ℕ) (node : Node) → at_number tree birth ≡ Some node → birth_of (inode_of_birth birth) ≡ birth
    back birth node at = (led_reached g blocks tree h (h.rooted.led_to birth node at)).1

    old_within : {n : ℕ} → IsReached g blocks n → n ≤ g.inodes
    old_within at_root = omega (arith, some_inode)
    old_within (by_name {inode} {place} {slot} r m) = h.faultless.inode_within inode place slot r m

    same_birth : (a b : ℕ) (m n : Node) → at_number tree a ≡ Some m → at_number tree b ≡ Some n → inode_of_birth a ≡ inode_of_birth b → a ≡ b
    same_birth a b m n at to e = sym (back a m at) ∙ (ap birth_of e ∙ back b n to)

    -- ---- kinds of nodes

    directory_by : (birth : ℕ) (node : Node) → at_number tree birth ≡ Some node → is_directory (inode_now birth).mode ≡ true → (d : Directory) × (at_number tree birth ≡ Some (nodes.Directory d))
    directory_by birth (nodes.Directory d) at kind = (d, at)
    directory_by birth (nodes.File f) at kind =
        absurd (no_directory_file (inode_at g blocks (inode_of_birth birth)).mode (subst (λ (i : Inode). is_directory i.mode ≡ true) (k.file birth f at) kind) (h.fields.each birth (nodes.File f) at).kind)
    directory_by birth (nodes.Other mode) at kind =
        absurd (true≢false (sym (subst (λ (i : Inode). is_directory i.mode ≡ true) (k.other birth mode at) kind) ∙ (h.fields.each birth (nodes.Other mode) at).no_directory))

    no_other : (birth mode : ℕ) → at_number tree birth ≡ Some (nodes.Other mode) → HasZones w after (inode_of_birth birth) → ⊥
    no_other birth mode at (inl kind) = true≢false (sym (subst (λ (i : Inode). is_directory i.mode ≡ true) (k.other birth mode at) kind) ∙ (h.fields.each birth (nodes.Other mode) at).no_directory)
    no_other birth mode at (inr kind) = true≢false (sym (subst (λ (i : Inode). is_file i.mode ≡ true) (k.other birth mode at) kind) ∙ (h.fields.each birth (nodes.Other mode) at).no_file)

    directory_kind : (birth : ℕ) (d : Directory) → at_number tree birth ≡ Some (nodes.Directory d) → is_directory (inode_now birth).mode ≡ true
    directory_kind birth d at = ap is_directory (k.directory birth d at).mode ∙ (h.fields.each birth (nodes.Directory d) at).kind

    -- a file has the zones that it had
    file_place : (birth : ℕ) (f : File) → at_number tree birth ≡ Some (nodes.File f) → (x : ZonePlace) → zone_in after (inode_now birth) x ≡ zone_at_place g blocks (inode_of_birth birth) x
    file_place birth f at x =
        ap (λ i. zone_in after i x) (k.file birth f at) ∙ place_kept blocks after (inode_at g blocks (inode_of_birth birth)) k.whole k.after_whole (k.bodies birth f at) x

    -- ---- names

    slot_there : (birth : ℕ) (d : Directory) → at_number tree birth ≡ Some (nodes.Directory d) → (place : ℕ) → place < (inode_now birth).size / 32 →
        (s : Slot) × (slice_get (wide_slots (inode_of_birth birth) d) place ≡ Some s) × (slot_behind w after (inode_now birth) place ≡ Ok (Some s))
    slot_there birth d at place below =
        let r = k.directory birth d at in
        let size = r.size in
        let many = length-wide_slots (inode_of_birth birth) d in
        let x = slice_get-in_range (wide_slots (inode_of_birth birth) d) place (omega (arith, below, size, many)) in
        (x.0, x.1, r.read place x.0 x.1)

    named : (birth : ℕ) (d : Directory) → at_number tree birth ≡ Some (nodes.Directory d) → (place : ℕ) (slot : Slot) → IsEntryAt w after (inode_now birth) place slot → Named d place slot
    named birth d at place slot e =
        let x = slot_there birth d at place e.below in
        named_by (inode_of_birth birth) d place x.0 slot x.1 (same_Some x.0 slot (same_Ok (Some x.0) (Some slot) (sym x.2 ∙ e.stands))) e.no_dot

    abbrev entry_by : (birth : ℕ) (d : Directory) → at_number tree birth ≡ Some (nodes.Directory d) → {place : ℕ} {slot : Slot} (m : Named d place slot) → HasEntry tree birth m.entry.0 m.entry.1
    entry_by birth d at m = record {
      directory = d;
      stands = at;
      named = In-at_name d.names m.entry.0 m.entry.1 (h.rooted.names_in_order birth d at) (slice_get-In d.names m.index m.entry m.got);
    }

    -- a node whose inode has this number
    record HasNode (number : ℕ) : Type 0 where
      pub birth : ℕ
      pub node : Node
      pub stands : at_number tree birth ≡ Some node
      pub number_is : inode_of_birth birth ≡ number

    abbrev child : (birth : ℕ) (d : Directory) → at_number tree birth ≡ Some (nodes.Directory d) → {place : ℕ} {slot : Slot} (m : Named d place slot) → HasNode slot.inode
    child birth d at m =
        let led = h.rooted.leads birth m.entry.0 m.entry.1 (entry_by birth d at m) in
        record { birth = m.entry.1; node = led.0; stands = led.1; number_is = ap (λ (s : Slot). s.inode) m.slot_is }

    child_at : (birth : ℕ) (node : Node) → at_number tree birth ≡ Some node → (place : ℕ) (slot : Slot) → NamesAt w after (inode_of_birth birth) place slot → HasNode slot.inode
    child_at birth node at place slot m =
        let d = directory_by birth node at m.directory in
        child birth d.0 d.1 (named birth d.0 d.1 place slot m.entry)

    reached : {n : ℕ} → IsReached w after n → HasNode n
    reached at_root = record { birth = 0; node = nodes.Directory h.rooted.root.0; stands = h.rooted.root.1; number_is = refl }
    reached (by_name {inode} {place} {slot} r m) =
        let x = reached r in
        child_at x.birth x.node x.stands place slot (subst (λ n. NamesAt w after n place slot) (sym x.number_is) m)

    -- what holds of each node's inode holds of each that is reached
    for_each : (P : ℕ → Type 0) → ((birth : ℕ) (node : Node) → at_number tree birth ≡ Some node → P (inode_of_birth birth)) → (n : ℕ) → IsReached w after n → P n
    for_each P each n r = let x = reached r in subst P x.number_is (each x.birth x.node x.stands)

    -- ---- no fault

    size_fits : (birth : ℕ) (node : Node) → at_number tree birth ≡ Some node → HasZones w after (inode_of_birth birth) → (inode_now birth).size ≤ largest_size
    size_fits birth (nodes.Directory d) at kind = (let r = k.directory birth d at in let size = r.size in let few = r.few in omega (arith, size, few))
    size_fits birth (nodes.File f) at kind =
        subst (λ (i : Inode). i.size ≤ largest_size) (sym (k.file birth f at)) (h.faultless.size (inode_of_birth birth) (old_reached birth (nodes.File f) at) (inr (h.fields.each birth (nodes.File f) at).kind))
    size_fits birth (nodes.Other mode) at kind = absurd (no_other birth mode at kind)

    slots_whole : (birth : ℕ) (node : Node) → at_number tree birth ≡ Some node → IsDirectory w after (inode_of_birth birth) → (inode_now birth).size % 32 ≡ 0
    slots_whole birth node at kind = let d = directory_by birth node at kind in let size = (k.directory birth d.0 d.1).size in omega (arith, size)

    zones_within : (birth : ℕ) (node : Node) → at_number tree birth ≡ Some node → (x : ZonePlace) → HasZones w after (inode_of_birth birth) → zone_at_place w after (inode_of_birth birth) x ≢ 0 →
        (g.first ≤ zone_at_place w after (inode_of_birth birth) x) × (zone_at_place w after (inode_of_birth birth) x < g.zones)
    zones_within birth (nodes.Directory d) at x kind some = k.within birth (zone_in after (inode_now birth) x) ((k.directory birth d at).gets x some)
    zones_within birth (nodes.File f) at x kind some =
        let e = file_place birth f at x in
        subst (λ z. (g.first ≤ z) × (z < g.zones)) (sym e)
        (h.faultless.zone_within (inode_of_birth birth) x (old_reached birth (nodes.File f) at) (inr (h.fields.each birth (nodes.File f) at).kind) (λ none. some (e ∙ none)))
    zones_within birth (nodes.Other mode) at x kind some = absurd (no_other birth mode at kind)

    zones_once : (a b : ℕ) (m n : Node) → at_number tree a ≡ Some m → at_number tree b ≡ Some n → (x y : ZonePlace) → HasZones w after (inode_of_birth a) → HasZones w after (inode_of_birth b) →
        zone_in after (inode_now a) x ≢ 0 → zone_in after (inode_now a) x ≡ zone_in after (inode_now b) y → (inode_of_birth a ≡ inode_of_birth b) × (x ≡ y)
    zones_once a b (nodes.Directory d) (nodes.Directory e) at to x y kind more some same =
        let r = k.directory a d at in
        let one : a ≡ b = k.apart a b (zone_in after (inode_now a) x) (r.gets x some) (subst (Gets b) (sym same) ((k.directory b e to).gets y (λ none. some (same ∙ none)))) in
        (ap inode_of_birth one, r.once x y some (same ∙ ap (λ n. zone_in after (inode_now n) y) (sym one)))
    zones_once a b (nodes.Directory d) (nodes.File f) at to x y kind more some same =
        absurd (k.free a b (zone_in after (inode_now a) x) f y ((k.directory a d at).gets x some) to (sym (file_place b f to y) ∙ sym same))
    zones_once a b (nodes.File f) (nodes.Directory d) at to x y kind more some same =
        absurd (k.free b a (zone_in after (inode_now b) y) f x ((k.directory b d to).gets y (λ none. some (same ∙ none))) at (sym (file_place a f at x) ∙ same))
    zones_once a b (nodes.File f) (nodes.File e) at to x y kind more some same =
        h.faultless.zone_once (inode_of_birth a) (inode_of_birth b) x y (old_reached a (nodes.File f) at) (old_reached b (nodes.File e) to)
        (inr (h.fields.each a (nodes.File f) at).kind) (inr (h.fields.each b (nodes.File e) to).kind)
        (λ none. some (file_place a f at x ∙ none)) (sym (file_place a f at x) ∙ (same ∙ file_place b e to y))
    zones_once a b (nodes.Other mode) n at to x y kind more some same = absurd (no_other a mode at kind)
    zones_once a b (nodes.Directory d) (nodes.Other mode) at to x y kind more some same = absurd (no_other b mode to more)
    zones_once a b (nodes.File f) (nodes.Other mode) at to x y kind more some same = absurd (no_other b mode to more)

    slots_read : (birth : ℕ) (node : Node) → at_number tree birth ≡ Some node → (place : ℕ) → IsDirectory w after (inode_of_birth birth) → place < (inode_now birth).size / 32 →
        (slot : Option Slot) × (slot_behind w after (inode_now birth) place ≡ Ok slot)
    slots_read birth node at place kind low = let d = directory_by birth node at kind in let x = slot_there birth d.0 d.1 place low in (Some x.0, x.2)

    inodes_within : (birth : ℕ) (node : Node) → at_number tree birth ≡ Some node → (place : ℕ) (slot : Slot) → NamesAt w after (inode_of_birth birth) place slot → slot.inode ≤ g.inodes
    inodes_within birth node at place slot m =
        let c = child_at birth node at place slot m in
        subst (λ n. n ≤ g.inodes) c.number_is (old_within (old_reached c.birth c.node c.stands))

    name_of : {d : Directory} {place : ℕ} {slot : Slot} (m : Named d place slot) → m.entry.0 ≡ slot.name
    name_of m = ap (λ (s : Slot). s.name) m.slot_is

    one_place : (birth : ℕ) (d : Directory) → at_number tree birth ≡ Some (nodes.Directory d) → {place other : ℕ} {slot more : Slot} (m : Named d place slot) (n : Named d other more) → m.entry.0 ≡ n.entry.0 → place ≡ other
    one_place birth d at m n same =
        let index = one_name_place d.names m.index n.index m.entry n.entry (h.rooted.names_in_order birth d at) m.got n.got same in
        let a = m.place_is in
        let b = n.place_is in
        omega (arith, index, a, b)

    names_once : (birth : ℕ) (node : Node) → at_number tree birth ≡ Some node → (place other : ℕ) (slot more : Slot) → NamesAt w after (inode_of_birth birth) place slot →
        NamesAt w after (inode_of_birth birth) other more → slot.name ≡ more.name → place ≡ other
    names_once birth node at place other slot more m n same =
        let d = directory_by birth node at m.directory in
        let x = named birth d.0 d.1 place slot m.entry in
        let y = named birth d.0 d.1 other more n.entry in
        one_place birth d.0 d.1 x y (name_of x ∙ (same ∙ sym (name_of y)))

    moved : (a b : ℕ) (d e : Directory) → at_number tree a ≡ Some (nodes.Directory d) → at_number tree b ≡ Some (nodes.Directory e) → a ≡ b → {place : ℕ} {slot : Slot} (m : Named e place slot) →
        (n : Named d place slot) × (n.entry.0 ≡ m.entry.0)
    moved a b d e at to same m = by (same_directory d e (same_Some (nodes.Directory d) (nodes.Directory e) (sym at ∙ (ap (at_number tree) same ∙ to)))) m
      where
        same_directory : (d e : Directory) → nodes.Directory d ≡ nodes.Directory e → d ≡ e
        same_directory d e same = cc

        by : {d e : Directory} → d ≡ e → {place : ℕ} {slot : Slot} (m : Named e place slot) → (n : Named d place slot) × (n.entry.0 ≡ m.entry.0)
        by {d} {e} same m = (record { index = m.index; entry = m.entry; place_is = m.place_is; got = ap (λ (d : Directory). slice_get d.names m.index) same ∙ m.got; slot_is = m.slot_is }, refl)

    directories_once : (a b : ℕ) (p q : Node) → at_number tree a ≡ Some p → at_number tree b ≡ Some q → (place spot : ℕ) (slot more : Slot) → NamesAt w after (inode_of_birth a) place slot →
        NamesAt w after (inode_of_birth b) spot more → slot.inode ≡ more.inode → IsDirectory w after slot.inode → (inode_of_birth a ≡ inode_of_birth b) × (place ≡ spot)
    directories_once a b p q at to place spot slot more m n same kind =
        let d = directory_by a p at m.directory in
        let e = directory_by b q to n.directory in
        let x = named a d.0 d.1 place slot m.entry in
        let y = named b e.0 e.1 spot more n.entry in
        let c = child a d.0 d.1 x in
        let o = child b e.0 e.1 y in
        let births : c.birth ≡ o.birth = same_birth c.birth o.birth c.node o.node c.stands o.stands (c.number_is ∙ (same ∙ sym o.number_is)) in
        let f = directory_by c.birth c.node c.stands (subst (λ n. IsDirectory w after n) (sym c.number_is) kind) in
        let one = h.fields.one_name a b x.entry.0 y.entry.0 x.entry.1 f.0 (entry_by a d.0 d.1 x) (subst (HasEntry tree b y.entry.0) (sym births) (entry_by b e.0 e.1 y)) f.1 in
        let z = moved a b d.0 e.0 d.1 e.1 one.0 y in
        (ap inode_of_birth one.0, one_place a d.0 d.1 x z.0 (one.1 ∙ sym z.1))

    root_unnamed : (birth : ℕ) (node : Node) → at_number tree birth ≡ Some node → (place : ℕ) (slot : Slot) → NamesAt w after (inode_of_birth birth) place slot → slot.inode ≢ 1
    root_unnamed birth node at place slot m e =
        let d = directory_by birth node at m.directory in
        let x = named birth d.0 d.1 place slot m.entry in
        let c = child birth d.0 d.1 x in
        h.rooted.no_root birth x.entry.0 x.entry.1 (entry_by birth d.0 d.1 x) (sym (back c.birth c.node c.stands) ∙ ap birth_of (c.number_is ∙ e))

    pub wide_faultless : IsFaultless w after
    wide_faultless = record {
      root = λ r. directory_kind 0 h.rooted.root.0 h.rooted.root.1;
      size = for_each (λ n. HasZones w after n → (inode_at w after n).size ≤ largest_size) size_fits;
      whole_slots = for_each (λ n. IsDirectory w after n → (inode_at w after n).size % 32 ≡ 0) slots_whole;
      zone_within = λ n x r. for_each (λ n. HasZones w after n → zone_at_place w after n x ≢ 0 → (g.first ≤ zone_at_place w after n x) × (zone_at_place w after n x < g.zones))
          (λ birth node at. zones_within birth node at x) n r;
      zone_once = λ n m x y r q. for_each (λ n. HasZones w after n → HasZones w after m → zone_at_place w after n x ≢ 0 → zone_at_place w after n x ≡ zone_at_place w after m y → (n ≡ m) × (x ≡ y))
          (λ a p at. for_each (λ m. HasZones w after (inode_of_birth a) → HasZones w after m → zone_in after (inode_now a) x ≢ 0 → zone_in after (inode_now a) x ≡ zone_at_place w after m y → (inode_of_birth a ≡ m) × (x ≡ y))
          (λ b s to. zones_once a b p s at to x y) m q) n r;
      slot_read = λ n place r. for_each (λ n. IsDirectory w after n → place < (inode_at w after n).size / 32 → (slot : Option Slot) × (slot_behind w after (inode_at w after n) place ≡ Ok slot))
          (λ birth node at. slots_read birth node at place) n r;
      inode_within = λ n place slot r. for_each (λ n. NamesAt w after n place slot → slot.inode ≤ g.inodes) (λ birth node at. inodes_within birth node at place slot) n r;
      name_once = λ n place other slot more r. for_each (λ n. NamesAt w after n place slot → NamesAt w after n other more → slot.name ≡ more.name → place ≡ other)
          (λ birth node at. names_once birth node at place other slot more) n r;
      directory_once = λ n m place spot slot more r q. for_each (λ n. NamesAt w after n place slot → NamesAt w after m spot more → slot.inode ≡ more.inode → IsDirectory w after slot.inode → (n ≡ m) × (place ≡ spot))
          (λ a p at. for_each (λ m. NamesAt w after (inode_of_birth a) place slot → NamesAt w after m spot more → slot.inode ≡ more.inode → IsDirectory w after slot.inode → (inode_of_birth a ≡ m) × (place ≡ spot))
          (λ b s to. directories_once a b p s at to place spot slot more) m q) n r;
      root_unnamed = λ n place slot r. for_each (λ n. NamesAt w after n place slot → slot.inode ≢ 1) (λ birth node at. root_unnamed birth node at place slot) n r;
    }

    -- ---- what each node says

    name_there : (birth : ℕ) (d : Directory) → at_number tree birth ≡ Some (nodes.Directory d) → (name : List ℕ) (b : ℕ) → at_name d.names name ≡ Some b → HasName w after (inode_now birth) name b
    name_there birth d at name b found =
        let r = k.directory birth d at in
        let x = In-slice_get d.names (name, b) (at_name-In d.names name b found) in
        let entry : HasEntry tree birth name b = record { directory = d; stands = at; named = found } in
        let led = h.rooted.leads birth name b entry in
        let old = ((h.fields.each birth (nodes.Directory d) at).names name b).0 found in
        let size = r.size in
        let low = x.1 in
        record {
          place = suc (suc x.0);
          slot = slot_named (name, b);
          below = (let e : suc (suc x.0) < (inode_now birth).size / 32 = omega (arith, size, low) in e);
          stands = r.read (suc (suc x.0)) (slot_named (name, b)) (slice_get-map_some slot_named d.names x.0 (name, b) x.2);
          name_is = refl;
          no_dot = old.no_dot;
          birth_is = back b led.0 led.1;
        }

    name_back : (birth : ℕ) (d : Directory) → at_number tree birth ≡ Some (nodes.Directory d) → (name : List ℕ) (b : ℕ) → HasName w after (inode_now birth) name b → at_name d.names name ≡ Some b
    name_back birth d at name b n =
        let m = named birth d at n.place n.slot (record { below = n.below; stands = n.stands; no_dot = ap is_dot n.name_is ∙ n.no_dot }) in
        let c = child birth d at m in
        let births : m.entry.1 ≡ b = sym (back c.birth c.node c.stands) ∙ (ap birth_of c.number_is ∙ n.birth_is) in
        ap (at_name d.names) (sym (name_of m ∙ n.name_is)) ∙ ((entry_by birth d at m).named ∙ ap Some births)

    body_same : (birth : ℕ) (f : File) → at_number tree birth ≡ Some (nodes.File f) → (index : ℕ) → block_behind blocks (inode_at g blocks (inode_of_birth birth)) index ≡ block_behind after (inode_now birth) index
    body_same birth f at index =
        let e = file_place birth f at (block index) in
        elim (cases_eq (zone_at_place g blocks (inode_of_birth birth) (block index)) 0) [
          | inl none ↦ rw (eq-eqb _ 0 none, eq-eqb _ 0 (e ∙ none)) refl
          | inr some ↦ rw (ne_eqb _ 0 some, ne_eqb _ 0 (λ none. some (sym e ∙ none))) (ap Some (sym (ap (disk_of after) e ∙ k.bodies birth f at (block index) some)))
        ]

    says : (birth : ℕ) (old : Node) → at_number tree birth ≡ Some old → IsNodeOf w after (inode_now birth) (wide_node old)
    says birth (nodes.Directory d) at = record {
      kind = directory_kind birth d at;
      width = refl;
      slots = (let size = (k.directory birth d at).size in let e : 2 + length d.names ≡ (inode_now birth).size / 32 = omega (arith, size) in e);
      names = λ name b. (name_there birth d at name b, name_back birth d at name b);
    }
    says birth (nodes.File f) at =
        let old = h.fields.each birth (nodes.File f) at in
        let i = k.file birth f at in
        record {
          kind = subst (λ (i : Inode). is_file i.mode ≡ true) (sym i) old.kind;
          size = old.size ∙ ap (λ (i : Inode). i.size) (sym i);
          links = old.links ∙ ap (λ (i : Inode). i.links) (sym i);
          bodies = λ index. old.bodies index ∙ body_same birth f at index;
        }
    says birth (nodes.Other mode) at =
        let old = h.fields.each birth (nodes.Other mode) at in
        let i = k.other birth mode at in
        record {
          no_directory = subst (λ (i : Inode). is_directory i.mode ≡ false) (sym i) old.no_directory;
          no_file = subst (λ (i : Inode). is_file i.mode ≡ false) (sym i) old.no_file;
          mode_is = old.mode_is ∙ ap (λ (i : Inode). i.mode) (sym i);
        }

    wide_below : (parent : ℕ) (node : Node) → IsBelow parent node → IsBelow parent (wide_node node)
    wide_below parent (nodes.Directory d) below = below
    wide_below parent (nodes.File f) below = tt
    wide_below parent (nodes.Other mode) below = tt

    wide_fields : IsTreeOf w after (wide_tree tree)
    wide_fields = record {
      each = λ birth node at. let x = narrow_at tree birth node at in subst (IsNodeOf w after (inode_now birth)) x.2 (says birth x.0 x.1);
      root = (wide_directory h.fields.root.0, wide_at tree 0 (nodes.Directory h.fields.root.0) h.fields.root.1, h.fields.root.2);
      leads = λ parent name birth entry.
          let x = h.fields.leads parent name birth (narrow_entry tree parent birth name entry) in
          (wide_node x.0, wide_at tree birth x.0 x.1, wide_below parent x.0 x.2);
      has_name = λ birth node at apart.
          let x = narrow_at tree birth node at in
          let y = h.fields.has_name birth x.0 x.1 apart in
          (y.0, y.1, wide_entry tree y.0 birth y.1 y.2);
      one_name = λ parent other name more birth d entry also at.
          let x = narrow_directory tree birth d at in
          h.fields.one_name parent other name more birth x.0 (narrow_entry tree parent birth name entry) (narrow_entry tree other birth more also) x.1;
    }

    old_width : h.rooted.width ≤ 30
    old_width =
        let root = h.fields.root in
        let a = h.rooted.of_width 0 root.0 root.1 in
        let b = (h.fields.each 0 (nodes.Directory root.0) root.1).width in
        omega (arith, a, b, narrow)

    -- The volume has no fault then, and this tree.
    pub wide_volume_tree : IsVolumeTree w after (wide_tree tree)
    wide_volume_tree = record {
      faultless = wide_faultless;
      fields = wide_fields;
      rooted = wide_rooted tree h.rooted old_width;
      blocks_in_order = λ birth f at. h.blocks_in_order birth f (narrow_file tree birth f at);
    }
