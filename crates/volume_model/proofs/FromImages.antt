-- The nodes of a plain image make a plain volume that can change.
use Rattle.std.specs.Prelude.{◌*◌, ◌≡◌, ◌≢◌, ℕ, suc, ◌/◌, ◌<◌, ◌≤◌, true, false, List, [], ◌∷◌, codes, length, map, Option, Some, Ok, refl, ◌⊎◌}
use Rattle.std.specs.List.{slice_get}
use Rattle.std.specs.List.Sorted.{IsStrictlySortedBy}
use Rattle.std.specs.Map.{keys_of}
use Rattle.std.specs.Ordering.{nat_cmp}
use Rattle.std.proofs.Common.{sym, ap, subst, ◌∙◌, inl, inr, ⊎_elim, arith}
use Rattle.std.proofs.lemmas.Bool.{cases_Bool, cases_eq, eq-eqb, ne_eqb, true≢false}
use Rattle.std.proofs.lemmas.Option.{none-some, same_Some}
use Rattle.blk_base.specs.Members.{In}
use Rattle.blk_base.specs.laws.Members.{In-map, map-In}
use Rattle.minix_layout.specs.laws.Places.{form_is, bytes_whole, begins_below}
use Rattle.minix_layout.specs.Widths.{slot_size, slots_a_block}
use Rattle.minix_layout.specs.declared.division.Geometry.{Geometry}
use Rattle.minix_layout.specs.declared.inode.Inode.{Inode}
use Rattle.minix_layout.specs.declared.slot.Slot.{Slot}
use Rattle.tree_model.specs.declared.node.Node.{Node}
use Rattle.tree_model.specs.declared.node.Node.TheVariants as nodes
use Rattle.tree_model.specs.declared.node.Directory.{Directory}
use Rattle.tree_model.specs.declared.node.File.{File}
use Rattle.tree_model.specs.Maps.{at_number, at_name, name_cmp}
use Rattle.tree_model.specs.laws.MapsLaws.{number_here, number_same, name_here, name_same}
use Rattle.tree_model.specs.Paths.{is_dot}
use Rattle.tree_model.specs.Trees.{directory_links}
use Rattle.tree_model.specs.Rooted.{HasEntry, IsRooted}
use Rattle.tree_model.specs.Plain.{names_to}
use Rattle.volume_ops.specs.declared.found.Mapped.{Mapped}
use Rattle.volume_ops.specs.Places.{largest_size, birth_of, inode_of_birth, table_block}
use Rattle.volume_ops.specs.Volume.{disk_of}
use Rattle.volume_ops.proofs.SlotsLaws.{inode_of_birth_of}
use Rattle.volume_ops.specs.VolumeFields.{zone_behind, slot_behind, HasName, IsDirectoryOf, IsBelow}
use Rattle.volume_ops.specs.ZonePlaces.{zone_in as zone_walked}
use Rattle.volume_ops.specs.Faultless.{HasZones, IsEntryAt, IsReached, at_root, by_name}
use Rattle.volume_ops.proofs.VisitTests.{slot_used}
use Rattle.volume_ops.proofs.BlockPlaces.{led_reached}
use Rattle.volume_model.specs.declared.placed.Placed.{Placed}
use Rattle.volume_model.specs.declared.placed.Part.TheVariants as parts
use Rattle.volume_model.specs.declared.placed.DirectoryPart.{DirectoryPart}
use Rattle.volume_model.specs.Volume.{Place, zone_in, IsDirectoryPart, IsFilePart, IsPart, IsStored, HasNumber, IsNamedIn, HasNames, IsVolumeOf}
use Rattle.volume_model.specs.Moves.{IsVolume}
use Rattle.volume_model.specs.Ways.{IsJust}
use Rattle.volume_model.specs.Trees.{directory_from, node_now, tree_now}
use Rattle.volume_model.specs.Plain.{HasDots, HasSlotZones, inode_born, slots_in, IsPlainVolume, IsPlainContents}
use Rattle.volume_model.specs.ImageNodes.{IsImage, part_in, placed_in, contents_in}
use Rattle.volume_model.specs.laws.Trees.{In-at}
use Rattle.volume_model.proofs.Bytes.{inode_fits}
use Rattle.volume_model.proofs.ImageSlots.{made, at_made, made_at, keys_made, key_found, found_key, slots_length, slot_got, slot_reads}
use Rattle.volume_model.proofs.Nodes.{same_directory}
use Rattle.volume_model.proofs.Places.{to_walk, one_to_walk, zone_to_walk}
use Rattle.volume_model.proofs.SameTrees.{same_blocks}
use Rattle.volume_model.proofs.UsedSlots.{AreNamesOf, sorted_differ, used_is}

some_of_birth : (birth : ℕ) → 0 < inode_of_birth birth
some_of_birth birth = ⊎_elim (λ t. rw (eq-eqb birth 0 t) (omega arith)) (λ f. rw (ne_eqb birth 0 f) (omega arith)) (cases_eq birth 0)

dots_differ : codes "." ≡ codes ".." → ⊥
dots_differ e = let n : length (codes ".") ≡ length (codes "..") = ap length e in omega arith

keys_length : {K X : Type 0} (es : List (K × X)) → length (keys_of es) ≡ length es
keys_length [] = refl
keys_length (e ∷ es) = ap suc (keys_length es)

module _ (g : Geometry) (blocks : List (List ℕ)) (tree : List (ℕ × Node)) (image : IsImage g blocks) (some : 0 < g.inodes) (h : IsPlainVolume g blocks tree) where
  abbrev inode : ℕ → Inode
  inode b = inode_born g blocks b

  abbrev placed : List (ℕ × Placed)
  placed = made (placed_in g blocks) tree

  -- ---- nodes of the tree are reached

  reached : (b : ℕ) (n : Node) → at_number tree b ≡ Some n → IsReached g blocks (inode_of_birth b)
  reached b n at = (led_reached g blocks tree h.stands (h.stands.rooted.led_to b n at)).0

  one_birth : (b : ℕ) (n : Node) → at_number tree b ≡ Some n → birth_of (inode_of_birth b) ≡ b
  one_birth b n at = (led_reached g blocks tree h.stands (h.stands.rooted.led_to b n at)).1

  within : {k : ℕ} → IsReached g blocks k → k ≤ g.inodes
  within at_root = omega arith
  within (by_name {inode} {place} {slot} r m) = h.stands.faultless.inode_within inode place slot r m

  has_zones : (b : ℕ) (n : Node) → at_number tree b ≡ Some n → HasZones g blocks (inode_of_birth b)
  has_zones b (nodes.Directory d) at = inl (h.stands.fields.each b (nodes.Directory d) at).kind
  has_zones b (nodes.File f) at = inr (h.stands.fields.each b (nodes.File f) at).kind
  has_zones b (nodes.Other mode) at = absurd (h.no_other b mode at)

  -- ---- what a node's blocks say

  slot_is_read : (b : ℕ) (d : Directory) → at_number tree b ≡ Some (nodes.Directory d) → (k : ℕ) → k < (inode b).size / slot_size g.width → (s : Option Slot) × (slot_behind g blocks (inode b) k ≡ Ok s)
  slot_is_read b d at k low = h.stands.faultless.slot_read (inode_of_birth b) k (reached b (nodes.Directory d) at) (h.stands.fields.each b (nodes.Directory d) at).kind low

  directory_part : (b : ℕ) (d : Directory) (e : DirectoryPart) → e.width ≡ d.width → e.slots ≡ slots_in g blocks (inode b) → at_number tree b ≡ Some (nodes.Directory d) → IsDirectoryPart g blocks (inode b) e
  directory_part b d e wide is at =
      let says = h.stands.fields.each b (nodes.Directory d) at in
      let whole = h.stands.faultless.whole_slots (inode_of_birth b) (reached b (nodes.Directory d) at) says.kind in
      let long : length e.slots ≡ (inode b).size / slot_size g.width = ap length is ∙ slots_length g blocks (inode b) in
      record {
        kind = says.kind;
        width = wide ∙ says.width;
        size = bytes_whole (slot_size g.width) (slots_a_block g.width) (form_is g.width) _ whole ∙ ap (λ n. slot_size g.width * n) (sym long);
        slots = λ k s got.
            let x = slot_reads g blocks (inode b) (slot_is_read b d at) k s (sym (ap (λ (ss : List (Option Slot)). slice_get ss k) is) ∙ got) in
            let low = x.0 in
            let slots = says.slots in
            let mapped : zone_behind blocks (inode b) (k / slots_a_block g.width) ≢ 0 = (h.slot_zones b d at).no_hole (k / slots_a_block g.width) (begins_below (slot_size g.width) (slots_a_block g.width) (form_is g.width) k d.slots (omega arith)) in
            record { mapped = mapped; stands = (rw (ne_eqb (zone_behind blocks (inode b) (k / slots_a_block g.width)) 0 mapped) at x.1) };
      }

  indices_stand : (zone : ℕ → ℕ) (ks : List ℕ) → map (λ (m : Mapped). m.index) (map (λ k. record { index = k; zone = zone k }) ks) ≡ ks
  indices_stand zone [] = refl
  indices_stand zone (k ∷ ks) = ap (λ (is : List ℕ). k ∷ is) (indices_stand zone ks)

  file_part : (b : ℕ) (f : File) → at_number tree b ≡ Some (nodes.File f) → IsFilePart blocks (inode b) (map (λ k. record { index = k; zone = zone_behind blocks (inode b) k }) (keys_of f.blocks))
  file_part b f at =
      let says = h.stands.fields.each b (nodes.File f) at in
      record {
        kind = says.kind;
        listed = λ x i.
            let y = In-map (λ k. record { index = k; zone = zone_behind blocks (inode b) k }) (keys_of f.blocks) x i in
            let v = key_found nat_cmp number_here number_same f.blocks y.0 y.1 in
            subst (λ (m : Mapped). (zone_behind blocks (inode b) m.index ≡ m.zone) × (m.zone ≢ 0)) y.2
            (refl, λ none. none-some v.0 (rw (eq-eqb (zone_behind blocks (inode b) y.0) 0 none) at (sym (says.bodies y.0) ∙ v.1)));
        full = λ k mapped.
            let body : at_number f.blocks k ≡ Some (disk_of blocks (zone_behind blocks (inode b) k)) = says.bodies k ∙ rw (ne_eqb (zone_behind blocks (inode b) k) 0 mapped) refl in
            map-In (λ k. record { index = k; zone = zone_behind blocks (inode b) k }) (keys_of f.blocks) k (found_key nat_cmp number_here number_same f.blocks k (disk_of blocks (zone_behind blocks (inode b) k)) body);
        rising = subst (IsStrictlySortedBy nat_cmp) (sym (indices_stand (zone_behind blocks (inode b)) (keys_of f.blocks))) (h.stands.blocks_in_order b f at);
      }

  part_stands : (b : ℕ) (n : Node) → at_number tree b ≡ Some n → IsPart g blocks (inode b) (part_in g blocks (inode b) n)
  part_stands b (nodes.Directory d) at = directory_part b d (record { parent = d.parent; width = d.width; names = d.names; slots = slots_in g blocks (inode b) }) refl refl at
  part_stands b (nodes.File f) at = file_part b f at
  part_stands b (nodes.Other mode) at = absurd (h.no_other b mode at)

  stored_in : (b : ℕ) (n : Node) → at_number tree b ≡ Some n → IsStored g blocks (placed_in g blocks b n)
  stored_in b n at = record {
    some = some_of_birth b;
    within = within (reached b n at);
    fits = inode_fits _ (disk_of blocks (table_block g (inode_of_birth b))) (image.bytes (table_block g (inode_of_birth b)));
    inode = refl;
    zones = λ x there.
        let e = zone_to_walk blocks (inode b) image.whole x in
        subst (λ z. (g.first ≤ z) × (z < g.zones)) (sym e)
        (h.stands.faultless.zone_within (inode_of_birth b) (to_walk x) (reached b n at) (has_zones b n at) (λ none. there (e ∙ none)));
    part = part_stands b n at;
  }

  -- a node of the image, by what stands at its birth
  record IsMade (b : ℕ) (p : Placed) : Type 0 where
    pub node : Node
    pub stands : at_number tree b ≡ Some node
    pub same : placed_in g blocks b node ≡ p

  is_made : (b : ℕ) (p : Placed) → at_number placed b ≡ Some p → IsMade b p
  is_made b p at = let x = made_at (placed_in g blocks) tree b p at in record { node = x.0; stands = x.1; same = x.2 }

  -- so a directory
  record IsMadeDirectory (b : ℕ) (d : DirectoryPart) : Type 0 where
    pub directory : Directory
    pub stands : at_number tree b ≡ Some (nodes.Directory directory)
    pub same : ◌≡◌ {A = DirectoryPart} (record { parent = directory.parent; width = directory.width; names = directory.names; slots = slots_in g blocks (inode b) }) d

  made_part : (b : ℕ) (n : Node) (d : DirectoryPart) → at_number tree b ≡ Some n → part_in g blocks (inode b) n ≡ parts.Directory d → IsMadeDirectory b d
  made_part b (nodes.Directory e) d at is = record { directory = e; stands = at; same = same_directory _ d is }
  made_part b (nodes.File f) d at is = absurd (let e : part_in g blocks (inode b) (nodes.File f) ≡ parts.Directory d = is in cc)
  made_part b (nodes.Other mode) d at is = absurd (h.no_other b mode at)

  made_directory : (b : ℕ) (p : Placed) (d : DirectoryPart) → at_number placed b ≡ Some p → p.part ≡ parts.Directory d → IsMadeDirectory b d
  made_directory b p d at is = let x = is_made b p at in made_part b x.node d x.stands (ap (λ (p : Placed). p.part) x.same ∙ is)

  record IsMadeFile (b : ℕ) (zones : List Mapped) : Type 0 where
    pub file : File
    pub stands : at_number tree b ≡ Some (nodes.File file)

  made_file_part : (b : ℕ) (n : Node) (zones : List Mapped) → at_number tree b ≡ Some n → part_in g blocks (inode b) n ≡ parts.File zones → IsMadeFile b zones
  made_file_part b (nodes.File f) zones at is = record { file = f; stands = at }
  made_file_part b (nodes.Directory d) zones at is = absurd (let e : part_in g blocks (inode b) (nodes.Directory d) ≡ parts.File zones = is in cc)
  made_file_part b (nodes.Other mode) zones at is = absurd (h.no_other b mode at)

  made_file : (b : ℕ) (p : Placed) (zones : List Mapped) → at_number placed b ≡ Some p → p.part ≡ parts.File zones → IsMadeFile b zones
  made_file b p zones at is = let x = is_made b p at in made_file_part b x.node zones x.stands (ap (λ (p : Placed). p.part) x.same ∙ is)

  has_number : (b : ℕ) (n : Node) → at_number tree b ≡ Some n → HasNumber placed b (inode_of_birth b)
  has_number b n at = (placed_in g blocks b n, at_made (placed_in g blocks) tree b n at, refl)

  -- ---- names

  module _ (b : ℕ) (d : Directory) (at : at_number tree b ≡ Some (nodes.Directory d)) where
    abbrev slots : List (Option Slot)
    slots = slots_in g blocks (inode b)

    abbrev says : IsDirectoryOf g blocks (inode b) d
    says = h.stands.fields.each b (nodes.Directory d) at

    entry : (k : ℕ) (s : Slot) → slice_get slots k ≡ Some (Some s) → is_dot s.name ≡ false → IsEntryAt g blocks (inode b) k s
    entry k s got no_dot = let x = slot_reads g blocks (inode b) (slot_is_read b d at) k (Some s) got in record { below = x.0; stands = x.1; no_dot = no_dot }

    number_of : (name : List ℕ) (birth : ℕ) → at_name d.names name ≡ Some birth → (s : Slot) → 0 < s.inode → birth_of s.inode ≡ birth → HasNumber placed birth s.inode
    number_of name birth named s used is =
        let x = h.stands.fields.leads b name birth (record { directory = d; stands = at; named = named }) in
        let y = has_number birth x.0 x.1 in
        (y.0, y.1, y.2 ∙ (ap inode_of_birth (sym is) ∙ inode_of_birth_of s.inode used))

    named_in : (name : List ℕ) (birth : ℕ) → at_name d.names name ≡ Some birth → IsNamedIn placed slots name birth
    named_in name birth named =
        let x = (says.names name birth).0 named in
        let got = slot_got g blocks (inode b) x.place (Some x.slot) x.below x.stands in
        let no_dot : is_dot x.slot.name ≡ false = subst (λ n. is_dot n ≡ false) (sym x.name_is) x.no_dot in
        record {
          place = x.place;
          slot = x.slot;
          stands = got;
          name_is = x.name_is;
          no_dot = x.no_dot;
          number = number_of name birth named x.slot (slot_used g blocks (inode b) x.place x.slot (entry x.place x.slot got no_dot)) x.birth_is;
        }

    full_in : (k : ℕ) (s : Slot) → slice_get slots k ≡ Some (Some s) → is_dot s.name ≡ false → (birth : ℕ) × (at_name d.names s.name ≡ Some birth) × HasNumber placed birth s.inode
    full_in k s got no_dot =
        let e = entry k s got no_dot in
        let has : HasName g blocks (inode b) s.name (birth_of s.inode) = record { place = k; slot = s; below = e.below; stands = e.stands; name_is = refl; no_dot = no_dot; birth_is = refl } in
        let named = (says.names s.name (birth_of s.inode)).1 has in
        (birth_of s.inode, named, number_of s.name (birth_of s.inode) named s (slot_used g blocks (inode b) k s e) refl)

    abbrev dots : HasDots slots (inode_of_birth b) (inode_of_birth d.parent)
    dots = h.dots b d at

    name_at : (k j : ℕ) (s t : Slot) → slice_get slots k ≡ Some (Some s) → k ≡ j → slice_get slots j ≡ Some (Some t) → s.name ≡ t.name
    name_at k j s t got e to = ap (λ (s : Slot). s.name) (same_Some s t (same_Some (Some s) (Some t) (sym got ∙ (ap (slice_get slots) e ∙ to))))

    -- the slot of a dot is the first or the second
    dot_at : (k : ℕ) (s : Slot) → slice_get slots k ≡ Some (Some s) → is_dot s.name ≡ true → ((k ≡ 0) × (s.name ≡ codes ".")) ⊎ ((k ≡ 1) × (s.name ≡ codes ".."))
    dot_at k s got dot =
        ⊎_elim
        (λ zero_is. inl (zero_is, name_at k 0 s _ got zero_is dots.here))
        (λ more.
        ⊎_elim
        (λ one_is. inr (one_is, name_at k 1 s _ got one_is dots.above))
        (λ later. absurd (true≢false (sym dot ∙ dots.no_later k s (omega arith) got)))
        (cases_eq k 1))
        (cases_eq k 0)

    once_in : (j k : ℕ) (s t : Slot) → slice_get slots j ≡ Some (Some s) → slice_get slots k ≡ Some (Some t) → s.name ≡ t.name → j ≡ k
    once_in j k s t got to same =
        elim (cases_Bool (is_dot s.name)) [
          | inl dot ↦ dots_once (dot_at j s got dot) (dot_at k t to (subst (λ n. is_dot n ≡ true) same dot))
          | inr f ↦ h.stands.faultless.name_once (inode_of_birth b) j k s t (reached b (nodes.Directory d) at)
              (record { directory = says.kind; entry = entry j s got f })
              (record { directory = says.kind; entry = entry k t to (subst (λ n. is_dot n ≡ false) same f) }) same
        ]
      where
        dots_once : ((j ≡ 0) × (s.name ≡ codes ".")) ⊎ ((j ≡ 1) × (s.name ≡ codes "..")) → ((k ≡ 0) × (t.name ≡ codes ".")) ⊎ ((k ≡ 1) × (t.name ≡ codes "..")) → j ≡ k
        dots_once (inl x) (inl y) = x.0 ∙ sym y.0
        dots_once (inr x) (inr y) = x.0 ∙ sym y.0
        dots_once (inl x) (inr y) = absurd (dots_differ (sym x.1 ∙ (same ∙ y.1)))
        dots_once (inr x) (inl y) = absurd (dots_differ (sym y.1 ∙ (sym same ∙ x.1)))

    abbrev all_names : List (List ℕ)
    all_names = codes "." ∷ codes ".." ∷ keys_of d.names

    key_named : (name : List ℕ) → In name (keys_of d.names) → (birth : ℕ) × (at_name d.names name ≡ Some birth)
    key_named name i = key_found name_cmp name_here name_same d.names name i

    dot_apart : (name : List ℕ) → is_dot name ≡ true → In name (keys_of d.names) → ⊥
    dot_apart name dot i = let x = key_named name i in true≢false (sym dot ∙ (named_in name x.0 x.1).no_dot)

    are_named : AreNamesOf slots all_names
    are_named = record {
      differ = (
        λ i. ⊎_elim (λ e. dots_differ (sym e)) (λ i. dot_apart (codes ".") refl i) i,
        (λ i. dot_apart (codes "..") refl i, sorted_differ (keys_of d.names) (h.stands.rooted.names_in_order b d at)),
      );
      placed = λ n i. place_of n i;
      named = λ k s got.
          elim (cases_Bool (is_dot s.name)) [
            | inl dot ↦ ⊎_elim (λ x. inl (sym x.1)) (λ x. inr (inl (sym x.1))) (dot_at k s got dot)
            | inr f ↦ (let x = full_in k s got f in inr (inr (found_key name_cmp name_here name_same d.names s.name x.0 x.1)))
          ];
      once = once_in;
    }
      where
        place_of : (n : List ℕ) → In n all_names → (k : ℕ) × (s : Slot) × (slice_get slots k ≡ Some (Some s)) × (s.name ≡ n)
        place_of n (inl e) = (0, record { inode = inode_of_birth b; name = codes "." }, dots.here, e)
        place_of n (inr (inl e)) = (1, record { inode = inode_of_birth d.parent; name = codes ".." }, dots.above, e)
        place_of n (inr (inr i)) = (let x = key_named n i in let y = named_in n x.0 x.1 in (y.place, y.slot, y.stands, y.name_is))

    names_stand : HasNames placed (record { parent = d.parent; width = d.width; names = d.names; slots = slots })
    names_stand = record {
      named = named_in;
      full = full_in;
      count = (let used = used_is all_names slots are_named in let names = keys_length d.names in omega arith);
      once = once_in;
    }

  -- ---- the blocks say the nodes

  made_inode : (b : ℕ) (p : Placed) → at_number placed b ≡ Some p → inode b ≡ p.inode
  made_inode b p at = ap (λ (p : Placed). p.inode) (is_made b p at).same

  made_number : (b : ℕ) (p : Placed) → at_number placed b ≡ Some p → inode_of_birth b ≡ p.number
  made_number b p at = ap (λ (p : Placed). p.number) (is_made b p at).same

  birth_is : (b : ℕ) (p : Placed) → at_number placed b ≡ Some p → birth_of (inode_of_birth b) ≡ b
  birth_is b p at = let x = is_made b p at in one_birth b x.node x.stands

  zone_walked_is : (b : ℕ) (p : Placed) → at_number placed b ≡ Some p → (x : Place) → zone_in blocks p.inode x ≡ zone_walked blocks (inode b) (to_walk x)
  zone_walked_is b p at x = ap (λ i. zone_in blocks i x) (sym (made_inode b p at)) ∙ zone_to_walk blocks (inode b) image.whole x

  volume_of : IsVolumeOf g blocks placed
  volume_of = record {
    whole = image.whole;
    size = image.size;
    in_order = subst (IsStrictlySortedBy nat_cmp) (sym (keys_made (placed_in g blocks) tree)) h.stands.rooted.in_order;
    each = λ b p at. (let x = is_made b p at in subst (IsStored g blocks) x.same (stored_in b x.node x.stands));
    names = λ b p d at is. (let x = made_directory b p d at is in subst (HasNames placed) x.same (names_stand b x.directory x.stands));
    numbers = λ a b p q at to e. sym (birth_is a p at) ∙ (ap birth_of (made_number a p at ∙ (e ∙ sym (made_number b q to))) ∙ birth_is b q to);
    zones = λ a b p q x y at to e there.
        let m = is_made a p at in
        let n = is_made b q to in
        let one = h.stands.faultless.zone_once (inode_of_birth a) (inode_of_birth b) (to_walk x) (to_walk y) (reached a m.node m.stands) (reached b n.node n.stands)
        (has_zones a m.node m.stands) (has_zones b n.node n.stands) (λ none. there (zone_walked_is a p at x ∙ none)) (sym (zone_walked_is a p at x) ∙ (e ∙ zone_walked_is b q to y)) in
        (sym (birth_is a p at) ∙ (ap birth_of one.0 ∙ birth_is b q to), one_to_walk x y one.1);
  }

  volume : IsVolume g (record { blocks = blocks; nodes = placed })
  volume = (volume_of, λ b p at. (let x = is_made b p at in subst (λ i. IsJust (λ x. zone_in blocks i x)) (made_inode b p at) (h.just b x.node x.stands)))

  -- ---- its tree is the image's

  node_same : (b : ℕ) (n : Node) → at_number tree b ≡ Some n → node_now blocks (placed_in g blocks b n) ≡ n
  node_same b (nodes.Directory d) at =
      let slots_are : length (slots_in g blocks (inode b)) ≡ d.slots = slots_length g blocks (inode b) ∙ sym (h.stands.fields.each b (nodes.Directory d) at).slots in
      ap nodes.Directory (rw slots_are refl)
  node_same b (nodes.File f) at =
      let says = h.stands.fields.each b (nodes.File f) at in
      let size : (inode b).size ≡ f.size = sym says.size in
      let links : (inode b).links ≡ f.links = sym says.links in
      let bodies = same_blocks blocks (inode b) (map (λ k. record { index = k; zone = zone_behind blocks (inode b) k }) (keys_of f.blocks)) f (file_part b f at) says (h.stands.blocks_in_order b f at) in
      ap nodes.File (rw (size, links, bodies) refl)
  node_same b (nodes.Other mode) at = absurd (h.no_other b mode at)

  all_same : (es : List (ℕ × Node)) → ((e : ℕ × Node) → In e es → node_now blocks (placed_in g blocks e.0 e.1) ≡ e.1) → map (λ e. (e.0, node_now blocks e.1)) (made (placed_in g blocks) es) ≡ es
  all_same [] same = refl
  all_same (e ∷ es) same =
      ap (λ n. (e.0, n) ∷ map (λ e. (e.0, node_now blocks e.1)) (made (placed_in g blocks) es)) (same e (inl refl)) ∙ ap (λ more. e ∷ more) (all_same es (λ x i. same x (inr i)))

  now_is : tree_now blocks placed ≡ tree
  unfolding tree_now
  now_is = all_same tree (λ e i. node_same e.0 e.1 (In-at tree e.0 e.1 h.stands.rooted.in_order i))

  -- ---- the rest of a plain volume

  parent_of : Node → ℕ
  parent_of (nodes.Directory d) = d.parent
  parent_of (nodes.File f) = 0
  parent_of (nodes.Other mode) = 0

  parent_at_root : (d : Directory) → at_number tree 0 ≡ Some (nodes.Directory d) → d.parent ≡ 0
  unfolding parent_of
  parent_at_root d at =
      let x = h.stands.fields.root in
      ap parent_of (same_Some (nodes.Directory d) (nodes.Directory x.0) (sym at ∙ x.1)) ∙ x.2

  parent_by_name : (parent : ℕ) (name : List ℕ) (birth : ℕ) (d : Directory) → HasEntry tree parent name birth → at_number tree birth ≡ Some (nodes.Directory d) → d.parent ≡ parent
  parent_by_name parent name birth d gives at =
      let x = h.stands.fields.leads parent name birth gives in
      subst (IsBelow parent) (same_Some x.0 (nodes.Directory d) (sym x.1 ∙ at)) x.2

  parent_stands : (b : ℕ) (d : Directory) → at_number tree b ≡ Some (nodes.Directory d) → (n : Node) × (at_number tree d.parent ≡ Some n)
  parent_stands b d at =
      ⊎_elim
      (λ e.
      let here : at_number tree 0 ≡ Some (nodes.Directory d) = subst (λ b. at_number tree b ≡ Some (nodes.Directory d)) e at in
      (nodes.Directory d, ap (at_number tree) (parent_at_root d here) ∙ here))
      (λ ne.
      let x = h.stands.fields.has_name b (nodes.Directory d) at ne in
      (nodes.Directory x.2.directory, ap (at_number tree) (parent_by_name x.0 x.1 b d x.2 at) ∙ x.2.stands))
      (cases_eq b 0)

  dots_stand : (b : ℕ) (p : Placed) (d : DirectoryPart) → at_number placed b ≡ Some p → p.part ≡ parts.Directory d → (q : Placed) × (at_number placed d.parent ≡ Some q) × HasDots d.slots p.number q.number
  dots_stand b p d at is =
      let x = made_directory b p d at is in
      let y = parent_stands b x.directory x.stands in
      subst (λ (d : DirectoryPart). (q : Placed) × (at_number placed d.parent ≡ Some q) × HasDots d.slots p.number q.number) x.same (
        placed_in g blocks x.directory.parent y.0,
        at_made (placed_in g blocks) tree x.directory.parent y.0 y.1,
        subst (λ n. HasDots (slots_in g blocks (inode b)) n (inode_of_birth x.directory.parent)) (made_number b p at) (h.dots b x.directory x.stands),
      )

  slot_zones_stand : (b : ℕ) (p : Placed) (d : DirectoryPart) → at_number placed b ≡ Some p → p.part ≡ parts.Directory d → HasSlotZones g blocks p.inode (length d.slots)
  slot_zones_stand b p d at is =
      let x = made_directory b p d at is in
      let long : length (slots_in g blocks (inode b)) ≡ x.directory.slots = slots_length g blocks (inode b) ∙ sym (h.stands.fields.each b (nodes.Directory x.directory) x.stands).slots in
      subst (λ (d : DirectoryPart). HasSlotZones g blocks p.inode (length d.slots)) x.same
      (subst (λ i. HasSlotZones g blocks i (length (slots_in g blocks (inode b)))) (made_inode b p at)
      (subst (HasSlotZones g blocks (inode b)) (sym long) (h.slot_zones b x.directory x.stands)))

  directory_links_stand : (b : ℕ) (p : Placed) (d : DirectoryPart) → at_number placed b ≡ Some p → p.part ≡ parts.Directory d → p.inode.links ≡ directory_links (tree_now blocks placed) (directory_from d)
  directory_links_stand b p d at is =
      let x = made_directory b p d at is in
      ap (λ (i : Inode). i.links) (sym (made_inode b p at))
      ∙ (h.directory_links_are b x.directory x.stands
      ∙ (ap (λ t. directory_links t x.directory) (sym now_is) ∙ ap (λ (d : DirectoryPart). directory_links (tree_now blocks placed) (directory_from d)) x.same))

  file_links_stand : (b : ℕ) (p : Placed) (zones : List Mapped) → at_number placed b ≡ Some p → p.part ≡ parts.File zones → p.inode.links ≡ names_to (tree_now blocks placed) b
  file_links_stand b p zones at is =
      let x = made_file b p zones at is in
      ap (λ (i : Inode). i.links) (sym (made_inode b p at))
      ∙ (sym (h.stands.fields.each b (nodes.File x.file) x.stands).links ∙ (h.file_links_are b x.file x.stands ∙ ap (λ t. names_to t b) (sym now_is)))

  pub contents_plain : IsPlainContents g (contents_in g blocks tree)
  unfolding contents_in
  contents_plain = record {
    volume = volume;
    rooted = subst IsRooted (sym now_is) h.stands.rooted;
    root_number = λ p at. sym (made_number 0 p at);
    root_parent = λ d at. parent_at_root d (subst (λ t. at_number t 0 ≡ Some (nodes.Directory d)) now_is at);
    parents = λ parent name birth d gives at.
        parent_by_name parent name birth d (subst (λ t. HasEntry t parent name birth) now_is gives) (subst (λ t. at_number t birth ≡ Some (nodes.Directory d)) now_is at);
    sizes = λ b p zones at is.
        let x = made_file b p zones at is in
        subst (λ (i : Inode). i.size ≤ largest_size) (made_inode b p at) (h.stands.faultless.size (inode_of_birth b) (reached b (nodes.File x.file) x.stands) (has_zones b (nodes.File x.file) x.stands));
    dots = dots_stand;
    slot_zones = slot_zones_stand;
    directory_links_are = directory_links_stand;
    file_links_are = file_links_stand;
    few_links = λ b p at. (let x = is_made b p at in subst (λ (i : Inode). i.links ≤ 250) (made_inode b p at) (h.few_links b x.node x.stands));
  }

  pub contents_tree : tree_now blocks (contents_in g blocks tree).nodes ≡ tree
  unfolding contents_in
  contents_tree = now_is
