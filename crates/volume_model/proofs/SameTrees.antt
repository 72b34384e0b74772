-- The tree of a plain volume that changes is that of its image but for the births, and the image is plain.
use Rattle.std.specs.Prelude.{◌/◌, ◌≡◌, ◌≢◌, ℕ, ◌+◌, ◌==◌, Bool, cond, true, false, ◌<◌, ◌≤◌, List, [], ◌∷◌, length, map, Option, Some, None, Result, Ok, Err, IsOk, refl}
use Rattle.std.specs.List.{count_by}
use Rattle.std.specs.List.Sorted.{IsStrictlySortedBy}
use Rattle.std.specs.BTreeMap.{is_at}
use Rattle.std.specs.Map.{keys_of, values_of, lookup}
use Rattle.std.specs.Ordering.{nat_cmp}
use Rattle.std.proofs.Common.{sym, ap, subst, ◌∙◌, inl, inr, ⊎_elim, arith}
use Rattle.std.proofs.lemmas.Bool.{cases_Bool, cases_eq, eq-eqb, ne_eqb, true≢false}
use Rattle.std.proofs.lemmas.Cmp.{nat_cmp_total, nat_list_cmp_total}
use Rattle.std.proofs.lemmas.List.Sums.{sum_by-cons}
use Rattle.std.proofs.lemmas.Option.{none-some, same_Some}
use Rattle.blk_base.specs.Members.{In}
use Rattle.blk_base.specs.laws.Members.{slice_get-length, slice_get-in_range, same_by_slice_get}
use Rattle.minix_layout.specs.laws.Places.{form_is, bytes_of_slots}
use Rattle.minix_layout.specs.Widths.{slot_size, slots_a_block}
use Rattle.minix_layout.specs.declared.division.Geometry.{Geometry}
use Rattle.minix_layout.specs.declared.inode.Inode.{Inode}
use Rattle.tree_model.specs.declared.node.Node.{Node}
use Rattle.tree_model.specs.declared.node.Node.TheVariants as nodes
use Rattle.tree_model.specs.declared.node.Directory.{Directory}
use Rattle.tree_model.specs.declared.node.File.{File}
use Rattle.tree_model.specs.Maps.{at_number, at_name, name_cmp}
use Rattle.tree_model.specs.laws.MapsLaws.{number_here, number_same, name_here, name_same}
use Rattle.tree_model.specs.Paths.{is_dot}
use Rattle.tree_model.specs.Rooted.{HasEntry, IsLedTo, at_root, by_name}
use Rattle.tree_model.specs.Plain.{names_in_node, names_to}
use Rattle.tree_model.specs.Trees.{Refusal, step_at, led_to, node_of_path, is_directory, SameMetadata, SameMetadataAt, SameLinks, SameBytes, AreAlike, IsSameButBirths, directory_links}
use Rattle.tree_model.specs.laws.Alike.{step_gives, step_given, led_on, led_parts, led_is_led}
use Rattle.tree_model.specs.laws.MapOrder.{InOrder, in_order_put, at_put_cases}
use Rattle.tree_model.specs.laws.Sums.{count_by_same}
use Rattle.volume_ops.specs.laws.ReadsLaws.{same_Ok}
use Rattle.volume_ops.proofs.SlotsLaws.{inode_of_birth_of}
use Rattle.volume_ops.specs.declared.found.Mapped.{Mapped}
use Rattle.volume_ops.specs.Places.{birth_of, inode_of_birth}
use Rattle.volume_ops.specs.Places.{is_directory as is_directory_mode}
use Rattle.volume_ops.specs.Volume.{disk_of, bodies_of}
use Rattle.volume_ops.specs.VolumeFields.{inode_at, zone_behind, block_behind, HasName, IsDirectoryOf, IsFileOf, IsNodeOf, IsBelow}
use Rattle.volume_ops.specs.Faultless.{IsReached}
use Rattle.volume_ops.specs.VolumeTrees.{IsVolumeTree}
use Rattle.volume_ops.proofs.BlockPlaces.{led_reached}
use Rattle.volume_ops.proofs.TreeUnique.{same_maps, same_options}
use Rattle.volume_model.specs.declared.placed.Placed.{Placed}
use Rattle.volume_model.specs.declared.placed.Part.{Part}
use Rattle.volume_model.specs.declared.placed.Part.TheVariants as parts
use Rattle.volume_model.specs.declared.placed.DirectoryPart.{DirectoryPart}
use Rattle.volume_model.specs.Volume.{zone_in, IsDirectoryPart, IsFilePart, IsPart}
use Rattle.volume_model.specs.Touched.{Contents}
use Rattle.volume_model.specs.Trees.{in_order, directory_from, node_from, node_now, tree_now}
use Rattle.volume_model.specs.Ways.{IsJust}
use Rattle.volume_model.specs.Plain.{HasDots, HasSlotZones, inode_born, slots_in, IsPlainVolume, IsPlainContents}
use Rattle.volume_model.proofs.Nodes.{as_directory, as_file, reached_node, slot_read, entry_got, no_directory_file, tree_at, tree_back, tree_directory, placing, stored, root_placing}
use Rattle.volume_model.proofs.ImageSlots.{slots_length, slot_got}
use Rattle.volume_model.proofs.MovedSums.{sum_moved}

-- ---- maps with other values

abbrev pub seen : {K X Y : Type 0} → (X → Y) → List (K × X) → List (K × Y)
seen f es = map (λ e. (e.0, f e.1)) es

module _ {K X Y : Type 0} (f : X → Y) (test : K → Bool) where
  pub lookup_seen : (es : List (K × X)) (x : X) → lookup test es ≡ Some x → lookup test (seen f es) ≡ Some (f x)
  lookup_seen [] x h = absurd (none-some x h)
  lookup_seen (e ∷ es) x h =
      elim (cases_Bool (test e.0)) [
        | inl t ↦ rw t (ap (λ x. Some (f x)) (same_Some e.1 x (rw t at h)))
        | inr u ↦ rw u (lookup_seen es x (rw u at h))
      ]

  pub seen_lookup : (es : List (K × X)) (y : Y) → lookup test (seen f es) ≡ Some y → (x : X) × (lookup test es ≡ Some x) × (f x ≡ y)
  seen_lookup [] y h = absurd (none-some y h)
  seen_lookup (e ∷ es) y h =
      elim (cases_Bool (test e.0)) [
        | inl t ↦ (e.1, rw t refl, same_Some (f e.1) y (rw t at h))
        | inr u ↦ (let x = seen_lookup es y (rw u at h) in (x.0, rw u x.1, x.2))
      ]

pub keys_seen : {K X Y : Type 0} (f : X → Y) (es : List (K × X)) → keys_of (seen f es) ≡ keys_of es
keys_seen f [] = refl
keys_seen f (e ∷ es) = ap (λ ks. e.0 ∷ ks) (keys_seen f es)

count_seen : {K X Y : Type 0} (f : X → Y) (q : K × Y → Bool) (es : List (K × X)) → count_by q (seen f es) ≡ count_by (λ e. q (e.0, f e.1)) es
count_seen f q [] = refl
count_seen f q (e ∷ es) =
    sum_by-cons (λ x. cond (q x) 1 0) (e.0, f e.1) (seen f es)
    ∙ (ap (λ n. cond (q (e.0, f e.1)) 1 0 + n) (count_seen f q es) ∙ sym (sum_by-cons (λ e. cond (q (e.0, f e.1)) 1 0) e es))

-- ---- entries put in order

pub order_sorted : {X : Type 0} (es : List (ℕ × X)) → InOrder (in_order es)
unfolding IsStrictlySortedBy
order_sorted [] = tt
order_sorted (e ∷ es) = in_order_put (in_order es) e.0 e.1 (order_sorted es)

-- ---- the blocks of a file

module _ (blocks : List (List ℕ)) (i : Inode) where
  abbrev Bodies : List Mapped → List (ℕ × List ℕ)
  Bodies zones = in_order (bodies_of blocks zones)

  listed_body : (zones : List Mapped) → ((x : Mapped) → In x zones → (zone_behind blocks i x.index ≡ x.zone) × (x.zone ≢ 0)) → (k : ℕ) (body : List ℕ) →
      at_number (Bodies zones) k ≡ Some body → block_behind blocks i k ≡ Some body
  listed_body [] listed k body e = absurd (none-some body e)
  listed_body (m ∷ ms) listed k body e =
      at_put_cases (λ o. o ≡ Some body → block_behind blocks i k ≡ Some body) (Bodies ms) m.index (disk_of blocks m.zone) k
      (λ same f.
      let x = listed m (inl refl) in
      let zone : zone_behind blocks i k ≡ m.zone = ap (zone_behind blocks i) same ∙ x.0 in
      let some : (zone_behind blocks i k == 0) ≡ false = ne_eqb (zone_behind blocks i k) 0 (λ none. x.1 (sym zone ∙ none)) in
      rw some (ap (λ z. Some (disk_of blocks z)) zone ∙ f))
      (λ apart f. listed_body ms (λ x at. listed x (inr at)) k body f)
      e

  body_listed : (zones : List Mapped) → ((x : Mapped) → In x zones → (zone_behind blocks i x.index ≡ x.zone) × (x.zone ≢ 0)) → (k : ℕ) (m : Mapped) → In m zones → m.index ≡ k →
      at_number (Bodies zones) k ≡ Some (disk_of blocks (zone_behind blocks i k))
  body_listed [] listed k m at same = absurd at
  body_listed (n ∷ ms) listed k m (inl e) same =
      let here : k ≡ n.index = sym same ∙ sym (ap (λ (m : Mapped). m.index) e) in
      at_put_cases (λ o. o ≡ Some (disk_of blocks (zone_behind blocks i k))) (Bodies ms) n.index (disk_of blocks n.zone) k
      (λ e. ap (λ z. Some (disk_of blocks z)) (sym (listed n (inl refl)).0 ∙ ap (zone_behind blocks i) (sym e)))
      (λ apart. absurd (apart here))
  body_listed (n ∷ ms) listed k m (inr later) same =
      at_put_cases (λ o. o ≡ Some (disk_of blocks (zone_behind blocks i k))) (Bodies ms) n.index (disk_of blocks n.zone) k
      (λ e. ap (λ z. Some (disk_of blocks z)) (sym (listed n (inl refl)).0 ∙ ap (zone_behind blocks i) (sym e)))
      (λ apart. body_listed ms (λ x at. listed x (inr at)) k m later same)

  pub body_at : (zones : List Mapped) → IsFilePart blocks i zones → (k : ℕ) → at_number (Bodies zones) k ≡ block_behind blocks i k
  body_at zones part k =
      same_options (at_number (Bodies zones) k) (block_behind blocks i k) (λ body e. listed_body zones part.listed k body e)
      (λ body e.
      ⊎_elim
      (λ none. absurd (none-some body (rw (eq-eqb (zone_behind blocks i k) 0 none) at e)))
      (λ some. body_listed zones part.listed k (record { index = k; zone = zone_behind blocks i k }) (part.full k some) refl ∙ (rw (ne_eqb (zone_behind blocks i k) 0 some) at e))
      (cases_eq (zone_behind blocks i k) 0))

  pub same_blocks : (zones : List Mapped) (f : File) → IsFilePart blocks i zones → IsFileOf blocks i f → InOrder f.blocks → Bodies zones ≡ f.blocks
  same_blocks zones f part of ordered =
      same_maps nat_cmp nat_cmp_total number_here number_same (Bodies zones) f.blocks (order_sorted (bodies_of blocks zones)) ordered (λ k. body_at zones part k ∙ sym (of.bodies k))

  -- ---- a node that says what its inode says, and the part of the inode

  abbrev FilesInOrder : Node → Type 0
  FilesInOrder (nodes.File f) = InOrder f.blocks
  FilesInOrder other = Unit {0}

  module _ (g : Geometry) where
    same_metadata : (part : Part) (m : Node) → IsPart g blocks i part → IsNodeOf g blocks i m → FilesInOrder m → SameMetadata (node_from blocks i part) m
    same_metadata (parts.Directory d) (nodes.Directory e) part of ordered = sym (bytes_of_slots (slot_size g.width) (slots_a_block g.width) (form_is g.width) (length d.slots)) ∙ (ap (λ n. n / slot_size g.width) (sym part.size) ∙ sym of.slots)
    same_metadata (parts.Directory d) (nodes.File f) part of ordered = absurd (no_directory_file i.mode part.kind of.kind)
    same_metadata (parts.Directory d) (nodes.Other mode) part of ordered = absurd (true≢false (sym part.kind ∙ of.no_directory))
    same_metadata (parts.File zones) (nodes.File f) part of ordered = (sym of.size, sym of.links, ap keys_of (same_blocks zones f part of ordered))
    same_metadata (parts.File zones) (nodes.Directory d) part of ordered = absurd (no_directory_file i.mode of.kind part.kind)
    same_metadata (parts.File zones) (nodes.Other mode) part of ordered = absurd (true≢false (sym part.kind ∙ of.no_file))

    same_bytes : (part : Part) (m : Node) → IsPart g blocks i part → IsNodeOf g blocks i m → FilesInOrder m → SameBytes (Some (node_from blocks i part)) (Some m)
    same_bytes (parts.File zones) (nodes.File f) part of ordered = same_blocks zones f part of ordered
    same_bytes (parts.File zones) (nodes.Directory d) part of ordered = tt
    same_bytes (parts.File zones) (nodes.Other mode) part of ordered = tt
    same_bytes (parts.Directory d) m part of ordered = tt

    same_kind : (part : Part) (m : Node) → IsPart g blocks i part → IsNodeOf g blocks i m → is_directory (Some (node_from blocks i part)) ≡ is_directory (Some m)
    same_kind (parts.Directory d) (nodes.Directory e) part of = refl
    same_kind (parts.Directory d) (nodes.File f) part of = absurd (no_directory_file i.mode part.kind of.kind)
    same_kind (parts.Directory d) (nodes.Other mode) part of = absurd (true≢false (sym part.kind ∙ of.no_directory))
    same_kind (parts.File zones) (nodes.File f) part of = refl
    same_kind (parts.File zones) (nodes.Directory d) part of = absurd (no_directory_file i.mode of.kind part.kind)
    same_kind (parts.File zones) (nodes.Other mode) part of = refl

    directory_node : (m : Node) → IsNodeOf g blocks i m → is_directory_mode i.mode ≡ true → (e : Directory) × (m ≡ nodes.Directory e) × IsDirectoryOf g blocks i e
    directory_node (nodes.Directory e) of kind = (e, refl, of)
    directory_node (nodes.File f) of kind = absurd (no_directory_file i.mode kind of.kind)
    directory_node (nodes.Other mode) of kind = absurd (true≢false (sym kind ∙ of.no_directory))

-- ---- from births to births by inode numbers

-- no inode number gives birth 1
abbrev pub birth_by_number : Option Placed → ℕ
birth_by_number None = 1
birth_by_number (Some p) = birth_of p.number

no_birth_one : (n : ℕ) → birth_of n ≡ 1 → ⊥
no_birth_one n e = ⊎_elim (λ t. (let z : birth_of n ≡ 0 = rw (eq-eqb n 1 t) refl in omega arith)) (λ f. f ((rw (ne_eqb n 1 f) at e))) (cases_eq n 1)

ok_of : (r : Result ℕ Refusal) → IsOk r → (b : ℕ) × (r ≡ Ok b)
ok_of (Ok b) h = (b, refl)
ok_of (Err refusal) h = absurd (true≢false (sym h))

module _ (g : Geometry) (v : Contents) (h : IsPlainContents g v) (t : List (ℕ × Node)) (k : IsVolumeTree g v.blocks t) where
  abbrev to : ℕ → ℕ
  to b = birth_by_number (at_number v.nodes b)

  abbrev now : List (ℕ × Node)
  now = tree_now v.blocks v.nodes

  to_is : (b : ℕ) (p : Placed) → at_number v.nodes b ≡ Some p → to b ≡ birth_of p.number
  to_is b p at = ap birth_by_number at

  to_number : (b : ℕ) (p : Placed) → at_number v.nodes b ≡ Some p → inode_of_birth (to b) ≡ p.number
  to_number b p at = ap inode_of_birth (to_is b p at) ∙ inode_of_birth_of p.number (stored g v h b p at).some

  to_root : to 0 ≡ 0
  to_root =
      let x = root_placing g v h in
      to_is 0 x.node x.stands ∙ ap birth_of (h.root_number x.node x.stands)

  says : (b : ℕ) (p : Placed) (m : Node) → at_number v.nodes b ≡ Some p → at_number t (to b) ≡ Some m → IsNodeOf g v.blocks p.inode m
  says b p m at e = subst (λ i. IsNodeOf g v.blocks i m) (ap (inode_at g v.blocks) (to_number b p at) ∙ (stored g v h b p at).inode) (k.fields.each (to b) m e)

  -- a node that stands in both trees
  record InBoth (b : ℕ) : Type 0 where
    pub node : Placed
    pub stands : at_number v.nodes b ≡ Some node
    pub other : Node
    pub there : at_number t (to b) ≡ Some other

  gives_there : (b c : ℕ) (name : List ℕ) → InBoth b → HasEntry now b name c → HasEntry t (to b) name (to c)
  gives_there b c name both gives =
      let x = placing v.blocks v.nodes b gives.directory gives.stands in
      let named : at_name x.part.names name ≡ Some c = ap (λ (d : Directory). at_name d.names name) x.same ∙ gives.named in
      let n = (h.volume.0.names b x.node x.part x.stands x.part_is).named name c named in
      let part : IsDirectoryPart g v.blocks x.node.inode x.part = subst (IsPart g v.blocks x.node.inode) x.part_is (stored g v h b x.node x.stands).part in
      let m = directory_node v.blocks x.node.inode g both.other (says b x.node both.other x.stands both.there) part.kind in
      let low = slice_get-length x.part.slots n.place (Some n.slot) n.stands in
      let many : x.node.inode.size / slot_size g.width ≡ length x.part.slots = ap (λ n. n / slot_size g.width) part.size ∙ bytes_of_slots (slot_size g.width) (slots_a_block g.width) (form_is g.width) (length x.part.slots) in
      let has : HasName g v.blocks x.node.inode name (to c) = record {
        place = n.place;
        slot = n.slot;
        below = omega arith;
        stands = slot_read g v.blocks x.node.inode x.part part n.place (Some n.slot) n.stands;
        name_is = n.name_is;
        no_dot = n.no_dot;
        birth_is = ap birth_of (sym n.number.2) ∙ sym (to_is c n.number.0 n.number.1);
      } in
      record { directory = m.0; stands = both.there ∙ ap Some m.1; named = (m.2.names name (to c)).1 has }

  gives_here : (b c : ℕ) (name : List ℕ) → InBoth b → HasEntry t (to b) name c → (d : ℕ) × HasEntry now b name d × (to d ≡ c)
  gives_here b c name both gives =
      let of : IsDirectoryOf g v.blocks both.node.inode gives.directory = says b both.node (nodes.Directory gives.directory) both.stands gives.stands in
      let d = as_directory g v.blocks both.node.inode both.node.part (stored g v h b both.node both.stands).part of.kind in
      let n = (of.names name c).0 gives.named in
      let no_dot : is_dot n.slot.name ≡ false = subst (λ name. is_dot name ≡ false) (sym n.name_is) n.no_dot in
      let got = entry_got g v.blocks both.node.inode d.0 d.2 n.place n.slot (record { below = n.below; stands = n.stands; no_dot = no_dot }) in
      let full = (h.volume.0.names b both.node d.0 both.stands d.1).full n.place n.slot got no_dot in (
        full.0,
        record {
          directory = directory_from d.0;
          stands = tree_directory v.blocks v.nodes b both.node d.0 both.stands d.1;
          named = subst (λ name. at_name d.0.names name ≡ Some full.0) n.name_is full.1;
        },
        to_is full.0 full.2.0 full.2.1 ∙ (ap birth_of full.2.2 ∙ n.birth_is),
      )

  both : {b : ℕ} → IsLedTo now b → InBoth b
  both at_root =
      let x = root_placing g v h in
      record { node = x.node; stands = x.stands; other = nodes.Directory k.fields.root.0; there = ap (at_number t) to_root ∙ k.fields.root.1 }
  both (by_name {parent} {birth} {name} led gives) =
      let x = h.rooted.leads parent name birth gives in
      let p = tree_back v.blocks v.nodes birth x.0 x.1 in
      let y = k.fields.leads (to parent) name (to birth) (gives_there parent birth name (both led) gives) in
      record { node = p.0; stands = p.1; other = y.0; there = y.1 }

  both_at : (b : ℕ) (p : Placed) → at_number v.nodes b ≡ Some p → InBoth b
  both_at b p at = both (h.rooted.led_to b (node_now v.blocks p) (tree_at v.blocks v.nodes b p at))

  -- ---- paths

  led_there : (names : List (List ℕ)) (b c : ℕ) → IsLedTo now b → led_to now b names ≡ Ok c → led_to t (to b) names ≡ Ok (to c)
  led_there [] b c led e = ap (λ b. Ok (to b)) (same_Ok b c e)
  led_there (name ∷ names) b c led e =
      let x = led_parts now (step_at (at_number now b) name) names c e in
      let gives = step_gives now b name x.0 x.1 in
      ap (λ r. led_on t r names) (step_given t k.rooted (to b) name (to x.0) (gives_there b x.0 name (both led) gives))
      ∙ led_there names x.0 c (by_name led gives) x.2

  led_here : (names : List (List ℕ)) (b c : ℕ) → IsLedTo now b → led_to t (to b) names ≡ Ok c → (d : ℕ) × (led_to now b names ≡ Ok d)
  led_here [] b c led e = (b, refl)
  led_here (name ∷ names) b c led e =
      let x = led_parts t (step_at (at_number t (to b)) name) names c e in
      let y = gives_here b x.0 name (both led) (step_gives t (to b) name x.0 x.1) in
      let more = led_here names y.0 c (by_name led y.1) (subst (λ n. led_to t n names ≡ Ok c) (sym y.2) x.2) in
      (more.0, ap (λ r. led_on now r names) (step_given now h.rooted b name y.0 y.1) ∙ more.1)

  -- ---- what stands at a birth

  ordered_at : (b : ℕ) (m : Node) (i : Inode) → at_number t b ≡ Some m → FilesInOrder v.blocks i m
  ordered_at b (nodes.File f) i e = k.blocks_in_order b f e
  ordered_at b (nodes.Directory d) i e = tt
  ordered_at b (nodes.Other mode) i e = tt

  -- what holds of a node and of the one that it goes to
  by_both : (P : Option Node → Option Node → Type 0) (b : ℕ) (x : InBoth b) → P (Some (node_now v.blocks x.node)) (Some x.other) → P (at_number now b) (at_number t (to b))
  by_both P b x holds =
      subst (λ o. P o (at_number t (to b))) (sym (tree_at v.blocks v.nodes b x.node x.stands))
      (subst (P (Some (node_now v.blocks x.node))) (sym x.there) holds)

  metadata_at : (b : ℕ) → InBoth b → SameMetadataAt (at_number now b) (at_number t (to b))
  metadata_at b x =
      by_both SameMetadataAt b x
      (same_metadata v.blocks x.node.inode g x.node.part x.other (stored g v h b x.node x.stands).part (says b x.node x.other x.stands x.there) (ordered_at (to b) x.other x.node.inode x.there))

  bytes_at : (b : ℕ) → InBoth b → SameBytes (at_number now b) (at_number t (to b))
  bytes_at b x =
      by_both SameBytes b x
      (same_bytes v.blocks x.node.inode g x.node.part x.other (stored g v h b x.node x.stands).part (says b x.node x.other x.stands x.there) (ordered_at (to b) x.other x.node.inode x.there))

  none_at_one : (o : Option Node) → at_number t 1 ≡ o → at_number t 1 ≡ None
  none_at_one None e = e
  none_at_one (Some n) e =
      let x = k.fields.has_name 1 n e (omega arith) in
      let of : IsDirectoryOf g v.blocks (inode_at g v.blocks (inode_of_birth x.0)) x.2.directory = k.fields.each x.0 (nodes.Directory x.2.directory) x.2.stands in
      let name = (of.names x.1 1).0 x.2.named in
      absurd (no_birth_one name.slot.inode name.birth_is)

  none_now : (o : Option Node) (b : ℕ) → at_number v.nodes b ≡ None → at_number now b ≡ o → at_number now b ≡ None
  none_now None b none e = e
  none_now (Some n) b none e = let p = tree_back v.blocks v.nodes b n e in absurd (none-some p.0 (sym none ∙ p.1))

  kind_by : (o : Option Placed) (b : ℕ) → at_number v.nodes b ≡ o → is_directory (at_number now b) ≡ is_directory (at_number t (to b))
  kind_by None b none =
      ap is_directory (none_now (at_number now b) b none refl)
      ∙ sym (ap (λ n. is_directory (at_number t n)) (ap birth_by_number none) ∙ ap is_directory (none_at_one (at_number t 1) refl))
  kind_by (Some p) b at =
      let x = both_at b p at in
      by_both (λ n m. is_directory n ≡ is_directory m) b x
      (same_kind v.blocks x.node.inode g x.node.part x.other (stored g v h b x.node x.stands).part (says b x.node x.other x.stands x.there))

  -- a directory has the same names, each for the node that it goes to
  names_there : (b : ℕ) (c e : Directory) → InBoth b → at_number now b ≡ Some (nodes.Directory c) → at_number t (to b) ≡ Some (nodes.Directory e) → seen to c.names ≡ e.names
  names_there b c e x at there =
      same_maps name_cmp nat_list_cmp_total name_here name_same (seen to c.names) e.names
      (subst (IsStrictlySortedBy name_cmp) (sym (keys_seen to c.names)) (h.rooted.names_in_order b c at)) (k.rooted.names_in_order (to b) e there)
      (λ name. same_options (at_name (seen to c.names) name) (at_name e.names name)
      (λ d named.
      let y = seen_lookup to (is_at (name_cmp name)) c.names d named in
      let z = gives_there b y.0 name x (record { directory = c; stands = at; named = y.1 }) in
      let same = same_Some (nodes.Directory z.directory) (nodes.Directory e) (sym z.stands ∙ there) in
      ap (λ (n : Node). at_name (names_in n) name) (sym same) ∙ (z.named ∙ ap Some y.2))
      (λ d named.
      let y = gives_here b d name x (record { directory = e; stands = there; named = named }) in
      let same = same_Some (nodes.Directory y.1.directory) (nodes.Directory c) (sym y.1.stands ∙ at) in
      lookup_seen to (is_at (name_cmp name)) c.names y.0 (ap (λ (n : Node). at_name (names_in n) name) (sym same) ∙ y.1.named) ∙ ap Some y.2))
    where
      names_in : Node → List (List ℕ × ℕ)
      names_in (nodes.Directory d) = d.names
      names_in (nodes.File f) = []
      names_in (nodes.Other mode) = []

  links_there : (b : ℕ) (c e : Directory) → InBoth b → at_number now b ≡ Some (nodes.Directory c) → at_number t (to b) ≡ Some (nodes.Directory e) → directory_links now c ≡ directory_links t e
  links_there b c e x at there =
      ap (λ n. 2 + n)
      (count_by_same (λ e. is_directory (at_number now e.1)) (λ e. is_directory (at_number t (to e.1))) c.names (λ e. kind_by (at_number v.nodes e.1) e.1 refl)
      ∙ (sym (count_seen to (λ e. is_directory (at_number t e.1)) c.names) ∙ ap (count_by (λ e. is_directory (at_number t e.1))) (names_there b c e x at there)))

  links_by : (b : ℕ) (n m : Node) → InBoth b → at_number now b ≡ Some n → at_number t (to b) ≡ Some m → SameLinks now t (Some n) (Some m)
  links_by b (nodes.Directory c) (nodes.Directory e) x at there = links_there b c e x at there
  links_by b (nodes.Directory c) (nodes.File f) x at there = tt
  links_by b (nodes.Directory c) (nodes.Other mode) x at there = tt
  links_by b (nodes.File f) m x at there = tt
  links_by b (nodes.Other mode) m x at there = tt

  links_at : (b : ℕ) → InBoth b → SameLinks now t (at_number now b) (at_number t (to b))
  links_at b x = by_both (SameLinks now t) b x (links_by b (node_now v.blocks x.node) x.other x (tree_at v.blocks v.nodes b x.node x.stands) x.there)

  -- ---- the trees

  abbrev at_path : (names : List (List ℕ)) (b : ℕ) → node_of_path now names ≡ Ok b → InBoth b
  at_path names b e = both (led_is_led now names 0 b at_root e)

  abbrev alike : AreAlike now t
  alike = record {
    to = to;
    same_paths = λ names b e. subst (λ n. led_to t n names ≡ Ok (to b)) to_root (led_there names 0 b at_root e);
    no_more_paths = λ names ok.
        let x = ok_of (node_of_path t names) ok in
        let y = led_here names 0 x.0 at_root (subst (λ n. led_to t n names ≡ Ok x.0) (sym to_root) x.1) in
        subst (λ r. IsOk r) (sym y.1) refl;
    same_metadata = λ names b e. metadata_at b (at_path names b e);
    same_links = λ names b e. links_at b (at_path names b e);
    one_node = λ names more a b e f same.
        let x = at_path names a e in
        let y = at_path more b f in
        h.volume.0.numbers a b x.node y.node x.stands y.stands (sym (to_number a x.node x.stands) ∙ (ap inode_of_birth same ∙ to_number b y.node y.stands));
  }

  pub same_but_births : IsSameButBirths now t
  same_but_births = record { alike = alike; same_bytes = λ names b e. bytes_at b (at_path names b e) }

  -- ---- names of a node

  not_one : (c : ℕ) (p : Placed) → at_number v.nodes c ≡ Some p → to c ≢ 1
  not_one c p at e = no_birth_one p.number (sym (to_is c p at) ∙ e)

  one_of : (b c : ℕ) (p q : Placed) → at_number v.nodes b ≡ Some p → at_number v.nodes c ≡ Some q → to b ≡ to c → b ≡ c
  one_of b c p q at too same = h.volume.0.numbers b c p q at too (sym (to_number b p at) ∙ (ap inode_of_birth same ∙ to_number c q too))

  to_apart : (o : Option Placed) (b c : ℕ) (q : Placed) → at_number v.nodes b ≡ o → at_number v.nodes c ≡ Some q → b ≢ c → to b ≢ to c
  to_apart None b c q none at differ same = not_one c q at (sym same ∙ ap birth_by_number none)
  to_apart (Some p) b c q too at differ same = differ (one_of b c p q too at same)

  same_test : (b c : ℕ) (q : Placed) → at_number v.nodes c ≡ Some q → (b == c) ≡ (to b == to c)
  same_test b c q at =
      ⊎_elim (λ e. eq-eqb b c e ∙ sym (eq-eqb (to b) (to c) (ap to e))) (λ differ. ne_eqb b c differ ∙ sym (ne_eqb (to b) (to c) (to_apart (at_number v.nodes b) b c q refl at differ))) (cases_eq b c)

  count_values : (q : ℕ → Bool) (names : List (List ℕ × ℕ)) → count_by q (values_of (seen to names)) ≡ count_by (λ b. q (to b)) (values_of names)
  count_values q [] = refl
  count_values q (e ∷ es) =
      sum_by-cons (λ b. cond (q b) 1 0) (to e.1) (values_of (seen to es))
      ∙ (ap (λ n. cond (q (to e.1)) 1 0 + n) (count_values q es) ∙ sym (sum_by-cons (λ b. cond (q (to b)) 1 0) e.1 (values_of es)))

  module _ (c : ℕ) (q : Placed) (at : at_number v.nodes c ≡ Some q) where
    names_by : (b : ℕ) (i : Inode) (part : Part) (m : Node) → IsPart g v.blocks i part → IsNodeOf g v.blocks i m → InBoth b → at_number now b ≡ Some (node_from v.blocks i part) →
        at_number t (to b) ≡ Some m → names_in_node c (node_from v.blocks i part) ≡ names_in_node (to c) m
    names_by b i (parts.Directory d) (nodes.Directory e) part of both here there =
        count_by_same (λ b. b == c) (λ b. to b == to c) (values_of d.names) (λ b. same_test b c q at)
        ∙ (sym (count_values (λ b. b == to c) d.names) ∙ ap (λ (names : List (List ℕ × ℕ)). count_by (λ b. b == to c) (values_of names)) (names_there b (directory_from d) e both here there))
    names_by b i (parts.Directory d) (nodes.File f) part of both here there = absurd (no_directory_file i.mode part.kind of.kind)
    names_by b i (parts.Directory d) (nodes.Other mode) part of both here there = absurd (true≢false (sym part.kind ∙ of.no_directory))
    names_by b i (parts.File zones) (nodes.Directory e) part of both here there = absurd (no_directory_file i.mode of.kind part.kind)
    names_by b i (parts.File zones) (nodes.File f) part of both here there = refl
    names_by b i (parts.File zones) (nodes.Other mode) part of both here there = refl

    names_in_both : (b : ℕ) (x : InBoth b) → names_in_node c (node_now v.blocks x.node) ≡ names_in_node (to c) x.other
    names_in_both b x =
        names_by b x.node.inode x.node.part x.other (stored g v h b x.node x.stands).part (says b x.node x.other x.stands x.there) x (tree_at v.blocks v.nodes b x.node x.stands) x.there

  -- ---- each node of the image is one of the volume

  record FromNode (b : ℕ) (n : Node) : Type 0 where
    pub birth : ℕ
    pub node : Placed
    pub stands : at_number v.nodes birth ≡ Some node
    pub goes : to birth ≡ b
    pub number_is : inode_of_birth b ≡ node.number
    pub inode_is : inode_born g v.blocks b ≡ node.inode
    pub of : IsNodeOf g v.blocks node.inode n

  from_node : (b : ℕ) (n : Node) → at_number t b ≡ Some n → FromNode b n
  from_node b n at =
      let r = led_reached g v.blocks t k (k.rooted.led_to b n at) in
      let x = reached_node g v h r.0 in
      let goes : to x.birth ≡ b = to_is x.birth x.node x.stands ∙ (ap birth_of x.number_is ∙ r.1) in
      let number : inode_of_birth b ≡ x.node.number = ap inode_of_birth (sym goes) ∙ to_number x.birth x.node x.stands in
      let inode : inode_born g v.blocks b ≡ x.node.inode = ap (inode_at g v.blocks) number ∙ (stored g v h x.birth x.node x.stands).inode in
      record {
        birth = x.birth;
        node = x.node;
        stands = x.stands;
        goes = goes;
        number_is = number;
        inode_is = inode;
        of = subst (λ i. IsNodeOf g v.blocks i n) inode (k.fields.each b n at);
      }

  -- names lead to each node's inode
  pub node_reached : (b : ℕ) (p : Placed) → at_number v.nodes b ≡ Some p → IsReached g v.blocks p.number
  node_reached b p at =
      let x = both_at b p at in
      subst (IsReached g v.blocks) (to_number b p at) (led_reached g v.blocks t k (k.rooted.led_to (to b) x.other x.there)).0

  names_moved : (c : ℕ) (q : Placed) → at_number v.nodes c ≡ Some q → names_to now c ≡ names_to t (to c)
  unfolding names_to
  names_moved c q at =
      sum_moved (names_in_node c) (names_in_node (to c)) to now t h.rooted.in_order k.rooted.in_order
      (record {
        forth = λ b n here.
            let p = tree_back v.blocks v.nodes b n here in
            let x = both_at b p.0 p.1 in
            let same : node_now v.blocks x.node ≡ n = same_Some (node_now v.blocks x.node) n (sym (tree_at v.blocks v.nodes b x.node x.stands) ∙ here) in
            (x.other, x.there, ap (names_in_node c) (sym same) ∙ names_in_both c q at b x);
        back = λ b n there. (let x = from_node b n there in (x.birth, node_now v.blocks x.node, tree_at v.blocks v.nodes x.birth x.node x.stands, x.goes));
        one = λ a b n m here too same.
            let p = tree_back v.blocks v.nodes a n here in
            let r = tree_back v.blocks v.nodes b m too in
            one_of a b p.0 r.0 p.1 r.1 same;
      })

  -- ---- the image is plain

  no_other_part : (i : Inode) (part : Part) (mode : ℕ) → IsPart g v.blocks i part → IsNodeOf g v.blocks i (nodes.Other mode) → ⊥
  no_other_part i (parts.Directory d) mode part of = true≢false (sym part.kind ∙ of.no_directory)
  no_other_part i (parts.File zones) mode part of = true≢false (sym part.kind ∙ of.no_file)

  slots_are : (i : Inode) (d : DirectoryPart) → IsDirectoryPart g v.blocks i d → slots_in g v.blocks i ≡ d.slots
  slots_are i d part =
      let many : i.size / slot_size g.width ≡ length d.slots = ap (λ n. n / slot_size g.width) part.size ∙ bytes_of_slots (slot_size g.width) (slots_a_block g.width) (form_is g.width) (length d.slots) in
      let long : length (slots_in g v.blocks i) ≡ length d.slots = (let slots = slots_length g v.blocks i in omega arith) in
      same_by_slice_get (slots_in g v.blocks i) d.slots long
      (λ k low.
      let inside : k < length d.slots = omega arith in
      let y = slice_get-in_range d.slots k inside in
      slot_got g v.blocks i k y.0 (omega arith) (slot_read g v.blocks i d part k y.0 y.1) ∙ sym y.1)

  parent_of : Node → ℕ
  parent_of (nodes.Directory d) = d.parent
  parent_of (nodes.File f) = 0
  parent_of (nodes.Other mode) = 0

  parent_goes : {c : ℕ} → IsLedTo now c → (d e : Directory) → at_number now c ≡ Some (nodes.Directory d) → at_number t (to c) ≡ Some (nodes.Directory e) → e.parent ≡ to d.parent
  unfolding parent_of
  parent_goes at_root d e here there =
      let x = k.fields.root in
      ap parent_of (same_Some (nodes.Directory e) (nodes.Directory x.0) (sym (ap (at_number t) (sym to_root) ∙ there) ∙ x.1)) ∙ (x.2 ∙ (sym to_root ∙ ap to (sym (h.root_parent d here))))
  parent_goes (by_name {parent} {birth} {name} led gives) d e here there =
      let x = k.fields.leads (to parent) name (to birth) (gives_there parent birth name (both led) gives) in
      let below : e.parent ≡ to parent = subst (IsBelow (to parent)) (same_Some x.0 (nodes.Directory e) (sym x.1 ∙ there)) x.2 in
      below ∙ ap to (sym (h.parents parent name birth d gives here))

  -- a directory of the image, as it stands in the volume
  record FromDirectory (b : ℕ) (e : Directory) (x : FromNode b (nodes.Directory e)) : Type 0 where
    pub directory : DirectoryPart
    pub part_is : x.node.part ≡ parts.Directory directory
    pub part : IsDirectoryPart g v.blocks x.node.inode directory
    pub here : at_number now x.birth ≡ Some (nodes.Directory (directory_from directory))
    pub there : at_number t (to x.birth) ≡ Some (nodes.Directory e)

  from_directory_node : (b : ℕ) (e : Directory) (at : at_number t b ≡ Some (nodes.Directory e)) (x : FromNode b (nodes.Directory e)) → FromDirectory b e x
  from_directory_node b e at x =
      let d = as_directory g v.blocks x.node.inode x.node.part (stored g v h x.birth x.node x.stands).part x.of.kind in
      record { directory = d.0; part_is = d.1; part = d.2; here = tree_directory v.blocks v.nodes x.birth x.node d.0 x.stands d.1; there = ap (at_number t) x.goes ∙ at }

  dots_there : (b : ℕ) (e : Directory) → at_number t b ≡ Some (nodes.Directory e) → HasDots (slots_in g v.blocks (inode_born g v.blocks b)) (inode_of_birth b) (inode_of_birth e.parent)
  dots_there b e at =
      let x = from_node b (nodes.Directory e) at in
      let y = from_directory_node b e at x in
      let z = h.dots x.birth x.node y.directory x.stands y.part_is in
      let goes = parent_goes (h.rooted.led_to x.birth (nodes.Directory (directory_from y.directory)) y.here) (directory_from y.directory) e y.here y.there in
      let parent : inode_of_birth e.parent ≡ z.0.number = ap inode_of_birth goes ∙ to_number y.directory.parent z.0 z.1 in
      subst (λ i. HasDots (slots_in g v.blocks i) (inode_of_birth b) (inode_of_birth e.parent)) (sym x.inode_is)
      (subst (λ ss. HasDots ss (inode_of_birth b) (inode_of_birth e.parent)) (sym (slots_are x.node.inode y.directory y.part))
      (subst (λ n. HasDots y.directory.slots n (inode_of_birth e.parent)) (sym x.number_is)
      (subst (HasDots y.directory.slots x.node.number) (sym parent) z.2)))

  slot_zones_there : (b : ℕ) (e : Directory) → at_number t b ≡ Some (nodes.Directory e) → HasSlotZones g v.blocks (inode_born g v.blocks b) e.slots
  slot_zones_there b e at =
      let x = from_node b (nodes.Directory e) at in
      let y = from_directory_node b e at x in
      let long : length y.directory.slots ≡ e.slots = (let many : x.node.inode.size / slot_size g.width ≡ length y.directory.slots = ap (λ n. n / slot_size g.width) y.part.size ∙ bytes_of_slots (slot_size g.width) (slots_a_block g.width) (form_is g.width) (length y.directory.slots) in let slots = x.of.slots in omega arith) in
      subst (λ i. HasSlotZones g v.blocks i e.slots) (sym x.inode_is) (subst (HasSlotZones g v.blocks x.node.inode) long (h.slot_zones x.birth x.node y.directory x.stands y.part_is))

  directory_links_there : (b : ℕ) (e : Directory) → at_number t b ≡ Some (nodes.Directory e) → (inode_born g v.blocks b).links ≡ directory_links t e
  directory_links_there b e at =
      let x = from_node b (nodes.Directory e) at in
      let y = from_directory_node b e at x in
      ap (λ (i : Inode). i.links) x.inode_is
      ∙ (h.directory_links_are x.birth x.node y.directory x.stands y.part_is ∙ links_there x.birth (directory_from y.directory) e (both_at x.birth x.node x.stands) y.here y.there)

  file_links_there : (b : ℕ) (f : File) → at_number t b ≡ Some (nodes.File f) → f.links ≡ names_to t b
  file_links_there b f at =
      let x = from_node b (nodes.File f) at in
      let y = as_file g v.blocks x.node.inode x.node.part (stored g v h x.birth x.node x.stands).part x.of.kind in
      x.of.links ∙ (h.file_links_are x.birth x.node y.0 x.stands y.1 ∙ (names_moved x.birth x.node x.stands ∙ ap (names_to t) x.goes))

  pub plain_image : IsPlainVolume g v.blocks t
  plain_image = record {
    stands = k;
    no_other = λ b mode at. (let x = from_node b (nodes.Other mode) at in no_other_part x.node.inode x.node.part mode (stored g v h x.birth x.node x.stands).part x.of);
    dots = dots_there;
    slot_zones = slot_zones_there;
    just = λ b n at. (let x = from_node b n at in subst (λ i. IsJust (λ x. zone_in v.blocks i x)) (sym x.inode_is) (h.volume.1 x.birth x.node x.stands));
    directory_links_are = directory_links_there;
    file_links_are = file_links_there;
    few_links = λ b n at. (let x = from_node b n at in subst (λ (i : Inode). i.links ≤ 250) (sym x.inode_is) (h.few_links x.birth x.node x.stands));
  }
