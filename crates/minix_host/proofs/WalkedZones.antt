-- The walk through a plain volume reads its metadata alone, and finds each block of a file at its zone.
use Rattle.std.specs.Prelude.{◌≡◌, ◌⊎◌, ◌/◌, ℕ, Bool, true, if◌then◌else◌, List, [], ◌∷◌, length, map, Some, None, Result, Ok, Err, refl}
use Rattle.std.specs.Map.{keys_of}
use Rattle.std.specs.Ordering.{nat_cmp}
use Rattle.std.proofs.Common.{sym, ap, subst, ◌∙◌, inl, inr, ⊎_elim, arith}
use Rattle.std.proofs.lemmas.Bool.{cases_eq, eq-eqb, ne_eqb, true≢false}
use Rattle.std.proofs.lemmas.Option.{none-some, same_Some}
use Rattle.blk_base.specs.Members.{In}
use Rattle.blk_base.specs.laws.Members.{slice_get-length}
use Rattle.minix_layout.specs.declared.division.Geometry.{Geometry}
use Rattle.minix_layout.specs.declared.inode.Inode.{Inode}
use Rattle.minix_layout.specs.laws.Places.{form_is, bytes_of_slots}
use Rattle.minix_layout.specs.Widths.{slot_size, slots_a_block}
use Rattle.tree_model.specs.declared.node.Directory.{Directory}
use Rattle.tree_model.specs.declared.node.File.{File}
use Rattle.tree_model.specs.declared.node.Node.{Node}
use Rattle.tree_model.specs.declared.node.Node.TheVariants as nodes
use Rattle.tree_model.specs.Maps.{at_number, at_name}
use Rattle.tree_model.specs.Trees.{Refusal, node_of_path, led_to, step_at}
use Rattle.tree_model.specs.laws.Alike.{led_on, led_parts, same_ok, step_gives, step_given}
use Rattle.tree_model.specs.Rooted.{HasEntry}
use Rattle.tree_model.specs.laws.MapsLaws.{number_here, number_same}
use Rattle.volume_ops.specs.declared.found.Found.{Found}
use Rattle.volume_ops.specs.declared.found.Found.TheVariants as found
use Rattle.volume_ops.specs.declared.found.FoundNode.{FoundNode}
use Rattle.volume_ops.specs.declared.found.Mapped.{Mapped}
use Rattle.volume_ops.specs.VolumeFields.{HasName, IsDirectoryOf, IsFileOf, IsNodeOf, inode_at, zone_behind}
use Rattle.volume_ops.specs.Places.{birth_of, inode_of_birth, is_directory, is_file}
use Rattle.volume_ops.specs.Volume.{disk_of, walked, put_nodes, tree_found, tree_of}
use Rattle.volume_ops.specs.VolumeTrees.{IsVolumeTree}
use Rattle.volume_ops.specs.Walk.{Walked}
use Rattle.volume_ops.proofs.SlotsLaws.{inode_of_birth_of}
use Rattle.volume_ops.proofs.TreeLaws.{was_found, WasFound}
use Rattle.volume_ops.proofs.TreeUnique.{walked_tree}
use Rattle.volume_ops.proofs.WalkTests.{faultless_walked}
use Rattle.volume_model.specs.declared.placed.Placed.{Placed}
use Rattle.volume_model.specs.declared.placed.Part.TheVariants as parts
use Rattle.volume_model.specs.Plain.{IsPlainContents, inode_born}
use Rattle.volume_model.specs.ImageNodes.{part_in, part_found, placed_in, contents_in}
use Rattle.volume_model.specs.Touched.{Contents, Page, HasPage}
use Rattle.volume_model.specs.Trees.{tree_now, node_now}
use Rattle.volume_model.specs.Volume.{IsPart, IsDirectoryPart, IsFilePart}
use Rattle.volume_model.proofs.FoundNodes.{found_stands}
use Rattle.volume_model.proofs.ImageSlots.{at_made, found_key}
use Rattle.volume_model.proofs.Images.{image_plain}
use Rattle.volume_model.proofs.Nodes.{no_directory_file, slot_read, stored, root_placing, placing, faultless, some_inodes, tree_at}
use Rattle.volume_model.proofs.SameTrees.{same_but_births}
use Rattle.crash_laws.specs.TreeHistory.{zone_of_index, zone_in as zone_among, zone_in_walk}
use Rattle.minix_host.specs.Paths.{place_in}
use Rattle.minix_host.proofs.FoundPaths.{path_found, places_on_paths}

-- ---- the zone of an index among what was found

module _ (birth index zone : ℕ) where
  abbrev HasZoneAt : Found → Type 0
  HasZoneAt (found.File f) = zone_of_index f.zones index ≡ zone
  HasZoneAt other = ⊥

  first_has : (m : FoundNode) (ms : List FoundNode) → m.birth ≡ birth → (x : Found) → m.found ≡ x → HasZoneAt x → zone_among (m ∷ ms) birth index ≡ zone
  first_has m ms is (found.File f) e has = ap (λ x. zone_among (record { birth = m.birth; found = x } ∷ ms) birth index) e ∙ rw (eq-eqb m.birth birth is) has
  first_has m ms is (found.Directory d) e has = absurd has
  first_has m ms is (found.Other mode) e has = absurd has

  zone_scanned : (ns : List FoundNode) → ((n : FoundNode) → In n ns → n.birth ≡ birth → HasZoneAt n.found) → (n : FoundNode) → In n ns → n.birth ≡ birth → zone_among ns birth index ≡ zone
  zone_scanned [] each n i is = absurd i
  zone_scanned (m ∷ ms) each n i is = elim (cases_eq m.birth birth) [
    | inl e ↦ first_has m ms e m.found refl (each m (inl refl) e)
    | inr apart ↦
        rw (ne_eqb m.birth birth apart)
        (⊎_elim (λ here. absurd (apart (ap (λ (n : FoundNode). n.birth) here ∙ is))) (λ later. zone_scanned ms (λ n j. each n (inr j)) n later is) i)
  ]

zone_listed : (zone : ℕ → ℕ) (ks : List ℕ) (k : ℕ) → In k ks → zone_of_index (map (λ k. record { index = k; zone = zone k }) ks) k ≡ zone k
zone_listed zone [] k i = absurd i
zone_listed zone (j ∷ ks) k i = elim (cases_eq j k) [
  | inl e ↦ rw (eq-eqb j k e) (ap zone e)
  | inr apart ↦ rw (ne_eqb j k apart) (⊎_elim (λ here. absurd (apart here)) (λ later. zone_listed zone ks k later) i)
]

files_same : (xs ys : List Mapped) → parts.File xs ≡ parts.File ys → xs ≡ ys
files_same xs ys e = cc

none_listed : (zone : ℕ → ℕ) (ks : List ℕ) (k : ℕ) → In k ks → ◌≡◌ {A = List Mapped} (map (λ k. record { index = k; zone = zone k }) ks) [] → ⊥
none_listed zone [] k i e = i
none_listed zone (j ∷ ks) k i e = cc e

module _ (g : Geometry) (v : Contents) (h : IsPlainContents g v) where
  -- ---- the walk ends well

  abbrev pub ends : (all : Walked) × (walked g v.blocks ≡ Ok all)
  ends = faultless_walked g v.blocks (some_inodes g v h) (faultless g v h)

  abbrev pub t : List (ℕ × Node)
  t = put_nodes v.blocks ends.0.nodes []

  pub tree_is : tree_of g v.blocks ≡ Ok t
  tree_is = ap (tree_found v.blocks) ends.1

  pub k : IsVolumeTree g v.blocks t
  k = walked_tree g v.blocks t (some_inodes g v h) tree_is

  abbrev now : List (ℕ × Node)
  now = tree_now v.blocks v.nodes

  -- ---- a node of the volume, and of the tree that was read

  record IsMet (b : ℕ) (p : Placed) : Type 0 where
    pub stands : at_number v.nodes b ≡ Some p
    pub node : Node
    pub there : at_number t (birth_of p.number) ≡ Some node

  inode_is : (b : ℕ) (p : Placed) → at_number v.nodes b ≡ Some p → inode_born g v.blocks (birth_of p.number) ≡ p.inode
  inode_is b p at = ap (inode_at g v.blocks) (inode_of_birth_of p.number (stored g v h b p at).some) ∙ (stored g v h b p at).inode

  says : (b : ℕ) (p : Placed) (x : IsMet b p) → IsNodeOf g v.blocks p.inode x.node
  says b p x = subst (λ i. IsNodeOf g v.blocks i x.node) (inode_is b p x.stands) (k.fields.each (birth_of p.number) x.node x.there)

  as_directory : (i : Inode) (m : Node) → IsNodeOf g v.blocks i m → is_directory i.mode ≡ true → (e : Directory) × (m ≡ nodes.Directory e) × IsDirectoryOf g v.blocks i e
  as_directory i (nodes.Directory e) of kind = (e, refl, of)
  as_directory i (nodes.File f) of kind = absurd (no_directory_file i.mode kind of.kind)
  as_directory i (nodes.Other mode) of kind = absurd (true≢false (sym kind ∙ of.no_directory))

  as_file : (i : Inode) (m : Node) → IsNodeOf g v.blocks i m → is_file i.mode ≡ true → (f : File) × (m ≡ nodes.File f) × IsFileOf v.blocks i f
  as_file i (nodes.Directory e) of kind = absurd (no_directory_file i.mode of.kind kind)
  as_file i (nodes.File f) of kind = (f, refl, of)
  as_file i (nodes.Other mode) of kind = absurd (true≢false (sym kind ∙ of.no_file))

  -- ---- the same names lead to it

  record Step (p : Placed) (name : List ℕ) (c : ℕ) : Type 0 where
    pub placed : Placed
    pub met : IsMet c placed
    pub gives : HasEntry t (birth_of p.number) name (birth_of placed.number)

  step : (b c : ℕ) (name : List ℕ) (p : Placed) → IsMet b p → HasEntry now b name c → Step p name c
  step b c name p met gives =
      let x = placing v.blocks v.nodes b gives.directory gives.stands in
      let same : x.node ≡ p = same_Some x.node p (sym x.stands ∙ met.stands) in
      let is = ap (λ (p : Placed). p.part) (sym same) ∙ x.part_is in
      let n = (h.volume.0.names b p x.part met.stands is).named name c (ap (λ (d : Directory). at_name d.names name) x.same ∙ gives.named) in
      let part : IsDirectoryPart g v.blocks p.inode x.part = subst (IsPart g v.blocks p.inode) is (stored g v h b p met.stands).part in
      let m = as_directory p.inode met.node (says b p met) part.kind in
      let low = slice_get-length x.part.slots n.place (Some n.slot) n.stands in
      let many : p.inode.size / slot_size g.width ≡ length x.part.slots = ap (λ n. n / slot_size g.width) part.size ∙ bytes_of_slots (slot_size g.width) (slots_a_block g.width) (form_is g.width) (length x.part.slots) in
      let has : HasName g v.blocks p.inode name (birth_of n.number.0.number) = record {
        place = n.place;
        slot = n.slot;
        below = omega arith;
        stands = slot_read g v.blocks p.inode x.part part n.place (Some n.slot) n.stands;
        name_is = n.name_is;
        no_dot = n.no_dot;
        birth_is = ap birth_of (sym n.number.2);
      } in
      let there : HasEntry t (birth_of p.number) name (birth_of n.number.0.number) = record { directory = m.0; stands = met.there ∙ ap Some m.1; named = (m.2.names name (birth_of n.number.0.number)).1 has } in
      let y = k.fields.leads (birth_of p.number) name (birth_of n.number.0.number) there in
      record { placed = n.number.0; met = record { stands = n.number.1; node = y.0; there = y.1 }; gives = there }

  record Led (p : Placed) (names : List (List ℕ)) (c : ℕ) : Type 0 where
    pub placed : Placed
    pub met : IsMet c placed
    pub led : led_to t (birth_of p.number) names ≡ Ok (birth_of placed.number)

  led_along : (names : List (List ℕ)) (b c : ℕ) (p : Placed) → IsMet b p → led_to now b names ≡ Ok c → Led p names c
  led_along [] b c p met e = (let same = same_ok b c e in record { placed = p; met = subst (λ c. IsMet c p) same met; led = refl })
  led_along (name ∷ names) b c p met e =
      let x = led_parts now (step_at (at_number now b) name) names c e in
      let s = step b x.0 name p met (step_gives now b name x.0 x.1) in
      let more = led_along names x.0 c s.placed s.met x.2 in
      record { placed = more.placed; met = more.met; led = ap (λ r. led_on t r names) (step_given t k.rooted (birth_of p.number) name (birth_of s.placed.number) s.gives) ∙ more.led }

  abbrev root : Placed
  root = (root_placing g v h).node

  root_birth : birth_of root.number ≡ 0
  root_birth = ap birth_of (h.root_number root (root_placing g v h).stands)

  root_met : IsMet 0 root
  root_met = record { stands = (root_placing g v h).stands; node = nodes.Directory k.fields.root.0; there = ap (at_number t) root_birth ∙ k.fields.root.1 }

  path_met : (names : List (List ℕ)) (c : ℕ) → node_of_path now names ≡ Ok c → Led root names c
  path_met names c e = led_along names 0 c root root_met e

  -- ---- the zone that the walk found

  module _ (x : Page) (page : HasPage v x) where
    abbrev p : Placed
    p = page.placed

    abbrev birth : ℕ
    birth = birth_of p.number

    file_part : IsFilePart v.blocks p.inode page.zones
    file_part = subst (IsPart g v.blocks p.inode) page.is_file (stored g v h x.birth p page.stands).part

    file_there : (met : IsMet x.birth p) → (f : File) × (at_number t birth ≡ Some (nodes.File f)) × IsFileOf v.blocks p.inode f
    file_there met = (let f = as_file p.inode met.node (says x.birth p met) file_part.kind in (f.0, met.there ∙ ap Some f.1, f.2))

    index_listed : (f : File) → IsFileOf v.blocks p.inode f → In x.index (keys_of f.blocks)
    index_listed f of =
        found_key nat_cmp number_here number_same f.blocks x.index (disk_of v.blocks (zone_behind v.blocks p.inode x.index))
        (of.bodies x.index ∙ ap (λ (b : Bool). if b then None else Some (disk_of v.blocks (zone_behind v.blocks p.inode x.index))) (ne_eqb (zone_behind v.blocks p.inode x.index) 0 (λ none. page.some (sym page.zone ∙ none))))

    zone_by : (f : File) → IsFileOf v.blocks p.inode f → (i : Inode) → i ≡ p.inode → (o : Found) → part_in g v.blocks i (nodes.File f) ≡ part_found g v.blocks i o → HasZoneAt birth x.index x.zone o
    zone_by f of i is (found.Directory d) e = cc e
    zone_by f of i is (found.Other mode) e = absurd (none_listed (zone_behind v.blocks i) (keys_of f.blocks) x.index (index_listed f of) (files_same _ _ e))
    zone_by f of i is (found.File o) e =
        ap (λ zones. zone_of_index zones x.index) (sym (files_same _ _ e))
        ∙ (zone_listed (zone_behind v.blocks i) (keys_of f.blocks) x.index (index_listed f of)
        ∙ (ap (λ i. zone_behind v.blocks i x.index) is ∙ page.zone))

    each_found : (f : File) → at_number t birth ≡ Some (nodes.File f) → IsFileOf v.blocks p.inode f → (n : FoundNode) → In n ends.0.nodes → n.birth ≡ birth → HasZoneAt birth x.index x.zone n.found
    unfolding contents_in
    each_found f at of n i same =
        let there : at_number t n.birth ≡ Some (nodes.File f) = ap (at_number t) same ∙ at in
        let one = at_made (placed_in g v.blocks) t n.birth (nodes.File f) there in
        let two = found_stands g v.blocks t (some_inodes g v h) (image_plain g v t h tree_is) ends.0 ends.1 n i in
        let parts_same = ap (λ (p : Placed). p.part) (same_Some (placed_in g v.blocks n.birth (nodes.File f)) (record { number = inode_of_birth n.birth; inode = inode_born g v.blocks n.birth; part = part_found g v.blocks (inode_born g v.blocks n.birth) n.found }) (sym one ∙ two)) in
        zone_by f of (inode_born g v.blocks n.birth) (ap (inode_born g v.blocks) same ∙ inode_is x.birth p page.stands) n.found parts_same

    zone_met : IsMet x.birth p → zone_among ends.0.nodes birth x.index ≡ x.zone
    zone_met met =
        let f = file_there met in
        let found = was_in f.0 f.1 (was_found v.blocks ends.0.nodes [] birth (nodes.File f.0) f.1) in
        zone_scanned birth x.index x.zone ends.0.nodes (each_found f.0 f.1 f.2) found.one found.within found.birth_is
      where
        was_in : (f : File) → at_number t birth ≡ Some (nodes.File f) → (at_number [] birth ≡ Some (nodes.File f)) ⊎ WasFound v.blocks ends.0.nodes birth (nodes.File f) → WasFound v.blocks ends.0.nodes birth (nodes.File f)
        was_in f at (inl none) = absurd (none-some (nodes.File f) none)
        was_in f at (inr was) = was

    -- It finds the block at its zone, on each path of the file.
    pub page_place : place_in (walked g v.blocks) now x.birth x.index ≡ x.zone
    page_place =
        let path = path_found now h.rooted x.birth (node_now v.blocks p) (tree_at v.blocks v.nodes x.birth p page.stands) in
        let led = path_met path.0 x.birth path.2 in
        let same : led.placed ≡ p = same_Some led.placed p (sym led.met.stands ∙ page.stands) in
        let to : node_of_path t path.0 ≡ Ok birth = ap (λ b. led_to t b path.0) (sym root_birth) ∙ (led.led ∙ ap (λ (p : Placed). Ok (birth_of p.number)) same) in
        places_on_paths now h.rooted g v.blocks t path.0 x.birth x.index tree_is (same_but_births g v h t k).alike path.2
        ∙ (ap (λ w. zone_in_walk v.blocks w path.0 x.index) ends.1
        ∙ (ap (λ (r : Result ℕ Refusal). elim r as (λ _. ℕ) [ Err refusal ↦ 0 | Ok b ↦ zone_among ends.0.nodes b x.index ]) to
        ∙ zone_met (subst (IsMet x.birth) same led.met)))
