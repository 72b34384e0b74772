-- A block of a file gets a zone: the step is steady, and the tree has the block.
use Rattle.std.specs.Prelude.{◌≡◌, ◌≢◌, ℕ, ◌+◌, ◌<◌, ◌≤◌, nat_eq, true, List, length, map, Option, Some, refl, ◌⊎◌}
use Rattle.std.proofs.Common.{sym, ap, subst, ◌∙◌, inl, inr, ⊎_elim, arith}
use Rattle.std.proofs.lemmas.Bool.{cases_Bool, cases_eq, eqb-true, eqb-false}
use Rattle.std.proofs.lemmas.Option.{same_Some}
use Rattle.blk_base.specs.Members.{In}
use Rattle.blk_base.specs.laws.Members.{In-append_left}
use Rattle.minix_layout.specs.declared.division.Geometry.{Geometry}
use Rattle.minix_layout.specs.declared.inode.Inode.{Inode}
use Rattle.tree_model.specs.declared.node.File.{File}
use Rattle.tree_model.specs.declared.node.Node.TheVariants as nodes
use Rattle.tree_model.specs.Maps.{at_number, put_number}
use Rattle.tree_model.specs.laws.MapsLaws.{at_put_number, at_put_number_apart}
use Rattle.tree_model.specs.Calls.{node_zones, used_zones}
use Rattle.volume_ops.specs.declared.found.Mapped.{Mapped}
use Rattle.volume_ops.specs.Places.{largest_size}
use Rattle.volume_ops.specs.Volume.{disk_of, bodies_of}
use Rattle.minix_tables.specs.declared.zones.zone_state.ZoneState.{ZoneState}
use Rattle.minix_tables.specs.declared.zones.zone_state.ZoneState.TheVariants as states
use Rattle.minix_tables.specs.zones.Zones.{state_of}
use Rattle.volume_model.specs.declared.placed.Placed.{Placed}
use Rattle.volume_model.specs.declared.placed.Part.TheVariants as parts
use Rattle.volume_model.specs.Counts.{indices_of, zones_of_file}
use Rattle.volume_model.specs.Edits.{Edit, touched_by_all}
use Rattle.volume_model.specs.MapBlock.{OpenInode, own_of, map_block}
use Rattle.volume_model.specs.Moves.{IsVolume, AreFree, with_mapped, file_mapped, file_mapped_touches}
use Rattle.volume_model.specs.Plain.{HasZone}
use Rattle.volume_model.specs.Touched.{Contents, Tells}
use Rattle.volume_model.specs.Trees.{node_now, tree_now}
use Rattle.volume_model.specs.Volume.{Place, block, zone_in, IsPart, IsFilePart}
use Rattle.volume_model.specs.Ways.{way}
use Rattle.volume_model.specs.laws.Counts.{count_map}
use Rattle.volume_model.specs.laws.Indexed.{file_indexed}
use Rattle.volume_model.specs.laws.MapBlock.{Outcome}
use Rattle.volume_model.specs.laws.MapBody.{mapped_content}
use Rattle.volume_model.specs.laws.MapTells.{map_tells, theirs as theirs_mapped, mine as mine_mapped, outcome as outcome_mapped, page_bytes, blocks_by, way_edits, way_touched}
use Rattle.volume_model.specs.laws.Mapped.{zones_mapped}
use Rattle.volume_model.specs.laws.OnWay.{in_list}
use Rattle.volume_model.specs.laws.Touched.{tells_then}
use Rattle.volume_model.specs.laws.ZoneMoves.{grown, MapWrites, may_map, map_file, map_just, moved_just, mapped_file_stands, MayMove}
use Rattle.volume_steps.specs.Now.{VolumeNow, Change, tree_of_now, written, tells_writes}
use Rattle.volume_steps.specs.Plain.{IsInUse}
use Rattle.volume_steps.specs.Steps.{map_file_block}
use Rattle.volume_steps.specs.Zones.{TakenFor, take_zones, zone_bit}
use Rattle.volume_steps.specs.laws.Steady.{IsSteady}
use Rattle.volume_steps.proofs.Bits.{ChangesNone, kept_zone, kept_tree, bits_tell, node_kept, bits_before}
use Rattle.volume_steps.proofs.FileSteps.{IsFileStep, IsFileChange, change_settled, change_slotted, change_directories}
use Rattle.volume_steps.proofs.Files.{bodies_kept, bodies_mapped, node_is_file, node_zones_are, tree_changed}
use Rattle.volume_steps.proofs.Taking.{AreTaken, frees, uses, in_zones}
use Rattle.volume_steps.proofs.TakeZones.{are_taken, numbers_are_zones, number_place, holes_counted, turn, turn_in, marks_change_none, volume_marked, own_marked, free_marked}
use Rattle.volume_steps.proofs.Together.{tells_as}
use Rattle.volume_steps.proofs.TreeSteps.{tree_at, tree_in_order, used_put_more}
use Rattle.volume_steps.proofs.Listed.{put_told}
use Rattle.volume_steps.proofs.Marked.{SameMaps, marks_taken, numbers_put}
use Rattle.volume_model.specs.laws.Edits.{untouched}
use Rattle.volume_model.specs.laws.Changes.{table_below}
use Rattle.volume_model.specs.laws.Back.{back_apart}

waits_used : (freed_by : ℕ) → ◌≡◌ {A = Option ZoneState} (Some (states.Quarantined freed_by)) (Some states.Used) → ⊥
waits_used freed_by e = cc

waits_free : (freed_by : ℕ) → ◌≡◌ {A = Option ZoneState} (Some (states.Quarantined freed_by)) (Some states.Free) → ⊥
waits_free freed_by e = cc

module _ (tx : ℕ) (v : VolumeNow) (h : IsInUse v) (n : ℕ) (p : Placed) (zones : List Mapped) (at : at_number v.contents.nodes n ≡ Some p) (is : p.part ≡ parts.File zones)
    (content : List ℕ) (size : length content ≡ 1024) (index : ℕ) (high : index < 262663) (hole : zone_in v.contents.blocks p.inode (block index) ≡ 0)
    (enough : length (take_zones (λ x. zone_in v.contents.blocks p.inode x) index v.zones).numbers ≤ frees v.zones) where
  abbrev g : Geometry
  g = v.geometry

  abbrev own : Place → ℕ
  own x = zone_in v.contents.blocks p.inode x

  abbrev t : TakenFor
  t = take_zones own index v.zones

  abbrev es : List Edit
  es = map (zone_bit g true) t.numbers

  abbrev c : Contents
  c = written g v.contents es

  taken : AreTaken v.zones t.zones t.numbers
  taken = are_taken v h p.inode index enough

  none : ChangesNone g v.contents.blocks c.blocks
  none = marks_change_none v h n p at index enough

  volume : IsVolume g c
  volume = volume_marked v h n p at index enough

  own_kept : (x : Place) → zone_in c.blocks p.inode x ≡ own x
  own_kept = own_marked v h n p at index enough

  free : AreFree g c.blocks c.nodes p.inode t.taken (way index)
  free = free_marked v h n p at index enough

  gap : zone_in c.blocks p.inode (block index) ≡ 0
  gap = own_kept (block index) ∙ hole

  abbrev listed : List Mapped
  listed = with_mapped zones index t.taken.data_zone

  abbrev u : OpenInode
  u = grown g h.sound c.blocks c.nodes n p volume.0 at t.taken content size index high free

  abbrev q : Placed
  q = record { number = p.number; inode = u.inode; part = parts.File listed }

  abbrev w : Contents
  w = file_mapped g c n p zones t.taken content index

  part : IsFilePart c.blocks p.inode zones
  part = subst (IsPart v.geometry c.blocks p.inode) is (volume.0.each n p at).part

  may : MayMove g h.sound c.blocks c.nodes n p volume.0 at u (parts.File listed) (MapWrites g h.sound c.blocks c.nodes n p volume.0 at t.taken content size index high free)
  may = may_map g h.sound c.blocks c.nodes n p volume.0 at t.taken content size index high free (parts.File listed)
      (map_file g h.sound c.blocks c.nodes n p volume.0 at t.taken content size index high free zones gap part)
      (λ e same. absurd (cc same))

  stands : IsVolume g w
  stands = (
    mapped_file_stands g h.sound c.blocks c.nodes n p volume.0 at t.taken content size index high free zones is gap,
    moved_just g h.sound c.blocks c.nodes n p volume.0 at u (parts.File listed)
        (MapWrites g h.sound c.blocks c.nodes n p volume.0 at t.taken content size index high free)
        may
        volume.1 (map_just g h.sound c.blocks c.nodes n p volume.0 at t.taken content size index high free (volume.1 n p at)),
  )

  outcome : Outcome g t.taken (record { blocks = c.blocks; inode = p.inode }) u (way index)
  outcome = outcome_mapped g h.sound c.blocks c.nodes n p volume.0 at t.taken content size index high free zones is gap

  mine : (x : Place) → zone_in w.blocks u.inode x ≡ own_of u x
  mine = mine_mapped g h.sound c.blocks c.nodes n p volume.0 at t.taken content size index high free zones is gap

  theirs : (a : ℕ) (r : Placed) → at_number v.contents.nodes a ≡ Some r → a ≢ n → (x : Place) → zone_in w.blocks r.inode x ≡ zone_in v.contents.blocks r.inode x
  theirs a r found apart x =
      theirs_mapped g h.sound c.blocks c.nodes n p volume.0 at t.taken content size index high free zones is gap a r found apart x
      ∙ kept_zone g v.contents h.volume c.blocks none a r found x

  here : at_number w.nodes n ≡ Some q
  here = at_put_number v.contents.nodes n q

  -- ---- which zones nodes have

  kept_mine : (x : Place) → own x ≢ 0 → zone_in w.blocks u.inode x ≡ own x
  kept_mine x some = mine x ∙ (outcome.got.kept x (λ e. some (sym (own_kept x) ∙ e)) ∙ own_kept x)

  has_before : (z : ℕ) → HasZone v.contents z → HasZone w z
  has_before z k = elim (cases_eq k.birth n) [
    | inr apart ↦ record { birth = k.birth; placed = k.placed; place = k.place; stands = at_put_number_apart v.contents.nodes n q k.birth apart ∙ k.stands; zone_is = theirs k.birth k.placed k.stands apart k.place ∙ k.zone_is; some = k.some }
    | inl e ↦
        let same : p ≡ k.placed = same_Some p k.placed (sym at ∙ subst (λ b. at_number v.contents.nodes b ≡ Some k.placed) e k.stands) in
        let zone : own k.place ≡ z = ap (λ (r : Placed). zone_in v.contents.blocks r.inode k.place) same ∙ k.zone_is in
        record { birth = n; placed = q; place = k.place; stands = here; zone_is = kept_mine k.place (λ e. k.some (sym zone ∙ e)) ∙ zone; some = k.some }
  ]

  has_taken : (z : ℕ) → In z t.numbers → HasZone w z
  has_taken z i =
      let place = number_place own index v.zones high hole z i in
      let range = numbers_are_zones v h p.inode index enough z i in
      let low = range.0 in
      let before = h.sound.tables_below in
      record { birth = n; placed = q; place = place.0; stands = here; zone_is = mine place.0 ∙ (outcome.got.taken place.0 place.1 (own_kept place.0 ∙ place.2) ∙ place.3); some = λ e. (omega arith) }

  mine_back : (x : Place) (z : ℕ) → z ≢ 0 → own_of u x ≡ z → HasZone v.contents z ⊎ In z t.numbers
  mine_back x z some zone = elim (cases_Bool (nat_eq (own x) 0)) [
    | inr f ↦
        let there = eqb-false _ _ f in
        inl (record { birth = n; placed = p; place = x; stands = at; zone_is = sym (kept_mine x there) ∙ (mine x ∙ zone); some = some })
    | inl y ↦
        let gap_here = eqb-true _ _ y in
        elim (in_list x (way index)) [
          | inl i ↦ inr (subst (λ z. In z t.numbers) (sym (outcome.got.taken x i (own_kept x ∙ gap_here)) ∙ zone) (turn_in own index v.zones x (turn own index v.zones x i gap_here)))
          | inr out ↦ absurd (some (sym zone ∙ (outcome.got.others x out ∙ (own_kept x ∙ gap_here))))
        ]
  ]

  has_after : (z : ℕ) → HasZone w z → HasZone v.contents z ⊎ In z t.numbers
  has_after z k = elim (cases_eq k.birth n) [
    | inr apart ↦
        let was : at_number v.contents.nodes k.birth ≡ Some k.placed = sym (at_put_number_apart v.contents.nodes n q k.birth apart) ∙ k.stands in
        inl (record { birth = k.birth; placed = k.placed; place = k.place; stands = was; zone_is = sym (theirs k.birth k.placed was apart k.place) ∙ k.zone_is; some = k.some })
    | inl e ↦
        let same : q ≡ k.placed = same_Some q k.placed (sym here ∙ subst (λ b. at_number w.nodes b ≡ Some k.placed) e k.stands) in
        mine_back k.place z k.some (sym (mine k.place) ∙ (ap (λ (r : Placed). zone_in w.blocks r.inode k.place) same ∙ k.zone_is))
  ]

  used_before : (z : ℕ) → HasZone v.contents z → state_of t.zones z ≡ Some states.Used
  used_before z k = ⊎_elim (λ i. taken.now z i) (λ out. taken.others z out ∙ (h.used z).1 k) (in_zones z t.numbers)

  -- ---- the tree

  bytes : (a : ℕ) (r : Placed) (zs : List Mapped) (m : Mapped) → at_number v.contents.nodes a ≡ Some r → r.part ≡ parts.File zs → In m zs → disk_of w.blocks m.zone ≡ disk_of c.blocks m.zone
  bytes a r zs m found file i =
      let told = (subst (IsPart v.geometry c.blocks r.inode) file (volume.0.each a r found).part).listed m i in
      page_bytes g h.sound c.blocks c.nodes n p volume.0 at t.taken content size index high free zones is gap
      (record { birth = a; index = m.index; zone = m.zone }) (record { placed = r; zones = zs; stands = found; is_file = file; zone = told.0; some = told.1 })

  not_there : (m : Mapped) → In m zones → m.index ≢ index
  not_there m i e = let told = part.listed m i in told.1 (sym told.0 ∙ (ap (λ k. zone_in c.blocks p.inode (block k)) e ∙ gap))

  early : (m : Mapped) → In m zones → disk_of c.blocks m.zone ≡ disk_of v.contents.blocks m.zone
  early m i =
      let told = (subst (IsPart v.geometry v.contents.blocks p.inode) is (h.volume.0.each n p at).part).listed m i in
      subst (λ z. disk_of c.blocks z ≡ disk_of v.contents.blocks z) told.0
      (none.zones _ ((h.volume.0.each n p at).zones (block m.index) (λ e. told.1 (sym told.0 ∙ e))).0 (λ z. z))

  abbrev pub mapped_file : File
  mapped_file = record { size = p.inode.size; links = p.inode.links; blocks = put_number (bodies_of v.contents.blocks zones) index content }

  bodies : bodies_of w.blocks listed ≡ put_number (bodies_of v.contents.blocks zones) index content
  bodies =
      bodies_mapped c.blocks w.blocks zones index t.taken.data_zone content
      (mapped_content g h.sound c.blocks c.nodes n p volume.0 at t.taken content size index high free gap) not_there (λ m i. bytes n p zones m at is i)
      ∙ ap (λ (bodies : List (ℕ × List ℕ)). put_number bodies index content) (bodies_kept v.contents.blocks c.blocks zones early)

  rising : IsFilePart w.blocks u.inode listed
  rising = (stands.0.each n q here).part

  node : node_now w.blocks q ≡ nodes.File mapped_file
  node =
      node_is_file w.blocks q listed refl rising.rising
      ∙ file_as (u.inode.size) (u.inode.links) (bodies_of w.blocks listed) (ap (λ (i : Inode). i.size) outcome.fields) (ap (λ (i : Inode). i.links) outcome.fields) bodies
    where
      file_as : (size links : ℕ) (blocks : List (ℕ × List ℕ)) → size ≡ p.inode.size → links ≡ p.inode.links → blocks ≡ put_number (bodies_of v.contents.blocks zones) index content →
          nodes.File (record { size = size; links = links; blocks = blocks }) ≡ nodes.File mapped_file
      file_as size links blocks a b e = λ k. nodes.File (record { size = a k; links = b k; blocks = e k })

  tree : tree_now w.blocks w.nodes ≡ put_number (tree_of_now v) n (nodes.File mapped_file)
  tree =
      tree_changed c.blocks w.blocks c.nodes n q volume.0.in_order (λ a r found apart. node_kept c.blocks w.blocks r (λ zs m file i. bytes a r zs m found file i))
      ∙ (ap (λ tree. put_number tree n (node_now w.blocks q)) (kept_tree g v.contents h.volume c.blocks none)
      ∙ ap (λ node. put_number (tree_of_now v) n node) node)

  -- ---- how many zones

  more : zones_of_file (indices_of listed) ≡ zones_of_file (indices_of zones) + length t.numbers
  more =
      zones_mapped index t.taken.data_zone zones
      ∙ (count_map own (indices_of zones) (file_indexed g v.contents.blocks v.contents.nodes n p zones h.volume.0 at is (h.volume.1 n p at)) index high hole
      ∙ ap (λ k. zones_of_file (indices_of zones) + k) (holes_counted own index v.zones high hole))

  counted : uses t.zones ≡ used_zones (tree_now w.blocks w.nodes)
  counted =
      let old = h.counted in
      let takes = taken.more in
      let order = tree_in_order v.contents.blocks v.contents.nodes h.volume.0.in_order in
      let sum = used_put_more (tree_of_now v) n (node_now v.contents.blocks p) (nodes.File mapped_file) order (tree_at v.contents.blocks v.contents.nodes n p at) in
      let was = node_zones_are v.contents.blocks p zones is (subst (IsPart v.geometry v.contents.blocks p.inode) is (h.volume.0.each n p at).part).rising in
      let now : node_zones (nodes.File mapped_file) ≡ zones_of_file (indices_of listed) = ap node_zones (sym node) ∙ node_zones_are w.blocks q listed refl rising.rising in
      let grows = more in
      let same : used_zones (tree_now w.blocks w.nodes) ≡ used_zones (put_number (tree_of_now v) n (nodes.File mapped_file)) = ap used_zones tree in
      omega arith

  -- ---- the step

  abbrev pub mapped : Change
  mapped = map_file_block v n p zones content index

  in_use : IsInUse mapped.volume
  in_use = record {
    sound = h.sound;
    volume = stands;
    first = taken.first ∙ h.first;
    size = taken.size ∙ h.size;
    used = λ z. (
      λ used. ⊎_elim (λ i. has_taken z i) (λ out. has_before z ((h.used z).0 (sym (taken.others z out) ∙ used))) (in_zones z t.numbers),
      λ k. ⊎_elim (used_before z) (taken.now z) (has_after z k),
    );
    counted = counted;
  }

  abbrev pub IsMapped : ℕ → ℕ → Type 0
  IsMapped birth at = (birth ≡ n) × (at ≡ index)

  told : Tells g v.contents w mapped.touched IsMapped
  told = tells_as g v.contents w mapped.touched (λ birth at. ⊥ ⊎ IsMapped birth at) IsMapped
      (tells_then g v.contents c w (tells_writes g es) (file_mapped_touches g c n p t.taken content index) (λ birth at. ⊥) IsMapped
      (bits_tell g h.sound v.contents h.volume true t.numbers (numbers_are_zones v h p.inode index enough))
      (map_tells g h.sound c.blocks c.nodes n p volume.0 at t.taken content size index high free zones is gap)
      (record { not_taken = λ b i j. i; not_dropped = λ x i j. i; not_mapped = λ x zone i page. i }))
      (λ birth at e. ⊎_elim (λ z. absurd z) (λ e. e) e) (λ birth at e. inr e)

  -- the zones that are written lie behind the maps
  maps_stay : SameMaps g c.blocks w.blocks
  unfolding map_block
  maps_stay b low below =
      back_apart g u.blocks p u.inode b
      (λ e. (let stored = volume.0.each n p at in let far = (table_below g p.number h.sound stored.some stored.within).0 in omega arith))
      ∙ (ap (λ a. disk_of a b) (blocks_by g t.taken content (record { blocks = c.blocks; inode = p.inode }) (way index))
      ∙ untouched g (way_edits g h.sound c.blocks c.nodes n p volume.0 at t.taken content size index high free) c.blocks b (λ i.
      let y = way_touched g h.sound c.blocks c.nodes n p volume.0 at t.taken content size index high free b i in
      let range = (may.fit.within y.0 y.1).0 in
      let e = y.2 in
      let tables = h.sound.tables_below in
      omega arith))

  steady : IsSteady tx v mapped IsMapped
  steady = record {
    geometry = refl;
    in_use = in_use;
    told = told;
    nodes = put_told g v.contents w mapped.touched n q refl (inl refl) (λ b i. elim i [ inl e ↦ sym e | inr z ↦ absurd z ]) (λ zones is. (_, In-append_left (touched_by_all g es) _ _ (inl refl), (bits_before g h.sound true t.numbers (numbers_are_zones v h p.inode index enough) _ (inl refl)).1));
    lowest = taken.lowest;
    marks = marks_taken g h.sound v.contents w v.zones t.zones t.numbers h.volume.0.whole h.volume.0.size (numbers_are_zones v h p.inode index enough) taken maps_stay (numbers_put v.contents.nodes w.nodes n p q refl at refl);
    freed = λ z i. absurd i;
    was_used = λ z i. absurd i;
    waits_on = λ z freed_by waits. taken.others z (λ i. waits_free freed_by (sym waits ∙ taken.was z i)) ∙ waits;
    waited = λ z freed_by out waits. sym (taken.others z (λ i. waits_used freed_by (sym waits ∙ taken.now z i))) ∙ waits;
  }

  change : IsFileChange v.contents w n p q
  change = record {
    nodes_are = refl;
    stands = at;
    no_directory = λ d e. cc e;
    number = refl;
    links = ap (λ (i : Inode). i.links) outcome.fields;
    size = λ old. subst (λ size. size ≤ largest_size) (sym (ap (λ (i : Inode). i.size) outcome.fields)) (old.sizes n p zones at is);
    theirs = theirs;
  }

  -- The block is mapped.
  pub mapped_step : IsFileStep tx v n mapped mapped_file IsMapped
  mapped_step = record {
    steady = steady;
    settled = change_settled v.contents w n p q change;
    slotted = change_slotted v.contents w n p q change v.geometry;
    tree = tree;
    waiting = (let same = taken.same in omega arith);
    directories = change_directories v.contents w n p q change;
    numbers = numbers_put v.contents.nodes w.nodes n p q refl at refl;
  }
