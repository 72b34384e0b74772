-- A block of a directory is mapped: zones are taken for it, their bits are set, and the volume has grown.
use Rattle.std.specs.Prelude.{◌≡◌, ◌≢◌, ◌≤◌, ◌<◌, ℕ, ◌⊎◌, nat_eq, true, List, [], ◌++◌, map, length, Some, refl}
use Rattle.std.proofs.Common.{sym, ap, subst, inl, inr, ◌∙◌, arith}
use Rattle.std.proofs.lemmas.Bool.{cases_Bool, eqb-true, eqb-false}
use Rattle.blk_base.specs.Members.{In}
use Rattle.byte_fields.specs.Fields.{zeros}
use Rattle.byte_fields.specs.laws.ReadLaws.{length-zeros}
use Rattle.minix_layout.specs.declared.division.Geometry.{Geometry}
use Rattle.minix_layout.specs.declared.inode.Inode.{Inode}
use Rattle.minix_layout.specs.Geometry.{IsSound}
use Rattle.tree_model.specs.declared.node.Node.{Node}
use Rattle.tree_model.specs.declared.node.Node.TheVariants as nodes
use Rattle.tree_model.specs.Maps.{at_number}
use Rattle.volume_ops.specs.Volume.{disk_of}
use Rattle.volume_model.specs.declared.placed.Placed.{Placed}
use Rattle.volume_model.specs.declared.placed.Part.{Part}
use Rattle.volume_model.specs.declared.placed.Part.TheVariants as parts
use Rattle.volume_model.specs.declared.placed.DirectoryPart.{DirectoryPart}
use Rattle.volume_model.specs.Edits.{Edit, touched_by_all}
use Rattle.volume_model.specs.laws.Edits.{untouched}
use Rattle.volume_model.specs.Volume.{Place, block, zone_in, IsPart, IsDirectoryPart}
use Rattle.volume_model.specs.Ways.{way}
use Rattle.volume_model.specs.MapBlock.{OpenInode, own_of, map_block}
use Rattle.volume_model.specs.laws.MapBlock.{Outcome}
use Rattle.volume_model.specs.laws.MapTells.{blocks_by, way_edits, way_touched, way_holes}
use Rattle.volume_model.specs.laws.OnWay.{in_list, on_way, way_on}
use Rattle.volume_model.specs.laws.ZoneMoves.{grown, map_outcome, MapWrites, MayMove, may_map, map_directory, map_just, moved_just, mapped_directory_stands, same_zone}
use Rattle.volume_model.specs.Moves.{IsVolume, AreFree, directory_mapped, back_told}
use Rattle.volume_model.specs.Touched.{Contents, of_tables}
use Rattle.volume_model.specs.Trees.{tree_now, directory_from, node_from}
use Rattle.volume_steps.specs.Now.{VolumeNow, written}
use Rattle.volume_steps.specs.Zones.{TakenFor, zone_bit, take_zones}
use Rattle.volume_steps.specs.Plain.{IsInUse}
use Rattle.volume_steps.proofs.Bits.{ChangesNone, bits_before, kept_zone}
use Rattle.volume_steps.proofs.Taking.{AreTaken, frees}
use Rattle.volume_steps.proofs.TakeZones.{are_taken, numbers_are_zones, number_place, turn, turn_in, marks_change_none, volume_marked, own_marked, free_marked}
use Rattle.volume_steps.proofs.Grows.{is_directory_part, GrowsTo}
use Rattle.volume_steps.proofs.NodeSteps.{MayGrow, IsSettled, AreSlotted, zones_settled, grows_then, closed_grows, closed_maps, closed_numbers, closed_settled, closed_slotted_but}
use Rattle.volume_steps.proofs.TreeSteps.{grown_pages, tree_put, tree_at, tree_in_order}
use Rattle.volume_steps.proofs.QuietSteps.{put_again}
use Rattle.volume_steps.proofs.Marked.{SameMaps, SameNumbers}
use Rattle.volume_model.specs.laws.Back.{told_table}
use Rattle.blk_base.specs.laws.Members.{In-append_left, In-append_right, In-append_cases}

-- bits that are written before the first zone
pub bits_grow : (g : Geometry) → IsSound g → (v : Contents) (h : IsVolume g v) (after : List (List ℕ)) → ChangesNone g v.blocks after → (ts : List ℕ) →
    ((b : ℕ) → (In b ts → ⊥) → disk_of after b ≡ disk_of v.blocks b) → ((b : ℕ) → In b ts → (2 ≤ b) × (b < g.first)) → GrowsTo g v (record { blocks = after; nodes = v.nodes }) ts []
bits_grow g sound v h after change ts same before = record {
  kept = λ a p at. record { placed = p; stands = at; kind = refl; zones = λ x some. kept_zone g v h after change a p at x };
  had = λ a q x at some. inl (record { placed = q; stands = at; kind = refl; zone_is = sym (kept_zone g v h after change a q at x) });
  bytes = same;
  meta = λ b i. (let range = before b i in let low = range.1 in let some = sound.some_zone in (of_tables low, range.0, (omega arith)));
  told = λ zone i. absurd i;
  mapped = λ zone i. absurd i;
}

-- what the tree does not say is said by the nodes
pub nodes_settled : (v w : Contents) → w.nodes ≡ v.nodes → IsSettled v → IsSettled w
nodes_settled v w same old = record {
  root_number = λ p at. old.root_number p (sym (ap (λ nodes. at_number nodes 0) same) ∙ at);
  sizes = λ a p zones at is. old.sizes a p zones (sym (ap (λ nodes. at_number nodes a) same) ∙ at) is;
  dots = λ a p d at is.
      let w = old.dots a p d (sym (ap (λ nodes. at_number nodes a) same) ∙ at) is in
      (w.0, ap (λ nodes. at_number nodes d.parent) same ∙ w.1, w.2);
  few_links = λ a p at. old.few_links a p (sym (ap (λ nodes. at_number nodes a) same) ∙ at);
}

module _ (v : VolumeNow) (in_use : IsInUse v) (n : ℕ) (p : Placed) (at : at_number v.contents.nodes n ≡ Some p) (d : DirectoryPart) (is : p.part ≡ parts.Directory d)
    (index : ℕ) (high : index < 262663) (hole : zone_in v.contents.blocks p.inode (block index) ≡ 0)
    (enough : length (take_zones (λ x. zone_in v.contents.blocks p.inode x) index v.zones).numbers ≤ frees v.zones) where
  abbrev g : Geometry
  g = v.geometry

  abbrev own : Place → ℕ
  own x = zone_in v.contents.blocks p.inode x

  abbrev pub t : TakenFor
  t = take_zones own index v.zones

  abbrev pub es : List Edit
  es = map (zone_bit g true) t.numbers

  abbrev pub c : Contents
  c = written g v.contents es

  pub room_taken : AreTaken v.zones t.zones t.numbers
  room_taken = are_taken v in_use p.inode index enough

  none : ChangesNone g v.contents.blocks c.blocks
  none = marks_change_none v in_use n p at index enough

  pub volume : IsVolume g c
  volume = volume_marked v in_use n p at index enough

  pub own_kept : (x : Place) → zone_in c.blocks p.inode x ≡ own x
  own_kept = own_marked v in_use n p at index enough

  pub free : AreFree g c.blocks c.nodes p.inode t.taken (way index)
  free = free_marked v in_use n p at index enough

  abbrev pub u : OpenInode
  u = grown g in_use.sound c.blocks c.nodes n p volume.0 at t.taken (zeros 1024) (length-zeros 1024) index high free

  pub outcome : Outcome g t.taken (record { blocks = c.blocks; inode = p.inode }) u (way index)
  outcome = map_outcome g in_use.sound c.blocks c.nodes n p volume.0 at t.taken (zeros 1024) (length-zeros 1024) index high free

  abbrev pub Z : ℕ → Type 0
  Z = MapWrites g in_use.sound c.blocks c.nodes n p volume.0 at t.taken (zeros 1024) (length-zeros 1024) index high free

  part : IsDirectoryPart v.geometry c.blocks p.inode d
  part = subst (IsPart v.geometry c.blocks p.inode) is (volume.0.each n p at).part

  pub may : MayMove g in_use.sound c.blocks c.nodes n p volume.0 at u (parts.Directory d) Z
  may = may_map g in_use.sound c.blocks c.nodes n p volume.0 at t.taken (zeros 1024) (length-zeros 1024) index high free (parts.Directory d)
      (map_directory g in_use.sound c.blocks c.nodes n p volume.0 at t.taken (zeros 1024) (length-zeros 1024) index high free d part)
      (λ e same. volume.0.names n p e at (is ∙ same))

  -- the directory's contents with the block
  abbrev pub with_room : Contents
  with_room = directory_mapped g c n p d t.taken (zeros 1024) index

  pub room_stands : IsVolume g with_room
  room_stands = (
    mapped_directory_stands g in_use.sound c.blocks c.nodes n p volume.0 at t.taken (zeros 1024) (length-zeros 1024) index high free d is,
    moved_just g in_use.sound c.blocks c.nodes n p volume.0 at u (parts.Directory d) Z may volume.1
        (map_just g in_use.sound c.blocks c.nodes n p volume.0 at t.taken (zeros 1024) (length-zeros 1024) index high free (volume.1 n p at)),
  )

  abbrev edits : List Edit
  edits = way_edits g in_use.sound c.blocks c.nodes n p volume.0 at t.taken (zeros 1024) (length-zeros 1024) index high free

  abbrev pub mapped_blocks : List ℕ
  mapped_blocks = touched_by_all g edits ++ back_told g p u.inode

  was : (x : Place) → own_of u x ≢ 0 → (own_of u x ≡ zone_in c.blocks p.inode x) ⊎ (In (own_of u x) t.numbers × (is_directory_part (parts.Directory d) ≡ true))
  was x some = elim (cases_Bool (nat_eq (zone_in c.blocks p.inode x) 0)) [
    | inr f ↦ inl (outcome.got.kept x (eqb-false _ _ f))
    | inl y ↦
        let gap = eqb-true _ _ y in
        elim (in_list x (way index)) [
          | inr out ↦ inl (outcome.got.others x out)
          | inl i ↦ inr (subst (λ z. In z t.numbers) (sym (outcome.got.taken x i gap)) (turn_in own index v.zones x (turn own index v.zones x i (sym (own_kept x) ∙ gap))), refl)
        ]
  ]

  grow : MayGrow g in_use.sound c n p volume at u (parts.Directory d) Z may mapped_blocks t.numbers
  unfolding map_block
  grow = record {
    kind = sym (ap is_directory_part is);
    stays_as = λ x some. outcome.got.kept x some;
    was = was;
    bytes = λ b out. ap (λ a. disk_of a b) (blocks_by g t.taken (zeros 1024) (record { blocks = c.blocks; inode = p.inode }) (way index)) ∙ untouched g edits c.blocks b (λ i. out (In-append_left (touched_by_all g edits) (back_told g p u.inode) b i));
    table = λ b j. In-append_right (touched_by_all g edits) (back_told g p u.inode) b j;
    meta = λ b i. elim (In-append_cases (touched_by_all g edits) (back_told g p u.inode) b i) [
      | inr e ↦ inl (told_table g p u.inode b e)
      | inl j ↦ (let w = way_touched g in_use.sound c.blocks c.nodes n p volume.0 at t.taken (zeros 1024) (length-zeros 1024) index high free b j in inr (w.0, w.1, w.2, refl))
    ];
    told = λ zone i.
        let w = number_place own index v.zones high hole zone i in
        In-append_left (touched_by_all g edits) (back_told g p u.inode) zone (subst (λ z. In z (touched_by_all g edits)) w.3
        (way_holes g in_use.sound c.blocks c.nodes n p volume.0 at t.taken (zeros 1024) (length-zeros 1024) index high free w.0 w.1 (own_kept w.0 ∙ w.2)));
    mapped = λ zone i.
        let w = number_place own index v.zones high hole zone i in
        let e = outcome.got.taken w.0 w.1 (own_kept w.0 ∙ w.2) in
        (w.0, (λ no_zone. free.some w.0 w.1 (own_kept w.0 ∙ w.2) (sym e ∙ no_zone)), e ∙ w.3);
  }

  map_grows : GrowsTo g c with_room mapped_blocks t.numbers
  map_grows = closed_grows g in_use.sound c n p volume at u (parts.Directory d) Z may mapped_blocks t.numbers grow

  bits_grown : GrowsTo g v.contents c (touched_by_all g es) []
  bits_grown = bits_grow g in_use.sound v.contents in_use.volume c.blocks none (touched_by_all g es) (λ b out. untouched g es v.contents.blocks b out)
      (bits_before g in_use.sound true t.numbers (numbers_are_zones v in_use p.inode index enough))

  pub room_grows : GrowsTo g v.contents with_room (touched_by_all g es ++ mapped_blocks) t.numbers
  room_grows = grows_then g v.contents c with_room (touched_by_all g es) mapped_blocks [] t.numbers [] [] bits_grown map_grows volume.0 room_stands.0

  pub room_settled : IsSettled v.contents → IsSettled with_room
  room_settled old = closed_settled g in_use.sound c n p volume at u (parts.Directory d) Z may mapped_blocks t.numbers grow
      (record {
        sizes = λ zones same. absurd (cc same);
        dots = λ e same. old.dots n p e at (is ∙ same);
        few_links = subst (λ l. l ≤ 250) (sym (ap (λ (i : Inode). i.links) outcome.fields)) (old.few_links n p at);
      })
      (nodes_settled v.contents c refl old)

  pub room_slotted : AreSlotted v.geometry (λ a. ⊥) v.contents → AreSlotted g (λ a. a ≡ n) with_room
  room_slotted old = closed_slotted_but g in_use.sound c n p volume at u (parts.Directory d) Z may mapped_blocks t.numbers grow
      (λ a r e found same apart. zones_settled v.geometry v.contents.blocks c.blocks r.inode r.inode (length e.slots) (kept_zone g v.contents in_use.volume c.blocks none a r found) (old a r e found same (λ z. z)))

  -- the tree does not tell the block
  pub room_tree : tree_now with_room.blocks with_room.nodes ≡ tree_now v.contents.blocks v.contents.nodes
  room_tree =
      tree_put v.contents.blocks with_room.blocks v.contents.nodes in_use.volume.0.in_order
      (grown_pages g v.contents with_room (touched_by_all g es ++ mapped_blocks) t.numbers [] room_grows in_use.volume.0 room_stands.0) n
      (record { number = p.number; inode = u.inode; part = parts.Directory d })
      ∙ put_again (tree_now v.contents.blocks v.contents.nodes) n (nodes.Directory (directory_from d)) (tree_in_order v.contents.blocks v.contents.nodes in_use.volume.0.in_order)
      (tree_at v.contents.blocks v.contents.nodes n p at ∙ ap (λ part. Some (node_of part)) is)
    where
      node_of : Part → Node
      node_of part = node_from v.contents.blocks p.inode part

  -- no bit of the maps changes after the zones were taken, and the inode is the same
  pub room_maps : SameMaps g c.blocks with_room.blocks
  room_maps = closed_maps g in_use.sound c n p volume at u (parts.Directory d) Z may mapped_blocks t.numbers grow

  pub room_numbers : SameNumbers c.nodes with_room.nodes
  room_numbers = closed_numbers g in_use.sound c n p volume at u (parts.Directory d) Z may mapped_blocks t.numbers grow

  -- the node, and which blocks it has
  abbrev pub with_room_placed : Placed
  with_room_placed = record { number = p.number; inode = u.inode; part = parts.Directory d }

  mine : (x : Place) → zone_in with_room.blocks u.inode x ≡ own_of u x
  mine = same_zone g in_use.sound c.blocks c.nodes n p volume.0 at u (parts.Directory d) Z may

  pub room_new : zone_in with_room.blocks with_room_placed.inode (block index) ≢ 0
  room_new no_zone =
      let i = on_way (block index) index (refl, high) in
      let gap = own_kept (block index) ∙ hole in
      free.some (block index) i gap (sym (outcome.got.taken (block index) i gap) ∙ (sym (mine (block index)) ∙ no_zone))

  pub room_kept : (i : ℕ) → own (block i) ≢ 0 → zone_in with_room.blocks with_room_placed.inode (block i) ≢ 0
  room_kept i some no_zone =
      let there : zone_in c.blocks p.inode (block i) ≢ 0 = λ e. some (sym (own_kept (block i)) ∙ e) in
      there (sym (outcome.got.kept (block i) there) ∙ (sym (mine (block i)) ∙ no_zone))

  pub room_back : (i : ℕ) → i ≢ index → zone_in with_room.blocks with_room_placed.inode (block i) ≢ 0 → own (block i) ≢ 0
  room_back i apart some no_zone =
      some (mine (block i) ∙ (outcome.got.others (block i) (λ l. (let on = way_on (block i) index l in apart on.0)) ∙ (own_kept (block i) ∙ no_zone)))

  pub room_links : with_room_placed.inode.links ≡ p.inode.links
  room_links = ap (λ (i : Inode). i.links) outcome.fields
