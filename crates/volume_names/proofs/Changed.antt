-- Steps at one node, from what the code did.
use Rattle.std.specs.Prelude.{◌≡◌, ℕ, ◌*◌, ◌/◌, ◌%◌, ◌<◌, true, map, List, [], ◌∷◌, ◌++◌, Option, Some, refl}
use Rattle.std.proofs.Common.{sym, ap, ◌∙◌, append_assoc}
use Rattle.std.proofs.lemmas.List.{append-nil}
use Rattle.std.specs.Ordering.{nat_cmp}
use Rattle.std.specs.BTreeMap.{is_at}
use Rattle.std.specs.Map.{set_value}
use Rattle.minix_layout.specs.Widths.{slot_size, slots_a_block}
use Rattle.minix_layout.specs.declared.division.Geometry.{Geometry}
use Rattle.minix_layout.specs.declared.inode.Inode.{Inode}
use Rattle.minix_layout.specs.declared.slot.Slot.{Slot}
use Rattle.blk_base.specs.Block.{filled}
use Rattle.byte_fields.specs.Fields.{zeros}
use Rattle.tree_model.specs.Maps.{at_number, put_number}
use Rattle.tree_model.specs.laws.MapOrder.{InOrder}
use Rattle.minix_tables.specs.zones.Zones.{Zones}
use Rattle.volume_model.specs.declared.placed.Placed.{Placed}
use Rattle.volume_model.specs.Edits.{Edit, put_slot, edited, touched_by_all}
use Rattle.volume_model.specs.Volume.{block, zone_in}
use Rattle.volume_model.specs.Moves.{opened, with_size, inode_back, back_told, inode_told}
use Rattle.volume_model.specs.MapBlock.{OpenInode, TakenZones, own_of, map_block, all_edits}
use Rattle.volume_model.specs.Touched.{Touched, Contents, and_then}
use Rattle.volume_model.specs.laws.Trees.{set_is_put}
use Rattle.volume_steps.specs.Now.{VolumeNow, Change, written, tells_blocks, tells_writes}
use Rattle.volume_steps.specs.Zones.{TakenFor, new_number, zone_bit, take_zones}
use Rattle.volume_steps.specs.Steps.{at_node, tells_node, with_links, inode_put, set_links}
use Rattle.volume_steps.proofs.QuietSteps.{at_node_is}
use Rattle.volume_in_use.specs.now.Noted.{Noted, with_block, with_node}
use Rattle.volume_names.specs.code.Steps.{After, HasHole, slot_step, slot_written, block_step, block_added, blocks_mapped}
use Rattle.volume_names.proofs.Mapped.{blocks_are}
use Rattle.volume_model.specs.Ways.{way}

abbrev pub volume_of : Geometry → List (List ℕ) → List (ℕ × Placed) → Zones → VolumeNow
volume_of g blocks nodes zones = record { geometry = g; contents = record { blocks = blocks; nodes = nodes }; zones = zones }

-- the lowest inode of a volume is that of its parts
pub lowest_in : (g : Geometry) (blocks : List (List ℕ)) (nodes : List (ℕ × Placed)) (zones : Zones) (now : VolumeNow) → volume_of g blocks nodes zones ≡ now →
    (number : ℕ) → number ≡ new_number now.geometry now.contents.nodes → number ≡ new_number g nodes
lowest_in g blocks nodes zones now same number is = is ∙ ap (λ (v : VolumeNow). new_number v.geometry v.contents.nodes) (sym same)

-- equal parts are one volume
same_volume : (g h : Geometry) (blocks blocks' : List (List ℕ)) (nodes nodes' : List (ℕ × Placed)) (zones zones' : Zones) → g ≡ h → blocks ≡ blocks' → nodes ≡ nodes' → zones ≡ zones' →
    volume_of g blocks nodes zones ≡ volume_of h blocks' nodes' zones'
same_volume g h blocks blocks' nodes nodes' zones zones' e b n z =
    ap (λ g. volume_of g blocks nodes zones) e ∙ (ap (λ b. volume_of h b nodes zones) b ∙ (ap (λ n. volume_of h blocks' n zones) n ∙ ap (volume_of h blocks' nodes') z))

-- a node was written through a borrow
pub changed_at : (v : VolumeNow) (n : ℕ) (p q : Placed) (change : Placed → Change) (before touched : Touched) (blocks : List (List ℕ)) (nodes : List (ℕ × Placed)) (zones : Zones) →
    InOrder v.contents.nodes → at_number v.contents.nodes n ≡ Some p → nodes ≡ set_value (is_at (nat_cmp n)) v.contents.nodes q →
    v.geometry ≡ (change p).volume.geometry → blocks ≡ (change p).volume.contents.blocks → put_number v.contents.nodes n q ≡ (change p).volume.contents.nodes → zones ≡ (change p).volume.zones →
    touched ≡ and_then before (change p).touched → After before (at_node v n change) (volume_of v.geometry blocks nodes zones) touched
changed_at v n p q change before touched blocks nodes zones order at set g b m z t = record {
  volume_is =
      same_volume v.geometry (change p).volume.geometry blocks (change p).volume.contents.blocks nodes (change p).volume.contents.nodes zones (change p).volume.zones g b
      (set ∙ (set_is_put v.contents.nodes n q p order at ∙ m)) z
      ∙ sym (ap (λ (c : Change). c.volume) (at_node_is v n p change at));
  touched_is = t ∙ sym (ap (λ (c : Change). and_then before c.touched) (at_node_is v n p change at));
}

-- ---- what was noted

-- the inode was compared with a copy of what it was
pub noted_inode : (g : Geometry) (number : ℕ) (copy before after : Inode) (old new : Touched) → copy ≡ before → new ≡ and_then old (tells_blocks (inode_told g number copy after)) →
    new ≡ and_then old (tells_blocks (inode_told g number before after))
noted_inode g number copy before after old new same e = e ∙ ap (λ i. and_then old (tells_blocks (inode_told g number i after))) same

pub noted_zone : (s u z : Noted) (a x n : ℕ) → u ≡ with_block s a → z ≡ with_node u n → a ≡ x → z.touched ≡ and_then s.touched (tells_node n (x ∷ []))
noted_zone s u z a x n e h k = ap (λ (z : Noted). z.touched) (h ∙ ap (λ u. with_node u n) (e ∙ ap (with_block s) k)) ∙ all s.touched x n
  where
    all : (t : Touched) (x n : ℕ) → record t { blocks = t.blocks ++ x ∷ []; nodes = t.nodes ++ n ∷ [] } ≡ and_then t (tells_node n (x ∷ []))
    all t x n = simp append-nil

pub noted_slot : (s u w z : Noted) (a x n : ℕ) (told : List ℕ) → u ≡ with_block s a → w.touched ≡ and_then u.touched (tells_blocks told) → z ≡ with_node w n → a ≡ x →
    z.touched ≡ and_then s.touched (tells_node n (x ∷ told))
noted_slot s u w z a x n told e f h k =
    ap (λ (z : Noted). z.touched) h
    ∙ (ap (λ (t : Touched). record t { nodes = t.nodes ++ n ∷ [] }) (f ∙ ap (λ (u : Noted). and_then u.touched (tells_blocks told)) (e ∙ ap (with_block s) k))
    ∙ all s.touched x told n)
  where
    all : (t : Touched) (x : ℕ) (told : List ℕ) (n : ℕ) →
        record {
          blocks = (t.blocks ++ x ∷ []) ++ told;
          freed = t.freed ++ [];
          revoked = t.revoked ++ [];
          pages = t.pages ++ [];
          dropped = t.dropped ++ [];
          nodes = (t.nodes ++ []) ++ n ∷ [];
        } ≡ and_then t (tells_node n (x ∷ told))
    all t x told n = simp (append_assoc, append-nil)

-- ---- the steps

module _ (v : VolumeNow) (n : ℕ) (p : Placed) (before touched : Touched) (blocks : List (List ℕ)) (nodes : List (ℕ × Placed)) (order : InOrder v.contents.nodes) (at : at_number v.contents.nodes n ≡ Some p) where
  -- links
  pub links_changed : (change : ℕ → ℕ) → nodes ≡ set_value (is_at (nat_cmp n)) v.contents.nodes (record { number = p.number; inode = with_links p.inode (change p.inode.links); part = p.part }) →
      blocks ≡ inode_back v.geometry v.contents.blocks p (with_links p.inode (change p.inode.links)) → touched ≡ and_then before (tells_blocks (back_told v.geometry p (with_links p.inode (change p.inode.links)))) →
      After before (set_links v n change) (volume_of v.geometry blocks nodes v.zones) touched
  links_changed change set b t = changed_at v n p (record { number = p.number; inode = with_links p.inode (change p.inode.links); part = p.part })
      (λ p. record { volume = inode_put v n p (with_links p.inode (change p.inode.links)); touched = tells_blocks (back_told v.geometry p (with_links p.inode (change p.inode.links))) })
      before touched blocks nodes v.zones order at set refl b refl refl t

  -- a slot
  pub slot_changed : (k : ℕ) (slot : Option Slot) (slots bytes zone : ℕ) (first : List (List ℕ)) → bytes ≡ slot_size v.geometry.width * slots →
      zone ≡ zone_in v.contents.blocks p.inode (block (k / slots_a_block v.geometry.width)) →
      nodes ≡ set_value (is_at (nat_cmp n)) v.contents.nodes (record { number = p.number; inode = with_size p.inode bytes; part = p.part }) →
      first ≡ edited v.geometry v.contents.blocks (put_slot zone (k % slots_a_block v.geometry.width) slot) →
      blocks ≡ inode_back v.geometry first p (with_size p.inode bytes) →
      touched ≡ and_then before (tells_node n (zone ∷ back_told v.geometry p (with_size p.inode bytes))) →
      After before (slot_written v n k slot slots) (volume_of v.geometry blocks nodes v.zones) touched
  slot_changed k slot slots bytes zone first same e set f b t =
      let here = zone_in v.contents.blocks p.inode (block (k / slots_a_block v.geometry.width)) in
      changed_at v n p (record { number = p.number; inode = with_size p.inode bytes; part = p.part })
      (slot_step v n k slot slots)
      before touched blocks nodes v.zones order at set refl
      (b ∙ (ap (λ first. inode_back v.geometry first p (with_size p.inode bytes)) (f ∙ ap (λ zone. edited v.geometry v.contents.blocks (put_slot zone (k % slots_a_block v.geometry.width) slot)) e)
      ∙ ap (λ bytes. inode_back v.geometry (edited v.geometry v.contents.blocks (put_slot here (k % slots_a_block v.geometry.width) slot)) p (with_size p.inode bytes)) same))
      (ap (λ bytes. put_number v.contents.nodes n (record { number = p.number; inode = with_size p.inode bytes; part = p.part })) same)
      refl
      (t ∙ (ap (λ zone. and_then before (tells_node n (zone ∷ back_told v.geometry p (with_size p.inode bytes)))) e
      ∙ ap (λ bytes. and_then before (tells_node n (here ∷ back_told v.geometry p (with_size p.inode bytes)))) same))

-- ---- a block

pub noted_block : (s u w z x : Noted) (g : Geometry) (es : List Edit) (n : ℕ) (blocks told : List ℕ) → u.touched ≡ and_then s.touched (tells_writes g es) →
    w.touched ≡ and_then u.touched (tells_blocks blocks) → z.touched ≡ and_then w.touched (tells_blocks told) → x ≡ with_node z n →
    x.touched ≡ and_then s.touched (and_then (tells_writes g es) (tells_node n (blocks ++ told)))
noted_block s u w z x g es n blocks told e f h k =
    ap (λ (x : Noted). x.touched) k
    ∙ (ap (λ (t : Touched). record t { nodes = t.nodes ++ n ∷ [] })
    (h ∙ ap (λ t. and_then t (tells_blocks told)) (f ∙ ap (λ t. and_then t (tells_blocks blocks)) e))
    ∙ all s.touched (touched_by_all g es) n blocks told)
  where
    all : (t : Touched) (bits : List ℕ) (n : ℕ) (blocks told : List ℕ) →
        record {
          blocks = ((t.blocks ++ bits) ++ blocks) ++ told;
          freed = ((t.freed ++ []) ++ []) ++ [];
          revoked = ((t.revoked ++ []) ++ []) ++ [];
          pages = ((t.pages ++ []) ++ []) ++ [];
          dropped = ((t.dropped ++ []) ++ []) ++ [];
          nodes = (((t.nodes ++ []) ++ []) ++ []) ++ n ∷ [];
        } ≡ and_then t (and_then (tells_blocks bits) (tells_node n (blocks ++ told)))
    all t bits n blocks told = simp (append_assoc, append-nil)

module _ (v : VolumeNow) (n : ℕ) (p : Placed) (before touched : Touched) (blocks : List (List ℕ)) (nodes : List (ℕ × Placed)) (order : InOrder v.contents.nodes) (at : at_number v.contents.nodes n ≡ Some p)
    (index : ℕ) (few : index < 519) (hole : HasHole v p index) (zones : Zones) (taken : TakenZones) (first second : List (List ℕ)) (content : List ℕ) (i : Inode) where
  abbrev t : TakenFor
  t = take_zones (own_of (opened v.contents p)) index v.zones

  abbrev es : List Edit
  es = map (zone_bit v.geometry true) t.numbers

  abbrev c : Contents
  c = written v.geometry v.contents es

  abbrev made : OpenInode
  made = map_block v.geometry t.taken (zeros 1024) (opened c p) index

  no_bytes : filled 0 ≡ zeros 1024
  unfolding filled zeros
  no_bytes = refl

  mapped_as : taken ≡ t.taken → first ≡ c.blocks → content ≡ filled 0 → ◌≡◌ {A = OpenInode} (record { blocks = second; inode = i }) (map_block v.geometry taken content (record { blocks = first; inode = p.inode }) index) →
      ◌≡◌ {A = OpenInode} (record { blocks = second; inode = i }) made
  mapped_as k f z m =
      m ∙ (ap (λ taken. map_block v.geometry taken content (record { blocks = first; inode = p.inode }) index) k
      ∙ (ap (λ content. map_block v.geometry t.taken content (record { blocks = first; inode = p.inode }) index) (z ∙ no_bytes)
      ∙ ap (λ first. map_block v.geometry t.taken (zeros 1024) (record { blocks = first; inode = p.inode }) index) f))

  pub block_changed : zones ≡ t.zones → taken ≡ t.taken → first ≡ c.blocks → content ≡ filled 0 →
      ◌≡◌ {A = OpenInode} (record { blocks = second; inode = i }) (map_block v.geometry taken content (record { blocks = first; inode = p.inode }) index) →
      blocks ≡ inode_back v.geometry second p i → nodes ≡ set_value (is_at (nat_cmp n)) v.contents.nodes (record { number = p.number; inode = i; part = p.part }) →
      touched ≡ and_then before (and_then (tells_writes v.geometry es) (tells_node n (blocks_mapped p.inode index taken ++ back_told v.geometry p i))) →
      After before (block_added v n index) (volume_of v.geometry blocks nodes zones) touched
  block_changed y k f z m b set told =
      let made_is = mapped_as k f z m in
      changed_at v n p (record { number = p.number; inode = i; part = p.part })
      (block_step v n index)
      before touched blocks nodes zones order at set refl
      (b ∙ ap (λ (u : OpenInode). inode_back v.geometry u.blocks p u.inode) made_is)
      (ap (λ (u : OpenInode). put_number v.contents.nodes n (record { number = p.number; inode = u.inode; part = p.part })) made_is)
      y
      (told ∙ (ap (λ blocks. and_then before (and_then (tells_writes v.geometry es) (tells_node n (blocks ++ back_told v.geometry p i))))
      (ap (blocks_mapped p.inode index) k ∙ sym (blocks_are v.geometry t.taken (opened c p) index hole.hole few hole.nine))
      ∙ ap (λ (u : OpenInode). and_then before (and_then (tells_writes v.geometry es)
      (tells_node n (touched_by_all v.geometry (all_edits v.geometry t.taken (zeros 1024) (opened c p) (way index)) ++ back_told v.geometry p u.inode)))) made_is))
