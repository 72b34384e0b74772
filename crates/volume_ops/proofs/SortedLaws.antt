-- The walk finds the names of each directory in order, and a tree has its nodes in order.
use Rattle.std.specs.Prelude.{◌≡◌, ℕ, ◌/◌, Bool, true, false, ◌-◌, ◌*◌, min, nat_lt, List, [], ◌∷◌, Option, Some, None, Result, Ok, Err, IfOk}
use Rattle.std.specs.List.{range_with_len}
use Rattle.std.specs.List.Sorted.{IsStrictlySortedBy}
use Rattle.std.specs.Map.{keys_of}
use Rattle.std.proofs.lemmas.Cmp.{nat_list_cmp_total}
use Rattle.byte_fields.specs.Fields.{record_at}
use Rattle.blk_base.specs.Members.{In}
use Rattle.blk_base.specs.laws.Members.{All-In}
use Rattle.minix_layout.specs.Widths.{slot_size, slots_a_block}
use Rattle.minix_layout.specs.declared.division.Geometry.{Geometry}
use Rattle.minix_layout.specs.declared.slot.Slot.{Slot}
use Rattle.minix_layout.specs.declared.fault.LayoutFault.{LayoutFault}
use Rattle.minix_layout.specs.declared.fault.LayoutFault.TheVariants.{BadSlot}
use Rattle.minix_layout.specs.Slots.{slot_of}
use Rattle.tree_model.specs.declared.node.Node.{Node}
use Rattle.tree_model.specs.Maps.{put_number, name_cmp}
use Rattle.tree_model.specs.Paths.{is_dot}
use Rattle.tree_model.specs.laws.MapOrder.{InOrder, sorted_put, in_order_put}
use Rattle.volume_ops.specs.declared.found.Mapped.{Mapped}
use Rattle.volume_ops.specs.declared.found.Found.{Found}
use Rattle.volume_ops.specs.declared.found.Found.TheVariants as found
use Rattle.volume_ops.specs.declared.found.FoundNode.{FoundNode}
use Rattle.volume_ops.specs.Reads.{Reads, Ret, answer}
use Rattle.volume_ops.proofs.Answered.{answered_then, either_answers, either_ok, any_ok}
use Rattle.volume_ops.proofs.WalkKeeps.{walked_has}
use Rattle.volume_ops.specs.Places.{table_block, inode_in_block, is_directory, birth_of}
use Rattle.volume_ops.specs.Marks.{is_marked}
use Rattle.volume_ops.specs.Zones.{Fault, scan_zones}
use Rattle.volume_ops.specs.Slots.{SlotScan, is_bad_entry, note_name, scan_entry, scan_used, scan_slot, scan_places, scan_block, scan_slots}
use Rattle.volume_ops.specs.Walk.{Walked}
use Rattle.volume_ops.specs.Volume.{disk_of, walked, node_of, put_nodes}

-- ---- the names of a directory

abbrev AreSorted : List (List ℕ × ℕ) → Type 0
AreSorted names = IsStrictlySortedBy name_cmp (keys_of names)

abbrev NamesSorted : SlotScan → Type 0
NamesSorted s = AreSorted s.names

none_sorted : AreSorted []
unfolding IsStrictlySortedBy
none_sorted = tt

note_sorted : (zone : ℕ) (slot : Slot) (s : SlotScan) (directory : Bool) → NamesSorted s → IfOk (note_name zone slot s directory) NamesSorted
note_sorted zone slot s true h =
    either_ok (is_marked s.named slot.inode) (Err (BadSlot, zone)) _ NamesSorted tt (sorted_put nat_list_cmp_total s.names slot.name (birth_of slot.inode) h)
note_sorted zone slot s false h = sorted_put nat_list_cmp_total s.names slot.name (birth_of slot.inode) h

module _ (disk : ℕ → List ℕ) (g : Geometry) where
  entry_sorted : (zone : ℕ) (slot : Slot) (s : SlotScan) → NamesSorted s → IfOk (answer disk (scan_entry g zone slot s)) NamesSorted
  entry_sorted zone slot s h =
      either_answers disk (is_bad_entry g slot s) (Ret (Err (BadSlot, zone))) _ NamesSorted tt
      (note_sorted zone slot s (is_directory (inode_in_block slot.inode (disk (table_block g slot.inode))).mode) h)

  used_sorted : (zone : ℕ) (s : SlotScan) (o : Option Slot) → NamesSorted s → IfOk (answer disk (scan_used g zone s o)) NamesSorted
  used_sorted zone s None h = h
  used_sorted zone s (Some slot) h = either_answers disk (is_dot slot.name) (Ret (Ok s)) (scan_entry g zone slot s) NamesSorted h (entry_sorted zone slot s h)

  slot_sorted : (zone : ℕ) (s : SlotScan) (read : Result (Option Slot) LayoutFault) → NamesSorted s →
      IfOk (answer disk (elim read as (λ _. Reads (Result SlotScan Fault)) [ Err fault ↦ Ret (Err (fault, zone)) | Ok slot ↦ scan_used g zone s slot ])) NamesSorted
  slot_sorted zone s (Ok o) h = used_sorted zone s o h
  slot_sorted zone s (Err fault) h = tt

  places_sorted : (zone : ℕ) (body ats : List ℕ) (s : SlotScan) → NamesSorted s → IfOk (answer disk (scan_places g zone body ats s)) NamesSorted
  places_sorted zone body [] s h = h
  places_sorted zone body (at ∷ ats) s h =
      answered_then disk (scan_slot g zone (record_at (slot_size g.width) at body) s) (scan_places g zone body ats) NamesSorted NamesSorted
      (slot_sorted zone s (slot_of g.width (record_at (slot_size g.width) at body)) h) (λ t k. places_sorted zone body ats t k)

  slots_sorted : (slots : ℕ) (ms : List Mapped) (s : SlotScan) → NamesSorted s → IfOk (answer disk (scan_slots g slots ms s)) NamesSorted
  slots_sorted slots [] s h = h
  slots_sorted slots (m ∷ ms) s h =
      answered_then disk (scan_block g slots m s) (scan_slots g slots ms) NamesSorted NamesSorted
      (either_answers disk (nat_lt (slots_a_block g.width * m.index) slots) _ (Ret (Ok s)) NamesSorted
      (places_sorted m.zone (disk m.zone) (range_with_len 0 (min (slots_a_block g.width) (slots - slots_a_block g.width * m.index))) s h) h)
      (λ t k. slots_sorted slots ms t k)

-- ---- the walk

abbrev pub HasSorted : Found → Type 0
HasSorted (found.Directory d) = AreSorted d.names
HasSorted other = Unit {0}

-- each directory that the walk finds has its names in order
pub walked_sorted : (g : Geometry) (blocks : List (List ℕ)) (w : Walked) → walked g blocks ≡ Ok w → (n : FoundNode) → In n w.nodes → HasSorted n.found
walked_sorted g blocks w e n i =
    let all = walked_has g blocks (λ n. HasSorted n.found) (λ number z. Unit {0}) NamesSorted
    (λ w e. any_ok (answer (disk_of blocks) (scan_zones g (table_block g e.inode) (inode_in_block e.inode (disk_of blocks (table_block g e.inode))).zones w.zones)))
    (λ w e z. slots_sorted (disk_of blocks) g ((inode_in_block e.inode (disk_of blocks (table_block g e.inode))).size / slot_size g.width) z.mapped (record { named = w.named; names = [] }) none_sorted)
    (λ e z k. tt) (λ e s sorted. sorted) (λ e. tt) w e in
    All-In (λ (n : FoundNode). HasSorted n.found) w.nodes n all i

-- ---- the tree

put_sorted : (blocks : List (List ℕ)) (ns : List FoundNode) (tree : List (ℕ × Node)) → InOrder tree → InOrder (put_nodes blocks ns tree)
put_sorted blocks [] tree h = h
put_sorted blocks (n ∷ ns) tree h = put_sorted blocks ns (put_number tree n.birth (node_of blocks n.found)) (in_order_put tree n.birth (node_of blocks n.found) h)

pub nodes_sorted : (blocks : List (List ℕ)) (ns : List FoundNode) → InOrder (put_nodes blocks ns [])
unfolding IsStrictlySortedBy
nodes_sorted blocks ns = put_sorted blocks ns [] tt
