-- What holds of each node that the walk finds: of a file by the scan of its zones, of a directory by that of its slots.
use Rattle.std.specs.Prelude.{◌≡◌, ℕ, zero, suc, ◌/◌, List, [], ◌∷◌, ◌++◌, Result, Ok, Err, IfOk, All}
use Rattle.std.proofs.Common.{subst}
use Rattle.std.proofs.lemmas.List.Elements.{All-nil, All-push}
use Rattle.minix_layout.specs.Widths.{slot_size}
use Rattle.minix_layout.specs.declared.division.Geometry.{Geometry}
use Rattle.minix_layout.specs.declared.inode.Inode.{Inode}
use Rattle.minix_layout.specs.declared.fault.LayoutFault.TheVariants.{BadInode}
use Rattle.volume_ops.specs.declared.found.Found.TheVariants as found
use Rattle.volume_ops.specs.declared.found.FoundNode.{FoundNode}
use Rattle.volume_ops.specs.Reads.{Reads, Ret, answer, if_ok}
use Rattle.volume_ops.specs.Places.{table_block, inode_in_block, is_directory, is_file, birth_of}
use Rattle.volume_ops.specs.Marks.{is_marked}
use Rattle.volume_ops.specs.Zones.{Fault, ZoneScan, scan_zones}
use Rattle.volume_ops.specs.Slots.{SlotScan, scan_slots}
use Rattle.volume_ops.specs.Walk.{WalkState, Walked, found_in, Pending, Visit, is_bad_inode, visit_file, visit_directory, visit, walk_through, walk, at_start, root, walk_volume}
use Rattle.volume_ops.specs.Volume.{disk_of, walked}
use Rattle.volume_ops.proofs.Answered.{answered_then, either_answers}

module _ (g : Geometry) (blocks : List (List ℕ)) (Has : FoundNode → Type 0) (Zones : ℕ → ZoneScan → Type 0) (Slots : SlotScan → Type 0) where
  abbrev disk : ℕ → List ℕ
  disk = disk_of blocks

  abbrev inode : Pending → Inode
  inode e = inode_in_block e.inode (disk (table_block g e.inode))

  abbrev a_file : Pending → ZoneScan → FoundNode
  a_file e z = record { birth = birth_of e.inode; found = found.File (record { size = (inode e).size; links = (inode e).links; zones = z.mapped }) }

  abbrev a_directory : Pending → SlotScan → FoundNode
  a_directory e s = record { birth = birth_of e.inode; found = found.Directory (record { parent = e.parent; width = g.width; slots = (inode e).size / slot_size g.width; names = s.names }) }

  abbrev Kept : Walked → Type 0
  Kept w = All Has w.nodes

  abbrev VisitKept : Visit → Type 0
  VisitKept v = All Has v.state.nodes

  module _
      (zones : (w : WalkState) (e : Pending) → IfOk (answer disk (scan_zones g (table_block g e.inode) (inode e).zones w.zones)) (Zones e.inode))
      (slots : (w : WalkState) (e : Pending) (z : ZoneScan) → IfOk (answer disk (scan_slots g ((inode e).size / slot_size g.width) z.mapped (record { named = w.named; names = [] }))) Slots)
      (file : (e : Pending) (z : ZoneScan) → Zones e.inode z → Has (a_file e z))
      (directory : (e : Pending) (s : SlotScan) → Slots s → Has (a_directory e s))
      (other : (e : Pending) → Has (record { birth = birth_of e.inode; found = found.Other (inode e).mode }))
    where
      directory_kept : (w : WalkState) (e : Pending) → All Has w.nodes →
          IfOk (answer disk (if_ok (scan_zones g (table_block g e.inode) (inode e).zones w.zones)
          (λ z. if_ok (scan_slots g ((inode e).size / slot_size g.width) z.mapped (record { named = w.named; names = [] })) (λ s. Ret (visit_directory g w e (inode e) z s))))) VisitKept
      directory_kept w e h =
          answered_then disk (scan_zones g (table_block g e.inode) (inode e).zones w.zones)
          (λ z. if_ok (scan_slots g ((inode e).size / slot_size g.width) z.mapped (record { named = w.named; names = [] })) (λ s. Ret (visit_directory g w e (inode e) z s)))
          (Zones e.inode) VisitKept (zones w e)
          (λ z _. answered_then disk (scan_slots g ((inode e).size / slot_size g.width) z.mapped (record { named = w.named; names = [] })) (λ s. Ret (visit_directory g w e (inode e) z s)) Slots VisitKept
          (slots w e z)
          (λ s k. All-push Has w.nodes (a_directory e s) h (directory e s k)))

      file_kept : (w : WalkState) (e : Pending) → All Has w.nodes →
          IfOk (answer disk (if_ok (scan_zones g (table_block g e.inode) (inode e).zones w.zones) (λ z. Ret (visit_file w e.inode (inode e) z)))) VisitKept
      file_kept w e h =
          answered_then disk (scan_zones g (table_block g e.inode) (inode e).zones w.zones) (λ z. Ret (visit_file w e.inode (inode e) z)) (Zones e.inode) VisitKept
          (zones w e)
          (λ z k. All-push Has w.nodes (a_file e z) h (file e z k))

      visit_kept : (w : WalkState) (e : Pending) → All Has w.nodes → IfOk (answer disk (visit g w e)) VisitKept
      unfolding visit
      visit_kept w e h =
          either_answers disk (is_bad_inode g e.inode (inode e)) (Ret (Err (BadInode, table_block g e.inode))) _ VisitKept tt
          (either_answers disk (is_directory (inode e).mode) _ _ VisitKept (directory_kept w e h)
          (either_answers disk (is_file (inode e).mode) _ _ VisitKept (file_kept w e h)
          (All-push Has w.nodes (record { birth = birth_of e.inode; found = found.Other (inode e).mode }) h (other e))))

      through_kept : (again : WalkState → List Pending → Reads (Result Walked Fault)) →
          ((w : WalkState) (rest : List Pending) → All Has w.nodes → IfOk (answer disk (again w rest)) Kept) →
          (w : WalkState) (rest : List Pending) → All Has w.nodes → IfOk (answer disk (walk_through g again w rest)) Kept
      through_kept again more w [] h = h
      through_kept again more w (e ∷ rest) h =
          either_answers disk (is_marked w.inodes e.inode) (walk_through g again w rest) _ Kept
          (through_kept again more w rest h)
          (answered_then disk (visit g w e) (λ v. again v.state (v.names ++ rest)) VisitKept Kept (visit_kept w e h) (λ v r. more v.state (v.names ++ rest) r))

      walk_kept : (n : ℕ) (w : WalkState) (rest : List Pending) → All Has w.nodes → IfOk (answer disk (walk n g w rest)) Kept
      walk_kept zero w rest h = through_kept (λ w rest. Ret (Ok (found_in w))) (λ w rest r. r) w rest h
      walk_kept (suc n) w rest h = through_kept (walk n g) (walk_kept n) w rest h

      pub walked_has : (w : Walked) → walked g blocks ≡ Ok w → All Has w.nodes
      unfolding walked walk_volume
      walked_has w e = subst (λ x. IfOk x Kept) e (walk_kept g.inodes (at_start g) (root ∷ []) (All-nil Has))
