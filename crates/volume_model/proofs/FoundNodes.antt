-- The nodes of a plain image are those that its walk found, with the zones that it found.
use Rattle.std.specs.Prelude.{◌≡◌, ℕ, ◌/◌, ◌<◌, List, [], ◌∷◌, map, Some, Result, Ok, Err, IfOk, refl}
use Rattle.std.specs.Map.{keys_of}
use Rattle.std.proofs.Common.{sym, ap, subst, ◌∙◌, inl, inr, ⊎_elim, arith}
use Rattle.std.proofs.lemmas.Bool.{cases_eq}
use Rattle.std.proofs.lemmas.Option.{same_Some}
use Rattle.blk_base.specs.Members.{In}
use Rattle.blk_base.specs.laws.Members.{All-In}
use Rattle.minix_layout.specs.Widths.{slot_size}
use Rattle.minix_layout.specs.declared.division.Geometry.{Geometry}
use Rattle.tree_model.specs.declared.node.Node.{Node}
use Rattle.tree_model.specs.declared.node.Node.TheVariants as nodes
use Rattle.tree_model.specs.Maps.{at_number}
use Rattle.volume_ops.specs.declared.found.Mapped.{Mapped}
use Rattle.volume_ops.specs.declared.found.Found.{Found}
use Rattle.volume_ops.specs.declared.found.Found.TheVariants as found
use Rattle.volume_ops.specs.declared.found.FoundNode.{FoundNode}
use Rattle.volume_ops.specs.Reads.{answer}
use Rattle.volume_ops.specs.laws.ReadsLaws.{same_Ok}
use Rattle.volume_ops.proofs.Answered.{any_ok}
use Rattle.volume_ops.proofs.WalkKeeps.{walked_has}
use Rattle.volume_ops.specs.Places.{table_block, birth_of, inode_of_birth}
use Rattle.volume_ops.specs.Zones.{ZoneScan, scan_zones}
use Rattle.volume_ops.proofs.ZonesLaws.{IsMapTo, scan_zones-map}
use Rattle.volume_ops.specs.Slots.{scan_slots}
use Rattle.volume_ops.proofs.SlotsLaws.{inode_of_birth_of}
use Rattle.volume_ops.proofs.TreeLaws.{in_tree}
use Rattle.volume_ops.specs.Walk.{Walked, walk, root}
use Rattle.volume_ops.proofs.WalkLaws.{Ends, walk_volume-ends}
use Rattle.volume_ops.specs.Volume.{disk_of, walked, bodies_of, node_of, put_nodes, tree_found}
use Rattle.volume_ops.specs.VolumeFields.{inode_at, zone_behind}
use Rattle.volume_ops.proofs.TreeUnique.{tree_walked}
use Rattle.volume_ops.proofs.VisitTests.{nine}
use Rattle.volume_model.specs.declared.placed.Part.TheVariants as parts
use Rattle.volume_model.specs.Plain.{inode_born, IsPlainVolume}
use Rattle.volume_model.specs.ImageNodes.{part_in, part_found, placed_in, contents_in}
use Rattle.volume_model.proofs.ImageSlots.{at_made}

-- ---- the zones of a file that the walk finds are those of its blocks

module _ (g : Geometry) (blocks : List (List ℕ)) where
  abbrev disk : ℕ → List ℕ
  disk = disk_of blocks

  abbrev IsMapOf : ℕ → List Mapped → Type 0
  IsMapOf number zones = IsMapTo zones (zone_behind blocks (inode_at g blocks number)) 262663

  abbrev HasMap : FoundNode → Found → Type 0
  HasMap n (found.File f) = (number : ℕ) × (birth_of number ≡ n.birth) × IsMapOf number f.zones
  HasMap n other = Unit {0}

  ok_by : {A E : Type 0} (Q : A → Type 0) (r : Result A E) → ((s : A) → r ≡ Ok s → Q s) → IfOk r Q
  ok_by Q (Ok s) f = f s refl
  ok_by Q (Err e) f = tt

  walked_maps : (all : Walked) → walked g blocks ≡ Ok all → (n : FoundNode) → In n all.nodes → HasMap n n.found
  walked_maps all e n i =
      let have = walked_has g blocks (λ n. HasMap n n.found) (λ number z. IsMapOf number z.mapped) (λ s. Unit {0})
      (λ w e. ok_by (λ (z : ZoneScan). IsMapOf e.inode z.mapped) (answer disk (scan_zones g (table_block g e.inode) (inode_at g blocks e.inode).zones w.zones))
      (λ z r. scan_zones-map disk g (table_block g e.inode) (inode_at g blocks e.inode).zones w.zones z (nine g blocks e.inode) r 262663))
      (λ w e z. any_ok (answer disk (scan_slots g ((inode_at g blocks e.inode).size / slot_size g.width) z.mapped (record { named = w.named; names = [] }))))
      (λ e z map. (e.inode, refl, map)) (λ e s k. tt) (λ e. tt) all e in
      All-In (λ (n : FoundNode). HasMap n n.found) all.nodes n have i

  -- ---- what it finds stands in the tree

  pub walked_stands : (all : Walked) → walked g blocks ≡ Ok all → (n : FoundNode) → In n all.nodes → at_number (put_nodes blocks all.nodes []) n.birth ≡ Some (node_of blocks n.found)
  unfolding walked
  walked_stands all e =
      let ends : Ends g blocks all.nodes = walk_volume-ends g blocks all e in
      subst (λ ns. (n : FoundNode) → In n ns → at_number (put_nodes blocks ns []) n.birth ≡ Some (node_of blocks n.found)) ends.nodes (in_tree g blocks (all.nodes, ends))

  zones_listed : (zone : ℕ → ℕ) (zones : List Mapped) → ((m : Mapped) → In m zones → zone m.index ≡ m.zone) → map (λ k. record { index = k; zone = zone k }) (keys_of (bodies_of blocks zones)) ≡ zones
  zones_listed zone [] right = refl
  zones_listed zone (m ∷ ms) right =
      let here : ◌≡◌ {A = Mapped} (record { index = m.index; zone = zone m.index }) m = ap (λ z. record { index = m.index; zone = z }) (right m (inl refl)) in
      ap (λ x. x ∷ map (λ k. record { index = k; zone = zone k }) (keys_of (bodies_of blocks ms))) here ∙ ap (λ more. m ∷ more) (zones_listed zone ms (λ x i. right x (inr i)))

  module _ (tree : List (ℕ × Node)) (some : 0 < g.inodes) (h : IsPlainVolume g blocks tree) (all : Walked) (w : walked g blocks ≡ Ok all) where
    tree_same : put_nodes blocks all.nodes [] ≡ tree
    tree_same = same_Ok (put_nodes blocks all.nodes []) tree (sym (ap (tree_found blocks) w) ∙ tree_walked g blocks tree some h.stands)

    part_same : (n : FoundNode) (f : Found) → at_number tree n.birth ≡ Some (node_of blocks f) → HasMap n f → part_in g blocks (inode_born g blocks n.birth) (node_of blocks f) ≡ part_found g blocks (inode_born g blocks n.birth) f
    part_same n (found.Directory d) at m = refl
    part_same n (found.Other mode) at m = refl
    part_same n (found.File f) at m =
        let number : inode_of_birth n.birth ≡ m.0 =
        ⊎_elim
        (λ zero_is. absurd (no_root_file (ap birth_of zero_is)))
        (λ ne. ap inode_of_birth (sym m.1) ∙ inode_of_birth_of m.0 (omega arith))
        (cases_eq m.0 0) in
        ap parts.File (zones_listed (zone_behind blocks (inode_born g blocks n.birth)) f.zones (λ x i. ap (λ k. zone_behind blocks (inode_at g blocks k) x.index) number ∙ (m.2.right x i).0))
      where
        no_root_file : birth_of m.0 ≡ 0 → ⊥
        no_root_file e =
            let x = h.stands.fields.root in
            let here : at_number tree 0 ≡ Some (node_of blocks (found.File f)) = ap (at_number tree) (sym e ∙ m.1) ∙ at in
            let same = same_Some (nodes.Directory x.0) (node_of blocks (found.File f)) (sym x.1 ∙ here) in
            cc

    pub found_stands : (n : FoundNode) → In n all.nodes →
        at_number (contents_in g blocks tree).nodes n.birth ≡ Some (record { number = inode_of_birth n.birth; inode = inode_born g blocks n.birth; part = part_found g blocks (inode_born g blocks n.birth) n.found })
    unfolding contents_in
    found_stands n i =
        let at : at_number tree n.birth ≡ Some (node_of blocks n.found) = ap (λ t. at_number t n.birth) (sym tree_same) ∙ walked_stands all w n i in
        at_made (placed_in g blocks) tree n.birth (node_of blocks n.found) at
        ∙ ap (λ part. Some (record { number = inode_of_birth n.birth; inode = inode_born g blocks n.birth; part = part })) (part_same n n.found at (walked_maps all w n i))
