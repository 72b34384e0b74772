-- The blocks of a call that removes a directory.
use Rattle.std.specs.Prelude.{◌≡◌, ◌≢◌, ◌⊎◌, ◌-◌, ◌+◌, ◌/◌, ◌≤◌, ℕ, false, List, ◌++◌, Some, Ok, refl}
use Rattle.std.proofs.Common.{sym, ap, subst, ◌∙◌, inl, inr, arith}
use Rattle.std.proofs.lemmas.Option.{same_Some}
use Rattle.blk_base.specs.Members.{In}
use Rattle.blk_base.specs.laws.Members.{In-append_cases}
use Rattle.minix_layout.specs.declared.division.Geometry.{Geometry}
use Rattle.minix_layout.specs.declared.inode.Inode.{Inode}
use Rattle.tree_model.specs.declared.call.Call.TheVariants as calls
use Rattle.tree_model.specs.declared.call.Reply.TheVariants as replies
use Rattle.tree_model.specs.declared.node.Node.TheVariants as nodes
use Rattle.tree_model.specs.declared.node.Directory.{Directory}
use Rattle.tree_model.specs.Maps.{at_number, at_name}
use Rattle.tree_model.specs.laws.MapOrder.{at_without_apart}
use Rattle.tree_model.specs.laws.MapsLaws.{at_put_number, at_put_number_apart}
use Rattle.tree_model.specs.Calls.{Done, Place, outcome, take_name, without_name}
use Rattle.tree_model.proofs.Rows.{IsPlace}
use Rattle.volume_ops.specs.Places.{table_block}
use Rattle.volume_ops.specs.Volume.{disk_of}
use Rattle.volume_model.specs.declared.placed.Placed.{Placed}
use Rattle.volume_model.specs.Edits.{touched_by}
use Rattle.volume_model.specs.Moves.{back_told}
use Rattle.volume_model.specs.laws.Back.{told_table}
use Rattle.volume_steps.specs.Now.{VolumeNow, Change, tree_of_now, room_of, followed_by}
use Rattle.volume_steps.specs.Steps.{take_name as take_name_step, set_links, with_links, drop_node, node_dropped, all_numbers, block_zones}
use Rattle.volume_steps.specs.Calls.{called, changed, at_path}
use Rattle.volume_steps.specs.Called.{FindsRoom}
use Rattle.volume_steps.specs.Plain.{IsInUse}
use Rattle.volume_steps.specs.Zones.{zone_bit}
use Rattle.volume_steps.proofs.Bits.{AreZones}
use Rattle.volume_steps.proofs.CallPaths.{DirectoryAt, directory_at, at_place_is, at_path_is}
use Rattle.volume_steps.proofs.FileCalls.{called_is}
use Rattle.volume_steps.proofs.Marked.{number_goes}
use Rattle.volume_steps.proofs.NameGoes.{x, named, sorted, name_goes, name_goes_is, name_goes_step}
use Rattle.volume_steps.proofs.QuietSteps.{at_node_is, linked, linked_steady, set_links_is}
use Rattle.volume_steps.proofs.StepsTo.{StepsTo, joined, links_at}
use Rattle.volume_steps.proofs.TakeZones.{zone_range}
use Rattle.volume_steps.proofs.RmdirCall as call
use Rattle.volume_steps.proofs.RmdirCall.{Rmdirs}
use Rattle.minix_tables.specs.declared.zones.zone_state.ZoneState.TheVariants as states
use Rattle.vol_check.specs.kept_clean.changed.Changed.{HasChanged}
use Rattle.vol_check.proofs.KeptCleanLemmas.ChangedLemmas.Ends.{Ends, freed_bit, gone_bit, inode_differs, node_differs, told_differs}
use Rattle.vol_check.proofs.KeptCleanLemmas.ChangedLemmas.Drops.{no_zero, drop_zero, drop_high, drop_told}
use Rattle.vol_check.proofs.KeptCleanLemmas.ChangedLemmas.Steps.{back_high, take_changed}
use Rattle.volume_steps.proofs.AllCalls.{any_call}
use Rattle.vol_check.proofs.KeptCleanLemmas.ChangedLemmas.BareFrames.{IsBareNow}
use Rattle.vol_check.proofs.KeptCleanLemmas.ChangedLemmas.BareNodes.{drop_bare}
use Rattle.vol_check.proofs.KeptCleanLemmas.ChangedLemmas.BareSteps.{take_bare, links_bare}

module _ (tx : ℕ) (v : VolumeNow) (n : ℕ) (path : List ℕ) (h : FindsRoom v n (calls.Rmdir path)) (d : Done) (done : outcome (room_of v.geometry) (tree_of_now v) n (calls.Rmdir path) ≡ Ok d) where
  abbrev g : Geometry
  g = v.geometry

  abbrev said : Rmdirs v path d
  said = call.said tx v h.plain n h.born path d done

  abbrev place : Place
  place = said.place

  abbrev birth : ℕ
  birth = said.found.birth

  abbrev is_place : IsPlace (tree_of_now v) said.names place
  is_place = call.is_place tx v h.plain n h.born path d done

  abbrev stands : at_number (tree_of_now v) birth ≡ Some (nodes.Directory said.directory)
  stands = call.stands tx v h.plain n h.born path d done

  abbrev y : DirectoryAt v birth said.directory
  y = call.y tx v h.plain n h.born path d done

  abbrev gives : at_name place.directory.names place.name ≡ Some birth
  gives = call.gives tx v h.plain n h.born path d done

  abbrev apart : birth ≢ place.parent
  apart = call.apart tx v h.plain n h.born path d done

  abbrev parent : DirectoryAt v place.parent place.directory
  parent = x tx v h.plain place birth is_place.stands gives

  -- ---- the name goes

  abbrev less : Change
  less = name_goes tx v h.plain place birth is_place.stands gives

  abbrev v1 : VolumeNow
  v1 = less.volume

  first : StepsTo tx v less (take_name (tree_of_now v) place) (links_at v.contents.nodes)
  first = name_goes_step tx v h.plain place birth is_place.stands gives

  -- the block of its slot, where no zone of data changes after the name went
  slot_changed : (after : List (List ℕ)) → ((b : ℕ) → g.first ≤ b → disk_of after b ≡ disk_of v1.contents.blocks b) → (b : ℕ) → In b less.touched.blocks → disk_of after b ≢ disk_of v.contents.blocks b
  slot_changed = take_changed tx v h.plain.in_use place.parent parent.placed parent.stands parent.part parent.is place.name birth (named tx v h.plain place birth is_place.stands gives) (sorted tx v h.plain place birth is_place.stands gives)

  -- ---- the parent has one link less

  x1 : DirectoryAt v1 place.parent (without_name place.directory place.name)
  x1 = directory_at v1 place.parent (without_name place.directory place.name)
      (ap (λ tree. at_number tree place.parent) first.tree_is ∙ at_put_number (tree_of_now v) place.parent (nodes.Directory (without_name place.directory place.name)))

  few : x1.placed.inode.links - 1 ≤ 250
  few = let most = first.settled.few_links place.parent x1.placed x1.stands in omega arith

  abbrev now : Inode
  now = with_links x1.placed.inode (x1.placed.inode.links - 1)

  number1 : x1.placed.number ≡ parent.placed.number
  number1 = ap (λ (p : Placed). p.number) (same_Some x1.placed _ (sym x1.stands ∙ at_put_number v.contents.nodes place.parent _))

  links1 : x1.placed.inode.links ≡ parent.placed.inode.links
  links1 = ap (λ (p : Placed). p.inode.links) (same_Some x1.placed _ (sym x1.stands ∙ at_put_number v.contents.nodes place.parent _))

  -- where that is told, it has another number of links than before
  fewer : (b : ℕ) → In b (back_told g x1.placed now) → now ≢ parent.placed.inode
  fewer b i same =
      let links : x1.placed.inode.links - 1 ≡ parent.placed.inode.links = ap (λ (i : Inode). i.links) same in
      told_differs g x1.placed now b i (as_it_was (let e = links1 in (omega arith)))
    where
      as_it_was : x1.placed.inode.links - 1 ≡ x1.placed.inode.links → now ≡ x1.placed.inode
      as_it_was e = λ i. record { mode = x1.placed.inode.mode; uid = x1.placed.inode.uid; size = x1.placed.inode.size; time = x1.placed.inode.time; gid = x1.placed.inode.gid; links = e i; zones = x1.placed.inode.zones }

  abbrev unlinked : Change
  unlinked = linked tx v1 first.steady.in_use place.parent x1.placed x1.stands (x1.placed.inode.links - 1) few

  abbrev v2 : VolumeNow
  v2 = unlinked.volume

  in_use2 : IsInUse v2
  in_use2 = (linked_steady tx v1 first.steady.in_use place.parent x1.placed x1.stands (x1.placed.inode.links - 1) few).in_use

  high2 : (b : ℕ) → g.first ≤ b → disk_of v2.contents.blocks b ≡ disk_of v1.contents.blocks b
  high2 = let told = first.steady.in_use.volume.0.each place.parent x1.placed x1.stands in back_high g v1.contents.blocks x1.placed now h.plain.in_use.sound told.some told.within

  -- ---- the directory goes

  at2 : at_number v2.contents.nodes birth ≡ Some y.placed
  at2 = at_put_number_apart v1.contents.nodes place.parent _ birth apart ∙ (at_put_number_apart v.contents.nodes place.parent _ birth apart ∙ y.stands)

  abbrev zones : List ℕ
  zones = block_zones v2.contents y.placed y.placed.part ++ all_numbers v2.contents y.placed

  abbrev gone : Change
  gone = node_dropped v2 tx birth y.placed

  abbrev Differs : ℕ → Type 0
  Differs b = disk_of gone.volume.contents.blocks b ≢ disk_of v.contents.blocks b

  gone_changes : Ends tx v (joined less (joined unlinked gone)) → HasChanged v (joined less (joined unlinked gone))
  gone_changes e b i was = elim (In-append_cases less.touched.blocks (unlinked.touched.blocks ++ gone.touched.blocks) b i) [
    | inl j ↦ slot_changed gone.volume.contents.blocks (λ b low. high3 b low ∙ high2 b low) b j
    | inr more ↦ elim (In-append_cases unlinked.touched.blocks gone.touched.blocks b more) [
      | inl j ↦ moved (table_block g parent.placed.number) b (sym (told_table g x1.placed now b j ∙ ap (table_block g) number1))
          (node_differs tx v (joined less (joined unlinked gone)) e place.parent parent.placed (record { number = x1.placed.number; inode = now; part = x1.placed.part }) parent.stands left number1 (fewer b j))
      | inr j ↦ dropped (drop_told v2 in_use2 birth y.placed at2 zones within b j)
    ]
  ]
    where
      within : AreZones g zones
      within z i = zone_range v h.plain.in_use z states.Used (e.was_used z i)

      high3 : (b : ℕ) → g.first ≤ b → disk_of gone.volume.contents.blocks b ≡ disk_of v2.contents.blocks b
      high3 = drop_high v2 in_use2 birth y.placed at2 zones within

      left : at_number gone.volume.contents.nodes place.parent ≡ Some (record { number = x1.placed.number; inode = now; part = x1.placed.part })
      left = at_without_apart v2.contents.nodes birth place.parent in_use2.volume.0.in_order (λ e. apart (sym e)) ∙ at_put_number v1.contents.nodes place.parent _

      moved : (a c : ℕ) → a ≡ c → Differs a → Differs c
      moved a c same differs = subst Differs same differs

      bit : Differs (2 + y.placed.number / 8192)
      bit =
          let told = h.plain.in_use.volume.0.each birth y.placed y.stands in
          gone_bit tx v (joined less (joined unlinked gone)) e y.placed.number told.some told.within (record { birth = birth; placed = y.placed; stands = y.stands; is = refl })
          (number_goes v2.contents.nodes birth y.placed in_use2.volume.0.in_order at2 in_use2.volume.0.numbers)

      table : Differs (table_block g y.placed.number)
      table =
          let told = h.plain.in_use.volume.0.each birth y.placed y.stands in
          inode_differs g v.contents.blocks gone.volume.contents.blocks y.placed.number
          (λ same. no_zero g v.contents.blocks y.placed.inode y.placed.part told.part (sym (drop_zero v2 in_use2 birth y.placed at2 zones within) ∙ (same ∙ told.inode)))

      dropped : (2 + y.placed.number / 8192 ≡ b) ⊎ (((z : ℕ) × In z zones × (touched_by g (zone_bit g false z) ≡ b)) ⊎ (table_block g y.placed.number ≡ b)) → Differs b
      dropped (inl same) = moved (2 + y.placed.number / 8192) b same bit
      dropped (inr (inl z)) = freed_bit tx v (joined less (joined unlinked gone)) e z.0 z.1 b z.2
      dropped (inr (inr same)) = moved (table_block g y.placed.number) b same table

  -- ---- the call

  rmdir_is : (called v n tx (calls.Rmdir path)).change ≡ joined less (joined unlinked gone)
  unfolding changed
  rmdir_is =
      called_is tx v n (calls.Rmdir path) d done
      ∙ (at_place_is v path said.names place replies.Invalid (λ place. at_path v path (λ birth. by place birth)) said.named said.parent
      ∙ (at_path_is v path said.names said.found (λ birth. by place birth) said.named said.walked
      ∙ (ap (λ c. followed_by c (λ u. followed_by (set_links u place.parent (λ links. links - 1)) (λ w. drop_node w tx birth))) (name_goes_is tx v h.plain place birth is_place.stands gives)
      ∙ (ap (λ c. joined less (followed_by c (λ w. drop_node w tx birth))) (set_links_is tx v1 first.steady.in_use place.parent x1.placed x1.stands (x1.placed.inode.links - 1) few (λ links. links - 1) refl)
      ∙ ap (λ c. joined less (joined unlinked c)) (at_node_is v2 birth y.placed (node_dropped v2 tx birth) at2)))))
    where
      by : Place → ℕ → Change
      by place birth = followed_by (take_name_step v place.parent place.name) (λ u. followed_by (set_links u place.parent (λ links. links - 1)) (λ w. drop_node w tx birth))

  pub rmdir_changes : Ends tx v (called v n tx (calls.Rmdir path)).change → HasChanged v (called v n tx (calls.Rmdir path)).change
  rmdir_changes e = subst (HasChanged v) (sym rmdir_is) (gone_changes (subst (Ends tx v) rmdir_is e))

  -- ---- the volume stays bare

  less_bare : IsBareNow v → IsBareNow v1
  less_bare = take_bare tx v h.plain.in_use place.parent parent.placed parent.stands parent.part parent.is place.name birth (named tx v h.plain place birth is_place.stands gives) (sorted tx v h.plain place birth is_place.stands gives)

  pub rmdir_bare : IsBareNow v → IsBareNow (called v n tx (calls.Rmdir path)).change.volume
  rmdir_bare bare =
      let used = (any_call tx v n (calls.Rmdir path) h).steady.was_used in
      subst (λ (c : Change). IsBareNow c.volume) (sym rmdir_is)
      (drop_bare v2 in_use2 birth y.placed at2 zones (λ z i. zone_range v h.plain.in_use z states.Used (used z (subst (λ (c : Change). In z c.touched.freed) (sym rmdir_is) i)))
      (links_bare v1 first.steady.in_use place.parent x1.placed x1.stands (x1.placed.inode.links - 1) few (less_bare bare)))
