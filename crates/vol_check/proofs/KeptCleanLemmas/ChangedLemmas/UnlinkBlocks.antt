-- The blocks of a call that takes a name from a file.
use Rattle.std.specs.Prelude.{◌≡◌, ◌≢◌, ◌⊎◌, ◌+◌, ◌-◌, ◌/◌, ◌≤◌, ℕ, nat_le, Bool, false, if◌then◌else◌, List, ◌++◌, Some, Ok, refl}
use Rattle.std.proofs.Common.{sym, ap, subst, ◌∙◌, inl, inr, arith}
use Rattle.std.proofs.lemmas.Bool.{cases_Bool}
use Rattle.blk_base.specs.Members.{In}
use Rattle.blk_base.specs.laws.Members.{In-append_cases}
use Rattle.minix_layout.specs.declared.division.Geometry.{Geometry}
use Rattle.tree_model.specs.declared.call.Call.TheVariants as calls
use Rattle.tree_model.specs.declared.call.Reply.TheVariants as replies
use Rattle.tree_model.specs.Maps.{at_number, at_name}
use Rattle.tree_model.specs.laws.MapsLaws.{at_put_number, at_put_number_apart}
use Rattle.tree_model.specs.Calls.{Done, Place, outcome, take_name}
use Rattle.tree_model.proofs.Rows.{IsPlace}
use Rattle.volume_ops.specs.Places.{table_block}
use Rattle.volume_ops.specs.Volume.{disk_of}
use Rattle.volume_model.specs.Edits.{touched_by}
use Rattle.volume_model.specs.laws.Back.{told_table}
use Rattle.volume_steps.specs.Now.{VolumeNow, Change, tree_of_now, room_of, followed_by}
use Rattle.volume_steps.specs.Steps.{take_name as take_name_step, set_links, with_links, drop_node, node_dropped, all_numbers, block_zones}
use Rattle.volume_steps.specs.Calls.{called, changed, lose_link as lose_link_step, at_path}
use Rattle.volume_steps.specs.Called.{FindsRoom}
use Rattle.volume_steps.specs.Zones.{zone_bit}
use Rattle.volume_steps.proofs.Bits.{AreZones}
use Rattle.volume_steps.proofs.CallPaths.{DirectoryAt, at_place_is, at_path_is}
use Rattle.volume_steps.proofs.FileCalls.{called_is}
use Rattle.volume_steps.proofs.LinkCall.{FileAt}
use Rattle.volume_steps.proofs.Marked.{number_goes}
use Rattle.volume_steps.proofs.NameGoes.{x, named, sorted, name_goes, name_goes_is, name_goes_step}
use Rattle.volume_steps.proofs.QuietSteps.{at_node_is, linked, set_links_is}
use Rattle.volume_steps.proofs.StepsTo.{StepsTo, joined, links_at}
use Rattle.volume_steps.proofs.TakeZones.{zone_range}
use Rattle.volume_steps.proofs.UnlinkCall as call
use Rattle.volume_steps.proofs.UnlinkCall.{Unlinks}
use Rattle.minix_tables.specs.declared.zones.zone_state.ZoneState.TheVariants as states
use Rattle.vol_check.specs.kept_clean.changed.Changed.{HasChanged}
use Rattle.vol_check.proofs.KeptCleanLemmas.ChangedLemmas.Ends.{Ends, freed_bit, gone_bit, inode_differs, node_differs, told_differs}
use Rattle.vol_check.proofs.KeptCleanLemmas.ChangedLemmas.Drops.{no_zero, drop_zero, drop_high, drop_told}
use Rattle.vol_check.proofs.KeptCleanLemmas.ChangedLemmas.Steps.{back_high, take_changed}
use Rattle.volume_steps.proofs.AllCalls.{any_call}
use Rattle.vol_check.proofs.KeptCleanLemmas.ChangedLemmas.BareFrames.{IsBareNow}
use Rattle.vol_check.proofs.KeptCleanLemmas.ChangedLemmas.BareNodes.{drop_bare}
use Rattle.vol_check.proofs.KeptCleanLemmas.ChangedLemmas.BareSteps.{take_bare, links_bare}

module _ (tx : ℕ) (v : VolumeNow) (n : ℕ) (path : List ℕ) (h : FindsRoom v n (calls.Unlink path)) (d : Done) (done : outcome (room_of v.geometry) (tree_of_now v) n (calls.Unlink path) ≡ Ok d) where
  abbrev g : Geometry
  g = v.geometry

  abbrev said : Unlinks v path d
  said = call.said tx v h.plain n h.born path d done

  abbrev place : Place
  place = said.place

  abbrev birth : ℕ
  birth = said.found.birth

  abbrev is_place : IsPlace (tree_of_now v) said.names place
  is_place = call.is_place tx v h.plain n h.born path d done

  abbrev y : FileAt v birth said.file
  y = call.y tx v h.plain n h.born path d done

  abbrev apart : birth ≢ place.parent
  apart = call.apart tx v h.plain n h.born path d done

  abbrev gives : at_name place.directory.names place.name ≡ Some birth
  gives = call.gives tx v h.plain n h.born path d done

  abbrev parent : DirectoryAt v place.parent place.directory
  parent = x tx v h.plain place birth is_place.stands gives

  abbrev less : Change
  less = name_goes tx v h.plain place birth is_place.stands gives

  abbrev v1 : VolumeNow
  v1 = less.volume

  first : StepsTo tx v less (take_name (tree_of_now v) place) (links_at v.contents.nodes)
  first = name_goes_step tx v h.plain place birth is_place.stands gives

  at1 : at_number v1.contents.nodes birth ≡ Some y.placed
  at1 = at_put_number_apart v.contents.nodes place.parent _ birth apart ∙ y.stands

  few : y.placed.inode.links - 1 ≤ 250
  few = let most = h.plain.plain.few_links birth y.placed y.stands in omega arith

  -- the block of its slot, where no zone of data changes after the name went
  slot_changed : (after : List (List ℕ)) → ((b : ℕ) → g.first ≤ b → disk_of after b ≡ disk_of v1.contents.blocks b) → (b : ℕ) → In b less.touched.blocks → disk_of after b ≢ disk_of v.contents.blocks b
  slot_changed = take_changed tx v h.plain.in_use place.parent parent.placed parent.stands parent.part parent.is place.name birth (named tx v h.plain place birth is_place.stands gives) (sorted tx v h.plain place birth is_place.stands gives)

  -- ---- it keeps another name

  abbrev kept : Change
  kept = linked tx v1 first.steady.in_use birth y.placed at1 (y.placed.inode.links - 1) few

  kept_changes : Ends tx v (joined less kept) → HasChanged v (joined less kept)
  kept_changes e b i was = elim (In-append_cases less.touched.blocks kept.touched.blocks b i) [
    | inl j ↦ slot_changed kept.volume.contents.blocks high b j
    | inr j ↦ subst (λ b. disk_of kept.volume.contents.blocks b ≢ disk_of v.contents.blocks b) (sym (told_table g y.placed (with_links y.placed.inode (y.placed.inode.links - 1)) b j))
        (node_differs tx v (joined less kept) e birth y.placed _ y.stands (at_put_number v1.contents.nodes birth _) refl (told_differs g y.placed (with_links y.placed.inode (y.placed.inode.links - 1)) b j))
  ]
    where
      high : (b : ℕ) → g.first ≤ b → disk_of kept.volume.contents.blocks b ≡ disk_of v1.contents.blocks b
      high = let told = h.plain.in_use.volume.0.each birth y.placed y.stands in back_high g v1.contents.blocks y.placed (with_links y.placed.inode (y.placed.inode.links - 1)) h.plain.in_use.sound told.some told.within

  -- ---- it goes

  abbrev zones : List ℕ
  zones = block_zones v1.contents y.placed y.placed.part ++ all_numbers v1.contents y.placed

  abbrev gone : Change
  gone = node_dropped v1 tx birth y.placed

  abbrev Differs : ℕ → Type 0
  Differs b = disk_of gone.volume.contents.blocks b ≢ disk_of v.contents.blocks b

  gone_changes : Ends tx v (joined less gone) → HasChanged v (joined less gone)
  gone_changes e b i was = elim (In-append_cases less.touched.blocks gone.touched.blocks b i) [
    | inl j ↦ slot_changed gone.volume.contents.blocks (drop_high v1 first.steady.in_use birth y.placed at1 zones within) b j
    | inr j ↦ dropped (drop_told v1 first.steady.in_use birth y.placed at1 zones within b j)
  ]
    where
      within : AreZones g zones
      within z i = zone_range v h.plain.in_use z states.Used (e.was_used z i)

      moved : (a c : ℕ) → a ≡ c → Differs a → Differs c
      moved a c same differs = subst Differs same differs

      bit : Differs (2 + y.placed.number / 8192)
      bit =
          let told = h.plain.in_use.volume.0.each birth y.placed y.stands in
          gone_bit tx v (joined less gone) e y.placed.number told.some told.within (record { birth = birth; placed = y.placed; stands = y.stands; is = refl })
          (number_goes v1.contents.nodes birth y.placed first.steady.in_use.volume.0.in_order at1 first.steady.in_use.volume.0.numbers)

      table : Differs (table_block g y.placed.number)
      table =
          let told = h.plain.in_use.volume.0.each birth y.placed y.stands in
          inode_differs g v.contents.blocks gone.volume.contents.blocks y.placed.number
          (λ same. no_zero g v.contents.blocks y.placed.inode y.placed.part told.part (sym (drop_zero v1 first.steady.in_use birth y.placed at1 zones within) ∙ (same ∙ told.inode)))

      dropped : (2 + y.placed.number / 8192 ≡ b) ⊎ (((z : ℕ) × In z zones × (touched_by g (zone_bit g false z) ≡ b)) ⊎ (table_block g y.placed.number ≡ b)) → Differs b
      dropped (inl same) = moved (2 + y.placed.number / 8192) b same bit
      dropped (inr (inl z)) = freed_bit tx v (joined less gone) e z.0 z.1 b z.2
      dropped (inr (inr same)) = moved (table_block g y.placed.number) b same table

  -- ---- both

  unlink_is : (called v n tx (calls.Unlink path)).change ≡ joined less (if nat_le y.placed.inode.links 1 then drop_node v1 tx birth else set_links v1 birth (λ links. links - 1))
  unfolding changed
  unlink_is =
      called_is tx v n (calls.Unlink path) d done
      ∙ (at_place_is v path said.names place replies.Invalid (λ place. at_path v path (λ birth. followed_by (take_name_step v place.parent place.name) (λ w. lose_link_step w tx birth))) said.named said.parent
      ∙ (at_path_is v path said.names said.found (λ birth. followed_by (take_name_step v place.parent place.name) (λ w. lose_link_step w tx birth)) said.named said.walked
      ∙ (ap (λ c. followed_by c (λ w. lose_link_step w tx birth)) (name_goes_is tx v h.plain place birth is_place.stands gives)
      ∙ ap (λ c. joined less c) (at_node_is v1 birth y.placed (λ p. if nat_le p.inode.links 1 then drop_node v1 tx birth else set_links v1 birth (λ links. links - 1)) at1))))

  pub unlink_changes : Ends tx v (called v n tx (calls.Unlink path)).change → HasChanged v (called v n tx (calls.Unlink path)).change
  unlink_changes e = elim (cases_Bool (nat_le y.placed.inode.links 1)) [
    | inl t ↦
        let is = unlink_is ∙ (ap (λ (b : Bool). joined less (if b then drop_node v1 tx birth else set_links v1 birth (λ links. links - 1))) t
        ∙ ap (λ c. joined less c) (at_node_is v1 birth y.placed (node_dropped v1 tx birth) at1)) in
        subst (HasChanged v) (sym is) (gone_changes (subst (Ends tx v) is e))
    | inr f ↦
        let is = unlink_is ∙ (ap (λ (b : Bool). joined less (if b then drop_node v1 tx birth else set_links v1 birth (λ links. links - 1))) f
        ∙ ap (λ c. joined less c) (set_links_is tx v1 first.steady.in_use birth y.placed at1 (y.placed.inode.links - 1) few (λ links. links - 1) refl)) in
        subst (HasChanged v) (sym is) (kept_changes (subst (Ends tx v) is e))
  ]

  -- ---- the volume stays bare

  less_bare : IsBareNow v → IsBareNow v1
  less_bare = take_bare tx v h.plain.in_use place.parent parent.placed parent.stands parent.part parent.is place.name birth (named tx v h.plain place birth is_place.stands gives) (sorted tx v h.plain place birth is_place.stands gives)

  pub unlink_bare : IsBareNow v → IsBareNow (called v n tx (calls.Unlink path)).change.volume
  unlink_bare bare = elim (cases_Bool (nat_le y.placed.inode.links 1)) [
    | inl t ↦
        let is = unlink_is ∙ (ap (λ (b : Bool). joined less (if b then drop_node v1 tx birth else set_links v1 birth (λ links. links - 1))) t
        ∙ ap (λ c. joined less c) (at_node_is v1 birth y.placed (node_dropped v1 tx birth) at1)) in
        let used = (any_call tx v n (calls.Unlink path) h).steady.was_used in
        subst (λ (c : Change). IsBareNow c.volume) (sym is)
        (drop_bare v1 first.steady.in_use birth y.placed at1 zones (λ z i. zone_range v h.plain.in_use z states.Used (used z (subst (λ (c : Change). In z c.touched.freed) (sym is) i))) (less_bare bare))
    | inr f ↦
        let is = unlink_is ∙ (ap (λ (b : Bool). joined less (if b then drop_node v1 tx birth else set_links v1 birth (λ links. links - 1))) f
        ∙ ap (λ c. joined less c) (set_links_is tx v1 first.steady.in_use birth y.placed at1 (y.placed.inode.links - 1) few (λ links. links - 1) refl)) in
        subst (λ (c : Change). IsBareNow c.volume) (sym is) (links_bare v1 first.steady.in_use birth y.placed at1 (y.placed.inode.links - 1) few (less_bare bare))
  ]
