-- How many blocks calls tell by which a name goes, and how many they revoke.
use Rattle.std.specs.Prelude.{◌≡◌, ◌≢◌, ℕ, ◌-◌, ◌*◌, ◌<◌, ◌≤◌, nat_eq, List, length, slice_index, Some, Ok}
use Rattle.std.specs.Int.{div_ceil}
use Rattle.std.proofs.Common.{sym, ap, subst, ◌∙◌, inl, inr, arith}
use Rattle.std.proofs.lemmas.Bool.{cases_Bool, eqb-true, eqb-false}
use Rattle.std.proofs.lemmas.Option.{same_Some}
use Rattle.minix_layout.specs.Widths.{slot_size, slots_a_block}
use Rattle.minix_layout.specs.laws.Places.{IsForm, narrow, wide, form_is}
use Rattle.tree_model.specs.declared.call.Call.TheVariants as calls
use Rattle.tree_model.specs.declared.call.Reply.TheVariants as replies
use Rattle.tree_model.specs.Calls.{Done, Place, outcome}
use Rattle.tree_model.specs.Maps.{at_number}
use Rattle.tree_model.specs.laws.MapsLaws.{at_put_number_apart}
use Rattle.volume_model.specs.Plain.{HasSlotZones}
use Rattle.volume_model.specs.Touched.{Contents}
use Rattle.volume_model.specs.Volume.{double}
use Rattle.volume_model.specs.declared.placed.DirectoryPart.{DirectoryPart}
use Rattle.volume_model.specs.declared.placed.Part.TheVariants as parts
use Rattle.volume_model.specs.declared.placed.Placed.{Placed}
use Rattle.volume_steps.specs.Called.{FindsRoom}
use Rattle.volume_steps.specs.Calls.{called, changed, at_path, lose_link}
use Rattle.volume_steps.specs.Now.{VolumeNow, Change, tree_of_now, room_of, followed_by}
use Rattle.volume_steps.specs.Plain.{IsPlainNow}
use Rattle.volume_steps.specs.Steps.{set_links, take_name, drop_node, metadata_gone}
use Rattle.volume_steps.proofs.CallPaths.{DirectoryAt, at_place_is, at_path_is}
use Rattle.volume_steps.proofs.FileCalls.{called_is}
use Rattle.volume_steps.proofs.LinkCall.{FileAt}
use Rattle.volume_steps.proofs.NameGoes.{name_goes_is}
use Rattle.volume_steps.proofs.RmdirCall as rmdir_call
use Rattle.volume_steps.proofs.RmdirCall.{Rmdirs}
use Rattle.volume_steps.proofs.UnlinkCall as unlink_call
use Rattle.volume_steps.proofs.UnlinkCall.{Unlinks}
use Rattle.system_laws.proofs.TransactionSizeLemmas.Counted.{Counted, counted_more, counted_then}
use Rattle.system_laws.proofs.TransactionSizeLemmas.CountedSteps.{links_counted, links_apart, taken_counted, drop_counted}
use Rattle.system_laws.proofs.TransactionSizeLemmas.CountedCalls.{width_of, lose_counted, directory_revokes}

-- ---- directories of plain volumes

few_zones : (size per : ℕ) → IsForm size per → (slots : ℕ) → slots ≤ 519 * per → div_ceil slots per ≤ 519
few_zones size per narrow slots few = omega (arith, few)
few_zones size per wide slots few = omega (arith, few)

too_far : (size per : ℕ) → IsForm size per → (slots index : ℕ) → slots ≤ 519 * per → per * index < slots → 519 ≤ index → ⊥
too_far size per narrow slots index few there far = omega (arith, few, there, far)
too_far size per wide slots index few there far = omega (arith, few, there, far)

-- a directory of a plain volume revokes no more than its zones of slots and an indirect zone
plain_revokes : (v : VolumeNow) → IsPlainNow v → (n : ℕ) (p : Placed) (d : DirectoryPart) → at_number v.contents.nodes n ≡ Some p → p.part ≡ parts.Directory d → (c : Contents) → length (metadata_gone c p p.part) ≤ 520
plain_revokes v h n p d at is c = directory_revokes c p d is none (subst (λ width. div_ceil (length d.slots) (slots_a_block width) ≤ 519) (sym (width_of v h.in_use n p d at is)) (few_zones (slot_size v.geometry.width) (slots_a_block v.geometry.width) form (length d.slots) zones.few))
  where
    form : IsForm (slot_size v.geometry.width) (slots_a_block v.geometry.width)
    form = form_is v.geometry.width

    zones : HasSlotZones v.geometry v.contents.blocks p.inode (length d.slots)
    zones = h.plain.slot_zones n p d at is

    none : slice_index p.inode.zones 8 ≡ 0
    none = elim (cases_Bool (nat_eq (slice_index p.inode.zones 8) 0)) [
      | inl e ↦ eqb-true _ _ e
      | inr f ↦
          let far = h.in_use.volume.1 n p at double (eqb-false _ _ f) in
          absurd (too_far (slot_size v.geometry.width) (slots_a_block v.geometry.width) form (length d.slots) far.0 zones.few (zones.no_more far.0 far.1) far.2.0)
    ]

-- ---- a name of a file

module _ (tx : ℕ) (v : VolumeNow) (n : ℕ) (path : List ℕ) (h : FindsRoom v n (calls.Unlink path)) (d : Done) (done : outcome (room_of v.geometry) (tree_of_now v) n (calls.Unlink path) ≡ Ok d) where
  abbrev unlinks : Unlinks v path d
  unlinks = unlink_call.said tx v h.plain n h.born path d done

  abbrev unlinked : ℕ
  unlinked = unlinks.found.birth

  abbrev file : FileAt v unlinked unlinks.file
  file = unlink_call.y tx v h.plain n h.born path d done

  file_there : at_number (take_name v unlinks.place.parent unlinks.place.name).volume.contents.nodes unlinked ≡ Some file.placed
  file_there =
      ap (λ (c : Change). at_number c.volume.contents.nodes unlinked)
      (name_goes_is tx v h.plain unlinks.place unlinked (unlink_call.is_place tx v h.plain n h.born path d done).stands (unlink_call.gives tx v h.plain n h.born path d done))
      ∙ (at_put_number_apart v.contents.nodes unlinks.place.parent _ unlinked (unlink_call.apart tx v h.plain n h.born path d done) ∙ file.stands)

  pub unlink_counted : Counted v (called v n tx (calls.Unlink path)).change 12 520
  unfolding changed
  unlink_counted =
      let less = take_name v unlinks.place.parent unlinks.place.name in
      subst (λ c. Counted v c 12 520)
      (sym (called_is tx v n (calls.Unlink path) d done
      ∙ (at_place_is v path unlinks.names unlinks.place replies.Invalid (λ place. at_path v path (λ birth. followed_by (take_name v place.parent place.name) (λ w. lose_link w tx birth))) unlinks.named unlinks.parent
      ∙ at_path_is v path unlinks.names unlinks.found (λ birth. followed_by (take_name v unlinks.place.parent unlinks.place.name) (λ w. lose_link w tx birth)) unlinks.named unlinks.walked)))
      (counted_more v _ 4 12 520 520 (omega arith) (omega arith)
      (counted_then v less (λ w. lose_link w tx unlinked) 2 2 0 520 (taken_counted v unlinks.place.parent unlinks.place.name)
      (lose_counted less.volume tx unlinked file.placed file.zones file_there file.is)))

-- ---- a directory

module _ (tx : ℕ) (v : VolumeNow) (n : ℕ) (path : List ℕ) (h : FindsRoom v n (calls.Rmdir path)) (d : Done) (done : outcome (room_of v.geometry) (tree_of_now v) n (calls.Rmdir path) ≡ Ok d) where
  abbrev removes : Rmdirs v path d
  removes = rmdir_call.said tx v h.plain n h.born path d done

  abbrev removed : ℕ
  removed = removes.found.birth

  abbrev directory : DirectoryAt v removed removes.directory
  directory = rmdir_call.y tx v h.plain n h.born path d done

  abbrev less : Change
  less = take_name v removes.place.parent removes.place.name

  abbrev fewer : Change
  fewer = set_links less.volume removes.place.parent (λ links. links - 1)

  directory_apart : removed ≢ removes.place.parent
  directory_apart = rmdir_call.apart tx v h.plain n h.born path d done

  directory_there : at_number fewer.volume.contents.nodes removed ≡ Some directory.placed
  directory_there =
      links_apart less.volume removes.place.parent (λ links. links - 1) removed directory_apart
      ∙ (ap (λ (c : Change). at_number c.volume.contents.nodes removed)
      (name_goes_is tx v h.plain removes.place removed (rmdir_call.is_place tx v h.plain n h.born path d done).stands (rmdir_call.gives tx v h.plain n h.born path d done))
      ∙ (at_put_number_apart v.contents.nodes removes.place.parent _ removed directory_apart ∙ directory.stands))

  pub rmdir_counted : Counted v (called v n tx (calls.Rmdir path)).change 12 520
  unfolding changed
  rmdir_counted =
      subst (λ c. Counted v c 12 520)
      (sym (called_is tx v n (calls.Rmdir path) d done
      ∙ (at_place_is v path removes.names removes.place replies.Invalid (λ place. at_path v path (λ birth. by place birth)) removes.named removes.parent
      ∙ at_path_is v path removes.names removes.found (λ birth. by removes.place birth) removes.named removes.walked)))
      (counted_more v _ 5 12 520 520 (omega arith) (omega arith)
      (counted_then v less (λ u. followed_by (set_links u removes.place.parent (λ links. links - 1)) (λ w. drop_node w tx removed)) 2 3 0 520 (taken_counted v removes.place.parent removes.place.name)
      (counted_then less.volume fewer (λ w. drop_node w tx removed) 1 2 0 520 (links_counted less.volume removes.place.parent (λ links. links - 1))
      (drop_counted fewer.volume tx removed 520
      (λ p at. subst (λ p. length (metadata_gone fewer.volume.contents p p.part) ≤ 520) (same_Some directory.placed p (sym directory_there ∙ at)) (plain_revokes v h.plain removed directory.placed directory.part directory.stands directory.is fewer.volume.contents))))))
    where
      by : Place → ℕ → Change
      by place birth = followed_by (take_name v place.parent place.name) (λ u. followed_by (set_links u place.parent (λ links. links - 1)) (λ w. drop_node w tx birth))
