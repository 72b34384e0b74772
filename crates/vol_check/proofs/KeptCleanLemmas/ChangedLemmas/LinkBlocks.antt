-- The blocks of a call that gives a file a name more.
use Rattle.std.specs.Prelude.{◌≡◌, ◌≢◌, ◌-◌, ◌+◌, ◌≤◌, ℕ, List, Some, Ok, refl}
use Rattle.std.proofs.Common.{sym, ap, subst, ◌∙◌, inl, inr, arith}
use Rattle.std.proofs.lemmas.Option.{same_Some}
use Rattle.blk_base.specs.laws.Members.{In-append_cases}
use Rattle.minix_layout.specs.declared.inode.Inode.{Inode}
use Rattle.minix_layout.specs.declared.slot.Slot.{Slot}
use Rattle.tree_model.specs.declared.call.Call.TheVariants as calls
use Rattle.tree_model.specs.declared.call.Reply.TheVariants as replies
use Rattle.tree_model.specs.Calls.{Done, Place, outcome, used_zones}
use Rattle.tree_model.specs.Maps.{at_number}
use Rattle.tree_model.specs.laws.MapsLaws.{at_put_number_apart}
use Rattle.volume_ops.specs.Volume.{disk_of}
use Rattle.volume_model.specs.declared.placed.Placed.{Placed}
use Rattle.volume_steps.specs.Called.{FindsRoom}
use Rattle.volume_steps.specs.Calls.{called, changed, at_place}
use Rattle.volume_steps.specs.Now.{VolumeNow, Change, tree_of_now, room_of, followed_by}
use Rattle.volume_steps.specs.Plain.{IsInUse}
use Rattle.volume_steps.specs.Steps.{add_name, set_links}
use Rattle.volume_steps.proofs.CallPaths.{good_no_dot, entry_at, done_row, at_place_is, at_path_is}
use Rattle.volume_steps.proofs.CreateCall.{NewPlace}
use Rattle.volume_steps.proofs.FileCalls.{called_is, needs_is}
use Rattle.volume_steps.proofs.LinkCall.{Links, FileAt, said, x, y, room_for_link, more}
use Rattle.volume_steps.proofs.PlainNow.{settled_before, slotted_before}
use Rattle.volume_steps.proofs.QuietSteps.{linked_steady, linked_settled, linked_slotted}
use Rattle.volume_steps.proofs.StepsTo.{joined}
use Rattle.volume_steps.proofs.Taking.{frees}
use Rattle.vol_check.specs.kept_clean.changed.Changed.{HasChanged}
use Rattle.vol_check.specs.kept_clean.changed.Tidy.{IsTidy}
use Rattle.vol_check.proofs.KeptCleanLemmas.ChangedLemmas.AddBlocks.{IsAdded, name_added, named_changes}
use Rattle.vol_check.proofs.KeptCleanLemmas.ChangedLemmas.Ends.{Ends, node_differs}
use Rattle.vol_check.proofs.KeptCleanLemmas.ChangedLemmas.Links.{links_placed, links_set, links_is, links_stands, others_rise, links_told}
use Rattle.vol_check.proofs.KeptCleanLemmas.ChangedLemmas.Rising.{Rises, rises_then, told_later}
use Rattle.vol_check.proofs.KeptCleanLemmas.ChangedLemmas.SlotBlocks.{IsNamed}
use Rattle.vol_check.proofs.KeptCleanLemmas.ChangedLemmas.BareFrames.{IsBareNow}
use Rattle.vol_check.proofs.KeptCleanLemmas.ChangedLemmas.BareSteps.{links_bare}

module _ (tx : ℕ) (v : VolumeNow) (n : ℕ) (path other : List ℕ) (h : FindsRoom v n (calls.Link path other)) (d : Done) (done : outcome (room_of v.geometry) (tree_of_now v) n (calls.Link path other) ≡ Ok d) where
  enough : used_zones d.tree - used_zones (tree_of_now v) ≤ frees v.zones
  enough =
      let needed = needs_is tx v n (calls.Link path other) d (done_row (room_of v.geometry) (tree_of_now v) n (calls.Link path other) d done).0 in
      let found = h.enough in
      omega arith

  abbrev says : Links v path other d
  says = said tx v h.plain n h.born path other d done enough

  abbrev place : Place
  place = says.place

  abbrev birth : ℕ
  birth = says.found.birth

  abbrev new : NewPlace v other place
  new = x tx v h.plain n h.born path other d done enough

  abbrev file : FileAt v birth says.file
  file = y tx v h.plain n h.born path other d done enough

  apart : place.parent ≢ birth
  apart e = cc (sym new.at.is ∙ (ap (λ (p : Placed). p.part) (same_Some new.at.placed file.placed (sym new.at.stands ∙ (ap (at_number v.contents.nodes) e ∙ file.stands))) ∙ file.is))

  -- ---- the file has a link more

  abbrev more_links : ℕ → ℕ
  more_links links = links + 1

  abbrev made : Change
  made = links_set v h.plain.in_use birth file.placed file.stands more_links

  abbrev v1 : VolumeNow
  v1 = made.volume

  abbrev child : Placed
  child = links_placed v h.plain.in_use birth file.placed file.stands more_links

  few : file.placed.inode.links + 1 ≤ 250
  few = room_for_link tx v h.plain n h.born path other d done enough

  first : IsInUse v1
  first = (linked_steady tx v h.plain.in_use birth file.placed file.stands (file.placed.inode.links + 1) few).in_use

  at1 : at_number v1.contents.nodes place.parent ≡ Some new.at.placed
  at1 = at_put_number_apart v.contents.nodes birth child place.parent apart ∙ new.at.stands

  child1 : at_number v1.contents.nodes birth ≡ Some child
  child1 = links_stands v h.plain.in_use birth file.placed file.stands more_links

  stays : Rises v v1 new.at.placed new.at.placed
  stays = others_rise v h.plain.in_use birth file.placed file.stands more_links place.parent new.at.placed new.at.stands

  -- ---- its name

  abbrev slot : Slot
  slot = record { inode = child.number; name = place.name }

  abbrev named : Change
  named = add_name v1 place.parent place.name birth

  comes : IsAdded v1 place.parent new.at.placed new.at.part slot birth named
  comes =
      let told = h.plain.in_use.volume.0.each birth file.placed file.stands in
      name_added tx v1 first place.parent new.at.placed at1 new.at.part new.at.is place.name birth child child1 (λ e. apart (sym e)) new.free (good_no_dot place.name new.good)
      (entry_at v place.parent place.directory h.plain.in_use new.at place.name child.number new.good new.short told.some (let within = told.within in let fit = h.plain.in_use.sound.fits.inodes in omega arith))
      (linked_settled tx v h.plain.in_use birth file.placed file.stands (file.placed.inode.links + 1) few (settled_before v h.plain))
      (linked_slotted tx v h.plain.in_use birth file.placed file.stands (file.placed.inode.links + 1) few (slotted_before v h.plain))
      new.left (more tx v h.plain n h.born path other d done enough)

  abbrev added : IsNamed v1 place.parent new.at.placed new.at.part slot birth named
  added = comes.named

  rises : Rises v named.volume new.at.placed added.placed
  rises = rises_then v v1 named.volume new.at.placed new.at.placed added.placed stays added.rises

  -- ---- both

  abbrev whole : Change
  whole = joined made named

  whole_changes : Ends tx v whole → IsTidy v.geometry v.contents v.zones → HasChanged v whole
  whole_changes e tidy b i was = elim (In-append_cases made.touched.blocks named.touched.blocks b i) [
    | inl j ↦ subst (λ b. disk_of named.volume.contents.blocks b ≢ disk_of v.contents.blocks b) (links_told v h.plain.in_use birth file.placed file.stands more_links b j)
        (node_differs tx v whole e birth file.placed child file.stands (added.others birth (λ e. apart (sym e)) ∙ child1) refl
        (λ same. (let links : file.placed.inode.links + 1 ≡ file.placed.inode.links = ap (λ (i : Inode). i.links) same in omega arith)))
    | inr j ↦ named_changes tx v whole e tidy place.parent new.at.placed added.placed new.at.stands new.at.part new.at.is added.stands rises slot birth added.part b
        (elim (added.told b j) [
          | inl t ↦ inl (told_later v v1 named.volume new.at.placed new.at.placed added.placed refl stays b t)
          | inr more ↦ inr (elim more [ inl z ↦ inl z | inr t ↦ inr (t.0, (λ same. t.1 (ap (λ (i : Inode). i.size) same))) ])
        ]) was
  ]

  link_is : (called v n tx (calls.Link path other)).change ≡ whole
  unfolding changed
  link_is =
      called_is tx v n (calls.Link path other) d done
      ∙ (at_path_is v path says.names says.found (λ birth. at_place v other (λ place. followed_by (set_links v birth (λ links. links + 1)) (λ w. add_name w place.parent place.name birth))) says.named says.walked
      ∙ (at_place_is v other says.more place replies.Exists (λ place. followed_by (set_links v birth (λ links. links + 1)) (λ w. add_name w place.parent place.name birth)) says.also says.parent
      ∙ ap (λ c. followed_by c (λ w. add_name w place.parent place.name birth)) (links_is v h.plain.in_use birth file.placed file.stands more_links)))

  pub link_changes : Ends tx v (called v n tx (calls.Link path other)).change → IsTidy v.geometry v.contents v.zones → HasChanged v (called v n tx (calls.Link path other)).change
  link_changes e tidy = subst (HasChanged v) (sym link_is) (whole_changes (subst (Ends tx v) link_is e) tidy)

  -- The volume stays bare.
  pub link_bare : IsBareNow v → IsBareNow (called v n tx (calls.Link path other)).change.volume
  link_bare bare = subst (λ (c : Change). IsBareNow c.volume) (sym link_is) (comes.bare (links_bare v h.plain.in_use birth file.placed file.stands (file.placed.inode.links + 1) few bare))
