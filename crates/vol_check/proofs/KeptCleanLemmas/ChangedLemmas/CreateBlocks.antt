-- The blocks of a call that creates a file.
use Rattle.std.specs.Prelude.{◌≡◌, ◌≢◌, ◌-◌, ◌<◌, ◌≤◌, ℕ, List, [], length, Some, None, Ok, refl}
use Rattle.std.proofs.Common.{sym, ap, subst, ◌∙◌, inl, inr, arith}
use Rattle.std.proofs.lemmas.Option.{none-some}
use Rattle.blk_base.specs.Members.{In}
use Rattle.blk_base.specs.laws.Members.{In-append_cases}
use Rattle.minix_layout.specs.declared.slot.Slot.{Slot}
use Rattle.minix_layout.specs.declared.inode.Inode.{Inode}
use Rattle.tree_model.specs.declared.call.Call.TheVariants as calls
use Rattle.tree_model.specs.declared.call.Reply.TheVariants as replies
use Rattle.tree_model.specs.Calls.{Done, Place, outcome, used_zones}
use Rattle.tree_model.specs.Maps.{at_number}
use Rattle.tree_model.specs.laws.MapsLaws.{at_put_number, at_put_number_apart}
use Rattle.volume_model.specs.declared.placed.Part.TheVariants as parts
use Rattle.volume_model.specs.declared.placed.Placed.{Placed}
use Rattle.volume_steps.specs.Called.{FindsRoom}
use Rattle.volume_steps.specs.Calls.{called, changed}
use Rattle.volume_steps.specs.Now.{VolumeNow, Change, tree_of_now, room_of, followed_by}
use Rattle.volume_steps.specs.Steps.{make_file, add_name, new_file_inode}
use Rattle.volume_steps.specs.Zones.{new_number}
use Rattle.volume_steps.specs.laws.Steady.{IsSteady}
use Rattle.volume_steps.proofs.CallEnds.{birth_is_new, birth_not_root}
use Rattle.volume_steps.proofs.CallPaths.{good_no_dot, entry_at, done_row, at_place_is}
use Rattle.volume_steps.proofs.CreateCall.{NewPlace, Creates, said, x, few, more}
use Rattle.volume_steps.proofs.FileCalls.{called_is, needs_is}
use Rattle.volume_steps.proofs.NewFiles.{file_made_steady, file_made_settled, file_made_slotted}
use Rattle.volume_steps.proofs.NewNumbers.{IsNewNumber, number_is_new}
use Rattle.volume_steps.proofs.PlainNow.{tree_is_plain, settled_before, slotted_before}
use Rattle.volume_steps.proofs.StepsTo.{joined}
use Rattle.volume_steps.proofs.Taking.{frees}
use Rattle.volume_model.specs.laws.Changes.{table_below}
use Rattle.vol_check.specs.kept_clean.changed.Changed.{HasChanged}
use Rattle.vol_check.specs.kept_clean.changed.Tidy.{IsTidy}
use Rattle.vol_check.proofs.KeptCleanLemmas.ChangedLemmas.AddBlocks.{IsAdded, name_added, named_changes}
use Rattle.vol_check.proofs.KeptCleanLemmas.ChangedLemmas.Ends.{Ends}
use Rattle.vol_check.proofs.KeptCleanLemmas.ChangedLemmas.NewBlocks.{left_rises, new_changes}
use Rattle.vol_check.proofs.KeptCleanLemmas.ChangedLemmas.Rising.{Rises, rises_then, told_later}
use Rattle.vol_check.proofs.KeptCleanLemmas.ChangedLemmas.SlotBlocks.{IsNamed}
use Rattle.vol_check.proofs.KeptCleanLemmas.ChangedLemmas.BareFrames.{IsBareNow}
use Rattle.vol_check.proofs.KeptCleanLemmas.ChangedLemmas.BareNodes.{file_bare}

module _ (tx : ℕ) (v : VolumeNow) (n : ℕ) (path : List ℕ) (h : FindsRoom v n (calls.Create path)) (d : Done) (done : outcome (room_of v.geometry) (tree_of_now v) n (calls.Create path) ≡ Ok d) where
  enough : used_zones d.tree - used_zones (tree_of_now v) ≤ frees v.zones
  enough =
      let needed = needs_is tx v n (calls.Create path) d (done_row (room_of v.geometry) (tree_of_now v) n (calls.Create path) d done).0 in
      let found = h.enough in
      omega arith

  abbrev says : Creates v n path d
  says = said tx v h.plain n h.born path d done enough

  abbrev place : Place
  place = says.place

  abbrev new : NewPlace v path place
  new = x tx v h.plain n h.born path d done enough

  none : at_number v.contents.nodes n ≡ None
  none = birth_is_new v n h.born

  lower : length v.contents.nodes < v.geometry.inodes
  lower = few tx v h.plain n h.born path d done enough

  abbrev number : ℕ
  number = new_number v.geometry v.contents.nodes

  is_new : IsNewNumber v.geometry v.contents.nodes number
  is_new = number_is_new v.geometry v.contents.nodes lower

  abbrev made : Change
  made = make_file v n

  abbrev v1 : VolumeNow
  v1 = made.volume

  first : IsSteady tx v made (λ birth index. ⊥)
  first = file_made_steady tx v h.plain.in_use n none lower

  apart : place.parent ≢ n
  apart e = none-some new.at.placed (sym none ∙ (ap (at_number v.contents.nodes) (sym e) ∙ new.at.stands))

  abbrev q : Placed
  q = record { number = number; inode = new_file_inode; part = parts.File [] }

  at1 : at_number v1.contents.nodes place.parent ≡ Some new.at.placed
  at1 = at_put_number_apart v.contents.nodes n q place.parent apart ∙ new.at.stands

  child1 : at_number v1.contents.nodes n ≡ Some q
  child1 = at_put_number v.contents.nodes n q

  abbrev slot : Slot
  slot = record { inode = number; name = place.name }

  abbrev named : Change
  named = add_name v1 place.parent place.name n

  comes : IsAdded v1 place.parent new.at.placed new.at.part slot n named
  comes =
      let some = is_new in
      name_added tx v1 first.in_use place.parent new.at.placed at1 new.at.part new.at.is place.name n q child1 (λ e. apart (sym e)) new.free (good_no_dot place.name new.good)
      (entry_at v place.parent place.directory h.plain.in_use new.at place.name number new.good new.short some.some (let within = some.within in let fit = h.plain.in_use.sound.fits.inodes in omega arith))
      (file_made_settled tx v h.plain.in_use n none lower (settled_before v h.plain) (birth_not_root v n (tree_is_plain v h.plain) h.born)) (file_made_slotted tx v h.plain.in_use n none lower (slotted_before v h.plain))
      new.left (more tx v h.plain n h.born path d done enough)

  abbrev added : IsNamed v1 place.parent new.at.placed new.at.part slot n named
  added = comes.named

  before_zones : (b : ℕ) → In b made.touched.blocks → b < v.geometry.first
  before_zones b i =
      let t = table_below v.geometry number h.plain.in_use.sound is_new.some is_new.within in
      let low = t.0 in
      let high = t.1 in
      let within = is_new.within in
      let room = h.plain.in_use.sound.inode_bits in
      elim i [ inl e ↦ (omega arith) | inr j ↦ elim j [ inl e ↦ (omega arith) | inr z ↦ absurd z ] ]

  stays : Rises v v1 new.at.placed new.at.placed
  stays = left_rises tx v made (λ birth index. ⊥) h.plain.in_use first (λ b i. i) (λ b i. inl (before_zones b i)) (λ z state. state) place.parent new.at.placed new.at.stands

  rises : Rises v named.volume new.at.placed added.placed
  rises = rises_then v v1 named.volume new.at.placed new.at.placed added.placed stays added.rises

  whole_changes : Ends tx v (joined made named) → IsTidy v.geometry v.contents v.zones → HasChanged v (joined made named)
  whole_changes e tidy b i was = elim (In-append_cases made.touched.blocks named.touched.blocks b i) [
    | inl j ↦ new_changes tx v (joined made named) e tidy n q (added.others n (λ e. apart (sym e)) ∙ child1) (λ has. is_new.unused has.birth has.placed has.stands has.is) b
        (elim j [ inl e ↦ inl e | inr k ↦ elim k [ inl e ↦ inr e | inr z ↦ absurd z ] ])
    | inr j ↦ named_changes tx v (joined made named) e tidy place.parent new.at.placed added.placed new.at.stands new.at.part new.at.is added.stands rises slot n added.part b
        (elim (added.told b j) [
          | inl t ↦ inl (told_later v v1 named.volume new.at.placed new.at.placed added.placed refl stays b t)
          | inr more ↦ inr (elim more [ inl z ↦ inl z | inr t ↦ inr (t.0, (λ same. t.1 (ap (λ (i : Inode). i.size) same))) ])
        ]) was
  ]

  create_is : (called v n tx (calls.Create path)).change ≡ joined made named
  unfolding changed
  create_is =
      called_is tx v n (calls.Create path) d done
      ∙ at_place_is v path says.names place replies.Exists (λ place. followed_by (make_file v n) (λ w. add_name w place.parent place.name n)) says.named says.parent

  pub create_changes : Ends tx v (called v n tx (calls.Create path)).change → IsTidy v.geometry v.contents v.zones → HasChanged v (called v n tx (calls.Create path)).change
  create_changes e tidy = subst (HasChanged v) (sym create_is) (whole_changes (subst (Ends tx v) create_is e) tidy)

  -- The volume stays bare.
  pub create_bare : IsBareNow v → IsBareNow (called v n tx (calls.Create path)).change.volume
  create_bare bare = subst (λ (c : Change). IsBareNow c.volume) (sym create_is) (comes.bare (file_bare v h.plain.in_use n none lower (first.in_use.volume.0.each n q child1).fits bare))
