-- The blocks of a call that makes a directory.
use Rattle.std.specs.Prelude.{◌≡◌, ◌≢◌, ◌⊎◌, ◌-◌, ◌+◌, ◌/◌, ◌<◌, ◌≤◌, ℕ, true, List, [], ◌∷◌, length, Option, Some, None, Ok, refl}
use Rattle.std.proofs.Common.{sym, ap, subst, ◌∙◌, inl, inr, ⊎_elim, arith}
use Rattle.std.proofs.lemmas.Option.{none-some}
use Rattle.blk_base.specs.Members.{In}
use Rattle.blk_base.specs.laws.Members.{In-append_cases}
use Rattle.minix_layout.specs.declared.inode.Inode.{Inode}
use Rattle.minix_layout.specs.declared.slot.Slot.{Slot}
use Rattle.tree_model.specs.declared.call.Call.TheVariants as calls
use Rattle.tree_model.specs.declared.call.Reply.TheVariants as replies
use Rattle.tree_model.specs.Calls.{Done, Place, outcome, used_zones}
use Rattle.tree_model.specs.Maps.{at_number}
use Rattle.tree_model.specs.laws.MapsLaws.{at_put_number, at_put_number_apart}
use Rattle.volume_ops.specs.Places.{table_block}
use Rattle.volume_ops.specs.Volume.{disk_of}
use Rattle.volume_model.specs.declared.placed.Placed.{Placed}
use Rattle.volume_model.specs.Edits.{touched_by}
use Rattle.volume_model.specs.laws.Changes.{table_below}
use Rattle.volume_model.specs.Touched.{IsMeta}
use Rattle.volume_model.specs.Volume.{block}
use Rattle.minix_tables.specs.directories.Slots.{room}
use Rattle.minix_layout.specs.Widths.{slots_a_block}
use Rattle.volume_steps.specs.Called.{FindsRoom}
use Rattle.volume_steps.specs.Calls.{called, changed}
use Rattle.volume_steps.specs.Now.{VolumeNow, Change, tree_of_now, room_of, followed_by}
use Rattle.volume_steps.specs.Steps.{make_directory, add_name, set_links}
use Rattle.volume_steps.specs.Zones.{new_number, next_zone, zone_bit}
use Rattle.volume_steps.specs.laws.Steady.{IsSteady}
use Rattle.volume_steps.proofs.Bits.{bits_before}
use Rattle.volume_steps.proofs.CallEnds.{birth_not_root}
use Rattle.volume_steps.proofs.CallPaths.{good_no_dot, entry_at, done_row, at_place_is}
use Rattle.volume_steps.proofs.CreateCall.{NewPlace}
use Rattle.volume_steps.proofs.FileCalls.{called_is, needs_is}
use Rattle.volume_steps.proofs.MkdirCall.{Mkdirs, said, x, none, few, one_free, more}
use Rattle.volume_steps.proofs.NewDirectories.{q, directory_made, make_directory_is, directory_made_steady, directory_made_settled, directory_made_slotted}
use Rattle.volume_steps.proofs.NewNumbers.{IsNewNumber, number_is_new}
use Rattle.volume_steps.proofs.PlainNow.{tree_is_plain, settled_before, slotted_before}
use Rattle.volume_steps.proofs.StepsTo.{joined}
use Rattle.volume_steps.proofs.Taking.{AreTaken, frees, in_zones, one_taken}
use Rattle.volume_steps.proofs.TakeZones.{zone_range}
use Rattle.minix_tables.specs.declared.zones.zone_state.ZoneState.{ZoneState}
use Rattle.minix_tables.specs.declared.zones.zone_state.ZoneState.TheVariants as states
use Rattle.minix_tables.specs.zones.Zones.{state_of}
use Rattle.vol_check.specs.kept_clean.changed.Changed.{HasChanged}
use Rattle.vol_check.specs.kept_clean.changed.Tidy.{IsTidy}
use Rattle.vol_check.proofs.KeptCleanLemmas.ChangedLemmas.AddBlocks.{IsAdded, name_added, named_changes}
use Rattle.vol_check.proofs.KeptCleanLemmas.ChangedLemmas.Ends.{Ends, taken_bit}
use Rattle.vol_check.proofs.KeptCleanLemmas.ChangedLemmas.Links.{links_placed, links_set, links_is, links_stands, links_zones, links_rises, links_told}
use Rattle.vol_check.proofs.KeptCleanLemmas.ChangedLemmas.NewBlocks.{left_rises, new_changes}
use Rattle.vol_check.proofs.KeptCleanLemmas.ChangedLemmas.Rising.{Rises, rises_then, told_first, told_later, not_free}
use Rattle.vol_check.proofs.KeptCleanLemmas.ChangedLemmas.SlotBlocks.{IsNamed}
use Rattle.volume_steps.proofs.AllCalls.{any_call}
use Rattle.volume_steps.specs.Plain.{IsInUse}
use Rattle.vol_check.proofs.KeptCleanLemmas.ChangedLemmas.BareFrames.{IsBareNow}
use Rattle.vol_check.proofs.KeptCleanLemmas.ChangedLemmas.BareNodes.{directory_bare}
use Rattle.vol_check.proofs.KeptCleanLemmas.ChangedLemmas.BareSteps.{inode_bare, linked_zone}

module _ (tx : ℕ) (v : VolumeNow) (n : ℕ) (path : List ℕ) (h : FindsRoom v n (calls.Mkdir path)) (d : Done) (done : outcome (room_of v.geometry) (tree_of_now v) n (calls.Mkdir path) ≡ Ok d) where
  enough : used_zones d.tree - used_zones (tree_of_now v) ≤ frees v.zones
  enough =
      let needed = needs_is tx v n (calls.Mkdir path) d (done_row (room_of v.geometry) (tree_of_now v) n (calls.Mkdir path) d done).0 in
      let found = h.enough in
      omega arith

  abbrev says : Mkdirs v n path d
  says = said tx v h.plain n h.born path d done enough

  abbrev place : Place
  place = says.place

  abbrev new : NewPlace v path place
  new = x tx v h.plain n h.born path d done enough

  abbrev no_node : at_number v.contents.nodes n ≡ None
  no_node = none tx v h.plain n h.born path d done enough

  abbrev lower : length v.contents.nodes < v.geometry.inodes
  lower = few tx v h.plain n h.born path d done enough

  abbrev one : 1 ≤ frees v.zones
  one = one_free tx v h.plain n h.born path d done enough

  abbrev number : ℕ
  number = new_number v.geometry v.contents.nodes

  is_new : IsNewNumber v.geometry v.contents.nodes number
  is_new = number_is_new v.geometry v.contents.nodes lower

  -- ---- the directory

  abbrev made : Change
  made = directory_made tx v h.plain.in_use n no_node lower place.parent new.at.placed new.at.stands one

  abbrev v1 : VolumeNow
  v1 = made.volume

  abbrev child : Placed
  child = q tx v h.plain.in_use n no_node lower place.parent new.at.placed new.at.stands one

  first : IsSteady tx v made (λ birth index. ⊥)
  first = directory_made_steady tx v h.plain.in_use n no_node lower place.parent new.at.placed new.at.stands one

  abbrev zone : ℕ
  zone = next_zone v.zones

  takes : AreTaken v.zones v1.zones (zone ∷ [])
  takes = one_taken v.zones one

  was_free : state_of v.zones zone ≡ Some states.Free
  was_free = takes.was zone (inl refl)

  apart : place.parent ≢ n
  apart e = none-some new.at.placed (sym no_node ∙ (ap (at_number v.contents.nodes) (sym e) ∙ new.at.stands))

  at1 : at_number v1.contents.nodes place.parent ≡ Some new.at.placed
  at1 = at_put_number_apart v.contents.nodes n child place.parent apart ∙ new.at.stands

  child1 : at_number v1.contents.nodes n ≡ Some child
  child1 = at_put_number v.contents.nodes n child

  -- why a block is told
  abbrev Made : ℕ → Type 0
  Made b = ((2 + number / 8192 ≡ b) ⊎ (table_block v.geometry number ≡ b)) ⊎ ((touched_by v.geometry (zone_bit v.geometry true zone) ≡ b) ⊎ (zone ≡ b))

  made_told : (b : ℕ) → In b made.touched.blocks → Made b
  made_told b (inl e) = inl (inl e)
  made_told b (inr (inl e)) = inr (inl e)
  made_told b (inr (inr (inl e))) = inr (inr e)
  made_told b (inr (inr (inr (inl e)))) = inr (inr e)
  made_told b (inr (inr (inr (inr (inl e))))) = inr (inr e)
  made_told b (inr (inr (inr (inr (inr (inl e)))))) = inl (inr e)
  made_told b (inr (inr (inr (inr (inr (inr z)))))) = absurd z

  before_zones : (b : ℕ) → Made b → (b < v.geometry.first) ⊎ (state_of v.zones b ≡ Some states.Free)
  before_zones b (inl which) =
      let t = table_below v.geometry number h.plain.in_use.sound is_new.some is_new.within in
      let low = t.0 in
      let high = t.1 in
      let within = is_new.within in
      let room = h.plain.in_use.sound.inode_bits in
      inl (elim which [ inl e ↦ (omega arith) | inr e ↦ (omega arith) ])
  before_zones b (inr (inl e)) =
      inl (bits_before v.geometry h.plain.in_use.sound true (zone ∷ []) (λ z i. zone_range v h.plain.in_use z states.Free (takes.was z i)) b (inl e)).1
  before_zones b (inr (inr e)) = inr (subst (λ z. state_of v.zones z ≡ Some states.Free) e was_free)

  stays : Rises v v1 new.at.placed new.at.placed
  stays = left_rises tx v made (λ birth index. ⊥) h.plain.in_use first (λ b i. i) (λ b i. before_zones b (made_told b i))
      (λ z state. ⊎_elim (λ i. takes.now z i) (λ out. takes.others z out ∙ state) (in_zones z (zone ∷ []))) place.parent new.at.placed new.at.stands

  -- ---- its name

  abbrev slot : Slot
  slot = record { inode = number; name = place.name }

  abbrev named : Change
  named = add_name v1 place.parent place.name n

  abbrev v2 : VolumeNow
  v2 = named.volume

  comes : IsAdded v1 place.parent new.at.placed new.at.part slot n named
  comes =
      let some = is_new in
      name_added tx v1 first.in_use place.parent new.at.placed at1 new.at.part new.at.is place.name n child child1 (λ e. apart (sym e)) new.free (good_no_dot place.name new.good)
      (entry_at v place.parent place.directory h.plain.in_use new.at place.name number new.good new.short some.some (let within = some.within in let fit = h.plain.in_use.sound.fits.inodes in omega arith))
      (directory_made_settled tx v h.plain.in_use n no_node lower place.parent new.at.placed new.at.stands one (settled_before v h.plain) (birth_not_root v n (tree_is_plain v h.plain) h.born))
      (directory_made_slotted tx v h.plain.in_use n no_node lower place.parent new.at.placed new.at.stands one (slotted_before v h.plain))
      new.left (more tx v h.plain n h.born path d done enough)

  abbrev added : IsNamed v1 place.parent new.at.placed new.at.part slot n named
  added = comes.named

  -- ---- the parent has a link more

  abbrev more_links : ℕ → ℕ
  more_links links = links + 1

  abbrev last : Change
  last = links_set v2 comes.in_use place.parent added.placed added.stands more_links

  abbrev final : Placed
  final = links_placed v2 comes.in_use place.parent added.placed added.stands more_links

  other_inode : final.inode ≢ new.at.placed.inode
  other_inode same = (let links : added.placed.inode.links + 1 ≡ new.at.placed.inode.links = ap (λ (i : Inode). i.links) same in let kept = comes.links in omega arith)

  last_rises : Rises v2 last.volume added.placed final
  last_rises = links_rises v2 comes.in_use place.parent added.placed added.stands more_links

  rises : Rises v last.volume new.at.placed final
  rises = rises_then v v1 last.volume new.at.placed new.at.placed final stays (rises_then v1 v2 last.volume new.at.placed added.placed final added.rises last_rises)

  abbrev whole : Change
  whole = joined made (joined named last)

  child_last : at_number last.volume.contents.nodes n ≡ Some child
  child_last = at_put_number_apart v2.contents.nodes place.parent final n (λ e. apart (sym e)) ∙ (added.others n (λ e. apart (sym e)) ∙ child1)

  final_stands : at_number last.volume.contents.nodes place.parent ≡ Some final
  final_stands = links_stands v2 comes.in_use place.parent added.placed added.stands more_links

  free_used : ◌≡◌ {A = Option ZoneState} (Some states.Free) (Some states.Used) → ⊥
  free_used e = cc

  made_changes : Ends tx v whole → IsTidy v.geometry v.contents v.zones → (b : ℕ) → Made b → IsMeta v.geometry v.contents b → disk_of last.volume.contents.blocks b ≢ disk_of v.contents.blocks b
  made_changes e tidy b (inl which) was = new_changes tx v whole e tidy n child child_last (λ has. is_new.unused has.birth has.placed has.stands has.is) b which
  made_changes e tidy b (inr (inl same)) was =
      let range = zone_range v h.plain.in_use zone states.Free was_free in
      taken_bit tx v whole e zone (λ used. free_used (sym was_free ∙ used)) (last_rises.used zone (added.rises.used zone (takes.now zone (inl refl)))) range.0 range.1 b same
  made_changes e tidy b (inr (inr same)) was = absurd (not_free v h.plain.in_use b was (subst (λ z. state_of v.zones z ≡ Some states.Free) same was_free))

  whole_changes : Ends tx v whole → IsTidy v.geometry v.contents v.zones → HasChanged v whole
  whole_changes e tidy b i was = ⊎_elim
      (λ j. made_changes e tidy b (made_told b j) was)
      (λ later. named_changes tx v whole e tidy place.parent new.at.placed final new.at.stands new.at.part new.at.is final_stands rises slot n added.part b
      (⊎_elim
      (λ j. elim (added.told b j) [
        | inl t ↦ inl (told_later v v1 last.volume new.at.placed new.at.placed final refl stays b (told_first v1 v2 last.volume new.at.placed added.placed final last_rises b t))
        | inr more ↦ inr (elim more [ inl z ↦ inl (links_zones v2 comes.in_use place.parent added.placed added.stands more_links (block (room new.at.part.slots / slots_a_block v.geometry.width)) ∙ z) | inr t ↦ inr (t.0, other_inode) ])
      ])
      (λ j. inr (inr (sym (ap (λ g. table_block g added.placed.number) added.geometry ∙ ap (table_block v.geometry) added.rises.number) ∙ links_told v2 comes.in_use place.parent added.placed added.stands more_links b j, other_inode)))
      (In-append_cases named.touched.blocks last.touched.blocks b later)) was)
      (In-append_cases made.touched.blocks (joined named last).touched.blocks b i)

  mkdir_is : (called v n tx (calls.Mkdir path)).change ≡ whole
  unfolding changed
  mkdir_is =
      called_is tx v n (calls.Mkdir path) d done
      ∙ (at_place_is v path says.names place replies.Exists
      (λ place. followed_by (make_directory v n place.parent) (λ u. followed_by (add_name u place.parent place.name n) (λ w. set_links w place.parent (λ links. links + 1)))) says.named says.parent
      ∙ (ap (λ c. followed_by c (λ u. followed_by (add_name u place.parent place.name n) (λ w. set_links w place.parent (λ links. links + 1))))
      (make_directory_is tx v h.plain.in_use n no_node lower place.parent new.at.placed new.at.stands one)
      ∙ ap (λ c. joined made (joined named c)) (links_is v2 comes.in_use place.parent added.placed added.stands more_links)))

  pub mkdir_changes : Ends tx v (called v n tx (calls.Mkdir path)).change → IsTidy v.geometry v.contents v.zones → HasChanged v (called v n tx (calls.Mkdir path)).change
  mkdir_changes e tidy = subst (HasChanged v) (sym mkdir_is) (whole_changes (subst (Ends tx v) mkdir_is e) tidy)

  -- The volume stays bare.
  pub mkdir_bare : IsBareNow v → IsBareNow (called v n tx (calls.Mkdir path)).change.volume
  mkdir_bare bare =
      let live = subst (λ (c : Change). IsInUse c.volume) mkdir_is (any_call tx v n (calls.Mkdir path) h).steady.in_use in
      subst (λ (c : Change). IsBareNow c.volume) (sym mkdir_is)
      (inode_bare v2 comes.in_use place.parent added.placed added.stands final.inode (live.volume.0.each place.parent final final_stands).fits (linked_zone v2.contents.blocks added.placed.inode (added.placed.inode.links + 1))
      (comes.bare (directory_bare tx v h.plain.in_use n no_node lower place.parent new.at.placed new.at.stands one bare)))
