-- A call that gives a node another name: what its row says, and the slot of the old name, which is freed.
use Rattle.std.specs.Prelude.{◌≡◌, ◌≢◌, ◌≤◌, ◌-◌, ℕ, ◌&&◌, List, Option, Some, None, Ok, ◌/◌, Bool, if◌then◌else◌}
use Rattle.std.proofs.Common.{sym, ap, subst, ◌∙◌}
use Rattle.blk_base.specs.Members.{In}
use Rattle.tree_model.specs.declared.node.Directory.{Directory}
use Rattle.tree_model.specs.Maps.{at_number, at_name}
use Rattle.tree_model.specs.Plain.{AreBornBefore}
use Rattle.tree_model.specs.Calls.{Tree, Done, Place, Found, Move, outcome, used_zones, moves_directory, changes_parent}
use Rattle.volume_model.specs.declared.placed.Placed.{Placed}
use Rattle.volume_model.specs.declared.placed.DirectoryPart.{DirectoryPart}
use Rattle.volume_steps.specs.Now.{VolumeNow, Change, tree_of_now, room_of}
use Rattle.volume_steps.specs.Steps.{place_of}
use Rattle.volume_steps.specs.Calls.{move_below, move_in, replace_in}
use Rattle.volume_steps.specs.Plain.{IsPlainNow}
use Rattle.volume_steps.proofs.Taking.{frees}
use Rattle.volume_steps.proofs.NameGoes.{x as from_at, named as named_at, sorted as sorted_at}
use Rattle.volume_steps.proofs.StepsTo.{StepsTo, links_at}
use Rattle.volume_steps.proofs.CallPaths.{DirectoryAt}
use Rattle.volume_steps.proofs.RenameCall as call
use Rattle.volume_steps.proofs.RenameTree.{Renames, stands}
use Rattle.vol_check.proofs.KeptCleanLemmas.ChangedLemmas.Ends.{Ends}
use Rattle.std.specs.List.{slice_get}
use Rattle.std.proofs.lemmas.List.{length-set}
use Rattle.blk_base.specs.laws.Members.{slice_get-set_same, slice_get-length}
use Rattle.minix_layout.specs.declared.slot.Slot.{Slot}
use Rattle.minix_layout.specs.Widths.{slots_a_block}
use Rattle.volume_ops.specs.Volume.{disk_of}
use Rattle.volume_model.specs.Moves.{without_name as part_without}
use Rattle.volume_model.specs.Volume.{Place as ZonePlace, block, zone_in, HasSlot, IsDirectoryPart, IsPart}
use Rattle.volume_steps.proofs.NameSteps.{NameStands, w as name_stands}
use Rattle.minix_tables.specs.zones.Zones.{state_of}
use Rattle.vol_check.proofs.KeptCleanLemmas.ChangedLemmas.Rising.{own}
use Rattle.vol_check.proofs.KeptCleanLemmas.ChangedLemmas.SlotBlocks.{slot_zone, slot_differs_here}
use Rattle.vol_check.proofs.KeptCleanLemmas.ChangedLemmas.SlotSteps.{IsSlotSet, slot_set}
use Rattle.tree_model.specs.declared.call.Call.TheVariants as calls
use Rattle.tree_model.specs.declared.node.Node.TheVariants as nodes
use Rattle.volume_model.specs.declared.placed.Part.TheVariants as parts
use Rattle.minix_tables.specs.declared.zones.zone_state.ZoneState.TheVariants as states
use Rattle.vol_check.proofs.KeptCleanLemmas.ChangedLemmas.BareFrames.{IsBareNow}
use Rattle.vol_check.proofs.KeptCleanLemmas.ChangedLemmas.BareSteps.{take_bare}

module _ (tx : ℕ) (v : VolumeNow) (h : IsPlainNow v) (n : ℕ) (before : AreBornBefore n (tree_of_now v)) (path other : List ℕ) (d : Done)
    (done : outcome (room_of v.geometry) (tree_of_now v) n (calls.Rename path other) ≡ Ok d) (enough : used_zones d.tree - used_zones (tree_of_now v) ≤ frees v.zones) where
  abbrev r : Renames (tree_of_now v) path other d
  r = call.r tx v h n before path other d done enough

  abbrev from : Place
  from = call.from tx v h n before path other d done enough

  abbrev to : Place
  to = call.to tx v h n before path other d done enough

  abbrev birth : ℕ
  birth = call.birth tx v h n before path other d done enough

  abbrev m : Move
  m = call.m tx v h n before path other d done enough

  -- what is done where no node has the new name: below another parent, or not
  abbrev pub by_move : Bool → Change
  by_move below = if below then move_below v from.parent from.name to.parent to.name birth else move_in v from.parent from.name to.parent to.name birth

  -- and where one has it
  abbrev pub by_target : Option Found → Change
  by_target None = by_move (moves_directory m && changes_parent m)
  by_target (Some t) = replace_in v tx from.parent from.name to.parent to.name birth t.birth

  abbrev from_stands : at_number (tree_of_now v) from.parent ≡ Some (nodes.Directory from.directory)
  from_stands = call.from_stands tx v h n before path other d done enough

  abbrev gives : at_name from.directory.names from.name ≡ Some birth
  gives = call.gives tx v h n before path other d done enough

  abbrev taken_tree : Tree
  taken_tree = call.taken_tree tx v h n before path other d done enough

  abbrev less : Change
  less = call.less tx v h n before path other d done enough

  abbrev v1 : VolumeNow
  v1 = call.v1 tx v h n before path other d done enough

  abbrev first : StepsTo tx v less taken_tree (links_at v.contents.nodes)
  first = call.first tx v h n before path other d done enough

  -- ---- the slot of the old name

  abbrev pub F : DirectoryAt v from.parent from.directory
  F = from_at tx v h from birth from_stands gives

  abbrev pub k0 : ℕ
  k0 = place_of from.name F.part.slots

  abbrev pub w0 : NameStands F.part.slots from.name
  w0 = name_stands tx v h.in_use from.parent F.placed F.stands F.part F.is from.name birth (named_at tx v h from birth from_stands gives) (sorted_at tx v h from birth from_stands gives)

  abbrev pub next0 : DirectoryPart
  next0 = part_without F.part k0 w0.slot

  pub less_set : IsSlotSet v from.parent F.placed k0 next0 less
  less_set = slot_set tx v h.in_use from.parent F.placed F.stands F.part F.is k0 None next0 (length-set F.part.slots k0 None) first.steady

  -- the volume stays bare
  pub less_bare : IsBareNow v → IsBareNow v1
  less_bare = take_bare tx v h.in_use from.parent F.placed F.stands F.part F.is from.name birth (named_at tx v h from birth from_stands gives) (sorted_at tx v h from birth from_stands gives)

  pub from_part : IsDirectoryPart v.geometry v.contents.blocks F.placed.inode F.part
  from_part = subst (IsPart v.geometry v.contents.blocks F.placed.inode) F.is (h.in_use.volume.0.each from.parent F.placed F.stands).part

  pub was0 : HasSlot v.geometry v.contents.blocks F.placed.inode k0 (Some w0.slot)
  was0 = from_part.slots k0 (Some w0.slot) w0.stands

  pub gone0 : slice_get next0.slots k0 ≡ Some None
  gone0 = slice_get-set_same F.part.slots k0 None (slice_get-length F.part.slots k0 (Some w0.slot) w0.stands)

  pub some_none : (s : Slot) → ◌≡◌ {A = Option Slot} (Some s) None → ⊥
  some_none s e = cc

  pub states_free : (z : ℕ) → state_of v1.zones z ≡ Some states.Free → state_of v.zones z ≡ Some states.Free
  states_free z state = subst (λ m. state_of m z ≡ Some states.Free) less_set.states_same state

  pub states_used : (z : ℕ) → state_of v.zones z ≡ Some states.Used → state_of v1.zones z ≡ Some states.Used
  states_used z state = subst (λ m. state_of m z ≡ Some states.Used) (sym less_set.states_same) state

  -- the zones of its directory
  pub less_zones : (y : ZonePlace) → own v1 less_set.placed y ≡ own v F.placed y
  less_zones y = ap (λ i. zone_in v1.contents.blocks i y) less_set.inode ∙ less_set.zones from.parent F.placed F.stands y

  pub less_differs : (c : Change) (e : Ends tx v c) (q : Placed) (next : DirectoryPart) → at_number c.volume.contents.nodes from.parent ≡ Some q → q.part ≡ parts.Directory next →
      (now : Option Slot) → slice_get next.slots k0 ≡ Some now → Some w0.slot ≢ now → own c.volume q (block (k0 / slots_a_block v.geometry.width)) ≡ slot_zone v F.placed k0 →
      (b : ℕ) → In b less.touched.blocks → disk_of c.volume.contents.blocks b ≢ disk_of v.contents.blocks b
  less_differs c e q next at part now stands other kept b i =
      subst (λ b. disk_of c.volume.contents.blocks b ≢ disk_of v.contents.blocks b) (sym (less_set.told b i))
      (slot_differs_here tx v c e from.parent q at next part k0 (Some w0.slot) now stands other F.placed was0 kept)

  pub as_part : (d e : DirectoryPart) → parts.Directory d ≡ parts.Directory e → d ≡ e
  as_part d e same = cc
