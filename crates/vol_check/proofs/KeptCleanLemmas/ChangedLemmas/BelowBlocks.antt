-- The blocks of a directory that goes below another parent.
use Rattle.std.specs.Prelude.{◌≡◌, ◌≢◌, ◌≤◌, ◌-◌, ◌+◌, ℕ, Bool, false, if◌then◌else◌, List, length, Option, Some, None, Ok, refl, codes, ◌/◌}
use Rattle.std.proofs.Common.{sym, ap, subst, ◌∙◌, inl, inr, arith}
use Rattle.std.proofs.lemmas.Option.{same_Some}
use Rattle.blk_base.specs.Members.{In}
use Rattle.minix_layout.specs.Slots.{IsEntry}
use Rattle.tree_model.specs.declared.node.Directory.{Directory}
use Rattle.tree_model.specs.Maps.{at_number, at_name, put_number}
use Rattle.tree_model.specs.laws.MapsLaws.{at_put_number_apart}
use Rattle.tree_model.specs.Plain.{AreBornBefore}
use Rattle.tree_model.specs.Calls.{Tree, Done, Place, Found, Move, outcome, used_zones, without_name, stays}
use Rattle.tree_model.proofs.Hanging.{IsGoodName}
use Rattle.volume_model.specs.declared.placed.Placed.{Placed}
use Rattle.volume_model.specs.declared.placed.DirectoryPart.{DirectoryPart}
use Rattle.volume_steps.specs.Now.{VolumeNow, Change, tree_of_now, room_of, unchanged}
use Rattle.volume_steps.specs.Steps.{with_parent}
use Rattle.volume_steps.specs.Calls.{renamed, rename}
use Rattle.volume_steps.specs.Plain.{IsPlainNow, IsInUse}
use Rattle.volume_steps.proofs.Taking.{frees}
use Rattle.volume_steps.proofs.StepsTo.{StepsTo, joined, links_at}
use Rattle.volume_steps.proofs.CallPaths.{DirectoryAt, good_no_dot}
use Rattle.volume_steps.proofs.PlainNow.{settled_before}
use Rattle.volume_steps.proofs.RenameTree.{Renames, stands}
use Rattle.volume_model.specs.Plain.{HasDots}
use Rattle.vol_check.proofs.KeptCleanLemmas.ChangedLemmas.Ends.{Ends, node_differs, told_differs}
use Rattle.vol_check.proofs.KeptCleanLemmas.ChangedLemmas.Links.{links_placed, links_stands, links_zones, links_told, others_zones}
use Rattle.volume_steps.proofs.RenameCall as call
use Rattle.std.specs.List.{slice_get}
use Rattle.std.proofs.lemmas.List.{length-set}
use Rattle.blk_base.specs.laws.Members.{In-append_cases, slice_get-set_same, slice_get-length}
use Rattle.minix_layout.specs.declared.inode.Inode.{Inode}
use Rattle.minix_layout.specs.declared.slot.Slot.{Slot}
use Rattle.minix_layout.specs.Widths.{slots_a_block}
use Rattle.volume_ops.specs.Places.{table_block}
use Rattle.volume_ops.specs.Volume.{disk_of}
use Rattle.volume_model.specs.Touched.{IsMeta}
use Rattle.volume_model.specs.Volume.{Place as ZonePlace, block, zone_in, IsDirectoryPart, IsPart}
use Rattle.volume_steps.proofs.NameSteps.{NameStands}
use Rattle.minix_tables.specs.zones.Zones.{state_of}
use Rattle.vol_check.specs.kept_clean.changed.Changed.{HasChanged}
use Rattle.vol_check.specs.kept_clean.changed.Tidy.{IsTidy}
use Rattle.vol_check.proofs.KeptCleanLemmas.ChangedLemmas.AddBlocks.{IsAdded, name_added, named_changes}
use Rattle.vol_check.proofs.KeptCleanLemmas.ChangedLemmas.Rising.{own, Rises, rises_then, told_later}
use Rattle.vol_check.proofs.KeptCleanLemmas.ChangedLemmas.SlotBlocks.{IsNamed, slot_zone, slot_differs_here}
use Rattle.vol_check.proofs.KeptCleanLemmas.ChangedLemmas.SlotSteps.{IsSlotSet, slot_set, rises_same}
use Rattle.tree_model.specs.declared.call.Call.TheVariants as calls
use Rattle.tree_model.specs.declared.node.Node.TheVariants as nodes
use Rattle.volume_model.specs.declared.placed.Part.TheVariants as parts
use Rattle.minix_tables.specs.declared.zones.zone_state.ZoneState.TheVariants as states
use Rattle.vol_check.proofs.KeptCleanLemmas.ChangedLemmas.RenameStart as start
use Rattle.vol_check.proofs.KeptCleanLemmas.ChangedLemmas.BareFrames.{IsBareNow}
use Rattle.vol_check.proofs.KeptCleanLemmas.ChangedLemmas.BareSteps.{set_bare, links_bare, dots_fit}

module _ (tx : ℕ) (v : VolumeNow) (h : IsPlainNow v) (n : ℕ) (before : AreBornBefore n (tree_of_now v)) (path other : List ℕ) (d : Done)
    (done : outcome (room_of v.geometry) (tree_of_now v) n (calls.Rename path other) ≡ Ok d) (enough : used_zones d.tree - used_zones (tree_of_now v) ≤ frees v.zones) where
  -- ---- what `RenameStart` has of the call

  abbrev r : Renames (tree_of_now v) path other d
  r = call.r tx v h n before path other d done enough

  abbrev from : Place
  from = call.from tx v h n before path other d done enough

  abbrev to : Place
  to = call.to tx v h n before path other d done enough

  abbrev birth : ℕ
  birth = call.birth tx v h n before path other d done enough

  abbrev m : Move
  m = call.m tx v h n before path other d done enough

  abbrev after : Place
  after = call.after tx v h n before path other d done enough

  abbrev by_move : Bool → Change
  by_move = start.by_move tx v h n before path other d done enough

  abbrev by_target : Option Found → Change
  by_target = start.by_target tx v h n before path other d done enough

  abbrev taken_tree : Tree
  taken_tree = call.taken_tree tx v h n before path other d done enough

  abbrev far_from : birth ≢ from.parent
  far_from = call.far_from tx v h n before path other d done enough

  abbrev far_to : birth ≢ to.parent
  far_to = call.far_to tx v h n before path other d done enough

  abbrev good : IsGoodName to.name
  good = call.good tx v h n before path other d done enough

  abbrev to_short : length to.name ≤ v.geometry.width
  to_short = call.to_short tx v h n before path other d done enough

  abbrev entry : (u : VolumeNow) → IsInUse u → length to.name ≤ u.geometry.width → (p : Placed) → at_number u.contents.nodes birth ≡ Some p → IsEntry u.geometry.width (record { inode = p.number; name = to.name })
  entry = call.entry tx v h n before path other d done enough

  abbrev less : Change
  less = call.less tx v h n before path other d done enough

  abbrev v1 : VolumeNow
  v1 = call.v1 tx v h n before path other d done enough

  abbrev first : StepsTo tx v less taken_tree (links_at v.contents.nodes)
  first = call.first tx v h n before path other d done enough

  abbrev rename_by : rename v tx path other ≡ renamed v tx m
  rename_by = call.rename_by tx v h n before path other d done enough

  abbrev F : DirectoryAt v from.parent from.directory
  F = start.F tx v h n before path other d done enough

  abbrev k0 : ℕ
  k0 = start.k0 tx v h n before path other d done enough

  abbrev w0 : NameStands F.part.slots from.name
  w0 = start.w0 tx v h n before path other d done enough

  abbrev next0 : DirectoryPart
  next0 = start.next0 tx v h n before path other d done enough

  abbrev less_set : IsSlotSet v from.parent F.placed k0 next0 less
  less_set = start.less_set tx v h n before path other d done enough

  abbrev gone0 : slice_get next0.slots k0 ≡ Some None
  gone0 = start.gone0 tx v h n before path other d done enough

  abbrev some_none : (s : Slot) → ◌≡◌ {A = Option Slot} (Some s) None → ⊥
  some_none = start.some_none tx v h n before path other d done enough

  abbrev states_free : (z : ℕ) → state_of v1.zones z ≡ Some states.Free → state_of v.zones z ≡ Some states.Free
  states_free = start.states_free tx v h n before path other d done enough

  abbrev states_used : (z : ℕ) → state_of v.zones z ≡ Some states.Used → state_of v1.zones z ≡ Some states.Used
  states_used = start.states_used tx v h n before path other d done enough

  abbrev less_zones : (y : ZonePlace) → own v1 less_set.placed y ≡ own v F.placed y
  less_zones = start.less_zones tx v h n before path other d done enough

  abbrev less_differs : (c : Change) (e : Ends tx v c) (q : Placed) (next : DirectoryPart) → at_number c.volume.contents.nodes from.parent ≡ Some q → q.part ≡ parts.Directory next →
      (now : Option Slot) → slice_get next.slots k0 ≡ Some now → Some w0.slot ≢ now → own c.volume q (block (k0 / slots_a_block v.geometry.width)) ≡ slot_zone v F.placed k0 →
      (b : ℕ) → In b less.touched.blocks → disk_of c.volume.contents.blocks b ≢ disk_of v.contents.blocks b
  less_differs = start.less_differs tx v h n before path other d done enough

  -- ---- a directory goes below another parent

  module _ (not_same : stays m ≡ false) (none : m.target ≡ None) (unnamed : at_name to.directory.names to.name ≡ None) (e : Directory) (is : r.found.node ≡ nodes.Directory e) (up : e.parent ≡ from.parent) (away : to.parent ≢ from.parent) where
    -- ---- its steps

    abbrev y1 : DirectoryAt v1 from.parent (without_name from.directory from.name)
    y1 = call.y1 tx v h n before path other d done enough not_same none unnamed e is away

    abbrev few1 : y1.placed.inode.links - 1 ≤ 250
    few1 = call.few1 tx v h n before path other d done enough not_same none unnamed e is away

    abbrev fewer : Change
    fewer = call.fewer tx v h n before path other d done enough not_same none unnamed e is away

    abbrev v2 : VolumeNow
    v2 = call.v2 tx v h n before path other d done enough not_same none unnamed e is away

    abbrev below2 : StepsTo tx v1 fewer (tree_of_now v1) (links_at v2.contents.nodes)
    below2 = call.below2 tx v h n before path other d done enough not_same none unnamed e is away

    abbrev z2 : DirectoryAt v2 birth e
    z2 = call.z2 tx v h n before path other d done enough not_same none unnamed e is away

    abbrev q2 : DirectoryAt v2 to.parent after.directory
    q2 = call.q2 tx v h n before path other d done enough not_same none unnamed e is away

    abbrev turned : Change
    turned = call.turned tx v h n before path other d done enough not_same none unnamed e is away

    abbrev v3 : VolumeNow
    v3 = call.v3 tx v h n before path other d done enough not_same none unnamed e is away

    abbrev below3 : StepsTo tx v2 turned (put_number (tree_of_now v2) birth (nodes.Directory (record { parent = to.parent; width = z2.part.width; slots = length z2.part.slots; names = z2.part.names }))) (links_at v2.contents.nodes)
    below3 = call.below3 tx v h n before path other d done enough not_same none unnamed e is away

    abbrev x3 : DirectoryAt v3 to.parent after.directory
    x3 = call.x3 tx v h n before path other d done enough not_same none unnamed e is away

    abbrev few3 : x3.placed.inode.links + 1 ≤ 250
    few3 = call.few3 tx v h n before path other d done enough not_same none unnamed e is away

    abbrev grown : Change
    grown = call.grown tx v h n before path other d done enough not_same none unnamed e is away

    abbrev v4 : VolumeNow
    v4 = call.v4 tx v h n before path other d done enough not_same none unnamed e is away

    abbrev below4 : StepsTo tx v3 grown (tree_of_now v3) (links_at v4.contents.nodes)
    below4 = call.below4 tx v h n before path other d done enough not_same none unnamed e is away

    abbrev x4 : DirectoryAt v4 to.parent after.directory
    x4 = call.x4 tx v h n before path other d done enough not_same none unnamed e is away

    abbrev c4 : (p : Placed) × (at_number v4.contents.nodes birth ≡ Some p)
    c4 = call.c4 tx v h n before path other d done enough not_same none unnamed e is away

    abbrev named_below : Change
    named_below = call.named_below tx v h n before path other d done enough not_same none unnamed e is away

    -- ---- what stands afterwards

    abbrev s2 : Slot
    s2 = record { inode = q2.placed.number; name = codes ".." }

    turn_set : IsSlotSet v2 birth z2.placed 1 (with_parent z2.part to.parent s2) turned
    turn_set = slot_set tx v2 below2.steady.in_use birth z2.placed z2.stands z2.part z2.is 1 (Some s2) (with_parent z2.part to.parent s2) (length-set z2.part.slots 1 (Some s2)) below3.steady

    abbrev less_links : ℕ → ℕ
    less_links links = links - 1

    abbrev more_links : ℕ → ℕ
    more_links links = links + 1

    abbrev F2 : Placed
    F2 = links_placed v1 first.steady.in_use from.parent y1.placed y1.stands less_links

    abbrev T4 : Placed
    T4 = links_placed v3 below3.steady.in_use to.parent x3.placed x3.stands more_links

    abbrev slot_below : Slot
    slot_below = record { inode = c4.0.number; name = to.name }

    comes_below : IsAdded v4 to.parent x4.placed x4.part slot_below birth named_below
    comes_below = name_added tx v4 below4.steady.in_use to.parent x4.placed x4.stands x4.part x4.is to.name birth c4.0 c4.1 far_to (call.free4 tx v h n before path other d done enough not_same none unnamed e is away) (good_no_dot to.name good)
        (entry v4 below4.steady.in_use to_short c4.0 c4.1) below4.settled below4.slotted (call.left4 tx v h n before path other d done enough not_same none unnamed e is away) (call.more4 tx v h n before path other d done enough not_same none unnamed e is away)

    abbrev added_below : IsNamed v4 to.parent x4.placed x4.part slot_below birth named_below
    added_below = comes_below.named

    abbrev v5 : VolumeNow
    v5 = named_below.volume

    -- the old parent
    y1_same : less_set.placed ≡ y1.placed
    y1_same = same_Some less_set.placed y1.placed (sym less_set.stands ∙ y1.stands)

    y1_inode : y1.placed.inode ≡ F.placed.inode
    y1_inode = ap (λ (p : Placed). p.inode) (sym y1_same) ∙ less_set.inode

    y1_number : y1.placed.number ≡ F.placed.number
    y1_number = ap (λ (p : Placed). p.number) (sym y1_same) ∙ less_set.number

    y1_part : y1.placed.part ≡ parts.Directory next0
    y1_part = ap (λ (p : Placed). p.part) (sym y1_same) ∙ less_set.part

    f2 : at_number v2.contents.nodes from.parent ≡ Some F2
    f2 = links_stands v1 first.steady.in_use from.parent y1.placed y1.stands less_links

    f3 : at_number v3.contents.nodes from.parent ≡ Some F2
    f3 = turn_set.others from.parent (λ e. far_from (sym e)) ∙ f2

    f4 : at_number v4.contents.nodes from.parent ≡ Some F2
    f4 = at_put_number_apart v3.contents.nodes to.parent T4 from.parent (λ e. away (sym e)) ∙ f3

    f5 : at_number v5.contents.nodes from.parent ≡ Some F2
    f5 = added_below.others from.parent (λ e. away (sym e)) ∙ f4

    from_zones : (y : ZonePlace) → own v5 F2 y ≡ own v F.placed y
    from_zones y =
        added_below.theirs from.parent F2 f4 (λ e. away (sym e)) y
        ∙ (others_zones v3 below3.steady.in_use to.parent x3.placed x3.stands more_links from.parent F2 f3 y
        ∙ (turn_set.zones from.parent F2 f2 y
        ∙ (links_zones v1 first.steady.in_use from.parent y1.placed y1.stands less_links y
        ∙ (ap (λ (p : Placed). own v1 p y) (sym y1_same) ∙ less_zones y))))

    -- the directory that moves
    z1 : at_number v1.contents.nodes birth ≡ Some z2.placed
    z1 = sym (at_put_number_apart v1.contents.nodes from.parent F2 birth far_from) ∙ z2.stands

    z0 : at_number v.contents.nodes birth ≡ Some z2.placed
    z0 = sym (less_set.others birth far_from) ∙ z1

    z4 : at_number v4.contents.nodes birth ≡ Some turn_set.placed
    z4 = at_put_number_apart v3.contents.nodes to.parent T4 birth far_to ∙ turn_set.stands

    z5 : at_number v5.contents.nodes birth ≡ Some turn_set.placed
    z5 = added_below.others birth far_to ∙ z4

    moved_zones : (y : ZonePlace) → own v5 turn_set.placed y ≡ own v z2.placed y
    moved_zones y =
        added_below.theirs birth turn_set.placed z4 far_to y
        ∙ (others_zones v3 below3.steady.in_use to.parent x3.placed x3.stands more_links birth turn_set.placed turn_set.stands y
        ∙ (ap (λ i. zone_in v3.contents.blocks i y) turn_set.inode
        ∙ (turn_set.zones birth z2.placed z2.stands y
        ∙ (others_zones v1 first.steady.in_use from.parent y1.placed y1.stands less_links birth z2.placed z1 y
        ∙ less_set.zones birth z2.placed z0 y))))

    -- the new parent
    t2 : at_number v2.contents.nodes to.parent ≡ Some x3.placed
    t2 = sym (turn_set.others to.parent (λ e. far_to (sym e))) ∙ x3.stands

    to1 : at_number v1.contents.nodes to.parent ≡ Some x3.placed
    to1 = sym (at_put_number_apart v1.contents.nodes from.parent F2 to.parent away) ∙ t2

    to0 : at_number v.contents.nodes to.parent ≡ Some x3.placed
    to0 = sym (less_set.others to.parent away) ∙ to1

    x4_same : T4 ≡ x4.placed
    x4_same = same_Some T4 x4.placed (sym (links_stands v3 below3.steady.in_use to.parent x3.placed x3.stands more_links) ∙ x4.stands)

    x3_part : x3.placed.part ≡ parts.Directory x4.part
    x3_part = ap (λ (p : Placed). p.part) x4_same ∙ x4.is

    to_zones : (y : ZonePlace) → own v4 T4 y ≡ own v x3.placed y
    to_zones y =
        links_zones v3 below3.steady.in_use to.parent x3.placed x3.stands more_links y
        ∙ (turn_set.zones to.parent x3.placed t2 y
        ∙ (others_zones v1 first.steady.in_use from.parent y1.placed y1.stands less_links to.parent x3.placed to1 y
        ∙ less_set.zones to.parent x3.placed to0 y))

    left_below : Rises v v4 x3.placed x4.placed
    left_below = subst (Rises v v4 x3.placed) x4_same (rises_same v v4 x3.placed T4 refl to_zones
        (λ z state. states_free z (subst (λ m. state_of m z ≡ Some states.Free) turn_set.states_same state))
        (λ z state. subst (λ m. state_of m z ≡ Some states.Used) (sym turn_set.states_same) (states_used z state)))

    rises_below : Rises v v5 x3.placed added_below.placed
    rises_below = rises_then v v4 v5 x3.placed x4.placed added_below.placed left_below added_below.rises

    to_differs : added_below.placed.inode ≢ x3.placed.inode
    to_differs same =
        let kept = comes_below.links in
        let one : x4.placed.inode.links ≡ x3.placed.inode.links + 1 = ap (λ (p : Placed). p.inode.links) (sym x4_same) in
        let all = ap (λ (i : Inode). i.links) same in
        omega arith

    -- ---- each block

    abbrev whole_below : Change
    whole_below = joined less (joined fewer (joined turned (joined grown named_below)))

    abbrev BelowDiffers : ℕ → Type 0
    BelowDiffers b = disk_of v5.contents.blocks b ≢ disk_of v.contents.blocks b

    fewer_differs : Ends tx v whole_below → (b : ℕ) → In b fewer.touched.blocks → BelowDiffers b
    fewer_differs e b j =
        subst BelowDiffers (ap (table_block v.geometry) (sym y1_number) ∙ links_told v1 first.steady.in_use from.parent y1.placed y1.stands less_links b j)
        (node_differs tx v whole_below e from.parent F.placed F2 F.stands f5 y1_number (λ same. told_differs v1.geometry y1.placed _ b j (same ∙ sym y1_inode)))

    grown_differs : Ends tx v whole_below → (b : ℕ) → In b grown.touched.blocks → BelowDiffers b
    grown_differs e b j =
        subst BelowDiffers (links_told v3 below3.steady.in_use to.parent x3.placed x3.stands more_links b j)
        (node_differs tx v whole_below e to.parent x3.placed added_below.placed to0 added_below.stands rises_below.number to_differs)

    -- its `..` had the number of the old parent
    old_dots : (q : Placed) × (at_number v.contents.nodes z2.part.parent ≡ Some q) × HasDots z2.part.slots z2.placed.number q.number
    old_dots = (settled_before v h).dots birth z2.placed z2.part z0 z2.is

    abbrev s0 : Slot
    s0 = record { inode = old_dots.0.number; name = codes ".." }

    other_parent : Some s0 ≢ Some s2
    other_parent alike = away (sym (sym (ap (λ (d : Directory). d.parent) z2.same ∙ up)
        ∙ h.in_use.volume.0.numbers z2.part.parent to.parent old_dots.0 q2.placed old_dots.1
        (sym (less_set.others to.parent away) ∙ (sym (at_put_number_apart v1.contents.nodes from.parent F2 to.parent away) ∙ q2.stands)) (ap (λ (s : Slot). s.inode) (same_Some s0 s2 alike))))

    turned_differs : Ends tx v whole_below → (b : ℕ) → In b turned.touched.blocks → BelowDiffers b
    turned_differs e b j =
        subst BelowDiffers (sym (turn_set.told b j ∙ (others_zones v1 first.steady.in_use from.parent y1.placed y1.stands less_links birth z2.placed z1 (block (1 / slots_a_block v.geometry.width)) ∙ less_set.zones birth z2.placed z0 (block (1 / slots_a_block v.geometry.width)))))
        (slot_differs_here tx v whole_below e birth turn_set.placed z5 (with_parent z2.part to.parent s2) turn_set.part 1 (Some s0) (Some s2)
        (slice_get-set_same z2.part.slots 1 (Some s2) (slice_get-length z2.part.slots 1 (Some s0) old_dots.2.above)) other_parent z2.placed (part.slots 1 (Some s0) old_dots.2.above) (moved_zones (block (1 / slots_a_block v.geometry.width))))
      where
        part : IsDirectoryPart v.geometry v.contents.blocks z2.placed.inode z2.part
        part = subst (IsPart v.geometry v.contents.blocks z2.placed.inode) z2.is (h.in_use.volume.0.each birth z2.placed z0).part

    named_differs : Ends tx v whole_below → IsTidy v.geometry v.contents v.zones → (b : ℕ) → In b named_below.touched.blocks → IsMeta v.geometry v.contents b → BelowDiffers b
    named_differs e tidy b j was = named_changes tx v whole_below e tidy to.parent x3.placed added_below.placed to0 x4.part x3_part added_below.stands rises_below slot_below birth added_below.part b
        (elim (added_below.told b j) [
          | inl t ↦ inl (told_later v v4 v5 x3.placed x4.placed added_below.placed refl left_below b t)
          | inr more ↦ inr (elim more [ inl z ↦ inl z | inr t ↦ inr (ap (table_block v.geometry) (sym left_below.number) ∙ t.0, to_differs) ])
        ]) was

    below_changes : Ends tx v whole_below → IsTidy v.geometry v.contents v.zones → HasChanged v whole_below
    below_changes e tidy b i was = elim (In-append_cases less.touched.blocks (joined fewer (joined turned (joined grown named_below))).touched.blocks b i) [
      | inl j ↦ less_differs whole_below e F2 next0 f5 y1_part None gone0 (some_none w0.slot) (from_zones (block (k0 / slots_a_block v.geometry.width))) b j
      | inr i ↦ elim (In-append_cases fewer.touched.blocks (joined turned (joined grown named_below)).touched.blocks b i) [
        | inl j ↦ fewer_differs e b j
        | inr i ↦ elim (In-append_cases turned.touched.blocks (joined grown named_below).touched.blocks b i) [
          | inl j ↦ turned_differs e b j
          | inr i ↦ elim (In-append_cases grown.touched.blocks named_below.touched.blocks b i) [ inl j ↦ grown_differs e b j | inr j ↦ named_differs e tidy b j was ]
        ]
      ]
    ]

    below_by : rename v tx path other ≡ whole_below
    below_by = rename_by
        ∙ (ap (λ (b : Bool). if b then unchanged v else by_target m.target) not_same
        ∙ (ap by_target none
        ∙ (ap by_move (call.goes_below tx v h n before path other d done enough not_same none unnamed e is away)
        ∙ call.below_is tx v h n before path other d done enough not_same none unnamed e is away)))

    -- It goes below another parent.
    pub directory_below : Ends tx v (rename v tx path other) → IsTidy v.geometry v.contents v.zones → HasChanged v (rename v tx path other)
    directory_below ends tidy = subst (HasChanged v) (sym below_by) (below_changes (subst (Ends tx v) below_by ends) tidy)

    -- the volume stays bare
    turned_bare : IsBareNow v2 → IsBareNow v3
    turned_bare =
        let dots = below2.settled.dots birth z2.placed z2.part z2.stands z2.is in
        let told = below2.steady.in_use.volume.0.each to.parent q2.placed q2.stands in
        set_bare v2 below2.steady.in_use birth z2.placed z2.stands z2.part z2.is 1 (record { inode = dots.0.number; name = codes ".." }) dots.2.above (Some s2)
        (dots_fit v2.geometry.width q2.placed.number below2.steady.in_use.sound.width told.some (let within = told.within in let fit = below2.steady.in_use.sound.fits.inodes in omega arith))
        (with_parent z2.part to.parent s2) (length-set z2.part.slots 1 (Some s2))

    pub below_bare : IsBareNow v → IsBareNow (rename v tx path other).volume
    below_bare bare = subst (λ (c : Change). IsBareNow c.volume) (sym below_by)
        (comes_below.bare
        (links_bare v3 below3.steady.in_use to.parent x3.placed x3.stands (x3.placed.inode.links + 1) few3
        (turned_bare
        (links_bare v1 first.steady.in_use from.parent y1.placed y1.stands (y1.placed.inode.links - 1) few1
        (start.less_bare tx v h n before path other d done enough bare)))))
