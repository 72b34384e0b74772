-- The blocks of a call that gives a node another name.
use Rattle.std.specs.Prelude.{◌≡◌, ◌≢◌, ◌<◌, ◌≤◌, ◌-◌, ◌+◌, ℕ, ◌==◌, nat_le, Bool, true, false, not, ◌&&◌, if◌then◌else◌, List, ◌++◌, length, Option, Some, None, Ok, refl, ◌/◌, ◌⊎◌}
use Rattle.std.proofs.Common.{sym, ap, subst, ◌∙◌, inl, inr, eq-eqb, arith}
use Rattle.std.proofs.lemmas.Bool.{cases_Bool, cases_eq}
use Rattle.std.proofs.lemmas.Option.{none-some, same_Some}
use Rattle.std.specs.List.Sorted.{IsStrictlySortedBy}
use Rattle.std.specs.Map.{keys_of}
use Rattle.blk_base.specs.Members.{In}
use Rattle.minix_layout.specs.Slots.{IsEntry}
use Rattle.tree_model.specs.declared.node.File.{File}
use Rattle.tree_model.specs.declared.node.Directory.{Directory}
use Rattle.tree_model.specs.Maps.{at_number, at_name, put_number, name_cmp}
use Rattle.tree_model.specs.Paths.{is_dot}
use Rattle.tree_model.specs.laws.MapOrder.{at_without_apart}
use Rattle.tree_model.specs.laws.MapsLaws.{at_put_number_apart}
use Rattle.tree_model.specs.Plain.{IsPlain, AreBornBefore}
use Rattle.tree_model.specs.Trees.{is_directory}
use Rattle.tree_model.specs.Calls.{Tree, Done, Place, Found, Move, outcome, used_zones, with_name, stays, moves_directory, changes_parent}
use Rattle.tree_model.proofs.Hanging.{IsGoodName}
use Rattle.volume_model.specs.declared.placed.Placed.{Placed}
use Rattle.volume_model.specs.declared.placed.DirectoryPart.{DirectoryPart}
use Rattle.volume_model.specs.Trees.{directory_from}
use Rattle.volume_steps.specs.Now.{VolumeNow, Change, tree_of_now, room_of, followed_by, unchanged}
use Rattle.volume_steps.specs.Steps.{add_name, lead_name, set_links, drop_node, node_dropped, all_numbers, block_zones, with_child, place_of}
use Rattle.volume_steps.specs.Calls.{lose_link as lose_link_step, renamed, rename}
use Rattle.volume_steps.specs.Plain.{IsPlainNow, IsInUse}
use Rattle.volume_steps.proofs.Taking.{frees}
use Rattle.volume_steps.proofs.NameGoes.{name_goes_is}
use Rattle.volume_steps.proofs.QuietSteps.{at_node_is}
use Rattle.volume_steps.proofs.StepsTo.{StepsTo, joined, links_at}
use Rattle.volume_steps.proofs.CallPaths.{DirectoryAt, good_no_dot}
use Rattle.volume_steps.proofs.Marked.{number_goes}
use Rattle.volume_steps.proofs.LinkCall.{FileAt}
use Rattle.volume_steps.proofs.SlotChanges.{lead_name_is}
use Rattle.volume_steps.proofs.RenameTree.{Renames, What, a_dir, a_fil, what, Met, none_met, file_met, itself, met, same_directory}
use Rattle.volume_steps.proofs.RenameTree.What.{a_dir, a_fil}
use Rattle.volume_steps.proofs.RenameTree.Met.{none_met, file_met, itself}
use Rattle.volume_model.specs.Edits.{touched_by}
use Rattle.volume_model.specs.laws.Zones.{zones_kept}
use Rattle.volume_steps.specs.Zones.{zone_bit}
use Rattle.volume_steps.proofs.Bits.{AreZones}
use Rattle.volume_steps.proofs.TakeZones.{zone_range}
use Rattle.vol_check.proofs.KeptCleanLemmas.ChangedLemmas.Drops.{no_zero, drop_zero, drop_high, drop_told}
use Rattle.vol_check.proofs.KeptCleanLemmas.ChangedLemmas.Ends.{freed_bit, gone_bit, inode_differs, Ends, node_differs, told_differs}
use Rattle.vol_check.proofs.KeptCleanLemmas.ChangedLemmas.Links.{links_set, links_is, links_stands, links_told, others_zones}
use Rattle.volume_steps.proofs.RenameCall as call
use Rattle.std.specs.List.{slice_get}
use Rattle.std.proofs.lemmas.List.{length-set}
use Rattle.blk_base.specs.laws.Members.{In-append_cases, slice_get-set_same, slice_get-set_other, slice_get-length}
use Rattle.minix_tables.specs.directories.Slots.{room}
use Rattle.minix_tables.specs.directories.laws.Slots.{room-within, room-free, with_slot-here, with_slot-kept}
use Rattle.minix_layout.specs.declared.inode.Inode.{Inode}
use Rattle.minix_layout.specs.declared.slot.Slot.{Slot}
use Rattle.minix_layout.specs.Widths.{slots_a_block}
use Rattle.volume_ops.specs.Places.{table_block}
use Rattle.volume_ops.specs.Volume.{disk_of}
use Rattle.volume_model.specs.Moves.{with_name as with_name_slot}
use Rattle.volume_model.specs.Touched.{IsMeta}
use Rattle.volume_model.specs.Volume.{Place as ZonePlace, block, zone_in, HasSlot, IsDirectoryPart, IsPart}
use Rattle.volume_steps.proofs.NameSteps.{NameStands, w as name_stands}
use Rattle.minix_tables.specs.zones.Zones.{state_of}
use Rattle.vol_check.specs.kept_clean.changed.Changed.{HasChanged}
use Rattle.vol_check.specs.kept_clean.changed.Tidy.{IsTidy}
use Rattle.vol_check.proofs.KeptCleanLemmas.ChangedLemmas.AddBlocks.{IsAdded, name_added, named_changes}
use Rattle.vol_check.proofs.KeptCleanLemmas.ChangedLemmas.Rising.{own, Rises, rises_then, told_changes, told_later}
use Rattle.vol_check.proofs.KeptCleanLemmas.ChangedLemmas.SlotBlocks.{IsNamed, slot_zone, slot_differs, slot_differs_here, was_free}
use Rattle.vol_check.proofs.KeptCleanLemmas.ChangedLemmas.SlotSteps.{IsSlotSet, slot_set, rises_same}
use Rattle.tree_model.specs.declared.call.Call.TheVariants as calls
use Rattle.tree_model.specs.declared.node.Node.TheVariants as nodes
use Rattle.volume_model.specs.declared.placed.Part.TheVariants as parts
use Rattle.minix_tables.specs.declared.zones.zone_state.ZoneState.TheVariants as states
use Rattle.vol_check.proofs.KeptCleanLemmas.ChangedLemmas.RenameStart as start
use Rattle.vol_check.proofs.KeptCleanLemmas.ChangedLemmas.BelowBlocks.{directory_below, below_bare}
use Rattle.vol_check.proofs.KeptCleanLemmas.ChangedLemmas.BareFrames.{IsBareNow}
use Rattle.vol_check.proofs.KeptCleanLemmas.ChangedLemmas.BareNodes.{drop_bare}
use Rattle.vol_check.proofs.KeptCleanLemmas.ChangedLemmas.BareSteps.{set_bare, links_bare}

module _ (tx : ℕ) (v : VolumeNow) (h : IsPlainNow v) (n : ℕ) (before : AreBornBefore n (tree_of_now v)) (path other : List ℕ) (d : Done)
    (done : outcome (room_of v.geometry) (tree_of_now v) n (calls.Rename path other) ≡ Ok d) (enough : used_zones d.tree - used_zones (tree_of_now v) ≤ frees v.zones) where
  -- ---- what `RenameStart` has of the call

  abbrev plain : IsPlain (tree_of_now v)
  plain = call.plain tx v h n before path other d done enough

  abbrev r : Renames (tree_of_now v) path other d
  r = call.r tx v h n before path other d done enough

  abbrev from : Place
  from = call.from tx v h n before path other d done enough

  abbrev to : Place
  to = call.to tx v h n before path other d done enough

  abbrev birth : ℕ
  birth = call.birth tx v h n before path other d done enough

  abbrev m : Move
  m = call.m tx v h n before path other d done enough

  abbrev after : Place
  after = call.after tx v h n before path other d done enough

  abbrev by_move : Bool → Change
  by_move = start.by_move tx v h n before path other d done enough

  abbrev by_target : Option Found → Change
  by_target = start.by_target tx v h n before path other d done enough

  abbrev taken_tree : Tree
  taken_tree = call.taken_tree tx v h n before path other d done enough

  abbrev from_stands : at_number (tree_of_now v) from.parent ≡ Some (nodes.Directory from.directory)
  from_stands = call.from_stands tx v h n before path other d done enough

  abbrev gives : at_name from.directory.names from.name ≡ Some birth
  gives = call.gives tx v h n before path other d done enough

  abbrev far_to : birth ≢ to.parent
  far_to = call.far_to tx v h n before path other d done enough

  abbrev good : IsGoodName to.name
  good = call.good tx v h n before path other d done enough

  abbrev to_short : length to.name ≤ v.geometry.width
  to_short = call.to_short tx v h n before path other d done enough

  abbrev entry : (u : VolumeNow) → IsInUse u → length to.name ≤ u.geometry.width → (p : Placed) → at_number u.contents.nodes birth ≡ Some p → IsEntry u.geometry.width (record { inode = p.number; name = to.name })
  entry = call.entry tx v h n before path other d done enough

  abbrev less : Change
  less = call.less tx v h n before path other d done enough

  abbrev v1 : VolumeNow
  v1 = call.v1 tx v h n before path other d done enough

  abbrev first : StepsTo tx v less taken_tree (links_at v.contents.nodes)
  first = call.first tx v h n before path other d done enough

  abbrev rename_by : rename v tx path other ≡ renamed v tx m
  rename_by = call.rename_by tx v h n before path other d done enough

  abbrev F : DirectoryAt v from.parent from.directory
  F = start.F tx v h n before path other d done enough

  abbrev k0 : ℕ
  k0 = start.k0 tx v h n before path other d done enough

  abbrev w0 : NameStands F.part.slots from.name
  w0 = start.w0 tx v h n before path other d done enough

  abbrev next0 : DirectoryPart
  next0 = start.next0 tx v h n before path other d done enough

  abbrev less_set : IsSlotSet v from.parent F.placed k0 next0 less
  less_set = start.less_set tx v h n before path other d done enough

  abbrev from_part : IsDirectoryPart v.geometry v.contents.blocks F.placed.inode F.part
  from_part = start.from_part tx v h n before path other d done enough

  abbrev was0 : HasSlot v.geometry v.contents.blocks F.placed.inode k0 (Some w0.slot)
  was0 = start.was0 tx v h n before path other d done enough

  abbrev gone0 : slice_get next0.slots k0 ≡ Some None
  gone0 = start.gone0 tx v h n before path other d done enough

  abbrev some_none : (s : Slot) → ◌≡◌ {A = Option Slot} (Some s) None → ⊥
  some_none = start.some_none tx v h n before path other d done enough

  abbrev states_free : (z : ℕ) → state_of v1.zones z ≡ Some states.Free → state_of v.zones z ≡ Some states.Free
  states_free = start.states_free tx v h n before path other d done enough

  abbrev states_used : (z : ℕ) → state_of v.zones z ≡ Some states.Used → state_of v1.zones z ≡ Some states.Used
  states_used = start.states_used tx v h n before path other d done enough

  abbrev less_zones : (y : ZonePlace) → own v1 less_set.placed y ≡ own v F.placed y
  less_zones = start.less_zones tx v h n before path other d done enough

  abbrev less_differs : (c : Change) (e : Ends tx v c) (q : Placed) (next : DirectoryPart) → at_number c.volume.contents.nodes from.parent ≡ Some q → q.part ≡ parts.Directory next →
      (now : Option Slot) → slice_get next.slots k0 ≡ Some now → Some w0.slot ≢ now → own c.volume q (block (k0 / slots_a_block v.geometry.width)) ≡ slot_zone v F.placed k0 →
      (b : ℕ) → In b less.touched.blocks → disk_of c.volume.contents.blocks b ≢ disk_of v.contents.blocks b
  less_differs = start.less_differs tx v h n before path other d done enough

  abbrev as_part : (d e : DirectoryPart) → parts.Directory d ≡ parts.Directory e → d ≡ e
  as_part = start.as_part tx v h n before path other d done enough

  -- ---- where no node has the new name: a file, or a directory that keeps its parent

  module _ (not_same : stays m ≡ false) (none : m.target ≡ None) (unnamed : at_name to.directory.names to.name ≡ None) (within : (moves_directory m && changes_parent m) ≡ false) where
    abbrev x1 : DirectoryAt v1 to.parent after.directory
    x1 = call.x1 tx v h n before path other d done enough not_same none unnamed within

    abbrev c1 : (p : Placed) × (at_number v1.contents.nodes birth ≡ Some p)
    c1 = call.c1 tx v h n before path other d done enough not_same none unnamed within

    abbrev named : Change
    named = call.named tx v h n before path other d done enough not_same none unnamed within

    abbrev slot : Slot
    slot = record { inode = c1.0.number; name = to.name }

    comes : IsAdded v1 to.parent x1.placed x1.part slot birth named
    comes = name_added tx v1 first.steady.in_use to.parent x1.placed x1.stands x1.part x1.is to.name birth c1.0 c1.1 far_to (call.free1 tx v h n before path other d done enough not_same none unnamed within) (good_no_dot to.name good)
        (entry v1 first.steady.in_use to_short c1.0 c1.1) first.settled first.slotted (call.left1 tx v h n before path other d done enough not_same none unnamed within) (call.more1 tx v h n before path other d done enough not_same none unnamed within)

    abbrev added : IsNamed v1 to.parent x1.placed x1.part slot birth named
    added = comes.named

    abbrev whole : Change
    whole = joined less named

    abbrev Differs : ℕ → Type 0
    Differs b = disk_of named.volume.contents.blocks b ≢ disk_of v.contents.blocks b

    -- it comes in another directory
    moved_apart : to.parent ≢ from.parent → Ends tx v whole → IsTidy v.geometry v.contents v.zones → HasChanged v whole
    moved_apart apart e tidy b i was = elim (In-append_cases less.touched.blocks named.touched.blocks b i) [
      | inl j ↦ less_differs whole e less_set.placed next0 (added.others from.parent (λ e. apart (sym e)) ∙ less_set.stands) less_set.part None gone0 (some_none w0.slot)
          (added.theirs from.parent less_set.placed less_set.stands (λ e. apart (sym e)) (block (k0 / slots_a_block v.geometry.width)) ∙ less_zones (block (k0 / slots_a_block v.geometry.width))) b j
      | inr j ↦ named_changes tx v whole e tidy to.parent x1.placed added.placed at_v x1.part x1.is added.stands rises slot birth added.part b
          (elim (added.told b j) [
            | inl t ↦ inl (told_later v v1 named.volume x1.placed x1.placed added.placed less_set.geometry left b t)
            | inr more ↦ inr (elim more [ inl z ↦ inl z | inr t ↦ inr (t.0, (λ same. t.1 (ap (λ (i : Inode). i.size) same))) ])
          ]) was
    ]
      where
        at_v : at_number v.contents.nodes to.parent ≡ Some x1.placed
        at_v = sym (less_set.others to.parent apart) ∙ x1.stands

        left : Rises v v1 x1.placed x1.placed
        left = rises_same v v1 x1.placed x1.placed refl (less_set.zones to.parent x1.placed at_v) states_free states_used

        rises : Rises v named.volume x1.placed added.placed
        rises = rises_then v v1 named.volume x1.placed x1.placed added.placed left added.rises

    -- it comes in the same directory
    moved_inside : to.parent ≡ from.parent → Ends tx v whole → IsTidy v.geometry v.contents v.zones → HasChanged v whole
    moved_inside same e tidy b i was = elim (In-append_cases less.touched.blocks named.touched.blocks b i) [
      | inl j ↦ less_in (cases_eq k0 (room x1.part.slots)) b j
      | inr j ↦ elim (added.told b j) [
        | inl t ↦ told_changes tx v whole e to.parent F.placed added.placed at_v added.stands rises b (told_later v v1 named.volume F.placed x1.placed added.placed less_set.geometry left b t) was
        | inr more ↦ elim more [
          | inl z ↦ subst (λ b. IsMeta v.geometry v.contents b → Differs b) z (new_slot (cases_eq k0 (room x1.part.slots))) was
          | inr t ↦ subst Differs (ap (table_block v.geometry) (sym left.number) ∙ t.0)
              (node_differs tx v whole e to.parent F.placed added.placed at_v added.stands rises.number (λ alike. t.1 (ap (λ (i : Inode). i.size) (alike ∙ sym left_inode))))
        ]
      ]
    ]
      where
        at_v : at_number v.contents.nodes to.parent ≡ Some F.placed
        at_v = ap (at_number v.contents.nodes) same ∙ F.stands

        placed_same : less_set.placed ≡ x1.placed
        placed_same = same_Some less_set.placed x1.placed (sym less_set.stands ∙ (ap (at_number v1.contents.nodes) (sym same) ∙ x1.stands))

        part_same : next0 ≡ x1.part
        part_same = as_part next0 x1.part (sym less_set.part ∙ (ap (λ (p : Placed). p.part) placed_same ∙ x1.is))

        left_inode : x1.placed.inode ≡ F.placed.inode
        left_inode = ap (λ (p : Placed). p.inode) (sym placed_same) ∙ less_set.inode

        left : Rises v v1 F.placed x1.placed
        left = subst (Rises v v1 F.placed) placed_same (rises_same v v1 F.placed less_set.placed less_set.number less_zones states_free states_used)

        rises : Rises v named.volume F.placed added.placed
        rises = rises_then v v1 named.volume F.placed x1.placed added.placed left added.rises

        -- the names differ
        other_slot : Some w0.slot ≢ Some slot
        other_slot alike = none-some birth (sym unnamed
            ∙ (ap (λ (d : Directory). at_name d.names to.name) (sym (same_directory (tree_of_now v) plain path other d r same))
            ∙ (ap (at_name from.directory.names) (sym (ap (λ (t : Slot). t.name) (same_Some w0.slot slot alike)) ∙ w0.name_is) ∙ gives)))

        here : (place : ℕ) → place ≡ room x1.part.slots → slice_get (with_name_slot x1.part slot birth).slots place ≡ Some (Some slot)
        here place at = ap (slice_get (with_name_slot x1.part slot birth).slots) at ∙ with_slot-here x1.part.slots (room x1.part.slots) slot (room-within x1.part.slots)

        kept : own named.volume added.placed (block (k0 / slots_a_block v.geometry.width)) ≡ slot_zone v F.placed k0
        kept = rises.kept (block (k0 / slots_a_block v.geometry.width)) was0.mapped

        in_from : at_number named.volume.contents.nodes from.parent ≡ Some added.placed
        in_from = ap (at_number named.volume.contents.nodes) (sym same) ∙ added.stands

        less_in : (k0 ≡ room x1.part.slots) ⊎ (k0 ≢ room x1.part.slots) → (b : ℕ) → In b less.touched.blocks → Differs b
        less_in (inl at) = less_differs whole e added.placed (with_name_slot x1.part slot birth) in_from added.part (Some slot) (here k0 at) other_slot kept
        less_in (inr far) = less_differs whole e added.placed (with_name_slot x1.part slot birth) in_from added.part None
            (with_slot-kept x1.part.slots (room x1.part.slots) k0 slot None far (ap (λ (d : DirectoryPart). slice_get d.slots k0) (sym part_same) ∙ gone0)) (some_none w0.slot) kept

        new_slot : (k0 ≡ room x1.part.slots) ⊎ (k0 ≢ room x1.part.slots) → IsMeta v.geometry v.contents (own named.volume added.placed (block (room x1.part.slots / slots_a_block v.geometry.width))) → Differs (own named.volume added.placed (block (room x1.part.slots / slots_a_block v.geometry.width)))
        new_slot (inl at) = slot_differs tx v whole e to.parent F.placed added.placed at_v added.stands rises (with_name_slot x1.part slot birth) added.part (room x1.part.slots) (Some w0.slot) (Some slot) (here (room x1.part.slots) refl) other_slot
            (λ mapped. subst (λ k. HasSlot v.geometry v.contents.blocks F.placed.inode k (Some w0.slot)) at was0)
        new_slot (inr far) = slot_differs tx v whole e to.parent F.placed added.placed at_v added.stands rises (with_name_slot x1.part slot birth) added.part (room x1.part.slots) None (Some slot) (here (room x1.part.slots) refl) (λ alike. some_none slot (sym alike))
            (was_free v h.in_use tidy to.parent F.placed F.part at_v F.is (room x1.part.slots)
            (λ s there. room-free x1.part.slots s (ap (λ (d : DirectoryPart). slice_get d.slots (room x1.part.slots)) (sym part_same) ∙ (slice_get-set_other F.part.slots k0 (room x1.part.slots) None (λ e. far (sym e)) ∙ there))))

    moved_changes : Ends tx v whole → IsTidy v.geometry v.contents v.zones → HasChanged v whole
    moved_changes = elim (cases_eq to.parent from.parent) [ inl same ↦ moved_inside same | inr apart ↦ moved_apart apart ]

    pub moved_bare : IsBareNow v → IsBareNow whole.volume
    moved_bare bare = comes.bare (start.less_bare tx v h n before path other d done enough bare)

  -- ---- a file gets the name of another one

  module _ (not_same : stays m ≡ false) (t : Found) (f : File) (target : m.target ≡ Some t) (is : t.node ≡ nodes.File f) (led_to : at_name to.directory.names to.name ≡ Some t.birth) (apart : t.birth ≢ birth) (g : File) (file : r.found.node ≡ nodes.File g) where
    abbrev t_far_from : t.birth ≢ from.parent
    t_far_from = call.t_far_from tx v h n before path other d done enough not_same t f target is led_to apart g file

    abbrev t_far_to : t.birth ≢ to.parent
    t_far_to = call.t_far_to tx v h n before path other d done enough not_same t f target is led_to apart g file

    abbrev m1 : DirectoryAt v1 to.parent after.directory
    m1 = call.m1 tx v h n before path other d done enough not_same t f target is led_to apart g file

    abbrev moved1 : (p : Placed) × (at_number v1.contents.nodes birth ≡ Some p)
    moved1 = call.moved1 tx v h n before path other d done enough not_same t f target is led_to apart g file

    abbrev found1 : at_name m1.part.names to.name ≡ Some t.birth
    found1 = call.found1 tx v h n before path other d done enough not_same t f target is led_to apart g file

    abbrev sorted1 : IsStrictlySortedBy name_cmp (keys_of m1.part.names)
    sorted1 = call.sorted1 tx v h n before path other d done enough not_same t f target is led_to apart g file

    abbrev led : Change
    led = call.led tx v h n before path other d done enough not_same t f target is led_to apart g file

    abbrev w2 : VolumeNow
    w2 = call.w2 tx v h n before path other d done enough not_same t f target is led_to apart g file

    abbrev met2 : StepsTo tx v1 led (put_number (tree_of_now v1) to.parent (nodes.Directory (with_name (directory_from m1.part) to.name birth))) (links_at v1.contents.nodes)
    met2 = call.met2 tx v h n before path other d done enough not_same t f target is led_to apart g file

    abbrev y2 : FileAt w2 t.birth f
    y2 = call.y2 tx v h n before path other d done enough not_same t f target is led_to apart g file

    -- its slot
    abbrev k1 : ℕ
    k1 = place_of to.name m1.part.slots

    abbrev w1 : NameStands m1.part.slots to.name
    w1 = name_stands tx v1 first.steady.in_use to.parent m1.placed m1.stands m1.part m1.is to.name t.birth found1 sorted1

    abbrev t1 : Slot
    t1 = record { inode = moved1.0.number; name = to.name }

    abbrev led_part : DirectoryPart
    led_part = with_child m1.part k1 t1 birth

    led_set : IsSlotSet v1 to.parent m1.placed k1 led_part led
    led_set = slot_set tx v1 first.steady.in_use to.parent m1.placed m1.stands m1.part m1.is k1 (Some t1) led_part (length-set m1.part.slots k1 (Some t1)) met2.steady

    led_here : slice_get led_part.slots k1 ≡ Some (Some t1)
    led_here = slice_get-set_same m1.part.slots k1 (Some t1) (slice_get-length m1.part.slots k1 (Some w1.slot) w1.stands)

    -- it led to another inode
    other_led : Some w1.slot ≢ Some t1
    other_led alike =
        let all = (first.steady.in_use.volume.0.names to.parent m1.placed m1.part m1.stands m1.is).full k1 w1.slot w1.stands (ap is_dot w1.name_is ∙ good_no_dot to.name good) in
        let same_birth : all.0 ≡ t.birth = same_Some all.0 t.birth (sym all.1 ∙ (ap (at_name m1.part.names) w1.name_is ∙ found1)) in
        apart (sym same_birth ∙ first.steady.in_use.volume.0.numbers all.0 birth all.2.0 moved1.0 all.2.1 moved1.1 (all.2.2 ∙ ap (λ (s : Slot). s.inode) (same_Some w1.slot t1 alike)))

    led_zones : (y : ZonePlace) → own w2 led_set.placed y ≡ own v1 m1.placed y
    led_zones y = ap (λ i. zone_in w2.contents.blocks i y) led_set.inode ∙ led_set.zones to.parent m1.placed m1.stands y

    -- both slots, before the call and after the name leads to the file
    record BothSlots : Type 0 where
      from_placed : Placed
      from_next : DirectoryPart
      from_stands : at_number w2.contents.nodes from.parent ≡ Some from_placed
      from_is : from_placed.part ≡ parts.Directory from_next
      from_gone : slice_get from_next.slots k0 ≡ Some None
      from_zones : (y : ZonePlace) → own w2 from_placed y ≡ own v F.placed y
      to_placed : Placed
      to_was : HasSlot v.geometry v.contents.blocks to_placed.inode k1 (Some w1.slot)
      to_zones : (y : ZonePlace) → own v1 m1.placed y ≡ own v to_placed y

    slots_apart : to.parent ≢ from.parent → BothSlots
    slots_apart away = record {
      from_placed = less_set.placed;
      from_next = next0;
      from_stands = led_set.others from.parent (λ e. away (sym e)) ∙ less_set.stands;
      from_is = less_set.part;
      from_gone = gone0;
      from_zones = λ y. led_set.zones from.parent less_set.placed less_set.stands y ∙ less_zones y;
      to_placed = m1.placed;
      to_was = part.slots k1 (Some w1.slot) w1.stands;
      to_zones = less_set.zones to.parent m1.placed in_v;
    }
      where
        in_v : at_number v.contents.nodes to.parent ≡ Some m1.placed
        in_v = sym (less_set.others to.parent away) ∙ m1.stands

        part : IsDirectoryPart v.geometry v.contents.blocks m1.placed.inode m1.part
        part = subst (IsPart v.geometry v.contents.blocks m1.placed.inode) m1.is (h.in_use.volume.0.each to.parent m1.placed in_v).part

    slots_inside : to.parent ≡ from.parent → BothSlots
    slots_inside same = record {
      from_placed = led_set.placed;
      from_next = led_part;
      from_stands = ap (at_number w2.contents.nodes) (sym same) ∙ led_set.stands;
      from_is = led_set.part;
      from_gone = slice_get-set_other m1.part.slots k1 k0 (Some t1) far ∙ gone1;
      from_zones = λ y. led_zones y ∙ zones_same y;
      to_placed = F.placed;
      to_was = from_part.slots k1 (Some w1.slot) (sym (slice_get-set_other F.part.slots k0 k1 None (λ e. far (sym e))) ∙ (ap (λ (d : DirectoryPart). slice_get d.slots k1) part_same ∙ w1.stands));
      to_zones = zones_same;
    }
      where
        placed_same : less_set.placed ≡ m1.placed
        placed_same = same_Some less_set.placed m1.placed (sym less_set.stands ∙ (ap (at_number v1.contents.nodes) (sym same) ∙ m1.stands))

        part_same : next0 ≡ m1.part
        part_same = as_part next0 m1.part (sym less_set.part ∙ (ap (λ (p : Placed). p.part) placed_same ∙ m1.is))

        gone1 : slice_get m1.part.slots k0 ≡ Some None
        gone1 = ap (λ (d : DirectoryPart). slice_get d.slots k0) (sym part_same) ∙ gone0

        far : k0 ≢ k1
        far e = some_none w1.slot (same_Some (Some w1.slot) None (sym w1.stands ∙ (ap (slice_get m1.part.slots) (sym e) ∙ gone1)))

        zones_same : (y : ZonePlace) → own v1 m1.placed y ≡ own v F.placed y
        zones_same y = ap (λ (p : Placed). own v1 p y) (sym placed_same) ∙ less_zones y

    slots : BothSlots
    slots = elim (cases_eq to.parent from.parent) [ inl same ↦ slots_inside same | inr away ↦ slots_apart away ]

    -- The blocks of both slots, where what follows leaves other nodes and their zones.
    slots_change : (last : Change) (e : Ends tx v (joined less (joined led last))) → ((a : ℕ) (q : Placed) → a ≢ t.birth → at_number w2.contents.nodes a ≡ Some q → at_number last.volume.contents.nodes a ≡ Some q) →
        ((a : ℕ) (q : Placed) → at_number w2.contents.nodes a ≡ Some q → (y : ZonePlace) → own last.volume q y ≡ own w2 q y) →
        (b : ℕ) → In b less.touched.blocks ⊎ In b led.touched.blocks → disk_of last.volume.contents.blocks b ≢ disk_of v.contents.blocks b
    slots_change last e stays_put zones b (inl j) =
        less_differs (joined less (joined led last)) e slots.from_placed slots.from_next (stays_put from.parent slots.from_placed (λ e. t_far_from (sym e)) slots.from_stands) slots.from_is None slots.from_gone (some_none w0.slot)
        (zones from.parent slots.from_placed slots.from_stands (block (k0 / slots_a_block v.geometry.width)) ∙ slots.from_zones (block (k0 / slots_a_block v.geometry.width))) b j
    slots_change last e stays_put zones b (inr j) =
        subst (λ b. disk_of last.volume.contents.blocks b ≢ disk_of v.contents.blocks b) (sym (led_set.told b j ∙ slots.to_zones (block (k1 / slots_a_block v.geometry.width))))
        (slot_differs_here tx v (joined less (joined led last)) e to.parent led_set.placed (stays_put to.parent led_set.placed (λ e. t_far_to (sym e)) led_set.stands) led_part led_set.part k1 (Some w1.slot) (Some t1) led_here other_led slots.to_placed slots.to_was
        (zones to.parent led_set.placed led_set.stands (block (k1 / slots_a_block v.geometry.width)) ∙ (led_zones (block (k1 / slots_a_block v.geometry.width)) ∙ slots.to_zones (block (k1 / slots_a_block v.geometry.width)))))

    in_slots : (last : Change) (b : ℕ) → In b (joined less (joined led last)).touched.blocks → (In b less.touched.blocks ⊎ In b led.touched.blocks) ⊎ In b last.touched.blocks
    in_slots last b i = elim (In-append_cases less.touched.blocks (joined led last).touched.blocks b i) [
      | inl j ↦ inl (inl j)
      | inr more ↦ elim (In-append_cases led.touched.blocks last.touched.blocks b more) [ inl j ↦ inl (inr j) | inr j ↦ inr j ]
    ]

    at_v : at_number v.contents.nodes t.birth ≡ Some y2.placed
    at_v = sym (less_set.others t.birth t_far_from) ∙ (sym (led_set.others t.birth t_far_to) ∙ y2.stands)

    -- ---- the other file keeps another name

    abbrev kept : Change
    kept = links_set w2 met2.steady.in_use t.birth y2.placed y2.stands (λ links. links - 1)

    kept_changes : Ends tx v (joined less (joined led kept)) → HasChanged v (joined less (joined led kept))
    kept_changes e b i was = elim (in_slots kept b i) [
      | inl j ↦ slots_change kept e
          (λ a q far there. at_put_number_apart w2.contents.nodes t.birth _ a far ∙ there)
          (λ a q there y. others_zones w2 met2.steady.in_use t.birth y2.placed y2.stands (λ links. links - 1) a q there y) b j
      | inr j ↦ subst (λ b. disk_of kept.volume.contents.blocks b ≢ disk_of v.contents.blocks b) (links_told w2 met2.steady.in_use t.birth y2.placed y2.stands (λ links. links - 1) b j)
          (node_differs tx v (joined less (joined led kept)) e t.birth y2.placed _ at_v (links_stands w2 met2.steady.in_use t.birth y2.placed y2.stands (λ links. links - 1)) refl (told_differs w2.geometry y2.placed _ b j))
    ]

    -- ---- it goes

    abbrev freed_zones : List ℕ
    freed_zones = block_zones w2.contents y2.placed y2.placed.part ++ all_numbers w2.contents y2.placed

    abbrev gone : Change
    gone = node_dropped w2 tx t.birth y2.placed

    abbrev GoneDiffers : ℕ → Type 0
    GoneDiffers b = disk_of gone.volume.contents.blocks b ≢ disk_of v.contents.blocks b

    gone_changes : Ends tx v (joined less (joined led gone)) → HasChanged v (joined less (joined led gone))
    gone_changes e b i was = elim (in_slots gone b i) [
      | inl j ↦ slots_change gone e
          (λ a q far there. at_without_apart w2.contents.nodes t.birth a met2.steady.in_use.volume.0.in_order far ∙ there)
          (λ a q there. zones_kept w2.contents.blocks gone.volume.contents.blocks q.inode
          (λ x numbers some. drop_high w2 met2.steady.in_use t.birth y2.placed y2.stands freed_zones within_zones (zone_in w2.contents.blocks q.inode x) ((met2.steady.in_use.volume.0.each a q there).zones x some).0)) b j
      | inr j ↦ dropped (drop_told w2 met2.steady.in_use t.birth y2.placed y2.stands freed_zones within_zones b j)
    ]
      where
        within_zones : AreZones v.geometry freed_zones
        within_zones z i = zone_range v h.in_use z states.Used (e.was_used z i)

        moved : (a c : ℕ) → a ≡ c → GoneDiffers a → GoneDiffers c
        moved a c same differs = subst GoneDiffers same differs

        bit : GoneDiffers (2 + y2.placed.number / 8192)
        bit =
            let told = h.in_use.volume.0.each t.birth y2.placed at_v in
            gone_bit tx v (joined less (joined led gone)) e y2.placed.number told.some told.within (record { birth = t.birth; placed = y2.placed; stands = at_v; is = refl })
            (number_goes w2.contents.nodes t.birth y2.placed met2.steady.in_use.volume.0.in_order y2.stands met2.steady.in_use.volume.0.numbers)

        table : GoneDiffers (table_block v.geometry y2.placed.number)
        table =
            let told = h.in_use.volume.0.each t.birth y2.placed at_v in
            inode_differs v.geometry v.contents.blocks gone.volume.contents.blocks y2.placed.number
            (λ same. no_zero v.geometry v.contents.blocks y2.placed.inode y2.placed.part told.part (sym (drop_zero w2 met2.steady.in_use t.birth y2.placed y2.stands freed_zones within_zones) ∙ (same ∙ told.inode)))

        dropped : (2 + y2.placed.number / 8192 ≡ b) ⊎ (((z : ℕ) × In z freed_zones × (touched_by v.geometry (zone_bit v.geometry false z) ≡ b)) ⊎ (table_block v.geometry y2.placed.number ≡ b)) → GoneDiffers b
        dropped (inl same) = moved (2 + y2.placed.number / 8192) b same bit
        dropped (inr (inl z)) = freed_bit tx v (joined less (joined led gone)) e z.0 z.1 b z.2
        dropped (inr (inr same)) = moved (table_block v.geometry y2.placed.number) b same table

    -- ---- both

    replace_is : rename v tx path other ≡ joined less (joined led (if nat_le y2.placed.inode.links 1 then drop_node w2 tx t.birth else set_links w2 t.birth (λ links. links - 1)))
    replace_is =
        rename_by
        ∙ (ap (λ (b : Bool). if b then unchanged v else by_target m.target) not_same
        ∙ (ap by_target target
        ∙ (ap (λ c. followed_by c (λ u. followed_by (lead_name u to.parent to.name birth) (λ w. lose_link_step w tx t.birth))) (name_goes_is tx v h from birth from_stands gives)
        ∙ (ap (λ c. joined less (followed_by c (λ w. lose_link_step w tx t.birth)))
        (lead_name_is tx v1 first.steady.in_use first.settled first.slotted to.parent m1.placed m1.stands m1.part m1.is to.name t.birth found1 sorted1 birth moved1.0 moved1.1 (entry v1 first.steady.in_use to_short moved1.0 moved1.1))
        ∙ ap (λ c. joined less (joined led c)) (at_node_is w2 t.birth y2.placed (λ p. if nat_le p.inode.links 1 then drop_node w2 tx t.birth else set_links w2 t.birth (λ links. links - 1)) y2.stands)))))

    replace_changes : Ends tx v (rename v tx path other) → HasChanged v (rename v tx path other)
    replace_changes e = elim (cases_Bool (nat_le y2.placed.inode.links 1)) [
      | inl one ↦
          let is = replace_is ∙ (ap (λ (b : Bool). joined less (joined led (if b then drop_node w2 tx t.birth else set_links w2 t.birth (λ links. links - 1)))) one
          ∙ ap (λ c. joined less (joined led c)) (at_node_is w2 t.birth y2.placed (node_dropped w2 tx t.birth) y2.stands)) in
          subst (HasChanged v) (sym is) (gone_changes (subst (Ends tx v) is e))
      | inr more ↦
          let is = replace_is ∙ (ap (λ (b : Bool). joined less (joined led (if b then drop_node w2 tx t.birth else set_links w2 t.birth (λ links. links - 1)))) more
          ∙ ap (λ c. joined less (joined led c)) (links_is w2 met2.steady.in_use t.birth y2.placed y2.stands (λ links. links - 1))) in
          subst (HasChanged v) (sym is) (kept_changes (subst (Ends tx v) is e))
    ]

    led_bare : IsBareNow v1 → IsBareNow w2
    led_bare = set_bare v1 first.steady.in_use to.parent m1.placed m1.stands m1.part m1.is k1 w1.slot w1.stands (Some t1) (entry v1 first.steady.in_use to_short moved1.0 moved1.1) led_part (length-set m1.part.slots k1 (Some t1))

    replace_bare : (in_zones : (z : ℕ) → In z (rename v tx path other).touched.freed → (v.geometry.first ≤ z) × (z < v.geometry.zones)) → IsBareNow v → IsBareNow (rename v tx path other).volume
    replace_bare in_zones bare = elim (cases_Bool (nat_le y2.placed.inode.links 1)) [
      | inl one ↦
          let is = replace_is ∙ (ap (λ (b : Bool). joined less (joined led (if b then drop_node w2 tx t.birth else set_links w2 t.birth (λ links. links - 1)))) one
          ∙ ap (λ c. joined less (joined led c)) (at_node_is w2 t.birth y2.placed (node_dropped w2 tx t.birth) y2.stands)) in
          subst (λ (c : Change). IsBareNow c.volume) (sym is)
          (drop_bare w2 met2.steady.in_use t.birth y2.placed y2.stands freed_zones (λ z i. in_zones z (subst (λ (c : Change). In z c.touched.freed) (sym is) i)) both_bare)
      | inr more ↦
          let is = replace_is ∙ (ap (λ (b : Bool). joined less (joined led (if b then drop_node w2 tx t.birth else set_links w2 t.birth (λ links. links - 1)))) more
          ∙ ap (λ c. joined less (joined led c)) (links_is w2 met2.steady.in_use t.birth y2.placed y2.stands (λ links. links - 1))) in
          let most = met2.settled.few_links t.birth y2.placed y2.stands in
          subst (λ (c : Change). IsBareNow c.volume) (sym is) (links_bare w2 met2.steady.in_use t.birth y2.placed y2.stands (y2.placed.inode.links - 1) (omega arith) both_bare)
    ]
      where
        both_bare : IsBareNow w2
        both_bare = led_bare (start.less_bare tx v h n before path other d done enough bare)

  -- ---- all of them

  same_changes : stays m ≡ true → HasChanged v (rename v tx path other)
  same_changes e = subst (HasChanged v)
      (sym (rename_by ∙ ap (λ (b : Bool). if b then unchanged v else by_target m.target) e))
      (λ b i was. absurd i)

  moved_by : (not_same : stays m ≡ false) (none : m.target ≡ None) (within : (moves_directory m && changes_parent m) ≡ false) → rename v tx path other ≡ joined less (add_name v1 to.parent to.name birth)
  moved_by not_same none within =
      rename_by
      ∙ (ap (λ (b : Bool). if b then unchanged v else by_target m.target) not_same
      ∙ (ap by_target none
      ∙ (ap by_move within
      ∙ ap (λ c. followed_by c (λ w. add_name w to.parent to.name birth)) (name_goes_is tx v h from birth from_stands gives))))

  -- A node has another name.
  pub rename_changes : Ends tx v (rename v tx path other) → IsTidy v.geometry v.contents v.zones → HasChanged v (rename v tx path other)
  rename_changes ends tidy = elim (cases_Bool (stays m)) [
    | inl e ↦ same_changes e
    | inr not_same ↦ by not_same (met (tree_of_now v) plain path other d r)
  ]
    where
      within_one : stays m ≡ false → m.target ≡ None → at_name to.directory.names to.name ≡ None → (moves_directory m && changes_parent m) ≡ false → HasChanged v (rename v tx path other)
      within_one not_same none unnamed within =
          let is = moved_by not_same none within in
          subst (HasChanged v) (sym is) (moved_changes not_same none unnamed within (subst (Ends tx v) is ends) tidy)

      free : stays m ≡ false → m.target ≡ None → at_name to.directory.names to.name ≡ None → What (tree_of_now v) plain path other d r → HasChanged v (rename v tx path other)
      free not_same none unnamed (a_fil f is) = within_one not_same none unnamed (ap (λ x. is_directory (Some x) && changes_parent m) is)
      free not_same none unnamed (a_dir e is up) = elim (cases_eq to.parent from.parent) [
        | inl inside ↦ within_one not_same none unnamed (ap (λ x. is_directory (Some x) && not (to.parent == from.parent)) is ∙ ap not (eq-eqb to.parent from.parent inside))
        | inr away ↦ directory_below tx v h n before path other d done enough not_same none unnamed e is up away ends tidy
      ]

      by : stays m ≡ false → Met (tree_of_now v) plain path other d r → HasChanged v (rename v tx path other)
      by not_same (itself e) = same_changes e
      by not_same (none_met none unnamed) = free not_same none unnamed (what (tree_of_now v) plain path other d r)
      by not_same (file_met t f target is led_to apart) = (let w = call.file_moves tx v h n before path other d done enough t f target is in replace_changes not_same t f target is led_to apart w.0 w.1 ends)

  -- The volume stays bare.
  pub rename_bare : ((z : ℕ) → In z (rename v tx path other).touched.freed → (v.geometry.first ≤ z) × (z < v.geometry.zones)) → IsBareNow v → IsBareNow (rename v tx path other).volume
  rename_bare in_zones bare = elim (cases_Bool (stays m)) [
    | inl e ↦ same_bare e
    | inr not_same ↦ by not_same (met (tree_of_now v) plain path other d r)
  ]
    where
      same_bare : stays m ≡ true → IsBareNow (rename v tx path other).volume
      same_bare e = subst (λ (c : Change). IsBareNow c.volume) (sym (rename_by ∙ ap (λ (b : Bool). if b then unchanged v else by_target m.target) e)) bare

      within_one : stays m ≡ false → m.target ≡ None → at_name to.directory.names to.name ≡ None → (moves_directory m && changes_parent m) ≡ false → IsBareNow (rename v tx path other).volume
      within_one not_same none unnamed within = subst (λ (c : Change). IsBareNow c.volume) (sym (moved_by not_same none within)) (moved_bare not_same none unnamed within bare)

      free : stays m ≡ false → m.target ≡ None → at_name to.directory.names to.name ≡ None → What (tree_of_now v) plain path other d r → IsBareNow (rename v tx path other).volume
      free not_same none unnamed (a_fil f is) = within_one not_same none unnamed (ap (λ x. is_directory (Some x) && changes_parent m) is)
      free not_same none unnamed (a_dir e is up) = elim (cases_eq to.parent from.parent) [
        | inl inside ↦ within_one not_same none unnamed (ap (λ x. is_directory (Some x) && not (to.parent == from.parent)) is ∙ ap not (eq-eqb to.parent from.parent inside))
        | inr away ↦ below_bare tx v h n before path other d done enough not_same none unnamed e is up away bare
      ]

      by : stays m ≡ false → Met (tree_of_now v) plain path other d r → IsBareNow (rename v tx path other).volume
      by not_same (itself e) = same_bare e
      by not_same (none_met none unnamed) = free not_same none unnamed (what (tree_of_now v) plain path other d r)
      by not_same (file_met t f target is led_to apart) = (let w = call.file_moves tx v h n before path other d done enough t f target is in replace_bare not_same t f target is led_to apart w.0 w.1 in_zones bare)
