-- A file that gets a name more.
use Rattle.std.specs.Prelude.{◌≡◌, ◌≢◌, ◌<◌, ◌≤◌, ◌+◌, ℕ, List, Some, None}
use Rattle.std.proofs.Common.{sym, ap, subst, ◌∙◌, inl, inr, arith}
use Rattle.std.proofs.lemmas.Bool.{cases_eq}
use Rattle.std.proofs.lemmas.Option.{same_Some}
use Rattle.minix_layout.specs.declared.slot.Slot.{Slot}
use Rattle.minix_tables.specs.directories.Slots.{place_of}
use Rattle.tree_model.specs.Maps.{at_number, put_number}
use Rattle.tree_model.specs.laws.MapsLaws.{at_put_number, at_put_number_apart}
use Rattle.tree_model.specs.laws.MapOrder.{InOrder, in_order_put}
use Rattle.volume_model.specs.declared.placed.Placed.{Placed}
use Rattle.volume_model.specs.declared.placed.Part.TheVariants as parts
use Rattle.volume_model.specs.declared.placed.DirectoryPart.{DirectoryPart}
use Rattle.volume_model.specs.Touched.{and_then}
use Rattle.volume_model.specs.Moves.{with_name, inode_back, back_told}
use Rattle.volume_steps.specs.Now.{VolumeNow, Change, followed_by, tells_blocks}
use Rattle.volume_steps.specs.Steps.{with_links, inode_put, add_name}
use Rattle.volume_steps.specs.Calls.{link_in}
use Rattle.volume_steps.proofs.Files.{maps_same}
use Rattle.volume_steps.proofs.QuietSteps.{at_node_is, linked, linked_steady, linked_settled, linked_slotted}
use Rattle.volume_steps.proofs.CallPaths.{good_no_dot, good_entry}
use Rattle.volume_steps.proofs.PlainNow.{settled_before, slotted_before}
use Rattle.volume_names.specs.declared.directories.NewSlot.{NewSlot}
use Rattle.volume_names.specs.May.{MayLink}
use Rattle.volume_names.specs.code.NewSlot.{new_slot}
use Rattle.volume_names.specs.code.Steps.{MayWrite, entered, entered_in, more_links, name_written}
use Rattle.volume_names.proofs.Changed.{volume_of}
use Rattle.volume_names.proofs.Creates.{good, fits_volume, free_slot}
use Rattle.volume_names.proofs.NameRooms.{NameRoom, wide, may_write}
use Rattle.volume_names.proofs.Named.{named}

-- nodes at different births may be put in either order
pub put_either : {X : Type 0} (es : List (ℕ × X)) (j k : ℕ) (x y : X) → InOrder es → j ≢ k → put_number (put_number es j x) k y ≡ put_number (put_number es k y) j x
put_either es j k x y order apart =
    maps_same (put_number (put_number es j x) k y) (put_number (put_number es k y) j x) (in_order_put (put_number es j x) k y (in_order_put es j x order)) (in_order_put (put_number es k y) j x (in_order_put es k y order)) by
  where
    by : (i : ℕ) → at_number (put_number (put_number es j x) k y) i ≡ at_number (put_number (put_number es k y) j x) i
    by i = elim (cases_eq i k) [
      | inl e ↦ ap (at_number (put_number (put_number es j x) k y)) e ∙ (at_put_number (put_number es j x) k y
          ∙ sym (ap (at_number (put_number (put_number es k y) j x)) e ∙ (at_put_number_apart (put_number es k y) j x k (λ e. apart (sym e)) ∙ at_put_number es k y)))
      | inr a ↦ at_put_number_apart (put_number es j x) k y i a ∙ (elim (cases_eq i j) [
        | inl e ↦ ap (at_number (put_number es j x)) e ∙ (at_put_number es j x ∙ sym (ap (at_number (put_number (put_number es k y) j x)) e ∙ at_put_number (put_number es k y) j x))
        | inr b ↦ at_put_number_apart es j x i b ∙ sym (at_put_number_apart (put_number es k y) j x i b ∙ at_put_number_apart es k y i a)
      ])
    ]

module _ (v : VolumeNow) (birth parent : ℕ) (name : List ℕ) (h : MayLink v birth parent name) where
  pub apart : parent ≢ birth
  apart e = absurd (cc (sym h.place.is ∙ (ap (λ (p : Placed). p.part) (same_Some h.place.placed h.placed (sym h.place.stands ∙ (ap (at_number v.contents.nodes) e ∙ h.stands))) ∙ h.is)))

  pub no_place : (p : Placed) (d : DirectoryPart) → at_number v.contents.nodes parent ≡ Some p → p.part ≡ parts.Directory d → place_of d.slots name ≡ None
  no_place = free_slot v parent name h.place (λ p d at is. h.plain.in_use.volume.0.names parent p d at is)

  abbrev now : ℕ
  now = h.placed.inode.links + 1

  few : now ≤ 250
  few = (let low = h.links in omega arith)

  abbrev made : Change
  made = linked 0 v h.plain.in_use birth h.placed h.stands now few

  abbrev w : VolumeNow
  w = made.volume

  abbrev child : Placed
  child = record { number = h.placed.number; inode = with_links h.placed.inode now; part = h.placed.part }

  stands : at_number w.contents.nodes parent ≡ Some h.place.placed
  stands = at_put_number_apart v.contents.nodes birth child parent apart ∙ h.place.stands

  has : at_number w.contents.nodes birth ≡ Some child
  has = at_put_number v.contents.nodes birth child

  pub some : 0 < h.placed.number
  some = (h.plain.in_use.volume.0.each birth h.placed h.stands).some

  abbrev room : NameRoom w parent name birth
  room = record {
    in_use = (linked_steady 0 v h.plain.in_use birth h.placed h.stands now few).in_use;
    placed = h.place.placed;
    stands = stands;
    part = h.place.part;
    is = h.place.is;
    child = child;
    at_child = has;
    apart = λ e. apart (sym e);
    free = h.place.free;
    no_dot = good_no_dot name (good v parent name h.place);
    entry = good_entry v.geometry.width name child.number h.plain.in_use.sound.width (good v parent name h.place) (fits_volume v parent name h.place h.plain.in_use) some
        (let within = (h.plain.in_use.volume.0.each birth h.placed h.stands).within in let fit = h.plain.in_use.sound.fits.inodes in omega arith);
    settled = linked_settled 0 v h.plain.in_use birth h.placed h.stands now few (settled_before v h.plain);
    slotted = linked_slotted 0 v h.plain.in_use birth h.placed h.stands now few (slotted_before v h.plain);
    left = h.place.left;
    enough = (let zones = h.zones in omega arith);
  }

  order : InOrder v.contents.nodes
  order = h.plain.in_use.volume.0.in_order

  abbrev s : Slot
  s = record { inode = h.placed.number; name = name }

  -- ---- in memory

  module _ (slot : Slot) (slot_is : slot ≡ s) (nodes : List (ℕ × Placed)) (nodes_are : nodes ≡ entered v.contents.nodes parent h.place.placed h.place.part slot birth) (at : NewSlot) (at_is : at ≡ new_slot h.place.part slot) where
    same_nodes : nodes ≡ entered v.contents.nodes parent h.place.placed h.place.part s birth
    same_nodes = nodes_are ∙ ap (λ slot. entered v.contents.nodes parent h.place.placed h.place.part slot birth) slot_is

    same_at : at ≡ new_slot h.place.part s
    same_at = at_is ∙ ap (new_slot h.place.part) slot_is

    abbrev in_it : Placed
    in_it = record { number = h.place.placed.number; inode = h.place.placed.inode; part = parts.Directory (with_name h.place.part s birth) }

    -- the file still stands
    pub stays : at_number nodes birth ≡ Some h.placed
    stays = ap (λ nodes. at_number nodes birth) same_nodes ∙ (at_put_number_apart v.contents.nodes parent in_it birth (λ e. apart (sym e)) ∙ h.stands)

    abbrev first : Change
    first = more_links (volume_of v.geometry v.contents.blocks nodes v.zones) birth

    first_is : first ≡ record { volume = entered_in w parent h.place.placed h.place.part s birth; touched = made.touched }
    first_is =
        at_node_is (volume_of v.geometry v.contents.blocks nodes v.zones) birth h.placed
        (λ p. record { volume = inode_put (volume_of v.geometry v.contents.blocks nodes v.zones) birth p (with_links p.inode (p.inode.links + 1)); touched = tells_blocks (back_told v.geometry p (with_links p.inode (p.inode.links + 1))) }) stays
        ∙ ap (λ nodes. record { volume = volume_of v.geometry (inode_back v.geometry v.contents.blocks h.placed (with_links h.placed.inode now)) nodes v.zones; touched = tells_blocks (back_told v.geometry h.placed (with_links h.placed.inode now)) })
        (ap (λ nodes. put_number nodes birth child) same_nodes ∙ put_either v.contents.nodes parent birth in_it child order apart)

    pub may_be_written : (u : VolumeNow) → u ≡ first.volume → MayWrite u parent slot at
    may_be_written u e =
        subst (λ u. MayWrite u parent slot at) (sym (e ∙ ap (λ (c : Change). c.volume) first_is))
        (subst (λ slot. MayWrite (entered_in w parent h.place.placed h.place.part s birth) parent slot at) (sym slot_is)
        (subst (MayWrite (entered_in w parent h.place.placed h.place.part s birth) parent s) (sym same_at) (may_write w parent name birth room)))

    -- the call as the code does it
    pub linked_as : followed_by first (λ u. name_written u parent slot at) ≡ link_in v birth parent name
    linked_as =
        ap (λ c. followed_by c (λ u. name_written u parent slot at)) first_is
        ∙ (ap (λ (c : Change). record { volume = c.volume; touched = and_then made.touched c.touched })
        (ap (λ slot. name_written (entered_in w parent h.place.placed h.place.part s birth) parent slot at) slot_is
        ∙ (ap (name_written (entered_in w parent h.place.placed h.place.part s birth) parent s) same_at
        ∙ named w parent h.place.placed h.place.part name birth child (in_order_put v.contents.nodes birth child order) stands h.place.is has (λ e. apart (sym e)) (wide w parent name birth room)))
        ∙ sym (ap (λ c. followed_by c (λ w. add_name w parent name birth)) (at_node_is v birth h.placed
        (λ p. record { volume = inode_put v birth p (with_links p.inode (p.inode.links + 1)); touched = tells_blocks (back_told v.geometry p (with_links p.inode (p.inode.links + 1))) }) h.stands)))
