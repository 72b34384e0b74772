-- A file that is created.
use Rattle.std.specs.Prelude.{◌≡◌, ◌≢◌, ◌<◌, ◌≤◌, ℕ, false, List, [], length, Option, Some, None}
use Rattle.std.proofs.Common.{sym, ap, subst, ◌∙◌, arith}
use Rattle.std.proofs.lemmas.Option.{none-some}
use Rattle.minix_layout.specs.declared.slot.Slot.{Slot}
use Rattle.minix_tables.specs.directories.Slots.{place_of}
use Rattle.minix_tables.specs.directories.laws.Found.{not_found}
use Rattle.tree_model.specs.Maps.{at_number, at_name, put_number}
use Rattle.tree_model.specs.laws.MapsLaws.{at_put_number, at_put_number_apart}
use Rattle.tree_model.specs.laws.MapOrder.{InOrder, in_order_put}
use Rattle.tree_model.specs.Paths.{is_dot}
use Rattle.tree_model.proofs.Hanging.{IsGoodName}
use Rattle.volume_model.specs.declared.placed.Placed.{Placed}
use Rattle.volume_model.specs.declared.placed.Part.TheVariants as parts
use Rattle.volume_model.specs.declared.placed.DirectoryPart.{DirectoryPart}
use Rattle.volume_model.specs.Volume.{IsPart, IsDirectoryPart, HasNames}
use Rattle.volume_model.specs.Touched.{Touched, and_then}
use Rattle.volume_steps.specs.Now.{VolumeNow, Change, untouched, followed_by}
use Rattle.volume_steps.specs.Zones.{new_number}
use Rattle.volume_steps.specs.Steps.{make_file, new_file_inode}
use Rattle.volume_steps.specs.Calls.{create_in}
use Rattle.volume_steps.specs.Plain.{IsInUse}
use Rattle.volume_steps.proofs.NewNumbers.{IsNewNumber, number_is_new}
use Rattle.volume_steps.proofs.NewFiles.{file_made_steady, file_made_settled, file_made_slotted}
use Rattle.volume_steps.proofs.CallPaths.{good_no_dot, good_entry}
use Rattle.volume_steps.proofs.CallEnds.{birth_is_new, birth_not_root}
use Rattle.volume_steps.proofs.PlainNow.{tree_is_plain, settled_before, slotted_before}
use Rattle.volume_in_use.proofs.NowLemmas.Notes.{and_assoc}
use Rattle.volume_names.specs.declared.directories.NewSlot.{NewSlot}
use Rattle.volume_names.specs.May.{MayCreate, FreePlace}
use Rattle.volume_names.specs.code.NewSlot.{new_slot}
use Rattle.volume_names.specs.code.Steps.{After, MayWrite, entered, entered_in, file_written, name_written}
use Rattle.volume_names.proofs.Changed.{volume_of}
use Rattle.volume_names.proofs.Entered.{same_directory}
use Rattle.volume_names.proofs.NameRooms.{NameRoom, wide, may_write}
use Rattle.volume_names.proofs.Named.{named}

-- one change after another
pub after_then : (before : Touched) (c : Change) (next : VolumeNow → Change) (v w : VolumeNow) (s t : Touched) → After before c v s → After s (next v) w t → After before (followed_by c next) w t
after_then before c next v w s t h k = record {
  volume_is = k.volume_is ∙ ap (λ v. (next v).volume) h.volume_is;
  touched_is =
      k.touched_is
      ∙ (ap (λ s. and_then s (next v).touched) h.touched_is
      ∙ (ap (λ v. and_then (and_then before c.touched) (next v).touched) h.volume_is
      ∙ and_assoc before c.touched (next c.volume).touched));
}

-- what was done after nothing
pub after_nothing : (before : Touched) (c : Change) (v : VolumeNow) (t : Touched) → before ≡ untouched → After before c v t → ◌≡◌ {A = Change} (record { volume = v; touched = t }) c
after_nothing before c v t none h =
    ap (λ v. record { volume = v; touched = t }) h.volume_is
    ∙ ap (λ t. record { volume = c.volume; touched = t }) (h.touched_is ∙ ap (λ before. and_then before c.touched) none)

-- a name that a directory does not have stands in none of its slots
pub no_slot : (nodes : List (ℕ × Placed)) (d : DirectoryPart) (name : List ℕ) → HasNames nodes d → is_dot name ≡ false → at_name d.names name ≡ None → place_of d.slots name ≡ None
no_slot nodes d name h no_dot free = not_found d.slots name (λ at s stands is.
    let there = h.full at s stands (ap is_dot is ∙ no_dot) in
    none-some there.0 (sym free ∙ (ap (at_name d.names) (sym is) ∙ there.1)))

module _ (v : VolumeNow) (parent : ℕ) (name : List ℕ) (h : FreePlace v parent name) where
  pub good : IsGoodName name
  good = record { plain = h.word }

  -- the name is not too long for the volume
  pub fits_volume : IsInUse v → length name ≤ v.geometry.width
  fits_volume in_use =
      let part : IsDirectoryPart v.geometry v.contents.blocks h.placed.inode h.part = subst (IsPart v.geometry v.contents.blocks h.placed.inode) h.is (in_use.volume.0.each parent h.placed h.stands).part in
      subst (λ width. length name ≤ width) part.width h.short

  -- the directory that stands there is this one
  pub same_part : (p : Placed) (d : DirectoryPart) → at_number v.contents.nodes parent ≡ Some p → p.part ≡ parts.Directory d → d ≡ h.part
  same_part p d at is = same_directory d h.part (sym is ∙ (ap (λ (p : Placed). p.part) (same p h.placed (sym at ∙ h.stands)) ∙ h.is))
    where
      same : (p q : Placed) → ◌≡◌ {A = Option Placed} (Some p) (Some q) → p ≡ q
      same p q e = cc

  pub free_name : (p : Placed) (d : DirectoryPart) → at_number v.contents.nodes parent ≡ Some p → p.part ≡ parts.Directory d → at_name d.names name ≡ None
  free_name p d at is = ap (λ (d : DirectoryPart). at_name d.names name) (same_part p d at is) ∙ h.free

  pub free_slot : ((p : Placed) (d : DirectoryPart) → at_number v.contents.nodes parent ≡ Some p → p.part ≡ parts.Directory d → HasNames v.contents.nodes d) →
      (p : Placed) (d : DirectoryPart) → at_number v.contents.nodes parent ≡ Some p → p.part ≡ parts.Directory d → place_of d.slots name ≡ None
  free_slot names p d at is = no_slot v.contents.nodes d name (names p d at is) (good_no_dot name good) (free_name p d at is)

module _ (v : VolumeNow) (n parent : ℕ) (name : List ℕ) (h : MayCreate v n parent name) where
  pub none : at_number v.contents.nodes n ≡ None
  none = birth_is_new v n h.born

  pub apart : parent ≢ n
  apart e = none-some h.place.placed (sym none ∙ (ap (at_number v.contents.nodes) (sym e) ∙ h.place.stands))

  pub no_place : (p : Placed) (d : DirectoryPart) → at_number v.contents.nodes parent ≡ Some p → p.part ≡ parts.Directory d → place_of d.slots name ≡ None
  no_place = free_slot v parent name h.place (λ p d at is. h.plain.in_use.volume.0.names parent p d at is)

  new : IsNewNumber v.geometry v.contents.nodes (new_number v.geometry v.contents.nodes)
  new = number_is_new v.geometry v.contents.nodes h.inode

  pub some : (number : ℕ) → number ≡ new_number v.geometry v.contents.nodes → 0 < number
  some number e = (let low = new.some in omega arith)

  abbrev q : Placed
  q = record { number = new_number v.geometry v.contents.nodes; inode = new_file_inode; part = parts.File [] }

  abbrev w : VolumeNow
  w = (make_file v n).volume

  stands : at_number w.contents.nodes parent ≡ Some h.place.placed
  stands = at_put_number_apart v.contents.nodes n q parent apart ∙ h.place.stands

  has : at_number w.contents.nodes n ≡ Some q
  has = at_put_number v.contents.nodes n q

  abbrev room : NameRoom w parent name n
  room = record {
    in_use = (file_made_steady 0 v h.plain.in_use n none h.inode).in_use;
    placed = h.place.placed;
    stands = stands;
    part = h.place.part;
    is = h.place.is;
    child = q;
    at_child = has;
    apart = λ e. apart (sym e);
    free = h.place.free;
    no_dot = good_no_dot name (good v parent name h.place);
    entry = good_entry v.geometry.width name q.number h.plain.in_use.sound.width (good v parent name h.place) (fits_volume v parent name h.place h.plain.in_use) new.some (let within = new.within in let fit = h.plain.in_use.sound.fits.inodes in omega arith);
    settled = file_made_settled 0 v h.plain.in_use n none h.inode (settled_before v h.plain) (birth_not_root v n (tree_is_plain v h.plain) h.born);
    slotted = file_made_slotted 0 v h.plain.in_use n none h.inode (slotted_before v h.plain);
    left = h.place.left;
    enough = (let zones = h.zones in omega arith);
  }

  order : InOrder w.contents.nodes
  order = in_order_put v.contents.nodes n q h.plain.in_use.volume.0.in_order

  abbrev s : Slot
  s = record { inode = q.number; name = name }

  -- the volume in memory, once the name is in its directory
  module _ (number : ℕ) (number_is : number ≡ new_number v.geometry v.contents.nodes) (slot : Slot) (slot_is : slot ≡ record { inode = number; name = name }) (file : Placed)
      (file_is : file ≡ record { number = number; inode = new_file_inode; part = parts.File [] }) (nodes : List (ℕ × Placed))
      (nodes_are : nodes ≡ entered (put_number v.contents.nodes n file) parent h.place.placed h.place.part slot n) (at : NewSlot) (at_is : at ≡ new_slot h.place.part slot) where
    same_slot : slot ≡ s
    same_slot = slot_is ∙ ap (λ number. record { inode = number; name = name }) number_is

    same_file : file ≡ q
    same_file = file_is ∙ ap (λ number. record { number = number; inode = new_file_inode; part = parts.File [] }) number_is

    same_nodes : nodes ≡ entered w.contents.nodes parent h.place.placed h.place.part s n
    same_nodes = nodes_are ∙ (ap (λ slot. entered (put_number v.contents.nodes n file) parent h.place.placed h.place.part slot n) same_slot
        ∙ ap (λ file. entered (put_number v.contents.nodes n file) parent h.place.placed h.place.part s n) same_file)

    same_at : at ≡ new_slot h.place.part s
    same_at = at_is ∙ ap (new_slot h.place.part) same_slot

    abbrev first : Change
    first = file_written (volume_of v.geometry v.contents.blocks nodes v.zones) n number

    -- the inode is written as the step does it
    first_volume : first.volume ≡ entered_in w parent h.place.placed h.place.part s n
    first_volume =
        ap (λ nodes. (file_written (volume_of v.geometry v.contents.blocks nodes v.zones) n number).volume) same_nodes
        ∙ ap (λ number. (file_written (volume_of v.geometry v.contents.blocks (entered w.contents.nodes parent h.place.placed h.place.part s n) v.zones) n number).volume) number_is

    first_touched : first.touched ≡ (make_file v n).touched
    first_touched = ap (λ number. (file_written (volume_of v.geometry v.contents.blocks nodes v.zones) n number).touched) number_is

    pub may_be_written : (u : VolumeNow) → u ≡ first.volume → MayWrite u parent slot at
    may_be_written u e =
        subst (λ u. MayWrite u parent slot at) (sym (e ∙ first_volume))
        (subst (λ slot. MayWrite (entered_in w parent h.place.placed h.place.part s n) parent slot at) (sym same_slot)
        (subst (MayWrite (entered_in w parent h.place.placed h.place.part s n) parent s) (sym same_at) (may_write w parent name n room)))

    -- the call as the code does it
    pub created : followed_by first (λ u. name_written u parent slot at) ≡ create_in v n parent name
    created =
        ap (λ volume. record { volume = (name_written volume parent slot at).volume; touched = and_then first.touched (name_written volume parent slot at).touched }) first_volume
        ∙ (ap (λ touched. record {
          volume = (name_written (entered_in w parent h.place.placed h.place.part s n) parent slot at).volume;
          touched = and_then touched (name_written (entered_in w parent h.place.placed h.place.part s n) parent slot at).touched;
        }) first_touched
        ∙ ap (λ (c : Change). record { volume = c.volume; touched = and_then (make_file v n).touched c.touched })
        (ap (λ slot. name_written (entered_in w parent h.place.placed h.place.part s n) parent slot at) same_slot
        ∙ (ap (name_written (entered_in w parent h.place.placed h.place.part s n) parent s) same_at
        ∙ named w parent h.place.placed h.place.part name n q order stands h.place.is has (λ e. apart (sym e)) (wide w parent name n room))))
