-- A directory that is made.
use Rattle.std.specs.Prelude.{◌≡◌, ◌≢◌, ◌<◌, ◌+◌, ℕ, true, List, [], ◌∷◌, ◌++◌, codes, Some, None, option_map, refl}
use Rattle.std.proofs.Common.{sym, ap, subst, ◌∙◌, arith, append_assoc}
use Rattle.std.proofs.lemmas.List.{append-nil}
use Rattle.std.proofs.lemmas.Option.{none-some, same_Some}
use Rattle.std.specs.Ordering.{nat_cmp}
use Rattle.std.specs.BTreeMap.{is_at}
use Rattle.std.specs.Map.{set_value}
use Rattle.blk_base.specs.Block.{filled}
use Rattle.byte_fields.specs.Fields.{zeros}
use Rattle.minix_layout.specs.declared.division.Geometry.{Geometry}
use Rattle.minix_layout.specs.declared.inode.Inode.{Inode}
use Rattle.minix_layout.specs.declared.slot.Slot.{Slot}
use Rattle.minix_layout.specs.Inodes.{new_directory_inode}
use Rattle.minix_tables.specs.directories.Slots.{place_of}
use Rattle.tree_model.specs.Maps.{at_number, put_number}
use Rattle.tree_model.specs.laws.MapsLaws.{at_put_number, at_put_number_apart}
use Rattle.tree_model.specs.laws.MapOrder.{InOrder, in_order_put}
use Rattle.minix_tables.specs.zones.Zones.{Zones, taken}
use Rattle.volume_ops.specs.Places.{table_block}
use Rattle.volume_model.specs.declared.placed.Placed.{Placed}
use Rattle.volume_model.specs.declared.placed.Part.TheVariants as parts
use Rattle.volume_model.specs.declared.placed.DirectoryPart.{DirectoryPart}
use Rattle.volume_model.specs.Edits.{put_body, put_inode, put_slot, edited, edited_all, touched_by_all}
use Rattle.volume_model.specs.Touched.{Touched, and_then}
use Rattle.volume_model.specs.Moves.{with_name}
use Rattle.volume_steps.specs.Now.{VolumeNow, Change, followed_by, tells_blocks, tells_writes}
use Rattle.volume_steps.specs.Zones.{inode_bit, zone_bit, new_number, next_zone}
use Rattle.volume_steps.specs.Steps.{tells_node, dot_slots, new_directory_edits, add_name, set_links}
use Rattle.volume_steps.specs.Calls.{mkdir_in}
use Rattle.volume_steps.proofs.Taking.{one_taken}
use Rattle.volume_steps.proofs.Files.{put_twice}
use Rattle.volume_steps.proofs.NewNumbers.{IsNewNumber, number_is_new}
use Rattle.volume_steps.proofs.NewDirectories.{directory_made, make_directory_is, directory_made_steady, directory_made_settled, directory_made_slotted}
use Rattle.volume_steps.proofs.QuietSteps.{at_node_is}
use Rattle.volume_steps.proofs.AddNames.{name_comes}
use Rattle.volume_steps.proofs.CallPaths.{good_no_dot, good_entry}
use Rattle.volume_steps.proofs.CallEnds.{birth_is_new, birth_not_root}
use Rattle.volume_steps.proofs.PlainNow.{tree_is_plain, settled_before, slotted_before}
use Rattle.volume_in_use.specs.now.Noted.{Noted, with_block, with_node}
use Rattle.volume_names.specs.declared.directories.NewSlot.{NewSlot}
use Rattle.volume_names.specs.May.{MayMkdir}
use Rattle.volume_names.specs.code.NewSlot.{new_slot}
use Rattle.volume_names.specs.code.Steps.{After, MayWrite, entered, entered_in, dot_edits, directory_step, directory_written, more_links, name_written}
use Rattle.volume_names.proofs.Changed.{volume_of, changed_at}
use Rattle.volume_names.proofs.Creates.{good, fits_volume, free_slot}
use Rattle.volume_names.proofs.Links.{put_either}
use Rattle.volume_names.proofs.NameRooms.{NameRoom, wide, may_write}
use Rattle.volume_names.proofs.Named.{named}

-- ---- what the code wrote

no_bytes : filled 0 ≡ zeros 1024
unfolding filled zeros
no_bytes = refl

pub dots_done : (g : Geometry) (blocks a b c : List (List ℕ)) (zone own above : ℕ) (body : List ℕ) (s t : Slot) → body ≡ filled 0 → a ≡ edited g blocks (put_body zone body) →
    s ≡ record { inode = own; name = codes "." } → b ≡ edited g a (put_slot zone 0 (Some s)) → t ≡ record { inode = above; name = codes ".." } → c ≡ edited g b (put_slot zone 1 (Some t)) →
    c ≡ edited_all g blocks (dot_edits zone own above)
dots_done g blocks a b c zone own above body s t z e f h k l =
    l ∙ (ap (λ t. edited g b (put_slot zone 1 (Some t))) k
    ∙ ap (λ b. edited g b (put_slot zone 1 (Some (record { inode = above; name = codes ".." }))))
    (h ∙ (ap (λ s. edited g a (put_slot zone 0 (Some s))) f
    ∙ ap (λ a. edited g a (put_slot zone 0 (Some (record { inode = own; name = codes "." })))) (e ∙ ap (λ body. edited g blocks (put_body zone body)) (z ∙ no_bytes)))))

pub noted_directory : (s u w x y z : Noted) (g : Geometry) (number zone above table n : ℕ) → u.touched ≡ and_then s.touched (tells_writes g (inode_bit number true ∷ [])) →
    w.touched ≡ and_then u.touched (tells_writes g (zone_bit g true zone ∷ [])) → x.touched ≡ and_then w.touched (tells_writes g (dot_edits zone number above)) → y ≡ with_block x table →
    table ≡ table_block g number → z ≡ with_node y n → (inode : Inode) → inode ≡ new_directory_inode g.width zone →
    z.touched ≡ and_then s.touched (and_then (tells_writes g (new_directory_edits g number zone above)) (tells_node n []))
noted_directory s u w x y z g number zone above table n a b c d e f inode i =
    ap (λ (z : Noted). z.touched) (f ∙ ap (λ y. with_node y n) (d ∙ ap (with_block x) e))
    ∙ (ap (λ (t : Touched). record t { blocks = t.blocks ++ table_block g number ∷ []; nodes = t.nodes ++ n ∷ [] })
    (c ∙ ap (λ t. and_then t (tells_writes g (dot_edits zone number above))) (b ∙ ap (λ t. and_then t (tells_writes g (zone_bit g true zone ∷ []))) a))
    ∙ told s.touched (touched_by_all g (inode_bit number true ∷ [])) (touched_by_all g (zone_bit g true zone ∷ [])) zone (table_block g number) n)
  where
    told : (t : Touched) (one two : List ℕ) (zone table n : ℕ) → record {
      blocks = (((t.blocks ++ one) ++ two) ++ zone ∷ zone ∷ zone ∷ []) ++ table ∷ [];
      freed = ((t.freed ++ []) ++ []) ++ [];
      revoked = ((t.revoked ++ []) ++ []) ++ [];
      pages = ((t.pages ++ []) ++ []) ++ [];
      dropped = ((t.dropped ++ []) ++ []) ++ [];
      nodes = (((t.nodes ++ []) ++ []) ++ []) ++ n ∷ [];
    } ≡ and_then t (and_then (tells_blocks (one ++ (two ++ zone ∷ zone ∷ zone ∷ table ∷ []))) (tells_node n []))
    told t one two zone table n = simp (append_assoc, append-nil)

module _ (v : VolumeNow) (n : ℕ) (p : Placed) (before touched : Touched) (blocks : List (List ℕ)) (nodes : List (ℕ × Placed)) (order : InOrder v.contents.nodes) (at : at_number v.contents.nodes n ≡ Some p)
    (above zone : ℕ) (zone_is : zone ≡ next_zone v.zones) (inode : Inode) (inode_is : inode ≡ new_directory_inode v.geometry.width zone) where
  pub directory_changed : (zones : Zones) (a b c : List (List ℕ)) → zones ≡ taken v.zones → a ≡ edited_all v.geometry v.contents.blocks (inode_bit p.number true ∷ []) →
      b ≡ edited_all v.geometry a (zone_bit v.geometry true zone ∷ []) → c ≡ edited_all v.geometry b (dot_edits zone p.number above) → blocks ≡ edited v.geometry c (put_inode p.number inode) →
      nodes ≡ set_value (is_at (nat_cmp n)) v.contents.nodes (record { number = p.number; inode = inode; part = p.part }) →
      touched ≡ and_then before (and_then (tells_writes v.geometry (new_directory_edits v.geometry p.number zone above)) (tells_node n [])) →
      After before (directory_written v n above) (volume_of v.geometry blocks nodes zones) touched
  directory_changed zones a b c z e f h k set told =
      changed_at v n p (record { number = p.number; inode = inode; part = p.part }) (directory_step v n above) before touched blocks nodes zones order at set refl
      (k
      ∙ (ap (λ c. edited v.geometry c (put_inode p.number inode)) (h ∙ ap (λ b. edited_all v.geometry b (dot_edits zone p.number above)) (f ∙ ap (λ a. edited_all v.geometry a (zone_bit v.geometry true zone ∷ [])) e))
      ∙ (ap (λ inode. edited v.geometry (edited_all v.geometry v.contents.blocks (inode_bit p.number true ∷ zone_bit v.geometry true zone ∷ dot_edits zone p.number above)) (put_inode p.number inode)) inode_is
      ∙ ap (λ zone. edited_all v.geometry v.contents.blocks (new_directory_edits v.geometry p.number zone above)) zone_is)))
      (ap (λ inode. put_number v.contents.nodes n (record { number = p.number; inode = inode; part = p.part })) (inode_is ∙ ap (new_directory_inode v.geometry.width) zone_is))
      z
      (told ∙ ap (λ zone. and_then before (and_then (tells_writes v.geometry (new_directory_edits v.geometry p.number zone above)) (tells_node n []))) zone_is)

-- ---- the call

module _ (v : VolumeNow) (n parent : ℕ) (name : List ℕ) (h : MayMkdir v n parent name) where
  pub none : at_number v.contents.nodes n ≡ None
  none = birth_is_new v n h.born

  pub apart : parent ≢ n
  apart e = none-some h.place.placed (sym none ∙ (ap (at_number v.contents.nodes) (sym e) ∙ h.place.stands))

  pub no_place : (p : Placed) (d : DirectoryPart) → at_number v.contents.nodes parent ≡ Some p → p.part ≡ parts.Directory d → place_of d.slots name ≡ None
  no_place = free_slot v parent name h.place (λ p d at is. h.plain.in_use.volume.0.names parent p d at is)

  new : IsNewNumber v.geometry v.contents.nodes (new_number v.geometry v.contents.nodes)
  new = number_is_new v.geometry v.contents.nodes h.inode

  abbrev made : Change
  made = directory_made 0 v h.plain.in_use n none h.inode parent h.place.placed h.place.stands h.some_zone

  abbrev w : VolumeNow
  w = made.volume

  -- the directory, before it has its zone and then
  abbrev with_zone : ℕ → ℕ → ℕ → Placed
  with_zone number above zone = record { number = number; inode = new_directory_inode v.geometry.width zone; part = parts.Directory (record { parent = parent; width = v.geometry.width; names = []; slots = dot_slots number above }) }

  abbrev child : Placed
  child = with_zone (new_number v.geometry v.contents.nodes) h.place.placed.number (next_zone v.zones)

  stands : at_number w.contents.nodes parent ≡ Some h.place.placed
  stands = at_put_number_apart v.contents.nodes n child parent apart ∙ h.place.stands

  has : at_number w.contents.nodes n ≡ Some child
  has = at_put_number v.contents.nodes n child

  abbrev room : NameRoom w parent name n
  room = record {
    in_use = (directory_made_steady 0 v h.plain.in_use n none h.inode parent h.place.placed h.place.stands h.some_zone).in_use;
    placed = h.place.placed;
    stands = stands;
    part = h.place.part;
    is = h.place.is;
    child = child;
    at_child = has;
    apart = λ e. apart (sym e);
    free = h.place.free;
    no_dot = good_no_dot name (good v parent name h.place);
    entry = good_entry v.geometry.width name child.number h.plain.in_use.sound.width (good v parent name h.place) (fits_volume v parent name h.place h.plain.in_use) new.some (let within = new.within in let fit = h.plain.in_use.sound.fits.inodes in omega arith);
    settled = directory_made_settled 0 v h.plain.in_use n none h.inode parent h.place.placed h.place.stands h.some_zone (settled_before v h.plain) (birth_not_root v n (tree_is_plain v h.plain) h.born);
    slotted = directory_made_slotted 0 v h.plain.in_use n none h.inode parent h.place.placed h.place.stands h.some_zone (slotted_before v h.plain);
    left = h.place.left;
    enough = (let zones = h.zones in let less = (one_taken v.zones h.some_zone).fewer in omega arith);
  }

  order : InOrder v.contents.nodes
  order = h.plain.in_use.volume.0.in_order

  abbrev s : Slot
  s = record { inode = new_number v.geometry v.contents.nodes; name = name }

  -- ---- in memory

  module _ (number : ℕ) (number_is : number ≡ new_number v.geometry v.contents.nodes) (above : ℕ) (above_is : above ≡ h.place.placed.number) (slot : Slot) (slot_is : slot ≡ record { inode = number; name = name })
      (file : Placed) (file_is : file ≡ with_zone number above 0) (nodes : List (ℕ × Placed)) (nodes_are : nodes ≡ entered (put_number v.contents.nodes n file) parent h.place.placed h.place.part slot n)
      (at : NewSlot) (at_is : at ≡ new_slot h.place.part slot) where
    abbrev blank : Placed
    blank = with_zone (new_number v.geometry v.contents.nodes) h.place.placed.number 0

    abbrev in_it : Placed
    in_it = record { number = h.place.placed.number; inode = h.place.placed.inode; part = parts.Directory (with_name h.place.part s n) }

    same_slot : slot ≡ s
    same_slot = slot_is ∙ ap (λ number. record { inode = number; name = name }) number_is

    same_file : file ≡ blank
    same_file = file_is ∙ (ap (λ number. with_zone number above 0) number_is ∙ ap (λ above. with_zone (new_number v.geometry v.contents.nodes) above 0) above_is)

    abbrev filled_nodes : List (ℕ × Placed)
    filled_nodes = put_number (put_number v.contents.nodes n blank) parent in_it

    same_nodes : nodes ≡ filled_nodes
    same_nodes = nodes_are ∙ (ap (λ slot. entered (put_number v.contents.nodes n file) parent h.place.placed h.place.part slot n) same_slot
        ∙ ap (λ file. put_number (put_number v.contents.nodes n file) parent in_it) same_file)

    same_at : at ≡ new_slot h.place.part s
    same_at = at_is ∙ ap (new_slot h.place.part) same_slot

    there : at_number filled_nodes n ≡ Some blank
    there = at_put_number_apart (put_number v.contents.nodes n blank) parent in_it n (λ e. apart (sym e)) ∙ at_put_number v.contents.nodes n blank

    pub numbered : (p : Placed) → at_number nodes n ≡ Some p → 0 < p.number
    numbered p found = subst (λ (p : Placed). 0 < p.number) (same_Some blank p (sym there ∙ (sym (ap (λ nodes. at_number nodes n) same_nodes) ∙ found))) new.some

    abbrev first : Change
    first = directory_written (volume_of v.geometry v.contents.blocks nodes v.zones) n above

    first_is : first ≡ record { volume = entered_in w parent h.place.placed h.place.part s n; touched = made.touched }
    first_is =
        ap (λ nodes. directory_written (volume_of v.geometry v.contents.blocks nodes v.zones) n above) same_nodes
        ∙ (ap (directory_written (volume_of v.geometry v.contents.blocks filled_nodes v.zones) n) above_is
        ∙ (at_node_is (volume_of v.geometry v.contents.blocks filled_nodes v.zones) n blank (directory_step (volume_of v.geometry v.contents.blocks filled_nodes v.zones) n h.place.placed.number) there
        ∙ ap (λ nodes. record { volume = volume_of v.geometry w.contents.blocks nodes w.zones; touched = made.touched })
        (put_either (put_number v.contents.nodes n blank) parent n in_it child (in_order_put v.contents.nodes n blank order) apart
        ∙ ap (λ nodes. put_number nodes parent in_it) (put_twice v.contents.nodes n blank child order))))

    pub may_be_written : (u : VolumeNow) → u ≡ first.volume → MayWrite u parent slot at
    may_be_written u e =
        subst (λ u. MayWrite u parent slot at) (sym (e ∙ ap (λ (c : Change). c.volume) first_is))
        (subst (λ slot. MayWrite (entered_in w parent h.place.placed h.place.part s n) parent slot at) (sym same_slot)
        (subst (MayWrite (entered_in w parent h.place.placed h.place.part s n) parent s) (sym same_at) (may_write w parent name n room)))

    -- the name stands
    name_is : (u : VolumeNow) → u ≡ first.volume → name_written u parent slot at ≡ add_name w parent name n
    name_is u e =
        ap (λ u. name_written u parent slot at) (e ∙ ap (λ (c : Change). c.volume) first_is)
        ∙ (ap (λ slot. name_written (entered_in w parent h.place.placed h.place.part s n) parent slot at) same_slot
        ∙ (ap (name_written (entered_in w parent h.place.placed h.place.part s n) parent s) same_at
        ∙ named w parent h.place.placed h.place.part name n child (in_order_put v.contents.nodes n child order) stands h.place.is has (λ e. apart (sym e)) (wide w parent name n room)))

    -- the directory has as many links as before then
    pub parent_stays : (u x : VolumeNow) → u ≡ first.volume → x ≡ (name_written u parent slot at).volume → (p : Placed) → at_number x.contents.nodes parent ≡ Some p → (0 < p.number) × (p.inode.links < 255)
    parent_stays u x e f p found =
        let coming = name_comes 0 w room.in_use parent h.place.placed stands h.place.part h.place.is name n child has room.apart room.free room.no_dot room.entry room.settled room.slotted room.left room.enough in
        let here : at_number (add_name w parent name n).volume.contents.nodes parent ≡ Some p = ap (λ (x : VolumeNow). at_number x.contents.nodes parent) (sym (f ∙ ap (λ (c : Change). c.volume) (name_is u e))) ∙ found in
        let links : Some p.inode.links ≡ Some h.place.placed.inode.links =
        sym (ap (option_map (λ (p : Placed). p.inode.links)) here) ∙ (coming.links_are parent ∙ ap (option_map (λ (p : Placed). p.inode.links)) stands) in
        let same = same_Some p.inode.links h.place.placed.inode.links links in
        let few = h.links in
        ((coming.steady.in_use.volume.0.each parent p here).some, (omega arith))

    -- the call as the code does it
    pub made_as : followed_by first (λ u. followed_by (name_written u parent slot at) (λ w. more_links w parent)) ≡ mkdir_in v n parent name
    made_as =
        ap (λ c. followed_by c (λ u. followed_by (name_written u parent slot at) (λ w. more_links w parent))) first_is
        ∙ (ap (λ (c : Change). record { volume = (more_links c.volume parent).volume; touched = and_then made.touched (and_then c.touched (more_links c.volume parent).touched) })
        (name_is (entered_in w parent h.place.placed h.place.part s n) (sym (ap (λ (c : Change). c.volume) first_is)))
        ∙ ap (λ c. followed_by c (λ u. followed_by (add_name u parent name n) (λ w. set_links w parent (λ links. links + 1))))
        (sym (make_directory_is 0 v h.plain.in_use n none h.inode parent h.place.placed h.place.stands h.some_zone)))
