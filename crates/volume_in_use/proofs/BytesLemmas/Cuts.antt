-- What is done to an open file that is cut is what the steps of the cut do to the volume.
use Rattle.std.specs.Prelude.{◌≡◌, ℕ, suc, ◌/◌, ◌%◌, nat_eq, nat_lt, nat_le, ◌||◌, Bool, true, false, not, if◌then◌else◌, List, [], ◌∷◌, ◌++◌, length, map, filter, Some, refl, ◌≢◌}
use Rattle.std.specs.List.{list_any}
use Rattle.std.proofs.Common.{sym, ap, subst, ◌∙◌, inl, inr, append_assoc, arith, ⊎_elim}
use Rattle.std.proofs.lemmas.Bool.{cases_lt, lt-ltb, le-ltb, le-leb, lt-leb, ne_eqb}
use Rattle.std.proofs.lemmas.List.{append-nil}
use Rattle.tree_model.specs.Calls.{cut_body, file_zones}
use Rattle.tree_model.specs.Maps.{at_number}
use Rattle.tree_model.specs.laws.MapsLaws.{at_put_number}
use Rattle.volume_ops.specs.declared.found.Mapped.{Mapped}
use Rattle.volume_ops.specs.Places.{table_block}
use Rattle.volume_ops.specs.Volume.{disk_of}
use Rattle.volume_model.specs.declared.placed.Placed.{Placed}
use Rattle.volume_model.specs.declared.placed.Part.TheVariants as parts
use Rattle.volume_model.specs.Counts.{keeps_below, indices_of}
use Rattle.volume_model.specs.Cut.{cut_to, cuts, cut_edits, cut_told}
use Rattle.volume_model.specs.Edits.{Edit, edited_all, touched_by_all}
use Rattle.volume_model.specs.MapBlock.{OpenInode}
use Rattle.volume_model.specs.Moves.{page_of, numbers_gone, back_told}
use Rattle.volume_model.specs.Touched.{Page, Touched, and_then}
use Rattle.volume_model.specs.Volume.{Place, block, zone_in, IsFilePart, IsPart}
use Rattle.volume_model.specs.editing.Zones.{blocks_cut as blocks_gone, numbers_cut}
use Rattle.volume_in_use.proofs.NowLemmas.Notes.{and_nothing}
use Rattle.volume_steps.specs.Now.{VolumeNow, Change, unchanged}
use Rattle.volume_steps.specs.Plain.{IsInUse}
use Rattle.volume_steps.specs.Steps.{blocks_cut, cut_blocks, clear_tail, put_page, tells_node}
use Rattle.volume_steps.specs.Zones.{zone_bit}
use Rattle.volume_steps.proofs.CutStep.{cut_step, freed_apart}
use Rattle.volume_steps.proofs.FileSteps.{at_file_is}
use Rattle.volume_steps.proofs.Files.{put_twice}
use Rattle.volume_steps.proofs.Taking.{frees}
use Rattle.volume_in_use.specs.bytes.code.Cutting.{MayGive, all_freed, map_cut, cut_work, tail_work}
use Rattle.volume_in_use.specs.bytes.code.Work.{Work, with_nodes, put_work}
use Rattle.volume_in_use.proofs.BytesLemmas.Freeing.{may_give, all_come_to, bits_told, tells_gone, zones_of}
use Rattle.volume_in_use.proofs.BytesLemmas.Writes.{IsDone, no_more, nothing_done, work_of}
use Rattle.minix_tables.specs.declared.zones.zone_state.ZoneState.TheVariants as states
use Rattle.blk_base.specs.Members.{In}
use Rattle.blk_base.specs.laws.Members.{In-map, In-filter, In-append_cases}
use Rattle.minix_tables.specs.zones.Zones.{state_of}
use Rattle.volume_model.specs.laws.CutTells.{gone_is}
use Rattle.volume_model.specs.laws.Counts.{keep_below}
use Rattle.volume_model.specs.laws.Indexed.{file_indexed}

-- whether any blocks go
any_gone : (from : ℕ) (zones : List Mapped) → list_any (λ (m : Mapped). nat_le from m.index) zones ≡ not (nat_eq (length (blocks_gone zones from)) 0)
any_gone from [] = refl
any_gone from (m ∷ zones) = elim (cases_lt m.index from) [
  | inl low ↦ rw (lt-ltb m.index from low, lt-leb from m.index low) (any_gone from zones)
  | inr high ↦ rw (le-ltb m.index from high, le-leb from m.index high) (sym (ap not (ne_eqb (suc (length (blocks_gone zones from))) 0 (λ e. (omega arith)))))
]

pub numbers_same : (v : VolumeNow) (p : Placed) (keeps : Place → Bool) → numbers_cut v.contents.blocks p.inode keeps ≡ numbers_gone v.contents p keeps
unfolding numbers_cut
numbers_same v p keeps = refl

-- what is told, in one piece
told_as : (t : Touched) (bits freed revoked written table : List ℕ) (dropped : List Page) (n : ℕ) →
    and_then (and_then t (tells_gone bits freed revoked dropped)) (tells_node n (written ++ table)) ≡
    and_then t (and_then (record { blocks = bits; freed = []; revoked = []; pages = []; dropped = []; nodes = [] })
    (record { blocks = written ++ table; freed = freed; revoked = revoked; pages = []; dropped = dropped; nodes = n ∷ [] }))
told_as t bits freed revoked written table dropped n = simp (append_assoc, append-nil)

module _ (tx : ℕ) (v : VolumeNow) (h : IsInUse v) (nodes : List (ℕ × Placed)) (n : ℕ) (p : Placed) (zones : List Mapped) (at : at_number v.contents.nodes n ≡ Some p) (is : p.part ≡ parts.File zones) (from : ℕ) (t : Touched) where
  abbrev keeps : Place → Bool
  keeps = keeps_below (indices_of zones) from

  abbrev start : Work
  start = work_of v nodes n p zones [] t

  abbrev gone : List Mapped
  gone = blocks_gone zones from

  abbrev numbers : List ℕ
  numbers = numbers_gone v.contents p keeps

  abbrev written : List ℕ
  written = cut_told v.contents.blocks (λ x. zone_in v.contents.blocks p.inode x) keeps (cuts keeps from)

  -- a zone that goes is one of the file, so it is in use
  was_used : (z : ℕ) → In z (zones_of gone ++ numbers) → state_of v.zones z ≡ Some states.Used
  was_used z i = ⊎_elim
      (λ j.
      let w = In-map (λ (m : Mapped). m.zone) gone z j in
      let told = part.listed w.0 (In-filter (λ (m : Mapped). not (nat_lt m.index from)) zones w.0 w.1).0 in
      used (block w.0.index) z (told.0 ∙ w.2) (λ none. told.1 (w.2 ∙ none)))
      (λ j.
      let w = gone_is v.geometry h.sound v.contents.blocks v.contents.nodes n p h.volume.0 at from keeps (keep_below (λ x. zone_in v.contents.blocks p.inode x) (indices_of zones)
      (file_indexed v.geometry v.contents.blocks v.contents.nodes n p zones h.volume.0 at is (h.volume.1 n p at)) from) (h.volume.1 n p at) zones is z j in
      used w.0 z w.1 (λ none. w.2 (w.1 ∙ none)))
      (In-append_cases (zones_of gone) numbers z i)
    where
      part : IsFilePart v.contents.blocks p.inode zones
      part = subst (IsPart v.geometry v.contents.blocks p.inode) is (h.volume.0.each n p at).part

      used : (x : Place) (z : ℕ) → zone_in v.contents.blocks p.inode x ≡ z → z ≢ 0 → state_of v.zones z ≡ Some states.Used
      used x z e some = (h.used z).1 (record { birth = n; placed = p; place = x; stands = at; zone_is = e; some = some })

  -- the zones that go may go
  pub may_go : MayGive tx v.zones (zones_of gone ++ numbers)
  may_go = may_give tx (zones_of gone ++ numbers) v.zones (freed_apart tx v h n p zones at is from) was_used

  abbrev c : Change
  c = blocks_cut v tx n p zones keeps from

  abbrev es : List Edit
  es = map (zone_bit v.geometry false) (zones_of gone ++ numbers)

  abbrev u : OpenInode
  u = cut_to v.geometry keeps (record { blocks = edited_all v.geometry v.contents.blocks es; inode = p.inode }) from

  abbrev kept : List Mapped
  kept = filter (λ m. nat_lt m.index from) zones

  abbrev q : Placed
  q = record { number = p.number; inode = u.inode; part = parts.File kept }

  abbrev freed : Change
  freed = all_freed tx n gone numbers (record { volume = with_nodes v nodes; touched = t })

  cut_same : map_cut from written (record { volume = freed.volume; file = start.file; touched = freed.touched }) ≡ work_of c.volume nodes n q kept [] (and_then t c.touched)
  unfolding map_cut cut_to
  cut_same =
      ap (λ (c : Change). map_cut from written (record { volume = c.volume; file = start.file; touched = c.touched })) (all_come_to tx n gone numbers (record { volume = with_nodes v nodes; touched = t }))
      ∙ ap (λ (t : Touched). work_of c.volume nodes n q kept [] t) (told_as t (bits_told v.geometry (zones_of gone ++ numbers)) (zones_of gone ++ numbers) numbers written (back_told v.geometry p u.inode) (map (page_of n) gone) n)

  abbrev cut_of : Placed → List Mapped → Change
  cut_of p zones = if list_any (λ (m : Mapped). nat_le from m.index) zones then blocks_cut v tx n p zones (keeps_below (indices_of zones) from) from else unchanged v

  either : (b : Bool) → nat_eq (length gone) 0 ≡ b →
      IsDone v nodes n (if not b then c else unchanged v) (if b then start else map_cut from written (record { volume = freed.volume; file = start.file; touched = freed.touched })) [] t
  either true none = nothing_done v h nodes n p zones at is t
  either false some = record {
    placed = q;
    zones = kept;
    stands = at_put_number v.contents.nodes n q;
    is_file = refl;
    same = cut_same;
    puts = λ r. put_twice v.contents.nodes n q r h.volume.0.in_order;
    in_use = (cut_step tx v h n p zones at is from (any_gone from zones ∙ ap not some)).steady.in_use;
    room = no_more (file_zones (indices_of kept)) (frees c.volume.zones);
  }

  pub cut_done : IsDone v nodes n (cut_blocks v tx n from) (cut_work tx from gone numbers written start) [] t
  cut_done =
      let is_cut : cut_blocks v tx n from ≡ (if not (nat_eq (length gone) 0) then c else unchanged v) =
      at_file_is v n p zones cut_of at is ∙ ap (λ (b : Bool). if b then c else unchanged v) (any_gone from zones) in
      subst (λ c. IsDone v nodes n c (cut_work tx from gone numbers written start) [] t) (sym is_cut) (either (nat_eq (length gone) 0) refl)

-- ---- the block in which the size ends

module _ (v : VolumeNow) (nodes : List (ℕ × Placed)) (n : ℕ) (p : Placed) (zones : List Mapped) (at : at_number v.contents.nodes n ≡ Some p) (is : p.part ≡ parts.File zones) (size : ℕ) (t : Touched) where
  abbrev zone : ℕ
  zone = zone_in v.contents.blocks p.inode (block (size / 1024))

  abbrev work : Work
  work = work_of v nodes n p zones [] t

  abbrev content : List ℕ
  content = cut_body size (size / 1024) (disk_of v.contents.blocks zone)

  -- the nodes stay
  pub record IsCleared (c : Change) (w : Work) : Type 0 where
    pub same : w ≡ work_of c.volume nodes n p zones [] (and_then t c.touched)
    pub nodes_are : c.volume.contents.nodes ≡ v.contents.nodes

  put_same : put_work content (size / 1024) zone work ≡ work_of (put_page v n (size / 1024) zone content).volume nodes n p zones [] (and_then t (put_page v n (size / 1024) zone content).touched)
  unfolding put_work
  put_same = refl

  cleared : (b : Bool) → IsCleared (if b then unchanged v else put_page v n (size / 1024) zone content) (if b then work else put_work content (size / 1024) zone work)
  cleared true = record { same = ap (λ (t : Touched). work_of v nodes n p zones [] t) (sym (and_nothing t)); nodes_are = refl }
  cleared false = record { same = put_same; nodes_are = refl }

  abbrev cleared_by : Placed → List Mapped → Change
  cleared_by p zones =
      if nat_eq (size % 1024) 0 || nat_eq (zone_in v.contents.blocks p.inode (block (size / 1024))) 0 then unchanged v
      else put_page v n (size / 1024) (zone_in v.contents.blocks p.inode (block (size / 1024))) (cut_body size (size / 1024) (disk_of v.contents.blocks (zone_in v.contents.blocks p.inode (block (size / 1024)))))

  pub tail_done : IsCleared (clear_tail v n size) (tail_work size work)
  tail_done = subst (λ c. IsCleared c (tail_work size work)) (sym (at_file_is v n p zones cleared_by at is)) (cleared (nat_eq (size % 1024) 0 || nat_eq zone 0))
