-- A whole cut: what the code did is the call on the volume.
use Rattle.std.specs.Prelude.{◌≡◌, ℕ, ◌<◌, List, [], ◌++◌, Some, refl}
use Rattle.std.specs.Int.{div_ceil}
use Rattle.std.specs.List.Sorted.{IsStrictlySortedBy}
use Rattle.std.specs.Map.{keys_of}
use Rattle.std.specs.Ordering.{nat_cmp}
use Rattle.std.proofs.Common.{sym, ap, subst, ◌∙◌}
use Rattle.std.proofs.lemmas.Option.{same_Some}
use Rattle.minix_layout.specs.declared.division.Geometry.{Geometry}
use Rattle.minix_layout.specs.declared.inode.Inode.{Inode}
use Rattle.tree_model.specs.Maps.{at_number, put_number}
use Rattle.tree_model.specs.laws.MapsLaws.{at_put_number}
use Rattle.volume_ops.specs.declared.found.Mapped.{Mapped}
use Rattle.volume_model.specs.declared.placed.Placed.{Placed}
use Rattle.volume_model.specs.declared.placed.Part.TheVariants as parts
use Rattle.volume_model.specs.Counts.{keeps_below, indices_of}
use Rattle.volume_model.specs.Cut.{cuts, cut_edits, cut_told}
use Rattle.volume_model.specs.Edits.{touched_by_all}
use Rattle.volume_model.specs.Moves.{numbers_gone}
use Rattle.volume_model.specs.Touched.{Touched, and_then}
use Rattle.volume_model.specs.Volume.{zone_in}
use Rattle.volume_model.specs.declared.editing.freed.CutZones.{CutZones}
use Rattle.volume_model.specs.declared.editing.written.WrittenZones.{WrittenZones}
use Rattle.volume_model.specs.editing.Zones.{blocks_cut as blocks_gone, numbers_cut, written_list}
use Rattle.volume_in_use.proofs.NowLemmas.Notes.{and_assoc}
use Rattle.volume_steps.specs.Calls.{truncate_at}
use Rattle.volume_steps.specs.Now.{VolumeNow, Change, untouched}
use Rattle.volume_steps.specs.Steps.{cut_blocks, clear_tail, resize}
use Rattle.volume_steps.proofs.Files.{put_twice}
use Rattle.volume_in_use.specs.declared.bytes.open.OpenFile.{OpenFile}
use Rattle.volume_in_use.specs.bytes.MayWrite.{MayTruncate}
use Rattle.volume_in_use.specs.bytes.code.Cutting.{MayGive, cut_work, tail_work}
use Rattle.volume_in_use.specs.bytes.code.Listed.{IsListed}
use Rattle.volume_in_use.specs.bytes.code.Work.{Work, blank, node_of, with_nodes, size_work}
use Rattle.volume_in_use.proofs.BytesLemmas.Cuts.{IsCleared, cut_done, may_go, numbers_same, tail_done}
use Rattle.volume_in_use.proofs.BytesLemmas.Freeing.{zones_of}
use Rattle.volume_in_use.proofs.BytesLemmas.Sizes.{closed_work, closed_as}
use Rattle.volume_in_use.proofs.BytesLemmas.WholeWrites.{size_keeps}
use Rattle.volume_in_use.proofs.BytesLemmas.Writes.{IsDone, work_of}

-- the same of equal blocks and zones
pub told_moved : (blocks after : List (List ℕ)) (i : Inode) (zones next : List Mapped) (from : ℕ) (told : List ℕ) → blocks ≡ after → zones ≡ next →
    told ≡ cut_told blocks (λ x. zone_in blocks i x) (keeps_below (indices_of zones) from) (cuts (keeps_below (indices_of zones) from) from) →
    told ≡ cut_told after (λ x. zone_in after i x) (keeps_below (indices_of next) from) (cuts (keeps_below (indices_of next) from) from)
told_moved blocks after i zones next from told eb ez e =
    e ∙ (λ k. cut_told (eb k) (λ x. zone_in (eb k) i x) (keeps_below (indices_of (ez k)) from) (cuts (keeps_below (indices_of (ez k)) from) from))

module _ (v : VolumeNow) (tx birth size : ℕ) (m : MayTruncate v birth size) (gone : CutZones) (written : WrittenZones) (l : IsListed v birth (div_ceil size 1024) gone written) (file : OpenFile) (mine : file.birth ≡ birth)
    (at : at_number v.contents.nodes birth ≡ Some (node_of file)) where
  abbrev nodes : List (ℕ × Placed)
  nodes = put_number v.contents.nodes birth blank

  abbrev from : ℕ
  from = div_ceil size 1024

  abbrev p : Placed
  p = node_of file

  -- ---- what was listed is this file's

  placed_same : l.placed ≡ p
  placed_same = same_Some l.placed p (sym l.stands ∙ at)

  zones_same : l.zones ≡ file.zones
  zones_same = (let part : parts.File l.zones ≡ parts.File file.zones = sym l.is_file ∙ ap (λ (p : Placed). p.part) placed_same in cc part)

  blocks_are : gone.blocks.items ≡ blocks_gone file.zones from
  blocks_are = l.blocks ∙ ap (λ (zones : List Mapped). blocks_gone zones from) zones_same

  numbers_are : gone.numbers.items ≡ numbers_gone v.contents p (keeps_below (indices_of file.zones) from)
  numbers_are =
      l.numbers
      ∙ ((λ k. numbers_cut v.contents.blocks (placed_same k).inode (keeps_below (indices_of (zones_same k)) from)) ∙ numbers_same v p (keeps_below (indices_of file.zones) from))

  abbrev told_of : Placed → List Mapped → List ℕ
  told_of p zones = cut_told v.contents.blocks (λ x. zone_in v.contents.blocks p.inode x) (keeps_below (indices_of zones) from) (cuts (keeps_below (indices_of zones) from) from)

  written_are : written_list written ≡ told_of p file.zones
  written_are = l.told ∙ (λ k. told_of (placed_same k) (zones_same k))

  pub zones_may_go : MayGive tx v.zones (zones_of gone.blocks.items ++ gone.numbers.items)
  zones_may_go =
      subst (λ (ms : List Mapped). MayGive tx v.zones (zones_of ms ++ gone.numbers.items)) (sym blocks_are)
      (subst (λ (ns : List ℕ). MayGive tx v.zones (zones_of (blocks_gone file.zones from) ++ ns)) (sym numbers_are) (may_go tx v m.in_use nodes birth p file.zones at refl from untouched))

  -- ---- step by step

  abbrev c : Change
  c = cut_blocks v tx birth from

  pub cut : IsDone v nodes birth c (cut_work tx from (blocks_gone file.zones from) (numbers_gone v.contents p (keeps_below (indices_of file.zones) from)) (told_of p file.zones) (work_of v nodes birth p file.zones [] untouched)) [] untouched
  cut = cut_done tx v m.in_use nodes birth p file.zones at refl from untouched

  abbrev q : Placed
  q = cut.placed

  pub after_cut : (k : ℕ) (one two : Work) → k ≡ from → one.volume ≡ with_nodes v nodes → one.file ≡ file → one.touched ≡ untouched →
      two ≡ cut_work tx k gone.blocks.items gone.numbers.items (written_list written) one → two ≡ work_of c.volume nodes birth q cut.zones [] c.touched
  after_cut k one two ek ev ef et f =
      f
      ∙ ((λ i. cut_work tx (ek i) gone.blocks.items gone.numbers.items (written_list written) (record { volume = ev i; file = ef i; touched = et i }))
      ∙ ((λ k. cut_work tx from (blocks_are k) (numbers_are k) (written_are k) (record { volume = with_nodes v nodes; file = record { birth = mine k; number = file.number; inode = file.inode; zones = file.zones }; touched = untouched }))
      ∙ cut.same))

  abbrev d : Change
  d = clear_tail c.volume birth size

  pub tail : IsCleared c.volume nodes birth q cut.zones cut.stands cut.is_file size c.touched d (tail_work size (work_of c.volume nodes birth q cut.zones [] c.touched))
  tail = tail_done c.volume nodes birth q cut.zones cut.stands cut.is_file size c.touched

  pub after_tail : (two three : Work) → two ≡ work_of c.volume nodes birth q cut.zones [] c.touched → three ≡ tail_work size two → three ≡ work_of d.volume nodes birth q cut.zones [] (and_then c.touched d.touched)
  after_tail two three e f = f ∙ (ap (tail_work size) e ∙ tail.same)

  pub number_after : (two : Work) → two ≡ work_of c.volume nodes birth q cut.zones [] c.touched → 0 < two.file.number
  number_after two e = subst (λ k. 0 < k) (sym (ap (λ (w : Work). w.file.number) e)) (cut.in_use.volume.0.each birth q cut.stands).some

  pub there_after : (three four : Work) → three ≡ work_of d.volume nodes birth q cut.zones [] (and_then c.touched d.touched) → four ≡ size_work size three → at_number four.volume.contents.nodes four.file.birth ≡ Some blank
  there_after three four e f =
      ap (λ (w : Work). at_number w.volume.contents.nodes w.file.birth) f
      ∙ (size_keeps size three ∙ (ap (λ (w : Work). at_number w.volume.contents.nodes w.file.birth) e ∙ at_put_number v.contents.nodes birth blank))

  -- The file is cut.
  pub cut_closed : (three four : Work) → three ≡ work_of d.volume nodes birth q cut.zones [] (and_then c.touched d.touched) → four ≡ size_work size three → closed_work four ≡ truncate_at v tx birth size
  cut_closed three four e f =
      let last = (resize d.volume birth (λ old. size)).touched in
      ap closed_work (f ∙ ap (size_work size) e)
      ∙ (closed_as d.volume nodes birth q cut.zones (ap (λ (nodes : List (ℕ × Placed)). at_number nodes birth) tail.nodes_are ∙ cut.stands) cut.is_file
      (subst (λ (nodes : List (ℕ × Placed)). IsStrictlySortedBy nat_cmp (keys_of nodes)) (sym tail.nodes_are) cut.in_use.volume.0.in_order)
      (λ r. put_twice v.contents.nodes birth blank r m.in_use.volume.0.in_order ∙ (sym (cut.puts r) ∙ ap (λ (nodes : List (ℕ × Placed)). put_number nodes birth r) (sym tail.nodes_are)))
      (and_then c.touched d.touched) (λ old. size) size refl
      ∙ ap (λ (t : Touched). record { volume = (resize d.volume birth (λ old. size)).volume; touched = t }) (and_assoc c.touched d.touched last))
