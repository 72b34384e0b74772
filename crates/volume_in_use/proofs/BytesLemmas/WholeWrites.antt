-- A whole write: what the code did is the call on the volume.
use Rattle.std.specs.Prelude.{◌≡◌, ℕ, suc, ◌+◌, ◌-◌, ◌*◌, ◌/◌, ◌<◌, ◌≤◌, nat_eq, List, [], length, Some, refl}
use Rattle.std.specs.List.{range_with_len}
use Rattle.std.proofs.Common.{sym, ap, subst, ◌∙◌, inl, inr, arith}
use Rattle.std.proofs.lemmas.Bool.{cases_Bool}
use Rattle.std.proofs.lemmas.Option.{same_Some}
use Rattle.byte_fields.specs.Fields.{zeros}
use Rattle.number_sets.specs.Sets.{with_all}
use Rattle.minix_layout.specs.Geometry.{IsSound}
use Rattle.tree_model.specs.Calls.{file_zones, max, patched, touched_blocks}
use Rattle.tree_model.specs.Maps.{at_number, put_number}
use Rattle.tree_model.specs.laws.MapsLaws.{at_put_number}
use Rattle.volume_ops.specs.Volume.{disk_of}
use Rattle.volume_ops.specs.declared.found.Mapped.{Mapped}
use Rattle.volume_model.specs.declared.placed.Placed.{Placed}
use Rattle.volume_model.specs.declared.placed.Part.TheVariants as parts
use Rattle.volume_model.specs.Counts.{indices_of}
use Rattle.volume_model.specs.Holes.{with_holes}
use Rattle.volume_model.specs.Touched.{Touched}
use Rattle.volume_model.specs.Volume.{block, zone_in}
use Rattle.volume_steps.specs.Calls.{write_at}
use Rattle.volume_steps.specs.Now.{VolumeNow, Change, untouched}
use Rattle.volume_steps.specs.Steps.{write_blocks}
use Rattle.volume_steps.proofs.Files.{put_twice}
use Rattle.volume_steps.proofs.Taking.{frees}
use Rattle.volume_steps.proofs.WriteCall.{touched_among}
use Rattle.volume_in_use.specs.declared.bytes.open.OpenFile.{OpenFile}
use Rattle.volume_in_use.specs.bytes.MayWrite.{MayWrite}
use Rattle.volume_in_use.specs.bytes.code.Work.{Work, blank, node_of, with_nodes, map_work, put_work, block_work, blocks_work, size_work}
use Rattle.volume_in_use.proofs.BytesLemmas.Sizes.{closed_work, closed_as}
use Rattle.volume_in_use.proofs.BytesLemmas.Writes.{IsDone, work_of, blocks_done}

-- ---- one turn of the loop over the blocks

map_keeps : (content : List ℕ) (index : ℕ) (w : Work) → ((map_work content index w).volume.geometry ≡ w.volume.geometry) × ((map_work content index w).file.number ≡ w.file.number)
unfolding map_work
map_keeps content index w = (refl, refl)

put_keeps : (content : List ℕ) (index zone : ℕ) (w : Work) → ((put_work content index zone w).volume.geometry ≡ w.volume.geometry) × ((put_work content index zone w).file.number ≡ w.file.number)
unfolding put_work
put_keeps content index zone w = (refl, refl)

block_keeps : (off : ℕ) (bytes : List ℕ) (index : ℕ) (w : Work) → ((block_work off bytes index w).volume.geometry ≡ w.volume.geometry) × ((block_work off bytes index w).file.number ≡ w.file.number)
block_keeps off bytes index w = elim (cases_Bool (nat_eq (zone_in w.volume.contents.blocks w.file.inode (block index)) 0)) [
  | inl y ↦ rw y (map_keeps (patched index off bytes (zeros 1024)) index w)
  | inr n ↦ rw n (put_keeps (patched index off bytes (disk_of w.volume.contents.blocks (zone_in w.volume.contents.blocks w.file.inode (block index)))) index (zone_in w.volume.contents.blocks w.file.inode (block index)) w)
]

-- what holds before each block
pub record IsTurn (off : ℕ) (bytes : List ℕ) (index end : ℕ) (all w : Work) (spare start : ℕ) : Type 0 where
  pub sound : IsSound w.volume.geometry
  pub number : 0 < w.file.number
  pub room : 10 * (end - index) ≤ spare
  pub left : start ≤ spare + 10 * (index - off / 1024)
  pub low : off / 1024 ≤ index
  pub work : blocks_work off bytes (range_with_len index (end - index)) w ≡ all

pub next_turn : (off : ℕ) (bytes : List ℕ) (index end : ℕ) (all w next : Work) (spare after start : ℕ) → index < end → IsTurn off bytes index end all w spare start → next ≡ block_work off bytes index w → spare ≤ after + 10 →
    IsTurn off bytes (index + 1) end all next after start
next_turn off bytes index end all w next spare after start low h e fewer =
    let kept = block_keeps off bytes index w in
    let room = h.room in
    let left = h.left in
    let above = h.low in
    record {
      sound = subst IsSound (sym (ap (λ (w : Work). w.volume.geometry) e ∙ kept.0)) h.sound;
      number = subst (λ k. 0 < k) (sym (ap (λ (w : Work). w.file.number) e ∙ kept.1)) h.number;
      room = (omega arith);
      left = (omega arith);
      low = (omega arith);
      work = ap (blocks_work off bytes (range_with_len (index + 1) (end - (index + 1)))) e
          ∙ (ap (λ k. blocks_work off bytes (range_with_len index k) w) (let n : suc (end - (index + 1)) ≡ end - index = omega arith in n) ∙ h.work);
    }

-- ---- the whole

-- another size leaves the nodes
pub size_keeps : (size : ℕ) (w : Work) → at_number (size_work size w).volume.contents.nodes (size_work size w).file.birth ≡ at_number w.volume.contents.nodes w.file.birth
unfolding size_work
size_keeps size w = elim (cases_Bool (nat_eq size w.file.inode.size)) [ inl y ↦ rw y refl | inr n ↦ rw n refl ]

module _ (v : VolumeNow) (birth off : ℕ) (bytes : List ℕ) (m : MayWrite v birth off (length bytes)) (file : OpenFile) (mine : file.birth ≡ birth) (at : at_number v.contents.nodes birth ≡ Some (node_of file)) where
  abbrev nodes : List (ℕ × Placed)
  nodes = put_number v.contents.nodes birth blank

  abbrev indices : List ℕ
  indices = touched_blocks off (length bytes)

  abbrev p : Placed
  p = node_of file

  room : file_zones (with_all (indices_of file.zones) indices) - file_zones (indices_of file.zones) ≤ frees v.zones
  room =
      let same : m.file.placed ≡ p = same_Some m.file.placed p (sym m.file.stands ∙ at) in
      let part : parts.File m.file.zones ≡ parts.File file.zones = sym m.file.is_file ∙ ap (λ (p : Placed). p.part) same in
      let zones : m.file.zones ≡ file.zones = cc part in
      subst (λ (zones : List Mapped). file_zones (with_all (indices_of zones) indices) - file_zones (indices_of zones) ≤ frees v.zones) zones m.enough

  abbrev c : Change
  c = write_blocks v birth off bytes indices

  pub done : IsDone v nodes birth c (blocks_work off bytes indices (work_of v nodes birth p file.zones indices untouched)) [] untouched
  done = blocks_done v m.in_use nodes birth p file.zones at refl off bytes indices (touched_among off (length bytes) m.fits) room untouched

  abbrev size : ℕ
  size = max done.placed.inode.size (off + length bytes)

  abbrev all : Work
  all = work_of c.volume nodes birth done.placed done.zones [] c.touched

  -- all blocks are written
  pub all_written : (u : VolumeNow) (holes : List Mapped) (mid : Touched) (count : ℕ) (two : Work) → u ≡ with_nodes v nodes → holes ≡ with_holes file.zones (range_with_len (off / 1024) count) →
      range_with_len (off / 1024) count ≡ indices → mid ≡ untouched →
      two ≡ blocks_work off bytes (range_with_len (off / 1024) count) (record { volume = u; file = record { birth = file.birth; number = file.number; inode = file.inode; zones = holes }; touched = mid }) → two ≡ all
  all_written u holes mid count two eu eh ec em ew =
      let start : List ℕ → Work = λ is. record { volume = with_nodes v nodes; file = record { birth = birth; number = file.number; inode = file.inode; zones = with_holes file.zones is }; touched = untouched } in
      ew
      ∙ ((λ k. blocks_work off bytes (range_with_len (off / 1024) count) (record { volume = eu k; file = record { birth = mine k; number = file.number; inode = file.inode; zones = eh k }; touched = em k }))
      ∙ (ap (λ (is : List ℕ). blocks_work off bytes is (start is)) ec ∙ done.same))

  -- ---- what the calls ask

  pub some_number : 0 < file.number
  some_number = (m.in_use.volume.0.each birth p at).some

  pub there_before : (u : VolumeNow) → u ≡ with_nodes v nodes → at_number u.contents.nodes file.birth ≡ Some blank
  there_before u e = ap (λ (u : VolumeNow). at_number u.contents.nodes file.birth) e ∙ (ap (at_number nodes) mine ∙ at_put_number v.contents.nodes birth blank)

  pub number_after : (two : Work) → two ≡ all → 0 < two.file.number
  number_after two e = subst (λ k. 0 < k) (sym (ap (λ (w : Work). w.file.number) e)) (done.in_use.volume.0.each birth done.placed done.stands).some

  pub there_after : (two three : Work) (size : ℕ) → two ≡ all → three ≡ size_work size two → at_number three.volume.contents.nodes three.file.birth ≡ Some blank
  there_after two three size e f =
      ap (λ (w : Work). at_number w.volume.contents.nodes w.file.birth) f
      ∙ (size_keeps size two ∙ (ap (λ (w : Work). at_number w.volume.contents.nodes w.file.birth) e ∙ at_put_number v.contents.nodes birth blank))

  -- the size that the code gives it
  pub write_closed : (two three : Work) (size : ℕ) → two ≡ all → size ≡ max two.file.inode.size (off + length bytes) → three ≡ size_work size two → closed_work three ≡ write_at v birth off bytes
  write_closed two three size e s f =
      let same : size ≡ max done.placed.inode.size (off + length bytes) = s ∙ ap (λ (w : Work). max w.file.inode.size (off + length bytes)) e in
      ap closed_work (f ∙ ap (size_work size) e)
      ∙ closed_as c.volume nodes birth done.placed done.zones done.stands done.is_file done.in_use.volume.0.in_order
      (λ r. put_twice v.contents.nodes birth blank r m.in_use.volume.0.in_order ∙ sym (done.puts r)) c.touched (λ size. max size (off + length bytes)) size same
