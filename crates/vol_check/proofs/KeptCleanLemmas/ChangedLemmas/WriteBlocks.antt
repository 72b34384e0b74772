-- The blocks of a call that writes a file.
use Rattle.std.specs.Prelude.{◌≡◌, ◌≢◌, ◌≤◌, ◌+◌, ◌-◌, ℕ, nat_eq, Bool, true, false, if◌then◌else◌, List, [], ◌∷◌, length, Some, Ok, refl}
use Rattle.std.specs.Map.{keys_of}
use Rattle.std.proofs.Common.{sym, ap, subst, ◌∙◌, inl, inr, ⊎_elim, arith}
use Rattle.std.proofs.lemmas.Bool.{eqb-true, eqb-false}
use Rattle.std.proofs.lemmas.Option.{same_Some}
use Rattle.blk_base.specs.Members.{In}
use Rattle.blk_base.specs.laws.Members.{In-append_cases}
use Rattle.byte_fields.specs.Fields.{zeros}
use Rattle.byte_fields.specs.laws.ReadLaws.{length-zeros}
use Rattle.minix_layout.specs.declared.division.Geometry.{Geometry}
use Rattle.minix_layout.specs.declared.inode.Inode.{Inode}
use Rattle.tree_model.specs.declared.call.Call.{Call}
use Rattle.tree_model.specs.declared.node.File.{File}
use Rattle.tree_model.specs.declared.node.Node.TheVariants as nodes
use Rattle.tree_model.specs.Maps.{at_number, put_number}
use Rattle.tree_model.specs.Calls.{Done, outcome, row, write as write_row, patched, written_file, written_blocks, block_or_zeros, touched_blocks, max, largest_size, node_zones, used_zones, needs}
use Rattle.tree_model.proofs.Bytes.{patched_length}
use Rattle.volume_ops.specs.declared.found.Mapped.{Mapped}
use Rattle.volume_ops.specs.Places.{table_block}
use Rattle.volume_ops.specs.Volume.{disk_of}
use Rattle.volume_model.specs.declared.placed.Placed.{Placed}
use Rattle.volume_model.specs.declared.placed.Part.TheVariants as parts
use Rattle.volume_model.specs.Moves.{with_size}
use Rattle.volume_model.specs.Touched.{IsMeta}
use Rattle.volume_model.specs.Touched.IsMeta.{of_numbers}
use Rattle.volume_model.specs.Volume.{Place, block, indirect, double, inner, zone_in}
use Rattle.volume_model.specs.laws.Zones.{zones_kept}
use Rattle.minix_tables.specs.declared.zones.zone_state.ZoneState.TheVariants as states
use Rattle.minix_tables.specs.zones.Zones.{state_of}
use Rattle.volume_steps.specs.Now.{VolumeNow, Change, tree_of_now, room_of, followed_by}
use Rattle.volume_steps.specs.Plain.{IsInUse}
use Rattle.volume_steps.specs.Steps.{map_file_block, put_page, write_block, write_blocks, resize}
use Rattle.volume_steps.specs.Zones.{take_zones}
use Rattle.volume_steps.specs.Calls.{called, write}
use Rattle.volume_steps.specs.Called.{FindsRoom}
use Rattle.volume_steps.proofs.CallPaths.{done_row}
use Rattle.volume_steps.proofs.FileCalls.{needs_is}
use Rattle.volume_steps.proofs.FileSteps.{IsFileAt, file_at, at_file_is, file_stands}
use Rattle.volume_steps.proofs.Files.{put_twice}
use Rattle.volume_steps.proofs.PageStep.{page_step}
use Rattle.volume_steps.proofs.Taking.{frees, uses}
use Rattle.volume_steps.proofs.TreeSteps.{tree_in_order, used_put_more}
use Rattle.volume_steps.proofs.WriteCall.{IsFilePut, at_path_is, file_put, touched_among, put}
use Rattle.volume_steps.proofs.WriteSteps as steps
use Rattle.volume_steps.proofs.WriteSteps.{IsWriteStep, IsAmong, AreAt, with_block, with_blocks, block_written, blocks_written, room_same, written_length, written_any, zones_less}
use Rattle.vol_check.specs.kept_clean.changed.Changed.{HasChanged}
use Rattle.vol_check.proofs.KeptCleanLemmas.ChangedLemmas.Ends.{Ends, node_differs}
use Rattle.vol_check.proofs.KeptCleanLemmas.ChangedLemmas.MapBlocks.{IsRaised, raised_none, raised_then, map_raised}
use Rattle.vol_check.proofs.KeptCleanLemmas.ChangedLemmas.Rising.{Rises, Told, rises_then, told_changes, told_first}
use Rattle.vol_check.proofs.KeptCleanLemmas.ChangedLemmas.TruncateBlocks.{IsSized, sized}
use Rattle.volume_steps.proofs.AllCalls.{any_call}
use Rattle.vol_check.proofs.KeptCleanLemmas.ChangedLemmas.BareFrames.{IsBareNow}
use Rattle.vol_check.proofs.KeptCleanLemmas.ChangedLemmas.BareSteps.{page_bare, resize_bare}
use Rattle.vol_check.proofs.KeptCleanLemmas.ChangedLemmas.BareZones.{block_bare}

-- a size leaves the places
sized_zone : (blocks : List (List ℕ)) (i : Inode) (size : ℕ) (y : Place) → zone_in blocks (with_size i size) y ≡ zone_in blocks i y
sized_zone blocks i size (block index) = refl
sized_zone blocks i size indirect = refl
sized_zone blocks i size double = refl
sized_zone blocks i size (inner k) = refl

-- ---- a block that has a zone

module _ (tx : ℕ) (v : VolumeNow) (h : IsInUse v) (n : ℕ) (p : Placed) (zones : List Mapped) (at : at_number v.contents.nodes n ≡ Some p) (is : p.part ≡ parts.File zones)
    (content : List ℕ) (size : length content ≡ 1024) (index : ℕ) (some : zone_in v.contents.blocks p.inode (block index) ≢ 0) where
  abbrev paged : Change
  paged = put_page v n index (zone_in v.contents.blocks p.inode (block index)) content

  -- no metadata changes, so each place has its zone
  same_zones : (y : Place) → zone_in paged.volume.contents.blocks p.inode y ≡ zone_in v.contents.blocks p.inode y
  same_zones = zones_kept v.contents.blocks paged.volume.contents.blocks p.inode (λ x numbers there.
      let steady = (page_step tx v h n p zones at is content size index some).steady in
      let meta : IsMeta v.geometry v.contents (zone_in v.contents.blocks p.inode x) = of_numbers n p x at numbers refl there in
      steady.told.kept (zone_in v.contents.blocks p.inode x) (λ i. i) meta (⊎_elim (λ still. still) (λ gone. absurd gone) (steady.told.stays_or_revoked (zone_in v.contents.blocks p.inode x) meta)))

  page_raised : IsRaised v n p paged
  page_raised = record {
    placed = p;
    stands = at;
    size = refl;
    rises = record { number = refl; kept = λ y there. same_zones y; taken = λ y none there. absurd (there (same_zones y ∙ none)); free = λ z state. state; used = λ z state. state };
    geometry = refl;
    told = λ b i. absurd i;
  }

-- ---- a block is written

module _ (tx : ℕ) (v : VolumeNow) (h : IsInUse v) (n : ℕ) (f : File) (found : at_number (tree_of_now v) n ≡ Some (nodes.File f)) (off : ℕ) (bytes : List ℕ) (index : ℕ) (among : IsAmong off (length bytes) index)
    (room : used_zones (put_number (tree_of_now v) n (nodes.File (with_block f index (patched index off bytes (block_or_zeros (at_number f.blocks index)))))) ≤ uses v.zones + frees v.zones) where
  abbrev node : IsFileAt v n f
  node = steps.x tx v h n f found off bytes index among room

  abbrev blocks : List (List ℕ)
  blocks = v.contents.blocks

  abbrev zone : ℕ
  zone = zone_in blocks node.placed.inode (block index)

  abbrev fresh : List ℕ
  fresh = patched index off bytes (zeros 1024)

  enough : zone ≡ 0 → length (take_zones (λ y. zone_in blocks node.placed.inode y) index v.zones).numbers ≤ frees v.zones
  enough = steps.enough tx v h n f found off bytes index among room

  abbrev written_to : Placed → List Mapped → Change
  written_to p zones =
      if nat_eq (zone_in blocks p.inode (block index)) 0 then map_file_block v n p zones (patched index off bytes (zeros 1024)) index
      else put_page v n index (zone_in blocks p.inode (block index)) (patched index off bytes (disk_of blocks (zone_in blocks p.inode (block index))))

  block_raised : IsRaised v n node.placed (write_block v n off bytes index)
  block_raised = subst (IsRaised v n node.placed) (sym (at_file_is v n node.placed node.zones written_to node.stands node.is_file)) (by (nat_eq zone 0) refl)
    where
      by : (b : Bool) → nat_eq zone 0 ≡ b → IsRaised v n node.placed (if b then map_file_block v n node.placed node.zones fresh index else put_page v n index zone (patched index off bytes (disk_of blocks zone)))
      by true y =
          let hole = eqb-true _ _ y in
          map_raised v h n node.placed node.zones node.stands node.is_file fresh (patched_length index off bytes (zeros 1024) (length-zeros 1024) among.reaches among.begins) index among.low hole (enough hole)
      by false f = page_raised tx v h n node.placed node.zones node.stands node.is_file (patched index off bytes (disk_of blocks zone)) (patched_length index off bytes (disk_of blocks zone) (h.volume.0.whole zone) among.reaches among.begins) index (eqb-false _ _ f)

  block_stays_bare : IsBareNow v → IsBareNow (write_block v n off bytes index).volume
  block_stays_bare bare = subst (λ (c : Change). IsBareNow c.volume) (sym (at_file_is v n node.placed node.zones written_to node.stands node.is_file)) (by (nat_eq zone 0) refl)
    where
      by : (b : Bool) → nat_eq zone 0 ≡ b → IsBareNow (if b then map_file_block v n node.placed node.zones fresh index else put_page v n index zone (patched index off bytes (disk_of blocks zone))).volume
      by true y =
          let hole = eqb-true _ _ y in
          block_bare v h n node.placed node.zones node.stands node.is_file fresh (patched_length index off bytes (zeros 1024) (length-zeros 1024) among.reaches among.begins) index among.low hole (enough hole) bare
      by false f = page_bare v h n node.placed node.zones node.stands node.is_file (patched index off bytes (disk_of blocks zone)) (patched_length index off bytes (disk_of blocks zone) (h.volume.0.whole zone) among.reaches among.begins) index (eqb-false _ _ f) bare

-- ---- one block after the other

raised_as : (v : VolumeNow) (n : ℕ) (p q : Placed) (c : Change) → p ≡ q → IsRaised v n p c → IsRaised v n q c
raised_as v n p q c e r = subst (λ p. IsRaised v n p c) e r

blocks_raised : (tx : ℕ) (v : VolumeNow) (n : ℕ) (f : File) (off : ℕ) (bytes indices : List ℕ) → IsInUse v → at_number (tree_of_now v) n ≡ Some (nodes.File f) → ((i : ℕ) → In i indices → IsAmong off (length bytes) i) →
    used_zones (put_number (tree_of_now v) n (nodes.File (with_blocks f (written_blocks off bytes indices f.blocks)))) ≤ uses v.zones + frees v.zones → (p : Placed) → at_number v.contents.nodes n ≡ Some p →
    IsRaised v n p (write_blocks v n off bytes indices)
blocks_raised tx v n f off bytes [] h found among room p at = raised_none v n p at
blocks_raised tx v n f off bytes (i ∷ is) h found among room p at =
    let next = with_block f i (patched i off bytes (block_or_zeros (at_number f.blocks i))) in
    let last = with_blocks f (written_blocks off bytes (i ∷ is) f.blocks) in
    let order = tree_in_order v.contents.blocks v.contents.nodes h.volume.0.in_order in
    let sum = used_put_more (tree_of_now v) n (nodes.File f) (nodes.File next) order found in
    let all = used_put_more (tree_of_now v) n (nodes.File f) (nodes.File last) order found in
    let less : node_zones (nodes.File next) ≤ node_zones (nodes.File last) =
    zones_less (keys_of next.blocks) (keys_of last.blocks) (written_length off bytes is next.blocks) (written_any off bytes is next.blocks) in
    let fits : used_zones (put_number (tree_of_now v) n (nodes.File next)) ≤ uses v.zones + frees v.zones = omega arith in
    let one = block_written tx v h n f found off bytes i (among i (inl refl)) fits in
    let c = write_block v n off bytes i in
    let same = room_same tx v h n c next (λ birth at. (birth ≡ n) × (at ≡ i)) one in
    let twice : put_number (tree_of_now c.volume) n (nodes.File last) ≡ put_number (tree_of_now v) n (nodes.File last) =
    ap (λ tree. put_number tree n (nodes.File last)) one.step.tree ∙ put_twice (tree_of_now v) n (nodes.File next) (nodes.File last) order in
    let used : used_zones (put_number (tree_of_now c.volume) n (nodes.File last)) ≡ used_zones (put_number (tree_of_now v) n (nodes.File last)) = ap used_zones twice in
    let x = steps.x tx v h n f found off bytes i (among i (inl refl)) fits in
    let first = raised_as v n x.placed p c (same_Some x.placed p (sym x.stands ∙ at)) (block_raised tx v h n f found off bytes i (among i (inl refl)) fits) in
    raised_then v n p c (λ w. write_blocks w n off bytes is) first
    (blocks_raised tx c.volume n next off bytes is one.step.steady.in_use (file_stands tx v n c next (λ birth at. (birth ≡ n) × (at ≡ i)) one.step) (λ j k. among j (inr k)) (omega arith) first.placed first.stands)

blocks_bare : (tx : ℕ) (v : VolumeNow) (n : ℕ) (f : File) (off : ℕ) (bytes indices : List ℕ) → IsInUse v → at_number (tree_of_now v) n ≡ Some (nodes.File f) → ((i : ℕ) → In i indices → IsAmong off (length bytes) i) →
    used_zones (put_number (tree_of_now v) n (nodes.File (with_blocks f (written_blocks off bytes indices f.blocks)))) ≤ uses v.zones + frees v.zones → IsBareNow v → IsBareNow (write_blocks v n off bytes indices).volume
blocks_bare tx v n f off bytes [] h found among room bare = bare
blocks_bare tx v n f off bytes (i ∷ is) h found among room bare =
    let next = with_block f i (patched i off bytes (block_or_zeros (at_number f.blocks i))) in
    let last = with_blocks f (written_blocks off bytes (i ∷ is) f.blocks) in
    let order = tree_in_order v.contents.blocks v.contents.nodes h.volume.0.in_order in
    let sum = used_put_more (tree_of_now v) n (nodes.File f) (nodes.File next) order found in
    let all = used_put_more (tree_of_now v) n (nodes.File f) (nodes.File last) order found in
    let less : node_zones (nodes.File next) ≤ node_zones (nodes.File last) =
    zones_less (keys_of next.blocks) (keys_of last.blocks) (written_length off bytes is next.blocks) (written_any off bytes is next.blocks) in
    let fits : used_zones (put_number (tree_of_now v) n (nodes.File next)) ≤ uses v.zones + frees v.zones = omega arith in
    let one = block_written tx v h n f found off bytes i (among i (inl refl)) fits in
    let c = write_block v n off bytes i in
    let same = room_same tx v h n c next (λ birth at. (birth ≡ n) × (at ≡ i)) one in
    let twice : put_number (tree_of_now c.volume) n (nodes.File last) ≡ put_number (tree_of_now v) n (nodes.File last) =
    ap (λ tree. put_number tree n (nodes.File last)) one.step.tree ∙ put_twice (tree_of_now v) n (nodes.File next) (nodes.File last) order in
    let used : used_zones (put_number (tree_of_now c.volume) n (nodes.File last)) ≡ used_zones (put_number (tree_of_now v) n (nodes.File last)) = ap used_zones twice in
    blocks_bare tx c.volume n next off bytes is one.step.steady.in_use (file_stands tx v n c next (λ birth at. (birth ≡ n) × (at ≡ i)) one.step) (λ j k. among j (inr k)) (omega arith)
    (block_stays_bare tx v h n f found off bytes i (among i (inl refl)) fits bare)

-- ---- the call

module _ (tx : ℕ) (v : VolumeNow) (n : ℕ) (call : Call) (h : FindsRoom v n call) (path : List ℕ) (off : ℕ) (bytes : List ℕ) (d : Done) (done : outcome (room_of v.geometry) (tree_of_now v) n call ≡ Ok d)
    (wrote : row (tree_of_now v) n call ≡ write_row (tree_of_now v) path off bytes) where
  abbrev g : Geometry
  g = v.geometry

  abbrev in_use : IsInUse v
  in_use = h.plain.in_use

  called_row : row (tree_of_now v) n call ≡ Ok d
  called_row = (done_row (room_of v.geometry) (tree_of_now v) n call d done).0

  row_is : write_row (tree_of_now v) path off bytes ≡ Ok d
  row_is = sym wrote ∙ called_row

  needed : needs (tree_of_now v) n call ≡ used_zones d.tree - used_zones (tree_of_now v)
  needed = needs_is tx v n call d called_row

  room : used_zones d.tree ≤ uses v.zones + frees v.zones
  room = let counted = in_use.counted in let needs_are = needed in let enough = h.enough in omega arith

  file : IsFilePut (tree_of_now v) path (λ f. written_file f off bytes) d
  file = put tx v h.plain path off bytes d row_is room

  fits : off + length bytes ≤ largest_size
  fits = (file_put (tree_of_now v) path (off + length bytes) (λ f. written_file f off bytes) d row_is).1

  abbrev birth : ℕ
  birth = file.found.birth

  abbrev f : File
  f = file.file

  x : IsFileAt v birth f
  x = file_at v in_use birth f file.stands

  abbrev indices : List ℕ
  indices = touched_blocks off (length bytes)

  abbrev file_after : File
  file_after = written_file f off bytes

  abbrev mid : File
  mid = with_blocks f file_after.blocks

  mid_fits : used_zones (put_number (tree_of_now v) birth (nodes.File mid)) ≤ uses v.zones + frees v.zones
  mid_fits =
      let order = tree_in_order v.contents.blocks v.contents.nodes in_use.volume.0.in_order in
      let a = used_put_more (tree_of_now v) birth (nodes.File f) (nodes.File mid) order file.stands in
      let b = used_put_more (tree_of_now v) birth (nodes.File f) (nodes.File file_after) order file.stands in
      let same : node_zones (nodes.File mid) ≡ node_zones (nodes.File file_after) = refl in
      let all : used_zones d.tree ≡ used_zones (put_number (tree_of_now v) birth (nodes.File file_after)) = ap used_zones file.tree_is in
      let most = room in
      omega arith

  abbrev first : Change
  first = write_blocks v birth off bytes indices

  one : IsWriteStep tx v birth first mid (AreAt birth indices)
  one = blocks_written tx v birth f off bytes indices in_use file.stands (touched_among off (length bytes) fits) mid_fits

  raised : IsRaised v birth x.placed first
  raised = blocks_raised tx v birth f off bytes indices in_use file.stands (touched_among off (length bytes) fits) mid_fits x.placed x.stands

  abbrev last : Change
  last = resize first.volume birth (λ size. max size (off + length bytes))

  abbrev whole : Change
  whole = followed_by first (λ w. resize w birth (λ size. max size (off + length bytes)))

  abbrev size : ℕ
  size = max raised.placed.inode.size (off + length bytes)

  whole_changes : Ends tx v whole → HasChanged v whole
  whole_changes e b i was = elim (In-append_cases first.touched.blocks last.touched.blocks b i) [
    | inl j ↦ told_changes tx v whole e birth x.placed resized.placed x.stands resized.stands rises b (told b (raised.told b j)) was
    | inr j ↦
        let told = resized.told b j in
        subst (λ b. disk_of last.volume.contents.blocks b ≢ disk_of v.contents.blocks b) (sym (told.0 ∙ table_same))
        (node_differs tx v whole e birth x.placed resized.placed x.stands resized.stands (resized.number ∙ raised.rises.number) (λ same. told.1 (as_before (sym resized.inode ∙ same))))
  ]
    where
      resized : IsSized first.volume birth raised.placed (max raised.placed.inode.size (off + length bytes)) last
      resized = sized first.volume one.step.steady.in_use birth raised.placed raised.stands (λ size. max size (off + length bytes))

      table_same : table_block first.volume.geometry raised.placed.number ≡ table_block g x.placed.number
      table_same = ap (λ g. table_block g raised.placed.number) raised.geometry ∙ ap (table_block g) raised.rises.number

      -- a size that is told is another one than before
      as_before : with_size raised.placed.inode size ≡ x.placed.inode → with_size raised.placed.inode size ≡ raised.placed.inode
      as_before same = by (ap (λ (i : Inode). i.size) same ∙ sym raised.size)
        where
          by : size ≡ raised.placed.inode.size → with_size raised.placed.inode size ≡ raised.placed.inode
          by e = λ k. record { mode = raised.placed.inode.mode; uid = raised.placed.inode.uid; size = e k; time = raised.placed.inode.time; gid = raised.placed.inode.gid; links = raised.placed.inode.links; zones = raised.placed.inode.zones }

      -- the size tells no zone
      same_zones : (y : Place) → zone_in last.volume.contents.blocks resized.placed.inode y ≡ zone_in first.volume.contents.blocks raised.placed.inode y
      same_zones y =
          ap (λ i. zone_in last.volume.contents.blocks i y) resized.inode
          ∙ (sized_zone last.volume.contents.blocks raised.placed.inode size y
          ∙ zones_kept first.volume.contents.blocks last.volume.contents.blocks raised.placed.inode
          (λ x numbers there. resized.high (zone_in first.volume.contents.blocks raised.placed.inode x) ((one.step.steady.in_use.volume.0.each birth raised.placed raised.stands).zones x there).0) y)

      rises_last : Rises first.volume last.volume raised.placed resized.placed
      rises_last = record {
        number = resized.number;
        kept = λ y there. same_zones y;
        taken = λ y none there. absurd (there (same_zones y ∙ none));
        free = λ z state. subst (λ m. state_of m z ≡ Some states.Free) zones_same state;
        used = λ z state. subst (λ m. state_of m z ≡ Some states.Used) (sym zones_same) state;
      }
        where
          zones_same : last.volume.zones ≡ first.volume.zones
          zones_same = resized.zones

      rises : Rises v last.volume x.placed resized.placed
      rises = rises_then v first.volume last.volume x.placed raised.placed resized.placed raised.rises rises_last

      told : (b : ℕ) → Told v first.volume x.placed raised.placed b → Told v last.volume x.placed resized.placed b
      told b = told_first v first.volume last.volume x.placed raised.placed resized.placed rises_last b

  pub write_changes : (called v n tx call).change ≡ write v path off bytes → Ends tx v (called v n tx call).change → HasChanged v (called v n tx call).change
  write_changes same e =
      let is = same ∙ at_path_is v path file.found (λ birth. followed_by (write_blocks v birth off bytes indices) (λ w. resize w birth (λ size. max size (off + length bytes)))) file.walked in
      subst (HasChanged v) (sym is) (whole_changes (subst (Ends tx v) is e))

  -- The volume stays bare.
  pub write_bare : (called v n tx call).change ≡ write v path off bytes → IsBareNow v → IsBareNow (called v n tx call).change.volume
  write_bare same bare =
      let is = same ∙ at_path_is v path file.found (λ birth. followed_by (write_blocks v birth off bytes indices) (λ w. resize w birth (λ size. max size (off + length bytes)))) file.walked in
      let live : IsInUse last.volume = subst (λ (c : Change). IsInUse c.volume) is (any_call tx v n call h).steady.in_use in
      subst (λ (c : Change). IsBareNow c.volume) (sym is)
      (resize_bare first.volume one.step.steady.in_use birth raised.placed raised.stands (λ size. max size (off + length bytes)) live
      (blocks_bare tx v birth f off bytes indices in_use file.stands (touched_among off (length bytes) fits) mid_fits bare))
