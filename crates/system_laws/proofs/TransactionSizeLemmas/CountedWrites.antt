-- How many blocks a write tells: besides those of the map of zones and the one of the inode, the zones of numbers on the
-- way to its blocks, and these are at most four.
use Rattle.std.specs.Prelude.{◌≡◌, ◌≢◌, ◌⊎◌, ℕ, ◌+◌, ◌-◌, ◌/◌, ◌%◌, ◌<◌, ◌≤◌, ◌==◌, nat_eq, not, Bool, true, false, if◌then◌else◌, List, [], ◌∷◌, ◌++◌, length, map, filter, Some, Ok, refl}
use Rattle.std.specs.Map.{keys_of}
use Rattle.std.proofs.Common.{sym, ap, subst, ◌∙◌, inl, inr, ⊎_elim, arith, eq-eqb}
use Rattle.std.proofs.lemmas.Bool.{cases_lt, eqb-true, eqb-false, true≢false}
use Rattle.std.proofs.lemmas.Option.{same_Some}
use Rattle.blk_base.specs.Members.{In}
use Rattle.blk_base.specs.laws.Members.{In-append_cases, In-filter}
use Rattle.byte_fields.specs.Fields.{zeros}
use Rattle.byte_fields.specs.laws.ReadLaws.{length-zeros}
use Rattle.minix_layout.specs.declared.division.Geometry.{Geometry}
use Rattle.tree_model.specs.declared.call.Call.{Call}
use Rattle.tree_model.specs.declared.node.File.{File}
use Rattle.tree_model.specs.declared.node.Node.TheVariants as nodes
use Rattle.tree_model.specs.Calls.{Done, outcome, row, write as write_row, patched, written_file, written_blocks, block_or_zeros, touched_blocks, max, largest_size, node_zones, used_zones}
use Rattle.tree_model.specs.Maps.{at_number, put_number}
use Rattle.tree_model.specs.laws.MapsLaws.{at_put_number}
use Rattle.tree_model.proofs.Bytes.{patched_length}
use Rattle.volume_ops.specs.declared.found.Mapped.{Mapped}
use Rattle.volume_ops.specs.Places.{table_block}
use Rattle.volume_ops.specs.Volume.{disk_of}
use Rattle.volume_model.specs.declared.placed.Part.TheVariants as parts
use Rattle.volume_model.specs.declared.placed.Placed.{Placed}
use Rattle.volume_model.specs.Edits.{touched_by_all}
use Rattle.volume_model.specs.MapBlock.{OpenInode, own_of, taken_at, map_block, all_edits}
use Rattle.volume_model.specs.Moves.{AreFree, opened, back_told, file_mapped, with_mapped}
use Rattle.volume_model.specs.Touched.{Contents, IsMeta}
use Rattle.volume_model.specs.Touched.IsMeta.{of_numbers}
use Rattle.volume_model.specs.Volume.{Place, block, indirect, double, inner, zone_in, IsOfNumbers, at_indirect, at_double, at_inner}
use Rattle.volume_model.specs.Ways.{entry, home, way}
use Rattle.volume_model.specs.laws.Back.{told_table}
use Rattle.volume_model.specs.laws.MapTells.{mine as mine_mapped}
use Rattle.volume_model.specs.laws.OnWay.{way-direct, way-single, way-twice}
use Rattle.volume_model.specs.laws.Ways.{Range, direct, single, twice, past, range, home-direct, home-single, home-inner, home-twice}
use Rattle.volume_model.specs.laws.ZoneMoves.{fit_before}
use Rattle.volume_model.specs.laws.Zones.{zones_kept}
use Rattle.volume_steps.specs.Called.{FindsRoom}
use Rattle.volume_steps.specs.Calls.{called, write}
use Rattle.volume_steps.specs.Now.{VolumeNow, Change, tree_of_now, room_of, followed_by}
use Rattle.volume_steps.specs.Plain.{IsInUse}
use Rattle.volume_steps.specs.Steps.{map_file_block, put_page, write_block, write_blocks, resize}
use Rattle.volume_steps.specs.Zones.{TakenFor, take_zones, zone_bit}
use Rattle.volume_steps.proofs.CallPaths.{done_row}
use Rattle.volume_steps.proofs.FileCalls.{needs_is}
use Rattle.volume_steps.proofs.FileSteps.{IsFileAt, file_at, at_file_is, file_stands}
use Rattle.volume_steps.proofs.Files.{put_twice}
use Rattle.volume_steps.proofs.PageStep.{page_step}
use Rattle.volume_steps.proofs.Taking.{frees, uses}
use Rattle.volume_steps.proofs.TakeZones.{numbers_are_zones}
use Rattle.volume_steps.proofs.TreeSteps.{tree_in_order, used_put_more}
use Rattle.volume_steps.proofs.WriteCall.{IsFilePut, at_path_is, file_put, touched_among, put}
use Rattle.volume_steps.proofs.WriteSteps as steps
use Rattle.volume_steps.proofs.WriteSteps.{IsWriteStep, IsAmong, AreAt, with_block, with_blocks, block_written, blocks_written, room_same, written_length, written_any, zones_less}
use Rattle.vol_check.proofs.KeptCleanLemmas.ChangedLemmas.Filling.{way_fills}
use Rattle.vol_check.proofs.KeptCleanLemmas.ChangedLemmas.MapRaises as raises
use Rattle.system_laws.proofs.TransactionSizeLemmas.Counted.{InMap, Counted, fit_in_use, bits_in_map, counted_more, counted_then}
use Rattle.system_laws.proofs.TransactionSizeLemmas.CountedSteps.{resize_counted}

-- ---- zones of numbers on a way

-- a zone of numbers on the way to block `index` is this block
record NumbersOn (zone_of : Place → ℕ) (index b : ℕ) : Type 0 where
  place : Place
  on : In place (way index)
  numbers : IsOfNumbers place
  is : zone_of place ≡ b
  some : b ≢ 0

same_place : (h x : Place) (j k : ℕ) → entry h j ≡ entry x k → h ≡ x
same_place h x j k e = cc

-- where a number is written on the way to a block, a zone of numbers on that way has it
numbers_on_way : (index : ℕ) → index < 262663 → (y h : Place) (k : ℕ) → In y (way index) → home y ≡ entry h k → In h (way index) × IsOfNumbers h
numbers_on_way index high y h k i at = elim (range index) [
  | direct low ↦ (elim (subst (In y) (way-direct index low) i) [
    | inl e ↦ absurd (cc (sym (home-direct index low) ∙ (ap home e ∙ at)))
    | inr n ↦ absurd n
  ])
  | single low up ↦ (elim (subst (In y) (way-single index low up) i) [
    | inl e ↦ absurd (cc (ap home e ∙ at))
    | inr more ↦ elim more [
      | inl e ↦
          let same = same_place indirect h (index - 7) k (sym (home-single index low up) ∙ (ap home e ∙ at)) in
          subst (λ h. In h (way index) × IsOfNumbers h) same (subst (In indirect) (sym (way-single index low up)) (inl refl), at_indirect)
      | inr n ↦ absurd n
    ]
  ])
  | twice low up ↦ (elim (subst (In y) (way-twice index low up) i) [
    | inl e ↦ absurd (cc (ap home e ∙ at))
    | inr more ↦ elim more [
      | inl e ↦
          let same = same_place double h ((index - 519) / 512) k (sym (home-inner ((index - 519) / 512) (omega (arith, low, up))) ∙ (ap home e ∙ at)) in
          subst (λ h. In h (way index) × IsOfNumbers h) same (subst (In double) (sym (way-twice index low up)) (inl refl), at_double)
      | inr last ↦ elim last [
        | inl e ↦
            let same = same_place (inner ((index - 519) / 512)) h ((index - 519) % 512) k (sym (home-twice index low up) ∙ (ap home e ∙ at)) in
            subst (λ h. In h (way index) × IsOfNumbers h) same (subst (In (inner ((index - 519) / 512))) (sym (way-twice index low up)) (inr (inl refl)), at_inner)
        | inr n ↦ absurd n
      ]
    ]
  ])
  | past low ↦ absurd (omega (arith, low, high))
]

-- ---- why a block is told

-- it is of the map of zones, has the inode of this number, or is a zone of numbers on the way to one of these blocks
data Why (g : Geometry) (number : ℕ) (zone_of : Place → ℕ) (indices : List ℕ) (b : ℕ) : Type 0 where
  of_map : InMap g b → Why g number zone_of indices b
  of_inode : table_block g number ≡ b → Why g number zone_of indices b
  of_numbers_on : (i : ℕ) → In i indices → NumbersOn zone_of i b → Why g number zone_of indices b

abbrev own : VolumeNow → Placed → Place → ℕ
own v p x = zone_in v.contents.blocks p.inode x

-- a node only gets zones, on the way to these blocks
record IsRun (v : VolumeNow) (n : ℕ) (p : Placed) (c : Change) (indices : List ℕ) : Type 0 where
  placed : Placed
  stands : at_number c.volume.contents.nodes n ≡ Some placed
  number : placed.number ≡ p.number
  kept : (x : Place) → own v p x ≢ 0 → own c.volume placed x ≡ own v p x
  geometry : c.volume.geometry ≡ v.geometry
  told : (b : ℕ) → In b c.touched.blocks → Why v.geometry p.number (own c.volume placed) indices b

run_then : (v : VolumeNow) (n : ℕ) (p : Placed) (c : Change) (next : VolumeNow → Change) (i : ℕ) (indices : List ℕ) → (one : IsRun v n p c (i ∷ [])) → IsRun c.volume n one.placed (next c.volume) indices →
    IsRun v n p (followed_by c next) (i ∷ indices)
run_then v n p c next i indices one two = record {
  placed = two.placed;
  stands = two.stands;
  number = two.number ∙ one.number;
  kept = λ x some. two.kept x (λ none. some (sym (one.kept x some) ∙ none)) ∙ one.kept x some;
  geometry = two.geometry ∙ one.geometry;
  told = λ b j. elim (In-append_cases c.touched.blocks (next c.volume).touched.blocks b j) [ inl k ↦ first b (one.told b k) | inr k ↦ later b (two.told b k) ];
}
  where
    last : Place → ℕ
    last = own (next c.volume).volume two.placed

    first : (b : ℕ) → Why v.geometry p.number (own c.volume one.placed) (i ∷ []) b → Why v.geometry p.number last (i ∷ indices) b
    first b (of_map m) = of_map m
    first b (of_inode e) = of_inode e
    first b (of_numbers_on k (inl e) n) = of_numbers_on k (inl e) (record { place = n.place; on = n.on; numbers = n.numbers; is = two.kept n.place (λ none. n.some (sym n.is ∙ none)) ∙ n.is; some = n.some })
    first b (of_numbers_on k (inr z) n) = absurd z

    later : (b : ℕ) → Why c.volume.geometry one.placed.number last indices b → Why v.geometry p.number last (i ∷ indices) b
    later b (of_map m) = of_map (subst (λ g. InMap g b) one.geometry m)
    later b (of_inode e) = of_inode (ap (table_block v.geometry) (sym one.number) ∙ subst (λ g. table_block g one.placed.number ≡ b) one.geometry e)
    later b (of_numbers_on k among n) = of_numbers_on k (inr among) n

-- ---- a block is mapped

module _ (v : VolumeNow) (h : IsInUse v) (n : ℕ) (p : Placed) (at : at_number v.contents.nodes n ≡ Some p) (content : List ℕ) (size : length content ≡ 1024) (index : ℕ) (high : index < 262663)
    (enough : length (take_zones (own v p) index v.zones).numbers ≤ frees v.zones) where
  abbrev taken : TakenFor
  taken = take_zones (own v p) index v.zones

  abbrev marked : Contents
  marked = raises.c v h n p at content size index high enough

  abbrev made : OpenInode
  made = raises.u v h n p at content size index high enough

  abbrev zones_free : AreFree v.geometry marked.blocks marked.nodes p.inode taken.taken (way index)
  zones_free = raises.free v h n p at content size index high enough

  abbrev on_way : List ℕ
  on_way = touched_by_all v.geometry (all_edits v.geometry taken.taken content (opened marked p) (way index))

  -- blocks of which the node has its new inode in these contents
  module _ (w : Contents) (mine : (x : Place) → zone_in w.blocks made.inode x ≡ own_of made x) where
    taken_told : (b : ℕ) (y : Place) → In y (way index) → zone_in marked.blocks p.inode y ≡ 0 → taken_at taken.taken y ≡ b → b ≢ taken.taken.data_zone → NumbersOn (zone_in w.blocks made.inode) index b
    taken_told b y i none e other =
        numbers y i e (mine y ∙ (raises.outcome v h n p at content size index high enough).got.taken y i none ∙ e) (λ zero. zones_free.some y i none (e ∙ zero))
      where
        numbers : (y : Place) → In y (way index) → taken_at taken.taken y ≡ b → zone_in w.blocks made.inode y ≡ b → b ≢ 0 → NumbersOn (zone_in w.blocks made.inode) index b
        numbers (block k) i e now some = absurd (other (sym e))
        numbers indirect i e now some = record { place = indirect; on = i; numbers = at_indirect; is = now; some = some }
        numbers double i e now some = record { place = double; on = i; numbers = at_double; is = now; some = some }
        numbers (inner k) i e now some = record { place = inner k; on = i; numbers = at_inner; is = now; some = some }

    way_told : (b : ℕ) → In b (filter (λ b. not (b == taken.taken.data_zone)) on_way) → NumbersOn (zone_in w.blocks made.inode) index b
    unfolding map_block
    way_told b i =
        let j = In-filter (λ b. not (b == taken.taken.data_zone)) on_way b i in
        let volume = raises.volume v h n p at content size index high enough in
        let f = way_fills v.geometry h.sound taken.taken content size index high (opened marked p) (fit_before v.geometry h.sound marked.blocks marked.nodes n p volume.0 at)
        (record { some = zones_free.some; low = zones_free.low; high = zones_free.high; fits = zones_free.fits; fresh = λ x y i none. zones_free.free n p x y at i none; differ = zones_free.differ }) b j.0 in
        elim f.3 [
          | inl e ↦ taken_told b f.0 f.1 f.2 e (λ same. true≢false (sym j.1 ∙ ap not (eq-eqb b taken.taken.data_zone same)))
          | inr m ↦
              let on = numbers_on_way index high f.0 m.0 m.1 f.1 m.2 in
              record { place = m.0; on = on.0; numbers = on.1; is = mine m.0 ∙ m.4; some = λ zero. m.3 (m.4 ∙ zero) }
        ]

  module _ (zones : List Mapped) (is : p.part ≡ parts.File zones) (hole : own v p (block index) ≡ 0) where
    abbrev w : Contents
    w = file_mapped v.geometry marked n p zones taken.taken content index

    mine : (x : Place) → zone_in w.blocks made.inode x ≡ own_of made x
    mine =
        let volume = raises.volume v h n p at content size index high enough in
        mine_mapped v.geometry h.sound marked.blocks marked.nodes n p volume.0 at taken.taken content size index high zones_free zones is (raises.own_kept v h n p at content size index high enough (block index) ∙ hole)

    mapped_run : IsRun v n p (map_file_block v n p zones content index) (index ∷ [])
    mapped_run = record {
      placed = record { number = p.number; inode = made.inode; part = parts.File (with_mapped zones index taken.taken.data_zone) };
      stands = at_put_number v.contents.nodes n _;
      number = refl;
      kept = (raises.rises v h n p at content size index high enough w (parts.File (with_mapped zones index taken.taken.data_zone)) mine).kept;
      geometry = refl;
      told = λ b i. elim (In-append_cases (touched_by_all v.geometry (map (zone_bit v.geometry true) taken.numbers)) (filter (λ b. not (b == taken.taken.data_zone)) on_way ++ back_told v.geometry p made.inode) b i) [
        | inl j ↦ of_map (bits_in_map v.geometry h.sound true taken.numbers (λ z k. (numbers_are_zones v h p.inode index enough z k).1) b j)
        | inr more ↦ elim (In-append_cases (filter (λ b. not (b == taken.taken.data_zone)) on_way) (back_told v.geometry p made.inode) b more) [
          | inl j ↦ of_numbers_on index (inl refl) (way_told w mine b j)
          | inr j ↦ of_inode (sym (told_table v.geometry p made.inode b j))
        ]
      ];
    }

-- ---- a block that has a zone

module _ (tx : ℕ) (v : VolumeNow) (h : IsInUse v) (n : ℕ) (p : Placed) (zones : List Mapped) (at : at_number v.contents.nodes n ≡ Some p) (is : p.part ≡ parts.File zones)
    (content : List ℕ) (size : length content ≡ 1024) (index : ℕ) (some : zone_in v.contents.blocks p.inode (block index) ≢ 0) where
  abbrev paged : Change
  paged = put_page v n index (zone_in v.contents.blocks p.inode (block index)) content

  -- what is written is no metadata
  numbers_stay : (x : Place) → IsOfNumbers x → own v p x ≢ 0 → disk_of paged.volume.contents.blocks (own v p x) ≡ disk_of v.contents.blocks (own v p x)
  numbers_stay x numbers there =
      let told = (page_step tx v h n p zones at is content size index some).steady.told in
      let was : IsMeta v.geometry v.contents (own v p x) = of_numbers n p x at numbers refl there in
      told.kept (own v p x) (λ i. i) was (⊎_elim (λ stays. stays) (λ gone. absurd gone) (told.stays_or_revoked (own v p x) was))

  places_stay : (x : Place) → own paged.volume p x ≡ own v p x
  places_stay = zones_kept v.contents.blocks paged.volume.contents.blocks p.inode numbers_stay

  paged_run : IsRun v n p paged (index ∷ [])
  paged_run = record {
    placed = p;
    stands = at;
    number = refl;
    kept = λ x there. places_stay x;
    geometry = refl;
    told = λ b i. absurd i;
  }

-- ---- a block is written

module _ (tx : ℕ) (v : VolumeNow) (h : IsInUse v) (n : ℕ) (f : File) (found : at_number (tree_of_now v) n ≡ Some (nodes.File f)) (off : ℕ) (bytes : List ℕ) (index : ℕ) (among : IsAmong off (length bytes) index)
    (room : used_zones (put_number (tree_of_now v) n (nodes.File (with_block f index (patched index off bytes (block_or_zeros (at_number f.blocks index)))))) ≤ uses v.zones + frees v.zones) where
  abbrev file : IsFileAt v n f
  file = steps.x tx v h n f found off bytes index among room

  abbrev over_hole : List ℕ
  over_hole = patched index off bytes (zeros 1024)

  abbrev over_page : List ℕ
  over_page = patched index off bytes (disk_of v.contents.blocks (own v file.placed (block index)))

  written_run : (b : Bool) → nat_eq (own v file.placed (block index)) 0 ≡ b →
      IsRun v n file.placed (if b then map_file_block v n file.placed file.zones over_hole index else put_page v n index (own v file.placed (block index)) over_page) (index ∷ [])
  written_run true y =
      let hole = eqb-true _ _ y in
      let size = patched_length index off bytes (zeros 1024) (length-zeros 1024) among.reaches among.begins in
      mapped_run v h n file.placed file.stands over_hole size index among.low (steps.enough tx v h n f found off bytes index among room hole) file.zones file.is_file hole
  written_run false q =
      let size = patched_length index off bytes (disk_of v.contents.blocks (own v file.placed (block index))) (h.volume.0.whole (own v file.placed (block index))) among.reaches among.begins in
      paged_run tx v h n file.placed file.zones file.stands file.is_file over_page size index (eqb-false _ _ q)

  block_run : (p : Placed) → at_number v.contents.nodes n ≡ Some p → IsRun v n p (write_block v n off bytes index) (index ∷ [])
  block_run p at = subst (λ p. IsRun v n p (write_block v n off bytes index) (index ∷ [])) (same_Some file.placed p (sym file.stands ∙ at))
      (subst (λ c. IsRun v n file.placed c (index ∷ [])) (sym (at_file_is v n file.placed file.zones _ file.stands file.is_file)) (written_run (nat_eq (own v file.placed (block index)) 0) refl))

-- ---- one block after the other

-- there are zones for all blocks that are written to file `n`
abbrev HasZonesFor : VolumeNow → ℕ → File → ℕ → List ℕ → List ℕ → Type 0
HasZonesFor v n f off bytes indices = used_zones (put_number (tree_of_now v) n (nodes.File (with_blocks f (written_blocks off bytes indices f.blocks)))) ≤ uses v.zones + frees v.zones

-- so there are for the first, and when that is written for those behind it
module _ (tx : ℕ) (v : VolumeNow) (h : IsInUse v) (n : ℕ) (f : File) (found : at_number (tree_of_now v) n ≡ Some (nodes.File f)) (off : ℕ) (bytes : List ℕ) (i : ℕ) (is : List ℕ) (room : HasZonesFor v n f off bytes (i ∷ is)) where
  abbrev next : File
  next = with_block f i (patched i off bytes (block_or_zeros (at_number f.blocks i)))

  first_fits : used_zones (put_number (tree_of_now v) n (nodes.File next)) ≤ uses v.zones + frees v.zones
  first_fits =
      let order = tree_in_order v.contents.blocks v.contents.nodes h.volume.0.in_order in
      let whole = written_blocks off bytes (i ∷ is) f.blocks in
      let one = used_put_more (tree_of_now v) n (nodes.File f) (nodes.File next) order found in
      let all = used_put_more (tree_of_now v) n (nodes.File f) (nodes.File (with_blocks f whole)) order found in
      let fewer = zones_less (keys_of next.blocks) (keys_of whole) (written_length off bytes is next.blocks) (written_any off bytes is next.blocks) in
      omega (arith, room, one, all, fewer)

  rest_fits : IsWriteStep tx v n (write_block v n off bytes i) next (λ birth at. (birth ≡ n) × (at ≡ i)) → HasZonesFor (write_block v n off bytes i).volume n next off bytes is
  rest_fits step =
      let order = tree_in_order v.contents.blocks v.contents.nodes h.volume.0.in_order in
      let last = nodes.File (with_blocks f (written_blocks off bytes (i ∷ is) f.blocks)) in
      let kept = room_same tx v h n (write_block v n off bytes i) next (λ birth at. (birth ≡ n) × (at ≡ i)) step in
      let used = ap used_zones (ap (λ tree. put_number tree n last) step.step.tree ∙ put_twice (tree_of_now v) n (nodes.File next) last order) in
      omega (arith, room, kept, used)

blocks_run : (tx : ℕ) (v : VolumeNow) (n : ℕ) (f : File) (off : ℕ) (bytes indices : List ℕ) → IsInUse v → at_number (tree_of_now v) n ≡ Some (nodes.File f) → ((i : ℕ) → In i indices → IsAmong off (length bytes) i) →
    HasZonesFor v n f off bytes indices → (p : Placed) → at_number v.contents.nodes n ≡ Some p → IsRun v n p (write_blocks v n off bytes indices) indices
blocks_run tx v n f off bytes [] h found among room p at = record { placed = p; stands = at; number = refl; kept = λ x some. refl; geometry = refl; told = λ b i. absurd i }
blocks_run tx v n f off bytes (i ∷ is) h found among room p at =
    let c = write_block v n off bytes i in
    let fits = first_fits tx v h n f found off bytes i is room in
    let step = block_written tx v h n f found off bytes i (among i (inl refl)) fits in
    let first = block_run tx v h n f found off bytes i (among i (inl refl)) fits p at in
    run_then v n p c (λ w. write_blocks w n off bytes is) i is first
    (blocks_run tx c.volume n _ off bytes is step.step.steady.in_use (file_stands tx v n c _ (λ birth at. (birth ≡ n) × (at ≡ i)) step.step) (λ j k. among j (inr k)) (rest_fits tx v h n f found off bytes i is room step) first.placed first.stands)

-- ---- few zones of numbers lie on the way to few blocks

-- the zones of numbers on the way to 66 blocks from `from` on
abbrev numbers_from : (Place → ℕ) → ℕ → List ℕ
numbers_from zone_of from = zone_of indirect ∷ zone_of double ∷ zone_of (inner ((from - 519) / 512)) ∷ zone_of (inner ((from - 519) / 512 + 1)) ∷ []

inner_near : (from index : ℕ) → 519 ≤ index → from ≤ index → index < from + 66 → ((index - 519) / 512 ≡ (from - 519) / 512) ⊎ ((index - 519) / 512 ≡ (from - 519) / 512 + 1)
inner_near from index low after near = elim (cases_lt ((index - 519) / 512) ((from - 519) / 512 + 1)) [
  | inl few ↦ inl (omega (arith, low, after, near, few))
  | inr more ↦ inr (omega (arith, low, after, near, more))
]

module _ (zone_of : Place → ℕ) (from index b : ℕ) (after : from ≤ index) (near : index < from + 66) where
  no_block : (k : ℕ) → IsOfNumbers (block k) → ⊥
  no_block k n = elim n [ ]

  in_inner : 519 ≤ index → zone_of (inner ((index - 519) / 512)) ≡ b → In b (numbers_from zone_of from)
  in_inner low is = elim (inner_near from index low after near) [
    | inl same ↦ inr (inr (inl (ap (λ k. zone_of (inner k)) (sym same) ∙ is)))
    | inr next ↦ inr (inr (inr (inl (ap (λ k. zone_of (inner k)) (sym next) ∙ is))))
  ]

  in_numbers : index < 262663 → NumbersOn zone_of index b → In b (numbers_from zone_of from)
  in_numbers high n = by (range index)
    where
      by : Range index → In b (numbers_from zone_of from)
      by (direct low) = elim (subst (In n.place) (way-direct index low) n.on) [ inl e ↦ absurd (no_block index (subst IsOfNumbers (sym e) n.numbers)) | inr z ↦ absurd z ]
      by (single low up) = elim (subst (In n.place) (way-single index low up) n.on) [
        | inl e ↦ inl (ap zone_of e ∙ n.is)
        | inr more ↦ elim more [ inl e ↦ absurd (no_block index (subst IsOfNumbers (sym e) n.numbers)) | inr z ↦ absurd z ]
      ]
      by (twice low up) = elim (subst (In n.place) (way-twice index low up) n.on) [
        | inl e ↦ inr (inl (ap zone_of e ∙ n.is))
        | inr more ↦ elim more [
          | inl e ↦ in_inner low (ap zone_of e ∙ n.is)
          | inr last ↦ elim last [ inl e ↦ absurd (no_block index (subst IsOfNumbers (sym e) n.numbers)) | inr z ↦ absurd z ]
        ]
      ]
      by (past low) = absurd (omega (arith, low, high))

-- ---- the call

-- nothing is in a list of no length
none_in : (xs : List ℕ) → ((b : ℕ) → In b xs → ⊥) → length xs ≤ 0
none_in [] none = omega arith
none_in (x ∷ xs) none = absurd (none x (inl refl))

-- the blocks of at most 65,536 bytes are written to file `n`
module _ (tx : ℕ) (v : VolumeNow) (h : IsInUse v) (n : ℕ) (f : File) (found : at_number (tree_of_now v) n ≡ Some (nodes.File f)) (off : ℕ) (bytes : List ℕ) (short : length bytes ≤ 65536) (fits : off + length bytes ≤ largest_size)
    (room : HasZonesFor v n f off bytes (touched_blocks off (length bytes))) where
  abbrev whole : Change
  whole = write_blocks v n off bytes (touched_blocks off (length bytes))

  abbrev node : IsFileAt v n f
  node = file_at v h n f found

  run : IsRun v n node.placed whole (touched_blocks off (length bytes))
  run = blocks_run tx v n f off bytes (touched_blocks off (length bytes)) h found (touched_among off (length bytes) fits) room node.placed node.stands

  abbrev few_of : List ℕ
  few_of = table_block v.geometry node.placed.number ∷ numbers_from (own whole.volume run.placed) (off / 1024)

  why_few : (b : ℕ) → Why v.geometry node.placed.number (own whole.volume run.placed) (touched_blocks off (length bytes)) b → InMap v.geometry b ⊎ In b few_of
  why_few b (of_map m) = inl m
  why_few b (of_inode e) = inr (inl e)
  why_few b (of_numbers_on i among on) =
      let is = touched_among off (length bytes) fits i among in
      let reaches = is.reaches in
      let begins = is.begins in
      inr (inr (in_numbers (own whole.volume run.placed) (off / 1024) i b (omega (arith, reaches)) (omega (arith, begins, short)) is.low on))

  run_counted : Counted v whole 5 0
  run_counted =
      let step = blocks_written tx v n f off bytes (touched_blocks off (length bytes)) h found (touched_among off (length bytes) fits) room in
      let steady = step.step.steady in
      record {
        geometry = steady.geometry;
        zones = (fit_in_use whole.volume steady.in_use).zones ∙ (ap (λ (g : Geometry). g.zones) steady.geometry ∙ sym (fit_in_use v h).zones);
        among = few_of;
        few = omega arith;
        told = λ at frees b i. why_few b (run.told b i);
        revokes = none_in whole.touched.revoked (λ b i. subst (In b) step.none_freed (steady.told.revoked_are_left b i).0);
      }

module _ (tx : ℕ) (v : VolumeNow) (n : ℕ) (c : Call) (h : FindsRoom v n c) (path : List ℕ) (off : ℕ) (bytes : List ℕ) (d : Done) (done : outcome (room_of v.geometry) (tree_of_now v) n c ≡ Ok d)
    (wrote : row (tree_of_now v) n c ≡ write_row (tree_of_now v) path off bytes) (short : length bytes ≤ 65536) where
  done_is : row (tree_of_now v) n c ≡ Ok d
  done_is = (done_row (room_of v.geometry) (tree_of_now v) n c d done).0

  zones_for_all : used_zones d.tree ≤ uses v.zones + frees v.zones
  zones_for_all =
      let counted = h.plain.in_use.counted in
      let needed = needs_is tx v n c d done_is in
      let found = h.enough in
      omega (arith, counted, needed, found)

  abbrev put_is : IsFilePut (tree_of_now v) path (λ f. written_file f off bytes) d
  put_is = put tx v h.plain path off bytes d (sym wrote ∙ done_is) zones_for_all

  -- the blocks of the file alone take no more zones than the file with its new size
  zones_for_blocks : HasZonesFor v put_is.found.birth put_is.file off bytes (touched_blocks off (length bytes))
  zones_for_blocks =
      let order = tree_in_order v.contents.blocks v.contents.nodes h.plain.in_use.volume.0.in_order in
      let after = written_file put_is.file off bytes in
      let blocks = used_put_more (tree_of_now v) put_is.found.birth (nodes.File put_is.file) (nodes.File (with_blocks put_is.file after.blocks)) order put_is.stands in
      let sized = used_put_more (tree_of_now v) put_is.found.birth (nodes.File put_is.file) (nodes.File after) order put_is.stands in
      let same : node_zones (nodes.File (with_blocks put_is.file after.blocks)) ≡ node_zones (nodes.File after) = refl in
      let all = ap used_zones put_is.tree_is in
      let most = zones_for_all in
      omega (arith, blocks, sized, same, all, most)

  pub write_counted : (called v n tx c).change ≡ write v path off bytes → Counted v (called v n tx c).change 12 520
  write_counted same =
      let birth = put_is.found.birth in
      let fits = (file_put (tree_of_now v) path (off + length bytes) (λ f. written_file f off bytes) d (sym wrote ∙ done_is)).1 in
      let blocks = write_blocks v birth off bytes (touched_blocks off (length bytes)) in
      subst (λ c. Counted v c 12 520)
      (sym (same ∙ at_path_is v path put_is.found (λ birth. followed_by (write_blocks v birth off bytes (touched_blocks off (length bytes))) (λ w. resize w birth (λ size. max size (off + length bytes)))) put_is.walked))
      (counted_more v _ 6 12 0 520 (omega arith) (omega arith)
      (counted_then v blocks (λ w. resize w birth (λ size. max size (off + length bytes))) 5 1 0 0
      (run_counted tx v h.plain.in_use birth put_is.file put_is.stands off bytes short fits zones_for_blocks) (resize_counted blocks.volume birth (λ size. max size (off + length bytes)))))
