-- What is done to an open file, block by block, is what the steps of a write do to the volume.
use Rattle.std.specs.Prelude.{◌≡◌, ◌≢◌, ℕ, ◌+◌, ◌-◌, ◌<◌, ◌≤◌, nat_eq, nat_lt, ◌==◌, Bool, true, false, if◌then◌else◌, List, [], ◌∷◌, length, map, Some, refl, ◌++◌}
use Rattle.std.specs.List.{list_any}
use Rattle.std.proofs.Common.{sym, ap, subst, ◌∙◌, inl, inr, ⊎_elim, arith}
use Rattle.std.proofs.lemmas.Bool.{cases_Bool, eqb-true, eqb-false, eq-eqb, ne_eqb, le-ltb, or_left, or_right, or_cases}
use Rattle.blk_base.specs.Members.{In, IsAscending}
use Rattle.blk_base.specs.laws.Members.{list_any-In}
use Rattle.byte_fields.specs.Fields.{zeros}
use Rattle.byte_fields.specs.laws.ReadLaws.{length-zeros}
use Rattle.number_sets.specs.Sets.{with, with_all}
use Rattle.tree_model.specs.Calls.{patched, file_zones}
use Rattle.tree_model.specs.Maps.{at_number, put_number}
use Rattle.tree_model.specs.laws.MapsLaws.{at_put_number}
use Rattle.tree_model.proofs.Bytes.{patched_length}
use Rattle.volume_ops.specs.declared.found.Mapped.{Mapped}
use Rattle.volume_ops.specs.Places.{table_block}
use Rattle.volume_ops.specs.Volume.{disk_of}
use Rattle.volume_model.specs.declared.placed.Placed.{Placed}
use Rattle.volume_model.specs.declared.placed.Part.TheVariants as parts
use Rattle.volume_model.specs.Counts.{indices_of, zones_of_file}
use Rattle.volume_model.specs.Edits.{Edit, edited_all}
use Rattle.volume_model.specs.MapBlock.{OpenInode, own_of, map_block}
use Rattle.volume_model.specs.Holes.{has_index, with_hole, with_holes, with_mapped}
use Rattle.volume_model.specs.Touched.{Touched, and_then}
use Rattle.volume_model.specs.Volume.{Place, block, zone_in, IsPart, IsFilePart}
use Rattle.volume_model.specs.laws.Counts.{count_map}
use Rattle.volume_model.specs.laws.Holes.{index_of, rising_ascending, hole_mapped}
use Rattle.volume_model.specs.laws.Indexed.{file_indexed}
use Rattle.volume_model.specs.laws.Mapped.{zones_mapped}
use Rattle.volume_in_use.proofs.NowLemmas.Notes.{and_nothing, and_assoc}
use Rattle.volume_steps.specs.Now.{VolumeNow, Change, unchanged, tells_writes}
use Rattle.volume_steps.specs.Plain.{IsInUse}
use Rattle.volume_steps.specs.Steps.{write_block, write_blocks, map_file_block, put_page}
use Rattle.volume_steps.specs.Zones.{TakenFor, take_zones, zone_bit}
use Rattle.volume_steps.proofs.FileSteps.{at_file_is}
use Rattle.volume_steps.proofs.Files.{file_zones_are, put_twice}
use Rattle.volume_steps.proofs.MapStep.{mapped_step}
use Rattle.volume_steps.proofs.PageStep.{page_step}
use Rattle.volume_steps.proofs.TakeZones.{are_taken, holes_counted}
use Rattle.volume_steps.proofs.Taking.{frees}
use Rattle.volume_steps.proofs.WriteSteps.{IsAmong, zones_less}
use Rattle.volume_in_use.specs.bytes.code.Work.{Work, with_nodes, map_work, put_work, block_work, blocks_work, numbers_told}
use Rattle.volume_in_use.proofs.BytesLemmas.Told.{numbers_are_told}
use Rattle.volume_model.specs.Moves.{back_told}

-- ---- indices

indices_mapped : (zones : List Mapped) (index zone : ℕ) → ((m : Mapped) → In m zones → m.index ≢ index) → indices_of (with_mapped zones index zone) ≡ with (indices_of zones) index
indices_mapped [] index zone none = refl
indices_mapped (m ∷ zones) index zone none = rw (ne_eqb m.index index (none m (inl refl))) (elim (cases_Bool (nat_lt index m.index)) [
  | inl y ↦ rw y refl
  | inr n ↦ rw n (ap (λ (ks : List ℕ). m.index ∷ ks) (indices_mapped zones index zone (λ m i. none m (inr i))))
])

with_there : (zones : List Mapped) → IsAscending index_of zones → (m : Mapped) → In m zones → with (indices_of zones) m.index ≡ indices_of zones
with_there [] a m i = absurd i
with_there (z ∷ zones) a m (inl e) = rw (eq-eqb z.index m.index (ap index_of e)) refl
with_there (z ∷ zones) a m (inr i) =
    let less = a.0 m i in
    let no : nat_lt m.index z.index ≡ false = le-ltb m.index z.index (omega arith) in
    rw (ne_eqb z.index m.index (λ e. (omega arith)), no) (ap (λ (ks : List ℕ). z.index ∷ ks) (with_there zones a.1 m i))

with_longer : (ks : List ℕ) (x : ℕ) → length ks ≤ length (with ks x)
with_longer [] x = omega arith
with_longer (k ∷ ks) x = elim (cases_Bool (k == x)) [
  | inl y ↦ rw y (omega arith)
  | inr n ↦ rw n (elim (cases_Bool (nat_lt x k)) [ inl y ↦ rw y (omega arith) | inr m ↦ rw m (let more = with_longer ks x in omega arith) ])
]

with_any : (p : ℕ → Bool) (ks : List ℕ) (x : ℕ) → list_any p ks ≡ true → list_any p (with ks x) ≡ true
with_any p [] x t = absurd (cc t)
with_any p (k ∷ ks) x t = elim (cases_Bool (k == x)) [
  | inl y ↦ rw y t
  | inr n ↦ rw n (elim (cases_Bool (nat_lt x k)) [
    | inl y ↦ rw y (or_right (p x) (list_any p (k ∷ ks)) t)
    | inr m ↦ rw m (⊎_elim (λ here. or_left (p k) (list_any p (with ks x)) here) (λ later. or_right (p k) (list_any p (with ks x)) (with_any p ks x later)) (or_cases (p k) (list_any p ks) t))
  ])
]

all_longer : (xs ks : List ℕ) → length ks ≤ length (with_all ks xs)
all_longer [] ks = omega arith
all_longer (x ∷ xs) ks = let one = with_longer ks x in let more = all_longer xs (with ks x) in omega arith

all_any : (p : ℕ → Bool) (xs ks : List ℕ) → list_any p ks ≡ true → list_any p (with_all ks xs) ≡ true
all_any p [] ks t = t
all_any p (x ∷ xs) ks t = all_any p xs (with ks x) (with_any p ks x t)

pub all_more : (xs ks : List ℕ) → file_zones ks ≤ file_zones (with_all ks xs)
all_more xs ks = zones_less ks (with_all ks xs) (all_longer xs ks) (λ p. all_any p xs ks)

-- ---- a file that is open

-- the work at a file of which these blocks are still to be written
abbrev pub work_of : VolumeNow → List (ℕ × Placed) → ℕ → Placed → List Mapped → List ℕ → Touched → Work
work_of v nodes n p zones is t = record { volume = with_nodes v nodes; file = record { birth = n; number = p.number; inode = p.inode; zones = with_holes zones is }; touched = t }

-- After a change the work is at the file as it is then, and what the change told is told.
pub record IsDone (v : VolumeNow) (nodes : List (ℕ × Placed)) (n : ℕ) (c : Change) (w : Work) (is : List ℕ) (t : Touched) : Type 0 where
  pub placed : Placed
  pub zones : List Mapped
  pub stands : at_number c.volume.contents.nodes n ≡ Some placed
  pub is_file : placed.part ≡ parts.File zones
  pub same : w ≡ work_of c.volume nodes n placed zones is (and_then t c.touched)
  pub puts : (r : Placed) → put_number c.volume.contents.nodes n r ≡ put_number v.contents.nodes n r
  pub in_use : IsInUse c.volume
  pub room : file_zones (with_all (indices_of zones) is) - file_zones (indices_of zones) ≤ frees c.volume.zones

module _ (v : VolumeNow) (h : IsInUse v) (nodes : List (ℕ × Placed)) (n : ℕ) (p : Placed) (zones : List Mapped) (at : at_number v.contents.nodes n ≡ Some p) (is : p.part ≡ parts.File zones)
    (index : ℕ) (later : List ℕ) (room : file_zones (with_all (indices_of zones) (index ∷ later)) - file_zones (indices_of zones) ≤ frees v.zones) (t : Touched) where
  abbrev blocks : List (List ℕ)
  blocks = v.contents.blocks

  abbrev own : Place → ℕ
  own x = zone_in blocks p.inode x

  part : IsFilePart blocks p.inode zones
  part = subst (IsPart v.geometry blocks p.inode) is (h.volume.0.each n p at).part

  abbrev start : Work
  start = work_of v nodes n p zones (index ∷ later) t

  -- ---- a hole

  module _ (content : List ℕ) (size : length content ≡ 1024) (high : index < 262663) (hole : own (block index) ≡ 0) where
    not_there : (m : Mapped) → In m zones → m.index ≢ index
    not_there m i e = let told = part.listed m i in told.1 (sym told.0 ∙ (ap (λ k. own (block k)) e ∙ hole))

    abbrev taken : TakenFor
    taken = take_zones own index v.zones

    abbrev listed : List Mapped
    listed = with_mapped zones index taken.taken.data_zone

    listed_as : indices_of listed ≡ with (indices_of zones) index
    listed_as = indices_mapped zones index taken.taken.data_zone not_there

    -- as many zones as the file has more then
    counted : file_zones (with (indices_of zones) index) ≡ file_zones (indices_of zones) + length taken.numbers
    counted =
        ap file_zones (sym listed_as)
        ∙ (file_zones_are (indices_of listed)
        ∙ (zones_mapped index taken.taken.data_zone zones
        ∙ (count_map own (indices_of zones) (file_indexed v.geometry blocks v.contents.nodes n p zones h.volume.0 at is (h.volume.1 n p at)) index high hole
        ∙ (ap (λ k. zones_of_file (indices_of zones) + k) (holes_counted own index v.zones high hole)
        ∙ ap (λ k. k + length taken.numbers) (sym (file_zones_are (indices_of zones)))))))

    enough : length taken.numbers ≤ frees v.zones
    enough = let more = all_more later (with (indices_of zones) index) in let one = counted in omega arith

    abbrev c : Change
    c = map_file_block v n p zones content index

    abbrev es : List Edit
    es = map (zone_bit v.geometry true) taken.numbers

    abbrev s : OpenInode
    s = record { blocks = edited_all v.geometry blocks es; inode = p.inode }

    abbrev u : OpenInode
    u = map_block v.geometry taken.taken content s index

    abbrev q : Placed
    q = record { number = p.number; inode = u.inode; part = parts.File listed }

    abbrev after : List Mapped → List ℕ → Work
    after zs bs = record {
      volume = with_nodes c.volume nodes;
      file = record { birth = n; number = p.number; inode = u.inode; zones = zs };
      touched = and_then t (and_then (tells_writes v.geometry es) (record {
        blocks = bs ++ back_told v.geometry p u.inode;
        freed = [];
        revoked = [];
        pages = record { birth = n; index = index; zone = taken.taken.data_zone } ∷ [];
        dropped = [];
        nodes = n ∷ [];
      }));
    }

    mapped_same : map_work content index start ≡ work_of c.volume nodes n q listed later (and_then t c.touched)
    unfolding map_work
    mapped_same =
        ap (λ (zs : List Mapped). after zs (numbers_told (λ x. own_of s x) taken.taken index)) (hole_mapped later zones index taken.taken.data_zone not_there)
        ∙ ap (λ (bs : List ℕ). after (with_holes listed later) bs) (sym (numbers_are_told v h n p zones at is content size index high hole enough))

    left : file_zones (with_all (indices_of listed) later) - file_zones (indices_of listed) ≤ frees taken.zones
    left = subst (λ (ks : List ℕ). file_zones (with_all ks later) - file_zones ks ≤ frees taken.zones) (sym listed_as)
        (let fewer = (are_taken v h p.inode index enough).fewer in let one = counted in omega arith)

    pub hole_done : IsDone v nodes n c (map_work content index start) later t
    hole_done = record {
      placed = q;
      zones = listed;
      stands = at_put_number v.contents.nodes n q;
      is_file = refl;
      same = mapped_same;
      puts = λ r. put_twice v.contents.nodes n q r h.volume.0.in_order;
      in_use = (mapped_step 0 v h n p zones at is content size index high hole enough).steady.in_use;
      room = left;
    }

  -- ---- a block that has a zone

  module _ (content : List ℕ) (size : length content ≡ 1024) (some : own (block index) ≢ 0) where
    abbrev zone : ℕ
    zone = own (block index)

    there : In (record { index = index; zone = zone }) zones
    there = part.full index some

    with_same : with (indices_of zones) index ≡ indices_of zones
    with_same = with_there zones (rising_ascending zones part.rising) (record { index = index; zone = zone }) there

    put_same : put_work content index zone start ≡ work_of (put_page v n index zone content).volume nodes n p zones later (and_then t (put_page v n index zone content).touched)
    unfolding put_work
    put_same =
        let known : with_hole zones index ≡ zones = (let yes : has_index zones index ≡ true = list_any-In (λ (m : Mapped). m.index == index) zones (record { index = index; zone = zone }) there (eq-eqb index index refl) in rw yes refl) in
        ap (λ (zs : List Mapped). record {
          volume = with_nodes (put_page v n index zone content).volume nodes;
          file = record { birth = n; number = p.number; inode = p.inode; zones = with_holes zs later };
          touched = and_then t (put_page v n index zone content).touched;
        }) known

    pub page_done : IsDone v nodes n (put_page v n index zone content) (put_work content index zone start) later t
    page_done = record {
      placed = p;
      zones = zones;
      stands = at;
      is_file = is;
      same = put_same;
      puts = λ r. refl;
      in_use = (page_step 0 v h n p zones at is content size index some).steady.in_use;
      room = subst (λ (ks : List ℕ). file_zones (with_all ks later) - file_zones (indices_of zones) ≤ frees v.zones) with_same room;
    }

  -- ---- either

  module _ (off : ℕ) (bytes : List ℕ) (among : IsAmong off (length bytes) index) where
    abbrev written_to : Placed → List Mapped → Change
    written_to p zones =
        if nat_eq (zone_in blocks p.inode (block index)) 0 then map_file_block v n p zones (patched index off bytes (zeros 1024)) index
        else put_page v n index (zone_in blocks p.inode (block index)) (patched index off bytes (disk_of blocks (zone_in blocks p.inode (block index))))

    either : (b : Bool) → nat_eq (own (block index)) 0 ≡ b →
        IsDone v nodes n (if b then map_file_block v n p zones (patched index off bytes (zeros 1024)) index else put_page v n index (own (block index)) (patched index off bytes (disk_of blocks (own (block index)))))
        (if b then map_work (patched index off bytes (zeros 1024)) index start else put_work (patched index off bytes (disk_of blocks (own (block index)))) index (own (block index)) start) later t
    either true y = hole_done (patched index off bytes (zeros 1024)) (patched_length index off bytes (zeros 1024) (length-zeros 1024) among.reaches among.begins) among.low (eqb-true _ _ y)
    either false f = page_done (patched index off bytes (disk_of blocks (own (block index)))) (patched_length index off bytes (disk_of blocks (own (block index))) (h.volume.0.whole (own (block index))) among.reaches among.begins) (eqb-false _ _ f)

    pub block_done : IsDone v nodes n (write_block v n off bytes index) (block_work off bytes index start) later t
    block_done = subst (λ c. IsDone v nodes n c (block_work off bytes index start) later t) (sym (at_file_is v n p zones written_to at is)) (either (nat_eq (own (block index)) 0) refl)

-- ---- all blocks

pub no_more : (k m : ℕ) → k - k ≤ m
no_more k m = omega arith

-- where nothing is done
pub nothing_done : (v : VolumeNow) → IsInUse v → (nodes : List (ℕ × Placed)) (n : ℕ) (p : Placed) (zones : List Mapped) → at_number v.contents.nodes n ≡ Some p → p.part ≡ parts.File zones → (t : Touched) →
    IsDone v nodes n (unchanged v) (work_of v nodes n p zones [] t) [] t
nothing_done v h nodes n p zones at is t = record {
  placed = p;
  zones = zones;
  stands = at;
  is_file = is;
  same = ap (λ (t : Touched). work_of v nodes n p zones [] t) (sym (and_nothing t));
  puts = λ r. refl;
  in_use = h;
  room = no_more (file_zones (indices_of zones)) (frees v.zones);
}

pub blocks_done : (v : VolumeNow) → IsInUse v → (nodes : List (ℕ × Placed)) (n : ℕ) (p : Placed) (zones : List Mapped) → at_number v.contents.nodes n ≡ Some p → p.part ≡ parts.File zones →
    (off : ℕ) (bytes indices : List ℕ) → ((i : ℕ) → In i indices → IsAmong off (length bytes) i) → file_zones (with_all (indices_of zones) indices) - file_zones (indices_of zones) ≤ frees v.zones → (t : Touched) →
    IsDone v nodes n (write_blocks v n off bytes indices) (blocks_work off bytes indices (work_of v nodes n p zones indices t)) [] t
blocks_done v h nodes n p zones at is off bytes [] among room t = nothing_done v h nodes n p zones at is t
blocks_done v h nodes n p zones at is off bytes (i ∷ indices) among room t =
    let c = write_block v n off bytes i in
    let one = block_done v h nodes n p zones at is i indices room t off bytes (among i (inl refl)) in
    let rest = blocks_done c.volume one.in_use nodes n one.placed one.zones one.stands one.is_file off bytes indices (λ j k. among j (inr k)) one.room (and_then t c.touched) in
    let d = write_blocks c.volume n off bytes indices in
    record {
      placed = rest.placed;
      zones = rest.zones;
      stands = rest.stands;
      is_file = rest.is_file;
      same = ap (blocks_work off bytes indices) one.same ∙ (rest.same ∙ ap (λ (t : Touched). work_of d.volume nodes n rest.placed rest.zones [] t) (and_assoc t c.touched d.touched));
      puts = λ r. rest.puts r ∙ one.puts r;
      in_use = rest.in_use;
      room = rest.room;
    }
