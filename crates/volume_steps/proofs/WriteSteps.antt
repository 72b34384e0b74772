-- Bytes are written to a file, block by block.
use Rattle.std.specs.Prelude.{◌≡◌, ◌≢◌, ℕ, ◌+◌, ◌-◌, ◌*◌, ◌<◌, ◌≤◌, nat_eq, nat_lt, Bool, true, false, if◌then◌else◌, List, [], ◌∷◌, ◌++◌, length, Some, None, refl, ◌⊎◌}
use Rattle.std.specs.List.{list_any}
use Rattle.std.specs.Map.{keys_of}
use Rattle.std.specs.Ordering.{nat_cmp, is_eq, match_ordering}
use Rattle.std.specs.declared.cmp.Ordering.{Ordering}
use Rattle.std.proofs.Common.{Less, Equal, Greater, sym, ap, subst, ◌∙◌, inl, inr, ⊎_elim, arith}
use Rattle.std.proofs.lemmas.Bool.{cases_Bool, cases_eq, eqb-true, eqb-false, ne_eqb, false_from_ne_true, or_left, or_right, or_cases}
use Rattle.blk_base.specs.Members.{In}
use Rattle.blk_base.specs.laws.Members.{map-In}
use Rattle.byte_fields.specs.Fields.{zeros}
use Rattle.byte_fields.specs.laws.ReadLaws.{length-zeros}
use Rattle.minix_layout.specs.declared.division.Geometry.{Geometry}
use Rattle.tree_model.specs.declared.node.File.{File}
use Rattle.tree_model.specs.declared.node.Node.TheVariants as nodes
use Rattle.tree_model.specs.Maps.{at_number, put_number}
use Rattle.tree_model.proofs.Bytes.{patched_length}
pub use Rattle.tree_model.specs.laws.FewerZones.{zones_less}
use Rattle.tree_model.specs.laws.MapsLaws.{number_same}
use Rattle.tree_model.specs.Calls.{patched, written_blocks, block_or_zeros, used_zones, node_zones, file_zones}
use Rattle.volume_ops.specs.declared.found.Mapped.{Mapped}
use Rattle.volume_ops.specs.Volume.{disk_of, bodies_of}
use Rattle.volume_model.specs.declared.placed.Placed.{Placed}
use Rattle.volume_model.specs.Counts.{indices_of, zones_of_file}
use Rattle.volume_model.specs.Moves.{with_mapped}
use Rattle.volume_model.specs.Touched.{Page}
use Rattle.volume_model.specs.Volume.{block, zone_in, IsRising}
use Rattle.volume_model.specs.laws.Counts.{count_map}
use Rattle.volume_model.specs.laws.Indexed.{file_indexed, keys_bodies}
use Rattle.volume_model.specs.laws.Mapped.{zones_mapped}
use Rattle.volume_model.specs.laws.Trees.{In-at}
use Rattle.volume_steps.specs.Now.{VolumeNow, Change, tree_of_now, followed_by, unchanged}
use Rattle.volume_steps.specs.Plain.{IsInUse}
use Rattle.volume_steps.specs.Steps.{write_block, write_blocks, map_file_block, put_page}
use Rattle.volume_steps.specs.Zones.{take_zones}
use Rattle.volume_steps.proofs.FileSteps.{IsFileStep, IsFileAt, file_at, at_file_is, file_stands, file_step_then, all_zones}
use Rattle.volume_steps.proofs.Files.{bodies_in_order, file_zones_are, put_twice}
use Rattle.volume_steps.proofs.MapStep.{mapped_step}
use Rattle.volume_steps.proofs.PageStep.{page_step, unchanged_step}
use Rattle.volume_steps.proofs.Taking.{frees, uses}
use Rattle.volume_steps.proofs.TakeZones.{holes_counted}
use Rattle.volume_steps.proofs.Together.{steady_as}
use Rattle.volume_steps.proofs.TreeSteps.{tree_in_order, used_put_more}

-- ---- a block of the tree's file

-- a file with another block
abbrev pub with_block : File → ℕ → List ℕ → File
with_block f index body = record { size = f.size; links = f.links; blocks = put_number f.blocks index body }

abbrev pub with_blocks : File → List (ℕ × List ℕ) → File
with_blocks f blocks = record { size = f.size; links = f.links; blocks = blocks }

-- the block is reached by these bytes
pub record IsAmong (off len index : ℕ) : Type 0 where
  pub low : index < 262663
  pub reaches : off < 1024 * index + 1024
  pub begins : 1024 * index < off + len

module _ (blocks : List (List ℕ)) where
  pub none_at : (zones : List Mapped) (index : ℕ) → ((m : Mapped) → In m zones → m.index ≢ index) → at_number (bodies_of blocks zones) index ≡ None
  none_at [] index apart = refl
  none_at (m ∷ zones) index apart =
      let other = apart m (inl refl) in
      let next = none_at zones index (λ m i. apart m (inr i)) in
      elim (cases_eq index m.index) [
        | inl e ↦ absurd (other (sym e))
        | inr a ↦ not_at index m.index a (bodies_of blocks zones) (disk_of blocks m.zone) next
      ]
    where
      not_at : (k j : ℕ) → k ≢ j → (es : List (ℕ × List ℕ)) (body : List ℕ) → at_number es k ≡ None → at_number ((j, body) ∷ es) k ≡ None
      not_at k j apart es body none = rw (let e : is_eq (nat_cmp k j) ≡ false = false_from_ne_true (is_eq (nat_cmp k j)) (λ t. apart (number_same k j t)) in e) none

  pub body_at : (zones : List Mapped) (m : Mapped) → IsRising zones → In m zones → at_number (bodies_of blocks zones) m.index ≡ Some (disk_of blocks m.zone)
  body_at zones m rising i = In-at (bodies_of blocks zones) m.index (disk_of blocks m.zone) (bodies_in_order blocks zones rising) (map-In (λ (m : Mapped). (m.index, disk_of blocks m.zone)) zones m i)

  keys_mapped : (zones : List Mapped) (index zone : ℕ) (content : List ℕ) → ((m : Mapped) → In m zones → m.index ≢ index) → keys_of (put_number (bodies_of blocks zones) index content) ≡ indices_of (with_mapped zones index zone)
  keys_mapped [] index zone content apart = refl
  keys_mapped (m ∷ zones) index zone content apart = elim (cases_Bool (nat_lt index m.index)) [
    | inl t ↦ rw t (ap (λ (ks : List ℕ). index ∷ m.index ∷ ks) (keys_bodies blocks zones))
    | inr f ↦
        let other = apart m (inl refl) in
        rw (f, ne_eqb index m.index (λ e. other (sym e))) (ap (λ (ks : List ℕ). m.index ∷ ks) (keys_mapped zones index zone content (λ m i. apart m (inr i))))
  ]

-- ---- files with more blocks use more zones

one_more : {X : Type 0} (es : List (ℕ × X)) (k : ℕ) (x : X) → length (keys_of es) ≤ length (keys_of (put_number es k x))
one_more [] k x = omega arith
one_more (e ∷ es) k x = by (nat_cmp k e.0) (one_more es k x)
  where
    by : (o : Ordering) → length (keys_of es) ≤ length (keys_of (put_number es k x)) → length (keys_of (e ∷ es)) ≤ length (keys_of (match_ordering o ((k, x) ∷ e ∷ es) ((e.0, x) ∷ es) (e ∷ put_number es k x)))
    by Less more = omega arith
    by Equal more = omega arith
    by Greater more = omega arith

any_more : {X : Type 0} (es : List (ℕ × X)) (k : ℕ) (x : X) (p : ℕ → Bool) → list_any p (keys_of es) ≡ true → list_any p (keys_of (put_number es k x)) ≡ true
any_more [] k x p t = or_right (p k) false t
any_more (e ∷ es) k x p t = by (nat_cmp k e.0) (any_more es k x p) t
  where
    by : (o : Ordering) → (list_any p (keys_of es) ≡ true → list_any p (keys_of (put_number es k x)) ≡ true) → list_any p (keys_of (e ∷ es)) ≡ true →
        list_any p (keys_of (match_ordering o ((k, x) ∷ e ∷ es) ((e.0, x) ∷ es) (e ∷ put_number es k x))) ≡ true
    by Less more t = or_right (p k) (list_any p (keys_of (e ∷ es))) t
    by Equal more t = t
    by Greater more t = ⊎_elim (λ a. or_left (p e.0) (list_any p (keys_of (put_number es k x))) a) (λ a. or_right (p e.0) (list_any p (keys_of (put_number es k x))) (more a)) (or_cases (p e.0) (list_any p (keys_of es)) t)

pub written_length : (off : ℕ) (bytes : List ℕ) (indices : List ℕ) (blocks : List (ℕ × List ℕ)) → length (keys_of blocks) ≤ length (keys_of (written_blocks off bytes indices blocks))
written_length off bytes [] blocks = omega arith
written_length off bytes (i ∷ is) blocks =
    let one = one_more blocks i (patched i off bytes (block_or_zeros (at_number blocks i))) in
    let rest = written_length off bytes is (put_number blocks i (patched i off bytes (block_or_zeros (at_number blocks i)))) in
    omega arith

pub written_any : (off : ℕ) (bytes : List ℕ) (indices : List ℕ) (blocks : List (ℕ × List ℕ)) (p : ℕ → Bool) → list_any p (keys_of blocks) ≡ true → list_any p (keys_of (written_blocks off bytes indices blocks)) ≡ true
written_any off bytes [] blocks p t = t
written_any off bytes (i ∷ is) blocks p t = written_any off bytes is (put_number blocks i (patched i off bytes (block_or_zeros (at_number blocks i)))) p (any_more blocks i (patched i off bytes (block_or_zeros (at_number blocks i))) p t)

-- ---- one block

-- nothing is freed, and no page dropped
pub record IsWriteStep (tx : ℕ) (v : VolumeNow) (n : ℕ) (c : Change) (f : File) (Writes : ℕ → ℕ → Type 0) : Type 0 where
  pub step : IsFileStep tx v n c f Writes
  pub none_freed : c.touched.freed ≡ []
  pub none_dropped : c.touched.dropped ≡ []

module _ (tx : ℕ) (v : VolumeNow) (h : IsInUse v) (n : ℕ) (f : File) (found : at_number (tree_of_now v) n ≡ Some (nodes.File f)) (off : ℕ) (bytes : List ℕ) (index : ℕ) (among : IsAmong off (length bytes) index)
    (room : used_zones (put_number (tree_of_now v) n (nodes.File (with_block f index (patched index off bytes (block_or_zeros (at_number f.blocks index)))))) ≤ uses v.zones + frees v.zones) where
  pub x : IsFileAt v n f
  x = file_at v h n f found

  abbrev blocks : List (List ℕ)
  blocks = v.contents.blocks

  abbrev zone : ℕ
  zone = zone_in blocks x.placed.inode (block index)

  abbrev IsWritten : ℕ → ℕ → Type 0
  IsWritten birth at = (birth ≡ n) × (at ≡ index)

  abbrev after : File
  after = with_block f index (patched index off bytes (block_or_zeros (at_number f.blocks index)))

  blocks_are : f.blocks ≡ bodies_of blocks x.zones
  blocks_are = ap (λ (f : File). f.blocks) x.file

  apart : zone ≡ 0 → (m : Mapped) → In m x.zones → m.index ≢ index
  apart hole m i e = let told = x.part.listed m i in told.1 (sym told.0 ∙ (ap (λ k. zone_in blocks x.placed.inode (block k)) e ∙ hole))

  as_put : (old : List ℕ) → block_or_zeros (at_number f.blocks index) ≡ old →
      record { size = x.placed.inode.size; links = x.placed.inode.links; blocks = put_number (bodies_of blocks x.zones) index (patched index off bytes old) } ≡ after
  as_put old e = sym (ap (λ (f : File). with_block f index (patched index off bytes old)) x.file) ∙ ap (λ (body : List ℕ). with_block f index (patched index off bytes body)) (sym e)

  -- ---- a hole

  hole_body : zone ≡ 0 → block_or_zeros (at_number f.blocks index) ≡ zeros 1024
  unfolding zeros
  hole_body hole = ap block_or_zeros (ap (λ (es : List (ℕ × List ℕ)). at_number es index) blocks_are ∙ none_at blocks x.zones index (apart hole))

  abbrev fresh : List ℕ
  fresh = patched index off bytes (zeros 1024)

  abbrev numbers : List ℕ
  numbers = (take_zones (λ y. zone_in blocks x.placed.inode y) index v.zones).numbers

  zones_before : node_zones (nodes.File f) ≡ zones_of_file (indices_of x.zones)
  zones_before = ap (λ (f : File). node_zones (nodes.File f)) x.file ∙ (ap file_zones (keys_bodies blocks x.zones) ∙ file_zones_are (indices_of x.zones))

  zones_after : zone ≡ 0 → node_zones (nodes.File after) ≡ zones_of_file (indices_of x.zones) + length numbers
  zones_after hole =
      ap (λ (f : File). node_zones (nodes.File f)) (sym (as_put (zeros 1024) (hole_body hole)))
      ∙ (ap file_zones (keys_mapped blocks x.zones index 0 fresh (apart hole))
      ∙ (file_zones_are (indices_of (with_mapped x.zones index 0))
      ∙ (zones_mapped index 0 x.zones
      ∙ (count_map (λ y. zone_in blocks x.placed.inode y) (indices_of x.zones) (file_indexed v.geometry blocks v.contents.nodes n x.placed x.zones h.volume.0 x.stands x.is_file (h.volume.1 n x.placed x.stands)) index among.low hole
      ∙ ap (λ k. zones_of_file (indices_of x.zones) + k) (holes_counted (λ y. zone_in blocks x.placed.inode y) index v.zones among.low hole)))))

  pub enough : zone ≡ 0 → length numbers ≤ frees v.zones
  enough hole =
      let sum = used_put_more (tree_of_now v) n (nodes.File f) (nodes.File after) (tree_in_order blocks v.contents.nodes h.volume.0.in_order) found in
      let one = zones_before in
      let two = zones_after hole in
      let counted = h.counted in
      omega arith

  in_hole : zone ≡ 0 → IsWriteStep tx v n (map_file_block v n x.placed x.zones fresh index) after IsWritten
  in_hole hole = record {
    step = subst (λ f. IsFileStep tx v n (map_file_block v n x.placed x.zones fresh index) f IsWritten) (as_put (zeros 1024) (hole_body hole))
        (mapped_step tx v h n x.placed x.zones x.stands x.is_file fresh (patched_length index off bytes (zeros 1024) (length-zeros 1024) among.reaches among.begins) index among.low hole (enough hole));
    none_freed = refl;
    none_dropped = refl;
  }

  -- ---- a block that has a zone

  page_body : zone ≢ 0 → block_or_zeros (at_number f.blocks index) ≡ disk_of blocks zone
  page_body there = ap block_or_zeros (ap (λ (es : List (ℕ × List ℕ)). at_number es index) blocks_are ∙ body_at blocks x.zones (record { index = index; zone = zone }) x.part.rising (x.part.full index there))

  in_page : zone ≢ 0 → IsWriteStep tx v n (put_page v n index zone (patched index off bytes (disk_of blocks zone))) after IsWritten
  in_page there = record {
    step = subst (λ f. IsFileStep tx v n (put_page v n index zone (patched index off bytes (disk_of blocks zone))) f IsWritten) (as_put (disk_of blocks zone) (page_body there))
        (page_step tx v h n x.placed x.zones x.stands x.is_file (patched index off bytes (disk_of blocks zone)) (patched_length index off bytes (disk_of blocks zone) (h.volume.0.whole zone) among.reaches among.begins) index there);
    none_freed = refl;
    none_dropped = refl;
  }

  abbrev written_to : Placed → List Mapped → Change
  written_to p zones =
      if nat_eq (zone_in blocks p.inode (block index)) 0 then map_file_block v n p zones (patched index off bytes (zeros 1024)) index
      else put_page v n index (zone_in blocks p.inode (block index)) (patched index off bytes (disk_of blocks (zone_in blocks p.inode (block index))))

  -- The block has the bytes.
  pub block_written : IsWriteStep tx v n (write_block v n off bytes index) after IsWritten
  block_written = subst (λ c. IsWriteStep tx v n c after IsWritten) (sym (at_file_is v n x.placed x.zones written_to x.stands x.is_file)) (elim (cases_Bool (nat_eq zone 0)) [
    | inl y ↦ subst (λ c. IsWriteStep tx v n c after IsWritten) (let e : map_file_block v n x.placed x.zones fresh index ≡ written_to x.placed x.zones = rw y refl in e) (in_hole (eqb-true _ _ y))
    | inr f ↦ subst (λ c. IsWriteStep tx v n c after IsWritten) (let e : put_page v n index zone (patched index off bytes (disk_of blocks zone)) ≡ written_to x.placed x.zones = rw f refl in e) (in_page (eqb-false _ _ f))
  ])

-- ---- one block after the other

pub same_in : {X : Type 0} (xs : List X) → xs ≡ [] → (x : X) → In x xs → ⊥
same_in xs e x i = subst (In x) e i

-- a step is followed by one that frees and drops nothing
module _ (tx : ℕ) (v : VolumeNow) (h : IsInUse v) (n : ℕ) (c d : Change) (f e : File) (Writes More : ℕ → ℕ → Type 0) (one : IsWriteStep tx v n c f Writes) (two : IsWriteStep tx c.volume n d e More) where
  abbrev both : Change
  both = followed_by c (λ w. d)

  pub writes_then : IsWriteStep tx v n both e (λ birth index. Writes birth index ⊎ More birth index)
  writes_then = record {
    step = file_step_then tx v h n c d f e Writes More one.step two.step (record {
      not_dropped = λ x i j. same_in d.touched.dropped two.none_dropped x j;
      not_written = λ x y i j same also. same_in c.touched.dropped one.none_dropped x i;
      not_new = λ zone i used. absurd (same_in d.touched.freed two.none_freed zone i);
    });
    none_freed = ap (λ (xs : List ℕ). xs ++ d.touched.freed) one.none_freed ∙ two.none_freed;
    none_dropped = ap (λ (xs : List Page). xs ++ d.touched.dropped) one.none_dropped ∙ two.none_dropped;
  }

pub write_as : (tx : ℕ) (v : VolumeNow) (n : ℕ) (c : Change) (f : File) (Writes More : ℕ → ℕ → Type 0) → IsWriteStep tx v n c f Writes → ((birth index : ℕ) → Writes birth index → More birth index) → ((birth index : ℕ) → More birth index → Writes birth index) →
    IsWriteStep tx v n c f More
write_as tx v n c f Writes More s there back = record {
  step = record { steady = steady_as tx v c Writes More s.step.steady there back; settled = s.step.settled; slotted = s.step.slotted; tree = s.step.tree; waiting = s.step.waiting; directories = s.step.directories; numbers = s.step.numbers };
  none_freed = s.none_freed;
  none_dropped = s.none_dropped;
}

-- blocks of these indices
abbrev pub AreAt : ℕ → List ℕ → ℕ → ℕ → Type 0
AreAt n indices birth index = (birth ≡ n) × In index indices

-- in use and free together stay as they are where nothing is freed
pub room_same : (tx : ℕ) (v : VolumeNow) → IsInUse v → (n : ℕ) (c : Change) (f : File) (Writes : ℕ → ℕ → Type 0) → IsWriteStep tx v n c f Writes → uses c.volume.zones + frees c.volume.zones ≡ uses v.zones + frees v.zones
room_same tx v h n c f Writes s =
    let before = all_zones v in
    let after = all_zones c.volume in
    let waiting = s.step.waiting in
    let none : length c.touched.freed ≡ 0 = ap length s.none_freed in
    let first = h.size in
    let last = s.step.steady.in_use.size in
    let same : c.volume.geometry.zones - c.volume.geometry.first ≡ v.geometry.zones - v.geometry.first = ap (λ (g : Geometry). g.zones - g.first) s.step.steady.geometry in
    omega arith

pub blocks_written : (tx : ℕ) (v : VolumeNow) (n : ℕ) (f : File) (off : ℕ) (bytes indices : List ℕ) → IsInUse v → at_number (tree_of_now v) n ≡ Some (nodes.File f) → ((i : ℕ) → In i indices → IsAmong off (length bytes) i) →
    used_zones (put_number (tree_of_now v) n (nodes.File (with_blocks f (written_blocks off bytes indices f.blocks)))) ≤ uses v.zones + frees v.zones →
    IsWriteStep tx v n (write_blocks v n off bytes indices) (with_blocks f (written_blocks off bytes indices f.blocks)) (AreAt n indices)
blocks_written tx v n f off bytes [] h found among room = write_as tx v n (unchanged v) f (λ birth index. ⊥) (AreAt n [])
    (record { step = unchanged_step tx v h n f found; none_freed = refl; none_dropped = refl }) (λ birth index z. absurd z) (λ birth index e. e.1)
blocks_written tx v n f off bytes (i ∷ is) h found among room =
    let next = with_block f i (patched i off bytes (block_or_zeros (at_number f.blocks i))) in
    let last = with_blocks f (written_blocks off bytes (i ∷ is) f.blocks) in
    let order = tree_in_order v.contents.blocks v.contents.nodes h.volume.0.in_order in
    let sum = used_put_more (tree_of_now v) n (nodes.File f) (nodes.File next) order found in
    let all = used_put_more (tree_of_now v) n (nodes.File f) (nodes.File last) order found in
    let less : node_zones (nodes.File next) ≤ node_zones (nodes.File last) =
    zones_less (keys_of next.blocks) (keys_of last.blocks) (written_length off bytes is next.blocks) (written_any off bytes is next.blocks) in
    let one = block_written tx v h n f found off bytes i (among i (inl refl)) (omega arith) in
    let c = write_block v n off bytes i in
    let same = room_same tx v h n c next (λ birth at. (birth ≡ n) × (at ≡ i)) one in
    let twice : put_number (tree_of_now c.volume) n (nodes.File last) ≡ put_number (tree_of_now v) n (nodes.File last) =
    ap (λ tree. put_number tree n (nodes.File last)) one.step.tree ∙ put_twice (tree_of_now v) n (nodes.File next) (nodes.File last) order in
    let used : used_zones (put_number (tree_of_now c.volume) n (nodes.File last)) ≡ used_zones (put_number (tree_of_now v) n (nodes.File last)) = ap used_zones twice in
    let two = blocks_written tx c.volume n next off bytes is one.step.steady.in_use (file_stands tx v n c next (λ birth at. (birth ≡ n) × (at ≡ i)) one.step) (λ j k. among j (inr k)) (omega arith) in
    write_as tx v n (write_blocks v n off bytes (i ∷ is)) last (λ birth at. ((birth ≡ n) × (at ≡ i)) ⊎ AreAt n is birth at) (AreAt n (i ∷ is))
    (writes_then tx v h n c (write_blocks c.volume n off bytes is) next last (λ birth at. (birth ≡ n) × (at ≡ i)) (AreAt n is) one two)
    (λ birth at w. ⊎_elim (λ here. (here.0, inl (sym here.1))) (λ rest. (rest.0, inr rest.1)) w)
    (λ birth at w. ⊎_elim (λ here. inl (w.0, sym here)) (λ rest. inr (w.0, rest)) w.1)
