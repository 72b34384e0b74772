-- The call that cuts a file: what it keeps, tells and frees.
use Rattle.std.specs.Prelude.{◌≡◌, ◌≢◌, ℕ, ◌+◌, ◌-◌, ◌*◌, ◌/◌, ◌%◌, ◌==◌, ◌<◌, ◌≤◌, ◌||◌, nat_eq, nat_lt, nat_le, Bool, true, false, if◌then◌else◌, List, [], ◌∷◌, ◌++◌, length, map, filter, take, replicate, Option, Some, None, Ok, is_some, refl, ◌⊎◌}
use Rattle.std.specs.Int.{div_ceil}
use Rattle.std.specs.List.Sorted.{IsStrictlySortedBy}
use Rattle.std.specs.Map.{keys_of}
use Rattle.std.specs.Ordering.{nat_cmp, is_eq}
use Rattle.std.proofs.Common.{sym, ap, subst, ◌∙◌, inl, inr, ⊎_elim, arith}
use Rattle.std.proofs.lemmas.Bool.{cases_Bool, cases_eq, cases_lt, eqb-true, eqb-false, lt-ltb, le-ltb, le-leb, leb-false, true≢false, false≢true, false_from_ne_true, or_cases, or_parts}
use Rattle.std.proofs.lemmas.Grind.{div_ceil_times}
use Rattle.std.proofs.lemmas.List.{length-take, length-append, length-replicate}
use Rattle.std.proofs.lemmas.List.Kept.{IsStrictlySortedBy-filter}
use Rattle.tree_model.specs.declared.node.File.{File}
use Rattle.tree_model.specs.declared.node.Node.TheVariants as nodes
use Rattle.tree_model.specs.Maps.{at_number, put_number}
use Rattle.tree_model.proofs.Blocks.{left_of, cut_out, cut_in, cut_blocks as cut_entries, cut_entry, kept}
use Rattle.tree_model.specs.laws.MapOrder.{InOrder, in_order_put}
use Rattle.tree_model.specs.laws.MapsLaws.{number_same, at_put_number, at_put_number_apart}
use Rattle.tree_model.specs.Calls.{Done, cut_body, cut_file, largest_size, truncate as truncate_row}
use Rattle.volume_ops.specs.declared.found.Mapped.{Mapped}
use Rattle.volume_ops.specs.Volume.{disk_of, bodies_of}
use Rattle.volume_model.specs.declared.placed.Placed.{Placed}
use Rattle.volume_model.specs.Volume.{block, zone_in}
use Rattle.volume_model.specs.Moves.{with_size, back_told}
use Rattle.volume_steps.specs.Calls.{truncate}
use Rattle.volume_steps.specs.Now.{VolumeNow, Change, tree_of_now, followed_by, unchanged}
use Rattle.volume_steps.specs.Plain.{IsInUse}
use Rattle.volume_steps.specs.Steps.{clear_tail, cut_blocks, inode_put, put_page, resize, tells_node}
use Rattle.volume_steps.proofs.Taking.{frees}
use Rattle.volume_steps.proofs.CutStep.{IsCutStep, with_blocks_below, cut_blocks_step}
use Rattle.volume_steps.proofs.FileSteps.{IsFileStep, IsFileAt, file_at, at_file_is, file_stands, file_step_then}
use Rattle.volume_steps.proofs.Files.{bodies_in_order, maps_same}
use Rattle.volume_steps.proofs.PageStep.{page_step, unchanged_step}
use Rattle.volume_steps.proofs.ResizeStep.{with_file_size, resize_step}
use Rattle.volume_steps.proofs.WriteCall.{at_path_is, IsFilePut, file_put}
use Rattle.volume_steps.proofs.WriteSteps.{IsWriteStep, with_block, none_at, body_at, writes_then, write_as, same_in}

-- ---- entries below an index

module _ {X : Type 0} (from : ℕ) where
  abbrev below : List (ℕ × X) → List (ℕ × X)
  below es = filter (λ (e : ℕ × X). nat_lt e.0 from) es

  at_below : (es : List (ℕ × X)) (j : ℕ) → nat_lt j from ≡ true → at_number (below es) j ≡ at_number es j
  at_below [] j t = refl
  at_below (e ∷ es) j t = elim (cases_Bool (nat_lt e.0 from)) [
    | inl y ↦ elim (cases_Bool (is_eq (nat_cmp j e.0))) [
      | inl s ↦ rw (y, s) refl
      | inr a ↦ rw (y, a) (at_below es j t)
    ]
    | inr z ↦
        let apart : is_eq (nat_cmp j e.0) ≡ false = false_from_ne_true (is_eq (nat_cmp j e.0)) (λ s. true≢false (sym t ∙ (ap (λ k. nat_lt k from) (number_same j e.0 s) ∙ z))) in
        rw (z, apart) (at_below es j t)
  ]

  none_above : (es : List (ℕ × X)) (j : ℕ) → nat_lt j from ≡ false → at_number (below es) j ≡ None
  none_above [] j f = refl
  none_above (e ∷ es) j f = elim (cases_Bool (nat_lt e.0 from)) [
    | inr z ↦ rw z (none_above es j f)
    | inl y ↦
        let apart : is_eq (nat_cmp j e.0) ≡ false = false_from_ne_true (is_eq (nat_cmp j e.0)) (λ s. true≢false (sym y ∙ (ap (λ k. nat_lt k from) (sym (number_same j e.0 s)) ∙ f))) in
        rw (y, apart) (none_above es j f)
  ]

  keys_below : (es : List (ℕ × X)) → keys_of (below es) ≡ filter (λ k. nat_lt k from) (keys_of es)
  keys_below [] = refl
  keys_below (e ∷ es) = elim (cases_Bool (nat_lt e.0 from)) [
    | inl y ↦ rw y (ap (λ (ks : List ℕ). e.0 ∷ ks) (keys_below es))
    | inr z ↦ rw z (keys_below es)
  ]

  order_below : (es : List (ℕ × X)) → InOrder es → InOrder (below es)
  order_below es order = subst (IsStrictlySortedBy nat_cmp) (sym (keys_below es)) (IsStrictlySortedBy-filter nat_cmp (λ k. nat_lt k from) (keys_of es) order)

-- a cut by its size is one by the index where this ends
same_below : (size k : ℕ) → nat_lt (1024 * k) size ≡ nat_lt k (div_ceil size 1024)
same_below size k =
    let ceil = div_ceil_times size 1024 (omega arith) in
    elim (cases_lt k (div_ceil size 1024)) [
      | inl low ↦ lt-ltb (1024 * k) size (omega arith) ∙ sym (lt-ltb k (div_ceil size 1024) low)
      | inr high ↦ le-ltb (1024 * k) size (omega arith) ∙ sym (le-ltb k (div_ceil size 1024) high)
    ]

keys_cut : (size : ℕ) (es : List (ℕ × List ℕ)) → keys_of (map (cut_entry size) es) ≡ keys_of es
keys_cut size [] = refl
keys_cut size (e ∷ es) = ap (λ (ks : List ℕ). e.0 ∷ ks) (keys_cut size es)

cut_below : (size : ℕ) (es : List (ℕ × List ℕ)) → filter (kept size) es ≡ filter (λ (e : ℕ × List ℕ). nat_lt e.0 (div_ceil size 1024)) es
cut_below size es = ap (λ (p : ℕ × List ℕ → Bool). filter p es) (λ k. λ e. same_below size e.0 k)

order_cut : (size : ℕ) (es : List (ℕ × List ℕ)) → InOrder es → InOrder (cut_entries size es)
order_cut size es order =
    subst (IsStrictlySortedBy nat_cmp) (sym (keys_cut size (filter (kept size) es)))
    (subst InOrder (sym (cut_below size es)) (order_below (div_ceil size 1024) es order))

-- ---- bytes behind the size become zeros

pub cut_length : (size index : ℕ) (body : List ℕ) → length body ≡ 1024 → 1024 * index < size → length (cut_body size index body) ≡ 1024
cut_length size index body whole low = elim (cases_Bool (nat_le (1024 * index + 1024) size)) [
  | inl y ↦ rw y whole
  | inr z ↦ rw z (parts_length (leb-false _ _ z))
]
  where
    parts_length : size < 1024 * index + 1024 → length (take (size - 1024 * index) body ++ replicate (1024 - (size - 1024 * index)) 0) ≡ 1024
    parts_length high =
        let a = length-append (take (size - 1024 * index) body) (replicate (1024 - (size - 1024 * index)) 0) in
        let b = length-take (size - 1024 * index) body in
        let zeros : List ℕ = replicate (1024 - (size - 1024 * index)) 0 in
        let c : length zeros ≡ 1024 - (size - 1024 * index) = length-replicate (1024 - (size - 1024 * index)) 0 in
        omega arith

-- in the file that comes out the block where the size ends has zeros behind it
pub record IsCleared (size : ℕ) (f e : File) : Type 0 where
  pub size_is : e.size ≡ f.size
  pub links_are : e.links ≡ f.links
  pub order : InOrder e.blocks
  pub low : (j : ℕ) → 1024 * j < size → at_number e.blocks j ≡ left_of size j (at_number f.blocks j)
  pub high : (j : ℕ) → size ≤ 1024 * j → at_number e.blocks j ≡ at_number f.blocks j

-- the block where the size ends is written, if it is mapped
abbrev pub IsTail : ℕ → ℕ → File → ℕ → ℕ → Type 0
IsTail n size f birth index = (birth ≡ n) × (index ≡ size / 1024) × (size % 1024 ≢ 0) × (is_some (at_number f.blocks (size / 1024)) ≡ true)

-- a block before it stays
left_before : (size j : ℕ) (o : Option (List ℕ)) → 1024 * j + 1024 ≤ size → left_of size j o ≡ o
left_before size j None low = refl
left_before size j (Some body) low = rw (le-leb (1024 * j + 1024) size low) refl

pub record HasCleared (tx : ℕ) (v : VolumeNow) (n size : ℕ) (f : File) (c : Change) : Type 0 where
  pub file : File
  pub cleared : IsCleared size f file
  pub step : IsWriteStep tx v n c file (IsTail n size f)
  pub zones_same : c.volume.zones ≡ v.zones

module _ (tx : ℕ) (v : VolumeNow) (h : IsInUse v) (n : ℕ) (f : File) (found : at_number (tree_of_now v) n ≡ Some (nodes.File f)) (size : ℕ) where
  x : IsFileAt v n f
  x = file_at v h n f found

  abbrev blocks : List (List ℕ)
  blocks = v.contents.blocks

  abbrev last : ℕ
  last = size / 1024

  abbrev zone : ℕ
  zone = zone_in blocks x.placed.inode (block last)

  blocks_are : f.blocks ≡ bodies_of blocks x.zones
  blocks_are = ap (λ (f : File). f.blocks) x.file

  order : InOrder f.blocks
  order = subst InOrder (sym blocks_are) (bodies_in_order blocks x.zones x.part.rising)

  not_mapped : zone ≡ 0 → at_number f.blocks last ≡ None
  not_mapped hole = ap (λ (es : List (ℕ × List ℕ)). at_number es last) blocks_are
      ∙ none_at blocks x.zones last (λ m i e. (let told = x.part.listed m i in told.1 (sym told.0 ∙ (ap (λ k. zone_in blocks x.placed.inode (block k)) e ∙ hole))))

  mapped : zone ≢ 0 → at_number f.blocks last ≡ Some (disk_of blocks zone)
  mapped some = ap (λ (es : List (ℕ × List ℕ)). at_number es last) blocks_are ∙ body_at blocks x.zones (record { index = last; zone = zone }) x.part.rising (x.part.full last some)

  -- nothing to clear
  as_before : ((size % 1024 ≡ 0) ⊎ (zone ≡ 0)) → IsCleared size f f
  as_before why = record {
    size_is = refl;
    links_are = refl;
    order = order;
    low = λ j low. elim (cases_eq j last) [
      | inr a ↦ sym (left_before size j (at_number f.blocks j) (omega arith))
      | inl e ↦ elim why [
        | inl even ↦ absurd (omega arith)
        | inr hole ↦
            let none : at_number f.blocks j ≡ None = ap (at_number f.blocks) e ∙ not_mapped hole in
            none ∙ sym (ap (left_of size j) none)
      ]
    ];
    high = λ j low. refl;
  }

  no_tail : ((size % 1024 ≡ 0) ⊎ (zone ≡ 0)) → (birth index : ℕ) → IsTail n size f birth index → ⊥
  no_tail (inl even) birth index w = w.2 even
  no_tail (inr hole) birth index w = false≢true (sym (ap is_some (not_mapped hole)) ∙ w.3)

  stays : ((size % 1024 ≡ 0) ⊎ (zone ≡ 0)) → HasCleared tx v n size f (unchanged v)
  stays why = record {
    file = f;
    cleared = as_before why;
    step = write_as tx v n (unchanged v) f (λ birth index. ⊥) (IsTail n size f) (record { step = unchanged_step tx v h n f found; none_freed = refl; none_dropped = refl }) (λ birth index z. absurd z) (no_tail why);
    zones_same = refl;
  }

  -- the block is written
  abbrev content : List ℕ
  content = cut_body size last (disk_of blocks zone)

  written_cleared : size % 1024 ≢ 0 → zone ≢ 0 → IsCleared size f (with_block f last content)
  written_cleared odd some = record {
    size_is = refl;
    links_are = refl;
    order = in_order_put f.blocks last content order;
    low = λ j low. elim (cases_eq j last) [
      | inl e ↦ subst (λ j. at_number (put_number f.blocks last content) j ≡ left_of size j (at_number f.blocks j)) (sym e) (at_put_number f.blocks last content ∙ sym (ap (left_of size last) (mapped some)))
      | inr a ↦ at_put_number_apart f.blocks last content j a ∙ sym (left_before size j (at_number f.blocks j) (omega arith))
    ];
    high = λ j low. at_put_number_apart f.blocks last content j (λ e. (omega arith));
  }

  writes_tail : size % 1024 ≢ 0 → zone ≢ 0 → HasCleared tx v n size f (put_page v n last zone content)
  writes_tail odd some = record {
    file = with_block f last content;
    cleared = written_cleared odd some;
    step = write_as tx v n (put_page v n last zone content) (with_block f last content) (λ birth at. (birth ≡ n) × (at ≡ last)) (IsTail n size f)
        (record {
          step = subst (λ f. IsFileStep tx v n (put_page v n last zone content) f (λ birth at. (birth ≡ n) × (at ≡ last))) (sym (ap (λ (f : File). with_block f last content) x.file))
              (page_step tx v h n x.placed x.zones x.stands x.is_file content (cut_length size last (disk_of blocks zone) (h.volume.0.whole zone) (omega arith)) last some);
          none_freed = refl;
          none_dropped = refl;
        })
        (λ birth at e. (e.0, e.1, odd, ap is_some (mapped some))) (λ birth at w. (w.0, w.1));
    zones_same = refl;
  }

  abbrev cleared_by : Placed → List Mapped → Change
  cleared_by p zones =
      if nat_eq (size % 1024) 0 || nat_eq (zone_in blocks p.inode (block (size / 1024))) 0 then unchanged v
      else put_page v n (size / 1024) (zone_in blocks p.inode (block (size / 1024))) (cut_body size (size / 1024) (disk_of blocks (zone_in blocks p.inode (block (size / 1024)))))

  pub clear_step : HasCleared tx v n size f (clear_tail v n size)
  clear_step = subst (HasCleared tx v n size f) (sym (at_file_is v n x.placed x.zones cleared_by x.stands x.is_file)) (elim (cases_Bool (nat_eq (size % 1024) 0 || nat_eq zone 0)) [
    | inl y ↦ subst (HasCleared tx v n size f) (let e : unchanged v ≡ cleared_by x.placed x.zones = rw y refl in e)
        (stays (⊎_elim (λ even. inl (eqb-true _ _ even)) (λ hole. inr (eqb-true _ _ hole)) (or_cases (nat_eq (size % 1024) 0) (nat_eq zone 0) y)))
    | inr z ↦ subst (HasCleared tx v n size f) (let e : put_page v n last zone content ≡ cleared_by x.placed x.zones = rw z refl in e)
        (let both = or_parts (nat_eq (size % 1024) 0) (nat_eq zone 0) z in writes_tail (eqb-false _ _ both.0) (eqb-false _ _ both.1))
  ])

-- ---- a cut, and then a write below it

module _ (tx : ℕ) (v : VolumeNow) (h : IsInUse v) (n from : ℕ) (c d : Change) (f e : File) (Writes : ℕ → ℕ → Type 0) (one : IsCutStep tx v n from c f) (two : IsWriteStep tx c.volume n d e Writes) (under : (birth index : ℕ) → Writes birth index → index < from) where
  pub cut_then : IsFileStep tx v n (followed_by c (λ w. d)) e (λ birth index. ⊥ ⊎ Writes birth index)
  cut_then = file_step_then tx v h n c d f e (λ birth index. ⊥) Writes one.step two.step (record {
    not_dropped = λ x i j. same_in c.touched.pages one.no_pages x i;
    not_written = λ x y i j same also. (let gone = one.dropped x i in let low = under y.birth y.index (two.step.steady.told.pages_are_written y j).1 in let high = gone.1 in omega arith);
    not_new = λ zone i used. absurd (same_in d.touched.freed two.none_freed zone i);
  })

-- ---- zones that stay

resize_zones : (v : VolumeNow) (n : ℕ) (change : ℕ → ℕ) → (resize v n change).volume.zones ≡ v.zones
resize_zones v n change = by (at_number v.contents.nodes n)
  where
    either : (p : Placed) (b : Bool) → (if b then unchanged v else record { volume = inode_put v n p (with_size p.inode (change p.inode.size)); touched = tells_node n (back_told v.geometry p (with_size p.inode (change p.inode.size))) }).volume.zones ≡ v.zones
    either p true = refl
    either p false = refl

    by : (o : Option Placed) → (elim o as (λ _. Change) [
      | None ↦ unchanged v
      | Some p ↦ if change p.inode.size == p.inode.size then unchanged v else record { volume = inode_put v n p (with_size p.inode (change p.inode.size)); touched = tells_node n (back_told v.geometry p (with_size p.inode (change p.inode.size))) }
    ]).volume.zones ≡ v.zones
    by None = refl
    by (Some p) = either p (change p.inode.size == p.inode.size)

-- ---- a truncate that is not refused

module _ (tx : ℕ) (v : VolumeNow) (h : IsInUse v) (path : List ℕ) (size : ℕ) (d : Done) (done : truncate_row (tree_of_now v) path size ≡ Ok d) where
  pub put : IsFilePut (tree_of_now v) path (λ f. cut_file f size) d
  put = (file_put (tree_of_now v) path size (λ f. cut_file f size) d done).0

  fits : size ≤ largest_size
  fits = (file_put (tree_of_now v) path size (λ f. cut_file f size) d done).1

  abbrev pub n : ℕ
  n = put.found.birth

  abbrev pub f : File
  f = put.file

  abbrev from : ℕ
  from = div_ceil size 1024

  abbrev first : Change
  first = cut_blocks v tx n from

  abbrev low : File
  low = with_blocks_below f from

  one : IsCutStep tx v n from first low
  one = cut_blocks_step tx v h n f put.stands from

  low_stands : at_number (tree_of_now first.volume) n ≡ Some (nodes.File low)
  low_stands = file_stands tx v n first low (λ birth index. ⊥) one.step

  two : HasCleared tx first.volume n size low (clear_tail first.volume n size)
  two = clear_step tx first.volume one.step.steady.in_use n low low_stands size

  abbrev second : Change
  second = clear_tail first.volume n size

  three : IsWriteStep tx second.volume n (resize second.volume n (λ old. size)) (with_file_size two.file size) (λ birth index. ⊥)
  three = resize_step tx second.volume two.step.step.steady.in_use n two.file (file_stands tx first.volume n second two.file (IsTail n size low) two.step.step) (λ old. size) fits

  -- the blocks of the file
  file_order : InOrder f.blocks
  file_order = (let x = file_at v h n f put.stands in subst InOrder (sym (ap (λ (f : File). f.blocks) x.file)) (bodies_in_order v.contents.blocks x.zones x.part.rising))

  cut_are : two.file.blocks ≡ cut_entries size f.blocks
  cut_are = maps_same two.file.blocks (cut_entries size f.blocks) two.cleared.order (order_cut size f.blocks file_order) (λ j. elim (cases_lt (1024 * j) size) [
    | inl under ↦
        let is : nat_lt (1024 * j) size ≡ true = lt-ltb (1024 * j) size under in
        two.cleared.low j under ∙ (ap (left_of size j) (at_below from f.blocks j (sym (same_below size j) ∙ is)) ∙ sym (cut_in size f.blocks j is))
    | inr over ↦
        let is : nat_lt (1024 * j) size ≡ false = le-ltb (1024 * j) size over in
        two.cleared.high j over ∙ (none_above from f.blocks j (sym (same_below size j) ∙ is) ∙ sym (cut_out size f.blocks j is))
  ])

  after_is : with_file_size two.file size ≡ cut_file f size
  after_is = λ k. record { size = size; links = two.cleared.links_are k; blocks = cut_are k }

  abbrev rest : Change
  rest = followed_by second (λ w. resize second.volume n (λ old. size))

  both : IsWriteStep tx first.volume n rest (with_file_size two.file size) (λ birth index. IsTail n size low birth index ⊎ ⊥)
  both = writes_then tx first.volume one.step.steady.in_use n second (resize second.volume n (λ old. size)) two.file (with_file_size two.file size) (IsTail n size low) (λ birth index. ⊥) two.step three

  under : (birth index : ℕ) → IsTail n size low birth index ⊎ ⊥ → index < from
  under birth index (inl w) = (let ceil = div_ceil_times size 1024 (omega arith) in let e = w.1 in let odd = w.2 in omega arith)
  under birth index (inr z) = absurd z

  -- The file is cut.
  pub truncate_step : IsFileStep tx v n (truncate v tx path size) (cut_file f size) (λ birth index. ⊥ ⊎ (IsTail n size low birth index ⊎ ⊥))
  truncate_step =
      subst (λ c. IsFileStep tx v n c (cut_file f size) (λ birth index. ⊥ ⊎ (IsTail n size low birth index ⊎ ⊥)))
      (sym (at_path_is v path put.found (λ birth. followed_by (cut_blocks v tx birth from) (λ u. followed_by (clear_tail u birth size) (λ w. resize w birth (λ old. size)))) put.walked))
      (subst (λ f. IsFileStep tx v n (followed_by first (λ w. rest)) f (λ birth index. ⊥ ⊎ (IsTail n size low birth index ⊎ ⊥))) after_is
      (cut_then tx v h n from first rest low (with_file_size two.file size) (λ birth index. IsTail n size low birth index ⊎ ⊥) one both under))

  pub truncate_free : frees (truncate v tx path size).volume.zones ≡ frees v.zones
  truncate_free =
      ap (λ (c : Change). frees c.volume.zones) (at_path_is v path put.found (λ birth. followed_by (cut_blocks v tx birth from) (λ u. followed_by (clear_tail u birth size) (λ w. resize w birth (λ old. size)))) put.walked)
      ∙ (ap frees (resize_zones second.volume n (λ old. size) ∙ two.zones_same) ∙ one.free_same)

  -- the pairs that it writes
  pub tail_there : (birth index : ℕ) → ⊥ ⊎ (IsTail n size low birth index ⊎ ⊥) → IsTail n size f birth index
  tail_there birth index (inl z) = absurd z
  tail_there birth index (inr (inr z)) = absurd z
  tail_there birth index (inr (inl w)) = (w.0, w.1, w.2, ap is_some (sym (tail_kept w.2)) ∙ w.3)
    where
      tail_kept : size % 1024 ≢ 0 → at_number low.blocks (size / 1024) ≡ at_number f.blocks (size / 1024)
      tail_kept odd = at_below from f.blocks (size / 1024) (lt-ltb (size / 1024) from (let ceil = div_ceil_times size 1024 (omega arith) in omega arith))

  pub there_tail : (birth index : ℕ) → IsTail n size f birth index → ⊥ ⊎ (IsTail n size low birth index ⊎ ⊥)
  there_tail birth index w = inr (inl (w.0, w.1, w.2, ap is_some (tail_kept w.2) ∙ w.3))
    where
      tail_kept : size % 1024 ≢ 0 → at_number low.blocks (size / 1024) ≡ at_number f.blocks (size / 1024)
      tail_kept odd = at_below from f.blocks (size / 1024) (lt-ltb (size / 1024) from (let ceil = div_ceil_times size 1024 (omega arith) in omega arith))
