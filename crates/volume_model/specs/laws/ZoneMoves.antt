-- Moves with zones: a block of a node is mapped, and blocks of a file from an index on go. Volumes stand before and after each.
use Rattle.std.specs.Prelude.{◌≡◌, ◌≢◌, ℕ, ◌/◌, ◌%◌, ◌<◌, ◌≤◌, nat_lt, nat_eq, Bool, true, false, if◌then◌else◌, List, length, filter, Some, refl, ◌⊎◌}
use Rattle.std.proofs.Common.{sym, ap, subst, ◌∙◌, inl, inr, arith}
use Rattle.std.proofs.lemmas.Bool.{cases_Bool, cases_eq, eqb-true, eqb-false, true≢false}
use Rattle.blk_base.specs.Members.{In}
use Rattle.blk_base.specs.laws.Members.{In-filter, filter-In}
use Rattle.byte_fields.specs.Fields.{record_at}
use Rattle.minix_layout.specs.Widths.{slot_size, slots_a_block}
use Rattle.minix_layout.specs.declared.division.Geometry.{Geometry}
use Rattle.minix_layout.specs.declared.inode.Inode.{Inode}
use Rattle.minix_layout.specs.Geometry.{IsSound}
use Rattle.minix_layout.specs.Slots.{slot_of}
use Rattle.tree_model.specs.Maps.{at_number, put_number}
use Rattle.volume_ops.specs.declared.found.Mapped.{Mapped}
use Rattle.volume_ops.specs.Places.{is_directory, is_file}
use Rattle.volume_ops.specs.Volume.{disk_of}
use Rattle.volume_model.specs.declared.placed.Placed.{Placed}
use Rattle.volume_model.specs.declared.placed.Part.{Part}
use Rattle.volume_model.specs.declared.placed.Part.TheVariants as parts
use Rattle.volume_model.specs.declared.placed.DirectoryPart.{DirectoryPart}
use Rattle.volume_model.specs.Changes.{Changes}
use Rattle.volume_model.specs.laws.Changes.{changes_then, table_below}
use Rattle.volume_model.specs.laws.Back.{changes_back, back_here}
use Rattle.volume_model.specs.Volume.{Place, block, indirect, double, inner, zone_in, IsDirectoryPart, IsFilePart, IsPart, HasNames, IsVolumeOf, IsOfNumbers, at_indirect, at_double, at_inner}
use Rattle.volume_model.specs.laws.Written.{zone_kept, part_kept}
use Rattle.volume_model.specs.MapBlock.{OpenInode, own_of, TakenZones, map_block}
use Rattle.volume_model.specs.Ways.{way, IsJust}
use Rattle.volume_model.specs.laws.MapBlock.{IsFit, Outcome, Mine, came, had, CameFor, changes_wider, is_block}
use Rattle.volume_model.specs.laws.OnWay.{way_on, on_way, in_list, mapped_block, just_same, just_mapped}
use Rattle.volume_model.specs.Cut.{IsKeep, cut_to}
use Rattle.volume_model.specs.laws.Cut.{CutOutcome, cut_block}
use Rattle.volume_model.specs.laws.NodeMoves.{changed_stands, changed_just}
use Rattle.volume_model.specs.Moves.{MayChange, AreJust, AreFree, with_mapped, inode_back}
use Rattle.volume_model.specs.laws.Mapped.{mapped_new, mapped_kept, mapped_cases, rising_mapped, rising_below}

not_block : (x : Place) → IsOfNumbers x → is_block x ≡ false
not_block indirect at_indirect = refl
not_block double at_double = refl
not_block (inner k) at_inner = refl
not_block (block i) n = elim n [ ]

pub no_numbers : (x : Place) (i : ℕ) → x ≡ block i → IsOfNumbers x → ⊥
no_numbers x i e n = true≢false (sym (ap is_block e) ∙ not_block x n)

-- ---- what a node has before it changes

module _ (g : Geometry) (sound : IsSound g) (blocks : List (List ℕ)) (nodes : List (ℕ × Placed)) (n : ℕ) (p : Placed) (h : IsVolumeOf g blocks nodes) (stands : at_number nodes n ≡ Some p) where
  abbrev pub before : OpenInode
  before = record { blocks = blocks; inode = p.inode }

  pub fit_before : IsFit g before
  fit_before =
      let told = h.each n p stands in
      record { whole = h.whole; size = h.size; fits = told.fits; within = told.zones; apart = λ x y same some. (h.zones n n p p x y stands stands same some).1 }

  pub theirs_apart : (a : ℕ) (r : Placed) (x y : Place) → at_number nodes a ≡ Some r → a ≢ n → own_of before x ≡ zone_in blocks r.inode y → own_of before x ≢ 0 → ⊥
  theirs_apart a r x y at apart same some = apart (sym (h.zones n a p r x y stands at same some).0)

  -- the blocks and the inode afterwards, and the node's part
  pub record MayMove (u : OpenInode) (part : Part) (Z : ℕ → Type 0) : Type 0 where
    pub fit : IsFit g u
    pub changes : Changes g (λ _. ⊥) Z blocks u.blocks
    pub not_theirs : (a : ℕ) (r : Placed) (x : Place) → at_number nodes a ≡ Some r → a ≢ n → zone_in blocks r.inode x ≢ 0 → Z (zone_in blocks r.inode x) → ⊥
    pub none_of_theirs : (a : ℕ) (r : Placed) (x y : Place) → at_number nodes a ≡ Some r → a ≢ n → own_of u x ≡ zone_in blocks r.inode y → own_of u x ≢ 0 → ⊥
    pub part_is : IsPart g u.blocks u.inode part
    pub names : (d : DirectoryPart) → part ≡ parts.Directory d → HasNames nodes d

  module _ (u : OpenInode) (part : Part) (Z : ℕ → Type 0) (may : MayMove u part Z) where
    abbrev pub written : List (List ℕ)
    written = inode_back g u.blocks p u.inode

    abbrev pub moved : Placed
    moved = record { number = p.number; inode = u.inode; part = part }

    pub table : Changes g (λ j. j ≡ p.number) (λ _. ⊥) u.blocks written
    table = (let told = h.each n p stands in changes_back g u.blocks p u.inode sound may.fit.whole may.fit.size told.some told.within may.fit.fits)

    pub same_disk : (x : Place) → own_of u x ≢ 0 → disk_of written (own_of u x) ≡ disk_of u.blocks (own_of u x)
    same_disk x some = table.zones _ (may.fit.within x some).0 (λ z. z)

    pub same_zone : (x : Place) → zone_in written u.inode x ≡ own_of u x
    same_zone = zone_kept u.blocks written u.inode same_disk

    pub may_change : MayChange g blocks written nodes n p moved (λ z. Z z ⊎ ⊥)
    may_change =
        let told = h.each n p stands in
        let t = table_below g p.number sound told.some told.within in
        let some_zone = sound.some_zone in
        let size = may.fit.size in
        record {
          stands = stands;
          number = refl;
          changes = changes_wider g (λ j i. elim i [ inl w ↦ absurd w | inr e ↦ e ]) (λ b i. i) (changes_then g may.changes table);
          not_theirs = λ a r x at apart some z. elim z [ inl w ↦ may.not_theirs a r x at apart some w | inr w ↦ w ];
          stored = record {
            some = told.some;
            within = told.within;
            fits = may.fit.fits;
            inode = back_here g u.blocks p u.inode may.fit.whole (omega arith) may.fit.fits (may.changes.inodes p.number told.some told.within (λ z. z) ∙ told.inode);
            zones = λ x some. subst (λ v. (g.first ≤ v) × (v < g.zones)) (sym (same_zone x)) (may.fit.within x (λ none. some (same_zone x ∙ none)));
            part = part_kept u.blocks written u.inode same_disk g part may.part_is;
          };
          apart = λ x y same some. may.fit.apart x y (sym (same_zone x) ∙ (same ∙ same_zone y)) (λ none. some (same_zone x ∙ none));
          none_of_theirs = λ a r x y at apart same some. may.none_of_theirs a r x y at apart (sym (same_zone x) ∙ same) (λ none. some (same_zone x ∙ none));
          names = may.names;
        }

    pub moved_stands : IsVolumeOf g written (put_number nodes n moved)
    moved_stands = changed_stands g blocks written nodes n p moved (λ z. Z z ⊎ ⊥) h may_change

    pub moved_just : AreJust blocks nodes → IsJust (own_of u) → AreJust written (put_number nodes n moved)
    moved_just just mine = changed_just g blocks written nodes n p moved (λ z. Z z ⊎ ⊥) h may_change just (just_same (own_of u) (λ x. zone_in written u.inode x) same_zone mine)

  -- ---- a block is mapped

  module _ (t : TakenZones) (content : List ℕ) (content_size : length content ≡ 1024) (index : ℕ) (index_low : index < 262663) (free : AreFree g blocks nodes p.inode t (way index)) where
    abbrev pub grown : OpenInode
    grown = map_block g t content before index

    pub map_outcome : Outcome g t before grown (way index)
    map_outcome = mapped_block g sound t content content_size before index index_low fit_before (record {
      some = free.some;
      low = free.low;
      high = free.high;
      fits = free.fits;
      fresh = λ x y i none. free.free n p x y stands i none;
      differ = free.differ;
    })

    abbrev pub MapWrites : ℕ → Type 0
    MapWrites = Mine (own_of before) (CameFor (own_of before) t (way index))

    pub may_map : (part : Part) → IsPart g grown.blocks grown.inode part → ((d : DirectoryPart) → part ≡ parts.Directory d → HasNames nodes d) → MayMove grown part MapWrites
    may_map part is names =
        let o = map_outcome in
        record {
          fit = o.fit;
          changes = o.changes;
          not_theirs = λ a r x at apart some z. not_theirs a r x at apart z;
          none_of_theirs = λ a r x y at apart same some. elim (cases_Bool (nat_eq (own_of before x) 0)) [
            | inr m ↦ theirs_apart a r x y at apart (sym (o.got.kept x (eqb-false _ _ m)) ∙ same) (eqb-false _ _ m)
            | inl z ↦ elim (in_list x (way index)) [
              | inr out ↦ some (o.got.others x out ∙ eqb-true _ _ z)
              | inl i ↦ free.free a r x y at i (eqb-true _ _ z) (sym same ∙ o.got.taken x i (eqb-true _ _ z))
            ]
          ];
          part_is = is;
          names = names;
        }
      where
        not_theirs : (a : ℕ) (r : Placed) (x : Place) → at_number nodes a ≡ Some r → a ≢ n → MapWrites (zone_in blocks r.inode x) → ⊥
        not_theirs a r x at apart (came c) = free.free a r c.0 x at c.1 c.2 (sym c.3)
        not_theirs a r x at apart (had q m some e) = theirs_apart a r q x at apart e some

    -- a data block that was there keeps its bytes
    pub data_kept : (i : ℕ) → own_of before (block i) ≢ 0 → disk_of grown.blocks (own_of before (block i)) ≡ disk_of blocks (own_of before (block i))
    data_kept i some = map_outcome.changes.zones _ ((h.each n p stands).zones (block i) some).0 by
      where
        by : MapWrites (own_of before (block i)) → ⊥
        by (came c) = free.free n p c.0 (block i) stands c.1 c.2 (sym c.3)
        by (had q m there e) = no_numbers q i ((h.zones n n p p q (block i) stands stands e there).1) m

    -- a directory's slots stay
    pub map_directory : (d : DirectoryPart) → IsDirectoryPart g blocks p.inode d → IsDirectoryPart g grown.blocks grown.inode d
    map_directory d is = (let o = map_outcome in record {
      kind = ap (λ (i : Inode). is_directory i.mode) o.fields ∙ is.kind;
      width = is.width;
      size = ap (λ (i : Inode). i.size) o.fields ∙ is.size;
      slots = λ k s at.
          let old = is.slots k s at in
          let zone : own_of grown (block (k / slots_a_block g.width)) ≡ own_of before (block (k / slots_a_block g.width)) = o.got.kept (block (k / slots_a_block g.width)) old.mapped in
          record {
            mapped = λ none. old.mapped (sym zone ∙ none);
            stands = ap (λ z. slot_of g.width (record_at (slot_size g.width) (k % slots_a_block g.width) (disk_of grown.blocks z))) zone ∙ (ap (λ body. slot_of g.width (record_at (slot_size g.width) (k % slots_a_block g.width) body)) (data_kept (k / slots_a_block g.width) old.mapped) ∙ old.stands);
          };
    })

    -- a file's list has the block
    pub map_file : (zones : List Mapped) → own_of before (block index) ≡ 0 → IsFilePart blocks p.inode zones → IsFilePart grown.blocks grown.inode (with_mapped zones index t.data_zone)
    map_file zones hole is =
        let o = map_outcome in
        let i = on_way (block index) index (refl, index_low) in
        let here : own_of grown (block index) ≡ t.data_zone = o.got.taken (block index) i hole in
        record {
          kind = ap (λ (i : Inode). is_file i.mode) o.fields ∙ is.kind;
          listed = λ m j. elim (mapped_cases index t.data_zone zones m j) [
            | inl e ↦ (ap (λ (m : Mapped). own_of grown (block m.index)) (sym e) ∙ (here ∙ ap (λ (m : Mapped). m.zone) e), (λ none. free.some (block index) i hole (ap (λ (m : Mapped). m.zone) e ∙ none)))
            | inr old ↦
                let told = is.listed m old in
                (o.got.kept (block m.index) (λ none. told.1 (sym told.0 ∙ none)) ∙ told.0, told.1)
          ];
          full = λ j some. elim (cases_eq j index) [
            | inl e ↦
                let z : own_of grown (block j) ≡ t.data_zone = ap (λ j. own_of grown (block j)) e ∙ here in
                subst (λ (m : Mapped). In m (with_mapped zones index t.data_zone)) (λ k. record { index = sym e k; zone = sym z k }) (mapped_new index t.data_zone zones)
            | inr a ↦
                let same : own_of grown (block j) ≡ own_of before (block j) = o.got.others (block j) (λ l. (let on = way_on (block j) index l in a on.0)) in
                mapped_kept index t.data_zone zones _ (subst (λ z. In (record { index = j; zone = z }) zones) (sym same) (is.full j (λ none. some (same ∙ none))))
          ];
          rising = rising_mapped index t.data_zone zones is.rising (λ m j e. (let told = is.listed m j in told.1 (sym told.0 ∙ (ap (λ k. own_of before (block k)) e ∙ hole))));
        }

    pub map_just : IsJust (own_of before) → IsJust (own_of grown)
    map_just = just_mapped (own_of before) (own_of grown) t index index_low map_outcome.got free.some

    -- A block of a directory is mapped.
    pub mapped_directory_stands : (d : DirectoryPart) → p.part ≡ parts.Directory d → IsVolumeOf g (inode_back g grown.blocks p grown.inode) (put_number nodes n (record { number = p.number; inode = grown.inode; part = parts.Directory d }))
    mapped_directory_stands d is =
        moved_stands grown (parts.Directory d) MapWrites (may_map (parts.Directory d) (map_directory d (subst (IsPart g blocks p.inode) is (h.each n p stands).part))
        (λ e same. h.names n p e stands (is ∙ same)))

    -- A block of a file is mapped.
    pub mapped_file_stands : (zones : List Mapped) → p.part ≡ parts.File zones → own_of before (block index) ≡ 0 →
        IsVolumeOf g (inode_back g grown.blocks p grown.inode) (put_number nodes n (record { number = p.number; inode = grown.inode; part = parts.File (with_mapped zones index t.data_zone) }))
    mapped_file_stands zones is hole =
        moved_stands grown _ MapWrites (may_map (parts.File (with_mapped zones index t.data_zone)) (map_file zones hole (subst (IsPart g blocks p.inode) is (h.each n p stands).part))
        (λ e same. absurd (cc same)))

  -- ---- blocks from an index on go

  module _ (from : ℕ) (keeps : Place → Bool) (k : IsKeep (own_of before) from keeps) (just : IsJust (own_of before)) where
    abbrev pub less : OpenInode
    less = cut_to g keeps before from

    pub cut_outcome : CutOutcome g keeps before less
    cut_outcome = cut_block g sound before from keeps k fit_before just

    abbrev pub CutWrites : ℕ → Type 0
    CutWrites b = (q : Place) × IsOfNumbers q × (own_of before q ≢ 0) × (own_of before q ≡ b)

    pub cut_kept : (x : Place) → own_of less x ≢ 0 → (keeps x ≡ true) × (own_of less x ≡ own_of before x)
    cut_kept x some = elim (cases_Bool (keeps x)) [
      | inl t ↦ (t, cut_outcome.cut x ∙ (let e : (if keeps x then own_of before x else 0) ≡ own_of before x = rw t refl in e))
      | inr f ↦ absurd (some (cut_outcome.cut x ∙ (let e : (if keeps x then own_of before x else 0) ≡ 0 = rw f refl in e)))
    ]

    cut_file : (zones : List Mapped) → IsFilePart blocks p.inode zones → IsFilePart less.blocks less.inode (filter (λ m. nat_lt m.index from) zones)
    unfolding cut_to
    cut_file zones is = record {
      kind = is.kind;
      listed = λ m j.
          let told = In-filter (λ (m : Mapped). nat_lt m.index from) zones m j in
          let old = is.listed m told.0 in
          let keep : keeps (block m.index) ≡ true = k.blocks m.index ∙ told.1 in
          (cut_outcome.cut (block m.index) ∙ (let e : (if keeps (block m.index) then own_of before (block m.index) else 0) ≡ own_of before (block m.index) = rw keep refl in e) ∙ old.0, old.1);
      full = λ j some.
          let w = cut_kept (block j) some in
          subst (λ z. In (record { index = j; zone = z }) (filter (λ m. nat_lt m.index from) zones)) (sym w.1)
          (filter-In (λ (m : Mapped). nat_lt m.index from) zones _ (is.full j (λ none. some (w.1 ∙ none))) (sym (k.blocks j) ∙ w.0));
      rising = rising_below from zones is.rising;
    }

    pub may_cut : (zones : List Mapped) → p.part ≡ parts.File zones → MayMove less (parts.File (filter (λ m. nat_lt m.index from) zones)) CutWrites
    may_cut zones is =
        let o = cut_outcome in
        record {
          fit = o.fit;
          changes = o.changes;
          not_theirs = λ a r x at apart some z. theirs_apart a r z.0 x at apart z.3 z.2;
          none_of_theirs = λ a r x y at apart same some. (let w = cut_kept x some in theirs_apart a r x y at apart (sym w.1 ∙ same) (λ none. some (w.1 ∙ none)));
          part_is = cut_file zones (subst (IsPart g blocks p.inode) is (h.each n p stands).part);
          names = λ d same. absurd (cc same);
        }

    -- Blocks of a file from an index on go.
    pub cut_file_stands : (zones : List Mapped) → p.part ≡ parts.File zones →
        IsVolumeOf g (inode_back g less.blocks p less.inode) (put_number nodes n (record { number = p.number; inode = less.inode; part = parts.File (filter (λ m. nat_lt m.index from) zones) }))
    cut_file_stands zones is = moved_stands less (parts.File (filter (λ m. nat_lt m.index from) zones)) CutWrites (may_cut zones is)

    pub cut_file_just : (zones : List Mapped) → p.part ≡ parts.File zones → AreJust blocks nodes →
        AreJust (inode_back g less.blocks p less.inode) (put_number nodes n (record { number = p.number; inode = less.inode; part = parts.File (filter (λ m. nat_lt m.index from) zones) }))
    cut_file_just zones is all = moved_just less (parts.File (filter (λ m. nat_lt m.index from) zones)) CutWrites (may_cut zones is) all cut_outcome.just
