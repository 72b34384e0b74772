-- What the writes of all directories leave: each directory can be read in its new zones, and files stay.
use Rattle.std.specs.Prelude.{◌≡◌, ◌≢◌, ℕ, zero, suc, ◌+◌, ◌-◌, ◌*◌, ◌/◌, ◌%◌, ◌^◌, ◌<◌, ◌≤◌, ◌⊎◌, not, Bool, true, false, List, [], ◌∷◌, length, take, drop, slice_index, Some, Ok, refl}
use Rattle.std.specs.List.{range_with_len, slice_get}
use Rattle.std.proofs.Common.{sym, ap, subst, ◌∙◌, inl, inr, ⊎_elim, arith}
use Rattle.std.proofs.lemmas.Bool.{cases_eq, cases_lt, and_parts, true≢false}
use Rattle.std.proofs.lemmas.Grind.{div_ceil_times}
use Rattle.std.proofs.lemmas.List.{length-drop}
use Rattle.std.proofs.lemmas.Option.{same_Some}
use Rattle.blk_base.specs.Members.{In}
use Rattle.blk_base.specs.Block.{filled}
use Rattle.blk_base.specs.laws.Members.{In-append_cases, In-append_left, In-append_right, In-filter, In-map}
use Rattle.minix_layout.specs.declared.division.Geometry.{Geometry}
use Rattle.minix_layout.specs.declared.inode.Inode.{Inode}
use Rattle.minix_layout.specs.declared.slot.Slot.{Slot}
use Rattle.minix_layout.specs.Geometry.{IsSound}
use Rattle.minix_layout.specs.Inodes.{FitInode}
use Rattle.minix_layout.specs.Slots.{IsEntry}
use Rattle.tree_model.specs.declared.node.Node.{Node}
use Rattle.tree_model.specs.declared.node.Node.TheVariants as nodes
use Rattle.tree_model.specs.declared.node.Directory.{Directory}
use Rattle.tree_model.specs.declared.node.File.{File}
use Rattle.tree_model.specs.Maps.{at_number}
use Rattle.tree_model.specs.Rooted.{HasEntry}
use Rattle.tree_model.specs.laws.MapsLaws.{found-In, number_here, number_same}
use Rattle.tree_model.proofs.Lookups.{In-at_name}
use Rattle.std.specs.Ordering.{nat_cmp}
use Rattle.volume_ops.specs.Places.{birth_of, inode_of_birth, table_block}
use Rattle.volume_ops.specs.Marks.{is_marked}
use Rattle.volume_ops.specs.Volume.{disk_of, walked}
use Rattle.volume_ops.specs.Walk.{Walked}
use Rattle.volume_ops.specs.VolumeFields.{inode_at, zone_behind, slot_behind, IsBelow}
use Rattle.volume_ops.specs.ZonePlaces.{ZonePlace, zone_in}
use Rattle.volume_ops.specs.Faultless.{IsDirectory, HasZones, zone_at_place, IsReached, at_root, by_name, IsUsed}
use Rattle.volume_ops.specs.VolumeTrees.{IsVolumeTree}
use Rattle.volume_ops.proofs.BlockPlaces.{led_reached}
use Rattle.volume_ops.proofs.WalkTests.{walked_used}
use Rattle.volume_model.specs.ImageNodes.{IsImage}
use Rattle.volume_model.specs.Changes.{Changes}
use Rattle.volume_model.specs.Edits.{Edit, put_inode, set_bit, put_body, touched_by, edited, edited_all}
use Rattle.volume_model.specs.laws.Trees.{In-at}
use Rattle.volume_model.specs.laws.Changes.{table_below, changes_inode, changes_bit}
use Rattle.volume_model.specs.laws.Edits.{inode_here, untouched}
use Rattle.volume_model.proofs.Bytes.{inode_fits}
use Rattle.widening.specs.Written.{put_slots, put_numbers}
use Rattle.widening.specs.Directories.{zones_needed, is_free, free_zones, directories, wide_slots, slot_edits, number_edits, bit_edits, wide_inode, kept_by, own_zones, edits_of, got_by, zones_given, all_edits, has_no_room, all_needed}
use Rattle.widening.specs.Changed.{IsWritten}
use Rattle.widening.specs.Changed as changed
use Rattle.widening.specs.Widened.{wide, magic_edit}
use Rattle.widening.proofs.Entries.{IsGood, IsSmall, behind_good, entries_good}
use Rattle.widening.proofs.OwnZones.{IsOwn}
use Rattle.widening.proofs.ReadBack.{direct_index, length-filled, zone_among, zone_is, zone_once, slot_read}
use Rattle.widening.proofs.ReadBodies.{length-put_numbers}
use Rattle.widening.proofs.Shares.{AreOnce, Meets, met_of, met_in, edit_met, met_edit, left_in, left_apart, got_free, got_all, got_are_free, got_once, met_once, enough, not_many, has_room}
use Rattle.widening.proofs.ShareZones.{slots, top, had as had_list, IsHad, HasTop, is_had, length-slots, slots_apart, slot_had, slot_some, no_top, has_top}
use Rattle.widening.proofs.SlotBodies.{slots_body, in_slot_edits, slot_edits_in, length-slots_body, body_is, numbers_in, no_numbers}
use Rattle.widening.proofs.TreeDirectories.{IsAt, directory_in, directory_at, directories_once}
use Rattle.widening.proofs.WideFields.{IsRewritten, IsRewriting, length-wide_slots}
use Rattle.widening.proofs.Writes.{IsFull, view_set, view_kept, all_full, changes_body, changes_magic, body_there}
use Rattle.widening.proofs.ZoneLists.{AreApart, apart_filter, apart_range, In-range, In-drop, one_index, index_in, index_past}

-- ---- a volume

-- a directory had this zone, or got it
pub record HasGot (g : Geometry) (blocks : List (List ℕ)) (tree : List (ℕ × Node)) (free : List ℕ) (birth zone : ℕ) : Type 0 where
  pub directory : Directory
  pub stands : at_number tree birth ≡ Some (nodes.Directory directory)
  pub left : List ℕ
  pub met : Meets (wide g) blocks (directories tree) free (inode_of_birth birth, directory) left
  pub had_is : IsHad blocks (inode_at g blocks (inode_of_birth birth)) (zones_needed (length directory.names)) left zone

module _ (g : Geometry) (blocks : List (List ℕ)) (tree : List (ℕ × Node)) (all : Walked) (h : IsVolumeTree g blocks tree) (walk : walked g blocks ≡ Ok all) (sound : IsSound g)
    (wide_is_sound : IsSound (wide g)) (image : IsImage g blocks) (narrow : g.width ≤ 30) where
  abbrev pub w : Geometry
  w = wide g

  abbrev pub es : List (ℕ × Directory)
  es = directories tree

  abbrev pub free : List ℕ
  free = free_zones g blocks all.zones

  pub full : IsFull w blocks
  full = (image.whole, image.size)

  -- ---- free zones

  free_in : (z : ℕ) → In z free → (is_marked all.zones z ≡ false) × (g.first ≤ z) × (z < g.zones)
  unfolding free_zones
  free_in z i =
      let x = In-filter (is_free g blocks all.zones) (range_with_len g.first (g.zones - g.first)) z i in
      let range = In-range g.first (g.zones - g.first) z x.0 in
      let some = sound.some_zone in
      let low = range.0 in
      let high = range.1 in
      (unmarked (is_marked all.zones z) (and_parts (not (is_marked all.zones z)) _ x.1).0, low, omega (arith, high, some))
    where
      unmarked : (t : Bool) → not t ≡ true → t ≡ false
      unmarked true e = sym e
      unmarked false e = refl

  free_apart : AreApart free
  unfolding free_zones
  free_apart = apart_filter (is_free g blocks all.zones) (range_with_len g.first (g.zones - g.first)) (apart_range g.first (g.zones - g.first))

  pub free_unused : (z : ℕ) → In z free → IsUsed g blocks z → ⊥
  free_unused z i u = true≢false (sym ((walked_used g blocks all sound.some_inode walk z).1 u) ∙ (free_in z i).0)

  -- ---- nodes of the tree

  reached_at : (birth : ℕ) (node : Node) → at_number tree birth ≡ Some node → IsReached g blocks (inode_of_birth birth)
  reached_at birth node at = (led_reached g blocks tree h (h.rooted.led_to birth node at)).0

  back : (birth : ℕ) (node : Node) → at_number tree birth ≡ Some node → birth_of (inode_of_birth birth) ≡ birth
  back birth node at = (led_reached g blocks tree h (h.rooted.led_to birth node at)).1

  pub within : {n : ℕ} → IsReached g blocks n → n ≤ g.inodes
  within at_root = (let some = sound.some_inode in omega (arith, some))
  within (by_name {inode} {place} {slot} r m) = h.faultless.inode_within inode place slot r m

  positive : (birth : ℕ) → 0 < inode_of_birth birth
  positive birth = grind arith

  small : (birth : ℕ) (node : Node) → at_number tree birth ≡ Some node → IsSmall birth
  small birth node at = (positive birth, (let few = sound.fits.inodes in let low = within (reached_at birth node at) in omega (arith, few, low)))

  same_birth : (a b : ℕ) (m n : Node) → at_number tree a ≡ Some m → at_number tree b ≡ Some n → inode_of_birth a ≡ inode_of_birth b → a ≡ b
  same_birth a b m n at to e = sym (back a m at) ∙ (ap birth_of e ∙ back b n to)

  once : AreOnce w blocks es
  once = directories_once w blocks tree h.rooted.in_order (λ a b m n i j e. same_birth a b m n (In-at tree a m h.rooted.in_order i) (In-at tree b n h.rooted.in_order j) e)

  found_in : (birth : ℕ) (node : Node) → at_number tree birth ≡ Some node → In {X = ℕ × Node} (birth, node) tree
  found_in birth node at = found-In nat_cmp number_here number_same tree birth node at

  module _ (room : has_no_room w blocks es free ≡ false) where
    abbrev pub Met : ℕ × Directory → List ℕ → Type 0
    Met f left = Meets w blocks es free f left

    -- ---- one directory that is written

    abbrev inode_of : ℕ × Directory → Inode
    inode_of f = inode_at g blocks f.0

    abbrev pub needed : ℕ × Directory → ℕ
    needed f = zones_needed (length f.1.names)

    abbrev pub slots_of : ℕ × Directory → List ℕ → List ℕ
    slots_of f left = slots blocks (inode_of f) (needed f) left

    abbrev pub top_of : ℕ × Directory → List ℕ → ℕ
    top_of f left = top blocks (inode_of f) (needed f) left

    abbrev pub Had : ℕ × Directory → List ℕ → ℕ → Type 0
    Had f left z = IsHad blocks (inode_of f) (needed f) left z

    abbrev entries_of : ℕ × Directory → List Slot
    entries_of f = wide_slots f.0 f.1

    abbrev new_inode : ℕ × Directory → List ℕ → Inode
    new_inode f left = wide_inode (inode_of f) (length f.1.names + 2) (slots_of f left) (top_of f left)

    pub record Share (f : ℕ × Directory) (left : List ℕ) : Type 0 where
      pub at : IsAt tree f
      pub stands : at_number tree at.birth ≡ Some (nodes.Directory f.1)
      pub reached : IsReached g blocks f.0
      pub kind : IsDirectory g blocks f.0
      pub one : (x y : ZonePlace) → zone_in blocks (inode_of f) x ≢ 0 → zone_in blocks (inode_of f) x ≡ zone_in blocks (inode_of f) y → x ≡ y
      pub apart : AreApart left
      pub unused : (z : ℕ) → In z left → IsOwn blocks (inode_of f) z → ⊥
      pub some : (z : ℕ) → In z left → z ≢ 0
      pub fits : all_needed (needed f) (kept_by (inode_of f) (needed f)) - length (own_zones blocks (inode_of f) (needed f)) ≤ length left
      pub few : needed f ≤ 519

    pub used_by : (n : ℕ) → IsReached g blocks n → HasZones g blocks n → (z : ℕ) → IsOwn blocks (inode_at g blocks n) z → IsUsed g blocks z
    used_by n r kind z o = record { inode = n; place = o.place; reached = r; kind = kind; some = o.some; stands = o.zone }

    pub share : (f : ℕ × Directory) (left : List ℕ) → Met f left → Share f left
    share f left m =
        let a = directory_at tree f (met_in w blocks es free f left m) in
        let stands = In-at tree a.birth (nodes.Directory f.1) h.rooted.in_order a.stands in
        let r : IsReached g blocks f.0 = subst (λ n. IsReached g blocks n) a.number (reached_at a.birth (nodes.Directory f.1) stands) in
        let kind : IsDirectory g blocks f.0 = subst (λ n. IsDirectory g blocks n) a.number (h.fields.each a.birth (nodes.Directory f.1) stands).kind in
        record {
          at = a;
          stands = stands;
          reached = r;
          kind = kind;
          one = λ x y some same. (h.faultless.zone_once f.0 f.0 x y r r (inl kind) (inl kind) some same).1;
          apart = left_apart w blocks es free f left m free_apart;
          unused = λ z i o. free_unused z (left_in w blocks es free f left z m i) (used_by f.0 r (inl kind) z o);
          some = λ z i. above z (free_in z (left_in w blocks es free f left z m i)).1;
          fits = enough w blocks es free f left (has_room w blocks es free room).1 m;
          few = not_many w blocks es f (has_room w blocks es free room).0 (met_in w blocks es free f left m);
        }
      where
        above : (z : ℕ) → g.first ≤ z → z ≢ 0
        above z low zero_is = let tables = sound.tables_below in omega (arith, low, zero_is, tables)

    module _ (f : ℕ × Directory) (left : List ℕ) (s : Share f left) where
      pub many_slots : length (slots_of f left) ≡ needed f
      many_slots = length-slots blocks (inode_of f) (needed f) left s.one s.apart s.unused s.some s.fits

      slots_differ : AreApart (slots_of f left)
      slots_differ = slots_apart blocks (inode_of f) (needed f) left s.one s.apart s.unused s.some s.fits

      pub slot_is_had : (z : ℕ) → In z (slots_of f left) → Had f left z
      slot_is_had = slot_had blocks (inode_of f) (needed f) left s.one s.apart s.unused s.some s.fits

      slot_there : (z : ℕ) → In z (slots_of f left) → z ≢ 0
      slot_there = slot_some blocks (inode_of f) (needed f) left s.one s.apart s.unused s.some s.fits

      top_none : length (slots_of f left) ≤ 7 → top_of f left ≡ 0
      top_none few = no_top blocks (inode_of f) (needed f) left s.one s.apart s.unused s.some s.fits (let n = many_slots in omega (arith, few, n))

      pub top_is : 7 < length (slots_of f left) → HasTop blocks (inode_of f) (needed f) left s.one s.apart s.unused s.some s.fits
      top_is many = has_top blocks (inode_of f) (needed f) left s.one s.apart s.unused s.some s.fits (let n = many_slots in omega (arith, many, n))

      pub had_within : (m : Met f left) (z : ℕ) → Had f left z → (g.first ≤ z) × (z < g.zones)
      had_within m z (inl o) = subst (λ z. (g.first ≤ z) × (z < g.zones)) o.zone (h.faultless.zone_within f.0 o.place s.reached (inl s.kind) (λ none. o.some (sym o.zone ∙ none)))
      had_within m z (inr t) = let x = free_in z (got_free w blocks es free f left z m t) in (x.1, x.2)

      names_good : (e : List ℕ × ℕ) → In e f.1.names → IsGood e.0 × IsSmall e.1
      names_good e i =
          let named = In-at_name f.1.names e.0 e.1 (h.rooted.names_in_order s.at.birth f.1 s.stands) i in
          let entry : HasEntry tree s.at.birth e.0 e.1 = record { directory = f.1; stands = s.stands; named = named } in
          let led = h.rooted.leads s.at.birth e.0 e.1 entry in
          let x = ((h.fields.each s.at.birth (nodes.Directory f.1) s.stands).names e.0 e.1).0 named in
          (subst IsGood x.name_is (behind_good g.width _ _ x.slot narrow x.stands), small e.1 led.0 led.1)

      parent_small : IsSmall f.1.parent
      parent_small = by s.at.birth s.stands (cases_eq s.at.birth 0)
        where
          by : (b : ℕ) → at_number tree b ≡ Some (nodes.Directory f.1) → (b ≡ 0) ⊎ (b ≢ 0) → IsSmall f.1.parent
          by b at (inl root) =
              (let same : nodes.Directory h.fields.root.0 ≡ nodes.Directory f.1 = same_Some (nodes.Directory h.fields.root.0) (nodes.Directory f.1) (sym h.fields.root.1 ∙ (ap (at_number tree) (sym root) ∙ at)) in
              let below : IsBelow 0 (nodes.Directory f.1) = subst (IsBelow 0) same h.fields.root.2 in
              let one : IsSmall 0 = (omega arith, omega arith) in
              subst (λ p. IsSmall p) (sym below) one)
          by b at (inr apart) =
              (let x = h.fields.has_name b (nodes.Directory f.1) at apart in
              let y = h.fields.leads x.0 x.1 b x.2 in
              let same : y.0 ≡ nodes.Directory f.1 = same_Some y.0 (nodes.Directory f.1) (sym y.1 ∙ at) in
              let below : IsBelow x.0 (nodes.Directory f.1) = subst (IsBelow x.0) same y.2 in
              subst (λ p. IsSmall p) (sym below) (small x.0 (nodes.Directory x.2.directory) x.2.stands))

      pub number_fits : (0 < f.0) × (f.0 < 2 ^ 16)
      number_fits = subst (λ n. (0 < n) × (n < 2 ^ 16)) s.at.number (small s.at.birth (nodes.Directory f.1) s.stands)

      entries_ok : (x : Slot) → In x (entries_of f) → IsEntry 30 x
      entries_ok = entries_good f.0 f.1 number_fits.0 number_fits.1 parent_small names_good

      few_slots : length (slots_of f left) ≤ 519
      few_slots = let n = many_slots in let few = s.few in omega (arith, n, few)

      enough_slots : length (entries_of f) ≤ 32 * length (slots_of f left)
      enough_slots =
          let n = many_slots in
          let all = length-wide_slots f.0 f.1 in
          let ceil = (div_ceil_times (length f.1.names + 2) 32 (omega arith)).0 in
          omega (arith, n, all, ceil)

      few_names : length f.1.names + 2 ≤ 16608
      few_names =
          let few = s.few in
          let ceil = (div_ceil_times (length f.1.names + 2) 32 (omega arith)).0 in
          omega (arith, few, ceil)

      small_zone : (m : Met f left) (z : ℕ) → In z (slots_of f left) → z < 2 ^ 16
      small_zone m z i = let x = (had_within m z (slot_is_had z i)).1 in let few = sound.fits.zones in omega (arith, x, few)

      small_top : (m : Met f left) → top_of f left < 2 ^ 16
      small_top m =
          ⊎_elim
          (λ many. let x = (had_within m (top_of f left) (top_is many).had_is).1 in let few = sound.fits.zones in omega (arith, x, few))
          (λ few. let none = top_none few in omega (arith, none))
          (cases_lt 7 (length (slots_of f left)))

      new_zone : (m : Met f left) (k : ℕ) → slice_index (new_inode f left).zones k < 2 ^ 16
      new_zone m k = by (cases_lt k 7) (cases_lt k (length (slots_of f left)))
        where
          rest : (k : ℕ) → 7 ≤ k → slice_index (new_inode f left).zones k < 2 ^ 16
          rest zero high = omega (arith, high)
          rest (suc zero) high = omega (arith, high)
          rest (suc (suc zero)) high = omega (arith, high)
          rest (suc (suc (suc zero))) high = omega (arith, high)
          rest (suc (suc (suc (suc zero)))) high = omega (arith, high)
          rest (suc (suc (suc (suc (suc zero))))) high = omega (arith, high)
          rest (suc (suc (suc (suc (suc (suc zero)))))) high = omega (arith, high)
          rest (suc (suc (suc (suc (suc (suc (suc zero))))))) high = small_top m
          rest (suc (suc (suc (suc (suc (suc (suc (suc zero)))))))) high = omega arith
          rest (suc (suc (suc (suc (suc (suc (suc (suc (suc k))))))))) high = omega arith

          by : (k < 7) ⊎ (7 ≤ k) → (k < length (slots_of f left)) ⊎ (length (slots_of f left) ≤ k) → slice_index (new_inode f left).zones k < 2 ^ 16
          by (inl low) (inl there) =
              (let x = small_zone m (slice_index (slots_of f left) k) (index_in (slots_of f left) k there) in
              let e = direct_index (slots_of f left) (top_of f left ∷ 0 ∷ []) k low in
              omega (arith, x, e))
          by (inl low) (inr past) =
              (let x = index_past (slots_of f left) k past in
              let e = direct_index (slots_of f left) (top_of f left ∷ 0 ∷ []) k low in
              omega (arith, x, e))
          by (inr high) c = rest k high

      old_fits : FitInode (inode_of f)
      old_fits = inode_fits ((f.0 - 1) % 32) (disk_of blocks (table_block g f.0)) (λ k. image.bytes (table_block g f.0) k)

      new_fits : (m : Met f left) → FitInode (new_inode f left)
      new_fits m =
          let old = old_fits in
          record {
            mode = old.mode;
            uid = old.uid;
            size = (let few = few_names in omega (arith, few));
            time = old.time;
            gid = old.gid;
            links = old.links;
            nine = refl;
            zones = new_zone m;
          }

      length-numbers_body : length (put_numbers 0 (drop 7 (slots_of f left)) (filled 0)) ≡ 1024
      length-numbers_body = let few = few_slots in let part = length-drop 7 (slots_of f left) in length-put_numbers 0 (drop 7 (slots_of f left)) (filled 0) (omega (arith, few, part)) length-filled

    -- ---- the zones of two directories

    pub one_had : (f e : ℕ × Directory) (l m : List ℕ) (z : ℕ) → Met f l → Met e m → Had f l z → Had e m z → (f ≡ e) × (l ≡ m)
    one_had f e l m z a b (inl o) (inl p) =
        let s = share f l a in
        let t = share e m b in
        let same = (h.faultless.zone_once f.0 e.0 o.place p.place s.reached t.reached (inl s.kind) (inl t.kind) (λ none. o.some (sym o.zone ∙ none)) (o.zone ∙ sym p.zone)).0 in
        met_once w blocks es free f e l m once a b same
    one_had f e l m z a b (inl o) (inr j) = absurd (let s = share f l a in free_unused z (got_free w blocks es free e m z b j) (used_by f.0 s.reached (inl s.kind) z o))
    one_had f e l m z a b (inr i) (inl p) = absurd (let t = share e m b in free_unused z (got_free w blocks es free f l z a i) (used_by e.0 t.reached (inl t.kind) z p))
    one_had f e l m z a b (inr i) (inr j) = got_once w blocks es free f e l m z free_apart a b i j

    pub move : (P : ℕ × Directory → List ℕ → Type 0) {f e : ℕ × Directory} {l m : List ℕ} → f ≡ e → l ≡ m → P f l → P e m
    move P {f} {e} {l} {m} same left p = subst (λ x. P x m) same (subst (λ k. P f k) left p)

    -- ---- kinds of writes

    abbrev pub writes : List Edit
    writes = magic_edit ∷ all_edits w blocks es free

    abbrev numbers_of : ℕ × Directory → List ℕ → List ℕ
    numbers_of f left = put_numbers 0 (drop 7 (slots_of f left)) (filled 0)

    pub data Kind : Edit → Type 0 where
      of_magic : Kind magic_edit
      of_bit : (z : ℕ) (used : Bool) → g.first ≤ z → z < g.zones → Kind (set_bit (2 + g.imap) (z - g.first + 1) used)
      of_slots : (f : ℕ × Directory) (left : List ℕ) (j : ℕ) → Met f left → j < length (slots_of f left) → Kind (put_body (slice_index (slots_of f left) j) (slots_body (entries_of f) j))
      of_numbers : (f : ℕ × Directory) (left : List ℕ) → Met f left → 7 < length (slots_of f left) → Kind (put_body (top_of f left) (numbers_of f left))
      of_inode : (f : ℕ × Directory) (left : List ℕ) → Met f left → Kind (put_inode f.0 (new_inode f left))

    -- the zones that a directory takes, and those that it gives up
    abbrev pub taken_by : ℕ × Directory → List ℕ → List ℕ
    taken_by f left = got_by w blocks f.0 f.1 left

    abbrev pub given_by : ℕ × Directory → List ℕ → List ℕ
    given_by f left = zones_given (needed f) (kept_by (inode_of f) (needed f)) (own_zones blocks (inode_of f) (needed f)) left

    -- a zone that is given up was had
    pub given_had : (f : ℕ × Directory) (left : List ℕ) → Met f left → (z : ℕ) → In z (given_by f left) → Had f left z
    given_had f left m z i =
        let s = share f left m in
        is_had blocks (inode_of f) (needed f) left s.one s.apart s.unused s.some s.fits z (In-drop _ (had_list blocks (inode_of f) (needed f) left) z i)

    -- what holds of the writes of each part holds of each write of the directory
    module _ (K : Edit → Type 0) (f : ℕ × Directory) (left : List ℕ) (m : Met f left)
        (taken : (z : ℕ) → In z (taken_by f left) → K (set_bit (2 + g.imap) (z - g.first + 1) true))
        (given : (z : ℕ) → In z (given_by f left) → K (set_bit (2 + g.imap) (z - g.first + 1) false))
        (slot : (j : ℕ) → j < length (slots_of f left) → K (put_body (slice_index (slots_of f left) j) (slots_body (entries_of f) j)))
        (number : 7 < length (slots_of f left) → K (put_body (top_of f left) (numbers_of f left)))
        (inode : K (put_inode f.0 (new_inode f left))) where
      in_bits : (used : Bool) (zones : List ℕ) → ((z : ℕ) → In z zones → K (set_bit (2 + g.imap) (z - g.first + 1) used)) → (x : Edit) → In x (bit_edits w used zones) → K x
      in_bits used zones bit x i = let y = In-map (λ z. set_bit (2 + g.imap) (z - g.first + 1) used) zones x i in subst K y.2 (bit y.0 y.1)

      in_numbers : (x : Edit) → In x (number_edits (top_of f left) (slots_of f left)) → K x
      in_numbers x i =
          ⊎_elim
          (λ many. ⊎_elim (λ same. subst K same (number many)) (λ none. absurd none) (subst (λ xs. In x xs) (numbers_in g (top_of f left) (slots_of f left) many) i))
          (λ few. absurd (subst (λ xs. In x xs) (no_numbers (top_of f left) (slots_of f left) few) i))
          (cases_lt 7 (length (slots_of f left)))

      pub in_edits : (x : Edit) → In x (edits_of w blocks f.0 f.1 left) → K x
      in_edits x i =
          ⊎_elim
          (λ a. in_bits true (taken_by f left) taken x a)
          (λ b.
          ⊎_elim
          (λ c. in_bits false (given_by f left) given x c)
          (λ d.
          ⊎_elim
          (λ e. let y = in_slot_edits (slots_of f left) (entries_of f) x e in subst K y.2 (slot y.0 y.1))
          (λ t.
          ⊎_elim (λ n. in_numbers x n) (λ last. ⊎_elim (λ same. subst K same inode) (λ none. absurd none) last)
          (In-append_cases (number_edits (top_of f left) (slots_of f left)) _ x t))
          (In-append_cases (slot_edits (slots_of f left) (entries_of f)) _ x d))
          (In-append_cases (bit_edits w false (given_by f left)) _ x b))
          (In-append_cases (bit_edits w true (taken_by f left)) _ x i)

    kind_in : (f : ℕ × Directory) (left : List ℕ) → Met f left → (x : Edit) → In x (edits_of w blocks f.0 f.1 left) → Kind x
    kind_in f left m = in_edits Kind f left m (λ z i. in_range z true (inr i)) (λ z i. in_range z false (given_had f left m z i)) (λ j low. of_slots f left j m low) (λ many. of_numbers f left m many) (of_inode f left m)
      where
        in_range : (z : ℕ) (used : Bool) → Had f left z → Kind (set_bit (2 + g.imap) (z - g.first + 1) used)
        in_range z used had = let range = had_within f left (share f left m) m z had in of_bit z used range.0 range.1

    pub kind_of : (x : Edit) → In x writes → Kind x
    kind_of x (inl same) = subst Kind same of_magic
    kind_of x (inr i) = let y = edit_met w blocks es free x i in kind_in y.0 y.1 y.2 x y.3

    -- ---- what each write changes

    abbrev InodeOf : Edit → ℕ → Type 0
    InodeOf (put_inode n i) j = j ≡ n
    InodeOf other j = ⊥

    abbrev ZoneOf : Edit → ℕ → Type 0
    ZoneOf (put_body zone content) b = b ≡ zone
    ZoneOf other b = ⊥

    pub bit_below : (z : ℕ) → g.first ≤ z → z < g.zones → 2 + g.imap + (z - g.first + 1) / 8192 < 2 + g.imap + g.zmap
    bit_below z low high = let bits = sound.zone_bits in omega (arith, low, high, bits)

    changes : (x : Edit) → Kind x → (b : List (List ℕ)) → IsFull w b → Changes w (λ j. InodeOf x j) (λ z. ZoneOf x z) b (edited w b x)
    changes x of_magic b full = changes_magic w wide_is_sound b full.0 full.1
    changes x (of_bit z used low high) b full = changes_bit w b (2 + g.imap) (z - g.first + 1) used wide_is_sound full.0 full.1 (bit_below z low high)
    changes x (of_slots f left j m low) b full =
        let s = share f left m in
        let z = slice_index (slots_of f left) j in
        let range = had_within f left s m z (slot_is_had f left s z (index_in (slots_of f left) j low)) in
        changes_body w wide_is_sound b full.0 full.1 z (slots_body (entries_of f) j) range.0 range.1 (length-slots_body (entries_of f) j (entries_ok f left s))
    changes x (of_numbers f left m many) b full =
        let s = share f left m in
        let range = had_within f left s m (top_of f left) (top_is f left s many).had_is in
        changes_body w wide_is_sound b full.0 full.1 (top_of f left) (numbers_of f left) range.0 range.1 (length-numbers_body f left s)
    changes x (of_inode f left m) b full =
        let s = share f left m in
        changes_inode w b f.0 (new_inode f left) wide_is_sound full.0 full.1 (number_fits f left s).0 (within s.reached) (new_fits f left s m)

    pub full_after : (x : Edit) → Kind x → (b : List (List ℕ)) → IsFull w b → IsFull w (edited w b x)
    full_after x k b full = let c = changes x k b full in (c.whole, c.size ∙ full.1)

    abbrev pub after : List (List ℕ)
    after = edited_all w blocks writes

    pub after_full : IsFull w after
    after_full = all_full w writes (λ x i b f. full_after x (kind_of x i) b f) blocks full

    -- ---- the bodies of slots

    module _ (f : ℕ × Directory) (left : List ℕ) (m : Met f left) where
      abbrev s : Share f left
      s = share f left m

      abbrev Keeps : {A : Type 0} → (List (List ℕ) → A) → A → Edit → Type 0
      Keeps view a x = (b : List (List ℕ)) → IsFull w b → (view (edited w b x) ≡ view b) ⊎ (view (edited w b x) ≡ a)

      zone_else : (x : Edit) → Kind x → (z : ℕ) → g.first ≤ z → (ZoneOf x z → ⊥) → (b : List (List ℕ)) → IsFull w b → disk_of (edited w b x) z ≡ disk_of b z
      zone_else x k z low none b full = (changes x k b full).zones z low none

      body_is_set : (x : Edit) (z : ℕ) (content a : List ℕ) → Kind (put_body z content) → z < g.zones → (y : ℕ) → y ≡ z → content ≡ a → (b : List (List ℕ)) → IsFull w b → disk_of (edited w b (put_body z content)) y ≡ a
      body_is_set x z content a k high y same is b full =
          ap (disk_of (edited w b (put_body z content))) same ∙ (body_there w wide_is_sound b full.0 full.1 z content high ∙ is)

      module _ (j : ℕ) (low : j < length (slots_of f left)) where
        abbrev zone : ℕ
        zone = slice_index (slots_of f left) j

        zone_had : Had f left zone
        zone_had = slot_is_had f left s zone (index_in (slots_of f left) j low)

        zone_range : (g.first ≤ zone) × (zone < g.zones)
        zone_range = had_within f left s m zone zone_had

        same_slots : (e : ℕ × Directory) (l : List ℕ) (k : ℕ) → Met e l → k < length (slots_of e l) → zone ≡ slice_index (slots_of e l) k → slots_body (entries_of e) k ≡ slots_body (entries_of f) j
        same_slots e l k met few same =
            let one = one_had f e left l zone m met zone_had (subst (Had e l) (sym same) (slot_is_had e l (share e l met) (slice_index (slots_of e l) k) (index_in (slots_of e l) k few))) in
            move (λ e l. (k : ℕ) → k < length (slots_of e l) → zone ≡ slice_index (slots_of e l) k → slots_body (entries_of e) k ≡ slots_body (entries_of f) j) one.0 one.1
            (λ k few same. ap (slots_body (entries_of f)) (one_index (slots_of f left) k j (slots_differ f left s) few low (sym same))) k few same

        no_numbers_there : (e : ℕ × Directory) (l : List ℕ) → Met e l → 7 < length (slots_of e l) → zone ≡ top_of e l → ⊥
        no_numbers_there e l met many same =
            let one = one_had f e left l zone m met zone_had (subst (Had e l) (sym same) (top_is e l (share e l met) many).had_is) in
            (top_is e l (share e l met) many).apart_from
            (subst (λ z. In z (slots_of e l)) same (move (λ e l. In zone (slots_of e l)) one.0 one.1 (index_in (slots_of f left) j low)))

        slots_kept : (x : Edit) → Kind x → Keeps (λ b. disk_of b zone) (slots_body (entries_of f) j) x
        slots_kept x of_magic b full = inl (zone_else x of_magic zone zone_range.0 (λ none. none) b full)
        slots_kept x (of_bit z used a c) b full = inl (zone_else x (of_bit z used a c) zone zone_range.0 (λ none. none) b full)
        slots_kept x (of_inode e l met) b full = inl (zone_else x (of_inode e l met) zone zone_range.0 (λ none. none) b full)
        slots_kept x (of_slots e l k met few) b full =
            ⊎_elim
            (λ same. inr (body_is_set x (slice_index (slots_of e l) k) (slots_body (entries_of e) k) (slots_body (entries_of f) j) (of_slots e l k met few) (subst (λ z. z < g.zones) same zone_range.1) zone same (same_slots e l k met few same) b full))
            (λ apart. inl (zone_else x (of_slots e l k met few) zone zone_range.0 apart b full))
            (cases_eq zone (slice_index (slots_of e l) k))
        slots_kept x (of_numbers e l met many) b full =
            inl (zone_else x (of_numbers e l met many) zone zone_range.0 (no_numbers_there e l met many) b full)

        slots_written : In (put_body zone (slots_body (entries_of f) j)) writes
        slots_written =
            inr (met_edit w blocks es free f left (put_body zone (slots_body (entries_of f) j)) m
            (In-append_right (bit_edits w true (taken_by f left)) _ _
            (In-append_right (bit_edits w false (given_by f left)) _ _
            (In-append_left (slot_edits (slots_of f left) (entries_of f)) _ _ (slot_edits_in (slots_of f left) (entries_of f) j low)))))

        slots_read_back : disk_of after zone ≡ slots_body (entries_of f) j
        slots_read_back =
            view_set w (λ b. disk_of b zone) (slots_body (entries_of f) j) writes (λ x i b full. let k = kind_of x i in (full_after x k b full, slots_kept x k b full))
            (put_body zone (slots_body (entries_of f) j)) slots_written (λ b full. body_there w wide_is_sound b full.0 full.1 zone (slots_body (entries_of f) j) zone_range.1) blocks full

      -- ---- the numbers of zones

      module _ (many : 7 < length (slots_of f left)) where
        abbrev up : ℕ
        up = top_of f left

        up_had : Had f left up
        up_had = (top_is f left s many).had_is

        up_range : (g.first ≤ up) × (up < g.zones)
        up_range = had_within f left s m up up_had

        same_numbers : (e : ℕ × Directory) (l : List ℕ) → Met e l → 7 < length (slots_of e l) → up ≡ top_of e l → numbers_of e l ≡ numbers_of f left
        same_numbers e l met more same =
            let one = one_had f e left l up m met up_had (subst (Had e l) (sym same) (top_is e l (share e l met) more).had_is) in
            move (λ e l. numbers_of e l ≡ numbers_of f left) one.0 one.1 refl

        no_slots_there : (e : ℕ × Directory) (l : List ℕ) (k : ℕ) → Met e l → k < length (slots_of e l) → up ≡ slice_index (slots_of e l) k → ⊥
        no_slots_there e l k met few same =
            let here = subst (λ z. In z (slots_of e l)) (sym same) (index_in (slots_of e l) k few) in
            let one = one_had f e left l up m met up_had (slot_is_had e l (share e l met) up here) in
            move (λ e l. In up (slots_of e l) → ⊥) one.0 one.1 (top_is f left s many).apart_from here

        numbers_kept : (x : Edit) → Kind x → Keeps (λ b. disk_of b up) (numbers_of f left) x
        numbers_kept x of_magic b full = inl (zone_else x of_magic up up_range.0 (λ none. none) b full)
        numbers_kept x (of_bit z used a c) b full = inl (zone_else x (of_bit z used a c) up up_range.0 (λ none. none) b full)
        numbers_kept x (of_inode e l met) b full = inl (zone_else x (of_inode e l met) up up_range.0 (λ none. none) b full)
        numbers_kept x (of_slots e l k met few) b full = inl (zone_else x (of_slots e l k met few) up up_range.0 (no_slots_there e l k met few) b full)
        numbers_kept x (of_numbers e l met more) b full =
            ⊎_elim
            (λ same. inr (body_is_set x (top_of e l) (numbers_of e l) (numbers_of f left) (of_numbers e l met more) (subst (λ z. z < g.zones) same up_range.1) up same (same_numbers e l met more same) b full))
            (λ apart. inl (zone_else x (of_numbers e l met more) up up_range.0 apart b full))
            (cases_eq up (top_of e l))

        numbers_written : In (put_body up (numbers_of f left)) writes
        numbers_written =
            inr (met_edit w blocks es free f left (put_body up (numbers_of f left)) m
            (In-append_right (bit_edits w true (taken_by f left)) _ _
            (In-append_right (bit_edits w false (given_by f left)) _ _
            (In-append_right (slot_edits (slots_of f left) (entries_of f)) _ _
            (In-append_left (number_edits (top_of f left) (slots_of f left)) _ _
            (subst (λ xs. In (put_body up (numbers_of f left)) xs) (sym (numbers_in g (top_of f left) (slots_of f left) many)) (inl refl)))))))

        numbers_read_back : disk_of after up ≡ numbers_of f left
        numbers_read_back =
            view_set w (λ b. disk_of b up) (numbers_of f left) writes (λ x i b full. let k = kind_of x i in (full_after x k b full, numbers_kept x k b full))
            (put_body up (numbers_of f left)) numbers_written (λ b full. body_there w wide_is_sound b full.0 full.1 up (numbers_of f left) up_range.1) blocks full

      -- ---- the inode

      inode_else : (x : Edit) → Kind x → (InodeOf x f.0 → ⊥) → (b : List (List ℕ)) → IsFull w b → inode_at w (edited w b x) f.0 ≡ inode_at w b f.0
      inode_else x k none b full = (changes x k b full).inodes f.0 (number_fits f left s).0 (within s.reached) none

      table_within : (n : ℕ) → 0 < n → n ≤ g.inodes → (b : List (List ℕ)) → IsFull w b → table_block w n < length b
      table_within n some low b full = let t = table_below w n wide_is_sound some low in let zone = sound.some_zone in let size = full.1 in omega (arith, t.1, zone, size)

      inode_is_set : (e : ℕ × Directory) (l : List ℕ) → Met e l → f.0 ≡ e.0 → (b : List (List ℕ)) → IsFull w b → inode_at w (edited w b (put_inode e.0 (new_inode e l))) f.0 ≡ new_inode f left
      inode_is_set e l met same b full =
          let t = share e l met in
          let one = met_once w blocks es free f e left l once m met same in
          ap (inode_at w (edited w b (put_inode e.0 (new_inode e l)))) same
          ∙ (inode_here w b e.0 (new_inode e l) full.0 (table_within e.0 (number_fits e l t).0 (within t.reached) b full) (new_fits e l t met)
          ∙ move (λ e l. new_inode e l ≡ new_inode f left) one.0 one.1 refl)

      inodes_kept : (x : Edit) → Kind x → Keeps (λ b. inode_at w b f.0) (new_inode f left) x
      inodes_kept x of_magic b full = inl (inode_else x of_magic (λ none. none) b full)
      inodes_kept x (of_bit z used a c) b full = inl (inode_else x (of_bit z used a c) (λ none. none) b full)
      inodes_kept x (of_slots e l k met few) b full = inl (inode_else x (of_slots e l k met few) (λ none. none) b full)
      inodes_kept x (of_numbers e l met more) b full = inl (inode_else x (of_numbers e l met more) (λ none. none) b full)
      inodes_kept x (of_inode e l met) b full =
          ⊎_elim (λ same. inr (inode_is_set e l met same b full)) (λ apart. inl (inode_else x (of_inode e l met) apart b full)) (cases_eq f.0 e.0)

      inode_written : In (put_inode f.0 (new_inode f left)) writes
      inode_written =
          inr (met_edit w blocks es free f left (put_inode f.0 (new_inode f left)) m
          (In-append_right (bit_edits w true (taken_by f left)) _ _
          (In-append_right (bit_edits w false (given_by f left)) _ _
          (In-append_right (slot_edits (slots_of f left) (entries_of f)) _ _
          (In-append_right (number_edits (top_of f left) (slots_of f left)) _ _ (inl refl))))))

      pub inode_read_back : inode_at w after f.0 ≡ new_inode f left
      inode_read_back =
          view_set w (λ b. inode_at w b f.0) (new_inode f left) writes (λ x i b full. let k = kind_of x i in (full_after x k b full, inodes_kept x k b full))
          (put_inode f.0 (new_inode f left)) inode_written (λ b full. inode_is_set f left m refl b full) blocks full

      -- ---- so the directory stands anew

      abbrev pub read_inode : Inode
      read_inode = wide_inode (inode_of f) (length (entries_of f)) (slots_of f left) (top_of f left)

      top_apart_from : 7 < length (slots_of f left) → (top_of f left ≢ 0) × (In (top_of f left) (slots_of f left) → ⊥)
      top_apart_from many = let t = top_is f left s many in (t.there, t.apart_from)

      bodies_there : (j : ℕ) → j < length (slots_of f left) → disk_of after (slice_index (slots_of f left) j) ≡ put_slots 0 (take 32 (drop (32 * j) (entries_of f))) (filled 0)
      bodies_there j low = slots_read_back j low ∙ body_is (entries_of f) j

      pub among : (x : ZonePlace) → zone_in after read_inode x ≢ 0 → In (zone_in after read_inode x) (slots_of f left) ⊎ ((zone_in after read_inode x ≡ top_of f left) × (7 < length (slots_of f left)))
      among =
          zone_among g after (inode_of f) (entries_of f) (slots_of f left) (top_of f left) (slots_differ f left s) (slot_there f left s) (small_zone f left s m) (few_slots f left s)
          (top_none f left s) top_apart_from bodies_there numbers_read_back

      -- block k of the directory stands in slot zone k
      pub zones_there : (k : ℕ) → zone_behind after read_inode k ≡ slice_index (slots_of f left) k
      zones_there =
          zone_is g after (inode_of f) (entries_of f) (slots_of f left) (top_of f left) (slots_differ f left s) (slot_there f left s) (small_zone f left s m) (few_slots f left s)
          (top_none f left s) top_apart_from bodies_there numbers_read_back

      once_there : (x y : ZonePlace) → zone_in after read_inode x ≢ 0 → zone_in after read_inode x ≡ zone_in after read_inode y → x ≡ y
      once_there =
          zone_once g after (inode_of f) (entries_of f) (slots_of f left) (top_of f left) (slots_differ f left s) (slot_there f left s) (small_zone f left s m) (few_slots f left s)
          (top_none f left s) top_apart_from bodies_there numbers_read_back

      slots_there : (k : ℕ) (x : Slot) → slice_get (entries_of f) k ≡ Some x → slot_behind w after read_inode k ≡ Ok (Some x)
      slots_there =
          slot_read g after (inode_of f) (entries_of f) (slots_of f left) (top_of f left) (slots_differ f left s) (slot_there f left s) (small_zone f left s m) (few_slots f left s)
          (top_none f left s) top_apart_from bodies_there numbers_read_back (entries_ok f left s) (enough_slots f left s)

      had_there : (x : ZonePlace) → zone_in after read_inode x ≢ 0 → Had f left (zone_in after read_inode x)
      had_there x some =
          ⊎_elim (λ i. slot_is_had f left s (zone_in after read_inode x) i) (λ t. subst (Had f left) (sym t.0) (top_is f left s t.1).had_is) (among x some)

      pub same_new : read_inode ≡ new_inode f left
      same_new = ap (λ n. wide_inode (inode_of f) n (slots_of f left) (top_of f left)) (length-wide_slots f.0 f.1)

    -- ---- everything else stays

    differs : (e : ℕ × Directory) (l : List ℕ) → Met e l → (birth : ℕ) (node : Node) → at_number tree birth ≡ Some node → ((d : Directory) → node ≢ nodes.Directory d) → e.0 ≢ inode_of_birth birth
    differs e l met birth node at kind same =
        let t = share e l met in
        let births = same_birth t.at.birth birth (nodes.Directory e.1) node t.stands at (t.at.number ∙ same) in
        kind e.1 (same_Some node (nodes.Directory e.1) (sym at ∙ (ap (at_number tree) (sym births) ∙ t.stands)))

    no_file_directory : (f : File) (d : Directory) → nodes.File f ≢ nodes.Directory d
    no_file_directory f d same = cc

    no_other_directory : (mode : ℕ) (d : Directory) → nodes.Other mode ≢ nodes.Directory d
    no_other_directory mode d same = cc

    no_inode : (n : ℕ) → ((e : ℕ × Directory) (l : List ℕ) → Met e l → e.0 ≢ n) → (x : Edit) → Kind x → InodeOf x n → ⊥
    no_inode n apart x of_magic i = i
    no_inode n apart x (of_bit z used a c) i = i
    no_inode n apart x (of_slots e l k met few) i = i
    no_inode n apart x (of_numbers e l met more) i = i
    no_inode n apart x (of_inode e l met) i = apart e l met (sym i)

    inode_stays : (birth : ℕ) (node : Node) → at_number tree birth ≡ Some node → ((d : Directory) → node ≢ nodes.Directory d) → inode_at g after (inode_of_birth birth) ≡ inode_at g blocks (inode_of_birth birth)
    inode_stays birth node at kind =
        view_kept w (λ b. inode_at w b (inode_of_birth birth)) writes
        (λ x i b full.
        let k = kind_of x i in
        (full_after x k b full, (changes x k b full).inodes (inode_of_birth birth) (positive birth) (within (reached_at birth node at)) (no_inode (inode_of_birth birth) (λ e l met. differs e l met birth node at kind) x k)))
        blocks full

    no_zone : (z : ℕ) → ((e : ℕ × Directory) (l : List ℕ) → Met e l → Had e l z → ⊥) → (x : Edit) → Kind x → ZoneOf x z → ⊥
    no_zone z apart x of_magic i = i
    no_zone z apart x (of_bit y used a c) i = i
    no_zone z apart x (of_slots e l k met few) i = apart e l met (slot_is_had e l (share e l met) z (subst (λ y. In y (slots_of e l)) (sym i) (index_in (slots_of e l) k few)))
    no_zone z apart x (of_numbers e l met more) i = apart e l met (subst (Had e l) (sym i) (top_is e l (share e l met) more).had_is)
    no_zone z apart x (of_inode e l met) i = i

    pub zone_stays : (z : ℕ) → g.first ≤ z → ((e : ℕ × Directory) (l : List ℕ) → Met e l → Had e l z → ⊥) → disk_of after z ≡ disk_of blocks z
    zone_stays z low apart =
        view_kept w (λ b. disk_of b z) writes (λ x i b full. let k = kind_of x i in (full_after x k b full, (changes x k b full).zones z low (no_zone z apart x k))) blocks full

    file_apart : (birth : ℕ) (f : File) → at_number tree birth ≡ Some (nodes.File f) → (x : ZonePlace) → zone_at_place g blocks (inode_of_birth birth) x ≢ 0 →
        (e : ℕ × Directory) (l : List ℕ) → Met e l → Had e l (zone_at_place g blocks (inode_of_birth birth) x) → ⊥
    file_apart birth f at x some e l met (inl o) =
        let t = share e l met in
        differs e l met birth (nodes.File f) at (no_file_directory f)
        (h.faultless.zone_once e.0 (inode_of_birth birth) o.place x t.reached (reached_at birth (nodes.File f) at) (inl t.kind) (inr (h.fields.each birth (nodes.File f) at).kind)
        (λ none. some (sym o.zone ∙ none)) o.zone).0
    file_apart birth f at x some e l met (inr i) =
        free_unused (zone_at_place g blocks (inode_of_birth birth) x) (got_free w blocks es free e l (zone_at_place g blocks (inode_of_birth birth) x) met i)
        (record { inode = inode_of_birth birth; place = x; reached = reached_at birth (nodes.File f) at; kind = inr (h.fields.each birth (nodes.File f) at).kind; some = some; stands = refl })

    -- ---- all of it

    rewritten : (birth : ℕ) (d : Directory) → at_number tree birth ≡ Some (nodes.Directory d) → IsRewritten g blocks after tree (HasGot g blocks tree free) birth d (inode_at g after (inode_of_birth birth))
    rewritten birth d at =
        let f : ℕ × Directory = (inode_of_birth birth, d) in
        let x = met_of w blocks es free f (directory_in tree birth d (found_in birth (nodes.Directory d) at)) in
        let s = share f x.0 x.1 in
        subst (IsRewritten g blocks after tree (HasGot g blocks tree free) birth d) (same_new f x.0 x.1 ∙ sym (inode_read_back f x.0 x.1)) (record {
          mode = refl;
          few = few_names f x.0 s;
          size = ap (λ n. 32 * n) (length-wide_slots (inode_of_birth birth) d);
          read = slots_there f x.0 x.1;
          gets = λ y some. record { directory = d; stands = at; left = x.0; met = x.1; had_is = had_there f x.0 x.1 y some };
          once = once_there f x.0 x.1;
        })

    had_some : (e : ℕ × Directory) (l : List ℕ) → Met e l → (z : ℕ) → Had e l z → z ≢ 0
    had_some e l met z had none = let range = had_within e l (share e l met) met z had in let tables = sound.tables_below in omega (arith, none, range.0, tables)

    pub rewriting : IsRewriting g blocks after tree (HasGot g blocks tree free)
    rewriting = record {
      whole = image.whole;
      after_whole = after_full.0;
      directory = rewritten;
      file = λ birth f at. inode_stays birth (nodes.File f) at (no_file_directory f);
      bodies = λ birth f at x some.
          zone_stays (zone_at_place g blocks (inode_of_birth birth) x)
          (h.faultless.zone_within (inode_of_birth birth) x (reached_at birth (nodes.File f) at) (inr (h.fields.each birth (nodes.File f) at).kind) some).0 (file_apart birth f at x some);
      other = λ birth mode at. inode_stays birth (nodes.Other mode) at (no_other_directory mode);
      within = λ birth zone got. had_within (inode_of_birth birth, got.directory) got.left (share (inode_of_birth birth, got.directory) got.left got.met) got.met zone got.had_is;
      apart = λ a b zone x y.
          let one = one_had (inode_of_birth a, x.directory) (inode_of_birth b, y.directory) x.left y.left zone x.met y.met x.had_is y.had_is in
          same_birth a b (nodes.Directory x.directory) (nodes.Directory y.directory) x.stands y.stands (ap (λ (p : ℕ × Directory). p.0) one.0);
      free = λ a b zone f x got at same.
          let some = had_some (inode_of_birth a, got.directory) got.left got.met zone got.had_is in
          file_apart b f at x (λ none. some (sym same ∙ none)) (inode_of_birth a, got.directory) got.left got.met (subst (Had (inode_of_birth a, got.directory) got.left) (sym same) got.had_is);
    }

    -- ---- which blocks are written

    -- Every write but the first leaves the superblock.
    first_stays : (x : Edit) → In x (all_edits w blocks es free) → 2 ≤ touched_by w x
    first_stays x i =
        let y = edit_met w blocks es free x i in
        in_edits (λ x. 2 ≤ touched_by w x) y.0 y.1 y.2
        (λ z i. omega arith)
        (λ z i. omega arith)
        (λ j low. let range = had_within y.0 y.1 (share y.0 y.1 y.2) y.2 _ (slot_is_had y.0 y.1 (share y.0 y.1 y.2) _ (index_in (slots_of y.0 y.1) j low)) in let tables = sound.tables_below in omega (arith, range.0, tables))
        (λ many. let range = had_within y.0 y.1 (share y.0 y.1 y.2) y.2 _ (top_is y.0 y.1 (share y.0 y.1 y.2) many).had_is in let tables = sound.tables_below in omega (arith, range.0, tables))
        (omega arith) x y.3

    pub super_left : (b : List (List ℕ)) → disk_of (edited_all w b (all_edits w blocks es free)) 1 ≡ disk_of b 1
    super_left b =
        untouched w (all_edits w blocks es free) b 1
        (λ i. let x = In-map (touched_by w) (all_edits w blocks es free) 1 i in let high = first_stays x.0 x.1 in let one = x.2 in omega (arith, high, one))

    written_had : (f : ℕ × Directory) (left : List ℕ) → Met f left → (z : ℕ) → Had f left z → IsWritten g blocks tree free z
    written_had f left m z (inl o) = let s = share f left m in changed.had f.0 o.place s.reached s.kind o.some o.zone
    written_had f left m z (inr i) = changed.got (got_all w blocks es free f left z m i)

    written_by : (x : Edit) → Kind x → IsWritten g blocks tree free (touched_by w x)
    written_by x of_magic = changed.superblock refl
    written_by x (of_bit z used low high) = changed.of_map (omega arith) (bit_below z low high)
    written_by x (of_slots f left j m low) = written_had f left m _ (slot_is_had f left (share f left m) _ (index_in (slots_of f left) j low))
    written_by x (of_numbers f left m many) = written_had f left m _ (top_is f left (share f left m) many).had_is
    written_by x (of_inode f left m) = let s = share f left m in changed.of_table f.0 s.reached s.kind refl

    -- a block that is none of the named ones keeps its bytes
    pub others_stay : (b : List (List ℕ)) (k : ℕ) → (IsWritten g blocks tree free k → ⊥) → disk_of (edited_all w b writes) k ≡ disk_of b k
    others_stay b k none =
        untouched w writes b k (λ i. let x = In-map (touched_by w) writes k i in none (subst (IsWritten g blocks tree free) x.2 (written_by x.0 (kind_of x.0 x.1))))

  -- those that are written are blocks of the volume
  pub written_within : (b : ℕ) → IsWritten g blocks tree free b → b < g.zones
  written_within b (changed.superblock one) = (let t = table_below g 1 sound (omega arith) sound.some_inode in let zone = sound.some_zone in omega (arith, one, t.0, t.1, zone))
  written_within b (changed.of_map low high) = (let t = table_below g 1 sound (omega arith) sound.some_inode in let zone = sound.some_zone in omega (arith, high, t.0, t.1, zone))
  written_within b (changed.of_table inode r kind same) = (let t = below inode r in let zone = sound.some_zone in omega (arith, same, t, zone))
    where
      by_some : (inode : ℕ) → inode ≤ g.inodes → (0 < inode) ⊎ (inode ≤ 0) → table_block g inode < g.first
      by_some inode low (inl some) = (table_below g inode sound some low).1
      by_some inode low (inr none) = (let t = (table_below g 1 sound (omega arith) sound.some_inode).1 in let e : (inode - 1) / 32 ≡ (1 - 1) / 32 = omega (arith, none) in omega (arith, t, e))

      below : (inode : ℕ) → IsReached g blocks inode → table_block g inode < g.first
      below inode r = by_some inode (within r) (cases_lt 0 inode)
  written_within b (changed.had inode x r kind some same) = subst (λ z. z < g.zones) same (h.faultless.zone_within inode x r (inl kind) (λ none. some (sym same ∙ none))).1
  written_within b (changed.got i) = (free_in b (got_are_free w blocks es free b i)).2
