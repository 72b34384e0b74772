-- The bits of the two maps behind the writes of all directories.
use Rattle.std.specs.Prelude.{◌≡◌, ◌≢◌, ℕ, ◌+◌, ◌-◌, ◌<◌, ◌≤◌, ◌⊎◌, Bool, true, false, List, length, Ok, refl}
use Rattle.std.proofs.Common.{sym, ap, subst, ◌∙◌, inl, inr, ⊎_elim, arith}
use Rattle.std.proofs.lemmas.Bool.{cases_eq}
use Rattle.blk_base.specs.Members.{In}
use Rattle.blk_base.specs.laws.Members.{In-append_left, In-append_right, map-In}
use Rattle.minix_layout.specs.declared.division.Geometry.{Geometry}
use Rattle.minix_layout.specs.declared.bits.BitPlace.{BitPlace}
use Rattle.minix_layout.specs.Geometry.{IsSound}
use Rattle.minix_layout.specs.Bits.{bit_of, zone_bit, has_bit, with_bit}
use Rattle.minix_layout.specs.laws.BitLaws.{place_read_back, other_place, zone_bits_apart}
use Rattle.tree_model.specs.declared.node.Node.{Node}
use Rattle.tree_model.specs.declared.node.Directory.{Directory}
use Rattle.volume_ops.specs.Volume.{walked}
use Rattle.volume_ops.specs.Walk.{Walked}
use Rattle.volume_ops.specs.VolumeTrees.{IsVolumeTree}
use Rattle.volume_model.specs.ImageNodes.{IsImage}
use Rattle.volume_model.specs.Edits.{Edit, set_bit, touched_by, edited}
use Rattle.volume_model.specs.laws.Changes.{table_below}
use Rattle.volume_model.specs.laws.Edits.{edited_elsewhere}
use Rattle.widening.specs.Directories.{free_zones, directories, bit_edits, has_no_room}
use Rattle.widening.specs.Widened.{wide, magic_edit}
use Rattle.widening.proofs.Rewriting as again
use Rattle.widening.proofs.Shares.{Meets, edit_met, met_edit}
use Rattle.widening.proofs.Writes.{IsFull, view_set, view_kept}
use Rattle.widening.proofs.ZoneLists.{index_in}

module _ (g : Geometry) (blocks : List (List ℕ)) (tree : List (ℕ × Node)) (all : Walked) (h : IsVolumeTree g blocks tree) (walk : walked g blocks ≡ Ok all) (sound : IsSound g)
    (wide_is_sound : IsSound (wide g)) (image : IsImage g blocks) (narrow : g.width ≤ 30) (room : has_no_room (wide g) blocks (directories tree) (free_zones g blocks all.zones) ≡ false) where
  abbrev w : Geometry
  w = wide g

  abbrev es : List (ℕ × Directory)
  es = directories tree

  abbrev free : List ℕ
  free = free_zones g blocks all.zones

  abbrev Met : ℕ × Directory → List ℕ → Type 0
  Met f left = Meets w blocks es free f left

  abbrev writes : List Edit
  writes = again.writes g blocks tree all h walk sound wide_is_sound image narrow room

  abbrev after : List (List ℕ)
  after = again.after g blocks tree all h walk sound wide_is_sound image narrow room

  abbrev full : IsFull w blocks
  full = again.full g blocks tree all h walk sound wide_is_sound image narrow

  abbrev slots_of : ℕ × Directory → List ℕ → List ℕ
  slots_of f left = again.slots_of g blocks tree all h walk sound wide_is_sound image narrow room f left

  abbrev taken_by : ℕ × Directory → List ℕ → List ℕ
  taken_by f left = again.taken_by g blocks tree all h walk sound wide_is_sound image narrow room f left

  abbrev given_by : ℕ × Directory → List ℕ → List ℕ
  given_by f left = again.given_by g blocks tree all h walk sound wide_is_sound image narrow room f left

  -- ---- kinds of writes

  maps_low : 2 + g.imap + g.zmap ≤ g.first
  maps_low = let t = table_below g 1 sound (omega arith) sound.some_inode in omega (arith, t.0, t.1)

  had_behind : (f : ℕ × Directory) (left : List ℕ) → Met f left → (z : ℕ) → again.Had g blocks tree all h walk sound wide_is_sound image narrow room f left z → 2 + g.imap + g.zmap ≤ z
  had_behind f left m z had = let range = again.had_within g blocks tree all h walk sound wide_is_sound image narrow room f left (again.share g blocks tree all h walk sound wide_is_sound image narrow room f left m) m z had in let maps = maps_low in omega (arith, range.0, maps)

  -- the superblock, a bit of a zone that is taken or given up, and what stands behind the maps
  data Kind : Edit → Type 0 where
    of_magic : Kind magic_edit
    of_taken : (f : ℕ × Directory) (left : List ℕ) (z : ℕ) → Met f left → In z (taken_by f left) → Kind (set_bit (2 + g.imap) (z - g.first + 1) true)
    of_given : (f : ℕ × Directory) (left : List ℕ) (z : ℕ) → Met f left → In z (given_by f left) → Kind (set_bit (2 + g.imap) (z - g.first + 1) false)
    behind : (x : Edit) → 2 + g.imap + g.zmap ≤ touched_by w x → Kind x

  kind_of : (x : Edit) → In x writes → Kind x
  kind_of x (inl same) = subst Kind same of_magic
  kind_of x (inr i) =
      let y = edit_met w blocks es free x i in
      let s = again.share g blocks tree all h walk sound wide_is_sound image narrow room y.0 y.1 y.2 in
      again.in_edits g blocks tree all h walk sound wide_is_sound image narrow room Kind y.0 y.1 y.2 (λ z j. of_taken y.0 y.1 z y.2 j) (λ z j. of_given y.0 y.1 z y.2 j)
      (λ j low. behind _ (had_behind y.0 y.1 y.2 _ (again.slot_is_had g blocks tree all h walk sound wide_is_sound image narrow room y.0 y.1 s _ (index_in (slots_of y.0 y.1) j low))))
      (λ many. behind _ (had_behind y.0 y.1 y.2 _ (again.top_is g blocks tree all h walk sound wide_is_sound image narrow room y.0 y.1 s many).had_is))
      (behind _ (table_below g y.0.0 sound (again.number_fits g blocks tree all h walk sound wide_is_sound image narrow room y.0 y.1 s).0 (again.within g blocks tree all h walk sound wide_is_sound image narrow s.reached)).0) x y.3

  full_after : (x : Edit) → In x writes → (b : List (List ℕ)) → IsFull w b → IsFull w (edited w b x)
  full_after x i b full = again.full_after g blocks tree all h walk sound wide_is_sound image narrow room x (again.kind_of g blocks tree all h walk sound wide_is_sound image narrow room x i) b full

  -- ---- bits

  -- the writes of a bit of the map of zones
  taken_written : (f : ℕ × Directory) (left : List ℕ) (z : ℕ) → Met f left → In z (taken_by f left) → In (set_bit (2 + g.imap) (z - g.first + 1) true) writes
  taken_written f left z m i =
      inr (met_edit w blocks es free f left (set_bit (2 + g.imap) (z - g.first + 1) true) m
      (In-append_left (bit_edits w true (taken_by f left)) _ _ (map-In (λ z. set_bit (2 + g.imap) (z - g.first + 1) true) (taken_by f left) z i)))

  given_written : (f : ℕ × Directory) (left : List ℕ) (z : ℕ) → Met f left → In z (given_by f left) → In (set_bit (2 + g.imap) (z - g.first + 1) false) writes
  given_written f left z m i =
      inr (met_edit w blocks es free f left (set_bit (2 + g.imap) (z - g.first + 1) false) m
      (In-append_right (bit_edits w true (taken_by f left)) _ _
      (In-append_left (bit_edits w false (given_by f left)) _ _ (map-In (λ z. set_bit (2 + g.imap) (z - g.first + 1) false) (given_by f left) z i))))

  -- some directory takes the zone, or gives it up
  abbrev pub IsTaken : ℕ → Type 0
  IsTaken z = (f : ℕ × Directory) × (left : List ℕ) × Met f left × In z (taken_by f left)

  abbrev pub IsGiven : ℕ → Type 0
  IsGiven z = (f : ℕ × Directory) × (left : List ℕ) × Met f left × In z (given_by f left)

  bit_elsewhere : (p : BitPlace) (x : Edit) → p.block ≢ touched_by w x → (b : List (List ℕ)) → has_bit (edited w b x) p ≡ has_bit b p
  bit_elsewhere p x apart b = ap (λ body. bit_of body p.at) (edited_elsewhere w b x p.block apart)

  -- no write is to the map of inodes
  pub inode_bit_stays : (p : BitPlace) → 2 ≤ p.block → p.block < 2 + g.imap → has_bit after p ≡ has_bit blocks p
  inode_bit_stays p low high = view_kept w (λ b. has_bit b p) writes (λ x i b full. (full_after x i b full, bit_elsewhere p x (apart x (kind_of x i)) b)) blocks full
    where
      apart : (x : Edit) → Kind x → p.block ≢ touched_by w x
      apart x of_magic e = omega (arith, e, low)
      apart x (of_taken f left z m i) e = omega (arith, e, high)
      apart x (of_given f left z m i) e = omega (arith, e, high)
      apart x (behind _ past) e = omega (arith, e, high, past)

  module _ (z : ℕ) (low : g.first ≤ z) (high : z < g.zones) where
    abbrev marked : List (List ℕ) → Bool
    marked b = has_bit b (zone_bit w z)

    as_bit : (y : ℕ) (used : Bool) (b : List (List ℕ)) → edited w b (set_bit (2 + g.imap) (y - g.first + 1) used) ≡ with_bit b (zone_bit w y) used
    unfolding edited
    as_bit y used b = refl

    block_there : (y : ℕ) → g.first ≤ y → y < g.zones → (b : List (List ℕ)) → IsFull w b → (zone_bit w y).block < length b
    block_there y from to b full = let size = full.1 in let below = again.bit_below g blocks tree all h walk sound wide_is_sound image narrow room y from to in let maps = maps_low in let zone = sound.some_zone in omega (arith, size, below, maps, zone)

    bit_set : (used : Bool) (b : List (List ℕ)) → IsFull w b → marked (edited w b (set_bit (2 + g.imap) (z - g.first + 1) used)) ≡ used
    bit_set used b full = ap marked (as_bit z used b) ∙ place_read_back b (zone_bit w z) used (block_there z low high b full) (full.0 (zone_bit w z).block) (omega arith)

    bit_beside : (y : ℕ) (used : Bool) → g.first ≤ y → y < g.zones → y ≢ z → (b : List (List ℕ)) → IsFull w b → marked (edited w b (set_bit (2 + g.imap) (y - g.first + 1) used)) ≡ marked b
    bit_beside y used from to apart b full =
        ap marked (as_bit y used b)
        ∙ other_place b (zone_bit w y) (zone_bit w z) used (block_there y from to b full) (full.0 (zone_bit w y).block) (omega arith) (λ e. apart (zone_bits_apart w y z from low e))

    in_map : 2 + g.imap ≤ (zone_bit w z).block
    in_map = omega arith

    map_ends : (zone_bit w z).block < 2 + g.imap + g.zmap
    map_ends = again.bit_below g blocks tree all h walk sound wide_is_sound image narrow room z low high

    abbrev Marks : Edit → List (List ℕ) → Type 0
    Marks x b = (marked (edited w b x) ≡ marked b) ⊎ ((IsTaken z × (marked (edited w b x) ≡ true)) ⊎ (IsGiven z × (marked (edited w b x) ≡ false)))

    marks : (x : Edit) → Kind x → (b : List (List ℕ)) → IsFull w b → Marks x b
    marks x of_magic b full = inl (bit_elsewhere (zone_bit w z) x (let a = in_map in λ e. omega (arith, e, a)) b)
    marks x (of_taken f left y m i) b full =
        (let range = again.had_within g blocks tree all h walk sound wide_is_sound image narrow room f left (again.share g blocks tree all h walk sound wide_is_sound image narrow room f left m) m y (inr i) in
        ⊎_elim
        (λ same. subst (λ y. In y (taken_by f left) → Marks (set_bit (2 + g.imap) (y - g.first + 1) true) b) (sym same) (λ i. inr (inl ((f, left, m, i), bit_set true b full))) i)
        (λ apart. inl (bit_beside y true range.0 range.1 apart b full))
        (cases_eq y z))
    marks x (of_given f left y m i) b full =
        (let range = again.had_within g blocks tree all h walk sound wide_is_sound image narrow room f left (again.share g blocks tree all h walk sound wide_is_sound image narrow room f left m) m y (again.given_had g blocks tree all h walk sound wide_is_sound image narrow room f left m y i) in
        ⊎_elim
        (λ same. subst (λ y. In y (given_by f left) → Marks (set_bit (2 + g.imap) (y - g.first + 1) false) b) (sym same) (λ i. inr (inr ((f, left, m, i), bit_set false b full))) i)
        (λ apart. inl (bit_beside y false range.0 range.1 apart b full))
        (cases_eq y z))
    marks x (behind _ past) b full = inl (bit_elsewhere (zone_bit w z) x (let a = map_ends in λ e. omega (arith, e, a, past)) b)

    pub marked_taken : IsTaken z → (IsGiven z → ⊥) → marked after ≡ true
    marked_taken t none =
        view_set w marked true writes
        (λ x i b full. (full_after x i b full, ⊎_elim (λ same. inl same) (λ c. ⊎_elim (λ a. inr a.1) (λ g. absurd (none g.0)) c) (marks x (kind_of x i) b full)))
        (set_bit (2 + g.imap) (z - g.first + 1) true) (taken_written t.0 t.1 z t.2 t.3) (bit_set true) blocks full

    pub marked_given : IsGiven z → (IsTaken z → ⊥) → marked after ≡ false
    marked_given t none =
        view_set w marked false writes
        (λ x i b full. (full_after x i b full, ⊎_elim (λ same. inl same) (λ c. ⊎_elim (λ a. absurd (none a.0)) (λ g. inr g.1) c) (marks x (kind_of x i) b full)))
        (set_bit (2 + g.imap) (z - g.first + 1) false) (given_written t.0 t.1 z t.2 t.3) (bit_set false) blocks full

    pub marked_kept : (IsTaken z → ⊥) → (IsGiven z → ⊥) → marked after ≡ marked blocks
    marked_kept untaken kept =
        view_kept w marked writes
        (λ x i b full. (full_after x i b full, ⊎_elim (λ same. same) (λ c. ⊎_elim (λ a. absurd (untaken a.0)) (λ g. absurd (kept g.0)) c) (marks x (kind_of x i) b full)))
        blocks full
