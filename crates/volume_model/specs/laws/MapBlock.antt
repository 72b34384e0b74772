-- What is mapped afterwards.
use Rattle.std.specs.Prelude.{◌≡◌, ◌≢◌, ℕ, zero, suc, ◌-◌, ◌*◌, ◌^◌, ◌<◌, ◌≤◌, nat_lt, nat_eq, Bool, true, false, List, [], ◌∷◌, length, slice_index, slice_set, replicate, refl}
use Rattle.std.proofs.Common.{sym, ap, subst, ◌∙◌, inl, inr, arith}
use Rattle.std.proofs.lemmas.Bool.{cases_Bool, cases_eq, eqb-true, eqb-false, le-ltb, ltb-true, ltb-false, true≢false}
use Rattle.std.proofs.lemmas.List.{get_or-set_same, get_or-set_other, length-set, drop-replicate}
use Rattle.byteorder.specs.Endian.{little_number}
use Rattle.blk_base.specs.Members.{In}
use Rattle.byte_fields.specs.Fields.{zeros, number_at, number_of, put}
use Rattle.byte_fields.specs.Fields.Order.{little}
use Rattle.byte_fields.specs.laws.ReadLaws.{length-zeros, length-put}
use Rattle.minix_layout.specs.declared.division.Geometry.{Geometry}
use Rattle.minix_layout.specs.declared.inode.Inode.{Inode}
use Rattle.minix_layout.specs.Geometry.{IsSound}
use Rattle.minix_layout.specs.Inodes.{FitInode}
use Rattle.volume_ops.specs.Places.{zone_number}
use Rattle.volume_ops.specs.Volume.{disk_of}
use Rattle.volume_model.specs.Edits.{Edit, put_body, put_entry, touched_by, body_after, edited, edited_all}
use Rattle.volume_model.specs.Volume.{IsWhole, Place, block, indirect, double, inner, IsOfNumbers, at_indirect, at_double, at_inner}
use Rattle.volume_model.specs.laws.Edits.{length-edited, edited_here, edited_elsewhere, inode_kept, whole_edited}
use Rattle.volume_model.specs.Changes.{Changes}
use Rattle.volume_model.specs.laws.Changes.{changes_then, table_below}
use Rattle.volume_model.specs.laws.Numbers.{number_here, number_elsewhere}
use Rattle.volume_model.specs.Ways.{Home, slot, entry, nowhere, home}
use Rattle.volume_model.specs.laws.Ways.{direct, single, twice, past, range, home-direct, home-single, home-twice, home-past, home-inner}
use Rattle.volume_model.specs.laws.Gets.{cases_place, with_own, own_here, own_other, Sets, Hole, gets_as}
use Rattle.volume_model.specs.MapBlock.{OpenInode, TakenZones, entry_edits, first_body, get_step, get_steps, get_zone, own_of, slot_written, taken_at, with_zones}

-- ---- definitions

-- ---- a write of a zone

pub changes_zone : (g : Geometry) (blocks : List (List ℕ)) (e : Edit) → IsSound g → IsWhole blocks → length blocks ≡ g.zones → g.first ≤ touched_by g e → touched_by g e < g.zones →
    length (body_after g e (disk_of blocks (touched_by g e))) ≡ 1024 →
    Changes g (λ _. ⊥) (λ b. b ≡ touched_by g e) blocks (edited g blocks e)
changes_zone g blocks e sound whole size low high bytes = record {
  whole = whole_edited g blocks e whole bytes (omega arith);
  size = length-edited g blocks e;
  inodes = λ j more below none. inode_kept g blocks e j (let t = table_below g j sound more below in omega arith);
  zones = λ b from none. edited_elsewhere g blocks e b none;
}

-- ---- one step

pub little_zero : (m : ℕ) → little_number 2 (replicate m 0) ≡ 0
little_zero zero = refl
little_zero (suc zero) = refl
little_zero (suc (suc m)) = refl

number_of_zeros : (k : ℕ) → zone_number (zeros 1024) k ≡ 0
unfolding number_at number_of zeros
number_of_zeros k = ap (little_number 2) (drop-replicate (2 * k) 1024 0) ∙ little_zero (1024 - 2 * k)

-- what a home says of itself
abbrev pub entry_at : Home → ℕ
entry_at (entry h k) = k
entry_at (slot k) = 0
entry_at nowhere = 0

abbrev pub slot_at : Home → ℕ
slot_at (slot k) = k
slot_at (entry h k) = 0
slot_at nowhere = 0

abbrev pub pointer_block_at : Home → Place
pointer_block_at (entry h k) = h
pointer_block_at (slot k) = block 0
pointer_block_at nowhere = block 0

abbrev pub is_block : Place → Bool
is_block (block i) = true
is_block indirect = false
is_block double = false
is_block (inner k) = false

abbrev pub is_slot : Home → Bool
is_slot (slot k) = true
is_slot (entry h k) = false
is_slot nowhere = false

pub home-inner_past : (k : ℕ) → 512 ≤ k → home (inner k) ≡ nowhere
home-inner_past k far = rw (le-ltb k 512 far) refl

-- ranges of the numbers in a home, and that a data block has none behind it
record IsHome (e : Home) : Type 0 where
  low : entry_at e < 512
  nine : slot_at e < 9

is_home : (x : Place) → IsHome (home x)
is_home (block index) =
    elim (range index) [
      | direct low ↦ subst IsHome (sym (home-direct index low)) (record { low = omega arith; nine = omega arith })
      | single low high ↦ subst IsHome (sym (home-single index low high)) (record { low = omega arith; nine = omega arith })
      | twice low high ↦ subst IsHome (sym (home-twice index low high)) (record { low = omega arith; nine = omega arith })
      | past low ↦ subst IsHome (sym (home-past index low)) (record { low = omega arith; nine = omega arith })
    ]
is_home indirect = record { low = omega arith; nine = omega arith }
is_home double = record { low = omega arith; nine = omega arith }
is_home (inner k) =
    elim (cases_Bool (nat_lt k 512)) [
      | inl t ↦ subst IsHome (sym (home-inner k (ltb-true _ _ t))) (record { low = ltb-true _ _ t; nine = omega arith })
      | inr f ↦ subst IsHome (sym (home-inner_past k (ltb-false _ _ f))) (record { low = omega arith; nine = omega arith })
    ]

pub entry_low : (y h : Place) (k : ℕ) → home y ≡ entry h k → k < 512
entry_low y h k at = subst (λ e. entry_at e < 512) at (is_home y).low

pub slot_low : (y : Place) (k : ℕ) → home y ≡ slot k → k < 9
slot_low y k at = subst (λ e. slot_at e < 9) at (is_home y).nine

pub no_child : (y : Place) (i k : ℕ) → home y ≢ entry (block i) k
no_child (block index) i k at =
    elim (range index) [
      | direct low ↦ true≢false (ap is_slot (sym (home-direct index low) ∙ at))
      | single low high ↦ true≢false (sym (ap (λ e. is_block (pointer_block_at e)) (sym (home-single index low high) ∙ at)))
      | twice low high ↦ true≢false (sym (ap (λ e. is_block (pointer_block_at e)) (sym (home-twice index low high) ∙ at)))
      | past low ↦ slots_apart (sym (home-past index low) ∙ at)
    ]
  where
    slots_apart : nowhere ≡ entry (block i) k → ⊥
    slots_apart e = absurd (cc e)
no_child indirect i k at = true≢false (ap is_slot at)
no_child double i k at = true≢false (ap is_slot at)
no_child (inner n) i k at =
    elim (cases_Bool (nat_lt n 512)) [
      | inl t ↦ true≢false (sym (ap (λ e. is_block (pointer_block_at e)) (sym (home-inner n (ltb-true _ _ t)) ∙ at)))
      | inr f ↦ other (sym (home-inner_past n (ltb-false _ _ f)) ∙ at)
    ]
  where
    other : nowhere ≡ entry (block i) k → ⊥
    other e = absurd (cc e)

-- what stands above is a zone of numbers
pub above : (y h : Place) (k : ℕ) → home y ≡ entry h k → IsOfNumbers h
above y (block i) k at = absurd (no_child y i k at)
above y indirect k at = at_indirect
above y double k at = at_double
above y (inner j) k at = at_inner

-- an inode with other zones fits its bytes, where they are nine numbers that do
pub zones_fit : (i : Inode) (zones : List ℕ) → FitInode i → length zones ≡ 9 → ((k : ℕ) → slice_index zones k < 2 ^ 16) → FitInode (with_zones i zones)
zones_fit i zones f nine each = record { mode = f.mode; uid = f.uid; size = f.size; time = f.time; gid = f.gid; links = f.links; nine = nine; zones = each }

-- an inode that fits, with its zones apart and within the volume
pub record IsFit (g : Geometry) (s : OpenInode) : Type 0 where
  pub whole : IsWhole s.blocks
  pub size : length s.blocks ≡ g.zones
  pub fits : FitInode s.inode
  pub within : (x : Place) → own_of s x ≢ 0 → (g.first ≤ own_of s x) × (own_of s x < g.zones)
  pub apart : (x y : Place) → own_of s x ≡ own_of s y → own_of s x ≢ 0 → x ≡ y

pub record MayGet (g : Geometry) (s : OpenInode) (x : Place) (z : ℕ) (body : List ℕ) : Type 0 where
  pub hole : Hole s.blocks s.inode x z
  pub low : g.first ≤ z
  pub high : z < g.zones
  pub fits : z < 2 ^ 16
  pub fresh : (y : Place) → own_of s y ≢ z
  pub size : length body ≡ 1024
  pub empty : (y : Place) (k : ℕ) → home y ≡ entry x k → zone_number body k ≡ 0

module _ (g : Geometry) (s : OpenInode) (x : Place) (z : ℕ) (body : List ℕ) (fit : IsFit g s) (may : MayGet g s x z body) where
  abbrev one : List (List ℕ)
  one = edited g s.blocks (put_body z body)

  inside : z < length s.blocks
  inside = let high = may.high in let size = fit.size in omega arith

  one_here : disk_of one z ≡ body
  one_here = edited_here g s.blocks (put_body z body) inside

  one_other : (b : ℕ) → b ≢ z → disk_of one b ≡ disk_of s.blocks b
  one_other b apart = edited_elsewhere g s.blocks (put_body z body) b apart

  sets_by : (e : Home) → home x ≡ e → Sets s.blocks (edited_all g s.blocks (put_body z body ∷ entry_edits s e z)) s.inode (slot_written s.inode e z) x z
  sets_by (slot k) is = record {
    slot_here = λ j at.
        let same : j ≡ k = ap slot_at (sym at ∙ is) in
        let low = slot_low x k is in
        let nine = fit.fits.nine in
        ap (slice_index (slice_set s.inode.zones k z)) same ∙ get_or-set_same s.inode.zones k z _ (omega arith);
    slot_other = λ j no. get_or-set_other s.inode.zones k j z _ (λ e. no (is ∙ ap slot (sym e)));
    entry_here = λ h j at. absurd (cc (sym is ∙ at));
    entry_other = λ y h j at some no. ap (λ body. zone_number body j) (one_other (own_of s h) (may.fresh h));
    empty = λ y j at. ap (λ body. zone_number body j) one_here ∙ may.empty y j at;
  }
  sets_by (entry h k) is = record {
    slot_here = λ j at. absurd (cc (sym is ∙ at));
    slot_other = λ j no. refl;
    entry_here = λ r j at.
        let e : entry r j ≡ entry h k = sym at ∙ is in
        let up : own_of s r ≡ own_of s h = ap (λ e. own_of s (pointer_block_at e)) e in
        let same : j ≡ k = ap entry_at e in
        ap (λ b. zone_number (disk_of (edited g one (put_entry (own_of s h) k z)) b) j) up
        ∙ (ap (zone_number (disk_of (edited g one (put_entry (own_of s h) k z)) (own_of s h))) same
        ∙ (ap (λ body. zone_number body k) two_here ∙ number_here (disk_of one (own_of s h)) k z one_whole low (may.fits)));
    entry_other = λ y r j at some no.
        elim (cases_eq (own_of s r) (own_of s h)) [
          | inl e ↦
              let up : r ≡ h = fit.apart r h e some in
              let apart : j ≢ k = λ same. no (is ∙ (ap (entry h) (sym same) ∙ ap (λ h. entry h j) (sym up))) in
              ap (λ b. zone_number (disk_of (edited g one (put_entry (own_of s h) k z)) b) j) e
              ∙ (ap (λ body. zone_number body j) two_here
              ∙ (number_elsewhere (disk_of one (own_of s h)) k j z one_whole low (entry_low y r j at) apart
              ∙ (ap (λ body. zone_number body j) (one_other (own_of s h) (may.fresh h))
              ∙ ap (λ b. zone_number (disk_of s.blocks b) j) (sym e))))
          | inr a ↦ ap (λ body. zone_number body j) (edited_elsewhere g one (put_entry (own_of s h) k z) (own_of s r) a ∙ one_other (own_of s r) (may.fresh r))
        ];
    empty = λ y j at.
        ap (λ body. zone_number body j) (edited_elsewhere g one (put_entry (own_of s h) k z) z (λ e. may.fresh h (sym e)) ∙ one_here) ∙ may.empty y j at;
  }
    where
      there : own_of s h ≢ 0
      there = may.hole.there h k is

      low : k < 512
      low = entry_low x h k is

      one_whole : length (disk_of one (own_of s h)) ≡ 1024
      one_whole = ap length (one_other (own_of s h) (may.fresh h)) ∙ fit.whole _

      two_here : disk_of (edited g one (put_entry (own_of s h) k z)) (own_of s h) ≡ put little 2 (2 * k) z (disk_of one (own_of s h))
      two_here = edited_here g one (put_entry (own_of s h) k z)
          (let high = (fit.within h there).1 in let size = fit.size in let same = length-edited g s.blocks (put_body z body) in omega arith)
  sets_by nowhere is = absurd (may.hole.placed is)

  pub get_sets : Sets s.blocks (get_zone g s x z body).blocks s.inode (get_zone g s x z body).inode x z
  get_sets = sets_by (home x) refl

-- ---- what one step leaves

pub changes_wider : (g : Geometry) {I J Z W : ℕ → Type 0} {a b : List (List ℕ)} → ((j : ℕ) → I j → J j) → ((z : ℕ) → Z z → W z) → Changes g I Z a b → Changes g J W a b
changes_wider g i z c = record {
  whole = c.whole;
  size = c.size;
  inodes = λ j some below none. c.inodes j some below (λ x. none (i j x));
  zones = λ b low none. c.zones b low (λ x. none (z b x));
}

-- a zone that came, or one that the inode has
pub data Mine (own : Place → ℕ) (Came : ℕ → Type 0) (b : ℕ) : Type 0 where
  came : Came b → Mine own Came b
  had : (h : Place) → IsOfNumbers h → own h ≢ 0 → own h ≡ b → Mine own Came b

module _ (g : Geometry) (sound : IsSound g) (s : OpenInode) (x : Place) (z : ℕ) (body : List ℕ) (fit : IsFit g s) (may : MayGet g s x z body) where
  abbrev after : OpenInode
  after = get_zone g s x z body

  changes_by : (e : Home) → home x ≡ e → Changes g (λ _. ⊥) (Mine (own_of s) (λ b. b ≡ z)) s.blocks (edited_all g s.blocks (put_body z body ∷ entry_edits s e z))
  changes_by e is =
      let first = changes_zone g s.blocks (put_body z body) sound fit.whole fit.size may.low may.high may.size in
      elim e as (λ e. home x ≡ e → Changes g (λ _. ⊥) (Mine (own_of s) (λ b. b ≡ z)) s.blocks (edited_all g s.blocks (put_body z body ∷ entry_edits s e z))) [
        | slot k ↦ λ is. changes_wider g (λ j i. i) (λ b e. came e) first
        | nowhere ↦ λ is. changes_wider g (λ j i. i) (λ b e. came e) first
        | entry h k ↦ λ is.
            let there = may.hole.there h k is in
            let range = fit.within h there in
            let low = entry_low x h k is in
            let whole = first.whole (own_of s h) in
            let second = changes_zone g (edited g s.blocks (put_body z body)) (put_entry (own_of s h) k z) sound first.whole (first.size ∙ fit.size) range.0 range.1
            (length-put little 2 (2 * k) z _ (omega arith) ∙ whole) in
            changes_wider g (λ j i. elim i [ inl n ↦ n | inr n ↦ n ]) (λ b i. elim i [ inl e ↦ came e | inr e ↦ had h (above x h k is) there (sym e) ]) (changes_then g first second)
      ] is

  pub get_changes : Changes g (λ _. ⊥) (Mine (own_of s) (λ b. b ≡ z)) s.blocks after.blocks
  get_changes = changes_by (home x) refl

  pub get_as : (y : Place) → own_of after y ≡ with_own (own_of s) x z y
  get_as = gets_as s.blocks after.blocks s.inode after.inode x z fit.whole get_changes.whole may.hole (get_sets g s x z body fit may)

  pub get_here : own_of after x ≡ z
  get_here = get_as x ∙ own_here (own_of s) x z

  pub get_other : (y : Place) → x ≢ y → own_of after y ≡ own_of s y
  get_other y apart = get_as y ∙ own_other (own_of s) x y z apart

  fits_by : (e : Home) → home x ≡ e → FitInode (slot_written s.inode e z)
  fits_by (slot k) is =
      let nine = fit.fits.nine in
      let low = slot_low x k is in
      zones_fit s.inode (slice_set s.inode.zones k z) fit.fits (length-set s.inode.zones k z ∙ nine)
      (λ j. elim (cases_eq j k) [
        | inl e ↦ subst (λ v. v < 2 ^ 16) (sym (ap (slice_index (slice_set s.inode.zones k z)) e ∙ get_or-set_same s.inode.zones k z _ (omega arith))) may.fits
        | inr a ↦ subst (λ v. v < 2 ^ 16) (sym (get_or-set_other s.inode.zones k j z _ a)) (fit.fits.zones j)
      ])
  fits_by (entry h k) is = fit.fits
  fits_by nowhere is = fit.fits

  pub get_fit : IsFit g after
  get_fit = record {
    whole = get_changes.whole;
    size = get_changes.size ∙ fit.size;
    fits = fits_by (home x) refl;
    within = λ y some. elim (cases_place x y) [
      | inl e ↦ subst (λ v. (g.first ≤ v) × (v < g.zones)) (sym (ap (own_of after) (sym e) ∙ get_here)) (may.low, may.high)
      | inr a ↦ subst (λ v. (g.first ≤ v) × (v < g.zones)) (sym (get_other y a)) (fit.within y (λ none. some (get_other y a ∙ none)))
    ];
    apart = λ y w same some. elim (cases_place x y) [
      | inl e ↦ elim (cases_place x w) [
        | inl f ↦ sym e ∙ f
        | inr b ↦ absurd (may.fresh w (sym (get_other w b) ∙ (sym same ∙ (ap (own_of after) (sym e) ∙ get_here))))
      ]
      | inr a ↦ elim (cases_place x w) [
        | inl f ↦ absurd (may.fresh y (sym (get_other y a) ∙ (same ∙ (ap (own_of after) (sym f) ∙ get_here))))
        | inr b ↦ fit.apart y w (sym (get_other y a) ∙ (same ∙ get_other w b)) (λ none. some (get_other y a ∙ none))
      ]
    ];
  }

-- ---- all steps

-- places that had none got theirs, all others keep theirs
pub record Got (own next : Place → ℕ) (t : TakenZones) (xs : List Place) : Type 0 where
  pub kept : (y : Place) → own y ≢ 0 → next y ≡ own y
  pub taken : (y : Place) → In y xs → own y ≡ 0 → next y ≡ taken_at t y
  pub others : (y : Place) → (In y xs → ⊥) → next y ≡ own y

got_then : (own mid next : Place → ℕ) (t : TakenZones) (x : Place) (xs : List Place) → mid x ≢ 0 → Got own mid t (x ∷ []) → Got mid next t xs → Got own next t (x ∷ xs)
got_then own mid next t x xs some a b = record {
  kept = λ y had. b.kept y (λ none. had (sym (a.kept y had) ∙ none)) ∙ a.kept y had;
  taken = λ y i none. elim (cases_place x y) [
    | inl e ↦ b.kept y (λ no. some (ap mid e ∙ no)) ∙ a.taken y (inl e) none
    | inr apart ↦ elim i [
      | inl e ↦ absurd (apart e)
      | inr i ↦ b.taken y i (a.others y (λ i. elim i [ inl e ↦ apart e | inr n ↦ n ]) ∙ none)
    ]
  ];
  others = λ y no. b.others y (λ i. no (inr i)) ∙ a.others y (λ i. elim i [ inl e ↦ no (inl e) | inr n ↦ absurd n ]);
}

-- the zones that were taken: fresh, and apart from each other
pub record IsFresh (g : Geometry) (own : Place → ℕ) (t : TakenZones) (xs : List Place) : Type 0 where
  pub some : (x : Place) → In x xs → own x ≡ 0 → taken_at t x ≢ 0
  pub low : (x : Place) → In x xs → own x ≡ 0 → g.first ≤ taken_at t x
  pub high : (x : Place) → In x xs → own x ≡ 0 → taken_at t x < g.zones
  pub fits : (x : Place) → In x xs → own x ≡ 0 → taken_at t x < 2 ^ 16
  pub fresh : (x y : Place) → In x xs → own x ≡ 0 → own y ≢ taken_at t x
  pub differ : (x y : Place) → In x xs → In y xs → own x ≡ 0 → own y ≡ 0 → taken_at t x ≡ taken_at t y → x ≡ y

-- the number of a place can be written
pub record IsReached (own : Place → ℕ) (x : Place) : Type 0 where
  pub placed : home x ≢ nowhere
  pub there : (h : Place) (k : ℕ) → home x ≡ entry h k → own h ≢ 0

-- each is behind the one before
abbrev pub IsChain : Place → List Place → Type 0
IsChain p [] = Unit {0}
IsChain p (x ∷ xs) = ((k : ℕ) × (home x ≡ entry p k)) × IsChain x xs

abbrev pub CameFor : (Place → ℕ) → TakenZones → List Place → ℕ → Type 0
CameFor own t xs b = (x : Place) × In x xs × (own x ≡ 0) × (taken_at t x ≡ b)

pub record Outcome (g : Geometry) (t : TakenZones) (s u : OpenInode) (xs : List Place) : Type 0 where
  pub fit : IsFit g u
  pub got : Got (own_of s) (own_of u) t xs
  pub fields : u.inode ≡ with_zones s.inode u.inode.zones
  pub changes : Changes g (λ _. ⊥) (Mine (own_of s) (CameFor (own_of s) t xs)) s.blocks u.blocks

module _ (g : Geometry) (sound : IsSound g) (t : TakenZones) (content : List ℕ) (size : length content ≡ 1024) where
  size_first : (x : Place) → length (first_body content x) ≡ 1024
  size_first (block i) = size
  size_first indirect = length-zeros 1024
  size_first double = length-zeros 1024
  size_first (inner k) = length-zeros 1024

  empty_first : (x y : Place) (k : ℕ) → home y ≡ entry x k → zone_number (first_body content x) k ≡ 0
  empty_first (block i) y k at = absurd (no_child y i k at)
  empty_first indirect y k at = number_of_zeros k
  empty_first double y k at = number_of_zeros k
  empty_first (inner n) y k at = number_of_zeros k

  pub may_get : (s : OpenInode) (x : Place) (xs : List Place) → IsFresh g (own_of s) t (x ∷ xs) → IsReached (own_of s) x → own_of s x ≡ 0 → MayGet g s x (taken_at t x) (first_body content x)
  may_get s x xs f r none = record {
    hole = record { hole = none; some = f.some x (inl refl) none; placed = r.placed; there = r.there };
    low = f.low x (inl refl) none;
    high = f.high x (inl refl) none;
    fits = f.fits x (inl refl) none;
    fresh = λ y. f.fresh x y (inl refl) none;
    size = size_first x;
    empty = λ y k at. empty_first x y k at;
  }

  fields_step : (e : Home) (z : ℕ) (i : Inode) → slot_written i e z ≡ with_zones i (slot_written i e z).zones
  fields_step (slot k) z i = refl
  fields_step (entry h k) z i = refl
  fields_step nowhere z i = refl

  pub one_step : (s : OpenInode) (x : Place) (xs : List Place) → IsFit g s → IsFresh g (own_of s) t (x ∷ xs) → IsReached (own_of s) x → Outcome g t s (get_step g t content s x) (x ∷ [])
  one_step s x xs fit f r =
      elim (cases_Bool (nat_eq (own_of s x) 0)) [
        | inr n ↦ subst (λ u. Outcome g t s u (x ∷ [])) (let stay : s ≡ get_step g t content s x = rw n refl in stay) (record {
          fit = fit;
          fields = refl;
          got = record { kept = λ y some. refl; taken = λ y i none. elim i [ inl e ↦ absurd (eqb-false _ _ n (ap (own_of s) e ∙ none)) | inr w ↦ absurd w ]; others = λ y no. refl };
          changes = record { whole = fit.whole; size = refl; inodes = λ j some below none. refl; zones = λ b low none. refl };
        })
        | inl e ↦
            let none : own_of s x ≡ 0 = eqb-true _ _ e in
            let may = may_get s x xs f r none in
            subst (λ u. Outcome g t s u (x ∷ [])) (let step : get_zone g s x (taken_at t x) (first_body content x) ≡ get_step g t content s x = rw e refl in step) (record {
              fit = get_fit g sound s x _ _ fit may;
              fields = fields_step (home x) (taken_at t x) s.inode;
              got = record {
                kept = λ y some. get_other g sound s x _ _ fit may y (λ q. some (ap (own_of s) (sym q) ∙ none));
                taken = λ y i no. elim i [ inl q ↦ subst (λ y. own_of (get_zone g s x (taken_at t x) (first_body content x)) y ≡ taken_at t y) q (get_here g sound s x _ _ fit may) | inr w ↦ absurd w ];
                others = λ y no. get_other g sound s x _ _ fit may y (λ q. no (inl q));
              };
              changes = changes_wider g (λ j i. i) (λ b m. elim m [ came q ↦ came (x, inl refl, none, sym q) | had h n some q ↦ had h n some q ]) (get_changes g sound s x _ _ fit may);
            })
      ]

  -- what is fresh stays so for the rest
  pub fresh_rest : (s u : OpenInode) (x : Place) (xs : List Place) → IsFresh g (own_of s) t (x ∷ xs) → Got (own_of s) (own_of u) t (x ∷ []) → IsFresh g (own_of u) t xs
  fresh_rest s u x xs f got = record {
    some = λ y i none. f.some y (inr i) (back y none);
    low = λ y i none. f.low y (inr i) (back y none);
    high = λ y i none. f.high y (inr i) (back y none);
    fits = λ y i none. f.fits y (inr i) (back y none);
    fresh = λ y w i none same. elim (cases_place x w) [
      | inr a ↦ f.fresh y w (inr i) (back y none) (sym (got.others w (λ j. elim j [ inl e ↦ a e | inr n ↦ n ])) ∙ same)
      | inl e ↦ elim (cases_Bool (nat_eq (own_of s w) 0)) [
        | inr n ↦ f.fresh y w (inr i) (back y none) (sym (got.kept w (eqb-false _ _ n)) ∙ same)
        | inl z ↦
            let was : own_of s w ≡ 0 = eqb-true _ _ z in
            let told : own_of u w ≡ taken_at t w = got.taken w (inl e) was in
            let one : w ≡ y = f.differ w y (inl e) (inr i) was (back y none) (sym told ∙ same) in
            f.some w (inl e) was (sym told ∙ (ap (own_of u) one ∙ none))
      ]
    ];
    differ = λ y w i j none no same. f.differ y w (inr i) (inr j) (back y none) (back w no) same;
  }
    where
      back : (y : Place) → own_of u y ≡ 0 → own_of s y ≡ 0
      back y none = elim (cases_Bool (nat_eq (own_of s y) 0)) [ inl z ↦ eqb-true _ _ z | inr n ↦ absurd (eqb-false _ _ n (sym (got.kept y (eqb-false _ _ n)) ∙ none)) ]

  pub there_now : (s u : OpenInode) (x : Place) (xs : List Place) → IsFresh g (own_of s) t (x ∷ xs) → Got (own_of s) (own_of u) t (x ∷ []) → own_of u x ≢ 0
  there_now s u x xs f got none =
      elim (cases_Bool (nat_eq (own_of s x) 0)) [
        | inl z ↦ f.some x (inl refl) (eqb-true _ _ z) (sym (got.taken x (inl refl) (eqb-true _ _ z)) ∙ none)
        | inr n ↦ eqb-false _ _ n (sym (got.kept x (eqb-false _ _ n)) ∙ none)
      ]

  pub next_reached : (u : OpenInode) (x y : Place) (k : ℕ) → home y ≡ entry x k → own_of u x ≢ 0 → IsReached (own_of u) y
  next_reached u x y k at some = record {
    placed = λ no. cc (sym at ∙ no);
    there = λ h j is none. some (ap (λ e. own_of u (pointer_block_at e)) (sym at ∙ is) ∙ none);
  }

  pub all_steps : (s : OpenInode) (x : Place) (xs : List Place) → IsFit g s → IsFresh g (own_of s) t (x ∷ xs) → IsReached (own_of s) x → IsChain x xs → Outcome g t s (get_steps g t content s (x ∷ xs)) (x ∷ xs)
  all_steps s x [] fit f r chain = one_step s x [] fit f r
  all_steps s x (y ∷ xs) fit f r chain =
      let u = get_step g t content s x in
      let one = one_step s x (y ∷ xs) fit f r in
      let now : own_of u x ≢ 0 = there_now s u x (y ∷ xs) f one.got in
      let rest = all_steps u y xs one.fit (fresh_rest s u x (y ∷ xs) f one.got) (next_reached u x y chain.0.0 chain.0.1 now) chain.1 in
      record {
        fit = rest.fit;
        fields = rest.fields ∙ ap (λ i. with_zones i (get_steps g t content u (y ∷ xs)).inode.zones) one.fields;
        got = got_then (own_of s) (own_of u) _ t x (y ∷ xs) now one.got rest.got;
        changes = changes_wider g (λ j i. elim i [ inl n ↦ n | inr n ↦ n ]) (λ b i. elim i [ inl m ↦ wider x (y ∷ xs) s b m | inr m ↦ further s u x (y ∷ xs) one.got b m ]) (changes_then g one.changes rest.changes);
      }
    where
      wider : (x : Place) (xs : List Place) (s : OpenInode) (b : ℕ) → Mine (own_of s) (CameFor (own_of s) t (x ∷ [])) b → Mine (own_of s) (CameFor (own_of s) t (x ∷ xs)) b
      wider x xs s b (came c) = came (c.0, elim c.1 [ inl e ↦ inl e | inr n ↦ absurd n ], c.2, c.3)
      wider x xs s b (had h n some e) = had h n some e

      further : (s u : OpenInode) (x : Place) (xs : List Place) → Got (own_of s) (own_of u) t (x ∷ []) → (b : ℕ) → Mine (own_of u) (CameFor (own_of u) t xs) b → Mine (own_of s) (CameFor (own_of s) t (x ∷ xs)) b
      further s u x xs got b (came c) =
          elim (cases_Bool (nat_eq (own_of s c.0) 0)) [
            | inl z ↦ came (c.0, inr c.1, eqb-true _ _ z, c.3)
            | inr n ↦ absurd (eqb-false _ _ n (sym (got.kept c.0 (eqb-false _ _ n)) ∙ c.2))
          ]
      further s u x xs got b (had h m some e) =
          elim (cases_Bool (nat_eq (own_of s h) 0)) [
            | inr n ↦ had h m (eqb-false _ _ n) (sym (got.kept h (eqb-false _ _ n)) ∙ e)
            | inl z ↦ elim (cases_place x h) [
              | inl one ↦ came (h, inl one, eqb-true _ _ z, sym (got.taken h (inl one) (eqb-true _ _ z)) ∙ e)
              | inr a ↦ absurd (some (got.others h (λ i. elim i [ inl e ↦ a e | inr n ↦ n ]) ∙ eqb-true _ _ z))
            ]
          ]
