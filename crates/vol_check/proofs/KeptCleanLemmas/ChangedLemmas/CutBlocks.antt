-- The blocks of a file's zones of numbers that are cut.
use Rattle.std.specs.Prelude.{◌≡◌, ◌≢◌, ◌+◌, ◌-◌, ◌*◌, ◌/◌, ◌%◌, ◌<◌, ◌≤◌, ◌⊎◌, ◌&&◌, nat_eq, not, ℕ, suc, Bool, true, false, if◌then◌else◌, List, [], ◌∷◌, ◌++◌, map, drop, length, Some, refl, zero}
use Rattle.std.specs.List.{list_any}
use Rattle.std.proofs.Common.{sym, ap, subst, ◌∙◌, inl, inr, arith}
use Rattle.std.proofs.lemmas.Bool.{lt-ltb, le-ltb, true≢false}
use Rattle.blk_base.specs.Members.{In}
use Rattle.blk_base.specs.laws.Members.{In-append_cases}
use Rattle.byte_fields.specs.laws.ReadLaws.{length-zeros, length-put_bytes}
use Rattle.minix_layout.specs.declared.division.Geometry.{Geometry}
use Rattle.minix_layout.specs.Geometry.{IsSound}
use Rattle.tree_model.specs.Maps.{at_number}
use Rattle.tree_model.specs.laws.MapsLaws.{at_put_number}
use Rattle.volume_ops.specs.declared.found.Mapped.{Mapped}
use Rattle.volume_ops.specs.Volume.{disk_of}
use Rattle.volume_model.specs.declared.placed.Placed.{Placed}
use Rattle.volume_model.specs.declared.placed.Part.TheVariants as parts
use Rattle.volume_model.specs.Counts.{indices_of, keeps_below}
use Rattle.volume_model.specs.Cut.{IsKeep, cuts, cut_edits, cut_to, cut_told, has_numbers}
use Rattle.volume_model.specs.Edits.{Edit, clear_from, edited, edited_all, touched_by, touched_by_all}
use Rattle.volume_model.specs.MapBlock.{OpenInode, with_zones}
use Rattle.volume_model.specs.Moves.{IsVolume, opened, back_told, file_cut_touches}
use Rattle.volume_model.specs.Touched.{Contents, IsMeta}
use Rattle.volume_model.specs.Touched.IsMeta.{of_numbers}
use Rattle.volume_model.specs.Volume.{Place, indirect, double, inner, zone_in, IsOfNumbers, IsWhole}
use Rattle.volume_model.specs.laws.Counts.{keep_below}
use Rattle.volume_model.specs.laws.Cut.{AreThere, there_cuts}
use Rattle.volume_model.proofs.ToldBlocks.{none_left}
use Rattle.volume_model.specs.laws.CutTells.{told_cut, stays_as as stays_cut}
use Rattle.volume_model.specs.laws.Edits.{edited_here, edited_elsewhere, untouched}
use Rattle.volume_model.specs.laws.Indexed.{file_indexed}
use Rattle.volume_model.specs.laws.MapBlock.{changes_zone}
use Rattle.volume_model.specs.laws.Ways.{direct, single, twice, past, range}
use Rattle.volume_model.specs.laws.ZoneMoves.{fit_before}
use Rattle.volume_steps.specs.Now.{VolumeNow, Change, written}
use Rattle.volume_steps.specs.Plain.{IsInUse}
use Rattle.volume_steps.specs.Steps.{blocks_cut}
use Rattle.volume_steps.specs.Zones.{zone_bit}
use Rattle.volume_steps.proofs.Bits.{ChangesNone, AreZones, kept_volume, kept_zone, bits_none}
use Rattle.vol_check.proofs.KeptCleanLemmas.ChangedLemmas.Ends.{bits_told}
use Rattle.vol_check.proofs.KeptCleanLemmas.ChangedLemmas.Steps.{back_high}

-- ---- a zone that is cleared

-- a zone of numbers that had some from there on has other bytes
zone_differs : (g : Geometry) (blocks : List (List ℕ)) (zone at : ℕ) → IsWhole blocks → zone < length blocks → at ≤ 512 → has_numbers blocks zone at ≡ true → disk_of (edited g blocks (clear_from zone at)) zone ≢ disk_of blocks zone
unfolding has_numbers
zone_differs g blocks zone at whole within low has same =
    true≢false (sym has ∙ (ap (λ body. list_any (λ x. not (nat_eq x 0)) (drop (2 * at) body)) (sym same ∙ edited_here g blocks (clear_from zone at) within) ∙ none_left at (disk_of blocks zone) (whole zone) low))

-- ---- zones that are cleared one after the other

-- each is there and lies among the zones, and none that stays is cleared again by a later cut
abbrev AreOnce : Geometry → (Place → ℕ) → (Place → Bool) → List (Place × ℕ) → Type 0
AreOnce g own keeps [] = Unit {0}
AreOnce g own keeps (c ∷ cs) = (c.1 ≤ 512) × (keeps c.0 ≡ true → In (own c.0) (touched_by_all g (cut_edits own keeps cs)) → ⊥) × AreOnce g own keeps cs

told_place : (blocks : List (List ℕ)) (own : Place → ℕ) (keeps : Place → Bool) (cs : List (Place × ℕ)) (b : ℕ) → AreThere own keeps cs → In b (cut_told blocks own keeps cs) →
    (x : Place) × IsOfNumbers x × (keeps x ≡ true) × (own x ≢ 0) × (own x ≡ b)
told_place blocks own keeps [] b there i = absurd i
told_place blocks own keeps (c ∷ cs) b there i = by (λ j. told_place blocks own keeps cs b there.2 j) (keeps c.0) (has_numbers blocks (own c.0) c.1) refl i
  where
    by : (In b (cut_told blocks own keeps cs) → (x : Place) × IsOfNumbers x × (keeps x ≡ true) × (own x ≢ 0) × (own x ≡ b)) → (k t : Bool) → keeps c.0 ≡ k →
        In b (if k && t then own c.0 ∷ cut_told blocks own keeps cs else cut_told blocks own keeps cs) → (x : Place) × IsOfNumbers x × (keeps x ≡ true) × (own x ≢ 0) × (own x ≡ b)
    by rest true true e (inl same) = (c.0, there.0, e, there.1 e, same)
    by rest true true e (inr j) = rest j
    by rest true false e j = rest j
    by rest false t e j = rest j

module _ (g : Geometry) (sound : IsSound g) (own : Place → ℕ) (keeps : Place → Bool) (within : (x : Place) → own x ≢ 0 → (g.first ≤ own x) × (own x < g.zones)) (blocks : List (List ℕ)) where
  cut_differs : (cs : List (Place × ℕ)) (now : List (List ℕ)) (b : ℕ) → IsWhole now → length now ≡ g.zones → disk_of now b ≡ disk_of blocks b → AreThere own keeps cs → AreOnce g own keeps cs → In b (cut_told blocks own keeps cs) →
      disk_of (edited_all g now (cut_edits own keeps cs)) b ≢ disk_of blocks b
  unfolding has_numbers
  cut_differs [] now b whole size same there once i = absurd i
  cut_differs (c ∷ cs) now b whole size same there once i = by (λ next whole size same j. cut_differs cs next b whole size same there.2 once.2 j) (keeps c.0) (has_numbers blocks (own c.0) c.1) refl refl i
    where
      -- another zone is cleared first
      later : ((next : List (List ℕ)) → IsWhole next → length next ≡ g.zones → disk_of next b ≡ disk_of blocks b → In b (cut_told blocks own keeps cs) → disk_of (edited_all g next (cut_edits own keeps cs)) b ≢ disk_of blocks b) →
          keeps c.0 ≡ true → In b (cut_told blocks own keeps cs) → disk_of (edited_all g (edited g now (clear_from (own c.0) c.1)) (cut_edits own keeps cs)) b ≢ disk_of blocks b
      later rest e j =
          let range = within c.0 (there.1 e) in
          let few = once.0 in
          let count = length-zeros (1024 - 2 * c.1) in
          let body = whole (own c.0) in
          let change = changes_zone g now (clear_from (own c.0) c.1) sound whole size range.0 range.1 (length-put_bytes (2 * c.1) _ _ (omega arith) ∙ body) in
          rest (edited g now (clear_from (own c.0) c.1)) change.whole (change.size ∙ size)
          (edited_elsewhere g now (clear_from (own c.0) c.1) b (λ f. once.1 e (subst (λ b. In b (touched_by_all g (cut_edits own keeps cs))) f (told_cut g blocks own keeps cs b j))) ∙ same) j

      by : ((next : List (List ℕ)) → IsWhole next → length next ≡ g.zones → disk_of next b ≡ disk_of blocks b → In b (cut_told blocks own keeps cs) → disk_of (edited_all g next (cut_edits own keeps cs)) b ≢ disk_of blocks b) →
          (k t : Bool) → keeps c.0 ≡ k → has_numbers blocks (own c.0) c.1 ≡ t → In b (if k && t then own c.0 ∷ cut_told blocks own keeps cs else cut_told blocks own keeps cs) →
          disk_of (edited_all g now (if k then clear_from (own c.0) c.1 ∷ cut_edits own keeps cs else cut_edits own keeps cs)) b ≢ disk_of blocks b
      by rest true true e has (inl f) =
          let high = (within c.0 (there.1 e)).1 in
          let body : disk_of now (own c.0) ≡ disk_of blocks (own c.0) = subst (λ b. disk_of now b ≡ disk_of blocks b) (sym f) same in
          let some : has_numbers now (own c.0) c.1 ≡ true = ap (λ body. list_any (λ x. not (nat_eq x 0)) (drop (2 * c.1) body)) body ∙ has in
          let differs = zone_differs g now (own c.0) c.1 whole (omega arith) once.0 some in
          λ equal. differs (sym (untouched g (cut_edits own keeps cs) (edited g now (clear_from (own c.0) c.1)) (own c.0) (once.1 e)) ∙ (subst (λ b. disk_of (edited_all g (edited g now (clear_from (own c.0) c.1)) (cut_edits own keeps cs)) b ≡ disk_of blocks b) (sym f) equal ∙ sym body))
      by rest true true e has (inr j) = later rest e j
      by rest true false e has j = later rest e j
      by rest false t e has j = rest now whole size same j

-- ---- a file is cut

module _ (tx : ℕ) (v : VolumeNow) (h : IsInUse v) (n : ℕ) (p : Placed) (zones : List Mapped) (at : at_number v.contents.nodes n ≡ Some p) (is : p.part ≡ parts.File zones) (from : ℕ)
    (within : AreZones v.geometry (file_cut_touches v.geometry v.contents n p zones (keeps_below (indices_of zones) from) from).freed) where
  abbrev g : Geometry
  g = v.geometry

  abbrev blocks : List (List ℕ)
  blocks = v.contents.blocks

  abbrev own : Place → ℕ
  own x = zone_in blocks p.inode x

  abbrev keeps : Place → Bool
  keeps = keeps_below (indices_of zones) from

  abbrev freed : List ℕ
  freed = (file_cut_touches g v.contents n p zones keeps from).freed

  abbrev es : List Edit
  es = map (zone_bit g false) freed

  abbrev c : Contents
  c = written g v.contents es

  none : ChangesNone g blocks c.blocks
  none = bits_none g h.sound v.contents h.volume false freed within

  volume : IsVolume g c
  volume = kept_volume g v.contents h.volume c.blocks none

  own_kept : (x : Place) → zone_in c.blocks p.inode x ≡ own x
  own_kept = kept_zone g v.contents h.volume c.blocks none n p at

  keep : IsKeep own from keeps
  keep = keep_below own (indices_of zones) (file_indexed g blocks v.contents.nodes n p zones h.volume.0 at is (h.volume.1 n p at)) from

  keep_now : IsKeep (λ x. zone_in c.blocks p.inode x) from keeps
  keep_now = keep_below (λ x. zone_in c.blocks p.inode x) (indices_of zones) (file_indexed g c.blocks c.nodes n p zones volume.0 at is (volume.1 n p at)) from

  there : AreThere own keeps (cuts keeps from)
  there = there_cuts g h.sound (opened v.contents p) from keeps keep (fit_before g h.sound blocks v.contents.nodes n p h.volume.0 at) (h.volume.1 n p at)

  abbrev group : ℕ
  group = (from - 519) / 512

  abbrev next : ℕ
  next = if keeps (inner group) then suc group else group

  once : AreOnce g own keeps (cuts keeps from)
  once = elim (range from) [
    | direct low ↦ (let e : cuts keeps from ≡ [] = rw (lt-ltb from 7 low) refl in subst (AreOnce g own keeps) (sym e) tt)
    | single low high ↦
        let e : cuts keeps from ≡ (indirect, from - 7) ∷ [] = rw (le-ltb from 7 low, lt-ltb from 519 high) refl in
        let few : from - 7 ≤ 512 = omega arith in
        subst (AreOnce g own keeps) (sym e) (few, (λ t i. absurd i), tt)
    | twice low high ↦
        let e : cuts keeps from ≡ (inner group, (from - 519) % 512) ∷ (double, next) ∷ [] = rw (le-ltb from 7 (omega arith), le-ltb from 519 low, lt-ltb from 262663 high) refl in
        let few : (from - 519) % 512 ≤ 512 = omega arith in
        subst (AreOnce g own keeps) (sym e) (few, (λ t i. apart (subst (AreThere own keeps) e there).2.1 i), (next_low (keeps (inner group)) low high, (λ t i. absurd i), tt))
    | past low ↦ (let e : cuts keeps from ≡ [] = rw (le-ltb from 7 (omega arith), le-ltb from 519 (omega arith), le-ltb from 262663 low) refl in subst (AreOnce g own keeps) (sym e) tt)
  ]
    where
      next_low : (b : Bool) → 519 ≤ from → from < 262663 → (if b then suc group else group) ≤ 512
      next_low true low high = omega arith
      next_low false low high = omega arith

      apart : (keeps double ≡ true → own double ≢ 0) → In (own (inner group)) (touched_by_all g (cut_edits own keeps ((double, next) ∷ []))) → ⊥
      apart some = by (keeps double) refl
        where
          by : (k : Bool) → keeps double ≡ k → In (own (inner group)) (touched_by_all g (if k then clear_from (own double) next ∷ [] else [])) → ⊥
          by true t (inl same) = absurd (cc (h.volume.0.zones n n p p double (inner group) at at same (some t)).1)
          by true t (inr z) = absurd z
          by false t z = absurd z

  abbrev u : OpenInode
  u = cut_to g keeps (opened c p) from

  abbrev pub cut : Change
  cut = blocks_cut v tx n p zones keeps from

  -- its zones may be others, and nothing else of its inode
  pub cut_inode : u.inode ≡ with_zones p.inode u.inode.zones
  unfolding cut_to
  cut_inode = refl

  same_inode_told : (cut_to g keeps (opened v.contents p) from).inode ≡ u.inode
  unfolding cut_to
  same_inode_told = refl

  blocks_are : u.blocks ≡ edited_all g c.blocks (cut_edits own keeps (cuts keeps from))
  unfolding cut_to
  blocks_are = λ k. edited_all g c.blocks (cut_edits (λ x. own_kept x k) keeps (cuts keeps from))

  -- a zone of numbers that is told stays, and has other bytes
  pub number_meta : (b : ℕ) → In b (cut_told blocks own keeps (cuts keeps from)) → IsMeta g cut.volume.contents b
  number_meta b i =
      let w = told_place blocks own keeps (cuts keeps from) b there i in
      let stays = stays_cut g h.sound c.blocks c.nodes n p volume.0 at from keeps keep_now (volume.1 n p at) zones is w.0 w.2 ∙ own_kept w.0 in
      of_numbers n _ w.0 (at_put_number v.contents.nodes n _) w.1 (stays ∙ w.4) (λ zero. w.3 (w.4 ∙ zero))

  pub number_low : (b : ℕ) → In b (cut_told blocks own keeps (cuts keeps from)) → g.first ≤ b
  number_low b i =
      let w = told_place blocks own keeps (cuts keeps from) b there i in
      subst (λ b. g.first ≤ b) w.4 ((h.volume.0.each n p at).zones w.0 w.3).0

  pub number_differs : (b : ℕ) → In b (cut_told blocks own keeps (cuts keeps from)) → disk_of cut.volume.contents.blocks b ≢ disk_of blocks b
  number_differs b i same =
      let told = h.volume.0.each n p at in
      let low = number_low b i in
      cut_differs g h.sound own keeps told.zones blocks (cuts keeps from) c.blocks b none.whole (none.size ∙ h.volume.0.size) (none.zones b low (λ z. z)) there once i
      (sym (ap (λ after. disk_of after b) blocks_are) ∙ (sym (back_high g u.blocks p u.inode h.sound told.some told.within b low) ∙ same))

  -- what is told of the cut
  pub cut_cases : (b : ℕ) → In b cut.touched.blocks → ((z : ℕ) × In z cut.touched.freed × (touched_by g (zone_bit g false z) ≡ b)) ⊎ (In b (cut_told blocks own keeps (cuts keeps from)) ⊎ In b (back_told g p u.inode))
  cut_cases b i = elim (In-append_cases (touched_by_all g es) (cut_told blocks own keeps (cuts keeps from) ++ back_told g p (cut_to g keeps (opened v.contents p) from).inode) b i) [
    | inl j ↦ inl (bits_told g false freed b j)
    | inr more ↦ elim (In-append_cases (cut_told blocks own keeps (cuts keeps from)) (back_told g p (cut_to g keeps (opened v.contents p) from).inode) b more) [
      | inl j ↦ inr (inl j)
      | inr j ↦ inr (inr (subst (λ i. In b (back_told g p i)) same_inode_told j))
    ]
  ]
