-- The test of metadata decides what the metadata of a plain volume is.
use Rattle.std.specs.Prelude.{◌≡◌, ◌≢◌, ◌<◌, ◌==◌, ℕ, nat_lt, Bool, true, false, ◌||◌, Some, refl}
use Rattle.std.specs.Ordering.{nat_cmp}
use Rattle.std.proofs.Common.{sym, ap, subst, ◌∙◌, inl, inr, ⊎_elim, arith, ltb-true, eqb-true}
use Rattle.std.proofs.lemmas.Bool.{or_cases, eq-eqb, true≢false, cases_Bool}
use Rattle.blk_base.specs.Members.{In}
use Rattle.blk_base.specs.laws.Members.{In-list_any, list_any-In}
use Rattle.tree_model.specs.Maps.{at_number}
use Rattle.tree_model.specs.laws.MapsLaws.{found-In, number_here, number_same}
use Rattle.volume_model.specs.declared.placed.Placed.{Placed}
use Rattle.volume_model.specs.declared.placed.Part.{Part}
use Rattle.volume_model.specs.declared.placed.Part.TheVariants as parts
use Rattle.volume_model.specs.declared.placed.DirectoryPart.{DirectoryPart}
use Rattle.volume_model.specs.Touched.{IsMeta, of_tables, of_numbers, of_directory}
use Rattle.volume_model.specs.Volume.{Place, block, indirect, double, inner, zone_in, IsOfNumbers, at_indirect, at_double, at_inner}
use Rattle.volume_model.specs.laws.Trees.{In-at}
use Rattle.volume_model.proofs.Nodes.{HasNode, reached_node, directory_at, zone_is}
use Rattle.volume_ops.specs.Faultless.{zone_at_place}
use Rattle.volume_ops.specs.Metadata as image
use Rattle.volume_ops.specs.Metadata.{IsMetadata, of_volume, HoldsNumbers}
use Rattle.volume_ops.specs.Volume.{metadata}
use Rattle.volume_ops.specs.ZonePlaces as walk
use Rattle.volume_ops.specs.ZonePlaces.{ZonePlace}
use Rattle.volume_ops.proofs.MetadataReads.{walk_reads_metadata}
use Rattle.volume_steps.specs.Now.{VolumeNow}
use Rattle.volume_steps.specs.Plain.{IsPlainNow}
use Rattle.volume_steps.specs.Steps.{metadata_gone}
use Rattle.volume_steps.proofs.Grows.{is_directory_part}
use Rattle.volume_steps.proofs.GoneFiles.{number_in, in_number}
use Rattle.volume_steps.proofs.GoneDirectories.{lists_of_directory}
use Rattle.minix_host.specs.Volumes.{is_metadata_of, is_metadata}

or_left : (a b : Bool) → a ≡ true → (a || b) ≡ true
or_left true b e = refl
or_left false b e = absurd (true≢false (sym e))

or_right : (a b : Bool) → b ≡ true → (a || b) ≡ true
or_right true b e = refl
or_right false b e = e

module _ (v : VolumeNow) (h : IsPlainNow v) where
  abbrev own : Placed → Place → ℕ
  own p x = zone_in v.contents.blocks p.inode x

  -- ---- the metadata of one node

  -- a zone of numbers is listed, of a file or a directory
  numbers_listed : (n : ℕ) (p : Placed) (at : at_number v.contents.nodes n ≡ Some p) (x : Place) → IsOfNumbers x → own p x ≢ 0 → (part : Part) → p.part ≡ part → In (own p x) (metadata_gone v.contents p p.part)
  numbers_listed n p at x is some (parts.File zones) e = subst (λ part. In (own p x) (metadata_gone v.contents p part)) (sym e) (number_in v h.in_use.volume n p at x is some)
  numbers_listed n p at x is some (parts.Directory d) e =
      (lists_of_directory v h.in_use.volume n p at d e (h.plain.slot_zones n p d at e)).meta x some (inl is)

  slots_listed : (n : ℕ) (p : Placed) (at : at_number v.contents.nodes n ≡ Some p) (d : DirectoryPart) (e : p.part ≡ parts.Directory d) (i : ℕ) → own p (block i) ≢ 0 → In (own p (block i)) (metadata_gone v.contents p p.part)
  slots_listed n p at d e i some = (lists_of_directory v h.in_use.volume n p at d e (h.plain.slot_zones n p d at e)).meta (block i) some (inr (ap is_directory_part e))

  -- and what is listed is metadata
  of_place : (n : ℕ) (p : Placed) (at : at_number v.contents.nodes n ≡ Some p) (d : DirectoryPart) (e : p.part ≡ parts.Directory d) (b : ℕ) (x : Place) → own p x ≢ 0 → own p x ≡ b → IsMeta v.geometry v.contents b
  of_place n p at d e b (block i) some is = of_directory n p d i at e is (λ none. some (is ∙ none))
  of_place n p at d e b indirect some is = of_numbers n p indirect at at_indirect is (λ none. some (is ∙ none))
  of_place n p at d e b double some is = of_numbers n p double at at_double is (λ none. some (is ∙ none))
  of_place n p at d e b (inner k) some is = of_numbers n p (inner k) at at_inner is (λ none. some (is ∙ none))

  listed_meta : (n : ℕ) (p : Placed) (at : at_number v.contents.nodes n ≡ Some p) (b : ℕ) → In b (metadata_gone v.contents p p.part) → (part : Part) → p.part ≡ part → IsMeta v.geometry v.contents b
  listed_meta n p at b i (parts.File zones) e =
      let w = in_number v h.in_use.volume n p at b (subst (λ part. In b (metadata_gone v.contents p part)) e i) in
      of_numbers n p w.0 at w.1 w.3 (λ none. w.2 (w.3 ∙ none))
  listed_meta n p at b i (parts.Directory d) e =
      let w = (lists_of_directory v h.in_use.volume n p at d e (h.plain.slot_zones n p d at e)).meta_has b i in
      of_place n p at d e b w.0 w.1 w.2

  -- ---- the test

  of_node : (n : ℕ) (p : Placed) → at_number v.contents.nodes n ≡ Some p → (b : ℕ) → In b (metadata_gone v.contents p p.part) → is_metadata v b ≡ true
  unfolding is_metadata
  of_node n p at b i =
      or_right (nat_lt b v.geometry.first) _
      (list_any-In (λ (e : ℕ × Placed). is_metadata_of v b e.1) v.contents.nodes (n, p) (found-In nat_cmp number_here number_same v.contents.nodes n p at)
      (list_any-In (λ zone. zone == b) (metadata_gone v.contents p p.part) b i (eq-eqb b b refl)))

  low_tested : (b : ℕ) → b < v.geometry.first → is_metadata v b ≡ true
  unfolding is_metadata
  low_tested b low = or_left (nat_lt b v.geometry.first) _ (grind arith)

  -- what is metadata passes it
  pub meta_tested : (b : ℕ) → IsMeta v.geometry v.contents b → is_metadata v b ≡ true
  meta_tested b (of_tables low) = low_tested b low
  meta_tested b (of_numbers n p x at numbers is some) =
      of_node n p at b (subst (λ z. In z (metadata_gone v.contents p p.part)) is (numbers_listed n p at x numbers (λ none. some (sym is ∙ none)) p.part refl))
  meta_tested b (of_directory n p d i at e is some) =
      of_node n p at b (subst (λ z. In z (metadata_gone v.contents p p.part)) is (slots_listed n p at d e i (λ none. some (sym is ∙ none))))

  -- what passes it is metadata
  pub tested_meta : (b : ℕ) → is_metadata v b ≡ true → IsMeta v.geometry v.contents b
  unfolding is_metadata
  tested_meta b t = ⊎_elim
      (λ low. of_tables (ltb-true b v.geometry.first low))
      (λ any.
      let e = In-list_any (λ (e : ℕ × Placed). is_metadata_of v b e.1) v.contents.nodes any in
      let z = In-list_any (λ zone. zone == b) (metadata_gone v.contents e.0.1 e.0.1.part) e.2 in
      let at = In-at v.contents.nodes e.0.0 e.0.1 h.in_use.volume.0.in_order e.1 in
      listed_meta e.0.0 e.0.1 at b (subst (λ k. In k (metadata_gone v.contents e.0.1 e.0.1.part)) (eqb-true z.0 b z.2) z.1) e.0.1.part refl)
      (or_cases (nat_lt b v.geometry.first) _ t)

  pub not_meta : (b : ℕ) → (IsMeta v.geometry v.contents b → ⊥) → is_metadata v b ≡ false
  not_meta b none = elim (cases_Bool (is_metadata v b)) [
    | inl t ↦ absurd (none (tested_meta b t))
    | inr f ↦ f
  ]

  -- ---- what the walk reads

  place_meta : {inode : ℕ} (x : HasNode v.contents.nodes inode) (b : ℕ) (y : ZonePlace) → HoldsNumbers y → b ≢ 0 → zone_at_place v.geometry v.contents.blocks inode y ≡ b → IsMeta v.geometry v.contents b
  place_meta x b (walk.block index) holds some is = absurd holds
  place_meta x b walk.indirect holds some is = of_numbers x.birth x.node indirect x.stands at_indirect (sym (zone_is v.geometry v.contents h.plain x walk.indirect) ∙ is) some
  place_meta x b walk.double holds some is = of_numbers x.birth x.node double x.stands at_double (sym (zone_is v.geometry v.contents h.plain x walk.double) ∙ is) some
  place_meta x b (walk.inner k) holds some is = of_numbers x.birth x.node (inner k) x.stands at_inner (sym (zone_is v.geometry v.contents h.plain x (walk.inner k)) ∙ is) some

  -- the metadata of the image is that of the volume
  image_meta : (b : ℕ) → IsMetadata v.geometry v.contents.blocks b → IsMeta v.geometry v.contents b
  image_meta b (of_volume low high) = of_tables (let below = h.in_use.sound.tables_below in omega arith)
  image_meta b (image.of_numbers inode x reached zones holds some is) = place_meta (reached_node v.geometry v.contents h.plain reached) b x holds some is
  image_meta b (image.of_directory inode index reached kind some is) =
      let x = reached_node v.geometry v.contents h.plain reached in
      let d = directory_at v.geometry v.contents h.plain x kind in
      of_directory x.birth x.node d.0 index x.stands d.1 (sym (zone_is v.geometry v.contents h.plain x (walk.block index)) ∙ is) some

  pub walk_meta : (b : ℕ) → In b (metadata v.geometry v.contents.blocks) → is_metadata v b ≡ true
  walk_meta b i = meta_tested b (image_meta b (walk_reads_metadata v.geometry v.contents.blocks h.in_use.sound.some_inode b i))
