-- The zones of all nodes: each once, and as many as the tree counts.
use Rattle.std.proofs.Common.{◌≡◌, ◌≢◌, ◌<◌, ℕ, ◌+◌, List, [], ◌∷◌, ◌++◌, map, length, Some, Less, refl, sym, ap, subst, ◌∙◌, arith, inl, inr, ⊎_elim}
use Rattle.std.specs.List.{AllByRecursion}
use Rattle.std.specs.List.Sorted.{IsStrictlySortedBy}
use Rattle.std.specs.Map.{keys_of}
use Rattle.std.specs.Cmp.{ranks}
use Rattle.std.specs.Ordering.{nat_cmp, MatchOrdering}
use Rattle.std.proofs.lemmas.List.Sums.{sum_by-cons}
use Rattle.std.proofs.lemmas.Map.Keys.{sorted_head, sorted_tail}
use Rattle.blk_base.specs.Members.{In}
use Rattle.blk_base.specs.laws.Members.{In-append_left, In-append_right, In-append_cases}
use Rattle.tree_model.specs.Calls.{node_zones, used_zones}
use Rattle.tree_model.specs.Maps.{at_number}
use Rattle.tree_model.specs.laws.MapsLaws.{found-In, number_here, number_same}
use Rattle.volume_model.specs.declared.placed.Placed.{Placed}
use Rattle.volume_model.specs.declared.placed.Part.{Part}
use Rattle.volume_model.specs.declared.placed.Part.TheVariants as parts
use Rattle.volume_model.specs.declared.placed.DirectoryPart.{DirectoryPart}
use Rattle.volume_model.specs.Moves.{IsVolume}
use Rattle.volume_model.specs.Plain.{HasSlotZones, HasZone}
use Rattle.volume_model.specs.Trees.{node_now, tree_now}
use Rattle.volume_model.specs.laws.Trees.{In-at}
use Rattle.volume_model.specs.Volume.{Place, zone_in}
use Rattle.volume_steps.specs.Now.{VolumeNow}
use Rattle.volume_steps.specs.Steps.{all_numbers, block_zones}
use Rattle.volume_steps.proofs.CutStep.{length_both}
use Rattle.volume_steps.proofs.GoneDirectories.{lists_of_directory, count_of_directory}
use Rattle.volume_steps.proofs.GoneFiles.{lists_of_file, count_of_file}
use Rattle.volume_steps.proofs.Taking.{AreApart, apart_both}

-- ---- entries of a map in order

less_than : (a b : ℕ) → nat_cmp a b ≡ Less → a < b
less_than a b e = subst (λ o. MatchOrdering o (a < b) (a ≡ b) (b < a)) e (ranks a b)

keys_above : {X : Type 0} (low : ℕ) (es : List (ℕ × X)) → AllByRecursion (λ y. nat_cmp low y ≡ Less) (keys_of es) → (e : ℕ × X) → In e es → low < e.0
keys_above low [] h e i = absurd i
keys_above low (f ∷ fs) h e (inl same) = subst (λ (e : ℕ × _). low < e.0) same (less_than low f.0 h.0)
keys_above low (f ∷ fs) h e (inr i) = keys_above low fs h.1 e i

module _ (v : VolumeNow) (h : IsVolume v.geometry v.contents)
    (slotted : (birth : ℕ) (p : Placed) (d : DirectoryPart) → at_number v.contents.nodes birth ≡ Some p → p.part ≡ parts.Directory d → HasSlotZones v.geometry v.contents.blocks p.inode (length d.slots)) where
  abbrev own : Placed → Place → ℕ
  own p x = zone_in v.contents.blocks p.inode x

  abbrev zones_of : Placed → List ℕ
  zones_of p = block_zones v.contents p p.part ++ all_numbers v.contents p

  -- ---- one node

  record IsZonesOf (p : Placed) : Type 0 where
    all : (x : Place) → own p x ≢ 0 → In (own p x) (zones_of p)
    has : (z : ℕ) → In z (zones_of p) → (x : Place) × (own p x ≢ 0) × (own p x ≡ z)
    once : AreApart (zones_of p)
    count : length (zones_of p) ≡ node_zones (node_now v.contents.blocks p)

  node_zones_of : (n : ℕ) (p : Placed) → at_number v.contents.nodes n ≡ Some p → IsZonesOf p
  node_zones_of n p at = by p.part refl
    where
      by : (part : Part) → p.part ≡ part → IsZonesOf p
      by (parts.File zones) is = (let g = lists_of_file v h n p at zones is in record { all = g.all; has = g.has; once = g.once; count = count_of_file v h n p at zones is })
      by (parts.Directory d) is =
          let s = slotted n p d at is in
          let g = lists_of_directory v h n p at d is s in
          record { all = g.all; has = g.has; once = g.once; count = count_of_directory v h n p at d is s }

  -- ---- all of them

  abbrev pub all_zones : List (ℕ × Placed) → List ℕ
  all_zones [] = []
  all_zones (e ∷ es) = zones_of e.1 ++ all_zones es

  abbrev Stand : List (ℕ × Placed) → Type 0
  Stand es = (e : ℕ × Placed) → In e es → at_number v.contents.nodes e.0 ≡ Some e.1

  zone_listed : (es : List (ℕ × Placed)) → Stand es → (e : ℕ × Placed) → In e es → (x : Place) → own e.1 x ≢ 0 → In (own e.1 x) (all_zones es)
  zone_listed [] stand e i x some = absurd i
  zone_listed (f ∷ fs) stand e (inl same) x some =
      In-append_left (zones_of f.1) (all_zones fs) (own e.1 x)
      (subst (λ (p : Placed). In (own e.1 x) (zones_of p)) (ap (λ (e : ℕ × Placed). e.1) (sym same)) ((node_zones_of e.0 e.1 (stand e (inl same))).all x some))
  zone_listed (f ∷ fs) stand e (inr i) x some = In-append_right (zones_of f.1) (all_zones fs) (own e.1 x) (zone_listed fs (λ e i. stand e (inr i)) e i x some)

  listed_zone : (es : List (ℕ × Placed)) → Stand es → (z : ℕ) → In z (all_zones es) → (e : ℕ × Placed) × In e es × (x : Place) × (own e.1 x ≢ 0) × (own e.1 x ≡ z)
  listed_zone [] stand z i = absurd i
  listed_zone (f ∷ fs) stand z i =
      ⊎_elim
      (λ j. let w = (node_zones_of f.0 f.1 (stand f (inl refl))).has z j in (f, inl refl, w.0, w.1, w.2))
      (λ j. let w = listed_zone fs (λ e i. stand e (inr i)) z j in (w.0, inr w.1, w.2, w.3, w.4))
      (In-append_cases (zones_of f.1) (all_zones fs) z i)

  zones_apart : (es : List (ℕ × Placed)) → IsStrictlySortedBy nat_cmp (keys_of es) → Stand es → AreApart (all_zones es)
  zones_apart [] sorted stand = tt
  zones_apart (f ∷ fs) sorted stand =
      let here = node_zones_of f.0 f.1 (stand f (inl refl)) in
      apart_both (zones_of f.1) (all_zones fs) here.once (zones_apart fs (sorted_tail nat_cmp f.0 (keys_of fs) sorted) (λ e i. stand e (inr i))) (λ z i j.
      let x = here.has z i in
      let y = listed_zone fs (λ e i. stand e (inr i)) z j in
      let same = (h.0.zones f.0 y.0.0 f.1 y.0.1 x.0 y.2 (stand f (inl refl)) (stand y.0 (inr y.1)) (x.2 ∙ sym y.4) x.1).0 in
      let above = keys_above f.0 fs (sorted_head nat_cmp f.0 (keys_of fs) sorted) y.0 y.1 in
      omega arith)

  zones_counted : (es : List (ℕ × Placed)) → Stand es → length (all_zones es) ≡ used_zones (tree_now v.contents.blocks es)
  unfolding used_zones tree_now
  zones_counted [] stand = refl
  zones_counted (f ∷ fs) stand =
      let here = (node_zones_of f.0 f.1 (stand f (inl refl))).count in
      let rest = zones_counted fs (λ e i. stand e (inr i)) in
      let both = length_both (zones_of f.1) (all_zones fs) in
      let first = sum_by-cons node_zones (node_now v.contents.blocks f.1) (map (λ e. e.1) (map (λ e. (e.0, node_now v.contents.blocks e.1)) fs)) in
      both ∙ (ap (λ n. n + length (all_zones fs)) here ∙ (ap (λ n. node_zones (node_now v.contents.blocks f.1) + n) rest ∙ sym first))

  stand : Stand v.contents.nodes
  stand e i = In-at v.contents.nodes e.0 e.1 h.0.in_order i

  abbrev pub All : List ℕ
  All = all_zones v.contents.nodes

  pub all_apart : AreApart All
  all_apart = zones_apart v.contents.nodes h.0.in_order stand

  pub all_counted : length All ≡ used_zones (tree_now v.contents.blocks v.contents.nodes)
  all_counted = zones_counted v.contents.nodes stand

  pub all_had : (z : ℕ) → In z All → HasZone v.contents z
  all_had z i =
      let w = listed_zone v.contents.nodes stand z i in
      record { birth = w.0.0; placed = w.0.1; place = w.2; stands = stand w.0 w.1; zone_is = w.4; some = λ none. w.3 (w.4 ∙ none) }

  pub all_have : (z : ℕ) → HasZone v.contents z → In z All
  all_have z u =
      let i = found-In nat_cmp number_here number_same v.contents.nodes u.birth u.placed u.stands in
      subst (λ z. In z All) u.zone_is (zone_listed v.contents.nodes stand (u.birth, u.placed) i u.place (λ none. u.some (sym u.zone_is ∙ none)))
