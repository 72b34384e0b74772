-- A plain image that was read is plain in use.
use Rattle.std.proofs.Common.{◌≡◌, ◌<◌, ◌≤◌, ◌+◌, ◌-◌, ◌↔◌, ℕ, List, IsTrue, refl, sym, ap, subst, ◌∙◌, arith, count_by}
use Rattle.std.proofs.lemmas.List.FromFn.{length-map-range_with_len}
use Rattle.blk_base.specs.Members.{In}
use Rattle.minix_layout.specs.declared.division.Geometry.{Geometry}
use Rattle.tree_model.specs.Calls.{Tree, used_zones}
use Rattle.tree_model.specs.Paths.{is_path_name}
use Rattle.tree_model.specs.Rooted.{HasEntry}
use Rattle.minix_tables.specs.zones.Zones.{mark, made, is_used}
use Rattle.volume_ops.specs.Faultless.{IsUsed}
use Rattle.volume_model.specs.declared.placed.Placed.{Placed}
use Rattle.volume_model.specs.ImageNodes.{contents_in}
use Rattle.volume_model.specs.Plain.{IsPlainContents, HasZone}
use Rattle.volume_model.specs.Touched.{Contents}
use Rattle.volume_model.specs.Trees.{tree_now}
use Rattle.volume_steps.specs.Now.{VolumeNow, tree_of_now}
use Rattle.volume_steps.specs.Plain.{IsInUse, IsPlainNow}
use Rattle.volume_calls.specs.opened.code.Read.{IsRead}
use Rattle.volume_calls.proofs.OpenedLemmas.AllZones.{all_zones, all_apart, all_counted, all_had, all_have}
use Rattle.volume_calls.proofs.OpenedLemmas.ZoneMarks.{all_marked, same_marks, used_listed, listed_used}

module _ (g : Geometry) (blocks : List (List ℕ)) (tree : Tree) (r : IsRead g blocks tree)
    (used : List ℕ) (used_is : (zone : ℕ) → zone < g.zones → In zone used ↔ IsUsed g blocks zone)
    (nodes : List (ℕ × Placed)) (nodes_are : nodes ≡ (contents_in g blocks tree).nodes) where
  abbrev contents : Contents
  contents = record { blocks = blocks; nodes = nodes }

  abbrev v : VolumeNow
  v = record { geometry = g; contents = contents; zones = made g used }

  contents_are : contents_in g blocks tree ≡ contents
  unfolding contents_in
  contents_are = ap (λ (nodes : List (ℕ × Placed)). record { blocks = blocks; nodes = nodes }) (sym nodes_are)

  pub contents_same : contents ≡ contents_in g blocks tree
  contents_same = sym contents_are

  contents_stand : IsPlainContents g contents
  contents_stand = subst (IsPlainContents g) contents_are r.stands

  pub tree_is : tree_of_now v ≡ tree
  tree_is = ap (tree_now blocks) nodes_are ∙ r.stands_for

  zone_within : (zone : ℕ) → HasZone contents zone → (g.first ≤ zone) × (zone < g.zones)
  zone_within zone u =
      subst (λ z. (g.first ≤ z) × (z < g.zones)) u.zone_is
      ((contents_stand.volume.0.each u.birth u.placed u.stands).zones u.place (λ none. u.some (sym u.zone_is ∙ none)))

  in_used : (zone : ℕ) → HasZone contents zone → In zone used
  in_used zone u = (used_is zone (zone_within zone u).1).1 ((r.zones zone).1 (subst (λ c. HasZone c zone) contents_same u))

  used_has : (zone : ℕ) → zone < g.zones → In zone used → HasZone contents zone
  used_has zone less i = subst (λ c. HasZone c zone) contents_are ((r.zones zone).0 ((used_is zone less).0 i))

  abbrev All : List ℕ
  All = all_zones v contents_stand.volume contents_stand.slot_zones nodes

  had : (z : ℕ) → In z All → HasZone contents z
  had = all_had v contents_stand.volume contents_stand.slot_zones

  have : (z : ℕ) → HasZone contents z → In z All
  have = all_have v contents_stand.volume contents_stand.slot_zones

  range : g.first + (g.zones - g.first) ≡ g.zones
  range = let some = r.sound.some_zone in omega arith

  counted : count_by is_used (made g used).states ≡ used_zones (tree_of_now v)
  counted =
      ap (count_by is_used) (same_marks used All g.first (g.zones - g.first) (λ k less. let low = range in let high : k < g.zones = omega arith in ((λ i. have k (used_has k high i)), (λ i. in_used k (had k i)))))
      ∙ (all_marked All g.first (g.zones - g.first) (all_apart v contents_stand.volume contents_stand.slot_zones) (λ z i. let w = zone_within z (had z i) in let same = range in let low = w.0 in let high = w.1 in (omega arith, omega arith))
      ∙ all_counted v contents_stand.volume contents_stand.slot_zones)

  in_use : IsInUse v
  in_use = record {
    sound = r.sound;
    volume = contents_stand.volume;
    first = refl;
    size = length-map-range_with_len (mark used) g.first (g.zones - g.first);
    used = λ zone. (
      (λ e. let w = used_listed g used zone e in used_has zone w.0 w.1),
      (λ u. let w = zone_within zone u in listed_used g used zone w.0 w.1 (in_used zone u)),
    );
    counted = counted;
  }

  pub opened_plain : ((parent : ℕ) (name : List ℕ) (birth : ℕ) → HasEntry tree parent name birth → IsTrue (is_path_name name)) → IsPlainNow v
  opened_plain path_names = record {
    in_use = in_use;
    plain = contents_stand;
    path_names = λ parent name birth gives. path_names parent name birth (subst (λ (t : Tree). HasEntry t parent name birth) tree_is gives);
  }
