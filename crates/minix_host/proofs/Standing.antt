-- What a volume that stands for a tree is to the host.
use Rattle.std.specs.Prelude.{◌≡◌, ◌≢◌, ◌<◌, ◌⊎◌, ℕ, true, false, [], ◌∷◌, Some, None, unwrap_or}
use Rattle.std.specs.List.{range_with_len}
use Rattle.std.proofs.Common.{sym, ap, subst, ◌∙◌, inl, inr, ⊎_elim, arith}
use Rattle.std.proofs.lemmas.Option.{same_Some}
use Rattle.blk_base.specs.Members.{In}
use Rattle.blk_base.specs.laws.Members.{slice_get-length}
use Rattle.minix_layout.specs.declared.division.Geometry.{Geometry}
use Rattle.tree_model.specs.Histories.{block_at, maps_block}
use Rattle.tree_model.specs.Maps.{at_number}
use Rattle.volume_ops.specs.Reads.{answer, blocks_read}
use Rattle.volume_ops.specs.Volume.{disk_of, walked}
use Rattle.volume_ops.specs.Walk.{walk_volume}
use Rattle.minix_tables.specs.zones.laws.States.{state_below}
use Rattle.volume_model.specs.declared.placed.Placed.{Placed}
use Rattle.volume_model.specs.declared.placed.Part.TheVariants as parts
use Rattle.volume_model.specs.declared.placed.DirectoryPart.{DirectoryPart}
use Rattle.volume_model.specs.Plain.{HasZone}
use Rattle.volume_model.specs.Touched.{IsMeta, of_tables, of_numbers, of_directory, Page, HasPage}
use Rattle.volume_model.specs.Volume.{block}
use Rattle.volume_model.proofs.Nodes.{placing}
use Rattle.volume_steps.specs.Now.{VolumeNow}
use Rattle.volume_steps.specs.Plain.{IsPlainNow}
use Rattle.volume_steps.proofs.Grows.{is_directory_part, meta_no_page}
use Rattle.volume_steps.proofs.CutStep.{in_range}
use Rattle.host_machine.specs.Views.{waits_for}
use Rattle.host_machine.specs.laws.Contract.{StandsFor}
use Rattle.minix_host.specs.Paths.{place_in}
use Rattle.minix_host.specs.PlainTrees.{PlainTree}
use Rattle.minix_host.specs.Sessions.{Opening, over, HasRoot, Stands}
use Rattle.minix_host.specs.Volumes.{is_metadata, zone_of, zones_of}
use Rattle.minix_host.proofs.Metadata.{meta_tested, tested_meta, not_meta, walk_meta}
use Rattle.minix_host.proofs.Pages.{page_at, zone_page, page_block, zone_maps, maps_zone}
use Rattle.minix_host.proofs.Roots.{RootIs, first_zone}
use Rattle.minix_host.proofs.WalkedZones.{page_place}
use Rattle.minix_host.proofs.Waiting.{waits_is, holder_of}

module _ (v : VolumeNow) (h : IsPlainNow v) where
  -- ---- zones and blocks below the zones

  pub meta_has : (b : ℕ) → IsMeta v.geometry v.contents b → (b < v.geometry.first) ⊎ HasZone v.contents b
  meta_has b (of_tables low) = inl low
  meta_has b (of_numbers n p x at numbers is some) = inr (record { birth = n; placed = p; place = x; stands = at; zone_is = is; some = some })
  meta_has b (of_directory n p d i at e is some) = inr (record { birth = n; placed = p; place = block i; stands = at; zone_is = is; some = some })

  pub page_has : (x : Page) → HasPage v.contents x → HasZone v.contents x.zone
  page_has x page = record { birth = x.birth; placed = page.placed; place = block x.index; stands = page.stands; zone_is = page.zone; some = page.some }

  has_high : (zone : ℕ) → HasZone v.contents zone → zone < v.geometry.zones
  has_high zone z = subst (λ k. k < v.geometry.zones) z.zone_is ((h.in_use.volume.0.each z.birth z.placed z.stands).zones z.place (λ none. z.some (sym z.zone_is ∙ none))).1

  has_waits_none : (zone : ℕ) → HasZone v.contents zone → waits_for (zones_of v).waiting zone ≡ None
  has_waits_none zone z = waits_is v zone ∙ ap holder_of ((h.in_use.used zone).1 z)

  low_waits_none : (b : ℕ) → b < v.geometry.first → waits_for (zones_of v).waiting b ≡ None
  low_waits_none b low = waits_is v b ∙ ap holder_of (state_below v.zones b (let first = h.in_use.first in omega arith))

  pub page_no_meta : (x : Page) → HasPage v.contents x → is_metadata v x.zone ≡ false
  page_no_meta x page = not_meta v h x.zone (λ m. meta_no_page v.geometry v.contents x h.in_use.volume.0 m page)

  -- ---- the root

  abbrev pub root_part : (placed : Placed) → at_number v.contents.nodes 0 ≡ Some placed → (d : DirectoryPart) × (placed.part ≡ parts.Directory d)
  root_part placed at =
      let x = placing v.contents.blocks v.contents.nodes 0 h.plain.rooted.root.0 h.plain.rooted.root.1 in
      (x.part, ap (λ (p : Placed). p.part) (same_Some placed x.node (sym at ∙ x.stands)) ∙ x.part_is)

  -- its first block has a zone
  pub root_some : (zone : ℕ) (r : HasRoot v zone) → zone ≢ 0
  root_some zone r none =
      let d = root_part r.placed r.stands in
      let dots = h.plain.dots 0 r.placed d.0 r.stands d.1 in
      let some = slice_get-length d.0.slots 0 _ dots.2.here in
      (h.plain.slot_zones 0 r.placed d.0 r.stands d.1).no_hole 0 (omega arith) (sym (first_zone v.contents.blocks r.placed.inode) ∙ (r.zone_is ∙ none))

  pub root_is : (zone : ℕ) (r : HasRoot v zone) → RootIs zone (root_some zone r) v.contents.nodes
  root_is zone r = record { placed = r.placed; stands = r.stands; directory = ap is_directory_part (root_part r.placed r.stands).1; zone_is = r.zone_is }

  pub root_meta : (zone : ℕ) → HasRoot v zone → is_metadata v zone ≡ true
  root_meta zone r =
      let d = root_part r.placed r.stands in
      meta_tested v h zone (of_directory 0 r.placed d.0 0 r.stands d.1 (sym (first_zone v.contents.blocks r.placed.inode) ∙ r.zone_is) (root_some zone r))

  pub low_meta : (b : ℕ) → b < v.geometry.first → is_metadata v b ≡ true
  low_meta b low = meta_tested v h b (of_tables low)

-- ---- what the host is promised of it

module _ (s : Opening) (v : VolumeNow) (t : PlainTree) (h : Stands s v t) where
  pub zones_high : (zone : ℕ) → HasZone v.contents zone → zone < s.geometry.zones
  zones_high zone z = (let high = has_high v h.plain zone z in let same = ap (λ (g : Geometry). g.zones) h.geometry in omega arith)

  pub meta_low : (b : ℕ) → is_metadata v b ≡ true → b < s.geometry.zones
  meta_low b m = ⊎_elim
      (λ low. let same = ap (λ (g : Geometry). g.zones) h.geometry in let some = h.plain.in_use.sound.some_zone in omega arith)
      (λ z. zones_high b z)
      (meta_has v h.plain b (tested_meta v h.plain b m))

  pub reserved_meta : (b : ℕ) → In b (s.root ∷ range_with_len 0 s.geometry.first) → is_metadata v b ≡ true
  reserved_meta b (inl same) = ap (is_metadata v) (sym same) ∙ root_meta v h.plain s.root h.root
  reserved_meta b (inr i) = low_meta v h.plain b (let high = (in_range 0 s.geometry.first b i).1 in let same = ap (λ (g : Geometry). g.first) h.geometry in omega arith)

  found_place : (f i zone : ℕ) → zone_of v f i ≡ Some zone → place_in (answer (disk_of v.contents.blocks) (walk_volume s.geometry)) t.tree f i ≡ zone
  unfolding walked
  found_place f i zone e =
      ap (λ g. place_in (answer (disk_of v.contents.blocks) (walk_volume g)) t.tree f i) (sym h.geometry)
      ∙ (ap (λ tree. place_in (answer (disk_of v.contents.blocks) (walk_volume v.geometry)) tree f i) (sym h.tree)
      ∙ page_place v.geometry v.contents h.plain.plain (page_at f i zone) (zone_page v f i zone e))

  pub stands_for : StandsFor (over s) v t
  stands_for = record {
    mapped = λ f i zone e. ap (λ tree. maps_block tree f i) (sym h.tree) ∙ zone_maps v h.plain.in_use f i zone e;
    content = λ f i zone e.
        sym (ap (λ tree. unwrap_or (block_at tree f i) []) (sym h.tree) ∙ ap (λ o. unwrap_or o []) (page_block v h.plain.in_use (page_at f i zone) (zone_page v f i zone e)));
    there = λ f i t. maps_zone v h.plain.in_use f i (ap (λ tree. maps_block tree f i) h.tree ∙ t);
    metadata_free = λ b m. ⊎_elim (low_waits_none v h.plain b) (has_waits_none v h.plain b) (meta_has v h.plain b (tested_meta v h.plain b m));
    page_free = λ f i b e. (let page = zone_page v f i b e in (page_no_meta v h.plain (page_at f i b) page, has_waits_none v h.plain b (page_has v h.plain (page_at f i b) page)));
    one_page = λ f i g j b e d.
        let one = zone_page v f i b e in
        let other = zone_page v g j b d in
        let same = h.plain.in_use.volume.0.zones f g one.placed other.placed (block i) (block j) one.stands other.stands (one.zone ∙ sym other.zone) (λ none. one.some (sym one.zone ∙ none)) in
        (same.0, one_index i j same.1);
    metadata_low = meta_low;
    page_low = λ f i b e. zones_high b (page_has v h.plain (page_at f i b) (zone_page v f i b e));
    reserved = reserved_meta;
    walk = λ b i. walk_meta v h.plain b (subst (λ g. In b (blocks_read (disk_of v.contents.blocks) (walk_volume g))) (sym h.geometry) i);
    places = found_place;
  }
    where
      one_index : (i j : ℕ) → block i ≡ block j → i ≡ j
      one_index i j e = cc
