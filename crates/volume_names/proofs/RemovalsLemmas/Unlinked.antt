-- A file loses a name, and goes with its last one.
use Rattle.std.specs.Prelude.{◌≡◌, ◌≢◌, ◌<◌, ◌≤◌, ◌-◌, ℕ, List, Some}
use Rattle.std.proofs.Common.{sym, ap, subst, ◌∙◌}
use Rattle.std.proofs.lemmas.Option.{same_Some}
use Rattle.tree_model.specs.Maps.{at_number}
use Rattle.volume_model.specs.declared.placed.Placed.{Placed}
use Rattle.volume_model.specs.Touched.{Touched}
use Rattle.volume_steps.specs.Now.{VolumeNow, Change}
use Rattle.volume_steps.specs.Calls.{lose_link}
use Rattle.volume_steps.specs.Steps.{drop_node, metadata_gone, set_links, take_name}
use Rattle.volume_steps.proofs.GoneFiles.{lists_of_file}
use Rattle.volume_names.specs.code.Steps.{After}
use Rattle.volume_names.specs.removals.May.{MayUnlink}
use Rattle.volume_names.specs.removals.code.Dropping.{MayDrop, blocks_in}
use Rattle.volume_names.specs.removals.code.Naming.{CanTake}
use Rattle.volume_names.proofs.RemovalsLemmas.Dropped.{may_drop}
use Rattle.volume_names.proofs.RemovalsLemmas.Losing.{link_lost, node_lost}
use Rattle.volume_names.proofs.RemovalsLemmas.Metadata.{metadata_kept}
use Rattle.volume_names.proofs.RemovalsLemmas.Taken.{can_take, less, less_is, less_in_use, less_stands, less_zones}

module _ (v : VolumeNow) (birth parent : ℕ) (name : List ℕ) (h : MayUnlink v birth parent name) where
  abbrev p : Placed
  p = h.placed

  pub takes : CanTake v parent name
  takes = can_take v h.plain parent name birth h.place

  apart : birth ≢ parent
  apart e =
      let one : p ≡ h.place.placed = same_Some p h.place.placed (sym h.stands ∙ (ap (at_number v.contents.nodes) e ∙ h.place.stands)) in
      cc (sym h.is ∙ (ap (λ (p : Placed). p.part) one ∙ h.place.is))

  abbrev u : VolumeNow
  u = (less v parent name takes).volume

  stands : at_number u.contents.nodes birth ≡ Some p
  stands = less_stands v parent name takes birth p apart h.stands

  -- ---- what is asked, after the name was taken

  module _ (w : VolumeNow) (taken : w ≡ (take_name v parent name).volume) where
    same : w ≡ u
    same = taken ∙ ap (λ (c : Change). c.volume) (less_is v parent name takes)

    there : at_number w.contents.nodes birth ≡ Some p
    there = ap (λ (w : VolumeNow). at_number w.contents.nodes birth) same ∙ stands

    pub some_number : (q : Placed) → at_number w.contents.nodes birth ≡ Some q → 0 < q.number
    some_number q at = subst (λ (p : Placed). 0 < p.number) (same_Some p q (sym there ∙ at)) (h.plain.in_use.volume.0.each birth p h.stands).some

    -- the blocks that were counted
    pub same_blocks : (q : Placed) → at_number w.contents.nodes birth ≡ Some q → blocks_in q.part ≡ blocks_in p.part
    same_blocks q at = ap (λ (p : Placed). blocks_in p.part) (same_Some q p (sym at ∙ there))

    pub may_go : (tx : ℕ) (metadata : List ℕ) → ((q : Placed) → at_number v.contents.nodes birth ≡ Some q → metadata ≡ metadata_gone v.contents q q.part) → MayDrop w tx birth metadata
    may_go tx metadata listed = subst (λ w. MayDrop w tx birth metadata) (sym same)
        (may_drop tx u (less_in_use v parent name takes) birth p stands metadata
        (listed p h.stands ∙ sym (metadata_kept v.contents u.contents p (less_zones v parent name takes birth p apart h.stands))) _ _ _
        (lists_of_file u (less_in_use v parent name takes).volume birth p stands h.blocks h.is))

    -- ---- what its link is

    -- it keeps another name
    pub keeps_one : (tx : ℕ) (links : ℕ) → ((q : Placed) → at_number v.contents.nodes birth ≡ Some q → links ≡ q.inode.links) → 1 < links → (before touched : Touched) (last : VolumeNow) →
        After before (set_links w birth (λ links. links - 1)) last touched → After before (lose_link w tx birth) last touched
    keeps_one tx links told = link_lost w birth p there tx links (told p h.stands)

    -- or goes
    pub keeps_none : (tx : ℕ) (links : ℕ) → ((q : Placed) → at_number v.contents.nodes birth ≡ Some q → links ≡ q.inode.links) → links ≤ 1 → (before touched : Touched) (last : VolumeNow) →
        After before (drop_node w tx birth) last touched → After before (lose_link w tx birth) last touched
    keeps_none tx links told = node_lost w birth p there tx links (told p h.stands)
