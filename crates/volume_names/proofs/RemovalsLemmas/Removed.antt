-- A directory without names goes.
use Rattle.std.specs.Prelude.{◌≡◌, ◌≢◌, ◌<◌, ◌≤◌, ◌-◌, ℕ, List, [], length, Some}
use Rattle.std.proofs.Common.{sym, ap, subst, ◌∙◌}
use Rattle.std.proofs.lemmas.Option.{same_Some, none-some}
use Rattle.tree_model.specs.Maps.{at_number, at_name}
use Rattle.tree_model.specs.laws.MapsLaws.{at_put_number}
use Rattle.volume_model.specs.declared.placed.Placed.{Placed}
use Rattle.volume_model.specs.declared.placed.Part.TheVariants as parts
use Rattle.volume_model.specs.declared.placed.DirectoryPart.{DirectoryPart}
use Rattle.volume_model.specs.Plain.{HasSlotZones}
use Rattle.volume_steps.specs.Now.{VolumeNow, Change}
use Rattle.volume_steps.specs.Plain.{IsInUse}
use Rattle.volume_steps.specs.Steps.{metadata_gone, set_links, take_name}
use Rattle.volume_steps.proofs.GoneDirectories.{lists_of_directory}
use Rattle.volume_steps.proofs.PlainNow.{settled_before, slotted_before}
use Rattle.volume_names.specs.removals.May.{MayRmdir}
use Rattle.volume_names.specs.removals.code.Dropping.{MayDrop, blocks_in}
use Rattle.volume_names.specs.removals.code.Naming.{CanTake}
use Rattle.volume_names.proofs.RemovalsLemmas.Dropped.{may_drop}
use Rattle.volume_names.proofs.RemovalsLemmas.Metadata.{metadata_kept}
use Rattle.volume_names.proofs.RemovalsLemmas.Taken.{can_take, less, less_is, less_in_use, less_settled, less_slotted, less_stands, less_zones, fewer_links, fewer_is, fewer_in_use, fewer_slotted, fewer_stands, fewer_zones}

module _ (v : VolumeNow) (birth parent : ℕ) (name : List ℕ) (h : MayRmdir v birth parent name) where
  abbrev p : Placed
  p = h.placed

  pub takes : CanTake v parent name
  takes = can_take v h.plain parent name birth h.place

  same_part : (d e : DirectoryPart) → parts.Directory d ≡ parts.Directory e → d ≡ e
  same_part d e same = cc same

  -- its parent has a name
  apart : birth ≢ parent
  apart e =
      let one : p ≡ h.place.placed = same_Some p h.place.placed (sym h.stands ∙ (ap (at_number v.contents.nodes) e ∙ h.place.stands)) in
      let two : h.part ≡ h.place.part = same_part h.part h.place.part (sym h.is ∙ (ap (λ (p : Placed). p.part) one ∙ h.place.is)) in
      none-some birth (sym (ap (λ names. at_name names name) h.empty) ∙ (ap (λ (d : DirectoryPart). at_name d.names name) two ∙ h.place.named))

  -- ---- after its name was taken

  abbrev u : VolumeNow
  u = (less v parent name takes).volume

  -- the parent stands there
  record ParentAt : Type 0 where
    placed : Placed
    stands : at_number u.contents.nodes parent ≡ Some placed
    few : placed.inode.links ≤ 250

  parent_at : ParentAt
  parent_at = record {
    placed = _;
    stands = at_put_number v.contents.nodes parent _;
    few = (less_settled v parent name takes (settled_before v h.plain)).few_links parent _ (at_put_number v.contents.nodes parent _);
  }

  module _ (w : VolumeNow) (taken : w ≡ (take_name v parent name).volume) where
    same : w ≡ u
    same = taken ∙ ap (λ (c : Change). c.volume) (less_is v parent name takes)

    pub parent_number : (q : Placed) → at_number w.contents.nodes parent ≡ Some q → 0 < q.number
    parent_number q at = ((less_in_use v parent name takes).volume.0.each parent q (sym (ap (λ (w : VolumeNow). at_number w.contents.nodes parent) same) ∙ at)).some

    -- ---- after its parent lost a link

    abbrev last : VolumeNow
    last = (fewer_links u (less_in_use v parent name takes) parent parent_at.placed parent_at.stands parent_at.few).volume

    stands : at_number last.contents.nodes birth ≡ Some p
    stands = fewer_stands u (less_in_use v parent name takes) parent parent_at.placed parent_at.stands parent_at.few birth p apart (less_stands v parent name takes birth p apart h.stands)

    in_use : IsInUse last
    in_use = fewer_in_use u (less_in_use v parent name takes) parent parent_at.placed parent_at.stands parent_at.few

    slot_zones : HasSlotZones v.geometry last.contents.blocks p.inode (length h.part.slots)
    slot_zones = fewer_slotted u (less_in_use v parent name takes) parent parent_at.placed parent_at.stands parent_at.few (less_slotted v parent name takes (slotted_before v h.plain)) birth p h.part stands h.is (λ z. z)

    module _ (z : VolumeNow) (unlinked : z ≡ (set_links w parent (λ links. links - 1)).volume) where
      end_is : z ≡ last
      end_is =
          unlinked ∙ (ap (λ w. (set_links w parent (λ links. links - 1)).volume) same
          ∙ ap (λ (c : Change). c.volume) (fewer_is u (less_in_use v parent name takes) parent parent_at.placed parent_at.stands parent_at.few))

      there : at_number z.contents.nodes birth ≡ Some p
      there = ap (λ (z : VolumeNow). at_number z.contents.nodes birth) end_is ∙ stands

      -- it has no blocks of a file
      pub no_blocks : (q : Placed) → at_number z.contents.nodes birth ≡ Some q → blocks_in q.part ≡ []
      no_blocks q at = ap (λ (p : Placed). blocks_in p.part) (same_Some q p (sym at ∙ there)) ∙ ap blocks_in h.is

      pub may_go : (tx : ℕ) (metadata : List ℕ) → ((q : Placed) → at_number v.contents.nodes birth ≡ Some q → metadata ≡ metadata_gone v.contents q q.part) → MayDrop z tx birth metadata
      may_go tx metadata listed = subst (λ z. MayDrop z tx birth metadata) (sym end_is)
          (may_drop tx last in_use birth p stands metadata
          (listed p h.stands ∙ sym (
          metadata_kept u.contents last.contents p (fewer_zones u (less_in_use v parent name takes) parent parent_at.placed parent_at.stands parent_at.few birth p (less_stands v parent name takes birth p apart h.stands))
          ∙ metadata_kept v.contents u.contents p (less_zones v parent name takes birth p apart h.stands))) _ _ _
          (lists_of_directory last in_use.volume birth p stands h.part h.is slot_zones))
