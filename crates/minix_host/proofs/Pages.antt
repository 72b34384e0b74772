-- The zone of a block of a file is where the file maps it, and its bytes are those of the tree.
use Rattle.std.specs.Prelude.{◌≡◌, ◌≢◌, ℕ, Bool, true, List, Option, Some, None, is_some, if◌then◌else◌, refl}
use Rattle.std.proofs.Common.{sym, ap, subst, ◌∙◌, inl, inr}
use Rattle.std.proofs.lemmas.Bool.{cases_eq, ne_eqb, eq-eqb, false≢true}
use Rattle.std.proofs.lemmas.Option.{none-some, same_Some}
use Rattle.tree_model.specs.Histories.{block_in, block_at, maps_block}
use Rattle.tree_model.specs.Maps.{at_number}
use Rattle.volume_ops.specs.declared.found.Mapped.{Mapped}
use Rattle.volume_ops.specs.VolumeFields.{block_behind}
use Rattle.volume_ops.specs.Volume.{disk_of}
use Rattle.volume_model.specs.declared.placed.Placed.{Placed}
use Rattle.volume_model.specs.declared.placed.Part.{Part}
use Rattle.volume_model.specs.declared.placed.Part.TheVariants as parts
use Rattle.volume_model.specs.Touched.{Page, HasPage}
use Rattle.volume_model.specs.Trees.{node_from}
use Rattle.volume_model.specs.Volume.{block, zone_in, IsPart}
use Rattle.volume_model.proofs.SameTrees.{body_at}
use Rattle.volume_steps.specs.Now.{VolumeNow, tree_of_now}
use Rattle.volume_steps.specs.Plain.{IsInUse}
use Rattle.volume_steps.proofs.TreeSteps.{tree_at, tree_none}
use Rattle.minix_host.specs.Volumes.{some_zone, zone_of_part, zone_of}

abbrev pub page_at : ℕ → ℕ → ℕ → Page
page_at birth index zone = record { birth = birth; index = index; zone = zone }

some_is : (zone z : ℕ) → some_zone zone ≡ Some z → (zone ≡ z) × (z ≢ 0)
some_is zone z e = elim (cases_eq zone 0) [
  | inl none ↦ absurd (none-some z (sym (ap (λ (b : Bool). if b then None else Some zone) (eq-eqb zone 0 none)) ∙ e))
  | inr some ↦ (let same = same_Some zone z (sym (ap (λ (b : Bool). if b then None else Some zone) (ne_eqb zone 0 some)) ∙ e) in (same, λ none. some (same ∙ none)))
]

is_some_zone : (zone z : ℕ) → zone ≡ z → z ≢ 0 → some_zone zone ≡ Some z
is_some_zone zone z same some = ap (λ (b : Bool). if b then None else Some zone) (ne_eqb zone 0 (λ none. some (sym same ∙ none))) ∙ ap Some same

module _ (v : VolumeNow) where
  -- a file maps the block to its zone
  pub zone_page : (birth index zone : ℕ) → zone_of v birth index ≡ Some zone → HasPage v.contents (page_at birth index zone)
  unfolding zone_of
  zone_page birth index zone = by (at_number v.contents.nodes birth) refl
    where
      of_part : (p : Placed) → at_number v.contents.nodes birth ≡ Some p → (part : Part) → p.part ≡ part → zone_of_part v.contents.blocks p.inode part index ≡ Some zone → HasPage v.contents (page_at birth index zone)
      of_part p at (parts.Directory d) is e = absurd (none-some zone e)
      of_part p at (parts.File zones) is e = (let z = some_is (zone_in v.contents.blocks p.inode (block index)) zone e in record { placed = p; zones = zones; stands = at; is_file = is; zone = z.0; some = z.1 })

      by : (o : Option Placed) → at_number v.contents.nodes birth ≡ o → (elim o as (λ _. Option ℕ) [ None ↦ None | Some p ↦ zone_of_part v.contents.blocks p.inode p.part index ]) ≡ Some zone → HasPage v.contents (page_at birth index zone)
      by None at e = absurd (none-some zone e)
      by (Some p) at e = of_part p at p.part refl e

  pub page_zone : (x : Page) → HasPage v.contents x → zone_of v x.birth x.index ≡ Some x.zone
  unfolding zone_of
  page_zone x h =
      ap (λ o. elim o as (λ _. Option ℕ) [ None ↦ None | Some p ↦ zone_of_part v.contents.blocks p.inode p.part x.index ]) h.stands
      ∙ (ap (λ part. zone_of_part v.contents.blocks h.placed.inode part x.index) h.is_file
      ∙ is_some_zone (zone_in v.contents.blocks h.placed.inode (block x.index)) x.zone h.zone h.some)

  pub no_page : (birth index : ℕ) → ((zone : ℕ) → HasPage v.contents (page_at birth index zone) → ⊥) → zone_of v birth index ≡ None
  no_page birth index none = by (zone_of v birth index) refl
    where
      by : (o : Option ℕ) → zone_of v birth index ≡ o → o ≡ None
      by None e = refl
      by (Some zone) e = absurd (none zone (zone_page birth index zone e))

  module _ (h : IsInUse v) where
    -- ---- what the tree says

    in_file : (birth : ℕ) (p : Placed) (zones : List Mapped) → at_number v.contents.nodes birth ≡ Some p → p.part ≡ parts.File zones → (index : ℕ) → block_at (tree_of_now v) birth index ≡ block_behind v.contents.blocks p.inode index
    in_file birth p zones at is index =
        ap (λ o. block_in o index) (tree_at v.contents.blocks v.contents.nodes birth p at)
        ∙ (ap (λ part. block_in (Some (node_from v.contents.blocks p.inode part)) index) is
        ∙ body_at v.contents.blocks p.inode zones (subst (IsPart v.geometry v.contents.blocks p.inode) is (h.volume.0.each birth p at).part) index)

    behind : (p : Placed) (index zone : ℕ) → zone_in v.contents.blocks p.inode (block index) ≡ zone → zone ≢ 0 → block_behind v.contents.blocks p.inode index ≡ Some (disk_of v.contents.blocks zone)
    behind p index zone is some =
        ap (λ (b : Bool). if b then None else Some (disk_of v.contents.blocks (zone_in v.contents.blocks p.inode (block index)))) (ne_eqb (zone_in v.contents.blocks p.inode (block index)) 0 (λ none. some (sym is ∙ none)))
        ∙ ap (λ z. Some (disk_of v.contents.blocks z)) is

    -- the bytes of its zone are those of the block
    pub page_block : (x : Page) → HasPage v.contents x → block_at (tree_of_now v) x.birth x.index ≡ Some (disk_of v.contents.blocks x.zone)
    page_block x page = in_file x.birth page.placed page.zones page.stands page.is_file x.index ∙ behind page.placed x.index x.zone page.zone page.some

    pub zone_maps : (birth index zone : ℕ) → zone_of v birth index ≡ Some zone → maps_block (tree_of_now v) birth index ≡ true
    zone_maps birth index zone e = ap is_some (page_block (page_at birth index zone) (zone_page birth index zone e))

    -- a block that the tree maps has a zone
    pub maps_zone : (birth index : ℕ) → maps_block (tree_of_now v) birth index ≡ true → (zone : ℕ) × (zone_of v birth index ≡ Some zone)
    maps_zone birth index t = by (at_number v.contents.nodes birth) refl
      where
        no_block : (o : Option (List ℕ)) → o ≡ None → is_some o ≡ true → ⊥
        no_block None e s = false≢true s
        no_block (Some b) e s = none-some b (sym e)

        zone_some : (p : Placed) → is_some (block_behind v.contents.blocks p.inode index) ≡ true → zone_in v.contents.blocks p.inode (block index) ≢ 0
        zone_some p s none = no_block (block_behind v.contents.blocks p.inode index)
            (ap (λ (b : Bool). if b then None else Some (disk_of v.contents.blocks (zone_in v.contents.blocks p.inode (block index)))) (eq-eqb (zone_in v.contents.blocks p.inode (block index)) 0 none)) s

        of_part : (p : Placed) → at_number v.contents.nodes birth ≡ Some p → (part : Part) → p.part ≡ part → (zone : ℕ) × (zone_of v birth index ≡ Some zone)
        of_part p at (parts.Directory d) is =
            let none : block_at (tree_of_now v) birth index ≡ None = ap (λ o. block_in o index) (tree_at v.contents.blocks v.contents.nodes birth p at) ∙ ap (λ part. block_in (Some (node_from v.contents.blocks p.inode part)) index) is in
            absurd (no_block (block_at (tree_of_now v) birth index) none t)
        of_part p at (parts.File zones) is =
            let zone = zone_in v.contents.blocks p.inode (block index) in
            let some = zone_some p (sym (ap is_some (in_file birth p zones at is index)) ∙ t) in
            (zone, page_zone (page_at birth index zone) (record { placed = p; zones = zones; stands = at; is_file = is; zone = refl; some = some }))

        by : (o : Option Placed) → at_number v.contents.nodes birth ≡ o → (zone : ℕ) × (zone_of v birth index ≡ Some zone)
        by None e = absurd (no_block (block_at (tree_of_now v) birth index) (ap (λ o. block_in o index) (tree_none v.contents.blocks v.contents.nodes birth e)) t)
        by (Some p) e = of_part p e p.part refl
