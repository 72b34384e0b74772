-- Births of a volume's tree fit 16 bits.
use Rattle.std.specs.Prelude.{◌≡◌, ℕ, zero, suc, ◌^◌, ◌<◌, ◌≤◌, List, [], ◌∷◌, length, slice_index_or, Some, Ok, refl}
use Rattle.std.specs.List.{All}
use Rattle.std.proofs.Common.{sym, ap, subst, ◌∙◌, inl, inr, arith}
use Rattle.std.proofs.lemmas.Bool.{cases_eq, ne_eqb}
use Rattle.std.proofs.lemmas.Option.{same_Some}
use Rattle.blk_base.specs.Members.{In}
use Rattle.minix_layout.specs.declared.division.Geometry.{Geometry}
use Rattle.minix_layout.specs.Geometry.{IsSound}
use Rattle.minix_layout.specs.Widths.{of_30}
use Rattle.tree_model.specs.declared.node.Node.{Node}
use Rattle.tree_model.specs.declared.node.Node.TheVariants as nodes
use Rattle.tree_model.specs.declared.node.Directory.{Directory}
use Rattle.tree_model.specs.Maps.{at_number}
use Rattle.tree_model.specs.Rooted.{HasEntry}
use Rattle.tree_model.proofs.Lookups.{In-at_name}
use Rattle.volume_ops.specs.Places.{inode_of_birth}
use Rattle.volume_ops.specs.Volume.{tree_of}
use Rattle.volume_ops.specs.VolumeFields.{IsBelow}
use Rattle.volume_ops.specs.Faultless.{IsReached, at_root, by_name}
use Rattle.volume_ops.specs.VolumeTrees.{IsVolumeTree}
use Rattle.volume_ops.proofs.BlockPlaces.{led_reached}
use Rattle.volume_ops.proofs.TreeUnique.{walked_tree}
use Rattle.volume_model.specs.laws.Trees.{In-at}
use Rattle.widening.specs.Widened.{wide}
use Rattle.widening.specs.code.Steps.{FitNode, FitEntry}

-- ---- lists

-- the element at a place is one of the list
placed_in : {X : Type 0} (xs : List X) (k : ℕ) (d : X) → k < length xs → In (slice_index_or xs k d) xs
placed_in [] k d low = absurd (omega arith)
placed_in (x ∷ xs) zero d low = inl refl
placed_in (x ∷ xs) (suc k) d low = inr (placed_in xs k d (omega (arith, low)))

all_by : {X : Type 0} (P : X → Type 0) (xs : List X) → ((x : X) → In x xs → P x) → All P xs
all_by P xs each k d low = each (slice_index_or xs k d) (placed_in xs k d low)

pub all_first : {X : Type 0} (P : X → Type 0) (x : X) (xs ys : List X) → ys ≡ x ∷ xs → All P ys → P x × All P xs
all_first P x xs ys e h = let all = subst (λ zs. All P zs) e h in (all 0 x (omega arith), λ k d low. all (suc k) d (omega (arith, low)))

-- ---- the tree

module _ (g : Geometry) (blocks : List (List ℕ)) (tree : List (ℕ × Node)) (sound : IsSound g) (h : IsVolumeTree g blocks tree) where
  reached_within : {n : ℕ} → IsReached g blocks n → n ≤ g.inodes
  reached_within at_root = (let some = sound.some_inode in omega arith)
  reached_within (by_name {inode} {place} {slot} r named) = h.faultless.inode_within inode place slot r named

  small : (birth : ℕ) → inode_of_birth birth ≤ g.inodes → birth < 2 ^ 16
  small birth within = elim (cases_eq birth 0) [
    | inl e ↦ omega arith
    | inr apart ↦ (let low = rw (ne_eqb birth 0 apart) at within in let few = sound.fits.inodes in omega arith)
  ]

  birth_small : (birth : ℕ) (node : Node) → at_number tree birth ≡ Some node → birth < 2 ^ 16
  birth_small birth node at = small birth (reached_within (led_reached g blocks tree h (h.rooted.led_to birth node at)).0)

  parent_small : (birth : ℕ) (d : Directory) → at_number tree birth ≡ Some (nodes.Directory d) → d.parent < 2 ^ 16
  parent_small birth d at = elim (cases_eq birth 0) [
    | inl root ↦
        let same : nodes.Directory h.fields.root.0 ≡ nodes.Directory d = same_Some (nodes.Directory h.fields.root.0) (nodes.Directory d) (sym h.fields.root.1 ∙ (ap (at_number tree) (sym root) ∙ at)) in
        let low : IsBelow 0 (nodes.Directory d) = subst (IsBelow 0) same h.fields.root.2 in
        omega (arith, low)
    | inr apart ↦
        let x = h.fields.has_name birth (nodes.Directory d) at apart in
        let y = h.fields.leads x.0 x.1 birth x.2 in
        let same : y.0 ≡ nodes.Directory d = same_Some y.0 (nodes.Directory d) (sym y.1 ∙ at) in
        let below : IsBelow x.0 (nodes.Directory d) = subst (IsBelow x.0) same y.2 in
        subst (λ (n : ℕ). n < 2 ^ 16) (sym below) (birth_small x.0 (nodes.Directory x.2.directory) x.2.stands)
  ]

  name_small : (birth : ℕ) (d : Directory) → at_number tree birth ≡ Some (nodes.Directory d) → (e : List ℕ × ℕ) → In e d.names → e.1 < 2 ^ 16
  name_small birth d at e i =
      let entry : HasEntry tree birth e.0 e.1 = record { directory = d; stands = at; named = In-at_name d.names e.0 e.1 (h.rooted.names_in_order birth d at) i } in
      let led = h.rooted.leads birth e.0 e.1 entry in
      birth_small e.1 led.0 led.1

  fits_at : (birth : ℕ) (node : Node) → at_number tree birth ≡ Some node → FitNode node
  fits_at birth (nodes.Directory d) at = record { parent = parent_small birth d at; names = all_by (λ e. e.1 < 2 ^ 16) d.names (name_small birth d at) }
  fits_at birth (nodes.File f) at = tt
  fits_at birth (nodes.Other mode) at = tt

  tree_fits : All FitEntry tree
  tree_fits = all_by FitEntry tree (λ e i. let at = In-at tree e.0 e.1 h.rooted.in_order i in (birth_small e.0 e.1 at, fits_at e.0 e.1 at))

pub read_fits : (g : Geometry) (blocks : List (List ℕ)) (tree : List (ℕ × Node)) → IsSound g → tree_of g blocks ≡ Ok tree → All FitEntry tree
read_fits g blocks tree sound e = tree_fits g blocks tree sound (walked_tree g blocks tree sound.some_inode e)

-- the same volume with names of 30 bytes is sound too
pub wide_sound : (g : Geometry) → IsSound g → IsSound (wide g)
wide_sound g h = record {
  fits = record { inodes = h.fits.inodes; zones = h.fits.zones; imap = h.fits.imap; zmap = h.fits.zmap; first = h.fits.first };
  width = of_30;
  some_inode = h.some_inode;
  some_zone = h.some_zone;
  tables_below = h.tables_below;
  inode_bits = h.inode_bits;
  zone_bits = h.zone_bits;
}
