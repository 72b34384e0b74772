-- Where names lead, step by step, over the nodes of a volume.
use Rattle.std.proofs.Common.{◌≡◌, ◌≢◌, ◌<◌, ◌≤◌, arith, ℕ, true, false, nat_lt, List, [], ◌∷◌, length, Some, None, Ok, Err, Result, refl, sym, ap, subst, ◌∙◌}
use Rattle.minix_layout.specs.Widths.{IsWidth, of_14, of_30}
use Rattle.tree_model.specs.declared.call.Reply.{Reply}
use Rattle.tree_model.specs.declared.call.Reply.TheVariants as replies
use Rattle.tree_model.specs.Calls.{Tree, Found, Place, and_then, birth_at, walk, found_at, refused_walk, parent_of, a_directory, refuse_if}
use Rattle.tree_model.specs.Maps.{at_number}
use Rattle.tree_model.specs.Trees.{Refusal, step_at, led_to}
use Rattle.volume_model.specs.declared.placed.Placed.{Placed}
use Rattle.volume_model.specs.declared.placed.Part.TheVariants as parts
use Rattle.volume_model.specs.declared.placed.DirectoryPart.{DirectoryPart}
use Rattle.volume_model.specs.Trees.{directory_from, node_from, node_now, tree_now}
use Rattle.volume_model.specs.Volume.{IsDirectoryPart, IsPart}
use Rattle.volume_steps.specs.Now.{VolumeNow}
use Rattle.volume_steps.specs.Plain.{IsInUse}
use Rattle.volume_steps.proofs.TreeSteps.{tree_at, tree_none}
use Rattle.tree_model.proofs.NameTexts.{first_piece}
use Rattle.volume_ops.specs.declared.found.Mapped.{Mapped}
use Rattle.tree_model.specs.code.PathTexts.{names_below, replied, next_at, led_from, above_last, last_in}

-- ---- one step

pub step_some : (blocks : List (List ℕ)) (placed : List (ℕ × Placed)) (birth : ℕ) (p : Placed) (name : List ℕ) (r : Result ℕ Reply) → at_number placed birth ≡ Some p →
    r ≡ replied (step_at (Some (node_from blocks p.inode p.part)) name) → r ≡ next_at (tree_now blocks placed) birth name
step_some blocks placed birth p name r at is = is ∙ ap (λ o. replied (step_at o name)) (sym (tree_at blocks placed birth p at))

pub step_none : (blocks : List (List ℕ)) (placed : List (ℕ × Placed)) (birth : ℕ) (name : List ℕ) → at_number placed birth ≡ None →
    Err replies.NotDir ≡ next_at (tree_now blocks placed) birth name
step_none blocks placed birth name none = ap (λ o. replied (step_at o name)) (sym (tree_none blocks placed birth none))

-- names of a volume have at most 30 bytes
pub narrow_at : (v : VolumeNow) → IsInUse v → (birth : ℕ) (p : Placed) → at_number v.contents.nodes birth ≡ Some p → (d : DirectoryPart) → p.part ≡ parts.Directory d → d.width ≤ 30
narrow_at v h birth p at d is =
    let part : IsDirectoryPart v.geometry v.contents.blocks p.inode d = subst (IsPart v.geometry v.contents.blocks p.inode) is (h.volume.0.each birth p at).part in
    subst (λ width. width ≤ 30) (sym part.width) (by v.geometry.width h.sound.width)
  where
    by : (width : ℕ) → IsWidth width → width ≤ 30
    by width of_14 = omega arith
    by width of_30 = omega arith

-- ---- one name after the other

pub birth_is : (tree : Tree) (names : List (List ℕ)) → birth_at tree names ≡ led_from tree 0 names
birth_is tree names = by (led_to tree 0 names)
  where
    by : (x : Result ℕ Refusal) → elim x as (λ _. Result ℕ Reply) [ Err refusal ↦ Err (refused_walk refusal) | Ok birth ↦ Ok birth ] ≡ replied x
    by (Err refusal) = refl
    by (Ok birth) = refl

-- ---- nodes

pub walk_some : (blocks : List (List ℕ)) (placed : List (ℕ × Placed)) (names : List (List ℕ)) (birth : ℕ) (p : Placed) → birth_at (tree_now blocks placed) names ≡ Ok birth → at_number placed birth ≡ Some p →
    walk (tree_now blocks placed) names ≡ Ok (record { birth = birth; node = node_now blocks p })
walk_some blocks placed names birth p led at =
    ap (λ x. and_then x (λ birth. found_at birth (at_number (tree_now blocks placed) birth))) led ∙ ap (found_at birth) (tree_at blocks placed birth p at)

pub walk_none : (blocks : List (List ℕ)) (placed : List (ℕ × Placed)) (names : List (List ℕ)) (birth : ℕ) → birth_at (tree_now blocks placed) names ≡ Ok birth → at_number placed birth ≡ None →
    walk (tree_now blocks placed) names ≡ Err replies.NotFound
walk_none blocks placed names birth led none =
    ap (λ x. and_then x (λ birth. found_at birth (at_number (tree_now blocks placed) birth))) led ∙ ap (found_at birth) (tree_none blocks placed birth none)

-- ---- the directory of a last name

abbrev pub then_place : List ℕ → Found → Result Place Reply
then_place last found =
    and_then (a_directory found.node) (λ d. refuse_if (nat_lt d.width (length last)) replies.NameTooLong (Ok (record { parent = found.birth; directory = d; name = last })))

parent_parts : (at_root : Reply) (tree : Tree) (names : List (List ℕ)) → names ≢ [] → parent_of at_root tree names ≡ and_then (walk tree (above_last names)) (then_place (last_in names))
parent_parts at_root tree [] some = absurd (some refl)
parent_parts at_root tree (name ∷ names) some = refl

some_names : (text : List ℕ) → 0 < length text → names_below text ≢ []
some_names [] some = absurd (omega arith)
some_names (b ∷ bytes) some = λ none. (let first = first_piece bytes in cc)

module _ (blocks : List (List ℕ)) (placed : List (ℕ × Placed)) (text : List ℕ) (some : 0 < length text) (at_root : Reply) where
  abbrev tree : Tree
  tree = tree_now blocks placed

  abbrev names : List (List ℕ)
  names = names_below text

  of_walk : (x : Result Found Reply) → walk tree (above_last names) ≡ x → parent_of at_root tree names ≡ and_then x (then_place (last_in names))
  of_walk x is = parent_parts at_root tree names (some_names text some) ∙ ap (λ r. and_then r (then_place (last_in names))) is

  module _ (parent : ℕ) (led : led_from tree 0 (above_last names) ≡ Ok parent) where
    pub parent_none : at_number placed parent ≡ None → parent_of at_root tree names ≡ Err replies.NotFound
    parent_none none = of_walk (Err replies.NotFound) (walk_none blocks placed (above_last names) parent (birth_is tree (above_last names) ∙ led) none)

    of_node : (p : Placed) → at_number placed parent ≡ Some p → parent_of at_root tree names ≡ then_place (last_in names) (record { birth = parent; node = node_now blocks p })
    of_node p at = of_walk (Ok (record { birth = parent; node = node_now blocks p })) (walk_some blocks placed (above_last names) parent p (birth_is tree (above_last names) ∙ led) at)

    pub parent_file : (p : Placed) (zones : List Mapped) → at_number placed parent ≡ Some p → p.part ≡ parts.File zones → parent_of at_root tree names ≡ Err replies.NotDir
    parent_file p zones at is = of_node p at ∙ ap (λ part. then_place (last_in names) (record { birth = parent; node = node_from blocks p.inode part })) is

    pub parent_long : (p : Placed) (d : DirectoryPart) → at_number placed parent ≡ Some p → p.part ≡ parts.Directory d → nat_lt d.width (length (last_in names)) ≡ true → parent_of at_root tree names ≡ Err replies.NameTooLong
    parent_long p d at is long =
        of_node p at ∙ ap (λ part. then_place (last_in names) (record { birth = parent; node = node_from blocks p.inode part })) is
        ∙ ap (λ test. refuse_if test replies.NameTooLong (Ok (record { parent = parent; directory = directory_from d; name = last_in names }))) long

    pub parent_place : (p : Placed) (d : DirectoryPart) (name : List ℕ) → at_number placed parent ≡ Some p → p.part ≡ parts.Directory d → nat_lt d.width (length (last_in names)) ≡ false → name ≡ last_in names →
        parent_of at_root tree names ≡ Ok (record { parent = parent; directory = directory_from d; name = name })
    parent_place p d name at is short same =
        of_node p at ∙ ap (λ part. then_place (last_in names) (record { birth = parent; node = node_from blocks p.inode part })) is
        ∙ ap (λ test. refuse_if test replies.NameTooLong (Ok (record { parent = parent; directory = directory_from d; name = last_in names }))) short
        ∙ ap (λ n. Ok (record { parent = parent; directory = directory_from d; name = n })) (sym same)
