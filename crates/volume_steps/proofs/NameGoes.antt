-- The first step of a call that takes a name from a place: the name goes, and all else stays.
use Rattle.std.specs.List.Sorted.{IsStrictlySortedBy}
use Rattle.std.specs.Map.{keys_of}
use Rattle.std.specs.Prelude.{◌≡◌, ℕ, Some, option_map, refl}
use Rattle.std.proofs.Common.{sym, ap, subst, ◌∙◌, arith}
use Rattle.tree_model.specs.declared.node.Node.TheVariants as nodes
use Rattle.tree_model.specs.declared.node.Directory.{Directory}
use Rattle.tree_model.specs.Maps.{at_number, at_name, put_number, name_cmp}
use Rattle.tree_model.specs.laws.MapOrder.{InOrder, in_order_put, at_put_cases}
use Rattle.tree_model.specs.Trees.{is_directory}
use Rattle.tree_model.specs.Calls.{Place, take_name, without_name}
use Rattle.volume_model.specs.declared.placed.Placed.{Placed}
use Rattle.volume_steps.specs.Now.{VolumeNow, Change, tree_of_now}
use Rattle.volume_steps.specs.Steps.{take_name as take_name_step}
use Rattle.volume_steps.specs.Plain.{IsPlainNow}
use Rattle.volume_steps.proofs.CallPaths.{DirectoryAt, directory_at}
use Rattle.volume_steps.proofs.NameSteps.{taken, taken_steady, taken_tree, taken_settled, taken_slotted, take_name_is, taken_numbers}
use Rattle.volume_steps.proofs.PlainNow.{tree_is_plain, settled_before, slotted_before}
use Rattle.volume_steps.proofs.StepsTo.{StepsTo, links_at, links_put}
use Rattle.volume_steps.proofs.Marked.{SameNumbers}

module _ (tx : ℕ) (v : VolumeNow) (h : IsPlainNow v) (place : Place) (birth : ℕ) (stands : at_number (tree_of_now v) place.parent ≡ Some (nodes.Directory place.directory))
    (gives : at_name place.directory.names place.name ≡ Some birth) where
  pub x : DirectoryAt v place.parent place.directory
  x = directory_at v place.parent place.directory stands

  pub named : at_name x.part.names place.name ≡ Some birth
  named = ap (λ (d : Directory). at_name d.names place.name) x.same ∙ gives

  pub sorted : IsStrictlySortedBy name_cmp (keys_of x.part.names)
  sorted = subst (λ (d : Directory). IsStrictlySortedBy name_cmp (keys_of d.names)) (sym x.same) ((tree_is_plain v h).rooted.names_in_order place.parent place.directory stands)

  abbrev pub name_goes : Change
  name_goes = taken tx v h.in_use place.parent x.placed x.stands x.part x.is place.name birth named sorted

  pub name_goes_is : take_name_step v place.parent place.name ≡ name_goes
  name_goes_is = take_name_is tx v h.in_use place.parent x.placed x.stands x.part x.is place.name birth named sorted

  pub name_goes_step : StepsTo tx v name_goes (take_name (tree_of_now v) place) (links_at v.contents.nodes)
  name_goes_step = record {
    steady = taken_steady tx v h.in_use place.parent x.placed x.stands x.part x.is place.name birth named sorted;
    tree_is = taken_tree tx v h.in_use place.parent x.placed x.stands x.part x.is place.name birth named sorted
        ∙ ap (λ directory. put_number (tree_of_now v) place.parent (nodes.Directory (without_name directory place.name))) x.same;
    settled = taken_settled tx v h.in_use place.parent x.placed x.stands x.part x.is place.name birth named sorted (settled_before v h);
    slotted = taken_slotted tx v h.in_use place.parent x.placed x.stands x.part x.is place.name birth named sorted (slotted_before v h);
    links_are = λ a. links_put v.contents.nodes place.parent _ a (links_at v.contents.nodes) (λ e. ap (links_at v.contents.nodes) e ∙ ap (option_map (λ (p : Placed). p.inode.links)) x.stands) (λ far. refl);
    waiting = omega arith;
  }

  pub name_goes_numbers : SameNumbers v.contents.nodes name_goes.volume.contents.nodes
  name_goes_numbers = taken_numbers tx v h.in_use place.parent x.placed x.stands x.part x.is place.name birth named sorted

  pub kinds_stay : (b : ℕ) → is_directory (at_number (take_name (tree_of_now v) place) b) ≡ is_directory (at_number (tree_of_now v) b)
  kinds_stay b = at_put_cases (λ o. is_directory o ≡ is_directory (at_number (tree_of_now v) b)) (tree_of_now v) place.parent (nodes.Directory (without_name place.directory place.name)) b
      (λ e. sym (ap (λ b. is_directory (at_number (tree_of_now v) b)) e ∙ ap is_directory stands)) (λ far. refl)

  pub order_stays : InOrder (take_name (tree_of_now v) place)
  order_stays = in_order_put (tree_of_now v) place.parent (nodes.Directory (without_name place.directory place.name)) (tree_is_plain v h).rooted.in_order
