-- The call that gives a node another name.
use Rattle.std.specs.Prelude.{◌≡◌, ◌≢◌, ◌≤◌, ◌-◌, ◌+◌, ℕ, ◌==◌, nat_le, cond, Bool, true, false, not, ◌&&◌, if◌then◌else◌, List, ◌++◌, is_none, length, Option, Some, None, option_map, unwrap_or, Ok, Err, refl}
use Rattle.std.proofs.Common.{sym, ap, subst, ◌∙◌, inl, inr, arith, eq-eqb}
use Rattle.std.proofs.lemmas.Bool.{cases_Bool, cases_eq, leb-true, ne_eqb, true≢false}
use Rattle.std.proofs.lemmas.Option.{none-some, same_Some}
use Rattle.std.specs.List.Sorted.{IsStrictlySortedBy}
use Rattle.std.specs.Map.{keys_of}
use Rattle.blk_base.specs.Members.{In}
use Rattle.minix_layout.specs.Slots.{IsEntry}
use Rattle.tree_model.specs.declared.call.Call.TheVariants as calls
use Rattle.tree_model.specs.declared.call.Reply.TheVariants as replies
use Rattle.tree_model.specs.declared.node.Node.{Node}
use Rattle.tree_model.specs.declared.node.Node.TheVariants as nodes
use Rattle.tree_model.specs.declared.node.File.{File}
use Rattle.tree_model.specs.declared.node.Directory.{Directory}
use Rattle.tree_model.specs.Maps.{at_number, at_name, put_number, without_number, name_cmp}
use Rattle.tree_model.specs.Paths.{path_of}
use Rattle.tree_model.specs.laws.MapOrder.{InOrder, in_order_put, at_put_cases, at_without_cases, at_without_apart}
use Rattle.tree_model.specs.laws.MapsLaws.{at_put_number, at_put_number_apart}
use Rattle.tree_model.specs.Plain.{IsPlain, AreBornBefore}
use Rattle.tree_model.specs.Trees.{is_directory, directory_links}
use Rattle.tree_model.specs.laws.Listing.{names_of}
use Rattle.tree_model.specs.Calls.{Tree, Done, Place, Found, Move, outcome, directory_zones, used_zones, slots_with, with_name, without_name, is_full, is_file, tree_moved, stays, moves_directory, changes_parent, place_after, target_at, lose_link, put_file, with_links, walk, and_then}
use Rattle.tree_model.proofs.Rows.{some_ok}
use Rattle.tree_model.proofs.Hanging.{IsGoodName}
use Rattle.tree_model.proofs.PlainCalls.{good_name}
use Rattle.tree_model.proofs.Plain.{edge_of, edge_counts, one_for, one_for_here, one_for_other}
use Rattle.tree_model.proofs.Edits.{take_counts, give_counts}
use Rattle.tree_model.proofs.Blocks.{target_stands}
use Rattle.volume_model.specs.declared.placed.Placed.{Placed}
use Rattle.volume_model.specs.declared.placed.Part.TheVariants as parts
use Rattle.volume_model.specs.declared.placed.DirectoryPart.{DirectoryPart}
use Rattle.volume_model.specs.Trees.{directory_from, node_from}
use Rattle.volume_steps.specs.Now.{VolumeNow, Change, tree_of_now, room_of, followed_by, unchanged}
use Rattle.volume_steps.specs.Steps.{add_name, set_parent, lead_name, set_links, drop_node, node_dropped, all_numbers, block_zones, metadata_gone, pages_gone}
use Rattle.volume_steps.specs.Calls.{lose_link as lose_link_step, at_place, move_in, move_below, replace_in, renamed, rename, at_found}
use Rattle.volume_steps.specs.Plain.{IsPlainNow, IsInUse}
use Rattle.volume_steps.proofs.Taking.{frees}
use Rattle.volume_steps.proofs.Called.{unchanged_steady}
use Rattle.volume_steps.proofs.NameGoes.{name_goes, name_goes_is, name_goes_step, name_goes_numbers, kinds_stay}
use Rattle.volume_steps.proofs.QuietSteps.{at_node_is, linked, linked_steady, linked_directory, linked_file, linked_settled, linked_slotted, linked_numbers, set_links_is}
use Rattle.volume_steps.proofs.StepsTo.{StepsTo, joined, steps_then, links_at}
use Rattle.volume_steps.proofs.CallPaths.{at_width, DirectoryAt, directory_at, done_row, at_place_is, good_no_dot, good_entry}
use Rattle.volume_steps.proofs.DirectoryLinks.{AreLinked, linked_before, weigh}
use Rattle.volume_steps.proofs.PlainNow.{tree_is_plain}
use Rattle.volume_steps.proofs.CallEnds.{IsDone, done_plain, call_ends, none_freed}
use Rattle.volume_steps.proofs.AddNames.{name_comes, name_frees}
use Rattle.volume_steps.proofs.TreeSteps.{tree_at, tree_back, used_put_same, used_put_more}
use Rattle.volume_steps.proofs.Marked.{SameNumbers}
use Rattle.volume_steps.proofs.LinkCall.{FileAt, file_found}
use Rattle.volume_steps.proofs.UnlinkCall.{parent_there}
use Rattle.volume_steps.proofs.Drops.{dropped_change, dropped_frees, drops}
use Rattle.volume_steps.proofs.GoneFiles.{lists_of_file, count_of_file}
use Rattle.volume_steps.proofs.SlotChanges.{parent_set, parent_is_set, parent_numbers, set_parent_is, name_led, name_is_led, led_numbers, lead_name_is}
use Rattle.volume_steps.proofs.RenameTree.{Renames, renames, Taken, named_tree, What, a_dir, a_fil, what, Met, none_met, file_met, itself, met, stands, is_from, is_to, from_named, from_apart, to_apart, to_taken, moved_taken, order_taken, after_sorted, still_free, still_met, moves_only, moves_below, replaces}
use Rattle.volume_steps.proofs.RenameLinks.{Stood, new, same, stood_taken, rename_linked}

-- a node of the tree is one of the volume
pub node_at : (v : VolumeNow) (birth : ℕ) (node : Node) → at_number (tree_of_now v) birth ≡ Some node → (p : Placed) × (at_number v.contents.nodes birth ≡ Some p)
node_at v birth node found = (let w = tree_back v.contents.blocks v.contents.nodes birth node found in (w.0, w.1))

directory_same : (d e : Directory) → ◌≡◌ {A = Option Node} (Some (nodes.Directory d)) (Some (nodes.Directory e)) → d ≡ e
directory_same d e alike = cc

no_less : (l w : ℕ) → w ≡ 0 → l ≡ l - w
no_less l w e = omega arith

no_more : (l w : ℕ) → w ≡ 0 → l ≡ l + w
no_more l w e = omega arith

module _ (tx : ℕ) (v : VolumeNow) (h : IsPlainNow v) (n : ℕ) (before : AreBornBefore n (tree_of_now v)) (path other : List ℕ) (d : Done)
    (done : outcome (room_of v.geometry) (tree_of_now v) n (calls.Rename path other) ≡ Ok d) (enough : used_zones d.tree - used_zones (tree_of_now v) ≤ frees v.zones) where
  abbrev tree : Tree
  tree = tree_of_now v

  pub plain : IsPlain (tree_of_now v)
  plain = tree_is_plain v h

  pub r : Renames (tree_of_now v) path other d
  r = renames (tree_of_now v) n path other d (done_row (room_of v.geometry) (tree_of_now v) n (calls.Rename path other) d done).0

  abbrev pub from : Place
  from = r.from

  abbrev pub to : Place
  to = r.to

  abbrev pub birth : ℕ
  birth = r.found.birth

  abbrev pub m : Move
  m = record { moved = r.found; from = r.from; to = r.to; target = target_at (tree_of_now v) r.to }

  abbrev pub after : Place
  after = place_after m

  abbrev pub taken_tree : Tree
  taken_tree = Taken (tree_of_now v) plain path other d r

  pub from_stands : at_number (tree_of_now v) from.parent ≡ Some (nodes.Directory from.directory)
  from_stands = (is_from (tree_of_now v) plain path other d r).stands

  to_stands : at_number (tree_of_now v) to.parent ≡ Some (nodes.Directory to.directory)
  to_stands = (is_to (tree_of_now v) plain path other d r).stands

  pub gives : at_name from.directory.names from.name ≡ Some birth
  gives = from_named (tree_of_now v) plain path other d r

  pub far_from : birth ≢ from.parent
  far_from = from_apart (tree_of_now v) plain path other d r

  pub far_to : birth ≢ to.parent
  far_to = to_apart (tree_of_now v) plain path other d r

  pub good : IsGoodName to.name
  good = good_name (tree_of_now v) other r.more to (some_ok (path_of other) replies.BadPath r.more r.also) (is_to (tree_of_now v) plain path other d r)

  pub to_short : length to.name ≤ v.geometry.width
  to_short =
      let same = at_width v to.parent to.directory h.in_use (directory_at v to.parent to.directory to_stands) in
      let short = (is_to (tree_of_now v) plain path other d r).short in
      omega arith

  pub entry : (u : VolumeNow) → IsInUse u → length to.name ≤ u.geometry.width → (p : Placed) → at_number u.contents.nodes birth ≡ Some p → IsEntry u.geometry.width (record { inode = p.number; name = to.name })
  entry u live short p at =
      let told = live.volume.0.each birth p at in
      good_entry u.geometry.width to.name p.number live.sound.width good short told.some (let within = told.within in let fit = live.sound.fits.inodes in omega arith)

  -- ---- the old name goes

  abbrev pub less : Change
  less = name_goes tx v h from birth from_stands gives

  abbrev pub v1 : VolumeNow
  v1 = less.volume

  pub first : StepsTo tx v less taken_tree (links_at v.contents.nodes)
  first = name_goes_step tx v h from birth from_stands gives

  same_first : SameNumbers v.contents.nodes v1.contents.nodes
  same_first = name_goes_numbers tx v h from birth from_stands gives

  kind1 : (c : ℕ) → is_directory (at_number taken_tree c) ≡ is_directory (at_number (tree_of_now v) c)
  kind1 = kinds_stay tx v h from birth from_stands gives

  plain_after : IsPlain d.tree
  plain_after = done_plain v n (calls.Rename path other) d h before done

  linked_first : AreLinked (tree_of_now v) (links_at v.contents.nodes)
  linked_first = linked_before v h.plain.directory_links_are

  used_taken : used_zones taken_tree ≡ used_zones (tree_of_now v)
  used_taken = used_put_same (tree_of_now v) from.parent (nodes.Directory from.directory) (nodes.Directory (without_name from.directory from.name)) plain.rooted.in_order from_stands refl

  -- ---- the new name comes, in a tree of as many zones

  module _ (u : VolumeNow) (t : Tree) (tree_is : tree_of_now u ≡ t) (live : IsInUse u) (order : InOrder t) (used : used_zones t ≡ used_zones (tree_of_now v)) (zones : frees u.zones ≡ frees v.zones)
      (there : at_number t to.parent ≡ Some (nodes.Directory after.directory)) (final : put_number t to.parent (nodes.Directory (with_name after.directory to.name birth)) ≡ d.tree)
      (x : DirectoryAt u to.parent after.directory) where
    fits : directory_zones x.part.width (slots_with (directory_from x.part) to.name) ≤ directory_zones x.part.width (length x.part.slots) + frees u.zones
    fits = by (used_zones (tree_of_now v)) (used_zones t) (used_zones d.tree) (directory_zones after.directory.width after.directory.slots) (directory_zones after.directory.width (slots_with after.directory to.name)) (frees v.zones)
        (directory_zones x.part.width (length x.part.slots)) (directory_zones x.part.width (slots_with (directory_from x.part) to.name)) (frees u.zones) used
        (subst (λ tree. used_zones tree + directory_zones after.directory.width after.directory.slots ≡ used_zones t + directory_zones after.directory.width (slots_with after.directory to.name)) final
        (used_put_more t to.parent (nodes.Directory after.directory) (nodes.Directory (with_name after.directory to.name birth)) order there))
        enough (ap (λ (d : Directory). directory_zones d.width d.slots) x.same) (ap (λ (d : Directory). directory_zones d.width (slots_with d to.name)) x.same) zones
      where
        by : (a b c k l z i j y : ℕ) → b ≡ a → c + k ≡ b + l → c - a ≤ z → i ≡ k → j ≡ l → y ≡ z → j ≤ i + y
        by a b c k l z i j y e f g o p q = omega arith

  left_now : m.target ≡ None → is_full after.directory ≡ false
  left_now none = sym (ap (λ o. is_none o && is_full after.directory) none) ∙ r.left

  -- ---- how the steps of a call stand for it

  pub rename_by : rename v tx path other ≡ renamed v tx m
  rename_by =
      at_found_is (λ found. at_place v path (λ from. at_place v other (λ to. renamed v tx (record { moved = found; from = from; to = to; target = target_at (tree_of_now v) to }))))
      ∙ (at_place_is v path r.names from replies.Invalid (λ from. at_place v other (λ to. renamed v tx (record { moved = r.found; from = from; to = to; target = target_at (tree_of_now v) to }))) r.named r.from_is
      ∙ at_place_is v other r.more to replies.Invalid (λ to. renamed v tx (record { moved = r.found; from = from; to = to; target = target_at (tree_of_now v) to })) r.also r.to_is)
    where
      at_found_is : (change : Found → Change) → at_found v path change ≡ change r.found
      at_found_is change = ap (λ r. elim r as (λ _. Change) [ Err reply ↦ unchanged v | Ok found ↦ change found ])
          (ap (λ x. and_then x (walk (tree_of_now v))) r.named ∙ r.walked)

  -- ---- where no node has the new name: a file, or a directory that keeps its parent

  module _ (not_same : stays m ≡ false) (none : m.target ≡ None) (unnamed : at_name to.directory.names to.name ≡ None) (within : (moves_directory m && changes_parent m) ≡ false) where
    final : named_tree (tree_of_now v) plain path other d r taken_tree ≡ d.tree
    final = moves_only (tree_of_now v) plain path other d r not_same none within

    there1 : at_number taken_tree to.parent ≡ Some (nodes.Directory after.directory)
    there1 = to_taken (tree_of_now v) plain path other d r

    pub x1 : DirectoryAt v1 to.parent after.directory
    x1 = directory_at v1 to.parent after.directory (ap (λ tree. at_number tree to.parent) first.tree_is ∙ there1)

    pub c1 : (p : Placed) × (at_number v1.contents.nodes birth ≡ Some p)
    c1 = node_at v1 birth r.found.node (ap (λ tree. at_number tree birth) first.tree_is ∙ moved_taken (tree_of_now v) plain path other d r)

    pub free1 : at_name x1.part.names to.name ≡ None
    free1 = ap (λ (d : Directory). at_name d.names to.name) x1.same ∙ still_free (tree_of_now v) plain path other d r unnamed

    pub left1 : is_full (directory_from x1.part) ≡ false
    left1 = ap is_full x1.same ∙ left_now none

    pub more1 : directory_zones x1.part.width (slots_with (directory_from x1.part) to.name) ≤ directory_zones x1.part.width (length x1.part.slots) + frees v1.zones
    more1 = fits v1 taken_tree first.tree_is first.steady.in_use (order_taken (tree_of_now v) plain path other d r) used_taken refl there1 final x1

    abbrev pub named : Change
    named = add_name v1 to.parent to.name birth

    second : StepsTo tx v1 named (put_number (tree_of_now v1) to.parent (nodes.Directory (with_name (directory_from x1.part) to.name birth))) (links_at v1.contents.nodes)
    second = name_comes tx v1 first.steady.in_use to.parent x1.placed x1.stands x1.part x1.is to.name birth c1.0 c1.1 far_to free1 (good_no_dot to.name good)
        (entry v1 first.steady.in_use to_short c1.0 c1.1) first.settled first.slotted left1 more1

    names_free : (zone : ℕ) → In zone named.touched.freed → ⊥
    names_free = name_frees tx v1 first.steady.in_use to.parent x1.placed x1.stands x1.part x1.is to.name birth c1.0 c1.1 far_to free1 (good_no_dot to.name good)
        (entry v1 first.steady.in_use to_short c1.0 c1.1) first.settled first.slotted left1 more1

    whole : StepsTo tx v (joined less named) d.tree (links_at v1.contents.nodes)
    whole = subst (λ tree. StepsTo tx v (joined less named) tree (links_at v1.contents.nodes))
        (ap (λ tree. put_number tree to.parent (nodes.Directory (with_name (directory_from x1.part) to.name birth))) first.tree_is
        ∙ (ap (λ directory. put_number taken_tree to.parent (nodes.Directory (with_name directory to.name birth))) x1.same ∙ final))
        (steps_then tx v less named _ _ _ _ first second (λ zone i used. used) (λ y i. i) (inl same_first))

    abbrev last_tree : Tree
    last_tree = named_tree (tree_of_now v) plain path other d r taken_tree

    kinds : (c : ℕ) → is_directory (at_number last_tree c) ≡ is_directory (at_number (tree_of_now v) c)
    kinds c = at_put_cases (λ o. is_directory o ≡ is_directory (at_number (tree_of_now v) c)) taken_tree to.parent (nodes.Directory (with_name after.directory to.name birth)) c
        (λ e. sym (ap (λ c. is_directory (at_number (tree_of_now v) c)) e ∙ ap is_directory to_stands)) (λ far. kind1 c)

    light : to.parent ≢ from.parent → weigh (tree_of_now v) birth ≡ 0
    light apart = ap (λ b. cond b 1 0) (ap is_directory (stands (tree_of_now v) plain path other d r) ∙ by (is_directory (Some r.found.node)) (sym (ap (λ b. is_directory (Some r.found.node) && not b) (ne_eqb to.parent from.parent apart)) ∙ within))
      where
        by : (b : Bool) → (b && true) ≡ false → b ≡ false
        by true e = e
        by false e = refl

    links_all : AreLinked d.tree (links_at v1.contents.nodes)
    links_all = subst (λ tree. AreLinked tree (links_at v1.contents.nodes)) final
        (rename_linked (tree_of_now v) plain path other d r last_tree kinds
        (λ a e found. at_put_cases (λ o. o ≡ Some (nodes.Directory e) → Stood (tree_of_now v) plain path other d r last_tree a e) taken_tree to.parent (nodes.Directory (with_name after.directory to.name birth)) a
        (λ at is. new at (directory_same _ e is)) (λ far is. stood_taken (tree_of_now v) plain path other d r a e far is last_tree) found)
        (ap (λ o. unwrap_or (option_map (weigh last_tree) o) 0) (still_free (tree_of_now v) plain path other d r unnamed))
        (links_at v.contents.nodes) (links_at v1.contents.nodes) linked_first to_stands
        (λ e. first.links_are to.parent)
        (λ apart l e. first.links_are to.parent ∙ (e ∙ ap Some (no_more l (weigh (tree_of_now v) birth) (light apart))))
        (λ apart l e. first.links_are from.parent ∙ (e ∙ ap Some (no_less l (weigh (tree_of_now v) birth) (light apart))))
        (λ a e found far away. first.links_are a))

    moved_done : IsDone tx v (rename v tx path other) d.tree
    moved_done = subst (λ c. IsDone tx v c d.tree)
        (sym (rename_by
        ∙ (ap (λ (b : Bool). if b then unchanged v else elim m.target as (λ _. Change) [
          | Some t ↦ replace_in v tx from.parent from.name to.parent to.name birth t.birth
          | None ↦ if moves_directory m && changes_parent m then move_below v from.parent from.name to.parent to.name birth else move_in v from.parent from.name to.parent to.name birth
        ]) not_same
        ∙ (ap (λ (o : Option Found). elim o as (λ _. Change) [
          | Some t ↦ replace_in v tx from.parent from.name to.parent to.name birth t.birth
          | None ↦ if moves_directory m && changes_parent m then move_below v from.parent from.name to.parent to.name birth else move_in v from.parent from.name to.parent to.name birth
        ]) none
        ∙ (ap (λ (b : Bool). if b then move_below v from.parent from.name to.parent to.name birth else move_in v from.parent from.name to.parent to.name birth) within
        ∙ ap (λ c. followed_by c (λ w. add_name w to.parent to.name birth)) (name_goes_is tx v h from birth from_stands gives))))))
        (call_ends tx v (joined less named) d.tree (links_at v1.contents.nodes) whole plain_after links_all (inl (none_freed named.touched.freed names_free)))

  -- ---- a directory goes below another parent

  module _ (not_same : stays m ≡ false) (none : m.target ≡ None) (unnamed : at_name to.directory.names to.name ≡ None) (e : Directory) (is : r.found.node ≡ nodes.Directory e) (away : to.parent ≢ from.parent) where
    abbrev mid : Tree
    mid = put_number taken_tree birth (nodes.Directory (record { parent = to.parent; width = e.width; slots = e.slots; names = e.names }))

    final_below : named_tree (tree_of_now v) plain path other d r mid ≡ d.tree
    final_below = moves_below (tree_of_now v) plain path other d r not_same none e is

    dir_taken : at_number taken_tree birth ≡ Some (nodes.Directory e)
    dir_taken = moved_taken (tree_of_now v) plain path other d r ∙ ap Some is

    dir_stands : at_number (tree_of_now v) birth ≡ Some (nodes.Directory e)
    dir_stands = stands (tree_of_now v) plain path other d r ∙ ap Some is

    -- the old parent has one link less
    pub y1 : DirectoryAt v1 from.parent (without_name from.directory from.name)
    y1 = directory_at v1 from.parent (without_name from.directory from.name) (ap (λ tree. at_number tree from.parent) first.tree_is ∙ at_put_number (tree_of_now v) from.parent (nodes.Directory (without_name from.directory from.name)))

    pub few1 : y1.placed.inode.links - 1 ≤ 250
    few1 = let most = first.settled.few_links from.parent y1.placed y1.stands in omega arith

    abbrev pub fewer : Change
    fewer = linked tx v1 first.steady.in_use from.parent y1.placed y1.stands (y1.placed.inode.links - 1) few1

    abbrev pub v2 : VolumeNow
    v2 = fewer.volume

    pub below2 : StepsTo tx v1 fewer (tree_of_now v1) (links_at v2.contents.nodes)
    below2 = record {
      steady = linked_steady tx v1 first.steady.in_use from.parent y1.placed y1.stands (y1.placed.inode.links - 1) few1;
      tree_is = linked_directory tx v1 first.steady.in_use from.parent y1.placed y1.stands (y1.placed.inode.links - 1) few1 y1.part y1.is;
      settled = linked_settled tx v1 first.steady.in_use from.parent y1.placed y1.stands (y1.placed.inode.links - 1) few1 first.settled;
      slotted = linked_slotted tx v1 first.steady.in_use from.parent y1.placed y1.stands (y1.placed.inode.links - 1) few1 first.slotted;
      links_are = λ a. refl;
      waiting = omega arith;
    }

    tree2 : tree_of_now v2 ≡ taken_tree
    tree2 = below2.tree_is ∙ first.tree_is

    -- it has another parent
    pub z2 : DirectoryAt v2 birth e
    z2 = directory_at v2 birth e (ap (λ tree. at_number tree birth) tree2 ∙ dir_taken)

    pub q2 : DirectoryAt v2 to.parent after.directory
    q2 = directory_at v2 to.parent after.directory (ap (λ tree. at_number tree to.parent) tree2 ∙ to_taken (tree_of_now v) plain path other d r)

    abbrev pub turned : Change
    turned = parent_set tx v2 below2.steady.in_use below2.settled below2.slotted birth z2.placed z2.stands z2.part z2.is to.parent q2.placed q2.stands

    abbrev pub v3 : VolumeNow
    v3 = turned.volume

    pub below3 : StepsTo tx v2 turned (put_number (tree_of_now v2) birth (nodes.Directory (record { parent = to.parent; width = z2.part.width; slots = length z2.part.slots; names = z2.part.names }))) (links_at v2.contents.nodes)
    below3 = parent_is_set tx v2 below2.steady.in_use below2.settled below2.slotted birth z2.placed z2.stands z2.part z2.is to.parent q2.placed q2.stands

    tree3 : tree_of_now v3 ≡ mid
    tree3 = below3.tree_is
        ∙ (ap (λ tree. put_number tree birth (nodes.Directory (record { parent = to.parent; width = z2.part.width; slots = length z2.part.slots; names = z2.part.names }))) tree2
        ∙ ap (λ (d : Directory). put_number taken_tree birth (nodes.Directory (record { parent = to.parent; width = d.width; slots = d.slots; names = d.names }))) z2.same)

    mid_to : at_number mid to.parent ≡ Some (nodes.Directory after.directory)
    mid_to = at_put_number_apart taken_tree birth (nodes.Directory (record { parent = to.parent; width = e.width; slots = e.slots; names = e.names })) to.parent (λ f. far_to (sym f)) ∙ to_taken (tree_of_now v) plain path other d r

    -- the new parent has one link more
    pub x3 : DirectoryAt v3 to.parent after.directory
    x3 = directory_at v3 to.parent after.directory (ap (λ tree. at_number tree to.parent) tree3 ∙ mid_to)

    links2 : (a : ℕ) → a ≢ from.parent → links_at v2.contents.nodes a ≡ links_at v.contents.nodes a
    links2 a far = ap (option_map (λ (p : Placed). p.inode.links)) (at_put_number_apart v1.contents.nodes from.parent _ a far) ∙ first.links_are a

    links3 : Some x3.placed.inode.links ≡ Some (directory_links (tree_of_now v) to.directory)
    links3 = sym (ap (option_map (λ (p : Placed). p.inode.links)) x3.stands) ∙ (below3.links_are to.parent ∙ (links2 to.parent away ∙ linked_first to.parent to.directory to_stands))

    pub few3 : x3.placed.inode.links + 1 ≤ 250
    few3 = by x3.placed.inode.links (directory_links (tree_of_now v) to.directory) (same_Some _ _ links3) (below3.settled.few_links to.parent x3.placed x3.stands)
        (sym (ap (λ x. is_directory (Some x) && (not (to.parent == from.parent) && (directory_links (tree_of_now v) to.directory == 250))) is ∙ ap (λ b. not b && (directory_links (tree_of_now v) to.directory == 250)) (ne_eqb to.parent from.parent away)) ∙ r.few)
      where
        by : (a c : ℕ) → a ≡ c → a ≤ 250 → (c == 250) ≡ false → a + 1 ≤ 250
        by a c e f k = grind arith

    abbrev pub grown : Change
    grown = linked tx v3 below3.steady.in_use to.parent x3.placed x3.stands (x3.placed.inode.links + 1) few3

    abbrev pub v4 : VolumeNow
    v4 = grown.volume

    pub below4 : StepsTo tx v3 grown (tree_of_now v3) (links_at v4.contents.nodes)
    below4 = record {
      steady = linked_steady tx v3 below3.steady.in_use to.parent x3.placed x3.stands (x3.placed.inode.links + 1) few3;
      tree_is = linked_directory tx v3 below3.steady.in_use to.parent x3.placed x3.stands (x3.placed.inode.links + 1) few3 x3.part x3.is;
      settled = linked_settled tx v3 below3.steady.in_use to.parent x3.placed x3.stands (x3.placed.inode.links + 1) few3 below3.settled;
      slotted = linked_slotted tx v3 below3.steady.in_use to.parent x3.placed x3.stands (x3.placed.inode.links + 1) few3 below3.slotted;
      links_are = λ a. refl;
      waiting = omega arith;
    }

    tree4 : tree_of_now v4 ≡ mid
    tree4 = below4.tree_is ∙ tree3

    -- the new name comes
    pub x4 : DirectoryAt v4 to.parent after.directory
    x4 = directory_at v4 to.parent after.directory (ap (λ tree. at_number tree to.parent) tree4 ∙ mid_to)

    pub c4 : (p : Placed) × (at_number v4.contents.nodes birth ≡ Some p)
    c4 = node_at v4 birth (nodes.Directory (record { parent = to.parent; width = e.width; slots = e.slots; names = e.names }))
        (ap (λ tree. at_number tree birth) tree4 ∙ at_put_number taken_tree birth (nodes.Directory (record { parent = to.parent; width = e.width; slots = e.slots; names = e.names })))

    pub free4 : at_name x4.part.names to.name ≡ None
    free4 = ap (λ (d : Directory). at_name d.names to.name) x4.same ∙ still_free (tree_of_now v) plain path other d r unnamed

    pub left4 : is_full (directory_from x4.part) ≡ false
    left4 = ap is_full x4.same ∙ left_now none

    used_mid : used_zones mid ≡ used_zones (tree_of_now v)
    used_mid = used_put_same taken_tree birth (nodes.Directory e) (nodes.Directory (record { parent = to.parent; width = e.width; slots = e.slots; names = e.names })) (order_taken (tree_of_now v) plain path other d r) dir_taken refl ∙ used_taken

    order_mid : InOrder mid
    order_mid = in_order_put taken_tree birth (nodes.Directory (record { parent = to.parent; width = e.width; slots = e.slots; names = e.names })) (order_taken (tree_of_now v) plain path other d r)

    pub more4 : directory_zones x4.part.width (slots_with (directory_from x4.part) to.name) ≤ directory_zones x4.part.width (length x4.part.slots) + frees v4.zones
    more4 = fits v4 mid tree4 below4.steady.in_use order_mid used_mid refl mid_to final_below x4

    abbrev pub named_below : Change
    named_below = add_name v4 to.parent to.name birth

    below5 : StepsTo tx v4 named_below (put_number (tree_of_now v4) to.parent (nodes.Directory (with_name (directory_from x4.part) to.name birth))) (links_at v4.contents.nodes)
    below5 = name_comes tx v4 below4.steady.in_use to.parent x4.placed x4.stands x4.part x4.is to.name birth c4.0 c4.1 far_to free4 (good_no_dot to.name good)
        (entry v4 below4.steady.in_use to_short c4.0 c4.1) below4.settled below4.slotted left4 more4

    below_free : (zone : ℕ) → In zone named_below.touched.freed → ⊥
    below_free = name_frees tx v4 below4.steady.in_use to.parent x4.placed x4.stands x4.part x4.is to.name birth c4.0 c4.1 far_to free4 (good_no_dot to.name good)
        (entry v4 below4.steady.in_use to_short c4.0 c4.1) below4.settled below4.slotted left4 more4

    whole_below : StepsTo tx v (joined less (joined fewer (joined turned (joined grown named_below)))) d.tree (links_at v4.contents.nodes)
    whole_below = subst (λ tree. StepsTo tx v (joined less (joined fewer (joined turned (joined grown named_below)))) tree (links_at v4.contents.nodes))
        (ap (λ tree. put_number tree to.parent (nodes.Directory (with_name (directory_from x4.part) to.name birth))) tree4
        ∙ (ap (λ directory. put_number mid to.parent (nodes.Directory (with_name directory to.name birth))) x4.same ∙ final_below))
        (steps_then tx v less (joined fewer (joined turned (joined grown named_below))) _ _ _ _ first
        (steps_then tx v1 fewer (joined turned (joined grown named_below)) _ _ _ _ below2
        (steps_then tx v2 turned (joined grown named_below) _ _ _ _ below3
        (steps_then tx v3 grown named_below _ _ _ _ below4 below5 (λ zone i used. used) (λ y i. i)
        (inl (linked_numbers tx v3 below3.steady.in_use to.parent x3.placed x3.stands (x3.placed.inode.links + 1) few3)))
        (λ zone i used. used) (λ y i. i)
        (inl (parent_numbers tx v2 below2.steady.in_use below2.settled below2.slotted birth z2.placed z2.stands z2.part z2.is to.parent q2.placed q2.stands)))
        (λ zone i used. used) (λ y i. i)
        (inl (linked_numbers tx v1 first.steady.in_use from.parent y1.placed y1.stands (y1.placed.inode.links - 1) few1)))
        (λ zone i used. used) (λ y i. i) (inl same_first))

    abbrev below_tree : Tree
    below_tree = named_tree (tree_of_now v) plain path other d r mid

    kinds_below : (c : ℕ) → is_directory (at_number below_tree c) ≡ is_directory (at_number (tree_of_now v) c)
    kinds_below c = at_put_cases (λ o. is_directory o ≡ is_directory (at_number (tree_of_now v) c)) mid to.parent (nodes.Directory (with_name after.directory to.name birth)) c
        (λ f. sym (ap (λ c. is_directory (at_number (tree_of_now v) c)) f ∙ ap is_directory to_stands))
        (λ far. at_put_cases (λ o. is_directory o ≡ is_directory (at_number (tree_of_now v) c)) taken_tree birth (nodes.Directory (record { parent = to.parent; width = e.width; slots = e.slots; names = e.names })) c
        (λ f. sym (ap (λ c. is_directory (at_number (tree_of_now v) c)) f ∙ ap is_directory dir_stands)) (λ off. kind1 c))

    heavy : weigh (tree_of_now v) birth ≡ 1
    heavy = ap (λ b. cond b 1 0) (ap is_directory dir_stands)

    links4 : (a : ℕ) → a ≢ to.parent → links_at v4.contents.nodes a ≡ links_at v2.contents.nodes a
    links4 a far = ap (option_map (λ (p : Placed). p.inode.links)) (at_put_number_apart v3.contents.nodes to.parent _ a far) ∙ below3.links_are a

    to_links : (l : ℕ) → links_at v.contents.nodes to.parent ≡ Some l → links_at v4.contents.nodes to.parent ≡ Some (l + weigh (tree_of_now v) birth)
    to_links l f =
        ap (option_map (λ (p : Placed). p.inode.links)) (at_put_number v3.contents.nodes to.parent _)
        ∙ ap Some (by x3.placed.inode.links l (weigh (tree_of_now v) birth) (same_Some _ _ (links3 ∙ (sym (linked_first to.parent to.directory to_stands) ∙ f))) heavy)
      where
        by : (a l w : ℕ) → a ≡ l → w ≡ 1 → a + 1 ≡ l + w
        by a l w e f = omega arith

    from_links : (l : ℕ) → links_at v.contents.nodes from.parent ≡ Some l → links_at v4.contents.nodes from.parent ≡ Some (l - weigh (tree_of_now v) birth)
    from_links l f =
        links4 from.parent (λ same. away (sym same))
        ∙ (ap (option_map (λ (p : Placed). p.inode.links)) (at_put_number v1.contents.nodes from.parent _)
        ∙ ap Some (by y1.placed.inode.links l (weigh (tree_of_now v) birth) (same_Some _ _ (sym (ap (option_map (λ (p : Placed). p.inode.links)) y1.stands) ∙ (first.links_are from.parent ∙ f))) heavy))
      where
        by : (a l w : ℕ) → a ≡ l → w ≡ 1 → a - 1 ≡ l - w
        by a l w e f = omega arith

    links_below : AreLinked d.tree (links_at v4.contents.nodes)
    links_below = subst (λ tree. AreLinked tree (links_at v4.contents.nodes)) final_below
        (rename_linked (tree_of_now v) plain path other d r below_tree kinds_below
        (λ a f found. at_put_cases (λ o. o ≡ Some (nodes.Directory f) → Stood (tree_of_now v) plain path other d r below_tree a f) mid to.parent (nodes.Directory (with_name after.directory to.name birth)) a
        (λ at is. new at (directory_same _ f is))
        (λ far. at_put_cases (λ o. o ≡ Some (nodes.Directory f) → Stood (tree_of_now v) plain path other d r below_tree a f) taken_tree birth (nodes.Directory (record { parent = to.parent; width = e.width; slots = e.slots; names = e.names })) a
        (λ at is. same far (λ f. far_from (sym at ∙ f)) e (ap (at_number (tree_of_now v)) at ∙ dir_stands) (ap (λ (d : Directory). d.names) (directory_same _ f is)))
        (λ off is. stood_taken (tree_of_now v) plain path other d r a f far is below_tree)) found)
        (ap (λ o. unwrap_or (option_map (weigh below_tree) o) 0) (still_free (tree_of_now v) plain path other d r unnamed))
        (links_at v.contents.nodes) (links_at v4.contents.nodes) linked_first to_stands
        (λ f. absurd (away f))
        (λ apart l f. to_links l f)
        (λ apart l f. from_links l f)
        (λ a f found far off. links4 a far ∙ links2 a off))

    pub goes_below : (moves_directory m && changes_parent m) ≡ true
    goes_below = ap (λ x. is_directory (Some x) && not (to.parent == from.parent)) is ∙ ap not (ne_eqb to.parent from.parent away)

    pub below_is : move_below v from.parent from.name to.parent to.name birth ≡ joined less (joined fewer (joined turned (joined grown named_below)))
    below_is =
        ap (λ c. followed_by c (λ u. followed_by (set_links u from.parent (λ links. links - 1)) (λ w. followed_by (set_parent w birth to.parent) (λ x. followed_by (set_links x to.parent (λ links. links + 1)) (λ y. add_name y to.parent to.name birth)))))
        (name_goes_is tx v h from birth from_stands gives)
        ∙ (ap (λ c. joined less (followed_by c (λ w. followed_by (set_parent w birth to.parent) (λ x. followed_by (set_links x to.parent (λ links. links + 1)) (λ y. add_name y to.parent to.name birth)))))
        (set_links_is tx v1 first.steady.in_use from.parent y1.placed y1.stands (y1.placed.inode.links - 1) few1 (λ links. links - 1) refl)
        ∙ (ap (λ c. joined less (joined fewer (followed_by c (λ x. followed_by (set_links x to.parent (λ links. links + 1)) (λ y. add_name y to.parent to.name birth)))))
        (set_parent_is tx v2 below2.steady.in_use below2.settled below2.slotted birth z2.placed z2.stands z2.part z2.is to.parent q2.placed q2.stands)
        ∙ ap (λ c. joined less (joined fewer (joined turned (followed_by c (λ y. add_name y to.parent to.name birth)))))
        (set_links_is tx v3 below3.steady.in_use to.parent x3.placed x3.stands (x3.placed.inode.links + 1) few3 (λ links. links + 1) refl)))

    below_done : IsDone tx v (rename v tx path other) d.tree
    below_done = subst (λ c. IsDone tx v c d.tree)
        (sym (rename_by
        ∙ (ap (λ (b : Bool). if b then unchanged v else elim m.target as (λ _. Change) [
          | Some t ↦ replace_in v tx from.parent from.name to.parent to.name birth t.birth
          | None ↦ if moves_directory m && changes_parent m then move_below v from.parent from.name to.parent to.name birth else move_in v from.parent from.name to.parent to.name birth
        ]) not_same
        ∙ (ap (λ (o : Option Found). elim o as (λ _. Change) [
          | Some t ↦ replace_in v tx from.parent from.name to.parent to.name birth t.birth
          | None ↦ if moves_directory m && changes_parent m then move_below v from.parent from.name to.parent to.name birth else move_in v from.parent from.name to.parent to.name birth
        ]) none
        ∙ (ap (λ (b : Bool). if b then move_below v from.parent from.name to.parent to.name birth else move_in v from.parent from.name to.parent to.name birth) goes_below
        ∙ below_is)))))
        (call_ends tx v (joined less (joined fewer (joined turned (joined grown named_below)))) d.tree (links_at v4.contents.nodes) whole_below plain_after links_below (inl (none_freed named_below.touched.freed below_free)))

  -- ---- a file gets the name of another one

  module _ (not_same : stays m ≡ false) (t : Found) (f : File) (target : m.target ≡ Some t) (is : t.node ≡ nodes.File f) (led_to : at_name to.directory.names to.name ≡ Some t.birth) (apart : t.birth ≢ birth) (g : File) (file : r.found.node ≡ nodes.File g) where
    abbrev met_tree : Tree
    met_tree = named_tree (tree_of_now v) plain path other d r taken_tree

    final_met : lose_link met_tree t.birth f ≡ d.tree
    final_met = replaces (tree_of_now v) plain path other d r not_same t f g target is apart file

    there : at_number (tree_of_now v) t.birth ≡ Some (nodes.File f)
    there = target_stands (tree_of_now v) to t target ∙ ap Some is

    pub t_far_from : t.birth ≢ from.parent
    t_far_from e = cc (sym from_stands ∙ (ap (at_number (tree_of_now v)) (sym e) ∙ there))

    pub t_far_to : t.birth ≢ to.parent
    t_far_to e = cc (sym to_stands ∙ (ap (at_number (tree_of_now v)) (sym e) ∙ there))

    pub m1 : DirectoryAt v1 to.parent after.directory
    m1 = directory_at v1 to.parent after.directory (ap (λ tree. at_number tree to.parent) first.tree_is ∙ to_taken (tree_of_now v) plain path other d r)

    pub moved1 : (p : Placed) × (at_number v1.contents.nodes birth ≡ Some p)
    moved1 = node_at v1 birth r.found.node (ap (λ tree. at_number tree birth) first.tree_is ∙ moved_taken (tree_of_now v) plain path other d r)

    still : at_name after.directory.names to.name ≡ Some t.birth
    still = still_met (tree_of_now v) plain path other d r t.birth led_to apart

    pub found1 : at_name m1.part.names to.name ≡ Some t.birth
    found1 = ap (λ (d : Directory). at_name d.names to.name) m1.same ∙ still

    pub sorted1 : IsStrictlySortedBy name_cmp (keys_of m1.part.names)
    sorted1 = subst (λ (d : Directory). IsStrictlySortedBy name_cmp (keys_of d.names)) (sym m1.same) (after_sorted (tree_of_now v) plain path other d r)

    -- the name leads to the file
    abbrev pub led : Change
    led = name_led tx v1 first.steady.in_use first.settled first.slotted to.parent m1.placed m1.stands m1.part m1.is to.name t.birth found1 sorted1 birth moved1.0 moved1.1 (entry v1 first.steady.in_use to_short moved1.0 moved1.1)

    abbrev pub w2 : VolumeNow
    w2 = led.volume

    pub met2 : StepsTo tx v1 led (put_number (tree_of_now v1) to.parent (nodes.Directory (with_name (directory_from m1.part) to.name birth))) (links_at v1.contents.nodes)
    met2 = name_is_led tx v1 first.steady.in_use first.settled first.slotted to.parent m1.placed m1.stands m1.part m1.is to.name t.birth found1 sorted1 birth moved1.0 moved1.1 (entry v1 first.steady.in_use to_short moved1.0 moved1.1)

    same_led : SameNumbers v1.contents.nodes w2.contents.nodes
    same_led = led_numbers tx v1 first.steady.in_use first.settled first.slotted to.parent m1.placed m1.stands m1.part m1.is to.name t.birth found1 sorted1 birth moved1.0 moved1.1 (entry v1 first.steady.in_use to_short moved1.0 moved1.1)

    tree_met : tree_of_now w2 ≡ met_tree
    tree_met = met2.tree_is
        ∙ (ap (λ tree. put_number tree to.parent (nodes.Directory (with_name (directory_from m1.part) to.name birth))) first.tree_is
        ∙ ap (λ directory. put_number taken_tree to.parent (nodes.Directory (with_name directory to.name birth))) m1.same)

    met_stands : at_number met_tree t.birth ≡ Some (nodes.File f)
    met_stands = at_put_number_apart taken_tree to.parent (nodes.Directory (with_name after.directory to.name birth)) t.birth t_far_to
        ∙ (at_put_number_apart (tree_of_now v) from.parent (nodes.Directory (without_name from.directory from.name)) t.birth t_far_from ∙ there)

    w2_stands : at_number (tree_of_now w2) t.birth ≡ Some (nodes.File f)
    w2_stands = ap (λ tree. at_number tree t.birth) tree_met ∙ met_stands

    pub y2 : FileAt w2 t.birth f
    y2 = file_found w2 t.birth f w2_stands

    order_met : InOrder met_tree
    order_met = in_order_put taken_tree to.parent (nodes.Directory (with_name after.directory to.name birth)) (order_taken (tree_of_now v) plain path other d r)

    links_of_w2 : (a : ℕ) → links_at w2.contents.nodes a ≡ links_at v.contents.nodes a
    links_of_w2 a = met2.links_are a ∙ first.links_are a

    -- ---- it keeps another name

    few2 : y2.placed.inode.links - 1 ≤ 250
    few2 = let most = met2.settled.few_links t.birth y2.placed y2.stands in omega arith

    abbrev kept : Change
    kept = linked tx w2 met2.steady.in_use t.birth y2.placed y2.stands (y2.placed.inode.links - 1) few2

    kept_step : StepsTo tx w2 kept (put_file (tree_of_now w2) t.birth (with_links f (f.links - 1))) (links_at kept.volume.contents.nodes)
    kept_step = record {
      steady = linked_steady tx w2 met2.steady.in_use t.birth y2.placed y2.stands (y2.placed.inode.links - 1) few2;
      tree_is = linked_file tx w2 met2.steady.in_use t.birth y2.placed y2.stands (y2.placed.inode.links - 1) few2 y2.zones f y2.is w2_stands
          ∙ ap (λ k. put_file (tree_of_now w2) t.birth (with_links f (k - 1))) y2.links_are;
      settled = linked_settled tx w2 met2.steady.in_use t.birth y2.placed y2.stands (y2.placed.inode.links - 1) few2 met2.settled;
      slotted = linked_slotted tx w2 met2.steady.in_use t.birth y2.placed y2.stands (y2.placed.inode.links - 1) few2 met2.slotted;
      links_are = λ a. refl;
      waiting = omega arith;
    }

    -- ---- it goes

    module _ (last : f.links ≤ 1) where
      -- no name is left
      no_name : (a : ℕ) (q : Placed) (e : DirectoryPart) (name : List ℕ) → at_number w2.contents.nodes a ≡ Some q → q.part ≡ parts.Directory e → at_name e.names name ≢ Some t.birth
      no_name a q e name at part yet =
          let edge : edge_of met_tree a name ≡ Some t.birth = ap (λ tree. edge_of tree a name) (sym tree_met)
          ∙ (ap (λ o. at_name (names_of o) name) (tree_at w2.contents.blocks w2.contents.nodes a q at ∙ ap (λ part. Some (node_from w2.contents.blocks q.inode part)) part) ∙ yet) in
          let some = edge_counts met_tree a name t.birth edge in
          let given = give_counts taken_tree after (to_taken (tree_of_now v) plain path other d r) birth t.birth (order_taken (tree_of_now v) plain path other d r) (after_sorted (tree_of_now v) plain path other d r) in
          let counts = take_counts (tree_of_now v) from from_stands t.birth plain.rooted.in_order in
          let one : one_for t.birth (at_name after.directory.names to.name) ≡ 1 = ap (one_for t.birth) still ∙ one_for_here t.birth in
          let zero : one_for t.birth (at_name from.directory.names from.name) ≡ 0 = ap (one_for t.birth) gives ∙ one_for_other birth t.birth (λ e. apart (sym e)) in
          let none = one_for_other birth t.birth (λ e. apart (sym e)) in
          let links = plain.links t.birth f there in
          omega arith

      abbrev gone : Change
      gone = dropped_change tx w2 met2.steady.in_use t.birth y2.placed y2.stands (block_zones w2.contents y2.placed y2.placed.part ++ all_numbers w2.contents y2.placed) (metadata_gone w2.contents y2.placed y2.placed.part) (pages_gone t.birth y2.placed.part)
          (lists_of_file w2 met2.steady.in_use.volume t.birth y2.placed y2.stands y2.zones y2.is) (count_of_file w2 met2.steady.in_use.volume t.birth y2.placed y2.stands y2.zones y2.is) no_name

      -- no directory is below a file
      childless : (a : ℕ) (q : Placed) (e : DirectoryPart) → a ≢ t.birth → at_number w2.contents.nodes a ≡ Some q → q.part ≡ parts.Directory e → e.parent ≢ t.birth
      childless a q e far at part alike =
          let up = by_tree a (directory_from e) (ap (λ tree. at_number tree a) (sym tree_met) ∙ (tree_at w2.contents.blocks w2.contents.nodes a q at ∙ ap (λ part. Some (node_from w2.contents.blocks q.inode part)) part)) in
          cc (sym up.1 ∙ (ap (at_number (tree_of_now v)) alike ∙ there))
        where
          by_taken : (a : ℕ) (e : Directory) → at_number taken_tree a ≡ Some (nodes.Directory e) → (x : Directory) × (at_number (tree_of_now v) e.parent ≡ Some (nodes.Directory x))
          by_taken a e = at_put_cases (λ o. o ≡ Some (nodes.Directory e) → (x : Directory) × (at_number (tree_of_now v) e.parent ≡ Some (nodes.Directory x))) (tree_of_now v) from.parent (nodes.Directory (without_name from.directory from.name)) a
              (λ q alike. subst (λ (e : Directory). (x : Directory) × (at_number (tree_of_now v) e.parent ≡ Some (nodes.Directory x))) (directory_same _ e alike) (parent_there (tree_of_now v) plain from.parent from.directory from_stands))
              (λ off found. parent_there (tree_of_now v) plain a e found)

          by_tree : (a : ℕ) (e : Directory) → at_number met_tree a ≡ Some (nodes.Directory e) → (x : Directory) × (at_number (tree_of_now v) e.parent ≡ Some (nodes.Directory x))
          by_tree a e = at_put_cases (λ o. o ≡ Some (nodes.Directory e) → (x : Directory) × (at_number (tree_of_now v) e.parent ≡ Some (nodes.Directory x))) taken_tree to.parent (nodes.Directory (with_name after.directory to.name birth)) a
              (λ q alike. subst (λ (e : Directory). (x : Directory) × (at_number (tree_of_now v) e.parent ≡ Some (nodes.Directory x))) (directory_same _ e alike)
              (by_taken to.parent after.directory (to_taken (tree_of_now v) plain path other d r)))
              (λ off found. by_taken a e found)

      gone_step : StepsTo tx w2 gone (without_number (tree_of_now w2) t.birth) (links_at gone.volume.contents.nodes)
      gone_step = drops tx w2 met2.steady.in_use t.birth y2.placed y2.stands (block_zones w2.contents y2.placed y2.placed.part ++ all_numbers w2.contents y2.placed) (metadata_gone w2.contents y2.placed y2.placed.part) (pages_gone t.birth y2.placed.part)
          (lists_of_file w2 met2.steady.in_use.volume t.birth y2.placed y2.stands y2.zones y2.is) (count_of_file w2 met2.steady.in_use.volume t.birth y2.placed y2.stands y2.zones y2.is) no_name met2.settled met2.slotted childless

    -- ---- links of directories

    light_file : weigh (tree_of_now v) birth ≡ 0
    light_file = ap (λ b. cond b 1 0) (ap is_directory (stands (tree_of_now v) plain path other d r) ∙ ap (λ x. is_directory (Some x)) file)

    kinds_met : (c : ℕ) → is_directory (at_number met_tree c) ≡ is_directory (at_number (tree_of_now v) c)
    kinds_met c = at_put_cases (λ o. is_directory o ≡ is_directory (at_number (tree_of_now v) c)) taken_tree to.parent (nodes.Directory (with_name after.directory to.name birth)) c
        (λ e. sym (ap (λ c. is_directory (at_number (tree_of_now v) c)) e ∙ ap is_directory to_stands)) (λ far. kind1 c)

    links_met : (last_tree : Tree) (after_links : ℕ → Option ℕ) → ((c : ℕ) → is_directory (at_number last_tree c) ≡ is_directory (at_number met_tree c)) →
        ((a : ℕ) (e : Directory) → at_number last_tree a ≡ Some (nodes.Directory e) → at_number met_tree a ≡ Some (nodes.Directory e)) →
        ((a : ℕ) → a ≢ t.birth → after_links a ≡ links_at w2.contents.nodes a) → AreLinked last_tree after_links
    links_met last_tree after_links kinds was links =
        rename_linked (tree_of_now v) plain path other d r last_tree (λ c. kinds c ∙ kinds_met c)
        (λ a e found. at_put_cases (λ o. o ≡ Some (nodes.Directory e) → Stood (tree_of_now v) plain path other d r last_tree a e) taken_tree to.parent (nodes.Directory (with_name after.directory to.name birth)) a
        (λ at is. new at (directory_same _ e is)) (λ far is. stood_taken (tree_of_now v) plain path other d r a e far is last_tree) (was a e found))
        (ap (λ o. unwrap_or (option_map (weigh last_tree) o) 0) still ∙ ap (λ b. cond b 1 0) (kinds t.birth ∙ (ap is_directory met_stands)))
        (links_at v.contents.nodes) after_links linked_first to_stands
        (λ e. to_same)
        (λ off l e. to_same ∙ (e ∙ ap Some (no_more l (weigh (tree_of_now v) birth) light_file)))
        (λ off l e. (links from.parent (λ f. t_far_from (sym f)) ∙ links_of_w2 from.parent) ∙ (e ∙ ap Some (no_less l (weigh (tree_of_now v) birth) light_file)))
        (λ a e found far off. links a (λ f. cc (sym (was a e found) ∙ (ap (at_number met_tree) f ∙ met_stands))) ∙ links_of_w2 a)
      where
        to_same : after_links to.parent ≡ links_at v.contents.nodes to.parent
        to_same = links to.parent (λ f. t_far_to (sym f)) ∙ links_of_w2 to.parent

    -- ---- both

    replace_is : rename v tx path other ≡ joined less (joined led (if nat_le y2.placed.inode.links 1 then drop_node w2 tx t.birth else set_links w2 t.birth (λ links. links - 1)))
    replace_is =
        rename_by
        ∙ (ap (λ (b : Bool). if b then unchanged v else elim m.target as (λ _. Change) [
          | Some t ↦ replace_in v tx from.parent from.name to.parent to.name birth t.birth
          | None ↦ if moves_directory m && changes_parent m then move_below v from.parent from.name to.parent to.name birth else move_in v from.parent from.name to.parent to.name birth
        ]) not_same
        ∙ (ap (λ (o : Option Found). elim o as (λ _. Change) [
          | Some t ↦ replace_in v tx from.parent from.name to.parent to.name birth t.birth
          | None ↦ if moves_directory m && changes_parent m then move_below v from.parent from.name to.parent to.name birth else move_in v from.parent from.name to.parent to.name birth
        ]) target
        ∙ (ap (λ c. followed_by c (λ u. followed_by (lead_name u to.parent to.name birth) (λ w. lose_link_step w tx t.birth))) (name_goes_is tx v h from birth from_stands gives)
        ∙ (ap (λ c. joined less (followed_by c (λ w. lose_link_step w tx t.birth)))
        (lead_name_is tx v1 first.steady.in_use first.settled first.slotted to.parent m1.placed m1.stands m1.part m1.is to.name t.birth found1 sorted1 birth moved1.0 moved1.1 (entry v1 first.steady.in_use to_short moved1.0 moved1.1))
        ∙ ap (λ c. joined less (joined led c)) (at_node_is w2 t.birth y2.placed (λ p. if nat_le p.inode.links 1 then drop_node w2 tx t.birth else set_links w2 t.birth (λ links. links - 1)) y2.stands)))))

    when_kept : nat_le f.links 1 ≡ false → IsDone tx v (rename v tx path other) d.tree
    when_kept more =
        subst (λ c. IsDone tx v c d.tree)
        (sym (replace_is ∙ (ap (λ (b : Bool). joined less (joined led (if b then drop_node w2 tx t.birth else set_links w2 t.birth (λ links. links - 1)))) (ap (λ k. nat_le k 1) y2.links_are ∙ more)
        ∙ ap (λ c. joined less (joined led c)) (set_links_is tx w2 met2.steady.in_use t.birth y2.placed y2.stands (y2.placed.inode.links - 1) few2 (λ links. links - 1) refl))))
        (subst (λ tree. IsDone tx v (joined less (joined led kept)) tree) tree_all
        (call_ends tx v (joined less (joined led kept)) _ _
        (steps_then tx v less (joined led kept) _ _ _ _ first (steps_then tx v1 led kept _ _ _ _ met2 kept_step (λ zone i used. used) (λ y i. i) (inl same_led)) (λ zone i used. used) (λ y i. i) (inl same_first))
        (subst IsPlain (sym tree_all) plain_after)
        (subst (λ tree. AreLinked tree (links_at kept.volume.contents.nodes)) (ap (λ tree. put_file tree t.birth (with_links f (f.links - 1))) (sym tree_met))
        (links_met (put_file met_tree t.birth (with_links f (f.links - 1))) (links_at kept.volume.contents.nodes) kinds was
        (λ a far. ap (option_map (λ (p : Placed). p.inode.links)) (at_put_number_apart w2.contents.nodes t.birth _ a far))))
        (inl refl)))
      where
        tree_all : put_file (tree_of_now w2) t.birth (with_links f (f.links - 1)) ≡ d.tree
        tree_all = ap (λ tree. put_file tree t.birth (with_links f (f.links - 1))) tree_met
            ∙ (sym (ap (λ (b : Bool). if b then without_number met_tree t.birth else put_file met_tree t.birth (with_links f (f.links - 1))) more) ∙ final_met)

        kinds : (c : ℕ) → is_directory (at_number (put_file met_tree t.birth (with_links f (f.links - 1))) c) ≡ is_directory (at_number met_tree c)
        kinds c = at_put_cases (λ o. is_directory o ≡ is_directory (at_number met_tree c)) met_tree t.birth (nodes.File (with_links f (f.links - 1))) c
            (λ e. sym (ap (λ c. is_directory (at_number met_tree c)) e ∙ ap is_directory met_stands)) (λ far. refl)

        was : (a : ℕ) (e : Directory) → at_number (put_file met_tree t.birth (with_links f (f.links - 1))) a ≡ Some (nodes.Directory e) → at_number met_tree a ≡ Some (nodes.Directory e)
        was a e = at_put_cases (λ o. o ≡ Some (nodes.Directory e) → at_number met_tree a ≡ Some (nodes.Directory e)) met_tree t.birth (nodes.File (with_links f (f.links - 1))) a
            (λ q found. absurd (cc found)) (λ far found. found)

    when_gone : nat_le f.links 1 ≡ true → IsDone tx v (rename v tx path other) d.tree
    when_gone no_name_left =
        subst (λ c. IsDone tx v c d.tree)
        (sym (replace_is ∙ (ap (λ (b : Bool). joined less (joined led (if b then drop_node w2 tx t.birth else set_links w2 t.birth (λ links. links - 1)))) (ap (λ k. nat_le k 1) y2.links_are ∙ no_name_left)
        ∙ ap (λ c. joined less (joined led c)) (at_node_is w2 t.birth y2.placed (node_dropped w2 tx t.birth) y2.stands))))
        (subst (λ tree. IsDone tx v (joined less (joined led (gone last))) tree) tree_all
        (call_ends tx v (joined less (joined led (gone last))) _ _
        (steps_then tx v less (joined led (gone last)) _ _ _ _ first (steps_then tx v1 led (gone last) _ _ _ _ met2 (gone_step last) (λ zone i used. used) (λ y i. i) (inl same_led)) (λ zone i used. used) (λ y i. i) (inl same_first))
        (subst IsPlain (sym tree_all) plain_after)
        (subst (λ tree. AreLinked tree (links_at (gone last).volume.contents.nodes)) (ap (λ tree. without_number tree t.birth) (sym tree_met))
        (links_met (without_number met_tree t.birth) (links_at (gone last).volume.contents.nodes) kinds was
        (λ a far. ap (option_map (λ (p : Placed). p.inode.links)) (at_without_apart w2.contents.nodes t.birth a met2.steady.in_use.volume.0.in_order far))))
        (inr (dropped_frees tx w2 met2.steady.in_use t.birth y2.placed y2.stands (block_zones w2.contents y2.placed y2.placed.part ++ all_numbers w2.contents y2.placed) (metadata_gone w2.contents y2.placed y2.placed.part) (pages_gone t.birth y2.placed.part)
        (lists_of_file w2 met2.steady.in_use.volume t.birth y2.placed y2.stands y2.zones y2.is) (count_of_file w2 met2.steady.in_use.volume t.birth y2.placed y2.stands y2.zones y2.is) (no_name last)))))
      where
        last : f.links ≤ 1
        last = leb-true f.links 1 no_name_left

        tree_all : without_number (tree_of_now w2) t.birth ≡ d.tree
        tree_all = ap (λ tree. without_number tree t.birth) tree_met
            ∙ (sym (ap (λ (b : Bool). if b then without_number met_tree t.birth else put_file met_tree t.birth (with_links f (f.links - 1))) no_name_left) ∙ final_met)

        kinds : (c : ℕ) → is_directory (at_number (without_number met_tree t.birth) c) ≡ is_directory (at_number met_tree c)
        kinds c = at_without_cases (λ o. is_directory o ≡ is_directory (at_number met_tree c)) met_tree t.birth c order_met
            (λ e. sym (ap (λ c. is_directory (at_number met_tree c)) e ∙ ap is_directory met_stands)) (λ far. refl)

        was : (a : ℕ) (e : Directory) → at_number (without_number met_tree t.birth) a ≡ Some (nodes.Directory e) → at_number met_tree a ≡ Some (nodes.Directory e)
        was a e = at_without_cases (λ o. o ≡ Some (nodes.Directory e) → at_number met_tree a ≡ Some (nodes.Directory e)) met_tree t.birth a order_met
            (λ q found. absurd (none-some (nodes.Directory e) found)) (λ far found. found)

    replaced_done : IsDone tx v (rename v tx path other) d.tree
    replaced_done = elim (cases_Bool (nat_le f.links 1)) [ inl t ↦ when_gone t | inr f ↦ when_kept f ]

  -- ---- what takes the name of a file is a file

  pub file_moves : (t : Found) (f : File) → m.target ≡ Some t → t.node ≡ nodes.File f → (g : File) × (r.found.node ≡ nodes.File g)
  file_moves t f target is = of (what (tree_of_now v) plain path other d r)
    where
      of : What (tree_of_now v) plain path other d r → (g : File) × (r.found.node ≡ nodes.File g)
      of (a_fil g file) = (g, file)
      of (a_dir e dir up) = absurd (true≢false
          (sym (ap (λ (o : Option Found). elim o as (λ _. Bool) [ None ↦ false | Some t ↦ is_file (Some t.node) ] && is_directory (Some r.found.node)) target
          ∙ (ap (λ x. is_file (Some x) && is_directory (Some r.found.node)) is ∙ ap (λ x. is_directory (Some x)) dir)) ∙ r.no_file))

  -- ---- both names are of one node

  stays_done : stays m ≡ true → IsDone tx v (rename v tx path other) d.tree
  stays_done e = subst (λ c. IsDone tx v c d.tree)
      (sym (rename_by ∙ ap (λ (b : Bool). if b then unchanged v else elim m.target as (λ _. Change) [
        | Some t ↦ replace_in v tx from.parent from.name to.parent to.name birth t.birth
        | None ↦ if moves_directory m && changes_parent m then move_below v from.parent from.name to.parent to.name birth else move_in v from.parent from.name to.parent to.name birth
      ]) e))
      (record {
        steady = unchanged_steady tx v h.in_use;
        tree_is = sym (r.tree_is ∙ ap (λ (b : Bool). if b then tree_of_now v else tree_moved (tree_of_now v) m) e);
        plain = h;
        waiting = omega arith;
        one_way = inl refl;
      })

  -- ---- all of them

  -- A node has another name.
  pub rename_done : IsDone tx v (rename v tx path other) d.tree
  rename_done = elim (cases_Bool (stays m)) [
    | inl e ↦ stays_done e
    | inr not_same ↦ by not_same (met (tree_of_now v) plain path other d r)
  ]
    where
      free : stays m ≡ false → m.target ≡ None → at_name to.directory.names to.name ≡ None → What (tree_of_now v) plain path other d r → IsDone tx v (rename v tx path other) d.tree
      free not_same none unnamed (a_fil f is) = moved_done not_same none unnamed (ap (λ x. is_directory (Some x) && changes_parent m) is)
      free not_same none unnamed (a_dir e is up) = elim (cases_eq to.parent from.parent) [
        | inl inside ↦ moved_done not_same none unnamed (ap (λ x. is_directory (Some x) && not (to.parent == from.parent)) is ∙ ap not (eq-eqb to.parent from.parent inside))
        | inr away ↦ below_done not_same none unnamed e is away
      ]

      by : stays m ≡ false → Met (tree_of_now v) plain path other d r → IsDone tx v (rename v tx path other) d.tree
      by not_same (itself e) = stays_done e
      by not_same (none_met none unnamed) = free not_same none unnamed (what (tree_of_now v) plain path other d r)
      by not_same (file_met t f target is led_to apart) = (let w = file_moves t f target is in replaced_done not_same t f target is led_to apart w.0 w.1)
