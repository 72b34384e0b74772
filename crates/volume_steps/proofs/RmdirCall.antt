-- The call that removes a directory without names.
use Rattle.std.specs.Prelude.{◌≡◌, ◌≢◌, ◌≤◌, ◌-◌, ◌+◌, ℕ, ◌==◌, not, Bool, true, false, List, [], ◌∷◌, ◌++◌, length, is_some, Option, Some, option_map, Ok, refl}
use Rattle.std.proofs.Common.{sym, ap, subst, ◌∙◌, inl, inr, arith}
use Rattle.std.proofs.lemmas.Bool.{cases_eq, eqb-true, false≢true}
use Rattle.std.proofs.lemmas.Option.{none-some, same_Some}
use Rattle.tree_model.specs.declared.call.Call.TheVariants as calls
use Rattle.tree_model.specs.declared.call.Reply.TheVariants as replies
use Rattle.tree_model.specs.declared.node.Node.{Node}
use Rattle.tree_model.specs.declared.node.Node.TheVariants as nodes
use Rattle.tree_model.specs.declared.node.Directory.{Directory}
use Rattle.tree_model.specs.Maps.{at_number, at_name, without_number}
use Rattle.tree_model.specs.laws.MapOrder.{InOrder, at_put_cases, at_without_cases, at_without_apart, at_name_without_found}
use Rattle.tree_model.specs.laws.MapsLaws.{at_put_number, at_put_number_apart}
use Rattle.tree_model.specs.Plain.{IsPlain, AreBornBefore}
use Rattle.tree_model.specs.Trees.{is_directory, directory_links}
use Rattle.tree_model.specs.Rooted.{HasEntry, IsLedTo}
use Rattle.tree_model.specs.Rooted.IsLedTo.{at_root, by_name}
use Rattle.tree_model.specs.Calls.{Tree, Done, Place, Found, row, outcome, names_in, parent_of, walk, a_directory, and_then, refuse_if, leaves, take_name, without_name}
use Rattle.tree_model.proofs.Rows.{ok_ok, then_ok, refuse_ok, directory_ok, IsFound, walk_ok, IsPlace, parent_ok, place_names}
use Rattle.volume_model.specs.declared.placed.Placed.{Placed}
use Rattle.volume_model.specs.declared.placed.Part.TheVariants as parts
use Rattle.volume_model.specs.declared.placed.DirectoryPart.{DirectoryPart}
use Rattle.volume_model.specs.Plain.{HasSlotZones}
use Rattle.volume_model.specs.Trees.{directory_from, node_from}
use Rattle.volume_steps.specs.Now.{VolumeNow, Change, tree_of_now, room_of, followed_by}
use Rattle.volume_steps.specs.Steps.{take_name as take_name_step, set_links, with_links, drop_node, node_dropped, all_numbers, block_zones, metadata_gone, pages_gone}
use Rattle.volume_steps.specs.Calls.{rmdir, at_path}
use Rattle.volume_steps.specs.Plain.{IsPlainNow}
use Rattle.volume_steps.proofs.CallEnds.{IsDone, done_plain, call_ends}
use Rattle.volume_steps.proofs.CallPaths.{done_row, at_place_is, at_path_is, DirectoryAt, directory_at}
use Rattle.tree_model.proofs.NamedNodes.{links_same}
use Rattle.volume_steps.proofs.DirectoryLinks.{AreLinked, linked_before, links_take_name, leads_in, weigh_directory}
use Rattle.volume_steps.proofs.Drops.{dropped_change, dropped_frees, drops}
use Rattle.volume_steps.proofs.GoneDirectories.{lists_of_directory, count_of_directory}
use Rattle.volume_steps.proofs.NameGoes.{name_goes, name_goes_is, name_goes_step, name_goes_numbers, kinds_stay, order_stays}
use Rattle.volume_steps.proofs.PlainNow.{tree_is_plain}
use Rattle.volume_steps.proofs.QuietSteps.{at_node_is, linked, linked_steady, linked_directory, linked_settled, linked_slotted, set_links_is, linked_numbers}
use Rattle.volume_steps.proofs.StepsTo.{StepsTo, joined, steps_then, links_at}
use Rattle.volume_steps.proofs.TreeSteps.{tree_at}
use Rattle.volume_steps.proofs.Marked.{SameNumbers}

-- ---- the row

pub record Rmdirs (v : VolumeNow) (path : List ℕ) (d : Done) : Type 0 where
  pub names : List (List ℕ)
  pub place : Place
  pub found : Found
  pub directory : Directory
  pub named : names_in path ≡ Ok names
  pub parent : parent_of replies.Invalid (tree_of_now v) names ≡ Ok place
  pub walked : walk (tree_of_now v) names ≡ Ok found
  pub is_directory : found.node ≡ nodes.Directory directory
  pub empty : not (length directory.names == 0) ≡ false
  pub tree_is : d.tree ≡ without_number (take_name (tree_of_now v) place) found.birth

pub rmdirs : (v : VolumeNow) (n : ℕ) (path : List ℕ) (d : Done) → row (tree_of_now v) n (calls.Rmdir path) ≡ Ok d → Rmdirs v path d
unfolding row
rmdirs v n path d h =
    let last = λ (place : Place) (found : Found). leaves (without_number (take_name (tree_of_now v) place) found.birth) in
    let empty = λ (place : Place) (found : Found) (e : Directory). refuse_if (not (length e.names == 0)) replies.NotEmpty (last place found) in
    let by_found = λ (place : Place) (found : Found). and_then (a_directory found.node) (empty place found) in
    let by_place = λ (names : List (List ℕ)) (place : Place). and_then (walk (tree_of_now v) names) (by_found place) in
    let one = then_ok (names_in path) (λ names. and_then (parent_of replies.Invalid (tree_of_now v) names) (by_place names)) d h in
    let two = then_ok (parent_of replies.Invalid (tree_of_now v) one.0) (by_place one.0) d one.2 in
    let three = then_ok (walk (tree_of_now v) one.0) (by_found two.0) d two.2 in
    let four = then_ok (a_directory three.0.node) (empty two.0 three.0) d three.2 in
    let five = refuse_ok (not (length four.0.names == 0)) replies.NotEmpty (last two.0 three.0) d four.2 in
    record {
      names = one.0;
      place = two.0;
      found = three.0;
      directory = four.0;
      named = one.1;
      parent = two.1;
      walked = three.1;
      is_directory = directory_ok three.0.node four.0 four.1;
      empty = five.0;
      tree_is = sym (ap (λ (d : Done). d.tree) (ok_ok _ d five.1));
    }

no_names : (d : Directory) → not (length d.names == 0) ≡ false → d.names ≡ []
no_names d e = by d.names e
  where
    sure : (b : Bool) → not b ≡ false → b ≡ true
    sure true e = refl
    sure false e = sym e

    by : (names : List (List ℕ × ℕ)) → not (length names == 0) ≡ false → names ≡ []
    by [] e = refl
    by (name ∷ names) e = absurd (let none = eqb-true (length (name ∷ names)) 0 (sure _ e) in omega arith)

directory_same : (d e : Directory) → ◌≡◌ {A = Option Node} (Some (nodes.Directory d)) (Some (nodes.Directory e)) → d ≡ e
directory_same d e same = cc

module _ (tx : ℕ) (v : VolumeNow) (h : IsPlainNow v) (n : ℕ) (before : AreBornBefore n (tree_of_now v)) (path : List ℕ) (d : Done)
    (done : outcome (room_of v.geometry) (tree_of_now v) n (calls.Rmdir path) ≡ Ok d) where
  pub said : Rmdirs v path d
  said = rmdirs v n path d (done_row (room_of v.geometry) (tree_of_now v) n (calls.Rmdir path) d done).0

  abbrev place : Place
  place = said.place

  abbrev birth : ℕ
  birth = said.found.birth

  pub is_place : IsPlace (tree_of_now v) said.names place
  is_place = parent_ok replies.Invalid (tree_of_now v) said.names place said.parent

  is_found : IsFound (tree_of_now v) said.names said.found
  is_found = walk_ok (tree_of_now v) said.names said.found said.walked

  plain : IsPlain (tree_of_now v)
  plain = tree_is_plain v h

  pub stands : at_number (tree_of_now v) birth ≡ Some (nodes.Directory said.directory)
  stands = is_found.stands ∙ ap Some said.is_directory

  pub y : DirectoryAt v birth said.directory
  y = directory_at v birth said.directory stands

  pub gives : at_name place.directory.names place.name ≡ Some birth
  gives = place_names (tree_of_now v) said.names place said.found is_place is_found

  parent_gives : HasEntry (tree_of_now v) place.parent place.name birth
  parent_gives = record { directory = place.directory; stands = is_place.stands; named = gives }

  -- it has no names, and its parent has one
  empty : said.directory.names ≡ []
  empty = no_names said.directory said.empty

  pub apart : birth ≢ place.parent
  apart e =
      let same : said.directory ≡ place.directory = directory_same said.directory place.directory (sym stands ∙ (ap (at_number (tree_of_now v)) e ∙ is_place.stands)) in
      none-some birth (sym (ap (λ names. at_name names place.name) empty) ∙ (ap (λ (d : Directory). at_name d.names place.name) same ∙ gives))

  -- ---- the name goes

  abbrev less : Change
  less = name_goes tx v h place birth is_place.stands gives

  abbrev v1 : VolumeNow
  v1 = less.volume

  abbrev tree1 : Tree
  tree1 = take_name (tree_of_now v) place

  first : StepsTo tx v less tree1 (links_at v.contents.nodes)
  first = name_goes_step tx v h place birth is_place.stands gives

  -- ---- the parent has one link less

  x1 : DirectoryAt v1 place.parent (without_name place.directory place.name)
  x1 = directory_at v1 place.parent (without_name place.directory place.name)
      (ap (λ tree. at_number tree place.parent) first.tree_is ∙ at_put_number (tree_of_now v) place.parent (nodes.Directory (without_name place.directory place.name)))

  few : x1.placed.inode.links - 1 ≤ 250
  few = let most = first.settled.few_links place.parent x1.placed x1.stands in omega arith

  abbrev unlinked : Change
  unlinked = linked tx v1 first.steady.in_use place.parent x1.placed x1.stands (x1.placed.inode.links - 1) few

  abbrev v2 : VolumeNow
  v2 = unlinked.volume

  second : StepsTo tx v1 unlinked (tree_of_now v1) (links_at v2.contents.nodes)
  second = record {
    steady = linked_steady tx v1 first.steady.in_use place.parent x1.placed x1.stands (x1.placed.inode.links - 1) few;
    tree_is = linked_directory tx v1 first.steady.in_use place.parent x1.placed x1.stands (x1.placed.inode.links - 1) few x1.part x1.is;
    settled = linked_settled tx v1 first.steady.in_use place.parent x1.placed x1.stands (x1.placed.inode.links - 1) few first.settled;
    slotted = linked_slotted tx v1 first.steady.in_use place.parent x1.placed x1.stands (x1.placed.inode.links - 1) few first.slotted;
    links_are = λ a. refl;
    waiting = omega arith;
  }

  -- ---- the directory goes

  tree2 : tree_of_now v2 ≡ tree1
  tree2 = second.tree_is ∙ first.tree_is

  at2 : at_number v2.contents.nodes birth ≡ Some y.placed
  at2 = at_put_number_apart v1.contents.nodes place.parent _ birth apart ∙ (at_put_number_apart v.contents.nodes place.parent _ birth apart ∙ y.stands)

  directory_in : (a : ℕ) (q : Placed) (e : DirectoryPart) → at_number v2.contents.nodes a ≡ Some q → q.part ≡ parts.Directory e → at_number tree1 a ≡ Some (nodes.Directory (directory_from e))
  directory_in a q e at part =
      ap (λ tree. at_number tree a) (sym tree2)
      ∙ (tree_at v2.contents.blocks v2.contents.nodes a q at ∙ ap (λ part. Some (node_from v2.contents.blocks q.inode part)) part)

  -- no name is left
  name_gone : (a : ℕ) (e : Directory) (name : List ℕ) → at_number tree1 a ≡ Some (nodes.Directory e) → at_name e.names name ≢ Some birth
  name_gone a e name = at_put_cases (λ o. o ≡ Some (nodes.Directory e) → at_name e.names name ≢ Some birth) (tree_of_now v) place.parent (nodes.Directory (without_name place.directory place.name)) a
      (λ q same found.
      let left = at_name_without_found place.directory.names place.name name birth (plain.rooted.names_in_order place.parent place.directory is_place.stands)
      (ap (λ (e : Directory). at_name e.names name) (directory_same (without_name place.directory place.name) e same) ∙ found) in
      left.0 (plain.rooted.one_name place.parent place.parent place.name name birth said.directory parent_gives (record { directory = place.directory; stands = is_place.stands; named = left.1 }) stands).1)
      (λ far at found. far (plain.rooted.one_name a place.parent name place.name birth said.directory (record { directory = e; stands = at; named = found }) parent_gives stands).0)

  unnamed : (a : ℕ) (q : Placed) (e : DirectoryPart) (name : List ℕ) → at_number v2.contents.nodes a ≡ Some q → q.part ≡ parts.Directory e → at_name e.names name ≢ Some birth
  unnamed a q e name at part = name_gone a (directory_from e) name (directory_in a q e at part)

  not_root : birth ≢ 0
  not_root = plain.rooted.no_root place.parent place.name birth parent_gives

  -- it is no other's parent
  not_parent : (a : ℕ) (e : Directory) → at_number (tree_of_now v) a ≡ Some (nodes.Directory e) → e.parent ≢ birth
  not_parent a e found = by a (plain.rooted.led_to a (nodes.Directory e) found) found
    where
      by : (a : ℕ) → IsLedTo (tree_of_now v) a → at_number (tree_of_now v) a ≡ Some (nodes.Directory e) → e.parent ≢ birth
      by _ at_root at same = not_root (sym same ∙ plain.root_parent e at)
      by _ (by_name {parent} {birth = child} {name} led g) at same =
          let here : parent ≡ birth = sym (plain.parents parent name child e g at) ∙ same in
          let one : g.directory ≡ said.directory = directory_same g.directory said.directory (sym g.stands ∙ (ap (at_number (tree_of_now v)) here ∙ stands)) in
          none-some child (sym (ap (λ names. at_name names name) empty) ∙ (ap (λ (d : Directory). at_name d.names name) (sym one) ∙ g.named))

  no_child : (a : ℕ) (r : Placed) (e : DirectoryPart) → a ≢ birth → at_number v2.contents.nodes a ≡ Some r → r.part ≡ parts.Directory e → e.parent ≢ birth
  no_child a r e far at part = by a (directory_from e) (directory_in a r e at part)
    where
      by : (a : ℕ) (e : Directory) → at_number tree1 a ≡ Some (nodes.Directory e) → e.parent ≢ birth
      by a e = at_put_cases (λ o. o ≡ Some (nodes.Directory e) → e.parent ≢ birth) (tree_of_now v) place.parent (nodes.Directory (without_name place.directory place.name)) a
          (λ q same. subst (λ (e : Directory). e.parent ≢ birth) (directory_same (without_name place.directory place.name) e same) (not_parent place.parent place.directory is_place.stands))
          (λ away found. not_parent a e found)

  slot_zones : HasSlotZones v2.geometry v2.contents.blocks y.placed.inode (length y.part.slots)
  slot_zones = second.slotted birth y.placed y.part at2 y.is (λ z. z)

  abbrev gone : Change
  gone = dropped_change tx v2 second.steady.in_use birth y.placed at2 (block_zones v2.contents y.placed y.placed.part ++ all_numbers v2.contents y.placed) (metadata_gone v2.contents y.placed y.placed.part) (pages_gone birth y.placed.part)
      (lists_of_directory v2 second.steady.in_use.volume birth y.placed at2 y.part y.is slot_zones) (count_of_directory v2 second.steady.in_use.volume birth y.placed at2 y.part y.is slot_zones) unnamed

  third : StepsTo tx v2 gone (without_number (tree_of_now v2) birth) (links_at gone.volume.contents.nodes)
  third = drops tx v2 second.steady.in_use birth y.placed at2 (block_zones v2.contents y.placed y.placed.part ++ all_numbers v2.contents y.placed) (metadata_gone v2.contents y.placed y.placed.part) (pages_gone birth y.placed.part)
      (lists_of_directory v2 second.steady.in_use.volume birth y.placed at2 y.part y.is slot_zones) (count_of_directory v2 second.steady.in_use.volume birth y.placed at2 y.part y.is slot_zones) unnamed second.settled second.slotted no_child

  tree_all : without_number (tree_of_now v2) birth ≡ d.tree
  tree_all = ap (λ tree. without_number tree birth) tree2 ∙ sym said.tree_is

  same_first : SameNumbers v.contents.nodes v1.contents.nodes
  same_first = name_goes_numbers tx v h place birth is_place.stands gives

  same_second : SameNumbers v1.contents.nodes v2.contents.nodes
  same_second = linked_numbers tx v1 first.steady.in_use place.parent x1.placed x1.stands (x1.placed.inode.links - 1) few

  whole : StepsTo tx v (joined less (joined unlinked gone)) d.tree (links_at gone.volume.contents.nodes)
  whole = subst (λ tree. StepsTo tx v (joined less (joined unlinked gone)) tree (links_at gone.volume.contents.nodes)) tree_all
      (steps_then tx v less (joined unlinked gone) _ _ _ _ first (steps_then tx v1 unlinked gone _ _ _ _ second third (λ zone i used. used) (λ y i. i) (inl same_second)) (λ zone i used. used) (λ y i. i) (inl same_first))

  -- ---- links of directories

  order1 : InOrder tree1
  order1 = order_stays tx v h place birth is_place.stands gives

  abbrev tree3 : Tree
  tree3 = without_number tree1 birth

  plain_after : IsPlain d.tree
  plain_after = done_plain v n (calls.Rmdir path) d h before done

  kind3 : (b : ℕ) → is_some (at_number tree3 b) ≡ true → is_directory (at_number tree3 b) ≡ is_directory (at_number (tree_of_now v) b)
  kind3 b = at_without_cases (λ o. is_some o ≡ true → is_directory o ≡ is_directory (at_number (tree_of_now v) b)) tree1 birth b order1
      (λ e none. absurd (false≢true none)) (λ far some. kinds_stay tx v h place birth is_place.stands gives b)

  links_left : (a : ℕ) (e : Directory) → at_number tree3 a ≡ Some (nodes.Directory e) → directory_links tree3 e ≡ directory_links (tree_of_now v) e
  links_left a e at = links_same (tree_of_now v) tree3 e (λ f i. kind3 f.1 (leads_in tree3 (subst IsPlain said.tree_is plain_after).rooted a e at f i))

  links1 : x1.placed.inode.links ≡ directory_links (tree_of_now v) place.directory
  links1 = same_Some x1.placed.inode.links (directory_links (tree_of_now v) place.directory)
      (sym (ap (option_map (λ (p : Placed). p.inode.links)) x1.stands) ∙ (first.links_are place.parent ∙ linked_before v h.plain.directory_links_are place.parent place.directory is_place.stands))

  links_all : AreLinked tree3 (links_at gone.volume.contents.nodes)
  links_all a e found = at_without_cases (λ o. o ≡ Some (nodes.Directory e) → links_at gone.volume.contents.nodes a ≡ Some (directory_links tree3 e)) tree1 birth a order1
      (λ q none. absurd (none-some (nodes.Directory e) none))
      (λ away at1. ap (option_map (λ (p : Placed). p.inode.links)) (at_without_apart v2.contents.nodes birth a second.steady.in_use.volume.0.in_order away) ∙ (by at1 ∙ ap Some (sym (links_left a e found)))) found
    where
      by : at_number tree1 a ≡ Some (nodes.Directory e) → links_at v2.contents.nodes a ≡ Some (directory_links (tree_of_now v) e)
      by at1 = elim (cases_eq a place.parent) [
        | inl q ↦
            let same : without_name place.directory place.name ≡ e = directory_same (without_name place.directory place.name) e (sym (at_put_number (tree_of_now v) place.parent _) ∙ subst (λ a. at_number tree1 a ≡ Some (nodes.Directory e)) q at1) in
            let one = links_take_name (tree_of_now v) place.directory.parent place.directory.width place.directory.slots place.directory.names place.name birth gives in
            let two = weigh_directory (tree_of_now v) birth (ap is_directory stands) in
            ap (links_at v2.contents.nodes) q
            ∙ (ap (option_map (λ (p : Placed). p.inode.links)) (at_put_number v1.contents.nodes place.parent (record { number = x1.placed.number; inode = with_links x1.placed.inode (x1.placed.inode.links - 1); part = x1.placed.part }))
            ∙ (ap Some (sum_to _ _ _ _ links1 one two) ∙ ap (λ e. Some (directory_links (tree_of_now v) e)) same))
        | inr far ↦
            ap (option_map (λ (p : Placed). p.inode.links)) (at_put_number_apart v1.contents.nodes place.parent _ a far)
            ∙ (first.links_are a ∙ linked_before v h.plain.directory_links_are a e (sym (at_put_number_apart (tree_of_now v) place.parent _ a far) ∙ at1))
      ]
        where
          sum_to : (x y z k : ℕ) → x ≡ y → z + k ≡ y → k ≡ 1 → x - 1 ≡ z
          sum_to x y z k e f g = omega arith

  -- A directory without names is removed.
  pub rmdir_done : IsDone tx v (rmdir v tx path) d.tree
  rmdir_done = subst (λ c. IsDone tx v c d.tree)
      (sym (at_place_is v path said.names place replies.Invalid (λ place. at_path v path (λ birth. followed_by (take_name_step v place.parent place.name) (λ u. followed_by (set_links u place.parent (λ links. links - 1)) (λ w. drop_node w tx birth)))) said.named said.parent
      ∙ (at_path_is v path said.names said.found (λ birth. followed_by (take_name_step v place.parent place.name) (λ u. followed_by (set_links u place.parent (λ links. links - 1)) (λ w. drop_node w tx birth))) said.named said.walked
      ∙ (ap (λ c. followed_by c (λ u. followed_by (set_links u place.parent (λ links. links - 1)) (λ w. drop_node w tx birth))) (name_goes_is tx v h place birth is_place.stands gives)
      ∙ (ap (λ c. joined less (followed_by c (λ w. drop_node w tx birth))) (set_links_is tx v1 first.steady.in_use place.parent x1.placed x1.stands (x1.placed.inode.links - 1) few (λ links. links - 1) refl)
      ∙ ap (λ c. joined less (joined unlinked c)) (at_node_is v2 birth y.placed (node_dropped v2 tx birth) at2))))))
      (call_ends tx v (joined less (joined unlinked gone)) d.tree (links_at gone.volume.contents.nodes) whole plain_after (subst (λ tree. AreLinked tree (links_at gone.volume.contents.nodes)) (sym said.tree_is) links_all)
      (inr (dropped_frees tx v2 second.steady.in_use birth y.placed at2 (block_zones v2.contents y.placed y.placed.part ++ all_numbers v2.contents y.placed) (metadata_gone v2.contents y.placed y.placed.part) (pages_gone birth y.placed.part)
      (lists_of_directory v2 second.steady.in_use.volume birth y.placed at2 y.part y.is slot_zones) (count_of_directory v2 second.steady.in_use.volume birth y.placed at2 y.part y.is slot_zones) unnamed)))
