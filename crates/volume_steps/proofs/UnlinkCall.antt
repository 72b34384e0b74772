-- The call that takes a name from a file, which goes with its last one.
use Rattle.std.specs.Prelude.{◌≡◌, ◌≢◌, ◌≤◌, ◌-◌, ◌+◌, ℕ, nat_le, cond, Bool, true, false, if◌then◌else◌, List, ◌++◌, Option, Some, option_map, Ok, refl}
use Rattle.std.proofs.Common.{sym, ap, subst, ◌∙◌, inl, inr, arith}
use Rattle.std.proofs.lemmas.Bool.{cases_Bool, leb-true}
use Rattle.std.proofs.lemmas.Option.{none-some}
use Rattle.tree_model.specs.declared.call.Call.TheVariants as calls
use Rattle.tree_model.specs.declared.call.Reply.TheVariants as replies
use Rattle.tree_model.specs.declared.node.Node.{Node}
use Rattle.tree_model.specs.declared.node.Node.TheVariants as nodes
use Rattle.tree_model.specs.declared.node.File.{File}
use Rattle.tree_model.specs.declared.node.Directory.{Directory}
use Rattle.tree_model.specs.Maps.{at_number, at_name, without_number}
use Rattle.tree_model.specs.laws.MapOrder.{InOrder, at_put_cases, at_without_cases, at_without_apart}
use Rattle.tree_model.specs.laws.MapsLaws.{at_put_number_apart}
use Rattle.tree_model.specs.Plain.{IsPlain, AreBornBefore}
use Rattle.tree_model.specs.Trees.{is_directory, directory_links}
use Rattle.tree_model.specs.laws.Listing.{names_of}
use Rattle.tree_model.specs.Rooted.{IsLedTo}
use Rattle.tree_model.specs.Rooted.IsLedTo.{at_root, by_name}
use Rattle.tree_model.specs.Calls.{Tree, Done, Place, Found, row, outcome, names_in, parent_of, walk, a_file, and_then, leaves, take_name, lose_link, put_file, with_links, without_name}
use Rattle.tree_model.proofs.Rows.{ok_ok, then_ok, file_ok, IsFound, walk_ok, IsPlace, parent_ok, place_names}
use Rattle.tree_model.proofs.Plain.{edge_of, edge_counts, one_for, one_for_here}
use Rattle.tree_model.proofs.Edits.{take_counts}
use Rattle.volume_model.specs.declared.placed.Placed.{Placed}
use Rattle.volume_model.specs.declared.placed.Part.TheVariants as parts
use Rattle.volume_model.specs.declared.placed.DirectoryPart.{DirectoryPart}
use Rattle.volume_model.specs.Trees.{directory_from, node_from}
use Rattle.volume_steps.specs.Now.{VolumeNow, Change, tree_of_now, room_of, followed_by}
use Rattle.volume_steps.specs.Steps.{take_name as take_name_step, set_links, drop_node, node_dropped, all_numbers, block_zones, metadata_gone, pages_gone}
use Rattle.volume_steps.specs.Calls.{unlink, lose_link as lose_link_step, at_path}
use Rattle.volume_steps.specs.Plain.{IsPlainNow}
use Rattle.volume_steps.proofs.Drops.{dropped_change, dropped_frees, drops}
use Rattle.volume_steps.proofs.GoneFiles.{lists_of_file, count_of_file}
use Rattle.volume_steps.proofs.NameGoes.{name_goes, name_goes_is, name_goes_step, name_goes_numbers, kinds_stay, order_stays}
use Rattle.volume_steps.proofs.QuietSteps.{at_node_is, linked, linked_steady, linked_file, linked_settled, linked_slotted, set_links_is}
use Rattle.volume_steps.proofs.StepsTo.{StepsTo, joined, steps_then, links_at}
use Rattle.volume_steps.proofs.CallPaths.{done_row, at_place_is, at_path_is}
use Rattle.tree_model.proofs.NamedNodes.{links_same}
use Rattle.volume_steps.proofs.DirectoryLinks.{AreLinked, linked_before, links_take_name, weigh}
use Rattle.volume_steps.proofs.PlainNow.{tree_is_plain}
use Rattle.volume_steps.proofs.CallEnds.{IsDone, done_plain, call_ends}
use Rattle.volume_steps.proofs.LinkCall.{FileAt, file_found}
use Rattle.volume_steps.proofs.TreeSteps.{tree_at}
use Rattle.volume_steps.proofs.Marked.{SameNumbers}

-- the parent of each directory of a plain tree is a directory
pub parent_there : (tree : Tree) → IsPlain tree → (a : ℕ) (d : Directory) → at_number tree a ≡ Some (nodes.Directory d) → (e : Directory) × (at_number tree d.parent ≡ Some (nodes.Directory e))
parent_there tree plain a d found = by a (plain.rooted.led_to a (nodes.Directory d) found) found
  where
    by : (a : ℕ) → IsLedTo tree a → at_number tree a ≡ Some (nodes.Directory d) → (e : Directory) × (at_number tree d.parent ≡ Some (nodes.Directory e))
    by _ at_root at = (plain.rooted.root.0, ap (at_number tree) (plain.root_parent d at) ∙ plain.rooted.root.1)
    by _ (by_name {parent} {birth} {name} h g) at = (g.directory, ap (at_number tree) (plain.parents parent name birth d g at) ∙ g.stands)

-- ---- the row

pub record Unlinks (v : VolumeNow) (path : List ℕ) (d : Done) : Type 0 where
  pub names : List (List ℕ)
  pub place : Place
  pub found : Found
  pub file : File
  pub named : names_in path ≡ Ok names
  pub parent : parent_of replies.Invalid (tree_of_now v) names ≡ Ok place
  pub walked : walk (tree_of_now v) names ≡ Ok found
  pub is_file : found.node ≡ nodes.File file
  pub tree_is : d.tree ≡ lose_link (take_name (tree_of_now v) place) found.birth file

pub unlinks : (v : VolumeNow) (n : ℕ) (path : List ℕ) (d : Done) → row (tree_of_now v) n (calls.Unlink path) ≡ Ok d → Unlinks v path d
unfolding row
unlinks v n path d h =
    let last = λ (place : Place) (found : Found) (f : File). leaves (lose_link (take_name (tree_of_now v) place) found.birth f) in
    let by_found = λ (place : Place) (found : Found). and_then (a_file found.node) (last place found) in
    let by_place = λ (names : List (List ℕ)) (place : Place). and_then (walk (tree_of_now v) names) (by_found place) in
    let one = then_ok (names_in path) (λ names. and_then (parent_of replies.Invalid (tree_of_now v) names) (by_place names)) d h in
    let two = then_ok (parent_of replies.Invalid (tree_of_now v) one.0) (by_place one.0) d one.2 in
    let three = then_ok (walk (tree_of_now v) one.0) (by_found two.0) d two.2 in
    let four = then_ok (a_file three.0.node) (last two.0 three.0) d three.2 in
    record {
      names = one.0;
      place = two.0;
      found = three.0;
      file = four.0;
      named = one.1;
      parent = two.1;
      walked = three.1;
      is_file = file_ok three.0.node four.0 four.1;
      tree_is = sym (ap (λ (d : Done). d.tree) (ok_ok _ d four.2));
    }

module _ (tx : ℕ) (v : VolumeNow) (h : IsPlainNow v) (n : ℕ) (before : AreBornBefore n (tree_of_now v)) (path : List ℕ) (d : Done)
    (done : outcome (room_of v.geometry) (tree_of_now v) n (calls.Unlink path) ≡ Ok d) where
  pub said : Unlinks v path d
  said = unlinks v n path d (done_row (room_of v.geometry) (tree_of_now v) n (calls.Unlink path) d done).0

  abbrev place : Place
  place = said.place

  abbrev birth : ℕ
  birth = said.found.birth

  pub is_place : IsPlace (tree_of_now v) said.names place
  is_place = parent_ok replies.Invalid (tree_of_now v) said.names place said.parent

  is_found : IsFound (tree_of_now v) said.names said.found
  is_found = walk_ok (tree_of_now v) said.names said.found said.walked

  plain : IsPlain (tree_of_now v)
  plain = tree_is_plain v h

  file_stands : at_number (tree_of_now v) birth ≡ Some (nodes.File said.file)
  file_stands = is_found.stands ∙ ap Some said.is_file

  pub y : FileAt v birth said.file
  y = file_found v birth said.file file_stands

  pub apart : birth ≢ place.parent
  apart e = cc (sym is_place.stands ∙ (ap (at_number (tree_of_now v)) (sym e) ∙ file_stands))

  pub gives : at_name place.directory.names place.name ≡ Some birth
  gives = place_names (tree_of_now v) said.names place said.found is_place is_found

  abbrev less : Change
  less = name_goes tx v h place birth is_place.stands gives

  abbrev v1 : VolumeNow
  v1 = less.volume

  abbrev tree1 : Tree
  tree1 = take_name (tree_of_now v) place

  first : StepsTo tx v less tree1 (links_at v.contents.nodes)
  first = name_goes_step tx v h place birth is_place.stands gives

  at1 : at_number v1.contents.nodes birth ≡ Some y.placed
  at1 = at_put_number_apart v.contents.nodes place.parent _ birth apart ∙ y.stands

  stands1 : at_number (tree_of_now v1) birth ≡ Some (nodes.File said.file)
  stands1 = ap (λ tree. at_number tree birth) first.tree_is ∙ (at_put_number_apart (tree_of_now v) place.parent (nodes.Directory (without_name place.directory place.name)) birth apart ∙ file_stands)

  same_first : SameNumbers v.contents.nodes v1.contents.nodes
  same_first = name_goes_numbers tx v h place birth is_place.stands gives

  -- ---- it keeps another name

  few : y.placed.inode.links - 1 ≤ 250
  few = let most = h.plain.few_links birth y.placed y.stands in omega arith

  abbrev kept : Change
  kept = linked tx v1 first.steady.in_use birth y.placed at1 (y.placed.inode.links - 1) few

  kept_step : StepsTo tx v1 kept (put_file (tree_of_now v1) birth (with_links said.file (said.file.links - 1))) (links_at kept.volume.contents.nodes)
  kept_step = record {
    steady = linked_steady tx v1 first.steady.in_use birth y.placed at1 (y.placed.inode.links - 1) few;
    tree_is = linked_file tx v1 first.steady.in_use birth y.placed at1 (y.placed.inode.links - 1) few y.zones said.file y.is stands1
        ∙ ap (λ k. put_file (tree_of_now v1) birth (with_links said.file (k - 1))) y.links_are;
    settled = linked_settled tx v1 first.steady.in_use birth y.placed at1 (y.placed.inode.links - 1) few first.settled;
    slotted = linked_slotted tx v1 first.steady.in_use birth y.placed at1 (y.placed.inode.links - 1) few first.slotted;
    links_are = λ a. refl;
    waiting = omega arith;
  }

  -- ---- it goes

  module _ (last : said.file.links ≤ 1) where
    -- no name is left
    unnamed : (a : ℕ) (q : Placed) (e : DirectoryPart) (name : List ℕ) → at_number v1.contents.nodes a ≡ Some q → q.part ≡ parts.Directory e → at_name e.names name ≢ Some birth
    unnamed a q e name at part other =
        let edge : edge_of tree1 a name ≡ Some birth = ap (λ tree. edge_of tree a name) (sym first.tree_is)
        ∙ (ap (λ o. at_name (names_of o) name) (tree_at v1.contents.blocks v1.contents.nodes a q at ∙ ap (λ part. Some (node_from v1.contents.blocks q.inode part)) part) ∙ other) in
        let some = edge_counts tree1 a name birth edge in
        let counts = take_counts (tree_of_now v) place is_place.stands birth plain.rooted.in_order in
        let one : one_for birth (at_name place.directory.names place.name) ≡ 1 = ap (one_for birth) gives ∙ one_for_here birth in
        let links = plain.links birth said.file file_stands in
        omega arith

    abbrev gone : Change
    gone = dropped_change tx v1 first.steady.in_use birth y.placed at1 (block_zones v1.contents y.placed y.placed.part ++ all_numbers v1.contents y.placed) (metadata_gone v1.contents y.placed y.placed.part) (pages_gone birth y.placed.part)
        (lists_of_file v1 first.steady.in_use.volume birth y.placed at1 y.zones y.is) (count_of_file v1 first.steady.in_use.volume birth y.placed at1 y.zones y.is) unnamed

    no_child : (a : ℕ) (r : Placed) (e : DirectoryPart) → a ≢ birth → at_number v1.contents.nodes a ≡ Some r → r.part ≡ parts.Directory e → e.parent ≢ birth
    no_child a r e far at part same =
        let there = by_tree a (directory_from e) (ap (λ tree. at_number tree a) (sym first.tree_is) ∙ (tree_at v1.contents.blocks v1.contents.nodes a r at ∙ ap (λ part. Some (node_from v1.contents.blocks r.inode part)) part)) in
        cc (sym there.1 ∙ (ap (at_number (tree_of_now v)) same ∙ file_stands))
      where
        by_tree : (a : ℕ) (e : Directory) → at_number tree1 a ≡ Some (nodes.Directory e) → (f : Directory) × (at_number (tree_of_now v) e.parent ≡ Some (nodes.Directory f))
        by_tree a e = at_put_cases (λ o. o ≡ Some (nodes.Directory e) → (f : Directory) × (at_number (tree_of_now v) e.parent ≡ Some (nodes.Directory f))) (tree_of_now v) place.parent (nodes.Directory (without_name place.directory place.name)) a
            (λ q same. subst (λ (e : Directory). (f : Directory) × (at_number (tree_of_now v) e.parent ≡ Some (nodes.Directory f))) (directory_same _ e same) (parent_there (tree_of_now v) plain place.parent place.directory is_place.stands))
            (λ away found. parent_there (tree_of_now v) plain a e found)
          where
            directory_same : (d e : Directory) → ◌≡◌ {A = Option Node} (Some (nodes.Directory d)) (Some (nodes.Directory e)) → d ≡ e
            directory_same d e same = cc

    gone_step : StepsTo tx v1 gone (without_number (tree_of_now v1) birth) (links_at gone.volume.contents.nodes)
    gone_step = drops tx v1 first.steady.in_use birth y.placed at1 (block_zones v1.contents y.placed y.placed.part ++ all_numbers v1.contents y.placed) (metadata_gone v1.contents y.placed y.placed.part) (pages_gone birth y.placed.part)
        (lists_of_file v1 first.steady.in_use.volume birth y.placed at1 y.zones y.is) (count_of_file v1 first.steady.in_use.volume birth y.placed at1 y.zones y.is) unnamed first.settled first.slotted no_child

  -- ---- links of directories

  kind1 : (b : ℕ) → is_directory (at_number tree1 b) ≡ is_directory (at_number (tree_of_now v) b)
  kind1 = kinds_stay tx v h place birth is_place.stands gives

  links_all : (tree : Tree) (after : ℕ → Option ℕ) → ((b : ℕ) → is_directory (at_number tree b) ≡ is_directory (at_number tree1 b)) →
      ((a : ℕ) (e : Directory) → at_number tree a ≡ Some (nodes.Directory e) → (at_number tree1 a ≡ Some (nodes.Directory e)) × (after a ≡ links_at v.contents.nodes a)) → AreLinked tree after
  links_all tree after kinds was a e found =
      let told = was a e found in
      let same = λ (f : Directory). links_same (tree_of_now v) tree f (λ e i. kinds e.1 ∙ kind1 e.1) in
      told.1 ∙ at_put_cases (λ o. o ≡ Some (nodes.Directory e) → links_at v.contents.nodes a ≡ Some (directory_links tree e)) (tree_of_now v) place.parent (nodes.Directory (without_name place.directory place.name)) a
      (λ q is.
      let less_one = links_take_name tree place.directory.parent place.directory.width place.directory.slots place.directory.names place.name birth gives in
      let none : weigh tree birth ≡ 0 = ap (λ t. cond t 1 0) (kinds birth ∙ (kind1 birth ∙ ap is_directory file_stands)) in
      ap (links_at v.contents.nodes) q ∙ (linked_before v h.plain.directory_links_are place.parent place.directory is_place.stands
      ∙ ap Some (sum_to _ _ _ _ (same place.directory) less_one none ∙ ap (directory_links tree) (directory_same _ e is))))
      (λ far is. linked_before v h.plain.directory_links_are a e is ∙ ap Some (sym (same e))) told.0
    where
      directory_same : (d e : Directory) → ◌≡◌ {A = Option Node} (Some (nodes.Directory d)) (Some (nodes.Directory e)) → d ≡ e
      directory_same d e same = cc

      sum_to : (x y z k : ℕ) → y ≡ x → z + k ≡ y → k ≡ 0 → x ≡ z
      sum_to x y z k e f g = omega arith

  -- ---- both

  file1 : at_number tree1 birth ≡ Some (nodes.File said.file)
  file1 = at_put_number_apart (tree_of_now v) place.parent (nodes.Directory (without_name place.directory place.name)) birth apart ∙ file_stands

  order1 : InOrder tree1
  order1 = order_stays tx v h place birth is_place.stands gives

  plain_after : IsPlain d.tree
  plain_after = done_plain v n (calls.Unlink path) d h before done

  unlink_is : unlink v tx path ≡ joined less (if nat_le y.placed.inode.links 1 then drop_node v1 tx birth else set_links v1 birth (λ links. links - 1))
  unlink_is =
      at_place_is v path said.names place replies.Invalid (λ place. at_path v path (λ birth. followed_by (take_name_step v place.parent place.name) (λ w. lose_link_step w tx birth))) said.named said.parent
      ∙ (at_path_is v path said.names said.found (λ birth. followed_by (take_name_step v place.parent place.name) (λ w. lose_link_step w tx birth)) said.named said.walked
      ∙ (ap (λ c. followed_by c (λ w. lose_link_step w tx birth)) (name_goes_is tx v h place birth is_place.stands gives)
      ∙ ap (λ c. joined less c) (at_node_is v1 birth y.placed (λ p. if nat_le p.inode.links 1 then drop_node v1 tx birth else set_links v1 birth (λ links. links - 1)) at1)))

  when_kept : nat_le said.file.links 1 ≡ false → IsDone tx v (unlink v tx path) d.tree
  when_kept more =
      subst (λ c. IsDone tx v c d.tree)
      (sym (unlink_is ∙ (ap (λ (b : Bool). joined less (if b then drop_node v1 tx birth else set_links v1 birth (λ links. links - 1))) (ap (λ k. nat_le k 1) y.links_are ∙ more)
      ∙ ap (λ c. joined less c) (set_links_is tx v1 first.steady.in_use birth y.placed at1 (y.placed.inode.links - 1) few (λ links. links - 1) refl))))
      (subst (λ tree. IsDone tx v (joined less kept) tree) tree_all
      (call_ends tx v (joined less kept) _ _ (steps_then tx v less kept _ _ _ _ first kept_step (λ zone i used. used) (λ y i. i) (inl same_first)) (subst IsPlain (sym tree_all) plain_after)
      (subst (λ tree. AreLinked tree (links_at kept.volume.contents.nodes)) (ap (λ tree. put_file tree birth (with_links said.file (said.file.links - 1))) (sym first.tree_is))
      (links_all (put_file tree1 birth (with_links said.file (said.file.links - 1))) (links_at kept.volume.contents.nodes) kinds was))
      (inl refl)))
    where
      tree_all : put_file (tree_of_now v1) birth (with_links said.file (said.file.links - 1)) ≡ d.tree
      tree_all = ap (λ tree. put_file tree birth (with_links said.file (said.file.links - 1))) first.tree_is
          ∙ sym (said.tree_is ∙ ap (λ (b : Bool). if b then without_number tree1 birth else put_file tree1 birth (with_links said.file (said.file.links - 1))) more)

      kinds : (b : ℕ) → is_directory (at_number (put_file tree1 birth (with_links said.file (said.file.links - 1))) b) ≡ is_directory (at_number tree1 b)
      kinds b = at_put_cases (λ o. is_directory o ≡ is_directory (at_number tree1 b)) tree1 birth (nodes.File (with_links said.file (said.file.links - 1))) b
          (λ e. sym (ap (λ b. is_directory (at_number tree1 b)) e ∙ ap is_directory file1)) (λ far. refl)

      was : (a : ℕ) (e : Directory) → at_number (put_file tree1 birth (with_links said.file (said.file.links - 1))) a ≡ Some (nodes.Directory e) →
          (at_number tree1 a ≡ Some (nodes.Directory e)) × (links_at kept.volume.contents.nodes a ≡ links_at v.contents.nodes a)
      was a e = at_put_cases (λ o. o ≡ Some (nodes.Directory e) → (at_number tree1 a ≡ Some (nodes.Directory e)) × (links_at kept.volume.contents.nodes a ≡ links_at v.contents.nodes a)) tree1 birth (nodes.File (with_links said.file (said.file.links - 1))) a
          (λ q found. absurd (cc found))
          (λ far found. (found, ap (option_map (λ (p : Placed). p.inode.links)) (at_put_number_apart v1.contents.nodes birth _ a far) ∙ first.links_are a))

  when_gone : nat_le said.file.links 1 ≡ true → IsDone tx v (unlink v tx path) d.tree
  when_gone none =
      subst (λ c. IsDone tx v c d.tree)
      (sym (unlink_is ∙ (ap (λ (b : Bool). joined less (if b then drop_node v1 tx birth else set_links v1 birth (λ links. links - 1))) (ap (λ k. nat_le k 1) y.links_are ∙ none)
      ∙ ap (λ c. joined less c) (at_node_is v1 birth y.placed (node_dropped v1 tx birth) at1))))
      (subst (λ tree. IsDone tx v (joined less (gone last)) tree) tree_all
      (call_ends tx v (joined less (gone last)) _ _ (steps_then tx v less (gone last) _ _ _ _ first (gone_step last) (λ zone i used. used) (λ y i. i) (inl same_first)) (subst IsPlain (sym tree_all) plain_after)
      (subst (λ tree. AreLinked tree (links_at (gone last).volume.contents.nodes)) (ap (λ tree. without_number tree birth) (sym first.tree_is))
      (links_all (without_number tree1 birth) (links_at (gone last).volume.contents.nodes) kinds was))
      (inr (dropped_frees tx v1 first.steady.in_use birth y.placed at1 (block_zones v1.contents y.placed y.placed.part ++ all_numbers v1.contents y.placed) (metadata_gone v1.contents y.placed y.placed.part) (pages_gone birth y.placed.part)
      (lists_of_file v1 first.steady.in_use.volume birth y.placed at1 y.zones y.is) (count_of_file v1 first.steady.in_use.volume birth y.placed at1 y.zones y.is) (unnamed last)))))
    where
      last : said.file.links ≤ 1
      last = leb-true said.file.links 1 none

      tree_all : without_number (tree_of_now v1) birth ≡ d.tree
      tree_all = ap (λ tree. without_number tree birth) first.tree_is
          ∙ sym (said.tree_is ∙ ap (λ (b : Bool). if b then without_number tree1 birth else put_file tree1 birth (with_links said.file (said.file.links - 1))) none)

      kinds : (b : ℕ) → is_directory (at_number (without_number tree1 birth) b) ≡ is_directory (at_number tree1 b)
      kinds b = at_without_cases (λ o. is_directory o ≡ is_directory (at_number tree1 b)) tree1 birth b order1
          (λ e. sym (ap (λ b. is_directory (at_number tree1 b)) e ∙ ap is_directory file1)) (λ far. refl)

      was : (a : ℕ) (e : Directory) → at_number (without_number tree1 birth) a ≡ Some (nodes.Directory e) →
          (at_number tree1 a ≡ Some (nodes.Directory e)) × (links_at (gone last).volume.contents.nodes a ≡ links_at v.contents.nodes a)
      was a e = at_without_cases (λ o. o ≡ Some (nodes.Directory e) → (at_number tree1 a ≡ Some (nodes.Directory e)) × (links_at (gone last).volume.contents.nodes a ≡ links_at v.contents.nodes a)) tree1 birth a order1
          (λ q found. absurd (none-some (nodes.Directory e) found))
          (λ far found. (found, ap (option_map (λ (p : Placed). p.inode.links)) (at_without_apart v1.contents.nodes birth a first.steady.in_use.volume.0.in_order far) ∙ first.links_are a))

  -- A name is taken from a file.
  pub unlink_done : IsDone tx v (unlink v tx path) d.tree
  unlink_done = elim (cases_Bool (nat_le said.file.links 1)) [ inl t ↦ when_gone t | inr f ↦ when_kept f ]
