-- The call that gives a file one name more.
use Rattle.std.specs.Prelude.{◌≡◌, ◌≢◌, ◌≤◌, ◌-◌, ◌+◌, ◌==◌, ℕ, false, List, length, Option, Some, option_map, cond, Ok, refl}
use Rattle.std.proofs.Common.{sym, ap, subst, ◌∙◌, inl, inr, arith}
use Rattle.blk_base.specs.Members.{In}
use Rattle.std.proofs.lemmas.Bool.{cases_eq}
use Rattle.tree_model.specs.declared.call.Call.TheVariants as calls
use Rattle.tree_model.specs.declared.call.Reply.TheVariants as replies
use Rattle.tree_model.specs.declared.node.Node.{Node}
use Rattle.tree_model.specs.declared.node.Node.TheVariants as nodes
use Rattle.tree_model.specs.declared.node.File.{File}
use Rattle.tree_model.specs.declared.node.Directory.{Directory}
use Rattle.tree_model.specs.Maps.{at_number, put_number}
use Rattle.tree_model.specs.laws.MapOrder.{InOrder, in_order_put, at_put_cases}
use Rattle.tree_model.specs.laws.MapsLaws.{at_put_number, at_put_number_apart}
use Rattle.tree_model.specs.Plain.{IsPlain, AreBornBefore}
use Rattle.tree_model.specs.Trees.{is_directory, directory_links}
use Rattle.tree_model.specs.Calls.{Tree, Done, Place, Found, row, outcome, names_in, parent_of, walk, a_file, and_then, refuse_if, is_named, is_full, leaves, give_name, put_file, with_links, directory_zones, used_zones, slots_with, with_name, most_links}
use Rattle.tree_model.proofs.Rows.{ok_ok, then_ok, refuse_ok, file_ok, walk_ok}
use Rattle.volume_ops.specs.declared.found.Mapped.{Mapped}
use Rattle.volume_model.specs.declared.placed.Placed.{Placed}
use Rattle.volume_model.specs.declared.placed.Part.{Part}
use Rattle.volume_model.specs.declared.placed.Part.TheVariants as parts
use Rattle.volume_model.specs.Trees.{directory_from, node_from, node_now}
use Rattle.volume_steps.specs.Now.{VolumeNow, Change, tree_of_now, room_of, followed_by}
use Rattle.volume_steps.specs.Steps.{add_name, set_links, with_links as inode_with_links}
use Rattle.volume_steps.specs.Calls.{link, at_place}
use Rattle.volume_steps.specs.Plain.{IsPlainNow}
use Rattle.volume_steps.proofs.Taking.{frees}
use Rattle.volume_steps.proofs.AddNames.{name_comes, name_frees}
use Rattle.volume_steps.proofs.QuietSteps.{linked, linked_steady, linked_file, linked_settled, linked_slotted, set_links_is, linked_numbers}
use Rattle.volume_steps.proofs.StepsTo.{StepsTo, joined, steps_then, links_at}
use Rattle.volume_steps.proofs.CallPaths.{good_no_dot, entry_at, done_row, at_place_is, at_path_is}
use Rattle.tree_model.proofs.NamedNodes.{links_same}
use Rattle.volume_steps.proofs.DirectoryLinks.{AreLinked, linked_before, links_put_name, weigh}
use Rattle.volume_steps.proofs.PlainNow.{tree_is_plain, settled_before, slotted_before}
use Rattle.volume_steps.proofs.CallEnds.{IsDone, none_freed, done_plain, call_ends}
use Rattle.volume_steps.proofs.CreateCall.{NewPlace, new_place}
use Rattle.volume_steps.proofs.TreeSteps.{tree_in_order, tree_at, tree_back, used_put_more, used_put_same}

-- ---- a file of the tree is one of the volume

pub record FileAt (v : VolumeNow) (birth : ℕ) (f : File) : Type 0 where
  pub placed : Placed
  pub zones : List Mapped
  pub stands : at_number v.contents.nodes birth ≡ Some placed
  pub is : placed.part ≡ parts.File zones
  pub links_are : placed.inode.links ≡ f.links

pub file_found : (v : VolumeNow) (birth : ℕ) (f : File) → at_number (tree_of_now v) birth ≡ Some (nodes.File f) → FileAt v birth f
file_found v birth f found =
    let w = tree_back v.contents.blocks v.contents.nodes birth (nodes.File f) found in
    by w.0 w.0.part refl w.1 w.2
  where
    same_file : (e f : File) → nodes.File e ≡ nodes.File f → e ≡ f
    same_file e f same = cc

    by : (p : Placed) (part : Part) → p.part ≡ part → at_number v.contents.nodes birth ≡ Some p → node_now v.contents.blocks p ≡ nodes.File f → FileAt v birth f
    by p (parts.Directory d) is at e = absurd (cc (sym (ap (node_from v.contents.blocks p.inode) is) ∙ e))
    by p (parts.File zones) is at e = record {
      placed = p;
      zones = zones;
      stands = at;
      is = is;
      links_are = ap (λ (f : File). f.links) (same_file _ f (sym (ap (node_from v.contents.blocks p.inode) is) ∙ e));
    }

-- ---- the row

pub record Links (v : VolumeNow) (path other : List ℕ) (d : Done) : Type 0 where
  pub names : List (List ℕ)
  pub more : List (List ℕ)
  pub found : Found
  pub file : File
  pub place : Place
  pub named : names_in path ≡ Ok names
  pub also : names_in other ≡ Ok more
  pub walked : walk (tree_of_now v) names ≡ Ok found
  pub is_file : found.node ≡ nodes.File file
  pub parent : parent_of replies.Exists (tree_of_now v) more ≡ Ok place
  pub free : is_named place ≡ false
  pub few : (file.links == most_links) ≡ false
  pub left : is_full place.directory ≡ false
  pub tree_is : d.tree ≡ give_name (put_file (tree_of_now v) found.birth (with_links file (file.links + 1))) place found.birth

pub links : (v : VolumeNow) (n : ℕ) (path other : List ℕ) (d : Done) → row (tree_of_now v) n (calls.Link path other) ≡ Ok d → Links v path other d
unfolding row
links v n path other d h =
    let last = λ (found : Found) (f : File) (place : Place). leaves (give_name (put_file (tree_of_now v) found.birth (with_links f (f.links + 1))) place found.birth) in
    let full = λ (found : Found) (f : File) (place : Place). refuse_if (is_full place.directory) replies.TooBig (last found f place) in
    let linked = λ (found : Found) (f : File) (place : Place). refuse_if (f.links == most_links) replies.TooManyLinks (full found f place) in
    let named = λ (found : Found) (f : File) (place : Place). refuse_if (is_named place) replies.Exists (linked found f place) in
    let by_file = λ (more : List (List ℕ)) (found : Found) (f : File). and_then (parent_of replies.Exists (tree_of_now v) more) (named found f) in
    let by_found = λ (more : List (List ℕ)) (found : Found). and_then (a_file found.node) (by_file more found) in
    let by_more = λ (names more : List (List ℕ)). and_then (walk (tree_of_now v) names) (by_found more) in
    let one = then_ok (names_in path) (λ names. and_then (names_in other) (by_more names)) d h in
    let two = then_ok (names_in other) (by_more one.0) d one.2 in
    let three = then_ok (walk (tree_of_now v) one.0) (by_found two.0) d two.2 in
    let four = then_ok (a_file three.0.node) (by_file two.0 three.0) d three.2 in
    let five = then_ok (parent_of replies.Exists (tree_of_now v) two.0) (named three.0 four.0) d four.2 in
    let six = refuse_ok (is_named five.0) replies.Exists (linked three.0 four.0 five.0) d five.2 in
    let seven = refuse_ok (four.0.links == most_links) replies.TooManyLinks (full three.0 four.0 five.0) d six.1 in
    let eight = refuse_ok (is_full five.0.directory) replies.TooBig (last three.0 four.0 five.0) d seven.1 in
    record {
      names = one.0;
      more = two.0;
      found = three.0;
      file = four.0;
      place = five.0;
      named = one.1;
      also = two.1;
      walked = three.1;
      is_file = file_ok three.0.node four.0 four.1;
      parent = five.1;
      free = six.0;
      few = seven.0;
      left = eight.0;
      tree_is = sym (ap (λ (d : Done). d.tree) (ok_ok _ d eight.1));
    }

module _ (tx : ℕ) (v : VolumeNow) (h : IsPlainNow v) (n : ℕ) (before : AreBornBefore n (tree_of_now v)) (path other : List ℕ) (d : Done)
    (done : outcome (room_of v.geometry) (tree_of_now v) n (calls.Link path other) ≡ Ok d) (enough : used_zones d.tree - used_zones (tree_of_now v) ≤ frees v.zones) where
  pub said : Links v path other d
  said = links v n path other d (done_row (room_of v.geometry) (tree_of_now v) n (calls.Link path other) d done).0

  abbrev place : Place
  place = said.place

  abbrev birth : ℕ
  birth = said.found.birth

  pub x : NewPlace v other place
  x = new_place v other said.more place said.also said.parent said.free said.left

  plain : IsPlain (tree_of_now v)
  plain = tree_is_plain v h

  file_stands : at_number (tree_of_now v) birth ≡ Some (nodes.File said.file)
  file_stands = (walk_ok (tree_of_now v) said.names said.found said.walked).stands ∙ ap Some said.is_file

  pub y : FileAt v birth said.file
  y = file_found v birth said.file file_stands

  stands_in : at_number (tree_of_now v) place.parent ≡ Some (nodes.Directory (directory_from x.at.part))
  stands_in = tree_at v.contents.blocks v.contents.nodes place.parent x.at.placed x.at.stands ∙ ap (λ part. Some (node_from v.contents.blocks x.at.placed.inode part)) x.at.is

  apart : place.parent ≢ birth
  apart e = cc (sym stands_in ∙ (ap (at_number (tree_of_now v)) e ∙ file_stands))

  abbrev now : ℕ
  now = y.placed.inode.links + 1

  pub room_for_link : now ≤ 250
  room_for_link = by y.placed.inode.links said.file.links y.links_are (h.plain.few_links birth y.placed y.stands) said.few
    where
      by : (a c : ℕ) → a ≡ c → a ≤ 250 → (c == 250) ≡ false → a + 1 ≤ 250
      by a c e f k = grind arith

  abbrev made : Change
  made = linked tx v h.in_use birth y.placed y.stands now room_for_link

  abbrev v1 : VolumeNow
  v1 = made.volume

  abbrev tree1 : Tree
  tree1 = put_file (tree_of_now v) birth (with_links said.file (said.file.links + 1))

  first : StepsTo tx v made tree1 (links_at v1.contents.nodes)
  first = record {
    steady = linked_steady tx v h.in_use birth y.placed y.stands now room_for_link;
    tree_is = linked_file tx v h.in_use birth y.placed y.stands now room_for_link y.zones said.file y.is file_stands
        ∙ ap (λ k. put_file (tree_of_now v) birth (with_links said.file (k + 1))) y.links_are;
    settled = linked_settled tx v h.in_use birth y.placed y.stands now room_for_link (settled_before v h);
    slotted = linked_slotted tx v h.in_use birth y.placed y.stands now room_for_link (slotted_before v h);
    links_are = λ a. refl;
    waiting = omega arith;
  }

  abbrev child : Placed
  child = record { number = y.placed.number; inode = inode_with_links y.placed.inode now; part = y.placed.part }

  at1 : at_number v1.contents.nodes place.parent ≡ Some x.at.placed
  at1 = at_put_number_apart v.contents.nodes birth child place.parent apart ∙ x.at.stands

  child1 : at_number v1.contents.nodes birth ≡ Some child
  child1 = at_put_number v.contents.nodes birth child

  order : InOrder (tree_of_now v)
  order = tree_in_order v.contents.blocks v.contents.nodes h.in_use.volume.0.in_order

  stands1 : at_number tree1 place.parent ≡ Some (nodes.Directory (directory_from x.at.part))
  stands1 = at_put_number_apart (tree_of_now v) birth (nodes.File (with_links said.file (said.file.links + 1))) place.parent apart ∙ stands_in

  tree_same : put_number tree1 place.parent (nodes.Directory (with_name (directory_from x.at.part) place.name birth)) ≡ d.tree
  tree_same = ap (λ directory. put_number tree1 place.parent (nodes.Directory (with_name directory place.name birth))) x.at.same ∙ sym said.tree_is

  pub more : directory_zones x.at.part.width (slots_with (directory_from x.at.part) place.name) ≤ directory_zones x.at.part.width (length x.at.part.slots) + frees v.zones
  more = by (used_zones (tree_of_now v)) (used_zones tree1) (used_zones d.tree) (directory_zones x.at.part.width (length x.at.part.slots)) (directory_zones x.at.part.width (slots_with (directory_from x.at.part) place.name)) (frees v.zones)
      (used_put_same (tree_of_now v) birth (nodes.File said.file) (nodes.File (with_links said.file (said.file.links + 1))) order file_stands refl)
      (subst (λ tree. used_zones tree + directory_zones x.at.part.width (length x.at.part.slots) ≡ used_zones tree1 + directory_zones x.at.part.width (slots_with (directory_from x.at.part) place.name)) tree_same
      (used_put_more tree1 place.parent (nodes.Directory (directory_from x.at.part)) (nodes.Directory (with_name (directory_from x.at.part) place.name birth))
      (in_order_put (tree_of_now v) birth (nodes.File (with_links said.file (said.file.links + 1))) order) stands1))
      enough
    where
      by : (t u d old after free : ℕ) → u ≡ t → d + old ≡ u + after → d - t ≤ free → after ≤ old + free
      by t u d old after free e f g = omega arith

  abbrev named : Change
  named = add_name v1 place.parent place.name birth

  second : StepsTo tx v1 named (put_number (tree_of_now v1) place.parent (nodes.Directory (with_name (directory_from x.at.part) place.name birth))) (links_at v1.contents.nodes)
  second =
      let told = h.in_use.volume.0.each birth y.placed y.stands in
      name_comes tx v1 first.steady.in_use place.parent x.at.placed at1 x.at.part x.at.is place.name birth child child1 (λ e. apart (sym e)) x.free (good_no_dot place.name x.good)
      (entry_at v place.parent place.directory h.in_use x.at place.name child.number x.good x.short told.some (let within = told.within in let fit = h.in_use.sound.fits.inodes in omega arith))
      first.settled first.slotted x.left more

  names_free : (zone : ℕ) → In zone named.touched.freed → ⊥
  names_free =
      let told = h.in_use.volume.0.each birth y.placed y.stands in
      name_frees tx v1 first.steady.in_use place.parent x.at.placed at1 x.at.part x.at.is place.name birth child child1 (λ e. apart (sym e)) x.free (good_no_dot place.name x.good)
      (entry_at v place.parent place.directory h.in_use x.at place.name child.number x.good x.short told.some (let within = told.within in let fit = h.in_use.sound.fits.inodes in omega arith))
      first.settled first.slotted x.left more

  whole : StepsTo tx v (joined made named) d.tree (links_at v1.contents.nodes)
  whole = subst (λ tree. StepsTo tx v (joined made named) tree (links_at v1.contents.nodes))
      (ap (λ tree. put_number tree place.parent (nodes.Directory (with_name (directory_from x.at.part) place.name birth))) first.tree_is ∙ tree_same)
      (steps_then tx v made named _ _ _ _ first second (λ zone i used. used) (λ y i. i) (inl (linked_numbers tx v h.in_use birth y.placed y.stands now room_for_link)))

  -- no directory comes or goes
  kind_same : (b : ℕ) → is_directory (at_number d.tree b) ≡ is_directory (at_number (tree_of_now v) b)
  kind_same b = subst (λ tree. is_directory (at_number tree b) ≡ is_directory (at_number (tree_of_now v) b)) tree_same
      (at_put_cases (λ o. is_directory o ≡ is_directory (at_number (tree_of_now v) b)) tree1 place.parent _ b
      (λ e. sym (ap (λ b. is_directory (at_number (tree_of_now v) b)) e ∙ ap is_directory stands_in))
      (λ far. at_put_cases (λ o. is_directory o ≡ is_directory (at_number (tree_of_now v) b)) (tree_of_now v) birth _ b
      (λ e. sym (ap (λ b. is_directory (at_number (tree_of_now v) b)) e ∙ ap is_directory file_stands)) (λ away. refl)))

  links_kept : (a : ℕ) (e : Directory) → at_number (tree_of_now v) a ≡ Some (nodes.Directory e) → links_at v1.contents.nodes a ≡ links_at v.contents.nodes a
  links_kept a e found = ap (option_map (λ (p : Placed). p.inode.links)) (at_put_number_apart v.contents.nodes birth child a (λ same. cc (sym found ∙ (ap (at_number (tree_of_now v)) same ∙ file_stands))))

  links_all : AreLinked d.tree (links_at v1.contents.nodes)
  links_all a e found = elim (cases_eq a place.parent) [
    | inl q ↦
        let same = directory_same _ e (sym (at_put_number tree1 place.parent (nodes.Directory (with_name (directory_from x.at.part) place.name birth))) ∙ subst (λ a. at_number (put_number tree1 place.parent (nodes.Directory (with_name (directory_from x.at.part) place.name birth))) a ≡ Some (nodes.Directory e)) q (ap (λ tree. at_number tree a) tree_same ∙ found)) in
        let one = links_put_name d.tree x.at.part.parent x.at.part.width (length x.at.part.slots) (slots_with (directory_from x.at.part) place.name) x.at.part.names place.name birth (plain.rooted.names_in_order place.parent (directory_from x.at.part) stands_in) x.free in
        let two = links_same (tree_of_now v) d.tree (directory_from x.at.part) (λ e i. kind_same e.1) in
        let three : weigh d.tree birth ≡ 0 = ap (λ t. cond t 1 0) (kind_same birth ∙ ap is_directory file_stands) in
        ap (links_at v1.contents.nodes) q ∙ (links_kept place.parent (directory_from x.at.part) stands_in
        ∙ (linked_before v h.plain.directory_links_are place.parent (directory_from x.at.part) stands_in
        ∙ ap Some (sum_to _ _ _ _ two one three ∙ ap (directory_links d.tree) same)))
    | inr far ↦
        let once : at_number tree1 a ≡ Some (nodes.Directory e) = sym (at_put_number_apart tree1 place.parent (nodes.Directory (with_name (directory_from x.at.part) place.name birth)) a far) ∙ (ap (λ tree. at_number tree a) tree_same ∙ found) in
        let was : at_number (tree_of_now v) a ≡ Some (nodes.Directory e) = sym (at_put_number_apart (tree_of_now v) birth (nodes.File (with_links said.file (said.file.links + 1))) a (λ same.
        cc (sym (at_put_number (tree_of_now v) birth (nodes.File (with_links said.file (said.file.links + 1)))) ∙ subst (λ a. at_number tree1 a ≡ Some (nodes.Directory e)) same once))) ∙ once in
        links_kept a e was ∙ (linked_before v h.plain.directory_links_are a e was ∙ ap Some (sym (links_same (tree_of_now v) d.tree e (λ e i. kind_same e.1))))
  ]
    where
      directory_same : (d e : Directory) → ◌≡◌ {A = Option Node} (Some (nodes.Directory d)) (Some (nodes.Directory e)) → d ≡ e
      directory_same d e same = cc

      sum_to : (x y z k : ℕ) → y ≡ x → z ≡ y + k → k ≡ 0 → x ≡ z
      sum_to x y z k e f g = omega arith

  -- A file has one name more.
  pub link_done : IsDone tx v (link v path other) d.tree
  link_done = subst (λ c. IsDone tx v c d.tree)
      (sym (at_path_is v path said.names said.found (λ birth. at_place v other (λ place. followed_by (set_links v birth (λ links. links + 1)) (λ w. add_name w place.parent place.name birth))) said.named said.walked
      ∙ (at_place_is v other said.more place replies.Exists (λ place. followed_by (set_links v birth (λ links. links + 1)) (λ w. add_name w place.parent place.name birth)) said.also said.parent
      ∙ ap (λ c. followed_by c (λ w. add_name w place.parent place.name birth)) (set_links_is tx v h.in_use birth y.placed y.stands now room_for_link (λ links. links + 1) refl))))
      (call_ends tx v (joined made named) d.tree (links_at v1.contents.nodes) whole (done_plain v n (calls.Link path other) d h before done) links_all (inl (none_freed named.touched.freed names_free)))
