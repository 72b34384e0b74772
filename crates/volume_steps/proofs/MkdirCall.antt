-- The call that makes a directory.
use Rattle.std.specs.Prelude.{◌≡◌, ◌≢◌, ◌≤◌, ◌<◌, ◌-◌, ◌+◌, ◌==◌, ◌&&◌, ℕ, Bool, true, false, not, if◌then◌else◌, List, [], length, is_some, Some, None, option_map, Ok, refl}
use Rattle.std.proofs.Common.{sym, ap, subst, inl, inr, ⊎_elim, ◌∙◌, arith}
use Rattle.std.proofs.lemmas.Option.{none-some, same_Some}
use Rattle.tree_model.specs.declared.call.Call.TheVariants as calls
use Rattle.tree_model.specs.declared.call.Reply.TheVariants as replies
use Rattle.tree_model.specs.declared.node.Node.{Node}
use Rattle.tree_model.specs.declared.node.Node.TheVariants as nodes
use Rattle.tree_model.specs.declared.node.Directory.{Directory}
use Rattle.tree_model.specs.Maps.{at_number, at_name, put_number}
use Rattle.tree_model.specs.laws.MapsLaws.{at_put_number, at_put_number_apart}
use Rattle.tree_model.specs.laws.MapOrder.{InOrder, in_order_put}
use Rattle.tree_model.proofs.Outcomes.{slot_needs}
use Rattle.tree_model.specs.Plain.{IsPlain, AreBornBefore}
use Rattle.tree_model.specs.Trees.{directory_links}
use Rattle.tree_model.specs.Calls.{Tree, Done, Place, row, outcome, names_in, parent_of, and_then, refuse_if, is_named, is_full, makes, give_name, new_directory, directory_zones, used_zones, slots_with, with_name, most_links, needs_slot}
use Rattle.tree_model.proofs.Rows.{ok_ok, then_ok, refuse_ok}
use Rattle.volume_model.specs.declared.placed.Placed.{Placed}
use Rattle.blk_base.specs.Members.{In}
use Rattle.blk_base.specs.laws.Members.{In-append_cases}
use Rattle.volume_model.specs.Touched.{Page}
use Rattle.volume_model.specs.Trees.{directory_from, node_from}
use Rattle.volume_steps.specs.Now.{VolumeNow, Change, tree_of_now, room_of, followed_by}
use Rattle.volume_steps.specs.Steps.{make_directory, add_name, set_links, with_links}
use Rattle.volume_steps.specs.Calls.{mkdir}
use Rattle.volume_steps.specs.Plain.{IsPlainNow}
use Rattle.volume_steps.proofs.Taking.{frees, one_taken}
use Rattle.volume_steps.proofs.NewNumbers.{number_is_new}
use Rattle.volume_steps.proofs.NewDirectories.{q, directory_made, make_directory_is, directory_made_tree, directory_made_steady, directory_made_settled, directory_made_slotted}
use Rattle.volume_steps.proofs.AddNames.{name_comes, name_frees, name_numbers}
use Rattle.volume_steps.proofs.QuietSteps.{linked, linked_steady, linked_directory, linked_settled, linked_slotted, set_links_is, linked_numbers}
use Rattle.volume_steps.proofs.StepsTo.{StepsTo, joined, steps_then, links_at}
use Rattle.volume_steps.proofs.CallPaths.{at_width, good_no_dot, entry_at, done_row, at_place_is, DirectoryAt, directory_at}
use Rattle.volume_steps.proofs.DirectoryLinks.{AreLinked, linked_before, made_linked}
use Rattle.volume_steps.proofs.PlainNow.{tree_is_plain, settled_before, slotted_before}
use Rattle.volume_steps.proofs.CallEnds.{IsDone, none_freed, birth_is_new, birth_not_root, done_plain, call_ends}
use Rattle.volume_steps.proofs.CreateCall.{NewPlace, new_place}
use Rattle.volume_steps.proofs.TreeSteps.{new_zones, tree_length, tree_in_order, tree_none, tree_at, used_put_more, used_put_new}
use Rattle.volume_steps.proofs.Marked.{SameNumbers, numbers_both}

-- what the row says
pub record Mkdirs (v : VolumeNow) (n : ℕ) (path : List ℕ) (d : Done) : Type 0 where
  pub names : List (List ℕ)
  pub place : Place
  pub named : names_in path ≡ Ok names
  pub parent : parent_of replies.Exists (tree_of_now v) names ≡ Ok place
  pub free : is_named place ≡ false
  pub few : (directory_links (tree_of_now v) place.directory == most_links) ≡ false
  pub left : is_full place.directory ≡ false
  pub takes : d.takes_inode ≡ true
  pub tree_is : d.tree ≡ give_name (put_number (tree_of_now v) n (new_directory place.directory.width place.parent)) place n

pub mkdirs : (v : VolumeNow) (n : ℕ) (path : List ℕ) (d : Done) → row (tree_of_now v) n (calls.Mkdir path) ≡ Ok d → Mkdirs v n path d
unfolding row
mkdirs v n path d h =
    let last = λ (place : Place). makes (give_name (put_number (tree_of_now v) n (new_directory place.directory.width place.parent)) place n) in
    let full = λ (place : Place). refuse_if (is_full place.directory) replies.TooBig (last place) in
    let linked = λ (place : Place). refuse_if (directory_links (tree_of_now v) place.directory == most_links) replies.TooManyLinks (full place) in
    let named = λ (place : Place). refuse_if (is_named place) replies.Exists (linked place) in
    let one = then_ok (names_in path) (λ names. and_then (parent_of replies.Exists (tree_of_now v) names) named) d h in
    let two = then_ok (parent_of replies.Exists (tree_of_now v) one.0) named d one.2 in
    let three = refuse_ok (is_named two.0) replies.Exists (linked two.0) d two.2 in
    let four = refuse_ok (directory_links (tree_of_now v) two.0.directory == most_links) replies.TooManyLinks (full two.0) d three.1 in
    let five = refuse_ok (is_full two.0.directory) replies.TooBig (last two.0) d four.1 in
    let same = ok_ok _ d five.1 in
    record {
      names = one.0;
      place = two.0;
      named = one.1;
      parent = two.1;
      free = three.0;
      few = four.0;
      left = five.0;
      takes = sym (ap (λ (d : Done). d.takes_inode) same);
      tree_is = sym (ap (λ (d : Done). d.tree) same);
    }

-- a name never makes a directory smaller
pub slots_grow : (D : Directory) (name : List ℕ) → directory_zones D.width D.slots ≤ directory_zones D.width (slots_with D name)
slots_grow D name = by (not (is_some (at_name D.names name)) && needs_slot D)
  where
    more : (x y a b : ℕ) → y ≡ x + a + b → x ≤ y
    more x y a b e = omega arith

    same : (x : ℕ) → x ≤ x
    same x = omega arith

    by : (b : Bool) → directory_zones D.width D.slots ≤ directory_zones D.width (if b then D.slots + 1 else D.slots)
    by true = more (directory_zones D.width D.slots) _ _ _ (slot_needs D.width D.slots)
    by false = same (directory_zones D.width D.slots)

module _ (tx : ℕ) (v : VolumeNow) (h : IsPlainNow v) (n : ℕ) (before : AreBornBefore n (tree_of_now v)) (path : List ℕ) (d : Done)
    (done : outcome (room_of v.geometry) (tree_of_now v) n (calls.Mkdir path) ≡ Ok d) (enough : used_zones d.tree - used_zones (tree_of_now v) ≤ frees v.zones) where
  pub said : Mkdirs v n path d
  said = mkdirs v n path d (done_row (room_of v.geometry) (tree_of_now v) n (calls.Mkdir path) d done).0

  abbrev place : Place
  place = said.place

  pub x : NewPlace v path place
  x = new_place v path said.names place said.named said.parent said.free said.left

  plain : IsPlain (tree_of_now v)
  plain = tree_is_plain v h

  pub none : at_number v.contents.nodes n ≡ None
  none = birth_is_new v n before

  pub few : length v.contents.nodes < v.geometry.inodes
  few =
      let low = (done_row (room_of v.geometry) (tree_of_now v) n (calls.Mkdir path) d done).1 said.takes in
      let long : length (tree_of_now v) ≡ length v.contents.nodes = tree_length v.contents.blocks v.contents.nodes in
      omega arith

  stands_in : at_number (tree_of_now v) place.parent ≡ Some (nodes.Directory (directory_from x.at.part))
  stands_in = tree_at v.contents.blocks v.contents.nodes place.parent x.at.placed x.at.stands ∙ ap (λ part. Some (node_from v.contents.blocks x.at.placed.inode part)) x.at.is

  apart : place.parent ≢ n
  apart e = none-some x.at.placed (sym none ∙ (ap (at_number v.contents.nodes) (sym e) ∙ x.at.stands))

  order : InOrder (tree_of_now v)
  order = tree_in_order v.contents.blocks v.contents.nodes h.in_use.volume.0.in_order

  abbrev tree1 : Tree
  tree1 = put_number (tree_of_now v) n (new_directory v.geometry.width place.parent)

  used1 : used_zones tree1 ≡ used_zones (tree_of_now v) + 1
  used1 =
      let all = used_put_new (tree_of_now v) n (new_directory v.geometry.width place.parent) order (tree_none v.contents.blocks v.contents.nodes n none) in
      let one = new_zones v.geometry.width place.parent in
      omega arith

  stands1 : at_number tree1 place.parent ≡ Some (nodes.Directory (directory_from x.at.part))
  stands1 = at_put_number_apart (tree_of_now v) n (new_directory v.geometry.width place.parent) place.parent apart ∙ stands_in

  tree_same : put_number tree1 place.parent (nodes.Directory (with_name (directory_from x.at.part) place.name n)) ≡ d.tree
  tree_same = ap (λ directory. put_number tree1 place.parent (nodes.Directory (with_name directory place.name n))) x.at.same
      ∙ (ap (λ width. give_name (put_number (tree_of_now v) n (new_directory width place.parent)) place n) (sym (at_width v place.parent place.directory h.in_use x.at)) ∙ sym said.tree_is)

  used2 : used_zones d.tree + directory_zones x.at.part.width (length x.at.part.slots) ≡ used_zones tree1 + directory_zones x.at.part.width (slots_with (directory_from x.at.part) place.name)
  used2 = subst (λ tree. used_zones tree + directory_zones x.at.part.width (length x.at.part.slots) ≡ used_zones tree1 + directory_zones x.at.part.width (slots_with (directory_from x.at.part) place.name)) tree_same
      (used_put_more tree1 place.parent (nodes.Directory (directory_from x.at.part)) (nodes.Directory (with_name (directory_from x.at.part) place.name n)) (in_order_put (tree_of_now v) n (new_directory v.geometry.width place.parent) order) stands1)

  pub one_free : 1 ≤ frees v.zones
  one_free = by (used_zones (tree_of_now v)) (used_zones tree1) (used_zones d.tree) (directory_zones x.at.part.width (length x.at.part.slots)) (directory_zones x.at.part.width (slots_with (directory_from x.at.part) place.name)) (frees v.zones)
      used1 used2 (slots_grow (directory_from x.at.part) place.name) enough
    where
      by : (t u d old more free : ℕ) → u ≡ t + 1 → d + old ≡ u + more → old ≤ more → d - t ≤ free → 1 ≤ free
      by t u d old more free e f g k = omega arith

  abbrev made : Change
  made = directory_made tx v h.in_use n none few place.parent x.at.placed x.at.stands one_free

  abbrev v1 : VolumeNow
  v1 = made.volume

  abbrev child : Placed
  child = q tx v h.in_use n none few place.parent x.at.placed x.at.stands one_free

  first : StepsTo tx v made tree1 (links_at v1.contents.nodes)
  first = record {
    steady = directory_made_steady tx v h.in_use n none few place.parent x.at.placed x.at.stands one_free;
    tree_is = directory_made_tree tx v h.in_use n none few place.parent x.at.placed x.at.stands one_free;
    settled = directory_made_settled tx v h.in_use n none few place.parent x.at.placed x.at.stands one_free (settled_before v h) (birth_not_root v n plain before);
    slotted = directory_made_slotted tx v h.in_use n none few place.parent x.at.placed x.at.stands one_free (slotted_before v h);
    links_are = λ a. refl;
    waiting = (let same = (one_taken v.zones one_free).same in omega arith);
  }

  at1 : at_number v1.contents.nodes place.parent ≡ Some x.at.placed
  at1 = at_put_number_apart v.contents.nodes n child place.parent apart ∙ x.at.stands

  child1 : at_number v1.contents.nodes n ≡ Some child
  child1 = at_put_number v.contents.nodes n child

  pub more : directory_zones x.at.part.width (slots_with (directory_from x.at.part) place.name) ≤ directory_zones x.at.part.width (length x.at.part.slots) + frees v1.zones
  more = by (used_zones (tree_of_now v)) (used_zones tree1) (used_zones d.tree) (directory_zones x.at.part.width (length x.at.part.slots)) (directory_zones x.at.part.width (slots_with (directory_from x.at.part) place.name)) (frees v.zones) (frees v1.zones)
      used1 used2 enough (one_taken v.zones one_free).fewer
    where
      by : (t u d old after free less : ℕ) → u ≡ t + 1 → d + old ≡ u + after → d - t ≤ free → less + 1 ≡ free → after ≤ old + less
      by t u d old after free less e f g k = omega arith

  abbrev named : Change
  named = add_name v1 place.parent place.name n

  abbrev v2 : VolumeNow
  v2 = named.volume

  second : StepsTo tx v1 named (put_number (tree_of_now v1) place.parent (nodes.Directory (with_name (directory_from x.at.part) place.name n))) (links_at v1.contents.nodes)
  second =
      let new = number_is_new v.geometry v.contents.nodes few in
      name_comes tx v1 first.steady.in_use place.parent x.at.placed at1 x.at.part x.at.is place.name n child child1 (λ e. apart (sym e)) x.free (good_no_dot place.name x.good)
      (entry_at v place.parent place.directory h.in_use x.at place.name child.number x.good x.short new.some (let within = new.within in let fit = h.in_use.sound.fits.inodes in omega arith))
      first.settled first.slotted x.left more

  names_free : (zone : ℕ) → In zone named.touched.freed → ⊥
  names_free =
      let new = number_is_new v.geometry v.contents.nodes few in
      name_frees tx v1 first.steady.in_use place.parent x.at.placed at1 x.at.part x.at.is place.name n child child1 (λ e. apart (sym e)) x.free (good_no_dot place.name x.good)
      (entry_at v place.parent place.directory h.in_use x.at place.name child.number x.good x.short new.some (let within = new.within in let fit = h.in_use.sound.fits.inodes in omega arith))
      first.settled first.slotted x.left more

  name_same : SameNumbers v1.contents.nodes v2.contents.nodes
  name_same =
      let new = number_is_new v.geometry v.contents.nodes few in
      name_numbers tx v1 first.steady.in_use place.parent x.at.placed at1 x.at.part x.at.is place.name n child child1 (λ e. apart (sym e)) x.free (good_no_dot place.name x.good)
      (entry_at v place.parent place.directory h.in_use x.at place.name child.number x.good x.short new.some (let within = new.within in let fit = h.in_use.sound.fits.inodes in omega arith))
      first.settled first.slotted x.left more

  -- the directory has one link more
  x2 : DirectoryAt v2 place.parent (with_name (directory_from x.at.part) place.name n)
  x2 = directory_at v2 place.parent (with_name (directory_from x.at.part) place.name n)
      (ap (λ tree. at_number tree place.parent) second.tree_is ∙ at_put_number (tree_of_now v1) place.parent (nodes.Directory (with_name (directory_from x.at.part) place.name n)))

  before_linked : AreLinked (tree_of_now v) (links_at v.contents.nodes)
  before_linked = linked_before v h.plain.directory_links_are

  links_before : x.at.placed.inode.links ≡ directory_links (tree_of_now v) (directory_from x.at.part)
  links_before = h.plain.directory_links_are place.parent x.at.placed x.at.part x.at.stands x.at.is

  links2 : x2.placed.inode.links ≡ x.at.placed.inode.links
  links2 = same_Some x2.placed.inode.links x.at.placed.inode.links
      (sym (ap (option_map (λ (p : Placed). p.inode.links)) x2.stands) ∙ (second.links_are place.parent ∙ ap (option_map (λ (p : Placed). p.inode.links)) at1))

  room_for_link : x2.placed.inode.links + 1 ≤ 250
  room_for_link = by x2.placed.inode.links x.at.placed.inode.links (directory_links (tree_of_now v) (directory_from x.at.part)) links2 links_before (h.plain.few_links place.parent x.at.placed x.at.stands)
      (ap (λ directory. directory_links (tree_of_now v) directory == most_links) x.at.same ∙ said.few)
    where
      by : (a b c : ℕ) → a ≡ b → b ≡ c → b ≤ 250 → (c == 250) ≡ false → a + 1 ≤ 250
      by a b c e f g k = grind arith

  abbrev last : Change
  last = linked tx v2 second.steady.in_use place.parent x2.placed x2.stands (x2.placed.inode.links + 1) room_for_link

  third : StepsTo tx v2 last (tree_of_now v2) (links_at last.volume.contents.nodes)
  third = record {
    steady = linked_steady tx v2 second.steady.in_use place.parent x2.placed x2.stands (x2.placed.inode.links + 1) room_for_link;
    tree_is = linked_directory tx v2 second.steady.in_use place.parent x2.placed x2.stands (x2.placed.inode.links + 1) room_for_link x2.part x2.is;
    settled = linked_settled tx v2 second.steady.in_use place.parent x2.placed x2.stands (x2.placed.inode.links + 1) room_for_link second.settled;
    slotted = linked_slotted tx v2 second.steady.in_use place.parent x2.placed x2.stands (x2.placed.inode.links + 1) room_for_link second.slotted;
    links_are = λ a. refl;
    waiting = omega arith;
  }

  -- no zone is freed
  no_freed : (zone : ℕ) → In zone (joined named last).touched.freed → ⊥
  no_freed zone i = ⊎_elim (λ j. names_free zone j) (λ j. j) (In-append_cases named.touched.freed [] zone i)

  tree_all : tree_of_now v2 ≡ d.tree
  tree_all = second.tree_is ∙ (ap (λ tree. put_number tree place.parent (nodes.Directory (with_name (directory_from x.at.part) place.name n))) first.tree_is ∙ tree_same)

  whole : StepsTo tx v (joined made (joined named last)) d.tree (links_at last.volume.contents.nodes)
  whole = subst (λ tree. StepsTo tx v (joined made (joined named last)) tree (links_at last.volume.contents.nodes)) tree_all
      (steps_then tx v made (joined named last) _ _ _ _ first (steps_then tx v1 named last _ _ _ _ second third (λ zone i used. absurd i) (λ y i. second_pages y i) (inl name_same)) (λ zone i used. absurd (no_freed zone i)) (λ y i. i)
      (inr (numbers_both v1.contents.nodes v2.contents.nodes last.volume.contents.nodes name_same (linked_numbers tx v2 second.steady.in_use place.parent x2.placed x2.stands (x2.placed.inode.links + 1) room_for_link))))
    where
      second_pages : (y : Page) → In y named.touched.pages → ⊥
      second_pages y i = (second.steady.told.pages_are_written y i).1

  abbrev final : Placed
  final = record { number = x2.placed.number; inode = with_links x2.placed.inode (x2.placed.inode.links + 1); part = x2.placed.part }

  links_all : AreLinked d.tree (links_at last.volume.contents.nodes)
  links_all = subst (λ tree. AreLinked tree (links_at last.volume.contents.nodes)) tree_same
      (made_linked (tree_of_now v) plain.rooted n (tree_none v.contents.blocks v.contents.nodes n none) (new_directory v.geometry.width place.parent) place.parent (directory_from x.at.part) stands_in
      place.name x.free (slots_with (directory_from x.at.part) place.name)
      (links_at v.contents.nodes) (links_at last.volume.contents.nodes) before_linked
      (ap (option_map (λ (p : Placed). p.inode.links)) (at_put_number v2.contents.nodes place.parent final) ∙ ap (λ k. Some (k + 1)) (links2 ∙ links_before))
      (λ e is. (ap names_of_node (sym is), links_new))
      (λ a far away. ap (option_map (λ (p : Placed). p.inode.links)) (at_put_number_apart v2.contents.nodes place.parent final a far)
      ∙ (second.links_are a ∙ ap (option_map (λ (p : Placed). p.inode.links)) (at_put_number_apart v.contents.nodes n child a away))))
    where
      names_of_node : Node → List (List ℕ × ℕ)
      names_of_node (nodes.Directory d) = d.names
      names_of_node other = []

      links_new : links_at last.volume.contents.nodes n ≡ Some 2
      links_new = ap (option_map (λ (p : Placed). p.inode.links)) (at_put_number_apart v2.contents.nodes place.parent final n (λ e. apart (sym e)))
          ∙ (second.links_are n ∙ ap (option_map (λ (p : Placed). p.inode.links)) child1)

  -- A directory is made.
  pub mkdir_done : IsDone tx v (mkdir v n path) d.tree
  mkdir_done = subst (λ c. IsDone tx v c d.tree)
      (sym (at_place_is v path said.names place replies.Exists
      (λ place. followed_by (make_directory v n place.parent) (λ u. followed_by (add_name u place.parent place.name n) (λ w. set_links w place.parent (λ links. links + 1)))) said.named said.parent
      ∙ (ap (λ c. followed_by c (λ u. followed_by (add_name u place.parent place.name n) (λ w. set_links w place.parent (λ links. links + 1))))
      (make_directory_is tx v h.in_use n none few place.parent x.at.placed x.at.stands one_free)
      ∙ ap (λ c. joined made (joined named c)) (set_links_is tx v2 second.steady.in_use place.parent x2.placed x2.stands (x2.placed.inode.links + 1) room_for_link (λ links. links + 1) refl))))
      (call_ends tx v (joined made (joined named last)) d.tree (links_at last.volume.contents.nodes) whole (done_plain v n (calls.Mkdir path) d h before done) links_all (inl (none_freed (joined made (joined named last)).touched.freed no_freed)))
