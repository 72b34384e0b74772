-- The call that creates a file.
use Rattle.std.specs.Prelude.{◌≡◌, ◌≢◌, ◌≤◌, ◌<◌, ◌-◌, ◌+◌, ℕ, true, false, List, [], length, is_some, Option, Some, None, option_map, Ok, refl}
use Rattle.std.proofs.Common.{sym, ap, subst, ◌∙◌, inl, inr, arith}
use Rattle.blk_base.specs.Members.{In}
use Rattle.std.proofs.lemmas.Bool.{true≢false}
use Rattle.std.proofs.lemmas.Option.{none-some}
use Rattle.tree_model.specs.declared.call.Call.TheVariants as calls
use Rattle.tree_model.specs.declared.call.Reply.TheVariants as replies
use Rattle.tree_model.specs.declared.node.Node.TheVariants as nodes
use Rattle.tree_model.specs.declared.node.Directory.{Directory}
use Rattle.tree_model.specs.Maps.{at_number, at_name, put_number}
use Rattle.tree_model.specs.laws.MapsLaws.{at_put_number, at_put_number_apart}
use Rattle.tree_model.specs.Plain.{IsPlain, AreBornBefore}
use Rattle.tree_model.specs.Calls.{Done, Place, row, outcome, names_in, parent_of, and_then, refuse_if, is_named, is_full, makes, give_name, new_file, directory_zones, node_zones, used_zones, slots_with, with_name}
use Rattle.tree_model.specs.Paths.{path_of}
use Rattle.tree_model.proofs.Rows.{ok_ok, then_ok, refuse_ok, some_ok, IsPlace, parent_ok}
use Rattle.tree_model.proofs.PlainCalls.{good_name}
use Rattle.tree_model.proofs.Hanging.{IsGoodName}
use Rattle.volume_model.specs.declared.placed.Placed.{Placed}
use Rattle.volume_model.specs.declared.placed.Part.TheVariants as parts
use Rattle.volume_model.specs.Trees.{directory_from, node_from}
use Rattle.volume_steps.specs.Now.{VolumeNow, tree_of_now, room_of, followed_by}
use Rattle.volume_steps.specs.Steps.{new_file_inode, make_file, add_name}
use Rattle.volume_steps.specs.Zones.{new_number}
use Rattle.volume_steps.specs.Calls.{create}
use Rattle.volume_steps.specs.Plain.{IsPlainNow}
use Rattle.volume_steps.proofs.Taking.{frees}
use Rattle.volume_steps.proofs.NewNumbers.{number_is_new}
use Rattle.volume_steps.proofs.NewFiles.{file_made_steady, file_made_tree, file_made_settled, file_made_slotted, no_zones}
use Rattle.volume_steps.proofs.AddNames.{name_comes, name_frees, name_numbers}
use Rattle.volume_steps.proofs.StepsTo.{StepsTo, joined, steps_then, links_at}
use Rattle.volume_steps.proofs.CallPaths.{good_no_dot, entry_at, done_row, at_place_is, DirectoryAt, directory_at}
use Rattle.volume_steps.proofs.DirectoryLinks.{AreLinked, linked_before, made_linked}
use Rattle.volume_steps.proofs.PlainNow.{tree_is_plain, settled_before, slotted_before}
use Rattle.volume_steps.proofs.CallEnds.{IsDone, none_freed, birth_is_new, birth_not_root, done_plain, call_ends}
use Rattle.volume_steps.proofs.TreeSteps.{tree_length, tree_in_order, tree_none, tree_at, used_put_more, used_put_new}
use Rattle.volume_steps.proofs.Marked.{SameNumbers}

-- ---- a place for a name that comes

pub none_of : {X : Type 0} (o : Option X) → is_some o ≡ false → o ≡ None
none_of None e = refl
none_of (Some x) e = absurd (true≢false e)

-- what a row says of the place of a name that comes, in the volume
pub record NewPlace (v : VolumeNow) (path : List ℕ) (place : Place) : Type 0 where
  pub at : DirectoryAt v place.parent place.directory
  pub good : IsGoodName place.name
  pub short : length place.name ≤ place.directory.width
  pub free : at_name at.part.names place.name ≡ None
  pub left : is_full (directory_from at.part) ≡ false

pub new_place : (v : VolumeNow) (path : List ℕ) (names : List (List ℕ)) (place : Place) → names_in path ≡ Ok names → parent_of replies.Exists (tree_of_now v) names ≡ Ok place →
    is_named place ≡ false → is_full place.directory ≡ false → NewPlace v path place
new_place v path names place named parent free left =
    let p : IsPlace (tree_of_now v) names place = parent_ok replies.Exists (tree_of_now v) names place parent in
    let x = directory_at v place.parent place.directory p.stands in
    record {
      at = x;
      good = good_name (tree_of_now v) path names place (some_ok (path_of path) replies.BadPath names named) p;
      short = p.short;
      free = none_of (at_name x.part.names place.name) (ap (λ (d : Directory). is_some (at_name d.names place.name)) x.same ∙ free);
      left = ap is_full x.same ∙ left;
    }

-- what the row of a creation says
pub record Creates (v : VolumeNow) (n : ℕ) (path : List ℕ) (d : Done) : Type 0 where
  pub names : List (List ℕ)
  pub place : Place
  pub named : names_in path ≡ Ok names
  pub parent : parent_of replies.Exists (tree_of_now v) names ≡ Ok place
  pub free : is_named place ≡ false
  pub left : is_full place.directory ≡ false
  pub takes : d.takes_inode ≡ true
  pub tree_is : d.tree ≡ give_name (put_number (tree_of_now v) n new_file) place n

pub creates : (v : VolumeNow) (n : ℕ) (path : List ℕ) (d : Done) → row (tree_of_now v) n (calls.Create path) ≡ Ok d → Creates v n path d
unfolding row
creates v n path d h =
    let one = then_ok (names_in path) (λ names. and_then (parent_of replies.Exists (tree_of_now v) names) (λ place. refuse_if (is_named place) replies.Exists (refuse_if (is_full place.directory) replies.TooBig (makes (give_name (put_number (tree_of_now v) n new_file) place n))))) d h in
    let two = then_ok (parent_of replies.Exists (tree_of_now v) one.0) (λ place. refuse_if (is_named place) replies.Exists (refuse_if (is_full place.directory) replies.TooBig (makes (give_name (put_number (tree_of_now v) n new_file) place n)))) d one.2 in
    let three = refuse_ok (is_named two.0) replies.Exists (refuse_if (is_full two.0.directory) replies.TooBig (makes (give_name (put_number (tree_of_now v) n new_file) two.0 n))) d two.2 in
    let four = refuse_ok (is_full two.0.directory) replies.TooBig (makes (give_name (put_number (tree_of_now v) n new_file) two.0 n)) d three.1 in
    let same = ok_ok _ d four.1 in
    record {
      names = one.0;
      place = two.0;
      named = one.1;
      parent = two.1;
      free = three.0;
      left = four.0;
      takes = sym (ap (λ (d : Done). d.takes_inode) same);
      tree_is = sym (ap (λ (d : Done). d.tree) same);
    }

module _ (tx : ℕ) (v : VolumeNow) (h : IsPlainNow v) (n : ℕ) (before : AreBornBefore n (tree_of_now v)) (path : List ℕ) (d : Done)
    (done : outcome (room_of v.geometry) (tree_of_now v) n (calls.Create path) ≡ Ok d) (enough : used_zones d.tree - used_zones (tree_of_now v) ≤ frees v.zones) where
  pub said : Creates v n path d
  said = creates v n path d (done_row (room_of v.geometry) (tree_of_now v) n (calls.Create path) d done).0

  abbrev place : Place
  place = said.place

  pub x : NewPlace v path place
  x = new_place v path said.names place said.named said.parent said.free said.left

  plain : IsPlain (tree_of_now v)
  plain = tree_is_plain v h

  none : at_number v.contents.nodes n ≡ None
  none = birth_is_new v n before

  pub few : length v.contents.nodes < v.geometry.inodes
  few =
      let low = (done_row (room_of v.geometry) (tree_of_now v) n (calls.Create path) d done).1 said.takes in
      let long : length (tree_of_now v) ≡ length v.contents.nodes = tree_length v.contents.blocks v.contents.nodes in
      omega arith

  abbrev v1 : VolumeNow
  v1 = (make_file v n).volume

  first : StepsTo tx v (make_file v n) (put_number (tree_of_now v) n new_file) (links_at v1.contents.nodes)
  first = record {
    steady = file_made_steady tx v h.in_use n none few;
    tree_is = file_made_tree tx v h.in_use n none few;
    settled = file_made_settled tx v h.in_use n none few (settled_before v h) (birth_not_root v n plain before);
    slotted = file_made_slotted tx v h.in_use n none few (slotted_before v h);
    links_are = λ a. refl;
    waiting = omega arith;
  }

  apart : place.parent ≢ n
  apart e = none-some x.at.placed (sym none ∙ (ap (at_number v.contents.nodes) (sym e) ∙ x.at.stands))

  abbrev q : Placed
  q = record { number = new_number v.geometry v.contents.nodes; inode = new_file_inode; part = parts.File [] }

  at1 : at_number v1.contents.nodes place.parent ≡ Some x.at.placed
  at1 = at_put_number_apart v.contents.nodes n q place.parent apart ∙ x.at.stands

  child1 : at_number v1.contents.nodes n ≡ Some q
  child1 = at_put_number v.contents.nodes n q

  tree_same : put_number (tree_of_now v1) place.parent (nodes.Directory (with_name (directory_from x.at.part) place.name n)) ≡ d.tree
  tree_same =
      ap (λ tree. put_number tree place.parent (nodes.Directory (with_name (directory_from x.at.part) place.name n))) first.tree_is
      ∙ (ap (λ directory. put_number (put_number (tree_of_now v) n new_file) place.parent (nodes.Directory (with_name directory place.name n))) x.at.same ∙ sym said.tree_is)

  pub more : directory_zones x.at.part.width (slots_with (directory_from x.at.part) place.name) ≤ directory_zones x.at.part.width (length x.at.part.slots) + frees v.zones
  more =
      let order = tree_in_order v.contents.blocks v.contents.nodes h.in_use.volume.0.in_order in
      all_in_all (used_zones (tree_of_now v)) (node_zones new_file) (used_zones (tree_of_now v1)) (used_zones d.tree) (directory_zones x.at.part.width (slots_with (directory_from x.at.part) place.name)) (directory_zones x.at.part.width (length x.at.part.slots)) (frees v.zones)
      (ap used_zones first.tree_is ∙ used_put_new (tree_of_now v) n new_file order (tree_none v.contents.blocks v.contents.nodes n none))
      (no_zones tx v h.in_use n none few)
      (subst (λ tree. used_zones tree + directory_zones x.at.part.width (length x.at.part.slots) ≡ used_zones (tree_of_now v1) + directory_zones x.at.part.width (slots_with (directory_from x.at.part) place.name)) tree_same
      (used_put_more (tree_of_now v1) place.parent (nodes.Directory (directory_from x.at.part)) (nodes.Directory (with_name (directory_from x.at.part) place.name n))
      (tree_in_order v1.contents.blocks v1.contents.nodes first.steady.in_use.volume.0.in_order)
      (tree_at v1.contents.blocks v1.contents.nodes place.parent x.at.placed at1 ∙ ap (λ part. Some (node_from v1.contents.blocks x.at.placed.inode part)) x.at.is)))
      enough
    where
      all_in_all : (t new u d after old free : ℕ) → u ≡ t + new → new ≡ 0 → d + old ≡ u + after → d - t ≤ free → after ≤ old + free
      all_in_all t new u d after old free e f g k = omega arith

  second : StepsTo tx v1 (add_name v1 place.parent place.name n) (put_number (tree_of_now v1) place.parent (nodes.Directory (with_name (directory_from x.at.part) place.name n))) (links_at v1.contents.nodes)
  second =
      let new = number_is_new v.geometry v.contents.nodes few in
      name_comes tx v1 first.steady.in_use place.parent x.at.placed at1 x.at.part x.at.is place.name n q child1 (λ e. apart (sym e)) x.free (good_no_dot place.name x.good)
      (entry_at v place.parent place.directory h.in_use x.at place.name q.number x.good x.short new.some (let within = new.within in let fit = h.in_use.sound.fits.inodes in omega arith))
      first.settled first.slotted x.left more

  names_free : (zone : ℕ) → In zone (add_name v1 place.parent place.name n).touched.freed → ⊥
  names_free =
      let new = number_is_new v.geometry v.contents.nodes few in
      name_frees tx v1 first.steady.in_use place.parent x.at.placed at1 x.at.part x.at.is place.name n q child1 (λ e. apart (sym e)) x.free (good_no_dot place.name x.good)
      (entry_at v place.parent place.directory h.in_use x.at place.name q.number x.good x.short new.some (let within = new.within in let fit = h.in_use.sound.fits.inodes in omega arith))
      first.settled first.slotted x.left more

  name_same : SameNumbers v1.contents.nodes (add_name v1 place.parent place.name n).volume.contents.nodes
  name_same =
      let new = number_is_new v.geometry v.contents.nodes few in
      name_numbers tx v1 first.steady.in_use place.parent x.at.placed at1 x.at.part x.at.is place.name n q child1 (λ e. apart (sym e)) x.free (good_no_dot place.name x.good)
      (entry_at v place.parent place.directory h.in_use x.at place.name q.number x.good x.short new.some (let within = new.within in let fit = h.in_use.sound.fits.inodes in omega arith))
      first.settled first.slotted x.left more

  whole : StepsTo tx v (joined (make_file v n) (add_name v1 place.parent place.name n)) d.tree (links_at v1.contents.nodes)
  whole = subst (λ tree. StepsTo tx v (joined (make_file v n) (add_name v1 place.parent place.name n)) tree (links_at v1.contents.nodes)) tree_same
      (steps_then tx v (make_file v n) (add_name v1 place.parent place.name n) _ _ _ _ first second (λ zone i used. used) (λ y i. i) (inr name_same))

  linked : AreLinked d.tree (links_at v1.contents.nodes)
  linked = subst (λ tree. AreLinked tree (links_at v1.contents.nodes)) (ap (λ directory. put_number (put_number (tree_of_now v) n new_file) place.parent (nodes.Directory (with_name directory place.name n))) x.at.same ∙ sym said.tree_is)
      (made_linked (tree_of_now v) plain.rooted n (tree_none v.contents.blocks v.contents.nodes n none) new_file place.parent (directory_from x.at.part)
      (tree_at v.contents.blocks v.contents.nodes place.parent x.at.placed x.at.stands ∙ ap (λ part. Some (node_from v.contents.blocks x.at.placed.inode part)) x.at.is)
      place.name x.free (slots_with (directory_from x.at.part) place.name)
      (links_at v.contents.nodes) (links_at v1.contents.nodes) before_linked
      (ap (option_map (λ (p : Placed). p.inode.links)) at1 ∙ (sym (ap (option_map (λ (p : Placed). p.inode.links)) x.at.stands)
      ∙ (before_linked place.parent (directory_from x.at.part) (tree_at v.contents.blocks v.contents.nodes place.parent x.at.placed x.at.stands ∙ ap (λ part. Some (node_from v.contents.blocks x.at.placed.inode part)) x.at.is)
      ∙ ap Some (plus_none _))))
      (λ e is. absurd (cc is))
      (λ a far away. ap (option_map (λ (p : Placed). p.inode.links)) (at_put_number_apart v.contents.nodes n q a away)))
    where
      before_linked : AreLinked (tree_of_now v) (links_at v.contents.nodes)
      before_linked = linked_before v h.plain.directory_links_are

      plus_none : (k : ℕ) → k ≡ k + 0
      plus_none k = omega arith

  -- A file is created.
  pub create_done : IsDone tx v (create v n path) d.tree
  create_done = subst (λ c. IsDone tx v c d.tree)
      (sym (at_place_is v path said.names place replies.Exists (λ place. followed_by (make_file v n) (λ w. add_name w place.parent place.name n)) said.named said.parent))
      (call_ends tx v (joined (make_file v n) (add_name v1 place.parent place.name n)) d.tree (links_at v1.contents.nodes) whole (done_plain v n (calls.Create path) d h before done) linked (inl (none_freed (add_name v1 place.parent place.name n).touched.freed names_free)))
