-- How many blocks calls tell by which a name comes.
use Rattle.std.specs.Prelude.{◌≡◌, ◌≢◌, ℕ, ◌+◌, ◌-◌, ◌≤◌, List, [], Some, Ok, refl}
use Rattle.std.proofs.Common.{sym, ap, subst, ◌∙◌, arith}
use Rattle.std.proofs.lemmas.Option.{none-some, same_Some}
use Rattle.tree_model.specs.declared.call.Call.TheVariants as calls
use Rattle.tree_model.specs.declared.call.Reply.TheVariants as replies
use Rattle.tree_model.specs.Calls.{Done, Place, outcome, used_zones}
use Rattle.tree_model.specs.Maps.{at_number}
use Rattle.tree_model.specs.laws.MapsLaws.{at_put_number_apart}
use Rattle.volume_model.specs.declared.placed.Part.TheVariants as parts
use Rattle.volume_model.specs.declared.placed.Placed.{Placed}
use Rattle.volume_steps.specs.Called.{FindsRoom}
use Rattle.volume_steps.specs.Calls.{called, changed, at_place}
use Rattle.volume_steps.specs.Now.{VolumeNow, Change, tree_of_now, room_of, followed_by}
use Rattle.volume_steps.specs.Steps.{set_links, make_file, make_directory, add_name, new_file_inode}
use Rattle.volume_steps.specs.Zones.{new_number}
use Rattle.volume_steps.proofs.CallEnds.{birth_is_new}
use Rattle.volume_steps.proofs.CallPaths.{done_row, at_place_is, at_path_is}
use Rattle.volume_steps.proofs.CreateCall as create_call
use Rattle.volume_steps.proofs.CreateCall.{NewPlace, Creates}
use Rattle.volume_steps.proofs.FileCalls.{called_is, needs_is}
use Rattle.volume_steps.proofs.LinkCall as link_call
use Rattle.volume_steps.proofs.LinkCall.{Links, FileAt}
use Rattle.volume_steps.proofs.MkdirCall as mkdir_call
use Rattle.volume_steps.proofs.MkdirCall.{Mkdirs}
use Rattle.volume_steps.proofs.NewDirectories.{q, make_directory_is}
use Rattle.volume_steps.proofs.Taking.{frees}
use Rattle.system_laws.proofs.TransactionSizeLemmas.Counted.{Counted, counted_more, counted_then}
use Rattle.system_laws.proofs.TransactionSizeLemmas.CountedSteps.{links_counted, links_apart, file_counted, directory_counted}
use Rattle.system_laws.proofs.TransactionSizeLemmas.CountedCalls.{name_comes}

-- ---- a file

module _ (tx : ℕ) (v : VolumeNow) (n : ℕ) (path : List ℕ) (h : FindsRoom v n (calls.Create path)) (d : Done) (done : outcome (room_of v.geometry) (tree_of_now v) n (calls.Create path) ≡ Ok d) where
  create_enough : used_zones d.tree - used_zones (tree_of_now v) ≤ frees v.zones
  create_enough =
      let needed = needs_is tx v n (calls.Create path) d (done_row (room_of v.geometry) (tree_of_now v) n (calls.Create path) d done).0 in
      let found = h.enough in
      omega (arith, needed, found)

  abbrev created : Creates v n path d
  created = create_call.said tx v h.plain n h.born path d done create_enough

  abbrev created_at : Place
  created_at = created.place

  abbrev created_in : NewPlace v path created_at
  created_in = create_call.x tx v h.plain n h.born path d done create_enough

  create_apart : created_at.parent ≢ n
  create_apart e = none-some created_in.at.placed (sym (birth_is_new v n h.born) ∙ (ap (at_number v.contents.nodes) (sym e) ∙ created_in.at.stands))

  pub create_counted : Counted v (called v n tx (calls.Create path)).change 12 520
  unfolding changed
  create_counted =
      let made = make_file v n in
      let there : at_number made.volume.contents.nodes created_at.parent ≡ Some created_in.at.placed =
      at_put_number_apart v.contents.nodes n (record { number = new_number v.geometry v.contents.nodes; inode = new_file_inode; part = parts.File [] }) created_at.parent create_apart ∙ created_in.at.stands in
      subst (λ c. Counted v c 12 520)
      (sym (called_is tx v n (calls.Create path) d done
      ∙ at_place_is v path created.names created_at replies.Exists (λ place. followed_by (make_file v n) (λ w. add_name w place.parent place.name n)) created.named created.parent))
      (counted_more v _ 8 12 0 520 (omega arith) (omega arith)
      (counted_then v made (λ w. add_name w created_at.parent created_at.name n) 2 6 0 0 (file_counted v n)
      (name_comes made.volume v h.plain.in_use refl created_at.parent created_at.name n created_in.at.placed created_in.at.part created_in.at.stands created_in.at.is created_in.free created_in.left there)))

-- ---- a directory

module _ (tx : ℕ) (v : VolumeNow) (n : ℕ) (path : List ℕ) (h : FindsRoom v n (calls.Mkdir path)) (d : Done) (done : outcome (room_of v.geometry) (tree_of_now v) n (calls.Mkdir path) ≡ Ok d) where
  mkdir_enough : used_zones d.tree - used_zones (tree_of_now v) ≤ frees v.zones
  mkdir_enough =
      let needed = needs_is tx v n (calls.Mkdir path) d (done_row (room_of v.geometry) (tree_of_now v) n (calls.Mkdir path) d done).0 in
      let found = h.enough in
      omega (arith, needed, found)

  abbrev made_dir : Mkdirs v n path d
  made_dir = mkdir_call.said tx v h.plain n h.born path d done mkdir_enough

  abbrev made_at : Place
  made_at = made_dir.place

  abbrev made_in : NewPlace v path made_at
  made_in = mkdir_call.x tx v h.plain n h.born path d done mkdir_enough

  mkdir_apart : made_at.parent ≢ n
  mkdir_apart e = none-some made_in.at.placed (sym (birth_is_new v n h.born) ∙ (ap (at_number v.contents.nodes) (sym e) ∙ made_in.at.stands))

  abbrev made : Change
  made = make_directory v n made_at.parent

  made_there : at_number made.volume.contents.nodes made_at.parent ≡ Some made_in.at.placed
  made_there =
      let none = mkdir_call.none tx v h.plain n h.born path d done mkdir_enough in
      let few = mkdir_call.few tx v h.plain n h.born path d done mkdir_enough in
      let one = mkdir_call.one_free tx v h.plain n h.born path d done mkdir_enough in
      ap (λ (c : Change). at_number c.volume.contents.nodes made_at.parent) (make_directory_is tx v h.plain.in_use n none few made_at.parent made_in.at.placed made_in.at.stands one)
      ∙ (at_put_number_apart v.contents.nodes n (q tx v h.plain.in_use n none few made_at.parent made_in.at.placed made_in.at.stands one) made_at.parent mkdir_apart ∙ made_in.at.stands)

  pub mkdir_counted : Counted v (called v n tx (calls.Mkdir path)).change 12 520
  unfolding changed
  mkdir_counted =
      let u = made.volume in
      let named = add_name u made_at.parent made_at.name n in
      subst (λ c. Counted v c 12 520)
      (sym (called_is tx v n (calls.Mkdir path) d done
      ∙ at_place_is v path made_dir.names made_at replies.Exists
      (λ place. followed_by (make_directory v n place.parent) (λ u. followed_by (add_name u place.parent place.name n) (λ w. set_links w place.parent (λ links. links + 1)))) made_dir.named made_dir.parent))
      (counted_more v _ 10 12 0 520 (omega arith) (omega arith)
      (counted_then v made (λ u. followed_by (add_name u made_at.parent made_at.name n) (λ w. set_links w made_at.parent (λ links. links + 1))) 3 7 0 0 (directory_counted v n made_at.parent)
      (counted_then u named (λ w. set_links w made_at.parent (λ links. links + 1)) 6 1 0 0
      (name_comes u v h.plain.in_use (directory_counted v n made_at.parent).geometry made_at.parent made_at.name n made_in.at.placed made_in.at.part made_in.at.stands made_in.at.is made_in.free made_in.left made_there)
      (links_counted named.volume made_at.parent (λ links. links + 1)))))

-- ---- another name

module _ (tx : ℕ) (v : VolumeNow) (n : ℕ) (path other : List ℕ) (h : FindsRoom v n (calls.Link path other)) (d : Done) (done : outcome (room_of v.geometry) (tree_of_now v) n (calls.Link path other) ≡ Ok d) where
  link_enough : used_zones d.tree - used_zones (tree_of_now v) ≤ frees v.zones
  link_enough =
      let needed = needs_is tx v n (calls.Link path other) d (done_row (room_of v.geometry) (tree_of_now v) n (calls.Link path other) d done).0 in
      let found = h.enough in
      omega (arith, needed, found)

  abbrev links : Links v path other d
  links = link_call.said tx v h.plain n h.born path other d done link_enough

  abbrev linked_at : Place
  linked_at = links.place

  abbrev linked : ℕ
  linked = links.found.birth

  abbrev linked_in : NewPlace v other linked_at
  linked_in = link_call.x tx v h.plain n h.born path other d done link_enough

  abbrev file : FileAt v linked links.file
  file = link_call.y tx v h.plain n h.born path other d done link_enough

  link_apart : linked_at.parent ≢ linked
  link_apart e = cc (sym linked_in.at.is ∙ (ap (λ (p : Placed). p.part) (same_Some linked_in.at.placed file.placed (sym linked_in.at.stands ∙ (ap (at_number v.contents.nodes) e ∙ file.stands))) ∙ file.is))

  abbrev more_links : ℕ → ℕ
  more_links links = links + 1

  link_there : at_number (set_links v linked more_links).volume.contents.nodes linked_at.parent ≡ Some linked_in.at.placed
  link_there = links_apart v linked more_links linked_at.parent link_apart ∙ linked_in.at.stands

  pub link_counted : Counted v (called v n tx (calls.Link path other)).change 12 520
  unfolding changed
  link_counted =
      let more = set_links v linked more_links in
      subst (λ c. Counted v c 12 520)
      (sym (called_is tx v n (calls.Link path other) d done
      ∙ (at_path_is v path links.names links.found (λ birth. at_place v other (λ place. followed_by (set_links v birth (λ links. links + 1)) (λ w. add_name w place.parent place.name birth))) links.named links.walked
      ∙ at_place_is v other links.more linked_at replies.Exists (λ place. followed_by (set_links v linked (λ links. links + 1)) (λ w. add_name w place.parent place.name linked)) links.also links.parent)))
      (counted_more v _ 7 12 0 520 (omega arith) (omega arith)
      (counted_then v more (λ w. add_name w linked_at.parent linked_at.name linked) 1 6 0 0 (links_counted v linked more_links)
      (name_comes more.volume v h.plain.in_use (links_counted v linked more_links).geometry linked_at.parent linked_at.name linked linked_in.at.placed linked_in.at.part linked_in.at.stands linked_in.at.is linked_in.free linked_in.left link_there)))
