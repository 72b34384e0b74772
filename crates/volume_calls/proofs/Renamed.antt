-- What a rename asks: its row by its tests, and its zones.
use Rattle.std.specs.Prelude.{◌≡◌, ◌≤◌, ◌+◌, ◌==◌, ◌&&◌, ◌||◌, ℕ, suc, nat_le, is_some, Bool, true, false, not, if◌then◌else◌, List, [], ◌∷◌, length, is_none, Option, Some, None, option_map, unwrap_or, Result, Ok, Err, refl}
use Rattle.std.specs.List.{list_any, sum_by}
use Rattle.std.specs.Map.{values_of}
use Rattle.std.specs.BTreeMap.{is_at}
use Rattle.std.proofs.Common.{sym, ap, subst, ◌∙◌, arith, eqb-true}
use Rattle.std.proofs.lemmas.Bool.{true≢false, lt-ltb}
use Rattle.std.proofs.lemmas.Option.{none-some, same_Some}
use Rattle.std.proofs.lemmas.List.Sums.{sum_by-cons}
use Rattle.std.proofs.lemmas.Map.Entries.{sum_by-remove_entry}
use Rattle.minix_tables.specs.directories.laws.Slots.{used-most}
use Rattle.tree_model.specs.declared.call.Reply.{Reply}
use Rattle.tree_model.specs.declared.call.Reply.TheVariants as replies
use Rattle.tree_model.specs.declared.node.Directory.{Directory}
use Rattle.tree_model.specs.Maps.{at_number, at_name, name_cmp}
use Rattle.tree_model.specs.Plain.{IsPlain}
use Rattle.tree_model.specs.Trees.{is_directory, directory_links}
use Rattle.tree_model.specs.laws.MapOrder.{without_name_in}
use Rattle.tree_model.specs.Calls.{Tree, Row, Done, Found, Place, Move, names_in, is_root, walk, parent_of, above, and_then, refuse_if, leaves, most_links, is_full, needs_slot, most_slots, without_name, slots_with, directory_zones, target_at, meets_directory, meets_file, moves_directory, changes_parent, place_after, stays, tree_moved, rename, rename_to}
use Rattle.tree_model.proofs.Rows.{ok_ok, refuse_ok, walk_ok, parent_ok, place_names}
use Rattle.volume_steps.proofs.RenameTree.{Renames, Met, met, none_met, file_met, itself}
use Rattle.volume_steps.proofs.RenameZones.{rename_takes}
use Rattle.volume_calls.specs.code.Asked.{IsAsked}
use Rattle.volume_calls.specs.code.Rows.{Agrees}
use Rattle.tree_model.specs.code.PathTexts.{names_below}
use Rattle.tree_model.proofs.NameTexts.{first_piece}
use Rattle.tree_model.specs.declared.node.Node.TheVariants as nodes
use Rattle.volume_steps.specs.Now.{VolumeNow, tree_of_now}
use Rattle.volume_steps.proofs.TreeSteps.{tree_at, tree_none}
use Rattle.volume_model.specs.declared.placed.Placed.{Placed}
use Rattle.volume_calls.specs.code.Renames.{HasSlots, move_from}
use Rattle.volume_calls.specs.declared.renames.Moved.{Moved}
use Rattle.volume_model.specs.Trees.{directory_from, node_now}

-- ---- one name less

sum_ones : (xs : List ℕ) → sum_by (λ (x : ℕ). 1) xs ≡ length xs
sum_ones [] = refl
sum_ones (x ∷ xs) = let one = sum_by-cons (λ (x : ℕ). 1) x xs in let rest = sum_ones xs in omega arith

as_many_values : (names : List (List ℕ × ℕ)) → length (values_of names) ≡ length names
as_many_values [] = refl
as_many_values (e ∷ es) = let rest = as_many_values es in omega arith

length_without : (names : List (List ℕ × ℕ)) (name : List ℕ) (birth : ℕ) → at_name names name ≡ Some birth → length (without_name_in names name) + 1 ≡ length names
length_without names name birth found =
    let sums = subst (λ o. sum_by (λ (x : ℕ). 1) (values_of (without_name_in names name)) + unwrap_or (option_map (λ (x : ℕ). 1) o) 0 ≡ sum_by (λ (x : ℕ). 1) (values_of names)) found
    (sum_by-remove_entry (λ (x : ℕ). 1) (is_at (name_cmp name)) names) in
    let one = sum_ones (values_of (without_name_in names name)) in
    let two = sum_ones (values_of names) in
    let three = as_many_values (without_name_in names name) in
    let four = as_many_values names in
    omega arith

-- a directory that lost a name has a free slot
pub has_free : (d : Directory) (name : List ℕ) (birth : ℕ) → at_name d.names name ≡ Some birth → 2 + length d.names ≤ d.slots → needs_slot (without_name d name) ≡ false
has_free d name birth found most =
    let less = length_without d.names name birth found in
    ap not (lt-ltb (length (without_name_in d.names name) + 2) d.slots (omega arith))

-- ---- the row

module _ (tree : Tree) (plain : IsPlain tree) (path other : List ℕ) (names more : List (List ℕ)) (found : Found) (from to : Place)
    (named : names_in path ≡ Ok names) (also : names_in other ≡ Ok more) (walked : walk tree names ≡ Ok found)
    (from_is : parent_of replies.Invalid tree names ≡ Ok from) (to_is : parent_of replies.Invalid tree more ≡ Ok to)
    (not_below : (is_directory (Some found.node) && list_any (λ birth. birth == found.birth) (above tree 0 more)) ≡ false) where
  abbrev pub move : Move
  move = record { moved = found; from = from; to = to; target = target_at tree to }

  no_root : (xs : List (List ℕ)) (p : Place) → parent_of replies.Invalid tree xs ≡ Ok p → is_root xs ≡ false
  no_root [] p e = (let never : ◌≡◌ {A = Result Place Reply} (Err replies.Invalid) (Ok p) = e in absurd (cc never))
  no_root (x ∷ xs) p e = refl

  row_is : rename tree path other ≡ rename_to tree move
  row_is =
      ap (λ r. and_then r (λ names. and_then (names_in other) (λ more. by_names names more))) named
      ∙ (ap (λ r. and_then r (by_names names)) also
      ∙ (ap (λ b. refuse_if b replies.Invalid (by_walk names more)) (both (is_root names) (is_root more) (no_root names from from_is) (no_root more to to_is))
      ∙ (ap (λ r. and_then r (λ found. and_then (parent_of replies.Invalid tree names) (λ from. by_from more found from))) walked
      ∙ (ap (λ r. and_then r (by_from more found)) from_is
      ∙ (ap (λ r. and_then r (by_to more found from)) to_is
      ∙ ap (λ b. refuse_if b replies.Invalid (rename_to tree move)) not_below)))))
    where
      by_to : List (List ℕ) → Found → Place → Place → Row
      by_to more found from to = refuse_if (is_directory (Some found.node) && list_any (λ birth. birth == found.birth) (above tree 0 more)) replies.Invalid
          (rename_to tree (record { moved = found; from = from; to = to; target = target_at tree to }))

      by_from : List (List ℕ) → Found → Place → Row
      by_from more found from = and_then (parent_of replies.Invalid tree more) (by_to more found from)

      by_walk : List (List ℕ) → List (List ℕ) → Row
      by_walk names more = and_then (walk tree names) (λ found. and_then (parent_of replies.Invalid tree names) (λ from. by_from more found from))

      by_names : List (List ℕ) → List (List ℕ) → Row
      by_names names more = refuse_if (is_root names || is_root more) replies.Invalid (by_walk names more)

      both : (a b : Bool) → a ≡ false → b ≡ false → (a || b) ≡ false
      both false b e f = f
      both true b e f = absurd (true≢false e)

  abbrev renames_of : (d : Done) → rename_to tree move ≡ Ok d → Renames tree path other d
  renames_of d h =
      let j = refuse_ok (meets_directory move) _ _ d h in
      let k = refuse_ok (meets_file move && moves_directory move) replies.NotDir _ d j.1 in
      let l = refuse_ok (moves_directory move && (changes_parent move && (directory_links tree to.directory == most_links))) replies.TooManyLinks _ d k.1 in
      let o = refuse_ok (is_none move.target && is_full (place_after move).directory) replies.TooBig _ d l.1 in
      record {
        names = names;
        more = more;
        found = found;
        from = from;
        to = to;
        named = named;
        also = also;
        walked = walked;
        from_is = from_is;
        to_is = to_is;
        not_below = not_below;
        no_directory = j.0;
        no_file = k.0;
        few = l.0;
        left = o.0;
        tree_is = sym (ap (λ (d : Done). d.tree) (ok_ok _ d o.1));
      }

  -- what nobody has as a name is no name
  pub unnamed : (d : Done) → rename_to tree move ≡ Ok d → move.target ≡ None → at_name to.directory.names to.name ≡ None
  unnamed d h none = by (met tree plain path other d (renames_of d h))
    where
      by : Met tree plain path other d (renames_of d h) → at_name to.directory.names to.name ≡ None
      by (none_met e free) = free
      by (file_met t f target is gives apart) = absurd (none-some t (sym none ∙ target))
      by (itself e) = absurd (true≢false (sym e ∙ ap (λ (o : Option Found). elim o as (λ _. Bool) [ None ↦ false | Some t ↦ t.birth == found.birth ]) none))

  pub asked : (zones : ℕ) → Agrees (Ok tt) (rename_to tree move) → ((t : Found) → move.target ≡ Some t → zones ≡ 0) →
      (at_name to.directory.names to.name ≡ None → move.target ≡ None → directory_zones (place_after move).directory.width (place_after move).directory.slots + zones ≡ directory_zones (place_after move).directory.width (slots_with (place_after move).directory to.name)) →
      IsAsked tree (Ok (record { inode = false; zones = zones })) (rename tree path other)
  asked zones agrees onto free = subst (IsAsked tree (Ok (record { inode = false; zones = zones }))) (sym row_is) (by (rename_to tree move) refl agrees)
    where
      quiet : (o : Option Found) → move.target ≡ o → (elim o as (λ _. Bool) [ None ↦ false | Some t ↦ t.birth == found.birth ]) ≡ true → zones ≡ 0
      quiet None e t = absurd (true≢false (sym t))
      quiet (Some t) e u = onto t e

      by : (r : Row) → rename_to tree move ≡ r → Agrees (Ok tt) r → IsAsked tree (Ok (record { inode = false; zones = zones })) r
      by (Err reply) e agrees = absurd agrees
      by (Ok d) e agrees = (sym agrees, rename_takes tree plain path other d (renames_of d e) zones (quiet move.target refl) onto (λ none. free (unnamed d e none) none))

-- ---- the new parent, once the old name is gone

module _ (m : Moved) (h : HasSlots m) (blocks : List (List ℕ)) where
  abbrev M : Move
  M = move_from blocks m

  abbrev D : Directory
  D = directory_from m.to.directory.now

  most : 2 + length D.names ≤ D.slots
  most = (let used = used-most m.to.directory.now.slots in let counted = h.counted in omega arith)

  -- in one directory a slot is free then
  stays_in : changes_parent M ≡ false → m.to.parent ≡ m.from.parent
  stays_in e = by (m.to.parent == m.from.parent) refl e
    where
      by : (b : Bool) → (m.to.parent == m.from.parent) ≡ b → not b ≡ false → m.to.parent ≡ m.from.parent
      by true same f = eqb-true m.to.parent m.from.parent same
      by false same f = absurd (true≢false f)

  free_slot : changes_parent M ≡ false → needs_slot (without_name D m.from.name) ≡ false
  free_slot e = has_free D m.from.name m.moved.birth (h.within (stays_in e)) most

  pub full_after : (b f : Bool) → b ≡ changes_parent M → (b ≡ true → f ≡ is_full D) → (b && f) ≡ is_full (place_after M).directory
  full_after true f e g = g refl ∙ ap (λ (b : Bool). is_full (if b then D else without_name D m.from.name)) e
  full_after false f e g =
      sym (ap (λ b. b && nat_le (most_slots D.width) D.slots) (free_slot (sym e)))
      ∙ ap (λ (b : Bool). is_full (if b then D else without_name D m.from.name)) e

  kept_slots : (e : Directory) (name : List ℕ) → needs_slot e ≡ false → slots_with e name ≡ e.slots
  kept_slots e name none = ap (λ (b : Bool). if b then e.slots + 1 else e.slots) (by (not (is_some (at_name e.names name))) none)
    where
      by : (a : Bool) → needs_slot e ≡ false → (a && needs_slot e) ≡ false
      by true f = f
      by false f = refl

  pub zones_there : (zones : ℕ) → changes_parent M ≡ true → directory_zones D.width D.slots + zones ≡ directory_zones D.width (slots_with D m.to.name) →
      directory_zones (place_after M).directory.width (place_after M).directory.slots + zones ≡ directory_zones (place_after M).directory.width (slots_with (place_after M).directory m.to.name)
  zones_there zones e more =
      subst (λ (d : Directory). directory_zones d.width d.slots + zones ≡ directory_zones d.width (slots_with d m.to.name)) (ap (λ (b : Bool). if b then D else without_name D m.from.name) (sym e)) more

  pub zones_within : changes_parent M ≡ false →
      directory_zones (place_after M).directory.width (place_after M).directory.slots + 0 ≡ directory_zones (place_after M).directory.width (slots_with (place_after M).directory m.to.name)
  zones_within e =
      subst (λ (d : Directory). directory_zones d.width d.slots + 0 ≡ directory_zones d.width (slots_with d m.to.name)) (ap (λ (b : Bool). if b then D else without_name D m.from.name) (sym e))
      (none (directory_zones D.width D.slots) _ (ap (directory_zones D.width) (kept_slots (without_name D m.from.name) m.to.name (free_slot e))))
    where
      none : (a b : ℕ) → b ≡ a → a + 0 ≡ b
      none a b e = omega arith

-- ---- links

pub lacks_later : (a b f : Bool) → a ≡ true → b ≡ false → false ≡ (a && (b && f))
lacks_later true true f d e = absurd (true≢false e)
lacks_later true false f d e = refl
lacks_later false b f d e = absurd (true≢false (sym d))

pub lacks_if : (a b f : Bool) → a ≡ true → b ≡ true → f ≡ (a && (b && f))
lacks_if true true f d e = refl
lacks_if true false f d e = absurd (true≢false (sym e))
lacks_if false b f d e = absurd (true≢false (sym d))

pub and_if : (a b f : Bool) → a ≡ true → f ≡ b → f ≡ (a && b)
and_if true b f d e = e
and_if false b f d e = absurd (true≢false (sym d))

-- ---- what stands at the new place

abbrev by_birth : Tree → Option ℕ → Option Found
by_birth tree o = elim o as (λ _. Option Found) [ None ↦ None | Some b ↦ elim (at_number tree b) as (λ _. Option Found) [ None ↦ None | Some y ↦ Some (record { birth = b; node = y }) ] ]

pub target_none : (v : VolumeNow) (place : Place) (birth : ℕ) → at_name place.directory.names place.name ≡ Some birth → at_number v.contents.nodes birth ≡ None → None ≡ target_at (tree_of_now v) place
target_none v place birth named none =
    sym (ap (by_birth (tree_of_now v)) named
    ∙ ap (λ o. elim o as (λ _. Option Found) [ None ↦ None | Some y ↦ Some (record { birth = birth; node = y }) ]) (tree_none v.contents.blocks v.contents.nodes birth none))

pub target_some : (v : VolumeNow) (place : Place) (birth : ℕ) (p : Placed) → at_name place.directory.names place.name ≡ Some birth → at_number v.contents.nodes birth ≡ Some p →
    Some (record { birth = birth; node = node_now v.contents.blocks p }) ≡ target_at (tree_of_now v) place
target_some v place birth p named there =
    sym (ap (by_birth (tree_of_now v)) named
    ∙ ap (λ o. elim o as (λ _. Option Found) [ None ↦ None | Some y ↦ Some (record { birth = birth; node = y }) ]) (tree_at v.contents.blocks v.contents.nodes birth p there))

-- ---- what refuses a move

module _ (tree : Tree) (m : Move) (other : meets_directory m ≡ false) (file : (meets_file m && moves_directory m) ≡ false)
    (links : (moves_directory m && (changes_parent m && (directory_links tree m.to.directory == most_links))) ≡ false) where
  row_left : rename_to tree m ≡ refuse_if (is_none m.target && is_full (place_after m).directory) replies.TooBig (leaves (if stays m then tree else tree_moved tree m))
  row_left =
      ap (λ b. refuse_if b (if moves_directory m then replies.Exists else replies.IsDir) (refuse_if (meets_file m && moves_directory m) replies.NotDir third)) other
      ∙ (ap (λ b. refuse_if b replies.NotDir third) file
      ∙ ap (λ b. refuse_if b replies.TooManyLinks fourth) links)
    where
      fourth : Row
      fourth = refuse_if (is_none m.target && is_full (place_after m).directory) replies.TooBig (leaves (if stays m then tree else tree_moved tree m))

      third : Row
      third = refuse_if (moves_directory m && (changes_parent m && (directory_links tree m.to.directory == most_links))) replies.TooManyLinks fourth

  pub agrees_met : is_none m.target ≡ false → Agrees (Ok tt) (rename_to tree m)
  agrees_met e = subst (Agrees (Ok tt)) (sym (row_left ∙ ap (λ b. refuse_if (b && is_full (place_after m).directory) replies.TooBig (leaves (if stays m then tree else tree_moved tree m))) e)) refl

  pub agrees_full : is_none m.target ≡ true → is_full (place_after m).directory ≡ true → Agrees (Err replies.TooBig) (rename_to tree m)
  agrees_full e f = subst (Agrees (Err replies.TooBig)) (sym (row_left
      ∙ (ap (λ b. refuse_if (b && is_full (place_after m).directory) replies.TooBig (leaves (if stays m then tree else tree_moved tree m))) e
      ∙ ap (λ b. refuse_if b replies.TooBig (leaves (if stays m then tree else tree_moved tree m))) f))) refl

  pub agrees_free : is_none m.target ≡ true → is_full (place_after m).directory ≡ false → Agrees (Ok tt) (rename_to tree m)
  agrees_free e f = subst (Agrees (Ok tt)) (sym (row_left
      ∙ (ap (λ b. refuse_if (b && is_full (place_after m).directory) replies.TooBig (leaves (if stays m then tree else tree_moved tree m))) e
      ∙ ap (λ b. refuse_if b replies.TooBig (leaves (if stays m then tree else tree_moved tree m))) f))) refl

-- nothing stands there
pub none_there : {X Y : Type 0} (f : X → Y) (o : Option X) → is_some o ≡ false → is_none (option_map f o) ≡ true
none_there f None e = refl
none_there f (Some x) e = absurd (true≢false e)

-- ---- the root's path, and one directory

pub no_names : (text : List ℕ) → is_root (names_below text) ≡ (length text == 0)
no_names [] = refl
no_names (b ∷ bytes) =
    let first : is_root (names_below (b ∷ bytes)) ≡ false = ap is_root (first_piece bytes) in
    let some : (suc (length bytes) == 0) ≡ false = grind arith in
    first ∙ sym some

pub within_of : (tree : Tree) (names more : List (List ℕ)) (found : Found) (from to : Place) → walk tree names ≡ Ok found → parent_of replies.Invalid tree names ≡ Ok from → parent_of replies.Invalid tree more ≡ Ok to →
    to.parent ≡ from.parent → at_name to.directory.names from.name ≡ Some found.birth
within_of tree names more found from to walked from_is to_is same =
    let p = parent_ok replies.Invalid tree names from from_is in
    let q = parent_ok replies.Invalid tree more to to_is in
    let k : nodes.Directory from.directory ≡ nodes.Directory to.directory = same_Some (nodes.Directory from.directory) (nodes.Directory to.directory) (sym p.stands ∙ (ap (at_number tree) (sym same) ∙ q.stands)) in
    let one : from.directory ≡ to.directory = cc k in
    ap (λ (d : Directory). at_name d.names from.name) (sym one) ∙ place_names tree names from found p (walk_ok tree names found walked)

pub no_target : {X : Type 0} (f : X → Found) (o : Option X) (target : Option Found) (t : Found) → is_some o ≡ false → option_map f o ≡ target → target ≡ Some t → ⊥
no_target f None target t e g h = none-some t (g ∙ h)
no_target f (Some x) target t e g h = true≢false e

pub some_target : {X : Type 0} (f : X → Found) (o : Option X) (target : Option Found) → is_some o ≡ true → option_map f o ≡ target → target ≡ None → ⊥
some_target f None target e g h = true≢false (sym e)
some_target f (Some x) target e g h = none-some (f x) (sym (g ∙ h))

module _ (tree : Tree) (plain : IsPlain tree) (path other : List ℕ) (names more : List (List ℕ)) (found : Found) (from to : Place)
    (named : names_in path ≡ Ok names) (also : names_in other ≡ Ok more) (walked : walk tree names ≡ Ok found)
    (from_is : parent_of replies.Invalid tree names ≡ Ok from) (to_is : parent_of replies.Invalid tree more ≡ Ok to)
    (not_below : (is_directory (Some found.node) && list_any (λ birth. birth == found.birth) (above tree 0 more)) ≡ false) where
  pub asked_err : (reply : Reply) → Agrees (Err reply) (rename_to tree (record { moved = found; from = from; to = to; target = target_at tree to })) → IsAsked tree (Err reply) (rename tree path other)
  asked_err reply agrees = subst (IsAsked tree (Err reply)) (sym (row_is tree plain path other names more found from to named also walked from_is to_is not_below)) (by (rename_to tree (record { moved = found; from = from; to = to; target = target_at tree to })) agrees)
    where
      by : (r : Row) → Agrees (Err reply) r → IsAsked tree (Err reply) r
      by (Err why) e = e
      by (Ok d) e = absurd e
