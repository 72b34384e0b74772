-- What is asked before a rename holds where the tree does not refuse it, and as many zones are free as it needs.
use Rattle.std.specs.Prelude.{◌≡◌, ◌≢◌, ◌<◌, ◌≤◌, ◌-◌, ◌+◌, ℕ, ◌==◌, Bool, true, false, not, ◌&&◌, is_none, if◌then◌else◌, List, length, Option, Some, None, unwrap_or, Result, Ok, Err, refl}
use Rattle.std.proofs.Common.{sym, ap, subst, ◌∙◌, arith}
use Rattle.std.proofs.lemmas.Bool.{ne_eqb, true≢false}
use Rattle.std.proofs.lemmas.Option.{none-some, same_Some}
use Rattle.tree_model.specs.declared.call.Call.TheVariants as calls
use Rattle.tree_model.specs.declared.call.Reply.{Reply}
use Rattle.tree_model.specs.declared.call.Reply.TheVariants as replies
use Rattle.tree_model.specs.declared.node.Node.{Node}
use Rattle.tree_model.specs.declared.node.Directory.{Directory}
use Rattle.tree_model.specs.Calls.{Tree, Done, Found, Place, Move, changes_parent, directory_zones, is_full, most_links, moves_directory, names_in, outcome, parent_of, place_after, without_name, slots_with, stays, target_at, used_zones, walk, walk_path, and_then}
use Rattle.tree_model.specs.Maps.{at_number, at_name}
use Rattle.tree_model.specs.Paths.{path_of}
use Rattle.tree_model.specs.Plain.{IsPlain}
use Rattle.tree_model.specs.Trees.{directory_links, is_directory}
use Rattle.tree_model.proofs.Blocks.{target_stands}
use Rattle.tree_model.proofs.Hanging.{IsGoodName}
use Rattle.tree_model.proofs.PlainCalls.{good_name}
use Rattle.tree_model.proofs.Rows.{err_ok, ok_ok, some_ok}
use Rattle.volume_model.specs.declared.placed.Placed.{Placed}
use Rattle.volume_model.specs.declared.placed.Part.{Part}
use Rattle.volume_model.specs.declared.placed.Part.TheVariants as parts
use Rattle.volume_model.specs.declared.placed.DirectoryPart.{DirectoryPart}
use Rattle.volume_model.specs.Trees.{directory_from, node_from}
use Rattle.volume_steps.specs.Called.{FindsRoom}
use Rattle.volume_steps.specs.Now.{VolumeNow, Change, tree_of_now, room_of, unchanged}
use Rattle.volume_steps.specs.Calls.{at_place, changed, move_below, move_in, renamed, replace_in}
use Rattle.volume_steps.proofs.Called.{needs_are}
use Rattle.volume_steps.proofs.CallPaths.{DirectoryAt, directory_at, at_width, done_row}
use Rattle.volume_steps.proofs.LinkCall.{FileAt, file_found}
use Rattle.volume_steps.proofs.MkdirCall.{slots_grow}
use Rattle.volume_steps.proofs.PlainNow.{tree_is_plain}
use Rattle.volume_steps.proofs.RenameTree.{Renames, renames, Met, none_met, file_met, itself, met, stands, is_from, is_to, from_named, from_apart, to_apart, same_directory}
use Rattle.volume_steps.proofs.RenameZones.{rename_takes}
use Rattle.volume_steps.proofs.Taking.{frees}
use Rattle.volume_steps.proofs.TreeSteps.{tree_at, tree_back}
use Rattle.volume_names.specs.renames.May.{Leaves, MayMoveAcross, MayMoveBelow, MayMoveWithin, MayRename, MayReplace}
use Rattle.volume_names.specs.renames.Renamed.{birth_named, is_directory as is_directory_part, is_directory_at, named_in, renamed_at, renamed_by}

few_links : (a b : ℕ) → a ≡ b → a ≤ 250 → (b == 250) ≡ false → a < 250
few_links a b e f g = grind arith

so_many : (a b : ℕ) → a ≤ b → a + (b - a) ≡ b
so_many a b less = omega arith

-- the node that a place leads to, by the birth that has its name
abbrev target_by : Tree → Option ℕ → Option Found
target_by tree o = elim o as (λ _. Option Found) [
  | None ↦ None
  | Some birth ↦ elim (at_number tree birth) as (λ _. Option Found) [ None ↦ None | Some node ↦ Some (record { birth = birth; node = node }) ]
]

abbrev stays_by : ℕ → Option Found → Bool
stays_by birth o = elim o as (λ _. Bool) [ None ↦ false | Some t ↦ t.birth == birth ]

-- ---- a rename that is not refused

module _ (v : VolumeNow) (n : ℕ) (path other : List ℕ) (d : Done) (room : FindsRoom v n (calls.Rename path other)) (done : outcome (room_of v.geometry) (tree_of_now v) n (calls.Rename path other) ≡ Ok d) where
  abbrev tree : Tree
  tree = tree_of_now v

  plain : IsPlain (tree_of_now v)
  plain = tree_is_plain v room.plain

  pub r : Renames (tree_of_now v) path other d
  r = renames (tree_of_now v) n path other d (done_row (room_of v.geometry) (tree_of_now v) n (calls.Rename path other) d done).0

  abbrev from : Place
  from = r.from

  abbrev to : Place
  to = r.to

  abbrev birth : ℕ
  birth = r.found.birth

  abbrev m : Move
  m = record { moved = r.found; from = r.from; to = r.to; target = target_at (tree_of_now v) r.to }

  x : DirectoryAt v from.parent from.directory
  x = directory_at v from.parent from.directory (is_from (tree_of_now v) plain path other d r).stands

  y : DirectoryAt v to.parent to.directory
  y = directory_at v to.parent to.directory (is_to (tree_of_now v) plain path other d r).stands

  moved_at : (p : Placed) × (at_number v.contents.nodes birth ≡ Some p)
  moved_at = (let w = tree_back v.contents.blocks v.contents.nodes birth r.found.node (stands (tree_of_now v) plain path other d r) in (w.0, w.1))

  abbrev child : Placed
  child = moved_at.0

  abbrev leaves : Leaves v from.parent from.name birth
  leaves = record {
    plain = room.plain;
    place = record {
      placed = x.placed;
      part = x.part;
      stands = x.stands;
      is = x.is;
      named = ap (λ (d : Directory). at_name d.names from.name) x.same ∙ from_named (tree_of_now v) plain path other d r;
    };
    child = child;
    stands = moved_at.1;
    apart = from_apart (tree_of_now v) plain path other d r;
  }

  good : IsGoodName to.name
  good = good_name (tree_of_now v) other r.more to (some_ok (path_of other) replies.BadPath r.more r.also) (is_to (tree_of_now v) plain path other d r)

  short : length to.name ≤ v.geometry.width
  short =
      let same = at_width v to.parent to.directory room.plain.in_use y in
      let least = (is_to (tree_of_now v) plain path other d r).short in
      omega arith

  -- the birth that has the new name
  pub named_is : birth_named v.contents.nodes to.parent to.name ≡ at_name to.directory.names to.name
  named_is =
      ap (λ (o : Option Placed). elim o as (λ _. Option ℕ) [ None ↦ None | Some p ↦ named_in p.part to.name ]) y.stands
      ∙ (ap (λ part. named_in part to.name) y.is ∙ ap (λ (d : Directory). at_name d.names to.name) y.same)

  no_target : at_name to.directory.names to.name ≡ None → m.target ≡ None
  no_target none = ap (target_by (tree_of_now v)) none

  -- it is a directory in the tree where it is one on the volume
  kind : is_directory (Some r.found.node) ≡ is_directory_at v.contents.nodes birth
  kind =
      ap is_directory (sym (stands (tree_of_now v) plain path other d r) ∙ tree_at v.contents.blocks v.contents.nodes birth child moved_at.1)
      ∙ (by child.part ∙ sym (ap (λ (o : Option Placed). elim o as (λ _. Bool) [ None ↦ false | Some p ↦ is_directory_part p.part ]) moved_at.1))
    where
      by : (part : Part) → is_directory (Some (node_from v.contents.blocks child.inode part)) ≡ is_directory_part part
      by (parts.Directory d) = refl
      by (parts.File zones) = refl

  -- ---- no node has the name

  module _ (none : at_name to.directory.names to.name ≡ None) where
    free_here : at_name y.part.names to.name ≡ None
    free_here = ap (λ (d : Directory). at_name d.names to.name) y.same ∙ none

    within : from.parent ≡ to.parent → MayMoveWithin v from.parent from.name to.name birth
    within same = record {
      leaves = leaves;
      word = good.plain;
      short = short;
      free = ap (λ (d : Directory). at_name d.names to.name) (x.same ∙ same_directory (tree_of_now v) plain path other d r (sym same)) ∙ none;
    }

    module _ (away : from.parent ≢ to.parent) where
      changes : changes_parent m ≡ true
      changes = ap not (ne_eqb to.parent from.parent (λ e. away (sym e)))

      left : is_full to.directory ≡ false
      left = ap (λ (b : Bool). is_full (if b then to.directory else without_name to.directory from.name)) (sym changes)
          ∙ (sym (ap (λ (o : Option Found). is_none o && is_full (place_after m).directory) (no_target none)) ∙ r.left)

      abbrev needed : ℕ
      needed = directory_zones to.directory.width (slots_with to.directory to.name) - directory_zones to.directory.width to.directory.slots

      grown : directory_zones to.directory.width to.directory.slots + needed ≡ directory_zones to.directory.width (slots_with to.directory to.name)
      grown = so_many (directory_zones to.directory.width to.directory.slots) (directory_zones to.directory.width (slots_with to.directory to.name)) (slots_grow to.directory to.name)

      taken : needed ≡ used_zones d.tree - used_zones (tree_of_now v)
      taken = rename_takes (tree_of_now v) plain path other d r needed
          (λ e. absurd (true≢false (sym e ∙ ap (stays_by birth) (no_target none))))
          (λ t e. absurd (none-some t (sym (no_target none) ∙ e)))
          (λ e. subst (λ (b : Bool). directory_zones (if b then to.directory else without_name to.directory from.name).width (if b then to.directory else without_name to.directory from.name).slots + needed ≡ directory_zones (if b then to.directory else without_name to.directory from.name).width (slots_with (if b then to.directory else without_name to.directory from.name) to.name)) (sym changes) grown)

      enough : needed ≤ frees v.zones
      enough = subst (λ k. k ≤ frees v.zones) (needs_are v n (calls.Rename path other) d done ∙ sym taken) room.enough

      abbrev across : MayMoveAcross v from.parent from.name to.parent to.name birth
      across = record {
        leaves = leaves;
        away = away;
        apart = to_apart (tree_of_now v) plain path other d r;
        place = record {
          placed = y.placed;
          part = y.part;
          stands = y.stands;
          is = y.is;
          word = good.plain;
          short = subst (λ (d : Directory). length to.name ≤ d.width) (sym y.same) (is_to (tree_of_now v) plain path other d r).short;
          free = free_here;
          left = ap is_full y.same ∙ left;
        };
        zones = fits (directory_zones y.part.width (slots_with (directory_from y.part) to.name)) (directory_zones y.part.width (length y.part.slots)) (ap (λ (d : Directory). directory_zones d.width (slots_with d to.name)) y.same) (ap (λ (d : Directory). directory_zones d.width d.slots) y.same);
      }
        where
          fits : (a b : ℕ) → a ≡ directory_zones to.directory.width (slots_with to.directory to.name) → b ≡ directory_zones to.directory.width to.directory.slots → a + 0 ≤ b + frees v.zones
          fits a b e f = (let all = grown in let few = enough in omega arith)

      below : is_directory_at v.contents.nodes birth ≡ true → MayMoveBelow v from.parent from.name to.parent to.name birth
      below is = record {
        across = across;
        part = part.0;
        is = part.1;
        links = few_links y.placed.inode.links (directory_links (tree_of_now v) (directory_from y.part)) (room.plain.plain.directory_links_are to.parent y.placed y.part y.stands y.is) (room.plain.plain.few_links to.parent y.placed y.stands)
            (ap (λ (directory : Directory). directory_links (tree_of_now v) directory == most_links) y.same ∙ few);
      }
        where
          some_part : (part : Part) → is_directory_part part ≡ true → (d : DirectoryPart) × (part ≡ parts.Directory d)
          some_part (parts.Directory d) e = (d, refl)
          some_part (parts.File zones) e = absurd (true≢false (sym e))

          part : (d : DirectoryPart) × (child.part ≡ parts.Directory d)
          part = some_part child.part (sym (ap (λ (o : Option Placed). elim o as (λ _. Bool) [ None ↦ false | Some p ↦ is_directory_part p.part ]) moved_at.1) ∙ is)

          few : (directory_links (tree_of_now v) to.directory == most_links) ≡ false
          few = sym (ap (λ b. b && (changes_parent m && (directory_links (tree_of_now v) to.directory == most_links))) (kind ∙ is)
              ∙ ap (λ b. b && (directory_links (tree_of_now v) to.directory == most_links)) changes) ∙ r.few

  -- ---- another node has it

  module _ (gone : ℕ) (some : at_name to.directory.names to.name ≡ Some gone) where
    stays_is : (node : Node) → at_number (tree_of_now v) gone ≡ Some node → stays m ≡ (gone == birth)
    stays_is node there = ap (λ o. stays_by birth (target_by (tree_of_now v) o)) some ∙ ap (λ (o : Option Node). stays_by birth (elim o as (λ _. Option Found) [ None ↦ None | Some node ↦ Some (record { birth = gone; node = node }) ])) there

    there : (node : Node) × (at_number (tree_of_now v) gone ≡ Some node)
    there = (let led = plain.rooted.leads to.parent to.name gone (record { directory = to.directory; stands = (is_to (tree_of_now v) plain path other d r).stands; named = some }) in (led.0, led.1))

    replace : gone ≢ birth → MayReplace v from.parent from.name to.parent to.name birth gone
    replace apart = by (met (tree_of_now v) plain path other d r)
      where
        by : Met (tree_of_now v) plain path other d r → MayReplace v from.parent from.name to.parent to.name birth gone
        by (none_met target unnamed) = absurd (none-some gone (sym unnamed ∙ some))
        by (itself e) = absurd (true≢false (sym e ∙ (stays_is there.0 there.1 ∙ ne_eqb gone birth apart)))
        by (file_met t f target is named far) =
            let same : t.birth ≡ gone = same_Some t.birth gone (sym named ∙ some) in
            let file : FileAt v gone f = file_found v gone f (ap (at_number (tree_of_now v)) (sym same) ∙ (found_there t target ∙ ap Some is)) in
            record {
              leaves = leaves;
              apart = λ e. apart (sym e);
              place = record {
                placed = y.placed;
                part = y.part;
                stands = y.stands;
                is = y.is;
                named = ap (λ (d : Directory). at_name d.names to.name) y.same ∙ some;
              };
              word = good.plain;
              short = short;
              placed = file.placed;
              blocks = file.zones;
              stands = file.stands;
              is = file.is;
            }
          where
            found_there : (t : Found) → m.target ≡ Some t → at_number (tree_of_now v) t.birth ≡ Some t.node
            found_there t target = target_stands (tree_of_now v) to t target

  pub may : MayRename v from.parent from.name to.parent to.name birth
  may = record {
    within = λ none same. within (sym named_is ∙ none) same;
    across = λ none away. across (sym named_is ∙ none) away;
    below = λ none away is. below (sym named_is ∙ none) away is;
    replace = λ gone some apart. replace gone (sym named_is ∙ some) apart;
  }

  -- ---- the call is this

  abbrev step_by : ℕ → Option Found → Bool → Change
  step_by tx target b =
      if b then unchanged v
      else elim target as (λ _. Change) [
        | Some t ↦ replace_in v tx from.parent from.name to.parent to.name birth t.birth
        | None ↦
            if moves_directory m && changes_parent m then move_below v from.parent from.name to.parent to.name birth
            else move_in v from.parent from.name to.parent to.name birth
      ]

  pub renames_as : (tx : ℕ) → renamed v tx m ≡ renamed_at v tx from.parent from.name to.parent to.name birth
  renames_as tx = by (at_name to.directory.names to.name) refl
    where
      met_by : (gone : ℕ) → (node : Node) → at_name to.directory.names to.name ≡ Some gone → at_number (tree_of_now v) gone ≡ Some node → (b : Bool) → (gone == birth) ≡ b →
          renamed v tx m ≡ (if b then unchanged v else replace_in v tx from.parent from.name to.parent to.name birth gone)
      met_by gone node some there b e =
          ap (step_by tx m.target) (stays_is gone some node there ∙ e)
          ∙ ap (λ o. step_by tx o b) (ap (target_by (tree_of_now v)) some ∙ ap (λ (o : Option Node). elim o as (λ _. Option Found) [ None ↦ None | Some node ↦ Some (record { birth = gone; node = node }) ]) there)

      by : (o : Option ℕ) → at_name to.directory.names to.name ≡ o → renamed v tx m ≡ renamed_at v tx from.parent from.name to.parent to.name birth
      by None none =
          ap (step_by tx m.target) (ap (stays_by birth) (no_target none))
          ∙ (ap (λ o. step_by tx o false) (no_target none)
          ∙ (ap (λ b. if b && changes_parent m then move_below v from.parent from.name to.parent to.name birth else move_in v from.parent from.name to.parent to.name birth) kind
          ∙ sym (ap (renamed_by v tx from.parent from.name to.parent to.name birth) (named_is ∙ none))))
      by (Some gone) some =
          met_by gone (there gone some).0 some (there gone some).1 (gone == birth) refl
          ∙ sym (ap (renamed_by v tx from.parent from.name to.parent to.name birth) (named_is ∙ some))

  -- ---- where the paths have led

  walked : walk_path (tree_of_now v) path ≡ Ok r.found
  walked = ap (λ x. and_then x (walk (tree_of_now v))) r.named ∙ r.walked

  placed : and_then (names_in path) (parent_of replies.Invalid (tree_of_now v)) ≡ Ok from
  placed = ap (λ x. and_then x (parent_of replies.Invalid (tree_of_now v))) r.named ∙ r.from_is

  aimed : and_then (names_in other) (parent_of replies.Invalid (tree_of_now v)) ≡ Ok to
  aimed = ap (λ x. and_then x (parent_of replies.Invalid (tree_of_now v))) r.also ∙ r.to_is

  pub not_lost : (reply : Reply) → walk_path (tree_of_now v) path ≡ Err reply → ⊥
  not_lost reply none = err_ok reply r.found (sym none ∙ walked)

  pub not_astray : (reply : Reply) → and_then (names_in path) (parent_of replies.Invalid (tree_of_now v)) ≡ Err reply → ⊥
  not_astray reply none = err_ok reply from (sym none ∙ placed)

  pub not_aside : (reply : Reply) → and_then (names_in other) (parent_of replies.Invalid (tree_of_now v)) ≡ Err reply → ⊥
  not_aside reply none = err_ok reply to (sym none ∙ aimed)

  call_is : (tx : ℕ) → changed v n tx (calls.Rename path other) ≡ renamed_at v tx from.parent from.name to.parent to.name birth
  unfolding changed
  call_is tx =
      ap (λ (o : Result Found Reply). elim o as (λ _. Change) [ Err reply ↦ unchanged v | Ok found ↦ at_place v path (λ from. at_place v other (λ to. renamed v tx (record { moved = found; from = from; to = to; target = target_at (tree_of_now v) to }))) ]) walked
      ∙ (ap (λ (o : Result Place Reply). elim o as (λ _. Change) [ Err reply ↦ unchanged v | Ok from ↦ at_place v other (λ to. renamed v tx (record { moved = r.found; from = from; to = to; target = target_at (tree_of_now v) to })) ]) placed
      ∙ (ap (λ (o : Result Place Reply). elim o as (λ _. Change) [ Err reply ↦ unchanged v | Ok to ↦ renamed v tx (record { moved = r.found; from = from; to = to; target = target_at (tree_of_now v) to }) ]) aimed
      ∙ renames_as tx))

  module _ (found : Found) (led : walk_path (tree_of_now v) path ≡ Ok found) (f t : Place)
      (leaves_at : and_then (names_in path) (parent_of replies.Invalid (tree_of_now v)) ≡ Ok f) (comes_at : and_then (names_in other) (parent_of replies.Invalid (tree_of_now v)) ≡ Ok t) where
    same_found : r.found ≡ found
    same_found = ok_ok r.found found (sym walked ∙ led)

    same_from : from ≡ f
    same_from = ok_ok from f (sym placed ∙ leaves_at)

    same_to : to ≡ t
    same_to = ok_ok to t (sym aimed ∙ comes_at)

    pub may_rename : MayRename v f.parent f.name t.parent t.name found.birth
    may_rename = subst (λ (o : Found). MayRename v f.parent f.name t.parent t.name o.birth) same_found
        (subst (λ (t : Place). MayRename v f.parent f.name t.parent t.name birth) same_to
        (subst (λ (f : Place). MayRename v f.parent f.name to.parent to.name birth) same_from may))

    pub rename_is : (tx : ℕ) → changed v n tx (calls.Rename path other) ≡ renamed_at v tx f.parent f.name t.parent t.name found.birth
    rename_is tx = call_is tx ∙ (λ i. renamed_at v tx (same_from i).parent (same_from i).name (same_to i).parent (same_to i).name (same_found i).birth)

    -- what has the new name stands, or else the node itself does
    pub met_stands : (p : Placed) × (at_number v.contents.nodes (unwrap_or (birth_named v.contents.nodes t.parent t.name) found.birth) ≡ Some p)
    met_stands = subst (λ (t : Place). (p : Placed) × (at_number v.contents.nodes (unwrap_or (birth_named v.contents.nodes t.parent t.name) found.birth) ≡ Some p)) same_to
        (subst (λ (o : Found). (p : Placed) × (at_number v.contents.nodes (unwrap_or (birth_named v.contents.nodes to.parent to.name) o.birth) ≡ Some p)) same_found (by (at_name to.directory.names to.name) refl))
      where
        by : (o : Option ℕ) → at_name to.directory.names to.name ≡ o → (p : Placed) × (at_number v.contents.nodes (unwrap_or (birth_named v.contents.nodes to.parent to.name) birth) ≡ Some p)
        by None none = (child, ap (λ o. at_number v.contents.nodes (unwrap_or o birth)) (named_is ∙ none) ∙ moved_at.1)
        by (Some gone) some =
            let node = there gone some in
            let w = tree_back v.contents.blocks v.contents.nodes gone node.0 node.1 in
            (w.0, ap (λ o. at_number v.contents.nodes (unwrap_or o birth)) (named_is ∙ some) ∙ w.1)
