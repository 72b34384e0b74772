-- What is asked before a name is taken away holds where the tree does not refuse the call.
use Rattle.std.specs.Prelude.{◌≡◌, ◌==◌, ℕ, Bool, true, false, not, List, [], ◌∷◌, length, Ok, Some, refl}
use Rattle.std.proofs.Common.{sym, ap, ◌∙◌, arith}
use Rattle.std.proofs.lemmas.Bool.{eqb-true}
use Rattle.tree_model.specs.declared.call.Call.TheVariants as calls
use Rattle.tree_model.specs.declared.call.Reply.{Reply}
use Rattle.tree_model.specs.declared.node.Directory.{Directory}
use Rattle.tree_model.specs.Maps.{at_name}
use Rattle.tree_model.specs.Calls.{Done, Found, Place, outcome, names_in, parent_of, walk}
use Rattle.tree_model.proofs.Rows.{ok_ok, parent_ok, place_names, walk_ok}
use Rattle.volume_steps.specs.Now.{VolumeNow, tree_of_now, room_of}
use Rattle.volume_steps.specs.Plain.{IsPlainNow}
use Rattle.volume_steps.proofs.CallPaths.{directory_at, done_row}
use Rattle.volume_steps.proofs.LinkCall.{file_found}
use Rattle.volume_steps.proofs.RmdirCall.{rmdirs}
use Rattle.volume_steps.proofs.UnlinkCall.{unlinks}
use Rattle.volume_names.specs.removals.May.{HasName, MayUnlink, MayRmdir}

-- no names are counted
no_names : (names : List (List ℕ × ℕ)) → not (length names == 0) ≡ false → names ≡ []
no_names [] e = refl
no_names (name ∷ names) e = absurd (let none = eqb-true (length (name ∷ names)) 0 (sure _ e) in omega arith)
  where
    sure : (b : Bool) → not b ≡ false → b ≡ true
    sure true e = refl
    sure false e = sym e

module _ (v : VolumeNow) (path : List ℕ) (names : List (List ℕ)) (named : names_in path ≡ Ok names) (place : Place) (reply : Reply) (leads : parent_of reply (tree_of_now v) names ≡ Ok place)
    (found : Found) (walked : walk (tree_of_now v) names ≡ Ok found) where
  -- the directory has the last name of the path
  has_name : HasName v place.parent place.name found.birth
  has_name =
      let is_place = parent_ok reply (tree_of_now v) names place leads in
      let x = directory_at v place.parent place.directory is_place.stands in
      record {
        placed = x.placed;
        part = x.part;
        stands = x.stands;
        is = x.is;
        named = ap (λ (d : Directory). at_name d.names place.name) x.same ∙ place_names (tree_of_now v) names place found is_place (walk_ok (tree_of_now v) names found walked);
      }

  -- a path is walked to one node
  same_found : (others : List (List ℕ)) (other : Found) → names_in path ≡ Ok others → walk (tree_of_now v) others ≡ Ok other → other ≡ found
  same_found others other e f = ok_ok other found (sym f ∙ (ap (walk (tree_of_now v)) (ok_ok others names (sym e ∙ named)) ∙ walked))

  pub unlink_may : IsPlainNow v → (n : ℕ) (d : Done) → outcome (room_of v.geometry) (tree_of_now v) n (calls.Unlink path) ≡ Ok d → MayUnlink v found.birth place.parent place.name
  unlink_may plain n d done =
      let said = unlinks v n path d (done_row (room_of v.geometry) (tree_of_now v) n (calls.Unlink path) d done).0 in
      let same = same_found said.names said.found said.named said.walked in
      let y = file_found v found.birth said.file ((walk_ok (tree_of_now v) names found walked).stands ∙ ap Some (sym (ap (λ (f : Found). f.node) same) ∙ said.is_file)) in
      record { plain = plain; place = has_name; placed = y.placed; blocks = y.zones; stands = y.stands; is = y.is }

  pub rmdir_may : IsPlainNow v → (n : ℕ) (d : Done) → outcome (room_of v.geometry) (tree_of_now v) n (calls.Rmdir path) ≡ Ok d → MayRmdir v found.birth place.parent place.name
  rmdir_may plain n d done =
      let said = rmdirs v n path d (done_row (room_of v.geometry) (tree_of_now v) n (calls.Rmdir path) d done).0 in
      let same = same_found said.names said.found said.named said.walked in
      let y = directory_at v found.birth said.directory ((walk_ok (tree_of_now v) names found walked).stands ∙ ap Some (sym (ap (λ (f : Found). f.node) same) ∙ said.is_directory)) in
      record {
        plain = plain;
        place = has_name;
        placed = y.placed;
        part = y.part;
        stands = y.stands;
        is = y.is;
        empty = ap (λ (d : Directory). d.names) y.same ∙ no_names said.directory.names said.empty;
      }
