-- What a call does that nothing refuses, where its path has led.
use Rattle.std.proofs.Common.{◌≡◌, ℕ, List, Result, Ok, Err, IsOk, refl, sym, ap, subst, ◌∙◌}
use Rattle.std.proofs.lemmas.Bool.{true≢false}
use Rattle.tree_model.specs.declared.call.Call.{Call}
use Rattle.tree_model.specs.declared.call.Call.TheVariants as calls
use Rattle.tree_model.specs.declared.call.Reply.{Reply}
use Rattle.tree_model.specs.declared.call.Reply.TheVariants as replies
use Rattle.tree_model.specs.Calls.{Tree, Row, Done, Place, Found, and_then, names_in, parent_of, walk_path, a_file, link, walk, row, outcome, write as write_row}
use Rattle.tree_model.proofs.Rows.{err_ok, then_ok}
use Rattle.volume_steps.specs.Now.{VolumeNow, Change, tree_of_now, room_of, unchanged}
use Rattle.volume_steps.specs.Calls.{Called, at_path, at_place, called, called_by, changed, create_in, link_in, mkdir_in, rmdir_in, truncate_at, unlink_in, write, write_at}
use Rattle.volume_steps.specs.Plain.{IsPlainNow}
use Rattle.volume_steps.proofs.RmdirCall.{rmdirs}
use Rattle.volume_steps.proofs.UnlinkCall.{unlinks}
use Rattle.volume_steps.proofs.CallPaths.{done_row, parent_any, at_place_is, at_path_is}
use Rattle.volume_in_use.specs.bytes.Contents.{bytes_of}
use Rattle.volume_in_use.specs.declared.bytes.content.Content.{Content}
use Rattle.volume_in_use.specs.declared.bytes.content.Content.TheVariants as contents
use Rattle.volume_calls.specs.code.Sites.{place_in}
use Rattle.volume_calls.specs.code.Writes.{write_call}

pub ok_of : {A E : Type 0} (r : Result A E) → IsOk r → (a : A) × (r ≡ Ok a)
ok_of (Ok a) h = (a, refl)
ok_of (Err e) h = absurd (true≢false (sym h))

-- a call that is done leaves what it changed
pub done_plain : (v : VolumeNow) (n tx : ℕ) (c : Call) (d : Done) → outcome (room_of v.geometry) (tree_of_now v) n c ≡ Ok d → IsPlainNow (called v n tx c).change.volume → IsPlainNow (changed v n tx c).volume
unfolding called
done_plain v n tx c d done plain = subst (λ (x : Called). IsPlainNow x.change.volume) (ap (called_by v n tx c) done) plain

pub done_change : (v : VolumeNow) (n tx : ℕ) (c : Call) (d : Done) → outcome (room_of v.geometry) (tree_of_now v) n c ≡ Ok d → (called v n tx c).change ≡ changed v n tx c
unfolding called
done_change v n tx c d done = ap (λ r. (called_by v n tx c r).change) done

-- ---- the site of a path

pub record Parted (tree : Tree) (path : List ℕ) (place : Place) : Type 0 where
  pub names : List (List ℕ)
  pub named : names_in path ≡ Ok names
  pub leads : parent_of replies.Invalid tree names ≡ Ok place

pub parted : (tree : Tree) (path : List ℕ) (place : Place) → place_in tree path ≡ Ok place → Parted tree path place
parted tree path place is = (let w = then_ok (names_in path) (parent_of replies.Invalid tree) place is in record { names = w.0; named = w.1; leads = w.2 })

site_there : (tree : Tree) (path : List ℕ) (at_root : Reply) (next : Place → Row) (d : Done) (reply : Reply) → and_then (names_in path) (λ names. and_then (parent_of at_root tree names) next) ≡ Ok d →
    place_in tree path ≡ Err reply → ⊥
site_there tree path at_root next d reply done none =
    let w = then_ok (names_in path) (λ names. and_then (parent_of at_root tree names) next) d done in
    let p = then_ok (parent_of at_root tree w.0) next d w.2 in
    err_ok reply p.0 (sym none ∙ (ap (λ x. and_then x (parent_of replies.Invalid tree)) w.1 ∙ parent_any at_root replies.Invalid tree w.0 p.0 p.1))

pub write_call_row : (tree : Tree) (n : ℕ) (path : List ℕ) (off : ℕ) (content : Content) → row tree n (write_call path off content) ≡ write_row tree path off (bytes_of content)
unfolding row
write_call_row tree n path off (contents.Same len value) = refl
write_call_row tree n path off (contents.Bytes bytes) = refl

module _ (v : VolumeNow) (n : ℕ) (path : List ℕ) (d : Done) where
  abbrev tree : Tree
  tree = tree_of_now v

  pub no_file_site : outcome (room_of v.geometry) tree n (calls.Create path) ≡ Ok d → (reply : Reply) → place_in tree path ≡ Err reply → ⊥
  unfolding row
  no_file_site done reply none = site_there tree path replies.Exists _ d reply (done_row (room_of v.geometry) tree n (calls.Create path) d done).0 none

  pub no_directory_site : outcome (room_of v.geometry) tree n (calls.Mkdir path) ≡ Ok d → (reply : Reply) → place_in tree path ≡ Err reply → ⊥
  unfolding row
  no_directory_site done reply none = site_there tree path replies.Exists _ d reply (done_row (room_of v.geometry) tree n (calls.Mkdir path) d done).0 none

  pub no_cut_path : (size : ℕ) → outcome (room_of v.geometry) tree n (calls.Truncate path size) ≡ Ok d → (reply : Reply) → walk_path tree path ≡ Err reply → ⊥
  unfolding row
  no_cut_path size done reply none =
      let w = then_ok (walk_path tree path) _ d (done_row (room_of v.geometry) tree n (calls.Truncate path size) d done).0 in
      err_ok reply w.0 (sym none ∙ w.1)

  pub no_write_path : (off : ℕ) (content : Content) → outcome (room_of v.geometry) tree n (write_call path off content) ≡ Ok d → (reply : Reply) → walk_path tree path ≡ Err reply → ⊥
  no_write_path off content done reply none =
      let w = then_ok (walk_path tree path) _ d (sym (write_call_row tree n path off content) ∙ (done_row (room_of v.geometry) tree n (write_call path off content) d done).0) in
      err_ok reply w.0 (sym none ∙ w.1)

module _ (v : VolumeNow) (n : ℕ) (path other : List ℕ) (d : Done) where
  -- a link that is done has its row's beginning
  record LinkParts : Type 0 where
    names : List (List ℕ)
    more : List (List ℕ)
    found : Found
    place : Place
    named : names_in path ≡ Ok names
    also : names_in other ≡ Ok more
    walked : walk (tree_of_now v) names ≡ Ok found
    leads : parent_of replies.Exists (tree_of_now v) more ≡ Ok place

  link_parts : link (tree_of_now v) path other ≡ Ok d → LinkParts
  link_parts done =
      let a = then_ok (names_in path) _ d done in
      let b = then_ok (names_in other) _ d a.2 in
      let c = then_ok (walk (tree_of_now v) a.0) _ d b.2 in
      let e = then_ok (a_file c.0.node) _ d c.2 in
      let f = then_ok (parent_of replies.Exists (tree_of_now v) b.0) _ d e.2 in
      record { names = a.0; more = b.0; found = c.0; place = f.0; named = a.1; also = b.1; walked = c.1; leads = f.1 }

  link_row : outcome (room_of v.geometry) (tree_of_now v) n (calls.Link path other) ≡ Ok d → LinkParts
  unfolding row
  link_row done = link_parts (done_row (room_of v.geometry) (tree_of_now v) n (calls.Link path other) d done).0

  pub no_link_path : outcome (room_of v.geometry) (tree_of_now v) n (calls.Link path other) ≡ Ok d → (reply : Reply) → walk_path (tree_of_now v) path ≡ Err reply → ⊥
  no_link_path done reply none = (let p = link_row done in err_ok reply p.found (sym none ∙ (ap (λ x. and_then x (walk (tree_of_now v))) p.named ∙ p.walked)))

  pub no_link_site : outcome (room_of v.geometry) (tree_of_now v) n (calls.Link path other) ≡ Ok d → (reply : Reply) → place_in (tree_of_now v) other ≡ Err reply → ⊥
  no_link_site done reply none =
      let p = link_row done in
      err_ok reply p.place (sym none ∙ (ap (λ x. and_then x (parent_of replies.Invalid (tree_of_now v))) p.also ∙ parent_any replies.Exists replies.Invalid (tree_of_now v) p.more p.place p.leads))

-- ---- names that are taken away

-- a path whose last name stands in a directory is walked, and has a site
path_walked : (tree : Tree) (path : List ℕ) (names : List (List ℕ)) (found : Found) (reply : Reply) → names_in path ≡ Ok names → walk tree names ≡ Ok found → walk_path tree path ≡ Err reply → ⊥
path_walked tree path names found reply named walked none = err_ok reply found (sym none ∙ (ap (λ x. and_then x (walk tree)) named ∙ walked))

path_placed : (tree : Tree) (path : List ℕ) (names : List (List ℕ)) (place : Place) (reply : Reply) → names_in path ≡ Ok names → parent_of replies.Invalid tree names ≡ Ok place → place_in tree path ≡ Err reply → ⊥
path_placed tree path names place reply named leads none = err_ok reply place (sym none ∙ (ap (λ x. and_then x (parent_of replies.Invalid tree)) named ∙ leads))

module _ (v : VolumeNow) (n : ℕ) (path : List ℕ) (d : Done) (reply : Reply) where
  pub no_unlink_path : outcome (room_of v.geometry) (tree_of_now v) n (calls.Unlink path) ≡ Ok d → walk_path (tree_of_now v) path ≡ Err reply → ⊥
  no_unlink_path done none = (let s = unlinks v n path d (done_row (room_of v.geometry) (tree_of_now v) n (calls.Unlink path) d done).0 in path_walked (tree_of_now v) path s.names s.found reply s.named s.walked none)

  pub no_unlink_site : outcome (room_of v.geometry) (tree_of_now v) n (calls.Unlink path) ≡ Ok d → place_in (tree_of_now v) path ≡ Err reply → ⊥
  no_unlink_site done none = (let s = unlinks v n path d (done_row (room_of v.geometry) (tree_of_now v) n (calls.Unlink path) d done).0 in path_placed (tree_of_now v) path s.names s.place reply s.named s.parent none)

  pub no_rmdir_path : outcome (room_of v.geometry) (tree_of_now v) n (calls.Rmdir path) ≡ Ok d → walk_path (tree_of_now v) path ≡ Err reply → ⊥
  no_rmdir_path done none = (let s = rmdirs v n path d (done_row (room_of v.geometry) (tree_of_now v) n (calls.Rmdir path) d done).0 in path_walked (tree_of_now v) path s.names s.found reply s.named s.walked none)

  pub no_rmdir_site : outcome (room_of v.geometry) (tree_of_now v) n (calls.Rmdir path) ≡ Ok d → place_in (tree_of_now v) path ≡ Err reply → ⊥
  no_rmdir_site done none = (let s = rmdirs v n path d (done_row (room_of v.geometry) (tree_of_now v) n (calls.Rmdir path) d done).0 in path_placed (tree_of_now v) path s.names s.place reply s.named s.parent none)

-- ---- what is changed

pub create_is : (v : VolumeNow) (n tx : ℕ) (path : List ℕ) (place : Place) → Parted (tree_of_now v) path place → changed v n tx (calls.Create path) ≡ create_in v n place.parent place.name
unfolding changed
create_is v n tx path place p = at_place_is v path p.names place replies.Invalid (λ place. create_in v n place.parent place.name) p.named p.leads

pub mkdir_is : (v : VolumeNow) (n tx : ℕ) (path : List ℕ) (place : Place) → Parted (tree_of_now v) path place → changed v n tx (calls.Mkdir path) ≡ mkdir_in v n place.parent place.name
unfolding changed
mkdir_is v n tx path place p = at_place_is v path p.names place replies.Invalid (λ place. mkdir_in v n place.parent place.name) p.named p.leads

pub truncate_is : (v : VolumeNow) (n tx : ℕ) (path : List ℕ) (size : ℕ) (found : Found) → walk_path (tree_of_now v) path ≡ Ok found → changed v n tx (calls.Truncate path size) ≡ truncate_at v tx found.birth size
unfolding changed
truncate_is v n tx path size found e = ap (λ r. elim r as (λ _. Change) [ Err reply ↦ unchanged v | Ok found ↦ truncate_at v tx found.birth size ]) e

write_changes : (v : VolumeNow) (n tx : ℕ) (path : List ℕ) (off : ℕ) (content : Content) → changed v n tx (write_call path off content) ≡ write v path off (bytes_of content)
unfolding changed
write_changes v n tx path off (contents.Same len value) = refl
write_changes v n tx path off (contents.Bytes bytes) = refl

pub write_is : (v : VolumeNow) (n tx : ℕ) (path : List ℕ) (off : ℕ) (content : Content) (found : Found) → walk_path (tree_of_now v) path ≡ Ok found →
    changed v n tx (write_call path off content) ≡ write_at v found.birth off (bytes_of content)
write_is v n tx path off content found e =
    write_changes v n tx path off content ∙ ap (λ r. elim r as (λ _. Change) [ Err reply ↦ unchanged v | Ok found ↦ write_at v found.birth off (bytes_of content) ]) e

-- the names of a path that was walked
pub record Walked (tree : Tree) (path : List ℕ) (found : Found) : Type 0 where
  pub names : List (List ℕ)
  pub named : names_in path ≡ Ok names
  pub leads : walk tree names ≡ Ok found

pub walked_parts : (tree : Tree) (path : List ℕ) (found : Found) → walk_path tree path ≡ Ok found → Walked tree path found
walked_parts tree path found is = (let w = then_ok (names_in path) (walk tree) found is in record { names = w.0; named = w.1; leads = w.2 })

pub link_is : (v : VolumeNow) (n tx : ℕ) (path other : List ℕ) (found : Found) (place : Place) → Walked (tree_of_now v) path found → Parted (tree_of_now v) other place →
    changed v n tx (calls.Link path other) ≡ link_in v found.birth place.parent place.name
unfolding changed
link_is v n tx path other found place w p =
    at_path_is v path w.names found (λ birth. at_place v other (λ place. link_in v birth place.parent place.name)) w.named w.leads
    ∙ at_place_is v other p.names place replies.Invalid (λ place. link_in v found.birth place.parent place.name) p.named p.leads

pub unlink_is : (v : VolumeNow) (n tx : ℕ) (path : List ℕ) (found : Found) (place : Place) → Walked (tree_of_now v) path found → Parted (tree_of_now v) path place →
    changed v n tx (calls.Unlink path) ≡ unlink_in v tx place.parent place.name found.birth
unfolding changed
unlink_is v n tx path found place w p =
    at_place_is v path p.names place replies.Invalid (λ place. at_path v path (λ birth. unlink_in v tx place.parent place.name birth)) p.named p.leads
    ∙ at_path_is v path w.names found (λ birth. unlink_in v tx place.parent place.name birth) w.named w.leads

pub rmdir_is : (v : VolumeNow) (n tx : ℕ) (path : List ℕ) (found : Found) (place : Place) → Walked (tree_of_now v) path found → Parted (tree_of_now v) path place →
    changed v n tx (calls.Rmdir path) ≡ rmdir_in v tx place.parent place.name found.birth
unfolding changed
rmdir_is v n tx path found place w p =
    at_place_is v path p.names place replies.Invalid (λ place. at_path v path (λ birth. rmdir_in v tx place.parent place.name birth)) p.named p.leads
    ∙ at_path_is v path w.names found (λ birth. rmdir_in v tx place.parent place.name birth) w.named w.leads
