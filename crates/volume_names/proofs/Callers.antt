-- What is asked before a call is done holds where the tree does not refuse it, and as many zones are free as it needs.
use Rattle.std.specs.Prelude.{◌≡◌, ◌≤◌, ◌<◌, ◌-◌, ◌==◌, ℕ, false, List, length, Ok, Result}
use Rattle.std.proofs.Common.{sym, ap, subst, ◌∙◌, arith}
use Rattle.tree_model.specs.declared.call.Call.TheVariants as calls
use Rattle.tree_model.specs.declared.call.Call.{Call}
use Rattle.tree_model.specs.declared.call.Reply.{Reply}
use Rattle.tree_model.specs.declared.call.Reply.TheVariants as replies
use Rattle.tree_model.specs.declared.node.Directory.{Directory}
use Rattle.tree_model.specs.Calls.{Done, Found, Place, most_links, outcome, names_in, parent_of, used_zones, walk}
use Rattle.tree_model.specs.Trees.{directory_links}
use Rattle.volume_model.specs.Trees.{directory_from}
use Rattle.volume_steps.specs.Now.{VolumeNow, tree_of_now, room_of}
use Rattle.volume_steps.specs.Called.{FindsRoom}
use Rattle.volume_steps.proofs.Called.{needs_are}
use Rattle.volume_steps.proofs.Taking.{frees, one_taken}
use Rattle.volume_steps.proofs.CallPaths.{parent_any}
use Rattle.volume_steps.proofs.CreateCall as create_call
use Rattle.volume_steps.proofs.CreateCall.{NewPlace}
use Rattle.volume_steps.proofs.LinkCall as link_call
use Rattle.volume_steps.proofs.MkdirCall as mkdir_call
use Rattle.volume_names.specs.May.{FreePlace, MayCreate, MayLink, MayMkdir}

-- a path leads to one place
same_ok : {A : Type 0} (a b : A) → ◌≡◌ {A = Result A Reply} (Ok a) (Ok b) → a ≡ b
same_ok a b e = cc

same_place : (v : VolumeNow) (path : List ℕ) (one other : List (List ℕ)) (p q : Place) (reply : Reply) → names_in path ≡ Ok one → parent_of replies.Exists (tree_of_now v) one ≡ Ok p →
    names_in path ≡ Ok other → parent_of reply (tree_of_now v) other ≡ Ok q → p ≡ q
same_place v path one other p q reply e f g h =
    same_ok p q (sym f ∙ (ap (parent_of replies.Exists (tree_of_now v)) (same_ok one other (sym e ∙ g)) ∙ parent_any reply replies.Exists (tree_of_now v) other q h))

abbrev free_place : (v : VolumeNow) (path : List ℕ) (p : Place) → NewPlace v path p → FreePlace v p.parent p.name
free_place v path p x = record {
  placed = x.at.placed;
  part = x.at.part;
  stands = x.at.stands;
  is = x.at.is;
  word = x.good.plain;
  short = subst (λ (d : Directory). length p.name ≤ d.width) (sym x.at.same) x.short;
  free = x.free;
  left = x.left;
}

abbrev enough : (v : VolumeNow) (n : ℕ) (c : Call) (d : Done) → FindsRoom v n c → outcome (room_of v.geometry) (tree_of_now v) n c ≡ Ok d → used_zones d.tree - used_zones (tree_of_now v) ≤ frees v.zones
enough v n c d f done = subst (λ k. k ≤ frees v.zones) (needs_are v n c d done) f.enough

pub create_may : (v : VolumeNow) (n : ℕ) (path : List ℕ) (d : Done) (names : List (List ℕ)) (place : Place) (reply : Reply) → FindsRoom v n (calls.Create path) →
    outcome (room_of v.geometry) (tree_of_now v) n (calls.Create path) ≡ Ok d → names_in path ≡ Ok names → parent_of reply (tree_of_now v) names ≡ Ok place → MayCreate v n place.parent place.name
create_may v n path d names place reply f done named parent =
    let much = enough v n (calls.Create path) d f done in
    let said = create_call.said 0 v f.plain n f.born path d done much in
    subst (λ (p : Place). MayCreate v n p.parent p.name) (same_place v path said.names names said.place place reply said.named said.parent named parent)
    (record {
      plain = f.plain;
      born = f.born;
      inode = create_call.few 0 v f.plain n f.born path d done much;
      place = free_place v path said.place (create_call.x 0 v f.plain n f.born path d done much);
      zones = (let more = create_call.more 0 v f.plain n f.born path d done much in omega arith);
    })

pub link_may : (v : VolumeNow) (n : ℕ) (path other : List ℕ) (d : Done) (names more : List (List ℕ)) (found : Found) (place : Place) (reply : Reply) → FindsRoom v n (calls.Link path other) →
    outcome (room_of v.geometry) (tree_of_now v) n (calls.Link path other) ≡ Ok d → names_in path ≡ Ok names → walk (tree_of_now v) names ≡ Ok found →
    names_in other ≡ Ok more → parent_of reply (tree_of_now v) more ≡ Ok place → MayLink v found.birth place.parent place.name
link_may v n path other d names more found place reply f done named walked also parent =
    let much = enough v n (calls.Link path other) d f done in
    let said = link_call.said 0 v f.plain n f.born path other d done much in
    let y = link_call.y 0 v f.plain n f.born path other d done much in
    let same : said.found ≡ found = same_ok said.found found (sym said.walked ∙ (ap (walk (tree_of_now v)) (same_ok said.names names (sym said.named ∙ named)) ∙ walked)) in
    subst (λ (x : Found). MayLink v x.birth place.parent place.name) same
    (subst (λ (p : Place). MayLink v said.found.birth p.parent p.name) (same_place v other said.more more said.place place reply said.also said.parent also parent)
    (record {
      plain = f.plain;
      placed = y.placed;
      blocks = y.zones;
      stands = y.stands;
      is = y.is;
      links = (let few = link_call.room_for_link 0 v f.plain n f.born path other d done much in omega arith);
      place = free_place v other said.place (link_call.x 0 v f.plain n f.born path other d done much);
      zones = (let all = link_call.more 0 v f.plain n f.born path other d done much in omega arith);
    }))

pub mkdir_may : (v : VolumeNow) (n : ℕ) (path : List ℕ) (d : Done) (names : List (List ℕ)) (place : Place) (reply : Reply) → FindsRoom v n (calls.Mkdir path) →
    outcome (room_of v.geometry) (tree_of_now v) n (calls.Mkdir path) ≡ Ok d → names_in path ≡ Ok names → parent_of reply (tree_of_now v) names ≡ Ok place → MayMkdir v n place.parent place.name
mkdir_may v n path d names place reply f done named parent =
    let much = enough v n (calls.Mkdir path) d f done in
    let said = mkdir_call.said 0 v f.plain n f.born path d done much in
    let x = mkdir_call.x 0 v f.plain n f.born path d done much in
    let some = mkdir_call.one_free 0 v f.plain n f.born path d done much in
    subst (λ (p : Place). MayMkdir v n p.parent p.name) (same_place v path said.names names said.place place reply said.named said.parent named parent)
    (record {
      plain = f.plain;
      born = f.born;
      inode = mkdir_call.few 0 v f.plain n f.born path d done much;
      place = free_place v path said.place x;
      links = few_links x.at.placed.inode.links (directory_links (tree_of_now v) (directory_from x.at.part)) (f.plain.plain.directory_links_are said.place.parent x.at.placed x.at.part x.at.stands x.at.is)
          (f.plain.plain.few_links said.place.parent x.at.placed x.at.stands) (ap (λ (directory : Directory). directory_links (tree_of_now v) directory == most_links) x.at.same ∙ said.few);
      zones = (let more = mkdir_call.more 0 v f.plain n f.born path d done much in let less = (one_taken v.zones some).fewer in omega arith);
      some_zone = some;
    })
  where
    few_links : (a b : ℕ) → a ≡ b → a ≤ 250 → (b == 250) ≡ false → a < 250
    few_links a b e f g = grind arith
