-- What is known where a row does not refuse its call.
use Rattle.std.specs.Prelude.{◌≡◌, ℕ, ◌≤◌, Bool, true, false, nat_lt, List, [], ◌∷◌, length, Option, Some, None, Result, Ok, Err, refl}
use Rattle.std.proofs.Common.{sym, ap, subst, ◌∙◌}
use Rattle.std.proofs.lemmas.Bool.{ltb-false}
use Rattle.std.proofs.lemmas.Option.{same_Some}
use Rattle.tree_model.specs.declared.call.Reply.{Reply}
use Rattle.tree_model.specs.declared.call.Reply.TheVariants as replies
use Rattle.tree_model.specs.declared.node.Node.{Node}
use Rattle.tree_model.specs.declared.node.Node.TheVariants as nodes
use Rattle.tree_model.specs.declared.node.Directory.{Directory}
use Rattle.tree_model.specs.declared.node.File.{File}
use Rattle.tree_model.specs.Maps.{at_number, at_name}
use Rattle.tree_model.specs.Paths.{path_of}
use Rattle.tree_model.specs.Rooted.{HasEntry}
use Rattle.tree_model.specs.Trees.{Refusal, step_at, led_to, node_of_path}
use Rattle.tree_model.specs.Calls.{Tree, Found, Place, refuse_if, and_then, if_some, names_in, refused_walk, birth_at, found_at, walk, walk_path, a_directory, a_file, all_but_last, last_name, parent_of}
use Rattle.tree_model.specs.laws.Alike.{same_ok, step_gives, led_parts}

-- ---- one refusal after the other

pub ok_ok : {A : Type 0} (a b : A) → ◌≡◌ {A = Result A Reply} (Ok a) (Ok b) → a ≡ b
ok_ok a b h = cc

pub err_ok : {A P : Type 0} (r : Reply) (a : A) → ◌≡◌ {A = Result A Reply} (Err r) (Ok a) → P
err_ok r a h = absurd (cc)

pub then_ok : {A B : Type 0} (x : Result A Reply) (next : A → Result B Reply) (b : B) → and_then x next ≡ Ok b → (a : A) × (x ≡ Ok a) × (next a ≡ Ok b)
then_ok (Ok a) next b h = (a, refl, h)
then_ok (Err r) next b h = err_ok r b h

pub refuse_ok : {A : Type 0} (test : Bool) (r : Reply) (x : Result A Reply) (a : A) → refuse_if test r x ≡ Ok a → (test ≡ false) × (x ≡ Ok a)
refuse_ok true r x a h = err_ok r a h
refuse_ok false r x a h = (refl, h)

pub some_ok : {A : Type 0} (o : Option A) (r : Reply) (a : A) → if_some o r ≡ Ok a → o ≡ Some a
some_ok (Some x) r a h = ap Some (ok_ok x a h)
some_ok None r a h = err_ok r a h

pub directory_ok : (node : Node) (d : Directory) → a_directory node ≡ Ok d → node ≡ nodes.Directory d
directory_ok (nodes.Directory e) d h = ap nodes.Directory (ok_ok e d h)
directory_ok (nodes.File f) d h = err_ok replies.NotDir d h
directory_ok (nodes.Other mode) d h = err_ok replies.NotDir d h

pub file_ok : (node : Node) (f : File) → a_file node ≡ Ok f → node ≡ nodes.File f
file_ok (nodes.File e) f h = ap nodes.File (ok_ok e f h)
file_ok (nodes.Directory d) f h = err_ok replies.IsDir f h
file_ok (nodes.Other mode) f h = err_ok replies.IsDir f h

-- ---- paths

-- a node stands where names lead
pub record IsFound (tree : Tree) (names : List (List ℕ)) (found : Found) : Type 0 where
  pub path : node_of_path tree names ≡ Ok found.birth
  pub stands : at_number tree found.birth ≡ Some found.node

birth_ok : (r : Result ℕ Refusal) (birth : ℕ) → ◌≡◌ {A = Result ℕ Reply} (elim r as (λ _. Result ℕ Reply) [ Err refusal ↦ Err (refused_walk refusal) | Ok b ↦ Ok b ]) (Ok birth) → r ≡ Ok birth
birth_ok (Ok b) birth h = ap Ok (ok_ok b birth h)
birth_ok (Err refusal) birth h = err_ok (refused_walk refusal) birth h

found_ok : (tree : Tree) (names : List (List ℕ)) (birth : ℕ) (node : Option Node) (found : Found) → node_of_path tree names ≡ Ok birth → at_number tree birth ≡ node →
    found_at birth node ≡ Ok found → IsFound tree names found
found_ok tree names birth None found led stands h = err_ok replies.NotFound found h
found_ok tree names birth (Some node) found led stands h =
    let same : record { birth = birth; node = node } ≡ found = ok_ok (record { birth = birth; node = node }) found h in
    record {
      path = led ∙ ap (λ (f : Found). Ok f.birth) same;
      stands = subst (λ (f : Found). at_number tree f.birth ≡ Some f.node) same stands;
    }

pub walk_ok : (tree : Tree) (names : List (List ℕ)) (found : Found) → walk tree names ≡ Ok found → IsFound tree names found
walk_ok tree names found h =
    let x = then_ok (birth_at tree names) (λ birth. found_at birth (at_number tree birth)) found h in
    found_ok tree names x.0 (at_number tree x.0) found (birth_ok (node_of_path tree names) x.0 x.1) refl x.2

pub walk_path_ok : (tree : Tree) (path : List ℕ) (found : Found) → walk_path tree path ≡ Ok found → (names : List (List ℕ)) × (path_of path ≡ Some names) × IsFound tree names found
walk_path_ok tree path found h =
    let x = then_ok (names_in path) (walk tree) found h in
    (x.0, some_ok (path_of path) replies.BadPath x.0 x.1, walk_ok tree x.0 found x.2)

-- a directory of the tree to which names lead, and a name that is not too long, the last of a path's
pub record IsPlace (tree : Tree) (names : List (List ℕ)) (p : Place) : Type 0 where
  pub first : List ℕ
  pub rest : List (List ℕ)
  pub names_are : names ≡ first ∷ rest
  pub name_is : last_name first rest ≡ p.name
  pub path : node_of_path tree (all_but_last first rest) ≡ Ok p.parent
  pub stands : at_number tree p.parent ≡ Some (nodes.Directory p.directory)
  pub short : length p.name ≤ p.directory.width

pub parent_ok : (root_reply : Reply) (tree : Tree) (names : List (List ℕ)) (p : Place) → parent_of root_reply tree names ≡ Ok p → IsPlace tree names p
parent_ok root_reply tree [] p h = err_ok root_reply p h
parent_ok root_reply tree (name ∷ names) p h =
    let x = then_ok (walk tree (all_but_last name names)) _ p h in
    let y = then_ok (a_directory x.0.node) _ p x.2 in
    let z = refuse_ok (nat_lt y.0.width (length (last_name name names))) replies.NameTooLong _ p y.2 in
    let w = walk_ok tree (all_but_last name names) x.0 x.1 in
    let same : record { parent = x.0.birth; directory = y.0; name = last_name name names } ≡ p = ok_ok _ p z.1 in
    subst (IsPlace tree (name ∷ names)) same (record {
      first = name;
      rest = names;
      names_are = refl;
      name_is = refl;
      path = w.path;
      stands = w.stands ∙ ap Some (directory_ok x.0.node y.0 y.1);
      short = ltb-false y.0.width (length (last_name name names)) z.0;
    })

-- the last name of a path leads from its parent to its node
led_last : (tree : Tree) (start parent birth : ℕ) (name : List ℕ) (names : List (List ℕ)) → led_to tree start (all_but_last name names) ≡ Ok parent → led_to tree start (name ∷ names) ≡ Ok birth →
    step_at (at_number tree parent) (last_name name names) ≡ Ok birth
led_last tree start parent birth name [] h k =
    let x = led_parts tree (step_at (at_number tree start) name) [] birth k in
    subst (λ p. step_at (at_number tree p) name ≡ Ok birth) (same_ok start parent h) (x.1 ∙ ap Ok (same_ok x.0 birth x.2))
led_last tree start parent birth name (next ∷ names) h k =
    let x = led_parts tree (step_at (at_number tree start) name) (all_but_last next names) parent h in
    let y = led_parts tree (step_at (at_number tree start) name) (next ∷ names) birth k in
    let same : x.0 ≡ y.0 = same_ok x.0 y.0 (sym x.1 ∙ y.1) in
    led_last tree x.0 parent birth next names x.2 (subst (λ s. led_to tree s (next ∷ names) ≡ Ok birth) (sym same) y.2)

pub place_gives : (tree : Tree) (names : List (List ℕ)) (p : Place) (found : Found) → IsPlace tree names p → IsFound tree names found → HasEntry tree p.parent p.name found.birth
place_gives tree names p found h f =
    step_gives tree p.parent p.name found.birth
    (subst (λ name. step_at (at_number tree p.parent) name ≡ Ok found.birth) h.name_is
    (led_last tree 0 p.parent found.birth h.first h.rest h.path (subst (λ names. node_of_path tree names ≡ Ok found.birth) h.names_are f.path)))

-- so the directory of the place has the name
pub place_names : (tree : Tree) (names : List (List ℕ)) (p : Place) (found : Found) → IsPlace tree names p → IsFound tree names found → at_name p.directory.names p.name ≡ Some found.birth
place_names tree names p found h f =
    let g = place_gives tree names p found h f in
    let same : nodes.Directory g.directory ≡ nodes.Directory p.directory = same_Some _ _ (sym g.stands ∙ h.stands) in
    let one : g.directory ≡ p.directory = cc in
    subst (λ (d : Directory). at_name d.names p.name ≡ Some found.birth) one g.named
