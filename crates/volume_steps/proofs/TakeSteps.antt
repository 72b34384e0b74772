-- Which zones a name takes, and what the rows of names say where nothing refuses them.
use Rattle.std.proofs.Common.{◌≡◌, ◌≢◌, ℕ, ◌+◌, ◌-◌, ◌==◌, false, List, Option, Some, None, Ok, refl, sym, ap, ◌∙◌, arith}
use Rattle.tree_model.specs.declared.call.Reply.TheVariants as replies
use Rattle.tree_model.specs.declared.node.Node.{Node}
use Rattle.tree_model.specs.declared.node.Node.TheVariants as nodes
use Rattle.tree_model.specs.declared.node.File.{File}
use Rattle.tree_model.specs.Maps.{at_number, put_number}
use Rattle.tree_model.specs.Plain.{AreBornBefore}
use Rattle.tree_model.specs.Calls.{Tree, Row, Place, Found, and_then, refuse_if, makes, leaves, names_in, parent_of, walk, a_file, is_named, is_full, most_links, with_links, with_name, give_name, put_file, new_file, new_directory, slots_with, directory_zones, node_zones, used_zones, mkdir, create, link}
use Rattle.tree_model.specs.Trees.{directory_links}
use Rattle.tree_model.specs.laws.MapOrder.{InOrder, in_order_put}
use Rattle.tree_model.specs.laws.MapsLaws.{at_put_number_apart}
use Rattle.tree_model.specs.Calls.{file_zones, mapped_groups}
use Rattle.volume_ops.specs.declared.found.Mapped.{Mapped}
use Rattle.volume_model.specs.declared.placed.Placed.{Placed}
use Rattle.volume_model.specs.declared.placed.Part.TheVariants as parts
use Rattle.volume_model.specs.declared.placed.DirectoryPart.{DirectoryPart}
use Rattle.volume_model.specs.Trees.{directory_from, node_from, in_order}
use Rattle.volume_ops.specs.Volume.{bodies_of}
use Rattle.volume_steps.specs.Now.{VolumeNow, tree_of_now}
use Rattle.volume_steps.proofs.TreeSteps.{new_zones, tree_at, used_put_more, used_put_new, used_put_same}

-- ---- nodes of the tree

pub directory_stands : (v : VolumeNow) (birth : ℕ) (p : Placed) (d : DirectoryPart) → at_number v.contents.nodes birth ≡ Some p → p.part ≡ parts.Directory d →
    at_number (tree_of_now v) birth ≡ Some (nodes.Directory (directory_from d))
directory_stands v birth p d at is = tree_at v.contents.blocks v.contents.nodes birth p at ∙ ap (λ part. Some (node_from v.contents.blocks p.inode part)) is

-- what the tree has of a file
abbrev pub file_of : List (List ℕ) → Placed → List Mapped → File
file_of blocks p zones = record { size = p.inode.size; links = p.inode.links; blocks = in_order (bodies_of blocks zones) }

pub file_stands : (v : VolumeNow) (birth : ℕ) (p : Placed) (zones : List Mapped) → at_number v.contents.nodes birth ≡ Some p → p.part ≡ parts.File zones →
    at_number (tree_of_now v) birth ≡ Some (nodes.File (file_of v.contents.blocks p zones))
file_stands v birth p zones at is = tree_at v.contents.blocks v.contents.nodes birth p at ∙ ap (λ part. Some (node_from v.contents.blocks p.inode part)) is

-- ---- zones

new_file_zones : node_zones new_file ≡ 0
unfolding file_zones mapped_groups
new_file_zones = refl

module _ (tree : Tree) (order : InOrder tree) (place : Place) (stands : at_number tree place.parent ≡ Some (nodes.Directory place.directory)) (more : ℕ)
    (grows : directory_zones place.directory.width place.directory.slots + more ≡ directory_zones place.directory.width (slots_with place.directory place.name)) where
  name_takes : (birth : ℕ) → used_zones (give_name tree place birth) ≡ used_zones tree + more
  name_takes birth =
      let all = used_put_more tree place.parent (nodes.Directory place.directory) (nodes.Directory (with_name place.directory place.name birth)) order stands in
      omega arith

module _ (tree : Tree) (order : InOrder tree) (n : ℕ) (none : at_number tree n ≡ None) (place : Place) (stands : at_number tree place.parent ≡ Some (nodes.Directory place.directory)) (more : ℕ)
    (grows : directory_zones place.directory.width place.directory.slots + more ≡ directory_zones place.directory.width (slots_with place.directory place.name)) where
  no_node : (o : Option Node) → at_number tree n ≡ o → o ≡ None → place.parent ≢ n
  no_node o at is e = (let there : at_number tree n ≡ Some (nodes.Directory place.directory) = ap (at_number tree) (sym e) ∙ stands in cc)

  made_takes : (node : Node) → used_zones (give_name (put_number tree n node) place n) ≡ used_zones tree + node_zones node + more
  made_takes node =
      let there = at_put_number_apart tree n node place.parent (no_node (at_number tree n) refl none) ∙ stands in
      let named = name_takes (put_number tree n node) (in_order_put tree n node order) place there more grows n in
      let new = used_put_new tree n node order none in
      omega arith

  pub mkdir_takes : (zones : ℕ) → zones ≡ 1 + more → zones ≡ used_zones (give_name (put_number tree n (new_directory place.directory.width place.parent)) place n) - used_zones tree
  mkdir_takes zones is = (let all = made_takes (new_directory place.directory.width place.parent) in let one : node_zones (new_directory place.directory.width place.parent) ≡ 1 = new_zones place.directory.width place.parent in omega arith)

  pub create_takes : more ≡ used_zones (give_name (put_number tree n new_file) place n) - used_zones tree
  create_takes = (let all = made_takes new_file in let none : node_zones new_file ≡ 0 = new_file_zones in omega arith)

-- no node has the number of a new one
pub none_born : (tree : Tree) (n : ℕ) → AreBornBefore n tree → at_number tree n ≡ None
none_born tree n before = by (at_number tree n) refl
  where
    by : (o : Option Node) → at_number tree n ≡ o → o ≡ None
    by None e = refl
    by (Some node) e = absurd (let low = before n node e in omega arith)

-- ---- rows

pub mkdir_row : (tree : Tree) (n : ℕ) (path : List ℕ) (list : List (List ℕ)) (place : Place) → names_in path ≡ Ok list → parent_of replies.Exists tree list ≡ Ok place → is_named place ≡ false →
    (directory_links tree place.directory == most_links) ≡ false → is_full place.directory ≡ false →
    mkdir tree n path ≡ makes (give_name (put_number tree n (new_directory place.directory.width place.parent)) place n)
mkdir_row tree n path list place named parent free few left =
    ap (λ x. and_then x (λ names. and_then (parent_of replies.Exists tree names) next)) named
    ∙ ap (λ x. and_then x next) parent
    ∙ ap (λ test. refuse_if test replies.Exists (refuse_if (directory_links tree place.directory == most_links) replies.TooManyLinks (refuse_if (is_full place.directory) replies.TooBig (done place)))) free
    ∙ ap (λ test. refuse_if test replies.TooManyLinks (refuse_if (is_full place.directory) replies.TooBig (done place))) few
    ∙ ap (λ test. refuse_if test replies.TooBig (done place)) left
  where
    done : Place → Row
    done place = makes (give_name (put_number tree n (new_directory place.directory.width place.parent)) place n)

    next : Place → Row
    next place = refuse_if (is_named place) replies.Exists (refuse_if (directory_links tree place.directory == most_links) replies.TooManyLinks (refuse_if (is_full place.directory) replies.TooBig (done place)))

pub create_row : (tree : Tree) (n : ℕ) (path : List ℕ) (list : List (List ℕ)) (place : Place) → names_in path ≡ Ok list → parent_of replies.Exists tree list ≡ Ok place → is_named place ≡ false →
    is_full place.directory ≡ false → create tree n path ≡ makes (give_name (put_number tree n new_file) place n)
create_row tree n path list place named parent free left =
    ap (λ x. and_then x (λ names. and_then (parent_of replies.Exists tree names) next)) named
    ∙ ap (λ x. and_then x next) parent
    ∙ ap (λ test. refuse_if test replies.Exists (refuse_if (is_full place.directory) replies.TooBig (done place))) free
    ∙ ap (λ test. refuse_if test replies.TooBig (done place)) left
  where
    done : Place → Row
    done place = makes (give_name (put_number tree n new_file) place n)

    next : Place → Row
    next place = refuse_if (is_named place) replies.Exists (refuse_if (is_full place.directory) replies.TooBig (done place))

pub link_row : (tree : Tree) (path other : List ℕ) (list more : List (List ℕ)) (found : Found) (f : File) (place : Place) → names_in path ≡ Ok list → names_in other ≡ Ok more → walk tree list ≡ Ok found →
    found.node ≡ nodes.File f → parent_of replies.Exists tree more ≡ Ok place → is_named place ≡ false → (f.links == most_links) ≡ false → is_full place.directory ≡ false →
    link tree path other ≡ leaves (give_name (put_file tree found.birth (with_links f (f.links + 1))) place found.birth)
link_row tree path other list more found f place named also walked is parent free few left =
    ap (λ x. and_then x (λ names. and_then (names_in other) (λ more. of_names names more))) named
    ∙ ap (λ x. and_then x (of_names list)) also
    ∙ ap (λ x. and_then x (of_found more)) walked
    ∙ ap (λ node. and_then (a_file node) (of_file more found)) is
    ∙ ap (λ x. and_then x (of_place found f)) parent
    ∙ ap (λ test. refuse_if test replies.Exists (refuse_if (f.links == most_links) replies.TooManyLinks (refuse_if (is_full place.directory) replies.TooBig (done found f place)))) free
    ∙ ap (λ test. refuse_if test replies.TooManyLinks (refuse_if (is_full place.directory) replies.TooBig (done found f place))) few
    ∙ ap (λ test. refuse_if test replies.TooBig (done found f place)) left
  where
    done : Found → File → Place → Row
    done found f place = leaves (give_name (put_file tree found.birth (with_links f (f.links + 1))) place found.birth)

    of_place : Found → File → Place → Row
    of_place found f place = refuse_if (is_named place) replies.Exists (refuse_if (f.links == most_links) replies.TooManyLinks (refuse_if (is_full place.directory) replies.TooBig (done found f place)))

    of_file : List (List ℕ) → Found → File → Row
    of_file more found f = and_then (parent_of replies.Exists tree more) (of_place found f)

    of_found : List (List ℕ) → Found → Row
    of_found more found = and_then (a_file found.node) (of_file more found)

    of_names : List (List ℕ) → List (List ℕ) → Row
    of_names names more = and_then (walk tree names) (of_found more)

-- a file with one link more uses the same zones
pub link_takes : (tree : Tree) → InOrder tree → (birth : ℕ) (f : File) (place : Place) (more : ℕ) → at_number tree birth ≡ Some (nodes.File f) → at_number tree place.parent ≡ Some (nodes.Directory place.directory) →
    directory_zones place.directory.width place.directory.slots + more ≡ directory_zones place.directory.width (slots_with place.directory place.name) →
    more ≡ used_zones (give_name (put_file tree birth (with_links f (f.links + 1))) place birth) - used_zones tree
link_takes tree order birth f place more file stands grows =
    let other : place.parent ≢ birth = λ e. (let there : at_number tree birth ≡ Some (nodes.Directory place.directory) = ap (at_number tree) (sym e) ∙ stands in cc) in
    let q : Node = nodes.File (with_links f (f.links + 1)) in
    let there = at_put_number_apart tree birth q place.parent other ∙ stands in
    let named = name_takes (put_number tree birth q) (in_order_put tree birth q order) place there more grows birth in
    let same = used_put_same tree birth (nodes.File f) q order file refl in
    omega arith
