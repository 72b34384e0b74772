-- The links of directories, over what calls make of a tree.
use Rattle.std.specs.Prelude.{◌≡◌, ◌≢◌, ◌+◌, ℕ, true, cond, List, [], ◌∷◌, is_some, Option, Some, None, option_map, unwrap_or, refl, count_by}
use Rattle.std.specs.List.{sum_by}
use Rattle.std.specs.Map.{keys_of, values_of}
use Rattle.std.specs.BTreeMap.{is_at}
use Rattle.std.proofs.Common.{sym, ap, subst, inl, inr, ◌∙◌, arith}
use Rattle.std.proofs.lemmas.Bool.{cases_eq, false≢true}
use Rattle.std.proofs.lemmas.Cmp.{nat_list_cmp_total}
use Rattle.std.proofs.lemmas.List.Sums.{sum_by-cons}
use Rattle.std.proofs.lemmas.Map.Entries.{sum_by-insert_entry, sum_by-remove_entry}
use Rattle.std.proofs.lemmas.Option.{same_Some, none-some}
use Rattle.blk_base.specs.Members.{In}
use Rattle.tree_model.proofs.NamedNodes.{links_same}
use Rattle.tree_model.specs.declared.node.Node.{Node}
use Rattle.tree_model.specs.declared.node.Node.TheVariants as nodes
use Rattle.tree_model.specs.declared.node.Directory.{Directory}
use Rattle.tree_model.specs.Maps.{at_number, at_name, put_number, put_name, name_cmp}
use Rattle.tree_model.specs.Trees.{is_directory, directory_links}
use Rattle.tree_model.specs.Rooted.{IsRooted}
use Rattle.tree_model.specs.laws.MapsLaws.{at_put_number, at_put_number_apart, name_here, name_same}
use Rattle.volume_ops.proofs.TreeUnique.{found_first, found_later}
use Rattle.std.proofs.lemmas.Map.Keys.{sorted_tail}
use Rattle.tree_model.specs.Calls.{Tree}
use Rattle.tree_model.specs.laws.MapOrder.{NamesInOrder, without_name_in, at_put_cases}
use Rattle.volume_model.specs.declared.placed.Placed.{Placed}
use Rattle.volume_model.specs.Trees.{directory_from, node_from}
use Rattle.volume_steps.specs.Now.{VolumeNow, tree_of_now}
use Rattle.volume_steps.proofs.PlainNow.{HasDirectoryLinks}
use Rattle.volume_steps.proofs.StepsTo.{links_at}
use Rattle.volume_steps.proofs.CallPaths.{directory_at}
use Rattle.volume_steps.proofs.TreeSteps.{tree_at}

-- ---- as the tree says them

-- a directory of the tree has the links that its names want
abbrev pub AreLinked : Tree → (ℕ → Option ℕ) → Type 0
AreLinked tree links = (a : ℕ) (d : Directory) → at_number tree a ≡ Some (nodes.Directory d) → links a ≡ Some (directory_links tree d)

pub linked_before : (v : VolumeNow) → HasDirectoryLinks v → AreLinked (tree_of_now v) (links_at v.contents.nodes)
linked_before v h a d at =
    let x = directory_at v a d at in
    ap (option_map (λ (p : Placed). p.inode.links)) x.stands ∙ ap Some (h a x.placed x.part x.stands x.is ∙ ap (directory_links (tree_of_now v)) x.same)

pub linked_after : (v : VolumeNow) → AreLinked (tree_of_now v) (links_at v.contents.nodes) → HasDirectoryLinks v
linked_after v h birth p d at is =
    same_Some p.inode.links (directory_links (tree_of_now v) (directory_from d))
    (sym (ap (option_map (λ (p : Placed). p.inode.links)) at)
    ∙ h birth (directory_from d) (tree_at v.contents.blocks v.contents.nodes birth p at ∙ ap (λ part. Some (node_from v.contents.blocks p.inode part)) is))

-- ---- counts

abbrev pub weigh : Tree → ℕ → ℕ
weigh tree b = cond (is_directory (at_number tree b)) 1 0

over_values : (tree : Tree) (names : List (List ℕ × ℕ)) → count_by (λ e. is_directory (at_number tree e.1)) names ≡ sum_by (weigh tree) (values_of names)
over_values tree [] = refl
over_values tree (e ∷ es) =
    let one = sum_by-cons (λ (e : List ℕ × ℕ). cond (is_directory (at_number tree e.1)) 1 0) e es in
    let two = sum_by-cons (weigh tree) e.1 (values_of es) in
    let rest = over_values tree es in
    omega arith

-- one name more
pub links_put_name : (u : Tree) (parent width slots more : ℕ) (names : List (List ℕ × ℕ)) (name : List ℕ) (birth : ℕ) → NamesInOrder names → at_name names name ≡ None →
    directory_links u (record { parent = parent; width = width; slots = more; names = put_name names name birth }) ≡ directory_links u (record { parent = parent; width = width; slots = slots; names = names }) + weigh u birth
links_put_name u parent width slots more names name birth sorted free =
    let sums = subst (λ o. sum_by (weigh u) (values_of (put_name names name birth)) + unwrap_or (option_map (weigh u) o) 0 ≡ sum_by (weigh u) (values_of names) + weigh u birth) free
    (sum_by-insert_entry (weigh u) nat_list_cmp_total names name birth sorted) in
    let one = over_values u (put_name names name birth) in
    let two = over_values u names in
    omega arith

-- one name less
pub links_take_name : (u : Tree) (parent width slots : ℕ) (names : List (List ℕ × ℕ)) (name : List ℕ) (birth : ℕ) → at_name names name ≡ Some birth →
    directory_links u (record { parent = parent; width = width; slots = slots; names = without_name_in names name }) + weigh u birth ≡ directory_links u (record { parent = parent; width = width; slots = slots; names = names })
links_take_name u parent width slots names name birth found =
    let sums = subst (λ o. sum_by (weigh u) (values_of (without_name_in names name)) + unwrap_or (option_map (weigh u) o) 0 ≡ sum_by (weigh u) (values_of names)) found
    (sum_by-remove_entry (weigh u) (is_at (name_cmp name)) names) in
    let one = over_values u (without_name_in names name) in
    let two = over_values u names in
    omega arith

pub weigh_directory : (u : Tree) (b : ℕ) → is_directory (at_number u b) ≡ true → weigh u b ≡ 1
weigh_directory u b e = ap (λ t. cond t 1 0) e

-- ---- a node and its name come

directory_same : (d e : Directory) → ◌≡◌ {A = Option Node} (Some (nodes.Directory d)) (Some (nodes.Directory e)) → d ≡ e
directory_same d e same = cc

in_named : (names : List (List ℕ × ℕ)) (e : List ℕ × ℕ) → NamesInOrder names → In e names → at_name names e.0 ≡ Some e.1
in_named [] e sorted i = absurd i
in_named (f ∷ fs) e sorted (inl same) = subst (λ (e : List ℕ × ℕ). at_name (f ∷ fs) e.0 ≡ Some e.1) same (found_first name_cmp nat_list_cmp_total name_here name_same f fs)
in_named (f ∷ fs) e sorted (inr i) = found_later name_cmp nat_list_cmp_total name_here name_same f fs e.0 e.1 sorted (in_named fs e (sorted_tail name_cmp f.0 (keys_of fs) sorted) i)

-- a name of a tree that hangs together leads to a node of it
pub leads_in : (tree : Tree) → IsRooted tree → (a : ℕ) (d : Directory) → at_number tree a ≡ Some (nodes.Directory d) → (e : List ℕ × ℕ) → In e d.names → is_some (at_number tree e.1) ≡ true
leads_in tree rooted a d at e i =
    let found : at_name d.names e.0 ≡ Some e.1 = in_named d.names e (rooted.names_in_order a d at) i in
    ap is_some (rooted.leads a e.0 e.1 (record { directory = d; stands = at; named = found })).1

module _ (tree : Tree) (rooted : IsRooted tree) (n : ℕ) (born : at_number tree n ≡ None) (node : Node) (parent : ℕ) (D : Directory) (at : at_number tree parent ≡ Some (nodes.Directory D))
    (name : List ℕ) (free : at_name D.names name ≡ None) (more : ℕ) where
  abbrev pub made_tree : Tree
  made_tree = put_number (put_number tree n node) parent (nodes.Directory (record { parent = D.parent; width = D.width; slots = more; names = put_name D.names name n }))

  apart : parent ≢ n
  apart e = none-some (nodes.Directory D) (sym born ∙ (ap (at_number tree) (sym e) ∙ at))

  kind_same : (b : ℕ) → b ≢ n → is_directory (at_number made_tree b) ≡ is_directory (at_number tree b)
  kind_same b other = at_put_cases (λ o. is_directory o ≡ is_directory (at_number tree b)) (put_number tree n node) parent _ b
      (λ e. sym (ap (λ b. is_directory (at_number tree b)) e ∙ ap is_directory at))
      (λ far. at_put_cases (λ o. is_directory o ≡ is_directory (at_number tree b)) tree n node b (λ e. absurd (other e)) (λ away. refl))

  kind_new : is_directory (at_number made_tree n) ≡ is_directory (Some node)
  kind_new = at_put_cases (λ o. is_directory o ≡ is_directory (Some node)) (put_number tree n node) parent _ n (λ e. absurd (apart (sym e)))
      (λ far. at_put_cases (λ o. is_directory o ≡ is_directory (Some node)) tree n node n (λ e. refl) (λ away. absurd (away refl)))

  names_same : (a : ℕ) (d : Directory) → at_number tree a ≡ Some (nodes.Directory d) → directory_links made_tree d ≡ directory_links tree d
  names_same a d found = links_same tree made_tree d (λ e i. kind_same e.1 (λ same. false≢true (ap is_some (sym born) ∙ (ap (λ b. is_some (at_number tree b)) (sym same) ∙ leads_in tree rooted a d found e i))))

  -- its directory has one link more where it is a directory, a new directory has its own, and others keep theirs
  pub made_linked : (before after : ℕ → Option ℕ) → AreLinked tree before →
      after parent ≡ Some (directory_links tree D + cond (is_directory (Some node)) 1 0) →
      ((d : Directory) → node ≡ nodes.Directory d → (d.names ≡ []) × (after n ≡ Some 2)) →
      ((a : ℕ) → a ≢ parent → a ≢ n → after a ≡ before a) → AreLinked made_tree after
  made_linked before after h here new others a d found = elim (cases_eq a parent) [
    | inl e ↦
        let same = directory_same (record { parent = D.parent; width = D.width; slots = more; names = put_name D.names name n }) d
        (sym (at_put_number (put_number tree n node) parent _) ∙ subst (λ a. at_number made_tree a ≡ Some (nodes.Directory d)) e found) in
        let one = links_put_name made_tree D.parent D.width D.slots more D.names name n (rooted.names_in_order parent D at) free in
        let two = names_same parent D at in
        let three : weigh made_tree n ≡ cond (is_directory (Some node)) 1 0 = ap (λ t. cond t 1 0) kind_new in
        ap after e ∙ (here ∙ ap Some (sum_to (directory_links tree D) _ _ _ _ two one three ∙ ap (directory_links made_tree) same))
    | inr far ↦
        let once : at_number (put_number tree n node) a ≡ Some (nodes.Directory d) = sym (at_put_number_apart (put_number tree n node) parent _ a far) ∙ found in
        elim (cases_eq a n) [
          | inl e ↦
              let is : node ≡ nodes.Directory d = same_Some node (nodes.Directory d) (sym (at_put_number tree n node) ∙ subst (λ a. at_number (put_number tree n node) a ≡ Some (nodes.Directory d)) e once) in
              let told = new d is in
              ap after e ∙ (told.1 ∙ ap (λ (names : List (List ℕ × ℕ)). Some (2 + count_by (λ e. is_directory (at_number made_tree e.1)) names)) (sym told.0))
          | inr away ↦
              let was : at_number tree a ≡ Some (nodes.Directory d) = sym (at_put_number_apart tree n node a away) ∙ once in
              others a far away ∙ (h a d was ∙ ap Some (sym (names_same a d was)))
        ]
  ]
    where
      sum_to : (x w y z k : ℕ) → y ≡ x → z ≡ y + k → k ≡ w → x + w ≡ z
      sum_to x w y z k e f g = omega arith
