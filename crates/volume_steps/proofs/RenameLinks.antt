-- The links of directories, over a rename.
use Rattle.std.specs.Prelude.{◌≡◌, ◌≢◌, ◌+◌, ◌-◌, ℕ, ◌==◌, Bool, true, false, not, if◌then◌else◌, cond, List, [], ◌∷◌, Option, Some, option_map, unwrap_or, refl, count_by}
use Rattle.std.specs.List.{sum_by}
use Rattle.std.specs.Map.{values_of}
use Rattle.std.proofs.Common.{sym, ap, subst, ◌∙◌, arith, eqb-true}
use Rattle.std.proofs.lemmas.Bool.{eqb-false}
use Rattle.std.proofs.lemmas.Cmp.{nat_list_cmp_total}
use Rattle.std.proofs.lemmas.List.Sums.{sum_by-cons}
use Rattle.std.proofs.lemmas.Map.Entries.{sum_by-insert_entry}
use Rattle.tree_model.specs.declared.node.Node.{Node}
use Rattle.tree_model.specs.declared.node.Node.TheVariants as nodes
use Rattle.tree_model.specs.declared.node.Directory.{Directory}
use Rattle.tree_model.specs.Maps.{at_number, at_name, put_name}
use Rattle.tree_model.specs.laws.MapOrder.{NamesInOrder, at_put_cases}
use Rattle.tree_model.specs.Trees.{is_directory, directory_links}
use Rattle.tree_model.specs.Plain.{IsPlain}
use Rattle.tree_model.specs.Calls.{Tree, Done, with_name, without_name, slots_with}
use Rattle.tree_model.proofs.NamedNodes.{links_same}
use Rattle.volume_steps.proofs.DirectoryLinks.{AreLinked, weigh, links_take_name}
use Rattle.volume_steps.proofs.RenameTree.{Renames, F, T, B, A, Taken, is_from, from_named, after_sorted, same_directory}

over_names : (tree : Tree) (names : List (List ℕ × ℕ)) → count_by (λ e. is_directory (at_number tree e.1)) names ≡ sum_by (weigh tree) (values_of names)
over_names tree [] = refl
over_names tree (e ∷ es) =
    let one = sum_by-cons (λ (e : List ℕ × ℕ). cond (is_directory (at_number tree e.1)) 1 0) e es in
    let two = sum_by-cons (weigh tree) e.1 (values_of es) in
    let rest = over_names tree es in
    omega arith

-- a name that is put, whatever it led to
links_put_any : (u : Tree) (parent width slots more : ℕ) (names : List (List ℕ × ℕ)) (name : List ℕ) (birth : ℕ) → NamesInOrder names → unwrap_or (option_map (weigh u) (at_name names name)) 0 ≡ 0 →
    directory_links u (record { parent = parent; width = width; slots = more; names = put_name names name birth }) ≡ directory_links u (record { parent = parent; width = width; slots = slots; names = names }) + weigh u birth
links_put_any u parent width slots more names name birth sorted light =
    let sums = sum_by-insert_entry (weigh u) nat_list_cmp_total names name birth sorted in
    let one = over_names u (put_name names name birth) in
    let two = over_names u names in
    omega arith

module _ (tree : Tree) (plain : IsPlain tree) (path other : List ℕ) (d : Done) (r : Renames tree path other d) where
  abbrev f : ℕ
  f = (F tree plain path other d r).parent

  abbrev t : ℕ
  t = (T tree plain path other d r).parent

  abbrev old_directory : Directory
  old_directory = (F tree plain path other d r).directory

  abbrev old_name : List ℕ
  old_name = (F tree plain path other d r).name

  abbrev new_directory : Directory
  new_directory = (T tree plain path other d r).directory

  abbrev new_name : List ℕ
  new_name = (T tree plain path other d r).name

  abbrev b : ℕ
  b = B tree plain path other d r

  abbrev after_directory : Directory
  after_directory = (A tree plain path other d r).directory

  -- a directory of the tree afterwards
  pub data Stood (final : Tree) (a : ℕ) (e : Directory) : Type 0 where
    new : a ≡ t → with_name after_directory new_name b ≡ e → Stood final a e
    old : a ≢ t → a ≡ f → without_name old_directory old_name ≡ e → Stood final a e
    same : a ≢ t → a ≢ f → (o : Directory) → at_number tree a ≡ Some (nodes.Directory o) → o.names ≡ e.names → Stood final a e

  -- in the tree without the old name
  pub stood_taken : (a : ℕ) (e : Directory) → a ≢ t → at_number (Taken tree plain path other d r) a ≡ Some (nodes.Directory e) → (final : Tree) → Stood final a e
  stood_taken a e far found final = at_put_cases (λ o. o ≡ Some (nodes.Directory e) → Stood final a e) tree f (nodes.Directory (without_name old_directory old_name)) a
      (λ here is. old far here (directory_same _ e is))
      (λ away is. same far away e is refl) found
    where
      directory_same : (d e : Directory) → ◌≡◌ {A = Option Node} (Some (nodes.Directory d)) (Some (nodes.Directory e)) → d ≡ e
      directory_same d e alike = cc

  module _ (final : Tree) (kinds : (c : ℕ) → is_directory (at_number final c) ≡ is_directory (at_number tree c)) (stood : (a : ℕ) (e : Directory) → at_number final a ≡ Some (nodes.Directory e) → Stood final a e)
      (light : unwrap_or (option_map (weigh final) (at_name after_directory.names new_name)) 0 ≡ 0)
      (before after : ℕ → Option ℕ) (linked : AreLinked tree before) (stands : at_number tree t ≡ Some (nodes.Directory new_directory))
      (within : t ≡ f → after t ≡ before t)
      (to_more : t ≢ f → (l : ℕ) → before t ≡ Some l → after t ≡ Some (l + weigh tree b))
      (from_less : t ≢ f → (l : ℕ) → before f ≡ Some l → after f ≡ Some (l - weigh tree b))
      (others : (a : ℕ) (e : Directory) → at_number final a ≡ Some (nodes.Directory e) → a ≢ t → a ≢ f → after a ≡ before a) where
    weight : weigh final b ≡ weigh tree b
    weight = ap (λ (x : Bool). cond x 1 0) (kinds b)

    links_kept : (e : Directory) → directory_links final e ≡ directory_links tree e
    links_kept e = links_same tree final e (λ e i. kinds e.1)

    given : directory_links final (with_name after_directory new_name b) ≡ directory_links final after_directory + weigh final b
    given = links_put_any final after_directory.parent after_directory.width after_directory.slots (slots_with after_directory new_name) after_directory.names new_name b (after_sorted tree plain path other d r) light

    less : directory_links final (without_name old_directory old_name) + weigh final b ≡ directory_links final old_directory
    less = links_take_name final old_directory.parent old_directory.width old_directory.slots old_directory.names old_name b (from_named tree plain path other d r)

    -- the new parent
    here : (x : Bool) → (t == f) ≡ x → directory_links final (if not x then new_directory else without_name new_directory old_name) + weigh final b ≡ directory_links final (with_name after_directory new_name b) →
        after t ≡ Some (directory_links final (with_name after_directory new_name b))
    here true e sum =
        let inside = eqb-true t f e in
        let taken = subst (λ (d : Directory). directory_links final (without_name d old_name) + weigh final b ≡ directory_links final d) (same_directory tree plain path other d r inside) less in
        within inside ∙ (linked t new_directory stands ∙ ap Some (sym (links_kept new_directory) ∙ (sym taken ∙ sum)))
    here false e sum =
        let apart = eqb-false t f e in
        to_more apart (directory_links tree new_directory) (linked t new_directory stands)
        ∙ ap Some (sum_to (directory_links tree new_directory) (directory_links final new_directory) (weigh tree b) (weigh final b) (directory_links final (with_name after_directory new_name b)) (links_kept new_directory) weight sum)
      where
        sum_to : (x y w u z : ℕ) → y ≡ x → u ≡ w → y + u ≡ z → x + w ≡ z
        sum_to x y w u z e g h = omega arith

    pub rename_linked : AreLinked final after
    rename_linked a e found = by (stood a e found)
      where
        sum_less : (x y w u z : ℕ) → y ≡ x → u ≡ w → z + u ≡ y → x - w ≡ z
        sum_less x y w u z e g h = omega arith

        by : Stood final a e → after a ≡ Some (directory_links final e)
        by (new at is) = ap after at ∙ (here (t == f) refl (sym given) ∙ ap (λ e. Some (directory_links final e)) is)
        by (old far at is) =
            ap after at
            ∙ (from_less (λ inside. far (at ∙ sym inside)) (directory_links tree old_directory) (linked f old_directory (is_from tree plain path other d r).stands)
            ∙ ap Some (sum_less (directory_links tree old_directory) (directory_links final old_directory) (weigh tree b) (weigh final b) (directory_links final (without_name old_directory old_name)) (links_kept old_directory) weight less
            ∙ ap (directory_links final) is))
        by (same far away o was names) =
            others a e found far away
            ∙ (linked a o was ∙ ap Some (sym (links_kept o) ∙ ap (λ (names : List (List ℕ × ℕ)). 2 + count_by (λ e. is_directory (at_number final e.1)) names) names))
