-- How many zones a rename takes.
use Rattle.std.specs.Prelude.{◌≡◌, ◌≤◌, ◌+◌, ◌-◌, ℕ, List, ◌==◌, nat_le, not, ◌&&◌, Bool, true, false, if◌then◌else◌, Option, Some, None, refl}
use Rattle.std.proofs.Common.{sym, ap, subst, ◌∙◌, inl, inr, arith, eq-eqb}
use Rattle.std.proofs.lemmas.Bool.{cases_Bool, cases_eq, true≢false}
use Rattle.tree_model.specs.declared.node.Node.TheVariants as nodes
use Rattle.tree_model.specs.declared.node.Directory.{Directory}
use Rattle.tree_model.specs.declared.node.File.{File}
use Rattle.tree_model.specs.Maps.{at_number, put_number, without_number}
use Rattle.tree_model.specs.laws.MapOrder.{InOrder, in_order_put}
use Rattle.tree_model.specs.laws.MapsLaws.{at_put_number_apart}
use Rattle.tree_model.specs.Plain.{IsPlain}
use Rattle.tree_model.specs.Trees.{is_directory}
use Rattle.tree_model.specs.Calls.{Tree, Done, Found, Place, Move, directory_zones, used_zones, slots_with, with_name, without_name, is_file, stays, changes_parent, lose_link, with_links, tree_moved}
use Rattle.tree_model.proofs.Blocks.{target_stands}
use Rattle.volume_steps.proofs.TreeSteps.{used_put_same, used_put_more, used_without_one}
use Rattle.volume_steps.proofs.RenameTree.{Renames, F, T, B, A, m, Taken, named_tree, What, a_dir, a_fil, what, Met, none_met, file_met, itself, met, is_from, is_to, to_apart, to_taken, moved_taken, order_taken, still_met, moves_only, moves_below, replaces}

module _ (tree : Tree) (plain : IsPlain tree) (path other : List ℕ) (d : Done) (r : Renames tree path other d) where
  abbrev to : Place
  to = T tree plain path other d r

  abbrev from : Place
  from = F tree plain path other d r

  abbrev after : Directory
  after = (A tree plain path other d r).directory

  abbrev taken : Tree
  taken = Taken tree plain path other d r

  abbrev move : Move
  move = m tree plain path other d r

  used_taken : used_zones taken ≡ used_zones tree
  used_taken = used_put_same tree from.parent (nodes.Directory from.directory) (nodes.Directory (without_name from.directory from.name)) plain.rooted.in_order (is_from tree plain path other d r).stands refl

  -- with the new name, as many more as the slots need
  used_named : (t : Tree) → InOrder t → at_number t to.parent ≡ Some (nodes.Directory after) →
      used_zones (named_tree tree plain path other d r t) + directory_zones after.width after.slots ≡ used_zones t + directory_zones after.width (slots_with after to.name)
  used_named t order there = used_put_more t to.parent (nodes.Directory after) (nodes.Directory (with_name after to.name (B tree plain path other d r))) order there

  lost_less : (t : Tree) (birth : ℕ) (f : File) → InOrder t → at_number t birth ≡ Some (nodes.File f) → used_zones (lose_link t birth f) ≤ used_zones t
  lost_less t birth f order there = by (nat_le f.links 1)
    where
      by : (b : Bool) → used_zones (if b then without_number t birth else put_number t birth (nodes.File (with_links f (f.links - 1)))) ≤ used_zones t
      by true = (let less = used_without_one t birth (nodes.File f) there in omega arith)
      by false = (let same = used_put_same t birth (nodes.File f) (nodes.File (with_links f (f.links - 1))) order there refl in omega arith)

  -- So many are taken: none where a node stands there, or in one directory, and else what the new name needs.
  pub rename_takes : (zones : ℕ) → (stays move ≡ true → zones ≡ 0) → ((t : Found) → move.target ≡ Some t → zones ≡ 0) →
      (move.target ≡ None → directory_zones after.width after.slots + zones ≡ directory_zones after.width (slots_with after to.name)) → zones ≡ used_zones d.tree - used_zones tree
  rename_takes zones quiet onto free = elim (cases_Bool (stays move)) [
    | inl e ↦ quiet e ∙ none_more (r.tree_is ∙ ap (λ (b : Bool). if b then tree else tree_moved tree move) e)
    | inr f ↦ by f (met tree plain path other d r)
  ]
    where
      none_more : d.tree ≡ tree → 0 ≡ used_zones d.tree - used_zones tree
      none_more e = (let same = ap used_zones e in omega arith)

      count : (z a b used grown : ℕ) → used ≡ b → grown + a ≡ used + (a + z) → z ≡ grown - b
      count z a b used grown e f = omega arith

      counted : (t : Tree) → used_zones t ≡ used_zones tree → InOrder t → at_number t to.parent ≡ Some (nodes.Directory after) → named_tree tree plain path other d r t ≡ d.tree → move.target ≡ None → zones ≡ used_zones d.tree - used_zones tree
      counted t used order there final none =
          count zones (directory_zones after.width after.slots) (used_zones tree) (used_zones t) (used_zones d.tree) used
          (subst (λ u. used_zones u + directory_zones after.width after.slots ≡ used_zones t + directory_zones after.width (slots_with after to.name)) final (used_named t order there)
          ∙ ap (λ k. used_zones t + k) (sym (free none)))

      moving : stays move ≡ false → move.target ≡ None → What tree plain path other d r → zones ≡ used_zones d.tree - used_zones tree
      moving f none (a_fil g is) = counted taken used_taken (order_taken tree plain path other d r) (to_taken tree plain path other d r)
          (moves_only tree plain path other d r f none (ap (λ x. is_directory (Some x) && changes_parent move) is)) none
      moving f none (a_dir e is up) = elim (cases_eq to.parent from.parent) [
        | inl inside ↦ counted taken used_taken (order_taken tree plain path other d r) (to_taken tree plain path other d r)
            (moves_only tree plain path other d r f none (ap (λ x. is_directory (Some x) && not (to.parent == from.parent)) is ∙ ap not (eq-eqb to.parent from.parent inside))) none
        | inr away ↦
            let x : Directory = record { parent = to.parent; width = e.width; slots = e.slots; names = e.names } in
            let there = moved_taken tree plain path other d r ∙ ap Some is in
            counted (put_number taken (B tree plain path other d r) (nodes.Directory x))
            (used_put_same taken (B tree plain path other d r) (nodes.Directory e) (nodes.Directory x) (order_taken tree plain path other d r) there refl ∙ used_taken)
            (in_order_put taken (B tree plain path other d r) (nodes.Directory x) (order_taken tree plain path other d r))
            (at_put_number_apart taken (B tree plain path other d r) (nodes.Directory x) to.parent (λ f. to_apart tree plain path other d r (sym f)) ∙ to_taken tree plain path other d r)
            (moves_below tree plain path other d r f none e is) none
      ]

      by : stays move ≡ false → Met tree plain path other d r → zones ≡ used_zones d.tree - used_zones tree
      by f (itself e) = quiet e ∙ none_more (r.tree_is ∙ ap (λ (b : Bool). if b then tree else tree_moved tree move) e)
      by f (none_met none unnamed) = moving f none (what tree plain path other d r)
      by f (file_met t g target is named apart) = onto t target ∙ file (what tree plain path other d r)
        where
          there : at_number tree t.birth ≡ Some (nodes.File g)
          there = target_stands tree to t target ∙ ap Some is

          met_stands : at_number (named_tree tree plain path other d r taken) t.birth ≡ Some (nodes.File g)
          met_stands = at_put_number_apart taken to.parent _ t.birth (λ e. cc (sym (is_to tree plain path other d r).stands ∙ (ap (at_number tree) (sym e) ∙ there)))
              ∙ (at_put_number_apart tree from.parent _ t.birth (λ e. cc (sym (is_from tree plain path other d r).stands ∙ (ap (at_number tree) (sym e) ∙ there))) ∙ there)

          keeps_slots : slots_with after to.name ≡ after.slots
          keeps_slots = (let some = still_met tree plain path other d r t.birth named apart in rw some refl)

          file : What tree plain path other d r → 0 ≡ used_zones d.tree - used_zones tree
          file (a_dir e dir up) = absurd (true≢false
              (sym (ap (λ (o : Option Found). elim o as (λ _. Bool) [ None ↦ false | Some t ↦ is_file (Some t.node) ] && is_directory (Some r.found.node)) target
              ∙ (ap (λ x. is_file (Some x) && is_directory (Some r.found.node)) is ∙ ap (λ x. is_directory (Some x)) dir)) ∙ r.no_file))
          file (a_fil h moved) =
              let final = ap used_zones (replaces tree plain path other d r f t g h target is apart moved) in
              let less = lost_less (named_tree tree plain path other d r taken) t.birth g (in_order_put taken to.parent _ (order_taken tree plain path other d r)) met_stands in
              let grown = used_named taken (order_taken tree plain path other d r) (to_taken tree plain path other d r) in
              let same = ap (directory_zones after.width) keeps_slots in
              let used = used_taken in
              omega arith
