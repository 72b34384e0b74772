-- What calls on other paths leave alone.
use Rattle.std.specs.Prelude.{◌≡◌, ◌≢◌, ◌⊎◌, ℕ, zero, suc, ◌+◌, ◌<◌, ◌≤◌, Bool, true, false, List, [], ◌∷◌, ◌++◌, Option, Some, None, Result, Ok, Err, is_some, refl}
use Rattle.std.proofs.Common.{sym, ap, subst, ◌∙◌, inl, inr, arith}
use Rattle.std.proofs.lemmas.Bool.{cases_lt, false≢true, true≢false}
use Rattle.std.proofs.lemmas.List.{append-nil}
use Rattle.std.proofs.lemmas.Option.{same_Some}
use Rattle.tree_model.specs.declared.call.Call.{Call}
use Rattle.tree_model.specs.declared.call.Call.TheVariants as calls
use Rattle.tree_model.specs.declared.call.Reply.{Reply}
use Rattle.tree_model.specs.declared.call.Room.{Room}
use Rattle.tree_model.specs.declared.node.Directory.{Directory}
use Rattle.tree_model.specs.declared.node.File.{File}
use Rattle.tree_model.specs.declared.node.Node.{Node}
use Rattle.tree_model.specs.declared.node.Node.TheVariants as nodes
use Rattle.tree_model.specs.laws.Alike.{same_ok}
use Rattle.tree_model.specs.laws.MapsLaws.{at_put_number_apart}
use Rattle.tree_model.specs.Calls.{Tree, Done, Row, row, outcome, tree_from, reply_from, tree_after, reply_of}
use Rattle.tree_model.specs.CallWords.{IsFileChange, StandsAt}
use Rattle.tree_model.specs.Causes.{LeadsTo}
use Rattle.tree_model.specs.Histories.{is_ok}
use Rattle.tree_model.specs.Maps.{at_number}
use Rattle.tree_model.specs.Paths.{path_of}
use Rattle.tree_model.specs.Plain.{IsPlain, AreBornBefore}
use Rattle.tree_model.specs.Trees.{node_of_path}
use Rattle.tree_model.proofs.Causes.{refused_for, cause_not_ok}
use Rattle.tree_model.proofs.Changes.{create_made, outcome_row}
use Rattle.tree_model.proofs.FileChanges.{write_file, write_paths, write_rest}
use Rattle.tree_model.proofs.NamesCome.{create_paths}
use Rattle.application_trees.specs.Runs.{SamePath, LeavesAlone}

-- the tree after a call, by how it comes out
pub after_call : (P : Tree → Type 0) (room : Room) (tree : Tree) (n : ℕ) (c : Call) → P tree → ((d : Done) → outcome room tree n c ≡ Ok d → P d.tree) → P (tree_after room tree n c)
unfolding tree_after
after_call P room tree n c same done = by (outcome room tree n c) refl
  where
    by : (r : Row) → outcome room tree n c ≡ r → P (tree_from tree (outcome room tree n c))
    by (Err reply) e = subst (λ r. P (tree_from tree r)) (sym e) same
    by (Ok d) e = subst (λ r. P (tree_from tree r)) (sym e) (done d e)

-- a call that is answered Ok is done
pub ok_done : (room : Room) (tree : Tree) → IsPlain tree → (n : ℕ) (c : Call) → is_ok (reply_of room tree n c) ≡ true → (d : Done) × (outcome room tree n c ≡ Ok d) × (tree_after room tree n c ≡ d.tree)
unfolding reply_of tree_after
ok_done room tree plain n c ok = by (outcome room tree n c) refl
  where
    by : (r : Row) → outcome room tree n c ≡ r → (d : Done) × (outcome room tree n c ≡ Ok d) × (tree_from tree (outcome room tree n c) ≡ d.tree)
    by (Err reply) e = absurd (true≢false (sym ok ∙ ap (λ r. is_ok (reply_from r)) e ∙ cause_not_ok room tree n c reply (refused_for room tree plain.rooted n c reply e)))
    by (Ok d) e = (d, e, ap (tree_from tree) e)

abbrev is_dir : Option Node → Bool
is_dir (Some (nodes.Directory d)) = true
is_dir other = false

module _ (room : Room) (tree : Tree) (plain : IsPlain tree) (n : ℕ) (born : AreBornBefore n tree) (path : List ℕ) (fresh : List (List ℕ)) (fresh_is : path_of path ≡ Some fresh) (old : ℕ) (f : File) (stands : at_number tree old ≡ Some (nodes.File f)) where
  -- `create` of any path leaves a file alone
  pub create_leaves : (d : Done) → outcome room tree n (calls.Create path) ≡ Ok d → at_number d.tree old ≡ at_number tree old
  unfolding row
  create_leaves d e =
      let x = create_made tree n path d (outcome_row room tree n (calls.Create path) d e) in
      let m = x.0 in
      let low : old < n = born old (nodes.File f) stands in
      let new : old ≢ n = λ same. (let never : old ≡ n = same in omega (arith, low, never)) in
      let away : old ≢ m.place.parent = λ same. false≢true (sym (ap is_dir stands) ∙ ap is_dir (ap (at_number tree) same ∙ m.is_place.stands)) in
      ap (λ t. at_number t old) m.tree_is
      ∙ (at_put_number_apart _ m.place.parent _ old away ∙ at_put_number_apart tree n _ old new)

  -- a path that led to a file leads there, and another leads to no other file
  pub create_keeps_path : (d : Done) → outcome room tree n (calls.Create path) ≡ Ok d → (names : List (List ℕ)) → node_of_path tree names ≡ Ok old → node_of_path d.tree names ≡ Ok old
  create_keeps_path d e names led = (create_paths room tree plain n born path fresh d fresh_is e names old).1 (inl led)

  pub create_apart : (d : Done) → outcome room tree n (calls.Create path) ≡ Ok d → (names : List (List ℕ)) → (node_of_path tree names ≡ Ok old → ⊥) → node_of_path d.tree names ≡ Ok old → ⊥
  create_apart d e names none led =
      elim ((create_paths room tree plain n born path fresh d fresh_is e names old).0 led) [
        | inl was ↦ none was
        | inr new ↦ (let low : old < n = born old (nodes.File f) stands in let same : old ≡ n = new.1 in omega (arith, low, same))
      ]

module _ (room : Room) (tree : Tree) (n : ℕ) (path : List ℕ) (fresh : List (List ℕ)) (fresh_is : path_of path ≡ Some fresh) (off : ℕ) (bytes : List ℕ) (d : Done) (done : outcome room tree n (calls.Bytes path off bytes) ≡ Ok d) where
  pub write_keeps_path : (names : List (List ℕ)) → node_of_path d.tree names ≡ node_of_path tree names
  write_keeps_path = write_paths room tree n path off bytes d done

  -- a write leaves all nodes alone but the one to which its path leads
  pub write_leaves : (old : ℕ) → (node_of_path tree fresh ≡ Ok old → ⊥) → at_number d.tree old ≡ at_number tree old
  write_leaves old none =
      let x = write_file room tree n path off bytes d done in
      let change = x.3 in
      let same : change.before.names ≡ fresh = same_Some change.before.names fresh (sym change.before.named ∙ fresh_is) in
      write_rest room tree n path off bytes d x.0 x.1 x.2 change old (λ e. none (ap (node_of_path tree) (sym same) ∙ change.before.leads.path ∙ ap Ok (sym e)))
