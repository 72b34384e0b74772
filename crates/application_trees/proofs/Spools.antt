-- A message that was moved to its place is whole wherever its name is.
use Rattle.std.specs.Prelude.{◌≡◌, ◌⊎◌, ℕ, suc, ◌<◌, ◌≤◌, ◌+◌, List, Result, Ok, Err, IsOk, refl}
use Rattle.std.proofs.Common.{sym, ap, subst, ◌∙◌, inl, inr, arith}
use Rattle.std.proofs.lemmas.Bool.{cases_lt, false≢true}
use Rattle.tree_model.specs.declared.call.Room.{Room}
use Rattle.tree_model.specs.declared.node.File.{File}
use Rattle.tree_model.specs.declared.node.Node.TheVariants as nodes
use Rattle.tree_model.specs.Calls.{Tree}
use Rattle.tree_model.specs.Causes.{LeadsTo}
use Rattle.tree_model.specs.Histories.{block_at}
use Rattle.tree_model.specs.Maps.{at_number}
use Rattle.tree_model.specs.Trees.{Refusal, node_of_path}
use Rattle.application_trees.specs.Outcomes.{Outcome, HasHistory, Holds, Stays, Shows}
use Rattle.application_trees.specs.Runs.{ArePlain, IsMoved}
use Rattle.application_trees.proofs.Kept.{kept_file}
use Rattle.application_trees.proofs.Moves.{names_lead, new_blocks}

module _ (room : Room) (T : ℕ → Tree) (trees : ArePlain T) (o : Outcome) (same : (n : ℕ) → o.tree_at n ≡ T n) (h : HasHistory o)
    (path other : List ℕ) (fresh names : List (List ℕ)) (new b p : ℕ) (g : File) (x : IsMoved room T path other fresh names new b p g) where
  stays : Stays o new b g
  stays = record {
    after = λ v i from. inl (ap (λ t. block_at t new i) (same v) ∙ new_blocks room T trees path other fresh names new b p g x v i from);
    within = λ v i from to. ap (λ t. block_at t new i) (same v) ∙ new_blocks room T trees path other fresh names new b p g x v i from;
  }

  -- where the rename was recovered, the new path shows the file
  pub moved_whole : p < o.cut → Holds o new b → Shows o.tree names g
  moved_whole past holds =
      let order = x.order in
      kept_file o h new b g (omega (arith, order, past)) holds stays names
      (subst (λ t. LeadsTo t names new (nodes.File g)) (sym (same o.cut)) (names_lead room T trees path other fresh names new b p g x o.cut past))

  -- so it does wherever the new path leads anywhere, if it led nowhere before
  pub there_is_whole : ((v birth : ℕ) → v ≤ p → node_of_path (T v) names ≡ Ok birth → ⊥) → (p < o.cut → Holds o new b) → IsOk (node_of_path o.tree names) → Shows o.tree names g
  there_is_whole none holds there =
      elim (cases_lt p o.cut) [
        | inl past ↦ moved_whole past (holds past)
        | inr up ↦ absurd (before up (node_of_path (o.tree_at o.cut) names) refl (o.alike.no_more_paths names there))
      ]
    where
      before : o.cut ≤ p → (r : Result ℕ Refusal) → node_of_path (o.tree_at o.cut) names ≡ r → IsOk r → ⊥
      before up (Ok birth) e ok = none o.cut birth up (ap (λ t. node_of_path t names) (sym (same o.cut)) ∙ e)
      before up (Err why) e ok = absurd (false≢true ok)
