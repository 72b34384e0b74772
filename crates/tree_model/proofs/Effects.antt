-- What a call does, in words of paths.
use Rattle.std.specs.Prelude.{◌≡◌, ℕ, List, [], ◌∷◌, ◌++◌, Some, Result, Ok}
use Rattle.std.proofs.Common.{sym, ap, ◌∙◌}
use Rattle.tree_model.specs.Maps.{at_number}
use Rattle.tree_model.specs.Rooted.{IsRooted}
use Rattle.tree_model.specs.Trees.{Refusal, step_at, led_to, node_of_path}
use Rattle.tree_model.specs.Calls.{Tree, Place, all_but_last}
use Rattle.tree_model.specs.laws.Alike.{step_gives, step_given, led_on, led_parts, led_push}
use Rattle.tree_model.proofs.Rows.{IsPlace}
use Rattle.tree_model.proofs.Plain.{edge_of, gives_edge, edge_gives}
use Rattle.tree_model.proofs.Causes.{front_last}

-- names that lead somewhere still do, where each name on the way is kept
pub led_kept : (tree after : Tree) → IsRooted after → ((q : ℕ) (k : List ℕ) (c : ℕ) → edge_of tree q k ≡ Some c → edge_of after q k ≡ Some c) →
    (names : List (List ℕ)) (start birth : ℕ) → led_to tree start names ≡ Ok birth → led_to after start names ≡ Ok birth
led_kept tree after rooted kept [] start birth h = h
led_kept tree after rooted kept (name ∷ names) start birth h =
    let x = led_parts tree (step_at (at_number tree start) name) names birth h in
    let g = edge_gives after start name x.0 (kept start name x.0 (gives_edge tree start name x.0 (step_gives tree start name x.0 x.1))) in
    ap (λ (r : Result ℕ Refusal). led_on after r names) (step_given after rooted start name x.0 g) ∙ led_kept tree after rooted kept names x.0 birth x.2

-- so the names of a place lead to what its name leads to now
pub place_leads : (tree after : Tree) → IsRooted after → ((q : ℕ) (k : List ℕ) (c : ℕ) → edge_of tree q k ≡ Some c → edge_of after q k ≡ Some c) →
    (names : List (List ℕ)) (p : Place) → IsPlace tree names p → (b : ℕ) → edge_of after p.parent p.name ≡ Some b → node_of_path after names ≡ Ok b
place_leads tree after rooted kept names p h b e =
    let front = led_kept tree after rooted kept (all_but_last h.first h.rest) 0 p.parent h.path in
    let step = step_given after rooted p.parent p.name b (edge_gives after p.parent p.name b e) in
    ap (node_of_path after) (h.names_are ∙ (sym (front_last h.first h.rest) ∙ ap (λ name. all_but_last h.first h.rest ++ name ∷ []) h.name_is))
    ∙ led_push after (all_but_last h.first h.rest) 0 p.parent b p.name front step
