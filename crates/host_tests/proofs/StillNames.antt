-- Calls that change nothing, from what the host asks of them.
use Rattle.std.specs.Prelude.{◌≡◌, ℕ, Bool, not, false, true, List, Result, Ok, Err, refl}
use Rattle.std.proofs.Common.{ap, ◌∙◌}
use Rattle.std.proofs.lemmas.Bool.{eq-eqb}
use Rattle.tree_model.specs.declared.call.Call.TheVariants as calls
use Rattle.tree_model.specs.declared.call.Reply.{Reply}
use Rattle.tree_model.specs.declared.call.Reply.TheVariants as replies
use Rattle.tree_model.specs.declared.node.Node.{Node}
use Rattle.tree_model.specs.Maps.{at_number}
use Rattle.tree_model.specs.Calls.{Tree, Found, and_then, if_some, found_at, refused_walk, walk, walk_path}
use Rattle.tree_model.specs.Histories.{is_found_at}
use Rattle.tree_model.specs.CallWords.{StandsAt}
use Rattle.volume_steps.specs.Now.{VolumeNow, tree_of_now}
use Rattle.minix_host.specs.Calls.{would_change, names_one}

walked : (tree : Tree) (path : List ℕ) (birth : ℕ) (node : Node) → StandsAt tree path birth node → walk_path tree path ≡ Ok (record { birth = birth; node = node })
walked tree path birth node s =
    ap (λ o. and_then (if_some o replies.BadPath) (walk tree)) s.named
    ∙ (ap (λ r. and_then (elim r as (λ _. Result ℕ Reply) [ Err refusal ↦ Err (refused_walk refusal) | Ok b ↦ Ok b ]) (λ b. found_at b (at_number tree b))) s.leads.path
    ∙ ap (found_at birth) s.leads.stands)

one_node : (tree : Tree) (path other : List ℕ) (birth : ℕ) (node : Node) → StandsAt tree path birth node → StandsAt tree other birth node → names_one tree path other ≡ true
one_node tree path other birth node s t =
    ap (λ r. by r (walk_path tree other)) (walked tree path birth node s)
    ∙ (ap (λ r. is_found_at r birth) (walked tree other birth node t) ∙ eq-eqb birth birth refl)
  where
    by : Result Found Reply → Result Found Reply → Bool
    by r o = elim r as (λ _. Bool) [ Err reply ↦ false | Ok found ↦ is_found_at o found.birth ]

pub still_rename : (v : VolumeNow) (path other : List ℕ) (birth : ℕ) (node : Node) → StandsAt (tree_of_now v) path birth node → StandsAt (tree_of_now v) other birth node
    → would_change v (calls.Rename path other) ≡ false
unfolding would_change
still_rename v path other birth node s t = ap not (one_node (tree_of_now v) path other birth node s t)
