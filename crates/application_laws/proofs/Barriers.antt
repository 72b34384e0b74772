-- A barrier or sync call of a path covers the file to which that led where the call began.
use Rattle.std.specs.Prelude.{◌≡◌, ℕ, suc, ◌+◌, Bool, true, false, List, Option, Some, None, Result, Ok, Err, if◌then◌else◌}
use Rattle.std.proofs.Common.{sym, ap, subst, ◌∙◌, arith}
use Rattle.tree_model.specs.declared.call.Call.{Call}
use Rattle.tree_model.specs.declared.call.Reply.{Reply}
use Rattle.tree_model.specs.declared.call.Reply.TheVariants.{BadPath}
use Rattle.tree_model.specs.declared.node.Node.{Node}
use Rattle.tree_model.specs.Calls.{Tree, Found, and_then, if_some, refused_walk, found_at, walk, walk_path}
use Rattle.tree_model.specs.Causes.{LeadsTo}
use Rattle.tree_model.specs.Maps.{at_number}
use Rattle.tree_model.specs.Paths.{path_of}
use Rattle.tree_model.specs.Trees.{Refusal}
use Rattle.crash_laws.specs.PromiseRules.{IsOn}
use Rattle.flush_actor.specs.Kinds.{is_whole}
use Rattle.minix_host.specs.Calls.{kind_of, path_of_call, birth_on}
use Rattle.call_sessions.specs.promises.Answers.{AnsweredAt, WasAnswered, node_in}
use Rattle.session_grammar.specs.declared.session_script.SessionScript.{SessionScript}
use Rattle.session_core.specs.Core.{EndState, opening_of}
use Rattle.session_core.specs.Headline.{HeadlineOn}
use Rattle.session_core.specs.declared.report.SessionReport.{SessionReport}
use Rattle.application_laws.specs.Left.{trees_of, IsBarred}

walked : (tree : Tree) (path : List ℕ) (names : List (List ℕ)) (f : ℕ) (node : Node) → path_of path ≡ Some names → LeadsTo tree names f node → walk_path tree path ≡ Ok (record { birth = f; node = node })
walked tree path names f node named x =
    ap (λ (o : Option (List (List ℕ))). and_then (if_some o BadPath) (walk tree)) named
    ∙ ap (λ (o : Result ℕ Refusal). and_then (elim o as (λ _. Result ℕ Reply) [ Err refusal ↦ Err (refused_walk refusal) | Ok birth ↦ Ok birth ]) (λ birth. found_at birth (at_number tree birth))) x.path
    ∙ ap (found_at f) x.stands

node_led : (tree : Tree) (c : Call) (path : List ℕ) (names : List (List ℕ)) (f : ℕ) (node : Node) → path_of_call c ≡ Some path → path_of path ≡ Some names → LeadsTo tree names f node → node_in tree c ≡ f
node_led tree c path names f node has named x =
    ap (λ (o : Option (List ℕ)). elim o as (λ _. ℕ) [ None ↦ 0 | Some p ↦ birth_on tree p ]) has
    ∙ ap (λ (o : Result Found Reply). elim o as (λ _. ℕ) [ Err reply ↦ 0 | Ok found ↦ found.birth ]) (walked tree path names f node named x)

pub is_barred : (s : SessionScript) (end : EndState) (r : SessionReport) (is : HeadlineOn s end r) (e t : ℕ) (c : Call) (ok : AnsweredAt end.host e t c) (path : List ℕ) (names : List (List ℕ)) (f : ℕ) (node : Node) →
    path_of_call c ≡ Some path → is_whole (kind_of c) ≡ false → path_of path ≡ Some names → LeadsTo (trees_of s end (is.answered e t c ok).place) names f node → IsBarred s end r is f (is.answered e t c ok).place e
is_barred s end r is e t c ok path names f node has one named x =
    let w = is.answered e t c ok in
    record {
      thread = t;
      call = c;
      ok = ok;
      on = subst (λ (z : Bool). IsOn (if z then None else Some w.begun.file) f) (sym (ap is_whole w.kind ∙ one)) (w.node ∙ node_led (trees_of s end w.place) c path names f node has named x);
      begin = (let next : w.place + 1 ≡ suc w.place = omega arith in w.number ∙ next);
    }
