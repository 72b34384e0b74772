-- What barrier and sync calls cover is there.
use Rattle.std.specs.Prelude.{◌≡◌, ◌⊎◌, ℕ, ◌≤◌, Bool, true, false, not, List, [], Option, Some, Result, Ok, Err, is_some, unwrap_or, refl, if◌then◌else◌, None}
use Rattle.std.proofs.Common.{sym, ap, ◌∙◌, inl, inr, arith}
use Rattle.std.proofs.lemmas.Bool.{cases_lt, false≢true}
use Rattle.tree_model.specs.declared.call.Call.{Call}
use Rattle.tree_model.specs.declared.call.Reply.{Reply}
use Rattle.tree_model.specs.declared.call.Reply.TheVariants.{BadPath}
use Rattle.tree_model.specs.declared.node.Node.{Node}
use Rattle.tree_model.specs.Calls.{Tree, Found, and_then, if_some, refused_walk, found_at, walk, walk_path}
use Rattle.tree_model.specs.Histories.{block_at}
use Rattle.tree_model.specs.Maps.{at_number}
use Rattle.tree_model.specs.Paths.{path_of}
use Rattle.tree_model.specs.Trees.{Refusal, node_of_path, AreAlike}
use Rattle.crash_laws.specs.PromiseRules.{IsOn, IsSuperseded}
use Rattle.flush_actor.specs.Kinds.{is_data, is_durable, is_whole}
use Rattle.host_machine.specs.State.{Entry}
use Rattle.host_machine.specs.runs.Promises.{call_of}
use Rattle.host_machine.specs.runs.Sentences.{IsAllSettled}
use Rattle.minix_host.specs.Calls.{kind_of, path_of_call, birth_on}
use Rattle.minix_host.specs.Sessions.{Stands}
use Rattle.call_sessions.specs.Sessions.{call_over}
use Rattle.call_sessions.specs.promises.Answers.{AnsweredAt, WasAnswered, node_in}
use Rattle.call_sessions.specs.promises.Entries.{IsBeginOf}
use Rattle.call_sessions.specs.promises.Trees.{tree_at}
use Rattle.session_grammar.specs.declared.session_script.SessionScript.{SessionScript}
use Rattle.session_core.specs.CallNames.{covers_data_alone}
use Rattle.session_core.specs.Core.{EndState, opening_of}
use Rattle.session_core.specs.Headline.{medium_of, told_by, IsAllShown, IsShownBy, HeadlineOn}
use Rattle.session_core.specs.declared.report.SessionReport.{SessionReport}
use Rattle.session_core.proofs.CallNames.{begun, durable, data_alone, all}
use Rattle.session_core.proofs.Headlines.{all_shown}
use Rattle.session_core.proofs.OpenedTrees.{told_tree}
use Rattle.system_laws.specs.covered.Calls.{HasPath, of_fsync, of_fdatasync, of_fbarrier, of_fdatabarrier, IsOnFile, on_all, on_path, Counts, synced, later, IsAnsweredOk, IsThereSince, IsShownFrom}
use Rattle.system_laws.proofs.CoveredLemmas.ShownVersions.{shown_from}

-- a call began at one place alone
only : (h : List (Entry Call Reply)) (i j e t : ℕ) (c : Call) → IsBeginOf h i e t c → IsBeginOf h j e t c → i ≡ j
only h i j e t c x y =
    elim (cases_lt i j) [
      | inl lt ↦ absurd (x.last j _ lt y.earlier y.begins refl)
      | inr ge ↦ elim (cases_lt j i) [
        | inl lt ↦ absurd (y.last i _ lt x.earlier x.begins refl)
        | inr le ↦ omega (arith, ge, le)
      ]
    ]

-- ---- the file of a call

path_same : {c : Call} {path : List ℕ} → HasPath c path → path_of_call c ≡ Some path
path_same (of_fsync path) = refl
path_same (of_fdatasync path) = refl
path_same (of_fbarrier path) = refl
path_same (of_fdatabarrier path) = refl

walked : (tree : Tree) (path : List ℕ) (names : List (List ℕ)) (f : ℕ) (node : Node) → path_of path ≡ Some names → node_of_path tree names ≡ Ok f → at_number tree f ≡ Some node → walk_path tree path ≡ Ok (record { birth = f; node = node })
walked tree path names f node named led stands =
    ap (λ (o : Option (List (List ℕ))). and_then (if_some o BadPath) (walk tree)) named
    ∙ ap (λ (o : Result ℕ Refusal). and_then (elim o as (λ _. Result ℕ Reply) [ Err refusal ↦ Err (refused_walk refusal) | Ok birth ↦ Ok birth ]) (λ birth. found_at birth (at_number tree birth))) led
    ∙ ap (found_at f) stands

birth_led : (tree : Tree) (path : List ℕ) (names : List (List ℕ)) (f : ℕ) (node : Node) → path_of path ≡ Some names → node_of_path tree names ≡ Ok f → at_number tree f ≡ Some node → birth_on tree path ≡ f
birth_led tree path names f node named led stands =
    ap (λ (o : Result Found Reply). elim o as (λ _. ℕ) [ Err reply ↦ 0 | Ok found ↦ found.birth ]) (walked tree path names f node named led stands)

node_led : (tree : Tree) (c : Call) (path : List ℕ) (f : ℕ) → path_of_call c ≡ Some path → birth_on tree path ≡ f → node_in tree c ≡ f
node_led tree c path f has led = ap (λ (o : Option (List ℕ)). elim o as (λ _. ℕ) [ None ↦ 0 | Some p ↦ birth_on tree p ]) has ∙ led

module _ (s : SessionScript) (end : EndState) (r : SessionReport) (is : HeadlineOn s end r) (b e t : ℕ) (c : Call) (ok : IsAnsweredOk end.host b e t c) (counts : Counts s end r e c) where
  answered : AnsweredAt end.host e t c
  answered = (ok.ended, begun c ∙ ok.named)

  abbrev w : WasAnswered (opening_of s) end.host e t c
  w = is.answered e t c answered

  place : w.place ≡ b
  place = only end.host.history w.place b e t c w.began ok.began

  settled : IsAllSettled (call_over (opening_of s)) (Stands (opening_of s)) end.host is.closed (medium_of r) w.begun
  settled = by counts
    where
      by : Counts s end r e c → IsAllSettled (call_over (opening_of s)) (Stands (opening_of s)) end.host is.closed (medium_of r) w.begun
      by (synced x) = is.syncs e t c answered (durable c ∙ x)
      by (later x) = of_kind (is_durable (kind_of c)) refl
        where
          of_kind : (d : Bool) → is_durable (kind_of c) ≡ d → IsAllSettled (call_over (opening_of s)) (Stands (opening_of s)) end.host is.closed (medium_of r) w.begun
          of_kind true kind = is.syncs e t c answered kind
          of_kind false kind = is.barriers e t c answered kind x

  abbrev shows : IsAllShown s end (medium_of r) r.found is.prefix.tree is.prefix.alike.to w.begun
  shows = all_shown s end r is w.begun settled

  pub metadata : covers_data_alone c ≡ false → (v : ℕ) × (b ≤ v) × AreAlike (tree_at (opening_of s) end.host v) is.prefix.tree
  metadata covers =
      let found : b ≤ (told_by s end).cut r.found =
      shows.metadata b (ap (λ k. not (is_data k)) w.kind ∙ ap not (data_alone c ∙ covers), (let number = w.number in let at = place in omega (arith, number, at))) in
      ((told_by s end).cut r.found, found, is.prefix.alike)

  -- the begun call is on the file that this call is on
  on_it : (f : ℕ) → IsOnFile (tree_at (opening_of s) end.host b) c f → IsOn (call_of w.begun).file f
  on_it f x = by (is_whole w.begun.kind) refl x
    where
      by : (whole : Bool) → is_whole w.begun.kind ≡ whole → IsOnFile (tree_at (opening_of s) end.host b) c f → IsOn (if whole then None else Some w.begun.file) f
      by true kind x = record {}
      by false kind (on_all x) = absurd (false≢true (sym kind ∙ ap is_whole w.kind ∙ all c ∙ x))
      by false kind (on_path path names file has named leads) =
          w.node ∙ ap (λ n. node_in (tree_at (opening_of s) end.host n) c) place
          ∙ node_led (tree_at (opening_of s) end.host b) c path f (path_same has) (birth_led (tree_at (opening_of s) end.host b) path names f _ named leads.path leads.stands)

  pub blocks : (f i n : ℕ) → IsOnFile (tree_at (opening_of s) end.host b) c f → n ≤ b → IsThereSince s end r f i n
      → IsShownFrom s end r is f i n
  blocks f i n on before there =
      by (shows.pages f i n (on_it f on, (let number = w.number in let at = place in omega (arith, number, at, before)), there.wrote))
    where
      by : IsShownBy s end (medium_of r) is.prefix.tree is.prefix.alike.to f i n ⊎ IsSuperseded (told_by s end) f i n ((told_by s end).cut r.found)
          → IsShownFrom s end r is f i n
      by (inl x) = shown_from s end r is f i n x
      by (inr x) =
          absurd (false≢true (sym x.unmapped.after ∙ ap (λ tree. is_some (block_at tree f i)) (told_tree s end.host x.entry)
          ∙ there.stays x.entry (let low = x.later in omega (arith, low)) x.within))
