-- The store's laws of a session of which the headline holds.
use Rattle.std.specs.Prelude.{◌≡◌, ℕ, zero, suc, ◌-◌, ◌*◌, ◌≤◌, Bool, true, false, List, ◌∷◌, ◌++◌, length, Some, Ok, slice_get}
use Rattle.std.proofs.Common.{sym, ap, ◌∙◌, inl, inr}
use Rattle.std.proofs.lemmas.Bool.{cases_lt, false≢true, true≢false}
use Rattle.std.proofs.lemmas.Option.{same_Some}
use Rattle.blk_base.specs.laws.Members.{slice_get-In, slice_get-append_left, slice_get-append_right}
use Rattle.tree_model.specs.declared.call.Call.{Call}
use Rattle.tree_model.specs.declared.call.Call.TheVariants as calls
use Rattle.tree_model.specs.declared.call.Reply.TheVariants as replies
use Rattle.tree_model.specs.Histories.{block_at}
use Rattle.tree_model.specs.Trees.{node_of_path}
use Rattle.session_core.specs.Report.{tree_behind}
use Rattle.host_machine.specs.Views.{cut_of}
use Rattle.session_grammar.specs.declared.session_script.SessionScript.{SessionScript}
use Rattle.session_core.specs.Core.{EndState, opening_of}
use Rattle.session_core.specs.Headline.{HeadlineOn}
use Rattle.session_core.specs.declared.report.SessionReport.{SessionReport}
use Rattle.store_core.specs.Store.{Numbering, Decodes, IsStoreLog}
use Rattle.store_core.specs.Program.{LogStep, calls_from, IsStore, IsStoreScript, AreDone, NoneFull, PutEnds}
use Rattle.store_core.proofs.Paths.{IsHeldIn, nothing-behind, decoded-put}
use Rattle.store_core.proofs.Log.{store-log}
use Rattle.store_core.proofs.LogTrees.{log_path, log_names}
use Rattle.store_core.proofs.LogSession.{log-tree}
use Rattle.store_core.proofs.StoreFacts.{store-trees, written-once}

abbrev is-bytes : Call → Bool
is-bytes (calls.Bytes path off body) = true
is-bytes other = false

module _ (number : Numbering) (fills : List Call) (ops : List LogStep) (s : SessionScript) (store : IsStore number log_path fills ops s) where
  no-bytes : (a off : ℕ) (body : List ℕ) → slice_get (calls.Create log_path ∷ fills) a ≡ Some (calls.Bytes log_path off body) → ⊥
  no-bytes zero off body e = false≢true (ap is-bytes (same_Some (calls.Create log_path) (calls.Bytes log_path off body) e))
  no-bytes (suc a) off body e =
      elim (store.fills_are (calls.Bytes log_path off body) (slice_get-In fills a (calls.Bytes log_path off body) e)) [
        | inl q ↦ false≢true q
        | inr w ↦ true≢false (ap is-bytes w.2)
      ]

  pub script-is : IsStoreScript log_path (calls.Create log_path ∷ fills) ops s
  script-is = record { programs = store.programs; no_put = no-bytes }

-- a put of the program is one of those that are asked
pub put-stands : (number : Numbering) (fills : List Call) (ops : List LogStep) (s : SessionScript) → IsStore number log_path fills ops s → (a j : ℕ) (body : List ℕ) → slice_get (calls.Create log_path ∷ (fills ++ calls_from log_path 0 ops)) a ≡ Some (calls.Bytes log_path (1024 * j) body)
    → (k : ℕ) × (slice_get (calls_from log_path 0 ops) k ≡ Some (calls.Bytes log_path (1024 * j) body))
put-stands number fills ops s store a j body e =
    let before = calls.Create log_path ∷ fills in
    elim (cases_lt a (length before)) [
      | inl lt ↦ absurd (no-bytes number fills ops s store a (1024 * j) body (sym (slice_get-append_left before (calls_from log_path 0 ops) a lt) ∙ e))
      | inr le ↦ (a - length before, sym (slice_get-append_right before (calls_from log_path 0 ops) a le) ∙ e)
    ]

module _ (number : Numbering) (fills : List Call) (ops : List LogStep) (s : SessionScript) (end : EndState) (r : SessionReport) (is : HeadlineOn s end r) (store : IsStore number log_path fills ops s) (done : AreDone log_path end) (full : NoneFull end) where
  log : IsStoreLog number s end r is 1
  log = store-log number log_path (calls.Create log_path ∷ fills) ops s end r is 1 (script-is number fills ops s store) full (store-trees number fills ops s end r is store done)

  leads : (other : ℕ) → node_of_path (tree_behind (opening_of s) end.host r.found) log_names ≡ Ok other → other ≡ 1
  leads other e = (log-tree number fills ops s end r is store (cut_of end.host.cuts (length end.host.history) r.found)).leads other e

  -- no block of the log from the number of held puts on spells a put
  pub nothing-survives : (g h : ℕ) → node_of_path is.prefix.tree log_names ≡ Ok g → IsHeldIn number is.prefix.tree g h → (j : ℕ) (b : List ℕ) → h ≤ j → block_at is.prefix.tree g j ≡ Some b → Decodes number b → ⊥
  nothing-survives g h path held = nothing-behind number s end r is 1 log_names leads log g h path held

  -- each block that spells a put was put so, and that was answered Ok
  pub decoded-answered : (g : ℕ) → node_of_path is.prefix.tree log_names ≡ Ok g → (j : ℕ) (b : List ℕ) → block_at is.prefix.tree g j ≡ Some b → Decodes number b → (q : ℕ) × (t : ℕ) × PutEnds log_path end q t j b replies.Ok
  decoded-answered g path j b at decodes =
      let p = decoded-put number s end r is 1 log_names leads log g path j b at decodes in
      let w = written-once number fills ops s end r is store done j p.0 b p.1 in
      (w.0, w.1, w.3)
