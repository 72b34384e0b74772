-- A script of one thread that replaces a file.
use Rattle.std.specs.Prelude.{◌≡◌, ◌⊎◌, ℕ, suc, ◌+◌, ◌<◌, ◌≤◌, true, false, List, [], ◌∷◌, length, take, Option, Some, Ok, unwrap_or, slice_get, refl}
use Rattle.std.specs.Option.{option_map}
use Rattle.std.proofs.Common.{sym, ap, subst, ◌∙◌, arith}
use Rattle.std.proofs.lemmas.Bool.{false≢true}
use Rattle.std.proofs.lemmas.Option.{slice_get-map}
use Rattle.blk_base.specs.laws.Members.{slice_get-map_some}
use Rattle.tree_model.specs.declared.call.Call.{Call}
use Rattle.tree_model.specs.declared.call.Call.TheVariants as calls
use Rattle.tree_model.specs.declared.call.Reply.{Reply}
use Rattle.tree_model.specs.declared.call.Reply.TheVariants as replies
use Rattle.tree_model.specs.declared.node.File.{File}
use Rattle.tree_model.specs.declared.node.Node.TheVariants as nodes
use Rattle.tree_model.specs.Calls.{Tree, tree_after, reply_of}
use Rattle.tree_model.specs.Causes.{LeadsTo}
use Rattle.tree_model.specs.Histories.{is_ok, tree_after_entry, tree_after_entries}
use Rattle.tree_model.specs.Paths.{path_of}
use Rattle.tree_model.specs.Trees.{node_of_path}
use Rattle.crash_laws.specs.LegalHistory.{Event, End, Follows}
use Rattle.flush_actor.specs.Kinds.{is_durable}
use Rattle.host_machine.specs.State.{Answered, Ends}
use Rattle.minix_host.specs.Calls.{kind_of}
use Rattle.call_sessions.specs.Sessions.{acting_call}
use Rattle.call_sessions.specs.promises.Entries.{EndsAt}
use Rattle.call_sessions.specs.promises.Legal.{event_of, events_in, program_of}
use Rattle.session_grammar.specs.declared.session_script.SessionScript.{SessionScript}
use Rattle.session_core.specs.CallNames.{is_sync_call, covers_data_alone}
use Rattle.session_core.specs.Core.{EndState}
use Rattle.session_core.specs.Headline.{HeadlineOn}
use Rattle.session_core.specs.declared.report.SessionReport.{SessionReport}
use Rattle.session_core.proofs.CallNames.{durable, data_alone}
use Rattle.application_trees.specs.Outcomes.{Shows}
use Rattle.application_trees.specs.Programs.{ends, IsReplaceProgram, HasReplaced}
use Rattle.application_trees.specs.Runs.{IsRenamed, IsReplacing}
use Rattle.application_trees.proofs.Moves.{not_replaced}
use Rattle.application_trees.proofs.Programs.{program_replaces, not_renamed}
use Rattle.application_trees.proofs.Sequences.{follows_all}
use Rattle.application_laws.specs.Left.{room_for, trees_of, left_of, IsBarred}
use Rattle.application_laws.proofs.Applied.{replaced}
use Rattle.application_laws.proofs.LeftFacts.{plain, next_tree, has_history, synced, recovered}

module _ (s : SessionScript) (end : EndState) (r : SessionReport) (is : HeadlineOn s end r) where
  abbrev T : ℕ → Tree
  T = trees_of s end

  abbrev events : List Event
  events = events_in end.host.history

  number : (n : ℕ) → 0 + suc n ≡ suc n
  number n = omega arith

  later : (n : ℕ) → suc n ≡ 0 + (n + 1)
  later n = omega arith

  pub follows_one : (program : List Call) → s.programs ≡ program ∷ [] → Follows events program
  follows_one program one =
      subst (Follows events) (ap (λ (ps : List (List Call)). unwrap_or (slice_get ps 0) []) one)
      (follows_all events (program_of s.programs) is.follows.ordered (λ t. ap (λ (ps : List (List Call)). unwrap_or (slice_get ps (suc t)) []) one))

  pub next : (P : Tree → Type 0) (n : ℕ) → P (T n) → ((t : ℕ) (c : Call) (y : Reply) → slice_get events n ≡ Some (End t c y) → P (tree_after (room_for s) (T n) (suc n) c)) → P (T (suc n))
  next P n before after =
      next_tree s end r is P n before
      (λ t c y e. subst (λ k. P (tree_after (room_for s) (T n) k c)) (sym (number n)) (after t c y (slice_get-map_some event_of end.host.history n (record { thread = t; call = c; what = Ends (Answered y) }) e)))

  pub renamed : (path other : List ℕ) (p t : ℕ) → EndsAt end.host.history p t (calls.Rename path other) (Answered replies.Ok) → IsRenamed (room_for s) T path other p
  unfolding tree_after_entries
  renamed path other p t ended = record {
    ok = ap (λ k. is_ok (reply_of (room_for s) (T p) k (calls.Rename path other))) (later p) ∙ ap is_ok (sym (is.follows.answers p t (calls.Rename path other) replies.Ok ended (λ begun. absurd (false≢true begun))));
    next =
        ap (tree_after_entry (room_for s) (T p) (0 + suc p)) (slice_get-map acting_call end.host.history p ∙ ap (option_map acting_call) ended)
        ∙ ap (λ k. tree_after (room_for s) (T p) k (calls.Rename path other)) (number p);
  }

  pub replaces : (program before : List Call) (path other : List ℕ) (ws more : List Call) → s.programs ≡ program ∷ [] → IsReplaceProgram program before path other ws more →
      (fresh names : List (List ℕ)) (old a : ℕ) (f : File) (new b p : ℕ) (g : File) → HasReplaced T events before ws path other fresh names old a f new b p g →
      (t : ℕ) → EndsAt end.host.history p t (calls.Rename path other) (Answered replies.Ok) → IsReplacing (room_for s) T path other fresh names old a f new b p g
  replaces program before path other ws more one does fresh names old a f new b p g x t ended =
      program_replaces (room_for s) T (plain s end r is) events program (follows_one program one) next before path other ws more does fresh names old a f new b p g x t replies.Ok
      (slice_get-map_some event_of end.host.history p (record { thread = t; call = calls.Rename path other; what = Ends (Answered replies.Ok) }) ended)
      (renamed path other p t ended)

  pub program_replaced : (program before : List Call) (path other : List ℕ) (ws more : List Call) → s.programs ≡ program ∷ [] → IsReplaceProgram program before path other ws more →
      (fresh names : List (List ℕ)) (old a : ℕ) (f : File) (new b p : ℕ) (g : File) → HasReplaced T events before ws path other fresh names old a f new b p g →
      (t : ℕ) → EndsAt end.host.history p t (calls.Rename path other) (Answered replies.Ok) →
      (e : ℕ) (sync : IsBarred s end r is old a e) → is_sync_call sync.call ≡ true → covers_data_alone sync.call ≡ false → (d : ℕ) → IsBarred s end r is new b d → d < p →
      Shows is.prefix.tree names f ⊎ Shows is.prefix.tree names g
  program_replaced program before path other ws more one does fresh names old a f new b p g x t ended e sync named whole d barrier low =
      replaced s end r is path other fresh names old a f new b p g (replaces program before path other ws more one does fresh names old a f new b p g x t ended) e sync named whole d barrier low

  -- as long as the rename is not answered, the path shows the old file
  pub program_waits : (program before : List Call) (path other : List ℕ) (ws more : List Call) → s.programs ≡ program ∷ [] → IsReplaceProgram program before path other ws more →
      (fresh names : List (List ℕ)) → path_of path ≡ Some fresh → (old a : ℕ) (f : File) → ends (take a events) ≡ length before → LeadsTo (T a) names old (nodes.File f) → ((birth : ℕ) → node_of_path (T a) fresh ≡ Ok birth → ⊥) →
      ((n t : ℕ) (y : Reply) → EndsAt end.host.history n t (calls.Rename path other) (Answered y) → ⊥) →
      (e : ℕ) (sync : IsBarred s end r is old a e) → is_sync_call sync.call ≡ true → covers_data_alone sync.call ≡ false → Shows is.prefix.tree names f
  program_waits program before path other ws more one does fresh names fresh_is old a f at led free none e sync named whole =
      let kind : is_durable (kind_of sync.call) ≡ true = durable sync.call ∙ named in
      not_replaced (room_for s) T (plain s end r is) path fresh names fresh_is old a f led (free old)
      (not_renamed (room_for s) T events program (follows_one program one) (λ n t c y. EndsAt end.host.history n t c (Answered y))
      (λ n t c y there. slice_get-map_some event_of end.host.history n (record { thread = t; call = c; what = Ends (Answered y) }) there)
      (λ P n first after. next_tree s end r is P n first (λ t c y there. subst (λ k. P (tree_after (room_for s) (T n) k c)) (sym (number n)) (after t c y there)))
      before path other ws more does names fresh old a at none)
      (left_of s end r is) (λ n. refl) (has_history s end r is)
      (recovered s end r is old a e sync kind (data_alone sync.call ∙ whole)) (synced s end r is old a e sync kind)
