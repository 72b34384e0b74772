-- A rename that was answered Ok leads the new path to the node of the old one.
use Rattle.std.specs.Prelude.{◌≡◌, ℕ, suc, ◌+◌, ◌==◌, true, false, List, [], Some, Result, Ok, Err, map, slice_get, refl}
use Rattle.std.proofs.Common.{sym, ap, subst, ◌∙◌, inl, inr, arith}
use Rattle.std.proofs.lemmas.Bool.{cases_Bool, true≢false, false≢true, eqb-true, eq-eqb}
use Rattle.std.proofs.lemmas.List.{append-nil}
use Rattle.blk_base.specs.laws.Members.{slice_get-map_some}
use Rattle.tree_model.specs.declared.call.Call.{Call}
use Rattle.tree_model.specs.declared.call.Call.TheVariants as calls
use Rattle.tree_model.specs.declared.call.Reply.{Reply}
use Rattle.tree_model.specs.declared.call.Reply.TheVariants as replies
use Rattle.tree_model.specs.declared.call.Room.{Room}
use Rattle.tree_model.specs.Calls.{Tree, Row, Done, outcome, reply_from, tree_from, reply_of, tree_after}
use Rattle.tree_model.specs.Histories.{is_ok, tree_after_entry, tree_after_entries}
use Rattle.tree_model.specs.Paths.{path_of}
use Rattle.tree_model.specs.Plain.{IsPlain, AreBornBefore}
use Rattle.tree_model.specs.Trees.{Refusal, node_of_path}
use Rattle.tree_model.specs.laws.Alike.{same_ok}
use Rattle.tree_model.proofs.Causes.{refused_for, cause_not_ok}
use Rattle.tree_model.proofs.NamesMove.{rename_stays, rename_moves}
use Rattle.volume_steps.specs.Now.{VolumeNow, room_of}
use Rattle.host_machine.specs.State.{Answered, Ends, Entry, Host}
use Rattle.host_machine.specs.Views as views
use Rattle.minix_host.specs.Sessions.{Opening}
use Rattle.call_sessions.specs.Sessions.{call_over, acting_call}
use Rattle.call_sessions.specs.promises.Entries.{EndsAt}
use Rattle.call_sessions.specs.promises.Legal.{FollowsTree}
use Rattle.call_sessions.specs.promises.Trees.{tree_at}
use Rattle.call_sessions.proofs.PromisesLemmas.SessionTrees.{tree_told}

module _ (s : Opening) (born : AreBornBefore (s.first + 1) s.tree.tree) (h : Host VolumeNow Call Reply) where
  abbrev room : Room
  room = room_of s.geometry

  plain_at : (n : ℕ) → IsPlain (tree_at s h n)
  plain_at n = subst IsPlain (tree_told s born h n) (views.tree_after (call_over s).model h.history n).plain

  -- ---- the tree after an answered call

  step : (i : ℕ) → tree_at s h (suc i) ≡ tree_after_entry room (tree_at s h i) (s.first + suc i) (slice_get (map acting_call h.history) i)
  unfolding tree_after_entries
  step i = refl

  next_at : (i t : ℕ) (c : Call) (r : Reply) → EndsAt h.history i t c (Answered r) → tree_at s h (i + 1) ≡ tree_after room (tree_at s h i) (s.first + (i + 1)) c
  next_at i t c r there =
      let next : i + 1 ≡ suc i = omega arith in
      let number : s.first + suc i ≡ s.first + (i + 1) = omega arith in
      let e : Entry Call Reply = record { thread = t; call = c; what = Ends (Answered r) } in
      ap (tree_at s h) next ∙ step i
      ∙ ap (tree_after_entry room (tree_at s h i) (s.first + suc i)) (slice_get-map_some acting_call h.history i e there)
      ∙ ap (λ k. tree_after room (tree_at s h i) k c) number

  -- ---- where the new path leads

  module _ (i : ℕ) (path other : List ℕ) (names more : List (List ℕ)) (named : path_of path ≡ Some names) (second : path_of other ≡ Some more) (f : ℕ) (led : node_of_path (tree_at s h i) names ≡ Ok f) where
    abbrev T : Tree
    T = tree_at s h i

    abbrev c : Call
    c = calls.Rename path other

    leads : (d : Done) → outcome room T (s.first + (i + 1)) c ≡ Ok d → node_of_path d.tree more ≡ Ok f
    leads d e = by (node_of_path T more) refl
      where
        moves : ((birth : ℕ) → node_of_path T names ≡ Ok birth → node_of_path T more ≡ Ok birth → ⊥) → node_of_path d.tree more ≡ Ok f
        moves apart =
            ap (node_of_path d.tree) (sym (append-nil more))
            ∙ (rename_moves room T (plain_at i) (s.first + (i + 1)) path other names more d named second e apart [] f).1 (ap (node_of_path T) (append-nil names) ∙ led)

        by : (x : Result ℕ Refusal) → node_of_path T more ≡ x → node_of_path d.tree more ≡ Ok f
        by (Err why) at = moves (λ birth first last. let never : ◌≡◌ {A = Result ℕ Refusal} (Err why) (Ok birth) = sym at ∙ last in absurd (cc never))
        by (Ok b) at = elim (cases_Bool (b == f)) [
          | inl same ↦
              let to : node_of_path T more ≡ Ok f = at ∙ ap Ok (eqb-true b f same) in
              ap (λ tree. node_of_path tree more) (rename_stays room T (plain_at i) (s.first + (i + 1)) path other names more d named second e f led to) ∙ to
          | inr apart ↦
              moves (λ birth first last.
              let here = same_ok f birth (sym led ∙ first) in
              let there = same_ok b birth (sym at ∙ last) in
              absurd (true≢false (sym (eq-eqb b f (there ∙ sym here)) ∙ apart)))
        ]

    reply_is : (r : Row) → outcome room T (s.first + (i + 1)) c ≡ r → reply_of room T (s.first + (i + 1)) c ≡ reply_from r
    unfolding reply_of
    reply_is r e = ap reply_from e

    tree_is : (r : Row) → outcome room T (s.first + (i + 1)) c ≡ r → tree_after room T (s.first + (i + 1)) c ≡ tree_from T r
    unfolding tree_after
    tree_is r e = ap (tree_from T) e

    pub renamed_leads : (programs : List (List Call)) (t : ℕ) → FollowsTree s programs h → EndsAt h.history i t c (Answered replies.Ok) → node_of_path (tree_at s h (i + 1)) more ≡ Ok f
    renamed_leads programs t follows there = by (outcome room T (s.first + (i + 1)) c) refl
      where
        answer : replies.Ok ≡ reply_of room T (s.first + (i + 1)) c
        answer = follows.answers i t c replies.Ok there (λ begun. absurd (false≢true begun))

        by : (r : Row) → outcome room T (s.first + (i + 1)) c ≡ r → node_of_path (tree_at s h (i + 1)) more ≡ Ok f
        by (Err why) e = absurd (true≢false (ap is_ok (answer ∙ reply_is (Err why) e) ∙ cause_not_ok room T (s.first + (i + 1)) c why (refused_for room T (plain_at i).rooted (s.first + (i + 1)) c why e)))
        by (Ok d) e = ap (λ tree. node_of_path tree more) (next_at i t c replies.Ok there ∙ tree_is (Ok d) e) ∙ leads d e
