-- The history of a session: its causes, and that it is legal.
use Rattle.std.proofs.Common.{◌≡◌, ◌≢◌, ℕ, zero, suc, ◌+◌, ◌≤◌, map, take, Bool, true, false, is_some, List, ◌∷◌, length, Option, Some, None, slice_get, refl, sym, ap, ◌∙◌, arith, if◌then◌else◌}
use Rattle.std.proofs.lemmas.Bool.{false≢true}
use Rattle.blk_base.specs.laws.Members.{slice_get-in_range, slice_get-map_some, slice_get-In}
use Rattle.order_model.specs.declared.completion.Completion.{Completion}
use Rattle.tree_model.specs.declared.call.Call.{Call}
use Rattle.tree_model.specs.declared.call.Reply.{Reply}
use Rattle.tree_model.specs.declared.call.Reply.TheVariants as replies
use Rattle.tree_model.specs.declared.call.Room.{Room}
use Rattle.tree_model.specs.Calls.{Tree, reply_of, tree_after, leaves_tree}
use Rattle.tree_model.specs.Histories.{Entry as TreeEntry, tree_after_entry, tree_after_entries}
use Rattle.tree_model.proofs.Outcomes.{quiet_stays}
use Rattle.volume_steps.specs.Now.{VolumeNow, room_of}
use Rattle.crash_laws.specs.LegalHistory.{has_begun, is_turned_away, done_at, tree_up_to, IsLegal}
use Rattle.crash_laws.proofs.EntryTrees.{tree_at_event}
use Rattle.journal_ring.specs.LogRing.{LogRing}
use Rattle.host_machine.specs.State.{What, Ending, Answered, Down, ReadOnly, SessionFull, Begins, Ends, Begun, Thread, Entry, Host}
use Rattle.host_machine.specs.runs.Runs as runs
use Rattle.host_machine.specs.runs.Runs.{AreBegun, steps}
use Rattle.host_machine.specs.runs.laws.Written.{AreWritten}
use Rattle.host_machine.proofs.RunsLemmas.StartHost.{none_begun}
use Rattle.minix_host.specs.Calls.{kind_of}
use Rattle.minix_host.specs.Runs.{IsOpenedVolume, HasEmptyJournal}
use Rattle.minix_host.specs.Sessions.{Opening}
use Rattle.minix_host.proofs.TreeSteps.{begun_quiet}
use Rattle.call_sessions.specs.Sessions.{WriteBytes, call_over, acting_call, opened_with, host_behind}
use Rattle.call_sessions.specs.promises.Causes.{HadCome, HaveCauses}
use Rattle.call_sessions.specs.promises.Entries.{EndsAt}
use Rattle.call_sessions.specs.promises.Legal.{event_of, events_in, program_of}
use Rattle.call_sessions.specs.promises.Trees.{tree_at}
use Rattle.call_sessions.proofs.PromisesLemmas.CallerSteps.{EndReason, Stopped, Refused, Acted, Full, Acknowledged}
use Rattle.call_sessions.proofs.PromisesLemmas.EndCauses.{StopCause, ByCut, ByFailure, stop_cause, have_causes}
use Rattle.call_sessions.proofs.PromisesLemmas.Ends.{ended_at}
use Rattle.call_sessions.proofs.PromisesLemmas.Growing.{stay_begun}
use Rattle.call_sessions.proofs.PromisesLemmas.LegalEnds.{AsTree, IsOfCalls, begun_at, run_is_legal}
use Rattle.call_sessions.proofs.PromisesLemmas.SessionTrees.{plain_now, refusal_replies, act_replies, begun_replies}
use Rattle.call_sessions.proofs.PromisesLemmas.VolumeReplies.{waits_are, reads_are, reads_are_still, refusal_own, refusal_not_ok, done_own}

module _ (s : Opening) where
  pub of_calls : IsOfCalls (call_over s)
  of_calls = record { ok = refl; waits = waits_are; reads = reads_are; still = reads_are_still }

  module _ (v : VolumeNow) (ring : LogRing) (limit : ℕ) (programs : List (List Call)) where
    abbrev first : Host VolumeNow Call Reply
    first = opened_with s v ring limit programs

    abbrev at : List runs.Event → Host VolumeNow Call Reply
    at events = host_behind s v ring limit programs events

    pub begun_first : AreBegun kind_of first.threads
    begun_first = none_begun kind_of programs

    pub causes : (events : List runs.Event) → HaveCauses kind_of limit (HadCome at events) (at events)
    causes events = have_causes (call_over s) first refl refl begun_first reads_are_still events

    -- what stops a call is no answer
    pub stop_cause_not_answer : {taken : List Completion} (c : Call) (r : Reply) → StopCause {R = Reply} taken (kind_of c) (Answered r) → ⊥
    stop_cause_not_answer c r (ByCut any is) = (let never : ◌≡◌ {A = Ending Reply} (Answered r) Down = is in cc never)
    stop_cause_not_answer c r (ByFailure id failed writes is) = (let never : ◌≡◌ {A = Ending Reply} (Answered r) (ReadOnly id) = is in cc never)

    reply_in_answer : Reply → Ending Reply → Reply
    reply_in_answer d (Answered r) = r
    reply_in_answer d other = d

    pub same_answer : (r q : Reply) → ◌≡◌ {A = Ending Reply} (Answered r) (Answered q) → q ≡ r
    unfolding reply_in_answer
    same_answer r q e = sym (ap (reply_in_answer q) e)

    -- no answer of a call is one that no tree gives
    own_by : (h : Host VolumeNow Call Reply) (c : Call) (b : Option Begun) (r : Reply) → EndReason (call_over s).model (call_over s).setup h c b (Answered r) → is_turned_away r ≡ false
    own_by h c b r (Stopped stop) = absurd (stop_cause_not_answer c r (stop_cause (call_over s).model (call_over s).setup h.journal.flush.taken (kind_of c) (Answered r) stop))
    own_by h c b r (Refused why going idle reply is) = ap is_turned_away (sym (same_answer r why is)) ∙ refusal_own h.volume c why reply
    own_by h c b r (Acted going idle reply kind is) =
        ap is_turned_away (sym (same_answer r ((call_over s).model.apply h.volume (length h.history + 1) h.journal.running.number c).reply is)) ∙ done_own h.volume (s.first + (length h.history + 1)) h.journal.running.number c
    own_by h c b r (Full going full hinders is) = absurd (let never : ◌≡◌ {A = Ending Reply} (Answered r) SessionFull = is in cc never)
    own_by h c b r (Acknowledged x going was is) = ap is_turned_away (sym (same_answer r replies.Ok is))

    pub answers_own : (es : List runs.Event) (i t : ℕ) (c : Call) (r : Reply) → EndsAt (at es).history i t c (Answered r) → is_turned_away r ≡ false
    answers_own es i t c r there =
        let x = ended_at (call_over s) first refl es i t c (Answered r) there in
        own_by (steps (call_over s) first x.step.before) c x.own.begun r x.reason

    -- ---- the tree of the events

    abbrev room : Room
    room = room_of s.geometry

    abbrev opened : Tree
    opened = s.tree.tree

    abbrev base : ℕ
    base = s.first

    -- what an entry does to a tree is what its event does
    event_acts : (es : List runs.Event) (tree : Tree) (n i : ℕ) (x : Entry Call Reply) → slice_get (at es).history i ≡ Some x →
        tree_after_entry room tree n (Some (done_at (take i (events_in (at es).history)) (event_of x))) ≡ tree_after_entry room tree n (Some (acting_call x))
    event_acts es tree n i x there = by x.what there
      where
        away : (b : Bool) → tree_after_entry room tree n (Some (if b then None else None)) ≡ tree
        away true = refl
        away false = refl

        begun : (c : Call) (b : Bool) (o : Option Begun) → is_some o ≡ b → ((d : Begun) → o ≡ Some d → leaves_tree c ≡ true) →
            tree_after_entry room tree n (Some (if b then None else Some c)) ≡ tree_after room tree n c
        begun c true None e quiet = absurd (false≢true e)
        begun c true (Some d) e quiet = sym (quiet_stays room tree n c (quiet d refl))
        begun c false o e quiet = refl

        answered : (t : ℕ) (c : Call) (r : Reply) → EndsAt (at es).history i t c (Answered r) →
            tree_after_entry room tree n (Some (if has_begun t false (take i (events_in (at es).history)) then None else if is_turned_away r then None else Some c)) ≡ tree_after_entry room tree n (Some (Some c))
        answered t c r ends =
            let e = ended_at (call_over s) first refl es i t c (Answered r) ends in
            let own = answers_own es i t c r ends in
            let b = has_begun t false (take i (events_in (at es).history)) in
            let is : b ≡ is_some e.own.begun = begun_at (call_over s) of_calls first programs refl refl refl begun_first answers_own es i t e.step e.own e.at in
            ap (λ y. tree_after_entry room tree n (Some (if b then None else if y then None else Some c))) own
            ∙ begun c b e.own.begun (sym is)
            (λ d was. begun_quiet c (stay_begun (call_over s) first begun_first e.step.before e.own c e.rest d (slice_get-In (at e.step.before).threads t e.own e.at) e.calls was))

        by : (w : What Reply) → slice_get (at es).history i ≡ Some (record { thread = x.thread; call = x.call; what = w }) →
            tree_after_entry room tree n (Some (done_at (take i (events_in (at es).history)) (event_of (record { thread = x.thread; call = x.call; what = w }))))
            ≡ tree_after_entry room tree n (Some (acting_call (record { thread = x.thread; call = x.call; what = w })))
        by Begins e = refl
        by (Ends Down) e = away (has_begun x.thread false (take i (events_in (at es).history)))
        by (Ends (ReadOnly id)) e = away (has_begun x.thread false (take i (events_in (at es).history)))
        by (Ends SessionFull) e = away (has_begun x.thread false (take i (events_in (at es).history)))
        by (Ends (Answered r)) e = answered x.thread x.call r e

    next_tree : (entries : List TreeEntry) (i : ℕ) → tree_after_entries room s.tree.tree s.first entries (suc i) ≡ tree_after_entry room (tree_after_entries room s.tree.tree s.first entries i) (s.first + suc i) (slice_get entries i)
    unfolding tree_after_entries
    next_tree entries i = refl

    no_tree : (entries more : List TreeEntry) → tree_after_entries room s.tree.tree s.first entries 0 ≡ tree_after_entries room s.tree.tree s.first more 0
    unfolding tree_after_entries
    no_tree entries more = refl

    -- so the trees are the same
    pub trees_of_events : (es : List runs.Event) (n : ℕ) → n ≤ length (at es).history → tree_up_to room opened base (events_in (at es).history) n ≡ tree_at s (at es) n
    trees_of_events es zero le = no_tree _ _
    trees_of_events es (suc i) le =
        let h = (at es).history in
        let x = slice_get-in_range h i (omega (arith, le)) in
        let number : s.first + (i + 1) ≡ s.first + suc i = omega arith in
        let next : suc i ≡ i + 1 = omega arith in
        ap (tree_up_to room opened base (events_in h)) next
        ∙ tree_at_event room opened base (events_in h) i (event_of x.0) (slice_get-map_some event_of h i x.0 x.1)
        ∙ event_acts es (tree_up_to room opened base (events_in h) i) (s.first + (i + 1)) i x.0 x.1
        ∙ ap (λ tree. tree_after_entry room tree (s.first + (i + 1)) (Some (acting_call x.0))) (trees_of_events es i (omega (arith, le)))
        ∙ ap (λ k. tree_after_entry room (tree_at s (at es) i) k (Some (acting_call x.0))) number
        ∙ ap (tree_after_entry room (tree_at s (at es) i) (s.first + suc i)) (sym (slice_get-map_some acting_call h i x.0 x.1))
        ∙ sym (next_tree (map acting_call h) i)

    -- ---- legal

    module _ (written : AreWritten s.format s.writers) (o : IsOpenedVolume s v) (j : HasEmptyJournal s ring limit) (bytes : WriteBytes programs) where
      tree_now : (es : List runs.Event) → tree_at s (at es) (length (at es).history) ≡ tree_up_to room opened base (events_in (at es).history) (length (at es).history)
      tree_now es = sym (trees_of_events es (length (at es).history) (omega arith))

      as_tree : (es : List runs.Event) (t : ℕ) (th : Thread Call) (c : Call) (rest : List Call) → slice_get (at es).threads t ≡ Some th → th.calls ≡ c ∷ rest → AsTree (call_over s) room opened base (at es) c
      as_tree es t th c rest there calls =
          let same = ap (λ tree. reply_of room tree (s.first + (length (at es).history + 1)) c) (tree_now es) in
          record {
            refused = λ why e. refusal_replies s v ring limit programs written o j bytes es c why e ∙ same;
            refused_not_ok = λ why e. refusal_not_ok (at es).volume c why (plain_now s v ring limit programs written o j bytes es) e;
            acted = λ e kind. act_replies s v ring limit programs written o j bytes es c ∙ same;
            begun = λ e kind. sym same ∙ begun_replies s v ring limit programs written o j bytes es c e kind;
          }

      pub legal_in_run : (es : List runs.Event) → IsLegal room opened base (program_of programs) (events_in (at es).history)
      legal_in_run es = run_is_legal (call_over s) of_calls first programs refl refl refl begun_first answers_own room opened base as_tree es
