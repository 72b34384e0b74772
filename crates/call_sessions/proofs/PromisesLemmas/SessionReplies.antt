-- Each answer of a session is the tree's.
use Rattle.std.proofs.Common.{is_some, false, ◌≡◌, ◌≢◌, ℕ, ◌+◌, true, false, List, length, Option, Some, refl, sym, ap, ◌∙◌, arith}
use Rattle.std.proofs.lemmas.Bool.{true≢false}
use Rattle.blk_base.specs.laws.Members.{slice_get-In}
use Rattle.tree_model.specs.declared.call.Call.{Call}
use Rattle.tree_model.specs.declared.call.Reply.{Reply}
use Rattle.tree_model.specs.declared.call.Reply.TheVariants as replies
use Rattle.tree_model.specs.declared.call.Room.{Room}
use Rattle.tree_model.specs.Calls.{reply_of}
use Rattle.volume_steps.specs.Now.{VolumeNow, room_of}
use Rattle.journal_ring.specs.LogRing.{LogRing}
use Rattle.crash_laws.specs.LegalHistory.{has_begun}
use Rattle.flush_actor.specs.Kinds.{is_begun}
use Rattle.host_machine.specs.State.{Ending, Answered, SessionFull, Begun, Host}
use Rattle.host_machine.specs.runs.Runs as runs
use Rattle.host_machine.specs.runs.laws.Written.{AreWritten}
use Rattle.minix_host.specs.Calls.{kind_of}
use Rattle.minix_host.specs.Runs.{IsOpenedVolume, HasEmptyJournal}
use Rattle.minix_host.specs.Sessions.{Opening}
use Rattle.call_sessions.specs.Sessions.{WriteBytes, call_over, opened_with, host_behind}
use Rattle.call_sessions.specs.promises.Entries.{BeginsAt, EndsAt, NoneBetween, IsBeginOf}
use Rattle.call_sessions.specs.promises.Legal.{events_in, FollowsTree}
use Rattle.call_sessions.specs.promises.Trees.{tree_at}
use Rattle.call_sessions.proofs.PromisesLemmas.CallerSteps.{EndReason, Stopped, Refused, Acted, Full, Acknowledged}
use Rattle.call_sessions.proofs.PromisesLemmas.EndCauses.{stop_cause, grown_from}
use Rattle.call_sessions.proofs.PromisesLemmas.Ends.{StepAt, ended_at, began_at}
use Rattle.call_sessions.proofs.PromisesLemmas.Growing.{extended_place, stay_begun}
use Rattle.call_sessions.proofs.PromisesLemmas.Orders.{programs_followed, begun_behind, begun_is}
use Rattle.call_sessions.proofs.PromisesLemmas.SessionAnswers.{longer}
use Rattle.call_sessions.proofs.PromisesLemmas.SessionHistory.{begun_first, stop_cause_not_answer, same_answer}
use Rattle.call_sessions.proofs.PromisesLemmas.SessionTrees.{refusal_replies, act_replies, begun_replies}

module _ (s : Opening) (v : VolumeNow) (ring : LogRing) (limit : ℕ) (programs : List (List Call)) (written : AreWritten s.format s.writers) (o : IsOpenedVolume s v) (j : HasEmptyJournal s ring limit) (bytes : WriteBytes programs) where
  abbrev first : Host VolumeNow Call Reply
  first = opened_with s v ring limit programs

  abbrev at : List runs.Event → Host VolumeNow Call Reply
  at es = host_behind s v ring limit programs es

  abbrev room : Room
  room = room_of s.geometry

  -- where the host answers behind these steps
  module _ (es : List runs.Event) (c : Call) where
    abbrev Answer : Reply
    Answer = reply_of room (tree_at s (at es) (length (at es).history)) (s.first + (length (at es).history + 1)) c

    abbrev refuses : Reply → Type 0
    refuses why = (call_over s).model.reply (at es).volume c ≡ Some why

    answer_by : (b : Option Begun) (r : Reply) → ((x : Begun) → b ≡ Some x → is_begun (kind_of c) ≡ true) → (is_begun (kind_of c) ≡ true → r ≢ replies.Ok) → EndReason (call_over s).model (call_over s).setup (at es) c b (Answered r) → r ≡ Answer
    answer_by b r begun not_ok (Stopped stop) = absurd (stop_cause_not_answer s v ring limit programs c r (stop_cause (call_over s).model (call_over s).setup (at es).journal.flush.taken (kind_of c) (Answered r) stop))
    answer_by b r begun not_ok (Refused why going idle reply is) = sym (same_answer s v ring limit programs r why is) ∙ refusal_replies s v ring limit programs written o j bytes es c why reply
    answer_by b r begun not_ok (Acted going idle reply kind is) = sym (same_answer s v ring limit programs r _ is) ∙ act_replies s v ring limit programs written o j bytes es c
    answer_by b r begun not_ok (Full going full hinders is) = absurd (let never : ◌≡◌ {A = Ending Reply} (Answered r) SessionFull = is in cc never)
    answer_by b r begun not_ok (Acknowledged x going was is) = absurd (not_ok (begun x was) (sym (same_answer s v ring limit programs r replies.Ok is)))

  module _ (events : List runs.Event) where
    -- the tree before a place, and its number, are those at its step
    same_place : (i t : ℕ) (x : StepAt (call_over s) first events i t) (c : Call) →
        reply_of room (tree_at s (at x.before) (length (at x.before).history)) (s.first + (length (at x.before).history + 1)) c ≡ reply_of room (tree_at s (at events) i) (s.first + (i + 1)) c
    same_place i t x c =
        let grown = (grown_from (call_over s) first refl refl (begun_first s v ring limit programs) events i t x).history in
        ap (λ tree. reply_of room tree (s.first + (length (at x.before).history + 1)) c) (sym (longer s (at x.before) (at events) (length (at x.before).history) grown (omega arith)))
        ∙ ap (λ n. reply_of room (tree_at s (at events) n) (s.first + (n + 1)) c) x.place

    answered_as : (i t : ℕ) (c : Call) (r : Reply) → EndsAt (at events).history i t c (Answered r) → (is_begun (kind_of c) ≡ true → r ≢ replies.Ok) → r ≡ reply_of room (tree_at s (at events) i) (s.first + (i + 1)) c
    answered_as i t c r there not_ok =
        let x = ended_at (call_over s) first refl events i t c (Answered r) there in
        let begun = stay_begun (call_over s) first (begun_first s v ring limit programs) x.step.before in
        answer_by x.step.before c x.own.begun r (λ b was. begun x.own c x.rest b (slice_get-In (at x.step.before).threads t x.own x.at) x.calls was) not_ok x.reason
        ∙ same_place i t x.step c

    begins_as : (i t : ℕ) (c : Call) → BeginsAt (at events).history i t c → (is_begun (kind_of c) ≡ true) × (reply_of room (tree_at s (at events) i) (s.first + (i + 1)) c ≡ replies.Ok)
    begins_as i t c there =
        let x = began_at (call_over s) first refl events i t c there in
        let es = x.step.before in (
          x.kind,
          sym (same_place i t x.step c)
              ∙ begun_replies s v ring limit programs written o j bytes es c x.reply x.kind,
        )

    -- a begun call is answered Ok
    begun_answer : (h : Host VolumeNow Call Reply) (c : Call) (b : Option Begun) (r : Reply) → is_some b ≡ true → EndReason (call_over s).model (call_over s).setup h c b (Answered r) → r ≡ replies.Ok
    begun_answer h c b r some (Stopped stop) = absurd (stop_cause_not_answer s v ring limit programs c r (stop_cause (call_over s).model (call_over s).setup h.journal.flush.taken (kind_of c) (Answered r) stop))
    begun_answer h c b r some (Refused why going idle reply is) = absurd (true≢false (sym some ∙ ap is_some idle))
    begun_answer h c b r some (Acted going idle reply kind is) = absurd (true≢false (sym some ∙ ap is_some idle))
    begun_answer h c b r some (Full going full hinders is) = absurd (let never : ◌≡◌ {A = Ending Reply} (Answered r) SessionFull = is in cc never)
    begun_answer h c b r some (Acknowledged x going was is) = sym (same_answer s v ring limit programs r replies.Ok is)

    ends_ok : (b i t : ℕ) (c : Call) (r : Reply) → IsBeginOf (at events).history b i t c → EndsAt (at events).history i t c (Answered r) → r ≡ replies.Ok
    ends_ok b i t c r began there =
        let x = ended_at (call_over s) first refl events i t c (Answered r) there in
        let old = (at x.step.before).history in
        let grown = (grown_from (call_over s) first refl refl (begun_first s v ring limit programs) events i t x.step).history in
        let low = began.earlier in
        let place = x.step.place in
        let begins : BeginsAt old b t c = sym (extended_place old (at events).history grown b (omega (arith, low, place))) ∙ began.begins in
        let last : NoneBetween old t b (length old) = λ k y up lt is. began.last k y up (omega (arith, lt, place)) (extended_place old (at events).history grown k lt ∙ is) in
        let going : has_begun t false (events_in old) ≡ true = begun_behind old b t c begins last in
        begun_answer (at x.step.before) c x.own.begun r (sym (begun_is (call_over s) first programs refl refl x.step.before t x.own x.at) ∙ going) x.reason

    pub follows_tree : FollowsTree s programs (at events)
    follows_tree = record { ordered = programs_followed (call_over s) first programs refl refl events; begins = begins_as; answers = answered_as; ends = ends_ok }
