-- Each Ok of a barrier or sync call has its Begin, its cause and what it promises.
use Rattle.std.proofs.Common.{◌<◌, ◌≡◌, ℕ, ◌+◌, ◌≤◌, map, false, List, [], ◌∷◌, length, Option, Some, slice_get, refl, sym, ap, subst, ◌∙◌, arith}
use Rattle.std.proofs.lemmas.Bool.{true≢false}
use Rattle.std.proofs.lemmas.List.{length-map, map-append}
use Rattle.blk_base.specs.laws.Members.{slice_get-length}
use Rattle.tree_model.specs.declared.call.Call.{Call}
use Rattle.tree_model.specs.declared.call.Reply.{Reply}
use Rattle.tree_model.specs.declared.call.Reply.TheVariants as replies
use Rattle.tree_model.specs.Histories.{tree_after_entries}
use Rattle.volume_steps.specs.Now.{VolumeNow, tree_of_now, room_of}
use Rattle.crash_laws.proofs.LongerHistories.{same_tree}
use Rattle.journal_ring.specs.LogRing.{LogRing}
use Rattle.flush_actor.specs.Kinds.{is_data, is_durable}
use Rattle.host_machine.specs.State.{Ending, Answered, SessionFull, Begins, Begun, Host}
use Rattle.host_machine.specs.runs.Promises.{IsAnswered}
use Rattle.host_machine.specs.runs.Runs as runs
use Rattle.host_machine.specs.runs.Runs.{steps}
use Rattle.host_machine.specs.runs.laws.Written.{AreWritten}
use Rattle.minix_host.specs.Calls.{kind_of}
use Rattle.minix_host.specs.Runs.{IsOpenedVolume, HasEmptyJournal}
use Rattle.minix_host.specs.Sessions.{Opening, Stands}
use Rattle.call_sessions.specs.Sessions.{WriteBytes, call_over, acting_call, opened_with, host_behind}
use Rattle.call_sessions.proofs.CallsKept.{calls_kept, calls_answered}
use Rattle.call_sessions.specs.promises.Answers.{node_in, AnsweredAt, WasAnswered, HasOkCause, KeepsPromises}
use Rattle.call_sessions.specs.promises.Entries.{IsBeginOf}
use Rattle.call_sessions.specs.promises.Trees.{tree_at}
use Rattle.call_sessions.proofs.PromisesLemmas.BegunCalls.{InCall, begun_in_run}
use Rattle.call_sessions.proofs.PromisesLemmas.CallerSteps.{EndReason, Stopped, Refused, Acted, Full, Acknowledged}
use Rattle.call_sessions.proofs.PromisesLemmas.EndCauses.{stop_cause, grown_from}
use Rattle.call_sessions.proofs.PromisesLemmas.Ends.{Ended, ended_at}
use Rattle.call_sessions.proofs.PromisesLemmas.Growing.{Extends, extended_place, extends_on}
use Rattle.call_sessions.proofs.PromisesLemmas.Origins.{steps_append}
use Rattle.call_sessions.proofs.PromisesLemmas.SessionHistory.{begun_first, stop_cause_not_answer, same_answer}
use Rattle.call_sessions.proofs.PromisesLemmas.SessionTrees.{tree_is, plain_now}
use Rattle.call_sessions.proofs.PromisesLemmas.VolumeReplies.{refusal_not_ok}

-- the tree before a place is that of a history which goes on
pub longer : (s : Opening) (old new : Host VolumeNow Call Reply) (n : ℕ) → Extends old.history new.history → n ≤ length old.history → tree_at s new n ≡ tree_at s old n
longer s old new n e le =
    ap (λ h. tree_after_entries (room_of s.geometry) s.tree.tree s.first (map acting_call h) n) e.are
    ∙ ap (λ es. tree_after_entries (room_of s.geometry) s.tree.tree s.first es n) (map-append acting_call old.history e.more)
    ∙ same_tree (room_of s.geometry) s.tree.tree s.first (map acting_call old.history) (map acting_call e.more) n (let l = length-map old.history acting_call in omega (arith, l, le))

module _ (s : Opening) (v : VolumeNow) (ring : LogRing) (limit : ℕ) (programs : List (List Call)) (written : AreWritten s.format s.writers) (o : IsOpenedVolume s v) (j : HasEmptyJournal s ring limit) (bytes : WriteBytes programs) (events : List runs.Event) where
  abbrev first : Host VolumeNow Call Reply
  first = opened_with s v ring limit programs

  abbrev at : List runs.Event → Host VolumeNow Call Reply
  at es = host_behind s v ring limit programs es

  module _ (e t : ℕ) (c : Call) (ok : AnsweredAt (at events) e t c) where
    abbrev own : Ended (call_over s) first events e t c (Answered replies.Ok)
    own = ended_at (call_over s) first refl events e t c (Answered replies.Ok) ok.0

    -- it had begun
    begun_by : (es : List runs.Event) (b : Option Begun) → EndReason (call_over s).model (call_over s).setup (at es) c b (Answered replies.Ok) → (x : Begun) × (b ≡ Some x)
    begun_by es b (Stopped stop) = absurd (stop_cause_not_answer s v ring limit programs c replies.Ok (stop_cause (call_over s).model (call_over s).setup (at es).journal.flush.taken (kind_of c) (Answered replies.Ok) stop))
    begun_by es b (Refused why going idle reply is) = absurd (refusal_not_ok (at es).volume c why (plain_now s v ring limit programs written o j bytes es) reply (same_answer s v ring limit programs replies.Ok why is))
    begun_by es b (Acted going idle reply kind is) = absurd (true≢false (sym ok.1 ∙ kind))
    begun_by es b (Full going full hinders is) = absurd (let never : ◌≡◌ {A = Ending Reply} (Answered replies.Ok) SessionFull = is in cc never)
    begun_by es b (Acknowledged x going was is) = (x, was)

    -- where it stood before its End
    abbrev before : List runs.Event
    before = own.step.before

    abbrev began : (x : Begun) × (own.own.begun ≡ Some x)
    began = begun_by before own.own.begun own.reason

    abbrev in_call : InCall (call_over s) first (at before) t own.own began.0
    in_call = begun_in_run (call_over s) first programs refl before t own.own began.0 own.at began.1

    abbrev place : ℕ
    place = length (at in_call.start.before).history

    abbrev same_call : in_call.start.call ≡ c
    same_call = ap (λ (l : List Call). elim l as (λ _. Call) [ [] ↦ c | y ∷ ys ↦ y ]) (sym in_call.start.calls ∙ own.calls)

    abbrev grown : Extends (at before).history (at events).history
    grown = (grown_from (call_over s) first refl refl (begun_first s v ring limit programs) events e t own.step).history

    stood : place < length (at before).history
    stood = slice_get-length (at before).history place _ in_call.entry

    is_begin : IsBeginOf (at events).history place e t c
    is_begin =
        let there = stood in
        let ends = own.step.place in
        record {
          begins = extended_place (at before).history (at events).history grown place there
              ∙ subst (λ d. slice_get (at before).history place ≡ Some (record { thread = t; call = d; what = Begins })) same_call in_call.entry;
          earlier = omega (arith, there, ends);
          last = λ k y low high is.
              let lt : k < length (at before).history = omega (arith, high, ends) in
              in_call.last k y low lt (sym (extended_place (at before).history (at events).history grown k lt) ∙ is);
        }

    -- the tree where it began
    on_node : began.0.file ≡ node_in (tree_at s (at events) place) c
    on_node =
        let then = at in_call.start.before in
        let tree : tree_of_now then.volume ≡ tree_at s (at events) place =
        tree_is s v ring limit programs written o j bytes in_call.start.before
        ∙ sym (longer s then (at events) place (extends_on then.history (at before).history (at events).history in_call.whole grown) (omega arith)) in
        in_call.start.file ∙ ap (λ d. (call_over s).model.node then.volume d) same_call ∙ ap (λ x. node_in x c) tree

    goes_on : steps (call_over s) (at before) (runs.Call own.step.full t ∷ own.step.after) ≡ at events
    goes_on = sym (ap (steps (call_over s) first) own.step.split ∙ steps_append (call_over s) first before (runs.Call own.step.full t ∷ own.step.after))

    holds : IsAnswered (call_over s) (Stands s) (at events) (e + 1) began.0
    holds =
        let more = runs.Call own.step.full t ∷ own.step.after in
        subst (λ (g : Host VolumeNow Call Reply). IsAnswered (call_over s) (Stands s) g (e + 1) began.0) goes_on
        (subst (λ n. IsAnswered (call_over s) (Stands s) (steps (call_over s) (at before) more) (n + 1) began.0) own.step.place
        (calls_answered s v ring limit programs written o j bytes before more own.step.full t own.own began.0 own.at began.1 own.said))

    was_answered : WasAnswered s (at events) e t c
    was_answered = record {
      place = place;
      began = is_begin;
      begun = began.0;
      number = in_call.start.number;
      kind = in_call.start.kind ∙ ap kind_of same_call;
      node = on_node;
      holds = holds;
    }

    -- its cause
    ok_cause : is_data (kind_of c) ≡ false → HasOkCause (at events) e t c
    ok_cause metadata =
        let w = was_answered in
        let cause = w.holds.cause (ap is_data w.kind ∙ metadata) in
        record {
          place = w.place;
          began = w.began;
          commits = record {
            transaction = cause.k;
            request = cause.c;
            commit = cause.commit;
            behind = (let low = cause.begun in let n = w.number in omega (arith, low, n));
            before = cause.ended;
            flushed = λ durable. cause.flushed (ap is_durable w.kind ∙ durable);
          };
        }

  pub promises_kept : KeepsPromises s (at events)
  promises_kept =
      let kept = calls_kept s v ring limit programs written o j bytes events in
      record {
        kept = kept;
        answered = was_answered;
        flushed = λ e t c ok durable. (let w = was_answered e t c ok in w.holds.sync (ap is_durable w.kind ∙ durable));
        barriers = λ m e t c ok barrier order later.
            let w = was_answered e t c ok in
            kept.sentences.barriers m (e + 1) w.begun order w.holds (ap is_durable w.kind ∙ barrier) later;
        syncs = λ m sent e t c ok durable order flushed taken.
            let w = was_answered e t c ok in
            kept.sentences.syncs m (e + 1) w.begun sent order flushed taken w.holds (ap is_durable w.kind ∙ durable);
      }

  pub ok_causes : (e t : ℕ) (c : Call) → AnsweredAt (at events) e t c → is_data (kind_of c) ≡ false → HasOkCause (at events) e t c
  ok_causes e t c ok metadata = ok_cause e t c ok metadata
