-- The fields of a scheduler after an acceptance and after a dispatch.
use Rattle.std.proofs.Common.{◌≡◌, ℕ, ◌<◌, Bool, true, [], ◌∷◌, ◌++◌, length, Option, Some, None, refl, ap, sym, subst, ◌∙◌, arith}
use Rattle.std.proofs.lemmas.Option.{none-some, some_pair_parts}
use Rattle.blk_base.specs.laws.Members.{In-slice_get}
use Rattle.order_model.specs.declared.command.Command.{Command}
use Rattle.order_model.specs.declared.request.Request.{Request}
use Rattle.order_model.specs.History.{HistoryState}
use Rattle.schedulers.specs.reassign.Epoch as epoch
use Rattle.schedulers.specs.reassign.Epoch.{EpochState, Waiting, can_accept, picked, departed, leaving, leaves_flagged}
use Rattle.schedulers.specs.declared.epochs.sched.Sched.TheInside.{Inside}
use Rattle.order_model.specs.Single.{command_of_request}
use Rattle.schedulers.specs.reassign.Sched.{SchedState, seen_of}
use Rattle.schedulers.specs.epochs.code.Fields.{IsSched, state_of}
use Rattle.schedulers.specs.reassign.laws.Valid.{IsValid}
use Rattle.schedulers.specs.reassign.Scheduler.{IsAcceptable}
use Rattle.schedulers.specs.reassign.laws.AcceptedLaws.{accepted-valid}
use Rattle.schedulers.specs.reassign.laws.Recorded.{recorded}
use Rattle.schedulers.specs.reassign.laws.DispatchedLaws.{sent-valid, picked-leaves}

-- ---- an acceptance

abbrev pub fields_with : Inside → EpochState → HistoryState Request → HistoryState Command → Inside
fields_with s queue accepted sent_out = record { limit = s.limit; queue = queue; trace = record { accepted = accepted; sent_out = sent_out } }

pub accepted_fields : (s : Inside) (r : Request) → IsSched s → IsAcceptable (seen_of (state_of s)) r → can_accept s.queue ≡ true → IsSched (fields_with s (epoch.accepted s.queue r) (recorded s.trace.accepted r) s.trace.sent_out)
accepted_fields s r v a can = record {
  valid = accepted-valid (state_of s) r v.valid a can;
  accepted = v.accepted;
  sent_out = v.sent_out;
}

-- ---- a dispatch

-- what leaves was picked
pub leaving-some : (q : EpochState) (o : Option Waiting) (r : Request) (flagged : Bool) → Some (r, flagged) ≡ leaving q o → (w : Waiting) × (o ≡ Some w) × (w.request ≡ r) × (leaves_flagged q w ≡ flagged)
leaving-some q None r flagged e = absurd (none-some (r, flagged) (sym e))
leaving-some q (Some w) r flagged e =
    let p = some_pair_parts w.request r (leaves_flagged q w) flagged (sym e) in
    (w, refl, p.0, p.1)

-- there is room for what leaves
pub sent_room : (s : SchedState) (pick : ℕ) (w : Waiting) → IsValid s → picked s.queue pick ≡ Some w → length s.sent_out < s.limit
sent_room s pick w v e =
    let at = In-slice_get s.queue.waiting w (picked-leaves s pick w e).0 in
    omega (arith, at.1, v.counted, v.few)

abbrev sent_history : Inside → Command → HistoryState Command
sent_history s c = record { items = s.trace.sent_out.items ++ c ∷ []; room = s.trace.sent_out.room }

pub dispatched_fields : (s : Inside) (pick : ℕ) (w : Waiting) (command : Command) (queue : EpochState) (history : HistoryState Command) → IsSched s → picked s.queue pick ≡ Some w → command ≡ command_of_request w.request (leaves_flagged s.queue w) → queue ≡ departed s.queue (picked s.queue pick) → history ≡ sent_history s command → IsSched (fields_with s queue s.trace.accepted history)
dispatched_fields s pick w command queue history v e c q h =
    let now = command_of_request w.request (leaves_flagged s.queue w) in
    let may = picked-leaves (state_of s) pick w e in
    let fields : IsSched (fields_with s (departed s.queue (Some w)) s.trace.accepted (sent_history s now)) = record {
      valid = sent-valid (state_of s) w v.valid may.0 may.1;
      accepted = v.accepted;
      sent_out = v.sent_out;
    } in
    let rest : departed s.queue (Some w) ≡ queue = sym (q ∙ ap (departed s.queue) e) in
    let kept : sent_history s now ≡ history = sym (h ∙ ap (sent_history s) c) in
    subst (λ g. IsSched (fields_with s queue s.trace.accepted g)) kept
    (subst (λ z. IsSched (fields_with s z s.trace.accepted (sent_history s now))) rest fields)
