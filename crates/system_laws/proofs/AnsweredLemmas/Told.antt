-- What a device that goes on has told in a session that stands: completions of requests that were submitted, of which no more are taken
-- than the session may have requests.
use Rattle.std.specs.Option.{option_to_list}
use Rattle.std.specs.Prelude.{◌≡◌, ℕ, ◌<◌, ◌≤◌, List, ◌++◌, length, Some, slice_get}
use Rattle.std.proofs.Common.{sym, ap, subst, ◌∙◌, arith, append_assoc}
use Rattle.std.proofs.lemmas.List.{length-append}
use Rattle.blk_base.specs.Members.{In}
use Rattle.blk_base.specs.laws.Members.{In-append_left, In-append_right, slice_get-In}
use Rattle.order_model.specs.declared.completion.Completion.{Completion}
use Rattle.order_model.specs.Device.{completed, completion_id}
use Rattle.order_model.specs.Machine.{Machine}
use Rattle.schedulers.specs.reassign.Scheduler.{SchedSteps, IsScheduler}
use Rattle.flush_actor.specs.Part.{FlushPart}
use Rattle.minix_host.specs.Sessions.{Opening}
use Rattle.session_core.specs.run.machine.Machine.{SessionState}
use Rattle.session_core.proofs.RunLemmas.MachineLemmas.SessionRuns.{taken_were_sent}
use Rattle.system_laws.proofs.AnsweredLemmas.Emptied.{Stands}
use Rattle.system_laws.proofs.AnsweredLemmas.Going.{GoesOn}
use Rattle.system_laws.proofs.AnsweredLemmas.OfRequests.{IsOf, is_of, below, few}

module _ {K S : Type 0} (s : Opening) (k : SchedSteps K) (m : Machine S) (sched_valid : K → Type 0) (good : S → Type 0) (left : S → ℕ) (scheduler : IsScheduler k sched_valid) (going : GoesOn m good left) where
  abbrev X : Type 0
  X = SessionState K S

  abbrev St : X → Type 0
  St r = Stands s k m sched_valid good left scheduler going r

  abbrev part : X → FlushPart
  part r = r.host.journal.flush

  -- all completions of the device, handed out or not
  abbrev told_by : X → List Completion
  told_by r = completed (m.seen r.dev)

  -- ---- what was told

  pub each_of : (r : X) → St r → (c : Completion) → In c (told_by r) → IsOf (part r).requests c
  each_of r st =
      is_of (part r).requests (part r).limit r.queues (k.seen r.sched) (m.seen r.dev) st.holds.fits.requests (scheduler.carries r.sched st.holds.sched) (going.completes r.dev st.holds.dev)
      (going.uncut r.dev st.holds.dev) (λ id. going.unfailed r.dev id st.holds.dev)

  pub taken_told : (r : X) → St r → (c : Completion) → In c (part r).taken → In c (told_by r)
  taken_told r st = taken_were_sent (part r).taken r.completions r.kept (m.seen r.dev) st.holds.fits.completions

  -- a completion that the flush actor may take is of a request that was submitted
  pub timely : (r : SessionState K S) → St r → (c : Completion) → slice_get r.completions 0 ≡ Some c → (id : ℕ) → completion_id c ≡ Some id → id < length r.host.journal.flush.requests
  timely r st c first id e = below (part r).requests c id (each_of r st c told) e
    where
      told : In c (told_by r)
      told = In-append_left (m.seen r.dev).sent (m.seen r.dev).waiting c
          (subst (In c) (sym st.holds.fits.completions) (In-append_left ((part r).taken ++ r.completions) (option_to_list r.kept) c (In-append_right (part r).taken r.completions c (slice_get-In r.completions 0 c first))))

  -- those that were taken, and the others
  pub told_is : (r : X) → St r → told_by r ≡ (part r).taken ++ (r.completions ++ option_to_list r.kept ++ (m.seen r.dev).waiting)
  told_is r st = ap (λ l. l ++ (m.seen r.dev).waiting) st.holds.fits.completions
      ∙ (append_assoc ((part r).taken ++ r.completions) (option_to_list r.kept) (m.seen r.dev).waiting
      ∙ (append_assoc (part r).taken r.completions (option_to_list r.kept ++ (m.seen r.dev).waiting)
      ∙ ap (λ l. (part r).taken ++ l) (sym (append_assoc r.completions (option_to_list r.kept) (m.seen r.dev).waiting))))

  pub fewer_taken : (r : X) → St r → length (part r).taken ≤ length (told_by r)
  fewer_taken r st = let same = ap length (told_is r st) in let n = length-append (part r).taken (r.completions ++ option_to_list r.kept ++ (m.seen r.dev).waiting) in omega (arith, same, n)

  -- so the flush actor may take one more
  pub taken_few : (r : X) → St r → length (part r).taken ≤ (part r).limit
  taken_few r st =
      let most = few (part r).requests (told_by r) (each_of r st) (going.completes r.dev st.holds.dev).once in
      let less = fewer_taken r st in
      let room = st.holds.fits.requests.few in
      omega (arith, most, less, room)
