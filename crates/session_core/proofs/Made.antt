-- A session that a script opens can run, and where its host ends.
use Rattle.std.proofs.Common.{take, ◌≡◌, ℕ, ◌<◌, ◌≤◌, ◌↔◌, ◌++◌, List, [], ◌∷◌, length, Result, Ok, Err, IfOk, IsErr, slice_index_or, zero, suc, refl, sym, ap, subst, ◌∙◌, arith, inl, inr}
use Rattle.blk_base.specs.Members.{In}
use Rattle.blk_base.specs.laws.Members.{In-append_left, In-append_right}
use Rattle.order_model.specs.declared.device.OrderedDev as devices
use Rattle.order_model.specs.Carrying.{SchedSeen}
use Rattle.order_model.specs.Device.{Seen, TellsCut, TellsFailure}
use Rattle.order_model.specs.Machine.{Machine}
use Rattle.order_model.specs.Steps.{IsMadeAs}
use Rattle.schedulers.specs.declared.reassign.scheduler.Scheduler as schedulers
use Rattle.blk_base.specs.declared.memory.NoMemory.{NoMemory}
use Rattle.schedulers.specs.declared.reassign.scheduler.TheConstants.{CAPACITY}
use Rattle.schedulers.specs.reassign.Scheduler.{SchedSteps, IsNewScheduler}
use Rattle.line_grammar.specs.declared.events.event.EventLine.{EventLine}
use Rattle.minix_layout.specs.declared.division.Geometry.{Geometry}
use Rattle.minix_layout.specs.declared.division.TooSmall.{TooSmall}
use Rattle.minix_layout.specs.Geometry.{IsSound, geometry_made}
use Rattle.minix_layout.specs.Words.{first_zone}
use Rattle.mount_make.specs.Made.{made_image}
use Rattle.tree_model.specs.declared.call.Call.{Call}
use Rattle.line_grammar.specs.calls.WellFormed as call
use Rattle.minix_host.specs.ByteCalls.{HasBytes}
use Rattle.session_grammar.specs.declared.session_script.SessionScript.{SessionScript}
use Rattle.session_grammar.specs.WellFormed.{IsWellFormed, all_calls}
use Rattle.session_core.specs.run.machine.Machine.{core_session, opened_session, events_of, host_events}
use Rattle.host_machine.specs.runs.Runs.{steps}
use Rattle.session_core.specs.run.machine.MadeStart.{IsNew}
use Rattle.session_core.specs.run.machine.Fits.{SessionFits}
use Rattle.std.specs.Option.{option_to_list}
use Rattle.session_core.specs.run.Beginning.{HostNow, WriteBytes, call_over, IsMadeFor}
use Rattle.session_core.specs.run.End.{IsEndOf, EndKeepsOrder}
use Rattle.session_core.specs.declared.run.session.SessionEnd.{SessionEnd}
use Rattle.session_core.specs.Core.{HasSetup, IsDeviceOf, IsNewFor, geometry_of, opening_of, start_of, ended}
use Rattle.session_core.specs.code.Ends.{session_on, EndsIn, KeepsTheOrder, IsBehind, EndFits}

-- ---- its calls

pub of_program : (ps : List (List Call)) (p : List Call) (c : Call) → In p ps → In c p → In c (all_calls ps)
of_program [] p c there here = absurd there
of_program (q ∷ qs) p c (inl e) here = In-append_left q (all_calls qs) c (subst (λ (x : List Call). In c x) (sym e) here)
of_program (q ∷ qs) p c (inr there) here = In-append_right q (all_calls qs) c (of_program qs p c there here)

pub script_writes_bytes : (s : SessionScript) → IsWellFormed s → ((c : Call) → call.IsWellFormed c → HasBytes c) → WriteBytes s.programs
script_writes_bytes s is bytes = λ p c there here. bytes c (is.calls c (of_program s.programs p c there here))

-- ---- its parts

-- its host is the one that was made
pub made_for : {A B : Type 0} (k : schedulers.Ghosts A) (d : devices.Ghosts B) (s : SessionScript) (made h : HostNow) (sched : k.State) (dev : d.State) → h ≡ made
    → IsMadeFor k d (opening_of s) (start_of s) made s.header.queue (length s.programs) sched dev → IsMadeFor k d (opening_of s) (start_of s) h s.header.queue (length s.programs) sched dev
made_for k d s made h sched dev host is = subst (λ x. IsMadeFor k d (opening_of s) (start_of s) x s.header.queue (length s.programs) sched dev) (sym host) is

-- it has so many threads
pub with_threads : {A B : Type 0} (k : schedulers.Ghosts A) (d : devices.Ghosts B) (s : SessionScript) (h : HostNow) (sched : k.State) (dev : d.State) (n : ℕ) → n ≡ length s.programs
    → IsMadeFor k d (opening_of s) (start_of s) h s.header.queue (length s.programs) sched dev → IsMadeFor k d (opening_of s) (start_of s) h s.header.queue n sched dev
with_threads k d s h sched dev n count is = subst (λ m. IsMadeFor k d (opening_of s) (start_of s) h s.header.queue m sched dev) (sym count) is

-- ---- its sizes, and what it begins with

pub sound_of : (r : Result Geometry TooSmall) (inodes zones width : ℕ) → IfOk r (λ g. IsSound g) → IfOk r (λ g. g ≡ geometry_made inodes zones width) → (IsErr r ↔ (zones ≤ first_zone inodes zones)) → first_zone inodes zones < zones
    → IsSound (geometry_made inodes zones width)
sound_of (Ok g) inodes zones width sound made small some = subst IsSound made sound
sound_of (Err e) inodes zones width sound made small some = let le = small.0 refl in absurd (omega (arith, le, some))

any_capacity : (limit capacity : ℕ) (p : SchedSeen) → IsNewScheduler limit capacity p → IsNewScheduler limit p.capacity p
any_capacity limit capacity p new =
    record { requests = new.requests; room = refl; accepted = new.accepted; waiting = new.waiting; unblocked = new.unblocked; sent_out = new.sent_out }

pub is_new : (s : SessionScript) (p : SchedSeen) (d : Seen) → IsNewScheduler s.header.limit CAPACITY p → IsNewFor s d → IsNew (made_image (geometry_of s) s.journal s.wide) s.header.limit p d
is_new s p d sched dev =
    record { image = dev.image; took = dev.untouched.took; sent = dev.untouched.sent; ids = dev.ids; scheduler = any_capacity s.header.limit CAPACITY p sched }

-- ---- its end

pub ends_in : {K S : Type 0} (k : SchedSteps K) (m : Machine S) (s : SessionScript) (sched : K) (dev : S) (lines : List EventLine) (r : Result SessionEnd NoMemory) → lines ≡ s.events
    → IfOk r (IsEndOf k m (core_session (opening_of s) k m (start_of s) sched dev lines)) → IfOk r (EndsIn (ended k m (session_on s k m sched dev)))
ends_in k m s sched dev lines (Err e) events is = tt
ends_in k m s sched dev lines (Ok x) events is =
    let there = subst (λ (l : List EventLine). IsEndOf k m (core_session (opening_of s) k m (start_of s) sched dev l) x) events is in
    record { host = there.host; sched = there.sched; image = there.image; origins = there.origins; trace = there.trace }

pub keeps_order : {K S : Type 0} (k : SchedSteps K) (m : Machine S) (s : SessionScript) (sched : K) (dev : S) (lines : List EventLine) (r : Result SessionEnd NoMemory) → lines ≡ s.events
    → IfOk r (EndKeepsOrder m (opening_of s) (core_session (opening_of s) k m (start_of s) sched dev lines)) → IfOk r (KeepsTheOrder s (ended k m (session_on s k m sched dev)))
keeps_order k m s sched dev lines (Err e) events is = tt
keeps_order k m s sched dev lines (Ok x) events is = subst (λ (l : List EventLine). EndKeepsOrder m (opening_of s) (core_session (opening_of s) k m (start_of s) sched dev l) x) events is

-- its host took the steps that its events say
pub behind_of : {K S X E : Type 0} (k : SchedSteps K) (m : Machine S) (s : SessionScript) (sched : K) (dev : S) (r : Result X E)
    → (session_on s k m sched dev).host ≡ steps (call_over (opening_of s)) (opened_session (opening_of s) (start_of s) sched dev).host (host_events (opening_of s) k m (opened_session (opening_of s) (start_of s) sched dev) (events_of (length s.programs) s.events))
    → IfOk r (λ x. IsBehind s (ended k m (session_on s k m sched dev)))
behind_of k m s sched dev (Ok x) e = record { events = host_events (opening_of s) k m (opened_session (opening_of s) (start_of s) sched dev) (events_of (length s.programs) s.events); host = e }
behind_of k m s sched dev (Err x) e = tt

-- ---- its programs are short

pub programs_short : (ps : List (List Call)) (n : ℕ) → ((p : List Call) → In p ps → length p ≤ n) → (i : ℕ) → length (slice_index_or ps i []) ≤ n
programs_short [] n short i = omega arith
programs_short (p ∷ ps) n short zero = short p (inl refl)
programs_short (p ∷ ps) n short (suc i) = programs_short ps n (λ q there. short q (inr there)) i

-- ---- its device

pub device_of : {K S X E : Type 0} (k : SchedSteps K) (m : Machine S) (s : SessionScript) (sched : K) (dev : S) (r : Result X E) → HasSetup s (m.seen dev)
    → IsMadeAs (m.seen dev) (m.seen (session_on s k m sched dev).dev) → TellsCut (m.seen (session_on s k m sched dev).dev) → TellsFailure (m.seen (session_on s k m sched dev).dev)
    → IfOk r (λ x. IsDeviceOf s (ended k m (session_on s k m sched dev)).dev)
device_of k m s sched dev (Err x) setup made power failure = tt
device_of k m s sched dev (Ok x) setup made power failure = record {
  setup = record { depth = made.depth ∙ setup.depth; cut_at = made.cut_at ∙ setup.cut_at; fail_at = made.fail_at ∙ setup.fail_at };
  power = power;
  failure = failure;
}

-- ---- its parts fit

two_fronts : {X : Type 0} (xs ys : List X) → xs ≡ take (length xs) (xs ++ ys)
two_fronts [] ys = refl
two_fronts (x ∷ xs) ys = ap (λ r. x ∷ r) (two_fronts xs ys)

three_fronts : {X : Type 0} (xs ys zs : List X) → xs ≡ take (length xs) (xs ++ ys ++ zs)
three_fronts [] ys zs = refl
three_fronts (x ∷ xs) ys zs = ap (λ r. x ∷ r) (three_fronts xs ys zs)

pub end_fits : {K S X E : Type 0} (k : SchedSteps K) (m : Machine S) (s : SessionScript) (sched : K) (dev : S) (r : Result X E)
    → SessionFits k m (core_session (opening_of s) k m (start_of s) sched dev s.events) → IfOk r (λ x. EndFits (ended k m (session_on s k m sched dev)))
end_fits k m s sched dev (Err x) fits = tt
end_fits k m s sched dev (Ok x) fits =
    let at = core_session (opening_of s) k m (start_of s) sched dev s.events in
    let accepted = (k.seen at.sched).accepted in
    let took = (m.seen at.dev).took in
    let taken = at.host.journal.flush.taken in
    record {
      accepted = (length accepted, two_fronts accepted at.queues.submission ∙ ap (take (length accepted)) fits.requests.submitted);
      received = (length took, three_fronts took at.queues.dispatched (option_to_list at.queues.kept) ∙ ap (take (length took)) (sym fits.requests.sent));
      taken = (length taken, three_fronts taken at.completions (option_to_list at.kept) ∙ ap (take (length taken)) (sym fits.completions));
    }
