-- What calls of the host leave.
use Rattle.std.proofs.Common.{◌≡◌, ℕ, ◌+◌, ◌<◌, ◌≤◌, Bool, true, false, List, length, length-append, Option, Some, None, if◌then◌else◌, refl, sym, ap, subst, ◌∙◌, ⊎_elim, arith}
use Rattle.std.proofs.lemmas.Bool.{leb-false}
use Rattle.order_model.specs.declared.completion.Completion.{Completion}
use Rattle.order_model.specs.declared.turn.Turn.{Turn}
use Rattle.order_model.specs.declared.turn.Turn.TheVariants as turns
use Rattle.blk_base.specs.Members.{In}
use Rattle.number_sets.specs.Sets.{with, without_all}
use Rattle.number_sets.specs.laws.Members.{In-with, In-without_all}
use Rattle.log_model.specs.Ring.{IsPlace}
use Rattle.journal_ring.specs.Journal.{JournalRing}
use Rattle.journal_ring.specs.LogRing.{LogRing}
use Rattle.journal_ring.specs.running.Open.{OpenTransaction}
use Rattle.flush_actor.specs.Actor.{FlushActor, with_part}
use Rattle.flush_actor.specs.Part.{FlushPart, at_limit}
use Rattle.flush_actor.specs.Steps.{FlushTurn, submits, submit_flush, flush_due, flush_turn, take_turn}
use Rattle.commit_actor.specs.Actor.{LogState}
use Rattle.commit_actor.specs.code.Fields.{IsLog, IsAtRest, IsInPhase}
use Rattle.commit_actor.specs.declared.phase.Phase.{Phase}
use Rattle.commit_actor.specs.declared.phase.Phase.TheVariants.{Idle, Closing, Committing}
use Rattle.commit_actor.proofs.Logs.{IsKept}

-- ---- the flush part

pub part_kept : (f new : FlushActor) (x : FlushPart) → new ≡ with_part f x → x.limit ≡ f.part.limit → length x.requests ≡ length f.part.requests → length f.part.requests ≤ f.part.limit → IsKept f new
part_kept f new x e limit same few =
    subst (IsKept f) (sym e) (record { limit = limit; blocks = refl; few = omega (arith, same, few); more = omega (arith, same) })

-- a flush part with as many requests or more, up to the limit
abbrev Grows : FlushPart → FlushPart → Type 0
Grows f x = (x.limit ≡ f.limit) × (length f.requests ≤ length x.requests) × (length f.requests ≤ f.limit → length x.requests ≤ f.limit)

abbrev GrowsTo : FlushPart → FlushTurn → Type 0
GrowsTo f x = Grows f x.part

take_grows : (next : Option Completion) (f : FlushPart) → GrowsTo f (take_turn next f)
take_grows None f = (refl, omega arith, λ h. h)
take_grows (Some c) f = (refl, omega arith, λ h. h)

step_grows : (full : Bool) (next : Option Completion) (f : FlushPart) → GrowsTo f (flush_turn full next f)
step_grows full next f = due (flush_due f)
  where
    size : length (submit_flush f).requests ≡ length f.requests + 1
    size = simp (length-append) refl

    sends : (b q : Bool) → at_limit f ≡ b → GrowsTo f (if b then record { part = f; turn = turns.SessionFull } else if q then record { part = f; turn = turns.QueueFull } else record { part = submit_flush f; turn = turns.Did })
    sends true q e = (refl, omega arith, λ h. h)
    sends false true e = (refl, omega arith, λ h. h)
    sends false false e = let less = leb-false f.limit (length f.requests) e in (refl, omega (arith, size), λ h. omega (arith, size, less))

    due : (b : Bool) → GrowsTo f (if b then submits full f (submit_flush f) else take_turn next f)
    due true = sends (at_limit f) full refl
    due false = take_grows next f

grown : (f new : FlushActor) (t : Turn) (x : FlushTurn) → GrowsTo f.part x → record { part = new.part; turn = t } ≡ x → new.blocks ≡ f.blocks → length f.part.requests ≤ f.part.limit → IsKept f new
grown f new t x grows e blocks few =
    let now = subst (Grows f.part) (sym (ap (λ (y : FlushTurn). y.part) e)) grows in
    record { limit = now.0; blocks = blocks; few = now.2 few; more = now.1 }

pub step_keeps : (f new : FlushActor) (t : Turn) (full : Bool) (next : Option Completion) → record { part = new.part; turn = t } ≡ flush_turn full next f.part → new.blocks ≡ f.blocks → length f.part.requests ≤ f.part.limit → IsKept f new
step_keeps f new t full next = grown f new t (flush_turn full next f.part) (step_grows full next f.part)

pub take_keeps : (f new : FlushActor) (t : Turn) (next : Option Completion) → record { part = new.part; turn = t } ≡ take_turn next f.part → new.blocks ≡ f.blocks → length f.part.requests ≤ f.part.limit → IsKept f new
take_keeps f new t next = grown f new t (take_turn next f.part) (take_grows next f.part)

pub step_more : (f new : FlushPart) (t : Turn) (full : Bool) (next : Option Completion) → record { part = new; turn = t } ≡ flush_turn full next f → length f.requests ≤ length new.requests
step_more f new t full next e = (subst (Grows f) (sym (ap (λ (x : FlushTurn). x.part) e)) (step_grows full next f)).1

pub take_more : (f new : FlushPart) (t : Turn) (next : Option Completion) → record { part = new; turn = t } ≡ take_turn next f → length f.requests ≤ length new.requests
take_more f new t next e = (subst (Grows f) (sym (ap (λ (x : FlushTurn). x.part) e)) (take_grows next f)).1

-- ---- the running transaction

pub log_noted : (f : FlushActor) (r : JournalRing) (t next : OpenTransaction) (j : ℕ) → IsLog f r t j → next.made_with ≡ t.made_with → next.running.number ≡ t.running.number
    → ((b : ℕ) → In b next.running.touched → b < f.blocks) → IsLog f r next j
log_noted f r t next j l same number touched = record {
  same = same ∙ l.same;
  limit = l.limit;
  few = l.few;
  size = l.size;
  fits = l.fits;
  word = l.word;
  head = l.head;
  first = let first = l.first in omega (arith, first, number);
  touched = touched;
}

pub touched_more : (touched : List ℕ) (n block : ℕ) → ((b : ℕ) → In b touched → b < n) → block < n → (b : ℕ) → In b (with touched block) → b < n
touched_more touched n block h less b i = ⊎_elim (λ j. h b j) (λ e. subst (λ x. x < n) e less) (In-with touched block b i)

pub touched_fewer : (touched revoked : List ℕ) (n : ℕ) → ((b : ℕ) → In b touched → b < n) → (b : ℕ) → In b (without_all touched revoked) → b < n
touched_fewer touched revoked n h b i = h b (In-without_all touched revoked b i).0

-- ---- the phase

pub phase_kept : (l new : LogState) (p : Phase) → new.running.number ≡ l.running.number → new.ring ≡ l.ring → length l.flush.requests ≤ length new.flush.requests → IsInPhase l p → IsInPhase new p
phase_kept l new p number ring more = by p
  where
    homes : length new.ring.homes ≡ length l.ring.homes
    homes = ap (λ (r : LogRing). length r.homes) ring

    rest : IsAtRest l → IsAtRest new
    rest i =
        let first = i.first in
        let numbered = i.numbered in
        let waiting = i.waiting in
        record { first = omega (arith, first, number); numbered = omega (arith, numbered, number, more); waiting = omega (arith, waiting, homes, more) }

    by : (p : Phase) → IsInPhase l p → IsInPhase new p
    by Idle i = rest i
    by Closing i = rest i
    by (Committing s) i =
        let closed = i.closed in
        let numbered = i.numbered in
        let waiting = i.waiting in
        record {
          closed = omega (arith, closed, number);
          numbered = omega (arith, numbered, number, more);
          waiting = omega (arith, waiting, homes, more);
          left = i.left;
          place = subst (λ (r : LogRing). IsPlace r.places s.place) (sym ring) i.place;
        }
