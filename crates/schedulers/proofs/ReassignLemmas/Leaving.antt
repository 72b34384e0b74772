-- The request that leaves is the one that was picked.
use Rattle.std.proofs.Common.{◌≡◌, ℕ, ◌<◌, length, true, List, Bool, get_or, slice_get, Option, Some, None, refl, not, ◌||◌, ◌&&◌, if◌then◌else◌, sym, ap, ◌∙◌, false}
use Rattle.std.specs.List.{remove, list_all}
use Rattle.blk_base.specs.laws.Members.{In-filter, slice_get-In, slice_get-in_range}
use Rattle.std.proofs.lemmas.Option.{get_or_from_slice_get}
use Rattle.order_model.specs.declared.request.Kind.{Kind}
use Rattle.order_model.specs.OrderClosed.{is_flush}
use Rattle.schedulers.specs.declared.reassign.closing.Closing.{Closing}
use Rattle.schedulers.specs.declared.reassign.closing.Closing.TheVariants as closings
use Rattle.schedulers.specs.reassign.Epoch.{EpochState, Waiting, eligible, without, waits_ordered, is_barrier_closing, departed, leaving, stands_before, may_leave, AreNumbered}
use Rattle.schedulers.specs.reassign.code.Kept.{IsPicked}
use Rattle.order_model.specs.laws.ArrivalLaws.{there-is, remove-without}

-- what is picked is what stands at the place that was found, and it may leave
pub picked-at : (pick i : ℕ) (ws : List Waiting) → IsPicked ws pick i → slice_get (eligible ws) pick ≡ slice_get ws i
picked-at pick i ws h =
    let x = slice_get-in_range ws i h.within in
    h.there x.0 ∙ ap Some (get_or_from_slice_get ws i x.0 x.0 x.1) ∙ sym x.1

pub picked-may_leave : (pick i : ℕ) (ws : List Waiting) (w : Waiting) → IsPicked ws pick i → slice_get ws i ≡ Some w → may_leave ws w ≡ true
picked-may_leave pick i ws w h at =
    (In-filter (may_leave ws) ws w (slice_get-In (eligible ws) pick w (picked-at pick i ws h ∙ at))).1

removed-is : (next i : ℕ) (ws ws' : List Waiting) (w : Waiting) → AreNumbered next ws → i < length ws → w ≡ get_or ws i w → ws' ≡ remove ws i → ws' ≡ without w.number ws
removed-is next i ws ws' w numbered lt at removed =
    removed ∙ remove-without (λ (v : Waiting). v.number) next ws i w numbered (there-is ws i w lt at)

-- whether the request w leaves as the barrier, where the others still wait
abbrev pub flagged_of : Closing → Waiting → List Waiting → Bool
flagged_of closing w rest = is_flush w.request.kind || (is_barrier_closing closing && (w.request.ordered && not (waits_ordered rest)))

pub leaving-is : (s : EpochState) (i : ℕ) (w : Waiting) (rest : List Waiting) (flagged : Bool) → AreNumbered s.next s.waiting → i < length s.waiting → w ≡ get_or s.waiting i w
    → rest ≡ remove s.waiting i → flagged ≡ flagged_of s.closing w rest → Some (w.request, flagged) ≡ leaving s (slice_get s.waiting i)
leaving-is s i w rest flagged numbered lt at removed told =
    rw (there-is s.waiting i w lt at)
    (ap (λ f. Some (w.request, f)) (told ∙ ap (flagged_of s.closing w) (removed-is s.next i s.waiting rest w numbered lt at removed)))

pub departed-is : (s : EpochState) (i : ℕ) (w : Waiting) (rest : List Waiting) (flagged : Bool) (closing : Closing) → AreNumbered s.next s.waiting → i < length s.waiting
    → w ≡ get_or s.waiting i w → rest ≡ remove s.waiting i → flagged ≡ flagged_of s.closing w rest → closing ≡ (if flagged then closings.Open else s.closing)
    → record { capacity = s.capacity; next = s.next; waiting = rest; closing = closing } ≡ departed s (slice_get s.waiting i)
departed-is s i w rest flagged closing numbered lt at removed told shut =
    let is = removed-is s.next i s.waiting rest w numbered lt at removed in
    let flag = told ∙ ap (flagged_of s.closing w) is in
    let shut' = shut ∙ ap (λ f. if f then closings.Open else s.closing) flag in
    rw (there-is s.waiting i w lt at) (λ j. record { capacity = s.capacity; next = s.next; waiting = is j; closing = shut' j })

-- a put may leave where none stands before it
pub put-may_leave : (ws : List Waiting) (w : Waiting) (k : Kind) (b : Bool) → k ≡ w.request.kind → is_flush k ≡ false → b ≡ list_all (λ v. not (stands_before v w)) ws → b ≡ may_leave ws w
put-may_leave ws w k b is put all =
    let put' : is_flush w.request.kind ≡ false = ap is_flush (sym is) ∙ put in
    rw put' all

-- the numbers go on where they were
pub departed_next : (s : EpochState) (o : Option Waiting) → (departed s o).next ≡ s.next
departed_next s None = refl
departed_next s (Some w) = refl
