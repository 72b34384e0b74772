-- Places of the log that are in use are apart, and each log block is an entry.
use Rattle.std.proofs.Common.{sym, ap, subst, ◌∙◌, inl, inr, ⊎_elim, arith}
use Rattle.std.proofs.lemmas.Bool.{cases_lt}
use Rattle.std.proofs.lemmas.Option.{none-some, same_Some}
use Rattle.std.specs.Option.{option_and_then}
use Rattle.std.specs.Prelude.{◌≡◌, ◌≢◌, ℕ, zero, suc, ◌+◌, ◌-◌, ◌<◌, ◌≤◌, List, [], ◌∷◌, length, Option, Some, None, slice_get}
use Rattle.blk_base.specs.Members.{In}
use Rattle.blk_base.specs.laws.Members.{In-slice_get}
use Rattle.order_model.specs.OrderClosed.{IsPutOf}
use Rattle.order_model.specs.declared.note.Note.{Note}
use Rattle.log_model.proofs.Ring.{places_on-add, places_on-place, place_after-last, places_on-up}
use Rattle.log_model.specs.Ring.{Ring, places_on, IsPlace}
use Rattle.crash_laws.specs.Rules.{LogLayout}
use Rattle.crash_laws.specs.Session.{Session, log_transaction, IsLog, LogBlock, with_log_block, log_blocks_from, log_blocks, IsSuperOf}
use Rattle.journal_ring.specs.LogRing.{LogRing}
use Rattle.host_machine.specs.runs.laws.RingFacts.{PlaceFacts}

-- ---- places

-- fewer steps than once round come to another place
pub places_apart : (r : Ring) (d p : ℕ) → IsPlace r p → 1 ≤ d → d < r.past - r.first → places_on r d p ≢ p
places_apart r d p at pos small e =
    let lo = at.0 in
    let hi = at.1 in
    ⊎_elim
    (λ lt. let up = places_on-up r d p lt in absurd (omega arith))
    (λ past.
    let up = r.past - 1 - p in
    let down = d - up - 1 in
    let split : d ≡ up + (1 + down) = omega arith in
    let last = places_on-up r up p (omega arith) in
    let end : p + up + 1 ≡ r.past = omega arith in
    let back = places_on-up r down r.first (omega arith) in
    let whole = ap (λ n. places_on r n p) split
    ∙ places_on-add r up (1 + down) p
    ∙ ap (places_on r (1 + down)) last
    ∙ places_on-add r 1 down (p + up)
    ∙ ap (places_on r down) (place_after-last r (p + up) end)
    ∙ back in
    absurd (omega arith))
    (cases_lt (p + d) r.past)

pub places_apart_on : (r : Ring) (n m p : ℕ) → IsPlace r p → n < m → m < n + (r.past - r.first) → places_on r n p ≢ places_on r m p
places_apart_on r n m p at lt small e =
    let split : m ≡ n + (m - n) = omega arith in
    let there = ap (λ k. places_on r k p) split ∙ places_on-add r n (m - n) p in
    places_apart r (m - n) (places_on r n p) (places_on-place r n p at) (omega arith) (omega arith) (sym there ∙ sym e)

-- ---- each log block is an entry

enter-In : (o : Option ℕ) (i : ℕ) (es : List LogBlock) (e : LogBlock) → In e es → In e (with_log_block o i es)
enter-In None i es e h = h
enter-In (Some k) i es e h = inr h

log_entered : (i d k : ℕ) (ns : List Note) → option_and_then log_transaction (slice_get ns d) ≡ Some k → In (record { id = i + d; transaction = k }) (log_blocks_from i ns)
log_entered i d k [] h = absurd (none-some k h)
log_entered i zero k (n ∷ ns) h =
    let e : i ≡ i + zero = omega arith in
    subst (λ (o : Option ℕ). In (record { id = i + zero; transaction = k }) (with_log_block o i (log_blocks_from (i + 1) ns))) (sym h) (inl (ap (λ j. record { id = j; transaction = k }) e))
log_entered i (suc d) k (n ∷ ns) h =
    let e : i + 1 + d ≡ i + suc d = omega arith in
    enter-In (log_transaction n) i (log_blocks_from (i + 1) ns) (record { id = i + suc d; transaction = k })
    (subst (λ j. In (record { id = j; transaction = k }) (log_blocks_from (i + 1) ns)) e (log_entered (i + 1) d k ns h))

pub log_entry : (s : Session) (k i : ℕ) → IsLog s k i → (n : ℕ) × (n < length (log_blocks s)) × (slice_get (log_blocks s) n ≡ Some (record { id = i; transaction = k }))
log_entry s k i h =
    let e : 0 + i ≡ i = omega arith in
    In-slice_get (log_blocks s) (record { id = i; transaction = k }) (subst (λ j. In (record { id = j; transaction = k }) (log_blocks s)) e (log_entered 0 i k s.notes h))

-- Where a place comes up for the next log block, what was there is freed.
pub next_place_is_freed : (s : Session) (ring : LogRing) (more k i b : ℕ) → LogLayout s → PlaceFacts s ring more → 1 ≤ more → IsLog s k i → IsPutOf s.requests i b
    → b ≡ s.journal + places_on s.ring (length (log_blocks s)) s.head → (x freed : ℕ) × IsSuperOf s x freed × (i < x) × (k ≤ freed)
next_place_is_freed s ring more k i b layout facts pos h put e =
    let n = log_entry s k i h in
    let lt = n.1 in
    ⊎_elim
    (λ used.
    let there = layout.place n.0 (record { id = i; transaction = k }) n.2 in
    let same = same_Some (s.journal + places_on s.ring n.0 s.head) b (sym there ∙ put) in
    let room = facts.room in
    let q : places_on s.ring n.0 s.head ≡ places_on s.ring (length (log_blocks s)) s.head = omega arith in
    absurd (places_apart_on s.ring n.0 (length (log_blocks s)) s.head layout.head lt (omega arith) q))
    (λ f. (f.0, f.1, f.2, f.3, f.4))
    (facts.freed n.0 (record { id = i; transaction = k }) n.2)
