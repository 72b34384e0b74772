-- The fields of the ring at each step of the code.
use Rattle.std.proofs.Common.{◌≡◌, ℕ, ◌+◌, ◌-◌, ◌<◌, ◌≤◌, List, length, sym, ap, subst, ◌∙◌, arith}
use Rattle.blk_base.specs.laws.Members.{IsAscending-filter}
use Rattle.log_model.proofs.Ring.{places_on-up, places_on-add, place_after-last}
use Rattle.log_model.specs.Marks.{Logged}
use Rattle.log_model.specs.Ring.{Ring, places_on}
use Rattle.number_sets.specs.Sets.{has}
use Rattle.std.specs.Prelude.{not}
use Rattle.journal_blocks.specs.declared.super_block.JournalSuper.{JournalSuper}
use Rattle.journal_ring.specs.Journal.{JournalRing, with_ring}
use Rattle.journal_ring.specs.LogRing.{put_homes, place_blocks}
use Rattle.journal_ring.specs.code.Fields.{IsRing}
use Rattle.journal_ring.proofs.Waiting.{block_of, unrevoked, put_homes-rising, put_homes-longer, unrevoked-fewer}

-- at most once round from p, over the end
pub places_over : (r : Ring) (n p : ℕ) → r.first ≤ p → p < r.past → r.past - p ≤ n → n ≤ r.past - r.first → places_on r n p ≡ r.first + (n - (r.past - p))
places_over r n p low high over few =
    let up = r.past - 1 - p in
    let rest = n - (r.past - p) in
    let size : n ≡ up + (1 + rest) = omega arith in
    let end : p + up + 1 ≡ r.past = omega arith in
    ap (λ m. places_on r m p) size
    ∙ places_on-add r up (1 + rest) p
    ∙ ap (places_on r (1 + rest)) (places_on-up r up p (omega arith))
    ∙ places_on-add r 1 rest (p + up)
    ∙ ap (places_on r rest) (place_after-last r (p + up) end)
    ∙ places_on-up r rest r.first (omega arith)

-- what waits is at most what may
pub view_room : (t k : JournalRing) (n : ℕ) → t ≡ k → length k.ring.homes + n ≤ k.limit → length t.ring.homes + n ≤ t.limit
view_room t k n e h = subst (λ (x : JournalRing). length x.ring.homes + n ≤ x.limit) (sym e) h

-- the commit block of a transaction was submitted
pub ring_commits : (s : JournalSuper) (limit room head used : ℕ) (homes dropped new bodies : List Logged) (rs : List ℕ) (after : ℕ)
    → IsRing s limit room head used homes → length homes + length bodies ≤ limit → dropped ≡ unrevoked rs homes → new ≡ put_homes dropped bodies → room ≤ after → IsRing s limit after head used new
ring_commits s limit room head used homes dropped new bodies rs after h fits e put grows =
    let left = unrevoked rs homes in
    let same : new ≡ put_homes left bodies = put ∙ ap (λ l. put_homes l bodies) e in
    let fewer = unrevoked-fewer rs homes in
    let longer = put_homes-longer left bodies in
    let reserved = h.reserved in
    subst (λ l. IsRing s limit after head used l) (sym same)
    (record {
      sound = h.sound;
      low = h.low;
      high = h.high;
      few = h.few;
      rising = put_homes-rising left bodies (IsAscending-filter block_of (λ l. not (has rs l.block)) homes h.rising);
      most = omega (arith, fewer, longer, fits);
      short = h.short;
      reserved = omega (arith, reserved, grows);
    })

-- so many places were taken
pub placed_ring : (t k : JournalRing) (n head : ℕ) → t ≡ k → head ≡ places_on t.ring.places n t.ring.head
    → record { made_with = t.made_with; limit = t.limit; committed = t.committed; ring = record { places = t.ring.places; head = head; used = t.ring.used + n; started = t.ring.started; homes = t.ring.homes } } ≡ with_ring k (place_blocks n k.ring)
placed_ring t k n head e at =
    ap (λ h. let r : JournalRing = record { made_with = t.made_with; limit = t.limit; committed = t.committed; ring = record { places = t.ring.places; head = h; used = t.ring.used + n; started = t.ring.started; homes = t.ring.homes } } in r) at
    ∙ ap (λ (x : JournalRing). with_ring x (place_blocks n x.ring)) e

pub view_free : (t k : JournalRing) (n : ℕ) → t ≡ k → n ≤ k.ring.places.past - k.ring.places.first - k.ring.used → n ≤ t.ring.places.past - t.ring.places.first - t.ring.used
view_free t k n e h = subst (λ (x : JournalRing). n ≤ x.ring.places.past - x.ring.places.first - x.ring.used) (sym e) h
