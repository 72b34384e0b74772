-- What holds of the log while requests are submitted.
use Rattle.std.proofs.Common.{◌≡◌, ℕ, ◌+◌, ◌<◌, ◌≤◌, ◌==◌, ◌^◌, ◌&&◌, ◌||◌, Bool, true, false, List, [], ◌∷◌, ◌++◌, length, length-append, map, drop, get_or, nat_lt, nat_le, if◌then◌else◌, refl, sym, ap, subst, ◌∙◌, arith}
use Rattle.std.proofs.lemmas.Bool.{false≢true, leb-false, ltb-false, ltb-true, and_parts}
use Rattle.std.proofs.lemmas.Option.{slice_get-get_or}
use Rattle.order_model.specs.declared.note.Note.{Note}
use Rattle.order_model.specs.declared.request.Request.{Request}
use Rattle.order_model.specs.declared.turn.Turn.TheVariants.{SessionFull, QueueFull, Did}
use Rattle.order_model.specs.declared.turn.Turn.{Turn}
use Rattle.journal_blocks.specs.declared.super_block.JournalSuper.{JournalSuper}
use Rattle.blk_base.specs.Members.{In}
use Rattle.blk_base.specs.laws.Members.{In-map, slice_get-In}
use Rattle.log_model.specs.Marks.{Logged}
use Rattle.log_model.specs.Ring.{Ring, IsPlace}
use Rattle.log_model.proofs.Ring.{places_on-place}
use Rattle.flush_actor.specs.conflicts.Conflicts.{Conflicts, hold}
use Rattle.journal_blocks.specs.Super.{IsSound}
use Rattle.journal_ring.specs.Journal as ring
use Rattle.journal_ring.specs.Journal.{JournalRing, with_ring}
use Rattle.journal_ring.specs.LogRing.{ring_free, place_blocks}
use Rattle.journal_ring.specs.running.Closing.{logged_of}
use Rattle.journal_ring.specs.running.Open as transaction
use Rattle.journal_ring.specs.running.Open.{OpenTransaction, with_running}
use Rattle.journal_ring.specs.running.Plan.{Writers}
use Rattle.journal_ring.specs.running.Running.{fresh, log_needs}
use Rattle.flush_actor.specs.Actor as flush
use Rattle.flush_actor.specs.Actor.{FlushActor, with_part, with_conflicts}
use Rattle.flush_actor.specs.Outcomes.{is_did}
use Rattle.flush_actor.specs.Part.{FlushPart, submit}
use Rattle.flush_actor.specs.Steps.{submit_turn, after_submit}
use Rattle.commit_actor.specs.code.Fields.{IsLog}

-- ---- a request is submitted

did_below : (q : Bool) (f : FlushPart) → is_did (submit_turn q f) ≡ true → length f.requests < f.limit
did_below q f = by (nat_le f.limit (length f.requests)) refl
  where
    by : (b : Bool) → nat_le f.limit (length f.requests) ≡ b → is_did (if b then SessionFull else if q then QueueFull else Did) ≡ true → length f.requests < f.limit
    by true e d = absurd (false≢true d)
    by false e d = leb-false f.limit (length f.requests) e

-- what stays of the flush part
pub record IsKept (f new : FlushActor) : Type 0 where
  pub limit : new.part.limit ≡ f.part.limit
  pub blocks : new.blocks ≡ f.blocks
  pub few : length new.part.requests ≤ f.part.limit
  pub more : length f.part.requests ≤ length new.part.requests

pub submit_keeps : (f new : FlushActor) (t : Turn) (q : Bool) (r : Request) (n : Note) → t ≡ submit_turn q f.part → new ≡ with_part f (after_submit t r n f.part)
    → length f.part.requests ≤ f.part.limit → IsKept f new
submit_keeps f new t q r n turn e few = subst (IsKept f) (sym e) (by (is_did t) refl)
  where
    by : (b : Bool) → is_did t ≡ b → IsKept f (with_part f (if b then submit r n f.part else f.part))
    by true d =
        let less = did_below q f.part (ap is_did (sym turn) ∙ d) in
        let size : length (f.part.requests ++ r ∷ []) ≡ length f.part.requests + 1 = simp (length-append) refl in
        record { limit = refl; blocks = refl; few = omega (arith, less, size); more = omega (arith, size) }
    by false d = record { limit = refl; blocks = refl; few = few; more = omega arith }

-- what stays of the ring
pub record IsSameRing (r new : JournalRing) : Type 0 where
  pub made_with : new.made_with ≡ r.made_with
  pub limit : new.limit ≡ r.limit
  pub places : new.ring.places ≡ r.ring.places
  pub head : new.ring.head ≡ r.ring.head

pub log_kept : (f new : FlushActor) (r now : JournalRing) (t : OpenTransaction) (j : ℕ) → IsLog f r t j → IsKept f new → IsSameRing r now → IsLog new now t j
log_kept f new r now t j l k s =
    let limit = k.limit in
    let few = k.few in
    let size = l.size in
    let fits = l.fits in
    let word = l.word in
    let past = ap (λ (x : Ring). x.past) s.places in
    let sequence = ap (λ (x : JournalSuper). x.sequence) s.made_with in
    record {
      same = l.same ∙ sym s.made_with;
      limit = s.limit ∙ l.limit ∙ sym k.limit;
      few = omega (arith, few, limit);
      size = omega (arith, size, past);
      fits = omega (arith, fits, past);
      word = omega (arith, word, sequence, limit);
      head = subst (λ (p : Ring). IsPlace p now.ring.head) (sym s.places) (subst (IsPlace r.ring.places) (sym s.head) l.head);
      first = l.first;
      touched = λ b i. let less = l.touched b i in let blocks = k.blocks in omega (arith, less, blocks);
    }

pub same_ring : (r : JournalRing) → IsSameRing r r
same_ring r = record { made_with = refl; limit = refl; places = refl; head = refl }

-- ---- blocks that are held

abbrev block_of : Logged → ℕ
block_of l = l.block

abbrev pub HoldsLeft : ℕ → FlushActor → FlushActor → List Logged → ℕ → Type 0
HoldsLeft tx old now bodies at = with_conflicts now (hold tx (map block_of (drop at bodies)) now.part.conflicts) ≡ with_conflicts old (hold tx (map block_of bodies) old.part.conflicts)

pub held_inside : (old now : FlushActor) (bodies : List Logged) (tx at : ℕ) (d : Logged) → ((l : Logged) → In l bodies → l.block < old.blocks) → HoldsLeft tx old now bodies at → at < length bodies → block_of (get_or bodies at d) < now.blocks
held_inside old now bodies tx at d h left inside =
    let less = h (get_or bodies at d) (slice_get-In bodies at (get_or bodies at d) (slice_get-get_or bodies at d inside)) in
    let blocks = ap (λ (x : FlushActor). x.blocks) left in
    omega (arith, less, blocks)

pub logged_inside : (bodies : ℕ → List ℕ) (touched : List ℕ) (pairs now : List Logged) (n : ℕ) → pairs ≡ logged_of bodies touched → now ≡ pairs → ((b : ℕ) → In b touched → b < n) → (l : Logged) → In l now → l.block < n
logged_inside bodies touched pairs now n e same h l i =
    let from = In-map (λ b. let x : Logged = record { block = b; body = bodies b } in x) touched l (subst (In l) (same ∙ e) i) in
    subst (λ (x : Logged). x.block < n) from.2 (h from.0 from.1)

-- ---- a plan is built

pub log_built : (f new : FlushActor) (r placed now : JournalRing) (t next : OpenTransaction) (j n : ℕ) (c : Conflicts) → IsLog f r t j
    → new ≡ with_conflicts f c → placed ≡ with_ring r (place_blocks n r.ring) → now ≡ with_ring placed (record placed.ring { started = true })
    → next ≡ with_running t (fresh (t.running.number + 1)) → IsLog new now next j
log_built f new r placed now t next j n c l e place start close =
    let started : now ≡ with_ring r (record (place_blocks n r.ring) { started = true }) = start ∙ ap (λ (x : JournalRing). with_ring x (record x.ring { started = true })) place in
    subst (λ x. IsLog x now next j) (sym e)
    (subst (λ x. IsLog (with_conflicts f c) x next j) (sym started)
    (subst (λ x. IsLog (with_conflicts f c) (with_ring r (record (place_blocks n r.ring) { started = true })) x j) (sym close)
    (record {
      same = l.same;
      limit = l.limit;
      few = l.few;
      size = l.size;
      fits = l.fits;
      word = l.word;
      head = places_on-place r.ring.places n r.ring.head l.head;
      first = omega arith;
      touched = λ b i. absurd i;
    })))

pub needs_few : (f : FlushActor) (r : JournalRing) (t : OpenTransaction) (j : ℕ) (w : Writers) → IsLog f r t j → nat_lt (ring_free r.ring) (log_needs w t.running) ≡ false → (log_needs w t.running ≤ ring_free r.ring) × (log_needs w t.running < 2 ^ 32)
needs_few f r t j w l e =
    let le = ltb-false (ring_free r.ring) (log_needs w t.running) e in
    let free : ring_free r.ring ≤ r.ring.places.past = omega arith in
    let size = l.size in
    (le, omega (arith, le, free, size))

-- ---- a new log

pub log_made : (f : FlushActor) (r : JournalRing) (t : OpenTransaction) (limit journal blocks threads : ℕ) (s : JournalSuper) → f ≡ flush.made limit blocks threads → r ≡ ring.made r.made_with limit → s ≡ r.made_with → t ≡ transaction.made s
    → IsSound r.made_with → journal + r.made_with.maxlen ≤ 2 ^ 32 → r.made_with.sequence + limit + 1 < 2 ^ 32 → IsLog f r t journal
log_made f r t limit journal blocks threads s e d same o sound places sequences =
    let most = ap (λ (x : FlushActor). x.part.limit) e in
    let none = ap (λ (x : FlushActor). length x.part.requests) e in
    let past = ap (λ (x : JournalRing). x.ring.places.past) d in
    let first = ap (λ (x : JournalRing). x.ring.places.first) d in
    let head = ap (λ (x : JournalRing). x.ring.head) d in
    let number = ap (λ (x : OpenTransaction). x.running.number) o in
    let fits = sound.fits.maxlen in
    let m = r.made_with in
    let start : Bool = (m.start == 0) || (nat_le m.first m.start && nat_lt m.start m.maxlen) in
    let inner = and_parts (nat_lt 0 m.first) (nat_lt m.first m.maxlen && start) sound.places in
    let high = ltb-true m.first m.maxlen (and_parts (nat_lt m.first m.maxlen) start inner.1).0 in
    record {
      same = ap (λ (x : OpenTransaction). x.made_with) o ∙ same;
      limit = ap (λ (x : JournalRing). x.limit) d ∙ sym most;
      few = omega (arith, none);
      size = omega (arith, past, fits);
      fits = omega (arith, past, places);
      word = omega (arith, most, sequences);
      head = (omega (arith, first, head), omega (arith, past, head, high));
      first = omega (arith, number);
      touched = λ b i. absurd (subst (In b) (ap (λ (x : OpenTransaction). x.running.touched) o) i);
    }
