-- Where a session is opened, the facts of the ring and of calls hold.
use Rattle.std.proofs.Common.{sym, ap, subst, ◌∙◌, arith}
use Rattle.std.proofs.lemmas.Bool.{false≢true}
use Rattle.std.proofs.lemmas.Option.{none-some}
use Rattle.std.specs.Option.{option_and_then}
use Rattle.std.specs.Prelude.{◌≡◌, ℕ, zero, suc, ◌+◌, false, List, [], ◌∷◌, map, length, Some, None, slice_get, refl}
use Rattle.blk_base.specs.Members.{In}
use Rattle.blk_base.specs.laws.Members.{In-map, map_some-slice_get}
use Rattle.order_model.specs.declared.note.Note.TheVariants.{Commit, Home}
use Rattle.order_model.specs.declared.note.Note.{Note}
use Rattle.log_model.proofs.Marks.{keep≢set}
use Rattle.log_model.specs.Ring.{places_on}
use Rattle.page_cache.specs.declared.cached_page.CachedPage.{CachedPage}
use Rattle.crash_laws.specs.History.{History}
use Rattle.crash_laws.specs.Session.{Session, HasNote, log_transaction, LogBlock, log_blocks, log_blocks_from}
use Rattle.journal_ring.specs.LogRing.{LogRing}
use Rattle.host_machine.specs.State.{Thread}
use Rattle.commit_actor.specs.Journal.{Idle}
use Rattle.flush_actor.specs.Waits.{no_wait}
use Rattle.flush_actor.specs.declared.call_kind.CallKind.{CallKind}
use Rattle.flush_actor.specs.declared.wait.Wait.{Wait}
use Rattle.host_machine.specs.runs.Runs.{AreBegun}
use Rattle.host_machine.specs.runs.laws.CallFacts.{wait_of, AllCalls}
use Rattle.host_machine.specs.runs.laws.FlushFacts.{FlushFacts, is_open}
use Rattle.host_machine.specs.runs.Flushes.{count}
use Rattle.journal_ring.specs.laws.Homes.{IsRisingHomes}
use Rattle.host_machine.specs.runs.laws.RingFacts.{RingKept}

-- an empty ring
pub record IsFresh (s : Session) (ring : LogRing) : Type 0 where
  pub places : ring.places ≡ s.ring
  pub head : ring.head ≡ s.head
  pub used : ring.used ≡ 0
  pub started : ring.started ≡ false
  pub homes : ring.homes ≡ []

pub ring_at_start : (s : Session) (ring : LogRing) → s.notes ≡ [] → IsFresh s ring → RingKept s ring 0 Idle
ring_at_start s ring notes fresh = record {
  homes = record {
    rising = subst (λ hs. IsRisingHomes hs) (sym fresh.homes) tt;
    newest = λ l i. absurd (subst (In l) fresh.homes i);
    pending = λ b x set. absurd (keep≢set x set);
    closed = λ e i b h. absurd (no_note i (Home b) h);
  };
  in_phase = record {
    numbers = record {
      there = λ k lo hi. absurd (omega arith);
      only = λ k c h. absurd (no_note c (Commit k) h);
      logs = λ k i h. absurd (none-some k (ap (λ ns. option_and_then log_transaction (slice_get ns i)) (sym notes) ∙ h));
      within = omega arith;
    };
    places = record {
      places = fresh.places;
      head = fresh.head ∙ ap (λ n. places_on s.ring n s.head) (sym nothing);
      room = let z = fresh.used in omega arith;
      within = omega arith;
      freed = λ n e h. absurd (none_there n e (ap (λ ns. slice_get (log_blocks_from 0 ns) n) (sym notes) ∙ h));
    };
    started = (λ t. absurd (false≢true (sym fresh.started ∙ t)), λ t. refl);
  };
}
  where
    no_note : (i : ℕ) (n : Note) → HasNote s i n → ⊥
    no_note i n h = none-some n (sym (ap (λ ns. slice_get ns i) notes) ∙ h)

    none_there : (n : ℕ) (e : LogBlock) → slice_get (log_blocks_from 0 []) n ≡ Some e → ⊥
    none_there n e h = none-some e h

    nothing : length (log_blocks s) + 0 ≡ 0
    nothing = let e = ap (λ ns. length (log_blocks_from 0 ns)) notes in omega arith

length_map : {X Y : Type 0} (g : X → Y) (xs : List X) → length (map g xs) ≡ length xs
length_map g [] = refl
length_map g (x ∷ xs) = ap suc (length_map g xs)

all_idle : {C : Type 0} (programs : List (List C)) (t : ℕ) → wait_of (map (λ (p : List C). no_wait) programs) t ≡ no_wait
all_idle [] t = refl
all_idle (p ∷ ps) zero = refl
all_idle (p ∷ ps) (suc t) = all_idle ps t

-- no call has begun
pub calls_at_start : {A C : Type 0} (h : History A) (s : Session) (pages : List CachedPage) (now r : ℕ) (programs : List (List C))
    → AllCalls h s pages now r (map (λ (p : List C). record { calls = p; begun = None }) programs) (map (λ (p : List C). no_wait) programs)
calls_at_start {C = C} h s pages now r programs = record {
  counted = length_map (λ (p : List C). record { calls = p; begun = None }) programs ∙ sym (length_map (λ (p : List C). no_wait) programs);
  each = λ t th b e k.
      let p = map_some-slice_get (λ (p : List C). record { calls = p; begun = None }) programs t th e in
      absurd (none-some b (ap (λ (x : Thread C). x.begun) p.2 ∙ k));
  idle = λ t th e k. all_idle programs t;
}

none_open : {C : Type 0} (programs : List (List C)) → count (is_open []) (map (λ (p : List C). no_wait) programs) ≡ 0
none_open [] = refl
none_open (p ∷ ps) = let e = none_open ps in omega arith

pub flushes_at_start : {C R : Type 0} (kind : C → CallKind) (programs : List (List C)) → FlushFacts {R = R} kind [] (map (λ (p : List C). no_wait) programs) []
flushes_at_start {C = C} kind programs = record {
  charged = let e = none_open programs in omega arith;
  needed = λ w i id e. absurd (none-some id (ap (λ (v : Wait). v.need) (In-map (λ (p : List C). no_wait) programs w i).2 ∙ e));
}

pub none_begun : {C : Type 0} (kind : C → CallKind) (programs : List (List C)) → AreBegun kind (map (λ (p : List C). record { calls = p; begun = None }) programs)
none_begun {C = C} kind programs th c rest b i calls begun =
    absurd (none-some b (ap (λ (x : Thread C). x.begun) (In-map (λ (p : List C). record { calls = p; begun = None }) programs th i).2 ∙ begun))
