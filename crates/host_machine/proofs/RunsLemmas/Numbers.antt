-- The numbers of a host's session are words, as long as its limit says so.
use Rattle.std.proofs.Common.{sym, ap, subst, ◌∙◌, ⊎_elim, arith, length-append}
use Rattle.std.specs.Option.{option_and_then}
use Rattle.std.specs.Prelude.{◌≡◌, ℕ, zero, suc, ◌+◌, ◌-◌, ◌≤◌, List, [], ◌∷◌, length, Some, refl}
use Rattle.blk_base.specs.laws.Members.{In-map, slice_get-length}
use Rattle.order_model.specs.declared.note.Note.TheVariants.{Commit}
use Rattle.log_model.proofs.Ring.{places_on-place}
use Rattle.log_model.specs.Marks.{Logged, Transaction}
use Rattle.log_model.specs.Ring.{IsPlace}
use Rattle.crash_laws.specs.Rules.{CommitOrder}
use Rattle.crash_laws.specs.Session.{Session, IsCommit, log_transaction, log_blocks}
use Rattle.host_machine.specs.State.{Host}
use Rattle.commit_actor.specs.Journal.{Phase, Idle, Closing, Committing}
use Rattle.host_machine.specs.Views.{running_transaction}
use Rattle.host_machine.specs.laws.Contract.{Over, Contract, session}
use Rattle.host_machine.specs.runs.Runs.{FitsWords, HasBlocks, IsBlock}
use Rattle.host_machine.specs.runs.laws.Kept.{KeepsRules}
use Rattle.host_machine.specs.runs.laws.RingFacts.{PlaceFacts, RingInPhase}
use Rattle.host_machine.specs.runs.laws.Traces.{Trace, Move, Stays, Puts, Enters, Cuts, Takes}
use Rattle.host_machine.specs.runs.laws.Written.{IsWord, IsWritable}

-- ---- what a move leaves

module _ {C R : Type 0} where
  abbrev HasRoom : Trace C R → Type 0
  HasRoom t = length t.requests ≤ t.limit

  pub room_stays : (old new : Trace C R) → Move old new → HasRoom old → HasRoom new
  room_stays old new (Stays q) room = subst HasRoom q room
  room_stays old new (Puts request note lt q) room = let l = length-append old.requests (request ∷ []) in subst HasRoom q (omega arith)
  room_stays old new (Enters e q) room = subst HasRoom q room
  room_stays old new (Cuts q) room = subst HasRoom q room
  room_stays old new (Takes c q) room = subst HasRoom q room

  abbrev IsSame : Trace C R → Trace C R → Type 0
  IsSame old new = (new.limit ≡ old.limit) × (new.places ≡ old.places)

  pub limits_stay : (old new : Trace C R) → Move old new → IsSame old new
  limits_stay old new (Stays q) = subst (IsSame old) q (refl, refl)
  limits_stay old new (Puts request note lt q) = subst (IsSame old) q (refl, refl)
  limits_stay old new (Enters e q) = subst (IsSame old) q (refl, refl)
  limits_stay old new (Cuts q) = subst (IsSame old) q (refl, refl)
  limits_stay old new (Takes c q) = subst (IsSame old) q (refl, refl)

-- ---- how many transactions there can be

-- each commit block stands behind as many as are before it
pub commit_far : {s : Session} → CommitOrder s → (k c : ℕ) → IsCommit s k c → k ≤ c + 1
commit_far order zero c h = omega arith
commit_far order (suc zero) c h = omega arith
commit_far {s = s} order (suc (suc k)) c h =
    let e : suc (suc k) ≡ suc k + 1 = omega arith in
    let b = order.behind (suc k) c (ap (option_and_then log_transaction) h ∙ ap Some e) (omega arith) in
    let far = commit_far {s = s} order (suc k) b.0 b.1 in
    let lt = b.2 in
    omega arith

module _ {A T V C R : Type 0} {o : Over A T V C R} {Stands : V → T → Type 0} (contract : Contract o Stands) (s : Host V C R) (txs : List Transaction) (N : ℕ) (kept : KeepsRules contract s txs N) where
  few : N ≤ length s.journal.flush.requests
  few = by N kept.images.0.numbers.committed
    where
      by : (n : ℕ) → ((k : ℕ) → 1 ≤ k → k ≤ n → (c : ℕ) × IsCommit (session o Stands txs s) k c) → n ≤ length s.journal.flush.requests
      by zero there = omega arith
      by (suc n) there =
          let c = there (suc n) (omega arith) (omega arith) in
          let far = commit_far {s = session o Stands txs s} kept.rules.order.commits (suc n) c.0 c.1 in
          let lt = slice_get-length s.journal.flush.notes c.0 (Commit (suc n)) c.1 in
          let same = kept.images.0.counted in
          omega arith

  module _ (fits : FitsWords o s) (room : length s.journal.flush.requests ≤ s.journal.flush.limit) where
    pub sequence_fits : IsWord (o.setup.sequence + (s.journal.running.number - 1))
    sequence_fits = let n = few in let w = fits.sequences in ⊎_elim (λ e. omega arith) (λ e. omega arith) kept.images.0.numbers.closed

    first_is_place : IsPlace s.journal.ring.places s.journal.ring.places.first
    first_is_place = kept.rules.order.log.head

    pub first_fits : IsWord s.journal.ring.places.first
    first_fits = let p = first_is_place in let lt = p.1 in let w = fits.places in omega arith

    pub head_fits : IsWord s.journal.ring.head
    head_fits = let e = at_place s.journal.phase kept.ring.in_phase in let p = e.1 in let lt = p.1 in let w = fits.places in omega arith
      where
        placed : (more : ℕ) → PlaceFacts (session o Stands txs s) s.journal.ring more → (n : ℕ) × IsPlace s.journal.ring.places s.journal.ring.head
        placed more facts = (more, subst (IsPlace s.journal.ring.places) (sym facts.head) (places_on-place s.journal.ring.places (length (log_blocks (session o Stands txs s)) + more) s.journal.ring.places.first first_is_place))

        at_place : (p : Phase) → RingInPhase (session o Stands txs s) s.journal.ring N p → (n : ℕ) × IsPlace s.journal.ring.places s.journal.ring.head
        at_place Idle r = placed 0 r.places
        at_place Closing r = placed 0 r.places
        at_place (Committing p) r = placed _ r.places

    pub writable : HasBlocks o Stands → IsWritable (running_transaction o.model s.volume s.journal.running)
    writable has = record {
      blocks = λ l i.
          let m = In-map (λ b. record { block = b; body = o.model.bytes s.volume b }) s.journal.running.touched l i in
          let e : m.0 ≡ l.block = ap (λ (x : Logged). x.block) m.2 in
          let low = (contract.plain s.volume _ kept.images.0.stands).metadata_low m.0 (kept.images.0.bodies.bodies_on m.0 m.1) in
          let w = fits.blocks in
          omega arith;
      bodies = λ l i.
          let m = In-map (λ b. record { block = b; body = o.model.bytes s.volume b }) s.journal.running.touched l i in
          subst (λ (x : Logged). IsBlock x.body) m.2 (has.whole s.volume _ m.0 kept.images.0.stands);
      revokes = λ b i. let low = has.waiting s.volume _ b _ kept.images.0.stands (kept.images.0.bodies.waits b i) in let w = fits.blocks in omega arith;
    }
