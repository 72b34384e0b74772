-- The write-back sends orderless only where the owner of the zone is submitted.
use Rattle.std.proofs.Common.{sym, ap, ◌∙◌, ⊎_elim, arith}
use Rattle.std.proofs.lemmas.Bool.{cases_Bool, ltb-true}
use Rattle.std.proofs.lemmas.Option.{same_Some}
use Rattle.std.specs.Prelude.{◌≡◌, ℕ, ◌+◌, ◌≤◌, Bool, true, false, List, length, Some, nat_lt, slice_index_or, refl}
use Rattle.order_model.specs.declared.note.Note.TheVariants as notes
use Rattle.order_model.specs.declared.request.Kind.TheVariants as puts
use Rattle.order_model.specs.declared.request.Request.{Request}
use Rattle.log_model.specs.Marks.{Transaction}
use Rattle.page_cache.specs.Pages.{page_at}
use Rattle.page_cache.specs.declared.cached_page.CachedPage.{CachedPage}
use Rattle.crash_laws.specs.History.{last_write}
use Rattle.crash_laws.specs.laws.Submitting.{IsCommitted}
use Rattle.host_machine.proofs.ChangeSteps.{last_write_within}
use Rattle.host_machine.proofs.Entries.{trees_noted}
use Rattle.host_machine.proofs.Machine.{plain_at}
use Rattle.host_machine.proofs.Reuse.{reuses_pushed, orderless_pushed}
use Rattle.host_machine.proofs.Sends.{plainly}
use Rattle.host_machine.specs.Host.{send_page}
use Rattle.host_machine.specs.State.{Host}
use Rattle.commit_actor.specs.Journal.{Phase, Idle, Closing, Committing, is_submitted}
use Rattle.host_machine.specs.laws.Contract.{Over, view_of, Contract, noted_history, InPhase, session, KeepsImages}
use Rattle.host_machine.specs.laws.Reuse.{ReusesFreed, OrderlessCommitted, FreedWait, Owned}

module _ {A T V C R : Type 0} {o : Over A T V C R} {Stands : V → T → Type 0} (contract : Contract o Stands) (s : Host V C R) (txs : List Transaction) (N : ℕ) (facts : KeepsImages o Stands s txs N) where
  -- what the host calls submitted has its commit block in the list
  pub submitted_committed : (k : ℕ) → 1 ≤ k → is_submitted s.journal k ≡ true → IsCommitted (session o Stands txs s) k
  submitted_committed k pos t = by s.journal.phase facts.0.in_phase t
    where
      by : (p : Phase) → InPhase o Stands s.history s.cuts (session o Stands txs s) s.journal.running.number N p
          → (elim p as (λ _. Bool) [ Idle ↦ nat_lt k s.journal.running.number | Closing ↦ nat_lt k s.journal.running.number | Committing c ↦ nat_lt (k + 1) s.journal.running.number ]) ≡ true
          → IsCommitted (session o Stands txs s) k
      by Idle e u = let lt = ltb-true k s.journal.running.number u in facts.0.numbers.committed k pos (omega arith)
      by Closing e u = let lt = ltb-true k s.journal.running.number u in facts.0.numbers.committed k pos (omega arith)
      by (Committing c) e u = let lt = ltb-true (k + 1) s.journal.running.number u in let on = e.on_way in facts.0.numbers.committed k pos (omega arith)

  -- a page that is sent keeps both orders; orderless, where its owner is submitted
  module _ (p : CachedPage) (ordered barrier : Bool) (here : page_at s.pages p.birth p.index ≡ Some p) where
    abbrev request : Request
    request = record { id = length s.journal.flush.requests; kind = puts.Put p.block p.body; ordered = ordered; barrier = barrier }

    same_page : (f i w g j y : ℕ) → notes.Page f i w ≡ notes.Page g j y → (f ≡ g) × (i ≡ j) × (w ≡ y)
    same_page f i w g j y e = (cc, cc, cc)

    where_it_goes : (f i w z : ℕ) → notes.Page p.birth p.index p.version ≡ notes.Page f i w → Some p.block ≡ Some z → ((view_of o s.volume).zone f i ≡ Some z) × (w ≡ last_write (noted_history o Stands s.history s.cuts) f i (length s.history))
    where_it_goes f i w z e b =
        let k = same_page p.birth p.index p.version f i w e in
        let c = facts.0.mapped.cached f i p (ap (λ g. page_at s.pages g i) (sym k.0) ∙ ap (page_at s.pages p.birth) (sym k.1) ∙ here) in
        (c.zone ∙ b, sym k.2 ∙ c.version)

    pub send_reuses : {frees : ℕ → ℕ → Bool} → FreedWait (noted_history o Stands s.history s.cuts) (session o Stands txs s) (length s.history) N (view_of o s.volume) frees → ReusesFreed (noted_history o Stands s.history s.cuts) (session o Stands txs s) frees
        → ReusesFreed (noted_history o Stands s.history s.cuts) (session o Stands txs (send_page o.model o.setup s p ordered barrier)) frees
    send_reuses freed was =
        reuses_pushed (plainly (session o Stands txs s) facts.0.counted request (notes.Page p.birth p.index p.version))
        (plain_at contract s.history s.cuts (session o Stands txs s) s.volume (length s.history) refl refl facts.0.stands) freed
        (λ f i w z e b. let x = where_it_goes f i w z e b in let version = x.1 in let le = last_write_within (noted_history o Stands s.history s.cuts) f i (length s.history) in (x.0, omega arith)) was

    pub send_orderless : (ordered ≡ false → is_submitted s.journal (slice_index_or s.owners p.block 0) ≡ true) → Owned (noted_history o Stands s.history s.cuts) (length s.history) (view_of o s.volume) s.owners
        → OrderlessCommitted (noted_history o Stands s.history s.cuts) (session o Stands txs s) → OrderlessCommitted (noted_history o Stands s.history s.cuts) (session o Stands txs (send_page o.model o.setup s p ordered barrier))
    send_orderless submitted owned was =
        orderless_pushed (plainly (session o Stands txs s) facts.0.counted request (notes.Page p.birth p.index p.version)) owned (trees_noted o.model contract.trees o.place s.history s.cuts facts.0.rise)
        (λ f i w z e b free.
        let x = where_it_goes f i w z e b in
        let zone : p.block ≡ z = same_Some p.block z b in
        let orderless : ordered ≡ false = ⊎_elim (λ t. absurd (free t)) (λ n. n) (cases_Bool ordered) in
        let owner = owned.owner f i z x.0 in
        let pos = owner.1.of_k.numbered in
        (x.0, x.1, submitted_committed (slice_index_or s.owners z 0) pos (ap (λ y. is_submitted s.journal (slice_index_or s.owners y 0)) (sym zone) ∙ submitted orderless)))
        was
