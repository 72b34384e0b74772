-- Each put of a session goes to a block of volume or log; and the limit and the places of the log stay.
use Rattle.std.proofs.Common.{◌≡◌, ℕ, ◌+◌, ◌<◌, ◌≤◌, List, [], ◌∷◌, Some, slice_get, refl, sym, ap, ◌∙◌, arith}
use Rattle.std.specs.Option.{option_and_then}
use Rattle.std.proofs.lemmas.Option.{same_Some}
use Rattle.blk_base.specs.laws.Members.{slice_get-in_range, slice_get-length}
use Rattle.order_model.specs.declared.note.Note.{Note}
use Rattle.order_model.specs.declared.note.Note.TheVariants.{Page, Super, Revoke, Descriptor, Body, Commit, Home, Flush, Raw}
use Rattle.order_model.specs.declared.request.Kind.TheVariants.{Put}
use Rattle.order_model.specs.declared.request.Request.{Request}
use Rattle.order_model.specs.OrderClosed.{kind_block, IsPutOf}
use Rattle.volume_ops.specs.Reads.{Reads}
use Rattle.crash_laws.specs.Rules.{OrderRules}
use Rattle.crash_laws.specs.Session.{Session, HasNote, IsLog, log_transaction, Submitted}
use Rattle.host_machine.specs.State.{Host}
use Rattle.host_machine.specs.laws.Contract.{Over}
use Rattle.host_machine.specs.runs.Runs.{Event, AreBegun, stepped, steps}
use Rattle.host_machine.specs.runs.laws.Traces.{trace_of}
use Rattle.host_machine.proofs.RunsLemmas.Numbers.{limits_stay}
use Rattle.host_machine.proofs.RunsLemmas.Threads.{moved}
use Rattle.session_core.proofs.RunLemmas.MachineLemmas.HostFits.{HaveBlocks}

-- ---- blocks

module _ {A : Type 0} (program : Reads A) (s : Session) (rules : OrderRules program s) (blocks : ℕ) (most : s.journal + s.ring.past ≤ blocks) where
  -- the request at place i puts this block
  module _ (i : ℕ) (r : Request) (at : slice_get s.requests i ≡ Some r) (block : ℕ) (body : List ℕ) (put : r.kind ≡ Put block body) where
    same_block : (b : ℕ) → IsPutOf s.requests i b → block ≡ b
    same_block b h = same_Some block b (sym (ap kind_block put) ∙ sym (ap (option_and_then (λ (q : Request). kind_block q.kind)) at) ∙ h)

    in_log : (k : ℕ) → IsLog s k i → block < blocks
    in_log k h = (let p = rules.fits.log k i h in let e = same_block (s.journal + p.0) p.2 in let low = p.1.1 in omega (arith, e, low, most))

    by_note : (n : Note) → HasNote s i n → block < blocks
    by_note (Page birth index call) h = (let p = rules.fits.page i birth index call h in let e = same_block p.0 p.1 in let low = p.2 in omega (arith, e, low, most))
    by_note Super h = (let e = same_block s.journal (rules.fits.super i h) in let head = rules.log.head.1 in omega (arith, e, head, most))
    by_note (Revoke k) h = in_log k (ap (option_and_then log_transaction) h)
    by_note (Descriptor k) h = in_log k (ap (option_and_then log_transaction) h)
    by_note (Body k b) h = in_log k (ap (option_and_then log_transaction) h)
    by_note (Commit k) h = in_log k (ap (option_and_then log_transaction) h)
    by_note (Home b) h =
        let e = same_block b (rules.fits.home i b h) in
        let own = rules.images.home i b h in
        let low = rules.images.bodies own.k b own.body (Submitted own.committed.0 own.committed.1) own.mark in
        omega (arith, e, low, most)
    by_note Flush h = absurd (rules.fits.flush i h (block, ap (option_and_then (λ (q : Request). kind_block q.kind)) at ∙ ap kind_block put))
    by_note Raw h = absurd (rules.fits.raw i h)

  pub have_blocks : HaveBlocks blocks s.requests
  have_blocks i r at block body put =
      let low = slice_get-length s.requests i r at in
      let n = slice_get-in_range s.notes i (let c = rules.fits.counted in omega (arith, c, low)) in
      by_note i r at block body put n.0 n.1

-- ---- what stays

pub record IsLike {V C R : Type 0} (old new : Host V C R) : Type 0 where
  pub limit : new.journal.flush.limit ≡ old.journal.flush.limit
  pub places : new.journal.ring.places ≡ old.journal.ring.places

module _ {A T V C R : Type 0} (o : Over A T V C R) where
  pub stays_like : (h : Host V C R) → AreBegun o.model.kind h.threads → (es : List Event) → IsLike h (steps o h es)
  stays_like h begun [] = record { limit = refl; places = refl }
  stays_like h begun (e ∷ es) =
      let m = moved o h begun e in
      let one = limits_stay (trace_of h) (trace_of (stepped o h e)) m.1 in
      let rest = stays_like (stepped o h e) m.0 es in
      record { limit = rest.limit ∙ one.0; places = rest.places ∙ one.1 }
