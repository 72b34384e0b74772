use Rattle.std.proofs.Common.{◌≡◌, sym, ◌∙◌, arith}
use Rattle.log_model.proofs.Ring.{places_on-up}
use Rattle.log_model.specs.Ring.{Ring, places_on}
use Rattle.journal_ring.proofs.Places.{places_over, placed_ring, view_free}
use Rattle.journal_ring.proofs.ring.Ring.place.Goals.{then-blocks-left, else-blocks-left}
use Rattle.journal_ring.proofs.ring.Ring.place.Goals as goal

pub returns-clause-ring : goal.returns-clause-ring
returns-clause-ring c =
    let t = c.self.inside in
    let n = c.args.blocks in
    let places : Ring = record { first = t.made_with.first; past = t.made_with.maxlen } in
    let low = c.self.invariant.low in
    let high = c.self.invariant.high in
    let free = view_free _ c.args.self.now n c.self.view_is c.requires in
    let head : c.if-blocks-left.self ≡ places_on places n t.head =
    elim c.if-blocks-left.branch [
      | then-blocks-left w ↦
          let less = w.if-blocks-left.true in
          w.self-is ∙ sym (places_on-up places n t.head (omega (arith, less, high)))
      | else-blocks-left w ↦
          let more = w.if-blocks-left.false in
          w.self-is ∙ sym (places_over places n t.head low high (omega (arith, more)) (omega (arith, free)))
    ] in
    placed_ring _ c.args.self.now n c.if-blocks-left.self c.self.view_is head
