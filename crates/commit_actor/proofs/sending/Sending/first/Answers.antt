use Rattle.std.proofs.Common.{ℕ, List, ap, sym, ◌∙◌, nat_le, Some, ◌+◌}
use Rattle.order_model.specs.declared.note.Note.TheVariants.{Super}
use Rattle.journal_ring.specs.running.Plan.{Planned}
use Rattle.commit_actor.proofs.Plans.{first_super, first_piece}
use Rattle.commit_actor.proofs.sending.Sending.first.Goals as goal

pub returns-then-self : goal.returns-then-self
returns-then-self c r =
    let j = c.args.journal in
    let put = λ (x : List ℕ) (n : ℕ). let p : Planned = record { note = Super; block = j; body = x; barrier = nat_le n 1 } in Some p in
    ap (λ (x : List ℕ). put x c.len-left.result) c.write_super.ensures.value ∙ ap (put _) c.len-left.ensures ∙ first_super j c.args.made_with.now r c.args.self.now c.if-self.true

pub returns : goal.returns
returns c r =
    let j = c.args.journal in
    let x = c.in_ok-piece.piece.now in
    let put = λ (y : List ℕ) (n : ℕ). let p : Planned = record { note = x.note; block = j + c.args.self.now.place; body = y; barrier = nat_le n 2 } in Some p in
    ap (λ (y : List ℕ). put y c.len-left.result) c.copy.ensures ∙ ap (put x.body) c.len-left.ensures ∙ first_piece j c.args.made_with.now r c.args.self.now x c.if-self.false (sym c.in_ok-piece.ensures)
