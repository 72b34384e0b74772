use Rattle.std.proofs.Common.{[]}
use Rattle.log_model.specs.Marks.{Logged}
use Rattle.journal_ring.proofs.RunningLemmas.Adding.{Adding}
use Rattle.journal_ring.proofs.running.closing.logged.Given as goal

abbrev pub invariant-loop-block : goal.invariant-loop-block
invariant-loop-block g l = Adding (λ b. let x : Logged = record { block = b; body = g.B.BodySource.bodies l.bodies b } in x) [] l.blocks l.logged.items l.block-index
