use Rattle.commit_actor.proofs.Turns.{on_its_way}
use Rattle.journal_ring.specs.running.Closing.{writers}
use Rattle.commit_actor.proofs.journal_part.close.Goals as goal

pub returns-in-Ok-clause-phase : goal.returns-in-Ok-clause-phase
returns-in-Ok-clause-phase g c =
    let l = c.send_changed.new.log in
    on_its_way l c.build.new.self c.in-Ok.sending (writers l.made_with) l.journal l.made_with.sequence (g.B.BodySource.bodies c.args.bodies.now) (c.send_changed.ensures.phase c.requires) c.in-Ok.ensures.ok c.in-Ok.ensures.pieces c.in-Ok.ensures.place
