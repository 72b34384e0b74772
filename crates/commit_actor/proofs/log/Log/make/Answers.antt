use Rattle.commit_actor.proofs.Logs.{log_made}
use Rattle.commit_actor.proofs.log.Log.make.Goals as goal

pub invariant_of-result : goal.invariant_of-result
invariant_of-result c =
    log_made c.in_ok-make.field-0 c.args.ring c.in_ok-make-2.field-0 c.args.limit c.args.journal c.args.blocks c.args.threads c.made_with.result
    c.in_ok-make.ensures c.requires.ring c.made_with.ensures c.in_ok-make-2.ensures c.requires.sound c.requires.places c.requires.sequences
