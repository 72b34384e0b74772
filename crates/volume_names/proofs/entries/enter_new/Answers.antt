use Rattle.volume_names.proofs.Entered.{gone_again}
use Rattle.volume_names.proofs.entries.enter_new.Goals as goal

pub returns-in-Err-clause-err : goal.returns-in-Err-clause-err
returns-in-Err-clause-err c =
    gone_again c.args.nodes.now.entries c.insert.new.self.entries c.enter.new.nodes.entries c.remove.new.self.entries c.args.n c.args.placed c.requires.birth
    c.in_ok-insert.ensures.entries c.in-Err.ensures.err c.remove.ensures.entries
