use Rattle.volume_in_use.proofs.ReadsLemmas.Nodes.{stat_directory, stat_file}
use Rattle.volume_in_use.proofs.reads.replies.stat.Goals as goal
use Rattle.volume_in_use.proofs.reads.replies.stat.Goals.{in-Directory, in_default}

pub returns : goal.returns
returns c =
    elim c.match-matches.branch [
      | in-Directory w ↦ rw (w.matches-is, c.into.ensures) (stat_directory c.args.v.now c.args.placed.now c.requires w.in-Directory.field-0 w.in-Directory.is)
      | in_default w ↦ rw (w.matches-is, c.into.ensures) (stat_file c.args.v.now c.args.placed.now c.requires w.in_default.field-0 w.in_default.is)
    ]
