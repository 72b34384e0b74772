use Rattle.system_laws.proofs.SessionsLemmas.CutClean.{cut_clean}
use Rattle.system_laws.proofs.SessionsLemmas.MadeClean.{marks_root}
use Rattle.system_laws.proofs.sessions.laws.cut_sessions_are_clean.Goals as goal

pub returns : goal.returns
returns c = λ g journal wide limit programs events m cut.
    let marks = marks_root c.made_maps_mark_the_root.ensures.inodes c.made_maps_mark_the_root.ensures.zones in
    cut_clean g journal wide limit programs events cut.sound cut.least cut.most cut.words cut.bytes (c.new_volumes_are_in_use.ensures g cut.sound) (marks g cut.sound) m cut.order
