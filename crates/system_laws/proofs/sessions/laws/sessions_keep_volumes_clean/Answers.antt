use Rattle.system_laws.proofs.SessionsLemmas.CutClean.{session_clean}
use Rattle.system_laws.proofs.SessionsLemmas.MadeClean.{marks_root}
use Rattle.system_laws.proofs.sessions.laws.sessions_keep_volumes_clean.Goals as goal

pub returns : goal.returns
returns c = λ g journal wide limit programs events sound least most words bytes.
    let marks = marks_root c.made_maps_mark_the_root.ensures.inodes c.made_maps_mark_the_root.ensures.zones in
    session_clean g journal wide limit programs events sound least most words bytes (c.new_volumes_are_in_use.ensures g sound) (marks g sound)
