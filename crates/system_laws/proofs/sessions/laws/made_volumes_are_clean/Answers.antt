use Rattle.system_laws.proofs.SessionsLemmas.MadeClean.{marks_root, image_clean}
use Rattle.system_laws.proofs.sessions.laws.made_volumes_are_clean.Goals as goal

pub returns : goal.returns
returns c = λ g journal wide sound.
    let marks = marks_root c.made_maps_mark_the_root.ensures.inodes c.made_maps_mark_the_root.ensures.zones in
    image_clean g sound (marks g sound) (c.new_volumes_are_in_use.ensures g sound) journal wide
