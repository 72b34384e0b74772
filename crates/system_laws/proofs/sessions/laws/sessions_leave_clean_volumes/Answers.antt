use Rattle.system_laws.proofs.SessionsLemmas.MadeClean.{marks_root}
use Rattle.system_laws.proofs.SessionsLemmas.ScriptClean.{script_clean, image_has_volume, image_clean}
use Rattle.system_laws.proofs.sessions.laws.sessions_leave_clean_volumes.Goals as goal

pub returns : goal.returns
returns c =
    let marks = marks_root c.made_maps_mark_the_root.ensures.inodes c.made_maps_mark_the_root.ensures.zones in
    let bytes = c.calls_of_scripts_write_bytes.ensures in
    let new = c.new_volumes_are_in_use.ensures in
    record {
      volume = λ s r is report said. script_clean s is bytes new marks r report said;
      image = λ s r is report said. (image_has_volume s is bytes new marks r report said, image_clean s is bytes new marks r report said);
    }
