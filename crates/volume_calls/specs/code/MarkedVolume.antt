-- What holds of the parts of a volume in use.
use Rattle.std.specs.Prelude.{Bool, List}
use Rattle.volume_steps.specs.Now.{VolumeNow}
use Rattle.volume_steps.specs.Plain.{IsPlainNow}
use Rattle.volume_names.specs.UsedInodes.{MarksNodes}

-- it is plain, and just the inodes of its nodes are marked
pub record IsMarkedVolume (v : VolumeNow) (marks : List Bool) : Type 0 where
  pub plain : IsPlainNow v
  pub inodes : MarksNodes v.geometry v.contents.nodes marks
