-- What a call makes of the blocks that it tells as touched.
use Rattle.std.specs.Prelude.{◌≢◌, ℕ}
use Rattle.blk_base.specs.Members.{In}
use Rattle.volume_ops.specs.Volume.{disk_of}
use Rattle.volume_model.specs.Touched.{IsMeta}
use Rattle.volume_steps.specs.Now.{VolumeNow, Change}

-- A touched block that was metadata before has other bytes than before. One that was not is fresh.
abbrev pub HasChanged : VolumeNow → Change → Type 0
HasChanged v c = (b : ℕ) → In b c.touched.blocks → IsMeta v.geometry v.contents b → disk_of c.volume.contents.blocks b ≢ disk_of v.contents.blocks b
