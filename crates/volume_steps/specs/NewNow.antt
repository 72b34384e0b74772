-- A new volume in use.
use Rattle.std.specs.Prelude.{[], ◌∷◌}
use Rattle.minix_layout.specs.declared.division.Geometry.{Geometry}
use Rattle.minix_tables.specs.zones.Zones.{made}
use Rattle.volume_model.specs.NewVolume.{new_volume}
use Rattle.volume_steps.specs.Now.{VolumeNow}

-- its root has the first zone of data, and the others are free
abbrev pub new_now : Geometry → VolumeNow
new_now g = record { geometry = g; contents = new_volume g; zones = made g (g.first ∷ []) }
