use Rattle.minix_layout.specs.laws.SuperLaws.{super_sound, bad_magic, bad_geometry}
use Rattle.minix_layout.proofs.superblock.read_super.Goals as goal

pub returns-clause-sound : goal.returns-clause-sound
returns-clause-sound c = rw c.super_in.ensures.value (super_sound _ (rw c.super_in.ensures.value at c.super_in.ensures.fits))

pub returns-clause-bad_magic : goal.returns-clause-bad_magic
returns-clause-bad_magic c = rw (c.super_in.ensures.value, c.as_slice.ensures.value) (bad_magic _)

pub returns-clause-bad_geometry : goal.returns-clause-bad_geometry
returns-clause-bad_geometry c = rw (c.super_in.ensures.value, c.as_slice.ensures.value) (bad_geometry _)
