use Rattle.journal_blocks.specs.laws.Supers.{super_sound}
use Rattle.journal_blocks.specs.laws.Faults.{super_not_magic, super_bad_kind, super_feature, super_bad_count, super_memory}
use Rattle.journal_blocks.proofs.super_block.read_super.Goals as goal

pub returns-clause-sound : goal.returns-clause-sound
returns-clause-sound c = super_sound _ c.super_in.result (rw c.as_slice.ensures.value at c.super_in.ensures.value) c.super_in.ensures.fits

pub returns-clause-not_magic : goal.returns-clause-not_magic
returns-clause-not_magic c = rw (c.super_in.ensures.value, c.as_slice.ensures.value) (super_not_magic _)

pub returns-clause-bad_kind : goal.returns-clause-bad_kind
returns-clause-bad_kind c = rw (c.super_in.ensures.value, c.as_slice.ensures.value) (super_bad_kind _)

pub returns-clause-feature : goal.returns-clause-feature
returns-clause-feature c bits = rw (c.super_in.ensures.value, c.as_slice.ensures.value) (super_feature _ bits)

pub returns-clause-bad_count : goal.returns-clause-bad_count
returns-clause-bad_count c = rw (c.super_in.ensures.value, c.as_slice.ensures.value) (super_bad_count _)

pub returns-clause-memory : goal.returns-clause-memory
returns-clause-memory c = rw (c.super_in.ensures.value, c.as_slice.ensures.value) (super_memory _)
