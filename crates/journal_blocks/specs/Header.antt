-- The header of each block of the journal that is no body.
use Rattle.std.specs.Prelude.{ℕ, List}
use Rattle.byte_fields.specs.Fields.{number_at}
use Rattle.byte_fields.specs.Fields.Order.{big}

abbrev pub magic_of : List ℕ → ℕ
magic_of b = number_at big 4 0 b

-- the type: 1 of a descriptor, 2 of a commit block, 4 of a superblock, 5 of a revoke block
abbrev pub kind_of : List ℕ → ℕ
kind_of b = number_at big 4 4 b

abbrev pub sequence_of : List ℕ → ℕ
sequence_of b = number_at big 4 8 b
