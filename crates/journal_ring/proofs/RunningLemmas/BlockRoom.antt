-- A descriptor has room for a tag, and a revoke block for a number, in both kinds of journals.
use Rattle.std.proofs.Common.{◌≤◌, Bool, true, false, arith}
use Rattle.journal_blocks.specs.Written.{most_tags, most_revokes}

pub some_tags : (wide : Bool) → 1 ≤ most_tags wide
some_tags true = omega arith
some_tags false = omega arith

pub some_revokes : (wide : Bool) → 1 ≤ most_revokes wide
some_revokes true = omega arith
some_revokes false = omega arith
