use Rattle.std.proofs.Common.{◌≡◌, ◌+◌, ◌*◌, ◌++◌, ◌^◌, ◌<◌, All, length, take, drop}
use Rattle.byte_fields.specs.Fields.{bytes_of}
use Rattle.byte_fields.specs.Fields.Order.{big}
use Rattle.journal_blocks.specs.Blocks.{number_size}
use Rattle.journal_blocks.specs.Written.{header_bytes, numbers_bytes}
use Rattle.journal_blocks.proofs.writing.write_revoke.Given as goal

-- what is written so far, and the numbers that are left
abbrev pub invariant-loop-revoked : goal.invariant-loop-revoked
invariant-loop-revoked l = record {
  told : l.block ++ numbers_bytes l.wide (drop l.revoked-index l.blocks) ≡ header_bytes 5 l.seq ++ (bytes_of big 4 (16 + number_size l.wide * length l.blocks) ++ numbers_bytes l.wide l.blocks);
  len : length l.block ≡ 16 + number_size l.wide * l.revoked-index;
  fits : All (λ n. n < 2 ^ 32) (take l.revoked-index l.blocks);
}
