-- The reader of `log_model`, with the bytes of this format.
use Rattle.std.specs.Prelude.{ℕ, Bool, List, [], map, Result, Ok, Err}
use Rattle.byte_fields.specs.Fields.{number_at}
use Rattle.byte_fields.specs.Fields.Order.{big}
use Rattle.log_model.specs.Log as model
use Rattle.log_model.specs.Log.{Header, Plain, Describes, Revokes, Commits, Tail, Format}
use Rattle.log_model.specs.Ring.{Ring}
use Rattle.journal_blocks.specs.declared.super_block.JournalSuper.{JournalSuper}
use Rattle.journal_blocks.specs.declared.tag.Tag.{Tag}
use Rattle.journal_blocks.specs.declared.log_block.LogBlock.{LogBlock}
use Rattle.journal_blocks.specs.declared.log_block.LogBlock.TheVariants.{Descriptor, Commit, Revoke}
use Rattle.journal_blocks.specs.declared.fault.JournalFault.{JournalFault}
use Rattle.journal_blocks.specs.declared.fault.JournalFault.TheVariants.{NotMagic, BadKind, BadCount, Feature, NoMemory}
use Rattle.journal_blocks.specs.Header.{sequence_of}
use Rattle.journal_blocks.specs.Blocks.{log_block_of, restored}

-- the tag as the model has it
abbrev pub tag_of : Tag → model.Tag
tag_of t = record { block = t.block; escaped = t.escaped }

-- a revoke block with a bad count revokes nothing
abbrev pub header_by : ℕ → Result LogBlock JournalFault → Header
header_by sequence (Ok (Descriptor n tags)) = Describes sequence (map tag_of tags)
header_by sequence (Ok (Commit n)) = Commits sequence
header_by sequence (Ok (Revoke n blocks)) = Revokes sequence blocks
header_by sequence (Err BadCount) = Revokes sequence []
header_by sequence (Err NotMagic) = Plain
header_by sequence (Err BadKind) = Plain
header_by sequence (Err (Feature bits)) = Plain
header_by sequence (Err NoMemory) = Plain

unfoldable pub header_of : Bool → List ℕ → Header
header_of wide b = header_by (sequence_of b) (log_block_of wide b)

abbrev pub tail_of : List ℕ → Tail
tail_of b = record { sequence = number_at big 4 0x18 b; start = number_at big 4 0x1C b }

-- the format of a journal with narrow or wide tags
abbrev pub format : Bool → Format
format wide = record { header = header_of wide; restore = λ t b. restored t.escaped b; tail = tail_of }

-- the ring of its places
abbrev pub ring_of : JournalSuper → Ring
ring_of s = record { first = s.first; past = s.maxlen }
