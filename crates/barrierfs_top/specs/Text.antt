-- The text of a report: a line for the steps, and a line for each block.
use Rattle.std.specs.Prelude.{ℕ, ◌+◌, ◌++◌, List, [], codes, length, Option, Some, None, zero, suc, slice_get}
use Rattle.std.specs.Option.{option_map_or, option_and_then}
use Rattle.std.specs.Fmt.{decimal}
use Rattle.byte_text.specs.Hex.{hex_text}
use Rattle.stack_core.specs.declared.report.Report.{Report}
use Rattle.std.specs.List.{concat}
use Rattle.std.specs.String.{string_bytes}
use Rattle.barrierfs_top.specs.declared.output.Output.{Output}
use Rattle.barrierfs_top.specs.declared.output.Output.TheVariants as outputs

-- an origin's id, or a dash
abbrev pub origin_text : Option ℕ → List ℕ
origin_text None = codes "-"
origin_text (Some id) = decimal id

-- the byte that a block begins with; a block of a script has one byte all over
abbrev pub byte_of : Option (List ℕ) → ℕ
byte_of None = 0
byte_of (Some body) = option_map_or (λ b. b) (slice_get body 0) 0

-- the origin at a place, where there is one
abbrev pub origin_at : List (Option ℕ) → ℕ → Option ℕ
origin_at origins b = option_and_then (λ o. o) (slice_get origins b)

-- the number of a block, its byte, and its origin
abbrev pub block_line : ℕ → ℕ → Option ℕ → List ℕ
block_line b value origin = codes "block " ++ decimal b ++ codes " " ++ hex_text value ++ codes " " ++ origin_text origin ++ codes "\n"

-- the lines of so many blocks from block b on
abbrev pub block_lines : List (List ℕ) → List (Option ℕ) → ℕ → ℕ → List ℕ
block_lines image origins b zero = []
block_lines image origins b (suc n) = block_line b (byte_of (slice_get image b)) (origin_at origins b) ++ block_lines image origins (b + 1) n

unfoldable pub report_text : ℕ → List (List ℕ) → List (Option ℕ) → List ℕ
report_text steps image origins = codes "steps " ++ decimal steps ++ codes "\n" ++ block_lines image origins 0 (length image)

-- the text of a report
abbrev pub text_of : Report → List ℕ
text_of r = report_text r.cut.trace.steps r.cut.image r.cut.origins

-- the bytes that go out
abbrev pub output_bytes : Output → List ℕ
output_bytes (outputs.Text text) = string_bytes text
output_bytes (outputs.Image image) = concat image
