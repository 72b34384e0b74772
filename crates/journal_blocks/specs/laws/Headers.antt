-- Laws of headers: what is read of one that was written.
use Rattle.std.specs.Prelude.{◌≡◌, ℕ, ◌-◌, ◌^◌, ◌<◌, List, ◌++◌, length, drop}
use Rattle.std.proofs.Common.{sym, ap, ◌∙◌, lit<, arith, append_assoc, length-append}
use Rattle.std.proofs.lemmas.List.{drop_at}
use Rattle.byte_fields.specs.Fields.{zeros, bytes_of, number_at}
use Rattle.byte_fields.specs.Fields.Order.{big}
use Rattle.byte_fields.specs.laws.ReadLaws.{length-bytes_of}
use Rattle.journal_blocks.specs.Header.{magic_of, kind_of, sequence_of}
use Rattle.journal_blocks.specs.Written.{header_bytes, block_with}
use Rattle.journal_blocks.specs.laws.Numbers.{read_there, read_first}

pub length-header : (kind sequence : ℕ) → length (header_bytes kind sequence) ≡ 12
length-header kind sequence =
    let a = length-append (bytes_of big 4 0xC03B3998) (bytes_of big 4 kind ++ bytes_of big 4 sequence) in
    let b = length-append (bytes_of big 4 kind) (bytes_of big 4 sequence) in
    let c = length-bytes_of big 4 0xC03B3998 in
    let d = length-bytes_of big 4 kind in
    let e = length-bytes_of big 4 sequence in
    omega (arith, a, b, c, d, e)

header_split : (kind sequence : ℕ) (rest : List ℕ) → header_bytes kind sequence ++ rest ≡ bytes_of big 4 0xC03B3998 ++ (bytes_of big 4 kind ++ (bytes_of big 4 sequence ++ rest))
header_split kind sequence rest =
    append_assoc (bytes_of big 4 0xC03B3998) (bytes_of big 4 kind ++ bytes_of big 4 sequence) rest
    ∙ ap (λ xs. bytes_of big 4 0xC03B3998 ++ xs) (append_assoc (bytes_of big 4 kind) (bytes_of big 4 sequence) rest)

-- the three numbers of a header
pub header_there : (kind sequence : ℕ) (rest : List ℕ) → kind < 256 ^ 4 → sequence < 256 ^ 4
    → (magic_of (header_bytes kind sequence ++ rest) ≡ 0xC03B3998) × (kind_of (header_bytes kind sequence ++ rest) ≡ kind) × (sequence_of (header_bytes kind sequence ++ rest) ≡ sequence)
header_there kind sequence rest kind_fits fits =
    let h = header_split kind sequence rest in
    let m = bytes_of big 4 0xC03B3998 in
    let k = bytes_of big 4 kind in
    let eight : length (m ++ k) ≡ 8 = (let a = length-append m k in let b = length-bytes_of big 4 0xC03B3998 in let e = length-bytes_of big 4 kind in omega (arith, a, b, e)) in (
      ap (number_at big 4 0) h ∙ read_first 4 0xC03B3998 (k ++ (bytes_of big 4 sequence ++ rest)) (lit< tt),
      ap (number_at big 4 4) h ∙ read_there 4 kind 4 m (bytes_of big 4 sequence ++ rest) (length-bytes_of big 4 0xC03B3998) kind_fits,
      ap (number_at big 4 8) (h ∙ sym (append_assoc m k (bytes_of big 4 sequence ++ rest))) ∙ read_there 4 sequence 8 (m ++ k) rest eight fits,
    )

-- what a block holds stands behind its header
pub held_there : (kind sequence : ℕ) (held : List ℕ) → drop 12 (block_with kind sequence held) ≡ held ++ zeros (1012 - length held)
held_there kind sequence held = drop_at (header_bytes kind sequence) (held ++ zeros (1012 - length held)) 12 (length-header kind sequence)
