-- Which words are calls, and the fault of those that are none.
use Rattle.std.specs.Prelude.{ℕ, ◌==◌, ◌&&◌, Bool, true, not, nat_lt, nat_le, if◌then◌else◌, List, [], ◌∷◌, codes, length, Option, Some, None, Result, Ok, Err}
use Rattle.std.specs.List.{list_all}
use Rattle.std.specs.Option.{option_and_then, option_map, option_or}
use Rattle.std.specs.Result.{result_ok}
use Rattle.std.specs.Str.{bytes_eq}
use Rattle.hex.specs.Hex.{decode_of}
use Rattle.tree_model.specs.declared.call.Call.{Call}
use Rattle.tree_model.specs.declared.call.Call.TheVariants as calls
use Rattle.script_words.specs.declared.line_error.LineFault.{LineFault}
use Rattle.script_words.specs.declared.line_error.LineFault.TheVariants as faults
use Rattle.line_grammar.specs.declared.calls.limits.TheConstants.{MOST_DIGITS, MOST_LENGTH, OFFSETS}
use Rattle.line_grammar.specs.declared.calls.words.PathWord.{PathWord}
use Rattle.line_grammar.specs.declared.calls.words.PathWord.TheVariants as paths
use Rattle.line_grammar.specs.declared.calls.words.PairWord.{PairWord}
use Rattle.line_grammar.specs.declared.calls.words.PairWord.TheVariants as pairs
use Rattle.line_grammar.specs.declared.calls.words.PlaceWord.{PlaceWord}
use Rattle.line_grammar.specs.declared.calls.words.PlaceWord.TheVariants as places
use Rattle.line_grammar.specs.declared.calls.words.CallWord.{CallWord}
use Rattle.line_grammar.specs.declared.calls.words.CallWord.TheVariants as word
use Rattle.script_words.specs.Spelling.{numeral, hex_byte}

-- ---- first words

-- calls of one path that change or read the tree
abbrev pub naming_word : List ℕ → Option PathWord
naming_word w =
    if bytes_eq w (codes "mkdir") then Some paths.Mkdir
    else if bytes_eq w (codes "rmdir") then Some paths.Rmdir
    else if bytes_eq w (codes "create") then Some paths.Create
    else if bytes_eq w (codes "unlink") then Some paths.Unlink
    else if bytes_eq w (codes "list") then Some paths.List
    else if bytes_eq w (codes "stat") then Some paths.Stat
    else None

-- calls of one path that order or wait
abbrev pub syncing_word : List ℕ → Option PathWord
syncing_word w =
    if bytes_eq w (codes "fsync") then Some paths.Fsync
    else if bytes_eq w (codes "fdatasync") then Some paths.Fdatasync
    else if bytes_eq w (codes "fbarrier") then Some paths.Fbarrier
    else if bytes_eq w (codes "fdatabarrier") then Some paths.Fdatabarrier
    else None

-- calls of one path and nothing else
abbrev pub path_word : List ℕ → Option PathWord
path_word w = option_or (naming_word w) (syncing_word w)

-- calls of two paths
abbrev pub pair_word : List ℕ → Option PairWord
pair_word w =
    if bytes_eq w (codes "link") then Some pairs.Link
    else if bytes_eq w (codes "rename") then Some pairs.Rename
    else None

-- calls of a path and an offset in bytes
abbrev pub place_word : List ℕ → Option PlaceWord
place_word w =
    if bytes_eq w (codes "write") then Some places.Write
    else if bytes_eq w (codes "bytes") then Some places.Bytes
    else if bytes_eq w (codes "read") then Some places.Read
    else None

-- calls whose other words are like those of no other call
abbrev pub own_word : List ℕ → Option CallWord
own_word w =
    if bytes_eq w (codes "truncate") then Some word.Truncate
    else if bytes_eq w (codes "sync") then Some word.Sync
    else None

-- the word that begins a call's line, where it is known
abbrev pub call_word : List ℕ → Option CallWord
call_word w =
    option_or (option_map word.OfPath (path_word w))
    (option_or (option_map word.OfPair (pair_word w))
    (option_or (option_map word.OfPlace (place_word w))
    (own_word w)))

-- ---- other words

-- a byte that is printed, and no space
abbrev pub is_printed : ℕ → Bool
is_printed b = nat_le 33 b && nat_le b 126

-- any word of such bytes stands where a path does
abbrev pub is_path_text : List ℕ → Bool
is_path_text w = not (length w == 0) && list_all is_printed w

-- the word, where it may stand for a path
abbrev pub path_text : List ℕ → Option (List ℕ)
path_text w = if is_path_text w then Some w else None

-- 2 to 2,048 hexadecimal digits, even in number, in either case
abbrev pub hex_text : List ℕ → Option (List ℕ)
hex_text w = if nat_le 2 (length w) && nat_le (length w) MOST_DIGITS then result_ok (decode_of w) else None

-- ---- calls, whatever their numbers

abbrev pub path_call : PathWord → List ℕ → Call
path_call paths.Mkdir p = calls.Mkdir p
path_call paths.Rmdir p = calls.Rmdir p
path_call paths.Create p = calls.Create p
path_call paths.Unlink p = calls.Unlink p
path_call paths.List p = calls.List p
path_call paths.Stat p = calls.Stat p
path_call paths.Fsync p = calls.Fsync p
path_call paths.Fdatasync p = calls.Fdatasync p
path_call paths.Fbarrier p = calls.Fbarrier p
path_call paths.Fdatabarrier p = calls.Fdatabarrier p

abbrev pub pair_call : PairWord → List ℕ → List ℕ → Call
pair_call pairs.Link p q = calls.Link p q
pair_call pairs.Rename p q = calls.Rename p q

abbrev pub path_spelled : PathWord → List (List ℕ) → Option Call
path_spelled w (p ∷ []) = option_map (path_call w) (path_text p)
path_spelled w ws = None

abbrev pub pair_spelled : PairWord → List (List ℕ) → Option Call
pair_spelled w (p ∷ q ∷ []) = option_and_then (λ path. option_map (pair_call w path) (path_text q)) (path_text p)
pair_spelled w ws = None

-- a path and a size in bytes
abbrev pub truncate_spelled : List (List ℕ) → Option Call
truncate_spelled (p ∷ s ∷ []) = option_and_then (λ path. option_map (calls.Truncate path) (numeral s)) (path_text p)
truncate_spelled ws = None

-- how many bytes are written, and the byte that all of them are
abbrev pub write_at : List ℕ → ℕ → List (List ℕ) → Option Call
write_at path off (n ∷ v ∷ []) = option_and_then (λ len. option_map (calls.Write path off len) (hex_byte v)) (numeral n)
write_at path off ws = None

-- the bytes that are written, as hexadecimal digits
abbrev pub bytes_at : List ℕ → ℕ → List (List ℕ) → Option Call
bytes_at path off (h ∷ []) = option_map (calls.Bytes path off) (hex_text h)
bytes_at path off ws = None

-- how many bytes are read
abbrev pub read_at : List ℕ → ℕ → List (List ℕ) → Option Call
read_at path off (n ∷ []) = option_map (calls.Read path off) (numeral n)
read_at path off ws = None

-- what stands behind the offset, by the first word
abbrev pub call_at : PlaceWord → List ℕ → ℕ → List (List ℕ) → Option Call
call_at places.Write path off ws = write_at path off ws
call_at places.Bytes path off ws = bytes_at path off ws
call_at places.Read path off ws = read_at path off ws

-- a path, an offset, and what stands behind them
abbrev pub place_spelled : PlaceWord → List (List ℕ) → Option Call
place_spelled w (p ∷ o ∷ ws) = option_and_then (λ path. option_and_then (λ off. call_at w path off ws) (numeral o)) (path_text p)
place_spelled w ws = None

-- nothing stands behind `sync`
abbrev pub sync_spelled : List (List ℕ) → Option Call
sync_spelled [] = Some calls.Sync
sync_spelled ws = None

-- the call that the words behind the first spell
abbrev pub call_spelled : CallWord → List (List ℕ) → Option Call
call_spelled (word.OfPath w) ws = path_spelled w ws
call_spelled (word.OfPair w) ws = pair_spelled w ws
call_spelled word.Truncate ws = truncate_spelled ws
call_spelled (word.OfPlace w) ws = place_spelled w ws
call_spelled word.Sync ws = sync_spelled ws

-- ---- their numbers

abbrev pub length_fits : ℕ → Bool
length_fits len = nat_le 1 len && nat_le len MOST_LENGTH

-- offsets and sizes are below 2^32, and 1 to 65,536 bytes are written or read
abbrev pub call_fits : Call → Bool
call_fits (calls.Truncate path size) = nat_lt size OFFSETS
call_fits (calls.Write path off len value) = nat_lt off OFFSETS && length_fits len
call_fits (calls.Bytes path off bytes) = nat_lt off OFFSETS
call_fits (calls.Read path off len) = nat_lt off OFFSETS && length_fits len
call_fits c = true

-- ---- calls

-- a fault of the spelling counts before one of a number
abbrev pub call_taken : Option Call → Result Call LineFault
call_taken None = Err faults.Spelling
call_taken (Some c) = if call_fits c then Ok c else Err faults.Number

-- The call that the words spell, or their fault.
abbrev pub call_of : CallWord → List (List ℕ) → Result Call LineFault
call_of w ws = call_taken (call_spelled w ws)
