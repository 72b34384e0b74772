-- A small speller of calls.
use Rattle.std.specs.Prelude.{ℕ, ◌+◌, ◌&&◌, nat_le, if◌then◌else◌, List, [], ◌∷◌, codes, map, Option, Some, None, Result, Err}
use Rattle.std.specs.Fmt.{decimal}
use Rattle.std.specs.Str.{bytes_eq}
use Rattle.byte_text.specs.Hex as byte
use Rattle.hex.specs.Hex.{encode_lower}
use Rattle.tree_model.specs.declared.call.Call.{Call}
use Rattle.tree_model.specs.declared.call.Call.TheVariants as calls
use Rattle.script_words.specs.declared.line_error.LineFault.{LineFault}
use Rattle.script_words.specs.declared.line_error.LineFault.TheVariants as faults
use Rattle.line_grammar.specs.declared.calls.words.CallWord.{CallWord}
use Rattle.line_grammar.specs.calls.CallLines.{call_word, call_of}

-- the words of a call
abbrev pub call_words : Call → List (List ℕ)
call_words (calls.Mkdir p) = codes "mkdir" ∷ p ∷ []
call_words (calls.Rmdir p) = codes "rmdir" ∷ p ∷ []
call_words (calls.Create p) = codes "create" ∷ p ∷ []
call_words (calls.Unlink p) = codes "unlink" ∷ p ∷ []
call_words (calls.Link p q) = codes "link" ∷ p ∷ q ∷ []
call_words (calls.Rename p q) = codes "rename" ∷ p ∷ q ∷ []
call_words (calls.Truncate p size) = codes "truncate" ∷ p ∷ decimal size ∷ []
call_words (calls.Write p off len value) = codes "write" ∷ p ∷ decimal off ∷ decimal len ∷ byte.hex_text value ∷ []
call_words (calls.Bytes p off bytes) = codes "bytes" ∷ p ∷ decimal off ∷ encode_lower bytes ∷ []
call_words (calls.Read p off len) = codes "read" ∷ p ∷ decimal off ∷ decimal len ∷ []
call_words (calls.List p) = codes "list" ∷ p ∷ []
call_words (calls.Stat p) = codes "stat" ∷ p ∷ []
call_words (calls.Fsync p) = codes "fsync" ∷ p ∷ []
call_words (calls.Fdatasync p) = codes "fdatasync" ∷ p ∷ []
call_words (calls.Fbarrier p) = codes "fbarrier" ∷ p ∷ []
call_words (calls.Fdatabarrier p) = codes "fdatabarrier" ∷ p ∷ []
call_words calls.Sync = codes "sync" ∷ []

-- a hexadecimal digit in lower case
abbrev pub lowered : ℕ → ℕ
lowered b = if nat_le 65 b && nat_le b 70 then b + 32 else b

-- the words of a line, with the digits of `bytes` in lower case
abbrev pub with_lower_digits : List (List ℕ) → List (List ℕ)
with_lower_digits (w ∷ p ∷ o ∷ h ∷ []) = if bytes_eq w (codes "bytes") then w ∷ p ∷ o ∷ map lowered h ∷ [] else w ∷ p ∷ o ∷ h ∷ []
with_lower_digits ws = ws

-- ---- lines

abbrev pub line_after : Option CallWord → List (List ℕ) → Result Call LineFault
line_after None ws = Err faults.Spelling
line_after (Some w) ws = call_of w ws

-- the call that all words of a line spell
abbrev pub line_of : List (List ℕ) → Result Call LineFault
line_of [] = Err faults.Spelling
line_of (w ∷ ws) = line_after (call_word w) ws
