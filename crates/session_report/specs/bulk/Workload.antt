-- The script that is generated from a number.
use Rattle.std.specs.Prelude.{ℕ, ◌+◌, ◌*◌, ◌/◌, ◌%◌, ◌==◌, ◌||◌, ◌++◌, Bool, false, if◌then◌else◌, List, [], ◌∷◌, codes, map, Option, Some}
use Rattle.std.specs.List.{join_with_byte}
use Rattle.std.specs.Fmt.{decimal}
use Rattle.rand_core.specs.Steps.{first_words}
use Rattle.rand_core.specs.Pcg32Seed.{pcg32_seed}
use Rattle.rand_pcg.specs.Pcg.{pcg32, pcg32_of_seed}
use Rattle.tree_model.specs.declared.call.Call.{Call}
use Rattle.tree_model.specs.declared.call.Call.TheVariants as calls
use Rattle.line_grammar.specs.calls.laws.Speller.{call_words}
use Rattle.minix_layout.specs.declared.limits.TheConstants.{DEFAULT_WIDTH}
use Rattle.line_grammar.specs.declared.events.event.EventLine.{EventLine}
use Rattle.line_grammar.specs.declared.events.event.EventWord.TheVariants.{Round}
use Rattle.line_grammar.specs.declared.events.steer.Steer.TheVariants as steers
use Rattle.session_grammar.specs.declared.session_script.SessionHeader.{SessionHeader}
use Rattle.session_grammar.specs.declared.session_script.SessionScript.{SessionScript}
use Rattle.session_grammar.specs.Grammar.{header_of, none_told}
use Rattle.session_grammar.specs.WellFormed.{all_calls}
use Rattle.session_report.specs.declared.bulk.limits.TheConstants.{CALL_BYTES}

-- ---- one word

-- one of 64 files
abbrev pub file_of : ℕ → ℕ
file_of word = word / 8 % 64

-- an offset or a size: one of 16 multiples of 1,024
abbrev pub offset_of : ℕ → ℕ
offset_of word = CALL_BYTES * (word / 512 % 16)

-- the byte that is written
abbrev pub value_of : ℕ → ℕ
value_of word = word / 8192 % 256

unfoldable pub path_of : ℕ → List ℕ
path_of word = codes "/f" ++ decimal (file_of word)

-- a call of one of eight kinds, two of which are writes, for the file that the word says
abbrev pub call_of_kind : ℕ → ℕ → Call
call_of_kind kind word =
    if kind == 0 then calls.Create (path_of word)
    else if kind == 1 then calls.Write (path_of word) (offset_of word) CALL_BYTES (value_of word)
    else if kind == 2 then calls.Write (path_of word) (offset_of word) CALL_BYTES (value_of word)
    else if kind == 3 then calls.Fbarrier (path_of word)
    else if kind == 4 then calls.Fdatabarrier (path_of word)
    else if kind == 5 then calls.Fsync (path_of word)
    else if kind == 6 then calls.Truncate (path_of word) (offset_of word)
    else calls.Unlink (path_of word)

-- the call that a word of the generator says
abbrev pub word_call : ℕ → Call
word_call word = call_of_kind (word % 8) word

-- ---- all words

-- the first n words of the generator of n
abbrev pub drawn_words : ℕ → List ℕ
drawn_words n = first_words pcg32 n (pcg32_of_seed (pcg32_seed 16 n))

-- The words whose calls go to a thread, counted from 1, where the first has this place among all words: word k goes to
-- thread 1 + k mod 4.
abbrev pub words_for : ℕ → ℕ → List ℕ → List ℕ
words_for thread place [] = []
words_for thread place (w ∷ ws) = if 1 + place % 4 == thread then w ∷ words_for thread (place + 1) ws else words_for thread (place + 1) ws

-- the calls of a thread, counted from 1
abbrev pub thread_calls : List ℕ → ℕ → List Call
thread_calls words thread = map word_call (words_for thread 0 words)

-- the calls of four threads
abbrev pub bulk_programs : List ℕ → List (List Call)
bulk_programs words = map (thread_calls words) (1 ∷ 2 ∷ 3 ∷ 4 ∷ [])

-- ---- the script

-- the words of a call with one space between each two
abbrev pub call_line : Call → List ℕ
call_line c = join_with_byte 32 (call_words c)

-- a limit of 200,000 requests, and no other header line
abbrev pub bulk_header : SessionHeader
bulk_header = header_of (record none_told { limit = Some 200000 })

-- the script of a number, n, whose words are these
abbrev pub script_of : ℕ → List ℕ → SessionScript
script_of n words = record {
  inodes = 512;
  zones = 4096;
  journal = 512;
  width = DEFAULT_WIDTH;
  wide = false;
  header = bulk_header;
  programs = bulk_programs words;
  lines = map call_line (all_calls (bulk_programs words));
  events = record { what = Round; count = 50 * n + 1000 } ∷ [];
  recovers = (steers.Default 5 ∷ []) ∷ [];
}

-- The script of a number: a volume of 512 inodes and 4,096 blocks with a journal of 512, four threads to which the calls
-- go in turn, as many as the number says, rounds for all of them, and one attempt of recovery that is cut after five steps.
abbrev pub bulk_of : ℕ → SessionScript
bulk_of n = script_of n (drawn_words n)
