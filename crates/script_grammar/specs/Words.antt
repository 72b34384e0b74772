-- The first words of lines, by group, and what the other words of a line say.
use Rattle.std.specs.Prelude.{ℕ, ◌||◌, Bool, List, [], ◌∷◌, codes, Option, Some, None, if◌then◌else◌}
use Rattle.std.specs.Str.{bytes_eq}
use Rattle.std.specs.Option.{option_and_then, option_map, option_or}
use Rattle.script_grammar.specs.declared.words.FirstWord.{FirstWord}
use Rattle.script_grammar.specs.declared.words.FirstWord.TheVariants as first
use Rattle.script_grammar.specs.declared.words.HeaderWord.{HeaderWord}
use Rattle.script_grammar.specs.declared.words.HeaderWord.TheVariants as header
use Rattle.script_grammar.specs.declared.words.BodyWord.{BodyWord}
use Rattle.script_grammar.specs.declared.words.BodyWord.TheVariants as body
use Rattle.script_grammar.specs.declared.words.PlainWord.{PlainWord}
use Rattle.script_grammar.specs.declared.words.PlainWord.TheVariants as plain
use Rattle.script_grammar.specs.declared.words.PickWord.{PickWord}
use Rattle.script_grammar.specs.declared.words.PickWord.TheVariants as picks
use Rattle.script_grammar.specs.declared.words.Word.{Word}
use Rattle.script_grammar.specs.declared.words.Word.TheVariants as word
use Rattle.script_grammar.specs.declared.words.Class.{Class}
use Rattle.script_grammar.specs.declared.words.Class.TheVariants as class
use Rattle.script_grammar.specs.declared.words.Line.{Line}
use Rattle.script_grammar.specs.declared.words.Line.TheVariants as line
use Rattle.script_words.specs.Spelling.{numeral, hex_byte, count_of}

-- ---- words, by group

-- words that begin the first line of a script, and say of which kind it is
abbrev pub first_word : List ℕ → Option FirstWord
first_word w =
    if bytes_eq w (codes "device") then Some first.Device
    else if bytes_eq w (codes "blocks") then Some first.Blocks
    else if bytes_eq w (codes "volume") then Some first.Volume
    else None

-- words of header lines
abbrev pub header_word : List ℕ → Option HeaderWord
header_word w =
    if bytes_eq w (codes "depth") then Some header.Depth
    else if bytes_eq w (codes "queue") then Some header.Queue
    else if bytes_eq w (codes "fail") then Some header.Fail
    else if bytes_eq w (codes "cut") then Some header.Cut
    else if bytes_eq w (codes "elevator") then Some header.Elevator
    else if bytes_eq w (codes "flash") then Some header.Flash
    else None

-- words of requests
abbrev pub body_word : List ℕ → Option BodyWord
body_word w =
    if bytes_eq w (codes "put") then Some body.Put
    else if bytes_eq w (codes "flush") then Some body.Flush
    else None

-- words of events that pick nothing
abbrev pub plain_word : List ℕ → Option PlainWord
plain_word w =
    if bytes_eq w (codes "submit") then Some plain.Submit
    else if bytes_eq w (codes "accept") then Some plain.Accept
    else if bytes_eq w (codes "receive") then Some plain.Receive
    else None

-- words of events that pick a place
abbrev pub pick_word : List ℕ → Option PickWord
pick_word w =
    if bytes_eq w (codes "dispatch") then Some picks.Dispatch
    else if bytes_eq w (codes "transfer") then Some picks.Transfer
    else if bytes_eq w (codes "persist") then Some picks.Persist
    else None

abbrev pub events_word : List ℕ → Option Word
events_word w = if bytes_eq w (codes "events") then Some word.Events else None

-- ---- words that begin lines of volume scripts alone

-- header lines, and the lines that begin threads and attempts of recovery
abbrev pub is_volume_section : List ℕ → Bool
is_volume_section w =
    bytes_eq w (codes "limit") || (bytes_eq w (codes "seed") || (bytes_eq w (codes "thread") || bytes_eq w (codes "recover")))

-- calls that change the tree or a file
abbrev pub is_change : List ℕ → Bool
is_change w =
    bytes_eq w (codes "mkdir") || (bytes_eq w (codes "rmdir") || (bytes_eq w (codes "create") || (bytes_eq w (codes "unlink")
    || (bytes_eq w (codes "link") || (bytes_eq w (codes "rename") || (bytes_eq w (codes "truncate") || (bytes_eq w (codes "write")
    || bytes_eq w (codes "bytes"))))))))

-- calls that read, and those that order or wait
abbrev pub is_query : List ℕ → Bool
is_query w =
    bytes_eq w (codes "read") || (bytes_eq w (codes "list") || (bytes_eq w (codes "stat") || (bytes_eq w (codes "fsync")
    || (bytes_eq w (codes "fdatasync") || (bytes_eq w (codes "fbarrier") || (bytes_eq w (codes "fdatabarrier") || bytes_eq w (codes "sync")))))))

-- events of the host; `flush` and `write` stand above
abbrev pub is_host_event : List ℕ → Bool
is_host_event w =
    bytes_eq w (codes "call") || (bytes_eq w (codes "commit") || (bytes_eq w (codes "answer") || (bytes_eq w (codes "round") || bytes_eq w (codes "back"))))

-- words that are known, but begin no line of this kind of script
abbrev pub volume_word : List ℕ → Option Word
volume_word w = if is_volume_section w || (is_change w || (is_query w || is_host_event w)) then Some word.OfVolume else None

-- the word that begins a line, where it is known
abbrev pub word_of : List ℕ → Option Word
word_of w =
    option_or (option_map word.First (first_word w))
    (option_or (option_map word.Header (header_word w))
    (option_or (option_map word.Body (body_word w))
    (option_or (option_map word.Plain (plain_word w))
    (option_or (option_map word.Pick (pick_word w))
    (option_or (events_word w)
    (volume_word w))))))

-- what a put says of order: none, order-preserving, or a barrier
abbrev pub class_of : List ℕ → Option Class
class_of w =
    if bytes_eq w (codes "free") then Some class.Free
    else if bytes_eq w (codes "ordered") then Some class.Ordered
    else if bytes_eq w (codes "barrier") then Some class.Barrier
    else None

-- ---- lines, by the words behind the first

-- one number stands behind the word, and nothing behind `elevator`
abbrev pub header_line : HeaderWord → List (List ℕ) → Option Line
header_line header.Depth (d ∷ []) = option_map line.Depth (numeral d)
header_line header.Queue (q ∷ []) = option_map line.Queue (numeral q)
header_line header.Fail (n ∷ []) = option_map line.Fail (numeral n)
header_line header.Cut (n ∷ []) = option_map line.Cut (numeral n)
header_line header.Elevator [] = Some line.Elevator
header_line header.Flash (n ∷ []) = option_map line.Flash (numeral n)
header_line w ws = None

-- block, value and class: a decimal number, two hexadecimal digits, and a word
abbrev pub put_line : List ℕ → List ℕ → List ℕ → Option Line
put_line b v c = option_and_then (λ block. option_and_then (λ value. option_map (λ k. line.Put block value k) (class_of c)) (hex_byte v)) (numeral b)

abbrev pub body_line : BodyWord → List (List ℕ) → Option Line
body_line body.Put (b ∷ v ∷ c ∷ []) = put_line b v c
body_line body.Flush [] = Some line.Flush
body_line w ws = None

-- behind the word stands how often; nothing says once
abbrev pub plain_line : PlainWord → List (List ℕ) → Option Line
plain_line w ws = option_map (line.Plain w) (count_of ws)

-- the place that is picked stands behind the word, and then how often
abbrev pub pick_line : PickWord → List (List ℕ) → Option Line
pick_line w [] = None
pick_line w (p ∷ ws) = option_and_then (λ pick. option_map (line.Pick w pick) (count_of ws)) (numeral p)

-- nothing stands behind `events`
abbrev pub events_line : List (List ℕ) → Option Line
events_line [] = Some line.Events
events_line ws = None

-- The line that the words spell. No line begins with a first word here, and none of a volume.
abbrev pub line_of : Word → List (List ℕ) → Option Line
line_of (word.First w) ws = None
line_of (word.Header w) ws = header_line w ws
line_of (word.Body w) ws = body_line w ws
line_of word.Events ws = events_line ws
line_of (word.Plain w) ws = plain_line w ws
line_of (word.Pick w) ws = pick_line w ws
line_of word.OfVolume ws = None
