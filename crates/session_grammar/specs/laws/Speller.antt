-- A small speller of volume scripts.
use Rattle.std.specs.Prelude.{ℕ, ◌+◌, ◌++◌, ◌==◌, Bool, List, [], ◌∷◌, codes, length, map, take, drop, Option, Some, None, if◌then◌else◌}
use Rattle.std.specs.Fmt.{decimal}
use Rattle.tree_model.specs.declared.call.Call.{Call}
use Rattle.line_grammar.specs.declared.events.steer.Steer.{Steer}
use Rattle.line_grammar.specs.events.laws.Speller.{event_line_words, steer_words}
use Rattle.script_words.specs.Spelling.{words_of}
use Rattle.script_words.specs.laws.Texts.{lines_text}
use Rattle.session_grammar.specs.declared.session_script.SessionHeader.{SessionHeader}
use Rattle.session_grammar.specs.declared.session_script.SessionScript.{SessionScript}

-- ---- the words of each line

-- the words that choose names of 30 bytes
abbrev pub names_words : ℕ → List (List ℕ)
names_words width = if width == 30 then codes "names" ∷ codes "30" ∷ [] else []

-- the words that choose tags of 64 bits
abbrev pub tags_words : Bool → List (List ℕ)
tags_words wide = if wide then codes "tags" ∷ codes "64" ∷ [] else []

abbrev pub volume_words : ℕ → ℕ → ℕ → ℕ → Bool → List (List ℕ)
volume_words inodes zones journal width wide =
    codes "volume" ∷ codes "inodes" ∷ decimal inodes ∷ codes "zones" ∷ decimal zones ∷ codes "journal" ∷ decimal journal
    ∷ names_words width ++ tags_words wide

abbrev pub number_words : List ℕ → ℕ → List (List ℕ)
number_words name n = name ∷ decimal n ∷ []

-- the line of a header word, where it has a number
abbrev pub number_lines : List ℕ → Option ℕ → List (List (List ℕ))
number_lines name None = []
number_lines name (Some n) = number_words name n ∷ []

abbrev pub elevator_lines : Bool → List (List (List ℕ))
elevator_lines elevator = if elevator then (codes "elevator" ∷ []) ∷ [] else []

abbrev pub header_lines : SessionHeader → List (List (List ℕ))
header_lines h =
    number_words (codes "depth") h.depth ∷ number_words (codes "queue") h.queue ∷ number_words (codes "limit") h.limit ∷ number_words (codes "seed") h.seed
    ∷ number_lines (codes "fail") h.fail ++ (number_lines (codes "cut") h.cut ++ (number_lines (codes "flash") h.flash ++ elevator_lines h.elevator))

abbrev pub thread_words : ℕ → List (List ℕ)
thread_words t = number_words (codes "thread") t

-- each thread, from this number on, and behind it the lines of its calls
unfoldable pub thread_lines : ℕ → List (List Call) → List (List ℕ) → List (List (List ℕ))
thread_lines t [] lines = []
thread_lines t (p ∷ ps) lines = thread_words t ∷ map words_of (take (length p) lines) ++ thread_lines (t + 1) ps (drop (length p) lines)

abbrev pub recover_words : List Steer → List (List ℕ)
recover_words ss = codes "recover" ∷ steer_words ss

-- ---- the text

-- the lines of a script, each as its words
abbrev pub session_lines : SessionScript → List (List (List ℕ))
session_lines s =
    volume_words s.inodes s.zones s.journal s.width s.wide ∷ header_lines s.header
    ++ (thread_lines 1 s.programs s.lines
    ++ ((codes "events" ∷ []) ∷ map event_line_words s.events ++ map recover_words s.recovers))

abbrev pub session_text : SessionScript → List ℕ
session_text s = lines_text (session_lines s)
