-- A small speller of a store's scripts.
use Rattle.std.specs.Prelude.{ℕ, ◌++◌, List, [], ◌∷◌, codes, map}
use Rattle.line_grammar.specs.events.laws.Speller.{event_line_words}
use Rattle.script_words.specs.laws.Texts.{lines_text}
use Rattle.session_grammar.specs.laws.Speller.{number_words, number_lines, recover_words}
use Rattle.wal_store.specs.declared.puts.Op.{Op}
use Rattle.wal_store.specs.declared.puts.Op.TheVariants as ops
use Rattle.store_grammar.specs.declared.script.StoreHeader.{StoreHeader}
use Rattle.store_grammar.specs.declared.script.StoreScript.{StoreScript}

-- ---- the words of each line

abbrev pub store_words : ℕ → List (List ℕ)
store_words room = number_words (codes "store") room

abbrev pub header_lines : StoreHeader → List (List (List ℕ))
header_lines h =
    number_words (codes "depth") h.depth ∷ number_words (codes "queue") h.queue
    ∷ number_lines (codes "fail") h.fail ++ number_lines (codes "cut") h.cut

abbrev pub op_words : Op → List (List ℕ)
op_words (ops.Put p) = codes "put" ∷ p.key ∷ p.value ∷ []
op_words ops.Flush = codes "flush" ∷ []

-- ---- the text

-- the lines of a script, each as its words
abbrev pub store_lines : StoreScript → List (List (List ℕ))
store_lines s =
    store_words s.room ∷ header_lines s.header
    ++ (map op_words s.ops
    ++ ((codes "events" ∷ []) ∷ map event_line_words s.events ++ map recover_words s.recovers))

abbrev pub store_text : StoreScript → List ℕ
store_text s = lines_text (store_lines s)
