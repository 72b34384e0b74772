-- The text of a store's session.
use Rattle.std.specs.Prelude.{ℕ, ◌++◌, List, [], ◌∷◌, codes}
use Rattle.session_report.specs.text.Lines.{count_line}
use Rattle.wal_store.specs.Log.{Pairs}
use Rattle.store_core.specs.declared.report.StoreSummary.{StoreSummary}

-- a line for each key: the key, and the value that it has
abbrev pub pair_line : List ℕ → List ℕ → List ℕ
pair_line key value = key ++ codes " " ++ value ++ codes "\n"

-- so of each of these pairs, in order
abbrev pub pair_lines : Pairs → List ℕ
pair_lines [] = []
pair_lines ((key, value) ∷ pairs) = pair_line key value ++ pair_lines pairs

-- four lines, each a word and a number, and one for each key, with its value
unfoldable pub summary_text : StoreSummary → List ℕ
summary_text s =
    count_line (codes "steps") s.steps ++ count_line (codes "requests") s.requests ++ count_line (codes "acknowledged") s.acknowledged
    ++ count_line (codes "held") s.held.count ++ pair_lines s.held.pairs
