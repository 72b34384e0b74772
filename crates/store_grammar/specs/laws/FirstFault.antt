-- The first faulty line of a text, in words of its lines.
use Rattle.std.specs.Prelude.{ℕ, Bool, false, List, Option}
use Rattle.std.specs.Option.{option_map_or}
use Rattle.script_words.specs.laws.FirstFault as text
use Rattle.script_grammar.specs.declared.kinds.ScriptKind.{ScriptKind}
use Rattle.script_grammar.specs.declared.kinds.ScriptKind.TheVariants as kinds
use Rattle.store_grammar.specs.declared.reading.Reading.{Reading}
use Rattle.store_grammar.specs.Grammar.{is_behind_events, read_one}

-- the line `events` was read
abbrev pub has_events : Option Reading → Bool
has_events reading = option_map_or (λ (r : Reading). is_behind_events r.section) reading false

-- Line n, counted from 1, is the first faulty one, with this kind; the end is faulty where no line was `events`.
abbrev pub IsFirstFault : List (List ℕ) → ℕ → ScriptKind → Type 0
IsFirstFault lines n kind = text.IsFirstFault read_one has_events kinds.Order lines n kind
