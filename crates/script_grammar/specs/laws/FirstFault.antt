-- The first faulty line of a text, in words of its lines.
use Rattle.std.specs.Prelude.{ℕ, Bool, true, false, List, Option}
use Rattle.std.specs.Option.{option_map_or}
use Rattle.script_words.specs.laws.FirstFault as text
use Rattle.script_grammar.specs.declared.kinds.ScriptKind.{ScriptKind}
use Rattle.script_grammar.specs.declared.kinds.ScriptKind.TheVariants as kinds
use Rattle.script_grammar.specs.declared.reading.Reading.{Reading}
use Rattle.script_grammar.specs.declared.reading.Section.{Section}
use Rattle.script_grammar.specs.declared.reading.Section.TheVariants as sections
use Rattle.script_grammar.specs.Grammar.{read_one}

abbrev pub are_events : Section → Bool
are_events sections.Header = false
are_events sections.Body = false
are_events sections.Events = true

-- the line `events` was read
abbrev pub has_events : Option Reading → Bool
has_events reading = option_map_or (λ (r : Reading). are_events r.section) reading false

-- Line n, counted from 1, is the first faulty one, with this kind; the end is faulty where no line was `events`.
abbrev pub IsFirstFault : List (List ℕ) → ℕ → ScriptKind → Type 0
IsFirstFault lines n kind = text.IsFirstFault read_one has_events kinds.Order lines n kind
