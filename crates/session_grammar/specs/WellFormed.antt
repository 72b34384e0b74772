-- What holds of every volume script that is read, and of no other.
use Rattle.std.specs.Prelude.{◌≡◌, ℕ, ◌+◌, ◌<◌, ◌≤◌, List, [], ◌∷◌, ◌++◌, length, Some, Ok}
use Rattle.blk_base.specs.Members.{In}
use Rattle.minix_layout.specs.Widths.{IsWidth}
use Rattle.minix_layout.specs.Words.{first_zone}
use Rattle.tree_model.specs.declared.call.Call.{Call}
use Rattle.script_words.specs.Spelling.{words_of}
use Rattle.script_grammar.specs.declared.limits.TheConstants.{FEWEST_SEGMENTS, MOST_DEPTH, MOST_QUEUE, MOST_SEGMENTS, MOST_STEPS, MOST_TRANSFERS}
use Rattle.line_grammar.specs.calls.WellFormed as call
use Rattle.line_grammar.specs.calls.laws.Speller as call_speller
use Rattle.line_grammar.specs.declared.events.event.CoreEvent.{CoreEvent}
use Rattle.line_grammar.specs.declared.events.event.CoreEvent.TheVariants as core
use Rattle.line_grammar.specs.declared.events.event.EventLine.{EventLine}
use Rattle.line_grammar.specs.declared.events.event.EventWord.{EventWord}
use Rattle.line_grammar.specs.declared.events.event.EventWord.TheVariants.{One, Round, Back}
use Rattle.script_words.specs.declared.limits.TheConstants.{MOST_EVENTS}
use Rattle.line_grammar.specs.declared.events.steer.Steer.{Steer}
use Rattle.line_grammar.specs.events.WellFormed.{IsEventLine, IsSteerLine}
use Rattle.minix_layout.specs.declared.limits.TheConstants.{LEAST_JOURNAL, MOST_JOURNAL, MOST_NUMBERED}
use Rattle.session_grammar.specs.declared.limits.TheConstants.{MOST_CALLS, MOST_RECOVERS, MOST_SEED, MOST_SESSION, MOST_THREADS}
use Rattle.session_grammar.specs.declared.session_script.SessionHeader.{SessionHeader}
use Rattle.session_grammar.specs.declared.session_script.SessionScript.{SessionScript}
use Rattle.session_grammar.specs.Grammar.{weight}

-- sizes of which a volume with a journal can be made
pub record AreSizes (inodes zones journal : ℕ) : Type 0 where
  pub some_inode : 1 ≤ inodes
  pub most_inodes : inodes ≤ MOST_NUMBERED
  pub most_zones : zones ≤ MOST_NUMBERED
  pub some_data : first_zone inodes zones < zones
  pub least_journal : LEAST_JOURNAL ≤ journal
  pub most_journal : journal ≤ MOST_JOURNAL

-- the numbers of the header lines are within their limits
pub record IsHeader (h : SessionHeader) : Type 0 where
  pub some_depth : 1 ≤ h.depth
  pub depth : h.depth ≤ MOST_DEPTH
  pub some_queue : 1 ≤ h.queue
  pub queue : h.queue ≤ MOST_QUEUE
  pub some_limit : 1 ≤ h.limit
  pub limit : h.limit ≤ MOST_SESSION
  pub least_fail : (n : ℕ) → h.fail ≡ Some n → 1 ≤ n
  pub most_fail : (n : ℕ) → h.fail ≡ Some n → n ≤ MOST_TRANSFERS
  pub cut : (n : ℕ) → h.cut ≡ Some n → n ≤ MOST_STEPS
  pub seed : h.seed ≤ MOST_SEED
  pub least_flash : (n : ℕ) → h.flash ≡ Some n → FEWEST_SEGMENTS ≤ n
  pub most_flash : (n : ℕ) → h.flash ≡ Some n → n ≤ MOST_SEGMENTS

-- ---- threads

-- the calls of all threads, one thread after the other
abbrev pub all_calls : List (List Call) → List Call
all_calls [] = []
all_calls (p ∷ ps) = p ++ all_calls ps

-- the words of the line say the call
abbrev pub IsLineOf : List ℕ → Call → Type 0
IsLineOf l c = call_speller.line_of (words_of l) ≡ Ok c

-- each call has a line, which says it
abbrev pub AreLinesOf : List (List ℕ) → List Call → Type 0
AreLinesOf [] [] = Unit {0}
AreLinesOf (l ∷ ls) (c ∷ cs) = IsLineOf l c × AreLinesOf ls cs
AreLinesOf ls cs = ⊥

-- ---- event lines

-- the thread that is named is one of so many, and the host submits by itself
abbrev pub IsStepOf : ℕ → CoreEvent → Type 0
IsStepOf threads (core.Call t) = (1 ≤ t) × (t ≤ threads)
IsStepOf threads core.Submit = ⊥
IsStepOf threads e = Unit {0}

-- rounds and `back` name no thread
abbrev pub IsTurnOf : ℕ → EventWord → Type 0
IsTurnOf threads (One e) = IsStepOf threads e
IsTurnOf threads Round = Unit {0}
IsTurnOf threads Back = Unit {0}

-- an event line of a script with so many threads
pub record IsEventOf (threads : ℕ) (l : EventLine) : Type 0 where
  pub line : IsEventLine l
  pub turn : IsTurnOf threads l.what

-- how many events the lines are
abbrev pub expanded_of : ℕ → List EventLine → ℕ
expanded_of threads [] = 0
expanded_of threads (l ∷ ls) = weight threads l + expanded_of threads ls

-- a script of a volume that can be made, with numbers within their limits, and with the line of each call
pub record IsWellFormed (s : SessionScript) : Type 0 where
  pub sizes : AreSizes s.inodes s.zones s.journal
  pub width : IsWidth s.width
  pub header : IsHeader s.header
  pub threads : length s.programs ≤ MOST_THREADS
  pub few_calls : (p : List Call) → In p s.programs → length p ≤ MOST_CALLS
  pub calls : (c : Call) → In c (all_calls s.programs) → call.IsWellFormed c
  pub lines : AreLinesOf s.lines (all_calls s.programs)
  pub events : (l : EventLine) → In l s.events → IsEventOf (length s.programs) l
  pub expanded : expanded_of (length s.programs) s.events ≤ MOST_EVENTS
  pub recovers : (ss : List Steer) → In ss s.recovers → IsSteerLine ss
  pub few_recovers : length s.recovers ≤ MOST_RECOVERS
