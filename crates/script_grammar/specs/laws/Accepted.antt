-- What a text that is accepted says: the lines that the speller writes of its script, but that some may be
-- left out, and that header lines may stand in any order.
use Rattle.std.specs.Prelude.{◌≡◌, ℕ, ◌++◌, ◌||◌, Bool, true, false, List, [], ◌∷◌, codes, map}
use Rattle.std.specs.List.{filter}
use Rattle.std.specs.Str.{bytes_eq}
use Rattle.blk_base.specs.Members.{In}
use Rattle.script_words.specs.laws.Counts.{with_count}
use Rattle.script_grammar.specs.declared.script.Script.{Script}
use Rattle.script_grammar.specs.Grammar.{is_scheduled}
use Rattle.script_grammar.specs.laws.Speller.{form_words, depth_lines, queue_lines, fail_lines, cut_lines, flash_lines, elevator_lines, request_words, event_line_words}

-- the line begins with this word
abbrev pub begins : List ℕ → List (List ℕ) → Bool
begins w [] = false
begins w (v ∷ vs) = bytes_eq v w

-- the lines that do
abbrev pub beginning : List ℕ → List (List (List ℕ)) → List (List (List ℕ))
beginning w lines = filter (begins w) lines

-- the lines, or where there are none the default
abbrev pub or_default : List (List ℕ) → List (List (List ℕ)) → List (List (List ℕ))
or_default default [] = default ∷ []
or_default default (l ∷ ls) = l ∷ ls

-- a depth of 32, and a length of 32 of each queue
abbrev pub default_depth : List (List ℕ)
default_depth = codes "depth" ∷ codes "32" ∷ []

abbrev pub default_queue : List (List ℕ)
default_queue = codes "queue" ∷ codes "32" ∷ []

-- the lines of the queues; a script of the device alone has none, and no default of them
abbrev pub filled_queue : Bool → List (List (List ℕ)) → List (List (List ℕ))
filled_queue true lines = or_default default_queue lines
filled_queue false lines = lines

-- The header lines, which may stand in any order, say what the script has, each at most once; one that says
-- the default may be left out.
pub record IsHeaderOf (s : Script) (header : List (List (List ℕ))) : Type 0 where
  pub depth : or_default default_depth (beginning (codes "depth") header) ≡ depth_lines s
  pub queue : filled_queue (is_scheduled s.kind) (beginning (codes "queue") header) ≡ queue_lines s
  pub fail : beginning (codes "fail") header ≡ fail_lines s.header.fail
  pub cut : beginning (codes "cut") header ≡ cut_lines s.header.cut
  pub flash : beginning (codes "flash") header ≡ flash_lines s.header.flash
  pub elevator : beginning (codes "elevator") header ≡ elevator_lines s.header.elevator
  pub known : (l : List (List ℕ)) → In l header → (begins (codes "depth") l || (begins (codes "queue") l || (begins (codes "fail") l || (begins (codes "cut") l || (begins (codes "flash") l || begins (codes "elevator") l))))) ≡ true

-- The lines, each as its words, say the script.
pub record SaysScript (s : Script) (lines : List (List (List ℕ))) : Type 0 where
  pub header : List (List (List ℕ))
  pub events : List (List (List ℕ))
  pub whole : lines ≡ form_words s.kind ∷ header ++ (map request_words s.puts ++ (codes "events" ∷ []) ∷ events)
  pub headed : IsHeaderOf s header
  pub counted : map with_count events ≡ map event_line_words s.events
