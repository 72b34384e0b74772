-- A small speller of scripts.
use Rattle.std.specs.Prelude.{ℕ, ◌++◌, Bool, true, false, List, [], ◌∷◌, codes, map, Option, Some, None, if◌then◌else◌, slice_get}
use Rattle.std.specs.Option.{option_map_or}
use Rattle.std.specs.Fmt.{decimal}
use Rattle.order_model.specs.declared.request.Request.{Request}
use Rattle.order_model.specs.declared.request.Kind.{Kind}
use Rattle.order_model.specs.declared.request.Kind.TheVariants.{Put, Flush}
use Rattle.script_grammar.specs.declared.script.Script.{Script}
use Rattle.script_grammar.specs.declared.script.Form.{Form}
use Rattle.script_grammar.specs.declared.script.Form.TheVariants.{Device, Blocks}
use Rattle.script_grammar.specs.declared.script.EventLine.{EventLine}
use Rattle.script_grammar.specs.declared.script.EventWord.{EventWord}
use Rattle.script_grammar.specs.declared.script.EventWord.TheVariants.{One}
use Rattle.script_grammar.specs.declared.script.CoreEvent.{CoreEvent}
use Rattle.script_grammar.specs.declared.script.CoreEvent.TheVariants.{Submit, Accept, Dispatch, Receive, Transfer, Persist}
use Rattle.script_grammar.specs.Grammar.{is_scheduled}
use Rattle.byte_text.specs.Hex.{hex_text}
use Rattle.script_words.specs.laws.Texts.{lines_text}

-- ---- the words of each line

abbrev pub form_words : Form → List (List ℕ)
form_words (Device blocks) = codes "device" ∷ decimal blocks ∷ []
form_words (Blocks blocks) = codes "blocks" ∷ decimal blocks ∷ []

abbrev pub depth_lines : Script → List (List (List ℕ))
depth_lines s = (codes "depth" ∷ decimal s.header.depth ∷ []) ∷ []

abbrev pub queue_lines : Script → List (List (List ℕ))
queue_lines s = if is_scheduled s.kind then (codes "queue" ∷ decimal s.header.queue ∷ []) ∷ [] else []

-- the line of a header word, where it has a number
abbrev pub number_lines : List ℕ → Option ℕ → List (List (List ℕ))
number_lines w None = []
number_lines w (Some n) = (w ∷ decimal n ∷ []) ∷ []

abbrev pub fail_lines : Option ℕ → List (List (List ℕ))
fail_lines fail = number_lines (codes "fail") fail

abbrev pub cut_lines : Option ℕ → List (List (List ℕ))
cut_lines cut = number_lines (codes "cut") cut

abbrev pub flash_lines : Option ℕ → List (List (List ℕ))
flash_lines flash = number_lines (codes "flash") flash

abbrev pub elevator_lines : Bool → List (List (List ℕ))
elevator_lines elevator = if elevator then (codes "elevator" ∷ []) ∷ [] else []

abbrev pub class_text : Bool → Bool → List ℕ
class_text ordered true = codes "barrier"
class_text true false = codes "ordered"
class_text false false = codes "free"

-- the byte that a body begins with
abbrev pub body_byte : List ℕ → ℕ
body_byte body = option_map_or (λ b. b) (slice_get body 0) 0

abbrev pub kind_words : Kind → Bool → Bool → List (List ℕ)
kind_words (Put block body) ordered barrier = codes "put" ∷ decimal block ∷ hex_text (body_byte body) ∷ class_text ordered barrier ∷ []
kind_words Flush ordered barrier = codes "flush" ∷ []

abbrev pub request_words : Request → List (List ℕ)
request_words q = kind_words q.kind q.ordered q.barrier

abbrev pub event_words : CoreEvent → List (List ℕ)
event_words Submit = codes "submit" ∷ []
event_words Accept = codes "accept" ∷ []
event_words (Dispatch pick) = codes "dispatch" ∷ decimal pick ∷ []
event_words Receive = codes "receive" ∷ []
event_words (Transfer pick) = codes "transfer" ∷ decimal pick ∷ []
event_words (Persist pick) = codes "persist" ∷ decimal pick ∷ []

abbrev pub what_words : EventWord → List (List ℕ)
what_words (One event) = event_words event

-- every event line with its count
abbrev pub event_line_words : EventLine → List (List ℕ)
event_line_words l = what_words l.what ++ codes "x" ∷ decimal l.count ∷ []

-- ---- the text

-- the lines of a script, each as its words
abbrev pub script_lines : Script → List (List (List ℕ))
script_lines s =
    form_words s.kind ∷ depth_lines s ++ queue_lines s ++ fail_lines s.header.fail ++ cut_lines s.header.cut ++ flash_lines s.header.flash
    ++ elevator_lines s.header.elevator ++ map request_words s.puts ++ (codes "events" ∷ []) ∷ map event_line_words s.events

abbrev pub script_text : Script → List ℕ
script_text s = lines_text (script_lines s)
