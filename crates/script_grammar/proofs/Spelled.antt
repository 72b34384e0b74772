-- What is written of a well-formed script is read back as that script.
use Rattle.std.proofs.lemmas.Bool.{false≢true}
use Rattle.std.proofs.Common.{◌≡◌, ℕ, suc, ◌+◌, ◌≤◌, Bool, true, false, List, [], ◌∷◌, ◌++◌, length, map, codes, decimal, Option, Some, None, Ok, unwrap_or, refl, sym, ap, ◌∙◌, subst, inl, inr, arith, append_assoc, append-nil, length-append, if◌then◌else◌, slice_get}
use Rattle.std.specs.List.{join_with_byte}
use Rattle.blk_base.specs.Members.{In}
use Rattle.order_model.specs.declared.request.Request.{Request}
use Rattle.script_words.specs.declared.limits.TheConstants.{MOST_EVENTS, MOST_REPEATS}
use Rattle.script_grammar.specs.declared.limits.TheConstants.{DEFAULT_QUEUE, FEWEST_SEGMENTS, MOST_BLOCKS, MOST_QUEUE, MOST_REQUESTS, MOST_SEGMENTS, MOST_STEPS, MOST_TRANSFERS}
use Rattle.script_grammar.specs.declared.reading.Reading.{Reading}
use Rattle.script_grammar.specs.declared.reading.Section.{Section}
use Rattle.script_grammar.specs.declared.reading.Section.TheVariants as sections
use Rattle.script_grammar.specs.declared.script.Script.{Script}
use Rattle.script_grammar.specs.declared.script.Form.{Form}
use Rattle.script_grammar.specs.declared.script.Form.TheVariants.{Device, Blocks}
use Rattle.script_grammar.specs.declared.script.EventLine.{EventLine}
use Rattle.script_grammar.specs.declared.script.EventWord.{EventWord}
use Rattle.script_grammar.specs.declared.script.EventWord.TheVariants.{One}
use Rattle.script_grammar.specs.Grammar.{is_scheduled, form_blocks, new_reading, with_request, read_one, read_from, ended, ended_in, script_read, script_of, IsRequestOf}
use Rattle.script_grammar.specs.WellFormed.{IsWordOf, IsEventLineOf, IsFilled, IsWellFormed, expanded_of}
use Rattle.script_grammar.specs.laws.Speller.{form_words, queue_lines, fail_lines, cut_lines, flash_lines, elevator_lines, request_words, what_words, event_line_words, script_lines, script_text}
use Rattle.script_words.specs.laws.Texts.{lines_text}
use Rattle.script_words.proofs.LineByLine.{read_none}
use Rattle.script_words.proofs.SpelledWords.{AreClearLines, lines_of-text}
use Rattle.script_grammar.proofs.SpelledLines.{IsRead, EndsIn, EndsIn-line, at_header, before_events, IsRead-form, IsRead-depth, IsRead-queue, IsRead-fail, IsRead-cut, IsRead-flash, IsRead-elevator, IsRead-request, IsRead-events, IsRead-event}

-- the lines, each as its words, are read to this script behind what was read
record IsSpelling (reading : Option Reading) (ls : List (List (List ℕ))) (s : Script) : Type 0 where
  clear : AreClearLines ls
  ends : EndsIn reading (map (join_with_byte 32) ls) s

IsSpelling-line : (reading : Option Reading) (ws : List (List ℕ)) (next : Reading) (ls : List (List (List ℕ))) (s : Script) → IsRead reading ws next → IsSpelling (Some next) ls s → IsSpelling reading (ws ∷ ls) s
IsSpelling-line reading ws next ls s is rest = record {
  clear = (is.clear, rest.clear);
  ends = EndsIn-line reading ws next (map (join_with_byte 32) ls) s is rest.ends;
}

-- no line more
EndsIn-none : (r : Reading) → r.section ≡ sections.Events → EndsIn (Some r) [] (script_read r)
EndsIn-none r here n = read_none read_one ended n (Some r) ∙ ap (ended_in n r) here

-- ---- event lines

-- what is read after an event line
abbrev pub with_line : Reading → EventLine → Reading
with_line r l = record r { events = r.events ++ l ∷ []; expanded = r.expanded + l.count }

abbrev event_line : EventWord → ℕ → EventLine
event_line what count = record { what = what; count = count }

IsRead-what : (r : Reading) (what : EventWord) (count : ℕ) → r.section ≡ sections.Events → IsWordOf (is_scheduled r.form) what → 1 ≤ count → count ≤ MOST_REPEATS → r.expanded + count ≤ MOST_EVENTS → IsRead (Some r) (what_words what ++ codes "x" ∷ decimal count ∷ []) (with_line r (event_line what count))
IsRead-what r (One e) count here is some most all = IsRead-event r e count here is some most all

pub IsRead-event_line : (r : Reading) (l : EventLine) → r.section ≡ sections.Events → IsEventLineOf (is_scheduled r.form) l → r.expanded + l.count ≤ MOST_EVENTS → IsRead (Some r) (event_line_words l) (with_line r l)
IsRead-event_line r l here is all = IsRead-what r l.what l.count here is.event is.some is.most all

abbrev pub with_lines : Reading → List EventLine → Reading
with_lines r ls = record r { events = ls }

IsSpelling-events : (ls : List EventLine) (r : Reading) → r.section ≡ sections.Events → ((l : EventLine) → In l ls → IsEventLineOf (is_scheduled r.form) l) → r.expanded + expanded_of ls ≤ MOST_EVENTS → IsSpelling (Some r) (map event_line_words ls) (script_read (with_lines r (r.events ++ ls)))
IsSpelling-events [] r here are all =
    subst (λ ls. IsSpelling (Some r) [] (script_read (with_lines r ls))) (sym (append-nil r.events)) (record { clear = tt; ends = EndsIn-none r here })
IsSpelling-events (l ∷ ls) r here are all =
    let read = IsRead-event_line r l here (are l (inl refl)) (omega arith) in
    let rest = IsSpelling-events ls (with_line r l) here (λ m i. are m (inr i)) (omega arith) in
    let same = append_assoc r.events (l ∷ []) ls in
    IsSpelling-line (Some r) (event_line_words l) (with_line r l) (map event_line_words ls) (script_read (with_lines r (r.events ++ l ∷ ls))) read
    (subst (λ es. IsSpelling (Some (with_line r l)) (map event_line_words ls) (script_read (with_lines r es))) same rest)

-- ---- requests

-- what is read after the requests
abbrev pub with_requests : Reading → Section → List Request → Reading
with_requests r section qs = record r { section = section; puts = qs }

IsSpelling-requests : (qs : List Request) (r : Reading) (ls : List (List (List ℕ))) (s : Script) → before_events r.section ≡ true → form_blocks r.form ≤ MOST_BLOCKS → length r.puts + length qs ≤ MOST_REQUESTS → ((i : ℕ) (q : Request) → slice_get qs i ≡ Some q → IsRequestOf (form_blocks r.form) (length r.puts + i) q) → ((q : Request) → In q qs → IsFilled q) → ((section : Section) → before_events section ≡ true → IsSpelling (Some (with_requests r section (r.puts ++ qs))) ls s) → IsSpelling (Some r) (map request_words qs ++ ls) s
IsSpelling-requests [] r ls s here blocks few are full rest =
    subst (λ qs. IsSpelling (Some (with_requests r r.section qs)) ls s) (append-nil r.puts) (rest r.section here)
IsSpelling-requests (q ∷ qs) r ls s here blocks few are full rest =
    let place : length r.puts + 0 ≡ length r.puts = omega arith in
    let is = subst (λ i. IsRequestOf (form_blocks r.form) i q) place (are 0 q refl) in
    let read = IsRead-request r q here blocks (omega arith) is (full q (inl refl)) in
    IsSpelling-line (Some r) (request_words q) (with_request r q) (map request_words qs ++ ls) s read
    (IsSpelling-requests qs (with_request r q) ls s refl blocks (omega (arith, length-append r.puts (q ∷ [])))
    (λ i p e.
    let later : length r.puts + suc i ≡ length (r.puts ++ q ∷ []) + i = omega (arith, length-append r.puts (q ∷ [])) in
    subst (λ j. IsRequestOf (form_blocks r.form) j p) later (are (suc i) p e))
    (λ p i. full p (inr i))
    (λ section h. subst (λ ps. IsSpelling (Some (with_requests r section ps)) ls s) (sym (append_assoc r.puts (q ∷ []) qs)) (rest section h)))

-- ---- the header

-- a script of the device alone has no line of the queues
IsSpelling-queue : (form : Form) (depth : Option ℕ) (q : ℕ) (ls : List (List (List ℕ))) (s : Script) → 1 ≤ q → q ≤ MOST_QUEUE → (is_scheduled form ≡ false → q ≡ DEFAULT_QUEUE) → ((queue : Option ℕ) → unwrap_or queue DEFAULT_QUEUE ≡ q → IsSpelling (Some (at_header form depth queue None None None false)) ls s) → IsSpelling (Some (at_header form depth None None None None false)) ((if is_scheduled form then (codes "queue" ∷ decimal q ∷ []) ∷ [] else []) ++ ls) s
IsSpelling-queue (Device n) depth q ls s some few plain rest = rest None (sym (plain refl))
IsSpelling-queue (Blocks n) depth q ls s some few plain rest =
    IsSpelling-line (Some (at_header (Blocks n) depth None None None None false)) (codes "queue" ∷ decimal q ∷ []) (at_header (Blocks n) depth (Some q) None None None false) ls s (IsRead-queue (Blocks n) depth None None None false q refl some few) (rest (Some q) refl)

IsSpelling-fail : (form : Form) (depth queue fail : Option ℕ) (ls : List (List (List ℕ))) (s : Script) → ((n : ℕ) → fail ≡ Some n → (1 ≤ n) × (n ≤ MOST_TRANSFERS)) → IsSpelling (Some (at_header form depth queue fail None None false)) ls s → IsSpelling (Some (at_header form depth queue None None None false)) (fail_lines fail ++ ls) s
IsSpelling-fail form depth queue None ls s within rest = rest
IsSpelling-fail form depth queue (Some n) ls s within rest =
    let t = within n refl in
    IsSpelling-line (Some (at_header form depth queue None None None false)) (codes "fail" ∷ decimal n ∷ []) (at_header form depth queue (Some n) None None false) ls s (IsRead-fail form depth queue None None false n t.0 t.1) rest

IsSpelling-cut : (form : Form) (depth queue fail cut : Option ℕ) (ls : List (List (List ℕ))) (s : Script) → ((n : ℕ) → cut ≡ Some n → n ≤ MOST_STEPS) → IsSpelling (Some (at_header form depth queue fail cut None false)) ls s → IsSpelling (Some (at_header form depth queue fail None None false)) (cut_lines cut ++ ls) s
IsSpelling-cut form depth queue fail None ls s few rest = rest
IsSpelling-cut form depth queue fail (Some n) ls s few rest =
    IsSpelling-line (Some (at_header form depth queue fail None None false)) (codes "cut" ∷ decimal n ∷ []) (at_header form depth queue fail (Some n) None false) ls s (IsRead-cut form depth queue fail None false n (few n refl)) rest

IsSpelling-flash : (form : Form) (depth queue fail cut flash : Option ℕ) (ls : List (List (List ℕ))) (s : Script) → ((n : ℕ) → flash ≡ Some n → (FEWEST_SEGMENTS ≤ n) × (n ≤ MOST_SEGMENTS)) → IsSpelling (Some (at_header form depth queue fail cut flash false)) ls s → IsSpelling (Some (at_header form depth queue fail cut None false)) (flash_lines flash ++ ls) s
IsSpelling-flash form depth queue fail cut None ls s within rest = rest
IsSpelling-flash form depth queue fail cut (Some n) ls s within rest =
    let t = within n refl in
    IsSpelling-line (Some (at_header form depth queue fail cut None false)) (codes "flash" ∷ decimal n ∷ []) (at_header form depth queue fail cut (Some n) false) ls s (IsRead-flash form depth queue fail cut false n t.0 t.1) rest

-- nor one of the elevator
IsSpelling-elevator : (form : Form) (depth queue fail cut flash : Option ℕ) (elevator : Bool) (ls : List (List (List ℕ))) (s : Script) → (is_scheduled form ≡ false → elevator ≡ false) → IsSpelling (Some (at_header form depth queue fail cut flash elevator)) ls s → IsSpelling (Some (at_header form depth queue fail cut flash false)) (elevator_lines elevator ++ ls) s
IsSpelling-elevator form depth queue fail cut flash false ls s plain rest = rest
IsSpelling-elevator (Blocks n) depth queue fail cut flash true ls s plain rest =
    IsSpelling-line (Some (at_header (Blocks n) depth queue fail cut flash false)) (codes "elevator" ∷ []) (at_header (Blocks n) depth queue fail cut flash true) ls s (IsRead-elevator (Blocks n) depth queue fail cut flash refl) rest
IsSpelling-elevator (Device n) depth queue fail cut flash true ls s plain rest = absurd (false≢true (sym (plain refl)))

-- ---- the whole script

-- the script with this length of queues
abbrev with_queue : Script → ℕ → Script
with_queue s q = record { kind = s.kind; header = record { depth = s.header.depth; queue = q; fail = s.header.fail; cut = s.header.cut; elevator = s.header.elevator; flash = s.header.flash }; puts = s.puts; events = s.events }

-- the lines behind the header
IsSpelling-body : (s : Script) (queue : Option ℕ) → IsWellFormed s → unwrap_or queue DEFAULT_QUEUE ≡ s.header.queue → IsSpelling (Some (at_header s.kind (Some s.header.depth) queue s.header.fail s.header.cut s.header.flash s.header.elevator)) (map request_words s.puts ++ ((codes "events" ∷ []) ∷ map event_line_words s.events)) s
IsSpelling-body s queue well same =
    let r = at_header s.kind (Some s.header.depth) queue s.header.fail s.header.cut s.header.flash s.header.elevator in
    IsSpelling-requests s.puts r ((codes "events" ∷ []) ∷ map event_line_words s.events) s refl well.runnable.few_blocks (omega (arith, well.runnable.few))
    (λ i q e. let place : i ≡ 0 + i = omega arith in subst (λ j. IsRequestOf (form_blocks s.kind) j q) place (well.runnable.requests i q e))
    well.filled
    (λ section h.
    let t = with_requests r section s.puts in
    let u = with_requests r sections.Events s.puts in
    IsSpelling-line (Some t) (codes "events" ∷ []) u (map event_line_words s.events) s (IsRead-events t h)
    (subst (λ q. IsSpelling (Some u) (map event_line_words s.events) (with_queue s q)) same (IsSpelling-events s.events u refl well.events (omega (arith, well.expanded)))))

-- the lines in their order
lines_in_order : (s : Script) → script_lines s ≡ form_words s.kind ∷ (codes "depth" ∷ decimal s.header.depth ∷ []) ∷ (queue_lines s ++ (fail_lines s.header.fail ++ (cut_lines s.header.cut ++ (flash_lines s.header.flash ++ (elevator_lines s.header.elevator ++ (map request_words s.puts ++ ((codes "events" ∷ []) ∷ map event_line_words s.events)))))))
lines_in_order s =
    let queue = queue_lines s in
    let fail = fail_lines s.header.fail in
    let cut = cut_lines s.header.cut in
    let flash = flash_lines s.header.flash in
    let elevator = elevator_lines s.header.elevator in
    let requests = map request_words s.puts in
    let events = (codes "events" ∷ []) ∷ map event_line_words s.events in
    ap (λ ls. form_words s.kind ∷ (codes "depth" ∷ decimal s.header.depth ∷ []) ∷ ls) (append_assoc (queue ++ fail ++ cut ++ flash ++ elevator) requests events ∙ append_assoc (queue ++ fail ++ cut ++ flash) elevator (requests ++ events) ∙ append_assoc (queue ++ fail ++ cut) flash (elevator ++ (requests ++ events)) ∙ append_assoc (queue ++ fail) cut (flash ++ (elevator ++ (requests ++ events))) ∙ append_assoc queue fail (cut ++ (flash ++ (elevator ++ (requests ++ events)))))

IsSpelling-lines : (s : Script) → IsWellFormed s → IsSpelling None (form_words s.kind ∷ (codes "depth" ∷ decimal s.header.depth ∷ []) ∷ (queue_lines s ++ (fail_lines s.header.fail ++ (cut_lines s.header.cut ++ (flash_lines s.header.flash ++ (elevator_lines s.header.elevator ++ (map request_words s.puts ++ ((codes "events" ∷ []) ∷ map event_line_words s.events)))))))) s
IsSpelling-lines s well =
    let events = (codes "events" ∷ []) ∷ map event_line_words s.events in
    let body = map request_words s.puts ++ events in
    let elevator = elevator_lines s.header.elevator ++ body in
    let flash = flash_lines s.header.flash ++ elevator in
    let cut = cut_lines s.header.cut ++ flash in
    let fail = fail_lines s.header.fail ++ cut in
    let depth = Some s.header.depth in
    let run = well.runnable in
    IsSpelling-line None (form_words s.kind) (new_reading s.kind) ((codes "depth" ∷ decimal s.header.depth ∷ []) ∷ (queue_lines s ++ fail)) s (IsRead-form s.kind run.some_blocks run.few_blocks)
    (IsSpelling-line (Some (at_header s.kind None None None None None false)) (codes "depth" ∷ decimal s.header.depth ∷ []) (at_header s.kind depth None None None None false) (queue_lines s ++ fail) s (IsRead-depth s.kind None None None None false s.header.depth run.some_depth run.depth)
    (IsSpelling-queue s.kind depth s.header.queue fail s run.some_queue run.queue well.plain_queue
    (λ queue same. IsSpelling-fail s.kind depth queue s.header.fail cut s well.fail (IsSpelling-cut s.kind depth queue s.header.fail s.header.cut flash s well.cut (IsSpelling-flash s.kind depth queue s.header.fail s.header.cut s.header.flash elevator s run.flash (IsSpelling-elevator s.kind depth queue s.header.fail s.header.cut s.header.flash s.header.elevator body s well.no_elevator (IsSpelling-body s queue well same)))))))

script_of-lines : (l : List (List ℕ)) (ls : List (List (List ℕ))) (s : Script) → IsSpelling None (l ∷ ls) s → script_of (lines_text (l ∷ ls)) ≡ Ok s
script_of-lines l ls s is = ap (read_from 1 None) (lines_of-text l ls is.clear) ∙ is.ends 1

-- the law: a well-formed script is read back
pub script_of-script_text : (s : Script) → IsWellFormed s → script_of (script_text s) ≡ Ok s
script_of-script_text s well =
    ap (λ ls. script_of (lines_text ls)) (lines_in_order s) ∙ script_of-lines _ _ s (IsSpelling-lines s well)
