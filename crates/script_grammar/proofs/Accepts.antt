-- Lines that say a well-formed script are read as that script.
use Rattle.std.proofs.Common.{◌≡◌, ℕ, suc, ◌+◌, ◌^◌, ◌<◌, ◌≤◌, Bool, true, false, not, ◌||◌, List, [], ◌∷◌, ◌++◌, length, codes, decimal, map, Option, Some, None, Ok, nat_lt, unwrap_or, refl, sym, ap, ap₂, ◌∙◌, subst, inl, inr, arith, append_assoc, append-nil, length-append, lit≤, lit<, if◌then◌else◌, slice_get, ◌⊎◌}
use Rattle.std.specs.Option.{option_and_then, option_map}
use Rattle.std.proofs.lemmas.Bool.{and_from, or_left, or_right, or_cases, lt-ltb}
use Rattle.std.proofs.lemmas.Fmt.{decimal_injective}
use Rattle.std.proofs.lemmas.Option.{same_Some, none-some}
use Rattle.blk_base.specs.Members.{In}
use Rattle.order_model.specs.declared.request.Request.{Request}
use Rattle.script_words.specs.declared.limits.TheConstants.{MOST_EVENTS, PLACES}
use Rattle.script_grammar.specs.declared.limits.TheConstants.{DEFAULT_DEPTH, DEFAULT_QUEUE, FEWEST_SEGMENTS, MOST_BLOCKS, MOST_DEPTH, MOST_QUEUE, MOST_REQUESTS, MOST_SEGMENTS, MOST_STEPS, MOST_TRANSFERS}
use Rattle.script_grammar.specs.declared.reading.Reading.{Reading}
use Rattle.script_grammar.specs.declared.reading.Section.{Section}
use Rattle.script_grammar.specs.declared.reading.Section.TheVariants as sections
use Rattle.script_grammar.specs.declared.script.Script.{Script}
use Rattle.script_grammar.specs.declared.script.Form.{Form}
use Rattle.script_grammar.specs.declared.script.EventLine.{EventLine}
use Rattle.script_grammar.specs.declared.script.EventWord.{EventWord}
use Rattle.script_grammar.specs.declared.script.EventWord.TheVariants.{One}
use Rattle.script_grammar.specs.declared.script.CoreEvent.{CoreEvent}
use Rattle.script_grammar.specs.declared.script.CoreEvent.TheVariants.{Submit, Accept, Dispatch, Receive, Transfer, Persist}
use Rattle.script_grammar.specs.declared.words.PlainWord.{PlainWord}
use Rattle.script_grammar.specs.declared.words.PlainWord.TheVariants as plain
use Rattle.script_grammar.specs.declared.words.PickWord.{PickWord}
use Rattle.script_grammar.specs.declared.words.PickWord.TheVariants as picks
use Rattle.script_grammar.specs.declared.words.Word.TheVariants as word
use Rattle.script_grammar.specs.declared.words.Line.TheVariants as line
use Rattle.script_words.specs.Spelling.{lines_of, count_of}
use Rattle.script_grammar.specs.Grammar.{form_blocks, is_scheduled, needs_scheduler, count_fits, with_request, with_events, plain_event, pick_event, new_reading, read_words, read_one, ended, ended_in, script_read, script_of, IsRequestOf}
use Rattle.script_grammar.specs.WellFormed.{IsEventOf, IsEventLineOf, IsFilled, IsWellFormed, expanded_of}
use Rattle.script_grammar.specs.laws.Speller.{form_words, number_lines, elevator_lines, request_words, event_words, what_words, event_line_words}
use Rattle.script_words.specs.laws.Texts.{kept_lines}
use Rattle.script_words.proofs.KeptLines as text
use Rattle.script_words.proofs.KeptLines.{ends_reads}
use Rattle.script_grammar.specs.laws.Accepted.{begins, beginning, or_default, default_depth, filled_queue, SaysScript}
use Rattle.script_words.specs.laws.Counts.{with_count}
use Rattle.script_words.proofs.Counts.{one_text, shape_one, shape_two}
use Rattle.script_words.proofs.SpelledNumbers.{numeral-decimal}
use Rattle.script_grammar.proofs.SpelledLines.{IsRead, at_header, before_events, later_line-read, may_stand-event, count_fits-from, IsRead-form, IsRead-depth, IsRead-queue, IsRead-fail, IsRead-cut, IsRead-flash, IsRead-elevator, IsRead-request, IsRead-events}
use Rattle.script_grammar.proofs.Spelled.{with_line, with_lines, with_requests, IsRead-event_line}
use Rattle.script_grammar.proofs.SaidWords.{default_text, line_with}
use Rattle.script_grammar.proofs.Said.{is_header_line, depth_line, queue_line, elevator_line}

-- ---- lines, each as its words

-- they are read one after the other, and end as the script
abbrev ReadsTo : Option Reading → List (List (List ℕ)) → Script → Type 0
ReadsTo reading ls s = text.ReadsTo (λ reading ws next. read_words reading ws ≡ Ok next) ended reading ls s

ReadsTo-line : (reading : Option Reading) (ws : List (List ℕ)) (next : Reading) (ls : List (List (List ℕ))) (s : Script) → IsRead reading ws next → ReadsTo (Some next) ls s → ReadsTo reading (ws ∷ ls) s
ReadsTo-line reading ws next ls s is rest = (next, is.read, rest)

-- ---- event lines

shape : (l : List (List ℕ)) (e : CoreEvent) (n : List ℕ) → with_count l ≡ event_words e ++ codes "x" ∷ n ∷ [] → (l ≡ event_words e ++ codes "x" ∷ n ∷ []) ⊎ ((l ≡ event_words e) × (n ≡ codes "1"))
shape l Submit n h = shape_one l (codes "submit") n h
shape l Accept n h = shape_one l (codes "accept") n h
shape l (Dispatch pick) n h = shape_two l (codes "dispatch") (decimal pick) n h
shape l Receive n h = shape_one l (codes "receive") n h
shape l (Transfer pick) n h = shape_two l (codes "transfer") (decimal pick) n h
shape l (Persist pick) n h = shape_two l (codes "persist") (decimal pick) n h

-- an event without its count is done once
once_plain : (r : Reading) (w : PlainWord) → r.section ≡ sections.Events → (is_scheduled r.form || not (needs_scheduler (word.Plain w))) ≡ true → r.expanded + 1 ≤ MOST_EVENTS → read_words (Some r) (event_words (plain_event w)) ≡ Ok (with_events r (plain_event w) 1)
once_plain r plain.Submit here known all =
    later_line-read r (word.Plain plain.Submit) [] (line.Plain plain.Submit 1) (may_stand-event r (word.Plain plain.Submit) here refl known) refl refl (count_fits-from r 1 (lit≤ tt) (lit≤ tt) all)
once_plain r plain.Accept here known all =
    later_line-read r (word.Plain plain.Accept) [] (line.Plain plain.Accept 1) (may_stand-event r (word.Plain plain.Accept) here refl known) refl refl (count_fits-from r 1 (lit≤ tt) (lit≤ tt) all)
once_plain r plain.Receive here known all =
    later_line-read r (word.Plain plain.Receive) [] (line.Plain plain.Receive 1) (may_stand-event r (word.Plain plain.Receive) here refl known) refl refl (count_fits-from r 1 (lit≤ tt) (lit≤ tt) all)

once_pick : (r : Reading) (w : PickWord) (pick : ℕ) → r.section ≡ sections.Events → (is_scheduled r.form || not (needs_scheduler (word.Pick w))) ≡ true → pick < PLACES → r.expanded + 1 ≤ MOST_EVENTS → read_words (Some r) (event_words (pick_event w pick)) ≡ Ok (with_events r (pick_event w pick) 1)
once_pick r picks.Dispatch pick here known low all =
    later_line-read r (word.Pick picks.Dispatch) (decimal pick ∷ []) (line.Pick picks.Dispatch pick 1) (may_stand-event r (word.Pick picks.Dispatch) here refl known) refl
    (ap (λ o. option_and_then (λ n. option_map (line.Pick picks.Dispatch n) (count_of [])) o) (numeral-decimal pick (omega arith)))
    (and_from (nat_lt pick PLACES) (count_fits r 1) (lt-ltb pick PLACES low) (count_fits-from r 1 (lit≤ tt) (lit≤ tt) all))
once_pick r picks.Transfer pick here known low all =
    later_line-read r (word.Pick picks.Transfer) (decimal pick ∷ []) (line.Pick picks.Transfer pick 1) (may_stand-event r (word.Pick picks.Transfer) here refl known) refl
    (ap (λ o. option_and_then (λ n. option_map (line.Pick picks.Transfer n) (count_of [])) o) (numeral-decimal pick (omega arith)))
    (and_from (nat_lt pick PLACES) (count_fits r 1) (lt-ltb pick PLACES low) (count_fits-from r 1 (lit≤ tt) (lit≤ tt) all))
once_pick r picks.Persist pick here known low all =
    later_line-read r (word.Pick picks.Persist) (decimal pick ∷ []) (line.Pick picks.Persist pick 1) (may_stand-event r (word.Pick picks.Persist) here refl known) refl
    (ap (λ o. option_and_then (λ n. option_map (line.Pick picks.Persist n) (count_of [])) o) (numeral-decimal pick (omega arith)))
    (and_from (nat_lt pick PLACES) (count_fits r 1) (lt-ltb pick PLACES low) (count_fits-from r 1 (lit≤ tt) (lit≤ tt) all))

once : (r : Reading) (e : CoreEvent) → r.section ≡ sections.Events → IsEventOf (is_scheduled r.form) e → r.expanded + 1 ≤ MOST_EVENTS → read_words (Some r) (event_words e) ≡ Ok (with_events r e 1)
once r Submit here is all = once_plain r plain.Submit here (or_left (is_scheduled r.form) false is) all
once r Accept here is all = once_plain r plain.Accept here (or_left (is_scheduled r.form) false is) all
once r (Dispatch pick) here is all = once_pick r picks.Dispatch pick here (or_left (is_scheduled r.form) false is.0) is.1 all
once r Receive here is all = once_plain r plain.Receive here (or_right (is_scheduled r.form) true refl) all
once r (Transfer pick) here is all = once_pick r picks.Transfer pick here (or_right (is_scheduled r.form) true refl) is all
once r (Persist pick) here is all = once_pick r picks.Persist pick here (or_right (is_scheduled r.form) true refl) is all

one_count : (n : ℕ) → n < 2 ^ 64 → decimal n ≡ codes "1" → n ≡ 1
one_count n lt h = decimal_injective n 1 lt (lit< tt) (h ∙ one_text)

event_read : (r : Reading) (l : List (List ℕ)) (what : EventWord) (n : ℕ) → r.section ≡ sections.Events → IsEventLineOf (is_scheduled r.form) (record { what = what; count = n }) → r.expanded + n ≤ MOST_EVENTS
    → with_count l ≡ what_words what ++ codes "x" ∷ decimal n ∷ [] → read_words (Some r) l ≡ Ok (with_line r (record { what = what; count = n }))
event_read r l (One e) n here is all h =
    elim (shape l e (decimal n) h) [
      | inl same ↦ subst (λ ws. read_words (Some r) ws ≡ Ok (with_line r (line_with e n))) (sym same) (IsRead-event_line r (line_with e n) here is all).read
      | inr (same, digit) ↦
          let most = is.most in
          let one : n ≡ 1 = one_count n (omega (arith, most)) digit in
          subst (λ ws. read_words (Some r) ws ≡ Ok (with_line r (line_with e n))) (sym same)
          (subst (λ m. read_words (Some r) (event_words e) ≡ Ok (with_line r (line_with e m))) (sym one) (once r e here is.event (omega (arith, one))))
    ]

ended_here : (r : Reading) (n : ℕ) → r.section ≡ sections.Events → ended n (Some r) ≡ Ok (script_read r)
ended_here r n here = ap (ended_in n r) here

events_read : (ls : List (List (List ℕ))) (es : List EventLine) (r : Reading) → map with_count ls ≡ map event_line_words es → r.section ≡ sections.Events
    → ((l : EventLine) → In l es → IsEventLineOf (is_scheduled r.form) l) → r.expanded + expanded_of es ≤ MOST_EVENTS → ReadsTo (Some r) ls (script_read (with_lines r (r.events ++ es)))
events_read [] [] r h here are all = λ n. ended_here r n here ∙ ap (λ es. Ok (script_read (with_lines r es))) (sym (append-nil r.events))
events_read [] (e ∷ es) r h here are all = cc
events_read (l ∷ ls) [] r h here are all = cc
events_read (l ∷ ls) (e ∷ es) r h here are all =
    let first : with_count l ≡ event_line_words e = cc in
    let others : map with_count ls ≡ map event_line_words es = cc in
    let read = event_read r l e.what e.count here (are e (inl refl)) (omega arith) first in
    let rest = events_read ls es (with_line r e) others here (λ m i. are m (inr i)) (omega arith) in
    let same = append_assoc r.events (e ∷ []) es in
    (with_line r e, read, subst (λ xs. ReadsTo (Some (with_line r e)) ls (script_read (with_lines r xs))) same rest)

-- ---- requests

requests_read : (qs : List Request) (r : Reading) (ls : List (List (List ℕ))) (s : Script) → before_events r.section ≡ true → form_blocks r.form ≤ MOST_BLOCKS → length r.puts + length qs ≤ MOST_REQUESTS
    → ((i : ℕ) (q : Request) → slice_get qs i ≡ Some q → IsRequestOf (form_blocks r.form) (length r.puts + i) q) → ((q : Request) → In q qs → IsFilled q)
    → ((section : Section) → before_events section ≡ true → ReadsTo (Some (with_requests r section (r.puts ++ qs))) ls s) → ReadsTo (Some r) (map request_words qs ++ ls) s
requests_read [] r ls s here blocks few are full rest =
    subst (λ qs. ReadsTo (Some (with_requests r r.section qs)) ls s) (append-nil r.puts) (rest r.section here)
requests_read (q ∷ qs) r ls s here blocks few are full rest =
    let place : length r.puts + 0 ≡ length r.puts = omega arith in
    let is = subst (λ i. IsRequestOf (form_blocks r.form) i q) place (are 0 q refl) in
    let read = IsRead-request r q here blocks (omega arith) is (full q (inl refl)) in
    ReadsTo-line (Some r) (request_words q) (with_request r q) (map request_words qs ++ ls) s read
    (requests_read qs (with_request r q) ls s refl blocks (omega (arith, length-append r.puts (q ∷ [])))
    (λ i p e.
    let later : length r.puts + suc i ≡ length (r.puts ++ q ∷ []) + i = omega (arith, length-append r.puts (q ∷ [])) in
    subst (λ j. IsRequestOf (form_blocks r.form) j p) later (are (suc i) p e))
    (λ p i. full p (inr i))
    (λ section h. subst (λ ps. ReadsTo (Some (with_requests r section ps)) ls s) (sym (append_assoc r.puts (q ∷ []) qs)) (rest section h)))

-- ---- the header, in whatever order

abbrev queue_lines_of : Bool → ℕ → List (List (List ℕ))
queue_lines_of scheduled q = if scheduled then queue_line q ∷ [] else []

-- what is left of the header, and what was read of it, say these values
record IsLeft (scheduled : Bool) (d q : ℕ) (t c f depth queue fail cut flash : Option ℕ) (wants elevator : Bool) (ls : List (List (List ℕ))) : Type 0 where
  depths : or_default default_depth (number_lines (codes "depth") depth ++ beginning (codes "depth") ls) ≡ depth_line d ∷ []
  queues : filled_queue scheduled (number_lines (codes "queue") queue ++ beginning (codes "queue") ls) ≡ queue_lines_of scheduled q
  fails : number_lines (codes "fail") fail ++ beginning (codes "fail") ls ≡ number_lines (codes "fail") t
  cuts : number_lines (codes "cut") cut ++ beginning (codes "cut") ls ≡ number_lines (codes "cut") c
  flashes : number_lines (codes "flash") flash ++ beginning (codes "flash") ls ≡ number_lines (codes "flash") f
  elevators : elevator_lines elevator ++ beginning (codes "elevator") ls ≡ elevator_lines wants
  known : (l : List (List ℕ)) → In l ls → is_header_line l ≡ true
  depth_read : (n : ℕ) → depth ≡ Some n → n ≡ d
  queue_read : (n : ℕ) → queue ≡ Some n → n ≡ q
  fail_read : (n : ℕ) → fail ≡ Some n → t ≡ Some n
  cut_read : (n : ℕ) → cut ≡ Some n → c ≡ Some n
  flash_read : (n : ℕ) → flash ≡ Some n → f ≡ Some n

beginning-with : (w : List ℕ) (l : List (List ℕ)) (ls : List (List (List ℕ))) → begins w l ≡ true → beginning w (l ∷ ls) ≡ l ∷ beginning w ls
beginning-with w l ls e = rw e refl

depth_next : (o : Option ℕ) (l : List (List ℕ)) (ls : List (List (List ℕ))) (d : ℕ) → or_default default_depth (number_lines (codes "depth") o ++ l ∷ ls) ≡ depth_line d ∷ [] → (o ≡ None) × (l ≡ depth_line d) × (ls ≡ [])
depth_next None l ls d h = let first : l ≡ depth_line d = cc in let rest : ls ≡ [] = cc in (refl, first, rest)
depth_next (Some n) l ls d h = cc

queue_next : (scheduled : Bool) (o : Option ℕ) (l : List (List ℕ)) (ls : List (List (List ℕ))) (q : ℕ) → filled_queue scheduled (number_lines (codes "queue") o ++ l ∷ ls) ≡ queue_lines_of scheduled q → (scheduled ≡ true) × (o ≡ None) × (l ≡ queue_line q) × (ls ≡ [])
queue_next true None l ls q h = let first : l ≡ queue_line q = cc in let rest : ls ≡ [] = cc in (refl, refl, first, rest)
queue_next true (Some n) l ls q h = cc
queue_next false None l ls q h = cc
queue_next false (Some n) l ls q h = cc

-- a word with its number
abbrev number_line : List ℕ → ℕ → List (List ℕ)
number_line w n = w ∷ decimal n ∷ []

number_next : (w : List ℕ) (o c : Option ℕ) (l : List (List ℕ)) (ls : List (List (List ℕ))) → number_lines w o ++ l ∷ ls ≡ number_lines w c → (n : ℕ) × (o ≡ None) × (c ≡ Some n) × (l ≡ number_line w n) × (ls ≡ [])
number_next w None None l ls h = cc
number_next w None (Some n) l ls h = let first : l ≡ number_line w n = cc in let rest : ls ≡ [] = cc in (n, refl, refl, first, rest)
number_next w (Some m) None l ls h = cc
number_next w (Some m) (Some n) l ls h = cc

elevator_next : (o wants : Bool) (l : List (List ℕ)) (ls : List (List (List ℕ))) → elevator_lines o ++ l ∷ ls ≡ elevator_lines wants → (o ≡ false) × (wants ≡ true) × (l ≡ elevator_line) × (ls ≡ [])
elevator_next false true l ls h = let first : l ≡ elevator_line = cc in let rest : ls ≡ [] = cc in (refl, refl, first, rest)
elevator_next false false l ls h = cc
elevator_next true true l ls h = cc
elevator_next true false l ls h = cc

-- a line that is missing says the default
depth_default : (o : Option ℕ) (d : ℕ) → d ≤ MOST_DEPTH → or_default default_depth (number_lines (codes "depth") o ++ []) ≡ depth_line d ∷ [] → ((n : ℕ) → o ≡ Some n → n ≡ d) → unwrap_or o DEFAULT_DEPTH ≡ d
depth_default None d few h same =
    let word : codes "32" ≡ decimal d = cc in
    decimal_injective 32 d (lit< tt) (omega arith) (sym default_text ∙ word)
depth_default (Some n) d few h same = same n refl

queue_default : (scheduled : Bool) (o : Option ℕ) (q : ℕ) → q ≤ MOST_QUEUE → (scheduled ≡ false → q ≡ DEFAULT_QUEUE) → filled_queue scheduled (number_lines (codes "queue") o ++ []) ≡ queue_lines_of scheduled q → ((n : ℕ) → o ≡ Some n → n ≡ q) → unwrap_or o DEFAULT_QUEUE ≡ q
queue_default scheduled (Some n) q few plain h same = same n refl
queue_default true None q few plain h same =
    let word : codes "32" ≡ decimal q = cc in
    decimal_injective 32 q (lit< tt) (omega arith) (sym default_text ∙ word)
queue_default false None q few plain h same = sym (plain refl)

number_default : (w : List ℕ) (o c : Option ℕ) → number_lines w o ++ [] ≡ number_lines w c → ((n : ℕ) → o ≡ Some n → c ≡ Some n) → o ≡ c
number_default w None None h same = refl
number_default w None (Some n) h same = cc
number_default w (Some n) c h same = sym (same n refl)

elevator_default : (o wants : Bool) → elevator_lines o ++ [] ≡ elevator_lines wants → o ≡ wants
elevator_default false false h = refl
elevator_default false true h = cc
elevator_default true false h = cc
elevator_default true true h = refl

-- only a script with a scheduler wants the elevator
is_wanted : (scheduled wants : Bool) → (scheduled ≡ false → wants ≡ false) → wants ≡ true → scheduled ≡ true
is_wanted true wants plain h = refl
is_wanted false wants plain h = let none = plain refl in cc

-- the values of a header, within their limits
record AreFit (form : Form) (d q : ℕ) (t c f : Option ℕ) (wants : Bool) : Type 0 where
  some_depth : 1 ≤ d
  depth : d ≤ MOST_DEPTH
  some_queue : 1 ≤ q
  queue : q ≤ MOST_QUEUE
  plain : is_scheduled form ≡ false → q ≡ DEFAULT_QUEUE
  fail : (n : ℕ) → t ≡ Some n → (1 ≤ n) × (n ≤ MOST_TRANSFERS)
  cut : (n : ℕ) → c ≡ Some n → n ≤ MOST_STEPS
  flash : (n : ℕ) → f ≡ Some n → (FEWEST_SEGMENTS ≤ n) × (n ≤ MOST_SEGMENTS)
  elevator : is_scheduled form ≡ false → wants ≡ false

-- what comes behind the header, whatever of it was read
abbrev Behind : Form → ℕ → ℕ → Option ℕ → Option ℕ → Option ℕ → Bool → List (List (List ℕ)) → Script → Type 0
Behind form d q t c f wants rest s = (depth queue : Option ℕ) → unwrap_or depth DEFAULT_DEPTH ≡ d → unwrap_or queue DEFAULT_QUEUE ≡ q → ReadsTo (Some (at_header form depth queue t c f wants)) rest s

-- a header line of each kind, and the lines behind it
depth_left : (scheduled : Bool) (d q : ℕ) (t c f depth queue fail cut flash : Option ℕ) (wants elevator : Bool) (l : List (List ℕ)) (ls : List (List (List ℕ))) → begins (codes "depth") l ≡ true → IsLeft scheduled d q t c f depth queue fail cut flash wants elevator (l ∷ ls) → (depth ≡ None) × (l ≡ depth_line d) × IsLeft scheduled d q t c f (Some d) queue fail cut flash wants elevator ls
depth_left scheduled d q t c f depth queue fail cut flash wants elevator l ls e is =
    let found : or_default default_depth (number_lines (codes "depth") depth ++ l ∷ beginning (codes "depth") ls) ≡ depth_line d ∷ [] =
    ap (λ x. or_default default_depth (number_lines (codes "depth") depth ++ x)) (sym (beginning-with (codes "depth") l ls e)) ∙ is.depths in
    let next = depth_next depth l (beginning (codes "depth") ls) d found in
    let same : beginning (codes "queue") (l ∷ ls) ≡ beginning (codes "queue") ls = ap (λ x. beginning (codes "queue") (x ∷ ls)) next.1 in
    let fails : beginning (codes "fail") (l ∷ ls) ≡ beginning (codes "fail") ls = ap (λ x. beginning (codes "fail") (x ∷ ls)) next.1 in
    let cuts : beginning (codes "cut") (l ∷ ls) ≡ beginning (codes "cut") ls = ap (λ x. beginning (codes "cut") (x ∷ ls)) next.1 in
    let flashes : beginning (codes "flash") (l ∷ ls) ≡ beginning (codes "flash") ls = ap (λ x. beginning (codes "flash") (x ∷ ls)) next.1 in
    let lifts : beginning (codes "elevator") (l ∷ ls) ≡ beginning (codes "elevator") ls = ap (λ x. beginning (codes "elevator") (x ∷ ls)) next.1 in (
      next.0,
      next.1,
      record {
        depths = ap (λ x. depth_line d ∷ x) next.2;
        queues = ap (λ x. filled_queue scheduled (number_lines (codes "queue") queue ++ x)) (sym same) ∙ is.queues;
        fails = ap (λ x. number_lines (codes "fail") fail ++ x) (sym fails) ∙ is.fails;
        cuts = ap (λ x. number_lines (codes "cut") cut ++ x) (sym cuts) ∙ is.cuts;
        flashes = ap (λ x. number_lines (codes "flash") flash ++ x) (sym flashes) ∙ is.flashes;
        elevators = ap (λ x. elevator_lines elevator ++ x) (sym lifts) ∙ is.elevators;
        known = λ m i. is.known m (inr i);
        depth_read = λ n h. sym (same_Some d n h);
        queue_read = is.queue_read;
        fail_read = is.fail_read;
        cut_read = is.cut_read;
        flash_read = is.flash_read;
      },
    )

queue_left : (scheduled : Bool) (d q : ℕ) (t c f depth queue fail cut flash : Option ℕ) (wants elevator : Bool) (l : List (List ℕ)) (ls : List (List (List ℕ))) → begins (codes "queue") l ≡ true → IsLeft scheduled d q t c f depth queue fail cut flash wants elevator (l ∷ ls) → (scheduled ≡ true) × (queue ≡ None) × (l ≡ queue_line q) × IsLeft scheduled d q t c f depth (Some q) fail cut flash wants elevator ls
queue_left scheduled d q t c f depth queue fail cut flash wants elevator l ls e is =
    let found : filled_queue scheduled (number_lines (codes "queue") queue ++ l ∷ beginning (codes "queue") ls) ≡ queue_lines_of scheduled q =
    ap (λ x. filled_queue scheduled (number_lines (codes "queue") queue ++ x)) (sym (beginning-with (codes "queue") l ls e)) ∙ is.queues in
    let next = queue_next scheduled queue l (beginning (codes "queue") ls) q found in
    let depths : beginning (codes "depth") (l ∷ ls) ≡ beginning (codes "depth") ls = ap (λ x. beginning (codes "depth") (x ∷ ls)) next.2 in
    let fails : beginning (codes "fail") (l ∷ ls) ≡ beginning (codes "fail") ls = ap (λ x. beginning (codes "fail") (x ∷ ls)) next.2 in
    let cuts : beginning (codes "cut") (l ∷ ls) ≡ beginning (codes "cut") ls = ap (λ x. beginning (codes "cut") (x ∷ ls)) next.2 in
    let flashes : beginning (codes "flash") (l ∷ ls) ≡ beginning (codes "flash") ls = ap (λ x. beginning (codes "flash") (x ∷ ls)) next.2 in
    let lifts : beginning (codes "elevator") (l ∷ ls) ≡ beginning (codes "elevator") ls = ap (λ x. beginning (codes "elevator") (x ∷ ls)) next.2 in (
      next.0,
      next.1,
      next.2,
      record {
        depths = ap (λ x. or_default default_depth (number_lines (codes "depth") depth ++ x)) (sym depths) ∙ is.depths;
        queues =
            ap (λ x. filled_queue scheduled (queue_line q ∷ x)) next.3
            ∙ ap (λ b. filled_queue b (queue_line q ∷ [])) next.0
            ∙ sym (ap (λ b. queue_lines_of b q) next.0);
        fails = ap (λ x. number_lines (codes "fail") fail ++ x) (sym fails) ∙ is.fails;
        cuts = ap (λ x. number_lines (codes "cut") cut ++ x) (sym cuts) ∙ is.cuts;
        flashes = ap (λ x. number_lines (codes "flash") flash ++ x) (sym flashes) ∙ is.flashes;
        elevators = ap (λ x. elevator_lines elevator ++ x) (sym lifts) ∙ is.elevators;
        known = λ m i. is.known m (inr i);
        depth_read = is.depth_read;
        queue_read = λ n h. sym (same_Some q n h);
        fail_read = is.fail_read;
        cut_read = is.cut_read;
        flash_read = is.flash_read;
      },
    )

fail_left : (scheduled : Bool) (d q : ℕ) (t c f depth queue fail cut flash : Option ℕ) (wants elevator : Bool) (l : List (List ℕ)) (ls : List (List (List ℕ))) → begins (codes "fail") l ≡ true → IsLeft scheduled d q t c f depth queue fail cut flash wants elevator (l ∷ ls) → (n : ℕ) × (fail ≡ None) × (t ≡ Some n) × (l ≡ number_line (codes "fail") n) × IsLeft scheduled d q t c f depth queue (Some n) cut flash wants elevator ls
fail_left scheduled d q t c f depth queue fail cut flash wants elevator l ls e is =
    let found : number_lines (codes "fail") fail ++ l ∷ beginning (codes "fail") ls ≡ number_lines (codes "fail") t =
    ap (λ x. number_lines (codes "fail") fail ++ x) (sym (beginning-with (codes "fail") l ls e)) ∙ is.fails in
    let next = number_next (codes "fail") fail t l (beginning (codes "fail") ls) found in
    let n = next.0 in
    let depths : beginning (codes "depth") (l ∷ ls) ≡ beginning (codes "depth") ls = ap (λ x. beginning (codes "depth") (x ∷ ls)) next.3 in
    let queues : beginning (codes "queue") (l ∷ ls) ≡ beginning (codes "queue") ls = ap (λ x. beginning (codes "queue") (x ∷ ls)) next.3 in
    let cuts : beginning (codes "cut") (l ∷ ls) ≡ beginning (codes "cut") ls = ap (λ x. beginning (codes "cut") (x ∷ ls)) next.3 in
    let flashes : beginning (codes "flash") (l ∷ ls) ≡ beginning (codes "flash") ls = ap (λ x. beginning (codes "flash") (x ∷ ls)) next.3 in
    let lifts : beginning (codes "elevator") (l ∷ ls) ≡ beginning (codes "elevator") ls = ap (λ x. beginning (codes "elevator") (x ∷ ls)) next.3 in (
      n,
      next.1,
      next.2,
      next.3,
      record {
        depths = ap (λ x. or_default default_depth (number_lines (codes "depth") depth ++ x)) (sym depths) ∙ is.depths;
        queues = ap (λ x. filled_queue scheduled (number_lines (codes "queue") queue ++ x)) (sym queues) ∙ is.queues;
        fails = ap (λ x. number_line (codes "fail") n ∷ x) next.4 ∙ sym (ap (number_lines (codes "fail")) next.2);
        cuts = ap (λ x. number_lines (codes "cut") cut ++ x) (sym cuts) ∙ is.cuts;
        flashes = ap (λ x. number_lines (codes "flash") flash ++ x) (sym flashes) ∙ is.flashes;
        elevators = ap (λ x. elevator_lines elevator ++ x) (sym lifts) ∙ is.elevators;
        known = λ m i. is.known m (inr i);
        depth_read = is.depth_read;
        queue_read = is.queue_read;
        fail_read = λ m h. next.2 ∙ h;
        cut_read = is.cut_read;
        flash_read = is.flash_read;
      },
    )

cut_left : (scheduled : Bool) (d q : ℕ) (t c f depth queue fail cut flash : Option ℕ) (wants elevator : Bool) (l : List (List ℕ)) (ls : List (List (List ℕ))) → begins (codes "cut") l ≡ true → IsLeft scheduled d q t c f depth queue fail cut flash wants elevator (l ∷ ls) → (n : ℕ) × (cut ≡ None) × (c ≡ Some n) × (l ≡ number_line (codes "cut") n) × IsLeft scheduled d q t c f depth queue fail (Some n) flash wants elevator ls
cut_left scheduled d q t c f depth queue fail cut flash wants elevator l ls e is =
    let found : number_lines (codes "cut") cut ++ l ∷ beginning (codes "cut") ls ≡ number_lines (codes "cut") c =
    ap (λ x. number_lines (codes "cut") cut ++ x) (sym (beginning-with (codes "cut") l ls e)) ∙ is.cuts in
    let next = number_next (codes "cut") cut c l (beginning (codes "cut") ls) found in
    let n = next.0 in
    let depths : beginning (codes "depth") (l ∷ ls) ≡ beginning (codes "depth") ls = ap (λ x. beginning (codes "depth") (x ∷ ls)) next.3 in
    let queues : beginning (codes "queue") (l ∷ ls) ≡ beginning (codes "queue") ls = ap (λ x. beginning (codes "queue") (x ∷ ls)) next.3 in
    let fails : beginning (codes "fail") (l ∷ ls) ≡ beginning (codes "fail") ls = ap (λ x. beginning (codes "fail") (x ∷ ls)) next.3 in
    let flashes : beginning (codes "flash") (l ∷ ls) ≡ beginning (codes "flash") ls = ap (λ x. beginning (codes "flash") (x ∷ ls)) next.3 in
    let lifts : beginning (codes "elevator") (l ∷ ls) ≡ beginning (codes "elevator") ls = ap (λ x. beginning (codes "elevator") (x ∷ ls)) next.3 in (
      n,
      next.1,
      next.2,
      next.3,
      record {
        depths = ap (λ x. or_default default_depth (number_lines (codes "depth") depth ++ x)) (sym depths) ∙ is.depths;
        queues = ap (λ x. filled_queue scheduled (number_lines (codes "queue") queue ++ x)) (sym queues) ∙ is.queues;
        fails = ap (λ x. number_lines (codes "fail") fail ++ x) (sym fails) ∙ is.fails;
        cuts = ap (λ x. number_line (codes "cut") n ∷ x) next.4 ∙ sym (ap (number_lines (codes "cut")) next.2);
        flashes = ap (λ x. number_lines (codes "flash") flash ++ x) (sym flashes) ∙ is.flashes;
        elevators = ap (λ x. elevator_lines elevator ++ x) (sym lifts) ∙ is.elevators;
        known = λ m i. is.known m (inr i);
        depth_read = is.depth_read;
        queue_read = is.queue_read;
        fail_read = is.fail_read;
        cut_read = λ m h. next.2 ∙ h;
        flash_read = is.flash_read;
      },
    )

flash_left : (scheduled : Bool) (d q : ℕ) (t c f depth queue fail cut flash : Option ℕ) (wants elevator : Bool) (l : List (List ℕ)) (ls : List (List (List ℕ))) → begins (codes "flash") l ≡ true → IsLeft scheduled d q t c f depth queue fail cut flash wants elevator (l ∷ ls) → (n : ℕ) × (flash ≡ None) × (f ≡ Some n) × (l ≡ number_line (codes "flash") n) × IsLeft scheduled d q t c f depth queue fail cut (Some n) wants elevator ls
flash_left scheduled d q t c f depth queue fail cut flash wants elevator l ls e is =
    let found : number_lines (codes "flash") flash ++ l ∷ beginning (codes "flash") ls ≡ number_lines (codes "flash") f =
    ap (λ x. number_lines (codes "flash") flash ++ x) (sym (beginning-with (codes "flash") l ls e)) ∙ is.flashes in
    let next = number_next (codes "flash") flash f l (beginning (codes "flash") ls) found in
    let n = next.0 in
    let depths : beginning (codes "depth") (l ∷ ls) ≡ beginning (codes "depth") ls = ap (λ x. beginning (codes "depth") (x ∷ ls)) next.3 in
    let queues : beginning (codes "queue") (l ∷ ls) ≡ beginning (codes "queue") ls = ap (λ x. beginning (codes "queue") (x ∷ ls)) next.3 in
    let fails : beginning (codes "fail") (l ∷ ls) ≡ beginning (codes "fail") ls = ap (λ x. beginning (codes "fail") (x ∷ ls)) next.3 in
    let cuts : beginning (codes "cut") (l ∷ ls) ≡ beginning (codes "cut") ls = ap (λ x. beginning (codes "cut") (x ∷ ls)) next.3 in
    let lifts : beginning (codes "elevator") (l ∷ ls) ≡ beginning (codes "elevator") ls = ap (λ x. beginning (codes "elevator") (x ∷ ls)) next.3 in (
      n,
      next.1,
      next.2,
      next.3,
      record {
        depths = ap (λ x. or_default default_depth (number_lines (codes "depth") depth ++ x)) (sym depths) ∙ is.depths;
        queues = ap (λ x. filled_queue scheduled (number_lines (codes "queue") queue ++ x)) (sym queues) ∙ is.queues;
        fails = ap (λ x. number_lines (codes "fail") fail ++ x) (sym fails) ∙ is.fails;
        cuts = ap (λ x. number_lines (codes "cut") cut ++ x) (sym cuts) ∙ is.cuts;
        flashes = ap (λ x. number_line (codes "flash") n ∷ x) next.4 ∙ sym (ap (number_lines (codes "flash")) next.2);
        elevators = ap (λ x. elevator_lines elevator ++ x) (sym lifts) ∙ is.elevators;
        known = λ m i. is.known m (inr i);
        depth_read = is.depth_read;
        queue_read = is.queue_read;
        fail_read = is.fail_read;
        cut_read = is.cut_read;
        flash_read = λ m h. next.2 ∙ h;
      },
    )

elevator_left : (scheduled : Bool) (d q : ℕ) (t c f depth queue fail cut flash : Option ℕ) (wants elevator : Bool) (l : List (List ℕ)) (ls : List (List (List ℕ))) → begins (codes "elevator") l ≡ true → IsLeft scheduled d q t c f depth queue fail cut flash wants elevator (l ∷ ls) → (elevator ≡ false) × (wants ≡ true) × (l ≡ elevator_line) × IsLeft scheduled d q t c f depth queue fail cut flash wants true ls
elevator_left scheduled d q t c f depth queue fail cut flash wants elevator l ls e is =
    let found : elevator_lines elevator ++ l ∷ beginning (codes "elevator") ls ≡ elevator_lines wants =
    ap (λ x. elevator_lines elevator ++ x) (sym (beginning-with (codes "elevator") l ls e)) ∙ is.elevators in
    let next = elevator_next elevator wants l (beginning (codes "elevator") ls) found in
    let depths : beginning (codes "depth") (l ∷ ls) ≡ beginning (codes "depth") ls = ap (λ x. beginning (codes "depth") (x ∷ ls)) next.2 in
    let queues : beginning (codes "queue") (l ∷ ls) ≡ beginning (codes "queue") ls = ap (λ x. beginning (codes "queue") (x ∷ ls)) next.2 in
    let fails : beginning (codes "fail") (l ∷ ls) ≡ beginning (codes "fail") ls = ap (λ x. beginning (codes "fail") (x ∷ ls)) next.2 in
    let cuts : beginning (codes "cut") (l ∷ ls) ≡ beginning (codes "cut") ls = ap (λ x. beginning (codes "cut") (x ∷ ls)) next.2 in
    let flashes : beginning (codes "flash") (l ∷ ls) ≡ beginning (codes "flash") ls = ap (λ x. beginning (codes "flash") (x ∷ ls)) next.2 in (
      next.0,
      next.1,
      next.2,
      record {
        depths = ap (λ x. or_default default_depth (number_lines (codes "depth") depth ++ x)) (sym depths) ∙ is.depths;
        queues = ap (λ x. filled_queue scheduled (number_lines (codes "queue") queue ++ x)) (sym queues) ∙ is.queues;
        fails = ap (λ x. number_lines (codes "fail") fail ++ x) (sym fails) ∙ is.fails;
        cuts = ap (λ x. number_lines (codes "cut") cut ++ x) (sym cuts) ∙ is.cuts;
        flashes = ap (λ x. number_lines (codes "flash") flash ++ x) (sym flashes) ∙ is.flashes;
        elevators = ap (λ x. elevator_line ∷ x) next.3 ∙ sym (ap elevator_lines next.1);
        known = λ m i. is.known m (inr i);
        depth_read = is.depth_read;
        queue_read = is.queue_read;
        fail_read = is.fail_read;
        cut_read = is.cut_read;
        flash_read = is.flash_read;
      },
    )

-- the six places of a header line that may be read
at_depth : (form : Form) (d : ℕ) (depth queue fail cut flash : Option ℕ) (elevator : Bool) (l : List (List ℕ)) (ls : List (List (List ℕ))) (s : Script) → 1 ≤ d → d ≤ MOST_DEPTH → depth ≡ None → l ≡ depth_line d → ReadsTo (Some (at_header form (Some d) queue fail cut flash elevator)) ls s → ReadsTo (Some (at_header form depth queue fail cut flash elevator)) (l ∷ ls) s
at_depth form d depth queue fail cut flash elevator l ls s some few none same rest =
    subst (λ o. ReadsTo (Some (at_header form o queue fail cut flash elevator)) (l ∷ ls) s) (sym none)
    (subst (λ ws. ReadsTo (Some (at_header form None queue fail cut flash elevator)) (ws ∷ ls) s) (sym same)
    (ReadsTo-line (Some (at_header form None queue fail cut flash elevator)) (depth_line d) (at_header form (Some d) queue fail cut flash elevator) ls s (IsRead-depth form queue fail cut flash elevator d some few) rest))

at_queue : (form : Form) (q : ℕ) (depth queue fail cut flash : Option ℕ) (elevator : Bool) (l : List (List ℕ)) (ls : List (List (List ℕ))) (s : Script) → is_scheduled form ≡ true → 1 ≤ q → q ≤ MOST_QUEUE → queue ≡ None → l ≡ queue_line q → ReadsTo (Some (at_header form depth (Some q) fail cut flash elevator)) ls s → ReadsTo (Some (at_header form depth queue fail cut flash elevator)) (l ∷ ls) s
at_queue form q depth queue fail cut flash elevator l ls s scheduled some few none same rest =
    subst (λ o. ReadsTo (Some (at_header form depth o fail cut flash elevator)) (l ∷ ls) s) (sym none)
    (subst (λ ws. ReadsTo (Some (at_header form depth None fail cut flash elevator)) (ws ∷ ls) s) (sym same)
    (ReadsTo-line (Some (at_header form depth None fail cut flash elevator)) (queue_line q) (at_header form depth (Some q) fail cut flash elevator) ls s (IsRead-queue form depth fail cut flash elevator q scheduled some few) rest))

at_fail : (form : Form) (n : ℕ) (depth queue fail cut flash : Option ℕ) (elevator : Bool) (l : List (List ℕ)) (ls : List (List (List ℕ))) (s : Script) → 1 ≤ n → n ≤ MOST_TRANSFERS → fail ≡ None → l ≡ number_line (codes "fail") n → ReadsTo (Some (at_header form depth queue (Some n) cut flash elevator)) ls s → ReadsTo (Some (at_header form depth queue fail cut flash elevator)) (l ∷ ls) s
at_fail form n depth queue fail cut flash elevator l ls s some few none same rest =
    subst (λ o. ReadsTo (Some (at_header form depth queue o cut flash elevator)) (l ∷ ls) s) (sym none)
    (subst (λ ws. ReadsTo (Some (at_header form depth queue None cut flash elevator)) (ws ∷ ls) s) (sym same)
    (ReadsTo-line (Some (at_header form depth queue None cut flash elevator)) (number_line (codes "fail") n) (at_header form depth queue (Some n) cut flash elevator) ls s (IsRead-fail form depth queue cut flash elevator n some few) rest))

at_cut : (form : Form) (n : ℕ) (depth queue fail cut flash : Option ℕ) (elevator : Bool) (l : List (List ℕ)) (ls : List (List (List ℕ))) (s : Script) → n ≤ MOST_STEPS → cut ≡ None → l ≡ number_line (codes "cut") n → ReadsTo (Some (at_header form depth queue fail (Some n) flash elevator)) ls s → ReadsTo (Some (at_header form depth queue fail cut flash elevator)) (l ∷ ls) s
at_cut form n depth queue fail cut flash elevator l ls s few none same rest =
    subst (λ o. ReadsTo (Some (at_header form depth queue fail o flash elevator)) (l ∷ ls) s) (sym none)
    (subst (λ ws. ReadsTo (Some (at_header form depth queue fail None flash elevator)) (ws ∷ ls) s) (sym same)
    (ReadsTo-line (Some (at_header form depth queue fail None flash elevator)) (number_line (codes "cut") n) (at_header form depth queue fail (Some n) flash elevator) ls s (IsRead-cut form depth queue fail flash elevator n few) rest))

at_flash : (form : Form) (n : ℕ) (depth queue fail cut flash : Option ℕ) (elevator : Bool) (l : List (List ℕ)) (ls : List (List (List ℕ))) (s : Script) → FEWEST_SEGMENTS ≤ n → n ≤ MOST_SEGMENTS → flash ≡ None → l ≡ number_line (codes "flash") n → ReadsTo (Some (at_header form depth queue fail cut (Some n) elevator)) ls s → ReadsTo (Some (at_header form depth queue fail cut flash elevator)) (l ∷ ls) s
at_flash form n depth queue fail cut flash elevator l ls s some few none same rest =
    subst (λ o. ReadsTo (Some (at_header form depth queue fail cut o elevator)) (l ∷ ls) s) (sym none)
    (subst (λ ws. ReadsTo (Some (at_header form depth queue fail cut None elevator)) (ws ∷ ls) s) (sym same)
    (ReadsTo-line (Some (at_header form depth queue fail cut None elevator)) (number_line (codes "flash") n) (at_header form depth queue fail cut (Some n) elevator) ls s (IsRead-flash form depth queue fail cut elevator n some few) rest))

at_elevator : (form : Form) (depth queue fail cut flash : Option ℕ) (elevator : Bool) (l : List (List ℕ)) (ls : List (List (List ℕ))) (s : Script) → is_scheduled form ≡ true → elevator ≡ false → l ≡ elevator_line → ReadsTo (Some (at_header form depth queue fail cut flash true)) ls s → ReadsTo (Some (at_header form depth queue fail cut flash elevator)) (l ∷ ls) s
at_elevator form depth queue fail cut flash elevator l ls s scheduled none same rest =
    subst (λ o. ReadsTo (Some (at_header form depth queue fail cut flash o)) (l ∷ ls) s) (sym none)
    (subst (λ ws. ReadsTo (Some (at_header form depth queue fail cut flash false)) (ws ∷ ls) s) (sym same)
    (ReadsTo-line (Some (at_header form depth queue fail cut flash false)) elevator_line (at_header form depth queue fail cut flash true) ls s (IsRead-elevator form depth queue fail cut flash scheduled) rest))

header_read : (hs : List (List (List ℕ))) (form : Form) (d q : ℕ) (t c f depth queue fail cut flash : Option ℕ) (wants elevator : Bool) (rest : List (List (List ℕ))) (s : Script) → AreFit form d q t c f wants → IsLeft (is_scheduled form) d q t c f depth queue fail cut flash wants elevator hs → Behind form d q t c f wants rest s → ReadsTo (Some (at_header form depth queue fail cut flash elevator)) (hs ++ rest) s
header_read [] form d q t c f depth queue fail cut flash wants elevator rest s fit is behind =
    subst (λ o. ReadsTo (Some (at_header form depth queue fail cut flash o)) rest s) (sym (elevator_default elevator wants is.elevators))
    (subst (λ o. ReadsTo (Some (at_header form depth queue o cut flash wants)) rest s) (sym (number_default (codes "fail") fail t is.fails is.fail_read))
    (subst (λ o. ReadsTo (Some (at_header form depth queue t o flash wants)) rest s) (sym (number_default (codes "cut") cut c is.cuts is.cut_read))
    (subst (λ o. ReadsTo (Some (at_header form depth queue t c o wants)) rest s) (sym (number_default (codes "flash") flash f is.flashes is.flash_read))
    (behind depth queue (depth_default depth d fit.depth is.depths is.depth_read) (queue_default (is_scheduled form) queue q fit.queue fit.plain is.queues is.queue_read)))))
header_read (l ∷ hs) form d q t c f depth queue fail cut flash wants elevator rest s fit is behind =
    elim (or_cases (begins (codes "depth") l) (begins (codes "queue") l || (begins (codes "fail") l || (begins (codes "cut") l || (begins (codes "flash") l || begins (codes "elevator") l)))) (is.known l (inl refl))) [
      | inl e ↦
          let left = depth_left (is_scheduled form) d q t c f depth queue fail cut flash wants elevator l hs e is in
          at_depth form d depth queue fail cut flash elevator l (hs ++ rest) s fit.some_depth fit.depth left.0 left.1 (header_read hs form d q t c f (Some d) queue fail cut flash wants elevator rest s fit left.2 behind)
      | inr i ↦ elim (or_cases (begins (codes "queue") l) (begins (codes "fail") l || (begins (codes "cut") l || (begins (codes "flash") l || begins (codes "elevator") l))) i) [
        | inl e ↦
            let left = queue_left (is_scheduled form) d q t c f depth queue fail cut flash wants elevator l hs e is in
            at_queue form q depth queue fail cut flash elevator l (hs ++ rest) s left.0 fit.some_queue fit.queue left.1 left.2 (header_read hs form d q t c f depth (Some q) fail cut flash wants elevator rest s fit left.3 behind)
        | inr j ↦ elim (or_cases (begins (codes "fail") l) (begins (codes "cut") l || (begins (codes "flash") l || begins (codes "elevator") l)) j) [
          | inl e ↦
              let left = fail_left (is_scheduled form) d q t c f depth queue fail cut flash wants elevator l hs e is in
              let within = fit.fail left.0 left.2 in
              at_fail form left.0 depth queue fail cut flash elevator l (hs ++ rest) s within.0 within.1 left.1 left.3 (header_read hs form d q t c f depth queue (Some left.0) cut flash wants elevator rest s fit left.4 behind)
          | inr k ↦ elim (or_cases (begins (codes "cut") l) (begins (codes "flash") l || begins (codes "elevator") l) k) [
            | inl e ↦
                let left = cut_left (is_scheduled form) d q t c f depth queue fail cut flash wants elevator l hs e is in
                at_cut form left.0 depth queue fail cut flash elevator l (hs ++ rest) s (fit.cut left.0 left.2) left.1 left.3 (header_read hs form d q t c f depth queue fail (Some left.0) flash wants elevator rest s fit left.4 behind)
            | inr m ↦ elim (or_cases (begins (codes "flash") l) (begins (codes "elevator") l) m) [
              | inl e ↦
                  let left = flash_left (is_scheduled form) d q t c f depth queue fail cut flash wants elevator l hs e is in
                  let within = fit.flash left.0 left.2 in
                  at_flash form left.0 depth queue fail cut flash elevator l (hs ++ rest) s within.0 within.1 left.1 left.3 (header_read hs form d q t c f depth queue fail cut (Some left.0) wants elevator rest s fit left.4 behind)
              | inr e ↦
                  let left = elevator_left (is_scheduled form) d q t c f depth queue fail cut flash wants elevator l hs e is in
                  at_elevator form depth queue fail cut flash elevator l (hs ++ rest) s (is_wanted (is_scheduled form) wants fit.elevator left.1) left.0 left.2 (header_read hs form d q t c f depth queue fail cut flash wants true rest s fit left.3 behind)
            ]
          ]
        ]
      ]
    ]

-- ---- the whole script

-- the script with this depth and this length of queues
abbrev script_with : Script → ℕ → ℕ → Script
script_with s d q = record { kind = s.kind; header = record { depth = d; queue = q; fail = s.header.fail; cut = s.header.cut; elevator = s.header.elevator; flash = s.header.flash }; puts = s.puts; events = s.events }

-- the lines behind the header
body_read : (s : Script) (depth queue : Option ℕ) (events : List (List (List ℕ))) → IsWellFormed s → map with_count events ≡ map event_line_words s.events → unwrap_or depth DEFAULT_DEPTH ≡ s.header.depth → unwrap_or queue DEFAULT_QUEUE ≡ s.header.queue
    → ReadsTo (Some (at_header s.kind depth queue s.header.fail s.header.cut s.header.flash s.header.elevator)) (map request_words s.puts ++ (codes "events" ∷ []) ∷ events) s
body_read s depth queue events well counted deep long =
    let r = at_header s.kind depth queue s.header.fail s.header.cut s.header.flash s.header.elevator in
    requests_read s.puts r ((codes "events" ∷ []) ∷ events) s refl well.runnable.few_blocks (omega (arith, well.runnable.few))
    (λ i q e. let place : i ≡ 0 + i = omega arith in subst (λ j. IsRequestOf (form_blocks s.kind) j q) place (well.runnable.requests i q e))
    well.filled
    (λ section h.
    let t = with_requests r section s.puts in
    let u = with_requests r sections.Events s.puts in
    let same : script_read (with_lines u s.events) ≡ s =
    ap₂ (script_with s) deep long in
    ReadsTo-line (Some t) (codes "events" ∷ []) u events s (IsRead-events t h)
    (subst (ReadsTo (Some u) events) same (events_read events s.events u counted refl well.events (omega (arith, well.expanded)))))

says_read : (s : Script) (lines : List (List (List ℕ))) → IsWellFormed s → SaysScript s lines → ReadsTo None lines s
says_read s lines well says =
    let run = well.runnable in
    let head = says.headed in
    let fit : AreFit s.kind s.header.depth s.header.queue s.header.fail s.header.cut s.header.flash s.header.elevator = record {
      some_depth = run.some_depth;
      depth = run.depth;
      some_queue = run.some_queue;
      queue = run.queue;
      plain = well.plain_queue;
      fail = well.fail;
      cut = well.cut;
      flash = run.flash;
      elevator = well.no_elevator;
    } in
    let left : IsLeft (is_scheduled s.kind) s.header.depth s.header.queue s.header.fail s.header.cut s.header.flash None None None None None s.header.elevator false says.header = record {
      depths = head.depth;
      queues = head.queue;
      fails = head.fail;
      cuts = head.cut;
      flashes = head.flash;
      elevators = head.elevator;
      known = head.known;
      depth_read = λ n h. absurd (none-some n h);
      queue_read = λ n h. absurd (none-some n h);
      fail_read = λ n h. absurd (none-some n h);
      cut_read = λ n h. absurd (none-some n h);
      flash_read = λ n h. absurd (none-some n h);
    } in
    let body = map request_words s.puts ++ (codes "events" ∷ []) ∷ says.events in
    subst (λ ls. ReadsTo None ls s) (sym says.whole)
    (ReadsTo-line None (form_words s.kind) (new_reading s.kind) (says.header ++ body) s (IsRead-form s.kind run.some_blocks run.few_blocks)
    (header_read says.header s.kind s.header.depth s.header.queue s.header.fail s.header.cut s.header.flash None None None None None s.header.elevator false body s fit left
    (λ depth queue deep long. body_read s depth queue says.events well says.counted deep long)))

-- the law: lines that say a well-formed script are read as it
pub script_of-SaysScript : (bytes : List ℕ) (s : Script) → IsWellFormed s → SaysScript s (kept_lines (lines_of bytes)) → script_of bytes ≡ Ok s
script_of-SaysScript bytes s well says =
    ends_reads read_one ended (λ reading ws next. read_words reading ws ≡ Ok next) (λ reading l next h. h) (lines_of bytes) None s 1 (says_read s (kept_lines (lines_of bytes)) well says)
