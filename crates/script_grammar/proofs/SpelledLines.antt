-- Each form of line is read as it was written.
use Rattle.std.proofs.Common.{◌≡◌, ℕ, ◌+◌, ◌^◌, ◌<◌, ◌≤◌, Bool, true, false, not, ◌&&◌, ◌||◌, List, [], ◌∷◌, ◌++◌, length, codes, decimal, Option, Some, None, Ok, Err, nat_lt, nat_le, refl, sym, ap, ◌∙◌, subst, arith, if◌then◌else◌}
use Rattle.std.specs.List.{join_with_byte}
use Rattle.std.specs.Option.{option_and_then, option_map}
use Rattle.std.proofs.lemmas.Bool.{and_from, or_left, or_right, le-leb, lt-ltb}
use Rattle.blk_base.specs.Block.{filled}
use Rattle.order_model.specs.declared.request.Request.{Request}
use Rattle.order_model.specs.declared.request.Kind.{Kind}
use Rattle.order_model.specs.declared.request.Kind.TheVariants.{Put, Flush}
use Rattle.script_words.specs.declared.limits.TheConstants.{MOST_EVENTS, MOST_REPEATS, PLACES}
use Rattle.script_grammar.specs.declared.limits.TheConstants.{FEWEST_SEGMENTS, MOST_BLOCKS, MOST_DEPTH, MOST_QUEUE, MOST_REQUESTS, MOST_SEGMENTS, MOST_STEPS, MOST_TRANSFERS}
use Rattle.script_grammar.specs.declared.kinds.ScriptKind.TheVariants as kinds
use Rattle.script_grammar.specs.declared.reading.Reading.{Reading}
use Rattle.script_grammar.specs.declared.reading.Section.{Section}
use Rattle.script_grammar.specs.declared.reading.Section.TheVariants as sections
use Rattle.script_grammar.specs.declared.script.Script.{Script}
use Rattle.script_grammar.specs.declared.script.Form.{Form}
use Rattle.script_grammar.specs.declared.script.Form.TheVariants.{Device, Blocks}
use Rattle.script_grammar.specs.declared.script.CoreEvent.{CoreEvent}
use Rattle.script_grammar.specs.declared.script.CoreEvent.TheVariants.{Submit, Accept, Dispatch, Receive, Transfer, Persist}
use Rattle.script_grammar.specs.declared.words.HeaderWord.TheVariants as header
use Rattle.script_grammar.specs.declared.words.BodyWord.{BodyWord}
use Rattle.script_grammar.specs.declared.words.BodyWord.TheVariants as body
use Rattle.script_grammar.specs.declared.words.PlainWord.{PlainWord}
use Rattle.script_grammar.specs.declared.words.PlainWord.TheVariants as plain
use Rattle.script_grammar.specs.declared.words.PickWord.{PickWord}
use Rattle.script_grammar.specs.declared.words.PickWord.TheVariants as picks
use Rattle.script_grammar.specs.declared.words.Word.{Word}
use Rattle.script_grammar.specs.declared.words.Word.TheVariants as word
use Rattle.script_grammar.specs.declared.words.Class.{Class}
use Rattle.script_grammar.specs.declared.words.Class.TheVariants as class
use Rattle.script_grammar.specs.declared.words.Line.{Line}
use Rattle.script_grammar.specs.declared.words.Line.TheVariants as line
use Rattle.byte_text.specs.Hex.{hex_text}
use Rattle.script_words.specs.Spelling.{numeral, hex_byte, is_skipped, words_of}
use Rattle.script_words.specs.LineByLine.{at_line}
use Rattle.script_words.proofs.LineByLine.{read_step}
use Rattle.script_grammar.specs.Words.{class_of, line_of}
use Rattle.script_grammar.specs.Grammar.{is_scheduled, form_blocks, new_reading, opened, form_of, may_stand, stands_in, needs_scheduler, stood_before, fits, count_fits, is_ordered_class, is_barrier_class, with_request, with_events, plain_event, pick_event, after, taken, later_line, read_words, read_one, read_line, read_from, ended, IsRequestOf}
use Rattle.script_grammar.specs.WellFormed.{IsEventOf, IsFilled}
use Rattle.script_grammar.specs.laws.Speller.{form_words, class_text, body_byte, kind_words, request_words, event_words}
use Rattle.script_words.proofs.SpelledWords.{IsClear, AreClear, words_of-joined}
use Rattle.script_words.proofs.SpelledNumbers.{numeral-decimal, IsClear-decimal, hex_byte-text, IsClear-hex_text}

-- ---- one line

-- the words make a line that is not skipped, and what is read after it
pub record IsRead (reading : Option Reading) (ws : List (List ℕ)) (next : Reading) : Type 0 where
  pub clear : AreClear ws
  pub there : is_skipped (join_with_byte 32 ws) ≡ false
  pub read : read_words reading ws ≡ Ok next

read_line-words : (n : ℕ) (reading : Option Reading) (ws : List (List ℕ)) (next : Reading) → IsRead reading ws next → read_line n reading (join_with_byte 32 ws) ≡ Ok (Some next)
read_line-words n reading [] next is = let h = is.read in cc
read_line-words n reading (w ∷ ws) next is =
    ap (λ t. if t then Ok reading else at_line n (read_words reading (words_of (join_with_byte 32 (w ∷ ws))))) is.there
    ∙ ap (λ v. at_line n (read_words reading v)) (words_of-joined w ws is.clear)
    ∙ ap (at_line n) is.read

-- what is read from these lines on, whatever their numbers
abbrev pub EndsIn : Option Reading → List (List ℕ) → Script → Type 0
EndsIn reading ls s = (n : ℕ) → read_from n reading ls ≡ Ok s

-- one line more
pub EndsIn-line : (reading : Option Reading) (ws : List (List ℕ)) (next : Reading) (ls : List (List ℕ)) (s : Script) → IsRead reading ws next → EndsIn (Some next) ls s → EndsIn reading (join_with_byte 32 ws ∷ ls) s
EndsIn-line reading ws next ls s is rest n =
    read_step read_one ended n reading (Some next) (join_with_byte 32 ws) ls (read_line-words n reading ws next is) ∙ rest (n + 1)

-- ---- a later line

passes : (r : Reading) (stands stood : Bool) (o : Option Line) (l : Line) → stands ≡ true → stood ≡ false → o ≡ Some l → fits r l ≡ true → (if not stands then Err kinds.Order else if stood then Err kinds.Twice else taken r o) ≡ Ok (after r l)
passes r true false o l _ _ e f = ap (taken r) e ∙ ap (λ t. if t then Ok (after r l) else Err kinds.Number) f
passes r true true o l _ h e f = cc
passes r false stood o l h _ e f = cc

-- a line that may stand here, with its numbers within their limits
pub later_line-read : (r : Reading) (w : Word) (ws : List (List ℕ)) (l : Line) → may_stand r w ≡ true → stood_before r w ≡ false → line_of w ws ≡ Some l → fits r l ≡ true → later_line r (Some w) ws ≡ Ok (after r l)
later_line-read r w ws l stands stood e f = passes r (may_stand r w) (stood_before r w) (line_of w ws) l stands stood e f

-- ---- the first line and the header

opened-read : (scheduled : Bool) (n : ℕ) → 1 ≤ n → n ≤ MOST_BLOCKS → opened scheduled (numeral (decimal n)) ≡ Ok (new_reading (form_of scheduled n))
opened-read scheduled n some few =
    ap (opened scheduled) (numeral-decimal n (omega arith))
    ∙ ap (λ t. if t then Ok (new_reading (form_of scheduled n)) else Err kinds.Number) (and_from (nat_le 1 n) (nat_le n MOST_BLOCKS) (le-leb 1 n some) (le-leb n MOST_BLOCKS few))

pub IsRead-form : (form : Form) → 1 ≤ form_blocks form → form_blocks form ≤ MOST_BLOCKS → IsRead None (form_words form) (new_reading form)
IsRead-form (Device n) some few = record {
  clear = (record { feed = refl; space = refl }, (IsClear-decimal n (omega arith), tt));
  there = refl;
  read = opened-read false n some few;
}
IsRead-form (Blocks n) some few = record {
  clear = (record { feed = refl; space = refl }, (IsClear-decimal n (omega arith), tt));
  there = refl;
  read = opened-read true n some few;
}

-- a reading of the header
abbrev pub at_header : Form → Option ℕ → Option ℕ → Option ℕ → Option ℕ → Option ℕ → Bool → Reading
at_header form depth queue fail cut flash elevator = record { form = form; depth = depth; queue = queue; fail = fail; cut = cut; elevator = elevator; flash = flash; section = sections.Header; puts = []; events = []; expanded = 0 }

pub IsRead-depth : (form : Form) (queue fail cut flash : Option ℕ) (elevator : Bool) (d : ℕ) → 1 ≤ d → d ≤ MOST_DEPTH → IsRead (Some (at_header form None queue fail cut flash elevator)) (codes "depth" ∷ decimal d ∷ []) (at_header form (Some d) queue fail cut flash elevator)
IsRead-depth form queue fail cut flash elevator d some few = record {
  clear = (record { feed = refl; space = refl }, (IsClear-decimal d (omega arith), tt));
  there = refl;
  read = later_line-read (at_header form None queue fail cut flash elevator) (word.Header header.Depth) (decimal d ∷ []) (line.Depth d) (or_right (is_scheduled form) true refl) refl (ap (option_map line.Depth) (numeral-decimal d (omega arith))) (and_from (nat_le 1 d) (nat_le d MOST_DEPTH) (le-leb 1 d some) (le-leb d MOST_DEPTH few));
}

pub IsRead-queue : (form : Form) (depth fail cut flash : Option ℕ) (elevator : Bool) (q : ℕ) → is_scheduled form ≡ true → 1 ≤ q → q ≤ MOST_QUEUE → IsRead (Some (at_header form depth None fail cut flash elevator)) (codes "queue" ∷ decimal q ∷ []) (at_header form depth (Some q) fail cut flash elevator)
IsRead-queue form depth fail cut flash elevator q scheduled some few = record {
  clear = (record { feed = refl; space = refl }, (IsClear-decimal q (omega arith), tt));
  there = refl;
  read = later_line-read (at_header form depth None fail cut flash elevator) (word.Header header.Queue) (decimal q ∷ []) (line.Queue q) (or_left (is_scheduled form) false scheduled) refl (ap (option_map line.Queue) (numeral-decimal q (omega arith))) (and_from (nat_le 1 q) (nat_le q MOST_QUEUE) (le-leb 1 q some) (le-leb q MOST_QUEUE few));
}

pub IsRead-fail : (form : Form) (depth queue cut flash : Option ℕ) (elevator : Bool) (n : ℕ) → 1 ≤ n → n ≤ MOST_TRANSFERS → IsRead (Some (at_header form depth queue None cut flash elevator)) (codes "fail" ∷ decimal n ∷ []) (at_header form depth queue (Some n) cut flash elevator)
IsRead-fail form depth queue cut flash elevator n some few = record {
  clear = (record { feed = refl; space = refl }, (IsClear-decimal n (omega arith), tt));
  there = refl;
  read = later_line-read (at_header form depth queue None cut flash elevator) (word.Header header.Fail) (decimal n ∷ []) (line.Fail n) (or_right (is_scheduled form) true refl) refl (ap (option_map line.Fail) (numeral-decimal n (omega arith))) (and_from (nat_le 1 n) (nat_le n MOST_TRANSFERS) (le-leb 1 n some) (le-leb n MOST_TRANSFERS few));
}

pub IsRead-cut : (form : Form) (depth queue fail flash : Option ℕ) (elevator : Bool) (n : ℕ) → n ≤ MOST_STEPS → IsRead (Some (at_header form depth queue fail None flash elevator)) (codes "cut" ∷ decimal n ∷ []) (at_header form depth queue fail (Some n) flash elevator)
IsRead-cut form depth queue fail flash elevator n few = record {
  clear = (record { feed = refl; space = refl }, (IsClear-decimal n (omega arith), tt));
  there = refl;
  read = later_line-read (at_header form depth queue fail None flash elevator) (word.Header header.Cut) (decimal n ∷ []) (line.Cut n) (or_right (is_scheduled form) true refl) refl (ap (option_map line.Cut) (numeral-decimal n (omega arith))) (le-leb n MOST_STEPS few);
}

pub IsRead-flash : (form : Form) (depth queue fail cut : Option ℕ) (elevator : Bool) (n : ℕ) → FEWEST_SEGMENTS ≤ n → n ≤ MOST_SEGMENTS → IsRead (Some (at_header form depth queue fail cut None elevator)) (codes "flash" ∷ decimal n ∷ []) (at_header form depth queue fail cut (Some n) elevator)
IsRead-flash form depth queue fail cut elevator n some few = record {
  clear = (record { feed = refl; space = refl }, (IsClear-decimal n (omega arith), tt));
  there = refl;
  read = later_line-read (at_header form depth queue fail cut None elevator) (word.Header header.Flash) (decimal n ∷ []) (line.Flash n) (or_right (is_scheduled form) true refl) refl (ap (option_map line.Flash) (numeral-decimal n (omega arith))) (and_from (nat_le FEWEST_SEGMENTS n) (nat_le n MOST_SEGMENTS) (le-leb FEWEST_SEGMENTS n some) (le-leb n MOST_SEGMENTS few));
}

-- the line of the elevator
pub IsRead-elevator : (form : Form) (depth queue fail cut flash : Option ℕ) → is_scheduled form ≡ true → IsRead (Some (at_header form depth queue fail cut flash false)) (codes "elevator" ∷ []) (at_header form depth queue fail cut flash true)
IsRead-elevator form depth queue fail cut flash scheduled = record {
  clear = (record { feed = refl; space = refl }, tt);
  there = refl;
  read = later_line-read (at_header form depth queue fail cut flash false) (word.Header header.Elevator) [] line.Elevator (or_left (is_scheduled form) false scheduled) refl refl refl;
}

-- ---- requests

-- requests may still stand here
abbrev pub before_events : Section → Bool
before_events sections.Header = true
before_events sections.Body = true
before_events sections.Events = false

stands_before : (section : Section) (w : BodyWord) → before_events section ≡ true → stands_in section (word.Body w) ≡ true
stands_before sections.Header w h = refl
stands_before sections.Body w h = refl
stands_before sections.Events w h = cc

may_stand-body : (r : Reading) (w : BodyWord) → before_events r.section ≡ true → may_stand r (word.Body w) ≡ true
may_stand-body r w h =
    and_from (stands_in r.section (word.Body w)) (is_scheduled r.form || true) (stands_before r.section w h) (or_right (is_scheduled r.form) true refl)

-- the class whose flags these are
abbrev class_from : Bool → Bool → Class
class_from ordered true = class.Barrier
class_from true false = class.Ordered
class_from false false = class.Free

class_of-text : (ordered barrier : Bool) → class_of (class_text ordered barrier) ≡ Some (class_from ordered barrier)
class_of-text ordered true = refl
class_of-text true false = refl
class_of-text false false = refl

IsClear-class_text : (ordered barrier : Bool) → IsClear (class_text ordered barrier)
IsClear-class_text ordered true = record { feed = refl; space = refl }
IsClear-class_text true false = record { feed = refl; space = refl }
IsClear-class_text false false = record { feed = refl; space = refl }

is_ordered_class-from : (ordered barrier : Bool) → (barrier ≡ true → ordered ≡ true) → is_ordered_class (class_from ordered barrier) ≡ ordered
is_ordered_class-from ordered true h = sym (h refl)
is_ordered_class-from true false h = refl
is_ordered_class-from false false h = refl

is_barrier_class-from : (ordered barrier : Bool) → is_barrier_class (class_from ordered barrier) ≡ barrier
is_barrier_class-from ordered true = refl
is_barrier_class-from true false = refl
is_barrier_class-from false false = refl

pub body_byte-filled : (value : ℕ) → body_byte (filled value) ≡ value
unfolding filled
body_byte-filled value = refl

-- a request, by its parts
abbrev request_of : ℕ → Kind → Bool → Bool → Request
request_of id kind ordered barrier = record { id = id; kind = kind; ordered = ordered; barrier = barrier }

same_request : (id other : ℕ) (kind second : Kind) (ordered third : Bool) (barrier fourth : Bool) → id ≡ other → kind ≡ second → ordered ≡ third → barrier ≡ fourth → request_of id kind ordered barrier ≡ request_of other second third fourth
same_request id other kind second ordered third barrier fourth a b c d = cc

put_line-read : (block value : ℕ) (ordered barrier : Bool) → block < 2 ^ 64 → value < 256 → line_of (word.Body body.Put) (decimal block ∷ hex_text value ∷ class_text ordered barrier ∷ []) ≡ Some (line.Put block value (class_from ordered barrier))
put_line-read block value ordered barrier lt byte =
    ap (λ o. option_and_then (λ b. option_and_then (λ v. option_map (λ k. line.Put b v k) (class_of (class_text ordered barrier))) (hex_byte (hex_text value))) o) (numeral-decimal block lt)
    ∙ ap (λ o. option_and_then (λ v. option_map (λ k. line.Put block v k) (class_of (class_text ordered barrier))) o) (hex_byte-text value byte)
    ∙ ap (λ o. option_map (λ k. line.Put block value k) o) (class_of-text ordered barrier)

-- a put of one byte all over
IsRead-put : (r : Reading) (id block value : ℕ) (ordered barrier : Bool) → before_events r.section ≡ true → form_blocks r.form ≤ MOST_BLOCKS → length r.puts < MOST_REQUESTS → id ≡ length r.puts → block < form_blocks r.form → value < 256 → (barrier ≡ true → ordered ≡ true) → IsRead (Some r) (codes "put" ∷ decimal block ∷ hex_text value ∷ class_text ordered barrier ∷ []) (with_request r (request_of id (Put block (filled value)) ordered barrier))
IsRead-put r id block value ordered barrier here few some named within byte keeps = record {
  clear = (record { feed = refl; space = refl }, (IsClear-decimal block (omega arith), (IsClear-hex_text value, (IsClear-class_text ordered barrier, tt))));
  there = refl;
  read = later_line-read r (word.Body body.Put) (decimal block ∷ hex_text value ∷ class_text ordered barrier ∷ []) (line.Put block value (class_from ordered barrier)) (may_stand-body r body.Put here) refl (put_line-read block value ordered barrier (omega arith) byte) (and_from (nat_lt block (form_blocks r.form)) (nat_lt (length r.puts) MOST_REQUESTS) (lt-ltb block (form_blocks r.form) within) (lt-ltb (length r.puts) MOST_REQUESTS some))
      ∙ ap (λ q. Ok (with_request r q)) (same_request (length r.puts) id (Put block (filled value)) (Put block (filled value)) (is_ordered_class (class_from ordered barrier)) ordered (is_barrier_class (class_from ordered barrier)) barrier (sym named) refl (is_ordered_class-from ordered barrier keeps) (is_barrier_class-from ordered barrier));
}

IsRead-flush : (r : Reading) (id : ℕ) (ordered barrier : Bool) → before_events r.section ≡ true → length r.puts < MOST_REQUESTS → id ≡ length r.puts → ordered ≡ true → barrier ≡ true → IsRead (Some r) (codes "flush" ∷ []) (with_request r (request_of id Flush ordered barrier))
IsRead-flush r id ordered barrier here some named o b = record {
  clear = (record { feed = refl; space = refl }, tt);
  there = refl;
  read = later_line-read r (word.Body body.Flush) [] line.Flush (may_stand-body r body.Flush here) refl refl (lt-ltb (length r.puts) MOST_REQUESTS some)
      ∙ ap (λ q. Ok (with_request r q)) (same_request (length r.puts) id Flush Flush true ordered true barrier (sym named) refl (sym o) (sym b));
}

IsRead-request_of : (r : Reading) (id : ℕ) (kind : Kind) (ordered barrier : Bool) → before_events r.section ≡ true → form_blocks r.form ≤ MOST_BLOCKS → length r.puts < MOST_REQUESTS → IsRequestOf (form_blocks r.form) (length r.puts) (request_of id kind ordered barrier) → IsFilled (request_of id kind ordered barrier) → IsRead (Some r) (kind_words kind ordered barrier) (with_request r (request_of id kind ordered barrier))
IsRead-request_of r id (Put block bytes) ordered barrier here few some is full =
    let f = full block bytes refl in
    let read = IsRead-put r id block f.0 ordered barrier here few some is.named (is.within block bytes refl) f.1 is.ordered in
    let byte : body_byte bytes ≡ f.0 = ap body_byte f.2 ∙ body_byte-filled f.0 in
    subst (λ v. IsRead (Some r) (codes "put" ∷ decimal block ∷ hex_text v ∷ class_text ordered barrier ∷ []) (with_request r (request_of id (Put block bytes) ordered barrier))) (sym byte)
    (subst (λ b. IsRead (Some r) (codes "put" ∷ decimal block ∷ hex_text f.0 ∷ class_text ordered barrier ∷ []) (with_request r (request_of id (Put block b) ordered barrier))) (sym f.2) read)
IsRead-request_of r id Flush ordered barrier here few some is full =
    let f = is.flush refl in
    IsRead-flush r id ordered barrier here some is.named f.0 f.1

pub IsRead-request : (r : Reading) (q : Request) → before_events r.section ≡ true → form_blocks r.form ≤ MOST_BLOCKS → length r.puts < MOST_REQUESTS → IsRequestOf (form_blocks r.form) (length r.puts) q → IsFilled q → IsRead (Some r) (request_words q) (with_request r q)
IsRead-request r q here few some is full = IsRead-request_of r q.id q.kind q.ordered q.barrier here few some is full

-- ---- `events`, and the event lines

stands_events : (section : Section) → before_events section ≡ true → stands_in section word.Events ≡ true
stands_events sections.Header h = refl
stands_events sections.Body h = refl
stands_events sections.Events h = cc

pub IsRead-events : (r : Reading) → before_events r.section ≡ true → IsRead (Some r) (codes "events" ∷ []) (record r { section = sections.Events })
IsRead-events r here = record {
  clear = (record { feed = refl; space = refl }, tt);
  there = refl;
  read = later_line-read r word.Events [] line.Events (and_from (stands_in r.section word.Events) (is_scheduled r.form || true) (stands_events r.section here) (or_right (is_scheduled r.form) true refl)) refl refl refl;
}

pub count_fits-from : (r : Reading) (count : ℕ) → 1 ≤ count → count ≤ MOST_REPEATS → r.expanded + count ≤ MOST_EVENTS → count_fits r count ≡ true
count_fits-from r count some most all =
    and_from (nat_le 1 count) (nat_le count MOST_REPEATS && nat_le (r.expanded + count) MOST_EVENTS) (le-leb 1 count some)
    (and_from (nat_le count MOST_REPEATS) (nat_le (r.expanded + count) MOST_EVENTS) (le-leb count MOST_REPEATS most) (le-leb (r.expanded + count) MOST_EVENTS all))

-- the line may stand here: the scheduler is there where it is spoken of
pub may_stand-event : (r : Reading) (w : Word) → r.section ≡ sections.Events → stands_in sections.Events w ≡ true → (is_scheduled r.form || not (needs_scheduler w)) ≡ true → may_stand r w ≡ true
may_stand-event r w here stands known =
    and_from (stands_in r.section w) (is_scheduled r.form || not (needs_scheduler w)) (ap (λ section. stands_in section w) here ∙ stands) known

read_plain : (r : Reading) (w : PlainWord) (count : ℕ) → r.section ≡ sections.Events → (is_scheduled r.form || not (needs_scheduler (word.Plain w))) ≡ true → 1 ≤ count → count ≤ MOST_REPEATS → r.expanded + count ≤ MOST_EVENTS → later_line r (Some (word.Plain w)) (codes "x" ∷ decimal count ∷ []) ≡ Ok (with_events r (plain_event w) count)
read_plain r w count here known some most all =
    later_line-read r (word.Plain w) (codes "x" ∷ decimal count ∷ []) (line.Plain w count) (may_stand-event r (word.Plain w) here refl known) refl (ap (option_map (line.Plain w)) (numeral-decimal count (omega arith))) (count_fits-from r count some most all)

pick_line-read : (w : PickWord) (pick count : ℕ) → pick < 2 ^ 64 → count < 2 ^ 64 → line_of (word.Pick w) (decimal pick ∷ codes "x" ∷ decimal count ∷ []) ≡ Some (line.Pick w pick count)
pick_line-read w pick count p c =
    ap (λ o. option_and_then (λ n. option_map (line.Pick w n) (numeral (decimal count))) o) (numeral-decimal pick p)
    ∙ ap (option_map (line.Pick w pick)) (numeral-decimal count c)

read_pick : (r : Reading) (w : PickWord) (pick count : ℕ) → r.section ≡ sections.Events → (is_scheduled r.form || not (needs_scheduler (word.Pick w))) ≡ true → pick < PLACES → 1 ≤ count → count ≤ MOST_REPEATS → r.expanded + count ≤ MOST_EVENTS → later_line r (Some (word.Pick w)) (decimal pick ∷ codes "x" ∷ decimal count ∷ []) ≡ Ok (with_events r (pick_event w pick) count)
read_pick r w pick count here known low some most all =
    later_line-read r (word.Pick w) (decimal pick ∷ codes "x" ∷ decimal count ∷ []) (line.Pick w pick count) (may_stand-event r (word.Pick w) here refl known) refl (pick_line-read w pick count (omega arith) (omega arith)) (and_from (nat_lt pick PLACES) (count_fits r count) (lt-ltb pick PLACES low) (count_fits-from r count some most all))

IsClear-x : IsClear (codes "x")
IsClear-x = record { feed = refl; space = refl }

pub IsRead-event : (r : Reading) (e : CoreEvent) (count : ℕ) → r.section ≡ sections.Events → IsEventOf (is_scheduled r.form) e → 1 ≤ count → count ≤ MOST_REPEATS → r.expanded + count ≤ MOST_EVENTS → IsRead (Some r) (event_words e ++ codes "x" ∷ decimal count ∷ []) (with_events r e count)
IsRead-event r Submit count here is some most all = record {
  clear = (record { feed = refl; space = refl }, (IsClear-x, (IsClear-decimal count (omega arith), tt)));
  there = refl;
  read = read_plain r plain.Submit count here (or_left (is_scheduled r.form) false is) some most all;
}
IsRead-event r Accept count here is some most all = record {
  clear = (record { feed = refl; space = refl }, (IsClear-x, (IsClear-decimal count (omega arith), tt)));
  there = refl;
  read = read_plain r plain.Accept count here (or_left (is_scheduled r.form) false is) some most all;
}
IsRead-event r (Dispatch pick) count here is some most all = record {
  clear = (record { feed = refl; space = refl }, (IsClear-decimal pick (omega (arith, is.1)), (IsClear-x, (IsClear-decimal count (omega arith), tt))));
  there = refl;
  read = read_pick r picks.Dispatch pick count here (or_left (is_scheduled r.form) false is.0) is.1 some most all;
}
IsRead-event r Receive count here is some most all = record {
  clear = (record { feed = refl; space = refl }, (IsClear-x, (IsClear-decimal count (omega arith), tt)));
  there = refl;
  read = read_plain r plain.Receive count here (or_right (is_scheduled r.form) true refl) some most all;
}
IsRead-event r (Transfer pick) count here is some most all = record {
  clear = (record { feed = refl; space = refl }, (IsClear-decimal pick (omega (arith, is)), (IsClear-x, (IsClear-decimal count (omega arith), tt))));
  there = refl;
  read = read_pick r picks.Transfer pick count here (or_right (is_scheduled r.form) true refl) is some most all;
}
IsRead-event r (Persist pick) count here is some most all = record {
  clear = (record { feed = refl; space = refl }, (IsClear-decimal pick (omega (arith, is)), (IsClear-x, (IsClear-decimal count (omega arith), tt))));
  there = refl;
  read = read_pick r picks.Persist pick count here (or_right (is_scheduled r.form) true refl) is some most all;
}
