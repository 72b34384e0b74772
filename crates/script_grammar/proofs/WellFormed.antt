-- Every script that is read is well-formed: what holds of the reading is kept by each line.
use Rattle.std.proofs.Common.{◌≡◌, ℕ, zero, suc, ◌+◌, ◌<◌, ◌≤◌, List, [], ◌∷◌, ◌++◌, length, Bool, true, false, Option, Some, None, Result, Ok, Err, refl, sym, subst, ap, ◌∙◌, arith, length-append, nat_le, not, unwrap_or, slice_get, ◌&&◌, ◌||◌, if◌then◌else◌, lit≤, IfOk}
use borrow.Author.Tests.{ltb-true, leb-true}
use Rattle.std.proofs.lemmas.Bool.{and_parts, false≢true}
use Rattle.std.proofs.lemmas.Option.{same_Some, none-some}
use Rattle.blk_base.specs.Block.{filled}
use Rattle.blk_base.specs.Members.{In}
use Rattle.blk_base.specs.laws.Members.{each_push}
use Rattle.order_model.specs.declared.request.Request.{Request}
use Rattle.script_words.specs.declared.limits.TheConstants.{MOST_EVENTS, MOST_REPEATS, PLACES}
use Rattle.script_grammar.specs.declared.limits.TheConstants.{DEFAULT_DEPTH, DEFAULT_QUEUE, FEWEST_SEGMENTS, MOST_BLOCKS, MOST_DEPTH, MOST_QUEUE, MOST_REQUESTS, MOST_SEGMENTS, MOST_STEPS, MOST_TRANSFERS}
use Rattle.script_grammar.specs.declared.reading.Reading.{Reading}
use Rattle.script_grammar.specs.declared.reading.Section.{Section}
use Rattle.script_grammar.specs.declared.reading.Section.TheVariants as sections
use Rattle.script_grammar.specs.declared.script.CoreEvent.{CoreEvent}
use Rattle.script_grammar.specs.declared.script.EventLine.{EventLine}
use Rattle.script_grammar.specs.declared.script.Form.{Form}
use Rattle.script_grammar.specs.declared.script.Script.{Script}
use Rattle.script_grammar.specs.declared.script_error.ScriptError.{ScriptError}
use Rattle.script_grammar.specs.declared.words.BodyWord.{BodyWord}
use Rattle.script_grammar.specs.declared.words.BodyWord.TheVariants as body
use Rattle.script_grammar.specs.declared.words.Class.{Class}
use Rattle.script_grammar.specs.declared.words.Class.TheVariants as class
use Rattle.script_grammar.specs.declared.words.FirstWord.TheVariants as first
use Rattle.script_grammar.specs.declared.words.HeaderWord.{HeaderWord}
use Rattle.script_grammar.specs.declared.words.HeaderWord.TheVariants as header
use Rattle.script_grammar.specs.declared.words.Line.{Line}
use Rattle.script_grammar.specs.declared.words.Line.TheVariants as line
use Rattle.script_grammar.specs.declared.words.PickWord.{PickWord}
use Rattle.script_grammar.specs.declared.words.PickWord.TheVariants as picks
use Rattle.script_grammar.specs.declared.words.PlainWord.{PlainWord}
use Rattle.script_grammar.specs.declared.words.PlainWord.TheVariants as plain
use Rattle.script_grammar.specs.declared.words.Word.{Word}
use Rattle.script_grammar.specs.declared.words.Word.TheVariants as word
use Rattle.script_grammar.specs.Grammar.{IsRequestOf, IsRunnable, form_blocks, is_scheduled, form_of, is_ordered_class, is_barrier_class, after, count_fits, fits, taken, later_line, may_stand, needs_scheduler, stood_before, put_request, flush_request, plain_event, pick_event, with_request, with_events, new_reading, opened, form_line, known_first, first_line, read_words, read_one, read_from, ended, ended_in, script_read, script_of}
use Rattle.script_grammar.specs.code.Readers.{IsTextReadAs}
use Rattle.script_words.proofs.Chosen.{mapped, chained}
use Rattle.script_words.proofs.KeptLines.{said}
use Rattle.script_words.proofs.SaidNumbers.{hex_byte-small}
use Rattle.script_words.specs.Spelling.{hex_byte, numeral, words_of, lines_of, count_of}
use Rattle.script_grammar.specs.WellFormed.{IsEventOf, IsEventLineOf, IsFilled, IsWellFormed, expanded_of}
use Rattle.script_grammar.specs.Words.{class_of, header_line, put_line, body_line, pick_line, line_of, word_of}

-- ---- what holds of the reading between two lines

record IsHeader (form : Form) (depth queue fail cut flash : Option ℕ) : Type 0 where
  some_blocks : 1 ≤ form_blocks form
  most_blocks : form_blocks form ≤ MOST_BLOCKS
  some_depth : 1 ≤ unwrap_or depth DEFAULT_DEPTH
  most_depth : unwrap_or depth DEFAULT_DEPTH ≤ MOST_DEPTH
  some_queue : 1 ≤ unwrap_or queue DEFAULT_QUEUE
  most_queue : unwrap_or queue DEFAULT_QUEUE ≤ MOST_QUEUE
  plain_queue : is_scheduled form ≡ false → queue ≡ None
  transfers : (n : ℕ) → fail ≡ Some n → (1 ≤ n) × (n ≤ MOST_TRANSFERS)
  most_cut : (n : ℕ) → cut ≡ Some n → n ≤ MOST_STEPS
  segments : (n : ℕ) → flash ≡ Some n → (FEWEST_SEGMENTS ≤ n) × (n ≤ MOST_SEGMENTS)

record AreRequests (blocks : ℕ) (puts : List Request) : Type 0 where
  few : length puts ≤ MOST_REQUESTS
  requests : (i : ℕ) (q : Request) → slice_get puts i ≡ Some q → IsRequestOf blocks i q
  filled : (q : Request) → In q puts → IsFilled q

record AreEventLines (scheduled : Bool) (events : List EventLine) (expanded : ℕ) : Type 0 where
  each : (l : EventLine) → In l events → IsEventLineOf scheduled l
  counted : expanded ≡ expanded_of events
  most : expanded ≤ MOST_EVENTS

record IsReadable (r : Reading) : Type 0 where
  no_elevator : is_scheduled r.form ≡ false → r.elevator ≡ false
  header : IsHeader r.form r.depth r.queue r.fail r.cut r.flash
  puts : AreRequests (form_blocks r.form) r.puts
  events : AreEventLines (is_scheduled r.form) r.events r.expanded

-- what holds of it where nothing may have been read
abbrev IsReadableSoFar : Option Reading → Type 0
IsReadableSoFar None = Unit {0}
IsReadableSoFar (Some r) = IsReadable r

-- ---- requests

ordered_class : (k : Class) → is_barrier_class k ≡ true → is_ordered_class k ≡ true
ordered_class class.Free h = h
ordered_class class.Ordered h = refl
ordered_class class.Barrier h = refl

IsRequestOf-put : (blocks id block value : ℕ) (k : Class) → block < blocks → IsRequestOf blocks id (put_request id block value k)
IsRequestOf-put blocks id block value k lt = record {
  named = refl;
  within = λ b body e. let same : block ≡ b = cc in omega arith;
  ordered = ordered_class k;
  flush = λ e. cc;
}

IsRequestOf-flush : (blocks id : ℕ) → IsRequestOf blocks id (flush_request id)
IsRequestOf-flush blocks id = record {
  named = refl;
  within = λ b body e. cc;
  ordered = λ _. refl;
  flush = λ _. (refl, refl);
}

IsFilled-put : (id block value : ℕ) (k : Class) → value < 256 → IsFilled (put_request id block value k)
IsFilled-put id block value k lt b body e =
    let same : filled value ≡ body = cc in (value, lt, sym same)

IsFilled-flush : (id : ℕ) → IsFilled (flush_request id)
IsFilled-flush id b body e = cc

-- one element more, each with its place
each_place-push : {X : Type 0} (P : ℕ → X → Type 0) (xs : List X) (y : X) → ((i : ℕ) (x : X) → slice_get xs i ≡ Some x → P i x) → P (length xs) y → (i : ℕ) (x : X) → slice_get (xs ++ y ∷ []) i ≡ Some x → P i x
each_place-push P [] y all here zero x h = subst (λ z. P zero z) (same_Some y x h) here
each_place-push P [] y all here (suc i) x h = absurd (none-some x h)
each_place-push P (z ∷ zs) y all here zero x h = all zero x h
each_place-push P (z ∷ zs) y all here (suc i) x h = each_place-push (λ j. P (suc j)) zs y (λ j. all (suc j)) here i x h

AreRequests-push : (blocks : ℕ) (puts : List Request) (q : Request) → length puts < MOST_REQUESTS → IsRequestOf blocks (length puts) q → IsFilled q → AreRequests blocks puts → AreRequests blocks (puts ++ q ∷ [])
AreRequests-push blocks puts q lt here filled is = record {
  few = omega (arith, length-append puts (q ∷ []));
  requests = each_place-push (IsRequestOf blocks) puts q is.requests here;
  filled = each_push IsFilled puts q is.filled filled;
}

-- ---- event lines

expanded_of-push : (ls : List EventLine) (l : EventLine) → expanded_of (ls ++ l ∷ []) ≡ expanded_of ls + l.count
expanded_of-push [] l = omega arith
expanded_of-push (m ∷ ls) l = omega (arith, expanded_of-push ls l)

AreEventLines-push : (scheduled : Bool) (events : List EventLine) (expanded : ℕ) (l : EventLine) → IsEventLineOf scheduled l → expanded + l.count ≤ MOST_EVENTS → AreEventLines scheduled events expanded → AreEventLines scheduled (events ++ l ∷ []) (expanded + l.count)
AreEventLines-push scheduled events expanded l here most is = record {
  each = each_push (IsEventLineOf scheduled) events l is.each here;
  counted = omega (arith, expanded_of-push events l, is.counted);
  most = most;
}

-- ---- lines that are spelled rightly

-- what a line keeps by its words alone, in a script with a scheduler or with none
abbrev IsLineOf : Bool → Line → Type 0
IsLineOf scheduled (line.Depth d) = Unit {0}
IsLineOf scheduled (line.Queue q) = scheduled ≡ true
IsLineOf scheduled (line.Fail n) = Unit {0}
IsLineOf scheduled (line.Cut n) = Unit {0}
IsLineOf scheduled (line.Put block value k) = value < 256
IsLineOf scheduled line.Flush = Unit {0}
IsLineOf scheduled line.Elevator = scheduled ≡ true
IsLineOf scheduled (line.Flash n) = Unit {0}
IsLineOf scheduled line.Events = Unit {0}
IsLineOf scheduled (line.Plain w count) = IsEventOf scheduled (plain_event w)
IsLineOf scheduled (line.Pick w pick count) = pick < PLACES → IsEventOf scheduled (pick_event w pick)

needed : (scheduled : Bool) → (scheduled || false) ≡ true → scheduled ≡ true
needed true s = refl
needed false s = s

IsLineOf-put_line : (scheduled : Bool) (b v c : List ℕ) (l : Line) → put_line b v c ≡ Some l → IsLineOf scheduled l
IsLineOf-put_line scheduled b v c l h =
    chained (IsLineOf scheduled) _ (numeral b) l h
    (λ block e g. chained (IsLineOf scheduled) _ (hex_byte v) l g (λ value f i. mapped (IsLineOf scheduled) _ (class_of c) l i (λ k j. hex_byte-small v value f)))

IsLineOf-header_line : (scheduled : Bool) (w : HeaderWord) (ws : List (List ℕ)) (l : Line) → header_line w ws ≡ Some l → (scheduled || not (needs_scheduler (word.Header w))) ≡ true → IsLineOf scheduled l
IsLineOf-header_line scheduled header.Depth [] l h s = absurd (none-some l h)
IsLineOf-header_line scheduled header.Depth (d ∷ []) l h s = mapped (IsLineOf scheduled) line.Depth (numeral d) l h (λ n e. tt)
IsLineOf-header_line scheduled header.Depth (d ∷ e ∷ ws) l h s = absurd (none-some l h)
IsLineOf-header_line scheduled header.Queue [] l h s = absurd (none-some l h)
IsLineOf-header_line scheduled header.Queue (q ∷ []) l h s = mapped (IsLineOf scheduled) line.Queue (numeral q) l h (λ n e. needed scheduled s)
IsLineOf-header_line scheduled header.Queue (q ∷ e ∷ ws) l h s = absurd (none-some l h)
IsLineOf-header_line scheduled header.Fail [] l h s = absurd (none-some l h)
IsLineOf-header_line scheduled header.Fail (n ∷ []) l h s = mapped (IsLineOf scheduled) line.Fail (numeral n) l h (λ n e. tt)
IsLineOf-header_line scheduled header.Fail (n ∷ e ∷ ws) l h s = absurd (none-some l h)
IsLineOf-header_line scheduled header.Cut [] l h s = absurd (none-some l h)
IsLineOf-header_line scheduled header.Cut (n ∷ []) l h s = mapped (IsLineOf scheduled) line.Cut (numeral n) l h (λ n e. tt)
IsLineOf-header_line scheduled header.Cut (n ∷ e ∷ ws) l h s = absurd (none-some l h)
IsLineOf-header_line scheduled header.Elevator [] l h s = subst (IsLineOf scheduled) (same_Some line.Elevator l h) (needed scheduled s)
IsLineOf-header_line scheduled header.Elevator (e ∷ ws) l h s = absurd (none-some l h)
IsLineOf-header_line scheduled header.Flash [] l h s = absurd (none-some l h)
IsLineOf-header_line scheduled header.Flash (n ∷ []) l h s = mapped (IsLineOf scheduled) line.Flash (numeral n) l h (λ n e. tt)
IsLineOf-header_line scheduled header.Flash (n ∷ e ∷ ws) l h s = absurd (none-some l h)

IsLineOf-body_line : (scheduled : Bool) (w : BodyWord) (ws : List (List ℕ)) (l : Line) → body_line w ws ≡ Some l → IsLineOf scheduled l
IsLineOf-body_line scheduled body.Put [] l h = absurd (none-some l h)
IsLineOf-body_line scheduled body.Put (b ∷ []) l h = absurd (none-some l h)
IsLineOf-body_line scheduled body.Put (b ∷ v ∷ []) l h = absurd (none-some l h)
IsLineOf-body_line scheduled body.Put (b ∷ v ∷ c ∷ []) l h = IsLineOf-put_line scheduled b v c l h
IsLineOf-body_line scheduled body.Put (b ∷ v ∷ c ∷ d ∷ ws) l h = absurd (none-some l h)
IsLineOf-body_line scheduled body.Flush [] l h = subst (IsLineOf scheduled) (same_Some line.Flush l h) tt
IsLineOf-body_line scheduled body.Flush (w ∷ ws) l h = absurd (none-some l h)

IsEventOf-plain : (scheduled : Bool) (w : PlainWord) → (scheduled || not (needs_scheduler (word.Plain w))) ≡ true → IsEventOf scheduled (plain_event w)
IsEventOf-plain scheduled plain.Submit s = needed scheduled s
IsEventOf-plain scheduled plain.Accept s = needed scheduled s
IsEventOf-plain scheduled plain.Receive s = tt

IsEventOf-pick : (scheduled : Bool) (w : PickWord) (pick : ℕ) → (scheduled || not (needs_scheduler (word.Pick w))) ≡ true → pick < PLACES → IsEventOf scheduled (pick_event w pick)
IsEventOf-pick scheduled picks.Dispatch pick s lt = (needed scheduled s, lt)
IsEventOf-pick scheduled picks.Transfer pick s lt = lt
IsEventOf-pick scheduled picks.Persist pick s lt = lt

IsLineOf-pick_line : (scheduled : Bool) (w : PickWord) (ws : List (List ℕ)) (l : Line) → pick_line w ws ≡ Some l → (scheduled || not (needs_scheduler (word.Pick w))) ≡ true → IsLineOf scheduled l
IsLineOf-pick_line scheduled w [] l h s = absurd (none-some l h)
IsLineOf-pick_line scheduled w (p ∷ ws) l h s =
    chained (IsLineOf scheduled) _ (numeral p) l h
    (λ pick e g. mapped (IsLineOf scheduled) _ (count_of ws) l g (λ count f. IsEventOf-pick scheduled w pick s))

IsLineOf-line_of : (scheduled : Bool) (w : Word) (ws : List (List ℕ)) (l : Line) → line_of w ws ≡ Some l → (scheduled || not (needs_scheduler w)) ≡ true → IsLineOf scheduled l
IsLineOf-line_of scheduled (word.First w) ws l h s = absurd (none-some l h)
IsLineOf-line_of scheduled (word.Header w) ws l h s = IsLineOf-header_line scheduled w ws l h s
IsLineOf-line_of scheduled (word.Body w) ws l h s = IsLineOf-body_line scheduled w ws l h
IsLineOf-line_of scheduled word.Events [] l h s = subst (IsLineOf scheduled) (same_Some line.Events l h) tt
IsLineOf-line_of scheduled word.Events (w ∷ ws) l h s = absurd (none-some l h)
IsLineOf-line_of scheduled (word.Plain w) ws l h s = mapped (IsLineOf scheduled) (line.Plain w) (count_of ws) l h (λ count e. IsEventOf-plain scheduled w s)
IsLineOf-line_of scheduled (word.Pick w) ws l h s = IsLineOf-pick_line scheduled w ws l h s
IsLineOf-line_of scheduled word.OfVolume ws l h s = absurd (none-some l h)

-- ---- what is read after a line

IsReadable-request : (r : Reading) (q : Request) → length r.puts < MOST_REQUESTS → IsRequestOf (form_blocks r.form) (length r.puts) q → IsFilled q → IsReadable r → IsReadable (with_request r q)
IsReadable-request r q lt here filled is = record {
  no_elevator = is.no_elevator;
  header = is.header;
  puts = AreRequests-push (form_blocks r.form) r.puts q lt here filled is.puts;
  events = is.events;
}

IsReadable-events : (r : Reading) (e : CoreEvent) (count : ℕ) → IsEventOf (is_scheduled r.form) e → count_fits r count ≡ true → IsReadable r → IsReadable (with_events r e count)
IsReadable-events r e count here fits is =
    let some = and_parts _ _ fits in
    let most = and_parts _ _ some.1 in
    record {
      no_elevator = is.no_elevator;
      header = is.header;
      puts = is.puts;
      events = AreEventLines-push (is_scheduled r.form) r.events r.expanded _ (record {
        event = here;
        some = leb-true 1 count some.0;
        most = leb-true count MOST_REPEATS most.0;
      }) (leb-true (r.expanded + count) MOST_EVENTS most.1) is.events;
    }

IsHeader-depth : (form : Form) (depth queue fail cut flash : Option ℕ) (d : ℕ) → 1 ≤ d → d ≤ MOST_DEPTH → IsHeader form depth queue fail cut flash → IsHeader form (Some d) queue fail cut flash
IsHeader-depth form depth queue fail cut flash d some most is = record {
  some_blocks = is.some_blocks;
  most_blocks = is.most_blocks;
  some_depth = some;
  most_depth = most;
  some_queue = is.some_queue;
  most_queue = is.most_queue;
  plain_queue = is.plain_queue;
  transfers = is.transfers;
  most_cut = is.most_cut;
  segments = is.segments;
}

IsHeader-queue : (form : Form) (depth queue fail cut flash : Option ℕ) (q : ℕ) → is_scheduled form ≡ true → 1 ≤ q → q ≤ MOST_QUEUE → IsHeader form depth queue fail cut flash → IsHeader form depth (Some q) fail cut flash
IsHeader-queue form depth queue fail cut flash q scheduled some most is = record {
  some_blocks = is.some_blocks;
  most_blocks = is.most_blocks;
  some_depth = is.some_depth;
  most_depth = is.most_depth;
  some_queue = some;
  most_queue = most;
  plain_queue = λ e. absurd (false≢true (sym e ∙ scheduled));
  transfers = is.transfers;
  most_cut = is.most_cut;
  segments = is.segments;
}

IsHeader-fail : (form : Form) (depth queue fail cut flash : Option ℕ) (n : ℕ) → 1 ≤ n → n ≤ MOST_TRANSFERS → IsHeader form depth queue fail cut flash → IsHeader form depth queue (Some n) cut flash
IsHeader-fail form depth queue fail cut flash n some most is = record {
  some_blocks = is.some_blocks;
  most_blocks = is.most_blocks;
  some_depth = is.some_depth;
  most_depth = is.most_depth;
  some_queue = is.some_queue;
  most_queue = is.most_queue;
  plain_queue = is.plain_queue;
  transfers = λ m e. subst (λ m. (1 ≤ m) × (m ≤ MOST_TRANSFERS)) (same_Some n m e) (some, most);
  most_cut = is.most_cut;
  segments = is.segments;
}

IsHeader-cut : (form : Form) (depth queue fail cut flash : Option ℕ) (n : ℕ) → n ≤ MOST_STEPS → IsHeader form depth queue fail cut flash → IsHeader form depth queue fail (Some n) flash
IsHeader-cut form depth queue fail cut flash n most is = record {
  some_blocks = is.some_blocks;
  most_blocks = is.most_blocks;
  some_depth = is.some_depth;
  most_depth = is.most_depth;
  some_queue = is.some_queue;
  most_queue = is.most_queue;
  plain_queue = is.plain_queue;
  transfers = is.transfers;
  most_cut = λ m e. let same = same_Some n m e in omega (arith, most, same);
  segments = is.segments;
}

IsHeader-flash : (form : Form) (depth queue fail cut flash : Option ℕ) (n : ℕ) → FEWEST_SEGMENTS ≤ n → n ≤ MOST_SEGMENTS → IsHeader form depth queue fail cut flash → IsHeader form depth queue fail cut (Some n)
IsHeader-flash form depth queue fail cut flash n some most is = record {
  some_blocks = is.some_blocks;
  most_blocks = is.most_blocks;
  some_depth = is.some_depth;
  most_depth = is.most_depth;
  some_queue = is.some_queue;
  most_queue = is.most_queue;
  plain_queue = is.plain_queue;
  transfers = is.transfers;
  most_cut = is.most_cut;
  segments = λ m e. subst (λ m. (FEWEST_SEGMENTS ≤ m) × (m ≤ MOST_SEGMENTS)) (same_Some n m e) (some, most);
}

-- the header lines
IsReadable-header : (r : Reading) (depth queue fail cut flash : Option ℕ) → IsHeader r.form depth queue fail cut flash → IsReadable r → IsReadable (record r { depth = depth; queue = queue; fail = fail; cut = cut; flash = flash })
IsReadable-header r depth queue fail cut flash header is = record {
  no_elevator = is.no_elevator;
  header = header;
  puts = is.puts;
  events = is.events;
}

IsReadable-after : (r : Reading) (l : Line) → IsLineOf (is_scheduled r.form) l → fits r l ≡ true → IsReadable r → IsReadable (after r l)
IsReadable-after r (line.Depth d) of h is =
    let t = and_parts _ _ h in
    IsReadable-header r _ _ _ _ _ (IsHeader-depth r.form r.depth r.queue r.fail r.cut r.flash d (leb-true 1 d t.0) (leb-true d MOST_DEPTH t.1) is.header) is
IsReadable-after r (line.Queue q) of h is =
    let t = and_parts _ _ h in
    IsReadable-header r _ _ _ _ _ (IsHeader-queue r.form r.depth r.queue r.fail r.cut r.flash q of (leb-true 1 q t.0) (leb-true q MOST_QUEUE t.1) is.header) is
IsReadable-after r (line.Fail n) of h is =
    let t = and_parts _ _ h in
    IsReadable-header r _ _ _ _ _ (IsHeader-fail r.form r.depth r.queue r.fail r.cut r.flash n (leb-true 1 n t.0) (leb-true n MOST_TRANSFERS t.1) is.header) is
IsReadable-after r (line.Cut n) of h is =
    IsReadable-header r _ _ _ _ _ (IsHeader-cut r.form r.depth r.queue r.fail r.cut r.flash n (leb-true n MOST_STEPS h) is.header) is
IsReadable-after r (line.Put block value k) of h is =
    let t = and_parts _ _ h in
    IsReadable-request r _ (ltb-true _ _ t.1) (IsRequestOf-put (form_blocks r.form) (length r.puts) block value k (ltb-true _ _ t.0)) (IsFilled-put (length r.puts) block value k of) is
IsReadable-after r line.Flush of h is =
    IsReadable-request r _ (ltb-true _ _ h) (IsRequestOf-flush (form_blocks r.form) (length r.puts)) (IsFilled-flush (length r.puts)) is
IsReadable-after r line.Elevator of h is = record {
  no_elevator = λ e. absurd (false≢true (sym e ∙ of));
  header = is.header;
  puts = is.puts;
  events = is.events;
}
IsReadable-after r (line.Flash n) of h is =
    let t = and_parts _ _ h in
    IsReadable-header r _ _ _ _ _ (IsHeader-flash r.form r.depth r.queue r.fail r.cut r.flash n (leb-true FEWEST_SEGMENTS n t.0) (leb-true n MOST_SEGMENTS t.1) is.header) is
IsReadable-after r line.Events of h is = record {
  no_elevator = is.no_elevator;
  header = is.header;
  puts = is.puts;
  events = is.events;
}
IsReadable-after r (line.Plain w count) of h is = IsReadable-events r (plain_event w) count of h is
IsReadable-after r (line.Pick w pick count) of h is =
    let t = and_parts _ _ h in
    IsReadable-events r (pick_event w pick) count (of (ltb-true pick PLACES t.0)) t.1 is

-- ---- results

-- a test that has to pass
pub ok_behind : {A E : Type 0} (b : Bool) (x y : A) (e : E) → (if b then Ok x else Err e) ≡ Ok y → (b ≡ true) × (x ≡ y)
ok_behind true x y e h = (refl, (cc))
ok_behind false x y e h = cc

-- a test that has to pass first
pub ok_past : {A E : Type 0} (b : Bool) (read : Result A E) (y : A) (e : E) → (if not b then Err e else read) ≡ Ok y → (b ≡ true) × (read ≡ Ok y)
ok_past true read y e h = (refl, h)
ok_past false read y e h = cc

-- a test that has to fail first
pub ok_beside : {A E : Type 0} (b : Bool) (read : Result A E) (y : A) (e : E) → (if b then Err e else read) ≡ Ok y → read ≡ Ok y
ok_beside true read y e h = cc
ok_beside false read y e h = h

IsReadable-taken : (r : Reading) (l : Option Line) (next : Reading) → taken r l ≡ Ok next → ((m : Line) → l ≡ Some m → IsLineOf (is_scheduled r.form) m) → IsReadable r → IsReadable next
IsReadable-taken r None next h of is = cc
IsReadable-taken r (Some l) next h of is =
    let t = ok_behind (fits r l) (after r l) next _ h in
    subst IsReadable t.1 (IsReadable-after r l (of l refl) t.0 is)

IsReadable-later_line : (r : Reading) (w : Option Word) (ws : List (List ℕ)) (next : Reading) → later_line r w ws ≡ Ok next → IsReadable r → IsReadable next
IsReadable-later_line r None ws next h is = cc
IsReadable-later_line r (Some w) ws next h is =
    let placed = ok_past (may_stand r w) _ next _ h in
    let allowed = and_parts _ _ placed.0 in
    IsReadable-taken r (line_of w ws) next (ok_beside (stood_before r w) _ next _ placed.1) (λ l e. IsLineOf-line_of (is_scheduled r.form) w ws l e allowed.1) is

-- ---- the first line

IsHeader-new : (form : Form) → 1 ≤ form_blocks form → form_blocks form ≤ MOST_BLOCKS → IsHeader form None None None None None
IsHeader-new form some few = record {
  some_blocks = some;
  most_blocks = few;
  some_depth = lit≤ tt;
  most_depth = lit≤ tt;
  some_queue = lit≤ tt;
  most_queue = lit≤ tt;
  plain_queue = λ _. refl;
  transfers = λ n e. absurd (none-some n e);
  most_cut = λ n e. absurd (none-some n e);
  segments = λ n e. absurd (none-some n e);
}

AreRequests-none : (blocks : ℕ) → AreRequests blocks []
AreRequests-none blocks = record {
  few = lit≤ tt;
  requests = λ i q e. absurd (none-some q e);
  filled = λ q h. absurd h;
}

AreEventLines-none : (scheduled : Bool) → AreEventLines scheduled [] 0
AreEventLines-none scheduled = record {
  each = λ l h. absurd h;
  counted = refl;
  most = lit≤ tt;
}

form_blocks-form_of : (scheduled : Bool) (n : ℕ) → form_blocks (form_of scheduled n) ≡ n
form_blocks-form_of true n = refl
form_blocks-form_of false n = refl

IsReadable-new : (form : Form) → 1 ≤ form_blocks form → form_blocks form ≤ MOST_BLOCKS → IsReadable (new_reading form)
IsReadable-new form some few = record {
  no_elevator = λ _. refl;
  header = IsHeader-new form some few;
  puts = AreRequests-none (form_blocks form);
  events = AreEventLines-none (is_scheduled form);
}

IsReadable-opened : (scheduled : Bool) (n : Option ℕ) (next : Reading) → opened scheduled n ≡ Ok next → IsReadable next
IsReadable-opened scheduled None next h = cc
IsReadable-opened scheduled (Some n) next h =
    let t = ok_behind (nat_le 1 n && nat_le n MOST_BLOCKS) (new_reading (form_of scheduled n)) next _ h in
    let bounds = and_parts _ _ t.0 in
    let same = form_blocks-form_of scheduled n in
    let some = leb-true 1 n bounds.0 in
    let few = leb-true n MOST_BLOCKS bounds.1 in
    subst IsReadable t.1 (IsReadable-new (form_of scheduled n) (omega (arith, same, some)) (omega (arith, same, few)))

IsReadable-form_line : (scheduled : Bool) (ws : List (List ℕ)) (next : Reading) → form_line scheduled ws ≡ Ok next → IsReadable next
IsReadable-form_line scheduled [] next h = cc
IsReadable-form_line scheduled (n ∷ []) next h = IsReadable-opened scheduled (numeral n) next h
IsReadable-form_line scheduled (n ∷ m ∷ ws) next h = cc

IsReadable-known_first : (w : Word) (ws : List (List ℕ)) (next : Reading) → known_first w ws ≡ Ok next → IsReadable next
IsReadable-known_first (word.First first.Device) ws next h = IsReadable-form_line false ws next h
IsReadable-known_first (word.First first.Blocks) ws next h = IsReadable-form_line true ws next h
IsReadable-known_first (word.First first.Volume) ws next h = cc
IsReadable-known_first (word.Header w) ws next h = cc
IsReadable-known_first (word.Body w) ws next h = cc
IsReadable-known_first word.Events ws next h = cc
IsReadable-known_first (word.Plain w) ws next h = cc
IsReadable-known_first (word.Pick w) ws next h = cc
IsReadable-known_first word.OfVolume ws next h = cc

IsReadable-first_line : (w : Option Word) (ws : List (List ℕ)) (next : Reading) → first_line w ws ≡ Ok next → IsReadable next
IsReadable-first_line None ws next h = cc
IsReadable-first_line (Some w) ws next h = IsReadable-known_first w ws next h

IsReadable-read_words : (reading : Option Reading) (ws : List (List ℕ)) (next : Reading) → read_words reading ws ≡ Ok next → IsReadableSoFar reading → IsReadable next
IsReadable-read_words reading [] next h is = cc
IsReadable-read_words None (w ∷ ws) next h is = IsReadable-first_line (word_of w) ws next h
IsReadable-read_words (Some r) (w ∷ ws) next h is = IsReadable-later_line r (word_of w) ws next h is

-- ---- the script

IsRunnable-script_read : (r : Reading) → IsReadable r → IsRunnable (script_read r)
IsRunnable-script_read r is = record {
  some_blocks = is.header.some_blocks;
  few_blocks = is.header.most_blocks;
  some_depth = is.header.some_depth;
  depth = is.header.most_depth;
  some_queue = is.header.some_queue;
  queue = is.header.most_queue;
  flash = is.header.segments;
  few = is.puts.few;
  requests = is.puts.requests;
}

IsWellFormed-script_read : (r : Reading) → IsReadable r → IsWellFormed (script_read r)
IsWellFormed-script_read r is = record {
  runnable = IsRunnable-script_read r is;
  plain_queue = λ e. ap (λ q. unwrap_or q DEFAULT_QUEUE) (is.header.plain_queue e);
  no_elevator = is.no_elevator;
  fail = is.header.transfers;
  cut = is.header.most_cut;
  filled = is.puts.filled;
  events = is.events.each;
  expanded = omega (arith, is.events.counted, is.events.most);
}

IsWellFormed-ended_in : (n : ℕ) (r : Reading) (section : Section) (s : Script) → ended_in n r section ≡ Ok s → IsReadable r → IsWellFormed s
IsWellFormed-ended_in n r sections.Header s h is = cc
IsWellFormed-ended_in n r sections.Body s h is = cc
IsWellFormed-ended_in n r sections.Events s h is =
    let e : script_read r ≡ s = cc in
    subst IsWellFormed e (IsWellFormed-script_read r is)

IsWellFormed-ended : (n : ℕ) (reading : Option Reading) (s : Script) → ended n reading ≡ Ok s → IsReadableSoFar reading → IsWellFormed s
IsWellFormed-ended n None s h is = cc
IsWellFormed-ended n (Some r) s h is = IsWellFormed-ended_in n r r.section s h is

IsWellFormed-read_from : (ls : List (List ℕ)) (n : ℕ) (reading : Option Reading) (s : Script) → read_from n reading ls ≡ Ok s → IsReadableSoFar reading → IsWellFormed s
IsWellFormed-read_from ls n reading s h is =
    said read_one ended (λ reading done. IsReadableSoFar reading) (λ s done. IsWellFormed s)
    (λ reading done l r e is. IsReadable-read_words reading (words_of l) r e is) (λ n reading done s e is. IsWellFormed-ended n reading s e is) ls n reading [] s h is

-- the reader's result
pub IsWellFormed-from_reads : (result : Result Script ScriptError) (ls : List (List ℕ)) → IsTextReadAs result (read_from 1 None ls) → IfOk result IsWellFormed
IsWellFormed-from_reads (Ok s) ls h = IsWellFormed-read_from ls 1 None s h tt
IsWellFormed-from_reads (Err e) ls h = tt

-- the law: a script that is read is well-formed
pub IsWellFormed-script_of : (bytes : List ℕ) (s : Script) → script_of bytes ≡ Ok s → IsWellFormed s
IsWellFormed-script_of bytes s h = IsWellFormed-read_from (lines_of bytes) 1 None s h tt
