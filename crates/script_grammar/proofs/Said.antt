-- The lines of a text that is accepted say its script.
use Rattle.std.proofs.Common.{◌≡◌, ℕ, ◌-◌, ◌^◌, ◌<◌, ◌≤◌, Bool, true, false, ◌&&◌, ◌||◌, List, [], ◌∷◌, ◌++◌, length, codes, decimal, map, Option, Some, None, Result, Ok, Err, is_some, nat_le, nat_lt, unwrap_or, refl, sym, ap, ap₂, ◌∙◌, subst, arith, append_assoc, append-nil, if◌then◌else◌}
use Rattle.std.specs.List.{filter}
use Rattle.std.specs.Option.{option_map}
use Rattle.std.proofs.lemmas.Bool.{and_parts, leb-true}
use borrow.Author.Tests.{ltb-true}
use Rattle.std.proofs.lemmas.List.{map-append}
use Rattle.std.proofs.lemmas.List.Elements.{filter-append}
use Rattle.std.proofs.lemmas.Option.{same_Some, none-some}
use Rattle.blk_base.specs.Members.{In}
use Rattle.blk_base.specs.laws.Members.{each_push}
use Rattle.order_model.specs.declared.request.Request.{Request}
use Rattle.script_words.specs.declared.limits.TheConstants.{MOST_REPEATS, PLACES}
use Rattle.script_grammar.specs.declared.limits.TheConstants.{DEFAULT_DEPTH, DEFAULT_QUEUE, FEWEST_SEGMENTS, MOST_BLOCKS, MOST_DEPTH, MOST_QUEUE, MOST_SEGMENTS, MOST_STEPS, MOST_TRANSFERS}
use Rattle.script_grammar.specs.declared.reading.Reading.{Reading}
use Rattle.script_grammar.specs.declared.reading.Section.{Section}
use Rattle.script_grammar.specs.declared.reading.Section.TheVariants as sections
use Rattle.script_grammar.specs.declared.script.CoreEvent.{CoreEvent}
use Rattle.script_grammar.specs.declared.script.Form.{Form}
use Rattle.script_grammar.specs.declared.script.Script.{Script}
use Rattle.script_grammar.specs.declared.words.BodyWord.TheVariants as body
use Rattle.script_grammar.specs.declared.words.Class.{Class}
use Rattle.script_grammar.specs.declared.words.FirstWord.TheVariants as first
use Rattle.script_grammar.specs.declared.words.HeaderWord.{HeaderWord}
use Rattle.script_grammar.specs.declared.words.HeaderWord.TheVariants as header
use Rattle.script_grammar.specs.declared.words.PickWord.{PickWord}
use Rattle.script_grammar.specs.declared.words.PlainWord.{PlainWord}
use Rattle.script_grammar.specs.declared.words.Word.{Word}
use Rattle.script_grammar.specs.declared.words.Word.TheVariants as word
use Rattle.script_grammar.specs.declared.words.Line.{Line}
use Rattle.script_grammar.specs.declared.words.Line.TheVariants as line
use Rattle.byte_text.specs.Hex.{hex_text}
use Rattle.script_words.specs.Spelling.{numeral, hex_byte, words_of, lines_of, count_of}
use Rattle.script_grammar.specs.Words.{class_of, header_line, put_line, pick_line, line_of, word_of}
use Rattle.script_grammar.specs.Grammar.{form_blocks, is_scheduled, form_of, new_reading, opened, form_line, known_first, first_line, stands_in, may_stand, stood_before, fits, put_request, flush_request, with_request, with_events, plain_event, pick_event, after, taken, later_line, read_words, read_one, script_read, ended_in, ended, script_of}
use Rattle.script_grammar.specs.laws.Speller.{form_words, number_lines, elevator_lines, request_words, event_line_words}
use Rattle.script_words.specs.laws.Texts.{kept_lines}
use Rattle.script_words.proofs.KeptLines.{said}
use Rattle.script_grammar.specs.laws.Accepted.{begins, beginning, or_default, default_depth, filled_queue, SaysScript}
use Rattle.script_grammar.proofs.WellFormed.{ok_behind, ok_past, ok_beside}
use Rattle.script_words.proofs.Chosen.{mapped, chained}
use Rattle.script_grammar.proofs.SpelledLines.{before_events, body_byte-filled}
use Rattle.script_words.proofs.SaidNumbers.{decimal-numeral, hex_text-byte}
use Rattle.script_words.specs.laws.Counts.{with_count}
use Rattle.script_words.proofs.Counts.{with_count-one, with_count-two}
use Rattle.script_grammar.proofs.SaidWords.{IsNamed, named, class_named, plain_text, pick_text, default_text, line_with, plain_said, pick_said}

-- ---- what the lines that were read say of the reading

abbrev pub is_header_line : List (List ℕ) → Bool
is_header_line l = begins (codes "depth") l || (begins (codes "queue") l || (begins (codes "fail") l || (begins (codes "cut") l || (begins (codes "flash") l || begins (codes "elevator") l))))

record SaysHeader (form : Form) (depth queue fail cut flash : Option ℕ) (elevator : Bool) (header : List (List (List ℕ))) : Type 0 where
  depths : beginning (codes "depth") header ≡ number_lines (codes "depth") depth
  queues : beginning (codes "queue") header ≡ number_lines (codes "queue") queue
  fails : beginning (codes "fail") header ≡ number_lines (codes "fail") fail
  cuts : beginning (codes "cut") header ≡ number_lines (codes "cut") cut
  flashes : beginning (codes "flash") header ≡ number_lines (codes "flash") flash
  elevators : beginning (codes "elevator") header ≡ elevator_lines elevator
  known : (l : List (List ℕ)) → In l header → is_header_line l ≡ true
  plain : is_scheduled form ≡ false → queue ≡ None

-- the line `events`, where it was read, and what stands behind it
abbrev tail_of : Section → List (List (List ℕ)) → List (List (List ℕ))
tail_of sections.Header events = []
tail_of sections.Body events = []
tail_of sections.Events events = (codes "events" ∷ []) ∷ events

record Says (r : Reading) (lines : List (List (List ℕ))) : Type 0 where
  few : form_blocks r.form ≤ MOST_BLOCKS
  header : List (List (List ℕ))
  events : List (List (List ℕ))
  whole : lines ≡ form_words r.form ∷ header ++ (map request_words r.puts ++ tail_of r.section events)
  headed : SaysHeader r.form r.depth r.queue r.fail r.cut r.flash r.elevator header
  counted : map with_count events ≡ map event_line_words r.events
  no_puts : r.section ≡ sections.Header → r.puts ≡ []
  no_events : before_events r.section ≡ true → events ≡ []

abbrev SaysSoFar : Option Reading → List (List (List ℕ)) → Type 0
SaysSoFar None lines = lines ≡ []
SaysSoFar (Some r) lines = Says r lines

-- ---- one header line more

is_none : (o : Option ℕ) → is_some o ≡ false → o ≡ None
is_none None h = refl
is_none (Some n) h = cc

beginning-push : (w : List ℕ) (header : List (List (List ℕ))) (l : List (List ℕ)) (o : Option ℕ) (more : List (List (List ℕ))) → beginning w header ≡ number_lines w o → filter (begins w) (l ∷ []) ≡ more → beginning w (header ++ l ∷ []) ≡ number_lines w o ++ more
beginning-push w header l o more had has = filter-append (begins w) header (l ∷ []) ∙ ap₂ (λ (a b : List (List (List ℕ))). a ++ b) had has

beginning-other : (w : List ℕ) (header : List (List (List ℕ))) (l : List (List ℕ)) (o : Option ℕ) → beginning w header ≡ number_lines w o → filter (begins w) (l ∷ []) ≡ [] → beginning w (header ++ l ∷ []) ≡ number_lines w o
beginning-other w header l o had has = beginning-push w header l o [] had has ∙ append-nil (number_lines w o)

beginning-new : (w : List ℕ) (header : List (List (List ℕ))) (n : ℕ) (o : Option ℕ) → o ≡ None → beginning w header ≡ number_lines w o → filter (begins w) ((w ∷ decimal n ∷ []) ∷ []) ≡ (w ∷ decimal n ∷ []) ∷ [] → beginning w (header ++ (w ∷ decimal n ∷ []) ∷ []) ≡ number_lines w (Some n)
beginning-new w header n o none had has =
    beginning-push w header (w ∷ decimal n ∷ []) o ((w ∷ decimal n ∷ []) ∷ []) had has ∙ ap (λ x. number_lines w x ++ (w ∷ decimal n ∷ []) ∷ []) none

abbrev pub elevator_line : List (List ℕ)
elevator_line = codes "elevator" ∷ []

elevators-push : (header : List (List (List ℕ))) (l : List (List ℕ)) (elevator : Bool) (more : List (List (List ℕ))) → beginning (codes "elevator") header ≡ elevator_lines elevator → filter (begins (codes "elevator")) (l ∷ []) ≡ more → beginning (codes "elevator") (header ++ l ∷ []) ≡ elevator_lines elevator ++ more
elevators-push header l elevator more had has = filter-append (begins (codes "elevator")) header (l ∷ []) ∙ ap₂ (λ (a b : List (List (List ℕ))). a ++ b) had has

elevators-other : (header : List (List (List ℕ))) (l : List (List ℕ)) (elevator : Bool) → beginning (codes "elevator") header ≡ elevator_lines elevator → filter (begins (codes "elevator")) (l ∷ []) ≡ [] → beginning (codes "elevator") (header ++ l ∷ []) ≡ elevator_lines elevator
elevators-other header l elevator had has = elevators-push header l elevator [] had has ∙ append-nil (elevator_lines elevator)

elevators-new : (header : List (List (List ℕ))) (elevator : Bool) → elevator ≡ false → beginning (codes "elevator") header ≡ elevator_lines elevator → beginning (codes "elevator") (header ++ elevator_line ∷ []) ≡ elevator_lines true
elevators-new header elevator none had = elevators-push header elevator_line elevator (elevator_line ∷ []) had refl ∙ ap (λ x. elevator_lines x ++ elevator_line ∷ []) none

-- one line more behind all others
push_behind : (front : List (List ℕ)) (header rest : List (List (List ℕ))) (l : List (List ℕ)) → rest ≡ [] → (front ∷ header ++ rest) ++ l ∷ [] ≡ front ∷ (header ++ l ∷ []) ++ rest
push_behind front header rest l none =
    ap (λ x. (front ∷ header ++ x) ++ l ∷ []) none
    ∙ ap (λ x. (front ∷ x) ++ l ∷ []) (append-nil header)
    ∙ ap (λ x. front ∷ x) (sym (append-nil (header ++ l ∷ [])))
    ∙ ap (λ x. front ∷ (header ++ l ∷ []) ++ x) (sym none)

nothing_behind : (r : Reading) (events : List (List (List ℕ))) → r.section ≡ sections.Header → r.puts ≡ [] → map request_words r.puts ++ tail_of r.section events ≡ []
nothing_behind r events here none = ap₂ (λ (qs : List Request) (section : Section). map request_words qs ++ tail_of section events) none here

Says-header : (r : Reading) (lines : List (List (List ℕ))) (l : List (List ℕ)) (depth queue fail cut flash : Option ℕ) (elevator : Bool) → r.section ≡ sections.Header → (is : Says r lines)
    → SaysHeader r.form depth queue fail cut flash elevator (is.header ++ l ∷ []) → Says (record r { depth = depth; queue = queue; fail = fail; cut = cut; flash = flash; elevator = elevator }) (lines ++ l ∷ [])
Says-header r lines l depth queue fail cut flash elevator here is headed = record {
  few = is.few;
  header = is.header ++ l ∷ [];
  events = is.events;
  whole =
      ap (λ ls. ls ++ l ∷ []) is.whole
      ∙ push_behind (form_words r.form) is.header (map request_words r.puts ++ tail_of r.section is.events) l (nothing_behind r is.events here (is.no_puts here));
  headed = headed;
  counted = is.counted;
  no_puts = is.no_puts;
  no_events = is.no_events;
}

abbrev pub depth_line : ℕ → List (List ℕ)
depth_line n = codes "depth" ∷ decimal n ∷ []

abbrev pub queue_line : ℕ → List (List ℕ)
queue_line n = codes "queue" ∷ decimal n ∷ []

abbrev pub fail_line : ℕ → List (List ℕ)
fail_line n = codes "fail" ∷ decimal n ∷ []

abbrev pub cut_line : ℕ → List (List ℕ)
cut_line n = codes "cut" ∷ decimal n ∷ []

abbrev pub flash_line : ℕ → List (List ℕ)
flash_line n = codes "flash" ∷ decimal n ∷ []

Says-depth : (r : Reading) (lines : List (List (List ℕ))) (n : ℕ) → r.section ≡ sections.Header → r.depth ≡ None → Says r lines → Says (record r { depth = Some n }) (lines ++ depth_line n ∷ [])
Says-depth r lines n here none is =
    let h = is.headed in
    Says-header r lines (depth_line n) (Some n) r.queue r.fail r.cut r.flash r.elevator here is (record {
      depths = beginning-new (codes "depth") is.header n r.depth none h.depths refl;
      queues = beginning-other (codes "queue") is.header (depth_line n) r.queue h.queues refl;
      fails = beginning-other (codes "fail") is.header (depth_line n) r.fail h.fails refl;
      cuts = beginning-other (codes "cut") is.header (depth_line n) r.cut h.cuts refl;
      flashes = beginning-other (codes "flash") is.header (depth_line n) r.flash h.flashes refl;
      elevators = elevators-other is.header (depth_line n) r.elevator h.elevators refl;
      known = each_push (λ l. is_header_line l ≡ true) is.header (depth_line n) h.known refl;
      plain = h.plain;
    })

Says-queue : (r : Reading) (lines : List (List (List ℕ))) (n : ℕ) → r.section ≡ sections.Header → r.queue ≡ None → is_scheduled r.form ≡ true → Says r lines → Says (record r { queue = Some n }) (lines ++ queue_line n ∷ [])
Says-queue r lines n here none scheduled is =
    let h = is.headed in
    Says-header r lines (queue_line n) r.depth (Some n) r.fail r.cut r.flash r.elevator here is (record {
      depths = beginning-other (codes "depth") is.header (queue_line n) r.depth h.depths refl;
      queues = beginning-new (codes "queue") is.header n r.queue none h.queues refl;
      fails = beginning-other (codes "fail") is.header (queue_line n) r.fail h.fails refl;
      cuts = beginning-other (codes "cut") is.header (queue_line n) r.cut h.cuts refl;
      flashes = beginning-other (codes "flash") is.header (queue_line n) r.flash h.flashes refl;
      elevators = elevators-other is.header (queue_line n) r.elevator h.elevators refl;
      known = each_push (λ l. is_header_line l ≡ true) is.header (queue_line n) h.known refl;
      plain = λ e. let c : true ≡ false = sym scheduled ∙ e in cc;
    })

Says-fail : (r : Reading) (lines : List (List (List ℕ))) (n : ℕ) → r.section ≡ sections.Header → r.fail ≡ None → Says r lines → Says (record r { fail = Some n }) (lines ++ fail_line n ∷ [])
Says-fail r lines n here none is =
    let h = is.headed in
    Says-header r lines (fail_line n) r.depth r.queue (Some n) r.cut r.flash r.elevator here is (record {
      depths = beginning-other (codes "depth") is.header (fail_line n) r.depth h.depths refl;
      queues = beginning-other (codes "queue") is.header (fail_line n) r.queue h.queues refl;
      fails = beginning-new (codes "fail") is.header n r.fail none h.fails refl;
      cuts = beginning-other (codes "cut") is.header (fail_line n) r.cut h.cuts refl;
      flashes = beginning-other (codes "flash") is.header (fail_line n) r.flash h.flashes refl;
      elevators = elevators-other is.header (fail_line n) r.elevator h.elevators refl;
      known = each_push (λ l. is_header_line l ≡ true) is.header (fail_line n) h.known refl;
      plain = h.plain;
    })

Says-cut : (r : Reading) (lines : List (List (List ℕ))) (n : ℕ) → r.section ≡ sections.Header → r.cut ≡ None → Says r lines → Says (record r { cut = Some n }) (lines ++ cut_line n ∷ [])
Says-cut r lines n here none is =
    let h = is.headed in
    Says-header r lines (cut_line n) r.depth r.queue r.fail (Some n) r.flash r.elevator here is (record {
      depths = beginning-other (codes "depth") is.header (cut_line n) r.depth h.depths refl;
      queues = beginning-other (codes "queue") is.header (cut_line n) r.queue h.queues refl;
      fails = beginning-other (codes "fail") is.header (cut_line n) r.fail h.fails refl;
      cuts = beginning-new (codes "cut") is.header n r.cut none h.cuts refl;
      flashes = beginning-other (codes "flash") is.header (cut_line n) r.flash h.flashes refl;
      elevators = elevators-other is.header (cut_line n) r.elevator h.elevators refl;
      known = each_push (λ l. is_header_line l ≡ true) is.header (cut_line n) h.known refl;
      plain = h.plain;
    })

Says-flash : (r : Reading) (lines : List (List (List ℕ))) (n : ℕ) → r.section ≡ sections.Header → r.flash ≡ None → Says r lines → Says (record r { flash = Some n }) (lines ++ flash_line n ∷ [])
Says-flash r lines n here none is =
    let h = is.headed in
    Says-header r lines (flash_line n) r.depth r.queue r.fail r.cut (Some n) r.elevator here is (record {
      depths = beginning-other (codes "depth") is.header (flash_line n) r.depth h.depths refl;
      queues = beginning-other (codes "queue") is.header (flash_line n) r.queue h.queues refl;
      fails = beginning-other (codes "fail") is.header (flash_line n) r.fail h.fails refl;
      cuts = beginning-other (codes "cut") is.header (flash_line n) r.cut h.cuts refl;
      flashes = beginning-new (codes "flash") is.header n r.flash none h.flashes refl;
      elevators = elevators-other is.header (flash_line n) r.elevator h.elevators refl;
      known = each_push (λ l. is_header_line l ≡ true) is.header (flash_line n) h.known refl;
      plain = h.plain;
    })

Says-elevator : (r : Reading) (lines : List (List (List ℕ))) → r.section ≡ sections.Header → r.elevator ≡ false → Says r lines → Says (record r { elevator = true }) (lines ++ elevator_line ∷ [])
Says-elevator r lines here none is =
    let h = is.headed in
    Says-header r lines elevator_line r.depth r.queue r.fail r.cut r.flash true here is (record {
      depths = beginning-other (codes "depth") is.header elevator_line r.depth h.depths refl;
      queues = beginning-other (codes "queue") is.header elevator_line r.queue h.queues refl;
      fails = beginning-other (codes "fail") is.header elevator_line r.fail h.fails refl;
      cuts = beginning-other (codes "cut") is.header elevator_line r.cut h.cuts refl;
      flashes = beginning-other (codes "flash") is.header elevator_line r.flash h.flashes refl;
      elevators = elevators-new is.header r.elevator none h.elevators;
      known = each_push (λ l. is_header_line l ≡ true) is.header elevator_line h.known refl;
      plain = h.plain;
    })

-- ---- one request more

no_tail : (section : Section) (events : List (List (List ℕ))) → before_events section ≡ true → tail_of section events ≡ []
no_tail sections.Header events h = refl
no_tail sections.Body events h = refl
no_tail sections.Events events h = cc

-- one line more behind the requests
behind_puts : (r : Reading) (lines : List (List (List ℕ))) (l : List (List ℕ)) (is : Says r lines) → before_events r.section ≡ true → lines ++ l ∷ [] ≡ form_words r.form ∷ is.header ++ (map request_words r.puts ++ l ∷ [])
behind_puts r lines l is here =
    let puts = map request_words r.puts in
    ap (λ ls. ls ++ l ∷ []) is.whole
    ∙ ap (λ x. (form_words r.form ∷ is.header ++ (puts ++ x)) ++ l ∷ []) (no_tail r.section is.events here)
    ∙ ap (λ x. (form_words r.form ∷ is.header ++ x) ++ l ∷ []) (append-nil puts)
    ∙ ap (λ x. form_words r.form ∷ x) (append_assoc is.header puts (l ∷ []))

Says-request : (r : Reading) (lines : List (List (List ℕ))) (q : Request) → before_events r.section ≡ true → Says r lines → Says (with_request r q) (lines ++ request_words q ∷ [])
Says-request r lines q here is =
    let puts = map request_words r.puts in
    let l = request_words q in
    record {
      few = is.few;
      header = is.header;
      events = is.events;
      whole =
          behind_puts r lines l is here
          ∙ ap (λ x. form_words r.form ∷ is.header ++ x) (sym (map-append request_words r.puts (q ∷ [])) ∙ sym (append-nil (map request_words (r.puts ++ q ∷ []))));
      headed = is.headed;
      counted = is.counted;
      no_puts = λ e. cc;
      no_events = λ _. is.no_events here;
    }

-- ---- `events`, and one event line more

Says-events : (r : Reading) (lines : List (List (List ℕ))) → before_events r.section ≡ true → Says r lines → Says (record r { section = sections.Events }) (lines ++ (codes "events" ∷ []) ∷ [])
Says-events r lines here is =
    let puts = map request_words r.puts in
    let l = codes "events" ∷ [] in
    record {
      few = is.few;
      header = is.header;
      events = is.events;
      whole =
          behind_puts r lines l is here
          ∙ ap (λ x. form_words r.form ∷ is.header ++ (puts ++ l ∷ x)) (sym (is.no_events here));
      headed = is.headed;
      counted = is.counted;
      no_puts = λ e. cc;
      no_events = λ e. cc;
    }

at_events : (section : Section) {T : Type 0} → section ≡ sections.Events → before_events section ≡ true → T
at_events section e h = let same : before_events section ≡ false = ap before_events e in cc

off_header : (section : Section) {T : Type 0} → section ≡ sections.Events → section ≡ sections.Header → T
off_header section e h = cc

Says-event : (r : Reading) (lines : List (List (List ℕ))) (l : List (List ℕ)) (e : CoreEvent) (n : ℕ) → r.section ≡ sections.Events → with_count l ≡ event_line_words (line_with e n) → Says r lines → Says (with_events r e n) (lines ++ l ∷ [])
Says-event r lines l e n here said is =
    let puts = map request_words r.puts in
    let tail : tail_of r.section is.events ≡ (codes "events" ∷ []) ∷ is.events = ap (λ s. tail_of s is.events) here in
    let tail_more : tail_of r.section (is.events ++ l ∷ []) ≡ (codes "events" ∷ []) ∷ (is.events ++ l ∷ []) = ap (λ s. tail_of s (is.events ++ l ∷ [])) here in
    record {
      few = is.few;
      header = is.header;
      events = is.events ++ l ∷ [];
      whole =
          ap (λ ls. ls ++ l ∷ []) is.whole
          ∙ ap (λ x. (form_words r.form ∷ is.header ++ (puts ++ x)) ++ l ∷ []) tail
          ∙ ap (λ x. form_words r.form ∷ x) (append_assoc is.header (puts ++ (codes "events" ∷ []) ∷ is.events) (l ∷ []) ∙ ap (λ x. is.header ++ x) (append_assoc puts ((codes "events" ∷ []) ∷ is.events) (l ∷ [])))
          ∙ ap (λ x. form_words r.form ∷ is.header ++ (puts ++ x)) (sym tail_more);
      headed = is.headed;
      counted =
          map-append with_count is.events (l ∷ [])
          ∙ ap₂ (λ (a : List (List (List ℕ))) (b : List (List ℕ)). a ++ b ∷ []) is.counted said
          ∙ sym (map-append event_line_words r.events (line_with e n ∷ []));
      no_puts = off_header r.section here;
      no_events = at_events r.section here;
    }

-- ---- where a line may stand

at_header : (section : Section) (w : HeaderWord) → stands_in section (word.Header w) ≡ true → section ≡ sections.Header
at_header sections.Header w h = refl
at_header sections.Body w h = cc
at_header sections.Events w h = cc

body_before : (section : Section) (w : Word) → stands_in section w ≡ true → stands_in sections.Events w ≡ false → before_events section ≡ true
body_before sections.Header w h e = refl
body_before sections.Body w h e = refl
body_before sections.Events w h e = cc

plain_at_events : (section : Section) (w : PlainWord) → stands_in section (word.Plain w) ≡ true → section ≡ sections.Events
plain_at_events sections.Header w h = cc
plain_at_events sections.Body w h = cc
plain_at_events sections.Events w h = refl

pick_at_events : (section : Section) (w : PickWord) → stands_in section (word.Pick w) ≡ true → section ≡ sections.Events
pick_at_events sections.Header w h = cc
pick_at_events sections.Body w h = cc
pick_at_events sections.Events w h = refl

needed : (scheduled : Bool) → (scheduled || false) ≡ true → scheduled ≡ true
needed true s = refl
needed false s = s

-- ---- a later line

-- the line, where its numbers are within their limits
abbrev Adds : Reading → List (List (List ℕ)) → List (List ℕ) → Line → Type 0
Adds r lines ws l = fits r l ≡ true → Says (after r l) (lines ++ ws ∷ [])

-- the words are those that add the line
added : (next : Reading) (lines : List (List (List ℕ))) (ws said : List (List ℕ)) → ws ≡ said → Says next (lines ++ said ∷ []) → Says next (lines ++ ws ∷ [])
added next lines ws said same is = subst (λ l. Says next (lines ++ l ∷ [])) (sym same) is

header_said : (w v t : List ℕ) (n : ℕ) → w ≡ t → numeral v ≡ Some n → n < 2 ^ 64 - 1 → w ∷ v ∷ [] ≡ t ∷ decimal n ∷ []
header_said w v t n name value lt = ap₂ (λ (a b : List ℕ). a ∷ b ∷ []) name (decimal-numeral v n value lt)

adds_header : (r : Reading) (lines : List (List (List ℕ))) (w : List ℕ) (h : HeaderWord) (ws : List (List ℕ)) (l : Line) → IsNamed w (word.Header h) → may_stand r (word.Header h) ≡ true → stood_before r (word.Header h) ≡ false → header_line h ws ≡ Some l → Says r lines → Adds r lines (w ∷ ws) l
adds_header r lines w header.Depth (v ∷ []) l name stands new e is =
    mapped (Adds r lines (w ∷ v ∷ [])) line.Depth (numeral v) l e
    (λ n value fit.
    let few = leb-true n MOST_DEPTH (and_parts (nat_le 1 n) (nat_le n MOST_DEPTH) fit).1 in
    added (record r { depth = Some n }) lines (w ∷ v ∷ []) (depth_line n) (header_said w v (codes "depth") n name value (omega (arith, few)))
    (Says-depth r lines n (at_header r.section header.Depth (and_parts _ _ stands).0) (is_none r.depth new) is))
adds_header r lines w header.Queue (v ∷ []) l name stands new e is =
    mapped (Adds r lines (w ∷ v ∷ [])) line.Queue (numeral v) l e
    (λ n value fit.
    let few = leb-true n MOST_QUEUE (and_parts (nat_le 1 n) (nat_le n MOST_QUEUE) fit).1 in
    let may = and_parts (stands_in r.section (word.Header header.Queue)) (is_scheduled r.form || false) stands in
    added (record r { queue = Some n }) lines (w ∷ v ∷ []) (queue_line n) (header_said w v (codes "queue") n name value (omega (arith, few)))
    (Says-queue r lines n (at_header r.section header.Queue may.0) (is_none r.queue new) (needed (is_scheduled r.form) may.1) is))
adds_header r lines w header.Fail (v ∷ []) l name stands new e is =
    mapped (Adds r lines (w ∷ v ∷ [])) line.Fail (numeral v) l e
    (λ n value fit.
    let few = leb-true n MOST_TRANSFERS (and_parts (nat_le 1 n) (nat_le n MOST_TRANSFERS) fit).1 in
    added (record r { fail = Some n }) lines (w ∷ v ∷ []) (fail_line n) (header_said w v (codes "fail") n name value (omega (arith, few)))
    (Says-fail r lines n (at_header r.section header.Fail (and_parts _ _ stands).0) (is_none r.fail new) is))
adds_header r lines w header.Cut (v ∷ []) l name stands new e is =
    mapped (Adds r lines (w ∷ v ∷ [])) line.Cut (numeral v) l e
    (λ n value fit.
    let few = leb-true n MOST_STEPS fit in
    added (record r { cut = Some n }) lines (w ∷ v ∷ []) (cut_line n) (header_said w v (codes "cut") n name value (omega (arith, few)))
    (Says-cut r lines n (at_header r.section header.Cut (and_parts _ _ stands).0) (is_none r.cut new) is))
adds_header r lines w header.Flash (v ∷ []) l name stands new e is =
    mapped (Adds r lines (w ∷ v ∷ [])) line.Flash (numeral v) l e
    (λ n value fit.
    let few = leb-true n MOST_SEGMENTS (and_parts (nat_le FEWEST_SEGMENTS n) (nat_le n MOST_SEGMENTS) fit).1 in
    added (record r { flash = Some n }) lines (w ∷ v ∷ []) (flash_line n) (header_said w v (codes "flash") n name value (omega (arith, few)))
    (Says-flash r lines n (at_header r.section header.Flash (and_parts _ _ stands).0) (is_none r.flash new) is))
adds_header r lines w header.Flash [] l name stands new e is = absurd (none-some l e)
adds_header r lines w header.Flash (v ∷ u ∷ ws) l name stands new e is = absurd (none-some l e)
adds_header r lines w header.Depth [] l name stands new e is = absurd (none-some l e)
adds_header r lines w header.Depth (v ∷ u ∷ ws) l name stands new e is = absurd (none-some l e)
adds_header r lines w header.Queue [] l name stands new e is = absurd (none-some l e)
adds_header r lines w header.Queue (v ∷ u ∷ ws) l name stands new e is = absurd (none-some l e)
adds_header r lines w header.Cut [] l name stands new e is = absurd (none-some l e)
adds_header r lines w header.Cut (v ∷ u ∷ ws) l name stands new e is = absurd (none-some l e)
adds_header r lines w header.Fail [] l name stands new e is = absurd (none-some l e)
adds_header r lines w header.Fail (v ∷ u ∷ ws) l name stands new e is = absurd (none-some l e)
adds_header r lines w header.Elevator [] l name stands new e is =
    subst (Adds r lines (w ∷ [])) (same_Some line.Elevator l e)
    (λ fit.
    let may = and_parts (stands_in r.section (word.Header header.Elevator)) (is_scheduled r.form || false) stands in
    added (record r { elevator = true }) lines (w ∷ []) elevator_line (ap (λ (x : List ℕ). x ∷ []) name)
    (Says-elevator r lines (at_header r.section header.Elevator may.0) new is))
adds_header r lines w header.Elevator (v ∷ ws) l name stands new e is = absurd (none-some l e)

put_said : (w b v c : List ℕ) (id block value : ℕ) (k : Class) → w ≡ codes "put" → numeral b ≡ Some block → block < 2 ^ 64 - 1 → hex_byte v ≡ Some value → class_of c ≡ Some k
    → w ∷ b ∷ v ∷ c ∷ [] ≡ request_words (put_request id block value k)
put_said w b v c id block value k name number lt byte class =
    ap₂ (λ (x y : List ℕ). x ∷ y ∷ v ∷ c ∷ []) name (decimal-numeral b block number lt)
    ∙ ap₂ (λ (x y : List ℕ). codes "put" ∷ decimal block ∷ x ∷ y ∷ []) (hex_text-byte v value byte ∙ ap hex_text (sym (body_byte-filled value))) (class_named c k class)

adds_put : (r : Reading) (lines : List (List (List ℕ))) (w b v c : List ℕ) (l : Line) → w ≡ codes "put" → before_events r.section ≡ true → put_line b v c ≡ Some l → Says r lines → Adds r lines (w ∷ b ∷ v ∷ c ∷ []) l
adds_put r lines w b v c l name here e is =
    chained (Adds r lines (w ∷ b ∷ v ∷ c ∷ [])) _ (numeral b) l e
    (λ block number f. chained (Adds r lines (w ∷ b ∷ v ∷ c ∷ [])) _ (hex_byte v) l f
    (λ value byte g. mapped (Adds r lines (w ∷ b ∷ v ∷ c ∷ [])) _ (class_of c) l g
    (λ k class fit.
    let within = ltb-true block (form_blocks r.form) (and_parts (nat_lt block (form_blocks r.form)) _ fit).0 in
    let few = is.few in
    let q = put_request (length r.puts) block value k in
    added (with_request r q) lines (w ∷ b ∷ v ∷ c ∷ []) (request_words q) (put_said w b v c (length r.puts) block value k name number (omega (arith, within, few)) byte class)
    (Says-request r lines q here is))))

adds_plain : (r : Reading) (lines : List (List (List ℕ))) (w : List ℕ) (p : PlainWord) (ws : List (List ℕ)) (l : Line) → w ≡ plain_text p → r.section ≡ sections.Events → option_map (line.Plain p) (count_of ws) ≡ Some l → Says r lines → Adds r lines (w ∷ ws) l
adds_plain r lines w p ws l name here e is =
    mapped (Adds r lines (w ∷ ws)) (line.Plain p) (count_of ws) l e
    (λ n number fit.
    let most = leb-true n MOST_REPEATS (and_parts (nat_le n MOST_REPEATS) _ (and_parts (nat_le 1 n) _ fit).1).0 in
    let said = with_count-one w ws n number (omega (arith, most)) ∙ ap (λ (x : List ℕ). x ∷ codes "x" ∷ decimal n ∷ []) name ∙ plain_said p n in
    Says-event r lines (w ∷ ws) (plain_event p) n here said is)

adds_pick : (r : Reading) (lines : List (List (List ℕ))) (w : List ℕ) (p : PickWord) (ws : List (List ℕ)) (l : Line) → w ≡ pick_text p → r.section ≡ sections.Events → pick_line p ws ≡ Some l → Says r lines → Adds r lines (w ∷ ws) l
adds_pick r lines w p [] l name here e is = absurd (none-some l e)
adds_pick r lines w p (v ∷ ws) l name here e is =
    chained (Adds r lines (w ∷ v ∷ ws)) _ (numeral v) l e
    (λ pick place f. mapped (Adds r lines (w ∷ v ∷ ws)) (line.Pick p pick) (count_of ws) l f
    (λ n number fit.
    let parts = and_parts (nat_lt pick PLACES) _ fit in
    let small = ltb-true pick PLACES parts.0 in
    let most = leb-true n MOST_REPEATS (and_parts (nat_le n MOST_REPEATS) _ (and_parts (nat_le 1 n) _ parts.1).1).0 in
    let said =
    with_count-two w v ws n number (omega (arith, most))
    ∙ ap₂ (λ (x y : List ℕ). x ∷ y ∷ codes "x" ∷ decimal n ∷ []) name (decimal-numeral v pick place (omega (arith, small)))
    ∙ pick_said p pick n in
    Says-event r lines (w ∷ v ∷ ws) (pick_event p pick) n here said is))

adds : (r : Reading) (lines : List (List (List ℕ))) (w : List ℕ) (v : Word) (ws : List (List ℕ)) (l : Line) → IsNamed w v → may_stand r v ≡ true → stood_before r v ≡ false → line_of v ws ≡ Some l → Says r lines → Adds r lines (w ∷ ws) l
adds r lines w (word.First f) ws l name stands new e is = absurd (none-some l e)
adds r lines w (word.Header h) ws l name stands new e is = adds_header r lines w h ws l name stands new e is
adds r lines w (word.Body body.Put) [] l name stands new e is = absurd (none-some l e)
adds r lines w (word.Body body.Put) (b ∷ []) l name stands new e is = absurd (none-some l e)
adds r lines w (word.Body body.Put) (b ∷ v ∷ []) l name stands new e is = absurd (none-some l e)
adds r lines w (word.Body body.Put) (b ∷ v ∷ c ∷ []) l name stands new e is =
    adds_put r lines w b v c l name (body_before r.section (word.Body body.Put) (and_parts _ _ stands).0 refl) e is
adds r lines w (word.Body body.Put) (b ∷ v ∷ c ∷ d ∷ ws) l name stands new e is = absurd (none-some l e)
adds r lines w (word.Body body.Flush) [] l name stands new e is =
    let q = flush_request (length r.puts) in
    let more = added (with_request r q) lines (w ∷ []) (request_words q) (ap (λ (x : List ℕ). x ∷ []) name) (Says-request r lines q (body_before r.section (word.Body body.Flush) (and_parts _ _ stands).0 refl) is) in
    subst (Adds r lines (w ∷ [])) (same_Some line.Flush l e) (λ _. more)
adds r lines w (word.Body body.Flush) (b ∷ ws) l name stands new e is = absurd (none-some l e)
adds r lines w word.Events [] l name stands new e is =
    let more = added (record r { section = sections.Events }) lines (w ∷ []) (codes "events" ∷ []) (ap (λ (x : List ℕ). x ∷ []) name) (Says-events r lines (body_before r.section word.Events (and_parts _ _ stands).0 refl) is) in
    subst (Adds r lines (w ∷ [])) (same_Some line.Events l e) (λ _. more)
adds r lines w word.Events (b ∷ ws) l name stands new e is = absurd (none-some l e)
adds r lines w (word.Plain p) ws l name stands new e is =
    adds_plain r lines w p ws l name (plain_at_events r.section p (and_parts _ _ stands).0) e is
adds r lines w (word.Pick p) ws l name stands new e is =
    adds_pick r lines w p ws l name (pick_at_events r.section p (and_parts _ _ stands).0) e is
adds r lines w word.OfVolume ws l name stands new e is = absurd (none-some l e)

Says-taken : (r : Reading) (lines : List (List (List ℕ))) (ws : List (List ℕ)) (o : Option Line) (next : Reading) → taken r o ≡ Ok next → ((l : Line) → o ≡ Some l → Adds r lines ws l) → Says next (lines ++ ws ∷ [])
Says-taken r lines ws None next h of = cc
Says-taken r lines ws (Some l) next h of =
    let t = ok_behind (fits r l) (after r l) next _ h in
    subst (λ n. Says n (lines ++ ws ∷ [])) t.1 (of l refl t.0)

not_stood : {A E : Type 0} (b : Bool) (read : Result A E) (y : A) (e : E) → (if b then Err e else read) ≡ Ok y → b ≡ false
not_stood true read y e h = cc
not_stood false read y e h = refl

Says-later : (r : Reading) (lines : List (List (List ℕ))) (w : List ℕ) (o : Option Word) (ws : List (List ℕ)) (next : Reading) → word_of w ≡ o → later_line r o ws ≡ Ok next → Says r lines → Says next (lines ++ (w ∷ ws) ∷ [])
Says-later r lines w None ws next e h is = cc
Says-later r lines w (Some v) ws next e h is =
    let placed = ok_past (may_stand r v) _ next _ h in
    let new = not_stood (stood_before r v) _ next _ placed.1 in
    Says-taken r lines (w ∷ ws) (line_of v ws) next (ok_beside (stood_before r v) _ next _ placed.1) (λ l f. adds r lines w v ws l (named w v e) placed.0 new f is)

-- ---- the first line

SaysHeader-none : (form : Form) → SaysHeader form None None None None None false []
SaysHeader-none form = record {
  depths = refl;
  queues = refl;
  fails = refl;
  cuts = refl;
  flashes = refl;
  elevators = refl;
  known = λ l h. absurd h;
  plain = λ _. refl;
}

Says-new : (form : Form) → form_blocks form ≤ MOST_BLOCKS → Says (new_reading form) (form_words form ∷ [])
Says-new form few = record {
  few = few;
  header = [];
  events = [];
  whole = refl;
  headed = SaysHeader-none form;
  counted = refl;
  no_puts = λ _. refl;
  no_events = λ _. refl;
}

form_words-form_of : (scheduled : Bool) (n : ℕ) → form_words (form_of scheduled n) ≡ (if scheduled then codes "blocks" else codes "device") ∷ decimal n ∷ []
form_words-form_of true n = refl
form_words-form_of false n = refl

form_blocks-form_of : (scheduled : Bool) (n : ℕ) → form_blocks (form_of scheduled n) ≡ n
form_blocks-form_of true n = refl
form_blocks-form_of false n = refl

Says-opened : (scheduled : Bool) (w v : List ℕ) (o : Option ℕ) (next : Reading) → w ≡ (if scheduled then codes "blocks" else codes "device") → numeral v ≡ o → opened scheduled o ≡ Ok next → Says next ((w ∷ v ∷ []) ∷ [])
Says-opened scheduled w v None next name value h = cc
Says-opened scheduled w v (Some n) next name value h =
    let t = ok_behind (nat_le 1 n && nat_le n MOST_BLOCKS) (new_reading (form_of scheduled n)) next _ h in
    let most = leb-true n MOST_BLOCKS (and_parts (nat_le 1 n) (nat_le n MOST_BLOCKS) t.0).1 in
    let same = form_blocks-form_of scheduled n in
    let said = header_said w v (if scheduled then codes "blocks" else codes "device") n name value (omega (arith, most)) ∙ sym (form_words-form_of scheduled n) in
    subst (λ r. Says r ((w ∷ v ∷ []) ∷ [])) t.1
    (subst (λ l. Says (new_reading (form_of scheduled n)) (l ∷ [])) (sym said) (Says-new (form_of scheduled n) (omega (arith, same, most))))

Says-form : (scheduled : Bool) (w : List ℕ) (ws : List (List ℕ)) (next : Reading) → w ≡ (if scheduled then codes "blocks" else codes "device") → form_line scheduled ws ≡ Ok next → Says next ((w ∷ ws) ∷ [])
Says-form scheduled w [] next name h = cc
Says-form scheduled w (v ∷ []) next name h = Says-opened scheduled w v (numeral v) next name refl h
Says-form scheduled w (v ∷ u ∷ ws) next name h = cc

Says-known : (w : List ℕ) (v : Word) (ws : List (List ℕ)) (next : Reading) → IsNamed w v → known_first v ws ≡ Ok next → Says next ((w ∷ ws) ∷ [])
Says-known w (word.First first.Device) ws next name h = Says-form false w ws next name h
Says-known w (word.First first.Blocks) ws next name h = Says-form true w ws next name h
Says-known w (word.First first.Volume) ws next name h = cc
Says-known w (word.Header v) ws next name h = cc
Says-known w (word.Body v) ws next name h = cc
Says-known w word.Events ws next name h = cc
Says-known w (word.Plain v) ws next name h = cc
Says-known w (word.Pick v) ws next name h = cc
Says-known w word.OfVolume ws next name h = cc

Says-first : (w : List ℕ) (o : Option Word) (ws : List (List ℕ)) (next : Reading) → word_of w ≡ o → first_line o ws ≡ Ok next → Says next ((w ∷ ws) ∷ [])
Says-first w None ws next e h = cc
Says-first w (Some v) ws next e h = Says-known w v ws next (named w v e) h

Says-words : (reading : Option Reading) (lines : List (List (List ℕ))) (ws : List (List ℕ)) (next : Reading) → read_words reading ws ≡ Ok next → SaysSoFar reading lines → Says next (lines ++ ws ∷ [])
Says-words reading lines [] next h is = cc
Says-words None lines (w ∷ ws) next h is = subst (λ ls. Says next (ls ++ (w ∷ ws) ∷ [])) (sym is) (Says-first w (word_of w) ws next refl h)
Says-words (Some r) lines (w ∷ ws) next h is = Says-later r lines w (word_of w) ws next refl h is

-- ---- the script

filled_depth : (o : Option ℕ) → or_default default_depth (number_lines (codes "depth") o) ≡ depth_line (unwrap_or o DEFAULT_DEPTH) ∷ []
filled_depth None = ap (λ (w : List ℕ). (codes "depth" ∷ w ∷ []) ∷ []) default_text
filled_depth (Some n) = refl

filled_queues : (scheduled : Bool) (o : Option ℕ) → (scheduled ≡ false → o ≡ None) → filled_queue scheduled (number_lines (codes "queue") o) ≡ (if scheduled then queue_line (unwrap_or o DEFAULT_QUEUE) ∷ [] else [])
filled_queues true None plain = ap (λ (w : List ℕ). (codes "queue" ∷ w ∷ []) ∷ []) default_text
filled_queues true (Some n) plain = refl
filled_queues false None plain = refl
filled_queues false (Some n) plain = let none = plain refl in cc

SaysScript-read : (r : Reading) (lines : List (List (List ℕ))) → r.section ≡ sections.Events → Says r lines → SaysScript (script_read r) lines
SaysScript-read r lines here is =
    let h = is.headed in
    record {
      header = is.header;
      events = is.events;
      whole = is.whole ∙ ap (λ s. form_words r.form ∷ is.header ++ (map request_words r.puts ++ tail_of s is.events)) here;
      headed = record {
        depth = ap (or_default default_depth) h.depths ∙ filled_depth r.depth;
        queue = ap (filled_queue (is_scheduled r.form)) h.queues ∙ filled_queues (is_scheduled r.form) r.queue h.plain;
        fail = h.fails;
        cut = h.cuts;
        flash = h.flashes;
        elevator = h.elevators;
        known = h.known;
      };
      counted = is.counted;
    }

SaysScript-ended_in : (n : ℕ) (r : Reading) (section : Section) (s : Script) (lines : List (List (List ℕ))) → r.section ≡ section → ended_in n r section ≡ Ok s → Says r lines → SaysScript s lines
SaysScript-ended_in n r sections.Header s lines here h is = cc
SaysScript-ended_in n r sections.Body s lines here h is = cc
SaysScript-ended_in n r sections.Events s lines here h is =
    let e : script_read r ≡ s = cc in
    subst (λ t. SaysScript t lines) e (SaysScript-read r lines here is)

SaysScript-ended : (n : ℕ) (reading : Option Reading) (s : Script) (lines : List (List (List ℕ))) → ended n reading ≡ Ok s → SaysSoFar reading lines → SaysScript s lines
SaysScript-ended n None s lines h is = cc
SaysScript-ended n (Some r) s lines h is = SaysScript-ended_in n r r.section s lines refl h is

-- ---- all lines

-- the law: a text that is accepted says its script
pub SaysScript-script_of : (bytes : List ℕ) (s : Script) → script_of bytes ≡ Ok s → SaysScript s (kept_lines (lines_of bytes))
SaysScript-script_of bytes s h =
    said read_one ended SaysSoFar SaysScript (λ reading done l r e is. Says-words reading done (words_of l) r e is) (λ n reading done s e is. SaysScript-ended n reading s done e is) (lines_of bytes) 1 None [] s h refl
