-- The lines of a text that is accepted say its script.
use Rattle.std.proofs.Common.{◌≡◌, ℕ, ◌+◌, Bool, true, false, ◌&&◌, List, [], ◌∷◌, ◌++◌, length, codes, decimal, map, Option, Some, None, Result, Ok, Err, is_some, nat_le, nat_lt, unwrap_or, refl, sym, ap, ap₂, ◌∙◌, subst, inl, inr, arith, append_assoc, append-nil}
use Rattle.std.proofs.lemmas.Bool.{and_parts, leb-true}
use Rattle.std.proofs.lemmas.List.{map-append}
use Rattle.std.proofs.lemmas.List.Elements.{filter-append}
use Rattle.blk_base.specs.Members.{In}
use Rattle.blk_base.specs.laws.Members.{each_push}
use Rattle.script_words.specs.declared.line_error.LineFault.{LineFault}
use Rattle.script_words.specs.Spelling.{numeral, words_of, lines_of}
use Rattle.script_words.specs.laws.Texts.{kept_lines}
use Rattle.script_words.proofs.KeptLines.{said}
use Rattle.script_words.proofs.SaidNumbers.{decimal-numeral}
use Rattle.script_grammar.specs.declared.limits.TheConstants.{DEFAULT_DEPTH, DEFAULT_QUEUE}
use Rattle.script_grammar.specs.declared.kinds.ScriptKind.{ScriptKind}
use Rattle.script_grammar.specs.laws.Accepted.{begins, beginning, or_default}
use Rattle.script_grammar.proofs.SaidWords.{default_text}
use Rattle.script_grammar.proofs.WellFormed.{ok_behind, ok_past, ok_beside}
use Rattle.line_grammar.specs.declared.events.event.EventLine.{EventLine}
use Rattle.line_grammar.specs.declared.events.steer.Steer.{Steer}
use Rattle.line_grammar.specs.declared.events.words.EventFirst.{EventFirst}
use Rattle.line_grammar.specs.events.EventLines.{event_word, event_of}
use Rattle.line_grammar.specs.events.SteerLines.{steers_of}
use Rattle.line_grammar.specs.events.laws.Speller as event_speller
use Rattle.line_grammar.proofs.EventsLemmas.EventLaws as event_laws
use Rattle.line_grammar.proofs.EventsLemmas.SteerLaws.{steers_said}
use Rattle.session_grammar.specs.declared.limits.TheConstants.{MOST_CALLS, MOST_RECOVERS}
use Rattle.session_grammar.specs.laws.Accepted.{SayEvents}
use Rattle.session_grammar.specs.laws.Speller.{number_words, number_lines, recover_words}
use Rattle.session_grammar.proofs.HeaderRead.{beginning-with, beginning-without}
use Rattle.session_grammar.proofs.Said.{SayEvents-push, not_stood, is_none}
use Rattle.wal_store.specs.declared.puts.Put.{Put}
use Rattle.wal_store.specs.declared.puts.Op.{Op}
use Rattle.wal_store.specs.declared.puts.Op.TheVariants as ops
use Rattle.wal_store.specs.Puts.{is_key, is_value}
use Rattle.store_grammar.specs.declared.limits.TheConstants.{MOST_STORE}
use Rattle.store_grammar.specs.declared.reading.Reading.{Reading}
use Rattle.store_grammar.specs.declared.reading.Section.{Section}
use Rattle.store_grammar.specs.declared.reading.Section.TheVariants as sections
use Rattle.store_grammar.specs.declared.header.HeaderSoFar.{HeaderSoFar}
use Rattle.store_grammar.specs.declared.script.StoreScript.{StoreScript}
use Rattle.store_grammar.specs.declared.words.HeaderWord.{HeaderWord}
use Rattle.store_grammar.specs.declared.words.HeaderWord.TheVariants as header
use Rattle.store_grammar.specs.declared.words.Word.{Word}
use Rattle.store_grammar.specs.declared.words.Word.TheVariants as word
use Rattle.store_grammar.specs.Words.{word_of}
use Rattle.store_grammar.specs.Grammar.{none_told, new_reading, room_taken, store_line, first_line, stands_in, told_number, stood_before, number_fits, with_number, number_taken, header_line, header_taken, with_put, put_fits, put_added, put_line, with_flush, flush_line, events_line, event_fits, with_event, event_taken, with_recover, recover_taken, line_taken, later_line, is_behind_events, read_words, read_one, header_of, script_read, ended_in, ended, store_of}
use Rattle.store_grammar.specs.laws.Accepted.{is_header_line, IsHeaderOf, SaysStore}
use Rattle.store_grammar.specs.laws.Speller.{store_words, op_words}
use Rattle.store_grammar.proofs.Names.{header_name, IsNamed, named}
use Rattle.store_grammar.proofs.HeaderRead.{apart, told_same, small_number}
use Rattle.store_grammar.proofs.WellFormed.{ok_when}

-- ---- what the lines that were read say of the reading

record SaysHeader (t : HeaderSoFar) (header : List (List (List ℕ))) : Type 0 where
  numbers : (w : HeaderWord) → beginning (header_name w) header ≡ number_lines (header_name w) (told_number t w)
  known : (l : List (List ℕ)) → In l header → is_header_line l ≡ true

-- the line `events`, where it was read, and what stands behind it
abbrev tail_of : Section → List (List (List ℕ)) → List (List Steer) → List (List (List ℕ))
tail_of sections.Header events recovers = []
tail_of sections.Asking events recovers = []
tail_of sections.Events events recovers = (codes "events" ∷ []) ∷ events ++ map recover_words recovers
tail_of sections.Recovery events recovers = (codes "events" ∷ []) ∷ events ++ map recover_words recovers

abbrev is_header : Section → Bool
is_header sections.Header = true
is_header sections.Asking = false
is_header sections.Events = false
is_header sections.Recovery = false

abbrev is_recovery : Section → Bool
is_recovery sections.Header = false
is_recovery sections.Asking = false
is_recovery sections.Events = false
is_recovery sections.Recovery = true

-- all lines behind the header
abbrev rest_of : Reading → List (List (List ℕ)) → List (List (List ℕ))
rest_of r events = map op_words r.ops ++ tail_of r.section events r.recovers

record Says (r : Reading) (lines : List (List (List ℕ))) : Type 0 where
  header : List (List (List ℕ))
  events : List (List (List ℕ))
  whole : lines ≡ store_words r.room ∷ header ++ rest_of r events
  headed : SaysHeader r.told header
  said : SayEvents r.events events
  no_ops : is_header r.section ≡ true → r.ops ≡ []
  no_events : is_behind_events r.section ≡ false → events ≡ []
  no_recovers : is_recovery r.section ≡ false → r.recovers ≡ []

abbrev SaysSoFar : Option Reading → List (List (List ℕ)) → Type 0
SaysSoFar None lines = lines ≡ []
SaysSoFar (Some r) lines = Says r lines

-- ---- one header line more

beginning-push : (w : List ℕ) (header : List (List (List ℕ))) (l : List (List ℕ)) (had more : List (List (List ℕ))) → beginning w header ≡ had → beginning w (l ∷ []) ≡ more → beginning w (header ++ l ∷ []) ≡ had ++ more
beginning-push w header l had more e f = filter-append (begins w) header (l ∷ []) ∙ ap₂ (λ (a b : List (List (List ℕ))). a ++ b) e f

begins_itself : (w : HeaderWord) (n : ℕ) → begins (header_name w) (number_words (header_name w) n) ≡ true
begins_itself header.Depth n = refl
begins_itself header.Queue n = refl
begins_itself header.Fail n = refl
begins_itself header.Cut n = refl

header_line-number : (w : HeaderWord) (n : ℕ) → is_header_line (number_words (header_name w) n) ≡ true
header_line-number header.Depth n = refl
header_line-number header.Queue n = refl
header_line-number header.Fail n = refl
header_line-number header.Cut n = refl

says_number : (t : HeaderSoFar) (header : List (List (List ℕ))) (w v : HeaderWord) (n : ℕ) → told_number t w ≡ None → SaysHeader t header
    → beginning (header_name v) (header ++ number_words (header_name w) n ∷ []) ≡ number_lines (header_name v) (told_number (with_number t w n) v)
says_number t header w v n none is =
    let l = number_words (header_name w) n in
    elim (apart v w) [
      | inl a ↦
          beginning-push (header_name v) header l (number_lines (header_name v) (told_number t v)) [] (is.numbers v) (beginning-without (header_name v) l [] (a.line n))
          ∙ append-nil (number_lines (header_name v) (told_number t v))
          ∙ ap (number_lines (header_name v)) (sym (a.told t n))
      | inr e ↦
          subst (λ x. beginning (header_name x) (header ++ l ∷ []) ≡ number_lines (header_name x) (told_number (with_number t w n) x)) (sym e)
          (beginning-push (header_name w) header l [] (l ∷ []) (is.numbers w ∙ ap (number_lines (header_name w)) none) (beginning-with (header_name w) l [] (begins_itself w n))
          ∙ ap (number_lines (header_name w)) (sym (told_same w t n)))
    ]

SaysHeader-number : (t : HeaderSoFar) (header : List (List (List ℕ))) (w : HeaderWord) (n : ℕ) → told_number t w ≡ None → SaysHeader t header → SaysHeader (with_number t w n) (header ++ number_words (header_name w) n ∷ [])
SaysHeader-number t header w n none is = record {
  numbers = λ v. says_number t header w v n none is;
  known = each_push (λ x. is_header_line x ≡ true) header (number_words (header_name w) n) is.known (header_line-number w n);
}

-- one line more behind the header, where nothing stands behind
push_header : (front : List (List ℕ)) (header rest : List (List (List ℕ))) (l : List (List ℕ)) → rest ≡ [] → (front ∷ header ++ rest) ++ l ∷ [] ≡ front ∷ (header ++ l ∷ []) ++ rest
push_header front header rest l none =
    ap (λ x. (front ∷ header ++ x) ++ l ∷ []) none
    ∙ ap (λ x. (front ∷ x) ++ l ∷ []) (append-nil header)
    ∙ ap (λ x. front ∷ x) (sym (append-nil (header ++ l ∷ [])))
    ∙ ap (λ x. front ∷ (header ++ l ∷ []) ++ x) (sym none)

-- header lines stand before all that is asked
header_stands : (s : Section) (w : HeaderWord) → stands_in s (word.Header w) ≡ true → s ≡ sections.Header
header_stands sections.Header w h = refl
header_stands sections.Asking w h = cc
header_stands sections.Events w h = cc
header_stands sections.Recovery w h = cc

nothing_behind : (r : Reading) (events : List (List (List ℕ))) → r.section ≡ sections.Header → r.ops ≡ [] → rest_of r events ≡ []
nothing_behind r events here none = ap₂ (λ (s : Section) (xs : List Op). map op_words xs ++ tail_of s events r.recovers) here none

Says-told : (r : Reading) (lines : List (List (List ℕ))) (l : List (List ℕ)) (t : HeaderSoFar) → r.section ≡ sections.Header → (is : Says r lines) → SaysHeader t (is.header ++ l ∷ []) → Says (record r { told = t }) (lines ++ l ∷ [])
Says-told r lines l t here is headed = record {
  header = is.header ++ l ∷ [];
  events = is.events;
  whole = ap (λ ls. ls ++ l ∷ []) is.whole ∙ push_header (store_words r.room) is.header (rest_of r is.events) l (nothing_behind r is.events here (is.no_ops (ap is_header here)));
  headed = headed;
  said = is.said;
  no_ops = is.no_ops;
  no_events = is.no_events;
  no_recovers = is.no_recovers;
}

number_line_said : (w u : List ℕ) (v : HeaderWord) (n : ℕ) → w ≡ header_name v → numeral u ≡ Some n → number_fits v n ≡ true → w ∷ u ∷ [] ≡ number_words (header_name v) n
number_line_said w u v n name value fits = ap₂ (λ (x y : List ℕ). x ∷ y ∷ []) name (decimal-numeral u n value (small_number v n fits))

Says-number : (r : Reading) (lines : List (List (List ℕ))) (w u : List ℕ) (v : HeaderWord) (o : Option ℕ) (t : HeaderSoFar) → w ≡ header_name v → numeral u ≡ o → number_taken r.told v o ≡ Ok t → told_number r.told v ≡ None → r.section ≡ sections.Header → Says r lines
    → Says (record r { told = t }) (lines ++ (w ∷ u ∷ []) ∷ [])
Says-number r lines w u v None t name value h fresh here is = cc
Says-number r lines w u v (Some n) t name value h fresh here is =
    let p = ok_behind (number_fits v n) (with_number r.told v n) t _ h in
    let said = number_line_said w u v n name value p.0 in
    subst (λ x. Says (record r { told = x }) (lines ++ (w ∷ u ∷ []) ∷ [])) p.1
    (subst (λ x. Says (record r { told = with_number r.told v n }) (lines ++ x ∷ [])) (sym said)
    (Says-told r lines (number_words (header_name v) n) (with_number r.told v n) here is (SaysHeader-number r.told is.header v n fresh is.headed)))

Says-header_line : (r : Reading) (lines : List (List (List ℕ))) (w : List ℕ) (v : HeaderWord) (ws : List (List ℕ)) (t : HeaderSoFar) → w ≡ header_name v → header_line r.told v ws ≡ Ok t → is_some (told_number r.told v) ≡ false → r.section ≡ sections.Header → Says r lines
    → Says (record r { told = t }) (lines ++ (w ∷ ws) ∷ [])
Says-header_line r lines w v [] t name h new here is = cc
Says-header_line r lines w v (u ∷ []) t name h new here is = Says-number r lines w u v (numeral u) t name refl h (is_none (told_number r.told v) new) here is
Says-header_line r lines w v (u ∷ x ∷ ws) t name h new here is = cc

Says-header_taken : (r : Reading) (lines : List (List (List ℕ))) (l : List (List ℕ)) (read : Result HeaderSoFar ScriptKind) (next : Reading) → header_taken r read ≡ Ok next → ((t : HeaderSoFar) → read ≡ Ok t → Says (record r { told = t }) (lines ++ l ∷ [])) → Says next (lines ++ l ∷ [])
Says-header_taken r lines l (Err kind) next h of = cc
Says-header_taken r lines l (Ok t) next h of = let e : record r { told = t } ≡ next = cc in subst (λ x. Says x (lines ++ l ∷ [])) e (of t refl)

-- ---- one line more behind all

push_rest : (front : List (List ℕ)) (header rest : List (List (List ℕ))) (l : List (List ℕ)) (next : List (List (List ℕ))) → rest ++ l ∷ [] ≡ next → (front ∷ header ++ rest) ++ l ∷ [] ≡ front ∷ header ++ next
push_rest front header rest l next e = ap (λ x. front ∷ x) (append_assoc header rest (l ∷ []) ∙ ap (λ x. header ++ x) e)

asking_tail : (s : Section) (events : List (List (List ℕ))) (recovers : List (List Steer)) → is_behind_events s ≡ false → tail_of s events recovers ≡ []
asking_tail sections.Header events recovers here = refl
asking_tail sections.Asking events recovers here = refl
asking_tail sections.Events events recovers here = cc
asking_tail sections.Recovery events recovers here = cc

no_recovery : (s : Section) → is_behind_events s ≡ false → is_recovery s ≡ false
no_recovery sections.Header here = refl
no_recovery sections.Asking here = refl
no_recovery sections.Events here = refl
no_recovery sections.Recovery here = cc

-- one line more of what is asked, behind which nothing stands
push_op : (asked tail : List (List (List ℕ))) (l : List (List ℕ)) (more : List (List (List ℕ))) → tail ≡ [] → asked ++ l ∷ [] ≡ more → (asked ++ tail) ++ l ∷ [] ≡ more ++ []
push_op asked tail l more none e =
    ap (λ x. (asked ++ x) ++ l ∷ []) none
    ∙ ap (λ x. x ++ l ∷ []) (append-nil asked)
    ∙ e
    ∙ sym (append-nil more)

-- what one thing more that is asked leaves
abbrev with_op : Reading → Op → ℕ → ℕ → Reading
with_op r op puts calls = record r { section = sections.Asking; ops = r.ops ++ op ∷ []; puts = puts; calls = calls }

Says-op : (r : Reading) (lines : List (List (List ℕ))) (op : Op) (puts calls : ℕ) → is_behind_events r.section ≡ false → Says r lines → Says (with_op r op puts calls) (lines ++ op_words op ∷ [])
Says-op r lines op puts calls here is =
    let l = op_words op in
    record {
      header = is.header;
      events = is.events;
      whole =
          ap (λ ls. ls ++ l ∷ []) is.whole
          ∙ push_rest (store_words r.room) is.header (rest_of r is.events) l (rest_of (with_op r op puts calls) is.events)
          (push_op (map op_words r.ops) (tail_of r.section is.events r.recovers) l (map op_words (r.ops ++ op ∷ [])) (asking_tail r.section is.events r.recovers here) (sym (map-append op_words r.ops (op ∷ []))));
      headed = is.headed;
      said = is.said;
      no_ops = λ e. cc;
      no_events = λ _. is.no_events here;
      no_recovers = λ _. is.no_recovers (no_recovery r.section here);
    }

-- one line more of the tail
push_tail : (asked tail : List (List (List ℕ))) (l : List (List ℕ)) (more : List (List (List ℕ))) → tail ++ l ∷ [] ≡ more → (asked ++ tail) ++ l ∷ [] ≡ asked ++ more
push_tail asked tail l more e = append_assoc asked tail (l ∷ []) ∙ ap (λ x. asked ++ x) e

Says-events : (r : Reading) (lines : List (List (List ℕ))) → is_behind_events r.section ≡ false → Says r lines → Says (record r { section = sections.Events }) (lines ++ (codes "events" ∷ []) ∷ [])
Says-events r lines here is =
    let l = codes "events" ∷ [] in
    let none = is.no_events here in
    let calm = is.no_recovers (no_recovery r.section here) in
    let tail : tail_of r.section is.events r.recovers ++ l ∷ [] ≡ l ∷ is.events ++ map recover_words r.recovers =
    ap (λ x. x ++ l ∷ []) (asking_tail r.section is.events r.recovers here) ∙ ap₂ (λ (x : List (List (List ℕ))) (y : List (List Steer)). l ∷ x ++ map recover_words y) (sym none) (sym calm) in
    record {
      header = is.header;
      events = is.events;
      whole =
          ap (λ ls. ls ++ l ∷ []) is.whole
          ∙ push_rest (store_words r.room) is.header (rest_of r is.events) l (rest_of (record r { section = sections.Events }) is.events)
          (push_tail (map op_words r.ops) (tail_of r.section is.events r.recovers) l (l ∷ is.events ++ map recover_words r.recovers) tail);
      headed = is.headed;
      said = is.said;
      no_ops = λ e. cc;
      no_events = λ e. cc;
      no_recovers = λ _. calm;
    }

Says-event : (r : Reading) (lines : List (List (List ℕ))) (e : EventLine) (l : List (List ℕ)) → r.section ≡ sections.Events → event_speller.SaysEvent e l → Says r lines → Says (with_event r e) (lines ++ l ∷ [])
Says-event r lines e l here says is =
    let calm = is.no_recovers (ap is_recovery here) in
    let start = codes "events" ∷ [] in
    let tail : tail_of r.section is.events r.recovers ++ l ∷ [] ≡ tail_of r.section (is.events ++ l ∷ []) r.recovers =
    ap₂ (λ (s : Section) (y : List (List Steer)). tail_of s is.events y ++ l ∷ []) here calm
    ∙ ap (λ x. (start ∷ x) ++ l ∷ []) (append-nil is.events)
    ∙ ap (λ x. start ∷ x) (sym (append-nil (is.events ++ l ∷ [])))
    ∙ ap₂ (λ (s : Section) (y : List (List Steer)). tail_of s (is.events ++ l ∷ []) y) (sym here) (sym calm) in
    record {
      header = is.header;
      events = is.events ++ l ∷ [];
      whole =
          ap (λ ls. ls ++ l ∷ []) is.whole
          ∙ push_rest (store_words r.room) is.header (rest_of r is.events) l (rest_of (with_event r e) (is.events ++ l ∷ []))
          (push_tail (map op_words r.ops) (tail_of r.section is.events r.recovers) l (tail_of r.section (is.events ++ l ∷ []) r.recovers) tail);
      headed = is.headed;
      said = SayEvents-push r.events is.events e l is.said says;
      no_ops = is.no_ops;
      no_events = λ f. let x : true ≡ false = ap is_behind_events (sym here) ∙ f in cc;
      no_recovers = is.no_recovers;
    }

tail_behind : (s : Section) (events : List (List (List ℕ))) (recovers : List (List Steer)) → is_behind_events s ≡ true → tail_of s events recovers ≡ (codes "events" ∷ []) ∷ events ++ map recover_words recovers
tail_behind sections.Header events recovers h = cc
tail_behind sections.Asking events recovers h = cc
tail_behind sections.Events events recovers h = refl
tail_behind sections.Recovery events recovers h = refl

Says-recover : (r : Reading) (lines : List (List (List ℕ))) (ss : List Steer) → is_behind_events r.section ≡ true → Says r lines → Says (with_recover r ss) (lines ++ recover_words ss ∷ [])
Says-recover r lines ss here is =
    let l = recover_words ss in
    let start = codes "events" ∷ [] in
    let tail : tail_of r.section is.events r.recovers ++ l ∷ [] ≡ start ∷ is.events ++ map recover_words (r.recovers ++ ss ∷ []) =
    ap (λ x. x ++ l ∷ []) (tail_behind r.section is.events r.recovers here)
    ∙ ap (λ x. start ∷ x) (append_assoc is.events (map recover_words r.recovers) (l ∷ []))
    ∙ ap (λ x. start ∷ is.events ++ x) (sym (map-append recover_words r.recovers (ss ∷ []))) in
    record {
      header = is.header;
      events = is.events;
      whole =
          ap (λ ls. ls ++ l ∷ []) is.whole
          ∙ push_rest (store_words r.room) is.header (rest_of r is.events) l (rest_of (with_recover r ss) is.events)
          (push_tail (map op_words r.ops) (tail_of r.section is.events r.recovers) l (start ∷ is.events ++ map recover_words (r.recovers ++ ss ∷ [])) tail);
      headed = is.headed;
      said = is.said;
      no_ops = λ e. cc;
      no_events = λ e. cc;
      no_recovers = λ e. cc;
    }

-- ---- a line behind the first

-- words that are spelled otherwise are the same words
said_as : (r : Reading) (lines : List (List (List ℕ))) (l said : List (List ℕ)) → l ≡ said → Says r (lines ++ said ∷ []) → Says r (lines ++ l ∷ [])
said_as r lines l said e is = subst (λ x. Says r (lines ++ x ∷ [])) (sym e) is

Says-put_line : (r : Reading) (lines : List (List (List ℕ))) (w : List ℕ) (ws : List (List ℕ)) (next : Reading) → w ≡ codes "put" → put_line r ws ≡ Ok next → is_behind_events r.section ≡ false → Says r lines → Says next (lines ++ (w ∷ ws) ∷ [])
Says-put_line r lines w [] next name h here is = cc
Says-put_line r lines w (k ∷ []) next name h here is = cc
Says-put_line r lines w (k ∷ v ∷ []) next name h here is =
    let p : Put = record { key = k; value = v } in
    let x = ok_when (is_key k && is_value v) (put_added r p) _ next h in
    let y = ok_behind (put_fits r) (with_put r p) next _ x.1 in
    subst (λ x. Says x (lines ++ (w ∷ k ∷ v ∷ []) ∷ [])) y.1
    (said_as (with_put r p) lines (w ∷ k ∷ v ∷ []) (op_words (ops.Put p)) (ap (λ x. x ∷ k ∷ v ∷ []) name) (Says-op r lines (ops.Put p) (r.puts + 1) (r.calls + 2) here is))
Says-put_line r lines w (k ∷ v ∷ u ∷ ws) next name h here is = cc

Says-flush_line : (r : Reading) (lines : List (List (List ℕ))) (w : List ℕ) (ws : List (List ℕ)) (next : Reading) → w ≡ codes "flush" → flush_line r ws ≡ Ok next → is_behind_events r.section ≡ false → Says r lines → Says next (lines ++ (w ∷ ws) ∷ [])
Says-flush_line r lines w (u ∷ ws) next name h here is = cc
Says-flush_line r lines w [] next name h here is =
    let x = ok_behind (nat_lt r.calls MOST_CALLS) (with_flush r) next _ h in
    subst (λ x. Says x (lines ++ (w ∷ []) ∷ [])) x.1
    (said_as (with_flush r) lines (w ∷ []) (op_words ops.Flush) (ap (λ x. x ∷ []) name) (Says-op r lines ops.Flush r.puts (r.calls + 1) here is))

Says-events_line : (r : Reading) (lines : List (List (List ℕ))) (w : List ℕ) (ws : List (List ℕ)) (next : Reading) → w ≡ codes "events" → events_line r ws ≡ Ok next → is_behind_events r.section ≡ false → Says r lines → Says next (lines ++ (w ∷ ws) ∷ [])
Says-events_line r lines w (u ∷ ws) next name h here is = cc
Says-events_line r lines w [] next name h here is =
    let e : record r { section = sections.Events } ≡ next = cc in
    subst (λ x. Says x (lines ++ (w ∷ []) ∷ [])) e (said_as (record r { section = sections.Events }) lines (w ∷ []) (codes "events" ∷ []) (ap (λ x. x ∷ []) name) (Says-events r lines here is))

Says-event_taken : (r : Reading) (lines : List (List (List ℕ))) (w : List ℕ) (v : EventFirst) (ws : List (List ℕ)) (read : Result EventLine LineFault) (next : Reading) → event_word w ≡ Some v → event_of v ws ≡ read → event_taken r read ≡ Ok next → r.section ≡ sections.Events → Says r lines → Says next (lines ++ (w ∷ ws) ∷ [])
Says-event_taken r lines w v ws (Err fault) next known e h here is = cc
Says-event_taken r lines w v ws (Ok l) next known e h here is =
    let p = ok_behind (event_fits r l) (with_event r l) next _ h in
    let says : event_speller.line_of (w ∷ ws) ≡ Ok l = ap (λ o. event_speller.line_after o ws) known ∙ e in
    subst (λ x. Says x (lines ++ (w ∷ ws) ∷ [])) p.1 (Says-event r lines l (w ∷ ws) here (event_laws.line_of-says (w ∷ ws) l says).1 is)

Says-recover_taken : (r : Reading) (lines : List (List (List ℕ))) (w : List ℕ) (ws : List (List ℕ)) (read : Result (List Steer) LineFault) (next : Reading) → w ≡ codes "recover" → steers_of ws ≡ read → recover_taken r read ≡ Ok next → is_behind_events r.section ≡ true → Says r lines → Says next (lines ++ (w ∷ ws) ∷ [])
Says-recover_taken r lines w ws (Err fault) next name e h here is = cc
Says-recover_taken r lines w ws (Ok ss) next name e h here is =
    let p = ok_behind (nat_lt (length r.recovers) MOST_RECOVERS) (with_recover r ss) next _ h in
    let said : w ∷ ws ≡ recover_words ss = ap₂ (λ (x : List ℕ) (xs : List (List ℕ)). x ∷ xs) name (steers_said ws ss e).1 in
    subst (λ x. Says x (lines ++ (w ∷ ws) ∷ [])) p.1 (said_as (with_recover r ss) lines (w ∷ ws) (recover_words ss) said (Says-recover r lines ss here is))

-- where each line may stand

put_here : (s : Section) → stands_in s word.Put ≡ true → is_behind_events s ≡ false
put_here sections.Header h = refl
put_here sections.Asking h = refl
put_here sections.Events h = cc
put_here sections.Recovery h = cc

flush_here : (s : Section) → stands_in s word.Flush ≡ true → is_behind_events s ≡ false
flush_here sections.Header h = refl
flush_here sections.Asking h = refl
flush_here sections.Events h = cc
flush_here sections.Recovery h = cc

events_here : (s : Section) → stands_in s word.Events ≡ true → is_behind_events s ≡ false
events_here sections.Header h = refl
events_here sections.Asking h = refl
events_here sections.Events h = cc
events_here sections.Recovery h = cc

event_here : (s : Section) (v : EventFirst) → stands_in s (word.Event v) ≡ true → s ≡ sections.Events
event_here sections.Header v h = cc
event_here sections.Asking v h = cc
event_here sections.Events v h = refl
event_here sections.Recovery v h = cc

recover_here : (s : Section) → stands_in s word.Recover ≡ true → is_behind_events s ≡ true
recover_here sections.Header h = cc
recover_here sections.Asking h = cc
recover_here sections.Events h = refl
recover_here sections.Recovery h = refl

Says-line_taken : (r : Reading) (lines : List (List (List ℕ))) (w : List ℕ) (v : Word) (ws : List (List ℕ)) (next : Reading) → line_taken r v ws ≡ Ok next → IsNamed w v → stands_in r.section v ≡ true → stood_before r.told v ≡ false → Says r lines
    → Says next (lines ++ (w ∷ ws) ∷ [])
Says-line_taken r lines w word.Store ws next h name stands new is = cc
Says-line_taken r lines w word.Other ws next h name stands new is = cc
Says-line_taken r lines w (word.Header v) ws next h name stands new is =
    let here = header_stands r.section v stands in
    Says-header_taken r lines (w ∷ ws) (header_line r.told v ws) next h (λ t e. Says-header_line r lines w v ws t name e new here is)
Says-line_taken r lines w word.Put ws next h name stands new is = Says-put_line r lines w ws next name h (put_here r.section stands) is
Says-line_taken r lines w word.Flush ws next h name stands new is = Says-flush_line r lines w ws next name h (flush_here r.section stands) is
Says-line_taken r lines w word.Events ws next h name stands new is = Says-events_line r lines w ws next name h (events_here r.section stands) is
Says-line_taken r lines w (word.Event v) ws next h name stands new is = Says-event_taken r lines w v ws (event_of v ws) next name refl h (event_here r.section v stands) is
Says-line_taken r lines w word.Recover ws next h name stands new is = Says-recover_taken r lines w ws (steers_of ws) next name refl h (recover_here r.section stands) is

Says-later_line : (r : Reading) (lines : List (List (List ℕ))) (w : List ℕ) (o : Option Word) (ws : List (List ℕ)) (next : Reading) → word_of (is_behind_events r.section) w ≡ o → later_line r o ws ≡ Ok next → Says r lines → Says next (lines ++ (w ∷ ws) ∷ [])
Says-later_line r lines w None ws next known h is = cc
Says-later_line r lines w (Some v) ws next known h is =
    let placed = ok_past (stands_in r.section v) _ next _ h in
    let new = not_stood (stood_before r.told v) _ next _ placed.1 in
    let read = ok_beside (stood_before r.told v) _ next _ placed.1 in
    Says-line_taken r lines w v ws next read (named (is_behind_events r.section) w v known) placed.0 new is

-- ---- the first line

none_said : (w : HeaderWord) → [] ≡ number_lines (header_name w) (told_number none_told w)
none_said header.Depth = refl
none_said header.Queue = refl
none_said header.Fail = refl
none_said header.Cut = refl

Says-new : (room : ℕ) → Says (new_reading room) (store_words room ∷ [])
Says-new room = record {
  header = [];
  events = [];
  whole = refl;
  headed = record { numbers = none_said; known = λ l h. absurd h };
  said = tt;
  no_ops = λ _. refl;
  no_events = λ _. refl;
  no_recovers = λ _. refl;
}

Says-room : (u : List ℕ) (o : Option ℕ) (next : Reading) → numeral u ≡ o → room_taken o ≡ Ok next → Says next ((codes "store" ∷ u ∷ []) ∷ [])
Says-room u None next value h = cc
Says-room u (Some n) next value h =
    let p = ok_behind (nat_le 1 n && nat_le n MOST_STORE) (new_reading n) next _ h in
    let most = leb-true n MOST_STORE (and_parts (nat_le 1 n) (nat_le n MOST_STORE) p.0).1 in
    subst (λ x. Says x ((codes "store" ∷ u ∷ []) ∷ [])) p.1
    (subst (λ x. Says (new_reading n) ((codes "store" ∷ x ∷ []) ∷ [])) (sym (decimal-numeral u n value (omega (arith, most)))) (Says-new n))

Says-store_line : (w : List ℕ) (ws : List (List ℕ)) (next : Reading) → w ≡ codes "store" → store_line ws ≡ Ok next → Says next ((w ∷ ws) ∷ [])
Says-store_line w [] next name h = cc
Says-store_line w (u ∷ []) next name h = subst (λ x. Says next ((x ∷ u ∷ []) ∷ [])) (sym name) (Says-room u (numeral u) next refl h)
Says-store_line w (u ∷ v ∷ ws) next name h = cc

Says-known : (w : List ℕ) (v : Word) (ws : List (List ℕ)) (next : Reading) → IsNamed w v → first_line (Some v) ws ≡ Ok next → Says next ((w ∷ ws) ∷ [])
Says-known w word.Store ws next name h = Says-store_line w ws next name h
Says-known w (word.Header v) ws next name h = cc
Says-known w word.Put ws next name h = cc
Says-known w word.Flush ws next name h = cc
Says-known w word.Events ws next name h = cc
Says-known w word.Recover ws next name h = cc
Says-known w (word.Event v) ws next name h = cc
Says-known w word.Other ws next name h = cc

Says-first : (w : List ℕ) (o : Option Word) (ws : List (List ℕ)) (next : Reading) → word_of false w ≡ o → first_line o ws ≡ Ok next → Says next ((w ∷ ws) ∷ [])
Says-first w None ws next e h = cc
Says-first w (Some v) ws next e h = Says-known w v ws next (named false w v e) h

Says-words : (reading : Option Reading) (lines : List (List (List ℕ))) (ws : List (List ℕ)) (next : Reading) → read_words reading ws ≡ Ok next → SaysSoFar reading lines → Says next (lines ++ ws ∷ [])
Says-words reading lines [] next h is = cc
Says-words None lines (w ∷ ws) next h is = subst (λ ls. Says next (ls ++ (w ∷ ws) ∷ [])) (sym is) (Says-first w (word_of false w) ws next refl h)
Says-words (Some r) lines (w ∷ ws) next h is = Says-later_line r lines w (word_of (is_behind_events r.section) w) ws next refl h is

-- ---- the script

filled_number : (name text : List ℕ) (d : ℕ) (o : Option ℕ) (lines : List (List (List ℕ))) → text ≡ decimal d → lines ≡ number_lines name o → or_default (name ∷ text ∷ []) lines ≡ number_words name (unwrap_or o d) ∷ []
filled_number name text d None lines spelled said = ap (or_default (name ∷ text ∷ [])) said ∙ ap (λ w. (name ∷ w ∷ []) ∷ []) spelled
filled_number name text d (Some n) lines spelled said = ap (or_default (name ∷ text ∷ [])) said

IsHeaderOf-said : (t : HeaderSoFar) (lines : List (List (List ℕ))) → SaysHeader t lines → IsHeaderOf (header_of t) lines
IsHeaderOf-said t lines is = record {
  depth = filled_number (codes "depth") (codes "32") DEFAULT_DEPTH t.depth (beginning (codes "depth") lines) default_text (is.numbers header.Depth);
  queue = filled_number (codes "queue") (codes "32") DEFAULT_QUEUE t.queue (beginning (codes "queue") lines) default_text (is.numbers header.Queue);
  fail = is.numbers header.Fail;
  cut = is.numbers header.Cut;
  known = is.known;
}

SaysStore-read : (r : Reading) (lines : List (List (List ℕ))) → is_behind_events r.section ≡ true → Says r lines → SaysStore (script_read r) lines
SaysStore-read r lines here is = record {
  header = is.header;
  events = is.events;
  whole = is.whole ∙ ap (λ x. store_words r.room ∷ is.header ++ (map op_words r.ops ++ x)) (tail_behind r.section is.events r.recovers here);
  headed = IsHeaderOf-said r.told is.header is.headed;
  said = is.said;
}

SaysStore-ended_in : (n : ℕ) (r : Reading) (behind : Bool) (s : StoreScript) (lines : List (List (List ℕ))) → is_behind_events r.section ≡ behind → ended_in n r behind ≡ Ok s → Says r lines → SaysStore s lines
SaysStore-ended_in n r false s lines here h is = cc
SaysStore-ended_in n r true s lines here h is = let e : script_read r ≡ s = cc in subst (λ t. SaysStore t lines) e (SaysStore-read r lines here is)

SaysStore-ended : (n : ℕ) (reading : Option Reading) (s : StoreScript) (lines : List (List (List ℕ))) → ended n reading ≡ Ok s → SaysSoFar reading lines → SaysStore s lines
SaysStore-ended n None s lines h is = cc
SaysStore-ended n (Some r) s lines h is = SaysStore-ended_in n r (is_behind_events r.section) s lines refl h is

-- the law: a text that is accepted says its script
pub SaysStore-store_of : (bytes : List ℕ) (s : StoreScript) → store_of bytes ≡ Ok s → SaysStore s (kept_lines (lines_of bytes))
SaysStore-store_of bytes s h =
    said read_one ended SaysSoFar (λ s done. SaysStore s done)
    (λ reading done l r e is. Says-words reading done (words_of l) r e is)
    (λ n reading done s e is. SaysStore-ended n reading s done e is) (lines_of bytes) 1 None [] s h refl
