-- What is written of a well-formed script says it, and is read back.
use Rattle.std.proofs.Common.{◌≡◌, ℕ, ◌+◌, ◌^◌, ◌<◌, ◌≤◌, Bool, true, false, List, [], ◌∷◌, ◌++◌, length, take, drop, map, codes, Option, Some, None, Ok, refl, sym, ap, ◌∙◌, subst, inl, inr, arith}
use Rattle.std.specs.List.{join_with_byte}
use Rattle.blk_base.specs.Members.{In}
use Rattle.blk_base.specs.laws.Members.{In-append_cases}
use Rattle.minix_layout.specs.Widths.{IsWidth, of_14, of_30}
use Rattle.tree_model.specs.declared.call.Call.{Call}
use Rattle.script_words.specs.Spelling.{is_skipped, words_of}
use Rattle.script_words.proofs.SpelledNumbers.{IsClear-decimal}
use Rattle.script_words.proofs.SpelledWords.{IsClear, AreClear, AreClearLines}
use Rattle.line_grammar.proofs.CallsLemmas.ClearCalls.{AreClear-line_of, there-line_of}
use Rattle.line_grammar.specs.declared.events.event.EventLine.{EventLine}
use Rattle.line_grammar.specs.declared.events.steer.Steer.{Steer}
use Rattle.line_grammar.specs.events.WellFormed.{IsSteerLine}
use Rattle.line_grammar.specs.events.laws.Speller.{event_line_words, steer_words}
use Rattle.line_grammar.proofs.EventsLemmas.ClearLines.{AreClear-event, there-event, AreClear-steers}
use Rattle.line_grammar.proofs.EventsLemmas.EventLaws.{SaysEvent-words}
use Rattle.script_grammar.specs.laws.Accepted.{begins, beginning}
use Rattle.session_grammar.specs.declared.session_script.SessionHeader.{SessionHeader}
use Rattle.session_grammar.specs.declared.session_script.SessionScript.{SessionScript}
use Rattle.session_grammar.specs.Grammar.{session_of}
use Rattle.session_grammar.specs.WellFormed.{AreSizes, IsHeader, all_calls, AreLinesOf, IsEventOf, IsWellFormed}
use Rattle.session_grammar.specs.laws.Speller.{names_words, tags_words, volume_words, number_words, number_lines, elevator_lines, header_lines, thread_lines, recover_words, session_text}
use Rattle.session_grammar.specs.laws.Accepted.{is_header_line, IsHeaderOf, SayEvents, SaysSession}
use Rattle.session_grammar.proofs.ReadsTo.{AreKept, kept_of-text}
use Rattle.session_grammar.proofs.BodyRead.{AreLinesOf-front}
use Rattle.session_grammar.proofs.HeaderRead.{elevator_line, beginning-with, beginning-without}
use Rattle.session_grammar.proofs.Accepts.{session_of-SaysSession}

-- ---- lines that are written are read again as they are

-- words without spaces and line feeds, which are no comment
pub record AreWritten (ls : List (List (List ℕ))) : Type 0 where
  pub clear : AreClearLines ls
  pub kept : AreKept ls

pub AreWritten-none : AreWritten []
AreWritten-none = record { clear = tt; kept = tt }

pub AreWritten-line : (l : List (List ℕ)) (ls : List (List (List ℕ))) → AreClear l → is_skipped (join_with_byte 32 l) ≡ false → AreWritten ls → AreWritten (l ∷ ls)
AreWritten-line l ls clear kept are = record { clear = (clear, are.clear); kept = (kept, are.kept) }

pub AreWritten-append : (ls ms : List (List (List ℕ))) → AreWritten ls → AreWritten ms → AreWritten (ls ++ ms)
AreWritten-append [] ms first second = second
AreWritten-append (l ∷ ls) ms first second =
    AreWritten-line l (ls ++ ms) first.clear.0 first.kept.0 (AreWritten-append ls ms (record { clear = first.clear.1; kept = first.kept.1 }) second)

pub number_written : (name : List ℕ) (n : ℕ) (ls : List (List (List ℕ))) → IsClear name → is_skipped (join_with_byte 32 (number_words name n)) ≡ false → n < 2 ^ 64 → AreWritten ls → AreWritten (number_words name n ∷ ls)
number_written name n ls clear there lt are = AreWritten-line (number_words name n) ls (clear, (IsClear-decimal n lt, tt)) there are

pub number_lines_written : (name : List ℕ) (o : Option ℕ) → IsClear name → ((n : ℕ) → is_skipped (join_with_byte 32 (number_words name n)) ≡ false) → ((n : ℕ) → o ≡ Some n → n < 2 ^ 64) → AreWritten (number_lines name o)
number_lines_written name None clear there small = AreWritten-none
number_lines_written name (Some n) clear there small = number_written name n [] clear (there n) (small n refl) AreWritten-none

elevator_written : (elevator : Bool) → AreWritten (elevator_lines elevator)
elevator_written true = AreWritten-line (codes "elevator" ∷ []) [] (record { feed = refl; space = refl }, tt) refl AreWritten-none
elevator_written false = AreWritten-none

header_written : (h : SessionHeader) → IsHeader h → AreWritten (header_lines h)
header_written h is =
    let depth = is.depth in
    let queue = is.queue in
    let limit = is.limit in
    let seed = is.seed in
    number_written (codes "depth") h.depth _ (record { feed = refl; space = refl }) refl (omega (arith, depth))
    (number_written (codes "queue") h.queue _ (record { feed = refl; space = refl }) refl (omega (arith, queue))
    (number_written (codes "limit") h.limit _ (record { feed = refl; space = refl }) refl (omega (arith, limit))
    (number_written (codes "seed") h.seed _ (record { feed = refl; space = refl }) refl (omega (arith, seed))
    (AreWritten-append (number_lines (codes "fail") h.fail) _ (number_lines_written (codes "fail") h.fail (record { feed = refl; space = refl }) (λ n. refl) (λ n e. let most = is.most_fail n e in omega (arith, most)))
    (AreWritten-append (number_lines (codes "cut") h.cut) _ (number_lines_written (codes "cut") h.cut (record { feed = refl; space = refl }) (λ n. refl) (λ n e. let most = is.cut n e in omega (arith, most)))
    (AreWritten-append (number_lines (codes "flash") h.flash) (elevator_lines h.elevator) (number_lines_written (codes "flash") h.flash (record { feed = refl; space = refl }) (λ n. refl) (λ n e. let most = is.most_flash n e in omega (arith, most))) (elevator_written h.elevator)))))))

calls_written : (ls : List (List ℕ)) (cs : List Call) → AreLinesOf ls cs → AreWritten (map words_of ls)
calls_written [] [] are = AreWritten-none
calls_written [] (c ∷ cs) are = absurd are
calls_written (l ∷ ls) [] are = absurd are
calls_written (l ∷ ls) (c ∷ cs) are =
    AreWritten-line (words_of l) (map words_of ls) (AreClear-line_of (words_of l) c are.0) (there-line_of (words_of l) c are.0) (calls_written ls cs are.1)

threads_written : (ps : List (List Call)) (t : ℕ) (ls : List (List ℕ)) → t + length ps ≤ 17 → AreLinesOf ls (all_calls ps) → AreWritten (thread_lines t ps ls)
unfolding thread_lines
threads_written [] t ls few are = AreWritten-none
threads_written (p ∷ ps) t ls few are =
    let both = AreLinesOf-front p (all_calls ps) ls are in
    number_written (codes "thread") t _ (record { feed = refl; space = refl }) refl (omega (arith, few))
    (AreWritten-append (map words_of (take (length p) ls)) (thread_lines (t + 1) ps (drop (length p) ls)) (calls_written (take (length p) ls) p both.0)
    (threads_written ps (t + 1) (drop (length p) ls) (omega (arith, few)) both.1))

pub events_written : (es : List EventLine) (threads : ℕ) → ((e : EventLine) → In e es → IsEventOf threads e) → AreWritten (map event_line_words es)
events_written [] threads are = AreWritten-none
events_written (e ∷ es) threads are =
    AreWritten-line (event_line_words e) (map event_line_words es) (AreClear-event e (are e (inl refl)).line) (there-event e) (events_written es threads (λ d i. are d (inr i)))

pub recover_there : (ws : List (List ℕ)) → is_skipped (join_with_byte 32 (codes "recover" ∷ ws)) ≡ false
recover_there [] = refl
recover_there (w ∷ ws) = refl

pub recovers_written : (rs : List (List Steer)) → ((ss : List Steer) → In ss rs → IsSteerLine ss) → AreWritten (map recover_words rs)
recovers_written [] are = AreWritten-none
recovers_written (ss ∷ rs) are =
    AreWritten-line (recover_words ss) (map recover_words rs) (record { feed = refl; space = refl }, AreClear-steers ss (are ss (inl refl)).each) (recover_there (steer_words ss)) (recovers_written rs (λ x i. are x (inr i)))

tags_clear : (wide : Bool) → AreClear (tags_words wide)
tags_clear true = (record { feed = refl; space = refl }, (record { feed = refl; space = refl }, tt))
tags_clear false = tt

form_clear : (width : ℕ) (wide : Bool) → IsWidth width → AreClear (names_words width ++ tags_words wide)
form_clear width wide of_14 = tags_clear wide
form_clear width wide of_30 = (record { feed = refl; space = refl }, (record { feed = refl; space = refl }, tags_clear wide))

volume_clear : (inodes zones journal width : ℕ) (wide : Bool) → AreSizes inodes zones journal → IsWidth width → AreClear (volume_words inodes zones journal width wide)
volume_clear inodes zones journal width wide is kind =
    let first = is.most_inodes in
    let second = is.most_zones in
    let third = is.most_journal in
    let word : IsClear (codes "volume") = record { feed = refl; space = refl } in
    (word, (record { feed = refl; space = refl }, (IsClear-decimal inodes (omega (arith, first)), (record { feed = refl; space = refl }, (IsClear-decimal zones (omega (arith, second)), (record { feed = refl; space = refl }, (IsClear-decimal journal (omega (arith, third)), form_clear width wide kind)))))))

-- the lines behind the first
abbrev lines_behind : SessionScript → List (List (List ℕ))
lines_behind s =
    header_lines s.header
    ++ (thread_lines 1 s.programs s.lines
    ++ ((codes "events" ∷ []) ∷ map event_line_words s.events ++ map recover_words s.recovers))

session_written : (s : SessionScript) → IsWellFormed s → AreWritten (volume_words s.inodes s.zones s.journal s.width s.wide ∷ lines_behind s)
session_written s well =
    let threads = well.threads in
    AreWritten-line (volume_words s.inodes s.zones s.journal s.width s.wide) (lines_behind s) (volume_clear s.inodes s.zones s.journal s.width s.wide well.sizes well.width) refl
    (AreWritten-append (header_lines s.header) _ (header_written s.header well.header)
    (AreWritten-append (thread_lines 1 s.programs s.lines) _ (threads_written s.programs 1 s.lines (omega (arith, threads)) well.lines)
    (AreWritten-line (codes "events" ∷ []) _ (record { feed = refl; space = refl }, tt) refl
    (AreWritten-append (map event_line_words s.events) (map recover_words s.recovers) (events_written s.events (length s.programs) well.events) (recovers_written s.recovers well.recovers)))))

-- ---- they say the script

number_known : (name : List ℕ) (o : Option ℕ) (l : List (List ℕ)) → ((n : ℕ) → is_header_line (number_words name n) ≡ true) → In l (number_lines name o) → is_header_line l ≡ true
number_known name None l known h = absurd h
number_known name (Some n) l known (inl e) = subst (λ x. is_header_line x ≡ true) e (known n)
number_known name (Some n) l known (inr h) = absurd h

elevator_known : (elevator : Bool) (l : List (List ℕ)) → In l (elevator_lines elevator) → is_header_line l ≡ true
elevator_known false l h = absurd h
elevator_known true l (inl e) = subst (λ x. is_header_line x ≡ true) e refl
elevator_known true l (inr h) = absurd h

header_known : (h : SessionHeader) (l : List (List ℕ)) → In l (header_lines h) → is_header_line l ≡ true
header_known h l (inl e) = subst (λ x. is_header_line x ≡ true) e refl
header_known h l (inr (inl e)) = subst (λ x. is_header_line x ≡ true) e refl
header_known h l (inr (inr (inl e))) = subst (λ x. is_header_line x ≡ true) e refl
header_known h l (inr (inr (inr (inl e)))) = subst (λ x. is_header_line x ≡ true) e refl
header_known h l (inr (inr (inr (inr rest)))) =
    elim (In-append_cases (number_lines (codes "fail") h.fail) (number_lines (codes "cut") h.cut ++ (number_lines (codes "flash") h.flash ++ elevator_lines h.elevator)) l rest) [
      | inl i ↦ number_known (codes "fail") h.fail l (λ n. refl) i
      | inr more ↦ elim (In-append_cases (number_lines (codes "cut") h.cut) (number_lines (codes "flash") h.flash ++ elevator_lines h.elevator) l more) [
        | inl i ↦ number_known (codes "cut") h.cut l (λ n. refl) i
        | inr others ↦ elim (In-append_cases (number_lines (codes "flash") h.flash) (elevator_lines h.elevator) l others) [
          | inl i ↦ number_known (codes "flash") h.flash l (λ n. refl) i
          | inr i ↦ elevator_known h.elevator l i
        ]
      ]
    ]

-- the lines of a word, where those behind say nothing of it
pub alone : (w : List ℕ) (o : Option ℕ) (rest : List (List (List ℕ))) → ((n : ℕ) → begins w (number_words w n) ≡ true) → beginning w rest ≡ [] → beginning w (number_lines w o ++ rest) ≡ number_lines w o
alone w None rest itself none = none
alone w (Some n) rest itself none = beginning-with w (number_words w n) rest (itself n) ∙ ap (λ x. number_words w n ∷ x) none

-- lines of another word say nothing of it
pub beside : (w name : List ℕ) (o : Option ℕ) (rest lines : List (List (List ℕ))) → ((n : ℕ) → begins w (number_words name n) ≡ false) → beginning w rest ≡ lines → beginning w (number_lines name o ++ rest) ≡ lines
beside w name None rest lines other said = said
beside w name (Some n) rest lines other said = beginning-without w (number_words name n) rest (other n) ∙ said

no_elevator : (w : List ℕ) (elevator : Bool) → begins w elevator_line ≡ false → beginning w (elevator_lines elevator) ≡ []
no_elevator w true other = beginning-without w elevator_line [] other
no_elevator w false other = refl

own_elevator : (elevator : Bool) → beginning (codes "elevator") (elevator_lines elevator) ≡ elevator_lines elevator
own_elevator true = refl
own_elevator false = refl

-- no line that may be missing is one of these words
none_missing : (h : SessionHeader) (w : List ℕ) → ((n : ℕ) → begins w (number_words (codes "fail") n) ≡ false) → ((n : ℕ) → begins w (number_words (codes "cut") n) ≡ false) → ((n : ℕ) → begins w (number_words (codes "flash") n) ≡ false) → begins w elevator_line ≡ false
    → beginning w (number_lines (codes "fail") h.fail ++ (number_lines (codes "cut") h.cut ++ (number_lines (codes "flash") h.flash ++ elevator_lines h.elevator))) ≡ []
none_missing h w fail cut flash elevator =
    beside w (codes "fail") h.fail _ [] fail (beside w (codes "cut") h.cut _ [] cut (beside w (codes "flash") h.flash _ [] flash (no_elevator w h.elevator elevator)))

header_said : (h : SessionHeader) → IsHeaderOf h (header_lines h)
header_said h = record {
  depth = ap (λ x. number_words (codes "depth") h.depth ∷ x) (none_missing h (codes "depth") (λ n. refl) (λ n. refl) (λ n. refl) refl);
  queue = ap (λ x. number_words (codes "queue") h.queue ∷ x) (none_missing h (codes "queue") (λ n. refl) (λ n. refl) (λ n. refl) refl);
  limit = ap (λ x. number_words (codes "limit") h.limit ∷ x) (none_missing h (codes "limit") (λ n. refl) (λ n. refl) (λ n. refl) refl);
  seed = ap (λ x. number_words (codes "seed") h.seed ∷ x) (none_missing h (codes "seed") (λ n. refl) (λ n. refl) (λ n. refl) refl);
  fail =
      alone (codes "fail") h.fail _ (λ n. refl)
      (beside (codes "fail") (codes "cut") h.cut _ [] (λ n. refl) (beside (codes "fail") (codes "flash") h.flash _ [] (λ n. refl) (no_elevator (codes "fail") h.elevator refl)));
  cut =
      beside (codes "cut") (codes "fail") h.fail _ (number_lines (codes "cut") h.cut) (λ n. refl)
      (alone (codes "cut") h.cut _ (λ n. refl) (beside (codes "cut") (codes "flash") h.flash _ [] (λ n. refl) (no_elevator (codes "cut") h.elevator refl)));
  flash =
      beside (codes "flash") (codes "fail") h.fail _ (number_lines (codes "flash") h.flash) (λ n. refl)
      (beside (codes "flash") (codes "cut") h.cut _ (number_lines (codes "flash") h.flash) (λ n. refl) (alone (codes "flash") h.flash _ (λ n. refl) (no_elevator (codes "flash") h.elevator refl)));
  elevator =
      beside (codes "elevator") (codes "fail") h.fail _ (elevator_lines h.elevator) (λ n. refl)
      (beside (codes "elevator") (codes "cut") h.cut _ (elevator_lines h.elevator) (λ n. refl) (beside (codes "elevator") (codes "flash") h.flash _ (elevator_lines h.elevator) (λ n. refl) (own_elevator h.elevator)));
  known = header_known h;
}

pub events_said : (es : List EventLine) (threads : ℕ) → ((e : EventLine) → In e es → IsEventOf threads e) → SayEvents es (map event_line_words es)
events_said [] threads are = tt
events_said (e ∷ es) threads are = (SaysEvent-words e (are e (inl refl)).line, events_said es threads (λ d i. are d (inr i)))

SaysSession-written : (s : SessionScript) → IsWellFormed s → SaysSession s (volume_words s.inodes s.zones s.journal s.width s.wide ∷ lines_behind s)
SaysSession-written s well = record {
  header = header_lines s.header;
  events = map event_line_words s.events;
  whole = refl;
  headed = header_said s.header;
  said = events_said s.events (length s.programs) well.events;
}

-- the law: a well-formed script is read back
pub session_of-session_text : (s : SessionScript) → IsWellFormed s → session_of (session_text s) ≡ Ok s
session_of-session_text s well =
    let written = session_written s well in
    let kept = kept_of-text (volume_words s.inodes s.zones s.journal s.width s.wide) (lines_behind s) written.clear written.kept in
    session_of-SaysSession (session_text s) s well (subst (SaysSession s) (sym kept) (SaysSession-written s well))
