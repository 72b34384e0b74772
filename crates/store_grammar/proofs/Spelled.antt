-- What is written of a well-formed script says it, and is read back.
use Rattle.std.proofs.Common.{◌≡◌, ℕ, ◌==◌, ◌&&◌, true, false, not, List, [], ◌∷◌, ◌++◌, length, map, codes, nat_le, Option, Some, None, Ok, refl, sym, ap, subst, inl, inr, arith}
use Rattle.std.specs.List.{list_all}
use Rattle.std.proofs.lemmas.Bool.{and_parts, and_from}
use Rattle.std.proofs.lemmas.Bool.Decides.{nat_tests}
use Rattle.blk_base.specs.Members.{In}
use Rattle.blk_base.specs.laws.Members.{In-append_cases}
use Rattle.tree_model.specs.Paths.{is_name_byte}
use Rattle.script_words.proofs.SpelledWords.{IsClear, lacks}
use Rattle.line_grammar.specs.events.laws.Speller.{event_line_words}
use Rattle.script_grammar.specs.laws.Accepted.{begins, beginning}
use Rattle.session_grammar.specs.laws.Speller.{number_words, number_lines, recover_words}
use Rattle.session_grammar.proofs.HeaderRead.{beginning-with, beginning-without}
use Rattle.session_grammar.proofs.ReadsTo.{kept_of-text}
use Rattle.session_grammar.proofs.Spelled.{AreWritten, AreWritten-none, AreWritten-line, AreWritten-append, number_written, number_lines_written, events_written, recovers_written, alone, beside, events_said}
use Rattle.wal_store.specs.declared.puts.Op.{Op}
use Rattle.wal_store.specs.declared.puts.Op.TheVariants as ops
use Rattle.wal_store.specs.Puts.{is_text}
use Rattle.wal_store.specs.calls.Calls.{ArePuts}
use Rattle.store_grammar.specs.declared.script.StoreHeader.{StoreHeader}
use Rattle.store_grammar.specs.declared.script.StoreScript.{StoreScript}
use Rattle.store_grammar.specs.Grammar.{store_of}
use Rattle.store_grammar.specs.WellFormed.{IsHeader, IsWellFormed}
use Rattle.store_grammar.specs.laws.Speller.{store_words, header_lines, op_words, store_text}
use Rattle.store_grammar.specs.laws.Accepted.{is_header_line, IsHeaderOf, SaysStore}
use Rattle.store_grammar.proofs.Accepts.{store_of-SaysStore}

-- ---- lines that are written are read again as they are

header_written : (h : StoreHeader) → IsHeader h → AreWritten (header_lines h)
header_written h is =
    let depth = is.depth in
    let queue = is.queue in
    number_written (codes "depth") h.depth _ (record { feed = refl; space = refl }) refl (omega (arith, depth))
    (number_written (codes "queue") h.queue _ (record { feed = refl; space = refl }) refl (omega (arith, queue))
    (AreWritten-append (number_lines (codes "fail") h.fail) (number_lines (codes "cut") h.cut)
    (number_lines_written (codes "fail") h.fail (record { feed = refl; space = refl }) (λ n. refl) (λ n e. let most = is.most_fail n e in omega (arith, most)))
    (number_lines_written (codes "cut") h.cut (record { feed = refl; space = refl }) (λ n. refl) (λ n e. let most = is.cut n e in omega (arith, most)))))

-- ---- what is asked

name_byte-no_feed : (b : ℕ) → is_name_byte b ≡ true → not (b == 10) ≡ true
name_byte-no_feed b is = grind (arith, nat_tests)

name_byte-no_space : (b : ℕ) → is_name_byte b ≡ true → not (b == 32) ≡ true
name_byte-no_space b is = grind (arith, nat_tests)

name-lacks : (at : ℕ) → ((b : ℕ) → is_name_byte b ≡ true → not (b == at) ≡ true) → (xs : List ℕ) → list_all is_name_byte xs ≡ true → lacks at xs ≡ true
name-lacks at none [] all = refl
name-lacks at none (x ∷ xs) all =
    let p = and_parts (is_name_byte x) (list_all is_name_byte xs) all in
    and_from (not (x == at)) (lacks at xs) (none x p.0) (name-lacks at none xs p.1)

text_clear : (most : ℕ) (t : List ℕ) → is_text most t ≡ true → IsClear t
text_clear most t is =
    let p = and_parts (not (length t == 0)) (nat_le (length t) most && list_all is_name_byte t) is in
    let q = and_parts (nat_le (length t) most) (list_all is_name_byte t) p.1 in
    record { feed = name-lacks 10 name_byte-no_feed t q.1; space = name-lacks 32 name_byte-no_space t q.1 }

ops_written : (xs : List Op) → ArePuts xs → AreWritten (map op_words xs)
ops_written [] are = AreWritten-none
ops_written (ops.Put p ∷ xs) are =
    AreWritten-line (op_words (ops.Put p)) (map op_words xs) (record { feed = refl; space = refl }, (text_clear 32 p.key are.0.key, (text_clear 200 p.value are.0.value, tt))) refl (ops_written xs are.1)
ops_written (ops.Flush ∷ xs) are = AreWritten-line (op_words ops.Flush) (map op_words xs) (record { feed = refl; space = refl }, tt) refl (ops_written xs are)

-- ---- events and recovery

-- the lines behind the first
abbrev lines_behind : StoreScript → List (List (List ℕ))
lines_behind s =
    header_lines s.header
    ++ (map op_words s.ops
    ++ ((codes "events" ∷ []) ∷ map event_line_words s.events ++ map recover_words s.recovers))

store_written : (s : StoreScript) → IsWellFormed s → AreWritten (store_words s.room ∷ lines_behind s)
store_written s well =
    let room = well.room in
    number_written (codes "store") s.room (lines_behind s) (record { feed = refl; space = refl }) refl (omega (arith, room))
    (AreWritten-append (header_lines s.header) _ (header_written s.header well.header)
    (AreWritten-append (map op_words s.ops) _ (ops_written s.ops well.puts)
    (AreWritten-line (codes "events" ∷ []) _ (record { feed = refl; space = refl }, tt) refl
    (AreWritten-append (map event_line_words s.events) (map recover_words s.recovers) (events_written s.events 1 well.events) (recovers_written s.recovers well.recovers)))))

-- ---- they say the script

number_known : (name : List ℕ) (o : Option ℕ) (l : List (List ℕ)) → ((n : ℕ) → is_header_line (number_words name n) ≡ true) → In l (number_lines name o) → is_header_line l ≡ true
number_known name None l known h = absurd h
number_known name (Some n) l known (inl e) = subst (λ x. is_header_line x ≡ true) e (known n)
number_known name (Some n) l known (inr h) = absurd h

header_known : (h : StoreHeader) (l : List (List ℕ)) → In l (header_lines h) → is_header_line l ≡ true
header_known h l (inl e) = subst (λ x. is_header_line x ≡ true) e refl
header_known h l (inr (inl e)) = subst (λ x. is_header_line x ≡ true) e refl
header_known h l (inr (inr rest)) =
    elim (In-append_cases (number_lines (codes "fail") h.fail) (number_lines (codes "cut") h.cut) l rest) [
      | inl i ↦ number_known (codes "fail") h.fail l (λ n. refl) i
      | inr i ↦ number_known (codes "cut") h.cut l (λ n. refl) i
    ]

none_of : (w name : List ℕ) (o : Option ℕ) → ((n : ℕ) → begins w (number_words name n) ≡ false) → beginning w (number_lines name o) ≡ []
none_of w name None other = refl
none_of w name (Some n) other = beginning-without w (number_words name n) [] (other n)

all_of : (w : List ℕ) (o : Option ℕ) → ((n : ℕ) → begins w (number_words w n) ≡ true) → beginning w (number_lines w o) ≡ number_lines w o
all_of w None itself = refl
all_of w (Some n) itself = beginning-with w (number_words w n) [] (itself n)

-- no line that may be missing is one of these words
none_missing : (h : StoreHeader) (w : List ℕ) → ((n : ℕ) → begins w (number_words (codes "fail") n) ≡ false) → ((n : ℕ) → begins w (number_words (codes "cut") n) ≡ false) → beginning w (number_lines (codes "fail") h.fail ++ number_lines (codes "cut") h.cut) ≡ []
none_missing h w fail cut = beside w (codes "fail") h.fail _ [] fail (none_of w (codes "cut") h.cut cut)

header_said : (h : StoreHeader) → IsHeaderOf h (header_lines h)
header_said h = record {
  depth = ap (λ x. number_words (codes "depth") h.depth ∷ x) (none_missing h (codes "depth") (λ n. refl) (λ n. refl));
  queue = ap (λ x. number_words (codes "queue") h.queue ∷ x) (none_missing h (codes "queue") (λ n. refl) (λ n. refl));
  fail = alone (codes "fail") h.fail _ (λ n. refl) (none_of (codes "fail") (codes "cut") h.cut (λ n. refl));
  cut = beside (codes "cut") (codes "fail") h.fail _ (number_lines (codes "cut") h.cut) (λ n. refl) (all_of (codes "cut") h.cut (λ n. refl));
  known = header_known h;
}

SaysStore-written : (s : StoreScript) → IsWellFormed s → SaysStore s (store_words s.room ∷ lines_behind s)
SaysStore-written s well = record {
  header = header_lines s.header;
  events = map event_line_words s.events;
  whole = refl;
  headed = header_said s.header;
  said = events_said s.events 1 well.events;
}

-- the law: a well-formed script is read back
pub store_of-store_text : (s : StoreScript) → IsWellFormed s → store_of (store_text s) ≡ Ok s
store_of-store_text s well =
    let written = store_written s well in
    let kept = kept_of-text (store_words s.room) (lines_behind s) written.clear written.kept in
    store_of-SaysStore (store_text s) s well (subst (SaysStore s) (sym kept) (SaysStore-written s well))
