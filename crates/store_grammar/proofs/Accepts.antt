-- Lines that say a well-formed script are read as that script.
use Rattle.std.proofs.Common.{◌≡◌, ℕ, ◌+◌, List, [], ◌∷◌, ◌++◌, map, codes, Some, None, Ok, refl, sym, subst, arith}
use Rattle.script_words.specs.Spelling.{lines_of}
use Rattle.script_words.specs.laws.Texts.{kept_lines}
use Rattle.session_grammar.specs.laws.Accepted.{SayEvents}
use Rattle.session_grammar.specs.laws.Speller.{recover_words}
use Rattle.wal_store.specs.calls.Calls.{fill_count}
use Rattle.store_grammar.specs.declared.header.HeaderSoFar.{HeaderSoFar}
use Rattle.store_grammar.specs.declared.reading.Section.TheVariants as sections
use Rattle.store_grammar.specs.declared.script.StoreHeader.{StoreHeader}
use Rattle.store_grammar.specs.declared.script.StoreScript.{StoreScript}
use Rattle.store_grammar.specs.Grammar.{new_reading, header_of, store_of}
use Rattle.store_grammar.specs.WellFormed.{IsWellFormed}
use Rattle.store_grammar.specs.laws.Accepted.{SaysStore}
use Rattle.store_grammar.specs.laws.Speller.{store_words, op_words}
use Rattle.store_grammar.proofs.ReadsTo.{ReadsTo, ReadsTo-line, IsRead-store, asked, ops_read, IsRead-events, in_events, events_read, recovers_read, store_of-reads}
use Rattle.store_grammar.proofs.HeaderRead.{at_header, header_read}

-- the script with this header
abbrev script_with : StoreScript → StoreHeader → StoreScript
script_with s h = record s { header = h }

body_said : (s : StoreScript) (t : HeaderSoFar) (events : List (List (List ℕ))) → IsWellFormed s → SayEvents s.events events → header_of t ≡ s.header
    → ReadsTo (Some (at_header s.room t)) (map op_words s.ops ++ ((codes "events" ∷ []) ∷ events ++ map recover_words s.recovers)) s
body_said s t events well say same =
    let r = at_header s.room t in
    let tail = events ++ map recover_words s.recovers in
    let puts = well.few_puts in
    let calls = well.few_calls in
    let expanded = well.expanded in
    let recovers = well.few_recovers in
    ops_read s.ops r sections.Header [] 0 (fill_count s.room + 2) ((codes "events" ∷ []) ∷ tail) s refl well.puts (omega (arith, puts)) (omega (arith, calls))
    (λ after p c here.
    let all = asked r after s.ops p c in
    let started = asked r sections.Events s.ops p c in
    let last = λ (m : ℕ).
    subst (λ h. ReadsTo (Some (in_events started s.events m)) (map recover_words s.recovers) (script_with s h)) same
    (recovers_read s.recovers (in_events started s.events m) sections.Events [] refl well.recovers (omega (arith, recovers))) in
    ReadsTo-line (Some all) (codes "events" ∷ []) started tail s (IsRead-events all here)
    (events_read s.events events started [] 0 (map recover_words s.recovers) s refl say well.events (omega (arith, expanded)) last))

says_read : (s : StoreScript) (lines : List (List (List ℕ))) → IsWellFormed s → SaysStore s lines → ReadsTo None lines s
says_read s lines well says =
    let body = map op_words s.ops ++ ((codes "events" ∷ []) ∷ says.events ++ map recover_words s.recovers) in
    subst (λ ls. ReadsTo None ls s) (sym says.whole)
    (ReadsTo-line None (store_words s.room) (new_reading s.room) (says.header ++ body) s (IsRead-store s.room well.some_room well.room)
    (header_read says.header s.room s.header body s well.header says.headed (λ t same. body_said s t says.events well says.said same)))

-- the law: lines that say a well-formed script are read as it
pub store_of-SaysStore : (bytes : List ℕ) (s : StoreScript) → IsWellFormed s → SaysStore s (kept_lines (lines_of bytes)) → store_of bytes ≡ Ok s
store_of-SaysStore bytes s well says = store_of-reads bytes s (says_read s (kept_lines (lines_of bytes)) well says)
