-- Lines that say a well-formed script are read as that script, and what is written of it says it.
use Rattle.std.proofs.Common.{◌≡◌, ℕ, Bool, true, List, [], ◌∷◌, ◌++◌, map, codes, decimal, Some, None, Ok, Err, not, refl, sym, ap, ◌∙◌, subst, arith, if◌then◌else◌}
use Rattle.std.proofs.lemmas.Bool.{and_from, le-leb, lt-ltb}
use Rattle.minix_layout.specs.Widths.{IsWidth}
use Rattle.minix_layout.specs.Words.{first_zone}
use Rattle.script_words.specs.Spelling.{numeral, lines_of}
use Rattle.script_words.proofs.SpelledNumbers.{numeral-decimal}
use Rattle.script_grammar.specs.declared.kinds.ScriptKind.TheVariants as kinds
use Rattle.script_words.specs.laws.Texts.{kept_lines}
use Rattle.minix_layout.specs.declared.limits.TheConstants.{LEAST_JOURNAL, MOST_JOURNAL, MOST_NUMBERED}
use Rattle.session_grammar.specs.declared.limits.TheConstants.{JOURNALS}
use Rattle.session_grammar.specs.declared.reading.Section.TheVariants as sections
use Rattle.session_grammar.specs.declared.header.HeaderSoFar.{HeaderSoFar}
use Rattle.session_grammar.specs.declared.reading.VolumeForm.{VolumeForm}
use Rattle.session_grammar.specs.declared.session_script.SessionHeader.{SessionHeader}
use Rattle.session_grammar.specs.declared.session_script.SessionScript.{SessionScript}
use Rattle.session_grammar.specs.Grammar.{are_sizes, have_geometry, new_reading, sizes_taken, opened, form_told, header_of, session_of}
use Rattle.session_grammar.specs.WellFormed.{AreSizes, IsWellFormed}
use Rattle.session_grammar.specs.laws.Speller.{volume_words, thread_lines, recover_words}
use Rattle.session_grammar.specs.laws.Accepted.{SayEvents, SaysSession}
use Rattle.session_grammar.proofs.Forms.{form_of, form_words, told_form}
use Rattle.session_grammar.proofs.ReadsTo.{IsRead, ReadsTo, ReadsTo-line, session_of-reads}
use Rattle.session_grammar.proofs.HeaderRead.{at_header, header_read}
use Rattle.session_grammar.proofs.BodyRead.{in_body, threads_read, IsRead-events, in_events, events_read, recovers_read}

-- ---- the first line

sizes_fit : (inodes zones journal : ℕ) (form : VolumeForm) → AreSizes inodes zones journal → sizes_taken inodes zones journal form ≡ Ok (new_reading inodes zones journal form)
sizes_fit inodes zones journal form is =
    let most = is.most_journal in
    let room = is.some_data in
    let sizes : are_sizes inodes zones journal ≡ true =
    and_from _ _ (le-leb 1 inodes is.some_inode) (and_from _ _ (le-leb inodes MOST_NUMBERED is.most_inodes) (and_from _ _ (le-leb 1 zones (omega (arith, room))) (and_from _ _ (le-leb zones MOST_NUMBERED is.most_zones) (lt-ltb journal JOURNALS (omega (arith, most)))))) in
    let geometry : have_geometry inodes zones journal ≡ true =
    and_from _ _ (lt-ltb (first_zone inodes zones) zones room) (and_from _ _ (le-leb LEAST_JOURNAL journal is.least_journal) (le-leb journal MOST_JOURNAL most)) in
    ap (λ b. if not b then Err kinds.Number else (if not (have_geometry inodes zones journal) then Err kinds.Geometry else Ok (new_reading inodes zones journal form))) sizes
    ∙ ap (λ b. if not b then Err kinds.Geometry else Ok (new_reading inodes zones journal form)) geometry

volume_read : (inodes zones journal width : ℕ) (wide : Bool) → AreSizes inodes zones journal → IsWidth width → IsRead None (volume_words inodes zones journal width wide) (new_reading inodes zones journal (form_of width wide))
volume_read inodes zones journal width wide is kind =
    let first = is.most_inodes in
    let second = is.most_zones in
    let third = is.most_journal in
    let form = form_told (form_words (form_of width wide)) in
    ap (λ o. opened o (numeral (decimal zones)) (numeral (decimal journal)) form) (numeral-decimal inodes (omega (arith, first)))
    ∙ ap (λ o. opened (Some inodes) o (numeral (decimal journal)) form) (numeral-decimal zones (omega (arith, second)))
    ∙ ap (λ o. opened (Some inodes) (Some zones) o form) (numeral-decimal journal (omega (arith, third)))
    ∙ ap (opened (Some inodes) (Some zones) (Some journal)) (told_form width wide kind)
    ∙ sizes_fit inodes zones journal (form_of width wide) is

-- ---- the whole script

-- the script with this header
abbrev script_with : SessionScript → SessionHeader → SessionScript
script_with s h = record s { header = h }

body_said : (s : SessionScript) (t : HeaderSoFar) (events : List (List (List ℕ))) → IsWellFormed s → SayEvents s.events events → header_of t ≡ s.header
    → ReadsTo (Some (at_header s.inodes s.zones s.journal (form_of s.width s.wide) t)) (thread_lines 1 s.programs s.lines ++ ((codes "events" ∷ []) ∷ events ++ map recover_words s.recovers)) s
body_said s t events well say same =
    let r = at_header s.inodes s.zones s.journal (form_of s.width s.wide) t in
    let tail = events ++ map recover_words s.recovers in
    let body = in_body r s.programs s.lines in
    let opened = record body { section = sections.Events } in
    let last = λ (m : ℕ).
    let e = in_events opened s.events m in
    subst (λ h. ReadsTo (Some e) (map recover_words s.recovers) (script_with s h)) same
    (recovers_read s.recovers e sections.Events [] refl well.recovers (omega (arith, well.few_recovers))) in
    threads_read s.programs s.lines 1 r [] [] ((codes "events" ∷ []) ∷ tail) s refl refl (omega (arith, well.threads)) well.lines well.few_calls
    (ReadsTo-line (Some body) (codes "events" ∷ []) opened tail s (IsRead-events body refl)
    (events_read s.events events opened [] 0 (map recover_words s.recovers) s refl say well.events (omega (arith, well.expanded)) last))

pub says_read : (s : SessionScript) (lines : List (List (List ℕ))) → IsWellFormed s → SaysSession s lines → ReadsTo None lines s
says_read s lines well says =
    let body = thread_lines 1 s.programs s.lines ++ ((codes "events" ∷ []) ∷ says.events ++ map recover_words s.recovers) in
    subst (λ ls. ReadsTo None ls s) (sym says.whole)
    (ReadsTo-line None (volume_words s.inodes s.zones s.journal s.width s.wide) (new_reading s.inodes s.zones s.journal (form_of s.width s.wide)) (says.header ++ body) s (volume_read s.inodes s.zones s.journal s.width s.wide well.sizes well.width)
    (header_read says.header s.inodes s.zones s.journal (form_of s.width s.wide) s.header body s well.header says.headed (λ t same. body_said s t says.events well says.said same)))

-- the law: lines that say a well-formed script are read as it
pub session_of-SaysSession : (bytes : List ℕ) (s : SessionScript) → IsWellFormed s → SaysSession s (kept_lines (lines_of bytes)) → session_of bytes ≡ Ok s
session_of-SaysSession bytes s well says = session_of-reads bytes s (says_read s (kept_lines (lines_of bytes)) well says)
