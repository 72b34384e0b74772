-- Header lines, in whatever order, are read to the values that they say.
use Rattle.std.proofs.Common.{◌≡◌, ℕ, ◌-◌, ◌^◌, ◌<◌, Bool, true, false, List, [], ◌∷◌, ◌++◌, codes, decimal, Option, Some, None, Ok, Err, is_some, nat_le, unwrap_or, refl, sym, ap, ◌∙◌, subst, inl, inr, ◌⊎◌, arith, lit<, lit≤, if◌then◌else◌}
use Rattle.std.specs.List.{join_with_byte}
use Rattle.std.proofs.lemmas.Bool.{and_parts, and_from, or_cases, le-leb, leb-true}
use Rattle.std.proofs.lemmas.Fmt.{decimal_digit, decimal_step, decimal_injective}
use Rattle.std.proofs.lemmas.Option.{same_Some}
use Rattle.blk_base.specs.Members.{In}
use Rattle.script_words.proofs.SpelledNumbers.{numeral-decimal}
use Rattle.script_grammar.specs.declared.kinds.ScriptKind.TheVariants as kinds
use Rattle.script_grammar.specs.declared.limits.TheConstants.{DEFAULT_DEPTH, DEFAULT_QUEUE, FEWEST_SEGMENTS, MOST_DEPTH, MOST_QUEUE, MOST_SEGMENTS, MOST_STEPS, MOST_TRANSFERS}
use Rattle.script_grammar.specs.laws.Accepted.{begins, beginning, or_default}
use Rattle.script_grammar.proofs.SaidWords.{default_text}
use Rattle.script_words.proofs.Counts.{one_text}
use Rattle.session_grammar.specs.declared.limits.TheConstants.{DEFAULT_LIMIT, DEFAULT_SEED, MOST_SEED, MOST_SESSION}
use Rattle.session_grammar.specs.declared.reading.Reading.{Reading}
use Rattle.session_grammar.specs.declared.header.HeaderSoFar.{HeaderSoFar}
use Rattle.session_grammar.specs.declared.reading.VolumeForm.{VolumeForm}
use Rattle.session_grammar.specs.declared.session_script.SessionHeader.{SessionHeader}
use Rattle.session_grammar.specs.declared.session_script.SessionScript.{SessionScript}
use Rattle.session_grammar.specs.declared.words.NumberWord.{NumberWord}
use Rattle.session_grammar.specs.declared.words.NumberWord.TheVariants as numbers
use Rattle.session_grammar.specs.declared.words.HeaderWord.TheVariants as header
use Rattle.session_grammar.specs.declared.words.Word.TheVariants as word
use Rattle.session_grammar.specs.Words.{word_of}
use Rattle.session_grammar.specs.Grammar.{told_number, none_told, new_reading, number_fits, with_number, number_taken, header_taken, header_of}
use Rattle.session_grammar.specs.WellFormed.{IsHeader}
use Rattle.session_grammar.specs.laws.Speller.{number_words, number_lines, elevator_lines}
use Rattle.session_grammar.specs.laws.Accepted.{is_header_line, IsHeaderOf}
use Rattle.session_grammar.proofs.Names.{number_name}
use Rattle.session_grammar.proofs.ReadsTo.{IsRead, ReadsTo, ReadsTo-line, later_line-read, IsRead-known}

-- 20,000 as it is spelled
pub limit_text : codes "20000" ≡ decimal 20000
limit_text =
    sym (decimal_step 20000 (lit≤ tt) (lit< tt)
    ∙ ap (λ l. l ++ 48 ∷ []) (decimal_step 2000 (lit≤ tt) (lit< tt)
    ∙ ap (λ l. l ++ 48 ∷ []) (decimal_step 200 (lit≤ tt) (lit< tt)
    ∙ ap (λ l. l ++ 48 ∷ []) (decimal_step 20 (lit≤ tt) (lit< tt)
    ∙ ap (λ l. l ++ 48 ∷ []) (decimal_digit 2 (lit< tt))))))

-- ---- words with numbers, all alike

-- what the header has for the word
abbrev pub value_of : SessionHeader → NumberWord → Option ℕ
value_of h numbers.Depth = Some h.depth
value_of h numbers.Queue = Some h.queue
value_of h numbers.Limit = Some h.limit
value_of h numbers.Fail = h.fail
value_of h numbers.Cut = h.cut
value_of h numbers.Seed = Some h.seed
value_of h numbers.Flash = h.flash

-- the lines of a word, or its default
abbrev pub filled : NumberWord → List (List (List ℕ)) → List (List (List ℕ))
filled numbers.Depth ls = or_default (number_words (codes "depth") DEFAULT_DEPTH) ls
filled numbers.Queue ls = or_default (number_words (codes "queue") DEFAULT_QUEUE) ls
filled numbers.Limit ls = or_default (number_words (codes "limit") DEFAULT_LIMIT) ls
filled numbers.Fail ls = ls
filled numbers.Cut ls = ls
filled numbers.Seed ls = or_default (number_words (codes "seed") DEFAULT_SEED) ls
filled numbers.Flash ls = ls

-- what is told, or the default
abbrev pub told_or_default : HeaderSoFar → NumberWord → Option ℕ
told_or_default t w = value_of (header_of t) w

abbrev pub is_line_of : NumberWord → List (List ℕ) → Bool
is_line_of w l = begins (number_name w) l

abbrev pub lines_of_word : NumberWord → List (List (List ℕ)) → List (List (List ℕ))
lines_of_word w ls = beginning (number_name w) ls

-- two words have two places, or are one
pub record AreApart (v w : NumberWord) : Type 0 where
  pub told : (t : HeaderSoFar) (n : ℕ) → told_number (with_number t w n) v ≡ told_number t v
  pub line : (n : ℕ) → is_line_of v (number_words (number_name w) n) ≡ false

pub apart : (v w : NumberWord) → AreApart v w ⊎ (v ≡ w)
apart numbers.Depth numbers.Depth = inr refl
apart numbers.Depth numbers.Queue = inl (record { told = λ t n. refl; line = λ n. refl })
apart numbers.Depth numbers.Limit = inl (record { told = λ t n. refl; line = λ n. refl })
apart numbers.Depth numbers.Fail = inl (record { told = λ t n. refl; line = λ n. refl })
apart numbers.Depth numbers.Cut = inl (record { told = λ t n. refl; line = λ n. refl })
apart numbers.Depth numbers.Seed = inl (record { told = λ t n. refl; line = λ n. refl })
apart numbers.Depth numbers.Flash = inl (record { told = λ t n. refl; line = λ n. refl })
apart numbers.Queue numbers.Depth = inl (record { told = λ t n. refl; line = λ n. refl })
apart numbers.Queue numbers.Queue = inr refl
apart numbers.Queue numbers.Limit = inl (record { told = λ t n. refl; line = λ n. refl })
apart numbers.Queue numbers.Fail = inl (record { told = λ t n. refl; line = λ n. refl })
apart numbers.Queue numbers.Cut = inl (record { told = λ t n. refl; line = λ n. refl })
apart numbers.Queue numbers.Seed = inl (record { told = λ t n. refl; line = λ n. refl })
apart numbers.Queue numbers.Flash = inl (record { told = λ t n. refl; line = λ n. refl })
apart numbers.Limit numbers.Depth = inl (record { told = λ t n. refl; line = λ n. refl })
apart numbers.Limit numbers.Queue = inl (record { told = λ t n. refl; line = λ n. refl })
apart numbers.Limit numbers.Limit = inr refl
apart numbers.Limit numbers.Fail = inl (record { told = λ t n. refl; line = λ n. refl })
apart numbers.Limit numbers.Cut = inl (record { told = λ t n. refl; line = λ n. refl })
apart numbers.Limit numbers.Seed = inl (record { told = λ t n. refl; line = λ n. refl })
apart numbers.Limit numbers.Flash = inl (record { told = λ t n. refl; line = λ n. refl })
apart numbers.Fail numbers.Depth = inl (record { told = λ t n. refl; line = λ n. refl })
apart numbers.Fail numbers.Queue = inl (record { told = λ t n. refl; line = λ n. refl })
apart numbers.Fail numbers.Limit = inl (record { told = λ t n. refl; line = λ n. refl })
apart numbers.Fail numbers.Fail = inr refl
apart numbers.Fail numbers.Cut = inl (record { told = λ t n. refl; line = λ n. refl })
apart numbers.Fail numbers.Seed = inl (record { told = λ t n. refl; line = λ n. refl })
apart numbers.Fail numbers.Flash = inl (record { told = λ t n. refl; line = λ n. refl })
apart numbers.Cut numbers.Depth = inl (record { told = λ t n. refl; line = λ n. refl })
apart numbers.Cut numbers.Queue = inl (record { told = λ t n. refl; line = λ n. refl })
apart numbers.Cut numbers.Limit = inl (record { told = λ t n. refl; line = λ n. refl })
apart numbers.Cut numbers.Fail = inl (record { told = λ t n. refl; line = λ n. refl })
apart numbers.Cut numbers.Cut = inr refl
apart numbers.Cut numbers.Seed = inl (record { told = λ t n. refl; line = λ n. refl })
apart numbers.Cut numbers.Flash = inl (record { told = λ t n. refl; line = λ n. refl })
apart numbers.Seed numbers.Depth = inl (record { told = λ t n. refl; line = λ n. refl })
apart numbers.Seed numbers.Queue = inl (record { told = λ t n. refl; line = λ n. refl })
apart numbers.Seed numbers.Limit = inl (record { told = λ t n. refl; line = λ n. refl })
apart numbers.Seed numbers.Fail = inl (record { told = λ t n. refl; line = λ n. refl })
apart numbers.Seed numbers.Cut = inl (record { told = λ t n. refl; line = λ n. refl })
apart numbers.Seed numbers.Seed = inr refl
apart numbers.Seed numbers.Flash = inl (record { told = λ t n. refl; line = λ n. refl })
apart numbers.Flash numbers.Depth = inl (record { told = λ t n. refl; line = λ n. refl })
apart numbers.Flash numbers.Queue = inl (record { told = λ t n. refl; line = λ n. refl })
apart numbers.Flash numbers.Limit = inl (record { told = λ t n. refl; line = λ n. refl })
apart numbers.Flash numbers.Fail = inl (record { told = λ t n. refl; line = λ n. refl })
apart numbers.Flash numbers.Cut = inl (record { told = λ t n. refl; line = λ n. refl })
apart numbers.Flash numbers.Seed = inl (record { told = λ t n. refl; line = λ n. refl })
apart numbers.Flash numbers.Flash = inr refl

pub told_same : (w : NumberWord) (t : HeaderSoFar) (n : ℕ) → told_number (with_number t w n) w ≡ Some n
told_same numbers.Depth t n = refl
told_same numbers.Queue t n = refl
told_same numbers.Limit t n = refl
told_same numbers.Fail t n = refl
told_same numbers.Cut t n = refl
told_same numbers.Seed t n = refl
told_same numbers.Flash t n = refl

pub elevator_kept : (w : NumberWord) (t : HeaderSoFar) (n : ℕ) → (with_number t w n).elevator ≡ t.elevator
elevator_kept numbers.Depth t n = refl
elevator_kept numbers.Queue t n = refl
elevator_kept numbers.Limit t n = refl
elevator_kept numbers.Fail t n = refl
elevator_kept numbers.Cut t n = refl
elevator_kept numbers.Seed t n = refl
elevator_kept numbers.Flash t n = refl

pub told_beside : (w : NumberWord) (t : HeaderSoFar) → told_number (record t { elevator = true }) w ≡ told_number t w
told_beside numbers.Depth t = refl
told_beside numbers.Queue t = refl
told_beside numbers.Limit t = refl
told_beside numbers.Fail t = refl
told_beside numbers.Cut t = refl
told_beside numbers.Seed t = refl
told_beside numbers.Flash t = refl

pub no_elevator_line : (w : NumberWord) (n : ℕ) → begins (codes "elevator") (number_words (number_name w) n) ≡ false
no_elevator_line numbers.Depth n = refl
no_elevator_line numbers.Queue n = refl
no_elevator_line numbers.Limit n = refl
no_elevator_line numbers.Fail n = refl
no_elevator_line numbers.Cut n = refl
no_elevator_line numbers.Seed n = refl
no_elevator_line numbers.Flash n = refl

abbrev pub elevator_line : List (List ℕ)
elevator_line = codes "elevator" ∷ []

pub no_number_line : (w : NumberWord) → is_line_of w elevator_line ≡ false
no_number_line numbers.Depth = refl
no_number_line numbers.Queue = refl
no_number_line numbers.Limit = refl
no_number_line numbers.Fail = refl
no_number_line numbers.Cut = refl
no_number_line numbers.Seed = refl
no_number_line numbers.Flash = refl

filled-some : (w : NumberWord) (l : List (List ℕ)) (ls : List (List (List ℕ))) → filled w (l ∷ ls) ≡ l ∷ ls
filled-some numbers.Depth l ls = refl
filled-some numbers.Queue l ls = refl
filled-some numbers.Limit l ls = refl
filled-some numbers.Fail l ls = refl
filled-some numbers.Cut l ls = refl
filled-some numbers.Seed l ls = refl
filled-some numbers.Flash l ls = refl

word_known : (w : NumberWord) → word_of false (number_name w) ≡ Some (word.Header (header.Number w))
word_known numbers.Depth = refl
word_known numbers.Queue = refl
word_known numbers.Limit = refl
word_known numbers.Fail = refl
word_known numbers.Cut = refl
word_known numbers.Seed = refl
word_known numbers.Flash = refl

pub fits_value : (h : SessionHeader) (w : NumberWord) (n : ℕ) → IsHeader h → value_of h w ≡ Some n → number_fits w n ≡ true
fits_value h numbers.Depth n is e =
    let same = same_Some h.depth n e in
    subst (λ m. number_fits numbers.Depth m ≡ true) same (and_from (nat_le 1 h.depth) (nat_le h.depth MOST_DEPTH) (le-leb 1 h.depth is.some_depth) (le-leb h.depth MOST_DEPTH is.depth))
fits_value h numbers.Queue n is e =
    let same = same_Some h.queue n e in
    subst (λ m. number_fits numbers.Queue m ≡ true) same (and_from (nat_le 1 h.queue) (nat_le h.queue MOST_QUEUE) (le-leb 1 h.queue is.some_queue) (le-leb h.queue MOST_QUEUE is.queue))
fits_value h numbers.Limit n is e =
    let same = same_Some h.limit n e in
    subst (λ m. number_fits numbers.Limit m ≡ true) same (and_from (nat_le 1 h.limit) (nat_le h.limit MOST_SESSION) (le-leb 1 h.limit is.some_limit) (le-leb h.limit MOST_SESSION is.limit))
fits_value h numbers.Fail n is e =
    and_from (nat_le 1 n) (nat_le n MOST_TRANSFERS) (le-leb 1 n (is.least_fail n e)) (le-leb n MOST_TRANSFERS (is.most_fail n e))
fits_value h numbers.Cut n is e = le-leb n MOST_STEPS (is.cut n e)
fits_value h numbers.Seed n is e =
    let same = same_Some h.seed n e in
    subst (λ m. number_fits numbers.Seed m ≡ true) same (le-leb h.seed MOST_SEED is.seed)
fits_value h numbers.Flash n is e =
    and_from (nat_le FEWEST_SEGMENTS n) (nat_le n MOST_SEGMENTS) (le-leb FEWEST_SEGMENTS n (is.least_flash n e)) (le-leb n MOST_SEGMENTS (is.most_flash n e))

pub small_number : (w : NumberWord) (n : ℕ) → number_fits w n ≡ true → n < 2 ^ 64 - 1
small_number numbers.Depth n h = let most = leb-true n MOST_DEPTH (and_parts (nat_le 1 n) (nat_le n MOST_DEPTH) h).1 in omega (arith, most)
small_number numbers.Queue n h = let most = leb-true n MOST_QUEUE (and_parts (nat_le 1 n) (nat_le n MOST_QUEUE) h).1 in omega (arith, most)
small_number numbers.Limit n h = let most = leb-true n MOST_SESSION (and_parts (nat_le 1 n) (nat_le n MOST_SESSION) h).1 in omega (arith, most)
small_number numbers.Fail n h = let most = leb-true n MOST_TRANSFERS (and_parts (nat_le 1 n) (nat_le n MOST_TRANSFERS) h).1 in omega (arith, most)
small_number numbers.Cut n h = let most = leb-true n MOST_STEPS h in omega (arith, most)
small_number numbers.Seed n h = let most = leb-true n MOST_SEED h in omega (arith, most)
small_number numbers.Flash n h = let most = leb-true n MOST_SEGMENTS (and_parts (nat_le FEWEST_SEGMENTS n) (nat_le n MOST_SEGMENTS) h).1 in omega (arith, most)

-- ---- what is left to be read

abbrev LeftOf : SessionHeader → HeaderSoFar → List (List (List ℕ)) → NumberWord → Type 0
LeftOf h t ls w =
    ((told_number t w ≡ value_of h w) × (lines_of_word w ls ≡ []))
    ⊎ ((told_number t w ≡ None) × (filled w (lines_of_word w ls) ≡ number_lines (number_name w) (value_of h w)))

-- what was told and the lines that are left say the values
record AreLeft (h : SessionHeader) (t : HeaderSoFar) (ls : List (List (List ℕ))) : Type 0 where
  numbers : (w : NumberWord) → LeftOf h t ls w
  elevator : elevator_lines t.elevator ++ beginning (codes "elevator") ls ≡ elevator_lines h.elevator
  known : (l : List (List ℕ)) → In l ls → is_header_line l ≡ true

pub beginning-with : (w : List ℕ) (l : List (List ℕ)) (ls : List (List (List ℕ))) → begins w l ≡ true → beginning w (l ∷ ls) ≡ l ∷ beginning w ls
beginning-with w l ls e = rw e refl

pub beginning-without : (w : List ℕ) (l : List (List ℕ)) (ls : List (List (List ℕ))) → begins w l ≡ false → beginning w (l ∷ ls) ≡ beginning w ls
beginning-without w l ls e = rw e refl

-- one line alone says the value
record IsNext (name : List ℕ) (o : Option ℕ) (l : List (List ℕ)) (ls : List (List (List ℕ))) : Type 0 where
  number : ℕ
  value : o ≡ Some number
  line : l ≡ number_words name number
  none : ls ≡ []

next_number : (name : List ℕ) (o : Option ℕ) (l : List (List ℕ)) (ls : List (List (List ℕ))) → l ∷ ls ≡ number_lines name o → IsNext name o l ls
next_number name None l ls h = cc
next_number name (Some n) l ls h = let first : l ≡ number_words name n = cc in let rest : ls ≡ [] = cc in record { number = n; value = refl; line = first; none = rest }

record IsTaken (h : SessionHeader) (t : HeaderSoFar) (w : NumberWord) (l : List (List ℕ)) (ls : List (List (List ℕ))) : Type 0 where
  fresh : told_number t w ≡ None
  next : IsNext (number_name w) (value_of h w) l (lines_of_word w ls)

taken_line : (h : SessionHeader) (t : HeaderSoFar) (w : NumberWord) (l : List (List ℕ)) (ls : List (List (List ℕ))) → is_line_of w l ≡ true → LeftOf h t (l ∷ ls) w → IsTaken h t w l ls
taken_line h t w l ls e (inl done) = let none : l ∷ lines_of_word w ls ≡ [] = sym (beginning-with (number_name w) l ls e) ∙ done.1 in cc
taken_line h t w l ls e (inr left) =
    let said : l ∷ lines_of_word w ls ≡ number_lines (number_name w) (value_of h w) =
    sym (filled-some w l (lines_of_word w ls)) ∙ ap (filled w) (sym (beginning-with (number_name w) l ls e)) ∙ left.1 in
    record { fresh = left.0; next = next_number (number_name w) (value_of h w) l (lines_of_word w ls) said }

-- another word, to which the line says nothing
left_beside : (h : SessionHeader) (t u : HeaderSoFar) (l : List (List ℕ)) (ls : List (List (List ℕ))) (v : NumberWord) → told_number u v ≡ told_number t v → is_line_of v l ≡ false → LeftOf h t (l ∷ ls) v → LeftOf h u ls v
left_beside h t u l ls v told other (inl done) = inl (told ∙ done.0, sym (beginning-without (number_name v) l ls other) ∙ done.1)
left_beside h t u l ls v told other (inr left) = inr (told ∙ left.0, ap (filled v) (sym (beginning-without (number_name v) l ls other)) ∙ left.1)

left_number : (h : SessionHeader) (t : HeaderSoFar) (w : NumberWord) (n : ℕ) (l : List (List ℕ)) (ls : List (List (List ℕ))) (v : NumberWord) → value_of h w ≡ Some n → l ≡ number_words (number_name w) n → lines_of_word w ls ≡ [] → LeftOf h t (l ∷ ls) v → LeftOf h (with_number t w n) ls v
left_number h t w n l ls v value line none left =
    elim (apart v w) [
      | inl a ↦ left_beside h t (with_number t w n) l ls v (a.told t n) (ap (is_line_of v) line ∙ a.line n) left
      | inr e ↦ subst (λ x. LeftOf h (with_number t w n) ls x) (sym e) (inl (told_same w t n ∙ sym value, none))
    ]

AreLeft-number : (h : SessionHeader) (t : HeaderSoFar) (w : NumberWord) (l : List (List ℕ)) (ls : List (List (List ℕ))) (is : IsTaken h t w l ls) → AreLeft h t (l ∷ ls) → AreLeft h (with_number t w is.next.number) ls
AreLeft-number h t w l ls is left = record {
  numbers = λ v. left_number h t w is.next.number l ls v is.next.value is.next.line is.next.none (left.numbers v);
  elevator =
      ap (λ b. elevator_lines b ++ beginning (codes "elevator") ls) (elevator_kept w t is.next.number)
      ∙ ap (λ x. elevator_lines t.elevator ++ x) (sym (beginning-without (codes "elevator") l ls (ap (begins (codes "elevator")) is.next.line ∙ no_elevator_line w is.next.number)))
      ∙ left.elevator;
  known = λ m i. left.known m (inr i);
}

-- the line of the elevator
record IsElevator (told wants : Bool) (l : List (List ℕ)) (ls : List (List (List ℕ))) : Type 0 where
  fresh : told ≡ false
  wanted : wants ≡ true
  line : l ≡ elevator_line
  none : ls ≡ []

next_elevator : (told wants : Bool) (l : List (List ℕ)) (ls : List (List (List ℕ))) → elevator_lines told ++ l ∷ ls ≡ elevator_lines wants → IsElevator told wants l ls
next_elevator false true l ls h = let first : l ≡ elevator_line = cc in let rest : ls ≡ [] = cc in record { fresh = refl; wanted = refl; line = first; none = rest }
next_elevator false false l ls h = cc
next_elevator true true l ls h = cc
next_elevator true false l ls h = cc

taken_elevator : (h : SessionHeader) (t : HeaderSoFar) (l : List (List ℕ)) (ls : List (List (List ℕ))) → begins (codes "elevator") l ≡ true → AreLeft h t (l ∷ ls) → IsElevator t.elevator h.elevator l (beginning (codes "elevator") ls)
taken_elevator h t l ls e left =
    next_elevator t.elevator h.elevator l (beginning (codes "elevator") ls)
    (ap (λ x. elevator_lines t.elevator ++ x) (sym (beginning-with (codes "elevator") l ls e)) ∙ left.elevator)

AreLeft-elevator : (h : SessionHeader) (t : HeaderSoFar) (l : List (List ℕ)) (ls : List (List (List ℕ))) → IsElevator t.elevator h.elevator l (beginning (codes "elevator") ls) → AreLeft h t (l ∷ ls) → AreLeft h (record t { elevator = true }) ls
AreLeft-elevator h t l ls is left = record {
  numbers = λ v. left_beside h t (record t { elevator = true }) l ls v (told_beside v t) (ap (is_line_of v) is.line ∙ no_number_line v) (left.numbers v);
  elevator = ap (λ x. elevator_line ∷ x) is.none ∙ ap elevator_lines (sym is.wanted);
  known = λ m i. left.known m (inr i);
}

-- ---- at the end of the header

pub one_number : (w : NumberWord) (d n : ℕ) → number_fits w n ≡ true → d < 2 ^ 64 → number_words (number_name w) d ∷ [] ≡ number_words (number_name w) n ∷ [] → d ≡ n
one_number w d n fits lt h =
    let same : decimal d ≡ decimal n = cc in
    let small = small_number w n fits in
    decimal_injective d n lt (omega (arith, small)) same

none_said : (name : List ℕ) (o : Option ℕ) → [] ≡ number_lines name o → None ≡ o
none_said name None h = refl
none_said name (Some n) h = cc

ended_number : (h : SessionHeader) (t : HeaderSoFar) (w : NumberWord) → IsHeader h → LeftOf h t [] w → told_or_default t w ≡ value_of h w
ended_number h t numbers.Depth is (inl done) = ap (λ o. Some (unwrap_or o DEFAULT_DEPTH)) done.0
ended_number h t numbers.Depth is (inr left) = ap (λ o. Some (unwrap_or o DEFAULT_DEPTH)) left.0 ∙ ap Some (one_number numbers.Depth DEFAULT_DEPTH h.depth (fits_value h numbers.Depth h.depth is refl) (lit< tt) left.1)
ended_number h t numbers.Queue is (inl done) = ap (λ o. Some (unwrap_or o DEFAULT_QUEUE)) done.0
ended_number h t numbers.Queue is (inr left) = ap (λ o. Some (unwrap_or o DEFAULT_QUEUE)) left.0 ∙ ap Some (one_number numbers.Queue DEFAULT_QUEUE h.queue (fits_value h numbers.Queue h.queue is refl) (lit< tt) left.1)
ended_number h t numbers.Limit is (inl done) = ap (λ o. Some (unwrap_or o DEFAULT_LIMIT)) done.0
ended_number h t numbers.Limit is (inr left) = ap (λ o. Some (unwrap_or o DEFAULT_LIMIT)) left.0 ∙ ap Some (one_number numbers.Limit DEFAULT_LIMIT h.limit (fits_value h numbers.Limit h.limit is refl) (lit< tt) left.1)
ended_number h t numbers.Fail is (inl done) = done.0
ended_number h t numbers.Fail is (inr left) = left.0 ∙ none_said (codes "fail") h.fail left.1
ended_number h t numbers.Cut is (inl done) = done.0
ended_number h t numbers.Cut is (inr left) = left.0 ∙ none_said (codes "cut") h.cut left.1
ended_number h t numbers.Seed is (inl done) = ap (λ o. Some (unwrap_or o DEFAULT_SEED)) done.0
ended_number h t numbers.Seed is (inr left) = ap (λ o. Some (unwrap_or o DEFAULT_SEED)) left.0 ∙ ap Some (one_number numbers.Seed DEFAULT_SEED h.seed (fits_value h numbers.Seed h.seed is refl) (lit< tt) left.1)
ended_number h t numbers.Flash is (inl done) = done.0
ended_number h t numbers.Flash is (inr left) = left.0 ∙ none_said (codes "flash") h.flash left.1

same_elevator : (told wants : Bool) → elevator_lines told ++ [] ≡ elevator_lines wants → told ≡ wants
same_elevator false false h = refl
same_elevator false true h = cc
same_elevator true false h = cc
same_elevator true true h = refl

abbrev header_with : ℕ → ℕ → ℕ → Option ℕ → Option ℕ → ℕ → Option ℕ → Bool → SessionHeader
header_with depth queue limit fail cut seed flash elevator = record { depth = depth; queue = queue; limit = limit; fail = fail; cut = cut; seed = seed; flash = flash; elevator = elevator }

same_header : (depth depth' queue queue' limit limit' : ℕ) (fail fail' cut cut' : Option ℕ) (seed seed' : ℕ) (flash flash' : Option ℕ) (elevator elevator' : Bool) → depth ≡ depth' → queue ≡ queue' → limit ≡ limit' → fail ≡ fail' → cut ≡ cut' → seed ≡ seed' → flash ≡ flash' → elevator ≡ elevator'
    → header_with depth queue limit fail cut seed flash elevator ≡ header_with depth' queue' limit' fail' cut' seed' flash' elevator'
same_header depth depth' queue queue' limit limit' fail fail' cut cut' seed seed' flash flash' elevator elevator' a b c d e f g h = cc

header_told : (h : SessionHeader) (t : HeaderSoFar) → IsHeader h → AreLeft h t [] → header_of t ≡ h
header_told h t is left =
    let depth = same_Some (unwrap_or t.depth DEFAULT_DEPTH) h.depth (ended_number h t numbers.Depth is (left.numbers numbers.Depth)) in
    let queue = same_Some (unwrap_or t.queue DEFAULT_QUEUE) h.queue (ended_number h t numbers.Queue is (left.numbers numbers.Queue)) in
    let limit = same_Some (unwrap_or t.limit DEFAULT_LIMIT) h.limit (ended_number h t numbers.Limit is (left.numbers numbers.Limit)) in
    let fail = ended_number h t numbers.Fail is (left.numbers numbers.Fail) in
    let cut = ended_number h t numbers.Cut is (left.numbers numbers.Cut) in
    let seed = same_Some (unwrap_or t.seed DEFAULT_SEED) h.seed (ended_number h t numbers.Seed is (left.numbers numbers.Seed)) in
    let flash = ended_number h t numbers.Flash is (left.numbers numbers.Flash) in
    same_header _ _ _ _ _ _ _ _ _ _ _ _ _ _ _ _ depth queue limit fail cut seed flash (same_elevator t.elevator h.elevator left.elevator)

-- ---- the lines are read

-- behind the first line and some header lines
abbrev pub at_header : ℕ → ℕ → ℕ → VolumeForm → HeaderSoFar → Reading
at_header inodes zones journal form t = record (new_reading inodes zones journal form) { told = t }

number_read : (i z j : ℕ) (form : VolumeForm) (t : HeaderSoFar) (w : NumberWord) (n : ℕ) → number_fits w n ≡ true → told_number t w ≡ None → IsRead (Some (at_header i z j form t)) (number_words (number_name w) n) (at_header i z j form (with_number t w n))
number_read i z j form t w n fits fresh =
    let r = at_header i z j form t in
    let small = small_number w n fits in
    IsRead-known r (number_name w) (decimal n ∷ []) (word.Header (header.Number w)) (at_header i z j form (with_number t w n)) (word_known w)
    (later_line-read r (join_with_byte 32 (number_words (number_name w) n)) (word.Header (header.Number w)) (decimal n ∷ []) (at_header i z j form (with_number t w n)) refl (ap is_some fresh)
    (ap (λ o. header_taken r (number_taken t w o)) (numeral-decimal n (omega (arith, small)))
    ∙ ap (λ b. header_taken r (if b then Ok (with_number t w n) else Err kinds.Number)) fits))

elevator_read : (i z j : ℕ) (form : VolumeForm) (t : HeaderSoFar) → t.elevator ≡ false → IsRead (Some (at_header i z j form t)) elevator_line (at_header i z j form (record t { elevator = true }))
elevator_read i z j form t fresh =
    let r = at_header i z j form t in
    IsRead-known r (codes "elevator") [] (word.Header header.Elevator) (at_header i z j form (record t { elevator = true })) refl
    (later_line-read r (join_with_byte 32 elevator_line) (word.Header header.Elevator) [] (at_header i z j form (record t { elevator = true })) refl fresh refl)

-- what the lines behind the header are read to
abbrev Behind : ℕ → ℕ → ℕ → VolumeForm → SessionHeader → List (List (List ℕ)) → SessionScript → Type 0
Behind i z j form h rest s = (t : HeaderSoFar) → header_of t ≡ h → ReadsTo (Some (at_header i z j form t)) rest s

at_number : (i z j : ℕ) (form : VolumeForm) (h : SessionHeader) (t : HeaderSoFar) (w : NumberWord) (l : List (List ℕ)) (ls rest : List (List (List ℕ))) (s : SessionScript) → IsHeader h → AreLeft h t (l ∷ ls) → is_line_of w l ≡ true
    → ((u : HeaderSoFar) → AreLeft h u ls → ReadsTo (Some (at_header i z j form u)) (ls ++ rest) s) → ReadsTo (Some (at_header i z j form t)) (l ∷ ls ++ rest) s
at_number i z j form h t w l ls rest s is left e behind =
    let taken = taken_line h t w l ls e (left.numbers w) in
    let n = taken.next.number in
    let read = number_read i z j form t w n (fits_value h w n is taken.next.value) taken.fresh in
    ReadsTo-line (Some (at_header i z j form t)) l (at_header i z j form (with_number t w n)) (ls ++ rest) s (subst (λ x. IsRead (Some (at_header i z j form t)) x (at_header i z j form (with_number t w n))) (sym taken.next.line) read)
    (behind (with_number t w n) (AreLeft-number h t w l ls taken left))

at_elevator : (i z j : ℕ) (form : VolumeForm) (h : SessionHeader) (t : HeaderSoFar) (l : List (List ℕ)) (ls rest : List (List (List ℕ))) (s : SessionScript) → AreLeft h t (l ∷ ls) → begins (codes "elevator") l ≡ true
    → ((u : HeaderSoFar) → AreLeft h u ls → ReadsTo (Some (at_header i z j form u)) (ls ++ rest) s) → ReadsTo (Some (at_header i z j form t)) (l ∷ ls ++ rest) s
at_elevator i z j form h t l ls rest s left e behind =
    let taken = taken_elevator h t l ls e left in
    let u = record t { elevator = true } in
    ReadsTo-line (Some (at_header i z j form t)) l (at_header i z j form u) (ls ++ rest) s (subst (λ x. IsRead (Some (at_header i z j form t)) x (at_header i z j form u)) (sym taken.line) (elevator_read i z j form t taken.fresh))
    (behind u (AreLeft-elevator h t l ls taken left))

-- which of the header lines it is
which_line : (l : List (List ℕ)) → is_header_line l ≡ true → ((w : NumberWord) × (is_line_of w l ≡ true)) ⊎ (begins (codes "elevator") l ≡ true)
which_line l h =
    elim (or_cases (begins (codes "depth") l) _ h) [
      | inl e ↦ inl (numbers.Depth, e)
      | inr h ↦ elim (or_cases (begins (codes "queue") l) _ h) [
        | inl e ↦ inl (numbers.Queue, e)
        | inr h ↦ elim (or_cases (begins (codes "limit") l) _ h) [
          | inl e ↦ inl (numbers.Limit, e)
          | inr h ↦ elim (or_cases (begins (codes "fail") l) _ h) [
            | inl e ↦ inl (numbers.Fail, e)
            | inr h ↦ elim (or_cases (begins (codes "cut") l) _ h) [
              | inl e ↦ inl (numbers.Cut, e)
              | inr h ↦ elim (or_cases (begins (codes "seed") l) _ h) [
                | inl e ↦ inl (numbers.Seed, e)
                | inr h ↦ elim (or_cases (begins (codes "flash") l) (begins (codes "elevator") l) h) [
                  | inl e ↦ inl (numbers.Flash, e)
                  | inr e ↦ inr e
                ]
              ]
            ]
          ]
        ]
      ]
    ]

header_left : (hs : List (List (List ℕ))) (i z j : ℕ) (form : VolumeForm) (h : SessionHeader) (t : HeaderSoFar) (rest : List (List (List ℕ))) (s : SessionScript) → IsHeader h → AreLeft h t hs → Behind i z j form h rest s → ReadsTo (Some (at_header i z j form t)) (hs ++ rest) s
header_left [] i z j form h t rest s is left behind = behind t (header_told h t is left)
header_left (l ∷ hs) i z j form h t rest s is left behind =
    elim (which_line l (left.known l (inl refl))) [
      | inl p ↦ at_number i z j form h t p.0 l hs rest s is left p.1 (λ u more. header_left hs i z j form h u rest s is more behind)
      | inr e ↦ at_elevator i z j form h t l hs rest s left e (λ u more. header_left hs i z j form h u rest s is more behind)
    ]

left_at_first : (h : SessionHeader) (hs : List (List (List ℕ))) (w : NumberWord) → IsHeaderOf h hs → LeftOf h none_told hs w
left_at_first h hs numbers.Depth is = inr (refl, ap (λ w. or_default (codes "depth" ∷ w ∷ []) (beginning (codes "depth") hs)) (sym default_text) ∙ is.depth)
left_at_first h hs numbers.Queue is = inr (refl, ap (λ w. or_default (codes "queue" ∷ w ∷ []) (beginning (codes "queue") hs)) (sym default_text) ∙ is.queue)
left_at_first h hs numbers.Limit is = inr (refl, ap (λ w. or_default (codes "limit" ∷ w ∷ []) (beginning (codes "limit") hs)) (sym limit_text) ∙ is.limit)
left_at_first h hs numbers.Fail is = inr (refl, is.fail)
left_at_first h hs numbers.Cut is = inr (refl, is.cut)
left_at_first h hs numbers.Seed is = inr (refl, ap (λ w. or_default (codes "seed" ∷ w ∷ []) (beginning (codes "seed") hs)) (sym one_text) ∙ is.seed)
left_at_first h hs numbers.Flash is = inr (refl, is.flash)

pub header_read : (hs : List (List (List ℕ))) (i z j : ℕ) (form : VolumeForm) (h : SessionHeader) (rest : List (List (List ℕ))) (s : SessionScript) → IsHeader h → IsHeaderOf h hs → Behind i z j form h rest s → ReadsTo (Some (new_reading i z j form)) (hs ++ rest) s
header_read hs i z j form h rest s is says behind =
    header_left hs i z j form h none_told rest s is (record { numbers = λ w. left_at_first h hs w says; elevator = says.elevator; known = says.known }) behind
