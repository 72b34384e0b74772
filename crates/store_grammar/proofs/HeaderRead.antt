-- Header lines, in whatever order, are read to the values that they say.
use Rattle.std.proofs.Common.{◌≡◌, ℕ, ◌-◌, ◌^◌, ◌<◌, Bool, true, false, List, [], ◌∷◌, ◌++◌, codes, decimal, Option, Some, None, Ok, Err, is_some, nat_le, unwrap_or, refl, sym, ap, ◌∙◌, subst, inl, inr, ◌⊎◌, arith, lit<, if◌then◌else◌}
use Rattle.std.proofs.lemmas.Bool.{and_parts, and_from, or_cases, le-leb, leb-true}
use Rattle.std.proofs.lemmas.Fmt.{decimal_injective}
use Rattle.std.proofs.lemmas.Option.{same_Some}
use Rattle.blk_base.specs.Members.{In}
use Rattle.script_words.proofs.SpelledNumbers.{numeral-decimal}
use Rattle.script_grammar.specs.declared.kinds.ScriptKind.TheVariants as kinds
use Rattle.script_grammar.specs.declared.limits.TheConstants.{DEFAULT_DEPTH, DEFAULT_QUEUE, MOST_DEPTH, MOST_QUEUE, MOST_STEPS, MOST_TRANSFERS}
use Rattle.script_grammar.specs.laws.Accepted.{begins, beginning, or_default}
use Rattle.script_grammar.proofs.SaidWords.{default_text}
use Rattle.session_grammar.specs.laws.Speller.{number_words, number_lines}
use Rattle.session_grammar.proofs.HeaderRead.{beginning-with, beginning-without}
use Rattle.store_grammar.specs.declared.reading.Reading.{Reading}
use Rattle.store_grammar.specs.declared.header.HeaderSoFar.{HeaderSoFar}
use Rattle.store_grammar.specs.declared.script.StoreHeader.{StoreHeader}
use Rattle.store_grammar.specs.declared.script.StoreScript.{StoreScript}
use Rattle.store_grammar.specs.declared.words.HeaderWord.{HeaderWord}
use Rattle.store_grammar.specs.declared.words.HeaderWord.TheVariants as header
use Rattle.store_grammar.specs.declared.words.Word.TheVariants as word
use Rattle.store_grammar.specs.Words.{word_of}
use Rattle.store_grammar.specs.Grammar.{told_number, none_told, new_reading, number_fits, with_number, number_taken, header_taken, header_of}
use Rattle.store_grammar.specs.WellFormed.{IsHeader}
use Rattle.store_grammar.specs.laws.Accepted.{is_header_line, IsHeaderOf}
use Rattle.store_grammar.proofs.Names.{header_name}
use Rattle.store_grammar.proofs.ReadsTo.{IsRead, ReadsTo, ReadsTo-line, IsRead-known}

-- what the header has for the word
abbrev pub value_of : StoreHeader → HeaderWord → Option ℕ
value_of h header.Depth = Some h.depth
value_of h header.Queue = Some h.queue
value_of h header.Fail = h.fail
value_of h header.Cut = h.cut

-- the lines of a word, or its default
abbrev pub filled : HeaderWord → List (List (List ℕ)) → List (List (List ℕ))
filled header.Depth ls = or_default (number_words (codes "depth") DEFAULT_DEPTH) ls
filled header.Queue ls = or_default (number_words (codes "queue") DEFAULT_QUEUE) ls
filled header.Fail ls = ls
filled header.Cut ls = ls

-- what is told, or the default
abbrev pub told_or_default : HeaderSoFar → HeaderWord → Option ℕ
told_or_default t w = value_of (header_of t) w

abbrev pub is_line_of : HeaderWord → List (List ℕ) → Bool
is_line_of w l = begins (header_name w) l

abbrev pub lines_of_word : HeaderWord → List (List (List ℕ)) → List (List (List ℕ))
lines_of_word w ls = beginning (header_name w) ls

-- two words have two places, or are one
pub record AreApart (v w : HeaderWord) : Type 0 where
  pub told : (t : HeaderSoFar) (n : ℕ) → told_number (with_number t w n) v ≡ told_number t v
  pub line : (n : ℕ) → is_line_of v (number_words (header_name w) n) ≡ false

pub apart : (v w : HeaderWord) → AreApart v w ⊎ (v ≡ w)
apart header.Depth header.Depth = inr refl
apart header.Depth header.Queue = inl (record { told = λ t n. refl; line = λ n. refl })
apart header.Depth header.Fail = inl (record { told = λ t n. refl; line = λ n. refl })
apart header.Depth header.Cut = inl (record { told = λ t n. refl; line = λ n. refl })
apart header.Queue header.Depth = inl (record { told = λ t n. refl; line = λ n. refl })
apart header.Queue header.Queue = inr refl
apart header.Queue header.Fail = inl (record { told = λ t n. refl; line = λ n. refl })
apart header.Queue header.Cut = inl (record { told = λ t n. refl; line = λ n. refl })
apart header.Fail header.Depth = inl (record { told = λ t n. refl; line = λ n. refl })
apart header.Fail header.Queue = inl (record { told = λ t n. refl; line = λ n. refl })
apart header.Fail header.Fail = inr refl
apart header.Fail header.Cut = inl (record { told = λ t n. refl; line = λ n. refl })
apart header.Cut header.Depth = inl (record { told = λ t n. refl; line = λ n. refl })
apart header.Cut header.Queue = inl (record { told = λ t n. refl; line = λ n. refl })
apart header.Cut header.Fail = inl (record { told = λ t n. refl; line = λ n. refl })
apart header.Cut header.Cut = inr refl

pub told_same : (w : HeaderWord) (t : HeaderSoFar) (n : ℕ) → told_number (with_number t w n) w ≡ Some n
told_same header.Depth t n = refl
told_same header.Queue t n = refl
told_same header.Fail t n = refl
told_same header.Cut t n = refl

filled-some : (w : HeaderWord) (l : List (List ℕ)) (ls : List (List (List ℕ))) → filled w (l ∷ ls) ≡ l ∷ ls
filled-some header.Depth l ls = refl
filled-some header.Queue l ls = refl
filled-some header.Fail l ls = refl
filled-some header.Cut l ls = refl

word_known : (w : HeaderWord) → word_of false (header_name w) ≡ Some (word.Header w)
word_known header.Depth = refl
word_known header.Queue = refl
word_known header.Fail = refl
word_known header.Cut = refl

pub fits_value : (h : StoreHeader) (w : HeaderWord) (n : ℕ) → IsHeader h → value_of h w ≡ Some n → number_fits w n ≡ true
fits_value h header.Depth n is e =
    let same = same_Some h.depth n e in
    subst (λ m. number_fits header.Depth m ≡ true) same (and_from (nat_le 1 h.depth) (nat_le h.depth MOST_DEPTH) (le-leb 1 h.depth is.some_depth) (le-leb h.depth MOST_DEPTH is.depth))
fits_value h header.Queue n is e =
    let same = same_Some h.queue n e in
    subst (λ m. number_fits header.Queue m ≡ true) same (and_from (nat_le 1 h.queue) (nat_le h.queue MOST_QUEUE) (le-leb 1 h.queue is.some_queue) (le-leb h.queue MOST_QUEUE is.queue))
fits_value h header.Fail n is e =
    and_from (nat_le 1 n) (nat_le n MOST_TRANSFERS) (le-leb 1 n (is.least_fail n e)) (le-leb n MOST_TRANSFERS (is.most_fail n e))
fits_value h header.Cut n is e = le-leb n MOST_STEPS (is.cut n e)

pub small_number : (w : HeaderWord) (n : ℕ) → number_fits w n ≡ true → n < 2 ^ 64 - 1
small_number header.Depth n h = let most = leb-true n MOST_DEPTH (and_parts (nat_le 1 n) (nat_le n MOST_DEPTH) h).1 in omega (arith, most)
small_number header.Queue n h = let most = leb-true n MOST_QUEUE (and_parts (nat_le 1 n) (nat_le n MOST_QUEUE) h).1 in omega (arith, most)
small_number header.Fail n h = let most = leb-true n MOST_TRANSFERS (and_parts (nat_le 1 n) (nat_le n MOST_TRANSFERS) h).1 in omega (arith, most)
small_number header.Cut n h = let most = leb-true n MOST_STEPS h in omega (arith, most)

-- ---- what is left to be read

abbrev LeftOf : StoreHeader → HeaderSoFar → List (List (List ℕ)) → HeaderWord → Type 0
LeftOf h t ls w =
    ((told_number t w ≡ value_of h w) × (lines_of_word w ls ≡ []))
    ⊎ ((told_number t w ≡ None) × (filled w (lines_of_word w ls) ≡ number_lines (header_name w) (value_of h w)))

-- what was told and the lines that are left say the values
record AreLeft (h : StoreHeader) (t : HeaderSoFar) (ls : List (List (List ℕ))) : Type 0 where
  numbers : (w : HeaderWord) → LeftOf h t ls w
  known : (l : List (List ℕ)) → In l ls → is_header_line l ≡ true

-- one line alone says the value
record IsNext (name : List ℕ) (o : Option ℕ) (l : List (List ℕ)) (ls : List (List (List ℕ))) : Type 0 where
  number : ℕ
  value : o ≡ Some number
  line : l ≡ number_words name number
  none : ls ≡ []

next_number : (name : List ℕ) (o : Option ℕ) (l : List (List ℕ)) (ls : List (List (List ℕ))) → l ∷ ls ≡ number_lines name o → IsNext name o l ls
next_number name None l ls h = cc
next_number name (Some n) l ls h = let first : l ≡ number_words name n = cc in let rest : ls ≡ [] = cc in record { number = n; value = refl; line = first; none = rest }

record IsTaken (h : StoreHeader) (t : HeaderSoFar) (w : HeaderWord) (l : List (List ℕ)) (ls : List (List (List ℕ))) : Type 0 where
  fresh : told_number t w ≡ None
  next : IsNext (header_name w) (value_of h w) l (lines_of_word w ls)

taken_line : (h : StoreHeader) (t : HeaderSoFar) (w : HeaderWord) (l : List (List ℕ)) (ls : List (List (List ℕ))) → is_line_of w l ≡ true → LeftOf h t (l ∷ ls) w → IsTaken h t w l ls
taken_line h t w l ls e (inl done) = let none : l ∷ lines_of_word w ls ≡ [] = sym (beginning-with (header_name w) l ls e) ∙ done.1 in cc
taken_line h t w l ls e (inr left) =
    let said : l ∷ lines_of_word w ls ≡ number_lines (header_name w) (value_of h w) =
    sym (filled-some w l (lines_of_word w ls)) ∙ ap (filled w) (sym (beginning-with (header_name w) l ls e)) ∙ left.1 in
    record { fresh = left.0; next = next_number (header_name w) (value_of h w) l (lines_of_word w ls) said }

-- another word, to which the line says nothing
left_beside : (h : StoreHeader) (t u : HeaderSoFar) (l : List (List ℕ)) (ls : List (List (List ℕ))) (v : HeaderWord) → told_number u v ≡ told_number t v → is_line_of v l ≡ false → LeftOf h t (l ∷ ls) v → LeftOf h u ls v
left_beside h t u l ls v told other (inl done) = inl (told ∙ done.0, sym (beginning-without (header_name v) l ls other) ∙ done.1)
left_beside h t u l ls v told other (inr left) = inr (told ∙ left.0, ap (filled v) (sym (beginning-without (header_name v) l ls other)) ∙ left.1)

left_number : (h : StoreHeader) (t : HeaderSoFar) (w : HeaderWord) (n : ℕ) (l : List (List ℕ)) (ls : List (List (List ℕ))) (v : HeaderWord) → value_of h w ≡ Some n → l ≡ number_words (header_name w) n → lines_of_word w ls ≡ [] → LeftOf h t (l ∷ ls) v → LeftOf h (with_number t w n) ls v
left_number h t w n l ls v value line none left =
    elim (apart v w) [
      | inl a ↦ left_beside h t (with_number t w n) l ls v (a.told t n) (ap (is_line_of v) line ∙ a.line n) left
      | inr e ↦ subst (λ x. LeftOf h (with_number t w n) ls x) (sym e) (inl (told_same w t n ∙ sym value, none))
    ]

AreLeft-number : (h : StoreHeader) (t : HeaderSoFar) (w : HeaderWord) (l : List (List ℕ)) (ls : List (List (List ℕ))) (is : IsTaken h t w l ls) → AreLeft h t (l ∷ ls) → AreLeft h (with_number t w is.next.number) ls
AreLeft-number h t w l ls is left = record {
  numbers = λ v. left_number h t w is.next.number l ls v is.next.value is.next.line is.next.none (left.numbers v);
  known = λ m i. left.known m (inr i);
}

-- ---- at the end of the header

one_number : (w : HeaderWord) (d n : ℕ) → number_fits w n ≡ true → d < 2 ^ 64 → number_words (header_name w) d ∷ [] ≡ number_words (header_name w) n ∷ [] → d ≡ n
one_number w d n fits lt h =
    let same : decimal d ≡ decimal n = cc in
    let small = small_number w n fits in
    decimal_injective d n lt (omega (arith, small)) same

none_said : (name : List ℕ) (o : Option ℕ) → [] ≡ number_lines name o → None ≡ o
none_said name None h = refl
none_said name (Some n) h = cc

ended_number : (h : StoreHeader) (t : HeaderSoFar) (w : HeaderWord) → IsHeader h → LeftOf h t [] w → told_or_default t w ≡ value_of h w
ended_number h t header.Depth is (inl done) = ap (λ o. Some (unwrap_or o DEFAULT_DEPTH)) done.0
ended_number h t header.Depth is (inr left) = ap (λ o. Some (unwrap_or o DEFAULT_DEPTH)) left.0 ∙ ap Some (one_number header.Depth DEFAULT_DEPTH h.depth (fits_value h header.Depth h.depth is refl) (lit< tt) left.1)
ended_number h t header.Queue is (inl done) = ap (λ o. Some (unwrap_or o DEFAULT_QUEUE)) done.0
ended_number h t header.Queue is (inr left) = ap (λ o. Some (unwrap_or o DEFAULT_QUEUE)) left.0 ∙ ap Some (one_number header.Queue DEFAULT_QUEUE h.queue (fits_value h header.Queue h.queue is refl) (lit< tt) left.1)
ended_number h t header.Fail is (inl done) = done.0
ended_number h t header.Fail is (inr left) = left.0 ∙ none_said (codes "fail") h.fail left.1
ended_number h t header.Cut is (inl done) = done.0
ended_number h t header.Cut is (inr left) = left.0 ∙ none_said (codes "cut") h.cut left.1

abbrev header_with : ℕ → ℕ → Option ℕ → Option ℕ → StoreHeader
header_with depth queue fail cut = record { depth = depth; queue = queue; fail = fail; cut = cut }

same_header : (depth depth' queue queue' : ℕ) (fail fail' cut cut' : Option ℕ) → depth ≡ depth' → queue ≡ queue' → fail ≡ fail' → cut ≡ cut' → header_with depth queue fail cut ≡ header_with depth' queue' fail' cut'
same_header depth depth' queue queue' fail fail' cut cut' a b c d = cc

header_told : (h : StoreHeader) (t : HeaderSoFar) → IsHeader h → AreLeft h t [] → header_of t ≡ h
header_told h t is left =
    let depth = same_Some (unwrap_or t.depth DEFAULT_DEPTH) h.depth (ended_number h t header.Depth is (left.numbers header.Depth)) in
    let queue = same_Some (unwrap_or t.queue DEFAULT_QUEUE) h.queue (ended_number h t header.Queue is (left.numbers header.Queue)) in
    let fail = ended_number h t header.Fail is (left.numbers header.Fail) in
    let cut = ended_number h t header.Cut is (left.numbers header.Cut) in
    same_header _ _ _ _ _ _ _ _ depth queue fail cut

-- ---- the lines are read

-- behind the first line and some header lines
abbrev pub at_header : ℕ → HeaderSoFar → Reading
at_header room t = record (new_reading room) { told = t }

number_read : (room : ℕ) (t : HeaderSoFar) (w : HeaderWord) (n : ℕ) → number_fits w n ≡ true → told_number t w ≡ None → IsRead (Some (at_header room t)) (number_words (header_name w) n) (at_header room (with_number t w n))
number_read room t w n fits fresh =
    let r = at_header room t in
    let small = small_number w n fits in
    IsRead-known r (header_name w) (decimal n ∷ []) (word.Header w) (at_header room (with_number t w n)) (word_known w) refl (ap is_some fresh)
    (ap (λ o. header_taken r (number_taken t w o)) (numeral-decimal n (omega (arith, small)))
    ∙ ap (λ b. header_taken r (if b then Ok (with_number t w n) else Err kinds.Number)) fits)

-- what the lines behind the header are read to
abbrev Behind : ℕ → StoreHeader → List (List (List ℕ)) → StoreScript → Type 0
Behind room h rest s = (t : HeaderSoFar) → header_of t ≡ h → ReadsTo (Some (at_header room t)) rest s

at_number : (room : ℕ) (h : StoreHeader) (t : HeaderSoFar) (w : HeaderWord) (l : List (List ℕ)) (ls rest : List (List (List ℕ))) (s : StoreScript) → IsHeader h → AreLeft h t (l ∷ ls) → is_line_of w l ≡ true
    → ((u : HeaderSoFar) → AreLeft h u ls → ReadsTo (Some (at_header room u)) (ls ++ rest) s) → ReadsTo (Some (at_header room t)) (l ∷ ls ++ rest) s
at_number room h t w l ls rest s is left e behind =
    let taken = taken_line h t w l ls e (left.numbers w) in
    let n = taken.next.number in
    let read = number_read room t w n (fits_value h w n is taken.next.value) taken.fresh in
    ReadsTo-line (Some (at_header room t)) l (at_header room (with_number t w n)) (ls ++ rest) s (subst (λ x. IsRead (Some (at_header room t)) x (at_header room (with_number t w n))) (sym taken.next.line) read)
    (behind (with_number t w n) (AreLeft-number h t w l ls taken left))

-- which of the header lines it is
which_line : (l : List (List ℕ)) → is_header_line l ≡ true → (w : HeaderWord) × (is_line_of w l ≡ true)
which_line l h =
    elim (or_cases (begins (codes "depth") l) _ h) [
      | inl e ↦ (header.Depth, e)
      | inr h ↦ elim (or_cases (begins (codes "queue") l) _ h) [
        | inl e ↦ (header.Queue, e)
        | inr h ↦ elim (or_cases (begins (codes "fail") l) (begins (codes "cut") l) h) [
          | inl e ↦ (header.Fail, e)
          | inr e ↦ (header.Cut, e)
        ]
      ]
    ]

header_left : (hs : List (List (List ℕ))) (room : ℕ) (h : StoreHeader) (t : HeaderSoFar) (rest : List (List (List ℕ))) (s : StoreScript) → IsHeader h → AreLeft h t hs → Behind room h rest s → ReadsTo (Some (at_header room t)) (hs ++ rest) s
header_left [] room h t rest s is left behind = behind t (header_told h t is left)
header_left (l ∷ hs) room h t rest s is left behind =
    let p = which_line l (left.known l (inl refl)) in
    at_number room h t p.0 l hs rest s is left p.1 (λ u more. header_left hs room h u rest s is more behind)

left_at_first : (h : StoreHeader) (hs : List (List (List ℕ))) (w : HeaderWord) → IsHeaderOf h hs → LeftOf h none_told hs w
left_at_first h hs header.Depth is = inr (refl, ap (λ w. or_default (codes "depth" ∷ w ∷ []) (beginning (codes "depth") hs)) (sym default_text) ∙ is.depth)
left_at_first h hs header.Queue is = inr (refl, ap (λ w. or_default (codes "queue" ∷ w ∷ []) (beginning (codes "queue") hs)) (sym default_text) ∙ is.queue)
left_at_first h hs header.Fail is = inr (refl, is.fail)
left_at_first h hs header.Cut is = inr (refl, is.cut)

pub header_read : (hs : List (List (List ℕ))) (room : ℕ) (h : StoreHeader) (rest : List (List (List ℕ))) (s : StoreScript) → IsHeader h → IsHeaderOf h hs → Behind room h rest s → ReadsTo (Some (new_reading room)) (hs ++ rest) s
header_read hs room h rest s is says behind =
    header_left hs room h none_told rest s is (record { numbers = λ w. left_at_first h hs w says; known = says.known }) behind
