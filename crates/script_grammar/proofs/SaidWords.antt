-- Words that are read are spelled as the speller writes them.
use Rattle.std.proofs.Common.{◌≡◌, ℕ, ◌||◌, Bool, true, false, List, [], ◌∷◌, ◌++◌, codes, decimal, Some, None, refl, sym, ap, ◌∙◌, subst, lit<, lit≤, if◌then◌else◌}
use Rattle.std.specs.Str.{bytes_eq}
use Rattle.std.specs.Option.{option_or}
use Rattle.std.proofs.lemmas.Fmt.{decimal_digit, decimal_step}
use Rattle.std.proofs.lemmas.Option.{same_Some, none-some}
use Rattle.std.proofs.lemmas.Slice.Eq.{bytes_eq-Decides}
use Rattle.script_grammar.specs.declared.script.EventLine.{EventLine}
use Rattle.script_grammar.specs.declared.script.EventWord.TheVariants.{One}
use Rattle.script_grammar.specs.declared.script.CoreEvent.{CoreEvent}
use Rattle.script_grammar.specs.declared.words.FirstWord.{FirstWord}
use Rattle.script_grammar.specs.declared.words.FirstWord.TheVariants as first
use Rattle.script_grammar.specs.declared.words.HeaderWord.{HeaderWord}
use Rattle.script_grammar.specs.declared.words.HeaderWord.TheVariants as header
use Rattle.script_grammar.specs.declared.words.BodyWord.{BodyWord}
use Rattle.script_grammar.specs.declared.words.BodyWord.TheVariants as body
use Rattle.script_grammar.specs.declared.words.PlainWord.{PlainWord}
use Rattle.script_grammar.specs.declared.words.PlainWord.TheVariants as plain
use Rattle.script_grammar.specs.declared.words.PickWord.{PickWord}
use Rattle.script_grammar.specs.declared.words.PickWord.TheVariants as picks
use Rattle.script_grammar.specs.declared.words.Word.{Word}
use Rattle.script_grammar.specs.declared.words.Word.TheVariants as word
use Rattle.script_grammar.specs.declared.words.Class.{Class}
use Rattle.script_grammar.specs.declared.words.Class.TheVariants as class
use Rattle.script_grammar.specs.Words.{first_word, header_word, body_word, plain_word, pick_word, is_volume_section, is_change, is_query, is_host_event, volume_word, word_of, class_of}
use Rattle.script_grammar.specs.Grammar.{is_ordered_class, is_barrier_class, plain_event, pick_event}
use Rattle.script_grammar.specs.laws.Speller.{class_text, event_line_words}
use Rattle.script_words.proofs.Chosen.{choose, group_or}

-- ---- words, by group

abbrev pub first_text : FirstWord → List ℕ
first_text first.Device = codes "device"
first_text first.Blocks = codes "blocks"
first_text first.Volume = codes "volume"

abbrev pub header_text : HeaderWord → List ℕ
header_text header.Depth = codes "depth"
header_text header.Queue = codes "queue"
header_text header.Fail = codes "fail"
header_text header.Cut = codes "cut"
header_text header.Elevator = codes "elevator"
header_text header.Flash = codes "flash"

abbrev pub body_text : BodyWord → List ℕ
body_text body.Put = codes "put"
body_text body.Flush = codes "flush"

abbrev pub plain_text : PlainWord → List ℕ
plain_text plain.Submit = codes "submit"
plain_text plain.Accept = codes "accept"
plain_text plain.Receive = codes "receive"

abbrev pub pick_text : PickWord → List ℕ
pick_text picks.Dispatch = codes "dispatch"
pick_text picks.Transfer = codes "transfer"
pick_text picks.Persist = codes "persist"

pub first_named : (w : List ℕ) (f : FirstWord) → first_word w ≡ Some f → w ≡ first_text f
first_named w f h =
    choose first_text w first.Device f _ h
    (λ h. choose first_text w first.Blocks f _ h
    (λ h. choose first_text w first.Volume f None h (λ h. absurd (none-some f h))))

header_named : (w : List ℕ) (d : HeaderWord) → header_word w ≡ Some d → w ≡ header_text d
header_named w d h =
    choose header_text w header.Depth d _ h
    (λ h. choose header_text w header.Queue d _ h
    (λ h. choose header_text w header.Fail d _ h
    (λ h. choose header_text w header.Cut d _ h
    (λ h. choose header_text w header.Elevator d _ h
    (λ h. choose header_text w header.Flash d None h (λ h. absurd (none-some d h)))))))

body_named : (w : List ℕ) (b : BodyWord) → body_word w ≡ Some b → w ≡ body_text b
body_named w b h =
    choose body_text w body.Put b _ h
    (λ h. choose body_text w body.Flush b None h (λ h. absurd (none-some b h)))

plain_named : (w : List ℕ) (p : PlainWord) → plain_word w ≡ Some p → w ≡ plain_text p
plain_named w p h =
    choose plain_text w plain.Submit p _ h
    (λ h. choose plain_text w plain.Accept p _ h
    (λ h. choose plain_text w plain.Receive p None h (λ h. absurd (none-some p h))))

pick_named : (w : List ℕ) (p : PickWord) → pick_word w ≡ Some p → w ≡ pick_text p
pick_named w p h =
    choose pick_text w picks.Dispatch p _ h
    (λ h. choose pick_text w picks.Transfer p _ h
    (λ h. choose pick_text w picks.Persist p None h (λ h. absurd (none-some p h))))

-- the word is spelled so; nothing is said of the words of volumes
abbrev pub IsNamed : List ℕ → Word → Type 0
IsNamed w (word.First f) = w ≡ first_text f
IsNamed w (word.Header h) = w ≡ header_text h
IsNamed w (word.Body b) = w ≡ body_text b
IsNamed w word.Events = w ≡ codes "events"
IsNamed w (word.Plain p) = w ≡ plain_text p
IsNamed w (word.Pick p) = w ≡ pick_text p
IsNamed w word.OfVolume = Unit {0}

volume_named : (w : List ℕ) (v : Word) (is : Bool) → (if is then Some word.OfVolume else None) ≡ Some v → IsNamed w v
volume_named w v true h = subst (IsNamed w) (same_Some word.OfVolume v h) tt
volume_named w v false h = absurd (none-some v h)

events_named : (w : List ℕ) (v : Word) (is : Bool) → bytes_eq w (codes "events") ≡ is → option_or (if is then Some word.Events else None) (volume_word w) ≡ Some v → IsNamed w v
events_named w v true e h = subst (IsNamed w) (same_Some word.Events v h) ((bytes_eq-Decides w (codes "events")).0 e)
events_named w v false e h = volume_named w v (is_volume_section w || (is_change w || (is_query w || is_host_event w))) h

pub named : (w : List ℕ) (v : Word) → word_of w ≡ Some v → IsNamed w v
named w v h =
    group_or word.First (first_word w) _ v (IsNamed w) h (first_named w)
    (λ h. group_or word.Header (header_word w) _ v (IsNamed w) h (header_named w)
    (λ h. group_or word.Body (body_word w) _ v (IsNamed w) h (body_named w)
    (λ h. group_or word.Plain (plain_word w) _ v (IsNamed w) h (plain_named w)
    (λ h. group_or word.Pick (pick_word w) _ v (IsNamed w) h (pick_named w)
    (λ h. events_named w v (bytes_eq w (codes "events")) refl h)))))

-- ---- classes

abbrev class_name : Class → List ℕ
class_name class.Free = codes "free"
class_name class.Ordered = codes "ordered"
class_name class.Barrier = codes "barrier"

class_name-text : (k : Class) → class_name k ≡ class_text (is_ordered_class k) (is_barrier_class k)
class_name-text class.Free = refl
class_name-text class.Ordered = refl
class_name-text class.Barrier = refl

pub class_named : (w : List ℕ) (k : Class) → class_of w ≡ Some k → w ≡ class_text (is_ordered_class k) (is_barrier_class k)
class_named w k h =
    choose class_name w class.Free k _ h
    (λ h. choose class_name w class.Ordered k _ h
    (λ h. choose class_name w class.Barrier k None h (λ h. absurd (none-some k h))))
    ∙ class_name-text k

-- ---- numbers of the speller

pub default_text : codes "32" ≡ decimal 32
default_text = sym (decimal_step 32 (lit≤ tt) (lit< tt) ∙ ap (λ l. l ++ 50 ∷ []) (decimal_digit 3 (lit< tt)))

-- ---- event lines

-- an event, with its count
abbrev pub line_with : CoreEvent → ℕ → EventLine
line_with event count = record { what = One event; count = count }

pub plain_said : (p : PlainWord) (n : ℕ) → plain_text p ∷ codes "x" ∷ decimal n ∷ [] ≡ event_line_words (line_with (plain_event p) n)
plain_said plain.Submit n = refl
plain_said plain.Accept n = refl
plain_said plain.Receive n = refl

pub pick_said : (p : PickWord) (pick n : ℕ) → pick_text p ∷ decimal pick ∷ codes "x" ∷ decimal n ∷ [] ≡ event_line_words (line_with (pick_event p pick) n)
pick_said picks.Dispatch pick n = refl
pick_said picks.Transfer pick n = refl
pick_said picks.Persist pick n = refl
