-- The words that begin lines, as they are spelled.
use Rattle.std.proofs.Common.{◌≡◌, ℕ, Bool, true, false, List, codes, Option, Some, None, refl, sym, subst, if◌then◌else◌}
use Rattle.std.specs.Str.{bytes_eq}
use Rattle.std.proofs.lemmas.Option.{same_Some, none-some}
use Rattle.std.proofs.lemmas.Slice.Eq.{bytes_eq-Decides}
use Rattle.line_grammar.specs.calls.CallLines.{call_word}
use Rattle.line_grammar.specs.events.EventLines.{event_word}
use Rattle.script_words.proofs.Chosen.{choose, group_or, either_or, mapped}
use Rattle.script_grammar.specs.Words.{first_word}
use Rattle.script_grammar.proofs.SaidWords.{first_text, first_named}
use Rattle.session_grammar.specs.declared.words.NumberWord.{NumberWord}
use Rattle.session_grammar.specs.declared.words.NumberWord.TheVariants as numbers
use Rattle.session_grammar.specs.declared.words.HeaderWord.{HeaderWord}
use Rattle.session_grammar.specs.declared.words.HeaderWord.TheVariants as header
use Rattle.session_grammar.specs.declared.words.Word.{Word}
use Rattle.session_grammar.specs.declared.words.Word.TheVariants as word
use Rattle.session_grammar.specs.Words.{number_word, other_header, header_word, part_word, call_step, event_step, step_word, word_of}

abbrev pub number_name : NumberWord → List ℕ
number_name numbers.Depth = codes "depth"
number_name numbers.Queue = codes "queue"
number_name numbers.Limit = codes "limit"
number_name numbers.Fail = codes "fail"
number_name numbers.Cut = codes "cut"
number_name numbers.Seed = codes "seed"
number_name numbers.Flash = codes "flash"

abbrev pub header_name : HeaderWord → List ℕ
header_name (header.Number w) = number_name w
header_name header.Elevator = codes "elevator"

-- the word is spelled so; of calls and events their own crates say how
abbrev pub IsNamed : List ℕ → Word → Type 0
IsNamed w (word.First f) = w ≡ first_text f
IsNamed w (word.Header h) = w ≡ header_name h
IsNamed w word.Put = w ≡ codes "put"
IsNamed w word.Thread = w ≡ codes "thread"
IsNamed w word.Events = w ≡ codes "events"
IsNamed w word.Recover = w ≡ codes "recover"
IsNamed w (word.Call c) = call_word w ≡ Some c
IsNamed w (word.Event e) = event_word w ≡ Some e

number_named : (w : List ℕ) (n : NumberWord) → number_word w ≡ Some n → w ≡ number_name n
number_named w n h =
    choose number_name w numbers.Depth n _ h
    (λ h. choose number_name w numbers.Queue n _ h
    (λ h. choose number_name w numbers.Limit n _ h
    (λ h. choose number_name w numbers.Fail n _ h
    (λ h. choose number_name w numbers.Cut n _ h
    (λ h. choose number_name w numbers.Seed n _ h
    (λ h. choose number_name w numbers.Flash n None h (λ h. absurd (none-some n h))))))))

other_named : (w : List ℕ) (v : HeaderWord) → other_header w ≡ Some v → w ≡ header_name v
other_named w v h =
    choose header_name w header.Elevator v None h (λ h. absurd (none-some v h))

header_named : (w : List ℕ) (v : HeaderWord) → header_word w ≡ Some v → w ≡ header_name v
header_named w v h = group_or header.Number (number_word w) _ v (λ u. w ≡ header_name u) h (number_named w) (other_named w v)

-- the words of parts
abbrev part_name : Word → List ℕ
part_name word.Put = codes "put"
part_name word.Thread = codes "thread"
part_name word.Events = codes "events"
part_name word.Recover = codes "recover"
part_name v = codes ""

part_chosen : (w : List ℕ) (u v : Word) (rest : Option Word) (same : Bool) → bytes_eq w (part_name u) ≡ same → (if same then Some u else rest) ≡ Some v → IsNamed (part_name u) u → (rest ≡ Some v → IsNamed w v) → IsNamed w v
part_chosen w u v rest true e h named other = subst (IsNamed w) (same_Some u v h) (subst (λ x. IsNamed x u) (sym ((bytes_eq-Decides w (part_name u)).0 e)) named)
part_chosen w u v rest false e h named other = other h

part_choose : (w : List ℕ) (u v : Word) (rest : Option Word) → (if bytes_eq w (part_name u) then Some u else rest) ≡ Some v → IsNamed (part_name u) u → (rest ≡ Some v → IsNamed w v) → IsNamed w v
part_choose w u v rest h named other = part_chosen w u v rest (bytes_eq w (part_name u)) refl h named other

part_named : (w : List ℕ) (v : Word) → part_word w ≡ Some v → IsNamed w v
part_named w v h =
    part_choose w word.Thread v _ h refl
    (λ h. part_choose w word.Events v _ h refl
    (λ h. part_choose w word.Recover v _ h refl
    (λ h. part_choose w word.Put v None h refl (λ h. absurd (none-some v h)))))

call_step-named : (w : List ℕ) (v : Word) → call_step w ≡ Some v → IsNamed w v
call_step-named w v h = mapped (IsNamed w) word.Call (call_word w) v h (λ c e. e)

event_step-named : (w : List ℕ) (v : Word) → event_step w ≡ Some v → IsNamed w v
event_step-named w v h = mapped (IsNamed w) word.Event (event_word w) v h (λ c e. e)

step_named : (in_events : Bool) (w : List ℕ) (v : Word) → step_word in_events w ≡ Some v → IsNamed w v
step_named true w v h = either_or (event_step w) (call_step w) v (IsNamed w) h (event_step-named w v) (call_step-named w v)
step_named false w v h = either_or (call_step w) (event_step w) v (IsNamed w) h (call_step-named w v) (event_step-named w v)

pub named : (in_events : Bool) (w : List ℕ) (v : Word) → word_of in_events w ≡ Some v → IsNamed w v
named in_events w v h =
    group_or word.First (first_word w) _ v (IsNamed w) h (first_named w)
    (λ h. group_or word.Header (header_word w) _ v (IsNamed w) h (header_named w)
    (λ h. either_or (part_word w) _ v (IsNamed w) h (part_named w v) (step_named in_events w v)))
