-- The words that begin lines, as they are spelled.
use Rattle.std.proofs.Common.{◌≡◌, ℕ, Bool, true, false, List, codes, Option, Some, None, refl, subst, if◌then◌else◌, not}
use Rattle.std.specs.Str.{bytes_eq}
use Rattle.std.specs.Option.{option_map, option_or}
use Rattle.std.proofs.lemmas.Bool.{and_parts}
use Rattle.std.proofs.lemmas.Option.{same_Some, none-some}
use Rattle.std.proofs.lemmas.Slice.Eq.{bytes_eq-Decides}
use Rattle.line_grammar.specs.events.EventLines.{event_word}
use Rattle.script_words.proofs.Chosen.{choose, mapped, either_or}
use Rattle.store_grammar.specs.declared.words.HeaderWord.{HeaderWord}
use Rattle.store_grammar.specs.declared.words.HeaderWord.TheVariants as header
use Rattle.store_grammar.specs.declared.words.Word.{Word}
use Rattle.store_grammar.specs.declared.words.Word.TheVariants as word
use Rattle.store_grammar.specs.Words.{header_word, part_word, is_flush, own_word, event_step, is_elsewhere, other_word, word_of}

abbrev pub header_name : HeaderWord → List ℕ
header_name header.Depth = codes "depth"
header_name header.Queue = codes "queue"
header_name header.Fail = codes "fail"
header_name header.Cut = codes "cut"

-- the word is spelled so; of events their own crate says how
abbrev pub IsNamed : List ℕ → Word → Type 0
IsNamed w word.Store = w ≡ codes "store"
IsNamed w (word.Header h) = w ≡ header_name h
IsNamed w word.Put = w ≡ codes "put"
IsNamed w word.Flush = w ≡ codes "flush"
IsNamed w word.Events = w ≡ codes "events"
IsNamed w word.Recover = w ≡ codes "recover"
IsNamed w (word.Event e) = event_word w ≡ Some e
IsNamed w word.Other = Unit {0}

header_named : (w : List ℕ) (v : HeaderWord) → header_word w ≡ Some v → w ≡ header_name v
header_named w v h =
    choose header_name w header.Depth v _ h
    (λ h. choose header_name w header.Queue v _ h
    (λ h. choose header_name w header.Fail v _ h
    (λ h. choose header_name w header.Cut v None h (λ h. absurd (none-some v h)))))

-- a word that is chosen by a test, and what the test says of it
when : (w : List ℕ) (u v : Word) (rest : Option Word) (test : Bool) → (if test then Some u else rest) ≡ Some v → (test ≡ true → IsNamed w u) → (rest ≡ Some v → IsNamed w v) → IsNamed w v
when w u v rest true h here other = subst (IsNamed w) (same_Some u v h) (here refl)
when w u v rest false h here other = other h

spelled : (w name : List ℕ) → bytes_eq w name ≡ true → w ≡ name
spelled w name e = (bytes_eq-Decides w name).0 e

part_named : (w : List ℕ) (v : Word) → part_word w ≡ Some v → IsNamed w v
part_named w v h =
    when w word.Store v _ (bytes_eq w (codes "store")) h (spelled w (codes "store"))
    (λ h. when w word.Put v _ (bytes_eq w (codes "put")) h (spelled w (codes "put"))
    (λ h. when w word.Events v _ (bytes_eq w (codes "events")) h (spelled w (codes "events"))
    (λ h. when w word.Recover v None (bytes_eq w (codes "recover")) h (spelled w (codes "recover")) (λ h. absurd (none-some v h)))))

flush_named : (in_events : Bool) (w : List ℕ) → is_flush in_events w ≡ true → w ≡ codes "flush"
flush_named in_events w e = spelled w (codes "flush") (and_parts (not in_events) (bytes_eq w (codes "flush")) e).1

pub named : (in_events : Bool) (w : List ℕ) (v : Word) → word_of in_events w ≡ Some v → IsNamed w v
named in_events w v h =
    either_or (own_word in_events w) (option_or (event_step w) (other_word w)) v (IsNamed w) h
    (λ own.
    either_or (option_map word.Header (header_word w)) (if is_flush in_events w then Some word.Flush else part_word w) v (IsNamed w) own
    (λ h. mapped (IsNamed w) word.Header (header_word w) v h (λ x e. header_named w x e))
    (λ h. when w word.Flush v (part_word w) (is_flush in_events w) h (flush_named in_events w) (part_named w v)))
    (λ rest.
    either_or (event_step w) (other_word w) v (IsNamed w) rest
    (λ h. mapped (IsNamed w) word.Event (event_word w) v h (λ x e. e))
    (λ h. when w word.Other v None (is_elsewhere w) h (λ e. tt) (λ h. absurd (none-some v h))))
