-- The words that begin event lines, as they are spelled.
use Rattle.std.proofs.Common.{◌≡◌, ℕ, List, codes, Some, None, refl}
use Rattle.std.proofs.lemmas.Option.{none-some}
use Rattle.line_grammar.specs.declared.events.words.PlainWord.{PlainWord}
use Rattle.line_grammar.specs.declared.events.words.PlainWord.TheVariants as plain
use Rattle.line_grammar.specs.declared.events.words.PickWord.{PickWord}
use Rattle.line_grammar.specs.declared.events.words.PickWord.TheVariants as picks
use Rattle.line_grammar.specs.declared.events.words.TurnWord.{TurnWord}
use Rattle.line_grammar.specs.declared.events.words.TurnWord.TheVariants as turns
use Rattle.line_grammar.specs.declared.events.words.EventFirst.{EventFirst}
use Rattle.line_grammar.specs.declared.events.words.EventFirst.TheVariants as word
use Rattle.line_grammar.specs.events.EventLines.{plain_word, pick_word, turn_word, event_word}
use Rattle.script_words.proofs.Chosen.{choose, group_or, mapped}

abbrev pub plain_name : PlainWord → List ℕ
plain_name plain.Submit = codes "submit"
plain_name plain.Accept = codes "accept"
plain_name plain.Receive = codes "receive"
plain_name plain.Commit = codes "commit"
plain_name plain.Flush = codes "flush"
plain_name plain.Answer = codes "answer"

abbrev pub pick_name : PickWord → List ℕ
pick_name picks.Call = codes "call"
pick_name picks.Write = codes "write"
pick_name picks.Dispatch = codes "dispatch"
pick_name picks.Transfer = codes "transfer"
pick_name picks.Persist = codes "persist"

abbrev pub turn_name : TurnWord → List ℕ
turn_name turns.Round = codes "round"
turn_name turns.Back = codes "back"

abbrev pub event_name : EventFirst → List ℕ
event_name (word.Plain w) = plain_name w
event_name (word.Pick w) = pick_name w
event_name (word.Turn w) = turn_name w

plain_named : (w : List ℕ) (v : PlainWord) → plain_word w ≡ Some v → w ≡ plain_name v
plain_named w v h =
    choose plain_name w plain.Submit v _ h
    (λ h. choose plain_name w plain.Accept v _ h
    (λ h. choose plain_name w plain.Receive v _ h
    (λ h. choose plain_name w plain.Commit v _ h
    (λ h. choose plain_name w plain.Flush v _ h
    (λ h. choose plain_name w plain.Answer v None h (λ h. absurd (none-some v h)))))))

pick_named : (w : List ℕ) (v : PickWord) → pick_word w ≡ Some v → w ≡ pick_name v
pick_named w v h =
    choose pick_name w picks.Call v _ h
    (λ h. choose pick_name w picks.Write v _ h
    (λ h. choose pick_name w picks.Dispatch v _ h
    (λ h. choose pick_name w picks.Transfer v _ h
    (λ h. choose pick_name w picks.Persist v None h (λ h. absurd (none-some v h))))))

turn_named : (w : List ℕ) (v : TurnWord) → turn_word w ≡ Some v → w ≡ turn_name v
turn_named w v h =
    choose turn_name w turns.Round v _ h
    (λ h. choose turn_name w turns.Back v None h (λ h. absurd (none-some v h)))

-- a word that is known is spelled so
pub event_named : (w : List ℕ) (v : EventFirst) → event_word w ≡ Some v → w ≡ event_name v
event_named w v h =
    group_or word.Plain (plain_word w) _ v (λ u. w ≡ event_name u) h (plain_named w)
    (λ h. group_or word.Pick (pick_word w) _ v (λ u. w ≡ event_name u) h (pick_named w)
    (λ h. mapped (λ u. w ≡ event_name u) word.Turn (turn_word w) v h (turn_named w)))

-- and each of them is known
pub event_known : (v : EventFirst) → event_word (event_name v) ≡ Some v
event_known (word.Plain plain.Submit) = refl
event_known (word.Plain plain.Accept) = refl
event_known (word.Plain plain.Receive) = refl
event_known (word.Plain plain.Commit) = refl
event_known (word.Plain plain.Flush) = refl
event_known (word.Plain plain.Answer) = refl
event_known (word.Pick picks.Call) = refl
event_known (word.Pick picks.Write) = refl
event_known (word.Pick picks.Dispatch) = refl
event_known (word.Pick picks.Transfer) = refl
event_known (word.Pick picks.Persist) = refl
event_known (word.Turn turns.Round) = refl
event_known (word.Turn turns.Back) = refl
