-- What the speller writes has neither a line feed nor a space in a word, and is not skipped.
use Rattle.std.proofs.Common.{◌≡◌, ℕ, ◌<◌, ◌==◌, not, true, false, List, [], ◌∷◌, codes, decimal, refl, arith, inl, inr}
use Rattle.std.specs.List.{join_with_byte}
use Rattle.std.proofs.lemmas.Bool.{and_from}
use Rattle.blk_base.specs.Members.{In}
use Rattle.line_grammar.specs.declared.events.event.CoreEvent.{CoreEvent}
use Rattle.line_grammar.specs.declared.events.event.CoreEvent.TheVariants as events
use Rattle.line_grammar.specs.declared.events.event.EventWord.{EventWord}
use Rattle.line_grammar.specs.declared.events.event.EventWord.TheVariants.{One, Round, Back}
use Rattle.line_grammar.specs.declared.events.event.EventLine.{EventLine}
use Rattle.line_grammar.specs.declared.events.steer.Steer.{Steer}
use Rattle.line_grammar.specs.declared.events.steer.Steer.TheVariants as steers
use Rattle.script_words.specs.declared.limits.TheConstants.{PLACES}
use Rattle.line_grammar.specs.events.WellFormed.{IsCount, IsEvent, AreTurns, IsLineOf, IsEventLine, IsSteer}
use Rattle.line_grammar.specs.events.laws.Speller.{event_words, turn_words, what_words, event_line_words, steer_text, steer_words}
use Rattle.line_grammar.proofs.EventsLemmas.EventLaws.{turns_fit}
use Rattle.script_words.specs.laws.Counts.{counted}
use Rattle.script_words.specs.Spelling.{is_skipped}
use Rattle.script_words.proofs.SpelledWords.{lacks, IsClear, AreClear}
use Rattle.script_words.proofs.SpelledNumbers.{IsClear-decimal}

IsClear-count : (n : ℕ) → IsCount n → IsClear (decimal n)
IsClear-count n is = let most = is.most in IsClear-decimal n (omega (arith, most))

IsClear-place : (n : ℕ) → n < PLACES → IsClear (decimal n)
IsClear-place n lt = IsClear-decimal n (omega (arith, lt))

tail : (n : ℕ) → IsCount n → AreClear (codes "x" ∷ decimal n ∷ [])
tail n is = (record { feed = refl; space = refl }, (IsClear-count n is, tt))

event_clear : (e : CoreEvent) (n : ℕ) → IsEvent e → IsCount n → AreClear (counted (event_words e) n)
event_clear (events.Call thread) n is count = (record { feed = refl; space = refl }, (IsClear-place thread is, tail n count))
event_clear events.Commit n is count = (record { feed = refl; space = refl }, tail n count)
event_clear events.FlushStep n is count = (record { feed = refl; space = refl }, tail n count)
event_clear (events.Writeback pick) n is count = (record { feed = refl; space = refl }, (IsClear-place pick is, tail n count))
event_clear events.Submit n is count = (record { feed = refl; space = refl }, tail n count)
event_clear events.Accept n is count = (record { feed = refl; space = refl }, tail n count)
event_clear (events.Dispatch pick) n is count = (record { feed = refl; space = refl }, (IsClear-place pick is, tail n count))
event_clear events.Receive n is count = (record { feed = refl; space = refl }, tail n count)
event_clear (events.Transfer pick) n is count = (record { feed = refl; space = refl }, (IsClear-place pick is, tail n count))
event_clear (events.Persist pick) n is count = (record { feed = refl; space = refl }, (IsClear-place pick is, tail n count))
event_clear events.Answer n is count = (record { feed = refl; space = refl }, tail n count)

turns_clear : (name : List ℕ) (n : ℕ) → IsClear name → AreTurns n → AreClear (turn_words name n)
turns_clear name n clear are = let fit = turns_fit n are in (clear, (IsClear-count _ fit.0, tail _ fit.1))

what_clear : (w : EventWord) (n : ℕ) → IsLineOf w n → AreClear (what_words w n)
what_clear (One e) n is = event_clear e n is.0 is.1
what_clear Round n is = turns_clear (codes "round") n (record { feed = refl; space = refl }) is
what_clear Back n is = turns_clear (codes "back") n (record { feed = refl; space = refl }) is

pub AreClear-event : (l : EventLine) → IsEventLine l → AreClear (event_line_words l)
AreClear-event l is = what_clear l.what l.count is

event_there : (e : CoreEvent) (n : ℕ) → is_skipped (join_with_byte 32 (counted (event_words e) n)) ≡ false
event_there (events.Call thread) n = refl
event_there events.Commit n = refl
event_there events.FlushStep n = refl
event_there (events.Writeback pick) n = refl
event_there events.Submit n = refl
event_there events.Accept n = refl
event_there (events.Dispatch pick) n = refl
event_there events.Receive n = refl
event_there (events.Transfer pick) n = refl
event_there (events.Persist pick) n = refl
event_there events.Answer n = refl

what_there : (w : EventWord) (n : ℕ) → is_skipped (join_with_byte 32 (what_words w n)) ≡ false
what_there (One e) n = event_there e n
what_there Round n = refl
what_there Back n = refl

pub there-event : (l : EventLine) → is_skipped (join_with_byte 32 (event_line_words l)) ≡ false
there-event l = what_there l.what l.count

-- ---- `recover` lines

IsClear-cons : (b : ℕ) (w : List ℕ) → not (b == 10) ≡ true → not (b == 32) ≡ true → IsClear w → IsClear (b ∷ w)
IsClear-cons b w feed space is = record { feed = and_from (not (b == 10)) (lacks 10 w) feed is.feed; space = and_from (not (b == 32)) (lacks 32 w) space is.space }

steer_clear : (s : Steer) → IsSteer s → IsClear (steer_text s)
steer_clear (steers.Transfer pick) is = IsClear-cons 116 (decimal pick) refl refl (IsClear-place pick is)
steer_clear (steers.Persist pick) is = IsClear-cons 112 (decimal pick) refl refl (IsClear-place pick is)
steer_clear (steers.Default steps) is = IsClear-cons 100 (decimal steps) refl refl (IsClear-decimal steps (omega (arith, is)))

pub AreClear-steers : (ss : List Steer) → ((s : Steer) → In s ss → IsSteer s) → AreClear (steer_words ss)
AreClear-steers [] each = tt
AreClear-steers (s ∷ ss) each = (steer_clear s (each s (inl refl)), AreClear-steers ss (λ x i. each x (inr i)))
