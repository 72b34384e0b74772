-- Calls and events of lines whose first words may stand in a volume script.
use Rattle.std.proofs.Common.{◌≡◌, ℕ, Bool, true, false, not, nat_le, List, [], ◌∷◌, codes, Option, Some, Result, Ok, Err, refl, sym, ap, ◌∙◌, if◌then◌else◌}
use Rattle.std.proofs.lemmas.Bool.{and_parts, leb-true}
use Rattle.line_grammar.specs.declared.events.event.CoreEvent.{CoreEvent}
use Rattle.line_grammar.specs.declared.events.event.CoreEvent.TheVariants as core
use Rattle.line_grammar.specs.declared.events.event.EventWord.{EventWord}
use Rattle.line_grammar.specs.declared.events.event.EventWord.TheVariants.{One, Round, Back}
use Rattle.line_grammar.specs.declared.events.words.EventFirst.{EventFirst}
use Rattle.line_grammar.specs.declared.events.words.EventFirst.TheVariants as event
use Rattle.line_grammar.specs.declared.events.words.PlainWord.TheVariants as plain
use Rattle.line_grammar.specs.events.EventLines.{event_word}
use Rattle.script_words.specs.laws.Counts.{with_count, counted}
use Rattle.line_grammar.specs.events.laws.Speller.{SayEvent}
use Rattle.session_grammar.specs.Grammar.{is_submit, names_thread}
use Rattle.session_grammar.specs.WellFormed.{IsStepOf, IsTurnOf}

-- a test that has to pass
pub ok_under : {A E : Type 0} (b : Bool) (read : Result A E) (y : A) (e : E) → (if b then read else Err e) ≡ Ok y → (b ≡ true) × (read ≡ Ok y)
ok_under true read y e h = (refl, h)
ok_under false read y e h = cc

-- the first of the words
abbrev first_of : List (List ℕ) → List ℕ
first_of [] = []
first_of (w ∷ ws) = w

-- a known word is one word alone
same_word : {A : Type 0} (know : List ℕ → Option A) (w u : List ℕ) (v other : A) → w ≡ u → know w ≡ Some v → know u ≡ Some other → other ≡ v
same_word know w u v other same h g = let e : Some other ≡ Some v = sym g ∙ ap know (sym same) ∙ h in cc

-- ---- calls

-- ---- events

with_count-first : (w : List ℕ) (ws : List (List ℕ)) → first_of (with_count (w ∷ ws)) ≡ w
with_count-first w [] = refl
with_count-first w (a ∷ []) = refl
with_count-first w (a ∷ b ∷ ws) = refl

not_submit : (w : List ℕ) (ws : List (List ℕ)) (v : EventFirst) (count : ℕ) → event_word w ≡ Some v → not (is_submit v) ≡ true → with_count (w ∷ ws) ≡ counted (codes "submit" ∷ []) count → ⊥
not_submit w ws v count known other h =
    let named : w ≡ codes "submit" = sym (with_count-first w ws) ∙ ap first_of h in
    let same : event.Plain plain.Submit ≡ v = same_word event_word w (codes "submit") v (event.Plain plain.Submit) named known refl in
    let contra : false ≡ true = ap (λ x. not (is_submit x)) same ∙ other in
    cc

IsStepOf-said : (threads : ℕ) (e : CoreEvent) (count : ℕ) (w : List ℕ) (ws : List (List ℕ)) (v : EventFirst) → event_word w ≡ Some v → not (is_submit v) ≡ true → names_thread threads (One e) ≡ true → SayEvent (One e) count (w ∷ ws) → IsStepOf threads e
IsStepOf-said threads (core.Call t) count w ws v known other names says =
    let p = and_parts (nat_le 1 t) (nat_le t threads) names in (leb-true 1 t p.0, leb-true t threads p.1)
IsStepOf-said threads core.Submit count w ws v known other names says = not_submit w ws v count known other says
IsStepOf-said threads core.Commit count w ws v known other names says = tt
IsStepOf-said threads core.FlushStep count w ws v known other names says = tt
IsStepOf-said threads (core.Writeback pick) count w ws v known other names says = tt
IsStepOf-said threads core.Accept count w ws v known other names says = tt
IsStepOf-said threads (core.Dispatch pick) count w ws v known other names says = tt
IsStepOf-said threads core.Receive count w ws v known other names says = tt
IsStepOf-said threads (core.Transfer pick) count w ws v known other names says = tt
IsStepOf-said threads (core.Persist pick) count w ws v known other names says = tt
IsStepOf-said threads core.Answer count w ws v known other names says = tt

pub IsTurnOf-said : (threads : ℕ) (what : EventWord) (count : ℕ) (w : List ℕ) (ws : List (List ℕ)) (v : EventFirst) → event_word w ≡ Some v → not (is_submit v) ≡ true → names_thread threads what ≡ true → SayEvent what count (w ∷ ws) → IsTurnOf threads what
IsTurnOf-said threads (One e) count w ws v known other names says = IsStepOf-said threads e count w ws v known other names says
IsTurnOf-said threads Round count w ws v known other names says = tt
IsTurnOf-said threads Back count w ws v known other names says = tt
