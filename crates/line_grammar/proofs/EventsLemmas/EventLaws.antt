-- The words of event lines, as they are spelled.
use Rattle.std.proofs.Common.{◌≡◌, ℕ, zero, suc, ◌+◌, ◌-◌, ◌*◌, ◌/◌, ◌^◌, ◌<◌, ◌≤◌, ◌==◌, ◌&&◌, Bool, true, false, nat_lt, nat_le, if◌then◌else◌, List, [], ◌∷◌, codes, decimal, Option, Some, None, Ok, Err, refl, sym, ap, ap₂, ◌∙◌, subst, arith, inl, inr, lit<, lit≤}
use Rattle.std.proofs.lemmas.Bool.{and_parts, and_from, leb-true, le-leb, lt-ltb, eqb-true, eq-eqb, cases_eq}
use Rattle.std.proofs.Math.Nat.{mul-div_cancel}
use Rattle.std.proofs.Common.{mul_comm, mul-zero}
use borrow.Author.Tests.{ltb-true}
use Rattle.std.proofs.lemmas.Fmt.{decimal_injective}
use Rattle.line_grammar.specs.declared.events.event.CoreEvent.{CoreEvent}
use Rattle.line_grammar.specs.declared.events.event.CoreEvent.TheVariants as events
use Rattle.line_grammar.specs.declared.events.event.EventWord.{EventWord}
use Rattle.line_grammar.specs.declared.events.event.EventWord.TheVariants.{One, Round, Back}
use Rattle.line_grammar.specs.declared.events.event.EventLine.{EventLine}
use Rattle.script_words.specs.declared.limits.TheConstants.{MOST_EVENTS, MOST_REPEATS, PLACES}
use Rattle.line_grammar.specs.declared.events.words.PlainWord.{PlainWord}
use Rattle.line_grammar.specs.declared.events.words.PlainWord.TheVariants as plain
use Rattle.line_grammar.specs.declared.events.words.PickWord.{PickWord}
use Rattle.line_grammar.specs.declared.events.words.PickWord.TheVariants as picks
use Rattle.line_grammar.specs.declared.events.words.TurnWord.{TurnWord}
use Rattle.line_grammar.specs.declared.events.words.TurnWord.TheVariants as turns
use Rattle.line_grammar.specs.declared.events.words.EventFirst.{EventFirst}
use Rattle.line_grammar.specs.declared.events.words.EventFirst.TheVariants as word
use Rattle.line_grammar.specs.events.EventLines.{event_word, plain_event, pick_event, turn_event, is_count, plain_taken, pick_taken, turn_taken, pick_line, turn_line, event_of}
use Rattle.line_grammar.specs.events.WellFormed.{IsCount, IsEvent, AreTurns, IsLineOf, IsEventLine}
use Rattle.line_grammar.specs.events.laws.Speller.{event_words, SayTurns, SayEvent, SaysEvent, parts_from, parts_of, turn_words, what_words, event_line_words, line_after, line_of}
use Rattle.line_grammar.proofs.EventsLemmas.EventNames.{plain_name, pick_name, turn_name, event_name, event_named, event_known}
use Rattle.script_words.specs.declared.line_error.LineFault.TheVariants as faults
use Rattle.script_words.specs.Spelling.{numeral, count_of}
use Rattle.script_words.specs.laws.Counts.{with_count, counted}
use Rattle.script_words.proofs.Counts.{one_text, with_count-one, with_count-two, shape_one, shape_two}
use Rattle.script_words.proofs.SaidNumbers.{decimal-numeral}
use Rattle.script_words.proofs.SpelledNumbers.{numeral-decimal}

-- the words say the line, which is well-formed
abbrev Says : List (List ℕ) → EventLine → Type 0
Says ws l = IsEventLine l × SaysEvent l ws

-- ---- counts

IsCount-is_count : (n : ℕ) → is_count n ≡ true → IsCount n
IsCount-is_count n h = let p = and_parts (nat_le 1 n) (nat_le n MOST_REPEATS) h in record { some = leb-true 1 n p.0; most = leb-true n MOST_REPEATS p.1 }

is_count-from : (n : ℕ) → IsCount n → is_count n ≡ true
is_count-from n is = and_from (nat_le 1 n) (nat_le n MOST_REPEATS) (le-leb 1 n is.some) (le-leb n MOST_REPEATS is.most)

-- ---- what is read says the line

passed : (b : Bool) (x l : EventLine) → (if b then Ok x else Err faults.Number) ≡ Ok l → (b ≡ true) × (x ≡ l)
passed true x l h = let same : x ≡ l = cc in (refl, same)
passed false x l h = cc

plain_said : (w : PlainWord) (n : ℕ) → IsCount n → Says (counted (plain_name w ∷ []) n) (record { what = One (plain_event w); count = n })
plain_said plain.Submit n is = ((tt, is), refl)
plain_said plain.Accept n is = ((tt, is), refl)
plain_said plain.Receive n is = ((tt, is), refl)
plain_said plain.Commit n is = ((tt, is), refl)
plain_said plain.Flush n is = ((tt, is), refl)
plain_said plain.Answer n is = ((tt, is), refl)

pick_said : (w : PickWord) (pick n : ℕ) → pick < PLACES → IsCount n → Says (counted (pick_name w ∷ decimal pick ∷ []) n) (record { what = One (pick_event w pick); count = n })
pick_said picks.Call pick n lt is = ((lt, is), refl)
pick_said picks.Write pick n lt is = ((lt, is), refl)
pick_said picks.Dispatch pick n lt is = ((lt, is), refl)
pick_said picks.Transfer pick n lt is = ((lt, is), refl)
pick_said picks.Persist pick n lt is = ((lt, is), refl)

turn_said : (w : TurnWord) (count : ℕ) (ws : List (List ℕ)) → AreTurns count → SayTurns (turn_name w) count ws → Says ws (record { what = turn_event w; count = count })
turn_said turns.Round count ws are say = (are, say)
turn_said turns.Back count ws are say = (are, say)

-- words that are the same with their count filled in say the same line
alike : (ws vs : List (List ℕ)) (l : EventLine) (w : EventWord) → with_count ws ≡ with_count vs → SayEvent w l.count vs → SayEvent w l.count ws
alike ws vs l (One e) same says = same ∙ says
alike ws vs l Round same says = record { turns = says.turns; repeats = says.repeats; some = says.some; often = says.often; product = says.product; words = same ∙ says.words }
alike ws vs l Back same says = record { turns = says.turns; repeats = says.repeats; some = says.some; often = says.often; product = says.product; words = same ∙ says.words }

alike_said : (ws vs : List (List ℕ)) (l : EventLine) → with_count ws ≡ with_count vs → Says vs l → Says ws l
alike_said ws vs l same is = (is.0, alike ws vs l l.what same is.1)

below_64 : (n : ℕ) → IsCount n → n < 2 ^ 64 - 1
below_64 n is = let most = is.most in omega (arith, most)

plain_taken-says : (w : PlainWord) (ws : List (List ℕ)) (o : Option ℕ) (l : EventLine) → count_of ws ≡ o → plain_taken w o ≡ Ok l → Says (plain_name w ∷ ws) l
plain_taken-says w ws None l e h = cc
plain_taken-says w ws (Some n) l e h =
    let t = passed (is_count n) (record { what = One (plain_event w); count = n }) l h in
    let is = IsCount-is_count n t.0 in
    subst (Says (plain_name w ∷ ws)) t.1
    (alike_said (plain_name w ∷ ws) (counted (plain_name w ∷ []) n) (record { what = One (plain_event w); count = n }) (with_count-one (plain_name w) ws n e (below_64 n is)) (plain_said w n is))

pick_taken-says : (w : PickWord) (p : List ℕ) (ws : List (List ℕ)) (o c : Option ℕ) (l : EventLine) → numeral p ≡ o → count_of ws ≡ c → pick_taken w o c ≡ Ok l → Says (pick_name w ∷ p ∷ ws) l
pick_taken-says w p ws None c l d e h = cc
pick_taken-says w p ws (Some pick) None l d e h = cc
pick_taken-says w p ws (Some pick) (Some n) l d e h =
    let line : EventLine = record { what = One (pick_event w pick); count = n } in
    let t = passed (nat_lt pick PLACES && is_count n) line l h in
    let parts = and_parts (nat_lt pick PLACES) (is_count n) t.0 in
    let lt = ltb-true pick PLACES parts.0 in
    let is = IsCount-is_count n parts.1 in
    let same : with_count (pick_name w ∷ p ∷ ws) ≡ counted (pick_name w ∷ decimal pick ∷ []) n =
    with_count-two (pick_name w) p ws n e (below_64 n is) ∙ ap (λ (v : List ℕ). counted (pick_name w ∷ v ∷ []) n) (decimal-numeral p pick d (omega (arith, lt))) in
    subst (Says (pick_name w ∷ p ∷ ws)) t.1 (alike_said (pick_name w ∷ p ∷ ws) (counted (pick_name w ∷ decimal pick ∷ []) n) line same (pick_said w pick n lt is))

turn_taken-says : (w : TurnWord) (p : List ℕ) (ws : List (List ℕ)) (o c : Option ℕ) (l : EventLine) → numeral p ≡ o → count_of ws ≡ c → turn_taken w o c ≡ Ok l → Says (turn_name w ∷ p ∷ ws) l
turn_taken-says w p ws None c l d e h = cc
turn_taken-says w p ws (Some n) None l d e h = cc
turn_taken-says w p ws (Some n) (Some m) l d e h =
    let line : EventLine = record { what = turn_event w; count = n * m } in
    let t = passed (is_count n && (is_count m && nat_le (8 * (n * m)) MOST_EVENTS)) line l h in
    let parts = and_parts (is_count n) (is_count m && nat_le (8 * (n * m)) MOST_EVENTS) t.0 in
    let more = and_parts (is_count m) (nat_le (8 * (n * m)) MOST_EVENTS) parts.1 in
    let some = IsCount-is_count n parts.0 in
    let often = IsCount-is_count m more.0 in
    let few = leb-true (8 * (n * m)) MOST_EVENTS more.1 in
    let same : with_count (turn_name w ∷ p ∷ ws) ≡ counted (turn_name w ∷ decimal n ∷ []) m =
    with_count-two (turn_name w) p ws m e (below_64 m often) ∙ ap (λ (v : List ℕ). counted (turn_name w ∷ v ∷ []) m) (decimal-numeral p n d (below_64 n some)) in
    subst (Says (turn_name w ∷ p ∷ ws)) t.1
    (turn_said w (n * m) (turn_name w ∷ p ∷ ws)
    (record { turns = n; repeats = m; some = some; often = often; product = refl; most = few })
    (record { turns = n; repeats = m; some = some; often = often; product = refl; words = same }))

pick_line-says : (w : PickWord) (ws : List (List ℕ)) (l : EventLine) → pick_line w ws ≡ Ok l → Says (pick_name w ∷ ws) l
pick_line-says w [] l h = cc
pick_line-says w (p ∷ ws) l h = pick_taken-says w p ws (numeral p) (count_of ws) l refl refl h

turn_line-says : (w : TurnWord) (ws : List (List ℕ)) (l : EventLine) → turn_line w ws ≡ Ok l → Says (turn_name w ∷ ws) l
turn_line-says w [] l h = cc
turn_line-says w (p ∷ ws) l h = turn_taken-says w p ws (numeral p) (count_of ws) l refl refl h

event_of-says : (w : EventFirst) (ws : List (List ℕ)) (l : EventLine) → event_of w ws ≡ Ok l → Says (event_name w ∷ ws) l
event_of-says (word.Plain w) ws l h = plain_taken-says w ws (count_of ws) l refl h
event_of-says (word.Pick w) ws l h = pick_line-says w ws l h
event_of-says (word.Turn w) ws l h = turn_line-says w ws l h

line_after-says : (w : List ℕ) (ws : List (List ℕ)) (o : Option EventFirst) (l : EventLine) → event_word w ≡ o → line_after o ws ≡ Ok l → Says (w ∷ ws) l
line_after-says w ws None l e h = cc
line_after-says w ws (Some v) l e h = subst (λ x. Says (x ∷ ws) l) (sym (event_named w v e)) (event_of-says v ws l h)

pub line_of-says : (ws : List (List ℕ)) (l : EventLine) → line_of ws ≡ Ok l → IsEventLine l × SaysEvent l ws
line_of-says [] l h = cc
line_of-says (w ∷ ws) l h = line_after-says w ws (event_word w) l refl h

-- ---- what says a line is read as it

one_count : (n : ℕ) → IsCount n → decimal n ≡ codes "1" → n ≡ 1
one_count n is h = let most = is.most in decimal_injective n 1 (omega (arith, most)) (lit< tt) (h ∙ one_text)

after_name : (v : EventFirst) (ws : List (List ℕ)) (l : EventLine) → event_of v ws ≡ Ok l → line_of (event_name v ∷ ws) ≡ Ok l
after_name v ws l h = ap (λ o. line_after o ws) (event_known v) ∙ h

plain_counted : (v : PlainWord) (ws : List (List ℕ)) (n : ℕ) → count_of ws ≡ Some n → IsCount n → event_of (word.Plain v) ws ≡ Ok (record { what = One (plain_event v); count = n })
plain_counted v ws n h is = ap (plain_taken v) h ∙ ap (λ b. if b then Ok (record { what = One (plain_event v); count = n }) else Err faults.Number) (is_count-from n is)

read_plain : (v : PlainWord) (ws : List (List ℕ)) (n : ℕ) → IsCount n → with_count ws ≡ counted (plain_name v ∷ []) n → line_of ws ≡ Ok (record { what = One (plain_event v); count = n })
read_plain v ws n is h =
    let line : EventLine = record { what = One (plain_event v); count = n } in
    elim (shape_one ws (plain_name v) (decimal n) h) [
      | inl same ↦ ap line_of same ∙ after_name (word.Plain v) (codes "x" ∷ decimal n ∷ []) line (plain_counted v (codes "x" ∷ decimal n ∷ []) n (numeral-decimal n (omega (arith, is.most))) is)
      | inr (same, digit) ↦ ap line_of same ∙ after_name (word.Plain v) [] line (plain_counted v [] n (ap Some (sym (one_count n is digit))) is)
    ]

pick_counted : (v : PickWord) (pick : ℕ) (ws : List (List ℕ)) (n : ℕ) → pick < PLACES → count_of ws ≡ Some n → IsCount n → event_of (word.Pick v) (decimal pick ∷ ws) ≡ Ok (record { what = One (pick_event v pick); count = n })
pick_counted v pick ws n lt h is =
    ap₂ (pick_taken v) (numeral-decimal pick (omega (arith, lt))) h
    ∙ ap (λ b. if b then Ok (record { what = One (pick_event v pick); count = n }) else Err faults.Number) (and_from (nat_lt pick PLACES) (is_count n) (lt-ltb pick PLACES lt) (is_count-from n is))

read_pick : (v : PickWord) (pick : ℕ) (ws : List (List ℕ)) (n : ℕ) → pick < PLACES → IsCount n → with_count ws ≡ counted (pick_name v ∷ decimal pick ∷ []) n → line_of ws ≡ Ok (record { what = One (pick_event v pick); count = n })
read_pick v pick ws n lt is h =
    let line : EventLine = record { what = One (pick_event v pick); count = n } in
    elim (shape_two ws (pick_name v) (decimal pick) (decimal n) h) [
      | inl same ↦ ap line_of same ∙ after_name (word.Pick v) (decimal pick ∷ codes "x" ∷ decimal n ∷ []) line (pick_counted v pick (codes "x" ∷ decimal n ∷ []) n lt (numeral-decimal n (omega (arith, is.most))) is)
      | inr (same, digit) ↦ ap line_of same ∙ after_name (word.Pick v) (decimal pick ∷ []) line (pick_counted v pick [] n lt (ap Some (sym (one_count n is digit))) is)
    ]

turns_counted : (v : TurnWord) (n : ℕ) (ws : List (List ℕ)) (m : ℕ) → IsCount n → count_of ws ≡ Some m → IsCount m → 8 * (n * m) ≤ MOST_EVENTS → event_of (word.Turn v) (decimal n ∷ ws) ≡ Ok (record { what = turn_event v; count = n * m })
turns_counted v n ws m some h often few =
    ap₂ (turn_taken v) (numeral-decimal n (omega (arith, some.most))) h
    ∙ ap (λ b. if b then Ok (record { what = turn_event v; count = n * m }) else Err faults.Number)
    (and_from (is_count n) (is_count m && nat_le (8 * (n * m)) MOST_EVENTS) (is_count-from n some)
    (and_from (is_count m) (nat_le (8 * (n * m)) MOST_EVENTS) (is_count-from m often) (le-leb (8 * (n * m)) MOST_EVENTS few)))

read_product : (v : TurnWord) (ws : List (List ℕ)) (n m : ℕ) → IsCount n → IsCount m → 8 * (n * m) ≤ MOST_EVENTS → with_count ws ≡ counted (turn_name v ∷ decimal n ∷ []) m → line_of ws ≡ Ok (record { what = turn_event v; count = n * m })
read_product v ws n m some often few h =
    let line : EventLine = record { what = turn_event v; count = n * m } in
    elim (shape_two ws (turn_name v) (decimal n) (decimal m) h) [
      | inl same ↦ ap line_of same ∙ after_name (word.Turn v) (decimal n ∷ codes "x" ∷ decimal m ∷ []) line (turns_counted v n (codes "x" ∷ decimal m ∷ []) m some (numeral-decimal m (omega (arith, often.most))) often few)
      | inr (same, digit) ↦ ap line_of same ∙ after_name (word.Turn v) (decimal n ∷ []) line (turns_counted v n [] m some (ap Some (sym (one_count m often digit))) often few)
    ]

read_turns : (v : TurnWord) (ws : List (List ℕ)) (count : ℕ) → 8 * count ≤ MOST_EVENTS → SayTurns (turn_name v) count ws → line_of ws ≡ Ok (record { what = turn_event v; count = count })
read_turns v ws count few say =
    subst (λ c. line_of ws ≡ Ok (record { what = turn_event v; count = c })) say.product
    (read_product v ws say.turns say.repeats say.some say.often (subst (λ c. 8 * c ≤ MOST_EVENTS) (sym say.product) few) say.words)

read_event : (ws : List (List ℕ)) (e : CoreEvent) (n : ℕ) → IsEvent e → IsCount n → with_count ws ≡ counted (event_words e) n → line_of ws ≡ Ok (record { what = One e; count = n })
read_event ws (events.Call thread) n is some h = read_pick picks.Call thread ws n is some h
read_event ws events.Commit n is some h = read_plain plain.Commit ws n some h
read_event ws events.FlushStep n is some h = read_plain plain.Flush ws n some h
read_event ws (events.Writeback pick) n is some h = read_pick picks.Write pick ws n is some h
read_event ws events.Submit n is some h = read_plain plain.Submit ws n some h
read_event ws events.Accept n is some h = read_plain plain.Accept ws n some h
read_event ws (events.Dispatch pick) n is some h = read_pick picks.Dispatch pick ws n is some h
read_event ws events.Receive n is some h = read_plain plain.Receive ws n some h
read_event ws (events.Transfer pick) n is some h = read_pick picks.Transfer pick ws n is some h
read_event ws (events.Persist pick) n is some h = read_pick picks.Persist pick ws n is some h
read_event ws events.Answer n is some h = read_plain plain.Answer ws n some h

read_what : (ws : List (List ℕ)) (w : EventWord) (n : ℕ) → IsLineOf w n → SayEvent w n ws → line_of ws ≡ Ok (record { what = w; count = n })
read_what ws (One e) n is says = read_event ws e n is.0 is.1 says
read_what ws Round n is says = read_turns turns.Round ws n is.most says
read_what ws Back n is says = read_turns turns.Back ws n is.most says

pub line_of-read : (ws : List (List ℕ)) (l : EventLine) → IsEventLine l → SaysEvent l ws → line_of ws ≡ Ok l
line_of-read ws l is says = read_what ws l.what l.count is says

-- ---- turns that are parted

abbrev parts : ℕ → ℕ → Bool
parts m count = (m * (count / m) == count) && nat_le (count / m) MOST_REPEATS

record IsParted (m count : ℕ) : Type 0 where
  parted : parts m count ≡ true
  some : 1 ≤ m
  most : m ≤ MOST_REPEATS

chosen_here : (m count rest : ℕ) (here : Bool) → parts m count ≡ here → 1 ≤ m → m ≤ MOST_REPEATS → (here ≡ false → IsParted rest count) → IsParted (if here then m else rest) count
chosen_here m count rest true e some most other = record { parted = e; some = some; most = most }
chosen_here m count rest false e some most other = other refl

before_last : (m last count : ℕ) → m ≤ last → parts m count ≡ false → parts last count ≡ true → m < last
before_last m last count le e at =
    elim (cases_eq m last) [
      | inl same ↦ let both : parts last count ≡ false = subst (λ x. parts x count ≡ false) same e in cc
      | inr other ↦ omega (arith, le, other)
    ]

-- where a number parts the turns, one is found
found : (fuel m last count : ℕ) → 1 ≤ m → m ≤ last → last < m + fuel → last ≤ MOST_REPEATS → parts last count ≡ true → IsParted (parts_from fuel m count) count
unfolding parts_from
found zero m last count some le lt most at = absurd (omega (arith, le, lt))
found (suc fuel) m last count some le lt most at =
    chosen_here m count (parts_from fuel (m + 1) count) (parts m count) refl some (omega (arith, le, most))
    (λ e. let below = before_last m last count le e at in found fuel (m + 1) last count (omega arith) (omega (arith, below)) (omega (arith, lt)) most at)

IsParted-turns : (count : ℕ) → AreTurns count → IsParted (parts_of count) count
IsParted-turns count are =
    let n = are.turns in
    let m = are.repeats in
    let some = are.often.some in
    let most = are.often.most in
    let quotient : count / m ≡ n = ap (λ c. c / m) (sym are.product) ∙ mul-div_cancel n {n = m} (omega (arith, some)) in
    let whole : m * (count / m) ≡ count = ap (λ q. m * q) quotient ∙ mul_comm m n ∙ are.product in
    found MOST_REPEATS 1 m count (lit≤ tt) some (omega (arith, most)) most
    (and_from (m * (count / m) == count) (nat_le (count / m) MOST_REPEATS) (eq-eqb (m * (count / m)) count whole)
    (subst (λ q. nat_le q MOST_REPEATS ≡ true) (sym quotient) (le-leb n MOST_REPEATS are.some.most)))

quotient_some : (m q count : ℕ) → m * q ≡ count → 1 ≤ count → 1 ≤ q
quotient_some m zero count h some = absurd (omega (arith, h, some, mul-zero m))
quotient_some m (suc q) count h some = omega arith

product_some : (n m : ℕ) → 1 ≤ n → 1 ≤ m → 1 ≤ n * m
product_some zero m some often = absurd (omega (arith, some))
product_some (suc n) zero some often = absurd (omega (arith, often))
product_some (suc n) (suc m) some often = grind arith

pub turns_fit : (count : ℕ) → AreTurns count → IsCount (count / parts_of count) × IsCount (parts_of count) × (count / parts_of count * parts_of count ≡ count)
turns_fit count are =
    let is = IsParted-turns count are in
    let m = parts_of count in
    let p = and_parts (m * (count / m) == count) (nat_le (count / m) MOST_REPEATS) is.parted in
    let whole = eqb-true (m * (count / m)) count p.0 in
    let some = subst (λ c. 1 ≤ c) are.product (product_some are.turns are.repeats are.some.some are.often.some) in (
      record { some = quotient_some m (count / m) count whole some; most = leb-true (count / m) MOST_REPEATS p.1 },
      record { some = is.some; most = is.most },
      mul_comm (count / m) m ∙ whole,
    )

SayTurns-words : (name : List ℕ) (count : ℕ) → AreTurns count → SayTurns name count (turn_words name count)
SayTurns-words name count are =
    let fit = turns_fit count are in
    record {
      turns = count / parts_of count;
      repeats = parts_of count;
      some = fit.0;
      often = fit.1;
      product = fit.2;
      words = refl;
    }

says_itself : (e : CoreEvent) (n : ℕ) → with_count (counted (event_words e) n) ≡ counted (event_words e) n
says_itself (events.Call thread) n = refl
says_itself events.Commit n = refl
says_itself events.FlushStep n = refl
says_itself (events.Writeback pick) n = refl
says_itself events.Submit n = refl
says_itself events.Accept n = refl
says_itself (events.Dispatch pick) n = refl
says_itself events.Receive n = refl
says_itself (events.Transfer pick) n = refl
says_itself (events.Persist pick) n = refl
says_itself events.Answer n = refl

what_said : (w : EventWord) (n : ℕ) → IsLineOf w n → SayEvent w n (what_words w n)
what_said (One e) n is = says_itself e n
what_said Round n is = SayTurns-words (codes "round") n is
what_said Back n is = SayTurns-words (codes "back") n is

pub SaysEvent-words : (l : EventLine) → IsEventLine l → SaysEvent l (event_line_words l)
SaysEvent-words l is = what_said l.what l.count is
