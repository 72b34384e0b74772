-- The words behind `recover`, as they are spelled.
use Rattle.std.proofs.Common.{◌≡◌, ℕ, ◌==◌, Bool, true, false, nat_lt, nat_le, if◌then◌else◌, List, [], ◌∷◌, length, Option, Some, None, Result, Ok, Err, refl, sym, ap, ap₂, ◌∙◌, subst, arith, inl, inr}
use Rattle.std.proofs.lemmas.Bool.{leb-true, le-leb, lt-ltb, eqb-true}
use borrow.Author.Tests.{ltb-true}
use Rattle.std.proofs.lemmas.List.{length-map}
use Rattle.blk_base.specs.Members.{In}
use Rattle.line_grammar.specs.declared.events.steer.Steer.{Steer}
use Rattle.line_grammar.specs.declared.events.steer.Steer.TheVariants as steers
use Rattle.script_words.specs.declared.limits.TheConstants.{PLACES}
use Rattle.line_grammar.specs.declared.events.limits.TheConstants.{MOST_DEFAULTS, MOST_STEERS}
use Rattle.line_grammar.specs.events.SteerLines.{if_within, steer_taken, steer_of, before_all, all_of, steers_of}
use Rattle.line_grammar.specs.events.WellFormed.{IsSteer, IsSteerLine}
use Rattle.line_grammar.specs.events.laws.Speller.{steer_text, steer_words}
use Rattle.script_words.specs.declared.line_error.LineFault.{LineFault}
use Rattle.script_words.specs.declared.line_error.LineFault.TheVariants as faults
use Rattle.script_words.specs.Spelling.{numeral}
use Rattle.script_words.proofs.SaidNumbers.{decimal-numeral}
use Rattle.script_words.proofs.SpelledNumbers.{numeral-decimal}

-- ---- one word

record IsSaid (s : Steer) (w : List ℕ) : Type 0 where
  steer : IsSteer s
  text : w ≡ steer_text s

within : (b : Bool) (x s : Steer) → if_within b x ≡ Ok s → (b ≡ true) × (x ≡ s)
within true x s h = let same : x ≡ s = cc in (refl, same)
within false x s h = cc

transfer_said : (n : ℕ) (bs : List ℕ) (s : Steer) → numeral bs ≡ Some n → if_within (nat_lt n PLACES) (steers.Transfer n) ≡ Ok s → IsSaid s (116 ∷ bs)
transfer_said n bs s e h =
    let t = within (nat_lt n PLACES) (steers.Transfer n) s h in
    let below = ltb-true n PLACES t.0 in
    subst (λ x. IsSaid x (116 ∷ bs)) t.1 (record { steer = below; text = ap (λ l. 116 ∷ l) (decimal-numeral bs n e (omega (arith, below))) })

persist_said : (n : ℕ) (bs : List ℕ) (s : Steer) → numeral bs ≡ Some n → if_within (nat_lt n PLACES) (steers.Persist n) ≡ Ok s → IsSaid s (112 ∷ bs)
persist_said n bs s e h =
    let t = within (nat_lt n PLACES) (steers.Persist n) s h in
    let below = ltb-true n PLACES t.0 in
    subst (λ x. IsSaid x (112 ∷ bs)) t.1 (record { steer = below; text = ap (λ l. 112 ∷ l) (decimal-numeral bs n e (omega (arith, below))) })

default_said : (n : ℕ) (bs : List ℕ) (s : Steer) → numeral bs ≡ Some n → if_within (nat_le n MOST_DEFAULTS) (steers.Default n) ≡ Ok s → IsSaid s (100 ∷ bs)
default_said n bs s e h =
    let t = within (nat_le n MOST_DEFAULTS) (steers.Default n) s h in
    let most = leb-true n MOST_DEFAULTS t.0 in
    subst (λ x. IsSaid x (100 ∷ bs)) t.1 (record { steer = most; text = ap (λ l. 100 ∷ l) (decimal-numeral bs n e (omega (arith, most))) })

letter_said : (b : ℕ) (bs : List ℕ) (n : ℕ) (s : Steer) (t p d : Bool) → (b == 116) ≡ t → (b == 112) ≡ p → (b == 100) ≡ d → numeral bs ≡ Some n
    → (if t then if_within (nat_lt n PLACES) (steers.Transfer n) else if p then if_within (nat_lt n PLACES) (steers.Persist n) else if d then if_within (nat_le n MOST_DEFAULTS) (steers.Default n) else Err faults.Spelling) ≡ Ok s
    → IsSaid s (b ∷ bs)
letter_said b bs n s true p d et ep ed e h = subst (λ (x : ℕ). IsSaid s (x ∷ bs)) (sym (eqb-true b 116 et)) (transfer_said n bs s e h)
letter_said b bs n s false true d et ep ed e h = subst (λ (x : ℕ). IsSaid s (x ∷ bs)) (sym (eqb-true b 112 ep)) (persist_said n bs s e h)
letter_said b bs n s false false true et ep ed e h = subst (λ (x : ℕ). IsSaid s (x ∷ bs)) (sym (eqb-true b 100 ed)) (default_said n bs s e h)
letter_said b bs n s false false false et ep ed e h = cc

taken_said : (b : ℕ) (bs : List ℕ) (o : Option ℕ) (s : Steer) → numeral bs ≡ o → steer_taken b o ≡ Ok s → IsSaid s (b ∷ bs)
taken_said b bs None s e h = cc
taken_said b bs (Some n) s e h = letter_said b bs n s (b == 116) (b == 112) (b == 100) refl refl refl e h

steer_said : (w : List ℕ) (s : Steer) → steer_of w ≡ Ok s → IsSaid s w
steer_said [] s h = cc
steer_said (b ∷ bs) s h = taken_said b bs (numeral bs) s refl h

steer_read : (s : Steer) → IsSteer s → steer_of (steer_text s) ≡ Ok s
steer_read (steers.Transfer pick) is =
    ap (steer_taken 116) (numeral-decimal pick (omega (arith, is))) ∙ ap (λ b. if_within b (steers.Transfer pick)) (lt-ltb pick PLACES is)
steer_read (steers.Persist pick) is =
    ap (steer_taken 112) (numeral-decimal pick (omega (arith, is))) ∙ ap (λ b. if_within b (steers.Persist pick)) (lt-ltb pick PLACES is)
steer_read (steers.Default steps) is =
    ap (steer_taken 100) (numeral-decimal steps (omega (arith, is))) ∙ ap (λ b. if_within b (steers.Default steps)) (le-leb steps MOST_DEFAULTS is)

-- ---- all words

record AreSaid (ss : List Steer) (ws : List (List ℕ)) : Type 0 where
  each : (s : Steer) → In s ss → IsSteer s
  text : ws ≡ steer_words ss

record IsFirst (w : List ℕ) (ws : List (List ℕ)) (ss : List Steer) : Type 0 where
  one : Steer
  others : List Steer
  first : steer_of w ≡ Ok one
  behind : all_of ws ≡ Ok others
  whole : ss ≡ one ∷ others

first_of : (w : List ℕ) (ws : List (List ℕ)) (ss : List Steer) (r : Result Steer LineFault) (rest : Result (List Steer) LineFault) → steer_of w ≡ r → all_of ws ≡ rest → before_all r rest ≡ Ok ss → IsFirst w ws ss
first_of w ws ss (Ok s) (Ok others) e f h = let same : s ∷ others ≡ ss = cc in record { one = s; others = others; first = e; behind = f; whole = sym same }
first_of w ws ss (Ok s) (Err fault) e f h = cc
first_of w ws ss (Err faults.Spelling) rest e f h = cc
first_of w ws ss (Err faults.Number) (Ok others) e f h = cc
first_of w ws ss (Err faults.Number) (Err fault) e f h = cc

abbrev said_more : (w : List ℕ) (ws : List (List ℕ)) (s : Steer) (others : List Steer) → IsSaid s w → AreSaid others ws → AreSaid (s ∷ others) (w ∷ ws)
said_more w ws s others one rest = record {
  each = λ x i. elim i [
    | inl same ↦ subst IsSteer same one.steer
    | inr behind ↦ rest.each x behind
  ];
  text = ap₂ (λ (v : List ℕ) (vs : List (List ℕ)). v ∷ vs) one.text rest.text;
}

all_said : (ws : List (List ℕ)) (ss : List Steer) → all_of ws ≡ Ok ss → AreSaid ss ws
unfolding all_of
all_said [] ss h = let none : [] ≡ ss = cc in subst (λ x. AreSaid x []) none (record { each = λ s i. absurd i; text = refl })
all_said (w ∷ ws) ss h =
    let is = first_of w ws ss (steer_of w) (all_of ws) refl refl h in
    subst (λ x. AreSaid x (w ∷ ws)) (sym is.whole) (said_more w ws is.one is.others (steer_said w is.one is.first) (all_said ws is.others is.behind))

all_read : (ss : List Steer) → ((s : Steer) → In s ss → IsSteer s) → all_of (steer_words ss) ≡ Ok ss
unfolding all_of
all_read [] each = refl
all_read (s ∷ ss) each = rw (steer_read s (each s (inl refl)), all_read ss (λ x i. each x (inr i))) refl

few_said : (ws : List (List ℕ)) (ss : List Steer) (few : Bool) → nat_le (length ws) MOST_STEERS ≡ few → (if few then all_of ws else Err faults.Spelling) ≡ Ok ss → IsSteerLine ss × (ws ≡ steer_words ss)
few_said ws ss false e h = cc
few_said ws ss true e h =
    let are = all_said ws ss h in
    let most = leb-true (length ws) MOST_STEERS e in
    let same = ap length are.text in
    (record { few = omega (arith, most, same, length-map ss steer_text); each = are.each }, are.text)

pub steers_said : (ws : List (List ℕ)) (ss : List Steer) → steers_of ws ≡ Ok ss → IsSteerLine ss × (ws ≡ steer_words ss)
steers_said ws ss h = few_said ws ss (nat_le (length ws) MOST_STEERS) refl h

pub steers_read : (ws : List (List ℕ)) (ss : List Steer) → IsSteerLine ss → ws ≡ steer_words ss → steers_of ws ≡ Ok ss
steers_read ws ss is same =
    let few = is.few in
    let within : nat_le (length (steer_words ss)) MOST_STEERS ≡ true = le-leb (length (steer_words ss)) MOST_STEERS (omega (arith, few, length-map ss steer_text)) in
    ap steers_of same ∙ ap (λ b. if b then all_of (steer_words ss) else Err faults.Spelling) within ∙ all_read ss is.each
