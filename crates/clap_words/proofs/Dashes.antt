-- Lists with a word `--` ask for nothing, and a parse that fails says nothing.
use Rattle.std.proofs.Common.{◌≡◌, ◌⊎◌, ◌&&◌, ◌||◌, Bool, true, false, true≢false, if◌then◌else◌, inl, inr, refl, sym, subst, List, [], ◌∷◌, Option, Some, None, codes, bytes_eq}
use Rattle.std.specs.List.{list_any}
use Rattle.std.proofs.lemmas.Slice.Eq.{bytes_eq-Decides}
use Rattle.clap.specs.Kinds.{IsAmong, Kinds}
use Rattle.clap.specs.Walk.{Row, Text}
use Rattle.clap.specs.declared.error.kind.ErrorKind.{ErrorKind}
use Rattle.clap_words.specs.Reads.{given}
use Rattle.clap_words.specs.Table.{Said, asked_by, is_lone_dash, is_numeral}

pub nothing_given : (k : ErrorKind) (kinds : Kinds) (sub : Option (Text × List Row)) → IsAmong k kinds → given kinds sub ≡ None
nothing_given k [] sub among = absurd among
nothing_given k (x ∷ xs) sub among = refl

either : (a b : Bool) → (a || b) ≡ true → (a ≡ true) ⊎ (b ≡ true)
either true b e = inl refl
either false b e = inr e

spelled : (w : Text) → is_lone_dash w ≡ true → codes "--" ≡ w
spelled w e = sym ((bytes_eq-Decides w (codes "--")).0 e)

same_none : (b : Bool) → ◌≡◌ {A = Option Said} None (if b then None else None)
same_none true = refl
same_none false = refl

one : (b : Bool) (s : Said) → None ≡ (if b && false then Some s else None)
one true s = refl
one false s = refl

two : (b c : Bool) (s : Said) → None ≡ (if b && (c && false) then Some s else None)
two true c s = one c s
two false c s = refl

three : (b c d : Bool) (s : Said) → None ≡ (if b && (c && (d && false)) then Some s else None)
three true c d s = two c d s
three false c d s = refl

first_dash : (r : List Text) → None ≡ asked_by (codes "--" ∷ r)
first_dash [] = refl
first_dash (v ∷ []) = same_none (bytes_eq v (codes "--raw"))
first_dash (v ∷ u ∷ []) = refl
first_dash (i ∷ z ∷ j ∷ []) = refl
first_dash (i ∷ z ∷ j ∷ v ∷ r) = refl

second_dash : (w : Text) (r : List Text) → None ≡ asked_by (w ∷ codes "--" ∷ r)
second_dash w [] = same_none (bytes_eq w (codes "bulk"))
second_dash w (v ∷ []) = refl
second_dash w (z ∷ j ∷ []) = one (bytes_eq w (codes "make")) (Said.make (codes "--") z j)
second_dash w (z ∷ j ∷ v ∷ r) = refl

third_dash : (w i : Text) (r : List Text) → None ≡ asked_by (w ∷ i ∷ codes "--" ∷ r)
third_dash w i [] = refl
third_dash w i (j ∷ []) = two (bytes_eq w (codes "make")) (is_numeral i) (Said.make i (codes "--") j)
third_dash w i (j ∷ v ∷ r) = refl

fourth_dash : (w i z : Text) (r : List Text) → None ≡ asked_by (w ∷ i ∷ z ∷ codes "--" ∷ r)
fourth_dash w i z [] = three (bytes_eq w (codes "make")) (is_numeral i) (is_numeral z) (Said.make i z (codes "--"))
fourth_dash w i z (v ∷ r) = refl

pub nothing_asked : (words : List Text) → list_any is_lone_dash words ≡ true → None ≡ asked_by words
nothing_asked [] some = refl
nothing_asked (w ∷ r) some = elim (either (is_lone_dash w) (list_any is_lone_dash r) some) [
  | inl is ↦ subst (λ x. None ≡ asked_by (x ∷ r)) (spelled w is) (first_dash r)
  | inr some ↦ behind_one w r some
]
  where
    behind_three : (w i z : Text) (r : List Text) → list_any is_lone_dash r ≡ true → None ≡ asked_by (w ∷ i ∷ z ∷ r)
    behind_three w i z [] some = refl
    behind_three w i z (j ∷ []) some = elim (either (is_lone_dash j) false some) [
      | inl is ↦ subst (λ x. None ≡ asked_by (w ∷ i ∷ z ∷ x ∷ [])) (spelled j is) (fourth_dash w i z [])
      | inr wrong ↦ absurd (true≢false (sym wrong))
    ]
    behind_three w i z (j ∷ v ∷ r) some = refl

    behind_two : (w i : Text) (r : List Text) → list_any is_lone_dash r ≡ true → None ≡ asked_by (w ∷ i ∷ r)
    behind_two w i [] some = absurd (true≢false (sym some))
    behind_two w i (z ∷ r) some = elim (either (is_lone_dash z) (list_any is_lone_dash r) some) [
      | inl is ↦ subst (λ x. None ≡ asked_by (w ∷ i ∷ x ∷ r)) (spelled z is) (third_dash w i r)
      | inr more ↦ behind_three w i z r more
    ]

    behind_one : (w : Text) (r : List Text) → list_any is_lone_dash r ≡ true → None ≡ asked_by (w ∷ r)
    behind_one w [] some = absurd (true≢false (sym some))
    behind_one w (i ∷ r) some = elim (either (is_lone_dash i) (list_any is_lone_dash r) some) [
      | inl is ↦ subst (λ x. None ≡ asked_by (w ∷ x ∷ r)) (spelled i is) (second_dash w r)
      | inr more ↦ behind_two w i r more
    ]
