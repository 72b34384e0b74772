-- Rows that name bodies among those that are stored keep what they say when more are stored.
use Rattle.std.proofs.Common.{◌≡◌, ℕ, ◌≤◌, suc, nat_lt, true, false, List, [], ◌∷◌, ◌++◌, length, map, All, Some, None, refl, sym, ap, ap₂, ◌∙◌, arith, slice_get, get_or, length-append}
use Rattle.std.proofs.Math.ListN.{get_or-append}
use Rattle.std.proofs.lemmas.List.{map-append}
use Rattle.std.proofs.lemmas.Bool.{ltb-true, ltb-false}
use Rattle.std.proofs.lemmas.List.Elements.{All-append, All-cons, All-nil}
use Rattle.std.proofs.lemmas.Option.{slice_get_read}
use Rattle.blk_base.specs.laws.Members.{slice_get-out}
use Rattle.order_model.specs.declared.bodies.KeptBody.{KeptBody}
use Rattle.order_model.specs.declared.bodies.KeptBody.TheVariants.{Full, Stored}
use Rattle.order_model.specs.code.Bodies.{body_of, IsThere}

-- ---- one body

pub body-still : (stored more : List (List ℕ)) (kept : KeptBody) → IsThere (length stored) kept → body_of (stored ++ more) kept ≡ body_of stored kept
body-still stored more (Full v) there = refl
body-still stored more (Stored place) there = get_or-append stored more [] place there

pub there-still : (n m : ℕ) (kept : KeptBody) → n ≤ m → IsThere n kept → IsThere m kept
there-still n m (Full v) le there = there
there-still n m (Stored place) le there = omega (arith, le, there)

-- ---- rows, each of which says something by the bodies that are stored

module _ {X Y : Type 0} (says : List (List ℕ) → X → Y) (There : ℕ → X → Type 0)
    (says-still : (stored more : List (List ℕ)) (x : X) → There (length stored) x → says (stored ++ more) x ≡ says stored x)
    (There-still : (n m : ℕ) (x : X) → n ≤ m → There n x → There m x) where
  all-still : (stored more : List (List ℕ)) (xs : List X) → All (There (length stored)) xs → map (says (stored ++ more)) xs ≡ map (says stored) xs
  all-still stored more [] there = refl
  all-still stored more (x ∷ xs) there =
      ap₂ (λ (y : Y) (ys : List Y). y ∷ ys) (says-still stored more x (there 0 x (omega arith))) (all-still stored more xs (λ k d lt. there (suc k) d (omega (arith, lt))))

  module _ (stored more new : List (List ℕ)) (xs : List X) (x : X) (behind : new ≡ stored ++ more) (there : All (There (length stored)) xs) where
    longer : length stored ≤ length new
    longer = let n = ap (λ (l : List (List ℕ)). length l) behind in let m = length-append stored more in omega (arith, n, m)

    pub there_pushed : There (length new) x → All (There (length new)) (xs ++ x ∷ [])
    there_pushed one =
        All-append (There (length new)) xs (x ∷ []) (λ k d lt. There-still (length stored) (length new) (get_or xs k d) longer (there k d lt))
        (All-cons (There (length new)) x [] one (All-nil (There (length new))))

    pub says_pushed : (y : Y) → says new x ≡ y → map (says new) (xs ++ x ∷ []) ≡ map (says stored) xs ++ y ∷ []
    says_pushed y is =
        map-append (says new) xs (x ∷ [])
        ∙ ap₂ (λ (ys zs : List Y). ys ++ zs) (ap (λ (l : List (List ℕ)). map (says l) xs) behind ∙ all-still stored more xs there) (ap (λ (z : Y). z ∷ []) is)

-- ---- a row that is found

pub found_at : {X : Type 0} (xs : List X) (place : ℕ) (x : X) → true ≡ nat_lt place (length xs) → x ≡ get_or xs place x → slice_get xs place ≡ Some x
found_at xs place x lt is = slice_get_read xs (length xs) place x refl (ltb-true place (length xs) (sym lt)) is

pub none_at : {X : Type 0} (xs : List X) (place : ℕ) → false ≡ nat_lt place (length xs) → slice_get xs place ≡ None
none_at xs place past = slice_get-out xs place (ltb-false place (length xs) (sym past))
