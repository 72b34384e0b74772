-- Values that are optional, and words that are one of several.
use Rattle.std.proofs.Common.{◌≡◌, ℕ, Bool, true, false, List, Option, Some, None, Result, Ok, Err, refl, ap, ◌∙◌, subst, if◌then◌else◌}
use Rattle.std.specs.Str.{bytes_eq}
use Rattle.std.specs.Option.{option_and_then, option_map, option_or}
use Rattle.std.proofs.lemmas.Option.{same_Some, none-some}
use Rattle.std.proofs.lemmas.Slice.Eq.{bytes_eq-Decides}

-- what holds of each value that a step gives holds of the value
pub mapped : {X Y : Type 0} (P : Y → Type 0) (f : X → Y) (o : Option X) (y : Y) → option_map f o ≡ Some y → ((x : X) → o ≡ Some x → P (f x)) → P y
mapped P f None y h all = absurd (none-some y h)
mapped P f (Some x) y h all = subst P (same_Some (f x) y h) (all x refl)

pub chained : {X Y : Type 0} (P : Y → Type 0) (f : X → Option Y) (o : Option X) (y : Y) → option_and_then f o ≡ Some y → ((x : X) → o ≡ Some x → f x ≡ Some y → P y) → P y
chained P f None y h all = absurd (none-some y h)
chained P f (Some x) y h all = all x refl h

-- a word that is one of several, tested one after the other
chosen : {A : Type 0} (text : A → List ℕ) (w : List ℕ) (x y : A) (rest : Option A) (same : Bool) → bytes_eq w (text x) ≡ same → (if same then Some x else rest) ≡ Some y → (rest ≡ Some y → w ≡ text y) → w ≡ text y
chosen text w x y rest true e h other = (bytes_eq-Decides w (text x)).0 e ∙ ap text (same_Some x y h)
chosen text w x y rest false e h other = other h

pub choose : {A : Type 0} (text : A → List ℕ) (w : List ℕ) (x y : A) (rest : Option A) → (if bytes_eq w (text x) then Some x else rest) ≡ Some y → (rest ≡ Some y → w ≡ text y) → w ≡ text y
choose text w x y rest h other = chosen text w x y rest (bytes_eq w (text x)) refl h other

-- the first of two groups that knows the word
pub group_or : {X A : Type 0} (f : X → A) (o : Option X) (rest : Option A) (y : A) (P : A → Type 0) → option_or (option_map f o) rest ≡ Some y → ((x : X) → o ≡ Some x → P (f x)) → (rest ≡ Some y → P y) → P y
group_or f None rest y P h known other = other h
group_or f (Some x) rest y P h known other = subst P (same_Some (f x) y h) (known x refl)

pub either_or : {A : Type 0} (o rest : Option A) (y : A) (P : A → Type 0) → option_or o rest ≡ Some y → (o ≡ Some y → P y) → (rest ≡ Some y → P y) → P y
either_or None rest y P h known other = other h
either_or (Some x) rest y P h known other = known h
