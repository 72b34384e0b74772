-- Lists to which what is made of each element of another is added, one after the other.
use Rattle.std.proofs.Common.{◌≡◌, ℕ, ◌≤◌, List, [], ◌∷◌, ◌++◌, length, map, drop, refl, sym, ap, ◌∙◌, arith, append-nil}
use Rattle.std.proofs.lemmas.List.{drop_all}

pub map_map : {X Y Z : Type 0} (f : Y → Z) (g : X → Y) (xs : List X) → map f (map g xs) ≡ map (λ x. f (g x)) xs
map_map f g [] = refl
map_map f g (x ∷ xs) = ap (λ l. f (g x) ∷ l) (map_map f g xs)

module _ {X Y : Type 0} (f : X → Y) where
  -- those from place `at` on are still to be added
  abbrev pub Adding : List Y → List X → List Y → ℕ → Type 0
  Adding old xs now at = now ++ map f (drop at xs) ≡ old ++ map f xs

  pub added_all : (old : List Y) (xs : List X) (now : List Y) (at : ℕ) → Adding old xs now at → length xs ≤ at → now ≡ old ++ map f xs
  added_all old xs now at h past = sym (append-nil now) ∙ sym (ap (λ l. now ++ map f l) (drop_all at xs past)) ∙ h
