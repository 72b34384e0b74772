-- Zones that are gathered, one after the other.
use Rattle.std.specs.Prelude.{◌≡◌, ◌≢◌, ℕ, ◌+◌, ◌-◌, ◌<◌, ◌≤◌, ◌↔◌, Bool, true, false, not, ◌&&◌, List, [], ◌∷◌, ◌++◌, map, filter, Ok, refl}
use Rattle.std.specs.List.{range_with_len}
use Rattle.std.proofs.Common.{sym, ap, ◌∙◌, arith, cond}
use Rattle.std.proofs.lemmas.Bool.{ne_eqb}
use Rattle.std.proofs.lemmas.List.{append_assoc}
use Rattle.std.proofs.lemmas.List.FromFn.{filter_of_map_range_with_len_more}
use Rattle.minix_layout.specs.declared.division.Geometry.{Geometry}
use Rattle.minix_layout.specs.Bits.{zone_bit, has_bit}
use Rattle.volume_ops.specs.Faultless.{IsUsed}
use Rattle.volume_ops.specs.Marks.{is_marked}
use Rattle.volume_ops.specs.Places.{zone_number, zone_numbers}
use Rattle.volume_ops.specs.Volume.{disk_of, walked}
use Rattle.volume_ops.specs.Walk.{Walked}
use Rattle.volume_ops.proofs.WalkTests.{walked_used}
use Rattle.widening.specs.Directories.{no_holes, zones_behind, is_free}

-- ---- those that pass a test

append_none : (xs : List ℕ) → xs ++ [] ≡ xs
append_none [] = refl
append_none (x ∷ xs) = ap (λ ys. x ∷ ys) (append_none xs)

module _ (p : ℕ → Bool) (f : ℕ → ℕ) (old before after : List ℕ) (start n at : ℕ) (place : start + n ≡ at) (so_far : before ≡ old ++ filter p (map f (range_with_len start n))) where
  one_more : after ≡ before ++ cond (p (f at)) (f at ∷ []) [] → after ≡ old ++ filter p (map f (range_with_len start (n + 1)))
  one_more e =
      e ∙ (ap (λ xs. xs ++ cond (p (f at)) (f at ∷ []) []) so_far
      ∙ (append_assoc old (filter p (map f (range_with_len start n))) (cond (p (f at)) (f at ∷ []) [])
      ∙ ap (λ xs. old ++ xs) (sym (filter_of_map_range_with_len_more p f start n at place))))

  pub passes : (x : ℕ) → x ≡ f at → p x ≡ true → after ≡ before ++ x ∷ [] → after ≡ old ++ filter p (map f (range_with_len start (n + 1)))
  passes x is good e =
      let one : cond (p x) (x ∷ []) [] ≡ x ∷ [] = ap (λ b. cond b (x ∷ []) []) good in
      one_more (e ∙ ap (λ xs. before ++ xs) (sym one ∙ ap (λ y. cond (p y) (y ∷ []) []) is))

  pub fails : (x : ℕ) → x ≡ f at → p x ≡ false → after ≡ before → after ≡ old ++ filter p (map f (range_with_len start (n + 1)))
  fails x is bad e =
      let none : cond (p x) (x ∷ []) [] ≡ [] = ap (λ b. cond b (x ∷ []) []) bad in
      one_more (e ∙ (sym (append_none before) ∙ ap (λ xs. before ++ xs) (sym none ∙ ap (λ y. cond (p y) (y ∷ []) []) is)))

-- all numbers of a zone of numbers
pub all_behind : (blocks : List (List ℕ)) (zone at : ℕ) (old now : List ℕ) → zone ≢ 0 → at ≡ 512 →
    now ≡ old ++ no_holes (map (zone_number (disk_of blocks zone)) (range_with_len 0 at)) → now ≡ old ++ zones_behind blocks zone
unfolding zone_numbers
all_behind blocks zone at old now some end e =
    rw (ne_eqb zone 0 some) (e ∙ ap (λ n. old ++ no_holes (map (zone_number (disk_of blocks zone)) (range_with_len 0 n))) end)

-- a test of each zone from the first on
map_itself : (xs : List ℕ) → map (λ x. x) xs ≡ xs
map_itself [] = refl
map_itself (x ∷ xs) = ap (λ ys. x ∷ ys) (map_itself xs)

abbrev pub passed : (ℕ → Bool) → ℕ → ℕ → List ℕ
passed p first zone = filter p (map (λ x. x) (range_with_len first (zone - first)))

module _ (p : ℕ → Bool) (before after : List ℕ) (first zone : ℕ) (low : first ≤ zone) (so_far : before ≡ passed p first zone) where
  next_is : (after ≡ [] ++ filter p (map (λ x. x) (range_with_len first (zone - first + 1)))) → after ≡ passed p first (zone + 1)
  next_is e = e ∙ ap (λ n. filter p (map (λ x. x) (range_with_len first n))) (omega (arith, low))

  pub zone_passes : p zone ≡ true → after ≡ before ++ zone ∷ [] → after ≡ passed p first (zone + 1)
  zone_passes good e = next_is (passes p (λ x. x) [] before after first (zone - first) zone (omega (arith, low)) so_far zone refl good e)

  pub zone_fails : p zone ≡ false → after ≡ before → after ≡ passed p first (zone + 1)
  zone_fails bad e = next_is (fails p (λ x. x) [] before after first (zone - first) zone (omega (arith, low)) so_far zone refl bad e)

pub all_passed : (p : ℕ → Bool) (first zone : ℕ) → passed p first zone ≡ filter p (range_with_len first (zone - first))
all_passed p first zone = ap (filter p) (map_itself (range_with_len first (zone - first)))

-- ---- a free zone

same_test : (a b : Bool) (P : Type 0) → (a ≡ true) ↔ P → (b ≡ true) ↔ P → a ≡ b
same_test true true P x y = refl
same_test false false P x y = refl
same_test true false P x y = sym (y.1 (x.0 refl))
same_test false true P x y = x.1 (y.0 refl)

pub is_used : (g : Geometry) (blocks : List (List ℕ)) (zone : ℕ) (used : Bool) → 0 < g.inodes → (used ≡ true) ↔ IsUsed g blocks zone →
    (all : Walked) → walked g blocks ≡ Ok all → used ≡ is_marked all.zones zone
is_used g blocks zone used some is all walks = same_test used (is_marked all.zones zone) (IsUsed g blocks zone) is (walked_used g blocks all some walks zone)

pub is_free_by : (g : Geometry) (blocks : List (List ℕ)) (met : List Bool) (zone : ℕ) (used marked : Bool) → used ≡ is_marked met zone → marked ≡ has_bit blocks (zone_bit g zone) →
    (free : Bool) → free ≡ (not used && not marked) → free ≡ is_free g blocks met zone
is_free_by g blocks met zone used marked is bit free e = e ∙ (ap (λ b. not b && not marked) is ∙ ap (λ b. not (is_marked met zone) && not b) bit)
