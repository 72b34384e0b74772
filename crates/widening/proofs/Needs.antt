-- What a directory needs beyond its own zones.
use Rattle.std.specs.Prelude.{◌≡◌, ◌≢◌, ℕ, suc, ◌+◌, ◌-◌, ◌==◌, nat_lt, Bool, true, false, not, if◌then◌else◌, List, [], ◌∷◌, ◌++◌, length}
use Rattle.std.proofs.Common.{ap, inl, inr, arith, cond}
use Rattle.std.proofs.lemmas.Bool.{cases_eq, eq-eqb, ne_eqb}
use Rattle.std.proofs.lemmas.List.{length-append}
use Rattle.minix_layout.specs.declared.inode.Inode.{Inode}
use Rattle.widening.specs.Directories.{no_holes, data_zones, all_needed, kept_by, own_zones, beyond}

hole_left_out : (z : ℕ) (zs : List ℕ) → z ≡ 0 → no_holes (z ∷ zs) ≡ no_holes zs
hole_left_out z zs e = ap (λ b. cond (not b) (z ∷ no_holes zs) (no_holes zs)) (eq-eqb z 0 e)

no_hole_stays : (z : ℕ) (zs : List ℕ) → z ≢ 0 → no_holes (z ∷ zs) ≡ z ∷ no_holes zs
no_hole_stays z zs apart = ap (λ b. cond (not b) (z ∷ no_holes zs) (no_holes zs)) (ne_eqb z 0 apart)

abbrev ones : Bool → ℕ
ones b = if b then 1 else 0

gap : (needed indirect double : ℕ) (more : Bool) (own behind : List ℕ) →
    needed + (if (if more then indirect else 0) == 0 then (if more then 1 else 0) else 0) - length (own ++ (no_holes ((if more then 0 else indirect) ∷ double ∷ []) ++ behind))
    ≡ needed + (if more then 1 else 0) - (length own + length (no_holes (indirect ∷ double ∷ []) ++ behind))
gap needed indirect double false own behind = ap (λ n. needed + 0 - n) (length-append own (no_holes (indirect ∷ double ∷ []) ++ behind))
gap needed indirect double true own behind =
    let both = length-append own (no_holes (double ∷ []) ++ behind) in
    elim (cases_eq indirect 0) [
      | inl none ↦
          let one : ◌≡◌ {A = ℕ} (if indirect == 0 then 1 else 0) 1 = ap (λ b. ones b) (eq-eqb indirect 0 none) in
          let same : length (no_holes (indirect ∷ double ∷ []) ++ behind) ≡ length (no_holes (double ∷ []) ++ behind) = ap (λ zs. length (zs ++ behind)) (hole_left_out indirect (double ∷ []) none) in
          omega (arith, one, same, both)
      | inr some ↦
          let none : ◌≡◌ {A = ℕ} (if indirect == 0 then 1 else 0) 0 = ap (λ b. ones b) (ne_eqb indirect 0 some) in
          let more : length (no_holes (indirect ∷ double ∷ []) ++ behind) ≡ suc (length (no_holes (double ∷ []) ++ behind)) = ap (λ zs. length (zs ++ behind)) (no_hole_stays indirect (double ∷ []) some) in
          omega (arith, none, more, both)
    ]

-- the zones that it takes are those that it needs beyond its own
pub same_need : (i : Inode) (blocks : List (List ℕ)) (needed : ℕ) → all_needed needed (kept_by i needed) - length (own_zones blocks i needed) ≡ beyond i blocks needed
same_need i blocks needed = gap needed _ _ (nat_lt 7 needed) (data_zones blocks i) _
