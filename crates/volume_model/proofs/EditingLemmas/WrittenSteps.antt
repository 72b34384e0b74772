-- The zones of numbers that a cut writes, case by case.
use Rattle.std.specs.Prelude.{◌≡◌, ℕ, ◌-◌, ◌/◌, ◌%◌, ◌<◌, ◌≤◌, suc, ◌&&◌, Bool, true, false, if◌then◌else◌, List, [], ◌∷◌, ◌++◌, Option, Some, None, refl}
use Rattle.std.proofs.Common.{sym, ap, ◌∙◌, arith}
use Rattle.std.proofs.lemmas.Bool.{lt-ltb, le-ltb}
use Rattle.std.proofs.lemmas.List.{append-nil}
use Rattle.volume_ops.specs.declared.found.Mapped.{Mapped}
use Rattle.volume_model.specs.Counts.{keeps_below, indices_of}
use Rattle.volume_model.specs.Cut.{cuts, cut_told, has_numbers}
use Rattle.volume_model.specs.Volume.{Place, indirect, double, inner}
use Rattle.volume_model.specs.editing.Zones.{as_list}
use Rattle.volume_model.specs.editing.code.Cutting.{keeps_listed}
use Rattle.volume_model.proofs.EditingLemmas.CutSteps.{keeps_same}

module _ (blocks : List (List ℕ)) (own : Place → ℕ) (zones : List Mapped) (from : ℕ) where
  abbrev told : (Place → Bool) → List ℕ
  told keeps = cut_told blocks own keeps (cuts keeps from)

  below : told (keeps_listed zones from) ≡ told (keeps_below (indices_of zones) from)
  below = ap told (keeps_same zones from)

  -- one zone, where it stays and has a number from `at` on
  one : (keep : Bool) (x : Place) (at z : ℕ) (o : Option ℕ) → keep ≡ keeps_listed zones from x → z ≡ own x → o ≡ (if keep && has_numbers blocks z at then Some z else None) → (rest : List ℕ) →
      as_list o ++ rest ≡ (if keeps_listed zones from x && has_numbers blocks (own x) at then own x ∷ rest else rest)
  one keep x at z o k e is rest =
      ap (λ o. as_list o ++ rest) is
      ∙ (by (keep && has_numbers blocks z at) ∙ (λ i. if k i && has_numbers blocks (e i) at then e i ∷ rest else rest))
    where
      by : (b : Bool) → as_list (if b then Some z else None) ++ rest ≡ (if b then z ∷ rest else rest)
      by true = refl
      by false = refl

  pub single_written : (keep : Bool) (z at : ℕ) (outer : Option ℕ) → 7 ≤ from → from < 519 → keep ≡ keeps_listed zones from indirect → z ≡ own indirect → at ≡ from - 7 →
      outer ≡ (if keep && has_numbers blocks z at then Some z else None) → as_list outer ≡ told (keeps_below (indices_of zones) from)
  single_written keep z at outer low high k e a o =
      let cut : cuts (keeps_listed zones from) from ≡ (indirect, from - 7) ∷ [] = rw (le-ltb from 7 low, lt-ltb from 519 high) refl in
      sym (append-nil (as_list outer))
      ∙ (one keep indirect (from - 7) z outer k e (o ∙ ap (λ at. if keep && has_numbers blocks z at then Some z else None) a) []
      ∙ (sym (ap (λ cs. cut_told blocks own (keeps_listed zones from) cs) cut) ∙ below))

  pub twice_written : (keep group : Bool) (z y at end : ℕ) (outer within : Option ℕ) → 519 ≤ from → from < 262663 → group ≡ keeps_listed zones from (inner ((from - 519) / 512)) → keep ≡ keeps_listed zones from double →
      y ≡ own (inner ((from - 519) / 512)) → z ≡ own double → at ≡ (from - 519) % 512 → end ≡ (if group then suc ((from - 519) / 512) else (from - 519) / 512) →
      within ≡ (if group && has_numbers blocks y at then Some y else None) → outer ≡ (if keep && has_numbers blocks z end then Some z else None) →
      as_list within ++ as_list outer ≡ told (keeps_below (indices_of zones) from)
  twice_written keep group z y at end outer within low high kg kd ey ez a n w o =
      let j = (from - 519) / 512 in
      let keeps = keeps_listed zones from in
      let last = if keeps (inner j) then suc j else j in
      let cut : cuts keeps from ≡ (inner j, (from - 519) % 512) ∷ (double, last) ∷ [] = rw (le-ltb from 7 (omega arith), le-ltb from 519 low, lt-ltb from 262663 high) refl in
      one group (inner j) ((from - 519) % 512) y within kg ey (w ∙ ap (λ at. if group && has_numbers blocks y at then Some y else None) a) (as_list outer)
      ∙ (ap (λ rest. if keeps (inner j) && has_numbers blocks (own (inner j)) ((from - 519) % 512) then own (inner j) ∷ rest else rest)
      (sym (append-nil (as_list outer)) ∙ one keep double last z outer kd ez
      (o ∙ ap (λ end. if keep && has_numbers blocks z end then Some z else None) (n ∙ ap (λ (b : Bool). if b then suc j else j) kg)) [])
      ∙ (sym (ap (λ cs. cut_told blocks own keeps cs) cut) ∙ below))
