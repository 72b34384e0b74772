-- What a rename is, by what stands at the new name.
use Rattle.std.specs.Prelude.{◌≡◌, ◌≢◌, ℕ, ◌==◌, Bool, true, false, not, ◌&&◌, if◌then◌else◌, List, Option, Some, None, refl}
use Rattle.std.proofs.Common.{sym, ap, ◌∙◌, eq-eqb}
use Rattle.std.proofs.lemmas.Bool.{ne_eqb}
use Rattle.volume_steps.specs.Now.{VolumeNow, Change, unchanged}
use Rattle.volume_steps.specs.Calls.{move_in, move_below, replace_in}
use Rattle.volume_names.specs.renames.Renamed.{birth_named, is_directory_at, renamed_at, renamed_by}

module _ (v : VolumeNow) (tx from : ℕ) (name : List ℕ) (to : ℕ) (other : List ℕ) (birth : ℕ) where
  abbrev by_met : Option ℕ → Change
  by_met o = renamed_by v tx from name to other birth o

  -- the node itself
  pub renamed_stays : (gone : ℕ) → birth_named v.contents.nodes to other ≡ Some gone → gone ≡ birth → renamed_at v tx from name to other birth ≡ unchanged v
  renamed_stays gone e same = ap by_met e ∙ ap (λ (b : Bool). if b then unchanged v else replace_in v tx from name to other birth gone) (eq-eqb gone birth same)

  -- another file
  pub renamed_onto : (gone : ℕ) → birth_named v.contents.nodes to other ≡ Some gone → gone ≢ birth → renamed_at v tx from name to other birth ≡ replace_in v tx from name to other birth gone
  renamed_onto gone e apart = ap by_met e ∙ ap (λ (b : Bool). if b then unchanged v else replace_in v tx from name to other birth gone) (ne_eqb gone birth apart)

  -- nothing
  free : (b : Bool) → birth_named v.contents.nodes to other ≡ None → (is_directory_at v.contents.nodes birth && not (to == from)) ≡ b →
      renamed_at v tx from name to other birth ≡ (if b then move_below v from name to other birth else move_in v from name to other birth)
  free b none e = ap by_met none ∙ ap (λ (b : Bool). if b then move_below v from name to other birth else move_in v from name to other birth) e

  pub renamed_within : birth_named v.contents.nodes to other ≡ None → from ≡ to → renamed_at v tx from name to other birth ≡ move_in v from name to other birth
  renamed_within none same = free false none (ap (λ b. is_directory_at v.contents.nodes birth && not b) (eq-eqb to from (sym same)) ∙ never (is_directory_at v.contents.nodes birth))
    where
      never : (b : Bool) → (b && false) ≡ false
      never true = refl
      never false = refl

  pub renamed_below : birth_named v.contents.nodes to other ≡ None → from ≢ to → is_directory_at v.contents.nodes birth ≡ true → renamed_at v tx from name to other birth ≡ move_below v from name to other birth
  renamed_below none away is = free true none (ap (λ b. b && not (to == from)) is ∙ ap not (ne_eqb to from (λ e. away (sym e))))

  pub renamed_across : birth_named v.contents.nodes to other ≡ None → is_directory_at v.contents.nodes birth ≡ false → renamed_at v tx from name to other birth ≡ move_in v from name to other birth
  renamed_across none is = free false none (ap (λ b. b && not (to == from)) is)
