-- A name that comes and another one that goes, in either order.
use Rattle.std.specs.Prelude.{◌≡◌, ◌≢◌, ℕ, List, Option, Some, None, refl}
use Rattle.std.specs.Ordering.{is_eq}
use Rattle.std.proofs.Common.{sym, ap, ◌∙◌, inl, inr}
use Rattle.std.proofs.lemmas.Bool.{false_from_ne_true}
use Rattle.std.proofs.lemmas.Cmp.{nat_list_cmp_total}
use Rattle.std.proofs.lemmas.Option.{none-some}
use Rattle.tree_model.specs.Maps.{at_name, put_name, name_cmp}
use Rattle.tree_model.specs.laws.MapOrder.{NamesInOrder, names_in_order_put, names_in_order_without, at_name_without_apart, at_name_without_found}
use Rattle.tree_model.specs.laws.MapsLaws.{at_put_name, put_apart, name_here, name_same}
use Rattle.tree_model.proofs.Edits.{same_name}
use Rattle.volume_ops.proofs.TreeUnique.{same_maps}
use Rattle.volume_model.specs.Moves.{without}

put_other : {X : Type 0} (names : List (List ℕ × X)) (name : List ℕ) (x : X) (other : List ℕ) → other ≢ name → at_name (put_name names name x) other ≡ at_name names other
put_other names name x other apart = put_apart name_cmp name_here name_same names name x other (false_from_ne_true (is_eq (name_cmp other name)) (λ t. apart (name_same other name t)))

gone : {X : Type 0} (names : List (List ℕ × X)) (name : List ℕ) → NamesInOrder names → at_name (without names name) name ≡ None
gone {X = X} names name order = by (at_name (without names name) name) refl
  where
    by : (o : Option X) → at_name (without names name) name ≡ o → o ≡ None
    by None e = refl
    by (Some x) e = absurd ((at_name_without_found names name name x order e).0 refl)

-- what has no name has none once another one is gone
pub still_none : (names : List (List ℕ × ℕ)) (name other : List ℕ) → NamesInOrder names → at_name names other ≡ None → at_name (without names name) other ≡ None
still_none names name other order none = by (at_name (without names name) other) refl
  where
    by : (o : Option ℕ) → at_name (without names name) other ≡ o → o ≡ None
    by None e = refl
    by (Some x) e = absurd (none-some x (sym none ∙ (at_name_without_found names name other x order e).1))

pub gone_then_put : {X : Type 0} (names : List (List ℕ × X)) (name other : List ℕ) (x : X) → NamesInOrder names → name ≢ other → without (put_name names other x) name ≡ put_name (without names name) other x
gone_then_put names name other x order apart =
    same_maps name_cmp nat_list_cmp_total name_here name_same (without (put_name names other x) name) (put_name (without names name) other x)
    (names_in_order_without (put_name names other x) name (names_in_order_put names other x order)) (names_in_order_put (without names name) other x (names_in_order_without names name order))
    (λ key. elim (same_name key name) [
      | inl e ↦ ap (at_name (without (put_name names other x) name)) e ∙ (gone (put_name names other x) name (names_in_order_put names other x order)
          ∙ sym (ap (at_name (put_name (without names name) other x)) e ∙ (put_other (without names name) other x name apart ∙ gone names name order)))
      | inr far ↦ at_name_without_apart (put_name names other x) name key (names_in_order_put names other x order) (λ e. far (sym e)) ∙ (elim (same_name key other) [
        | inl e ↦ ap (at_name (put_name names other x)) e ∙ (at_put_name names other x ∙ sym (ap (at_name (put_name (without names name) other x)) e ∙ at_put_name (without names name) other x))
        | inr off ↦ put_other names other x key off ∙ sym (put_other (without names name) other x key off ∙ at_name_without_apart names name key order (λ e. far (sym e)))
      ])
    ])
