-- What stands in a map after an entry was put.
use Rattle.std.specs.Prelude.{◌≡◌, ◌≢◌, ℕ, true, false, cond, List, [], ◌∷◌, Some, refl, ◌⊎◌, is_some}
use Rattle.std.proofs.Common.{Less, Equal, Greater, sym, ap, subst, ◌∙◌, inl, inr, ⊎_elim, arith}
use Rattle.std.proofs.lemmas.Bool.{true≢false, cases_Bool, false_from_ne_true}
use Rattle.std.proofs.lemmas.Option.{none-some, same_Some}
use Rattle.std.specs.Ordering.{nat_cmp, is_eq, match_ordering}
use Rattle.std.specs.declared.cmp.Ordering.{Ordering}
use Rattle.std.specs.BTreeMap.{insert_entry, is_at}
use Rattle.std.specs.Map.{lookup}
use Rattle.std.proofs.lemmas.Map.Text.{is_eq-slice_cmp}
use Rattle.std.proofs.lemmas.Slice.Eq.{bytes_eq-Decides}
use Rattle.blk_base.specs.Members.{In}
use Rattle.tree_model.specs.Maps.{at_number, at_name, put_number, put_name, name_cmp}

pub same_pair : {K X : Type 0} (a b : K) (x y : X) → a ≡ b → x ≡ y → ◌≡◌ {A = K × X} (a, x) (b, y)
same_pair a b x y p q = subst (λ z. ◌≡◌ {A = _ × _} (a, x) (z, y)) p (ap (λ w. (a, w)) q)

-- ---- for any order in which equal keys are the same

module _ {K X : Type 0} (cmp : K → K → Ordering) (here : (k : K) → is_eq (cmp k k) ≡ true) (same : (j k : K) → is_eq (cmp j k) ≡ true → j ≡ k) where
  put_here_by : (e : K × X) (es : List (K × X)) (k : K) (x : X) (o : Ordering) → cmp k e.0 ≡ o →
      lookup (is_at (cmp k)) (insert_entry cmp es k x) ≡ Some x →
      lookup (is_at (cmp k)) (match_ordering o ((k, x) ∷ e ∷ es) ((e.0, x) ∷ es) (e ∷ insert_entry cmp es k x)) ≡ Some x
  put_here_by e es k x Less q h = rw (here k)
  put_here_by e es k x Equal q h = rw q
  put_here_by e es k x Greater q h = rw q h

  pub put_here : (es : List (K × X)) (k : K) (x : X) → lookup (is_at (cmp k)) (insert_entry cmp es k x) ≡ Some x
  put_here [] k x = rw (here k)
  put_here (e ∷ es) k x = put_here_by e es k x (cmp k e.0) refl (put_here es k x)

  put_apart_by : (e : K × X) (es : List (K × X)) (k : K) (x : X) (j : K) → is_eq (cmp j k) ≡ false → (o : Ordering) → cmp k e.0 ≡ o →
      lookup (is_at (cmp j)) (insert_entry cmp es k x) ≡ lookup (is_at (cmp j)) es →
      lookup (is_at (cmp j)) (match_ordering o ((k, x) ∷ e ∷ es) ((e.0, x) ∷ es) (e ∷ insert_entry cmp es k x)) ≡ lookup (is_at (cmp j)) (e ∷ es)
  put_apart_by e es k x j f Less q h = rw f
  put_apart_by e es k x j f Equal q h =
      let g : is_eq (cmp j e.0) ≡ false = subst (λ z. is_eq (cmp j z) ≡ false) (same k e.0 (ap is_eq q)) f in rw g
  put_apart_by e es k x j f Greater q h = ap (cond (is_eq (cmp j e.0)) (Some e.1)) h

  pub put_apart : (es : List (K × X)) (k : K) (x : X) (j : K) → is_eq (cmp j k) ≡ false → lookup (is_at (cmp j)) (insert_entry cmp es k x) ≡ lookup (is_at (cmp j)) es
  put_apart [] k x j f = rw f
  put_apart (e ∷ es) k x j f = put_apart_by e es k x j f (cmp k e.0) refl (put_apart es k x j f)

  -- what is found is an entry
  pub found-In : (es : List (K × X)) (k : K) (x : X) → lookup (is_at (cmp k)) es ≡ Some x → In (k, x) es
  found-In [] k x h = absurd (none-some x h)
  found-In (e ∷ es) k x h =
      elim (cases_Bool (is_eq (cmp k e.0))) [
        | inl t ↦ inl (same_pair e.0 k e.1 x (sym (same k e.0 t)) (same_Some e.1 x (rw t at h)))
        | inr f ↦ inr (found-In es k x (rw f at h))
      ]

  put_In_by : (e : K × X) (es : List (K × X)) (k : K) (x : X) (y : K × X) (o : Ordering) → cmp k e.0 ≡ o →
      (In y (insert_entry cmp es k x) → ((k, x) ≡ y) ⊎ In y es) →
      In y (match_ordering o ((k, x) ∷ e ∷ es) ((e.0, x) ∷ es) (e ∷ insert_entry cmp es k x)) → ((k, x) ≡ y) ⊎ In y (e ∷ es)
  put_In_by e es k x y Less q h i = i
  put_In_by e es k x y Equal q h (inl p) = inl (same_pair k e.0 x x (same k e.0 (ap is_eq q)) refl ∙ p)
  put_In_by e es k x y Equal q h (inr i) = inr (inr i)
  put_In_by e es k x y Greater q h (inl p) = inr (inl p)
  put_In_by e es k x y Greater q h (inr i) = ⊎_elim inl (λ j. inr (inr j)) (h i)

  -- an entry after that is the new one or was there
  pub put_In : (es : List (K × X)) (k : K) (x : X) (y : K × X) → In y (insert_entry cmp es k x) → ((k, x) ≡ y) ⊎ In y es
  put_In [] k x y (inl p) = inl p
  put_In [] k x y (inr i) = inr i
  put_In (e ∷ es) k x y i = put_In_by e es k x y (cmp k e.0) refl (put_In es k x y) i

-- ---- numbers and names

pub number_here : (k : ℕ) → is_eq (nat_cmp k k) ≡ true
number_here k = grind arith

pub number_same : (j k : ℕ) → is_eq (nat_cmp j k) ≡ true → j ≡ k
number_same j k h = grind arith

pub at_put_number : {X : Type 0} (tree : List (ℕ × X)) (k : ℕ) (x : X) → at_number (put_number tree k x) k ≡ Some x
at_put_number = put_here nat_cmp number_here number_same

pub at_put_number_apart : {X : Type 0} (tree : List (ℕ × X)) (k : ℕ) (x : X) (j : ℕ) → j ≢ k → at_number (put_number tree k x) j ≡ at_number tree j
at_put_number_apart tree k x j apart =
    put_apart nat_cmp number_here number_same tree k x j (false_from_ne_true (is_eq (nat_cmp j k)) (λ t. apart (number_same j k t)))

pub name_here : (k : List ℕ) → is_eq (name_cmp k k) ≡ true
name_here k = is_eq-slice_cmp k k ∙ (bytes_eq-Decides k k).1 refl

pub name_same : (j k : List ℕ) → is_eq (name_cmp j k) ≡ true → j ≡ k
name_same j k h = (bytes_eq-Decides j k).0 (sym (is_eq-slice_cmp j k) ∙ h)

pub at_put_name : {X : Type 0} (names : List (List ℕ × X)) (k : List ℕ) (x : X) → at_name (put_name names k x) k ≡ Some x
at_put_name = put_here name_cmp name_here name_same

-- what stands at a name after another was put: the new one, or what stood there
pub at_put_name_cases : {X : Type 0} (names : List (List ℕ × X)) (k : List ℕ) (x : X) (j : List ℕ) (y : X) →
    at_name (put_name names k x) j ≡ Some y → ((k ≡ j) × (x ≡ y)) ⊎ (at_name names j ≡ Some y)
at_put_name_cases names k x j y h =
    elim (cases_Bool (is_eq (name_cmp j k))) [
      | inl t ↦
          let e : k ≡ j = sym (name_same j k t) in
          inl (e, same_Some x y (sym (at_put_name names k x) ∙ (ap (λ n. at_name (put_name names k x) n) e ∙ h)))
      | inr f ↦ inr (sym (put_apart name_cmp name_here name_same names k x j f) ∙ h)
    ]

-- what stood at a name stays, where the new name was free
pub at_put_name_kept : {X : Type 0} (names : List (List ℕ × X)) (k : List ℕ) (x : X) (j : List ℕ) (y : X) →
    is_some (at_name names k) ≡ false → at_name names j ≡ Some y → at_name (put_name names k x) j ≡ Some y
at_put_name_kept names k x j y free h =
    elim (cases_Bool (is_eq (name_cmp j k))) [
      | inl t ↦
          absurd (true≢false (sym (ap is_some (subst (λ n. at_name names n ≡ Some y) (name_same j k t) h)) ∙ free))
      | inr f ↦ put_apart name_cmp name_here name_same names k x j f ∙ h
    ]

pub at_name-In : {X : Type 0} (names : List (List ℕ × X)) (k : List ℕ) (x : X) → at_name names k ≡ Some x → In (k, x) names
at_name-In = found-In name_cmp name_here name_same

pub In-put_name : {X : Type 0} (names : List (List ℕ × X)) (k : List ℕ) (x : X) (y : List ℕ × X) → In y (put_name names k x) → ((k, x) ≡ y) ⊎ In y names
In-put_name = put_In name_cmp name_here name_same
