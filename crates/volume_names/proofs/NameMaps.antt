-- What was put under a new key is taken away again.
use Rattle.std.specs.Prelude.{◌≡◌, ℕ, true, false, List, [], ◌∷◌, Option, None, refl}
use Rattle.std.proofs.Common.{Less, Equal, Greater, sym, ap, ◌∙◌, inl, inr}
use Rattle.std.proofs.lemmas.Bool.{cases_Bool, true≢false}
use Rattle.std.proofs.lemmas.Option.{none-some}
use Rattle.std.specs.Ordering.{nat_cmp, is_eq, match_ordering}
use Rattle.std.specs.declared.cmp.Ordering.{Ordering}
use Rattle.std.specs.BTreeMap.{insert_entry, is_at}
use Rattle.std.specs.Map.{lookup, remove_entry}
use Rattle.tree_model.specs.Maps.{at_number, at_name, put_number, put_name, name_cmp}
use Rattle.tree_model.specs.laws.MapsLaws.{number_here, name_here}
use Rattle.minix_layout.specs.declared.slot.Slot.{Slot}
use Rattle.volume_model.specs.declared.placed.DirectoryPart.{DirectoryPart}

module _ {K X : Type 0} (cmp : K → K → Ordering) (here : (k : K) → is_eq (cmp k k) ≡ true) where
  pub put_undone : (es : List (K × X)) (k : K) (x : X) → lookup (is_at (cmp k)) es ≡ None → remove_entry (is_at (cmp k)) (insert_entry cmp es k x) ≡ es
  put_undone [] k x h = rw (here k) refl
  put_undone (e ∷ es) k x h = elim (cases_Bool (is_eq (cmp k e.0))) [
    | inl t ↦ absurd (none-some e.1 (sym (rw t at h)))
    | inr f ↦ undone f (cmp k e.0) refl (put_undone es k x (rw f at h))
  ]
    where
      undone : is_eq (cmp k e.0) ≡ false → (o : Ordering) → cmp k e.0 ≡ o → remove_entry (is_at (cmp k)) (insert_entry cmp es k x) ≡ es →
          remove_entry (is_at (cmp k)) (match_ordering o ((k, x) ∷ e ∷ es) ((e.0, x) ∷ es) (e ∷ insert_entry cmp es k x)) ≡ e ∷ es
      undone f Less q more = rw (here k) refl
      undone f Equal q more = absurd (true≢false (sym (ap is_eq q) ∙ f))
      undone f Greater q more = rw f (ap (λ more. e ∷ more) more)

pub number_undone : {X : Type 0} (es : List (ℕ × X)) (k : ℕ) (x : X) → at_number es k ≡ None → remove_entry (is_at (nat_cmp k)) (put_number es k x) ≡ es
number_undone = put_undone nat_cmp number_here

pub name_undone : {X : Type 0} (es : List (List ℕ × X)) (k : List ℕ) (x : X) → at_name es k ≡ None → remove_entry (is_at (name_cmp k)) (put_name es k x) ≡ es
name_undone = put_undone name_cmp name_here

-- a directory whose name was taken out again
pub directory_back : (d : DirectoryPart) (slots : List (Option Slot)) (name one other : List ℕ) (birth : ℕ) (put back : List (List ℕ × ℕ)) → slots ≡ d.slots → one ≡ name → other ≡ name →
    put ≡ put_name d.names one birth → back ≡ remove_entry (is_at (name_cmp other)) put → at_name d.names name ≡ None → record { parent = d.parent; width = d.width; names = back; slots = slots } ≡ d
directory_back d slots name one other birth put back s e f p b free =
    let names : back ≡ d.names = b ∙ (ap (λ k. remove_entry (is_at (name_cmp k)) put) f ∙ (ap (remove_entry (is_at (name_cmp name))) (p ∙ ap (λ k. put_name d.names k birth) e) ∙ name_undone d.names name birth free)) in
    ap (λ (slots : List (Option Slot)). record { parent = d.parent; width = d.width; names = back; slots = slots }) s ∙ ap (λ (names : List (List ℕ × ℕ)). record d { names = names }) names
