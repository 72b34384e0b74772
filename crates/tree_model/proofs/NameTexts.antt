-- The names of a text, one after the other.
use Rattle.std.proofs.Common.{◌≡◌, ◌≢◌, ◌≤◌, ℕ, ◌==◌, ◌+◌, ◌&&◌, nat_lt, nat_le, Bool, true, false, not, List, [], ◌∷◌, length, take, drop, Option, Some, None, Ok, Err, IsTrue, if◌then◌else◌, refl, sym, ap, ◌∙◌, inl, inr, arith, one-add}
use Rattle.std.specs.List.{slice_split, onto_first, position_or_len, position, list_all, list_any}
use Rattle.std.specs.Option.{unwrap_or}
use Rattle.std.proofs.lemmas.Bool.{and_parts, cases_Bool, cases_eq, ne_eqb, true≢false}
use Rattle.minix_layout.specs.Words.{is_name, name_from}
use Rattle.tree_model.specs.declared.call.Reply.TheVariants as replies
use Rattle.tree_model.specs.Calls.{names_in, if_some}
use Rattle.tree_model.specs.Paths.{is_dot, is_name_byte, is_path_name, path_of}
use Rattle.tree_model.proofs.PathForms.{some_of_root, some_of_more, none_of_more}
use Rattle.tree_model.specs.code.PathTexts.{names_below}

abbrev pub is_slash : ℕ → Bool
is_slash b = b == 47

-- ---- the first name

-- the first name ends at the first slash
pub first_piece : (bytes : List ℕ) → slice_split is_slash bytes ≡ take (position_or_len is_slash bytes) bytes ∷ names_below (drop (position_or_len is_slash bytes) bytes)
first_piece [] = refl
first_piece (b ∷ bytes) = elim (cases_Bool (is_slash b)) [
  | inl slash ↦ rw slash refl
  | inr other ↦ rw other (ap (onto_first b) (first_piece bytes) ∙ by (position_or_len is_slash bytes))
]
  where
    by : (k : ℕ) → onto_first b (take k bytes ∷ names_below (drop k bytes)) ≡ take (1 + k) (b ∷ bytes) ∷ names_below (drop (1 + k) (b ∷ bytes))
    by k = rw (one-add k) refl

within : (bytes : List ℕ) → position_or_len is_slash bytes ≤ length bytes
within [] = omega arith
within (b ∷ bytes) = elim (cases_Bool (is_slash b)) [
  | inl slash ↦ rw slash (omega arith)
  | inr other ↦ let low = within bytes in rw other (omega arith)
]

end_is : (bytes : List ℕ) → unwrap_or (position is_slash bytes) (length bytes) ≡ position_or_len is_slash bytes
end_is bytes = elim (cases_Bool (nat_lt (position_or_len is_slash bytes) (length bytes))) [
  | inl t ↦ rw t refl
  | inr f ↦ rw f (let low = within bytes in grind arith)
]

-- so it is told by the place of the first slash
pub ends_at : (bytes : List ℕ) (place : Option ℕ) (end : ℕ) → place ≡ position is_slash bytes → end ≡ unwrap_or place (length bytes) → end ≡ position_or_len is_slash bytes
ends_at bytes place end at is = is ∙ (ap (λ o. unwrap_or o (length bytes)) at ∙ end_is bytes)

pub named_first : (bytes : List ℕ) (end : ℕ) → end ≡ position_or_len is_slash bytes → slice_split is_slash bytes ≡ take end bytes ∷ names_below (drop end bytes)
named_first bytes end is = first_piece bytes ∙ ap (λ k. take k bytes ∷ names_below (drop k bytes)) (sym is)

pub ends_within : (bytes : List ℕ) (end : ℕ) → end ≡ position_or_len is_slash bytes → end ≤ length bytes
ends_within bytes end is = let low = within bytes in omega arith

-- ---- paths

pub bad_path : (path text : List ℕ) → text ≡ path → None ≡ path_of text → names_in path ≡ Err replies.BadPath
bad_path path text same none = ap names_in (sym same) ∙ ap (λ o. if_some o replies.BadPath) (sym none)

pub root_path : (path text : List ℕ) (b : ℕ) (rest : List ℕ) → text ≡ path → text ≡ b ∷ rest → b ≡ 47 → rest ≡ [] → names_in path ≡ Ok (names_below rest)
root_path path text b rest same is slash none =
    ap names_in (sym same) ∙ ap (λ o. if_some o replies.BadPath) (sym (some_of_root text b rest is slash none)) ∙ ap (λ xs. Ok (names_below xs)) (sym none)

pub no_path : (path text : List ℕ) (b : ℕ) (rest : List ℕ) → text ≡ path → text ≡ b ∷ rest → b ≡ 47 → length rest ≢ 0 → list_all is_path_name (names_below text) ≡ false → names_in path ≡ Err replies.BadPath
no_path path text b rest same is slash more fails =
    bad_path path text same (none_of_more text b rest (slice_split is_slash rest) is slash more refl (ap (λ xs. list_all is_path_name (names_below xs)) (sym is) ∙ fails))

pub named_path : (path text : List ℕ) (b : ℕ) (rest : List ℕ) → text ≡ path → text ≡ b ∷ rest → b ≡ 47 → length rest ≢ 0 → list_all is_path_name (names_below text) ≡ true → names_in path ≡ Ok (names_below text)
named_path path text b rest same is slash more all =
    ap names_in (sym same)
    ∙ ap (λ o. if_some o replies.BadPath) (sym (some_of_more text b rest (slice_split is_slash rest) (names_below text) is slash more refl (ap (λ xs. list_all is_path_name (names_below xs)) (sym is) ∙ all) (ap names_below is)))

-- ---- names of slots

pub no_byte : (x : ℕ) → is_name_byte x ≡ false → (name : List ℕ) → list_all is_name_byte name ≡ true → list_any (λ b. b == x) name ≡ false
no_byte x bad [] all = refl
no_byte x bad (b ∷ bs) all =
    let both = and_parts (is_name_byte b) (list_all is_name_byte bs) all in
    elim (cases_eq b x) [
      | inl e ↦ absurd (true≢false (sym both.0 ∙ (ap is_name_byte e ∙ bad)))
      | inr a ↦ rw (ne_eqb b x a) (no_byte x bad bs both.1)
    ]

pub not_true : (b : Bool) → not b ≡ true → b ≡ false
not_true true e = absurd (true≢false (sym e))
not_true false e = refl

all_three : (a b c : Bool) → a ≡ true → b ≡ true → c ≡ true → (a && (b && c)) ≡ true
all_three a b c e f h = rw (e, f, h) refl

filled_lt : (n : ℕ) → (n == 0) ≡ false → nat_lt 0 n ≡ true
filled_lt n f = grind arith

at_most : (a b : ℕ) → a ≤ b → nat_le a b ≡ true
at_most a b low = grind arith

-- a name of a path that is not too long can stand in a slot
pub name_fits : (name : List ℕ) → length name ≤ 30 → IsTrue (is_path_name name) → IsTrue (is_name name)
name_fits name short plain =
    let parts_of = and_parts (not (length name == 0)) (list_all is_name_byte name && not (is_dot name)) plain in
    let bytes = (and_parts (list_all is_name_byte name) (not (is_dot name)) parts_of.1).0 in
    let filled = not_true (length name == 0) parts_of.0 in
    all_three (nat_lt 0 (length name)) (nat_le (length name) 30) (not (list_any (λ b. b == 0) name)) (filled_lt (length name) filled) (at_most (length name) 30 short) (ap not (no_byte 0 refl name bytes))

-- a path's name that none takes is too long
pub no_name : (name : List ℕ) → length name ≤ 30 → IsTrue (is_path_name name) → None ≡ name_from name → ⊥
no_name name short plain none =
    let fits = name_fits name short plain in
    let some : name_from name ≡ Some name = ap (λ (is : Bool). if is then Some name else None) fits in
    absurd (cc (none, some))
