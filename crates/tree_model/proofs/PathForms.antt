-- What is read of a text, piece by piece, and how the pieces are spelled.
use Rattle.std.proofs.Common.{◌≡◌, ◌≢◌, ℕ, ◌==◌, Bool, true, false, not, List, [], ◌∷◌, ◌++◌, codes, length, Option, Some, None, IsTrue, if◌then◌else◌, refl, sym, ap, ◌∙◌, inl, inr}
use Rattle.std.specs.List.{slice_split, onto_first, list_all}
use Rattle.std.proofs.lemmas.Bool.{cases_Bool, eqb-true, ne_eqb, and_parts, both_ways}
use Rattle.std.proofs.lemmas.List.{append-nil}
use Rattle.tree_model.specs.Paths.{is_name_byte, is_dot, is_path_name, names_of_pieces, path_of, slashed, spelled}

abbrev is_slash : ℕ → Bool
is_slash b = b == 47

-- there is a first piece
record First (pieces : List (List ℕ)) : Type 0 where
  name : List ℕ
  names : List (List ℕ)
  is : pieces ≡ name ∷ names

onto : (b : ℕ) (pieces : List (List ℕ)) → First pieces → First (onto_first b pieces)
onto b pieces f = record { name = b ∷ f.name; names = f.names; is = ap (onto_first b) f.is }

first_piece : (bytes : List ℕ) → First (slice_split is_slash bytes)
first_piece [] = record { name = []; names = []; is = refl }
first_piece (b ∷ bs) =
    elim (cases_Bool (is_slash b)) [
      | inl slash ↦ rw slash (record { name = []; names = slice_split is_slash bs; is = refl })
      | inr other ↦ rw other (onto b (slice_split is_slash bs) (first_piece bs))
    ]

-- what the pieces behind the first slash are read as
abbrev read_as : List (List ℕ) → Option (List (List ℕ))
read_as names = if list_all is_path_name names then Some names else None

behind_slash : (pieces : List (List ℕ)) → First pieces → names_of_pieces ([] ∷ pieces) ≡ read_as pieces
behind_slash pieces f =
    ap (λ (ps : List (List ℕ)). names_of_pieces ([] ∷ ps)) f.is ∙ ap read_as (sym f.is)

no_slash_first : (b : ℕ) (pieces : List (List ℕ)) → First pieces → names_of_pieces (onto_first b pieces) ≡ None
no_slash_first b pieces f = ap (λ (ps : List (List ℕ)). names_of_pieces (onto_first b ps)) f.is

path_empty : path_of [] ≡ None
unfolding path_of
path_empty = refl

path_other : (b : ℕ) (bs : List ℕ) → is_slash b ≡ false → path_of (b ∷ bs) ≡ None
unfolding path_of
path_other b bs other = rw other (no_slash_first b (slice_split is_slash bs) (first_piece bs))

path_root : path_of (codes "/") ≡ Some []
unfolding path_of
path_root = refl

path_more : (b : ℕ) (bs : List ℕ) → path_of (47 ∷ b ∷ bs) ≡ read_as (slice_split is_slash (b ∷ bs))
unfolding path_of
path_more b bs = behind_slash (slice_split is_slash (b ∷ bs)) (first_piece (b ∷ bs))

-- ---- each end of `read_path`

pub none_of_empty : (text : List ℕ) → text ≡ [] → None ≡ path_of text
none_of_empty text is = sym (ap path_of is ∙ path_empty)

pub none_of_other : (text : List ℕ) (b : ℕ) (rest : List ℕ) → text ≡ b ∷ rest → b ≢ 47 → None ≡ path_of text
none_of_other text b rest is other = sym (ap path_of is ∙ path_other b rest (ne_eqb b 47 other))

pub some_of_root : (text : List ℕ) (b : ℕ) (rest : List ℕ) → text ≡ b ∷ rest → b ≡ 47 → rest ≡ [] → Some [] ≡ path_of text
some_of_root text b rest is slash none =
    sym (ap path_of (is ∙ ap (λ (bs : List ℕ). b ∷ bs) none ∙ ap (λ (c : ℕ). c ∷ []) slash) ∙ path_root)

of_more : (text : List ℕ) (b : ℕ) (rest : List ℕ) → text ≡ b ∷ rest → b ≡ 47 → length rest ≢ 0 → path_of text ≡ read_as (slice_split is_slash rest)
of_more text b [] is slash more = absurd (more refl)
of_more text b (r ∷ rs) is slash more = ap path_of (is ∙ ap (λ (c : ℕ). c ∷ r ∷ rs) slash) ∙ path_more r rs

pub none_of_more : (text : List ℕ) (b : ℕ) (rest : List ℕ) (pieces : List (List ℕ)) → text ≡ b ∷ rest → b ≡ 47 → length rest ≢ 0 → pieces ≡ slice_split (λ c. c == 47) rest → list_all is_path_name pieces ≡ false → None ≡ path_of text
none_of_more text b rest pieces is slash more same fails =
    sym (of_more text b rest is slash more ∙ ap read_as (sym same) ∙ ap (λ (yes : Bool). if yes then Some pieces else None) fails)

pub some_of_more : (text : List ℕ) (b : ℕ) (rest : List ℕ) (pieces names : List (List ℕ)) → text ≡ b ∷ rest → b ≡ 47 → length rest ≢ 0 → pieces ≡ slice_split (λ c. c == 47) rest → list_all is_path_name pieces ≡ true → names ≡ pieces → Some names ≡ path_of text
some_of_more text b rest pieces names is slash more same all copied =
    ap Some copied ∙ sym (of_more text b rest is slash more ∙ ap read_as (sym same) ∙ ap (λ (yes : Bool). if yes then Some pieces else None) all)

-- ---- the law

-- the pieces, each behind a slash, are the bytes behind a slash
slashed_onto : (b : ℕ) (bs : List ℕ) (pieces : List (List ℕ)) → First pieces → slashed pieces ≡ 47 ∷ bs → slashed (onto_first b pieces) ≡ 47 ∷ b ∷ bs
slashed_onto b bs pieces f h =
    let spelt : 47 ∷ (f.name ++ slashed f.names) ≡ 47 ∷ bs = sym (ap slashed f.is) ∙ h in
    let tails : f.name ++ slashed f.names ≡ bs = cc in
    ap (λ (ps : List (List ℕ)). slashed (onto_first b ps)) f.is ∙ ap (λ (xs : List ℕ). 47 ∷ b ∷ xs) tails

slashed_split : (bytes : List ℕ) → slashed (slice_split is_slash bytes) ≡ 47 ∷ bytes
slashed_split [] = refl
slashed_split (b ∷ bs) =
    elim (cases_Bool (is_slash b)) [
      | inl slash ↦ rw slash (ap (λ (xs : List ℕ). 47 ∷ xs) (slashed_split bs) ∙ ap (λ (c : ℕ). 47 ∷ c ∷ bs) (sym (eqb-true b 47 slash)))
      | inr other ↦ rw other (slashed_onto b bs (slice_split is_slash bs) (first_piece bs) (slashed_split bs))
    ]

spelled_first : (pieces : List (List ℕ)) → First pieces → spelled pieces ≡ slashed pieces
spelled_first pieces f = ap spelled f.is ∙ ap slashed (sym f.is)

no_slash : (b : ℕ) → is_name_byte b ≡ true → is_slash b ≡ false
no_slash b is = ne_eqb b 47 (λ slash. both_ways (is_name_byte b) (ap is_name_byte slash) is)

split_end : (name : List ℕ) → list_all is_name_byte name ≡ true → slice_split is_slash name ≡ name ∷ []
split_end [] all = refl
split_end (b ∷ bs) all =
    let parts = and_parts (is_name_byte b) (list_all is_name_byte bs) all in
    rw (no_slash b parts.0) (ap (onto_first b) (split_end bs parts.1))

split_slash : (name rest : List ℕ) → list_all is_name_byte name ≡ true → slice_split is_slash (name ++ 47 ∷ rest) ≡ name ∷ slice_split is_slash rest
split_slash [] rest all = refl
split_slash (b ∷ bs) rest all =
    let parts = and_parts (is_name_byte b) (list_all is_name_byte bs) all in
    rw (no_slash b parts.0) (ap (onto_first b) (split_slash bs rest parts.1))

name_bytes : (name : List ℕ) → is_path_name name ≡ true → list_all is_name_byte name ≡ true
name_bytes name is =
    (and_parts (list_all is_name_byte name) (not (is_dot name)) (and_parts (not (length name == 0)) _ is).1).0

-- names that are spelled are the pieces
split_spelled : (name : List ℕ) (names : List (List ℕ)) → list_all is_path_name (name ∷ names) ≡ true → slice_split is_slash (name ++ slashed names) ≡ name ∷ names
split_spelled name [] all =
    let parts = and_parts (is_path_name name) true all in
    ap (slice_split is_slash) (append-nil name) ∙ split_end name (name_bytes name parts.0)
split_spelled name (next ∷ names) all =
    let parts = and_parts (is_path_name name) (list_all is_path_name (next ∷ names)) all in
    split_slash name (next ++ slashed names) (name_bytes name parts.0)
    ∙ ap (λ (ps : List (List ℕ)). name ∷ ps) (split_spelled next names parts.1)

some_names : (all : Bool) (pieces names : List (List ℕ)) → (if all then Some pieces else None) ≡ Some names → (pieces ≡ names) × (all ≡ true)
some_names true pieces names h = (cc, refl)
some_names false pieces names h = absurd (cc)

read_more : (b : ℕ) (bs : List ℕ) (names : List (List ℕ)) → path_of (47 ∷ b ∷ bs) ≡ Some names → (47 ∷ b ∷ bs ≡ spelled names) × IsTrue (list_all is_path_name names)
read_more b bs names h =
    let pieces = slice_split is_slash (b ∷ bs) in
    let found = some_names (list_all is_path_name pieces) pieces names (sym (path_more b bs) ∙ h) in (
      sym (slashed_split (b ∷ bs)) ∙ sym (spelled_first pieces (first_piece (b ∷ bs))) ∙ ap spelled found.0,
      sym (ap (list_all is_path_name) found.0) ∙ found.1,
    )

read_slash : (bs : List ℕ) (names : List (List ℕ)) → path_of (47 ∷ bs) ≡ Some names → (47 ∷ bs ≡ spelled names) × IsTrue (list_all is_path_name names)
read_slash [] names h =
    let none : [] ≡ names = cc (path_root, h) in
    (ap spelled none, sym (ap (list_all is_path_name) none))
read_slash (b ∷ bs) names h = read_more b bs names h

pub is_spelled : (text : List ℕ) (names : List (List ℕ)) → path_of text ≡ Some names → (text ≡ spelled names) × IsTrue (list_all is_path_name names)
is_spelled [] names h = absurd (cc (path_empty, h))
is_spelled (b ∷ bs) names h =
    elim (cases_Bool (is_slash b)) [
      | inl slash ↦
          let at : b ≡ 47 = eqb-true b 47 slash in
          let front = ap (λ (c : ℕ). c ∷ bs) at in
          let read = read_slash bs names (sym (ap path_of front) ∙ h) in
          (front ∙ read.0, read.1)
      | inr other ↦ absurd (cc (path_other b bs other, h))
    ]

-- a name that is read is not empty
read_front : (rest : List ℕ) (name : List ℕ) (names : List (List ℕ)) → is_path_name name ≡ true → slice_split is_slash (name ++ rest) ≡ names → list_all is_path_name names ≡ true → path_of (47 ∷ (name ++ rest)) ≡ Some names
read_front rest [] names is split all = absurd (cc)
read_front rest (b ∷ bs) names is split all =
    path_more b (bs ++ rest) ∙ ap read_as split ∙ ap (λ (yes : Bool). if yes then Some names else None) all

spelled_read : (names : List (List ℕ)) → list_all is_path_name names ≡ true → path_of (spelled names) ≡ Some names
spelled_read [] all = path_root
spelled_read (name ∷ names) all =
    read_front (slashed names) name (name ∷ names) (and_parts (is_path_name name) (list_all is_path_name names) all).0 (split_spelled name names all) all

pub is_read : (text : List ℕ) (names : List (List ℕ)) → (text ≡ spelled names) × IsTrue (list_all is_path_name names) → path_of text ≡ Some names
is_read text names h = ap path_of h.0 ∙ spelled_read names h.1
