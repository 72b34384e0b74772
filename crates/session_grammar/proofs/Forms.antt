-- What the words behind the sizes choose, and the words that choose it.
use Rattle.std.proofs.Common.{◌≡◌, ℕ, Bool, true, false, ◌&&◌, List, [], ◌∷◌, ◌++◌, codes, Option, Some, None, refl, ap, ap₂, ◌∙◌, subst, if◌then◌else◌}
use Rattle.std.specs.Str.{bytes_eq}
use Rattle.std.proofs.lemmas.Option.{same_Some}
use Rattle.std.proofs.lemmas.Slice.Eq.{bytes_eq-Decides}
use Rattle.minix_layout.specs.Widths.{IsWidth, of_14, of_30}
use Rattle.minix_layout.specs.declared.limits.TheConstants.{DEFAULT_WIDTH}
use Rattle.session_grammar.specs.declared.reading.VolumeForm.{VolumeForm}
use Rattle.session_grammar.specs.Grammar.{wide_told, form_with, form_told}
use Rattle.session_grammar.specs.laws.Speller.{names_words, tags_words}

abbrev pub form_of : ℕ → Bool → VolumeForm
form_of width wide = record { width = width; wide = wide }

-- ---- the width is one that there is

width_with : (width : ℕ) (o : Option Bool) (f : VolumeForm) → IsWidth width → form_with width o ≡ Some f → IsWidth f.width
width_with width None f is h = cc
width_with width (Some wide) f is h = subst IsWidth (ap (λ (x : VolumeForm). x.width) (same_Some (form_of width wide) f h)) is

width_of_two : (b : Bool) (first second : Option Bool) (f : VolumeForm) → (if b then form_with 30 first else form_with DEFAULT_WIDTH second) ≡ Some f → IsWidth f.width
width_of_two true first second f h = width_with 30 first f of_30 h
width_of_two false first second f h = width_with DEFAULT_WIDTH second f of_14 h

pub IsWidth-told : (ws : List (List ℕ)) (f : VolumeForm) → form_told ws ≡ Some f → IsWidth f.width
IsWidth-told [] f h = width_with DEFAULT_WIDTH (wide_told []) f of_14 h
IsWidth-told (n ∷ []) f h = width_with DEFAULT_WIDTH (wide_told (n ∷ [])) f of_14 h
IsWidth-told (n ∷ w ∷ ws) f h = width_of_two (bytes_eq n (codes "names") && bytes_eq w (codes "30")) (wide_told ws) (wide_told (n ∷ w ∷ ws)) f h

-- ---- the words are those that the speller writes

abbrev pub form_words : VolumeForm → List (List ℕ)
form_words f = names_words f.width ++ tags_words f.wide

two_tags : (t n : List ℕ) (wide a b : Bool) → bytes_eq t (codes "tags") ≡ a → bytes_eq n (codes "64") ≡ b → (if a && b then Some true else None) ≡ Some wide → t ∷ n ∷ [] ≡ tags_words wide
two_tags t n true true true tags bits h = ap₂ (λ (x y : List ℕ). x ∷ y ∷ []) ((bytes_eq-Decides t (codes "tags")).0 tags) ((bytes_eq-Decides n (codes "64")).0 bits)
two_tags t n false true true tags bits h = cc
two_tags t n wide true false tags bits h = cc
two_tags t n wide false b tags bits h = cc

said_tags : (ws : List (List ℕ)) (wide : Bool) → wide_told ws ≡ Some wide → ws ≡ tags_words wide
said_tags [] true h = cc
said_tags [] false h = refl
said_tags (t ∷ []) wide h = cc
said_tags (t ∷ n ∷ []) wide h = two_tags t n wide (bytes_eq t (codes "tags")) (bytes_eq n (codes "64")) refl refl h
said_tags (t ∷ n ∷ w ∷ ws) wide h = cc

said_behind : (width : ℕ) (ws : List (List ℕ)) (o : Option Bool) (f : VolumeForm) → wide_told ws ≡ o → form_with width o ≡ Some f → names_words width ++ ws ≡ form_words f
said_behind width ws None f e h = cc
said_behind width ws (Some wide) f e h = ap (λ x. names_words width ++ x) (said_tags ws wide e) ∙ ap form_words (same_Some (form_of width wide) f h)

two_names : (n w : List ℕ) (ws : List (List ℕ)) (f : VolumeForm) (a b : Bool) → bytes_eq n (codes "names") ≡ a → bytes_eq w (codes "30") ≡ b
    → (if a && b then form_with 30 (wide_told ws) else form_with DEFAULT_WIDTH (wide_told (n ∷ w ∷ ws))) ≡ Some f → n ∷ w ∷ ws ≡ form_words f
two_names n w ws f true true names bytes h =
    ap₂ (λ (x y : List ℕ). x ∷ y ∷ ws) ((bytes_eq-Decides n (codes "names")).0 names) ((bytes_eq-Decides w (codes "30")).0 bytes)
    ∙ said_behind 30 ws (wide_told ws) f refl h
two_names n w ws f true false names bytes h = said_behind DEFAULT_WIDTH (n ∷ w ∷ ws) (wide_told (n ∷ w ∷ ws)) f refl h
two_names n w ws f false b names bytes h = said_behind DEFAULT_WIDTH (n ∷ w ∷ ws) (wide_told (n ∷ w ∷ ws)) f refl h

pub said_form : (ws : List (List ℕ)) (f : VolumeForm) → form_told ws ≡ Some f → ws ≡ form_words f
said_form [] f h = said_behind DEFAULT_WIDTH [] (wide_told []) f refl h
said_form (n ∷ []) f h = said_behind DEFAULT_WIDTH (n ∷ []) (wide_told (n ∷ [])) f refl h
said_form (n ∷ w ∷ ws) f h = two_names n w ws f (bytes_eq n (codes "names")) (bytes_eq w (codes "30")) refl refl h

-- ---- and what the speller writes is told

pub told_form : (width : ℕ) (wide : Bool) → IsWidth width → form_told (names_words width ++ tags_words wide) ≡ Some (form_of width wide)
told_form width true of_14 = refl
told_form width false of_14 = refl
told_form width true of_30 = refl
told_form width false of_30 = refl
