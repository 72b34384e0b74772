-- Why there is no room.
use Rattle.std.specs.Prelude.{◌≡◌, ℕ, ◌<◌, ◌⊎◌, ◌↔◌, ◌||◌, nat_lt, Bool, true, false, List, [], ◌∷◌, length, refl}
use Rattle.std.proofs.Common.{sym, ap, ◌∙◌, inl, inr}
use Rattle.std.proofs.lemmas.Bool.{lt-ltb, ltb-true, true≢false}
use Rattle.blk_base.specs.Members.{In}
use Rattle.minix_layout.specs.declared.division.Geometry.{Geometry}
use Rattle.tree_model.specs.declared.node.Directory.{Directory}
use Rattle.widening.specs.Directories.{zones_needed, all_beyond, has_too_many, has_no_room}

abbrev Cause : List (ℕ × Directory) → Type 0
Cause es = (e : ℕ × Directory) × In e es × (519 < zones_needed (length e.1.names))

later : (e : ℕ × Directory) (es : List (ℕ × Directory)) → Cause es → Cause (e ∷ es)
later e es x = (x.0, inr x.1, x.2)

first : (e : ℕ × Directory) (es : List (ℕ × Directory)) → (has_too_many es ≡ true → Cause es) → (many : Bool) → nat_lt 519 (zones_needed (length e.1.names)) ≡ many → (many || has_too_many es) ≡ true → Cause (e ∷ es)
first e es others true is h = (e, inl refl, ltb-true 519 (zones_needed (length e.1.names)) is)
first e es others false is h = later e es (others h)

some_cause : (es : List (ℕ × Directory)) → has_too_many es ≡ true → Cause es
some_cause [] h = absurd (true≢false (sym h))
some_cause (e ∷ es) h = first e es (some_cause es) (nat_lt 519 (zones_needed (length e.1.names))) refl h

or_true : (a : Bool) → (a || true) ≡ true
or_true true = refl
or_true false = refl

by_cause : (es : List (ℕ × Directory)) (e : ℕ × Directory) → In e es → 519 < zones_needed (length e.1.names) → has_too_many es ≡ true
by_cause [] e i many = absurd i
by_cause (f ∷ es) e (inl same) many = ap (λ (x : ℕ × Directory). nat_lt 519 (zones_needed (length x.1.names)) || has_too_many es) same ∙ ap (λ b. b || has_too_many es) (lt-ltb 519 (zones_needed (length e.1.names)) many)
by_cause (f ∷ es) e (inr i) many = ap (λ b. nat_lt 519 (zones_needed (length f.1.names)) || b) (by_cause es e i many) ∙ or_true (nat_lt 519 (zones_needed (length f.1.names)))

module _ (g : Geometry) (blocks : List (List ℕ)) (es : List (ℕ × Directory)) (free : List ℕ) where
  either : (many : Bool) → has_too_many es ≡ many → (many || nat_lt (length free) (all_beyond g blocks es)) ≡ true → Cause es ⊎ (length free < all_beyond g blocks es)
  either true is h = inl (some_cause es is)
  either false is h = inr (ltb-true (length free) (all_beyond g blocks es) h)

  pub causes : (has_no_room g blocks es free ≡ true) ↔ (Cause es ⊎ (length free < all_beyond g blocks es))
  causes = (
    λ h. either (has_too_many es) refl h,
    λ x. elim x [
      | inl y ↦ ap (λ b. b || nat_lt (length free) (all_beyond g blocks es)) (by_cause es y.0 y.1 y.2)
      | inr less ↦ ap (λ b. has_too_many es || b) (lt-ltb (length free) (all_beyond g blocks es) less) ∙ or_true (has_too_many es)
    ],
  )
