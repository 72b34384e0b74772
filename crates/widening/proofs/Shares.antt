-- Directories one after the other: what each finds free, and what it gets of it.
use Rattle.std.specs.Prelude.{◌≡◌, ◌≢◌, ℕ, ◌-◌, ◌≤◌, ◌⊎◌, ◌||◌, nat_lt, Bool, true, false, List, [], ◌∷◌, length, refl}
use Rattle.std.proofs.Common.{sym, ap, subst, ◌∙◌, inl, inr, ⊎_elim, arith}
use Rattle.std.proofs.lemmas.Bool.{ltb-false, true≢false}
use Rattle.std.proofs.lemmas.List.{length-drop}
use Rattle.blk_base.specs.Members.{In}
use Rattle.blk_base.specs.laws.Members.{In-append_cases, In-append_left, In-append_right, In-take}
use Rattle.minix_layout.specs.declared.division.Geometry.{Geometry}
use Rattle.tree_model.specs.declared.node.Directory.{Directory}
use Rattle.volume_ops.specs.VolumeFields.{inode_at}
use Rattle.volume_model.specs.Edits.{Edit}
use Rattle.widening.specs.Directories.{zones_needed, all_needed, kept_by, own_zones, edits_of, left_by, got_by, all_edits, zones_got, all_beyond, has_too_many, has_no_room}
use Rattle.widening.proofs.Needs.{same_need}
use Rattle.widening.proofs.ZoneLists.{AreApart, In-drop, apart_drop, taken_or_left}

module _ (g : Geometry) (blocks : List (List ℕ)) where
  -- this directory is one of them, and finds these zones free
  abbrev pub Meets : List (ℕ × Directory) → List ℕ → ℕ × Directory → List ℕ → Type 0
  Meets [] free f left = ⊥
  Meets (e ∷ es) free f left = ((e ≡ f) × (free ≡ left)) ⊎ Meets es (left_by g blocks e.0 e.1 free) f left

  pub met_of : (es : List (ℕ × Directory)) (free : List ℕ) (f : ℕ × Directory) → In f es → (left : List ℕ) × Meets es free f left
  met_of [] free f i = absurd i
  met_of (e ∷ es) free f (inl same) = (free, inl (same, refl))
  met_of (e ∷ es) free f (inr i) = let x = met_of es (left_by g blocks e.0 e.1 free) f i in (x.0, inr x.1)

  pub met_in : (es : List (ℕ × Directory)) (free : List ℕ) (f : ℕ × Directory) (left : List ℕ) → Meets es free f left → In f es
  met_in [] free f left m = absurd m
  met_in (e ∷ es) free f left (inl same) = inl same.0
  met_in (e ∷ es) free f left (inr m) = inr (met_in es (left_by g blocks e.0 e.1 free) f left m)

  -- ---- the writes of each

  pub edit_met : (es : List (ℕ × Directory)) (free : List ℕ) (x : Edit) → In x (all_edits g blocks es free) → (f : ℕ × Directory) × (left : List ℕ) × Meets es free f left × In x (edits_of g blocks f.0 f.1 left)
  edit_met [] free x i = absurd i
  edit_met (e ∷ es) free x i =
      ⊎_elim
      (λ here. (e, free, inl (refl, refl), here))
      (λ later. let y = edit_met es (left_by g blocks e.0 e.1 free) x later in (y.0, y.1, inr y.2, y.3))
      (In-append_cases (edits_of g blocks e.0 e.1 free) (all_edits g blocks es (left_by g blocks e.0 e.1 free)) x i)

  pub met_edit : (es : List (ℕ × Directory)) (free : List ℕ) (f : ℕ × Directory) (left : List ℕ) (x : Edit) → Meets es free f left → In x (edits_of g blocks f.0 f.1 left) → In x (all_edits g blocks es free)
  met_edit [] free f left x m i = absurd m
  met_edit (e ∷ es) free f left x (inl same) i =
      In-append_left (edits_of g blocks e.0 e.1 free) (all_edits g blocks es (left_by g blocks e.0 e.1 free)) x
      (subst (λ (p : ℕ × Directory). In x (edits_of g blocks p.0 p.1 free)) (sym same.0) (subst (λ l. In x (edits_of g blocks f.0 f.1 l)) (sym same.1) i))
  met_edit (e ∷ es) free f left x (inr m) i =
      In-append_right (edits_of g blocks e.0 e.1 free) (all_edits g blocks es (left_by g blocks e.0 e.1 free)) x (met_edit es (left_by g blocks e.0 e.1 free) f left x m i)

  -- ---- zones that they find free, and get

  pub left_in : (es : List (ℕ × Directory)) (free : List ℕ) (f : ℕ × Directory) (left : List ℕ) (z : ℕ) → Meets es free f left → In z left → In z free
  left_in [] free f left z m i = absurd m
  left_in (e ∷ es) free f left z (inl same) i = subst (λ l. In z l) (sym same.1) i
  left_in (e ∷ es) free f left z (inr m) i = In-drop _ free z (left_in es (left_by g blocks e.0 e.1 free) f left z m i)

  pub left_apart : (es : List (ℕ × Directory)) (free : List ℕ) (f : ℕ × Directory) (left : List ℕ) → Meets es free f left → AreApart free → AreApart left
  left_apart [] free f left m a = absurd m
  left_apart (e ∷ es) free f left (inl same) a = subst (λ l. AreApart l) same.1 a
  left_apart (e ∷ es) free f left (inr m) a = left_apart es (left_by g blocks e.0 e.1 free) f left m (apart_drop _ free a)

  got_in : (f : ℕ × Directory) (left : List ℕ) (z : ℕ) → In z (got_by g blocks f.0 f.1 left) → In z left
  got_in f left z i = In-take _ left z i

  -- what is got is one of the free zones
  pub got_free : (es : List (ℕ × Directory)) (free : List ℕ) (f : ℕ × Directory) (left : List ℕ) (z : ℕ) → Meets es free f left → In z (got_by g blocks f.0 f.1 left) → In z free
  got_free es free f left z m i = left_in es free f left z m (got_in f left z i)

  pub got_all : (es : List (ℕ × Directory)) (free : List ℕ) (f : ℕ × Directory) (left : List ℕ) (z : ℕ) → Meets es free f left → In z (got_by g blocks f.0 f.1 left) → In z (zones_got g blocks es free)
  got_all [] free f left z m i = absurd m
  got_all (e ∷ es) free f left z (inl same) i =
      In-append_left (got_by g blocks e.0 e.1 free) (zones_got g blocks es (left_by g blocks e.0 e.1 free)) z
      (subst (λ (p : ℕ × Directory). In z (got_by g blocks p.0 p.1 free)) (sym same.0) (subst (λ l. In z (got_by g blocks f.0 f.1 l)) (sym same.1) i))
  got_all (e ∷ es) free f left z (inr m) i =
      In-append_right (got_by g blocks e.0 e.1 free) (zones_got g blocks es (left_by g blocks e.0 e.1 free)) z (got_all es (left_by g blocks e.0 e.1 free) f left z m i)

  pub got_are_free : (es : List (ℕ × Directory)) (free : List ℕ) (z : ℕ) → In z (zones_got g blocks es free) → In z free
  got_are_free [] free z i = absurd i
  got_are_free (e ∷ es) free z i =
      ⊎_elim
      (λ here. got_in e free z here)
      (λ later. In-drop _ free z (got_are_free es (left_by g blocks e.0 e.1 free) z later))
      (In-append_cases (got_by g blocks e.0 e.1 free) (zones_got g blocks es (left_by g blocks e.0 e.1 free)) z i)

  apart_by : (e f h : ℕ × Directory) (es : List (ℕ × Directory)) (free l m : List ℕ) (z : ℕ) → AreApart free → (e ≡ f) × (free ≡ l) → Meets es (left_by g blocks e.0 e.1 free) h m →
      In z (got_by g blocks f.0 f.1 l) → In z (got_by g blocks h.0 h.1 m) → ⊥
  apart_by e f h es free l m z a same met i j =
      taken_or_left _ free z a
      (subst (λ (p : ℕ × Directory). In z (got_by g blocks p.0 p.1 free)) (sym same.0) (subst (λ l. In z (got_by g blocks f.0 f.1 l)) (sym same.1) i))
      (got_free es (left_by g blocks e.0 e.1 free) h m z met j)

  -- a zone is got by one of them
  pub got_once : (es : List (ℕ × Directory)) (free : List ℕ) (f h : ℕ × Directory) (l m : List ℕ) (z : ℕ) → AreApart free → Meets es free f l → Meets es free h m →
      In z (got_by g blocks f.0 f.1 l) → In z (got_by g blocks h.0 h.1 m) → (f ≡ h) × (l ≡ m)
  got_once [] free f h l m z a x y i j = absurd x
  got_once (e ∷ es) free f h l m z a (inl x) (inl y) i j = (sym x.0 ∙ y.0, sym x.1 ∙ y.1)
  got_once (e ∷ es) free f h l m z a (inl x) (inr y) i j = absurd (apart_by e f h es free l m z a x y i j)
  got_once (e ∷ es) free f h l m z a (inr x) (inl y) i j = absurd (apart_by e h f es free m l z a y x j i)
  got_once (e ∷ es) free f h l m z a (inr x) (inr y) i j = got_once es (left_by g blocks e.0 e.1 free) f h l m z (apart_drop _ free a) x y i j

  -- no two have one number
  abbrev pub AreOnce : List (ℕ × Directory) → Type 0
  AreOnce [] = Unit {0}
  AreOnce (e ∷ es) = ((f : ℕ × Directory) → In f es → e.0 ≢ f.0) × AreOnce es

  -- so a number says which it is
  pub met_once : (es : List (ℕ × Directory)) (free : List ℕ) (f h : ℕ × Directory) (l m : List ℕ) → AreOnce es → Meets es free f l → Meets es free h m → f.0 ≡ h.0 → (f ≡ h) × (l ≡ m)
  met_once [] free f h l m a x y same = absurd x
  met_once (e ∷ es) free f h l m a (inl x) (inl y) same = (sym x.0 ∙ y.0, sym x.1 ∙ y.1)
  met_once (e ∷ es) free f h l m a (inl x) (inr y) same =
      absurd (a.0 h (met_in es (left_by g blocks e.0 e.1 free) h m y) (ap (λ (p : ℕ × Directory). p.0) x.0 ∙ same))
  met_once (e ∷ es) free f h l m a (inr x) (inl y) same =
      absurd (a.0 f (met_in es (left_by g blocks e.0 e.1 free) f l x) (ap (λ (p : ℕ × Directory). p.0) y.0 ∙ sym same))
  met_once (e ∷ es) free f h l m a (inr x) (inr y) same = met_once es (left_by g blocks e.0 e.1 free) f h l m a.1 x y same

  -- ---- room

  -- each finds as many zones free as it needs beyond its own
  pub enough : (es : List (ℕ × Directory)) (free : List ℕ) (f : ℕ × Directory) (left : List ℕ) → all_beyond g blocks es ≤ length free → Meets es free f left →
      all_needed (zones_needed (length f.1.names)) (kept_by (inode_at g blocks f.0) (zones_needed (length f.1.names))) - length (own_zones blocks (inode_at g blocks f.0) (zones_needed (length f.1.names))) ≤ length left
  enough [] free f left room m = absurd m
  enough (e ∷ es) free f left room (inl same) =
      let need = same_need (inode_at g blocks e.0) blocks (zones_needed (length e.1.names)) in
      subst (λ (p : ℕ × Directory). all_needed (zones_needed (length p.1.names)) (kept_by (inode_at g blocks p.0) (zones_needed (length p.1.names))) - length (own_zones blocks (inode_at g blocks p.0) (zones_needed (length p.1.names))) ≤ length left) same.0
      (subst (λ l. all_needed (zones_needed (length e.1.names)) (kept_by (inode_at g blocks e.0) (zones_needed (length e.1.names))) - length (own_zones blocks (inode_at g blocks e.0) (zones_needed (length e.1.names))) ≤ length l) same.1 (omega (arith, room, need)))
  enough (e ∷ es) free f left room (inr m) =
      let need = same_need (inode_at g blocks e.0) blocks (zones_needed (length e.1.names)) in
      let rest = length-drop (all_needed (zones_needed (length e.1.names)) (kept_by (inode_at g blocks e.0) (zones_needed (length e.1.names))) - length (own_zones blocks (inode_at g blocks e.0) (zones_needed (length e.1.names)))) free in
      enough es (left_by g blocks e.0 e.1 free) f left (omega (arith, room, need, rest)) m

  pub not_many : (es : List (ℕ × Directory)) (f : ℕ × Directory) → has_too_many es ≡ false → In f es → zones_needed (length f.1.names) ≤ 519
  not_many [] f none i = absurd i
  not_many (e ∷ es) f none i = by (nat_lt 519 (zones_needed (length e.1.names))) refl none i (not_many es f)
    where
      by : (many : Bool) → nat_lt 519 (zones_needed (length e.1.names)) ≡ many → (many || has_too_many es) ≡ false → (e ≡ f) ⊎ In f es →
          (has_too_many es ≡ false → In f es → zones_needed (length f.1.names) ≤ 519) → zones_needed (length f.1.names) ≤ 519
      by true is none i others = absurd (true≢false none)
      by false is none (inl same) others = subst (λ (p : ℕ × Directory). zones_needed (length p.1.names) ≤ 519) same (ltb-false 519 (zones_needed (length e.1.names)) is)
      by false is none (inr i) others = others none i

  pub has_room : (es : List (ℕ × Directory)) (free : List ℕ) → has_no_room g blocks es free ≡ false → (has_too_many es ≡ false) × (all_beyond g blocks es ≤ length free)
  has_room es free none = by (has_too_many es) refl none
    where
      by : (many : Bool) → has_too_many es ≡ many → (many || nat_lt (length free) (all_beyond g blocks es)) ≡ false → (has_too_many es ≡ false) × (all_beyond g blocks es ≤ length free)
      by true is none = absurd (true≢false none)
      by false is none = (is, ltb-false (length free) (all_beyond g blocks es) none)
