-- One place that had no zone gets one.
use Rattle.std.specs.Prelude.{◌≡◌, ◌≢◌, ℕ, ◌==◌, Bool, true, false, if◌then◌else◌, List, length, slice_index, refl, ◌⊎◌}
use Rattle.std.proofs.Common.{sym, ap, ◌∙◌, inl, inr}
use Rattle.std.proofs.lemmas.Bool.{cases_Bool, eqb-true, eq-eqb, true≢false}
use Rattle.minix_layout.specs.declared.inode.Inode.{Inode}
use Rattle.volume_ops.specs.Volume.{disk_of}
use Rattle.volume_model.specs.Volume.{Place, block, indirect, double, inner, zone_in}
use Rattle.volume_model.specs.Ways.{Home, slot, entry, nowhere, home, entry_of}
use Rattle.volume_model.specs.laws.Ways.{one_home, Rezoned, rezoned, own_slot, own_none, own_behind, own_entry}

-- two places are one
abbrev pub is_place : Place → Place → Bool
is_place (block i) (block j) = i == j
is_place indirect indirect = true
is_place double double = true
is_place (inner i) (inner j) = i == j
is_place x y = false

pub same_place : (x y : Place) → is_place x y ≡ true → x ≡ y
same_place (block i) (block j) t = ap block (eqb-true i j t)
same_place indirect indirect t = refl
same_place double double t = refl
same_place (inner i) (inner j) t = ap inner (eqb-true i j t)
same_place (block i) indirect t = absurd (true≢false (sym t))
same_place (block i) double t = absurd (true≢false (sym t))
same_place (block i) (inner j) t = absurd (true≢false (sym t))
same_place indirect (block j) t = absurd (true≢false (sym t))
same_place indirect double t = absurd (true≢false (sym t))
same_place indirect (inner j) t = absurd (true≢false (sym t))
same_place double (block j) t = absurd (true≢false (sym t))
same_place double indirect t = absurd (true≢false (sym t))
same_place double (inner j) t = absurd (true≢false (sym t))
same_place (inner i) (block j) t = absurd (true≢false (sym t))
same_place (inner i) indirect t = absurd (true≢false (sym t))
same_place (inner i) double t = absurd (true≢false (sym t))

pub is_itself : (x : Place) → is_place x x ≡ true
is_itself (block i) = eq-eqb i i refl
is_itself indirect = refl
is_itself double = refl
is_itself (inner i) = eq-eqb i i refl

pub cases_place : (x y : Place) → (x ≡ y) ⊎ (x ≢ y)
cases_place x y = elim (cases_Bool (is_place x y)) [ inl t ↦ inl (same_place x y t) | inr f ↦ inr (λ e. true≢false (sym (is_itself x) ∙ (ap (is_place x) e ∙ f))) ]

-- the zones afterwards
abbrev pub with_own : (Place → ℕ) → Place → ℕ → Place → ℕ
with_own own x z y = if is_place x y then z else own y

pub own_here : (own : Place → ℕ) (x : Place) (z : ℕ) → with_own own x z x ≡ z
own_here own x z = rw (is_itself x) refl

pub own_other : (own : Place → ℕ) (x y : Place) (z : ℕ) → x ≢ y → with_own own x z y ≡ own y
own_other own x y z apart = elim (cases_Bool (is_place x y)) [ inl t ↦ absurd (apart (same_place x y t)) | inr f ↦ rw f refl ]

-- What the writes have to do: the number stands at the home of x, all other numbers stay, and the zone of numbers that came has none.
pub record Sets (blocks after : List (List ℕ)) (i j : Inode) (x : Place) (z : ℕ) : Type 0 where
  pub slot_here : (k : ℕ) → home x ≡ slot k → slice_index j.zones k ≡ z
  pub slot_other : (k : ℕ) → home x ≢ slot k → slice_index j.zones k ≡ slice_index i.zones k
  pub entry_here : (h : Place) (k : ℕ) → home x ≡ entry h k → entry_of after (zone_in blocks i h) k ≡ z
  pub entry_other : (y h : Place) (k : ℕ) → home y ≡ entry h k → zone_in blocks i h ≢ 0 → home x ≢ entry h k → entry_of after (zone_in blocks i h) k ≡ entry_of blocks (zone_in blocks i h) k
  pub empty : (y : Place) (k : ℕ) → home y ≡ entry x k → entry_of after z k ≡ 0

-- what must hold before
pub record Hole (blocks : List (List ℕ)) (i : Inode) (x : Place) (z : ℕ) : Type 0 where
  pub hole : zone_in blocks i x ≡ 0
  pub some : z ≢ 0
  pub placed : home x ≢ nowhere
  pub there : (h : Place) (k : ℕ) → home x ≡ entry h k → zone_in blocks i h ≢ 0

module _ (blocks after : List (List ℕ)) (i j : Inode) (x : Place) (z : ℕ) (whole : (b : ℕ) → length (disk_of blocks b) ≡ 1024) (all : (b : ℕ) → length (disk_of after b) ≡ 1024)
    (may : Hole blocks i x z) (s : Sets blocks after i j x z) where
  abbrev own : Place → ℕ
  own y = zone_in blocks i y

  abbrev want : Place → ℕ
  want = with_own own x z

  apart_homes : (y : Place) (e : Home) → home y ≡ e → x ≢ y → home x ≢ e
  apart_homes y e at apart same = apart (one_home x y (same ∙ sym at) may.placed)

  gets : Rezoned want after j
  gets = record {
    slots = λ y k at. elim (cases_place x y) [
      | inl e ↦ s.slot_here k (ap home e ∙ at) ∙ sym (own_here own x z ∙ refl) ∙ ap want e
      | inr a ↦ s.slot_other k (apart_homes y (slot k) at a) ∙ (own_slot blocks i whole y k at ∙ sym (own_other own x y z a))
    ];
    entries = λ y h k at some. elim (cases_place x h) [
      | inl e ↦
          let mine : want h ≡ z = sym (ap want e) ∙ own_here own x z in
          let up : home y ≡ entry x k = at ∙ ap (λ h. entry h k) (sym e) in
          let apart : x ≢ y = λ same. may.there x k (ap home same ∙ up) may.hole in
          ap (λ zone. entry_of after zone k) mine ∙ (s.empty y k up ∙ (sym (own_behind blocks i whole y x k up may.hole) ∙ sym (own_other own x y z apart)))
      | inr b ↦
          let old : want h ≡ own h = own_other own x h z b in
          let was : own h ≢ 0 = λ none. some (old ∙ none) in
          ap (λ zone. entry_of after zone k) old ∙
          elim (cases_place x y) [
            | inl e ↦ s.entry_here h k (ap home e ∙ at) ∙ sym (own_here own x z) ∙ ap want e
            | inr a ↦ s.entry_other y h k at was (apart_homes y (entry h k) at a) ∙ (own_entry blocks i whole y h k at was ∙ sym (own_other own x y z a))
          ]
    ];
    behind = λ y h k at none. elim (cases_place x h) [
      | inl e ↦ absurd (may.some (sym (own_here own x z) ∙ (ap want e ∙ none)))
      | inr b ↦
          let gone : own h ≡ 0 = sym (own_other own x h z b) ∙ none in
          elim (cases_place x y) [
            | inl e ↦ absurd (may.there h k (ap home e ∙ at) gone)
            | inr a ↦ own_other own x y z a ∙ own_behind blocks i whole y h k at gone
          ]
    ];
    none = λ y at. elim (cases_place x y) [
      | inl e ↦ absurd (may.placed (ap home e ∙ at))
      | inr a ↦ own_other own x y z a ∙ own_none blocks i whole y at
    ];
  }

  -- the place has the zone, all others are as before
  pub gets_as : (y : Place) → zone_in after j y ≡ with_own own x z y
  gets_as = rezoned want after j all gets
