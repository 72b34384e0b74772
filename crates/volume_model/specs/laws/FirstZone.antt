-- An inode that has a first zone at most, as that of a new node.
use Rattle.std.specs.Prelude.{◌≡◌, ◌≢◌, ℕ, zero, suc, ◌⊎◌, List, ◌∷◌, replicate, slice_index, slice_index_or, refl}
use Rattle.std.proofs.Common.{sym, ap, inl, inr, ⊎_elim, ◌∙◌, arith}
use Rattle.std.proofs.lemmas.Bool.{cases_eq}
use Rattle.minix_layout.specs.declared.inode.Inode.{Inode}
use Rattle.volume_model.specs.Volume.{Place, block, indirect, double, inner, zone_in, IsWhole}
use Rattle.volume_model.specs.Ways.{home, slot, entry, nowhere, place_at}
use Rattle.volume_model.specs.laws.Ways.{by_home, home_back, one_home, home-direct, own_slot, own_none, own_behind}

pub same_blank : {X : Type 0} (n b : ℕ) (x : X) → slice_index_or (replicate n x) b x ≡ x
same_blank zero b x = refl
same_blank (suc n) zero x = refl
same_blank (suc n) (suc b) x = same_blank n b x

pub no_number : (n k : ℕ) → slice_index (replicate n 0) k ≡ 0
no_number n k = same_blank n k 0

block_of : Place → ℕ
block_of (block index) = index
block_of other = 0

is_first : (x : Place) → (x ≡ block 0) ⊎ (x ≢ block 0)
unfolding block_of
is_first (block index) = ⊎_elim (λ e. inl (ap block e)) (λ differ. inr (λ e. differ (ap block_of e))) (cases_eq index 0)
is_first indirect = inr (λ e. cc)
is_first double = inr (λ e. cc)
is_first (inner k) = inr (λ e. cc)

pub first_index : (index : ℕ) → block index ≡ block 0 → index ≡ 0
unfolding block_of
first_index index e = ap block_of e

module _ (blocks : List (List ℕ)) (whole : IsWhole blocks) (i : Inode) (z : ℕ) (zones : i.zones ≡ z ∷ replicate 8 0) where
  pub own_first : zone_in blocks i (block 0) ≡ z
  own_first = sym (own_slot blocks i whole (block 0) 0 (home-direct 0 (omega arith))) ∙ ap (λ zs. slice_index zs 0) zones

  top_none : (x : Place) (k : ℕ) → home x ≡ slot k → x ≢ block 0 → zone_in blocks i x ≡ 0
  top_none x zero at differ = absurd (differ (one_home x (block 0) (at ∙ sym (home-direct 0 (omega arith))) (λ e. (let no : slot 0 ≡ nowhere = sym at ∙ e in cc))))
  top_none x (suc k) at differ = sym (own_slot blocks i whole x (suc k) at) ∙ (ap (λ zs. slice_index zs (suc k)) zones ∙ no_number 8 k)

  none_else : (x : Place) → x ≢ block 0 → zone_in blocks i x ≡ 0
  none_else =
      by_home (λ x. x ≢ block 0 → zone_in blocks i x ≡ 0) top_none
      (λ x at differ. own_none blocks i whole x at)
      (λ x h k at up differ.
      own_behind blocks i whole x h k at
      (up (λ e. differ (sym (home_back x (λ n. (let no : entry h k ≡ nowhere = sym at ∙ n in cc))) ∙ ap place_at (at ∙ ap (λ h. entry h k) e)))))

  pub first_of : (x : Place) → zone_in blocks i x ≢ 0 → x ≡ block 0
  first_of x some = ⊎_elim (λ e. e) (λ differ. absurd (some (none_else x differ))) (is_first x)

  pub first_zone : (x : Place) → zone_in blocks i x ≢ 0 → zone_in blocks i x ≡ z
  first_zone x some = ap (zone_in blocks i) (first_of x some) ∙ own_first
