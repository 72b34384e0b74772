-- What a changing call makes of the owners of zones.
use Rattle.std.proofs.Common.{ap, ◌∙◌, inl, inr, arith}
use Rattle.std.specs.Prelude.{◌≡◌, ◌≢◌, ℕ, zero, suc, ◌<◌, Bool, true, false, List, [], ◌∷◌, length, set, Option, Some, None, is_none, slice_index_or, refl, if◌then◌else◌}
use Rattle.blk_base.specs.Members.{In}
use Rattle.page_cache.specs.Pages.{page_at}
use Rattle.page_cache.specs.declared.cached_page.CachedPage.{CachedPage}
use Rattle.host_machine.specs.Host.{taken_zones}
use Rattle.host_machine.specs.Model.{Model, FileBlock}
use Rattle.host_machine.specs.State.{Setup}

set_here : (xs : List ℕ) (i x d : ℕ) → i < length xs → slice_index_or (set xs i x) i d ≡ x
set_here [] i x d lt = absurd (omega arith)
set_here (y ∷ ys) zero x d lt = refl
set_here (y ∷ ys) (suc i) x d lt = set_here ys i x d (omega arith)

set_apart : (xs : List ℕ) (i j x d : ℕ) → i ≢ j → slice_index_or (set xs i x) j d ≡ slice_index_or xs j d
set_apart [] i j x d ne = refl
set_apart (y ∷ ys) zero zero x d ne = absurd (ne refl)
set_apart (y ∷ ys) zero (suc j) x d ne = refl
set_apart (y ∷ ys) (suc i) zero x d ne = refl
set_apart (y ∷ ys) (suc i) (suc j) x d ne = set_apart ys i j x d (λ e. ne (ap suc e))

set_long : (xs : List ℕ) (i x : ℕ) → length (set xs i x) ≡ length xs
set_long [] i x = refl
set_long (y ∷ ys) zero x = refl
set_long (y ∷ ys) (suc i) x = ap suc (set_long ys i x)

-- an element that is set to what it is
set_again : (xs : List ℕ) (i j x d : ℕ) → j < length xs → slice_index_or xs j d ≡ x → slice_index_or (set xs i x) j d ≡ x
set_again [] i j x d lt e = absurd (omega arith)
set_again (y ∷ ys) zero zero x d lt e = refl
set_again (y ∷ ys) zero (suc j) x d lt e = e
set_again (y ∷ ys) (suc i) zero x d lt e = e
set_again (y ∷ ys) (suc i) (suc j) x d lt e = set_again ys i j x d (omega arith) e

-- a block that has no page yet
abbrev pub IsFresh : List CachedPage → FileBlock → Type 0
IsFresh pages w = page_at pages w.birth w.index ≡ None

module _ {T V C R : Type 0} (M : Model T V C R) (u : Setup) (k : ℕ) (pages : List CachedPage) where
  abbrev one : List ℕ → FileBlock → Bool → List ℕ
  one owners w fresh = if fresh then set owners w.block k else owners

  one_long : (owners : List ℕ) (w : FileBlock) (fresh : Bool) → length (one owners w fresh) ≡ length owners
  one_long owners w true = set_long owners w.block k
  one_long owners w false = refl

  pub taken_long : (owners : List ℕ) (ws : List FileBlock) → length (taken_zones M u k pages owners ws) ≡ length owners
  taken_long owners [] = refl
  taken_long owners (w ∷ ws) = taken_long (one owners w (is_none (page_at pages w.birth w.index))) ws ∙ one_long owners w (is_none (page_at pages w.birth w.index))

  -- no fresh block has this zone
  pub taken_apart : (owners : List ℕ) (ws : List FileBlock) (z : ℕ) → ((w : FileBlock) → In w ws → IsFresh pages w → w.block ≢ z)
      → slice_index_or (taken_zones M u k pages owners ws) z 0 ≡ slice_index_or owners z 0
  taken_apart owners [] z none = refl
  taken_apart owners (w ∷ ws) z none =
      taken_apart (one owners w (is_none (page_at pages w.birth w.index))) ws z (λ x i. none x (inr i))
      ∙ by (page_at pages w.birth w.index) refl
    where
      by : (p : Option CachedPage) → page_at pages w.birth w.index ≡ p → slice_index_or (one owners w (is_none p)) z 0 ≡ slice_index_or owners z 0
      by None e = set_apart owners w.block z k 0 (none w (inl refl) e)
      by (Some p) e = refl

  -- it has it already
  taken_again : (owners : List ℕ) (ws : List FileBlock) (z : ℕ) → z < length owners → slice_index_or owners z 0 ≡ k → slice_index_or (taken_zones M u k pages owners ws) z 0 ≡ k
  taken_again owners [] z lt e = e
  taken_again owners (w ∷ ws) z lt e =
      let fresh = is_none (page_at pages w.birth w.index) in
      let long = one_long owners w fresh in
      taken_again (one owners w fresh) ws z (omega arith) (by fresh)
    where
      by : (t : Bool) → slice_index_or (one owners w t) z 0 ≡ k
      by true = set_again owners w.block z k 0 lt e
      by false = e

  -- a fresh block has it
  pub taken_here : (owners : List ℕ) (ws : List FileBlock) (w : FileBlock) → In w ws → IsFresh pages w → w.block < length owners → slice_index_or (taken_zones M u k pages owners ws) w.block 0 ≡ k
  taken_here owners [] w i fresh lt = absurd i
  taken_here owners (x ∷ ws) w (inl e) fresh lt =
      let first : one owners x (is_none (page_at pages x.birth x.index)) ≡ set owners w.block k =
      ap (λ (y : FileBlock). one owners y (is_none (page_at pages y.birth y.index))) e ∙ ap (λ p. one owners w (is_none p)) fresh in
      let long = one_long owners x (is_none (page_at pages x.birth x.index)) in
      taken_again (one owners x (is_none (page_at pages x.birth x.index))) ws w.block (omega arith)
      (ap (λ os. slice_index_or os w.block 0) first ∙ set_here owners w.block k 0 lt)
  taken_here owners (x ∷ ws) w (inr i) fresh lt =
      let long = one_long owners x (is_none (page_at pages x.birth x.index)) in
      taken_here (one owners x (is_none (page_at pages x.birth x.index))) ws w i fresh (omega arith)
