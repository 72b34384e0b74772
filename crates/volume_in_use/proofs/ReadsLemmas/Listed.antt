-- What a file's list says of its blocks.
use Rattle.std.proofs.Common.{◌≡◌, ℕ, ◌<◌, ◌≤◌, List, [], ◌∷◌, length, map, replicate, Option, Some, None, Less, refl, sym, ap, subst, ◌∙◌, inl, inr, arith}
use Rattle.std.specs.Prelude.{◌≢◌}
use Rattle.std.specs.List.{AllByRecursion, slice_get}
use Rattle.std.specs.Ordering.{nat_cmp, MatchOrdering}
use Rattle.std.specs.Cmp.{ranks}
use Rattle.std.proofs.lemmas.List.{get_or_past}
use Rattle.std.proofs.lemmas.Map.Keys.{sorted_head, sorted_tail}
use Rattle.blk_base.specs.Block.{filled}
use Rattle.blk_base.specs.Members.{In, IsAscending}
use Rattle.blk_base.specs.laws.Members.{slice_get-In}
use Rattle.number_sets.specs.laws.Keyed.{KeyStandsAt, KeyBelongsAt}
use Rattle.tree_model.specs.Maps.{at_number}
use Rattle.tree_model.specs.laws.MapOrder.{at_put_cases}
use Rattle.volume_ops.specs.declared.found.Mapped.{Mapped}
use Rattle.volume_ops.specs.Volume.{disk_of, bodies_of}
use Rattle.volume_model.specs.Trees.{in_order}
use Rattle.volume_model.specs.Volume.{IsRising}
use Rattle.volume_in_use.specs.reads.code.Pieces.{zone_body}

abbrev pub index_of : Mapped → ℕ
index_of m = m.index

-- ---- the order

less_than : (a b : ℕ) → nat_cmp a b ≡ Less → a < b
less_than a b e = subst (λ o. MatchOrdering o (a < b) (a ≡ b) (b < a)) e (ranks a b)

above : (low : ℕ) (zones : List Mapped) → AllByRecursion (λ y. nat_cmp low y ≡ Less) (map index_of zones) → (m : Mapped) → In m zones → low < m.index
above low [] h m i = absurd i
above low (x ∷ xs) h m (inl e) = subst (λ (m : Mapped). low < m.index) e (less_than low x.index h.0)
above low (x ∷ xs) h m (inr i) = above low xs h.1 m i

pub ascending : (zones : List Mapped) → IsRising zones → IsAscending index_of zones
ascending [] r = tt
ascending (x ∷ xs) r = (above x.index xs (sorted_head nat_cmp x.index (map index_of xs) r), ascending xs (sorted_tail nat_cmp x.index (map index_of xs) r))

-- ---- the blocks

module _ (blocks : List (List ℕ)) where
  abbrev Bodies : List Mapped → List (ℕ × List ℕ)
  Bodies zones = in_order (bodies_of blocks zones)

  body_here : (zones : List Mapped) → IsAscending index_of zones → (m : Mapped) → In m zones → at_number (Bodies zones) m.index ≡ Some (disk_of blocks m.zone)
  body_here [] a m i = absurd i
  body_here (x ∷ xs) a m (inl e) =
      at_put_cases (λ o. o ≡ Some (disk_of blocks m.zone)) (Bodies xs) x.index (disk_of blocks x.zone) m.index
      (λ same. ap (λ (m : Mapped). Some (disk_of blocks m.zone)) e) (λ apart. absurd (apart (sym (ap index_of e))))
  body_here (x ∷ xs) a m (inr i) =
      at_put_cases (λ o. o ≡ Some (disk_of blocks m.zone)) (Bodies xs) x.index (disk_of blocks x.zone) m.index
      (λ same. let less = a.0 m i in absurd (omega arith)) (λ apart. body_here xs a.1 m i)

  no_body : (zones : List Mapped) (k : ℕ) → ((m : Mapped) → In m zones → m.index ≢ k) → at_number (Bodies zones) k ≡ None
  no_body [] k none = refl
  no_body (x ∷ xs) k none =
      at_put_cases (λ o. o ≡ None) (Bodies xs) x.index (disk_of blocks x.zone) k
      (λ same. absurd (none x (inl refl) (sym same))) (λ apart. no_body xs k (λ m i. none m (inr i)))

  pub stands_there : (zones : List Mapped) → IsAscending index_of zones → (k at : ℕ) (m : Mapped) → KeyStandsAt index_of zones k at → slice_get zones at ≡ Some m →
      Some (disk_of blocks m.zone) ≡ at_number (Bodies zones) k
  stands_there zones a k at m h e =
      let same : h.here ≡ m = same_some h.here m (sym h.read ∙ e) in
      sym (subst (λ k. at_number (Bodies zones) k ≡ Some (disk_of blocks m.zone)) (ap index_of (sym same) ∙ h.same) (body_here zones a m (slice_get-In zones at m e)))
    where
      same_some : (x y : Mapped) → Some x ≡ Some y → x ≡ y
      same_some x y e = ap (λ (o : Option Mapped). elim o as (λ _. Mapped) [ None ↦ x | Some z ↦ z ]) e

  pub stands_nowhere : (zones : List Mapped) (k at : ℕ) → KeyBelongsAt index_of zones k at → None ≡ at_number (Bodies zones) k
  stands_nowhere zones k at h = sym (no_body zones k h.none)

-- behind the last block stand zeros
pub zeros_behind : (blocks : List (List ℕ)) (zone : Option ℕ) (at : ℕ) → zone ≡ Some at → length blocks ≤ at → zone_body blocks zone ≡ replicate 1024 0
unfolding filled
zeros_behind blocks zone at is past = ap (zone_body blocks) is ∙ get_or_past blocks at (replicate 1024 0) past
