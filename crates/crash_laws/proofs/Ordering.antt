-- What order alone gives of a medium that is order-closed: nothing here knows what requests are for.
use Rattle.std.specs.Prelude.{◌≡◌, ℕ, ◌<◌, ◌≤◌, ◌⊎◌, List, length, Option, Some, None, slice_get, refl}
use Rattle.std.specs.Option.{unwrap_or}
use Rattle.std.proofs.Common.{sym, ap, subst, ◌∙◌, inl, inr, ⊎_elim, arith}
use Rattle.std.proofs.lemmas.Option.{none-some, same_Some, get_or_from_slice_get, unwrap_or-slice_get}
use Rattle.std.proofs.lemmas.Bool.{cases_lt}
use Rattle.blk_base.specs.laws.Members.{slice_get-in_range, slice_get-out, slice_get-length}
use Rattle.blk_base.specs.Block.{filled}
use Rattle.order_model.specs.declared.request.Request.{Request}
use Rattle.order_model.specs.OrderClosed.{IsPutOf, IsPutWith, IsFence, HasOrigin, IsKept, IsOrderClosed}
use Rattle.volume_ops.specs.Volume.{disk_of}
use Rattle.crash_laws.specs.Ordering.{Fenced, IsOrderedPut}

-- a put is of one block, with one body
pub same_block : (requests : List Request) (i a b : ℕ) → IsPutOf requests i a → IsPutOf requests i b → a ≡ b
same_block requests i a b h k = same_Some a b (sym h ∙ k)

pub same_body : (requests : List Request) (i : ℕ) (x y : List ℕ) → IsPutWith requests i x → IsPutWith requests i y → x ≡ y
same_body requests i x y h k = same_Some x y (sym h ∙ k)

-- a block has one origin
pub same_origin : (origins : List (Option ℕ)) (b o p : ℕ) → HasOrigin origins b o → HasOrigin origins b p → o ≡ p
same_origin origins b o p h k = same_Some o p (same_Some (Some o) (Some p) (sym h ∙ k))

slice_get-none : {X : Type 0} (xs : List X) (i : ℕ) → slice_get xs i ≡ None → length xs ≤ i
slice_get-none xs i e =
    ⊎_elim (λ lt. let x = slice_get-in_range xs i lt in absurd (none-some x.0 (sym e ∙ x.1))) (λ le. le) (cases_lt i (length xs))

same_on_disk : (xs ys : List (List ℕ)) (b : ℕ) → slice_get xs b ≡ slice_get ys b → disk_of xs b ≡ disk_of ys b
same_on_disk xs ys b e =
    sym (unwrap_or-slice_get xs b (filled 0)) ∙ ap (λ o. unwrap_or o (filled 0)) e ∙ unwrap_or-slice_get ys b (filled 0)

module _ {base : List (List ℕ)} {requests : List Request} {image : List (List ℕ)} {origins : List (Option ℕ)} (closed : IsOrderClosed base requests image origins) where
  -- What a barrier keeps apart from a kept put is kept.
  pub before_kept_is_kept : (i j : ℕ) → IsOrderedPut requests i → Fenced requests i j → IsKept requests origins j → IsKept requests origins i
  before_kept_is_kept i j firm fenced kept =
      closed.closed i j (inl (record { first = firm.put; ordered = firm.ordered; second = (kept.block, kept.put); fence = fenced })) kept

  -- A put that is a barrier itself is kept where any later put is.
  pub barrier_before_kept : (b j : ℕ) → IsOrderedPut requests b → IsFence requests b → b < j → IsKept requests origins j → IsKept requests origins b
  barrier_before_kept b j firm fence lt kept =
      before_kept_is_kept b j firm (b, omega arith, lt, fence) kept

  -- an origin is kept
  pub origin_is_kept : (b o : ℕ) → HasOrigin origins b o → IsKept requests origins o
  origin_is_kept b o h =
      record { block = b; put = closed.block_of b o h; origin = o; held = h; later = omega arith }

  -- the block of a kept put has that put or a later one as its origin
  pub origin_of_kept : (i b : ℕ) → IsKept requests origins i → IsPutOf requests i b → (o : ℕ) × HasOrigin origins b o × (i ≤ o)
  origin_of_kept i b kept put =
      (kept.origin, subst (λ c. HasOrigin origins c kept.origin) (same_block requests i kept.block b kept.put put) kept.held, kept.later)

  -- a block with an origin has its body
  pub body_of_origin : (b o : ℕ) → HasOrigin origins b o → IsPutWith requests o (disk_of image b)
  body_of_origin b o h =
      let lt = slice_get-length origins b (Some o) h in
      let x = slice_get-in_range image b (let bs = closed.blocks in let ps = closed.places in omega arith) in
      subst (IsPutWith requests o) (sym (get_or_from_slice_get image b x.0 (filled 0) x.1))
      (closed.body_of b o x.0 h x.1)

  -- each block has an origin, or the base's body
  pub origin_or_none : (b : ℕ) → ((o : ℕ) × HasOrigin origins b o) ⊎ (((o : ℕ) → HasOrigin origins b o → ⊥) × (disk_of image b ≡ disk_of base b))
  origin_or_none b = cases (slice_get origins b) refl
    where
      cases : (o : Option (Option ℕ)) → slice_get origins b ≡ o → ((p : ℕ) × HasOrigin origins b p) ⊎ (((p : ℕ) → HasOrigin origins b p → ⊥) × (disk_of image b ≡ disk_of base b))
      cases (Some (Some p)) e = inl (p, e)
      cases (Some None) e = inr (λ p held. let q : Some None ≡ Some (Some p) = sym e ∙ held in none-some p (same_Some None (Some p) q), same_on_disk image base b (closed.base_of b e))
      cases None e =
          let past = slice_get-none origins b e in
          let blocks = closed.blocks in
          let places = closed.places in
          inr (λ p held. none-some (Some p) (sym e ∙ held), same_on_disk image base b (slice_get-out image b (omega arith) ∙ sym (slice_get-out base b (omega arith))))

  pub origin_or_base : (b : ℕ) → ((o : ℕ) × HasOrigin origins b o) ⊎ (disk_of image b ≡ disk_of base b)
  origin_or_base b = cases (slice_get origins b) refl
    where
      cases : (o : Option (Option ℕ)) → slice_get origins b ≡ o → ((p : ℕ) × HasOrigin origins b p) ⊎ (disk_of image b ≡ disk_of base b)
      cases (Some (Some p)) e = inl (p, e)
      cases (Some None) e = inr (same_on_disk image base b (closed.base_of b e))
      cases None e =
          let past = slice_get-none origins b e in
          let blocks = closed.blocks in
          let places = closed.places in
          inr (same_on_disk image base b (slice_get-out image b (omega arith) ∙ sym (slice_get-out base b (omega arith))))
