-- How tags are read one by one.
use Rattle.std.specs.Prelude.{◌≡◌, ℕ, suc, ◌+◌, ◌-◌, ◌<◌, Bool, true, false, List, [], ◌∷◌, ◌++◌, drop, refl}
use Rattle.std.proofs.Common.{sym, ap, ◌∙◌, arith, append_assoc}
use Rattle.journal_blocks.specs.declared.tag.Tag.{Tag}
use Rattle.journal_blocks.specs.Blocks.{has_flag, flags_in, tag_size, is_whole, tag_in, tags_in}

module _ (wide : Bool) where
  next_tag : (most : ℕ) (b : List ℕ) → is_whole wide b ≡ true → has_flag 8 (flags_in b) ≡ false → tags_in wide (suc most) b ≡ tag_in wide b ∷ tags_in wide most (drop (tag_size wide b) b)
  next_tag most b e l = rw (e, l) refl

  -- one more tag was read
  pub tags_next : (front all : List Tag) (i : ℕ) (b : List ℕ) → i < 126 → front ++ tags_in wide (126 - i) b ≡ all → is_whole wide b ≡ true → has_flag 8 (flags_in b) ≡ false
      → (front ++ tag_in wide b ∷ []) ++ tags_in wide (126 - (i + 1)) (drop (tag_size wide b) b) ≡ all
  tags_next front all i b lt told e l =
      let n : 126 - i ≡ suc (126 - (i + 1)) = omega arith in
      append_assoc front (tag_in wide b ∷ []) (tags_in wide (126 - (i + 1)) (drop (tag_size wide b) b))
      ∙ (ap (λ ts. front ++ ts) (sym (next_tag (126 - (i + 1)) b e l) ∙ ap (λ k. tags_in wide k b) (sym n)) ∙ told)
