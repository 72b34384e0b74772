-- Laws of the blocks of the log by their headers.
use Rattle.std.specs.Prelude.{◌≡◌, ℕ, ◌==◌, Bool, true, false, List, Ok, refl}
use Rattle.std.proofs.Common.{ap, ◌∙◌}
use Rattle.std.proofs.lemmas.Bool.{eq-eqb}
use Rattle.journal_blocks.specs.declared.tag.Tag.{Tag}
use Rattle.journal_blocks.specs.declared.log_block.LogBlock.TheVariants.{Descriptor, Commit, Revoke}
use Rattle.journal_blocks.specs.Header.{magic_of, kind_of, sequence_of}
use Rattle.journal_blocks.specs.Blocks.{tags_of, is_count, count_of, revoked_of, log_block_of}
use Rattle.journal_blocks.specs.laws.Faults.{told_of}

module _ (wide : Bool) where
  pub is_descriptor : (b : List ℕ) (sequence : ℕ) (tags : List Tag) → magic_of b ≡ 0xC03B3998 → kind_of b ≡ 1 → sequence_of b ≡ sequence → tags_of wide b ≡ tags → log_block_of wide b ≡ Ok (Descriptor sequence tags)
  is_descriptor b sequence tags magic is number held =
      told_of wide b true true (kind_of b == 2) (kind_of b == 5) (is_count wide (count_of b)) (eq-eqb _ _ magic) (eq-eqb _ _ is) refl refl refl
      ∙ (ap (λ (n : ℕ). Ok (Descriptor n (tags_of wide b))) number ∙ ap (λ (ts : List Tag). Ok (Descriptor sequence ts)) held)

  pub is_commit : (b : List ℕ) (sequence : ℕ) → magic_of b ≡ 0xC03B3998 → kind_of b ≡ 2 → sequence_of b ≡ sequence → log_block_of wide b ≡ Ok (Commit sequence)
  is_commit b sequence magic is number =
      told_of wide b true false true (kind_of b == 5) (is_count wide (count_of b)) (eq-eqb _ _ magic) (ap (λ (k : ℕ). k == 1) is) (eq-eqb _ _ is) refl refl
      ∙ ap (λ (n : ℕ). Ok (Commit n)) number

  pub is_revoke : (b : List ℕ) (sequence : ℕ) (blocks : List ℕ) → magic_of b ≡ 0xC03B3998 → kind_of b ≡ 5 → sequence_of b ≡ sequence → is_count wide (count_of b) ≡ true → revoked_of wide b ≡ blocks → log_block_of wide b ≡ Ok (Revoke sequence blocks)
  is_revoke b sequence blocks magic is number count held =
      told_of wide b true false false true true (eq-eqb _ _ magic) (ap (λ (k : ℕ). k == 1) is) (ap (λ (k : ℕ). k == 2) is) (eq-eqb _ _ is) count
      ∙ (ap (λ (n : ℕ). Ok (Revoke n (revoked_of wide b))) number ∙ ap (λ (ns : List ℕ). Ok (Revoke sequence ns)) held)
