-- Which features the journal of a sound superblock has, and what they say of its tags.
use Rattle.std.specs.Prelude.{◌≡◌, ℕ, ◌/◌, ◌%◌, ◌<◌, ◌≤◌, ◌==◌, ◌↔◌, true}
use Rattle.std.proofs.Common.{arith}
use Rattle.std.proofs.lemmas.Bool.{eqb-true, eq-eqb}
use Rattle.journal_blocks.specs.declared.super_block.JournalSuper.{JournalSuper}
use Rattle.journal_blocks.specs.Super.{unknown_bits, is_wide, IsSound}

two_bits : (bits : ℕ) → (unknown_bits bits == 0) ≡ true → bits < 4
two_bits bits known = let none = eqb-true (unknown_bits bits) 0 known in omega (arith, none)

-- a sound superblock has no feature but the two lowest, and wide tags by the second
pub sound_kind : (s : JournalSuper) → IsSound s → (s.incompat < 4) × ((is_wide s ≡ true) ↔ (2 ≤ s.incompat))
sound_kind s sound =
    let few = two_bits s.incompat sound.known in
    (few, (λ wide. let bit = eqb-true (s.incompat / 2 % 2) 1 wide in omega (arith, bit), λ high. eq-eqb (s.incompat / 2 % 2) 1 (omega (arith, few, high))))
