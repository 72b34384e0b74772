use Rattle.std.proofs.Common.{◌≡◌, ℕ, take, Some}
use Rattle.std.specs.Prelude.{if◌then◌else◌}
use Rattle.journal_replay.specs.Revokes.{place_of}
use Rattle.journal_replay.specs.Revokes.{is_revoked}
use Rattle.journal_replay.proofs.revoke_map.put_all.Given as goal

abbrev pub invariant-loop-block : goal.invariant-loop-block
invariant-loop-block l = (b : ℕ) → place_of l.map.entries b ≡ (if is_revoked (take l.block-index l.blocks) b then Some l.at else place_of l.fn.map.entries b)
