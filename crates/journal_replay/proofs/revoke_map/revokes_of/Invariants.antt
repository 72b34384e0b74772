use Rattle.std.proofs.Common.{◌≡◌, ℕ, take, map}
use Rattle.journal_replay.specs.Revokes.{place_of}
use Rattle.journal_replay.specs.Revokes.{last_revoke}
use Rattle.journal_replay.specs.code.Scans.{transaction_of}
use Rattle.journal_replay.proofs.revoke_map.revokes_of.Given as goal

abbrev pub invariant-loop-at : goal.invariant-loop-at
invariant-loop-at l = (b : ℕ) → place_of l.map.entries b ≡ last_revoke 0 (map transaction_of (take l.at l.log)) b
