-- Holds that end with a flush.
use Rattle.std.proofs.Common.{◌≡◌, ℕ, Bool, ap}
use mathlib.Core.Path.{fun_ext}
use Rattle.flush_actor.specs.conflicts.Conflicts.{Conflicts, unhold_by}

pub unhold_same : (p q : ℕ → Bool) (c : Conflicts) → ((k : ℕ) → p k ≡ q k) → unhold_by p c ≡ unhold_by q c
unhold_same p q c h = ap (λ f. unhold_by f c) (fun_ext h)
