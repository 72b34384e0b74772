use Rattle.std.proofs.Common.{◌≡◌, drop, map}
use Rattle.barrierfs_top.specs.Sessions.{begins_session}
use Rattle.barrierfs_top.proofs.session.begins_session.Given as goal

abbrev pub invariant-loop-line : goal.invariant-loop-line
invariant-loop-line l = begins_session (map (λ x. x.now) (drop l.line-index l.lines)) ≡ begins_session (map (λ x. x.now) l.lines)
