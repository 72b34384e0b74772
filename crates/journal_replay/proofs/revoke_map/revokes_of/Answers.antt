use Rattle.std.proofs.Common.{◌∙◌, ℕ, List, Option, Some, map, take, ap, sym, arith}
use Rattle.std.specs.Prelude.{if◌then◌else◌}
use Rattle.journal_replay.specs.Revokes.{is_revoked}
use Rattle.journal_replay.specs.Revokes.{last_revoke}
use Rattle.journal_replay.specs.code.Scans.{transaction_of}
use Rattle.journal_replay.specs.laws.Tables.{log_more}
use Rattle.journal_replay.proofs.revoke_map.revokes_of.Goals as goal

pub loop-at-preserved : goal.loop-at-preserved
loop-at-preserved c b =
    let log = c.args.log.now in
    let at = c.loop-at.at in
    let t = c.index-log-at.result in
    let before : Option ℕ = last_revoke 0 (map transaction_of (take at log)) b in
    c.in_ok-put_all.ensures b
    ∙ (ap (λ (o : Option ℕ). if is_revoked c.deref.result.now b then Some at else o) (c.loop-at.invariant b)
    ∙ (ap (λ (xs : List ℕ). if is_revoked xs b then Some at else before) c.deref.ensures.value
    ∙ sym (log_more log at t b (omega arith))))
