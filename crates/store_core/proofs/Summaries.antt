-- What is told of a store's session is what its report has.
use Rattle.std.specs.Prelude.{◌≡◌, ℕ, List, map, Result, Ok, Err, IfOk}
use Rattle.std.proofs.Common.{sym, ap, subst, ◌∙◌}
use Rattle.mount_make.specs.Images.{tree_after}
use Rattle.host_answers.specs.declared.entry.Entry.{Entry}
use Rattle.session_grammar.specs.declared.session_script.SessionScript.{SessionScript}
use Rattle.session_core.specs.Core.{core, entry_in}
use Rattle.session_core.specs.Headline.{Headline}
use Rattle.session_core.specs.Report.{IsCoreReport}
use Rattle.session_core.specs.declared.report.SessionReport.{SessionReport}
use Rattle.wal_store.specs.declared.log.LogContents.{LogContents}
use Rattle.wal_store.specs.Log.{held_in}
use Rattle.store_grammar.specs.declared.script.StoreScript.{StoreScript}
use Rattle.store_grammar.specs.Made.{volume_script}
use Rattle.store_core.specs.Runs.{ArePairs, IsHeldAfter, IsHeldOn}
use Rattle.store_core.specs.Stores.{acknowledged_from, acknowledged_in}
use Rattle.store_core.proofs.HeldPairs.{pairs-held}

-- the puts are counted in what the host noted of its calls
pub counted : (s : SessionScript) (r : SessionReport) (history : List Entry) → IsCoreReport s r → r.host.host.history ≡ map (entry_in r.host.programs) history
    → acknowledged_from 0 0 (map (entry_in s.programs) history) ≡ acknowledged_in (core s)
counted s r history is noted =
    ap (acknowledged_from 0 0) (ap (λ ps. map (entry_in ps) history) (sym is.report.programs) ∙ sym noted ∙ ap (λ h. h.history) is.report.host)

-- the log is that of the tree which the blocks were read of
pub held-pairs : {E : Type 0} (r : Result LogContents E) (blocks : List (List ℕ)) → IfOk r (λ h. h ≡ held_in blocks) → IfOk r (λ h. ArePairs h.pairs)
held-pairs (Ok h) blocks is = subst (λ (x : LogContents). ArePairs x.pairs) (sym is) (pairs-held blocks)
held-pairs (Err e) blocks is = tt

-- the volume is that of what the power cut left
pub held-after : (s : SessionScript) (r : SessionReport) (room : ℕ) (h : LogContents) → IsCoreReport s r → IsHeldOn room r.volume h → IsHeldAfter room r h
held-after s r room h is on = record { tree = on.tree; recovered = ap tree_after is.report.volume ∙ on.stands; held = on.held }

-- ---- the script that ran is the store's volume script

module _ (x : StoreScript) (s : SessionScript) (r : SessionReport) (same : s ≡ volume_script x) where
  pub report-of : IsCoreReport s r → IsCoreReport (volume_script x) r
  report-of is = subst (λ (t : SessionScript). IsCoreReport t r) same is

  pub headline-of : Headline s r → Headline (volume_script x) r
  headline-of is = subst (λ (t : SessionScript). Headline t r) same is

pub acknowledged-of : (x : StoreScript) (s : SessionScript) → s ≡ volume_script x → acknowledged_in (core s) ≡ acknowledged_in (core (volume_script x))
acknowledged-of x s same = ap (λ (t : SessionScript). acknowledged_in (core t)) same
