-- The device and the scheduler that a script opens.
use Rattle.std.proofs.Common.{◌≡◌, ◌++◌, ◌≤◌, [], length, refl, sym, ap, ◌∙◌, subst, Result, Ok, Err, IfOk}
use Rattle.std.proofs.lemmas.List.{length-replicate}
use Rattle.blk_base.specs.Block.{filled}
use Rattle.blk_base.specs.Image.{zeros}
use Rattle.order_model.specs.Device.{Seen}
use Rattle.order_model.specs.Carrying.{SchedSeen}
use Rattle.script_grammar.specs.declared.script.Script.{Script}
use Rattle.script_grammar.specs.Grammar.{blocks_of, IsRunnable}
use Rattle.stack_core.specs.declared.report.Report.{Report}
use Rattle.stack_core.specs.Headline.{KeepsOrder}
use Rattle.stack_core.specs.Report.{IsReportOf, Headline}
use Rattle.stack_core.specs.RequestPath.{opened_path, opened_seen, PathFits, AreRequests}
use Rattle.stack_core.specs.Core.{EndState, core}
use Rattle.stack_core.proofs.Paths.{opened-path}

-- what stands before a device that was made over the script's image, with the device
pub path-opened : (s : Script) (d : Seen) → IsRunnable s → d.base ≡ zeros (blocks_of s) → d.took ≡ [] → length s.puts ≤ d.limit → PathFits (opened_path s) (opened_seen s) s.puts d
path-opened s d can base took limit =
    let blocks : length d.base ≡ blocks_of s = ap length base ∙ length-replicate (blocks_of s) (filled 0) in
    opened-path s (opened_seen s) d (subst (λ n. AreRequests n s.puts) (sym blocks) can.requests) limit took refl refl refl

-- a report of a run that ended as its script does keeps the order over the zeros of that script
pub headline_of : {E : Type 0} (result : Result Report E) (s : Script) (end : EndState) → end ≡ core s → IfOk result (IsReportOf s end)
    → IfOk result (λ r. KeepsOrder (zeros (blocks_of s)) r.submitted r.cut.image r.cut.origins (r.cut.trace.sent.items ++ end.dev.waiting)) → IfOk result Headline
headline_of (Ok r) s end same is order =
    subst (λ t. KeepsOrder (zeros (blocks_of t)) r.submitted r.cut.image r.cut.origins (r.cut.trace.sent.items ++ (core t).dev.waiting)) (sym is.script)
    (subst (λ (e : EndState). KeepsOrder (zeros (blocks_of s)) r.submitted r.cut.image r.cut.origins (r.cut.trace.sent.items ++ e.dev.waiting)) same order)
headline_of (Err e) s end same is order = tt
