use Rattle.std.specs.List.{concat}
use Rattle.std.proofs.Common.{refl, ap, ◌∙◌}
use Rattle.barrierfs_top.proofs.threads.run_image.Goals as goal

pub returns-in-Ok-clause-ok : goal.returns-in-Ok-clause-ok
returns-in-Ok-clause-ok g c =
    let ran = c.in_ok-_script.ensures.ran in
    let left = c.in-Ok.ensures.image ∙ ran.is.report.recovered in
    record {
      script = c.in_ok-_script._script;
      result = c.in_ok-_script.report;
      ran = ran;
      reported = refl;
      written = ap concat left;
      whole = c.in-Ok.ensures.whole ∙ left;
    }
