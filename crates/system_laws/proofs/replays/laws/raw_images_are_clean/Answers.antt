use Rattle.std.proofs.Common.{sym, ap, ◌∙◌}
use Rattle.mount_make.specs.Images.{mounted}
use Rattle.system_laws.proofs.replays.laws.raw_images_are_clean.Goals as goal

pub returns : goal.returns
returns c = λ input bytes report raw.
    let ran = raw.ran in
    record {
      volume = raw.result.volume;
      mounts = ap mounted (raw.whole ∙ sym ran.core_is.report.recovered) ∙ ran.core_is.report.again;
      told = c.sessions_leave_clean_volumes.ensures.volume raw.script raw.result (c.sessions_are_read_back.ensures.read input raw.script ran.spelled) ran.core_is ran.headline;
    }
