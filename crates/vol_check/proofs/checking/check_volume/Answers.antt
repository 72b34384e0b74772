use Rattle.vol_check.specs.declared.verdict.Verdict.TheVariants as verdicts
use Rattle.vol_check.proofs.Firsts.{told}
use Rattle.vol_check.proofs.checking.check_volume.Goals as goal

pub returns : goal.returns
returns c =
    let v = c.args.volume.now in
    record {
      clean = told v.geometry v.blocks c.first_fault.result verdicts.Clean c.first_fault.ensures;
      inode_map = λ block. told v.geometry v.blocks c.first_fault.result (verdicts.InodeMap block) c.first_fault.ensures;
      zone_map = λ block. told v.geometry v.blocks c.first_fault.result (verdicts.ZoneMap block) c.first_fault.ensures;
      links = λ block. told v.geometry v.blocks c.first_fault.result (verdicts.Links block) c.first_fault.ensures;
      dots = λ block. told v.geometry v.blocks c.first_fault.result (verdicts.Dots block) c.first_fault.ensures;
    }
