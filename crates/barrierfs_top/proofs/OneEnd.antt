-- An input ends in one way.
use Rattle.std.proofs.Common.{◌≡◌, ℕ, Bool, true, false, List, length, Option, Some, None, Result, Ok, Err, nat_lt, refl, sym, ap, ◌∙◌, subst}
use Rattle.blk_base.specs.Image.{whole_blocks}
use Rattle.mount_make.specs.Images.{FaultPlace, mounted}
use Rattle.vol_check.specs.declared.verdict.Verdict.{Verdict}
use Rattle.vol_check.specs.declared.verdict.Verdict.TheVariants as verdicts
use Rattle.vol_check.specs.Verdicts.{IsVerdict}
use Rattle.vol_check.proofs.Firsts.{one_verdict}
use Rattle.volume_ops.specs.Volume.{VolumeState}
use Rattle.barrierfs_top.specs.declared.fault.TopFault.{TopFault}
use Rattle.barrierfs_top.specs.declared.fault.TopFault.TheVariants as faults
use Rattle.barrierfs_top.specs.declared.command_line.InputTask.{InputTask}
use Rattle.barrierfs_top.specs.declared.command_line.InputTask.TheVariants as commands
use Rattle.barrierfs_top.specs.Tasks.{most_of}
use Rattle.barrierfs_top.specs.Check.{HasVerdict, IsChecked}
use Rattle.barrierfs_top.specs.Top.{Ends, ExpectsAs, Expects}

same_ok : {A E : Type 0} (a b : A) → ◌≡◌ {A = Result A E} (Ok a) (Ok b) → a ≡ b
same_ok a b e = cc

pub same_err : {A E : Type 0} (a b : E) → ◌≡◌ {A = Result A E} (Err a) (Err b) → a ≡ b
same_err a b e = cc

pub not_both : {A E : Type 0} (a : A) (b : E) → ◌≡◌ {A = Result A E} (Ok a) (Err b) → ⊥
not_both a b e = cc

-- ---- the check of an image

abbrev end_of : Verdict → Option TopFault
end_of verdicts.Clean = None
end_of (verdicts.InodeMap block) = Some (faults.Unsound (verdicts.InodeMap block))
end_of (verdicts.ZoneMap block) = Some (faults.Unsound (verdicts.ZoneMap block))
end_of (verdicts.Links block) = Some (faults.Unsound (verdicts.Links block))
end_of (verdicts.Dots block) = Some (faults.Unsound (verdicts.Dots block))

unclean : (v : Verdict) → (v ≡ verdicts.Clean → ⊥) → Some (faults.Unsound v) ≡ end_of v
unclean verdicts.Clean differs = absurd (differs refl)
unclean (verdicts.InodeMap block) differs = refl
unclean (verdicts.ZoneMap block) differs = refl
unclean (verdicts.Links block) differs = refl
unclean (verdicts.Dots block) differs = refl

-- it ends by a verdict, or by the fault of mounting
data EndsBy (blocks : List (List ℕ)) (end : Option TopFault) : Type 0 where
  by_verdict : (v : Verdict) → HasVerdict blocks v → end ≡ end_of v → EndsBy blocks end
  by_fault : (f : FaultPlace) → mounted blocks ≡ Err f → end ≡ Some (faults.Image f.0 f.1) → EndsBy blocks end

ends_by : (blocks : List (List ℕ)) (end : Option TopFault) → IsChecked blocks end → EndsBy blocks end
ends_by blocks None is = by_verdict verdicts.Clean is refl
ends_by blocks (Some (faults.Unsound v)) is = by_verdict v is.0 (unclean v is.1)
ends_by blocks (Some (faults.Image kind block)) is = by_fault (kind, block) is refl
ends_by blocks (Some faults.BadWords) is = absurd is
ends_by blocks (Some (faults.Script line kind)) is = absurd is
ends_by blocks (Some faults.SourceFault) is = absurd is
ends_by blocks (Some faults.SinkFault) is = absurd is
ends_by blocks (Some faults.TooLong) is = absurd is
ends_by blocks (Some faults.NoMemory) is = absurd is
ends_by blocks (Some faults.NoRoom) is = absurd is

-- an image is mounted as one volume, of which one verdict is told
same_verdict : (blocks : List (List ℕ)) (v w : Verdict) → HasVerdict blocks v → HasVerdict blocks w → v ≡ w
same_verdict blocks v w a b =
    let same : b.volume ≡ a.volume = same_ok b.volume a.volume (sym b.mounts ∙ a.mounts) in
    one_verdict a.volume.geometry a.volume.blocks v w a.told (subst (λ (u : VolumeState). IsVerdict u.geometry u.blocks w) same b.told)

one_by : (blocks : List (List ℕ)) (a b : Option TopFault) → EndsBy blocks a → EndsBy blocks b → a ≡ b
one_by blocks a b (by_verdict v has is) (by_verdict w had also) = is ∙ (ap end_of (same_verdict blocks v w has had) ∙ sym also)
one_by blocks a b (by_verdict v has is) (by_fault f faulty also) = absurd (not_both has.volume f (sym has.mounts ∙ faulty))
one_by blocks a b (by_fault f faulty is) (by_verdict w had also) = absurd (not_both had.volume f (sym had.mounts ∙ faulty))
one_by blocks a b (by_fault f faulty is) (by_fault g faulted also) =
    is ∙ (ap (λ (p : FaultPlace). Some (faults.Image p.0 p.1)) (same_err f g (sym faulty ∙ faulted)) ∙ sym also)

-- ---- all commands

one_of : (c : InputTask) (text : List ℕ) (a b : Option TopFault) → Ends c text a → Ends c text b → a ≡ b
one_of (commands.Replay raw) text a b this that = sym this ∙ that
one_of (commands.Run raw) text a b this that = sym this ∙ that
one_of commands.Show text a b this that = sym this ∙ that
one_of (commands.Widen raw) text a b this that = sym this ∙ that
one_of commands.Kv text a b this that = sym this ∙ that
one_of commands.Check text a b this that = one_by (whole_blocks text) a b (ends_by (whole_blocks text) a this) (ends_by (whole_blocks text) b that)

one_as : (long : Bool) (c : InputTask) (text : List ℕ) (a b : Option TopFault) → ExpectsAs long c text a → ExpectsAs long c text b → a ≡ b
one_as true c text a b this that = sym this ∙ that
one_as false c text a b this that = one_of c text a b this that

pub one_end : (c : InputTask) (text : List ℕ) (a b : Option TopFault) → Expects c text a → Expects c text b → a ≡ b
one_end c text a b this that = one_as (nat_lt (most_of c) (length text)) c text a b this that
