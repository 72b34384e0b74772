-- The image that recovery left has the tree that is printed.
use Rattle.std.proofs.Common.{◌≡◌, ℕ, List, Option, Result, Ok, sym, ap, ◌∙◌}
use Rattle.blk_base.specs.Image.{whole_blocks}
use Rattle.volume_ops.specs.Volume.{VolumeState}
use Rattle.mount_make.specs.Images.{FaultPlace, mounted, tree_after}
use Rattle.session_grammar.specs.declared.session_script.SessionScript.{SessionScript}
use Rattle.session_core.specs.Core.{core}
use Rattle.barrierfs_top.specs.declared.run_report.RunReport.{RunReport}
use Rattle.barrierfs_top.specs.Show.{shown, text_after}
use Rattle.barrierfs_top.specs.Sessions.{IsSessionReplay, IsImageReplay}

same_ok : {A E : Type 0} (a b : A) → ◌≡◌ {A = Result A E} (Ok a) (Ok b) → a ≡ b
same_ok a b e = cc

module _ (input text bytes : List ℕ) (report other : Option RunReport) (replay : IsSessionReplay input report text) (raw : IsImageReplay input other bytes) where
  same_script : raw.script ≡ replay.script
  same_script = same_ok raw.script replay.script (sym raw.ran.spelled ∙ replay.ran.spelled)

  -- both runs left the same
  same_cut : raw.result.cut.image.items ≡ replay.result.cut.image.items
  same_cut =
      raw.ran.core_is.report.image ∙ (ap (λ (s : SessionScript). (core s).dev.surface) same_script ∙ sym replay.ran.core_is.report.image)

  -- what is written is mounted as the volume that was printed
  mounted_as : mounted (whole_blocks bytes) ≡ Ok replay.result.volume
  mounted_as =
      ap mounted (raw.whole ∙ sym raw.ran.core_is.report.recovered)
      ∙ (raw.ran.core_is.report.again
      ∙ (sym raw.ran.core_is.report.volume ∙ (ap mounted same_cut ∙ replay.ran.core_is.report.volume)))

  pub shows_the_tree : shown (whole_blocks bytes) ≡ Ok replay.printed.tree
  shows_the_tree = ap (λ (m : Result VolumeState FaultPlace). text_after (tree_after m)) mounted_as ∙ replay.printed.shown
