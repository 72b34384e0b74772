use Rattle.std.specs.Prelude.{◌≡◌, false, take}
use Rattle.std.proofs.Common.{sym, ap, subst, ◌∙◌}
use Rattle.std.proofs.Math.Seq.{take-append_seam}
use Rattle.minix_layout.specs.declared.division.Geometry.{Geometry}
use Rattle.vol_check.specs.Clean.{IsClean}
use Rattle.mount_make.specs.Made.{made_volume, made_image}
use Rattle.mount_make.proofs.Filling.{length-made}
use Rattle.call_sessions.specs.made.MadeSessions.{made_now}
use Rattle.system_laws.proofs.TidyLemmas.MadeTidy.{made_tidy}
use Rattle.system_laws.proofs.tidy.laws.made_volumes_are_tidy.Goals as goal

in_image : (g : Geometry) → take g.zones (made_image g 1 false) ≡ made_volume g
in_image g = ap (λ n. take n (made_image g 1 false)) (sym (length-made g)) ∙ take-append_seam (made_volume g) _

pub returns : goal.returns
returns c = λ g sound.
    let plain = c.sessions_on_made_images_keep_rules_and_trees.ensures.plain g sound in
    let clean = subst (IsClean g) (in_image g) (c.made_volumes_are_clean.ensures g 1 false sound) in
    made_tidy g sound plain ((c.marked_volumes_are_clean.ensures (made_now g) plain).0 clean)
