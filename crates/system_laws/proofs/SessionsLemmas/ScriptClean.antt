-- What a volume script leaves is clean.
use Rattle.std.specs.Prelude.{◌≡◌, ℕ, ◌+◌, length, take}
use Rattle.std.proofs.Common.{sym, ap, subst, ◌∙◌, arith}
use Rattle.std.proofs.lemmas.Bool.{ltb-false}
use Rattle.std.proofs.lemmas.Grind.{div_ceil_times}
use Rattle.minix_layout.specs.Geometry.{IsSound, geometry_made}
use Rattle.minix_layout.specs.declared.division.Geometry.{Geometry}
use Rattle.minix_layout.specs.Widths.{IsWidth}
use Rattle.order_model.specs.OrderClosed.{IsOrderClosed}
use Rattle.tree_model.specs.declared.call.Call.{Call}
use Rattle.tree_model.specs.declared.call.Reply.{Reply}
use Rattle.volume_ops.specs.Faultless.{IsFaultless}
use Rattle.volume_ops.specs.Volume.{tree_found}
use Rattle.volume_ops.proofs.TreeUnique.{walked_tree}
use Rattle.volume_steps.specs.Now.{VolumeNow}
use Rattle.volume_steps.specs.Plain.{IsPlainNow}
use Rattle.volume_steps.specs.NewNow.{new_now}
use Rattle.vol_check.specs.Clean.{IsClean}
use Rattle.vol_check.specs.Images.{HasVolume}
use Rattle.mount_make.specs.laws.ImageLaws.{some_inode}
use Rattle.widening.proofs.Remounting.{mounted_parts, recovered_is, divided_parts}
use Rattle.host_machine.specs.State.{Host}
use Rattle.minix_host.specs.ByteCalls.{HasBytes}
use Rattle.line_grammar.specs.calls.WellFormed as call
use Rattle.session_grammar.specs.declared.session_script.SessionScript.{SessionScript}
use Rattle.session_grammar.specs.WellFormed.{IsWellFormed, AreSizes}
use Rattle.session_core.specs.Core.{geometry_of, opening_of}
use Rattle.session_core.specs.Headline.{Headline, medium_of}
use Rattle.session_core.specs.Report.{IsCoreReport}
use Rattle.session_core.specs.declared.report.SessionReport.{SessionReport}
use Rattle.session_core.proofs.Made.{script_writes_bytes}
use Rattle.system_laws.proofs.SessionsLemmas.CutClean.{mounted_clean}
use Rattle.system_laws.proofs.SessionsLemmas.MadeClean.{MarksRoot}

-- sizes of which a volume can be made give a sound division
pub made_sound : (inodes zones journal width : ℕ) → AreSizes inodes zones journal → IsWidth width → IsSound (geometry_made inodes zones width)
made_sound inodes zones journal width sizes is =
    let some = sizes.some_inode in
    let many = sizes.most_inodes in
    let most = sizes.most_zones in
    let room = sizes.some_data in
    let imap = div_ceil_times (inodes + 1) 8192 (omega arith) in
    let zmap = div_ceil_times (zones + 1) 8192 (omega arith) in
    record {
      fits = record { inodes = omega (arith, many); zones = omega (arith, most); imap = omega (arith, room, most); zmap = omega (arith, room, most); first = omega (arith, room, most) };
      width = is;
      some_inode = omega (arith, some);
      some_zone = room;
      tables_below = omega arith;
      inode_bits = omega (arith, imap.0);
      zone_bits = omega (arith, zmap.0);
    }

module _ (s : SessionScript) (is : IsWellFormed s) (bytes : (c : Call) → call.IsWellFormed c → HasBytes c) (new : (g : Geometry) → IsSound g → IsPlainNow (new_now g))
    (marks : (g : Geometry) → IsSound g → MarksRoot g) where
  sound : IsSound (geometry_of s)
  sound = made_sound s.inodes s.zones s.journal s.width is.sizes is.width

  module _ (r : SessionReport) (report : IsCoreReport s r) (said : Headline s r) where
    pub script_clean : IsClean r.volume.geometry r.volume.blocks
    script_clean =
        let limit = is.header.limit in
        let most = is.sizes.most_journal in
        mounted_clean (geometry_of s) s.journal s.wide s.header.limit s.programs said.run.events sound is.sizes.least_journal most (omega (arith, limit, most))
        (script_writes_bytes s is bytes) (new (geometry_of s) sound) (marks (geometry_of s) sound) (medium_of r)
        (subst (λ (h : Host VolumeNow Call Reply). IsOrderClosed (opening_of s).image h.journal.flush.requests r.cut.image.items r.cut.origins) said.run.host said.order.closed)
        r.volume report.report.volume

    -- the image that recovery left has this volume
    image_is : r.volume.blocks ≡ take r.volume.geometry.zones r.image
    image_is =
        let p = mounted_parts r.cut.image.items r.volume report.report.volume in
        p.volume ∙ ap (take r.volume.geometry.zones) (sym (report.report.recovered ∙ recovered_is r.cut.image.items r.volume p))

    pub image_has_volume : HasVolume r.image r.volume.geometry
    image_has_volume =
        let p = mounted_parts r.image r.volume report.report.again in
        let parts = divided_parts r.image r.volume.geometry p.divides in
        let tree = walked_tree r.volume.geometry r.volume.blocks _ (some_inode r.image r.volume.geometry p.divides) (ap (tree_found r.volume.blocks) p.walks.1) in
        record {
          long = ltb-false (length r.image) 2 parts.0;
          divided = parts.1;
          whole = ltb-false (length r.image) r.volume.geometry.zones parts.2;
          faultless = subst (IsFaultless r.volume.geometry) image_is tree.faultless;
        }

    pub image_clean : IsClean r.volume.geometry (take r.volume.geometry.zones r.image)
    image_clean = subst (IsClean r.volume.geometry) image_is script_clean
