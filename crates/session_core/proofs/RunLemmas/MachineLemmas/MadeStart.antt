-- A session can start on a device over an image that was made.
use Rattle.std.proofs.Common.{ℕ, Bool, ◌-◌, ◌≤◌, List, ◌∷◌, replicate, arith}
use Rattle.std.proofs.lemmas.List.{length-append, length-replicate}
use Rattle.blk_base.specs.Block.{filled}
use Rattle.minix_layout.specs.declared.division.Geometry.{Geometry}
use Rattle.journal_blocks.specs.Super.{super_block}
use Rattle.mount_make.specs.Made.{made_volume, made_image, new_journal}
use Rattle.mount_make.proofs.Filling.{length-made}
use Rattle.order_model.specs.Carrying.{SchedSeen}
use Rattle.order_model.specs.Device.{Seen}
use Rattle.tree_model.specs.declared.call.Call.{Call}
use Rattle.call_sessions.specs.Sessions.{made_opening}
use Rattle.session_core.specs.run.machine.Fits.{CanStart}
use Rattle.session_core.specs.run.machine.MadeStart.{made_start, IsNew}

pub made_can_start : (g : Geometry) (journal : ℕ) (wide : Bool) (quota limit capacity : ℕ) (programs : List (List Call)) (p : SchedSeen) (d : Seen) → 1 ≤ journal → IsNew (made_image g journal wide) limit p d
    → CanStart (made_opening g journal wide quota) (made_start g journal limit capacity programs) p d
made_can_start g journal wide quota limit capacity programs p d some new = record {
  image = new.image;
  blocks =
      let rest : List (List ℕ) = super_block (new_journal journal wide) ∷ replicate (journal - 1) (filled 0) in
      let all = length-append (made_volume g) rest in
      let volume = length-made g in
      let log = length-replicate (journal - 1) (filled 0) in
      omega (arith, all, volume, log, some);
  took = new.took;
  sent = new.sent;
  ids = new.ids;
  scheduler = new.scheduler;
}
