-- What the host is promised of clean volumes: all that it is promised of volumes, and that they stay clean.
use Rattle.std.specs.Prelude.{◌≡◌, ◌+◌, ℕ, true, false, length, nat_lt, None}
use Rattle.std.proofs.Common.{sym, ap, subst, ◌∙◌}
use Rattle.blk_base.specs.Members.{In}
use Rattle.tree_model.specs.declared.call.Reply.{Reply}
use Rattle.volume_ops.specs.Reads.{blocks_read}
use Rattle.volume_ops.specs.Volume.{disk_of}
use Rattle.volume_steps.specs.Now.{VolumeNow, tree_of_now}
use Rattle.volume_steps.specs.Calls.{called}
use Rattle.vol_check.specs.Clean.{IsClean}
use Rattle.vol_check.proofs.KeptCleanLemmas.PlainClean.{call_clean}
use Rattle.host_machine.specs.laws.Contract.{Over, Contract, StandsFor, Tells}
use Rattle.host_machine.specs.runs.Runs.{HasBlocks}
use Rattle.minix_host.specs.ByteCalls.{ByteCall}
use Rattle.minix_host.specs.Calls.{refusal, needed, would_change, done_as}
use Rattle.minix_host.specs.Numbers.{number_in}
use Rattle.minix_host.specs.Paths.{place_in}
use Rattle.minix_host.specs.PlainTrees.{PlainTree}
use Rattle.minix_host.specs.Sessions.{Opening, over, Stands}
use Rattle.minix_host.specs.Volumes.{zones_of}
use Rattle.minix_host.proofs.Promises.{promises, blocks_are_whole}
use Rattle.minix_host.proofs.Standing.{stands_for}
use Rattle.minix_host.proofs.Telling.{finds_room, stands_after, tells_host}
use Rattle.system_laws.proofs.SessionsLemmas.CleanReads.{CleanEnd, clean_program, answer_is, reads_meta}

-- the session, with the program that reads what says whether its volume is clean in place of the walk
abbrev pub over_clean : Opening → Over CleanEnd PlainTree VolumeNow ByteCall Reply
over_clean s = record {
  model = (over s).model;
  setup = (over s).setup;
  program = clean_program s.geometry;
  place = λ found t f i. place_in found.0 t.tree f i;
  base = (over s).base;
  format = (over s).format;
  reserved = (over s).reserved;
  freeable = (over s).freeable;
}

-- a volume in use of a session that stands for a tree and is clean
pub record StandsClean (s : Opening) (v : VolumeNow) (t : PlainTree) : Type 0 where
  pub stands : Stands s v t
  pub clean : IsClean v.geometry v.contents.blocks

module _ (s : Opening) where
  -- the program reads metadata alone, and the walk is its first part
  stands_for_clean : (v : VolumeNow) (t : PlainTree) → StandsClean s v t → StandsFor (over_clean s) v t
  stands_for_clean v t h =
      let base = stands_for s v t h.stands in
      record {
        mapped = base.mapped;
        content = base.content;
        there = base.there;
        metadata_free = base.metadata_free;
        page_free = base.page_free;
        one_page = base.one_page;
        metadata_low = base.metadata_low;
        page_low = base.page_low;
        reserved = base.reserved;
        walk = λ b i. reads_meta v h.stands.plain h.clean b (subst (λ g. In b (blocks_read (disk_of v.contents.blocks) (clean_program g))) (sym h.stands.geometry) i);
        places = λ f i z e. ap (λ (found : CleanEnd). place_in found.0 t.tree f i) (answer_is s.geometry (disk_of v.contents.blocks)) ∙ base.places f i z e;
      }

  module _ (v : VolumeNow) (t : PlainTree) (h : StandsClean s v t) (n r : ℕ) (c : ByteCall) (none : refusal v c.call ≡ None)
      (enough : would_change v c.call ≡ true → nat_lt (length (zones_of v).free) (needed v c.call) ≡ false) where
    abbrev number : ℕ
    number = number_in (tree_of_now v) (s.first + n)

    abbrev w : VolumeNow
    w = (called v number r c.call).change.volume

    -- a call leaves a clean volume clean
    clean_after : IsClean w.geometry w.contents.blocks
    clean_after =
        let after = stands_after s v t h.stands n r c none enough in
        subst (λ g. IsClean g w.contents.blocks) (h.stands.geometry ∙ sym after.geometry)
        (call_clean v number r c.call (finds_room v h.stands.plain (s.first + n) c.call none enough) h.clean)

    applied : StandsClean s (done_as v (s.first + n) r c.call).volume ((over s).model.call t n c) × Tells (over_clean s) t n r c v (done_as v (s.first + n) r c.call).volume (done_as v (s.first + n) r c.call).touched
    unfolding done_as
    applied =
        let told = tells_host s v t h.stands n r c none enough in (
          record { stands = stands_after s v t h.stands n r c none enough; clean = clean_after },
          record {
            fresh = told.fresh;
            gone = told.gone;
            revoked = told.revoked;
            same_bytes = told.same_bytes;
            blocks = told.blocks;
            freed = told.freed;
            not_freed = told.not_freed;
            written = told.written;
            all_written = told.all_written;
            dropped = told.dropped;
            all_dropped = told.all_dropped;
            same_zone = told.same_zone;
            all_nodes = told.all_nodes;
            newly = told.newly;
            nodes = told.nodes;
          },
        )

  pub clean_promises : Contract (over_clean s) (StandsClean s)
  clean_promises =
      let base = promises s in
      record {
        trees = base.trees;
        plain = stands_for_clean;
        applied = λ v t n r c h none begun enough. applied v t h n r c none enough;
        refused = λ v t n c why h refused. base.refused v t n c why h.stands refused;
        begun = base.begun;
        released = λ v t k h. record { stands = base.released v t k h.stands; clean = h.clean };
        same_bytes = base.same_bytes;
        same_metadata = base.same_metadata;
        same_zones = base.same_zones;
        waits_on = base.waits_on;
      }

  pub clean_blocks : HasBlocks (over_clean s) (StandsClean s)
  clean_blocks =
      let base = blocks_are_whole s in
      record { whole = λ v t b h. base.whole v t b h.stands; waiting = λ v t b k h waits. base.waiting v t b k h.stands waits }
