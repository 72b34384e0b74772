-- One step of a plain call, on the parts of the host that it changes.
use Rattle.std.specs.List.{filter}
use Rattle.std.specs.Prelude.{ℕ, List, length, nat_lt, Some, None, if◌then◌else◌}
use Rattle.tree_model.specs.declared.call.Call.{Call}
use Rattle.tree_model.specs.declared.call.Reply.{Reply}
use Rattle.page_cache.specs.declared.cached_page.CachedPage.{CachedPage}
use Rattle.journal_ring.specs.running.Plan.{Writers}
use Rattle.journal_ring.specs.running.Running.{wanted_one}
use Rattle.flush_actor.specs.Part.{at_limit}
use Rattle.commit_actor.specs.Journal.{JournalPart}
use Rattle.volume_ops.specs.Volume.{disk_of}
use Rattle.volume_model.specs.Touched.{Touched}
use Rattle.volume_steps.specs.Now.{VolumeNow, tree_of_now}
use Rattle.volume_steps.specs.Calls.{called}
use Rattle.volume_steps.specs.Numbers.{number_in}
use Rattle.host_machine.specs.Causes as causes
use Rattle.host_machine.specs.Causes.{Cause}
use Rattle.host_machine.specs.Model.{Freed}
use Rattle.minix_host.specs.Volumes.{zones_of}
pub use Rattle.host_core.specs.gates.Hindrances.{hindrance_by}
use Rattle.host_core.specs.effects.Effects.{noted_part, dropped_pages, written_pages, taken_zones}
pub use Rattle.host_core.specs.effects.Effects.{with_part}

-- what a plain call reads and changes
pub record CallParts : Type 0 where
  pub journal : JournalPart
  pub volume : VolumeNow
  pub pages : List CachedPage
  -- for each zone the transaction that took it for a file
  pub owners : List ℕ

-- how far the call came: it is answered; the session may have no more requests; or it waits
pub data PlainProgress : Type 0 where
  Answered : Reply → PlainProgress
  Full : PlainProgress
  Waits : Cause → PlainProgress

-- what a step left of the parts, and how far the call came
pub record Went : Type 0 where
  pub parts : CallParts
  pub progress : PlainProgress

-- the running transaction is to be closed
abbrev pub wanting : JournalPart → JournalPart
wanting j = record j { running = wanted_one j.running }

-- A call that is hindered wants the running transaction closed: where that is full, and where the zones that wait for
-- closed transactions do not suffice.
abbrev pub hindered : VolumeNow → Cause → JournalPart → JournalPart
hindered v (causes.TxFull blocks) j = wanting j
hindered v (causes.Quarantine lacks) j =
    if nat_lt (length (filter (λ (z : Freed). nat_lt z.transaction j.running.number) (zones_of v).waiting)) lacks then wanting j else j
hindered v other j = j

-- a call that was done, as entry n of the history: it left this volume and touched this
abbrev pub done_on : CallParts → ℕ → VolumeNow → Touched → CallParts
done_on p n v t = record {
  journal = noted_part t p.journal;
  volume = v;
  pages = written_pages (λ b. disk_of v.contents.blocks b) n (dropped_pages p.pages t.dropped) t.pages;
  owners = taken_zones p.journal.running.number p.pages p.owners t.pages;
}

-- the call is done as entry n, and answered
abbrev pub does : CallParts → ℕ → Call → Went
does p n c =
    let x = called p.volume (number_in (tree_of_now p.volume) n) p.journal.running.number c in
    record { parts = done_on p n x.change.volume x.change.touched; progress = Answered x.reply }

-- it waits for this cause, or the session may have no more requests
abbrev pub hinders : CallParts → Cause → Went
hinders p cause =
    if at_limit p.journal.flush then record { parts = p; progress = Full }
    else record { parts = record p { journal = hindered p.volume cause p.journal }; progress = Waits cause }

-- The step of a call that nothing refuses, as entry n, on a volume with so many blocks of the zone bitmap whose
-- transactions may have so many log blocks.
abbrev pub steps_plainly : Writers → ℕ → ℕ → CallParts → ℕ → Call → Went
steps_plainly w zmap most p n c = elim (hindrance_by w zmap most p.journal p.volume c) as (λ _. Went) [ Some cause ↦ hinders p cause | None ↦ does p n c ]
