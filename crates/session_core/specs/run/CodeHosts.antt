-- Hosts as code has them, in a session.
use Rattle.std.specs.Prelude.{◌≡◌, ℕ, List}
use Rattle.tree_model.specs.declared.call.Call.{Call}
use Rattle.journal_ring.specs.running.Closing.{writers}
use Rattle.journal_ring.specs.running.Open.{quota}
use Rattle.volume_steps.specs.Now.{VolumeNow}
use Rattle.journal_blocks.specs.declared.super_block.JournalSuper.{JournalSuper}
use Rattle.journal_ring.specs.LogRing.{LogRing}
use Rattle.host_core.specs.Now.{HostNow}
use Rattle.host_machine.specs.runs.Runs.{Event}
use Rattle.minix_host.specs.Runs.{IsNewOpening}
use Rattle.minix_host.specs.Sessions.{Opening}
use Rattle.call_sessions.specs.Sessions.{host_behind}

-- The session has the journal of this superblock.
pub record HasJournal (s : Opening) (made_with : JournalSuper) : Type 0 where
  -- the sequence of transaction 1
  pub sequence : made_with.sequence ≡ s.sequence
  -- how journal blocks are written
  pub writers_are : writers made_with ≡ s.writers
  -- how many log blocks a transaction may have
  pub quota_is : quota made_with ≡ s.quota

-- The host is where the session's machine is after these steps. As code has it, a host opens on new volumes alone.
pub record IsInSession (s : Opening) (v : VolumeNow) (ring : LogRing) (limit : ℕ) (programs : List (List Call)) (events : List Event) (h : HostNow) : Type 0 where
  pub new : IsNewOpening s
  pub host : h.host ≡ host_behind s v ring limit programs events
  pub calls : h.programs ≡ programs
  -- the journal begins at the block after the zones
  pub behind_zones : h.journal ≡ s.geometry.zones
  pub journal : HasJournal s h.made_with
