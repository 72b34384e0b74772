-- Why a call waits that would change the tree or a page, by the journal's part and the volume.
use Rattle.std.specs.Prelude.{ℕ, ◌-◌, not, nat_lt, length, Option, Some, None, if◌then◌else◌}
use Rattle.tree_model.specs.declared.call.Call.{Call}
use Rattle.journal_ring.specs.running.Closing.{writers}
use Rattle.journal_ring.specs.running.Plan.{Writers}
use Rattle.journal_ring.specs.running.Running.{fits_in, log_needs}
use Rattle.journal_ring.specs.running.Open.{quota}
use Rattle.commit_actor.specs.Actor.{CommitActor}
use Rattle.commit_actor.specs.Journal.{JournalPart, is_closing}
use Rattle.volume_steps.specs.Now.{VolumeNow}
use Rattle.host_machine.specs.Causes as causes
use Rattle.host_machine.specs.Causes.{Cause}
use Rattle.minix_host.specs.Calls.{needed, would_change}
use Rattle.minix_host.specs.Volumes.{zones_of}

-- the first that holds: the running transaction is being closed; it is full, where it may have so many log blocks, as these
-- writers make them, in a volume with so many blocks of the zone bitmap; too few zones are free
abbrev pub hindrance_by : Writers → ℕ → ℕ → JournalPart → VolumeNow → Call → Option Cause
hindrance_by w zmap most j v c =
    if not (would_change v c) then None
    else if is_closing j.phase then Some causes.Closing
    else if not (fits_in w zmap most j.running) then Some (causes.TxFull (log_needs w j.running))
    else
    let free = length (zones_of v).free in
    let needs = needed v c in
    if nat_lt free needs then Some (causes.Quarantine (needs - free)) else None

-- the same by the actor's journal and the volume's division
abbrev pub hindrance_of : CommitActor → VolumeNow → Call → Option Cause
hindrance_of a v c = hindrance_by (writers a.made_with) v.geometry.zmap (quota a.made_with) a.part v c
