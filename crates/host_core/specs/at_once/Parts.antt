-- What a plain call's step on the parts makes of the host.
use Rattle.std.specs.Prelude.{ℕ, List}
use Rattle.tree_model.specs.declared.call.Reply.{Reply}
use Rattle.volume_steps.specs.Now.{VolumeNow}
use Rattle.host_machine.specs.Host.{Stepped, end_with}
use Rattle.host_machine.specs.Model.{Model}
use Rattle.host_machine.specs.Outcomes as outcomes
use Rattle.host_machine.specs.State as state
use Rattle.host_machine.specs.State.{Host, Setup}
use Rattle.host_core.specs.at_once.Steps.{CallParts, PlainProgress, Answered, Full, Waits, Went}

-- those parts of a host that a plain call reads and changes
abbrev pub parts_in : {C : Type 0} → Host VolumeNow C Reply → CallParts
parts_in s = record { journal = s.journal; volume = s.volume; pages = s.pages; owners = s.owners }

module _ {T C : Type 0} (M : Model T VolumeNow C Reply) (u : Setup) where
  -- the host with these in place of its own
  abbrev pub with_parts : Host VolumeNow C Reply → CallParts → Host VolumeNow C Reply
  with_parts s p = record {
    journal = p.journal;
    volume = p.volume;
    pages = p.pages;
    owners = p.owners;
    history = s.history;
    cuts = s.cuts;
    threads = s.threads;
  }

  -- the host with these parts ends the call, or the call waits
  abbrev pub after_progress : Host VolumeNow C Reply → ℕ → C → List C → PlainProgress → Stepped VolumeNow C Reply
  after_progress s t c rest (Answered reply) = end_with M u s t c rest (state.Answered reply)
  after_progress s t c rest Full = end_with M u s t c rest state.SessionFull
  after_progress s t c rest (Waits cause) = record { host = s; step = outcomes.Waiting cause }

  -- the host after a step of the thread's call
  abbrev pub after_going : Host VolumeNow C Reply → ℕ → C → List C → Went → Stepped VolumeNow C Reply
  after_going s t c rest w = after_progress (with_parts s w.parts) t c rest w.progress
