-- What a begun call's step on the parts makes of the host.
use Rattle.std.specs.Prelude.{ℕ, List, ◌∷◌, Some}
use Rattle.host_machine.specs.Host.{Stepped, set_thread, end_with}
use Rattle.host_machine.specs.Model.{Model}
use Rattle.host_machine.specs.Outcomes as outcomes
use Rattle.host_machine.specs.State as state
use Rattle.host_machine.specs.State.{Host, Setup, Begun}
use Rattle.host_core.specs.begun.Steps.{Gone, BegunProgress, Answered, Full, Sent, Waits}

module _ {T V C R : Type 0} (M : Model T V C R) (u : Setup) where
  -- the host with the journal's part and the pages that the step left
  abbrev pub with_parts : Host V C R → Gone → Host V C R
  with_parts s g = record {
    journal = g.part;
    volume = s.volume;
    pages = g.pages;
    owners = s.owners;
    history = s.history;
    cuts = s.cuts;
    threads = s.threads;
  }

  -- the host with these parts ends the call, or keeps how far it came
  abbrev pub after_progress : Host V C R → ℕ → C → List C → Begun → BegunProgress → Stepped V C R
  after_progress s t c rest b Answered = end_with M u s t c rest (state.Answered M.ok)
  after_progress s t c rest b Full = end_with M u s t c rest state.SessionFull
  after_progress s t c rest b (Sent id list barrier) = record {
    host = set_thread M u s t (record { calls = c ∷ rest; begun = Some (record b { list = list; sent_barrier = barrier }) });
    step = outcomes.Sent id;
  }
  after_progress s t c rest b (Waits cause) = record { host = s; step = outcomes.Waiting cause }

  -- the host after a step of the thread's call
  abbrev pub after_going : Host V C R → ℕ → C → List C → Begun → Gone → Stepped V C R
  after_going s t c rest b g = after_progress (with_parts s g) t c rest b g.progress
