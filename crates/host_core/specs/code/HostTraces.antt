-- What is kept of a host, and what it says of the host.
use Rattle.std.specs.Prelude.{◌≡◌, ℕ, false, List, [], ◌∷◌, length, map}
use Rattle.commit_actor.specs.Journal.{Idle}
use Rattle.journal_ring.specs.running.Running.{fresh}
use Rattle.host_core.specs.Now.{HostNow}
use Rattle.host_core.specs.Entries.{entry_in, ArePlaced}
use Rattle.host_answers.specs.declared.entry.Entry.{Entry}

-- a host of nothing, for a list that has none
abbrev pub no_host : HostNow
no_host = record {
  made_with = record { maxlen = 0; first = 0; sequence = 0; start = 0; incompat = 0 };
  journal = 0;
  programs = [];
  host = record {
    journal = record {
      flush = record { requests = []; notes = []; limit = 0; taken = []; conflicts = record { held = []; wanted = [] }; waits = [] };
      ring = record { places = record { first = 0; past = 0 }; head = 0; used = 0; started = false; homes = [] };
      running = fresh 1;
      phase = Idle;
    };
    volume = record {
      geometry = record { inodes = 0; zones = 0; imap = 0; zmap = 0; first = 0; width = 0 };
      contents = record { blocks = []; nodes = [] };
      zones = record { first = 0; states = [] };
    };
    pages = [];
    owners = [];
    history = [];
    cuts = [];
    threads = [];
  };
}

-- the first of these hosts
abbrev pub first_host : List HostNow → HostNow
first_host [] = no_host
first_host (h ∷ hs) = h

-- these are the host's entries, its cuts, and how many requests it submitted
pub record IsHostTrace (h : HostNow) (entries : List Entry) (cuts : List ℕ) (submitted : ℕ) : Type 0 where
  pub noted : h.host.history ≡ map (entry_in h.programs) entries
  pub placed : ArePlaced h.programs entries
  pub are_cuts : cuts ≡ h.host.cuts
  pub is_count : submitted ≡ length h.host.journal.flush.requests
