-- What a call that was done makes of the host.
use Rattle.std.specs.Prelude.{◌+◌, length, map}
use Rattle.volume_model.specs.Touched.{Page, Touched}
use Rattle.host_machine.specs.Model as host
use Rattle.host_machine.specs.Model.{Model, FileBlock}
use Rattle.host_machine.specs.State.{Host}
use Rattle.host_core.specs.effects.Effects.{noted_part, dropped_pages, written_pages, taken_zones}

-- a page that a volume tells of, as the host has it
abbrev pub file_block : Page → FileBlock
file_block x = record { birth = x.birth; index = x.index; block = x.zone }

-- what a call touched, as the host has it
abbrev pub told : Touched → host.Touched
told t = record { blocks = t.blocks; freed = t.freed; revoked = t.revoked; pages = map file_block t.pages; dropped = map file_block t.dropped; nodes = t.nodes }

-- the host with this volume, where a call touched this as the next entry
abbrev pub after_change : {T V C R : Type 0} → Model T V C R → Host V C R → V → Touched → Host V C R
after_change m s v t = record {
  journal = noted_part t s.journal;
  volume = v;
  pages = written_pages (m.bytes v) (length s.history + 1) (dropped_pages s.pages t.dropped) t.pages;
  owners = taken_zones s.journal.running.number s.pages s.owners t.pages;
  history = s.history;
  cuts = s.cuts;
  threads = s.threads;
}
