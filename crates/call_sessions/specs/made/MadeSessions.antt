-- A session on an image that was made: a new volume, and behind it an empty JBD2 journal.
use Rattle.std.specs.Prelude.{ℕ, Bool, false, [], ◌∷◌}
use Rattle.minix_layout.specs.declared.division.Geometry.{Geometry}
use Rattle.journal_blocks.specs.Readers.{format}
use Rattle.journal_ring.specs.running.Closing.{writers}
use Rattle.journal_ring.specs.LogRing.{LogRing}
use Rattle.minix_tables.specs.zones.Zones.{made}
use Rattle.volume_model.specs.NewVolume.{root_placed}
use Rattle.volume_steps.specs.Now.{VolumeNow}
use Rattle.mount_make.specs.Made.{made_volume, made_image, new_journal}
use Rattle.minix_host.specs.PlainTrees.{root_tree}
use Rattle.minix_host.specs.Sessions.{Opening}

-- its volume in use: the root is there alone, and has the first zone
abbrev pub made_now : Geometry → VolumeNow
made_now g = record { geometry = g; contents = record { blocks = made_volume g; nodes = (0, root_placed g) ∷ [] }; zones = made g (g.first ∷ []) }

-- the session, with wide tags or not, whose transactions may have so many log blocks
abbrev pub made_opening : Geometry → ℕ → Bool → ℕ → Opening
made_opening g journal wide quota = record {
  geometry = g;
  root = g.first;
  tree = root_tree g.width;
  first = 0;
  freeable = [];
  image = made_image g journal wide;
  writers = writers (new_journal journal wide);
  format = format wide;
  sequence = 1;
  quota = quota;
}

-- the log at the start, in a journal of so many blocks
abbrev pub made_ring : ℕ → LogRing
made_ring journal = record { places = record { first = 1; past = journal }; head = 1; used = 0; started = false; homes = [] }
