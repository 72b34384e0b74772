-- The host that a session on a made image begins with.
use Rattle.std.specs.Prelude.{ℕ, Bool, List, []}
use Rattle.minix_layout.specs.declared.division.Geometry.{Geometry}
use Rattle.tree_model.specs.declared.call.Call.{Call}
use Rattle.page_cache.specs.Pages.{Cache}
use Rattle.journal_ring.specs.Journal as new_ring
use Rattle.mount_make.specs.Made.{new_journal}
use Rattle.call_sessions.specs.made.MadeSessions.{made_now}
use Rattle.host_core.specs.Now.{HostNow, host_made}

-- no page, and room for as many as there are zones
abbrev pub no_pages : Geometry → Cache
no_pages g = record { room = g.zones; pages = [] }

-- a new volume, the ring of an empty journal of so many blocks, with tags of 64 bits or not, at most so many requests, and the calls
-- of each thread
abbrev pub opened_now : Geometry → ℕ → Bool → ℕ → List (List Call) → HostNow
opened_now g journal wide limit programs = host_made (made_now g) (no_pages g) (new_ring.made (new_journal journal wide) limit) programs
