-- The meanings of a name that no session has.
use Rattle.std.specs.Prelude.{false, []}
use Rattle.minix_layout.specs.Geometry.{geometry_made}
use Rattle.minix_host.specs.Sessions.{Opening}
use Rattle.call_sessions.specs.Sessions.{made_opening}
use Rattle.session_core.specs.run.machine.Machine.{Start}
use Rattle.session_core.specs.run.machine.MadeStart.{made_start}

-- a session of no size, for a value that no session stands behind
pub no_opening : Opening
no_opening = made_opening (geometry_made 0 0 0) 0 false 0

-- what such a session begins on: no request and no thread
pub no_start : Start
no_start = made_start (geometry_made 0 0 0) 0 0 0 []
