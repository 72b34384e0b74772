-- How the bodies of histories are kept, and the rows of parts and requests that name them.
use Rattle.std.specs.Prelude.{ℕ, ◌<◌, List, [], slice_index_or}
use Rattle.blk_base.specs.Block.{filled}
use Rattle.order_model.specs.declared.bodies.KeptBody.{KeptBody}
use Rattle.order_model.specs.declared.bodies.KeptBody.TheVariants.{Full, Stored}

-- the body that is kept so, among those that are stored
abbrev pub body_of : List (List ℕ) → KeptBody → List ℕ
body_of stored (Full v) = filled v
body_of stored (Stored place) = slice_index_or stored place []

-- it is one of so many
abbrev pub IsThere : ℕ → KeptBody → Type 0
IsThere n (Full v) = Unit {0}
IsThere n (Stored place) = place < n
