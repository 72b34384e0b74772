-- A small run, worked out: three puts are transferred; of their pages the second, then the third is programmed, and nothing is on
-- the medium; once the first one is programmed, all are. A block is one byte here.
use Rattle.std.specs.Prelude.{ℕ, false, List, [], ◌∷◌, None}
use Rattle.order_model.specs.declared.command.Command.{Command}
use Rattle.order_model.specs.declared.command.Priority.TheVariants.{Ordered}
use Rattle.flog_device.specs.Device.{FlogState, opened, received, transferred, persisted}

-- an ORDERED put that is no barrier
abbrev pub put_of : ℕ → ℕ → ℕ → Command
put_of id block byte = record { parts = record { id = id; block = block; body = byte ∷ [] } ∷ []; priority = Ordered; barrier = false; flush = None }

-- the image before, of three blocks
abbrev pub zeros : List (List ℕ)
zeros = (0 ∷ []) ∷ (0 ∷ []) ∷ (0 ∷ []) ∷ []

-- the image after all three puts
abbrev pub bodies : List (List ℕ)
bodies = (17 ∷ []) ∷ (34 ∷ []) ∷ (51 ∷ []) ∷ []

-- a device that takes three requests, with no failure and no power cut
abbrev pub start : FlogState
start = opened zeros (record { depth = 32; limit = 3; segments = 3; fail_at = None; cut_at = None })

-- three puts wait, one of each block
abbrev pub queued : FlogState
queued = received (received (received start (put_of 0 0 17)) (put_of 1 1 34)) (put_of 2 2 51)

-- the first page is not programmed, and the two behind it are
abbrev pub gap : FlogState
gap = persisted (persisted (transferred (transferred (transferred queued 0) 0) 0) 1) 1

-- all three are
abbrev pub filled : FlogState
filled = persisted gap 0

-- and folded
abbrev pub folded : FlogState
folded = persisted (persisted (persisted filled 0) 0) 0
