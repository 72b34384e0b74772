-- An end of a queue, as contracts see it.
use Rattle.std.specs.Prelude.{◌≡◌, ℕ, List, ◌++◌}
use Rattle.crossbeam_queue.specs.Fifo.{Held}

-- the capacity of the queue, and what went through this end, in order
pub record EndState (T : Type 0) : Type 0 where
  pub capacity : ℕ
  pub passed : List T

-- at a moment the queue held as much as it can: what was sent is what was taken until then, and that
abbrev pub WasFull : {T : Type 0} → ℕ → List T → Type 0
WasFull {T} capacity sent = Held {T = T} capacity (λ items. (taken : List T) × (sent ≡ taken ++ items))

-- at a moment the queue held nothing: what was sent until then is what was taken
abbrev pub WasEmpty : {T : Type 0} → List T → Type 0
WasEmpty {T} taken = Held {T = T} 0 (λ items. (sent : List T) × (sent ≡ taken ++ items))
