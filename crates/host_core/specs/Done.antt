-- That every program is at its end.
use Rattle.std.specs.Prelude.{◌==◌, ◌&&◌, Bool, true, List, [], ◌∷◌, length}
use Rattle.host_machine.specs.State.{Thread}

-- no thread has a call left
abbrev pub is_done : {C : Type 0} → List (Thread C) → Bool
is_done [] = true
is_done (t ∷ ts) = (length t.calls == 0) && is_done ts
