-- What a device leaves after some of its writes.
use Rattle.std.specs.Prelude.{ℕ, zero, suc}

-- after so many writes to the medium, each the first of those that may be next
abbrev pub after_writes : {S : Type 0} → (S → ℕ → S) → ℕ → S → S
after_writes persisted zero s = s
after_writes persisted (suc n) s = after_writes persisted n (persisted s 0)
