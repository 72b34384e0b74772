-- Entries of a history. The one at place i, counted from 0, has the number i + 1.
use Rattle.std.specs.Prelude.{◌≡◌, ◌≢◌, ℕ, ◌<◌, List, Some, slice_get}
use Rattle.host_machine.specs.State.{Ending, Begins, Ends, Entry}

module _ {C R : Type 0} (history : List (Entry C R)) where
  -- a barrier or sync call of thread t begins at place i
  abbrev pub BeginsAt : ℕ → ℕ → C → Type 0
  BeginsAt i t c = slice_get history i ≡ Some (record { thread = t; call = c; what = Begins })

  -- a call of thread t ends at place i
  abbrev pub EndsAt : ℕ → ℕ → C → Ending R → Type 0
  EndsAt i t c e = slice_get history i ≡ Some (record { thread = t; call = c; what = Ends e })

  -- no entry of thread t stands behind place i and before place j
  abbrev pub NoneBetween : ℕ → ℕ → ℕ → Type 0
  NoneBetween t i j = (k : ℕ) (x : Entry C R) → i < k → k < j → slice_get history k ≡ Some x → x.thread ≢ t

  -- the call that ends at place e began at place i: that is the last entry of its thread before
  pub record IsBeginOf (i e t : ℕ) (c : C) : Type 0 where
    pub begins : BeginsAt i t c
    pub earlier : i < e
    pub last : NoneBetween t i e
