-- What holds of every call that is read, and of no other call.
use Rattle.std.specs.Prelude.{◌≡◌, ℕ, ◌*◌, ◌<◌, ◌≤◌, true, List, length}
use Rattle.hex.specs.Hex.{IsBytes}
use Rattle.tree_model.specs.declared.call.Call.{Call}
use Rattle.tree_model.specs.declared.call.Call.TheVariants as calls
use Rattle.line_grammar.specs.declared.calls.limits.TheConstants.{MOST_DIGITS, MOST_LENGTH, OFFSETS}
use Rattle.line_grammar.specs.calls.CallLines.{is_path_text}

-- where a path stands, there is a word of printed bytes
abbrev pub IsPathText : List ℕ → Type 0
IsPathText p = is_path_text p ≡ true

-- so many bytes from an offset on
pub record IsRange (off len : ℕ) : Type 0 where
  pub below : off < OFFSETS
  pub some : 1 ≤ len
  pub most : len ≤ MOST_LENGTH

-- 1 to 1,024 bytes
pub record AreBytes (bytes : List ℕ) : Type 0 where
  pub each : IsBytes bytes
  pub some : 1 ≤ length bytes
  pub most : 2 * length bytes ≤ MOST_DIGITS

-- a line can spell the call: its paths are printed, and its offsets, lengths and bytes are within their limits
abbrev pub IsWellFormed : Call → Type 0
IsWellFormed (calls.Mkdir p) = IsPathText p
IsWellFormed (calls.Rmdir p) = IsPathText p
IsWellFormed (calls.Create p) = IsPathText p
IsWellFormed (calls.Unlink p) = IsPathText p
IsWellFormed (calls.Link p q) = IsPathText p × IsPathText q
IsWellFormed (calls.Rename p q) = IsPathText p × IsPathText q
IsWellFormed (calls.Truncate p size) = IsPathText p × (size < OFFSETS)
IsWellFormed (calls.Write p off len value) = IsPathText p × IsRange off len × (value < 256)
IsWellFormed (calls.Bytes p off bytes) = IsPathText p × (off < OFFSETS) × AreBytes bytes
IsWellFormed (calls.Read p off len) = IsPathText p × IsRange off len
IsWellFormed (calls.List p) = IsPathText p
IsWellFormed (calls.Stat p) = IsPathText p
IsWellFormed (calls.Fsync p) = IsPathText p
IsWellFormed (calls.Fdatasync p) = IsPathText p
IsWellFormed (calls.Fbarrier p) = IsPathText p
IsWellFormed (calls.Fdatabarrier p) = IsPathText p
IsWellFormed calls.Sync = Unit {0}
