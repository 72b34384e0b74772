-- Runs of equal bytes.
use Rattle.std.specs.Prelude.{◌≢◌, ℕ, ◌+◌, ◌<◌, ◌==◌, if◌then◌else◌, List, [], ◌∷◌, ◌++◌, codes, replicate}
use Rattle.std.specs.Fmt.{decimal}
use Rattle.byte_text.specs.Hex.{hex_text}

-- so many equal bytes, one behind the other
pub record Run : Type 0 where
  pub len : ℕ
  pub value : ℕ

-- a run of `len` bytes `value`, and the runs of what comes behind it
abbrev pub runs_behind : ℕ → ℕ → List ℕ → List Run
runs_behind len value [] = record { len = len; value = value } ∷ []
runs_behind len value (b ∷ bs) =
    if b == value then runs_behind (len + 1) value bs
    else record { len = len; value = value } ∷ runs_behind 1 b bs

-- the runs of these bytes
abbrev pub runs_of : List ℕ → List Run
runs_of [] = []
runs_of (b ∷ bs) = runs_behind 1 b bs

-- the bytes of these runs
abbrev pub bytes_of : List Run → List ℕ
bytes_of [] = []
bytes_of (r ∷ rs) = replicate r.len r.value ++ bytes_of rs

-- no run is empty, and each has another byte than the one before it
abbrev pub AreMaximalFrom : Run → List Run → Type 0
AreMaximalFrom r [] = 0 < r.len
AreMaximalFrom r (s ∷ rs) = (0 < r.len) × (r.value ≢ s.value) × AreMaximalFrom s rs

abbrev pub AreMaximal : List Run → Type 0
AreMaximal [] = Unit {0}
AreMaximal (r ∷ rs) = AreMaximalFrom r rs

-- a run: its length, an x, and its byte
abbrev pub run_text : Run → List ℕ
run_text r = decimal r.len ++ codes "x" ++ hex_text r.value

-- further runs, each behind a plus
abbrev pub more_text : List Run → List ℕ
more_text [] = []
more_text (r ∷ rs) = codes "+" ++ run_text r ++ more_text rs

-- runs, parted by a plus; a dash where there is none
abbrev pub joined : List Run → List ℕ
joined [] = codes "-"
joined (r ∷ rs) = run_text r ++ more_text rs

-- the text of these bytes
unfoldable pub runs_text : List ℕ → List ℕ
runs_text bytes = joined (runs_of bytes)
