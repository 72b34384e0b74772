-- What the searches over the requests that wait find.
use Rattle.std.specs.Prelude.{◌≡◌, ℕ, ◌<◌, Bool, true, false, List, Option, Some, None, MatchOption, slice_get, if◌then◌else◌}
use Rattle.std.specs.Option.{option_and_then, option_map_or}
use Rattle.order_model.specs.OrderClosed.{kind_block}
use Rattle.schedulers.specs.reassign.Epoch.{EpochState, Waiting}
use Rattle.schedulers.specs.declared.elevator.searches.Found.{Found}
use Rattle.schedulers.specs.elevator.Elevator.{meets_before, listed, next_part}

-- the block of the put at place i
abbrev pub block_there : List Waiting → ℕ → Option ℕ
block_there ws i = option_and_then (λ (w : Waiting). kind_block w.request.kind) (slice_get ws i)

-- the head meets the block after this one, where there is one
abbrev pub is_behind : ℕ → Option ℕ → ℕ → Bool
is_behind head after block = option_map_or (λ a. meets_before head a block) after true

-- the better one of the best so far and of the put at a place
abbrev pub better_than : ℕ → Option Found → ℕ → ℕ → Option Found
better_than head None at block = Some (record { at = at; block = block })
better_than head (Some f) at block = if meets_before head block f.block then Some (record { at = at; block = block }) else Some f

-- the same, where the put lies behind `after`; else the best so far
abbrev pub better : ℕ → Option ℕ → Option Found → ℕ → ℕ → Option Found
better head after best at block = if is_behind head after block then better_than head best at block else best

-- of the puts before place n that lie behind, this is the one that the head meets first, and the first of its block
pub record IsNextBelow (ws : List Waiting) (head : ℕ) (after : Option ℕ) (n : ℕ) (f : Found) : Type 0 where
  pub within : f.at < n
  pub there : block_there ws f.at ≡ Some f.block
  pub behind : is_behind head after f.block ≡ true
  pub least : (j b : ℕ) → j < n → block_there ws j ≡ Some b → is_behind head after b ≡ true → meets_before head b f.block ≡ false
  pub first : (j : ℕ) → j < f.at → block_there ws j ≡ Some f.block → ⊥

-- none of them lies behind
abbrev pub NoneBelow : List Waiting → ℕ → Option ℕ → ℕ → Type 0
NoneBelow ws head after n = (j b : ℕ) → j < n → block_there ws j ≡ Some b → is_behind head after b ≡ false

-- the best of the puts before place n is the next one behind `after`; it is none exactly where none lies behind
abbrev pub IsBest : List Waiting → ℕ → Option ℕ → ℕ → Option Found → Type 0
IsBest ws head after n best = MatchOption best (NoneBelow ws head after n) (IsNextBelow ws head after n)

-- the request at place i of those that wait stands at place n of the list
pub record IsListedAt (ws : List Waiting) (head n i : ℕ) : Type 0 where
  pub waiting : Waiting
  pub there : slice_get ws i ≡ Some waiting
  pub listed_at : slice_get (listed head ws) n ≡ Some waiting

-- the first put of this block
pub record IsFirstPut (ws : List Waiting) (block i : ℕ) : Type 0 where
  pub there : block_there ws i ≡ Some block
  pub first : (j : ℕ) → j < i → block_there ws j ≡ Some block → ⊥

-- the request at place i of those that wait joins
pub record IsJoining (queue : EpochState) (block : ℕ) (ordered : Bool) (i : ℕ) : Type 0 where
  pub waiting : Waiting
  pub there : slice_get queue.waiting i ≡ Some waiting
  pub next : next_part queue block ordered ≡ Some waiting
