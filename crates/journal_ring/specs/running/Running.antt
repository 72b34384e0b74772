-- The running transaction as plain data.
use Rattle.std.specs.Int.{div_ceil}
use Rattle.std.specs.Prelude.{ℕ, ◌+◌, Bool, true, false, nat_le, List, [], ◌∷◌, length}
use Rattle.number_sets.specs.Sets.{with, without_all}
use Rattle.journal_ring.specs.running.Plan.{Writers}

-- the transaction whose plan is not built yet
pub record Running : Type 0 where
  pub number : ℕ
  -- the blocks whose bodies it will log, in rising order; zones of metadata that it freed; the births of nodes
  -- whose size, zones or slots it changed
  pub touched : List ℕ
  pub revoked : List ℕ
  pub changed : List ℕ
  -- somebody wants it closed
  pub wanted : Bool

-- transaction k before its first call
abbrev pub fresh : ℕ → Running
fresh k = record { number = k; touched = []; revoked = []; changed = []; wanted = false }

-- log blocks of b bodies and r revokes: revoke blocks, descriptors, the bodies and the commit block
abbrev pub log_blocks_for : Writers → ℕ → ℕ → ℕ
log_blocks_for w b r = div_ceil r w.most_revokes + div_ceil b w.most_tags + b + 1

-- how many log blocks it would have if it were closed now
abbrev pub log_needs : Writers → Running → ℕ
log_needs w r = log_blocks_for w (length r.touched) (length r.revoked)

-- It can still grow by one call more: no call touches more than `zmap` + 12 blocks, where `zmap` is the number of blocks
-- of the zone bitmap, nor revokes more than 520.
abbrev pub fits_in : Writers → ℕ → ℕ → Running → Bool
fits_in w zmap quota r = nat_le (log_blocks_for w (length r.touched + zmap + 12) (length r.revoked + 520)) quota

-- ---- what a call changes, one by one

-- block b is to be logged
abbrev pub touched_one : ℕ → Running → Running
touched_one b r = record r { touched = with r.touched b }

-- a revoked block is not logged
abbrev pub revoked_one : ℕ → Running → Running
revoked_one b r = record r { touched = without_all r.touched (b ∷ []); revoked = with r.revoked b }

-- f is the birth of the node
abbrev pub changed_one : ℕ → Running → Running
changed_one f r = record r { changed = with r.changed f }

-- somebody wants it closed
abbrev pub wanted_one : Running → Running
wanted_one r = record r { wanted = true }

-- ---- what a whole call changes

abbrev pub all_touched : List ℕ → Running → Running
all_touched [] r = r
all_touched (b ∷ bs) r = all_touched bs (touched_one b r)

abbrev pub all_revoked : List ℕ → Running → Running
all_revoked [] r = r
all_revoked (b ∷ bs) r = all_revoked bs (revoked_one b r)

abbrev pub all_changed : List ℕ → Running → Running
all_changed [] r = r
all_changed (f ∷ fs) r = all_changed fs (changed_one f r)

-- it touched these blocks, revoked these, and changed these nodes, in this order
abbrev pub all_noted : List ℕ → List ℕ → List ℕ → Running → Running
all_noted blocks revoked nodes r = all_changed nodes (all_revoked revoked (all_touched blocks r))
