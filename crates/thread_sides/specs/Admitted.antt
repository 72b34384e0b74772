-- What a side asks of an item before its part is given it, by one flag for each id below the limit: whether it came.
use Rattle.std.specs.Prelude.{◌≡◌, ℕ, suc, unwrap_or, ◌<◌, ◌==◌, ◌&&◌, ◌||◌, not, nat_lt, nat_le, Bool, true, false, List, [], ◌∷◌, length, set, Option, Some, None, is_some, slice_index_or, if◌then◌else◌}
use Rattle.blk_base.specs.Members.{In}
use Rattle.order_model.specs.declared.part.Part.{Part}
use Rattle.order_model.specs.declared.command.Command.{Command}
use Rattle.order_model.specs.declared.request.Request.{Request}
use Rattle.order_model.specs.OrderClosed.{is_flush}
use Rattle.order_model.specs.Device.{is_ordered, NoneTwice}
use Rattle.order_model.specs.Received.{ids_of}

-- the id is below the limit, and did not come
abbrev pub is_new : List Bool → ℕ → Bool
is_new flags id = nat_lt id (length flags) && not (slice_index_or flags id false)

-- each of these ids came
abbrev pub AreFlagged : List Bool → List ℕ → Type 0
AreFlagged flags ids = (id : ℕ) → In id ids → id < length flags → slice_index_or flags id false ≡ true

-- ---- requests

-- a barrier is order-preserving, and a flush is so and has the barrier flag
abbrev pub keeps_flags : Request → Bool
keeps_flags r = (not r.barrier || r.ordered) && (not (is_flush r.kind) || (r.ordered && r.barrier))

-- a scheduler that accepted so many may be given this one
abbrev pub may_accept : List Bool → ℕ → Request → Bool
may_accept flags accepted r = nat_lt accepted (length flags) && is_new flags r.id && keeps_flags r

-- ---- commands

-- the ids come, one after the other, if none of them did
abbrev pub take_new : List Bool → List ℕ → Option (List Bool)
take_new flags [] = Some flags
take_new flags (id ∷ ids) = if is_new flags id then take_new (set flags id true) ids else None

-- all parts go to blocks below this one
abbrev pub all_within : ℕ → List Part → Bool
all_within blocks [] = true
all_within blocks (p ∷ ps) = nat_lt p.block blocks && all_within blocks ps

-- both are true, or neither is
abbrev pub same_bool : Bool → Bool → Bool
same_bool a b = if a then b else not b

-- it is a flush or has parts, and a barrier or a flush is ORDERED
abbrev pub is_well_formed : Command → Bool
is_well_formed c = same_bool (is_some c.flush) (length c.parts == 0) && (is_ordered c.priority || not (c.barrier || is_some c.flush))

-- a device of so many blocks may be given it, whatever its ids are
abbrev pub is_fit : ℕ → Command → Bool
is_fit blocks c = nat_le (length c.parts) 16 && is_well_formed c && all_within blocks c.parts

-- how many ids came
abbrev pub count_set : List Bool → ℕ
count_set [] = 0
count_set (true ∷ fs) = suc (count_set fs)
count_set (false ∷ fs) = count_set fs

-- the flags after a command, with those of its ids up; none where one of them came before
abbrev pub flags_behind : List Bool → Command → List Bool
flags_behind flags c = unwrap_or (take_new flags (ids_of c)) []

-- the device may take the command: its blocks are on the disk, and none of its ids came before
abbrev pub may_take : List Bool → ℕ → Command → Bool
may_take flags blocks c = is_fit blocks c && is_some (take_new flags (ids_of c))

-- each of these ids came, once, and no other
pub record AreCounted (flags : List Bool) (ids : List ℕ) : Type 0 where
  pub flagged : AreFlagged flags ids
  pub once : NoneTwice ids
  pub counted : length ids ≡ count_set flags
