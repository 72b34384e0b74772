-- The table of the revokes of a log: for each block the place of the last transaction that revokes it.
use Rattle.std.specs.Prelude.{ℕ, ◌+◌, Bool, false, nat_le, ◌==◌, if◌then◌else◌, List, [], ◌∷◌, Option, Some, None}
use Rattle.std.specs.List.{list_any}
use Rattle.std.specs.Ordering.{nat_cmp}
use Rattle.std.specs.BTreeMap.{insert_entry, is_at}
use Rattle.std.specs.Map.{lookup}
use Rattle.log_model.specs.Marks.{Transaction}
use Rattle.log_model.specs.LastLogged.{bodies_of, last_of}

abbrev pub is_revoked : List ℕ → ℕ → Bool
is_revoked blocks b = list_any (λ r. r == b) blocks

-- the second one counts only where there is no first
abbrev pub later : Option ℕ → Option ℕ → Option ℕ
later (Some k) first = Some k
later None first = first

-- the table's entry of a block, of transactions that stand from this place on
abbrev pub last_revoke : ℕ → List Transaction → ℕ → Option ℕ
last_revoke i [] b = None
last_revoke i (t ∷ ts) b = later (last_revoke (i + 1) ts b) (if is_revoked t.revokes b then Some i else None)

-- the entry of a block in a table
abbrev pub place_of : List (ℕ × ℕ) → ℕ → Option ℕ
place_of entries b = lookup (is_at (nat_cmp b)) entries

-- the block has this place now, in place of one that it had
abbrev pub with_place : List (ℕ × ℕ) → ℕ → ℕ → List (ℕ × ℕ)
with_place entries b place = insert_entry nat_cmp entries b place

-- the bodies of a block in the transaction at place i are cancelled
abbrev pub cancels : Option ℕ → ℕ → Bool
cancels None i = false
cancels (Some k) i = nat_le i k

-- the new body, or the old one where there is no new one
abbrev pub or_else : Option (List ℕ) → Option (List ℕ) → Option (List ℕ)
or_else None old = old
or_else (Some x) old = Some x

-- what a replay by a table has for the block, after transactions that stand from this place on
abbrev pub replayed_by : Option ℕ → ℕ → List Transaction → ℕ → Option (List ℕ) → Option (List ℕ)
replayed_by r i [] b h = h
replayed_by r i (t ∷ ts) b h = replayed_by r (i + 1) ts b (if cancels r i then h else or_else (last_of (bodies_of t.bodies b)) h)
