-- Bodies that are still to be sent home.
use Rattle.std.specs.List.{filter}
use Rattle.std.specs.Prelude.{ℕ, not, List}
use Rattle.blk_base.specs.Members.{In, IsAscending}
use Rattle.log_model.specs.Marks.{Logged, Transaction}
use Rattle.number_sets.specs.Sets.{has}
use Rattle.journal_ring.specs.LogRing.{put_homes}

-- the homes that a transaction does not revoke, and what a commit block leaves
abbrev pub unrevoked : List ℕ → List Logged → List Logged
unrevoked blocks = filter (λ (l : Logged). not (has blocks l.block))

abbrev pub commit_homes : Transaction → List Logged → List Logged
commit_homes t homes = put_homes (unrevoked t.revokes homes) t.bodies

-- homes are of different blocks, in rising order
abbrev pub IsRisingHomes : List Logged → Type 0
IsRisingHomes = IsAscending (λ (l : Logged). l.block)

-- it revokes no block that it has a body of
abbrev pub IsApart : Transaction → Type 0
IsApart t = (l : Logged) → In l t.bodies → In l.block t.revokes → ⊥
