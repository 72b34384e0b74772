-- Blocks that a transaction holds, and those of them that the running transaction wants, as plain data.
use Rattle.std.specs.List.{filter, list_any}
use Rattle.std.specs.Prelude.{ℕ, ◌==◌, Bool, not, List, [], ◌∷◌, Option, Some, None, if◌then◌else◌}
use Rattle.flush_actor.specs.declared.conflicts.held.Held.{Held}
use Rattle.number_sets.specs.Keyed.{put_by}
use Rattle.number_sets.specs.Sets.{with_all}

-- held blocks, each with its transaction, and those of them that the running transaction wants; both in rising order
-- of block
pub record Conflicts : Type 0 where
  pub held : List Held
  pub wanted : List ℕ

abbrev pub is_held : Conflicts → ℕ → Bool
is_held c b = list_any (λ (h : Held). h.block == b) c.held

-- transaction k holds one block more
abbrev pub put_held : List Held → ℕ → ℕ → List Held
put_held held k b = put_by (λ (h : Held). h.block) held (record { block = b; transaction = k })

-- transaction k holds these blocks
abbrev pub hold : ℕ → List ℕ → Conflicts → Conflicts
hold k [] c = c
hold k (b ∷ bs) c = hold k bs (record c { held = put_held c.held k b })

-- those of these blocks that are held are wanted
abbrev pub want : List ℕ → Conflicts → Conflicts
want blocks c = record c { wanted = with_all c.wanted (filter (is_held c) blocks) }

-- the holds of transactions that ended end, and a block that nobody holds is not wanted
abbrev pub unhold_by : (ℕ → Bool) → Conflicts → Conflicts
unhold_by ended c =
    let left = filter (λ (h : Held). not (ended h.transaction)) c.held in
    record { held = left; wanted = filter (λ b. list_any (λ (h : Held). h.block == b) left) c.wanted }

-- all holds of transaction k end
abbrev pub unhold : ℕ → Conflicts → Conflicts
unhold k = unhold_by (λ t. t == k)

-- the lowest block that is wanted
abbrev pub least : Conflicts → Option ℕ
least c = elim c.wanted as (λ _. Option ℕ) [ [] ↦ None | b ∷ bs ↦ Some b ]

-- the transaction that holds a block; 0 where none does
abbrev pub holder : List Held → ℕ → ℕ
holder [] b = 0
holder (h ∷ hs) b = if h.block == b then h.transaction else holder hs b

-- how many blocks there are, with what is held and wanted of them
pub record ConflictTable : Type 0 where
  pub blocks : ℕ
  pub conflicts : Conflicts

abbrev pub with_conflicts : ConflictTable → Conflicts → ConflictTable
with_conflicts t c = record { blocks = t.blocks; conflicts = c }
