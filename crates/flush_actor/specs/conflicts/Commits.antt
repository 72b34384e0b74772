-- Where the commit blocks of transactions stand, as plain data.
use Rattle.std.specs.List.{list_any}
use Rattle.std.specs.Prelude.{ℕ, ◌==◌, Bool, ◌&&◌, nat_lt, List, if◌then◌else◌}
use Rattle.flush_actor.specs.declared.conflicts.commits.CommitBlock.{CommitBlock}
use Rattle.number_sets.specs.Keyed.{put_by}

-- how many transactions there is room for, and their commit blocks, in rising order of transaction
pub record CommitTable : Type 0 where
  pub room : ℕ
  pub commits : List CommitBlock

abbrev pub has_commit : ℕ → List CommitBlock → Bool
has_commit k cs = list_any (λ (c : CommitBlock). c.transaction == k) cs

-- transaction k has its commit block before this request
abbrev pub is_committed : ℕ → ℕ → List CommitBlock → Bool
is_committed id k cs = list_any (λ (c : CommitBlock). c.transaction == k && nat_lt c.id id) cs

-- request id is the commit block of transaction k; the first one counts
abbrev pub with_commit : ℕ → ℕ → List CommitBlock → List CommitBlock
with_commit k id cs = if has_commit k cs then cs else put_by (λ (c : CommitBlock). c.transaction) cs (record { transaction = k; id = id })

abbrev pub with_commits : CommitTable → List CommitBlock → CommitTable
with_commits t cs = record { room = t.room; commits = cs }
