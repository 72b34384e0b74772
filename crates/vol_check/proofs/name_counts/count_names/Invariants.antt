use Rattle.std.proofs.Common.{◌≡◌, ℕ, ◌<◌, ◌+◌, ◌==◌, length, get_or}
use Rattle.std.specs.List.{count_by}
use Rattle.std.specs.Map.{values_of}
use Rattle.vol_check.specs.code.Names.{IsCount}
use Rattle.vol_check.proofs.name_counts.count_names.Given as goal

abbrev pub invariant-loop-birth : goal.invariant-loop-birth
invariant-loop-birth l = record {
  size : length l.counts.items ≡ length l.initial.counts.items;
  counted : (other : ℕ) → other < length l.initial.counts.items →
      IsCount (get_or l.counts.items other 0 + count_by (λ b. b == other) (values_of l.birth-iterator)) (get_or l.initial.counts.items other 0 + count_by (λ b. b == other) (values_of l.names));
}
