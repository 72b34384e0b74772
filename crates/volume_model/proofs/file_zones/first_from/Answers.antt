use Rattle.std.proofs.Common.{rules, of_calls}
use Rattle.std.specs.Prelude.{nat_lt}
use Rattle.std.proofs.lemmas.Fn.{always_returns_same}
use Rattle.volume_ops.specs.declared.found.Mapped.{Mapped}
use Rattle.volume_model.specs.laws.Holes.{below_parted, cut_parted}
use Rattle.volume_model.proofs.file_zones.first_from.Goals as goal

pub returns : goal.returns
returns c =
    cut_parted c.args.items.now c.args.from c.partition_point.result c.partition_point.ensures.bound
    (c.partition_point.ensures.partitioned (λ (m : Mapped). nat_lt m.index c.args.from) (always_returns_same _ _ _ (λ a r f k. search (rules, of_calls))) (below_parted c.args.items.now c.args.from c.requires))
