use Rattle.std.specs.List.{count_by}
use Rattle.std.proofs.Common.{rules, ◌≡◌, sym, subst, arith}
use Rattle.tree_model.specs.Plain.{AreBornBefore}
use Rattle.minix_tables.specs.zones.Zones.{is_free}
use Rattle.volume_steps.specs.Now.{tree_of_now}
use Rattle.volume_steps.specs.Numbers.{number_in}
use Rattle.host_tests.proofs.VolumesLemmas.Births.{born_before}
use Rattle.host_tests.proofs.volumes.new_volumes.reply_done.Goals as goal

pub apply-requires : goal.apply-requires
apply-requires c =
    let v = c.args.volume.now in
    let own : c.in-Some.number ≡ number_in (tree_of_now v) 1 = search rules in
    let born = subst (λ n. AreBornBefore n (tree_of_now v)) (sym own) (born_before (tree_of_now v) 1) in
    let needed = c.needs.ensures c.in-Some.number born in
    let free : c.free_count.result ≡ count_by is_free v.zones.states = search rules in
    let enough = c.if-needs-free_count.false in
    record { room = record { plain = c.volumes_are_plain.ensures; born = born; enough = omega (arith, needed, free, enough) } }
