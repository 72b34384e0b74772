use Rattle.std.proofs.Common.{◌≡◌, ◌<◌, arith, ap, sym, ◌∙◌, length, suc, ◌-◌}
use Rattle.order_model.specs.History.{commands_of}
use Rattle.order_model.specs.Received.{first_part}
use Rattle.std.proofs.lemmas.List.{length-map}
use Rattle.order_model.specs.code.Rows.{part_of, parts_kept}
use Rattle.order_model.proofs.Histories.{length-commands_of, first_part-kept}
use Rattle.order_model.proofs.history.Commands.first_part.Goals as goal

pub index-requires : goal.index-requires
index-requires c =
    let s = c.self.inside in
    let n = length-commands_of 0 s.ends.items (parts_kept s.stored.items s.rows.items) in
    let within = rw (← c.self.view_is) at c.requires in
    omega (arith, s.ends.ok.0)

pub returns-else-k-eq0 : goal.returns-else-k-eq0
returns-else-k-eq0 c =
    let s = c.self.inside in
    let n = length-commands_of 0 s.ends.items (parts_kept s.stored.items s.rows.items) in
    let within = rw (← c.self.view_is) at c.requires in
    let k : suc (c.args.k - 1) ≡ c.args.k = omega arith in
    let lt : c.args.k - 1 < length s.ends.items = omega arith in
    let at = first_part-kept _ (c.args.k - 1) s.ends.items (parts_kept s.stored.items s.rows.items) _ c.self.invariant.ends (s.rows.ok.0 ∙ sym (length-map s.rows.items (part_of s.stored.items))) lt c.index.ensures in
    let all = ap (first_part (commands_of 0 s.ends.items (parts_kept s.stored.items s.rows.items))) k in
    rw (← c.self.view_is) (omega arith)
