use Rattle.std.proofs.Common.{◌≡◌, ◌+◌, ◌<◌, length, sym, ap, ◌∙◌, arith}
use Rattle.std.specs.List.{remove}
use Rattle.page_cache.specs.code.Gap.{Listed}
use Rattle.page_cache.proofs.Turns.{length-turned, turned_gone}
use Rattle.page_cache.proofs.gap_list.GapList.remove.Goals as goal

pub returns-clause-items : goal.returns-clause-items
returns-clause-items g c =
    let size : c.turn.result + c.args.at ≡ length c.turn.new.ring.items = c.turn.ensures.behind ∙ sym c.turn.ensures.len in
    let all = ap (λ (l : Listed _). length l.items) c.self.view_is in
    let long = length-turned c.self.inside.behind c.self.inside.ring.items in
    let inside : c.args.at < length c.turn.new.ring.items = omega (arith, c.requires, c.turn.ensures.len, all, long) in
    turned_gone c.self.inside.ring.items c.turn.new.ring.items c.pop_front.new.self.items c.self.inside.behind c.args.at c.turn.result c.pop_front.ensures.rest size inside c.turn.ensures.items
    ∙ ap (λ (l : Listed _). remove l.items c.args.at) c.self.view_is
