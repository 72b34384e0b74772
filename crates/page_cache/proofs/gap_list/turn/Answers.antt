use Rattle.std.proofs.Common.{rules, ◌≡◌, ◌+◌, ◌-◌, ◌≤◌, ◌⊎◌, length, subst, arith}
use Rattle.page_cache.proofs.Turns.{turned_to}
use Rattle.page_cache.proofs.gap_list.turn.Goals as goal

pub returns-clause-items : goal.returns-clause-items
returns-clause-items g c =
    let ring = c.args.ring.now.items in
    let len : c.len-len.result ≡ length ring = search rules in
    let short : c.distance.result ≤ length ring = subst (λ n. c.distance.result ≤ n) len c.distance.ensures.within in
    let far : (c.distance.result ≡ c.args.behind + c.args.at) ⊎ (c.distance.result + length ring ≡ c.args.behind + c.args.at) =
    subst (λ n. (c.distance.result ≡ c.args.behind + c.args.at) ⊎ (c.distance.result + n ≡ c.args.behind + c.args.at)) len c.distance.ensures.far in
    let size : c.len-len.result - c.args.at + c.args.at ≡ length ring = omega (arith, len, c.requires.place) in
    turned_to ring c.rotate_left.new.self.items c.args.behind c.args.at c.distance.result (c.len-len.result - c.args.at) c.rotate_left.ensures.items c.requires.behind c.requires.place short far size
