use Rattle.std.specs.Map.{keys_of}
use Rattle.std.specs.Ordering.{nat_cmp, is_lt}
use Rattle.std.proofs.Common.{rules, ◌≡◌, ℕ, ◌+◌, ◌≤◌, false, sym, ap, ◌∙◌, arith}
use Rattle.blk_base.specs.Members.{In}
use Rattle.blk_base.specs.laws.Members.{All-In, slice_get-In}
use Rattle.volume_model.specs.Trees.{tree_now}
use Rattle.volume_steps.specs.Now.{VolumeNow, tree_of_now}
use Rattle.volume_steps.specs.Numbers.{next_birth, number_in}
use Rattle.volume_calls.proofs.LastBirths.{next_is, next_taken, own_taken}
use Rattle.volume_calls.proofs.plain.PlainVolume.number_in.Goals as goal

pub returns-then-n-next : goal.returns-then-n-next
returns-then-n-next c =
    let m = c.parts.inside.nodes.entries in
    let last = c.in_ok-last.last.now in
    let p = c.in_ok-last.field-0-1.now in
    let there = slice_get-In m _ (last, p) c.in_ok-last.ensures.last in
    let above = λ (q : ℕ) (i : In q (keys_of m)). All-In (λ q. is_lt (nat_cmp last q) ≡ false) (keys_of m) q c.in_ok-last.ensures.all_up_to i in
    let next : c.in_ok-next.next ≡ last + 1 = search rules in
    next_taken c.args.n (next_birth (tree_now c.parts.inside.blocks m)) c.in_ok-next.next (next_is c.parts.inside.blocks m last p there above ∙ sym next) c.if-n-next.true
    ∙ ap (λ (v : VolumeNow). number_in (tree_of_now v) c.args.n) (c.parts.view_is ∙ c.self.view_is)

pub returns-else-n-next : goal.returns-else-n-next
returns-else-n-next c =
    let m = c.parts.inside.nodes.entries in
    let last = c.in_ok-last.last.now in
    let p = c.in_ok-last.field-0-1.now in
    let there = slice_get-In m _ (last, p) c.in_ok-last.ensures.last in
    let above = λ (q : ℕ) (i : In q (keys_of m)). All-In (λ q. is_lt (nat_cmp last q) ≡ false) (keys_of m) q c.in_ok-last.ensures.all_up_to i in
    let next : c.in_ok-next.next ≡ last + 1 = search rules in
    let most : c.in_ok-next.next ≤ c.args.n = (let no = c.if-n-next.false in omega arith) in
    own_taken c.args.n (next_birth (tree_now c.parts.inside.blocks m)) c.in_ok-next.next (next_is c.parts.inside.blocks m last p there above ∙ sym next) most
    ∙ ap (λ (v : VolumeNow). number_in (tree_of_now v) c.args.n) (c.parts.view_is ∙ c.self.view_is)
