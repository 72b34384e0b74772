use Rattle.std.proofs.Common.{◌≡◌, ◌∙◌, not, ap, sym, rules, tests}
use Rattle.std.specs.List.{list_all}
use Rattle.std.proofs.lemmas.Iterator.Consumers.{YieldsList-from_deque}
use Rattle.std.proofs.lemmas.Iterator.Search.{all_from_yields_List}
use Rattle.schedulers.specs.reassign.Epoch.{Waiting, stands_before}
use Rattle.schedulers.proofs.ReassignLemmas.Leaving.{put-may_leave}
use Rattle.schedulers.proofs.reassign.queue.may_leave.Goals as goal

pub returns : goal.returns
returns c =
    let ws = c.args.waiting.now.items in
    let w = c.args.w.now in
    let test = λ (v : Waiting). not (stands_before v w) in
    let all : c.all.result ≡ list_all test ws = all_from_yields_List test _ _ _ c.all.ensures.ran (YieldsList-from_deque ws cc) (λ x b q k. search (rules, tests)) in
    put-may_leave ws w _ _ (ap (λ (v : Waiting). v.request.kind) c.w.view_is) (sym c.is_flush.ensures ∙ c.if-is_flush.false) all
