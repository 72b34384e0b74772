use Rattle.std.proofs.Common.{rules, ◌≡◌, None, Some, slice_index_or, sym, ap, ◌∙◌}
use Rattle.std.proofs.lemmas.Bool.{false≢true}
use Rattle.std.proofs.lemmas.Result.{IfOk-weaker}
use Rattle.page_cache.specs.Pages.{Cache}
use Rattle.commit_actor.specs.Actor.{CommitActor}
use Rattle.flush_actor.specs.Waits.{no_wait}
use Rattle.flush_actor.specs.declared.wait.Wait.{Wait}
use Rattle.host_machine.specs.Host.{unsent_on}
use Rattle.host_core.specs.begun.Steps.{goes_on}
use Rattle.host_core.specs.begun.code.Told.{found_queue_full}
use Rattle.host_core.proofs.BegunLemmas.Listed.{wait_is, has_target, is_pursuing}
use Rattle.host_core.proofs.begun.going_on.go_on.Goals as goal

pub returns-in-Some-clause-full : goal.returns-in-Some-clause-full
returns-in-Some-clause-full g c is = absurd (false≢true (sym c.still_durable.ensures.waits ∙ is))

pub returns-in-Some-target-clause-step : goal.returns-in-Some-target-clause-step
returns-in-Some-target-clause-step g c =
    let j = c.args.journal.now.part in
    let ps = c.args.pages.now.pages in
    let b = c.args.begun.now in
    let w = c.unwrap_or-wait.result in
    let same : w ≡ slice_index_or j.flush.waits c.args.thread no_wait = search (rules, wait_is) in
    let need : w.need ≡ None = search rules in
    let target : w.target ≡ Some c.in-Some-target.k = search rules in
    IfOk-weaker c.await_commit.result _ _ (λ p e.
    has_target (found_queue_full p) j c.await_commit.new.journal.part ps c.args.thread w b p c.in-Some-target.k need target e
    ∙ ap (λ (x : Wait). goes_on (found_queue_full p) j ps c.args.thread x b) same) (c.await_commit.ensures.ok b.list)

pub returns-in-None-clause-step : goal.returns-in-None-clause-step
returns-in-None-clause-step g c =
    let j = c.args.journal.now.part in
    let ps = c.args.pages.now.pages in
    let b = c.args.begun.now in
    let w = c.unwrap_or-wait.result in
    let same : w ≡ slice_index_or j.flush.waits c.args.thread no_wait = search (rules, wait_is) in
    let need : w.need ≡ None = search rules in
    let target : w.target ≡ None = search rules in
    let kept : c.send_next.new.journal ≡ c.args.journal.now = search rules in
    let pages : c.send_next.new.pages ≡ c.args.pages.now = search rules in
    let none : unsent_on c.send_next.new.pages.pages b.list ≡ None = ap (λ (x : Cache). unsent_on x.pages b.list) pages ∙ search rules in
    IfOk-weaker c.pursue.result _ _ (λ p e.
    is_pursuing (found_queue_full p) c.send_next.new.journal.part c.pursue.new.journal.part c.send_next.new.pages.pages c.args.thread w b p need target none e
    ∙ ap (λ (x : CommitActor). goes_on (found_queue_full p) x.part c.send_next.new.pages.pages c.args.thread w b) kept
    ∙ ap (λ (x : Cache). goes_on (found_queue_full p) j x.pages c.args.thread w b) pages
    ∙ ap (λ (x : Wait). goes_on (found_queue_full p) j ps c.args.thread x b) same) (c.pursue.ensures.ok b.list)
