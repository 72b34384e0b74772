use Rattle.std.proofs.Common.{rules, ◌≡◌, ◌<◌, ◌-◌, length, Some, slice_get, slice_index_or, ap, arith, ◌∙◌}
use Rattle.std.proofs.lemmas.Option.{unwrap_or-slice_get}
use Rattle.flush_actor.specs.Waits.{no_wait}
use Rattle.host_core.specs.Now.{HostNow}
use Rattle.host_core.specs.Standings.{standing_of}
use Rattle.host_core.specs.code.Fields.{IsWithin}
use Rattle.host_core.proofs.Advanced.{found_there, within_at}
use Rattle.host_core.proofs.Stands.{standing_is}
use Rattle.host_core.proofs.host.Host.standing.Goals as goal

pub overflow_cast-result : goal.overflow_cast-result
overflow_cast-result c =
    let ts = c.self.inside.threads.items in
    let at = c.args.thread - 1 in
    let th = c.in-Some.caller.now in
    let low : at < length ts = omega (arith, c.in-Some.ensures.lookup.3.0, ap length c.deref.ensures.value) in
    let within : IsWithin th = within_at ts at th c.self.invariant.within low (c.in-Some.ensures.lookup.3.1 th ∙ ap (λ xs. slice_index_or xs at th) c.deref.ensures.value) in
    omega (arith, within.short, c.len.ensures, th.program.ok.0)

pub returns-clause-ok : goal.returns-clause-ok
returns-clause-ok c =
    let i = c.self.inside in
    let ts = i.threads.items in
    let at = c.args.thread - 1 in
    let th = c.in-Some.caller.now in
    let there : slice_get ts at ≡ Some th = found_there c.deref.result.now ts at th c.deref.ensures.value c.in-Some.ensures.lookup.3.0 (c.in-Some.ensures.lookup.3.1 th) in
    let low : at < length ts = omega (arith, c.in-Some.ensures.lookup.3.0, ap length c.deref.ensures.value) in
    let within : IsWithin th = within_at ts at th c.self.invariant.within low (c.in-Some.ensures.lookup.3.1 th ∙ ap (λ xs. slice_index_or xs at th) c.deref.ensures.value) in
    let wait : c.unwrap_or-wait.result ≡ slice_index_or i.parts.journal.part.flush.waits at no_wait = search (rules, unwrap_or-slice_get) in
    standing_is i.parts.journal i.parts.volume i.parts.pages i.parts.owners.items i.cuts.items i.history.items ts c.args.thread th c.unwrap_or-wait.result c.in_ok-state.state c.len.result there within wait
    c.in_ok-state.ensures.ok (omega (arith, c.len.ensures, th.program.ok.0))
    ∙ ap (λ (x : HostNow). standing_of x c.args.thread) c.self.view_is
