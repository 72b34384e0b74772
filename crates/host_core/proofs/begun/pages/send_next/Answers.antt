use Rattle.std.proofs.Common.{rules, ◌≡◌, ◌+◌, ◌≤◌, ◌&&◌, ◌||◌, true, false, length, drop, Some, is_none, sym, ap, ◌∙◌}
use Rattle.order_model.specs.declared.turn.Turn.TheVariants as turns
use Rattle.page_cache.specs.Pages.{Cache, page_at, mark_page}
use Rattle.page_cache.specs.declared.cached_page.PageState.TheVariants.{Firm}
use Rattle.flush_actor.specs.Kinds.{is_data}
use Rattle.flush_actor.specs.Steps.{submit_turn}
use Rattle.commit_actor.specs.Actor.{CommitActor}
use Rattle.host_machine.specs.Host.{unsent_on}
use Rattle.host_machine.specs.State.{Begun}
use Rattle.host_core.specs.begun.Steps.{page_out}
use Rattle.host_core.proofs.BegunLemmas.Sends.{none_left, sent_is, with_flag, from_not}
use Rattle.host_core.proofs.begun.pages.send_next.Goals.{then-is_data, else-is_data}
use Rattle.host_core.proofs.begun.pages.send_next.Goals as goal

pub returns-then-begun-clause-some : goal.returns-then-begun-clause-some
returns-then-begun-clause-some g c t w =
    let b = c.begun.inside in
    let items = b.list.items in
    let ps = c.args.pages.now.pages in
    let at = c.in_ok-at.at in
    let p = c.in_ok-at.page in
    let kind : b.kind ≡ c.args.begun.now.kind = ap (λ (x : Begun). x.kind) c.begun.view_is in
    let last : c.is_none-last.result ≡ is_none (unsent_on ps (drop (at + 1) items)) = from_not _ c.is_none-last.result c.is_none-last.ensures ∙ none_left _ c.next_unsent-2.result (unsent_on ps (drop (at + 1) c.deref-2.result.now)) c.next_unsent-2.ensures.next ∙ ap (λ l. is_none (unsent_on ps (drop (at + 1) l))) c.deref-2.ensures.value in
    let asked : c.is_data.result ≡ is_data c.args.begun.now.kind = c.is_data.ensures ∙ ap is_data kind in
    let barrier : c.if-is_data.barrier ≡ (is_data c.args.begun.now.kind && is_none (unsent_on ps (drop (at + 1) items))) =
    elim c.if-is_data.branch [
      | then-is_data v ↦ v.barrier-is ∙ last ∙ with_flag (is_data c.args.begun.now.kind) true _ (sym asked ∙ v.if-is_data.true)
      | else-is_data v ↦ v.barrier-is ∙ v.if-is_data.false ∙ with_flag (is_data c.args.begun.now.kind) false _ (sym asked ∙ v.if-is_data.false)
    ] in
    let sent : b.sent_barrier ≡ (c.args.begun.now.sent_barrier || c.if-is_data.barrier) = search rules in
    let found : Some (p, drop (at + 1) items) ≡ unsent_on ps (drop b.passed items) = search rules in
    let low : b.passed ≤ at = search rules in
    let did : turns.Did ≡ submit_turn false c.args.journal.now.part.flush = search rules in
    let out : c.submit.new.self.part ≡ page_out c.args.journal.now.part p c.if-is_data.barrier = ap (λ (x : CommitActor). x.part) (c.in-Did.ensures.part) in
    let id : c.submitted-id.result ≡ length c.args.journal.now.part.flush.requests = search rules in
    let pages : c.mark.new.self.pages ≡ mark_page ps p.birth p.index Firm = ap (λ (x : Cache). x.pages) c.mark.ensures in
    let there : page_at ps p.birth p.index ≡ Some p = search rules in
    sent_is c.args.journal.now.part c.submit.new.self.part ps c.mark.new.self.pages c.args.begun.now items b.passed at c.submitted-id.result p c.if-is_data.barrier b.sent_barrier t w
    (sym (ap (λ (x : Begun). x.list) c.begun.view_is)) found low barrier sent did out id pages there

pub returns-else-begun-clause-some : goal.returns-else-begun-clause-some
returns-else-begun-clause-some g c t w =
    let b = c.begun.inside in
    let items = b.list.items in
    let ps = c.args.pages.now.pages in
    let at = c.in_ok-at.at in
    let p = c.in_ok-at.page in
    let kind : b.kind ≡ c.args.begun.now.kind = ap (λ (x : Begun). x.kind) c.begun.view_is in
    let last : c.is_none-last.result ≡ is_none (unsent_on ps (drop (at + 1) items)) = from_not _ c.is_none-last.result c.is_none-last.ensures ∙ none_left _ c.next_unsent-2.result (unsent_on ps (drop (at + 1) c.deref-2.result.now)) c.next_unsent-2.ensures.next ∙ ap (λ l. is_none (unsent_on ps (drop (at + 1) l))) c.deref-2.ensures.value in
    let asked : c.is_data.result ≡ is_data c.args.begun.now.kind = c.is_data.ensures ∙ ap is_data kind in
    let barrier : c.if-is_data.barrier ≡ (is_data c.args.begun.now.kind && is_none (unsent_on ps (drop (at + 1) items))) =
    elim c.if-is_data.branch [
      | then-is_data v ↦ v.barrier-is ∙ last ∙ with_flag (is_data c.args.begun.now.kind) true _ (sym asked ∙ v.if-is_data.true)
      | else-is_data v ↦ v.barrier-is ∙ v.if-is_data.false ∙ with_flag (is_data c.args.begun.now.kind) false _ (sym asked ∙ v.if-is_data.false)
    ] in
    let sent : c.if-is_data.barrier ≡ (c.args.begun.now.sent_barrier || c.if-is_data.barrier) = search rules in
    let found : Some (p, drop (at + 1) items) ≡ unsent_on ps (drop b.passed items) = search rules in
    let low : b.passed ≤ at = search rules in
    let did : turns.Did ≡ submit_turn false c.args.journal.now.part.flush = search rules in
    let out : c.submit.new.self.part ≡ page_out c.args.journal.now.part p c.if-is_data.barrier = ap (λ (x : CommitActor). x.part) (c.in-Did.ensures.part) in
    let id : c.submitted-id.result ≡ length c.args.journal.now.part.flush.requests = search rules in
    let pages : c.mark.new.self.pages ≡ mark_page ps p.birth p.index Firm = ap (λ (x : Cache). x.pages) c.mark.ensures in
    let there : page_at ps p.birth p.index ≡ Some p = search rules in
    sent_is c.args.journal.now.part c.submit.new.self.part ps c.mark.new.self.pages c.args.begun.now items b.passed at c.submitted-id.result p c.if-is_data.barrier c.if-is_data.barrier t w
    (sym (ap (λ (x : Begun). x.list) c.begun.view_is)) found low barrier sent did out id pages there
