use Rattle.std.proofs.Common.{◌≡◌, ◌++◌, [], ◌∷◌, ℕ, List, sym, ap, subst, ◌∙◌}
use Rattle.session_grammar.specs.WellFormed.{IsWellFormed}
use Rattle.session_report.specs.bulk.code.Lines.{threads_lines}
use Rattle.session_report.proofs.BulkLemmas.Formed.{bulk_formed, script_made}
use Rattle.session_report.proofs.bulk.workload.script_of_bulk.Goals as goal

pub returns-clause-script : goal.returns-clause-script
returns-clause-script c =
    script_made c.args.n c.deref.result.now c.header.result c.in_ok-programs.programs c.lines.inside.lines.items c.in_ok-rounds.field-0 c.in_ok-default_steps.field-0
    (c.deref.ensures.value ∙ c.in_ok-words.ensures) c.header.ensures c.in_ok-programs.ensures.calls
    (c.lines.view_is ∙ c.in_ok-programs.ensures.lines ∙ ap (λ (ls : List (List ℕ)). ls ++ threads_lines c.deref.result.now (1 ∷ 2 ∷ 3 ∷ 4 ∷ [])) c.new-lines.ensures)
    c.in_ok-rounds.ensures c.in_ok-default_steps.ensures

pub returns-clause-formed : goal.returns-clause-formed
returns-clause-formed c = subst IsWellFormed (sym (returns-clause-script c)) (bulk_formed c.args.n c.requires.most)
