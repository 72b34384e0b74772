use Rattle.std.specs.Prelude.{◌≡◌, IfOk}
use Rattle.std.proofs.Common.{sym, ap, subst, ◌∙◌}
use Rattle.std.specs.Option.{option_copied}
use Rattle.store_core.specs.code.LogNodes.{front_in}
use Rattle.store_core.proofs.LogReads.{log-blocks}
use Rattle.store_core.proofs.reading.log_blocks.Goals as goal

pub returns-in-Some-clause-blocks : goal.returns-in-Some-clause-blocks
returns-in-Some-clause-blocks c =
    let found = sym c.log_file.ensures ∙ ap option_copied c.in-Some.is in
    subst (λ bs. IfOk c.front_of.result (λ v. v.items ≡ bs)) (sym (log-blocks c.args.room c.args.tree.now ∙ ap (λ o. front_in o c.args.room) found)) c.front_of.ensures.front

pub returns-in-None-clause-blocks : goal.returns-in-None-clause-blocks
returns-in-None-clause-blocks c =
    let found = sym c.log_file.ensures ∙ ap option_copied c.in-None.is in
    c.new.ensures.items ∙ sym (log-blocks c.args.room c.args.tree.now ∙ ap (λ o. front_in o c.args.room) found)
