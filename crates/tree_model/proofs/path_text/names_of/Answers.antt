use Rattle.std.proofs.Common.{sym}
use Rattle.std.proofs.lemmas.Bool.{eqb-true, eqb-false}
use Rattle.std.proofs.lemmas.List.{nil_from_length}
use Rattle.tree_model.proofs.PathForms.{none_of_empty, none_of_other}
use Rattle.tree_model.proofs.NameTexts.{bad_path, root_path, no_path, named_path}
use Rattle.tree_model.proofs.path_text.names_of.Goals as goal

pub returns-in_default-clause-fault : goal.returns-in_default-clause-fault
returns-in_default-clause-fault c =
    bad_path c.args.path.now c.as_slice-text.result.now c.as_slice-text.ensures (none_of_empty c.as_slice-text.result.now (nil_from_length c.as_slice-text.result.now c.in_default.ensures.cases))

pub returns-then-slash-ne47-clause-fault : goal.returns-then-slash-ne47-clause-fault
returns-then-slash-ne47-clause-fault c =
    bad_path c.args.path.now c.as_slice-text.result.now c.as_slice-text.ensures (none_of_other c.as_slice-text.result.now c.in-Some.slash.now c.in-Some.rest.now c.in-Some.ensures.cases.0 c.if-slash-ne47.true)

pub returns-then-is_empty-clause-names : goal.returns-then-is_empty-clause-names
returns-then-is_empty-clause-names c =
    root_path c.args.path.now c.as_slice-text.result.now c.in-Some.slash.now c.in-Some.rest.now c.as_slice-text.ensures c.in-Some.ensures.cases.0 c.if-slash-ne47.false
    (nil_from_length c.in-Some.rest.now (eqb-true _ _ (sym c.if-is_empty.ensures)))

pub returns-then-not-have_path_names-clause-fault : goal.returns-then-not-have_path_names-clause-fault
returns-then-not-have_path_names-clause-fault c =
    no_path c.args.path.now c.as_slice-text.result.now c.in-Some.slash.now c.in-Some.rest.now c.as_slice-text.ensures c.in-Some.ensures.cases.0 c.if-slash-ne47.false
    (eqb-false _ _ (sym c.if-is_empty.ensures)) (sym c.if-not-have_path_names.ensures)

pub returns-clause-names : goal.returns-clause-names
returns-clause-names c =
    named_path c.args.path.now c.as_slice-text.result.now c.in-Some.slash.now c.in-Some.rest.now c.as_slice-text.ensures c.in-Some.ensures.cases.0 c.if-slash-ne47.false
    (eqb-false _ _ (sym c.if-is_empty.ensures)) (sym c.if-not-have_path_names.ensures)
