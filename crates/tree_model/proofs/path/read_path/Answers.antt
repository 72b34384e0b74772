use Rattle.std.proofs.Common.{sym}
use Rattle.std.proofs.lemmas.Bool.{eqb-true, eqb-false}
use Rattle.std.proofs.lemmas.List.{nil_from_length}
use Rattle.tree_model.proofs.PathForms.{none_of_empty, none_of_other, some_of_root, none_of_more, some_of_more}
use Rattle.tree_model.proofs.path.read_path.Goals as goal

pub returns-in_default : goal.returns-in_default
returns-in_default c = none_of_empty c.args.text.now (nil_from_length c.args.text.now c.in_default.ensures.cases)

pub returns-then-first-ne47 : goal.returns-then-first-ne47
returns-then-first-ne47 c = none_of_other c.args.text.now c.in-Some.first.now c.in-Some.rest.now c.in-Some.ensures.cases.0 c.if-first-ne47.true

pub returns-then-is_empty : goal.returns-then-is_empty
returns-then-is_empty c =
    rw c.new.ensures.items (some_of_root c.args.text.now c.in-Some.first.now c.in-Some.rest.now c.in-Some.ensures.cases.0 c.if-first-ne47.false (nil_from_length c.in-Some.rest.now (eqb-true _ _ (sym c.if-is_empty.ensures))))

pub returns-then-not-are_path_names : goal.returns-then-not-are_path_names
returns-then-not-are_path_names c = none_of_more c.args.text.now c.in-Some.first.now c.in-Some.rest.now _ c.in-Some.ensures.cases.0 c.if-first-ne47.false (eqb-false _ _ (sym c.if-is_empty.ensures)) c.in_ok-names.ensures (rw c.deref.ensures.value at (sym c.if-not-are_path_names.ensures))

pub returns : goal.returns
returns c = some_of_more c.args.text.now c.in-Some.first.now c.in-Some.rest.now _ _ c.in-Some.ensures.cases.0 c.if-first-ne47.false (eqb-false _ _ (sym c.if-is_empty.ensures)) c.in_ok-names.ensures (rw c.deref.ensures.value at (sym c.if-not-are_path_names.ensures)) (rw c.deref-2.ensures.value at c.in_ok-copied.ensures)
