use Rattle.thread_sides.proofs.Admitting.{none_came, counted_more, same_length, receivable}
use Rattle.thread_sides.proofs.laws.commands_that_pass_are_receivable.Goals as goal

pub returns-clause-none : goal.returns-clause-none
returns-clause-none c = none_came

pub returns-clause-may : goal.returns-clause-may
returns-clause-may c = λ d flags x old limit may. receivable d flags x old limit may

pub returns-clause-flags : goal.returns-clause-flags
returns-clause-flags c = λ d flags x old may. counted_more flags _ x may d.took old

pub returns-clause-length : goal.returns-clause-length
returns-clause-length c = λ blocks flags x may. same_length flags blocks x may
