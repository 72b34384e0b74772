use Rattle.number_sets.specs.laws.Members.{has-In, In-has, In-with, with-In, In-with_all, with_all-In, In-without_all, without_all-In}
use Rattle.number_sets.specs.laws.Rising.{rising-with_all, rising-without_all, rising-few}
use Rattle.number_sets.proofs.laws.sets_have_what_was_added.Goals as goal

pub returns-clause-has : goal.returns-clause-has
returns-clause-has c xs x = (has-In xs x, In-has xs x)

pub returns-clause-with : goal.returns-clause-with
returns-clause-with c xs x y = (In-with xs x y, with-In xs x y)

pub returns-clause-with_all : goal.returns-clause-with_all
returns-clause-with_all c xs ys y = (In-with_all xs ys y, with_all-In xs ys y)

pub returns-clause-without_all : goal.returns-clause-without_all
returns-clause-without_all c xs ys y = (In-without_all xs ys y, λ h. without_all-In xs ys y h.0 h.1)

pub returns-clause-rising_with : goal.returns-clause-rising_with
returns-clause-rising_with c = rising-with_all

pub returns-clause-rising_without : goal.returns-clause-rising_without
returns-clause-rising_without c = rising-without_all

pub returns-clause-few : goal.returns-clause-few
returns-clause-few c = rising-few
