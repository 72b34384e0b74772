-- What a volume answers before a call is done.
use Rattle.std.specs.Prelude.{◌≡◌, Ok, Err}
use Rattle.tree_model.specs.Calls.{Row}
use Rattle.volume_calls.specs.declared.answer.Answer.{Answer}
use Rattle.volume_calls.specs.declared.answer.Answer.TheVariants.{Refused, Change}

-- the refusal, or that there is none
abbrev pub Answers : Answer → Row → Type 0
Answers (Refused reply) (Err why) = reply ≡ why
Answers Change (Ok done) = Unit {0}
Answers answer row = ⊥
