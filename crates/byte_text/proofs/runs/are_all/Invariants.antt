use Rattle.std.proofs.Common.{◌≡◌, ◌==◌, take}
use Rattle.std.specs.List.{list_all}
use Rattle.byte_text.proofs.runs.are_all.Given as goal

abbrev pub invariant-loop-b : goal.invariant-loop-b
invariant-loop-b l = l.all ≡ list_all (λ b. b == l.value) (take l.b-index l.bytes)
