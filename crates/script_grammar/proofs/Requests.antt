-- Rows and the requests that they stand for.
use Rattle.std.specs.Prelude.{◌≡◌, ℕ, List, map, take}
use Rattle.std.proofs.lemmas.List.{take-map}
use Rattle.script_grammar.specs.declared.script.Row.{Row}
use Rattle.script_grammar.specs.code.Rows.{request_of}

pub front_requests : (n : ℕ) (rows : List Row) → take n (map request_of rows) ≡ map request_of (take n rows)
front_requests n rows = take-map request_of n rows
