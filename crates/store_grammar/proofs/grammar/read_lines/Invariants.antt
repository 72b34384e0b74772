use Rattle.std.proofs.Common.{◌≡◌, ◌+◌, None, map, drop}
use Rattle.store_grammar.specs.Grammar.{read_from}
use Rattle.store_grammar.proofs.grammar.read_lines.Given as goal

abbrev pub invariant-loop-line : goal.invariant-loop-line
invariant-loop-line l = record {
  same : read_from l.number l.reading (map (λ x. x.now) (drop l.line-index l.lines)) ≡ read_from 1 None (map (λ x. x.now) l.lines);
  counted : l.number ≡ l.line-index + 1;
}
