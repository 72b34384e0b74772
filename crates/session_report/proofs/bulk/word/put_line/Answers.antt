use Rattle.std.proofs.Common.{◌≡◌, ◌++◌, OnOk, ℕ, List, sym, ap, subst}
use Rattle.std.specs.String.{string_bytes}
use Rattle.session_report.specs.bulk.Workload.{call_of_kind, call_line}
use Rattle.session_report.proofs.bulk.word.put_line.Goals as goal

pub returns-in-4 : goal.returns-in-4
returns-in-4 c =
    subst (λ (line : List ℕ). OnOk c.put_named-in-4.result (string_bytes c.put_named-in-4.new.out ≡ string_bytes c.args.out.now ++ line))
    (sym (ap (λ (kind : ℕ). call_line (call_of_kind kind c.args.word)) c.in-4.is)) c.put_named-in-4.ensures
