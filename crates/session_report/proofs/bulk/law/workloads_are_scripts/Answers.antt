use Rattle.session_grammar.proofs.Accepts.{session_of-SaysSession}
use Rattle.session_grammar.proofs.Said.{SaysSession-session_of}
use Rattle.session_grammar.proofs.Spelled.{session_of-session_text}
use Rattle.session_report.specs.bulk.Workload.{bulk_of}
use Rattle.session_report.proofs.BulkLemmas.Formed.{bulk_formed}
use Rattle.session_report.proofs.bulk.law.workloads_are_scripts.Goals as goal

pub returns-clause-formed : goal.returns-clause-formed
returns-clause-formed c = λ n some most. bulk_formed n most

pub returns-clause-spelled : goal.returns-clause-spelled
returns-clause-spelled c = λ n some most. session_of-session_text (bulk_of n) (bulk_formed n most)

pub returns-clause-read : goal.returns-clause-read
returns-clause-read c = λ n some most bytes.
    (λ h. SaysSession-session_of bytes (bulk_of n) h, λ says. session_of-SaysSession bytes (bulk_of n) (bulk_formed n most) says)
