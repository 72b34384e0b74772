-- What is told.
use Rattle.volume_steps.proofs.AllCalls.{any_call, no_pages, node_listed, file_listed}
use Rattle.volume_steps.proofs.laws.calls_tell_what_they_touch.Goals as goal

pub returns : goal.returns
returns c = record {
  told = λ v n tx call h. (any_call tx v n call h).steady;
  no_pages = λ v n tx call h is. no_pages tx v n call h is;
  nodes = λ v n tx call h birth differs. node_listed tx v n call h birth differs;
  files = λ v n tx call h birth differs. file_listed tx v n call h birth differs;
  tables = λ v n tx call h birth p zones i at is. (any_call tx v n call h).steady.nodes.tables birth p zones i at is;
}
