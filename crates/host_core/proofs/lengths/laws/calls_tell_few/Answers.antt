use Rattle.host_core.proofs.LengthsLemmas.Calls.{notes_few, pages_few, blocks_inside}
use Rattle.host_core.proofs.lengths.laws.calls_tell_few.Goals as goal

pub returns : goal.returns
returns c = record {
  notes = λ v n tx call h. notes_few v n tx call h;
  pages = λ v n tx call h. pages_few v n tx call h;
  inside = λ v n tx call h b i. blocks_inside v n tx call h b i;
}
