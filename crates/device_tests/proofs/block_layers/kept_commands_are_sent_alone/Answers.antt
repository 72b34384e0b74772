use Rattle.device_tests.proofs.KeptCommands.{found_full, sent_alone, waits_on}
use Rattle.device_tests.proofs.block_layers.kept_commands_are_sent_alone.Goals as goal

pub returns : goal.returns
returns g c = record {
  kept = λ k layer pick command none comes full. found_full _ k layer pick command none comes full;
  sent = λ k layer pick command kept few. sent_alone _ k layer pick command kept few;
  waits = λ k layer pick command kept full. waits_on _ k layer pick command kept full;
}
