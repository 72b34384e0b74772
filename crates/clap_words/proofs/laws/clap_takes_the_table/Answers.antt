use Rattle.clap_words.proofs.Law.{law}
use Rattle.clap_words.proofs.laws.clap_takes_the_table.Goals as goal

pub returns : goal.returns
returns c = λ words none. law words none
