use Rattle.barrierfs_top.proofs.WordLists.{ask_for, asked}
use Rattle.barrierfs_top.proofs.laws.words_ask_by_the_table.Goals as goal

pub returns : goal.returns
returns c = λ words task. (ask_for words task, asked words task)
