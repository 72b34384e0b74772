use Rattle.volume_model.specs.laws.SlotMoves.{name_added_stands, name_removed_stands}
use Rattle.volume_model.proofs.laws.names_come_and_go.Goals as goal

pub returns : goal.returns
returns c = record { added = name_added_stands; removed = name_removed_stands }
