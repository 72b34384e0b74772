use Rattle.volume_names.proofs.NameMaps.{directory_back}
use Rattle.volume_names.proofs.directories.add_name.Goals as goal

pub returns-in-Err-clause-err : goal.returns-in-Err-clause-err
returns-in-Err-clause-err c =
    directory_back c.args.directory.now c.add.new.self c.args.slot.name c.copy.result c.copy-name.result c.args.birth c.put.new.self c.remove.new.self
    c.in-Err.ensures.err c.copy.ensures c.copy-name.ensures c.in_ok-put.ensures.put c.remove.ensures c.requires.name
