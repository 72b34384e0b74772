use Rattle.std.proofs.Common.{◌≡◌, length, Some, refl, rules}
use Rattle.std.specs.Prelude.{slice_get}
use Rattle.std.proofs.lemmas.Option.{slice_get_read}
use Rattle.flog_device.proofs.Pages.{set-programmed}
use Rattle.flog_device.proofs.log.program.Goals as goal

pub returns-clause-items : goal.returns-clause-items
returns-clause-items c =
    let items = c.args.log.now.items in
    let page = c.index_mut.result.now in
    let there : slice_get items c.args.at ≡ Some page = slice_get_read items (length items) c.args.at page refl c.requires (search rules) in
    set-programmed c.args.at items page there
