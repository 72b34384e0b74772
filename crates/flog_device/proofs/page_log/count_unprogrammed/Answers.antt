use Rattle.std.proofs.Common.{refl, true, false, ◌≡◌, ◌+◌, if◌then◌else◌, Some, length, slice_get, ap, arith, rules}
use Rattle.std.proofs.lemmas.Option.{slice_get_read}
use Rattle.flog_device.specs.Log.{programmed_at}
use Rattle.flog_device.specs.Device.{programs}
use Rattle.flog_device.proofs.Kept.{open-programmed}
use Rattle.flog_device.proofs.page_log.count_unprogrammed.Goals as goal

pub returns-then-index : goal.returns-then-index
returns-then-index c =
    let log = c.args.pages.now.items in
    let page = c.index.result.now in
    let there : slice_get log c.args.at ≡ Some page = slice_get_read log (length log) c.args.at page refl c.requires (search rules) in
    let yes : page.programmed ≡ true = search rules in
    let less = ap (λ b. length (programs 0 (programmed_at c.args.at log)) + (if b then 0 else 1)) yes in
    let one = open-programmed 0 c.args.at log page there in
    omega (arith, one, less)

pub returns-else-index : goal.returns-else-index
returns-else-index c =
    let log = c.args.pages.now.items in
    let page = c.index.result.now in
    let there : slice_get log c.args.at ≡ Some page = slice_get_read log (length log) c.args.at page refl c.requires (search rules) in
    let no : page.programmed ≡ false = search rules in
    let less = ap (λ b. length (programs 0 (programmed_at c.args.at log)) + (if b then 0 else 1)) no in
    let one = open-programmed 0 c.args.at log page there in
    omega (arith, one, less)
