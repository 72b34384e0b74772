use Rattle.std.proofs.Common.{List, length, ap, arith}
use Rattle.page_cache.specs.Pages.{Cache}
use Rattle.volume_model.specs.Touched.{Page}
use Rattle.host_core.proofs.EffectsLemmas.Cached.{dropped_fewer}
use Rattle.host_core.proofs.effects.done.change.Goals as goal

pub write_pages-requires : goal.write_pages-requires
write_pages-requires g c =
    let room = ap (λ (x : Cache). x.room) c.drop_pages.ensures in
    let pages = ap (λ (x : Cache). length x.pages) c.drop_pages.ensures in
    let fewer = dropped_fewer c.args.pages.now.pages c.dropped.result.now in
    let written = ap (λ (l : List Page). length l) c.pages-2.ensures in
    let most = c.requires.room in
    omega (arith, room, pages, fewer, written, most)
