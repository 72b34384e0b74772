use Rattle.std.proofs.Common.{rules, ◌≡◌, get_or}
use Rattle.page_cache.specs.Pages.{put_page, with_pages}
use Rattle.host_core.proofs.EffectsLemmas.Cached.{page_of, writes_more}
use Rattle.host_core.proofs.effects.pages.write_pages.Goals as goal

pub loop-page-preserved : goal.loop-page-preserved
loop-page-preserved g c =
    let bytes = g.B.BodySource.bodies c.args.bodies.now in
    let w = c.page-item.result in
    let read : w ≡ get_or c.args.written.now c.loop-page.page-index w = search rules in
    let kept : c.set.new.self ≡ with_pages c.loop-page.pages (put_page c.loop-page.pages.pages (page_of bytes c.args.number w)) = search rules in
    writes_more bytes c.args.number c.args.pages.now c.loop-page.pages c.set.new.self c.args.written.now c.loop-page.page-index w c.loop-page.invariant c.loop-page-test.true read kept
