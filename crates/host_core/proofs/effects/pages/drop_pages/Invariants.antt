use Rattle.std.proofs.Common.{◌≡◌, drop}
use Rattle.page_cache.specs.Pages.{with_pages}
use Rattle.host_core.specs.effects.Effects.{dropped_pages}
use Rattle.host_core.proofs.effects.pages.drop_pages.Given as goal

abbrev pub invariant-loop-page : goal.invariant-loop-page
invariant-loop-page l = with_pages l.pages (dropped_pages l.pages.pages (drop l.page-index l.dropped)) ≡ with_pages l.fn.pages (dropped_pages l.fn.pages.pages l.dropped)
