use Rattle.std.proofs.Common.{rules, ◌≡◌, Some, None, ap, ◌∙◌}
use Rattle.std.specs.List.{slice_get}
use Rattle.std.specs.Option.{option_map}
use Rattle.page_cache.specs.declared.cached_page.CachedPage.{CachedPage}
use Rattle.page_cache.specs.Pages.{Cache, is_unsent, next_in_file}
use Rattle.page_cache.specs.code.Keys.{place_of}
use Rattle.page_cache.proofs.Steps.{list_rising, of_none, of_some, of_other}
use Rattle.page_cache.proofs.pages.Pages.of_file.Goals as goal

pub key_from-requires : goal.key_from-requires
key_from-requires c = list_rising is_unsent c.self.inside.pages.pages c.self.inside.unsent.items c.self.invariant.rising c.self.invariant.unsent_listed

pub returns-in_err-file : goal.returns-in_err-file
returns-in_err-file c =
    let at : slice_get c.self.inside.unsent.items (place_of c.self.inside.unsent.items c.args.birth c.args.from) ≡ None = search rules in
    c.from_residual.ensures ∙ of_none c.self.inside.pages.pages c.self.inside.unsent.items c.args.birth c.args.from c.self.invariant.unsent_listed at ∙ ap (λ (k : Cache). option_map (λ (p : CachedPage). p.index) (next_in_file k.pages c.args.birth c.args.from)) c.self.view_is

pub returns-then-file-birth : goal.returns-then-file-birth
returns-then-file-birth c =
    let at : slice_get c.self.inside.unsent.items (place_of c.self.inside.unsent.items c.args.birth c.args.from) ≡ Some (c.in_ok-file.file, c.in_ok-file.index) = search rules in
    of_some c.self.inside.pages.pages c.self.inside.unsent.items c.args.birth c.args.from (c.in_ok-file.file, c.in_ok-file.index) c.self.invariant.rising c.self.invariant.unsent_listed at c.if-file-birth.true ∙ ap (λ (k : Cache). option_map (λ (p : CachedPage). p.index) (next_in_file k.pages c.args.birth c.args.from)) c.self.view_is

pub returns-else-file-birth : goal.returns-else-file-birth
returns-else-file-birth c =
    let at : slice_get c.self.inside.unsent.items (place_of c.self.inside.unsent.items c.args.birth c.args.from) ≡ Some (c.in_ok-file.file, c.in_ok-file.index) = search rules in
    of_other c.self.inside.pages.pages c.self.inside.unsent.items c.args.birth c.args.from (c.in_ok-file.file, c.in_ok-file.index) c.self.invariant.rising c.self.invariant.unsent_listed at c.if-file-birth.false ∙ ap (λ (k : Cache). option_map (λ (p : CachedPage). p.index) (next_in_file k.pages c.args.birth c.args.from)) c.self.view_is
