use Rattle.std.proofs.Common.{◌≡◌, None, refl, sym, ap, ◌∙◌}
use Rattle.std.specs.Option.{option_map}
use Rattle.slab.specs.Slab.{get}
use Rattle.page_cache.specs.declared.cached_page.CachedPage.{CachedPage}
use Rattle.page_cache.specs.Pages.{Cache, page_at}
use Rattle.page_cache.proofs.Framed.{rising_keys, within, found, not_found}
use Rattle.page_cache.proofs.frames.Frames.head.Goals as goal

pub find_key-requires : goal.find_key-requires
find_key-requires c = rising_keys c.self.inside.frames c.self.inside.places.items _ c.self.inside.keys.items _ c.self.inside.room c.self.invariant

there : (c : goal.After-head) → get c.self.inside.frames c.at.result ≡ page_at c.args.self.now.pages c.args.birth c.args.index
there c =
    let inside = within c.self.inside.frames c.self.inside.places.items _ c.self.inside.keys.items _ c.self.inside.room c.self.invariant c.in-Ok.at c.in-Ok.ensures.place.0 in
    found c.self.inside.frames c.self.inside.places.items _ c.self.inside.keys.items _ c.self.inside.room c.self.invariant c.args.birth c.args.index c.in-Ok.at c.at.result (c.in-Ok.ensures.there refl) c.in-Ok.ensures.place.1 inside c.at.ensures
    ∙ ap (λ (k : Cache). page_at k.pages c.args.birth c.args.index) c.self.view_is

nowhere : (c : goal.In-Err) → None ≡ page_at c.args.self.now.pages c.args.birth c.args.index
nowhere c =
    sym (not_found c.self.inside.frames c.self.inside.places.items _ c.self.inside.keys.items _ c.self.inside.room c.self.invariant c.args.birth c.args.index (c.in-Err.ensures.absent refl)).0
    ∙ ap (λ (k : Cache). page_at k.pages c.args.birth c.args.index) c.self.view_is

pub returns-in-Ok-clause-block : goal.returns-in-Ok-clause-block
returns-in-Ok-clause-block c = c.head.ensures.block ∙ ap (option_map (λ (p : CachedPage). p.block)) (there c)

pub returns-in-Ok-clause-version : goal.returns-in-Ok-clause-version
returns-in-Ok-clause-version c = c.head.ensures.version ∙ ap (option_map (λ (p : CachedPage). p.version)) (there c)

pub returns-in-Ok-clause-state : goal.returns-in-Ok-clause-state
returns-in-Ok-clause-state c = c.head.ensures.state ∙ ap (option_map (λ (p : CachedPage). p.state)) (there c)

pub returns-in-Err-clause-block : goal.returns-in-Err-clause-block
returns-in-Err-clause-block c = ap (option_map (λ (p : CachedPage). p.block)) (nowhere c)

pub returns-in-Err-clause-version : goal.returns-in-Err-clause-version
returns-in-Err-clause-version c = ap (option_map (λ (p : CachedPage). p.version)) (nowhere c)

pub returns-in-Err-clause-state : goal.returns-in-Err-clause-state
returns-in-Err-clause-state c = ap (option_map (λ (p : CachedPage). p.state)) (nowhere c)
