use Rattle.std.proofs.Common.{refl, sym, ap, ◌∙◌}
use Rattle.page_cache.specs.Pages.{Cache, page_at}
use Rattle.page_cache.proofs.Framed.{rising_keys, within, found, not_found}
use Rattle.page_cache.proofs.frames.Frames.page.Goals as goal

pub find_key-requires : goal.find_key-requires
find_key-requires c = rising_keys c.self.inside.frames c.self.inside.places.items _ c.self.inside.keys.items _ c.self.inside.room c.self.invariant

pub returns-in-Ok : goal.returns-in-Ok
returns-in-Ok c =
    let inside = within c.self.inside.frames c.self.inside.places.items _ c.self.inside.keys.items _ c.self.inside.room c.self.invariant c.in-Ok.at c.in-Ok.ensures.place.0 in
    c.get.ensures
    ∙ found c.self.inside.frames c.self.inside.places.items _ c.self.inside.keys.items _ c.self.inside.room c.self.invariant c.args.birth c.args.index c.in-Ok.at c.at.result (c.in-Ok.ensures.there refl) c.in-Ok.ensures.place.1 inside c.at.ensures
    ∙ ap (λ (k : Cache). page_at k.pages c.args.birth c.args.index) c.self.view_is

pub returns-in-Err : goal.returns-in-Err
returns-in-Err c =
    sym (not_found c.self.inside.frames c.self.inside.places.items _ c.self.inside.keys.items _ c.self.inside.room c.self.invariant c.args.birth c.args.index (c.in-Err.ensures.absent refl)).0
    ∙ ap (λ (k : Cache). page_at k.pages c.args.birth c.args.index) c.self.view_is
