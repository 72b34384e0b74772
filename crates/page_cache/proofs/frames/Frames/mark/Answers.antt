use Rattle.std.proofs.Common.{refl, sym, ap, ◌∙◌}
use Rattle.page_cache.specs.Pages.{Cache, with_pages, page_at, mark_page}
use Rattle.page_cache.proofs.Framed.{rising_keys, within, has_page, not_found, frames_mark}
use Rattle.page_cache.proofs.frames.Frames.mark.Goals as goal

pub find_key-requires : goal.find_key-requires
find_key-requires c = rising_keys c.self.inside.frames c.self.inside.places.items _ c.self.inside.keys.items _ c.self.inside.room c.self.invariant

pub mark-requires : goal.mark-requires
mark-requires c = has_page c.self.inside.frames c.self.inside.places.items _ c.self.inside.keys.items _ c.self.inside.room c.self.invariant c.in-Ok.at c.at.result (within c.self.inside.frames c.self.inside.places.items _ c.self.inside.keys.items _ c.self.inside.room c.self.invariant c.in-Ok.at c.in-Ok.ensures.place.0) c.at.ensures

pub invariant_of-self : goal.invariant_of-self
invariant_of-self c =
    (frames_mark c.self.inside.frames c.self.inside.places.items _ c.self.inside.keys.items _ c.self.inside.room c.self.invariant _ c.args.birth c.args.index c.in-Ok.at c.at.result c.args.s (c.in-Ok.ensures.there refl) c.in-Ok.ensures.place.1 (within c.self.inside.frames c.self.inside.places.items _ c.self.inside.keys.items _ c.self.inside.room c.self.invariant c.in-Ok.at c.in-Ok.ensures.place.0) c.at.ensures c.mark.ensures.updates c.mark.ensures.len c.mark.ensures.capacity).0

pub returns-in-Ok : goal.returns-in-Ok
returns-in-Ok c =
    ap (λ ps. let made : Cache = record { room = c.self.inside.room; pages = ps } in made)
    (frames_mark c.self.inside.frames c.self.inside.places.items _ c.self.inside.keys.items _ c.self.inside.room c.self.invariant _ c.args.birth c.args.index c.in-Ok.at c.at.result c.args.s (c.in-Ok.ensures.there refl) c.in-Ok.ensures.place.1 (within c.self.inside.frames c.self.inside.places.items _ c.self.inside.keys.items _ c.self.inside.room c.self.invariant c.in-Ok.at c.in-Ok.ensures.place.0) c.at.ensures c.mark.ensures.updates c.mark.ensures.len c.mark.ensures.capacity).1
    ∙ ap (λ (k : Cache). with_pages k (mark_page k.pages c.args.birth c.args.index c.args.s)) c.self.view_is

pub returns-in_default : goal.returns-in_default
returns-in_default c =
    absurd (c.requires (sym (ap (λ (k : Cache). page_at k.pages c.args.birth c.args.index) c.self.view_is) ∙ (not_found c.self.inside.frames c.self.inside.places.items _ c.self.inside.keys.items _ c.self.inside.room c.self.invariant c.args.birth c.args.index (c.in_default.ensures.absent refl)).0))
