use Rattle.std.proofs.Common.{rules, ◌≡◌, ◌<◌, length, refl, sym, ap, subst, ◌∙◌}
use Rattle.std.specs.List.{remove}
use Rattle.page_cache.specs.Pages.{Cache, with_pages, drop_page}
use Rattle.page_cache.proofs.Framed.{rising_keys, within, has_page, not_found, frames_remove}
use Rattle.page_cache.proofs.frames.Frames.drop_page.Goals as goal

pub find_key-requires : goal.find_key-requires
find_key-requires c = rising_keys c.self.inside.frames c.self.inside.places.items _ c.self.inside.keys.items _ c.self.inside.room c.self.invariant

pub remove-requires : goal.remove-requires
remove-requires c = has_page c.self.inside.frames c.self.inside.places.items _ c.self.inside.keys.items _ c.self.inside.room c.self.invariant c.in-Ok.at c.at.result (within c.self.inside.frames c.self.inside.places.items _ c.self.inside.keys.items _ c.self.inside.room c.self.invariant c.in-Ok.at c.in-Ok.ensures.place.0) c.at.ensures

pub invariant_of-self : goal.invariant_of-self
invariant_of-self c =
    let inside : c.in-Ok.at < length c.self.inside.places.items = within c.self.inside.frames c.self.inside.places.items _ c.self.inside.keys.items _ c.self.inside.room c.self.invariant c.in-Ok.at c.in-Ok.ensures.place.0 in
    let places_are : c.remove-in-Ok-2.new.self.items ≡ remove c.self.inside.places.items c.in-Ok.at = search rules in
    let keys_are : c.remove-in-Ok.new.self.items ≡ remove c.self.inside.keys.items c.in-Ok.at = search rules in
    (frames_remove c.self.inside.frames c.self.inside.places.items _ c.self.inside.keys.items _ c.self.inside.room c.self.invariant c.remove.new.self c.remove-in-Ok-2.new.self.items _ c.remove-in-Ok.new.self.items _ c.args.birth c.args.index c.in-Ok.at c.at.result
    (c.in-Ok.ensures.there refl) c.in-Ok.ensures.place.1 inside c.at.ensures c.remove.ensures.updates c.remove.ensures.len c.remove.ensures.capacity
    places_are keys_are c.remove-in-Ok-2.ensures.capacity c.remove-in-Ok.ensures.capacity).0

pub returns-in-Ok : goal.returns-in-Ok
returns-in-Ok c =
    let inside : c.in-Ok.at < length c.self.inside.places.items = within c.self.inside.frames c.self.inside.places.items _ c.self.inside.keys.items _ c.self.inside.room c.self.invariant c.in-Ok.at c.in-Ok.ensures.place.0 in
    let places_are : c.remove-in-Ok-2.new.self.items ≡ remove c.self.inside.places.items c.in-Ok.at = search rules in
    let keys_are : c.remove-in-Ok.new.self.items ≡ remove c.self.inside.keys.items c.in-Ok.at = search rules in
    ap (λ ps. let made : Cache = record { room = c.self.inside.room; pages = ps } in made) (frames_remove c.self.inside.frames c.self.inside.places.items _ c.self.inside.keys.items _ c.self.inside.room c.self.invariant c.remove.new.self c.remove-in-Ok-2.new.self.items _ c.remove-in-Ok.new.self.items _ c.args.birth c.args.index c.in-Ok.at c.at.result
    (c.in-Ok.ensures.there refl) c.in-Ok.ensures.place.1 inside c.at.ensures c.remove.ensures.updates c.remove.ensures.len c.remove.ensures.capacity
    places_are keys_are c.remove-in-Ok-2.ensures.capacity c.remove-in-Ok.ensures.capacity).1
    ∙ ap (λ (k : Cache). with_pages k (drop_page k.pages c.args.birth c.args.index)) c.self.view_is

pub returns-in_default : goal.returns-in_default
returns-in_default c =
    subst (λ (k : Cache). k ≡ with_pages k (drop_page k.pages c.args.birth c.args.index)) c.self.view_is
    (ap (λ ps. let made : Cache = record { room = c.self.inside.room; pages = ps } in made) (sym (not_found c.self.inside.frames c.self.inside.places.items _ c.self.inside.keys.items _ c.self.inside.room c.self.invariant c.args.birth c.args.index (c.in_default.ensures.absent refl)).1))
