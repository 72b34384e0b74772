use Rattle.std.proofs.Common.{rules, ◌≡◌, length, None, refl, ap, subst, ◌∙◌, arith}
use Rattle.std.specs.Prelude.{IsSome}
use Rattle.std.proofs.lemmas.Bool.{false≢true}
use Rattle.std.proofs.lemmas.List.{length-map}
use Rattle.page_cache.specs.Pages.{Cache, with_pages, page_at, put_page}
use Rattle.page_cache.specs.code.Frames.{page_in, pages_in}
use Rattle.page_cache.proofs.Framed.{rising_keys, within, has_page, found, not_found, frames_set, frames_insert}
use Rattle.page_cache.proofs.frames.Frames.set.Goals as goal

pub find_key-requires : goal.find_key-requires
find_key-requires c = rising_keys c.self.inside.frames c.self.inside.places.items _ c.self.inside.keys.items _ c.self.inside.room c.self.invariant

pub set-requires : goal.set-requires
set-requires c = has_page c.self.inside.frames c.self.inside.places.items _ c.self.inside.keys.items _ c.self.inside.room c.self.invariant c.in-Ok.at c.at.result (within c.self.inside.frames c.self.inside.places.items _ c.self.inside.keys.items _ c.self.inside.room c.self.invariant c.in-Ok.at c.in-Ok.ensures.place.0) c.at.ensures

pub invariant_of-self : goal.invariant_of-self
invariant_of-self c =
    (frames_set c.self.inside.frames c.self.inside.places.items _ c.self.inside.keys.items _ c.self.inside.room c.self.invariant _ c.args.page.birth c.args.page.index c.in-Ok.at c.at.result c.args.page (c.in-Ok.ensures.there refl) c.in-Ok.ensures.place.1 (within c.self.inside.frames c.self.inside.places.items _ c.self.inside.keys.items _ c.self.inside.room c.self.invariant c.in-Ok.at c.in-Ok.ensures.place.0) c.at.ensures c.set.ensures.updates c.set.ensures.len c.set.ensures.capacity refl refl).0

pub returns-in-Ok-clause-ok : goal.returns-in-Ok-clause-ok
returns-in-Ok-clause-ok c =
    ap (λ ps. let made : Cache = record { room = c.self.inside.room; pages = ps } in made)
    (frames_set c.self.inside.frames c.self.inside.places.items _ c.self.inside.keys.items _ c.self.inside.room c.self.invariant _ c.args.page.birth c.args.page.index c.in-Ok.at c.at.result c.args.page (c.in-Ok.ensures.there refl) c.in-Ok.ensures.place.1 (within c.self.inside.frames c.self.inside.places.items _ c.self.inside.keys.items _ c.self.inside.room c.self.invariant c.in-Ok.at c.in-Ok.ensures.place.0) c.at.ensures c.set.ensures.updates c.set.ensures.len c.set.ensures.capacity refl refl).1
    ∙ ap (λ (k : Cache). with_pages k (put_page k.pages c.args.page)) c.self.view_is

pub returns-in-Ok-clause-no_room : goal.returns-in-Ok-clause-no_room
returns-in-Ok-clause-no_room c =
    let here = found c.self.inside.frames c.self.inside.places.items _ c.self.inside.keys.items _ c.self.inside.room c.self.invariant c.args.page.birth c.args.page.index c.in-Ok.at c.at.result (c.in-Ok.ensures.there refl) c.in-Ok.ensures.place.1 (within c.self.inside.frames c.self.inside.places.items _ c.self.inside.keys.items _ c.self.inside.room c.self.invariant c.in-Ok.at c.in-Ok.ensures.place.0) c.at.ensures in
    let some = subst IsSome (here ∙ ap (λ (k : Cache). page_at k.pages c.args.page.birth c.args.page.index) c.self.view_is) (has_page c.self.inside.frames c.self.inside.places.items _ c.self.inside.keys.items _ c.self.inside.room c.self.invariant c.in-Ok.at c.at.result (within c.self.inside.frames c.self.inside.places.items _ c.self.inside.keys.items _ c.self.inside.room c.self.invariant c.in-Ok.at c.in-Ok.ensures.place.0) c.at.ensures) in
    (λ e. absurd (false≢true e), λ h. absurd (false≢true (subst IsSome h.0 some)))

pub returns-then-len-self-clause-no_room : goal.returns-then-len-self-clause-no_room
returns-then-len-self-clause-no_room c =
    let none = (not_found c.self.inside.frames c.self.inside.places.items _ c.self.inside.keys.items _ c.self.inside.room c.self.invariant c.args.page.birth c.args.page.index (c.in-Err.ensures.absent refl)).0 in
    let size : c.len.result ≡ length c.self.inside.places.items = search rules in
    let long = length-map c.self.inside.places.items (page_in c.self.inside.frames) in
    let most = c.self.invariant.most in
    let past = c.if-len-self.true in
    let full : length (pages_in c.self.inside.frames c.self.inside.places.items) ≡ c.self.inside.room = omega arith in
    (λ e. subst (λ (k : Cache). (page_at k.pages c.args.page.birth c.args.page.index ≡ None) × (length k.pages ≡ k.room)) c.self.view_is (none, full), λ h. refl)

pub invariant_of-self-in-Err : goal.invariant_of-self-in-Err
invariant_of-self-in-Err c =
    let size : c.len.result ≡ length c.self.inside.places.items = search rules in
    let less = c.if-len-self.false in
    (frames_insert c.self.inside.frames c.self.inside.places.items _ c.self.inside.keys.items _ c.self.inside.room c.self.invariant c.insert-frame.new.self c.insert-in-Err.new.self.items _ c.insert.new.self.items _ c.args.page.birth c.args.page.index c.in-Err.at c.insert-frame.result c.args.page
    (c.in-Err.ensures.absent refl) c.in-Err.ensures.new_place.1 c.in-Err.ensures.new_place.0 (omega arith)
    c.insert-frame.ensures.was_vacant c.insert-frame.ensures.updates c.insert-frame.ensures.len c.insert-frame.ensures.capacity refl refl
    c.insert-in-Err.ensures.items c.insert.ensures.items c.insert-in-Err.ensures.capacity c.insert.ensures.capacity).0

pub returns-else-len-self-clause-ok : goal.returns-else-len-self-clause-ok
returns-else-len-self-clause-ok c =
    let size : c.len.result ≡ length c.self.inside.places.items = search rules in
    let less = c.if-len-self.false in
    ap (λ ps. let made : Cache = record { room = c.self.inside.room; pages = ps } in made) (frames_insert c.self.inside.frames c.self.inside.places.items _ c.self.inside.keys.items _ c.self.inside.room c.self.invariant c.insert-frame.new.self c.insert-in-Err.new.self.items _ c.insert.new.self.items _ c.args.page.birth c.args.page.index c.in-Err.at c.insert-frame.result c.args.page
    (c.in-Err.ensures.absent refl) c.in-Err.ensures.new_place.1 c.in-Err.ensures.new_place.0 (omega arith)
    c.insert-frame.ensures.was_vacant c.insert-frame.ensures.updates c.insert-frame.ensures.len c.insert-frame.ensures.capacity refl refl
    c.insert-in-Err.ensures.items c.insert.ensures.items c.insert-in-Err.ensures.capacity c.insert.ensures.capacity).1
    ∙ ap (λ (k : Cache). with_pages k (put_page k.pages c.args.page)) c.self.view_is
