use Rattle.std.proofs.Common.{◌≡◌, length, Some, refl, sym, subst, arith, rules}
use Rattle.std.specs.Prelude.{None, slice_get}
use Rattle.std.proofs.lemmas.Option.{slice_get_read}
use Rattle.device_epochs.specs.code.Newest.{CacheState, newest_place}
use Rattle.device_epochs.specs.code.Helpers.{IsPlain, EndsAt}
use Rattle.device_epochs.proofs.Newest.{newest_lt, no_place, place_of_newest, earlier_place}
use Rattle.device_epochs.proofs.cache.Cache.find_place.Goals as goal

pub returns-in_err-place : goal.returns-in_err-place
returns-in_err-place c =
    let none : newest_place c.args.self.now.items c.args.e.block ≡ None = search rules in
    let clear = no_place c.args.e c.args.self.now.items none in
    search (rules, clear)

pub index-requires : goal.index-requires
index-requires c =
    let items = c.self.inside.entries.items in
    let some : newest_place c.args.self.now.items c.args.e.block ≡ Some c.in_ok-place.place = search rules in
    let at : newest_place items c.args.e.block ≡ Some c.in_ok-place.place = subst (λ (s : CacheState). newest_place s.items c.args.e.block ≡ Some c.in_ok-place.place) (sym c.self.view_is) some in
    let lt = newest_lt items c.args.e.block c.in_ok-place.place at in
    let long = c.self.inside.entries.ok.0 in
    omega arith

pub returns-then-index-e : goal.returns-then-index-e
returns-then-index-e c =
    let items = c.self.inside.entries.items in
    let some : newest_place c.args.self.now.items c.args.e.block ≡ Some c.in_ok-place.place = search rules in
    let at : newest_place items c.args.e.block ≡ Some c.in_ok-place.place = subst (λ (s : CacheState). newest_place s.items c.args.e.block ≡ Some c.in_ok-place.place) (sym c.self.view_is) some in
    let lt = newest_lt items c.args.e.block c.in_ok-place.place at in
    let f = c.index.result.now in
    let there : slice_get items c.in_ok-place.place ≡ Some f = slice_get_read items (length items) c.in_ok-place.place f refl lt (search rules) in
    rw (← c.self.view_is) (place_of_newest c.args.e f items c.in_ok-place.place at there (search rules))

pub returns-else-index-e : goal.returns-else-index-e
returns-else-index-e c =
    let items = c.self.inside.entries.items in
    let some : newest_place c.args.self.now.items c.args.e.block ≡ Some c.in_ok-place.place = search rules in
    let at : newest_place items c.args.e.block ≡ Some c.in_ok-place.place = subst (λ (s : CacheState). newest_place s.items c.args.e.block ≡ Some c.in_ok-place.place) (sym c.self.view_is) some in
    let lt = newest_lt items c.args.e.block c.in_ok-place.place at in
    let f = c.index.result.now in
    let there : slice_get items c.in_ok-place.place ≡ Some f = slice_get_read items (length items) c.in_ok-place.place f refl lt (search rules) in
    let plain : IsPlain items = subst (λ (s : CacheState). IsPlain s.items) (sym c.self.view_is) c.requires.plain in
    let last : EndsAt c.args.e.epoch items = subst (λ (s : CacheState). EndsAt c.args.e.epoch s.items) (sym c.self.view_is) c.requires.last in
    rw (← c.self.view_is) (earlier_place c.args.e f items c.in_ok-place.place plain last at there (search rules))
