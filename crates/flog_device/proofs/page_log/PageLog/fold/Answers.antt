use Rattle.std.specs.List.{All}
use Rattle.std.proofs.Common.{refl, true, ◌≡◌, ◌≢◌, ◌<◌, Some, drop, length, slice_get, sym, ap, subst, ◌∙◌, arith, rules}
use Rattle.std.proofs.lemmas.Option.{same_Some, slice_get_read}
use Rattle.blk_base.specs.laws.Members.{All-In, slice_get-In}
use Rattle.order_model.specs.Received.{all_parts}
use Rattle.flog_device.specs.Log.{places}
use Rattle.flog_device.specs.laws.LogFacts.{InOrder, Rises}
use Rattle.flog_device.specs.code.Helpers.{can_fold, IsPageOf, area_folded, origins_folded}
use Rattle.flog_device.proofs.Kept.{folded-kept, folded-open, alone, shadowed, area-alone, area-shadowed, origins-alone, origins-shadowed, number-is, number-not}
use Rattle.flog_device.proofs.page_log.PageLog.fold.Goals as goal

pub invariant_of-self-then-is_number : goal.invariant_of-self-then-is_number
invariant_of-self-then-is_number c =
    let log = c.self.inside.pages.items in
    let new = c.pop_front.new.self.items in
    let p = c.in-Some.page in
    let h = c.self.invariant in
    let first : slice_get log 0 ≡ Some p = search rules in
    let rest : new ≡ drop 1 log = search rules in
    let may : can_fold log ≡ true = subst (λ l. can_fold l.items ≡ true) (sym c.self.view_is) c.requires.programmed in
    let page = All-In (IsPageOf (length (all_parts c.args.took.now.items)) (length c.args.area.now)) log p
    (subst (λ l. All (IsPageOf (length (all_parts c.args.took.now.items)) (length c.args.area.now)) l.items) (sym c.self.view_is) c.requires.pages) (slice_get-In log 0 p first) in
    let blocks : length c.self.inside.last.items ≡ length c.args.area.now = ap (λ l. l.area) c.self.view_is ∙ c.requires.size in
    let within : p.place.block < length c.self.inside.last.items = let n = page.block in omega (arith, n, blocks) in
    let there : slice_get c.self.inside.last.items p.place.block ≡ Some c.index.result.now =
    slice_get_read c.self.inside.last.items (length c.self.inside.last.items) p.place.block c.index.result.now refl within (search rules) in
    let order = subst (λ l. InOrder Rises (places l.items)) (sym c.self.view_is) c.requires.rising in
    let is = there ∙ ap Some (number-is c.index.result.now p.place.part (sym c.is_number.ensures ∙ c.if-is_number.true)) in
    let none = alone log new p first rest may c.self.inside.last.items within h.last order is in
    record {
      kept = folded-kept log new p first rest may c.self.inside.kept h.kept;
      unprogrammed = folded-open log new p first rest may c.self.inside.unprogrammed h.unprogrammed;
      last = none.1;
    }

pub invariant_of-self-else-is_number : goal.invariant_of-self-else-is_number
invariant_of-self-else-is_number c =
    let log = c.self.inside.pages.items in
    let new = c.pop_front.new.self.items in
    let p = c.in-Some.page in
    let h = c.self.invariant in
    let first : slice_get log 0 ≡ Some p = search rules in
    let rest : new ≡ drop 1 log = search rules in
    let may : can_fold log ≡ true = subst (λ l. can_fold l.items ≡ true) (sym c.self.view_is) c.requires.programmed in
    let page = All-In (IsPageOf (length (all_parts c.args.took.now.items)) (length c.args.area.now)) log p
    (subst (λ l. All (IsPageOf (length (all_parts c.args.took.now.items)) (length c.args.area.now)) l.items) (sym c.self.view_is) c.requires.pages) (slice_get-In log 0 p first) in
    let blocks : length c.self.inside.last.items ≡ length c.args.area.now = ap (λ l. l.area) c.self.view_is ∙ c.requires.size in
    let within : p.place.block < length c.self.inside.last.items = let n = page.block in omega (arith, n, blocks) in
    let there : slice_get c.self.inside.last.items p.place.block ≡ Some c.index.result.now =
    slice_get_read c.self.inside.last.items (length c.self.inside.last.items) p.place.block c.index.result.now refl within (search rules) in
    let not : slice_get c.self.inside.last.items p.place.block ≢ Some (Some p.place.part) = λ e. number-not c.index.result.now p.place.part (sym c.is_number.ensures ∙ c.if-is_number.false) (same_Some c.index.result.now (Some p.place.part) (sym there ∙ e)) in
    let later = shadowed log new p first rest may c.self.inside.last.items within h.last not in
    record {
      kept = folded-kept log new p first rest may c.self.inside.kept h.kept;
      unprogrammed = folded-open log new p first rest may c.self.inside.unprogrammed h.unprogrammed;
      last = later.1;
    }

pub returns-then-is_number-clause-area : goal.returns-then-is_number-clause-area
returns-then-is_number-clause-area c =
    let log = c.self.inside.pages.items in
    let new = c.pop_front.new.self.items in
    let p = c.in-Some.page in
    let h = c.self.invariant in
    let first : slice_get log 0 ≡ Some p = search rules in
    let rest : new ≡ drop 1 log = search rules in
    let may : can_fold log ≡ true = subst (λ l. can_fold l.items ≡ true) (sym c.self.view_is) c.requires.programmed in
    let page = All-In (IsPageOf (length (all_parts c.args.took.now.items)) (length c.args.area.now)) log p
    (subst (λ l. All (IsPageOf (length (all_parts c.args.took.now.items)) (length c.args.area.now)) l.items) (sym c.self.view_is) c.requires.pages) (slice_get-In log 0 p first) in
    let blocks : length c.self.inside.last.items ≡ length c.args.area.now = ap (λ l. l.area) c.self.view_is ∙ c.requires.size in
    let within : p.place.block < length c.self.inside.last.items = let n = page.block in omega (arith, n, blocks) in
    let there : slice_get c.self.inside.last.items p.place.block ≡ Some c.index.result.now =
    slice_get_read c.self.inside.last.items (length c.self.inside.last.items) p.place.block c.index.result.now refl within (search rules) in
    let order = subst (λ l. InOrder Rises (places l.items)) (sym c.self.view_is) c.requires.rising in
    let is = there ∙ ap Some (number-is c.index.result.now p.place.part (sym c.is_number.ensures ∙ c.if-is_number.true)) in
    let none = alone log new p first rest may c.self.inside.last.items within h.last order is in
    area-alone log new p first rest may c.args.took.now.items c.args.area.now c.put.new.self c.body_of.result none.0 c.body_of.ensures c.put.ensures
    ∙ ap (λ l. area_folded c.args.took.now.items l.items c.args.area.now) c.self.view_is

pub returns-then-is_number-clause-origins : goal.returns-then-is_number-clause-origins
returns-then-is_number-clause-origins c =
    let log = c.self.inside.pages.items in
    let new = c.pop_front.new.self.items in
    let p = c.in-Some.page in
    let h = c.self.invariant in
    let first : slice_get log 0 ≡ Some p = search rules in
    let rest : new ≡ drop 1 log = search rules in
    let may : can_fold log ≡ true = subst (λ l. can_fold l.items ≡ true) (sym c.self.view_is) c.requires.programmed in
    let page = All-In (IsPageOf (length (all_parts c.args.took.now.items)) (length c.args.area.now)) log p
    (subst (λ l. All (IsPageOf (length (all_parts c.args.took.now.items)) (length c.args.area.now)) l.items) (sym c.self.view_is) c.requires.pages) (slice_get-In log 0 p first) in
    let blocks : length c.self.inside.last.items ≡ length c.args.area.now = ap (λ l. l.area) c.self.view_is ∙ c.requires.size in
    let within : p.place.block < length c.self.inside.last.items = let n = page.block in omega (arith, n, blocks) in
    let there : slice_get c.self.inside.last.items p.place.block ≡ Some c.index.result.now =
    slice_get_read c.self.inside.last.items (length c.self.inside.last.items) p.place.block c.index.result.now refl within (search rules) in
    let order = subst (λ l. InOrder Rises (places l.items)) (sym c.self.view_is) c.requires.rising in
    let is = there ∙ ap Some (number-is c.index.result.now p.place.part (sym c.is_number.ensures ∙ c.if-is_number.true)) in
    let none = alone log new p first rest may c.self.inside.last.items within h.last order is in
    origins-alone log new p first rest may c.args.origins.now.items none.0
    ∙ ap (λ l. origins_folded l.items c.args.origins.now.items) c.self.view_is

pub returns-else-is_number-clause-area : goal.returns-else-is_number-clause-area
returns-else-is_number-clause-area c =
    let log = c.self.inside.pages.items in
    let new = c.pop_front.new.self.items in
    let p = c.in-Some.page in
    let h = c.self.invariant in
    let first : slice_get log 0 ≡ Some p = search rules in
    let rest : new ≡ drop 1 log = search rules in
    let may : can_fold log ≡ true = subst (λ l. can_fold l.items ≡ true) (sym c.self.view_is) c.requires.programmed in
    let page = All-In (IsPageOf (length (all_parts c.args.took.now.items)) (length c.args.area.now)) log p
    (subst (λ l. All (IsPageOf (length (all_parts c.args.took.now.items)) (length c.args.area.now)) l.items) (sym c.self.view_is) c.requires.pages) (slice_get-In log 0 p first) in
    let blocks : length c.self.inside.last.items ≡ length c.args.area.now = ap (λ l. l.area) c.self.view_is ∙ c.requires.size in
    let within : p.place.block < length c.self.inside.last.items = let n = page.block in omega (arith, n, blocks) in
    let there : slice_get c.self.inside.last.items p.place.block ≡ Some c.index.result.now =
    slice_get_read c.self.inside.last.items (length c.self.inside.last.items) p.place.block c.index.result.now refl within (search rules) in
    let not : slice_get c.self.inside.last.items p.place.block ≢ Some (Some p.place.part) = λ e. number-not c.index.result.now p.place.part (sym c.is_number.ensures ∙ c.if-is_number.false) (same_Some c.index.result.now (Some p.place.part) (sym there ∙ e)) in
    let later = shadowed log new p first rest may c.self.inside.last.items within h.last not in
    area-shadowed log new p first rest may c.args.took.now.items c.args.area.now later.0
    ∙ ap (λ l. area_folded c.args.took.now.items l.items c.args.area.now) c.self.view_is

pub returns-else-is_number-clause-origins : goal.returns-else-is_number-clause-origins
returns-else-is_number-clause-origins c =
    let log = c.self.inside.pages.items in
    let new = c.pop_front.new.self.items in
    let p = c.in-Some.page in
    let h = c.self.invariant in
    let first : slice_get log 0 ≡ Some p = search rules in
    let rest : new ≡ drop 1 log = search rules in
    let may : can_fold log ≡ true = subst (λ l. can_fold l.items ≡ true) (sym c.self.view_is) c.requires.programmed in
    let page = All-In (IsPageOf (length (all_parts c.args.took.now.items)) (length c.args.area.now)) log p
    (subst (λ l. All (IsPageOf (length (all_parts c.args.took.now.items)) (length c.args.area.now)) l.items) (sym c.self.view_is) c.requires.pages) (slice_get-In log 0 p first) in
    let blocks : length c.self.inside.last.items ≡ length c.args.area.now = ap (λ l. l.area) c.self.view_is ∙ c.requires.size in
    let within : p.place.block < length c.self.inside.last.items = let n = page.block in omega (arith, n, blocks) in
    let there : slice_get c.self.inside.last.items p.place.block ≡ Some c.index.result.now =
    slice_get_read c.self.inside.last.items (length c.self.inside.last.items) p.place.block c.index.result.now refl within (search rules) in
    let not : slice_get c.self.inside.last.items p.place.block ≢ Some (Some p.place.part) = λ e. number-not c.index.result.now p.place.part (sym c.is_number.ensures ∙ c.if-is_number.false) (same_Some c.index.result.now (Some p.place.part) (sym there ∙ e)) in
    let later = shadowed log new p first rest may c.self.inside.last.items within h.last not in
    origins-shadowed log new p first rest may c.args.origins.now.items later.0
    ∙ ap (λ l. origins_folded l.items c.args.origins.now.items) c.self.view_is
