use Rattle.std.proofs.Common.{sym, subst, refl, Ok, Err, Option}
use Rattle.tree_model.specs.declared.call.Reply.TheVariants as replies
use Rattle.tree_model.specs.Calls.{Place, Found, rename_to}
use Rattle.tree_model.specs.code.PathTexts.{names_below}
use Rattle.volume_steps.specs.Now.{VolumeNow, tree_of_now}
use Rattle.volume_steps.specs.Plain.{IsPlainNow}
use Rattle.volume_steps.proofs.PlainNow.{tree_is_plain}
use Rattle.volume_calls.specs.code.Rows.{Agrees}
use Rattle.volume_calls.specs.code.Renames.{found_from, place_from}
use Rattle.volume_calls.proofs.Renamed.{within_of, no_target, some_target, asked, asked_err}
use Rattle.volume_calls.proofs.plain.PlainVolume.rename.Goals as goal

pub refused_move-requires-clause-slots : goal.refused_move-requires-clause-slots
refused_move-requires-clause-slots c =
    let v : VolumeNow = c.args.self.now in
    let blocks = v.contents.blocks in
    let names = names_below c.in_ok-names.names.now in
    let more = names_below c.in_ok-more.more.now in
    let found : Found = found_from blocks c.in_ok-found.found in
    let from : Place = place_from c.in_ok-from.from in
    let to : Place = place_from c.in_ok-to.to in
    record {
      counted = c.in_ok-to.ensures.counted;
      within = within_of (tree_of_now v) names more found from to c.in_ok-found.ensures.found (c.in_ok-from.ensures.place replies.Invalid) (c.in_ok-to.ensures.place replies.Invalid);
    }

pub zones-requires : goal.zones-requires
zones-requires c =
    let v : VolumeNow = c.args.self.now in
    let blocks = v.contents.blocks in
    let names = names_below c.in_ok-names.names.now in
    let more = names_below c.in_ok-more.more.now in
    let found : Found = found_from blocks c.in_ok-found.found in
    let from : Place = place_from c.in_ok-from.from in
    let to : Place = place_from c.in_ok-to.to in
    record {
      counted = c.in_ok-to.ensures.counted;
      within = within_of (tree_of_now v) names more found from to c.in_ok-found.ensures.found (c.in_ok-from.ensures.place replies.Invalid) (c.in_ok-to.ensures.place replies.Invalid);
    }

pub returns-in-Err : goal.returns-in-Err
returns-in-Err c =
    let v : VolumeNow = c.args.self.now in
    let blocks = v.contents.blocks in
    let names = names_below c.in_ok-names.names.now in
    let more = names_below c.in_ok-more.more.now in
    let found : Found = found_from blocks c.in_ok-found.found in
    let from : Place = place_from c.in_ok-from.from in
    let to : Place = place_from c.in_ok-to.to in
    let h : IsPlainNow v = rw (← c.self.view_is) c.self.invariant.plain in
    asked_err (tree_of_now v) (tree_is_plain v h) c.args.path.now c.args.other.now names more found from to c.in_ok-names.ensures.names c.in_ok-more.ensures.names
    c.in_ok-found.ensures.found (c.in_ok-from.ensures.place replies.Invalid) (c.in_ok-to.ensures.place replies.Invalid) (sym c.if-goes_below.ensures) c.in-Err.reply
    (subst (λ (o : Option Found). Agrees (Err c.in-Err.reply) (rename_to (tree_of_now v) (record { moved = found; from = from; to = to; target = o }))) c.target_at-target.ensures c.in-Err.ensures)

pub returns-then-is_some : goal.returns-then-is_some
returns-then-is_some c =
    let v : VolumeNow = c.args.self.now in
    let blocks = v.contents.blocks in
    let names = names_below c.in_ok-names.names.now in
    let more = names_below c.in_ok-more.more.now in
    let found : Found = found_from blocks c.in_ok-found.found in
    let from : Place = place_from c.in_ok-from.from in
    let to : Place = place_from c.in_ok-to.to in
    let h : IsPlainNow v = rw (← c.self.view_is) c.self.invariant.plain in
    asked (tree_of_now v) (tree_is_plain v h) c.args.path.now c.args.other.now names more found from to c.in_ok-names.ensures.names c.in_ok-more.ensures.names
    c.in_ok-found.ensures.found (c.in_ok-from.ensures.place replies.Invalid) (c.in_ok-to.ensures.place replies.Invalid) (sym c.if-goes_below.ensures) 0
    (subst (λ (o : Option Found). Agrees (Ok tt) (rename_to (tree_of_now v) (record { moved = found; from = from; to = to; target = o }))) c.target_at-target.ensures c.in_default.ensures)
    (λ t e. refl) (λ named none. absurd (some_target (found_from blocks) c.target_at-target.result _ (sym c.if-is_some.ensures) c.target_at-target.ensures none))

pub returns : goal.returns
returns c =
    let v : VolumeNow = c.args.self.now in
    let blocks = v.contents.blocks in
    let names = names_below c.in_ok-names.names.now in
    let more = names_below c.in_ok-more.more.now in
    let found : Found = found_from blocks c.in_ok-found.found in
    let from : Place = place_from c.in_ok-from.from in
    let to : Place = place_from c.in_ok-to.to in
    let h : IsPlainNow v = rw (← c.self.view_is) c.self.invariant.plain in
    asked (tree_of_now v) (tree_is_plain v h) c.args.path.now c.args.other.now names more found from to c.in_ok-names.ensures.names c.in_ok-more.ensures.names
    c.in_ok-found.ensures.found (c.in_ok-from.ensures.place replies.Invalid) (c.in_ok-to.ensures.place replies.Invalid) (sym c.if-goes_below.ensures) c.zones.result
    (subst (λ (o : Option Found). Agrees (Ok tt) (rename_to (tree_of_now v) (record { moved = found; from = from; to = to; target = o }))) c.target_at-target.ensures c.in_default.ensures)
    (λ t e. absurd (no_target (found_from blocks) c.target_at-target.result _ t (sym c.if-is_some.ensures) c.target_at-target.ensures e)) (λ named none. c.zones.ensures blocks named)
