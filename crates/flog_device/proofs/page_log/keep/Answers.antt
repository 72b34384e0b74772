use Rattle.std.proofs.Common.{◌≡◌, ◌+◌, ◌<◌, ◌∷◌, [], refl, Some, length, slice_get, take, sym, ap, subst, ◌∙◌, arith, rules}
use Rattle.std.proofs.lemmas.Option.{slice_get_read}
use Rattle.flog_device.specs.Log.{prefix, places}
use Rattle.flog_device.specs.laws.LogFacts.{places-append}
use Rattle.flog_device.specs.code.Logged.{AreLast}
use Rattle.flog_device.proofs.Kept.{in-log, prefix-le, prefix-more, prefix-stops, take-more, take-prefix, last-push}
use Rattle.flog_device.proofs.page_log.keep.Goals as goal

pub returns-then-not-page-clause-kept : goal.returns-then-not-page-clause-kept
returns-then-not-page-clause-kept c =
    let log = c.args.pages.now.items in
    let page = c.index-page.result.now in
    let within-log : c.loop-at.at < length log = omega arith in
    let there : slice_get log c.loop-at.at ≡ Some page = slice_get_read log (length log) c.loop-at.at page refl within-log (search rules) in
    prefix-stops c.loop-at.at log page c.loop-at.invariant.kept there (search rules)

pub returns-then-not-page-clause-last : goal.returns-then-not-page-clause-last
returns-then-not-page-clause-last c =
    let log = c.args.pages.now.items in
    let page = c.index-page.result.now in
    let within-log : c.loop-at.at < length log = omega arith in
    let there : slice_get log c.loop-at.at ≡ Some page = slice_get_read log (length log) c.loop-at.at page refl within-log (search rules) in
    let ends = prefix-stops c.loop-at.at log page c.loop-at.invariant.kept there (search rules) in
    subst (λ l. AreLast c.loop-at.last.items (places l)) (ap (λ n. take n log) ends ∙ take-prefix log) c.loop-at.invariant.last

pub loop-at-preserved : goal.loop-at-preserved
loop-at-preserved c =
    let log = c.args.pages.now.items in
    let page = c.index-page.result.now in
    let so_far = c.loop-at.invariant in
    let within-log : c.loop-at.at < length log = omega arith in
    let there : slice_get log c.loop-at.at ≡ Some page = slice_get_read log (length log) c.loop-at.at page refl within-log (search rules) in
    let within : page.place.block < length c.loop-at.last.items = subst (λ n. page.place.block < n) (sym so_far.blocks) (in-log (length c.args.last.now.items) c.loop-at.at log page c.requires.pages there) in
    let more : places (take (c.loop-at.at + 1) log) ≡ _ = ap places (take-more c.loop-at.at log page there) ∙ places-append (take c.loop-at.at log) (page ∷ []) in
    record {
      kept = prefix-more c.loop-at.at log page so_far.kept there (search rules);
      last = subst (AreLast _) (sym more) (last-push c.loop-at.last.items (places (take c.loop-at.at log)) page.place within so_far.last);
      blocks = search (rules, arith);
    }

pub returns-clause-kept : goal.returns-clause-kept
returns-clause-kept c =
    let log = c.args.pages.now.items in
    let le = prefix-le log in
    let so_far = c.loop-at.invariant.kept in
    let end = c.loop-at.auto.at-end in
    let past = c.loop-at-test.false in
    let whole = c.len.ensures in
    let first = c.len-at-end.ensures in
    omega (arith, le, so_far, end, past, whole, first)

pub returns-clause-last : goal.returns-clause-last
returns-clause-last c =
    let log = c.args.pages.now.items in
    let le = prefix-le log in
    let so_far = c.loop-at.invariant.kept in
    let end = c.loop-at.auto.at-end in
    let past = c.loop-at-test.false in
    let first = c.len-at-end.ensures in
    let ends : c.loop-at.at ≡ length (prefix log) = omega (arith, le, so_far, end, past, first) in
    subst (λ l. AreLast c.loop-at.last.items (places l)) (ap (λ n. take n log) ends ∙ take-prefix log) c.loop-at.invariant.last
