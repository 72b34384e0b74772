use Rattle.std.proofs.Common.{rules, refl, sym, subst, ◌<◌, ◌∷◌, ◌++◌, [], length, take, arith}
use Rattle.std.proofs.lemmas.List.{take_more, length-take-le}
use Rattle.minix_tables.specs.directories.Told.{IsTold, told}
use Rattle.minix_tables.specs.directories.laws.Told.{told_none}
use Rattle.minix_tables.proofs.directories.index.Index.of.Goals as goal

pub loop-at-init : goal.loop-at-init
loop-at-init c = told_none c.new.result.entries c.new.ensures.empty

pub loop-at-preserved : goal.loop-at-preserved
loop-at-preserved c =
    let slots = c.args.slots.now.items in
    let at = c.loop-at.at in
    let low : at < length slots = search rules in
    let next = c.if-not-read.ensures refl (take at slots) (sym (length-take-le at slots (omega arith))) c.loop-at.invariant in
    subst (λ xs. IsTold xs (told c.read.new.self)) (sym (take_more slots at c.index.result.now low))
    (subst (λ o. IsTold (take at slots ++ o ∷ []) (told c.read.new.self)) c.index.ensures next)
