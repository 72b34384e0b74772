use Rattle.std.proofs.Common.{◌≡◌, ℕ, List, Some, None, [], ◌∷◌, ◌++◌, cond, length, ap, sym, subst, ◌∙◌}
use Rattle.std.specs.BTreeMap.{is_at}
use Rattle.std.specs.Cmp.Lexicographic.{slice_cmp}
use Rattle.std.specs.Ordering.{nat_cmp}
use Rattle.minix_tables.specs.directories.Told.{IsTold, told}
use Rattle.minix_tables.specs.directories.laws.Told.{told_next, told_free}
use Rattle.minix_tables.proofs.directories.index.Index.read.Goals as goal

pub returns-in-Some : goal.returns-in-Some
returns-in-Some c done slots here h =
    let old = told c.args.self.now in
    let new : old c.in-Some.slot.name ≡ None = ap old (sym c.copy.ensures) ∙ c.put.ensures.new done in
    let put : (q : List ℕ) → told c.put.new.self q ≡ cond (is_at (slice_cmp nat_cmp c.in-Some.slot.name) q) (Some (length slots)) (old q) =
    λ q. c.put.ensures.put done q ∙ (ap (λ n. cond (is_at (slice_cmp nat_cmp n) q) (Some c.args.at) (old q)) c.copy.ensures ∙ ap (λ k. cond (is_at (slice_cmp nat_cmp c.in-Some.slot.name) q) (Some k) (old q)) here) in
    subst (λ o. IsTold (slots ++ o ∷ []) (told c.put.new.self)) (sym c.in-Some.is) (told_next slots old (told c.put.new.self) c.in-Some.slot new put h)

pub returns-in-None : goal.returns-in-None
returns-in-None c done slots here h = subst (λ o. IsTold (slots ++ o ∷ []) (told c.args.self.now)) (sym c.in-None.is) (told_free slots (told c.args.self.now) h)
