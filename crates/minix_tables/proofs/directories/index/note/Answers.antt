use Rattle.std.proofs.Common.{◌≡◌, ℕ, List, Some, cond, ap, sym, subst, ◌∙◌, refl}
use Rattle.std.specs.BTreeMap.{is_at}
use Rattle.std.specs.Cmp.Lexicographic.{slice_cmp}
use Rattle.std.specs.Ordering.{nat_cmp}
use Rattle.minix_tables.specs.directories.Slots.{room}
use Rattle.minix_tables.specs.directories.Told.{AreTold, told}
use Rattle.minix_tables.specs.directories.laws.Told.{told_added}
use Rattle.minix_tables.proofs.directories.index.note.Goals as goal

pub returns-else-not-put : goal.returns-else-not-put
returns-else-not-put c slots s same at none h =
    let old = told c.in-Some.names in
    let put : (q : List ℕ) → told c.put.new.self q ≡ cond (is_at (slice_cmp nat_cmp s.name) q) (Some (room slots)) (old q) =
    λ q. c.if-not-put.ensures.put refl q ∙ (ap (λ n. cond (is_at (slice_cmp nat_cmp n) q) (Some c.args.at) (old q)) (sym same) ∙ ap (λ k. cond (is_at (slice_cmp nat_cmp s.name) q) (Some k) (old q)) at) in
    told_added slots old (told c.put.new.self) s none put (subst (AreTold slots) c.in-Some.is h)
