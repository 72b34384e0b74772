-- A file that every write made larger, or gave a block, needs no barrier before it is renamed.
use Rattle.std.specs.Prelude.{◌≡◌, ◌⊎◌, ℕ, zero, suc, ◌+◌, ◌<◌, ◌≤◌, true, false}
use Rattle.std.proofs.Common.{sym, ◌∙◌, inl, inr, arith}
use Rattle.std.proofs.lemmas.Bool.{cases_Bool, false≢true}
use Rattle.tree_model.specs.Histories.{maps_block}
use Rattle.application_trees.specs.Outcomes.{Outcome, HasHistory, IsShown, IsGone, Holds, Grows, IsAsNew}

pub grown_holds : (o : Outcome) → HasHistory o → IsAsNew o → (f b : ℕ) → Grows o f b → b < o.cut → Holds o f b
grown_holds o h new f b grows past i zero low wrote = absurd (false≢true (sym (h.first f i) ∙ wrote))
grown_holds o h new f b grows past i (suc n) low wrote =
    elim (cases_Bool (maps_block (o.tree_at o.cut) f i)) [
      | inl there ↦ inl (new f i n (suc n) there wrote (grows i n low wrote) (omega arith) (omega (arith, low, past)))
      | inr gone ↦ inr (record { entry = o.cut; later = omega (arith, low, past); within = omega arith; unmapped = gone })
    ]
