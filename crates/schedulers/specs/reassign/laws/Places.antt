-- Requests whose ids are their places, as a host numbers them: the next one's id is new.
use Rattle.std.specs.Prelude.{◌≡◌, ℕ, List, [], ◌∷◌, ◌++◌, length}
use Rattle.std.proofs.Common.{ap, sym, ◌∙◌, ⊎_elim, arith}
use Rattle.blk_base.specs.Members.{In}
use Rattle.blk_base.specs.laws.Members.{In-slice_get, slice_get-push_cases}
use Rattle.order_model.specs.declared.request.Request.{Request}
use Rattle.order_model.specs.Carrying.{AreAtIds}

pub next_id-new : (requests : List Request) (id : ℕ) → AreAtIds requests → id ≡ length requests → (p : Request) → In p requests → p.id ≡ id → ⊥
next_id-new requests id h e p i same =
    let at = In-slice_get requests p i in
    let place = h at.0 p at.2 in
    omega (arith, at.1, place, same, e)

pub AreAtIds-push : (requests : List Request) (r : Request) → AreAtIds requests → r.id ≡ length requests → AreAtIds (requests ++ r ∷ [])
AreAtIds-push requests r h e i p at =
    ⊎_elim
    (λ old. h i p old)
    (λ new. ap (λ (q : Request). q.id) (sym new.1) ∙ e ∙ sym new.0)
    (slice_get-push_cases requests r i p at)
