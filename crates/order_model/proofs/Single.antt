-- What the command of one request carries.
use Rattle.std.proofs.Common.{◌≡◌, ℕ, Some, slice_get, refl, sym, ap, zero, suc}
use Rattle.std.proofs.lemmas.Option.{none-some, same_Some}
use Rattle.order_model.specs.declared.part.Part.{Part}
use Rattle.order_model.specs.declared.request.Kind.{Kind}
use Rattle.order_model.specs.declared.request.Kind.TheVariants.{Put, Flush}
use Rattle.order_model.specs.Single.{parts_for, flush_for}

-- the one part of a command is the request's put
pub part_is : (id : ℕ) (k : Kind) (i : ℕ) (p : Part) → slice_get (parts_for id k) i ≡ Some p → (k ≡ Put p.block p.body) × (p.id ≡ id) × (i ≡ 0)
part_is id (Put block body) zero p at =
    let e = same_Some (record { id = id; block = block; body = body }) p at in
    (ap (λ (q : Part). Put q.block q.body) e, sym (ap (λ (q : Part). q.id) e), refl)
part_is id (Put block body) (suc i) p at = absurd (none-some p at)
part_is id Flush i p at = absurd (none-some p at)

-- a command with a flush is the request's flush
pub flush_is : (id : ℕ) (k : Kind) (flush : ℕ) → flush_for id k ≡ Some flush → (id ≡ flush) × (k ≡ Flush)
flush_is id (Put block body) flush e = absurd (none-some flush e)
flush_is id Flush flush e = (same_Some id flush e, refl)
