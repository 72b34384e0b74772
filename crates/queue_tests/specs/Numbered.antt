-- Requests that a test numbers from 0 on.
use Rattle.std.specs.Prelude.{◌≡◌, ℕ, true, length}
use Rattle.order_model.specs.declared.request.Kind.TheVariants.{Flush}
use Rattle.order_model.specs.declared.request.Request.{Request}
use Rattle.order_model.specs.Carrying.{SchedSeen, AreAtIds}

-- a scheduler that may accept 200 accepted so many, each under its number
pub record IsNumbered (s : SchedSeen) (count : ℕ) : Type 0 where
  pub limit : s.limit ≡ 200
  pub numbered : count ≡ length s.accepted
  pub ids : AreAtIds s.accepted

-- a request that a host may submit under this number
pub record IsAsked (r : Request) (number : ℕ) : Type 0 where
  pub named : r.id ≡ number
  pub barrier : r.barrier ≡ true → r.ordered ≡ true
  pub flush : r.kind ≡ Flush → (r.ordered ≡ true) × (r.barrier ≡ true)
