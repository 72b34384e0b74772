-- The requests of a script, and a device that takes them one command each.
use Rattle.std.proofs.Common.{◌≡◌, ℕ, ◌+◌, ◌<◌, List, [], ◌∷◌, ◌++◌, length, map, take, Option, Some, None, slice_get, refl, sym, ap, ◌∙◌, subst, arith, add-one, zero, suc, inl, inr}
use Rattle.std.specs.Option.{option_and_then}
use Rattle.std.proofs.lemmas.Bool.{cases_lt}
use Rattle.std.proofs.lemmas.Option.{none-some, same_Some}
use Rattle.std.proofs.lemmas.List.{map-append, length-take, length-take-le}
use Rattle.blk_base.specs.laws.Members.{slice_get-length, slice_get-take, slice_get-take_out}
use Rattle.order_model.specs.declared.request.Kind.{Kind}
use Rattle.order_model.specs.declared.request.Kind.TheVariants.{Put, Flush}
use Rattle.order_model.specs.declared.request.Request.{Request}
use Rattle.order_model.specs.OrderClosed.{kind_block, IsPutOf}
use Rattle.order_model.specs.Device.{Seen, IsReceivable}
use Rattle.order_model.specs.Single.{command_for}
use Rattle.order_model.specs.Carrying.{Carries, AreAtIds, FlushesAreBarriers, sent_alone}
use Rattle.order_model.proofs.Direct.{carries_alone}
use Rattle.order_model.proofs.Next.{next_receivable}
use Rattle.stack_core.specs.RequestPath.{IsDirect, AreRequests}

same_some : {X : Type 0} (x y : X) → Some x ≡ Some y → x ≡ y
same_some x y e = cc

take_suc_get : {X : Type 0} (xs : List X) (n : ℕ) (x : X) → slice_get xs n ≡ Some x → take (suc n) xs ≡ take n xs ++ x ∷ []
take_suc_get [] n x at = absurd (none-some x at)
take_suc_get (y ∷ ys) zero x at = ap (λ z. z ∷ []) (same_some y x at)
take_suc_get (y ∷ ys) (suc n) x at = ap (λ l. y ∷ l) (take_suc_get ys n x at)

pub take_more_get : {X : Type 0} (xs : List X) (n : ℕ) (x : X) → slice_get xs n ≡ Some x → take (n + 1) xs ≡ take n xs ++ x ∷ []
take_more_get xs n x at = rw add-one (take_suc_get xs n x at)

-- ---- the requests

-- the first requests fit as all do
pub prefix_requests : (n blocks : ℕ) (rs : List Request) → AreRequests blocks rs → AreRequests blocks (take n rs)
prefix_requests n blocks rs all i q at =
    elim (cases_lt i n) [
      | inl lt ↦ all i q (sym (slice_get-take n rs i lt) ∙ at)
      | inr le ↦ absurd (none-some q (sym (slice_get-take_out n rs i le) ∙ at))
    ]

pub at_ids : (blocks : ℕ) (rs : List Request) → AreRequests blocks rs → AreAtIds rs
at_ids blocks rs all i r at = (all i r at).named

pub flagged : (blocks : ℕ) (rs : List Request) → AreRequests blocks rs → FlushesAreBarriers rs
flagged blocks rs all i r at flush = ((all i r at).flush flush).1

kind_within : (block blocks : ℕ) (k : Kind) → ((b : ℕ) (body : List ℕ) → k ≡ Put b body → b < blocks) → kind_block k ≡ Some block → block < blocks
kind_within block blocks (Put b body) h e = subst (λ n. n < blocks) (same_Some b block e) (h b body refl)
kind_within block blocks Flush h e = absurd (none-some block e)

option_within : (block blocks : ℕ) (o : Option Request) → ((r : Request) → o ≡ Some r → (b : ℕ) (body : List ℕ) → r.kind ≡ Put b body → b < blocks)
    → option_and_then (λ (r : Request). kind_block r.kind) o ≡ Some block → block < blocks
option_within block blocks None h e = absurd (none-some block e)
option_within block blocks (Some r) h e = kind_within block blocks r.kind (h r refl) e

-- the block of a put is there
pub block_within : (blocks : ℕ) (rs : List Request) → AreRequests blocks rs → (i block : ℕ) → IsPutOf rs i block → block < blocks
block_within blocks rs all i block put = option_within block blocks (slice_get rs i) (λ r at. (all i r at).within) put

-- ---- the device

-- the commands that were sent alone carry the first requests
pub prefix_carries : (next blocks : ℕ) (rs : List Request) → AreRequests blocks rs → Carries (sent_alone (take next rs))
prefix_carries next blocks rs all =
    let front = prefix_requests next blocks rs all in
    carries_alone (take next rs) (at_ids blocks (take next rs) front) (flagged blocks (take next rs) front)

took_more : (next : ℕ) (rs : List Request) (d : Seen) (r : Request) → IsDirect next rs d → slice_get rs next ≡ Some r → map command_for (take (next + 1) rs) ≡ d.took ++ command_for r ∷ []
took_more next rs d r path at =
    ap (map command_for) (take_more_get rs next r at) ∙ map-append command_for (take next rs) (r ∷ []) ∙ ap (λ l. l ++ command_for r ∷ []) (sym path.took)

pub receivable : (next : ℕ) (rs : List Request) (d : Seen) (r : Request) → IsDirect next rs d → length d.surface ≡ length d.base → slice_get rs next ≡ Some r → IsReceivable d (command_for r)
receivable next rs d r path same at =
    let front = prefix_requests (next + 1) (length d.base) rs path.fitting in
    let n = length-take (next + 1) rs in
    let m = path.limit in
    let lt = slice_get-length rs next r at in
    let le = length-take-le (next + 1) rs (omega arith) in
    next_receivable (sent_alone (take (next + 1) rs)) d (command_for r) []
    (prefix_carries (next + 1) (length d.base) rs path.fitting)
    (took_more next rs d r path at)
    (λ i block put. subst (λ n. block < n) (sym same) (block_within (length d.base) (take (next + 1) rs) front i block put))
    (omega (arith, m, lt, le))

pub path-more : (next : ℕ) (rs : List Request) (d : Seen) (r : Request) → IsDirect next rs d → slice_get rs next ≡ Some r → IsDirect (next + 1) rs (record d { took = d.took ++ command_for r ∷ [] })
path-more next rs d r path at =
    let lt = slice_get-length rs next r at in
    record {
      within = omega (arith, lt);
      took = sym (took_more next rs d r path at);
      fitting = path.fitting;
      limit = path.limit;
    }
