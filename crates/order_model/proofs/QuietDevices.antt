-- What a quiet device keeps.
use Rattle.std.proofs.Common.{◌≡◌, ℕ, List, [], length, Option, Some, None, slice_get, refl, subst, arith, ⊎_elim}
use Rattle.std.specs.Option.{option_and_then}
use Rattle.std.proofs.lemmas.Option.{none-some}
use Rattle.blk_base.specs.Members.{In}
use Rattle.blk_base.specs.laws.Members.{slice_get-length}
use Rattle.order_model.specs.declared.request.Request.{Request}
use Rattle.order_model.specs.OrderClosed.{kind_block, IsPut, IsPutOf, IsKept}
use Rattle.order_model.specs.Carrying.{SchedSeen, IsSentIn, IsWaitingAt}
use Rattle.order_model.specs.Device.{Seen, IsQuiet, origin_ids}
use Rattle.order_model.proofs.OrderToTheMedium.{IsRun, part_for, kept_put}

-- where nothing waits, all was taken, and the device is quiet, each put is kept
pub all_kept : (qs : List Request) (s : SchedSeen) (d : Seen) → IsRun qs s d → length s.accepted ≡ length qs → s.waiting ≡ [] → length d.took ≡ length s.sent_out → IsQuiet d → (i : ℕ) → IsPut qs i → IsKept qs (origin_ids d.took d.origins) i
all_kept qs s d run all none whole quiet i put =
    let q = put_there qs i put.0 put.1 in
    let low = slice_get-length qs i q.0 q.1 in
    ⊎_elim
    (λ (w : IsWaitingAt s i). absurd (subst (λ l. In w.request.id l) none w.waits))
    (λ (h : (k : ℕ) × IsSentIn s i k).
    let less = slice_get-length s.sent_out h.0 h.1.command h.1.sent in
    let p = part_for qs s d i h.0 put.0 run put.1 h.1 (omega (arith, less, whole)) in
    kept_put qs s d i p.place p.part run p.there p.named (quiet.kept p.place p.within))
    (run.carries.somewhere i (omega (arith, low, all)))
  where
    put_there : (qs : List Request) (i block : ℕ) → IsPutOf qs i block → (q : Request) × (slice_get qs i ≡ Some q)
    put_there qs i block e = by (slice_get qs i) refl e
      where
        by : (o : Option Request) → slice_get qs i ≡ o → option_and_then (λ (r : Request). kind_block r.kind) o ≡ Some block → (q : Request) × (slice_get qs i ≡ Some q)
        by None at e = absurd (none-some block e)
        by (Some q) at e = (q, at)
