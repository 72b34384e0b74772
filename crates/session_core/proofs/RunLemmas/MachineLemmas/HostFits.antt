-- What a step of the host submits goes on its way.
use Rattle.std.proofs.Common.{◌≡◌, ℕ, ◌<◌, ◌≤◌, Bool, true, false, not, List, [], ◌∷◌, ◌++◌, length, drop, Some, slice_get, nat_lt, refl, sym, ap, subst, ◌∙◌, arith, append_assoc, ⊎_elim}
use Rattle.std.proofs.lemmas.List.{append-nil, length-append, drop_at}
use Rattle.std.proofs.lemmas.Bool.{true≢false}
use Rattle.blk_base.specs.laws.Members.{slice_get-push_cases}
use Rattle.order_model.specs.declared.request.Kind.TheVariants.{Put}
use Rattle.order_model.specs.declared.request.Request.{Request}
use Rattle.order_model.specs.Device.{Seen}
use Rattle.order_model.specs.Carrying.{SchedSeen}
use Rattle.flush_actor.specs.Part.{FlushPart}
use Rattle.flush_actor.specs.Outcomes.{sent_between}
use Rattle.stack_core.specs.BlockLayer.{QueuesState}
use Rattle.stack_core.specs.RequestPath.{AreRequests}
use Rattle.session_core.specs.run.machine.Machine.{is_full, with_submitted}
use Rattle.session_core.specs.run.machine.Fits.{RequestsFit}
use Rattle.session_core.proofs.RunLemmas.MachineLemmas.Sending.{IsNumbered, Sends, Keeps, Puts}

-- the block of each put is there
abbrev pub HaveBlocks : ℕ → List Request → Type 0
HaveBlocks blocks requests = (i : ℕ) (r : Request) → slice_get requests i ≡ Some r → (block : ℕ) (body : List ℕ) → r.kind ≡ Put block body → block < blocks

one_more : (blocks : ℕ) (rs : List Request) (r : Request) → AreRequests blocks rs → IsNumbered (length rs) r → HaveBlocks blocks (rs ++ r ∷ []) → AreRequests blocks (rs ++ r ∷ [])
one_more blocks rs r all own there i q at =
    ⊎_elim (λ old. all i q old)
    (λ last.
    let n : IsNumbered i q = subst (λ (x : Request). IsNumbered i x) last.1 (subst (λ j. IsNumbered j r) (sym last.0) own) in
    record { named = n.named; within = there i q at; ordered = n.ordered; flush = n.flush })
    (slice_get-push_cases rs r i q at)

nothing_sent : (old new : FlushPart) → new.requests ≡ old.requests → sent_between old new ≡ []
nothing_sent old new same = ap (λ l. drop (length old.requests) l) (same ∙ sym (append-nil old.requests)) ∙ drop_at old.requests [] (length old.requests) refl

pub one_sent : (old new : FlushPart) (r : Request) → new.requests ≡ old.requests ++ r ∷ [] → sent_between old new ≡ r ∷ []
one_sent old new r more = ap (λ l. drop (length old.requests) l) more ∙ drop_at old.requests (r ∷ []) (length old.requests) refl

module _ (limit : ℕ) (q : QueuesState) (p : SchedSeen) (d : Seen) where
  kept_all : (old new : FlushPart) → new.requests ≡ old.requests → RequestsFit old.requests limit q p d → RequestsFit new.requests limit (with_submitted q []) p d
  kept_all old new same v = record {
    counted = (let c = v.counted in let e = ap length same in omega (arith, c, e));
    submitted = ap (λ l. p.accepted ++ l) (append-nil q.submission) ∙ v.submitted ∙ sym same;
    sent = v.sent;
    fitting = subst (AreRequests (length d.base)) (sym same) v.fitting;
    few = subst (λ l. length l ≤ limit) (sym same) v.few;
    scheduler = v.scheduler;
    device = v.device;
  }

  put_one : (old new : FlushPart) (r : Request) → new.requests ≡ old.requests ++ r ∷ [] → length old.requests < limit → IsNumbered (length old.requests) r → HaveBlocks (length d.base) new.requests
      → RequestsFit old.requests limit q p d → RequestsFit new.requests limit (with_submitted q (r ∷ [])) p d
  put_one old new r more room own there v = record {
    counted = (let c = v.counted in let e = ap length more ∙ length-append old.requests (r ∷ []) in omega (arith, c, e));
    submitted = sym (append_assoc p.accepted q.submission (r ∷ [])) ∙ ap (λ l. l ++ r ∷ []) v.submitted ∙ sym more;
    sent = v.sent;
    fitting = subst (AreRequests (length d.base)) (sym more) (one_more (length d.base) old.requests r v.fitting own (subst (HaveBlocks (length d.base)) more there));
    few = (let e = ap length more ∙ length-append old.requests (r ∷ []) in omega (arith, room, e));
    scheduler = v.scheduler;
    device = v.device;
  }

  -- a step that takes no completion
  pub submitted_fits : (full : Bool) (old new : FlushPart) → Sends full old new → old.limit ≡ limit → HaveBlocks (length d.base) new.requests → RequestsFit old.requests limit q p d
      → RequestsFit new.requests limit (with_submitted q (sent_between old new)) p d
  submitted_fits full old new (Keeps same taken most) is there v =
      subst (λ sent. RequestsFit new.requests limit (with_submitted q sent) p d) (sym (nothing_sent old new same)) (kept_all old new same v)
  submitted_fits full old new (Puts r free room own more taken most) is there v =
      subst (λ sent. RequestsFit new.requests limit (with_submitted q sent) p d) (sym (one_sent old new r more)) (put_one old new r more (subst (λ n. length old.requests < n) is room) own there v)

-- the submission queue holds no more than it can
pub free_room : (capacity n : ℕ) → not (nat_lt n capacity) ≡ false → n < capacity
free_room capacity n free = by (nat_lt n capacity) refl free
  where
    by : (b : Bool) → nat_lt n capacity ≡ b → not b ≡ false → n < capacity
    by true e f = grind (arith, e)
    by false e f = absurd (true≢false f)

pub submitted_within : (full : Bool) (q : QueuesState) (old new : FlushPart) → Sends full old new → is_full q.capacity q.submission ≡ full → length q.submission ≤ q.capacity → length (with_submitted q (sent_between old new)).submission ≤ q.capacity
submitted_within full q old new (Keeps same taken most) is within = subst (λ l. length (q.submission ++ l) ≤ q.capacity) (sym (nothing_sent old new same)) (subst (λ l. length l ≤ q.capacity) (sym (append-nil q.submission)) within)
submitted_within full q old new (Puts r free room own more taken most) is within =
    subst (λ l. length (q.submission ++ l) ≤ q.capacity) (sym (one_sent old new r more))
    (let less = free_room q.capacity (length q.submission) (is ∙ free) in let e = length-append q.submission (r ∷ []) in omega (arith, less, e))

pub taken_same : {full : Bool} (old new : FlushPart) → Sends full old new → new.taken ≡ old.taken
taken_same old new (Keeps same taken most) = taken
taken_same old new (Puts r free room own more taken most) = taken

pub limit_same : {full : Bool} (old new : FlushPart) → Sends full old new → new.limit ≡ old.limit
limit_same old new (Keeps same taken most) = most
limit_same old new (Puts r free room own more taken most) = most
