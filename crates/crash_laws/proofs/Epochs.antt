-- That the chosen forms say the sentences as they are printed.
use Rattle.std.specs.Prelude.{◌≡◌, ℕ, zero, suc, ◌+◌, ◌-◌, ◌<◌, ◌≤◌, ◌||◌, Bool, true, false, List, Option, Some, None, slice_get, IsTrue, IsSomeAnd, refl}
use Rattle.std.specs.Option.{option_map_or}
use Rattle.std.proofs.Common.{ap, inl, inr, arith}
use Rattle.std.proofs.lemmas.Bool.{cases_Bool, cond-true, cond-false, false≢true}
use Rattle.order_model.specs.declared.request.Request.{Request}
use Rattle.order_model.specs.OrderClosed.{is_flush}
use Rattle.crash_laws.specs.Epochs.{is_fence, epoch}
use Rattle.crash_laws.specs.Found.{count_below}
use Rattle.crash_laws.specs.Ordering.{Fenced}

-- ---- "with a barrier between", by counting

count_rises : (test : ℕ → Bool) (i d : ℕ) → count_below test i ≤ count_below test (i + d)
count_rises test i zero = let e : i + zero ≡ i = omega arith in let same = ap (count_below test) e in omega arith
count_rises test i (suc d) =
    let e : i + suc d ≡ suc (i + d) = omega arith in
    let same = ap (count_below test) e in
    let before = count_rises test i d in
    elim (cases_Bool (test (i + d))) [
      | inl t ↦ let now : count_below test (suc (i + d)) ≡ suc (count_below test (i + d)) = cond-true (test (i + d)) _ _ t in omega arith
      | inr t ↦ let now : count_below test (suc (i + d)) ≡ count_below test (i + d) = cond-false (test (i + d)) _ _ t in omega arith
    ]

one_between : (test : ℕ → Bool) (i d : ℕ) → count_below test i < count_below test (i + d) → (b : ℕ) × (i ≤ b) × (b < i + d) × (test b ≡ true)
one_between test i zero lt = let e : i + zero ≡ i = omega arith in let same = ap (count_below test) e in absurd (omega arith)
one_between test i (suc d) lt =
    let e : i + suc d ≡ suc (i + d) = omega arith in
    let same = ap (count_below test) e in
    elim (cases_Bool (test (i + d))) [
      | inl t ↦ (i + d, omega arith, omega arith, t)
      | inr t ↦
          let now : count_below test (suc (i + d)) ≡ count_below test (i + d) = cond-false (test (i + d)) _ _ t in
          let r = one_between test i d (omega arith) in
          let hi = r.2 in
          (r.0, r.1, omega arith, r.3)
    ]

fence_test : (requests : List Request) (b : ℕ) (o : Option Request) → slice_get requests b ≡ o → option_map_or (λ (r : Request). r.barrier || is_flush r.kind) o false ≡ true → IsSomeAnd o (λ r. IsTrue (r.barrier || is_flush r.kind))
fence_test requests b None e t = absurd (false≢true t)
fence_test requests b (Some r) e t = t

pub epoch-fenced : (requests : List Request) (i j : ℕ) → i ≤ j → epoch requests i < epoch requests j → Fenced requests i j
epoch-fenced requests i j le lt =
    let e : i + (j - i) ≡ j = omega arith in
    let same = ap (epoch requests) e in
    let r = one_between (is_fence requests) i (j - i) (omega arith) in
    let hi = r.2 in
    (r.0, r.1, omega arith, fence_test requests r.0 (slice_get requests r.0) refl r.3)

fence_back : (requests : List Request) (b : ℕ) (o : Option Request) → slice_get requests b ≡ o → IsSomeAnd o (λ r. IsTrue (r.barrier || is_flush r.kind)) → option_map_or (λ (r : Request). r.barrier || is_flush r.kind) o false ≡ true
fence_back requests b None e t = absurd t
fence_back requests b (Some r) e t = t

count_at : (test : ℕ → Bool) (b j : ℕ) → b < j → test b ≡ true → count_below test b < count_below test j
count_at test b j lt t =
    let e : suc b + (j - suc b) ≡ j = omega arith in
    let same = ap (count_below test) e in
    let now : count_below test (suc b) ≡ suc (count_below test b) = cond-true (test b) _ _ t in
    let more = count_rises test (suc b) (j - suc b) in
    omega arith

pub fenced-epoch : (requests : List Request) (i j : ℕ) → Fenced requests i j → epoch requests i < epoch requests j
fenced-epoch requests i j f =
    let lo = f.1 in
    let e : i + (f.0 - i) ≡ f.0 = omega arith in
    let same = ap (epoch requests) e in
    let up = count_rises (is_fence requests) i (f.0 - i) in
    let more = count_at (is_fence requests) f.0 j f.2 (fence_back requests f.0 (slice_get requests f.0) refl f.3) in
    omega arith
