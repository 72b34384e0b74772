-- The entries of a session of one thread stand in the order of its program.
use Rattle.std.specs.Prelude.{◌≡◌, ℕ, zero, suc, ◌+◌, ◌*◌, ◌<◌, ◌≤◌, ◌==◌, ◌⊎◌, Bool, true, false, List, [], ◌∷◌, take, Option, Some, slice_get, refl}
use Rattle.std.proofs.Common.{sym, ap, subst, ◌∙◌, inl, inr, arith}
use Rattle.std.proofs.lemmas.Bool.{cases_eq, eq-eqb, false≢true}
use Rattle.std.proofs.lemmas.Option.{same_Some, none-some}
use Rattle.blk_base.specs.Members.{In}
use Rattle.blk_base.specs.laws.Members.{filter_all, filter-In}
use Rattle.tree_model.specs.declared.call.Call.{Call}
use Rattle.tree_model.specs.declared.call.Call.TheVariants.{Bytes, Fdatabarrier, Fdatasync}
use Rattle.tree_model.specs.declared.call.Reply.{Reply}
use Rattle.tree_model.specs.Calls.{leaves_tree}
use Rattle.crash_laws.specs.LegalHistory.{Event, Begin, End, thread_of, Follows, of_thread}
pub use Rattle.store_core.specs.Order.{ends, IsPutCall, StandsBefore}
use Rattle.store_core.specs.Program.{LogStep, Put, Flush, calls_from}

abbrev is-end : Event → Bool
is-end (Begin t c) = false
is-end (End t c r) = true

begin-end : (u : ℕ) (d : Call) (t : ℕ) (c : Call) (r : Reply) → Begin u d ≡ End t c r → ⊥
begin-end u d t c r e = false≢true (ap is-end e)

-- the call of an end
abbrev end-call : Call → Event → Call
end-call other (Begin t c) = other
end-call other (End t c r) = c

abbrev begin-call : Event → Call
begin-call (Begin t c) = c
begin-call (End t c r) = c

pub two-begins : (u : ℕ) (d : Call) (v : ℕ) (g : Call) (es : List Event) (program : List Call) → Follows (Begin u d ∷ Begin v g ∷ es) program → ⊥
two-begins u d v g es [] f = f
two-begins u d v g es (x ∷ program) f = f

-- the call that ends here is the next one of the program
pub ended-call : (es : List Event) (program : List Call) (q t : ℕ) (c : Call) (r : Reply) → Follows es program → slice_get es q ≡ Some (End t c r) → slice_get program (ends (take q es)) ≡ Some c
ended-call [] program q t c r f e = absurd (none-some (End t c r) e)
ended-call (Begin u d ∷ []) [] q t c r f e = absurd f
ended-call (Begin u d ∷ []) (x ∷ program) zero t c r f e = absurd (begin-end u d t c r (same_Some (Begin u d) (End t c r) e))
ended-call (Begin u d ∷ []) (x ∷ program) (suc q) t c r f e = absurd (none-some (End t c r) e)
ended-call (Begin u d ∷ Begin v g ∷ es) program q t c r f e = absurd (two-begins u d v g es program f)
ended-call (Begin u d ∷ End v g y ∷ es) [] q t c r f e = absurd f
ended-call (Begin u d ∷ End v g y ∷ es) (x ∷ program) zero t c r f e = absurd (begin-end u d t c r (same_Some (Begin u d) (End t c r) e))
ended-call (Begin u d ∷ End v g y ∷ es) (x ∷ program) (suc zero) t c r f e = ap Some (sym f.1 ∙ ap (end-call g) (same_Some (End v g y) (End t c r) e))
ended-call (Begin u d ∷ End v g y ∷ es) (x ∷ program) (suc (suc q)) t c r f e = ended-call es program q t c r f.2 e
ended-call (End v g y ∷ es) [] q t c r f e = absurd f
ended-call (End v g y ∷ es) (x ∷ program) zero t c r f e = ap Some (sym f.0 ∙ ap (end-call g) (same_Some (End v g y) (End t c r) e))
ended-call (End v g y ∷ es) (x ∷ program) (suc q) t c r f e = ended-call es program q t c r f.1 e

-- where a call of this number in the program has ended, its end stands there
pub earlier-end : (es : List Event) (q a : ℕ) → a < ends (take q es) → (e : ℕ) × (t : ℕ) × (c : Call) × (r : Reply) × (e < q) × (slice_get es e ≡ Some (End t c r)) × (ends (take e es) ≡ a)
earlier-end [] zero a lt = absurd (omega (arith, lt))
earlier-end [] (suc q) a lt = absurd (omega (arith, lt))
earlier-end (x ∷ es) zero a lt = absurd (omega (arith, lt))
earlier-end (Begin u d ∷ es) (suc q) a lt =
    let h = earlier-end es q a lt in
    let less = h.4 in
    (suc h.0, h.1, h.2, h.3, omega (arith, less), h.5, h.6)
earlier-end (End u d y ∷ es) (suc q) zero lt = (0, u, d, y, omega arith, refl, refl)
earlier-end (End u d y ∷ es) (suc q) (suc a) lt =
    let h = earlier-end es q a (omega (arith, lt)) in
    let less = h.4 in
    (suc h.0, h.1, h.2, h.3, omega (arith, less), h.5, ap suc h.6)

-- ---- one thread

no-entry : (es : List Event) → Follows es [] → es ≡ []
no-entry [] f = refl
no-entry (Begin t c ∷ []) f = absurd f
no-entry (Begin t c ∷ Begin u d ∷ es) f = absurd f
no-entry (Begin t c ∷ End u d r ∷ es) f = absurd f
no-entry (End t c r ∷ es) f = absurd f

-- where only thread 0 has calls, all events are its own
pub one-thread : (es : List Event) (program : ℕ → List Call) → ((t : ℕ) → Follows (of_thread t es) (program t)) → ((t : ℕ) → program (suc t) ≡ []) → (x : Event) → In x es → thread_of x ≡ 0
one-thread es program follows none x i = at (thread_of x) refl
  where
    at : (t : ℕ) → thread_of x ≡ t → thread_of x ≡ 0
    at zero e = e
    at (suc t) e =
        let empty = no-entry (of_thread (suc t) es) (subst (Follows (of_thread (suc t) es)) (none t) (follows (suc t))) in
        let there : In x (of_thread (suc t) es) = filter-In (λ y. thread_of y == suc t) es x i (eq-eqb (thread_of x) (suc t) e) in
        absurd (subst (In x) empty there)

pub follows-all : (es : List Event) (program : ℕ → List Call) → ((t : ℕ) → Follows (of_thread t es) (program t)) → ((t : ℕ) → program (suc t) ≡ []) → Follows es (program 0)
follows-all es program follows none =
    subst (λ l. Follows l (program 0)) (filter_all (λ y. thread_of y == 0) es (λ x i. eq-eqb (thread_of x) 0 (one-thread es program follows none x i))) (follows 0)

-- ---- the program

abbrev offset : Call → ℕ
offset (Bytes path off body) = off
offset other = 0

abbrev is-bytes : Call → Bool
is-bytes (Bytes path off body) = true
is-bytes other = false

not-barrier : (path p : List ℕ) (off : ℕ) (body : List ℕ) → ◌≡◌ {A = Option Call} (Some (Fdatabarrier p)) (Some (Bytes path off body)) → ⊥
not-barrier path p off body e = false≢true (ap is-bytes (same_Some (Fdatabarrier p) (Bytes path off body) e))

not-sync : (path p : List ℕ) (off : ℕ) (body : List ℕ) → ◌≡◌ {A = Option Call} (Some (Fdatasync p)) (Some (Bytes path off body)) → ⊥
not-sync path p off body e = false≢true (ap is-bytes (same_Some (Fdatasync p) (Bytes path off body) e))

-- puts stand in order, each with its barrier call
pub puts-in_order : (path : List ℕ) (n : ℕ) (ops : List LogStep) (b j : ℕ) (c : List ℕ) → IsPutCall path (calls_from path n ops) b j c
    → (n ≤ j) × ((i : ℕ) → n ≤ i → i < j → StandsBefore path (calls_from path n ops) i b)
puts-in_order path n [] b j c e = absurd (none-some (Bytes path (1024 * j) c) e)
puts-in_order path n (Put body ∷ ops) zero j c e =
    let at = ap offset (same_Some (Bytes path (1024 * n) body) (Bytes path (1024 * j) c) e) in
    (omega (arith, at), λ i le lt. absurd (omega (arith, at, le, lt)))
puts-in_order path n (Put body ∷ ops) (suc zero) j c e = absurd (not-barrier path path (1024 * j) c e)
puts-in_order path n (Put body ∷ ops) (suc (suc b)) j c e =
    let h = puts-in_order path (n + 1) ops b j c e in
    let low = h.0 in (
      omega (arith, low),
      λ i le lt.
          elim (cases_eq i n) [
            | inl same ↦
                record {
                  place = 0;
                  body = body;
                  put = ap (λ k. Some (Bytes path (1024 * k) body)) (sym same);
                  barrier = refl;
                  before = omega arith;
                }
            | inr ne ↦
                let x = h.1 i (omega (arith, le, ne)) lt in
                let before = x.before in
                record { place = suc (suc x.place); body = x.body; put = x.put; barrier = x.barrier; before = omega (arith, before) }
          ],
    )
puts-in_order path n (Flush ∷ ops) zero j c e = absurd (not-sync path path (1024 * j) c e)
puts-in_order path n (Flush ∷ ops) (suc b) j c e =
    let h = puts-in_order path n ops b j c e in
    (h.0, λ i le lt. let x = h.1 i le lt in let before = x.before in record { place = suc x.place; body = x.body; put = x.put; barrier = x.barrier; before = omega (arith, before) })

-- the numbers of puts rise along the program
pub numbers-rise : (path : List ℕ) (n : ℕ) (ops : List LogStep) (a i k j : ℕ) (b c : List ℕ) → IsPutCall path (calls_from path n ops) a i b → IsPutCall path (calls_from path n ops) k j c → a < k → i < j
numbers-rise path n [] a i k j b c e f lt = absurd (none-some (Bytes path (1024 * i) b) e)
numbers-rise path n (Put body ∷ ops) zero i zero j b c e f lt = absurd (omega (arith, lt))
numbers-rise path n (Put body ∷ ops) zero i (suc zero) j b c e f lt = absurd (not-barrier path path (1024 * j) c f)
numbers-rise path n (Put body ∷ ops) zero i (suc (suc k)) j b c e f lt =
    let at = ap offset (same_Some (Bytes path (1024 * n) body) (Bytes path (1024 * i) b) e) in
    let low = (puts-in_order path (n + 1) ops k j c f).0 in
    omega (arith, at, low)
numbers-rise path n (Put body ∷ ops) (suc zero) i k j b c e f lt = absurd (not-barrier path path (1024 * i) b e)
numbers-rise path n (Put body ∷ ops) (suc (suc a)) i zero j b c e f lt = absurd (omega (arith, lt))
numbers-rise path n (Put body ∷ ops) (suc (suc a)) i (suc zero) j b c e f lt = absurd (not-barrier path path (1024 * j) c f)
numbers-rise path n (Put body ∷ ops) (suc (suc a)) i (suc (suc k)) j b c e f lt = numbers-rise path (n + 1) ops a i k j b c e f (omega (arith, lt))
numbers-rise path n (Flush ∷ ops) zero i k j b c e f lt = absurd (not-sync path path (1024 * i) b e)
numbers-rise path n (Flush ∷ ops) (suc a) i zero j b c e f lt = absurd (omega (arith, lt))
numbers-rise path n (Flush ∷ ops) (suc a) i (suc k) j b c e f lt = numbers-rise path n ops a i k j b c e f (omega (arith, lt))

-- each call of the puts is one, or leaves the tree
pub kinds-of : (path : List ℕ) (n : ℕ) (ops : List LogStep) (a : ℕ) (c : Call) → slice_get (calls_from path n ops) a ≡ Some c → (leaves_tree c ≡ true) ⊎ ((i : ℕ) × (body : List ℕ) × (c ≡ Bytes path (1024 * i) body))
kinds-of path n [] a c e = absurd (none-some c e)
kinds-of path n (Put body ∷ ops) zero c e = inr (n, body, sym (same_Some (Bytes path (1024 * n) body) c e))
kinds-of path n (Put body ∷ ops) (suc zero) c e = inl (ap leaves_tree (sym (same_Some (Fdatabarrier path) c e)))
kinds-of path n (Put body ∷ ops) (suc (suc a)) c e = kinds-of path (n + 1) ops a c e
kinds-of path n (Flush ∷ ops) zero c e = inl (ap leaves_tree (sym (same_Some (Fdatasync path) c e)))
kinds-of path n (Flush ∷ ops) (suc a) c e = kinds-of path n ops a c e

-- an end counts among those before each later event
pub ends-below : (es : List Event) (n q t : ℕ) (c : Call) (r : Reply) → n < q → slice_get es n ≡ Some (End t c r) → ends (take n es) < ends (take q es)
ends-below [] n q t c r lt e = absurd (none-some (End t c r) e)
ends-below (x ∷ es) n zero t c r lt e = absurd (omega (arith, lt))
ends-below (Begin u d ∷ es) zero (suc q) t c r lt e = absurd (begin-end u d t c r (same_Some (Begin u d) (End t c r) e))
ends-below (End u d y ∷ es) zero (suc q) t c r lt e = omega arith
ends-below (Begin u d ∷ es) (suc n) (suc q) t c r lt e = ends-below es n q t c r (omega (arith, lt)) e
ends-below (End u d y ∷ es) (suc n) (suc q) t c r lt e = let less = ends-below es n q t c r (omega (arith, lt)) e in omega (arith, less)

-- the first event: a begin is that of the first call
pub first-begin : (es : List Event) (d : Call) (program : List Call) (t : ℕ) (c : Call) → Follows es (d ∷ program) → slice_get es 0 ≡ Some (Begin t c) → c ≡ d
first-begin [] d program t c f e = absurd (none-some (Begin t c) e)
first-begin (Begin u g ∷ []) d program t c f e = sym (ap begin-call (same_Some (Begin u g) (Begin t c) e)) ∙ f
first-begin (Begin u g ∷ Begin v h ∷ es) d program t c f e = absurd f
first-begin (Begin u g ∷ End v h r ∷ es) d program t c f e = sym (ap begin-call (same_Some (Begin u g) (Begin t c) e)) ∙ f.0
first-begin (End u g r ∷ es) d program t c f e = absurd (begin-end t c u g r (same_Some (Begin t c) (End u g r) (sym e)))
