-- What follows from the laws of ordered devices, over what is seen of them.
use Rattle.std.specs.Prelude.{◌≡◌, ◌⊎◌, ◌<◌, ◌≤◌, ◌+◌, ◌-◌, ◌++◌, ◌&&◌, ℕ, zero, suc, not, nat_lt, Bool, true, false, List, [], ◌∷◌, length, Option, Some, None, slice_get, refl}
use Rattle.std.proofs.Common.{append_assoc, sym, ap, subst, ◌∙◌, inl, inr, ⊎_elim, arith}
use Rattle.std.proofs.lemmas.Bool.{and_from, lt-ltb, le-ltb, true≢false, false_from_ne_true}
use Rattle.std.proofs.lemmas.Option.{none-some}
use Rattle.blk_base.specs.Members.{In}
use Rattle.blk_base.specs.laws.Members.{In-append_left, In-append_right, In-append_cases, slice_get-append_right, map-In}
use Rattle.order_model.specs.declared.part.Part.{Part}
use Rattle.order_model.specs.declared.command.Command.{Command}
use Rattle.order_model.specs.declared.completion.Completion.{Completion}
use Rattle.order_model.specs.declared.completion.Completion.TheVariants.{Moved, Flushed, Failed, Cut}
use Rattle.order_model.specs.declared.history.Transfer.{Transfer}
use Rattle.order_model.specs.Received.{first_part, ids_of, epoch_of, failures_of, transfers, IsBarrier}
use Rattle.order_model.specs.Device.{Seen, IsMoved, IsPartKept, IsSettled, IsSurface, Completes, TellsCut, TellsFailure, completed}
use Rattle.order_model.specs.Steps.{Tells, FailsNext, Performs, Fails, Transfers, Persists, Answers}
use Rattle.order_model.proofs.Received.{epoch_of-flat, flush-is, is-barrier}
use Rattle.stack_core.specs.Fresh.{IsFresh}
use Rattle.device_tests.specs.Writing.{after_writes}

-- ---- room

pub is_free : (off : Bool) (taken places : ℕ) → off ≡ false → taken < places → (not off && nat_lt taken places) ≡ true
is_free off taken places on few = and_from (not off) (nat_lt taken places) (ap not on) (lt-ltb taken places few)

pub is_full : (off : Bool) (taken places : ℕ) → places ≤ taken → (not off && nat_lt taken places) ≡ false
is_full off taken places many = ap (λ b. not off && b) (le-ltb taken places many) ∙ none (not off)
  where
    none : (b : Bool) → (b && false) ≡ false
    none true = refl
    none false = refl

-- a command that was transferred, or failed, leaves a place
pub leaves_place : (old new : Seen) → Transfers old new → length old.took ≤ old.depth + old.transfers_made → length new.took < new.depth + new.transfers_made
leaves_place old new t few =
    let took = ap length t.given.took in
    let depth = t.given.depth in
    let made = t.transfers_made in
    omega arith

-- ---- writes

pub above_none : (n : ℕ) → (n ≡ 0 → ⊥) → 0 < n
above_none zero h = absurd (h refl)
above_none (suc n) h = omega arith

none_above : (n : ℕ) → (0 < n → ⊥) → n ≡ 0
none_above zero h = refl
none_above (suc n) h = absurd (h (omega arith))

none_or_some : (n : ℕ) → (n ≡ 0) ⊎ (0 < n)
none_or_some zero = inl refl
none_or_some (suc n) = inr (omega arith)

module _ (S : Type 0) (valid stays_on : S → Type 0) (seen : S → Seen) (can_persist : S → ℕ) (persisted : S → ℕ → S) (left : S → ℕ)
    (persists : (s : S) (pick : ℕ) → valid s → pick < can_persist s → valid (persisted s pick) × Persists (seen s) (seen (persisted s pick)))
    (settles : (s : S) → valid s → (seen s).off ≡ false → can_persist s ≡ 0 → IsSettled (seen s))
    (on : (s : S) → valid s → stays_on s → (seen s).off ≡ false) (stays : (s : S) → stays_on s → stays_on (persisted s 0))
    (falls : (s : S) → valid s → 0 < can_persist s → left (persisted s 0) < left s) where
  abbrev ComesToRest : S → Type 0
  ComesToRest s = (n : ℕ) × ((place : ℕ) → IsMoved (seen s) place → IsPartKept (seen (after_writes persisted n s)) place)

  at_rest : (s : S) → valid s → stays_on s → can_persist s ≡ 0 → ComesToRest s
  at_rest s v st none = (zero, (λ place moved. settles s v (on s v st) none place moved))

  one_more : (s : S) (v : valid s) (lt : 0 < can_persist s) → ComesToRest (persisted s 0) → ComesToRest s
  one_more s v lt rest =
      (suc rest.0, (λ place moved. rest.1 place (moved.0, subst (In (record { epoch = moved.0; part = place })) (sym (persists s 0 v lt).1.moved) moved.1)))

  -- so many steps are left at most
  within : (fuel : ℕ) (s : S) → valid s → stays_on s → left s ≤ fuel → ComesToRest s
  within zero s v st few = at_rest s v st (none_above (can_persist s) (λ lt. (let less = falls s v lt in omega arith)))
  within (suc fuel) s v st few = elim (none_or_some (can_persist s)) [
    | inl none ↦ at_rest s v st none
    | inr lt ↦ one_more s v lt (within fuel (persisted s 0) (persists s 0 v lt).0 (stays s st) (let less = falls s v lt in omega arith))
  ]

  pub comes_to_rest : (s : S) → valid s → stays_on s → ComesToRest s
  comes_to_rest s v st = within (left s) s v st (omega arith)

-- ---- completions

told_waits : (old : Seen) (done : List Completion) (new : Seen) → Tells old done new → (answer : Completion) → In answer (old.waiting ++ done) → In answer new.waiting
told_waits old done new (inl same) answer i = subst (In answer) (sym same) i
told_waits old done new (inr cut) answer i = subst (In answer) (sym cut.2) (In-append_left (old.waiting ++ done) (Cut ∷ []) answer i)

told_behind : (old : Seen) (done : List Completion) (new : Seen) → Tells old done new → (rest : List Completion) × (new.waiting ≡ old.waiting ++ rest)
told_behind old done new (inl same) = (done, same)
told_behind old done new (inr cut) = (done ++ Cut ∷ [], cut.2 ∙ append_assoc old.waiting done (Cut ∷ []))

pub waits_behind : (old new : Seen) → Transfers old new → (rest : List Completion) × (new.waiting ≡ old.waiting ++ rest)
waits_behind old new t = ⊎_elim
    (λ (p : Performs old t.number t.command new). told_behind old _ new p.told)
    (λ (f : Fails old t.command new). told_behind old _ new f.told)
    t.outcome

pub tells_each : (old new : Seen) → Transfers old new → FailsNext old →
    (k : ℕ) × (c : Command) × (slice_get old.took k ≡ Some c) × (new.moved ≡ old.moved) × ((id : ℕ) → In id (ids_of c) → In (Failed id) new.waiting)
tells_each old new t fails = ⊎_elim
    (λ (p : Performs old t.number t.command new). absurd (p.cause fails))
    (λ (f : Fails old t.command new). (
      t.number,
      t.command,
      t.taken,
      f.moved,
      (λ id i. told_waits old (failures_of t.command) new f.told (Failed id) (In-append_right old.waiting (failures_of t.command) (Failed id) (map-In Failed (ids_of t.command) id i))),
    ))
    t.outcome

pub hands_first : (old : Seen) (answer : Option Completion) (new : Seen) → Answers old answer new → (first : Completion) (rest : List Completion) → old.waiting ≡ first ∷ rest →
    (answer ≡ Some first) × (new.waiting ≡ rest) × (new.sent ≡ old.sent ++ first ∷ [])
hands_first old None new a first rest e = absurd (none_left first rest (sym (a.none refl) ∙ e))
  where
    none_left : (first : Completion) (rest : List Completion) → ◌≡◌ {A = List Completion} [] (first ∷ rest) → ⊥
    none_left first rest e = cc
hands_first old (Some c) new a first rest e =
    let same : ◌≡◌ {A = List Completion} (first ∷ rest) (c ∷ new.waiting) = sym e ∙ a.waiting in
    let head = first_same first c rest new.waiting same in
    (ap Some (sym head.0), sym head.1, a.sent ∙ ap (λ x. old.sent ++ x ∷ []) (sym head.0))
  where
    first_same : (x y : Completion) (xs ys : List Completion) → ◌≡◌ {A = List Completion} (x ∷ xs) (y ∷ ys) → (x ≡ y) × (xs ≡ ys)
    first_same x y xs ys e = (cc, cc)

pub none_but_cut : (old new : Seen) → Persists old new → (answer : Completion) → In answer new.waiting → In answer old.waiting ⊎ (answer ≡ Cut)
none_but_cut old new p answer i = ⊎_elim
    (λ same. inl (subst (In answer) same i))
    (λ cut. ⊎_elim inl (λ last. inr (only last)) (In-append_cases old.waiting (Cut ∷ []) answer (subst (In answer) cut.2 i)))
    p.waiting
  where
    only : In answer (Cut ∷ []) → answer ≡ Cut
    only (inl same) = sym same
    only (inr none) = absurd none

-- ---- a fresh device

module _ (image : List (List ℕ)) (s : Seen) (fresh : IsFresh image s) where
  pub is_on : TellsCut s → s.off ≡ false
  is_on cut = false_from_ne_true s.off (λ off. none-some s.steps (sym fresh.cut_at ∙ cut.cause.0 off))

  pub is_sound : TellsFailure s → s.failed ≡ false
  is_sound failure = false_from_ne_true s.failed (λ failed. none-some s.transfers_made (sym fresh.fail_at ∙ failure.number failed))

  none_taken : (k : ℕ) (c : Command) → slice_get s.took k ≡ Some c → ⊥
  none_taken k c e = none-some c (sym (ap (λ l. slice_get l k) fresh.untouched.took ∙ nothing k) ∙ e)
    where
      nothing : (k : ℕ) → slice_get {X = Command} [] k ≡ None
      nothing k = refl

  none_in : (t : Transfer) → In t [] → ⊥
  none_in t i = i

  pub no_origin : IsSurface s → (block : ℕ) (origin : Option ℕ) → slice_get s.origins block ≡ Some origin → origin ≡ None
  no_origin surface block None e = refl
  no_origin surface block (Some place) e =
      let w = surface.written block place e in
      let moved = w.4 in
      absurd (none_in (record { epoch = moved.0; part = place }) (subst (In (record { epoch = moved.0; part = place })) fresh.untouched.moved moved.1))

  no_completion : Completes s → TellsCut s → TellsFailure s → (c : Completion) → In c (completed s) → ⊥
  no_completion completes cut failure (Moved id) i =
      let w = completes.moved id i in
      let moved = w.4 in
      subst (In (record { epoch = moved.0; part = w.0 })) fresh.untouched.moved moved.1
  no_completion completes cut failure (Flushed id) i = (let w = completes.flushed id i in let f = flush-is s.took w.0 id w.1 in none_taken w.0 f.0 f.1)
  no_completion completes cut failure (Failed id) i = let w = (failure.known id i).1 in none_taken w.number w.command w.taken
  no_completion completes cut failure Cut i = true≢false (sym (cut.told.0 i) ∙ is_on cut)

  pub is_silent : Completes s → TellsCut s → TellsFailure s → s.waiting ≡ []
  is_silent completes cut failure = none s.waiting (λ c i. no_completion completes cut failure c (In-append_right s.sent s.waiting c i))
    where
      none : (cs : List Completion) → ((c : Completion) → In c cs → ⊥) → cs ≡ []
      none [] h = refl
      none (c ∷ cs) h = absurd (h c (inl refl))

-- ---- epochs

pub same_epoch : (took : List Command) (k m : ℕ) → k ≤ m → m ≤ length took → ((b : ℕ) → k ≤ b → b < m → IsBarrier took b → ⊥) → epoch_of took k ≡ epoch_of took m
same_epoch took k m le within none =
    sym (epoch_of-flat took k m le within (λ b c low high at. false_from_ne_true c.barrier (λ is. none b low high (is-barrier took b c at is))))

parts_noted : (epoch place : ℕ) (ps : List Part) (i : ℕ) → i < length ps → slice_get (transfers epoch place ps) i ≡ Some (record { epoch = epoch; part = place + i })
parts_noted epoch place [] i lt = absurd (omega arith)
parts_noted epoch place (p ∷ ps) zero lt = let e : place ≡ place + 0 = omega arith in ap (λ n. Some (record { epoch = epoch; part = n })) e
parts_noted epoch place (p ∷ ps) (suc i) lt =
    let e : (place + 1) + i ≡ place + suc i = omega arith in
    parts_noted epoch (place + 1) ps i (omega arith) ∙ ap (λ n. Some (record { epoch = epoch; part = n })) e

pub notes_epoch : (old new : Seen) → Transfers old new → (FailsNext old → ⊥) →
    (k : ℕ) × (c : Command) × (slice_get old.took k ≡ Some c) × ((i : ℕ) → i < length c.parts →
    slice_get new.moved (length old.moved + i) ≡ Some (record { epoch = epoch_of old.took k; part = first_part old.took k + i }))
notes_epoch old new t sound = ⊎_elim
    (λ (p : Performs old t.number t.command new). (
      t.number,
      t.command,
      t.taken,
      (λ i lt.
          let noted = transfers (epoch_of old.took t.number) (first_part old.took t.number) t.command.parts in
          let back : (length old.moved + i) - length old.moved ≡ i = omega arith in
          ap (λ l. slice_get l (length old.moved + i)) p.moved
          ∙ (slice_get-append_right old.moved noted (length old.moved + i) (omega arith)
          ∙ (ap (slice_get noted) back ∙ parts_noted (epoch_of old.took t.number) (first_part old.took t.number) t.command.parts i lt))),
    ))
    (λ (f : Fails old t.command new). absurd (sound f.cause))
    t.outcome
