-- What a data call finds when no page is left: the latest transaction on its way that changed its file, and the
-- last put.
use Rattle.std.proofs.Common.{sym, ap, ◌∙◌, inl, inr, ⊎_elim, arith, eq-eqb}
use Rattle.std.proofs.lemmas.Bool.{cases_Bool, cases_lt, false≢true}
use Rattle.std.proofs.lemmas.Option.{none-some, same_Some}
use Rattle.std.specs.List.{list_any}
use Rattle.std.specs.Prelude.{◌≡◌, ℕ, zero, suc, ◌+◌, ◌-◌, ◌<◌, ◌≤◌, ◌==◌, ◌⊎◌, Bool, true, false, List, [], ◌∷◌, length, Option, Some, None, slice_get, if◌then◌else◌, refl}
use Rattle.blk_base.specs.Members.{In}
use Rattle.blk_base.specs.laws.Members.{list_any-In}
use Rattle.order_model.specs.declared.note.Note.TheVariants.{Page, Commit}
use Rattle.order_model.specs.declared.note.Note.{Note}
use Rattle.crash_laws.specs.laws.CallFacts.{IsDone}
use Rattle.crash_laws.specs.History.{History, HasTrees}
use Rattle.crash_laws.specs.PromiseRules.{Covers}
use Rattle.crash_laws.specs.Session.{Session}
use Rattle.host_machine.specs.State.{Begun}
use Rattle.commit_actor.specs.Journal.{Plan, Phase, Idle, Closing, Committing, JournalPart, latest_change}
use Rattle.flush_actor.specs.Part.{is_flush_note, last_put}
use Rattle.host_machine.specs.laws.Facts.{Numbers}
use Rattle.host_machine.proofs.RunsLemmas.CallTargets.{IsQuiet, done_at_cut, quiet_running, quiet_both}
use Rattle.host_machine.specs.runs.Promises.{call_of}
use Rattle.host_machine.specs.runs.laws.CallFacts.{Anywhere}

-- ---- the last put

-- places only rise
last_put-rises : (i j id : ℕ) (ns : List Note) → j ≤ i → last_put i ns (Some j) ≡ Some id → j ≤ id
last_put-rises i j id [] le e = let same = same_Some j id e in omega arith
last_put-rises i j id (n ∷ ns) le e =
    by (is_flush_note n) e (λ q. last_put-rises (i + 1) j id ns (omega arith) q) (λ q. let up = last_put-rises (i + 1) i id ns (omega arith) q in omega arith)
  where
    by : (t : Bool) → last_put (i + 1) ns (if t then Some j else Some i) ≡ Some id → (last_put (i + 1) ns (Some j) ≡ Some id → j ≤ id) → (last_put (i + 1) ns (Some i) ≡ Some id → j ≤ id) → j ≤ id
    by true q f g = f q
    by false q f g = g q

-- each put is at or before it
puts_before : (i d id : ℕ) (ns : List Note) (last : Option ℕ) (n : Note) → slice_get ns d ≡ Some n → is_flush_note n ≡ false → last_put i ns last ≡ Some id → i + d ≤ id
puts_before i d id [] last n h t e = absurd (none-some n h)
puts_before i zero id (m ∷ ns) last n h t e =
    let put = ap is_flush_note (same_Some m n h) ∙ t in
    let up = last_put-rises (i + 1) i id ns (omega arith) (ap (λ (u : Bool). last_put (i + 1) ns (if u then last else Some i)) (sym put) ∙ e) in
    omega arith
puts_before i (suc d) id (m ∷ ns) last n h t e =
    let up = puts_before (i + 1) d id ns (if is_flush_note m then last else Some i) n h t e in
    omega arith

pub put_before_last : (ns : List Note) (o id : ℕ) (n : Note) → slice_get ns o ≡ Some n → is_flush_note n ≡ false → last_put 0 ns None ≡ Some id → o ≤ id
put_before_last ns o id n h t e = let up = puts_before 0 o id ns None n h t e in omega arith

-- it is one of them
last_put-within : (i id : ℕ) (ns : List Note) (last : Option ℕ) → last_put i ns last ≡ Some id → (last ≡ Some id) ⊎ (id < i + length ns)
last_put-within i id [] last e = inl e
last_put-within i id (n ∷ ns) last e = by (is_flush_note n) (last_put-within (i + 1) id ns (if is_flush_note n then last else Some i) e)
  where
    by : (t : Bool) → ((if t then last else Some i) ≡ Some id) ⊎ (id < i + 1 + length ns) → (last ≡ Some id) ⊎ (id < i + length (n ∷ ns))
    by true (inl q) = inl q
    by true (inr lt) = inr (omega arith)
    by false (inl q) = let same = same_Some i id q in inr (omega arith)
    by false (inr lt) = inr (omega arith)

pub last_put_is_place : (ns : List Note) (id : ℕ) → last_put 0 ns None ≡ Some id → id < length ns
last_put_is_place ns id e = ⊎_elim (λ q. absurd (none-some id q)) (λ lt. omega arith) (last_put-within 0 id ns None e)

last_put-some : (i j : ℕ) (ns : List Note) → last_put i ns (Some j) ≡ None → ⊥
last_put-some i j [] e = none-some j (sym e)
last_put-some i j (n ∷ ns) e = by (is_flush_note n) e (last_put-some (i + 1) j ns) (last_put-some (i + 1) i ns)
  where
    by : (t : Bool) → last_put (i + 1) ns (if t then Some j else Some i) ≡ None → (last_put (i + 1) ns (Some j) ≡ None → ⊥) → (last_put (i + 1) ns (Some i) ≡ None → ⊥) → ⊥
    by true q f g = f q
    by false q f g = g q

-- where there is none, nothing was put
no_puts : (i d : ℕ) (ns : List Note) (n : Note) → slice_get ns d ≡ Some n → is_flush_note n ≡ false → last_put i ns None ≡ None → ⊥
no_puts i d [] n h t e = none-some n h
no_puts i zero (m ∷ ns) n h t e =
    let put = ap is_flush_note (same_Some m n h) ∙ t in
    last_put-some (i + 1) i ns (ap (λ (u : Bool). last_put (i + 1) ns (if u then None else Some i)) (sym put) ∙ e)
no_puts i (suc d) (m ∷ ns) n h t e = by (is_flush_note m) e (no_puts (i + 1) d ns n h t) (last_put-some (i + 1) i ns)
  where
    by : (u : Bool) → last_put (i + 1) ns (if u then None else Some i) ≡ None → (last_put (i + 1) ns None ≡ None → ⊥) → (last_put (i + 1) ns (Some i) ≡ None → ⊥) → ⊥
    by true q f g = f q
    by false q f g = g q

pub nothing_put : (ns : List Note) (o : ℕ) (n : Note) → slice_get ns o ≡ Some n → is_flush_note n ≡ false → last_put 0 ns None ≡ None → ⊥
nothing_put ns o n h t e = no_puts 0 o ns n h t e

-- ---- the latest change

-- The transactions on their way list the nodes that they changed; and the phase says how many these are.
pub record ChangedListed {A : Type 0} (h : History A) (j : JournalPart) (N : ℕ) : Type 0 where
  pub running : (f : ℕ) → h.changes j.running.number f ≡ true → In f j.running.changed
  pub plan : (p : Plan) → j.phase ≡ Committing p → (f : ℕ) → h.changes (N + 1) f ≡ true → In f p.changed
  pub idle : j.phase ≡ Idle → N + 1 ≡ j.running.number
  pub closing : j.phase ≡ Closing → N + 1 ≡ j.running.number
  pub committing : (p : Plan) → j.phase ≡ Committing p → N + 2 ≡ j.running.number

unlisted : (changes : ℕ → Bool) (f : ℕ) (changed : List ℕ) → (changes f ≡ true → In f changed) → list_any (λ g. g == f) changed ≡ false → changes f ≡ false
unlisted changes f changed h none =
    ⊎_elim
    (λ t. absurd (false≢true (sym none ∙ list_any-In (λ g. g == f) changed f (h t) (eq-eqb f f refl))))
    (λ e. e)
    (cases_Bool (changes f))

module _ {A : Type 0} {h : History A} {s : Session} {now N : ℕ} (j : JournalPart) (trees : HasTrees h) (numbers : Numbers h s now j.running.number N) (listed : ChangedListed h j N) where
  abbrev on_way : ℕ → Phase → Option ℕ
  on_way f phase = elim phase as (λ _. Option ℕ) [
    | Idle ↦ None
    | Closing ↦ None
    | Committing p ↦ if list_any (λ g. g == f) p.changed then Some (j.running.number - 1) else None
  ]

  not_running : (f : ℕ) → list_any (λ g. g == f) j.running.changed ≡ false → h.changes j.running.number f ≡ false
  not_running f none = unlisted (λ g. h.changes j.running.number g) f j.running.changed (listed.running f) none

  -- none on its way changed the file
  pub latest_none : (f : ℕ) → latest_change j f ≡ None → IsQuiet h f (h.cut N) now
  latest_none f e = by (list_any (λ g. g == f) j.running.changed) refl e
    where
      plan_none : (p : Plan) → j.phase ≡ Committing p → h.changes j.running.number f ≡ false → (t : Bool) → list_any (λ g. g == f) p.changed ≡ t → (if t then Some (j.running.number - 1) else None) ≡ None → IsQuiet h f (h.cut N) now
      plan_none p at same true t q = absurd (none-some (j.running.number - 1) (sym q))
      plan_none p at same false t q = quiet_both trees numbers N f (listed.committing p at) same (unlisted (λ g. h.changes (N + 1) g) f p.changed (listed.plan p at f) t)

      of_phase : (phase : Phase) → j.phase ≡ phase → h.changes j.running.number f ≡ false → on_way f phase ≡ None → IsQuiet h f (h.cut N) now
      of_phase Idle at same q = quiet_running trees numbers N f (listed.idle at) same
      of_phase Closing at same q = quiet_running trees numbers N f (listed.closing at) same
      of_phase (Committing p) at same q = plan_none p at same (list_any (λ g. g == f) p.changed) refl q

      by : (t : Bool) → list_any (λ g. g == f) j.running.changed ≡ t → (if t then Some j.running.number else on_way f j.phase) ≡ None → IsQuiet h f (h.cut N) now
      by true t q = absurd (none-some j.running.number (sym q))
      by false t q = of_phase j.phase refl (not_running f t) q

  -- the running one did, or the one on its way and not the running one
  pub latest_some : (f k : ℕ) → latest_change j f ≡ Some k → (k ≡ j.running.number) ⊎ ((k < j.running.number) × (N < k) × IsQuiet h f (h.cut k) now)
  latest_some f k e = by (list_any (λ g. g == f) j.running.changed) refl e
    where
      plan_some : (p : Plan) → j.phase ≡ Committing p → h.changes j.running.number f ≡ false → (t : Bool) → (if t then Some (j.running.number - 1) else None) ≡ Some k → (k < j.running.number) × (N < k) × IsQuiet h f (h.cut k) now
      plan_some p at same true q =
          let one = same_Some (j.running.number - 1) k q in
          let next = listed.committing p at in
          (omega arith, omega arith, quiet_running trees numbers k f (omega arith) same)
      plan_some p at same false q = absurd (none-some k q)

      of_phase : (phase : Phase) → j.phase ≡ phase → h.changes j.running.number f ≡ false → on_way f phase ≡ Some k → (k < j.running.number) × (N < k) × IsQuiet h f (h.cut k) now
      of_phase Idle at same q = absurd (none-some k q)
      of_phase Closing at same q = absurd (none-some k q)
      of_phase (Committing p) at same q = plan_some p at same (list_any (λ g. g == f) p.changed) q

      by : (t : Bool) → list_any (λ g. g == f) j.running.changed ≡ t → (if t then Some j.running.number else on_way f j.phase) ≡ Some k → (k ≡ j.running.number) ⊎ ((k < j.running.number) × (N < k) × IsQuiet h f (h.cut k) now)
      by true t q = inl (sym (same_Some j.running.number k q))
      by false t q = inr (of_phase j.phase refl (not_running f t) q)

-- ---- a data sync with no put at all covers nothing

module _ {A : Type 0} {h : History A} {s : Session} {now r N : ℕ} (b : Begun) (trees : HasTrees h) (numbers : Numbers h s now r N) where
  pub nothing_covered : last_put 0 s.notes None ≡ None → b.begin ≤ now → ((f i n : ℕ) → Covers h (call_of b) f i n → IsQuiet h f (h.cut N) now) → ((f i n : ℕ) → Covers h (call_of b) f i n → IsDone h s Anywhere now f i n)
      → (f i n : ℕ) → Covers h (call_of b) f i n → ⊥
  nothing_covered none begun quiet done f i n c =
      let lt = c.1 in
      let zero_cut : h.cut N ≡ 0 =
      ⊎_elim
      (λ pos. let k = numbers.committed N pos (omega arith) in absurd (nothing_put s.notes k.0 (Commit N) k.1 refl none))
      (λ z. let e : N ≡ 0 = omega arith in ap h.cut e ∙ trees.first)
      (cases_lt 0 N) in
      ⊎_elim
      (λ gone. let hi = gone.within in let lo = gone.later in omega arith)
      (λ x. nothing_put s.notes x.0.place (Page f i x.0.version) x.0.note refl none)
      (done_at_cut h s trees now numbers.versions f i n (h.cut N) (numbers.cuts N) c.2 (omega arith) (quiet f i n c) (done f i n c))
