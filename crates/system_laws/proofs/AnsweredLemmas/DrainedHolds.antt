-- Where all requests have completed and no flush is due: behind what a call needs a flush is answered, and blocks are held only
-- while a call that waits for the device has yet to say what it needs.
use Rattle.std.specs.List.{list_any}
use Rattle.std.specs.Prelude.{◌≡◌, ℕ, zero, suc, ◌+◌, ◌==◌, ◌&&◌, ◌<◌, ◌≤◌, nat_lt, Bool, true, false, not, List, [], ◌∷◌, length, set, Option, Some, None, is_none, slice_get, slice_index_or, refl}
use Rattle.std.proofs.Common.{sym, ap, subst, ◌∙◌, inl, ⊎_elim, arith}
use Rattle.std.proofs.lemmas.Bool.{false≢true, true≢false, both_ways, not-false, ltb-true, eqb-true, lt-ltb, eq-eqb, and_parts, and_from, or_cases, or_left, or_right, or_parts}
use Rattle.std.proofs.lemmas.Option.{none-some, same_Some}
use Rattle.blk_base.specs.Members.{In}
use Rattle.blk_base.specs.laws.Members.{In-list_any, list_any-In}
use Rattle.order_model.specs.declared.completion.Completion.TheVariants as completions
use Rattle.order_model.specs.declared.note.Note.TheVariants as notes
use Rattle.order_model.specs.declared.note.Note.{Note}
use Rattle.flush_actor.specs.Kinds.{is_durable}
use Rattle.flush_actor.specs.Part.{is_over, at_limit, is_flush_note, is_moved, flush_above}
use Rattle.flush_actor.specs.Steps.{commits_before, is_due}
use Rattle.flush_actor.specs.Waits.{no_wait, awaits}
use Rattle.flush_actor.specs.conflicts.Conflicts.{least}
use Rattle.flush_actor.specs.declared.conflicts.held.Held.{Held}
use Rattle.flush_actor.specs.declared.wait.Wait.{Wait}
use Rattle.commit_actor.specs.Journal.{Plan, Phase, Idle, Closing, Committing, JournalPart, is_submitted}
use Rattle.system_laws.proofs.AnsweredLemmas.Drained.{IsDrained}
use Rattle.system_laws.proofs.AnsweredLemmas.HoldFacts.{HoldFacts, wait_of}

-- ---- lists by their places

pub none_at : {X : Type 0} (p : X → Bool) (d : X) (xs : List X) (i : ℕ) → p d ≡ false → list_any p xs ≡ false → p (slice_index_or xs i d) ≡ false
none_at p d [] i unmet none = unmet
none_at p d (x ∷ xs) zero unmet none = (or_parts (p x) (list_any p xs) none).0
none_at p d (x ∷ xs) (suc i) unmet none = none_at p d xs i unmet (or_parts (p x) (list_any p xs) none).1

pub some_at : {X : Type 0} (p : X → Bool) (d : X) (xs : List X) → list_any p xs ≡ true → (i : ℕ) × (p (slice_index_or xs i d) ≡ true)
some_at p d [] some = absurd (false≢true some)
some_at p d (x ∷ xs) some = ⊎_elim (λ here. (0, here)) (λ rest. let r = some_at p d xs rest in (suc r.0, r.1)) (or_cases (p x) (list_any p xs) some)

pub place_within : {X : Type 0} (p : X → Bool) (d : X) (xs : List X) (i : ℕ) → p d ≡ false → p (slice_index_or xs i d) ≡ true → i < length xs
place_within p d [] i unmet met = absurd (both_ways (p d) unmet met)
place_within p d (x ∷ xs) zero unmet met = omega arith
place_within p d (x ∷ xs) (suc i) unmet met = let low = place_within p d xs i unmet met in omega (arith, low)

pub set_at : {X : Type 0} (d : X) (xs : List X) (i : ℕ) (x : X) → i < length xs → slice_index_or (set xs i x) i d ≡ x
set_at d [] i x low = absurd (omega (arith, low))
set_at d (y ∷ ys) zero x low = refl
set_at d (y ∷ ys) (suc i) x low = set_at d ys i x (omega (arith, low))

-- ---- notes

flush_note : (n : Note) → is_flush_note n ≡ true → n ≡ notes.Flush
flush_note notes.Flush e = refl
flush_note (notes.Page birth index call) e = cc
flush_note notes.Super e = cc
flush_note (notes.Revoke tx) e = cc
flush_note (notes.Descriptor tx) e = cc
flush_note (notes.Body tx block) e = cc
flush_note (notes.Commit tx) e = cc
flush_note (notes.Home block) e = cc
flush_note notes.Raw e = cc

pub flush_from : (id i : ℕ) (ns : List Note) → flush_above id i ns ≡ true → (p : ℕ) × (id < i + p) × (slice_get ns p ≡ Some notes.Flush)
flush_from id i [] e = absurd (false≢true e)
flush_from id i (n ∷ ns) e = ⊎_elim here (λ above. later (flush_from id (i + 1) ns above)) (or_cases (is_flush_note n && nat_lt id i) (flush_above id (i + 1) ns) e)
  where
    here : (is_flush_note n && nat_lt id i) ≡ true → (p : ℕ) × (id < i + p) × (slice_get (n ∷ ns) p ≡ Some notes.Flush)
    here both =
        let parts = and_parts (is_flush_note n) (nat_lt id i) both in
        let low = ltb-true id i parts.1 in
        (0, omega (arith, low), ap Some (flush_note n parts.0))

    later : (p : ℕ) × (id < i + 1 + p) × (slice_get ns p ≡ Some notes.Flush) → (p : ℕ) × (id < i + p) × (slice_get (n ∷ ns) p ≡ Some notes.Flush)
    later r = let low = r.1 in (suc r.0, omega (arith, low), r.2)

commit_from : (k id i c : ℕ) (ns : List Note) → slice_get ns c ≡ Some (notes.Commit k) → i + c < id → commits_before k id i ns ≡ true
commit_from k id i c [] at low = absurd (none-some (notes.Commit k) at)
commit_from k id i zero (n ∷ ns) at low = subst (λ n. commits_before k id i (n ∷ ns) ≡ true) (sym (same_Some n (notes.Commit k) at)) (or_left ((k == k) && nat_lt i id) (commits_before k id (i + 1) ns) (and_from (k == k) (nat_lt i id) (eq-eqb k k refl) (lt-ltb i id (omega (arith, low)))))
commit_from k id i (suc c) (n ∷ ns) at low = by (commit_from k id (i + 1) c ns at (omega (arith, low))) n
  where
    by : commits_before k id (i + 1) ns ≡ true → (n : Note) → commits_before k id i (n ∷ ns) ≡ true
    by rest (notes.Commit t) = or_right ((t == k) && nat_lt i id) (commits_before k id (i + 1) ns) rest
    by rest notes.Flush = rest
    by rest (notes.Page birth index call) = rest
    by rest notes.Super = rest
    by rest (notes.Revoke tx) = rest
    by rest (notes.Descriptor tx) = rest
    by rest (notes.Body tx block) = rest
    by rest (notes.Home block) = rest
    by rest notes.Raw = rest

-- ---- what calls need

-- a call waits for the device and for a transaction that is through, and does not say yet which request it needs
abbrev pub lacks : (ℕ → Bool) → Wait → Bool
lacks through w = is_durable w.kind && (is_none w.need && elim w.target as (λ _. Bool) [ None ↦ false | Some k ↦ through k ])

is_None : {X : Type 0} (o : Option X) → is_none o ≡ true → o ≡ None
is_None None e = refl
is_None (Some x) e = cc

passing : (through : ℕ → Bool) (o : Option ℕ) → (elim o as (λ _. Bool) [ None ↦ false | Some k ↦ through k ]) ≡ true → (k : ℕ) × (o ≡ Some k) × (through k ≡ true)
passing through None e = absurd (false≢true e)
passing through (Some k) e = (k, refl, e)

pub lacks_parts : (through : ℕ → Bool) (w : Wait) → lacks through w ≡ true → (w.need ≡ None) × ((k : ℕ) × (w.target ≡ Some k) × (through k ≡ true))
lacks_parts through w e =
    let rest = and_parts (is_none w.need) _ (and_parts (is_durable w.kind) _ e).1 in
    (is_None w.need rest.0, passing through w.target rest.1)

-- what a call that awaits this transaction needs
said : (through : ℕ → Bool) (w : Wait) (k : ℕ) → awaits k w ≡ true → through k ≡ true → lacks through w ≡ false → (w.target ≡ Some k) × ((id : ℕ) × (w.need ≡ Some id))
said through w k awaiting done full =
    let parts = and_parts (is_durable w.kind) _ awaiting in
    let target = targeted w.target parts.1 in
    (target, needed w.need refl (let e : lacks through w ≡ is_none w.need = rw (parts.0, target, done) (last (is_none w.need)) in sym e ∙ full))
  where
    targeted : (o : Option ℕ) → (elim o as (λ _. Bool) [ Some t ↦ t == k | None ↦ false ]) ≡ true → o ≡ Some k
    targeted None e = absurd (false≢true e)
    targeted (Some t) e = ap Some (eqb-true t k e)

    last : (b : Bool) → (b && true) ≡ b
    last true = refl
    last false = refl

    needed : (o : Option ℕ) → w.need ≡ o → is_none o ≡ false → (id : ℕ) × (w.need ≡ Some id)
    needed None at e = absurd (true≢false e)
    needed (Some id) at e = (id, at)

module _ (j : JournalPart) (drained : IsDrained j.flush) (holds : HoldFacts j) (going : is_over j.flush ≡ false) where
  undue : list_any (is_due j.flush) j.flush.waits ≡ false
  undue = by (is_over j.flush) going drained.none_due
    where
      by : (over : Bool) → over ≡ false → (not over && list_any (is_due j.flush) j.flush.waits) ≡ false → list_any (is_due j.flush) j.flush.waits ≡ false
      by true e none = absurd (true≢false e)
      by false e none = none

  abbrev due : Option ℕ → Bool
  due need = elim need as (λ _. Bool) [ None ↦ false | Some id ↦ list_any (is_moved id) j.flush.taken && not (flush_above id 0 j.flush.notes) ]

  -- behind what a call needs a flush is answered
  pub flush_behind : (t id : ℕ) → (wait_of j t).need ≡ Some id → (f : ℕ) × (id < f) × In (completions.Flushed f) j.flush.taken
  flush_behind t id need =
      let put = holds.put t id need in
      let moved = list_any-In (is_moved id) j.flush.taken (completions.Moved id) (drained.moved id put.0 put.1 put.2) (eq-eqb id id refl) in
      let none : is_due j.flush (wait_of j t) ≡ false = none_at (is_due j.flush) no_wait j.flush.waits t refl undue in
      let stands = flush_from id 0 j.flush.notes (above (list_any (is_moved id) j.flush.taken) (flush_above id 0 j.flush.notes) moved (sym (ap due need) ∙ none)) in
      let low = stands.1 in
      (stands.0, omega (arith, low), drained.flushed stands.0 stands.2)
    where
      above : (a b : Bool) → a ≡ true → (a && not b) ≡ false → b ≡ true
      above true b e none = not-false b none
      above false b e none = absurd (false≢true e)

  -- where no call lacks what it needs, no block is held
  module _ (free : at_limit j.flush ≡ false) (settled : (p : Plan) → j.phase ≡ Committing p → ⊥) (commits : (k : ℕ) → 1 ≤ k → is_submitted j k ≡ true → (id : ℕ) × (slice_get j.flush.notes id ≡ Some (notes.Commit k)))
      (none : list_any (lacks (is_submitted j)) j.flush.waits ≡ false) where
    through : (k : ℕ) → k < j.running.number → is_submitted j k ≡ true
    through k low = by j.phase refl
      where
        by : (phase : Phase) → j.phase ≡ phase → is_submitted j k ≡ true
        by Idle is = rw is (lt-ltb k j.running.number low)
        by Closing is = rw is (lt-ltb k j.running.number low)
        by (Committing p) is = absurd (settled p is)

    none_held : (x : Held) → In x j.flush.conflicts.held → ⊥
    none_held x held =
        let k = x.transaction in
        let closed = holds.closed x held in
        let done = through k closed.1 in
        let commit = commits k closed.0 done in
        let awaited = holds.awaited going free x commit.0 held commit.1 (drained.moved commit.0 (notes.Commit k) commit.1 refl) in
        let place = some_at (awaits k) no_wait j.flush.waits awaited in
        let full = none_at (lacks (is_submitted j)) no_wait j.flush.waits place.0 refl none in
        let need = said (is_submitted j) (wait_of j place.0) k place.1 done full in
        let flush = flush_behind place.0 need.1.0 need.1.1 in
        let behind = holds.behind place.0 k need.1.0 commit.0 need.0 need.1.1 commit.1 in
        let low = flush.1 in
        both_ways (commits_before k flush.0 0 j.flush.notes) (holds.unflushed x flush.0 held flush.2) (commit_from k flush.0 0 commit.0 j.flush.notes commit.1 (omega (arith, behind, low)))

    pub none_wanted : least j.flush.conflicts ≡ None
    none_wanted = by j.flush.conflicts.wanted refl
      where
        by : (ws : List ℕ) → j.flush.conflicts.wanted ≡ ws → least j.flush.conflicts ≡ None
        by [] is = rw is refl
        by (b ∷ bs) is =
            let held = In-list_any (λ (h : Held). h.block == b) j.flush.conflicts.held (holds.wanted b (subst (In b) (sym is) (inl refl))) in
            absurd (none_held held.0 held.1)
