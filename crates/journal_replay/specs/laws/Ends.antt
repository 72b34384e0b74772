-- Laws of the end of a run, and that a device has work until then.
use Rattle.std.specs.Prelude.{◌≡◌, ℕ, zero, suc, ◌+◌, ◌<◌, ◌≤◌, ◌==◌, Bool, true, false, List, [], ◌∷◌, ◌++◌, length, replicate, Some, ◌⊎◌, refl}
use Rattle.std.proofs.Common.{sym, ap, ◌∙◌, subst, inl, inr, ⊎_elim, arith}
use Rattle.std.proofs.lemmas.Bool.{cases_lt, false≢true, cases_Bool}
use Rattle.std.proofs.lemmas.List.{append-nil}
use Rattle.std.proofs.lemmas.Option.{none-some, same_Some}
use Rattle.blk_base.specs.Members.{In}
use Rattle.order_model.specs.declared.command.Command.{Command}
use Rattle.order_model.specs.declared.completion.Completion.{Completion}
use Rattle.order_model.specs.declared.completion.Completion.TheVariants as completion
use Rattle.order_model.specs.Device.{Seen, Completes, TellsFailure, completion_id}
use Rattle.order_model.specs.Steps.{Progresses}
use Rattle.order_model.specs.Machine.{Machine}
use Rattle.journal_replay.specs.code.Runs.{FlushedLast, IsAhead}
use Rattle.journal_replay.specs.declared.choice.Choice.{Choice}
use Rattle.journal_replay.specs.declared.choice.Choice.TheVariants as choice
use Rattle.journal_replay.specs.declared.end.End.{End}
use Rattle.journal_replay.specs.declared.end.End.TheVariants as ends
use Rattle.journal_replay.specs.Driving.{Driven, by_completion, end_after, end_of, is_running, sent, turned, driven}
use Rattle.journal_replay.specs.laws.Drives.{driven-sent, driven-over, sent-none, sent-next}

-- an end stays
ended-stays : (e : End) (cs : List Completion) → is_running e ≡ false → is_running (end_after e cs) ≡ false
ended-stays e [] over = over
ended-stays ends.Running (c ∷ cs) over = absurd (false≢true (sym over))
ended-stays ends.Flushed (c ∷ cs) over = ended-stays ends.Flushed cs refl
ended-stays (ends.Failed id) (c ∷ cs) over = ended-stays (ends.Failed id) cs refl

-- a run that goes on has got none of them before
before_end : (e : End) (cs : List Completion) → is_running (end_after e cs) ≡ true → e ≡ ends.Running
before_end ends.Running cs running = refl
before_end ends.Flushed cs running = absurd (false≢true (sym (ended-stays ends.Flushed cs refl) ∙ running))
before_end (ends.Failed id) cs running = absurd (false≢true (sym (ended-stays (ends.Failed id) cs refl) ∙ running))

-- a completion that ends a run is none of those that a running one has got
pub ends-in : (cs : List Completion) (c : Completion) → is_running (by_completion ends.Running c) ≡ false → In c cs → is_running (end_after ends.Running cs) ≡ true → ⊥
ends-in [] c over h running = h
ends-in (d ∷ ds) c over (inl e) running =
    false≢true (sym (ended-stays (by_completion ends.Running d) ds (subst (λ x. is_running (by_completion ends.Running x) ≡ false) (sym e) over)) ∙ running)
ends-in (d ∷ ds) c over (inr h) running =
    ends-in ds c over h (subst (λ e. is_running (end_after e ds) ≡ true) (before_end (by_completion ends.Running d) ds running) running)

-- while it runs, and no completion waits, the device has not failed
pub not_failed : (s : Seen) → TellsFailure s → s.waiting ≡ [] → is_running (end_of s) ≡ true → s.failed ≡ false
not_failed s law empty running =
    elim (cases_Bool s.failed) [
      | inl failed ↦ let t = law.told failed in absurd (ends-in s.sent (completion.Failed t.0) refl (subst (In (completion.Failed t.0)) (ap (λ ws. s.sent ++ ws) empty ∙ append-nil s.sent) t.1) running)
      | inr fine ↦ fine
    ]

-- a device without room has work
pub works-full : (s : Seen) (left : ℕ) (room : Bool) (ct cp : ℕ) → Progresses s left room ct cp → room ≡ false → (0 < ct) ⊎ (0 < cp)
works-full s left room ct cp law full =
    ⊎_elim (λ none. absurd (false≢true (sym full ∙ law.room (omega arith)))) law.works (cases_lt left 1)

-- a completion of the flush is its own, or tells that it failed
ends_by : (s : Seen) (id : ℕ) (c : Completion) → FlushedLast s.took id → Completes s → completion_id c ≡ Some id → In c (s.sent ++ s.waiting) → is_running (by_completion ends.Running c) ≡ false
ends_by s id (completion.Moved i) last law e h =
    let m = law.moved i h in absurd (last.alone m.0 m.1 m.2 (m.3 ∙ same_Some i id e))
ends_by s id (completion.Flushed i) last law e h = refl
ends_by s id (completion.Failed i) last law e h = refl
ends_by s id completion.Cut last law e h = absurd (none-some id e)

-- a device that took the flush has work until the flush is answered
pub works-last : (s : Seen) (id left : ℕ) (room : Bool) (ct cp : ℕ) → Progresses s left room ct cp → Completes s → FlushedLast s.took id → s.waiting ≡ [] → is_running (end_of s) ≡ true → (0 < ct) ⊎ (0 < cp)
works-last s id left room ct cp law completes last empty running =
    ⊎_elim
    (λ none.
    let d = law.done (omega arith) id last.listed in
    absurd (ends-in s.sent d.0 (ends_by s id d.0 last completes d.2 d.1) (subst (In d.0) (ap (λ ws. s.sent ++ ws) empty ∙ append-nil s.sent) d.1) running))
    law.works (cases_lt left 1)

-- ---- a run that is ahead of another by so many turns by default

turns_more : (j k : ℕ) (cs : List Choice) → replicate j choice.Default ++ (replicate k choice.Default ++ cs) ≡ replicate (j + k) choice.Default ++ cs
turns_more zero k cs = let e : k ≡ 0 + k = omega arith in ap (λ n. replicate n choice.Default ++ cs) e
turns_more (suc j) k cs = let e : suc (j + k) ≡ suc j + k = omega arith in ap (λ xs. choice.Default ∷ xs) (turns_more j k cs) ∙ ap (λ n. replicate n choice.Default ++ cs) e

more_of : (k : ℕ) (cs : List Choice) → replicate k choice.Default ++ choice.Default ∷ cs ≡ replicate (suc k) choice.Default ++ cs
more_of zero cs = refl
more_of (suc k) cs = ap (λ xs. choice.Default ∷ xs) (more_of k cs)

one_more : (k : ℕ) (cs : List Choice) → replicate k choice.Default ++ choice.Default ∷ cs ≡ replicate (k + 1) choice.Default ++ cs
one_more k cs = let e : k + 1 ≡ suc k = omega arith in more_of k cs ∙ ap (λ n. replicate n choice.Default ++ cs) (sym e)

module _ {S : Type 0} where
  pub ahead_more : (m : Machine S) (d e f : Driven S) → IsAhead m d e → IsAhead m e f → IsAhead m d f
  ahead_more m d e f a b = record {
    turns = a.turns + b.turns;
    same = λ cs. b.same cs ∙ (a.same (replicate b.turns choice.Default ++ cs) ∙ ap (λ xs. driven m xs d) (turns_more a.turns b.turns cs));
  }

  pub ahead-sent : (m : Machine S) (d e f : Driven S) → IsAhead m d e → f ≡ sent m e.dev e.rest → is_running (end_of (m.seen e.dev)) ≡ true → is_running (end_of (m.seen f.dev)) ≡ true → IsAhead m d f
  ahead-sent m d e f a same running still = record { turns = a.turns; same = λ cs. driven-sent m cs e f same running still ∙ a.same cs }

  pub ahead-turn : (m : Machine S) (d e f : Driven S) → IsAhead m d e → f ≡ turned m choice.Default e → IsAhead m d f
  ahead-turn m d e f a same = record {
    turns = a.turns + 1;
    same = λ cs. ap (driven m cs) same ∙ (a.same (choice.Default ∷ cs) ∙ ap (λ xs. driven m xs d) (one_more a.turns cs));
  }

  pub ahead-end : (m : Machine S) (d e : Driven S) → IsAhead m d e → is_running (end_of (m.seen e.dev)) ≡ false → (k : ℕ) × (e ≡ driven m (replicate k choice.Default) d)
  ahead-end m d e a over = (a.turns, sym (driven-over m e over) ∙ (a.same [] ∙ ap (λ xs. driven m xs d) (append-nil (replicate a.turns choice.Default))))

module _ {S : Type 0} where
  -- nothing goes out
  pub unsent : (m : Machine S) (s : S) (rest : List Command) → (m.has_room s ≡ false) ⊎ (rest ≡ []) → sent m s rest ≡ record { dev = s; rest = rest }
  unsent m s rest (inl full) = sent-none m s rest full
  unsent m s rest (inr done) = rw done refl

  fewer_by : (m : Machine S) (s : S) (c : Command) (cs : List Command) (b : Bool) → m.has_room s ≡ b → length (sent m (m.received s c) cs).rest ≤ length cs → length (sent m s (c ∷ cs)).rest ≤ suc (length cs)
  fewer_by m s c cs true room ih = rw (sent-next m s c cs room) (omega arith)
  fewer_by m s c cs false full ih = rw (sent-none m s (c ∷ cs) full) (omega arith)

  sent-fewer : (m : Machine S) (s : S) (rest : List Command) → length (sent m s rest).rest ≤ length rest
  sent-fewer m s [] = omega arith
  sent-fewer m s (c ∷ cs) = fewer_by m s c cs (m.has_room s) refl (sent-fewer m (m.received s c) cs)

  -- where there is room, one goes out at least
  pub sent-shorter : (m : Machine S) (s : S) (rest : List Command) → m.has_room s ≡ true → ((length rest == 0) ≡ false) → length (sent m s rest).rest < length rest
  sent-shorter m s [] room some = absurd (false≢true (sym some))
  sent-shorter m s (c ∷ cs) room some = let few = sent-fewer m (m.received s c) cs in rw (sent-next m s c cs room) (omega arith)
