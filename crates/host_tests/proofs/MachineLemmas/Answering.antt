-- Which answer comes first.
use Rattle.std.specs.List.{list_any}
use Rattle.std.proofs.Common.{◌≡◌, ◌⊎◌, ℕ, ◌+◌, Bool, true, false, List, [], ◌∷◌, ◌++◌, length, Option, Some, None, slice_get, refl, inl, inr, if◌then◌else◌}
use Rattle.std.specs.Prelude.{◌≢◌}
use Rattle.std.specs.Option.{option_map}
use Rattle.blk_base.specs.Members.{In}
use Rattle.blk_base.specs.laws.Members.{list_any-In}
use Rattle.order_model.specs.declared.completion.Completion.{Completion}
use Rattle.order_model.specs.declared.completion.Completion.TheVariants.{Moved, Flushed, Failed, Cut}
use Rattle.flush_actor.specs.Kinds.{is_begun, is_reading}
use Rattle.flush_actor.specs.Part.{is_cut, first_failed}
use Rattle.flush_actor.specs.declared.call_kind.CallKind.{CallKind}
use Rattle.flush_actor.specs.declared.call_kind.CallKind.TheVariants.{Reading, Changing, FileBarrier, DataBarrier, FileSync, DataSync, WholeSync}
use Rattle.host_machine.specs.Host.{stop_of, step_call, step_thread, advance, plain, hindrance}
use Rattle.host_machine.specs.Model.{Model}
use Rattle.host_machine.specs.Outcomes as outcomes
use Rattle.host_machine.specs.State.{Ending, Answered, Down, ReadOnly, Begun, Host, Setup}
use Rattle.host_tests.specs.machine.Asking.{AsksFor, GoesOn, IsPlain, ended}

-- ---- completions that were taken

pub no_cut : (cs : List Completion) → (In Cut cs → ⊥) → list_any is_cut cs ≡ false
no_cut [] h = refl
no_cut (Cut ∷ cs) h = absurd (h (inl refl))
no_cut (Moved id ∷ cs) h = no_cut cs (λ i. h (inr i))
no_cut (Flushed id ∷ cs) h = no_cut cs (λ i. h (inr i))
no_cut (Failed id ∷ cs) h = no_cut cs (λ i. h (inr i))

pub some_cut : (cs : List Completion) → In Cut cs → list_any is_cut cs ≡ true
some_cut cs i = list_any-In is_cut cs Cut i refl

pub none_failed : (cs : List Completion) → ((j : ℕ) → In (Failed j) cs → ⊥) → first_failed cs ≡ None
none_failed [] h = refl
none_failed (Cut ∷ cs) h = none_failed cs (λ j i. h j (inr i))
none_failed (Moved id ∷ cs) h = none_failed cs (λ j i. h j (inr i))
none_failed (Flushed id ∷ cs) h = none_failed cs (λ j i. h j (inr i))
none_failed (Failed id ∷ cs) h = absurd (h id (inl refl))

pub first_is : (before after : List Completion) (id : ℕ) → ((j : ℕ) → In (Failed j) before → ⊥) → first_failed (before ++ Failed id ∷ after) ≡ Some id
first_is [] after id h = refl
first_is (Cut ∷ cs) after id h = first_is cs after id (λ j i. h j (inr i))
first_is (Moved n ∷ cs) after id h = first_is cs after id (λ j i. h j (inr i))
first_is (Flushed n ∷ cs) after id h = first_is cs after id (λ j i. h j (inr i))
first_is (Failed n ∷ cs) after id h = absurd (h n (inl refl))

-- ---- kinds

not_reading : (k : CallKind) → k ≢ Reading → is_reading k ≡ false
not_reading Reading h = absurd (h refl)
not_reading Changing h = refl
not_reading FileBarrier h = refl
not_reading DataBarrier h = refl
not_reading FileSync h = refl
not_reading DataSync h = refl
not_reading WholeSync h = refl

pub at_once : (k : CallKind) → (k ≡ Reading) ⊎ (k ≡ Changing) → is_begun k ≡ false
at_once k (inl e) = rw e refl
at_once k (inr e) = rw e refl

-- ---- steps

module _ {T V C R : Type 0} (m : Model T V C R) (u : Setup) (full : Bool) (s : Host V C R) (t : ℕ) where
  abbrev by_id : ℕ → Ending R
  by_id id = ReadOnly id

  pub goes : (k : CallKind) → GoesOn s → stop_of m u s.journal.flush.taken k ≡ None
  goes k g = rw (stop_of, no_cut s.journal.flush.taken g.powered, none_failed s.journal.flush.taken g.sound) (by (is_reading k))
    where
      by : (b : Bool) → (if b then None else option_map by_id None) ≡ None
      by true = refl
      by false = refl

  pub at_end : (b : Option Begun) → slice_get s.threads t ≡ Some (record { calls = []; begun = b }) → advance m u full s t ≡ record { host = s; step = outcomes.Ended }
  at_end b e = rw (advance, e) refl

  pub no_thread : slice_get s.threads t ≡ None → advance m u full s t ≡ record { host = s; step = outcomes.Ended }
  no_thread e = rw (advance, e) refl

  module _ (c : C) (rest : List C) where
    pub down : (b : Option Begun) → slice_get s.threads t ≡ Some (record { calls = c ∷ rest; begun = b }) → In Cut s.journal.flush.taken → advance m u full s t ≡ record { host = ended s t c rest Down; step = outcomes.Down }
    down b e i = rw (advance, e) (rw (step_thread, stop_of, some_cut s.journal.flush.taken i) refl)

    pub read_only : (b : Option Begun) (id : ℕ) (before after : List Completion) → slice_get s.threads t ≡ Some (record { calls = c ∷ rest; begun = b }) → m.kind c ≢ Reading
        → (In Cut s.journal.flush.taken → ⊥) → s.journal.flush.taken ≡ before ++ Failed id ∷ after → ((j : ℕ) → In (Failed j) before → ⊥)
        → advance m u full s t ≡ record { host = ended s t c rest (ReadOnly id); step = outcomes.ReadOnly id }
    read_only b id before after e k power failed first =
        let own : first_failed s.journal.flush.taken ≡ Some id = rw failed (first_is before after id first) in
        rw (advance, e) (rw (step_thread, stop_of, no_cut s.journal.flush.taken power) (rw (step_thread, stop_of, not_reading (m.kind c) k) (rw (step_thread, stop_of, own) refl)))

    pub reads : AsksFor s t c rest → m.kind c ≡ Reading → m.reply s.volume c ≡ None → m.hinders s.volume c ≡ false → (In Cut s.journal.flush.taken → ⊥)
        → (advance m u full s t).step ≡ outcomes.Done (m.apply s.volume (length s.history + 1) s.journal.running.number c).reply
    reads e k allowed changes power =
        let stop : stop_of m u s.journal.flush.taken (m.kind c) ≡ None = rw (stop_of, no_cut s.journal.flush.taken power) (rw (stop_of, k) refl) in
        rw (advance, e) (rw (step_thread, stop) (rw (step_call, allowed) (rw (step_call, k) (rw (plain, hindrance, changes) refl))))

    pub refused : (why : R) → AsksFor s t c rest → GoesOn s → m.reply s.volume c ≡ Some why → advance m u full s t ≡ record { host = ended s t c rest (Answered why); step = outcomes.Done why }
    refused why e g r = rw (advance, e) (rw (step_thread, goes (m.kind c) g) (rw (step_call, r) refl))

    pub plainly : IsPlain m s t c rest → advance m u full s t ≡ plain m u s t c rest
    plainly p = rw (advance, p.asks) (rw (step_thread, goes (m.kind c) p.goes_on) (rw (step_call, p.allowed) (rw (step_call, at_once (m.kind c) p.kind) refl)))
