-- Where a barrier or sync call ends, or says which request it needs.
use Rattle.std.specs.List.{list_any}
use Rattle.std.specs.Prelude.{◌≡◌, ℕ, true, false, List, Option, Some, None, refl}
use Rattle.std.proofs.Common.{sym, subst, inl, inr}
use Rattle.std.proofs.lemmas.Bool.{cases_Bool}
use Rattle.flush_actor.specs.Kinds.{is_durable}
use Rattle.flush_actor.specs.Part.{at_limit, is_flushed_after, last_put}
use Rattle.flush_actor.specs.declared.wait.Wait.{Wait}
use Rattle.commit_actor.specs.Journal.{is_submitted}
use Rattle.host_machine.specs.Host.{Stepped, end_with, await_commit, await_durable, await_last_put, set_wait}
use Rattle.host_machine.specs.Model.{Model}
use Rattle.host_machine.specs.State.{Answered, Host, Setup}

module _ {T V C R : Type 0} (M : Model T V C R) (u : Setup) where
  module _ (h : Host V C R) (t : ℕ) (c : C) (rest : List C) where
    -- the call ends Ok, or the thread says which request it needs
    pub data EndsOrNeeds (x : Host V C R) : Type 0 where
      ends : x ≡ (end_with M u h t c rest (Answered M.ok)).host → EndsOrNeeds x
      needs_one : (w : Wait) (id : ℕ) → w.need ≡ Some id → x ≡ set_wait M u h t w → EndsOrNeeds x

    -- where a flush behind it is answered, the call is done
    pub durable : (w : Wait) (id : ℕ) → list_any (is_flushed_after id) h.journal.flush.taken ≡ true → (await_durable M u h t c rest w id).host ≡ (end_with M u h t c rest (Answered M.ok)).host
    durable w id flushed = rw flushed refl

    module _ (free : at_limit h.journal.flush ≡ false) where
      durably : (w : Wait) (id : ℕ) → EndsOrNeeds (await_durable M u h t c rest w id).host
      durably w id = elim (cases_Bool (list_any (is_flushed_after id) h.journal.flush.taken)) [
        | inl e ↦ ends (durable w id e)
        | inr e ↦ needs_one (record w { need = Some id }) id refl (rw (e, free) refl)
      ]

      pub last : (w : Wait) → EndsOrNeeds (await_last_put M u h t c rest w).host
      last w = by (last_put 0 h.journal.flush.notes None)
        where
          by : (o : Option ℕ) → EndsOrNeeds (elim o as (λ _. Stepped V C R) [ None ↦ end_with M u h t c rest (Answered M.ok) | Some id ↦ await_durable M u h t c rest w id ]).host
          by None = ends refl
          by (Some id) = durably w id

      pub commit_ends : (w : Wait) (k : ℕ) → is_submitted h.journal k ≡ true → EndsOrNeeds (await_commit M u h t c rest w k).host
      commit_ends w k through = elim (cases_Bool (is_durable w.kind)) [
        | inl e ↦ subst EndsOrNeeds (sym (let same : (await_commit M u h t c rest w k).host ≡ (await_last_put M u h t c rest w).host = rw (through, e) refl in same)) (last w)
        | inr e ↦ ends (rw (through, e) refl)
      ]
