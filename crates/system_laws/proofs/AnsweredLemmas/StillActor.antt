-- Where a step of the commit actor changes nothing, it waits for the running transaction to be wanted, or for blocks that one before
-- it holds.
use Rattle.std.specs.List.{find}
use Rattle.std.specs.Prelude.{◌≡◌, ◌++◌, ◌&&◌, nat_lt, true, false, List, [], ◌∷◌, length, is_none, slice_get, Option, Some, None, refl, if◌then◌else◌}
use Rattle.std.proofs.Common.{sym, ap, ◌∙◌, inl, inr, arith}
use Rattle.std.proofs.lemmas.Bool.{cases_Bool}
use Rattle.blk_base.specs.laws.Members.{slice_get-length, slice_get-push}
use Rattle.log_model.specs.Marks.{Logged}
use Rattle.order_model.specs.declared.request.Request.{Request}
use Rattle.order_model.specs.declared.turn.Turn.TheVariants as turns
use Rattle.page_cache.specs.Pages.{is_unsent}
use Rattle.page_cache.specs.declared.cached_page.CachedPage.{CachedPage}
use Rattle.number_sets.specs.Sets.{has}
use Rattle.journal_ring.specs.LogRing.{ring_free}
use Rattle.journal_ring.specs.running.Plan.{Planned}
use Rattle.journal_ring.specs.running.Running.{log_needs}
use Rattle.flush_actor.specs.Part.{is_over, at_limit}
use Rattle.flush_actor.specs.conflicts.Conflicts.{least}
use Rattle.commit_actor.specs.Journal.{Plan, Phase, Idle, Closing, Committing}
use Rattle.host_machine.specs.Host.{Turned, in_phase, submits, send_page, checkpoint, build_plan, close_step, plan_sent, commit_step}
use Rattle.host_machine.specs.Model.{Model}
use Rattle.host_machine.specs.State.{Host, Setup}
use Rattle.host_machine.specs.laws.Choices.{either}

-- a list with one element more is another
pub pushed_differs : {X : Type 0} (xs : List X) (x : X) → xs ++ x ∷ [] ≡ xs → ⊥
pushed_differs xs x same = let low = slice_get-length xs (length xs) x (ap (λ ys. slice_get ys (length xs)) (sym same) ∙ slice_get-push xs x) in omega (arith, low)

-- and so is a host with one request more
pub request_differs : {V C R : Type 0} (h x : Host V C R) (r : Request) → x.journal.flush.requests ≡ h.journal.flush.requests ++ r ∷ [] → x ≡ h → ⊥
request_differs {V = V} {C = C} {R = R} h x r is same = pushed_differs h.journal.flush.requests r (sym is ∙ ap (λ (h : Host V C R). h.journal.flush.requests) same)

-- the commit actor waits: no transaction is being closed, and the running one is not to be closed yet
pub record ActorWaits {V C R : Type 0} (h : Host V C R) : Type 0 where
  pub idle : h.journal.phase ≡ Idle
  pub stays : (h.journal.running.wanted && is_none (least h.journal.flush.conflicts)) ≡ false

module _ {T V C R : Type 0} (M : Model T V C R) (u : Setup) (h : Host V C R) where
  checked_differs : (homes : List Logged) → checkpoint M u h homes ≡ h → ⊥
  checked_differs [] same = request_differs h (checkpoint M u h []) _ refl same
  checked_differs (x ∷ xs) same = request_differs h (checkpoint M u h (x ∷ xs)) _ refl same

  sent_differs : (p : Plan) (first : Planned) (rest : List Planned) → plan_sent M u h p first rest ≡ h → ⊥
  sent_differs p first [] same = request_differs h (plan_sent M u h p first []) _ refl same
  sent_differs p first (q ∷ qs) same = request_differs h (plan_sent M u h p first (q ∷ qs)) _ refl same

  built_differs : build_plan M u h ≡ h → ⊥
  built_differs same = let more = ap (λ (h : Host V C R). h.journal.running.number) same in omega (arith, more)

  module _ (free : at_limit h.journal.flush ≡ false) where
    goes_out : (out : Host V C R) → (submits M u false h out).host ≡ h → out ≡ h
    goes_out out same = let is : (submits M u false h out).host ≡ out = rw free refl in sym is ∙ same

    abbrev Differs : Turned V C R → Type 0
    Differs x = x.host ≡ h → ⊥

    closing_differs : Differs (close_step M u false h)
    closing_differs = by (find (λ p. is_unsent p.state && has h.journal.running.changed p.birth) h.pages)
      where
        by : (o : Option CachedPage) → Differs (elim o as (λ _. Turned V C R) [
          | Some p ↦ submits M u false h (send_page M u h p true false)
          | None ↦
              if nat_lt (ring_free h.journal.ring) (log_needs u.writers h.journal.running) then submits M u false h (checkpoint M u h h.journal.ring.homes)
              else record { host = build_plan M u h; turn = turns.Did }
        ])
        by (Some p) = λ same. request_differs h (send_page M u h p true false) _ refl (goes_out (send_page M u h p true false) same)
        by None = either Differs (nat_lt (ring_free h.journal.ring) (log_needs u.writers h.journal.running)) _ _
            (λ e same. checked_differs h.journal.ring.homes (goes_out (checkpoint M u h h.journal.ring.homes) same))
            (λ e same. built_differs same)

    module _ (filled : (p : Plan) → h.journal.phase ≡ Committing p → p.rest ≡ [] → ⊥) where
      waits_in : (phase : Phase) → h.journal.phase ≡ phase → (in_phase M u false h phase).host ≡ h → ActorWaits h
      waits_in Idle is same = record { idle = is; stays = elim (cases_Bool (h.journal.running.wanted && is_none (least h.journal.flush.conflicts))) [ inl e ↦ absurd (closes e) | inr e ↦ e ] }
        where
          closes : (h.journal.running.wanted && is_none (least h.journal.flush.conflicts)) ≡ true → ⊥
          closes e =
              let closed : (in_phase M u false h Idle).host ≡ record h { journal = record h.journal { phase = Closing } } = rw e refl in
              let no : Closing ≡ Idle = ap (λ (h : Host V C R). h.journal.phase) (sym closed ∙ same) ∙ is in cc
      waits_in Closing is same = absurd (closing_differs same)
      waits_in (Committing p) is same = absurd (by p.rest refl same)
        where
          by : (rest : List Planned) → p.rest ≡ rest → (elim rest as (λ _. Turned V C R) [ [] ↦ record { host = h; turn = turns.Idle } | first ∷ rest ↦ submits M u false h (plan_sent M u h p first rest) ]).host ≡ h → ⊥
          by [] none same = filled p is none
          by (first ∷ rest) some same = sent_differs p first rest (goes_out (plan_sent M u h p first rest) same)

      pub actor_waits : is_over h.journal.flush ≡ false → (commit_step M u false h).host ≡ h → ActorWaits h
      actor_waits going same = waits_in h.journal.phase refl (sym (ap (λ b. (if b then record { host = h; turn = turns.Idle } else in_phase M u false h h.journal.phase).host) going) ∙ same)
