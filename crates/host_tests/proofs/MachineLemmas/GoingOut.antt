-- How plans and pages go out.
use Rattle.std.proofs.Common.{◌≡◌, ◌⊎◌, ◌-◌, ℕ, Bool, true, false, List, [], ◌∷◌, length, Some, None, refl, ap, ◌∙◌, inl, inr, le-leb}
use Rattle.std.proofs.lemmas.Bool.{lt-leb}
use Rattle.order_model.specs.declared.request.Kind.TheVariants as puts
use Rattle.order_model.specs.declared.turn.Turn.TheVariants as turns
use Rattle.page_cache.specs.Pages.{page_at, is_unsent}
use Rattle.page_cache.specs.declared.cached_page.CachedPage.{CachedPage}
use Rattle.page_cache.specs.declared.cached_page.PageState.{PageState}
use Rattle.page_cache.specs.declared.cached_page.PageState.TheVariants.{Dirty, Loose}
use Rattle.commit_actor.specs.Journal.{Plan, Idle, Committing}
use Rattle.flush_actor.specs.Kinds.{is_data}
use Rattle.flush_actor.specs.declared.call_kind.CallKind.{CallKind}
use Rattle.flush_actor.specs.declared.call_kind.CallKind.TheVariants.{FileBarrier, FileSync, WholeSync}
use Rattle.flush_actor.specs.declared.wait.Wait.{Wait}
use Rattle.journal_ring.specs.running.Plan.{Planned}
use Rattle.host_machine.specs.Causes as causes
use Rattle.host_machine.specs.Host.{AwaitCommit, goal_of, unsent_on, submits, plan_sent, in_phase, advance, commit_step, walk_pages, pursue}
use Rattle.host_machine.specs.Model.{Model}
use Rattle.host_machine.specs.Outcomes as outcomes
use Rattle.host_machine.specs.State.{SessionFull, Begun, Host, Setup}
use Rattle.host_tests.specs.machine.Asking.{GoesOn, HasRoom, HasNoRoom, IsUnderWay, ended, with_request}
use Rattle.host_tests.specs.machine.Closing.{with_phase}
use Rattle.host_tests.proofs.MachineLemmas.Acting.{goes_on, room_is, limit_is, queue_is}
use Rattle.host_tests.proofs.MachineLemmas.UnderWay.{on_way}

is_there : (state : PageState) → (state ≡ Dirty) ⊎ (state ≡ Loose) → is_unsent state ≡ true
is_there state (inl e) = rw e refl
is_there state (inr e) = rw e refl

not_data : (k : CallKind) → (k ≡ FileBarrier) ⊎ ((k ≡ FileSync) ⊎ (k ≡ WholeSync)) → is_data k ≡ false
not_data k (inl e) = rw e refl
not_data k (inr (inl e)) = rw e refl
not_data k (inr (inr e)) = rw e refl

module _ {T V C R : Type 0} (m : Model T V C R) (u : Setup) where
  module _ (full : Bool) (s : Host V C R) (p : Plan) (g : GoesOn s) (e : s.journal.phase ≡ Committing p) where
    pub plan_goes : (first : Planned) (qs : List Planned) → p.rest ≡ first ∷ qs → commit_step m u full s ≡ submits m u full s (plan_sent m u s p first qs)
    plan_goes first qs left = goes_on m u full s g ∙ ap (in_phase m u full s) e ∙ rw (in_phase, left) refl

    pub limit : (first : Planned) (qs : List Planned) → p.rest ≡ first ∷ qs → HasNoRoom s → commit_step m u full s ≡ record { host = s; turn = turns.SessionFull }
    limit first qs left most = plan_goes first qs left ∙ limit_is m u full s (plan_sent m u s p first qs) most

  module _ (s : Host V C R) (p : Plan) (g : GoesOn s) (room : HasRoom s) (e : s.journal.phase ≡ Committing p) where
    pub next : (first q : Planned) (qs : List Planned) → p.rest ≡ first ∷ q ∷ qs
        → commit_step m u false s ≡ record { host = with_request (with_phase s (Committing (record p { rest = q ∷ qs }))) first.note (puts.Put first.block first.body) true first.barrier; turn = turns.Did }
    next first q qs left = plan_goes false s p g e first (q ∷ qs) left ∙ room_is m u s (plan_sent m u s p first (q ∷ qs)) room

    pub last : (first : Planned) → p.rest ≡ first ∷ []
        → ((commit_step m u false s).host.journal.flush.requests ≡ (with_request s first.note (puts.Put first.block first.body) true first.barrier).journal.flush.requests)
        × ((commit_step m u false s).host.journal.phase ≡ Idle)
        × ((commit_step m u false s).host.volume ≡ m.release s.volume (s.journal.running.number - 1))
    last first left =
        let is : commit_step m u false s ≡ record { host = plan_sent m u s p first []; turn = turns.Did } = plan_goes false s p g e first [] left ∙ room_is m u s (plan_sent m u s p first []) room in
        (rw is refl, rw is refl, rw is refl)

    pub queue : (first : Planned) (qs : List Planned) → p.rest ≡ first ∷ qs → commit_step m u true s ≡ record { host = s; turn = turns.QueueFull }
    queue first qs left = plan_goes true s p g e first qs left ∙ queue_is m u s s room

  -- ---- pages of begun calls

  module _ (full : Bool) (s : Host V C R) (t : ℕ) (c : C) (rest : List C) (b : Begun) (kind : CallKind) where
    abbrev still : Wait
    still = record { kind = kind; target = None; need = None }

    walks : IsUnderWay s t c rest b still → advance m u full s t ≡ walk_pages m u full s t c rest still b
    walks i = on_way m u full s t c rest b still i

    first_page : (f i : ℕ) (more : List (ℕ × ℕ)) (p : CachedPage) → b.list ≡ (f, i) ∷ more → page_at s.pages f i ≡ Some p → (p.state ≡ Dirty) ⊎ (p.state ≡ Loose) → unsent_on s.pages b.list ≡ Some (p, more)
    first_page f i more p list at state = rw list (rw (unsent_on, at) (rw (is_there p.state state) refl))

    pub page_limit : (f i : ℕ) (more : List (ℕ × ℕ)) (p : CachedPage) → IsUnderWay s t c rest b still → b.list ≡ (f, i) ∷ more → page_at s.pages f i ≡ Some p → (p.state ≡ Dirty) ⊎ (p.state ≡ Loose) → HasNoRoom s
        → advance m u full s t ≡ record { host = ended s t c rest SessionFull; step = outcomes.SessionFull }
    page_limit f i more p way list at state most = walks way ∙ rw (walk_pages, first_page f i more p list at state) (rw (le-leb s.journal.flush.limit (length s.journal.flush.requests) most) refl)

    pub none_left : IsUnderWay s t c rest b still → b.list ≡ [] → (b.kind ≡ FileBarrier) ⊎ ((b.kind ≡ FileSync) ⊎ (b.kind ≡ WholeSync)) → HasNoRoom s
        → advance m u full s t ≡ record { host = ended s t c rest SessionFull; step = outcomes.SessionFull }
    none_left way list k most =
        let none : unsent_on s.pages b.list ≡ None = rw list refl in
        let goal : goal_of s.journal b ≡ AwaitCommit s.journal.running.number = rw (goal_of, not_data b.kind k) refl in
        walks way ∙ rw (walk_pages, none) (rw goal (rw (pursue, le-leb s.journal.flush.limit (length s.journal.flush.requests) most) refl))

  pub page_queue : (s : Host V C R) (t : ℕ) (c : C) (rest : List C) (b : Begun) (kind : CallKind) (f i : ℕ) (more : List (ℕ × ℕ)) (p : CachedPage) → IsUnderWay s t c rest b (record { kind = kind; target = None; need = None })
      → b.list ≡ (f, i) ∷ more → page_at s.pages f i ≡ Some p → (p.state ≡ Dirty) ⊎ (p.state ≡ Loose) → HasRoom s → advance m u true s t ≡ record { host = s; step = outcomes.Waiting causes.QueueFull }
  page_queue s t c rest b kind f i more p way list at state room =
      walks true s t c rest b kind way ∙ rw (walk_pages, first_page true s t c rest b kind f i more p list at state) (rw (lt-leb s.journal.flush.limit (length s.journal.flush.requests) room) refl)
