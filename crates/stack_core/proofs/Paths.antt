-- What holds between a request path, its scheduler and the device behind them, for both kinds of path.
use Rattle.std.proofs.Common.{◌≡◌, ℕ, ◌+◌, ◌≤◌, Bool, true, false, if◌then◌else◌, List, [], ◌∷◌, ◌++◌, length, map, take, Option, Some, None, slice_get, refl, sym, ap, subst, ◌∙◌, arith}
use Rattle.std.specs.Option.{option_map}
use Rattle.std.proofs.lemmas.List.{take_all}
use Rattle.std.proofs.lemmas.Option.{none-some, some_pair_parts}
use Rattle.order_model.specs.declared.command.Command.{Command}
use Rattle.order_model.specs.declared.request.Request.{Request}
use Rattle.order_model.specs.Device.{Seen, completed, origin_ids, IsReceivable}
use Rattle.order_model.specs.declared.completion.Completion.{Completion}
use Rattle.order_model.specs.OrderClosed.{IsOrderClosed, KeepsFlushed}
use Rattle.order_model.specs.Single.{command_for}
use Rattle.order_model.specs.Machine.{Machine}
use Rattle.order_model.specs.Steps.{Receives}
use Rattle.order_model.specs.Carrying.{SchedSeen, Carries, AreAtIds, Fits}
use Rattle.schedulers.specs.reassign.Scheduler.{SchedSteps, IsScheduler}
use Rattle.script_grammar.specs.declared.script.Script.{Script}
use Rattle.script_grammar.specs.declared.script.Form.{Form}
use Rattle.script_grammar.specs.declared.script.Form.TheVariants.{Device, Blocks}
use Rattle.script_grammar.specs.declared.script.CoreEvent.{CoreEvent}
use Rattle.script_grammar.specs.declared.script.CoreEvent.TheVariants.{Submit, Accept, Dispatch, Receive, Transfer, Persist}
use Rattle.stack_core.specs.declared.request_path.RequestPath.{RequestPath}
use Rattle.stack_core.specs.declared.request_path.RequestPath.TheVariants.{Direct, Scheduled}
use Rattle.stack_core.specs.BlockLayer.{QueuesState, BlockLayer, given_first}
use Rattle.stack_core.specs.RequestPath.{PathState, AreRequests, PathFits, IsDirect, opened_as, opened_path, scheduled_as, scheduled_count, stepped, stepped_as, layer_stepped, given, submitted_count, carried}
use Rattle.stack_core.specs.Core.{RunState, received_given}
use Rattle.stack_core.specs.Handing.{Handing, handed_given, handed}
use Rattle.stack_core.specs.Headline.{KeepsOrder}
use Rattle.stack_core.proofs.DirectPath.{receivable, path-more, prefix_requests, prefix_carries, at_ids}
use Rattle.stack_core.proofs.Scheduled.{IsBeside, submitted-path, accepted-path, dispatched-path, first_receivable, first_received, scheduled_fits}

-- ---- the opening

opened_as-path : (s : Script) (k : Form) (p : SchedSeen) (d : Seen) → AreRequests (length d.base) s.puts → length s.puts ≤ d.limit → d.took ≡ []
    → p.limit ≡ scheduled_as s k → p.accepted ≡ [] → p.sent_out ≡ [] → PathFits (opened_as s k) p s.puts d
opened_as-path s (Device blocks) p d fitting limit took may accepted sent = record { within = omega arith; took = took; fitting = fitting; limit = limit }
opened_as-path s (Blocks blocks) p d fitting limit took may accepted sent = record {
  within = omega arith;
  submitted = ap (λ (l : List Request). l ++ []) accepted;
  sent = sent ∙ ap (λ (l : List Command). l ++ [] ++ []) (sym took);
  may_accept = may;
  fitting = fitting;
  limit = limit;
}

pub opened-path : (s : Script) (p : SchedSeen) (d : Seen) → AreRequests (length d.base) s.puts → length s.puts ≤ d.limit → d.took ≡ []
    → p.limit ≡ scheduled_count s → p.accepted ≡ [] → p.sent_out ≡ [] → PathFits (opened_path s) p s.puts d
opened-path s p d fitting limit took may accepted sent = opened_as-path s s.kind p d fitting limit took may accepted sent

-- ---- the steps

module _ {K : Type 0} where
  layer_stepped-path : (k : SchedSteps K) (valid : K → Type 0) (rs : List Request) (r : BlockLayer K) (e : CoreEvent) (d : Seen) → IsScheduler k valid → IsBeside k valid r rs d → IsBeside k valid (layer_stepped k rs r e) rs d
  layer_stepped-path k valid rs r Submit d laws v = record { keeps = v.keeps; path = submitted-path rs r.queues (k.seen r.sched) d v.path }
  layer_stepped-path k valid rs r Accept d laws v = accepted-path k valid rs r d laws v
  layer_stepped-path k valid rs r (Dispatch pick) d laws v = dispatched-path k valid rs r d pick laws v
  layer_stepped-path k valid rs r Receive d laws v = v
  layer_stepped-path k valid rs r (Transfer pick) d laws v = v
  layer_stepped-path k valid rs r (Persist pick) d laws v = v

  -- the scheduler is valid, and path and device hold together
  pub record IsBefore (k : SchedSteps K) (valid : K → Type 0) (r : PathState K) (rs : List Request) (d : Seen) : Type 0 where
    pub keeps : valid r.sched
    pub path : PathFits r.path (k.seen r.sched) rs d

  stepped_as-path : (k : SchedSteps K) (valid : K → Type 0) (rs : List Request) (f : RequestPath) (sched : K) (e : CoreEvent) (d : Seen) → IsScheduler k valid → valid sched → PathFits f (k.seen sched) rs d
      → IsBefore k valid (stepped_as k rs f sched e) rs d
  stepped_as-path k valid rs (Direct next) sched e d laws v path = record { keeps = v; path = path }
  stepped_as-path k valid rs (Scheduled s) sched e d laws v path =
      let b = layer_stepped-path k valid rs (record { queues = s; sched = sched }) e d laws (record { keeps = v; path = path }) in
      record { keeps = b.keeps; path = b.path }

  pub stepped-path : (k : SchedSteps K) (valid : K → Type 0) (rs : List Request) (r : PathState K) (e : CoreEvent) (d : Seen) → IsScheduler k valid → valid r.sched → PathFits r.path (k.seen r.sched) rs d
      → IsBefore k valid (stepped k rs r e) rs d
  stepped-path k valid rs r e d laws v path = stepped_as-path k valid rs r.path r.sched e d laws v path

-- ---- the next command

-- the request that a direct path gives
pub given_direct : (next : ℕ) (o : Option Request) (c : Command) (g : RequestPath) → option_map {U = Command × RequestPath} (λ (r : Request). (command_for r, Direct (next + 1))) o ≡ Some (c, g)
    → (r : Request) × (o ≡ Some r) × (command_for r ≡ c) × (Direct (next + 1) ≡ g)
given_direct next None c g e = absurd (none-some (c, g) e)
given_direct next (Some r) c g e =
    let p = some_pair_parts (command_for r) c (Direct (next + 1)) g e in
    (r, refl, p.0, p.1)

-- the command that waits first
pub given_scheduled : (s : QueuesState) (l : List Command) (c : Command) (g : RequestPath) → option_map {U = Command × RequestPath} (λ (x : Command × QueuesState). (x.0, Scheduled x.1)) (given_first s l) ≡ Some (c, g)
    → (cs : List Command) × (l ≡ c ∷ cs) × (Scheduled (record s { dispatched = cs }) ≡ g)
given_scheduled s [] c g e = absurd (none-some (c, g) e)
given_scheduled s (b ∷ cs) c g e =
    let p = some_pair_parts b c (Scheduled (record s { dispatched = cs })) g e in
    (cs, ap (λ x. x ∷ cs) p.0, p.1)

pub given_receivable : (rs : List Request) (f g : RequestPath) (p : SchedSeen) (c : Command) (d : Seen) → PathFits f p rs d → Carries p → length d.surface ≡ length d.base → given rs f ≡ Some (c, g) → IsReceivable d c
given_receivable rs (Direct next) g p c d v carries same e =
    let r = given_direct next (slice_get rs next) c g e in
    subst (IsReceivable d) r.2 (receivable next rs d r.0 v same r.1)
given_receivable rs (Scheduled s) g p c d v carries same e =
    let r = given_scheduled s s.dispatched c g e in
    first_receivable rs s p d c r.0 v carries same r.1

given-path : (rs : List Request) (f g : RequestPath) (p : SchedSeen) (c : Command) (d : Seen) → PathFits f p rs d → given rs f ≡ Some (c, g) → PathFits g p rs (record d { took = d.took ++ c ∷ [] })
given-path rs (Direct next) g p c d v e =
    let r = given_direct next (slice_get rs next) c g e in
    subst (λ h. PathFits h p rs (record d { took = d.took ++ c ∷ [] })) r.3
    (subst (λ (b : Command). IsDirect (next + 1) rs (record d { took = d.took ++ b ∷ [] })) r.2 (path-more next rs d r.0 v r.1))
given-path rs (Scheduled s) g p c d v e =
    let r = given_scheduled s s.dispatched c g e in
    subst (λ h. PathFits h p rs (record d { took = d.took ++ c ∷ [] })) r.2 (first_received rs s p d c r.0 v r.1)

-- ---- the next command goes to the device

module _ {K S : Type 0} (m : Machine S) (sched : K) where
  abbrev with_sched : Handing RequestPath S → RunState K S
  with_sched h = record { path = h.before; sched = sched; dev = h.dev }

  received_where : (b : Bool) (h : Handing RequestPath S) (o : Option (Command × RequestPath)) → with_sched (if b then handed_given m h o else h) ≡ (if b then received_given m (with_sched h) o else with_sched h)
  received_where true h None = refl
  received_where true h (Some g) = refl
  received_where false h o = refl

  -- the scheduler has no part in it
  pub received_handed : (h : Handing RequestPath S) (o : Option (Command × RequestPath)) → with_sched (handed m h o) ≡ (if m.has_room h.dev then received_given m (with_sched h) o else with_sched h)
  received_handed h o = received_where (m.has_room h.dev) h o

module _ {S : Type 0} (m : Machine S) (valid : S → Type 0) (receives : (s : S) (c : Command) → valid s → IsReceivable (m.seen s) c → m.has_room s ≡ true → valid (m.received s c) × Receives (m.seen s) c (m.seen (m.received s c))) where
  -- the device is valid and has its base, and path and device hold together
  pub record IsHanded (rs : List Request) (p : SchedSeen) (old : S) (h : Handing RequestPath S) : Type 0 where
    pub keeps : valid h.dev
    pub base : (m.seen h.dev).base ≡ (m.seen old).base
    pub path : PathFits h.before p rs (m.seen h.dev)

  module _ (rs : List Request) (p : SchedSeen) (h : Handing RequestPath S) (keeps : valid h.dev) (path : PathFits h.before p rs (m.seen h.dev)) (carries : Carries p) (same : length (m.seen h.dev).surface ≡ length (m.seen h.dev).base) where
    given-handed : (o : Option (Command × RequestPath)) → given rs h.before ≡ o → m.has_room h.dev ≡ true → IsHanded rs p h.dev (handed_given m h o)
    given-handed None e room = record { keeps = keeps; base = refl; path = path }
    given-handed (Some g) e room =
        let d = m.seen h.dev in
        let step = receives h.dev g.0 keeps (given_receivable rs h.before g.1 p g.0 d path carries same e) room in
        record {
          keeps = step.0;
          base = ap (λ (x : Seen). x.base) step.1;
          path = subst (PathFits g.1 p rs) (sym step.1) (given-path rs h.before g.1 p g.0 d path e);
        }

    room-handed : (b : Bool) → m.has_room h.dev ≡ b → IsHanded rs p h.dev (if b then handed_given m h (given rs h.before) else h)
    room-handed true room = given-handed (given rs h.before) refl room
    room-handed false room = record { keeps = keeps; base = refl; path = path }

    pub path-handed : IsHanded rs p h.dev (handed m h (given rs h.before))
    path-handed = room-handed (m.has_room h.dev) refl

-- ---- the order

-- the requests that were submitted are carried by commands of which the device took the first
pub record IsCarried (rs : List Request) (p : SchedSeen) (d : Seen) : Type 0 where
  pub ids : AreAtIds rs
  pub carries : Carries p
  pub fits : Fits rs p d

module _ {K : Type 0} where
  pub path-carried : (k : SchedSteps K) (valid : K → Type 0) (rs : List Request) (f : RequestPath) (sched : K) (d : Seen) → IsScheduler k valid → valid sched → PathFits f (k.seen sched) rs d
      → IsCarried (take (submitted_count f) rs) (carried k rs f sched) d
  path-carried k valid rs (Direct next) sched d laws v path = record {
    ids = at_ids (length d.base) (take next rs) (prefix_requests next (length d.base) rs path.fitting);
    carries = prefix_carries next (length d.base) rs path.fitting;
    fits = record {
      accepted = (length (take next rs), sym (take_all (length (take next rs)) (take next rs) (omega arith)));
      took = (length d.took, path.took ∙ sym (take_all (length d.took) (map command_for (take next rs)) (let n = ap length path.took in omega (arith, n))));
    };
  }
  path-carried k valid rs (Scheduled s) sched d laws v path = record {
    ids = at_ids (length d.base) (take s.next rs) (prefix_requests s.next (length d.base) rs path.fitting);
    carries = laws.carries sched v;
    fits = scheduled_fits rs s (k.seen sched) d path;
  }

-- what is seen of the device, as the report has it
pub order_reported : (rs qs : List Request) (d : Seen) (base image : List (List ℕ)) (origins : List (Option ℕ)) (told : List Completion)
    → base ≡ d.base → qs ≡ rs → image ≡ d.surface → origins ≡ origin_ids d.took d.origins → told ≡ completed d
    → IsOrderClosed d.base rs d.surface (origin_ids d.took d.origins) → KeepsFlushed rs (origin_ids d.took d.origins) (completed d) → KeepsOrder base qs image origins told
order_reported rs qs d base image origins told eb eq ei eo es closed flushed =
    rw (eb, eq, ei, eo, es) (record { closed = closed; flushed = flushed })
