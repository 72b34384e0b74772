-- A run has a scheduler exactly where its script has one; and its parts fit.
use Rattle.std.proofs.Common.{◌≡◌, ℕ, ◌++◌, Bool, true, false, List, [], ◌∷◌, map, take, Option, Some, None, zero, suc, slice_get, refl, sym, ap, subst, ◌∙◌, inl, inr}
use Rattle.std.proofs.lemmas.Bool.{cases_Bool, false≢true}
use Rattle.order_model.specs.declared.command.Command.{Command}
use Rattle.order_model.specs.declared.request.Request.{Request}
use Rattle.order_model.specs.Single.{command_for}
use Rattle.order_model.specs.Device.{Seen}
use Rattle.order_model.specs.Steps.{IsTraceOf}
use Rattle.order_model.specs.Machine.{Machine}
use Rattle.order_model.specs.Carrying.{SchedSeen, IsPrefixOf}
use Rattle.schedulers.specs.reassign.Scheduler.{SchedSteps, IsSchedRecord}
use Rattle.script_grammar.specs.declared.script.Script.{Script}
use Rattle.script_grammar.specs.declared.script.Form.{Form}
use Rattle.script_grammar.specs.declared.script.Form.TheVariants.{Device, Blocks}
use Rattle.script_grammar.specs.declared.script.EventLine.{EventLine}
use Rattle.script_grammar.specs.declared.script.EventWord.{EventWord}
use Rattle.script_grammar.specs.declared.script.EventWord.TheVariants.{One}
use Rattle.script_grammar.specs.declared.script.CoreEvent.{CoreEvent}
use Rattle.script_grammar.specs.declared.script.CoreEvent.TheVariants.{Submit, Accept, Dispatch, Receive, Transfer, Persist}
use Rattle.stack_core.specs.declared.request_path.RequestPath.{RequestPath}
use Rattle.stack_core.specs.declared.request_path.RequestPath.TheVariants.{Direct, Scheduled}
use Rattle.stack_core.specs.declared.report.Report.{Report}
use Rattle.stack_core.specs.RequestPath.{PathFits, opened_as, opened_path, stepped_as, given, submitted_count}
use Rattle.stack_core.specs.Core.{RunState, received_given, on_device, happens, happens_line, times, run_lines}
use Rattle.stack_core.specs.Report.{TookInOrder, PartsFit}
use Rattle.stack_core.proofs.Paths.{given_direct, given_scheduled}
use Rattle.stack_core.proofs.Scheduled.{scheduled_fits}

-- ---- which path

abbrev pub is_direct : RequestPath → Bool
is_direct (Direct next) = true
is_direct (Scheduled s) = false

abbrev is_device : Form → Bool
is_device (Device blocks) = true
is_device (Blocks blocks) = false

opened_as-direct : (s : Script) (k : Form) → is_direct (opened_as s k) ≡ is_device k
opened_as-direct s (Device blocks) = refl
opened_as-direct s (Blocks blocks) = refl

given-direct : (rs : List Request) (f : RequestPath) (g : Command × RequestPath) → given rs f ≡ Some g → is_direct g.1 ≡ is_direct f
given-direct rs (Direct next) g e = sym (ap is_direct (given_direct next (slice_get rs next) g.0 g.1 e).3)
given-direct rs (Scheduled s) g e = sym (ap is_direct (given_scheduled s s.dispatched g.0 g.1 e).2)

-- ---- what no event changes

module _ {K S : Type 0} where
  -- the path is of the same kind, and where it is direct the scheduler is as it was
  pub record IsAfter (old new : RunState K S) : Type 0 where
    pub kind : is_direct new.path ≡ is_direct old.path
    pub sched : is_direct old.path ≡ true → new.sched ≡ old.sched

  after-same : (r : RunState K S) → IsAfter r r
  after-same r = record { kind = refl; sched = λ e. refl }

  after-more : (a b c : RunState K S) → IsAfter a b → IsAfter b c → IsAfter a c
  after-more a b c r s = record { kind = s.kind ∙ r.kind; sched = λ e. s.sched (r.kind ∙ e) ∙ r.sched e }

  stepped-after : (k : SchedSteps K) (rs : List Request) (r : RunState K S) (f : RequestPath) (e : CoreEvent) → r.path ≡ f → IsAfter r (on_device (stepped_as k rs f r.sched e) r.dev)
  stepped-after k rs r (Direct next) e same = record { kind = sym (ap is_direct same); sched = λ d. refl }
  stepped-after k rs r (Scheduled s) e same = record { kind = sym (ap is_direct same); sched = λ d. absurd (false≢true (sym (ap is_direct same) ∙ d)) }

  received-after : (m : Machine S) (r : RunState K S) (o : Option (Command × RequestPath)) → ((g : Command × RequestPath) → o ≡ Some g → is_direct g.1 ≡ is_direct r.path) → IsAfter r (received_given m r o)
  received-after m r None h = after-same r
  received-after m r (Some g) h = record { kind = h g refl; sched = λ e. refl }

  happens-after : (k : SchedSteps K) (m : Machine S) (rs : List Request) (r : RunState K S) (e : CoreEvent) → IsAfter r (happens k m rs r e)
  happens-after k m rs r Submit = stepped-after k rs r r.path Submit refl
  happens-after k m rs r Accept = stepped-after k rs r r.path Accept refl
  happens-after k m rs r (Dispatch pick) = stepped-after k rs r r.path (Dispatch pick) refl
  happens-after k m rs r Receive =
      elim (cases_Bool (m.has_room r.dev)) [
        | inl t ↦ rw t (received-after m r (given rs r.path) (given-direct rs r.path))
        | inr n ↦ rw n (after-same r)
      ]
  happens-after k m rs r (Transfer pick) = record { kind = refl; sched = λ e. refl }
  happens-after k m rs r (Persist pick) = record { kind = refl; sched = λ e. refl }

  times-after : (n : ℕ) (f : RunState K S → RunState K S) → ((r : RunState K S) → IsAfter r (f r)) → (r : RunState K S) → IsAfter r (times n f r)
  times-after zero f h r = after-same r
  times-after (suc n) f h r = after-more r (f r) (times n f (f r)) (h r) (times-after n f h (f r))

  line-after : (k : SchedSteps K) (m : Machine S) (rs : List Request) (r : RunState K S) (count : ℕ) (w : EventWord) → IsAfter r (happens_line k m rs r (record { what = w; count = count }))
  line-after k m rs r count (One e) = times-after count (λ s. happens k m rs s e) (λ s. happens-after k m rs s e) r

  pub run-after : (k : SchedSteps K) (m : Machine S) (rs : List Request) (r : RunState K S) (ls : List EventLine) → IsAfter r (run_lines k m rs r ls)
  unfolding run_lines
  run-after k m rs r [] = after-same r
  run-after k m rs r (l ∷ ls) = after-more r (happens_line k m rs r l) (run_lines k m rs (happens_line k m rs r l) ls) (line-after k m rs r l.count l.what) (run-after k m rs (happens_line k m rs r l) ls)

  -- so a run of a `device` script never uses its scheduler
  pub kind_after : (s : Script) (r : RunState K S) (sched : K) (dev : S) → IsAfter (record { path = opened_path s; sched = sched; dev = dev }) r → is_direct r.path ≡ is_device s.kind
  kind_after s r sched dev a = a.kind ∙ opened_as-direct s s.kind

  pub unused_after : (s : Script) (r : RunState K S) (sched : K) (dev : S) → IsAfter (record { path = opened_path s; sched = sched; dev = dev }) r → is_direct r.path ≡ true → r.sched ≡ sched
  unused_after s r sched dev a e = a.sched (sym a.kind ∙ e)

-- ---- the parts

prefix-same : {X : Type 0} (a b c d : List X) → a ≡ c → b ≡ d → IsPrefixOf c d → IsPrefixOf a b
prefix-same a b c d e f h = (h.0, e ∙ h.1 ∙ ap (take h.0) (sym f))

accepted_fits : (f : RequestPath) (p : SchedSeen) (rs : List Request) (d : Seen) → (is_direct f ≡ true → p.accepted ≡ []) → PathFits f p rs d → IsPrefixOf p.accepted (take (submitted_count f) rs)
accepted_fits (Direct next) p rs d unused path = (0, unused refl)
accepted_fits (Scheduled s) p rs d unused path = (scheduled_fits rs s p d path).accepted

took_fits : (k : Form) (f : RequestPath) (p : SchedSeen) (rs : List Request) (d : Seen) (r : Report) → is_direct f ≡ is_device k → PathFits f p rs d
    → r.submitted ≡ take (submitted_count f) rs → IsSchedRecord p r.sched → IsTraceOf d r.cut.trace → TookInOrder k r
took_fits (Device blocks) (Direct next) p rs d r same path submitted record_of trace = trace.took ∙ path.took ∙ ap (map command_for) (sym submitted)
took_fits (Device blocks) (Scheduled s) p rs d r same path submitted record_of trace = absurd (false≢true same)
took_fits (Blocks blocks) (Direct next) p rs d r same path submitted record_of trace = absurd (false≢true (sym same))
took_fits (Blocks blocks) (Scheduled s) p rs d r same path submitted record_of trace =
    prefix-same r.cut.trace.took.items r.sched.sent_out.items d.took p.sent_out trace.took record_of.sent_out (scheduled_fits rs s p d path).took

pub parts_fit : (s : Script) (f : RequestPath) (p : SchedSeen) (d : Seen) (r : Report) → is_direct f ≡ is_device s.kind → (is_direct f ≡ true → p.accepted ≡ []) → PathFits f p s.puts d
    → r.script ≡ s → r.submitted ≡ take (submitted_count f) s.puts → IsSchedRecord p r.sched → IsTraceOf d r.cut.trace → PartsFit r
parts_fit s f p d r same unused path script submitted record_of trace = record {
  accepted = prefix-same r.sched.accepted.items r.submitted p.accepted (take (submitted_count f) s.puts) record_of.accepted submitted (accepted_fits f p s.puts d unused path);
  took = subst (λ (t : Script). TookInOrder t.kind r) (sym script) (took_fits s.kind f p s.puts d r same path submitted record_of trace);
}
