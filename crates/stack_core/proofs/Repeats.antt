-- Repeated events, and one event line after the other.
use Rattle.std.proofs.Common.{◌≡◌, ℕ, ◌+◌, ◌-◌, ◌<◌, ◌≤◌, List, length, drop, get_or, refl, sym, ap, ◌∙◌, arith, add-one, zero, suc}
use Rattle.std.proofs.lemmas.List.{drop_all}
use Rattle.std.proofs.Math.Seq.{drop-cons}
use Rattle.order_model.specs.declared.request.Request.{Request}
use Rattle.script_grammar.specs.declared.script.EventLine.{EventLine}
use Rattle.schedulers.specs.reassign.Scheduler.{SchedSteps}
use Rattle.order_model.specs.Machine.{Machine}
use Rattle.stack_core.specs.declared.request_path.RequestPath.{RequestPath}
use Rattle.stack_core.specs.Core.{RunState, times, happens_line, run_lines}

pub times-more : {S : Type 0} (n i : ℕ) (f : S → S) (s : S) → i < n → times (n - i) f s ≡ times (n - (i + 1)) f (f s)
times-more n i f s lt = let e : n - i ≡ suc (n - (i + 1)) = omega arith in rw e refl

-- what does nothing once does nothing many times
times-idle : {S : Type 0} (n : ℕ) (f : S → S) (s : S) → f s ≡ s → times n f s ≡ s
times-idle zero f s e = refl
times-idle (suc n) f s e = ap (times n f) e ∙ times-idle n f s e

-- where an event did nothing, those that are left may be left out
pub times-ends : {S : Type 0} (n : ℕ) (f : S → S) (s new : S) → new ≡ f s → new ≡ s → new ≡ times n f s
times-ends n f s new did same = same ∙ sym (times-idle n f s (sym did ∙ same))

-- a state by its parts
pub same_run : {K S : Type 0} (p q : RequestPath) (k l : K) (d e : S) → q ≡ p → l ≡ k → e ≡ d
    → ◌≡◌ {A = RunState K S} (record { path = q; sched = l; dev = e }) (record { path = p; sched = k; dev = d })
same_run p q k l d e path sched dev = rw (path, sched, dev) refl

pub run_lines-more : {K S : Type 0} (k : SchedSteps K) (m : Machine S) (rs : List Request) (r : RunState K S) (lines : List EventLine) (n : ℕ) (d : EventLine) → n < length lines
    → run_lines k m rs r (drop n lines) ≡ run_lines k m rs (happens_line k m rs r (get_or lines n d)) (drop (n + 1) lines)
unfolding run_lines
run_lines-more k m rs r lines n d lt =
    ap (run_lines k m rs r) (drop-cons lines n d lt)
    ∙ ap (λ i. run_lines k m rs (happens_line k m rs r (get_or lines n d)) (drop i lines)) (sym (add-one n))

pub run_lines-end : {K S : Type 0} (k : SchedSteps K) (m : Machine S) (rs : List Request) (r : RunState K S) (lines : List EventLine) (n : ℕ) → length lines ≤ n → run_lines k m rs r (drop n lines) ≡ r
unfolding run_lines
run_lines-end k m rs r lines n le = ap (run_lines k m rs r) (drop_all n lines le)
