-- What the power cut leaves of a script's session.
use Rattle.std.proofs.Common.{◌≡◌, ◌++◌, ℕ, true, List, Option, IfOk, Ok, sym, ap, subst, ◌∙◌, arith}
use Rattle.minix_layout.specs.Geometry.{IsSound}
use Rattle.order_model.specs.OrderClosed.{IsOrderClosed}
use Rattle.order_model.specs.declared.completion.Completion.{Completion}
use Rattle.order_model.specs.declared.request.Request.{Request}
use Rattle.mount_make.specs.Images.{divided, has_journal}
use Rattle.minix_layout.specs.declared.division.Geometry.{Geometry}
use Rattle.volume_steps.specs.Now.{VolumeNow}
use Rattle.host_machine.specs.State.{Host}
use Rattle.tree_model.specs.declared.call.Call.{Call}
use Rattle.tree_model.specs.declared.call.Reply.{Reply}
use Rattle.session_core.specs.run.Beginning.{WriteBytes}
use Rattle.stack_core.specs.Headline.{KeepsOrder}
use Rattle.call_sessions.specs.power_cuts.calls.CallImages.{IsCut, found_in}
use Rattle.session_grammar.specs.declared.session_script.SessionScript.{SessionScript}
use Rattle.session_grammar.specs.WellFormed.{IsWellFormed}
use Rattle.session_core.specs.declared.run.session.SessionEnd.{SessionEnd}
use Rattle.session_core.specs.Core.{EndState, geometry_of, opening_of}
use Rattle.session_core.specs.code.Cuts.{CutFacts, medium_left}
use Rattle.session_core.specs.code.Ends.{KeepsTheOrder, IsBehind}

pub cut_is : (s : SessionScript) → IsWellFormed s → IsSound (geometry_of s) → WriteBytes s.programs → (end : EndState) (r : SessionEnd) → KeepsTheOrder s end r → (b : IsBehind s end)
    → IsCut (geometry_of s) s.journal s.wide s.header.limit s.programs b.events (medium_left r)
cut_is s is sound bytes end r order b =
    let least = is.sizes.least_journal in
    let most = is.sizes.most_journal in
    let limit = is.header.limit in
    record {
      sound = sound;
      least = least;
      most = most;
      words = omega (arith, most, limit);
      bytes = bytes;
      order = subst (λ h. IsOrderClosed (opening_of s).image h.journal.flush.requests r.cut.image r.cut.origins) b.host order.closed;
    }

-- ---- what is said of the blocks that a report has

pub report_keeps : (base : List (List ℕ)) (requests : List Request) (image left : List (List ℕ)) (origins : List (Option ℕ)) (sent kept waiting : List Completion) → left ≡ image → kept ≡ sent
    → KeepsOrder base requests image origins (sent ++ waiting) → KeepsOrder base requests left origins (kept ++ waiting)
report_keeps base requests image left origins sent kept waiting same told order =
    subst (λ (x : List (List ℕ)). KeepsOrder base requests x origins (kept ++ waiting)) (sym same)
    (subst (λ (x : List Completion). KeepsOrder base requests image origins (x ++ waiting)) (sym told) order)

pub report_facts : (s : SessionScript) (h : Host VolumeNow Call Reply) (image left : List (List ℕ)) (origins : List (Option ℕ)) → left ≡ image → CutFacts s h (record { image = image; origins = origins }) → CutFacts s h (record { image = left; origins = origins })
report_facts s h image left origins same facts = subst (λ (x : List (List ℕ)). CutFacts s h (record { image = x; origins = origins })) (sym same) facts

pub report_counts : (n zones base : ℕ) (image left : List (List ℕ)) → left ≡ image → base ≡ zones → n ≡ found_in base 1 image → n ≡ found_in zones 1 left
report_counts n zones base image left same e is = is ∙ (ap (λ b. found_in b 1 image) e ∙ ap (found_in zones 1) (sym same))

-- ---- what mounting asks for

pub base_of : (g : Geometry) (image : List (List ℕ)) (base : ℕ) → base ≡ g.zones → divided image ≡ Ok g → IfOk (divided image) (λ d. d.zones ≡ base)
base_of g image base zones is = subst (λ r. IfOk r (λ (d : Geometry). d.zones ≡ base)) (sym is) (sym zones)

pub journal_of : (g : Geometry) (image : List (List ℕ)) (base : ℕ) → base ≡ g.zones → has_journal g.zones image ≡ true → has_journal base image ≡ true
journal_of g image base zones is = ap (λ n. has_journal n image) zones ∙ is
