-- The text of a session's report is that of the lines of its host and of its tree.
use Rattle.std.proofs.Common.{◌≡◌, ℕ, zero, suc, ◌+◌, ◌<◌, ◌≤◌, ◌++◌, List, [], ◌∷◌, Option, Some, None, arith, length-append, length, map, Ok, refl, sym, ap, subst, ◌∙◌}
use Rattle.stack_core.specs.Headline.{KeepsOrder}
use Rattle.volume_ops.specs.laws.ReadsLaws.{same_Ok}
use Rattle.tree_model.specs.Text.{tree_text}
use Rattle.mount_make.specs.Images.{tree_after, image_tree}
use Rattle.host_answers.specs.declared.entry.Entry.{Entry}
use Rattle.session_grammar.specs.declared.session_script.SessionScript.{SessionScript}
use Rattle.session_report.specs.ReportText.{session_lines}
use Rattle.host_answers.specs.declared.standing.Standing.{Standing}
use Rattle.session_grammar.specs.WellFormed.{IsWellFormed}
use Rattle.session_core.specs.Core.{EndState, HostNow, entry_in, standing_of, opening_of, with_standing, standings_of}
use Rattle.session_core.specs.Report.{IsReportOf, ReportKeepsOrder, HasPrefix}
use Rattle.session_core.specs.declared.report.SessionReport.{SessionReport}
use Rattle.barrierfs_top.specs.Sessions.{IsSessionText, figures_of}
use Rattle.barrierfs_top.specs.Show.{shown_volume, text_after}

-- what is shown of a volume is the text of its image's tree
tree_shown : (s : SessionScript) (end : EndState) (r : SessionReport) (told : List ℕ) → IsReportOf s end r → (p : HasPrefix s end r) → shown_volume r.volume ≡ Ok told → told ≡ tree_text p.tree
tree_shown s end r told is p shown =
    let same : text_after (image_tree r.cut.image.items) ≡ shown_volume r.volume = ap (λ m. text_after (tree_after m)) is.volume in
    same_Ok told (tree_text p.tree) (sym shown ∙ (sym same ∙ ap text_after p.found))

-- the text is that of the session's lines and of its tree
pub text_is : (s : SessionScript) (end : EndState) (r : SessionReport) (text : List ℕ) → IsReportOf s end r → (p : HasPrefix s end r) → (t : IsSessionText s r text)
    → text ≡ session_lines s.programs s.lines (figures_of r) t.history r.standings.items ++ tree_text p.tree
text_is s end r text is p t = t.printed ∙ ap (λ (x : List ℕ). session_lines s.programs s.lines (figures_of r) t.history r.standings.items ++ x) (tree_shown s end r t.tree is p t.shown)

-- ---- what it says is of the script's host

pub noted_of : (s : SessionScript) (end : EndState) (r : SessionReport) (history : List Entry) → IsReportOf s end r → r.host.host.history ≡ map (entry_in r.host.programs) history
    → end.host.history ≡ map (entry_in s.programs) history
noted_of s end r history is noted = ap (λ h. h.history) (sym is.host) ∙ (noted ∙ ap (λ ps. map (entry_in ps) history) is.programs)

-- how threads stand is read off the host and the programs alone
same_standings : (g h : HostNow) → g.host ≡ h.host → g.programs ≡ h.programs → (n : ℕ) → standings_of g n ≡ standings_of h n
same_standings g h e f zero = refl
same_standings g h e f (suc n) =
    ap (λ ss. with_standing ss (standing_of g (n + 1))) (same_standings g h e f n)
    ∙ (ap (λ x. with_standing (standings_of h n) (standing_of (record g { host = x }) (n + 1))) e
    ∙ ap (λ ps. with_standing (standings_of h n) (standing_of (record g { host = h.host; programs = ps }) (n + 1))) f)

pub stand_of : (s : SessionScript) (end : EndState) (r : SessionReport) → IsReportOf s end r → (h : HostNow) → h.host ≡ end.host → h.programs ≡ s.programs → r.standings.items ≡ standings_of h (length s.programs)
stand_of s end r is h host programs = is.standings ∙ same_standings r.host h (is.host ∙ sym host) (is.programs ∙ sym programs) (length s.programs)

-- the completions of the trace are those that the device sent
pub order_of : (s : SessionScript) (end : EndState) (r : SessionReport) → IsReportOf s end r → ReportKeepsOrder s end r
    → KeepsOrder (opening_of s).image end.host.journal.flush.requests r.cut.image.items r.cut.origins (end.dev.sent ++ end.dev.waiting)
order_of s end r is order = subst (λ sent. KeepsOrder (opening_of s).image end.host.journal.flush.requests r.cut.image.items r.cut.origins (sent ++ end.dev.waiting)) is.trace.sent order

-- ---- no more threads stand than the script has

one_more : (ss : List Standing) (o : Option Standing) → length (with_standing ss o) ≤ length ss + 1
one_more ss None = omega arith
one_more ss (Some s) = let n = length-append ss (s ∷ []) in omega (arith, n)

few : (h : HostNow) (n : ℕ) → length (standings_of h n) ≤ n
few h zero = omega arith
few h (suc n) = let least = few h n in let more = one_more (standings_of h n) (standing_of h (n + 1)) in omega (arith, least, more)

pub few_standings : (s : SessionScript) (end : EndState) (r : SessionReport) (xs : List Standing) → xs ≡ r.standings.items → IsWellFormed s → IsReportOf s end r → 1 + length xs < 4294967296
few_standings s end r xs e well is =
    let size = ap length (e ∙ is.standings) in
    let least = few r.host (length s.programs) in
    let threads = well.threads in
    omega (arith, size, least, threads)
