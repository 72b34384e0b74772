-- What `replay` makes of a volume script.
use Rattle.std.specs.Prelude.{◌≡◌, ℕ, ◌++◌, Bool, false, List, [], ◌∷◌, codes, length, map, Option, Some, Ok, if◌then◌else◌}
use Rattle.std.specs.List.{concat}
use Rattle.std.specs.Str.{bytes_eq}
use Rattle.blk_base.specs.Image.{whole_blocks}
use Rattle.mount_make.specs.Images.{recovered_image}
use Rattle.script_words.specs.Spelling.{lines_of, words_of, is_skipped}
use Rattle.host_answers.specs.declared.entry.Entry.{Entry}
use Rattle.session_grammar.specs.declared.session_script.SessionScript.{SessionScript}
use Rattle.session_grammar.specs.Grammar.{session_of}
use Rattle.session_report.specs.ReportText.{Figures, session_lines}
use Rattle.session_core.specs.Core.{EndState, entry_in, ArePlaced}
use Rattle.session_core.specs.Headline.{Headline}
use Rattle.session_core.specs.Report.{IsCoreReport, IsReportOf}
use Rattle.session_core.specs.declared.report.SessionReport.{SessionReport}
use Rattle.barrierfs_top.specs.declared.run_report.RunReport.{RunReport}
use Rattle.barrierfs_top.specs.declared.run_report.RunReport.TheVariants as reports
use Rattle.barrierfs_top.specs.Show.{shown_volume}

-- ---- which scripts are of sessions

-- the words of a line begin with `volume`
abbrev pub names_volume : List (List ℕ) → Bool
names_volume [] = false
names_volume (w ∷ ws) = bytes_eq w (codes "volume")

-- the first line that is not skipped begins with the word `volume`
abbrev pub begins_session : List (List ℕ) → Bool
begins_session [] = false
begins_session (l ∷ ls) = if is_skipped l then begins_session ls else names_volume (words_of l)

-- the input is read as a volume script, not as one of block requests
abbrev pub is_session : List ℕ → Bool
is_session input = begins_session (lines_of input)

-- ---- the text of a report

-- steps of the device, requests, closed transactions, and those that were found
abbrev pub figures_of : SessionReport → Figures
figures_of r = record { steps = r.cut.trace.steps; requests = length r.host.host.journal.flush.requests; closed = length r.host.host.cuts; found = r.found }

-- the report is one of this script, however its session ran
abbrev pub IsSomeReport : SessionScript → SessionReport → Type 0
IsSomeReport s r = (end : EndState) × IsReportOf s end r

-- The lines of the session, with what the host noted of its calls, each entry of its thread's next call, and then those of
-- the tree that was mounted.
pub record IsSessionText (s : SessionScript) (r : SessionReport) (text : List ℕ) : Type 0 where
  pub history : List Entry
  pub noted : r.host.host.history ≡ map (entry_in r.host.programs) history
  pub placed : ArePlaced s.programs history
  pub tree : List ℕ
  pub shown : shown_volume r.volume ≡ Ok tree
  pub printed : text ≡ session_lines s.programs s.lines (figures_of r) history r.standings.items ++ tree

-- ---- what is made of the input

-- The input spells a volume script, and the report is that of its session and keeps all that sessions promise.
pub record IsSessionOf (input : List ℕ) (s : SessionScript) (r : SessionReport) : Type 0 where
  pub spelled : session_of input ≡ Ok s
  pub core_is : IsCoreReport s r
  pub headline : Headline s r

-- it is so of some script, and the text is the report's
pub record IsSessionReplay (input : List ℕ) (report : Option RunReport) (text : List ℕ) : Type 0 where
  pub script : SessionScript
  pub result : SessionReport
  pub ran : IsSessionOf input script result
  pub reported : report ≡ Some (reports.Session result)
  pub printed : IsSessionText script result text

-- With `--raw` the bytes are those of what the power cut left, once it was recovered: of all its blocks, each of which is read
-- as it stood.
pub record IsImageReplay (input : List ℕ) (report : Option RunReport) (bytes : List ℕ) : Type 0 where
  pub script : SessionScript
  pub result : SessionReport
  pub ran : IsSessionOf input script result
  pub reported : report ≡ Some (reports.Session result)
  pub written : bytes ≡ concat (recovered_image result.cut.image.items)
  pub whole : whole_blocks bytes ≡ recovered_image result.cut.image.items
