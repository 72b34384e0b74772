-- What `run` makes of a volume script, whose session runs in threads.
use Rattle.std.specs.Prelude.{◌≡◌, ℕ, ◌+◌, Bool, true, false, List, [], ◌∷◌, codes, nat_lt, Option, Some, None, Result, Ok, Err, if◌then◌else◌}
use Rattle.std.specs.List.{concat}
use Rattle.std.specs.Str.{bytes_eq}
use Rattle.blk_base.specs.Image.{whole_blocks}
use Rattle.mount_make.specs.Images.{recovered_image}
use Rattle.script_words.specs.Spelling.{lines_of, words_of}
use Rattle.script_grammar.specs.declared.kinds.ScriptKind.{ScriptKind}
use Rattle.script_grammar.specs.declared.kinds.ScriptKind.TheVariants as kinds
use Rattle.session_grammar.specs.declared.session_script.SessionScript.{SessionScript}
use Rattle.session_grammar.specs.Grammar.{session_of}
use Rattle.session_threads.specs.Ran.{IsThreadsReport}
use Rattle.session_threads.specs.declared.report.ThreadsReport.{ThreadsReport}
use Rattle.barrierfs_top.specs.declared.run_report.RunReport.{RunReport}
use Rattle.barrierfs_top.specs.declared.run_report.RunReport.TheVariants as reports
use Rattle.barrierfs_top.specs.Sessions.{IsSessionText}

-- ---- which scripts are run in threads

-- the words of a line begin with `flash`
abbrev pub names_flash : List (List ℕ) → Bool
names_flash [] = false
names_flash (w ∷ ws) = bytes_eq w (codes "flash")

-- the number of the first of these lines that begins with the word `flash`, where the first of them all has this number
abbrev pub flash_line : ℕ → List (List ℕ) → Option ℕ
flash_line n [] = None
flash_line n (l ∷ ls) = if names_flash (words_of l) then Some n else flash_line (n + 1) ls

-- what is read of a text in which this line is out of order: the fault of a line before it, else its own
abbrev pub out_of_order : ℕ → Result SessionScript (ℕ × ScriptKind) → Result SessionScript (ℕ × ScriptKind)
out_of_order at (Ok s) = Err (at, kinds.Order)
out_of_order at (Err (line, kind)) = if nat_lt line at then Err (line, kind) else Err (at, kinds.Order)

-- so where there is such a line, else just what is read
abbrev pub without_line : Option ℕ → Result SessionScript (ℕ × ScriptKind) → Result SessionScript (ℕ × ScriptKind)
without_line None read = read
without_line (Some at) read = out_of_order at read

-- The volume script that the bytes spell, or the first faulty line and its kind, where a line that begins with `flash` is out of
-- order: `run` is for the model device alone.
abbrev pub threads_script_of : List ℕ → Result SessionScript (ℕ × ScriptKind)
threads_script_of input = without_line (flash_line 1 (lines_of input)) (session_of input)

-- ---- what is made of the input

-- The input spells a volume script, and the report is that of its session in threads, on the model device, and keeps all that
-- sessions promise.
pub record IsThreadsOf (input : List ℕ) (s : SessionScript) (r : ThreadsReport) : Type 0 where
  pub spelled : threads_script_of input ≡ Ok s
  pub is : IsThreadsReport s None r

-- it is so of some script, and the text is the report's
pub record IsRunText (input : List ℕ) (report : Option RunReport) (text : List ℕ) : Type 0 where
  pub script : SessionScript
  pub result : ThreadsReport
  pub ran : IsThreadsOf input script result
  pub reported : report ≡ Some (reports.Threads result)
  pub printed : IsSessionText script result.report text

-- With `--raw` the bytes are those of what the power cut left, once it was recovered: of all its blocks, each of which is read
-- as it stood.
pub record IsRunImage (input : List ℕ) (report : Option RunReport) (bytes : List ℕ) : Type 0 where
  pub script : SessionScript
  pub result : ThreadsReport
  pub ran : IsThreadsOf input script result
  pub reported : report ≡ Some (reports.Threads result)
  pub written : bytes ≡ concat (recovered_image result.report.cut.image.items)
  pub whole : whole_blocks bytes ≡ recovered_image result.report.cut.image.items

-- `run`, and with `--raw`
abbrev pub IsRun : Bool → List ℕ → Option RunReport → List ℕ → Type 0
IsRun true input report text = IsRunImage input report text
IsRun false input report text = IsRunText input report text
