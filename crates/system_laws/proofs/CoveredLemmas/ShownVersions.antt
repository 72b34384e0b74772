-- A block that is shown is that of a tree which has it.
use Rattle.std.specs.Prelude.{ℕ}
use Rattle.session_grammar.specs.declared.session_script.SessionScript.{SessionScript}
use Rattle.session_core.specs.Core.{EndState}
use Rattle.session_core.specs.Headline.{medium_of, IsShownBy, HeadlineOn}
use Rattle.session_core.specs.declared.report.SessionReport.{SessionReport}
use Rattle.session_core.proofs.NewestBlocks.{shown_there, shown_as}
use Rattle.system_laws.specs.covered.Calls.{IsShownFrom}

pub shown_from : (s : SessionScript) (end : EndState) (r : SessionReport) (is : HeadlineOn s end r) (f i n : ℕ) → IsShownBy s end (medium_of r) is.prefix.tree is.prefix.alike.to f i n → IsShownFrom s end r is f i n
shown_from s end r is f i n x = record {
  version = x.version;
  later = x.later;
  there = shown_there s end (medium_of r) is.prefix.tree is.prefix.alike.to f i n x;
  shown = shown_as s end (medium_of r) is.prefix.tree is.prefix.alike.to f i n x;
}
