-- What the text of a session says, however the session ran.
use Rattle.std.proofs.Common.{ℕ, ◌+◌, List, length, Option, ap, subst}
use Rattle.session_core.proofs.CallEnds.{ends_caused}
use Rattle.session_core.proofs.Headlines.{latest_shown, all_shown}
use Rattle.session_core.proofs.Seen.{later_survived}
use Rattle.session_core.specs.Core.{EndState}
use Rattle.session_core.specs.Headline.{HeadlineOn, medium_of}
use Rattle.session_core.specs.Report.{IsReportOf}
use Rattle.session_core.specs.declared.report.SessionReport.{SessionReport}
use Rattle.session_grammar.specs.declared.session_script.SessionScript.{SessionScript}
use Rattle.barrierfs_top.specs.declared.fault.TopFault.{TopFault}
use Rattle.barrierfs_top.specs.Promise.{IsWritten, TellsSession}
use Rattle.barrierfs_top.specs.Sessions.{IsSessionText, figures_of}
use Rattle.barrierfs_top.proofs.AnswerCauses.{answers_caused}
use Rattle.barrierfs_top.proofs.SessionEnds.{text_is, noted_of, stand_of, order_of}

pub session_told : (s : SessionScript) (end : EndState) (r : SessionReport) (fault : Option TopFault) (text bytes : List ℕ) → IsReportOf s end r → HeadlineOn s end r → IsSessionText s r text
    → IsWritten fault text bytes → TellsSession s end fault bytes
session_told s end r fault text bytes is h printed written =
    let noted = noted_of s end r printed.history is printed.noted in
    record {
      figures = figures_of r;
      steps = is.trace.steps;
      requests = ap (λ x. length x.journal.flush.requests) is.host;
      closed = ap (λ x. length x.cuts) is.host;
      history = printed.history;
      noted = noted;
      placed = printed.placed;
      caused = answers_caused s end printed.history noted (ends_caused s end r h);
      standings = r.standings.items;
      stand = stand_of s end r is;
      tree = h.prefix.tree;
      written = subst (λ l. IsWritten fault l bytes) (text_is s end r text is h.prefix printed) written;
      medium = medium_of r;
      surface = is.image;
      origins = is.origins;
      order = order_of s end r is h.order;
      recovered = h.prefix.found;
      transactions = h.transactions;
      counted = h.counted;
      alike = h.prefix.alike;
      files = latest_shown s end r h;
      answered = h.answered;
      barriers = λ e t c ok kind later. all_shown s end r h (h.answered e t c ok).begun (h.barriers e t c ok kind later);
      seen = λ e t c ok kind shows. all_shown s end r h (h.answered e t c ok).begun (h.barriers e t c ok kind (later_survived s end r h (e + 1) shows));
      syncs = λ e t c ok kind. all_shown s end r h (h.answered e t c ok).begun (h.syncs e t c ok kind);
    }
