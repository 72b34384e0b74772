use Rattle.std.proofs.Common.{List, sym, ◌∙◌}
use Rattle.script_grammar.specs.declared.script.Script.{Script}
use Rattle.script_grammar.specs.declared.script.EventLine.{EventLine}
use Rattle.script_grammar.specs.Grammar.{IsRunnable}
use Rattle.exact_order.proofs.laws.left_media_are_reported.Goals as goal

-- what a run needs of a script is nothing of its events
other-events : (s : Script) (events : List EventLine) → IsRunnable s → IsRunnable (record s { events = events })
other-events s events r = record {
  some_blocks = r.some_blocks;
  few_blocks = r.few_blocks;
  some_depth = r.some_depth;
  depth = r.depth;
  some_queue = r.some_queue;
  queue = r.queue;
  flash = r.flash;
  few = r.few;
  requests = r.requests;
}

pub returns : goal.returns
returns g = record {
  left = λ s r well is. record {
    events = s.events;
    said = record { lines = well.events; expanded = well.expanded };
    holds = sym is.image;
    written = sym is.origins;
  };
  written = λ s image origins l well. record {
    runnable = other-events s l.events well.runnable;
    plain_queue = well.plain_queue;
    no_elevator = well.no_elevator;
    fail = well.fail;
    cut = well.cut;
    filled = well.filled;
    events = l.said.lines;
    expanded = l.said.expanded;
  };
  shown = λ s image origins l r is. (is.image ∙ l.holds, is.origins ∙ l.written);
}
