-- Scripts of three requests, by which it is seen what order asks for and what it does not.
use Rattle.std.specs.Prelude.{ℕ, false, List, [], ◌∷◌, None}
use Rattle.order_model.specs.declared.request.Request.{Request}
use Rattle.script_grammar.specs.declared.script.Script.{Script}
use Rattle.script_grammar.specs.declared.script.Form.TheVariants.{Blocks}
use Rattle.script_grammar.specs.declared.script.EventLine.{EventLine}
use Rattle.script_grammar.specs.declared.script.EventWord.TheVariants.{One}
use Rattle.script_grammar.specs.declared.script.CoreEvent.{CoreEvent}
use Rattle.script_grammar.specs.declared.script.CoreEvent.TheVariants.{Submit, Accept, Dispatch, Receive, Transfer, Persist}
use Rattle.script_grammar.specs.Grammar.{put_request, flush_request}
use Rattle.script_grammar.specs.declared.words.Class.{Class}
use Rattle.script_grammar.specs.declared.words.Class.TheVariants.{Free, Barrier}

-- a script of these requests on a medium of three blocks, with queues of two items and two commands in the device
abbrev pub three_blocks : List Request → Script
three_blocks requests = record {
  kind = Blocks 3;
  header = record { depth = 2; queue = 2; fail = None; cut = None; elevator = false; flash = None };
  puts = requests;
  events = [];
}

-- a put of this class, a barrier and a put that asks for no order, of three blocks
abbrev pub before_barrier : Class → Script
before_barrier class = three_blocks (put_request 0 0 17 class ∷ put_request 1 1 34 Barrier ∷ put_request 2 2 51 Free ∷ [])

-- two puts that ask for no order, and a flush between them
abbrev pub around_flush : Script
around_flush = three_blocks (put_request 0 0 17 Free ∷ flush_request 1 ∷ put_request 2 2 51 Free ∷ [])

abbrev pub line : CoreEvent → ℕ → EventLine
line event count = record { what = One event; count = count }

-- The barrier overtakes the first put in the scheduler, and the last one goes with it to the device.
abbrev pub past_the_first : List EventLine
past_the_first =
    line Submit 2 ∷ line Accept 2 ∷ line (Dispatch 1) 1 ∷ line Submit 1 ∷ line Accept 1 ∷ line (Dispatch 1) 1
    ∷ line Receive 2 ∷ line (Transfer 0) 2 ∷ line (Persist 0) 2 ∷ []
