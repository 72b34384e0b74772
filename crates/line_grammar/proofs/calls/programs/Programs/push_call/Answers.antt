use Rattle.std.proofs.Common.{arith}
use Rattle.line_grammar.proofs.CallsLemmas.LastThread.{push_said}
use Rattle.line_grammar.proofs.calls.programs.Programs.push_call.Goals as goal

pub returns : goal.returns
returns c =
    push_said c.push.result c.self.inside.threads.items c.args.self.now _ c.index_mut.result.now c.push.new.self c.len-last.result c.args.call c.self.view_is (omega (arith, c.len-last.ensures, c.self.inside.threads.ok.0)) c.requires c.index_mut.ensures.value c.push.ensures
