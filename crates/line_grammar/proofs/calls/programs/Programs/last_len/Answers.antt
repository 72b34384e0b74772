use Rattle.std.proofs.Common.{◌∙◌, sym, ap, length}
use Rattle.std.specs.Option.{option_copied}
use Rattle.line_grammar.proofs.CallsLemmas.LastThread.{len_said}
use Rattle.line_grammar.proofs.calls.programs.Programs.last_len.Goals as goal

pub returns-in-Some : goal.returns-in-Some
returns-in-Some c =
    ap length c.as_slice.ensures
    ∙ len_said c.deref.result.now c.args.self.now c.in-Some.thread.now (c.deref.ensures.value ∙ c.self.view_is) (sym (ap option_copied c.in-Some.is) ∙ c.last.ensures.value)
