use Rattle.std.proofs.Common.{◌∙◌, ◌≡◌, List, ℕ, Option, Some, None, ap, map, option_map, rules, sym}
use Rattle.std.specs.Prelude.{option_and_then}
use Rattle.std.specs.String.{string_bytes}
use Rattle.clap_words.specs.Table.{Said, said_of}
use Rattle.clap_words.specs.declared.asked.Asked.{Asked}
use Rattle.barrierfs_top.specs.Tasks.{task_of, task_said}
use Rattle.barrierfs_top.proofs.command_line.Words.task.Goals as goal

pub returns-in-Ok-Some-clause-value : goal.returns-in-Ok-Some-clause-value
returns-in-Ok-Some-clause-value c =
    let words_are : map string_bytes c.as_slice.result.now ≡ c.args.self.now = search rules in
    let is : c.in-Ok-Some.field-0 ≡ Some c.in-Ok-Some.asked = search rules in
    c.task_asked.ensures.value ∙ ap (λ (o : Option Asked). option_and_then task_said (option_map said_of o)) (sym is) ∙ ap (λ (o : Option Said). option_and_then task_said o) c.in-Ok-Some.ensures
    ∙ ap task_of words_are

pub returns-in-Ok-None-clause-value : goal.returns-in-Ok-None-clause-value
returns-in-Ok-None-clause-value c =
    let words_are : map string_bytes c.as_slice.result.now ≡ c.args.self.now = search rules in
    let is : c.in-Ok-None.field-0 ≡ None = search rules in
    ap (λ (o : Option Asked). option_and_then task_said (option_map said_of o)) (sym is) ∙ ap (λ (o : Option Said). option_and_then task_said o) c.in-Ok-None.ensures
    ∙ ap task_of words_are
