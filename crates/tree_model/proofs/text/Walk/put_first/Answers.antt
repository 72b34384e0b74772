use Rattle.std.proofs.Common.{sym}
use Rattle.std.proofs.lemmas.List.{append-nil}
use Rattle.std.specs.String.{string_bytes}
use Rattle.tree_model.proofs.Walks.{first_some, first_none}
use Rattle.tree_model.proofs.text.Walk.put_first.Goals as goal

pub returns-in-Some : goal.returns-in-Some
returns-in-Some c =
    rw (← c.self.view_is, first_some string_bytes c.self.inside.firsts.entries c.args.birth c.in-Some.path.now c.in-Some.ensures.value, ← c.as_str.ensures.value) c.put_path.ensures

pub returns-in-None : goal.returns-in-None
returns-in-None c =
    rw (← c.self.view_is, first_none string_bytes c.self.inside.firsts.entries c.args.birth c.in-None.ensures.value) (sym (append-nil _))
