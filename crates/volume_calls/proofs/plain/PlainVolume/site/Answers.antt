use Rattle.std.proofs.Common.{ap, ◌∙◌}
use Rattle.tree_model.specs.declared.call.Reply.TheVariants as replies
use Rattle.tree_model.specs.Calls.{and_then, parent_of}
use Rattle.volume_model.specs.Trees.{directory_from}
use Rattle.volume_steps.specs.Now.{VolumeNow, tree_of_now}
use Rattle.volume_calls.proofs.plain.PlainVolume.site.Goals as goal

pub returns-clause-site : goal.returns-clause-site
returns-clause-site c =
    let v : VolumeNow = c.args.self.now in
    record {
      directory = directory_from c.in_ok-place.place.directory.now;
      is = ap (λ names. and_then names (parent_of replies.Invalid (tree_of_now v))) c.in_ok-names.ensures.names ∙ c.in_ok-place.ensures.place replies.Invalid;
    }
