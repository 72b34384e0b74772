use Rattle.std.proofs.Common.{rules, sym, ◌∙◌}
use Rattle.std.proofs.lemmas.Iterator.{YieldsList-from_slice}
use Rattle.std.proofs.lemmas.Iterator.Search.{all_from_yields_List}
use Rattle.std.proofs.lemmas.List.Folds.{list_all-map}
use Rattle.tree_model.specs.Paths.{is_path_name}
use Rattle.tree_model.proofs.path.are_path_names.Goals as goal

pub returns : goal.returns
returns c =
    all_from_yields_List (λ x. is_path_name x.now) _ _ _ c.all.ensures.ran (YieldsList-from_slice c.args.names.now cc) (λ x b q k. search rules)
    ∙ sym (list_all-map is_path_name (λ x. x.now) c.args.names.now)
