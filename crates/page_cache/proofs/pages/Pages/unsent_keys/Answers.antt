use Rattle.std.proofs.Common.{ap, ◌∙◌}
use Rattle.page_cache.specs.Pages.{Cache}
use Rattle.page_cache.specs.Unsent.{unsent_keys}
use Rattle.page_cache.proofs.Steps.{if_ok, keys_of_file}
use Rattle.page_cache.proofs.pages.Pages.unsent_keys.Goals as goal

pub returns : goal.returns
returns c =
    if_ok _ _ c.keys_in.result
    (λ keys e. e ∙ keys_of_file c.self.inside.pages.pages c.self.inside.unsent.items c.args.file c.self.invariant.unsent_listed ∙ ap (λ (k : Cache). unsent_keys c.args.file k.pages) c.self.view_is)
    c.keys_in.ensures
