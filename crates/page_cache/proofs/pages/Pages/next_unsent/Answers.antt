use Rattle.std.proofs.Common.{ap, ◌∙◌}
use Rattle.std.specs.Option.{option_map}
use Rattle.page_cache.specs.Pages.{Cache, is_unsent, key_of, next_unsent}
use Rattle.page_cache.proofs.Steps.{list_rising, next_key}
use Rattle.page_cache.proofs.pages.Pages.next_unsent.Goals as goal

pub key_from-requires : goal.key_from-requires
key_from-requires c = list_rising is_unsent c.self.inside.pages.pages c.self.inside.unsent.items c.self.invariant.rising c.self.invariant.unsent_listed

pub returns : goal.returns
returns c =
    c.key_from.ensures ∙ next_key c.self.inside.pages.pages c.self.inside.unsent.items c.args.birth c.args.from c.self.invariant.unsent_listed
    ∙ ap (λ (k : Cache). option_map key_of (next_unsent k.pages c.args.birth c.args.from)) c.self.view_is
