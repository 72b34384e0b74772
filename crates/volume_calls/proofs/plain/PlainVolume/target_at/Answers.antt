use Rattle.std.proofs.Common.{sym, ap, refl, ◌∙◌}
use Rattle.std.specs.Option.{option_map}
use Rattle.volume_calls.specs.code.Renames.{found_from, place_from}
use Rattle.volume_calls.proofs.Renamed.{target_none, target_some}
use Rattle.volume_calls.proofs.plain.PlainVolume.target_at.Goals as goal

pub returns-in_err-placed : goal.returns-in_err-placed
returns-in_err-placed c =
    ap (option_map (found_from c.args.self.now.contents.blocks)) c.from_residual-in_err-placed.ensures
    ∙ target_none c.args.self.now (place_from c.args.place.now) c.in_ok-birth.birth (sym c.get.ensures ∙ c.in_ok-birth.was) (c.in_err-placed.ensures.none refl)

pub returns : goal.returns
returns c = target_some c.args.self.now (place_from c.args.place.now) c.in_ok-birth.birth c.in_ok-placed.placed.now (sym c.get.ensures ∙ c.in_ok-birth.was) c.in_ok-placed.ensures.some
