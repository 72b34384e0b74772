-- The command that a parse entered, by what its matches give.
use Rattle.std.proofs.Common.{◌≡◌, ◌∙◌, sym, ap, ap₂, refl, List, Option, Some, None, option_map}
use Rattle.std.proofs.lemmas.Option.{same_Some}
use Rattle.std.specs.Prelude.{Box}
use Rattle.std.specs.Box.{box_value}
use Rattle.clap.specs.Matches.{found_of}
use Rattle.clap.specs.Walk.{Row, Text, rows_of}
use Rattle.clap.specs.Simple.{subcommand_rows}
use Rattle.clap.specs.declared.parser.matches.ArgMatches.TheViews.{out-SubCommand}
use Rattle.clap.specs.declared.parser.matches.SubCommand.{SubCommand}
use Rattle.clap_words.proofs.Walks.{some_none}

module _ {Z : Type 0} where
  pub entered_is : (sub : Option (Box SubCommand Z)) (name : Text) (rows : List Row) → Some name ≡ option_map (λ b. (out-SubCommand (box_value b)).name.now) sub
      → Some rows ≡ option_map (λ p. p.1) (subcommand_rows sub) → subcommand_rows sub ≡ Some (name, rows)
  entered_is None name rows n r = absurd (some_none name n)
  entered_is (Some b) name rows n r =
      ap₂ (λ (x : Text) (y : List Row). Some (x, y)) (sym (same_Some name _ n)) (sym (same_Some rows _ r))

  pub none_entered : (sub : Option (Box SubCommand Z)) → None ≡ option_map (λ b. (out-SubCommand (box_value b)).name.now) sub → subcommand_rows sub ≡ None
  none_entered None n = refl
  none_entered (Some b) n = absurd (some_none _ (sym n))
