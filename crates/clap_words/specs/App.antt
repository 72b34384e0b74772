-- The command line as `clap` is told of it.
use Rattle.std.specs.Prelude.{true, false, [], Some, codes}
use Rattle.clap.specs.Words.{App, Rule, Shape, Text, new_app, new_rule, with_rule, with_subcommand}
use Rattle.clap.specs.declared.builder.action.ArgAction.TheVariants.{SetTrue}

abbrev pub raw : Rule
raw = record (new_rule (codes "raw")) { long = Some (codes "raw"); action = Some SetTrue }

abbrev pub number : Text → Rule
number name = record (new_rule name) { required = true }

abbrev pub raw_command : Text → App
raw_command name = with_rule (new_app name) raw

abbrev pub make : App
make = with_rule (with_rule (with_rule (new_app (codes "make")) (number (codes "I"))) (number (codes "Z"))) (number (codes "J"))

abbrev pub bulk : App
bulk = with_rule (new_app (codes "bulk")) (number (codes "N"))

abbrev pub top : App
top = record {
  top = record (new_app (codes "barrierfs")).top { no_binary_name = true; disable_help_flag = true; disable_help_subcommand = true; disable_version_flag = true; subcommand_required = true };
  subs = [];
}

abbrev pub barrierfs : App
barrierfs =
    with_subcommand
    (with_subcommand
    (with_subcommand
    (with_subcommand
    (with_subcommand
    (with_subcommand
    (with_subcommand
    (with_subcommand top (raw_command (codes "replay")).top)
    (raw_command (codes "run")).top)
    (new_app (codes "show")).top)
    (raw_command (codes "widen")).top)
    (new_app (codes "check")).top)
    (new_app (codes "kv")).top)
    make.top)
    bulk.top
