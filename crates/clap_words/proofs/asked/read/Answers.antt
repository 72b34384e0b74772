use Rattle.std.proofs.Common.{◌≡◌, ◌∙◌, sym, ap, rules}
use mathlib.Core.Path.{fun_ext}
use Rattle.clap.specs.Words.{first_value, found_of, rows_of}
use Rattle.clap.proofs.WalkLemmas.{first_value-rows}
use Rattle.clap_words.specs.Reads.{Values, read_by, read_in, values_of}
use Rattle.clap_words.proofs.Entered.{entered_is}
use Rattle.clap_words.proofs.asked.read.Goals as goal

pub returns : goal.returns
returns c =
    let found = found_of c.in_ok-name.given.now in
    let values : ◌≡◌ {A = Values} (first_value found) (values_of (rows_of found)) = fun_ext (λ id. first_value-rows found id) in
    c.read_command.ensures ∙ ap (λ (v : Values). read_by c.in_ok-name.name.now v) values ∙ sym (ap read_in (entered_is _ _ _ c.in_ok-name.ensures.name c.in_ok-name.ensures.rows))
