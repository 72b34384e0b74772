use Rattle.std.proofs.Common.{◌∙◌, ◌≡◌, sym, ap, refl, rules, true, false, map, List, [], inl, inr}
use Rattle.std.specs.List.{list_any}
use Rattle.clap.specs.Kinds.{Kinds}
use Rattle.clap.specs.Words.{App, Text, app_of, fault_of, is_simple, is_simple_and_free, kind_of, subcommand_of, subcommand_rows_of}
use Rattle.clap.proofs.WalkLemmas.{list_any-map}
use Rattle.clap_words.specs.App.{barrierfs}
use Rattle.clap_words.specs.Reads.{given, read_in}
use Rattle.clap_words.specs.Table.{asked_by, is_lone_dash}
use Rattle.clap_words.proofs.Dashes.{nothing_asked, nothing_given}
use Rattle.clap_words.proofs.Law.{law}
use Rattle.clap_words.proofs.asked.read_words.Goals as goal

pub returns-then-has_lone_dash : goal.returns-then-has_lone_dash
returns-then-has_lone_dash g c =
    nothing_asked (map g.S.AsStr.text c.args.words.now)
    (sym (list_any-map is_lone_dash g.S.AsStr.text c.args.words.now) ∙ sym c.has_lone_dash.ensures ∙ c.if-has_lone_dash.true)

pub returns-in-Ok : goal.returns-in-Ok
returns-in-Ok g c =
    let words : List Text = map g.S.AsStr.text c.args.words.now in
    let none = sym (list_any-map is_lone_dash g.S.AsStr.text c.args.words.now) ∙ sym c.has_lone_dash.ensures ∙ c.if-has_lone_dash.false in
    let app : app_of c.in_ok-command.command ≡ barrierfs = c.in_ok-command.ensures in
    let entered : subcommand_rows_of c.in-Ok.matches ≡ subcommand_of barrierfs words = (c.in-Ok.ensures.matches (ap is_simple app)).1 ∙ ap (λ (a : App). subcommand_of a words) app in
    let well : fault_of barrierfs words ≡ [] = sym (ap (λ (a : App). fault_of a words) app) ∙ c.in-Ok.ensures.kinds (ap is_simple_and_free app) in
    c.read.ensures ∙ ap read_in entered ∙ sym (ap (λ (k : Kinds). given k (subcommand_of barrierfs words)) well) ∙ law words none

pub returns-else-is_out_of_memory : goal.returns-else-is_out_of_memory
returns-else-is_out_of_memory g c =
    let words : List Text = map g.S.AsStr.text c.args.words.now in
    let none = sym (list_any-map is_lone_dash g.S.AsStr.text c.args.words.now) ∙ sym c.has_lone_dash.ensures ∙ c.if-has_lone_dash.false in
    let app : app_of c.in_ok-command.command ≡ barrierfs = c.in_ok-command.ensures in
    elim (c.in-Err.ensures.kinds (ap is_simple_and_free app)) [
      | inl memory ↦ absurd (c.is_out_of_memory.ensures c.if-is_out_of_memory.false memory)
      | inr among ↦
          sym (nothing_given (kind_of c.in-Err.error) (fault_of (app_of c.in_ok-command.command) words) (subcommand_of barrierfs words) among)
          ∙ ap (λ (a : App). given (fault_of a words) (subcommand_of barrierfs words)) app ∙ law words none
    ]
