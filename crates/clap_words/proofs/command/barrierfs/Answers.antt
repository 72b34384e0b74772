use Rattle.std.proofs.Common.{◌≡◌, ◌∙◌, rules, ap, ap₂, true, false, codes}
use Rattle.std.proofs.lemmas.Result.{IfOk-weaker}
use Rattle.clap.specs.Simple.{App, app_of, app_of_fields, on_top}
use Rattle.clap.specs.Words.{with_subcommand}
use Rattle.clap_words.specs.App.{barrierfs, bulk, make, raw_command, top}
use Rattle.clap_words.proofs.command.barrierfs.Goals as goal

pub returns : goal.returns
returns c =
    let top_is : app_of c.subcommand_required-command.result ≡ top = ap app_of_fields c.subcommand_required-command.ensures ∙ ap (on_top (λ s. record s { subcommand_required = true }))
    (ap app_of_fields c.disable_version_flag.ensures ∙ ap (on_top (λ s. record s { disable_version_flag = true }))
    (ap app_of_fields c.disable_help_subcommand.ensures ∙ ap (on_top (λ s. record s { disable_help_subcommand = true }))
    (ap app_of_fields c.disable_help_flag.ensures ∙ ap (on_top (λ s. record s { disable_help_flag = true }))
    (ap app_of_fields c.no_binary_name.ensures ∙ ap (on_top (λ s. record s { no_binary_name = true })) c.new.ensures.app)))) in
    let replay = c.in_ok-command.ensures.shape c.in_ok-raw_command.ensures.local ∙ ap₂ with_subcommand top_is (ap (λ (a : App). a.top) c.in_ok-raw_command.ensures.app) in
    let run = c.in_ok-command-2.ensures.shape c.in_ok-raw_command-2.ensures.local ∙ ap₂ with_subcommand replay (ap (λ (a : App). a.top) c.in_ok-raw_command-2.ensures.app) in
    let show = c.in_ok-command-3.ensures.shape c.new-2.ensures.local ∙ ap₂ with_subcommand run (ap (λ (a : App). a.top) c.new-2.ensures.app) in
    let widen = c.in_ok-command-4.ensures.shape c.in_ok-raw_command-3.ensures.local ∙ ap₂ with_subcommand show (ap (λ (a : App). a.top) c.in_ok-raw_command-3.ensures.app) in
    let check = c.in_ok-command-5.ensures.shape c.new-3.ensures.local ∙ ap₂ with_subcommand widen (ap (λ (a : App). a.top) c.new-3.ensures.app) in
    let kv = c.in_ok-command-6.ensures.shape c.new-4.ensures.local ∙ ap₂ with_subcommand check (ap (λ (a : App). a.top) c.new-4.ensures.app) in
    let made = c.in_ok-command-7.ensures.shape c.in_ok-make.ensures.local ∙ ap₂ with_subcommand kv (ap (λ (a : App). a.top) c.in_ok-make.ensures.app) in
    IfOk-weaker c.subcommand-8.result _ _ (λ m h. h.shape c.in_ok-bulk.ensures.local ∙ ap₂ with_subcommand made (ap (λ (a : App). a.top) c.in_ok-bulk.ensures.app)) c.subcommand-8.ensures
