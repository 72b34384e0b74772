-- The text that `kv` writes is that of a store's session, and promises what its laws say.
use Rattle.std.proofs.Common.{◌≡◌, ℕ, ◌<◌, ◌≤◌, List, length, take, Option, Some, Ok, slice_get, refl, sym, ap, subst, ◌∙◌, arith, inl, inr}
use Rattle.std.proofs.lemmas.List.{length-take}
use Rattle.std.proofs.lemmas.Option.{same_Some, slice_get_cases}
use Rattle.blk_base.specs.Streams.{Drained}
use Rattle.mount_make.specs.Images.{image_tree}
use Rattle.tree_model.specs.Calls.{Tree}
use Rattle.volume_ops.specs.laws.ReadsLaws.{same_Ok}
use Rattle.wal_store.specs.declared.puts.Put.{Put}
use Rattle.store_grammar.specs.declared.script.StoreScript.{StoreScript}
use Rattle.store_grammar.specs.Grammar.{store_of}
use Rattle.store_grammar.specs.Made.{volume_script}
use Rattle.store_grammar.specs.WellFormed.{IsWellFormed}
use Rattle.store_grammar.proofs.WellFormed.{IsWellFormed-store_of}
use Rattle.store_core.specs.declared.report.StoreSummary.{StoreSummary}
use Rattle.store_core.specs.Program.{NoneFull}
use Rattle.store_core.specs.Runs.{IsHeldAfter, held_on}
use Rattle.store_core.specs.Stores.{WasPut, acknowledged_in, held_of, puts_in}
use Rattle.store_core.specs.SummaryText.{summary_text}
use Rattle.store_core.proofs.Acknowledged.{acknowledged-few}
use Rattle.store_core.proofs.HeldStores.{held-first, held-answered, nothing-later}
use Rattle.session_core.specs.Core.{core}
use Rattle.session_core.specs.Headline.{Headline}
use Rattle.session_core.specs.Report.{IsCoreReport}
use Rattle.session_core.specs.declared.report.SessionReport.{SessionReport}
use Rattle.barrierfs_top.specs.declared.command_line.InputTask.TheVariants as commands
use Rattle.barrierfs_top.specs.declared.command_line.Task.{Task}
use Rattle.barrierfs_top.specs.declared.command_line.Task.TheVariants as tasks
use Rattle.barrierfs_top.specs.declared.fault.TopFault.{TopFault}
use Rattle.barrierfs_top.specs.declared.run_report.RunReport.{RunReport}
use Rattle.barrierfs_top.specs.declared.run_report.RunReport.TheVariants as reports
use Rattle.barrierfs_top.specs.Sessions.{figures_of}
use Rattle.barrierfs_top.specs.Stores.{IsStoreRun}
use Rattle.barrierfs_top.specs.KeptPuts.{TellsStore}
use Rattle.barrierfs_top.specs.Promise.{IsWritten}
use Rattle.barrierfs_top.specs.Tasks.{most_of}
use Rattle.barrierfs_top.specs.Top.{Stream, IsDone, Does}

-- ---- the text

-- what is told of a session that left this report, where its tree holds this of the store
abbrev told : StoreScript → SessionReport → Tree → StoreSummary
told x r tree = record { steps = (figures_of r).steps; requests = (figures_of r).requests; acknowledged = acknowledged_in (core (volume_script x)); held = held_on x.room tree }

pub store_ran : (input : List ℕ) (x : StoreScript) (r : SessionReport) (s : StoreSummary) (text : List ℕ) → store_of input ≡ Ok x → IsCoreReport (volume_script x) r → Headline (volume_script x) r
    → s.steps ≡ r.cut.trace.steps → s.requests ≡ length r.host.host.journal.flush.requests → s.acknowledged ≡ acknowledged_in (core (volume_script x)) → IsHeldAfter x.room r s.held
    → text ≡ summary_text s → IsStoreRun input (Some (reports.Session r)) text
store_ran input x r s text spelled core_is headline steps requests acknowledged held is = record {
  script = x;
  spelled = spelled;
  result = r;
  core_is = core_is;
  headline = headline;
  reported = refl;
  tree = held.tree;
  recovered = held.recovered;
  printed = is ∙ ap (λ (n : ℕ). summary_text (record s { steps = n })) steps
      ∙ ap (λ (n : ℕ). summary_text (record s { steps = r.cut.trace.steps; requests = n })) requests
      ∙ ap (λ (n : ℕ). summary_text (record s { steps = r.cut.trace.steps; requests = length r.host.host.journal.flush.requests; acknowledged = n })) acknowledged
      ∙ ap (λ h. summary_text (record { steps = r.cut.trace.steps; requests = length r.host.host.journal.flush.requests; acknowledged = acknowledged_in (core (volume_script x)); held = h })) held.held;
}

-- ---- the promise

-- a place of the first n of a list that has n of these
first_there : (ps qs : List Put) (i : ℕ) → qs ≡ take (length qs) ps → i < length qs → (p : Put) × (slice_get ps i ≡ Some p)
first_there ps qs i is lt =
    elim (slice_get_cases ps i).1 [
      | inl there ↦ (there.0, there.2)
      | inr past ↦
          let few = ap length is in
          let most = length-take (length qs) ps in
          let le = past.0 in
          absurd (omega (arith, lt, few, most, le))
    ]

module _ (old new : Option (List ℕ)) (report : Option RunReport) (text bytes : List ℕ) (fault : Option TopFault) (written : IsWritten fault text bytes) (input : List ℕ) (drained : Drained old new input) (short : length input ≤ most_of commands.Kv) (is : IsStoreRun input report text) where
  abbrev x : StoreScript
  x = is.script

  well : IsWellFormed x
  well = IsWellFormed-store_of input x is.spelled

  abbrev tree : Tree
  tree = is.headline.prefix.tree

  -- it is the tree of which the text was made
  same_tree : is.tree ≡ tree
  same_tree = same_Ok is.tree tree (sym is.recovered ∙ is.headline.prefix.found)

  answered : NoneFull (core (volume_script x)) → (i : ℕ) → i < length (held_of x tree) → (p : Put) × (slice_get (puts_in x.ops) i ≡ Some p) × WasPut (core (volume_script x)) i p
  answered full i lt =
      let put = first_there (puts_in x.ops) (held_of x tree) i (held-first x well (core (volume_script x)) is.result is.headline full) lt in
      (put.0, put.1, held-answered x well (core (volume_script x)) is.result is.headline full i put.0 lt put.1)

  tells : TellsStore old new fault bytes
  tells = record {
    script = x;
    read = record { input = input; drained = drained; short = short; holds = is.spelled };
    summary = told x is.result tree;
    written = subst (λ l. IsWritten fault l bytes) (is.printed ∙ ap (λ (t : Tree). summary_text (told x is.result t)) same_tree) written;
    steps = is.core_is.report.trace.steps;
    requests = ap (λ h. length h.journal.flush.requests) is.core_is.report.host;
    acknowledged = refl;
    tree = tree;
    recovered = ap image_tree (sym is.core_is.report.image) ∙ is.headline.prefix.found;
    held = refl;
    acknowledged_held = λ full. acknowledged-few x well (core (volume_script x)) is.result is.headline full;
    held_first = λ full. held-first x well (core (volume_script x)) is.result is.headline full;
    held_answered = answered;
    nothing_later = λ full. nothing-later x well (core (volume_script x)) is.result is.headline full;
  }

-- the promise, where the words ask for the run of a store
pub kept : (asked : Option Task) (source : Stream) (report : Option RunReport) (text bytes : List ℕ) (fault : Option TopFault) → Does asked source report text
    → asked ≡ Some (tasks.Read commands.Kv) → IsWritten fault text bytes → TellsStore source.bytes source.bytes_after fault bytes
kept asked source report text bytes fault does e written =
    let read = subst (λ (t : Task). IsDone t source report text) (same_Some does.task (tasks.Read commands.Kv) (sym does.asks ∙ e)) does.done in
    tells source.bytes source.bytes_after report text bytes fault written read.input read.drained read.short read.holds
