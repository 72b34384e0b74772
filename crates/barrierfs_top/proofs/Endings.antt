-- How the top call ends, with all that it says of that.
use Rattle.std.specs.Prelude.{IfSome}
use Rattle.std.proofs.Common.{◌≡◌, ℕ, Bool, List, is_some, Option, Some, None, refl, sym, ap, ◌∙◌, subst, inl, inr}
use Rattle.std.proofs.lemmas.Option.{none-some, same_Some}
use Rattle.std.specs.Io.KnownBytes.{Keeps}
use Rattle.blk_base.specs.Streams.{Rose}
use Rattle.barrierfs_top.specs.declared.command_line.InputTask.{InputTask}
use Rattle.barrierfs_top.specs.declared.command_line.InputTask.TheVariants as commands
use Rattle.barrierfs_top.specs.declared.command_line.Sizes.{Sizes}
use Rattle.barrierfs_top.specs.declared.command_line.Task.{Task}
use Rattle.barrierfs_top.specs.declared.command_line.Task.TheVariants as tasks
use Rattle.barrierfs_top.specs.declared.fault.TopFault.{TopFault}
use Rattle.barrierfs_top.specs.declared.fault.TopFault.TheVariants as faults
use Rattle.barrierfs_top.specs.declared.program.Ended.{Ended}
use Rattle.barrierfs_top.specs.declared.run_report.RunReport.{RunReport}
use Rattle.barrierfs_top.specs.declared.top.Outcome.{Outcome}
use Rattle.barrierfs_top.specs.Promise.{WentOut, IsWritten}
use Rattle.barrierfs_top.specs.Tasks.{run_in, run_of}
use Rattle.barrierfs_top.specs.Top.{Stream, IsUnread, IsDone, Does, Cause, Did, WasWritten, EndsAs, EndsAsExpected}
use Rattle.barrierfs_top.specs.TopEnd.{EndsFor, EndsSome}
use Rattle.barrierfs_top.proofs.Ends.{ends_well, ends_early, ends_with, not_well}
use Rattle.barrierfs_top.proofs.Promised.{none_out, went_out, front_out, promised, threads_promised}
use Rattle.barrierfs_top.proofs.StoreRuns.{kept}

-- what is known of an end for which nothing was written
pub record EndsEarly (asked : Option Task) (source : Stream) (fault : TopFault) : Type 0 where
  pub cause : Cause asked source fault
  pub words : asked ≡ None → EndsAs (Some faults.BadWords) (Some fault)
  pub made : (s : Sizes) → asked ≡ Some (tasks.Make s) → fault ≡ faults.NoMemory
  pub generated : (n : ℕ) → asked ≡ Some (tasks.Bulk n) → fault ≡ faults.NoMemory
  pub unread : ((c : InputTask) → asked ≡ Some (tasks.Read c) → ⊥) → IsUnread source
  pub steady : (fault ≡ faults.SourceFault → ⊥) → source.faults_after ≡ source.faults

module _ (asked : Option Task) (source sink : Stream) where
  -- ---- once all was prepared

  module _ (report : Option RunReport) (text : List ℕ) (does : Does asked source report text) where
    never_none : asked ≡ None → ⊥
    never_none none = none-some does.task (sym none ∙ does.asks)

    -- a task that reads no input left it alone
    not_read : (t : Task) → asked ≡ Some t → IsDone t source report text → ((c : InputTask) → asked ≡ Some (tasks.Read c) → ⊥) → IsUnread source
    not_read (tasks.Read c) asks done none = absurd (none c asks)
    not_read (tasks.Make s) asks done none = done.0
    not_read (tasks.Bulk n) asks done none = done.0

    -- what went out, where this was written
    out_of : (fault : Option TopFault) (bytes : List ℕ) → WasWritten text sink fault → WentOut sink.bytes sink.bytes_after bytes → IsWritten fault text bytes
    out_of None bytes written out = went_out sink.bytes sink.bytes_after bytes text out written
    out_of (Some faults.SinkFault) bytes written out = front_out sink.bytes sink.bytes_after bytes text faults.SinkFault out written.0
    out_of (Some faults.BadWords) bytes written out = absurd written
    out_of (Some (faults.Script line kind)) bytes written out = absurd written
    out_of (Some (faults.Image kind block)) bytes written out = absurd written
    out_of (Some faults.SourceFault) bytes written out = absurd written
    out_of (Some faults.TooLong) bytes written out = absurd written
    out_of (Some faults.NoMemory) bytes written out = absurd written
    out_of (Some faults.NoRoom) bytes written out = absurd written
    out_of (Some (faults.Unsound verdict)) bytes written out = absurd written

    did_write : (fault : Option TopFault) → WasWritten text sink fault → Did asked source sink report fault
    did_write None written = (text, does, written)
    did_write (Some faults.SinkFault) written = (text, does, written.0, written.1)
    did_write (Some faults.BadWords) written = absurd written
    did_write (Some (faults.Script line kind)) written = absurd written
    did_write (Some (faults.Image kind block)) written = absurd written
    did_write (Some faults.SourceFault) written = absurd written
    did_write (Some faults.TooLong) written = absurd written
    did_write (Some faults.NoMemory) written = absurd written
    did_write (Some faults.NoRoom) written = absurd written
    did_write (Some (faults.Unsound verdict)) written = absurd written

    -- it ends without a fault, where the sink does not fail
    no_fault : (fault : Option TopFault) → WasWritten text sink fault → (Rose sink.faults sink.faults_after → ⊥) → fault ≡ None
    no_fault None written quiet = refl
    no_fault (Some faults.SinkFault) written quiet = absurd (quiet written.1)
    no_fault (Some faults.BadWords) written quiet = absurd written
    no_fault (Some (faults.Script line kind)) written quiet = absurd written
    no_fault (Some (faults.Image kind block)) written quiet = absurd written
    no_fault (Some faults.SourceFault) written quiet = absurd written
    no_fault (Some faults.TooLong) written quiet = absurd written
    no_fault (Some faults.NoMemory) written quiet = absurd written
    no_fault (Some faults.NoRoom) written quiet = absurd written
    no_fault (Some (faults.Unsound verdict)) written quiet = absurd written

    pub ends_written : (fault : Option TopFault) → WasWritten text sink fault → source.faults_after ≡ source.faults → ((fault ≡ Some faults.SinkFault → ⊥) → sink.faults_after ≡ sink.faults) → EndsFor asked source sink report fault
    ends_written fault written calm steady = record {
      promise = λ bytes asks out. promised asked source report text bytes fault does asks (out_of fault bytes written out);
      threads = λ bytes asks out. threads_promised asked source report text bytes fault does asks (out_of fault bytes written out);
      kept_puts = λ bytes asks out. kept asked source report text bytes fault does asks (out_of fault bytes written out);
      did = did_write fault written;
      words = λ none. absurd (never_none none);
      unread = not_read does.task does.asks does.done;
      complete = λ c asks input told still quiet. subst (λ f. EndsAsExpected c input f) (sym (no_fault fault written quiet)) (ends_well asked source report text does c asks input told);
      refused = λ c asks input told still wanted is. absurd (not_well c input wanted is (ends_well asked source report text does c asks input told));
      made = λ s asks quiet. inl (no_fault fault written quiet);
      generated = λ n asks quiet. inl (no_fault fault written quiet);
      source_steady = λ other. calm;
      sink_steady = steady;
    }

  -- ---- before the first write

  same_keeps : (taken : Option (List ℕ)) → Keeps taken taken
  same_keeps None = tt
  same_keeps (Some bytes) = refl

  did_refuse : (fault : TopFault) → Cause asked source fault → Keeps sink.bytes sink.bytes_after → Did asked source sink None (Some fault)
  did_refuse faults.BadWords cause keeps = (cause, refl, keeps)
  did_refuse (faults.Script line kind) cause keeps = (cause, refl, keeps)
  did_refuse (faults.Image kind block) cause keeps = (cause, refl, keeps)
  did_refuse faults.SourceFault cause keeps = (cause, refl, keeps)
  did_refuse faults.SinkFault cause keeps = absurd cause
  did_refuse faults.TooLong cause keeps = (cause, refl, keeps)
  did_refuse faults.NoMemory cause keeps = (cause, refl, keeps)
  did_refuse faults.NoRoom cause keeps = (cause, refl, keeps)
  did_refuse (faults.Unsound verdict) cause keeps = (cause, refl, keeps)

  nothing_out : sink.bytes_after ≡ sink.bytes → (bytes : List ℕ) → WentOut sink.bytes sink.bytes_after bytes → ⊥
  nothing_out stay bytes out = none_out sink.bytes bytes (subst (λ (b : Option (List ℕ)). WentOut sink.bytes b bytes) stay out)

  pub ends_refused : (fault : TopFault) → EndsEarly asked source fault → sink.bytes_after ≡ sink.bytes → sink.faults_after ≡ sink.faults → EndsFor asked source sink None (Some fault)
  ends_refused fault is bytes_stay faults_stay =
      record {
        promise = λ bytes asks out. absurd (nothing_out bytes_stay bytes out);
        threads = λ bytes asks out. absurd (nothing_out bytes_stay bytes out);
        kept_puts = λ bytes asks out. absurd (nothing_out bytes_stay bytes out);
        did = did_refuse fault is.cause (subst (λ (b : Option (List ℕ)). Keeps sink.bytes b) (sym bytes_stay) (same_keeps sink.bytes));
        words = is.words;
        unread = is.unread;
        complete = λ c asks input told still quiet. ends_early asked source fault is.cause c asks input told still;
        refused = λ c asks input told still wanted expects. ends_with c input wanted (Some fault) expects (ends_early asked source fault is.cause c asks input told still);
        made = λ s asks quiet. inr (ap Some (is.made s asks));
        generated = λ n asks quiet. inr (ap Some (is.generated n asks));
        source_steady = λ other. is.steady (λ e. other (ap Some e));
        sink_steady = λ other. faults_stay;
      }

  -- the same of an outcome that has this fault and no report
  pub refused_as : (fault : TopFault) (report : Option RunReport) (told : Option TopFault) → report ≡ None → told ≡ Some fault → EndsFor asked source sink None (Some fault) → EndsFor asked source sink report told
  refused_as fault report told none some ends = subst (λ (o : Option RunReport). EndsFor asked source sink o told) (sym none) (subst (λ (f : Option TopFault). EndsFor asked source sink None f) (sym some) ends)

-- what is told of an outcome whose report was let go
pub ends_some : (asked : Option Task) (source sink : Stream) (outcome : Outcome) (told : Ended) → told.fault ≡ outcome.fault → told.reported ≡ is_some outcome.report → EndsFor asked source sink outcome.report outcome.fault
    → EndsSome asked source sink told.reported told.fault
ends_some asked source sink outcome told same reported ends = record {
  report = outcome.report;
  ends = subst (λ (f : Option TopFault). EndsFor asked source sink outcome.report f) (sym same) ends;
  told = reported;
}

-- no memory for the words themselves: nothing was read and nothing written
pub ends_unasked : (asked : Option Task) (source sink : Stream) (report : Option RunReport) (fault : Option TopFault) → report ≡ None → fault ≡ Some faults.NoMemory → IsUnread source
    → sink.bytes_after ≡ sink.bytes → sink.faults_after ≡ sink.faults → EndsFor asked source sink report fault
ends_unasked asked source sink report fault none some unread bytes_stay faults_stay =
    refused_as asked source sink faults.NoMemory report fault none some
    (ends_refused asked source sink faults.NoMemory (record {
      cause = tt;
      words = λ empty. inr refl;
      made = λ s asks. refl;
      generated = λ n asks. refl;
      unread = λ other. unread;
      steady = λ other. unread.1;
    }) bytes_stay faults_stay)

-- ---- what is asked of `alone`

-- what needs no threads
pub lone_task : (o : Option Task) → run_in o ≡ None → IfSome o (λ t. run_of t ≡ None)
lone_task None e = tt
lone_task (Some t) e = e

-- a run in threads
pub asks_run : (o : Option Task) (raw : Bool) → run_in o ≡ Some raw → o ≡ Some (tasks.Read (commands.Run raw))
asks_run None raw e = absurd (none-some raw e)
asks_run (Some (tasks.Make s)) raw e = absurd (none-some raw e)
asks_run (Some (tasks.Bulk n)) raw e = absurd (none-some raw e)
asks_run (Some (tasks.Read (commands.Replay b))) raw e = absurd (none-some raw e)
asks_run (Some (tasks.Read (commands.Run b))) raw e = ap (λ (x : Bool). Some (tasks.Read (commands.Run x))) (same_Some b raw e)
asks_run (Some (tasks.Read commands.Show)) raw e = absurd (none-some raw e)
asks_run (Some (tasks.Read (commands.Widen b))) raw e = absurd (none-some raw e)
asks_run (Some (tasks.Read commands.Check)) raw e = absurd (none-some raw e)
asks_run (Some (tasks.Read commands.Kv)) raw e = absurd (none-some raw e)

-- nothing else is asked where a command is read
pub run_early : (raw : Bool) (source : Stream) (fault : TopFault) → Cause (Some (tasks.Read (commands.Run raw))) source fault → ((fault ≡ faults.SourceFault → ⊥) → source.faults_after ≡ source.faults)
    → EndsEarly (Some (tasks.Read (commands.Run raw))) source fault
run_early raw source fault cause steady = record {
  cause = cause;
  words = λ none. absurd (none-some (tasks.Read (commands.Run raw)) (sym none));
  made = λ s asks. absurd (cc);
  generated = λ n asks. absurd (cc);
  unread = λ none. absurd (none (commands.Run raw) refl);
  steady = steady;
}
