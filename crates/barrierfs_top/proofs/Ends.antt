-- How the top call ends.
use Rattle.std.proofs.Common.{◌≡◌, ℕ, ◌<◌, ◌≤◌, Bool, true, false, List, length, Option, Some, None, Ok, Err, nat_lt, codes, refl, sym, ap, ◌∙◌, subst, arith, inl, inr, length-append}
use Rattle.std.proofs.lemmas.Option.{none-some, same_Some}
use Rattle.std.proofs.lemmas.Bool.Decides.{nat_tests}
use Rattle.std.specs.Io.KnownBytes.{Consumes}
use Rattle.std.specs.Prelude.{Result, IfOk, IfErr}
use Rattle.blk_base.specs.Streams.{Rose, Drained}
use Rattle.blk_base.specs.Image.{whole_blocks, IsImageRead}
use Rattle.mount_make.specs.Images.{FaultPlace, tree_after}
use Rattle.volume_ops.specs.Volume.{VolumeState}
use Rattle.barrierfs_top.specs.Show.{text_after, shown, IsMountedFault}
use Rattle.barrierfs_top.specs.Widen.{IsWidened, IsWidenFault, fault_of, written_fault}
use Rattle.barrierfs_top.specs.Check.{IsChecked, IsCheckFault}
use Rattle.barrierfs_top.specs.Bulk.{IsWorkload}
use Rattle.barrierfs_top.specs.declared.fault.TopFault.{TopFault}
use Rattle.barrierfs_top.specs.declared.fault.TopFault.TheVariants as faults
use Rattle.barrierfs_top.specs.declared.top.Printed.{Printed}
use Rattle.barrierfs_top.specs.declared.command_line.InputTask.{InputTask}
use Rattle.barrierfs_top.specs.declared.command_line.InputTask.TheVariants as commands
use Rattle.barrierfs_top.specs.declared.run_report.RunReport.{RunReport}
use Rattle.barrierfs_top.specs.Sessions.{is_session}
use Rattle.barrierfs_top.specs.declared.command_line.Sizes.{Sizes}
use Rattle.barrierfs_top.specs.declared.command_line.Task.{Task}
use Rattle.barrierfs_top.specs.declared.command_line.Task.TheVariants as tasks
use Rattle.barrierfs_top.specs.Tasks.{most_of}
use Rattle.barrierfs_top.specs.Text.{output_bytes}
use Rattle.barrierfs_top.specs.Top.{Stream, WasRead, Makes, script_fault, image_fault, Ends, IsInputFault, IsUnread, IsMade, IsDone, Does, IsRefused, Cause, ExpectsAs, Expects, EndsAsExpected, EndsAs, IsReplayAs, fault_as}
use Rattle.barrierfs_top.proofs.OneEnd.{one_end}

-- ---- before the first write

-- what a command makes of the input that was read
pub does_if : (asked : Option Task) (source : Stream) (c : InputTask) (input : List ℕ) (r : Result Printed TopFault) → asked ≡ Some (tasks.Read c)
    → Drained source.bytes source.bytes_after input → length input ≤ most_of c → IfOk r (λ p. Makes c input p.report (output_bytes p.output))
    → IfOk r (λ p. Does asked source p.report (output_bytes p.output))
does_if asked source c input (Ok p) e drained short makes = record {
  task = tasks.Read c;
  asks = e;
  done = record { input = input; drained = drained; short = short; holds = makes };
}
does_if asked source c input (Err fault) e drained short makes = tt

refused : (asked : Option Task) (source : Stream) (c : InputTask) (input : List ℕ) (fault : TopFault) → asked ≡ Some (tasks.Read c)
    → Drained source.bytes source.bytes_after input → length input ≤ most_of c → Ends c input (Some fault) → IsRefused asked source fault
refused asked source c input fault e drained short is = record {
  command = c;
  asks = e;
  read = record { input = input; drained = drained; short = short; holds = is };
}

cause_of : (asked : Option Task) (source : Stream) (c : InputTask) (input : List ℕ) (fault : TopFault) → asked ≡ Some (tasks.Read c)
    → Drained source.bytes source.bytes_after input → length input ≤ most_of c → IsInputFault c input fault → Cause asked source fault
cause_of asked source c input (faults.Script line kind) e drained short is = refused asked source c input (faults.Script line kind) e drained short is
cause_of asked source c input (faults.Image kind block) e drained short is = refused asked source c input (faults.Image kind block) e drained short is
cause_of asked source c input faults.NoMemory e drained short is = tt
cause_of asked source c input faults.NoRoom e drained short is = refused asked source c input faults.NoRoom e drained short is
cause_of asked source c input (faults.Unsound verdict) e drained short is = refused asked source c input (faults.Unsound verdict) e drained short is
cause_of asked source c input faults.BadWords e drained short is = absurd is
cause_of asked source c input faults.SourceFault e drained short is = absurd is
cause_of asked source c input faults.SinkFault e drained short is = absurd is
cause_of asked source c input faults.TooLong e drained short is = absurd is

-- the fault of the input that was read
pub cause_if : (asked : Option Task) (source : Stream) (c : InputTask) (input : List ℕ) (r : Result Printed TopFault) → asked ≡ Some (tasks.Read c)
    → Drained source.bytes source.bytes_after input → length input ≤ most_of c → IfErr r (IsInputFault c input) → IfErr r (Cause asked source)
cause_if asked source c input (Ok p) e drained short is = tt
cause_if asked source c input (Err fault) e drained short is = cause_of asked source c input fault e drained short is

-- the blocks of an image are the whole ones of the bytes that were read
pub shows_if : (asked : Option Task) (source : Stream) (most : ℕ) (blocks : List (List ℕ)) (r : Result Printed TopFault) → asked ≡ Some (tasks.Read commands.Show)
    → IsImageRead most source.bytes source.bytes_after blocks → most ≡ most_of commands.Show → IfOk r (λ p. (shown blocks ≡ Ok (output_bytes p.output)) × (p.report ≡ None))
    → IfOk r (λ p. Does asked source p.report (output_bytes p.output))
shows_if asked source most blocks r e read is shows =
    does_if asked source commands.Show read.bytes r e read.drained (subst (λ (n : ℕ). length read.bytes ≤ n) is read.short)
    (subst (λ (bs : List (List ℕ)). IfOk r (λ p. (shown bs ≡ Ok (output_bytes p.output)) × (p.report ≡ None))) read.whole shows)

mounted_fault : (input : List ℕ) (fault : TopFault) → IsMountedFault (whole_blocks input) fault → IsInputFault commands.Show input fault
mounted_fault input (faults.Image kind block) is = ap (λ (m : Result VolumeState FaultPlace). image_fault (text_after (tree_after m))) is
mounted_fault input faults.NoMemory is = tt
mounted_fault input (faults.Script line kind) is = absurd is
mounted_fault input faults.BadWords is = absurd is
mounted_fault input faults.SourceFault is = absurd is
mounted_fault input faults.SinkFault is = absurd is
mounted_fault input faults.TooLong is = absurd is
mounted_fault input faults.NoRoom is = absurd is
mounted_fault input (faults.Unsound verdict) is = absurd is

shown_fault : (input : List ℕ) (r : Result Printed TopFault) → IfErr r (IsMountedFault (whole_blocks input)) → IfErr r (IsInputFault commands.Show input)
shown_fault input (Ok p) is = tt
shown_fault input (Err fault) is = mounted_fault input fault is

pub show_cause : (asked : Option Task) (source : Stream) (most : ℕ) (blocks : List (List ℕ)) (r : Result Printed TopFault) → asked ≡ Some (tasks.Read commands.Show)
    → IsImageRead most source.bytes source.bytes_after blocks → most ≡ most_of commands.Show → IfErr r (IsMountedFault blocks) → IfErr r (Cause asked source)
show_cause asked source most blocks r e read is faulty =
    cause_if asked source commands.Show read.bytes r e read.drained (subst (λ (n : ℕ). length read.bytes ≤ n) is read.short)
    (shown_fault read.bytes r (subst (λ (bs : List (List ℕ)). IfErr r (IsMountedFault bs)) read.whole faulty))

-- the same of an image that is widened
pub widens_if : (asked : Option Task) (source : Stream) (raw : Bool) (most : ℕ) (blocks : List (List ℕ)) (r : Result Printed TopFault) → asked ≡ Some (tasks.Read (commands.Widen raw))
    → IsImageRead most source.bytes source.bytes_after blocks → most ≡ most_of (commands.Widen raw) → IfOk r (λ p. IsWidened raw blocks (output_bytes p.output) × (p.report ≡ None))
    → IfOk r (λ p. Does asked source p.report (output_bytes p.output))
widens_if asked source raw most blocks r e read is widens =
    does_if asked source (commands.Widen raw) read.bytes r e read.drained (subst (λ (n : ℕ). length read.bytes ≤ n) is read.short)
    (subst (λ (bs : List (List ℕ)). IfOk r (λ p. IsWidened raw bs (output_bytes p.output) × (p.report ≡ None))) read.whole widens)

unwidened_fault : (raw : Bool) (input : List ℕ) (fault : TopFault) → IsWidenFault raw (whole_blocks input) fault → IsInputFault (commands.Widen raw) input fault
unwidened_fault raw input (faults.Image kind block) is = is
unwidened_fault raw input faults.NoRoom is = is
unwidened_fault raw input faults.NoMemory is = tt
unwidened_fault raw input (faults.Script line kind) is = absurd is
unwidened_fault raw input faults.BadWords is = absurd is
unwidened_fault raw input faults.SourceFault is = absurd is
unwidened_fault raw input faults.SinkFault is = absurd is
unwidened_fault raw input faults.TooLong is = absurd is
unwidened_fault raw input (faults.Unsound verdict) is = absurd is

widened_fault : (raw : Bool) (input : List ℕ) (r : Result Printed TopFault) → IfErr r (IsWidenFault raw (whole_blocks input)) → IfErr r (IsInputFault (commands.Widen raw) input)
widened_fault raw input (Ok p) is = tt
widened_fault raw input (Err fault) is = unwidened_fault raw input fault is

pub widen_cause : (asked : Option Task) (source : Stream) (raw : Bool) (most : ℕ) (blocks : List (List ℕ)) (r : Result Printed TopFault) → asked ≡ Some (tasks.Read (commands.Widen raw))
    → IsImageRead most source.bytes source.bytes_after blocks → most ≡ most_of (commands.Widen raw) → IfErr r (IsWidenFault raw blocks) → IfErr r (Cause asked source)
widen_cause asked source raw most blocks r e read is faulty =
    cause_if asked source (commands.Widen raw) read.bytes r e read.drained (subst (λ (n : ℕ). length read.bytes ≤ n) is read.short)
    (widened_fault raw read.bytes r (subst (λ (bs : List (List ℕ)). IfErr r (IsWidenFault raw bs)) read.whole faulty))

-- an image that is checked
pub checks_if : (asked : Option Task) (source : Stream) (most : ℕ) (blocks : List (List ℕ)) (r : Result Printed TopFault) → asked ≡ Some (tasks.Read commands.Check)
    → IsImageRead most source.bytes source.bytes_after blocks → most ≡ most_of commands.Check
    → IfOk r (λ p. IsChecked blocks None × (output_bytes p.output ≡ codes "clean\n") × (p.report ≡ None)) → IfOk r (λ p. Does asked source p.report (output_bytes p.output))
checks_if asked source most blocks r e read is checks =
    does_if asked source commands.Check read.bytes r e read.drained (subst (λ (n : ℕ). length read.bytes ≤ n) is read.short)
    (subst (λ (bs : List (List ℕ)). IfOk r (λ p. IsChecked bs None × (output_bytes p.output ≡ codes "clean\n") × (p.report ≡ None))) read.whole checks)

unchecked_fault : (input : List ℕ) (fault : TopFault) → IsCheckFault (whole_blocks input) fault → IsInputFault commands.Check input fault
unchecked_fault input (faults.Image kind block) is = is
unchecked_fault input (faults.Unsound verdict) is = is
unchecked_fault input faults.NoMemory is = tt
unchecked_fault input (faults.Script line kind) is = absurd is
unchecked_fault input faults.BadWords is = absurd is
unchecked_fault input faults.SourceFault is = absurd is
unchecked_fault input faults.SinkFault is = absurd is
unchecked_fault input faults.TooLong is = absurd is
unchecked_fault input faults.NoRoom is = absurd is

checked_fault : (input : List ℕ) (r : Result Printed TopFault) → IfErr r (IsCheckFault (whole_blocks input)) → IfErr r (IsInputFault commands.Check input)
checked_fault input (Ok p) is = tt
checked_fault input (Err fault) is = unchecked_fault input fault is

pub check_cause : (asked : Option Task) (source : Stream) (most : ℕ) (blocks : List (List ℕ)) (r : Result Printed TopFault) → asked ≡ Some (tasks.Read commands.Check)
    → IsImageRead most source.bytes source.bytes_after blocks → most ≡ most_of commands.Check → IfErr r (IsCheckFault blocks) → IfErr r (Cause asked source)
check_cause asked source most blocks r e read is faulty =
    cause_if asked source commands.Check read.bytes r e read.drained (subst (λ (n : ℕ). length read.bytes ≤ n) is read.short)
    (checked_fault read.bytes r (subst (λ (bs : List (List ℕ)). IfErr r (IsCheckFault bs)) read.whole faulty))

-- a workload that was run
pub ran_if : (asked : Option Task) (source : Stream) (n : ℕ) (r : Result Printed TopFault) → asked ≡ Some (tasks.Bulk n) → IsUnread source
    → IfOk r (λ p. IsWorkload n p.report (output_bytes p.output)) → IfOk r (λ p. Does asked source p.report (output_bytes p.output))
ran_if asked source n (Ok p) e unread ran = record { task = tasks.Bulk n; asks = e; done = (unread, ran) }
ran_if asked source n (Err fault) e unread ran = tt

-- an image that was made
pub made_if : (asked : Option Task) (source : Stream) (s : Sizes) (r : Result Printed TopFault) → asked ≡ Some (tasks.Make s) → IsUnread source
    → IfOk r (λ p. IsMade s p.report (output_bytes p.output)) → IfOk r (λ p. Does asked source p.report (output_bytes p.output))
made_if asked source s (Ok p) e unread made = record { task = tasks.Make s; asks = e; done = (unread, made) }
made_if asked source s (Err fault) e unread made = tt

-- what reads nothing ends early by want of memory alone
pub memory_cause : (asked : Option Task) (source : Stream) (r : Result Printed TopFault) → IfErr r (λ fault. fault ≡ faults.NoMemory) → IfErr r (Cause asked source)
memory_cause asked source (Ok p) memory = tt
memory_cause asked source (Err fault) memory = subst (Cause asked source) (sym memory) tt

-- ---- where the input is told and no stream fails

all_read : (old new : Option (List ℕ)) (text told : List ℕ) → old ≡ Some told → Drained old new text → text ≡ told
all_read None new text told e d = let P : ⊥ = cc in absurd P
all_read (Some left) None text told e d = absurd d
all_read (Some left) (Some rest) text told e d = let s : left ≡ told = cc in d.0 ∙ s

front_read : (old new : Option (List ℕ)) (text told : List ℕ) → old ≡ Some told → Consumes old new text → length text ≤ length told
front_read None new text told e d = let P : ⊥ = cc in absurd P
front_read (Some left) None text told e d = absurd d
front_read (Some left) (Some rest) text told e d =
    let s : left ≡ told = cc in
    let n = length-append text rest in
    let m = ap length (sym s ∙ d) in
    omega arith

pub one_command : (asked : Option Task) (c d : InputTask) → asked ≡ Some (tasks.Read c) → asked ≡ Some (tasks.Read d) → c ≡ d
one_command asked c d this that = let e : tasks.Read c ≡ tasks.Read d = same_Some (tasks.Read c) (tasks.Read d) (sym this ∙ that) in cc

no_command : (asked : Option Task) (c : InputTask) → asked ≡ None → asked ≡ Some (tasks.Read c) → ⊥
no_command asked c none some = none-some (tasks.Read c) (sym none ∙ some)

short_input : (c : InputTask) (text : List ℕ) (end : Option TopFault) → length text ≤ most_of c → Ends c text end → Expects c text end
short_input c text end le ends =
    let e : nat_lt (most_of c) (length text) ≡ false = grind (arith, nat_tests) in
    subst (λ (long : Bool). ExpectsAs long c text end) (sym e) ends

long_input : (c : InputTask) (text : List ℕ) → most_of c < length text → Expects c text (Some faults.TooLong)
long_input c text lt =
    let e : nat_lt (most_of c) (length text) ≡ true = grind (arith, nat_tests) in
    subst (λ (long : Bool). ExpectsAs long c text (Some faults.TooLong)) (sym e) refl

-- an input that was read to its end is the one that was told, and ends as what holds of it says
ends_as : (c : InputTask) (old new : Option (List ℕ)) (Holds : List ℕ → Type 0) (text : List ℕ) (end : Option TopFault) → WasRead c old new Holds → old ≡ Some text
    → ((input : List ℕ) → Holds input → Ends c input end) → EndsAsExpected c text end
ends_as c old new Holds text end read told says =
    let same = all_read old new read.input text told read.drained in
    let short = subst (λ (l : List ℕ). length l ≤ most_of c) same read.short in
    inl (short_input c text end short (says text (subst Holds same read.holds)))

replay_fits : (session : Bool) (input : List ℕ) (report : Option RunReport) (text : List ℕ) → IsReplayAs session input report text → fault_as session input ≡ None
replay_fits true input report text is = ap script_fault is.ran.spelled
replay_fits false input report text is = ap script_fault is.spelled

-- where a command makes something of its input, that has no fault
no_fault : (c : InputTask) (input : List ℕ) (report : Option RunReport) (text : List ℕ) → Makes c input report text → Ends c input None
no_fault (commands.Replay true) input report text makes = ap script_fault makes.ran.spelled
no_fault (commands.Replay false) input report text makes = replay_fits (is_session input) input report text makes
no_fault (commands.Run true) input report text makes = ap script_fault makes.ran.spelled
no_fault (commands.Run false) input report text makes = ap script_fault makes.ran.spelled
no_fault commands.Show input report text makes = ap image_fault makes.0
no_fault (commands.Widen raw) input report text makes = ap (fault_of raw) makes.0.widened ∙ ap written_fault makes.0.written
no_fault commands.Check input report text makes = makes.0
no_fault commands.Kv input report text makes = ap script_fault makes.spelled

-- a command ends well
pub ends_well : (asked : Option Task) (source : Stream) (report : Option RunReport) (out : List ℕ) → Does asked source report out
    → (c : InputTask) → asked ≡ Some (tasks.Read c) → (text : List ℕ) → source.bytes ≡ Some text → EndsAsExpected c text None
ends_well asked source report out does c e text told =
    let read = subst (λ (t : Task). IsDone t source report out) (same_Some does.task (tasks.Read c) (sym does.asks ∙ e)) does.done in
    ends_as c source.bytes source.bytes_after (λ input. Makes c input report out) text None read told (λ input makes. no_fault c input report out makes)

ends_refused : (asked : Option Task) (source : Stream) (fault : TopFault) → IsRefused asked source fault → (c : InputTask) → asked ≡ Some (tasks.Read c)
    → (text : List ℕ) → source.bytes ≡ Some text → EndsAsExpected c text (Some fault)
ends_refused asked source fault is c e text told =
    subst (λ (d : InputTask). EndsAsExpected d text (Some fault)) (one_command asked is.command c is.asks e)
    (ends_as is.command source.bytes source.bytes_after (λ input. Ends is.command input (Some fault)) text (Some fault) is.read told (λ input e. e))

-- what ends before the first write ends as the input says
pub ends_early : (asked : Option Task) (source : Stream) (fault : TopFault) → Cause asked source fault → (c : InputTask) → asked ≡ Some (tasks.Read c)
    → (text : List ℕ) → source.bytes ≡ Some text → (Rose source.faults source.faults_after → ⊥) → EndsAsExpected c text (Some fault)
ends_early asked source faults.BadWords cause c e text told calm = absurd (no_command asked c cause e)
ends_early asked source (faults.Script line kind) cause c e text told calm = ends_refused asked source (faults.Script line kind) cause c e text told
ends_early asked source (faults.Image kind block) cause c e text told calm = ends_refused asked source (faults.Image kind block) cause c e text told
ends_early asked source faults.SourceFault (d, this, rose) c e text told calm = absurd (calm rose)
ends_early asked source faults.SinkFault cause c e text told calm = absurd cause
ends_early asked source faults.TooLong (d, this, long) c e text told calm =
    let most = front_read source.bytes source.bytes_after long.input text told long.read in
    let past : most_of d < length text = let l = long.long in omega arith in
    inl (subst (λ (e : InputTask). Expects e text (Some faults.TooLong)) (one_command asked d c this e) (long_input d text past))
ends_early asked source faults.NoMemory cause c e text told calm = inr refl
ends_early asked source faults.NoRoom cause c e text told calm = ends_refused asked source faults.NoRoom cause c e text told
ends_early asked source (faults.Unsound verdict) cause c e text told calm = ends_refused asked source (faults.Unsound verdict) cause c e text told

-- an end that the input asks for, where that is a fault
pub ends_with : (c : InputTask) (text : List ℕ) (fault : TopFault) (end : Option TopFault) → Expects c text (Some fault) → EndsAsExpected c text end → EndsAs (Some fault) end
ends_with c text fault end is (inl ends) = inl (one_end c text end (Some fault) ends is)
ends_with c text fault end is (inr memory) = inr memory

-- no command ends well where its input has a fault
pub not_well : (c : InputTask) (text : List ℕ) (fault : TopFault) → Expects c text (Some fault) → EndsAsExpected c text None → ⊥
not_well c text fault is (inl well) = none-some fault (one_end c text None (Some fault) well is)
not_well c text fault is (inr memory) = none-some faults.NoMemory memory
