-- Kinds of calls: read, list and stat; the calls that may change the tree; and the barrier and sync calls.
use Rattle.std.specs.Prelude.{Bool, true, false}
use Rattle.flush_actor.specs.declared.call_kind.CallKind.TheVariants.{Reading, Changing, DataBarrier, FileSync, DataSync, WholeSync}
use Rattle.flush_actor.specs.declared.call_kind.CallKind.{CallKind}

-- barrier and sync calls begin and end; all others are answered in one step
abbrev pub is_begun : CallKind → Bool
is_begun Reading = false
is_begun Changing = false
is_begun other = true

abbrev pub is_data : CallKind → Bool
is_data DataBarrier = true
is_data DataSync = true
is_data other = false

-- those that wait for the device
abbrev pub is_durable : CallKind → Bool
is_durable FileSync = true
is_durable DataSync = true
is_durable WholeSync = true
is_durable other = false

-- those that a failed completion does not end
abbrev pub is_reading : CallKind → Bool
is_reading Reading = true
is_reading other = false

abbrev pub is_whole : CallKind → Bool
is_whole WholeSync = true
is_whole other = false

-- those that need the commit block of a transaction durable
abbrev pub makes_durable : CallKind → Bool
makes_durable FileSync = true
makes_durable WholeSync = true
makes_durable other = false
