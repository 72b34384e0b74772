-- The volume script that is made of a store's script.
use Rattle.std.specs.Prelude.{◌+◌, false, List, [], ◌∷◌, map, None}
use Rattle.tree_model.specs.declared.call.Call.{Call}
use Rattle.minix_layout.specs.declared.limits.TheConstants.{DEFAULT_WIDTH}
use Rattle.session_grammar.specs.declared.limits.TheConstants.{DEFAULT_LIMIT, DEFAULT_SEED}
use Rattle.session_grammar.specs.declared.session_script.SessionHeader.{SessionHeader}
use Rattle.session_grammar.specs.declared.session_script.SessionScript.{SessionScript}
use Rattle.wal_store.specs.calls.Calls.{calls_of}
use Rattle.wal_store.specs.calls.CallText.{call_line}
use Rattle.store_grammar.specs.declared.limits.TheConstants.{SPARE_ZONES, STORE_INODES, STORE_JOURNAL}
use Rattle.store_grammar.specs.declared.script.StoreHeader.{StoreHeader}
use Rattle.store_grammar.specs.declared.script.StoreScript.{StoreScript}

-- what the header lines say, with the defaults of a volume script beside it
abbrev pub session_header : StoreHeader → SessionHeader
session_header h = record { depth = h.depth; queue = h.queue; limit = DEFAULT_LIMIT; fail = h.fail; cut = h.cut; seed = DEFAULT_SEED; elevator = false; flash = None }

-- the calls that a store makes of what the script asks of it
abbrev pub script_calls : StoreScript → List Call
script_calls s = calls_of s.room s.ops

-- One thread with the store's calls, on a volume with room for the log.
abbrev pub volume_script : StoreScript → SessionScript
volume_script s = record {
  inodes = STORE_INODES;
  zones = s.room + SPARE_ZONES;
  journal = STORE_JOURNAL;
  width = DEFAULT_WIDTH;
  wide = false;
  header = session_header s.header;
  programs = script_calls s ∷ [];
  lines = map call_line (script_calls s);
  events = s.events;
  recovers = s.recovers;
}
