-- A host, and what it is over, with each call seen as another thing: as calls of code, without the proof that they carry.
use Rattle.std.specs.Prelude.{map}
use Rattle.host_machine.specs.Host.{Stepped, Turned}
use Rattle.host_machine.specs.Model.{Model}
use Rattle.host_machine.specs.State.{Entry, Thread, Host}
use Rattle.host_machine.specs.laws.Contract.{Over}

module _ {C D : Type 0} (f : C → D) where
  abbrev pub entry_as : {R : Type 0} → Entry C R → Entry D R
  entry_as e = record { thread = e.thread; call = f e.call; what = e.what }

  abbrev pub thread_as : Thread C → Thread D
  thread_as th = record { calls = map f th.calls; begun = th.begun }

  -- the calls in its history and of its threads are seen so, and all else is as it was
  abbrev pub host_as : {V R : Type 0} → Host V C R → Host V D R
  host_as s = record {
    journal = s.journal;
    volume = s.volume;
    pages = s.pages;
    owners = s.owners;
    history = map entry_as s.history;
    cuts = s.cuts;
    threads = map thread_as s.threads;
  }

  abbrev pub stepped_as : {V R : Type 0} → Stepped V C R → Stepped V D R
  stepped_as x = record { host = host_as x.host; step = x.step }

  abbrev pub turned_as : {V R : Type 0} → Turned V C R → Turned V D R
  turned_as x = record { host = host_as x.host; turn = x.turn }

  -- the model that asks and does with a call what this one does with the other thing
  abbrev pub model_as : {T V R : Type 0} → Model T V D R → Model T V C R
  model_as m = record {
    kind = λ c. m.kind (f c);
    ok = m.ok;
    root = m.root;
    call = λ t n c. m.call t n (f c);
    maps = m.maps;
    content = m.content;
    writes = λ t c. m.writes t (f c);
    alters = λ t n c. m.alters t n (f c);
    reply = λ v c. m.reply v (f c);
    hinders = λ v c. m.hinders v (f c);
    needs = λ v c. m.needs v (f c);
    apply = λ v n k c. m.apply v n k (f c);
    node = λ v c. m.node v (f c);
    zones = m.zones;
    release = m.release;
    bytes = m.bytes;
    metadata = m.metadata;
    zone = m.zone;
  }

  -- the same with that model, and all else as it was
  abbrev pub over_as : {A T V R : Type 0} → Over A T V D R → Over A T V C R
  over_as o = record { model = model_as o.model; setup = o.setup; program = o.program; place = o.place; base = o.base; format = o.format; reserved = o.reserved; freeable = o.freeable }
