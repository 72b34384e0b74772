-- A small volume that keeps what the host is promised: one file of at most one block, and one block of metadata that says
-- whether the file has it.
use Rattle.std.specs.Prelude.{◌≡◌, ℕ, ◌==◌, ◌&&◌, Bool, true, false, List, [], ◌∷◌, Option, Some, None, if◌then◌else◌}
use Rattle.log_model.specs.Log.{Plain}
use Rattle.volume_ops.specs.Reads.{Ret, Read}
use Rattle.host_machine.specs.Host.{advance, opened}
use Rattle.host_machine.specs.Model.{Model, FileBlock, Touched, Freed, Applied}
use Rattle.journal_ring.specs.LogRing.{LogRing}
use Rattle.host_machine.specs.State.{Host}
use Rattle.flush_actor.specs.declared.call_kind.CallKind.{CallKind}
use Rattle.flush_actor.specs.declared.call_kind.CallKind.TheVariants.{Reading, Changing, FileBarrier}
use Rattle.host_machine.specs.laws.Contract.{Over}

pub data Call : Type 0 where
  WriteIt : Call
  RemoveIt : Call
  Look : Call
  Barrier : Call

-- the file's block, where it has one
abbrev pub Tree : Type 0
Tree = Option (List ℕ)

-- with the transaction that the zone waits for
pub record Volume : Type 0 where
  pub tree : Tree
  pub waits : Option ℕ

abbrev pub is_it : ℕ → ℕ → Bool
is_it f i = f == 1 && i == 0

abbrev pub has_block : Tree → Bool
has_block None = false
has_block (Some x) = true

abbrev pub body : Tree → List ℕ
body None = []
body (Some x) = x

abbrev pub the_page : FileBlock
the_page = record { birth = 1; index = 0; block = 7 }

abbrev pub waiting_of : Option ℕ → List Freed
waiting_of None = []
waiting_of (Some k) = record { zone = 7; transaction = k } ∷ []

abbrev pub free_of : Tree → Option ℕ → List ℕ
free_of None None = 7 ∷ []
free_of t w = []

abbrev pub acts : Tree → ℕ → Call → Tree
acts t n WriteIt = Some (n ∷ [])
acts t n RemoveIt = None
acts t n Look = t
acts t n Barrier = t

abbrev pub kind_of : Call → CallKind
kind_of WriteIt = Changing
kind_of RemoveIt = Changing
kind_of Look = Reading
kind_of Barrier = FileBarrier

abbrev pub alters : Call → ℕ → Bool
alters WriteIt f = f == 1
alters RemoveIt f = f == 1
alters Look f = false
alters Barrier f = false

abbrev pub writes : Call → ℕ → ℕ → Bool
writes WriteIt f i = is_it f i
writes other f i = false

abbrev pub needs : Call → Tree → ℕ
needs WriteIt None = 1
needs other t = 0

abbrev pub nothing : Touched
nothing = record { blocks = []; freed = []; revoked = []; pages = []; dropped = []; nodes = [] }

abbrev pub removed : Volume → ℕ → Tree → Applied Volume ℕ
removed v r None = record { volume = v; reply = 0; touched = record { blocks = 1 ∷ []; freed = []; revoked = []; pages = []; dropped = []; nodes = 1 ∷ [] } }
removed v r (Some x) = record { volume = record { tree = None; waits = Some r }; reply = 0; touched = record { blocks = 1 ∷ []; freed = 7 ∷ []; revoked = []; pages = []; dropped = the_page ∷ []; nodes = 1 ∷ [] } }

abbrev pub applied : Volume → ℕ → ℕ → Call → Applied Volume ℕ
applied v n r WriteIt = record { volume = record { tree = Some (n ∷ []); waits = v.waits }; reply = 0; touched = record { blocks = 1 ∷ []; freed = []; revoked = []; pages = the_page ∷ []; dropped = []; nodes = 1 ∷ [] } }
applied v n r RemoveIt = removed v r v.tree
applied v n r Look = record { volume = v; reply = 0; touched = nothing }
applied v n r Barrier = record { volume = v; reply = 0; touched = nothing }

abbrev pub released : Option ℕ → ℕ → Option ℕ
released None k = None
released (Some j) k = if j == k then None else Some j

abbrev pub bytes_of : Tree → ℕ → List ℕ
bytes_of t b = if b == 1 then (if has_block t then 1 else 0) ∷ [] else if b == 7 then body t else []

abbrev pub zone_of : Tree → ℕ → ℕ → Option ℕ
zone_of t f i = if is_it f i && has_block t then Some 7 else None

abbrev pub model : Model Tree Volume Call ℕ
model = record {
  kind = kind_of;
  ok = 0;
  root = None;
  call = acts;
  maps = λ t f i. is_it f i && has_block t;
  content = λ t f i. body t;
  writes = λ t c f i. writes c f i;
  alters = λ t n c f. alters c f;
  reply = λ v c. None;
  hinders = λ v c. is_changing c;
  needs = λ v c. needs c v.tree;
  apply = applied;
  node = λ v c. 1;
  zones = λ v. record { free = free_of v.tree v.waits; waiting = waiting_of v.waits };
  release = λ v k. record { tree = v.tree; waits = released v.waits k };
  bytes = λ v b. bytes_of v.tree b;
  metadata = λ v b. b == 1;
  zone = λ v f i. zone_of v.tree f i;
}
  where
    is_changing : Call → Bool
    is_changing WriteIt = true
    is_changing RemoveIt = true
    is_changing other = false

abbrev pub over : Over (List ℕ) Tree Volume Call ℕ
over = record {
  model = model;
  setup = record {
    journal = 8;
    sequence = 1;
    writers = record { most_tags = 122; most_revokes = 252; super = λ seq start. []; revoke = λ seq blocks. []; descriptor = λ seq tags. []; commit = λ seq. []; stored = λ b. b; is_escaped = λ b. false };
    zmap = 1;
    quota = 31;
  };
  program = Read 1 (λ b. Ret b);
  place = λ a t f i. 7;
  base = [] ∷ (0 ∷ []) ∷ [];
  format = record { header = λ b. Plain; restore = λ tag b. b; tail = λ b. record { sequence = 0; start = 0 } };
  reserved = 1 ∷ [];
  freeable = [];
}

-- the tree is the volume's, and the zone of the file's block does not wait
pub record Stands (v : Volume) (t : Tree) : Type 0 where
  pub same : v.tree ≡ t
  pub free : (x : List ℕ) → v.tree ≡ Some x → v.waits ≡ None

abbrev pub ring : LogRing
ring = record { places = record { first = 1; past = 128 }; head = 1; used = 0; started = false; homes = [] }

abbrev pub empty : Volume
empty = record { tree = None; waits = None }

abbrev pub begun_host : Host Volume Call ℕ
begun_host = opened model over.setup empty ring 8 100 ((WriteIt ∷ RemoveIt ∷ []) ∷ [])

-- the tree that it stands for
abbrev pub told : Volume → Option Tree
told v = elim v.tree as (λ _. Option Tree) [ None ↦ Some None | Some x ↦ elim v.waits as (λ _. Option Tree) [ None ↦ Some (Some x) | Some k ↦ None ] ]

-- the file is written, and then removed
abbrev pub both_done : Host Volume Call ℕ
both_done = (advance model over.setup false (advance model over.setup false begun_host 0).host 0).host
