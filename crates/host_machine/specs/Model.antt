-- What the host uses of the tree model and of a volume.
use Rattle.std.specs.Prelude.{ℕ, Bool, List, Option}
use Rattle.flush_actor.specs.declared.call_kind.CallKind.{CallKind}

-- a block of a file: the file's birth, the index, and the zone
pub record FileBlock : Type 0 where
  pub birth : ℕ
  pub index : ℕ
  pub block : ℕ

-- what a call did to a volume
pub record Touched : Type 0 where
  -- metadata blocks that it wrote, zones that it freed, and those of them that were metadata
  pub blocks : List ℕ
  pub freed : List ℕ
  pub revoked : List ℕ
  -- blocks of files that it wrote, and those that are no longer mapped
  pub pages : List FileBlock
  pub dropped : List FileBlock
  -- nodes whose size, zones or slots it changed
  pub nodes : List ℕ

-- a freed zone that waits for a transaction's commit block
pub record Freed : Type 0 where
  pub zone : ℕ
  pub transaction : ℕ

-- free zones, and freed ones that wait
pub record Zones : Type 0 where
  pub free : List ℕ
  pub waiting : List Freed

-- what a call leaves and answers, and what it did to the volume
pub record Applied (V R : Type 0) : Type 0 where
  pub volume : V
  pub reply : R
  pub touched : Touched

-- T are trees, V volumes, C calls and R their replies.
pub record Model (T V C R : Type 0) : Type 0 where
  pub kind : C → CallKind
  pub ok : R
  -- trees: the one that was opened; the tree after call number n; blocks of files, and which of them a call
  -- writes; and the files whose size, zones or slots it changes
  pub root : T
  pub call : T → ℕ → C → T
  pub maps : T → ℕ → ℕ → Bool
  pub content : T → ℕ → ℕ → List ℕ
  pub writes : T → C → ℕ → ℕ → Bool
  pub alters : T → ℕ → C → ℕ → Bool
  -- volumes: the refusal of a call; whether it would change the tree or a page; the zones that it would take;
  -- and what it does as call number n in transaction k
  pub reply : V → C → Option R
  pub hinders : V → C → Bool
  pub needs : V → C → ℕ
  pub apply : V → ℕ → ℕ → C → Applied V R
  -- the node that the call's path names
  pub node : V → C → ℕ
  pub zones : V → Zones
  -- the zones that wait for transaction k are free
  pub release : V → ℕ → V
  -- the bytes of a block, whether it is metadata, and the block of a page
  pub bytes : V → ℕ → List ℕ
  pub metadata : V → ℕ → Bool
  pub zone : V → ℕ → ℕ → Option ℕ
