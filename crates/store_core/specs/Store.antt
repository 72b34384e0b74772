-- What a store that orders its puts by barriers alone reads of a session, and what it promises of what is left.
use Rattle.std.specs.Prelude.{◌≡◌, ℕ, ◌+◌, ◌<◌, ◌≤◌, ◌⊎◌, false, true, List, Option, Some}
use Rattle.tree_model.specs.declared.call.Call.{Call}
use Rattle.tree_model.specs.Calls.{Tree}
use Rattle.tree_model.specs.Histories.{block_at}
use Rattle.crash_laws.specs.History.{History, IsUnmapped}
use Rattle.crash_laws.specs.PromiseRules.{Covers}
use Rattle.crash_laws.specs.Volumes.{WalkEnd}
use Rattle.flush_actor.specs.Kinds.{is_durable}
use Rattle.host_machine.specs.runs.Promises.{call_of}
use Rattle.minix_host.specs.Calls.{kind_of}
use Rattle.call_sessions.specs.promises.Answers.{AnsweredAt}
use Rattle.session_grammar.specs.declared.session_script.SessionScript.{SessionScript}
use Rattle.session_core.specs.Core.{EndState}
use Rattle.session_core.specs.Headline.{HeadlineOn, told_by}
use Rattle.session_core.specs.declared.report.SessionReport.{SessionReport}

-- ---- puts

-- the bytes of a block spell the put with this number
abbrev pub Numbering : Type 0
Numbering = List ℕ → Option ℕ

-- they spell some put
abbrev pub Decodes : Numbering → List ℕ → Type 0
Decodes number bytes = (n : ℕ) × (number bytes ≡ Some n)

-- Entry p put these bytes into the block (f, i): they stay there, nothing before spells a put, and the block is never unmapped.
pub record IsPutAt (number : Numbering) (told : History WalkEnd) (f i p : ℕ) (body : List ℕ) : Type 0 where
  pub wrote : told.writes p f i ≡ true
  pub stays : (v : ℕ) → p ≤ v → told.content f i v ≡ body
  pub blank : (v : ℕ) → v < p → Decodes number (told.content f i v) → ⊥
  pub calm : (n : ℕ) → IsUnmapped told f i n → ⊥
  pub spelled : number body ≡ Some (i + 1)

-- no put was made into the block
abbrev pub IsBlank : Numbering → History WalkEnd → ℕ → ℕ → Type 0
IsBlank number told f i = (v : ℕ) → Decodes number (told.content f i v) → ⊥

-- A barrier call was answered Ok that covers the put of entry p into (f, i), before entry q.
pub record IsBarred (s : SessionScript) (end : EndState) (r : SessionReport) (is : HeadlineOn s end r) (f i p q : ℕ) : Type 0 where
  -- the entry of the answer, its thread, and the call
  pub e : ℕ
  pub t : ℕ
  pub c : Call
  pub ok : AnsweredAt end.host e t c
  pub barrier : is_durable (kind_of c) ≡ false
  pub covers : Covers (told_by s end) (call_of (is.answered e t c ok).begun) f i p
  pub before : e + 1 < q

-- The puts of a store's log, file f: each block has one, or none; and where a later block has one, a barrier call was answered
-- between the two.
pub record IsStoreLog (number : Numbering) (s : SessionScript) (end : EndState) (r : SessionReport) (is : HeadlineOn s end r) (f : ℕ) : Type 0 where
  pub put : (i : ℕ) → ((p : ℕ) × (body : List ℕ) × IsPutAt number (told_by s end) f i p body) ⊎ IsBlank number (told_by s end) f i
  -- where a later block has a put, this one has one, and a barrier call was answered between the two
  pub earlier : (i j q : ℕ) (b : List ℕ) → i < j → IsPutAt number (told_by s end) f j q b
      → (p : ℕ) × (body : List ℕ) × IsPutAt number (told_by s end) f i p body × IsBarred s end r is f i p q

-- ---- what is left

-- Block i of the log is there in the recovered tree, with these bytes.
abbrev pub Shows : (s : SessionScript) (end : EndState) (r : SessionReport) → HeadlineOn s end r → ℕ → ℕ → List ℕ → Type 0
Shows s end r is f i b = block_at is.prefix.tree (is.prefix.alike.to f) i ≡ Some b

-- Block i spells the put with number i + 1.
abbrev pub HoldsPut : Numbering → (s : SessionScript) (end : EndState) (r : SessionReport) → HeadlineOn s end r → ℕ → ℕ → Type 0
HoldsPut number s end r is f i = (b : List ℕ) × Shows s end r is f i b × (number b ≡ Some (i + 1))

-- The first h blocks do, and the next one does not: so many puts are held.
pub record AreHeld (number : Numbering) (s : SessionScript) (end : EndState) (r : SessionReport) (is : HeadlineOn s end r) (f h : ℕ) : Type 0 where
  pub all : (i : ℕ) → i < h → HoldsPut number s end r is f i
  pub next : HoldsPut number s end r is f h → ⊥

-- The first h blocks of file g of the tree spell the puts with the numbers of their places, and the next one does not.
pub record IsHeldIn (number : Numbering) (tree : Tree) (g h : ℕ) : Type 0 where
  pub all : (i : ℕ) → i < h → (b : List ℕ) × (block_at tree g i ≡ Some b) × (number b ≡ Some (i + 1))
  pub next : (b : List ℕ) → block_at tree g h ≡ Some b → number b ≡ Some (h + 1) → ⊥
