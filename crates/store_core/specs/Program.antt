-- The calls of a store, and what the tree model has to say of them.
use Rattle.std.specs.Prelude.{◌≡◌, ℕ, ◌+◌, ◌*◌, ◌<◌, ◌⊎◌, List, [], ◌∷◌, ◌++◌, Some, slice_get, slice_index, length, true}
use Rattle.blk_base.specs.Members.{In}
use Rattle.tree_model.specs.declared.call.Call.{Call}
use Rattle.tree_model.specs.declared.call.Call.TheVariants.{Create, Write, Bytes, Fdatabarrier, Fdatasync}
use Rattle.tree_model.specs.declared.call.Reply.{Reply}
use Rattle.tree_model.specs.declared.call.Reply.TheVariants as replies
use Rattle.tree_model.specs.Calls.{reply_of, leaves_tree}
use Rattle.volume_steps.specs.Now.{room_of}
use Rattle.host_machine.specs.State.{Ending, Answered, SessionFull}
use Rattle.call_sessions.specs.promises.Answers.{node_in}
use Rattle.call_sessions.specs.promises.Entries.{BeginsAt, EndsAt}
use Rattle.call_sessions.specs.promises.Trees.{tree_at}
use Rattle.session_grammar.specs.declared.session_script.SessionScript.{SessionScript}
pub use Rattle.wal_store.specs.calls.Calls.{log_path}
use Rattle.session_core.specs.Core.{EndState, opening_of}
use Rattle.session_core.specs.Headline.{told_by}
use Rattle.store_core.specs.Store.{Numbering, Decodes, IsPutAt, IsBlank}

-- what is asked of a log: a put, by the bytes of its block, or a flush
pub data LogStep : Type 0 where
  Put : List ℕ → LogStep
  Flush : LogStep

-- the names of the path of the log
abbrev pub log_names : List (List ℕ)
log_names = (108 ∷ 111 ∷ 103 ∷ []) ∷ []

-- put number i goes to block i, and a barrier call stands behind it
abbrev pub calls_from : List ℕ → ℕ → List LogStep → List Call
calls_from path i [] = []
calls_from path i (Put body ∷ ops) = Bytes path (1024 * i) body ∷ Fdatabarrier path ∷ calls_from path (i + 1) ops
calls_from path i (Flush ∷ ops) = Fdatasync path ∷ calls_from path i ops

-- One thread makes the file, fills it with zeros and syncs it, which are the calls `before`, and then does the puts.
pub record IsStoreScript (path : List ℕ) (before : List Call) (ops : List LogStep) (s : SessionScript) : Type 0 where
  pub programs : s.programs ≡ (before ++ calls_from path 0 ops) ∷ []
  -- none of the first calls is a put
  pub no_put : (a off : ℕ) (body : List ℕ) → slice_get before a ≡ Some (Bytes path off body) → ⊥

-- no call ended for want of requests
abbrev pub NoneFull : EndState → Type 0
NoneFull end = (e t : ℕ) (c : Call) → EndsAt end.host.history e t c SessionFull → ⊥

-- put i, of this body, is answered with this reply at entry q of the history
abbrev pub PutEnds : List ℕ → EndState → ℕ → ℕ → ℕ → List ℕ → Reply → Type 0
PutEnds path end q t i body reply = EndsAt end.host.history q t (Bytes path (1024 * i) body) (Answered reply)

-- What the tree model says of the store's file, of which f is the birth. It speaks of trees alone, in the two spellings that the
-- headline has: `tree_at`, and what the history that is told reads.
pub record HasStoreTrees (number : Numbering) (path : List ℕ) (s : SessionScript) (end : EndState) (f : ℕ) : Type 0 where
  -- a put that was answered was done: its block is mapped, so it needs no zone
  pub done : (q t i : ℕ) (body : List ℕ) (reply : Reply) → PutEnds path end q t i body reply → reply ≡ replies.Ok
  -- it wrote its block, and nothing else did behind the zeros
  pub put : (q t i : ℕ) (body : List ℕ) → PutEnds path end q t i body replies.Ok → IsPutAt number (told_by s end) f i (q + 1) body
  -- each block of the file has such a put, or none
  pub each : (i : ℕ) → ((p : ℕ) × (body : List ℕ) × IsPutAt number (told_by s end) f i p body) ⊎ IsBlank number (told_by s end) f i
  -- a put in a block is that of a call that was answered Ok
  pub written_once : (i p : ℕ) (b : List ℕ) → IsPutAt number (told_by s end) f i p b → (q : ℕ) × (t : ℕ) × (p ≡ q + 1) × PutEnds path end q t i b replies.Ok
  -- barrier calls before a put that was done find the file
  pub found : (e q t u i : ℕ) (x : Ending Reply) (body : List ℕ) → e < q → EndsAt end.host.history e t (Fdatabarrier path) x → PutEnds path end q u i body replies.Ok
      → reply_of (room_of (opening_of s).geometry) (tree_at (opening_of s) end.host e) (e + 1) (Fdatabarrier path) ≡ replies.Ok
  -- a barrier call that begins is on the file
  pub node : (e t : ℕ) → BeginsAt end.host.history e t (Fdatabarrier path) → node_in (tree_at (opening_of s) end.host e) (Fdatabarrier path) ≡ f

-- What a store's script is: one thread makes `/log`, fills it, and does the puts. A block's bytes spell the put with the number of
-- its place, zeros and nothing spell none.
pub record IsStore (number : Numbering) (path : List ℕ) (fills : List Call) (ops : List LogStep) (s : SessionScript) : Type 0 where
  pub width : s.width ≡ 14
  pub programs : s.programs ≡ (Create path ∷ (fills ++ calls_from path 0 ops)) ∷ []
  -- each of them leaves the tree as it is, or writes zeros
  pub fills_are : (c : Call) → In c fills → (leaves_tree c ≡ true) ⊎ ((off : ℕ) × (len : ℕ) × (c ≡ Write path off len 0))
  pub spelled : (a i : ℕ) (body : List ℕ) → slice_get (calls_from path 0 ops) a ≡ Some (Bytes path (1024 * i) body) → (length body ≡ 1024) × (number body ≡ Some (i + 1))
  pub blank : (x : List ℕ) → length x ≡ 1024 → ((j : ℕ) → j < 1024 → slice_index x j ≡ 0) → Decodes number x → ⊥
  pub empty : Decodes number [] → ⊥

-- each put that was answered was done: its block is mapped, so it needs no zone
abbrev pub AreDone : List ℕ → EndState → Type 0
AreDone path end = (q t off : ℕ) (body : List ℕ) (reply : Reply) → EndsAt end.host.history q t (Bytes path off body) (Answered reply) → reply ≡ replies.Ok
