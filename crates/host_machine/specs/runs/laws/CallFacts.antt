-- What the host keeps of barrier and sync calls that have begun and not ended.
use Rattle.std.specs.Prelude.{◌≡◌, ℕ, ◌<◌, ◌≤◌, ◌⊎◌, true, false, List, Some, None, length, slice_get, slice_index_or}
use Rattle.blk_base.specs.Members.{In}
use Rattle.order_model.specs.OrderClosed.{IsOrdered, IsFence}
use Rattle.order_model.specs.declared.note.Note.TheVariants.{Page}
use Rattle.page_cache.specs.Pages.{page_at, is_unsent}
use Rattle.page_cache.specs.declared.cached_page.CachedPage.{CachedPage}
use Rattle.crash_laws.specs.laws.CallFacts.{IsDone}
use Rattle.crash_laws.specs.History.{History, Calm}
use Rattle.crash_laws.specs.PromiseRules.{IsSuperseded, AreHeld, Covers, CoversEntry}
use Rattle.crash_laws.specs.Session.{Session, HasNote, IsCommit}
use Rattle.host_machine.specs.State.{Begun, Thread}
use Rattle.flush_actor.specs.Kinds.{is_data}
use Rattle.flush_actor.specs.Waits.{no_wait}
use Rattle.flush_actor.specs.declared.wait.Wait.{Wait}
use Rattle.host_machine.specs.runs.Promises.{call_of}

abbrev pub Anywhere : ℕ → Type 0
Anywhere i = Unit {0}

-- Or it is to be done: its page is unsent, and on what is left of the call's list.
pub record IsToDo (pages : List CachedPage) (list : List (ℕ × ℕ)) (f i : ℕ) : Type 0 where
  pub listed : In (f, i) list
  pub page : CachedPage
  pub there : page_at pages f i ≡ Some page
  pub unsent : is_unsent page.state ≡ true

-- A pair is good for transaction T: an entry of a transaction up to T unmapped it; or its page was sent, before
-- the commit block of T, and where T is closed it mapped the pair, and nothing unmapped it before that version.
-- The cut of the running transaction is the last entry.
pub record IsCarriedTo {A : Type 0} (h : History A) (s : Session) (r T f i n : ℕ) : Type 0 where
  pub place : ℕ
  pub version : ℕ
  pub note : HasNote s place (Page f i version)
  pub ordered : IsOrdered s.requests place
  pub later : n ≤ version
  pub before : (c : ℕ) → IsCommit s T c → place < c
  pub mapped : T < r → h.maps (h.cut T) f i ≡ true
  pub calm : T < r → Calm h f i (h.cut T) version

pub record IsGoodFor {A : Type 0} (h : History A) (s : Session) (now r T : ℕ) (b : Begun) : Type 0 where
  pub positive : 1 ≤ T
  pub within : T ≤ r
  pub pairs : (f i n : ℕ) → Covers h (call_of b) f i n → IsSuperseded h f i n (h.cut T) ⊎ IsCarriedTo h s r T f i n
  pub metadata : is_data b.kind ≡ false → b.begin ≤ h.cut T

-- a barrier stands behind all pages that the call had to send
pub record HasSentBarrier {A : Type 0} (h : History A) (s : Session) (now : ℕ) (b : Begun) : Type 0 where
  pub barrier : ℕ
  pub fence : IsFence s.requests barrier
  pub pairs : (f i n : ℕ) → Covers h (call_of b) f i n → IsDone h s (λ o. o ≤ barrier) now f i n

-- all that it covers is at or before request `id`
abbrev pub IsHeldAt : {A : Type 0} → History A → Session → Begun → ℕ → Type 0
IsHeldAt h s b id = AreHeld h s (λ o. o ≤ id) (Covers h (call_of b)) (CoversEntry (call_of b))

pub record IsBehindTarget (s : Session) (w : Wait) (id : ℕ) : Type 0 where
  pub T : ℕ
  pub c : ℕ
  pub target : w.target ≡ Some T
  pub commit : IsCommit s T c
  pub before : c ≤ id

pub record CallFacts {A : Type 0} (h : History A) (s : Session) (pages : List CachedPage) (now r : ℕ) (b : Begun) (w : Wait) : Type 0 where
  pub begun : b.begin ≤ now
  pub kind : w.kind ≡ b.kind
  pub pairs : w.target ≡ None → w.need ≡ None → (f i n : ℕ) → Covers h (call_of b) f i n → IsDone h s Anywhere now f i n ⊎ IsToDo pages b.list f i
  pub barrier : b.sent_barrier ≡ true → HasSentBarrier h s now b
  pub target : (T : ℕ) → w.target ≡ Some T → IsGoodFor h s now r T b
  pub need : (id : ℕ) → w.need ≡ Some id → IsHeldAt h s b id
  -- a call that covers metadata needs a request at or behind its target's commit block
  pub cause : (id : ℕ) → w.need ≡ Some id → is_data b.kind ≡ false → IsBehindTarget s w id

abbrev pub wait_of : List Wait → ℕ → Wait
wait_of waits t = slice_index_or waits t no_wait

pub record AllCalls {A C : Type 0} (h : History A) (s : Session) (pages : List CachedPage) (now r : ℕ) (threads : List (Thread C)) (waits : List Wait) : Type 0 where
  pub counted : length threads ≡ length waits
  pub each : (t : ℕ) (th : Thread C) (b : Begun) → slice_get threads t ≡ Some th → th.begun ≡ Some b → CallFacts h s pages now r b (wait_of waits t)
  -- a thread whose call has not begun waits for nothing
  pub idle : (t : ℕ) (th : Thread C) → slice_get threads t ≡ Some th → th.begun ≡ None → wait_of waits t ≡ no_wait
