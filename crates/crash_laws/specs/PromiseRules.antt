-- The order rule of barrier and sync calls: what stands in the submitted list when one answers Ok.
use Rattle.std.specs.Prelude.{◌≡◌, ℕ, ◌<◌, ◌≤◌, ◌⊎◌, Bool, true, List, Option, Some, None}
use Rattle.blk_base.specs.Members.{In}
use Rattle.order_model.specs.declared.completion.Completion.{Completion}
use Rattle.order_model.specs.declared.completion.Completion.TheVariants.{Flushed}
use Rattle.order_model.specs.declared.note.Note.TheVariants.{Page}
use Rattle.order_model.specs.OrderClosed.{IsOrdered, IsFence, IsKept}
use Rattle.volume_ops.specs.Reads.{Reads}
use Rattle.crash_laws.specs.History.{History, IsUnmapped, Calm}
use Rattle.crash_laws.specs.Recovery.{HasVersion}
use Rattle.crash_laws.specs.Session.{Session, Medium, HasNote, IsCommit}

-- an entry behind n, up to `bound`, removed the file or unmapped the block
pub record IsSuperseded {A : Type 0} (h : History A) (f i n bound : ℕ) : Type 0 where
  pub entry : ℕ
  pub later : n < entry
  pub within : entry ≤ bound
  pub unmapped : IsUnmapped h f i entry

-- An ordered Page request of the page (f, i) with a version of at least n is among the good ones. The tree
-- after transaction K maps the block, and no entry between its cut and that version unmapped it.
pub record IsCarried {A : Type 0} (h : History A) (s : Session) (Good : ℕ → Type 0) (K f i n : ℕ) : Type 0 where
  pub place : ℕ
  pub version : ℕ
  pub note : HasNote s place (Page f i version)
  pub ordered : IsOrdered s.requests place
  pub good : Good place
  pub later : n ≤ version
  pub mapped : h.maps (h.cut K) f i ≡ true
  pub calm : Calm h f i (h.cut K) version

-- The good requests hold what a call covers: its pairs of a block of a file and the call that wrote it, and
-- entries whose metadata it covers.
pub record AreHeld {A : Type 0} (h : History A) (s : Session) (Good : ℕ → Type 0) (Pair : ℕ → ℕ → ℕ → Type 0) (Metadata : ℕ → Type 0) : Type 0 where
  pub K : ℕ
  pub commit : (K ≡ 0) ⊎ ((c : ℕ) × IsCommit s K c × Good c)
  pub pairs : (f i n : ℕ) → Pair f i n → IsSuperseded h f i n (h.cut K) ⊎ IsCarried h s Good K f i n
  pub metadata : (n : ℕ) → Metadata n → (k c : ℕ) × IsCommit s k c × Good c × (n ≤ h.cut k)

-- a barrier call that answered Ok at entry e
pub record KeepsBarrier {A : Type 0} (h : History A) (s : Session) (e : ℕ) (Pair : ℕ → ℕ → ℕ → Type 0) (Metadata : ℕ → Type 0) : Type 0 where
  pub barrier : ℕ
  pub fence : IsFence s.requests barrier
  pub held : AreHeld h s (λ i. i ≤ barrier) Pair Metadata
  pub pages : (p f i v : ℕ) → HasNote s p (Page f i v) → e < v → barrier < p
  pub commits : (k c : ℕ) → IsCommit s k c → e < h.cut k → barrier < c

-- a sync call that answered Ok, where these completions were taken
pub record KeepsSync {A : Type 0} (h : History A) (s : Session) (taken : List Completion) (Pair : ℕ → ℕ → ℕ → Type 0) (Metadata : ℕ → Type 0) : Type 0 where
  pub flush : ℕ
  pub flushed : In (Flushed flush) taken
  pub held : AreHeld h s (λ i. i < flush) Pair Metadata

-- ---- calls

-- a barrier or sync call: the number of its Begin, the file that it is on, or none where it is on all, and
-- whether it covers metadata
pub record BegunCall : Type 0 where
  pub begin : ℕ
  pub file : Option ℕ
  pub metadata : Bool

-- a call on no file of its own is on each file
abbrev pub IsOn : Option ℕ → ℕ → Type 0
IsOn None f = Unit {0}
IsOn (Some g) f = g ≡ f

-- it covers the block (f, i) and an entry n before it that wrote that block; and the metadata of each entry before
abbrev pub Covers : {A : Type 0} → History A → BegunCall → ℕ → ℕ → ℕ → Type 0
Covers h c f i n = IsOn c.file f × (n < c.begin) × (h.writes n f i ≡ true)

-- entry n stands before the call's Begin, and the call covers metadata
abbrev pub CoversEntry : BegunCall → ℕ → Type 0
CoversEntry c n = (c.metadata ≡ true) × (n < c.begin)

-- it covers nothing, as where no write was made
pub record CoversNothing {A : Type 0} (h : History A) (c : BegunCall) : Type 0 where
  pub pages : (f i n : ℕ) → Covers h c f i n → ⊥
  pub metadata : (n : ℕ) → CoversEntry c n → ⊥

-- ---- what is promised

-- a covered pair survived or was superseded
abbrev pub IsSettled : {A : Type 0} → Reads A → History A → Session → Medium → ℕ → ℕ → ℕ → ℕ → Type 0
IsSettled program h s m F f i n =
    ((h.maps (h.cut F) f i ≡ true) × HasVersion program h s m F f i n) ⊎ IsSuperseded h f i n (h.cut F)

-- a write made after entry e survived
abbrev pub IsLaterKept : {A : Type 0} → History A → Session → Medium → ℕ → ℕ → Type 0
IsLaterKept h s m F e =
    ((p f i v : ℕ) × HasNote s p (Page f i v) × (e < v) × IsKept s.requests m.origins p) ⊎ (e < h.cut F)
