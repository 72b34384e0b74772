-- The order rules of pages: what a Page request carries, where it goes, and what stands behind it.
use Rattle.std.specs.Prelude.{◌≡◌, ℕ, ◌+◌, ◌-◌, ◌<◌, ◌≤◌, ◌⊎◌, true, List}
use Rattle.order_model.specs.declared.note.Note.TheVariants.{Page}
use Rattle.order_model.specs.OrderClosed.{IsPutOf, IsPutWith, IsOrdered}
use Rattle.volume_ops.specs.Volume.{disk_of}
use Rattle.volume_ops.specs.Reads.{Reads, answer}
use Rattle.log_model.specs.Marks.{Set, mark_in, transactions_from}
use Rattle.crash_laws.specs.History.{History, IsUnmapped, Calm, last_write}
use Rattle.crash_laws.specs.Ordering.{Fenced}
use Rattle.crash_laws.specs.Session.{Session, HasNote, IsCommit, CommitBefore, IsSubmitted, image_of}

-- at place p stands a request of page (f, i) with version v, which goes to block z
pub record IsPageTo (s : Session) (p f i v z : ℕ) : Type 0 where
  pub note : HasNote s p (Page f i v)
  pub put : IsPutOf s.requests p z

-- Behind place p and before place o stands a commit block whose transaction has an entry after v that removed
-- the file or unmapped the block.
pub record IsGivenUp {A : Type 0} (h : History A) (s : Session) (f i v p o : ℕ) : Type 0 where
  pub k : ℕ
  pub commit : ℕ
  pub committed : IsCommit s k commit
  pub behind : p < commit
  pub before : commit < o
  pub entry : ℕ
  pub later : v < entry
  pub within : entry ≤ h.cut k
  pub unmapped : IsUnmapped h f i entry

-- The same of a block that the tree which was opened has.
pub record IsGivenUpBefore {A : Type 0} (h : History A) (s : Session) (f i o : ℕ) : Type 0 where
  pub k : ℕ
  pub commit : ℕ
  pub committed : IsCommit s k commit
  pub before : commit < o
  pub entry : ℕ
  pub later : 1 ≤ entry
  pub within : entry ≤ h.cut k
  pub unmapped : IsUnmapped h f i entry

-- block z is that of the page (f, i) in the image of transaction k
abbrev pub place_at : {A : Type 0} → Reads A → History A → Session → ℕ → ℕ → ℕ → ℕ
place_at program h s k f i = h.place (answer (image_of s k) program) (h.cut k) f i

-- each block of a file of the tree that was opened has its bytes in the base image
abbrev pub HasOpened : {A : Type 0} → Reads A → History A → Session → Type 0
HasOpened program h s = (f i : ℕ) → h.maps 0 f i ≡ true → (place_at program h s 0 f i < s.journal) × (disk_of s.base (place_at program h s 0 f i) ≡ h.content f i 0)

module _ {A : Type 0} (program : Reads A) (h : History A) (s : Session) where
  pub record PageOrder : Type 0 where
    -- a request carries the bytes of its version, which are there
    pub content : (p f i v z : ℕ) → IsPageTo s p f i v z → IsPutWith s.requests p (h.content f i v)
    pub there : (p f i v z : ℕ) → IsPageTo s p f i v z → h.maps v f i ≡ true
    -- where nothing unmapped the page between, it goes to the block that the page has in the image
    pub place : (p f i v z k : ℕ) → IsPageTo s p f i v z → IsSubmitted s k → h.maps (h.cut k) f i ≡ true → Calm h f i v (h.cut k) → Calm h f i (h.cut k) v → z ≡ place_at program h s k f i
    -- the versions of a page never fall
    pub versions : (p o f i v w y z : ℕ) → p < o → IsPageTo s p f i v y → IsPageTo s o f i w z → v ≤ w
    -- a block goes to another page only once a commit block has given it up
    pub another : (p o f i v g j w z : ℕ) → p < o → IsPageTo s p f i v z → IsPageTo s o g j w z → ((f ≡ g) × (i ≡ j) → ⊥) → IsGivenUp h s f i v p o
    -- a page goes to a block with a logged body only behind the next commit block, or before the one before
    pub logged : (p f i v z k : ℕ) (x : List ℕ) → IsPageTo s p f i v z → 1 ≤ k → IsSubmitted s k → mark_in (transactions_from s.transactions 1 k) z ≡ Set x
        → CommitBefore s (k + 1) p ⊎ ((c : ℕ) × IsCommit s (k - 1) c × (p < c) × (v ≤ h.cut (k - 1)))
    -- no block of a file has a logged body
    pub files : (k f i : ℕ) (x : List ℕ) → IsSubmitted s k → h.maps (h.cut k) f i ≡ true → mark_in (transactions_from s.transactions 1 k) (place_at program h s k f i) ≡ Set x → ⊥
    -- A block of a file of the tree that was opened has its bytes in the base image. It stays at its place while nothing
    -- unmaps it, and goes to another page only once a commit block has given it up.
    pub opened : HasOpened program h s
    pub stays : (f i k : ℕ) → h.maps 0 f i ≡ true → IsSubmitted s k → Calm h f i 0 (h.cut k) → place_at program h s 0 f i ≡ place_at program h s k f i
    pub given_up : (o f i g j w : ℕ) → h.maps 0 f i ≡ true → IsPageTo s o g j w (place_at program h s 0 f i) → ((f ≡ g) × (i ≡ j) → ⊥) → IsGivenUpBefore h s f i o

  -- For each file that a transaction changed and each block that it maps at the end and that was written, an ordered
  -- Page request with the last version stands before its commit block, with a barrier between.
  pub record DataBeforeCommit : Type 0 where
    pub sent : (k c f i : ℕ) → IsCommit s k c → h.changes k f ≡ true → h.maps (h.cut k) f i ≡ true → 1 ≤ last_write h f i (h.cut k)
        → (p : ℕ) × HasNote s p (Page f i (last_write h f i (h.cut k))) × IsOrdered s.requests p × Fenced s.requests p c
