-- What the laws read of a history: which blocks of files its trees map, what wrote them, and where its
-- transactions end. Entries are numbered from 1; number 0 is the tree that was opened.
use Rattle.std.specs.Prelude.{◌≡◌, ℕ, zero, suc, ◌+◌, ◌-◌, ◌<◌, ◌≤◌, Bool, true, false, List, if◌then◌else◌}

-- A is what a walk of a disk finds
pub record History (A : Type 0) : Type 0 where
  -- the number of the last entry of each transaction
  pub cut : ℕ → ℕ
  -- the tree after entry n maps the block (file, index)
  pub maps : ℕ → ℕ → ℕ → Bool
  -- entry n wrote that block
  pub writes : ℕ → ℕ → ℕ → Bool
  -- its bytes after entry n
  pub content : ℕ → ℕ → ℕ → List ℕ
  -- transaction k changed the size or the zones of the file
  pub changes : ℕ → ℕ → Bool
  -- the block at which what a walk found has this index of the file which a path of the tree after entry n
  -- leads to
  pub place : A → ℕ → ℕ → ℕ → ℕ

module _ {A : Type 0} (h : History A) where
  -- entry m removed the file or unmapped the block
  pub record IsUnmapped (f i m : ℕ) : Type 0 where
    pub before : h.maps (m - 1) f i ≡ true
    pub after : h.maps m f i ≡ false

  -- no entry behind a up to b did
  abbrev pub Calm : ℕ → ℕ → ℕ → ℕ → Type 0
  Calm f i a b = (m : ℕ) → a < m → m ≤ b → IsUnmapped f i m → ⊥

  -- the last entry up to n that wrote the block
  abbrev pub last_write : ℕ → ℕ → ℕ → ℕ
  last_write f i zero = 0
  last_write f i (suc n) = if h.writes (suc n) f i then suc n else last_write f i n

  -- what every history has
  pub record HasTrees : Type 0 where
    -- the tree that was opened is the work of no entry
    pub unwritten : (f i : ℕ) → h.writes 0 f i ≡ false
    -- only a write maps a block, and it leaves it mapped
    pub mapped : (f i n : ℕ) → h.maps n f i ≡ false → h.maps (n + 1) f i ≡ true → h.writes (n + 1) f i ≡ true
    pub written : (f i n : ℕ) → h.writes n f i ≡ true → h.maps n f i ≡ true
    -- the cuts never fall
    pub first : h.cut 0 ≡ 0
    pub cuts : (k : ℕ) → h.cut k ≤ h.cut (k + 1)
    -- a transaction that did not change a file neither mapped nor unmapped a block of it
    pub same : (k f i m : ℕ) → h.changes (k + 1) f ≡ false → h.cut k < m → m ≤ h.cut (k + 1) → h.maps m f i ≡ h.maps (m - 1) f i

  -- a mapped block was written, or the tree that was opened has it, and it was not unmapped since
  pub record IsWritten (f i n : ℕ) : Type 0 where
    pub within : last_write f i n ≤ n
    pub wrote : 1 ≤ last_write f i n → h.writes (last_write f i n) f i ≡ true
    pub there : h.maps (last_write f i n) f i ≡ true
    pub calm : Calm f i (last_write f i n) n

  -- k is the last transaction up to n that changed the file; or there is none, and k is 0
  pub record IsLastChange (f n k : ℕ) : Type 0 where
    pub within : k ≤ n
    pub changed : 1 ≤ k → h.changes k f ≡ true
    pub none : (j : ℕ) → k < j → j ≤ n → h.changes j f ≡ false

-- entry m is of transaction k
pub record IsEntryOf {A : Type 0} (h : History A) (m k : ℕ) : Type 0 where
  pub numbered : 1 ≤ k
  pub above : h.cut (k - 1) < m
  pub within : m ≤ h.cut k
