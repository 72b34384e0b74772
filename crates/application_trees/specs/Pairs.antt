-- A database that writes a record to its log before each page.
use Rattle.std.specs.Prelude.{◌≡◌, ℕ, ◌<◌, ◌≤◌, true, List, [], Some}
use Rattle.tree_model.specs.Histories.{block_at}
use Rattle.application_trees.specs.Outcomes.{Outcome, Holds}

-- a record's block and bytes, the entry up to which its barrier covers the log, that of the barrier's answer, and a page's
-- block and bytes
pub record Pair : Type 0 where
  pub place : ℕ
  pub body : List ℕ
  pub covered : ℕ
  pub answered : ℕ
  pub page : ℕ
  pub bytes : List ℕ

-- `Later e` says that something which was done after entry e survived.
pub record IsPair (o : Outcome) (Later : ℕ → Type 0) (log file : ℕ) (x : Pair) : Type 0 where
  -- an entry wrote the record, and it stays; a barrier call covers it
  pub entry : ℕ
  pub wrote : o.writes entry log x.place ≡ true
  pub stays : (v : ℕ) → entry ≤ v → block_at (o.tree_at v) log x.place ≡ Some x.body
  pub low : entry ≤ x.covered
  pub barred : Later x.answered → Holds o log x.covered
  -- up to the answer the page never had these bytes
  pub some : x.bytes ≡ [] → ⊥
  pub newer : (v : ℕ) → v ≤ x.answered → block_at (o.tree_at v) file x.page ≡ Some x.bytes → ⊥

-- the pairs follow each other
pub record ArePairs (o : Outcome) (Later : ℕ → Type 0) (log file n : ℕ) (pair : ℕ → Pair) : Type 0 where
  pub each : (k : ℕ) → k < n → IsPair o Later log file (pair k)
  pub rising : (k m : ℕ) → k ≤ m → m < n → (pair k).answered ≤ (pair m).answered

-- what `Later` is read off: newer bytes of a block that the recovered tree shows
pub record TellsLater (o : Outcome) (Later : ℕ → Type 0) (file : ℕ) : Type 0 where
  pub earlier : (d e : ℕ) → d ≤ e → Later e → Later d
  pub shown : (i e : ℕ) (bytes : List ℕ) → block_at o.tree (o.alike.to file) i ≡ Some bytes → (bytes ≡ [] → ⊥) → ((v : ℕ) → v ≤ e → block_at (o.tree_at v) file i ≡ Some bytes → ⊥) → Later e
