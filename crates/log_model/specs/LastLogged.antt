-- The sentence of the format: a block has its last logged body that no revoke cancels, where a revoke cancels the
-- bodies of its block in its own transaction and in those before it.
use Rattle.std.specs.Prelude.{◌≡◌, ◌≢◌, ℕ, ◌==◌, ◌||◌, Bool, false, List, [], ◌∷◌, ◌++◌, Option, Some, None, if◌then◌else◌}
use Rattle.std.specs.List.{list_any}
use Rattle.blk_base.specs.Members.{In}
use Rattle.log_model.specs.Marks.{Logged, Transaction}

-- ---- as a list: all logged bodies of the block that no revoke cancels, and the last of them

-- this transaction or a later one revokes the block
abbrev pub is_cancelled : List Transaction → ℕ → Bool
is_cancelled [] b = false
is_cancelled (t ∷ ts) b = list_any (λ r. r == b) t.revokes || is_cancelled ts b

-- the bodies of the block
abbrev pub bodies_of : List Logged → ℕ → List (List ℕ)
bodies_of [] b = []
bodies_of (l ∷ ls) b = if l.block == b then l.body ∷ bodies_of ls b else bodies_of ls b

-- the bodies of the block that no revoke of their own or of a later transaction cancels
abbrev pub uncancelled : List Transaction → ℕ → List (List ℕ)
uncancelled [] b = []
uncancelled (t ∷ ts) b = (if is_cancelled (t ∷ ts) b then [] else bodies_of t.bodies b) ++ uncancelled ts b

-- none where there is no body
abbrev pub last_of : List (List ℕ) → Option (List ℕ)
last_of [] = None
last_of (x ∷ xs) = elim (last_of xs) as (λ _. Option (List ℕ)) [ None ↦ Some x | Some y ↦ Some y ]

-- ---- as places: where the body or the revoke stands, and that nothing of the block stands behind it

-- no body and no revoke of these transactions is of block b
abbrev pub SaysNothing : List Transaction → ℕ → Type 0
SaysNothing txs b = (t : Transaction) → In t txs → ((l : Logged) → In l t.bodies → l.block ≢ b) × (In b t.revokes → ⊥)

-- x is the last body of block b among these
pub record IsLastBody (ls : List Logged) (b : ℕ) (x : List ℕ) : Type 0 where
  pub before : List Logged
  pub after : List Logged
  pub here : ls ≡ before ++ record { block = b; body = x } ∷ after
  pub none : (l : Logged) → In l after → l.block ≢ b

-- block b has a last body, x, and no revoke of its transaction or of a later one is of b
pub record IsLastLogged (txs : List Transaction) (b : ℕ) (x : List ℕ) : Type 0 where
  pub before : List Transaction
  pub transaction : Transaction
  pub after : List Transaction
  pub here : txs ≡ before ++ transaction ∷ after
  pub last : IsLastBody transaction.bodies b x
  pub kept : In b transaction.revokes → ⊥
  pub none : SaysNothing after b

-- block b is revoked, and no later transaction has a body of it
pub record IsRevokedLast (txs : List Transaction) (b : ℕ) : Type 0 where
  pub before : List Transaction
  pub transaction : Transaction
  pub after : List Transaction
  pub here : txs ≡ before ++ transaction ∷ after
  pub revoked : In b transaction.revokes
  pub none : SaysNothing after b
