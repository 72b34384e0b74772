-- Transactions, and what they make of the blocks of an image: each block gets the last body that they log for it,
-- where no revoke cancels that body.
use Rattle.std.specs.Prelude.{ℕ, zero, suc, ◌+◌, ◌==◌, List, [], ◌∷◌, ◌++◌, Option, Some, None, if◌then◌else◌}
use Rattle.std.specs.List.{list_any}

-- a logged body, and the block that it is for
pub record Logged : Type 0 where
  pub block : ℕ
  pub body : List ℕ

-- the bodies and the revokes of a transaction, in the order of the log
pub record Transaction : Type 0 where
  pub bodies : List Logged
  pub revokes : List ℕ

-- What is said of one block: nothing; that the bodies before are cancelled; or its body.
pub data Mark : Type 0 where
  Keep : Mark
  Clear : Mark
  Set : List ℕ → Mark

-- one mark and then another
abbrev pub followed : Mark → Mark → Mark
followed m Keep = m
followed m Clear = Clear
followed m (Set x) = Set x

-- what logged bodies say of block b: the last one counts
abbrev pub bodies_mark : List Logged → ℕ → Mark
bodies_mark [] b = Keep
bodies_mark (l ∷ ls) b = followed (if l.block == b then Set l.body else Keep) (bodies_mark ls b)

-- what a transaction says of block b: a revoke cancels the bodies of its own transaction too
abbrev pub transaction_mark : Transaction → ℕ → Mark
transaction_mark t b = followed (bodies_mark t.bodies b) (if list_any (λ r. r == b) t.revokes then Clear else Keep)

-- what transactions, one after the other, say of block b
abbrev pub mark_in : List Transaction → ℕ → Mark
mark_in [] b = Keep
mark_in (t ∷ ts) b = followed (transaction_mark t b) (mark_in ts b)

-- the body that a mark gives, if any
abbrev pub marked_body : Mark → Option (List ℕ)
marked_body Keep = None
marked_body Clear = None
marked_body (Set x) = Some x

-- what a block has after a mark
abbrev pub body_after : Mark → List ℕ → List ℕ
body_after Keep old = old
body_after Clear old = old
body_after (Set x) old = x

-- a disk, as the body of each block, after these transactions were replayed onto it
abbrev pub replayed : List Transaction → (ℕ → List ℕ) → ℕ → List ℕ
replayed txs disk b = body_after (mark_in txs b) (disk b)

-- n transactions from number `first` on
abbrev pub transactions_from : (ℕ → Transaction) → ℕ → ℕ → List Transaction
transactions_from tx first zero = []
transactions_from tx first (suc n) = transactions_from tx first n ++ tx (first + n) ∷ []
