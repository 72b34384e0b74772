-- What the order rules read of a host: its session and its history. The bodies and revokes of closed
-- transactions are told beside it.
use Rattle.std.specs.Prelude.{ℕ, zero, suc, ◌+◌, ◌-◌, ◌==◌, Bool, true, false, ◌&&◌, ◌||◌, List, [], ◌∷◌, length, map, Option, Some, None, slice_get, slice_index_or, if◌then◌else◌}
use Rattle.log_model.specs.Log.{Format}
use Rattle.log_model.specs.Marks.{Logged, Transaction}
use Rattle.crash_laws.specs.History.{History}
use Rattle.crash_laws.specs.Session.{Session}
use Rattle.host_machine.specs.Model.{Model, Freed}
use Rattle.journal_ring.specs.running.Running.{Running}
use Rattle.host_machine.specs.State.{Answered, What, Ends, Entry, Host, Setup}

-- a call that was answered; of these some act on the tree
abbrev pub is_answered : {R : Type 0} → What R → Bool
is_answered (Ends (Answered r)) = true
is_answered other = false

-- the last entry of transaction k; of one that is not closed, the last of all
abbrev pub cut_of : List ℕ → ℕ → ℕ → ℕ
cut_of cuts now zero = 0
cut_of cuts now (suc k) = slice_index_or cuts k now

-- some number behind a, of the d next ones
abbrev pub some_in : (ℕ → Bool) → ℕ → ℕ → Bool
some_in test a zero = false
some_in test a (suc d) = test (a + suc d) || some_in test a d

-- closed transactions; those behind them have nothing yet
abbrev pub transaction_of : List Transaction → ℕ → Transaction
transaction_of txs k = slice_index_or txs (k - 1) (record { bodies = []; revokes = [] })

-- the transaction that a zone waits for
abbrev pub waits_for : List Freed → ℕ → Option ℕ
waits_for [] z = None
waits_for (w ∷ ws) z = if w.zone == z then Some w.transaction else waits_for ws z

module _ {T V C R : Type 0} (M : Model T V C R) where
  -- the tree after entry n, by the tree before it; only an answered call acts on it
  abbrev pub acted : T → ℕ → Entry C R → T
  acted t n e = if is_answered e.what then M.call t n e.call else t

  -- the tree after entry n
  abbrev pub tree_after : List (Entry C R) → ℕ → T
  tree_after es zero = M.root
  tree_after es (suc n) = elim (slice_get es n) as (λ _. T) [ None ↦ tree_after es n | Some e ↦ acted (tree_after es n) (suc n) e ]

  -- entry n wrote the block (f, i)
  abbrev pub writes_at : List (Entry C R) → ℕ → ℕ → ℕ → Bool
  writes_at es zero f i = false
  writes_at es (suc n) f i = elim (slice_get es n) as (λ _. Bool) [ None ↦ false | Some e ↦ is_answered e.what && M.writes (tree_after es n) e.call f i ]

  -- entry n changed the size, zones or slots of node f
  abbrev pub alters_at : List (Entry C R) → ℕ → ℕ → Bool
  alters_at es zero f = false
  alters_at es (suc n) f = elim (slice_get es n) as (λ _. Bool) [ None ↦ false | Some e ↦ is_answered e.what && M.alters (tree_after es n) (suc n) e.call f ]

  -- `place` finds the block of a page, by what a walk found and by the tree whose file it is
  abbrev pub history_of : {A : Type 0} → (A → T → ℕ → ℕ → ℕ) → List (Entry C R) → List ℕ → History A
  history_of place es cuts = record {
    cut = cut_of cuts (length es);
    maps = λ n f i. M.maps (tree_after es n) f i;
    writes = λ n f i. writes_at es n f i;
    content = λ f i v. M.content (tree_after es v) f i;
    changes = λ k f. some_in (λ n. alters_at es n f) (cut_of cuts (length es) (k - 1)) (cut_of cuts (length es) k - cut_of cuts (length es) (k - 1));
    place = λ a n f i. place a (tree_after es n) f i;
  }

  -- the bodies of a transaction are those that its blocks have when it is closed
  abbrev pub bodies_now : V → List ℕ → List Logged
  bodies_now v blocks = map (λ b. record { block = b; body = M.bytes v b }) blocks

  -- as if it were closed now
  abbrev pub running_transaction : V → Running → Transaction
  running_transaction v r = record { bodies = bodies_now v r.touched; revokes = r.revoked }

  -- `txs` are the closed transactions, and `reserved` and `freeable` are the metadata of the base image
  abbrev pub session_of : Setup → List (List ℕ) → Format → List ℕ → List ℕ → List Transaction → Host V C R → Session
  session_of u base format reserved freeable txs s = record {
    base = base;
    requests = s.journal.flush.requests;
    notes = s.journal.flush.notes;
    format = format;
    journal = u.journal;
    ring = s.journal.ring.places;
    head = s.journal.ring.places.first;
    sequence = u.sequence;
    transactions = transaction_of txs;
    reserved = reserved;
    freeable = freeable;
  }
