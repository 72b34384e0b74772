-- The first property that is printed for barrier calls follows from the second.
use Rattle.std.specs.Prelude.{◌≡◌, ℕ, zero, suc, ◌-◌, ◌<◌, ◌≤◌, ◌⊎◌}
use Rattle.std.proofs.Common.{sym, subst, inl, inr, ⊎_elim, arith}
use Rattle.std.proofs.lemmas.Bool.{cases_lt}
use Rattle.order_model.specs.declared.note.Note.TheVariants.{Page}
use Rattle.order_model.specs.OrderClosed.{IsOrdered}
use Rattle.crash_laws.specs.History.{History, IsUnmapped, HasTrees, IsEntryOf}
use Rattle.crash_laws.specs.PromiseRules.{AreHeld}
use Rattle.crash_laws.specs.Rules.{CommitOrder}
use Rattle.crash_laws.specs.Session.{Session, HasNote, IsCommit}
use Rattle.crash_laws.proofs.Commits.{commit_below}

pub transaction_of : {A : Type 0} (h : History A) (m K : ℕ) → h.cut 0 < m → m ≤ h.cut K → (k : ℕ) × IsEntryOf h m k × (k ≤ K)
transaction_of h m zero above within = absurd (omega arith)
transaction_of h m (suc K) above within =
    ⊎_elim
    (λ lt. (suc K, record { numbered = omega arith; above = let e : suc K - 1 ≡ K = omega arith in subst (λ k. h.cut k < m) (sym e) lt; within = within }, omega arith))
    (λ le. let r = transaction_of h m K above le in let hi = r.2 in (r.0, r.1, omega arith))
    (cases_lt (h.cut K) m)

-- For each pair a Page request of at least its version is among the good ones, or the commit block of a
-- transaction with a later entry that removed the file or unmapped the block.
pub page_or_commit : {A : Type 0} (h : History A) (s : Session) (Good : ℕ → Type 0) (Pair : ℕ → ℕ → ℕ → Type 0) (Metadata : ℕ → Type 0)
    → HasTrees h → CommitOrder s → ((i j : ℕ) → i ≤ j → Good j → Good i) → AreHeld h s Good Pair Metadata → (f i n : ℕ) → Pair f i n
    → ((p v : ℕ) × HasNote s p (Page f i v) × IsOrdered s.requests p × Good p × (n ≤ v))
    ⊎ ((k c m : ℕ) × IsCommit s k c × Good c × IsEntryOf h m k × (n < m) × IsUnmapped h f i m)
page_or_commit h s Good Pair Metadata trees order down held f i n pair =
    ⊎_elim
    (λ gone.
    let later = gone.later in
    let first = trees.first in
    let x = transaction_of h gone.entry held.K (omega arith) gone.within in
    ⊎_elim
    (λ none.
    let hi = x.2 in
    let pos = x.1.numbered in
    absurd (omega arith))
    (λ c.
    let d = commit_below order x.0 held.K c.0 c.1 x.1.numbered x.2 in
    inr (x.0, d.0, gone.entry, d.1, down d.0 c.0 d.2 c.2, x.1, gone.later, gone.unmapped))
    held.commit)
    (λ carried. inl (carried.place, carried.version, carried.note, carried.ordered, carried.good, carried.later))
    (held.pairs f i n pair)
