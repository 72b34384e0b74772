-- Laws of reading a log.
use Rattle.std.specs.Prelude.{◌≡◌, ◌≢◌, ℕ, ◌==◌, Bool, true, false, List, [], ◌∷◌, ◌++◌, if◌then◌else◌, refl}
use Rattle.std.proofs.Common.{sym, ap, subst, inl, inr}
use Rattle.std.proofs.lemmas.Bool.{eqb-true}
use Rattle.blk_base.specs.Members.{In}
use Rattle.log_model.specs.Marks.{Logged, Transaction}
use Rattle.log_model.specs.Log.{Header, Plain, Describes, Revokes, Commits, Format, Reader, Reading, Stopped, done, take_header, take_block, take_blocks}

-- ---- reading

pub take_blocks-append : (f : Format) (r : Reader) (xs ys : List (List ℕ)) → take_blocks f r (xs ++ ys) ≡ take_blocks f (take_blocks f r xs) ys
take_blocks-append f r [] ys = refl
take_blocks-append f r (x ∷ xs) ys = take_blocks-append f (take_block f r x) xs ys

pub stopped_stays : (f : Format) (txs : List Transaction) (blocks : List (List ℕ)) → done (take_blocks f (Stopped txs) blocks) ≡ txs
stopped_stays f txs [] = refl
stopped_stays f txs (b ∷ bs) = stopped_stays f txs bs

-- the reader still expects this sequence, or it stopped; and these transactions are done
abbrev pub Waits : ℕ → List Transaction → Reader → Type 0
Waits seq txs (Reading s tags bodies revokes ts) = (s ≡ seq) × (ts ≡ txs)
Waits seq txs (Stopped ts) = ts ≡ txs

-- by the two outcomes of a test
either : (t : Bool) (seq : ℕ) (txs : List Transaction) (r s : Reader) → (t ≡ true → Waits seq txs r) → Waits seq txs s → Waits seq txs (if t then r else s)
either true seq txs r s h k = h refl
either false seq txs r s h k = k

header_waits : (seq : ℕ) (bodies : List Logged) (revokes : List ℕ) (txs : List Transaction) (h : Header) → h ≢ Commits seq → Waits seq txs (take_header seq bodies revokes txs h)
header_waits seq bodies revokes txs Plain other = refl
header_waits seq bodies revokes txs (Describes s tags) other = either (s == seq) seq txs _ _ (λ e. (refl, refl)) refl
header_waits seq bodies revokes txs (Revokes s blocks) other = either (s == seq) seq txs _ _ (λ e. (refl, refl)) refl
header_waits seq bodies revokes txs (Commits s) other = either (s == seq) seq txs _ _ (λ e. absurd (other (ap Commits (eqb-true s seq e)))) refl

block_waits : (f : Format) (seq : ℕ) (txs : List Transaction) (r : Reader) (b : List ℕ) → f.header b ≢ Commits seq → Waits seq txs r → Waits seq txs (take_block f r b)
block_waits f seq txs (Stopped ts) b other w = w
block_waits f seq txs (Reading s (tag ∷ tags) bodies revokes ts) b other w = w
block_waits f seq txs (Reading s [] bodies revokes ts) b other w =
    subst (λ q. Waits seq txs (take_header q bodies revokes ts (f.header b))) (sym w.0)
    (subst (λ us. Waits seq us (take_header seq bodies revokes ts (f.header b))) w.1 (header_waits seq bodies revokes ts (f.header b) other))

-- Where no block has the commit header that is expected, no transaction more gets done.
pub nothing_more_done : (f : Format) (seq : ℕ) (txs : List Transaction) (r : Reader) (blocks : List (List ℕ)) → ((b : List ℕ) → In b blocks → f.header b ≢ Commits seq) → Waits seq txs r → done (take_blocks f r blocks) ≡ txs
nothing_more_done f seq txs (Reading s tags bodies revokes ts) [] other w = w.1
nothing_more_done f seq txs (Stopped ts) [] other w = w
nothing_more_done f seq txs r (b ∷ bs) other w =
    nothing_more_done f seq txs (take_block f r b) bs (λ c h. other c (inr h)) (block_waits f seq txs r b (other b (inl refl)) w)
