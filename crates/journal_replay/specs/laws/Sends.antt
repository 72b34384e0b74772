-- Laws of the commands of a recovery, by their parts.
use Rattle.std.specs.Prelude.{◌≡◌, ℕ, zero, suc, ◌+◌, ◌-◌, ◌<◌, ◌≤◌, ◌==◌, nat_lt, List, [], ◌∷◌, ◌++◌, length, take, drop, Some, ◌⊎◌, slice_get, refl}
use Rattle.std.proofs.Common.{sym, ap, ◌∙◌, subst, inl, inr, ⊎_elim, arith, length-append}
use Rattle.std.proofs.lemmas.Bool.{cases_lt, cond-false, le-ltb}
use Rattle.std.proofs.lemmas.Option.{none-some, same_Some}
use Rattle.std.proofs.lemmas.List.{take-append-drop}
use Rattle.blk_base.specs.laws.Members.{slice_get-append_left, slice_get-append_right, slice_get-length}
use Rattle.order_model.specs.declared.part.Part.{Part}
use Rattle.order_model.specs.declared.command.Command.{Command}
use Rattle.order_model.specs.Received.{all_parts, part_at, command_of_part, IsBarrier}
use Rattle.order_model.proofs.Received.{all_parts-append, command_of_part-append_old, command_of_part-lt}
use Rattle.log_model.specs.Marks.{Logged}
use Rattle.journal_replay.specs.Commands.{for_block, write, home_writes, ending, sends}

pub length-home_writes : (hs : List Logged) (id : ℕ) → length (home_writes id hs) ≡ length hs
length-home_writes [] id = refl
length-home_writes (h ∷ hs) id = ap suc (length-home_writes hs (id + 1))

pub parts-home_writes : (hs : List Logged) (id : ℕ) → length (all_parts (home_writes id hs)) ≡ length hs
parts-home_writes [] id = refl
parts-home_writes (h ∷ hs) id = ap suc (parts-home_writes hs (id + 1))

pub command_of_part-there : (c : Command) (cs : List Command) (x : ℕ) → length c.parts ≤ x → command_of_part (c ∷ cs) x ≡ command_of_part cs (x - length c.parts) + 1
command_of_part-there c cs x h = cond-false (nat_lt x (length c.parts)) 0 (command_of_part cs (x - length c.parts) + 1) (le-ltb x (length c.parts) h)

-- a part behind the first commands belongs to a command behind them
pub command_of_part-behind : (xs ys : List Command) (x : ℕ) → length (all_parts xs) ≤ x → length xs ≤ command_of_part (xs ++ ys) x
command_of_part-behind [] ys x h = omega arith
command_of_part-behind (a ∷ xs) ys x h =
    let n = length-append a.parts (all_parts xs) in
    let there = command_of_part-there a (xs ++ ys) x (omega arith) in
    let rest = command_of_part-behind xs ys (x - length a.parts) (omega arith) in
    omega arith

-- a part of the first commands is that part of all
pub part_at-front : (xs ys : List Command) (x : ℕ) (p : Part) → part_at xs x ≡ Some p → part_at (xs ++ ys) x ≡ Some p
part_at-front xs ys x p e =
    ap (λ l. slice_get l x) (all_parts-append xs ys) ∙ (slice_get-append_left (all_parts xs) (all_parts ys) x (slice_get-length (all_parts xs) x p e) ∙ e)

pub part_at-prefix : (cs : List Command) (k x : ℕ) (p : Part) → part_at (take k cs) x ≡ Some p → part_at cs x ≡ Some p
part_at-prefix cs k x p e = subst (λ l. part_at l x ≡ Some p) (take-append-drop k cs) (part_at-front (take k cs) (drop k cs) x p e)

-- the part of a home write
pub part_at-home : (hs : List Logged) (id x : ℕ) (p : Part) → part_at (home_writes id hs) x ≡ Some p → slice_get hs x ≡ Some (for_block p.block p.body)
part_at-home [] id x p e = absurd (none-some p e)
part_at-home (h ∷ hs) id zero p e = ap (λ (q : Part). Some (for_block q.block q.body)) (same_Some _ p e)
part_at-home (h ∷ hs) id (suc x) p e = part_at-home hs (id + 1) x p e

behind_part : (y x n : ℕ) → x ≡ n + y → (superblock : Logged) (p : Part) → part_at (ending n superblock) y ≡ Some p → (x ≡ n) × (p.block ≡ superblock.block) × (p.body ≡ superblock.body)
behind_part zero x n at superblock p e = let q = same_Some _ p e in (omega arith, sym (ap (λ (r : Part). r.block) q), sym (ap (λ (r : Part). r.body) q))
behind_part (suc y) x n at superblock p e = absurd (none-some p e)

-- a part of what is sent is a home's, or behind all of them the superblock's
pub sent_part : (hs : List Logged) (superblock : Logged) (x : ℕ) (p : Part) → part_at (sends hs superblock) x ≡ Some p
    → (slice_get hs x ≡ Some (for_block p.block p.body)) ⊎ ((x ≡ length hs) × (p.block ≡ superblock.block) × (p.body ≡ superblock.body))
sent_part hs superblock x p e =
    let size = parts-home_writes hs 0 in
    let split : slice_get (all_parts (home_writes 0 hs) ++ all_parts (ending (length hs) superblock)) x ≡ Some p =
    sym (ap (λ l. slice_get l x) (all_parts-append (home_writes 0 hs) (ending (length hs) superblock))) ∙ e in
    ⊎_elim
    (λ lt. inl (part_at-home hs 0 x p (sym (slice_get-append_left (all_parts (home_writes 0 hs)) _ x (omega arith)) ∙ split)))
    (λ le. inr (behind_part (x - length (all_parts (home_writes 0 hs))) x (length hs) (omega arith) superblock p
    (sym (slice_get-append_right (all_parts (home_writes 0 hs)) _ x (omega arith)) ∙ split)))
    (cases_lt x (length hs))

-- the last home write is a barrier
pub last_home : (hs : List Logged) (id : ℕ) (rest : List Command) (n : ℕ) → length hs ≡ suc n → IsBarrier (home_writes id hs ++ rest) n
last_home [] id rest n e = absurd (omega arith)
last_home (h ∷ []) id rest zero e = refl
last_home (h ∷ []) id rest (suc n) e = absurd (omega arith)
last_home (h ∷ g ∷ gs) id rest zero e = absurd (omega arith)
last_home (h ∷ g ∷ gs) id rest (suc n) e = last_home (g ∷ gs) (id + 1) rest n (omega arith)

-- the first k home writes have k parts
pub parts-short : (hs : List Logged) (id k : ℕ) (rest : List Command) → k ≤ length hs → length (all_parts (take k (home_writes id hs ++ rest))) ≡ k
parts-short hs id zero rest le = refl
parts-short [] id (suc k) rest le = absurd (omega arith)
parts-short (h ∷ hs) id (suc k) rest le = ap suc (parts-short hs (id + 1) k rest (omega arith))

pub take-behind : (hs : List Logged) (id j k : ℕ) (rest : List Command) → k ≡ length hs + j → take k (home_writes id hs ++ rest) ≡ home_writes id hs ++ take j rest
take-behind [] id j k rest e = let same : k ≡ j = omega arith in ap (λ n. take n rest) same
take-behind (h ∷ hs) id j zero rest e = absurd (omega arith)
take-behind (h ∷ hs) id j (suc k) rest e = ap (λ cs. write id h (length hs == 0) ∷ cs) (take-behind hs (id + 1) j k rest (omega arith))

-- where the superblock's part was taken, all home writes were taken before it, and a barrier stands between
pub record AllBefore (took : List Command) (n : ℕ) : Type 0 where
  pub here : (x : ℕ) → x < n → x < length (all_parts took)
  pub barrier : (x : ℕ) → x < n → (b : ℕ) × IsBarrier took b × (command_of_part took x ≤ b) × (b < command_of_part took n)

homes_before : (hs : List Logged) (rest : List Command) → AllBefore (home_writes 0 hs ++ rest) (length hs)
homes_before hs rest =
    let cs = length-home_writes hs 0 in
    let ps = parts-home_writes hs 0 in
    let all = ap length (all_parts-append (home_writes 0 hs) rest) ∙ length-append (all_parts (home_writes 0 hs)) (all_parts rest) in
    record {
      here = λ x lt. omega arith;
      barrier = λ x lt.
          let e : length hs ≡ suc (length hs - 1) = omega arith in
          let same = command_of_part-append_old (home_writes 0 hs) rest x (omega arith) in
          let below = command_of_part-lt (home_writes 0 hs) x (omega arith) in
          let above = command_of_part-behind (home_writes 0 hs) rest (length hs) (omega arith) in
          (length hs - 1, last_home hs 0 rest (length hs - 1) e, omega arith, omega arith);
    }

pub super_after_homes : (hs : List Logged) (superblock : Logged) (k : ℕ) (p : Part) → part_at (take k (sends hs superblock)) (length hs) ≡ Some p → AllBefore (take k (sends hs superblock)) (length hs)
super_after_homes hs superblock k p e =
    ⊎_elim
    (λ le. let size = parts-short hs 0 k (ending (length hs) superblock) (omega arith) in
    let lt = slice_get-length (all_parts (take k (sends hs superblock))) (length hs) p e in absurd (omega arith))
    (λ more. let same = take-behind hs 0 (k - length hs) k (ending (length hs) superblock) (omega arith) in
    subst (λ l. AllBefore l (length hs)) (sym same) (homes_before hs (take (k - length hs) (ending (length hs) superblock))))
    (cases_lt k (length hs + 1))
