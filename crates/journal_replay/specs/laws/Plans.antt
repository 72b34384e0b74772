-- Laws of the commands of a recovery: they can be sent one after the other, and end in a flush.
use Rattle.std.specs.Prelude.{◌≡◌, ℕ, zero, suc, ◌+◌, ◌<◌, ◌≤◌, ◌==◌, ◌||◌, Bool, true, false, if◌then◌else◌, List, [], ◌∷◌, ◌++◌, length, take, Some, slice_get, refl}
use Rattle.std.proofs.Common.{sym, ap, ◌∙◌, subst, inl, inr, ⊎_elim, arith, append_assoc, length-append}
use Rattle.std.proofs.lemmas.Bool.{cases_lt, false≢true}
use Rattle.std.proofs.lemmas.List.{take_all, length-take}
use Rattle.std.proofs.lemmas.Option.{none-some, same_Some}
use Rattle.std.proofs.lemmas.List.Elements.{All-cons, All-nil}
use Rattle.blk_base.specs.Members.{In}
use Rattle.blk_base.specs.laws.Members.{slice_get-length, slice_get-take}
use Rattle.order_model.specs.declared.part.Part.{Part}
use Rattle.order_model.specs.declared.command.Command.{Command}
use Rattle.order_model.specs.declared.command.Priority.TheVariants.{Simple, Ordered}
use Rattle.order_model.specs.Received.{all_parts, part_at, command_of_part, all_ids, IsFlush}
use Rattle.order_model.proofs.Received.{all_parts-append, command_of_part-append_old, command_of_part-lt, flush-is, is-flush}
use Rattle.journal_replay.specs.Commands.{write, flush, home_writes, ending, sends, home_of, homes}
use Rattle.journal_replay.specs.laws.Sends.{length-home_writes}
use Rattle.journal_replay.specs.code.Sending.{IsCommand, CanTake}
use Rattle.journal_replay.specs.code.Runs.{FlushedLast}
use Rattle.log_model.specs.Marks.{Logged, Mark}
use Rattle.log_model.specs.Marks.{Keep, Clear, Set}

-- the ids rise from the first on
id_at : (hs : List Logged) (superblock : Logged) (first n i id : ℕ) → n ≡ first + length hs → slice_get (all_ids (home_writes first hs ++ ending n superblock)) i ≡ Some id → id ≡ first + i
id_at [] superblock first n zero id size e = let q = same_Some n id e in omega (arith, q)
id_at [] superblock first n (suc zero) id size e = let q = same_Some (n + 1) id e in omega (arith, q)
id_at [] superblock first n (suc (suc i)) id size e = absurd (none-some id e)
id_at (h ∷ hs) superblock first n zero id size e = let q = same_Some first id e in omega (arith, q)
id_at (h ∷ hs) superblock first n (suc i) id size e = let q = id_at hs superblock (first + 1) n i id (omega arith) e in omega (arith, q)

length-ids : (hs : List Logged) (superblock : Logged) (first n : ℕ) → length (all_ids (home_writes first hs ++ ending n superblock)) ≡ length hs + 2
length-ids [] superblock first n = refl
length-ids (h ∷ hs) superblock first n = let q = length-ids hs superblock (first + 1) n in omega (arith, q)

last_id : (hs : List Logged) (superblock : Logged) (first n : ℕ) → In (n + 1) (all_ids (home_writes first hs ++ ending n superblock))
last_id [] superblock first n = inr (inl refl)
last_id (h ∷ hs) superblock first n = inr (last_id hs superblock (first + 1) n)

part_id : (hs : List Logged) (superblock : Logged) (first n x : ℕ) (p : Part) → n ≡ first + length hs → part_at (home_writes first hs ++ ending n superblock) x ≡ Some p → (p.id ≡ first + x) × (x ≤ length hs)
part_id [] superblock first n zero p size e = let q = ap (λ (r : Part). r.id) (same_Some _ p e) in (omega (arith, q), omega arith)
part_id [] superblock first n (suc x) p size e = absurd (none-some p e)
part_id (h ∷ hs) superblock first n zero p size e = let q = ap (λ (r : Part). r.id) (same_Some _ p e) in (omega (arith, q), omega arith)
part_id (h ∷ hs) superblock first n (suc x) p size e = let q = part_id hs superblock (first + 1) n x p (omega arith) e in (let a = q.0 in omega (arith, a), let b = q.1 in omega (arith, b))

-- the only flush is the last command
flush_at : (hs : List Logged) (superblock : Logged) (first n k id : ℕ) → IsFlush (home_writes first hs ++ ending n superblock) k id → (k ≡ length hs + 1) × (id ≡ n + 1)
flush_at [] superblock first n zero id f = absurd (none-some id f)
flush_at [] superblock first n (suc zero) id f = (refl, sym (same_Some (n + 1) id f))
flush_at [] superblock first n (suc (suc k)) id f = absurd f
flush_at (h ∷ hs) superblock first n zero id f = absurd (none-some id f)
flush_at (h ∷ hs) superblock first n (suc k) id f = let q = flush_at hs superblock (first + 1) n k id f in (let a = q.0 in omega (arith, a), q.1)

pub only_flush : (hs : List Logged) (superblock : Logged) (k id : ℕ) → IsFlush (sends hs superblock) k id → (k ≡ length hs + 1) × (id ≡ length hs + 1)
only_flush hs superblock k id f = flush_at hs superblock 0 (length hs) k id f

pub is_flush_at : (hs : List Logged) (superblock : Logged) (first n : ℕ) → IsFlush (home_writes first hs ++ ending n superblock) (suc (length hs)) (n + 1)
is_flush_at [] superblock first n = refl
is_flush_at (h ∷ hs) superblock first n = is_flush_at hs superblock (first + 1) n

pub length-sends : (hs : List Logged) (superblock : Logged) → length (sends hs superblock) ≡ length hs + 2
length-sends hs superblock = length-append (home_writes 0 hs) (ending (length hs) superblock) ∙ ap (λ (k : ℕ). k + 2) (length-home_writes hs 0)

parts_before : (hs : List Logged) (superblock : Logged) (first n x : ℕ) → x < length (all_parts (home_writes first hs ++ ending n superblock)) → command_of_part (home_writes first hs ++ ending n superblock) x < suc (length hs)
parts_before hs superblock first n x lt =
    let front = home_writes first hs ++ write n superblock true ∷ [] in
    let back : List Command = flush (n + 1) ∷ [] in
    let split : front ++ back ≡ home_writes first hs ++ ending n superblock = append_assoc (home_writes first hs) (write n superblock true ∷ []) back in
    let size = length-append (home_writes first hs) (write n superblock true ∷ []) in
    let count = length-home_writes hs first in
    let parts = ap length (all_parts-append front back) ∙ length-append (all_parts front) (all_parts back) in
    let more = ap (λ (cs : List Command). length (all_parts cs)) split in
    let below : x < length (all_parts front) = omega (arith, lt, parts, more) in
    let same = ap (λ (cs : List Command). command_of_part cs x) (sym split) ∙ command_of_part-append_old front back x below in
    let fine = command_of_part-lt front x below in
    omega (arith, same, fine, size, count)

pub ends_in_flush : (hs : List Logged) (superblock : Logged) → FlushedLast (sends hs superblock) (length hs + 1)
ends_in_flush hs superblock = record {
  at = suc (length hs);
  flush = is_flush_at hs superblock 0 (length hs);
  last = λ x lt. parts_before hs superblock 0 (length hs) x lt;
  alone = λ x p e q. let i = part_id hs superblock 0 (length hs) x p (omega arith) e in let a = i.0 in let b = i.1 in omega (arith, a, b, q);
  listed = last_id hs superblock 0 (length hs);
}

-- a device that took a flush of these took all of them
pub flush_is_last : (hs : List Logged) (superblock : Logged) (j k id : ℕ) → IsFlush (take j (sends hs superblock)) k id → take j (sends hs superblock) ≡ sends hs superblock
flush_is_last hs superblock j k id f =
    let all = length-sends hs superblock in
    let c = flush-is (take j (sends hs superblock)) k id f in
    let lt = slice_get-length (take j (sends hs superblock)) k c.0 c.1 in
    let size = length-take j (sends hs superblock) in
    ⊎_elim
    (λ short.
    let whole : IsFlush (sends hs superblock) k id = is-flush (sends hs superblock) k id c.0 (sym (slice_get-take j (sends hs superblock) k (omega arith)) ∙ c.1) c.2 in
    let at = (only_flush hs superblock k id whole).0 in
    absurd (omega arith))
    (λ long. take_all j (sends hs superblock) long)
    (cases_lt j (length (sends hs superblock)))

ordered_if : (last : Bool) → (last || false) ≡ true → (if last then Ordered else Simple) ≡ Ordered
ordered_if true e = refl
ordered_if false e = absurd (false≢true e)

write_command : (id : ℕ) (h : Logged) (last : Bool) (blocks : ℕ) → h.block < blocks → IsCommand blocks (write id h last)
write_command id h last blocks lt = record { small = omega arith; whole = refl; ordered = λ e. ordered_if last e; within = All-cons (λ (p : Part). p.block < blocks) _ [] lt (All-nil (λ (p : Part). p.block < blocks)) }

flush_command : (id blocks : ℕ) → IsCommand blocks (flush id)
flush_command id blocks = record { small = omega arith; whole = refl; ordered = λ e. refl; within = All-nil (λ (p : Part). p.block < blocks) }

each_command : (hs : List Logged) (superblock : Logged) (first n blocks : ℕ) → ((h : Logged) → In h hs → h.block < blocks) → superblock.block < blocks → (c : Command) → In c (home_writes first hs ++ ending n superblock) → IsCommand blocks c
each_command [] superblock first n blocks homes_in super_in c (inl e) = subst (IsCommand blocks) e (write_command n superblock true blocks super_in)
each_command [] superblock first n blocks homes_in super_in c (inr (inl e)) = subst (IsCommand blocks) e (flush_command (n + 1) blocks)
each_command [] superblock first n blocks homes_in super_in c (inr (inr none)) = absurd none
each_command (g ∷ gs) superblock first n blocks homes_in super_in c (inl e) = subst (IsCommand blocks) e (write_command first g (length gs == 0) blocks (homes_in g (inl refl)))
each_command (g ∷ gs) superblock first n blocks homes_in super_in c (inr h) = each_command gs superblock (first + 1) n blocks (λ k i. homes_in k (inr i)) super_in c h

-- they can be sent, where the blocks are the device's and there are ids enough
pub can_take : (hs : List Logged) (superblock : Logged) (blocks limit : ℕ) → ((h : Logged) → In h hs → h.block < blocks) → superblock.block < blocks → length hs + 2 ≤ limit → CanTake blocks limit (sends hs superblock)
can_take hs superblock blocks limit homes_in super_in room = record {
  each = λ c h. each_command hs superblock 0 (length hs) blocks homes_in super_in c h;
  once = λ i j id e f. let a = id_at hs superblock 0 (length hs) i id (omega arith) e in let b = id_at hs superblock 0 (length hs) j id (omega arith) f in omega (arith, a, b);
  few = let n = length-ids hs superblock 0 (length hs) in omega (arith, n, room);
}

at_most_one : (i : ℕ) (k : Mark) → length (home_of i k) ≤ 1
at_most_one i Keep = omega arith
at_most_one i Clear = omega arith
at_most_one i (Set x) = omega arith

-- at most one home for each block
pub length-homes : (m : ℕ → Mark) (i n : ℕ) → length (homes m i n) ≤ n
length-homes m i zero = omega arith
length-homes m i (suc n) =
    let size = length-append (home_of i (m i)) (homes m (i + 1) n) in
    let one = at_most_one i (m i) in
    let rest = length-homes m (i + 1) n in
    omega (arith, size, one, rest)
