-- Commands, parts and ids of the list that a device received, by their places; and how that list grows.
use Rattle.std.specs.Prelude.{◌≡◌, ℕ, zero, suc, ◌+◌, ◌-◌, ◌<◌, ◌≤◌, ◌++◌, true, false, List, [], ◌∷◌, length, map, take, count_by, Option, Some, None, IsSomeAnd, slice_get, nat_lt, if◌then◌else◌, refl}
use Rattle.std.specs.Option.{option_to_list}
use Rattle.std.proofs.Common.{sym, ap, subst, ◌∙◌, inl, ⊎_elim, arith, length-append, append_assoc}
use Rattle.std.proofs.lemmas.Bool.{cases_lt, lt-ltb, le-ltb, cond-true, cond-false}
use Rattle.std.proofs.lemmas.List.{take-append-le, take-take, append-nil}
use Rattle.std.proofs.lemmas.List.Sums.{sum_by_more, sum_by-take-le}
use Rattle.std.proofs.lemmas.Option.{none-some, same_Some, get_or_from_slice_get}
use Rattle.blk_base.specs.Members.{In}
use Rattle.blk_base.specs.laws.Members.{In-append_left, In-append_right, In-append_cases, In-slice_get, slice_get-length, slice_get-append_left, slice_get-append_right, slice_get-in_range, map-In}
use Rattle.order_model.specs.declared.part.Part.{Part}
use Rattle.order_model.specs.declared.command.Command.{Command}
use Rattle.order_model.specs.Received.{all_parts, part_at, first_part, command_of_part, ids_of, all_ids, epoch_of, IsBarrier, IsFlush}
use Rattle.order_model.specs.Device.{NoneTwice}

-- ---- two lists, and one more command

pub all_parts-append : (xs ys : List Command) → all_parts (xs ++ ys) ≡ all_parts xs ++ all_parts ys
all_parts-append [] ys = refl
all_parts-append (a ∷ xs) ys =
    ap (λ l. a.parts ++ l) (all_parts-append xs ys) ∙ sym (append_assoc a.parts (all_parts xs) (all_parts ys))

pub all_parts-push : (cs : List Command) (c : Command) → all_parts (cs ++ c ∷ []) ≡ all_parts cs ++ c.parts
all_parts-push cs c = all_parts-append cs (c ∷ []) ∙ ap (λ l. all_parts cs ++ l) (append-nil c.parts)

pub length-all_parts-push : (cs : List Command) (c : Command) → length (all_parts (cs ++ c ∷ [])) ≡ length (all_parts cs) + length c.parts
length-all_parts-push cs c = ap length (all_parts-push cs c) ∙ length-append (all_parts cs) c.parts

pub all_ids-append : (xs ys : List Command) → all_ids (xs ++ ys) ≡ all_ids xs ++ all_ids ys
all_ids-append [] ys = refl
all_ids-append (a ∷ xs) ys =
    ap (λ l. ids_of a ++ l) (all_ids-append xs ys) ∙ sym (append_assoc (ids_of a) (all_ids xs) (all_ids ys))

pub all_ids-push : (cs : List Command) (c : Command) → all_ids (cs ++ c ∷ []) ≡ all_ids cs ++ ids_of c
all_ids-push cs c = all_ids-append cs (c ∷ []) ∙ ap (λ l. all_ids cs ++ l) (append-nil (ids_of c))

pub length-all_ids-push : (cs : List Command) (c : Command) → length (all_ids (cs ++ c ∷ [])) ≡ length (all_ids cs) + length (ids_of c)
length-all_ids-push cs c = ap length (all_ids-push cs c) ∙ length-append (all_ids cs) (ids_of c)

-- ---- the command of a place

command_of_part-here : (c : Command) (cs : List Command) (x : ℕ) → x < length c.parts → command_of_part (c ∷ cs) x ≡ 0
command_of_part-here c cs x h = cond-true (nat_lt x (length c.parts)) 0 (command_of_part cs (x - length c.parts) + 1) (lt-ltb x (length c.parts) h)

command_of_part-there : (c : Command) (cs : List Command) (x : ℕ) → length c.parts ≤ x → command_of_part (c ∷ cs) x ≡ command_of_part cs (x - length c.parts) + 1
command_of_part-there c cs x h = cond-false (nat_lt x (length c.parts)) 0 (command_of_part cs (x - length c.parts) + 1) (le-ltb x (length c.parts) h)

pub command_of_part-lt : (cs : List Command) (x : ℕ) → x < length (all_parts cs) → command_of_part cs x < length cs
command_of_part-lt [] x h = absurd (omega arith)
command_of_part-lt (c ∷ cs) x h =
    let n = length-append c.parts (all_parts cs) in
    ⊎_elim
    (λ lt. let here = command_of_part-here c cs x lt in omega arith)
    (λ le. let there = command_of_part-there c cs x le in let rest = command_of_part-lt cs (x - length c.parts) (omega arith) in omega arith)
    (cases_lt x (length c.parts))

pub command_of_part-append_old : (xs ys : List Command) (x : ℕ) → x < length (all_parts xs) → command_of_part (xs ++ ys) x ≡ command_of_part xs x
command_of_part-append_old [] ys x h = absurd (omega arith)
command_of_part-append_old (a ∷ xs) ys x h =
    let n = length-append a.parts (all_parts xs) in
    ⊎_elim
    (λ lt. command_of_part-here a (xs ++ ys) x lt ∙ sym (command_of_part-here a xs x lt))
    (λ le. command_of_part-there a (xs ++ ys) x le ∙ ap (λ k. k + 1) (command_of_part-append_old xs ys (x - length a.parts) (omega arith)) ∙ sym (command_of_part-there a xs x le))
    (cases_lt x (length a.parts))

pub command_of_part-push_old : (cs : List Command) (c : Command) (x : ℕ) → x < length (all_parts cs) → command_of_part (cs ++ c ∷ []) x ≡ command_of_part cs x
command_of_part-push_old cs c x h = command_of_part-append_old cs (c ∷ []) x h

pub command_of_part-push_new : (cs : List Command) (c : Command) (x : ℕ) → length (all_parts cs) ≤ x → x < length (all_parts cs) + length c.parts → command_of_part (cs ++ c ∷ []) x ≡ length cs
command_of_part-push_new [] c x le lt = command_of_part-here c [] x (omega arith)
command_of_part-push_new (d ∷ cs) c x le lt =
    let n = length-append d.parts (all_parts cs) in
    let there = command_of_part-there d (cs ++ c ∷ []) x (omega arith) in
    let rest = command_of_part-push_new cs c (x - length d.parts) (omega arith) (omega arith) in
    omega arith

pub part_at-push_old : (cs : List Command) (c : Command) (x : ℕ) → x < length (all_parts cs) → part_at (cs ++ c ∷ []) x ≡ part_at cs x
part_at-push_old cs c x h =
    ap (λ l. slice_get l x) (all_parts-push cs c) ∙ slice_get-append_left (all_parts cs) c.parts x h

pub command_of_part-mono : (cs : List Command) (x y : ℕ) → x ≤ y → command_of_part cs x ≤ command_of_part cs y
command_of_part-mono [] x y h = omega arith
command_of_part-mono (c ∷ cs) x y h =
    ⊎_elim
    (λ lt. let here = command_of_part-here c cs x lt in omega arith)
    (λ le.
    let a = command_of_part-there c cs x le in
    let b = command_of_part-there c cs y (omega arith) in
    let rest = command_of_part-mono cs (x - length c.parts) (y - length c.parts) (omega arith) in
    omega arith)
    (cases_lt x (length c.parts))

pub command_of_part-earlier : (cs : List Command) (x y : ℕ) → command_of_part cs x < command_of_part cs y → x < y
command_of_part-earlier cs x y h =
    ⊎_elim (λ lt. lt) (λ le. let m = command_of_part-mono cs y x le in absurd (omega arith)) (cases_lt x y)

-- ---- the places of a command

first_part-suc : (c : Command) (cs : List Command) (k : ℕ) → first_part (c ∷ cs) (suc k) ≡ length c.parts + first_part cs k
first_part-suc c cs k = length-append c.parts (all_parts (take k cs))

pub command_of_part-first : (cs : List Command) (k : ℕ) (c : Command) (i : ℕ) → slice_get cs k ≡ Some c → i < length c.parts → command_of_part cs (first_part cs k + i) ≡ k
command_of_part-first [] k c i e lt = absurd (none-some c e)
command_of_part-first (d ∷ cs) zero c i e lt =
    let same = ap (λ (x : Command). length x.parts) (same_Some d c e) in
    command_of_part-here d cs (0 + i) (omega arith)
command_of_part-first (d ∷ cs) (suc k) c i e lt =
    let n = first_part-suc d cs k in
    let there = command_of_part-there d cs (first_part (d ∷ cs) (suc k) + i) (omega arith) in
    let at : (first_part (d ∷ cs) (suc k) + i) - length d.parts ≡ first_part cs k + i = omega arith in
    let rest = ap (command_of_part cs) at ∙ command_of_part-first cs k c i e lt in
    omega arith

pub part_at-first : (cs : List Command) (k : ℕ) (c : Command) (i : ℕ) → slice_get cs k ≡ Some c → i < length c.parts → part_at cs (first_part cs k + i) ≡ slice_get c.parts i
part_at-first [] k c i e lt = absurd (none-some c e)
part_at-first (d ∷ cs) zero c i e lt =
    let same = ap (λ (x : Command). length x.parts) (same_Some d c e) in
    let at : 0 + i ≡ i = omega arith in
    slice_get-append_left d.parts (all_parts cs) (0 + i) (omega arith)
    ∙ ap (slice_get d.parts) at
    ∙ ap (λ (x : Command). slice_get x.parts i) (same_Some d c e)
part_at-first (d ∷ cs) (suc k) c i e lt =
    let n = first_part-suc d cs k in
    let at : (first_part (d ∷ cs) (suc k) + i) - length d.parts ≡ first_part cs k + i = omega arith in
    slice_get-append_right d.parts (all_parts cs) (first_part (d ∷ cs) (suc k) + i) (omega arith)
    ∙ ap (slice_get (all_parts cs)) at
    ∙ part_at-first cs k c i e lt

-- a part belongs to a command, at some place of it
pub record IsPlaceOf (cs : List Command) (x : ℕ) : Type 0 where
  pub command : Command
  pub inside : ℕ
  pub taken : slice_get cs (command_of_part cs x) ≡ Some command
  pub within : inside < length command.parts
  pub place : x ≡ first_part cs (command_of_part cs x) + inside

pub place_of : (cs : List Command) (x : ℕ) → x < length (all_parts cs) → IsPlaceOf cs x
place_of [] x h = absurd (omega arith)
place_of (c ∷ cs) x h =
    ⊎_elim
    (λ lt.
    let here = command_of_part-here c cs x lt in
    record {
      command = c;
      inside = x;
      taken = ap (slice_get (c ∷ cs)) here;
      within = lt;
      place = let f = ap (first_part (c ∷ cs)) here in omega arith;
    })
    (λ le.
    let n = length-append c.parts (all_parts cs) in
    let there = command_of_part-there c cs x le in
    let p = place_of cs (x - length c.parts) (omega arith) in
    let k = command_of_part cs (x - length c.parts) in
    let next : command_of_part (c ∷ cs) x ≡ suc k = omega arith in
    record {
      command = p.command;
      inside = p.inside;
      taken = ap (slice_get (c ∷ cs)) next ∙ p.taken;
      within = p.within;
      place = let f = ap (first_part (c ∷ cs)) next ∙ first_part-suc c cs k in let q = p.place in omega arith;
    })
    (cases_lt x (length c.parts))

-- the part at a place is the one of its command
pub part_at-place : (cs : List Command) (x : ℕ) (p : IsPlaceOf cs x) → part_at cs x ≡ slice_get p.command.parts p.inside
part_at-place cs x p =
    ap (part_at cs) p.place ∙ part_at-first cs (command_of_part cs x) p.command p.inside p.taken p.within

pub first_part-next : (cs : List Command) (k : ℕ) (c : Command) → slice_get cs k ≡ Some c → first_part cs (suc k) ≡ first_part cs k + length c.parts
first_part-next [] k c e = absurd (none-some c e)
first_part-next (d ∷ cs) zero c e =
    let same = ap (λ (x : Command). length x.parts) (same_Some d c e) in
    let n = first_part-suc d cs zero in
    omega arith
first_part-next (d ∷ cs) (suc k) c e =
    let n = first_part-suc d cs k in
    let m = first_part-suc d cs (suc k) in
    let rest = first_part-next cs k c e in
    omega arith

pub first_part-le : (cs : List Command) (k : ℕ) → first_part cs k ≤ length (all_parts cs)
first_part-le [] zero = omega arith
first_part-le [] (suc k) = omega arith
first_part-le (c ∷ cs) zero = omega arith
first_part-le (c ∷ cs) (suc k) =
    let n = first_part-suc c cs k in
    let m = length-append c.parts (all_parts cs) in
    let rest = first_part-le cs k in
    omega arith

-- the parts of a command are among all parts
pub part-lt : (cs : List Command) (k : ℕ) (c : Command) (i : ℕ) → slice_get cs k ≡ Some c → i < length c.parts → first_part cs k + i < length (all_parts cs)
part-lt cs k c i e lt = let n = first_part-next cs k c e in let m = first_part-le cs (suc k) in omega arith

-- ---- epochs

pub epoch_of-push_old : (cs : List Command) (c : Command) (k : ℕ) → k ≤ length cs → epoch_of (cs ++ c ∷ []) k ≡ epoch_of cs k
epoch_of-push_old cs c k h = ap (count_by (λ (d : Command). d.barrier)) (take-append-le k cs (c ∷ []) h)

pub epoch_of-mono : (cs : List Command) (j k : ℕ) → j ≤ k → epoch_of cs j ≤ epoch_of cs k
epoch_of-mono cs j k h =
    let same = ap (count_by (λ (d : Command). d.barrier)) (take-take j k cs h) in
    let le = sum_by-take-le (λ (d : Command). if d.barrier then 1 else 0) (take k cs) j in
    subst (λ n. n ≤ epoch_of cs k) same le

pub epoch_of-suc : (cs : List Command) (k : ℕ) (c : Command) → slice_get cs k ≡ Some c → epoch_of cs (suc k) ≡ epoch_of cs k + (if c.barrier then 1 else 0)
epoch_of-suc cs k c e =
    let more = sum_by_more (λ (d : Command). if d.barrier then 1 else 0) cs k c (slice_get-length cs k c e) in
    let one : suc k ≡ k + 1 = omega arith in
    ap (epoch_of cs) one ∙ more ∙ ap (λ (d : Command). epoch_of cs k + (if d.barrier then 1 else 0)) (get_or_from_slice_get cs k c c e)

pub epoch_of-barrier : (cs : List Command) (k : ℕ) (c : Command) → slice_get cs k ≡ Some c → c.barrier ≡ true → epoch_of cs (suc k) ≡ epoch_of cs k + 1
epoch_of-barrier cs k c e b = rw b at (epoch_of-suc cs k c e)

pub epoch_of-plain : (cs : List Command) (k : ℕ) (c : Command) → slice_get cs k ≡ Some c → c.barrier ≡ false → epoch_of cs (suc k) ≡ epoch_of cs k
epoch_of-plain cs k c e b = let s = rw b at (epoch_of-suc cs k c e) in omega arith

some_and : {P : Command → Type 0} (o : Option Command) → IsSomeAnd o P → (c : Command) × (o ≡ Some c) × P c
some_and None h = absurd h
some_and (Some c) h = (c, refl, h)

pub barrier-is : (cs : List Command) (b : ℕ) → IsBarrier cs b → (c : Command) × (slice_get cs b ≡ Some c) × (c.barrier ≡ true)
barrier-is cs b h = some_and (slice_get cs b) h

pub is-barrier : (cs : List Command) (b : ℕ) (c : Command) → slice_get cs b ≡ Some c → c.barrier ≡ true → IsBarrier cs b
is-barrier cs b c e h = rw e h

pub flush-is : (cs : List Command) (k id : ℕ) → IsFlush cs k id → (c : Command) × (slice_get cs k ≡ Some c) × (c.flush ≡ Some id)
flush-is cs k id h = some_and (slice_get cs k) h

pub is-flush : (cs : List Command) (k id : ℕ) (c : Command) → slice_get cs k ≡ Some c → c.flush ≡ Some id → IsFlush cs k id
is-flush cs k id c e h = rw e h

pub epoch_of-between : (cs : List Command) (x b y : ℕ) → IsBarrier cs b → x ≤ b → b < y → epoch_of cs x < epoch_of cs y
epoch_of-between cs x b y h le lt =
    let c = barrier-is cs b h in
    let up = epoch_of-barrier cs b c.0 c.1 c.2 in
    let low = epoch_of-mono cs x b le in
    let high = epoch_of-mono cs (suc b) y lt in
    omega arith

-- with no barrier from x on to before y, the two are of one epoch
pub epoch_of-flat : (cs : List Command) (x y : ℕ) → x ≤ y → y ≤ length cs → ((b : ℕ) (c : Command) → x ≤ b → b < y → slice_get cs b ≡ Some c → c.barrier ≡ false) → epoch_of cs y ≡ epoch_of cs x
epoch_of-flat cs zero zero le within h = refl
epoch_of-flat cs (suc x) zero le within h = absurd (omega arith)
epoch_of-flat cs x (suc y) le within h =
    ⊎_elim
    (λ lt.
    let c = slice_get-in_range cs y within in
    epoch_of-plain cs y c.0 c.1 (h y c.0 (omega arith) (omega arith) c.1)
    ∙ epoch_of-flat cs x y (omega arith) (omega arith) (λ b d low high e. h b d low (omega arith) e))
    (λ ge. let same : suc y ≡ x = omega arith in ap (epoch_of cs) same)
    (cases_lt x (suc y))

-- ---- ids

-- how many ids stand before those of command k
abbrev pub first_id : List Command → ℕ → ℕ
first_id cs k = length (all_ids (take k cs))

first_id-suc : (c : Command) (cs : List Command) (k : ℕ) → first_id (c ∷ cs) (suc k) ≡ length (ids_of c) + first_id cs k
first_id-suc c cs k = length-append (ids_of c) (all_ids (take k cs))

pub id_at-first : (cs : List Command) (k : ℕ) (c : Command) (i id : ℕ) → slice_get cs k ≡ Some c → slice_get (ids_of c) i ≡ Some id → slice_get (all_ids cs) (first_id cs k + i) ≡ Some id
id_at-first [] k c i id e at = absurd (none-some c e)
id_at-first (d ∷ cs) zero c i id e at =
    let same : slice_get (ids_of d) i ≡ Some id = ap (λ (x : Command). slice_get (ids_of x) i) (same_Some d c e) ∙ at in
    let none : 0 + i ≡ i = omega arith in
    ap (slice_get (all_ids (d ∷ cs))) none
    ∙ slice_get-append_left (ids_of d) (all_ids cs) i (slice_get-length (ids_of d) i id same)
    ∙ same
id_at-first (d ∷ cs) (suc k) c i id e at =
    let n = first_id-suc d cs k in
    let rest : (first_id (d ∷ cs) (suc k) + i) - length (ids_of d) ≡ first_id cs k + i = omega arith in
    slice_get-append_right (ids_of d) (all_ids cs) (first_id (d ∷ cs) (suc k) + i) (omega arith)
    ∙ ap (slice_get (all_ids cs)) rest
    ∙ id_at-first cs k c i id e at

first_id-before : (cs : List Command) (j k : ℕ) (c : Command) (i : ℕ) → j < k → slice_get cs j ≡ Some c → i < length (ids_of c) → first_id cs j + i < first_id cs k
first_id-before [] j k c i lt e within = absurd (none-some c e)
first_id-before (d ∷ cs) j zero c i lt e within = absurd (omega arith)
first_id-before (d ∷ cs) zero (suc k) c i lt e within =
    let same = ap (λ (x : Command). length (ids_of x)) (same_Some d c e) in
    let n = first_id-suc d cs k in
    omega arith
first_id-before (d ∷ cs) (suc j) (suc k) c i lt e within =
    let n = first_id-suc d cs k in
    let m = first_id-suc d cs j in
    let rest = first_id-before cs j k c i (omega arith) e within in
    omega arith

-- an id stands in one command alone
pub id_once : (cs : List Command) (j k : ℕ) (c d : Command) (id : ℕ) → NoneTwice (all_ids cs) → slice_get cs j ≡ Some c → slice_get cs k ≡ Some d → In id (ids_of c) → In id (ids_of d) → j ≡ k
id_once cs j k c d id none e f a b =
    let p = In-slice_get (ids_of c) id a in
    let q = In-slice_get (ids_of d) id b in
    let same = none (first_id cs j + p.0) (first_id cs k + q.0) id (id_at-first cs j c p.0 id e p.2) (id_at-first cs k d q.0 id f q.2) in
    ⊎_elim
    (λ lt. let l = first_id-before cs j k c p.0 lt e p.1 in absurd (omega arith))
    (λ ge.
    ⊎_elim
    (λ lt. let l = first_id-before cs k j d q.0 lt f q.1 in absurd (omega arith))
    (λ le. omega arith)
    (cases_lt k j))
    (cases_lt j k)

-- and once in that command
pub id_once-inside : (cs : List Command) (k : ℕ) (c : Command) (i j id : ℕ) → NoneTwice (all_ids cs) → slice_get cs k ≡ Some c → slice_get (ids_of c) i ≡ Some id → slice_get (ids_of c) j ≡ Some id → i ≡ j
id_once-inside cs k c i j id none e a b =
    let same = none (first_id cs k + i) (first_id cs k + j) id (id_at-first cs k c i id e a) (id_at-first cs k c j id e b) in
    omega arith

pub none_twice-front : (xs ys : List ℕ) → NoneTwice (xs ++ ys) → NoneTwice xs
none_twice-front xs ys none i j id a b =
    none i j id
    (slice_get-append_left xs ys i (slice_get-length xs i id a) ∙ a)
    (slice_get-append_left xs ys j (slice_get-length xs j id b) ∙ b)

pub In-part-id : (c : Command) (p : Part) → In p c.parts → In p.id (ids_of c)
In-part-id c p h =
    In-append_left (map (λ (q : Part). q.id) c.parts) (option_to_list c.flush) p.id (map-In (λ (q : Part). q.id) c.parts p h)

pub In-flush-id : (c : Command) (id : ℕ) → c.flush ≡ Some id → In id (ids_of c)
In-flush-id c id e =
    In-append_right (map (λ (q : Part). q.id) c.parts) (option_to_list c.flush) id (rw e (inl refl))

-- an id is one of a command's
pub all_ids-In : (cs : List Command) (id : ℕ) → In id (all_ids cs) → (k : ℕ) × (c : Command) × (slice_get cs k ≡ Some c) × In id (ids_of c)
all_ids-In [] id h = absurd h
all_ids-In (d ∷ cs) id h =
    ⊎_elim
    (λ l. (0, d, refl, l))
    (λ r. let q = all_ids-In cs id r in (suc q.0, q.1, q.2, q.3))
    (In-append_cases (ids_of d) (all_ids cs) id h)
