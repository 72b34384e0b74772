-- What passes the tests meets the conditions.
use Rattle.std.proofs.Common.{◌≡◌, ℕ, ◌+◌, ◌<◌, ◌≤◌, ◌==◌, ◌&&◌, ◌||◌, not, nat_lt, nat_le, zero, suc, Bool, true, false, List, [], ◌∷◌, ◌++◌, length, map, set, replicate, unwrap_or, Option, Some, None, is_some, slice_index_or, refl, sym, ap, subst, ◌∙◌, arith, ⊎_elim, if◌then◌else◌, append_assoc}
use Rattle.std.specs.List.{All}
use Rattle.std.proofs.lemmas.Bool.{true≢false, false≢true, and_parts}
use Rattle.std.proofs.lemmas.List.{append-nil, length-append, length-set}
use Rattle.std.proofs.lemmas.List.Elements.{All-cons, All-nil}
use Rattle.std.proofs.lemmas.Option.{none-some, same_Some}
use Rattle.blk_base.specs.Members.{In}
use Rattle.blk_base.specs.laws.Members.{In-push_cases, slice_get-push_cases, slice_get-In, map-In}
use Rattle.order_model.specs.declared.part.Part.{Part}
use Rattle.order_model.specs.declared.command.Command.{Command}
use Rattle.order_model.specs.declared.command.Priority.{Priority}
use Rattle.order_model.specs.declared.command.Priority.TheVariants.{Simple, Ordered}
use Rattle.order_model.specs.declared.request.Kind.{Kind}
use Rattle.order_model.specs.declared.request.Kind.TheVariants.{Flush}
use Rattle.order_model.specs.declared.request.Request.{Request}
use Rattle.order_model.specs.OrderClosed.{is_flush}
use Rattle.order_model.specs.Carrying.{SchedSeen}
use Rattle.order_model.specs.Device.{Seen, IsReceivable, NoneTwice, is_ordered}
use Rattle.order_model.specs.Received.{all_ids, ids_of}
use Rattle.schedulers.specs.reassign.Scheduler.{IsAcceptable}
use Rattle.thread_sides.specs.Admitted.{is_new, AreFlagged, keeps_flags, may_accept, take_new, all_within, same_bool, is_well_formed, is_fit, may_take, count_set, flags_behind, AreCounted}

lt_of : (n m : ℕ) → nat_lt n m ≡ true → n < m
lt_of n m e = grind (arith, e)

le_of : (n m : ℕ) → nat_le n m ≡ true → n ≤ m
le_of n m e = grind (arith, e)

not_true : (b : Bool) → not b ≡ true → b ≡ false
not_true true e = absurd (false≢true e)
not_true false e = refl

-- ---- flags

set_there : (flags : List Bool) (id : ℕ) → id < length flags → slice_index_or (set flags id true) id false ≡ true
set_there [] id lt = absurd (omega (arith, lt))
set_there (f ∷ fs) zero lt = refl
set_there (f ∷ fs) (suc id) lt = set_there fs id (omega (arith, lt))

set_true : (flags : List Bool) (id x : ℕ) → slice_index_or flags x false ≡ true → slice_index_or (set flags id true) x false ≡ true
set_true [] id x e = e
set_true (f ∷ fs) zero zero e = refl
set_true (f ∷ fs) zero (suc x) e = e
set_true (f ∷ fs) (suc id) zero e = e
set_true (f ∷ fs) (suc id) (suc x) e = set_true fs id x e

pub flagged_more : (ids : List ℕ) (flags : List Bool) (id : ℕ) → AreFlagged flags ids → AreFlagged (set flags id true) (ids ++ id ∷ [])
flagged_more ids flags id old x here lt =
    let len = length-set flags id true in
    let less : x < length flags = omega (arith, lt, len) in
    ⊎_elim (λ i. set_true flags id x (old x i less)) (λ (e : id ≡ x). subst (λ (y : ℕ). slice_index_or (set flags id true) y false ≡ true) e (set_there flags id (subst (λ (y : ℕ). y < length flags) (sym e) less)))
    (In-push_cases ids id x here)

-- an id that is new did not come
new_not_in : (flags : List Bool) (ids : List ℕ) (id : ℕ) → AreFlagged flags ids → is_new flags id ≡ true → In id ids → ⊥
new_not_in flags ids id old is here =
    let both = and_parts (nat_lt id (length flags)) (not (slice_index_or flags id false)) is in
    false≢true (sym (not_true (slice_index_or flags id false) both.1) ∙ old id here (lt_of id (length flags) both.0))

once_more : (ids : List ℕ) (id : ℕ) → NoneTwice ids → (In id ids → ⊥) → NoneTwice (ids ++ id ∷ [])
once_more ids id once apart i j x at_i at_j =
    ⊎_elim
    (λ a. ⊎_elim (λ b. once i j x a b) (λ b. absurd (apart (subst (λ (y : ℕ). In y ids) (sym b.1) (slice_get-In ids i x a)))) (slice_get-push_cases ids id j x at_j))
    (λ a. ⊎_elim (λ b. absurd (apart (subst (λ (y : ℕ). In y ids) (sym a.1) (slice_get-In ids j x b)))) (λ b. a.0 ∙ sym b.0) (slice_get-push_cases ids id j x at_j))
    (slice_get-push_cases ids id i x at_i)

pub record Came (flags after : List Bool) (old ids : List ℕ) : Type 0 where
  pub flagged : AreFlagged after (old ++ ids)
  pub once : NoneTwice old → NoneTwice (old ++ ids)
  pub same : length after ≡ length flags
  pub counted : count_set after ≡ count_set flags + length ids

count_more' : (flags : List Bool) (id : ℕ) → id < length flags → slice_index_or flags id false ≡ false → count_set (set flags id true) ≡ count_set flags + 1
count_more' [] id lt e = absurd (omega (arith, lt))
count_more' (true ∷ fs) zero lt e = absurd (true≢false e)
count_more' (false ∷ fs) zero lt e = omega arith
count_more' (true ∷ fs) (suc id) lt e = let n = count_more' fs id (omega (arith, lt)) e in omega (arith, n)
count_more' (false ∷ fs) (suc id) lt e = count_more' fs id (omega (arith, lt)) e

count_more : (flags : List Bool) (id : ℕ) → is_new flags id ≡ true → count_set (set flags id true) ≡ count_set flags + 1
count_more flags id is =
    let both = and_parts (nat_lt id (length flags)) (not (slice_index_or flags id false)) is in
    count_more' flags id (lt_of id (length flags) both.0) (not_true (slice_index_or flags id false) both.1)

count_few : (flags : List Bool) → count_set flags ≤ length flags
count_few [] = omega arith
count_few (true ∷ fs) = let n = count_few fs in omega (arith, n)
count_few (false ∷ fs) = let n = count_few fs in omega (arith, n)

pub count_none : (n : ℕ) → count_set (replicate n false) ≡ 0
count_none zero = refl
count_none (suc n) = count_none n

-- no id came yet
pub none_came : (n : ℕ) → AreCounted (replicate n false) []
none_came n = record { flagged = λ id here. absurd here; once = λ i j id at. absurd (none-some id at); counted = sym (count_none n) }

take_one : (b : Bool) (flags after : List Bool) (id : ℕ) (ids : List ℕ) → (if b then take_new (set flags id true) ids else None) ≡ Some after → (b ≡ true) × (take_new (set flags id true) ids ≡ Some after)
take_one true flags after id ids e = (refl, e)
take_one false flags after id ids e = absurd (none-some after e)

pub came : (flags after : List Bool) (old ids : List ℕ) → AreFlagged flags old → take_new flags ids ≡ Some after → Came flags after old ids
came flags after old [] fl e =
    let same = same_Some flags after e in
    subst (λ (a : List Bool). Came flags a old []) same (record {
      flagged = subst (AreFlagged flags) (sym (append-nil old)) fl;
      once = subst NoneTwice (sym (append-nil old));
      same = refl;
      counted = omega arith;
    })
came flags after old (id ∷ ids) fl e =
    let one = take_one (is_new flags id) flags after id ids e in
    let rest = came (set flags id true) after (old ++ id ∷ []) ids (flagged_more old flags id fl) one.1 in
    let joined = append_assoc old (id ∷ []) ids in
    record {
      flagged = subst (AreFlagged after) joined rest.flagged;
      once = λ once. subst NoneTwice joined (rest.once (once_more old id once (new_not_in flags old id fl one.0)));
      same = rest.same ∙ length-set flags id true;
      counted = (let n = rest.counted in let m = count_more flags id one.0 in omega (arith, n, m));
    }

pub all_ids_more : (cs : List Command) (c : Command) → all_ids (cs ++ c ∷ []) ≡ all_ids cs ++ ids_of c
all_ids_more [] c = append-nil (ids_of c)
all_ids_more (d ∷ cs) c = ap (λ l. ids_of d ++ l) (all_ids_more cs c) ∙ sym (append_assoc (ids_of d) (all_ids cs) (ids_of c))

-- ---- requests

implies : (a b : Bool) → (not a || b) ≡ true → a ≡ true → b ≡ true
implies true b e is_so = e
implies false b e is_so = absurd (false≢true is_so)

is_flush_of : (k : Kind) → k ≡ Flush → is_flush k ≡ true
is_flush_of k e = ap is_flush e

pub acceptable : (p : SchedSeen) (flags : List Bool) (r : Request) → AreFlagged flags (map (λ (q : Request). q.id) p.accepted) → length flags ≡ p.limit → may_accept flags (length p.accepted) r ≡ true → IsAcceptable p r
acceptable p flags r fl limit may =
    let one = and_parts (nat_lt (length p.accepted) (length flags) && is_new flags r.id) (keeps_flags r) may in
    let two = and_parts (nat_lt (length p.accepted) (length flags)) (is_new flags r.id) one.0 in
    let three = and_parts (not r.barrier || r.ordered) (not (is_flush r.kind) || (r.ordered && r.barrier)) one.1 in
    record {
      few = (let lt = lt_of (length p.accepted) (length flags) two.0 in omega (arith, lt, limit));
      new = λ q here e. new_not_in flags (map (λ (q : Request). q.id) p.accepted) r.id fl two.1 (subst (λ x. In x (map (λ (q : Request). q.id) p.accepted)) e (map-In (λ (q : Request). q.id) p.accepted q here));
      barrier = implies r.barrier r.ordered three.0;
      flush = λ e. and_parts r.ordered r.barrier (implies (is_flush r.kind) (r.ordered && r.barrier) three.1 (is_flush_of r.kind e));
    }

-- ---- commands

same_of : (a b : Bool) → same_bool a b ≡ true → a ≡ b
same_of true b e = sym e
same_of false b e = sym (not_true b e)

ordered_of : (p : Priority) → is_ordered p ≡ true → p ≡ Ordered
ordered_of Ordered e = refl
ordered_of Simple e = absurd (false≢true e)

or_not : (a b : Bool) → (a || not b) ≡ true → b ≡ true → a ≡ true
or_not true b e is_so = refl
or_not false b e is_so = absurd (false≢true (sym (not_true b e) ∙ is_so))

within_all : (blocks : ℕ) (ps : List Part) → all_within blocks ps ≡ true → All (λ (p : Part). p.block < blocks) ps
within_all blocks [] e = All-nil (λ (p : Part). p.block < blocks)
within_all blocks (p ∷ ps) e = let both = and_parts (nat_lt p.block blocks) (all_within blocks ps) e in All-cons (λ (p : Part). p.block < blocks) p ps (lt_of p.block blocks both.0) (within_all blocks ps both.1)

some_of : (o : Option (List Bool)) → is_some o ≡ true → o ≡ Some (unwrap_or o [])
some_of (Some x) e = refl
some_of None e = absurd (false≢true e)

module _ (flags : List Bool) (blocks : ℕ) (c : Command) (may : may_take flags blocks c ≡ true) where
  abbrev both : (is_fit blocks c ≡ true) × (is_some (take_new flags (ids_of c)) ≡ true)
  both = and_parts (is_fit blocks c) (is_some (take_new flags (ids_of c))) may

  new_flags : take_new flags (ids_of c) ≡ Some (flags_behind flags c)
  new_flags = some_of (take_new flags (ids_of c)) both.1

  pub counted_more : (cs : List Command) → AreCounted flags (all_ids cs) → AreCounted (flags_behind flags c) (all_ids (cs ++ c ∷ []))
  counted_more cs old =
      let all = came flags (flags_behind flags c) (all_ids cs) (ids_of c) old.flagged new_flags in
      subst (AreCounted (flags_behind flags c)) (sym (all_ids_more cs c)) (record {
        flagged = all.flagged;
        once = all.once old.once;
        counted = (let n = old.counted in let m = all.counted in let k = length-append (all_ids cs) (ids_of c) in omega (arith, n, m, k));
      })

  pub same_length : length (flags_behind flags c) ≡ length flags
  same_length = (came flags (flags_behind flags c) [] (ids_of c) (λ id here. absurd here) new_flags).same

pub receivable : (d : Seen) (flags : List Bool) (c : Command) → AreCounted flags (all_ids d.took) → length flags ≡ d.limit → may_take flags (length d.surface) c ≡ true → IsReceivable d c
receivable d flags c old limit may =
    let one = both flags (length d.surface) c may in
    let two = and_parts (nat_le (length c.parts) 16 && is_well_formed c) (all_within (length d.surface) c.parts) one.0 in
    let zero = and_parts (nat_le (length c.parts) 16) (is_well_formed c) two.0 in
    let three = and_parts (same_bool (is_some c.flush) (length c.parts == 0)) (is_ordered c.priority || not (c.barrier || is_some c.flush)) zero.1 in
    let all = came flags (flags_behind flags c) (all_ids d.took) (ids_of c) old.flagged (new_flags flags (length d.surface) c may) in
    record {
      small = le_of (length c.parts) 16 zero.0;
      whole = same_of (is_some c.flush) (length c.parts == 0) three.0;
      ordered = λ e. ordered_of c.priority (or_not (is_ordered c.priority) (c.barrier || is_some c.flush) three.1 e);
      within = within_all (length d.surface) c.parts two.1;
      fresh = all.once old.once;
      few = (let k = count_few (flags_behind flags c) in let s = all.same in let n = old.counted in let m = all.counted in let l = length-append (all_ids d.took) (ids_of c) in omega (arith, k, s, n, m, l, limit));
    }

-- ---- ids in two lists

pub behind_new : (flags after : List Bool) (xs ys : List ℕ) → take_new flags xs ≡ Some after → take_new flags (xs ++ ys) ≡ take_new after ys
behind_new flags after [] ys e = ap (λ l. take_new l ys) (same_Some flags after e)
behind_new flags after (id ∷ xs) ys e =
    let one = take_one (is_new flags id) flags after id xs e in
    ap (λ (b : Bool). if b then take_new (set flags id true) (xs ++ ys) else None) one.0 ∙ behind_new (set flags id true) after xs ys one.1

pub none_new : (flags : List Bool) (xs ys : List ℕ) → take_new flags xs ≡ None → take_new flags (xs ++ ys) ≡ None
none_new flags [] ys e = absurd (none-some flags (sym e))
none_new flags (id ∷ xs) ys e = by (is_new flags id) (none_new (set flags id true) xs ys) e
  where
    by : (b : Bool) → (take_new (set flags id true) xs ≡ None → take_new (set flags id true) (xs ++ ys) ≡ None) → (if b then take_new (set flags id true) xs else None) ≡ None → (if b then take_new (set flags id true) (xs ++ ys) else None) ≡ None
    by true rest e = rest e
    by false rest e = refl

pub one_new : (flags : List Bool) (id : ℕ) → is_new flags id ≡ true → take_new flags (id ∷ []) ≡ Some (set flags id true)
one_new flags id e = ap (λ (b : Bool). if b then Some (set flags id true) else None) e

pub no_new : (flags : List Bool) (id : ℕ) → is_new flags id ≡ false → take_new flags (id ∷ []) ≡ None
no_new flags id e = ap (λ (b : Bool). if b then Some (set flags id true) else None) e
