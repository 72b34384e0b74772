-- What waits and what is done, and how receiving and transferring a command change both.
use Rattle.std.specs.Prelude.{◌≡◌, ℕ, ◌+◌, ◌<◌, ◌≤◌, ◌++◌, ◌||◌, ◌&&◌, ◌==◌, ◌⊎◌, not, Bool, true, false, List, [], ◌∷◌, length, filter, nat_lt, sum_by, Some, is_some, slice_get, refl, Option, None, map}
use Rattle.std.specs.List.{list_any}
use Rattle.std.proofs.Common.{sym, ap, subst, ◌∙◌, inl, inr, ⊎_elim, arith, length-append}
use Rattle.std.proofs.lemmas.Bool.{cases_Bool, cases_lt, cases_eq, lt-ltb, le-ltb, eq-eqb, and_left, or_parts, not-true, both_ways}
use Rattle.std.proofs.lemmas.List.{length_push, length-map}
use Rattle.std.proofs.lemmas.List.Sums.{sum_by-cons}
use Rattle.std.proofs.lemmas.Option.{same_Some}
use Rattle.blk_base.specs.Members.{In}
use Rattle.blk_base.specs.laws.Members.{In-push, In-push_left, In-push_cases, In-append_cases, In-filter, All-In, list_any-In, all-list_all, slice_get-In, slice_get-length, slice_get-push, slice_get-push_left}
use Rattle.std.specs.Option.{option_to_list}
use Rattle.order_model.specs.declared.part.Part.{Part}
use Rattle.order_model.specs.declared.command.Command.{Command}
use Rattle.order_model.specs.declared.command.Priority.TheVariants.{Ordered}
use Rattle.order_model.specs.Received.{all_parts, part_at, first_part, command_of_part, ids_of, all_ids}
use Rattle.order_model.specs.Device.{Seen, IsReceivable, NoneTwice, is_ordered}
use Rattle.order_model.specs.laws.ArrivalLaws as arrivals
use Rattle.order_model.proofs.Received.{all_parts-push, all_ids-push, command_of_part-first, command_of_part-earlier, place_of, part_at-place, part_at-first}
use Rattle.device_epochs.specs.queue.Queue.{QueueState, Waiting, have_common_block, stands_in_way, is_free, eligible, without, arrived, departed, AreNumbered}
use Rattle.device_epochs.specs.queue.Facts.{IsDone, CommandFacts, QueueFacts}

-- ---- commands

pub commands-received : (blocks limit : ℕ) (s : Seen) (c : Command) → CommandFacts blocks limit s.took → IsReceivable s c → length s.surface ≡ blocks → limit ≡ s.limit → CommandFacts blocks limit (s.took ++ c ∷ [])
commands-received blocks limit s c f r same most =
    record {
      whole = λ d h. ⊎_elim (f.whole d) (λ e. subst (λ (x : Command). is_some x.flush ≡ (length x.parts == 0)) e r.whole) (In-push_cases s.took c d h);
      ordered = λ d h. ⊎_elim (f.ordered d) (λ e. subst (λ (x : Command). (x.barrier || is_some x.flush) ≡ true → x.priority ≡ Ordered) e r.ordered) (In-push_cases s.took c d h);
      within = λ p h.
          ⊎_elim (f.within p)
          (λ i. subst (λ n. p.block < n) same (All-In (λ (q : Part). q.block < length s.surface) c.parts p r.within i))
          (In-append_cases (all_parts s.took) c.parts p (subst (In p) (all_parts-push s.took c) h));
      fresh = subst NoneTwice (sym (all_ids-push s.took c)) r.fresh;
      few = let n = ap length (all_ids-push s.took c) in let m = r.few in omega arith;
    }

-- ---- numbers

-- the number of a command that waits
abbrev number_of : Waiting → ℕ
number_of w = w.number

pub number-lt : (n : ℕ) (ws : List Waiting) (w : Waiting) → AreNumbered n ws → In w ws → w.number < n
number-lt n ws w a h = a.below w h

pub AreNumbered-filter : (p : Waiting → Bool) (n : ℕ) (ws : List Waiting) → AreNumbered n ws → AreNumbered n (filter p ws)
AreNumbered-filter p n ws a = arrivals.AreNumbered-filter number_of p n ws a

-- ---- what is left without one number

pub In-without : (n : ℕ) (ws : List Waiting) (w : Waiting) → In w (without n ws) → In w ws × (w.number ≡ n → ⊥)
In-without n ws w h = arrivals.In-without number_of n ws w h

pub without-In : (n : ℕ) (ws : List Waiting) (w : Waiting) → In w ws → (w.number ≡ n → ⊥) → In w (without n ws)
without-In n ws w h ne = arrivals.without-In number_of n ws w h ne

-- what is summed over those that wait falls by the summand of the one that leaves
pub sum_by-without : (f : Waiting → ℕ) (n : ℕ) (ws : List Waiting) (w : Waiting) → AreNumbered n ws → In w ws → sum_by f (without w.number ws) + f w ≡ sum_by f ws
sum_by-without f n ws w a h = arrivals.sum_by-without number_of f ws w a.rising h

-- one fewer is left
pub length-without : (n : ℕ) (ws : List Waiting) (w : Waiting) → AreNumbered n ws → In w ws → length (without w.number ws) + 1 ≡ length ws
length-without n ws w a h =
    let before = each-one ws in
    let after = each-one (without w.number ws) in
    let sums = sum_by-without (λ v. 1) n ws w a h in
    omega (arith, before, after, sums)
  where
    each-one : (vs : List Waiting) → sum_by (λ (v : Waiting). 1) vs ≡ length vs
    each-one [] = refl
    each-one (v ∷ vs) = let first = sum_by-cons (λ (x : Waiting). 1) v vs in let rest = each-one vs in omega (arith, first, rest)

-- Where what was taken waits or was made, there is room in the queue exactly where fewer were taken than it holds and were made.
pub room-counted : (off : Bool) (waiting depth made took : ℕ) → waiting + made ≡ took → (not off && nat_lt waiting depth) ≡ (not off && nat_lt took (depth + made))
room-counted off waiting depth made took e =
    elim (cases_lt waiting depth) [
      | inl lt ↦ ap (λ b. not off && b) (lt-ltb waiting depth lt ∙ sym (lt-ltb took (depth + made) (omega (arith, lt, e))))
      | inr le ↦ ap (λ b. not off && b) (le-ltb waiting depth le ∙ sym (le-ltb took (depth + made) (omega (arith, le, e))))
    ]

pub length-filter-le : {X : Type 0} (p : X → Bool) (xs : List X) → length (filter p xs) ≤ length xs
length-filter-le p [] = omega arith
length-filter-le p (x ∷ xs) =
    let rest = length-filter-le p xs in
    elim (cases_Bool (p x)) [
      | inl t ↦ rw t (omega arith)
      | inr f ↦ rw f (omega arith)
    ]

-- a filter that leaves one out is shorter
pub length-filter-lt : {X : Type 0} (p : X → Bool) (xs : List X) (x : X) → In x xs → p x ≡ false → length (filter p xs) < length xs
length-filter-lt p [] x h f = absurd h
length-filter-lt p (y ∷ ys) x (inl e) f =
    let rest = length-filter-le p ys in
    let out : p y ≡ false = ap p e ∙ f in
    rw out (omega arith)
length-filter-lt p (y ∷ ys) x (inr h) f =
    let rest = length-filter-lt p ys x h f in
    elim (cases_Bool (p y)) [
      | inl t ↦ rw t (omega arith)
      | inr g ↦ rw g (omega arith)
    ]

-- ---- done

pub done-received : (took : List Command) (ws : List Waiting) (c : Command) (w : Waiting) (k : ℕ) → w.number ≡ length took → IsDone (took ++ c ∷ []) (ws ++ w ∷ []) k → IsDone took ws k
done-received took ws c w k e d =
    let n = length_push took c in
    let lt = d.taken in
    record {
      taken =
          ⊎_elim (λ l. l)
          (λ le. absurd (d.gone w (In-push ws w) (omega arith)))
          (cases_lt k (length took));
      gone = λ v h q. d.gone v (In-push_left ws w v h) q;
    }

pub received-done : (took : List Command) (ws : List Waiting) (c : Command) (w : Waiting) (k : ℕ) → w.number ≡ length took → IsDone took ws k → IsDone (took ++ c ∷ []) (ws ++ w ∷ []) k
received-done took ws c w k e d =
    let n = length_push took c in
    let lt = d.taken in
    record {
      taken = omega arith;
      gone = λ v h q.
          ⊎_elim (λ i. d.gone v i q)
          (λ s. let same = ap (λ (x : Waiting). x.number) s in omega arith)
          (In-push_cases ws w v h);
    }

pub done-moved : (took : List Command) (ws : List Waiting) (n k : ℕ) → IsDone took (without n ws) k → IsDone took ws k ⊎ (k ≡ n)
done-moved took ws n k d =
    ⊎_elim inr
    (λ ne. inl (record {
      taken = d.taken;
      gone = λ v h q. d.gone v (without-In n ws v h (λ e. ne (sym q ∙ e))) q;
    }))
    (cases_eq k n)

pub moved-done : (took : List Command) (ws : List Waiting) (n k : ℕ) → IsDone took ws k → IsDone took (without n ws) k
moved-done took ws n k d =
    record { taken = d.taken; gone = λ v h q. d.gone v (In-without n ws v h).0 q }

-- the command that left is done
pub moved-done-now : (took : List Command) (ws : List Waiting) (n : ℕ) → n < length took → IsDone took (without n ws) n
moved-done-now took ws n lt =
    record { taken = lt; gone = λ v h q. (In-without n ws v h).1 q }

-- ---- the queue's facts

pub queue-received : (took : List Command) (q : QueueState) (c : Command) → QueueFacts took q → QueueFacts (took ++ c ∷ []) (arrived q c)
queue-received took q c f =
    let w : Waiting = record { number = q.next; command = c } in
    let at = f.next in
    record {
      some_depth = f.some_depth;
      next = let n = length_push took c in omega arith;
      numbered = arrivals.AreNumbered-push number_of q.next q.waiting w f.numbered refl;
      queued = λ v h.
          ⊎_elim
          (λ i. slice_get-push_left took c v.number (slice_get-length took v.number v.command (f.queued v i)) ∙ f.queued v i)
          (λ e. subst (λ (x : Waiting). slice_get (took ++ c ∷ []) x.number ≡ Some x.command) e (ap (slice_get (took ++ c ∷ [])) at ∙ slice_get-push took c))
          (In-push_cases q.waiting w v h);
      passed = λ v k d h done e.
          let before = done-received took q.waiting c w k at done in
          let lt = before.taken in
          ⊎_elim
          (λ i. f.passed v k d i before (sym (slice_get-push_left took c k lt) ∙ e))
          (λ s.
          let same = ap (λ (x : Waiting). x.number) s in
          and_left (nat_lt v.number k) (is_ordered v.command.priority || (is_ordered d.priority || have_common_block v.command.parts d.parts)) (le-ltb v.number k (omega arith)))
          (In-push_cases q.waiting w v h);
    }

pub eligible-waits : (ws : List Waiting) (w : Waiting) → In w (eligible ws) → In w ws
eligible-waits ws w h = (In-filter (is_free ws) ws w h).0

-- nothing that waits stands in the way of an eligible command
pub eligible_clear : (ws : List Waiting) (w v : Waiting) → In w (eligible ws) → In v ws → stands_in_way v w ≡ false
eligible_clear ws w v h i =
    not-true (stands_in_way v w) (all-list_all (λ x. not (stands_in_way x w)) ws v (In-filter (is_free ws) ws w h).1 i)

pub queue-moved : (took : List Command) (q : QueueState) (w : Waiting) → QueueFacts took q → In w (eligible q.waiting) → QueueFacts took (departed q (Some w))
queue-moved took q w f h =
    record {
      some_depth = f.some_depth;
      next = f.next;
      numbered = AreNumbered-filter (λ v. not (v.number == w.number)) q.next q.waiting f.numbered;
      queued = λ v i. f.queued v (In-without w.number q.waiting v i).0;
      passed = λ v k c i done e.
          let there = (In-without w.number q.waiting v i).0 in
          ⊎_elim
          (λ d. f.passed v k c there d e)
          (λ same.
          let at : slice_get took w.number ≡ Some c = ap (slice_get took) (sym same) ∙ e in
          let it : w.command ≡ c = same_Some w.command c (sym (f.queued w (eligible-waits q.waiting w h)) ∙ at) in
          subst (λ (n : ℕ). stands_in_way v (record { number = n; command = c }) ≡ false) (sym same)
          (subst (λ (d : Command). stands_in_way v (record { number = w.number; command = d }) ≡ false) it (eligible_clear q.waiting w v h there)))
          (done-moved took q.waiting w.number k done);
    }

-- ---- what does not stand in the way

-- an earlier command that does not stand in the way of a later one: neither is ORDERED, and they have no block in common
pub record AreApart (w v : Waiting) : Type 0 where
  pub first : is_ordered w.command.priority ≡ false
  pub second : is_ordered v.command.priority ≡ false
  pub blocks : have_common_block w.command.parts v.command.parts ≡ false

pub apart : (w v : Waiting) → w.number < v.number → stands_in_way w v ≡ false → AreApart w v
apart w v lt e =
    let rest : (is_ordered w.command.priority || (is_ordered v.command.priority || have_common_block w.command.parts v.command.parts)) ≡ false = rw (lt-ltb w.number v.number lt) at e in
    let one = or_parts (is_ordered w.command.priority) (is_ordered v.command.priority || have_common_block w.command.parts v.command.parts) rest in
    let two = or_parts (is_ordered v.command.priority) (have_common_block w.command.parts v.command.parts) one.1 in
    record { first = one.0; second = two.0; blocks = two.1 }

pub common_block : (ps qs : List Part) (p q : Part) → In p ps → In q qs → p.block ≡ q.block → have_common_block ps qs ≡ true
common_block ps qs p q i j e =
    list_any-In (λ (x : Part). list_any (λ (y : Part). x.block == y.block) qs) ps p i
    (list_any-In (λ (y : Part). p.block == y.block) qs q j (eq-eqb p.block q.block e))

-- a command that waits and a later one that is done
pub waiting-done_apart : (took : List Command) (q : QueueState) (w : Waiting) (k : ℕ) (c : Command) → QueueFacts took q → In w q.waiting → IsDone took q.waiting k → slice_get took k ≡ Some c → w.number < k → AreApart w (record { number = k; command = c })
waiting-done_apart took q w k c f h d e lt = apart w (record { number = k; command = c }) lt (f.passed w k c h d e)

-- with a block in common, what is done stands before what waits
pub done-before : (took : List Command) (q : QueueState) (w : Waiting) (k : ℕ) (c : Command) → QueueFacts took q → In w q.waiting → IsDone took q.waiting k → slice_get took k ≡ Some c → have_common_block w.command.parts c.parts ≡ true → k < w.number
done-before took q w k c f h d e common =
    ⊎_elim (λ lt. lt)
    (λ le.
    ⊎_elim
    (λ same. absurd (d.gone w h (sym same)))
    (λ ne. absurd (both_ways (have_common_block w.command.parts c.parts) (waiting-done_apart took q w k c f h d e (omega arith)).blocks common))
    (cases_eq k w.number))
    (cases_lt k w.number)

-- the same of a part that is done, and of one that waits
pub place-before : (took : List Command) (q : QueueState) (w : Waiting) (x i : ℕ) (p r : Part) → QueueFacts took q → In w q.waiting → x < length (all_parts took) → IsDone took q.waiting (command_of_part took x) → part_at took x ≡ Some p → slice_get w.command.parts i ≡ Some r → r.block ≡ p.block → x < first_part took w.number + i
place-before took q w x i p r f h lt d e g same =
    let at = place_of took x lt in
    let inside = slice_get-In at.command.parts at.inside p (sym (part_at-place took x at) ∙ e) in
    let before = done-before took q w (command_of_part took x) at.command f h d at.taken (common_block w.command.parts at.command.parts r p (slice_get-In w.command.parts i r g) inside same) in
    let it = command_of_part-first took w.number w.command i (f.queued w h) (slice_get-length w.command.parts i r g) in
    command_of_part-earlier took x (first_part took w.number + i) (omega arith)

-- ---- the parts of what waits

pub part_at-lt : (took : List Command) (x : ℕ) (p : Part) → part_at took x ≡ Some p → x < length (all_parts took)
part_at-lt took x p e = slice_get-length (all_parts took) x p e

-- a part of a command that waits
pub parts_of-waiting : (took : List Command) (queue : QueueState) (w : Waiting) (i : ℕ) (p : Part) → QueueFacts took queue → In w queue.waiting → slice_get w.command.parts i ≡ Some p
    → (part_at took (first_part took w.number + i) ≡ Some p) × (command_of_part took (first_part took w.number + i) ≡ w.number)
parts_of-waiting took queue w i p f h e =
    let at = f.queued w h in
    let lt = slice_get-length w.command.parts i p e in
    (part_at-first took w.number w.command i at lt ∙ e, command_of_part-first took w.number w.command i at lt)

-- the part at a place of a command that waits
pub part_of-waiting : (took : List Command) (queue : QueueState) (w : Waiting) (x : ℕ) (p : Part) → QueueFacts took queue → In w queue.waiting → part_at took x ≡ Some p → command_of_part took x ≡ w.number
    → (i : ℕ) × (x ≡ first_part took w.number + i) × (slice_get w.command.parts i ≡ Some p)
part_of-waiting took queue w x p f h e c =
    let at = place_of took x (part_at-lt took x p e) in
    let same : at.command ≡ w.command = same_Some at.command w.command (sym at.taken ∙ ap (slice_get took) c ∙ f.queued w h) in
    (at.inside, at.place ∙ ap (λ n. first_part took n + at.inside) c, ap (λ (d : Command). slice_get d.parts at.inside) (sym same) ∙ sym (part_at-place took x at) ∙ e)

-- ---- commands and parts, by their ids

pub parts-le_ids : (c : Command) → length c.parts ≤ length (ids_of c)
parts-le_ids c =
    let n = length-append (map (λ (p : Part). p.id) c.parts) (option_to_list c.flush) in
    let m = length-map c.parts (λ (p : Part). p.id) in
    omega arith

flush-some_ids : (o : Option ℕ) → is_some o ≡ true → 0 < length (option_to_list o)
flush-some_ids None e = absurd (both_ways false refl e)
flush-some_ids (Some id) e = omega arith

-- a command that is a flush or has parts has some id
pub some_ids : (c : Command) → is_some c.flush ≡ (length c.parts == 0) → 0 < length (ids_of c)
some_ids c whole =
    let n = length-append (map (λ (p : Part). p.id) c.parts) (option_to_list c.flush) in
    let m = length-map c.parts (λ (p : Part). p.id) in
    ⊎_elim
    (λ some. omega arith)
    (λ none.
    let k = flush-some_ids c.flush (whole ∙ eq-eqb (length c.parts) 0 (omega arith)) in
    omega arith)
    (cases_lt 0 (length c.parts))

pub all_parts-le_ids : (took : List Command) → length (all_parts took) ≤ length (all_ids took)
all_parts-le_ids [] = omega arith
all_parts-le_ids (c ∷ cs) =
    let parts = length-append c.parts (all_parts cs) in
    let ids = length-append (ids_of c) (all_ids cs) in
    let one = parts-le_ids c in
    let rest = all_parts-le_ids cs in
    omega arith

pub took-le_ids : (took : List Command) → ((c : Command) → In c took → is_some c.flush ≡ (length c.parts == 0)) → length took ≤ length (all_ids took)
took-le_ids [] h = omega arith
took-le_ids (c ∷ cs) h =
    let ids = length-append (ids_of c) (all_ids cs) in
    let one = some_ids c (h c (inl refl)) in
    let rest = took-le_ids cs (λ d i. h d (inr i)) in
    omega arith
