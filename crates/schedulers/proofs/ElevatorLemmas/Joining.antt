-- The put that joins a command: the first of its block, where it is of the command's class.
use Rattle.std.proofs.Common.{◌≡◌, ℕ, ◌+◌, ◌-◌, ◌<◌, ◌≤◌, ◌++◌, Bool, true, false, List, [], ◌∷◌, length, find, not, ◌==◌, Some, None, slice_get, refl, sym, ap, subst, ◌∙◌, ap₂, arith, inl, inr, ⊎_elim, zero, suc, if◌then◌else◌}
use Rattle.std.proofs.Math.Bool.{beq}
use Rattle.std.specs.Option.{option_map_or}
use Rattle.std.proofs.lemmas.Bool.{cases_Bool, both_ways, false≢true, and_parts, and_from, eqb-true, eq-eqb}
use Rattle.std.proofs.lemmas.List.{length_push}
use Rattle.std.proofs.lemmas.Option.{none-some, same_Some}
use Rattle.blk_base.specs.Members.{In}
use Rattle.blk_base.specs.laws.Members.{In-filter, In-slice_get, IsAscending-filter, slice_get-push}
use Rattle.order_model.specs.declared.part.Part.{Part}
use Rattle.order_model.specs.declared.command.Command.{Command}
use Rattle.order_model.specs.declared.request.Kind.{Kind}
use Rattle.order_model.specs.declared.request.Kind.TheVariants.{Put, Flush}
use Rattle.order_model.specs.declared.request.Request.{Request}
use Rattle.order_model.specs.Parts.{block_follows}
use Rattle.order_model.specs.Single.{parts_for}
use Rattle.order_model.specs.OrderClosed.{kind_block}
use Rattle.schedulers.specs.reassign.Epoch.{EpochState, Waiting, may_leave, eligible, departed, leaving, leaves_flagged}
use Rattle.schedulers.specs.elevator.Elevator.{Gathering, is_put_of, has_class, joins, next_part, joined, taken, gathered}
use Rattle.schedulers.specs.elevator.laws.Eligible.{IsRising, IsPutAt, eligible-same}
use Rattle.schedulers.specs.elevator.laws.Valid.{next-joins}
use Rattle.schedulers.specs.elevator.code.Found.{block_there, IsFirstPut, IsJoining}
use Rattle.schedulers.proofs.ElevatorLemmas.Steps.{leaving-some}
use Rattle.schedulers.proofs.ElevatorLemmas.Finding.{put_there, there_put, first_listed}

-- ---- what is found

find_one : {X : Type 0} (p : X → Bool) (xs : List X) (x : X) → In x xs → p x ≡ true → ((y : X) → In y xs → p y ≡ true → y ≡ x) → find p xs ≡ Some x
find_one p [] x h t only = absurd h
find_one p (y ∷ ys) x h t only =
    elim (cases_Bool (p y)) [
      | inl b ↦ rw b (ap Some (only y (inl refl) b))
      | inr f ↦
          rw f
          (⊎_elim
          (λ e. absurd (both_ways (p y) f (ap p e ∙ t)))
          (λ i. find_one p ys x i t (λ z j. only z (inr j)))
          h)
    ]

find_none : {X : Type 0} (p : X → Bool) (xs : List X) → ((y : X) → In y xs → p y ≡ true → ⊥) → find p xs ≡ None
find_none p [] never = refl
find_none p (y ∷ ys) never =
    elim (cases_Bool (p y)) [
      | inl b ↦ absurd (never y (inl refl) b)
      | inr f ↦ rw f (find_none p ys (λ z j. never z (inr j)))
    ]

put_of : (block : ℕ) (k : Kind) → is_put_of block k ≡ true → kind_block k ≡ Some block
put_of block (Put b body) e = ap Some (eqb-true b block e)
put_of block Flush e = absurd (false≢true e)

pub of_put : (block : ℕ) (k : Kind) → kind_block k ≡ Some block → is_put_of block k ≡ true
of_put block (Put b body) e = eq-eqb b block (same_Some b block e)
of_put block Flush e = absurd (none-some block e)

joins_put : (block : ℕ) (ordered : Bool) (w : Waiting) → joins block ordered w ≡ true → IsPutAt w block × (has_class ordered w.request ≡ true)
joins_put block ordered w e =
    let p = and_parts (is_put_of block w.request.kind) (has_class ordered w.request) e in
    (put_of block w.request.kind p.0, p.1)

-- where no put of the block waits, none joins
waiting_put : (ws : List Waiting) (block : ℕ) (w : Waiting) → In w (eligible ws) → IsPutAt w block → (j : ℕ) × (block_there ws j ≡ Some block)
waiting_put ws block w h put =
    let at = In-slice_get ws w (In-filter (may_leave ws) ws w h).0 in
    (at.0, there_put ws at.0 block w at.2 put)

pub none_joins : (queue : EpochState) (block : ℕ) (ordered : Bool) → ((j : ℕ) → block_there queue.waiting j ≡ Some block → ⊥) → next_part queue block ordered ≡ None
none_joins queue block ordered never =
    find_none (joins block ordered) (eligible queue.waiting)
    (λ w h e. let at = waiting_put queue.waiting block w h (joins_put block ordered w e).0 in never at.0 at.1)

class_same : (own ordered : Bool) → beq own ordered ≡ true → (if ordered then own else not own) ≡ true
class_same true true e = refl
class_same true false e = e
class_same false true e = e
class_same false false e = refl

class_other : (own ordered : Bool) → beq own ordered ≡ false → (if ordered then own else not own) ≡ true → ⊥
class_other true true e h = false≢true (sym e)
class_other true false e h = false≢true h
class_other false true e h = false≢true h
class_other false false e h = false≢true (sym e)

-- the first put of the block joins where it is of the class
pub first_joins : (queue : EpochState) (block i : ℕ) (ordered : Bool) (w : Waiting) → IsRising queue.waiting → IsFirstPut queue.waiting block i → slice_get queue.waiting i ≡ Some w → beq w.request.ordered ordered ≡ true → IsJoining queue block ordered i
first_joins queue block i ordered w rising first at class =
    let ws = queue.waiting in
    let v = put_there ws i block first.there in
    let put = subst (λ x. IsPutAt x block) (same_Some v.0 w (sym v.1 ∙ at)) v.2 in
    let e = first_listed ws 0 i block w rising at put first.first in
    record {
      waiting = w;
      there = at;
      next =
          find_one (joins block ordered) (eligible ws) w e
          (and_from (is_put_of block w.request.kind) (has_class ordered w.request) (of_put block w.request.kind put) (class_same w.request.ordered ordered class))
          (λ y h j. eligible-same ws y w block rising h e (joins_put block ordered y j).0 put);
    }

-- and none where it is not
pub first_differs : (queue : EpochState) (block i : ℕ) (ordered : Bool) (w : Waiting) → IsRising queue.waiting → IsFirstPut queue.waiting block i → slice_get queue.waiting i ≡ Some w → beq w.request.ordered ordered ≡ false → next_part queue block ordered ≡ None
first_differs queue block i ordered w rising first at class =
    let ws = queue.waiting in
    let v = put_there ws i block first.there in
    let put = subst (λ x. IsPutAt x block) (same_Some v.0 w (sym v.1 ∙ at)) v.2 in
    let e = first_listed ws 0 i block w rising at put first.first in
    find_none (joins block ordered) (eligible ws)
    (λ y h j.
    let p = joins_put block ordered y j in
    let same = eligible-same ws y w block rising h e p.0 put in
    class_other w.request.ordered ordered class (subst (λ x. has_class ordered x.request ≡ true) same p.1))

-- ---- gathering

-- the queue stays in order of acceptance
pub departed_rising : (queue : EpochState) (w : Waiting) → IsRising queue.waiting → IsRising (departed queue (Some w)).waiting
departed_rising queue w rising = IsAscending-filter (λ (x : Waiting). x.number) (λ x. not (x.number == w.number)) queue.waiting rising

-- the block behind the last part
pub follows-push : (ps : List Part) (p : Part) → block_follows (ps ++ p ∷ []) (p.block + 1) ≡ true
follows-push ps p =
    let n = length_push ps p in
    let last : length (ps ++ p ∷ []) - 1 ≡ length ps = omega (arith, n) in
    let at : slice_get (ps ++ p ∷ []) (length (ps ++ p ∷ []) - 1) ≡ Some p = ap (slice_get (ps ++ p ∷ [])) last ∙ slice_get-push ps p in
    ap (λ o. option_map_or (λ (q : Part). q.block + 1 == p.block + 1) o true) at ∙ eq-eqb (p.block + 1) (p.block + 1) refl

-- a put as the last part
put_parts : (id block : ℕ) (k : Kind) → kind_block k ≡ Some block → (p : Part) × (parts_for id k ≡ p ∷ []) × (p.block ≡ block)
put_parts id block (Put b body) e = (record { id = id; block = b; body = body }, refl, same_Some b block e)
put_parts id block Flush e = absurd (none-some block e)

pub joined_parts : (c : Command) (r : Request) (flagged : Bool) (block : ℕ) → kind_block r.kind ≡ Some block
    → (length (joined c r flagged).parts ≡ length c.parts + 1) × (block_follows (joined c r flagged).parts (block + 1) ≡ true)
joined_parts c r flagged block put =
    let p = put_parts r.id block r.kind put in
    let parts = ap (λ l. c.parts ++ l) p.1 in (
      ap length parts ∙ length_push c.parts p.0,
      ap (λ l. block_follows l (block + 1)) parts ∙ ap (λ b. block_follows (c.parts ++ p.0 ∷ []) (b + 1)) (sym p.2) ∙ follows-push c.parts p.0,
    )

-- one round of gathering
pub gathered-some : (n block : ℕ) (ordered : Bool) (g : Gathering) (w : Waiting) → next_part g.queue block ordered ≡ Some w → gathered (suc n) ordered block g ≡ gathered n ordered (block + 1) (taken g w)
unfolding gathered
gathered-some n block ordered g w e = ap (λ o. option_map_or (λ v. gathered n ordered (block + 1) (taken g v)) o g) e

pub gathered-none : (n block : ℕ) (ordered : Bool) (g : Gathering) → next_part g.queue block ordered ≡ None → gathered n ordered block g ≡ g
unfolding gathered
gathered-none zero block ordered g e = refl
gathered-none (suc n) block ordered g e = ap (λ o. option_map_or (λ v. gathered n ordered (block + 1) (taken g v)) o g) e

-- a round: the put that was found leaves and joins
pub record IsRound (queue : EpochState) (block : ℕ) (ordered : Bool) (at : ℕ) (r : Request) (flagged : Bool) : Type 0 where
  pub waiting : Waiting
  pub there : slice_get queue.waiting at ≡ Some waiting
  pub next : next_part queue block ordered ≡ Some waiting
  pub same : waiting.request ≡ r
  pub flag : leaves_flagged queue waiting ≡ flagged
  pub put : kind_block r.kind ≡ Some block

pub joining_may : (queue : EpochState) (block at : ℕ) (ordered : Bool) (w : Waiting) → IsJoining queue block ordered at → slice_get queue.waiting at ≡ Some w → may_leave queue.waiting w ≡ true
joining_may queue block at ordered w j there =
    (next-joins queue block ordered w (j.next ∙ sym j.there ∙ there)).leaves.may

pub round_of : (queue : EpochState) (block at : ℕ) (ordered : Bool) (r : Request) (flagged : Bool) → IsJoining queue block ordered at → Some (r, flagged) ≡ leaving queue (slice_get queue.waiting at) → IsRound queue block ordered at r flagged
round_of queue block at ordered r flagged j given =
    let l = leaving-some queue (slice_get queue.waiting at) r flagged given in
    let next = j.next ∙ sym j.there ∙ l.1 in
    record {
      waiting = l.0;
      there = l.1;
      next = next;
      same = l.2;
      flag = l.3;
      put = ap (λ (s : Request). kind_block s.kind) (sym l.2) ∙ (next-joins queue block ordered l.0 next).put;
    }

pub round_gathered : (n block at : ℕ) (ordered : Bool) (queue rest : EpochState) (command joint : Command) (r : Request) (flagged : Bool) → IsRound queue block ordered at r flagged → n < 16
    → rest ≡ departed queue (slice_get queue.waiting at) → joint ≡ joined command r flagged
    → gathered (16 - (n + 1)) ordered (block + 1) (record { queue = rest; command = joint }) ≡ gathered (16 - n) ordered block (record { queue = queue; command = command })
round_gathered n block at ordered queue rest command joint r flagged t lt state made =
    let w = t.waiting in
    let g : Gathering = record { queue = queue; command = command } in
    let more : 16 - n ≡ suc (16 - (n + 1)) = omega (arith, lt) in
    let q = state ∙ ap (departed queue) t.there in
    let c = made ∙ ap₂ (λ (s : Request) (f : Bool). joined command s f) (sym t.same) (sym t.flag) in
    let now : record { queue = rest; command = joint } ≡ taken g w = λ i. record { queue = q i; command = c i } in
    ap (gathered (16 - (n + 1)) ordered (block + 1)) now
    ∙ sym (gathered-some (16 - (n + 1)) block ordered g w t.next)
    ∙ ap (λ k. gathered k ordered block g) (sym more)

pub round_rising : (queue rest : EpochState) (block at : ℕ) (ordered : Bool) (r : Request) (flagged : Bool) → IsRound queue block ordered at r flagged → IsRising queue.waiting → rest ≡ departed queue (slice_get queue.waiting at) → IsRising rest.waiting
round_rising queue rest block at ordered r flagged t rising state =
    subst (λ (p : EpochState). IsRising p.waiting) (sym (state ∙ ap (departed queue) t.there)) (departed_rising queue t.waiting rising)

gathered-zero : (block : ℕ) (ordered : Bool) (g : Gathering) → gathered 0 ordered block g ≡ g
unfolding gathered
gathered-zero block ordered g = refl

-- all rounds are done
pub gathered-end : (n block : ℕ) (ordered : Bool) (g : Gathering) → 16 ≤ n → gathered (16 - n) ordered block g ≡ g
gathered-end n block ordered g past =
    let none : 16 - n ≡ 0 = omega (arith, past) in
    ap (λ k. gathered k ordered block g) none ∙ gathered-zero block ordered g
