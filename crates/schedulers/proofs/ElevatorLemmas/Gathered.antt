-- What leaves with a put, in words of the queue as it was before: of each following block the put of its class that
-- may leave, as long as there is one.
use Rattle.std.proofs.Common.{◌≡◌, ℕ, ◌+◌, ◌<◌, ◌≤◌, ◌++◌, Bool, true, false, List, [], ◌∷◌, length, map, find, not, Option, Some, None, slice_get, refl, sym, ap, subst, ◌∙◌, arith, append_assoc, inl, inr, ⊎_elim, zero, suc}
use Rattle.std.specs.Option.{option_map_or}
use Rattle.std.proofs.lemmas.Bool.{cases_Bool, both_ways, and_from, not-true}
use Rattle.std.proofs.lemmas.List.{append-nil}
use Rattle.std.proofs.lemmas.Option.{none-some, same_Some}
use Rattle.blk_base.specs.Members.{In}
use Rattle.blk_base.specs.laws.Members.{filter-In, list_all-In, all-list_all, IsAscending-same}
use Rattle.order_model.specs.declared.part.Part.{Part}
use Rattle.order_model.specs.declared.command.Command.{Command}
use Rattle.order_model.specs.declared.request.Kind.{Kind}
use Rattle.order_model.specs.declared.request.Kind.TheVariants.{Put, Flush}
use Rattle.order_model.specs.OrderClosed.{is_flush, kind_block}
use Rattle.order_model.specs.Single.{parts_for, flush_for}
use Rattle.order_model.specs.laws.ArrivalLaws.{In-without, without-In}
use Rattle.schedulers.specs.reassign.Epoch.{EpochState, Waiting, stands_before, may_leave, eligible, departed}
use Rattle.schedulers.specs.reassign.laws.MayLeaveLaws.{block_of_both, stands_one_block}
use Rattle.schedulers.specs.elevator.Elevator.{Gathering, is_put_of, has_class, joins, next_part, taken, gathered, alone, leaving_as}
use Rattle.schedulers.specs.elevator.laws.Eligible.{IsRising, IsPutAt, put-is_flush}
use Rattle.schedulers.specs.elevator.laws.Valid.{Leaves, Joins, next-joins, own_class}
use Rattle.schedulers.proofs.ElevatorLemmas.Joining.{of_put}

-- ---- while puts leave, those of this block and of later ones stay

record IsPast (origin queue : List Waiting) (block : ℕ) : Type 0 where
  was : (u : Waiting) → In u queue → In u origin
  kept : (u : Waiting) (b : ℕ) → In u origin → IsPutAt u b → block ≤ b → In u queue

puts_leave : (ws : List Waiting) (u w : Waiting) → is_flush w.request.kind ≡ false → may_leave ws w ≡ true → In u ws → stands_before u w ≡ false
puts_leave ws u w put may h =
    not-true (stands_before u w) (all-list_all (λ v. not (stands_before v w)) ws u (rw put at may) h)

put_leaves : (ws : List Waiting) (w : Waiting) → is_flush w.request.kind ≡ false → ((u : Waiting) → In u ws → stands_before u w ≡ false) → may_leave ws w ≡ true
put_leaves ws w put never = rw put (list_all-In (λ v. not (stands_before v w)) ws (λ u h. ap not (never u h)))

-- what stands before a put is a put of its block
before_block : (u w : Waiting) (block : ℕ) → stands_before u w ≡ true → IsPutAt w block → IsPutAt u block
before_block u w block stands put =
    let both = block_of_both u.request.kind w.request.kind (stands_one_block u w stands) in
    both.1 ∙ sym both.2 ∙ put

past_joins : (origin queue : EpochState) (block : ℕ) (ordered : Bool) (w : Waiting) → IsPast origin.waiting queue.waiting block → Joins queue block ordered w → Joins origin block ordered w
past_joins origin queue block ordered w p j =
    let put = put-is_flush w block j.put in
    record {
      leaves = record {
        there = p.was w j.leaves.there;
        may =
            put_leaves origin.waiting w put
            (λ u h.
            elim (cases_Bool (stands_before u w)) [
              | inl t ↦
                  let stays = p.kept u block h (before_block u w block t j.put) (omega arith) in
                  absurd (both_ways (stands_before u w) (puts_leave queue.waiting u w put j.leaves.may stays) t)
              | inr f ↦ f
            ]);
      };
      put = j.put;
      class = j.class;
    }

joins_past : (origin queue : EpochState) (block : ℕ) (ordered : Bool) (w : Waiting) → IsPast origin.waiting queue.waiting block → Joins origin block ordered w → Joins queue block ordered w
joins_past origin queue block ordered w p j =
    let put = put-is_flush w block j.put in
    record {
      leaves = record {
        there = p.kept w block j.leaves.there j.put (omega arith);
        may = put_leaves queue.waiting w put (λ u h. puts_leave origin.waiting u w put j.leaves.may (p.was u h));
      };
      put = j.put;
      class = j.class;
    }

past_more : (origin : List Waiting) (queue : EpochState) (w : Waiting) (block : ℕ) → IsRising origin → IsPast origin queue.waiting block → In w queue.waiting → IsPutAt w block
    → IsPast origin (departed queue (Some w)).waiting (block + 1)
past_more origin queue w block rising p there put = record {
  was = λ u h. p.was u (In-without (λ (v : Waiting). v.number) w.number queue.waiting u h).0;
  kept = λ u b h mine le.
      without-In (λ (v : Waiting). v.number) w.number queue.waiting u (p.kept u b h mine (omega (arith, le)))
      (λ same.
      let one = IsAscending-same (λ (v : Waiting). v.number) origin u w rising h (p.was w there) same in
      let n = same_Some b block (sym mine ∙ ap (λ (x : Waiting). kind_block x.request.kind) one ∙ put) in
      absurd (omega (arith, le, n)));
}

-- ---- the part of a put

abbrev pub part_as : ℕ → Kind → Part
part_as id (Put block body) = record { id = id; block = block; body = body }
part_as id Flush = record { id = id; block = 0; body = [] }

abbrev pub part_of : Waiting → Part
part_of w = part_as w.request.id w.request.kind

parts_one : (id : ℕ) (k : Kind) (block : ℕ) → kind_block k ≡ Some block → parts_for id k ≡ part_as id k ∷ []
parts_one id (Put b body) block e = refl
parts_one id Flush block e = absurd (none-some block e)

flush_none : (id : ℕ) (k : Kind) (block : ℕ) → kind_block k ≡ Some block → flush_for id k ≡ None
flush_none id (Put b body) block e = refl
flush_none id Flush block e = absurd (none-some block e)

-- ---- what joins

record Gathers (origin : EpochState) (ordered : Bool) (block n : ℕ) (g h : Gathering) : Type 0 where
  more : List Waiting
  parts : h.command.parts ≡ g.command.parts ++ map part_of more
  flush : h.command.flush ≡ g.command.flush
  few : length more ≤ n
  each : (k : ℕ) (u : Waiting) → slice_get more k ≡ Some u → Joins origin (block + k) ordered u
  end : length more < n → (u : Waiting) → Joins origin (block + length more) ordered u → ⊥

find_misses : {X : Type 0} (p : X → Bool) (xs : List X) (x : X) → find p xs ≡ None → In x xs → p x ≡ true → ⊥
find_misses p [] x e h t = absurd h
find_misses p (y ∷ ys) x e h t =
    elim (cases_Bool (p y)) [
      | inl b ↦ absurd (none-some y (sym (rw b at e)))
      | inr f ↦
          ⊎_elim
          (λ same. absurd (both_ways (p y) f (ap p same ∙ t)))
          (λ i. find_misses p ys x (rw f at e) i t)
          h
    ]

none-joins : (queue : EpochState) (block : ℕ) (ordered : Bool) (w : Waiting) → next_part queue block ordered ≡ None → Joins queue block ordered w → ⊥
none-joins queue block ordered w e j =
    find_misses (joins block ordered) (eligible queue.waiting) w e (filter-In (may_leave queue.waiting) queue.waiting w j.leaves.there j.leaves.may)
    (and_from (is_put_of block w.request.kind) (has_class ordered w.request) (of_put block w.request.kind j.put) j.class)

-- the first, and those after it
each_after : (origin : EpochState) (ordered : Bool) (block : ℕ) (w : Waiting) (more : List Waiting) → Joins origin block ordered w → ((k : ℕ) (u : Waiting) → slice_get more k ≡ Some u → Joins origin (block + 1 + k) ordered u)
    → (k : ℕ) (u : Waiting) → slice_get (w ∷ more) k ≡ Some u → Joins origin (block + k) ordered u
each_after origin ordered block w more first rest zero u at =
    let same : block ≡ block + 0 = omega arith in
    subst (λ b. Joins origin b ordered u) same (subst (λ x. Joins origin block ordered x) (same_Some w u at) first)
each_after origin ordered block w more first rest (suc k) u at =
    let same : block + 1 + k ≡ block + suc k = omega arith in
    subst (λ b. Joins origin b ordered u) same (rest k u at)

gathers_option : (origin : EpochState) (ordered : Bool) (n block : ℕ) (g : Gathering) → IsRising origin.waiting → IsPast origin.waiting g.queue.waiting block → (o : Option Waiting) → next_part g.queue block ordered ≡ o
    → ((w : Waiting) → IsPast origin.waiting (taken g w).queue.waiting (block + 1) → Gathers origin ordered (block + 1) n (taken g w) (gathered n ordered (block + 1) (taken g w)))
    → Gathers origin ordered block (suc n) g (option_map_or (λ w. gathered n ordered (block + 1) (taken g w)) o g)
gathers_option origin ordered n block g rising p None e rest = record {
  more = [];
  parts = sym (append-nil g.command.parts);
  flush = refl;
  few = omega arith;
  each = λ k u at. absurd (none-some u at);
  end = λ lt u j.
      let same : block + 0 ≡ block = omega arith in
      none-joins g.queue block ordered u e (joins_past origin g.queue block ordered u p (subst (λ b. Joins origin b ordered u) same j));
}
gathers_option origin ordered n block g rising p (Some w) e rest =
    let j = next-joins g.queue block ordered w e in
    let r = rest w (past_more origin.waiting g.queue w block rising p j.leaves.there j.put) in
    record {
      more = w ∷ r.more;
      parts =
          r.parts
          ∙ ap (λ (ps : List Part). g.command.parts ++ ps ++ map part_of r.more) (parts_one w.request.id w.request.kind block j.put)
          ∙ append_assoc g.command.parts (part_of w ∷ []) (map part_of r.more);
      flush = r.flush;
      few = let few = r.few in omega (arith, few);
      each = each_after origin ordered block w r.more (past_joins origin g.queue block ordered w p j) r.each;
      end = λ lt u k.
          let same : block + length (w ∷ r.more) ≡ block + 1 + length r.more = omega arith in
          r.end (omega (arith, lt)) u (subst (λ b. Joins origin b ordered u) same k);
    }

gathers : (origin : EpochState) (ordered : Bool) (n block : ℕ) (g : Gathering) → IsRising origin.waiting → IsPast origin.waiting g.queue.waiting block → Gathers origin ordered block n g (gathered n ordered block g)
unfolding gathered
gathers origin ordered zero block g rising p = record {
  more = [];
  parts = sym (append-nil g.command.parts);
  flush = refl;
  few = omega arith;
  each = λ k u at. absurd (none-some u at);
  end = λ lt u j. absurd (omega (arith, lt));
}
gathers origin ordered (suc n) block g rising p =
    gathers_option origin ordered n block g rising p (next_part g.queue block ordered) refl (λ w past. gathers origin ordered n (block + 1) (taken g w) rising past)

-- ---- a command that a put begins

pub record IsGathered (queue : EpochState) (w : Waiting) (block : ℕ) (c : Command) : Type 0 where
  pub more : List Waiting
  pub parts : c.parts ≡ map part_of (w ∷ more)
  pub flush : c.flush ≡ None
  pub few : length (w ∷ more) ≤ 16
  pub each : (k : ℕ) (u : Waiting) → slice_get (w ∷ more) k ≡ Some u → Joins queue (block + k) w.request.ordered u
  pub end : length (w ∷ more) < 16 → (u : Waiting) → Joins queue (block + length (w ∷ more)) w.request.ordered u → ⊥

gathered_from : (queue : EpochState) (w : Waiting) (block : ℕ) → IsRising queue.waiting → Leaves queue w → IsPutAt w block → IsGathered queue w block (gathered 15 w.request.ordered (block + 1) (alone queue w)).command
gathered_from queue w block rising l put =
    let here : IsPast queue.waiting queue.waiting block = record { was = λ u h. h; kept = λ u b h mine le. h } in
    let past = past_more queue.waiting queue w block rising here l.there put in
    let r = gathers queue w.request.ordered 15 (block + 1) (alone queue w) rising past in
    record {
      more = r.more;
      parts = r.parts ∙ ap (λ (ps : List Part). ps ++ map part_of r.more) (parts_one w.request.id w.request.kind block put);
      flush = r.flush ∙ flush_none w.request.id w.request.kind block put;
      few = let few = r.few in omega (arith, few);
      each = each_after queue w.request.ordered block w r.more (record { leaves = l; put = put; class = own_class w.request }) r.each;
      end = λ lt u j.
          let same : block + length (w ∷ r.more) ≡ block + 1 + length r.more = omega arith in
          r.end (omega (arith, lt)) u (subst (λ b. Joins queue b w.request.ordered u) same j);
    }

pub put_gathers : (queue : EpochState) (w : Waiting) (k : Kind) (block : ℕ) → IsRising queue.waiting → Leaves queue w → w.request.kind ≡ k → kind_block k ≡ Some block → IsGathered queue w block (leaving_as queue w k).command
put_gathers queue w (Put b body) block rising l kind put =
    subst (λ n. IsGathered queue w n (leaving_as queue w (Put b body)).command) (same_Some b block put) (gathered_from queue w b rising l (ap kind_block kind))
put_gathers queue w Flush block rising l kind put = absurd (none-some block put)
