-- Merged commands carry what the commands carry of which they were merged.
use Rattle.std.proofs.Common.{◌≡◌, ℕ, ◌+◌, ◌-◌, ◌<◌, ◌≤◌, ◌||◌, ◌==◌, ◌⊎◌, Bool, true, false, List, [], ◌∷◌, ◌++◌, length, map, take, count_by, Option, Some, None, is_some, slice_get, refl, sym, ap, ap₂, subst, ◌∙◌, arith, inl, inr, ⊎_elim, zero, suc, IsSomeAnd, if◌then◌else◌}
use Rattle.std.specs.Option.{option_and_then, option_to_list}
use Rattle.std.specs.List.{list_any}
use Rattle.std.proofs.lemmas.Bool.{cases_Bool, cases_lt, false≢true, ne_eqb, eqb-false}
use Rattle.std.proofs.lemmas.List.{length-append, append-nil, map-append}
use Rattle.std.proofs.lemmas.List.Sums.{sum_by-cons, sum_by-append}
use Rattle.std.proofs.lemmas.Option.{none-some, same_Some}
use Rattle.blk_base.specs.Members.{In}
use Rattle.blk_base.specs.laws.Members.{In-append_cases, In-append_left, In-append_right, In-slice_get, slice_get-In, slice_get-length, slice_get-append_left, slice_get-append_right, slice_get-map_some, map_some-slice_get, list_any-In}
use Rattle.order_model.specs.declared.part.Part.{Part}
use Rattle.order_model.specs.declared.command.Command.{Command}
use Rattle.order_model.specs.declared.command.Priority.TheVariants.{Simple, Ordered}
use Rattle.order_model.specs.declared.request.Kind.{Kind}
use Rattle.order_model.specs.declared.request.Kind.TheVariants.{Put, Flush}
use Rattle.order_model.specs.declared.request.Request.{Request}
use Rattle.order_model.specs.Received.{all_parts, ids_of, all_ids, IsBarrier}
use Rattle.order_model.specs.OrderClosed.{kind_block, IsPutOf, IsFencedBefore, IsFlushAt}
use Rattle.order_model.specs.Device.{NoneTwice}
use Rattle.order_model.specs.Carrying.{SchedSeen, IsCarriedBy, IsSentIn, Carries}
use Rattle.order_model.specs.Merging.{ungrouped, first_flush, merged, IsGroup}
use Rattle.order_model.proofs.Received.{all_ids-append, is-barrier, barrier-is}

abbrev AreGroups : List (List Command) → Type 0
AreGroups gs = (g : List Command) → In g gs → IsGroup g

-- ---- places: command x of all is at place n of group k

abbrev first_of : List (List Command) → ℕ → ℕ
first_of gs k = length (ungrouped (take k gs))

record IsPlaced (gs : List (List Command)) (x k : ℕ) (c : Command) : Type 0 where
  pub group : List Command
  pub at : slice_get gs k ≡ Some group
  pub inside : ℕ
  pub there : slice_get group inside ≡ Some c
  pub place : x ≡ first_of gs k + inside

first_of-suc : (g : List Command) (gs : List (List Command)) (k : ℕ) → first_of (g ∷ gs) (suc k) ≡ length g + first_of gs k
first_of-suc g gs k = length-append g (ungrouped (take k gs))

placed_next : (g : List Command) (gs : List (List Command)) (x k : ℕ) (c : Command) → IsPlaced gs x k c → IsPlaced (g ∷ gs) (length g + x) (suc k) c
placed_next g gs x k c p = record {
  group = p.group;
  at = p.at;
  inside = p.inside;
  there = p.there;
  place = let n = first_of-suc g gs k in let e = p.place in omega (arith, n, e);
}

-- the place of each command
place_of : (gs : List (List Command)) (x : ℕ) (c : Command) → slice_get (ungrouped gs) x ≡ Some c → (k : ℕ) × IsPlaced gs x k c
place_of [] x c at = absurd (none-some c at)
place_of (g ∷ gs) x c at =
    ⊎_elim
    (λ lt. (0, record { group = g; at = refl; inside = x; there = sym (slice_get-append_left g (ungrouped gs) x lt) ∙ at; place = omega arith }))
    (λ le.
    let rest = place_of gs (x - length g) c (sym (slice_get-append_right g (ungrouped gs) x le) ∙ at) in
    let e : length g + (x - length g) ≡ x = omega (arith, le) in
    (suc rest.0, subst (λ y. IsPlaced (g ∷ gs) y (suc rest.0) c) e (placed_next g gs (x - length g) rest.0 c rest.1)))
    (cases_lt x (length g))

-- and the command at each place
command_at : (gs : List (List Command)) (k n : ℕ) (g : List Command) (c : Command) → slice_get gs k ≡ Some g → slice_get g n ≡ Some c → slice_get (ungrouped gs) (first_of gs k + n) ≡ Some c
command_at [] k n g c at there = absurd (none-some g at)
command_at (h ∷ gs) zero n g c at there =
    let same : slice_get h n ≡ Some c = ap (λ l. slice_get l n) (same_Some h g at) ∙ there in
    let none : 0 + n ≡ n = omega arith in
    ap (slice_get (h ++ ungrouped gs)) none ∙ slice_get-append_left h (ungrouped gs) n (slice_get-length h n c same) ∙ same
command_at (h ∷ gs) (suc k) n g c at there =
    let m = first_of-suc h gs k in
    let rest : (first_of (h ∷ gs) (suc k) + n) - length h ≡ first_of gs k + n = omega (arith, m) in
    slice_get-append_right h (ungrouped gs) (first_of (h ∷ gs) (suc k) + n) (omega (arith, m))
    ∙ ap (slice_get (ungrouped gs)) rest
    ∙ command_at gs k n g c at there

placed_at : (gs : List (List Command)) (k n : ℕ) (g : List Command) (c : Command) → slice_get gs k ≡ Some g → slice_get g n ≡ Some c → IsPlaced gs (first_of gs k + n) k c
placed_at gs k n g c at there = record { group = g; at = at; inside = n; there = there; place = refl }

first_of-before : (gs : List (List Command)) (j k n : ℕ) (g : List Command) → j < k → slice_get gs j ≡ Some g → n < length g → first_of gs j + n < first_of gs k
first_of-before [] j k n g lt at within = absurd (none-some g at)
first_of-before (h ∷ gs) j zero n g lt at within = absurd (omega (arith, lt))
first_of-before (h ∷ gs) zero (suc k) n g lt at within =
    let same = ap (λ (l : List Command). length l) (same_Some h g at) in
    let m = first_of-suc h gs k in
    omega (arith, same, m, within)
first_of-before (h ∷ gs) (suc j) (suc k) n g lt at within =
    let m = first_of-suc h gs k in
    let o = first_of-suc h gs j in
    let rest = first_of-before gs j k n g (omega (arith, lt)) at within in
    omega (arith, m, o, rest)

-- groups stand in the order of their commands
groups_in_order : (gs : List (List Command)) (x y k l : ℕ) (c d : Command) → IsPlaced gs x k c → IsPlaced gs y l d → x ≤ y → k ≤ l
groups_in_order gs x y k l c d p q le =
    ⊎_elim
    (λ lt.
    let before = first_of-before gs l k q.inside q.group lt q.at (slice_get-length q.group q.inside d q.there) in
    absurd (omega (arith, le, before, p.place, q.place)))
    (λ ge. ge)
    (cases_lt l k)

-- two commands of one group
record AreTogether (gs : List (List Command)) (k : ℕ) (c d : Command) : Type 0 where
  pub group : List Command
  pub there : In group gs
  pub first : ℕ
  pub second : ℕ
  pub order : first < second
  pub at_first : slice_get group first ≡ Some c
  pub at_second : slice_get group second ≡ Some d

together : (gs : List (List Command)) (x y k l : ℕ) (c d : Command) → IsPlaced gs x k c → IsPlaced gs y l d → x < y → k ≡ l → AreTogether gs k c d
together gs x y k l c d p q lt same =
    let one : q.group ≡ p.group = same_Some q.group p.group (sym q.at ∙ ap (slice_get gs) (sym same) ∙ p.at) in
    let first = ap (first_of gs) same in
    record {
      group = p.group;
      there = slice_get-In gs k p.group p.at;
      first = p.inside;
      second = q.inside;
      order = omega (arith, lt, p.place, q.place, first);
      at_first = p.there;
      at_second = ap (λ l. slice_get l q.inside) (sym one) ∙ q.there;
    }

-- commands that may not be together stand in different groups
apart : (gs : List (List Command)) (x y k l : ℕ) (c d : Command) → IsPlaced gs x k c → IsPlaced gs y l d → x < y → (AreTogether gs k c d → ⊥) → k < l
apart gs x y k l c d p q lt never =
    let le = groups_in_order gs x y k l c d p q (omega (arith, lt)) in
    ⊎_elim
    (λ less. less)
    (λ ge. absurd (never (together gs x y k l c d p q lt (omega (arith, le, ge)))))
    (cases_lt k l)

-- ---- what a merged command has

In-all_parts : (cs : List Command) (c : Command) (p : Part) → In c cs → In p c.parts → In p (all_parts cs)
In-all_parts [] c p h i = absurd h
In-all_parts (d ∷ cs) c p h i =
    ⊎_elim
    (λ e. In-append_left d.parts (all_parts cs) p (subst (λ (b : Command). In p b.parts) (sym e) i))
    (λ rest. In-append_right d.parts (all_parts cs) p (In-all_parts cs c p rest i))
    h

all_parts-In : (cs : List Command) (p : Part) → In p (all_parts cs) → (c : Command) × In c cs × In p c.parts
all_parts-In [] p h = absurd h
all_parts-In (d ∷ cs) p h =
    ⊎_elim
    (λ here. (d, inl refl, here))
    (λ there. let r = all_parts-In cs p there in (r.0, inr r.1, r.2))
    (In-append_cases d.parts (all_parts cs) p h)

flush_some : (o : Option ℕ) (id : ℕ) → o ≡ Some id → is_some o ≡ true
flush_some o id e = ap is_some e

-- a flush of a group is the group's only command
only_flush : (g : List Command) (c : Command) (id : ℕ) → IsGroup g → In c g → c.flush ≡ Some id → g ≡ c ∷ []
only_flush [] c id v h e = absurd h
only_flush (d ∷ []) c id v h e = ⊎_elim (λ same. ap (λ (x : Command). x ∷ []) same) (λ none. absurd none) h
only_flush (d ∷ b ∷ cs) c id v h e = absurd (let n = v.alone c h (flush_some c.flush id e) in omega (arith, n))

carried_merged : (id : ℕ) (k : Kind) (g : List Command) (c : Command) → IsGroup g → In c g → IsCarriedBy id k c → IsCarriedBy id k (merged g)
carried_merged id (Put block body) g c v h carried = In-all_parts g c (record { id = id; block = block; body = body }) h carried
carried_merged id Flush g c v h carried = ap first_flush (only_flush g c id v h carried) ∙ carried

first_of_group : (g : List Command) (id : ℕ) → first_flush g ≡ Some id → (c : Command) × In c g × (c.flush ≡ Some id)
first_of_group [] id e = absurd (none-some id e)
first_of_group (c ∷ cs) id e = (c, inl refl, e)

merged_carried : (id : ℕ) (k : Kind) (g : List Command) → IsCarriedBy id k (merged g) → (c : Command) × In c g × IsCarriedBy id k c
merged_carried id (Put block body) g h = all_parts-In g (record { id = id; block = block; body = body }) h
merged_carried id Flush g h = first_of_group g id h

-- ---- ids

ids_none : (c : Command) → c.flush ≡ None → ids_of c ≡ map (λ (p : Part). p.id) c.parts
ids_none c e = ap (λ o. map (λ (p : Part). p.id) c.parts ++ option_to_list o) e ∙ append-nil (map (λ (p : Part). p.id) c.parts)

no_flush : (o : Option ℕ) → is_some o ≡ false → o ≡ None
no_flush None e = refl
no_flush (Some id) e = absurd (false≢true (sym e))

ids_parts : (cs : List Command) → ((c : Command) → In c cs → c.flush ≡ None) → all_ids cs ≡ map (λ (p : Part). p.id) (all_parts cs)
ids_parts [] none = refl
ids_parts (c ∷ cs) none =
    ap₂ (λ (a b : List ℕ). a ++ b) (ids_none c (none c (inl refl))) (ids_parts cs (λ d h. none d (inr h)))
    ∙ sym (map-append (λ (p : Part). p.id) c.parts (all_parts cs))

ids_merged : (g : List Command) → IsGroup g → ids_of (merged g) ≡ all_ids g
ids_merged [] v = absurd (let n = v.some in omega (arith, n))
ids_merged (c ∷ []) v =
    ap (λ ps. map (λ (p : Part). p.id) ps ++ option_to_list c.flush) (append-nil c.parts) ∙ sym (append-nil (ids_of c))
ids_merged (c ∷ d ∷ cs) v =
    let none : (b : Command) → In b (c ∷ d ∷ cs) → b.flush ≡ None = λ b h.
    no_flush b.flush
    (elim (cases_Bool (is_some b.flush)) [
      | inl t ↦ absurd (let n = v.alone b h t in omega (arith, n))
      | inr f ↦ f
    ]) in
    ids_none (merged (c ∷ d ∷ cs)) (none c (inl refl)) ∙ sym (ids_parts (c ∷ d ∷ cs) none)

all_ids-merged : (gs : List (List Command)) → AreGroups gs → all_ids (map merged gs) ≡ all_ids (ungrouped gs)
all_ids-merged [] v = refl
all_ids-merged (g ∷ gs) v =
    ap₂ (λ (a b : List ℕ). a ++ b) (ids_merged g (v g (inl refl))) (all_ids-merged gs (λ h i. v h (inr i)))
    ∙ sym (all_ids-append g (ungrouped gs))

-- ---- the barrier flag

-- no barrier stands before the last
barriers_of : (g : List Command) → ((n : ℕ) (c : Command) → slice_get g n ≡ Some c → c.barrier ≡ true → n + 1 ≡ length g)
    → (if list_any (λ (c : Command). c.barrier) g then 1 else 0) ≡ count_by (λ (c : Command). c.barrier) g
barriers_of [] last = refl
barriers_of (c ∷ []) last =
    elim (cases_Bool c.barrier) [
      | inl t ↦ rw t refl
      | inr f ↦ rw f refl
    ]
barriers_of (c ∷ d ∷ cs) last =
    let f : c.barrier ≡ false =
    elim (cases_Bool c.barrier) [
      | inl t ↦ absurd (let n = last 0 c refl t in omega (arith, n))
      | inr f ↦ f
    ] in
    let rest = barriers_of (d ∷ cs) (λ n b at t. let m = last (suc n) b at t in omega (arith, m)) in
    let sum = sum_by-cons (λ (b : Command). if b.barrier then 1 else 0) c (d ∷ cs) in
    let one : Bool → ℕ = λ b. if b then 1 else 0 in
    let none : one c.barrier ≡ 0 = ap one f in
    ap (λ (b : Bool). if b || list_any (λ (e : Command). e.barrier) (d ∷ cs) then 1 else 0) f ∙ rest ∙ omega (arith, sum, none)

count_merged : (gs : List (List Command)) → AreGroups gs → count_by (λ (c : Command). c.barrier) (map merged gs) ≡ count_by (λ (c : Command). c.barrier) (ungrouped gs)
count_merged [] v = refl
count_merged (g ∷ gs) v =
    sum_by-cons (λ (c : Command). if c.barrier then 1 else 0) (merged g) (map merged gs)
    ∙ ap₂ (λ (a b : ℕ). a + b) (barriers_of g (v g (inl refl)).last) (count_merged gs (λ h i. v h (inr i)))
    ∙ sym (sum_by-append (λ (c : Command). if c.barrier then 1 else 0) g (ungrouped gs))

-- ---- the relation

-- groups of the commands of a scheduler that carries its requests
record AreSent (s : SchedSeen) (gs : List (List Command)) : Type 0 where
  pub groups : AreGroups gs
  pub all : s.sent_out ≡ ungrouped gs
  pub carries : Carries s

abbrev by_groups : SchedSeen → List (List Command) → SchedSeen
by_groups s gs = record s { sent_out = map merged gs }

-- what was sent in command x was sent in the group of x
record IsSentFrom (s : SchedSeen) (gs : List (List Command)) (i k : ℕ) : Type 0 where
  pub place : ℕ
  pub sent : IsSentIn s i place
  pub placed : IsPlaced gs place k sent.command

to_group : (s : SchedSeen) (gs : List (List Command)) (i x : ℕ) → AreSent s gs → (h : IsSentIn s i x) → (k : ℕ) × IsPlaced gs x k h.command
to_group s gs i x v h = place_of gs x h.command (ap (λ l. slice_get l x) (sym v.all) ∙ h.sent)

grouped : (s : SchedSeen) (gs : List (List Command)) (i x k : ℕ) → AreSent s gs → (h : IsSentIn s i x) → IsPlaced gs x k h.command → IsSentIn (by_groups s gs) i k
grouped s gs i x k v h p = record {
  request = h.request;
  taken = h.taken;
  command = merged p.group;
  sent = slice_get-map_some merged gs k p.group p.at;
  carried = carried_merged h.request.id h.request.kind p.group h.command (v.groups p.group (slice_get-In gs k p.group p.at)) (slice_get-In p.group p.inside h.command p.there) h.carried;
}

from_group : (s : SchedSeen) (gs : List (List Command)) (i k : ℕ) → AreSent s gs → IsSentIn (by_groups s gs) i k → IsSentFrom s gs i k
from_group s gs i k v h =
    let g = map_some-slice_get merged gs k h.command h.sent in
    let c = merged_carried h.request.id h.request.kind g.0 (subst (IsCarriedBy h.request.id h.request.kind) (sym g.2) h.carried) in
    let at = In-slice_get g.0 c.0 c.1 in
    let there = command_at gs k at.0 g.0 c.0 g.1 at.2 in
    record {
      place = first_of gs k + at.0;
      sent = record {
        request = h.request;
        taken = h.taken;
        command = c.0;
        sent = ap (λ l. slice_get l (first_of gs k + at.0)) v.all ∙ there;
        carried = c.2;
      };
      placed = placed_at gs k at.0 g.0 c.0 g.1 at.2;
    }

-- a command of a group
group_command : (s : SchedSeen) (gs : List (List Command)) (g : List Command) (c : Command) → AreSent s gs → In g gs → In c g → In c s.sent_out
group_command s gs g c v h i =
    let at = In-slice_get gs g h in
    let n = In-slice_get g c i in
    subst (In c) (sym v.all) (slice_get-In (ungrouped gs) (first_of gs at.0 + n.0) c (command_at gs at.0 n.0 g c at.2 n.2))

merged_In : (gs : List (List Command)) (c : Command) → In c (map merged gs) → (g : List Command) × In g gs × (merged g ≡ c)
merged_In gs c h =
    let at = In-slice_get (map merged gs) c h in
    let g = map_some-slice_get merged gs at.0 c at.2 in
    (g.0, slice_get-In gs at.0 g.0 g.1, g.2)

more_parts : (ps qs : List Part) → (length ps == 0) ≡ false → (length (ps ++ qs) == 0) ≡ false
more_parts ps qs e =
    let n = length-append ps qs in
    let some = eqb-false (length ps) 0 e in
    ne_eqb (length (ps ++ qs)) 0 (omega (arith, n, some))

whole_group : (s : SchedSeen) (gs : List (List Command)) (g : List Command) → AreSent s gs → In g gs → is_some (merged g).flush ≡ (length (merged g).parts == 0)
whole_group s gs [] v h = absurd (let n = (v.groups [] h).some in omega (arith, n))
whole_group s gs (c ∷ []) v h =
    v.carries.whole c (group_command s gs (c ∷ []) c v h (inl refl)) ∙ ap (λ (ps : List Part). length ps == 0) (sym (append-nil c.parts))
whole_group s gs (c ∷ d ∷ cs) v h =
    let own = v.carries.whole c (group_command s gs (c ∷ d ∷ cs) c v h (inl refl)) in
    let none : is_some c.flush ≡ false =
    elim (cases_Bool (is_some c.flush)) [
      | inl t ↦ absurd (let n = (v.groups (c ∷ d ∷ cs) h).alone c (inl refl) t in omega (arith, n))
      | inr f ↦ f
    ] in
    none ∙ sym (more_parts c.parts (all_parts (d ∷ cs)) (sym own ∙ none))

-- a request that was sent before another in a different group
sent_before : (s : SchedSeen) (gs : List (List Command)) (i j k l x : ℕ) → AreSent s gs → (t : IsSentFrom s gs j l) → (h : IsSentIn s i x) → x < t.place → ((k : ℕ) → AreTogether gs k h.command t.sent.command → ⊥)
    → (k : ℕ) × IsSentIn (by_groups s gs) i k × (k < l)
sent_before s gs i j k l x v t h lt never =
    let g = to_group s gs i x v h in
    (g.0, grouped s gs i x g.0 v h g.1, apart gs x t.place g.0 l h.command t.sent.command g.1 t.placed lt (never g.0))

put_part : (block : ℕ) (k : Kind) (id : ℕ) (c : Command) → kind_block k ≡ Some block → IsCarriedBy id k c → (r : Part) × In r c.parts × (r.block ≡ block)
put_part block (Put b body) id c e h = (record { id = id; block = b; body = body }, h, same_Some b block e)
put_part block Flush id c e h = absurd (none-some block e)

-- two puts of one block are not together
blocks_apart : (s : SchedSeen) (gs : List (List Command)) (i j x y block k : ℕ) → AreSent s gs → IsPutOf s.accepted i block → IsPutOf s.accepted j block → (h : IsSentIn s i x) → (t : IsSentIn s j y) → AreTogether gs k h.command t.command → ⊥
blocks_apart s gs i j x y block k v p q h t g =
    let a = put_part block h.request.kind h.request.id h.command (ap (option_and_then (λ (r : Request). kind_block r.kind)) (sym h.taken) ∙ p) h.carried in
    let b = put_part block t.request.kind t.request.id t.command (ap (option_and_then (λ (r : Request). kind_block r.kind)) (sym t.taken) ∙ q) t.carried in
    (v.groups g.group g.there).apart g.first g.second h.command t.command a.0 b.0 g.order g.at_first g.at_second a.1 b.1 (a.2 ∙ sym b.2)

-- a flush is with no other
flush_apart : (gs : List (List Command)) (k : ℕ) (c d : Command) → AreGroups gs → (is_some c.flush ≡ true) ⊎ (is_some d.flush ≡ true) → AreTogether gs k c d → ⊥
flush_apart gs k c d v flush g =
    let one : length g.group ≡ 1 =
    ⊎_elim
    (λ e. (v g.group g.there).alone c (slice_get-In g.group g.first c g.at_first) e)
    (λ e. (v g.group g.there).alone d (slice_get-In g.group g.second d g.at_second) e)
    flush in
    let n = slice_get-length g.group g.second d g.at_second in
    let lt = g.order in
    absurd (omega (arith, one, n, lt))

flush_command : (s : SchedSeen) (f x : ℕ) → IsFlushAt s.accepted f → (h : IsSentIn s f x) → is_some h.command.flush ≡ true
flush_command s f x flush h =
    let kind : h.request.kind ≡ Flush = subst (λ o. IsSomeAnd o (λ (r : Request). r.kind ≡ Flush)) h.taken flush in
    flush_some h.command.flush h.request.id (subst (λ k. IsCarriedBy h.request.id k h.command) kind h.carried)

-- a barrier stands in no group before another command of it
ordered : (s : SchedSeen) (gs : List (List Command)) (i j l : ℕ) → AreSent s gs → IsFencedBefore s.accepted i j → IsSentIn (by_groups s gs) j l
    → (k : ℕ) × (b : ℕ) × IsSentIn (by_groups s gs) i k × (k ≤ b) × (b < l) × IsBarrier (map merged gs) b
ordered s gs i j l v before h =
    let t = from_group s gs j l v h in
    let o = v.carries.ordered i j t.place before t.sent in
    let c = barrier-is s.sent_out o.1 o.5 in
    let b = place_of gs o.1 c.0 (ap (λ l. slice_get l o.1) (sym v.all) ∙ c.1) in
    let k = to_group s gs i o.0 v o.2 in
    let behind : AreTogether gs b.0 c.0 t.sent.command → ⊥ = λ g.
    let n = (v.groups g.group g.there).last g.first c.0 g.at_first c.2 in
    let m = slice_get-length g.group g.second t.sent.command g.at_second in
    let lt = g.order in
    absurd (omega (arith, n, m, lt)) in
    let any = list_any-In (λ (d : Command). d.barrier) b.1.group c.0 (slice_get-In b.1.group b.1.inside c.0 b.1.there) c.2 in (
      k.0,
      b.0,
      grouped s gs i o.0 k.0 v o.2 k.1,
      groups_in_order gs o.0 o.1 k.0 b.0 o.2.command c.0 k.1 b.1 o.3,
      apart gs o.1 t.place b.0 l c.0 t.sent.command b.1 t.placed o.4 behind,
      is-barrier (map merged gs) b.0 (merged b.1.group) (slice_get-map_some merged gs b.0 b.1.group b.1.at) any,
    )

pub carries_merged : (s : SchedSeen) (gs : List (List Command)) → ((g : List Command) → In g gs → IsGroup g) → s.sent_out ≡ ungrouped gs → Carries s → Carries (record s { sent_out = map merged gs })
carries_merged s gs groups all carries =
    let v : AreSent s gs = record { groups = groups; all = all; carries = carries } in
    let ids : all_ids s.sent_out ≡ all_ids (map merged gs) = ap all_ids all ∙ sym (all_ids-merged gs groups) in
    record {
      few = carries.few;
      somewhere = λ i lt.
          ⊎_elim
          (λ w. inl (record { request = w.request; taken = w.taken; waits = w.waits }))
          (λ h. let g = to_group s gs i h.0 v h.1 in inr (g.0, grouped s gs i h.0 g.0 v h.1 g.1))
          (carries.somewhere i lt);
      not_both = λ i k w h.
          let t = from_group s gs i k v h in
          carries.not_both i t.place (record { request = w.request; taken = w.taken; waits = w.waits }) t.sent;
      once = subst NoneTwice ids carries.once;
      counted = let n = ap length ids in let m = carries.counted in omega (arith, n, m);
      parts = λ c p h i.
          let g = merged_In gs c h in
          let q = all_parts-In g.0 p (subst (λ (d : Command). In p d.parts) (sym g.2) i) in
          let a = carries.parts q.0 p (group_command s gs g.0 q.0 v g.1 q.1) q.2 in
          record { place = a.place; request = a.request; taken = a.taken; named = a.named; same = a.same };
      flushes = λ c id h e.
          let g = merged_In gs c h in
          let q = first_of_group g.0 id (ap (λ (d : Command). d.flush) g.2 ∙ e) in
          let a = carries.flushes q.0 id (group_command s gs g.0 q.0 v g.1 q.1) q.2 in
          record { place = a.place; request = a.request; taken = a.taken; named = a.named; same = a.same };
      whole = λ c h. let g = merged_In gs c h in subst (λ (d : Command). is_some d.flush ≡ (length d.parts == 0)) g.2 (whole_group s gs g.0 v g.1);
      ordered = λ i j l before h. ordered s gs i j l v before h;
      blocks = λ i j l block lt p q h.
          let t = from_group s gs j l v h in
          let e = carries.blocks i j t.place block lt p q t.sent in
          sent_before s gs i j 0 l e.0 v t e.1 e.2 (λ k. blocks_apart s gs i j e.0 t.place block k v p q e.1 t.sent);
      before_flush = λ i f l lt flush h.
          let t = from_group s gs f l v h in
          let e = carries.before_flush i f t.place lt flush t.sent in
          sent_before s gs i f 0 l e.0 v t e.1 e.2 (λ k. flush_apart gs k e.1.command t.sent.command groups (inr (flush_command s f t.place flush t.sent)));
      after_flush = λ f j l lt flush h.
          let t = from_group s gs j l v h in
          let e = carries.after_flush f j t.place lt flush t.sent in
          sent_before s gs f j 0 l e.0 v t e.1 e.2 (λ k. flush_apart gs k e.1.command t.sent.command groups (inl (flush_command s f e.0 flush e.1)));
      priority = λ c h. let g = merged_In gs c h in subst (λ (d : Command). d.priority ≡ (if d.barrier then Ordered else Simple)) g.2 refl;
      flush_flag = λ c id h e.
          let g = merged_In gs c h in
          let q = first_of_group g.0 id (ap (λ (d : Command). d.flush) g.2 ∙ e) in
          let flag = carries.flush_flag q.0 id (group_command s gs g.0 q.0 v g.1 q.1) q.2 in
          sym (ap (λ (d : Command). d.barrier) g.2) ∙ list_any-In (λ (d : Command). d.barrier) g.0 q.0 q.1 flag;
      count = let n = count_merged gs groups ∙ ap (count_by (λ (c : Command). c.barrier)) (sym all) in let m = carries.count in omega (arith, n, m);
      small = λ c h. let g = merged_In gs c h in subst (λ (d : Command). length d.parts ≤ 16) g.2 (groups g.0 g.1).small;
    }
