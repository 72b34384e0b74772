-- The next command of a scheduler is one that the device may be given.
use Rattle.std.proofs.Common.{◌≡◌, ℕ, ◌+◌, ◌<◌, ◌≤◌, ◌||◌, ◌==◌, Bool, true, false, List, [], ◌∷◌, ◌++◌, length, map, Option, Some, None, is_some, refl, sym, ap, subst, ◌∙◌, arith, if◌then◌else◌, append_assoc, inl, inr}
use Rattle.std.specs.Option.{option_and_then, option_to_list}
use Rattle.std.proofs.lemmas.Bool.{false≢true, eqb-false}
use Rattle.std.proofs.lemmas.List.{length-append, length-map}
use Rattle.blk_base.specs.Members.{In}
use Rattle.blk_base.specs.laws.Members.{In-All, In-append_right}
use Rattle.order_model.specs.declared.part.Part.{Part}
use Rattle.order_model.specs.declared.command.Command.{Command}
use Rattle.order_model.specs.declared.command.Priority.{Priority}
use Rattle.order_model.specs.declared.command.Priority.TheVariants.{Simple, Ordered}
use Rattle.order_model.specs.declared.request.Request.{Request}
use Rattle.order_model.specs.Received.{all_parts, ids_of, all_ids}
use Rattle.order_model.specs.OrderClosed.{kind_block, IsPutOf}
use Rattle.order_model.specs.Device.{Seen, IsReceivable, NoneTwice}
use Rattle.order_model.specs.Carrying.{SchedSeen, Carries}
use Rattle.order_model.proofs.Received.{all_ids-append, none_twice-front}

-- the ids of the commands that were taken, of the next one, and of the others
ids_next : (took : List Command) (c : Command) (rest : List Command) → all_ids (took ++ c ∷ rest) ≡ (all_ids took ++ ids_of c) ++ all_ids rest
ids_next took c rest = all_ids-append took (c ∷ rest) ∙ sym (append_assoc (all_ids took) (ids_of c) (all_ids rest))

flagged_ordered : (b : Bool) (p : Priority) (flush : Option ℕ) → p ≡ (if b then Ordered else Simple) → ((id : ℕ) → flush ≡ Some id → b ≡ true) → (b || is_some flush) ≡ true → p ≡ Ordered
flagged_ordered true p flush e flag h = e
flagged_ordered false p None e flag h = absurd (false≢true h)
flagged_ordered false p (Some id) e flag h = absurd (false≢true (flag id refl))

-- The device took the first commands, c is the next, and all blocks are there.
pub next_receivable : (s : SchedSeen) (d : Seen) (c : Command) (rest : List Command) → Carries s → s.sent_out ≡ d.took ++ c ∷ rest
    → ((i block : ℕ) → IsPutOf s.accepted i block → block < length d.surface) → length s.accepted ≤ d.limit → IsReceivable d c
next_receivable s d c rest v sent blocks few =
    let there : In c s.sent_out = subst (In c) (sym sent) (In-append_right d.took (c ∷ rest) c (inl refl)) in
    let ids : all_ids s.sent_out ≡ (all_ids d.took ++ ids_of c) ++ all_ids rest = ap all_ids sent ∙ ids_next d.took c rest in
    record {
      small = v.small c there;
      whole = v.whole c there;
      ordered = flagged_ordered c.barrier c.priority c.flush (v.priority c there) (λ id e. v.flush_flag c id there e);
      within = In-All (λ (p : Part). p.block < length d.surface) c.parts
          (λ p h.
          let a = v.parts c p there h in
          blocks a.place p.block (ap (option_and_then (λ (r : Request). kind_block r.kind)) a.taken ∙ ap kind_block a.same));
      fresh = none_twice-front (all_ids d.took ++ ids_of c) (all_ids rest) (subst NoneTwice ids v.once);
      few = let n = ap length ids ∙ length-append (all_ids d.took ++ ids_of c) (all_ids rest) in let m = v.counted in omega arith;
    }

-- ---- room for what was sent out

ids-parts : (c : Command) → length c.parts ≤ length (ids_of c)
ids-parts c =
    let n = length-append (map (λ (p : Part). p.id) c.parts) (option_to_list c.flush) in
    let m = length-map c.parts (λ (p : Part). p.id) in
    omega (arith, n, m)

parts-few : (cs : List Command) → length (all_parts cs) ≤ length (all_ids cs)
parts-few [] = omega arith
parts-few (c ∷ cs) =
    let first = ids-parts c in
    let rest = parts-few cs in
    let n = length-append c.parts (all_parts cs) in
    let m = length-append (ids_of c) (all_ids cs) in
    omega (arith, first, rest, n, m)

some_flush : (o : Option ℕ) (n : ℕ) → is_some o ≡ (n == 0) → 1 ≤ n + length (option_to_list o)
some_flush None n e = let differs = eqb-false n 0 (sym e) in omega (arith, differs)
some_flush (Some id) n e = omega arith

ids-some : (c : Command) → is_some c.flush ≡ (length c.parts == 0) → 1 ≤ length (ids_of c)
ids-some c whole =
    let n = length-append (map (λ (p : Part). p.id) c.parts) (option_to_list c.flush) in
    let m = length-map c.parts (λ (p : Part). p.id) in
    let some = some_flush c.flush (length c.parts) whole in
    omega (arith, n, m, some)

commands-few : (cs : List Command) → ((c : Command) → In c cs → is_some c.flush ≡ (length c.parts == 0)) → length cs ≤ length (all_ids cs)
commands-few [] whole = omega arith
commands-few (c ∷ cs) whole =
    let first = ids-some c (whole c (inl refl)) in
    let rest = commands-few cs (λ d h. whole d (inr h)) in
    let m = length-append (ids_of c) (all_ids cs) in
    omega (arith, first, rest, m)

-- There are no more commands, and no more parts, than requests may be accepted.
pub sent_few : (s : SchedSeen) → Carries s → (length s.sent_out ≤ s.limit) × (length (all_parts s.sent_out) ≤ s.limit)
sent_few s v =
    let commands = commands-few s.sent_out v.whole in
    let parts = parts-few s.sent_out in
    let n = v.counted in
    let m = v.few in
    (omega (arith, commands, n, m), omega (arith, parts, n, m))
