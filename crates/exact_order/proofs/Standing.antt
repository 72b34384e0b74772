-- How the stack stands between two requests, where the events go by them one after the other: the queues are empty, nothing waits in the
-- device, and in the scheduler wait just the puts that are not kept.
use Rattle.std.proofs.Common.{◌≡◌, ℕ, ◌+◌, ◌<◌, ◌≤◌, not, Bool, true, false, List, [], ◌∷◌, ◌++◌, length, Option, Some, None, slice_get, slice_set, if◌then◌else◌, refl, sym, ap, ap₂, subst, ◌∙◌, inl, inr, ⊎_elim, arith}
use Rattle.std.specs.Option.{option_and_then}
use Rattle.std.proofs.lemmas.Bool.{cases_Bool, cases_lt, cases_eq, both_ways, false≢true, eqb-true}
use Rattle.std.proofs.lemmas.List.{length_push, length-set}
use Rattle.std.proofs.lemmas.Option.{none-some, same_Some}
use Rattle.blk_base.specs.Members.{In}
use Rattle.blk_base.specs.laws.Members.{In-push_cases, list_any-none, slice_get-set_same, slice_get-set_other}
use Rattle.order_model.specs.declared.command.Command.{Command}
use Rattle.order_model.specs.declared.part.Part.{Part}
use Rattle.order_model.specs.declared.request.Kind.{Kind}
use Rattle.order_model.specs.declared.request.Kind.TheVariants.{Put, Flush}
use Rattle.order_model.specs.declared.request.Request.{Request}
use Rattle.order_model.specs.declared.command.Priority.TheVariants.{Simple, Ordered}
use Rattle.order_model.specs.OrderClosed.{is_flush, kind_block, IsOrderClosed}
use Rattle.order_model.specs.Received.{all_parts}
use Rattle.order_model.specs.Device.{origin_ids}
use Rattle.order_model.specs.Single.{parts_for, flush_for, command_of_request}
use Rattle.order_model.proofs.Received.{length-all_parts-push}
use Rattle.schedulers.specs.declared.reassign.scheduler.TheConstants.{CAPACITY}
use Rattle.schedulers.specs.reassign.Epoch.{Waiting, is_open, closing_of, unflagged, eligible, without, waits_ordered, leaves_flagged, picked}
use Rattle.schedulers.specs.elevator.laws.Eligible.{only-may_leave}
use Rattle.schedulers.specs.reassign.Sched.{SchedState, accepted, sent}
use Rattle.device_epochs.specs.Device.{DeviceState}
use Rattle.script_grammar.specs.Grammar.{IsRequestOf}
use Rattle.exact_order.specs.Events.{is_wanted, with_block, places_used}
use Rattle.exact_order.proofs.Alone.{IsIdle, IsPassed, passed, pass-put, pass-flush}
use Rattle.exact_order.proofs.Kept.{kept-top, kind-wanted, flushed-out, fenced-out, no-barrier}
use Rattle.exact_order.proofs.Marks.{AreTaken, ids-more, ids-set}
use Rattle.exact_order.proofs.Waiting.{AreBelow, ArePuts, AreHeld, waits_at, has_block, eligible-more, held-more, without-last, picked-last}

-- what waits is the put at its place, without its barrier flag, and not to be kept
pub record IsLeftOut (rs : List Request) (origins : List (Option ℕ)) (v : Waiting) : Type 0 where
  pub request : Request
  pub at : slice_get rs v.number ≡ Some request
  pub same : v.request ≡ unflagged request
  pub left : is_wanted origins v.number request.kind ≡ false

-- of the puts before place n just the last one of each block that is to be kept is on the medium
pub record IsMarked (origins : List (Option ℕ)) (n : ℕ) (ids : List (Option ℕ)) : Type 0 where
  pub kept : (b top : ℕ) → slice_get origins b ≡ Some (Some top) → top < n → slice_get ids b ≡ Some (Some top)
  pub none : (b : ℕ) → slice_get origins b ≡ Some None → slice_get ids b ≡ Some None

-- the scheduler before request n
pub record IsWaiting (rs : List Request) (origins : List (Option ℕ)) (n : ℕ) (held : List ℕ) (s : SchedState) : Type 0 where
  pub capacity : s.queue.capacity ≡ CAPACITY
  pub next : s.queue.next ≡ n
  pub below : AreBelow s.queue.next s.queue.waiting
  pub puts : ArePuts s.queue.waiting
  pub few : length s.queue.waiting ≤ n
  pub apart : AreHeld held s.queue.waiting
  pub from : (v : Waiting) → In v s.queue.waiting → IsLeftOut rs origins v

-- the device before request n
pub record IsWritten (blocks : ℕ) (origins : List (Option ℕ)) (n : ℕ) (d : DeviceState) : Type 0 where
  pub idle : IsIdle d
  pub size : length (origin_ids d.took d.origins) ≡ blocks
  pub places : length d.origins ≡ blocks
  pub taken : AreTaken d.took d.origins
  pub marked : IsMarked origins n (origin_ids d.took d.origins)

module _ {base image : List (List ℕ)} {rs : List Request} {origins : List (Option ℕ)} (c : IsOrderClosed base rs image origins) (blocks : ℕ) (all : (i : ℕ) (q : Request) → slice_get rs i ≡ Some q → IsRequestOf blocks i q) where
  module _ (n : ℕ) (p : Request) (at : slice_get rs n ≡ Some p) (within : n < places_used origins) where
    -- a request that is wanted by no origin
    unmarked : (ids : List (Option ℕ)) → ((b : ℕ) → kind_block p.kind ≡ Some b → is_wanted origins n p.kind ≡ true → ⊥) → IsMarked origins n ids → IsMarked origins (n + 1) ids
    unmarked ids not m = record {
      kept = λ b top has lt.
          ⊎_elim
          (λ less. m.kept b top has less)
          (λ le.
          let same : top ≡ n = omega (arith, le, lt) in
          let put : kind_block p.kind ≡ Some b = ap (option_and_then (λ (r : Request). kind_block r.kind)) (sym at) ∙ subst (λ i. option_and_then (λ (r : Request). kind_block r.kind) (slice_get rs i) ≡ Some b) same (c.block_of b top has) in
          absurd (not b put (kind-wanted origins p.kind b n top put has (omega (arith, same)))))
          (cases_lt top n);
      none = m.none;
    }

    -- ---- a put that is not kept is accepted, and waits

    module _ (held : List ℕ) (s : SchedState) (w : IsWaiting rs origins n held s) where
      abbrev entrant : Waiting
      entrant = record { number = s.queue.next; request = unflagged p }

      left-put : (k : Kind) → p.kind ≡ k → is_wanted origins n k ≡ false → is_flush k ≡ false
      left-put (Put block body) kind left = refl
      left-put Flush kind left = absurd (false≢true (sym left))

      left-held : (k : Kind) → p.kind ≡ k → is_wanted origins n k ≡ false → AreHeld (with_block held k) (s.queue.waiting ++ entrant ∷ [])
      left-held (Put block body) kind left = held-more held s.queue.waiting entrant block body kind w.below w.puts w.apart
      left-held Flush kind left = absurd (false≢true (sym left))

      pub accepted-waiting : is_wanted origins n p.kind ≡ false → IsWaiting rs origins (n + 1) (with_block held p.kind) (accepted s p)
      accepted-waiting left =
          let next = w.next in
          let few = w.few in
          record {
            capacity = w.capacity;
            next = omega (arith, next);
            below = λ v h.
                ⊎_elim
                (λ old. let lt = w.below v old in omega (arith, lt))
                (λ new. let same = ap (λ (x : Waiting). x.number) new in omega (arith, same))
                (In-push_cases s.queue.waiting entrant v h);
            puts = λ v h.
                ⊎_elim
                (λ old. w.puts v old)
                (λ new. subst (λ (x : Waiting). is_flush x.request.kind ≡ false) new (left-put p.kind refl left))
                (In-push_cases s.queue.waiting entrant v h);
            few = let m = length_push s.queue.waiting entrant in omega (arith, m, few);
            apart = left-held p.kind refl left;
            from = λ v h.
                ⊎_elim
                (λ old. w.from v old)
                (λ new.
                subst (IsLeftOut rs origins) new
                (record {
                  request = p;
                  at = ap (slice_get rs) next ∙ at;
                  same = refl;
                  left = ap (λ i. is_wanted origins i p.kind) next ∙ left;
                }))
                (In-push_cases s.queue.waiting entrant v h);
          }

      pub accepted-open : is_wanted origins n p.kind ≡ false → is_open (accepted s p).queue.closing ≡ true
      accepted-open left =
          rw (left-put p.kind refl left) (rw (no-barrier c n blocks p at left (all n p at) within) refl)

      -- ---- a request that leaves again at once

      gone : without s.queue.next (s.queue.waiting ++ entrant ∷ []) ≡ s.queue.waiting
      gone = without-last s.queue.waiting entrant w.below

      pub sent-waiting : IsWaiting rs origins (n + 1) held (sent (accepted s p) (Some entrant))
      sent-waiting =
          let rest = gone in
          let next = w.next in
          let few = w.few in
          record {
            capacity = w.capacity;
            next = omega (arith, next);
            below = λ v h. let lt = w.below v (subst (In v) rest h) in omega (arith, lt);
            puts = λ v h. w.puts v (subst (In v) rest h);
            few = let m = ap length rest in omega (arith, m, few);
            apart = subst (AreHeld held) (sym rest) w.apart;
            from = λ v h. w.from v (subst (In v) rest h);
          }

      -- it leaves as the barrier, or none closes the queue
      open-behind : (leaves_flagged (accepted s p).queue entrant ≡ true) → is_open (sent (accepted s p) (Some entrant)).queue.closing ≡ true
      open-behind flag = rw flag refl

      open-still : is_open (closing_of p) ≡ true → is_open (sent (accepted s p) (Some entrant)).queue.closing ≡ true
      open-still still =
          elim (cases_Bool (leaves_flagged (accepted s p).queue entrant)) [
            | inl t ↦ rw t refl
            | inr f ↦ rw f still
          ]

      -- nothing order-preserving waits before a barrier behind which a put is kept
      none_ordered : p.barrier ≡ true → n + 1 < places_used origins → waits_ordered s.queue.waiting ≡ false
      none_ordered barrier more =
          list_any-none (λ (v : Waiting). v.request.ordered) s.queue.waiting
          (λ v h.
          elim (cases_Bool v.request.ordered) [
            | inl t ↦
                let f = w.from v h in
                let lt = w.below v h in
                let next = w.next in
                absurd (fenced-out c v.number n f.request p f.at f.left (ap (λ (q : Request). q.ordered) (sym f.same) ∙ t) at barrier (omega (arith, lt, next)) more)
            | inr o ↦ o
          ])

      put-open : (block : ℕ) (body : List ℕ) → p.kind ≡ Put block body → n + 1 < places_used origins → is_open (sent (accepted s p) (Some entrant)).queue.closing ≡ true
      put-open block body kind more =
          let put : is_flush p.kind ≡ false = ap is_flush kind in
          elim (cases_Bool p.barrier) [
            | inl t ↦
                let ordered = (all n p at).ordered t in
                let rest : waits_ordered (without s.queue.next (s.queue.waiting ++ entrant ∷ [])) ≡ false = ap waits_ordered gone ∙ none_ordered t more in
                open-behind (rw rest (rw put (rw t (rw ordered refl))))
            | inr f ↦ open-still (rw put (rw f refl))
          ]

      -- while a put is still to be kept, the queue is open again
      pub sent-open : (k : Kind) → p.kind ≡ k → n + 1 < places_used origins → is_open (sent (accepted s p) (Some entrant)).queue.closing ≡ true
      sent-open (Put block body) kind more = put-open block body kind more
      sent-open Flush kind more = open-behind (rw (ap is_flush kind) refl)

      -- ---- it may leave

      -- no put of its block waits before a put that is kept
      none_at : (block : ℕ) (body : List ℕ) → p.kind ≡ Put block body → is_wanted origins n p.kind ≡ true → waits_at s.queue.waiting block ≡ false
      none_at block body kind wanted =
          let top = kept-top origins block n (subst (λ k. is_wanted origins n k ≡ true) kind wanted) in
          list_any-none (λ (v : Waiting). has_block v.request.kind block) s.queue.waiting
          (λ v h.
          elim (cases_Bool (has_block v.request.kind block)) [
            | inl t ↦
                let f = w.from v h in
                let lt = w.below v h in
                let next = w.next in
                let le = top.2 in
                let mine : kind_block f.request.kind ≡ Some block = ap (λ (q : Request). kind_block q.kind) (sym f.same) ∙ block-is v.request.kind block t in
                absurd (both_ways (is_wanted origins v.number f.request.kind) f.left (kind-wanted origins f.request.kind block v.number top.0 mine top.1 (omega (arith, lt, next, le))))
            | inr o ↦ o
          ])
        where
          block-is : (k : Kind) (b : ℕ) → has_block k b ≡ true → kind_block k ≡ Some b
          block-is (Put a body) b e = ap Some (eqb-true a b e)
          block-is Flush b e = absurd (false≢true e)

      -- nothing waits before a flush behind which a put is kept
      none_waits : (ws : List Waiting) → s.queue.waiting ≡ ws → p.kind ≡ Flush → ws ≡ []
      none_waits [] e flush = refl
      none_waits (v ∷ vs) e flush =
          let h : In v s.queue.waiting = subst (In v) (sym e) (inl refl) in
          let f = w.from v h in
          let lt = w.below v h in
          let next = w.next in
          absurd (flushed-out c v.number n f.request p f.at f.left at flush (omega (arith, lt, next)) within)

      pub leaves-last : (k : Kind) → p.kind ≡ k → is_wanted origins n p.kind ≡ true → picked (accepted s p).queue (length held) ≡ Some entrant
      leaves-last (Put block body) kind wanted =
          picked-last s.queue.waiting entrant held (eligible-more entrant block body kind s.queue.waiting w.below w.puts (none_at block body kind wanted)) w.apart
      leaves-last Flush kind wanted =
          let none = none_waits s.queue.waiting refl kind in
          let size : length held ≡ 0 = sym w.apart.leave ∙ ap (λ l. length (eligible l)) none in
          ap₂ (λ l i. slice_get (eligible (l ++ entrant ∷ [])) i) none size ∙ alone
        where
          alone : slice_get (eligible (entrant ∷ [])) 0 ≡ Some entrant
          alone = rw (only-may_leave entrant) refl

    -- ---- the device

    module _ (d : DeviceState) (w : IsWritten blocks origins n d) (flagged : Bool) where
      abbrev carrier : Command
      carrier = command_of_request (unflagged p) flagged

      put-written : (block : ℕ) (body : List ℕ) → p.kind ≡ Put block body → is_wanted origins n p.kind ≡ true → IsWritten blocks origins (n + 1) (passed d carrier)
      put-written block body kind wanted =
          let part : Part = record { id = p.id; block = block; body = body } in
          let priority = if flagged then Ordered else Simple in
          let is : carrier ≡ record { parts = part ∷ []; priority = priority; barrier = flagged; flush = None } =
          ap (λ k. record { parts = parts_for p.id k; priority = priority; barrier = flagged; flush = flush_for p.id k }) kind in
          let place = length (all_parts d.took) in
          let q = subst (λ x. IsPassed d x (slice_set d.origins block (Some place)) (passed d x)) (sym is) (pass-put d part priority flagged w.idle) in
          let new = passed d carrier in
          let named = (all n p at).named in
          let inside = (all n p at).within block body kind in
          let ids : origin_ids new.took new.origins ≡ slice_set (origin_ids d.took d.origins) block (Some n) =
          ap₂ origin_ids (q.took ∙ ap (λ x. d.took ++ x ∷ []) is) q.origins ∙ ids-set d.took part priority flagged d.origins block w.taken ∙ ap (λ i. slice_set (origin_ids d.took d.origins) block (Some i)) named in
          let top = kept-top origins block n (subst (λ k. is_wanted origins n k ≡ true) kind wanted) in
          let le = top.2 in
          let in_ids : block < length (origin_ids d.took d.origins) = subst (λ m. block < m) (sym w.size) inside in
          let in_origins : block < length d.origins = subst (λ m. block < m) (sym w.places) inside in
          let size = length-all_parts-push d.took carrier in
          let parts : length carrier.parts ≡ 1 = ap (λ (x : Command). length x.parts) is in
          record {
            idle = q.idle;
            size = ap length ids ∙ length-set (origin_ids d.took d.origins) block (Some n) ∙ w.size;
            places = ap length q.origins ∙ length-set d.origins block (Some place) ∙ w.places;
            taken =
                subst (λ t. AreTaken t new.origins) (sym q.took)
                (subst (AreTaken (d.took ++ carrier ∷ [])) (sym q.origins)
                (λ b other has.
                elim (cases_eq b block) [
                  | inl same ↦
                      let here : Some (Some place) ≡ Some (Some other) = sym (slice_get-set_same d.origins block (Some place) in_origins) ∙ ap (slice_get (slice_set d.origins block (Some place))) (sym same) ∙ has in
                      let e = same_Some place other (same_Some (Some place) (Some other) here) in
                      omega (arith, e, size, parts)
                  | inr apart ↦
                      let lt = w.taken b other (sym (slice_get-set_other d.origins block b (Some place) apart) ∙ has) in
                      omega (arith, lt, size, parts)
                ]));
            marked =
                subst (IsMarked origins (n + 1)) (sym ids)
                (record {
                  kept = λ b t has lt.
                      elim (cases_eq b block) [
                        | inl same ↦
                            let one : top.0 ≡ t = same_Some top.0 t (same_Some (Some top.0) (Some t) (sym top.1 ∙ ap (slice_get origins) (sym same) ∙ has)) in
                            let here : t ≡ n = omega (arith, one, le, lt) in
                            ap (slice_get (slice_set (origin_ids d.took d.origins) block (Some n))) same ∙ slice_get-set_same (origin_ids d.took d.origins) block (Some n) in_ids ∙ ap (λ i. Some (Some i)) (sym here)
                        | inr apart ↦
                            slice_get-set_other (origin_ids d.took d.origins) block b (Some n) apart
                            ∙ (elim (cases_lt t n) [
                              | inl less ↦ w.marked.kept b t has less
                              | inr more ↦
                                  let here : t ≡ n = omega (arith, more, lt) in
                                  let put : kind_block p.kind ≡ Some b = ap (option_and_then (λ (r : Request). kind_block r.kind)) (sym at) ∙ subst (λ i. option_and_then (λ (r : Request). kind_block r.kind) (slice_get rs i) ≡ Some b) here (c.block_of b t has) in
                                  absurd (apart (same_Some b block (sym put ∙ ap kind_block kind)))
                            ])
                      ];
                  none = λ b has.
                      slice_get-set_other (origin_ids d.took d.origins) block b (Some n)
                      (λ same. none-some top.0 (same_Some None (Some top.0) (sym has ∙ ap (slice_get origins) same ∙ top.1)))
                      ∙ w.marked.none b has;
                });
          }

      flush-written : p.kind ≡ Flush → IsWritten blocks origins (n + 1) (passed d carrier)
      flush-written kind =
          let priority = if flagged then Ordered else Simple in
          let is : carrier ≡ record { parts = []; priority = priority; barrier = flagged; flush = Some p.id } =
          ap (λ k. record { parts = parts_for p.id k; priority = priority; barrier = flagged; flush = flush_for p.id k }) kind in
          let q = subst (λ x. IsPassed d x d.origins (passed d x)) (sym is) (pass-flush d p.id priority flagged w.idle) in
          let new = passed d carrier in
          let ids : origin_ids new.took new.origins ≡ origin_ids d.took d.origins =
          ap₂ origin_ids q.took q.origins ∙ ids-more d.took carrier d.origins w.taken in
          let size = length-all_parts-push d.took carrier in
          record {
            idle = q.idle;
            size = ap length ids ∙ w.size;
            places = ap length q.origins ∙ w.places;
            taken =
                subst (λ t. AreTaken t new.origins) (sym q.took)
                (subst (AreTaken (d.took ++ carrier ∷ [])) (sym q.origins) (λ b other has. let lt = w.taken b other has in omega (arith, lt, size)));
            marked = subst (IsMarked origins (n + 1)) (sym ids) (unmarked (origin_ids d.took d.origins) (λ b put wanted. none-some b (sym (ap kind_block kind) ∙ put)) w.marked);
          }

      -- it was wanted, and is written
      pub passed-written : (k : Kind) → p.kind ≡ k → is_wanted origins n p.kind ≡ true → IsWritten blocks origins (n + 1) (passed d carrier)
      passed-written (Put block body) kind wanted = put-written block body kind wanted
      passed-written Flush kind wanted = flush-written kind

    -- it was not wanted, and nothing was written
    pub left-written : (d : DeviceState) → is_wanted origins n p.kind ≡ false → IsWritten blocks origins n d → IsWritten blocks origins (n + 1) d
    left-written d left w = record {
      idle = w.idle;
      size = w.size;
      places = w.places;
      taken = w.taken;
      marked = unmarked (origin_ids d.took d.origins) (λ b put wanted. both_ways (is_wanted origins n p.kind) left wanted) w.marked;
    }
