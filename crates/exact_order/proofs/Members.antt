-- A medium that is left, and media that no events leave.
use Rattle.std.proofs.Common.{◌≡◌, ℕ, zero, suc, ◌<◌, ◌≤◌, true, List, [], ◌∷◌, Option, Some, None, slice_get, refl, sym, ap, subst, ◌∙◌, inl, inr, arith}
use Rattle.std.proofs.lemmas.Bool.{false≢true}
use Rattle.std.specs.Option.{option_and_then}
use Rattle.std.proofs.lemmas.Option.{none-some, same_Some}
use Rattle.blk_base.specs.Block.{filled}
use Rattle.blk_base.specs.Members.{In}
use Rattle.order_model.specs.declared.request.Request.{Request}
use Rattle.order_model.specs.OrderClosed.{is_flush, kind_block, IsOrderedBefore, IsKept}
use Rattle.order_model.specs.Device.{origin_ids}
use Rattle.script_words.specs.declared.limits.TheConstants.{MOST_EVENTS, MOST_REPEATS, PLACES}
use Rattle.script_grammar.specs.declared.limits.TheConstants.{MOST_BLOCKS, MOST_DEPTH, MOST_QUEUE, MOST_REQUESTS}
use Rattle.script_grammar.specs.declared.script.EventLine.{EventLine}
use Rattle.script_grammar.specs.declared.script.CoreEvent.{CoreEvent}
use Rattle.script_grammar.specs.declared.script.CoreEvent.TheVariants.{Submit, Accept, Dispatch, Receive, Transfer, Persist}
use Rattle.script_grammar.specs.declared.words.Class.{Class}
use Rattle.script_grammar.specs.declared.words.Class.TheVariants.{Free, Ordered, Barrier}
use Rattle.script_grammar.specs.Grammar.{IsRequestOf, put_request, flush_request, is_ordered_class, is_barrier_class}
use Rattle.script_grammar.specs.WellFormed.{IsEventOf, IsEventLineOf}
use Rattle.stack_core.specs.Core.{run_lines}
use Rattle.exact_order.specs.Left.{end_under, AreEvents, IsLeft, IsPlain}
use Rattle.exact_order.specs.Example.{three_blocks, before_barrier, around_flush, line, past_the_first}
use Rattle.exact_order.proofs.Forward.{left-closed}

-- ---- the scripts are plain

barrier-ordered : (class : Class) → is_barrier_class class ≡ true → is_ordered_class class ≡ true
barrier-ordered Free e = absurd (false≢true e)
barrier-ordered Ordered e = absurd (false≢true e)
barrier-ordered Barrier e = refl

put-is : (id block value : ℕ) (class : Class) → block < 3 → IsRequestOf 3 id (put_request id block value class)
put-is id block value class lt = record {
  named = refl;
  within = λ b body e. subst (λ k. k < 3) (same_Some block b (ap kind_block e)) lt;
  ordered = barrier-ordered class;
  flush = λ e. absurd (false≢true (ap is_flush e));
}

flush-is : (id : ℕ) → IsRequestOf 3 id (flush_request id)
flush-is id = record {
  named = refl;
  within = λ b body e. absurd (false≢true (sym (ap is_flush e)));
  ordered = λ e. refl;
  flush = λ e. (refl, refl);
}

three : (a b c : Request) → IsRequestOf 3 0 a → IsRequestOf 3 1 b → IsRequestOf 3 2 c → (i : ℕ) (q : Request) → slice_get (a ∷ b ∷ c ∷ []) i ≡ Some q → IsRequestOf 3 i q
three a b c x y z zero q e = subst (IsRequestOf 3 0) (same_Some a q e) x
three a b c x y z (suc zero) q e = subst (IsRequestOf 3 1) (same_Some b q e) y
three a b c x y z (suc (suc zero)) q e = subst (IsRequestOf 3 2) (same_Some c q e) z
three a b c x y z (suc (suc (suc i))) q e = absurd (none-some q e)

three-plain : (a b c : Request) → IsRequestOf 3 0 a → IsRequestOf 3 1 b → IsRequestOf 3 2 c → IsPlain (three_blocks (a ∷ b ∷ c ∷ []))
three-plain a b c x y z =
    let blocks : MOST_BLOCKS ≡ 4096 = refl in
    let depth : MOST_DEPTH ≡ 64 = refl in
    let queue : MOST_QUEUE ≡ 64 = refl in
    let requests : MOST_REQUESTS ≡ 10000 = refl in
    record {
      runnable = record {
        some_blocks = omega arith;
        few_blocks = omega (arith, blocks);
        some_depth = omega arith;
        depth = omega (arith, depth);
        some_queue = omega arith;
        queue = omega (arith, queue);
        flash = λ n e. absurd (none-some n e);
        few = omega (arith, requests);
        requests = three a b c x y z;
      };
      scheduled = refl;
      elevator = refl;
      flash = refl;
      cut = refl;
      fail = refl;
    }

pub before_barrier-plain : (class : Class) → IsPlain (before_barrier class)
before_barrier-plain class =
    three-plain (put_request 0 0 17 class) (put_request 1 1 34 Barrier) (put_request 2 2 51 Free)
    (put-is 0 0 17 class (omega arith)) (put-is 1 1 34 Barrier (omega arith)) (put-is 2 2 51 Free (omega arith))

pub around_flush-plain : IsPlain around_flush
around_flush-plain =
    three-plain (put_request 0 0 17 Free) (flush_request 1) (put_request 2 2 51 Free)
    (put-is 0 0 17 Free (omega arith)) (flush-is 1) (put-is 2 2 51 Free (omega arith))

-- ---- a medium that is left

past-surface : (end_under (before_barrier Free) past_the_first).dev.surface ≡ filled 0 ∷ filled 34 ∷ filled 51 ∷ []
unfolding run_lines
past-surface = refl

past-origins : origin_ids (end_under (before_barrier Free) past_the_first).dev.took (end_under (before_barrier Free) past_the_first).dev.origins ≡ None ∷ Some 1 ∷ Some 2 ∷ []
unfolding run_lines
past-origins = refl

said-line : (e : CoreEvent) (n : ℕ) → IsEventOf true e → 1 ≤ n → n ≤ 2 → IsEventLineOf true (line e n)
said-line e n is some few =
    let most : MOST_REPEATS ≡ 1000000 = refl in
    record { event = is; some = some; most = omega (arith, few, most) }

low : (n : ℕ) → n < 2 → n < PLACES
low n lt = let most : PLACES ≡ 4294967296 = refl in omega (arith, lt, most)

past-said : AreEvents (before_barrier Free) past_the_first
past-said =
    let most : MOST_EVENTS ≡ 20000000 = refl in
    record {
      lines = λ l h. each l h;
      expanded = omega (arith, most);
    }
  where
    each : (l : EventLine) → In l past_the_first → IsEventLineOf true l
    each l (inl e) = subst (IsEventLineOf true) e (said-line Submit 2 refl (omega arith) (omega arith))
    each l (inr (inl e)) = subst (IsEventLineOf true) e (said-line Accept 2 refl (omega arith) (omega arith))
    each l (inr (inr (inl e))) = subst (IsEventLineOf true) e (said-line (Dispatch 1) 1 (refl, low 1 (omega arith)) (omega arith) (omega arith))
    each l (inr (inr (inr (inl e)))) = subst (IsEventLineOf true) e (said-line Submit 1 refl (omega arith) (omega arith))
    each l (inr (inr (inr (inr (inl e))))) = subst (IsEventLineOf true) e (said-line Accept 1 refl (omega arith) (omega arith))
    each l (inr (inr (inr (inr (inr (inl e)))))) = subst (IsEventLineOf true) e (said-line (Dispatch 1) 1 (refl, low 1 (omega arith)) (omega arith) (omega arith))
    each l (inr (inr (inr (inr (inr (inr (inl e))))))) = subst (IsEventLineOf true) e (said-line Receive 2 tt (omega arith) (omega arith))
    each l (inr (inr (inr (inr (inr (inr (inr (inl e)))))))) = subst (IsEventLineOf true) e (said-line (Transfer 0) 2 (low 0 (omega arith)) (omega arith) (omega arith))
    each l (inr (inr (inr (inr (inr (inr (inr (inr (inl e))))))))) = subst (IsEventLineOf true) e (said-line (Persist 0) 2 (low 0 (omega arith)) (omega arith) (omega arith))
    each l (inr (inr (inr (inr (inr (inr (inr (inr (inr h))))))))) = absurd h

pub past-left : IsLeft (before_barrier Free) (filled 0 ∷ filled 34 ∷ filled 51 ∷ []) (None ∷ Some 1 ∷ Some 2 ∷ [])
past-left = record { events = past_the_first; said = past-said; holds = past-surface; written = past-origins }

-- ---- media that are not

-- a put whose block has no origin is not kept
not-kept : (rs : List Request) (others : List (Option ℕ)) → option_and_then (λ (r : Request). kind_block r.kind) (slice_get rs 0) ≡ Some 0 → IsKept rs (None ∷ others) 0 → ⊥
not-kept rs others put k =
    let block : k.block ≡ 0 = sym (same_Some 0 k.block (sym put ∙ k.put)) in
    let held : slice_get (None ∷ others) 0 ≡ Some (Some k.origin) = ap (slice_get (None ∷ others)) (sym block) ∙ k.held in
    none-some k.origin (same_Some None (Some k.origin) held)

pub fenced-not_left : (image : List (List ℕ)) → IsLeft (before_barrier Ordered) image (None ∷ Some 1 ∷ Some 2 ∷ []) → ⊥
fenced-not_left image l =
    let s = before_barrier Ordered in
    let origins : List (Option ℕ) = None ∷ Some 1 ∷ Some 2 ∷ [] in
    let c = left-closed s (before_barrier-plain Ordered) image origins l in
    let before : IsOrderedBefore s.puts 0 2 = inl (record { first = (0, refl); ordered = refl; second = (2, refl); fence = (1, omega arith, omega arith, refl) }) in
    let kept : IsKept s.puts origins 2 = record { block = 2; put = refl; origin = 2; held = refl; later = omega arith } in
    not-kept s.puts (Some 1 ∷ Some 2 ∷ []) refl (c.closed 0 2 before kept)

pub flushed-not_left : (image : List (List ℕ)) → IsLeft around_flush image (None ∷ None ∷ Some 2 ∷ []) → ⊥
flushed-not_left image l =
    let s = around_flush in
    let origins : List (Option ℕ) = None ∷ None ∷ Some 2 ∷ [] in
    let c = left-closed s around_flush-plain image origins l in
    let before : IsOrderedBefore s.puts 0 2 = inr (record { first = (0, refl); second = (2, refl); flush = (1, omega arith, omega arith, refl) }) in
    let kept : IsKept s.puts origins 2 = record { block = 2; put = refl; origin = 2; held = refl; later = omega arith } in
    not-kept s.puts (None ∷ Some 2 ∷ []) refl (c.closed 0 2 before kept)
