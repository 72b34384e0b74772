-- The facts of holds and of needs by their parts, each over what it reads; and that they are kept when a request goes out.
use Rattle.std.specs.List.{list_any}
use Rattle.std.specs.Prelude.{◌≡◌, ⊤, ℕ, zero, suc, ◌+◌, ◌<◌, ◌≤◌, ◌==◌, ◌&&◌, ◌||◌, Bool, true, false, List, [], ◌∷◌, ◌++◌, length, map, Option, Some, None, slice_get, slice_index_or, refl}
use Rattle.std.proofs.Common.{sym, ap, subst, ◌∙◌, ⊎_elim, arith, length-append}
use Rattle.std.proofs.lemmas.Bool.{and_parts, false≢true, false_from_ne_true, eqb-true, leb-false, lt-leb}
use Rattle.std.proofs.lemmas.Option.{none-some, same_Some}
use Rattle.blk_base.specs.Members.{In}
use Rattle.blk_base.specs.laws.Members.{slice_get-push, slice_get-push_left, slice_get-push_cases, slice_get-length}
use Rattle.order_model.specs.declared.completion.Completion.TheVariants as completions
use Rattle.order_model.specs.declared.completion.Completion.{Completion}
use Rattle.order_model.specs.declared.note.Note.TheVariants as notes
use Rattle.order_model.specs.declared.note.Note.{Note}
use Rattle.order_model.specs.declared.request.Request.{Request}
use Rattle.flush_actor.specs.Kinds.{makes_durable}
use Rattle.flush_actor.specs.Part.{FlushPart, is_over, at_limit, is_flush_note, submit}
use Rattle.flush_actor.specs.Steps.{commits_before}
use Rattle.flush_actor.specs.Waits.{no_wait, need_commit, awaits}
use Rattle.flush_actor.specs.conflicts.Conflicts.{Conflicts, is_held}
use Rattle.flush_actor.specs.declared.conflicts.held.Held.{Held}
use Rattle.flush_actor.specs.declared.wait.Wait.{Wait}
use Rattle.host_machine.specs.laws.Choices.{either}
use Rattle.system_laws.proofs.AnsweredLemmas.HoldNotes.{same_number, commit_before, before_commit}
use Rattle.commit_actor.specs.Journal.{JournalPart, is_submitted}
use Rattle.system_laws.proofs.AnsweredLemmas.HoldFacts.{HoldFacts}

-- ---- the parts of the facts, over what they read

-- a completion is of a request that was submitted
abbrev pub IsOf : List Note → Completion → Type 0
IsOf ns (completions.Moved id) = id < length ns
IsOf ns (completions.Flushed f) = f < length ns
IsOf ns other = ⊤

pub record NoteFacts (ns : List Note) (taken : List Completion) (through : ℕ → Bool) : Type 0 where
  pub of : (c : Completion) → In c taken → IsOf ns c
  pub commits : (k id : ℕ) → slice_get ns id ≡ Some (notes.Commit k) → through k ≡ true

pub record BlockFacts (ns : List Note) (taken : List Completion) (c : Conflicts) (number : ℕ) : Type 0 where
  pub closed : (x : Held) → In x c.held → (1 ≤ x.transaction) × (x.transaction < number)
  pub wanted : (b : ℕ) → In b c.wanted → is_held c b ≡ true
  pub unflushed : (x : Held) (f : ℕ) → In x c.held → In (completions.Flushed f) taken → commits_before x.transaction f 0 ns ≡ false

abbrev pub AreAwaited : List Note → List Completion → List Held → List Wait → Type 0
AreAwaited ns taken held waits = (x : Held) (id : ℕ) → In x held → slice_get ns id ≡ Some (notes.Commit x.transaction) → In (completions.Moved id) taken → list_any (awaits x.transaction) waits ≡ true

pub record NeedFacts (ns : List Note) (through : ℕ → Bool) (w : Wait) : Type 0 where
  pub put : (id : ℕ) → w.need ≡ Some id → (n : Note) × (slice_get ns id ≡ Some n) × (is_flush_note n ≡ false)
  pub behind : (k id c : ℕ) → w.target ≡ Some k → w.need ≡ Some id → slice_get ns c ≡ Some (notes.Commit k) → c ≤ id
  pub settled : (k id : ℕ) → w.target ≡ Some k → w.need ≡ Some id → through k ≡ true

-- `through` are the transactions that have their commit block, and `number` is the running one
pub record PartFacts (f : FlushPart) (through : ℕ → Bool) (number : ℕ) : Type 0 where
  pub known : NoteFacts f.notes f.taken through
  pub blocks : BlockFacts f.notes f.taken f.conflicts number
  pub awaited : is_over f ≡ false → at_limit f ≡ false → AreAwaited f.notes f.taken f.conflicts.held f.waits
  pub needs : (t : ℕ) → NeedFacts f.notes through (slice_index_or f.waits t no_wait)

-- the facts, by their parts
abbrev pub KeepsHolds : JournalPart → Type 0
KeepsHolds j = PartFacts j.flush (is_submitted j) j.running.number

pub parts_of : (j : JournalPart) → HoldFacts j → KeepsHolds j
parts_of j h = record {
  known = record { of = of; commits = h.through };
  blocks = record { closed = h.closed; wanted = h.wanted; unflushed = h.unflushed };
  awaited = h.awaited;
  needs = λ t. record { put = h.put t; behind = h.behind t; settled = h.settled t };
}
  where
    of : (c : Completion) → In c j.flush.taken → IsOf j.flush.notes c
    of (completions.Moved id) i = h.moved id i
    of (completions.Flushed f) i = h.submitted f i
    of (completions.Failed id) i = tt
    of completions.Cut i = tt

pub facts_of : (j : JournalPart) → KeepsHolds j → HoldFacts j
facts_of j k = record {
  submitted = λ f i. k.known.of (completions.Flushed f) i;
  moved = λ id i. k.known.of (completions.Moved id) i;
  through = k.known.commits;
  closed = k.blocks.closed;
  wanted = k.blocks.wanted;
  unflushed = k.blocks.unflushed;
  awaited = k.awaited;
  put = λ t. (k.needs t).put;
  behind = λ t. (k.needs t).behind;
  settled = λ t. (k.needs t).settled;
}

-- a transaction that has its commit block keeps it
abbrev pub Grows : (ℕ → Bool) → (ℕ → Bool) → Type 0
Grows through now = (k : ℕ) → through k ≡ true → now k ≡ true

-- no call that needs nothing is behind
pub no_need : (ns : List Note) (through : ℕ → Bool) (w : Wait) → w.need ≡ None → NeedFacts ns through w
no_need ns through w none = record {
  put = λ id e. absurd (none-some id (sym none ∙ e));
  behind = λ k id c t e at. absurd (none-some id (sym none ∙ e));
  settled = λ k id t e. absurd (none-some id (sym none ∙ e));
}

-- ---- a request more

one_more : (ns : List Note) (n : Note) → length (ns ++ n ∷ []) ≡ length ns + 1
one_more ns n = length-append ns (n ∷ [])

of_more : (ns : List Note) (n : Note) (c : Completion) → IsOf ns c → IsOf (ns ++ n ∷ []) c
of_more ns n (completions.Moved id) low = let more = one_more ns n in omega (arith, low, more)
of_more ns n (completions.Flushed f) low = let more = one_more ns n in omega (arith, low, more)
of_more ns n (completions.Failed id) low = tt
of_more ns n completions.Cut low = tt

module _ (ns : List Note) (n : Note) (taken : List Completion) (through now : ℕ → Bool) (grows : Grows through now) (known : NoteFacts ns taken through) where
  known_more : ((k : ℕ) → n ≡ notes.Commit k → now k ≡ true) → NoteFacts (ns ++ n ∷ []) taken now
  known_more commit = record {
    of = λ c i. of_more ns n c (known.of c i);
    commits = λ k id e. ⊎_elim (λ old. grows k (known.commits k id old)) (λ last. commit k last.1) (slice_get-push_cases ns n id (notes.Commit k) e);
  }

  blocks_more : (c : Conflicts) (number : ℕ) → BlockFacts ns taken c number → BlockFacts (ns ++ n ∷ []) taken c number
  blocks_more c number facts = record {
    closed = facts.closed;
    wanted = facts.wanted;
    unflushed = λ x f i flushed. false_from_ne_true (commits_before x.transaction f 0 (ns ++ n ∷ [])) (λ yes.
        let there = before_commit x.transaction f 0 (ns ++ n ∷ []) yes in
        let low : f < length ns = known.of (completions.Flushed f) flushed in
        let at = there.2 in
        let old = sym (slice_get-push_left ns n there.0 (omega (arith, low, at))) ∙ there.1 in
        false≢true (sym (facts.unflushed x f i flushed) ∙ commit_before x.transaction f 0 there.0 ns old at));
  }

  awaited_more : (held : List Held) (waits : List Wait) → AreAwaited ns taken held waits → AreAwaited (ns ++ n ∷ []) taken held waits
  awaited_more held waits facts x id i at moved = ⊎_elim
      (λ old. facts x id i old moved)
      (λ last. let low : id < length ns = known.of (completions.Moved id) moved in let same = last.0 in absurd (omega (arith, low, same)))
      (slice_get-push_cases ns n id (notes.Commit x.transaction) at)

  put_more : (w : Wait) (id : ℕ) → NeedFacts ns through w → w.need ≡ Some id → (m : Note) × (slice_get (ns ++ n ∷ []) id ≡ Some m) × (is_flush_note m ≡ false)
  put_more w id facts e = let p = facts.put id e in (p.0, slice_get-push_left ns n id (slice_get-length ns id p.0 p.1) ∙ p.1, p.2)

  -- where the new request is no commit block, or one of a transaction that had none
  need_more : (w : Wait) → NeedFacts ns through w → ((k : ℕ) → n ≡ notes.Commit k → through k ≡ false) → NeedFacts (ns ++ n ∷ []) now w
  need_more w facts none = record {
    put = λ id e. put_more w id facts e;
    behind = λ k id c t e at. ⊎_elim (λ old. facts.behind k id c t e old) (λ last. absurd (false≢true (sym (none k last.1) ∙ facts.settled k id t e))) (slice_get-push_cases ns n c (notes.Commit k) at);
    settled = λ k id t e. grows k (facts.settled k id t e);
  }

-- where the new request is the commit block of transaction k, calls that are made durable by it need it
need_noted : (ns : List Note) (k p : ℕ) (through now : ℕ → Bool) (w : Wait) → Grows through now → p ≡ length ns → through k ≡ false → now k ≡ true → NoteFacts ns [] through → NeedFacts ns through w → NeedFacts (ns ++ notes.Commit k ∷ []) now (need_commit k p w)
need_noted ns k p through now w grows place none has known facts =
    either (NeedFacts (ns ++ notes.Commit k ∷ []) now) (makes_durable w.kind && elim w.target as (λ _. Bool) [ Some t ↦ t == k | None ↦ false ]) (record w { need = Some p }) w
    (λ yes. let targets = (and_parts (makes_durable w.kind) _ yes).1 in record {
      put = λ id e. (notes.Commit k, subst (λ c. slice_get (ns ++ notes.Commit k ∷ []) c ≡ Some (notes.Commit k)) (sym place ∙ same_Some p id e) (slice_get-push ns (notes.Commit k)), refl);
      behind = λ j id c t e at.
          let low = slice_get-length (ns ++ notes.Commit k ∷ []) c (notes.Commit j) at in
          let more = one_more ns (notes.Commit k) in
          let same : p ≡ id = same_Some p id e in
          omega (arith, low, more, same, place);
      settled = λ j id t e. subst (λ j. now j ≡ true) (sym (eqb-true j k (subst (λ (o : Option ℕ). elim o as (λ _. Bool) [ Some t ↦ t == k | None ↦ false ] ≡ true) t targets))) has;
    })
    (λ no. need_more ns (notes.Commit k) [] through now grows known w facts (λ j same. subst (λ j. through j ≡ false) (same_number k j same) none))

needs_noted : (ns : List Note) (k p : ℕ) (through now : ℕ → Bool) (ws : List Wait) → Grows through now → p ≡ length ns → through k ≡ false → now k ≡ true → NoteFacts ns [] through
    → ((t : ℕ) → NeedFacts ns through (slice_index_or ws t no_wait)) → (t : ℕ) → NeedFacts (ns ++ notes.Commit k ∷ []) now (slice_index_or (map (need_commit k p) ws) t no_wait)
needs_noted ns k p through now [] grows place none has known facts t = no_need (ns ++ notes.Commit k ∷ []) now no_wait refl
needs_noted ns k p through now (w ∷ ws) grows place none has known facts zero = need_noted ns k p through now w grows place none has known (facts zero)
needs_noted ns k p through now (w ∷ ws) grows place none has known facts (suc t) = needs_noted ns k p through now ws grows place none has known (λ u. facts (suc u)) t

-- whom a call waits for stays
noted_awaits : (k p j : ℕ) (ws : List Wait) → list_any (awaits j) (map (need_commit k p) ws) ≡ list_any (awaits j) ws
noted_awaits k p j [] = refl
noted_awaits k p j (w ∷ ws) =
    ap (λ t. t || list_any (awaits j) (map (need_commit k p) ws)) (either (λ v. awaits j v ≡ awaits j w) (makes_durable w.kind && elim w.target as (λ _. Bool) [ Some t ↦ t == k | None ↦ false ]) (record w { need = Some p }) w (λ e. refl) (λ e. refl))
    ∙ ap (λ t. awaits j w || t) (noted_awaits k p j ws)

at_limit_before : (f : FlushPart) (r : Request) (n : Note) → at_limit (submit r n f) ≡ false → at_limit f ≡ false
at_limit_before f r n e =
    let more = length-append f.requests (r ∷ []) in
    let free = leb-false f.limit (length (f.requests ++ r ∷ [])) e in
    lt-leb f.limit (length f.requests) (omega (arith, more, free))

-- a request that is no commit block goes out
pub sent : (f : FlushPart) (r : Request) (n : Note) (through : ℕ → Bool) (number : ℕ) → ((k : ℕ) → n ≡ notes.Commit k → ⊥) → PartFacts f through number → PartFacts (submit r n f) through number
sent f r n through number other facts = record {
  known = known_more f.notes n f.taken through through (λ k e. e) facts.known (λ k e. absurd (other k e));
  blocks = blocks_more f.notes n f.taken through through (λ k e. e) facts.known f.conflicts number facts.blocks;
  awaited = λ going free. awaited_more f.notes n f.taken through through (λ k e. e) facts.known f.conflicts.held f.waits (facts.awaited going (at_limit_before f r n free));
  needs = λ t. need_more f.notes n f.taken through through (λ k e. e) facts.known (slice_index_or f.waits t no_wait) (facts.needs t) (λ k e. absurd (other k e));
}

-- the commit block of transaction k goes out
pub commit_sent : (f : FlushPart) (r : Request) (n : Note) (k p : ℕ) (through now : ℕ → Bool) (number : ℕ) → n ≡ notes.Commit k → p ≡ length f.notes → Grows through now → through k ≡ false → now k ≡ true
    → PartFacts f through number → PartFacts (record (submit r n f) { waits = map (need_commit k p) f.waits }) now number
commit_sent f r n k p through now number is place grows none has facts =
    subst (λ n. PartFacts (record (submit r n f) { waits = map (need_commit k p) f.waits }) now number) (sym is) (record {
      known = known_more f.notes (notes.Commit k) f.taken through now grows facts.known (λ j e. subst (λ j. now j ≡ true) (same_number k j e) has);
      blocks = blocks_more f.notes (notes.Commit k) f.taken through now grows facts.known f.conflicts number facts.blocks;
      awaited = λ going free x id i at moved.
          noted_awaits k p x.transaction f.waits ∙ awaited_more f.notes (notes.Commit k) f.taken through now grows facts.known f.conflicts.held f.waits (facts.awaited going (at_limit_before f r (notes.Commit k) free)) x id i at moved;
      needs = needs_noted f.notes k p through now f.waits grows place none has (record { of = λ c i. absurd i; commits = facts.known.commits }) facts.needs;
    })
