-- The facts of holds and of needs are kept when a completion is taken, blocks are held or wanted, or a wait changes.
use Rattle.std.specs.List.{filter, list_any}
use Rattle.std.specs.Prelude.{◌≡◌, ◌⊎◌, ℕ, zero, suc, ◌+◌, ◌<◌, ◌≤◌, ◌==◌, Bool, true, false, not, List, [], ◌∷◌, ◌++◌, length, set, Option, Some, None, slice_get, slice_index_or, refl, if◌then◌else◌}
use Rattle.std.proofs.Common.{sym, ap, subst, ◌∙◌, inl, inr, ⊎_elim, arith}
use Rattle.std.proofs.lemmas.Bool.{cases_eq, or_cases, or_left, or_right, or_parts, false≢true, true≢false, false_from_ne_true, not-true}
use Rattle.std.proofs.lemmas.Option.{none-some, same_Some}
use Rattle.blk_base.specs.Members.{In}
use Rattle.blk_base.specs.laws.Members.{In-filter, In-push_cases}
use Rattle.number_sets.specs.laws.Keyed.{In-put_by, put_by-self, put_by-In}
use Rattle.order_model.specs.declared.completion.Completion.TheVariants as completions
use Rattle.order_model.specs.declared.completion.Completion.{Completion}
use Rattle.order_model.specs.declared.note.Note.TheVariants as notes
use Rattle.order_model.specs.declared.note.Note.{Note}
use Rattle.flush_actor.specs.Part.{FlushPart, has_stopped, is_over, at_limit}
use Rattle.flush_actor.specs.Steps.{commits_before, after_moved, take_completion}
use Rattle.flush_actor.specs.Waits.{no_wait, awaits}
use Rattle.flush_actor.specs.conflicts.Conflicts.{Conflicts, is_held, put_held, hold, want, unhold, unhold_by}
use Rattle.flush_actor.specs.conflicts.laws.Holds.{block_of, held_as, held_by, holds_it, In-unhold}
use Rattle.flush_actor.specs.conflicts.laws.Wants.{In-want}
use Rattle.flush_actor.specs.declared.conflicts.held.Held.{Held}
use Rattle.flush_actor.specs.declared.wait.Wait.{Wait}
use Rattle.host_machine.specs.laws.Choices.{either}
use Rattle.system_laws.proofs.ProgressLemmas.Targets.{set_either}
use Rattle.system_laws.proofs.AnsweredLemmas.HoldNotes.{same_number, before_commit}
use Rattle.system_laws.proofs.AnsweredLemmas.HoldParts.{IsOf, BlockFacts, NeedFacts, PartFacts, Grows}

-- ---- a completion is taken

-- what did not stop before
going_before : (taken : List Completion) (c : Completion) → has_stopped (taken ++ c ∷ []) ≡ false → has_stopped taken ≡ false
going_before [] c e = refl
going_before (completions.Moved id ∷ cs) c e = going_before cs c e
going_before (completions.Flushed f ∷ cs) c e = going_before cs c e
going_before (completions.Failed id ∷ cs) c e = absurd (true≢false (or_parts _ true e).1)
going_before (completions.Cut ∷ cs) c e = absurd (true≢false e)

-- holds that end
unheld : (ns : List Note) (taken : List Completion) (c : Conflicts) (number : ℕ) (ended : ℕ → Bool) → BlockFacts ns taken c number → BlockFacts ns taken (unhold_by ended c) number
unheld ns taken c number ended facts = record {
  closed = λ x i. facts.closed x (In-filter (λ (h : Held). not (ended h.transaction)) c.held x i).0;
  wanted = λ b i. (In-filter (λ b. list_any (λ (h : Held). h.block == b) (filter (λ (h : Held). not (ended h.transaction)) c.held)) c.wanted b i).1;
  unflushed = λ x f i. facts.unflushed x f (In-filter (λ (h : Held). not (ended h.transaction)) c.held x i).0;
}

module _ (f : FlushPart) (through : ℕ → Bool) (number : ℕ) (facts : PartFacts f through number) (c : Completion) (timely : IsOf f.notes c) where
  -- these are held then
  taken_with : (now : Conflicts) → BlockFacts f.notes f.taken now number → ((x : Held) → In x now.held → In x f.conflicts.held)
      → ((x : Held) (g : ℕ) → In x now.held → c ≡ completions.Flushed g → commits_before x.transaction g 0 f.notes ≡ false)
      → ((x : Held) (id : ℕ) → In x now.held → slice_get f.notes id ≡ Some (notes.Commit x.transaction) → c ≡ completions.Moved id → list_any (awaits x.transaction) f.waits ≡ true)
      → PartFacts (record f { taken = f.taken ++ c ∷ []; conflicts = now }) through number
  taken_with now blocks fewer flushed moved = record {
    known = record { of = λ d i. ⊎_elim (λ old. facts.known.of d old) (λ same. subst (IsOf f.notes) same timely) (In-push_cases f.taken c d i); commits = facts.known.commits };
    blocks = record {
      closed = blocks.closed;
      wanted = blocks.wanted;
      unflushed = λ x g i j. ⊎_elim (λ old. blocks.unflushed x g i old) (λ same. flushed x g i same) (In-push_cases f.taken c (completions.Flushed g) j);
    };
    awaited = λ going free x id i at j. ⊎_elim (λ old. facts.awaited (going_before f.taken c going) free x id (fewer x i) at old) (λ same. moved x id i at same) (In-push_cases f.taken c (completions.Moved id) j);
    needs = facts.needs;
  }

abbrev tells_flushed : Completion → Bool
tells_flushed (completions.Flushed f) = true
tells_flushed other = false

abbrev tells_moved : Completion → Bool
tells_moved (completions.Moved id) = true
tells_moved other = false

abbrev id_of : Completion → ℕ
id_of (completions.Moved id) = id
id_of (completions.Flushed id) = id
id_of other = 0

abbrev is_commit_note : Note → Bool
is_commit_note (notes.Commit k) = true
is_commit_note other = false

-- a request moves that is no commit block
moved_other : (f : FlushPart) (through : ℕ → Bool) (number id : ℕ) → PartFacts f through number → id < length f.notes → ((k : ℕ) → slice_get f.notes id ≡ Some (notes.Commit k) → ⊥)
    → PartFacts (record f { taken = f.taken ++ completions.Moved id ∷ [] }) through number
moved_other f through number id facts timely other =
    taken_with f through number facts (completions.Moved id) timely f.conflicts facts.blocks (λ x i. i) (λ x g i e. absurd (false≢true (ap tells_flushed e)))
    (λ x j i at e. absurd (other x.transaction (subst (λ j. slice_get f.notes j ≡ Some (notes.Commit x.transaction)) (sym (ap id_of e)) at)))

-- the commit block of transaction k moves
moved_commit : (f : FlushPart) (through : ℕ → Bool) (number id k : ℕ) → PartFacts f through number → id < length f.notes → slice_get f.notes id ≡ Some (notes.Commit k)
    → PartFacts (record f { taken = f.taken ++ completions.Moved id ∷ []; conflicts = if list_any (awaits k) f.waits then f.conflicts else unhold k f.conflicts }) through number
moved_commit f through number id k facts timely is =
    either (λ now. PartFacts (record f { taken = f.taken ++ completions.Moved id ∷ []; conflicts = now }) through number) (list_any (awaits k) f.waits) f.conflicts (unhold k f.conflicts)
    (λ waits. taken_with f through number facts (completions.Moved id) timely f.conflicts facts.blocks (λ x i. i) (λ x g i e. absurd (false≢true (ap tells_flushed e)))
    (λ x j i at e. subst (λ k. list_any (awaits k) f.waits ≡ true) (its x j at e) waits))
    (λ none. taken_with f through number facts (completions.Moved id) timely (unhold k f.conflicts) (unheld f.notes f.taken f.conflicts number (λ t. t == k) facts.blocks) (λ x i. (In-unhold k f.conflicts x i).0)
    (λ x g i e. absurd (false≢true (ap tells_flushed e)))
    (λ x j i at e. absurd ((In-unhold k f.conflicts x i).1 (sym (its x j at e)))))
  where
    its : (x : Held) (j : ℕ) → slice_get f.notes j ≡ Some (notes.Commit x.transaction) → completions.Moved id ≡ completions.Moved j → k ≡ x.transaction
    its x j at e = same_number k x.transaction (same_Some (notes.Commit k) (notes.Commit x.transaction) (sym is ∙ (ap (slice_get f.notes) (ap id_of e) ∙ at)))

moved_taken : (f : FlushPart) (through : ℕ → Bool) (number id : ℕ) → PartFacts f through number → id < length f.notes → (o : Option Note) → slice_get f.notes id ≡ o
    → PartFacts (record f { taken = f.taken ++ completions.Moved id ∷ []; conflicts = after_moved o f.waits f.conflicts }) through number
moved_taken f through number id facts timely None is = moved_other f through number id facts timely (λ k e. none-some (notes.Commit k) (sym is ∙ e))
moved_taken f through number id facts timely (Some (notes.Commit k)) is = moved_commit f through number id k facts timely is
moved_taken f through number id facts timely (Some (notes.Page g j c)) is = moved_other f through number id facts timely (λ k e. false≢true (ap is_commit_note (same_Some _ (notes.Commit k) (sym is ∙ e))))
moved_taken f through number id facts timely (Some notes.Super) is = moved_other f through number id facts timely (λ k e. false≢true (ap is_commit_note (same_Some _ (notes.Commit k) (sym is ∙ e))))
moved_taken f through number id facts timely (Some (notes.Revoke t)) is = moved_other f through number id facts timely (λ k e. false≢true (ap is_commit_note (same_Some _ (notes.Commit k) (sym is ∙ e))))
moved_taken f through number id facts timely (Some (notes.Descriptor t)) is = moved_other f through number id facts timely (λ k e. false≢true (ap is_commit_note (same_Some _ (notes.Commit k) (sym is ∙ e))))
moved_taken f through number id facts timely (Some (notes.Body t b)) is = moved_other f through number id facts timely (λ k e. false≢true (ap is_commit_note (same_Some _ (notes.Commit k) (sym is ∙ e))))
moved_taken f through number id facts timely (Some (notes.Home b)) is = moved_other f through number id facts timely (λ k e. false≢true (ap is_commit_note (same_Some _ (notes.Commit k) (sym is ∙ e))))
moved_taken f through number id facts timely (Some notes.Flush) is = moved_other f through number id facts timely (λ k e. false≢true (ap is_commit_note (same_Some _ (notes.Commit k) (sym is ∙ e))))
moved_taken f through number id facts timely (Some notes.Raw) is = moved_other f through number id facts timely (λ k e. false≢true (ap is_commit_note (same_Some _ (notes.Commit k) (sym is ∙ e))))

pub taken : (f : FlushPart) (through : ℕ → Bool) (number : ℕ) (c : Completion) → IsOf f.notes c → PartFacts f through number → PartFacts (take_completion c f) through number
taken f through number (completions.Moved id) timely facts = moved_taken f through number id facts timely (slice_get f.notes id) refl
taken f through number (completions.Flushed g) timely facts =
    taken_with f through number facts (completions.Flushed g) timely (unhold_by (λ k. commits_before k g 0 f.notes) f.conflicts) (unheld f.notes f.taken f.conflicts number (λ k. commits_before k g 0 f.notes) facts.blocks)
    (λ x i. (In-filter (λ (h : Held). not (commits_before h.transaction g 0 f.notes)) f.conflicts.held x i).0)
    (λ x j i e. subst (λ j. commits_before x.transaction j 0 f.notes ≡ false) (ap id_of e) (not-true (commits_before x.transaction g 0 f.notes) (In-filter (λ (h : Held). not (commits_before h.transaction g 0 f.notes)) f.conflicts.held x i).1))
    (λ x id i at e. absurd (false≢true (ap tells_moved e)))
taken f through number (completions.Failed id) timely facts =
    taken_with f through number facts (completions.Failed id) timely f.conflicts facts.blocks (λ x i. i) (λ x g i e. absurd (false≢true (ap tells_flushed e))) (λ x j i at e. absurd (false≢true (ap tells_moved e)))
taken f through number completions.Cut timely facts =
    taken_with f through number facts completions.Cut timely f.conflicts facts.blocks (λ x i. i) (λ x g i e. absurd (false≢true (ap tells_flushed e))) (λ x j i at e. absurd (false≢true (ap tells_moved e)))

-- ---- blocks are held or wanted

-- what is held once these blocks are
In-hold_all : (k : ℕ) (bs : List ℕ) (c : Conflicts) (x : Held) → In x (hold k bs c).held → (x.transaction ≡ k) ⊎ In x c.held
In-hold_all k [] c x i = inr i
In-hold_all k (b ∷ bs) c x i = ⊎_elim inl (λ j. ⊎_elim (λ e. inl (sym (ap (λ (h : Held). h.transaction) e))) inr (In-put_by block_of c.held (held_as k b) x j)) (In-hold_all k bs (record c { held = put_held c.held k b }) x i)

hold_wanted : (k : ℕ) (bs : List ℕ) (c : Conflicts) → (hold k bs c).wanted ≡ c.wanted
hold_wanted k [] c = refl
hold_wanted k (b ∷ bs) c = hold_wanted k bs (record c { held = put_held c.held k b })

-- a block that was held still is
held_still : (k b x : ℕ) (c : Conflicts) → is_held c x ≡ true → is_held (record c { held = put_held c.held k b }) x ≡ true
held_still k b x c t =
    let g = held_by c.held x t in
    let now = put_held c.held k b in
    ⊎_elim
    (λ e. subst (λ y. list_any (λ (h : Held). h.block == y) now ≡ true) (sym e) (holds_it now (held_as k b) (put_by-self block_of c.held (held_as k b))))
    (λ ne. subst (λ y. list_any (λ (h : Held). h.block == y) now ≡ true) g.2 (holds_it now g.0 (put_by-In block_of c.held (held_as k b) g.0 g.1 (λ e. ne (sym g.2 ∙ e)))))
    (cases_eq x b)

all_held_still : (k : ℕ) (bs : List ℕ) (x : ℕ) (c : Conflicts) → is_held c x ≡ true → is_held (hold k bs c) x ≡ true
all_held_still k [] x c t = t
all_held_still k (b ∷ bs) x c t = all_held_still k bs x (record c { held = put_held c.held k b }) (held_still k b x c t)

-- the running transaction is closed
pub closed_over : (f : FlushPart) (bs : List ℕ) (through now : ℕ → Bool) (number : ℕ) → Grows through now → 1 ≤ number → through number ≡ false
    → PartFacts f through number → PartFacts (record f { conflicts = hold number bs f.conflicts }) now (number + 1)
closed_over f bs through now number grows some none facts = record {
  known = record { of = facts.known.of; commits = λ k id e. grows k (facts.known.commits k id e) };
  blocks = record {
    closed = λ x i. ⊎_elim (λ e. (omega (arith, e, some), omega (arith, e))) (λ j. let old = facts.blocks.closed x j in (old.0, let low = old.1 in omega (arith, low))) (In-hold_all number bs f.conflicts x i);
    wanted = λ b i. all_held_still number bs b f.conflicts (facts.blocks.wanted b (subst (In b) (hold_wanted number bs f.conflicts) i));
    unflushed = λ x g i j. ⊎_elim (λ e. false_from_ne_true (commits_before x.transaction g 0 f.notes) (λ yes. let there = before_commit x.transaction g 0 f.notes yes in unsent x there.0 e there.1)) (λ old. facts.blocks.unflushed x g old j) (In-hold_all number bs f.conflicts x i);
  };
  awaited = λ going free x id i at j. ⊎_elim (λ e. absurd (unsent x id e at)) (λ old. facts.awaited going free x id old at j) (In-hold_all number bs f.conflicts x i);
  needs = λ t. record { put = (facts.needs t).put; behind = (facts.needs t).behind; settled = λ k id a e. grows k ((facts.needs t).settled k id a e) };
}
  where
    unsent : (x : Held) (c : ℕ) → x.transaction ≡ number → slice_get f.notes c ≡ Some (notes.Commit x.transaction) → ⊥
    unsent x c e at = false≢true (sym none ∙ subst (λ k. through k ≡ true) e (facts.known.commits x.transaction c at))

-- more is through
pub grown : (f : FlushPart) (through now : ℕ → Bool) (number : ℕ) → Grows through now → PartFacts f through number → PartFacts f now number
grown f through now number grows facts = record {
  known = record { of = facts.known.of; commits = λ k id e. grows k (facts.known.commits k id e) };
  blocks = facts.blocks;
  awaited = facts.awaited;
  needs = λ t. record { put = (facts.needs t).put; behind = (facts.needs t).behind; settled = λ k id a e. grows k ((facts.needs t).settled k id a e) };
}

-- a call that is done wants these blocks
pub now_wanted : (f : FlushPart) (bs : List ℕ) (through : ℕ → Bool) (number : ℕ) → PartFacts f through number → PartFacts (record f { conflicts = want bs f.conflicts }) through number
now_wanted f bs through number facts = record {
  known = facts.known;
  blocks = record {
    closed = facts.blocks.closed;
    wanted = λ b i. ⊎_elim (λ old. facts.blocks.wanted b old) (λ new. new.1) (In-want f.conflicts bs b i);
    unflushed = facts.blocks.unflushed;
  };
  awaited = facts.awaited;
  needs = facts.needs;
}

-- ---- a wait changes

set_awaits : (k : ℕ) (ws : List Wait) (t : ℕ) (w : Wait) → (awaits k (slice_index_or ws t no_wait) ≡ true → awaits k w ≡ true) → list_any (awaits k) ws ≡ true → list_any (awaits k) (set ws t w) ≡ true
set_awaits k [] t w keeps e = e
set_awaits k (x ∷ xs) zero w keeps e = ⊎_elim (λ here. or_left (awaits k w) _ (keeps here)) (λ later. or_right (awaits k w) _ later) (or_cases (awaits k x) _ e)
set_awaits k (x ∷ xs) (suc t) w keeps e = ⊎_elim (λ here. or_left (awaits k x) _ here) (λ later. or_right (awaits k x) _ (set_awaits k xs t w keeps later)) (or_cases (awaits k x) _ e)

-- while the session goes on, thread t still awaits each transaction that holds a block though its commit block moved
abbrev pub StaysWaiting : FlushPart → Wait → Wait → Type 0
StaysWaiting f w v =
    is_over f ≡ false → at_limit f ≡ false → (x : Held) (id : ℕ) → In x f.conflicts.held → slice_get f.notes id ≡ Some (notes.Commit x.transaction) → In (completions.Moved id) f.taken → awaits x.transaction w ≡ true → awaits x.transaction v ≡ true

pub now_waits : (f : FlushPart) (t : ℕ) (w : Wait) (through : ℕ → Bool) (number : ℕ) → NeedFacts f.notes through w → StaysWaiting f (slice_index_or f.waits t no_wait) w → PartFacts f through number → PartFacts (record f { waits = set f.waits t w }) through number
now_waits f t w through number one stays facts = record {
  known = facts.known;
  blocks = facts.blocks;
  awaited = λ going free x id i at j. set_awaits x.transaction f.waits t w (stays going free x id i at j) (facts.awaited going free x id i at j);
  needs = λ u. ⊎_elim (λ e. subst (NeedFacts f.notes through) (sym e) one) (λ e. subst (NeedFacts f.notes through) (sym e) (facts.needs u)) (set_either f.waits t u w);
}
