-- What the flush actor's part of a host says of its requests: each has a note, which is that of a flush exactly where it is one, and
-- calls need what was submitted. So no flush is due once one more is submitted.
use Rattle.std.specs.List.{list_any}
use Rattle.std.specs.Prelude.{◌≡◌, [], ℕ, ◌+◌, ◌<◌, ◌&&◌, ◌||◌, not, nat_lt, Bool, true, false, List, ◌∷◌, ◌++◌, length, Option, Some, None, slice_get, refl}
use Rattle.std.proofs.Common.{sym, ap, subst, ◌∙◌, arith}
use Rattle.std.proofs.lemmas.Bool.{and_parts, false≢true, lt-ltb}
use Rattle.std.proofs.lemmas.Option.{same_Some}
use Rattle.blk_base.specs.Members.{In}
use Rattle.blk_base.specs.laws.Members.{In-list_any, slice_get-length}
use Rattle.order_model.specs.declared.completion.Completion.{Completion}
use Rattle.order_model.specs.declared.completion.Completion.TheVariants as completions
use Rattle.order_model.specs.declared.note.Note.{Note}
use Rattle.order_model.specs.declared.note.Note.TheVariants as notes
use Rattle.order_model.specs.declared.request.Request.{Request}
use Rattle.order_model.specs.Device.{completion_id}
use Rattle.order_model.specs.OrderClosed.{is_flush}
use Rattle.flush_actor.specs.Part.{FlushPart, is_flush_note, is_moved, flush_above}
use Rattle.flush_actor.specs.Steps.{flush_due, is_due}
use Rattle.flush_actor.specs.declared.wait.Wait.{Wait}
use Rattle.system_laws.proofs.AnsweredLemmas.Drained.{IsDrained}
use Rattle.system_laws.proofs.AnsweredLemmas.OfRequests.{IsOf}

-- the note at a place is that of a flush exactly where the request is one
abbrev pub AreAlike : List Note → List Request → Type 0
AreAlike ns rs = (id : ℕ) (n : Note) (q : Request) → slice_get ns id ≡ Some n → slice_get rs id ≡ Some q → is_flush_note n ≡ is_flush q.kind

-- calls need only what was submitted
abbrev pub NeedBelow : ℕ → List Wait → Type 0
NeedBelow submitted waits = (w : Wait) → In w waits → (id : ℕ) → w.need ≡ Some id → id < submitted

pub record Matches (f : FlushPart) : Type 0 where
  pub counted : length f.notes ≡ length f.requests
  pub alike : AreAlike f.notes f.requests
  pub needed : NeedBelow (length f.notes) f.waits

-- ---- no flush is due behind a flush

or_last : (b : Bool) → (b || true) ≡ true
or_last true = refl
or_last false = refl

above_last : (id i : ℕ) (ns : List Note) → id < i + length ns → flush_above id i (ns ++ notes.Flush ∷ []) ≡ true
above_last id i [] low = ap (λ b. b || false) (lt-ltb id i (omega (arith, low)))
above_last id i (n ∷ ns) low = ap (λ b. (is_flush_note n && nat_lt id i) || b) (above_last id (i + 1) ns (omega (arith, low))) ∙ or_last (is_flush_note n && nat_lt id i)

pub none_due : (f g : FlushPart) → NeedBelow (length f.notes) f.waits → g.notes ≡ f.notes ++ notes.Flush ∷ [] → g.waits ≡ f.waits → flush_due g ≡ true → ⊥
none_due f g needed more waits due =
    let any = (and_parts _ _ due).1 in
    let w = In-list_any (is_due g) g.waits any in
    by w.0 (subst (In w.0) waits w.1) w.0.need refl w.2
  where
    by : (w : Wait) → In w f.waits → (o : Option ℕ) → w.need ≡ o → (elim o as (λ _. Bool) [ None ↦ false | Some id ↦ list_any (is_moved id) g.taken && not (flush_above id 0 g.notes) ]) ≡ true → ⊥
    by w i None e is = false≢true is
    by w i (Some id) e is =
        let above = ap (flush_above id 0) more ∙ above_last id 0 f.notes (let low = needed w i id e in omega (arith, low)) in
        false≢true (ap not (sym above) ∙ (and_parts (list_any (is_moved id) g.taken) (not (flush_above id 0 g.notes)) is).1)

-- ---- once all were taken

-- each request has its completion among those that were taken
pub all_drained : (f : FlushPart) → Matches f → ((id : ℕ) → id < length f.requests → (c : Completion) × In c f.taken × (completion_id c ≡ Some id)) → ((c : Completion) → In c f.taken → IsOf f.requests c) → flush_due f ≡ false → IsDrained f
all_drained f v done each none = record { moved = moved; flushed = flushed; none_due = none }
  where
    low : (id : ℕ) (n : Note) → slice_get f.notes id ≡ Some n → id < length f.requests
    low id n at = let l = slice_get-length f.notes id n at in let same = v.counted in omega (arith, l, same)

    of_put : (id : ℕ) (n : Note) → slice_get f.notes id ≡ Some n → is_flush_note n ≡ false → (c : Completion) → In c f.taken → IsOf f.requests c → completion_id c ≡ Some id → In (completions.Moved id) f.taken
    of_put id n at plain (completions.Moved i) there o e = subst (λ j. In (completions.Moved j) f.taken) (same_Some i id e) there
    of_put id n at plain (completions.Flushed i) there o e = absurd (false≢true (sym plain ∙ (v.alike id n o.0 at (subst (λ j. slice_get f.requests j ≡ Some o.0) (same_Some i id e) o.1) ∙ o.2)))
    of_put id n at plain (completions.Failed i) there o e = absurd o
    of_put id n at plain completions.Cut there o e = absurd o

    of_flush : (id : ℕ) → slice_get f.notes id ≡ Some notes.Flush → (c : Completion) → In c f.taken → IsOf f.requests c → completion_id c ≡ Some id → In (completions.Flushed id) f.taken
    of_flush id at (completions.Flushed i) there o e = subst (λ j. In (completions.Flushed j) f.taken) (same_Some i id e) there
    of_flush id at (completions.Moved i) there o e = absurd (false≢true (sym o.2 ∙ sym (v.alike id notes.Flush o.0 at (subst (λ j. slice_get f.requests j ≡ Some o.0) (same_Some i id e) o.1))))
    of_flush id at (completions.Failed i) there o e = absurd o
    of_flush id at completions.Cut there o e = absurd o

    moved : (id : ℕ) (n : Note) → slice_get f.notes id ≡ Some n → is_flush_note n ≡ false → In (completions.Moved id) f.taken
    moved id n at plain = let c = done id (low id n at) in of_put id n at plain c.0 c.1 (each c.0 c.1) c.2

    flushed : (id : ℕ) → slice_get f.notes id ≡ Some notes.Flush → In (completions.Flushed id) f.taken
    flushed id at = let c = done id (low id notes.Flush at) in of_flush id at c.0 c.1 (each c.0 c.1) c.2
