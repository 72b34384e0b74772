-- What a run leaves of what was there: entries, notes and completions come behind the old ones, and the limit stays.
use Rattle.std.proofs.Common.{◌≡◌, ℕ, ◌<◌, ◌≤◌, List, [], ◌∷◌, ◌++◌, length, slice_get, refl, sym, ap, subst, ◌∙◌, append_assoc, arith}
use Rattle.std.proofs.lemmas.List.{append-nil, length-append}
use Rattle.blk_base.specs.laws.Members.{slice_get-append_left}
use Rattle.host_machine.specs.State.{Host}
use Rattle.host_machine.specs.laws.Contract.{Over}
use Rattle.host_machine.specs.runs.Runs.{Event, AreBegun, stepped, steps}
use Rattle.host_machine.specs.runs.laws.Traces.{Trace, trace_of, Move, Stays, Puts, Enters, Cuts, Takes}
use Rattle.host_machine.proofs.RunsLemmas.Threads.{moved}

-- ys begins with xs
pub record Extends {X : Type 0} (xs ys : List X) : Type 0 where
  pub more : List X
  pub are : ys ≡ xs ++ more

pub same_list : {X : Type 0} (xs : List X) → Extends xs xs
same_list xs = record { more = []; are = sym (append-nil xs) }

pub one_more : {X : Type 0} (xs : List X) (x : X) → Extends xs (xs ++ x ∷ [])
one_more xs x = record { more = x ∷ []; are = refl }

pub extends_on : {X : Type 0} (xs ys zs : List X) → Extends xs ys → Extends ys zs → Extends xs zs
extends_on xs ys zs a b = record { more = a.more ++ b.more; are = b.are ∙ ap (λ l. l ++ b.more) a.are ∙ append_assoc xs a.more b.more }

pub record Grows {C R : Type 0} (old new : Trace C R) : Type 0 where
  pub history : Extends old.history new.history
  pub notes : Extends old.notes new.notes
  pub taken : Extends old.taken new.taken
  pub limit : new.limit ≡ old.limit
  pub room : length old.requests ≤ old.limit → length new.requests ≤ new.limit
  pub requests : length old.requests ≤ length new.requests

module _ {C R : Type 0} where
  pub grows_not : (t : Trace C R) → Grows t t
  grows_not t = record { history = same_list t.history; notes = same_list t.notes; taken = same_list t.taken; limit = refl; room = λ r. r; requests = omega arith }

  pub grows_on : (a b c : Trace C R) → Grows a b → Grows b c → Grows a c
  grows_on a b c x y = record {
    history = extends_on a.history b.history c.history x.history y.history;
    notes = extends_on a.notes b.notes c.notes x.notes y.notes;
    taken = extends_on a.taken b.taken c.taken x.taken y.taken;
    limit = y.limit ∙ x.limit;
    room = λ r. y.room (x.room r);
    requests = (let m = x.requests in let n = y.requests in omega (arith, m, n));
  }

  move_grows : (old new : Trace C R) → Move old new → Grows old new
  move_grows old new (Stays q) = subst (Grows old) q (grows_not old)
  move_grows old new (Puts r n room q) =
      subst (Grows old) q (record {
        history = same_list old.history;
        notes = one_more old.notes n;
        taken = same_list old.taken;
        limit = refl;
        room = λ was. (let l = length-append old.requests (r ∷ []) in omega (arith, room, l));
        requests = (let l = length-append old.requests (r ∷ []) in omega (arith, l));
      })
  move_grows old new (Enters e q) = subst (Grows old) q (record { history = one_more old.history e; notes = same_list old.notes; taken = same_list old.taken; limit = refl; room = λ r. r; requests = omega arith })
  move_grows old new (Cuts q) = subst (Grows old) q (record { history = same_list old.history; notes = same_list old.notes; taken = same_list old.taken; limit = refl; room = λ r. r; requests = omega arith })
  move_grows old new (Takes c q) = subst (Grows old) q (record { history = same_list old.history; notes = same_list old.notes; taken = one_more old.taken c; limit = refl; room = λ r. r; requests = omega arith })

module _ {A T V C R : Type 0} (o : Over A T V C R) where
  pub run_grows : (h : Host V C R) → AreBegun o.model.kind h.threads → (es : List Event) → Grows (trace_of h) (trace_of (steps o h es))
  run_grows h begun [] = grows_not (trace_of h)
  run_grows h begun (e ∷ es) =
      let m = moved o h begun e in
      grows_on (trace_of h) (trace_of (stepped o h e)) (trace_of (steps o (stepped o h e) es)) (move_grows (trace_of h) (trace_of (stepped o h e)) m.1) (run_grows (stepped o h e) m.0 es)

  pub stay_begun : (h : Host V C R) → AreBegun o.model.kind h.threads → (es : List Event) → AreBegun o.model.kind (steps o h es).threads
  stay_begun h begun [] = begun
  stay_begun h begun (e ∷ es) = stay_begun (stepped o h e) (moved o h begun e).0 es

-- an old place holds what it held
pub extended_place : {X : Type 0} (xs ys : List X) → Extends xs ys → (i : ℕ) → i < length xs → slice_get ys i ≡ slice_get xs i
extended_place xs ys e i lt = ap (λ l. slice_get l i) e.are ∙ slice_get-append_left xs e.more i lt
