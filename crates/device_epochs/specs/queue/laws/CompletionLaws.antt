-- What was completed: how each call keeps it, and what it says of what is seen.
use Rattle.std.specs.Prelude.{◌≡◌, ℕ, zero, suc, ◌+◌, ◌-◌, ◌<◌, ◌≤◌, ◌++◌, ◌&&◌, not, Bool, true, false, List, [], ◌∷◌, length, map, Option, Some, None, slice_get, refl, if◌then◌else◌}
use Rattle.std.specs.Option.{option_and_then, option_to_list}
use Rattle.std.proofs.Common.{sym, ap, subst, ◌∙◌, inl, inr, ⊎_elim, arith, append_assoc}
use Rattle.std.proofs.lemmas.Bool.{cases_Bool, cases_lt, and_parts, not-true, both_ways, false≢true}
use Rattle.std.proofs.lemmas.List.{append-nil, length-map}
use Rattle.std.proofs.lemmas.Option.{none-some, same_Some}
use Rattle.blk_base.specs.Members.{In}
use Rattle.blk_base.specs.laws.Members.{In-push, In-push_left, In-push_cases, In-append_left, In-append_right, In-append_cases, In-map, In-slice_get, slice_get-In, slice_get-length, slice_get-in_range, slice_get-append_left, slice_get-append_right, slice_get-push_left, slice_get-push_cases}
use Rattle.order_model.specs.declared.part.Part.{Part}
use Rattle.order_model.specs.declared.command.Command.{Command}
use Rattle.order_model.specs.declared.completion.Completion.{Completion}
use Rattle.order_model.specs.declared.completion.Completion.TheVariants.{Moved, Flushed, Failed, Cut}
use Rattle.order_model.specs.declared.history.Transfer.{Transfer}
use Rattle.order_model.specs.Received.{part_at, first_part, command_of_part, epoch_of, ids_of, all_ids, IsFlush, completions_of, failures_of}
use Rattle.order_model.specs.Device.{NoneTwice, completion_id}
use Rattle.order_model.proofs.Received.{command_of_part-first, part_at-first, part-lt, id_once, id_once-inside, is-flush}
use Rattle.device_epochs.specs.queue.Queue.{QueueState, Waiting, without}
use Rattle.device_epochs.specs.queue.Told.{told_failed}
use Rattle.device_epochs.specs.queue.Facts.{IsDone, QueueFacts, MovedFacts, IsCompletionOf, CompletionFacts}
use Rattle.device_epochs.specs.queue.laws.QueueLaws.{done-received, received-done, done-moved, moved-done, moved-done-now}

-- ---- the completions of one command

completion_ids-of : (ps : List Part) (fs : List ℕ) (i : ℕ) → option_and_then completion_id (slice_get (map (λ (p : Part). Moved p.id) ps ++ map Flushed fs) i) ≡ slice_get (map (λ (p : Part). p.id) ps ++ fs) i
completion_ids-of [] [] i = refl
completion_ids-of [] (f ∷ fs) zero = refl
completion_ids-of [] (f ∷ fs) (suc i) = completion_ids-of [] fs i
completion_ids-of (p ∷ ps) fs zero = refl
completion_ids-of (p ∷ ps) fs (suc i) = completion_ids-of ps fs i

length-completions-of : (ps : List Part) (fs : List ℕ) → length (map (λ (p : Part). Moved p.id) ps ++ map Flushed fs) ≡ length (map (λ (p : Part). p.id) ps ++ fs)
length-completions-of [] [] = refl
length-completions-of [] (f ∷ fs) = ap suc (length-completions-of [] fs)
length-completions-of (p ∷ ps) fs = ap suc (length-completions-of ps fs)

-- they have the command's ids, in order
pub completion_ids : (c : Command) (i : ℕ) → option_and_then completion_id (slice_get (completions_of c) i) ≡ slice_get (ids_of c) i
completion_ids c i = completion_ids-of c.parts (option_to_list c.flush) i

pub length-completions : (c : Command) → length (completions_of c) ≡ length (ids_of c)
length-completions c = length-completions-of c.parts (option_to_list c.flush)

pub In-completion_id : (c : Command) (x : Completion) → In x (completions_of c) → (id : ℕ) × (completion_id x ≡ Some id) × In id (ids_of c)
In-completion_id c x h =
    let p = In-slice_get (completions_of c) x h in
    let n = length-completions c in
    let lt = p.1 in
    let q = slice_get-in_range (ids_of c) p.0 (omega arith) in
    (q.0, ap (option_and_then completion_id) (sym p.2) ∙ completion_ids c p.0 ∙ q.1, slice_get-In (ids_of c) p.0 q.0 q.1)

pub id-In_completions : (c : Command) (id : ℕ) → In id (ids_of c) → (x : Completion) × In x (completions_of c) × (completion_id x ≡ Some id)
id-In_completions c id h =
    let p = In-slice_get (ids_of c) id h in
    let n = length-completions c in
    let lt = p.1 in
    let q = slice_get-in_range (completions_of c) p.0 (omega arith) in
    (q.0, slice_get-In (completions_of c) p.0 q.0 q.1, ap (option_and_then completion_id) (sym q.1) ∙ completion_ids c p.0 ∙ p.2)

no_cut : (c : Command) → In Cut (completions_of c) → ⊥
no_cut c h = let q = In-completion_id c Cut h in none-some q.0 q.1

failure_ids-of : (ids : List ℕ) (i : ℕ) → option_and_then completion_id (slice_get (map Failed ids) i) ≡ slice_get ids i
failure_ids-of [] i = refl
failure_ids-of (n ∷ ns) zero = refl
failure_ids-of (n ∷ ns) (suc i) = failure_ids-of ns i

-- what a command that was not done completes with has its ids, in order
failure_ids : (c : Command) (i : ℕ) → option_and_then completion_id (slice_get (failures_of c) i) ≡ slice_get (ids_of c) i
failure_ids c i = failure_ids-of (ids_of c) i

pub length-failures : (c : Command) → length (failures_of c) ≡ length (ids_of c)
length-failures c = length-map (ids_of c) Failed

failures-split_of : (ps : List Part) (ids : List ℕ) → map Failed (map (λ (p : Part). p.id) ps ++ ids) ≡ map (λ (p : Part). Failed p.id) ps ++ map Failed ids
failures-split_of [] ids = refl
failures-split_of (p ∷ ps) ids = ap (λ (l : List Completion). Failed p.id ∷ l) (failures-split_of ps ids)

-- part by part, and the flush
pub failures-split : (c : Command) → failures_of c ≡ told_failed c
failures-split c = failures-split_of c.parts (option_to_list c.flush)

no_cut_failed : (c : Command) → In Cut (failures_of c) → ⊥
no_cut_failed c h = let q = In-map Failed (ids_of c) Cut h in none-some q.0 (ap completion_id (sym q.2))

abbrev is_moved : Completion → Bool
is_moved (Moved id) = true
is_moved (Flushed id) = false
is_moved (Failed id) = false
is_moved Cut = false

abbrev is_failed : Completion → Bool
is_failed (Failed id) = true
is_failed (Moved id) = false
is_failed (Flushed id) = false
is_failed Cut = false

flushes : (o : Option ℕ) (x : Completion) → In x (map Flushed (option_to_list o)) → (id : ℕ) × (o ≡ Some id) × (Flushed id ≡ x)
flushes None x h = absurd h
flushes (Some id) x (inl e) = (id, refl, e)
flushes (Some id) x (inr h) = absurd h

-- a part that completes is one of the command's
moved-of : (c : Command) (id : ℕ) → In (Moved id) (completions_of c) → (p : Part) × In p c.parts × (p.id ≡ id)
moved-of c id h =
    ⊎_elim
    (λ l. let q = In-map (λ (p : Part). Moved p.id) c.parts (Moved id) l in (q.0, q.1, same_Some q.0.id id (ap completion_id q.2)))
    (λ r. let q = flushes c.flush (Moved id) r in absurd (false≢true (ap is_moved q.2)))
    (In-append_cases (map (λ (p : Part). Moved p.id) c.parts) (map Flushed (option_to_list c.flush)) (Moved id) h)

-- a flush that completes is the command's
flushed-of : (c : Command) (id : ℕ) → In (Flushed id) (completions_of c) → c.flush ≡ Some id
flushed-of c id h =
    ⊎_elim
    (λ l. let q = In-map (λ (p : Part). Moved p.id) c.parts (Flushed id) l in absurd (false≢true (ap is_moved (sym q.2))))
    (λ r. let q = flushes c.flush (Flushed id) r in q.1 ∙ ap completion_id q.2)
    (In-append_cases (map (λ (p : Part). Moved p.id) c.parts) (map Flushed (option_to_list c.flush)) (Flushed id) h)

-- a command that is done does not fail
no_failed : (c : Command) (id : ℕ) → In (Failed id) (completions_of c) → ⊥
no_failed c id h =
    ⊎_elim
    (λ l. let q = In-map (λ (p : Part). Moved p.id) c.parts (Failed id) l in false≢true (ap is_failed q.2))
    (λ r. let q = flushes c.flush (Failed id) r in false≢true (ap is_failed q.2))
    (In-append_cases (map (λ (p : Part). Moved p.id) c.parts) (map Flushed (option_to_list c.flush)) (Failed id) h)

-- what completes as failed has an id of the command
failed-of : (c : Command) (id : ℕ) → In (Failed id) (failures_of c) → In id (ids_of c)
failed-of c id h =
    let q = In-map Failed (ids_of c) (Failed id) h in
    subst (λ n. In n (ids_of c)) (same_Some q.0 id (ap completion_id q.2)) q.1

-- and nothing else
only_failed : (c : Command) (x : Completion) → In x (failures_of c) → is_failed x ≡ true
only_failed c x h = let q = In-map Failed (ids_of c) x h in ap is_failed (sym q.2)

-- a flush completes with its id
pub flush-completes : (c : Command) (id : ℕ) → c.flush ≡ Some id → In (Flushed id) (completions_of c)
flush-completes c id e =
    In-append_right (map (λ (p : Part). Moved p.id) c.parts) (map Flushed (option_to_list c.flush)) (Flushed id) (rw e (inl refl))

-- ---- how each call keeps them

some_id : (o : Option Completion) (id : ℕ) → option_and_then completion_id o ≡ Some id → (x : Completion) × (o ≡ Some x) × (completion_id x ≡ Some id)
some_id None id e = absurd (none-some id e)
some_id (Some x) id e = (x, refl, e)

-- a completion of a command has one of its ids
of-id : (took : List Command) (ws : List Waiting) (lost : Option ℕ) (x : Completion) (k : ℕ) (c : Command) → IsCompletionOf took ws lost x k c → (id : ℕ) × (completion_id x ≡ Some id) × In id (ids_of c)
of-id took ws lost x k c t =
    ⊎_elim
    (λ d. In-completion_id c x d.1)
    (λ l. let q = In-map Failed (ids_of c) x l.1 in (q.0, ap completion_id (sym q.2), q.1))
    t.cause

pub completions-received : (took : List Command) (ws : List Waiting) (lost : Option ℕ) (cs : List Completion) (off told : Bool) (c : Command) (w : Waiting) → CompletionFacts took ws lost cs off told → ((n : ℕ) → lost ≡ Some n → n < length took) → w.number ≡ length took → CompletionFacts (took ++ c ∷ []) (ws ++ w ∷ []) lost cs off told
completions-received took ws lost cs off told c w f below at =
    record {
      once = f.once;
      source = λ x h.
          ⊎_elim inl
          (λ t.
          let i = t.2 in
          inr (
            t.0,
            t.1,
            record {
              taken = slice_get-push_left took c t.0 (slice_get-length took t.0 t.1 i.taken) ∙ i.taken;
              cause = ⊎_elim (λ d. inl (received-done took ws c w t.0 at d.0, d.1)) inr i.cause;
            },
          ))
          (f.source x h);
      all = λ k d x i.
          ⊎_elim
          (λ done.
          let before = done-received took ws c w k at done.0 in
          f.all k d x (record { taken = sym (slice_get-push_left took c k before.taken) ∙ i.taken; cause = inl (before, done.1) }))
          (λ l. f.all k d x (record { taken = sym (slice_get-push_left took c k (below k l.0)) ∙ i.taken; cause = inr l }))
          i.cause;
      cut_once = f.cut_once;
      told_off = f.told_off;
      told_there = f.told_there;
    }

-- the cut among completions is told
pub cut-told : (took : List Command) (ws : List Waiting) (lost : Option ℕ) (cs : List Completion) (off told : Bool) → CompletionFacts took ws lost cs off told → In Cut cs → told ≡ true
cut-told took ws lost cs off told g h =
    ⊎_elim (λ c. c.1) (λ t. let q = of-id took ws lost Cut t.0 t.1 t.2 in absurd (none-some q.0 q.1)) (g.source Cut h)

-- ---- a command is transferred

-- an id of a command that waits has not completed
waiting-not_yet : (took : List Command) (q : QueueState) (cs : List Completion) (off told : Bool) (w : Waiting) (i id : ℕ) → NoneTwice (all_ids took) → QueueFacts took q → CompletionFacts took q.waiting None cs off told → In w q.waiting → option_and_then completion_id (slice_get cs i) ≡ Some id → In id (ids_of w.command) → ⊥
waiting-not_yet took q cs off told w i id fresh f g h e there =
    let x = some_id (slice_get cs i) id e in
    ⊎_elim
    (λ cut. none-some id (ap completion_id (sym cut.0) ∙ x.2))
    (λ t.
    let c = t.2 in
    ⊎_elim
    (λ done.
    let o = In-completion_id t.1 x.0 done.1 in
    let same : o.0 ≡ id = same_Some o.0 id (sym o.1 ∙ x.2) in
    let number = id_once took t.0 w.number t.1 w.command id fresh c.taken (f.queued w h) (subst (λ n. In n (ids_of t.1)) same o.2) there in
    (done.0).gone w h (sym number))
    (λ l. none-some t.0 l.0)
    c.cause)
    (g.source x.0 (slice_get-In cs i x.0 x.1))

-- completions that have the ids of a command that waits, in order
abbrev HasIds : Command → List Completion → Type 0
HasIds c new = (i : ℕ) → option_and_then completion_id (slice_get new i) ≡ slice_get (ids_of c) i

-- once they came, each id completed once
added_once : (took : List Command) (q : QueueState) (cs new : List Completion) (off told : Bool) (w : Waiting) → NoneTwice (all_ids took) → QueueFacts took q → CompletionFacts took q.waiting None cs off told → In w q.waiting → HasIds w.command new
    → (i j id : ℕ) → option_and_then completion_id (slice_get (cs ++ new) i) ≡ Some id → option_and_then completion_id (slice_get (cs ++ new) j) ≡ Some id → i ≡ j
added_once took q cs new off told w fresh f g h has i j id a b =
    let at = f.queued w h in
    let at_new : (i id : ℕ) → length cs ≤ i → option_and_then completion_id (slice_get (cs ++ new) i) ≡ Some id → slice_get (ids_of w.command) (i - length cs) ≡ Some id =
    λ i id le e.
    sym (has (i - length cs))
    ∙ ap (option_and_then completion_id) (sym (slice_get-append_right cs new i le))
    ∙ e in
    let at_old : (i id : ℕ) → i < length cs → option_and_then completion_id (slice_get (cs ++ new) i) ≡ Some id → option_and_then completion_id (slice_get cs i) ≡ Some id =
    λ i id lt e. ap (option_and_then completion_id) (sym (slice_get-append_left cs new i lt)) ∙ e in
    ⊎_elim
    (λ l.
    ⊎_elim
    (λ m. g.once i j id (at_old i id l a) (at_old j id m b))
    (λ m. absurd (waiting-not_yet took q cs off told w i id fresh f g h (at_old i id l a) (slice_get-In (ids_of w.command) (j - length cs) id (at_new j id m b))))
    (cases_lt j (length cs)))
    (λ l.
    ⊎_elim
    (λ m. absurd (waiting-not_yet took q cs off told w j id fresh f g h (at_old j id m b) (slice_get-In (ids_of w.command) (i - length cs) id (at_new i id l a))))
    (λ m.
    let same = id_once-inside took w.number w.command (i - length cs) (j - length cs) id fresh at (at_new i id l a) (at_new j id m b) in
    omega arith)
    (cases_lt j (length cs)))
    (cases_lt i (length cs))

-- and no cut is among them
added_cut : (took : List Command) (ws : List Waiting) (cs new : List Completion) (off told : Bool) → CompletionFacts took ws None cs off told → told ≡ false → (In Cut new → ⊥)
    → (i j : ℕ) → slice_get (cs ++ new) i ≡ Some Cut → slice_get (cs ++ new) j ≡ Some Cut → i ≡ j
added_cut took ws cs new off told g untold none i j a b =
    ⊎_elim
    (λ l.
    let told_then = cut-told took ws None cs off told g (slice_get-In cs i Cut (sym (slice_get-append_left cs new i l) ∙ a)) in
    absurd (both_ways told untold told_then))
    (λ l. absurd (none (slice_get-In new (i - length cs) Cut (sym (slice_get-append_right cs new i l) ∙ a))))
    (cases_lt i (length cs))

-- the command was done
pub completions-moved : (took : List Command) (q : QueueState) (cs : List Completion) (off now told : Bool) (w : Waiting) → NoneTwice (all_ids took) → QueueFacts took q → CompletionFacts took q.waiting None cs off told → In w q.waiting → told ≡ false → CompletionFacts took (without w.number q.waiting) None (cs ++ completions_of w.command) now told
completions-moved took q cs off now told w fresh f g h untold =
    let new = completions_of w.command in
    let at = f.queued w h in
    record {
      once = added_once took q cs new off told w fresh f g h (completion_ids w.command);
      source = λ x i.
          ⊎_elim
          (λ old.
          ⊎_elim inl
          (λ t.
          let c = t.2 in
          inr (
            t.0,
            t.1,
            record {
              taken = c.taken;
              cause = ⊎_elim (λ d. inl (moved-done took q.waiting w.number t.0 d.0, d.1)) inr c.cause;
            },
          ))
          (g.source x old))
          (λ n. inr (w.number, w.command, record { taken = at; cause = inl (moved-done-now took q.waiting w.number (slice_get-length took w.number w.command at), n) }))
          (In-append_cases cs new x i);
      all = λ k c x i.
          ⊎_elim
          (λ done.
          ⊎_elim
          (λ old. In-append_left cs new x (g.all k c x (record { taken = i.taken; cause = inl (old, done.1) })))
          (λ same.
          let it : c ≡ w.command = same_Some c w.command (sym i.taken ∙ ap (slice_get took) same ∙ at) in
          In-append_right cs new x (subst (λ (d : Command). In x (completions_of d)) it done.1))
          (done-moved took q.waiting w.number k done.0))
          (λ l. absurd (none-some k l.0))
          i.cause;
      cut_once = added_cut took q.waiting cs new off told g untold (no_cut w.command);
      told_off = λ t. absurd (both_ways told untold t);
      told_there = λ t. absurd (both_ways told untold t);
    }

-- the command was not done, and stays among those that were not
pub completions-failed : (took : List Command) (q : QueueState) (cs : List Completion) (off now told : Bool) (w : Waiting) → NoneTwice (all_ids took) → QueueFacts took q → CompletionFacts took q.waiting None cs off told → In w q.waiting → told ≡ false → CompletionFacts took q.waiting (Some w.number) (cs ++ failures_of w.command) now told
completions-failed took q cs off now told w fresh f g h untold =
    let new = failures_of w.command in
    let at = f.queued w h in
    record {
      once = added_once took q cs new off told w fresh f g h (failure_ids w.command);
      source = λ x i.
          ⊎_elim
          (λ old.
          ⊎_elim inl
          (λ t.
          let c = t.2 in
          inr (t.0, t.1, record { taken = c.taken; cause = ⊎_elim inl (λ l. absurd (none-some t.0 l.0)) c.cause }))
          (g.source x old))
          (λ n. inr (w.number, w.command, record { taken = at; cause = inr (refl, n) }))
          (In-append_cases cs new x i);
      all = λ k c x i.
          ⊎_elim
          (λ done. In-append_left cs new x (g.all k c x (record { taken = i.taken; cause = inl done })))
          (λ l.
          let it : c ≡ w.command = same_Some c w.command (sym i.taken ∙ ap (slice_get took) (sym (same_Some w.number k l.0)) ∙ at) in
          In-append_right cs new x (subst (λ (d : Command). In x (failures_of d)) it l.1))
          i.cause;
      cut_once = added_cut took q.waiting cs new off told g untold (no_cut_failed w.command);
      told_off = λ t. absurd (both_ways told untold t);
      told_there = λ t. absurd (both_ways told untold t);
    }

-- ---- the other calls

-- the power may go off where that was not told
pub completions-persisted : (took : List Command) (ws : List Waiting) (lost : Option ℕ) (cs : List Completion) (off now told : Bool) → CompletionFacts took ws lost cs off told → told ≡ false → CompletionFacts took ws lost cs now told
completions-persisted took ws lost cs off now told f untold =
    record {
      once = f.once;
      source = f.source;
      all = f.all;
      cut_once = f.cut_once;
      told_off = λ t. absurd (both_ways told untold t);
      told_there = f.told_there;
    }

cut_no_id : (id : ℕ) → option_and_then completion_id (Some Cut) ≡ Some id → ⊥
cut_no_id id e = none-some id e

pub completions-told : (took : List Command) (ws : List Waiting) (lost : Option ℕ) (cs : List Completion) (off told : Bool) → CompletionFacts took ws lost cs off told → told ≡ false → off ≡ true → CompletionFacts took ws lost (cs ++ Cut ∷ []) off true
completions-told took ws lost cs off told f untold is_off =
    let old : (i id : ℕ) → option_and_then completion_id (slice_get (cs ++ Cut ∷ []) i) ≡ Some id → option_and_then completion_id (slice_get cs i) ≡ Some id =
    λ i id e.
    let x = some_id (slice_get (cs ++ Cut ∷ []) i) id e in
    ⊎_elim
    (λ l. ap (option_and_then completion_id) l ∙ x.2)
    (λ r. absurd (cut_no_id id (ap completion_id r.1 ∙ x.2)))
    (slice_get-push_cases cs Cut i x.0 x.1) in
    let last : (i : ℕ) → slice_get (cs ++ Cut ∷ []) i ≡ Some Cut → i ≡ length cs =
    λ i e.
    ⊎_elim
    (λ l. absurd (both_ways told untold (cut-told took ws lost cs off told f (slice_get-In cs i Cut l))))
    (λ r. r.0)
    (slice_get-push_cases cs Cut i Cut e) in
    record {
      once = λ i j id a b. f.once i j id (old i id a) (old j id b);
      source = λ x h.
          ⊎_elim
          (λ l. ⊎_elim (λ c. absurd (both_ways told untold c.1)) inr (f.source x l))
          (λ e. inl (sym e, refl))
          (In-push_cases cs Cut x h);
      all = λ k c x i. In-push_left cs Cut x (f.all k c x i);
      cut_once = λ i j a b. last i a ∙ sym (last j b);
      told_off = λ t. is_off;
      told_there = λ t. In-push cs Cut;
    }

-- ---- what is seen of them

-- where the cut is to be told, it stands behind the others
pub completions-seen : (took : List Command) (ws : List Waiting) (lost : Option ℕ) (sent waiting : List Completion) (off told : Bool) → CompletionFacts took ws lost (sent ++ waiting) off told
    → (t : Bool) × CompletionFacts took ws lost (sent ++ (waiting ++ (if off && not told then Cut ∷ [] else []))) off t
completions-seen took ws lost sent waiting off told f =
    elim (cases_Bool (off && not told)) [
      | inl t ↦
          let p = and_parts off (not told) t in
          let g = completions-told took ws lost (sent ++ waiting) off told f (not-true told p.1) p.0 in
          rw t ((true, subst (λ cs. CompletionFacts took ws lost cs off true) (append_assoc sent waiting (Cut ∷ [])) g))
      | inr n ↦
          rw n ((told, subst (λ cs. CompletionFacts took ws lost (sent ++ cs) off told) (sym (append-nil waiting)) f))
    ]

-- once the power is off, the cut stands among them
pub cut-seen : (took : List Command) (ws : List Waiting) (lost : Option ℕ) (sent waiting : List Completion) (off told : Bool) → CompletionFacts took ws lost (sent ++ waiting) off told → off ≡ true
    → In Cut (sent ++ (waiting ++ (if off && not told then Cut ∷ [] else [])))
cut-seen took ws lost sent waiting off told f is_off =
    let tail = if off && not told then Cut ∷ [] else [] in
    elim (cases_Bool told) [
      | inl t ↦ subst (In Cut) (append_assoc sent waiting tail) (In-append_left (sent ++ waiting) tail Cut (f.told_there t))
      | inr n ↦ rw (is_off, n) (In-append_right sent (waiting ++ Cut ∷ []) Cut (In-push waiting Cut))
    ]

part_there : (took : List Command) (k i : ℕ) (c : Command) (p : Part) → slice_get took k ≡ Some c → slice_get c.parts i ≡ Some p → part_at took (first_part took k + i) ≡ Some p
part_there took k i c p e f = part_at-first took k c i e (slice_get-length c.parts i p f) ∙ f

pub moved-seen : (took : List Command) (ws : List Waiting) (moved : List Transfer) (lost : Option ℕ) (cs : List Completion) (off told : Bool) (id : ℕ) → MovedFacts took ws moved → CompletionFacts took ws lost cs off told → In (Moved id) cs
    → (place : ℕ) × (p : Part) × (part_at took place ≡ Some p) × (p.id ≡ id) × ((epoch : ℕ) × In (record { epoch = epoch; part = place }) moved)
moved-seen took ws moved lost cs off told id m f h =
    ⊎_elim
    (λ c. absurd (none-some id (sym (ap completion_id c.0))))
    (λ t.
    let c = t.2 in
    ⊎_elim
    (λ d.
    let p = moved-of t.1 id d.1 in
    let i = In-slice_get (t.1).parts p.0 p.1 in
    let place = first_part took t.0 + i.0 in
    let it = command_of_part-first took t.0 t.1 i.0 c.taken i.1 in
    let done = subst (IsDone took ws) (sym it) d.0 in
    (place, p.0, part_there took t.0 i.0 t.1 p.0 c.taken i.2, p.2, (epoch_of took (command_of_part took place), m.all place (part-lt took t.0 t.1 i.0 c.taken i.1) done)))
    (λ l. absurd (false≢true (only_failed t.1 (Moved id) l.1)))
    c.cause)
    (f.source (Moved id) h)

pub flushed-seen : (took : List Command) (ws : List Waiting) (lost : Option ℕ) (cs : List Completion) (off told : Bool) (id : ℕ) → CompletionFacts took ws lost cs off told → In (Flushed id) cs → (k : ℕ) × IsDone took ws k × IsFlush took k id
flushed-seen took ws lost cs off told id f h =
    ⊎_elim
    (λ c. absurd (none-some id (sym (ap completion_id c.0))))
    (λ t.
    let c = t.2 in
    ⊎_elim
    (λ d. (t.0, d.0, is-flush took t.0 id t.1 c.taken (flushed-of t.1 id d.1)))
    (λ l. absurd (false≢true (only_failed t.1 (Flushed id) l.1)))
    c.cause)
    (f.source (Flushed id) h)

-- what completes as failed is an id of the lost command
pub failed-seen : (took : List Command) (ws : List Waiting) (lost : Option ℕ) (cs : List Completion) (off told : Bool) (id : ℕ) → CompletionFacts took ws lost cs off told → In (Failed id) cs
    → (k : ℕ) × (c : Command) × (slice_get took k ≡ Some c) × (lost ≡ Some k) × In id (ids_of c)
failed-seen took ws lost cs off told id f h =
    ⊎_elim
    (λ c. absurd (none-some id (sym (ap completion_id c.0))))
    (λ t.
    let c = t.2 in
    ⊎_elim
    (λ d. absurd (no_failed t.1 id d.1))
    (λ l. (t.0, t.1, c.taken, l.0, failed-of t.1 id l.1))
    c.cause)
    (f.source (Failed id) h)
