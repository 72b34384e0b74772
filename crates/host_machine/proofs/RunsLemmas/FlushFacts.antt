-- Flushes are charged to sync calls: one flush at most for each that began.
use Rattle.std.proofs.Common.{sym, ap, subst, ◌∙◌, inl, inr, ⊎_elim, arith, lt-ltb, length-append, eqb-true}
use Rattle.std.proofs.lemmas.Bool.{false≢true}
use Rattle.std.proofs.lemmas.Option.{none-some, same_Some}
use Rattle.std.specs.List.{list_any}
use Rattle.std.specs.Prelude.{◌≡◌, ℕ, zero, suc, ◌+◌, ◌<◌, ◌≤◌, ◌==◌, ◌&&◌, ◌||◌, ◌⊎◌, Bool, true, false, not, List, [], ◌∷◌, ◌++◌, length, map, set, Option, Some, None, slice_get, nat_lt, if◌then◌else◌, refl}
use Rattle.blk_base.specs.Members.{In}
use Rattle.blk_base.specs.laws.Members.{In-list_any, In-set_cases, In-map}
use Rattle.order_model.specs.declared.note.Note.TheVariants as notes
use Rattle.order_model.specs.declared.note.Note.{Note}
use Rattle.host_machine.specs.State.{Entry}
use Rattle.flush_actor.specs.Kinds.{is_durable}
use Rattle.flush_actor.specs.Part.{FlushPart, is_flush_note, flush_above, is_moved, is_over}
use Rattle.flush_actor.specs.Steps.{is_due, flush_due}
use Rattle.flush_actor.specs.Waits.{need_commit}
use Rattle.flush_actor.specs.declared.call_kind.CallKind.{CallKind}
use Rattle.flush_actor.specs.declared.call_kind.CallKind.TheVariants.{Reading, Changing, FileBarrier, DataBarrier, FileSync, DataSync, WholeSync}
use Rattle.flush_actor.specs.declared.wait.Wait.{Wait}
use Rattle.host_machine.specs.runs.laws.FlushFacts.{is_open, FlushFacts}
use Rattle.host_machine.specs.runs.Flushes.{one_if, count, is_sync_begin}

-- ---- counting

weaker : (t u : Bool) → (t ≡ true → u ≡ true) → one_if t ≤ one_if u
weaker true true h = omega arith
weaker true false h = absurd (false≢true (h refl))
weaker false true h = omega arith
weaker false false h = omega arith

at_most_one : (t : Bool) → one_if t ≤ 1
at_most_one true = omega arith
at_most_one false = omega arith

pub count-weaker : {X : Type 0} (q p : X → Bool) (xs : List X) → ((x : X) → In x xs → q x ≡ true → p x ≡ true) → count q xs ≤ count p xs
count-weaker q p [] h = omega arith
count-weaker q p (x ∷ xs) h =
    let first = weaker (q x) (p x) (h x (inl refl)) in
    let rest = count-weaker q p xs (λ y i. h y (inr i)) in
    omega arith

-- and fewer by one where one is lost
pub count-fewer : {X : Type 0} (q p : X → Bool) (xs : List X) (y : X) → ((x : X) → In x xs → q x ≡ true → p x ≡ true) → In y xs → p y ≡ true → q y ≡ false → count q xs + 1 ≤ count p xs
count-fewer q p [] y h i t f = absurd i
count-fewer q p (x ∷ xs) y h (inl e) t f =
    let rest = count-weaker q p xs (λ z i. h z (inr i)) in
    let here : one_if (p x) ≡ 1 = ap one_if (ap p e ∙ t) in
    let lost : one_if (q x) ≡ 0 = ap one_if (ap q e ∙ f) in
    omega arith
count-fewer q p (x ∷ xs) y h (inr i) t f =
    let first = weaker (q x) (p x) (h x (inl refl)) in
    let rest = count-fewer q p xs y (λ z j. h z (inr j)) i t f in
    omega arith

pub count-push : {X : Type 0} (p : X → Bool) (xs : List X) (y : X) → count p (xs ++ y ∷ []) ≡ count p xs + one_if (p y)
count-push p [] y = omega arith
count-push p (x ∷ xs) y = let rest = count-push p xs y in omega arith

pub count-set : {X : Type 0} (p : X → Bool) (xs : List X) (t : ℕ) (y : X) → count p (set xs t y) ≤ count p xs + 1
count-set p [] t y = omega arith
count-set p (x ∷ xs) zero y = let most = at_most_one (p y) in omega arith
count-set p (x ∷ xs) (suc t) y = let rest = count-set p xs t y in omega arith

pub count-set_weaker : {X : Type 0} (p : X → Bool) (xs : List X) (t : ℕ) (y : X) → ((x : X) → slice_get xs t ≡ Some x → p y ≡ true → p x ≡ true) → count p (set xs t y) ≤ count p xs
count-set_weaker p [] t y h = omega arith
count-set_weaker p (x ∷ xs) zero y h = let first = weaker (p y) (p x) (h x refl) in omega arith
count-set_weaker p (x ∷ xs) (suc t) y h = let rest = count-set_weaker p xs t y h in omega arith

pub count-map : {X Y : Type 0} (p : Y → Bool) (f : X → Y) (xs : List X) → count p (map f xs) ≡ count (λ x. p (f x)) xs
count-map p f [] = refl
count-map p f (x ∷ xs) = ap (λ n. one_if (p (f x)) + n) (count-map p f xs)

-- ---- flushes behind a request

above-push : (id i : ℕ) (ns : List Note) (n : Note) → flush_above id i (ns ++ n ∷ []) ≡ (flush_above id i ns || (is_flush_note n && nat_lt id (i + length ns)))
above-push id i [] n = let e : i ≡ i + 0 = omega arith in by (is_flush_note n && nat_lt id i) ∙ ap (λ j. is_flush_note n && nat_lt id j) e
  where
    by : (t : Bool) → (t || false) ≡ t
    by true = refl
    by false = refl
above-push id i (m ∷ ns) n =
    let e : i + 1 + length ns ≡ i + suc (length ns) = omega arith in
    ap (λ t. (is_flush_note m && nat_lt id i) || t) (above-push id (i + 1) ns n ∙ ap (λ j. flush_above id (i + 1) ns || (is_flush_note n && nat_lt id j)) e)
    ∙ assoc (is_flush_note m && nat_lt id i) (flush_above id (i + 1) ns) (is_flush_note n && nat_lt id (i + suc (length ns)))
  where
    assoc : (a b c : Bool) → (a || (b || c)) ≡ ((a || b) || c)
    assoc true b c = refl
    assoc false b c = refl

-- what is open behind one note more was open before
pub open-push : (ns : List Note) (n : Note) (w : Wait) → is_open (ns ++ n ∷ []) w ≡ true → is_open ns w ≡ true
open-push ns n w h = by w.need refl h
  where
    parts : (d a b c : Bool) → c ≡ (a || b) → (d && not c) ≡ true → (d && not a) ≡ true
    parts d false b c e t = keep d c t
      where
        keep : (d c : Bool) → (d && not c) ≡ true → (d && true) ≡ true
        keep true c t = refl
        keep false c t = t
    parts d true b c e t = absurd (lost d (ap (λ x. d && not x) (sym e) ∙ t))
      where
        lost : (d : Bool) → (d && false) ≡ true → ⊥
        lost true t = false≢true t
        lost false t = false≢true t

    by : (o : Option ℕ) → w.need ≡ o → (is_durable w.kind && elim o as (λ _. Bool) [ None ↦ true | Some id ↦ not (flush_above id 0 (ns ++ n ∷ [])) ]) ≡ true → (is_durable w.kind && elim o as (λ _. Bool) [ None ↦ true | Some id ↦ not (flush_above id 0 ns) ]) ≡ true
    by None e t = t
    by (Some id) e t = parts (is_durable w.kind) (flush_above id 0 ns) (is_flush_note n && nat_lt id (0 + length ns)) (flush_above id 0 (ns ++ n ∷ [])) (above-push id 0 ns n) t

module _ {C R : Type 0} {kind : C → CallKind} {ns : List Note} {waits : List Wait} {history : List (Entry C R)} (old : FlushFacts kind ns waits history) where
  needed_push : (n : Note) (w : Wait) → In w waits → (id : ℕ) → w.need ≡ Some id → (id < length (ns ++ n ∷ [])) × (is_durable w.kind ≡ true)
  needed_push n w i id e = let x = old.needed w i id e in let lt = x.0 in let longer = length-append ns (n ∷ []) in (omega arith, x.1)

  -- a request that is no flush
  pub other_pushed : (n : Note) → is_flush_note n ≡ false → FlushFacts kind (ns ++ n ∷ []) waits history
  other_pushed n no_flush =
      let all = old.charged in
      let same = count-push is_flush_note ns n in
      let none : one_if (is_flush_note n) ≡ 0 = ap one_if no_flush in
      let fewer = count-weaker (is_open (ns ++ n ∷ [])) (is_open ns) waits (λ w i t. open-push ns n w t) in
      record { charged = omega arith; needed = needed_push n }

  -- A flush that is due: the call that it is due for is open before, and not behind it.
  pub flush_pushed : (f : FlushPart) → f.notes ≡ ns → f.waits ≡ waits → flush_due f ≡ true → FlushFacts kind (ns ++ notes.Flush ∷ []) waits history
  flush_pushed f same_notes same_waits due =
      let w = In-list_any (is_due f) f.waits (second (not (is_over f)) (list_any (is_due f) f.waits) due) in
      let i = subst (In w.0) same_waits w.1 in
      let need = of_need w.0 w.2 in
      let x = old.needed w.0 i need.0 need.1 in
      let lt = x.0 in
      let was_open : is_open ns w.0 ≡ true =
      ap (λ d. d && elim w.0.need as (λ _. Bool) [ None ↦ true | Some id ↦ not (flush_above id 0 ns) ]) x.1
      ∙ ap (λ (o : Option ℕ). elim o as (λ _. Bool) [ None ↦ true | Some id ↦ not (flush_above id 0 ns) ]) need.1
      ∙ ap not (ap (flush_above need.0 0) (sym same_notes) ∙ need.2) in
      let above : flush_above need.0 0 (ns ++ notes.Flush ∷ []) ≡ true =
      above-push need.0 0 ns notes.Flush ∙ ap (λ t. flush_above need.0 0 ns || t) (lt-ltb need.0 (0 + length ns) (omega arith)) ∙ or_true (flush_above need.0 0 ns) in
      let not_open : is_open (ns ++ notes.Flush ∷ []) w.0 ≡ false =
      ap (λ (o : Option ℕ). is_durable w.0.kind && elim o as (λ _. Bool) [ None ↦ true | Some id ↦ not (flush_above id 0 (ns ++ notes.Flush ∷ [])) ]) need.1
      ∙ ap (λ t. is_durable w.0.kind && not t) above
      ∙ and_false (is_durable w.0.kind) in
      let all = old.charged in
      let more = count-push is_flush_note ns notes.Flush in
      let fewer = count-fewer (is_open (ns ++ notes.Flush ∷ [])) (is_open ns) waits w.0 (λ v j t. open-push ns notes.Flush v t) i was_open not_open in
      record { charged = omega arith; needed = needed_push notes.Flush }
    where
      second : (a b : Bool) → (a && b) ≡ true → b ≡ true
      second true b e = e
      second false b e = absurd (false≢true e)

      or_true : (a : Bool) → (a || true) ≡ true
      or_true true = refl
      or_true false = refl

      and_false : (a : Bool) → (a && false) ≡ false
      and_false true = refl
      and_false false = refl

      of_need : (w : Wait) → is_due f w ≡ true → (id : ℕ) × (w.need ≡ Some id) × (flush_above id 0 f.notes ≡ false)
      of_need w t = by w.need refl t
        where
          negated : (a b : Bool) → (a && not b) ≡ true → b ≡ false
          negated true false e = refl
          negated true true e = absurd (false≢true e)
          negated false b e = absurd (false≢true e)

          by : (o : Option ℕ) → w.need ≡ o → elim o as (λ _. Bool) [ None ↦ false | Some id ↦ list_any (is_moved id) f.taken && not (flush_above id 0 f.notes) ] ≡ true → (id : ℕ) × (w.need ≡ Some id) × (flush_above id 0 f.notes ≡ false)
          by None q e = absurd (false≢true e)
          by (Some id) q e = (id, q, negated (list_any (is_moved id) f.taken) (flush_above id 0 f.notes) e)

  -- ---- waits and entries

  -- a wait that is no more open than the one before
  pub wait_set : (t : ℕ) (w : Wait) → ((v : Wait) → slice_get waits t ≡ Some v → is_open ns w ≡ true → is_open ns v ≡ true) → ((id : ℕ) → w.need ≡ Some id → (id < length ns) × (is_durable w.kind ≡ true)) → FlushFacts kind ns (set waits t w) history
  wait_set t w weaker needed =
      let all = old.charged in
      let fewer = count-set_weaker (is_open ns) waits t w weaker in
      record {
        charged = omega arith;
        needed = λ v i id e. ⊎_elim (λ j. old.needed v j id e) (λ same. let x = needed id (ap (λ (u : Wait). u.need) same ∙ e) in (x.0, ap (λ (u : Wait). is_durable u.kind) (sym same) ∙ x.1)) (In-set_cases waits t w v i);
      }

  -- waits that are changed all at once, each no more open than before
  pub waits_mapped : (g : Wait → Wait) → ((w : Wait) → In w waits → is_open ns (g w) ≡ true → is_open ns w ≡ true) → ((w : Wait) → In w waits → (id : ℕ) → (g w).need ≡ Some id → (id < length ns) × (is_durable (g w).kind ≡ true)) → FlushFacts kind ns (map g waits) history
  waits_mapped g weaker needed =
      let all = old.charged in
      let same = count-map (is_open ns) g waits in
      let fewer = count-weaker (λ w. is_open ns (g w)) (is_open ns) waits weaker in
      record {
        charged = omega arith;
        needed = λ v i id e. let m = In-map g waits v i in let x = needed m.0 m.1 id (ap (λ (u : Wait). u.need) m.2 ∙ e) in (x.0, ap (λ (u : Wait). is_durable u.kind) (sym m.2) ∙ x.1);
      }

  -- an entry that begins no sync call
  pub entry_counted : (e : Entry C R) → FlushFacts kind ns waits (history ++ e ∷ [])
  entry_counted e =
      let all = old.charged in
      let more = count-push (is_sync_begin kind) history e in
      record { charged = omega arith; needed = old.needed }

  -- a sync call begins
  pub sync_begins : (e : Entry C R) (t : ℕ) (w : Wait) → is_sync_begin kind e ≡ true → w.need ≡ None → FlushFacts kind ns (set waits t w) (history ++ e ∷ [])
  sync_begins e t w begin no_need =
      let all = old.charged in
      let more = count-push (is_sync_begin kind) history e in
      let here : one_if (is_sync_begin kind e) ≡ 1 = ap one_if begin in
      let most = count-set (is_open ns) waits t w in
      record {
        charged = omega arith;
        needed = λ v i id q. ⊎_elim (λ j. old.needed v j id q) (λ same. absurd (none-some id (sym no_need ∙ ap (λ (u : Wait). u.need) same ∙ q))) (In-set_cases waits t w v i);
      }

-- the kinds of calls whose need is fixed by a commit block
abbrev pub is_whole_sync : CallKind → Bool
is_whole_sync FileSync = true
is_whole_sync WholeSync = true
is_whole_sync other = false

-- The commit block of transaction k is request id: it opens no wait, where none that has k as its target knew
-- what it needs.
pub commit_opens_none : (ns : List Note) (k id : ℕ) (w : Wait) → (is_whole_sync w.kind ≡ true → w.target ≡ Some k → w.need ≡ None) → is_open ns (need_commit k id w) ≡ true → is_open ns w ≡ true
commit_opens_none ns k id w fresh is_now = by w.kind refl w.target refl is_now
  where
    opened : w.need ≡ None → (is_durable w.kind && not (flush_above id 0 ns)) ≡ true → is_open ns w ≡ true
    opened none e = ap (λ (o : Option ℕ). is_durable w.kind && elim o as (λ _. Bool) [ None ↦ true | Some i ↦ not (flush_above i 0 ns) ]) none ∙ first (is_durable w.kind) (not (flush_above id 0 ns)) e
      where
        first : (a b : Bool) → (a && b) ≡ true → (a && true) ≡ true
        first true b e = refl
        first false b e = e

    matched : is_whole_sync w.kind ≡ true → (t : ℕ) → w.target ≡ Some t → (y : Bool) → (t == k) ≡ y → is_open ns (if y then record w { need = Some id } else w) ≡ true → is_open ns w ≡ true
    matched sync t e true q o = opened (fresh sync (e ∙ ap Some (eqb-true t k q))) o
    matched sync t e false q o = o

    targets : is_whole_sync w.kind ≡ true → (g : Option ℕ) → w.target ≡ g → is_open ns (if elim g as (λ _. Bool) [ Some t ↦ t == k | None ↦ false ] then record w { need = Some id } else w) ≡ true → is_open ns w ≡ true
    targets sync (Some t) e o = matched sync t e (t == k) refl o
    targets sync None e o = o

    by : (x : CallKind) → w.kind ≡ x → (g : Option ℕ) → w.target ≡ g
        → is_open ns (if elim x as (λ _. Bool) [ FileSync ↦ true | WholeSync ↦ true | other ↦ false ] && elim g as (λ _. Bool) [ Some t ↦ t == k | None ↦ false ] then record w { need = Some id } else w) ≡ true → is_open ns w ≡ true
    by FileSync e g f o = targets (ap is_whole_sync e) g f o
    by WholeSync e g f o = targets (ap is_whole_sync e) g f o
    by Reading e g f o = o
    by Changing e g f o = o
    by FileBarrier e g f o = o
    by DataBarrier e g f o = o
    by DataSync e g f o = o

-- and what it makes needed is that request, of a sync call
pub commit_needed : (ns : List Note) (k id : ℕ) (w : Wait) → id < length ns → ((i : ℕ) → w.need ≡ Some i → (i < length ns) × (is_durable w.kind ≡ true)) → (i : ℕ) → (need_commit k id w).need ≡ Some i → (i < length ns) × (is_durable (need_commit k id w).kind ≡ true)
commit_needed ns k id w lt old i e = by w.kind refl w.target e
  where
    kept : (y : Bool) → is_durable w.kind ≡ true → (if y then record w { need = Some id } else w).need ≡ Some i → (i < length ns) × (is_durable (if y then record w { need = Some id } else w).kind ≡ true)
    kept true d e = let same = same_Some id i e in (omega arith, d)
    kept false d e = old i e

    by : (x : CallKind) → w.kind ≡ x → (g : Option ℕ)
        → (if elim x as (λ _. Bool) [ FileSync ↦ true | WholeSync ↦ true | other ↦ false ] && elim g as (λ _. Bool) [ Some t ↦ t == k | None ↦ false ] then record w { need = Some id } else w).need ≡ Some i
        → (i < length ns) × (is_durable (if elim x as (λ _. Bool) [ FileSync ↦ true | WholeSync ↦ true | other ↦ false ] && elim g as (λ _. Bool) [ Some t ↦ t == k | None ↦ false ] then record w { need = Some id } else w).kind ≡ true)
    by FileSync q (Some t) e = kept (t == k) (ap is_durable q) e
    by FileSync q None e = old i e
    by WholeSync q (Some t) e = kept (t == k) (ap is_durable q) e
    by WholeSync q None e = old i e
    by Reading q g e = old i e
    by Changing q g e = old i e
    by FileBarrier q g e = old i e
    by DataBarrier q g e = old i e
    by DataSync q g e = old i e

-- a need is fixed, or fixed again
pub need_opens_none : (ns : List Note) (id : ℕ) (w : Wait) → (w.need ≡ None) ⊎ (w.need ≡ Some id) → is_open ns (record w { need = Some id }) ≡ true → is_open ns w ≡ true
need_opens_none ns id w (inl none) e = ap (λ (o : Option ℕ). is_durable w.kind && elim o as (λ _. Bool) [ None ↦ true | Some i ↦ not (flush_above i 0 ns) ]) none ∙ first (is_durable w.kind) (not (flush_above id 0 ns)) e
  where
    first : (a b : Bool) → (a && b) ≡ true → (a && true) ≡ true
    first true b e = refl
    first false b e = e
need_opens_none ns id w (inr same) e = ap (λ (o : Option ℕ). is_durable w.kind && elim o as (λ _. Bool) [ None ↦ true | Some i ↦ not (flush_above i 0 ns) ]) same ∙ e
