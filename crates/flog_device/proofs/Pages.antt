-- Pages of the log, and the choice of commands and writes, where the code reads and changes them.
use Rattle.std.specs.Prelude.{◌≡◌, ℕ, zero, suc, ◌+◌, ◌<◌, Bool, true, false, List, [], ◌∷◌, drop, filter, length, Some, slice_get, slice_set, refl}
use Rattle.std.specs.Option.{option_map_or}
use Rattle.std.specs.Prelude.{◌≤◌, ◌||◌, not, nat_le, is_some}
use Rattle.std.proofs.Common.{sym, ap, ◌∙◌, inl, inr, arith}
use Rattle.std.proofs.lemmas.Bool.{both_ways, and_from, or_cases, or_left, or_right, not-true, le-leb, cases_Bool, false≢true}
use Rattle.std.proofs.lemmas.Option.{none-some, same_Some}
use Rattle.blk_base.specs.Members.{In}
use Rattle.device_epochs.specs.queue.laws.QueueLaws.{eligible-waits}
use Rattle.blk_base.specs.laws.Members.{filter_all, slice_get-in_range, In-append_cases}
use Rattle.device_epochs.specs.queue.Queue.{QueueState, Waiting, eligible, picked}
use Rattle.flog_device.specs.Log.{Page, programmed_at}
use Rattle.flog_device.specs.Device.{Write, Program, Fold, programs, folds, writes, fits}
use Rattle.flog_device.specs.code.Helpers.{fitting, starts_with_flush, IsOrderly, IsChosen}

pub set-programmed : (i : ℕ) (log : List Page) (p : Page) → slice_get log i ≡ Some p → slice_set log i (record { place = p.place; programmed = true }) ≡ programmed_at i log
set-programmed i [] p e = absurd (none-some p e)
set-programmed zero (q ∷ log) p e =
    ap (λ (x : Page). let y : Page = record { place = x.place; programmed = true } in y ∷ log) (sym (same_Some q p e))
set-programmed (suc i) (q ∷ log) p e = ap (λ (l : List Page). q ∷ l) (set-programmed i log p e)

-- ---- the page that a write programs is there

program-within : (from : ℕ) (log : List Page) (k : ℕ) → In (Program k) (programs from log) → k < from + length log
program-within from [] k h = absurd h
program-within from (p ∷ ps) k h =
    elim (cases_Bool p.programmed) [
      | inl t ↦ let n = program-within (from + 1) ps k (rw t at h) in omega (arith, n)
      | inr f ↦
          let j : In (Program k) (Program from ∷ programs (from + 1) ps) = rw f at h in
          elim j [
            | inl e ↦ let same : from ≡ k = ap number e in omega (arith, same)
            | inr i ↦ let n = program-within (from + 1) ps k i in omega (arith, n)
          ]
    ]
  where
    number : Write → ℕ
    number (Program i) = i
    number Fold = 0

fold-only : (log : List Page) (k : ℕ) → In (Program k) (folds log) → ⊥
fold-only [] k h = h
fold-only (p ∷ ps) k h =
    elim (cases_Bool p.programmed) [
      | inl t ↦
          let j : In (Program k) (Fold ∷ []) = rw t at h in
          elim j [ inl e ↦ false≢true (ap is_program e) | inr i ↦ i ]
      | inr n ↦ rw n at h
    ]
  where
    is_program : Write → Bool
    is_program Fold = false
    is_program (Program i) = true

pub program-lt : (log : List Page) (k : ℕ) → In (Program k) (writes log) → k < length log
program-lt log k h =
    elim (In-append_cases (programs 0 log) (folds log) (Program k) h) [
      | inl i ↦ let n = program-within 0 log k i in omega (arith, n)
      | inr j ↦ absurd (fold-only log k j)
    ]

-- ---- the commands that fit, from a place of the eligible list on

pub drop_at : {X : Type 0} (xs : List X) (i : ℕ) (x : X) → slice_get xs i ≡ Some x → drop i xs ≡ x ∷ drop (i + 1) xs
drop_at [] i x e = absurd (none-some x e)
drop_at (y ∷ ys) zero x e = ap (λ z. z ∷ ys) (same_Some y x e)
drop_at (y ∷ ys) (suc i) x e =
    let next : suc i + 1 ≡ suc (i + 1) = omega arith in
    rw next (drop_at ys i x e)

abbrev test : ℕ → Bool → Waiting → Bool
test free programmed w = fits free programmed w.command

-- the command at this place
pub eligible-there : (free : ℕ) (programmed : Bool) (q : QueueState) (i : ℕ) (b : Bool) → i < length (eligible q.waiting) → b ≡ option_map_or (λ (w : Waiting). fits free programmed w.command) (picked q i) false
    → (w : Waiting) × (picked q i ≡ Some w) × (test free programmed w ≡ b) × (drop i (eligible q.waiting) ≡ w ∷ drop (i + 1) (eligible q.waiting))
eligible-there free programmed q i b lt e =
    let w = slice_get-in_range (eligible q.waiting) i lt in
    (w.0, w.1, sym (ap (λ o. option_map_or (test free programmed) o false) w.1) ∙ sym e, drop_at (eligible q.waiting) i w.0 w.1)

pub filter-yes : {X : Type 0} (f : X → Bool) (x : X) (xs ys : List X) → xs ≡ x ∷ ys → f x ≡ true → filter f xs ≡ x ∷ filter f ys
filter-yes f x xs ys e t = ap (filter f) e ∙ rw t refl

pub filter-no : {X : Type 0} (f : X → Bool) (x : X) (xs ys : List X) → xs ≡ x ∷ ys → f x ≡ false → filter f xs ≡ filter f ys
filter-no f x xs ys e n = ap (filter f) e ∙ rw n refl

-- where one fits, one fewer is left behind it
pub count-yes : (free : ℕ) (programmed : Bool) (q : QueueState) (i count : ℕ) → i < length (eligible q.waiting) → true ≡ option_map_or (λ (w : Waiting). fits free programmed w.command) (picked q i) false
    → count + length (filter (test free programmed) (drop i (eligible q.waiting))) ≡ length (fitting free programmed q)
    → count + 1 + length (filter (test free programmed) (drop (i + 1) (eligible q.waiting))) ≡ length (fitting free programmed q)
count-yes free programmed q i count lt b h =
    let w = eligible-there free programmed q i true lt b in
    let one = ap length (filter-yes (test free programmed) w.0 (drop i (eligible q.waiting)) (drop (i + 1) (eligible q.waiting)) w.3 w.2) in
    omega (arith, one, h)

pub count-no : (free : ℕ) (programmed : Bool) (q : QueueState) (i count : ℕ) → i < length (eligible q.waiting) → false ≡ option_map_or (λ (w : Waiting). fits free programmed w.command) (picked q i) false
    → count + length (filter (test free programmed) (drop i (eligible q.waiting))) ≡ length (fitting free programmed q)
    → count + length (filter (test free programmed) (drop (i + 1) (eligible q.waiting))) ≡ length (fitting free programmed q)
count-no free programmed q i count lt b h =
    let w = eligible-there free programmed q i false lt b in
    let none = ap length (filter-no (test free programmed) w.0 (drop i (eligible q.waiting)) (drop (i + 1) (eligible q.waiting)) w.3 w.2) in
    omega (arith, none, h)

pub chosen-here : (free : ℕ) (programmed : Bool) (q : QueueState) (pick i left : ℕ) → i < length (eligible q.waiting) → true ≡ option_map_or (λ (w : Waiting). fits free programmed w.command) (picked q i) false
    → slice_get (fitting free programmed q) pick ≡ slice_get (filter (test free programmed) (drop i (eligible q.waiting))) left → left ≡ 0
    → IsChosen free programmed q pick i
chosen-here free programmed q pick i left lt b h z =
    let w = eligible-there free programmed q i true lt b in
    record {
      chosen = w.0;
      there = w.1;
      fits =
          h
          ∙ ap (slice_get (filter (test free programmed) (drop i (eligible q.waiting)))) z
          ∙ ap (λ (l : List Waiting). slice_get l 0) (filter-yes (test free programmed) w.0 (drop i (eligible q.waiting)) (drop (i + 1) (eligible q.waiting)) w.3 w.2);
    }

pub pick-yes : (free : ℕ) (programmed : Bool) (q : QueueState) (pick i left less : ℕ) → i < length (eligible q.waiting) → true ≡ option_map_or (λ (w : Waiting). fits free programmed w.command) (picked q i) false
    → left ≡ suc less
    → slice_get (fitting free programmed q) pick ≡ slice_get (filter (test free programmed) (drop i (eligible q.waiting))) left
    → slice_get (fitting free programmed q) pick ≡ slice_get (filter (test free programmed) (drop (i + 1) (eligible q.waiting))) less
pick-yes free programmed q pick i left less lt b e h =
    let w = eligible-there free programmed q i true lt b in
    h
    ∙ ap (slice_get (filter (test free programmed) (drop i (eligible q.waiting)))) e
    ∙ ap (λ (l : List Waiting). slice_get l (suc less)) (filter-yes (test free programmed) w.0 (drop i (eligible q.waiting)) (drop (i + 1) (eligible q.waiting)) w.3 w.2)

pub pick-no : (free : ℕ) (programmed : Bool) (q : QueueState) (pick i left now : ℕ) → i < length (eligible q.waiting) → false ≡ option_map_or (λ (w : Waiting). fits free programmed w.command) (picked q i) false
    → now ≡ left
    → slice_get (fitting free programmed q) pick ≡ slice_get (filter (test free programmed) (drop i (eligible q.waiting))) left
    → slice_get (fitting free programmed q) pick ≡ slice_get (filter (test free programmed) (drop (i + 1) (eligible q.waiting))) now
pick-no free programmed q pick i left now lt b e h =
    let w = eligible-there free programmed q i false lt b in
    h
    ∙ ap (λ (l : List Waiting). slice_get l left) (filter-no (test free programmed) w.0 (drop i (eligible q.waiting)) (drop (i + 1) (eligible q.waiting)) w.3 w.2)
    ∙ ap (slice_get (filter (test free programmed) (drop (i + 1) (eligible q.waiting)))) (sym e)

-- ---- where all fit

pub all-fit : (free : ℕ) (programmed : Bool) (q : QueueState) → IsOrderly q → 16 ≤ free → (programmed || not (starts_with_flush q)) ≡ true → fitting free programmed q ≡ eligible q.waiting
all-fit free programmed q o le may = filter_all (test free programmed) (eligible q.waiting) by
  where
    flush : (w : Waiting) → In w (eligible q.waiting) → (not (is_some w.command.flush) || programmed) ≡ true
    flush w h =
        elim (cases_Bool (is_some w.command.flush)) [
          | inl t ↦
              let starts = o.first w h t in
              elim (or_cases programmed (not (starts_with_flush q)) may) [
                | inl p ↦ or_right (not (is_some w.command.flush)) programmed p
                | inr n ↦ absurd (both_ways (starts_with_flush q) (not-true (starts_with_flush q) n) starts)
              ]
          | inr f ↦ or_left (not (is_some w.command.flush)) programmed (rw f refl)
        ]

    by : (w : Waiting) → In w (eligible q.waiting) → test free programmed w ≡ true
    by w h =
        let n = o.small w (eligible-waits q.waiting w h) in
        and_from (nat_le (length w.command.parts) free) (not (is_some w.command.flush) || programmed) (le-leb (length w.command.parts) free (omega (arith, n, le))) (flush w h)
