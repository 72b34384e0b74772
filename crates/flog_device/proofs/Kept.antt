-- What the code keeps beside the pages of the log: how many are kept, how many are open, and the last part of each block.
use Rattle.std.specs.Prelude.{◌≡◌, ◌≢◌, ℕ, zero, suc, ◌+◌, ◌-◌, ◌<◌, ◌≤◌, ◌==◌, true, false, List, [], ◌∷◌, ◌++◌, length, take, drop, Option, Some, None, slice_get, slice_set, replicate, refl, if◌then◌else◌}
use Rattle.std.specs.List.{All, list_any}
use Rattle.std.specs.Option.{option_map, option_map_or}
use Rattle.std.proofs.Common.{sym, ap, subst, ◌∙◌, inl, inr, arith}
use Rattle.std.proofs.lemmas.Bool.{cases_Bool, cases_eq, eq-eqb, ne_eqb, eqb-true, true≢false, false≢true}
use Rattle.std.proofs.lemmas.List.{length-append, length-set}
use Rattle.std.proofs.lemmas.Option.{none-some, same_Some}
use Rattle.blk_base.specs.Members.{In}
use Rattle.blk_base.specs.laws.Members.{All-In, In-All, In-append_left, slice_get-In, slice_get-set_same, slice_get-set_other}
use Rattle.order_model.specs.Received.{part_at}
use Rattle.order_model.specs.declared.part.Part.{Part}
use Rattle.order_model.specs.declared.command.Command.{Command}
use Rattle.device_epochs.specs.queue.Faults.{is_number}
use Rattle.flog_device.specs.Log.{Place, Page, pages, prefix, places, programmed_at, is_covered, body_at}
use Rattle.flog_device.specs.Device.{Fold, all_programmed, programs, folds, writes}
use Rattle.flog_device.specs.laws.LogFacts.{InOrder, Rises, top, above, part_if, top-In, top-push_same, top-push_other, top-cons_other, prefix-yes, prefix-no, prefix-rest, prefix-programmed_at, places-append, uncovered}
use Rattle.flog_device.specs.laws.StepLaws.{fold-first}
use Rattle.flog_device.specs.code.Helpers.{can_fold, area_folded, origins_folded}
use Rattle.flog_device.specs.code.Logged.{IsIn, AreLast}

-- ---- how many are not programmed

pub all-none_open : (n : ℕ) (log : List Page) → all_programmed log ≡ (length (programs n log) == 0)
all-none_open n [] = refl
all-none_open n (p ∷ log) =
    elim (cases_Bool p.programmed) [
      | inl t ↦ rw t (all-none_open (n + 1) log)
      | inr f ↦ rw f (sym (ne_eqb (suc (length (programs (n + 1) log))) 0 (λ e. absurd (omega (arith, e)))))
    ]

pub open-le : (n : ℕ) (log : List Page) → length (programs n log) ≤ length log
open-le n [] = omega arith
open-le n (p ∷ log) =
    elim (cases_Bool p.programmed) [
      | inl t ↦ rw t (let le = open-le (n + 1) log in omega (arith, le))
      | inr f ↦ rw f (let le = open-le (n + 1) log in omega (arith, le))
    ]

-- from any number on there are as many
pub open-from : (n m : ℕ) (log : List Page) → length (programs n log) ≡ length (programs m log)
open-from n m [] = refl
open-from n m (p ∷ log) =
    elim (cases_Bool p.programmed) [
      | inl t ↦ rw t (open-from (n + 1) (m + 1) log)
      | inr f ↦ rw f (ap suc (open-from (n + 1) (m + 1) log))
    ]

open-pages : (n first : ℕ) (ps : List Part) → length (programs n (pages first ps)) ≡ length ps
open-pages n first [] = refl
open-pages n first (p ∷ ps) = ap suc (open-pages (n + 1) (first + 1) ps)

pub open-append : (n : ℕ) (log : List Page) (first : ℕ) (ps : List Part) → length (programs n (log ++ pages first ps)) ≡ length (programs n log) + length ps
open-append n [] first ps = let all = open-pages n first ps in omega (arith, all)
open-append n (p ∷ log) first ps =
    elim (cases_Bool p.programmed) [
      | inl t ↦ rw t (open-append (n + 1) log first ps)
      | inr f ↦ rw f (let more = open-append (n + 1) log first ps in omega (arith, more))
    ]

pub open-programmed : (n i : ℕ) (log : List Page) (p : Page) → slice_get log i ≡ Some p → length (programs n log) ≡ length (programs n (programmed_at i log)) + (if p.programmed then 0 else 1)
open-programmed n i [] p e = absurd (none-some p e)
open-programmed n zero (q ∷ log) p e =
    let same = ap (λ (x : Page). x.programmed) (same_Some q p e) in
    elim (cases_Bool q.programmed) [
      | inl t ↦ rw (t, sym same ∙ t) (omega arith)
      | inr f ↦ rw (f, sym same ∙ f) (omega arith)
    ]
open-programmed n (suc i) (q ∷ log) p e =
    let more = open-programmed (n + 1) i log p e in
    elim (cases_Bool q.programmed) [
      | inl t ↦ rw t more
      | inr f ↦ rw f (omega (arith, more))
    ]

folds-length : (log : List Page) → length (folds log) ≡ (if can_fold log then 1 else 0)
folds-length [] = refl
folds-length (p ∷ log) =
    elim (cases_Bool p.programmed) [
      | inl t ↦ rw t refl
      | inr f ↦ rw f refl
    ]

-- ---- the prefix by its length

pub open-behind : (n : ℕ) (log : List Page) → programs n log ≡ programs (n + length (prefix log)) (drop (length (prefix log)) log)
open-behind n [] = refl
open-behind n (p ∷ log) =
    elim (cases_Bool p.programmed) [
      | inl t ↦
          let next : n + 1 + length (prefix log) ≡ n + suc (length (prefix log)) = omega arith in
          rw t (open-behind (n + 1) log ∙ ap (λ k. programs k (drop (length (prefix log)) log)) next)
      | inr f ↦
          let same : n ≡ n + 0 = omega arith in
          let none = ap length (prefix-no p log f) in
          ap (λ k. programs k (p ∷ log)) same ∙ ap (λ k. programs (n + k) (drop k (p ∷ log))) (sym none)
    ]

pub prefix-le : (log : List Page) → length (prefix log) ≤ length log
prefix-le [] = omega arith
prefix-le (p ∷ log) =
    elim (cases_Bool p.programmed) [
      | inl t ↦ rw t (let le = prefix-le log in omega (arith, le))
      | inr f ↦ rw f (omega arith)
    ]

pub take-prefix : (log : List Page) → take (length (prefix log)) log ≡ prefix log
take-prefix [] = refl
take-prefix (p ∷ log) =
    elim (cases_Bool p.programmed) [
      | inl t ↦
          let q = prefix-yes p log t in
          ap (λ (l : List Page). take (length l) (p ∷ log)) q ∙ ap (λ (l : List Page). p ∷ l) (take-prefix log) ∙ sym q
      | inr f ↦ let q = prefix-no p log f in ap (λ (l : List Page). take (length l) (p ∷ log)) q ∙ sym q
    ]

-- where the page at the end of a part of the prefix is programmed, the prefix has it too
pub prefix-more : (i : ℕ) (log : List Page) (p : Page) → i ≤ length (prefix log) → slice_get log i ≡ Some p → p.programmed ≡ true → i + 1 ≤ length (prefix log)
prefix-more i [] p le e t = absurd (none-some p e)
prefix-more zero (q ∷ log) p le e t =
    let first = ap (λ (x : Page). x.programmed) (same_Some q p e) ∙ t in
    let long = ap length (prefix-yes q log first) in
    omega (arith, long)
prefix-more (suc i) (q ∷ log) p le e t =
    elim (cases_Bool q.programmed) [
      | inl y ↦
          let long = ap length (prefix-yes q log y) in
          let more = prefix-more i log p (omega (arith, long, le)) e t in
          omega (arith, long, more)
      | inr n ↦ let none = ap length (prefix-no q log n) in absurd (omega (arith, none, le))
    ]

-- and where it is not, the prefix ends before it
pub prefix-stops : (i : ℕ) (log : List Page) (p : Page) → i ≤ length (prefix log) → slice_get log i ≡ Some p → p.programmed ≡ false → i ≡ length (prefix log)
prefix-stops i [] p le e f = absurd (none-some p e)
prefix-stops zero (q ∷ log) p le e f = sym (ap length (prefix-no q log (ap (λ (x : Page). x.programmed) (same_Some q p e) ∙ f)))
prefix-stops (suc i) (q ∷ log) p le e f =
    elim (cases_Bool q.programmed) [
      | inl y ↦
          let long = ap length (prefix-yes q log y) in
          let ends = prefix-stops i log p (omega (arith, long, le)) e f in
          omega (arith, long, ends)
      | inr n ↦ let none = ap length (prefix-no q log n) in absurd (omega (arith, none, le))
    ]

pub take-more : {X : Type 0} (i : ℕ) (xs : List X) (x : X) → slice_get xs i ≡ Some x → take (i + 1) xs ≡ take i xs ++ x ∷ []
take-more i [] x e = absurd (none-some x e)
take-more zero (y ∷ ys) x e = ap (λ z. z ∷ []) (same_Some y x e)
take-more (suc i) (y ∷ ys) x e =
    let next : suc i + 1 ≡ suc (i + 1) = omega arith in
    ap (λ k. take k (y ∷ ys)) next ∙ ap (λ l. y ∷ l) (take-more i ys x e)

-- the prefix once a page was programmed
pub prefix-grows : (i : ℕ) (log : List Page) → length (prefix log) ≤ length (prefix (programmed_at i log))
prefix-grows i log =
    let more = prefix-programmed_at i log in
    let long = ap length more.1 ∙ length-append (prefix log) more.0 in
    omega (arith, long)

take-append : {X : Type 0} (xs ys : List X) → take (length xs) (xs ++ ys) ≡ xs
take-append [] [] = refl
take-append [] (y ∷ ys) = refl
take-append (x ∷ xs) ys = ap (λ l. x ∷ l) (take-append xs ys)

take-some : {X : Type 0} (n : ℕ) (xs ys : List X) → n ≤ length xs → take n (xs ++ ys) ≡ take n xs
take-some zero [] [] le = refl
take-some zero [] (y ∷ ys) le = refl
take-some zero (x ∷ xs) ys le = refl
take-some (suc n) [] ys le = absurd (omega (arith, le))
take-some (suc n) (x ∷ xs) ys le = ap (λ l. x ∷ l) (take-some n xs ys (omega (arith, le)))

pub take-kept : (i : ℕ) (log : List Page) → take (length (prefix log)) (programmed_at i log) ≡ prefix log
take-kept i log =
    let new = programmed_at i log in
    let n = length (prefix log) in
    let more = prefix-programmed_at i log in
    let rest = prefix-rest new in
    ap (take n) rest.1
    ∙ take-some n (prefix new) rest.0 (prefix-grows i log)
    ∙ ap (take n) more.1
    ∙ take-append (prefix log) more.0

-- ---- the last part of each block

pub last-none : (n : ℕ) → AreLast (replicate n None) []
last-none zero b lt = absurd (omega (arith, lt))
last-none (suc n) zero lt = refl
last-none (suc n) (suc b) lt = last-none n b (omega (arith, lt))

-- a page more is kept
pub last-push : (last : List (Option ℕ)) (ps : List Place) (p : Place) → p.block < length last → AreLast last ps → AreLast (slice_set last p.block (Some p.part)) (ps ++ p ∷ [])
last-push last ps p within are b lt =
    let long = length-set last p.block (Some p.part) in
    elim (cases_eq b p.block) [
      | inl e ↦
          ap (slice_get (slice_set last p.block (Some p.part))) e
          ∙ slice_get-set_same last p.block (Some p.part) within
          ∙ ap Some (sym (top-push_same ps p b e))
      | inr ne ↦
          slice_get-set_other last p.block b (Some p.part) ne
          ∙ are b (omega (arith, lt, long))
          ∙ ap Some (sym (top-push_other ps p b ne))
    ]

-- where a later page has the block, that has a later part
later : (p : Place) (ps : List Place) (x : ℕ) → ((q : Place) → In q ps → Rises p q) → top ps p.block ≡ Some x → p.part < x
later p ps x rises e = rises (record { block = p.block; part = x }) (top-In ps p.block x e) refl

top-first : (p : Place) (ps : List Place) → top (p ∷ ps) p.block ≡ above (top ps p.block) (Some p.part)
top-first p ps = ap (λ t. above (top ps p.block) (part_if t p.part)) (eq-eqb p.block p.block refl)

-- the oldest page of the prefix goes, and no later one has its block
pub last-alone : (last : List (Option ℕ)) (p : Place) (ps : List Place) → p.block < length last → ((q : Place) → In q ps → Rises p q) → AreLast last (p ∷ ps)
    → slice_get last p.block ≡ Some (Some p.part) → (top ps p.block ≡ None) × AreLast (slice_set last p.block None) ps
last-alone last p ps within rises are e = (
  none (top ps p.block) refl,
  λ b lt.
      let long = length-set last p.block None in
      elim (cases_eq b p.block) [
        | inl same ↦
            ap (slice_get (slice_set last p.block None)) same
            ∙ slice_get-set_same last p.block None within
            ∙ ap Some (sym (ap (top ps) same ∙ none (top ps p.block) refl))
        | inr ne ↦
            slice_get-set_other last p.block b None ne
            ∙ are b (omega (arith, lt, long))
            ∙ ap Some (top-cons_other p ps b ne)
      ],
)
  where
    told : above (top ps p.block) (Some p.part) ≡ Some p.part
    told = same_Some _ _ (sym (ap Some (top-first p ps)) ∙ sym (are p.block within) ∙ e)

    none : (o : Option ℕ) → top ps p.block ≡ o → top ps p.block ≡ None
    none None n = n
    none (Some x) s =
        let lt = later p ps x rises s in
        let same : x ≡ p.part = same_Some x p.part (sym (ap (λ o. above o (Some p.part)) s) ∙ told) in
        absurd (omega (arith, lt, same))

-- the oldest page of the prefix goes, and a later one has its block
pub last-covered : (last : List (Option ℕ)) (p : Place) (ps : List Place) → p.block < length last → AreLast last (p ∷ ps)
    → slice_get last p.block ≢ Some (Some p.part) → (x : ℕ) × (top ps p.block ≡ Some x) × AreLast last ps
last-covered last p ps within are ne = by (top ps p.block) refl
  where
    at : (b : ℕ) → b < length last → (x : ℕ) → top ps p.block ≡ Some x → slice_get last b ≡ Some (top ps b)
    at b lt x s =
        elim (cases_eq b p.block) [
          | inl same ↦
              are b lt
              ∙ ap (λ k. Some (top (p ∷ ps) k)) same
              ∙ ap Some (top-first p ps ∙ ap (λ o. above o (Some p.part)) s ∙ sym s)
              ∙ ap (λ k. Some (top ps k)) (sym same)
          | inr other ↦ are b lt ∙ ap Some (top-cons_other p ps b other)
        ]

    by : (o : Option ℕ) → top ps p.block ≡ o → (x : ℕ) × (top ps p.block ≡ Some x) × AreLast last ps
    by None n = absurd (ne (are p.block within ∙ ap Some (top-first p ps ∙ ap (λ o. above o (Some p.part)) n)))
    by (Some x) s = (x, s, λ b lt. at b lt x s)

-- a later page of the prefix has the block
pub covered : (ps : List Page) (b x : ℕ) → top (places ps) b ≡ Some x → list_any (λ (p : Page). p.place.block == b) ps ≡ true
covered [] b x e = absurd (none-some x e)
covered (p ∷ ps) b x e =
    elim (cases_Bool (p.place.block == b)) [
      | inl t ↦ rw t refl
      | inr n ↦
          let other : b ≢ p.place.block = λ same. true≢false (sym (eq-eqb p.place.block b (sym same)) ∙ n) in
          rw n (covered ps b x (sym (top-cons_other p.place (places ps) b other) ∙ e))
    ]

pub area-length : (took : List Command) (log : List Page) (area : List (List ℕ)) → length (area_folded took log area) ≡ length area
area-length took [] area = refl
area-length took (p ∷ ps) area =
    elim (cases_Bool (is_covered p.place.block ps)) [
      | inl t ↦ rw t refl
      | inr n ↦ rw n (length-set area p.place.block (body_at took p.place.part []))
    ]

-- ---- a page of the log

first-is : {X : Type 0} (xs : List X) (x : X) → slice_get xs 0 ≡ Some x → xs ≡ x ∷ drop 1 xs
first-is [] x e = absurd (none-some x e)
first-is (y ∷ ys) x e = ap (λ z. z ∷ ys) (same_Some y x e)

-- programming a page changes none of the blocks
pub in-programmed : (blocks i : ℕ) (log : List Page) → All (IsIn blocks) log → All (IsIn blocks) (programmed_at i log)
in-programmed blocks i log all = In-All (IsIn blocks) (programmed_at i log) (λ p h. from i log p (λ q k. All-In (IsIn blocks) log q all k) h)
  where
    from : (i : ℕ) (log : List Page) (p : Page) → ((q : Page) → In q log → IsIn blocks q) → In p (programmed_at i log) → IsIn blocks p
    from i [] p is h = absurd h
    from zero (q ∷ log) p is (inl e) = subst (IsIn blocks) e (is q (inl refl))
    from zero (q ∷ log) p is (inr h) = is p (inr h)
    from (suc i) (q ∷ log) p is (inl e) = subst (IsIn blocks) e (is q (inl refl))
    from (suc i) (q ∷ log) p is (inr h) = from i log p (λ r k. is r (inr k)) h

-- the page at this place is in the list of pages
pub in-log : (blocks i : ℕ) (log : List Page) (p : Page) → All (IsIn blocks) log → slice_get log i ≡ Some p → p.place.block < blocks
in-log blocks i log p all e = All-In (IsIn blocks) log p all (slice_get-In log i p e)

-- ---- the oldest page is folded

module _ (log new : List Page) (p : Page) (first : slice_get log 0 ≡ Some p) (rest : new ≡ drop 1 log) (may : can_fold log ≡ true) where
  parts : log ≡ p ∷ new
  parts = first-is log p first ∙ ap (λ (l : List Page). p ∷ l) (sym rest)

  programmed : p.programmed ≡ true
  programmed = sym (ap can_fold parts) ∙ may

  prefix-is : prefix log ≡ p ∷ prefix new
  prefix-is = ap prefix parts ∙ prefix-yes p new programmed

  pub folded-kept : (kept : ℕ) → kept ≡ length (prefix log) → kept - 1 ≡ length (prefix new)
  folded-kept kept e = let long = ap length prefix-is in omega (arith, e, long)

  pub folded-open : (n : ℕ) → n ≡ length (programs 0 log) → n ≡ length (programs 0 new)
  folded-open n e = e ∙ ap (λ l. length (programs 0 l)) parts ∙ behind ∙ open-from 1 0 new
    where
      behind : length (programs 0 (p ∷ new)) ≡ length (programs 1 new)
      behind = rw programmed refl

  module _ (last : List (Option ℕ)) (within : p.place.block < length last) (are : AreLast last (places (prefix log))) where
    are-parts : AreLast last (p.place ∷ places (prefix new))
    are-parts = subst (λ (l : List Page). AreLast last (places l)) prefix-is are

    rises : InOrder Rises (places log) → (q : Place) → In q (places (prefix new)) → Rises p.place q
    rises order q h =
        let behind = prefix-rest new in
        let all : places new ≡ places (prefix new) ++ places behind.0 = ap places behind.1 ∙ places-append (prefix new) behind.0 in
        let ordered : InOrder Rises (p.place ∷ places new) = subst (λ (l : List Page). InOrder Rises (places l)) parts order in
        ordered.0 q (subst (In q) (sym all) (In-append_left (places (prefix new)) (places behind.0) q h))

    -- no later page of the prefix has its block
    pub alone : InOrder Rises (places log) → slice_get last p.place.block ≡ Some (Some p.place.part)
        → (is_covered p.place.block new ≡ false) × AreLast (slice_set last p.place.block None) (places (prefix new))
    alone order e =
        let at = last-alone last p.place (places (prefix new)) within (rises order) are-parts e in
        (uncovered (prefix new) p.place.block at.0, at.1)

    -- a later one has
    pub shadowed : slice_get last p.place.block ≢ Some (Some p.place.part) → (is_covered p.place.block new ≡ true) × AreLast last (places (prefix new))
    shadowed ne =
        let at = last-covered last p.place (places (prefix new)) within are-parts ne in
        (covered (prefix new) p.place.block at.0 at.1, at.2)

  pub area-alone : (took : List Command) (area area' : List (List ℕ)) (body : List ℕ) → is_covered p.place.block new ≡ false → option_map (λ (q : Part). q.body) (part_at took p.place.part) ≡ Some body
      → area' ≡ slice_set area p.place.block body → area' ≡ area_folded took log area
  area-alone took area area' body n b e =
      e
      ∙ ap (slice_set area p.place.block) (sym (body-is (part_at took p.place.part) b))
      ∙ sym folded
    where
      body-is : (o : Option Part) → option_map (λ (q : Part). q.body) o ≡ Some body → option_map_or (λ (q : Part). q.body) o [] ≡ body
      body-is None h = absurd (none-some body h)
      body-is (Some q) h = same_Some q.body body h

      folded : area_folded took log area ≡ slice_set area p.place.block (body_at took p.place.part [])
      folded = ap (λ l. area_folded took l area) parts ∙ rw n refl

  pub area-shadowed : (took : List Command) (area : List (List ℕ)) → is_covered p.place.block new ≡ true → area ≡ area_folded took log area
  area-shadowed took area t = sym (ap (λ l. area_folded took l area) parts ∙ rw t refl)

  pub origins-alone : (origins : List (Option ℕ)) → is_covered p.place.block new ≡ false → slice_set origins p.place.block (Some p.place.part) ≡ origins_folded log origins
  origins-alone origins n = sym (ap (λ l. origins_folded l origins) parts ∙ rw n refl)

  pub origins-shadowed : (origins : List (Option ℕ)) → is_covered p.place.block new ≡ true → origins ≡ origins_folded log origins
  origins-shadowed origins t = sym (ap (λ l. origins_folded l origins) parts ∙ rw t refl)

-- what a number is told to be
pub number-is : (o : Option ℕ) (n : ℕ) → is_number o n ≡ true → o ≡ Some n
number-is None n e = absurd (false≢true e)
number-is (Some k) n e = ap Some (sym (eqb-true n k e))

pub number-not : (o : Option ℕ) (n : ℕ) → is_number o n ≡ false → o ≢ Some n
number-not o n e same = true≢false (sym (ap (λ x. is_number x n) same ∙ eq-eqb n n refl) ∙ e)

-- the oldest page may be folded where that is one of the writes
pub can_fold_at : (log : List Page) → In Fold (writes log) → can_fold log ≡ true
can_fold_at log h = let first = fold-first log h in ap can_fold first.2 ∙ first.3

-- behind what is gone
pub rising_behind : (gone ps : List Place) → InOrder Rises (gone ++ ps) → InOrder Rises ps
rising_behind [] ps h = h
rising_behind (p ∷ gone) ps h = rising_behind gone ps h.1
