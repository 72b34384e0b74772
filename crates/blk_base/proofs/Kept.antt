-- What a write does to the places and the bodies of an image.
use Rattle.std.proofs.Common.{◌≡◌, ◌≢◌, ℕ, zero, suc, ◌+◌, ◌<◌, ◌≤◌, Bool, true, false, cond, eqb, List, [], ◌∷◌, ◌++◌, length, get_or, set, replicate, refl, sym, subst, inl, inr, ap, ap₂, ◌∙◌, arith, get_or-set_other}
use Rattle.std.specs.List.{All}
use Rattle.std.proofs.lemmas.Bool.{cases_eq, eq-eqb, ne_eqb}
use Rattle.std.proofs.lemmas.List.{length-set, length-append, get_or_append_left, get_or-set_same, get_or_default, get_or_push, map-set, map_push, get_or-map, set-get_or}
use Rattle.std.proofs.lemmas.List.Elements.{All-head, All-tail, All-set, All-push, All-weaker}
use Rattle.std.proofs.lemmas.List.Sums.{sum_by-set, sum_by-cons, sum_by_push}
use Rattle.blk_base.specs.Block.{filled}
use Rattle.blk_base.specs.code.Bodies.{body_at, blocks_of, at_place, IsKept}

abbrev one_if : Bool → ℕ
one_if t = cond t 1 0

at_place-cons : (place p : ℕ) (ps : List ℕ) → at_place place (p ∷ ps) ≡ one_if (eqb p place) + at_place place ps
at_place-cons place p ps = sum_by-cons (λ q. one_if (eqb q place)) p ps

at_place-here : (place p : ℕ) (ps : List ℕ) → p ≡ place → at_place place (p ∷ ps) ≡ suc (at_place place ps)
at_place-here place p ps here =
    let counted : at_place place (p ∷ ps) ≡ 1 + at_place place ps = at_place-cons place p ps ∙ ap (λ t. one_if t + at_place place ps) (eq-eqb p place here) in
    omega (arith, counted)

at_place-other : (place p : ℕ) (ps : List ℕ) → p ≢ place → at_place place (p ∷ ps) ≡ at_place place ps
at_place-other place p ps other =
    let counted : at_place place (p ∷ ps) ≡ 0 + at_place place ps = at_place-cons place p ps ∙ ap (λ t. one_if t + at_place place ps) (ne_eqb p place other) in
    omega (arith, counted)

-- a place counts where it stands
here-counts : (places : List ℕ) (b place : ℕ) → b < length places → get_or places b 0 ≡ place → 1 ≤ at_place place places
here-counts [] b place within here = absurd (omega (arith, within))
here-counts (p ∷ ps) zero place within here =
    let same = at_place-here place p ps here in omega (arith, same)
here-counts (p ∷ ps) (suc b) place within here =
    let rest = here-counts ps b place (omega (arith, within)) here in
    let cons = at_place-cons place p ps in
    omega (arith, rest, cons)

-- a place that is not below all
not_named : (n : ℕ) (places : List ℕ) → All (λ p. p < n) places → at_place n places ≡ 0
not_named n [] below = refl
not_named n (p ∷ ps) below =
    let first : p < n = All-head (λ q. q < n) p ps below in
    at_place-other n p ps (λ e. omega (arith, e, first)) ∙ not_named n ps (All-tail (λ q. q < n) p ps below)

-- a body that no place names does not matter
unnamed : (bodies : List (List ℕ)) (body : List ℕ) (place : ℕ) (places : List ℕ) → at_place place places ≡ 0 → blocks_of (set bodies place body) places ≡ blocks_of bodies places
unnamed bodies body place [] none = refl
unnamed bodies body place (p ∷ ps) none =
    let cons = at_place-cons place p ps in
    let other : p ≢ place = λ e. let here = at_place-here place p ps e in omega (arith, here, none) in
    ap₂ (λ x xs. x ∷ xs) (get_or-set_other bodies place p body (filled 0) other) (unnamed bodies body place ps (omega (arith, cons, none)))

-- the body of a block with a place of its own is written
written : (bodies : List (List ℕ)) (body : List ℕ) (place : ℕ) → place < length bodies → (places : List ℕ) (b : ℕ) → b < length places → get_or places b 0 ≡ place → at_place place places ≤ 1
    → blocks_of (set bodies place body) places ≡ set (blocks_of bodies places) b body
written bodies body place there [] b within here once = absurd (omega (arith, within))
written bodies body place there (p ∷ ps) zero within here once =
    let counted = at_place-here place p ps here in
    let first : body_at (set bodies place body) p ≡ body = ap (body_at (set bodies place body)) here ∙ get_or-set_same bodies place body (filled 0) there in
    ap₂ (λ x xs. x ∷ xs) first (unnamed bodies body place ps (omega (arith, counted, once)))
written bodies body place there (p ∷ ps) (suc b) within here once =
    let cons = at_place-cons place p ps in
    let rest = here-counts ps b place (omega (arith, within)) here in
    let other : p ≢ place = λ e. let counted = at_place-here place p ps e in omega (arith, counted, rest, once) in
    ap₂ (λ x xs. x ∷ xs) (get_or-set_other bodies place p body (filled 0) other)
    (written bodies body place there ps b (omega (arith, within)) here (omega (arith, cons, once)))

read_here : (places : List ℕ) (b place : ℕ) → b < length places → place ≡ get_or places b place → get_or places b 0 ≡ place
read_here places b place within here = get_or_default places b 0 place within ∙ sym here

pub put_in_place : (bodies : List (List ℕ)) (places : List ℕ) (b place : ℕ) (body : List ℕ) → IsKept bodies places → b < length places → place ≡ get_or places b place → place ≢ 0
    → blocks_of (set bodies place body) places ≡ set (blocks_of bodies places) b body
put_in_place bodies places b place body kept within here own =
    let at : get_or places b 0 ≡ place = read_here places b place within here in
    let there : place < length bodies = subst (λ p. p < length bodies) at (kept.within b 0 within) in
    written bodies body place there places b within at (kept.apart place (omega (arith, own)))

-- bodies behind the others change no block
behind : (bodies more : List (List ℕ)) (places : List ℕ) → All (λ p. p < length bodies) places → blocks_of (bodies ++ more) places ≡ blocks_of bodies places
behind bodies more [] below = refl
behind bodies more (p ∷ ps) below =
    ap₂ (λ x xs. x ∷ xs) (get_or_append_left bodies more (filled 0) p (All-head (λ q. q < length bodies) p ps below))
    (behind bodies more ps (All-tail (λ q. q < length bodies) p ps below))

pub put_behind : (bodies : List (List ℕ)) (places : List ℕ) (b : ℕ) (body : List ℕ) → IsKept bodies places
    → blocks_of (bodies ++ body ∷ []) (set places b (length bodies)) ≡ set (blocks_of bodies places) b body
put_behind bodies places b body kept =
    map-set (body_at (bodies ++ body ∷ [])) places b (length bodies)
    ∙ ap₂ (λ xs x. set xs b x) (behind bodies (body ∷ []) places kept.within) (get_or_push bodies body (filled 0) (length bodies) refl)

pub put_nothing : (bodies : List (List ℕ)) (places : List ℕ) (b place : ℕ) (body : List ℕ) → IsKept bodies places → b < length places → place ≡ get_or places b place → place ≡ 0 → body ≡ filled 0
    → blocks_of bodies places ≡ set (blocks_of bodies places) b body
put_nothing bodies places b place body kept within here none zeros =
    let at : get_or places b 0 ≡ 0 = read_here places b place within here ∙ none in
    let same : get_or (blocks_of bodies places) b (filled 0) ≡ body = get_or-map (body_at bodies) places b 0 (filled 0) within ∙ ap (body_at bodies) at ∙ kept.zeros ∙ sym zeros in
    sym (ap (λ x. set (blocks_of bodies places) b x) (sym same) ∙ set-get_or (blocks_of bodies places) b (filled 0))

pub kept_behind : (bodies : List (List ℕ)) (places : List ℕ) (b place : ℕ) (body : List ℕ) → IsKept bodies places → b < length places → place ≡ get_or places b place → place ≡ 0
    → IsKept (bodies ++ body ∷ []) (set places b (length bodies))
kept_behind bodies places b place body kept within here none =
    let at : get_or places b 0 ≡ 0 = read_here places b place within here ∙ none in
    let some : 0 < length bodies = subst (λ p. p < length bodies) at (kept.within b 0 within) in
    let one : length (bodies ++ body ∷ []) ≡ length bodies + 1 = length-append bodies (body ∷ []) in
    record {
      zeros = get_or_append_left bodies (body ∷ []) (filled 0) 0 some ∙ kept.zeros;
      within =
          All-set (λ p. p < length (bodies ++ body ∷ [])) places b (length bodies) (omega (arith, one))
          (All-weaker (λ p. p < length bodies) (λ p. p < length (bodies ++ body ∷ [])) (λ p lt. omega (arith, one, lt)) places kept.within);
      apart = λ q own. at_most_one at q own;
      room =
          let zeros : at_place 0 (set places b (length bodies)) + 1 ≡ at_place 0 places + 0 = grown 0 true false (eq-eqb _ _ at) (ne_eqb (length bodies) 0 (λ e. omega (arith, e, some))) in
          let before = kept.room in
          let len = length-set places b (length bodies) in
          omega (arith, zeros, before, len, one);
    }
  where
    grown : (q : ℕ) (s t : Bool) → eqb (get_or places b 0) q ≡ s → eqb (length bodies) q ≡ t → at_place q (set places b (length bodies)) + one_if s ≡ at_place q places + one_if t
    grown q s t was is =
        sym (ap (λ u. at_place q (set places b (length bodies)) + one_if u) was)
        ∙ sum_by-set (λ p. one_if (eqb p q)) places b (length bodies) 0 within
        ∙ ap (λ u. at_place q places + one_if u) is

    at_most_one : get_or places b 0 ≡ 0 → (q : ℕ) → 0 < q → at_place q (set places b (length bodies)) ≤ 1
    at_most_one at q own =
        let before = kept.apart q own in
        let was : eqb (get_or places b 0) q ≡ false = ne_eqb _ q (λ e. omega (arith, e, at, own)) in
        elim (cases_eq (length bodies) q) [
          | inl e ↦
              (let none : at_place q places ≡ 0 = subst (λ n. at_place n places ≡ 0) e (not_named (length bodies) places kept.within) in
              let here : at_place q (set places b (length bodies)) + 0 ≡ at_place q places + 1 = grown q false true was (eq-eqb (length bodies) q e) in
              omega (arith, none, here))
          | inr ne ↦
              (let here : at_place q (set places b (length bodies)) + 0 ≡ at_place q places + 0 = grown q false false was (ne_eqb (length bodies) q ne) in
              omega (arith, before, here))
        ]

-- zeros alone
pub zeros_of : (bodies : List (List ℕ)) (places : List ℕ) (n : ℕ) → bodies ≡ filled 0 ∷ [] → places ≡ replicate n 0 → blocks_of bodies places ≡ replicate n (filled 0)
zeros_of bodies places n only none = ap₂ blocks_of only none ∙ alone n
  where
    alone : (n : ℕ) → blocks_of (filled 0 ∷ []) (replicate n 0) ≡ replicate n (filled 0)
    alone zero = refl
    alone (suc n) = ap (λ xs. filled 0 ∷ xs) (alone n)

    zeros : (n : ℕ) → at_place 0 (replicate n 0) ≡ n
    zeros zero = refl
    zeros (suc n) = at_place-here 0 0 (replicate n 0) refl ∙ ap suc (zeros n)

-- ---- one block more

place-push : (q : ℕ) (places : List ℕ) (p : ℕ) → at_place q (places ++ p ∷ []) ≡ at_place q places + one_if (eqb p q)
place-push q places p = sum_by_push (λ x. one_if (eqb x q)) places p

pub push_behind : (bodies : List (List ℕ)) (places : List ℕ) (body : List ℕ) → IsKept bodies places
    → blocks_of (bodies ++ body ∷ []) (places ++ length bodies ∷ []) ≡ blocks_of bodies places ++ body ∷ []
push_behind bodies places body kept =
    map_push (body_at (bodies ++ body ∷ [])) places (length bodies)
    ∙ ap₂ (λ xs x. xs ++ x ∷ []) (behind bodies (body ∷ []) places kept.within) (get_or_push bodies body (filled 0) (length bodies) refl)

some_body : (bodies : List (List ℕ)) (places : List ℕ) → IsKept bodies places → 0 < length bodies
some_body bodies places kept =
    let room = kept.room in
    let few = at_most_all 0 places in
    omega (arith, room, few)
  where
    at_most_all : (q : ℕ) (places : List ℕ) → at_place q places ≤ length places
    at_most_all q [] = omega arith
    at_most_all q (p ∷ ps) =
        let rest = at_most_all q ps in
        elim (cases_eq p q) [
          | inl e ↦ (let here = at_place-here q p ps e in omega (arith, rest, here))
          | inr ne ↦ (let other = at_place-other q p ps ne in omega (arith, rest, other))
        ]

pub kept_nothing : (bodies : List (List ℕ)) (places : List ℕ) → IsKept bodies places → IsKept bodies (places ++ 0 ∷ [])
kept_nothing bodies places kept =
    let long = length-append places (0 ∷ []) in
    record {
      zeros = kept.zeros;
      within = All-push (λ p. p < length bodies) places 0 kept.within (some_body bodies places kept);
      apart = λ q own.
          let before = kept.apart q own in
          let count : at_place q (places ++ 0 ∷ []) ≡ at_place q places + 0 = place-push q places 0 ∙ ap (λ t. at_place q places + one_if t) (ne_eqb 0 q (λ e. omega (arith, e, own))) in
          omega (arith, before, count);
      room =
          let before = kept.room in
          let count : at_place 0 (places ++ 0 ∷ []) ≡ at_place 0 places + 1 = place-push 0 places 0 in
          omega (arith, before, count, long);
    }

pub kept_push : (bodies : List (List ℕ)) (places : List ℕ) (body : List ℕ) → IsKept bodies places → IsKept (bodies ++ body ∷ []) (places ++ length bodies ∷ [])
kept_push bodies places body kept =
    let some = some_body bodies places kept in
    let one : length (bodies ++ body ∷ []) ≡ length bodies + 1 = length-append bodies (body ∷ []) in
    let long = length-append places (length bodies ∷ []) in
    record {
      zeros = get_or_append_left bodies (body ∷ []) (filled 0) 0 some ∙ kept.zeros;
      within =
          All-push (λ p. p < length (bodies ++ body ∷ [])) places (length bodies)
          (All-weaker (λ p. p < length bodies) (λ p. p < length (bodies ++ body ∷ [])) (λ p lt. omega (arith, one, lt)) places kept.within)
          (omega (arith, one));
      apart = λ q own. at_most_one q own;
      room =
          let before = kept.room in
          let count : at_place 0 (places ++ length bodies ∷ []) ≡ at_place 0 places + 0 = counted 0 false (ne_eqb (length bodies) 0 (λ e. omega (arith, e, some))) in
          omega (arith, before, count, one, long);
    }
  where
    counted : (q : ℕ) (t : Bool) → eqb (length bodies) q ≡ t → at_place q (places ++ length bodies ∷ []) ≡ at_place q places + one_if t
    counted q t is = place-push q places (length bodies) ∙ ap (λ u. at_place q places + one_if u) is

    at_most_one : (q : ℕ) → 0 < q → at_place q (places ++ length bodies ∷ []) ≤ 1
    at_most_one q own =
        let before = kept.apart q own in
        elim (cases_eq (length bodies) q) [
          | inl e ↦
              (let none : at_place q places ≡ 0 = subst (λ n. at_place n places ≡ 0) e (not_named (length bodies) places kept.within) in
              let here : at_place q (places ++ length bodies ∷ []) ≡ at_place q places + 1 = counted q true (eq-eqb (length bodies) q e) in
              omega (arith, none, here))
          | inr ne ↦
              (let here : at_place q (places ++ length bodies ∷ []) ≡ at_place q places + 0 = counted q false (ne_eqb (length bodies) q ne) in
              omega (arith, before, here))
        ]
