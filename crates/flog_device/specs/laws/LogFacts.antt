-- What places lay over an area, and which pages of a log are kept: lemmas over lists alone.
use Rattle.std.specs.Prelude.{◌≡◌, ◌≢◌, ℕ, zero, suc, ◌<◌, ◌≤◌, ◌==◌, ◌⊎◌, Bool, true, false, List, [], ◌∷◌, ◌++◌, length, Option, Some, None, slice_get, slice_set, refl, if◌then◌else◌}
use Rattle.std.specs.List.{list_any, list_all}
use Rattle.std.proofs.Common.{sym, ap, subst, ◌∙◌, inl, inr, ⊎_elim, arith}
use Rattle.std.proofs.lemmas.Bool.{cases_Bool, cases_eq, eq-eqb, ne_eqb, eqb-true, and_parts}
use Rattle.std.proofs.lemmas.List.{length-set, append-nil}
use Rattle.std.proofs.lemmas.Option.{none-some, same_Some}
use Rattle.blk_base.specs.Members.{In}
use Rattle.blk_base.specs.laws.Members.{In-append_left, In-append_right, In-append_cases, slice_get-set_same, slice_get-set_other}
use Rattle.order_model.specs.declared.command.Command.{Command}
use Rattle.flog_device.specs.Log.{Place, Page, prefix, places, programmed_at, body_at, laid, laid_origins}

-- ---- the last place of a block

-- the first where it is there, else the second
abbrev pub above : Option ℕ → Option ℕ → Option ℕ
above (Some x) other = Some x
above None other = other

abbrev pub part_if : Bool → ℕ → Option ℕ
part_if test x = if test then Some x else None

-- the part of the last place of this block
abbrev pub top : List Place → ℕ → Option ℕ
top [] b = None
top (p ∷ ps) b = above (top ps b) (part_if (p.block == b) p.part)

above-none : (o : Option ℕ) → above o None ≡ o
above-none None = refl
above-none (Some x) = refl

above-assoc : (a b c : Option ℕ) → above a (above b c) ≡ above (above a b) c
above-assoc None b c = refl
above-assoc (Some x) b c = refl

above-some : (o r : Option ℕ) (x : ℕ) → above o r ≡ Some x → (o ≡ Some x) ⊎ ((o ≡ None) × (r ≡ Some x))
above-some None r x e = inr (refl, e)
above-some (Some y) r x e = inl e

above-nothing : (o r : Option ℕ) → above o r ≡ None → (o ≡ None) × (r ≡ None)
above-nothing None r e = (refl, e)
above-nothing (Some y) r e = absurd (none-some y (sym e))

pub top-append : (xs ys : List Place) (b : ℕ) → top (xs ++ ys) b ≡ above (top ys b) (top xs b)
top-append [] ys b = sym (above-none (top ys b))
top-append (p ∷ xs) ys b =
    ap (λ o. above o (part_if (p.block == b) p.part)) (top-append xs ys b)
    ∙ sym (above-assoc (top ys b) (top xs b) (part_if (p.block == b) p.part))

part_if-some : (p : Place) (b x : ℕ) → part_if (p.block == b) p.part ≡ Some x → (p.block ≡ b) × (p.part ≡ x)
part_if-some p b x e =
    elim (cases_Bool (p.block == b)) [
      | inl t ↦ let same : Some p.part ≡ Some x = rw t at e in (eqb-true p.block b t, same_Some p.part x same)
      | inr n ↦ let none : ◌≡◌ {A = Option ℕ} None (Some x) = rw n at e in absurd (none-some x none)
    ]

pub top-In : (ps : List Place) (b x : ℕ) → top ps b ≡ Some x → In (record { block = b; part = x }) ps
top-In [] b x e = absurd (none-some x e)
top-In (p ∷ ps) b x e =
    elim (above-some (top ps b) (part_if (p.block == b) p.part) x e) [
      | inl t ↦ inr (top-In ps b x t)
      | inr n ↦ let q = part_if-some p b x n.1 in inl (λ j. record { block = q.0 j; part = q.1 j })
    ]

-- ---- what is laid over an area

abbrev pub origin_over : Option ℕ → Option (Option ℕ) → Option (Option ℕ)
origin_over (Some x) old = Some (Some x)
origin_over None old = old

abbrev pub body_over : List Command → Option ℕ → Option (List ℕ) → Option (List ℕ)
body_over took (Some x) old = Some (body_at took x [])
body_over took None old = old

origin_over-set : (o : Option ℕ) (x : ℕ) (old : Option (Option ℕ)) → origin_over o (Some (Some x)) ≡ origin_over (above o (Some x)) old
origin_over-set None x old = refl
origin_over-set (Some y) x old = refl

body_over-set : (took : List Command) (o : Option ℕ) (x : ℕ) (old : Option (List ℕ)) → body_over took o (Some (body_at took x [])) ≡ body_over took (above o (Some x)) old
body_over-set took None x old = refl
body_over-set took (Some y) x old = refl

pub get-laid_origins : (ps : List Place) (area : List (Option ℕ)) (b : ℕ) → b < length area → slice_get (laid_origins ps area) b ≡ origin_over (top ps b) (slice_get area b)
get-laid_origins [] area b lt = refl
get-laid_origins (p ∷ ps) area b lt =
    let n = length-set area p.block (Some p.part) in
    get-laid_origins ps (slice_set area p.block (Some p.part)) b (omega arith)
    ∙ elim (cases_eq b p.block) [
      | inl q ↦
          let at : slice_get (slice_set area p.block (Some p.part)) b ≡ Some (Some p.part) =
          ap (slice_get (slice_set area p.block (Some p.part))) q ∙ slice_get-set_same area p.block (Some p.part) (subst (λ k. k < length area) q lt) in
          ap (origin_over (top ps b)) at
          ∙ origin_over-set (top ps b) p.part (slice_get area b)
          ∙ ap (λ t. origin_over (above (top ps b) (part_if t p.part)) (slice_get area b)) (sym (eq-eqb p.block b (sym q)))
      | inr ne ↦
          ap (origin_over (top ps b)) (slice_get-set_other area p.block b (Some p.part) ne)
          ∙ ap (λ o. origin_over o (slice_get area b)) (sym (above-none (top ps b)))
          ∙ ap (λ t. origin_over (above (top ps b) (part_if t p.part)) (slice_get area b)) (sym (ne_eqb p.block b (λ e. ne (sym e))))
    ]

pub get-laid : (took : List Command) (ps : List Place) (area : List (List ℕ)) (b : ℕ) → b < length area → slice_get (laid took ps area) b ≡ body_over took (top ps b) (slice_get area b)
get-laid took [] area b lt = refl
get-laid took (p ∷ ps) area b lt =
    let body = body_at took p.part [] in
    let n = length-set area p.block body in
    get-laid took ps (slice_set area p.block body) b (omega arith)
    ∙ elim (cases_eq b p.block) [
      | inl q ↦
          let at : slice_get (slice_set area p.block body) b ≡ Some body =
          ap (slice_get (slice_set area p.block body)) q ∙ slice_get-set_same area p.block body (subst (λ k. k < length area) q lt) in
          ap (body_over took (top ps b)) at
          ∙ body_over-set took (top ps b) p.part (slice_get area b)
          ∙ ap (λ t. body_over took (above (top ps b) (part_if t p.part)) (slice_get area b)) (sym (eq-eqb p.block b (sym q)))
      | inr ne ↦
          ap (body_over took (top ps b)) (slice_get-set_other area p.block b body ne)
          ∙ ap (λ o. body_over took o (slice_get area b)) (sym (above-none (top ps b)))
          ∙ ap (λ t. body_over took (above (top ps b) (part_if t p.part)) (slice_get area b)) (sym (ne_eqb p.block b (λ e. ne (sym e))))
    ]

pub length-laid : (took : List Command) (ps : List Place) (area : List (List ℕ)) → length (laid took ps area) ≡ length area
length-laid took [] area = refl
length-laid took (p ∷ ps) area = length-laid took ps (slice_set area p.block (body_at took p.part [])) ∙ length-set area p.block (body_at took p.part [])

pub length-laid_origins : (ps : List Place) (area : List (Option ℕ)) → length (laid_origins ps area) ≡ length area
length-laid_origins [] area = refl
length-laid_origins (p ∷ ps) area = length-laid_origins ps (slice_set area p.block (Some p.part)) ∙ length-set area p.block (Some p.part)

-- ---- lists whose elements stand in a relation to all later ones

abbrev pub InOrder : (Place → Place → Type 0) → List Place → Type 0
InOrder R [] = Unit {0}
InOrder R (p ∷ ps) = ((q : Place) → In q ps → R p q) × InOrder R ps

pub InOrder-across : (R : Place → Place → Type 0) (xs ys : List Place) (p q : Place) → InOrder R (xs ++ ys) → In p xs → In q ys → R p q
InOrder-across R [] ys p q h i j = absurd i
InOrder-across R (x ∷ xs) ys p q h (inl e) j = subst (λ a. R a q) e (h.0 q (In-append_right xs ys q j))
InOrder-across R (x ∷ xs) ys p q h (inr i) j = InOrder-across R xs ys p q h.1 i j

pub InOrder-left : (R : Place → Place → Type 0) (xs ys : List Place) → InOrder R (xs ++ ys) → InOrder R xs
InOrder-left R [] ys h = tt
InOrder-left R (x ∷ xs) ys h = (λ q i. h.0 q (In-append_left xs ys q i), InOrder-left R xs ys h.1)

pub InOrder-append : (R : Place → Place → Type 0) (xs ys : List Place) → InOrder R xs → InOrder R ys → ((p q : Place) → In p xs → In q ys → R p q) → InOrder R (xs ++ ys)
InOrder-append R [] ys h k across = k
InOrder-append R (x ∷ xs) ys h k across =
    (λ q i. ⊎_elim (h.0 q) (λ j. across x q (inl refl) j) (In-append_cases xs ys q i), InOrder-append R xs ys h.1 k (λ p q i j. across p q (inr i) j))

pub InOrder-as : (R S : Place → Place → Type 0) (ps : List Place) → ((p q : Place) → In p ps → In q ps → R p q → S p q) → InOrder R ps → InOrder S ps
InOrder-as R S [] gives h = tt
InOrder-as R S (p ∷ ps) gives h = (λ q i. gives p q (inl refl) (inr i) (h.0 q i), InOrder-as R S ps (λ a b i j. gives a b (inr i) (inr j)) h.1)

-- later places of a block have later parts
abbrev pub Rises : Place → Place → Type 0
Rises p q = q.block ≡ p.block → p.part < q.part

pub In-top : (ps : List Place) (p : Place) → InOrder Rises ps → In p ps → (o : ℕ) × (top ps p.block ≡ Some o) × (p.part ≤ o)
In-top [] p h i = absurd i
In-top (r ∷ ps) p h (inl e) = at (top ps p.block) refl
  where
    at : (o : Option ℕ) → top ps p.block ≡ o → (x : ℕ) × (above (top ps p.block) (part_if (r.block == p.block) r.part) ≡ Some x) × (p.part ≤ x)
    at None n =
        let same : (r.block == p.block) ≡ true = eq-eqb r.block p.block (ap (λ (x : Place). x.block) e) in
        (r.part, ap (λ o. above o (part_if (r.block == p.block) r.part)) n ∙ ap (λ t. part_if t r.part) same, let k : r.part ≡ p.part = ap (λ (x : Place). x.part) e in omega (arith, k))
    at (Some x) s =
        let lt = h.0 (record { block = p.block; part = x }) (top-In ps p.block x s) (ap (λ (y : Place). y.block) (sym e)) in
        let k : r.part ≡ p.part = ap (λ (y : Place). y.part) e in
        (x, ap (λ o. above o (part_if (r.block == p.block) r.part)) s, omega (arith, k, lt))
In-top (r ∷ ps) p h (inr i) =
    let t = In-top ps p h.1 i in
    (t.0, ap (λ o. above o (part_if (r.block == p.block) r.part)) t.1, t.2)

-- ---- the prefix of a log

pub prefix-yes : (p : Page) (log : List Page) → p.programmed ≡ true → prefix (p ∷ log) ≡ p ∷ prefix log
prefix-yes p log t = ap (λ b. if b then p ∷ prefix log else []) t

pub prefix-no : (p : Page) (log : List Page) → p.programmed ≡ false → prefix (p ∷ log) ≡ []
prefix-no p log n = ap (λ b. if b then p ∷ prefix log else []) n

pub prefix-unprogrammed : (log new : List Page) → ((p : Page) → In p new → p.programmed ≡ false) → prefix (log ++ new) ≡ prefix log
prefix-unprogrammed [] [] h = refl
prefix-unprogrammed [] (p ∷ ps) h = prefix-no p ps (h p (inl refl))
prefix-unprogrammed (p ∷ log) new h =
    elim (cases_Bool p.programmed) [
      | inl t ↦ prefix-yes p (log ++ new) t ∙ ap (λ (l : List Page). p ∷ l) (prefix-unprogrammed log new h) ∙ sym (prefix-yes p log t)
      | inr n ↦ prefix-no p (log ++ new) n ∙ sym (prefix-no p log n)
    ]

pub prefix-rest : (log : List Page) → (rest : List Page) × (log ≡ prefix log ++ rest)
prefix-rest [] = ([], refl)
prefix-rest (p ∷ log) =
    elim (cases_Bool p.programmed) [
      | inl t ↦ let r = prefix-rest log in (r.0, ap (λ (l : List Page). p ∷ l) r.1 ∙ ap (λ (l : List Page). l ++ r.0) (sym (prefix-yes p log t)))
      | inr n ↦ (p ∷ log, ap (λ (l : List Page). l ++ p ∷ log) (sym (prefix-no p log n)))
    ]

pub prefix-all : (log : List Page) → list_all (λ (p : Page). p.programmed) log ≡ true → prefix log ≡ log
prefix-all [] h = refl
prefix-all (p ∷ log) h =
    let q = and_parts p.programmed (list_all (λ (p : Page). p.programmed) log) h in
    let at : prefix (p ∷ log) ≡ p ∷ prefix log = rw q.0 refl in
    at ∙ ap (λ (l : List Page). p ∷ l) (prefix-all log q.1)

programmed-same : (p : Page) → p.programmed ≡ true → record { place = p.place; programmed = true } ≡ p
programmed-same p t = λ j. record { place = p.place; programmed = sym t j }

pub prefix-programmed_at : (i : ℕ) (log : List Page) → (more : List Page) × (prefix (programmed_at i log) ≡ prefix log ++ more)
prefix-programmed_at i [] = ([], refl)
prefix-programmed_at zero (p ∷ log) =
    let new : Page = record { place = p.place; programmed = true } in
    elim (cases_Bool p.programmed) [
      | inl t ↦ ([], ap (λ (x : Page). x ∷ prefix log) (programmed-same p t) ∙ sym (prefix-yes p log t) ∙ sym (append-nil (prefix (p ∷ log))))
      | inr n ↦ (new ∷ prefix log, ap (λ (l : List Page). l ++ new ∷ prefix log) (sym (prefix-no p log n)))
    ]
prefix-programmed_at (suc i) (p ∷ log) =
    let r = prefix-programmed_at i log in
    elim (cases_Bool p.programmed) [
      | inl t ↦
          (r.0, prefix-yes p (programmed_at i log) t ∙ ap (λ (l : List Page). p ∷ l) r.1 ∙ ap (λ (l : List Page). l ++ r.0) (sym (prefix-yes p log t)))
      | inr n ↦ ([], prefix-no p (programmed_at i log) n ∙ ap (λ (l : List Page). l ++ []) (sym (prefix-no p log n)))
    ]

pub places-programmed_at : (i : ℕ) (log : List Page) → places (programmed_at i log) ≡ places log
places-programmed_at i [] = refl
places-programmed_at zero (p ∷ log) = refl
places-programmed_at (suc i) (p ∷ log) = ap (λ (l : List Place). p.place ∷ l) (places-programmed_at i log)

pub places-append : (xs ys : List Page) → places (xs ++ ys) ≡ places xs ++ places ys
places-append [] ys = refl
places-append (x ∷ xs) ys = ap (λ (l : List Place). x.place ∷ l) (places-append xs ys)

pub uncovered : (ps : List Page) (b : ℕ) → top (places ps) b ≡ None → list_any (λ (p : Page). p.place.block == b) ps ≡ false
uncovered [] b e = refl
uncovered (p ∷ ps) b e =
    let q = above-nothing (top (places ps) b) (part_if (p.place.block == b) p.place.part) e in
    elim (cases_Bool (p.place.block == b)) [
      | inl t ↦ let some : ◌≡◌ {A = Option ℕ} (Some p.place.part) None = rw t at q.1 in absurd (none-some p.place.part (sym some))
      | inr n ↦ rw n (uncovered ps b q.0)
    ]

-- ---- where nothing more is laid over a block

pub top-append_none : (xs ys : List Place) (b : ℕ) → top (xs ++ ys) b ≡ None → (top xs b ≡ None) × (top ys b ≡ None)
top-append_none xs ys b e =
    let q = above-nothing (top ys b) (top xs b) (sym (top-append xs ys b) ∙ e) in (q.1, q.0)

pub top-cons_other : (p : Place) (ps : List Place) (b : ℕ) → b ≢ p.block → top (p ∷ ps) b ≡ top ps b
top-cons_other p ps b ne =
    ap (λ t. above (top ps b) (part_if t p.part)) (ne_eqb p.block b (λ e. ne (sym e))) ∙ above-none (top ps b)

pub top-push_same : (ps : List Place) (p : Place) (b : ℕ) → b ≡ p.block → top (ps ++ p ∷ []) b ≡ Some p.part
top-push_same ps p b e =
    top-append ps (p ∷ []) b ∙ ap (λ t. above (part_if t p.part) (top ps b)) (eq-eqb p.block b (sym e))

pub top-push_other : (ps : List Place) (p : Place) (b : ℕ) → b ≢ p.block → top (ps ++ p ∷ []) b ≡ top ps b
top-push_other ps p b ne =
    top-append ps (p ∷ []) b ∙ ap (λ t. above (part_if t p.part) (top ps b)) (ne_eqb p.block b (λ e. ne (sym e)))

-- what lies over an area that has the last places of what is gone: the last places of all that is kept
pub over-gone : (o : Option ℕ) (old : Option (Option ℕ)) (below : Option ℕ) → (o ≡ None → old ≡ Some below) → origin_over o old ≡ Some (above o below)
over-gone None old below h = h refl
over-gone (Some x) old below h = refl

pub body-gone : (took : List Command) (o : Option ℕ) (old base : Option (List ℕ)) (below : Option ℕ) → (o ≡ None → old ≡ body_over took below base) → body_over took o old ≡ body_over took (above o below) base
body-gone took None old base below h = h refl
body-gone took (Some x) old base below h = refl
