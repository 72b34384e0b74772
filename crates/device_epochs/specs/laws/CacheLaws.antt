-- What stands in the cache after an entry went in, or left.
use Rattle.std.specs.Prelude.{◌≡◌, ℕ, ◌+◌, ◌<◌, ◌≤◌, ◌==◌, ◌⊎◌, Bool, true, false, not, List, [], ◌∷◌, ◌++◌, length, filter, map, Some, slice_get, if◌then◌else◌, refl, zero, suc}
use Rattle.std.specs.List.{list_any, remove}
use Rattle.std.proofs.Common.{sym, ap, subst, ◌∙◌, inl, inr, arith}
use Rattle.std.proofs.lemmas.Bool.{cases_Bool, and_parts, and_from, eqb-true, eq-eqb, not-true, both_ways}
use Rattle.std.proofs.lemmas.List.{length_push, length-map}
use Rattle.blk_base.specs.Members.{In, IsAscending}
use Rattle.blk_base.specs.laws.Members.{In-push, In-push_left, In-push_cases, In-filter, filter-In, filter_all, In-map, map-In, In-list_any, none-list_any, slice_get-In}
use Rattle.std.proofs.lemmas.Option.{none-some, same_Some}
use Rattle.order_model.specs.declared.part.Part.{Part}
use Rattle.device_epochs.specs.declared.cache.Entry.{Entry}
use Rattle.device_epochs.specs.Cache.{same_place, put_entry, entries, put_all, oldest, without_entry}
use Rattle.device_epochs.specs.laws.Valid.{AreUnique, AreSorted, IsCached}

-- ---- entries of one epoch and block

pub same_place_parts : (e f : Entry) → same_place e f ≡ true → (e.epoch ≡ f.epoch) × (e.block ≡ f.block)
same_place_parts e f t =
    let p = and_parts (e.epoch == f.epoch) (e.block == f.block) t in
    (eqb-true e.epoch f.epoch p.0, eqb-true e.block f.block p.1)

pub same_place_from : (e f : Entry) → e.epoch ≡ f.epoch → e.block ≡ f.block → same_place e f ≡ true
same_place_from e f a b =
    and_from (e.epoch == f.epoch) (e.block == f.block) (eq-eqb e.epoch f.epoch a) (eq-eqb e.block f.block b)

pub same_place_sym : (e f : Entry) → same_place e f ≡ false → same_place f e ≡ false
same_place_sym e f h =
    elim (cases_Bool (same_place f e)) [
      | inl t ↦
          let p = same_place_parts f e t in
          absurd (both_ways (same_place e f) h (same_place_from e f (sym p.0) (sym p.1)))
      | inr n ↦ n
    ]

-- ---- an entry goes in

-- what stands in the place of f once e went in
abbrev pub renewed : Entry → Entry → Entry
renewed e f = if same_place e f then e else f

renewed_yes : (e f : Entry) → same_place e f ≡ true → renewed e f ≡ e
renewed_yes e f t = rw t refl

renewed_no : (e f : Entry) → same_place e f ≡ false → renewed e f ≡ f
renewed_no e f t = rw t refl

renewed_place : (e f : Entry) → ((renewed e f).epoch ≡ f.epoch) × ((renewed e f).block ≡ f.block)
renewed_place e f =
    elim (cases_Bool (same_place e f)) [
      | inl t ↦
          let p = same_place_parts e f t in
          let q = renewed_yes e f t in
          (ap (λ (x : Entry). x.epoch) q ∙ p.0, ap (λ (x : Entry). x.block) q ∙ p.1)
      | inr n ↦
          let q = renewed_no e f n in
          (ap (λ (x : Entry). x.epoch) q, ap (λ (x : Entry). x.block) q)
    ]

same_place-renewed : (e x y : Entry) → same_place x y ≡ false → same_place (renewed e x) (renewed e y) ≡ false
same_place-renewed e x y h =
    elim (cases_Bool (same_place (renewed e x) (renewed e y))) [
      | inl t ↦
          let p = same_place_parts (renewed e x) (renewed e y) t in
          let a = renewed_place e x in
          let b = renewed_place e y in
          absurd (both_ways (same_place x y) h (same_place_from x y (sym a.0 ∙ p.0 ∙ b.0) (sym a.1 ∙ p.1 ∙ b.1)))
      | inr n ↦ n
    ]

pub put_entry_found : (e : Entry) (c : List Entry) → list_any (same_place e) c ≡ true → put_entry e c ≡ map (renewed e) c
put_entry_found e c t = rw t refl

pub put_entry_new : (e : Entry) (c : List Entry) → list_any (same_place e) c ≡ false → put_entry e c ≡ c ++ e ∷ []
put_entry_new e c n = rw n refl

-- what is there was put, or was there and is of another place
pub In-put_entry : (e : Entry) (c : List Entry) (f : Entry) → In f (put_entry e c) → (f ≡ e) ⊎ (In f c × (same_place e f ≡ false))
In-put_entry e c f h =
    elim (cases_Bool (list_any (same_place e) c)) [
      | inl t ↦
          let m = In-map (renewed e) c f (subst (λ l. In f l) (put_entry_found e c t) h) in
          elim (cases_Bool (same_place e m.0)) [
            | inl s ↦ inl (sym m.2 ∙ renewed_yes e m.0 s)
            | inr n ↦
                let same : m.0 ≡ f = sym (renewed_no e m.0 n) ∙ m.2 in
                inr (subst (λ g. In g c) same m.1, subst (λ g. same_place e g ≡ false) same n)
          ]
      | inr n ↦
          elim (In-push_cases c e f (subst (λ l. In f l) (put_entry_new e c n) h)) [
            | inl i ↦ inr (i, none-list_any (same_place e) c f n i)
            | inr q ↦ inl (sym q)
          ]
    ]

pub put_entry-In_new : (e : Entry) (c : List Entry) → In e (put_entry e c)
put_entry-In_new e c =
    elim (cases_Bool (list_any (same_place e) c)) [
      | inl t ↦
          let g = In-list_any (same_place e) c t in
          subst (λ l. In e l) (sym (put_entry_found e c t))
          (subst (λ x. In x (map (renewed e) c)) (renewed_yes e g.0 g.2) (map-In (renewed e) c g.0 g.1))
      | inr n ↦ subst (λ l. In e l) (sym (put_entry_new e c n)) (In-push c e)
    ]

-- what was there is still there, or was of this place
pub put_entry-In_old : (e : Entry) (c : List Entry) (f : Entry) → In f c → (same_place e f ≡ true) ⊎ In f (put_entry e c)
put_entry-In_old e c f i =
    elim (cases_Bool (same_place e f)) [
      | inl s ↦ inl s
      | inr d ↦
          inr
          (elim (cases_Bool (list_any (same_place e) c)) [
            | inl t ↦
                subst (λ l. In f l) (sym (put_entry_found e c t))
                (subst (λ x. In x (map (renewed e) c)) (renewed_no e f d) (map-In (renewed e) c f i))
            | inr n ↦ subst (λ l. In f l) (sym (put_entry_new e c n)) (In-push_left c e f i)
          ])
    ]

AreUnique-map : (e : Entry) (c : List Entry) → AreUnique c → AreUnique (map (renewed e) c)
AreUnique-map e [] u = tt
AreUnique-map e (x ∷ xs) u = (
  λ f i.
      let m = In-map (renewed e) xs f i in
      subst (λ g. same_place (renewed e x) g ≡ false) m.2 (same_place-renewed e x m.0 (u.0 m.0 m.1)),
  AreUnique-map e xs u.1,
)

AreUnique-push : (e : Entry) (c : List Entry) → AreUnique c → ((f : Entry) → In f c → same_place e f ≡ false) → AreUnique (c ++ e ∷ [])
AreUnique-push e [] u n = (λ f i. absurd i, tt)
AreUnique-push e (x ∷ xs) u n = (
  λ f i.
      elim (In-push_cases xs e f i) [
        | inl h ↦ u.0 f h
        | inr q ↦ subst (λ g. same_place x g ≡ false) q (same_place_sym e x (n x (inl refl)))
      ],
  AreUnique-push e xs u.1 (λ f i. n f (inr i)),
)

pub AreUnique-put_entry : (e : Entry) (c : List Entry) → AreUnique c → AreUnique (put_entry e c)
AreUnique-put_entry e c u =
    elim (cases_Bool (list_any (same_place e) c)) [
      | inl t ↦ subst AreUnique (sym (put_entry_found e c t)) (AreUnique-map e c u)
      | inr n ↦
          subst AreUnique (sym (put_entry_new e c n))
          (AreUnique-push e c u (λ f i. none-list_any (same_place e) c f n i))
    ]

AreSorted-map : (e : Entry) (c : List Entry) → AreSorted c → AreSorted (map (renewed e) c)
AreSorted-map e [] s = tt
AreSorted-map e (x ∷ xs) s = (
  λ f i.
      let m = In-map (renewed e) xs f i in
      let le = s.0 m.0 m.1 in
      let a = (renewed_place e x).0 in
      let b = (renewed_place e m.0).0 in
      let c : (renewed e m.0).epoch ≡ f.epoch = ap (λ (g : Entry). g.epoch) m.2 in
      let le' : x.epoch ≤ f.epoch = subst (λ n. x.epoch ≤ n) (sym b ∙ c) le in
      subst (λ n. n ≤ f.epoch) (sym a) le',
  AreSorted-map e xs s.1,
)

AreSorted-push : (e : Entry) (c : List Entry) → AreSorted c → ((f : Entry) → In f c → f.epoch ≤ e.epoch) → AreSorted (c ++ e ∷ [])
AreSorted-push e [] s n = (λ f i. absurd i, tt)
AreSorted-push e (x ∷ xs) s n = (
  λ f i.
      elim (In-push_cases xs e f i) [
        | inl h ↦ s.0 f h
        | inr q ↦ subst (λ (g : Entry). x.epoch ≤ g.epoch) q (n x (inl refl))
      ],
  AreSorted-push e xs s.1 (λ f i. n f (inr i)),
)

pub AreSorted-put_entry : (e : Entry) (c : List Entry) → AreSorted c → ((f : Entry) → In f c → f.epoch ≤ e.epoch) → AreSorted (put_entry e c)
AreSorted-put_entry e c s n =
    elim (cases_Bool (list_any (same_place e) c)) [
      | inl t ↦ subst AreSorted (sym (put_entry_found e c t)) (AreSorted-map e c s)
      | inr m ↦ subst AreSorted (sym (put_entry_new e c m)) (AreSorted-push e c s n)
    ]

-- what was covered stays covered, where the entry is of no earlier place
pub put_entry-IsCached : (e : Entry) (c : List Entry) (epoch block x : ℕ) → IsCached c epoch block x → (e.epoch ≡ epoch → e.block ≡ block → x ≤ e.part) → IsCached (put_entry e c) epoch block x
put_entry-IsCached e c epoch block x h later =
    elim (put_entry-In_old e c h.entry h.there) [
      | inl t ↦
          let p = same_place_parts e h.entry t in
          let a : e.epoch ≡ epoch = p.0 ∙ h.same_epoch in
          let b : e.block ≡ block = p.1 ∙ h.same_block in
          record { entry = e; there = put_entry-In_new e c; same_block = b; same_epoch = a; later = later a b }
      | inr i ↦
          record { entry = h.entry; there = i; same_block = h.same_block; same_epoch = h.same_epoch; later = h.later }
    ]

-- ---- entries go in

pub In-put_all : (es c : List Entry) (f : Entry) → In f (put_all es c) → In f es ⊎ In f c
In-put_all [] c f h = inr h
In-put_all (e ∷ es) c f h =
    elim (In-put_all es (put_entry e c) f h) [
      | inl i ↦ inl (inr i)
      | inr j ↦ elim (In-put_entry e c f j) [ inl q ↦ inl (inl (sym q)) | inr k ↦ inr k.0 ]
    ]

pub AreUnique-put_all : (es c : List Entry) → AreUnique c → AreUnique (put_all es c)
AreUnique-put_all [] c u = u
AreUnique-put_all (e ∷ es) c u = AreUnique-put_all es (put_entry e c) (AreUnique-put_entry e c u)

-- the new entries are of one epoch, and no entry is of a later one
pub AreSorted-put_all : (n : ℕ) (es c : List Entry) → AreSorted c → ((e : Entry) → In e es → e.epoch ≡ n) → ((f : Entry) → In f c → f.epoch ≤ n) → AreSorted (put_all es c)
AreSorted-put_all n [] c s new old = s
AreSorted-put_all n (e ∷ es) c s new old =
    let here = new e (inl refl) in
    AreSorted-put_all n es (put_entry e c)
    (AreSorted-put_entry e c s (λ f i. subst (λ m. f.epoch ≤ m) (sym here) (old f i)))
    (λ f i. new f (inr i))
    (λ f i.
    elim (In-put_entry e c f i) [
      | inl q ↦ let k : f.epoch ≡ n = ap (λ (g : Entry). g.epoch) q ∙ here in omega (arith, k)
      | inr k ↦ old f k.0
    ])

pub put_all-IsCached : (es c : List Entry) (epoch block x : ℕ) → IsCached c epoch block x → ((e : Entry) → In e es → e.epoch ≡ epoch → e.block ≡ block → x ≤ e.part) → IsCached (put_all es c) epoch block x
put_all-IsCached [] c epoch block x h later = h
put_all-IsCached (e ∷ es) c epoch block x h later =
    put_all-IsCached es (put_entry e c) epoch block x
    (put_entry-IsCached e c epoch block x h (later e (inl refl)))
    (λ f i. later f (inr i))

-- each entry that went in is covered, where their places rise
pub put_all-In_new : (es c : List Entry) (f : Entry) → IsAscending (λ (e : Entry). e.part) es → In f es → IsCached (put_all es c) f.epoch f.block f.part
put_all-In_new [] c f a i = absurd i
put_all-In_new (e ∷ es) c f a (inl q) =
    let here : IsCached (put_entry e c) e.epoch e.block e.part =
    record { entry = e; there = put_entry-In_new e c; same_block = refl; same_epoch = refl; later = omega arith } in
    subst (λ (g : Entry). IsCached (put_all (e ∷ es) c) g.epoch g.block g.part) q
    (put_all-IsCached es (put_entry e c) e.epoch e.block e.part here (λ g j p r. let lt = a.0 g j in omega (arith, lt)))
put_all-In_new (e ∷ es) c f a (inr i) = put_all-In_new es (put_entry e c) f a.1 i

-- ---- the entries of one command

pub In-entries : (epoch place : ℕ) (ps : List Part) (e : Entry) → In e (entries epoch place ps)
    → (i : ℕ) × (p : Part) × (slice_get ps i ≡ Some p) × (e.epoch ≡ epoch) × (e.block ≡ p.block) × (e.part ≡ place + i)
In-entries epoch place [] e h = absurd h
In-entries epoch place (p ∷ ps) e (inl q) =
    (0, p, refl, ap (λ (f : Entry). f.epoch) (sym q), ap (λ (f : Entry). f.block) (sym q), let k : e.part ≡ place = ap (λ (f : Entry). f.part) (sym q) in omega (arith, k))
In-entries epoch place (p ∷ ps) e (inr h) =
    let r = In-entries epoch (place + 1) ps e h in
    (suc r.0, r.1, r.2, r.3, r.4, let k = r.5 in omega (arith, k))

pub entries-In : (epoch place : ℕ) (ps : List Part) (i : ℕ) (p : Part) → slice_get ps i ≡ Some p
    → In (record { epoch = epoch; block = p.block; part = place + i }) (entries epoch place ps)
entries-In epoch place [] i p h = absurd (none-some p h)
entries-In epoch place (q ∷ ps) zero p h =
    let same : q ≡ p = same_Some q p h in
    let here : place ≡ place + 0 = omega arith in
    inl (λ j. record { epoch = epoch; block = (same j).block; part = here j })
entries-In epoch place (q ∷ ps) (suc i) p h =
    let k : (place + 1) + i ≡ place + suc i = omega arith in
    inr (subst (λ n. In (record { epoch = epoch; block = p.block; part = n }) (entries epoch (place + 1) ps)) k (entries-In epoch (place + 1) ps i p h))

pub IsAscending-entries : (epoch place : ℕ) (ps : List Part) → IsAscending (λ (e : Entry). e.part) (entries epoch place ps)
IsAscending-entries epoch place [] = tt
IsAscending-entries epoch place (p ∷ ps) =
    (λ e i. let r = In-entries epoch (place + 1) ps e i in let k = r.5 in omega (arith, k), IsAscending-entries epoch (place + 1) ps)

pub length-entries : (epoch place : ℕ) (ps : List Part) → length (entries epoch place ps) ≡ length ps
length-entries epoch place [] = refl
length-entries epoch place (p ∷ ps) = ap suc (length-entries epoch (place + 1) ps)

-- ---- the oldest entries

pub In-oldest : (c : List Entry) (e : Entry) → AreSorted c → In e (oldest c) → In e c × ((f : Entry) → In f c → e.epoch ≤ f.epoch)
In-oldest [] e s h = absurd h
In-oldest (x ∷ xs) e s h =
    let i = In-filter (λ (f : Entry). f.epoch == x.epoch) (x ∷ xs) e h in
    let same = eqb-true e.epoch x.epoch i.1 in (
      i.0,
      λ f j.
          elim j [
            | inl q ↦ let k : x.epoch ≡ f.epoch = ap (λ (g : Entry). g.epoch) q in omega (arith, k, same)
            | inr k ↦ let le = s.0 f k in omega (arith, le, same)
          ],
    )

pub oldest_some : (c : List Entry) → 0 < length c → 0 < length (oldest c)
oldest_some [] h = absurd (omega arith)
oldest_some (x ∷ xs) h = rw (eq-eqb x.epoch x.epoch refl) (omega arith)

-- ---- an entry leaves

pub In-without_entry : (e : Entry) (c : List Entry) (f : Entry) → In f (without_entry e c) → In f c × (same_place e f ≡ false)
In-without_entry e c f h =
    let i = In-filter (λ (g : Entry). not (same_place e g)) c f h in (i.0, not-true (same_place e f) i.1)

pub without_entry-In : (e : Entry) (c : List Entry) (f : Entry) → In f c → same_place e f ≡ false → In f (without_entry e c)
without_entry-In e c f i n = filter-In (λ (g : Entry). not (same_place e g)) c f i (rw n refl)

pub AreUnique-filter : (p : Entry → Bool) (c : List Entry) → AreUnique c → AreUnique (filter p c)
AreUnique-filter p [] u = tt
AreUnique-filter p (x ∷ xs) u =
    elim (cases_Bool (p x)) [
      | inl t ↦ rw t ((λ f i. u.0 f (In-filter p xs f i).0, AreUnique-filter p xs u.1))
      | inr n ↦ rw n (AreUnique-filter p xs u.1)
    ]

pub AreSorted-filter : (p : Entry → Bool) (c : List Entry) → AreSorted c → AreSorted (filter p c)
AreSorted-filter p [] s = tt
AreSorted-filter p (x ∷ xs) s =
    elim (cases_Bool (p x)) [
      | inl t ↦ rw t ((λ f i. s.0 f (In-filter p xs f i).0, AreSorted-filter p xs s.1))
      | inr n ↦ rw n (AreSorted-filter p xs s.1)
    ]

-- two entries are one, or of different places
pub same_or_apart : (c : List Entry) (e f : Entry) → AreUnique c → In e c → In f c → (e ≡ f) ⊎ (same_place e f ≡ false)
same_or_apart [] e f u i j = absurd i
same_or_apart (x ∷ xs) e f u (inl p) (inl q) = inl (sym p ∙ q)
same_or_apart (x ∷ xs) e f u (inl p) (inr j) = inr (subst (λ g. same_place g f ≡ false) p (u.0 f j))
same_or_apart (x ∷ xs) e f u (inr i) (inl q) =
    inr (same_place_sym f e (subst (λ g. same_place g e ≡ false) q (u.0 e i)))
same_or_apart (x ∷ xs) e f u (inr i) (inr j) = same_or_apart xs e f u.1 i j

pub without_entry_cases : (e : Entry) (c : List Entry) (f : Entry) → AreUnique c → In e c → In f c → (e ≡ f) ⊎ In f (without_entry e c)
without_entry_cases e c f u i j =
    elim (same_or_apart c e f u i j) [ inl q ↦ inl q | inr n ↦ inr (without_entry-In e c f j n) ]

-- a removal leaves what is of another place
pub remove_is_without : (c : List Entry) (i : ℕ) (e : Entry) → AreUnique c → slice_get c i ≡ Some e → remove c i ≡ without_entry e c
remove_is_without [] i e u h = absurd (none-some e h)
remove_is_without (x ∷ xs) zero e u h =
    let same : x ≡ e = same_Some x e h in
    let gone : same_place e x ≡ true = same_place_from e x (ap (λ (g : Entry). g.epoch) (sym same)) (ap (λ (g : Entry). g.block) (sym same)) in
    let kept : filter (λ (g : Entry). not (same_place e g)) xs ≡ xs =
    filter_all (λ (g : Entry). not (same_place e g)) xs (λ f j. ap not (subst (λ g. same_place g f ≡ false) same (u.0 f j))) in
    rw gone (sym kept)
remove_is_without (x ∷ xs) (suc i) e u h =
    let other : same_place e x ≡ false = same_place_sym x e (u.0 e (slice_get-In xs i e h)) in
    rw other (ap (λ l. x ∷ l) (remove_is_without xs i e u.1 h))

-- ---- how many there are

pub length-put_entry : (e : Entry) (c : List Entry) → length (put_entry e c) ≤ length c + 1
length-put_entry e c =
    elim (cases_Bool (list_any (same_place e) c)) [
      | inl t ↦ let k : length (put_entry e c) ≡ length c = ap length (put_entry_found e c t) ∙ length-map c (renewed e) in omega (arith, k)
      | inr n ↦ let k : length (put_entry e c) ≡ length c + 1 = ap length (put_entry_new e c n) ∙ length_push c e in omega (arith, k)
    ]

pub length-put_all : (es c : List Entry) → length (put_all es c) ≤ length c + length es
length-put_all [] c = omega arith
length-put_all (e ∷ es) c =
    let one = length-put_entry e c in
    let rest = length-put_all es (put_entry e c) in
    omega arith
