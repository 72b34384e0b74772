-- Requests that wait in the scheduler: which may leave once one more was accepted, and that it is the last of these.
use Rattle.std.proofs.Common.{◌≡◌, ℕ, ◌<◌, ◌≤◌, ◌==◌, ◌&&◌, ◌||◌, not, Bool, true, false, List, [], ◌∷◌, ◌++◌, filter, length, nat_lt, Some, slice_get, if◌then◌else◌, refl, sym, ap, ap₂, subst, ◌∙◌, inl, inr, arith}
use Rattle.std.specs.List.{list_any, list_all}
use Rattle.std.proofs.lemmas.Bool.{cases_Bool, and_left, le-ltb, lt-ltb, eq-eqb, eqb-true, ne_eqb, not_from_false}
use Rattle.std.proofs.lemmas.List.{append-nil, length_push}
use Rattle.std.proofs.lemmas.List.Elements.{filter-append}
use Rattle.std.proofs.lemmas.List.Folds.{list_any-append, list_all-append}
use Rattle.blk_base.specs.Members.{In}
use Rattle.blk_base.specs.laws.Members.{filter_all, slice_get-push}
use Rattle.order_model.specs.declared.request.Kind.{Kind}
use Rattle.order_model.specs.declared.request.Kind.TheVariants.{Put, Flush}
use Rattle.order_model.specs.OrderClosed.{is_flush}
use Rattle.schedulers.specs.reassign.Epoch.{Waiting, have_one_block, stands_before, may_leave, eligible, without}
use Rattle.exact_order.specs.Events.{with_block}

and_true : (a : Bool) → (a && true) ≡ a
and_true true = refl
and_true false = refl

or_false : (a : Bool) → (a || false) ≡ a
or_false true = refl
or_false false = refl

or_true : (a : Bool) → (a || true) ≡ true
or_true true = refl
or_true false = refl

neither : (a b : Bool) → (not a && not b) ≡ not (a || b)
neither true b = refl
neither false b = refl

filter-same : {X : Type 0} (p q : X → Bool) (xs : List X) → ((x : X) → In x xs → p x ≡ q x) → filter p xs ≡ filter q xs
filter-same p q [] h = refl
filter-same p q (x ∷ xs) h =
    rw (h x (inl refl)) (ap (λ l. if q x then x ∷ l else l) (filter-same p q xs (λ y i. h y (inr i))))

-- ---- blocks of those that wait

-- it is a put of this block
abbrev pub has_block : Kind → ℕ → Bool
has_block (Put a body) block = a == block
has_block Flush block = false

-- a put of this block waits
abbrev pub waits_at : List Waiting → ℕ → Bool
waits_at ws block = list_any (λ (v : Waiting). has_block v.request.kind block) ws

same_block : (k : Kind) (block : ℕ) (body : List ℕ) → have_one_block k (Put block body) ≡ has_block k block
same_block (Put a other) block body = refl
same_block Flush block body = refl

-- all of them were accepted before
abbrev pub AreBelow : ℕ → List Waiting → Type 0
AreBelow n ws = (v : Waiting) → In v ws → v.number < n

-- none of them is a flush
abbrev pub ArePuts : List Waiting → Type 0
ArePuts ws = (v : Waiting) → In v ws → is_flush v.request.kind ≡ false

-- ---- one more

-- what was accepted later stands before nothing
older : (ws : List Waiting) (w v : Waiting) → is_flush v.request.kind ≡ false → v.number ≤ w.number → may_leave (ws ++ w ∷ []) v ≡ may_leave ws v
older ws w v put le =
    let never : stands_before w v ≡ false = and_left (nat_lt w.number v.number) (have_one_block w.request.kind v.request.kind) (le-ltb w.number v.number le) in
    rw put
    (list_all-append (λ u. not (stands_before u v)) ws (w ∷ [])
    ∙ ap (λ b. list_all (λ u. not (stands_before u v)) ws && (not b && true)) never
    ∙ and_true (list_all (λ u. not (stands_before u v)) ws))

module _ (w : Waiting) (block : ℕ) (body : List ℕ) (put : w.request.kind ≡ Put block body) where
  stands : (u : Waiting) → u.number < w.number → stands_before u w ≡ has_block u.request.kind block
  stands u lt =
      ap₂ (λ b k. b && have_one_block u.request.kind k) (lt-ltb u.number w.number lt) put
      ∙ same_block u.request.kind block body

  none_before : (ws : List Waiting) → AreBelow w.number ws → list_all (λ u. not (stands_before u w)) ws ≡ not (waits_at ws block)
  none_before [] below = refl
  none_before (u ∷ us) below =
      ap₂ (λ a b. not a && b) (stands u (below u (inl refl))) (none_before us (λ v h. below v (inr h)))
      ∙ neither (has_block u.request.kind block) (waits_at us block)

  -- the last one may leave where none of its block waits
  newest : (ws : List Waiting) → AreBelow w.number ws → may_leave (ws ++ w ∷ []) w ≡ not (waits_at ws block)
  newest ws below =
      let never : stands_before w w ≡ false = and_left (nat_lt w.number w.number) (have_one_block w.request.kind w.request.kind) (le-ltb w.number w.number (omega arith)) in
      let kind : is_flush w.request.kind ≡ false = ap is_flush put in
      rw kind
      (list_all-append (λ u. not (stands_before u w)) ws (w ∷ [])
      ∙ ap (λ b. list_all (λ u. not (stands_before u w)) ws && (not b && true)) never
      ∙ and_true (list_all (λ u. not (stands_before u w)) ws)
      ∙ none_before ws below)

  old-eligible : (ws : List Waiting) → AreBelow w.number ws → ArePuts ws → filter (may_leave (ws ++ w ∷ [])) ws ≡ eligible ws
  old-eligible ws below puts =
      filter-same (may_leave (ws ++ w ∷ [])) (may_leave ws) ws
      (λ v h. older ws w v (puts v h) (let lt = below v h in omega (arith, lt)))

  -- it is the last of those that may leave
  pub eligible-more : (ws : List Waiting) → AreBelow w.number ws → ArePuts ws → waits_at ws block ≡ false → eligible (ws ++ w ∷ []) ≡ eligible ws ++ w ∷ []
  eligible-more ws below puts free =
      let goes : may_leave (ws ++ w ∷ []) w ≡ true = newest ws below ∙ ap not free in
      let last : filter (may_leave (ws ++ w ∷ [])) (w ∷ []) ≡ w ∷ [] = rw goes refl in
      filter-append (may_leave (ws ++ w ∷ [])) ws (w ∷ [])
      ∙ ap₂ (λ (a b : List Waiting). a ++ b) (old-eligible ws below puts) last

  -- it may not leave
  pub eligible-same : (ws : List Waiting) → AreBelow w.number ws → ArePuts ws → waits_at ws block ≡ true → eligible (ws ++ w ∷ []) ≡ eligible ws
  eligible-same ws below puts taken =
      let stays : may_leave (ws ++ w ∷ []) w ≡ false = newest ws below ∙ ap not taken in
      let last : filter (may_leave (ws ++ w ∷ [])) (w ∷ []) ≡ [] = rw stays refl in
      filter-append (may_leave (ws ++ w ∷ [])) ws (w ∷ [])
      ∙ ap₂ (λ (a b : List Waiting). a ++ b) (old-eligible ws below puts) last
      ∙ append-nil (eligible ws)

  waits_at-more : (ws : List Waiting) (b : ℕ) → waits_at (ws ++ w ∷ []) b ≡ (waits_at ws b || (block == b))
  waits_at-more ws b =
      list_any-append (λ (v : Waiting). has_block v.request.kind b) ws (w ∷ [])
      ∙ ap (λ k. waits_at ws b || (has_block k b || false)) put
      ∙ ap (λ x. waits_at ws b || x) (or_false (block == b))

-- the last one leaves
pub without-last : (ws : List Waiting) (w : Waiting) → AreBelow w.number ws → without w.number (ws ++ w ∷ []) ≡ ws
without-last ws w below =
    let p : Waiting → Bool = λ v. not (v.number == w.number) in
    let same : (w.number == w.number) ≡ true = eq-eqb w.number w.number refl in
    let last : filter p (w ∷ []) ≡ [] = rw same refl in
    filter-append p ws (w ∷ [])
    ∙ ap₂ (λ (a b : List Waiting). a ++ b)
    (filter_all p ws (λ v h. not_from_false (v.number == w.number) (ne_eqb v.number w.number (λ e. let lt = below v h in omega (arith, lt, e)))))
    last
    ∙ append-nil ws

-- ---- the different blocks of those that wait

-- these are the blocks of those that wait, each once, and one of each may leave
pub record AreHeld (held : List ℕ) (ws : List Waiting) : Type 0 where
  pub leave : length (eligible ws) ≡ length held
  pub blocks : (b : ℕ) → list_any (λ a. a == b) held ≡ waits_at ws b

pub none-held : AreHeld [] []
none-held = record { leave = refl; blocks = λ b. refl }

module _ (held : List ℕ) (ws : List Waiting) (w : Waiting) (block : ℕ) (body : List ℕ) (put : w.request.kind ≡ Put block body) (below : AreBelow w.number ws) (puts : ArePuts ws) (h : AreHeld held ws) where
  held-old : list_any (λ a. a == block) held ≡ true → AreHeld held (ws ++ w ∷ [])
  held-old t =
      let taken : waits_at ws block ≡ true = sym (h.blocks block) ∙ t in
      record {
        leave = ap length (eligible-same w block body put ws below puts taken) ∙ h.leave;
        blocks = λ b.
            let more = waits_at-more w block body put ws b in
            elim (cases_Bool (block == b)) [
              | inl same ↦
                  let there : waits_at ws b ≡ true = subst (λ x. waits_at ws x ≡ true) (eqb-true block b same) taken in
                  h.blocks b ∙ there ∙ sym (more ∙ ap (λ x. waits_at ws b || x) same ∙ or_true (waits_at ws b))
              | inr other ↦ h.blocks b ∙ sym (more ∙ ap (λ x. waits_at ws b || x) other ∙ or_false (waits_at ws b))
            ];
      }

  or_swap : (a b : Bool) → (a || b) ≡ (b || a)
  or_swap true true = refl
  or_swap true false = refl
  or_swap false true = refl
  or_swap false false = refl

  held-new : list_any (λ a. a == block) held ≡ false → AreHeld (block ∷ held) (ws ++ w ∷ [])
  held-new f =
      let free : waits_at ws block ≡ false = sym (h.blocks block) ∙ f in
      let more = ap length (eligible-more w block body put ws below puts free) ∙ length_push (eligible ws) w in
      let same = h.leave in
      record {
        leave = omega (arith, more, same);
        blocks = λ b.
            ap (λ x. (block == b) || x) (h.blocks b)
            ∙ or_swap (block == b) (waits_at ws b)
            ∙ sym (waits_at-more w block body put ws b);
      }

  -- one more that is to wait
  pub held-more : AreHeld (with_block held (Put block body)) (ws ++ w ∷ [])
  held-more =
      elim (cases_Bool (list_any (λ a. a == block) held)) [
        | inl t ↦ rw t (held-old t)
        | inr f ↦ rw f (held-new f)
      ]

-- the one that was accepted last stands behind the others that may leave
pub picked-last : (ws : List Waiting) (w : Waiting) (held : List ℕ) → eligible (ws ++ w ∷ []) ≡ eligible ws ++ w ∷ [] → AreHeld held ws → slice_get (eligible (ws ++ w ∷ [])) (length held) ≡ Some w
picked-last ws w held more h =
    ap₂ (λ l i. slice_get l i) more (sym h.leave) ∙ slice_get-push (eligible ws) w
