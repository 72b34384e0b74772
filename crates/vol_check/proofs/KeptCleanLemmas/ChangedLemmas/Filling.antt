-- Which places get a zone on the way to a block, and what is written for each.
use Rattle.std.specs.Prelude.{◌≡◌, ◌≢◌, ◌-◌, ◌/◌, ◌%◌, ◌<◌, ◌⊎◌, nat_eq, ℕ, Bool, true, false, List, [], ◌∷◌, ◌++◌, length, refl}
use Rattle.std.proofs.Common.{sym, ap, subst, ◌∙◌, inl, inr, arith}
use Rattle.std.proofs.lemmas.Bool.{cases_Bool, eqb-true, eqb-false, ne_eqb}
use Rattle.blk_base.specs.Members.{In}
use Rattle.minix_layout.specs.declared.division.Geometry.{Geometry}
use Rattle.minix_layout.specs.Geometry.{IsSound}
use Rattle.volume_model.specs.Edits.{Edit, touched_by_all}
use Rattle.volume_model.specs.MapBlock.{OpenInode, own_of, TakenZones, taken_at, entry_edits, slot_written, step_edits, all_edits, get_step, get_steps}
use Rattle.volume_model.specs.Volume.{Place, block, indirect, double, inner}
use Rattle.volume_model.specs.Ways.{Home, slot, entry, nowhere, home, way}
use Rattle.volume_model.specs.laws.MapBlock.{IsFit, IsFresh, IsReached, IsChain, Got, one_step, fresh_rest, there_now, next_reached, all_steps}
use Rattle.volume_model.specs.laws.OnWay.{way-direct, way-single, way-twice}
use Rattle.volume_model.specs.laws.Ways.{direct, single, twice, past, range, home-direct, home-single, home-inner, home-twice}

either : (g : Geometry) (b : ℕ) (es fs : List Edit) → In b (touched_by_all g (es ++ fs)) → In b (touched_by_all g es) ⊎ In b (touched_by_all g fs)
either g b [] fs i = inr i
either g b (e ∷ es) fs (inl q) = inl (inl q)
either g b (e ∷ es) fs (inr i) = elim (either g b es fs i) [ inl j ↦ inl (inr j) | inr j ↦ inr j ]

-- A place had no zone and gets one: this block is the zone, or the zone of numbers in which its number is written.
abbrev pub Fills : (Place → ℕ) → (Place → ℕ) → TakenZones → List Place → ℕ → Type 0
Fills own next t xs b = (y : Place) × In y xs × (own y ≡ 0) × ((taken_at t y ≡ b) ⊎ ((h : Place) × (k : ℕ) × (home y ≡ entry h k) × (next h ≢ 0) × (next h ≡ b)))

module _ (g : Geometry) (sound : IsSound g) (t : TakenZones) (content : List ℕ) (size : length content ≡ 1024) where
  step_fills : (s u : OpenInode) (x : Place) (xs : List Place) (b : ℕ) → IsReached (own_of s) x → Got (own_of s) (own_of u) t (x ∷ xs) → In b (touched_by_all g (step_edits t content s x)) → Fills (own_of s) (own_of u) t (x ∷ xs) b
  step_fills s u x xs b r got i =
      elim (cases_Bool (nat_eq (own_of s x) 0)) [
        | inr n ↦ absurd (rw n at i)
        | inl e ↦ by (eqb-true _ _ e) (home x) refl (rw e at i)
      ]
    where
      by : own_of s x ≡ 0 → (h : Home) → home x ≡ h → (taken_at t x ≡ b) ⊎ In b (touched_by_all g (entry_edits s h (taken_at t x))) → Fills (own_of s) (own_of u) t (x ∷ xs) b
      by none h at (inl q) = (x, inl refl, none, inl q)
      by none (entry h k) at (inr (inl q)) =
          let some = r.there h k at in
          let stays = got.kept h some in
          (x, inl refl, none, inr (h, k, at, (λ no_zone. some (sym stays ∙ no_zone)), stays ∙ q))
      by none (entry h k) at (inr (inr i)) = absurd i
      by none (slot k) at (inr i) = absurd i
      by none nowhere at (inr i) = absurd i

  further : (s u : OpenInode) (next : Place → ℕ) (x : Place) (xs : List Place) (b : ℕ) → Got (own_of s) (own_of u) t (x ∷ []) → Fills (own_of u) next t xs b → Fills (own_of s) next t (x ∷ xs) b
  further s u next x xs b got w = (w.0, inr w.1, back w.0 w.2, w.3)
    where
      back : (y : Place) → own_of u y ≡ 0 → own_of s y ≡ 0
      back y none = elim (cases_Bool (nat_eq (own_of s y) 0)) [ inl z ↦ eqb-true _ _ z | inr n ↦ absurd (eqb-false _ _ n (sym (got.kept y (eqb-false _ _ n)) ∙ none)) ]

  all_fill : (s : OpenInode) (x : Place) (xs : List Place) (b : ℕ) → IsFit g s → IsFresh g (own_of s) t (x ∷ xs) → IsReached (own_of s) x → IsChain x xs →
      In b (touched_by_all g (all_edits g t content s (x ∷ xs))) → Fills (own_of s) (own_of (get_steps g t content s (x ∷ xs))) t (x ∷ xs) b
  all_fill s x [] b fit f r chain i =
      elim (either g b (step_edits t content s x) [] i) [
        | inl j ↦ step_fills s (get_steps g t content s (x ∷ [])) x [] b r (all_steps g sound t content size s x [] fit f r chain).got j
        | inr j ↦ absurd j
      ]
  all_fill s x (y ∷ xs) b fit f r chain i =
      let u = get_step g t content s x in
      let one = one_step g sound t content size s x (y ∷ xs) fit f r in
      let now = there_now g sound t content size s u x (y ∷ xs) f one.got in
      elim (either g b (step_edits t content s x) (all_edits g t content u (y ∷ xs)) i) [
        | inl j ↦ step_fills s (get_steps g t content s (x ∷ y ∷ xs)) x (y ∷ xs) b r (all_steps g sound t content size s x (y ∷ xs) fit f r chain).got j
        | inr j ↦ further s u (own_of (get_steps g t content s (x ∷ y ∷ xs))) x (y ∷ xs) b one.got
            (all_fill u y xs b one.fit (fresh_rest g sound t content size s u x (y ∷ xs) f one.got) (next_reached g sound t content size u x y chain.0.0 chain.0.1 now) chain.1 j)
      ]

  -- ---- the inode

  -- a place whose number stands in a zone of numbers leaves it
  rest_inode : (s : OpenInode) (x : Place) (xs : List Place) → IsChain x xs → (get_steps g t content s xs).inode ≡ s.inode
  rest_inode s x [] chain = refl
  rest_inode s x (y ∷ ys) chain = rest_inode (get_step g t content s y) y ys chain.1 ∙ one (nat_eq (own_of s y) 0) refl
    where
      written : slot_written s.inode (home y) (taken_at t y) ≡ s.inode
      written = ap (λ h. slot_written s.inode h (taken_at t y)) chain.0.1

      one : (b : Bool) → nat_eq (own_of s y) 0 ≡ b → (get_step g t content s y).inode ≡ s.inode
      one true e = rw e written
      one false e = rw e refl

  -- the first place stands in the inode: where it has a zone the inode stays
  first_inode : (s : OpenInode) (x : Place) (xs : List Place) → IsChain x xs → own_of s x ≢ 0 → (get_steps g t content s (x ∷ xs)).inode ≡ s.inode
  first_inode s x xs chain some = rest_inode (get_step g t content s x) x xs chain ∙ one
    where
      one : (get_step g t content s x).inode ≡ s.inode
      one = rw (ne_eqb (own_of s x) 0 some) refl

-- ---- the way to a block

-- where it begins, and that each place on it is written behind the one before
record Begins (index : ℕ) : Type 0 where
  head : Place
  tail : List Place
  is : way index ≡ head ∷ tail
  at : ℕ
  top : home head ≡ slot at
  chain : IsChain head tail

begins : (index : ℕ) → index < 262663 → Begins index
begins index high =
    elim (range index) [
      | direct low ↦ record { head = block index; tail = []; is = way-direct index low; at = index; top = home-direct index low; chain = tt }
      | single low up ↦ record { head = indirect; tail = block index ∷ []; is = way-single index low up; at = 7; top = refl; chain = ((index - 7, home-single index low up), tt) }
      | twice low up ↦ record { head = double; tail = inner ((index - 519) / 512) ∷ block index ∷ []; is = way-twice index low up; at = 8; top = refl; chain = (((index - 519) / 512, home-inner _ (omega arith)), (((index - 519) % 512, home-twice index low up), tt)) }
      | past low ↦ absurd (omega arith)
    ]

module _ (g : Geometry) (sound : IsSound g) (t : TakenZones) (content : List ℕ) (size : length content ≡ 1024) (index : ℕ) (high : index < 262663) (s : OpenInode) (fit : IsFit g s) (fresh : IsFresh g (own_of s) t (way index)) where
  begin : Begins index
  begin = begins index high

  reached : IsReached (own_of s) begin.head
  reached = record { placed = λ none. cc (sym begin.top ∙ none); there = λ h j is. absurd (cc (sym begin.top ∙ is)) }

  -- what the writes on the way touch
  pub way_fills : (b : ℕ) → In b (touched_by_all g (all_edits g t content s (way index))) → Fills (own_of s) (own_of (get_steps g t content s (way index))) t (way index) b
  way_fills b i =
      subst (λ xs. In b (touched_by_all g (all_edits g t content s xs)) → Fills (own_of s) (own_of (get_steps g t content s xs)) t xs b) (sym begin.is)
      (λ j. all_fill g sound t content size s begin.head begin.tail b fit (subst (IsFresh g (own_of s) t) begin.is fresh) reached begin.chain j) i

  -- The inode changes only where a place gets a zone whose number stands in it.
  pub way_inode : (get_steps g t content s (way index)).inode ≢ s.inode → (y : Place) × (k : ℕ) × In y (way index) × (own_of s y ≡ 0) × (home y ≡ slot k)
  way_inode other = elim (cases_Bool (nat_eq (own_of s begin.head) 0)) [
    | inl e ↦ (begin.head, begin.at, subst (In begin.head) (sym begin.is) (inl refl), eqb-true _ _ e, begin.top)
    | inr f ↦ absurd (other (ap (λ xs. (get_steps g t content s xs).inode) begin.is ∙ first_inode g sound t content size s begin.head begin.tail begin.chain (eqb-false _ _ f)))
  ]
