-- What transactions hold after each call.
use Rattle.std.proofs.Common.{◌≡◌, ℕ, ◌==◌, ◌⊎◌, Bool, true, not, List, [], ◌∷◌, refl, sym, ap, subst, ◌∙◌, inl, inr, ⊎_elim, arith, eqb-true, eq-eqb}
use Rattle.std.specs.List.{list_any}
use Rattle.std.specs.Prelude.{◌≢◌}
use Rattle.std.proofs.lemmas.Bool.{cases_eq, false≢true, ne_eqb, not_from_true, not_from_false}
use Rattle.blk_base.specs.Members.{In, IsAscending}
use Rattle.blk_base.specs.laws.Members.{IsAscending-same, In-filter, filter-In, In-list_any, list_any-In}
use Rattle.flush_actor.specs.conflicts.Conflicts.{Conflicts, holder, put_held, unhold}
use Rattle.flush_actor.specs.declared.conflicts.held.Held.{Held}
use Rattle.number_sets.specs.laws.Keyed.{In-put_by, put_by-self, put_by-In, ascending-put_by}

abbrev pub block_of : Held → ℕ
block_of h = h.block

abbrev pub held_as : ℕ → ℕ → Held
held_as k b = record { block = b; transaction = k }

pub In-hold : (hs : List Held) (k b : ℕ) (h : Held) → IsAscending block_of hs → In h (put_held hs k b) → (held_as k b ≡ h) ⊎ (In h hs × (h.block ≢ b))
In-hold hs k b h a i =
    ⊎_elim
    (λ e. inl (IsAscending-same block_of (put_held hs k b) (held_as k b) h (ascending-put_by block_of hs (held_as k b) a) (put_by-self block_of hs (held_as k b)) i (sym e)))
    (λ ne. ⊎_elim (λ e. inl e) (λ j. inr (j, ne)) (In-put_by block_of hs (held_as k b) h i))
    (cases_eq h.block b)

pub hold-In : (hs : List Held) (k b : ℕ) (h : Held) → (held_as k b ≡ h) ⊎ (In h hs × (h.block ≢ b)) → In h (put_held hs k b)
hold-In hs k b h = ⊎_elim (λ e. subst (λ x. In x (put_held hs k b)) e (put_by-self block_of hs (held_as k b))) (λ j. put_by-In block_of hs (held_as k b) h j.0 j.1)

-- an element that does not belong to transaction k
abbrev other : ℕ → Held → Bool
other k h = not (h.transaction == k)

pub In-unhold : (k : ℕ) (c : Conflicts) (h : Held) → In h (unhold k c).held → In h c.held × (h.transaction ≢ k)
In-unhold k c h i =
    let j = In-filter (other k) c.held h i in
    (j.0, λ e. false≢true (sym (not_from_true (h.transaction == k) (eq-eqb h.transaction k e)) ∙ j.1))

pub unhold-In : (k : ℕ) (c : Conflicts) (h : Held) → In h c.held × (h.transaction ≢ k) → In h (unhold k c).held
unhold-In k c h i = filter-In (other k) c.held h i.0 (not_from_false (h.transaction == k) (ne_eqb h.transaction k i.1))

-- the holder of a block that is held
pub holder_of : (hs : List Held) (h : Held) → IsAscending block_of hs → In h hs → holder hs h.block ≡ h.transaction
holder_of [] h a i = absurd i
holder_of (x ∷ xs) h a (inl e) = rw (eq-eqb x.block h.block (ap block_of e)) (ap (λ (g : Held). g.transaction) e)
holder_of (x ∷ xs) h a (inr i) = let less = a.0 h i in rw (ne_eqb x.block h.block (λ d. omega (arith, less, d))) (holder_of xs h a.1 i)

-- a block is held by an element, and an element holds its block
pub held_by : (hs : List Held) (b : ℕ) → list_any (λ (h : Held). h.block == b) hs ≡ true → (h : Held) × In h hs × (h.block ≡ b)
held_by hs b t = let i = In-list_any (λ (h : Held). h.block == b) hs t in (i.0, i.1, eqb-true i.0.block b i.2)

pub holds_it : (hs : List Held) (h : Held) → In h hs → list_any (λ (g : Held). g.block == h.block) hs ≡ true
holds_it hs h i = list_any-In (λ (g : Held). g.block == h.block) hs h i (eq-eqb h.block h.block refl)
