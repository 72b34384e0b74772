-- What a call notes in the running transaction.
use Rattle.std.proofs.Common.{◌≡◌, ℕ, zero, suc, ◌+◌, ◌≤◌, ◌==◌, ◌||◌, Bool, true, false, not, if◌then◌else◌, List, [], ◌∷◌, length, refl, sym, ap, subst, ◌∙◌, inl, ⊎_elim, arith}
use Rattle.blk_base.specs.Members.{In}
use Rattle.number_sets.specs.Sets.{has, with, with_all, without_all}
use Rattle.number_sets.specs.laws.Members.{In-with, In-without_all}
use Rattle.journal_ring.specs.running.Running.{Running, touched_one, revoked_one, all_touched, all_revoked, all_changed, all_noted}

-- ---- one after the other

pub touched_all : (blocks : List ℕ) (r : Running) → all_touched blocks r ≡ record r { touched = with_all r.touched blocks }
touched_all [] r = refl
touched_all (b ∷ bs) r = touched_all bs (touched_one b r)

-- numbers are taken away one after the other
pub without_more : (b : ℕ) (bs xs : List ℕ) → without_all xs (b ∷ bs) ≡ without_all (without_all xs (b ∷ [])) bs
without_more b bs [] = refl
without_more b bs (x ∷ xs) = by (without_more b bs xs) (b == x) refl
  where
    by : without_all xs (b ∷ bs) ≡ without_all (without_all xs (b ∷ [])) bs → (t : Bool) → (b == x) ≡ t
        → (if not (t || has bs x) then x ∷ without_all xs (b ∷ bs) else without_all xs (b ∷ bs)) ≡ without_all (if not (t || false) then x ∷ without_all xs (b ∷ []) else without_all xs (b ∷ [])) bs
    by rest true e = rest
    by rest false e = ap (λ l. if not (has bs x) then x ∷ l else l) rest

without_none : (xs : List ℕ) → without_all xs [] ≡ xs
without_none [] = refl
without_none (x ∷ xs) = ap (λ l. x ∷ l) (without_none xs)

pub revoked_all : (blocks : List ℕ) (r : Running) → all_revoked blocks r ≡ record r { touched = without_all r.touched blocks; revoked = with_all r.revoked blocks }
revoked_all [] r = ap (λ l. record r { touched = l }) (sym (without_none r.touched))
revoked_all (b ∷ bs) r =
    revoked_all bs (revoked_one b r)
    ∙ ap (λ l. record r { touched = l; revoked = with_all (with r.revoked b) bs }) (sym (without_more b bs r.touched))

pub changed_all : (nodes : List ℕ) (r : Running) → all_changed nodes r ≡ record r { changed = with_all r.changed nodes }
changed_all [] r = refl
changed_all (f ∷ fs) r = changed_all fs (record r { changed = with r.changed f })

pub noted_all : (blocks revoked nodes : List ℕ) (r : Running) → all_noted blocks revoked nodes r ≡ record {
  number = r.number;
  touched = without_all (with_all r.touched blocks) revoked;
  revoked = with_all r.revoked revoked;
  changed = with_all r.changed nodes;
  wanted = r.wanted;
}
noted_all blocks revoked nodes r =
    ap (λ x. all_changed nodes (all_revoked revoked x)) (touched_all blocks r)
    ∙ ap (all_changed nodes) (revoked_all revoked (record r { touched = with_all r.touched blocks }))
    ∙ changed_all nodes (record r { touched = without_all (with_all r.touched blocks) revoked; revoked = with_all r.revoked revoked })

-- ---- touched and revoked blocks

abbrev pub IsApart : Running → Type 0
IsApart r = (b : ℕ) → In b r.touched → In b r.revoked → ⊥

pub apart_touched : (b : ℕ) (r : Running) → IsApart r → (In b r.revoked → ⊥) → IsApart (touched_one b r)
apart_touched b r a free x i j = ⊎_elim (λ t. a x t j) (λ e. free (subst (λ y. In y r.revoked) (sym e) j)) (In-with r.touched b x i)

pub apart_revoked : (b : ℕ) (r : Running) → IsApart r → IsApart (revoked_one b r)
apart_revoked b r a x i j =
    let t = In-without_all r.touched (b ∷ []) x i in
    ⊎_elim (λ k. a x t.0 k) (λ e. t.1 (inl e)) (In-with r.revoked b x j)
