-- Each step of a pass keeps the rule.
use Rattle.std.proofs.Common.{◌≡◌, ◌≢◌, ℕ, zero, suc, true, true≢false, List, [], ◌∷◌, ◌++◌, length, set, take, sym, refl, ap, ◌∙◌, subst, ⊎_elim, append_assoc}
use Rattle.std.proofs.Math.Seq.{take-append_seam}
use mathlib.Core.Option.{some, some-ne-none}
use lib.ListN.{get_elem?}
use Rattle.crossbeam_queue.specs.Fifo.{Pushes, Pops, Forks, Merges, Learns}
use Rattle.crossbeam_queue.proofs.Lists.{at_set, at_snoc}
use Rattle.order_model.specs.Carrying.{IsPrefixOf}
use Rattle.schedulers.specs.declared.dispatch.rule.PassView.{PassView}
use Rattle.schedulers.specs.dispatch.Rule.{pass_view, producing, consuming, whole, spent, Knows, InOrder}

module _ {T : Type 0} where
  at_end : (l : List (PassView T)) (a b : PassView T) (j : ℕ) → get_elem? l j ≢ some b → get_elem? (l ++ a ∷ []) j ≡ some b → j ≡ length l
  at_end [] a b zero n e = refl
  at_end [] a b (suc j) n e = absurd (some-ne-none b (sym e))
  at_end (x ∷ xs) a b zero n e = absurd (n e)
  at_end (x ∷ xs) a b (suc j) n e = ap suc (at_end xs a b j n e)

  abbrev All : (ℕ → PassView T → Type 0) → List (PassView T) → Type 0
  All F views = (number : ℕ) (v : PassView T) → get_elem? views number ≡ some v → F number v

  all_set : (F : ℕ → PassView T → Type 0) (views : List (PassView T)) (number : ℕ) (w : PassView T) → F number w → ((j : ℕ) (u : PassView T) → j ≢ number → get_elem? views j ≡ some u → F j u) → All F (set views number w)
  all_set F views number w mine others j u e = ⊎_elim (λ (x : (j ≡ number) × (w ≡ u)). subst (λ (y : ℕ × PassView T). F y.0 y.1) (λ i. (sym x.0 i, x.1 i)) mine)
      (λ (x : (j ≢ number) × (get_elem? views j ≡ some u)). others j u x.0 x.1) (at_set views number j w u e)

  -- the first pass of an empty queue
  pub begins : InOrder {T = T} [] (whole [] [] ∷ [])
  begins = (0, 0, [], [], refl, all_set (Knows {T = T} 0 0 [] []) (whole [] [] ∷ []) 0 (whole [] []) ((λ _. (refl, refl)), λ _. (refl, refl)) (λ j u other e. absurd (other (at_end [] _ u j (λ x. some-ne-none u (sym x)) e))))

  pub sends : (n number : ℕ) (v : PassView T) (x : T) → v.puts ≡ true → Pushes InOrder n number v x (λ w. w ≡ pass_view v.puts v.takes (v.sent ++ x ∷ []) v.taken)
  sends n number v x may items views _ h at = let w : PassView T = pass_view v.puts v.takes (v.sent ++ x ∷ []) v.taken in let mine = h.5 number v at in let sent = h.2 ++ x ∷ [] in (
    w,
    (
      h.0,
      h.1,
      sent,
      h.3,
      ap (λ l. l ++ x ∷ []) h.4 ∙ append_assoc h.3 items (x ∷ []),
      all_set (Knows h.0 h.1 sent h.3) views number w ((λ _. ((mine.0 may).0, ap (λ l. l ++ x ∷ []) (mine.0 may).1)), mine.1)
          (λ j u other e. ((λ p. absurd (other (((h.5 j u e).0 p).0 ∙ sym (mine.0 may).0))), (h.5 j u e).1)),
    ),
    refl,
  )

  pub takes_one : (number : ℕ) (v : PassView T) → v.takes ≡ true → Pops InOrder number v (λ x w. w ≡ pass_view v.puts v.takes v.sent (v.taken ++ x ∷ []))
  takes_one number v may x items views h at = let w : PassView T = pass_view v.puts v.takes v.sent (v.taken ++ x ∷ []) in let mine = h.5 number v at in let taken = h.3 ++ x ∷ [] in (
    w,
    (
      h.0,
      h.1,
      h.2,
      taken,
      h.4 ∙ sym (append_assoc h.3 (x ∷ []) items),
      all_set (Knows h.0 h.1 h.2 taken) views number w (mine.0, λ _. ((mine.1 may).0, ap (λ l. l ++ x ∷ []) (mine.1 may).1))
          (λ j u other e. ((h.5 j u e).0, λ p. absurd (other (((h.5 j u e).1 p).0 ∙ sym (mine.1 may).0)))),
    ),
    refl,
  )

  -- the first pass becomes the producing one, and a new one consumes
  pub splits : (number : ℕ) (v : PassView T) → v.puts ≡ true → v.takes ≡ true → Forks InOrder number v (producing v.sent) (consuming v.taken)
  splits number v a b items views h at = let l : PassView T = producing v.sent in let r : PassView T = consuming v.taken in let mine = h.5 number v at in let vs : List (PassView T) = set views number l in
      let Old : ℕ → PassView T → Type 0 = λ j u. (u.puts ≡ true → (j ≡ h.0) × (u.sent ≡ h.2)) × (u.takes ≢ true) in
      let old : All Old vs = all_set Old views number l ((λ _. mine.0 a), λ p. true≢false (sym p)) (λ j u other e. ((h.5 j u e).0, λ p. other (((h.5 j u e).1 p).0 ∙ sym (mine.1 b).0))) in (
        h.0,
        length vs,
        h.2,
        h.3,
        h.4,
        λ j u e. ⊎_elim (λ x. ((old j u x).0, λ p. absurd ((old j u x).1 p)))
            (λ (is : r ≡ u). ((λ p. absurd (true≢false (sym (ap (λ (y : PassView T). y.puts) is ∙ p)))), λ p. (at_end vs r u j (λ x. (old j u x).1 p) e, ap (λ (y : PassView T). y.taken) (sym is) ∙ (mine.1 b).1))) (at_snoc vs r u j e),
      )

  -- the consuming pass takes in the producing one
  pub joins : (number : ℕ) (v : PassView T) (other : ℕ) (u : PassView T) → v.takes ≡ true → u.puts ≡ true → Merges InOrder number v other u (whole u.sent v.taken) spent
  joins number v other u a b items views h at two at' = let both : PassView T = whole u.sent v.taken in let mine = h.5 number v at in let vs : List (PassView T) = set views number both in
      let was : get_elem? views other ≡ some u = ⊎_elim (λ x. absurd (two x.0)) (λ x. x.1) (at_set views number other both u at') in let theirs = (h.5 other u was).0 b in
      let Now : ℕ → PassView T → Type 0 = λ j y. j ≢ other → Knows number h.1 h.2 h.3 j y in
      let now : All Now vs = all_set Now views number both (λ _. ((λ _. (refl, theirs.1)), λ _. mine.1 a)) (λ j y _ e apart. ((λ p. absurd (apart (((h.5 j y e).0 p).0 ∙ sym theirs.0))), (h.5 j y e).1)) in
      (number, h.1, h.2, h.3, h.4, all_set (Knows number h.1 h.2 h.3) vs other spent ((λ p. absurd (true≢false (sym p))), λ p. absurd (true≢false (sym p))) (λ j y apart e. now j y e apart))

  -- ---- what each pass learns of what the queue holds

  pub told_producer : (number : ℕ) (v : PassView T) → v.puts ≡ true → Learns InOrder number v (λ items. (taken : List T) × (v.sent ≡ taken ++ items))
  told_producer number v a items views h at = (h.3, ((h.5 number v at).0 a).1 ∙ h.4)

  pub told_consumer : (number : ℕ) (v : PassView T) → v.takes ≡ true → Learns InOrder number v (λ items. (sent : List T) × (sent ≡ v.taken ++ items))
  told_consumer number v b items views h at = (h.2, h.4 ∙ ap (λ l. l ++ items) (sym ((h.5 number v at).1 b).1))

  pub told_all : (number : ℕ) (v : PassView T) → v.puts ≡ true → v.takes ≡ true → Learns InOrder number v (λ items. v.sent ≡ v.taken ++ items)
  told_all number v a b items views h at = let mine = h.5 number v at in (mine.0 a).1 ∙ h.4 ∙ ap (λ l. l ++ items) (sym (mine.1 b).1)

  pub prefix_of : (taken items sent : List T) → sent ≡ taken ++ items → IsPrefixOf taken sent
  prefix_of taken items sent e = (length taken, subst (λ (l : List T). taken ≡ take (length taken) l) (sym e) (sym (take-append_seam taken items)))
