-- What is wanted after each call.
use Rattle.std.proofs.Common.{◌≡◌, ℕ, ◌≤◌, ◌==◌, ◌⊎◌, Bool, true, not, List, [], ◌∷◌, Some, None, refl, sym, ap, subst, ◌∙◌, inl, inr, ⊎_elim, arith}
use Rattle.std.specs.List.{filter, list_any}
use Rattle.std.specs.Prelude.{◌≢◌}
use Rattle.std.proofs.lemmas.Bool.{cases_eq}
use Rattle.std.proofs.lemmas.Option.{none-some, same_Some}
use Rattle.blk_base.specs.Members.{In, IsAscending}
use Rattle.blk_base.specs.laws.Members.{IsAscending-filter, In-filter, filter-In}
use Rattle.number_sets.specs.laws.Keyed.{ascending-put_by, put_by-self, put_by-In}
use Rattle.number_sets.specs.laws.Members.{In-with_all, with_all-In}
use Rattle.number_sets.specs.laws.Rising.{rising-with_all}
use Rattle.flush_actor.specs.conflicts.Calls.{ConflictCall, holds, wants, releases, after, IsSound}
use Rattle.flush_actor.specs.conflicts.Conflicts.{Conflicts, is_held, holder, put_held, hold, want, unhold, least}
use Rattle.flush_actor.specs.declared.conflicts.held.Held.{Held}
use Rattle.flush_actor.specs.conflicts.laws.Holds.{block_of, held_as, In-unhold, unhold-In, holder_of, held_by, holds_it}

pub In-want : (c : Conflicts) (blocks : List ℕ) (x : ℕ) → In x (want blocks c).wanted → In x c.wanted ⊎ (In x blocks × (is_held c x ≡ true))
In-want c blocks x i = ⊎_elim (λ l. inl l) (λ r. inr (In-filter (is_held c) blocks x r)) (In-with_all c.wanted (filter (is_held c) blocks) x i)

pub want-In : (c : Conflicts) (blocks : List ℕ) (x : ℕ) → In x c.wanted ⊎ (In x blocks × (is_held c x ≡ true)) → In x (want blocks c).wanted
want-In c blocks x i = with_all-In c.wanted (filter (is_held c) blocks) x (⊎_elim (λ l. inl l) (λ r. inr (filter-In (is_held c) blocks x r.0 r.1)) i)

pub sound_want : (c : Conflicts) (blocks : List ℕ) → IsSound c → IsSound (want blocks c)
sound_want c blocks s = record {
  once = s.once;
  rising = rising-with_all c.wanted (filter (is_held c) blocks) s.rising;
  held = λ b i. ⊎_elim (λ l. s.held b l) (λ r. r.1) (In-want c blocks b i);
}

-- a block that was held still is
still_held : (c : Conflicts) (k b x : ℕ) → is_held c x ≡ true → is_held (hold k (b ∷ []) c) x ≡ true
still_held c k b x t =
    let g = held_by c.held x t in
    let now = put_held c.held k b in
    ⊎_elim
    (λ e. subst (λ y. list_any (λ (h : Held). h.block == y) now ≡ true) (sym e) (holds_it now (held_as k b) (put_by-self block_of c.held (held_as k b))))
    (λ ne. subst (λ y. list_any (λ (h : Held). h.block == y) now ≡ true) g.2 (holds_it now g.0 (put_by-In block_of c.held (held_as k b) g.0 g.1 (λ e. ne (sym g.2 ∙ e)))))
    (cases_eq x b)

pub sound_hold : (c : Conflicts) (k b : ℕ) → IsSound c → IsSound (hold k (b ∷ []) c)
sound_hold c k b s = record {
  once = ascending-put_by block_of c.held (held_as k b) s.once;
  rising = s.rising;
  held = λ x i. still_held c k b x (s.held x i);
}

abbrev still : ℕ → Conflicts → ℕ → Bool
still k c b = list_any (λ (h : Held). h.block == b) (unhold k c).held

pub sound_unhold : (c : Conflicts) (k : ℕ) → IsSound c → IsSound (unhold k c)
sound_unhold c k s = record {
  once = IsAscending-filter block_of (λ (h : Held). not (h.transaction == k)) c.held s.once;
  rising = IsAscending-filter (λ x. x) (still k c) c.wanted s.rising;
  held = λ b i. (In-filter (still k c) c.wanted b i).1;
}

pub sound_after : (calls : List ConflictCall) (c : Conflicts) → IsSound c → IsSound (after c calls)
sound_after [] c s = s
sound_after (holds k b ∷ es) c s = sound_after es (hold k (b ∷ []) c) (sound_hold c k b s)
sound_after (wants b ∷ es) c s = sound_after es (want (b ∷ []) c) (sound_want c (b ∷ []) s)
sound_after (releases k ∷ es) c s = sound_after es (unhold k c) (sound_unhold c k s)

-- what is wanted after a release: what was wanted, but for what that transaction held
pub In-released : (c : Conflicts) (k b : ℕ) → IsSound c → In b (unhold k c).wanted → In b c.wanted × (holder c.held b ≢ k)
In-released c k b s i =
    let j = In-filter (still k c) c.wanted b i in
    let g = held_by (unhold k c).held b j.1 in
    let was = In-unhold k c g.0 g.1 in
    let whose = holder_of c.held g.0 s.once was.0 in
    (j.0, λ e. was.1 (sym whose ∙ ap (holder c.held) g.2 ∙ e))

pub released-In : (c : Conflicts) (k b : ℕ) → IsSound c → In b c.wanted × (holder c.held b ≢ k) → In b (unhold k c).wanted
released-In c k b s i =
    let g = held_by c.held b (s.held b i.0) in
    let whose = holder_of c.held g.0 s.once g.1 in
    let there = unhold-In k c g.0 (g.1, λ e. i.1 (ap (holder c.held) (sym g.2) ∙ whose ∙ e)) in
    filter-In (still k c) c.wanted b i.0 (subst (λ x. still k c x ≡ true) g.2 (holds_it (unhold k c).held g.0 there))

-- ---- the lowest

pub least_some : (held : List Held) (ws : List ℕ) (b : ℕ) → IsAscending (λ (x : ℕ). x) ws → least (record { held = held; wanted = ws }) ≡ Some b → In b ws × ((x : ℕ) → In x ws → b ≤ x)
least_some held [] b r e = absurd (none-some b e)
least_some held (w ∷ ws) b r e =
    let same = same_Some w b e in
    (inl same, λ x i. ⊎_elim (λ d. omega (arith, same, d)) (λ j. let less = r.0 x j in omega (arith, same, less)) i)

pub least_none : (held : List Held) (ws : List ℕ) → least (record { held = held; wanted = ws }) ≡ None → ws ≡ []
least_none held [] e = refl
least_none held (w ∷ ws) e = absurd (none-some w (sym e))

pub none_least : (held : List Held) (ws : List ℕ) → ws ≡ [] → least (record { held = held; wanted = ws }) ≡ None
none_least held ws e = ap (λ (l : List ℕ). least (record { held = held; wanted = l })) e
