-- What the threads' calls wait for, one after the other.
use Rattle.std.proofs.Common.{◌≡◌, ℕ, zero, suc, ◌+◌, ◌<◌, ◌≤◌, ◌||◌, ◌&&◌, ◌==◌, if◌then◌else◌, replicate, Bool, true, false, List, [], ◌∷◌, ◌++◌, length, length-append, map, set, drop, get_or, Some, None, refl, sym, ap, subst, ◌∙◌, ⊎_elim, arith}
use Rattle.std.specs.List.{list_any}
use Rattle.blk_base.specs.Members.{In}
use Rattle.blk_base.specs.laws.Members.{In-set_cases, In-map, In-replicate}
use Rattle.std.proofs.lemmas.Option.{same_Some, none-some}
use Rattle.order_model.specs.declared.note.Note.{Note}
use Rattle.order_model.specs.declared.request.Request.{Request}
use Rattle.flush_actor.specs.conflicts.Conflicts.{ConflictTable}
use Rattle.flush_actor.specs.Actor.{Submission, Completed}
use Rattle.flush_actor.specs.Kinds.{makes_durable}
use Rattle.flush_actor.specs.Waits.{no_wait, need_commit}
use Rattle.flush_actor.specs.code.Fields.{NeedsSubmitted, IsFlushPart}
use Rattle.flush_actor.specs.declared.wait.Wait.{Wait}

-- ---- searches

module _ {X : Type 0} (p : X → Bool) where
  -- what is left from place `at` on decides
  abbrev pub LeftDecides : List X → ℕ → Type 0
  LeftDecides xs at = list_any p (drop at xs) ≡ list_any p xs

-- ---- changes of all

module _ {X : Type 0} (f : X → X) where
  -- those from place `at` on are still to be changed
  abbrev pub changed_from : ℕ → List X → List X
  changed_from at [] = []
  changed_from zero (x ∷ xs) = f x ∷ map f xs
  changed_from (suc at) (x ∷ xs) = x ∷ changed_from at xs

  pub none_changed : (xs : List X) → changed_from 0 xs ≡ map f xs
  none_changed [] = refl
  none_changed (x ∷ xs) = refl

  pub changed_one : (xs : List X) (at : ℕ) (d : X) → at < length xs → changed_from (suc at) (set xs at (f (get_or xs at d))) ≡ changed_from at xs
  changed_one [] at d inside = absurd (omega (arith, inside))
  changed_one (x ∷ xs) zero d inside = ap (λ l. f x ∷ l) (none_changed xs)
  changed_one (x ∷ xs) (suc at) d inside = ap (λ l. x ∷ l) (changed_one xs at d (omega (arith, inside)))

  pub all_changed : (xs : List X) (at : ℕ) → length xs ≤ at → changed_from at xs ≡ xs
  all_changed [] at past = refl
  all_changed (x ∷ xs) zero past = absurd (omega (arith, past))
  all_changed (x ∷ xs) (suc at) past = ap (λ l. x ∷ l) (all_changed xs at (omega (arith, past)))

-- ---- needs

pub needs_none : (n : ℕ) → NeedsSubmitted [] (replicate n no_wait)
needs_none n w id i e = absurd (none-some id (ap (λ (v : Wait). v.need) (In-replicate n no_wait w i) ∙ e))

pub needs_set : (rs : List Request) (ws : List Wait) (at : ℕ) (w : Wait) → NeedsSubmitted rs ws → ((id : ℕ) → w.need ≡ Some id → id < length rs) → NeedsSubmitted rs (set ws at w)
needs_set rs ws at w h one v id i e =
    ⊎_elim (λ j. h v id j e) (λ same. one id (ap (λ (x : Wait). x.need) same ∙ e)) (In-set_cases ws at w v i)

pub needs_more : (old new : List Request) (ws : List Wait) → length old ≤ length new → NeedsSubmitted old ws → NeedsSubmitted new ws
needs_more old new ws le h v id i e = let less = h v id i e in omega (arith, less, le)

-- a commit block is needed by those that it makes durable
pub needs_commit : (rs : List Request) (ws : List Wait) (k id : ℕ) → id < length rs → NeedsSubmitted rs ws → NeedsSubmitted rs (map (need_commit k id) ws)
needs_commit rs ws k id less h v n i e =
    let from = In-map (need_commit k id) ws v i in
    let w = from.0 in
    by w (makes_durable w.kind && elim w.target as (λ _. Bool) [ Some t ↦ t == k | None ↦ false ]) (h w n from.1) (ap (λ (x : Wait). x.need) from.2 ∙ e)
  where
    by : (w : Wait) (t : Bool) → (w.need ≡ Some n → n < length rs) → (if t then record w { need = Some id } else w).need ≡ Some n → n < length rs
    by w true old d = let same = same_Some id n d in omega (arith, same, less)
    by w false old d = old d

pub needs_known : (rs : List Request) (ws now : List Wait) (limit known : ℕ) → now ≡ ws → length rs ≤ limit → known ≡ limit → NeedsSubmitted rs ws
    → (w : Wait) (id : ℕ) → In w now → w.need ≡ Some id → id < known
needs_known rs ws now limit known same few e h w id i n = let less = h w id (subst (In w) same i) n in omega (arith, less, few, e)

-- one more request is submitted
pub part_submitted : (s new : Submission) (c : Completed) (blocks : ℕ) (t : ConflictTable) (ws : List Wait) (rs : List Request) (r : Request) (n : Note)
    → IsFlushPart s c blocks t ws → length s.requests < s.limit → rs ≡ s.requests ++ r ∷ [] → new ≡ record { limit = s.limit; requests = rs; notes = s.notes ++ n ∷ [] }
    → IsFlushPart new c blocks t ws
part_submitted s new c blocks t ws rs r n i less put e =
    let size : length (s.requests ++ r ∷ []) ≡ length s.requests + 1 = simp (length-append) refl in
    let more : length (s.notes ++ n ∷ []) ≡ length s.notes + 1 = simp (length-append) refl in
    let one : length rs ≡ length s.requests + 1 = ap length put ∙ size in
    let paired = i.paired in
    subst (λ x. IsFlushPart x c blocks t ws) (sym e)
    (record {
      paired = omega (arith, one, more, paired);
      few = omega (arith, one, less);
      short = i.short;
      known = i.known;
      held = i.held;
      needs = needs_more s.requests rs ws (omega (arith, one)) i.needs;
    })
