-- One event more keeps a history legal.
use Rattle.std.specs.Prelude.{◌≡◌, ℕ, zero, suc, ◌+◌, ◌-◌, ◌<◌, ◌≤◌, ◌==◌, Bool, false, List, [], ◌∷◌, ◌++◌, filter, length, take, Some, if◌then◌else◌, refl}
use Rattle.std.specs.List.{slice_get}
use Rattle.std.proofs.Common.{sym, ap, subst, ◌∙◌, inl, inr, ⊎_elim, arith, eqb-true}
use Rattle.std.proofs.lemmas.Bool.{cases_Bool}
use Rattle.std.proofs.lemmas.Option.{none-some}
use Rattle.blk_base.specs.laws.Members.{slice_get-push_cases, slice_get-length}
use Rattle.tree_model.specs.declared.call.Call.{Call}
use Rattle.tree_model.specs.declared.call.Reply.TheVariants as replies
use Rattle.tree_model.specs.declared.call.Room.{Room}
use Rattle.tree_model.specs.Calls.{Tree, reply_of}
use Rattle.tree_model.specs.Histories.{tree_after_entries}
use Rattle.crash_laws.specs.LegalHistory.{Event, Begin, End, thread_of, has_begun, done_from, done_by, tree_up_to, Follows, of_thread, IsReply, IsLegal, EventClause}
use Rattle.crash_laws.proofs.LongerHistories.{done_from-append, length-done_from, same_tree}

take_left : {X : Type 0} (xs ys : List X) (i : ℕ) → i ≤ length xs → take i (xs ++ ys) ≡ take i xs
take_left xs ys zero le = refl
take_left [] ys (suc i) le = absurd (omega arith)
take_left (x ∷ xs) ys (suc i) le = ap (λ zs. x ∷ zs) (take_left xs ys i (omega arith))

take_all : {X : Type 0} (xs : List X) → take (length xs) xs ≡ xs
take_all [] = refl
take_all (x ∷ xs) = ap (λ zs. x ∷ zs) (take_all xs)

filter_push : {X : Type 0} (p : X → Bool) (xs : List X) (y : X) → p y ≡ false → filter p (xs ++ y ∷ []) ≡ filter p xs
filter_push p [] y e = ap (λ b. if b then y ∷ [] else []) e
filter_push p (x ∷ xs) y e = ap (λ zs. if p x then x ∷ zs else zs) (filter_push p xs y e)

pub legal_at_start : (room : Room) (opened : Tree) (first : ℕ) (programs : ℕ → List Call) → IsLegal room opened first programs []
legal_at_start room opened first programs = record {
  programs_followed = λ t. tt;
  at_once = λ i t c r e not_begun. absurd (none-some (End t c r) e);
  begins = λ i t c e. absurd (none-some (Begin t c) e);
  ends = λ i t c r e begun. absurd (none-some (End t c r) e);
  down = λ i j t u c d r lt e f. absurd (none-some (End u d r) f);
  read_only = λ i j t u id c d r lt e f other. absurd (none-some (End u d r) f);
}

module _ (room : Room) (opened : Tree) (first : ℕ) (programs : ℕ → List Call) (events : List Event) (e : Event) where
  -- an old event and the new one see what stood before them
  same_before : (i : ℕ) → i ≤ length events → tree_up_to room opened first (events ++ e ∷ []) i ≡ tree_up_to room opened first events i
  same_before i le =
      let long = length-done_from [] events in
      ap (λ es. tree_after_entries room opened first es i) (done_from-append [] events (e ∷ []))
      ∙ same_tree room opened first (done_by events) (done_from events (e ∷ [])) i (omega arith)

  module _ (old : IsLegal room opened first programs events) (new : EventClause room opened first programs events e) where
    begun_old : (i t : ℕ) → i ≤ length events → has_begun t false (take i (events ++ e ∷ [])) ≡ has_begun t false (take i events)
    begun_old i t le = ap (has_begun t false) (take_left events (e ∷ []) i le)

    begun_new : (i t : ℕ) → i ≡ length events → has_begun t false (take i (events ++ e ∷ [])) ≡ has_begun t false events
    begun_new i t at =
        ap (λ j. has_begun t false (take j (events ++ e ∷ []))) at
        ∙ begun_old (length events) t (omega arith)
        ∙ ap (has_begun t false) (take_all events)

    followed : (t : ℕ) → Follows (of_thread t (events ++ e ∷ [])) (programs t)
    followed t =
        elim (cases_Bool (thread_of e == t)) [
          | inl same ↦ subst (λ u. Follows (of_thread u (events ++ e ∷ [])) (programs u)) (eqb-true (thread_of e) t same) new.followed
          | inr other ↦ subst (λ es. Follows es (programs t)) (sym (filter_push (λ x. thread_of x == t) events e other)) (old.programs_followed t)
        ]

    pub legal_grows : IsLegal room opened first programs (events ++ e ∷ [])
    legal_grows = record {
      programs_followed = followed;
      at_once = λ i t c r there not_begun.
          ⊎_elim
          (λ o.
          let lt = slice_get-length events i (End t c r) o in
          subst (λ tree. IsReply room tree (first + (i + 1)) c r) (sym (same_before i (omega arith)))
          (old.at_once i t c r o (λ b. not_begun (begun_old i t (omega arith) ∙ b))))
          (λ n.
          subst (λ j. IsReply room (tree_up_to room opened first (events ++ e ∷ []) j) (first + (j + 1)) c r) (sym n.0)
          (subst (λ tree. IsReply room tree (first + (length events + 1)) c r) (sym (same_before (length events) (omega arith)))
          (new.at_once t c r n.1 (λ b. not_begun (begun_new i t n.0 ∙ b)))))
          (slice_get-push_cases events e i (End t c r) there);
      begins = λ i t c there.
          ⊎_elim
          (λ o.
          let lt = slice_get-length events i (Begin t c) o in
          let x = old.begins i t c o in
          (x.0, subst (λ tree. reply_of room tree (first + (i + 1)) c ≡ replies.Ok) (sym (same_before i (omega arith))) x.1))
          (λ n.
          let x = new.begins t c n.1 in (
            x.0,
            subst (λ j. reply_of room (tree_up_to room opened first (events ++ e ∷ []) j) (first + (j + 1)) c ≡ replies.Ok) (sym n.0)
                (subst (λ tree. reply_of room tree (first + (length events + 1)) c ≡ replies.Ok) (sym (same_before (length events) (omega arith))) x.1),
          ))
          (slice_get-push_cases events e i (Begin t c) there);
      ends = λ i t c r there begun.
          ⊎_elim
          (λ o. let lt = slice_get-length events i (End t c r) o in old.ends i t c r o (sym (begun_old i t (omega arith)) ∙ begun))
          (λ n. new.ends t c r n.1 (sym (begun_new i t n.0) ∙ begun))
          (slice_get-push_cases events e i (End t c r) there);
      down = λ i j t u c d r lt first second.
          ⊎_elim
          (λ o. old.down i j t u c d r lt (before i j lt (End u d r) (End t c replies.Down) o first) o)
          (λ n. new.down i t u c d r (before_new i j lt n.0 (End t c replies.Down) first) n.1)
          (slice_get-push_cases events e j (End u d r) second);
      read_only = λ i j t u id c d r lt first second reading.
          ⊎_elim
          (λ o. old.read_only i j t u id c d r lt (before i j lt (End u d r) (End t c (replies.ReadOnly id)) o first) o reading)
          (λ n. new.read_only i t u id c d r (before_new i j lt n.0 (End t c (replies.ReadOnly id)) first) n.1 reading)
          (slice_get-push_cases events e j (End u d r) second);
    }
      where
        -- what stands before an old or the new place is old
        before_new : (i j : ℕ) → i < j → j ≡ length events → (x : Event) → slice_get (events ++ e ∷ []) i ≡ Some x → slice_get events i ≡ Some x
        before_new i j lt at x there = ⊎_elim (λ o. o) (λ n. let same = n.0 in absurd (omega arith)) (slice_get-push_cases events e i x there)

        before : (i j : ℕ) → i < j → (y x : Event) → slice_get events j ≡ Some y → slice_get (events ++ e ∷ []) i ≡ Some x → slice_get events i ≡ Some x
        before i j lt y x at there =
            let less = slice_get-length events j y at in
            ⊎_elim (λ o. o) (λ n. let same = n.0 in absurd (omega arith)) (slice_get-push_cases events e i x there)
