-- The first row that holds, along a chain of refusals.
use Rattle.std.specs.Prelude.{◌≡◌, ◌↔◌, ◌⊎◌, ⊤, Bool, true, false, List, [], ◌∷◌, ◌++◌, Result, Ok, Err, IsOk, refl}
use Rattle.std.proofs.Common.{sym, ap, subst, ◌∙◌, inl, inr, ⊎_elim}
use Rattle.std.proofs.lemmas.Bool.{false≢true}
use Rattle.blk_base.specs.Members.{In}
use Rattle.tree_model.specs.declared.call.Reply.{Reply}
use Rattle.tree_model.specs.declared.call.Room.{Room}
use Rattle.tree_model.specs.Calls.{Tree, and_then, refuse_if}
use Rattle.call_refusals.specs.Conditions.{Holds}
use Rattle.call_refusals.specs.Tables.{TableRow, IsFirst, NoneHolds}

module _ (room : Room) (tree : Tree) where
  abbrev pub Held : TableRow → Type 0
  Held row = Holds room tree row.condition

  -- the same by recursion: the first row that holds has this reply
  abbrev pub First : List TableRow → Reply → Type 0
  First [] reply = ⊥
  First (row ∷ rows) reply = (Held row × (row.reply ≡ reply)) ⊎ ((Held row → ⊥) × First rows reply)

  -- no row holds
  abbrev pub Nowhere : List TableRow → Type 0
  Nowhere [] = ⊤
  Nowhere (row ∷ rows) = (Held row → ⊥) × Nowhere rows

  -- what is refused is refused by the first row that holds, and what is not by none
  abbrev pub Told : {A : Type 0} → List TableRow → Result A Reply → Type 0
  Told rows (Ok a) = Nowhere rows
  Told rows (Err reply) = First rows reply

  -- ---- rows behind rows

  pub first_more : (rows more : List TableRow) (reply : Reply) → First rows reply → First (rows ++ more) reply
  first_more [] more reply h = absurd h
  first_more (row ∷ rows) more reply (inl h) = inl h
  first_more (row ∷ rows) more reply (inr h) = inr (h.0, first_more rows more reply h.1)

  first_behind : (rows more : List TableRow) (reply : Reply) → Nowhere rows → First more reply → First (rows ++ more) reply
  first_behind [] more reply none h = h
  first_behind (row ∷ rows) more reply none h = inr (none.0, first_behind rows more reply none.1 h)

  nowhere_behind : (rows more : List TableRow) → Nowhere rows → Nowhere more → Nowhere (rows ++ more)
  nowhere_behind [] more none h = h
  nowhere_behind (row ∷ rows) more none h = (none.0, nowhere_behind rows more none.1 h)

  pub told_behind : {A : Type 0} (rows more : List TableRow) (x : Result A Reply) → Nowhere rows → Told more x → Told (rows ++ more) x
  told_behind rows more (Ok a) none h = nowhere_behind rows more none h
  told_behind rows more (Err reply) none h = first_behind rows more reply none h

  -- ---- one refusal after the other

  pub told_then : {A B : Type 0} (rows more : List TableRow) (x : Result A Reply) (next : A → Result B Reply) → Told rows x → ((a : A) → x ≡ Ok a → Told more (next a)) → Told (rows ++ more) (and_then x next)
  told_then rows more (Ok a) next h go = told_behind rows more (next a) h (go a refl)
  told_then rows more (Err reply) next h go = first_more rows more reply h

  pub told_if : {A : Type 0} (row : TableRow) (rows : List TableRow) (test : Bool) (x : Result A Reply) → (test ≡ true → Held row) → (test ≡ false → Held row → ⊥) → (test ≡ false → Told rows x) →
      Told (row ∷ rows) (refuse_if test row.reply x)
  told_if row rows true x holds fails go = inl (holds refl, refl)
  told_if row rows false x holds fails go = told_behind (row ∷ []) rows x (fails refl, tt) (go refl)

  -- the same where all that follows is seen by a last step
  module _ {B C : Type 0} (last : B → Result C Reply) where
    pub next_then : {A : Type 0} (rows more : List TableRow) (x : Result A Reply) (next : A → Result B Reply) → Told rows x → ((a : A) → x ≡ Ok a → Told more (and_then (next a) last)) →
        Told (rows ++ more) (and_then (and_then x next) last)
    next_then rows more (Ok a) next h go = told_behind rows more (and_then (next a) last) h (go a refl)
    next_then rows more (Err reply) next h go = first_more rows more reply h

    pub next_if : (row : TableRow) (rows : List TableRow) (test : Bool) (x : Result B Reply) → (test ≡ true → Held row) → (test ≡ false → Held row → ⊥) → (test ≡ false → Told rows (and_then x last)) →
        Told (row ∷ rows) (and_then (refuse_if test row.reply x) last)
    next_if row rows true x holds fails go = inl (holds refl, refl)
    next_if row rows false x holds fails go = told_behind (row ∷ []) rows (and_then x last) (fails refl, tt) (go refl)

  -- ---- the law

  first_is : (rows : List TableRow) (reply : Reply) → First rows reply → IsFirst room tree rows reply
  first_is [] reply h = absurd h
  first_is (row ∷ rows) reply (inl h) = record { before = []; row = row; after = rows; rows_are = refl; none_before = λ other i held. i; holds = h.0; reply_is = h.1 }
  first_is (row ∷ rows) reply (inr h) =
      let x = first_is rows reply h.1 in
      record {
        before = row ∷ x.before;
        row = x.row;
        after = x.after;
        rows_are = ap (λ rs. row ∷ rs) x.rows_are;
        none_before = λ other i held. ⊎_elim (λ same. h.0 (subst Held (sym same) held)) (λ later. x.none_before other later held) i;
        holds = x.holds;
        reply_is = x.reply_is;
      }

  is_first_by : (before : List TableRow) (row : TableRow) (after : List TableRow) (reply : Reply) → ((other : TableRow) → In other before → Held other → ⊥) → Held row → row.reply ≡ reply → First (before ++ row ∷ after) reply
  is_first_by [] row after reply none holds same = inl (holds, same)
  is_first_by (first ∷ before) row after reply none holds same = inr (none first (inl refl), is_first_by before row after reply (λ other i. none other (inr i)) holds same)

  is_first : (rows : List TableRow) (reply : Reply) → IsFirst room tree rows reply → First rows reply
  is_first rows reply h = subst (λ rs. First rs reply) h.rows_are (is_first_by h.before h.row h.after reply h.none_before h.holds h.reply_is)

  nowhere_is : (rows : List TableRow) → Nowhere rows → NoneHolds room tree rows
  nowhere_is [] none row i held = i
  nowhere_is (first ∷ rows) none row i held = ⊎_elim (λ same. none.0 (subst Held (sym same) held)) (λ later. nowhere_is rows none.1 row later held) i

  is_nowhere : (rows : List TableRow) → NoneHolds room tree rows → Nowhere rows
  is_nowhere [] none = tt
  is_nowhere (row ∷ rows) none = (none row (inl refl), is_nowhere rows (λ other i. none other (inr i)))

  one_first : (rows : List TableRow) (a b : Reply) → First rows a → First rows b → a ≡ b
  one_first [] a b h k = absurd h
  one_first (row ∷ rows) a b (inl h) (inl k) = sym h.1 ∙ k.1
  one_first (row ∷ rows) a b (inl h) (inr k) = absurd (k.0 h.0)
  one_first (row ∷ rows) a b (inr h) (inl k) = absurd (h.0 k.0)
  one_first (row ∷ rows) a b (inr h) (inr k) = one_first rows a b h.1 k.1

  not_both : (rows : List TableRow) (reply : Reply) → First rows reply → Nowhere rows → ⊥
  not_both [] reply h none = h
  not_both (row ∷ rows) reply (inl h) none = none.0 h.0
  not_both (row ∷ rows) reply (inr h) none = not_both rows reply h.1 none.1

  err_err : {A : Type 0} (a b : Reply) → ◌≡◌ {A = Result A Reply} (Err a) (Err b) → a ≡ b
  err_err a b h = cc

  ok_not_err : {A : Type 0} (a : A) (r : Reply) → ◌≡◌ {A = Result A Reply} (Ok a) (Err r) → ⊥
  ok_not_err a r h = cc

  pub told_refused : {A : Type 0} (rows : List TableRow) (x : Result A Reply) → Told rows x → (reply : Reply) → (x ≡ Err reply) ↔ IsFirst room tree rows reply
  told_refused rows (Ok a) h reply = ((λ e. absurd (ok_not_err a reply e)), (λ f. absurd (not_both rows reply (is_first rows reply f) h)))
  told_refused rows (Err r) h reply = ((λ e. first_is rows reply (subst (First rows) (err_err r reply e) h)), (λ f. ap Err (one_first rows r reply h (is_first rows reply f))))

  pub told_done : {A : Type 0} (rows : List TableRow) (x : Result A Reply) → Told rows x → IsOk x ↔ NoneHolds room tree rows
  told_done rows (Ok a) h = ((λ t. nowhere_is rows h), (λ none. refl))
  told_done rows (Err r) h = ((λ t. absurd (false≢true t)), (λ none. absurd (not_both rows r h (is_nowhere rows none))))
