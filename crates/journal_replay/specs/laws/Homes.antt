-- Laws of the table of homes.
use Rattle.std.specs.Prelude.{◌≡◌, ◌≢◌, ℕ, suc, ◌+◌, ◌<◌, ◌==◌, ◌&&◌, nat_lt, not, Bool, true, false, if◌then◌else◌, List, [], ◌∷◌, ◌++◌, length, Option, Some, None, Result, Ok, Err, IfOk, slice_get, slice_set, refl}
use Rattle.std.specs.Prelude.{Vec}
use Rattle.std.proofs.Common.{sym, ap, ◌∙◌, subst, inl, inr, arith, length-set}
use Rattle.std.proofs.lemmas.Bool.{cases_Bool, eqb-true, eqb-false, lt-ltb}
use Rattle.std.proofs.lemmas.Option.{same_Some}
use Rattle.blk_base.specs.laws.Members.{slice_get-set_same, slice_get-set_other, slice_get-length}
use Rattle.log_model.specs.Marks.{Transaction, Mark, mark_in, marked_body}
use Rattle.log_model.specs.Marks.{Keep, Clear, Set}
use Rattle.journal_replay.specs.declared.home.Home.{Home}
use Rattle.journal_replay.specs.code.Homes.{logged_of, entry, listed}
use Rattle.journal_replay.specs.Revokes.{cancels, replayed_by, last_revoke}
use Rattle.journal_replay.specs.laws.Revokes.{replayed-is}
use Rattle.journal_replay.specs.Commands.{home_of, homes}

home_is : (i : ℕ) (m : Mark) → entry i (marked_body m) ≡ home_of i m
home_is i Keep = refl
home_is i Clear = refl
home_is i (Set x) = refl

-- a table that has for each block what the marks say lists the homes
pub listed-homes : (m : ℕ → Mark) (i : ℕ) (os : List (Option (List ℕ))) → ((k : ℕ) (o : Option (List ℕ)) → slice_get os k ≡ Some o → o ≡ marked_body (m (i + k))) → listed i os ≡ homes m i (length os)
listed-homes m i [] each = refl
listed-homes m i (o ∷ os) each =
    let first : o ≡ marked_body (m i) = each 0 o refl ∙ ap (λ (k : ℕ). marked_body (m k)) (omega arith) in
    ap (λ xs. xs ++ listed (i + 1) os) (ap (entry i) first ∙ home_is i (m i))
    ∙ ap (λ xs. home_of i (m i) ++ xs) (listed-homes m (i + 1) os (λ k p e. each (suc k) p e ∙ ap (λ (j : ℕ). marked_body (m j)) (omega arith)))

-- the table after one body more
abbrev pub with_body : List (Option (List ℕ)) → Bool → ℕ → List ℕ → List (Option (List ℕ))
with_body os stop block body = if nat_lt block (length os) && not stop then slice_set os block (Some body) else os

and_none : (x : Bool) → (x && not true) ≡ false
and_none true = refl
and_none false = refl

pub if_same : (x : Bool) (o : Option (List ℕ)) → (if x then o else o) ≡ o
if_same true o = refl
if_same false o = refl

put_here : (os : List (Option (List ℕ))) (stop : Bool) (block : ℕ) (body : List ℕ) (b : ℕ) (o : Option (List ℕ)) → slice_get os b ≡ Some o → block ≡ b → slice_get (with_body os stop block body) b ≡ Some (if stop then o else Some body)
put_here os true block body b o e same = rw (and_none (nat_lt block (length os))) e
put_here os false block body b o e same =
    let lt = slice_get-length os b o e in
    let within : nat_lt block (length os) ≡ true = lt-ltb block (length os) (omega arith) in
    rw within (subst (λ (c : ℕ). slice_get (slice_set os block (Some body)) c ≡ Some (Some body)) same (slice_get-set_same os block (Some body) (omega arith)))

put_apart : (os : List (Option (List ℕ))) (put : Bool) (block : ℕ) (body : List ℕ) (b : ℕ) (o : Option (List ℕ)) → slice_get os b ≡ Some o → b ≢ block → slice_get (if put then slice_set os block (Some body) else os) b ≡ Some o
put_apart os true block body b o e apart = slice_get-set_other os block b (Some body) apart ∙ e
put_apart os false block body b o e apart = e

-- what one body more leaves for a block
pub body_more : (os : List (Option (List ℕ))) (stop : Bool) (block : ℕ) (body : List ℕ) (b : ℕ) (o : Option (List ℕ)) → slice_get os b ≡ Some o
    → slice_get (with_body os stop block body) b ≡ Some (if block == b then (if stop then o else Some body) else o)
body_more os stop block body b o e =
    elim (cases_Bool (block == b)) [
      | inl same ↦ rw same (put_here os stop block body b o e (eqb-true block b same))
      | inr other ↦ rw other (put_apart os (nat_lt block (length os) && not stop) block body b o e (λ q. eqb-false block b other (sym q)))
    ]

-- whether the body is cancelled, by the block that it is for
pub stop_same : (rev : ℕ → Option ℕ) (at k b : ℕ) (x y : Option (List ℕ)) → (if k == b then (if cancels (rev k) at then x else y) else x) ≡ (if k == b then (if cancels (rev b) at then x else y) else x)
stop_same rev at k b x y =
    elim (cases_Bool (k == b)) [
      | inl same ↦ ap (λ (j : ℕ). if k == b then (if cancels (rev j) at then x else y) else x) (eqb-true k b same)
      | inr other ↦ rw other refl
    ]

if_length : (t : Bool) (xs ys : List (Option (List ℕ))) → length ys ≡ length xs → length (if t then ys else xs) ≡ length xs
if_length true xs ys e = e
if_length false xs ys e = refl

pub length-with_body : (os : List (Option (List ℕ))) (stop : Bool) (block : ℕ) (body : List ℕ) → length (with_body os stop block body) ≡ length os
length-with_body os stop block body = if_length (nat_lt block (length os) && not stop) os (slice_set os block (Some body)) (length-set os block (Some body))

-- the whole log: the table lists the homes
pub table_lists : (ts : List Transaction) (os : List (Option (List ℕ))) (rev : ℕ → Option ℕ) (zones : ℕ) → length os ≡ zones → ((b : ℕ) → rev b ≡ last_revoke 0 ts b)
    → ((b : ℕ) → b < zones → slice_get os b ≡ Some (replayed_by (rev b) 0 ts b None)) → listed 0 os ≡ homes (mark_in ts) 0 zones
table_lists ts os rev zones size table each =
    listed-homes (mark_in ts) 0 os
    (λ k o e.
    let lt = slice_get-length os k o e in
    let same : 0 + k ≡ k = omega arith in
    same_Some o (replayed_by (rev k) 0 ts k None) (sym e ∙ each k (omega arith))
    ∙ (ap (λ (r : Option ℕ). replayed_by r 0 ts k None) (table k) ∙ (replayed-is ts k ∙ ap (λ (j : ℕ). marked_body (mark_in ts j)) (sym same))))
    ∙ ap (homes (mark_in ts) 0) size

pub told_homes : {Z E : Type 0} (ts : List Transaction) (os : List (Option (List ℕ))) (rev : ℕ → Option ℕ) (zones : ℕ) (r : Result (Vec Home Z) E) → length os ≡ zones → ((b : ℕ) → rev b ≡ last_revoke 0 ts b)
    → ((b : ℕ) → b < zones → slice_get os b ≡ Some (replayed_by (rev b) 0 ts b None))
    → IfOk r (λ v. logged_of v.items ≡ listed 0 os) → IfOk r (λ v. logged_of v.items ≡ homes (mark_in ts) 0 zones)
told_homes ts os rev zones (Ok v) size table each told = told ∙ table_lists ts os rev zones size table each
told_homes ts os rev zones (Err e) size table each told = tt
