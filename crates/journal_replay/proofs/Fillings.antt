-- The table of homes while the log is moved into it, and the homes while the table is moved into them.
use Rattle.std.specs.Prelude.{◌≡◌, ℕ, ◌+◌, ◌==◌, Bool, true, false, if◌then◌else◌, List, [], ◌∷◌, ◌++◌, length, map, Option, Some, None, slice_get, refl}
use Rattle.std.proofs.Common.{sym, ap, ◌∙◌, inl, inr, arith, append_assoc}
use Rattle.std.proofs.lemmas.Bool.{cases_Bool}
use Rattle.log_model.specs.LastLogged.{bodies_of, last_of}
use Rattle.journal_replay.specs.declared.home.Home.{Home}
use Rattle.journal_replay.specs.declared.home.LogBody.{LogBody}
use Rattle.journal_replay.specs.declared.home.LogTransaction.{LogTransaction}
use Rattle.journal_replay.specs.Revokes.{cancels, or_else, replayed_by}
use Rattle.journal_replay.specs.code.Homes.{logged_of, logged_bodies, entry, listed}
use Rattle.journal_replay.specs.code.Scans.{transaction_of}
use Rattle.journal_replay.specs.laws.Homes.{with_body, if_same, body_more, stop_same, length-with_body}

-- an item fewer is left
pub one_fewer : {X : Type 0} {rest tail : List X} {x : X} {left less : ℕ} → left ≡ length rest → rest ≡ x ∷ tail → less + 1 ≡ left → less ≡ length tail
one_fewer size e one = let longer = ap length e in omega (arith, size, longer, one)

-- ---- the bodies of one transaction

-- what these bodies leave for a block
abbrev pub left_by : Option ℕ → ℕ → List LogBody → ℕ → Option (List ℕ) → Option (List ℕ)
left_by r at hs b o = if cancels r at then o else or_else (last_of (bodies_of (logged_bodies hs) b)) o

-- the first body of a block, and then the later ones
first_then : (x : List ℕ) (o last : Option (List ℕ)) → or_else last (Some x) ≡ or_else (elim last as (λ _. Option (List ℕ)) [ None ↦ Some x | Some y ↦ Some y ]) o
first_then x o None = refl
first_then x o (Some y) = refl

left_more : (r : Option ℕ) (at : ℕ) (h : LogBody) (hs : List LogBody) (b : ℕ) (o : Option (List ℕ)) (stop : Bool) → cancels r at ≡ stop
    → left_by r at hs b (if h.block == b then (if cancels r at then o else Some h.body) else o) ≡ left_by r at (h ∷ hs) b o
left_more r at h hs b o true halt = rw halt (if_same (h.block == b) o)
left_more r at h hs b o false go =
    elim (cases_Bool (h.block == b)) [
      | inl same ↦ rw (go, same) (first_then h.body o (last_of (bodies_of (logged_bodies hs) b)))
      | inr other ↦ rw (go, other) refl
    ]

-- what is left of the bodies ends for each block where all of them do
pub record Putting (rev : ℕ → Option ℕ) (at : ℕ) (first table : List (Option (List ℕ))) (all rest : List LogBody) : Type 0 where
  pub long : length table ≡ length first
  pub each : (b : ℕ) (o : Option (List ℕ)) → slice_get first b ≡ Some o →
      (now : Option (List ℕ)) × (slice_get table b ≡ Some now) × (left_by (rev b) at rest b now ≡ left_by (rev b) at all b o)

pub putting_more : (rev : ℕ → Option ℕ) (at : ℕ) (first table : List (Option (List ℕ))) (all rest : List LogBody) (h : LogBody) (tail : List LogBody) (new : List (Option (List ℕ)))
    → Putting rev at first table all rest → rest ≡ h ∷ tail → new ≡ with_body table (cancels (rev h.block) at) h.block h.body → Putting rev at first new all tail
putting_more rev at first table all rest h tail new p e put = record {
  long = ap length put ∙ (length-with_body table (cancels (rev h.block) at) h.block h.body ∙ p.long);
  each = λ b o is.
      let was = p.each b o is in
      let now = was.0 in (
        if h.block == b then (if cancels (rev b) at then now else Some h.body) else now,
        ap (λ os. slice_get os b) put ∙ (body_more table (cancels (rev h.block) at) h.block h.body b now was.1 ∙ ap Some (stop_same rev at h.block b now (Some h.body))),
        left_more (rev b) at h tail b now (cancels (rev b) at) refl ∙ (ap (λ hs. left_by (rev b) at hs b now) (sym e) ∙ was.2),
      );
}

-- what all of them leave
pub all_put : (rev : ℕ → Option ℕ) (at : ℕ) (first table : List (Option (List ℕ))) (all rest : List LogBody) → Putting rev at first table all rest → rest ≡ []
    → (b : ℕ) (o : Option (List ℕ)) → slice_get first b ≡ Some o → slice_get table b ≡ Some (left_by (rev b) at all b o)
all_put rev at first table all rest p none b o is =
    let was = p.each b o is in
    was.1 ∙ ap Some (sym (if_same (cancels (rev b) at) was.0) ∙ (ap (λ hs. left_by (rev b) at hs b was.0) (sym none) ∙ was.2))

-- ---- the transactions of a log

-- what is left of the log ends for each block where all of it does
pub record Replaying (rev : ℕ → Option ℕ) (first table : List (Option (List ℕ))) (all rest : List LogTransaction) (at : ℕ) : Type 0 where
  pub place : at + length rest ≡ length all
  pub long : length table ≡ length first
  pub each : (b : ℕ) (o : Option (List ℕ)) → slice_get first b ≡ Some o →
      (now : Option (List ℕ)) × (slice_get table b ≡ Some now) × (replayed_by (rev b) at (map transaction_of rest) b now ≡ replayed_by (rev b) 0 (map transaction_of all) b o)

pub replaying_more : (rev : ℕ → Option ℕ) (first table : List (Option (List ℕ))) (all rest : List LogTransaction) (at : ℕ) (t : LogTransaction) (tail : List LogTransaction) (new : List (Option (List ℕ)))
    → Replaying rev first table all rest at → rest ≡ t ∷ tail → length new ≡ length table
    → ((b : ℕ) (o : Option (List ℕ)) → slice_get table b ≡ Some o → slice_get new b ≡ Some (left_by (rev b) at t.bodies.items b o))
    → Replaying rev first new all tail (at + 1)
replaying_more rev first table all rest at t tail new p e same put = record {
  place = let size = ap length e in let was = p.place in omega (arith, size, was);
  long = same ∙ p.long;
  each = λ b o is.
      let was = p.each b o is in (
        left_by (rev b) at t.bodies.items b was.0,
        put b was.0 was.1,
        ap (λ ts. replayed_by (rev b) at (map transaction_of ts) b was.0) (sym e) ∙ was.2,
      );
}

-- ---- the homes

-- the homes so far, and behind them those in what is left of the table
pub record Collecting (all rest : List (Option (List ℕ))) (block : ℕ) (homes : List Home) : Type 0 where
  pub place : block + length rest ≡ length all
  pub told : logged_of homes ++ listed block rest ≡ listed 0 all

pub collecting_more : (all rest : List (Option (List ℕ))) (block : ℕ) (homes : List Home) (o : Option (List ℕ)) (tail : List (Option (List ℕ))) (new : List Home)
    → Collecting all rest block homes → rest ≡ o ∷ tail → logged_of new ≡ logged_of homes ++ entry block o → Collecting all tail (block + 1) new
collecting_more all rest block homes o tail new p e push = record {
  place = let size = ap length e in let was = p.place in omega (arith, size, was);
  told = ap (λ xs. xs ++ listed (block + 1) tail) push
      ∙ (append_assoc (logged_of homes) (entry block o) (listed (block + 1) tail) ∙ (ap (λ os. logged_of homes ++ listed block os) (sym e) ∙ p.told));
}
