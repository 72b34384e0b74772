-- Calls one after the other, as they are put behind others.
use Rattle.std.specs.Prelude.{◌≡◌, ℕ, ◌+◌, ◌<◌, ◌≤◌, List, ◌∷◌, ◌++◌, length, drop, get_or}
use Rattle.std.proofs.Common.{refl, sym, ap, ap₂, subst, ◌∙◌, arith, append_assoc, add-one, drop-cons}
use Rattle.tree_model.specs.declared.call.Call.{Call}
use Rattle.wal_store.specs.declared.puts.Op.{Op}
use Rattle.wal_store.specs.declared.puts.Op.TheVariants as ops
use Rattle.wal_store.specs.declared.calls.calls.TheConstants.{MOST_ROOM}
use Rattle.wal_store.specs.calls.Calls.{op_calls, next, calls_from, put_count, ArePuts, Fits}

-- what is left from place k on is what stands there, and what is left behind it
pub from-place : (xs : List Op) (k : ℕ) (d : Op) → k < length xs → drop k xs ≡ get_or xs k d ∷ drop (k + 1) xs
from-place xs k d lt = rw (add-one, drop-cons xs k d lt) refl

module _ (xs : List Op) (k : ℕ) (d : Op) (lt : k < length xs) where
  pub calls-more : (i after : ℕ) (made more : List Call) → more ≡ made ++ op_calls i (get_or xs k d) → after ≡ next i (get_or xs k d) → more ++ calls_from after (drop (k + 1) xs) ≡ made ++ calls_from i (drop k xs)
  calls-more i after made more is-more is-after =
      ap₂ (λ m n. m ++ calls_from n (drop (k + 1) xs)) is-more is-after
      ∙ append_assoc made (op_calls i (get_or xs k d)) (calls_from (next i (get_or xs k d)) (drop (k + 1) xs))
      ∙ ap (λ ys. made ++ calls_from i ys) (sym (from-place xs k d lt))

  counted-op : (x : Op) (ys : List Op) (i : ℕ) → next i x + put_count ys ≡ i + put_count (x ∷ ys)
  counted-op (ops.Put p) ys i = omega arith
  counted-op ops.Flush ys i = refl

  pub counted-more : (i after : ℕ) → after ≡ next i (get_or xs k d) → after + put_count (drop (k + 1) xs) ≡ i + put_count (drop k xs)
  counted-more i after is-after =
      ap (λ n. n + put_count (drop (k + 1) xs)) is-after
      ∙ counted-op (get_or xs k d) (drop (k + 1) xs) i
      ∙ ap (λ ys. i + put_count ys) (sym (from-place xs k d lt))

  puts-rest : (x : Op) (ys : List Op) → ArePuts (x ∷ ys) → ArePuts ys
  puts-rest (ops.Put p) ys all = all.1
  puts-rest ops.Flush ys all = all

  pub puts-more : ArePuts (drop k xs) → ArePuts (drop (k + 1) xs)
  puts-more all = puts-rest (get_or xs k d) (drop (k + 1) xs) (subst ArePuts (from-place xs k d lt) all)

  fits-first : (x : Op) (ys : List Op) (i : ℕ) → i + put_count (x ∷ ys) ≤ MOST_ROOM → ArePuts (x ∷ ys) → Fits i x
  fits-first (ops.Put p) ys i few all = (omega (arith, few), all.0)
  fits-first ops.Flush ys i few all = tt

  pub fits-here : (i : ℕ) → i + put_count (drop k xs) ≤ MOST_ROOM → ArePuts (drop k xs) → Fits i (get_or xs k d)
  fits-here i few all =
      fits-first (get_or xs k d) (drop (k + 1) xs) i (subst (λ ys. i + put_count ys ≤ MOST_ROOM) (from-place xs k d lt) few) (subst ArePuts (from-place xs k d lt) all)
