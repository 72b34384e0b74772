-- How many puts a log holds, and what is the value of a key.
use Rattle.std.specs.Prelude.{◌≡◌, ℕ, zero, suc, ◌+◌, ◌<◌, ◌==◌, Bool, true, false, List, [], ◌∷◌, length, Option, Some, None, if◌then◌else◌, slice_get}
use Rattle.std.proofs.Common.{refl, sym, ap, subst, ◌∙◌, arith}
use Rattle.std.specs.List.Sorted.{IsStrictlySortedBy}
use Rattle.std.specs.Option.{option_and_then, option_or}
use Rattle.std.specs.Ordering.{is_eq}
use Rattle.std.specs.Str.{bytes_eq}
use Rattle.std.proofs.lemmas.Bool.{eqb-true, eq-eqb}
use Rattle.std.proofs.lemmas.Option.{same_Some, none-some}
use Rattle.std.proofs.lemmas.Slice.Eq.{bytes_eq-Decides}
use Rattle.tree_model.specs.Maps.{name_cmp, at_name, put_name}
use Rattle.tree_model.specs.laws.MapOrder.{NamesInOrder, names_in_order_put}
use Rattle.tree_model.specs.laws.MapsLaws.{at_put_name, name_here, name_same, put_apart}
use Rattle.wal_store.specs.declared.puts.Put.{Put}
use Rattle.wal_store.specs.Blocks.{decode}
use Rattle.wal_store.specs.Log.{if_numbered, put_numbered, with_first, puts_from, held_puts, Pairs, pairs_after, pairs_of, Holds, AreHeld, last_value}

-- ---- which blocks

numbered-tested : (n m : ℕ) (p q : Put) (t : Bool) → (m == n) ≡ t → (if t then Some p else None) ≡ Some q → (m ≡ n) × (p ≡ q)
numbered-tested n m p q true e h = (eqb-true m n e, same_Some p q h)
numbered-tested n m p q false e h = absurd (none-some q h)

decoded-as : (n : ℕ) (o : Option (ℕ × Put)) (q : Put) → option_and_then (if_numbered n) o ≡ Some q → o ≡ Some (n, q)
decoded-as n None q h = absurd (none-some q h)
decoded-as n (Some (m, p)) q h =
    let is = numbered-tested n m p q (m == n) refl h in
    ap (λ (x : ℕ). Some (x, p)) is.0 ∙ ap (λ (x : Put). Some (n, x)) is.1

pub numbered-decoded : (n : ℕ) (b : List ℕ) (p : Put) → put_numbered n b ≡ Some p → decode b ≡ Some (n, p)
numbered-decoded n b p h = decoded-as n (decode b) p h

pub decoded-numbered : (n : ℕ) (b : List ℕ) (p : Put) → decode b ≡ Some (n, p) → put_numbered n b ≡ Some p
decoded-numbered n b p h = ap (option_and_then (if_numbered n)) h ∙ ap (λ t. if t then Some p else None) (eq-eqb n n refl)

-- the first h blocks from place i on spell the puts of their places, and the next one does not
record AreFrom (i : ℕ) (blocks : List (List ℕ)) (h : ℕ) : Type 0 where
  all : (k : ℕ) → k < h → (p : Put) × (b : List ℕ) × (slice_get blocks k ≡ Some b) × (decode b ≡ Some (i + k + 1, p))
  next : (p : Put) (b : List ℕ) → slice_get blocks h ≡ Some b → decode b ≡ Some (i + h + 1, p) → ⊥

are-more : (i : ℕ) (b : List ℕ) (bs : List (List ℕ)) (o : Option Put) → put_numbered (i + 1) b ≡ o → AreFrom (i + 1) bs (length (puts_from (i + 1) bs)) → AreFrom i (b ∷ bs) (length (with_first o (puts_from (i + 1) bs)))
are-more i b bs None e is = record {
  all = λ k lt. absurd (omega arith);
  next = λ p c here spelled.
      let same : b ≡ c = same_Some b c here in
      let first : i + 0 + 1 ≡ i + 1 = omega arith in
      none-some p (sym e ∙ decoded-numbered (i + 1) b p (ap decode same ∙ spelled ∙ ap (λ (n : ℕ). Some (n, p)) first));
}
are-more i b bs (Some p) e is = record {
  all = all;
  next = λ q c here spelled.
      let later : i + suc (length (puts_from (i + 1) bs)) + 1 ≡ i + 1 + length (puts_from (i + 1) bs) + 1 = omega arith in
      is.next q c here (spelled ∙ ap (λ (n : ℕ). Some (n, q)) later);
}
  where
    all : (k : ℕ) → k < suc (length (puts_from (i + 1) bs)) → (q : Put) × (c : List ℕ) × (slice_get (b ∷ bs) k ≡ Some c) × (decode c ≡ Some (i + k + 1, q))
    all zero lt =
        let first : i + 1 ≡ i + 0 + 1 = omega arith in
        (p, b, refl, numbered-decoded (i + 1) b p e ∙ ap (λ (n : ℕ). Some (n, p)) first)
    all (suc k) lt =
        let rest = is.all k (omega arith) in
        let later : i + 1 + k + 1 ≡ i + suc k + 1 = omega arith in
        (rest.0, rest.1, rest.2, rest.3 ∙ ap (λ (n : ℕ). Some (n, rest.0)) later)

are-from : (i : ℕ) (blocks : List (List ℕ)) → AreFrom i blocks (length (puts_from i blocks))
are-from i [] = record { all = λ k lt. absurd (omega arith); next = λ p b here. absurd (none-some b here) }
are-from i (b ∷ bs) = are-more i b bs (put_numbered (i + 1) b) refl (are-from (i + 1) bs)

pub are-held : (blocks : List (List ℕ)) → AreHeld blocks (length (held_puts blocks))
are-held blocks =
    let is = are-from 0 blocks in
    record {
      all = λ i lt.
          let x = is.all i lt in
          let same : 0 + i + 1 ≡ i + 1 = omega arith in
          (x.0, (x.1, x.2, x.3 ∙ ap (λ (n : ℕ). Some (n, x.0)) same));
      next = λ p x.
          let same : length (held_puts blocks) + 1 ≡ 0 + length (held_puts blocks) + 1 = omega arith in
          is.next p x.0 x.1 (x.2 ∙ ap (λ (n : ℕ). Some (n, p)) same);
    }

-- ---- which pairs

or-or : {A : Type 0} (a b c : Option A) → option_or (option_or a b) c ≡ option_or a (option_or b c)
or-or None b c = refl
or-or (Some x) b c = refl

apart : (k j : List ℕ) → bytes_eq k j ≡ false → is_eq (name_cmp j k) ≡ false
apart k j differ = answered (is_eq (name_cmp j k)) refl
  where
    answered : (t : Bool) → is_eq (name_cmp j k) ≡ t → t ≡ false
    answered false e = refl
    answered true e = let same = name_same j k e in let is = (bytes_eq-Decides k j).1 (sym same) in cc

one-more : (pairs : Pairs) (p : Put) (key : List ℕ) (t : Bool) → bytes_eq p.key key ≡ t
    → at_name (put_name pairs p.key p.value) key ≡ option_or (if t then Some p.value else None) (at_name pairs key)
one-more pairs p key true e =
    let same = (bytes_eq-Decides p.key key).0 e in
    ap (at_name (put_name pairs p.key p.value)) (sym same) ∙ at_put_name pairs p.key p.value
one-more pairs p key false e = put_apart name_cmp name_here name_same pairs p.key p.value key (apart p.key key e)

value-after : (pairs : Pairs) (ps : List Put) (key : List ℕ) → at_name (pairs_after pairs ps) key ≡ option_or (last_value ps key) (at_name pairs key)
value-after pairs [] key = refl
value-after pairs (p ∷ ps) key =
    value-after (put_name pairs p.key p.value) ps key
    ∙ ap (option_or (last_value ps key)) (one-more pairs p key (bytes_eq p.key key) refl)
    ∙ sym (or-or (last_value ps key) (if bytes_eq p.key key then Some p.value else None) (at_name pairs key))

or-none : {A : Type 0} (a : Option A) → option_or a None ≡ a
or-none None = refl
or-none (Some x) = refl

pub last-values : (ps : List Put) (key : List ℕ) → at_name (pairs_of ps) key ≡ last_value ps key
last-values ps key = value-after [] ps key ∙ or-none (last_value ps key)

ordered-after : (pairs : Pairs) (ps : List Put) → NamesInOrder pairs → NamesInOrder (pairs_after pairs ps)
ordered-after pairs [] o = o
ordered-after pairs (p ∷ ps) o = ordered-after (put_name pairs p.key p.value) ps (names_in_order_put pairs p.key p.value o)

pub pairs-ordered : (ps : List Put) → NamesInOrder (pairs_of ps)
unfolding IsStrictlySortedBy
pairs-ordered ps = ordered-after [] ps tt
