-- The block of a put has bytes alone.
use Rattle.std.specs.Prelude.{◌≡◌, ℕ, zero, suc, ◌-◌, ◌<◌, ◌&&◌, ◌==◌, true, not, nat_le, List, [], ◌∷◌, ◌++◌, length}
use Rattle.std.proofs.Common.{sym, subst, arith, lit≤}
use Rattle.std.specs.Int.{byte_at}
use Rattle.std.specs.List.{list_all}
use Rattle.std.proofs.lemmas.Bool.{and_parts}
use Rattle.std.proofs.lemmas.Bool.Decides.{nat_tests}
use Rattle.hex.specs.Hex.{IsBytes}
use Rattle.byte_fields.specs.Fields.{zeros}
use Rattle.tree_model.specs.Paths.{is_name_byte}
use Rattle.wal_store.specs.declared.puts.Put.{Put}
use Rattle.wal_store.specs.Puts.{IsPut, is_text}
use Rattle.wal_store.specs.Blocks.{record_of, encode}
use Rattle.wal_store.proofs.Spelled.{fields, key-few, value-few}

-- all of them are bytes, one by one
abbrev Small : List ℕ → Type 0
Small [] = Unit {0}
Small (x ∷ xs) = (x < 256) × Small xs

small-bytes : (xs : List ℕ) → Small xs → IsBytes xs
small-bytes [] all k = omega arith
small-bytes (x ∷ xs) all zero = all.0
small-bytes (x ∷ xs) all (suc k) = small-bytes xs all.1 k

append-small : (xs ys : List ℕ) → Small xs → Small ys → Small (xs ++ ys)
append-small [] ys one two = two
append-small (x ∷ xs) ys one two = (one.0, append-small xs ys one.1 two)

zero-small : (n : ℕ) → Small (zeros n)
unfolding zeros
zero-small zero = tt
zero-small (suc n) = (lit≤ tt, zero-small n)

name-byte : (b : ℕ) → is_name_byte b ≡ true → b < 256
name-byte b is = grind (arith, nat_tests)

name-small : (xs : List ℕ) → list_all is_name_byte xs ≡ true → Small xs
name-small [] all = tt
name-small (x ∷ xs) all =
    let p = and_parts (is_name_byte x) (list_all is_name_byte xs) all in
    (name-byte x p.0, name-small xs p.1)

text-small : (most : ℕ) (t : List ℕ) → is_text most t ≡ true → Small t
text-small most t is =
    let p = and_parts (not (length t == 0)) (nat_le (length t) most && list_all is_name_byte t) is in
    let q = and_parts (nat_le (length t) most) (list_all is_name_byte t) p.1 in
    name-small t q.1

low-byte : (i n : ℕ) → byte_at i n < 256
low-byte zero n = omega arith
low-byte (suc i) n = omega arith

encode-small : (n : ℕ) (p : Put) → IsPut p → Small (encode n p)
encode-small n p is =
    let few = key-few p.key is.key in
    let most = value-few p.value is.value in
    let texts = append-small p.key _ (text-small 32 p.key is.key) (append-small p.value _ (text-small 200 p.value is.value) (zero-small (1024 - length (record_of n p.key p.value)))) in
    subst Small (sym (fields n p.key p.value))
    (lit≤ tt, (lit≤ tt, (lit≤ tt, (lit≤ tt, (low-byte 3 n, (low-byte 2 n, (low-byte 1 n, (low-byte 0 n, (omega (arith, few), (omega (arith, most), texts))))))))))

pub encode-bytes : (n : ℕ) (p : Put) → IsPut p → IsBytes (encode n p)
encode-bytes n p is = small-bytes (encode n p) (encode-small n p is)
