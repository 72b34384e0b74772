-- The block of a put is read as that put, and a block that is read as a put is its block.
use Rattle.std.specs.Prelude.{◌≡◌, ℕ, ◌+◌, ◌-◌, ◌*◌, ◌^◌, ◌<◌, ◌≤◌, ◌&&◌, ◌==◌, Bool, true, false, not, nat_le, List, [], ◌∷◌, ◌++◌, length, take, drop, slice_index, Option, Some, None, if◌then◌else◌}
use Rattle.std.proofs.Common.{refl, sym, ap, ap₂, subst, ◌∙◌, arith, append_assoc}
use Rattle.std.specs.List.{list_all}
use Rattle.std.specs.Str.{bytes_eq}
use Rattle.std.specs.Int.{byte_at}
use Rattle.std.proofs.lemmas.Bool.{and_parts, and_from, leb-true}
use Rattle.std.proofs.lemmas.Slice.Eq.{bytes_eq-Decides}
use Rattle.std.proofs.lemmas.Option.{same_Some, none-some}
use Rattle.std.proofs.lemmas.List.{take_at, drop_at, length-append}
use Rattle.tree_model.specs.Paths.{is_name_byte}
use Rattle.byte_fields.specs.Fields.{zeros, bytes_of, number_of, number_at}
use Rattle.byte_fields.specs.Fields.Order.{big}
use Rattle.byte_fields.specs.laws.ReadLaws.{length-zeros, length-bytes_of}
use Rattle.wal_store.specs.declared.puts.Put.{Put}
use Rattle.wal_store.specs.Puts.{is_text, is_key, is_value, IsPut}
use Rattle.wal_store.specs.Blocks.{magic, record_of, spelled, encode, number_in, key_in, value_in, put_in, spells, decode}

-- ---- how long

text-few : (most : ℕ) (t : List ℕ) → is_text most t ≡ true → length t ≤ most
text-few most t is =
    let p = and_parts (not (length t == 0)) (nat_le (length t) most && list_all is_name_byte t) is in
    let q = and_parts (nat_le (length t) most) (list_all is_name_byte t) p.1 in
    leb-true (length t) most q.0

pub key-few : (t : List ℕ) → is_key t ≡ true → length t ≤ 32
key-few t is = text-few 32 t is

pub value-few : (t : List ℕ) → is_value t ≡ true → length t ≤ 200
value-few t is = text-few 200 t is

pub length-record : (n : ℕ) (k v : List ℕ) → length (record_of n k v) ≡ 10 + (length k + length v)
length-record n k v =
    let number = length-bytes_of big 4 n in
    let texts = length-append k v in
    let behind = length-append (bytes_of big 4 n) (length k ∷ length v ∷ (k ++ v)) in
    omega arith

pub length-spelled : (n : ℕ) (k v : List ℕ) → length k ≤ 32 → length v ≤ 200 → length (spelled n k v) ≡ 1024
unfolding spelled
length-spelled n k v few most =
    let record_length = length-record n k v in
    let rest = length-zeros (1024 - length (record_of n k v)) in
    let whole = length-append (record_of n k v) (zeros (1024 - length (record_of n k v))) in
    omega arith

-- ---- what stands where

-- what stands behind the value
abbrev behind : ℕ → List ℕ → List ℕ → List ℕ
behind n k v = zeros (1024 - length (record_of n k v))

-- the four bytes of a number
four : (n : ℕ) → bytes_of big 4 n ≡ byte_at 3 n ∷ byte_at 2 n ∷ byte_at 1 n ∷ byte_at 0 n ∷ []
unfolding bytes_of
four n = refl

pub fields : (n : ℕ) (k v : List ℕ) → spelled n k v ≡ 87 ∷ 65 ∷ 76 ∷ 49 ∷ byte_at 3 n ∷ byte_at 2 n ∷ byte_at 1 n ∷ byte_at 0 n ∷ length k ∷ length v ∷ (k ++ (v ++ behind n k v))
unfolding spelled bytes_of
fields n k v = ap (λ r. 87 ∷ 65 ∷ 76 ∷ 49 ∷ byte_at 3 n ∷ byte_at 2 n ∷ byte_at 1 n ∷ byte_at 0 n ∷ length k ∷ length v ∷ r) (append_assoc k v (behind n k v))

pub key-spelled : (n : ℕ) (k v : List ℕ) → key_in (spelled n k v) ≡ k
key-spelled n k v = ap key_in (fields n k v) ∙ take_at k (v ++ behind n k v) (length k) refl

pub value-spelled : (n : ℕ) (k v : List ℕ) → value_in (spelled n k v) ≡ v
value-spelled n k v =
    ap value_in (fields n k v)
    ∙ ap (take (length v)) (drop_at k (v ++ behind n k v) (length k) refl)
    ∙ take_at v (behind n k v) (length v) refl

number-bytes : (n : ℕ) → byte_at 3 n * 256 ^ 3 + (byte_at 2 n * 256 ^ 2 + (byte_at 1 n * 256 ^ 1 + (byte_at 0 n * 256 ^ 0 + 0))) < 2 ^ 32
number-bytes n = omega arith

pub number-below : (n : ℕ) (k v : List ℕ) → number_in (spelled n k v) < 2 ^ 32
unfolding number_at number_of
number-below n k v = subst (λ b. number_in b < 2 ^ 32) (sym (fields n k v)) (number-bytes n)

pub number-spelled : (n : ℕ) (k v : List ℕ) → n < 2 ^ 32 → number_in (spelled n k v) ≡ n
unfolding number_at number_of
number-spelled n k v below = ap number_in (fields n k v) ∙ omega (arith, below)

-- ---- the laws

same-bytes : (b : List ℕ) → bytes_eq b b ≡ true
same-bytes b = (bytes_eq-Decides b b).1 refl

pub decode-encode : (n : ℕ) (p : Put) → n < 2 ^ 32 → IsPut p → decode (encode n p) ≡ Some (n, p)
decode-encode n p below is =
    let number = number-spelled n p.key p.value below in
    let key = key-spelled n p.key p.value in
    let value = value-spelled n p.key p.value in
    rw (number, key, value, is.key, is.value, same-bytes (spelled n p.key p.value)) refl

chosen : {A : Type 0} (x y : A) (t : Bool) → (if t then Some x else None) ≡ Some y → (t ≡ true) × (x ≡ y)
chosen x y true h = (refl, same_Some x y h)
chosen x y false h = absurd (none-some y h)

pub decode-read : (b : List ℕ) (n : ℕ) (p : Put) → decode b ≡ Some (n, p) → (n < 2 ^ 32) × IsPut p × (b ≡ encode n p)
decode-read b n p h =
    let is = chosen {A = ℕ × Put} (number_in b, put_in b) (n, p) (spells b) h in
    let number : number_in b ≡ n = ap (λ (x : ℕ × Put). x.0) is.1 in
    let put : put_in b ≡ p = ap (λ (x : ℕ × Put). x.1) is.1 in
    let one = and_parts (is_key (key_in b)) (is_value (value_in b) && bytes_eq b (spelled (number_in b) (key_in b) (value_in b))) is.0 in
    let two = and_parts (is_value (value_in b)) (bytes_eq b (spelled (number_in b) (key_in b) (value_in b))) one.1 in
    let whole : b ≡ spelled (number_in b) (key_in b) (value_in b) = (bytes_eq-Decides b (spelled (number_in b) (key_in b) (value_in b))).0 two.1 in
    let below : number_in b < 2 ^ 32 = subst (λ c. number_in c < 2 ^ 32) (sym whole) (number-below (number_in b) (key_in b) (value_in b)) in (
      subst (λ m. m < 2 ^ 32) number below,
      subst IsPut put (record { key = one.0; value = two.0 }),
      whole ∙ ap₂ encode number put,
    )

pub decode-iff : (b : List ℕ) (n : ℕ) (p : Put) → (n < 2 ^ 32) × IsPut p × (b ≡ encode n p) → decode b ≡ Some (n, p)
decode-iff b n p is = ap decode is.2 ∙ decode-encode n p is.0 is.1

-- ---- the block as it is written, one part after the other

pub spelled-chain : (n : ℕ) (k v a b c d e f r : List ℕ)
    → a ≡ [] → b ≡ a ++ magic → c ≡ b ++ bytes_of big 4 n → d ≡ c ++ (length k ∷ length v ∷ []) → e ≡ d ++ k → f ≡ e ++ v
    → r ≡ f ++ zeros (1024 - length f) → r ≡ spelled n k v
unfolding spelled
spelled-chain n k v a b c d e f r is-a is-b is-c is-d is-e is-f is-r =
    let front : d ≡ magic ++ (bytes_of big 4 n ++ (length k ∷ length v ∷ [])) =
    is-d ∙ ap (λ x. x ++ (length k ∷ length v ∷ [])) (is-c ∙ ap (λ x. x ++ bytes_of big 4 n) (is-b ∙ ap (λ x. x ++ magic) is-a))
    ∙ append_assoc magic (bytes_of big 4 n) (length k ∷ length v ∷ []) in
    let whole : f ≡ record_of n k v =
    is-f ∙ ap (λ x. x ++ v) (is-e ∙ ap (λ x. x ++ k) front)
    ∙ append_assoc (magic ++ (bytes_of big 4 n ++ (length k ∷ length v ∷ []))) k v
    ∙ append_assoc magic (bytes_of big 4 n ++ (length k ∷ length v ∷ [])) (k ++ v)
    ∙ ap (λ x. magic ++ x) (append_assoc (bytes_of big 4 n) (length k ∷ length v ∷ []) (k ++ v)) in
    is-r ∙ ap (λ x. x ++ zeros (1024 - length x)) whole
