-- Lists that are written piece by piece.
use Rattle.std.specs.Prelude.{◌≡◌, ℕ, zero, suc, ◌+◌, ◌<◌, ◌≤◌, List, [], ◌∷◌, ◌++◌, take, length, slice_get, get_or, Option, Some, None, refl}
use Rattle.std.specs.List.{concat}
use Rattle.std.specs.Io.KnownBytes.{Appends}
use Rattle.std.proofs.Common.{sym, ap, subst, ◌∙◌, arith, append_assoc, append-nil, ⊎_elim}
use Rattle.std.proofs.lemmas.Bool.{cases_lt}
use Rattle.std.proofs.lemmas.List.Elements.{All-from_get_or}
use Rattle.std.proofs.KnownBytes.{Appends-trans}
use Rattle.std.proofs.lemmas.Option.{none-some, same_Some}
use Rattle.blk_base.specs.Image.{whole_blocks}
use Rattle.blk_base.specs.laws.Cutting.{cut_is_whole_blocks}
use Rattle.blk_base.specs.Streams.{AppendsFront}

next_at : (xs : List (List ℕ)) (k : ℕ) (x : List ℕ) → slice_get xs k ≡ Some x → concat (take (suc k) xs) ≡ concat (take k xs) ++ x
next_at [] k x e = absurd (none-some x e)
next_at (y ∷ ys) zero x e = append-nil y ∙ same_Some y x e
next_at (y ∷ ys) (suc k) x e = ap (λ (zs : List ℕ). y ++ zs) (next_at ys k x e) ∙ sym (append_assoc y (concat (take k ys)) x)

-- one piece more
pub concat_next : (xs : List (List ℕ)) (k : ℕ) (x : List ℕ) → slice_get xs k ≡ Some x → concat (take (k + 1) xs) ≡ concat (take k xs) ++ x
concat_next xs k x e =
    let one : k + 1 ≡ suc k = omega arith in
    ap (λ (n : ℕ). concat (take n xs)) one ∙ next_at xs k x e

split_at : (xs : List (List ℕ)) (k : ℕ) (x : List ℕ) → slice_get xs k ≡ Some x → (rest : List ℕ) × (concat xs ≡ concat (take k xs) ++ (x ++ rest))
split_at [] k x e = absurd (none-some x e)
split_at (y ∷ ys) zero x e = (concat ys, ap (λ (z : List ℕ). z ++ concat ys) (same_Some y x e))
split_at (y ∷ ys) (suc k) x e = let r = split_at ys k x e in (r.0, ap (λ (zs : List ℕ). y ++ zs) r.1 ∙ sym (append_assoc y (concat (take k ys)) (x ++ r.0)))

front_in : (xs rest : List ℕ) (m : ℕ) → (n : ℕ) × (take n (xs ++ rest) ≡ take m xs)
front_in [] rest zero = (0, refl)
front_in [] rest (suc m) = (0, refl)
front_in (x ∷ xs) rest zero = (0, refl)
front_in (x ∷ xs) rest (suc m) = let r = front_in xs rest m in (suc r.0, ap (λ (zs : List ℕ). x ∷ zs) r.1)

front_behind : (ps xs rest : List ℕ) (m : ℕ) → (n : ℕ) × (take n (ps ++ (xs ++ rest)) ≡ ps ++ take m xs)
front_behind [] xs rest m = front_in xs rest m
front_behind (p ∷ ps) xs rest m = let r = front_behind ps xs rest m in (suc r.0, ap (λ (zs : List ℕ). p ∷ zs) r.1)

-- some pieces and a front of the next are a front of all
pub front_of_all : (xs : List (List ℕ)) (k : ℕ) (x : List ℕ) (old mid new : Option (List ℕ)) → slice_get xs k ≡ Some x → Appends old mid (concat (take k xs)) → AppendsFront mid new x → AppendsFront old new (concat xs)
front_of_all xs k x old mid new e done front =
    let s = split_at xs k x e in
    let n = front_behind (concat (take k xs)) x s.0 front.0 in
    (n.0, subst (Appends old new) (sym (ap (take n.0) s.1 ∙ n.1)) (Appends-trans old mid new (concat (take k xs)) (take front.0 x) done front.1))

-- ---- blocks of one length

get_at : (xs : List (List ℕ)) (i : ℕ) (x : List ℕ) → slice_get xs i ≡ Some x → get_or xs i [] ≡ x
get_at [] i x e = absurd (none-some x e)
get_at (y ∷ ys) zero x e = same_Some y x e
get_at (y ∷ ys) (suc i) x e = get_at ys i x e

-- one block more
pub sizes_more : (xs : List (List ℕ)) (b : ℕ) (x : List ℕ) → slice_get xs b ≡ Some x → length x ≡ 1024 → ((i : ℕ) → i < b → length (get_or xs i []) ≡ 1024)
    → (i : ℕ) → i < b + 1 → length (get_or xs i []) ≡ 1024
sizes_more xs b x e size before i lt =
    ⊎_elim
    (λ less. before i less)
    (λ least. let here : b ≡ i = omega (arith, lt, least) in subst (λ (k : ℕ). length (get_or xs k []) ≡ 1024) here (ap length (get_at xs b x e) ∙ size))
    (cases_lt i b)

-- they are the whole blocks of their bytes
pub whole_again : (xs : List (List ℕ)) → ((i : ℕ) → i < length xs → length (get_or xs i []) ≡ 1024) → whole_blocks (concat xs) ≡ xs
whole_again xs sizes = sym (cut_is_whole_blocks (concat xs) xs [] (record {
  all = sym (append-nil (concat xs));
  whole = All-from_get_or (λ (b : List ℕ). length b ≡ 1024) xs [] sizes;
  under = omega arith;
}))
