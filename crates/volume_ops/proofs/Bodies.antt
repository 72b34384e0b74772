-- The bodies of blocks that rise, put into a map one after the other.
use Rattle.std.proofs.Common.{◌≡◌, ℕ, zero, suc, ◌+◌, ◌<◌, ◌≤◌, List, [], ◌∷◌, ◌++◌, length, take, get_or, refl, sym, ap, ◌∙◌, arith}
use Rattle.std.specs.Ordering.{match_ordering}
use Rattle.std.specs.Cmp.{nat_cmp_is}
use Rattle.std.specs.declared.cmp.Ordering.TheVariants.{Greater}
use Rattle.std.proofs.lemmas.List.{map_more}
use Rattle.tree_model.specs.Maps.{put_number}
use Rattle.volume_ops.specs.declared.found.Mapped.{Mapped}
use Rattle.volume_ops.specs.Volume.{disk_of, bodies_of}
use Rattle.volume_ops.specs.laws.Rising.{RiseWithin, IsRising}

-- each key is below k
abbrev pub KeysBelow : {X : Type 0} → ℕ → List (ℕ × X) → Type 0
KeysBelow k [] = Unit {0}
KeysBelow k (e ∷ es) = (e.0 < k) × KeysBelow k es

-- a key above all others goes to the end
pub put_last : {X : Type 0} (es : List (ℕ × X)) (k : ℕ) (x : X) → KeysBelow k es → put_number es k x ≡ es ++ (k, x) ∷ []
put_last [] k x h = refl
put_last (e ∷ es) k x h =
    let above = nat_cmp_is k e.0 Greater h.0 in
    ap (λ o. match_ordering o ((k, x) ∷ e ∷ es) ((e.0, x) ∷ es) (e ∷ put_number es k x)) (sym above)
    ∙ ap (λ es. e ∷ es) (put_last es k x h.1)

-- the blocks before one of a list that rises have lesser indices
pub keys_before : (blocks : List (List ℕ)) (low high : ℕ) (ms : List Mapped) (i : ℕ) (d : Mapped) → RiseWithin low ms high → i < length ms
    → (low ≤ (get_or ms i d).index) × KeysBelow (get_or ms i d).index (bodies_of blocks (take i ms))
keys_before blocks low high [] i d r h = absurd (omega arith)
keys_before blocks low high (m ∷ ms) zero d r h = (r.0, tt)
keys_before blocks low high (m ∷ ms) (suc i) d r h =
    let lt : i < length ms = omega arith in
    let rest = keys_before blocks (m.index + 1) high ms i d r.1 lt in
    let above = rest.0 in
    let first = r.0 in
    (omega (arith, above, first), (omega (arith, above), rest.1))

-- one more body
pub put_body : (blocks : List (List ℕ)) (ms : List Mapped) (i zone : ℕ) (d : Mapped) (bodies : List (ℕ × List ℕ)) (body : List ℕ) → IsRising ms → i < length ms
    → bodies ≡ bodies_of blocks (take i ms) → zone ≡ (get_or ms i d).zone → body ≡ disk_of blocks zone
    → put_number bodies (get_or ms i d).index body ≡ bodies_of blocks (take (i + 1) ms)
put_body blocks ms i zone d bodies body r h so_far z e =
    let m = get_or ms i d in
    ap (λ es. put_number es m.index body) so_far
    ∙ (ap (put_number (bodies_of blocks (take i ms)) m.index) (e ∙ ap (disk_of blocks) z)
    ∙ (put_last (bodies_of blocks (take i ms)) m.index (disk_of blocks m.zone) (keys_before blocks 0 262663 ms i d r h).1
    ∙ sym (map_more (λ m. (m.index, disk_of blocks m.zone)) ms i d h)))
