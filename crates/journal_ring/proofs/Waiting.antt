-- Bodies that wait, while those of a transaction come in.
use Rattle.std.proofs.Common.{◌≡◌, ℕ, ◌+◌, ◌<◌, ◌≤◌, ◌==◌, ◌||◌, Bool, true, false, not, if◌then◌else◌, List, [], ◌∷◌, length, drop, get_or, refl, sym, ap, subst, ◌∙◌, arith, eqb-true, eq-eqb}
use Rattle.std.specs.List.{filter}
use Rattle.std.proofs.lemmas.Bool.{false≢true}
use Rattle.std.proofs.lemmas.List.{drop_more, drop_all}
use Rattle.std.proofs.lemmas.List.Sums.{length-filter, count_by-le-length}
use Rattle.blk_base.specs.Members.{IsAscending}
use Rattle.blk_base.specs.laws.Members.{IsAscending-filter}
use Rattle.log_model.specs.Marks.{Logged}
use Rattle.number_sets.specs.Keyed.{drop_by}
use Rattle.number_sets.specs.Sets.{has}
use Rattle.number_sets.specs.laws.Keyed.{ascending-put_by, put_by-longer}
use Rattle.journal_ring.specs.LogRing.{put_home, put_homes}

abbrev pub block_of : Logged → ℕ
block_of l = l.block

-- ---- bodies come in

-- `rest` is still to come
pub record Putting (first all : List Logged) (room : ℕ) (homes rest : List Logged) (left now : ℕ) : Type 0 where
  pub size : left ≡ length rest
  pub ends : put_homes homes rest ≡ put_homes first all
  pub rising : IsAscending block_of homes
  pub fits : length homes + length rest ≤ now
  pub grows : room ≤ now

pub putting_more : (first all homes rest : List Logged) (l : Logged) (tail new : List Logged) (room left less now after : ℕ)
    → Putting first all room homes rest left now → rest ≡ l ∷ tail → less + 1 ≡ left → new ≡ put_home homes l → now ≤ after → Putting first all room new tail less after
putting_more first all homes rest l tail new room left less now after p e one put more =
    let size = ap length e in
    let was = p.size in
    let longer = put_by-longer block_of homes l in
    let fits = p.fits in
    let grows = p.grows in
    subst (λ hs. Putting first all room hs tail less after) (sym put)
    (record {
      size = omega (arith, size, was, one);
      ends = ap (put_homes homes) (sym e) ∙ p.ends;
      rising = ascending-put_by block_of homes l p.rising;
      fits = omega (arith, size, longer, fits, more);
      grows = omega (arith, grows, more);
    })

-- ---- revoked blocks go

abbrev pub unrevoked : List ℕ → List Logged → List Logged
unrevoked blocks hs = filter (λ (l : Logged). not (has blocks l.block)) hs

front : (b : ℕ) (bs : List ℕ) (hs : List Logged) → unrevoked (b ∷ bs) hs ≡ unrevoked bs (drop_by block_of hs b)
front b bs [] = refl
front b bs (h ∷ hs) = by (front b bs hs) (b == h.block) refl (h.block == b) refl
  where
    by : unrevoked (b ∷ bs) hs ≡ unrevoked bs (drop_by block_of hs b) → (s : Bool) → (b == h.block) ≡ s → (t : Bool) → (h.block == b) ≡ t
        → (if not (s || has bs h.block) then h ∷ unrevoked (b ∷ bs) hs else unrevoked (b ∷ bs) hs) ≡ unrevoked bs (if not t then h ∷ drop_by block_of hs b else drop_by block_of hs b)
    by rest true e true d = rest
    by rest false e false d = ap (λ ls. if not (has bs h.block) then h ∷ ls else ls) rest
    by rest true e false d = absurd (false≢true (sym d ∙ eq-eqb h.block b (sym (eqb-true b h.block e))))
    by rest false e true d = absurd (false≢true (sym e ∙ eq-eqb b h.block (sym (eqb-true h.block b d))))

-- the blocks from place `at` on are still to go
pub record Dropping (blocks : List ℕ) (first : List Logged) (room : ℕ) (homes : List Logged) (at now : ℕ) : Type 0 where
  pub ends : unrevoked (drop at blocks) homes ≡ unrevoked blocks first
  pub rising : IsAscending block_of homes
  pub same : now ≡ room

pub dropping_more : (blocks : List ℕ) (first homes new : List Logged) (room at now after d : ℕ) → Dropping blocks first room homes at now → at < length blocks
    → new ≡ drop_by block_of homes (get_or blocks at d) → after ≡ now → Dropping blocks first room new (at + 1) after
dropping_more blocks first homes new room at now after d p inside e same =
    subst (λ hs. Dropping blocks first room hs (at + 1) after) (sym e)
    (record {
      ends = sym (ap (λ bs. unrevoked bs homes) (drop_more blocks at d inside) ∙ front (get_or blocks at d) (drop (at + 1) blocks) homes) ∙ p.ends;
      rising = IsAscending-filter block_of (λ l. not (l.block == get_or blocks at d)) homes p.rising;
      same = same ∙ p.same;
    })

unrevoked_none : (hs : List Logged) → unrevoked [] hs ≡ hs
unrevoked_none [] = refl
unrevoked_none (h ∷ hs) = ap (λ ls. h ∷ ls) (unrevoked_none hs)

pub dropped_all : (blocks : List ℕ) (first homes : List Logged) (room at now : ℕ) → Dropping blocks first room homes at now → length blocks ≤ at → homes ≡ unrevoked blocks first
dropped_all blocks first homes room at now p past =
    sym (ap (λ bs. unrevoked bs homes) (drop_all at blocks past) ∙ unrevoked_none homes) ∙ p.ends

-- ---- both

pub put_homes-rising : (homes bodies : List Logged) → IsAscending block_of homes → IsAscending block_of (put_homes homes bodies)
put_homes-rising homes [] a = a
put_homes-rising homes (l ∷ ls) a = put_homes-rising (put_home homes l) ls (ascending-put_by block_of homes l a)

pub put_homes-longer : (homes bodies : List Logged) → length (put_homes homes bodies) ≤ length homes + length bodies
put_homes-longer homes [] = omega arith
put_homes-longer homes (l ∷ ls) =
    let one = put_by-longer block_of homes l in
    let rest = put_homes-longer (put_home homes l) ls in
    omega (arith, one, rest)

pub unrevoked-fewer : (blocks : List ℕ) (homes : List Logged) → length (unrevoked blocks homes) ≤ length homes
unrevoked-fewer blocks homes =
    let fewer = count_by-le-length (λ (l : Logged). not (has blocks l.block)) homes in
    let size = length-filter (λ (l : Logged). not (has blocks l.block)) homes in
    omega (arith, fewer, size)
