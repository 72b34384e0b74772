-- What is told, in numbers.
use Rattle.std.proofs.Common.{ℕ, ◌+◌, ◌*◌, ◌≤◌, Bool, true, false, if◌then◌else◌, List, [], ◌∷◌, length, length-append, filter, Option, Some, None, Result, Ok, Err, arith}
use Rattle.tree_model.specs.declared.call.Reply.{Reply}
use Rattle.volume_model.specs.declared.placed.Placed.{Placed}
use Rattle.volume_model.specs.declared.placed.Part.{Part}
use Rattle.volume_model.specs.declared.placed.Part.TheVariants as parts
use Rattle.volume_model.specs.declared.placed.DirectoryPart.{DirectoryPart}
use Rattle.volume_ops.specs.declared.found.Mapped.{Mapped}
use Rattle.tree_model.specs.Maps.{at_number}
use Rattle.volume_model.specs.Touched.{Touched, and_then}
use Rattle.volume_steps.specs.Now.{VolumeNow, Change, unchanged, untouched, followed_by}
use Rattle.volume_steps.specs.Steps.{at_node, at_directory, at_file}
use Rattle.host_core.specs.lengths.Lengths.{notes_in}

-- no more than `notes`, besides two for each zone that is freed, and no more pages than `pages`
pub record Few (notes pages : ℕ) (t : Touched) : Type 0 where
  pub noted : notes_in t ≤ 2 * length t.freed + notes
  pub written : length t.pages ≤ pages

pub few_more : (n m p q : ℕ) (t : Touched) → n ≤ m → p ≤ q → Few n p t → Few m q t
few_more n m p q t a b f = let noted = f.noted in let written = f.written in record { noted = omega (arith, noted, a); written = omega (arith, written, b) }

pub none_few : (n p : ℕ) → Few n p untouched
none_few n p = record { noted = omega arith; written = omega arith }

pub few_then : (n m p q : ℕ) (s t : Touched) → Few n p s → Few m q t → Few (n + m) (p + q) (and_then s t)
few_then n m p q s t f g =
    let a = f.noted in
    let b = g.noted in
    let c = f.written in
    let d = g.written in
    let blocks = length-append s.blocks t.blocks in
    let freed = length-append s.freed t.freed in
    let revoked = length-append s.revoked t.revoked in
    let pages = length-append s.pages t.pages in
    let nodes = length-append s.nodes t.nodes in
    record { noted = omega (arith, a, b, blocks, freed, revoked, nodes); written = omega (arith, c, d, pages) }

pub followed_few : (n m p q : ℕ) (c : Change) (next : VolumeNow → Change) → Few n p c.touched → ((v : VolumeNow) → Few m q (next v).touched) → Few (n + m) (p + q) (followed_by c next).touched
followed_few n m p q c next f g = few_then n m p q c.touched (next c.volume).touched f (g c.volume)

-- ---- by cases

pub if_few : (n p : ℕ) (b : Bool) (c d : Change) → Few n p c.touched → Few n p d.touched → Few n p (if b then c else d).touched
if_few n p true c d f g = f
if_few n p false c d f g = g

pub node_few : (n p : ℕ) (v : VolumeNow) (birth : ℕ) (change : Placed → Change) → ((x : Placed) → Few n p (change x).touched) → Few n p (at_node v birth change).touched
node_few n p v birth change f = by (at_number v.contents.nodes birth)
  where
    by : (o : Option Placed) → Few n p (elim o as (λ _. Change) [ None ↦ unchanged v | Some x ↦ change x ]).touched
    by None = none_few n p
    by (Some x) = f x

pub directory_few : (n p : ℕ) (v : VolumeNow) (birth : ℕ) (change : Placed → DirectoryPart → Change) → ((x : Placed) (d : DirectoryPart) → Few n p (change x d).touched) → Few n p (at_directory v birth change).touched
directory_few n p v birth change f = node_few n p v birth (λ x. elim x.part as (λ _. Change) [ parts.Directory d ↦ change x d | parts.File zones ↦ unchanged v ]) (λ x. by x x.part)
  where
    by : (x : Placed) (part : Part) → Few n p (elim part as (λ _. Change) [ parts.Directory d ↦ change x d | parts.File zones ↦ unchanged v ]).touched
    by x (parts.Directory d) = f x d
    by x (parts.File zones) = none_few n p

pub file_few : (n p : ℕ) (v : VolumeNow) (birth : ℕ) (change : Placed → List Mapped → Change) → ((x : Placed) (zones : List Mapped) → Few n p (change x zones).touched) → Few n p (at_file v birth change).touched
file_few n p v birth change f = node_few n p v birth (λ x. elim x.part as (λ _. Change) [ parts.Directory d ↦ unchanged v | parts.File zones ↦ change x zones ]) (λ x. by x x.part)
  where
    by : (x : Placed) (part : Part) → Few n p (elim part as (λ _. Change) [ parts.Directory d ↦ unchanged v | parts.File zones ↦ change x zones ]).touched
    by x (parts.Directory d) = none_few n p
    by x (parts.File zones) = f x zones

pub row_few : {A : Type 0} (n p : ℕ) (v : VolumeNow) (r : Result A Reply) (change : A → Change) → ((a : A) → Few n p (change a).touched) → Few n p (elim r as (λ _. Change) [ Err reply ↦ unchanged v | Ok a ↦ change a ]).touched
row_few n p v (Err reply) change f = none_few n p
row_few n p v (Ok a) change f = f a

-- what passes a test is no more
pub filter_less : {X : Type 0} (test : X → Bool) (xs : List X) → length (filter test xs) ≤ length xs
filter_less test [] = omega arith
filter_less test (x ∷ xs) = by (test x) (filter_less test xs)
  where
    by : (b : Bool) → length (filter test xs) ≤ length xs → length (if b then x ∷ filter test xs else filter test xs) ≤ length (x ∷ xs)
    by true h = omega (arith, h)
    by false h = omega (arith, h)
