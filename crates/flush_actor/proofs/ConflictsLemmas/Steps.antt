-- What is held and wanted, at each step of the code.
use Rattle.std.proofs.Common.{◌≡◌, ℕ, ◌<◌, ◌==◌, Bool, not, List, [], ◌∷◌, length, Some, Ok, Err, Result, refl, sym, ap, subst, ◌∙◌, inl, inr, ⊎_elim, arith, eq-eqb}
use Rattle.std.specs.List.{slice_get, filter, list_any}
use Rattle.std.specs.Prelude.{◌≢◌, is_ok}
use Rattle.std.proofs.lemmas.Bool.{ne_eqb}
use Rattle.std.proofs.lemmas.Option.{same_Some}
use Rattle.blk_base.specs.Members.{In, IsAscending}
use Rattle.blk_base.specs.laws.Members.{IsAscending-filter, In-filter, slice_get-In, list_any-In, list_any-none}
use Rattle.flush_actor.specs.conflicts.Conflicts.{ConflictTable, with_conflicts, unhold_by, holder, put_held}
use Rattle.flush_actor.specs.conflicts.code.Table.{IsTable}
use Rattle.flush_actor.specs.declared.conflicts.held.Held.{Held}
use Rattle.flush_actor.specs.conflicts.laws.Holds.{block_of, holder_of}
use Rattle.number_sets.specs.Sets.{with}
use Rattle.number_sets.specs.laws.Keyed.{IsKeyPlace, KeyStandsAt, In-put_by, ascending-put_by, ascending-few}
use Rattle.number_sets.specs.laws.Members.{In-with}
use Rattle.number_sets.specs.laws.Rising.{rising-with, rising-few}

-- ---- searches

pub held_there : (hs : List Held) (b : ℕ) (r : Result ℕ ℕ) → IsKeyPlace block_of hs b r → is_ok r ≡ list_any (λ (h : Held). h.block == b) hs
held_there hs b (Ok at) p = sym (list_any-In (λ (h : Held). h.block == b) hs p.here (slice_get-In hs at p.here p.read) (eq-eqb p.here.block b p.same))
held_there hs b (Err at) p = sym (list_any-none (λ (h : Held). h.block == b) hs (λ h i. ne_eqb h.block b (p.none h i)))

pub holder_there : (hs : List Held) (b at : ℕ) (h : Held) → IsAscending block_of hs → KeyStandsAt block_of hs b at → slice_get hs at ≡ Some h → h.transaction ≡ holder hs b
holder_there hs b at h a p e =
    let same : h.block ≡ b = ap block_of (same_Some h p.here (sym e ∙ p.read)) ∙ p.same in
    sym (holder_of hs h a (slice_get-In hs at h e)) ∙ ap (holder hs) same

pub holder_none : (hs : List Held) (b : ℕ) → ((h : Held) → In h hs → h.block ≢ b) → 0 ≡ holder hs b
holder_none [] b n = refl
holder_none (h ∷ hs) b n = rw (ne_eqb h.block b (n h (inl refl))) (holder_none hs b (λ g i. n g (inr i)))

-- ---- the table

-- the block is one of the table's
pub inside_table : (t k : ConflictTable) (b : ℕ) → t ≡ k → b < k.blocks → b < t.blocks
inside_table t k b e less = let same = ap (λ (x : ConflictTable). x.blocks) e in omega (arith, less, same)

-- what a release leaves
pub released_table : (blocks : ℕ) (ended : ℕ → Bool) (hs left : List Held) (ws still : List ℕ) (t : ConflictTable)
    → left ≡ filter (λ (h : Held). not (ended h.transaction)) hs → still ≡ filter (λ b. list_any (λ (h : Held). h.block == b) left) ws
    → record { blocks = blocks; conflicts = record { held = hs; wanted = ws } } ≡ t
    → record { blocks = blocks; conflicts = record { held = left; wanted = still } } ≡ with_conflicts t (unhold_by ended t.conflicts)
released_table blocks ended hs left ws still t e d view =
    let gone = filter (λ (h : Held). not (ended h.transaction)) hs in
    let wanted : still ≡ filter (λ b. list_any (λ (h : Held). h.block == b) gone) ws = d ∙ ap (λ (l : List Held). filter (λ b. list_any (λ (h : Held). h.block == b) l) ws) e in
    ap (λ (l : List Held). let r : ConflictTable = record { blocks = blocks; conflicts = record { held = l; wanted = still } } in r) e
    ∙ ap (λ (l : List ℕ). let r : ConflictTable = record { blocks = blocks; conflicts = record { held = gone; wanted = l } } in r) wanted
    ∙ ap (λ (x : ConflictTable). with_conflicts x (unhold_by ended x.conflicts)) view

pub held_room : (blocks : ℕ) (hs : List Held) (ws : List ℕ) (m n : ℕ) → IsTable blocks hs ws m n → length hs < m
held_room blocks hs ws m n t =
    let few = ascending-few block_of hs blocks t.rising t.inside in
    let more = t.reserved in
    omega (arith, few, more)

pub wanted_room : (blocks : ℕ) (hs : List Held) (ws : List ℕ) (m n : ℕ) → IsTable blocks hs ws m n → length ws < n
wanted_room blocks hs ws m n t =
    let few = rising-few ws blocks t.wanted_rising t.wanted_inside in
    let more = t.wanted_reserved in
    omega (arith, few, more)

pub table_held : (blocks : ℕ) (hs new : List Held) (ws : List ℕ) (m n k b : ℕ) → IsTable blocks hs ws m n → b < blocks → new ≡ put_held hs k b → IsTable blocks new ws m n
table_held blocks hs new ws m n k b t less e =
    let q : Held = record { block = b; transaction = k } in
    subst (λ xs. IsTable blocks xs ws m n) (sym e)
    (record {
      rising = ascending-put_by block_of hs q t.rising;
      inside = λ h i. ⊎_elim (λ d. subst (λ x. x < blocks) (ap block_of d) less) (λ j. t.inside h j) (In-put_by block_of hs q h i);
      wanted_rising = t.wanted_rising;
      wanted_inside = t.wanted_inside;
      reserved = t.reserved;
      wanted_reserved = t.wanted_reserved;
    })

pub table_wanted : (blocks : ℕ) (hs : List Held) (ws new : List ℕ) (m n b : ℕ) → IsTable blocks hs ws m n → b < blocks → new ≡ with ws b → IsTable blocks hs new m n
table_wanted blocks hs ws new m n b t less e =
    subst (λ xs. IsTable blocks hs xs m n) (sym e)
    (record {
      rising = t.rising;
      inside = t.inside;
      wanted_rising = rising-with ws b t.wanted_rising;
      wanted_inside = λ x i. ⊎_elim (λ j. t.wanted_inside x j) (λ d. subst (λ y. y < blocks) d less) (In-with ws b x i);
      reserved = t.reserved;
      wanted_reserved = t.wanted_reserved;
    })

pub table_filtered : (blocks : ℕ) (hs new : List Held) (ws less : List ℕ) (m n : ℕ) (p : Held → Bool) (q : ℕ → Bool) → IsTable blocks hs ws m n → new ≡ filter p hs → less ≡ filter q ws → IsTable blocks new less m n
table_filtered blocks hs new ws less m n p q t e d =
    subst (λ xs. IsTable blocks xs less m n) (sym e)
    (subst (λ xs. IsTable blocks (filter p hs) xs m n) (sym d)
    (record {
      rising = IsAscending-filter block_of p hs t.rising;
      inside = λ h i. t.inside h (In-filter p hs h i).0;
      wanted_rising = IsAscending-filter (λ x. x) q ws t.wanted_rising;
      wanted_inside = λ x i. t.wanted_inside x (In-filter q ws x i).0;
      reserved = t.reserved;
      wanted_reserved = t.wanted_reserved;
    }))
