-- What an attempt of recovery leaves, wherever it is cut: an image that recovers to the same one.
use Rattle.std.specs.Prelude.{◌≡◌, ◌≢◌, ℕ, zero, suc, ◌+◌, ◌^◌, ◌%◌, ◌<◌, ◌≤◌, ◌==◌, Bool, true, false, List, [], ◌∷◌, length, map, take, Option, Some, None, Result, Ok, Err, ◌⊎◌, slice_get, slice_set, slice_index_or, refl}
use Rattle.std.proofs.Common.{sym, ap, ◌∙◌, subst, inl, inr, ⊎_elim, arith, length-set}
use Rattle.std.proofs.lemmas.Bool.{cases_lt, cases_order}
use Rattle.std.proofs.lemmas.Option.{none-some, same_Some}
use Rattle.blk_base.specs.Block.{filled}
use Rattle.blk_base.specs.Members.{In}
use Rattle.blk_base.specs.laws.Members.{In-append_left, In-append_right, In-append_cases, In-slice_get, slice_get-In, slice_get-in_range, slice_get-out, slice_get-length, same_by_slice_get, slice_get-set_same, slice_get-set_other}
use Rattle.order_model.specs.declared.part.Part.{Part}
use Rattle.order_model.specs.declared.command.Command.{Command}
use Rattle.order_model.specs.Received.{part_at}
use Rattle.order_model.specs.Device.{Seen, IsSurface, KeepsEpochOrder, IsPartKept}
use Rattle.journal_blocks.specs.declared.super_block.JournalSuper.{JournalSuper}
use Rattle.journal_blocks.specs.declared.fault.JournalFault.{JournalFault}
use Rattle.log_model.specs.Marks.{Logged, Mark, body_after}
use Rattle.log_model.specs.Marks.{Keep, Clear, Set}
use Rattle.journal_blocks.specs.Super.{super_of}
use Rattle.journal_blocks.specs.laws.Supers.{tail_read}
use Rattle.journal_blocks.specs.Log.{Entry, log_of, body_at, entry_at, places}
use Rattle.journal_replay.specs.Recovered.{healed, log_mark, next_sequence, emptied_super, emptied, recovered, IsRecoverable, AreBetween}
use Rattle.journal_replay.specs.Commands.{for_block, home_of, homes, sends, commands}
use Rattle.journal_replay.specs.laws.Sends.{AllBefore, part_at-prefix, sent_part, super_after_homes}
use Rattle.journal_replay.specs.code.Scans.{after}

-- ---- blocks after their marks

pub length-healed : (m : ℕ → Mark) (i : ℕ) (bs : List (List ℕ)) → length (healed m i bs) ≡ length bs
length-healed m i [] = refl
length-healed m i (b ∷ bs) = ap suc (length-healed m (i + 1) bs)

pub healed-at : (m : ℕ → Mark) (i q x : ℕ) (bs : List (List ℕ)) (b : List ℕ) → q ≡ i + x → slice_get bs x ≡ Some b → slice_get (healed m i bs) x ≡ Some (body_after (m q) b)
healed-at m i q x [] b at e = absurd (none-some b e)
healed-at m i q zero (c ∷ bs) b at e =
    let here : i ≡ q = omega arith in
    ap (λ (k : ℕ). Some (body_after (m k) c)) here ∙ ap (λ z. Some (body_after (m q) z)) (same_Some c b e)
healed-at m i q (suc x) (c ∷ bs) b at e = healed-at m (i + 1) q x bs b (omega arith) e

In-home_of : (m : ℕ → Mark) (i : ℕ) (k : Mark) (h : Logged) → m i ≡ k → In h (home_of i k) → m h.block ≡ Set h.body
In-home_of m i Keep h e here = absurd here
In-home_of m i Clear h e here = absurd here
In-home_of m i (Set x) h e (inl same) =
    let at = ap (λ (r : Logged). r.block) same in
    let body = ap (λ (r : Logged). r.body) same in
    ap m (sym at) ∙ (e ∙ ap Set body)
In-home_of m i (Set x) h e (inr none) = absurd none

-- each of the homes is a body that a mark leaves
pub In-homes : (m : ℕ → Mark) (i n : ℕ) (h : Logged) → In h (homes m i n) → (m h.block ≡ Set h.body)
In-homes m i zero h k = absurd k
In-homes m i (suc n) h k = ⊎_elim (In-home_of m i (m i) h refl) (In-homes m (i + 1) n h) (In-append_cases (home_of i (m i)) (homes m (i + 1) n) h k)

homes-In : (m : ℕ → Mark) (i n b : ℕ) (x : List ℕ) → m b ≡ Set x → i ≤ b → b < i + n → In (for_block b x) (homes m i n)
homes-In m i zero b x e le lt = absurd (omega arith)
homes-In m i (suc n) b x e le lt =
    ⊎_elim
    (λ more. In-append_right (home_of i (m i)) (homes m (i + 1) n) (for_block b x) (homes-In m (i + 1) n b x e (omega arith) (omega arith)))
    (λ less. let here : b ≡ i = omega arith in
    In-append_left (home_of i (m i)) (homes m (i + 1) n) (for_block b x) (subst (λ k. In (for_block b x) (home_of k (m k))) here (subst (λ k. In (for_block b x) (home_of b k)) (sym e) (inl refl))))
    (cases_lt i b)

-- ---- the log reads its own blocks alone

get_or-by : (xs : List (List ℕ)) (i : ℕ) (d : List ℕ) → slice_index_or xs i d ≡ elim (slice_get xs i) as (λ _. List ℕ) [ None ↦ d | Some x ↦ x ]
get_or-by [] i d = refl
get_or-by (x ∷ xs) zero d = refl
get_or-by (x ∷ xs) (suc i) d = get_or-by xs i d

pub same_body : (xs ys : List (List ℕ)) (i : ℕ) → slice_get xs i ≡ slice_get ys i → body_at xs i ≡ body_at ys i
same_body xs ys i e = get_or-by xs i (filled 0) ∙ (ap (λ (o : Option (List ℕ)). elim o as (λ _. List ℕ) [ None ↦ filled 0 | Some x ↦ x ]) e ∙ sym (get_or-by ys i (filled 0)))

same_entries : (base : ℕ) (xs ys : List (List ℕ)) (ps : List ℕ) → ((q : ℕ) → base ≤ q → slice_get xs q ≡ slice_get ys q) → map (entry_at base xs) ps ≡ map (entry_at base ys) ps
same_entries base xs ys [] same = refl
same_entries base xs ys (p ∷ ps) same =
    ap (λ (body : List ℕ). let e : Entry = record { at = base + p; body = body } in e ∷ map (entry_at base xs) ps) (same_body xs ys (base + p) (same (base + p) (omega arith)))
    ∙ ap (λ es. entry_at base ys p ∷ es) (same_entries base xs ys ps same)

pub same_log : (base : ℕ) (j : JournalSuper) (xs ys : List (List ℕ)) → ((q : ℕ) → base ≤ q → slice_get xs q ≡ slice_get ys q) → log_of base j xs ≡ log_of base j ys
unfolding log_of
same_log base j xs ys same = rw (same_entries base xs ys (places j) same) refl

-- ---- two images

-- each block is as it was, or its last body of the log
abbrev pub IsBetween : (ℕ → Mark) → List (List ℕ) → List (List ℕ) → Type 0
IsBetween m old new = (q : ℕ) → (slice_get new q ≡ slice_get old q) ⊎ ((x : List ℕ) × (m q ≡ Set x) × (slice_get new q ≡ Some x))

healed_same : (m : ℕ → Mark) (q : ℕ) (old new : List (List ℕ)) (a b : List ℕ) → slice_get old q ≡ Some a → slice_get new q ≡ Some b
    → ((slice_get new q ≡ slice_get old q) ⊎ ((x : List ℕ) × (m q ≡ Set x) × (slice_get new q ≡ Some x))) → body_after (m q) b ≡ body_after (m q) a
healed_same m q old new a b e f (inl same) = ap (body_after (m q)) (same_Some b a (sym f ∙ (same ∙ e)))
healed_same m q old new a b e f (inr h) = ap (λ k. body_after k b) h.1 ∙ sym (ap (λ k. body_after k a) h.1)

-- so both heal to the same
pub healed_between : (m : ℕ → Mark) (old new : List (List ℕ)) → length new ≡ length old → IsBetween m old new → healed m 0 new ≡ healed m 0 old
healed_between m old new size between =
    same_by_slice_get (healed m 0 new) (healed m 0 old) (length-healed m 0 new ∙ (size ∙ sym (length-healed m 0 old)))
    (λ q lt.
    let n = length-healed m 0 new in
    let a = slice_get-in_range old q (omega arith) in
    let b = slice_get-in_range new q (omega arith) in
    healed-at m 0 q q new b.0 (omega arith) b.1 ∙ (ap Some (healed_same m q old new a.0 b.0 a.1 b.1 (between q)) ∙ sym (healed-at m 0 q q old a.0 (omega arith) a.1)))

-- ---- what a device holds, by the origin of a block

-- the block is that of the part at a place
pub record IsWritten (s : Seen) (q : ℕ) : Type 0 where
  pub place : ℕ
  pub part : Part
  pub origin : slice_get s.origins q ≡ Some (Some place)
  pub taken : part_at s.took place ≡ Some part
  pub block : part.block ≡ q
  pub body : slice_get s.surface q ≡ Some part.body

-- it is as the device was made with, and no part's
abbrev pub IsUntouched : Seen → ℕ → Type 0
IsUntouched s q = slice_get s.surface q ≡ slice_get s.base q

by_origin : (s : Seen) (q : ℕ) → IsSurface s → (o : Option (Option ℕ)) → slice_get s.origins q ≡ o → IsUntouched s q ⊎ IsWritten s q
by_origin s q law None e =
    ⊎_elim
    (λ lt. let p = slice_get-in_range s.origins q lt in absurd (none-some p.0 (sym e ∙ p.1)))
    (λ le.
    let places = law.places in
    let blocks = law.blocks in
    inl (slice_get-out s.surface q (omega arith) ∙ sym (slice_get-out s.base q (omega arith))))
    (cases_lt q (length s.origins))
by_origin s q law (Some None) e = inl (law.untouched q e)
by_origin s q law (Some (Some place)) e =
    let w = law.written q place e in
    inr (record { place = place; part = w.0; origin = e; taken = w.1; block = w.2; body = w.3 })

pub block_of_surface : (s : Seen) (q : ℕ) → IsSurface s → IsUntouched s q ⊎ IsWritten s q
block_of_surface s q law = by_origin s q law (slice_get s.origins q) refl

-- a device that took nothing has the blocks that it was made with
pub untouched : (s : Seen) → IsSurface s → s.took ≡ [] → s.surface ≡ s.base
untouched s law none =
    same_by_slice_get s.surface s.base law.blocks
    (λ q lt. ⊎_elim (λ e. e) (λ w. absurd (none-some w.part (ap (λ cs. part_at cs w.place) (sym none) ∙ w.taken))) (block_of_surface s q law))

-- ---- a device that took the first k commands of a recovery

-- the homes are the bodies that the marks leave, all of them before the journal
pub record AreHomes (m : ℕ → Mark) (base : ℕ) (hs : List Logged) : Type 0 where
  pub body : (h : Logged) → In h hs → m h.block ≡ Set h.body
  pub all : (b : ℕ) (x : List ℕ) → m b ≡ Set x → In (for_block b x) hs
  pub below : (b : ℕ) (x : List ℕ) → m b ≡ Set x → b < base

pub homes_are : (m : ℕ → Mark) (base : ℕ) → ((b : ℕ) (x : List ℕ) → m b ≡ Set x → b < base) → AreHomes m base (homes m 0 base)
homes_are m base below = record {
  body = λ h k. In-homes m 0 base h k;
  all = λ b x e. let lt = below b x e in homes-In m 0 base b x e (omega arith) (omega arith);
  below = below;
}

-- who wrote a block: a home write, or the write of the superblock, behind all of them
written_by : (m : ℕ → Mark) (base : ℕ) (hs : List Logged) (y : List ℕ) (s : Seen) (k q : ℕ) → AreHomes m base hs → s.took ≡ take k (sends hs (for_block base y)) → (w : IsWritten s q)
    → (m q ≡ Set w.part.body) ⊎ ((w.place ≡ length hs) × (q ≡ base) × (w.part.body ≡ y))
written_by m base hs y s k q are took w =
    ⊎_elim
    (λ e. let h = are.body (for_block w.part.block w.part.body) (slice_get-In hs w.place _ e) in inl (subst (λ b. m b ≡ Set w.part.body) w.block h))
    (λ e. inr (e.0, sym w.block ∙ e.1, e.2))
    (sent_part hs (for_block base y) w.place w.part (part_at-prefix (sends hs (for_block base y)) k w.place w.part (subst (λ cs. part_at cs w.place ≡ Some w.part) took w.taken)))

-- the superblock was not written: each block is as before or a home's, and none from the journal on is a home's
pub record IsBefore (m : ℕ → Mark) (base : ℕ) (old new : List (List ℕ)) : Type 0 where
  pub between : IsBetween m old new
  pub journal : (q : ℕ) → base ≤ q → slice_get new q ≡ slice_get old q

pub not_written : (m : ℕ → Mark) (base : ℕ) (hs : List Logged) (y : List ℕ) (s : Seen) (k : ℕ) → IsSurface s → AreHomes m base hs → s.took ≡ take k (sends hs (for_block base y))
    → IsUntouched s base → IsBefore m base s.base s.surface
not_written m base hs y s k law are took first =
    let between : IsBetween m s.base s.surface = λ q.
    ⊎_elim inl
    (λ w. ⊎_elim (λ e. inr (w.part.body, e, w.body)) (λ e. inl (subst (λ b. IsUntouched s b) (sym e.1) first)) (written_by m base hs y s k q are took w))
    (block_of_surface s q law) in
    record {
      between = between;
      journal = λ q le. ⊎_elim (λ e. e) (λ h. let lt = are.below q h.0 h.1 in absurd (omega arith)) (between q);
    }

-- the superblock was written: so each block that has a home body has it
pub record IsAfter (m : ℕ → Mark) (base : ℕ) (y : List ℕ) (old new : List (List ℕ)) : Type 0 where
  pub set : (q : ℕ) (x : List ℕ) → m q ≡ Set x → slice_get new q ≡ Some x
  pub others : (q : ℕ) → q ≢ base → ((x : List ℕ) → m q ≡ Set x → ⊥) → slice_get new q ≡ slice_get old q
  pub super : slice_get new base ≡ Some y

no_body : (x : List ℕ) → ◌≡◌ {A = Mark} Keep (Set x) → ⊥
no_body x e = cc

no_clear : (x : List ℕ) → ◌≡◌ {A = Mark} Clear (Set x) → ⊥
no_clear x e = cc

same_Set : (x y : List ℕ) → ◌≡◌ {A = Mark} (Set x) (Set y) → x ≡ y
same_Set x y e = cc

-- a block whose home write is kept has its body
home_kept : (m : ℕ → Mark) (base : ℕ) (hs : List Logged) (y : List ℕ) (s : Seen) (k q i : ℕ) (x : List ℕ) → IsSurface s → AreHomes m base hs → s.took ≡ take k (sends hs (for_block base y))
    → m q ≡ Set x → slice_get hs i ≡ Some (for_block q x) → IsPartKept s i → slice_get s.surface q ≡ Some x
home_kept m base hs y s k q i x law are took e at kept =
    let is : slice_get hs i ≡ Some (for_block kept.part.block kept.part.body) =
    ⊎_elim (λ h. h) (λ h. let lt = slice_get-length hs i _ at in absurd (let n = h.0 in omega arith))
    (sent_part hs (for_block base y) i kept.part (part_at-prefix (sends hs (for_block base y)) k i kept.part (subst (λ cs. part_at cs i ≡ Some kept.part) took kept.taken))) in
    let block : kept.part.block ≡ q = ap (λ (r : Logged). r.block) (same_Some _ _ (sym is ∙ at)) in
    let held : slice_get s.origins q ≡ Some (Some kept.origin) = subst (λ b. slice_get s.origins b ≡ Some (Some kept.origin)) block kept.held in
    let w = law.written q kept.origin held in
    let written : IsWritten s q = record { place = kept.origin; part = w.0; origin = held; taken = w.1; block = w.2; body = w.3 } in
    ⊎_elim
    (λ h. w.3 ∙ ap Some (same_Set w.0.body x (sym h ∙ e)))
    (λ h. let lt = are.below q x e in absurd (let n = h.1 in omega arith))
    (written_by m base hs y s k q are took written)

-- where all homes are kept and the superblock was written
all_written : (m : ℕ → Mark) (base : ℕ) (hs : List Logged) (y : List ℕ) (s : Seen) (k : ℕ) → IsSurface s → AreHomes m base hs → s.took ≡ take k (sends hs (for_block base y))
    → ((x : ℕ) → x < length hs → IsPartKept s x) → slice_get s.surface base ≡ Some y → IsAfter m base y s.base s.surface
all_written m base hs y s k law are took kept first =
    record {
      set = λ q x e. let i = In-slice_get hs (for_block q x) (are.all q x e) in home_kept m base hs y s k q i.0 x law are took e i.2 (kept i.0 i.1);
      others = λ q differ none.
          ⊎_elim (λ u. u)
          (λ w. ⊎_elim (λ e. absurd (none w.part.body e)) (λ e. absurd (differ e.1)) (written_by m base hs y s k q are took w))
          (block_of_surface s q law);
      super = first;
    }

-- the superblock is kept, so all homes are
pub written : (m : ℕ → Mark) (base : ℕ) (hs : List Logged) (y : List ℕ) (s : Seen) (k : ℕ) → IsSurface s → KeepsEpochOrder s → AreHomes m base hs → s.took ≡ take k (sends hs (for_block base y))
    → IsWritten s base → IsAfter m base y s.base s.surface
written m base hs y s k law order are took w =
    ⊎_elim
    (λ e. let lt = are.below base w.part.body e in absurd (omega arith))
    (λ e.
    let n = length hs in
    let is_super : part_at s.took n ≡ Some w.part = subst (λ x. part_at s.took x ≡ Some w.part) e.0 w.taken in
    let before = subst (λ cs. AllBefore cs n) (sym took) (super_after_homes hs (for_block base y) k w.part (subst (λ cs. part_at cs n ≡ Some w.part) took is_super)) in
    let kept : IsPartKept s n = record { part = w.part; taken = is_super; origin = w.place; held = subst (λ b. slice_get s.origins b ≡ Some (Some w.place)) (sym w.block) w.origin; later = let same = e.0 in omega arith } in
    all_written m base hs y s k law are took
    (λ x lt. let b = before.barrier x lt in order.epochs x n b.0 (before.here x lt) b.1 b.2 b.3 kept)
    (w.body ∙ ap Some e.2))
    (written_by m base hs y s k base are took w)

after_mark : (m : ℕ → Mark) (q base : ℕ) (y : List ℕ) (old new : List (List ℕ)) (a : List ℕ) (k : Mark) → m q ≡ k → q ≢ base → slice_get old q ≡ Some a → IsAfter m base y old new → slice_get new q ≡ Some (body_after (m q) a)
after_mark m q base y old new a Keep e differ at after = after.others q differ (λ x h. no_body x (sym e ∙ h)) ∙ (at ∙ ap (λ k. Some (body_after k a)) (sym e))
after_mark m q base y old new a Clear e differ at after = after.others q differ (λ x h. no_clear x (sym e ∙ h)) ∙ (at ∙ ap (λ k. Some (body_after k a)) (sym e))
after_mark m q base y old new a (Set x) e differ at after = after.set q x e ∙ ap (λ k. Some (body_after k a)) (sym e)

-- then the image is the recovered one
pub is_healed : (m : ℕ → Mark) (base : ℕ) (y : List ℕ) (old new : List (List ℕ)) → length new ≡ length old → base < length old → IsAfter m base y old new → new ≡ slice_set (healed m 0 old) base y
is_healed m base y old new size within after =
    same_by_slice_get new (slice_set (healed m 0 old) base y) (size ∙ sym (length-set (healed m 0 old) base y ∙ length-healed m 0 old))
    (λ q lt.
    let n = length-healed m 0 old in
    ⊎_elim
    (λ same. subst (λ (b : ℕ). slice_get new b ≡ slice_get (slice_set (healed m 0 old) base y) b) (sym same) (after.super ∙ sym (slice_get-set_same (healed m 0 old) base y (omega arith))))
    (λ other.
    let differ : q ≢ base = λ e. ⊎_elim (λ l. omega (arith, l, e)) (λ l. omega (arith, l, e)) other in
    let a = slice_get-in_range old q (omega arith) in
    after_mark m q base y old new a.0 (m q) refl differ a.1 after
    ∙ (sym (healed-at m 0 q q old a.0 (omega arith) a.1) ∙ sym (slice_get-set_other (healed m 0 old) base q y differ)))
    (cases_order q base))

-- ---- the recovered image

pub recovered-empty : (base : ℕ) (image : List (List ℕ)) (j : JournalSuper) → super_of (body_at image base) ≡ Ok j → (j.start == 0) ≡ true → recovered base image ≡ image
unfolding recovered
recovered-empty base image j e zero_start = rw e (rw zero_start refl)

pub recovered-full : (base : ℕ) (image : List (List ℕ)) (j : JournalSuper) → super_of (body_at image base) ≡ Ok j → (j.start == 0) ≡ false → recovered base image ≡ emptied base j image
unfolding recovered
recovered-full base image j e full = rw e (rw full refl)

commands-err : (base : ℕ) (image : List (List ℕ)) (f : JournalFault) → super_of (body_at image base) ≡ Err f → commands base image ≡ []
unfolding commands
commands-err base image f e = rw e refl

commands-empty : (base : ℕ) (image : List (List ℕ)) (j : JournalSuper) → super_of (body_at image base) ≡ Ok j → (j.start == 0) ≡ true → commands base image ≡ []
unfolding commands
commands-empty base image j e zero_start = rw e (rw zero_start refl)

pub commands-full : (base : ℕ) (image : List (List ℕ)) (j : JournalSuper) → super_of (body_at image base) ≡ Ok j → (j.start == 0) ≡ false → commands base image ≡ sends (homes (log_mark base j image) 0 base) (for_block base (emptied_super base j image))
unfolding commands
commands-full base image j e full = rw e (rw full refl)

-- nothing behind the journal's front changed: the log is the same, and so is the recovered image
recovered-before : (base : ℕ) (old new : List (List ℕ)) (j : JournalSuper) → length new ≡ length old → super_of (body_at old base) ≡ Ok j → (j.start == 0) ≡ false
    → IsBefore (log_mark base j old) base old new → recovered base new ≡ recovered base old
recovered-before base old new j size e full before =
    let super = same_body new old base (before.journal base (omega arith)) in
    let log = same_log base j new old before.journal in
    recovered-full base new j (ap super_of super ∙ e) full
    ∙ (rw (log, super) (ap (λ bs. slice_set bs base (emptied_super base j old)) (healed_between (log_mark base j old) old new size before.between))
    ∙ sym (recovered-full base old j e full))

pub body_at-some : (image : List (List ℕ)) (q : ℕ) (x : List ℕ) → slice_get image q ≡ Some x → body_at image q ≡ x
body_at-some image q x e = get_or-by image q (filled 0) ∙ rw e refl

-- all is written: the image is the recovered one
pub recovered-after : (base : ℕ) (old new : List (List ℕ)) (j : JournalSuper) → length new ≡ length old → base < length old → super_of (body_at old base) ≡ Ok j → (j.start == 0) ≡ false
    → IsAfter (log_mark base j old) base (emptied_super base j old) old new → new ≡ recovered base old
recovered-after base old new j size within e full after =
    is_healed (log_mark base j old) base (emptied_super base j old) old new size within after ∙ sym (recovered-full base old j e full)

pub below_power : (n : ℕ) → n % 2 ^ 32 < 2 ^ 32
below_power n = omega arith

-- and it recovers to itself
recovered-twice : (base : ℕ) (old new : List (List ℕ)) (j : JournalSuper) → length (body_at old base) ≡ 1024 → super_of (body_at old base) ≡ Ok j
    → slice_get new base ≡ Some (emptied_super base j old) → recovered base new ≡ new
recovered-twice base old new j size e at =
    let r = log_of base j old in
    recovered-empty base new (record j { sequence = next_sequence r; start = 0 })
    (ap super_of (body_at-some new base (emptied_super base j old) at) ∙ tail_read (body_at old base) j (next_sequence r) size e (below_power (r.sequence + 1)))
    refl

take_none : (k : ℕ) → ◌≡◌ {A = List Command} (take k []) []
take_none zero = refl
take_none (suc k) = refl

attempt_by : (base k : ℕ) (s : Seen) → IsSurface s → KeepsEpochOrder s → IsRecoverable base s.base → s.took ≡ take k (commands base s.base)
    → (r : Result JournalSuper JournalFault) → super_of (body_at s.base base) ≡ r → (b : Bool) → (j : JournalSuper) → r ≡ Ok j → (j.start == 0) ≡ b → recovered base s.surface ≡ recovered base s.base
attempt_by base k s law order can took r e true j is zero_start =
    ap (recovered base) (untouched s law (took ∙ (ap (take k) (commands-empty base s.base j (e ∙ is) zero_start) ∙ take_none k)))
attempt_by base k s law order can took r e false j is full =
    let sent = took ∙ ap (take k) (commands-full base s.base j (e ∙ is) full) in
    let are = homes_are (log_mark base j s.base) base (can.below j (e ∙ is)) in
    ⊎_elim
    (λ first. recovered-before base s.base s.surface j law.blocks (e ∙ is) full (not_written (log_mark base j s.base) base _ _ s k law are sent first))
    (λ w.
    let after = written (log_mark base j s.base) base _ _ s k law order are sent w in
    recovered-twice base s.base s.surface j can.size (e ∙ is) after.super ∙ recovered-after base s.base s.surface j law.blocks can.within (e ∙ is) full after)
    (block_of_surface s base law)

attempt_or : (base k : ℕ) (s : Seen) → IsSurface s → KeepsEpochOrder s → IsRecoverable base s.base → s.took ≡ take k (commands base s.base)
    → (r : Result JournalSuper JournalFault) → super_of (body_at s.base base) ≡ r → recovered base s.surface ≡ recovered base s.base
attempt_or base k s law order can took (Err f) e =
    ap (recovered base) (untouched s law (took ∙ (ap (take k) (commands-err base s.base f e) ∙ take_none k)))
attempt_or base k s law order can took (Ok j) e = attempt_by base k s law order can took (Ok j) e (j.start == 0) j refl refl

-- After the first k commands of a recovery of the image that the device was made over, cut at any step, what the
-- medium holds recovers to the same image.
pub attempt_keeps : (base k : ℕ) (s : Seen) → IsSurface s → KeepsEpochOrder s → IsRecoverable base s.base → s.took ≡ take k (commands base s.base) → recovered base s.surface ≡ recovered base s.base
attempt_keeps base k s law order can took = attempt_or base k s law order can took (super_of (body_at s.base base)) refl

-- ---- and each block is as it was or as in the recovered image

between_before : (m : ℕ → Mark) (base : ℕ) (y : List ℕ) (old new : List (List ℕ)) → base < length old → ((b : ℕ) (x : List ℕ) → m b ≡ Set x → b < base) → IsBetween m old new → AreBetween old (slice_set (healed m 0 old) base y) new
between_before m base y old new within below between q =
    ⊎_elim inl
    (λ h.
    let lt = below q h.0 h.1 in
    let differ : q ≢ base = λ e. omega (arith, lt, e) in
    let a = slice_get-in_range old q (omega (arith, lt, within)) in
    inr (h.2 ∙ sym (slice_get-set_other (healed m 0 old) base q y differ ∙ (healed-at m 0 q q old a.0 (omega arith) a.1 ∙ ap (λ k. Some (body_after k a.0)) h.1))))
    (between q)

between_by : (base k : ℕ) (s : Seen) → IsSurface s → KeepsEpochOrder s → IsRecoverable base s.base → s.took ≡ take k (commands base s.base)
    → (j : JournalSuper) → super_of (body_at s.base base) ≡ Ok j → (b : Bool) → (j.start == 0) ≡ b → AreBetween s.base (recovered base s.base) s.surface
between_by base k s law order can took j e true none =
    let same = untouched s law (took ∙ (ap (take k) (commands-empty base s.base j e none) ∙ take_none k)) in
    λ q. inl (ap (λ (image : List (List ℕ)). slice_get image q) same)
between_by base k s law order can took j e false full =
    let sent = took ∙ ap (take k) (commands-full base s.base j e full) in
    let are = homes_are (log_mark base j s.base) base (can.below j e) in
    ⊎_elim
    (λ first.
    let before = not_written (log_mark base j s.base) base _ _ s k law are sent first in
    subst (λ (image : List (List ℕ)). AreBetween s.base image s.surface) (sym (recovered-full base s.base j e full))
    (between_before (log_mark base j s.base) base (emptied_super base j s.base) s.base s.surface can.within (can.below j e) before.between))
    (λ w.
    let after = written (log_mark base j s.base) base _ _ s k law order are sent w in
    let same = recovered-after base s.base s.surface j law.blocks can.within e full after in
    λ q. inr (ap (λ (image : List (List ℕ)). slice_get image q) same))
    (block_of_surface s base law)

between_or : (base k : ℕ) (s : Seen) → IsSurface s → KeepsEpochOrder s → IsRecoverable base s.base → s.took ≡ take k (commands base s.base)
    → (r : Result JournalSuper JournalFault) → super_of (body_at s.base base) ≡ r → AreBetween s.base (recovered base s.base) s.surface
between_or base k s law order can took (Err f) e =
    let same = untouched s law (took ∙ (ap (take k) (commands-err base s.base f e) ∙ take_none k)) in
    λ q. inl (ap (λ (image : List (List ℕ)). slice_get image q) same)
between_or base k s law order can took (Ok j) e = between_by base k s law order can took j e (j.start == 0) refl

pub attempt_between : (base k : ℕ) (s : Seen) → IsSurface s → KeepsEpochOrder s → IsRecoverable base s.base → s.took ≡ take k (commands base s.base) → AreBetween s.base (recovered base s.base) s.surface
attempt_between base k s law order can took = between_or base k s law order can took (super_of (body_at s.base base)) refl
