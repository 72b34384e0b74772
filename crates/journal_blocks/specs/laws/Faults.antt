-- Each fault of a superblock and of a block of the log by its cause.
use Rattle.std.specs.Prelude.{◌≡◌, ◌≢◌, ◌↔◌, ℕ, ◌==◌, Bool, true, false, not, ◌&&◌, if◌then◌else◌, List, Result, Ok, Err, IsOk, is_ok, IsFalse, refl}
use Rattle.std.proofs.Common.{sym, ap, ◌∙◌, subst}
use Rattle.std.proofs.lemmas.Bool.{false≢true, eqb-true, eqb-false, eq-eqb, ne_eqb}
use Rattle.journal_blocks.specs.declared.super_block.JournalSuper.{JournalSuper}
use Rattle.journal_blocks.specs.declared.tag.Tag.{Tag}
use Rattle.journal_blocks.specs.declared.log_block.LogBlock.{LogBlock}
use Rattle.journal_blocks.specs.declared.log_block.LogBlock.TheVariants.{Descriptor, Commit, Revoke}
use Rattle.journal_blocks.specs.declared.fault.JournalFault.{JournalFault}
use Rattle.journal_blocks.specs.declared.fault.JournalFault.TheVariants.{NotMagic, BadKind, BadCount, Feature, NoMemory}
use Rattle.journal_blocks.specs.Header.{magic_of, kind_of, sequence_of}
use Rattle.journal_blocks.specs.Super.{super_of, size_of, numbers_of, unknown_bits, has_places}
use Rattle.journal_blocks.specs.Blocks.{log_block_of, tags_of, is_count, count_of, revoked_of}

-- ---- superblocks

-- what a reader says, by its four tests
abbrev said : Bool → Bool → Bool → ℕ → Bool → JournalSuper → Result JournalSuper JournalFault
said magic kind known unknown counts s =
    if not magic then Err NotMagic
    else if not kind then Err BadKind
    else if not known then Err (Feature unknown)
    else if not counts then Err BadCount
    else Ok s

magic_said : (magic kind known counts : Bool) (unknown : ℕ) (s : JournalSuper) → said magic kind known unknown counts s ≡ Err NotMagic → magic ≡ false
magic_said false kind known counts unknown s h = refl
magic_said true false known counts unknown s h = absurd (cc)
magic_said true true false counts unknown s h = absurd (cc)
magic_said true true true false unknown s h = absurd (cc)
magic_said true true true true unknown s h = absurd (cc)

kind_said : (magic kind known counts : Bool) (unknown : ℕ) (s : JournalSuper) → said magic kind known unknown counts s ≡ Err BadKind → (magic ≡ true) × (kind ≡ false)
kind_said false kind known counts unknown s h = absurd (cc)
kind_said true false known counts unknown s h = (refl, refl)
kind_said true true false counts unknown s h = absurd (cc)
kind_said true true true false unknown s h = absurd (cc)
kind_said true true true true unknown s h = absurd (cc)

feature_said : (magic kind known counts : Bool) (unknown bits : ℕ) (s : JournalSuper) → said magic kind known unknown counts s ≡ Err (Feature bits) → (magic ≡ true) × (kind ≡ true) × (known ≡ false) × (unknown ≡ bits)
feature_said false kind known counts unknown bits s h = absurd (cc)
feature_said true false known counts unknown bits s h = absurd (cc)
feature_said true true false counts unknown bits s h = (refl, refl, refl, cc)
feature_said true true true false unknown bits s h = absurd (cc)
feature_said true true true true unknown bits s h = absurd (cc)

count_said : (magic kind known counts : Bool) (unknown : ℕ) (s : JournalSuper) → said magic kind known unknown counts s ≡ Err BadCount → (magic ≡ true) × (kind ≡ true) × (known ≡ true) × (counts ≡ false)
count_said false kind known counts unknown s h = absurd (cc)
count_said true false known counts unknown s h = absurd (cc)
count_said true true false counts unknown s h = absurd (cc)
count_said true true true false unknown s h = (refl, refl, refl, refl)
count_said true true true true unknown s h = absurd (cc)

memory_said : (magic kind known counts : Bool) (unknown : ℕ) (s : JournalSuper) → said magic kind known unknown counts s ≢ Err NoMemory
memory_said false kind known counts unknown s h = cc
memory_said true false known counts unknown s h = cc
memory_said true true false counts unknown s h = cc
memory_said true true true false unknown s h = cc
memory_said true true true true unknown s h = cc

abbrev has_counts : List ℕ → Bool
has_counts b = (size_of b == 1024) && has_places (numbers_of b)

abbrev bits_of : List ℕ → ℕ
bits_of b = unknown_bits (numbers_of b).incompat

said_of : (b : List ℕ) (magic kind known counts : Bool) → (magic_of b == 0xC03B3998) ≡ magic → (kind_of b == 4) ≡ kind → (bits_of b == 0) ≡ known → has_counts b ≡ counts
    → super_of b ≡ said magic kind known (bits_of b) counts (numbers_of b)
unfolding super_of
said_of b magic kind known counts e f g h =
    ap (λ (t : Bool). said t (kind_of b == 4) (bits_of b == 0) (bits_of b) (has_counts b) (numbers_of b)) e
    ∙ (ap (λ (t : Bool). said magic t (bits_of b == 0) (bits_of b) (has_counts b) (numbers_of b)) f
    ∙ (ap (λ (t : Bool). said magic kind t (bits_of b) (has_counts b) (numbers_of b)) g
    ∙ ap (λ (t : Bool). said magic kind known (bits_of b) t (numbers_of b)) h))

said_as : (b : List ℕ) → super_of b ≡ said (magic_of b == 0xC03B3998) (kind_of b == 4) (bits_of b == 0) (bits_of b) (has_counts b) (numbers_of b)
said_as b = said_of b _ _ _ _ refl refl refl refl

pub super_not_magic : (b : List ℕ) → (super_of b ≡ Err NotMagic) ↔ (magic_of b ≢ 0xC03B3998)
super_not_magic b = (
  λ h. eqb-false _ _ (magic_said _ (kind_of b == 4) (bits_of b == 0) (has_counts b) (bits_of b) (numbers_of b) (sym (said_as b) ∙ h)),
  λ h. said_of b false (kind_of b == 4) (bits_of b == 0) (has_counts b) (ne_eqb _ _ h) refl refl refl,
)

pub super_bad_kind : (b : List ℕ) → (super_of b ≡ Err BadKind) ↔ ((magic_of b ≡ 0xC03B3998) × (kind_of b ≢ 4))
super_bad_kind b = (
  λ h. let t = kind_said _ _ (bits_of b == 0) (has_counts b) (bits_of b) (numbers_of b) (sym (said_as b) ∙ h) in (eqb-true _ _ t.0, eqb-false _ _ t.1),
  λ h. said_of b true false (bits_of b == 0) (has_counts b) (eq-eqb _ _ h.0) (ne_eqb _ _ h.1) refl refl,
)

pub super_feature : (b : List ℕ) (bits : ℕ) → (super_of b ≡ Err (Feature bits)) ↔ ((magic_of b ≡ 0xC03B3998) × (kind_of b ≡ 4) × (bits ≢ 0) × (bits_of b ≡ bits))
super_feature b bits = (
  λ h.
      let t = feature_said _ _ _ (has_counts b) (bits_of b) bits (numbers_of b) (sym (said_as b) ∙ h) in
      (eqb-true _ _ t.0, eqb-true _ _ t.1, λ z. eqb-false (bits_of b) 0 t.2 (t.3 ∙ z), t.3),
  λ h.
      said_of b true true false (has_counts b) (eq-eqb _ _ h.0) (eq-eqb _ _ h.1) (ne_eqb (bits_of b) 0 (λ z. h.2 (sym h.3 ∙ z))) refl
      ∙ ap (λ (n : ℕ). said true true false n (has_counts b) (numbers_of b)) h.3,
)

pub super_bad_count : (b : List ℕ) → (super_of b ≡ Err BadCount) ↔ ((magic_of b ≡ 0xC03B3998) × (kind_of b ≡ 4) × (bits_of b ≡ 0) × IsFalse (has_counts b))
super_bad_count b = (
  λ h.
      let t = count_said _ _ _ _ (bits_of b) (numbers_of b) (sym (said_as b) ∙ h) in
      (eqb-true _ _ t.0, eqb-true _ _ t.1, eqb-true _ _ t.2, t.3),
  λ h. said_of b true true true false (eq-eqb _ _ h.0) (eq-eqb _ _ h.1) (eq-eqb _ _ h.2) h.3,
)

pub super_memory : (b : List ℕ) → super_of b ≢ Err NoMemory
super_memory b h = memory_said (magic_of b == 0xC03B3998) (kind_of b == 4) (bits_of b == 0) (has_counts b) (bits_of b) (numbers_of b) (sym (said_as b) ∙ h)

-- ---- blocks of the log

-- what a reader says, by its five tests
abbrev pub told : Bool → Bool → Bool → Bool → Bool → (sequence : ℕ) → List Tag → List ℕ → Result LogBlock JournalFault
told magic one two five count sequence tags blocks =
    if not magic then Err NotMagic
    else if one then Ok (Descriptor sequence tags)
    else if two then Ok (Commit sequence)
    else if not five then Err BadKind
    else if not count then Err BadCount
    else Ok (Revoke sequence blocks)

module _ (wide : Bool) where
  pub told_of : (b : List ℕ) (magic one two five count : Bool) → (magic_of b == 0xC03B3998) ≡ magic → (kind_of b == 1) ≡ one → (kind_of b == 2) ≡ two → (kind_of b == 5) ≡ five → is_count wide (count_of b) ≡ count
      → log_block_of wide b ≡ told magic one two five count (sequence_of b) (tags_of wide b) (revoked_of wide b)
  unfolding log_block_of
  told_of b magic one two five count e f g h k =
      ap (λ (t : Bool). told t (kind_of b == 1) (kind_of b == 2) (kind_of b == 5) (is_count wide (count_of b)) (sequence_of b) (tags_of wide b) (revoked_of wide b)) e
      ∙ (ap (λ (t : Bool). told magic t (kind_of b == 2) (kind_of b == 5) (is_count wide (count_of b)) (sequence_of b) (tags_of wide b) (revoked_of wide b)) f
      ∙ (ap (λ (t : Bool). told magic one t (kind_of b == 5) (is_count wide (count_of b)) (sequence_of b) (tags_of wide b) (revoked_of wide b)) g
      ∙ (ap (λ (t : Bool). told magic one two t (is_count wide (count_of b)) (sequence_of b) (tags_of wide b) (revoked_of wide b)) h
      ∙ ap (λ (t : Bool). told magic one two five t (sequence_of b) (tags_of wide b) (revoked_of wide b)) k)))

  told_as : (b : List ℕ) → log_block_of wide b ≡ told (magic_of b == 0xC03B3998) (kind_of b == 1) (kind_of b == 2) (kind_of b == 5) (is_count wide (count_of b)) (sequence_of b) (tags_of wide b) (revoked_of wide b)
  told_as b = told_of b _ _ _ _ _ refl refl refl refl refl

magic_told : (magic one two five count : Bool) (n : ℕ) (ts : List Tag) (ns : List ℕ) → told magic one two five count n ts ns ≡ Err NotMagic → magic ≡ false
magic_told false one two five count n ts ns h = refl
magic_told true true two five count n ts ns h = absurd (cc)
magic_told true false true five count n ts ns h = absurd (cc)
magic_told true false false false count n ts ns h = absurd (cc)
magic_told true false false true false n ts ns h = absurd (cc)
magic_told true false false true true n ts ns h = absurd (cc)

kind_told : (magic one two five count : Bool) (n : ℕ) (ts : List Tag) (ns : List ℕ) → told magic one two five count n ts ns ≡ Err BadKind → (magic ≡ true) × (one ≡ false) × (two ≡ false) × (five ≡ false)
kind_told false one two five count n ts ns h = absurd (cc)
kind_told true true two five count n ts ns h = absurd (cc)
kind_told true false true five count n ts ns h = absurd (cc)
kind_told true false false false count n ts ns h = (refl, refl, refl, refl)
kind_told true false false true false n ts ns h = absurd (cc)
kind_told true false false true true n ts ns h = absurd (cc)

count_told : (magic one two five count : Bool) (n : ℕ) (ts : List Tag) (ns : List ℕ) → told magic one two five count n ts ns ≡ Err BadCount → (magic ≡ true) × (five ≡ true) × (count ≡ false)
count_told false one two five count n ts ns h = absurd (cc)
count_told true true two five count n ts ns h = absurd (cc)
count_told true false true five count n ts ns h = absurd (cc)
count_told true false false false count n ts ns h = absurd (cc)
count_told true false false true false n ts ns h = (refl, refl, refl)
count_told true false false true true n ts ns h = absurd (cc)

revoke_told : (magic one two five count : Bool) (n m : ℕ) (ts : List Tag) (ns ms : List ℕ) → told magic one two five count n ts ns ≡ Ok (Revoke m ms) → ns ≡ ms
revoke_told false one two five count n m ts ns ms h = absurd (cc)
revoke_told true true two five count n m ts ns ms h = absurd (cc)
revoke_told true false true five count n m ts ns ms h = absurd (cc)
revoke_told true false false false count n m ts ns ms h = absurd (cc)
revoke_told true false false true false n m ts ns ms h = absurd (cc)
revoke_told true false false true true n m ts ns ms h = cc

-- what is read as a revoke block has its numbers
pub revoked_told : (wide : Bool) (b : List ℕ) (m : ℕ) (ms : List ℕ) → log_block_of wide b ≡ Ok (Revoke m ms) → revoked_of wide b ≡ ms
revoked_told wide b m ms h = revoke_told (magic_of b == 0xC03B3998) (kind_of b == 1) (kind_of b == 2) (kind_of b == 5) (is_count wide (count_of b)) (sequence_of b) m (tags_of wide b) (revoked_of wide b) ms (sym (told_as wide b) ∙ h)

module _ (wide : Bool) where
  -- a result has the block's fault, where want of memory comes on blocks without a fault alone
  back : (b : List ℕ) (r : Result LogBlock JournalFault) (f : JournalFault) → (r ≢ Err NoMemory → r ≡ log_block_of wide b) → (r ≡ Err NoMemory → IsOk (log_block_of wide b)) → log_block_of wide b ≡ Err f → r ≡ Err f
  back b (Ok x) f says memory e = says (λ n. cc) ∙ e
  back b (Err NotMagic) f says memory e = says (λ n. cc) ∙ e
  back b (Err BadKind) f says memory e = says (λ n. cc) ∙ e
  back b (Err BadCount) f says memory e = says (λ n. cc) ∙ e
  back b (Err (Feature bits)) f says memory e = says (λ n. cc) ∙ e
  back b (Err NoMemory) f says memory e = absurd (false≢true (subst (λ (q : Result LogBlock JournalFault). is_ok q ≡ true) e (memory refl)))

  front : (b : List ℕ) (r : Result LogBlock JournalFault) (f : JournalFault) → (◌≡◌ {A = Result LogBlock JournalFault} (Err f) (Err NoMemory) → ⊥) → (r ≢ Err NoMemory → r ≡ log_block_of wide b) → r ≡ Err f → log_block_of wide b ≡ Err f
  front b r f other says e = sym (says (λ n. other (sym e ∙ n))) ∙ e

module _ (wide : Bool) (b : List ℕ) (r : Result LogBlock JournalFault) (says : r ≢ Err NoMemory → r ≡ log_block_of wide b) (memory : r ≡ Err NoMemory → IsOk (log_block_of wide b)) where
  pub block_not_magic : (r ≡ Err NotMagic) ↔ (magic_of b ≢ 0xC03B3998)
  block_not_magic = (
    λ h. eqb-false _ _ (magic_told _ (kind_of b == 1) (kind_of b == 2) (kind_of b == 5) (is_count wide (count_of b)) (sequence_of b) (tags_of wide b) (revoked_of wide b) (sym (told_as wide b) ∙ front wide b r NotMagic (λ n. cc) says h)),
    λ h. back wide b r NotMagic says memory (told_of wide b false (kind_of b == 1) (kind_of b == 2) (kind_of b == 5) (is_count wide (count_of b)) (ne_eqb _ _ h) refl refl refl refl),
  )

  pub block_bad_kind : (r ≡ Err BadKind) ↔ ((magic_of b ≡ 0xC03B3998) × (kind_of b ≢ 1) × (kind_of b ≢ 2) × (kind_of b ≢ 5))
  block_bad_kind = (
    λ h.
        let t = kind_told _ _ _ _ (is_count wide (count_of b)) (sequence_of b) (tags_of wide b) (revoked_of wide b) (sym (told_as wide b) ∙ front wide b r BadKind (λ n. cc) says h) in
        (eqb-true _ _ t.0, eqb-false _ _ t.1, eqb-false _ _ t.2, eqb-false _ _ t.3),
    λ h. back wide b r BadKind says memory (told_of wide b true false false false (is_count wide (count_of b)) (eq-eqb _ _ h.0) (ne_eqb _ _ h.1) (ne_eqb _ _ h.2) (ne_eqb _ _ h.3) refl),
  )

  pub block_bad_count : (r ≡ Err BadCount) ↔ ((magic_of b ≡ 0xC03B3998) × (kind_of b ≡ 5) × (is_count wide (count_of b) ≡ false))
  block_bad_count = (
    λ h.
        let t = count_told _ (kind_of b == 1) (kind_of b == 2) _ _ (sequence_of b) (tags_of wide b) (revoked_of wide b) (sym (told_as wide b) ∙ front wide b r BadCount (λ n. cc) says h) in
        (eqb-true _ _ t.0, eqb-true _ _ t.1, t.2),
    λ h.
        let one = ap (λ (k : ℕ). k == 1) h.1 in
        let two = ap (λ (k : ℕ). k == 2) h.1 in
        back wide b r BadCount says memory (told_of wide b true false false true false (eq-eqb _ _ h.0) one two (eq-eqb _ _ h.1) h.2),
  )

  -- no feature is asked of a block of the log
  pub block_feature : (bits : ℕ) → r ≢ Err (Feature bits)
  block_feature bits h = never (magic_of b == 0xC03B3998) (kind_of b == 1) (kind_of b == 2) (kind_of b == 5) (is_count wide (count_of b)) (sym (told_as wide b) ∙ front wide b r (Feature bits) (λ n. cc) says h)
    where
      never : (magic one two five count : Bool) → told magic one two five count (sequence_of b) (tags_of wide b) (revoked_of wide b) ≡ Err (Feature bits) → ⊥
      never false one two five count e = cc
      never true true two five count e = cc
      never true false true five count e = cc
      never true false false false count e = cc
      never true false false true false e = cc
      never true false false true true e = cc
