-- The maps of a volume that was made, bit by bit.
use Rattle.std.specs.Prelude.{◌≡◌, ◌≢◌, ℕ, zero, suc, ◌+◌, ◌-◌, ◌*◌, ◌/◌, ◌%◌, ◌^◌, ◌<◌, ◌≤◌, ◌==◌, ◌&&◌, ◌||◌, Bool, true, false, nat_lt, nat_le, min, if◌then◌else◌, refl}
use Rattle.std.specs.Int.{bit_at}
use Rattle.std.proofs.Common.{sym, ap, subst, ◌∙◌, inl, inr, ⊎_elim, arith}
use Rattle.std.proofs.Math.Path.{ap₂}
use Rattle.std.proofs.lemmas.Bool.{cases_lt, cases_eq, and_parts, eqb-true, eq-eqb, ne_eqb, lt-ltb, le-ltb, lt-leb, le-leb}
use Rattle.std.proofs.lemmas.List.FromFn.{get_or-map-range_with_len}
use Rattle.minix_layout.specs.declared.division.Geometry.{Geometry}
use Rattle.minix_layout.specs.declared.bits.BitPlace.{BitPlace}
use Rattle.minix_layout.specs.Geometry.{IsSound}
use Rattle.minix_layout.specs.Bits.{bit_of, inode_bit, zone_bit, has_bit}
use Rattle.journal_replay.specs.laws.Attempts.{body_at-some}
use Rattle.mount_make.specs.Made.{map_byte, map_block, made_block, made_image}
use Rattle.mount_make.proofs.NewBlocks.{made_inodes, made_zones}
use Rattle.mount_make.proofs.Filling.{get_volume}

-- bit n of a map is taken: it stands for none or for the root, or is past the last
abbrev taken : ℕ → ℕ → Bool
taken last n = nat_le n 1 || nat_lt last n

taken_by_root : (last n : ℕ) → 1 ≤ n → n ≤ last → taken last n ≡ (n == 1)
taken_by_root last n low high =
    elim (cases_eq n 1) [
      | inl one ↦ rw (le-leb n 1 (omega (arith, one)), eq-eqb n 1 one) refl
      | inr more ↦ rw (lt-leb n 1 (omega (arith, low, more)), le-ltb last n high, ne_eqb n 1 more) refl
    ]

taken_by_none : (last n : ℕ) → (1 ≤ n → n ≤ last → ⊥) → taken last n ≡ true
taken_by_none last n none =
    elim (cases_lt 1 n) [
      | inr low ↦ rw (le-leb n 1 low) refl
      | inl more ↦
          elim (cases_lt last n) [
            | inl past ↦ rw (lt-leb n 1 more, lt-ltb last n past) refl
            | inr within ↦ absurd (none (omega (arith, more)) within)
          ]
    ]

-- ---- the eight bits of a byte, by a table of all bytes that a map has

unfoldable all_below : ℕ → (ℕ → Bool) → Bool
all_below zero test = true
all_below (suc n) test = test n && all_below n test

one_below : (n : ℕ) (test : ℕ → Bool) (i : ℕ) → all_below n test ≡ true → i < n → test i ≡ true
unfolding all_below
one_below zero test i all low = absurd (omega (arith, low))
one_below (suc n) test i all low =
    let both = and_parts (test n) (all_below n test) all in
    ⊎_elim (λ less. one_below n test i both.1 less) (λ last. let e : n ≡ i = omega (arith, low, last) in subst (λ k. test k ≡ true) e both.0) (cases_lt i n)

abbrev number : Bool → ℕ
number b = if b then 1 else 0

number_is : (b : Bool) → (number b == 1) ≡ b
number_is true = refl
number_is false = refl

-- a byte whose lowest m bits are free
free_bits : all_below 9 (λ m. all_below 8 (λ i. bit_at (256 - 2 ^ m) i == number (nat_le m i))) ≡ true
unfolding all_below
free_bits = refl

-- the same with its lowest two bits taken
first_bits : all_below 7 (λ m. all_below 8 (λ i. bit_at (256 - 2 ^ (2 + m) + 3) i == number (nat_le i 1 || nat_le (2 + m) i))) ≡ true
unfolding all_below
first_bits = refl

free_bit : (m i : ℕ) → m ≤ 8 → i < 8 → (bit_at (256 - 2 ^ m) i == 1) ≡ nat_le m i
free_bit m i most low =
    let row = one_below 9 (λ m. all_below 8 (λ i. bit_at (256 - 2 ^ m) i == number (nat_le m i))) m free_bits (omega (arith, most)) in
    let cell = one_below 8 (λ i. bit_at (256 - 2 ^ m) i == number (nat_le m i)) i row low in
    ap (λ x. x == 1) (eqb-true (bit_at (256 - 2 ^ m) i) (number (nat_le m i)) cell) ∙ number_is (nat_le m i)

first_bit : (m i : ℕ) → m ≤ 6 → i < 8 → (bit_at (256 - 2 ^ (2 + m) + 3) i == 1) ≡ (nat_le i 1 || nat_le (2 + m) i)
first_bit m i most low =
    let row = one_below 7 (λ m. all_below 8 (λ i. bit_at (256 - 2 ^ (2 + m) + 3) i == number (nat_le i 1 || nat_le (2 + m) i))) m first_bits (omega (arith, most)) in
    let cell = one_below 8 (λ i. bit_at (256 - 2 ^ (2 + m) + 3) i == number (nat_le i 1 || nat_le (2 + m) i)) i row low in
    ap (λ x. x == 1) (eqb-true (bit_at (256 - 2 ^ (2 + m) + 3) i) (number (nat_le i 1 || nat_le (2 + m) i)) cell) ∙ number_is (nat_le i 1 || nat_le (2 + m) i)

-- a number of free bits stands for what is past the last
past_last : (last n i j m : ℕ) → m ≡ min (last + 1 - n) 8 → n + i ≡ j → i < 8 → nat_le m i ≡ nat_lt last j
past_last last n i j m is sum low =
    elim (cases_lt last j) [
      | inl past ↦ rw (lt-ltb last j past, le-leb m i (omega (arith, is, sum, past))) refl
      | inr within ↦ rw (le-ltb last j within, lt-leb m i (omega (arith, is, sum, within, low))) refl
    ]

first_byte : (last i : ℕ) → 1 ≤ last → i < 8 → (bit_at (map_byte last 0) i == 1) ≡ taken last i
first_byte last i some low =
    let m = min (last + 1) 8 - 2 in
    let free : min (last + 1 - 0) 8 ≡ 2 + m = omega (arith, some) in
    let most : m ≤ 6 = omega arith in
    ap (λ f. bit_at (256 - 2 ^ f + 3) i == 1) free ∙ (first_bit m i most low ∙ ap (λ b. nat_le i 1 || b) (past_last last 0 i i (2 + m) (sym free) (omega arith) low))

other_byte : (last n i : ℕ) → 1 < n → i < 8 → (bit_at (map_byte last n) i == 1) ≡ taken last (n + i)
other_byte last n i more low =
    let m = min (last + 1 - n) 8 in
    let most : m ≤ 8 = omega arith in
    let same : 256 - 2 ^ m + 0 ≡ 256 - 2 ^ m = omega arith in
    rw (ne_eqb n 0 (λ e. omega (arith, more, e)), lt-leb (n + i) 1 (omega (arith, more)))
    (ap (λ byte. bit_at byte i == 1) same ∙ (free_bit m i most low ∙ past_last last n i (n + i) m refl refl low))

byte_bit : (last n i : ℕ) → 1 ≤ last → n % 8 ≡ 0 → i < 8 → (bit_at (map_byte last n) i == 1) ≡ taken last (n + i)
byte_bit last n i some whole low =
    elim (cases_eq n 0) [
      | inl none ↦
          let sum : i ≡ n + i = omega (arith, none) in
          ap (λ n. bit_at (map_byte last n) i == 1) none ∙ (first_byte last i some low ∙ ap (taken last) sum)
      | inr more ↦ other_byte last n i (omega (arith, more, whole)) low
    ]

map_bit : (last n at : ℕ) → 1 ≤ last → n % 8 ≡ 0 → at < 8192 → bit_of (map_block last n) at ≡ taken last (n + at)
unfolding map_block
map_bit last n at some whole low =
    let same : n + 8 * (at / 8) + at % 8 ≡ n + at = omega arith in
    ap (λ byte. bit_at byte (at % 8) == 1) (get_or-map-range_with_len (λ k. map_byte last (n + 8 * k)) 0 1024 (at / 8) (at / 8) 0 (omega (arith, low)) (omega arith))
    ∙ (byte_bit last (n + 8 * (at / 8)) (at % 8) some (omega (arith, whole)) (omega arith) ∙ ap (taken last) same)

-- ---- both maps

place_is : (p q : BitPlace) → p.block ≡ q.block → p.at ≡ q.at → p ≡ q
place_is p q block at = ap₂ (λ b a. let made : BitPlace = record { block = b; at = a } in made) block at

module _ (g : Geometry) (journal : ℕ) (wide : Bool) (sound : IsSound g) where
  made : (p : BitPlace) → p.block < 2 + g.imap + g.zmap → has_bit (made_image g journal wide) p ≡ bit_of (made_block g p.block) p.at
  made p high =
      let below = sound.tables_below in
      let more = sound.some_zone in
      ap (λ body. bit_of body p.at) (body_at-some (made_image g journal wide) p.block (made_block g p.block) (get_volume g journal wide p.block (omega (arith, high, below, more))))

  in_inodes : (p : BitPlace) → 2 ≤ p.block → p.block < 2 + g.imap → p.at < 8192 → has_bit (made_image g journal wide) p ≡ taken g.inodes (8192 * (p.block - 2) + p.at)
  in_inodes p low high within =
      let some = sound.some_inode in
      made p (omega (arith, high)) ∙ (ap (λ body. bit_of body p.at) (made_inodes g sound p.block low high) ∙ map_bit g.inodes (8192 * (p.block - 2)) p.at (omega (arith, some)) (omega arith) within)

  in_zones : (p : BitPlace) → 2 + g.imap ≤ p.block → p.block < 2 + g.imap + g.zmap → p.at < 8192 → has_bit (made_image g journal wide) p ≡ taken (g.zones - g.first) (8192 * (p.block - (2 + g.imap)) + p.at)
  in_zones p low high within =
      let some = sound.some_zone in
      made p high ∙ (ap (λ body. bit_of body p.at) (made_zones g sound p.block low high) ∙ map_bit (g.zones - g.first) (8192 * (p.block - (2 + g.imap))) p.at (omega (arith, some)) (omega arith) within)

  pub inode_marked : (inode : ℕ) → 1 ≤ inode → inode ≤ g.inodes → has_bit (made_image g journal wide) (inode_bit g inode) ≡ (inode == 1)
  inode_marked inode low high =
      let bits = sound.inode_bits in
      let here : 8192 * (2 + inode / 8192 - 2) + inode % 8192 ≡ inode = omega arith in
      in_inodes (inode_bit g inode) (omega arith) (omega (arith, high, bits)) (omega arith) ∙ (ap (taken g.inodes) here ∙ taken_by_root g.inodes inode low high)

  zone_first : (zone : ℕ) → g.first ≤ zone → (zone - g.first + 1 == 1) ≡ (zone == g.first)
  zone_first zone low =
      elim (cases_eq zone g.first) [
        | inl same ↦ rw (eq-eqb zone g.first same, eq-eqb (zone - g.first + 1) 1 (omega (arith, same))) refl
        | inr differ ↦ rw (ne_eqb zone g.first differ, ne_eqb (zone - g.first + 1) 1 (λ e. differ (omega (arith, low, e)))) refl
      ]

  pub zone_marked : (zone : ℕ) → g.first ≤ zone → zone < g.zones → has_bit (made_image g journal wide) (zone_bit g zone) ≡ (zone == g.first)
  zone_marked zone low high =
      let bits = sound.zone_bits in
      let n = zone - g.first + 1 in
      let here : 8192 * (2 + g.imap + n / 8192 - (2 + g.imap)) + n % 8192 ≡ n = omega arith in
      in_zones (zone_bit g zone) (omega arith) (omega (arith, low, high, bits)) (omega arith)
      ∙ (ap (taken (g.zones - g.first)) here ∙ (taken_by_root (g.zones - g.first) n (omega arith) (omega (arith, low, high)) ∙ zone_first zone low))

  pub other_marked : (p : BitPlace) → 2 ≤ p.block → p.block < 2 + g.imap + g.zmap → p.at < 8192 →
      ((inode : ℕ) → 1 ≤ inode → inode ≤ g.inodes → p ≢ inode_bit g inode) → ((zone : ℕ) → g.first ≤ zone → zone < g.zones → p ≢ zone_bit g zone) →
      has_bit (made_image g journal wide) p ≡ true
  other_marked p low high within no_inode no_zone =
      elim (cases_lt p.block (2 + g.imap)) [
        | inl here ↦
            let n = 8192 * (p.block - 2) + p.at in
            in_inodes p low here within
            ∙ taken_by_none g.inodes n (λ a b. no_inode n a b (place_is p (inode_bit g n) (omega (arith, low, within)) (omega (arith, within))))
        | inr there ↦
            let n = 8192 * (p.block - (2 + g.imap)) + p.at in
            in_zones p there high within
            ∙ taken_by_none (g.zones - g.first) n
            (λ a b.
            no_zone (g.first + n - 1) (omega (arith, a)) (omega (arith, a, b)) (place_is p (zone_bit g (g.first + n - 1)) (omega (arith, there, within, a)) (omega (arith, within, a))))
      ]
