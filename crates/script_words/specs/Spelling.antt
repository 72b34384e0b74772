-- How scripts are cut into lines and words, and how numbers are spelled.
use Rattle.std.specs.Prelude.{ℕ, ◌+◌, ◌-◌, ◌*◌, ◌^◌, ◌==◌, ◌&&◌, not, min, Bool, true, false, List, [], ◌∷◌, codes, length, take, Option, Some, None, nat_le, if◌then◌else◌, slice_get}
use Rattle.std.specs.List.{slice_split, list_all}
use Rattle.std.specs.Option.{option_and_then, option_map, option_map_or}
use Rattle.std.specs.Str.{bytes_eq}

-- the last byte is a line feed
abbrev pub ends_in_feed : List ℕ → Bool
ends_in_feed bytes = option_map_or (λ b. b == 10) (slice_get bytes (length bytes - 1)) false

-- the bytes without a line feed at their end
abbrev pub without_last_feed : List ℕ → List ℕ
without_last_feed bytes = if ends_in_feed bytes then take (length bytes - 1) bytes else bytes

-- the lines; the last line feed may be missing
abbrev pub lines_of : List ℕ → List (List ℕ)
lines_of bytes = if length bytes == 0 then [] else slice_split (λ b. b == 10) (without_last_feed bytes)

-- a line that is empty or begins with # is skipped
abbrev pub is_skipped : List ℕ → Bool
is_skipped [] = true
is_skipped (b ∷ bs) = b == 35

-- words are parted by one space each
abbrev pub words_of : List ℕ → List (List ℕ)
words_of line = slice_split (λ b. b == 32) line

abbrev pub is_digit : ℕ → Bool
is_digit b = nat_le 48 b && nat_le b 57

-- a decimal number with no sign and no leading zero
abbrev pub is_numeral : List ℕ → Bool
is_numeral [] = false
is_numeral (b ∷ []) = is_digit b
is_numeral (b ∷ c ∷ bs) = not (b == 48) && list_all is_digit (b ∷ c ∷ bs)

-- the value of digits behind others
abbrev pub value_after : ℕ → List ℕ → ℕ
value_after n [] = n
value_after n (b ∷ bs) = value_after (10 * n + (b - 48)) bs

-- The value of a numeral. All limits are far below the end of 64 bits, where it stands still.
abbrev pub numeral : List ℕ → Option ℕ
numeral word = if is_numeral word then Some (min (value_after 0 word) (2 ^ 64 - 1)) else None

-- a lower-case hexadecimal digit
abbrev pub hex_digit : ℕ → Option ℕ
hex_digit b = if is_digit b then Some (b - 48) else (if nat_le 97 b && nat_le b 102 then Some (b - 87) else None)

-- two of them
abbrev pub hex_byte : List ℕ → Option ℕ
hex_byte (h ∷ l ∷ []) = option_and_then (λ x. option_map (λ y. 16 * x + y) (hex_digit l)) (hex_digit h)
hex_byte word = None

-- how often something is done: the words are none, or x and a number
abbrev pub count_of : List (List ℕ) → Option ℕ
count_of [] = Some 1
count_of (x ∷ n ∷ []) = if bytes_eq x (codes "x") then numeral n else None
count_of ws = None
