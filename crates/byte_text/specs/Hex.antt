-- How bytes are written in hexadecimal.
use Rattle.std.specs.Prelude.{ℕ, ◌+◌, ◌/◌, ◌%◌, List, [], ◌∷◌, nat_lt, if◌then◌else◌}

-- one hexadecimal digit, a letter in lower case
abbrev pub hex_digit_text : ℕ → ℕ
hex_digit_text digit = if nat_lt digit 10 then digit + 48 else digit + 87

-- a byte as two hexadecimal digits in lower case
abbrev pub hex_text : ℕ → List ℕ
hex_text value = hex_digit_text (value / 16) ∷ hex_digit_text (value % 16) ∷ []
