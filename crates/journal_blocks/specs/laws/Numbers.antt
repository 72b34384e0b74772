-- Laws of numbers among bytes that were written one behind the other.
use Rattle.std.specs.Prelude.{◌≡◌, ℕ, ◌^◌, ◌<◌, List, [], ◌++◌, length, refl}
use Rattle.std.proofs.Common.{ap, ◌∙◌}
use Rattle.std.proofs.lemmas.List.{drop_at}
use Rattle.byteorder.specs.Numbers.{big_number-reads_back}
use Rattle.byteorder.specs.Endian.{big_number, big_bytes}
use Rattle.byte_fields.specs.Fields.{bytes_of, number_at, number_of}
use Rattle.byte_fields.specs.Fields.Order.{big}

-- a number is read where it was written
pub read_there : (n x at : ℕ) (xs rest : List ℕ) → length xs ≡ at → x < 256 ^ n → number_at big n at (xs ++ (bytes_of big n x ++ rest)) ≡ x
unfolding number_at number_of bytes_of
read_there n x at xs rest size fits = ap (big_number n) (drop_at xs (big_bytes n x ++ rest) at size) ∙ big_number-reads_back n x rest fits

pub read_first : (n x : ℕ) (rest : List ℕ) → x < 256 ^ n → number_at big n 0 (bytes_of big n x ++ rest) ≡ x
read_first n x rest fits = read_there n x 0 [] rest refl fits
