-- What lists of words ask for, as a table.
use Rattle.std.specs.Prelude.{ℕ, ◌==◌, ◌&&◌, not, Bool, true, false, List, [], ◌∷◌, codes, Option, Some, None, nat_le, if◌then◌else◌}
use Rattle.std.specs.List.{list_all}
use Rattle.std.specs.Str.{bytes_eq}
use Rattle.clap_words.specs.declared.asked.Asked.{Asked}
use Rattle.clap_words.specs.declared.asked.Asked.TheVariants as asked

-- what words ask for, by what they say
pub data Said : Type 0 where
  replay : Bool → Said
  run : Bool → Said
  show : Said
  widen : Bool → Said
  check : Said
  kv : Said
  make : List ℕ → List ℕ → List ℕ → Said
  bulk : List ℕ → Said

abbrev pub said_of : Asked → Said
said_of (asked.Replay raw) = Said.replay raw
said_of (asked.Run raw) = Said.run raw
said_of asked.Show = Said.show
said_of (asked.Widen raw) = Said.widen raw
said_of asked.Check = Said.check
said_of asked.Kv = Said.kv
said_of (asked.Make inodes zones journal) = Said.make inodes.now zones.now journal.now
said_of (asked.Bulk number) = Said.bulk number.now

abbrev pub is_digit : ℕ → Bool
is_digit b = nat_le 48 b && nat_le b 57

-- a decimal number with no sign and no leading zero
abbrev pub is_numeral : List ℕ → Bool
is_numeral [] = false
is_numeral (b ∷ []) = is_digit b
is_numeral (b ∷ c ∷ bs) = not (b == 48) && list_all is_digit (b ∷ c ∷ bs)

abbrev pub is_lone_dash : List ℕ → Bool
is_lone_dash w = bytes_eq w (codes "--")

-- a command's word, alone
abbrev pub one_word : List ℕ → Option Said
one_word w =
    if bytes_eq w (codes "replay") then Some (Said.replay false)
    else if bytes_eq w (codes "run") then Some (Said.run false)
    else if bytes_eq w (codes "show") then Some Said.show
    else if bytes_eq w (codes "widen") then Some (Said.widen false)
    else if bytes_eq w (codes "check") then Some Said.check
    else if bytes_eq w (codes "kv") then Some Said.kv
    else None

-- a command's word, with `--raw` behind it
abbrev pub with_raw : List ℕ → Option Said
with_raw w =
    if bytes_eq w (codes "replay") then Some (Said.replay true)
    else if bytes_eq w (codes "run") then Some (Said.run true)
    else if bytes_eq w (codes "widen") then Some (Said.widen true)
    else None

abbrev pub two_words : List ℕ → List ℕ → Option Said
two_words w v =
    if bytes_eq w (codes "bulk") then (if is_numeral v then Some (Said.bulk v) else None)
    else if bytes_eq v (codes "--raw") then with_raw w
    else None

abbrev pub four_words : List ℕ → List ℕ → List ℕ → List ℕ → Option Said
four_words w i z j = if bytes_eq w (codes "make") && (is_numeral i && (is_numeral z && is_numeral j)) then Some (Said.make i z j) else None

-- the table: no other list asks for anything
abbrev pub asked_by : List (List ℕ) → Option Said
asked_by (w ∷ []) = one_word w
asked_by (w ∷ v ∷ []) = two_words w v
asked_by (w ∷ i ∷ z ∷ j ∷ []) = four_words w i z j
asked_by words = None
