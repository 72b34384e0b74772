-- What is read of the matches of a command.
use Rattle.std.specs.Prelude.{Bool, true, false, List, [], ◌∷◌, codes, Option, Some, None, option_map, option_and_then, if◌then◌else◌}
use Rattle.std.specs.Option.{option_map_or}
use Rattle.std.specs.Str.{bytes_eq}
use Rattle.clap.specs.Words.{Kinds, Row, Text, first_of}
use Rattle.clap_words.specs.Table.{Said, is_numeral}

-- the first value of each name
abbrev pub Values : Type 0
Values = Text → Option Text

abbrev pub has_raw : Values → Bool
has_raw values = option_map_or (λ t. bytes_eq t (codes "true")) (values (codes "raw")) false

abbrev pub if_numeral : Text → Option Text
if_numeral t = if is_numeral t then Some t else None

abbrev pub number_in : Text → Values → Option Text
number_in name values = option_and_then if_numeral (values name)

abbrev pub bulk_in : Values → Option Said
bulk_in values = option_map Said.bulk (number_in (codes "N") values)

abbrev pub make_in : Values → Option Said
make_in values =
    option_and_then (λ i. option_and_then (λ z. option_map (λ j. Said.make i z j) (number_in (codes "J") values)) (number_in (codes "Z") values)) (number_in (codes "I") values)

abbrev pub read_by : Text → Values → Option Said
read_by name values =
    if bytes_eq name (codes "replay") then Some (Said.replay (has_raw values))
    else if bytes_eq name (codes "run") then Some (Said.run (has_raw values))
    else if bytes_eq name (codes "show") then Some Said.show
    else if bytes_eq name (codes "widen") then Some (Said.widen (has_raw values))
    else if bytes_eq name (codes "check") then Some Said.check
    else if bytes_eq name (codes "kv") then Some Said.kv
    else if bytes_eq name (codes "make") then make_in values
    else if bytes_eq name (codes "bulk") then bulk_in values
    else None

abbrev pub values_of : List Row → Values
values_of rows name = first_of name rows

abbrev pub read_in : Option (Text × List Row) → Option Said
read_in = option_and_then (λ p. read_by p.0 (values_of p.1))

-- what is read where a parse with these faults enters this command
abbrev pub given : Kinds → Option (Text × List Row) → Option Said
given [] sub = read_in sub
given (k ∷ ks) sub = None
