-- What may stand in a put.
use Rattle.std.specs.Prelude.{◌≡◌, ℕ, Bool, true, ◌&&◌, ◌==◌, not, nat_le, List, length}
use Rattle.std.specs.List.{list_all}
use Rattle.tree_model.specs.Paths.{is_name_byte}
use Rattle.wal_store.specs.declared.puts.TheConstants.{MOST_KEY, MOST_VALUE}
use Rattle.wal_store.specs.declared.puts.Put.{Put}

-- 1 to so many of the characters of a name in a path
abbrev pub is_text : ℕ → List ℕ → Bool
is_text most t = not (length t == 0) && (nat_le (length t) most && list_all is_name_byte t)

abbrev pub is_key : List ℕ → Bool
is_key t = is_text MOST_KEY t

abbrev pub is_value : List ℕ → Bool
is_value t = is_text MOST_VALUE t

-- key and value have the lengths and characters that they may have
pub record IsPut (p : Put) : Type 0 where
  pub key : is_key p.key ≡ true
  pub value : is_value p.value ≡ true
