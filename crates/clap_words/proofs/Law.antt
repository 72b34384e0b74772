-- Of lists without a word `--`, `clap` takes those of the table and no others.
use Rattle.std.proofs.Common.{◌∙◌, ◌≡◌, ◌⊎◌, ◌&&◌, ◌||◌, ◌==◌, not, ℕ, Bool, zero, suc, true, false, true≢false, if◌then◌else◌, inl, inr, refl, sym, ap, ap₂, subst, arith, List, [], ◌∷◌, ◌++◌, length, drop, Option, Some, None, is_some, codes, option_map, bytes_eq}
use Rattle.std.specs.Prelude.{⊤, ◌+◌, ◌≤◌, fold, nat_le, option_and_then, take}
use Rattle.std.specs.List.{before_first, list_all, list_any, position_or_len}
use Rattle.std.proofs.lemmas.Bool.{eqb-true, and_parts, leb-true, ne_eqb, false_from_ne_true}
use Rattle.std.proofs.lemmas.Option.{none-some, same_Some}
use Rattle.std.proofs.lemmas.Slice.Eq.{bytes_eq-Decides}
use Rattle.clap.specs.Lexer.{has_byte, long_of, long_of_rest, name_and_value, short_of, short_of_rest, strip_byte}
use Rattle.clap.specs.Kinds.{Kinds, or_else}
use Rattle.clap.specs.Walk.{Held, Names, Row, Rule, Text, Walk, arg_by_index, arg_by_long, arg_by_short, finished, idle, nothing_held, rows_after, settled, subcommand_met, used, value, walk, walk_from, walked}
use Rattle.clap.specs.Simple.{App, Shape, built, entered, filled, names_of, new_shape, subcommand_of, with_index}
use Rattle.clap.specs.Faults.{check_fault, defaults_fault, entered_fault, fault_of, level_fault, long_fault, settle_fault, step_fault, turn_fault, walk_fault}
use Rattle.clap.proofs.OnLiterals.{clap_on_literals}
use Rattle.clap_words.specs.App.{barrierfs, number, raw}
use Rattle.clap_words.specs.Reads.{given, if_numeral, read_by, read_in, values_of}
use Rattle.clap_words.specs.Table.{Said, asked_by, four_words, is_digit, is_lone_dash, is_numeral, one_word, two_words, with_raw}
use Rattle.clap_words.proofs.Walks.{IsFault, IsValue, LongFault, comes, first, here, plain_word, some_none, stops_well, walk_stops}

-- ---- the commands as they are built

abbrev leaf : Text → List Rule → Shape
leaf name rules = record (new_shape name) {
  rules = rules;
  no_binary_name = true;
  disable_help_flag = true;
  disable_help_subcommand = true;
  disable_version_flag = true;
  is_built = true;
}

abbrev raw_rules : List Rule
raw_rules = filled raw ∷ []

abbrev bulk_rules : List Rule
bulk_rules = with_index 1 (filled (number (codes "N"))) ∷ []

abbrev make_rules : List Rule
make_rules = with_index 1 (filled (number (codes "I"))) ∷ with_index 2 (filled (number (codes "Z"))) ∷ with_index 3 (filled (number (codes "J"))) ∷ []

abbrev top : Shape
top = (built barrierfs).top

abbrev names : Names
names = names_of (built barrierfs)

leaves_are : (built barrierfs).subs ≡ leaf (codes "replay") raw_rules ∷ leaf (codes "run") raw_rules ∷ leaf (codes "show") [] ∷ leaf (codes "widen") raw_rules ∷ leaf (codes "check") []
    ∷ leaf (codes "kv") [] ∷ leaf (codes "make") make_rules ∷ leaf (codes "bulk") bulk_rules ∷ []
leaves_are = refl

-- ---- the first word

abbrev from_top : Kinds → Walk → Option Said
from_top fault end =
    given (or_else fault (or_else (entered_fault (built barrierfs) end.stopped) (or_else (settle_fault top.rules top.args_override_self end.held)
    (or_else (defaults_fault (settled top.rules end.held).rows top.rules) (check_fault top (finished top.rules end.held) (is_some (entered (built barrierfs) end.stopped)))))))
    (entered (built barrierfs) end.stopped)

abbrev said : List Text → Option Said
said words = given (fault_of barrierfs words) (subcommand_of barrierfs words)

abbrev start : Walk
start = walk_from nothing_held

enters : (name : Text) (rest : List Text) → turn_fault top names start name ≡ [] → walked top.rules names start name ≡ record start { stopped = Some (name, []) }
    → said (name ∷ rest) ≡ from_top [] (record start { stopped = Some (name, rest) })
unfolding walk_fault
enters name rest well stops =
    ap₂ from_top
    (ap (λ k. or_else k (walk_fault top names (walked top.rules names start name) rest)) well ∙ ap (λ w. walk_fault top names w rest) stops ∙ stops_well top names start name [] rest)
    (ap (λ w. fold (walked top.rules names) w rest) stops ∙ walk_stops top.rules names start name [] rest)

-- the words after a command's word
abbrev from_leaf : Text → List Rule → Kinds → Walk → Option Said
from_leaf name rules fault end =
    given (or_else (or_else fault (or_else (settle_fault rules false end.held) (or_else (defaults_fault (settled rules end.held).rows rules) (check_fault (leaf name rules) (finished rules end.held) false)))) [])
    (Some (name, finished rules end.held))

abbrev on : Text → List Rule → Walk → List Text → Option Said
on name rules w words = from_leaf name rules (walk_fault (leaf name rules) [] w words) (fold (walked rules []) w words)

dead : (name : Text) (rules : List Rule) (k x : Kinds) (end : Walk) → IsFault k → from_leaf name rules (or_else k x) end ≡ None
dead name rules [] x end f = absurd f
dead name rules (k ∷ ks) x end f = refl

-- nothing is asked where a word is refused
dead_word : (name : Text) (rules : List Rule) (w : Walk) (v : Text) (r : List Text) → IsFault (turn_fault (leaf name rules) [] w v) → on name rules w (v ∷ r) ≡ None
unfolding walk_fault
dead_word name rules w v r f =
    dead name rules (turn_fault (leaf name rules) [] w v) (walk_fault (leaf name rules) [] (walked rules [] w v) r) (fold (walked rules []) (walked rules [] w v) r) f

next_word : (name : Text) (rules : List Rule) (w after : Walk) (v : Text) (r : List Text) → turn_fault (leaf name rules) [] w v ≡ [] → walked rules [] w v ≡ after
    → on name rules w (v ∷ r) ≡ on name rules after r
unfolding walk_fault
next_word name rules w after v r well is =
    ap₂ (from_leaf name rules)
    (ap (λ k. or_else k (walk_fault (leaf name rules) [] (walked rules [] w v) r)) well ∙ ap (λ u. walk_fault (leaf name rules) [] u r) is)
    (ap (λ u. fold (walked rules []) u r) is)

-- ---- lists of words with no `--`

or_false : (a b : Bool) → (a || b) ≡ false → (a ≡ false) × (b ≡ false)
or_false true b e = absurd (true≢false e)
or_false false b e = (refl, e)

-- ---- how long flags are spelled

whole : (t : Text) → list_any (λ x. x == 61) t ≡ false → before_first (λ x. x == 61) t ≡ t
whole [] e = refl
whole (x ∷ xs) e =
    let parts = or_false (x == 61) (list_any (λ y. y == 61) xs) e in
    let next : 1 + position_or_len (λ y. y == 61) xs ≡ suc (position_or_len (λ y. y == 61) xs) = omega arith in
    rw parts.0 (ap (λ k. take k (x ∷ xs)) next ∙ ap (λ ys. x ∷ ys) (whole xs parts.1))

unstrip_by : (b : Bool) (x : ℕ) (xs u : Text) → (x == 45) ≡ b → (if b then Some xs else None) ≡ Some u → x ∷ xs ≡ 45 ∷ u
unstrip_by true x xs u is e = ap₂ (λ (y : ℕ) (ys : Text). y ∷ ys) (eqb-true x 45 is) (same_Some xs u e)
unstrip_by false x xs u is e = absurd (none-some u e)

unstrip : (t u : Text) → strip_byte 45 t ≡ Some u → t ≡ 45 ∷ u
unstrip [] u e = absurd (none-some u e)
unstrip (x ∷ xs) u e = unstrip_by (x == 45) x xs u refl e

no_equals : (b : Bool) (v : Text) → (if b then Some v else None) ≡ None → b ≡ false
no_equals true v e = absurd (some_none v e)
no_equals false v e = refl

unrest : (t : Text) (p : Text × Option Text) → long_of_rest t ≡ Some p → p.1 ≡ None → t ≡ p.0
unrest [] p e n = absurd (none-some p e)
unrest (x ∷ xs) p e n =
    let is = same_Some (name_and_value (x ∷ xs)) p e in
    sym (whole (x ∷ xs) (no_equals (has_byte 61 (x ∷ xs)) _ (ap (λ (q : Text × Option Text). q.1) is ∙ n))) ∙ ap (λ (q : Text × Option Text). q.0) is

unlong_behind : (o : Option Text) (u : Text) (p : Text × Option Text) → strip_byte 45 u ≡ o → option_and_then long_of_rest o ≡ Some p → p.1 ≡ None → u ≡ 45 ∷ p.0
unlong_behind None u p is e n = absurd (none-some p e)
unlong_behind (Some t) u p is e n = unstrip u t is ∙ ap (λ (v : Text). 45 ∷ v) (unrest t p e n)

unlong_by : (o : Option Text) (word : Text) (p : Text × Option Text) → strip_byte 45 word ≡ o → option_and_then long_of_rest (option_and_then (strip_byte 45) o) ≡ Some p → p.1 ≡ None
    → word ≡ 45 ∷ 45 ∷ p.0
unlong_by None word p is e n = absurd (none-some p e)
unlong_by (Some u) word p is e n = unstrip word u is ∙ ap (λ (v : Text). 45 ∷ v) (unlong_behind (strip_byte 45 u) u p refl e n)

-- a long flag without a value is spelled by its name
unlong : (word : Text) (p : Text × Option Text) → long_of word ≡ Some p → p.1 ≡ None → word ≡ 45 ∷ 45 ∷ p.0
unlong word p e n = unlong_by (strip_byte 45 word) word p refl e n

-- ---- a command with no arguments, or with the flag `--raw`

abbrev at : List Row → Option (Text × List Text) → ℕ → Walk
at rows pending i = record { held = record { rows = rows; pending = pending; skip = 0 }; waiting = idle; position = i; is_trailing = false; stopped = None }

-- a word behind all that is taken is refused
stray : (name : Text) (rules : List Rule) (rows : List Row) (pending : Option (Text × List Text)) (i : ℕ) (word : Text) → IsFault (step_fault (leaf name rules) i (at rows pending i).held value)
    → bytes_eq word (45 ∷ 45 ∷ []) ≡ false → LongFault (leaf name rules) [] rows pending i word (long_of word) → ((x : ℕ) → arg_by_short rules x ≡ None)
    → IsFault (turn_fault (leaf name rules) [] (at rows pending i) word)
stray name rules rows pending i word last dash long short = elim (comes (leaf name rules) [] rows pending i word refl dash long short) [
  | inl f ↦ f
  | inr v ↦ subst IsFault (sym v.0) last
]

no_long : (name : Text) (i : ℕ) (word : Text) (o : Option (Text × Option Text)) → LongFault (leaf name []) [] [] None i word o
no_long name i word None = tt
no_long name i word (Some p) = tt

bare_leaf : (name : Text) (v : Text) (r : List Text) → bytes_eq v (45 ∷ 45 ∷ []) ≡ false → on name [] start (v ∷ r) ≡ None
bare_leaf name v r dash = dead_word name [] start v r (stray name [] [] None 1 v tt dash (no_long name 1 v (long_of v)) (λ x. refl))

abbrev raw_found : Bool → Option Rule
raw_found b = if b || false then Some (filled raw) else None

raw_first : (b : Bool) (v : Option Text) → (b ≡ true → v ≡ None → ⊥) → IsFault (long_fault raw_rules false (raw_found b) v nothing_held)
raw_first false v other = tt
raw_first true (Some x) other = tt
raw_first true None other = absurd (other refl refl)

abbrev raw_rows : List Row
raw_rows = used (filled raw) [] []

raw_twice : (b : Bool) (v : Option Text) → IsFault (long_fault raw_rules false (raw_found b) v (at raw_rows None 1).held)
raw_twice false v = tt
raw_twice true (Some x) = tt
raw_twice true None = tt

raw_again : (name word : Text) (o : Option (Text × Option Text)) → LongFault (leaf name raw_rules) [] raw_rows None 1 word o
raw_again name word None = tt
raw_again name word (Some p) = raw_twice (bytes_eq (codes "raw") p.0) p.1

is_raw : (word : Text) (p : Text × Option Text) → long_of word ≡ Some p → bytes_eq word (codes "--raw") ≡ false → bytes_eq (codes "raw") p.0 ≡ true → p.1 ≡ None → ⊥
is_raw word p e not same none =
    let spelled : word ≡ codes "--raw" = unlong word p e none ∙ ap (λ (v : Text). 45 ∷ 45 ∷ v) (sym ((bytes_eq-Decides (codes "raw") p.0).0 same)) in
    true≢false (sym ((bytes_eq-Decides word (codes "--raw")).1 spelled) ∙ not)

raw_long : (name word : Text) (o : Option (Text × Option Text)) → long_of word ≡ o → bytes_eq word (codes "--raw") ≡ false → LongFault (leaf name raw_rules) [] [] None 1 word o
raw_long name word None e not = tt
raw_long name word (Some p) e not = raw_first (bytes_eq (codes "raw") p.0) p.1 (is_raw word p e not)

-- what such a command is asked, by whether the first word behind it is `--raw`
abbrev raw_by : (Bool → Said) → Bool → List Text → Option Said
raw_by f b [] = if b then Some (f true) else None
raw_by f b (v ∷ r) = None

abbrev raw_said : (Bool → Said) → List Text → Option Said
raw_said f [] = Some (f false)
raw_said f (v ∷ r) = raw_by f (bytes_eq v (codes "--raw")) r

module _ (name : Text) (f : Bool → Said) (bare : on name raw_rules start [] ≡ Some (f false)) (given_raw : on name raw_rules (at raw_rows None 1) [] ≡ Some (f true))
    (taken : turn_fault (leaf name raw_rules) [] start (codes "--raw") ≡ []) where
  behind_raw : (r : List Text) → list_any is_lone_dash r ≡ false → on name raw_rules (at raw_rows None 1) r ≡ raw_by f true r
  behind_raw [] none = given_raw
  behind_raw (v ∷ r) none =
      dead_word name raw_rules (at raw_rows None 1) v r
      (stray name raw_rules raw_rows None 1 v tt (or_false (is_lone_dash v) (list_any is_lone_dash r) none).0 (raw_again name v (long_of v)) (λ x. refl))

  no_raw : (r : List Text) → None ≡ raw_by f false r
  no_raw [] = refl
  no_raw (v ∷ r) = refl

  raw_word : (b : Bool) (v : Text) (r : List Text) → bytes_eq v (codes "--raw") ≡ b → is_lone_dash v ≡ false → list_any is_lone_dash r ≡ false → on name raw_rules start (v ∷ r) ≡ raw_by f b r
  unfolding clap_on_literals
  raw_word true v r is dash none =
      let spelled = (bytes_eq-Decides v (codes "--raw")).0 is in
      ap (λ u. on name raw_rules start (u ∷ r)) spelled ∙ next_word name raw_rules start (at raw_rows None 1) (codes "--raw") r taken refl ∙ behind_raw r none
  raw_word false v r is dash none =
      dead_word name raw_rules start v r (stray name raw_rules [] None 1 v tt dash (raw_long name v (long_of v) refl is) (λ x. refl)) ∙ no_raw r

  raw_leaf : (r : List Text) → list_any is_lone_dash r ≡ false → on name raw_rules start r ≡ raw_said f r
  raw_leaf [] none = bare
  raw_leaf (v ∷ r) none =
      let parts = or_false (is_lone_dash v) (list_any is_lone_dash r) none in
      raw_word (bytes_eq v (codes "--raw")) v r refl parts.0 parts.1

-- ---- numbers

not_hyphen : (d : ℕ) → is_digit d ≡ true → (d == 45) ≡ false
not_hyphen d e =
    let least = leb-true 48 d (and_parts (nat_le 48 d) (nat_le d 57) e).0 in
    ne_eqb d 45 (λ is. absurd (omega (arith, least, is)))

-- the word begins, and with no hyphen
abbrev Begins : Text → Type 0
Begins [] = ⊥
Begins (d ∷ ds) = (d == 45) ≡ false

begins : (word : Text) → is_numeral word ≡ true → Begins word
begins [] e = absurd (true≢false (sym e))
begins (d ∷ []) e = not_hyphen d e
begins (d ∷ c ∷ ds) e = not_hyphen d (and_parts (is_digit d) _ (and_parts (not (d == 48)) _ e).1).0

not_long : (word : Text) → Begins word → long_of word ≡ None
not_long [] b = absurd b
not_long (d ∷ ds) b = ap (λ x. option_and_then long_of_rest (option_and_then (strip_byte 45) (if x then Some ds else None))) b

not_short : (word : Text) → Begins word → short_of word ≡ None
not_short [] b = absurd b
not_short (d ∷ ds) b = ap (λ x. option_and_then short_of_rest (if x then Some ds else None)) b

-- a word where a positional may stand is refused, and then it is no number, or it goes there
number_by : (b : Bool) (name : Text) (rules : List Rule) (rows : List Row) (pending : Option (Text × List Text)) (i : ℕ) (word : Text) → is_numeral word ≡ b
    → bytes_eq word (45 ∷ 45 ∷ []) ≡ false → LongFault (leaf name rules) [] rows pending i word (long_of word) → ((x : ℕ) → arg_by_short rules x ≡ None)
    → (IsFault (turn_fault (leaf name rules) [] (at rows pending i) word) × (is_numeral word ≡ false)) ⊎ IsValue (leaf name rules) [] rows pending i word
number_by true name rules rows pending i word e dash long short =
    let b = begins word e in
    inr (plain_word (leaf name rules) [] rows pending i word refl dash (not_long word b) (not_short word b))
number_by false name rules rows pending i word e dash long short = elim (comes (leaf name rules) [] rows pending i word refl dash long short) [
  | inl f ↦ inl (f, e)
  | inr v ↦ inr v
]

abbrev dashless : List Text → Type 0
dashless words = list_any is_lone_dash words ≡ false

dashes : (w : Text) (r : List Text) → dashless (w ∷ r) → (is_lone_dash w ≡ false) × dashless r
dashes w r none = or_false (is_lone_dash w) (list_any is_lone_dash r) none

-- ---- `bulk`

abbrev bulk_said : List Text → Option Said
bulk_said (n ∷ []) = if is_numeral n then Some (Said.bulk n) else None
bulk_said r = None

bulk_long : (rows : List Row) (pending : Option (Text × List Text)) (i : ℕ) (word : Text) (o : Option (Text × Option Text)) → LongFault (leaf (codes "bulk") bulk_rules) [] rows pending i word o
bulk_long rows pending i word None = tt
bulk_long rows pending i word (Some p) = tt

bulk_number : (b : Bool) (n : Text) → option_map Said.bulk (if b then Some n else None) ≡ (if b then Some (Said.bulk n) else None)
bulk_number true n = refl
bulk_number false n = refl

bulk_none : (n : Text) (r : List Text) → is_numeral n ≡ false → None ≡ bulk_said (n ∷ r)
bulk_none n [] e = rw e refl
bulk_none n (v ∷ r) e = refl

behind_bulk : (n : Text) (r : List Text) → dashless r → on (codes "bulk") bulk_rules (at [] (Some (codes "N", n ∷ [])) 2) r ≡ bulk_said (n ∷ r)
unfolding clap_on_literals
behind_bulk n [] none = bulk_number (is_numeral n) n
behind_bulk n (v ∷ r) none =
    dead_word (codes "bulk") bulk_rules (at [] (Some (codes "N", n ∷ [])) 2) v r
    (stray (codes "bulk") bulk_rules [] (Some (codes "N", n ∷ [])) 2 v tt (dashes v r none).0 (bulk_long [] (Some (codes "N", n ∷ [])) 2 v (long_of v)) (λ x. refl))

bulk_leaf : (r : List Text) → dashless r → on (codes "bulk") bulk_rules start r ≡ bulk_said r
unfolding clap_on_literals
bulk_leaf [] none = refl
bulk_leaf (n ∷ r) none =
    let d = dashes n r none in
    elim (number_by (is_numeral n) (codes "bulk") bulk_rules [] None 1 n refl d.0 (bulk_long [] None 1 n (long_of n)) (λ x. refl)) [
      | inl f ↦ dead_word (codes "bulk") bulk_rules start n r f.0 ∙ bulk_none n r f.1
      | inr v ↦ next_word (codes "bulk") bulk_rules start (at [] (Some (codes "N", n ∷ [])) 2) n r v.0 v.1 ∙ behind_bulk n r d.1
    ]

-- ---- `make`

abbrev make_said : List Text → Option Said
make_said (i ∷ z ∷ j ∷ []) = if is_numeral i && (is_numeral z && is_numeral j) then Some (Said.make i z j) else None
make_said r = None

make_long : (rows : List Row) (pending : Option (Text × List Text)) (i : ℕ) (word : Text) (o : Option (Text × Option Text)) → LongFault (leaf (codes "make") make_rules) [] rows pending i word o
make_long rows pending i word None = tt
make_long rows pending i word (Some p) = tt

make_numbers : (a b c : Bool) (i z j : Text)
    → option_and_then (λ x. option_and_then (λ y. option_map (λ v. Said.make x y v) (if c then Some j else None)) (if b then Some z else None)) (if a then Some i else None)
    ≡ (if a && (b && c) then Some (Said.make i z j) else None)
make_numbers true true true i z j = refl
make_numbers true true false i z j = refl
make_numbers true false c i z j = refl
make_numbers false b c i z j = refl

three : (a b c : Bool) (s : Said) → (a ≡ false) ⊎ ((b ≡ false) ⊎ (c ≡ false)) → None ≡ (if a && (b && c) then Some s else None)
three false b c s e = refl
three true false c s e = refl
three true true false s e = refl
three true true true s e = elim e [
  | inl x ↦ absurd (true≢false x)
  | inr o ↦ elim o [
    | inl x ↦ absurd (true≢false x)
    | inr x ↦ absurd (true≢false x)
  ]
]

first_none : (i : Text) (r : List Text) → is_numeral i ≡ false → None ≡ make_said (i ∷ r)
first_none i [] e = refl
first_none i (z ∷ []) e = refl
first_none i (z ∷ j ∷ []) e = three (is_numeral i) (is_numeral z) (is_numeral j) (Said.make i z j) (inl e)
first_none i (z ∷ j ∷ v ∷ r) e = refl

second_none : (i z : Text) (r : List Text) → is_numeral z ≡ false → None ≡ make_said (i ∷ z ∷ r)
second_none i z [] e = refl
second_none i z (j ∷ []) e = three (is_numeral i) (is_numeral z) (is_numeral j) (Said.make i z j) (inr (inl e))
second_none i z (j ∷ v ∷ r) e = refl

third_none : (i z j : Text) (r : List Text) → is_numeral j ≡ false → None ≡ make_said (i ∷ z ∷ j ∷ r)
third_none i z j [] e = three (is_numeral i) (is_numeral z) (is_numeral j) (Said.make i z j) (inr (inr e))
third_none i z j (v ∷ r) e = refl

-- the row of a number that was read
abbrev row : ℕ → Text → Text → List Row → List Row
row at name n rows = used (with_index at (filled (number name))) (n ∷ []) rows

abbrev after_one : Text → Walk
after_one i = at [] (Some (codes "I", i ∷ [])) 2

abbrev one_row : Text → List Row
one_row i = row 1 (codes "I") i []

abbrev after_two : Text → Text → Walk
after_two i z = at (one_row i) (Some (codes "Z", z ∷ [])) 3

abbrev two_rows : Text → Text → List Row
two_rows i z = row 2 (codes "Z") z (one_row i)

abbrev after_three : Text → Text → Text → Walk
after_three i z j = at (two_rows i z) (Some (codes "J", j ∷ [])) 4

behind_three : (i z j : Text) (r : List Text) → dashless r → on (codes "make") make_rules (after_three i z j) r ≡ make_said (i ∷ z ∷ j ∷ r)
unfolding clap_on_literals
behind_three i z j [] none = make_numbers (is_numeral i) (is_numeral z) (is_numeral j) i z j
behind_three i z j (v ∷ r) none =
    dead_word (codes "make") make_rules (after_three i z j) v r
    (stray (codes "make") make_rules (two_rows i z) (Some (codes "J", j ∷ [])) 4 v tt (dashes v r none).0 (make_long (two_rows i z) (Some (codes "J", j ∷ [])) 4 v (long_of v)) (λ x. refl))

behind_two : (i z : Text) (r : List Text) → dashless r → on (codes "make") make_rules (after_two i z) r ≡ make_said (i ∷ z ∷ r)
unfolding clap_on_literals
behind_two i z [] none = refl
behind_two i z (j ∷ r) none =
    let d = dashes j r none in
    elim (number_by (is_numeral j) (codes "make") make_rules (one_row i) (Some (codes "Z", z ∷ [])) 3 j refl d.0 (make_long (one_row i) (Some (codes "Z", z ∷ [])) 3 j (long_of j)) (λ x. refl)) [
      | inl f ↦ dead_word (codes "make") make_rules (after_two i z) j r f.0 ∙ third_none i z j r f.1
      | inr v ↦ next_word (codes "make") make_rules (after_two i z) (after_three i z j) j r v.0 v.1 ∙ behind_three i z j r d.1
    ]

behind_one : (i : Text) (r : List Text) → dashless r → on (codes "make") make_rules (after_one i) r ≡ make_said (i ∷ r)
unfolding clap_on_literals
behind_one i [] none = refl
behind_one i (z ∷ r) none =
    let d = dashes z r none in
    elim (number_by (is_numeral z) (codes "make") make_rules [] (Some (codes "I", i ∷ [])) 2 z refl d.0 (make_long [] (Some (codes "I", i ∷ [])) 2 z (long_of z)) (λ x. refl)) [
      | inl f ↦ dead_word (codes "make") make_rules (after_one i) z r f.0 ∙ second_none i z r f.1
      | inr v ↦ next_word (codes "make") make_rules (after_one i) (after_two i z) z r v.0 v.1 ∙ behind_two i z r d.1
    ]

make_leaf : (r : List Text) → dashless r → on (codes "make") make_rules start r ≡ make_said r
unfolding clap_on_literals
make_leaf [] none = refl
make_leaf (i ∷ r) none =
    let d = dashes i r none in
    elim (number_by (is_numeral i) (codes "make") make_rules [] None 1 i refl d.0 (make_long [] None 1 i (long_of i)) (λ x. refl)) [
      | inl f ↦ dead_word (codes "make") make_rules start i r f.0 ∙ first_none i r f.1
      | inr v ↦ next_word (codes "make") make_rules start (after_one i) i r v.0 v.1 ∙ behind_one i r d.1
    ]

-- ---- each command

dead_top : (k x : Kinds) (end : Walk) → IsFault k → from_top (or_else k x) end ≡ None
dead_top [] x end f = absurd f
dead_top (k ∷ ks) x end f = refl

raw_table : (w : Text) (f : Bool → Said) → one_word w ≡ Some (f false) → ((v : Text) → two_words w v ≡ (if bytes_eq v (codes "--raw") then Some (f true) else None))
    → ((i z j : Text) → four_words w i z j ≡ None) → (r : List Text) → raw_said f r ≡ asked_by (w ∷ r)
raw_table w f one two four [] = sym one
raw_table w f one two four (v ∷ []) = sym (two v)
raw_table w f one two four (v ∷ u ∷ []) = refl
raw_table w f one two four (i ∷ z ∷ j ∷ []) = sym (four i z j)
raw_table w f one two four (i ∷ z ∷ j ∷ v ∷ r) = refl

replay_is : (r : List Text) → dashless r → said (codes "replay" ∷ r) ≡ asked_by (codes "replay" ∷ r)
unfolding clap_on_literals
replay_is r none = enters (codes "replay") r refl refl ∙ raw_leaf (codes "replay") Said.replay refl refl refl r none ∙ raw_table (codes "replay") Said.replay refl (λ v. refl) (λ i z j. refl) r

run_is : (r : List Text) → dashless r → said (codes "run" ∷ r) ≡ asked_by (codes "run" ∷ r)
unfolding clap_on_literals
run_is r none = enters (codes "run") r refl refl ∙ raw_leaf (codes "run") Said.run refl refl refl r none ∙ raw_table (codes "run") Said.run refl (λ v. refl) (λ i z j. refl) r

widen_is : (r : List Text) → dashless r → said (codes "widen" ∷ r) ≡ asked_by (codes "widen" ∷ r)
unfolding clap_on_literals
widen_is r none = enters (codes "widen") r refl refl ∙ raw_leaf (codes "widen") Said.widen refl refl refl r none ∙ raw_table (codes "widen") Said.widen refl (λ v. refl) (λ i z j. refl) r

same_none : (b : Bool) → ◌≡◌ {A = Option Said} None (if b then None else None)
same_none true = refl
same_none false = refl

bare_table : (w v : Text) (r : List Text) → ((u : Text) → None ≡ two_words w u) → ((i z j : Text) → None ≡ four_words w i z j) → None ≡ asked_by (w ∷ v ∷ r)
bare_table w v [] two four = two v
bare_table w v (u ∷ []) two four = refl
bare_table w v (z ∷ j ∷ []) two four = four v z j
bare_table w v (z ∷ j ∷ u ∷ r) two four = refl

show_is : (r : List Text) → dashless r → said (codes "show" ∷ r) ≡ asked_by (codes "show" ∷ r)
unfolding clap_on_literals
show_is [] none = refl
show_is (v ∷ r) none =
    enters (codes "show") (v ∷ r) refl refl ∙ bare_leaf (codes "show") v r (dashes v r none).0
    ∙ bare_table (codes "show") v r (λ u. same_none (bytes_eq u (codes "--raw"))) (λ i z j. refl)

check_is : (r : List Text) → dashless r → said (codes "check" ∷ r) ≡ asked_by (codes "check" ∷ r)
unfolding clap_on_literals
check_is [] none = refl
check_is (v ∷ r) none =
    enters (codes "check") (v ∷ r) refl refl ∙ bare_leaf (codes "check") v r (dashes v r none).0
    ∙ bare_table (codes "check") v r (λ u. same_none (bytes_eq u (codes "--raw"))) (λ i z j. refl)

kv_is : (r : List Text) → dashless r → said (codes "kv" ∷ r) ≡ asked_by (codes "kv" ∷ r)
unfolding clap_on_literals
kv_is [] none = refl
kv_is (v ∷ r) none =
    enters (codes "kv") (v ∷ r) refl refl ∙ bare_leaf (codes "kv") v r (dashes v r none).0
    ∙ bare_table (codes "kv") v r (λ u. same_none (bytes_eq u (codes "--raw"))) (λ i z j. refl)

bulk_table : (r : List Text) → bulk_said r ≡ asked_by (codes "bulk" ∷ r)
bulk_table [] = refl
bulk_table (n ∷ []) = refl
bulk_table (n ∷ v ∷ []) = refl
bulk_table (n ∷ v ∷ u ∷ []) = refl
bulk_table (n ∷ v ∷ u ∷ t ∷ r) = refl

bulk_is : (r : List Text) → dashless r → said (codes "bulk" ∷ r) ≡ asked_by (codes "bulk" ∷ r)
unfolding clap_on_literals
bulk_is r none = enters (codes "bulk") r refl refl ∙ bulk_leaf r none ∙ bulk_table r

make_table : (r : List Text) → make_said r ≡ asked_by (codes "make" ∷ r)
make_table [] = refl
make_table (i ∷ []) = same_none (bytes_eq i (codes "--raw"))
make_table (i ∷ z ∷ []) = refl
make_table (i ∷ z ∷ j ∷ []) = refl
make_table (i ∷ z ∷ j ∷ v ∷ r) = refl

make_is : (r : List Text) → dashless r → said (codes "make" ∷ r) ≡ asked_by (codes "make" ∷ r)
unfolding clap_on_literals
make_is r none = enters (codes "make") r refl refl ∙ make_leaf r none ∙ make_table r

-- ---- any other first word

top_long : (word : Text) (o : Option (Text × Option Text)) → LongFault top names [] None 1 word o
top_long word None = tt
top_long word (Some p) = tt

flipped : (a b : Text) → bytes_eq a b ≡ false → bytes_eq b a ≡ false
flipped a b e = false_from_ne_true _ (λ t. true≢false (sym ((bytes_eq-Decides a b).1 (sym ((bytes_eq-Decides b a).0 t))) ∙ e))

module _ (w : Text) (replay : bytes_eq (codes "replay") w ≡ false) (run : bytes_eq (codes "run") w ≡ false) (show : bytes_eq (codes "show") w ≡ false)
    (widen : bytes_eq (codes "widen") w ≡ false) (check : bytes_eq (codes "check") w ≡ false) (kv : bytes_eq (codes "kv") w ≡ false) (make : bytes_eq (codes "make") w ≡ false)
    (bulk : bytes_eq (codes "bulk") w ≡ false) where
  unnamed : subcommand_met names idle w ≡ None
  unnamed = rw (replay, run, show, widen, check, kv, make, bulk) refl

  refused : is_lone_dash w ≡ false → IsFault (turn_fault top names start w)
  refused dash = elim (comes top names [] None 1 w unnamed dash (top_long w (long_of w)) (λ x. refl)) [
    | inl f ↦ f
    | inr v ↦ subst IsFault (sym v.0) tt
  ]

  nothing_said : (r : List Text) → is_lone_dash w ≡ false → said (w ∷ r) ≡ None
  unfolding walk_fault
  nothing_said r dash =
      dead_top (turn_fault top names start w) (walk_fault top names (walked top.rules names start w) r) (fold (walked top.rules names) (walked top.rules names start w) r) (refused dash)

  nothing_asked : (r : List Text) → None ≡ asked_by (w ∷ r)
  nothing_asked [] = rw (flipped (codes "replay") w replay, flipped (codes "run") w run, flipped (codes "show") w show, flipped (codes "widen") w widen, flipped (codes "check") w check, flipped (codes "kv") w kv) refl
  nothing_asked (v ∷ []) = rw (flipped (codes "bulk") w bulk, flipped (codes "replay") w replay, flipped (codes "run") w run, flipped (codes "widen") w widen) (same_none (bytes_eq v (codes "--raw")))
  nothing_asked (v ∷ u ∷ []) = refl
  nothing_asked (i ∷ z ∷ j ∷ []) = rw (flipped (codes "make") w make) refl
  nothing_asked (i ∷ z ∷ j ∷ v ∷ r) = refl

choose_by : (b : Bool) (name w : Text) (P : Text → Type 0) → bytes_eq name w ≡ b → P name → (bytes_eq name w ≡ false → P w) → P w
choose_by true name w P e found other = subst P ((bytes_eq-Decides name w).0 e) found
choose_by false name w P e found other = other e

choose : (name w : Text) (P : Text → Type 0) → P name → (bytes_eq name w ≡ false → P w) → P w
choose name w P found other = choose_by (bytes_eq name w) name w P refl found other

pub law : (words : List Text) → list_any is_lone_dash words ≡ false → said words ≡ asked_by words
unfolding clap_on_literals
law [] none = refl
law (w ∷ r) none =
    let d = dashes w r none in
    let P : Text → Type 0 = λ v. said (v ∷ r) ≡ asked_by (v ∷ r) in
    choose (codes "replay") w P (replay_is r d.1) (λ replay.
    choose (codes "run") w P (run_is r d.1) (λ run.
    choose (codes "show") w P (show_is r d.1) (λ show.
    choose (codes "widen") w P (widen_is r d.1) (λ widen.
    choose (codes "check") w P (check_is r d.1) (λ check.
    choose (codes "kv") w P (kv_is r d.1) (λ kv.
    choose (codes "make") w P (make_is r d.1) (λ make.
    choose (codes "bulk") w P (bulk_is r d.1) (λ bulk.
    nothing_said w replay run show widen check kv make bulk r d.0 ∙ nothing_asked w replay run show widen check kv make bulk r))))))))
