-- Walks over the words of a command whose flags are long ones.
use Rattle.std.proofs.Common.{◌∙◌, ◌≡◌, ◌⊎◌, ℕ, Bool, zero, suc, true, false, true≢false, if◌then◌else◌, inl, inr, refl, sym, ap, ap₂, subst, List, [], ◌∷◌, ◌++◌, append-nil, append_assoc, length, drop, Option, Some, None}
use Rattle.std.specs.Prelude.{⊤, encode_utf8, fold, slice_get}
use Rattle.std.specs.Option.{option_map_or}
use Rattle.std.specs.Str.{bytes_eq, chars}
use Rattle.clap.specs.Lexer.{long_of, short_of}
use Rattle.clap.specs.Kinds.{Kinds, or_else}
use Rattle.clap.specs.Walk.{Held, Names, Outcome, Row, Rule, Step, Text, Waiting, Walk, after_flag, after_step, arg_by_index, arg_by_long, arg_by_short, bundle_met, bundle_step, idle, long_or_other, plain, short_or_plain, subcommand_met, subcommand_or_other, to_positional, trailing, value, walked, word_met}
use Rattle.clap.specs.Simple.{Shape}
use Rattle.clap.specs.Faults.{bundle_fault, bundle_step_fault, flag_word_fault, flags_fault, long_fault, other_fault, short_fault, step_fault, turn_fault, walk_fault, word_fault}

-- some error comes
abbrev pub IsFault : Kinds → Type 0
IsFault [] = ⊥
IsFault (k ∷ ks) = ⊤

pub first : (a b : Kinds) → IsFault a → IsFault (or_else a b)
first [] b f = absurd f
first (k ∷ ks) b f = tt

pub some_none : {X : Type 0} (x : X) → Some x ≡ None → ⊥
some_none x e = true≢false (ap (λ o. Rattle.std.specs.Option.is_some o) e)

-- ---- after a subcommand the words are left to it

pub walk_stops : (c : List Rule) (names : Names) (w : Walk) (name : Text) (seen words : List Text)
    → ◌≡◌ {A = Walk} (fold (walked c names) (record w { stopped = Some (name, seen) }) words) (record w { stopped = Some (name, seen ++ words) })
unfolding walked
walk_stops c names w name seen [] = ap (λ xs. record w { stopped = Some (name, xs) }) (sym (append-nil seen))
walk_stops c names w name seen (x ∷ xs) = walk_stops c names w name (seen ++ x ∷ []) xs ∙ ap (λ ys. record w { stopped = Some (name, ys) }) (append_assoc seen (x ∷ []) xs)

pub stops_well : (s : Shape) (names : Names) (w : Walk) (name : Text) (seen words : List Text) → walk_fault s names (record w { stopped = Some (name, seen) }) words ≡ []
unfolding walk_fault walked
stops_well s names w name seen [] = refl
stops_well s names w name seen (x ∷ xs) = stops_well s names w name (seen ++ x ∷ []) xs

-- ---- a bundle of flags

no_flags : (c : List Rule) (again : Bool) (k : ℕ) (flags : Text) (h : Held) → slice_get (chars flags) 0 ≡ None → flags_fault c again k flags 0 h ≡ []
unfolding flags_fault
no_flags c again zero flags h none = refl
no_flags c again (suc k) flags h none = ap (λ o. bundle_step_fault c again o flags 0 h (flags_fault c again k)) none

nothing_met : (c : List Rule) (k : ℕ) (flags : Text) (h : Held) → slice_get (chars flags) 0 ≡ None → bundle_met c k flags 0 plain h ≡ (h, plain)
unfolding bundle_met
nothing_met c zero flags h none = refl
nothing_met c (suc k) flags h none = ap (λ o. bundle_step c o flags 0 plain h (bundle_met c k)) none

unknown_flag : (c : List Rule) (again : Bool) (k x : ℕ) (flags : Text) (h : Held) → slice_get (chars flags) 0 ≡ Some x → arg_by_short c x ≡ None → IsFault (flags_fault c again (suc k) flags 0 h)
unfolding flags_fault
unknown_flag c again k x flags h some none =
    let rest = drop (length (encode_utf8 x)) flags in
    subst IsFault
    (sym (ap (λ o. bundle_step_fault c again o flags 0 h (flags_fault c again k)) some ∙ ap (λ o. short_fault c again o rest h (flags_fault c again k rest 0)) none)) tt

-- ---- a word where nothing waits for a value

module _ (s : Shape) (names : Names) (rows : List Row) (pending : Option (Text × List Text)) (i : ℕ) (word : Text) where
  abbrev pub held : Held
  held = record { rows = rows; pending = pending; skip = 0 }

  abbrev pub here : Walk
  here = record { held = held; waiting = idle; position = i; is_trailing = false; stopped = None }

  -- it goes to the positional of this place
  abbrev pub IsValue : Type 0
  IsValue = (turn_fault s names here word ≡ step_fault s i held value) × (walked s.rules names here word ≡ to_positional s.rules (arg_by_index s.rules i) word here held)

  -- an error comes of its long flag
  abbrev pub LongFault : Option (Text × Option Text) → Type 0
  LongFault None = ⊤
  LongFault (Some p) = IsFault (long_fault s.rules s.args_override_self (arg_by_long s.rules p.0) p.1 held)

  abbrev Comes : Kinds → Held × Step → Type 0
  Comes k m = IsFault (or_else k (step_fault s i m.0 m.1))
      ⊎ ((or_else k (step_fault s i m.0 m.1) ≡ step_fault s i held value) × (after_step s.rules word here m.0 m.1 ≡ to_positional s.rules (arg_by_index s.rules i) word here held))

  by_char : (o : Option ℕ) (y : ℕ) (ys : Text) → slice_get (chars (y ∷ ys)) 0 ≡ o → ((x : ℕ) → arg_by_short s.rules x ≡ None)
      → Comes (flags_fault s.rules s.args_override_self (suc (length ys)) (y ∷ ys) 0 held)
      (after_flag s.rules idle word (bundle_met s.rules (suc (length ys)) (y ∷ ys) 0 plain held).0 (bundle_met s.rules (suc (length ys)) (y ∷ ys) 0 plain held).1)
  by_char None y ys e short =
      subst (λ (f : Kinds). Comes f (after_flag s.rules idle word (bundle_met s.rules (suc (length ys)) (y ∷ ys) 0 plain held).0 (bundle_met s.rules (suc (length ys)) (y ∷ ys) 0 plain held).1))
      (sym (no_flags s.rules s.args_override_self (suc (length ys)) (y ∷ ys) held e))
      (subst (λ (b : Held × Outcome). Comes [] (after_flag s.rules idle word b.0 b.1)) (sym (nothing_met s.rules (suc (length ys)) (y ∷ ys) held e)) (inr (refl, refl)))
  by_char (Some x) y ys e short = inl (first _ _ (unknown_flag s.rules s.args_override_self (length ys) x (y ∷ ys) held e (short x)))

  by_short : (o : Option Text) → ((x : ℕ) → arg_by_short s.rules x ≡ None)
      → Comes (option_map_or (λ flags. bundle_fault s.rules s.args_override_self flags held) o []) (short_or_plain s.rules idle word o held)
  unfolding flags_fault bundle_met
  by_short None short = inr (refl, refl)
  by_short (Some []) short = inr (refl, refl)
  by_short (Some (y ∷ ys)) short = by_char (slice_get (chars (y ∷ ys)) 0) y ys refl short

  by_long : (o : Option (Text × Option Text)) → LongFault o → ((x : ℕ) → arg_by_short s.rules x ≡ None)
      → Comes (flag_word_fault s.rules s.args_override_self o word held) (long_or_other s.rules idle word o held)
  by_long (Some p) fault short = inl (first _ _ fault)
  by_long None fault short = by_short (short_of word) short

  by_dash : (b : Bool) → b ≡ false → LongFault (long_of word) → ((x : ℕ) → arg_by_short s.rules x ≡ None)
      → Comes (if b then [] else flag_word_fault s.rules s.args_override_self (long_of word) word held)
      (if b then (held, trailing i) else long_or_other s.rules idle word (long_of word) held)
  by_dash false e fault short = by_long (long_of word) fault short
  by_dash true e fault short = absurd (true≢false e)

  by_name : (o : Option Text) → o ≡ None → bytes_eq word (45 ∷ 45 ∷ []) ≡ false → LongFault (long_of word) → ((x : ℕ) → arg_by_short s.rules x ≡ None)
      → Comes (other_fault s o word held) (subcommand_or_other s.rules o idle i word held)
  by_name None e dash fault short = by_dash (bytes_eq word (45 ∷ 45 ∷ [])) dash fault short
  by_name (Some n) e dash fault short = absurd (some_none n e)

  -- a word that names no command and no flag is refused, or goes to the positional of this place
  pub comes : subcommand_met names idle word ≡ None → bytes_eq word (45 ∷ 45 ∷ []) ≡ false → LongFault (long_of word) → ((x : ℕ) → arg_by_short s.rules x ≡ None)
      → IsFault (turn_fault s names here word) ⊎ IsValue
  unfolding walked
  comes none dash fault short = by_name (subcommand_met names idle word) none dash fault short

  -- one that does not begin with a hyphen goes there
  abbrev By : Kinds → Held × Step → Type 0
  By k m = (or_else k (step_fault s i m.0 m.1) ≡ step_fault s i held value) × (after_step s.rules word here m.0 m.1 ≡ to_positional s.rules (arg_by_index s.rules i) word here held)

  plain_short : (o : Option Text) → o ≡ None → By (option_map_or (λ flags. bundle_fault s.rules s.args_override_self flags held) o []) (short_or_plain s.rules idle word o held)
  plain_short None e = (refl, refl)
  plain_short (Some f) e = absurd (some_none f e)

  plain_long : (o : Option (Text × Option Text)) → o ≡ None → short_of word ≡ None → By (flag_word_fault s.rules s.args_override_self o word held) (long_or_other s.rules idle word o held)
  plain_long None e short = plain_short (short_of word) short
  plain_long (Some p) e short = absurd (some_none p e)

  plain_dash : (b : Bool) → b ≡ false → long_of word ≡ None → short_of word ≡ None
      → By (if b then [] else flag_word_fault s.rules s.args_override_self (long_of word) word held)
      (if b then (held, trailing i) else long_or_other s.rules idle word (long_of word) held)
  plain_dash false e long short = plain_long (long_of word) long short
  plain_dash true e long short = absurd (true≢false e)

  plain_name : (o : Option Text) → o ≡ None → bytes_eq word (45 ∷ 45 ∷ []) ≡ false → long_of word ≡ None → short_of word ≡ None
      → By (other_fault s o word held) (subcommand_or_other s.rules o idle i word held)
  plain_name None e dash long short = plain_dash (bytes_eq word (45 ∷ 45 ∷ [])) dash long short
  plain_name (Some n) e dash long short = absurd (some_none n e)

  pub plain_word : subcommand_met names idle word ≡ None → bytes_eq word (45 ∷ 45 ∷ []) ≡ false → long_of word ≡ None → short_of word ≡ None → IsValue
  unfolding walked
  plain_word none dash long short = plain_name (subcommand_met names idle word) none dash long short
