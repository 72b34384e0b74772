-- Words ask for what the table has, and for nothing else.
use Rattle.std.proofs.Common.{◌≡◌, ◌∙◌, ℕ, ◌&&◌, Bool, true, false, nat_lt, nat_le, if◌then◌else◌, List, [], ◌∷◌, codes, decimal, Option, Some, None, refl, sym, subst, arith, bytes_eq, option_map}
use Rattle.std.specs.Prelude.{option_and_then}
use Rattle.std.proofs.lemmas.Bool.{and_parts, leb-true, ltb-true, lt-ltb, le-leb}
use Rattle.std.proofs.lemmas.Option.{none-some, same_Some}
use Rattle.std.proofs.lemmas.Slice.Eq.{bytes_eq-Decides}
use Rattle.script_words.specs.Spelling.{numeral}
use Rattle.script_words.proofs.Chosen.{mapped}
use Rattle.script_words.proofs.SaidNumbers.{decimal-numeral}
use Rattle.script_words.proofs.SpelledNumbers.{numeral-decimal}
use Rattle.session_report.specs.declared.bulk.limits.TheConstants.{MOST_GENERATED}
use Rattle.minix_layout.specs.Words.{first_zone}
use Rattle.minix_layout.specs.declared.limits.TheConstants.{LEAST_JOURNAL, MOST_JOURNAL, MOST_NUMBERED}
use Rattle.barrierfs_top.specs.declared.command_line.Sizes.{Sizes}
use Rattle.barrierfs_top.specs.declared.command_line.Task.{Task}
use Rattle.barrierfs_top.specs.declared.command_line.Task.TheVariants as tasks
use Rattle.clap_words.specs.Table.{Said, is_numeral, one_word, with_raw}
use Rattle.barrierfs_top.specs.Tasks.{can_make, sizes_of, task_of, task_said, workload_of}
use Rattle.barrierfs_top.specs.WordLists.{AreSizes, AskFor}

-- what these words say asks for
abbrev asks : Option Said → Option Task
asks = option_and_then task_said

-- ---- words that are tested, one after the other

module _ (w : List ℕ) (rest : List (List ℕ)) (t : Task) where
  row_by : (name : List ℕ) (said : Said) (u : Task) (others : Option Said) (same : Bool) → bytes_eq w name ≡ same → asks (if same then Some said else others) ≡ Some t
      → task_said said ≡ Some u → AskFor (name ∷ rest) u → (asks others ≡ Some t → AskFor (w ∷ rest) t) → AskFor (w ∷ rest) t
  row_by name said u others true is h asked here other =
      subst (λ v. AskFor (v ∷ rest) t) (sym ((bytes_eq-Decides w name).0 is)) (subst (λ s. AskFor (name ∷ rest) s) (same_Some u t (sym asked ∙ h)) here)
  row_by name said u others false is h asked here other = other h

  row : (name : List ℕ) (said : Said) (u : Task) (others : Option Said) → asks (if bytes_eq w name then Some said else others) ≡ Some t
      → task_said said ≡ Some u → AskFor (name ∷ rest) u → (asks others ≡ Some t → AskFor (w ∷ rest) t) → AskFor (w ∷ rest) t
  row name said u others h asked here other = row_by name said u others (bytes_eq w name) refl h asked here other

-- ---- one word, and two

one : (w : List ℕ) (t : Task) → asks (one_word w) ≡ Some t → AskFor (w ∷ []) t
one w t h =
    row w [] t (codes "replay") (Said.replay false) _ _ h refl AskFor.replay (λ h.
    row w [] t (codes "run") (Said.run false) _ _ h refl AskFor.run (λ h.
    row w [] t (codes "show") Said.show _ _ h refl AskFor.show (λ h.
    row w [] t (codes "widen") (Said.widen false) _ _ h refl AskFor.widen (λ h.
    row w [] t (codes "check") Said.check _ _ h refl AskFor.check (λ h.
    row w [] t (codes "kv") Said.kv _ _ h refl AskFor.kv (λ h.
    absurd (none-some t h)))))))

raw : (w : List ℕ) (t : Task) → asks (with_raw w) ≡ Some t → AskFor (w ∷ codes "--raw" ∷ []) t
raw w t h =
    row w (codes "--raw" ∷ []) t (codes "replay") (Said.replay true) _ _ h refl AskFor.raw_replay (λ h.
    row w (codes "--raw" ∷ []) t (codes "run") (Said.run true) _ _ h refl AskFor.raw_run (λ h.
    row w (codes "--raw" ∷ []) t (codes "widen") (Said.widen true) _ _ h refl AskFor.raw_widen (λ h.
    absurd (none-some t h))))

raw_by : (w v : List ℕ) (t : Task) (same : Bool) → bytes_eq v (codes "--raw") ≡ same → asks (if same then with_raw w else None) ≡ Some t → AskFor (w ∷ v ∷ []) t
raw_by w v t true is h = subst (λ u. AskFor (w ∷ u ∷ []) t) (sym ((bytes_eq-Decides v (codes "--raw")).0 is)) (raw w t h)
raw_by w v t false is h = absurd (none-some t h)

-- ---- the number of a workload

bulk_spelled : (r : List ℕ) (n : ℕ) → numeral r ≡ Some n → nat_lt 0 n && nat_le n MOST_GENERATED ≡ true → AskFor (codes "bulk" ∷ r ∷ []) (tasks.Bulk n)
bulk_spelled r n e may =
    let both = and_parts (nat_lt 0 n) (nat_le n MOST_GENERATED) may in
    let most = leb-true n MOST_GENERATED both.1 in
    let spelled = decimal-numeral r n e (omega (arith, most)) in
    subst (λ v. AskFor (codes "bulk" ∷ v ∷ []) (tasks.Bulk n)) (sym spelled) (AskFor.bulk n (ltb-true 0 n both.0) most)

bulk_by : (r : List ℕ) (n : ℕ) (t : Task) (may : Bool) → (may ≡ true → AskFor (codes "bulk" ∷ r ∷ []) (tasks.Bulk n)) → (if may then Some (tasks.Bulk n) else None) ≡ Some t
    → AskFor (codes "bulk" ∷ r ∷ []) t
bulk_by r n t true ask e = subst (λ u. AskFor (codes "bulk" ∷ r ∷ []) u) (same_Some (tasks.Bulk n) t e) (ask refl)
bulk_by r n t false ask e = absurd (none-some t e)

numbered : (r : List ℕ) (t : Task) (number : Option ℕ) → numeral r ≡ number → workload_of number ≡ Some t → AskFor (codes "bulk" ∷ r ∷ []) t
numbered r t (Some n) said e = bulk_by r n t (nat_lt 0 n && nat_le n MOST_GENERATED) (λ may. bulk_spelled r n said may) e
numbered r t None said e = absurd (none-some t e)

bulk_of_number : (r : List ℕ) (t : Task) (is : Bool) → asks (if is then Some (Said.bulk r) else None) ≡ Some t → AskFor (codes "bulk" ∷ r ∷ []) t
bulk_of_number r t true h = numbered r t (numeral r) refl h
bulk_of_number r t false h = absurd (none-some t h)

two : (w r : List ℕ) (t : Task) (same : Bool) → bytes_eq w (codes "bulk") ≡ same
    → asks (if same then (if is_numeral r then Some (Said.bulk r) else None) else if bytes_eq r (codes "--raw") then with_raw w else None) ≡ Some t → AskFor (w ∷ r ∷ []) t
two w r t true is h = subst (λ v. AskFor (v ∷ r ∷ []) t) (sym ((bytes_eq-Decides w (codes "bulk")).0 is)) (bulk_of_number r t (is_numeral r) h)
two w r t false is h = raw_by w r t (bytes_eq r (codes "--raw")) refl h

-- ---- sizes

are_sizes : (i z j : ℕ) → can_make i z j ≡ true → AreSizes (record { inodes = i; zones = z; journal = j })
are_sizes i z j e =
    let a = and_parts (nat_lt 0 i) _ e in
    let b = and_parts (nat_le i MOST_NUMBERED) _ a.1 in
    let c = and_parts (nat_le z MOST_NUMBERED) _ b.1 in
    let d = and_parts (nat_le LEAST_JOURNAL j) _ c.1 in
    let f = and_parts (nat_le j MOST_JOURNAL) (nat_lt (first_zone i z) z) d.1 in
    record {
      some_inode = ltb-true 0 i a.0;
      most_inodes = leb-true i MOST_NUMBERED b.0;
      most_zones = leb-true z MOST_NUMBERED c.0;
      some_data = ltb-true (first_zone i z) z f.1;
      least_journal = leb-true LEAST_JOURNAL j d.0;
      most_journal = leb-true j MOST_JOURNAL f.0;
    }

can : (s : Sizes) → AreSizes s → can_make s.inodes s.zones s.journal ≡ true
can s is =
    rw (
      lt-ltb 0 s.inodes is.some_inode,
      le-leb s.inodes MOST_NUMBERED is.most_inodes,
      le-leb s.zones MOST_NUMBERED is.most_zones,
      le-leb LEAST_JOURNAL s.journal is.least_journal,
      le-leb s.journal MOST_JOURNAL is.most_journal,
      lt-ltb (first_zone s.inodes s.zones) s.zones is.some_data,
    ) refl

-- these numbers are spelled so
spelled : (i z j : List ℕ) (s : Sizes) → numeral i ≡ Some s.inodes → numeral z ≡ Some s.zones → numeral j ≡ Some s.journal → AreSizes s
    → AskFor (codes "make" ∷ i ∷ z ∷ j ∷ []) (tasks.Make s)
spelled i z j s a b c is =
    let first = is.most_inodes in
    let second = is.most_zones in
    let third = is.most_journal in
    let x = decimal-numeral i s.inodes a (omega (arith, first)) in
    let y = decimal-numeral z s.zones b (omega (arith, second)) in
    let k = decimal-numeral j s.journal c (omega (arith, third)) in
    subst (λ v. AskFor (codes "make" ∷ v ∷ z ∷ j ∷ []) (tasks.Make s)) (sym x)
    (subst (λ v. AskFor (codes "make" ∷ decimal s.inodes ∷ v ∷ j ∷ []) (tasks.Make s)) (sym y)
    (subst (λ v. AskFor (codes "make" ∷ decimal s.inodes ∷ decimal s.zones ∷ v ∷ []) (tasks.Make s)) (sym k) (AskFor.make s is)))

made_by : (i z j : List ℕ) (t s : Sizes) (may : Bool) → (may ≡ true → AskFor (codes "make" ∷ i ∷ z ∷ j ∷ []) (tasks.Make t)) → (if may then Some t else None) ≡ Some s
    → AskFor (codes "make" ∷ i ∷ z ∷ j ∷ []) (tasks.Make s)
made_by i z j t s true ask e = subst (λ v. AskFor (codes "make" ∷ i ∷ z ∷ j ∷ []) (tasks.Make v)) (same_Some t s e) (ask refl)
made_by i z j t s false ask e = absurd (none-some s e)

sized : (i z j : List ℕ) (s : Sizes) (a b c : Option ℕ) → numeral i ≡ a → numeral z ≡ b → numeral j ≡ c → sizes_of a b c ≡ Some s → AskFor (codes "make" ∷ i ∷ z ∷ j ∷ []) (tasks.Make s)
sized i z j s (Some inodes) (Some zones) (Some journal) x y k e =
    let t : Sizes = record { inodes = inodes; zones = zones; journal = journal } in
    made_by i z j t s (can_make inodes zones journal) (λ may. spelled i z j t x y k (are_sizes inodes zones journal may)) e
sized i z j s None b c x y k e = absurd (none-some s e)
sized i z j s (Some inodes) None c x y k e = absurd (none-some s e)
sized i z j s (Some inodes) (Some zones) None x y k e = absurd (none-some s e)

four : (w i z j : List ℕ) (t : Task) (same numbers : Bool) → bytes_eq w (codes "make") ≡ same → asks (if same && numbers then Some (Said.make i z j) else None) ≡ Some t
    → AskFor (w ∷ i ∷ z ∷ j ∷ []) t
four w i z j t true true is h =
    let sizes = sizes_of (numeral i) (numeral z) (numeral j) in
    subst (λ v. AskFor (v ∷ i ∷ z ∷ j ∷ []) t) (sym ((bytes_eq-Decides w (codes "make")).0 is))
    (mapped (λ u. AskFor (codes "make" ∷ i ∷ z ∷ j ∷ []) u) tasks.Make sizes t h (λ s e. sized i z j s (numeral i) (numeral z) (numeral j) refl refl refl e))
four w i z j t true false is h = absurd (none-some t h)
four w i z j t false numbers is h = absurd (none-some t h)

-- ---- all lists

pub ask_for : (words : List (List ℕ)) (t : Task) → task_of words ≡ Some t → AskFor words t
ask_for [] t h = absurd (none-some t h)
ask_for (w ∷ []) t h = one w t h
ask_for (w ∷ r ∷ []) t h = two w r t (bytes_eq w (codes "bulk")) refl h
ask_for (w ∷ r ∷ v ∷ []) t h = absurd (none-some t h)
ask_for (w ∷ i ∷ z ∷ j ∷ []) t h = four w i z j t (bytes_eq w (codes "make")) (is_numeral i && (is_numeral z && is_numeral j)) refl h
ask_for (w ∷ i ∷ z ∷ j ∷ v ∷ words) t h = absurd (none-some t h)

-- what is read as a number is one
no_number : (r : List ℕ) → is_numeral r ≡ false → numeral r ≡ None
no_number [] e = refl
no_number (b ∷ []) e = rw e refl
no_number (b ∷ c ∷ bs) e = rw e refl

number_is : (r : List ℕ) (n : ℕ) (is : Bool) → is_numeral r ≡ is → numeral r ≡ Some n → is ≡ true
number_is r n true e said = refl
number_is r n false e said = absurd (none-some n (sym (no_number r e) ∙ said))

spelled_number : (n : ℕ) → numeral (decimal n) ≡ Some n → is_numeral (decimal n) ≡ true
spelled_number n said = number_is (decimal n) n (is_numeral (decimal n)) refl said

made_of : (s : Sizes) (may : Bool) → may ≡ true → ◌≡◌ {A = Option Task} (option_map tasks.Make (if may then Some s else None)) (Some (tasks.Make s))
made_of s true e = refl
made_of s false e = absurd (cc)

pub asked : (words : List (List ℕ)) (t : Task) → AskFor words t → task_of words ≡ Some t
asked words t AskFor.replay = refl
asked words t AskFor.raw_replay = refl
asked words t AskFor.run = refl
asked words t AskFor.raw_run = refl
asked words t AskFor.show = refl
asked words t AskFor.widen = refl
asked words t AskFor.raw_widen = refl
asked words t AskFor.check = refl
asked words t AskFor.kv = refl
asked words t (AskFor.bulk n some most) =
    let said = numeral-decimal n (omega (arith, most)) in
    rw (spelled_number n said, said, lt-ltb 0 n some, le-leb n MOST_GENERATED most) refl
asked words t (AskFor.make s is) =
    let first = is.most_inodes in
    let second = is.most_zones in
    let third = is.most_journal in
    let i = numeral-decimal s.inodes (omega (arith, first)) in
    let z = numeral-decimal s.zones (omega (arith, second)) in
    let j = numeral-decimal s.journal (omega (arith, third)) in
    rw (spelled_number s.inodes i, spelled_number s.zones z, spelled_number s.journal j, i, z, j) (made_of s (can_make s.inodes s.zones s.journal) (can s is))
