-- The log blocks of a plan spell its transaction, and there are as many as were counted.
use Rattle.std.proofs.Common.{sym, ap, subst, ◌∙◌, inl, inr, ⊎_elim, arith, append_assoc, append-nil, length-append}
use Rattle.std.proofs.Math.Nat.{mul-le-mul_right}
use Rattle.std.proofs.lemmas.Bool.{cases_lt}
use Rattle.std.proofs.lemmas.Grind.{div_ceil_times}
use Rattle.std.specs.Int.{div_ceil}
use Rattle.std.specs.Prelude.{◌≡◌, ℕ, zero, suc, ◌+◌, ◌-◌, ◌*◌, ◌<◌, ◌≤◌, List, [], ◌∷◌, ◌++◌, map, length, Some, refl}
use Rattle.blk_base.specs.Members.{In}
use Rattle.blk_base.specs.laws.Members.{In-append_cases, In-map}
use Rattle.order_model.specs.declared.note.Note.TheVariants.{Commit}
use Rattle.log_model.proofs.Parts.{parts_spell}
use Rattle.log_model.specs.Log.{Tag, Format, Spells}
use Rattle.log_model.specs.Marks.{Logged, Transaction}
use Rattle.log_model.specs.Parts.{Part, Describing, Revoking, restored, IsPart, AreParts, blocks_of_parts, bodies_of_parts, revokes_of_parts}
use Rattle.crash_laws.specs.Rules.{HasHeader}
use Rattle.crash_laws.specs.Session.{log_transaction}
use Rattle.journal_ring.specs.running.Running.{log_blocks_for}
use Rattle.journal_ring.specs.running.Plan.{Writers, chunks_from, chunks, revoke_block, body_block, described, all_described, logged_blocks}
use Rattle.journal_ring.specs.declared.running.pieces.UnplacedBlock.{UnplacedBlock}
use Rattle.host_machine.specs.runs.Runs.{IsBlock}
use Rattle.host_machine.specs.runs.laws.Chunks.{flat, chunks_flat, chunks_sized, In-chunks}
use Rattle.host_machine.specs.runs.laws.Written.{IsWord, tag_of, AreWritten, IsWritable}

-- ---- what is written is read back

-- ---- parts

-- n elements in parts of at most `most`, of which `left` more fit into the part that is begun
abbrev parts_needed : ℕ → ℕ → ℕ → ℕ
parts_needed most left zero = zero
parts_needed most zero (suc n) = suc (parts_needed most (most - 1) n)
parts_needed most (suc left) (suc n) = parts_needed most left n

-- as many as are counted
chunks_begun : {X : Type 0} (most left : ℕ) (b : X) (bs xs : List X) → length (chunks_from most left (b ∷ bs) xs) ≡ suc (parts_needed most left (length xs))
chunks_begun most left b bs [] = refl
chunks_begun most zero b bs (x ∷ xs) = ap suc (chunks_begun most (most - 1) x [] xs)
chunks_begun most (suc left) b bs (x ∷ xs) = chunks_begun most left b (bs ++ x ∷ []) xs

chunks_counted : {X : Type 0} (most : ℕ) (xs : List X) → 1 ≤ most → length (chunks most xs) ≡ parts_needed most 0 (length xs)
chunks_counted most [] pos = refl
chunks_counted zero (x ∷ xs) pos = absurd (omega arith)
chunks_counted (suc m) (x ∷ xs) pos =
    let e : m ≡ suc m - 1 = omega arith in
    chunks_begun (suc m) m x [] xs ∙ ap (λ l. suc (parts_needed (suc m) l (length xs))) e

-- ---- a plan in parts

module _ (w : Writers) (k seq : ℕ) where
  abbrev revoke_part : List ℕ → Part
  revoke_part blocks = Revoking (w.revoke seq blocks) blocks

  abbrev tags : List Logged → List Tag
  tags bodies = map (tag_of w) bodies

  abbrev body_part : List Logged → Part
  body_part bodies = Describing (w.descriptor seq (tags bodies)) (tags bodies) (map (λ (l : Logged). w.stored l.body) bodies)

  abbrev body_parts : List (List Logged) → List Part
  body_parts [] = []
  body_parts (c ∷ cs) = body_part c ∷ body_parts cs

  abbrev revoke_parts : List (List ℕ) → List Part → List Part
  revoke_parts [] rest = rest
  revoke_parts (c ∷ cs) rest = revoke_part c ∷ revoke_parts cs rest

  abbrev plan_parts : List Logged → List ℕ → List Part
  plan_parts bodies revokes = revoke_parts (chunks w.most_revokes revokes) (body_parts (chunks w.most_tags bodies))

  abbrev pub bytes_of : List UnplacedBlock → List (List ℕ)
  bytes_of = map (λ (b : UnplacedBlock). b.body)

  bytes-append : (xs ys : List UnplacedBlock) → bytes_of (xs ++ ys) ≡ bytes_of xs ++ bytes_of ys
  bytes-append [] ys = refl
  bytes-append (x ∷ xs) ys = ap (λ zs. x.body ∷ zs) (bytes-append xs ys)

  bodies_stored : (c : List Logged) → bytes_of (map (body_block w k seq) c) ≡ map (λ (l : Logged). w.stored l.body) c
  bodies_stored [] = refl
  bodies_stored (l ∷ ls) = ap (λ zs. w.stored l.body ∷ zs) (bodies_stored ls)

  described_bytes : (cs : List (List Logged)) → bytes_of (all_described w k seq cs) ≡ blocks_of_parts (body_parts cs)
  described_bytes [] = refl
  described_bytes (c ∷ cs) =
      bytes-append (described w k seq c) (all_described w k seq cs)
      ∙ ap (λ zs. (w.descriptor seq (tags c) ∷ zs) ++ bytes_of (all_described w k seq cs)) (bodies_stored c)
      ∙ ap (λ zs. (w.descriptor seq (tags c) ∷ map (λ (l : Logged). w.stored l.body) c) ++ zs) (described_bytes cs)

  revoke_bytes : (cs : List (List ℕ)) (rest : List UnplacedBlock) (parts : List Part) → bytes_of rest ≡ blocks_of_parts parts → bytes_of (map (revoke_block w k seq) cs ++ rest) ≡ blocks_of_parts (revoke_parts cs parts)
  revoke_bytes [] rest parts e = e
  revoke_bytes (c ∷ cs) rest parts e = ap (λ zs. w.revoke seq c ∷ zs) (revoke_bytes cs rest parts e)

  plan_bytes : (bodies : List Logged) (revokes : List ℕ) → bytes_of (logged_blocks w k seq bodies revokes) ≡ blocks_of_parts (plan_parts bodies revokes)
  plan_bytes bodies revokes = revoke_bytes (chunks w.most_revokes revokes) (all_described w k seq (chunks w.most_tags bodies)) (body_parts (chunks w.most_tags bodies)) (described_bytes (chunks w.most_tags bodies))

  module _ (f : Format) (written : AreWritten f w) where
    restored_back : (c : List Logged) → ((l : Logged) → In l c → IsBlock l.body) → restored f (tags c) (map (λ (l : Logged). w.stored l.body) c) ≡ c
    restored_back [] h = refl
    restored_back (l ∷ ls) h =
        ap (λ (x : List ℕ). record { block = l.block; body = x } ∷ restored f (tags ls) (map (λ (m : Logged). w.stored m.body) ls)) (written.stored l.block l.body (h l (inl refl)))
        ∙ ap (λ ms. l ∷ ms) (restored_back ls (λ m i. h m (inr i)))

    body_bodies : (cs : List (List Logged)) → ((c : List Logged) (l : Logged) → In c cs → In l c → IsBlock l.body) → bodies_of_parts f (body_parts cs) ≡ flat cs
    body_bodies [] h = refl
    body_bodies (c ∷ cs) h =
        ap (λ zs. zs ++ bodies_of_parts f (body_parts cs)) (restored_back c (λ l i. h c l (inl refl) i))
        ∙ ap (λ zs. c ++ zs) (body_bodies cs (λ d l i j. h d l (inr i) j))

    revoke_bodies : (cs : List (List ℕ)) (rest : List Part) → bodies_of_parts f (revoke_parts cs rest) ≡ bodies_of_parts f rest
    revoke_bodies [] rest = refl
    revoke_bodies (c ∷ cs) rest = revoke_bodies cs rest

    body_revokes : (cs : List (List Logged)) → revokes_of_parts (body_parts cs) ≡ []
    body_revokes [] = refl
    body_revokes (c ∷ cs) = body_revokes cs

    revoke_revokes : (cs : List (List ℕ)) (rest : List Part) → revokes_of_parts (revoke_parts cs rest) ≡ flat cs ++ revokes_of_parts rest
    revoke_revokes [] rest = refl
    revoke_revokes (c ∷ cs) rest = ap (λ zs. c ++ zs) (revoke_revokes cs rest) ∙ sym (append_assoc c (flat cs) (revokes_of_parts rest))

    tags_counted : (c : List Logged) → length (tags c) ≡ length c
    tags_counted [] = refl
    tags_counted (l ∷ ls) = ap suc (tags_counted ls)

    stored_counted : (c : List Logged) → length (map (λ (l : Logged). w.stored l.body) c) ≡ length c
    stored_counted [] = refl
    stored_counted (l ∷ ls) = ap suc (stored_counted ls)

    tag_in : (c : List Logged) (t : Tag) → In t (tags c) → ((l : Logged) → In l c → IsWord l.block) → IsWord t.block
    tag_in c t i h = let m = In-map (tag_of w) c t i in subst (λ (u : Tag). IsWord u.block) m.2 (h m.0 m.1)

    body_is_part : (c : List Logged) → IsWord seq → (1 ≤ length c) × (length c ≤ w.most_tags) → ((l : Logged) → In l c → IsWord l.block) → IsPart f seq (body_part c)
    body_is_part c fits size h =
        let n = tags_counted c in
        let lo = size.0 in
        let hi = size.1 in
        (written.descriptor seq (tags c) fits (omega arith) (omega arith) (λ t i. tag_in c t i h), n ∙ sym (stored_counted c))

    are_body_parts : (cs : List (List Logged)) → IsWord seq → ((c : List Logged) → In c cs → (1 ≤ length c) × (length c ≤ w.most_tags)) → ((c : List Logged) (l : Logged) → In c cs → In l c → IsWord l.block) → AreParts f seq (body_parts cs)
    are_body_parts [] fits size h = tt
    are_body_parts (c ∷ cs) fits size h = (body_is_part c fits (size c (inl refl)) (λ l i. h c l (inl refl) i), are_body_parts cs fits (λ d i. size d (inr i)) (λ d l i j. h d l (inr i) j))

    are_revoke_parts : (cs : List (List ℕ)) (rest : List Part) → IsWord seq → ((c : List ℕ) → In c cs → (1 ≤ length c) × (length c ≤ w.most_revokes)) → ((c : List ℕ) (b : ℕ) → In c cs → In b c → IsWord b) → AreParts f seq rest → AreParts f seq (revoke_parts cs rest)
    are_revoke_parts [] rest fits size h r = r
    are_revoke_parts (c ∷ cs) rest fits size h r =
        let s = size c (inl refl) in
        (written.revoke seq c fits s.0 s.1 (λ b i. h c b (inl refl) i), are_revoke_parts cs rest fits (λ d i. size d (inr i)) (λ d b i j. h d b (inr i) j) r)

    module _ (t : Transaction) (writable : IsWritable t) (fits : IsWord seq) where
      plan_bodies : bodies_of_parts f (plan_parts t.bodies t.revokes) ≡ t.bodies
      plan_bodies =
          revoke_bodies (chunks w.most_revokes t.revokes) (body_parts (chunks w.most_tags t.bodies))
          ∙ body_bodies (chunks w.most_tags t.bodies) (λ c l i j. writable.bodies l (In-chunks w.most_tags t.bodies c l i j))
          ∙ chunks_flat w.most_tags w.most_tags [] t.bodies

      plan_revokes : revokes_of_parts (plan_parts t.bodies t.revokes) ≡ t.revokes
      plan_revokes =
          revoke_revokes (chunks w.most_revokes t.revokes) (body_parts (chunks w.most_tags t.bodies))
          ∙ ap (λ zs. flat (chunks w.most_revokes t.revokes) ++ zs) (body_revokes (chunks w.most_tags t.bodies))
          ∙ append-nil (flat (chunks w.most_revokes t.revokes))
          ∙ chunks_flat w.most_revokes w.most_revokes [] t.revokes

      are_plan_parts : AreParts f seq (plan_parts t.bodies t.revokes)
      are_plan_parts =
          are_revoke_parts (chunks w.most_revokes t.revokes) (body_parts (chunks w.most_tags t.bodies)) fits
          (λ c i. chunks_sized w.most_revokes w.most_revokes [] t.revokes c written.some_revokes (omega arith) i)
          (λ c b i j. writable.revokes b (In-chunks w.most_revokes t.revokes c b i j))
          (are_body_parts (chunks w.most_tags t.bodies) fits
          (λ c i. chunks_sized w.most_tags w.most_tags [] t.bodies c written.some_tags (omega arith) i)
          (λ c l i j. writable.blocks l (In-chunks w.most_tags t.bodies c l i j)))

      -- The blocks of a plan, with its commit block behind them, spell the transaction.
      pub plan_spells : Spells f seq (bytes_of (logged_blocks w k seq t.bodies t.revokes) ++ w.commit seq ∷ []) t
      plan_spells =
          subst (λ u. Spells f seq (bytes_of (logged_blocks w k seq t.bodies t.revokes) ++ w.commit seq ∷ []) u)
          (ap (λ bs. record { bodies = bs; revokes = revokes_of_parts (plan_parts t.bodies t.revokes) }) plan_bodies ∙ ap (λ rs. record { bodies = t.bodies; revokes = rs }) plan_revokes)
          (subst (λ zs. Spells f seq (zs ++ w.commit seq ∷ []) (record { bodies = bodies_of_parts f (plan_parts t.bodies t.revokes); revokes = revokes_of_parts (plan_parts t.bodies t.revokes) }))
          (sym (plan_bytes t.bodies t.revokes))
          (parts_spell f seq (plan_parts t.bodies t.revokes) (w.commit seq) are_plan_parts (written.commit seq fits)))

-- ---- notes and headers

-- a log block of transaction k that is not its commit block, with the header that its note says
abbrev pub IsDraft : Format → ℕ → ℕ → UnplacedBlock → Type 0
IsDraft f sequence k b = (log_transaction b.note ≡ Some k) × ((j : ℕ) → b.note ≡ Commit j → ⊥) × HasHeader sequence b.note (f.header b.body)

module _ (w : Writers) (k sequence : ℕ) (f : Format) (written : AreWritten f w) (fits : IsWord (sequence + (k - 1))) where
  body_draft : (l : Logged) → IsBlock l.body → IsDraft f sequence k (body_block w k (sequence + (k - 1)) l)
  body_draft l n = (refl, λ j e. cc, written.plain l.body n)

  revoke_draft : (c : List ℕ) → (1 ≤ length c) × (length c ≤ w.most_revokes) → ((b : ℕ) → In b c → IsWord b) → IsDraft f sequence k (revoke_block w k (sequence + (k - 1)) c)
  revoke_draft c size h = (refl, λ j e. cc, (c, written.revoke (sequence + (k - 1)) c fits size.0 size.1 h))

  described_drafts : (c : List Logged) → (1 ≤ length c) × (length c ≤ w.most_tags) → ((l : Logged) → In l c → IsWord l.block) → ((l : Logged) → In l c → IsBlock l.body)
      → (b : UnplacedBlock) → In b (described w k (sequence + (k - 1)) c) → IsDraft f sequence k b
  described_drafts c size words whole b (inl e) =
      subst (IsDraft f sequence k) e (refl, λ j q. cc, (map (tag_of w) c, (body_is_part w k (sequence + (k - 1)) f written c fits size words).0))
  described_drafts c size words whole b (inr i) =
      let m = In-map (body_block w k (sequence + (k - 1))) c b i in
      subst (IsDraft f sequence k) m.2 (body_draft m.0 (whole m.0 m.1))

  all_drafts : (cs : List (List Logged)) → ((c : List Logged) → In c cs → (1 ≤ length c) × (length c ≤ w.most_tags)) → ((c : List Logged) (l : Logged) → In c cs → In l c → IsWord l.block × (IsBlock l.body))
      → (b : UnplacedBlock) → In b (all_described w k (sequence + (k - 1)) cs) → IsDraft f sequence k b
  all_drafts [] size h b i = absurd i
  all_drafts (c ∷ cs) size h b i =
      ⊎_elim
      (λ j. described_drafts c (size c (inl refl)) (λ l m. (h c l (inl refl) m).0) (λ l m. (h c l (inl refl) m).1) b j)
      (λ j. all_drafts cs (λ d m. size d (inr m)) (λ d l m n. h d l (inr m) n) b j)
      (In-append_cases (described w k (sequence + (k - 1)) c) (all_described w k (sequence + (k - 1)) cs) b i)

  pub are_drafts : (t : Transaction) → IsWritable t → (b : UnplacedBlock) → In b (logged_blocks w k (sequence + (k - 1)) t.bodies t.revokes) → IsDraft f sequence k b
  are_drafts t writable b i =
      ⊎_elim
      (λ j.
      let m = In-map (revoke_block w k (sequence + (k - 1))) (chunks w.most_revokes t.revokes) b j in
      subst (IsDraft f sequence k) m.2 (revoke_draft m.0 (chunks_sized w.most_revokes w.most_revokes [] t.revokes m.0 written.some_revokes (omega arith) m.1) (λ c n. writable.revokes c (In-chunks w.most_revokes t.revokes m.0 c m.1 n))))
      (λ j. all_drafts (chunks w.most_tags t.bodies) (λ c m. chunks_sized w.most_tags w.most_tags [] t.bodies c written.some_tags (omega arith) m)
      (λ c l m n. (writable.blocks l (In-chunks w.most_tags t.bodies c l m n), writable.bodies l (In-chunks w.most_tags t.bodies c l m n))) b j)
      (In-append_cases (map (revoke_block w k (sequence + (k - 1))) (chunks w.most_revokes t.revokes)) (all_described w k (sequence + (k - 1)) (chunks w.most_tags t.bodies)) b i)

-- ---- how many

-- ---- as many as n / most, rounded up

needed_within : (m left n : ℕ) → left ≤ m → (n ≤ left + parts_needed (suc m) left n * suc m) × (parts_needed (suc m) left n * suc m + left ≤ n + m)
needed_within m left zero le = (omega arith, omega (arith, le))
needed_within m zero (suc n) le =
    let rest = needed_within m m n (omega arith) in
    let lo = rest.0 in
    let hi = rest.1 in
    let k = parts_needed (suc m) m n in
    let one : suc m - 1 ≡ m = omega arith in
    let grown : parts_needed (suc m) 0 (suc n) * suc m ≡ suc k * suc m = ap (λ j. suc j * suc m) (ap (λ l. parts_needed (suc m) l n) one) in
    let product : suc k * suc m ≡ k * suc m + suc m = omega arith in
    (omega (arith, lo, grown, product), omega (arith, hi, grown, product))
needed_within m (suc left) (suc n) le = let rest = needed_within m left n (omega (arith, le)) in let lo = rest.0 in let hi = rest.1 in (omega (arith, lo), omega (arith, hi))

one_quotient : (m a b n : ℕ) → n ≤ a * suc m → a * suc m ≤ n + m → n ≤ b * suc m → b * suc m < n + suc m → a ≡ b
one_quotient m a b n low_a high_a low_b high_b =
    ⊎_elim
    (λ lt. absurd (let more = mul-le-mul_right (suc m) lt in omega (arith, more, low_a, high_b)))
    (λ le. ⊎_elim
    (λ lt. absurd (let more = mul-le-mul_right (suc m) lt in omega (arith, more, low_b, high_a)))
    (λ ge. omega (arith, le, ge))
    (cases_lt b a))
    (cases_lt a b)

parts_divided : (most n : ℕ) → 1 ≤ most → parts_needed most 0 n ≡ div_ceil n most
parts_divided zero n some = absurd (omega (arith, some))
parts_divided (suc m) n some =
    let x = needed_within m 0 n (omega arith) in
    let lo = x.0 in
    let hi = x.1 in
    let y = div_ceil_times n (suc m) (omega arith) in
    one_quotient m (parts_needed (suc m) 0 n) (div_ceil n (suc m)) n (omega (arith, lo)) (omega (arith, hi)) y.0 y.1

module _ (w : Writers) (k seq : ℕ) where
  mapped_counted : {X : Type 0} (g : X → UnplacedBlock) (xs : List X) → length (map g xs) ≡ length xs
  mapped_counted g [] = refl
  mapped_counted g (x ∷ xs) = ap suc (mapped_counted g xs)

  described_counted : (cs : List (List Logged)) → length (all_described w k seq cs) ≡ length cs + length (flat cs)
  described_counted [] = refl
  described_counted (c ∷ cs) =
      let a = length-append (described w k seq c) (all_described w k seq cs) in
      let b = mapped_counted (body_block w k seq) c in
      let d = described_counted cs in
      let e = length-append c (flat cs) in
      omega arith

  pub plan_counted : (bodies : List Logged) (revokes : List ℕ) → 1 ≤ w.most_tags → 1 ≤ w.most_revokes → length (logged_blocks w k seq bodies revokes) + 1 ≡ log_blocks_for w (length bodies) (length revokes)
  plan_counted bodies revokes some_tags some_revokes =
      let a = length-append (map (revoke_block w k seq) (chunks w.most_revokes revokes)) (all_described w k seq (chunks w.most_tags bodies)) in
      let b = mapped_counted (revoke_block w k seq) (chunks w.most_revokes revokes) in
      let c = described_counted (chunks w.most_tags bodies) in
      let d = chunks_counted w.most_revokes revokes some_revokes in
      let e = chunks_counted w.most_tags bodies some_tags in
      let g = ap length (chunks_flat w.most_tags w.most_tags [] bodies) in
      let x = parts_divided w.most_revokes (length revokes) some_revokes in
      let y = parts_divided w.most_tags (length bodies) some_tags in
      omega arith
