-- The reader reads the log of the grammar.
use Rattle.std.specs.Prelude.{◌≡◌, ℕ, zero, suc, ◌+◌, ◌<◌, ◌==◌, ◌⊎◌, Bool, true, false, List, [], ◌∷◌, ◌++◌, length, if◌then◌else◌, refl}
use Rattle.std.proofs.Common.{sym, ap, subst, ◌∙◌, inl, inr, ⊎_elim, arith, append_assoc, eqb-true, length-append}
use Rattle.log_model.specs.Grammar.{BeginsWith, IsLogOf, ends, goes_on}
use Rattle.log_model.specs.Log.{Tag, Header, Plain, Describes, Revokes, Commits, Format, Reader, Reading, Stopped, done, take_header, take_block, take_blocks, from_sequence}
use Rattle.log_model.specs.Marks.{Logged, Transaction}
use Rattle.log_model.specs.Parts.{Part, Describing, Revoking, AreParts, blocks_of_parts, bodies_of_parts, revokes_of_parts}
use Rattle.log_model.proofs.Log.{take_blocks-append, stopped_stays}
use Rattle.log_model.proofs.Parts.{parts_spell}

-- ---- what is done stays in front

-- a reader with more transactions done before
abbrev behind : List Transaction → Reader → Reader
behind txs (Reading seq tags bodies revokes ts) = Reading seq tags bodies revokes (txs ++ ts)
behind txs (Stopped ts) = Stopped (txs ++ ts)

either_behind : (t : Bool) (txs : List Transaction) (r s : Reader) (q u : Reader) → q ≡ behind txs r → u ≡ behind txs s → (if t then q else u) ≡ behind txs (if t then r else s)
either_behind true txs r s q u e g = e
either_behind false txs r s q u e g = g

header_behind : (txs ts : List Transaction) (seq : ℕ) (bodies : List Logged) (revokes : List ℕ) (h : Header) → take_header seq bodies revokes (txs ++ ts) h ≡ behind txs (take_header seq bodies revokes ts h)
header_behind txs ts seq bodies revokes Plain = refl
header_behind txs ts seq bodies revokes (Describes s tags) = either_behind (s == seq) txs _ _ _ _ refl refl
header_behind txs ts seq bodies revokes (Revokes s blocks) = either_behind (s == seq) txs _ _ _ _ refl refl
header_behind txs ts seq bodies revokes (Commits s) =
    either_behind (s == seq) txs _ _ _ _ (ap (Reading (seq + 1) [] [] []) (append_assoc txs ts (record { bodies = bodies; revokes = revokes } ∷ []))) refl

block_behind : (f : Format) (txs : List Transaction) (r : Reader) (block : List ℕ) → take_block f (behind txs r) block ≡ behind txs (take_block f r block)
block_behind f txs (Stopped ts) block = refl
block_behind f txs (Reading seq (tag ∷ tags) bodies revokes ts) block = refl
block_behind f txs (Reading seq [] bodies revokes ts) block = header_behind txs ts seq bodies revokes (f.header block)

blocks_behind : (f : Format) (txs : List Transaction) (r : Reader) (blocks : List (List ℕ)) → take_blocks f (behind txs r) blocks ≡ behind txs (take_blocks f r blocks)
blocks_behind f txs r [] = refl
blocks_behind f txs r (b ∷ bs) = ap (λ q. take_blocks f q bs) (block_behind f txs r b) ∙ blocks_behind f txs (take_block f r b) bs

done_behind : (txs : List Transaction) (r : Reader) → done (behind txs r) ≡ txs ++ done r
done_behind txs (Reading seq tags bodies revokes ts) = refl
done_behind txs (Stopped ts) = refl

-- reading a whole transaction, and then the others
read_first : (f : Format) (seq : ℕ) (blocks rest : List (List ℕ)) (t : Transaction) → BeginsWith f seq blocks t rest
    → done (take_blocks f (from_sequence seq) blocks) ≡ t ∷ done (take_blocks f (from_sequence (seq + 1)) rest)
read_first f seq blocks rest t h =
    ap (λ bs. done (take_blocks f (from_sequence seq) bs)) (h.split ∙ sym (append_assoc (blocks_of_parts h.parts) (h.commit ∷ []) rest))
    ∙ ap done (take_blocks-append f (from_sequence seq) (blocks_of_parts h.parts ++ h.commit ∷ []) rest)
    ∙ ap (λ r. done (take_blocks f r rest)) (parts_spell f seq h.parts h.commit h.are h.commits [])
    ∙ ap done (blocks_behind f (record { bodies = bodies_of_parts f h.parts; revokes = revokes_of_parts h.parts } ∷ []) (from_sequence (seq + 1)) rest)
    ∙ done_behind (record { bodies = bodies_of_parts f h.parts; revokes = revokes_of_parts h.parts } ∷ []) (take_blocks f (from_sequence (seq + 1)) rest)
    ∙ ap (λ u. u ∷ done (take_blocks f (from_sequence (seq + 1)) rest)) (sym h.transaction)

-- ---- where a transaction gets done

-- the bodies of the tags that wait, parts and a commit block, and then the others
record Front (f : Format) (seq : ℕ) (tags : List Tag) (blocks : List (List ℕ)) : Type 0 where
  waiting : List (List ℕ)
  parts : List Part
  commit : List ℕ
  rest : List (List ℕ)
  split : blocks ≡ waiting ++ (blocks_of_parts parts ++ commit ∷ rest)
  counted : length tags ≡ length waiting
  are : AreParts f seq parts
  commits : f.header commit ≡ Commits seq

-- no transaction gets done of these blocks
abbrev NoneDone : Format → ℕ → List Tag → List (List ℕ) → Type 0
NoneDone f seq tags blocks = (bodies : List Logged) (revokes : List ℕ) (txs : List Transaction) → done (take_blocks f (Reading seq tags bodies revokes txs) blocks) ≡ txs

empty_list : (xs : List (List ℕ)) → 0 ≡ length xs → xs ≡ []
empty_list [] e = refl
empty_list (x ∷ xs) e = absurd (omega arith)

scan : (f : Format) (seq : ℕ) (tags : List Tag) (blocks : List (List ℕ)) → NoneDone f seq tags blocks ⊎ Front f seq tags blocks
scan f seq tags [] = inl (λ bodies revokes txs. refl)
scan f seq (tag ∷ tags) (b ∷ bs) =
    ⊎_elim
    (λ none. inl (λ bodies revokes txs. none (bodies ++ record { block = tag.block; body = f.restore tag b } ∷ []) revokes txs))
    (λ x. inr (record { waiting = b ∷ x.waiting; parts = x.parts; commit = x.commit; rest = x.rest; split = ap (λ ys. b ∷ ys) x.split; counted = ap suc x.counted; are = x.are; commits = x.commits }))
    (scan f seq tags bs)
scan f seq [] (b ∷ bs) = by (f.header b) refl (λ tags. scan f seq tags bs)
  where
    stopped : (h : Header) → f.header b ≡ h → ((bodies : List Logged) (revokes : List ℕ) (txs : List Transaction) → take_header seq bodies revokes txs h ≡ Stopped txs) → NoneDone f seq [] (b ∷ bs)
    stopped h e stops bodies revokes txs = ap (λ r. done (take_blocks f r bs)) (ap (take_header seq bodies revokes txs) e ∙ stops bodies revokes txs) ∙ stopped_stays f txs bs

    by : (h : Header) → f.header b ≡ h → ((tags : List Tag) → NoneDone f seq tags bs ⊎ Front f seq tags bs) → NoneDone f seq [] (b ∷ bs) ⊎ Front f seq [] (b ∷ bs)
    by Plain e more = inl (stopped Plain e (λ bodies revokes txs. refl))
    by (Describes s tags) e more = describes (s == seq) refl
      where
        describes : (t : Bool) → s == seq ≡ t → NoneDone f seq [] (b ∷ bs) ⊎ Front f seq [] (b ∷ bs)
        describes false q = inl (stopped (Describes s tags) e (λ bodies revokes txs. ap (λ u. if u then Reading seq tags bodies revokes txs else Stopped txs) q))
        describes true q =
            let same = eqb-true s seq q in
            ⊎_elim
            (λ none. inl (λ bodies revokes txs.
            ap (λ r. done (take_blocks f r bs)) (ap (take_header seq bodies revokes txs) e ∙ ap (λ u. if u then Reading seq tags bodies revokes txs else Stopped txs) q) ∙ none bodies revokes txs))
            (λ x. inr (record {
              waiting = [];
              parts = Describing b tags x.waiting ∷ x.parts;
              commit = x.commit;
              rest = x.rest;
              split = ap (λ ys. b ∷ ys) (x.split ∙ sym (append_assoc x.waiting (blocks_of_parts x.parts) (x.commit ∷ x.rest)));
              counted = refl;
              are = ((e ∙ ap (λ n. Describes n tags) same, x.counted), x.are);
              commits = x.commits;
            }))
            (more tags)
    by (Revokes s numbers) e more = revokes_here (s == seq) refl
      where
        revokes_here : (t : Bool) → s == seq ≡ t → NoneDone f seq [] (b ∷ bs) ⊎ Front f seq [] (b ∷ bs)
        revokes_here false q = inl (stopped (Revokes s numbers) e (λ bodies revokes txs. ap (λ u. if u then Reading seq [] bodies (revokes ++ numbers) txs else Stopped txs) q))
        revokes_here true q =
            let same = eqb-true s seq q in
            ⊎_elim
            (λ none. inl (λ bodies revokes txs.
            ap (λ r. done (take_blocks f r bs)) (ap (take_header seq bodies revokes txs) e ∙ ap (λ u. if u then Reading seq [] bodies (revokes ++ numbers) txs else Stopped txs) q) ∙ none bodies (revokes ++ numbers) txs))
            (λ x. inr (record {
              waiting = [];
              parts = Revoking b numbers ∷ x.parts;
              commit = x.commit;
              rest = x.rest;
              split = ap (λ ys. b ∷ ys) (x.split ∙ ap (λ ys. ys ++ (blocks_of_parts x.parts ++ x.commit ∷ x.rest)) (empty_list x.waiting x.counted));
              counted = refl;
              are = (e ∙ ap (λ n. Revokes n numbers) same, x.are);
              commits = x.commits;
            }))
            (more [])
    by (Commits s) e more = commits_here (s == seq) refl
      where
        commits_here : (t : Bool) → s == seq ≡ t → NoneDone f seq [] (b ∷ bs) ⊎ Front f seq [] (b ∷ bs)
        commits_here false q = inl (stopped (Commits s) e (λ bodies revokes txs. ap (λ u. if u then Reading (seq + 1) [] [] [] (txs ++ record { bodies = bodies; revokes = revokes } ∷ []) else Stopped txs) q))
        commits_here true q = inr (record {
          waiting = [];
          parts = [];
          commit = b;
          rest = bs;
          split = refl;
          counted = refl;
          are = tt;
          commits = e ∙ ap Commits (eqb-true s seq q);
        })

-- so the blocks begin with a whole transaction, or none gets done
first_or_none : (f : Format) (seq : ℕ) (blocks : List (List ℕ)) → NoneDone f seq [] blocks ⊎ ((t : Transaction) × (rest : List (List ℕ)) × BeginsWith f seq blocks t rest)
first_or_none f seq blocks =
    ⊎_elim inl
    (λ x. inr (
      record { bodies = bodies_of_parts f x.parts; revokes = revokes_of_parts x.parts },
      x.rest,
      record {
        parts = x.parts;
        commit = x.commit;
        split = x.split ∙ ap (λ ys. ys ++ (blocks_of_parts x.parts ++ x.commit ∷ x.rest)) (empty_list x.waiting x.counted);
        are = x.are;
        commits = x.commits;
        transaction = refl;
      },
    ))
    (scan f seq [] blocks)

-- ---- the log

none_begins : (f : Format) (seq : ℕ) (blocks : List (List ℕ)) → NoneDone f seq [] blocks → (t : Transaction) (rest : List (List ℕ)) → BeginsWith f seq blocks t rest → ⊥
none_begins f seq blocks none t rest h = let e = sym (none [] [] []) ∙ read_first f seq blocks rest t h in let y : ⊥ = cc in y

shorter : (f : Format) (seq : ℕ) (blocks rest : List (List ℕ)) (t : Transaction) → BeginsWith f seq blocks t rest → length rest < length blocks
shorter f seq blocks rest t h =
    let e = ap length h.split in
    let size = length-append (blocks_of_parts h.parts) (h.commit ∷ rest) in
    omega arith

log_within : (f : Format) (n seq : ℕ) (blocks : List (List ℕ)) → length blocks < n → IsLogOf f seq blocks (done (take_blocks f (from_sequence seq) blocks))
log_within f zero seq blocks lt = absurd (omega arith)
log_within f (suc n) seq blocks lt =
    ⊎_elim
    (λ none. subst (IsLogOf f seq blocks) (sym (none [] [] [])) (ends (none_begins f seq blocks none)))
    (λ x.
    let less = shorter f seq blocks x.1 x.0 x.2 in
    subst (IsLogOf f seq blocks) (sym (read_first f seq blocks x.1 x.0 x.2)) (goes_on x.2 (log_within f n (seq + 1) x.1 (omega arith))))
    (first_or_none f seq blocks)

-- what is read is the log
pub read_is_log : (f : Format) (seq : ℕ) (blocks : List (List ℕ)) → IsLogOf f seq blocks (done (take_blocks f (from_sequence seq) blocks))
read_is_log f seq blocks = log_within f (suc (length blocks)) seq blocks (omega arith)

-- and the log is what is read
pub log_is_read : (f : Format) (seq : ℕ) (blocks : List (List ℕ)) (txs : List Transaction) → IsLogOf f seq blocks txs → done (take_blocks f (from_sequence seq) blocks) ≡ txs
log_is_read f seq blocks _ (ends none) =
    ⊎_elim (λ n. n [] [] []) (λ x. absurd (none x.0 x.1 x.2)) (first_or_none f seq blocks)
log_is_read f seq blocks _ (goes_on {rest = rest} {t = t} {txs = txs} h more) =
    read_first f seq blocks rest t h ∙ ap (λ ts. t ∷ ts) (log_is_read f (seq + 1) rest txs more)
