-- What a log holds are keys with values.
use Rattle.std.specs.Prelude.{◌≡◌, ℕ, ◌+◌, true, List, [], ◌∷◌, Option, Some, None}
use Rattle.std.proofs.Common.{refl}
use Rattle.std.specs.Ordering.{match_ordering}
use Rattle.std.specs.declared.cmp.Ordering.{Ordering}
use Rattle.std.specs.declared.cmp.Ordering.TheVariants.{Less, Equal, Greater}
use Rattle.tree_model.specs.Maps.{name_cmp, put_name}
use Rattle.wal_store.specs.declared.puts.Put.{Put}
use Rattle.wal_store.specs.Puts.{IsPut, is_key, is_value}
use Rattle.wal_store.specs.Log.{Pairs, put_numbered, with_first, puts_from, held_puts, pairs_after, pairs_of}
use Rattle.wal_store.proofs.HeldPuts.{numbered-decoded}
use Rattle.wal_store.proofs.Spelled.{decode-read}
use Rattle.store_core.specs.Runs.{ArePairs}

-- ---- puts that were read

AreRead : List Put → Type 0
AreRead [] = Unit {0}
AreRead (p ∷ ps) = IsPut p × AreRead ps

one-more : (i : ℕ) (b : List ℕ) (ps : List Put) (o : Option Put) → put_numbered (i + 1) b ≡ o → AreRead ps → AreRead (with_first o ps)
unfolding AreRead
one-more i b ps None e is = tt
one-more i b ps (Some p) e is = ((decode-read b (i + 1) p (numbered-decoded (i + 1) b p e)).1, is)

are-read : (i : ℕ) (blocks : List (List ℕ)) → AreRead (puts_from i blocks)
unfolding AreRead
are-read i [] = tt
are-read i (b ∷ bs) = one-more i b (puts_from (i + 1) bs) (put_numbered (i + 1) b) refl (are-read (i + 1) bs)

-- ---- the pairs that they leave

placed : (o : Ordering) (key value k v : List ℕ) (pairs later : Pairs) → is_key key ≡ true → is_value value ≡ true → ArePairs ((k, v) ∷ pairs) → ArePairs later
    → ArePairs (match_ordering o ((key, value) ∷ (k, v) ∷ pairs) ((k, value) ∷ pairs) ((k, v) ∷ later))
placed Less key value k v pairs later good fits is rest = (good, fits, is)
placed Equal key value k v pairs later good fits is rest = (is.0, fits, is.2)
placed Greater key value k v pairs later good fits is rest = (is.0, is.1, rest)

put-pair : (pairs : Pairs) (key value : List ℕ) → is_key key ≡ true → is_value value ≡ true → ArePairs pairs → ArePairs (put_name pairs key value)
put-pair [] key value good fits is = (good, fits, tt)
put-pair ((k, v) ∷ pairs) key value good fits is = placed (name_cmp key k) key value k v pairs (put_name pairs key value) good fits is (put-pair pairs key value good fits is.2)

left : (pairs : Pairs) (ps : List Put) → AreRead ps → ArePairs pairs → ArePairs (pairs_after pairs ps)
unfolding AreRead
left pairs [] puts is = is
left pairs (p ∷ ps) puts is = left (put_name pairs p.key p.value) ps puts.1 (put-pair pairs p.key p.value puts.0.key puts.0.value is)

pub pairs-held : (blocks : List (List ℕ)) → ArePairs (pairs_of (held_puts blocks))
pairs-held blocks = left [] (held_puts blocks) (are-read 0 blocks) tt
