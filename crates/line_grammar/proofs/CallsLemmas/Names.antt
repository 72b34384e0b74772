-- The words that begin lines of calls, as they are spelled.
use Rattle.std.proofs.Common.{◌≡◌, ℕ, List, codes, Some, None}
use Rattle.std.proofs.lemmas.Option.{none-some}
use Rattle.line_grammar.specs.declared.calls.words.PathWord.{PathWord}
use Rattle.line_grammar.specs.declared.calls.words.PathWord.TheVariants as paths
use Rattle.line_grammar.specs.declared.calls.words.PairWord.{PairWord}
use Rattle.line_grammar.specs.declared.calls.words.PairWord.TheVariants as pairs
use Rattle.line_grammar.specs.declared.calls.words.PlaceWord.{PlaceWord}
use Rattle.line_grammar.specs.declared.calls.words.PlaceWord.TheVariants as places
use Rattle.line_grammar.specs.declared.calls.words.CallWord.{CallWord}
use Rattle.line_grammar.specs.declared.calls.words.CallWord.TheVariants as word
use Rattle.line_grammar.specs.calls.CallLines.{naming_word, syncing_word, path_word, pair_word, place_word, own_word, call_word}
use Rattle.script_words.proofs.Chosen.{choose, group_or, either_or}

abbrev pub path_name : PathWord → List ℕ
path_name paths.Mkdir = codes "mkdir"
path_name paths.Rmdir = codes "rmdir"
path_name paths.Create = codes "create"
path_name paths.Unlink = codes "unlink"
path_name paths.List = codes "list"
path_name paths.Stat = codes "stat"
path_name paths.Fsync = codes "fsync"
path_name paths.Fdatasync = codes "fdatasync"
path_name paths.Fbarrier = codes "fbarrier"
path_name paths.Fdatabarrier = codes "fdatabarrier"

abbrev pub pair_name : PairWord → List ℕ
pair_name pairs.Link = codes "link"
pair_name pairs.Rename = codes "rename"

abbrev pub place_name : PlaceWord → List ℕ
place_name places.Write = codes "write"
place_name places.Bytes = codes "bytes"
place_name places.Read = codes "read"

abbrev pub call_name : CallWord → List ℕ
call_name (word.OfPath w) = path_name w
call_name (word.OfPair w) = pair_name w
call_name (word.OfPlace w) = place_name w
call_name word.Truncate = codes "truncate"
call_name word.Sync = codes "sync"

naming_named : (w : List ℕ) (v : PathWord) → naming_word w ≡ Some v → w ≡ path_name v
naming_named w v h =
    choose path_name w paths.Mkdir v _ h
    (λ h. choose path_name w paths.Rmdir v _ h
    (λ h. choose path_name w paths.Create v _ h
    (λ h. choose path_name w paths.Unlink v _ h
    (λ h. choose path_name w paths.List v _ h
    (λ h. choose path_name w paths.Stat v None h (λ h. absurd (none-some v h)))))))

syncing_named : (w : List ℕ) (v : PathWord) → syncing_word w ≡ Some v → w ≡ path_name v
syncing_named w v h =
    choose path_name w paths.Fsync v _ h
    (λ h. choose path_name w paths.Fdatasync v _ h
    (λ h. choose path_name w paths.Fbarrier v _ h
    (λ h. choose path_name w paths.Fdatabarrier v None h (λ h. absurd (none-some v h)))))

path_named : (w : List ℕ) (v : PathWord) → path_word w ≡ Some v → w ≡ path_name v
path_named w v h = either_or (naming_word w) (syncing_word w) v (λ u. w ≡ path_name u) h (naming_named w v) (syncing_named w v)

pair_named : (w : List ℕ) (v : PairWord) → pair_word w ≡ Some v → w ≡ pair_name v
pair_named w v h =
    choose pair_name w pairs.Link v _ h
    (λ h. choose pair_name w pairs.Rename v None h (λ h. absurd (none-some v h)))

place_named : (w : List ℕ) (v : PlaceWord) → place_word w ≡ Some v → w ≡ place_name v
place_named w v h =
    choose place_name w places.Write v _ h
    (λ h. choose place_name w places.Bytes v _ h
    (λ h. choose place_name w places.Read v None h (λ h. absurd (none-some v h))))

own_named : (w : List ℕ) (v : CallWord) → own_word w ≡ Some v → w ≡ call_name v
own_named w v h =
    choose call_name w word.Truncate v _ h
    (λ h. choose call_name w word.Sync v None h (λ h. absurd (none-some v h)))

-- a word that is known is spelled so
pub call_named : (w : List ℕ) (v : CallWord) → call_word w ≡ Some v → w ≡ call_name v
call_named w v h =
    group_or word.OfPath (path_word w) _ v (λ u. w ≡ call_name u) h (path_named w)
    (λ h. group_or word.OfPair (pair_word w) _ v (λ u. w ≡ call_name u) h (pair_named w)
    (λ h. group_or word.OfPlace (place_word w) _ v (λ u. w ≡ call_name u) h (place_named w)
    (own_named w v)))
