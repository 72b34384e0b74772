-- What a text that is accepted says: the lines that the speller writes of its script, but that some may be
-- left out, and that header lines may stand in any order.
use Rattle.std.specs.Prelude.{◌≡◌, ℕ, ◌++◌, ◌||◌, Bool, true, List, [], ◌∷◌, codes, map}
use Rattle.blk_base.specs.Members.{In}
use Rattle.script_grammar.specs.laws.Accepted.{begins, beginning, or_default}
use Rattle.session_grammar.specs.laws.Accepted.{SayEvents}
use Rattle.session_grammar.specs.laws.Speller.{number_words, number_lines, recover_words}
use Rattle.store_grammar.specs.declared.script.StoreHeader.{StoreHeader}
use Rattle.store_grammar.specs.declared.script.StoreScript.{StoreScript}
use Rattle.store_grammar.specs.laws.Speller.{store_words, op_words}

-- the line is one of the header
abbrev pub is_header_line : List (List ℕ) → Bool
is_header_line l = begins (codes "depth") l || (begins (codes "queue") l || (begins (codes "fail") l || begins (codes "cut") l))

-- The header lines, which may stand in any order, say these values, each at most once; one that says the default
-- may be left out.
pub record IsHeaderOf (h : StoreHeader) (header : List (List (List ℕ))) : Type 0 where
  pub depth : or_default (codes "depth" ∷ codes "32" ∷ []) (beginning (codes "depth") header) ≡ number_words (codes "depth") h.depth ∷ []
  pub queue : or_default (codes "queue" ∷ codes "32" ∷ []) (beginning (codes "queue") header) ≡ number_words (codes "queue") h.queue ∷ []
  pub fail : beginning (codes "fail") header ≡ number_lines (codes "fail") h.fail
  pub cut : beginning (codes "cut") header ≡ number_lines (codes "cut") h.cut
  pub known : (l : List (List ℕ)) → In l header → is_header_line l ≡ true

-- The lines, each as its words, say the script.
pub record SaysStore (s : StoreScript) (lines : List (List (List ℕ))) : Type 0 where
  pub header : List (List (List ℕ))
  pub events : List (List (List ℕ))
  pub whole : lines ≡ store_words s.room ∷ header ++ (map op_words s.ops ++ ((codes "events" ∷ []) ∷ events ++ map recover_words s.recovers))
  pub headed : IsHeaderOf s.header header
  pub said : SayEvents s.events events
