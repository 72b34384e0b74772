-- What a text that is accepted says: the lines that the speller writes of its script, but that some may be
-- left out, and that header lines may stand in any order.
use Rattle.std.specs.Prelude.{◌≡◌, ℕ, ◌++◌, ◌||◌, Bool, true, List, [], ◌∷◌, codes, map}
use Rattle.blk_base.specs.Members.{In}
use Rattle.line_grammar.specs.declared.events.event.EventLine.{EventLine}
use Rattle.line_grammar.specs.events.laws.Speller.{SaysEvent}
use Rattle.script_grammar.specs.laws.Accepted.{begins, beginning, or_default}
use Rattle.session_grammar.specs.declared.session_script.SessionHeader.{SessionHeader}
use Rattle.session_grammar.specs.declared.session_script.SessionScript.{SessionScript}
use Rattle.session_grammar.specs.laws.Speller.{volume_words, number_words, number_lines, elevator_lines, thread_lines, recover_words}

-- the line is one of the header
abbrev pub is_header_line : List (List ℕ) → Bool
is_header_line l =
    begins (codes "depth") l || (begins (codes "queue") l || (begins (codes "limit") l || (begins (codes "fail") l || (begins (codes "cut") l
    || (begins (codes "seed") l || (begins (codes "flash") l || begins (codes "elevator") l))))))

-- The header lines, which may stand in any order, say these values, each at most once; one that says the default
-- may be left out.
pub record IsHeaderOf (h : SessionHeader) (header : List (List (List ℕ))) : Type 0 where
  pub depth : or_default (codes "depth" ∷ codes "32" ∷ []) (beginning (codes "depth") header) ≡ number_words (codes "depth") h.depth ∷ []
  pub queue : or_default (codes "queue" ∷ codes "32" ∷ []) (beginning (codes "queue") header) ≡ number_words (codes "queue") h.queue ∷ []
  pub limit : or_default (codes "limit" ∷ codes "20000" ∷ []) (beginning (codes "limit") header) ≡ number_words (codes "limit") h.limit ∷ []
  pub seed : or_default (codes "seed" ∷ codes "1" ∷ []) (beginning (codes "seed") header) ≡ number_words (codes "seed") h.seed ∷ []
  pub fail : beginning (codes "fail") header ≡ number_lines (codes "fail") h.fail
  pub cut : beginning (codes "cut") header ≡ number_lines (codes "cut") h.cut
  pub flash : beginning (codes "flash") header ≡ number_lines (codes "flash") h.flash
  pub elevator : beginning (codes "elevator") header ≡ elevator_lines h.elevator
  pub known : (l : List (List ℕ)) → In l header → is_header_line l ≡ true

-- each line says its event, where a count of 1 may be left out, and turns may be parted in any way
abbrev pub SayEvents : List EventLine → List (List (List ℕ)) → Type 0
SayEvents [] [] = Unit {0}
SayEvents (e ∷ es) (l ∷ ls) = SaysEvent e l × SayEvents es ls
SayEvents es ls = ⊥

-- The lines, each as its words, say the script.
pub record SaysSession (s : SessionScript) (lines : List (List (List ℕ))) : Type 0 where
  pub header : List (List (List ℕ))
  pub events : List (List (List ℕ))
  pub whole :
      lines ≡ volume_words s.inodes s.zones s.journal s.width s.wide ∷ header
      ++ (thread_lines 1 s.programs s.lines ++ ((codes "events" ∷ []) ∷ events ++ map recover_words s.recovers))
  pub headed : IsHeaderOf s.header header
  pub said : SayEvents s.events events
