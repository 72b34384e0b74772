-- The examples, computed by the definitions.
use Rattle.std.specs.Prelude.{[], ◌∷◌, codes, IsOk, refl}
use Rattle.std.proofs.Common.{arith}
use Rattle.tree_model.specs.declared.call.Call.TheVariants as calls
use Rattle.tree_model.specs.declared.call.Reply.TheVariants as replies
use Rattle.tree_model.specs.Paths.{path_of}
use Rattle.tree_model.specs.Calls.{row, outcome, used_zones, file_zones, mapped_groups}
use Rattle.call_refusals.specs.Conditions.Condition.{there, parent_linked, file_linked, file_met, goal_linked, no_space}
use Rattle.call_refusals.specs.Examples.{AreBoth, linked_tree, named_tree, wide_room, four_zones}

pub kind_before_links : AreBoth wide_room linked_tree 300 (calls.Rename (codes "/q/x") (codes "/p/f")) (file_met (codes "/q/x") (codes "/p/f")) (goal_linked (codes "/q/x") (codes "/p/f")) replies.NotDir
unfolding outcome row path_of linked_tree
kind_before_links = record {
  first_holds = (
    3,
    4,
    record { parent = 2; width = 14; slots = 2; names = [] },
    record { size = 0; links = 1; blocks = [] },
    record { names = codes "q" ∷ codes "x" ∷ []; named = refl; leads = record { path = refl; stands = refl } },
    record { names = codes "p" ∷ codes "f" ∷ []; named = refl; leads = record { path = refl; stands = refl } },
  );
  second_holds = (
    3,
    record { parent = 2; width = 14; slots = 2; names = [] },
    record { names = codes "q" ∷ codes "x" ∷ []; named = refl; leads = record { path = refl; stands = refl } },
    2,
    1,
    _,
    codes "f",
    record {
      directory = _;
      old = codes "x";
      origin = record { front = codes "q" ∷ []; named = refl; leads = record { path = refl; stands = refl } };
      goal = record { front = codes "p" ∷ []; named = refl; leads = record { path = refl; stands = refl } };
    },
    (λ e. omega arith),
    refl,
  );
  told = refl;
}

-- within one parent links are not looked at
pub within_one_parent : IsOk (outcome wide_room linked_tree 300 (calls.Rename (codes "/p/d000") (codes "/p/e000")))
unfolding outcome row path_of linked_tree used_zones file_zones mapped_groups
within_one_parent = refl

pub name_before_links : AreBoth wide_room linked_tree 300 (calls.Mkdir (codes "/p/d005")) (there (codes "/p/d005")) (parent_linked (codes "/p/d005")) replies.Exists
unfolding outcome row path_of linked_tree
name_before_links = record {
  first_holds = (1, _, codes "d005", record { front = codes "p" ∷ []; named = refl; leads = record { path = refl; stands = refl } }, refl);
  second_holds = (1, _, codes "d005", record { front = codes "p" ∷ []; named = refl; leads = record { path = refl; stands = refl } }, refl);
  told = refl;
}

pub name_before_file_links : AreBoth four_zones named_tree 300 (calls.Link (codes "/d000") (codes "/d001")) (there (codes "/d001")) (file_linked (codes "/d000")) replies.Exists
unfolding outcome row path_of named_tree
name_before_file_links = record {
  first_holds = (0, _, codes "d001", record { front = []; named = refl; leads = record { path = refl; stands = refl } }, refl);
  second_holds = (1, record { size = 0; links = 250; blocks = [] }, record { names = codes "d000" ∷ []; named = refl; leads = record { path = refl; stands = refl } }, refl);
  told = refl;
}

pub links_before_space : AreBoth four_zones named_tree 300 (calls.Link (codes "/d000") (codes "/new")) (file_linked (codes "/d000")) (no_space 0 (codes "/new")) replies.TooManyLinks
unfolding outcome row path_of named_tree used_zones file_zones mapped_groups
links_before_space = record {
  first_holds = (1, record { size = 0; links = 250; blocks = [] }, record { names = codes "d000" ∷ []; named = refl; leads = record { path = refl; stands = refl } }, refl);
  second_holds = (0, _, codes "new", record { front = []; named = refl; leads = record { path = refl; stands = refl } }, omega arith);
  told = refl;
}
