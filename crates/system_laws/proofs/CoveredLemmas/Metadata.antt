-- The metadata of the tree that was recovered.
use Rattle.std.specs.Prelude.{◌≡◌, ◌↔◌, ℕ, List, Option, Some, None, Ok, refl}
use Rattle.std.specs.Map.{keys_of}
use Rattle.std.proofs.Common.{sym, ap, subst, ◌∙◌}
use Rattle.tree_model.specs.declared.node.Directory.{Directory}
use Rattle.tree_model.specs.declared.node.File.{File}
use Rattle.tree_model.specs.declared.node.Node.{Node}
use Rattle.tree_model.specs.declared.node.Node.TheVariants as nodes
use Rattle.tree_model.specs.Calls.{Tree}
use Rattle.tree_model.specs.Causes.{LeadsTo}
use Rattle.tree_model.specs.Maps.{at_number}
use Rattle.tree_model.specs.Trees.{directory_links, node_of_path, AreAlike, SameMetadataAt, SameLinks}

module _ (tree other : Tree) (alike : AreAlike tree other) where
  pub file_led : (names : List (List ℕ)) (birth : ℕ) (f : File) → LeadsTo tree names birth (nodes.File f) →
      (there : ℕ) × (g : File) × LeadsTo other names there (nodes.File g) × (f.size ≡ g.size) × (f.links ≡ g.links) × (keys_of f.blocks ≡ keys_of g.blocks)
  file_led names birth f x =
      by (at_number other (alike.to birth)) refl (subst (λ o. SameMetadataAt o (at_number other (alike.to birth))) x.stands (alike.same_metadata names birth x.path))
    where
      by : (o : Option Node) → at_number other (alike.to birth) ≡ o → SameMetadataAt (Some (nodes.File f)) o →
          (there : ℕ) × (g : File) × LeadsTo other names there (nodes.File g) × (f.size ≡ g.size) × (f.links ≡ g.links) × (keys_of f.blocks ≡ keys_of g.blocks)
      by None stands same = absurd same
      by (Some (nodes.Directory d)) stands same = absurd same
      by (Some (nodes.Other mode)) stands same = absurd same
      by (Some (nodes.File g)) stands same = (alike.to birth, g, record { path = alike.same_paths names birth x.path; stands = stands }, same.0, same.1, same.2)

  pub directory_led : (names : List (List ℕ)) (birth : ℕ) (d : Directory) → LeadsTo tree names birth (nodes.Directory d) →
      (there : ℕ) × (g : Directory) × LeadsTo other names there (nodes.Directory g) × (d.slots ≡ g.slots) × (directory_links tree d ≡ directory_links other g)
  directory_led names birth d x =
      by (at_number other (alike.to birth)) refl (subst (λ o. SameMetadataAt o (at_number other (alike.to birth))) x.stands (alike.same_metadata names birth x.path))
      (subst (λ o. SameLinks tree other o (at_number other (alike.to birth))) x.stands (alike.same_links names birth x.path))
    where
      by : (o : Option Node) → at_number other (alike.to birth) ≡ o → SameMetadataAt (Some (nodes.Directory d)) o → SameLinks tree other (Some (nodes.Directory d)) o →
          (there : ℕ) × (g : Directory) × LeadsTo other names there (nodes.Directory g) × (d.slots ≡ g.slots) × (directory_links tree d ≡ directory_links other g)
      by None stands same links = absurd same
      by (Some (nodes.File f)) stands same links = absurd same
      by (Some (nodes.Other mode)) stands same links = absurd same
      by (Some (nodes.Directory g)) stands same links = (alike.to birth, g, record { path = alike.same_paths names birth x.path; stands = stands }, same, links)

  pub one_node : (names more : List (List ℕ)) (a b x y : ℕ) → node_of_path tree names ≡ Ok a → node_of_path tree more ≡ Ok b → node_of_path other names ≡ Ok x → node_of_path other more ≡ Ok y → (a ≡ b) ↔ (x ≡ y)
  one_node names more a b x y at at_more to_x to_y =
      let first : alike.to a ≡ x = cc (alike.same_paths names a at, to_x) in
      let second : alike.to b ≡ y = cc (alike.same_paths more b at_more, to_y) in
      (λ same. sym first ∙ ap alike.to same ∙ second, λ same. alike.one_node names more a b at at_more (first ∙ same ∙ sym second))
