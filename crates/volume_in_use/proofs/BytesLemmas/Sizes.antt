-- The last steps on an open file: its size, and its node that is put back.
use Rattle.std.specs.Prelude.{◌≡◌, ℕ, nat_eq, ◌==◌, Bool, true, false, if◌then◌else◌, List, [], ◌∷◌, Some, refl}
use Rattle.std.specs.List.Sorted.{IsStrictlySortedBy}
use Rattle.std.specs.Map.{keys_of}
use Rattle.std.specs.Ordering.{nat_cmp}
use Rattle.std.proofs.Common.{sym, ap, ◌∙◌}
use Rattle.minix_layout.specs.declared.inode.Inode.{Inode}
use Rattle.tree_model.specs.Maps.{at_number, put_number}
use Rattle.volume_ops.specs.declared.found.Mapped.{Mapped}
use Rattle.volume_model.specs.declared.placed.Placed.{Placed}
use Rattle.volume_model.specs.declared.placed.Part.{Part}
use Rattle.volume_model.specs.declared.placed.Part.TheVariants as parts
use Rattle.volume_model.specs.Moves.{with_size, inode_back, back_told}
use Rattle.volume_model.specs.Touched.{Touched, and_then}
use Rattle.volume_in_use.proofs.NowLemmas.Notes.{and_nothing}
use Rattle.volume_steps.specs.Now.{VolumeNow, Change, unchanged}
use Rattle.volume_steps.specs.Steps.{inode_put, resize, tells_node}
use Rattle.volume_steps.proofs.Files.{put_itself, put_twice}
use Rattle.volume_steps.proofs.QuietSteps.{at_node_is}
use Rattle.volume_in_use.specs.declared.bytes.open.OpenFile.{OpenFile}
use Rattle.volume_in_use.specs.bytes.code.Work.{Work, blank, node_of, with_nodes, size_work}
use Rattle.volume_in_use.proofs.BytesLemmas.Writes.{work_of}

-- the change that the work was, once the node is put back
abbrev pub closed_work : Work → Change
closed_work w = record { volume = with_nodes w.volume (put_number w.volume.contents.nodes w.file.birth (node_of w.file)); touched = w.touched }

-- a node that was taken out and is put back as it was
pub put_back : (v u w : VolumeNow) (f g : OpenFile) (birth : ℕ) → IsStrictlySortedBy nat_cmp (keys_of v.contents.nodes) → at_number v.contents.nodes birth ≡ Some (node_of f) → f.birth ≡ birth →
    u ≡ with_nodes v (put_number v.contents.nodes birth blank) → g ≡ f → w ≡ with_nodes u (put_number u.contents.nodes g.birth (node_of g)) → w ≡ v
put_back v u w f g birth order at mine e same last =
    last
    ∙ (ap (λ (u : VolumeNow). with_nodes u (put_number u.contents.nodes g.birth (node_of g))) e
    ∙ (ap (λ (g : OpenFile). with_nodes v (put_number (put_number v.contents.nodes birth blank) g.birth (node_of g))) same
    ∙ (ap (λ (b : ℕ). with_nodes v (put_number (put_number v.contents.nodes birth blank) b (node_of f))) mine
    ∙ (ap (with_nodes v) (put_twice v.contents.nodes birth blank (node_of f) order ∙ put_itself v.contents.nodes birth (node_of f) order at)))))

module _ (u : VolumeNow) (nodes : List (ℕ × Placed)) (n : ℕ) (q : Placed) (zones : List Mapped) (at : at_number u.contents.nodes n ≡ Some q) (is : q.part ≡ parts.File zones)
    (order : IsStrictlySortedBy nat_cmp (keys_of u.contents.nodes)) (puts : (r : Placed) → put_number nodes n r ≡ put_number u.contents.nodes n r) (t : Touched) where
  abbrev start : Work
  start = work_of u nodes n q zones [] t

  -- nothing more is done
  closed_same : closed_work start ≡ record { volume = u; touched = and_then t (unchanged u).touched }
  closed_same =
      let whole : put_number nodes n (node_of start.file) ≡ u.contents.nodes =
      puts (node_of start.file)
      ∙ (ap (λ (part : Part). put_number u.contents.nodes n (record { number = q.number; inode = q.inode; part = part })) (sym is)
      ∙ put_itself u.contents.nodes n q order at) in
      let told = and_nothing t in
      λ k. record { volume = with_nodes u (whole k); touched = sym told k }

  -- another size
  closed_sized : (size : ℕ) → nat_eq size q.inode.size ≡ false →
      closed_work (size_work size start) ≡ record { volume = inode_put u n q (with_size q.inode size); touched = and_then t (tells_node n (back_told u.geometry q (with_size q.inode size))) }
  unfolding size_work
  closed_sized size other =
      let i : Inode = with_size q.inode size in
      let whole : put_number nodes n (record { number = q.number; inode = i; part = parts.File zones }) ≡ put_number u.contents.nodes n (record { number = q.number; inode = i; part = q.part }) =
      puts (record { number = q.number; inode = i; part = parts.File zones })
      ∙ ap (λ (part : Part). put_number u.contents.nodes n (record { number = q.number; inode = i; part = part })) (sym is) in
      rw other (λ k. record {
        volume = record { geometry = u.geometry; contents = record { blocks = inode_back u.geometry u.contents.blocks q i; nodes = whole k }; zones = u.zones };
        touched = and_then t (tells_node n (back_told u.geometry q i));
      })

  sized_stays : (size : ℕ) → nat_eq size q.inode.size ≡ true → size_work size start ≡ start
  unfolding size_work
  sized_stays size same = rw same refl

  abbrev resized_by : (ℕ → ℕ) → Bool → Change
  resized_by change b = if b then unchanged u else record { volume = inode_put u n q (with_size q.inode (change q.inode.size)); touched = tells_node n (back_told u.geometry q (with_size q.inode (change q.inode.size))) }

  resized : (change : ℕ → ℕ) → resize u n change ≡ resized_by change (nat_eq (change q.inode.size) q.inode.size)
  resized change = at_node_is u n q (λ p. if change p.inode.size == p.inode.size then unchanged u else record { volume = inode_put u n p (with_size p.inode (change p.inode.size)); touched = tells_node n (back_told u.geometry p (with_size p.inode (change p.inode.size))) }) at

  closed_by : (change : ℕ → ℕ) (b : Bool) → nat_eq (change q.inode.size) q.inode.size ≡ b →
      closed_work (size_work (change q.inode.size) start) ≡ record { volume = (resized_by change b).volume; touched = and_then t (resized_by change b).touched }
  closed_by change true same = ap closed_work (sized_stays (change q.inode.size) same) ∙ closed_same
  closed_by change false other = closed_sized (change q.inode.size) other

  -- The file has its size, and its node is back.
  pub closed_as : (change : ℕ → ℕ) (size : ℕ) → size ≡ change q.inode.size →
      closed_work (size_work size start) ≡ record { volume = (resize u n change).volume; touched = and_then t (resize u n change).touched }
  closed_as change size e =
      ap (λ size. closed_work (size_work size start)) e
      ∙ (closed_by change (nat_eq (change q.inode.size) q.inode.size) refl ∙ ap (λ (c : Change). record { volume = c.volume; touched = and_then t c.touched }) (sym (resized change)))
