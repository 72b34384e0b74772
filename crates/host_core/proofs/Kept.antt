-- What steps keep of a host.
use Rattle.std.proofs.Common.{◌≡◌, ℕ, Bool, List, length, map, set, Option, Some, None, Result, Ok, Err, OnErr, refl, sym, ap, subst, arith, ◌∙◌}
use Rattle.std.proofs.Math.ListN.{length-set}
use Rattle.blk_base.specs.laws.Members.{each_set}
use Rattle.minix_layout.specs.declared.division.Geometry.{Geometry}
use Rattle.page_cache.specs.declared.cached_page.CachedPage.{CachedPage}
use Rattle.tree_model.specs.declared.call.Call.{Call}
use Rattle.volume_steps.specs.Now.{VolumeNow}
use Rattle.volume_steps.specs.Calls.{after_release}
use Rattle.commit_actor.specs.Actor.{CommitActor}
use Rattle.commit_actor.specs.Calls.{with_flush}
use Rattle.commit_actor.specs.Journal.{JournalPart}
use Rattle.flush_actor.specs.Part.{FlushPart}
use Rattle.flush_actor.specs.declared.wait.Wait.{Wait}
use Rattle.journal_ring.specs.running.Plan.{Writers}
use Rattle.host_machine.specs.State.{Begun}
use Rattle.host_core.specs.begun.Steps.{Gone, goes_on, keeps_all}
use Rattle.host_core.specs.at_once.Steps.{with_part, PlainProgress, Went, steps_plainly}
use Rattle.host_answers.specs.declared.entry.Entry.{Entry}
use Rattle.host_core.specs.code.Fields.{IsHost, IsWithin, AreNoted, program_of}
use Rattle.host_core.specs.code.Known.{IsKnown, StaysKnown}
use Rattle.host_core.specs.code.Progress.{KeepsHost, parts_now}
use Rattle.host_core.specs.code.Steps.{released}
use Rattle.host_core.specs.declared.host_parts.HostParts.{HostParts}
use Rattle.host_core.specs.declared.known.Known.{Known}
use Rattle.host_core.specs.declared.thread.Thread.{Thread}
use Rattle.host_core.proofs.Plainly.{plainly_silent}
use Rattle.host_core.proofs.WaitsKept.{going_keeps}

pub kept : (j k : CommitActor) (v w : VolumeNow) (x y : Known) (ts : List Thread) (entries : List Entry) → IsHost j v x ts entries → k.blocks ≡ j.blocks → w.geometry ≡ v.geometry → length k.part.flush.waits ≡ length j.part.flush.waits
    → StaysKnown v w x y → IsHost k w y ts entries
kept j k v w x y ts entries h blocks geometry waits known = record {
  blocks = blocks ∙ h.blocks ∙ ap (λ (g : Geometry). g.zones) (sym geometry);
  waits = waits ∙ h.waits;
  few = h.few;
  within = h.within;
  noted = h.noted;
  known = known (map program_of ts) h.known;
}

-- nothing that stands beside the volume tells what is known of it
pub known_still : (v : VolumeNow) (x : Known) → StaysKnown v v x x
known_still v x programs k = k

-- one thread changes
pub kept_with : (j : CommitActor) (v : VolumeNow) (x : Known) (ts : List Thread) (entries more : List Entry) (at : ℕ) (new : Thread) → IsHost j v x ts entries → IsWithin new → AreNoted (set ts at new) more
    → map program_of (set ts at new) ≡ map program_of ts → IsHost j v x (set ts at new) more
kept_with j v x ts entries more at new h own noted programs = record {
  blocks = h.blocks;
  waits = h.waits ∙ sym (length-set ts at new);
  few = let same = length-set ts at new in let few = h.few in omega arith;
  within = each_set IsWithin ts at new h.within own;
  noted = noted;
  known = subst (λ ps. IsKnown ps v x) (sym programs) h.known;
}

-- a step of a call
pub kept_by : (old mid : HostParts) (ts : List Thread) (entries : List Entry) → IsHost old.journal old.volume old.known ts entries → KeepsHost old mid → IsKnown (map program_of ts) mid.volume mid.known
    → IsHost mid.journal mid.volume mid.known ts entries
kept_by old mid ts entries h k known = record {
  blocks = k.blocks ∙ h.blocks ∙ ap (λ (g : Geometry). g.zones) (sym k.geometry);
  waits = k.waits ∙ h.waits;
  few = h.few;
  within = h.within;
  noted = h.noted;
  known = known;
}

-- a caller's step, with what it found and what was noted
pub kept_noted : (old mid : HostParts) (l : CommitActor) (f : FlushPart) (ts : List Thread) (entries more : List Entry) (at : ℕ) (new : Thread) → IsHost old.journal old.volume old.known ts entries → KeepsHost old mid
    → IsKnown (map program_of ts) mid.volume mid.known → map program_of (set ts at new) ≡ map program_of ts → l ≡ with_flush mid.journal f → length l.part.flush.waits ≡ length mid.journal.part.flush.waits → IsWithin new → AreNoted (set ts at new) more → IsHost l mid.volume mid.known (set ts at new) more
kept_noted old mid l f ts entries more at new h k known programs journal waits own noted =
    let stays = kept mid.journal l mid.volume mid.volume mid.known mid.known ts entries (kept_by old mid ts entries h k known) (ap (λ (a : CommitActor). a.blocks) journal) refl waits (known_still mid.volume mid.known) in
    kept_with l mid.volume mid.known ts entries more at new stays own noted programs

pub released_same : (before after : Option ℕ) (v : VolumeNow) → (released after_release before after v).geometry ≡ v.geometry
released_same None after v = refl
released_same (Some k) (Some j) v = refl
released_same (Some k) None v = refl

pub any_err : {T E P : Type 0} (r : Result T E) → P → OnErr r P
any_err (Ok x) p = tt
any_err (Err e) p = p

-- what a begun call's step keeps
pub going_kept : (old new : HostParts) (full : Bool) (t : ℕ) (w : Wait) (b : Begun) (part : JournalPart) (pages : List CachedPage) (x : Gone) → x.part ≡ new.journal.part
    → x ≡ goes_on full old.journal.part old.pages.pages t w b → keeps_all old.journal new.journal → new.volume ≡ old.volume → KeepsHost old new
going_kept old new full t w b part pages x is e same volume = record {
  made_with = ap (λ (a : CommitActor). a.made_with) same;
  journal = ap (λ (a : CommitActor). a.journal) same;
  blocks = ap (λ (a : CommitActor). a.blocks) same;
  geometry = ap (λ (v : VolumeNow). v.geometry) volume;
  waits = ap (λ (j : JournalPart). length j.flush.waits) (sym is) ∙ ap (λ (g : Gone). length g.part.flush.waits) e ∙ going_keeps full old.journal.part old.pages.pages t w b;
}

-- and a plain call's
pub plain_kept : (old new : HostParts) (writers : Writers) (zmap most n : ℕ) (c : Call) (x : PlainProgress) → (let w : Went = record { parts = parts_now new; progress = x } in w) ≡ steps_plainly writers zmap most (parts_now old) n c
    → new.journal ≡ with_part old.journal new.journal.spare new.journal.part → KeepsHost old new
plain_kept old new writers zmap most n c x e same =
    let silent = plainly_silent writers zmap most (parts_now old) n c in
    record {
      made_with = ap (λ (a : CommitActor). a.made_with) same;
      journal = ap (λ (a : CommitActor). a.journal) same;
      blocks = ap (λ (a : CommitActor). a.blocks) same;
      geometry = ap (λ (w : Went). w.parts.volume.geometry) e ∙ silent.geometry;
      waits = ap (λ (w : Went). length w.parts.journal.flush.waits) e ∙ ap length silent.waits;
    }
