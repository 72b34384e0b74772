-- What a call that was done makes of the journal's part, the pages and the owners of zones.
use Rattle.std.specs.Prelude.{ℕ, is_none, List, [], ◌∷◌, set, if◌then◌else◌}
use Rattle.number_sets.specs.Sets.{with_all, without_all}
use Rattle.flush_actor.specs.conflicts.Conflicts.{want}
use Rattle.page_cache.specs.Pages.{page_at, put_page, drop_page}
use Rattle.page_cache.specs.declared.cached_page.CachedPage.{CachedPage}
use Rattle.page_cache.specs.declared.cached_page.PageState.TheVariants.{Dirty}
use Rattle.journal_ring.specs.running.Running.{Running}
use Rattle.commit_actor.specs.Actor.{CommitActor}
use Rattle.commit_actor.specs.Journal.{JournalPart}
use Rattle.volume_model.specs.Touched.{Page, Touched}

-- what it touched without what it revoked, what it revoked, and what it changed
abbrev pub noted_in : Touched → Running → Running
noted_in t r = record {
  number = r.number;
  touched = without_all (with_all r.touched t.blocks) t.revoked;
  revoked = with_all r.revoked t.revoked;
  changed = with_all r.changed t.nodes;
  wanted = r.wanted;
}

-- the running transaction notes it, and wants the blocks
abbrev pub noted_part : Touched → JournalPart → JournalPart
noted_part t j = record j {
  flush = record j.flush { conflicts = want (without_all t.blocks t.revoked) j.flush.conflicts };
  running = noted_in t j.running;
}

-- the actor with this spare room and this part of the journal
abbrev pub with_part : CommitActor → ℕ → JournalPart → CommitActor
with_part a spare j = record { made_with = a.made_with; journal = a.journal; blocks = a.blocks; spare = spare; part = j }

-- pages whose blocks are mapped no longer go
abbrev pub dropped_pages : List CachedPage → List Page → List CachedPage
dropped_pages pages [] = pages
dropped_pages pages (d ∷ ds) = dropped_pages (drop_page pages d.birth d.index) ds

-- pages that call n wrote have the bytes of their blocks
abbrev pub written_pages : (ℕ → List ℕ) → ℕ → List CachedPage → List Page → List CachedPage
written_pages bytes n pages [] = pages
written_pages bytes n pages (w ∷ ws) =
    written_pages bytes n (put_page pages (record { birth = w.birth; index = w.index; block = w.zone; body = bytes w.zone; version = n; state = Dirty })) ws

-- transaction k takes the zones of blocks of which no page was there
abbrev pub taken_zones : ℕ → List CachedPage → List ℕ → List Page → List ℕ
taken_zones k pages owners [] = owners
taken_zones k pages owners (w ∷ ws) = taken_zones k pages (if is_none (page_at pages w.birth w.index) then set owners w.zone k else owners) ws
