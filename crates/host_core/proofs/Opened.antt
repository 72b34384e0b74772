-- A host that is made is the machine's, opened.
use Rattle.std.proofs.Common.{◌≡◌, ◌<◌, ◌^◌, ℕ, Bool, true, false, if◌then◌else◌, ◌⊎◌, List, [], ◌∷◌, ◌++◌, length, map, replicate, drop, None, refl, sym, ap, subst, arith, ◌∙◌, inl, inr}
use Rattle.std.proofs.lemmas.List.{length-map, length-replicate}
use Rattle.blk_base.specs.Members.{In}
use Rattle.blk_base.specs.laws.Members.{In-push_cases}
use Rattle.page_cache.specs.Pages.{Cache}
use Rattle.page_cache.specs.declared.cached_page.CachedPage.{CachedPage}
use Rattle.journal_ring.specs.Journal.{JournalRing}
use Rattle.journal_ring.specs.running.Running.{fresh as fresh_transaction}
use Rattle.commit_actor.specs.Actor.{CommitActor, made}
use Rattle.commit_actor.specs.Journal.{Idle}
use Rattle.volume_steps.specs.Now.{VolumeNow}
use Rattle.tree_model.specs.declared.call.Call.{Call}
use Rattle.flush_actor.specs.Waits.{no_wait}
use Rattle.flush_actor.specs.declared.wait.Wait.{Wait}
use Rattle.host_machine.specs.State as machine
use Rattle.host_core.specs.Now.{HostNow, host_made}
use Rattle.host_core.specs.code.Fields.{thread_of, program_of, IsFresh, AreFresh, AreNoted, IsHost, host_of}
use Rattle.host_answers.specs.declared.entry.Entry.{Entry}
use Rattle.host_core.specs.declared.thread.Thread.{Thread}
use Rattle.host_core.specs.declared.known.Known.{Known}
use Rattle.host_core.proofs.KnownKept.{nothing_known}
use Rattle.host_core.proofs.Placed.{none_noted}

abbrev fresh : List Call → machine.Thread Call
fresh p = record { calls = p; begun = None }

pub fresh_threads : (ts : List Thread) → AreFresh ts → map thread_of ts ≡ map fresh (map program_of ts)
fresh_threads [] h = refl
fresh_threads (t ∷ ts) h =
    let own = h t (inl refl) in
    let one : thread_of t ≡ fresh (program_of t) =
    ap (λ n. let x : machine.Thread Call = record { calls = drop n t.program.items; begun = t.begun } in x) own.ended
    ∙ ap (λ b. let x : machine.Thread Call = record { calls = t.program.items; begun = b } in x) own.begun in
    ap (λ x. x ∷ map thread_of ts) one ∙ ap (λ xs. fresh (program_of t) ∷ xs) (fresh_threads ts (λ u i. h u (inr i)))

waits_of : (ts : List Thread) → replicate (length ts) no_wait ≡ map (λ (p : List Call). no_wait) (map program_of ts)
waits_of [] = refl
waits_of (t ∷ ts) = ap (λ (ws : List Wait). no_wait ∷ ws) (waits_of ts)

pub fresh_more : (ts new : List Thread) (t : Thread) → AreFresh ts → new ≡ ts ++ t ∷ [] → IsFresh t → AreFresh new
fresh_more ts new t h e own = subst AreFresh (sym e) (λ u i. by u (In-push_cases ts t u i))
  where
    by : (u : Thread) → In u ts ⊎ (t ≡ u) → IsFresh u
    by u (inl i) = h u i
    by u (inr same) = subst IsFresh same own

pub fresh_pushed : (ts new : List Thread) (t : Thread) (b : Bool) → AreFresh ts → new ≡ (if b then ts ++ t ∷ [] else ts) → t.ended ≡ 0 → t.begun ≡ None → length t.program.items < 2 ^ 32 → AreFresh new
fresh_pushed ts new t true h e ended begun short = fresh_more ts new t h e (record { ended = ended; begun = begun; short = short })
fresh_pushed ts new t false h e ended begun short = subst AreFresh (sym e) h

-- ---- a host that is made

abbrev built : VolumeNow → JournalRing → ℕ → ℕ → List CachedPage → List Wait → List (machine.Thread Call) → List (List Call) → HostNow
built v r zones owners pages waits threads programs = record {
  made_with = r.made_with;
  journal = zones;
  programs = programs;
  host = record {
    journal = record {
      flush = record { requests = []; notes = []; limit = r.limit; taken = []; conflicts = record { held = []; wanted = [] }; waits = waits };
      ring = r.ring;
      running = fresh_transaction 1;
      phase = Idle;
    };
    volume = v;
    pages = pages;
    owners = replicate owners 0;
    history = [];
    cuts = [];
    threads = threads;
  };
}

pub made_done : (j : CommitActor) (v w : VolumeNow) (ps qs : Cache) (owners : List ℕ) (history : List Entry) (cuts : List ℕ) (ts : List Thread) (r : JournalRing) (programs : List (List Call)) (blocks zones callers : ℕ)
    → j ≡ made r blocks blocks callers → v ≡ w → ps ≡ qs → qs.pages ≡ [] → owners ≡ replicate zones 0 → history ≡ [] → cuts ≡ [] → map program_of ts ≡ programs → AreFresh ts
    → blocks ≡ w.geometry.zones → zones ≡ w.geometry.zones → callers ≡ length ts
    → host_of j v ps owners history cuts ts ≡ host_made w qs r programs
made_done j v w ps qs owners history cuts ts r programs blocks zones callers ej ev ep none eo eh ec et fresh_ts eb ez en =
    ap (λ x. host_of x v ps owners history cuts ts) ej
    ∙ ap (λ x. host_of (made r blocks blocks callers) x ps owners history cuts ts) ev
    ∙ ap (λ x. host_of (made r blocks blocks callers) w x owners history cuts ts) ep
    ∙ ap (λ x. host_of (made r blocks blocks callers) w qs x history cuts ts) eo
    ∙ ap (λ x. host_of (made r blocks blocks callers) w qs (replicate zones 0) x cuts ts) eh
    ∙ ap (λ x. host_of (made r blocks blocks callers) w qs (replicate zones 0) [] x ts) ec
    ∙ ap (λ n. built w r n zones qs.pages (replicate callers no_wait) (map thread_of ts) (map program_of ts)) eb
    ∙ ap (λ n. built w r w.geometry.zones n qs.pages (replicate callers no_wait) (map thread_of ts) (map program_of ts)) ez
    ∙ ap (λ x. built w r w.geometry.zones w.geometry.zones x (replicate callers no_wait) (map thread_of ts) (map program_of ts)) none
    ∙ ap (λ x. built w r w.geometry.zones w.geometry.zones [] x (map thread_of ts) (map program_of ts)) (ap (λ n. replicate n no_wait) en ∙ waits_of ts)
    ∙ ap (λ x. built w r w.geometry.zones w.geometry.zones [] (map (λ (p : List Call). no_wait) (map program_of ts)) x (map program_of ts)) (fresh_threads ts fresh_ts)
    ∙ ap (λ x. built w r w.geometry.zones w.geometry.zones [] (map (λ (p : List Call). no_wait) x) (map fresh x) x) et

pub made_is_host : (j : CommitActor) (v w : VolumeNow) (k : Known) (ts : List Thread) (history : List Entry) (r : JournalRing) (programs : List (List Call)) (blocks callers : ℕ)
    → j ≡ made r blocks blocks callers → v ≡ w → blocks ≡ w.geometry.zones → callers ≡ length ts → map program_of ts ≡ programs → length programs < 2 ^ 32 → AreFresh ts → history ≡ [] → k.calls.items ≡ [] → k.to_come ≡ None
    → IsHost j v k ts history
made_is_host j v w k ts history r programs blocks callers ej ev eb ec et few fresh_ts none calls to_come = record {
  blocks = ap (λ (a : CommitActor). a.blocks) ej ∙ eb ∙ ap (λ (x : VolumeNow). x.geometry.zones) (sym ev);
  waits = ap (λ (a : CommitActor). length a.part.flush.waits) ej ∙ length-replicate callers no_wait ∙ ec;
  few = let n = length-map ts program_of in let e : length (map program_of ts) ≡ length programs = ap length et in omega arith;
  within = λ t i. let own = fresh_ts t i in record { ended = let zero : t.ended ≡ 0 = own.ended in omega arith; short = own.short };
  noted = subst (AreNoted ts) (sym none) (none_noted ts (λ t i. (fresh_ts t i).ended));
  known = nothing_known (map program_of ts) v k calls to_come;
}
