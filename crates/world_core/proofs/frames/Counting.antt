-- How many entries a session has behind a frame.
use Rattle.std.proofs.Common.{◌≡◌, ℕ, suc, ◌+◌, Bool, true, false, List, [], ◌∷◌, ◌++◌, Option, Some, None, refl, sym, ap, ◌∙◌, subst, arith, inl, inr}
use Rattle.std.specs.Prelude.{◌||◌, All, cond, drop, nat_lt, if◌then◌else◌}
use Rattle.std.specs.List.{list_all}
use Rattle.std.proofs.lemmas.Bool.{lt-leb}
use Rattle.std.proofs.lemmas.List.{append-nil, append_cancel_left}
use Rattle.std.proofs.lemmas.List.Elements.{All-nil, All-cons, All-head, All-contains}
use Rattle.std.proofs.lemmas.List.Sums.{sum_by-cons}
use Rattle.svc_values.specs.declared.entry.Entry.{Entry}
use Rattle.svc_values.specs.declared.entry.SessionId.{SessionId}
use Rattle.svc_values.specs.declared.frame.Up.{Up}
use Rattle.svc_values.specs.declared.frame.Up.TheVariants as up
use Rattle.svc_values.specs.declared.frame.Down.{Down}
use Rattle.svc_values.specs.declared.frame.Down.TheVariants as down
use Rattle.svc_values.specs.meaning.Endings.{ends_committed}
use Rattle.svc_values.specs.meaning.Identifiers.{same_session, session_of}
use Rattle.svc_values.specs.Laws.{AreExact}
use Rattle.server_model.specs.Laws.{CommitsAs}
use Rattle.server_model.specs.meaning.Outcomes.{telling_of}
use Rattle.server_model.specs.Runs.{Happened, Served}
use Rattle.server_model.specs.Seen.{Seen}
use Rattle.server_model.specs.ServiceCalls.{CameFrom, IsOf}
use Rattle.world_model.specs.records.Basic.{is_made}
use Rattle.world_model.specs.Coupled.{HasStored, entries_in, Coupled}
use Rattle.world_model.specs.meaning.Links.{Link, link_at}
use Rattle.world_model.specs.meaning.Machines.{next_session}
use Rattle.world_model.specs.records.Number.{is_known, is_of_run, known_so_far}
use Rattle.world_model.specs.Traced.{Traced}
use Rattle.world_core.proofs.frames.InOrder.{ServedWith, commits_in}
use Rattle.world_core.proofs.frames.Recorded.{has_so}
use Rattle.world_core.proofs.frames.Storing.{AreOf, both, came_of, counts, one_of, sessions_differ, unmade, none_more}
use Rattle.world_core.proofs.frames.Written.{Which}

clash : (b : Bool) → b ≡ true → b ≡ false → ⊥
clash true is not_it = let nothing : ⊥ = cc in nothing
clash false is not_it = let nothing : ⊥ = cc in nothing

-- NOTHING COMMITTED -------------------------------------------------------------------------------

-- an answer that commits nothing stores no entry
stores_none : (session : SessionId) (now : ℕ) (frame : Up) (reply : Option Down) (entry : Entry) → commits_in reply ≡ false → CommitsAs entry (Served session now frame (telling_of reply)) → ⊥
stores_none session now (up.Call replay kept called) (Some (down.Reply answers draws x)) entry uncommitted commits = clash (ends_committed answers) commits.2 uncommitted
stores_none session now (up.Call replay kept called) None entry uncommitted commits = commits
stores_none session now (up.Call replay kept called) (Some (down.Hello x)) entry uncommitted commits = commits
stores_none session now (up.Call replay kept called) (Some (down.OutcomeIs committed completed)) entry uncommitted commits = commits
stores_none session now (up.Call replay kept called) (Some (down.OutcomeRefused ahead next)) entry uncommitted commits = commits
stores_none session now (up.Call replay kept called) (Some down.Blocked) entry uncommitted commits = commits
stores_none session now (up.Call replay kept called) (Some (down.Refused cause)) entry uncommitted commits = commits
stores_none session now up.Connect reply entry uncommitted commits = commits
stores_none session now (up.Begin settings) reply entry uncommitted commits = commits
stores_none session now (up.Outcome x) reply entry uncommitted commits = commits
stores_none session now up.End reply entry uncommitted commits = commits
stores_none session now up.Close reply entry uncommitted commits = commits

came_none : (one : Happened) (more : List Entry) → ((entry : Entry) → CommitsAs entry one → ⊥) → All (CameFrom (one ∷ [])) more → more ≡ []
came_none one [] never came = refl
came_none one (entry ∷ more) never came =
    let from = All-head (CameFrom (one ∷ [])) entry more came in
    let is : from.0 ≡ one = All-contains (λ (h : Happened). h ≡ one) (one ∷ []) from.0 (All-cons (λ (h : Happened). h ≡ one) one [] refl (All-nil (λ (h : Happened). h ≡ one))) from.1.0 in
    absurd (never entry (subst (λ (h : Happened). CommitsAs entry h) is from.1.1))

-- THE NEXT SESSION --------------------------------------------------------------------------------

neither : (a b : Bool) → a ≡ false → b ≡ false → (a || b) ≡ false
neither a b p q = rw (p, q) refl

unknown : (t : Traced) → is_known t (next_session t.machine.server) ≡ false
unknown t =
    let incarnation = t.machine.server.incarnation in
    neither (nat_lt incarnation incarnation) (is_made t (next_session t.machine.server)) (lt-leb (suc incarnation) incarnation (omega arith)) (unmade t)

-- it has no entry yet
none_yet : AreExact → (t : Traced) (entries : List Entry) → list_all (λ entry. is_known t (session_of entry.ltxid)) entries ≡ true → entries_in entries (next_session t.machine.server) ≡ 0
none_yet exact t [] all = refl
none_yet exact t (entry ∷ entries) all =
    let session = next_session t.machine.server in
    let parts = both (is_known t (session_of entry.ltxid)) (list_all (λ one. is_known t (session_of one.ltxid)) entries) all in
    let apart : same_session (session_of entry.ltxid) session ≡ false =
    sessions_differ exact (session_of entry.ltxid) session (λ same. clash (is_known t session) (subst (λ (s : SessionId). is_known t s ≡ true) same parts.0) (unknown t)) in
    let none : counts session entry ≡ 0 = ap (λ b. cond b 1 0) apart in
    sum_by-cons (counts session) entry entries ∙ ap (λ (n : ℕ). n + entries_in entries session) none ∙ ap (λ (n : ℕ). 0 + n) (none_yet exact t entries parts.1)

has_none : (entries : List Entry) (link : Link) (living : Bool) → living ≡ true → link.session ≡ None → HasStored entries (if living then Some link.session else None) link.commits → link.commits ≡ 0
has_none entries link false lives unnamed has = absurd (let nothing : ⊥ = cc in nothing)
has_none entries link true lives unnamed has = subst (λ (known : Option SessionId). HasStored entries (Some known) link.commits) unnamed has

-- BEHIND A FRAME ----------------------------------------------------------------------------------

module _ (exact : AreExact) (seen : Seen) (t : Traced) (number : ℕ) (link : Link) (session : SessionId) (sessions : ℕ) (coupled : Coupled seen t) (there : link_at t.machine.links number ≡ Some link) (lives : link.is_living ≡ true) (known : known_so_far t ≡ true) where
  before : Which t.machine.server link.session session sessions → entries_in seen.state.store.entries session ≡ link.commits
  before (inl (named, same)) = has_so seen.state.store.entries link session lives named (coupled.stored number link there)
  before (inr (unnamed, (next, more))) =
      ap (λ s. entries_in seen.state.store.entries s) next
      ∙ ap (λ e. entries_in e (next_session t.machine.server)) (sym coupled.entries)
      ∙ none_yet exact t t.entries (both (list_all (λ entry. is_known t (session_of entry.ltxid)) t.entries) (list_all (is_of_run t) (drop t.image t.entries)) known).0
      ∙ sym (has_none seen.state.store.entries link link.is_living lives unnamed (coupled.stored number link there))

  -- it has as many as it answered commits, this one included
  pub counted_behind : (new : Seen) (now : ℕ) (frame : Up) (reply : Option Down) → Which t.machine.server link.session session sessions → (did : ServedWith seen number now frame reply new) → did.session ≡ session
      → (commits_in reply ≡ true → (entry : Entry) × (new.state.store.entries ≡ seen.state.store.entries ++ entry ∷ [])) → entries_in new.state.store.entries session ≡ link.commits + cond (commits_in reply) 1 0
  counted_behind new now frame reply which did same stored = by (commits_in reply) refl
    where
      by : (commits : Bool) → commits_in reply ≡ commits → entries_in new.state.store.entries session ≡ link.commits + cond commits 1 0
      by true is =
          let gains = did.adds.gains in
          let one = stored is in
          let more : one.0 ∷ [] ≡ gains.more_entries = append_cancel_left seen.state.store.entries (one.0 ∷ []) gains.more_entries (sym one.1 ∙ gains.entries) in
          let happened = Served did.session now frame (telling_of reply) ∷ [] in
          let are : AreOf did.session gains.more_entries = came_of did.session happened gains.more_entries (All-cons (IsOf did.session) (Served did.session now frame (telling_of reply)) [] refl (All-nil (IsOf did.session))) gains.own in
          let own : did.session ≡ session_of one.0.ltxid = (subst (AreOf did.session) (sym more) are).0 in
          ap (λ e. entries_in e session) one.1 ∙ one_of exact session seen.state.store.entries one.0 (sym same ∙ own) ∙ ap (λ (n : ℕ). n + 1) (before which)
      by false is =
          let gains = did.adds.gains in
          let none : gains.more_entries ≡ [] = came_none (Served did.session now frame (telling_of reply)) gains.more_entries (λ entry commits. stores_none did.session now frame reply entry is commits) gains.own in
          ap (λ e. entries_in e session) (gains.entries ∙ ap (λ more. seen.state.store.entries ++ more) none ∙ append-nil seen.state.store.entries) ∙ before which ∙ sym (none_more link.commits)
