-- Numbers and blocks over whole runs.
use Rattle.std.specs.Prelude.{◌≡◌, ◌⊎◌, ◌+◌, ◌≤◌, ℕ, Bool, true, false, IsTrue, List, [], ◌∷◌, ◌++◌, map, length, All, if◌then◌else◌}
use Rattle.std.proofs.Common.{refl, inl, inr, sym, ◌∙◌, ap, subst, arith, append-nil, append_assoc}
use Rattle.std.proofs.lemmas.List.{map-append}
use Rattle.std.proofs.lemmas.List.Elements.{All-nil, All-cons, All-head, All-tail}
use Rattle.svc_values.specs.declared.entry.Ltxid.{Ltxid}
use Rattle.svc_values.specs.declared.entry.Entry.{Entry}
use Rattle.svc_values.specs.declared.frame.Up.{Up}
use Rattle.svc_values.specs.meaning.Identifiers.{is_of}
use Rattle.ltxid_book.specs.meaning.Journal.{Committed, commits_of, is_blocked, next_ltxid, committed_of}
use Rattle.ltxid_book.specs.Journal.{BlocksStand}
use Rattle.ltxid_book.proofs.Offered.{follows_blocks}
use Rattle.mutable_values.specs.Sources.{Opening}
use Rattle.ltxid_book.specs.declared.verdict.Verdict.{Verdict}
use Rattle.ltxid_book.specs.declared.verdict.Verdict.TheVariants as verdict
use Rattle.server_model.specs.meaning.Base.{Base}
use Rattle.server_model.specs.Base.{IsSound}
use Rattle.server_model.specs.Core.{Core, all_entries, all_blocked}
use Rattle.server_model.specs.Sessions.{Sess, ended}
use Rattle.server_model.specs.meaning.Outcomes.{Telling, Says}
use Rattle.server_model.specs.Outcomes.{Outcomes, IsTold, BlockStops, if_blocks, verdict_on}
use Rattle.server_model.specs.Serve.{Serve}
use Rattle.server_model.specs.Runs.{Happened, Server, Turns, Moves, Makes, Answers, Halts, Loses, AnswersAsk, HaltsInAsk, Reaps, Falls, Opens, StopsOpening, Runs, Start, Then, Off, On, Halted, Power, is_running, reopened_core, forgetting, next_session}
use Rattle.server_model.specs.Laws.{Stands, AreNumbered, StaysIn, RunsStand, EntryNumbers, NeverAfterBlock}
use Rattle.server_model.proofs.Counts.{count, count-append, is_of-self, none-yet, AllWithin, AllWithin-wider, AllUpTo, up_to-within, up_to-next}
use Rattle.server_model.proofs.Stays.{serve_stays, outcomes_stay}
use Rattle.server_model.proofs.Steps.{IsNext, serve_step, serve_alive, blocks-IsNext}
use Rattle.server_model.proofs.Numbers.{AllMine, Apart, Numbered, Before, Behind, behind, InPower, in-up_to, mine-at, mine-as, mine-more, mine-without, others-turned, apart-turned, apart-more, apart-without, all-above, entries-same, blocked-same, same_stand, order-same}

within-running : (power : Power) (incarnation most : ℕ) (entries : List Entry) → IsTrue (is_running power) → InPower power incarnation most entries → AllWithin incarnation most entries
within-running Off incarnation most entries running within = let none : ⊥ = cc in absurd none
within-running On incarnation most entries running within = within
within-running Halted incarnation most entries running within = within

running-within : (power : Power) (incarnation most : ℕ) (entries : List Entry) → IsTrue (is_running power) → AllWithin incarnation most entries → InPower power incarnation most entries
running-within Off incarnation most entries running within = let none : ⊥ = cc in absurd none
running-within On incarnation most entries running within = within
running-within Halted incarnation most entries running within = within

-- ---- a session turns

module _ (base : Base) (server after : Server) (old new : Sess) (core : Core) (power : Power) (numbered : Numbered base server) (turns : Turns server after old new core power) where
  before-of : IsTrue (is_running server.power) → Before server.core server.count old
  before-of running = record {
    order = numbered.order;
    stand = numbered.stand;
    within = within-running server.power server.core.opening.incarnation server.count (all_entries server.core) running numbered.within;
    mine = mine-at server.core server.count turns.front turns.back old (subst (AllMine server.core server.count) turns.split numbered.mine);
  }

  turned : IsTrue (is_running power) → StaysIn server.core old core new → Behind server.core server.count old core new → Numbered base after
  turned running stays is_behind =
      let all = subst (AllMine server.core server.count) turns.split numbered.mine in
      let apart = subst Apart turns.split numbered.apart in
      let session : new.ltxid.session ≡ old.ltxid.session = λ i. (stays.session i).session in
      let made : Server = record { power = power; core = core; sessions = turns.front ++ new ∷ turns.back; count = server.count } in
      let numbered_made : Numbered base made = record {
        is = stays.base ∙ numbered.is;
        order = is_behind.order;
        stand = is_behind.stand;
        within = running-within power core.opening.incarnation server.count (all_entries core) running is_behind.within;
        mine = others-turned server.core core server.count turns.front turns.back old new stays.incarnation is_behind.counts apart all is_behind.mine;
        apart = apart-turned turns.front turns.back old new session apart;
      } in
      subst (Numbered base) (sym turns.turned) numbered_made

served : (base : Base) (server after : Server) (old new : Sess) (now : ℕ) (frame : Up) (core : Core) (told : Telling) (power : Power) → Numbered base server → IsTrue (is_running server.power) → IsTrue (is_running power)
    → Serve server.core old now frame core new told → Turns server after old new core power → Numbered base after
served base server after old new now frame core told power numbered running on serve turns =
    let stays = serve_stays server.core old now frame core new told serve in
    turned base server after old new core power numbered turns on stays
    (behind server.core server.count old core new (before-of base server after old new core power numbered turns running) stays (serve_alive server.core old now frame core new told serve) (serve_step server.core old now frame core new told serve))

-- ---- an identifier is asked

blocks-asked : (judged : Verdict) (core : Core) (x : Ltxid) → verdict_on core x ≡ judged → ((if_blocks judged core x).entries ≡ core.entries) × (((if_blocks judged core x).blocked ≡ core.blocked) ⊎ (((if_blocks judged core x).blocked ≡ core.blocked ++ x ∷ []) × IsNext core x))
blocks-asked verdict.BlockIt core x by = (refl, inr (refl, blocks-IsNext core x by))
blocks-asked verdict.AlreadyBlocked core x by = (refl, inl refl)
blocks-asked (verdict.Committed completed) core x by = (refl, inl refl)
blocks-asked (verdict.ServerAhead next) core x by = (refl, inl refl)
blocks-asked (verdict.ClientAhead next) core x by = (refl, inl refl)
blocks-asked (verdict.Forgotten horizon) core x by = (refl, inl refl)

outcomes-asked : (core : Core) (x : Ltxid) (after : Core) (told : Telling) → Outcomes core x after told → (after.entries ≡ core.entries) × ((after.blocked ≡ core.blocked) ⊎ ((after.blocked ≡ core.blocked ++ x ∷ []) × IsNext core x))
outcomes-asked core x _ _ (IsTold judged by) = blocks-asked judged core x by
outcomes-asked core x _ _ (BlockStops after by (inl same)) = (ap (λ (c : Core). c.entries) same, inl (ap (λ (c : Core). c.blocked) same))
outcomes-asked core x _ _ (BlockStops after by (inr same)) = (ap (λ (c : Core). c.entries) same, inr (ap (λ (c : Core). c.blocked) same, blocks-IsNext core x by))

all-same : (core after : Core) (most : ℕ) (sessions : List Sess) → after.opening.incarnation ≡ core.opening.incarnation → all_entries after ≡ all_entries core → AllMine core most sessions → AllMine after most sessions
all-same core after most [] same entries mine = tt
all-same core after most (sess ∷ sessions) same entries mine =
    (mine-as core after most sess same (ap (λ (e : List Entry). count (map committed_of e) sess.ltxid.incarnation sess.ltxid.session) entries) mine.0, all-same core after most sessions same entries mine.1)

stand-asked : (core : Core) (x : Ltxid) (after : Core) → after.base ≡ core.base → all_entries after ≡ all_entries core → (after.blocked ≡ core.blocked) ⊎ ((after.blocked ≡ core.blocked ++ x ∷ []) × IsNext core x) → Stands core → Stands after
stand-asked core x after base entries (inl same) stand = same_stand core after entries (blocked-same core after base same) stand
stand-asked core x after base entries (inr (more, next)) stand =
    let all : all_blocked after ≡ all_blocked core ++ x ∷ [] = (λ i. (base i).blocked ++ more i) ∙ sym (append_assoc core.base.blocked core.blocked (x ∷ [])) in
    let stands : BlocksStand (map committed_of (all_entries core)) (all_blocked core ++ x ∷ []) = (follows_blocks core.horizon (map committed_of (all_entries core)) (all_blocked core) x stand next).1 in
    subst (λ (e : List Entry). BlocksStand (map committed_of e) (all_blocked after)) (sym entries) (subst (λ (b : List Ltxid). BlocksStand (map committed_of (all_entries core)) b) (sym all) stands)

asked : (base : Base) (server : Server) (x : Ltxid) (core : Core) (told : Telling) (power : Power) → Numbered base server → IsTrue (is_running server.power) → IsTrue (is_running power) → Outcomes server.core x core told → Numbered base (record server { power = power; core = core })
asked base server x core told power numbered running on asks =
    let stay = outcomes_stay server.core x core told asks in
    let step = outcomes-asked server.core x core told asks in
    let entries = entries-same server.core core stay.0 step.0 in
    let incarnation : core.opening.incarnation ≡ server.core.opening.incarnation = ap (λ (o : Opening). o.incarnation) stay.1 in
    record {
      is = stay.0 ∙ numbered.is;
      order = order-same server.core core stay.0 step.0 numbered.order;
      stand = stand-asked server.core x core stay.0 entries step.1 numbered.stand;
      within = running-within power core.opening.incarnation server.count (all_entries core) on
          (subst (λ n. AllWithin n server.count (all_entries core)) (sym incarnation) (subst (AllWithin server.core.opening.incarnation server.count) (sym entries)
          (within-running server.power server.core.opening.incarnation server.count (all_entries server.core) running numbered.within)));
      mine = all-same server.core core server.count server.sessions incarnation entries numbered.mine;
      apart = numbered.apart;
    }

-- ---- each move

on-running : (power : Power) → power ≡ On → IsTrue (is_running power)
on-running power on = ap is_running on

halted-running : (power : Power) → power ≡ Halted → IsTrue (is_running power)
halted-running power halted = ap is_running halted

lost : (base : Base) (server after : Server) (old : Sess) → Numbered base server → server.power ≡ Halted → Turns server after old (ended old) server.core Halted → Numbered base after
lost base server after old numbered halted turns =
    let before = before-of base server after old (ended old) server.core Halted numbered turns (halted-running server.power halted) in
    turned base server after old (ended old) server.core Halted numbered turns refl (record { base = refl; incarnation = refl; session = refl; horizon = refl })
    (record {
      order = before.order;
      stand = before.stand;
      within = before.within;
      mine = record { incarnation = before.mine.incarnation; within = before.mine.within; number = λ alive. absurd (alive refl) };
      counts = λ incarnation other apart. refl;
    })

next_within : (n : ℕ) → n ≤ n
next_within n = omega arith

makes : (base : Base) (server : Server) → Numbered base server → server.power ≡ On → Numbered base (record server { sessions = server.sessions ++ next_session server ∷ []; count = server.count + 1 })
makes base server numbered on =
    let within = within-running server.power server.core.opening.incarnation server.count (all_entries server.core) (on-running server.power on) numbered.within in
    record {
      is = numbered.is;
      order = numbered.order;
      stand = numbered.stand;
      within = running-within server.power server.core.opening.incarnation (server.count + 1) (all_entries server.core) (on-running server.power on) (AllWithin-wider server.core.opening.incarnation server.count (all_entries server.core) within);
      mine = mine-more server.core server.count server.sessions (next_session server) numbered.mine
          (record { incarnation = refl; within = next_within (server.count + 1); number = λ alive. sym (none-yet server.core.opening.incarnation server.count (all_entries server.core) within) });
      apart = apart-more server.sessions (next_session server) numbered.apart (all-above server.core server.count server.sessions numbered.mine);
    }

down : (base : Base) (server : Server) (core : Core) → Numbered base server → core.base ≡ server.core.base → core.entries ≡ server.core.entries → core.blocked ≡ server.core.blocked → AllUpTo core.opening.incarnation (all_entries core) → Numbered base (record { power = Off; core = core; sessions = []; count = 0 })
down base server core numbered same entries blocked up_to = record {
  is = same ∙ numbered.is;
  order = order-same server.core core same entries numbered.order;
  stand = same_stand server.core core (entries-same server.core core same entries) (blocked-same server.core core same blocked) numbered.stand;
  within = up_to;
  mine = tt;
  apart = tt;
}

off-up_to : (server : Server) → server.power ≡ Off → InPower server.power server.core.opening.incarnation server.count (all_entries server.core) → AllUpTo server.core.opening.incarnation (all_entries server.core)
off-up_to server off within = in-up_to server.power server.core.opening.incarnation server.count (all_entries server.core) within

pub moves_number : (base : Base) (server after : Server) (more : List Happened) → Numbered base server → Moves server more after → Numbered base after
moves_number base server _ _ numbered (Makes on) = makes base server numbered on
moves_number base server _ _ numbered (Answers old new now frame core told after on serve answered turns) = served base server after old new now frame core told On numbered (on-running server.power on) refl serve turns
moves_number base server _ _ numbered (Halts old new now frame core told after running serve turns) = served base server after old new now frame core told Halted numbered running refl serve turns
moves_number base server _ _ numbered (Loses old now frame after halted turns) = lost base server after old numbered halted turns
moves_number base server _ _ numbered (AnswersAsk x core frame on asks) = asked base server x core (Says frame) server.power numbered (on-running server.power on) (on-running server.power on) asks
moves_number base server _ _ numbered (HaltsInAsk x core told running asks) = asked base server x core told Halted numbered running refl asks
moves_number base server _ _ numbered (Reaps front back sess split) = record {
  is = numbered.is;
  order = numbered.order;
  stand = numbered.stand;
  within = numbered.within;
  mine = mine-without server.core server.count front back sess (subst (AllMine server.core server.count) split numbered.mine);
  apart = apart-without front back sess (subst Apart split numbered.apart);
}
moves_number base server _ _ numbered Falls = down base server server.core numbered refl refl refl (in-up_to server.power server.core.opening.incarnation server.count (all_entries server.core) numbered.within)
moves_number base server _ _ numbered (Opens below off may) = record {
  is = numbered.is;
  order = numbered.order;
  stand = numbered.stand;
  within = up_to-within server.core.opening.incarnation 0 (all_entries server.core) (off-up_to server off numbered.within);
  mine = tt;
  apart = tt;
}
moves_number base server _ _ numbered (StopsOpening below core off may (inl same)) =
    subst (λ (c : Core). Numbered base (record { power = Off; core = c; sessions = []; count = 0 })) (sym same) (down base server server.core numbered refl refl refl (off-up_to server off numbered.within))
moves_number base server _ _ numbered (StopsOpening below core off may (inr (inl same))) =
    subst (λ (c : Core). Numbered base (record { power = Off; core = c; sessions = []; count = 0 })) (sym same)
    (down base server (forgetting server.core below) numbered refl refl refl (off-up_to server off numbered.within))
moves_number base server _ _ numbered (StopsOpening below core off may (inr (inr same))) =
    subst (λ (c : Core). Numbered base (record { power = Off; core = c; sessions = []; count = 0 })) (sym same)
    (down base server (reopened_core (forgetting server.core below)) numbered refl refl refl (up_to-next server.core.opening.incarnation (all_entries server.core) (off-up_to server off numbered.within)))

earlier : (incarnation : ℕ) (entries : List Entry) → All (λ entry. entry.ltxid.incarnation ≤ incarnation) entries → AllUpTo incarnation entries
earlier incarnation [] all = tt
earlier incarnation (entry ∷ entries) all =
    (All-head (λ (e : Entry). e.ltxid.incarnation ≤ incarnation) entry entries all, earlier incarnation entries (All-tail (λ (e : Entry). e.ltxid.incarnation ≤ incarnation) entry entries all))

pub runs_number : (base : Base) (history : List Happened) (server : Server) → IsSound base → Runs base history server → Numbered base server
runs_number base _ _ sound Start = record {
  is = refl;
  order = tt;
  stand = subst (λ (e : List Entry). BlocksStand (map committed_of e) (base.blocked ++ [])) (sym (append-nil base.entries)) (subst (λ (b : List Ltxid). BlocksStand (map committed_of base.entries) b) (sym (append-nil base.blocked)) sound.standing);
  within = subst (AllUpTo base.incarnation) (sym (append-nil base.entries)) (earlier base.incarnation base.entries sound.earlier);
  mine = tt;
  apart = tt;
}
runs_number base _ _ sound (Then history more server after runs moves) = moves_number base server after more (runs_number base history server sound runs) moves

pub runs_stand : RunsStand
runs_stand base history server sound runs = (runs_number base history server sound runs).stand

pub entry_numbers : EntryNumbers
entry_numbers base history server sound runs =
    let numbered = runs_number base history server sound runs in
    subst (λ (b : Base). AreNumbered b.entries server.core.entries) numbered.is numbered.order

-- ---- no entry is blocked

first-own : (c : Committed) (commits : List Committed) (incarnation session : ℕ) → is_of c.ltxid incarnation session ≡ true → count (c ∷ commits) incarnation session ≡ count commits incarnation session + 1
first-own c commits incarnation session own = ap (λ b. length (if b then c ∷ commits_of commits incarnation session else commits_of commits incarnation session)) own ∙ (let e : length (c ∷ commits_of commits incarnation session) ≡ count commits incarnation session + 1 = omega arith in e)

no_more : (n k : ℕ) → n ≡ n + (k + 1) → ⊥
no_more n k same = let none : ⊥ = omega arith in none

-- an entry counts for its own session, so its number is below that of the session
not-next : (all before entries : List Entry) (first : Entry) → all ≡ before ++ first ∷ entries → first.ltxid ≡ next_ltxid (map committed_of before) first.ltxid.incarnation first.ltxid.session
    → first.ltxid.number ≡ count (map committed_of all) first.ltxid.incarnation first.ltxid.session → ⊥
not-next all before entries first split order next =
    let i = first.ltxid.incarnation in
    let s = first.ltxid.session in
    let number : first.ltxid.number ≡ count (map committed_of before) i s = ap (λ (x : Ltxid). x.number) order in
    let parts : count (map committed_of all) i s ≡ count (map committed_of before) i s + (count (map committed_of entries) i s + 1) =
    ap (λ e. count (map committed_of e) i s) split ∙ ap (λ c. count c i s) (map-append committed_of before (first ∷ entries)) ∙ count-append (map committed_of before) (map committed_of (first ∷ entries)) i s
    ∙ ap (λ n. count (map committed_of before) i s + n) (first-own (committed_of first) (map committed_of entries) i s (is_of-self first.ltxid)) in
    no_more (count (map committed_of before) i s) (count (map committed_of entries) i s) (sym number ∙ next ∙ parts)

not_blocked : (b : Bool) → (b ≡ true → ⊥) → b ≡ false
not_blocked true never = absurd (never refl)
not_blocked false never = refl

never-from : (all : List Entry) (blocks : List Ltxid) → BlocksStand (map committed_of all) blocks → (before entries : List Entry) → all ≡ before ++ entries → AreNumbered before entries → All (λ entry. is_blocked blocks entry.ltxid ≡ false) entries
never-from all blocks stand before [] split order = All-nil (λ entry. is_blocked blocks entry.ltxid ≡ false)
never-from all blocks stand before (first ∷ entries) split order =
    All-cons (λ (entry : Entry). is_blocked blocks entry.ltxid ≡ false) first entries
    (not_blocked (is_blocked blocks first.ltxid) (λ is. not-next all before entries first split order.0 (stand first.ltxid is)))
    (never-from all blocks stand (before ++ first ∷ []) entries (split ∙ sym (append_assoc before (first ∷ []) entries)) order.1)

pub never_after_block : NeverAfterBlock
never_after_block base history server sound runs =
    let numbered = runs_number base history server sound runs in
    never-from (all_entries server.core) (all_blocked server.core) numbered.stand server.core.base.entries server.core.entries refl numbered.order
