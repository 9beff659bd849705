-- In a run each session's identifier is its next one, entries are numbered in order, and blocks
-- stand.
use Rattle.std.specs.Prelude.{◌≡◌, ◌⊎◌, ◌+◌, ◌==◌, ◌≤◌, ℕ, false, List, [], ◌∷◌, ◌++◌, map}
use Rattle.std.proofs.Common.{inl, inr, sym, ◌∙◌, ap, subst, arith, append_assoc}
use Rattle.std.proofs.lemmas.Bool.Decides.{nat_tests}
use Rattle.svc_values.specs.declared.entry.Ltxid.{Ltxid}
use Rattle.svc_values.specs.declared.entry.Entry.{Entry}
use Rattle.ltxid_book.specs.meaning.Journal.{Committed, state_of, committed_of}
use Rattle.ltxid_book.specs.Journal.{BlocksStand}
use Rattle.svc_values.specs.meaning.Identifiers.{is_of, session_of, ltxid_of}
use Rattle.ltxid_book.proofs.Offered.{May, commit_stands, follows_blocks}
use Rattle.server_model.specs.meaning.Base.{Base}
use Rattle.server_model.specs.Core.{Core, all_entries, all_blocked}
use Rattle.server_model.specs.Sessions.{Ended, Sess}
use Rattle.svc_values.specs.declared.entry.SessionId.{SessionId}
use Rattle.server_model.specs.Runs.{Server, Off, On, Halted, Power}
use Rattle.server_model.specs.Laws.{Stands, AreNumbered, StaysIn}
use Rattle.server_model.proofs.Counts.{count, count-other, count-own, is_of-self, is_of-other, may-commit, AreNumbered-more, commits-more, Within, Among, AllWithin, AllWithin-more, AllUpTo, within-up_to}
use Rattle.server_model.proofs.Steps.{Steps, Keeps, BlocksOne, StoresOne}

commits_in : Core → List Committed
commits_in core = map committed_of (all_entries core)

number_in : Core → Ltxid → ℕ
number_in core x = count (map committed_of (all_entries core)) x.incarnation x.session

-- ---- sessions

-- a session of this opening, of the first so many; while it lives its identifier is its next one
pub record Mine (core : Core) (most : ℕ) (sess : Sess) : Type 0 where
  pub incarnation : sess.ltxid.incarnation ≡ core.opening.incarnation
  pub within : sess.ltxid.session ≤ most
  pub number : (sess.life ≡ Ended → ⊥) → sess.ltxid.number ≡ count (map committed_of (all_entries core)) sess.ltxid.incarnation sess.ltxid.session

abbrev pub AllMine : Core → ℕ → List Sess → Type 0
AllMine core most [] = Unit {0}
AllMine core most (sess ∷ sessions) = Mine core most sess × AllMine core most sessions

-- none of the sessions has this number
abbrev pub AllOther : ℕ → List Sess → Type 0
AllOther session [] = Unit {0}
AllOther session (sess ∷ sessions) = ((sess.ltxid.session == session) ≡ false) × AllOther session sessions

-- no two have one number
abbrev pub Apart : List Sess → Type 0
Apart [] = Unit {0}
Apart (sess ∷ sessions) = AllOther sess.ltxid.session sessions × Apart sessions

flip : (m n : ℕ) → (m == n) ≡ false → (n == m) ≡ false
flip m n other = grind (arith, nat_tests)

pub mine-at : (core : Core) (most : ℕ) (front back : List Sess) (sess : Sess) → AllMine core most (front ++ sess ∷ back) → Mine core most sess
mine-at core most [] back sess mine = mine.0
mine-at core most (first ∷ front) back sess mine = mine-at core most front back sess mine.1

other-at : (session : ℕ) (front back : List Sess) (sess : Sess) → AllOther session (front ++ sess ∷ back) → (sess.ltxid.session == session) ≡ false
other-at session [] back sess other = other.0
other-at session (first ∷ front) back sess other = other-at session front back sess other.1

other-turned : (session : ℕ) (front back : List Sess) (old new : Sess) → new.ltxid.session ≡ old.ltxid.session → AllOther session (front ++ old ∷ back) → AllOther session (front ++ new ∷ back)
other-turned session [] back old new same other = (ap (λ n. n == session) same ∙ other.0, other.1)
other-turned session (first ∷ front) back old new same other = (other.0, other-turned session front back old new same other.1)

pub apart-turned : (front back : List Sess) (old new : Sess) → new.ltxid.session ≡ old.ltxid.session → Apart (front ++ old ∷ back) → Apart (front ++ new ∷ back)
apart-turned [] back old new same apart = (subst (λ n. AllOther n back) (sym same) apart.0, apart.1)
apart-turned (first ∷ front) back old new same apart = (other-turned first.ltxid.session front back old new same apart.0, apart-turned front back old new same apart.1)

other-without : (session : ℕ) (front back : List Sess) (old : Sess) → AllOther session (front ++ old ∷ back) → AllOther session (front ++ back)
other-without session [] back old other = other.1
other-without session (first ∷ front) back old other = (other.0, other-without session front back old other.1)

pub apart-without : (front back : List Sess) (old : Sess) → Apart (front ++ old ∷ back) → Apart (front ++ back)
apart-without [] back old apart = apart.1
apart-without (first ∷ front) back old apart = (other-without first.ltxid.session front back old apart.0, apart-without front back old apart.1)

pub mine-without : (core : Core) (most : ℕ) (front back : List Sess) (old : Sess) → AllMine core most (front ++ old ∷ back) → AllMine core most (front ++ back)
mine-without core most [] back old mine = mine.1
mine-without core most (first ∷ front) back old mine = (mine.0, mine-without core most front back old mine.1)

-- the next session has none of the numbers
above : (m most : ℕ) → m ≤ most → (m == most + 1) ≡ false
above m most within = grind (arith, nat_tests)

pub all-above : (core : Core) (most : ℕ) (sessions : List Sess) → AllMine core most sessions → AllOther (most + 1) sessions
all-above core most [] mine = tt
all-above core most (sess ∷ sessions) mine = (above sess.ltxid.session most mine.0.within, all-above core most sessions mine.1)

other-more : (session : ℕ) (sessions : List Sess) (new : Sess) → AllOther session sessions → (new.ltxid.session == session) ≡ false → AllOther session (sessions ++ new ∷ [])
other-more session [] new other here = (here, tt)
other-more session (first ∷ sessions) new other here = (other.0, other-more session sessions new other.1 here)

pub apart-more : (sessions : List Sess) (new : Sess) → Apart sessions → AllOther new.ltxid.session sessions → Apart (sessions ++ new ∷ [])
apart-more [] new apart other = (tt, tt)
apart-more (first ∷ sessions) new apart other = (other-more first.ltxid.session sessions new apart.0 (flip first.ltxid.session new.ltxid.session other.0), apart-more sessions new apart.1 other.1)

pub mine-more : (core : Core) (most : ℕ) (sessions : List Sess) (new : Sess) → AllMine core most sessions → Mine core (most + 1) new → AllMine core (most + 1) (sessions ++ new ∷ [])
mine-more core most [] new mine here = (here, tt)
mine-more core most (first ∷ sessions) new mine here = (record { incarnation = mine.0.incarnation; within = wider mine.0.within; number = mine.0.number }, mine-more core most sessions new mine.1 here)
  where
    wider : first.ltxid.session ≤ most → first.ltxid.session ≤ most + 1
    wider within = omega arith

-- ---- another core

-- what a session needs of a core: the opening, and how often it committed
pub mine-as : (core after : Core) (most : ℕ) (sess : Sess) → after.opening.incarnation ≡ core.opening.incarnation
    → count (map committed_of (all_entries after)) sess.ltxid.incarnation sess.ltxid.session ≡ count (map committed_of (all_entries core)) sess.ltxid.incarnation sess.ltxid.session → Mine core most sess → Mine after most sess
mine-as core after most sess same counts mine = record { incarnation = mine.incarnation ∙ sym same; within = mine.within; number = λ lives. mine.number lives ∙ sym counts }

-- where only the commits of one session may count otherwise, the others stay
all-as : (core after : Core) (most session : ℕ) (sessions : List Sess) → after.opening.incarnation ≡ core.opening.incarnation
    → ((incarnation other : ℕ) → (other == session) ≡ false → count (map committed_of (all_entries after)) incarnation other ≡ count (map committed_of (all_entries core)) incarnation other)
    → AllOther session sessions → AllMine core most sessions → AllMine after most sessions
all-as core after most session [] same counts other mine = tt
all-as core after most session (sess ∷ sessions) same counts other mine =
    (mine-as core after most sess same (counts sess.ltxid.incarnation sess.ltxid.session other.0) mine.0, all-as core after most session sessions same counts other.1 mine.1)

pub others-turned : (core after : Core) (most : ℕ) (front back : List Sess) (old new : Sess) → after.opening.incarnation ≡ core.opening.incarnation
    → ((incarnation other : ℕ) → (other == old.ltxid.session) ≡ false → count (map committed_of (all_entries after)) incarnation other ≡ count (map committed_of (all_entries core)) incarnation other)
    → Apart (front ++ old ∷ back) → AllMine core most (front ++ old ∷ back) → Mine after most new → AllMine after most (front ++ new ∷ back)
others-turned core after most [] back old new same counts apart mine here = (here, all-as core after most old.ltxid.session back same counts apart.0 mine.1)
others-turned core after most (first ∷ front) back old new same counts apart mine here = (
  mine-as core after most first same (counts first.ltxid.incarnation first.ltxid.session (flip old.ltxid.session first.ltxid.session (other-at first.ltxid.session front back old apart.0))) mine.0,
  others-turned core after most front back old new same counts apart.1 mine.1 here,
)

-- ---- what holds at each moment

abbrev pub InPower : Power → ℕ → ℕ → List Entry → Type 0
InPower Off incarnation most entries = AllUpTo incarnation entries
InPower On incarnation most entries = AllWithin incarnation most entries
InPower Halted incarnation most entries = AllWithin incarnation most entries

pub in-up_to : (power : Power) (incarnation most : ℕ) (entries : List Entry) → InPower power incarnation most entries → AllUpTo incarnation entries
in-up_to Off incarnation most entries within = within
in-up_to On incarnation most entries within = within-up_to incarnation most entries within
in-up_to Halted incarnation most entries within = within-up_to incarnation most entries within

pub record Numbered (base : Base) (server : Server) : Type 0 where
  pub is : server.core.base ≡ base
  pub order : AreNumbered server.core.base.entries server.core.entries
  pub stand : Stands server.core
  pub within : InPower server.power server.core.opening.incarnation server.count (all_entries server.core)
  pub mine : AllMine server.core server.count server.sessions
  pub apart : Apart server.sessions

-- ---- one frame

-- what is known of the core before, with the power that the server had or has
pub record Before (core : Core) (most : ℕ) (sess : Sess) : Type 0 where
  pub order : AreNumbered core.base.entries core.entries
  pub stand : Stands core
  pub within : AllWithin core.opening.incarnation most (all_entries core)
  pub mine : Mine core most sess

pub record Behind (core : Core) (most : ℕ) (sess : Sess) (after : Core) (t : Sess) : Type 0 where
  pub order : AreNumbered after.base.entries after.entries
  pub stand : Stands after
  pub within : AllWithin after.opening.incarnation most (all_entries after)
  pub mine : Mine after most t
  pub counts : (incarnation other : ℕ) → (other == sess.ltxid.session) ≡ false → count (map committed_of (all_entries after)) incarnation other ≡ count (map committed_of (all_entries core)) incarnation other

pub entries-same : (core after : Core) → after.base ≡ core.base → after.entries ≡ core.entries → all_entries after ≡ all_entries core
entries-same core after base entries = λ i. (base i).entries ++ entries i

pub blocked-same : (core after : Core) → after.base ≡ core.base → after.blocked ≡ core.blocked → all_blocked after ≡ all_blocked core
blocked-same core after base blocked = λ i. (base i).blocked ++ blocked i

pub same_stand : (core after : Core) → all_entries after ≡ all_entries core → all_blocked after ≡ all_blocked core → Stands core → Stands after
same_stand core after entries blocked stand = subst (λ (e : List Entry). BlocksStand (map committed_of e) (all_blocked after)) (sym entries) (subst (λ (b : List Ltxid). BlocksStand (map committed_of (all_entries core)) b) (sym blocked) stand)

pub order-same : (core after : Core) → after.base ≡ core.base → after.entries ≡ core.entries → AreNumbered core.base.entries core.entries → AreNumbered after.base.entries after.entries
order-same core after base entries order = subst (λ (e : List Entry). AreNumbered after.base.entries e) (sym entries) (subst (λ (b : Base). AreNumbered b.entries core.entries) (sym base) order)

within-same : (core after : Core) (most : ℕ) → after.opening.incarnation ≡ core.opening.incarnation → all_entries after ≡ all_entries core → AllWithin core.opening.incarnation most (all_entries core) → AllWithin after.opening.incarnation most (all_entries after)
within-same core after most same entries within = subst (λ n. AllWithin n most (all_entries after)) (sym same) (subst (AllWithin core.opening.incarnation most) (sym entries) within)

module _ (core : Core) (most : ℕ) (sess : Sess) (after : Core) (t : Sess) (before : Before core most sess) (stays : StaysIn core sess after t) (lives : sess.life ≡ Ended → ⊥) where
  session-same : t.ltxid.session ≡ sess.ltxid.session
  session-same = ap (λ (s : SessionId). s.session) stays.session

  incarnation-same : t.ltxid.incarnation ≡ sess.ltxid.incarnation
  incarnation-same = ap (λ (s : SessionId). s.incarnation) stays.session

  number-of : sess.ltxid.number ≡ count (map committed_of (all_entries core)) sess.ltxid.incarnation sess.ltxid.session
  number-of = before.mine.number lives

  -- the same entries
  mine-kept : all_entries after ≡ all_entries core → t.ltxid ≡ sess.ltxid → Mine after most t
  mine-kept entries same = record {
    incarnation = incarnation-same ∙ before.mine.incarnation ∙ sym stays.incarnation;
    within = subst (λ n. n ≤ most) (sym session-same) before.mine.within;
    number = λ alive. ap (λ (x : Ltxid). x.number) same ∙ number-of ∙ ap (λ (e : List Entry). count (map committed_of e) sess.ltxid.incarnation sess.ltxid.session) (sym entries)
        ∙ ap (λ (x : Ltxid). count (map committed_of (all_entries after)) x.incarnation x.session) (sym same);
  }

  pub behind : Steps core sess after t → Behind core most sess after t
  behind (Keeps entries blocked same) =
      let all = entries-same core after stays.base entries in
      record {
        order = order-same core after stays.base entries before.order;
        stand = same_stand core after all (blocked-same core after stays.base blocked) before.stand;
        within = within-same core after most stays.incarnation all before.within;
        mine = mine-kept all same;
        counts = λ incarnation other apart. ap (λ (e : List Entry). count (map committed_of e) incarnation other) all;
      }
  behind (BlocksOne x entries blocked next same) =
      let all = entries-same core after stays.base entries in
      let more : all_blocked after ≡ all_blocked core ++ x ∷ [] = (λ i. (stays.base i).blocked ++ blocked i) ∙ sym (append_assoc core.base.blocked core.blocked (x ∷ [])) in
      let stand : BlocksStand (map committed_of (all_entries core)) (all_blocked core ++ x ∷ []) = (follows_blocks core.horizon (map committed_of (all_entries core)) (all_blocked core) x before.stand next).1 in
      record {
        order = order-same core after stays.base entries before.order;
        stand = subst (λ (e : List Entry). BlocksStand (map committed_of e) (all_blocked after)) (sym all) (subst (λ (b : List Ltxid). BlocksStand (map committed_of (all_entries core)) b) (sym more) stand);
        within = within-same core after most stays.incarnation all before.within;
        mine = mine-kept all same;
        counts = λ incarnation other apart. ap (λ (e : List Entry). count (map committed_of e) incarnation other) all;
      }
  behind (StoresOne entry entries blocked own free here) =
      let all : all_entries after ≡ core.base.entries ++ (core.entries ++ entry ∷ []) = (λ i. (stays.base i).entries ++ entries i) in
      let commits : map committed_of (all_entries after) ≡ map committed_of (all_entries core) ++ committed_of entry ∷ [] = ap (map committed_of) all ∙ commits-more core.base.entries core.entries entry in
      let listed : all_entries after ≡ all_entries core ++ entry ∷ [] = all ∙ sym (append_assoc core.base.entries core.entries (entry ∷ [])) in
      let own_state : Ltxid → Type 0 = λ x. May x (state_of (map committed_of (all_entries core)) (all_blocked core) x.incarnation x.session) in
      let may : own_state entry.ltxid = subst own_state (sym own) (may-commit (map committed_of (all_entries core)) (all_blocked core) sess.ltxid number-of free) in
      let stand : BlocksStand (map committed_of (all_entries core) ++ committed_of entry ∷ []) (all_blocked core) = commit_stands (map committed_of (all_entries core)) (all_blocked core) (committed_of entry) before.stand may in
      let others : (incarnation other : ℕ) → (other == sess.ltxid.session) ≡ false → count (map committed_of (all_entries after)) incarnation other ≡ count (map committed_of (all_entries core)) incarnation other =
      λ incarnation other apart. ap (λ c. count c incarnation other) commits
      ∙ count-other (map committed_of (all_entries core)) (committed_of entry) incarnation other (ap (λ x. is_of x incarnation other) own ∙ is_of-other sess.ltxid incarnation other apart) in
      let raised : count (map committed_of (all_entries after)) sess.ltxid.incarnation sess.ltxid.session ≡ sess.ltxid.number + 1 =
      ap (λ c. count c sess.ltxid.incarnation sess.ltxid.session) commits
      ∙ count-own (map committed_of (all_entries core)) (committed_of entry) sess.ltxid.incarnation sess.ltxid.session (ap (λ x. is_of x sess.ltxid.incarnation sess.ltxid.session) own ∙ is_of-self sess.ltxid)
      ∙ ap (λ n. n + 1) (sym number-of) in
      let here-within : Within core.opening.incarnation most entry = Among (ap (λ (x : Ltxid). x.incarnation) own ∙ before.mine.incarnation) (subst (λ n. n ≤ most) (ap (λ (x : Ltxid). x.session) (sym own)) before.mine.within) in
      record {
        order = subst (λ (e : List Entry). AreNumbered after.base.entries e) (sym entries) (subst (λ (b : Base). AreNumbered b.entries (core.entries ++ entry ∷ [])) (sym stays.base)
            (AreNumbered-more core.base.entries core.entries entry before.order
            (ap (λ (x : Ltxid). x.number) own ∙ number-of ∙ ap (λ (x : Ltxid). count (map committed_of (all_entries core)) x.incarnation x.session) (sym own))));
        stand = subst (λ c. BlocksStand c (all_blocked after)) (sym commits) (subst (λ (b : List Ltxid). BlocksStand (map committed_of (all_entries core) ++ committed_of entry ∷ []) b) (sym (blocked-same core after stays.base blocked)) stand);
        within = subst (λ n. AllWithin n most (all_entries after)) (sym stays.incarnation) (subst (AllWithin core.opening.incarnation most) (sym listed) (AllWithin-more core.opening.incarnation most (all_entries core) entry before.within here-within));
        mine = mine-raised here raised;
        counts = others;
      }
    where
      mine-raised : (t.ltxid ≡ ltxid_of (session_of sess.ltxid) (sess.ltxid.number + 1)) ⊎ ((t.life ≡ Ended) × (t.ltxid ≡ sess.ltxid))
          → count (map committed_of (all_entries after)) sess.ltxid.incarnation sess.ltxid.session ≡ sess.ltxid.number + 1 → Mine after most t
      mine-raised (inl next) raised = record {
        incarnation = incarnation-same ∙ before.mine.incarnation ∙ sym stays.incarnation;
        within = subst (λ n. n ≤ most) (sym session-same) before.mine.within;
        number = λ alive. ap (λ (x : Ltxid). x.number) next ∙ sym raised ∙ ap (λ (x : Ltxid). count (map committed_of (all_entries after)) x.incarnation x.session) (sym next);
      }
      mine-raised (inr over) raised = record {
        incarnation = incarnation-same ∙ before.mine.incarnation ∙ sym stays.incarnation;
        within = subst (λ n. n ≤ most) (sym session-same) before.mine.within;
        number = λ alive. absurd (alive over.0);
      }
