-- Histories in which frames were stopped.
use Rattle.std.specs.Prelude.{◌≡◌, ◌&&◌, ◌<◌, nat_lt, ℕ, Bool, true, false, List, [], ◌∷◌, ◌++◌}
use Rattle.std.proofs.Common.{refl, sym, subst, arith}
use Rattle.std.proofs.lemmas.Bool.Decides.{nat_tests}
use Rattle.svc_values.specs.declared.entry.Entry.{Entry}
use Rattle.svc_values.specs.declared.frame.Up.{Up}
use Rattle.svc_values.specs.declared.entry.SessionId.{SessionId}
use Rattle.server_model.specs.meaning.Outcomes.{Telling, Silent, Says, Stopped}
use Rattle.server_model.specs.Runs.{Happened, Served, Asked}
use Rattle.server_model.specs.Laws.{stops_last, is_behind}
use Rattle.server_model.proofs.walks.FollowedStops.{AllLater}

-- ---- stops in a history

-- no frame of the incarnation was stopped
abbrev pub NoStop : ℕ → List Happened → Type 0
NoStop n [] = Unit {0}
NoStop n (Served session now frame Stopped ∷ more) = (session.incarnation ≡ n → ⊥) × NoStop n more
NoStop n (Served session now frame Silent ∷ more) = NoStop n more
NoStop n (Served session now frame (Says told) ∷ more) = NoStop n more
NoStop n (Asked x told ∷ more) = NoStop n more

pub no_stop-left : (n : ℕ) (history more : List Happened) → NoStop n (history ++ more) → NoStop n history
no_stop-left n [] more none = tt
no_stop-left n (Served session now frame Stopped ∷ history) more none = (none.0, no_stop-left n history more none.1)
no_stop-left n (Served session now frame Silent ∷ history) more none = no_stop-left n history more none
no_stop-left n (Served session now frame (Says told) ∷ history) more none = no_stop-left n history more none
no_stop-left n (Asked x told ∷ history) more none = no_stop-left n history more none

pub no_stop-right : (n : ℕ) (history more : List Happened) → NoStop n (history ++ more) → NoStop n more
no_stop-right n [] more none = none
no_stop-right n (Served session now frame Stopped ∷ history) more none = no_stop-right n history more none.1
no_stop-right n (Served session now frame Silent ∷ history) more none = no_stop-right n history more none
no_stop-right n (Served session now frame (Says told) ∷ history) more none = no_stop-right n history more none
no_stop-right n (Asked x told ∷ history) more none = no_stop-right n history more none

pub and-left : (a b : Bool) → (a && b) ≡ true → a ≡ true
and-left true b is = refl
and-left false b is = cc

pub and-right : (a b : Bool) → (a && b) ≡ true → b ≡ true
and-right true b is = is
and-right false b is = let none : ⊥ = cc in absurd none

pub and-both : (a b : Bool) → a ≡ true → b ≡ true → (a && b) ≡ true
and-both true b one other = other
and-both false b one other = let none : ⊥ = cc in absurd none

behind-left : (n : ℕ) (history more : List Happened) → is_behind n (history ++ more) ≡ true → is_behind n history ≡ true
behind-left n [] more is = refl
behind-left n (Served session now frame told ∷ history) more is = and-both _ _ (and-left (nat_lt n session.incarnation) _ is) (behind-left n history more (and-right (nat_lt n session.incarnation) _ is))
behind-left n (Asked x told ∷ history) more is = behind-left n history more is

below-is : (m n : ℕ) → nat_lt m n ≡ true → m < n
below-is m n is = grind (arith, nat_tests)

behind-last : (n : ℕ) (history : List Happened) (session : SessionId) (now : ℕ) (frame : Up) (told : Telling) → is_behind n (history ++ Served session now frame told ∷ []) ≡ true → n < session.incarnation
behind-last n [] session now frame told is = below-is n session.incarnation (and-left (nat_lt n session.incarnation) _ is)
behind-last n (Served other at sent said ∷ history) session now frame told is = behind-last n history session now frame told (and-right (nat_lt n other.incarnation) _ is)
behind-last n (Asked x said ∷ history) session now frame told is = behind-last n history session now frame told is

pub stops-left : (history more : List Happened) → stops_last (history ++ more) ≡ true → stops_last history ≡ true
stops-left [] more is = refl
stops-left (Served session now frame Stopped ∷ history) more is =
    and-both _ _ (stops-left history more (and-left (stops_last (history ++ more)) _ is)) (behind-left session.incarnation history more (and-right (stops_last (history ++ more)) _ is))
stops-left (Served session now frame Silent ∷ history) more is = stops-left history more is
stops-left (Served session now frame (Says told) ∷ history) more is = stops-left history more is
stops-left (Asked x told ∷ history) more is = stops-left history more is

not-self : (m n : ℕ) → m < n → m ≡ n → ⊥
not-self m n below same = omega arith

-- before a frame none of its opening was stopped
pub none-stopped : (history : List Happened) (session : SessionId) (now : ℕ) (frame : Up) (told : Telling) → stops_last (history ++ Served session now frame told ∷ []) ≡ true → NoStop session.incarnation history
none-stopped [] session now frame told is = tt
none-stopped (Served other at sent Stopped ∷ history) session now frame told is = (
  not-self other.incarnation session.incarnation (behind-last other.incarnation history session now frame told (and-right (stops_last (history ++ Served session now frame told ∷ [])) _ is)),
  none-stopped history session now frame told (and-left (stops_last (history ++ Served session now frame told ∷ [])) _ is),
)
none-stopped (Served other at sent Silent ∷ history) session now frame told is = none-stopped history session now frame told is
none-stopped (Served other at sent (Says said) ∷ history) session now frame told is = none-stopped history session now frame told is
none-stopped (Asked x said ∷ history) session now frame told is = none-stopped history session now frame told is

-- the entries that are still to come are of later incarnations than each stopped frame
abbrev pub Later : List Entry → List Happened → Type 0
Later rest [] = Unit {0}
Later rest (Served session now frame Stopped ∷ more) = AllLater session.incarnation rest × Later rest more
Later rest (Served session now frame Silent ∷ more) = Later rest more
Later rest (Served session now frame (Says told) ∷ more) = Later rest more
Later rest (Asked x told ∷ more) = Later rest more

pub later-left : (rest : List Entry) (history more : List Happened) → Later rest (history ++ more) → Later rest history
later-left rest [] more later = tt
later-left rest (Served session now frame Stopped ∷ history) more later = (later.0, later-left rest history more later.1)
later-left rest (Served session now frame Silent ∷ history) more later = later-left rest history more later
later-left rest (Served session now frame (Says told) ∷ history) more later = later-left rest history more later
later-left rest (Asked x told ∷ history) more later = later-left rest history more later

pub later-right : (rest : List Entry) (history more : List Happened) → Later rest (history ++ more) → Later rest more
later-right rest [] more later = later
later-right rest (Served session now frame Stopped ∷ history) more later = later-right rest history more later.1
later-right rest (Served session now frame Silent ∷ history) more later = later-right rest history more later
later-right rest (Served session now frame (Says told) ∷ history) more later = later-right rest history more later
later-right rest (Asked x told ∷ history) more later = later-right rest history more later

-- one entry more, of a frame that comes behind the history
pub later-more : (entry : Entry) (rest : List Entry) (history : List Happened) (session : SessionId) (now : ℕ) (frame : Up) (told : Telling) → stops_last (history ++ Served session now frame told ∷ []) ≡ true → entry.ltxid.incarnation ≡ session.incarnation → Later rest history → Later (entry ∷ rest) history
later-more entry rest [] session now frame told is same later = tt
later-more entry rest (Served other at sent Stopped ∷ history) session now frame told is same later = (
  (subst (λ n. other.incarnation < n) (sym same) (behind-last other.incarnation history session now frame told (and-right (stops_last (history ++ Served session now frame told ∷ [])) _ is)), later.0),
  later-more entry rest history session now frame told (and-left (stops_last (history ++ Served session now frame told ∷ [])) _ is) same later.1,
)
later-more entry rest (Served other at sent Silent ∷ history) session now frame told is same later = later-more entry rest history session now frame told is same later
later-more entry rest (Served other at sent (Says said) ∷ history) session now frame told is same later = later-more entry rest history session now frame told is same later
later-more entry rest (Asked x said ∷ history) session now frame told is same later = later-more entry rest history session now frame told is same later

pub later-none : (history : List Happened) → Later [] history
later-none [] = tt
later-none (Served session now frame Stopped ∷ history) = (tt, later-none history)
later-none (Served session now frame Silent ∷ history) = later-none history
later-none (Served session now frame (Says told) ∷ history) = later-none history
later-none (Asked x told ∷ history) = later-none history
