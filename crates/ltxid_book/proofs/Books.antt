-- What a book says after one of its sessions is put.
use Rattle.std.proofs.Common.{◌≡◌, ◌≤◌, ℕ, ◌+◌, ◌==◌, Bool, true, false, List, if◌then◌else◌, ap, ◌∙◌, arith}
use Rattle.std.specs.Prelude.{nat_lt}
use Rattle.std.proofs.lemmas.Bool.Decides.{nat_tests}
use Rattle.svc_values.specs.declared.entry.Ltxid.{Ltxid}
use Rattle.svc_values.specs.meaning.Identifiers.{is_of}
use Rattle.ltxid_book.specs.declared.State.{State}
use Rattle.ltxid_book.specs.meaning.Sessions.{Sessions, known_from}
use Rattle.ltxid_book.specs.Sessions.{Contents, state_in, sessions_in, with_state}
use Rattle.ltxid_book.specs.InnerMaking.{counted, marked}
use Rattle.ltxid_book.proofs.Known.{known_with}

-- `is` says what the book holds, and `put` how its sessions differ afterwards
pub says_with : (horizon : ℕ) (old new : List ((ℕ × ℕ) × State)) (book : Contents) (x : Ltxid) (state : State)
    → (let inside : Contents = record { horizon = horizon; sessions = old } in inside) ≡ book → nat_lt x.incarnation horizon ≡ false
    → ((incarnation session : ℕ) → state_in new incarnation session ≡ (if is_of x incarnation session then state else state_in old incarnation session))
    → known_from horizon (state_in new) ≡ with_state (sessions_in book) x state
says_with horizon old new book x state is known put = known_with horizon (state_in old) (state_in new) x state known put ∙ ap (λ (b : Contents). with_state (sessions_in b) x state) is

pub known_in : (horizon : ℕ) (x : Ltxid) → horizon ≤ x.incarnation → nat_lt x.incarnation horizon ≡ false
known_in horizon x le = grind (arith, nat_tests)

pub counts : (sessions : Sessions) (x : Ltxid) (completed : Bool) → nat_lt x.incarnation sessions.horizon ≡ false
    → counted sessions (record { ltxid = x; completed = completed }) ≡ (let state = sessions.state x.incarnation x.session in with_state sessions x (record state { next = state.next + 1; completed = completed }))
counts sessions x completed known = ap (λ b. let state = sessions.state x.incarnation x.session in if b then sessions else with_state sessions x (record state { next = state.next + 1; completed = completed })) known

pub marks : (sessions : Sessions) (x : Ltxid) → nat_lt x.incarnation sessions.horizon ≡ false → (x.number == (sessions.state x.incarnation x.session).next) ≡ true
    → marked sessions x ≡ (let state = sessions.state x.incarnation x.session in with_state sessions x (record state { blocked = true }))
marks sessions x known next =
    let state = sessions.state x.incarnation x.session in
    ap (λ b. if b then sessions else (if x.number == state.next then with_state sessions x (record state { blocked = true }) else sessions)) known
    ∙ ap (λ b. if b then with_state sessions x (record state { blocked = true }) else sessions) next
