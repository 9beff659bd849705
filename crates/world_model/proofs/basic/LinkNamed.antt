-- Of each connection: it has its name once its Connect was served, and each item and identifier is
-- of that session.
use Rattle.std.proofs.Common.{◌≡◌, refl, sym, ap, subst, Bool, true, false, ◌&&◌, length, List, [], ◌∷◌, ◌++◌, Option, Some, None}
use Rattle.std.specs.Prelude.{◌==◌, not, is_some, is_none}
use Rattle.std.specs.List.{list_all}
use Rattle.std.specs.Option.{option_map_or}
use Rattle.std.proofs.lemmas.Bool.{and_parts, and_from, not_from_false}
use Rattle.svc_values.specs.declared.entry.SessionId.{SessionId}
use Rattle.svc_values.specs.declared.entry.Ltxid.{Ltxid}
use Rattle.svc_values.specs.declared.frame.Up.{Up}
use Rattle.svc_values.specs.declared.frame.Up.TheVariants as up
use Rattle.svc_values.specs.meaning.Identifiers.{same_session, session_of}
use Rattle.outage_schedule.specs.declared.item.Item.{Item}
use Rattle.outage_schedule.specs.declared.item.Item.TheVariants as item
use Rattle.world_model.specs.meaning.Frames.{Handled}
use Rattle.world_model.specs.meaning.Links.{Link}
use Rattle.world_model.specs.meaning.Machines.{Server}
use Rattle.world_model.specs.meaning.Serving.{is_served_by, is_item_of}
use Rattle.world_model.specs.records.Basic.{is_connect, first_is_connect}
use Rattle.world_model.specs.records.Hold as hold
use Rattle.world_model.specs.Parts.{implies}
use Rattle.svc_values.specs.meaning.Same.{same_bool}
use Rattle.world_model.proofs.events.Tests.{same_session_is, session_self}
use Rattle.world_model.proofs.events.AllLists.{append_all, one_all}

abbrev pub is_of_one : Option SessionId → SessionId → Bool
is_of_one session other = option_map_or (same_session other) session false

abbrev pub held_of : Option SessionId → Option Ltxid → Bool
held_of session held = option_map_or (λ x. is_of_one session (session_of x)) held true

abbrev pub named_test : Option SessionId → List Handled → Option Ltxid → Bool
named_test session served held =
    same_bool (is_some session) (first_is_connect served) && (implies (is_none session) (length served == 0) && (list_all (λ one. is_of_one session one.served.session) served && held_of session held))

-- at its Connect
pub connect_named : (session : Option SessionId) (served : List Handled) (held : Option Ltxid) (one : Handled) → served ≡ [] → named_test session served held ≡ true → is_connect one.served.item ≡ true
    → named_test (Some one.served.session) (served ++ one ∷ []) held ≡ true
connect_named session (first ∷ others) held one none here is = absurd (let never : ⊥ = cc in never)
connect_named (Some session) [] held one none here is = absurd (let never : ⊥ = cc in never)
connect_named None [] (Some x) one none here is = absurd (let never : ⊥ = cc in never)
connect_named None [] None one none here is =
    and_from (same_bool true (is_connect one.served.item && true)) (list_all (λ other. is_of_one (Some one.served.session) other.served.session) (one ∷ []) && true) (same_is (is_connect one.served.item) is)
    (and_from (list_all (λ other. is_of_one (Some one.served.session) other.served.session) (one ∷ [])) true
    (one_all (λ (other : Handled). is_of_one (Some one.served.session) other.served.session) one (session_self one.served.session)) refl)
  where
    same_is : (b : Bool) → b ≡ true → same_bool true (b && true) ≡ true
    same_is true is = refl
    same_is false is = is

first_more : (served : List Handled) (one : Handled) → first_is_connect served ≡ true → is_connect one.served.item ≡ false → first_is_connect (served ++ one ∷ []) ≡ true
first_more [] one first other = absurd (let never : ⊥ = cc in never)
first_more (handled ∷ others) one first other =
    let parts = and_parts (is_connect handled.served.item) (list_all (λ later. not (is_connect later.served.item)) others) first in
    and_from (is_connect handled.served.item) (list_all (λ later. not (is_connect later.served.item)) (others ++ one ∷ [])) parts.0
    (append_all (λ (later : Handled). not (is_connect later.served.item)) others (one ∷ []) parts.1 (one_all (λ (later : Handled). not (is_connect later.served.item)) one (not_from_false (is_connect one.served.item) other)))

same_first : (b c : Bool) → same_bool true b ≡ true → (b ≡ true → c ≡ true) → same_bool true c ≡ true
same_first true c is more = ap (same_bool true) (more refl)
same_first false c is more = absurd (let never : ⊥ = cc in never)

-- at each later item
pub other_named : (session : SessionId) (served : List Handled) (held : Option Ltxid) (one : Handled) → named_test (Some session) served held ≡ true → one.served.session ≡ session → is_connect one.served.item ≡ false
    → named_test (Some session) (served ++ one ∷ []) held ≡ true
other_named session served held one here same other =
    let mine : Handled → Bool = λ h. is_of_one (Some session) h.served.session in
    let first = and_parts (same_bool true (first_is_connect served)) (list_all mine served && held_of (Some session) held) here in
    let second = and_parts (list_all mine served) (held_of (Some session) held) first.1 in
    and_from (same_bool true (first_is_connect (served ++ one ∷ []))) (list_all mine (served ++ one ∷ []) && held_of (Some session) held)
    (same_first (first_is_connect served) (first_is_connect (served ++ one ∷ [])) first.0 (λ is. first_more served one is other))
    (and_from (list_all mine (served ++ one ∷ [])) (held_of (Some session) held)
    (append_all mine served (one ∷ []) second.0 (one_all mine one (subst (λ (s : SessionId). same_session s session ≡ true) (sym same) (session_self session)))) second.1)

-- another identifier is taken
pub held_named : (session : Option SessionId) (served : List Handled) (held now : Option Ltxid) → named_test session served held ≡ true → held_of session now ≡ true → named_test session served now ≡ true
held_named session served held now here is =
    let mine : Handled → Bool = λ h. is_of_one session h.served.session in
    let first = and_parts (same_bool (is_some session) (first_is_connect served)) (implies (is_none session) (length served == 0) && (list_all mine served && held_of session held)) here in
    let second = and_parts (implies (is_none session) (length served == 0)) (list_all mine served && held_of session held) first.1 in
    let third = and_parts (list_all mine served) (held_of session held) second.1 in
    and_from (same_bool (is_some session) (first_is_connect served)) (implies (is_none session) (length served == 0) && (list_all mine served && held_of session now)) first.0
    (and_from (implies (is_none session) (length served == 0)) (list_all mine served && held_of session now) second.0 (and_from (list_all mine served) (held_of session now) third.0 is))

pub named_items : (session : Option SessionId) (served : List Handled) (held : Option Ltxid) → named_test session served held ≡ true → list_all (λ one. is_of_one session one.served.session) served ≡ true
named_items session served held here =
    let mine : Handled → Bool = λ h. is_of_one session h.served.session in
    (and_parts (list_all mine served) (held_of session held) (and_parts (implies (is_none session) (length served == 0)) (list_all mine served && held_of session held)
    (and_parts (same_bool (is_some session) (first_is_connect served)) (implies (is_none session) (length served == 0) && (list_all mine served && held_of session held)) here).1).1).0

pub named_held : (session : Option SessionId) (served : List Handled) (held : Option Ltxid) → named_test session served held ≡ true → held_of session held ≡ true
named_held session served held here =
    let mine : Handled → Bool = λ h. is_of_one session h.served.session in
    (and_parts (list_all mine served) (held_of session held) (and_parts (implies (is_none session) (length served == 0)) (list_all mine served && held_of session held)
    (and_parts (same_bool (is_some session) (first_is_connect served)) (implies (is_none session) (length served == 0) && (list_all mine served && held_of session held)) here).1).1).1

-- without a name nothing was served
pub unnamed : (session : Option SessionId) (held : Option Ltxid) → named_test session [] held ≡ true → session ≡ None
unnamed None held here = refl
unnamed (Some session) held here = absurd (let never : ⊥ = cc in never)

-- WHICH SESSION SERVES ----------------------------------------------------------------------------

-- it is the connection's, but at Connect
pub other_session : (server : Server) (link : Link) (frame : Up) (session : SessionId) → hold.is_connect frame ≡ false → is_served_by server link frame session ≡ true → link.session ≡ Some session
other_session server link up.Connect session other is = absurd (let never : ⊥ = cc in never)
other_session server link frame session other is = by link.session is
  where
    by : (found : Option SessionId) → option_map_or (same_session session) found false ≡ true → found ≡ Some session
    by None is = absurd (let never : ⊥ = cc in never)
    by (Some one) is = ap Some (sym (same_session_is session one is))

pub connect_item : (frame : Up) (one : Item) → is_item_of frame one ≡ true → is_connect one ≡ hold.is_connect frame
connect_item up.Connect item.Connect e = refl
connect_item (up.Begin settings) item.Connect e = absurd (let never : ⊥ = cc in never)
connect_item (up.Call replay kept call) item.Connect e = absurd (let never : ⊥ = cc in never)
connect_item (up.Outcome x) item.Connect e = absurd (let never : ⊥ = cc in never)
connect_item up.End item.Connect e = absurd (let never : ⊥ = cc in never)
connect_item up.Close item.Connect e = absurd (let never : ⊥ = cc in never)
connect_item up.Connect one e = absurd (let never : ⊥ = cc in never)
connect_item frame one e = refl
