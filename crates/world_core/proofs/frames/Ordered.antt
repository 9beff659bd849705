-- Where a frame may be served, what is orderly says on which session.
use Rattle.std.proofs.Common.{◌≡◌, ℕ, suc, ◌==◌, Bool, true, false, List, [], ◌∷◌, ◌++◌, Option, Some, None, map, length, refl, sym, ap, ◌∙◌, subst, arith}
use Rattle.std.specs.Prelude.{◌&&◌, ◌||◌, not, fold, is_some, is_none, IsTrue}
use Rattle.std.specs.List.{list_all}
use Rattle.std.specs.Option.{option_map_or}
use Rattle.std.proofs.lemmas.Bool.{eqb-true}
use Rattle.svc_values.specs.declared.entry.SessionId.{SessionId}
use Rattle.svc_values.specs.declared.frame.Up.{Up}
use Rattle.svc_values.specs.declared.frame.Up.TheVariants as up
use Rattle.svc_values.specs.meaning.Identifiers.{same_session, session_of}
use Rattle.svc_values.specs.meaning.Same.{same_bool}
use Rattle.svc_values.specs.declared.frame.Down.{Down}
use Rattle.svc_values.specs.Laws.{AreExact}
use Rattle.server_model.specs.Seen.{Seen, IsHistory}
use Rattle.server_model.specs.ToldRight.{must_refuse}
use Rattle.world_model.specs.records.Basic.{is_down, is_named, first_is_connect, living_now, sessions_differ, are_made}
use Rattle.world_model.specs.Coupled.{life_by, life_of, Coupled}
use Rattle.world_model.specs.meaning.Frames.{Owner, Sent, Handled}
use Rattle.world_model.specs.records.Hold.{is_connect}
use Rattle.world_model.specs.Orderly.{Orderly}
use Rattle.world_model.specs.meaning.Links.{Link, link_at}
use Rattle.world_model.specs.Parts.{implies}
use Rattle.world_model.specs.Sames.{same_owners, same_up, same_sent, is_front}
use Rattle.world_model.specs.meaning.Serving.{Front, front_at}
use Rattle.world_model.specs.Traced.{Traced}
use Rattle.world_model.specs.records.Wire.{up_of, nothing_cut, is_sent_front, Stage, New, Wrong, next_stage, stage_of, is_right}
use Rattle.world_model.proofs.Offered.{connect_first}
use Rattle.world_core.proofs.frames.Answered.{answers_so, lived_so}
use Rattle.world_core.proofs.frames.InLife.{in_order_there}
use Rattle.world_core.proofs.frames.InOrder.{ServedWith, AnswersInOrder}
use Rattle.world_core.proofs.frames.Fronts.{front_there, front_first}
use Rattle.world_core.proofs.frames.Storing.{both, all_there}

abbrev pub LivedInOrder : Seen → Traced → ℕ → Front → Type 0
LivedInOrder seen t number front =
    (reply : Option Down) (new : Seen) → IsHistory new → (served : ServedWith seen number t.machine.tick front.first.frame reply new) → life_by seen.history served.session ≡ life_of front.link.served

-- Where a frame may be served on the connection of this number, the server is up, the sessions that
-- live are of its incarnation and no two are one, the frame is Connect exactly where its session
-- has no name yet, and it is answered in order.
pub record ServesInOrder (seen : Seen) (t : Traced) (number : ℕ) (front : Front) : Type 0 where
  pub is_up : t.machine.server.is_up ≡ true
  pub now : IsTrue (living_now t)
  pub apart : IsTrue (sessions_differ t)
  pub made : IsTrue (are_made t)
  pub is_first : is_none front.link.session ≡ is_connect front.first.frame
  pub answered : AnswersInOrder seen t number front
  -- its session is where the frames of its connection led it
  pub lived : LivedInOrder seen t number front

clash : (b : Bool) → b ≡ true → b ≡ false → ⊥
clash true is not_it = let nothing : ⊥ = cc in nothing
clash false is not_it = let nothing : ⊥ = cc in nothing

-- THE SERVER --------------------------------------------------------------------------------------

is_there : (up none : Bool) → (up || none) ≡ true → (none ≡ true → ⊥) → up ≡ true
is_there true none e never = refl
is_there false none e never = absurd (never e)

not_living : (living : Bool) → not living ≡ true → living ≡ true → ⊥
not_living true gone is = let nothing : ⊥ = cc in nothing
not_living false gone is = let nothing : ⊥ = cc in nothing

-- a session lives, so it is up
pub up_there : (t : Traced) (number : ℕ) (link : Link) → is_down t ≡ true → link_at t.machine.links number ≡ Some link → link.is_living ≡ true → t.machine.server.is_up ≡ true
up_there t number link down there living =
    is_there t.machine.server.is_up (list_all (λ one. not one.is_open && not one.is_living) t.machine.links) down
    (λ all. not_living link.is_living (both (not link.is_open) (not link.is_living) (all_there (λ one. not one.is_open && not one.is_living) t.machine.links number link all there)).1 living)

-- CONNECT -----------------------------------------------------------------------------------------

abbrev moved : Stage → Sent → Stage
moved stage sent = next_stage stage sent.owner sent.frame

wrong_stays : (sents : List Sent) → is_right (fold moved Wrong sents) ≡ false
wrong_stays [] = refl
wrong_stays (sent ∷ sents) = wrong_stays sents

-- what is sent first is Connect
leads : (owner : Option Owner) (frame : Up) (sents : List Sent) → is_right (fold moved (next_stage New owner frame) sents) ≡ true → is_connect frame ≡ true
leads owner up.Connect sents right = refl
leads owner (up.Begin settings) sents right = absurd (clash (is_right (fold moved Wrong sents)) right (wrong_stays sents))
leads owner (up.Call replay kept call) sents right = absurd (clash (is_right (fold moved Wrong sents)) right (wrong_stays sents))
leads owner (up.Outcome x) sents right = absurd (clash (is_right (fold moved Wrong sents)) right (wrong_stays sents))
leads owner up.End sents right = absurd (clash (is_right (fold moved Wrong sents)) right (wrong_stays sents))
leads owner up.Close sents right = absurd (clash (is_right (fold moved Wrong sents)) right (wrong_stays sents))

same_frames : (a b : Sent) → same_sent a b ≡ true → same_up a.frame b.frame ≡ true
same_frames a b same = (both (a.call == b.call) (same_up a.frame b.frame) (both (same_owners a.owner b.owner) ((a.call == b.call) && same_up a.frame b.frame) same).1).1

alike : (a b : Up) → same_up a b ≡ true → is_connect b ≡ true → is_connect a ≡ true
alike up.Connect b same is = refl
alike (up.Begin settings) up.Connect same is = absurd (let nothing : ⊥ = cc in nothing)
alike (up.Call replay kept call) up.Connect same is = absurd (let nothing : ⊥ = cc in nothing)
alike (up.Outcome x) up.Connect same is = absurd (let nothing : ⊥ = cc in nothing)
alike up.End up.Connect same is = absurd (let nothing : ⊥ = cc in nothing)
alike up.Close up.Connect same is = absurd (let nothing : ⊥ = cc in nothing)
alike a b same is = absurd (let nothing : ⊥ = cc in nothing)

sent_first : (served : List Handled) (ups sent : List Sent) (first : Sent) (later : List Sent) → is_front same_sent (map (λ (one : Handled). one.sent) served ++ ups) sent ≡ true → is_right (fold moved New sent) ≡ true → ups ≡ first ∷ later → served ≡ []
    → is_connect first.frame ≡ true
sent_first (one ∷ others) ups sent first later is right same none = absurd (let nothing : ⊥ = cc in nothing)
sent_first [] [] sent first later is right same none = absurd (let nothing : ⊥ = cc in nothing)
sent_first [] (one ∷ ups) [] first later is right same none = absurd (let nothing : ⊥ = cc in nothing)
sent_first [] (one ∷ ups) (other ∷ sent) first later is right same none =
    let parts = both (same_sent one other) (is_front same_sent ups sent) is in
    let is_one : one ≡ first = cc in
    subst (λ (s : Sent). is_connect s.frame ≡ true) is_one (alike one.frame other.frame (same_frames one other parts.0) (leads other.owner other.frame sent right))

-- THE SESSION -------------------------------------------------------------------------------------

named_parts : (link : Link) → is_named link ≡ true → (same_bool (is_some link.session) (first_is_connect link.served) ≡ true) × (implies (is_none link.session) (length link.served == 0) ≡ true)
named_parts link named =
    let rest : Bool = list_all (λ one. option_map_or (same_session one.served.session) link.session false) link.served && option_map_or (λ x. option_map_or (same_session (session_of x)) link.session false) link.held true in
    let first = both (same_bool (is_some link.session) (first_is_connect link.served)) (implies (is_none link.session) (length link.served == 0) && rest) named in
    (first.0, (both (implies (is_none link.session) (length link.served == 0)) rest first.1).0)

nothing_first : (served : List Handled) → served ≡ [] → same_bool true (first_is_connect served) ≡ true → ⊥
nothing_first [] none named = let nothing : ⊥ = cc in nothing
nothing_first (first ∷ others) none named = let nothing : ⊥ = cc in nothing

-- it has no name yet exactly where Connect is served
named_first : (session : Option SessionId) (connects : Bool) (served : List Handled) → same_bool (is_some session) (first_is_connect served) ≡ true → implies (is_none session) (length served == 0) ≡ true
    → (connects ≡ true → served ≡ []) → (served ≡ [] → connects ≡ true) → is_none session ≡ connects
named_first None connects [] named none one other = sym (other refl)
named_first None connects (first ∷ others) named none one other = let many : suc (length others) ≡ 0 = eqb-true (suc (length others)) 0 none in absurd (let nothing : ⊥ = omega (arith, many) in nothing)
named_first (Some session) false served named none one other = refl
named_first (Some session) true served named none one other = absurd (nothing_first served (one refl) named)

-- nothing was served before its session had its name
none_before : (link : Link) → implies (is_none link.session) (length link.served == 0) ≡ true → link.session ≡ None → link.served ≡ []
none_before link named unnamed = empty link.served (sym (ap (λ (known : Option SessionId). implies (is_none known) (length link.served == 0)) unnamed) ∙ named)
  where
    empty : (served : List Handled) → (length served == 0) ≡ true → served ≡ []
    empty [] none = refl
    empty (first ∷ others) none = let many : suc (length others) ≡ 0 = eqb-true (suc (length others)) 0 none in absurd (let nothing : ⊥ = omega (arith, many) in nothing)

-- what is orderly gives all of it
pub serves_in_order : AreExact → (seen : Seen) (t : Traced) (number : ℕ) (front : Front) → Orderly t → Coupled seen t → front_at t.machine.links number ≡ Some front → ServesInOrder seen t number front
serves_in_order exact seen t number front orderly coupled there =
    let at = front_there t.machine.links number front there in
    let link = front.link in
    let ups : link.up ≡ front.first ∷ front.later = front_first t.machine.links number front there in
    let wired : is_sent_front link ≡ true = all_there is_sent_front t.machine.links number link orderly.wire.sent at.0 in
    let right : is_right (stage_of link) ≡ true = all_there (λ one. is_right (stage_of one)) t.machine.links number link orderly.wire.grammar at.0 in
    let named = named_parts link (all_there is_named t.machine.links number link orderly.basic.named at.0) in
    let sent = (both (is_front same_sent (up_of link) link.sent) (implies (nothing_cut link) (length (up_of link) == length link.sent)) wired).0 in
    let is_up = up_there t number link orderly.basic.down at.0 at.1 in
    let order : must_refuse (life_of link.served) front.first.frame ≡ false = in_order_there exact link.served link.up link.sent front.first front.later sent right ups in
    record {
      is_up = is_up;
      now = orderly.basic.now;
      apart = orderly.basic.apart;
      made = orderly.basic.made;
      is_first = named_first link.session (is_connect front.first.frame) link.served named.0 named.1 (λ connects. connect_first link front.first front.later wired right ups connects) (sent_first link.served link.up link.sent front.first front.later sent right ups);
      answered = λ reply new history did. answers_so exact seen new t number front reply coupled there is_up orderly.basic.now orderly.number.known order (none_before link named.1) history did;
      lived = λ reply new history did. lived_so exact seen new t number front reply coupled there is_up orderly.basic.now orderly.number.known order (none_before link named.1) history did;
    }
