-- The frames that were served are those that were sent first, so the calls since a Begin are told
-- by these.
use Rattle.std.proofs.Common.{◌≡◌, refl, sym, ap, subst, ◌∙◌, Bool, true, ℕ, ◌&&◌, List, [], ◌∷◌, ◌++◌, map, fold, reverse, Option}
use Rattle.std.specs.Prelude.{◌==◌}
use Rattle.std.proofs.lemmas.Bool.{and_parts}
use Rattle.svc_values.specs.declared.call.Call.{Call}
use Rattle.svc_values.specs.declared.draw.Draw.{Draw}
use Rattle.svc_values.specs.declared.frame.Up.{Up}
use Rattle.svc_values.specs.declared.frame.Up.TheVariants as up
use Rattle.svc_values.specs.meaning.Same.{same_bool, same_call, same_draws}
use Rattle.svc_values.specs.SameLaws.{same_bool_decides, same_call_decides, same_draws_decide}
use Rattle.world_model.specs.meaning.Frames.{Owner, Sent}
use Rattle.world_model.specs.Sames.{is_front, same_owners, same_sent, same_up}
use Rattle.shown_laws.specs.ServedSent.{ServesAFront}
use Rattle.shown_laws.specs.TurnRows.{ServedOf}
use Rattle.shown_laws.specs.TurnSent.{calls_with}
use Rattle.shown_laws.proofs.events.Lookups.{eq_from}
use Rattle.shown_laws.proofs.owners.ServedSent.{serves_its_frames}
use Rattle.shown_laws.proofs.owners.TurnSent.{owners_are}

-- two frames that are the same leave the same calls
same_calls_with : (calls : List Sent) (a b : Sent) (one other : Up) → a.frame ≡ one → b.frame ≡ other → a.owner ≡ b.owner → a.call ≡ b.call → same_up one other ≡ true → calls_with calls a one ≡ calls_with calls b other
same_calls_with calls a b up.Connect up.Connect first second owner index same = refl
same_calls_with calls a b (up.Begin settings) (up.Begin others) first second owner index same = refl
same_calls_with calls a b (up.Call r k c) (up.Call s l d) first second owner index same =
    let one = and_parts (same_bool r s) (same_draws k l && same_call c d) same in
    let two = and_parts (same_draws k l) (same_call c d) one.1 in
    let mark : r ≡ s = (same_bool_decides r s).0 one.0 in
    let draws : k ≡ l = (same_draws_decide k l).0 two.0 in
    let call : c ≡ d = (same_call_decides c d).0 two.1 in
    let frame : a.frame ≡ b.frame = first ∙ (ap (λ (m : Bool). up.Call m k c) mark ∙ (ap (λ (e : List Draw). up.Call s e c) draws ∙ (ap (λ (e : Call). up.Call s l e) call ∙ sym second))) in
    let whole : a ≡ b =
    ap (λ (o : Option Owner). record a { owner = o }) owner
    ∙ (ap (λ (n : ℕ). record { owner = b.owner; call = n; frame = a.frame }) index ∙ ap (λ (f : Up). record { owner = b.owner; call = b.call; frame = f }) frame) in
    ap (λ (sent : Sent). calls ++ sent ∷ []) whole
same_calls_with calls a b (up.Outcome x) (up.Outcome y) first second owner index same = refl
same_calls_with calls a b up.End up.End first second owner index same = refl
same_calls_with calls a b up.Close up.Close first second owner index same = refl
same_calls_with calls a b one other first second owner index same = absurd (let none : ⊥ = cc in none)

-- the front of what was sent that is the same
record Taken (calls : List Sent) (front sents : List Sent) : Type 0 where
  taken : List Sent
  rest : List Sent
  sent : sents ≡ taken ++ rest
  same : fold (λ c one. calls_with c one one.frame) calls front ≡ fold (λ c one. calls_with c one one.frame) calls taken

take_front : (calls front sents : List Sent) → is_front same_sent front sents ≡ true → Taken calls front sents
take_front calls [] sents is = record { taken = []; rest = sents; sent = refl; same = refl }
take_front calls (first ∷ front) [] is = absurd (let none : ⊥ = cc in none)
take_front calls (first ∷ front) (sent ∷ sents) is =
    let parts = and_parts (same_sent first sent) (is_front same_sent front sents) is in
    let one = and_parts (same_owners first.owner sent.owner) ((first.call == sent.call) && same_up first.frame sent.frame) parts.0 in
    let two = and_parts (first.call == sent.call) (same_up first.frame sent.frame) one.1 in
    let later : Taken (calls_with calls first first.frame) front sents = take_front (calls_with calls first first.frame) front sents parts.1 in
    let here : calls_with calls first first.frame ≡ calls_with calls sent sent.frame =
    same_calls_with calls first sent first.frame sent.frame refl refl (owners_are first.owner sent.owner one.0) (eq_from first.call sent.call two.0) two.1 in
    record {
      taken = sent ∷ later.taken;
      rest = later.rest;
      sent = ap (λ (list : List Sent). sent ∷ list) later.sent;
      same = later.same ∙ ap (λ (c : List Sent). fold (λ c one. calls_with c one one.frame) c later.taken) here;
    }

pub serves_a_front : ServesAFront
serves_a_front served calls sents handled unblocked since front =
    let taken : Taken [] (map (λ one. one.sent) served) sents = take_front [] (map (λ one. one.sent) served) sents front in
    record {
      taken = taken.taken;
      rest = taken.rest;
      sent = taken.sent;
      same = taken.same;
      are = λ behind. subst (λ (list : List Sent). ServedOf (reverse calls) (list ++ behind)) taken.same (serves_its_frames served calls behind handled unblocked since);
    }
