-- What a step of a client takes on a connection: nothing, or the reply to what it has out there.
use Rattle.std.proofs.Common.{◌≡◌, ◌≢◌, refl, sym, ap, subst, ◌∙◌, ℕ, ◌+◌, true, false, length, List, [], ◌∷◌, ◌++◌, map, filter, Option, Some, None, ◌⊎◌, inl, inr, arith}
use Rattle.std.proofs.lemmas.List.{map-append, length-map}
use Rattle.std.proofs.lemmas.List.Sums.{length-filter}
use Rattle.client_model.specs.declared.act.Hold.{Hold}
use Rattle.client_model.specs.declared.input.Input.{Input}
use Rattle.client_model.specs.declared.input.Input.TheVariants.{Took}
use Rattle.world_model.specs.meaning.Clients.{Doing}
use Rattle.world_model.specs.records.Conversing.{connected}
use Rattle.world_model.specs.meaning.Frames.{Sent, Reply}
use Rattle.world_model.specs.Orderly.{Orderly}
use Rattle.world_model.specs.meaning.Links.{Link, link_at, sends, takes}
use Rattle.world_model.specs.meaning.Machines.{Machine}
use Rattle.invariant_laws.specs.Once.{are_apart}
use Rattle.world_model.specs.Parts.{is_out, is_rep, out_frame, count_reps}
use Rattle.world_model.specs.Sames.{same_sent, is_front}
use Rattle.world_model.specs.Traced.{Traced}
use Rattle.world_model.specs.records.Wire.{reps_of, is_answered_in_order}
use Rattle.world_model.proofs.Offered.{HasStepped, HeardOn, OfNone, OfIdle, OfNew, OfReply, OfEnded, is_frame, sends_alike, at_event, moves_next_number as next_number, first_doing, eq_from, some_same, either}
use Rattle.invariant_laws.proofs.Offered.{no_connection, Taking, plain_none, new_apart, others_at, lent_at, said as spoken_frames, front_at, last_at}

-- THE FRAME THAT IS ANSWERED ----------------------------------------------------------------------

-- the reply that is taken next is to what is out
pub answers_out : (link : Link) (reply : Reply) (left : List Reply) (sent : Sent) → is_out link ≡ true → out_frame link ≡ Some sent → link.down ≡ reply ∷ left → is_answered_in_order link ≡ true → same_sent reply.to sent ≡ true
answers_out link reply left sent out last down order =
    let tos : List Sent = map (λ (one : Reply). one.to) link.taken in
    let rep = front_at same_sent tos (map (λ (one : Reply). one.to) left) (reps_of link) reply.to
    (subst (λ (sents : List Sent). is_front same_sent sents (reps_of link) ≡ true) (map-append (λ (one : Reply). one.to) link.taken (reply ∷ left))
    (subst (λ (later : List Reply). is_front same_sent (map (λ (one : Reply). one.to) (link.taken ++ later)) (reps_of link) ≡ true) down order)) in
    let count : length (filter is_rep link.sent) ≡ count_reps link.sent = length-filter is_rep link.sent in
    let one : count_reps link.sent ≡ length link.taken + 1 = eq_from (count_reps link.sent) (length link.taken + 1) out in
    let same : length tos ≡ length link.taken = length-map link.taken (λ (r : Reply). r.to) in
    let long : length (reps_of link) ≡ length tos + 1 = omega (arith, count, one, same) in
    let found : Some rep.0 ≡ Some sent = sym (last_at (reps_of link) (length tos) rep.0 None rep.1.0 long) ∙ last in
    let equal : rep.0 ≡ sent = cc in
    subst (λ (s : Sent). same_sent reply.to s ≡ true) equal rep.1.1

-- A STEP ------------------------------------------------------------------------------------------

module _ (t : Traced) (inv : Orderly t) (apart : are_apart t ≡ true) (new : Traced) (who : ℕ) (step : HasStepped t.setting (at_event t.machine) who new.machine) where
  abbrev m : Machine
  m = at_event t.machine

  abbrev said_now : List Sent
  said_now = spoken_frames t.setting m who new.machine step

  -- a connection becomes another one, and one reply more was taken on it, or none
  pub data TookOn (link next : Link) : Type 0 where
    NoneTaken : next.taken ≡ link.taken → TookOn link next
    OneTaken : (taking : Taking t inv apart new who step) → taking.link ≡ link → next.taken ≡ link.taken ++ taking.reply ∷ [] → TookOn link next

  module _ (number : ℕ) (link next : Link) (was : link_at t.machine.links number ≡ Some link) (there : link_at new.machine.links number ≡ Some next) where
    away : (step.connection ≡ Some number → ⊥) → TookOn link next
    away strange = NoneTaken (ap (λ (l : Link). l.taken) (some_same (link_at new.machine.links number) next link there (others_at t.setting m who new.machine step number link was strange)))

    with_none : step.connection ≡ None → TookOn link next
    with_none none = away (λ has. let never : None ≡ Some number = sym none ∙ has in let nothing : ⊥ = cc in nothing)

    elsewhere : (connection : ℕ) → step.connection ≡ Some connection → number ≢ connection → TookOn link next
    elsewhere connection on_it other = away (λ has. other (let both : Some connection ≡ Some number = sym on_it ∙ has in let same : number ≡ connection = cc in same))

    pub took_on : TookOn link next
    took_on = by step.before.connection step.input step.after refl refl step.heard_on
      where
        by : {kept : Hold} (had : Option ℕ) (input : Input) (after : Doing) → step.before.connection ≡ had → step.input ≡ input → HeardOn t.setting m new.machine who (first_doing t.setting m inv.script.talks who new.machine step) kept said_now after had input → TookOn link next
        by _ _ after before is (OfNone had input none plain same) =
            let not_frame : is_frame step.input ≡ false = ap is_frame is ∙ plain in
            with_none (sym step.connects ∙ (ap (λ (c : Option ℕ). connected c step.input) (no_connection t inv apart new who step not_frame) ∙ (ap (connected None) is ∙ plain_none input none plain)))
        by _ _ after before is (OfIdle had connection x answer same) = cases (either number connection)
          where
            on_it : step.connection ≡ Some connection
            on_it = sym step.connects ∙ ap (connected step.before.connection) is

            cases : (number ≡ connection) ⊎ (number ≢ connection) → TookOn link next
            cases (inr other) = elsewhere connection on_it other
            cases (inl equal) =
                let lent = lent_at t.setting m who new.machine step connection x is in
                let own : link ≡ lent.link = some_same (link_at t.machine.links number) link lent.link was (ap (link_at t.machine.links) equal ∙ lent.there) in
                let now : next ≡ sends m.event said_now lent.link = some_same (link_at new.machine.links number) next (sends m.event said_now lent.link) there (ap (link_at new.machine.links) equal ∙ lent.next) in
                NoneTaken (ap (λ (l : Link). l.taken) now ∙ (sends_alike (λ (l : Link). l.taken ≡ lent.link.taken) m.event said_now lent.link refl refl ∙ ap (λ (l : Link). l.taken) (sym own)))
        by _ _ after before is (OfNew had same) =
            elsewhere (next_number m) (sym step.connects ∙ ap (connected step.before.connection) is) (new_apart t.machine.links number link was)
        by _ _ after before is (OfReply had connection on reply later some at down_is becomes back) = cases (either number connection)
          where
            cases : (number ≡ connection) ⊎ (number ≢ connection) → TookOn link next
            cases (inr other) = elsewhere connection (sym step.connects ∙ (ap (connected step.before.connection) is ∙ (before ∙ some))) other
            cases (inl equal) =
                let own : link ≡ on = some_same (link_at t.machine.links number) link on was (ap (link_at t.machine.links) equal ∙ at) in
                let taken : Link = takes (Took reply.frame on.is_open) reply later on in
                let now : next ≡ sends m.event said_now taken = some_same (link_at new.machine.links number) next (sends m.event said_now taken) there (ap (link_at new.machine.links) equal ∙ becomes) in
                OneTaken (record { connection = connection; link = on; reply = reply; later = later; has = before ∙ some; there = at; down_is = down_is; heard = is; after = becomes }) (sym own)
                (ap (λ (l : Link). l.taken) now ∙ (sends_alike (λ (l : Link). l.taken ≡ on.taken ++ reply ∷ []) m.event said_now taken refl refl ∙ ap (λ (l : Link). l.taken ++ reply ∷ []) (sym own)))
        by _ _ after before is (OfEnded had connection on some at shut becomes same) = with_none (sym step.connects ∙ ap (connected step.before.connection) is)
