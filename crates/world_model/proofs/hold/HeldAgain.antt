-- The reply to a repeated call brings the identifier that is held: what is out commits nothing.
use Rattle.std.proofs.Common.{◌≡◌, refl, sym, ap, subst, ◌∙◌, Bool, true, false, ℕ, ◌+◌, ◌≤◌, ◌&&◌, length, List, ◌∷◌, Option, Some, None, ◌⊎◌, inl, inr, arith}
use Rattle.std.specs.Prelude.{◌==◌, ◌||◌, not, nat_le, is_some}
use Rattle.std.specs.List.{list_any, last_or}
use Rattle.std.specs.Option.{option_map_or}
use Rattle.std.proofs.lemmas.Bool.{and_parts, or_cases}
use Rattle.std.proofs.lemmas.Bool.Decides.{nat_tests}
use Rattle.svc_values.specs.declared.entry.Ltxid.{Ltxid}
use Rattle.svc_values.specs.declared.entry.SessionId.{SessionId}
use Rattle.svc_values.specs.declared.frame.Up.{Up}
use Rattle.svc_values.specs.declared.frame.Up.TheVariants as up
use Rattle.svc_values.specs.declared.frame.Down.{Down}
use Rattle.svc_values.specs.declared.frame.Down.TheVariants as down
use Rattle.svc_values.specs.meaning.Identifiers.{same_ltxid, session_of}
use Rattle.svc_values.specs.SameLaws.{same_ltxid_decides}
use Rattle.client_model.specs.declared.input.Input.TheVariants.{Took}
use Rattle.client_model.specs.meaning.States.{Repeating}
use Rattle.client_model.specs.meaning.Verifying.{index_of}
use Rattle.client_model.specs.meaning.Terms.{Phase, Replaying}
use Rattle.world_model.specs.meaning.Frames.{Owner, Sent, Reply, Handled}
use Rattle.world_model.specs.meaning.Links.{Link, link_at, told_by}
use Rattle.world_model.specs.meaning.Clients.{Doing, Client, client_at}
use Rattle.world_model.specs.records.Hold.{is_by_held, is_awaited, is_call, same_held, goes_by}
use Rattle.world_model.specs.Orderly.{Orderly}
use Rattle.world_model.specs.records.Basic.{is_named}
use Rattle.world_model.specs.records.Wire.{is_reply_front, handled_from}
use Rattle.world_model.specs.records.Number.{is_near, is_ahead, ahead_rightly, is_counted, is_told, made_entry, last_served_made, last_is_stopped_commit, cond_held, last_told}
use Rattle.world_model.specs.Parts.{is_answered, is_rep, is_out, out_frame, is_commit_frame, is_commit_call, served_reps, number_of, held_number, implies}
use Rattle.world_model.specs.Sames.{same_up, same_sent, same_owners, owned_by}
use Rattle.world_model.specs.Traced.{Traced}
use Rattle.world_model.proofs.number.LinkCounts.{extra_few}
use Rattle.world_model.proofs.events.Tests.{eq_from, le_from, same_session_is}
use Rattle.world_model.proofs.events.AllLinks.{at_link}
use Rattle.world_model.proofs.wire.FrontLists.{last_kept}
use Rattle.world_model.proofs.number.GoesBy.{by_its}
use Rattle.world_model.proofs.hold.Held.{held_now, doing_course}
use Rattle.world_model.proofs.basic.LinkLives.{counts_commits}
use Rattle.world_model.proofs.basic.LinkNamed.{is_of_one, held_of, named_items, named_held}
use Rattle.world_model.proofs.number.LinkTold.{tells, taken_tells}
use Rattle.world_model.proofs.number.RepliesRise.{number_in, next_number}
use Rattle.world_model.proofs.wire.SentLinks.{awaits}

-- THE FRAME THAT IS OUT ---------------------------------------------------------------------------

abbrev is_marked : Up → Bool
is_marked (up.Call true kept call) = true
is_marked _ = false

call_marked : (index : ℕ) (sent : Sent) (frame : Up) → is_call true index sent frame ≡ true → is_marked frame ≡ true
call_marked index sent (up.Call true kept call) is = refl
call_marked index sent (up.Call false kept call) is = absurd (let none : ⊥ = cc in none)
call_marked index sent up.Connect is = absurd (let none : ⊥ = cc in none)
call_marked index sent (up.Begin settings) is = absurd (let none : ⊥ = cc in none)
call_marked index sent (up.Outcome x) is = absurd (let none : ⊥ = cc in none)
call_marked index sent up.End is = absurd (let none : ⊥ = cc in none)
call_marked index sent up.Close is = absurd (let none : ⊥ = cc in none)

-- a call with the mark commits nothing
marked_none : (a b : Up) → same_up a b ≡ true → is_marked b ≡ true → is_commit_frame a ≡ false
marked_none (up.Call true k c) b same is = refl
marked_none (up.Call false k c) (up.Call true l d) same is = absurd (let none : ⊥ = cc in none)
marked_none (up.Call false k c) (up.Call false l d) same is = absurd (let none : ⊥ = cc in none)
marked_none (up.Call false k c) up.Connect same is = absurd (let none : ⊥ = cc in none)
marked_none (up.Call false k c) (up.Begin settings) same is = absurd (let none : ⊥ = cc in none)
marked_none (up.Call false k c) (up.Outcome x) same is = absurd (let none : ⊥ = cc in none)
marked_none (up.Call false k c) up.End same is = absurd (let none : ⊥ = cc in none)
marked_none (up.Call false k c) up.Close same is = absurd (let none : ⊥ = cc in none)
marked_none up.Connect b same is = refl
marked_none (up.Begin settings) b same is = refl
marked_none (up.Outcome x) b same is = refl
marked_none up.End b same is = refl
marked_none up.Close b same is = refl

-- what is out is marked
out_marked : (owner : Owner) (state : Repeating) (link : Link) → awaits owner (Replaying state) link ≡ true → (sent : Sent) × ((out_frame link ≡ Some sent) × (is_marked sent.frame ≡ true))
out_marked owner state link out = by (last_or None link.sent) refl (and_parts (is_out link) (option_map_or (λ sent. is_answered sent.frame && (owned_by owner sent && is_awaited (Replaying state) sent)) (last_or None link.sent) false) out).1
  where
    by : (found : Option Sent) → last_or None link.sent ≡ found → option_map_or (λ sent. is_answered sent.frame && (owned_by owner sent && is_awaited (Replaying state) sent)) found false ≡ true
        → (sent : Sent) × ((out_frame link ≡ Some sent) × (is_marked sent.frame ≡ true))
    by None is here = absurd (let none : ⊥ = cc in none)
    by (Some sent) is here =
        let one = and_parts (is_answered sent.frame) (owned_by owner sent && is_awaited (Replaying state) sent) here in
        let two = and_parts (owned_by owner sent) (is_awaited (Replaying state) sent) one.1 in
        (sent, (last_kept is_rep None None link.sent (λ never. refl) (ap (λ (last : Option Sent). option_map_or is_rep last false) is ∙ one.0) ∙ is, call_marked (index_of state) sent sent.frame two.1))

-- so the session committed no more than is held
made_none : (sent : Sent) (found : Option Handled) → is_marked sent.frame ≡ true → option_map_or (λ one. made_entry one.served.item && (is_commit_call one.sent && option_map_or (same_sent one.sent) (Some sent) false)) found false ≡ true → ⊥
made_none sent None marked made = let none : ⊥ = cc in none
made_none sent (Some one) marked made =
    let first = and_parts (made_entry one.served.item) (is_commit_call one.sent && same_sent one.sent sent) made in
    let second = and_parts (is_commit_call one.sent) (same_sent one.sent sent) first.1 in
    let third = and_parts (same_owners one.sent.owner sent.owner) ((one.sent.call == sent.call) && same_up one.sent.frame sent.frame) second.1 in
    let none : is_commit_frame one.sent.frame ≡ false = marked_none one.sent.frame sent.frame (and_parts (one.sent.call == sent.call) (same_up one.sent.frame sent.frame) third.1).1 marked in
    let never : ⊥ = cc in never

few_held : (number held extra : ℕ) (ahead : Bool) → (number == held + 1) ≡ ahead → ahead ≡ false → number ≤ held + extra → extra ≤ 1 → number ≤ held
few_held number held extra true is none most few = absurd (let never : ⊥ = cc in never)
few_held number held extra false is none most few = grind (arith, nat_tests)

not_ahead : (t : Traced) (link : Link) (sent : Sent) → out_frame link ≡ Some sent → is_marked sent.frame ≡ true → ahead_rightly t link ≡ true → is_near t link ≡ true → number_of t.entries link ≤ held_number link
not_ahead t link sent out marked ahead near =
    let most : number_of t.entries link ≤ held_number link + cond_held link =
    le_from (number_of t.entries link) (held_number link + cond_held link) (and_parts (nat_le (held_number link) (number_of t.entries link)) (nat_le (number_of t.entries link) (held_number link + cond_held link)) near).1 in
    few_held (number_of t.entries link) (held_number link) (cond_held link) (is_ahead t link) refl (by (is_ahead t link) ahead) most (extra_few (is_some link.held))
  where
    by : (test : Bool) → implies test (is_out link && (last_served_made link && not (list_any is_commit_call link.up))) ≡ true → test ≡ false
    by false here = refl
    by true here =
        let made : last_served_made link ≡ true = (and_parts (last_served_made link) (not (list_any is_commit_call link.up)) (and_parts (is_out link) (last_served_made link && not (list_any is_commit_call link.up)) here).1).0 in
        absurd (made_none sent (last_or None (served_reps link)) marked
        (subst (λ (frame : Option Sent). option_map_or (λ one. made_entry one.served.item && (is_commit_call one.sent && option_map_or (same_sent one.sent) frame false)) (last_or None (served_reps link)) false ≡ true) out made))

pub counted_few : (number commits : ℕ) (stopped : Bool) → ((number == commits) || ((number == commits + 1) && stopped)) ≡ true → commits ≤ number
counted_few number commits stopped is = by (or_cases (number == commits) ((number == commits + 1) && stopped) is)
  where
    by : ((number == commits) ≡ true) ⊎ (((number == commits + 1) && stopped) ≡ true) → commits ≤ number
    by (inl same) = let is : number ≡ commits = eq_from number commits same in omega arith
    by (inr more) = let is : number ≡ commits + 1 = eq_from number (commits + 1) (and_parts (number == commits + 1) stopped more).0 in omega arith

-- THE IDENTIFIER ----------------------------------------------------------------------------------

pub told_same : (told held : Option Ltxid) → same_held told held ≡ true → number_in told ≡ number_in held
told_same None None same = refl
told_same (Some a) (Some b) same = ap (λ (x : Ltxid). x.number) ((same_ltxid_decides a b).0 same)
told_same None (Some b) same = absurd (let none : ⊥ = cc in none)
told_same (Some a) None same = absurd (let none : ⊥ = cc in none)

one_session : (session : Option SessionId) (a b : SessionId) → is_of_one session a ≡ true → is_of_one session b ≡ true → a ≡ b
one_session None a b one other = absurd (let none : ⊥ = cc in none)
one_session (Some session) a b one other = same_session_is a session one ∙ sym (same_session_is b session other)

tells_one : (session : Option SessionId) (reply : Reply) (x : Ltxid) → told_by (Took reply.frame true) ≡ Some x → tells session reply.frame ≡ held_of session (Some x)
tells_one session reply x tell = by reply.frame ∙ ap (held_of session) tell
  where
    by : (frame : Down) → tells session frame ≡ held_of session (told_by (Took frame true))
    by (down.Hello y) = refl
    by (down.Reply answers draws y) = refl
    by (down.OutcomeIs a b) = refl
    by (down.OutcomeRefused a b) = refl
    by down.Blocked = refl
    by (down.Refused cause) = refl

same_parts : (h x : Ltxid) → session_of h ≡ session_of x → h.number ≡ x.number → same_ltxid h x ≡ true
same_parts h x session number =
    (same_ltxid_decides h x).1 (λ i. record { incarnation = (session i).incarnation; session = (session i).session; number = number i })

module _ (t : Traced) (link : Link) (named : is_named link ≡ true) (counts : counts_commits link ≡ true) (handled : handled_from 0 link.served ≡ true) (wire : is_reply_front link ≡ true) (told : is_told link ≡ true)
    (near : is_near t link ≡ true) (counted : is_counted t link ≡ true) (ahead : ahead_rightly t link ≡ true) where
  -- on the connection of a request in a replay
  again_on : (owner : Owner) (state : Repeating) (reply : Reply) (left : List Reply) (x : Ltxid) (held : Option Ltxid) → link.held ≡ held → awaits owner (Replaying state) link ≡ true → link.down ≡ reply ∷ left → told_by (Took reply.frame true) ≡ Some x
      → same_held (Some state.ltxid) held ≡ true → same_held (Some state.ltxid) (Some x) ≡ true
  again_on owner state reply left x None is out down tell here = absurd (let none : ⊥ = cc in none)
  again_on owner state reply left x (Some h) is out down tell here =
      let marked = out_marked owner state link out in
      let few : number_of t.entries link ≤ held_number link = not_ahead t link marked.0 marked.1.0 marked.1.1 ahead near in
      let commits : link.commits ≤ number_of t.entries link = counted_few (number_of t.entries link) link.commits (last_is_stopped_commit link) counted in
      let between = next_number link reply left x counts handled wire down tell in
      let least : number_in (last_told link.taken) ≤ x.number = between.0 in
      let most : x.number ≤ link.commits = between.1 in
      let last : number_in (last_told link.taken) ≡ number_in link.held = told_same (last_told link.taken) link.held told in
      let number : held_number link ≡ h.number = ap (λ (one : Option Ltxid). option_map_or (λ y. y.number) one 0) is in
      let same : h.number ≡ x.number = omega arith in
      let own : is_of_one link.session (session_of h) ≡ true = subst (λ (one : Option Ltxid). held_of link.session one ≡ true) is (named_held link.session link.served link.held named) in
      let its : is_of_one link.session (session_of x) ≡ true = sym (tells_one link.session reply x tell) ∙ taken_tells link.session link reply left (named_items link.session link.served link.held named) handled wire down in
      let equal : state.ltxid ≡ h = (same_ltxid_decides state.ltxid h).0 here in
      subst (λ (y : Ltxid). same_ltxid y x ≡ true) (sym equal) (same_parts h x (one_session link.session (session_of h) (session_of x) own its) same)

-- OF EACH REQUEST ---------------------------------------------------------------------------------

pub again_now : (t : Traced) → Orderly t
    → (number connection : ℕ) (client : Client) (doing : Doing) (link : Link) (reply : Reply) (left : List Reply) → client_at t.machine.clients number ≡ Some client → client.now ≡ Some doing → doing.connection ≡ Some connection
    → link_at t.machine.links connection ≡ Some link → link.down ≡ reply ∷ left → (state : Repeating) → doing.talk.phase ≡ Replaying state → (x : Ltxid) → told_by (Took reply.frame true) ≡ Some x → same_held (Some state.ltxid) (Some x) ≡ true
again_now t inv number connection client doing link reply left here is has there down state phase x tell =
    let owner : Owner = record { client = number; place = length client.past } in
    let out : awaits owner doing.talk.phase link ≡ true = (held_now t inv).out number client doing connection link here is has there in
    let goes : same_held (goes_by doing.talk.phase) link.held ≡ true =
    by_its t.machine.links doing connection link has there (doing_course (is_by_held t) t number client doing inv.hold.by_held here is) in
    let links : List Link = t.machine.links in
    again_on t link (at_link is_named links connection link inv.basic.named there) (at_link counts_commits links connection link inv.basic.commits there) (at_link (λ one. handled_from 0 one.served) links connection link inv.wire.handled there)
    (at_link is_reply_front links connection link inv.wire.replies there) (at_link is_told links connection link inv.number.told there) (at_link (is_near t) links connection link inv.number.near there)
    (at_link (is_counted t) links connection link inv.number.counted there) (at_link (ahead_rightly t) links connection link inv.number.ahead there)
    owner state reply left x link.held refl (subst (λ (one : Phase). awaits owner one link ≡ true) phase out) down tell (subst (λ (one : Phase). same_held (goes_by one) link.held ≡ true) phase goes)
