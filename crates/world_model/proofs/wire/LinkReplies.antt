-- Of each connection: what was taken and may be taken is a front of the replies, and all of them
-- while it is open.
use Rattle.std.proofs.Common.{◌≡◌, refl, sym, ap, subst, ◌∙◌, Bool, true, false, ℕ, ◌+◌, ◌&&◌, length, append_assoc, length-append, List, [], ◌∷◌, ◌++◌, filter_map, Option, Some, None, if◌then◌else◌}
use Rattle.std.specs.Prelude.{◌==◌, option_map, option_to_list}
use Rattle.std.specs.List.{cons_option}
use Rattle.std.proofs.lemmas.Bool.{and_parts, and_from}
use Rattle.std.proofs.lemmas.List.{append-nil}
use Rattle.std.proofs.lemmas.List.Elements.{filter_map-append}
use Rattle.svc_values.specs.declared.frame.Down.{Down}
use Rattle.outage_schedule.specs.declared.item.Served.{Served}
use Rattle.world_model.specs.meaning.Frames.{Sent, Reply, Handled, down_size, whole_front}
use Rattle.world_model.specs.meaning.Links.{Link}
use Rattle.world_model.specs.meaning.Machines.{Machine}
use Rattle.world_model.specs.meaning.Serving.{Front, after_front, on_its_way}
use Rattle.world_model.specs.meaning.Crashing.{fallen_link}
use Rattle.world_model.specs.Parts.{implies}
use Rattle.world_model.specs.Sames.{same_reply, is_front}
use Rattle.world_model.specs.records.Wire.{reply_to, replies_of, is_reply_front}
use Rattle.world_model.proofs.events.Tests.{eq_from, eq_to}
use Rattle.world_model.proofs.wire.SameSelf.{same_reply_self}
use Rattle.world_model.proofs.wire.FrontLists.{Begins, begins_behind, whole_begins, left_begins, front_self, front_more, front_join, front_begun}
use Rattle.world_model.proofs.basic.Ends.{sends_alike, handled_alike, cut_case, fallen_case}
use Rattle.world_model.proofs.basic.LinkLives.{no_test}
use Rattle.world_model.proofs.events.AllLinks.{Keeps}

abbrev reply_test : Bool → List Reply → List Reply → Bool
reply_test opens got given = is_front same_reply got given && implies opens (length got == length given)

in_front : (opens : Bool) (got given : List Reply) → reply_test opens got given ≡ true → is_front same_reply got given ≡ true
in_front opens got given here = (and_parts (is_front same_reply got given) (implies opens (length got == length given)) here).0

-- nothing more is asked where it is not open
shut_test : (opens : Bool) (got given : List Reply) → opens ≡ false → is_front same_reply got given ≡ true → reply_test opens got given ≡ true
shut_test true got given is here = absurd (let none : ⊥ = cc in none)
shut_test false got given is here = and_from (is_front same_reply got given) true here refl

-- ONE REPLY MORE ----------------------------------------------------------------------------------

more_test : (opens : Bool) (got given more : List Reply) → reply_test opens got given ≡ true → reply_test opens (got ++ (if opens then more else [])) (given ++ more) ≡ true
more_test true got given more here =
    let parts = and_parts (is_front same_reply got given) (length got == length given) here in
    let same : length got ≡ length given = eq_from (length got) (length given) parts.1 in
    and_from (is_front same_reply (got ++ more) (given ++ more)) (length (got ++ more) == length (given ++ more))
    (front_join same_reply got given more more parts.0 same (front_self same_reply same_reply_self more))
    (eq_to (length (got ++ more)) (length (given ++ more)) (length-append got more ∙ (ap (λ (n : ℕ). n + length more) same ∙ sym (length-append given more))))
more_test false got given more here =
    shut_test false (got ++ []) (given ++ more) refl (subst (λ (replies : List Reply). is_front same_reply replies (given ++ more) ≡ true) (sym (append-nil got)) (front_more same_reply got given more (in_front false got given here)))

-- the reply to the frame, as a list
abbrev pub given_by : Sent → Option Down → List Reply
given_by sent reply = option_to_list (option_map (λ frame. record { to = sent; frame = frame }) reply)

given_once : (sent : Sent) (reply : Option Down) → cons_option (option_map (λ frame. record { to = sent; frame = frame }) reply) [] ≡ given_by sent reply
given_once sent None = refl
given_once sent (Some frame) = refl

pub replies_more : (served : List Handled) (one : Handled) → filter_map reply_to (served ++ one ∷ []) ≡ filter_map reply_to served ++ given_by one.sent one.reply
replies_more served one = filter_map-append reply_to served (one ∷ []) ∙ ap (λ (more : List Reply). filter_map reply_to served ++ more) (given_once one.sent one.reply)

served_replies : (front : Front) (served : Served) (reply : Option Down) → is_reply_front front.link ≡ true → is_reply_front (after_front front served reply) ≡ true
served_replies front served reply here =
    let link : Link = front.link in
    let way : List Reply = on_its_way link front.first reply in
    let one : Handled = record { sent = front.first; served = served; reply = reply } in
    subst (λ (got : List Reply). reply_test link.is_open got (filter_map reply_to (link.served ++ one ∷ [])) ≡ true) (append_assoc link.taken link.down way)
    (subst (λ (given : List Reply). reply_test link.is_open ((link.taken ++ link.down) ++ way) given ≡ true) (sym (replies_more link.served one))
    (more_test link.is_open (link.taken ++ link.down) (replies_of link) (given_by front.first reply) here))

-- THE END -----------------------------------------------------------------------------------------

-- some of those that may be taken are lost
lost_replies : (taken down left given : List Reply) → Begins left down → is_front same_reply (taken ++ down) given ≡ true → is_front same_reply (taken ++ left) given ≡ true
lost_replies taken down left given b is = front_begun same_reply (taken ++ left) (taken ++ down) given (begins_behind taken left down b) is

shut_replies : (link : Link) → is_reply_front link ≡ true → reply_test false (link.taken ++ link.down) (replies_of link) ≡ true
shut_replies link here = shut_test false (link.taken ++ link.down) (replies_of link) refl (in_front link.is_open (link.taken ++ link.down) (replies_of link) here)

fallen_replies : (event : ℕ) (link : Link) → is_reply_front link ≡ true → is_reply_front (fallen_link event link) ≡ true
fallen_replies event link here =
    let kept : is_front same_reply (link.taken ++ (if link.is_cut then link.down else [])) (replies_of link) ≡ true =
    lost_replies link.taken link.down (if link.is_cut then link.down else []) (replies_of link) (left_begins link.is_cut link.down) (in_front link.is_open (link.taken ++ link.down) (replies_of link) here) in
    fallen_case (λ one. is_reply_front one ≡ true) event link (λ opens. shut_test false _ (replies_of link) refl kept) (λ closed. shut_test link.is_open _ (replies_of link) closed kept)

takes_replies : (link : Link) (reply : Reply) (left : List Reply) → link.down ≡ reply ∷ left → is_reply_front link ≡ true → reply_test link.is_open ((link.taken ++ reply ∷ []) ++ left) (replies_of link) ≡ true
takes_replies link reply left down here =
    let same : link.taken ++ link.down ≡ (link.taken ++ reply ∷ []) ++ left = ap (λ (replies : List Reply). link.taken ++ replies) down ∙ sym (append_assoc link.taken (reply ∷ []) left) in
    subst (λ (got : List Reply). reply_test link.is_open got (replies_of link) ≡ true) same here

pub replies_keep : (m : Machine) → Keeps m no_test is_reply_front
replies_keep m = record {
  at_new = λ up. refl;
  at_sends = λ frames link here. sends_alike (λ one. is_reply_front one ≡ true) m.event frames link (shut_replies link here) here;
  at_takes = λ reply left link old here down. takes_replies link reply left down here;
  at_serves = λ number front served at ordinary old here.
      handled_alike (λ one. is_reply_front one ≡ true) m.event front served (λ reply. shut_replies (after_front front served reply) (served_replies front served reply here)) (λ reply. served_replies front served reply here);
  at_stops = λ number after front served at stopped old here. fallen_replies m.event (after_front front served None) (served_replies front served None here);
  at_cuts = λ up down link opens here.
      cut_case (λ one. is_reply_front one ≡ true) m.event up down link opens
      (shut_test false (link.taken ++ whole_front down_size down link.down) (replies_of link) refl
      (lost_replies link.taken link.down (whole_front down_size down link.down) (replies_of link) (whole_begins down_size down link.down) (in_front link.is_open (link.taken ++ link.down) (replies_of link) here)));
  at_reaps = λ link orphan here. here;
  at_falls = λ link here. fallen_replies m.event link here;
}
