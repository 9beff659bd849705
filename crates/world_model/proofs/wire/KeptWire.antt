-- Of Wire, test by test, at the start and behind each event.
use Rattle.std.proofs.Common.{◌≡◌, refl, true, ◌&&◌, List, [], ◌∷◌}
use Rattle.std.specs.List.{list_all}
use Rattle.std.proofs.lemmas.Bool.{and_parts, and_from}
use Rattle.world_model.specs.OrderlyLaws.{IsKept, WireBegins, WireIsKept}
use Rattle.world_model.specs.meaning.Links.{Link}
use Rattle.world_model.specs.records.Basic.{lives_rightly}
use Rattle.world_model.specs.records.Wire.{is_sent_front, sent_fronts, is_reply_front, reply_fronts, handled_from, are_handled, is_answered_in_order, answered_in_order, up_lives, in_grammar, one_is_out, one_out, is_fresh, are_fresh}
use Rattle.world_model.proofs.events.AllLists.{every_all}
use Rattle.world_model.proofs.events.Happened.{Followed, follow_happens, at_event}
use Rattle.world_model.proofs.events.AllLinks.{links_keep}
use Rattle.world_model.proofs.basic.LinkEnds.{ends_at}
use Rattle.world_model.proofs.basic.LinkLives.{no_test, counts_commits}
use Rattle.world_model.proofs.wire.LinkHandled.{is_all_handled, handled_keep}
use Rattle.world_model.proofs.wire.LinkReplies.{replies_keep}
use Rattle.world_model.proofs.wire.LinkOrder.{is_orderly, order_keeps}
use Rattle.world_model.proofs.wire.LinkSent.{sent_keeps, up_lives_on, lives_keep}
use Rattle.world_model.proofs.wire.LinkStage.{keeps_grammar, grammar_keeps}
use Rattle.world_model.proofs.wire.LinkOut.{out_keeps, fresh_keeps}
use Rattle.world_model.proofs.basic.NamesKept.{is_wired}
use Rattle.world_model.proofs.basic.BasicSessions.{all_wired}
use Rattle.world_model.proofs.wire.SentLinks.{sent_keep}
use Rattle.world_model.proofs.hold.Held.{held_now}

pub handled_law : IsKept are_handled
handled_law = record {
  at_start = λ document. refl;
  at_event = λ before after old new event note items left one inv.
      let by : Followed old.setting old.machine event note items left new.machine = follow_happens old.setting old.machine event note items left new.machine one.follows in
      links_keep old.setting (at_event old.machine) counts_commits is_all_handled (handled_keep (at_event old.machine)) items left by.kind new.machine by.happens inv.basic.commits inv.wire.handled;
}

pub replies_law : IsKept reply_fronts
replies_law = record {
  at_start = λ document. refl;
  at_event = λ before after old new event note items left one inv.
      let by : Followed old.setting old.machine event note items left new.machine = follow_happens old.setting old.machine event note items left new.machine one.follows in
      links_keep old.setting (at_event old.machine) no_test is_reply_front (replies_keep (at_event old.machine)) items left by.kind new.machine by.happens
      (every_all no_test old.machine.links (λ link. refl)) inv.wire.replies;
}

-- what is known of each connection
pub all_orderly : (links : List Link) → list_all is_sent_front links ≡ true → list_all is_reply_front links ≡ true → list_all is_all_handled links ≡ true → list_all lives_rightly links ≡ true → list_all is_orderly links ≡ true
all_orderly [] sent replies handled lives = refl
all_orderly (link ∷ links) sent replies handled lives =
    let one = and_parts (is_sent_front link) (list_all is_sent_front links) sent in
    let two = and_parts (is_reply_front link) (list_all is_reply_front links) replies in
    let three = and_parts (is_all_handled link) (list_all is_all_handled links) handled in
    let four = and_parts (lives_rightly link) (list_all lives_rightly links) lives in
    and_from (is_orderly link) (list_all is_orderly links)
    (and_from (is_sent_front link) (is_reply_front link && (handled_from 0 link.served && lives_rightly link)) one.0
    (and_from (is_reply_front link) (handled_from 0 link.served && lives_rightly link) two.0 (and_from (handled_from 0 link.served) (lives_rightly link) three.0 four.0)))
    (all_orderly links one.1 two.1 three.1 four.1)

pub order_law : IsKept answered_in_order
order_law = record {
  at_start = λ document. refl;
  at_event = λ before after old new event note items left one inv.
      let by : Followed old.setting old.machine event note items left new.machine = follow_happens old.setting old.machine event note items left new.machine one.follows in
      links_keep old.setting (at_event old.machine) is_orderly is_answered_in_order (order_keeps (at_event old.machine)) items left by.kind new.machine by.happens
      (all_orderly old.machine.links inv.wire.sent inv.wire.replies inv.wire.handled inv.basic.life) inv.wire.in_order;
}

pub sent_law : IsKept sent_fronts
sent_law = record {
  at_start = λ document. refl;
  at_event = λ before after old new event note items left one inv.
      let by : Followed old.setting old.machine event note items left new.machine = follow_happens old.setting old.machine event note items left new.machine one.follows in
      sent_keep old.setting (at_event old.machine) no_test is_sent_front (sent_keeps old.setting (at_event old.machine)) (held_now old inv) (every_all no_test old.machine.links (λ link. refl)) inv.wire.sent
      items left by.kind new.machine by.happens;
}

pub left_law : IsKept up_lives
left_law = record {
  at_start = λ document. refl;
  at_event = λ before after old new event note items left one inv.
      let by : Followed old.setting old.machine event note items left new.machine = follow_happens old.setting old.machine event note items left new.machine one.follows in
      sent_keep old.setting (at_event old.machine) (ends_at old.machine.event) up_lives_on (lives_keep old.setting (at_event old.machine) old.machine.event) (held_now old inv) inv.basic.ended inv.wire.left
      items left by.kind new.machine by.happens;
}

pub out_law : IsKept one_out
out_law = record {
  at_start = λ document. refl;
  at_event = λ before after old new event note items left one inv.
      let by : Followed old.setting old.machine event note items left new.machine = follow_happens old.setting old.machine event note items left new.machine one.follows in
      sent_keep old.setting (at_event old.machine) no_test one_is_out (out_keeps old.setting (at_event old.machine)) (held_now old inv) (every_all no_test old.machine.links (λ link. refl)) inv.wire.out
      items left by.kind new.machine by.happens;
}

pub fresh_law : IsKept are_fresh
fresh_law = record {
  at_start = λ document. refl;
  at_event = λ before after old new event note items left one inv.
      let by : Followed old.setting old.machine event note items left new.machine = follow_happens old.setting old.machine event note items left new.machine one.follows in
      sent_keep old.setting (at_event old.machine) is_wired is_fresh (fresh_keeps old.setting (at_event old.machine)) (held_now old inv)
      (all_wired old.machine.links inv.wire.sent inv.wire.grammar inv.wire.replies inv.wire.handled) inv.wire.fresh items left by.kind new.machine by.happens;
}

pub grammar_law : IsKept in_grammar
grammar_law = record {
  at_start = λ document. refl;
  at_event = λ before after old new event note items left one inv.
      let by : Followed old.setting old.machine event note items left new.machine = follow_happens old.setting old.machine event note items left new.machine one.follows in
      sent_keep old.setting (at_event old.machine) no_test keeps_grammar (grammar_keeps old.setting (at_event old.machine)) (held_now old inv) (every_all no_test old.machine.links (λ link. refl)) inv.wire.grammar
      items left by.kind new.machine by.happens;
}

-- AS A WHOLE --------------------------------------------------------------------------------------

pub wire_begins : WireBegins
wire_begins document = record {
  sent = sent_law.at_start document;
  replies = replies_law.at_start document;
  handled = handled_law.at_start document;
  grammar = grammar_law.at_start document;
  out = out_law.at_start document;
  in_order = order_law.at_start document;
  left = left_law.at_start document;
  fresh = fresh_law.at_start document;
}

pub wire_is_kept : WireIsKept
wire_is_kept before after old new event note items left one inv = record {
  sent = sent_law.at_event before after old new event note items left one inv;
  replies = replies_law.at_event before after old new event note items left one inv;
  handled = handled_law.at_event before after old new event note items left one inv;
  grammar = grammar_law.at_event before after old new event note items left one inv;
  out = out_law.at_event before after old new event note items left one inv;
  in_order = order_law.at_event before after old new event note items left one inv;
  left = left_law.at_event before after old new event note items left one inv;
  fresh = fresh_law.at_event before after old new event note items left one inv;
}
