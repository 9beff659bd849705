-- What is told of connections at a crash that serves a frame first, or stops it.
use Rattle.std.proofs.Common.{◌≡◌, ◌≢◌, refl, sym, ap, subst, ◌∙◌, Bool, true, false, ℕ, ◌<◌, List, [], map, Option, Some, None, option_map, ◌⊎◌, inl, inr, if◌then◌else◌}
use Rattle.svc_values.specs.declared.frame.Down.{Down}
use Rattle.outage_schedule.specs.declared.item.Item.{Item}
use Rattle.outage_schedule.specs.declared.item.Item.TheVariants as item
use Rattle.outage_schedule.specs.declared.item.Served.{Served}
use Rattle.shown_clauses.specs.meaning.Links.{Link as Seen, link_of, new_link, stopped_connected, stopped_on, in_turn, is_connect, end_link, end_session}
use Rattle.world_model.specs.meaning.Crashing.{fallen_link}
use Rattle.world_model.specs.meaning.Links.{Link, link_at, with_link, ends}
use Rattle.world_model.specs.meaning.Serving.{Front, is_blocked, reply_of, commits_after, after_front, handled}
use Rattle.shown_laws.specs.Connections.{TellsReplies, TellsAt, Named}
use Rattle.shown_laws.proofs.links.ConnectionsTold.{AllTold, falls_at}
use Rattle.shown_laws.proofs.links.EndsTold.{front_end, fallen_end}
use Rattle.shown_laws.proofs.links.ItemsTold.{IsFront, NamesSession, by_named, by_unnamed, unnamed_replies}
use Rattle.shown_laws.proofs.events.Lookups.{either, with_own, with_other, all_changed}
use Rattle.shown_laws.proofs.links.RepliesTold.{ends_case, quiet_replies, crashed_replies, fallen_replies}
use Rattle.shown_laws.proofs.links.SeenLists.{new_own, new_others}
use Rattle.shown_laws.proofs.links.TurnsTold.{in_turn_is, end_turned, turned_told, crash_ends}

-- a connection that a Blocked ended falls as one that it did not
pub fallen_handled : (event : ℕ) (front : Front) (served : Served) → fallen_link event (handled event front served) ≡ fallen_link event (after_front front served (reply_of served.session (commits_after front.link served.item) served.item))
fallen_handled event front served = by (is_blocked served.item)
  where
    after : Link
    after = after_front front served (reply_of served.session (commits_after front.link served.item) served.item)

    twice : (link : Link) → fallen_link event (ends event link) ≡ fallen_link event link
    twice link = at link.is_open refl
      where
        at : (test : Bool) → link.is_open ≡ test → fallen_link event (ends event link) ≡ fallen_link event link
        at true opens =
            ap (λ (opened : Bool). fallen_link event (if opened then record link { is_open = false; ended = Some event } else link)) opens
            ∙ sym (ap (λ (opened : Bool). record (if opened then record link { is_open = false; ended = Some event } else link) { is_living = false; up = []; down = if link.is_cut then link.down else [] }) opens)
        at false shut = ap (λ (opened : Bool). fallen_link event (if opened then record link { is_open = false; ended = Some event } else link)) shut

    by : (blocked : Bool) → fallen_link event (if blocked then ends event (after_front front served (reply_of served.session (commits_after front.link served.item) served.item)) else after_front front served (reply_of served.session (commits_after front.link served.item) served.item))
        ≡ fallen_link event (after_front front served (reply_of served.session (commits_after front.link served.item) served.item))
    by true = twice (after_front front served (reply_of served.session (commits_after front.link served.item) served.item))
    by false = refl

module _ (number event : ℕ) (front : Front) (served : Served) (links : List Link) (told : List Seen) (all : AllTold links told) (at : IsFront links number front) (names : NamesSession front served) (some : 0 < event) (shut : front.link.is_cut ≡ true → front.link.is_open ≡ false) where
  fallen_replied : (reply : Option Down) (replies : List Served) → TellsReplies front.link replies → TellsReplies (fallen_link event (after_front front served reply)) replies
  fallen_replied None replies is = fallen_replies event (after_front front served None) replies (quiet_replies front served replies is at.living)
  fallen_replied (Some frame) replies is = crashed_replies event front served frame replies is at.living shut

  fallen_session : (reply : Option Down) → (fallen_link event (after_front front served reply)).session ≡ Some served.session
  fallen_session reply = ends_case (λ one. one.session ≡ Some served.session) event (after_front front served reply) (λ opens. refl) (λ closed. refl)

  -- one that has its name
  named_falls : (reply : Option Down) → is_connect served.item ≡ false → TellsAt number (Some (fallen_link event (after_front front served reply))) (option_map (end_link event) (link_of number told))
  named_falls reply other =
      by_named number front served links told all at names (λ one. TellsAt number (Some (fallen_link event (after_front front served reply))) (option_map (end_link event) one)) other
      (λ seen here same. Named (fallen_link event (after_front front served reply)) (end_link event seen) (record {
        connection = here.connection;
        session = fallen_session reply ∙ ap Some same;
        replies = fallen_replied reply seen.replies here.replies;
        end = fallen_end event seen.ended (after_front front served reply) some (front_end seen.ended front served reply here.end);
      }))

  -- one that gets it before the crash
  unnamed_falls : (reply : Option Down) → is_connect served.item ≡ true → TellsAt number (Some (fallen_link event (after_front front served reply))) (option_map (end_link event) (link_of number (stopped_connected number served (link_of number told) told)))
  unnamed_falls reply greets =
      by_unnamed number front served links told all at names
      (λ one. TellsAt number (Some (fallen_link event (after_front front served reply))) (option_map (end_link event) (link_of number (stopped_connected number served one told)))) greets
      (λ here. subst (λ (one : Option Seen). TellsAt number (Some (fallen_link event (after_front front served reply))) (option_map (end_link event) one)) (sym (new_own number (new_link number served.session []) told refl))
      (Named (fallen_link event (after_front front served reply)) (end_link event (new_link number served.session [])) (record {
        connection = refl;
        session = fallen_session reply;
        replies = fallen_replied reply [] (unnamed_replies number front served links told all at names here);
        end = fallen_end event 0 (after_front front served reply) some (front_end 0 front served reply here.end);
      })))

  own_falls : (reply : Option Down) → TellsAt number (Some (fallen_link event (after_front front served reply))) (option_map (end_link event) (link_of number (stopped_on number served served.item told)))
  own_falls reply = by served.item (named_falls reply) (unnamed_falls reply)
    where
      by : (one : Item) → (is_connect one ≡ false → TellsAt number (Some (fallen_link event (after_front front served reply))) (option_map (end_link event) (link_of number told)))
          → (is_connect one ≡ true → TellsAt number (Some (fallen_link event (after_front front served reply))) (option_map (end_link event) (link_of number (stopped_connected number served (link_of number told) told))))
          → TellsAt number (Some (fallen_link event (after_front front served reply))) (option_map (end_link event) (link_of number (stopped_on number served one told)))
      by item.Connect named unnamed = unnamed refl
      by (item.Begin settings) named unnamed = named refl
      by (item.Call marked call answers draws) named unnamed = named refl
      by (item.Blocked call) named unnamed = named refl
      by (item.Outcome x result) named unnamed = named refl
      by item.End named unnamed = named refl
      by item.Close named unnamed = named refl
      by (item.Refused cause) named unnamed = named refl
      by (item.CrashedCall marked call) named unnamed = named refl
      by (item.CrashedOutcome x) named unnamed = named refl

  -- the others are told as before
  other_same : (other : ℕ) → other ≢ number → link_of other (stopped_on number served served.item told) ≡ link_of other told
  other_same other differ = by served.item
    where
      new : (one : Option Seen) → link_of other (stopped_connected number served one told) ≡ link_of other told
      new None = new_others other (new_link number served.session []) told differ
      new (Some seen) = refl

      by : (one : Item) → link_of other (stopped_on number served one told) ≡ link_of other told
      by item.Connect = new (link_of number told)
      by (item.Begin settings) = refl
      by (item.Call marked call answers draws) = refl
      by (item.Blocked call) = refl
      by (item.Outcome x result) = refl
      by item.End = refl
      by item.Close = refl
      by (item.Refused cause) = refl
      by (item.CrashedCall marked call) = refl
      by (item.CrashedOutcome x) = refl

  -- Each connection falls, and the frame that was served or stopped first is told as no reply.
  pub crash_told : (reply : Option Down) (end : Link) → fallen_link event end ≡ fallen_link event (after_front front served reply)
      → AllTold (map (fallen_link event) (with_link links number end)) (map (end_link event) (end_session event served.session served.item (in_turn served.session served.item (stopped_on number served served.item told))))
  crash_told reply end same other =
      subst (λ (l : Option Link). TellsAt other l (link_of other (map (end_link event) (end_session event served.session served.item (in_turn served.session served.item linked))))) (sym (all_changed (fallen_link event) (with_link links number end) other))
      (subst (TellsAt other (option_map (fallen_link event) (link_at (with_link links number end) other))) (sym (crash_ends other event served.session served.item (in_turn served.session served.item linked) some))
      (turned_told other (option_map (fallen_link event) (link_at (with_link links number end) other)) (option_map (end_link event) (link_of other linked)) (option_map (end_link event) (link_of other (in_turn served.session served.item linked)))
      (end_turned event (link_of other linked) (link_of other (in_turn served.session served.item linked)) (in_turn_is other served.session served.item linked)) (by (either other number))))
    where
      linked : List Seen
      linked = stopped_on number served served.item told

      own : TellsAt number (option_map (fallen_link event) (link_at (with_link links number end) number)) (option_map (end_link event) (link_of number (stopped_on number served served.item told)))
      own =
          subst (λ (l : Option Link). TellsAt number (option_map (fallen_link event) l) (option_map (end_link event) (link_of number (stopped_on number served served.item told)))) (sym (with_own links number front.link end at.there))
          (subst (λ (l : Link). TellsAt number (Some l) (option_map (end_link event) (link_of number (stopped_on number served served.item told)))) (sym same) (own_falls reply))

      by : (other ≡ number) ⊎ (other ≢ number) → TellsAt other (option_map (fallen_link event) (link_at (with_link links number end) other)) (option_map (end_link event) (link_of other (stopped_on number served served.item told)))
      by (inl is) = subst (λ (k : ℕ). TellsAt k (option_map (fallen_link event) (link_at (with_link links number end) k)) (option_map (end_link event) (link_of k (stopped_on number served served.item told)))) (sym is) own
      by (inr differ) =
          subst (λ (l : Option Link). TellsAt other (option_map (fallen_link event) l) (option_map (end_link event) (link_of other (stopped_on number served served.item told)))) (sym (with_other links number other end differ))
          (subst (λ (one : Option Seen). TellsAt other (option_map (fallen_link event) (link_at links other)) (option_map (end_link event) one)) (sym (other_same other differ)) (falls_at other event (link_at links other) (link_of other told) some (all other)))
