-- What is told of each connection, where one of them changes, or all do.
use Rattle.std.proofs.Common.{◌≡◌, ◌≢◌, refl, sym, ap, subst, ◌∙◌, Bool, true, false, ℕ, ◌+◌, ◌<◌, length, List, [], ◌∷◌, ◌++◌, map, Option, Some, None, option_map, ◌⊎◌, inl, inr, if◌then◌else◌}
use Rattle.std.specs.List.{list_any}
use Rattle.client_model.specs.declared.input.Input.{Input}
use Rattle.shown_clauses.specs.meaning.Fronts.{with_changed, first_item, rest_items}
use Rattle.shown_clauses.specs.meaning.Links.{Link as Seen, is_link, link_of, end_link, acquire, acquire_if, is_hello, take_reply}
use Rattle.world_model.specs.meaning.Crashing.{fallen_link}
use Rattle.world_model.specs.meaning.Cutting.{cut_link}
use Rattle.world_model.specs.meaning.Frames.{Sent, Reply, down_size, whole_front}
use Rattle.world_model.specs.meaning.Links.{Link, new_link, link_at, with_link, changed, is_close, ends, sends, takes}
use Rattle.shown_laws.specs.Connections.{TellsEnd, IsOpen, NeverHeard, TellsLink, IsUnnamed, TellsAt, NoLink, Unnamed, Named}
use Rattle.shown_laws.proofs.links.EndsTold.{sent_end, taken_end, cut_end, fallen_end}
use Rattle.shown_laws.proofs.events.Lookups.{either, with_own, with_other, changed_own, changed_other, all_changed, new_own, new_other, none_new}
use Rattle.shown_laws.proofs.links.RepliesTold.{ends_case, NextReply, next_reply, sent_replies, cut_replies, fallen_replies}
use Rattle.shown_laws.proofs.links.SeenLists.{KeepsNumber, own_changed, others_stay, all_changed as all_seen_changed}

-- what is told of each of these, by its number
abbrev pub AllTold : List Link → List Seen → Type 0
AllTold links told = (number : ℕ) → TellsAt number (link_at links number) (link_of number told)

-- of a connection that is there
pub told_at : (P : Option Seen → Type 0) (number : ℕ) (found : Option Link) (one : Option Seen) (link : Link) → TellsAt number found one → found ≡ Some link
    → (IsUnnamed link → P None) → ((seen : Seen) → TellsLink number link seen → P (Some seen)) → P one
told_at P number _ _ link NoLink is unnamed named = absurd (let none : ⊥ = cc in none)
told_at P number _ _ link (Unnamed other here) is unnamed named = unnamed (let same : other ≡ link = cc in subst IsUnnamed same here)
told_at P number _ _ link (Named other seen here) is unnamed named = named seen (let same : other ≡ link = cc in subst (λ (l : Link). TellsLink number l seen) same here)

-- of one that is not
pub none_told : (number : ℕ) (found : Option Link) (one : Option Seen) → TellsAt number found one → found ≡ None → one ≡ None
none_told number _ _ NoLink is = refl
none_told number _ _ (Unnamed other here) is = absurd (let none : ⊥ = cc in none)
none_told number _ _ (Named other seen here) is = absurd (let none : ⊥ = cc in none)

-- BY NUMBER ---------------------------------------------------------------------------------------

-- one alone changes, and is told to change
pub one_changes : (links news : List Link) (told : List Seen) (number : ℕ) (change : Seen → Seen) → KeepsNumber change → AllTold links told → ((other : ℕ) → other ≢ number → link_at news other ≡ link_at links other)
    → TellsAt number (link_at news number) (option_map change (link_of number told)) → AllTold news (with_changed (is_link number) change told)
one_changes links news told number change keeps all others own other = by (either other number)
  where
    by : (other ≡ number) ⊎ (other ≢ number) → TellsAt other (link_at news other) (link_of other (with_changed (is_link number) change told))
    by (inl same) =
        subst (λ (k : ℕ). TellsAt k (link_at news k) (link_of k (with_changed (is_link number) change told))) (sym same)
        (subst (TellsAt number (link_at news number)) (sym (own_changed number change keeps told)) own)
    by (inr differ) = subst (λ (l : Option Link). TellsAt other l (link_of other (with_changed (is_link number) change told))) (sym (others other differ)) (subst (TellsAt other (link_at links other)) (sym (others_stay number other change keeps differ told)) (all other))

-- one alone changes, and nothing of it is told
pub one_turns : (links news : List Link) (told : List Seen) (number : ℕ) → AllTold links told → ((other : ℕ) → other ≢ number → link_at news other ≡ link_at links other)
    → TellsAt number (link_at news number) (link_of number told) → AllTold news told
one_turns links news told number all others own other = by (either other number)
  where
    by : (other ≡ number) ⊎ (other ≢ number) → TellsAt other (link_at news other) (link_of other told)
    by (inl same) = subst (λ (k : ℕ). TellsAt k (link_at news k) (link_of k told)) (sym same) own
    by (inr differ) = subst (λ (l : Option Link). TellsAt other l (link_of other told)) (sym (others other differ)) (all other)

-- SENDING -----------------------------------------------------------------------------------------

-- what sending and ending leave
sends_case : (P : Link → Type 0) (event : ℕ) (frames : List Sent) (link : Link) → P (record link { sent = link.sent ++ frames; up = link.up ++ frames })
    → P (record link { sent = link.sent ++ frames; up = link.up ++ frames; is_open = false; ended = Some event }) → P (sends event frames link)
sends_case P event frames link before now = by (list_any (λ (sent : Sent). is_close sent.frame) frames)
  where
    sending : Link
    sending = record link { sent = link.sent ++ frames; up = link.up ++ frames }

    by : (test : Bool) → P (if test then ends event sending else sending)
    by true = ends_case P event sending (λ opens. now) (λ shut. before)
    by false = before

abbrev SpeaksOn : Link → List Sent → Type 0
SpeaksOn link frames = (link.is_open ≡ true) ⊎ (frames ≡ [])

sent_named : (number event : ℕ) (frames : List Sent) (link : Link) (seen : Seen) → SpeaksOn link frames → TellsLink number link seen → TellsLink number (sends event frames link) seen
sent_named number event frames link seen speaks is = record {
  connection = is.connection;
  session = sends_case (λ one. one.session ≡ Some seen.session) event frames link is.session is.session;
  replies = sent_replies event frames link seen.replies is.replies;
  end = sent_end event seen.ended frames link speaks is.end;
}

sent_unnamed : (event : ℕ) (frames : List Sent) (link : Link) → SpeaksOn link frames → IsUnnamed link → IsUnnamed (sends event frames link)
sent_unnamed event frames link speaks is = record {
  session = sends_case (λ one. one.session ≡ None) event frames link is.session is.session;
  served = sends_case (λ one. one.served ≡ []) event frames link is.served is.served;
  taken = sends_case (λ one. one.taken ≡ []) event frames link is.taken is.taken;
  down = sends_case (λ one. one.down ≡ []) event frames link is.down is.down;
  end = sent_end event 0 frames link speaks is.end;
}

-- Frames that are sent on a connection change nothing that is told, where it is open or there are
-- none.
pub sends_told : (event : ℕ) (frames : List Sent) (links : List Link) (told : List Seen) (number : ℕ) → AllTold links told → ((link : Link) → link_at links number ≡ Some link → (link.is_open ≡ true) ⊎ (frames ≡ []))
    → AllTold (changed (sends event frames) links number) told
sends_told event frames links told number all speaks =
    one_turns links (changed (sends event frames) links number) told number all (λ other differ. changed_other (sends event frames) links number other differ)
    (subst (λ (l : Option Link). TellsAt number l (link_of number told)) (sym (changed_own (sends event frames) links number)) (by (link_at links number) (link_of number told) refl (all number)))
  where
    by : (found : Option Link) (one : Option Seen) → link_at links number ≡ found → TellsAt number found one → TellsAt number (option_map (sends event frames) found) one
    by _ _ is NoLink = NoLink
    by _ _ is (Unnamed link here) = Unnamed (sends event frames link) (sent_unnamed event frames link (speaks link is) here)
    by _ _ is (Named link seen here) = Named (sends event frames link) seen (sent_named number event frames link seen (speaks link is) here)

-- OPENING -----------------------------------------------------------------------------------------

new_unnamed : IsUnnamed new_link
new_unnamed = record { session = refl; served = refl; taken = refl; down = refl; end = IsOpen refl refl refl }

-- Nothing is told of a connection that is opened.
pub opened_told : (links : List Link) (told : List Seen) → AllTold links told → AllTold (links ++ new_link ∷ []) told
opened_told links told all =
    one_turns links (links ++ new_link ∷ []) told (length links + 1) all (λ other differ. new_other links new_link other differ)
    (subst (λ (l : Option Link). TellsAt (length links + 1) l (link_of (length links + 1) told)) (sym (new_own links new_link))
    (subst (TellsAt (length links + 1) (Some new_link)) (sym (none_told (length links + 1) (link_at links (length links + 1)) (link_of (length links + 1) told) (all (length links + 1)) (none_new links))) (Unnamed new_link new_unnamed)))

-- TAKING ------------------------------------------------------------------------------------------

pub takes_kept : (client event : ℕ) → KeepsNumber (take_reply client event)
takes_kept client event seen = by (is_hello (first_item seen.replies))
  where
    by : (test : Bool) → (acquire_if test client event (record seen { replies = rest_items seen.replies })).connection ≡ seen.connection
    by true = refl
    by false = refl

took_named : (number client event : ℕ) (input : Input) (link : Link) (reply : Reply) (left : List Reply) (seen : Seen) → link.down ≡ reply ∷ left → TellsLink number link seen
    → TellsLink number (takes input reply left link) (take_reply client event seen)
took_named number client event input link reply left seen down is = by (is_hello (first_item seen.replies))
  where
    next : NextReply input link reply left seen.replies
    next = next_reply input link reply left seen.replies is.replies down

    end : TellsEnd (takes input reply left link) seen.ended
    end = taken_end input seen.ended link reply left down is.end

    by : (test : Bool) → TellsLink number (takes input reply left link) (acquire_if test client event (record seen { replies = rest_items seen.replies }))
    by true = record { connection = is.connection; session = is.session; replies = next.behind; end = end }
    by false = record { connection = is.connection; session = is.session; replies = next.behind; end = end }

-- The reply that is taken is told as taken.
pub takes_told : (client event number : ℕ) (input : Input) (links : List Link) (told : List Seen) (link : Link) (reply : Reply) (left : List Reply) → AllTold links told → link_at links number ≡ Some link → link.down ≡ reply ∷ left
    → AllTold (with_link links number (takes input reply left link)) (with_changed (is_link number) (take_reply client event) told)
takes_told client event number input links told link reply left all there down =
    one_changes links (with_link links number (takes input reply left link)) told number (take_reply client event) (takes_kept client event) all (λ other differ. with_other links number other (takes input reply left link) differ)
    (subst (λ (l : Option Link). TellsAt number l (option_map (take_reply client event) (link_of number told))) (sym (with_own links number link (takes input reply left link) there))
    (told_at (λ one. TellsAt number (Some (takes input reply left link)) (option_map (take_reply client event) one)) number (link_at links number) (link_of number told) link (all number) there
    (λ here. absurd (let none : ⊥ = none_down here.down in none))
    (λ seen here. Named (takes input reply left link) (take_reply client event seen) (took_named number client event input link reply left seen down here))))
  where
    none_down : link.down ≡ [] → ⊥
    none_down none = let same : [] ≡ reply ∷ left = sym none ∙ down in let no : ⊥ = cc in no

-- LENDING -----------------------------------------------------------------------------------------

lent_same : (number client event : ℕ) (found : Option Link) (one : Option Seen) → TellsAt number found one → TellsAt number found (option_map (acquire client event) one)
lent_same number client event _ _ NoLink = NoLink
lent_same number client event _ _ (Unnamed link here) = Unnamed link here
lent_same number client event _ _ (Named link seen here) = Named link (acquire client event seen) (record { connection = here.connection; session = here.session; replies = here.replies; end = here.end })

-- Who acquired a connection is not of it.
pub lent_told : (client event number : ℕ) (links : List Link) (told : List Seen) → AllTold links told → AllTold links (with_changed (is_link number) (acquire client event) told)
lent_told client event number links told all =
    one_changes links links told number (acquire client event) (λ seen. refl) all (λ other differ. refl) (lent_same number client event (link_at links number) (link_of number told) (all number))

-- ENDING ------------------------------------------------------------------------------------------

cut_named : (number event up down : ℕ) (link : Link) (seen : Seen) → 0 < event → link.is_open ≡ true → TellsLink number link seen → TellsLink number (cut_link event up down link) (end_link event seen)
cut_named number event up down link seen some opens is = record {
  connection = is.connection;
  session = ends_case (λ one. one.session ≡ Some seen.session) event link (λ now. is.session) (λ shut. is.session);
  replies = cut_replies event up down link seen.replies is.replies opens;
  end = cut_end event up down seen.ended link some is.end;
}

shut_case : (event : ℕ) (link : Link) → (ends event link).is_open ≡ false
shut_case event link = ends_case (λ one. one.is_open ≡ false) event link (λ opens. refl) (λ shut. shut)

cut_unnamed : (event up down : ℕ) (link : Link) → IsUnnamed link → IsUnnamed (cut_link event up down link)
cut_unnamed event up down link is = record {
  session = ends_case (λ one. one.session ≡ None) event link (λ now. is.session) (λ shut. is.session);
  served = ends_case (λ one. one.served ≡ []) event link (λ now. is.served) (λ shut. is.served);
  taken = taken;
  down = empty;
  end = NeverHeard 0 (shut_case event link) taken empty;
}
  where
    taken : (ends event link).taken ≡ []
    taken = ends_case (λ one. one.taken ≡ []) event link (λ now. is.taken) (λ shut. is.taken)

    empty : (cut_link event up down link).down ≡ []
    empty = ap (whole_front down_size down) is.down

-- The event of a cut is told as the end.
pub cuts_told : (event up down number : ℕ) (links : List Link) (told : List Seen) (link : Link) → 0 < event → AllTold links told → link_at links number ≡ Some link → link.is_open ≡ true
    → AllTold (with_link links number (cut_link event up down link)) (with_changed (is_link number) (end_link event) told)
cuts_told event up down number links told link some all there opens =
    one_changes links (with_link links number (cut_link event up down link)) told number (end_link event) (λ seen. refl) all (λ other differ. with_other links number other (cut_link event up down link) differ)
    (subst (λ (l : Option Link). TellsAt number l (option_map (end_link event) (link_of number told))) (sym (with_own links number link (cut_link event up down link) there))
    (told_at (λ one. TellsAt number (Some (cut_link event up down link)) (option_map (end_link event) one)) number (link_at links number) (link_of number told) link (all number) there
    (λ here. Unnamed (cut_link event up down link) (cut_unnamed event up down link here))
    (λ seen here. Named (cut_link event up down link) (end_link event seen) (cut_named number event up down link seen some opens here))))

fallen_named : (number event : ℕ) (link : Link) (seen : Seen) → 0 < event → TellsLink number link seen → TellsLink number (fallen_link event link) (end_link event seen)
fallen_named number event link seen some is = record {
  connection = is.connection;
  session = ends_case (λ one. one.session ≡ Some seen.session) event link (λ now. is.session) (λ shut. is.session);
  replies = fallen_replies event link seen.replies is.replies;
  end = fallen_end event seen.ended link some is.end;
}

fallen_unnamed : (event : ℕ) (link : Link) → IsUnnamed link → IsUnnamed (fallen_link event link)
fallen_unnamed event link is = record {
  session = ends_case (λ one. one.session ≡ None) event link (λ now. is.session) (λ shut. is.session);
  served = ends_case (λ one. one.served ≡ []) event link (λ now. is.served) (λ shut. is.served);
  taken = taken;
  down = by link.is_cut;
  end = NeverHeard 0 (shut_case event link) taken (by link.is_cut);
}
  where
    taken : (ends event link).taken ≡ []
    taken = ends_case (λ one. one.taken ≡ []) event link (λ now. is.taken) (λ shut. is.taken)

    by : (cut : Bool) → (if cut then link.down else []) ≡ []
    by true = is.down
    by false = refl

pub falls_at : (number event : ℕ) (found : Option Link) (one : Option Seen) → 0 < event → TellsAt number found one → TellsAt number (option_map (fallen_link event) found) (option_map (end_link event) one)
falls_at number event _ _ some NoLink = NoLink
falls_at number event _ _ some (Unnamed link here) = Unnamed (fallen_link event link) (fallen_unnamed event link here)
falls_at number event _ _ some (Named link seen here) = Named (fallen_link event link) (end_link event seen) (fallen_named number event link seen some here)

-- The event of a crash is told as the end of all that were open.
pub falls_told : (event : ℕ) (links : List Link) (told : List Seen) → 0 < event → AllTold links told → AllTold (map (fallen_link event) links) (map (end_link event) told)
falls_told event links told some all number =
    subst (λ (l : Option Link). TellsAt number l (link_of number (map (end_link event) told))) (sym (all_changed (fallen_link event) links number))
    (subst (TellsAt number (option_map (fallen_link event) (link_at links number))) (sym (all_seen_changed number (end_link event) (λ seen. refl) told)) (falls_at number event (link_at links number) (link_of number told) some (all number)))
