-- What a connection stands for behind each of its changes.
use Rattle.std.proofs.Common.{◌≡◌, ℕ, Bool, true, false, List, [], ◌∷◌, ◌++◌, Option, Some, None, Ok, length, map, min, refl, sym, ap, ◌∙◌, subst, inl, inr}
use Rattle.std.specs.Prelude.{◌⊎◌, IfSome, nat_le, ◌-◌, sum_by, ◌&&◌, is_none, is_some, option_and_then, if◌then◌else◌}
use Rattle.std.specs.Option.{option_or}
use Rattle.std.specs.List.{list_any, AllByRecursion}
use Rattle.std.proofs.lemmas.List.{append-nil, map-append}
use Rattle.std.proofs.lemmas.List.Sums.{sum_by-cons}
use Rattle.svc_values.specs.Identifiers.{IsLtxid}
use Rattle.svc_values.specs.declared.entry.Ltxid.{Ltxid}
use Rattle.svc_values.specs.declared.frame.Up.{Up}
use Rattle.svc_values.specs.declared.frame.Down.{Down}
use Rattle.svc_values.specs.declared.frame.Down.TheVariants as down
use Rattle.canon_bytes.specs.meaning.UpBytes.{spell_up}
use Rattle.canon_bytes.specs.UpBytes.{FitsUp, IsMadeUp}
use Rattle.canon_bytes.specs.meaning.DownBytes.{spell_down}
use Rattle.canon_bytes.specs.DownBytes.{FitsDown, IsMadeDown}
use Rattle.frame_wire.specs.Stream.{Pending, nothing_pending, with_bytes, with_first, whole_front as front_in, first_payload, IsNext}
use Rattle.frame_wire.specs.Steps.{stream, AreFrames, frame_size, IsWholeFront}
use Rattle.client_model.specs.declared.input.Input.TheVariants.{Took}
use Rattle.outage_schedule.specs.declared.note.Reached.{Reached}
use Rattle.world_model.specs.meaning.Frames.{Sent, Reply, up_size, down_size, whole_front}
use Rattle.world_model.specs.meaning.Links.{Link, new_link, ends, is_close, sends, told_by}
use Rattle.world_model.specs.meaning.Serving.{Front, first_of, front_of}
use Rattle.world_model.specs.meaning.Cutting.{reached_of, cut_link, reaped_link}
use Rattle.world_model.specs.meaning.Crashing.{fallen_link}
use Rattle.world_core.specs.declared.connection.Connection.{Connection}
use Rattle.world_core.specs.Carrying.{Carries}
use Rattle.world_core.specs.Linked.{up_frames, down_frames, told_by_frame, may_be_served, IsLink, GivesFront, GivesReply}
use Rattle.world_core.proofs.Carrying.{carries_none, carries_on, carries_more, carries_empty, front_is_next, none_is_next, carries_front, carried_size, OneAnswer}

abbrev Ups : Bool → List Up → Pending → Type 0
Ups = Carries spell_up FitsUp

abbrev Downs : Bool → List Down → Pending → Type 0
Downs = Carries spell_down FitsDown

-- opened
pub new_is_link : (up down : Pending) → up ≡ nothing_pending → down ≡ nothing_pending → IsLink (record { ended = None; is_cut = false; is_living = true; session = None; held = None; up = up; down = down }) new_link
new_is_link up down e d = record {
  is_open = refl;
  ended = refl;
  cut = refl;
  living = refl;
  session = refl;
  ltxid = refl;
  up = subst (Ups true []) (sym e) (carries_none spell_up FitsUp true);
  made = tt;
  down = subst (Downs true []) (sym d) (carries_none spell_down FitsDown true);
  told = tt;
  known = tt;
}

-- MADE --------------------------------------------------------------------------------------------

abbrev AreMade : List Sent → Type 0
AreMade sent = AllByRecursion IsMadeUp (up_frames sent)

made_more : (sent more : List Sent) → AreMade sent → AreMade more → AreMade (sent ++ more)
made_more [] more a b = b
made_more (one ∷ sent) more a b = (a.0, made_more sent more a.1 b)

made_front : (bytes : ℕ) (sent : List Sent) → AreMade sent → AreMade (whole_front up_size bytes sent)
made_front bytes [] made = tt
made_front bytes (one ∷ sent) made =
    elim (nat_le (up_size one) bytes) as (λ b. AreMade (if b then one ∷ whole_front up_size (bytes - up_size one) sent else [])) [ true ↦ (made.0, made_front (bytes - up_size one) sent made.1) | false ↦ tt ]

abbrev AreTold : List Reply → Type 0
AreTold replies = AllByRecursion IsMadeDown (down_frames replies)

told_front : (bytes : ℕ) (replies : List Reply) → AreTold replies → AreTold (whole_front down_size bytes replies)
told_front bytes [] told = tt
told_front bytes (one ∷ replies) told =
    elim (nat_le (down_size one) bytes) as (λ b. AreTold (if b then one ∷ whole_front down_size (bytes - down_size one) replies else [])) [ true ↦ (told.0, told_front (bytes - down_size one) replies told.1) | false ↦ tt ]

-- the identifier that comes with a frame, or else the one that was held
known_by : (frame : Down) (held : Option Ltxid) → IsMadeDown frame → IfSome held IsLtxid → IfSome (option_or (told_by_frame frame) held) IsLtxid
known_by (down.Hello ltxid) held made known = made
known_by (down.Reply answers draws ltxid) held made known = made
known_by (down.OutcomeIs committed completed) held made known = known
known_by (down.OutcomeRefused who next) held made known = known
known_by down.Blocked held made known = known
known_by (down.Refused cause) held made known = known

-- SENDING -----------------------------------------------------------------------------------------

pending_nil : (held : Pending) → held ≡ with_bytes held []
pending_nil held = ap (λ (b : List ℕ). with_bytes (record { bytes = []; bad = held.bad }) b) (sym (append-nil held.bytes))

pub none_sent : (sent : List Sent) → up_frames sent ≡ [] → sent ≡ []
none_sent [] e = refl
none_sent (one ∷ more) e = absurd (let none : ⊥ = cc in none)

more_carried : (c : Connection) (link : Link) (sent : List Sent) (frames : List Up) → up_frames sent ≡ frames → (frames ≡ []) ⊎ (c.ended ≡ None) → AreFrames spell_up FitsUp frames → IsLink c link
    → Ups link.is_open (up_frames (link.up ++ sent)) (with_bytes c.up (stream spell_up FitsUp frames))
more_carried c link sent frames same (inl none) are is =
    let no_frames : sent ≡ [] = none_sent sent (same ∙ none) in
    let first : Ups link.is_open (up_frames (link.up ++ [])) (with_bytes c.up []) = rw (append-nil link.up) (subst (Ups link.is_open (up_frames link.up)) (pending_nil c.up) is.up) in
    let second : Ups link.is_open (up_frames (link.up ++ sent)) (with_bytes c.up []) = subst (λ (s : List Sent). Ups link.is_open (up_frames (link.up ++ s)) (with_bytes c.up [])) (sym no_frames) first in
    subst (λ (f : List Up). Ups link.is_open (up_frames (link.up ++ sent)) (with_bytes c.up (stream spell_up FitsUp f))) (sym none) second
more_carried c link sent frames same (inr unended) are is =
    let opened : link.is_open ≡ true = is.is_open ∙ ap (λ (e : Option ℕ). is_none e) unended in
    let before : Ups true (up_frames link.up) c.up = subst (λ (b : Bool). Ups b (up_frames link.up) c.up) opened is.up in
    let after : Ups true (up_frames link.up ++ frames) (with_bytes c.up (stream spell_up FitsUp frames)) = carries_more spell_up FitsUp (up_frames link.up) frames c.up before are in
    let all : up_frames link.up ++ frames ≡ up_frames (link.up ++ sent) = ap (λ (f : List Up). up_frames link.up ++ f) (sym same) ∙ sym (map-append (λ (one : Sent). one.frame) link.up sent) in
    subst (λ (b : Bool). Ups b (up_frames (link.up ++ sent)) (with_bytes c.up (stream spell_up FitsUp frames))) (sym opened)
    (subst (λ (f : List Up). Ups true f (with_bytes c.up (stream spell_up FitsUp frames))) all after)

abbrev sending : List Sent → Link → Link
sending sent link = record link { sent = link.sent ++ sent; up = link.up ++ sent }

pub sending_is_link : (c : Connection) (up : Pending) (frames : List Up) → (frames ≡ []) ⊎ (c.ended ≡ None) → AllByRecursion IsMadeUp frames → AreFrames spell_up FitsUp frames → up ≡ with_bytes c.up (stream spell_up FitsUp frames)
    → (link : Link) (sent : List Sent) → up_frames sent ≡ frames → IsLink c link → IsLink (record c { up = up }) (sending sent link)
sending_is_link c up frames open_for made are pushed link sent same is = record {
  is_open = is.is_open;
  ended = is.ended;
  cut = is.cut;
  living = is.living;
  session = is.session;
  ltxid = is.ltxid;
  up = subst (Ups link.is_open (up_frames (link.up ++ sent))) (sym pushed) (more_carried c link sent frames same open_for are is);
  made = made_more link.up sent is.made (subst (AllByRecursion IsMadeUp) (sym same) made);
  down = is.down;
  told = is.told;
  known = is.known;
}

any_close : (sent : List Sent) → list_any (λ one. is_close one.frame) sent ≡ list_any is_close (up_frames sent)
any_close [] = refl
any_close (one ∷ sent) = rw (any_close sent) refl

-- by whether one of the frames is a Close
pub sends_by : (event : ℕ) (frames : List Up) (b : Bool) → list_any is_close frames ≡ b → (link : Link) (sent : List Sent) → up_frames sent ≡ frames
    → (if b then ends event (sending sent link) else sending sent link) ≡ sends event sent link
sends_by event frames b closes link sent same =
    let tested : list_any (λ one. is_close one.frame) sent ≡ b = any_close sent ∙ ap (list_any is_close) same ∙ closes in
    rw tested refl

-- SERVING AND TAKING ------------------------------------------------------------------------------

-- whatever the one carries, the other does
abbrev Carried : {F : Type 0} → (F → List ℕ) → (F → Type 0) → Pending → Pending → Type 0
Carried {F} spell fits after kept = (is_open : Bool) (frames : List F) → Carries spell fits is_open frames after → Carries spell fits is_open frames kept

gives_front : (c : Connection) (after kept : Pending) (frame : Option Up) → OneAnswer spell_up FitsUp → IsNext spell_up FitsUp c.up (Ok frame) after → Carried spell_up FitsUp after kept
    → (link : Link) (sent : List Sent) → link.up ≡ sent → IsLink c link → GivesFront link (first_of link sent) frame (record c { up = kept })
gives_front c after kept frame one next back link [] same is =
    let before : Ups link.is_open [] c.up = subst (λ (s : List Sent). Ups link.is_open (up_frames s) c.up) same is.up in
    let told = none_is_next spell_up FitsUp one link.is_open c.up after frame before next in (
      told.0,
      record {
        is_open = is.is_open;
        ended = is.ended;
        cut = is.cut;
        living = is.living;
        session = is.session;
        ltxid = is.ltxid;
        up = subst (λ (s : List Sent). Ups link.is_open (up_frames s) kept) (sym same) (back link.is_open [] told.1);
        made = is.made;
        down = is.down;
        told = is.told;
        known = is.known;
      },
    )
gives_front c after kept frame one next back link (first ∷ later) same is =
    let before : Ups link.is_open (first.frame ∷ up_frames later) c.up = subst (λ (s : List Sent). Ups link.is_open (up_frames s) c.up) same is.up in
    let told = front_is_next spell_up FitsUp one link.is_open first.frame (up_frames later) c.up after frame before next in (
      told.0,
      record {
        is_open = is.is_open;
        ended = is.ended;
        cut = is.cut;
        living = is.living;
        session = is.session;
        ltxid = is.ltxid;
        up = back link.is_open (up_frames later) told.1;
        made = (subst AreMade same is.made).1;
        down = is.down;
        told = is.told;
        known = is.known;
      },
    )

living_front : (b : Bool) (link : Link) → b ≡ true → first_of link link.up ≡ (if b then first_of link link.up else None)
living_front true link e = refl
living_front false link e = absurd (let none : ⊥ = cc in none)

pub gives_living_front : (c : Connection) (after kept : Pending) (frame : Option Up) → OneAnswer spell_up FitsUp → IsNext spell_up FitsUp c.up (Ok frame) after → Carried spell_up FitsUp after kept → c.is_living ≡ true
    → (link : Link) → IsLink c link → GivesFront link (front_of link) frame (record c { up = kept })
gives_living_front c after kept frame one next back living link is =
    subst (λ (front : Option Front). GivesFront link front frame (record c { up = kept })) (living_front link.is_living link (is.living ∙ living)) (gives_front c after kept frame one next back link link.up refl is)

no_front : (link : Link) (up : List Sent) (after : Connection) → GivesFront link (first_of link up) None after → is_some (first_of link up) ≡ false
no_front link [] after gives = refl
no_front link (first ∷ later) after gives = absurd (let clash : ◌≡◌ {A = Option Up} None (Some first.frame) = gives.0 in let none : ⊥ = cc in none)

some_front : (c : Connection) (link : Link) (up : List Sent) (payload : List ℕ) → link.up ≡ up → IsLink c link → first_payload c.up.bytes ≡ Some payload → is_some (first_of link up) ≡ true
some_front c link [] payload same is some =
    let before : Ups link.is_open [] c.up = subst (λ (s : List Sent). Ups link.is_open (up_frames s) c.up) same is.up in
    let clash : ◌≡◌ {A = Option (List ℕ)} None (Some payload) = sym before.rest ∙ ap first_payload (sym before.bytes) ∙ some in
    absurd (let none : ⊥ = cc in none)
some_front c link (first ∷ later) payload same is some = refl

front_found : (c : Connection) → OneAnswer spell_up FitsUp → (link : Link) → IsLink c link → (found : Option (List ℕ)) → first_payload c.up.bytes ≡ found → is_some found ≡ is_some (first_of link link.up)
front_found c one link is None none = sym (no_front link link.up (record c { up = c.up }) (gives_front c c.up c.up None one (is.up.good, none, refl) (λ is_open frames there. there) link link.up refl is))
front_found c one link is (Some payload) some = sym (some_front c link link.up payload refl is some)

-- whether a frame may be served is told by whether a whole one stands there
pub front_stands : (c : Connection) → OneAnswer spell_up FitsUp → (link : Link) → IsLink c link → may_be_served c ≡ is_some (front_of link)
front_stands c one link is = by c.is_living is.living
  where
    by : (living : Bool) → link.is_living ≡ living → (living && is_some (first_payload c.up.bytes)) ≡ is_some (front_of link)
    by true lives = front_found c one link is (first_payload c.up.bytes) refl ∙ ap (λ (front : Option Front). is_some front) (living_front link.is_living link lives)
    by false dead = ap (λ (front : Option Front). is_some front) (sym (ap (λ (b : Bool). if b then first_of link link.up else None) dead))

-- its session is ended
pub reaped_is_link : (c : Connection) (kept : Pending) → Carried spell_up FitsUp c.up kept → (link : Link) → IsLink c link → IsLink (record c { is_living = false; up = kept }) (reaped_link link)
reaped_is_link c kept back link is = record {
  is_open = is.is_open;
  ended = is.ended;
  cut = is.cut;
  living = refl;
  session = is.session;
  ltxid = is.ltxid;
  up = back link.is_open (up_frames link.up) is.up;
  made = is.made;
  down = is.down;
  told = is.told;
  known = is.known;
}

told_same : (frame : Down) (alive : Bool) → told_by_frame frame ≡ told_by (Took frame alive)
told_same (down.Hello ltxid) alive = refl
told_same (down.Reply answers draws ltxid) alive = refl
told_same (down.OutcomeIs committed completed) alive = refl
told_same (down.OutcomeRefused who next) alive = refl
told_same down.Blocked alive = refl
told_same (down.Refused cause) alive = refl

abbrev taken : Connection → Pending → Option Down → Connection
taken c after reply = record c { held = option_or (option_and_then told_by_frame reply) c.held; down = after }

pub gives_reply : (c : Connection) (after kept : Pending) (reply : Option Down) → OneAnswer spell_down FitsDown → IsNext spell_down FitsDown c.down (Ok reply) after → Carried spell_down FitsDown after kept
    → (link : Link) (replies : List Reply) → link.down ≡ replies → IsLink c link → GivesReply link replies reply (taken c kept reply)
gives_reply c after kept reply one next back link [] same is =
    let before : Downs link.is_open [] c.down = subst (λ (r : List Reply). Downs link.is_open (down_frames r) c.down) same is.down in
    let told = none_is_next spell_down FitsDown one link.is_open c.down after reply before next in (
      told.0,
      record {
        is_open = is.is_open;
        ended = is.ended;
        cut = is.cut;
        living = is.living;
        session = is.session;
        ltxid = is.ltxid ∙ ap (λ (r : Option Down). option_or (option_and_then told_by_frame r) c.held) (sym told.0);
        up = is.up;
        made = is.made;
        down = subst (λ (r : List Reply). Downs link.is_open (down_frames r) kept) (sym same) (back link.is_open [] told.1);
        told = is.told;
        known = subst (λ (r : Option Down). IfSome (option_or (option_and_then told_by_frame r) c.held) IsLtxid) (sym told.0) is.known;
      },
    )
gives_reply c after kept reply one next back link (first ∷ left) same is =
    let before : Downs link.is_open (first.frame ∷ down_frames left) c.down = subst (λ (r : List Reply). Downs link.is_open (down_frames r) c.down) same is.down in
    let told = front_is_next spell_down FitsDown one link.is_open first.frame (down_frames left) c.down after reply before next in
    let identifier : option_or (told_by (Took first.frame link.is_open)) link.held ≡ option_or (option_and_then told_by_frame reply) c.held =
    rw (told.0, ← told_same first.frame link.is_open, is.ltxid) refl in (
      told.0,
      record {
        is_open = is.is_open;
        ended = is.ended;
        cut = is.cut;
        living = is.living;
        session = is.session;
        ltxid = identifier;
        up = is.up;
        made = is.made;
        down = back link.is_open (down_frames left) told.1;
        told = (subst AreTold same is.told).1;
        known = subst (λ (r : Option Down). IfSome (option_or (option_and_then told_by_frame r) c.held) IsLtxid) (sym told.0) (known_by first.frame c.held (subst AreTold same is.told).0 is.known);
      },
    )

-- ENDING ------------------------------------------------------------------------------------------

ended_at : (b : Bool) (event : ℕ) (link : Link) → link.is_open ≡ b → (if b then record link { is_open = false; ended = Some event } else link).is_open ≡ false
ended_at true event link e = refl
ended_at false event link e = e

pub ends_closed : (event : ℕ) (link : Link) → (ends event link).is_open ≡ false
ends_closed event link = ended_at link.is_open event link refl

pub ends_same : {A : Type 0} (read : Link → A) (event : ℕ) (link : Link) → read (record link { is_open = false; ended = Some event }) ≡ read link → read (ends event link) ≡ read link
ends_same read event link same = elim link.is_open as (λ b. read (if b then record link { is_open = false; ended = Some event } else link) ≡ read link) [ true ↦ same | false ↦ refl ]

ends_by : (b : Bool) (event : ℕ) (link : Link) → b ≡ true → (if b then record link { is_open = false; ended = Some event } else link).ended ≡ Some event
ends_by true event link e = refl
ends_by false event link e = absurd (let none : ⊥ = cc in none)

-- fallen, behind the end: by whether it was cut
pub fallen_is_link : (c : Connection) (event : ℕ) (link : Link) → IsLink c (ends event link) → (up down : Pending) → up ≡ with_first c.up 0
    → ((c.is_cut ≡ false) × (down ≡ with_first c.down 0)) ⊎ ((c.is_cut ≡ true) × (down ≡ c.down))
    → IsLink (record c { is_living = false; up = up; down = down }) (fallen_link event link)
fallen_is_link c event link is up down ups downs = record {
  is_open = is.is_open;
  ended = is.ended;
  cut = is.cut;
  living = refl;
  session = is.session;
  ltxid = is.ltxid;
  up = subst (λ (b : Bool). Ups b [] up) (sym (ends_closed event link)) (subst (Ups false []) (sym ups) (carries_empty spell_up FitsUp (ends event link).is_open (up_frames (ends event link).up) c.up is.up));
  made = tt;
  down = subst (λ (b : Bool). Downs b (down_frames (if link.is_cut then link.down else [])) down) (sym (ends_closed event link)) (by_cut downs);
  told = elim link.is_cut as (λ b. AreTold (if b then link.down else [])) [ true ↦ subst AreTold (ends_same (λ l. l.down) event link refl) is.told | false ↦ tt ];
  known = is.known;
}
  where
    marked : link.is_cut ≡ c.is_cut
    marked = sym (ends_same (λ l. l.is_cut) event link refl) ∙ is.cut

    by_cut : ((c.is_cut ≡ false) × (down ≡ with_first c.down 0)) ⊎ ((c.is_cut ≡ true) × (down ≡ c.down)) → Downs false (down_frames (if link.is_cut then link.down else [])) down
    by_cut (inl (uncut, emptied)) = rw (marked ∙ uncut) (subst (Downs false []) (sym emptied) (carries_empty spell_down FitsDown (ends event link).is_open (down_frames (ends event link).down) c.down is.down))
    by_cut (inr (cut, kept)) =
        let there : Downs false (down_frames (ends event link).down) c.down = carries_on spell_down FitsDown (ends event link).is_open (down_frames (ends event link).down) c.down is.down in
        let same : Downs false (down_frames link.down) c.down = subst (λ (r : List Reply). Downs false (down_frames r) c.down) (ends_same (λ l. l.down) event link refl) there in
        rw (marked ∙ cut) (subst (Downs false (down_frames link.down)) (sym kept) same)

-- CUTTING -----------------------------------------------------------------------------------------

-- the frames of the front are the front of the frames
front_frames : {A F : Type 0} (size : F → ℕ) (frame : A → F) (bytes : ℕ) (all : List A) → map frame (whole_front (λ one. size (frame one)) bytes all) ≡ front_in size bytes (map frame all)
front_frames size frame bytes [] = refl
front_frames size frame bytes (one ∷ all) =
    let more = front_frames size frame (bytes - size (frame one)) all in
    elim (nat_le (size (frame one)) bytes) as (λ b. map frame (if b then one ∷ whole_front (λ one. size (frame one)) (bytes - size (frame one)) all else []) ≡ (if b then frame one ∷ front_in size (bytes - size (frame one)) (map frame all) else []))
    [ true ↦ ap (λ r. frame one ∷ r) more | false ↦ refl ]

sizes : {A F : Type 0} (size : F → ℕ) (frame : A → F) (all : List A) → sum_by (λ one. size (frame one)) all ≡ sum_by size (map frame all)
sizes size frame [] = refl
sizes size frame (one ∷ all) = rw (sum_by-cons (λ one. size (frame one)) one all, sum_by-cons size (frame one) (map frame all), sizes size frame all) refl

abbrev cut_of : Connection → ℕ → ℕ → ℕ → Connection
cut_of c event up down = record c { ended = Some event; is_cut = true; up = with_first c.up (min up (length c.up.bytes)); down = with_first c.down (min down (length c.down.bytes)) }

abbrev LeavesFront : {F : Type 0} → (F → List ℕ) → (F → Type 0) → Type 0
LeavesFront {F} spell fits = (frames : List F) (bytes : ℕ) → AreFrames spell fits frames → IsWholeFront spell fits frames bytes

pub cut_is_link : LeavesFront spell_up FitsUp → LeavesFront spell_down FitsDown → (c : Connection) (event up down : ℕ) → c.ended ≡ None → (link : Link) → IsLink c link → IsLink (cut_of c event up down) (cut_link event up down link)
cut_is_link cut_up cut_down c event up down unended link is =
    let opened : link.is_open ≡ true = is.is_open ∙ ap (λ (e : Option ℕ). is_none e) unended in
    let ups : Ups true (up_frames link.up) c.up = subst (λ (b : Bool). Ups b (up_frames link.up) c.up) opened is.up in
    let downs : Downs true (down_frames link.down) c.down = subst (λ (b : Bool). Downs b (down_frames link.down) c.down) opened is.down in
    let up_front : Ups false (front_in (frame_size spell_up FitsUp) up (up_frames link.up)) (cut_of c event up down).up = carries_front spell_up FitsUp (up_frames link.up) up c.up ups (cut_up (up_frames link.up) up ups.are) in
    let down_front : Downs false (front_in (frame_size spell_down FitsDown) down (down_frames link.down)) (cut_of c event up down).down = carries_front spell_down FitsDown (down_frames link.down) down c.down downs (cut_down (down_frames link.down) down downs.are) in
    let up_there : Ups false (up_frames (whole_front up_size up link.up)) (cut_of c event up down).up = subst (λ (f : List Up). Ups false f (cut_of c event up down).up) (sym (front_frames (frame_size spell_up FitsUp) (λ (one : Sent). one.frame) up link.up)) up_front in
    let down_there : Downs false (down_frames (whole_front down_size down link.down)) (cut_of c event up down).down = subst (λ (f : List Down). Downs false f (cut_of c event up down).down) (sym (front_frames (frame_size spell_down FitsDown) (λ (one : Reply). one.frame) down link.down)) down_front in
    record {
      is_open = ends_closed event link;
      ended = ends_by link.is_open event link opened;
      cut = refl;
      living = ends_same (λ l. l.is_living) event link refl ∙ is.living;
      session = ends_same (λ l. l.session) event link refl ∙ is.session;
      ltxid = ends_same (λ l. l.held) event link refl ∙ is.ltxid;
      up = subst (λ (b : Bool). Ups b (up_frames (whole_front up_size up link.up)) (cut_of c event up down).up) (sym (ends_closed event link)) up_there;
      made = made_front up link.up is.made;
      down = subst (λ (b : Bool). Downs b (down_frames (whole_front down_size down link.down)) (cut_of c event up down).down) (sym (ends_closed event link)) down_there;
      told = told_front down link.down is.told;
      known = is.known;
    }

pub cut_reaches : (c : Connection) (up down : ℕ) → c.ended ≡ None → (link : Link) → IsLink c link
    → ◌≡◌ {A = Reached} (record { up = min up (length c.up.bytes); down = min down (length c.down.bytes) }) (reached_of link up down)
cut_reaches c up down unended link is =
    let opened : link.is_open ≡ true = is.is_open ∙ ap (λ (e : Option ℕ). is_none e) unended in
    let ups : length c.up.bytes ≡ sum_by up_size link.up = carried_size spell_up FitsUp (up_frames link.up) c.up (subst (λ (b : Bool). Ups b (up_frames link.up) c.up) opened is.up) ∙ sym (sizes (frame_size spell_up FitsUp) (λ (one : Sent). one.frame) link.up) in
    let downs : length c.down.bytes ≡ sum_by down_size link.down = carried_size spell_down FitsDown (down_frames link.down) c.down (subst (λ (b : Bool). Downs b (down_frames link.down) c.down) opened is.down) ∙ sym (sizes (frame_size spell_down FitsDown) (λ (one : Reply). one.frame) link.down) in
    rw (ups, downs) refl
