-- What is told of the end of a connection, where it changes.
use Rattle.std.proofs.Common.{◌≡◌, refl, sym, ap, subst, ◌∙◌, append-nil, Bool, true, false, ℕ, zero, suc, ◌<◌, List, [], ◌∷◌, ◌++◌, Option, option_map, option_to_list, ◌⊎◌, inl, inr, arith, if◌then◌else◌}
use Rattle.std.specs.List.{list_any}
use Rattle.std.proofs.lemmas.Bool.{or_right, or_from}
use Rattle.std.proofs.lemmas.List.Folds.{list_any-append}
use Rattle.svc_values.specs.declared.frame.Down.{Down}
use Rattle.client_model.specs.declared.input.Input.{Input}
use Rattle.outage_schedule.specs.declared.item.Served.{Served}
use Rattle.shown_clauses.specs.meaning.Links.{end_at}
use Rattle.world_model.specs.meaning.Crashing.{fallen_link}
use Rattle.world_model.specs.meaning.Cutting.{cut_link}
use Rattle.world_model.specs.meaning.Frames.{Sent, Reply, down_size, whole_front}
use Rattle.world_model.specs.meaning.Links.{Link, is_close, ends, sends, takes}
use Rattle.world_model.specs.Parts.{is_closed}
use Rattle.world_model.specs.meaning.Serving.{Front, after_front}
use Rattle.shown_laws.specs.Connections.{TellsEnd, IsOpen, HasEnded, WasClosed, NeverHeard}
use Rattle.shown_laws.proofs.links.RepliesTold.{ends_case, with_frames}

-- where nothing changes that it speaks of
pub still_end : (told : ℕ) (a b : Link) → b.is_open ≡ a.is_open → b.ended ≡ a.ended → is_closed b ≡ is_closed a → b.taken ≡ a.taken → (a.is_open ≡ false → a.down ≡ [] → b.down ≡ []) → TellsEnd a told → TellsEnd b told
still_end _ a b opens ended closed taken down (IsOpen is none never) = IsOpen (opens ∙ is) (ended ∙ none) (closed ∙ never)
still_end _ a b opens ended closed taken down (HasEnded event some is at never) = HasEnded event some (opens ∙ is) (ended ∙ at) (closed ∙ never)
still_end _ a b opens ended closed taken down (WasClosed event is was) = WasClosed event (opens ∙ is) (closed ∙ was)
still_end _ a b opens ended closed taken down (NeverHeard event is none empty) = NeverHeard event (opens ∙ is) (taken ∙ none) (down is empty)

-- the first end counts
pub stays_at : (event before : ℕ) → 0 < before → before ≡ end_at event before
stays_at event zero some = absurd (let never : ⊥ = omega (arith, some) in never)
stays_at event (suc before) some = refl

-- An event that ends it, if it was open.
pub ended_end : (event told : ℕ) (link : Link) → 0 < event → TellsEnd link told → TellsEnd (ends event link) (end_at event told)
ended_end event _ link some (IsOpen is none never) =
    ends_case (λ one. TellsEnd one event) event link (λ opens. HasEnded event some refl refl never) (λ closed. absurd (let no : ⊥ = cc in no))
ended_end event _ link some (HasEnded before first is at never) =
    subst (TellsEnd (ends event link)) (stays_at event before first)
    (ends_case (λ one. TellsEnd one before) event link (λ opens. absurd (let no : ⊥ = cc in no)) (λ closed. HasEnded before first is at never))
ended_end event _ link some (WasClosed before is was) =
    ends_case (λ one. TellsEnd one (end_at event before)) event link (λ opens. absurd (let no : ⊥ = cc in no)) (λ closed. WasClosed (end_at event before) is was)
ended_end event _ link some (NeverHeard before is none empty) =
    ends_case (λ one. TellsEnd one (end_at event before)) event link (λ opens. absurd (let no : ⊥ = cc in no)) (λ closed. NeverHeard (end_at event before) is none empty)

-- SENDING AND TAKING ------------------------------------------------------------------------------

abbrev closes : Sent → Bool
closes sent = is_close sent.frame

-- Frames are sent on a connection that is open, and one of them may be a Close.
sent_open : (event told : ℕ) (frames : List Sent) (link : Link) → link.is_open ≡ true → TellsEnd link told → TellsEnd (sends event frames link) told
sent_open event _ frames link opens (HasEnded before some is at never) = absurd (let no : ⊥ = cc in no)
sent_open event _ frames link opens (WasClosed before is was) = absurd (let no : ⊥ = cc in no)
sent_open event _ frames link opens (NeverHeard before is none empty) = absurd (let no : ⊥ = cc in no)
sent_open event _ frames link opens (IsOpen is none never) = by (list_any closes frames) refl
  where
    by : (test : Bool) → list_any closes frames ≡ test → TellsEnd (if test then ends event (with_frames frames link) else with_frames frames link) 0
    by true has =
        ends_case (λ one. TellsEnd one 0) event (with_frames frames link)
        (λ now. WasClosed 0 refl (list_any-append closes link.sent frames ∙ or_right (list_any closes link.sent) (list_any closes frames) has))
        (λ shut. absurd (let no : ⊥ = cc in no))
    by false has = IsOpen is none (list_any-append closes link.sent frames ∙ or_from (list_any closes link.sent) (list_any closes frames) never has)

none_sent : (event told : ℕ) (link : Link) → TellsEnd link told → TellsEnd (sends event [] link) told
none_sent event told link is = still_end told link (with_frames [] link) refl refl (ap (list_any closes) (append-nil link.sent)) refl (λ shut empty. empty) is

pub sent_end : (event told : ℕ) (frames : List Sent) (link : Link) → (link.is_open ≡ true) ⊎ (frames ≡ []) → TellsEnd link told → TellsEnd (sends event frames link) told
sent_end event told frames link (inl opens) is = sent_open event told frames link opens is
sent_end event told frames link (inr none) is = subst (λ (all : List Sent). TellsEnd (sends event all link) told) (sym none) (none_sent event told link is)

pub taken_end : (input : Input) (told : ℕ) (link : Link) (reply : Reply) (left : List Reply) → link.down ≡ reply ∷ left → TellsEnd link told → TellsEnd (takes input reply left link) told
taken_end input _ link reply left down (IsOpen is none never) = IsOpen is none never
taken_end input _ link reply left down (HasEnded event some is at never) = HasEnded event some is at never
taken_end input _ link reply left down (WasClosed event is was) = WasClosed event is was
taken_end input _ link reply left down (NeverHeard event is none empty) = absurd (let no : ⊥ = cc in no)

-- CUTS AND CRASHES --------------------------------------------------------------------------------

whole_none : {A : Type 0} (size : A → ℕ) (bytes : ℕ) (all : List A) → all ≡ [] → whole_front size bytes all ≡ []
whole_none size bytes [] none = refl
whole_none size bytes (one ∷ all) none = absurd (let no : ⊥ = cc in no)

pub cut_end : (event up down told : ℕ) (link : Link) → 0 < event → TellsEnd link told → TellsEnd (cut_link event up down link) (end_at event told)
cut_end event up down told link some is =
    still_end (end_at event told) (ends event link) (cut_link event up down link) refl refl refl refl
    (λ shut empty. whole_none down_size down link.down (down_same empty)) (ended_end event told link some is)
  where
    down_same : (ends event link).down ≡ [] → link.down ≡ []
    down_same empty = ends_case (λ one. one.down ≡ [] → link.down ≡ []) event link (λ opens none. none) (λ closed none. none) empty

pub fallen_end : (event told : ℕ) (link : Link) → 0 < event → TellsEnd link told → TellsEnd (fallen_link event link) (end_at event told)
fallen_end event told link some is =
    still_end (end_at event told) (ends event link) (fallen_link event link) refl refl refl refl (λ shut empty. left link.is_cut (down_same empty)) (ended_end event told link some is)
  where
    down_same : (ends event link).down ≡ [] → link.down ≡ []
    down_same empty = ends_case (λ one. one.down ≡ [] → link.down ≡ []) event link (λ opens none. none) (λ closed none. none) empty

    left : (cut : Bool) → link.down ≡ [] → (if cut then link.down else []) ≡ []
    left true empty = empty
    left false empty = refl

-- SERVING -----------------------------------------------------------------------------------------

pub front_end : (told : ℕ) (front : Front) (served : Served) (reply : Option Down) → TellsEnd front.link told → TellsEnd (after_front front served reply) told
front_end told front served reply is = still_end told front.link (after_front front served reply) refl refl refl refl (λ shut empty. by front.link.is_open shut empty) is
  where
    by : (opens : Bool) → opens ≡ false → front.link.down ≡ [] → front.link.down ++ (if opens then option_to_list (option_map (λ frame. record { to = front.first; frame = frame }) reply) else []) ≡ []
    by true shut empty = absurd (let no : ⊥ = cc in no)
    by false shut empty = append-nil front.link.down ∙ empty
