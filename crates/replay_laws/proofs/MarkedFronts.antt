-- Where a call with the mark was sent on a connection, what was sent before it is a Connect, a
-- question for an outcome, a Begin, and calls with the mark, all of one request.
use Rattle.std.proofs.Common.{◌≡◌, refl, sym, ap, ◌∙◌, Bool, true, false, ℕ, ◌&&◌, ◌||◌, fold, List, [], ◌∷◌, ◌++◌, Option}
use Rattle.std.specs.Prelude.{is_none, is_some, not}
use Rattle.std.proofs.lemmas.Bool.{and_parts}
use Rattle.svc_values.specs.declared.entry.Ltxid.{Ltxid}
use Rattle.svc_values.specs.declared.value.Value.{Value}
use Rattle.svc_values.specs.declared.frame.Up.{Up}
use Rattle.svc_values.specs.declared.frame.Up.TheVariants as up
use Rattle.world_model.specs.meaning.Frames.{Owner, Sent}
use Rattle.world_model.specs.Sames.{same_owners}
use Rattle.invariant_laws.specs.Shown.{is_marked}
use Rattle.world_model.specs.records.Wire.{Stage, New, Greeted, Told, Repeated, Begun, Rested, Shut, Wrong, stage_if, is_alter, next_stage, is_right}

abbrev pub walks : Stage → List Sent → Stage
walks stage sents = fold (λ stage sent. next_stage stage sent.owner sent.frame) stage sents

-- no call with the mark comes any more
abbrev is_past : Stage → Bool
is_past (Begun owner) = true
is_past (Rested owner) = true
is_past Shut = true
is_past Wrong = true
is_past _ = false

if_past : (test : Bool) (stage : Stage) → is_past stage ≡ true → is_past (stage_if test stage) ≡ true
if_past true stage is = is
if_past false stage is = refl

past_next : (stage : Stage) (owner : Option Owner) (frame : Up) → is_past stage ≡ true → is_past (next_stage stage owner frame) ≡ true
past_next (Begun one) owner (up.Call false kept call) is = if_past (same_owners one owner) (Begun owner) refl
past_next (Begun one) owner up.End is = if_past (same_owners one owner) (Rested owner) refl
past_next (Begun one) owner up.Close is = if_past (same_owners one owner) Shut refl
past_next (Rested one) owner (up.Begin settings) is = if_past (is_some owner && not (same_owners one owner)) (Begun owner) refl
past_next (Rested one) owner up.Close is = if_past (is_none owner || same_owners one owner) Shut refl
past_next New owner frame is = absurd (let none : ⊥ = cc in none)
past_next (Greeted one) owner frame is = absurd (let none : ⊥ = cc in none)
past_next (Told one) owner frame is = absurd (let none : ⊥ = cc in none)
past_next (Repeated one) owner frame is = absurd (let none : ⊥ = cc in none)
past_next stage owner frame is = refl

wrong_stays : (sents : List Sent) → is_right (walks Wrong sents) ≡ true → ⊥
wrong_stays [] is = let none : ⊥ = cc in none
wrong_stays (sent ∷ sents) is = wrong_stays sents is

marks_none : (stage : Stage) (owner : Option Owner) (frame : Up) → is_past stage ≡ true → is_marked frame ≡ true → next_stage stage owner frame ≡ Wrong
marks_none (Begun one) owner (up.Call true kept call) is marked = refl
marks_none (Rested one) owner (up.Call true kept call) is marked = refl
marks_none Shut owner (up.Call true kept call) is marked = refl
marks_none Wrong owner (up.Call true kept call) is marked = refl
marks_none stage owner (up.Call true kept call) is marked = absurd (let none : ⊥ = cc in none)
marks_none stage owner frame is marked = absurd (let none : ⊥ = cc in none)

none_marked : (stage : Stage) (sents : List Sent) (sent : Sent) (rest : List Sent) → is_past stage ≡ true → is_marked sent.frame ≡ true → is_right (walks stage (sents ++ sent ∷ rest)) ≡ true → ⊥
none_marked stage [] sent rest past marked right = wrong_stays rest (ap (λ (s : Stage). is_right (walks s rest)) (sym (marks_none stage sent.owner sent.frame past marked)) ∙ right)
none_marked stage (first ∷ sents) sent rest past marked right = none_marked (next_stage stage first.owner first.frame) sents sent rest (past_next stage first.owner first.frame past) marked right

-- calls with the mark of one request
pub data AllMarks : Option Owner → List Sent → Type 0 where
  NoMarks : (one : Option Owner) → AllMarks one []
  OneMark : (one : Option Owner) (sent : Sent) (sents : List Sent) → is_marked sent.frame ≡ true → same_owners one sent.owner ≡ true → AllMarks sent.owner sents → AllMarks one (sent ∷ sents)

marks_right : (one : Option Owner) (sents : List Sent) (sent : Sent) (rest : List Sent) → is_marked sent.frame ≡ true → is_right (walks (Repeated one) (sents ++ sent ∷ rest)) ≡ true → AllMarks one (sents ++ sent ∷ [])
marks_right one [] sent rest marked right = by sent.frame refl marked
  where
    owned : (test : Bool) → is_right (walks (stage_if test (Repeated sent.owner)) rest) ≡ true → test ≡ true
    owned true is = refl
    owned false is = absurd (wrong_stays rest is)

    by : (frame : Up) → sent.frame ≡ frame → is_marked frame ≡ true → AllMarks one (sent ∷ [])
    by (up.Call true kept call) is mark =
        OneMark one sent [] marked
        (and_parts (same_owners one sent.owner) (not (is_alter call)) (owned (same_owners one sent.owner && not (is_alter call)) (ap (λ (f : Up). is_right (walks (next_stage (Repeated one) sent.owner f) rest)) (sym is) ∙ right))).0 (NoMarks sent.owner)
    by (up.Call false kept call) is mark = absurd (let none : ⊥ = cc in none)
    by up.Connect is mark = absurd (let none : ⊥ = cc in none)
    by (up.Begin settings) is mark = absurd (let none : ⊥ = cc in none)
    by (up.Outcome x) is mark = absurd (let none : ⊥ = cc in none)
    by up.End is mark = absurd (let none : ⊥ = cc in none)
    by up.Close is mark = absurd (let none : ⊥ = cc in none)
marks_right one (first ∷ sents) sent rest marked right = by first.frame refl (λ more. marks_right first.owner sents sent rest marked more)
  where
    owned : (test : Bool) → is_right (walks (stage_if test (Repeated first.owner)) (sents ++ sent ∷ rest)) ≡ true → (test ≡ true) × (is_right (walks (Repeated first.owner) (sents ++ sent ∷ rest)) ≡ true)
    owned true is = (refl, is)
    owned false is = absurd (wrong_stays (sents ++ sent ∷ rest) is)

    past : {A : Type 0} (test : Bool) (stage : Stage) → is_past stage ≡ true → is_right (walks (stage_if test stage) (sents ++ sent ∷ rest)) ≡ true → A
    past true stage is more = absurd (none_marked stage sents sent rest is marked more)
    past false stage is more = absurd (wrong_stays (sents ++ sent ∷ rest) more)

    at : (frame : Up) → first.frame ≡ frame → is_right (walks (next_stage (Repeated one) first.owner frame) (sents ++ sent ∷ rest)) ≡ true
    at frame is = ap (λ (f : Up). is_right (walks (next_stage (Repeated one) first.owner f) (sents ++ sent ∷ rest))) (sym is) ∙ right

    by : (frame : Up) → first.frame ≡ frame → (is_right (walks (Repeated first.owner) (sents ++ sent ∷ rest)) ≡ true → AllMarks first.owner (sents ++ sent ∷ [])) → AllMarks one (first ∷ (sents ++ sent ∷ []))
    by (up.Call true kept call) is again =
        let both = owned (same_owners one first.owner && not (is_alter call)) (at (up.Call true kept call) is) in
        OneMark one first (sents ++ sent ∷ []) (ap is_marked is) (and_parts (same_owners one first.owner) (not (is_alter call)) both.0).0 (again both.1)
    by (up.Call false kept call) is again = past (same_owners one first.owner) (Begun first.owner) refl (at (up.Call false kept call) is)
    by up.Connect is again = absurd (wrong_stays (sents ++ sent ∷ rest) (at up.Connect is))
    by (up.Begin settings) is again = absurd (wrong_stays (sents ++ sent ∷ rest) (at (up.Begin settings) is))
    by (up.Outcome x) is again = absurd (wrong_stays (sents ++ sent ∷ rest) (at (up.Outcome x) is))
    by up.End is again = past (same_owners one first.owner) (Rested first.owner) refl (at up.End is)
    by up.Close is again = past (same_owners one first.owner) Shut refl (at up.Close is)

-- THE FRONT ---------------------------------------------------------------------------------------

-- what stands before a call with the mark
pub record MarkedFront (front : List Sent) (sent : Sent) : Type 0 where
  pub connect : Sent
  pub outcome : Sent
  pub begin : Sent
  pub marks : List Sent
  pub all : front ≡ connect ∷ outcome ∷ begin ∷ marks
  pub connects : connect.frame ≡ up.Connect
  pub x : Ltxid
  pub asks : outcome.frame ≡ up.Outcome x
  pub settings : List (List ℕ × Value)
  pub begins : begin.frame ≡ up.Begin settings
  pub are : AllMarks begin.owner (marks ++ sent ∷ [])

module _ (sent : Sent) (rest : List Sent) (marked : is_marked sent.frame ≡ true) where
  -- a stage from which no call with the mark comes
  never : {A : Type 0} (test : Bool) (stage : Stage) (sents : List Sent) → is_past stage ≡ true → is_right (walks (stage_if test stage) (sents ++ sent ∷ rest)) ≡ true → A
  never true stage sents past right = absurd (none_marked stage sents sent rest past marked right)
  never false stage sents past right = absurd (wrong_stays (sents ++ sent ∷ rest) right)

  wrong : {A : Type 0} (sents : List Sent) → is_right (walks Wrong (sents ++ sent ∷ rest)) ≡ true → A
  wrong sents right = absurd (wrong_stays (sents ++ sent ∷ rest) right)

  goes : (test : Bool) (stage : Stage) (sents : List Sent) → is_right (walks (stage_if test stage) (sents ++ sent ∷ rest)) ≡ true → is_right (walks stage (sents ++ sent ∷ rest)) ≡ true
  goes true stage sents right = right
  goes false stage sents right = wrong sents right

  -- it is not the first, nor right behind a Connect or a question
  not_yet : (stage : Stage) (frame : Up) → sent.frame ≡ frame → is_right (walks (next_stage stage sent.owner frame) rest) ≡ true → next_stage stage sent.owner frame ≡ Wrong → ⊥
  not_yet stage frame is right same = wrong_stays rest (ap (λ (s : Stage). is_right (walks s rest)) (sym same) ∙ right)

  marked_wrong : (stage : Stage) (frame : Up) → is_marked frame ≡ true → ((one : Option Owner) → stage ≡ Repeated one → ⊥) → next_stage stage sent.owner frame ≡ Wrong
  marked_wrong New (up.Call true kept call) is other = refl
  marked_wrong (Greeted one) (up.Call true kept call) is other = refl
  marked_wrong (Told one) (up.Call true kept call) is other = refl
  marked_wrong (Begun one) (up.Call true kept call) is other = refl
  marked_wrong (Rested one) (up.Call true kept call) is other = refl
  marked_wrong Shut (up.Call true kept call) is other = refl
  marked_wrong Wrong (up.Call true kept call) is other = refl
  marked_wrong (Repeated one) frame is other = absurd (other one refl)
  marked_wrong stage frame is other = absurd (let none : ⊥ = cc in none)

  here_none : {A : Type 0} (stage : Stage) → ((one : Option Owner) → stage ≡ Repeated one → ⊥) → is_right (walks stage (sent ∷ rest)) ≡ true → A
  here_none stage other right = absurd (not_yet stage sent.frame refl right (marked_wrong stage sent.frame marked other))

  third : (connect outcome : Sent) (x : Ltxid) (one : Option Owner) (sents : List Sent) → connect.frame ≡ up.Connect → outcome.frame ≡ up.Outcome x → is_right (walks (Told one) (sents ++ sent ∷ rest)) ≡ true → MarkedFront (connect ∷ outcome ∷ sents) sent
  third connect outcome x one [] connects asks right = here_none (Told one) (λ other is. let none : ⊥ = cc in none) right
  third connect outcome x one (begin ∷ marks) connects asks right = by begin.frame refl
    where
      at : (frame : Up) → begin.frame ≡ frame → is_right (walks (next_stage (Told one) begin.owner frame) (marks ++ sent ∷ rest)) ≡ true
      at frame is = ap (λ (f : Up). is_right (walks (next_stage (Told one) begin.owner f) (marks ++ sent ∷ rest))) (sym is) ∙ right

      by : (frame : Up) → begin.frame ≡ frame → MarkedFront (connect ∷ outcome ∷ begin ∷ marks) sent
      by (up.Begin settings) is = record {
        connect = connect;
        outcome = outcome;
        begin = begin;
        marks = marks;
        all = refl;
        connects = connects;
        x = x;
        asks = asks;
        settings = settings;
        begins = is;
        are = marks_right begin.owner marks sent rest marked (goes (same_owners one begin.owner) (Repeated begin.owner) marks (at (up.Begin settings) is));
      }
      by up.End is = never (same_owners one begin.owner) (Rested begin.owner) marks refl (at up.End is)
      by up.Close is = never (same_owners one begin.owner) Shut marks refl (at up.Close is)
      by up.Connect is = wrong marks (at up.Connect is)
      by (up.Outcome y) is = wrong marks (at (up.Outcome y) is)
      by (up.Call replay kept call) is = wrong marks (at (up.Call replay kept call) is)

  second : (connect : Sent) (one : Option Owner) (sents : List Sent) → connect.frame ≡ up.Connect → is_right (walks (Greeted one) (sents ++ sent ∷ rest)) ≡ true → MarkedFront (connect ∷ sents) sent
  second connect one [] connects right = here_none (Greeted one) (λ other is. let none : ⊥ = cc in none) right
  second connect one (outcome ∷ sents) connects right = by outcome.frame refl
    where
      at : (frame : Up) → outcome.frame ≡ frame → is_right (walks (next_stage (Greeted one) outcome.owner frame) (sents ++ sent ∷ rest)) ≡ true
      at frame is = ap (λ (f : Up). is_right (walks (next_stage (Greeted one) outcome.owner f) (sents ++ sent ∷ rest))) (sym is) ∙ right

      by : (frame : Up) → outcome.frame ≡ frame → MarkedFront (connect ∷ outcome ∷ sents) sent
      by (up.Outcome x) is = third connect outcome x outcome.owner sents connects is (goes (same_owners one outcome.owner) (Told outcome.owner) sents (at (up.Outcome x) is))
      by (up.Begin settings) is = never (same_owners one outcome.owner) (Begun outcome.owner) sents refl (at (up.Begin settings) is)
      by up.Close is = never (same_owners one outcome.owner) Shut sents refl (at up.Close is)
      by up.Connect is = wrong sents (at up.Connect is)
      by up.End is = wrong sents (at up.End is)
      by (up.Call replay kept call) is = wrong sents (at (up.Call replay kept call) is)

  pub marked_front : (front : List Sent) → is_right (walks New (front ++ sent ∷ rest)) ≡ true → MarkedFront front sent
  marked_front [] right = here_none New (λ other is. let none : ⊥ = cc in none) right
  marked_front (connect ∷ sents) right = by connect.frame refl
    where
      at : (frame : Up) → connect.frame ≡ frame → is_right (walks (next_stage New connect.owner frame) (sents ++ sent ∷ rest)) ≡ true
      at frame is = ap (λ (f : Up). is_right (walks (next_stage New connect.owner f) (sents ++ sent ∷ rest))) (sym is) ∙ right

      by : (frame : Up) → connect.frame ≡ frame → MarkedFront (connect ∷ sents) sent
      by up.Connect is = second connect connect.owner sents is (goes (is_some connect.owner) (Greeted connect.owner) sents (at up.Connect is))
      by (up.Begin settings) is = wrong sents (at (up.Begin settings) is)
      by (up.Outcome x) is = wrong sents (at (up.Outcome x) is)
      by up.Close is = wrong sents (at up.Close is)
      by up.End is = wrong sents (at up.End is)
      by (up.Call replay kept call) is = wrong sents (at (up.Call replay kept call) is)
