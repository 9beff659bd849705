-- What a feed that carries frames answers, and what it carries behind each change.
use Rattle.std.proofs.Common.{◌≡◌, ℕ, ◌-◌, Bool, true, false, List, [], ◌∷◌, ◌++◌, Option, Some, None, Result, Ok, Err, length, take, min, refl, sym, ap, ◌∙◌, subst, append_assoc}
use Rattle.std.specs.Prelude.{is_some, sum_by, nat_le, if◌then◌else◌}
use Rattle.std.proofs.lemmas.Grind.{flat_map-append}
use Rattle.std.proofs.lemmas.List.{append-nil, take_min}
use Rattle.std.proofs.lemmas.List.Concat.{length-flat_map}
use Rattle.canon_bytes.specs.meaning.TextBytes.{spell_bytes}
use Rattle.frame_wire.specs.declared.feed.FrameFault.{FrameFault}
use Rattle.frame_wire.specs.declared.feed.FrameFault.TheVariants.{NoMemory, BadFrame}
use Rattle.frame_wire.specs.Stream.{Pending, nothing_pending, with_bytes, with_first, first_payload, whole_front, StandsFirst, IsNext}
use Rattle.frame_wire.specs.Steps.{stream, AreFrames, frame_size, IsWholeFront}
use Rattle.world_core.specs.Carrying.{Carries}

pub no_bytes : first_payload [] ≡ None
unfolding first_payload
no_bytes = refl

none_found : {A : Type 0} (found : Option A) → is_some found ≡ false → found ≡ None
none_found None e = refl
none_found (Some found) e = absurd (let none : ⊥ = cc in none)

true_false : {A : Type 0} → false ≡ true → A
true_false e = absurd (let none : ⊥ = cc in none)

module _ {F : Type 0} (spell : F → List ℕ) (fits : F → Type 0) where
  abbrev pub Answer : Type 0
  Answer = Result (Option F) FrameFault

  -- nothing at all
  pub carries_none : (is_open : Bool) → Carries spell fits is_open [] nothing_pending
  carries_none is_open = record { good = refl; are = tt; part = []; bytes = refl; rest = no_bytes; whole = λ e. refl }

  -- a connection that has ended
  pub carries_on : (is_open : Bool) (frames : List F) (held : Pending) → Carries spell fits is_open frames held → Carries spell fits false frames held
  carries_on is_open frames held c = record { good = c.good; are = c.are; part = c.part; bytes = c.bytes; rest = c.rest; whole = λ e. true_false e }

  are_frames-append : (a b : List F) → AreFrames spell fits a → AreFrames spell fits b → AreFrames spell fits (a ++ b)
  are_frames-append [] b x y = y
  are_frames-append (f ∷ a) b x y = (x.0, are_frames-append a b x.1 y)

  -- more frames are pushed while no part stands there
  pub carries_more : (frames more : List F) (held : Pending) → Carries spell fits true frames held → AreFrames spell fits more → Carries spell fits true (frames ++ more) (with_bytes held (stream spell fits more))
  carries_more frames more held c are =
      let before : held.bytes ≡ stream spell fits frames = c.bytes ∙ ap (λ (p : List ℕ). stream spell fits frames ++ p) (c.whole refl) ∙ append-nil (stream spell fits frames) in
      record {
        good = c.good;
        are = are_frames-append frames more c.are are;
        part = [];
        bytes = ap (λ (p : List ℕ). p ++ stream spell fits more) before ∙ sym (flat_map-append (λ (f : F). spell_bytes (spell f)) frames more) ∙ sym (append-nil (stream spell fits (frames ++ more)));
        rest = no_bytes;
        whole = λ e. refl;
      }

  -- all bytes are given up
  pub carries_empty : (is_open : Bool) (frames : List F) (held : Pending) → Carries spell fits is_open frames held → Carries spell fits false [] (with_first held 0)
  carries_empty is_open frames held c = record { good = c.good; are = tt; part = []; bytes = refl; rest = no_bytes; whole = λ e. refl }

  -- what `next` has to answer
  abbrev pub OneAnswer : Type 0
  OneAnswer = (before x y : Pending) (a b : Answer) → IsNext spell fits before a x → IsNext spell fits before b y → (a ≡ Err NoMemory → ⊥) → (b ≡ Err NoMemory → ⊥) → (a ≡ b) × (x ≡ y)

  not_memory : (answer : Option F) → ◌≡◌ {A = Answer} (Ok answer) (Err NoMemory) → ⊥
  not_memory answer e = cc

  same_ok : (a b : Option F) → ◌≡◌ {A = Answer} (Ok a) (Ok b) → a ≡ b
  same_ok a b e = cc

  pub front_is_next : (one : OneAnswer) (is_open : Bool) (f : F) (fs : List F) (held after : Pending) (answer : Option F) → Carries spell fits is_open (f ∷ fs) held → IsNext spell fits held (Ok answer) after
      → (answer ≡ Some f) × Carries spell fits is_open fs after
  front_is_next one is_open f fs held after answer c next =
      let left : Pending = record { bytes = stream spell fits fs ++ c.part; bad = false } in
      let stands : StandsFirst spell fits held.bytes f left.bytes = record { front = c.bytes ∙ append_assoc (spell_bytes (spell f)) (stream spell fits fs) c.part; fitting = c.are.0.0; short = c.are.0.1 } in
      let is : IsNext spell fits held (Ok (Some f)) left = (c.good, stands, refl) in
      let both = one held after left (Ok answer) (Ok (Some f)) next is (not_memory answer) (not_memory (Some f)) in
      let carried : Carries spell fits is_open fs left = record { good = refl; are = c.are.1; part = c.part; bytes = refl; rest = c.rest; whole = c.whole } in
      (same_ok answer (Some f) both.0, subst (λ (p : Pending). Carries spell fits is_open fs p) (sym both.1) carried)

  pub none_is_next : (one : OneAnswer) (is_open : Bool) (held after : Pending) (answer : Option F) → Carries spell fits is_open [] held → IsNext spell fits held (Ok answer) after
      → (answer ≡ None) × Carries spell fits is_open [] after
  none_is_next one is_open held after answer c next =
      let is : IsNext spell fits held (Ok None) held = (c.good, ap first_payload c.bytes ∙ c.rest, refl) in
      let both = one held after held (Ok answer) (Ok None) next is (not_memory answer) (not_memory None) in
      (same_ok answer None both.0, subst (λ (p : Pending). Carries spell fits is_open [] p) (sym both.1) c)

  -- the first of these frames may be answered, or none where none is there
  may_answer : (is_open : Bool) (frames : List F) (held : Pending) → Carries spell fits is_open frames held → (answer : Option F) × ((left : Pending) × IsNext spell fits held (Ok answer) left)
  may_answer is_open [] held c = (None, (held, (c.good, ap first_payload c.bytes ∙ c.rest, refl)))
  may_answer is_open (f ∷ fs) held c =
      let left : Pending = record { bytes = stream spell fits fs ++ c.part; bad = false } in
      let stands : StandsFirst spell fits held.bytes f left.bytes = record { front = c.bytes ∙ append_assoc (spell_bytes (spell f)) (stream spell fits fs) c.part; fitting = c.are.0.0; short = c.are.0.1 } in
      (Some f, (left, (c.good, stands, refl)))

  -- where no whole frame stands, the bytes of a part are given up
  pub carries_back : (one : OneAnswer) (held : Pending) → is_some (first_payload held.bytes) ≡ false → (is_open : Bool) (frames : List F) → Carries spell fits is_open frames held
      → Carries spell fits is_open frames (with_first held 0)
  carries_back one held none is_open [] c = record { good = c.good; are = tt; part = []; bytes = refl; rest = no_bytes; whole = λ e. refl }
  carries_back one held none is_open (f ∷ fs) c =
      let told = front_is_next one is_open f fs held held None c (c.good, none_found (first_payload held.bytes) none, refl) in
      absurd (let clash : ◌≡◌ {A = Option F} None (Some f) = told.0 in let no : ⊥ = cc in no)

  bad_memory : ◌≡◌ {A = Answer} (Err BadFrame) (Err NoMemory) → ⊥
  bad_memory e = cc

  bad_ok : (answer : Option F) → ◌≡◌ {A = Answer} (Err BadFrame) (Ok answer) → ⊥
  bad_ok answer e = cc

  -- so no bad frame is
  pub never_bad : (one : OneAnswer) (is_open : Bool) (frames : List F) (held after : Pending) → Carries spell fits is_open frames held → IsNext spell fits held (Err BadFrame) after → ⊥
  never_bad one is_open frames held after c next =
      let may = may_answer is_open frames held c in
      bad_ok may.0 (one held after may.1.0 (Err BadFrame) (Ok may.0) next may.1.1 bad_memory (not_memory may.0)).0

  front_frames : (size : F → ℕ) (bytes : ℕ) (frames : List F) → AreFrames spell fits frames → AreFrames spell fits (whole_front size bytes frames)
  front_frames size bytes [] are = tt
  front_frames size bytes (f ∷ fs) are =
      elim (nat_le (size f) bytes) as (λ b. AreFrames spell fits (if b then f ∷ whole_front size (bytes - size f) fs else [])) [ true ↦ (are.0, front_frames size (bytes - size f) fs are.1) | false ↦ tt ]

  -- the first bytes alone are left, of a connection that was open
  pub carries_front : (frames : List F) (bytes : ℕ) (held : Pending) → Carries spell fits true frames held → IsWholeFront spell fits frames bytes
      → Carries spell fits false (whole_front (frame_size spell fits) bytes frames) (with_first held (min bytes (length held.bytes)))
  carries_front frames bytes held c front =
      let before : held.bytes ≡ stream spell fits frames = c.bytes ∙ ap (λ (p : List ℕ). stream spell fits frames ++ p) (c.whole refl) ∙ append-nil (stream spell fits frames) in
      record {
        good = c.good;
        are = front_frames (frame_size spell fits) bytes frames c.are;
        part = front.part;
        bytes = take_min bytes held.bytes ∙ ap (take bytes) before ∙ front.front;
        rest = front.no_frame;
        whole = λ e. true_false e;
      }

  -- how many bytes wait
  pub carried_size : (frames : List F) (held : Pending) → Carries spell fits true frames held → length held.bytes ≡ sum_by (frame_size spell fits) frames
  carried_size frames held c =
      let before : held.bytes ≡ stream spell fits frames = c.bytes ∙ ap (λ (p : List ℕ). stream spell fits frames ++ p) (c.whole refl) ∙ append-nil (stream spell fits frames) in
      ap length before ∙ length-flat_map (λ (f : F). spell_bytes (spell f)) frames
