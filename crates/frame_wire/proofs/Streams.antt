-- Streams: the frame in front, and what steps lead to.
use Rattle.std.proofs.Common.{◌≡◌, ℕ, zero, suc, ◌+◌, ◌-◌, ◌<◌, ◌≤◌, ◌^◌, Bool, true, false, ltb, subst, take, List, [], ◌∷◌, ◌++◌, length, drop, Result, Ok, Err, refl, sym, ap, ◌∙◌, append_assoc, arith, inl, inr}
use Rattle.std.specs.Prelude.{Option, Some, None, ◌⊎◌, nat_le}
use Rattle.std.specs.Int.{w64, from_be_bytes}
use Rattle.std.proofs.Math.Seq.{take-append-add}
use Rattle.std.proofs.lemmas.Bool.{le-ltb, lt-ltb, leb-true}
use Rattle.std.proofs.lemmas.Bool.Decides.{leb_tells}
use Rattle.std.proofs.lemmas.List.{take_at, drop_at, length-append, length-take, take-append-le}
use Rattle.std.proofs.lemmas.Nat.{from_be_bytes-to_be_bytes_8}
use Rattle.canon_bytes.specs.meaning.Numbers.{spell_u64}
use Rattle.canon_bytes.specs.meaning.TextBytes.{spell_bytes}
use Rattle.canon_bytes.specs.declared.fault.Fault.{Fault}
use Rattle.frame_wire.specs.declared.feed.FrameFault.{FrameFault}
use Rattle.frame_wire.specs.declared.feed.FrameFault.TheVariants.{NoMemory, BadFrame}
use Rattle.frame_wire.specs.Stream.{Pending, with_bytes, with_first, first_payload, StandsFirst, IsBadFront, HasNoFrame, IsNext}
use Rattle.frame_wire.specs.Steps.{Step, Push, Cut, Next, without_last, arrived, given, stream, AreFrames, Leads, frame_size, IsWholeFront}
use Rattle.frame_wire.proofs.Payloads.{read_whole}

number_length : (n : ℕ) → length (spell_u64 n) ≡ 8
unfolding spell_u64
number_length n = refl

number_again : (n : ℕ) → n < 2 ^ 64 → from_be_bytes w64 (spell_u64 n) ≡ n
unfolding spell_u64
number_again n small = from_be_bytes-to_be_bytes_8 n small

-- where a spelled payload stands first it is the first payload
pub first_payload-spelled : (payload rest : List ℕ) → length payload < 2 ^ 64 → first_payload (spell_bytes payload ++ rest) ≡ Some payload
unfolding first_payload spell_bytes
first_payload-spelled payload rest small =
    let head = spell_u64 (length payload) in
    let eight : length head ≡ 8 = number_length (length payload) in
    let long : ltb (length (head ++ (payload ++ rest))) 8 ≡ false = le-ltb _ _ (omega (arith, eight, length-append head (payload ++ rest))) in
    let whole : ltb (length (payload ++ rest)) (length payload) ≡ false = le-ltb _ _ (omega (arith, length-append payload rest)) in
    rw (append_assoc head payload rest, long, take_at head (payload ++ rest) 8 eight, drop_at head (payload ++ rest) 8 eight, number_again (length payload) small, whole, take_at payload rest (length payload) refl) refl

-- what stands behind a spelled payload
behind : (payload x y : List ℕ) → spell_bytes payload ++ x ≡ spell_bytes payload ++ y → x ≡ y
behind payload x y e =
    let front = spell_bytes payload in
    sym (drop_at front x (length front) refl) ∙ ap (λ (r : List ℕ). drop (length front) r) e ∙ drop_at front y (length front) refl

some_same : {X : Type 0} (x y : X) → ◌≡◌ {A = Option X} (Some x) (Some y) → x ≡ y
some_same x y e = cc

none_some : {X : Type 0} (x : X) → ◌≡◌ {A = Option X} None (Some x) → ⊥
none_some x e = cc

true_false : true ≡ false → ⊥
true_false e = cc

-- bytes given up at the end are those of the last part
without_last-append : (done bytes : List ℕ) (count : ℕ) → count ≤ length bytes → without_last count (done ++ bytes) ≡ done ++ take (length bytes - count) bytes
without_last-append done bytes count within =
    let sum : length (done ++ bytes) - count ≡ length done + (length bytes - count) = omega (arith, length-append done bytes, within) in
    ap (λ (n : ℕ). take n (done ++ bytes)) sum ∙ take-append-add done bytes (length bytes - count)

no_bytes : first_payload [] ≡ None
unfolding first_payload
no_bytes = refl

take-nil : (n : ℕ) → ◌≡◌ {A = List ℕ} (take n []) []
take-nil zero = refl
take-nil (suc n) = refl

nat_le-≤ : (a b : ℕ) → nat_le a b ≡ true → a ≤ b
nat_le-≤ a b e = leb-true a b e

nat_le-< : (a b : ℕ) → nat_le a b ≡ false → b < a
nat_le-< a b e = grind (arith, leb_tells, e)

-- fewer bytes than a length has
few_bytes : (bytes : List ℕ) → length bytes < 8 → first_payload bytes ≡ None
unfolding first_payload
few_bytes bytes few = rw (lt-ltb (length bytes) 8 few) refl

-- a whole length, and fewer bytes behind it than it announces
short_payload : (payload part : List ℕ) → length payload < 2 ^ 64 → length part < length payload → first_payload (spell_u64 (length payload) ++ part) ≡ None
unfolding first_payload
short_payload payload part small fewer =
    let head = spell_u64 (length payload) in
    let eight : length head ≡ 8 = number_length (length payload) in
    let long : ltb (length (head ++ part)) 8 ≡ false = le-ltb _ _ (omega (arith, eight, length-append head part)) in
    let less : ltb (length part) (length payload) ≡ true = lt-ltb _ _ fewer in
    rw (long, take_at head part 8 eight, drop_at head part 8 eight, number_again (length payload) small, less) refl

by_head : (payload : List ℕ) (bytes : ℕ) (b : Bool) → nat_le 8 bytes ≡ b → length payload < 2 ^ 64 → bytes < length (spell_bytes payload) → first_payload (take bytes (spell_bytes payload)) ≡ None
unfolding spell_bytes
by_head payload bytes false e small short = few_bytes (take bytes (spell_u64 (length payload) ++ payload)) (omega (arith, nat_le-< 8 bytes e, length-take bytes (spell_u64 (length payload) ++ payload)))
by_head payload bytes true e small short =
    let head = spell_u64 (length payload) in
    let eight : length head ≡ 8 = number_length (length payload) in
    let sum : bytes ≡ length head + (bytes - 8) = omega (arith, nat_le-≤ 8 bytes e, eight) in
    let taken : take bytes (head ++ payload) ≡ head ++ take (bytes - 8) payload = ap (λ (n : ℕ). take n (head ++ payload)) sum ∙ take-append-add head payload (bytes - 8) in
    let fewer : length (take (bytes - 8) payload) < length payload = omega (arith, length-take (bytes - 8) payload, short, length-append head payload, eight, nat_le-≤ 8 bytes e) in
    ap first_payload taken ∙ short_payload payload (take (bytes - 8) payload) small fewer

-- a part of one frame is no whole one
part_of_one : (payload : List ℕ) (bytes : ℕ) → length payload < 2 ^ 64 → bytes < length (spell_bytes payload) → first_payload (take bytes (spell_bytes payload)) ≡ None
part_of_one payload bytes small short = by_head payload bytes (nat_le 8 bytes) refl small short

module _ {F : Type 0} (spell : F → List ℕ) (fits : F → Type 0) (read : List ℕ → Result (F × List ℕ) Fault) (again : (f : F) (rest : List ℕ) → fits f → read (spell f ++ rest) ≡ Ok (f, rest)) where
  -- frames with one payload are one
  one_frame : (f g : F) → fits f → fits g → spell f ≡ spell g → f ≡ g
  one_frame f g ff fg e =
      let ok : F × List ℕ → Result (F × List ℕ) Fault = λ p. Ok p in
      let both : ok (f, []) ≡ ok (g, []) = sym (read_whole spell fits read again (spell g) f ff e) ∙ read_whole spell fits read again (spell g) g fg refl in
      let pairs : ◌≡◌ {A = F × List ℕ} (f, []) (g, []) = cc in
      ap (λ (p : F × List ℕ). p.0) pairs

  payload_in_front : (bytes : List ℕ) (f : F) (rest : List ℕ) → StandsFirst spell fits bytes f rest → first_payload bytes ≡ Some (spell f)
  payload_in_front bytes f rest stands = ap first_payload stands.front ∙ first_payload-spelled (spell f) rest stands.short

  -- one frame stands first
  pub one_front : (bytes : List ℕ) (f g : F) (x y : List ℕ) → StandsFirst spell fits bytes f x → StandsFirst spell fits bytes g y → (f ≡ g) × (x ≡ y)
  one_front bytes f g x y a b =
      let payloads : spell f ≡ spell g = some_same (spell f) (spell g) (sym (payload_in_front bytes f x a) ∙ payload_in_front bytes g y b) in
      let same : f ≡ g = one_frame f g a.fitting b.fitting payloads in
      (same, behind (spell f) x y (sym a.front ∙ b.front ∙ ap (λ (p : List ℕ). spell_bytes p ++ y) (sym payloads)))

  not_bad : (before : Pending) (f : F) (rest : List ℕ) → before.bad ≡ false → StandsFirst spell fits before.bytes f rest → (before.bad ≡ true) ⊎ IsBadFront spell fits before.bytes → ⊥
  not_bad before f rest good stands (inl bad) = true_false (sym bad ∙ good)
  not_bad before f rest good stands (inr bad) = bad.2 f stands.fitting (some_same (spell f) bad.0 (sym (payload_in_front before.bytes f rest stands) ∙ bad.1))

  none_not_bad : (before : Pending) → before.bad ≡ false → first_payload before.bytes ≡ None → (before.bad ≡ true) ⊎ IsBadFront spell fits before.bytes → ⊥
  none_not_bad before good none (inl bad) = true_false (sym bad ∙ good)
  none_not_bad before good none (inr bad) = none_some bad.0 (sym none ∙ bad.1)

  none_not_first : (bytes : List ℕ) (f : F) (rest : List ℕ) → first_payload bytes ≡ None → StandsFirst spell fits bytes f rest → ⊥
  none_not_first bytes f rest none stands = none_some (spell f) (sym none ∙ payload_in_front bytes f rest stands)

  pending_same : (x y : Pending) → x.bytes ≡ y.bytes → x.bad ≡ y.bad → x ≡ y
  pending_same x y e f = rw (e, f) refl

  abbrev Answer : Type 0
  Answer = Result (Option F) FrameFault

  abbrev memory : Answer
  memory = Err NoMemory

  abbrev with_frame : F → Answer
  with_frame f = Ok (Some f)

  pub one_answer : (before x y : Pending) (a b : Answer) → IsNext spell fits before a x → IsNext spell fits before b y → (a ≡ memory → ⊥) → (b ≡ memory → ⊥) → (a ≡ b) × (x ≡ y)
  one_answer before x y (Err NoMemory) b p q na nb = absurd (na refl)
  one_answer before x y a (Err NoMemory) p q na nb = absurd (nb refl)
  one_answer before x y (Ok (Some f)) (Ok (Some g)) p q na nb =
      let one = one_front before.bytes f g x.bytes y.bytes p.1 q.1 in
      (ap with_frame one.0, pending_same x y one.1 (p.2 ∙ sym q.2))
  one_answer before x y (Ok (Some f)) (Ok None) p q na nb = absurd (none_not_first before.bytes f x.bytes q.1 p.1)
  one_answer before x y (Ok (Some f)) (Err BadFrame) p q na nb = absurd (not_bad before f x.bytes p.0 p.1 q.0)
  one_answer before x y (Ok None) (Ok (Some g)) p q na nb = absurd (none_not_first before.bytes g y.bytes p.1 q.1)
  one_answer before x y (Ok None) (Ok None) p q na nb = (refl, p.2 ∙ sym q.2)
  one_answer before x y (Ok None) (Err BadFrame) p q na nb = absurd (none_not_bad before p.0 p.1 q.0)
  one_answer before x y (Err BadFrame) (Ok (Some g)) p q na nb = absurd (not_bad before g y.bytes q.0 q.1 p.0)
  one_answer before x y (Err BadFrame) (Ok None) p q na nb = absurd (none_not_bad before q.0 q.1 p.0)
  one_answer before x y (Err BadFrame) (Err BadFrame) p q na nb = (refl, p.1 ∙ sym q.1)

  -- what arrived is what was given before, then the frames given, and what is left
  pub front : (done all : List ℕ) (before : Pending) (steps : List (Step F)) (after : Pending) → all ≡ done ++ before.bytes → Leads spell fits before steps after → arrived all steps ≡ done ++ (stream spell fits (given steps) ++ after.bytes)
  front done all before [] after is leads = is ∙ ap (λ (p : Pending). done ++ p.bytes) leads
  front done all before (Push bytes ∷ steps) after is leads =
      front done (all ++ bytes) (with_bytes before bytes) steps after (ap (λ (r : List ℕ). r ++ bytes) is ∙ append_assoc done before.bytes bytes) leads
  front done all before (Cut count ∷ steps) after is leads =
      front done (without_last count all) (with_first before (length before.bytes - count)) steps after (ap (without_last count) is ∙ without_last-append done before.bytes count leads.0) leads.1
  front done all before (Next (Ok (Some f)) ∷ steps) after is leads =
      let piece = spell_bytes (spell f) in
      let there : all ≡ (done ++ piece) ++ leads.0.bytes = is ∙ ap (λ (r : List ℕ). done ++ r) leads.1.1.front ∙ sym (append_assoc done piece leads.0.bytes) in
      front (done ++ piece) all leads.0 steps after there leads.2
      ∙ append_assoc done piece (stream spell fits (given steps) ++ after.bytes)
      ∙ ap (λ (r : List ℕ). done ++ r) (sym (append_assoc piece (stream spell fits (given steps)) after.bytes))
  front done all before (Next (Ok None) ∷ steps) after is leads = front done all leads.0 steps after (is ∙ ap (λ (p : Pending). done ++ p.bytes) (sym leads.1.2)) leads.2
  front done all before (Next (Err BadFrame) ∷ steps) after is leads = front done all leads.0 steps after (is ∙ ap (λ (p : Pending). done ++ p.bytes) (sym leads.1.1)) leads.2
  front done all before (Next (Err NoMemory) ∷ steps) after is leads = front done all leads.0 steps after (is ∙ ap (λ (p : Pending). done ++ p.bytes) (sym leads.1.1)) leads.2

  pub frames : (before : Pending) (steps : List (Step F)) (after : Pending) → Leads spell fits before steps after → AreFrames spell fits (given steps)
  frames before [] after leads = tt
  frames before (Push bytes ∷ steps) after leads = frames (with_bytes before bytes) steps after leads
  frames before (Cut count ∷ steps) after leads = frames (with_first before (length before.bytes - count)) steps after leads.1
  frames before (Next (Ok (Some f)) ∷ steps) after leads = ((leads.1.1.fitting, leads.1.1.short), frames leads.0 steps after leads.2)
  frames before (Next (Ok None) ∷ steps) after leads = frames leads.0 steps after leads.2
  frames before (Next (Err BadFrame) ∷ steps) after leads = frames leads.0 steps after leads.2
  frames before (Next (Err NoMemory) ∷ steps) after leads = frames leads.0 steps after leads.2

  no_frame_first : (bytes : List ℕ) (f : F) (rest : List ℕ) → HasNoFrame spell fits bytes → StandsFirst spell fits bytes f rest → ⊥
  no_frame_first bytes f rest (inl none) stands = none_not_first bytes f rest none stands
  no_frame_first bytes f rest (inr bad) stands = bad.2 f stands.fitting (some_same (spell f) bad.0 (sym (payload_in_front bytes f rest stands) ∙ bad.1))

  stands : (f : F) (fs : List F) (x : List ℕ) → AreFrames spell fits (f ∷ fs) → StandsFirst spell fits (stream spell fits (f ∷ fs) ++ x) f (stream spell fits fs ++ x)
  stands f fs x are = record { front = append_assoc (spell_bytes (spell f)) (stream spell fits fs) x; fitting = are.0.0; short = are.0.1 }

  pub one_list : (fs gs : List F) (x y : List ℕ) → AreFrames spell fits fs → AreFrames spell fits gs → stream spell fits fs ++ x ≡ stream spell fits gs ++ y → HasNoFrame spell fits x → HasNoFrame spell fits y → (fs ≡ gs) × (x ≡ y)
  one_list [] [] x y af ag e nx ny = (refl, e)
  one_list [] (g ∷ gs) x y af ag e nx ny = absurd (no_frame_first (stream spell fits (g ∷ gs) ++ y) g (stream spell fits gs ++ y) (subst (HasNoFrame spell fits) e nx) (stands g gs y ag))
  one_list (f ∷ fs) [] x y af ag e nx ny = absurd (no_frame_first (stream spell fits (f ∷ fs) ++ x) f (stream spell fits fs ++ x) (subst (HasNoFrame spell fits) (sym e) ny) (stands f fs x af))
  one_list (f ∷ fs) (g ∷ gs) x y af ag e nx ny =
      let there = stands g gs y ag in
      let moved : StandsFirst spell fits (stream spell fits (f ∷ fs) ++ x) g (stream spell fits gs ++ y) = record { front = e ∙ there.front; fitting = there.fitting; short = there.short } in
      let first = one_front (stream spell fits (f ∷ fs) ++ x) f g (stream spell fits fs ++ x) (stream spell fits gs ++ y) (stands f fs x af) moved in
      let others = one_list fs gs x y af.1 ag.1 first.1 nx ny in
      (ap (λ (h : F). h ∷ fs) first.0 ∙ ap (λ (hs : List F). g ∷ hs) others.0, others.1)

  -- the first bytes of a stream: by its first frame, which lies whole in them or does not
  first_cut : (f : F) (fs : List F) (bytes : ℕ) (b : Bool) → nat_le (frame_size spell fits f) bytes ≡ b → AreFrames spell fits (f ∷ fs) → IsWholeFront spell fits fs (bytes - frame_size spell fits f) → IsWholeFront spell fits (f ∷ fs) bytes
  first_cut f fs bytes true e are more =
      let piece = spell_bytes (spell f) in
      let within : length piece ≤ bytes = nat_le-≤ (length piece) bytes e in
      let sum : bytes ≡ length piece + (bytes - length piece) = omega (arith, within) in
      let taken : take bytes (piece ++ stream spell fits fs) ≡ piece ++ take (bytes - length piece) (stream spell fits fs) = ap (λ (n : ℕ). take n (piece ++ stream spell fits fs)) sum ∙ take-append-add piece (stream spell fits fs) (bytes - length piece) in
      record {
        part = more.part;
        front = rw e (taken ∙ ap (λ (r : List ℕ). piece ++ r) more.front ∙ sym (append_assoc piece _ more.part));
        no_frame = more.no_frame;
      }
  first_cut f fs bytes false e are more =
      let piece = spell_bytes (spell f) in
      let short : bytes < length piece = nat_le-< (length piece) bytes e in
      record {
        part = take bytes piece;
        front = rw e (take-append-le bytes piece (stream spell fits fs) (omega (arith, short)));
        no_frame = part_of_one (spell f) bytes are.0.1 short;
      }

  pub whole_frames : (frames : List F) (bytes : ℕ) → AreFrames spell fits frames → IsWholeFront spell fits frames bytes
  whole_frames [] bytes are = record { part = []; front = take-nil bytes; no_frame = no_bytes }
  whole_frames (f ∷ fs) bytes are = first_cut f fs bytes (nat_le (frame_size spell fits f) bytes) refl are (whole_frames fs (bytes - frame_size spell fits f) are.1)
