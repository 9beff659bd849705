-- What the two writes of an append leave.
use Rattle.std.proofs.Common.{◌≡◌, ◌≢◌, ℕ, ◌+◌, ◌^◌, ◌<◌, ◌≤◌, List, [], ◌∷◌, ◌++◌, length, get_or, take, drop, inl, inr, ⊎_elim, sym, ◌∙◌, ap, subst, arith, append_assoc, length-append, take-append-drop}
use Rattle.std.specs.Prelude.{Result, Ok, All}
use Rattle.std.proofs.lemmas.List.{take_at, drop_at, drop_more, append-nil, get_or_at, length-take-le}
use Rattle.std.proofs.lemmas.List.Elements.{All-push}
use Rattle.std.proofs.lemmas.Bool.{cases_eq}
use Rattle.disk_model.specs.Moment.{Torn, with_bytes}
use Rattle.disk_model.proofs.Offered.{torn_before, torn_behind, torn_with_bytes, length-with_bytes}
use Rattle.redo_store.specs.meaning.Records.{magic, records_of}
use Rattle.redo_store.specs.Records.{length_bytes, spelling_of, with_last, record_count}
use Rattle.redo_store.specs.Store.{IsStore, IsOldOrNew}
use Rattle.redo_store.proofs.Grammar.{length-length_bytes, read_image}

abbrev IsShort : List ℕ → Type 0
IsShort payload = length payload < 2 ^ 64

pub reads : (tail : ℕ) (image : List ℕ) (w : IsStore tail image) → records_of image ≡ Ok w.records
reads tail image w = ap records_of w.bytes ∙ read_image w.records w.gate w.rest w.lengths w.closed

pub spelling_of-push : (records : List (List ℕ)) (payload : List ℕ) → spelling_of (records ++ payload ∷ []) ≡ spelling_of records ++ (1 ∷ length_bytes (length payload) ++ payload)
spelling_of-push [] payload = append-nil (1 ∷ length_bytes (length payload) ++ payload)
spelling_of-push (first ∷ records) payload =
    ap (λ (l : List ℕ). 1 ∷ length_bytes (length first) ++ first ++ l) (spelling_of-push records payload)
    ∙ sym (append_assoc (1 ∷ length_bytes (length first) ++ first) (spelling_of records) (1 ∷ length_bytes (length payload) ++ payload))

pub few_spelled : (records : List (List ℕ)) → length records ≤ length (spelling_of records)
few_spelled [] = omega arith
few_spelled (payload ∷ records) = omega (arith, few_spelled records, length-append (1 ∷ length_bytes (length payload) ++ payload) (spelling_of records))

-- a store has fewer records than bytes
pub few_records : (tail : ℕ) (image : List ℕ) → IsStore tail image → record_count (records_of image) < tail
few_records tail image w = omega (arith, ap record_count (reads tail image w), few_spelled w.records, w.at_tail)

-- one record more
pub one_more : (tail : ℕ) (image : List ℕ) (w : IsStore tail image) (payload : List ℕ) → record_count (with_last payload (records_of image)) ≡ record_count (records_of image) + 1
one_more tail image w payload =
    ap (λ (r : Result (List (List ℕ)) ℕ). record_count (with_last payload r)) (reads tail image w)
    ∙ length-append w.records (payload ∷ [])
    ∙ sym (ap (λ (r : Result (List (List ℕ)) ℕ). record_count r + 1) (reads tail image w))

module _ (tail : ℕ) (old : List ℕ) (w : IsStore tail old) where
  -- the bytes in front of the gate
  pub front : List ℕ
  front = magic ++ spelling_of w.records

  length-front : length front ≡ tail
  unfolding front
  length-front = omega (arith, w.at_tail, length-append magic (spelling_of w.records))

  gated : old ≡ front ++ w.gate ∷ w.rest
  unfolding front
  gated = w.bytes

  pub tail_within : tail + 1 ≤ length old
  tail_within = omega (arith, ap length gated, length-append front (w.gate ∷ w.rest), length-front)

  up_to_gate : take (tail + 1) old ≡ front ++ w.gate ∷ []
  up_to_gate =
      ap (take (tail + 1)) (gated ∙ sym (append_assoc front (w.gate ∷ []) w.rest))
      ∙ take_at (front ++ w.gate ∷ []) w.rest (tail + 1) (omega (arith, length-front, length-append front (w.gate ∷ [])))

  -- an image with the same bytes up to the gate has the same records
  pub behind_gate : (n : ℕ) (image : List ℕ) → Torn (tail + 1) n old image → IsStore tail image
  unfolding front
  behind_gate n image torn = record {
    records = w.records;
    gate = w.gate;
    rest = drop (tail + 1) image;
    bytes = sym (take-append-drop (tail + 1) image)
        ∙ ap (λ (l : List ℕ). l ++ drop (tail + 1) image) (torn_before (tail + 1) n old image torn tail_within ∙ up_to_gate)
        ∙ append_assoc front (w.gate ∷ []) (drop (tail + 1) image);
    closed = w.closed;
    at_tail = w.at_tail;
    lengths = w.lengths;
  }

  -- its bytes begin with these records
  pub begins_so : (n : ℕ) (image : List ℕ) → Torn (tail + 1) n old image → image ≡ (magic ++ spelling_of w.records) ++ w.gate ∷ drop (tail + 1) image
  unfolding behind_gate
  begins_so n image torn = (behind_gate n image torn).bytes

  pub same_records : (n : ℕ) (image : List ℕ) → Torn (tail + 1) n old image → records_of image ≡ records_of old
  unfolding behind_gate
  same_records n image torn = reads tail image (behind_gate n image torn) ∙ sym (reads tail old w)

  module _ (payload body : List ℕ) (short : length payload < 2 ^ 64) (is : body ≡ length_bytes (length payload) ++ payload ++ 0 ∷ []) where
    abbrev pub staged : List ℕ
    staged = with_bytes (tail + 1) body old

    pub past : List ℕ
    past = drop (tail + 1 + length body) old

    is_staged : staged ≡ (front ++ w.gate ∷ []) ++ (body ++ past)
    unfolding past
    is_staged = ap (λ (l : List ℕ). l ++ body ++ drop (tail + 1 + length body) old) up_to_gate ∙ append_assoc (front ++ w.gate ∷ []) body past

    before_gate : take tail staged ≡ front
    before_gate = ap (take tail) (is_staged ∙ append_assoc front (w.gate ∷ []) (body ++ past)) ∙ take_at front ((w.gate ∷ []) ++ (body ++ past)) tail length-front

    past_gate : drop (tail + 1) staged ≡ body ++ past
    past_gate = ap (drop (tail + 1)) is_staged ∙ drop_at (front ++ w.gate ∷ []) (body ++ past) (tail + 1) (omega (arith, length-front, length-append front (w.gate ∷ [])))

    long : tail + 1 ≤ length staged
    long = omega (arith, length-with_bytes (tail + 1) body old tail_within, tail_within)

    -- whatever the gate is, the record stands behind it
    parts : (image : List ℕ) → Torn tail 1 staged image → image ≡ front ++ get_or image tail 0 ∷ (body ++ past)
    parts image torn =
        sym (take-append-drop tail image)
        ∙ ap (λ (l : List ℕ). l ++ drop tail image) (torn_before tail 1 staged image torn (omega (arith, long)) ∙ before_gate)
        ∙ ap (λ (l : List ℕ). front ++ l) (drop_more image tail 0 (omega (arith, long, torn.no_shorter)) ∙ ap (λ (l : List ℕ). get_or image tail 0 ∷ l) (torn_behind tail 1 staged image torn long ∙ past_gate))

    -- so its bytes begin with the records before it
    pub begins_still : (image : List ℕ) → Torn tail 1 staged image → image ≡ (magic ++ spelling_of w.records) ++ get_or image tail 0 ∷ (body ++ past)
    unfolding front
    begins_still image torn = parts image torn

    all_short : All IsShort (w.records ++ payload ∷ [])
    all_short = All-push IsShort w.records payload w.lengths short

    longer : tail + length body ≡ 8 + length (spelling_of (w.records ++ payload ∷ []))
    longer =
        omega (
          arith,
          w.at_tail,
          length-length_bytes (length payload),
          ap length is,
          length-append (length_bytes (length payload) ++ payload) (0 ∷ []),
          length-append (length_bytes (length payload)) payload,
          ap length (spelling_of-push w.records payload),
          length-append (spelling_of w.records) (1 ∷ length_bytes (length payload) ++ payload),
          length-append (1 ∷ length_bytes (length payload)) payload,
        )

    pub opened : (image : List ℕ) → image ≡ front ++ 1 ∷ (body ++ past) → IsStore (tail + length body) image
    unfolding front
    opened image e = record {
      records = w.records ++ payload ∷ [];
      gate = 0;
      rest = past;
      bytes = e
          ∙ ap (λ (l : List ℕ). front ++ 1 ∷ l) (ap (λ (l : List ℕ). l ++ past) is ∙ append_assoc (length_bytes (length payload) ++ payload) (0 ∷ []) past)
          ∙ sym (append_assoc front (1 ∷ length_bytes (length payload) ++ payload) (0 ∷ past))
          ∙ ap (λ (l : List ℕ). l ++ 0 ∷ past) (append_assoc magic (spelling_of w.records) (1 ∷ length_bytes (length payload) ++ payload) ∙ ap (λ (l : List ℕ). magic ++ l) (sym (spelling_of-push w.records payload)));
      closed = λ f. omega (arith, f);
      at_tail = longer;
      lengths = all_short;
    }

    shut : (gate : ℕ) (image : List ℕ) → gate ≢ 1 → image ≡ front ++ gate ∷ (body ++ past) → records_of image ≡ Ok w.records
    unfolding front
    shut gate image closed e = ap records_of e ∙ read_image w.records gate (body ++ past) w.lengths closed

    pub old_or_new : (image : List ℕ) → Torn tail 1 staged image → IsOldOrNew old payload image
    unfolding opened
    old_or_new image torn =
        let e = parts image torn in
        ⊎_elim
        (λ one. inr (reads (tail + length body) image (opened image (e ∙ ap (λ g. front ++ g ∷ (body ++ past)) one)) ∙ ap (with_last payload) (sym (reads tail old w))))
        (λ not_one. inl (shut (get_or image tail 0) image not_one e ∙ sym (reads tail old w)))
        (cases_eq (get_or image tail 0) 1)

    pub gate_open : (image : List ℕ) → image ≡ with_bytes tail (1 ∷ []) staged → IsStore (tail + length body) image
    gate_open image is_written =
        let torn : Torn tail 1 staged image = subst (λ (l : List ℕ). Torn tail 1 staged l) (sym is_written) (torn_with_bytes tail (1 ∷ []) staged (omega (arith, long))) in
        let one : get_or image tail 0 ≡ 1 = ap (λ (l : List ℕ). get_or l tail 0) (is_written ∙ append_assoc (take tail staged) (1 ∷ []) (drop (tail + 1) staged)) ∙ get_or_at (take tail staged) 1 (drop (tail + 1) staged) 0 tail (length-take-le tail staged (omega (arith, long))) in
        opened image (parts image torn ∙ ap (λ g. front ++ g ∷ (body ++ past)) one)

    pub added : (image : List ℕ) → image ≡ with_bytes tail (1 ∷ []) staged → records_of image ≡ with_last payload (records_of old)
    unfolding gate_open opened
    added image is_written = reads (tail + length body) image (gate_open image is_written) ∙ ap (with_last payload) (sym (reads tail old w))
