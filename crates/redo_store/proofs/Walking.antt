-- A walk over a store, record by record.
use Rattle.std.proofs.Common.{◌≡◌, ◌≢◌, ℕ, suc, ◌+◌, ◌^◌, ◌<◌, ◌≤◌, List, [], ◌∷◌, ◌++◌, length, get_or, take, drop, refl, sym, ◌∙◌, ap, arith, append_assoc, length-append, length-take, length-drop, take-append-drop, Bool, true, leb, false}
use Rattle.std.specs.Prelude.{◌==◌, Result, Ok, Err, if◌then◌else◌}
use Rattle.std.specs.Str.{bytes_eq}
use Rattle.std.proofs.lemmas.List.{drop_at, drop_more, drop_all, append-nil, drop-drop}
use Rattle.std.proofs.lemmas.Nat.{be_bytes_8}
use Rattle.std.proofs.lemmas.Slice.Eq.{bytes_eq-Decides}
use Rattle.std.proofs.lemmas.Bool.{false_from_ne_true, lt-leb}
use Rattle.std.proofs.lemmas.Bool.Decides.{nat_tests}
use Rattle.std.proofs.lemmas.List.Elements.{All-push}
use Rattle.redo_store.specs.meaning.Records.{magic, length_of, is_whole, payload_of, with_first, records_from, records_of, whole_from, whole_records}
use Rattle.redo_store.specs.Records.{length_bytes, spelling_of}
use Rattle.redo_store.specs.Store.{IsStore}
use Rattle.redo_store.specs.Gate.{HasRecord, HasClosedGate}
use Rattle.redo_store.specs.Walk.{with_firsts, StandsBehind}
use Rattle.redo_store.proofs.Grammar.{read_front, closed_gate, length-length_bytes}
use Rattle.redo_store.proofs.Gates.{spelling_of-push}
use Rattle.redo_store.proofs.Whole.{whole_front}

with_firsts-push : (records : List (List ℕ)) (payload : List ℕ) (more : Result (List (List ℕ)) ℕ) → with_firsts records (with_first payload more) ≡ with_firsts (records ++ payload ∷ []) more
with_firsts-push records payload (Ok more) = ap (λ (l : List (List ℕ)). Ok l) (sym (append_assoc records (payload ∷ []) more))
with_firsts-push records payload (Err place) = refl

pub not_magic : (image : List ℕ) → (take 8 image ≡ magic → ⊥) → records_of image ≡ Err 0
unfolding records_of
not_magic image differs = let e : bytes_eq (take 8 image) magic ≡ false = false_from_ne_true _ (λ t. differs ((bytes_eq-Decides (take 8 image) magic).0 t)) in rw e refl

pub not_magic_whole : (image : List ℕ) → (take 8 image ≡ magic → ⊥) → whole_records image ≡ []
unfolding whole_records
not_magic_whole image differs = let e : bytes_eq (take 8 image) magic ≡ false = false_from_ne_true _ (λ t. differs ((bytes_eq-Decides (take 8 image) magic).0 t)) in rw e refl

pub short_image : (image : List ℕ) → length image < 8 → take 8 image ≡ magic → ⊥
short_image image short e = omega (arith, short, length-take 8 image, ap length e)

has_magic : (image : List ℕ) → take 8 image ≡ magic → records_of image ≡ records_from 8 0 (drop 8 image)
unfolding records_of
has_magic image e = let starts = (bytes_eq-Decides (take 8 image) magic).1 e in rw starts refl

has_magic_whole : (image : List ℕ) → take 8 image ≡ magic → whole_records image ≡ whole_from 0 (drop 8 image)
unfolding whole_records
has_magic_whole image e = let starts = (bytes_eq-Decides (take 8 image) magic).1 e in rw starts refl

no_firsts : (more : Result (List (List ℕ)) ℕ) → with_firsts [] more ≡ more
no_firsts (Ok more) = refl
no_firsts (Err place) = refl

-- it begins behind the magic
pub walk_start : (image : List ℕ) → take 8 image ≡ magic → StandsBehind 8 [] image
walk_start image e = record {
  within = omega (arith, ap length e, length-take 8 image);
  bytes = sym (take-append-drop 8 image) ∙ ap (λ (l : List ℕ). l ++ drop 8 image) e;
  at_place = refl;
  records = has_magic image e ∙ sym (no_firsts (records_from 8 0 (drop 8 image)));
  whole = has_magic_whole image e;
  lengths = λ k d lt. absurd (omega (arith, lt));
}

-- and goes over a record
pub walk_on : (image : List ℕ) (place : ℕ) (done : List (List ℕ)) (payload : List ℕ) → StandsBehind place done image → HasRecord place payload image → StandsBehind (place + (9 + length payload)) (done ++ payload ∷ []) image
walk_on image place done payload v h =
    let n = length payload in
    let spelling = 1 ∷ length_bytes n ++ payload in
    let long : length spelling ≡ 9 + n = omega (arith, length-append (1 ∷ length_bytes n) payload, length-length_bytes n) in
    let apart : drop place image ≡ spelling ++ h.rest = h.bytes in
    let rest : drop (place + (9 + n)) image ≡ h.rest = sym (drop-drop (9 + n) place image) ∙ ap (drop (9 + n)) apart ∙ drop_at spelling h.rest (9 + n) long in
    record {
      within = omega (arith, long, ap length apart, length-append spelling h.rest, length-drop place image);
      bytes = v.bytes
          ∙ ap (λ (l : List ℕ). (magic ++ spelling_of done) ++ l) apart
          ∙ append_assoc magic (spelling_of done) (spelling ++ h.rest)
          ∙ ap (λ (l : List ℕ). magic ++ l) (sym (append_assoc (spelling_of done) spelling h.rest) ∙ ap (λ (l : List ℕ). l ++ h.rest) (sym (spelling_of-push done payload)))
          ∙ sym (append_assoc magic (spelling_of (done ++ payload ∷ [])) h.rest)
          ∙ ap (λ (l : List ℕ). (magic ++ spelling_of (done ++ payload ∷ [])) ++ l) (sym rest);
      at_place = omega (arith, v.at_place, long, ap length (spelling_of-push done payload), length-append (spelling_of done) spelling);
      records = v.records
          ∙ ap (λ (l : List ℕ). with_firsts done (records_from place 0 l)) h.bytes
          ∙ ap (with_firsts done) (read_front place payload h.rest h.short h.more)
          ∙ with_firsts-push done payload (records_from (place + 9 + n) 0 h.rest)
          ∙ ap (λ k. with_firsts (done ++ payload ∷ []) (records_from k 0 h.rest)) (omega arith)
          ∙ ap (λ (l : List ℕ). with_firsts (done ++ payload ∷ []) (records_from (place + (9 + n)) 0 l)) (sym rest);
      whole = v.whole
          ∙ ap (λ (l : List ℕ). done ++ whole_from 0 l) h.bytes
          ∙ ap (λ (l : List (List ℕ)). done ++ l) (whole_front payload h.rest h.short h.more)
          ∙ sym (append_assoc done (payload ∷ []) (whole_from 0 h.rest))
          ∙ ap (λ (l : List ℕ). (done ++ payload ∷ []) ++ whole_from 0 l) (sym rest);
      lengths = All-push (λ p. length p < 2 ^ 64) done payload v.lengths h.short;
    }

-- behind a record stands a gate
pub record_within : (place behind : ℕ) (payload image : List ℕ) → HasRecord place payload image → behind ≡ place + 9 + length payload → behind < length image
record_within place behind payload image h is =
    let n = length payload in
    omega (
      arith,
      is,
      h.more,
      ap length h.bytes,
      length-drop place image,
      length-length_bytes n,
      length-append (1 ∷ length_bytes n) payload,
      length-append (1 ∷ length_bytes n ++ payload) h.rest,
    )

-- it ends at a closed gate
pub walk_end : (image : List ℕ) (place : ℕ) (done : List (List ℕ)) → StandsBehind place done image → HasClosedGate place image → records_of image ≡ Ok done
walk_end image place done v h =
    v.records ∙ ap (λ (l : List ℕ). with_firsts done (records_from place 0 l)) h.bytes ∙ ap (with_firsts done) (closed_gate place h.gate h.rest h.closed) ∙ ap (λ (l : List (List ℕ)). Ok l) (append-nil done)

pub walk_store : (image : List ℕ) (place : ℕ) (done : List (List ℕ)) → StandsBehind place done image → HasClosedGate place image → IsStore place image
walk_store image place done v h = record {
  records = done;
  gate = h.gate;
  rest = h.rest;
  bytes = v.bytes ∙ ap (λ (l : List ℕ). (magic ++ spelling_of done) ++ l) h.bytes;
  closed = h.closed;
  at_tail = v.at_place;
  lengths = v.lengths;
}

-- or where the store is damaged
pub walk_damaged : (image : List ℕ) (place : ℕ) (done : List (List ℕ)) → StandsBehind place done image → records_from place 0 (drop place image) ≡ Err place → records_of image ≡ Err place
walk_damaged image place done v damaged = v.records ∙ ap (with_firsts done) damaged

pub walk_damaged_whole : (image : List ℕ) (place : ℕ) (done : List (List ℕ)) → StandsBehind place done image → whole_from 0 (drop place image) ≡ [] → whole_records image ≡ done
walk_damaged_whole image place done v none = v.whole ∙ ap (λ (l : List (List ℕ)). done ++ l) none ∙ append-nil done

-- Records to which others were added are the same ones only where none were.
none_more : (done more : List (List ℕ)) → done ++ more ≡ done → more ≡ []
none_more [] more e = e
none_more (first ∷ done) more e = none_more done more cc

none_read : (done : List (List ℕ)) (rest : Result (List (List ℕ)) ℕ) → with_firsts done rest ≡ Ok done → rest ≡ Ok []
none_read done (Ok more) e = ap (λ (l : List (List ℕ)). Ok l) (none_more done more cc)
none_read done (Err place) e = absurd cc

-- a gate behind which no record is read is closed
gate_closed : (is_open whole : Bool) (payload : List ℕ) (rest : Result (List (List ℕ)) ℕ) (place : ℕ) → (if is_open then (if whole then with_first payload rest else Err place) else Ok []) ≡ Ok [] → is_open ≡ false
gate_closed false whole payload rest place e = refl
gate_closed true false payload rest place e = absurd cc
gate_closed true true payload (Ok tail) place e = absurd cc
gate_closed true true payload (Err at) place e = absurd cc

gate_at : (place at : ℕ) (image bytes : List ℕ) → drop at image ≡ bytes → records_from place 0 bytes ≡ Ok [] → HasClosedGate at image
gate_at place at image [] is e = absurd cc
gate_at place at image (gate ∷ behind) is e =
    let shut : (gate == 1) ≡ false = gate_closed (gate == 1) (is_whole behind) (payload_of behind) (records_from (suc place) (8 + length_of (take 8 behind)) behind) place e in
    record { gate = gate; rest = behind; bytes = is; closed = λ one. grind (arith, nat_tests) }

-- a walk that has gone over all records stands at the closed gate
pub walk_ended : (image : List ℕ) (place : ℕ) (done : List (List ℕ)) → StandsBehind place done image → records_of image ≡ Ok done → IsStore place image
walk_ended image place done v all = walk_store image place done v (gate_at place place image (drop place image) refl (none_read done (records_from place 0 (drop place image)) (sym v.records ∙ all)))

-- no gate
pub past_end : (place : ℕ) (image : List ℕ) → length image ≤ place → records_from place 0 (drop place image) ≡ Err place
past_end place image le = ap (records_from place 0) (drop_all place image le)

pub past_end_whole : (place : ℕ) (image : List ℕ) → length image ≤ place → whole_from 0 (drop place image) ≡ []
past_end_whole place image le = ap (whole_from 0) (drop_all place image le)

-- a gate that was read
pub gate_is : (place : ℕ) (image gate : List ℕ) → place < length image → gate ≡ take 1 (drop place image) → drop place image ≡ get_or gate 0 0 ∷ drop (place + 1) image
gate_is place image gate lt read =
    let is = drop_more image place 0 lt in
    is ∙ ap (λ (g : ℕ). g ∷ drop (place + 1) image) (sym (ap (λ (l : List ℕ). get_or l 0 0) (read ∙ ap (take 1) is)))

pub closed_gate_is : (place : ℕ) (image gate : List ℕ) → place < length image → gate ≡ take 1 (drop place image) → get_or gate 0 0 ≢ 1 → HasClosedGate place image
closed_gate_is place image gate lt read closed = record { gate = get_or gate 0 0; rest = drop (place + 1) image; bytes = gate_is place image gate lt read; closed = closed }

open_gate_is : (place : ℕ) (image gate : List ℕ) → place < length image → gate ≡ take 1 (drop place image) → get_or gate 0 0 ≡ 1 → drop place image ≡ 1 ∷ drop (place + 1) image
open_gate_is place image gate lt read opened = gate_is place image gate lt read ∙ ap (λ (g : ℕ). g ∷ drop (place + 1) image) opened

torn_front : (place : ℕ) (rest : List ℕ) → length rest < 9 + length_of (take 8 rest) → records_from place 0 (1 ∷ rest) ≡ Err place
torn_front place rest lt = let no : leb (9 + length_of (take 8 rest)) (length rest) ≡ false = lt-leb _ _ lt in rw no refl

-- an open gate with fewer bytes behind it than a record has
pub torn_record : (place : ℕ) (image gate : List ℕ) → place < length image → gate ≡ take 1 (drop place image) → get_or gate 0 0 ≡ 1 → length (drop (place + 1) image) < 9 + length_of (take 8 (drop (place + 1) image)) → records_from place 0 (drop place image) ≡ Err place
torn_record place image gate lt read opened short = ap (records_from place 0) (open_gate_is place image gate lt read opened) ∙ torn_front place (drop (place + 1) image) short

torn_front_whole : (rest : List ℕ) → length rest < 9 + length_of (take 8 rest) → whole_from 0 (1 ∷ rest) ≡ []
torn_front_whole rest lt = let no : leb (9 + length_of (take 8 rest)) (length rest) ≡ false = lt-leb _ _ lt in rw no refl

pub torn_record_whole : (place : ℕ) (image gate : List ℕ) → place < length image → gate ≡ take 1 (drop place image) → get_or gate 0 0 ≡ 1 → length (drop (place + 1) image) < 9 + length_of (take 8 (drop (place + 1) image)) → whole_from 0 (drop place image) ≡ []
torn_record_whole place image gate lt read opened short = ap (whole_from 0) (open_gate_is place image gate lt read opened) ∙ torn_front_whole (drop (place + 1) image) short

-- eight bytes spell their length
pub spelled_by : (n : ℕ) (eight : List ℕ) → length eight ≡ 8 → ((k : ℕ) → get_or eight k 0 < 256) → length_of eight ≡ n → length_bytes n ≡ eight
unfolding length_bytes length_of
spelled_by n eight long small says = be_bytes_8 eight n long small (sym says)

-- a record of which each part was read
pub record_is : (place : ℕ) (image gate eight payload : List ℕ) → gate ≡ take 1 (drop place image) → get_or gate 0 0 ≡ 1 → eight ≡ take 8 (drop (place + 1) image) → length_bytes (length payload) ≡ eight → payload ≡ take (length payload) (drop (place + 9) image) → place + 9 + length payload < length image → length payload < 2 ^ 64 → HasRecord place payload image
record_is place image gate eight payload read opened spelled spells taken more short =
    let n = length payload in
    let behind = drop (place + 1) image in
    record {
      rest = drop (place + 9 + n) image;
      bytes = open_gate_is place image gate (omega (arith, more)) read opened
          ∙ ap (λ (l : List ℕ). 1 ∷ l) (sym (take-append-drop 8 behind)
          ∙ ap (λ (l : List ℕ). l ++ drop 8 behind) (sym spelled ∙ sym spells)
          ∙ ap (λ (l : List ℕ). length_bytes n ++ l) (drop-drop 8 (place + 1) image ∙ ap (λ k. drop k image) (omega arith) ∙ sym (take-append-drop n (drop (place + 9) image))
          ∙ ap (λ (l : List ℕ). l ++ drop n (drop (place + 9) image)) (sym taken)
          ∙ ap (λ (l : List ℕ). payload ++ l) (drop-drop n (place + 9) image))
          ∙ sym (append_assoc (length_bytes n) payload (drop (place + 9 + n) image)));
      more = omega (arith, more, length-drop (place + 9 + n) image);
      short = short;
    }
