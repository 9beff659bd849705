-- Values that calls drew.
use Rattle.std.specs.Prelude.{ℕ, List, [], ◌∷◌, Result, Ok, codes}
use Rattle.serde_json.specs.Data.{Data}
use Rattle.json_form.specs.meaning.Faults.{Fault, ◌>>=◌}
use Rattle.json_form.specs.meaning.Values.{integer_of}
use Rattle.json_form.specs.meaning.Texts.{head_of}
use Rattle.json_form.specs.meaning.Arrays.{each_of, list_of, fixed, part}
use Rattle.svc_values.specs.declared.draw.Draw.{Draw}
use Rattle.svc_values.specs.declared.draw.Draw.TheVariants as draw
use Rattle.call_forms.specs.meaning.Values.{name_of}
use Rattle.answer_forms.specs.declared.draw.DrawWord.{DrawWord}
use Rattle.answer_forms.specs.declared.draw.DrawWord.TheVariants as word
use Rattle.answer_forms.specs.meaning.Parts.{number_in, octets_in}

abbrev pub draw_words : List (List ℕ × DrawWord)
draw_words = (codes "seq", word.Seq) ∷ (codes "clock", word.Clock) ∷ (codes "id", word.Id) ∷ []

-- ["seq",name,value]
unfoldable pub seq_in : Data → Result Draw Fault
seq_in d =
    fixed 3 d >>= λ ds. part 1 name_of ds >>= λ name. part 2 integer_of
    ds >>= λ n. Ok (draw.Seq name n)

-- ["clock",tick]
unfoldable pub clock_in : Data → Result Draw Fault
clock_in d = fixed 2 d >>= λ ds. part 1 number_in ds >>= λ tick. Ok (draw.Clock tick)

-- ["id",digits]
unfoldable pub id_in : Data → Result Draw Fault
id_in d = fixed 2 d >>= λ ds. part 1 (octets_in 16) ds >>= λ id. Ok (draw.Id id)

abbrev pub draw_by : DrawWord → Data → Result Draw Fault
draw_by word.Seq = seq_in
draw_by word.Clock = clock_in
draw_by word.Id = id_in

unfoldable pub draw_in : Data → Result Draw Fault
draw_in d = head_of draw_words d >>= λ w. draw_by w d

abbrev pub draws_in : Data → Result (List Draw) Fault
draws_in d = list_of (each_of draw_in) d
