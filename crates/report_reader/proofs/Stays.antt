-- What was taken out before changes nothing for what stands behind.
use Rattle.std.proofs.Common.{◌≡◌, ℕ, List, Bool, true, false, refl, rules, codes}
use Rattle.std.specs.Str.{bytes_eq}
use Rattle.json_form.specs.meaning.Objects.{Named}
use Rattle.json_form.specs.Objects.{without}
use Rattle.json_form.proofs.Offered.{others_stay}
use Rattle.report_reader.specs.meaning.Reports.{image_in, middle_in, back_in}

pub image_stays : (print : Bool) (name : List ℕ) (ms : Named) → bytes_eq (codes "image") name ≡ false
    → image_in print (without name ms) ≡ image_in print ms
image_stays true name ms image = search (rules, others_stay, image)
image_stays false name ms image = refl

pub middle_stays : (print : Bool) (name : List ℕ) (ms : Named) → bytes_eq (codes "entries") name ≡ false
    → bytes_eq (codes "forgotten") name ≡ false → bytes_eq (codes "image") name ≡ false
    → middle_in print (without name ms) ≡ middle_in print ms
unfolding middle_in
middle_stays print name ms entries forgotten image =
    search (rules, others_stay, image_stays print name ms image, entries, forgotten)

pub back_stays : (name : List ℕ) (ms : Named) → bytes_eq (codes "notes") name ≡ false
    → bytes_eq (codes "served") name ≡ false → bytes_eq (codes "tables") name ≡ false
    → back_in (without name ms) ≡ back_in ms
unfolding back_in
back_stays name ms notes served tables = search (rules, others_stay, notes, served, tables)
