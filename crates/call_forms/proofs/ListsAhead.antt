-- A list whose items were read one after the other.
use Rattle.std.proofs.Common.{◌≡◌, ◌≤◌, ℕ, ◌&&◌, nat_le, List, [], length, true, Option, Some, None, Result, Ok, Err, ap, ◌∙◌, arith}
use Rattle.std.specs.Prelude.{IfSome, if◌then◌else◌}
use Rattle.std.proofs.lemmas.Bool.{le-leb}
use Rattle.json.specs.Token.{Token}
use Rattle.json.specs.Json.{parse_map}
use Rattle.serde_json.specs.Data.{Data, Items}
use Rattle.serde_json.specs.Events.{items_len}
use Rattle.json_form.specs.declared.fault.DocCode.TheVariants.{Limit}
use Rattle.json_form.specs.meaning.Faults.{Fault, ◌>>=◌, here}
use Rattle.json_form.specs.meaning.Values.{items_of}
use Rattle.json_form.specs.meaning.Arrays.{each_of, in_count, counted_of, array_of, list_of}
use Rattle.json_form.proofs.Offered.{after, ok_is, passed, begun, each_long, second_true, both_true}

-- what holds of each thing that may be there holds of the one that is
pub of_each : {A : Type 0} (P Q : A → Type 0) (o : Option A) → ((x : A) → P x → Q x) → IfSome o P → IfSome o Q
of_each P Q None more h = tt
of_each P Q (Some x) more h = more x h

-- what begins with a value that is read alike
pub begins_alike : {A B : Type 0} (f : Data → Result A Fault) (g : Data → Result B Fault) (o : Option (Data × List Token)) (x : A) (y : B) (r : List Token) → ((d : Data) → f d ≡ Ok x → g d ≡ Ok y)
    → parse_map f o ≡ Some (Ok x, r) → parse_map g o ≡ Some (Ok y, r)
begins_alike f g o x y r alike e =
    let b = begun f o x r e in ap (parse_map g) b.1 ∙ ap (λ (q : Result _ Fault). Some (q, r)) (alike b.0 b.2)

-- an array's items were read: it has them, and no more than it may have
record WasRead {A : Type 0} (high : ℕ) (read : Items → Result (List A) Fault) (d : Data) (xs : List A) : Type 0 where
  items : Items
  there : items_of d ≡ Ok items
  few : nat_le (items_len items) high ≡ true
  gave : read items ≡ Ok xs

was_read : {A : Type 0} (read : Items → Result (List A) Fault) (low high : ℕ) (d : Data) (xs : List A) → array_of low high read d ≡ Ok xs → WasRead high read d xs
was_read read low high d xs h =
    let a = after (counted_of low high d) read xs h in
    let b = after (items_of d) (in_count low high) a.0 a.1 in
    let c = passed (nat_le low (items_len b.0) && nat_le (items_len b.0) high) (Ok b.0) (here Limit) a.0 b.2 in record {
      items = b.0;
      there = b.1;
      few = second_true _ _ c.0;
      gave = ap read (ok_is b.0 a.0 c.1) ∙ a.2;
    }

-- the items of an array of so many are those of one of any number
pub any_number : {A : Type 0} (read : Items → Result (List A) Fault) (low high : ℕ) (d : Data) (xs : List A) → array_of low high read d ≡ Ok xs → list_of read d ≡ Ok xs
any_number read low high d xs h = let a = was_read read low high d xs h in ap (λ (r : Result Items Fault). r >>= read) a.there ∙ a.gave

-- as many items were read as there are to be
pub enough_read : {A : Type 0} (read : Data → Result A Fault) (low high : ℕ) (d : Data) (xs : List A) → low ≤ length xs → array_of 0 high (each_of read) d ≡ Ok xs → array_of low high (each_of read) d ≡ Ok xs
enough_read read low high d xs enough h =
    let a = was_read (each_of read) 0 high d xs h in
    let long = each_long (λ before. read) [] a.items xs a.gave in
    let some : nat_le low (items_len a.items) ≡ true = le-leb low (items_len a.items) (omega (arith, enough, long)) in
    ap (λ (r : Result Items Fault). r >>= in_count low high >>= each_of read) a.there
    ∙ ap (λ b. (if b then Ok a.items else Err (here Limit)) >>= each_of read) (both_true _ _ some a.few) ∙ a.gave
