-- Values of operands that are read from a source one after the other.
use Rattle.std.proofs.Common.{◌≡◌, inl, ℕ, ◌+◌, List, [], ◌∷◌, ◌++◌, length, drop, refl, sym, ap, ◌∙◌, subst, append_assoc, append-nil}
use Rattle.std.specs.Prelude.{Option, Some, None, Result, Ok, Err, option_map, slice_get}
use Rattle.svc_values.specs.declared.value.Value.{Value}
use Rattle.svc_values.specs.declared.draw.Draw.{Draw}
use Rattle.svc_values.specs.declared.statement.Operand.{Operand}
use Rattle.svc_values.specs.declared.answer.StatementFault.{StatementFault}
use Rattle.stmt_meaning.specs.meaning.Operands.{Reading, wanted, value_of, values_of}
use Rattle.stmt_meaning.proofs.ReadValues.{after_values, drop-slice_get, reads_on, reads_stop, reads_refused, reads_end}
use Rattle.stmt_meaning.specs.declared.fault.TxnFault.{TxnFault}
use Rattle.stmt_meaning.specs.declared.fault.TxnFault.TheVariants as txn_fault
use Rattle.stmt_meaning.specs.declared.stop.Stop.{Stop}
use Rattle.stmt_meaning.specs.declared.stop.Stop.TheVariants as stop
use Rattle.stmt_meaning.specs.Drawing.{Drew, DrewAll, EndedBy, Ends}
use Rattle.stmt_meaning.specs.InnerReading.{ReadsAll, HasRead, left_of}
use Rattle.stmt_meaning.proofs.Asking.{EnoughAfter, taken-more, enough_after}
use Rattle.stmt_meaning.proofs.Drawn.{drew_append, ended_on}
use Rattle.svc_values.specs.meaning.SettingsList.{NamedValues}

-- what was read with all draws used
pub read_all : {A : Type 0} (come : Reading A) → option_map (λ c. c.1) come ≡ Some [] → (r : Result A StatementFault) × (come ≡ Some (r, []))
read_all None e = cc
read_all {A} (Some (r, left)) e = (r, ap (λ l. let come : Reading A = Some (r, l) in come) (some_inj left [] e))
  where
    some_inj : (a b : List Draw) → ◌≡◌ {A = Option (List Draw)} (Some a) (Some b) → a ≡ b
    some_inj a b h = cc

-- no reading leaves no draws
pub none_read : {A : Type 0} (come : Reading A) → option_map (λ c. c.1) come ≡ None → come ≡ None
none_read None e = refl
none_read (Some read) e = cc

all_left : (values : List Value) (r : Result (List Value) StatementFault) → option_map (λ c. c.1) (after_values values (Some (r, []))) ≡ Some []
all_left values (Ok xs) = refl
all_left values (Err refusal) = refl

module _ {S : Type 0} (drew : S → Drew → S → Type 0) (names : List (List ℕ)) (settings : NamedValues) (operands : List Operand) (old : S) (before : List Draw) where
  -- the values so far, and the draws that they took
  pub record SoFar (values : List Value) (now : S) (after : List Draw) : Type 0 where
    pub given : List Draw
    pub drew_all : DrewAll drew old given now
    pub behind : after ≡ before ++ given
    pub so_far : (more : List Draw) → values_of names settings operands (given ++ more) ≡ after_values values (values_of names settings (drop (length values) operands) more)

  pub begins : (values : List Value) (now : S) (after : List Draw) → values ≡ [] → now ≡ old → after ≡ before → SoFar values now after
  begins values now after none same kept = record {
    given = [];
    drew_all = same;
    behind = kept ∙ sym (append-nil before);
    so_far = λ more. subst (λ l. values_of names settings operands more ≡ after_values l (values_of names settings (drop (length l) operands) more)) (sym none) (nothing (values_of names settings operands more));
  }
    where
      nothing : (read : Reading (List Value)) → read ≡ after_values [] read
      nothing None = refl
      nothing (Some (Ok xs, left)) = refl
      nothing (Some (Err refusal, left)) = refl

  module _ (values : List Value) (now : S) (after : List Draw) (at : SoFar values now after) where
    -- the next operand
    module _ (here : Operand) (found : slice_get operands (length values) ≡ Some here) (these : List (List ℕ)) (same : these ≡ names) (new : S) (last : List Draw) where
      reads_next : (given : List Draw) (r : Result Value StatementFault) → value_of these settings here given ≡ Some (r, []) → value_of names settings here given ≡ Some (r, [])
      reads_next given r e = ap (λ n. value_of n settings here given) (sym same) ∙ e

      put_behind : (given : List Draw) → last ≡ after ++ given → last ≡ before ++ (at.given ++ given)
      put_behind given e = e ∙ ap (λ l. l ++ given) at.behind ∙ append_assoc before at.given given

      pub goes_on : (x : Value) (longer : List Value) → longer ≡ values ++ x ∷ [] → ReadsAll drew (λ given. value_of these settings here given) now after (Ok x) new last → SoFar longer new last
      goes_on x longer is read = record {
        given = at.given ++ read.given;
        drew_all = drew_append drew old now new at.given read.given at.drew_all read.drew_all;
        behind = put_behind read.given read.behind;
        so_far = λ more.
            subst (λ l. values_of names settings operands ((at.given ++ read.given) ++ more) ≡ after_values l (values_of names settings (drop (length l) operands) more)) (sym is)
            (ap (values_of names settings operands) (append_assoc at.given read.given more) ∙ at.so_far (read.given ++ more)
            ∙ reads_on names settings operands values here found (read.given ++ more) more x (taken-more (wanted names settings here) read.given more [] (Ok x) (reads_next read.given (Ok x) read.reads)));
      }

      refused : (refusal : StatementFault) → ReadsAll drew (λ given. value_of these settings here given) now after (Err refusal) new last
          → ReadsAll drew (λ given. values_of names settings operands given) old before (Err refusal) new last
      refused refusal read = record {
        given = at.given ++ read.given;
        drew_all = drew_append drew old now new at.given read.given at.drew_all read.drew_all;
        behind = put_behind read.given read.behind;
        reads = at.so_far read.given ∙ reads_refused names settings operands values here found read.given [] refusal (reads_next read.given (Err refusal) read.reads);
      }

      rest : List Operand
      rest = drop (length values + 1) operands

      abbrev whole : List Draw → Option (List Draw)
      whole = left_of (λ ds. values_of names settings operands ds)

      -- an end while the operand was read, or behind it
      ends : (ended : TxnFault) (given : List Draw) (between : S) → DrewAll drew now given between → (go : EnoughAfter given (values_of names settings (here ∷ rest))) → EndedBy drew whole (at.given ++ given) between ended new → Ends drew whole old ended new
      unfolding rest
      ends ended given between drawn go because = record {
        given = at.given ++ given;
        between = between;
        drew_all = drew_append drew old now between at.given given at.drew_all drawn;
        more = go.0;
        asked =
            ap (λ l. option_map (λ c. c.1) (values_of names settings operands l)) (append_assoc at.given given go.0)
            ∙ ap (option_map (λ c. c.1)) (at.so_far (given ++ go.0) ∙ ap (λ l. after_values values (values_of names settings l (given ++ go.0))) (drop-slice_get operands (length values) here found) ∙ ap (after_values values) go.1.1)
            ∙ all_left values go.1.0;
        because = because;
      }

      -- where the operand's draws do not begin as is asked, neither do those of all operands
      stops_there : (given left : List Draw) → left_of (λ ds. value_of these settings here ds) (given ++ left) ≡ None → whole ((at.given ++ given) ++ left) ≡ None
      stops_there given left none =
          let one : value_of names settings here (given ++ left) ≡ None = ap (λ n. value_of n settings here (given ++ left)) (sym same) ∙ none_read (value_of these settings here (given ++ left)) none in
          ap (λ l. option_map (λ c. c.1) (values_of names settings operands l)) (append_assoc at.given given left)
          ∙ ap (option_map (λ c. c.1)) (at.so_far (given ++ left) ∙ reads_stop names settings operands values here found (given ++ left) one)

      ended_there : (ended : TxnFault) → Ends drew (left_of (λ given. value_of these settings here given)) now ended new → Ends drew whole old ended new
      unfolding rest
      ended_there ended e =
          let one = read_all (value_of these settings here (e.given ++ e.more)) e.asked in
          let go = enough_after names settings here rest (e.given ++ e.more) one.0 (reads_next (e.given ++ e.more) one.0 one.1) in
          ends ended e.given e.between e.drew_all
          (e.more ++ go.0, (go.1.0, ap (values_of names settings (here ∷ rest)) (sym (append_assoc e.given e.more go.0)) ∙ go.1.1))
          (ended_on drew (left_of (λ ds. value_of these settings here ds)) whole e.given (at.given ++ e.given) (stops_there e.given) e.between new ended e.because)

      pub fails : (e : Stop) → HasRead drew (λ given. value_of these settings here given) now after (Err e) new last → HasRead drew (λ given. values_of names settings operands given) old before (Err e) new last
      fails (stop.Refused refusal) read = refused refusal read
      fails (stop.Ended ended) read = ended_there ended read

      -- no memory for the value that was read
      pub lacks : (x : Value) → ReadsAll drew (λ given. value_of these settings here given) now after (Ok x) new last → Ends drew whole old txn_fault.NoMemory new
      unfolding rest
      lacks x read =
          ends txn_fault.NoMemory read.given new read.drew_all (enough_after names settings here rest read.given (Ok x) (reads_next read.given (Ok x) read.reads)) (inl refl)

    pub all_read : slice_get operands (length values) ≡ None → ReadsAll drew (λ given. values_of names settings operands given) old before (Ok values) now after
    all_read past = record {
      given = at.given;
      drew_all = at.drew_all;
      behind = at.behind;
      reads = ap (values_of names settings operands) (sym (append-nil at.given)) ∙ at.so_far [] ∙ reads_end names settings operands values past [];
    }
