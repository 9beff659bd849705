-- What reading from a source came to, put together.
use Rattle.std.proofs.Common.{◌≡◌, inl, inr, ℕ, true, List, [], ◌∷◌, ◌++◌, refl, sym, ap, ◌∙◌, subst, append-nil}
use Rattle.std.specs.Prelude.{Option, Some, None, Ok, Err, option_map}
use Rattle.svc_values.specs.declared.value.Value.{Value}
use Rattle.svc_values.specs.declared.draw.Draw.{Draw}
use Rattle.svc_values.specs.declared.draw.DrawKind.{DrawKind}
use Rattle.stmt_meaning.specs.meaning.Operands.{Reading, drawn_value, wanted_draw, taken}
use Rattle.stmt_meaning.specs.declared.fault.DrawFromFault.{DrawFromFault}
use Rattle.stmt_meaning.specs.declared.fault.DrawFromFault.TheVariants as fault
use Rattle.stmt_meaning.specs.declared.fault.TxnFault.{TxnFault}
use Rattle.stmt_meaning.specs.declared.fault.TxnFault.TheVariants as txn_fault
use Rattle.stmt_meaning.specs.Drawing.{Drew, Gave, HasDrawn, DrewAll, AsksNext, EndedBy, Ends}
use Rattle.svc_values.specs.Draws.{is_there}
use Rattle.stmt_meaning.specs.InnerReading.{ReadsAll, HasRead, left_of}
use Rattle.stmt_meaning.specs.InnerStops.{stop_of_draw}
use Rattle.stmt_meaning.proofs.Asking.{Enough, EnoughAfter, one_draw, one_draw-kind, taken_there, taken_other, wanted_away}

module _ {S : Type 0} (drew : S → Drew → S → Type 0) where
  pub drew_append : (old between new : S) (some more : List Draw) → DrewAll drew old some between → DrewAll drew between more new → DrewAll drew old (some ++ more) new
  drew_append old between new [] more same rest = subst (λ s. DrewAll drew s more new) same rest
  drew_append old between new (first ∷ some) more (mid, (gave, drawn)) rest = (mid, (gave, drew_append mid between new some more drawn rest))

  -- what a part asks for next is what the whole asks for next
  pub ended_on : (part whole : List Draw → Option (List Draw)) (given all : List Draw) → ((rest : List Draw) → part (given ++ rest) ≡ None → whole (all ++ rest) ≡ None)
      → (between new : S) (ended : TxnFault) → EndedBy drew part given between ended new → EndedBy drew whole all between ended new
  ended_on part whole given all goes between new txn_fault.Stopped (asked, (halted, next)) = (asked, (halted, λ rest other. goes rest (next rest other)))
  ended_on part whole given all goes between new txn_fault.NoMemory (inl same) = inl same
  ended_on part whole given all goes between new txn_fault.NoMemory (inr (asked, (lacked, next))) = inr (asked, (lacked, λ rest other. goes rest (next rest other)))

  -- the same is asked for
  pub ends_as : (part whole : List Draw → Option (List Draw)) → ((draws : List Draw) → whole draws ≡ part draws) → (old : S) (ended : TxnFault) (new : S) → Ends drew part old ended new → Ends drew whole old ended new
  ends_as part whole same old ended new e = record {
    given = e.given;
    between = e.between;
    drew_all = e.drew_all;
    more = e.more;
    asked = same (e.given ++ e.more) ∙ e.asked;
    because = ended_on part whole e.given e.given (λ rest none. same (e.given ++ rest) ∙ none) e.between new ended e.because;
  }

  module _ {A : Type 0} (read : List Draw → Reading A) where
    -- want of memory beside the source
    pub lacking : (old : S) (given : List Draw) (new : S) → DrewAll drew old given new → EnoughAfter given read → Ends drew (left_of read) old txn_fault.NoMemory new
    lacking old given new drawn more = record { given = given; between = new; drew_all = drawn; more = more.0; asked = ap (option_map (λ come. come.1)) more.1.1; because = inl refl }

    -- and before anything was drawn
    pub lacking_at_once : (old : S) → Enough read → Ends drew (left_of read) old txn_fault.NoMemory old
    lacking_at_once old more = lacking old [] old refl more

  one_drawn : (names : List (List ℕ)) (asked : DrawKind) (given : Draw) (old new : S) → drew old (Gave given) new → DrewAll drew old (given ∷ []) new
  one_drawn names asked given old new gave = (new, (gave, refl))

  module _ (names : List (List ℕ)) (asked : DrawKind) (old new : S) where
    abbrev pub reads_draw : List Draw → Reading Value
    reads_draw = λ given. taken (wanted_draw names asked) given

    -- a draw that was given, and for which there was no memory then
    pub lacked_after : (given : Draw) → HasDrawn names drew old asked (Ok given) new → Ends drew (left_of reads_draw) old txn_fault.NoMemory new
    lacked_after given (there, (of_kind, gave)) = lacking reads_draw old (given ∷ []) new (new, (gave, refl)) ([], (Ok (drawn_value given), taken_there names asked given there of_kind))

    pub gave_one : (given : Draw) (before after : List Draw) (x : Value) → HasDrawn names drew old asked (Ok given) new → after ≡ before ++ given ∷ [] → x ≡ drawn_value given → ReadsAll drew reads_draw old before (Ok x) new after
    gave_one given before after x (there, (of_kind, gave)) put is = record {
      given = given ∷ [];
      drew_all = (new, (gave, refl));
      behind = put;
      reads = taken_there names asked given there of_kind ∙ ap (λ v. Some (Ok v, [])) (sym is);
    }

    all_drawn : is_there names asked ≡ true → left_of reads_draw (one_draw asked ∷ []) ≡ Some []
    all_drawn there = ap (option_map (λ come. come.1)) (taken_there names asked (one_draw asked) there (one_draw-kind asked))

    asks_next : is_there names asked ≡ true → AsksNext (left_of reads_draw) [] asked
    asks_next there rest other = ap (option_map (λ come. come.1)) (taken_other names asked rest there other)

    -- no draw
    pub not_given : (e : DrawFromFault) (before : List Draw) → HasDrawn names drew old asked (Err e) new → HasRead drew reads_draw old before (Err (stop_of_draw e)) new before
    not_given fault.NoSequence before (away, same) = record {
      given = [];
      drew_all = same;
      behind = sym (append-nil before);
      reads = ap (λ w. taken w []) (wanted_away names asked away);
    }
    not_given fault.NoMemory before (there, lacked) = record {
      given = [];
      between = old;
      drew_all = refl;
      more = one_draw asked ∷ [];
      asked = all_drawn there;
      because = inr (asked, (lacked, asks_next there));
    }
    not_given fault.Stopped before (there, halted) =
        record { given = []; between = old; drew_all = refl; more = one_draw asked ∷ []; asked = all_drawn there; because = (asked, (halted, asks_next there)) }
