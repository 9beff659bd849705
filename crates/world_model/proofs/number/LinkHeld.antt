-- Of each connection: the identifier that is held is that of the last reply taken that tells one.
use Rattle.std.proofs.Common.{◌≡◌, refl, ap, ◌∙◌, Bool, true, List, [], ◌∷◌, ◌++◌, fold, Option, Some, None}
use Rattle.std.specs.Option.{option_or}
use Rattle.svc_values.specs.declared.entry.Ltxid.{Ltxid}
use Rattle.svc_values.specs.declared.frame.Down.{Down}
use Rattle.svc_values.specs.declared.frame.Down.TheVariants as down
use Rattle.svc_values.specs.SameLaws.{same_ltxid_decides}
use Rattle.client_model.specs.declared.input.Input.TheVariants.{Took}
use Rattle.world_model.specs.meaning.Frames.{Reply}
use Rattle.world_model.specs.meaning.Links.{Link, told_by, takes}
use Rattle.world_model.specs.meaning.Machines.{Machine}
use Rattle.world_model.specs.meaning.Serving.{after_front}
use Rattle.world_model.specs.records.Hold.{same_held}
use Rattle.world_model.specs.records.Number.{told_in, last_told, is_told}
use Rattle.world_model.proofs.events.AllLinks.{Keeps}
use Rattle.world_model.proofs.basic.Ends.{sends_alike, handled_alike, cut_case, fallen_case}
use Rattle.world_model.proofs.basic.LinkLives.{no_test}

fold_more : (held : Option Ltxid) (taken : List Reply) (reply : Reply) → fold told_in held (taken ++ reply ∷ []) ≡ told_in (fold told_in held taken) reply
fold_more held [] reply = refl
fold_more held (one ∷ taken) reply = fold_more (told_in held one) taken reply

pub told_alive : (frame : Down) (alive : Bool) → told_by (Took frame alive) ≡ told_by (Took frame true)
told_alive (down.Hello x) alive = refl
told_alive (down.Reply answers draws x) alive = refl
told_alive (down.OutcomeIs committed completed) alive = refl
told_alive (down.OutcomeRefused ahead next) alive = refl
told_alive down.Blocked alive = refl
told_alive (down.Refused cause) alive = refl

same_or : (told a b : Option Ltxid) → same_held a b ≡ true → same_held (option_or told a) (option_or told b) ≡ true
same_or None a b same = same
same_or (Some x) a b same = (same_ltxid_decides x x).1 refl

takes_told : (link : Link) (reply : Reply) (left : List Reply) → is_told link ≡ true → is_told (takes (Took reply.frame link.is_open) reply left link) ≡ true
takes_told link reply left here =
    ap (λ (told : Option Ltxid). same_held told (option_or (told_by (Took reply.frame link.is_open)) link.held)) (fold_more None link.taken reply)
    ∙ (ap (λ (told : Option Ltxid). same_held (option_or (told_by (Took reply.frame true)) (last_told link.taken)) (option_or told link.held)) (told_alive reply.frame link.is_open)
    ∙ same_or (told_by (Took reply.frame true)) (last_told link.taken) link.held here)

pub told_keep : (m : Machine) → Keeps m no_test is_told
told_keep m = record {
  at_new = λ up. refl;
  at_sends = λ frames link here. sends_alike (λ one. is_told one ≡ true) m.event frames link here here;
  at_takes = λ reply left link old here down. takes_told link reply left here;
  at_serves = λ number front served at ordinary old here. handled_alike (λ one. is_told one ≡ true) m.event front served (λ reply. here) (λ reply. here);
  at_stops = λ number after front served at stopped old here. fallen_case (λ one. is_told one ≡ true) m.event (after_front front served None) (λ opens. here) (λ closed. here);
  at_cuts = λ up down link opens here. cut_case (λ one. is_told one ≡ true) m.event up down link opens here;
  at_reaps = λ link orphan here. here;
  at_falls = λ link here. fallen_case (λ one. is_told one ≡ true) m.event link (λ opens. here) (λ closed. here);
}
