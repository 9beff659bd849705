-- Frames and replies are the same as themselves.
use Rattle.std.proofs.Common.{◌≡◌, refl, Bool, true, false, ℕ, ◌&&◌, List, [], ◌∷◌, Option, Some, None, nat_eq}
use Rattle.std.specs.Ordering.{int_eq}
use Rattle.std.specs.Str.{bytes_eq}
use Rattle.std.specs.Prelude.{◌==◌, ℤ}
use Rattle.std.specs.Cmp.Lexicographic.{pointwise}
use Rattle.std.proofs.lemmas.Bool.{and_from}
use Rattle.std.proofs.lemmas.Slice.Eq.{bytes_eq-Decides}
use Rattle.std.proofs.lemmas.Bool.Decides.{nat_tests, Decides-int_eq}
use Rattle.std.proofs.Common.{arith}
use Rattle.svc_values.specs.declared.value.Value.{Value}
use Rattle.svc_values.specs.declared.value.Value.TheVariants as value
use Rattle.svc_values.specs.declared.answer.Answer.{Answer}
use Rattle.svc_values.specs.declared.answer.Answer.TheVariants as answer
use Rattle.svc_values.specs.declared.draw.Draw.{Draw}
use Rattle.svc_values.specs.declared.draw.Draw.TheVariants as draw
use Rattle.svc_values.specs.declared.entry.Ltxid.{Ltxid}
use Rattle.svc_values.specs.declared.frame.Ahead.{Ahead}
use Rattle.svc_values.specs.declared.frame.Ahead.TheVariants as ahead
use Rattle.svc_values.specs.declared.frame.Up.{Up}
use Rattle.svc_values.specs.declared.frame.Up.TheVariants as up
use Rattle.svc_values.specs.declared.frame.Down.{Down}
use Rattle.svc_values.specs.declared.frame.Down.TheVariants as down
use Rattle.svc_values.specs.meaning.Identifiers.{same_ltxid}
use Rattle.svc_values.specs.meaning.Same.{same_value, same_answer, same_answers, same_bool, same_call, same_draw, same_draws, fault_code}
use Rattle.svc_values.specs.SameLaws.{same_call_decides, same_settings_equiv}
use Rattle.world_model.specs.meaning.Frames.{Owner, Sent, Reply}
use Rattle.world_model.specs.Sames.{same_owner, same_owners, same_up, same_sent, same_reply, same_ahead, same_down}
use Rattle.world_model.specs.records.Wire.{same_replies}
use Rattle.world_model.proofs.events.Tests.{eq_to}

number_self : (n : ℕ) → (n == n) ≡ true
number_self n = eq_to n n refl

int_self : (n : ℤ) → int_eq n n ≡ true
int_self n = (Decides-int_eq n n).1 refl

pub bytes_self : (bytes : List ℕ) → bytes_eq bytes bytes ≡ true
bytes_self bytes = (bytes_eq-Decides bytes bytes).1 refl

pub each_self : {A : Type 0} (same : A → A → Bool) → ((x : A) → same x x ≡ true) → (xs : List A) → pointwise same xs xs ≡ true
each_self same self [] = refl
each_self same self (x ∷ xs) = and_from (same x x) (pointwise same xs xs) (self x) (each_self same self xs)

value_self : (one : Value) → same_value one one ≡ true
value_self (value.Int n) = int_self n
value_self (value.Text text) = each_self nat_eq number_self text
value_self (value.Bytes bytes) = each_self nat_eq number_self bytes

answer_self : (one : Answer) → same_answer one one ≡ true
answer_self (answer.Done n) = number_self n
answer_self (answer.Rows rows) = each_self (pointwise same_value) (each_self same_value value_self) rows
answer_self (answer.Number n) = int_self n
answer_self answer.Committed = refl
answer_self answer.Conflict = refl
answer_self answer.RolledBack = refl
answer_self answer.CommitInReplay = refl
answer_self (answer.Refused fault) = number_self (fault_code fault)

pub draw_self : (one : Draw) → same_draw one one ≡ true
draw_self (draw.Seq name n) = and_from (bytes_eq name name) (int_eq n n) (bytes_self name) (int_self n)
draw_self (draw.Clock n) = number_self n
draw_self (draw.Id bytes) = bytes_self bytes

pub bool_self : (b : Bool) → same_bool b b ≡ true
bool_self true = refl
bool_self false = refl

pub ltxid_self : (x : Ltxid) → same_ltxid x x ≡ true
ltxid_self x = grind (arith, nat_tests)

ahead_self : (one : Ahead) → same_ahead one one ≡ true
ahead_self ahead.Server = refl
ahead_self ahead.Client = refl
ahead_self ahead.Forgotten = refl

down_self : (one : Down) → same_down one one ≡ true
down_self (down.Hello x) = ltxid_self x
down_self (down.Reply answers draws x) =
    and_from (same_answers answers answers) (same_draws draws draws && same_ltxid x x) (each_self same_answer answer_self answers)
    (and_from (same_draws draws draws) (same_ltxid x x) (each_self same_draw draw_self draws) (ltxid_self x))
down_self (down.OutcomeIs a b) = and_from (same_bool a a) (same_bool b b) (bool_self a) (bool_self b)
down_self (down.OutcomeRefused why n) = and_from (same_ahead why why) (n == n) (ahead_self why) (number_self n)
down_self down.Blocked = refl
down_self (down.Refused cause) = number_self cause

pub reply_self : (reply : Option Down) → same_replies reply reply ≡ true
reply_self None = refl
reply_self (Some frame) = down_self frame

pub up_self : (one : Up) → same_up one one ≡ true
up_self up.Connect = refl
up_self (up.Begin settings) = same_settings_equiv.refl settings
up_self (up.Call replay kept call) =
    and_from (same_bool replay replay) (same_draws kept kept && same_call call call) (bool_self replay)
    (and_from (same_draws kept kept) (same_call call call) (each_self same_draw draw_self kept) ((same_call_decides call call).1 refl))
up_self (up.Outcome x) = ltxid_self x
up_self up.End = refl
up_self up.Close = refl

pub owner_self : (one : Owner) → same_owner one one ≡ true
owner_self one = and_from (one.client == one.client) (one.place == one.place) (number_self one.client) (number_self one.place)

pub owners_self : (one : Option Owner) → same_owners one one ≡ true
owners_self None = refl
owners_self (Some one) = owner_self one

pub sent_self : (one : Sent) → same_sent one one ≡ true
sent_self one =
    and_from (same_owners one.owner one.owner) ((one.call == one.call) && same_up one.frame one.frame) (owners_self one.owner)
    (and_from (one.call == one.call) (same_up one.frame one.frame) (number_self one.call) (up_self one.frame))

pub same_reply_self : (one : Reply) → same_reply one one ≡ true
same_reply_self one = and_from (same_sent one.to one.to) (same_down one.frame one.frame) (sent_self one.to) (down_self one.frame)
