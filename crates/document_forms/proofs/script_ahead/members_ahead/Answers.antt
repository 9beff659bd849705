use Rattle.std.proofs.Common.{◌≡◌, ◌-◌, ◌<◌, length, Some, None, sym, subst, ◌∙◌, arith, rules, refl}
use Rattle.json.specs.Json.{read_key, value}
use Rattle.serde_json.specs.Data.{no_members, put}
use Rattle.json_form.specs.meaning.Objects.{named}
use Rattle.json_form.proofs.Offered.{member_turn, members_over, read_key-shorter, named_put, known_put}
use Rattle.document_forms.specs.RequestsAhead.{request_members, IsRequestRead}
use Rattle.document_forms.proofs.script_ahead.members_ahead.Goals as goal

pub members-init : goal.members-init
members-init c = record {
  turns = length c.args.tokens.now;
  enough = omega arith;
  passed = no_members;
  so_far = refl;
  all_known = refl;
  is_read = c.new-ahead.ensures;
  shorter = omega arith;
}

pub members-preserved : goal.members-preserved
members-preserved c =
    let l = c.members in
    let n = l.invariant.turns in
    let old = l.invariant.passed in
    let k = c.in-Some.name.now in
    let s = c.next_key.new.self in
    let key : read_key l.tokens ≡ Some (Some k, s) = search rules in
    let done = c.in_ok-take.ensures in
    let d = done.read.0 in
    let r = c.take.new.tokens in
    let less = read_key-shorter l.tokens (Some k) s key in
    let lesser = done.shorter in
    record {
      turns = n - 1;
      enough = omega (arith, l.invariant.enough);
      passed = put k d old;
      so_far = l.invariant.so_far ∙ member_turn (value c.args.depth) old n k l.tokens s r d (omega (arith, l.invariant.enough)) key done.read.1;
      all_known = known_put request_members k d old done.known l.invariant.all_known;
      is_read = subst (IsRequestRead c.take.new.self) (sym (named_put k d old)) (done.read.2 (named old) l.invariant.is_read);
      shorter = omega (arith, l.invariant.shorter);
    }

pub members-smaller : goal.members-smaller
members-smaller c =
    let key : read_key c.members.tokens ≡ Some (Some c.in-Some.name.now, c.next_key.new.self) = search rules in
    let less = read_key-shorter c.members.tokens (Some c.in-Some.name.now) c.next_key.new.self key in
    let lesser : length c.take.new.tokens < length c.next_key.new.self = c.in_ok-take.ensures.shorter in
    omega (arith, less, lesser)

pub returns-clause-read : goal.returns-clause-read
returns-clause-read c =
    let l = c.members in
    let over = members_over (value c.args.depth) l.invariant.passed l.invariant.turns l.tokens c.next_key.new.self l.invariant.enough (grind arith) in
    (l.invariant.passed, l.invariant.so_far ∙ over, l.invariant.all_known, l.invariant.is_read)

pub returns-clause-shorter : goal.returns-clause-shorter
returns-clause-shorter c =
    let l = c.members in
    let over : read_key l.tokens ≡ Some (None, c.next_key.new.self) = grind arith in
    let less = read_key-shorter l.tokens None c.next_key.new.self over in
    omega (arith, less, l.invariant.shorter)
