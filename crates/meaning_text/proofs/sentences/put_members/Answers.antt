use Rattle.std.proofs.Common.{◌≡◌, ◌≤◌, ◌++◌, length, subst, arith, rules, cond, codes, nat_eq, true}
use Rattle.std.proofs.Common.{false, slice_get, Some, OnOk, Result, Ok, Err}
use Rattle.std.proofs.lemmas.Grind.{common_steps}
use Rattle.meaning_text.specs.Sentences.{members_text}
use Rattle.meaning_text.proofs.MemberLemmas.{left, due}
use Rattle.meaning_text.proofs.MemberLemmas.{all_due, step_here, step_later, ends_with}
use Rattle.meaning_text.proofs.MemberLemmas.{ends_without}
use Rattle.meaning_text.proofs.sentences.put_members.Goals as goal
use Rattle.meaning_text.proofs.sentences.put_members.Goals.{then-number+in_ok-put_next, else-number}

pub loop-number-init : goal.loop-number-init
loop-number-init c = all_due c.args.policy.now c.args.class c.args.text.now.items

pub loop-number-preserved : goal.loop-number-preserved
loop-number-preserved c =
    let wall = c.args.policy.now in
    let n : c.unwrap-dataset.result ≡ c.loop-number.number = grind (arith, common_steps) in
    let at : slice_get wall.classes c.loop-number.number ≡ Some c.class_of.result =
    subst (λ d. slice_get wall.classes d ≡ Some c.class_of.result) n c.class_of.ensures.class in
    elim c.if-number.branch [
      | then-number+in_ok-put_next w ↦
          let same : nat_eq c.class_of.result c.args.class ≡ true = grind (arith, common_steps) in
          let named : slice_get wall.dataset_names c.loop-number.number
          ≡ Some w.dataset_name.result.now =
          subst (λ d. slice_get wall.dataset_names d ≡ Some w.dataset_name.result.now) n
          w.dataset_name.ensures.name in
          rw (w.text-is, w.is_first-is)
          (step_here wall c.args.class c.loop-number.number c.class_of.result
          c.loop-number.is_first c.loop-number.text.items w.put_next.new.text.items
          w.dataset_name.result.now _ at same named (w.in_ok-put_next.ensures)
          c.loop-number.invariant)
      | else-number w ↦
          let other : nat_eq c.class_of.result c.args.class ≡ false = grind (arith, common_steps) in
          rw (w.text-is, w.is_first-is)
          (step_later wall c.args.class c.loop-number.number c.class_of.result
          c.loop-number.is_first c.loop-number.text.items _ at other c.loop-number.invariant)
    ]

ok_so : {T E A B : Type 0} (r : Result T E) → (A → B) → OnOk r A → OnOk r B
ok_so (Ok value) f h = f h
ok_so (Err error) f h = tt

pub returns-then-is_first : goal.returns-then-is_first
returns-then-is_first c =
    let wall = c.args.policy.now in
    let end = c.datasets-number-end.ensures in
    let each = end.policy.class_for_each in
    let past : length wall.classes ≤ c.loop-number.number =
    omega (arith, each, end.number, c.loop-number-test.false) in
    let was : c.loop-number.text.items ++ due true (left wall c.args.class c.loop-number.number)
    ≡ c.args.text.now.items ++ members_text wall c.args.class =
    subst (λ b. c.loop-number.text.items ++ due b (left wall c.args.class c.loop-number.number)
    ≡ c.args.text.now.items ++ members_text wall c.args.class) c.if-is_first.true
    c.loop-number.invariant in
    ok_so c.put.result (λ next. ends_without wall c.args.class c.loop-number.number
    c.loop-number.text.items c.put.new.text.items _ past next was) c.put.ensures.ok

pub returns : goal.returns
returns c =
    let wall = c.args.policy.now in
    let end = c.datasets-number-end.ensures in
    let each = end.policy.class_for_each in
    let past : length wall.classes ≤ c.loop-number.number =
    omega (arith, each, end.number, c.loop-number-test.false) in
    let was : c.loop-number.text.items ++ due false (left wall c.args.class c.loop-number.number)
    ≡ c.args.text.now.items ++ members_text wall c.args.class =
    subst (λ b. c.loop-number.text.items ++ due b (left wall c.args.class c.loop-number.number)
    ≡ c.args.text.now.items ++ members_text wall c.args.class) c.if-is_first.false
    c.loop-number.invariant in
    ends_with wall c.args.class c.loop-number.number c.loop-number.text.items _ past was
