use Rattle.std.proofs.Common.{◌≡◌, ℕ, suc, zero, ◌+◌, ◌-◌, ◌<◌, ◌≤◌, eqb, false, List, ◌++◌, length}
use Rattle.std.proofs.Common.{Result, Ok, Err, refl, sym, ap, subst, ◌∙◌, arith}
use Rattle.std.proofs.lemmas.Bool.{eqb-true}
use Rattle.std.proofs.lemmas.List.{nil_from_length}
use Rattle.wall_policy.specs.Policy.{ChineseWall, IsPolicy}
use Rattle.run_model.specs.declared.entry.Entry.{Entry}
use Rattle.coll_text.specs.Reading.{parts}
use Rattle.audit_book.specs.declared.fault.ReadFault.{ReadFault}
use Rattle.audit_book.specs.declared.fault.ReadFault.TheVariants.{BadLine, Cut, NoMemory}
use Rattle.audit_book.specs.Reading.{IsSaid, book_in}
use Rattle.audit_book.specs.Text.{line_of, end_words}
use Rattle.audit_book.proofs.AuditBookLemmas.{done, same_done}
use Rattle.book_seal.specs.Seals.{finished, finished_entries}
use Rattle.book_seal.proofs.BegunLemmas.{none_told, two_parts, read_with_end}
use Rattle.book_seal.proofs.begun.read_cut.Goals as goal

some_of : (n : ℕ) → eqb n 0 ≡ false → 0 < n
some_of zero e = absurd cc
some_of (suc n) e = omega arith

module _ (wall : ChineseWall) (text prefix : List ℕ) (cut : book_in wall (finished text) ≡ Err Cut)
    (is : prefix ≡ finished text) (some : eqb (length prefix) 0 ≡ false) where
  some_finished : 0 < length (finished text)
  some_finished = subst (λ (t : List ℕ). 0 < length t) is (some_of (length prefix) some)

  two : 2 ≤ length (parts 10 prefix)
  two = subst (λ (t : List ℕ). 2 ≤ length (parts 10 t)) (sym is)
      (two_parts wall text cut some_finished)

  read_is : IsPolicy wall → (whole : List ℕ) (count : ℕ) → count ≡ length (parts 10 prefix) →
      count < 18446744073709551616 → whole ≡ prefix ++ line_of (end_words (count - 2)) →
      book_in wall whole ≡ Ok (finished_entries wall text)
  read_is policy whole count same small joined =
      let low = two in
      let all : count - 2 + 2 ≡ length (parts 10 prefix) = omega (arith, same, low) in
      let few : count - 2 ≤ 18446744073709551615 = omega (arith, small) in
      ap (book_in wall) (joined
      ∙ ap (λ (t : List ℕ). t ++ line_of (end_words (count - 2))) is)
      ∙ read_with_end wall text cut some_finished policy (count - 2) few
      (all ∙ ap (λ (t : List ℕ). length (parts 10 t)) is)

-- what is read has no fault but want of memory
no_fault : (said : Result (List Entry) ReadFault) (es : List Entry) (f : ReadFault) → said ≡ Ok es →
    IsSaid (λ (xs : List Entry). xs) (Err f) said → (f ≡ NoMemory → ⊥) → ⊥
no_fault said es Cut good bad other = let both : done es ≡ Err Cut = sym good ∙ bad in cc
no_fault said es (BadLine n) good bad other =
    let both : done es ≡ Err (BadLine n) = sym good ∙ bad in cc
no_fault said es NoMemory good bad other = other refl

cut_is_other : (f : ReadFault) → f ≡ Cut → f ≡ NoMemory → ⊥
cut_is_other f is e = let both : Cut ≡ NoMemory = sym is ∙ e in cc

bad_is_other : (f : ReadFault) (n : ℕ) → f ≡ BadLine n → f ≡ NoMemory → ⊥
bad_is_other f n is e = let both : BadLine n ≡ NoMemory = sym is ∙ e in cc

pub returns-then-is_empty-clause-told : goal.returns-then-is_empty-clause-told
returns-then-is_empty-clause-told c =
    let none = eqb-true (length c.finished-prefix.result.now) 0
    (sym c.is_empty.ensures ∙ c.if-is_empty.true) in
    none_told c.args.policy.now c.args.text.now
    (sym c.finished-prefix.ensures ∙ nil_from_length c.finished-prefix.result.now none)
    ∙ sym c.new.ensures

pub overflow_sub-entries : goal.overflow_sub-entries
overflow_sub-entries c =
    let low = two c.args.policy.now c.args.text.now c.finished-prefix.result.now c.requires
    c.finished-prefix.ensures (sym c.is_empty.ensures ∙ c.if-is_empty.false) in
    let count = c.count-entries.ensures ∙ ap length c.new-2.ensures in
    omega (arith, low, count)

pub returns-in-Ok-clause-told : goal.returns-in-Ok-clause-told
returns-in-Ok-clause-told c =
    same_done (finished_entries c.args.policy.now c.args.text.now) c.in-Ok.book.list
    (sym (read_is c.args.policy.now c.args.text.now c.finished-prefix.result.now c.requires
    c.finished-prefix.ensures (sym c.is_empty.ensures ∙ c.if-is_empty.false)
    c.processes.ensures.policy c.deref.result.now c.count-entries.result
    (c.count-entries.ensures ∙ ap length c.new-2.ensures) c.count-entries.type_inv
    (c.deref.ensures.value ∙ c.in_ok-whole.ensures)) ∙ c.in-Ok.ensures.answer)

pub unreachable-requires : goal.unreachable-requires
unreachable-requires c =
    no_fault _ (finished_entries c.args.policy.now c.args.text.now) c.in-Err-Cut.field-0
    (read_is c.args.policy.now c.args.text.now c.finished-prefix.result.now c.requires
    c.finished-prefix.ensures (sym c.is_empty.ensures ∙ c.if-is_empty.false)
    c.processes.ensures.policy c.deref.result.now c.count-entries.result
    (c.count-entries.ensures ∙ ap length c.new-2.ensures) c.count-entries.type_inv
    (c.deref.ensures.value ∙ c.in_ok-whole.ensures)) c.in-Err-Cut.ensures.answer
    (cut_is_other c.in-Err-Cut.field-0 c.in-Err-Cut.field-0-is)

pub unreachable-requires-in-Err-BadLine : goal.unreachable-requires-in-Err-BadLine
unreachable-requires-in-Err-BadLine c =
    no_fault _ (finished_entries c.args.policy.now c.args.text.now) c.in-Err-BadLine.field-0
    (read_is c.args.policy.now c.args.text.now c.finished-prefix.result.now c.requires
    c.finished-prefix.ensures (sym c.is_empty.ensures ∙ c.if-is_empty.false)
    c.processes.ensures.policy c.deref.result.now c.count-entries.result
    (c.count-entries.ensures ∙ ap length c.new-2.ensures) c.count-entries.type_inv
    (c.deref.ensures.value ∙ c.in_ok-whole.ensures)) c.in-Err-BadLine.ensures.answer
    (bad_is_other c.in-Err-BadLine.field-0 c.in-Err-BadLine.field-0-0 c.in-Err-BadLine.field-0-is)
