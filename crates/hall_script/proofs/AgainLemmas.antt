-- Calls that are spelled so are read.
use Rattle.std.proofs.Common.{◌≡◌, ℕ, ◌%◌, ◌^◌, ◌<◌, ◌≤◌, Bool, true, false, not, cond, ◌&&◌, eqb}
use Rattle.std.proofs.Common.{length, List, [], ◌∷◌, ◌++◌, Option, Some, None, unwrap_or, Ok, ℤ}
use Rattle.std.proofs.Common.{pos, negsuc, map, refl, sym, ap, arith}
use Rattle.std.specs.List.{list_all}
use Rattle.std.specs.Fmt.{decimal, signed_decimal}
use Rattle.std.proofs.lemmas.Bool.{and_parts}
use Rattle.std.proofs.lemmas.Bool.Decides.{nat_tests}
use Rattle.wall_labels.specs.declared.label.Label.{Label}
use Rattle.wall_labels.specs.declared.label.Label.TheVariants as labels
use Rattle.wall_policy.specs.Policy.{ChineseWall, IsPolicy}
use Rattle.mpi_elems.specs.declared.elem_type.ElemType.{ElemType}
use Rattle.mpi_elems.specs.declared.elem_type.ElemType.TheVariants.{Int8, Int16, Int32, Int64}
use Rattle.mpi_elems.specs.declared.elem_type.ElemType.TheVariants.{Uint8, Uint16, Uint32, Uint64}
use Rattle.mpi_elems.specs.declared.elem_type.ElemType.TheVariants.{TwoInt}
use Rattle.mpi_elems.specs.declared.fault.BufferFault.{BufferFault}
use Rattle.mpi_elems.specs.declared.fault.BufferFault.TheVariants as faults
use Rattle.mpi_elems.specs.Types.{is_pair}
use Rattle.mpi_elems.specs.Numbers.{is_number_of}
use Rattle.mpi_elems.specs.Elements.{elements_of, pairs_of}
use Rattle.mpi_elems.specs.Contents.{Contents, contents}
use Rattle.mpi_elems.specs.Faults.{fault_of}
use Rattle.coll_routes.specs.Signatures.{elem_type}
use Rattle.coll_text.specs.Numbers.{Word, IsBetween}
use Rattle.coll_text.specs.Spellings.{statement_words}
use Rattle.coll_text.specs.Reading.{each_of, number_at}
use Rattle.coll_text.proofs.CollTextLemmas.{decimal_is_number, signed_is_read, positive}
use Rattle.coll_text.proofs.CollTextLemmas.{statement_again, decimal_some, label_some, label_again}
use Rattle.run_model.specs.declared.call.Posting.{Posting}
use Rattle.run_model.specs.declared.call.Act.{Act}
use Rattle.run_model.specs.declared.call.Act.TheVariants.{Post, Take, Info}
use Rattle.run_model.specs.Known.{IsKnownLabel}
use Rattle.hall_script.specs.Lines.{value_of, buffer_of, values_of, labelled, given_of, post_of}
use Rattle.hall_script.specs.Lines.{last_number, act_of, verb_of, call_of}
use Rattle.coll_text.specs.Words.{label_word}
use Rattle.hall_script.specs.Spellings.{given_words, act_words, IsSayable, IsSayableAct}

-- ---- numbers

pub between : (ty : ElemType) (z : ℤ) → is_number_of ty z ≡ true →
    IsBetween 18446744073709551615 18446744073709551615 z
unfolding is_number_of
between Int8 (pos n) e = grind (arith, nat_tests)
between Int8 (negsuc n) e = grind (arith, nat_tests)
between Int16 (pos n) e = grind (arith, nat_tests)
between Int16 (negsuc n) e = grind (arith, nat_tests)
between Int32 (pos n) e = grind (arith, nat_tests)
between Int32 (negsuc n) e = grind (arith, nat_tests)
between Int64 (pos n) e = grind (arith, nat_tests)
between Int64 (negsuc n) e = grind (arith, nat_tests)
between Uint8 (pos n) e = grind (arith, nat_tests)
between Uint8 (negsuc n) e = absurd cc
between Uint16 (pos n) e = grind (arith, nat_tests)
between Uint16 (negsuc n) e = absurd cc
between Uint32 (pos n) e = grind (arith, nat_tests)
between Uint32 (negsuc n) e = absurd cc
between Uint64 (pos n) e = grind (arith, nat_tests)
between Uint64 (negsuc n) e = absurd cc
between TwoInt (pos n) e = grind (arith, nat_tests)
between TwoInt (negsuc n) e = grind (arith, nat_tests)

signed_some : (z : ℤ) → IsBetween 18446744073709551615 18446744073709551615 z →
    eqb (length (signed_decimal z)) 0 ≡ false
signed_some (pos n) h = decimal_some n (omega (arith, h))
signed_some (negsuc n) h = positive (signed_decimal (negsuc n)) (omega arith)

value_again : (ty : ElemType) (z : ℤ) → is_number_of ty z ≡ true →
    value_of ty (signed_decimal z) ≡ Ok z
value_again ty z h =
    let b = between ty z h in
    rw (
      signed_some z b,
      signed_is_read 18446744073709551615 18446744073709551615 z (omega arith) (omega arith)
          b,
      h,
    ) refl

each_again : (ty : ElemType) (zs : List ℤ) → list_all (is_number_of ty) zs ≡ true →
    each_of (value_of ty) (map signed_decimal zs) ≡ Ok zs
unfolding each_of
each_again ty [] h = refl
each_again ty (z ∷ zs) h =
    let p = and_parts (is_number_of ty z) (list_all (is_number_of ty) zs) h in
    rw (value_again ty z p.0, each_again ty zs p.1) refl

pub parts_of : (p q : Bool) (x y : BufferFault) →
    cond (not p) (Some x) (cond q (Some y) None) ≡ None → (p ≡ true) × (q ≡ false)
parts_of false q x y e = absurd cc
parts_of true true x y e = absurd cc
parts_of true false x y e = (refl, refl)

pub values_again : (ty : ElemType) (ns : List ℤ) → fault_of ty ns ≡ None →
    values_of ty (map signed_decimal ns) ≡ Ok (contents ty ns (length (elements_of ty ns)))
unfolding values_of buffer_of
values_again ty ns h =
    let p = parts_of (list_all (is_number_of ty) ns) (is_pair ty && not (eqb (length ns % 2) 0))
    faults.BadNumber faults.OddPair h in
    rw (each_again ty ns p.0, p.1) refl

pub number_again : (most n : ℕ) (ws : List Word) → n ≤ most → most < 2 ^ 64 →
    number_at most (decimal n ∷ ws) ≡ Ok (n, ws)
number_again most n ws le small =
    rw (decimal_some n (omega (arith, le)), decimal_is_number most n le small) refl

-- ---- labels

pub labelled_again : (wall : ChineseWall) (ty : ElemType) (label : Label) (ns : List ℤ) →
    IsPolicy wall → IsKnownLabel wall label → fault_of ty ns ≡ None
    →
    labelled wall.dataset_names ty (label_word wall.dataset_names label ∷ map signed_decimal ns)
    ≡ Ok (label, contents ty ns (length (elements_of ty ns)))
unfolding labelled
labelled_again wall ty label ns good known sound =
    rw (
      label_some wall label good known,
      label_again wall label good known,
      values_again ty ns sound,
    ) refl

-- ---- calls

no_elements : (ty : ElemType) → length (elements_of ty []) ≡ 0
unfolding elements_of pairs_of
no_elements Int8 = refl
no_elements Int16 = refl
no_elements Int32 = refl
no_elements Int64 = refl
no_elements Uint8 = refl
no_elements Uint16 = refl
no_elements Uint32 = refl
no_elements Uint64 = refl
no_elements TwoInt = refl

given_again : (wall : ChineseWall) (ty : Option ElemType) (label : Label) (ns : List ℤ) →
    IsPolicy wall → IsKnownLabel wall label → fault_of (unwrap_or ty Int8) ns ≡ None →
    (ty ≡ None → given_words wall.dataset_names label ns ≡ [])
    →
    given_of wall.dataset_names ty (given_words wall.dataset_names label ns)
    ≡ Ok
    (label, contents (unwrap_or ty Int8) ns (length (elements_of (unwrap_or ty Int8) ns)))
unfolding given_of
given_again wall ty labels.Public [] good known sound nothing =
    ap (λ (m : ℕ). Ok (labels.Public, contents (unwrap_or ty Int8) [] m))
    (sym (no_elements (unwrap_or ty Int8)))
given_again wall None labels.Public (n ∷ ns) good known sound nothing =
    absurd (let e = nothing refl in cc)
given_again wall None (labels.Of d) ns good known sound nothing =
    absurd (let e = nothing refl in cc)
given_again wall (Some ty) labels.Public (n ∷ ns) good known sound nothing =
    labelled_again wall ty labels.Public (n ∷ ns) good known sound
given_again wall (Some ty) (labels.Of d) ns good known sound nothing =
    labelled_again wall ty (labels.Of d) ns good known sound

post_again : (wall : ChineseWall) (posting : Posting) → IsPolicy wall → IsSayable wall posting
    →
    post_of wall.dataset_names (decimal posting.comm
    ∷ (statement_words posting.sig posting.own
    ++ given_words wall.dataset_names posting.label posting.elements.numbers))
    ≡ Ok (Post posting)
unfolding post_of
post_again wall posting good h =
    let given = given_words wall.dataset_names posting.label posting.elements.numbers in
    rw (
      number_again 4294967295 posting.comm (statement_words posting.sig posting.own ++ given) h.comm
          (omega arith),
      statement_again posting.sig posting.own given h.statement,
      given_again wall (elem_type posting.sig) posting.label posting.elements.numbers good h.label
          h.numbers h.nothing,
    )
    (ap (λ (c : Contents). Ok (Post (record {
      comm = posting.comm;
      sig = posting.sig;
      own = posting.own;
      label = posting.label;
      elements = c;
    })))
    (sym h.elements))

last_again : (most n : ℕ) → n ≤ most → most < 2 ^ 64 → last_number most (decimal n ∷ []) ≡ Ok n
unfolding last_number
last_again most n le small = rw (number_again most n [] le small) refl

pub act_again : (wall : ChineseWall) (p : ℕ) (act : Act) → IsPolicy wall → p ≤ 4294967295 →
    IsSayableAct wall act →
    call_of wall.dataset_names (act_words wall.dataset_names p act)
    ≡ Ok (record { process = p; act = act })
unfolding call_of verb_of act_of
act_again wall p (Post posting) good low h =
    let rest = decimal posting.comm ∷ (statement_words posting.sig posting.own
    ++ given_words wall.dataset_names posting.label posting.elements.numbers) in
    rw (number_again 4294967295 p rest low (omega arith), post_again wall posting good h) refl
act_again wall p (Take request) good low h = rw (
  number_again 4294967295 p (decimal request ∷ [])
      low (omega arith),
  last_again 18446744073709551615 request h (omega arith),
) refl
act_again wall p (Info comm) good low h = rw (
  number_again 4294967295 p (decimal comm ∷ []) low
      (omega arith),
  last_again 4294967295 comm h (omega arith),
) refl
