-- The worked entries and books of `laws` that are spelled, by computation.
use Rattle.std.proofs.Common.{◌≡◌, ℕ, ◌<◌, ◌≤◌, pos, negsuc, [], ◌∷◌, length, Bool, true, false}
use Rattle.std.proofs.Common.{Some, replicate, refl, arith}
use Rattle.std.specs.List.{AllByRecursion}
use Rattle.wall_labels.specs.declared.op.Op.TheVariants.{Maxloc}
use Rattle.wall_labels.specs.declared.label.Label.{Label}
use Rattle.wall_labels.specs.declared.label.Label.TheVariants.{Public, Of}
use Rattle.wall_policy.specs.Policy.{ChineseWall}
use Rattle.mpi_elems.specs.declared.elem_type.ElemType.TheVariants.{Int32, Uint64, TwoInt}
use Rattle.coll_routes.specs.declared.signature.Signature.{Signature}
use Rattle.coll_routes.specs.declared.signature.Signature.TheVariants.{Barrier, Bcast, Scatterv}
use Rattle.coll_routes.specs.declared.signature.Signature.TheVariants.{Reduce, Split, CartCreate}
use Rattle.coll_routes.specs.declared.signature.Signature.TheVariants.{CartSub}
use Rattle.coll_routes.specs.declared.statement.Own.{Own}
use Rattle.coll_routes.specs.declared.statement.Own.TheVariants.{Plain, Counts}
use Rattle.coll_routes.specs.declared.statement.Own.TheVariants.{Split as SplitBy}
use Rattle.coll_routes.specs.Signatures.{kind, root, count, numbers}
use Rattle.wall_rules.specs.declared.rule.Rule.TheVariants.{Star, Simple}
use Rattle.coll_text.specs.Spellings.{IsSpellable}
use Rattle.coll_text.proofs.SpellableRowProofs as statements
use Rattle.run_model.specs.declared.outcome.Outcome.{Outcome}
use Rattle.run_model.specs.declared.outcome.Outcome.TheVariants.{Granted, Denied, Made, NoRoom}
use Rattle.run_model.specs.declared.entry.Entry.TheVariants.{Settled}
use Rattle.run_model.specs.Books.{is_labelled_as}
use Rattle.run_model.specs.Known.{IsKnownLabel, IsKnownOutcome}
use Rattle.run_model.specs.BookRows.{banks_and_oil, four_of_a_bank, gave, without_elements}
use Rattle.run_model.specs.BookRows.{denied_broadcast, rows_of_a_grid}
use Rattle.audit_book.specs.Laws.{HasNumbers, IsSpelled}

giving : (wall : ChineseWall) (p c : ℕ) (sig : Signature) (given : ℕ) (label : Label)
    (barred : Bool) → p < length wall.process_names → c ≤ 4294967295 → IsSpellable sig Plain →
    given ≤ 4294967295 → IsKnownLabel wall label → is_labelled_as given (Some label) ≡ true →
    IsSpelled wall (gave p c sig given label barred)
giving wall p c sig given label barred low_p low_c statement low_given known labelled = record {
  process = low_p;
  comm = low_c;
  statement = statement;
  given = low_given;
  label = known;
  labelled = labelled;
}

giving_nothing : (wall : ChineseWall) (p c : ℕ) (sig : Signature) (own : Own) →
    p < length wall.process_names → c ≤ 4294967295 → IsSpellable sig own →
    IsSpelled wall (without_elements p c sig own)
giving_nothing wall p c sig own low_p low_c statement = record {
  process = low_p;
  comm = low_c;
  statement = statement;
  given = omega arith;
  label = tt;
  labelled = refl;
}

settling : (wall : ChineseWall) (c k : ℕ) (o : Outcome) → c ≤ 4294967295 →
    k ≤ 18446744073709551615 → IsKnownOutcome wall o → HasNumbers o →
    IsSpelled wall (Settled c k o)
settling wall c k o low_c low_k known low_numbers =
    record { comm = low_c; instance = low_k; known = known; numbers = low_numbers }

pub posts : AllByRecursion (IsSpelled banks_and_oil)
    (gave 3 4294967295 (Reduce 4294967295 Maxloc TwoInt 4294967295) 4294967295 (Of 3) true
    ∷ without_elements 3 4294967295 (Scatterv 4294967295 Uint64) (Counts (replicate 256 4294967295))
    ∷ without_elements 0 0 Split (SplitBy (Some (negsuc 2147483647)) (pos 2147483647))
    ∷ [])
posts = (
  giving banks_and_oil 3 4294967295 (Reduce 4294967295 Maxloc TwoInt 4294967295) 4294967295 (Of 3)
      true (omega arith) (omega arith) statements.reduce (omega arith) (omega arith) refl,
  (
    giving_nothing banks_and_oil 3 4294967295 (Scatterv 4294967295 Uint64)
        (Counts (replicate 256 4294967295)) (omega arith) (omega arith) statements.counts,
    (
      giving_nothing banks_and_oil 0 0 Split (SplitBy (Some (negsuc 2147483647)) (pos 2147483647))
          (omega arith) (omega arith) statements.lowest,
      tt,
    ),
  ),
)

pub verdicts : AllByRecursion (IsSpelled banks_and_oil)
    (Settled 4294967295 18446744073709551615 Granted
    ∷ Settled 4294967295 18446744073709551615 (Denied Simple 3 (Of 3))
    ∷ Settled 0 0 (Denied Star 0 Public)
    ∷ Settled 4294967295 18446744073709551615 (Made 4294967295 4294967295)
    ∷ Settled 4294967295 0 NoRoom
    ∷ [])
verdicts = (
  settling banks_and_oil 4294967295 18446744073709551615 Granted (omega arith) (omega arith) tt tt,
  (
    settling banks_and_oil 4294967295 18446744073709551615 (Denied Simple 3 (Of 3))
        (omega arith) (omega arith) (omega arith, omega arith) tt,
    (
      settling banks_and_oil 0 0 (Denied Star 0 Public)
          (omega arith) (omega arith) (omega arith, tt) tt,
      (
        settling banks_and_oil 4294967295 18446744073709551615 (Made 4294967295 4294967295)
            (omega arith) (omega arith) tt (omega arith, omega arith),
        (settling banks_and_oil 4294967295 0 NoRoom (omega arith) (omega arith) tt tt, tt),
      ),
    ),
  ),
)

-- ## worked books

broadcast : IsSpellable (Bcast 0 Int32 2) Plain
unfolding kind root count numbers
broadcast = record {
  numbers = record {
    root = omega arith;
    count = omega arith;
    counts = tt;
    list = tt;
    colour = tt;
    key = omega arith;
  };
  form = refl;
}

joined : (p : ℕ) → p < 4 → IsSpelled banks_and_oil (without_elements p 0 (Bcast 0 Int32 2) Plain)
joined p low =
    giving_nothing banks_and_oil p 0 (Bcast 0 Int32 2) Plain low (omega arith) broadcast

pub denied : AllByRecursion (IsSpelled banks_and_oil) denied_broadcast
denied = (
  giving banks_and_oil 0 0 (Bcast 0 Int32 2) 2 (Of 0) false (omega arith) (omega arith) broadcast
      (omega arith) (omega arith) refl,
  (
    joined 1 (omega arith),
    (
      joined 2 (omega arith),
      (
        joined 3 (omega arith),
        (
          settling banks_and_oil 0 0 (Denied Simple 1 (Of 0))
              (omega arith) (omega arith) (omega arith, omega arith) tt,
          tt,
        ),
      ),
    ),
  ),
)

gridded : IsSpellable (CartCreate (2 ∷ 2 ∷ []) (true ∷ false ∷ [])) Plain
gridded = statements.any_grid (2 ∷ 2 ∷ []) (true ∷ false ∷ []) (omega arith, (omega arith, tt))

cut : IsSpellable (CartSub (false ∷ true ∷ [])) Plain
cut = statements.any_parts (false ∷ true ∷ [])

came : (p c : ℕ) (sig : Signature) → p < 4 → c ≤ 4294967295 → IsSpellable sig Plain →
    IsSpelled four_of_a_bank (without_elements p c sig Plain)
came p c sig low_p low_c statement =
    giving_nothing four_of_a_bank p c sig Plain low_p low_c statement

ended : (c k : ℕ) (o : Outcome) → c ≤ 4294967295 → k ≤ 18446744073709551615 →
    IsKnownOutcome four_of_a_bank o → HasNumbers o → IsSpelled four_of_a_bank (Settled c k o)
ended c k o low_c low_k known low_numbers =
    settling four_of_a_bank c k o low_c low_k known low_numbers

pub grid : AllByRecursion (IsSpelled four_of_a_bank) rows_of_a_grid
grid = (
  came 0 0 (CartCreate (2 ∷ 2 ∷ []) (true ∷ false ∷ [])) (omega arith) (omega arith) gridded,
  (
    came 1 0 (CartCreate (2 ∷ 2 ∷ []) (true ∷ false ∷ [])) (omega arith) (omega arith) gridded,
    (
      came 2 0 (CartCreate (2 ∷ 2 ∷ []) (true ∷ false ∷ [])) (omega arith) (omega arith) gridded,
      (
        came 3 0 (CartCreate (2 ∷ 2 ∷ []) (true ∷ false ∷ [])) (omega arith) (omega arith) gridded,
        (
          ended 0 0 (Made 1 1) (omega arith) (omega arith) tt (omega arith, omega arith),
          (
            came 0 1 (CartSub (false ∷ true ∷ [])) (omega arith) (omega arith) cut,
            (
              came 1 1 (CartSub (false ∷ true ∷ [])) (omega arith) (omega arith) cut,
              (
                came 2 1 (CartSub (false ∷ true ∷ [])) (omega arith) (omega arith) cut,
                (
                  came 3 1 (CartSub (false ∷ true ∷ [])) (omega arith) (omega arith) cut,
                  (
                    ended 1 0 (Made 2 2) (omega arith) (omega arith) tt (omega arith, omega arith),
                    (
                      came 3 3 Barrier (omega arith) (omega arith) statements.barrier,
                      (
                        came 2 3 Barrier (omega arith) (omega arith) statements.barrier,
                        (
                          ended 3 0 Granted (omega arith) (omega arith) tt tt,
                          tt,
                        ),
                      ),
                    ),
                  ),
                ),
              ),
            ),
          ),
        ),
      ),
    ),
  ),
)
