-- Worked pairs of lists of calls that differ in numbers alone, by computation.
use Rattle.std.proofs.Common.{◌≡◌, ℕ, ℤ, List, [], ◌∷◌, ◌++◌, length, take, drop, refl, sym, ap}
use Rattle.std.proofs.Common.{◌∙◌, Bool, true, false, not}
use Rattle.std.specs.List.{AllZip, list_all}
use Rattle.std.proofs.lemmas.Bool.{false≢true, and_parts}
use Rattle.wall_labels.specs.declared.op.Op.TheVariants.{Sum}
use Rattle.wall_labels.specs.declared.label.Label.{Label}
use Rattle.wall_labels.specs.declared.label.Label.TheVariants.{Public}
use Rattle.mpi_elems.specs.declared.elem_type.ElemType.{ElemType}
use Rattle.mpi_elems.specs.declared.elem_type.ElemType.TheVariants as types
use Rattle.mpi_elems.specs.declared.elem_type.ElemType.TheVariants.{Int32}
use Rattle.mpi_elems.specs.Elements.{elements_of, pairs_of}
use Rattle.coll_routes.specs.declared.signature.Signature.{Signature}
use Rattle.coll_routes.specs.declared.signature.Signature.TheVariants.{Bcast, Allreduce}
use Rattle.coll_routes.specs.declared.statement.Own.{Own}
use Rattle.coll_routes.specs.declared.statement.Own.TheVariants.{Plain}
use Rattle.coll_routes.specs.Faults.{stated_type}
use Rattle.run_model.specs.declared.refusal.Refusal.TheVariants.{NoMemory}
use Rattle.run_model.specs.declared.call.Call.{Call}
use Rattle.run_model.specs.declared.reply.Reply.{Reply}
use Rattle.run_model.specs.declared.reply.Reply.TheVariants.{Posted, Barred, Refused}
use Rattle.run_model.specs.Runs.{Entry, run_of}
use Rattle.run_model.specs.RunRows.{alpha, gave, summed, relayed}
use Rattle.run_model.specs.Worlds.{SameCallButForValues, NobodyLacksMemory}
use Rattle.run_model.specs.WorldRows.{replies_in}
use Rattle.run_model.proofs.RunModelLemmas.{same_self}
use Rattle.hall_core.specs.Worlds.{called, DifferAsListed}

is_want : Reply → Bool
is_want (Refused NoMemory) = true
is_want other = false

wanted : (a : Reply) → a ≡ Refused NoMemory → is_want a ≡ true
unfolding is_want
wanted a e = ap is_want e

none_wanted : (run : List Entry) → list_all (λ e. not (is_want e.reply)) run ≡ true →
    NobodyLacksMemory run
none_wanted [] h = tt
none_wanted (e ∷ run) h =
    let parts = and_parts (not (is_want e.reply)) (list_all (λ f. not (is_want f.reply)) run) h in
    (none_wanted run parts.1, λ is. false≢true (ap not (sym (wanted e.reply is)) ∙ parts.0))

-- the same calls in both
same_calls : (calls : List Call) → AllZip SameCallButForValues calls calls
same_calls [] = tt
same_calls (call ∷ calls) = (same_self call, same_calls calls)

-- and others behind them
in_front : (calls first second : List Call) → AllZip SameCallButForValues first second →
    AllZip SameCallButForValues (calls ++ first) (calls ++ second)
in_front [] first second rest = rest
in_front (call ∷ calls) first second rest = (same_self call, in_front calls first second rest)

one_number : (ty : ElemType) (a b : ℤ) →
    length (elements_of ty (a ∷ [])) ≡ length (elements_of ty (b ∷ []))
unfolding elements_of pairs_of
one_number types.Int8 a b = refl
one_number types.Int16 a b = refl
one_number types.Int32 a b = refl
one_number types.Int64 a b = refl
one_number types.Uint8 a b = refl
one_number types.Uint16 a b = refl
one_number types.Uint32 a b = refl
one_number types.Uint64 a b = refl
one_number types.TwoInt a b = refl

-- p posts another number
another : (p c : ℕ) (sig : Signature) (own : Own) (label : Label) (a b : ℤ) (reply : Reply) →
    SameCallButForValues (gave p c sig own label (a ∷ []) reply).call
    (gave p c sig own label (b ∷ []) reply).call
another p c sig own label a b reply = record {
  process = refl;
  act = record {
    comm = refl;
    sig = refl;
    own = refl;
    label = refl;
    elements =
        record { of_type = refl; number = one_number (stated_type sig) a b };
  };
}

pub broadcasts : (a b : ℤ) →
    DifferAsListed (gave 0 0 (Bcast 0 Int32 1) Plain alpha (a ∷ []) (Posted 0) ∷ [])
    (gave 0 0 (Bcast 0 Int32 1) Plain alpha (b ∷ []) (Posted 0) ∷ [])
unfolding is_want
broadcasts a b = record {
  calls = (another 0 0 (Bcast 0 Int32 1) Plain alpha a b (Posted 0), tt);
  first_memory =
      none_wanted (gave 0 0 (Bcast 0 Int32 1) Plain alpha (a ∷ []) (Posted 0) ∷ []) refl;
  second_memory =
      none_wanted (gave 0 0 (Bcast 0 Int32 1) Plain alpha (b ∷ []) (Posted 0) ∷ []) refl;
}

-- ## sums

sum_has_memory : (a c total : ℤ) →
    NobodyLacksMemory (run_of (called (summed a c total)) (replies_in (summed a c total)))
unfolding is_want
sum_has_memory a c total =
    none_wanted (run_of (called (summed a c total)) (replies_in (summed a c total))) refl

pub sums : (a b c total other : ℤ) → DifferAsListed (summed a c total) (summed b c other)
sums a b c total other = record {
  calls = (
    another 0 0 (Allreduce Sum Int32 1) Plain alpha a b (Posted 0),
    same_calls (called (drop 1 (summed a c total))),
  );
  first_memory = sum_has_memory a c total;
  second_memory = sum_has_memory b c other;
}

-- ## relays

relays_differ : (a b : ℤ) → AllZip SameCallButForValues (called (relayed a)) (called (relayed b))
relays_differ a b = in_front (called (take 12 (relayed a)))
    (called (drop 12 (relayed a)))
    (called (drop 12 (relayed b))) (
      another 0 1 (Bcast 0 Int32 1) Plain alpha a b (Posted 3),
      (
        same_self _,
        (
          same_self _,
          (
            same_self _,
            (
              another 3 2 (Bcast 1 Int32 1) Plain Public a b (Barred 4 Public),
              (
                same_self _,
                (
                  same_self _,
                  (
                    another 3 2 (Bcast 1 Int32 1) Plain alpha a b (Posted 5),
                    (
                      same_self _,
                      (
                        same_self _,
                        (
                          same_self _,
                          (
                            another 3 3 (Bcast 1 Int32 1) Plain alpha a b (Posted 6),
                            (
                              same_self _,
                              (
                                same_self _,
                                tt,
                              ),
                            ),
                          ),
                        ),
                      ),
                    ),
                  ),
                ),
              ),
            ),
          ),
        ),
      ),
    )

relay_has_memory : (a : ℤ) →
    NobodyLacksMemory (run_of (called (relayed a)) (replies_in (relayed a)))
unfolding is_want
relay_has_memory a = none_wanted (run_of (called (relayed a)) (replies_in (relayed a))) refl

pub relays : (a b : ℤ) → DifferAsListed (relayed a) (relayed b)
relays a b = record {
  calls = relays_differ a b;
  first_memory = relay_has_memory a;
  second_memory = relay_has_memory b;
}
