-- The worked calls of `laws` that a line can say, by computation.
use Rattle.std.proofs.Common.{◌≡◌, ℕ, ◌≤◌, ℤ, pos, negsuc, List, [], ◌∷◌, replicate, true, Some}
use Rattle.std.proofs.Common.{None, unwrap_or, refl, arith}
use Rattle.std.specs.List.{list_all}
use Rattle.wall_labels.specs.declared.op.Op.TheVariants.{Maxloc}
use Rattle.wall_labels.specs.declared.label.Label.{Label}
use Rattle.wall_labels.specs.declared.label.Label.TheVariants.{Public, Of}
use Rattle.mpi_elems.specs.declared.elem_type.ElemType.TheVariants.{Int32, Int64, Uint64, TwoInt}
use Rattle.mpi_elems.specs.Numbers.{is_number_of}
use Rattle.mpi_elems.specs.Faults.{fault_of}
use Rattle.coll_routes.specs.declared.signature.Signature.{Signature}
use Rattle.coll_routes.specs.declared.signature.Signature.TheVariants.{Gather, Gatherv, Scatterv}
use Rattle.coll_routes.specs.declared.signature.Signature.TheVariants.{Reduce, Split}
use Rattle.coll_routes.specs.declared.statement.Own.{Own}
use Rattle.coll_routes.specs.declared.statement.Own.TheVariants.{Plain, Counts}
use Rattle.coll_routes.specs.declared.statement.Own.TheVariants.{Split as SplitBy}
use Rattle.coll_routes.specs.Signatures.{kind, root, count, numbers, elem_type}
use Rattle.coll_routes.specs.Owns.{is_own_of}
use Rattle.coll_routes.specs.Faults.{stated_type}
use Rattle.coll_text.specs.Spellings.{IsSpellable}
use Rattle.coll_text.proofs.SpellableRowProofs as statements
use Rattle.run_model.specs.Known.{IsKnownLabel}
use Rattle.run_model.specs.RunRows.{banks_and_oil}
use Rattle.hall_script.specs.Spellings.{given_words, IsSayableCall}
use Rattle.hall_core.specs.Claims.{to_take}
use Rattle.hall_script.specs.Spellings.{call_to_post, call_to_ask}

-- a post of a statement with a spelling
sayable : (p c : ℕ) (sig : Signature) (own : Own) (label : Label) (ns : List ℤ) →
    p ≤ 4294967295 → c ≤ 4294967295 → IsSpellable sig own → IsKnownLabel banks_and_oil label →
    fault_of (stated_type sig) ns ≡ None →
    (elem_type sig ≡ None → given_words banks_and_oil.dataset_names label ns ≡ []) →
    IsSayableCall banks_and_oil (call_to_post p c sig own label ns)
sayable p c sig own label ns low_p low_c statement known no_fault nothing = (
  low_p,
  record {
    comm = low_c;
    statement = statement;
    label = known;
    numbers = no_fault;
    elements = refl;
    nothing = nothing;
  },
)

-- a statement of a root, a count or neither
plain : (sig : Signature) → unwrap_or (root sig) 0 ≤ 4294967295 →
    unwrap_or (count sig) 0 ≤ 4294967295 → numbers sig ≡ [] → is_own_of (kind sig) Plain ≡ true →
    IsSpellable sig Plain
plain sig low_root low_count no_list of_kind = record {
  numbers = record {
    root = low_root;
    count = low_count;
    counts = tt;
    list = rw no_list tt;
    colour = tt;
    key = omega arith;
  };
  form = of_kind;
}

gathered : IsSpellable (Gather 4294967295 Int64 4294967295) Plain
unfolding kind root count numbers
gathered =
    plain (Gather 4294967295 Int64 4294967295) (omega arith) (omega arith) refl refl

gathered_freely : IsSpellable (Gatherv 0 Int32) Plain
unfolding kind root count numbers
gathered_freely = plain (Gatherv 0 Int32) (omega arith) (omega arith) refl refl

pub signed : IsSayableCall banks_and_oil (call_to_post 4294967295 4294967295
    (Gather 4294967295 Int64 4294967295) Plain (Of 3)
    (negsuc 9223372036854775807 ∷ pos 9223372036854775807 ∷ []))
unfolding elem_type is_number_of
signed = sayable 4294967295 4294967295 (Gather 4294967295 Int64 4294967295) Plain (Of 3)
    (negsuc 9223372036854775807 ∷ pos 9223372036854775807 ∷ []) (omega arith) (omega arith)
    gathered (omega arith) refl (λ none. absurd (cc none))

pub pairs : IsSayableCall banks_and_oil (call_to_post 4294967295 0
    (Reduce 4294967295 Maxloc TwoInt 4294967295) Plain Public
    (negsuc 2147483647 ∷ pos 2147483647 ∷ pos 2147483647 ∷ negsuc 2147483647 ∷ []))
unfolding elem_type is_number_of
pairs = sayable 4294967295 0 (Reduce 4294967295 Maxloc TwoInt 4294967295) Plain Public
    (negsuc 2147483647 ∷ pos 2147483647 ∷ pos 2147483647 ∷ negsuc 2147483647 ∷ [])
    (omega arith) (omega arith) statements.reduce tt refl (λ none. absurd (cc none))

pub counts : IsSayableCall banks_and_oil (call_to_post 0 4294967295
    (Scatterv 4294967295 Uint64) (Counts (replicate 256 4294967295)) (Of 0)
    (pos 0 ∷ pos 18446744073709551615 ∷ []))
unfolding elem_type is_number_of
counts = sayable 0 4294967295 (Scatterv 4294967295 Uint64) (Counts (replicate 256 4294967295))
    (Of 0) (pos 0 ∷ pos 18446744073709551615 ∷ []) (omega arith) (omega arith)
    statements.counts (omega arith) refl (λ none. absurd (cc none))

pub nothing : IsSayableCall banks_and_oil (call_to_post 4294967295 4294967295 Split
    (SplitBy (Some (negsuc 2147483647)) (pos 2147483647)) Public [])
unfolding elem_type
nothing = sayable 4294967295 4294967295 Split
    (SplitBy (Some (negsuc 2147483647)) (pos 2147483647)) Public [] (omega arith) (omega arith)
    statements.lowest tt refl (λ none. refl)

pub take : IsSayableCall banks_and_oil (to_take 4294967295 18446744073709551615)
take = (omega arith, omega arith)

pub info : IsSayableCall banks_and_oil (call_to_ask 4294967295 4294967295)
info = (omega arith, omega arith)

no_fault_of : (ns : List ℤ) → list_all (is_number_of Int32) ns ≡ true → fault_of Int32 ns ≡ None
no_fault_of ns h = rw h refl

pub posts_of_any_length : (ns : List ℤ) → list_all (is_number_of Int32) ns ≡ true →
    IsSayableCall banks_and_oil (call_to_post 0 0 (Gatherv 0 Int32) Plain (Of 0) ns)
unfolding elem_type
posts_of_any_length ns h = sayable 0 0 (Gatherv 0 Int32) Plain (Of 0) ns (omega arith) (omega arith)
    gathered_freely (omega arith) (no_fault_of ns h) (λ none. absurd (cc none))
