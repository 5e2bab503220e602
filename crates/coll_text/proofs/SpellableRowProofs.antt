-- The worked statements of `laws` that are spellable, by computation.
use Rattle.std.proofs.Common.{◌≡◌, ℕ, ◌≤◌, Bool, true, false, List, [], ◌∷◌, pos, negsuc, replicate}
use Rattle.std.proofs.Common.{Some, None, zero, suc, IfSome, unwrap_or, refl, arith}
use Rattle.std.specs.List.{AllByRecursion}
use Rattle.wall_labels.specs.declared.op.Op.TheVariants.{Sum, Maxloc}
use Rattle.mpi_elems.specs.declared.elem_type.ElemType.TheVariants.{Int8, Uint64, TwoInt}
use Rattle.coll_routes.specs.declared.signature.Signature.{Signature}
use Rattle.coll_routes.specs.declared.signature.Signature.TheVariants.{Barrier, Scatterv, Reduce}
use Rattle.coll_routes.specs.declared.signature.Signature.TheVariants.{ReduceScatter, Split, Create}
use Rattle.coll_routes.specs.declared.signature.Signature.TheVariants.{CartCreate, CartSub}
use Rattle.coll_routes.specs.declared.statement.Own.{Own}
use Rattle.coll_routes.specs.declared.statement.Own.TheVariants.{Plain, Counts}
use Rattle.coll_routes.specs.declared.statement.Own.TheVariants.{Split as SplitBy}
use Rattle.coll_routes.specs.Signatures.{kind, root, count, numbers}
use Rattle.coll_routes.specs.Owns.{is_own_of}
use Rattle.coll_routes.specs.Rolls.{counts_in}
use Rattle.coll_text.specs.Table.{colour_in, key_in}
use Rattle.coll_text.specs.Spellings.{IsSigned32, IsSpellable}

-- from the bounds of its numbers, and the form of what its poster states
spellable : (sig : Signature) (own : Own) →
    unwrap_or (root sig) 0 ≤ 4294967295 → unwrap_or (count sig) 0 ≤ 4294967295 →
    AllByRecursion (λ n. n ≤ 4294967295) (counts_in own) →
    AllByRecursion (λ n. n ≤ 4294967295) (numbers sig) →
    IfSome (colour_in own) IsSigned32 → IsSigned32 (key_in own) →
    is_own_of (kind sig) own ≡ true → IsSpellable sig own
spellable sig own low_root low_count low_counts low_list low_colour low_key of_kind = record {
  numbers = record {
    root = low_root;
    count = low_count;
    counts = low_counts;
    list = low_list;
    colour = low_colour;
    key = low_key;
  };
  form = of_kind;
}

same_numbers : (k n : ℕ) → n ≤ 4294967295 →
    AllByRecursion (λ m. m ≤ 4294967295) (replicate k n)
same_numbers zero n h = tt
same_numbers (suc k) n h = (h, same_numbers k n h)

pub barrier : IsSpellable Barrier Plain
unfolding kind root count numbers
barrier = spellable Barrier Plain (omega arith) (omega arith) tt tt tt (omega arith) refl

pub reduce : IsSpellable (Reduce 4294967295 Maxloc TwoInt 4294967295) Plain
unfolding kind root count numbers
reduce = spellable (Reduce 4294967295 Maxloc TwoInt 4294967295) Plain (omega arith) (omega arith)
    tt tt tt (omega arith) refl

pub scatter : IsSpellable (Scatterv 0 Int8) (Counts (0 ∷ 4294967295 ∷ []))
unfolding kind root count numbers
scatter = spellable (Scatterv 0 Int8) (Counts (0 ∷ 4294967295 ∷ [])) (omega arith) (omega arith)
    (omega arith, (omega arith, tt)) tt tt (omega arith) refl

pub counts : IsSpellable (Scatterv 4294967295 Uint64) (Counts (replicate 256 4294967295))
unfolding kind root count numbers
counts = spellable (Scatterv 4294967295 Uint64) (Counts (replicate 256 4294967295))
    (omega arith) (omega arith) (same_numbers 256 4294967295 (omega arith)) tt tt (omega arith) refl

pub blocks : IsSpellable (ReduceScatter Sum Uint64 (replicate 256 4294967295)) Plain
unfolding kind root count numbers
blocks = spellable (ReduceScatter Sum Uint64 (replicate 256 4294967295)) Plain
    (omega arith) (omega arith) tt (same_numbers 256 4294967295 (omega arith)) tt (omega arith) refl

pub group : IsSpellable (Create (0 ∷ 4294967295 ∷ [])) Plain
unfolding kind root count numbers
group = spellable (Create (0 ∷ 4294967295 ∷ [])) Plain (omega arith) (omega arith)
    tt (omega arith, (omega arith, tt)) tt (omega arith) refl

pub grid : IsSpellable (CartCreate (0 ∷ 4294967295 ∷ []) (true ∷ false ∷ [])) Plain
unfolding kind root count numbers
grid = spellable (CartCreate (0 ∷ 4294967295 ∷ []) (true ∷ false ∷ [])) Plain
    (omega arith) (omega arith) tt (omega arith, (omega arith, tt)) tt (omega arith) refl

pub lowest : IsSpellable Split (SplitBy (Some (negsuc 2147483647)) (pos 2147483647))
unfolding kind root count numbers
lowest = spellable Split (SplitBy (Some (negsuc 2147483647)) (pos 2147483647))
    (omega arith) (omega arith) tt tt (omega arith) (omega arith) refl

pub highest : IsSpellable Split (SplitBy (Some (pos 2147483647)) (negsuc 2147483647))
unfolding kind root count numbers
highest = spellable Split (SplitBy (Some (pos 2147483647)) (negsuc 2147483647))
    (omega arith) (omega arith) tt tt (omega arith) (omega arith) refl

pub uncoloured : IsSpellable Split (SplitBy None (pos 0))
unfolding kind root count numbers
uncoloured = spellable Split (SplitBy None (pos 0))
    (omega arith) (omega arith) tt tt tt (omega arith) refl

-- ## lists of any length

pub any_counts : (ns : List ℕ) → AllByRecursion (λ n. n ≤ 4294967295) ns →
    IsSpellable (Scatterv 0 Int8) (Counts ns)
unfolding kind root count numbers
any_counts ns h = spellable (Scatterv 0 Int8) (Counts ns) (omega arith) (omega arith)
    h tt tt (omega arith) refl

pub any_blocks : (ns : List ℕ) → AllByRecursion (λ n. n ≤ 4294967295) ns →
    IsSpellable (ReduceScatter Sum Int8 ns) Plain
unfolding kind root count numbers
any_blocks ns h = spellable (ReduceScatter Sum Int8 ns) Plain (omega arith) (omega arith)
    tt h tt (omega arith) refl

pub any_group : (ns : List ℕ) → AllByRecursion (λ n. n ≤ 4294967295) ns →
    IsSpellable (Create ns) Plain
unfolding kind root count numbers
any_group ns h = spellable (Create ns) Plain (omega arith) (omega arith) tt h tt (omega arith) refl

pub any_grid : (ns : List ℕ) (bs : List Bool) → AllByRecursion (λ n. n ≤ 4294967295) ns →
    IsSpellable (CartCreate ns bs) Plain
unfolding kind root count numbers
any_grid ns bs h = spellable (CartCreate ns bs) Plain (omega arith) (omega arith)
    tt h tt (omega arith) refl

pub any_parts : (bs : List Bool) → IsSpellable (CartSub bs) Plain
unfolding kind root count numbers
any_parts bs = spellable (CartSub bs) Plain (omega arith) (omega arith) tt tt tt (omega arith) refl
