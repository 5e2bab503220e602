-- Elements that are checked and not kept have the faults of those that are read.
use Rattle.std.proofs.Common.{◌≡◌, ℕ, suc, ◌%◌, Bool, true, false, not, ◌&&◌, cond, eqb, List, []}
use Rattle.std.proofs.Common.{◌∷◌, length, Result, Ok, Err, ℤ, refl, sym, subst, ◌∙◌}
use Rattle.std.specs.Prelude.{IsOk}
use Rattle.mpi_elems.specs.declared.elem_type.ElemType.{ElemType}
use Rattle.mpi_elems.specs.Types.{is_pair}
use Rattle.mpi_elems.specs.Elements.{elements_of}
use Rattle.mpi_elems.specs.Contents.{contents}
use Rattle.coll_text.specs.declared.fault.LineFault.{LineFault}
use Rattle.coll_text.specs.declared.fault.LineFault.TheVariants.{OddPair}
use Rattle.coll_text.specs.Numbers.{Word}
use Rattle.coll_text.specs.Reading.{◌>>=◌, Fails, each_of}
use Rattle.coll_text.specs.Checks.{checked}
use Rattle.coll_text.proofs.CollTextLemmas.{check_then, fails_before, is_said}
use Rattle.hall_script.specs.Lines.{value_of, buffer_of, values_of}
use Rattle.hall_script.specs.Checking.{paired, values_checked}

buffer_by : (ty : ElemType) (ns : List ℤ) (b : Bool) →
    checked (cond b (Err OddPair) (Ok (contents ty ns (length (elements_of ty ns)))))
    ≡ cond b (Err OddPair) (Ok tt)
buffer_by ty ns true = refl
buffer_by ty ns false = refl

buffer_checked : (ty : ElemType) (ns : List ℤ) → checked (buffer_of ty ns) ≡ paired ty (length ns)
unfolding buffer_of
buffer_checked ty ns = buffer_by ty ns (is_pair ty && not (eqb (length ns % 2) 0))

-- behind as many numbers as there are words
behind_numbers : (ty : ElemType) (prefix : ℕ → ℕ) (ws : List Word) →
    (each_of (value_of ty) ws >>= λ ns. paired ty (prefix (length ns)))
    ≡ (checked (each_of (value_of ty) ws) >>= λ u. paired ty (prefix (length ws)))
unfolding each_of
behind_numbers ty prefix [] = refl
behind_numbers ty prefix (w ∷ ws) =
    by_value (value_of ty w) (each_of (value_of ty) ws) (behind_numbers ty (λ n. prefix (suc n)) ws)
  where
    by_rest : (z : ℤ) (r : Result (List ℤ) LineFault) → (r
        >>= λ ns. paired ty (prefix (suc (length ns))))
        ≡ (checked r >>= λ u. paired ty (prefix (suc (length ws)))) →
        ((r >>= λ zs. Ok (z ∷ zs)) >>= λ ns. paired ty (prefix (length ns)))
        ≡ (checked (r >>= λ zs. Ok (z ∷ zs)) >>= λ u. paired ty (prefix (suc (length ws))))
    by_rest z (Ok zs) h = h
    by_rest z (Err e) h = refl

    by_value : (v : Result ℤ LineFault) (r : Result (List ℤ) LineFault) →
        (r >>= λ ns. paired ty (prefix (suc (length ns))))
        ≡ (checked r >>= λ u. paired ty (prefix (suc (length ws)))) →
        ((v >>= λ z. (r >>= λ zs. Ok (z ∷ zs))) >>= λ ns. paired ty (prefix (length ns)))
        ≡ (checked (v >>= λ z. (r >>= λ zs. Ok (z ∷ zs)))
        >>= λ u. paired ty (prefix (suc (length ws))))
    by_value (Ok z) r h = by_rest z r h
    by_value (Err e) r h = refl

values_told : (ty : ElemType) (ws : List Word) → checked (values_of ty ws) ≡ values_checked ty ws
unfolding values_of values_checked
values_told ty ws = check_then (each_of (value_of ty) ws) (λ ns. buffer_of ty ns)
    (λ ns. paired ty (length ns)) (buffer_checked ty) ∙ behind_numbers ty (λ n. n) ws

pub values_fail : (ty : ElemType) (ws : List Word) (e : LineFault) →
    Fails e (values_checked ty ws) → Fails e (values_of ty ws)
values_fail ty ws e h =
    fails_before e (values_of ty ws) (λ b. tt) (subst (Fails e) (sym (values_told ty ws)) h)

pub are_values : (ty : ElemType) (ws : List Word) → values_checked ty ws ≡ Ok tt →
    IsOk (values_of ty ws)
are_values ty ws h = is_said (values_of ty ws) (values_told ty ws ∙ h)
